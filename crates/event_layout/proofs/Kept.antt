-- A tree that is laid out, and errors, keep the law of front ends.
use Rattle.std.proofs.Common.{◌≡◌, ℕ, ◌≤◌, List, [], ◌∷◌, ◌++◌, length, take, drop, map, ap, sym, ◌∙◌, refl, arith, subst}
use Rattle.std.specs.Prelude.{All}
use Rattle.std.proofs.lemmas.List.Elements.{All-append, All-cons, All-nil, All-head, All-tail}
use Rattle.syntax_kind.specs.declared.syntax_kind.SyntaxKind.{SyntaxKind}
use Rattle.tree_model.specs.Events.{BuildsNode, enter, leaf, exit}
use Rattle.ras_front_end.specs.ErrorModel.{ErrorModel, LiesIn, fault_at}
use Rattle.ras_front_end.specs.Reading.{FrontStep, begins, takes, ends, reports, events_from, Cuts, step_faults}
use Rattle.ras_front_end.specs.Keeps.{Keeps}
use Rattle.token_layout.specs.Laid.{Laid}
use Rattle.token_layout.specs.Report.{report_by}

reports_cut : {A : Type 0} (say : A → List ℕ × ℕ) (fs : List A) (s : List ℕ) → s ≡ [] → Cuts (map (report_by say) fs) s
reports_cut say [] s h = h
reports_cut say (f ∷ fs) s h = reports_cut say fs s h

reported_cut : {A : Type 0} (say : A → List ℕ × ℕ) (fs : List A) (es : List FrontStep) (s : List ℕ) → Cuts es s → Cuts (es ++ map (report_by say) fs) s
reported_cut say fs [] s h = reports_cut say fs s h
reported_cut say fs (begins k ∷ es) s h = reported_cut say fs es s h
reported_cut say fs (takes k n ∷ es) s h = (h.0, h.1, reported_cut say fs es (drop n s) h.2)
reported_cut say fs (ends ∷ es) s h = reported_cut say fs es s h
reported_cut say fs (reports m p ∷ es) s h = reported_cut say fs es s h

reports_events : {A : Type 0} (say : A → List ℕ × ℕ) (fs : List A) (s : List ℕ) → events_from (map (report_by say) fs) s ≡ []
reports_events say [] s = refl
reports_events say (f ∷ fs) s = reports_events say fs s

reported_events : {A : Type 0} (say : A → List ℕ × ℕ) (fs : List A) (es : List FrontStep) (s : List ℕ) → events_from (es ++ map (report_by say) fs) s ≡ events_from es s
reported_events say fs [] s = reports_events say fs s
reported_events say fs (begins k ∷ es) s = ap (λ l. enter k ∷ l) (reported_events say fs es s)
reported_events say fs (takes k n ∷ es) s = ap (λ l. leaf k (take n s) ∷ l) (reported_events say fs es (drop n s))
reported_events say fs (ends ∷ es) s = ap (λ l. exit ∷ l) (reported_events say fs es s)
reported_events say fs (reports m p ∷ es) s = reported_events say fs es s

faults_both : (es ds : List FrontStep) → step_faults (es ++ ds) ≡ step_faults es ++ step_faults ds
faults_both [] ds = refl
faults_both (begins k ∷ es) ds = faults_both es ds
faults_both (takes k n ∷ es) ds = faults_both es ds
faults_both (ends ∷ es) ds = faults_both es ds
faults_both (reports m p ∷ es) ds = ap (λ l. fault_at m p ∷ l) (faults_both es ds)

reports_lie : {A : Type 0} (say : A → List ℕ × ℕ) (n : ℕ) (fs : List A) → All (λ f. (say f).1 ≤ n) fs → All (LiesIn n) (step_faults (map (report_by say) fs))
reports_lie say n [] h = All-nil (LiesIn n)
reports_lie say n (f ∷ fs) h =
    let own = All-head (λ f. (say f).1 ≤ n) f fs h in
    let one : LiesIn n (fault_at (say f).0 (say f).1) = record { forwards = omega arith; within = own } in
    All-cons (LiesIn n) (fault_at (say f).0 (say f).1) (step_faults (map (report_by say) fs)) one (reports_lie say n fs (All-tail (λ f. (say f).1 ≤ n) f fs h))

-- the steps of one tree, after them the parser's errors, and the lexer's errors: if all lie in the
-- text, and the root is a right one
pub kept : {A : Type 0} (say : A → List ℕ × ℕ) (is_root : SyntaxKind → Type 0) (root : SyntaxKind) (fs : List A) (errors : List ErrorModel) (text : List ℕ) (es : List FrontStep)
    → is_root root → Laid root text es → All (λ f. (say f).1 ≤ length text) fs → All (LiesIn (length text)) errors → Keeps is_root text (record { steps = es ++ map (report_by say) fs; errors = errors })
kept say is_root root fs errors text es h y lie inside =
    let faults_are : step_faults (es ++ map (report_by say) fs) ≡ step_faults (map (report_by say) fs) = faults_both es (map (report_by say) fs) ∙ ap (λ l. l ++ step_faults (map (report_by say) fs)) y.no_faults in
    let told : All (LiesIn (length text)) (step_faults (es ++ map (report_by say) fs)) = subst (All (LiesIn (length text))) (sym faults_are) (reports_lie say (length text) fs lie) in
    record {
      tree = y.tree;
      cuts = reported_cut say fs es text y.cuts;
      builds = subst (λ l. BuildsNode l y.tree) (sym (reported_events say fs es text)) y.builds;
      root = subst is_root (sym y.root_is) h;
      in_text = All-append (LiesIn (length text)) (step_faults (es ++ map (report_by say) fs)) errors told inside;
    }
