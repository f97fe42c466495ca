-- What further steps add to a tree that is made as they come.
use Rattle.std.proofs.Common.{◌≡◌, ℕ, ◌+◌, ◌<◌, ◌≤◌, ◌^◌, List, [], ◌∷◌, ◌++◌, length, take, drop, filter_map, refl, sym, ap, ◌∙◌, subst, arith, append-nil, Some, None, Bool, true, false, cond, nat_lt}
use Rattle.std.specs.Prelude.{⊤, All}
use Rattle.std.proofs.lemmas.List.{length-drop}
use Rattle.tree_model.specs.Tree.{Tree}
use Rattle.tree_model.specs.Events.{enter, leaf, exit, BuildsNode}
use Rattle.tree_rows.specs.declared.builder_event.BuilderEvent.{BuilderEvent}
use Rattle.tree_rows.specs.declared.builder_event.BuilderEvent.TheVariants as event
use Rattle.tree_rows.specs.Builder.{TextsFit, IsOneTree}
use Rattle.tree_rows.specs.Builder as builder
use Rattle.tree_rows.specs.Making.{Making, after_step, run, nothing_made, MadeOf}
use Rattle.tree_rows.specs.Run.{text_len}
use Rattle.tree_rows.specs.Heads.{head, step_of}
use Rattle.syntax_kind.specs.declared.syntax_kind.SyntaxKind.{SyntaxKind}
use Rattle.ras_front_end.specs.ErrorModel.{ErrorModel, LiesIn, fault_at}
use Rattle.ras_front_end.specs.Reading.{FrontStep, begins, takes, ends, reports, Reading, front_event, events_from, Cuts, step_faults, stored_faults}
use Rattle.ras_front_end.specs.Keeps.{Keeps}
use Rattle.ras_front_end.specs.Parsed.{IsParseOf, ErrorsLieIn}
use Rattle.ras_parsing.specs.Sinks.{AreOf, started}
use Rattle.ras_parsing.proofs.TreeTexts.{built_text}

-- ---- steps, one after another

events_append : (es : List FrontStep) (s : FrontStep) (e : BuilderEvent) → front_event s ≡ Some e → filter_map front_event (es ++ s ∷ []) ≡ filter_map front_event es ++ e ∷ []
events_append [] (begins k) e is = (let same : event.Enter k ≡ e = cc in ap (λ x. x ∷ []) same)
events_append [] (takes k n) e is = (let same : event.Token k n ≡ e = cc in ap (λ x. x ∷ []) same)
events_append [] ends e is = (let same : event.Exit ≡ e = cc in ap (λ x. x ∷ []) same)
events_append [] (reports m p) e is = (let no : None ≡ Some e = is in cc)
events_append (begins k ∷ es) s e is = ap (λ l. event.Enter k ∷ l) (events_append es s e is)
events_append (takes k n ∷ es) s e is = ap (λ l. event.Token k n ∷ l) (events_append es s e is)
events_append (ends ∷ es) s e is = ap (λ l. event.Exit ∷ l) (events_append es s e is)
events_append (reports m p ∷ es) s e is = events_append es s e is

events_still : (es : List FrontStep) (m : List ℕ) (p : ℕ) → filter_map front_event (es ++ reports m p ∷ []) ≡ filter_map front_event es
events_still [] m p = refl
events_still (begins k ∷ es) m p = ap (λ l. event.Enter k ∷ l) (events_still es m p)
events_still (takes k n ∷ es) m p = ap (λ l. event.Token k n ∷ l) (events_still es m p)
events_still (ends ∷ es) m p = ap (λ l. event.Exit ∷ l) (events_still es m p)
events_still (reports x y ∷ es) m p = events_still es m p

faults_append : (es fs : List FrontStep) → step_faults (es ++ fs) ≡ step_faults es ++ step_faults fs
faults_append [] fs = refl
faults_append (begins k ∷ es) fs = faults_append es fs
faults_append (takes k n ∷ es) fs = faults_append es fs
faults_append (ends ∷ es) fs = faults_append es fs
faults_append (reports m p ∷ es) fs = ap (λ l. fault_at m p ∷ l) (faults_append es fs)

no_fault : (s : FrontStep) (e : BuilderEvent) → front_event s ≡ Some e → step_faults (s ∷ []) ≡ []
no_fault (begins k) e is = refl
no_fault (takes k n) e is = refl
no_fault ends e is = refl
no_fault (reports m p) e is = (let no : None ≡ Some e = is in cc)

run_append : (es : List BuilderEvent) (e : BuilderEvent) (m : Making) → run (es ++ e ∷ []) m ≡ after_step e (run es m)
run_append [] e m = refl
run_append (x ∷ es) e m = run_append es e (after_step x m)

len_append : (es fs : List BuilderEvent) → text_len (es ++ fs) ≡ text_len es + text_len fs
len_append [] fs = omega arith
len_append (event.Enter k ∷ es) fs = len_append es fs
len_append (event.Token k n ∷ es) fs = omega (arith, len_append es fs)
len_append (event.Exit ∷ es) fs = len_append es fs

cond_at : (b : Bool) (x m : Making) → x.at ≡ m.at → (cond b x m).at ≡ m.at
cond_at true x m e = e
cond_at false x m e = refl

exit_at : (m : Making) → (after_step event.Exit m).at ≡ m.at
exit_at m = cond_at (nat_lt m.innermost (length m.kept.rows)) _ m refl

run_at : (es : List BuilderEvent) (m : Making) → (run es m).at ≡ m.at + text_len es
run_at [] m = omega arith
run_at (event.Enter k ∷ es) m = run_at es (after_step (event.Enter k) m)
run_at (event.Token k n ∷ es) m = omega (arith, run_at es (after_step (event.Token k n) m))
run_at (event.Exit ∷ es) m = omega (arith, run_at es (after_step event.Exit m), exit_at m)

pub step_added : (m m' : Making) (errors : List ErrorModel) (es : List FrontStep) (s : FrontStep) (e : BuilderEvent) → front_event s ≡ Some e
    → (m.at + text_len (e ∷ []) < 2 ^ 32 → m' ≡ after_step e m) → AreOf m errors es → AreOf m' errors (es ++ s ∷ [])
step_added m m' errors es s e is next a = record {
  rows = λ short.
      let both = events_append es s e is in
      let len : text_len (filter_map front_event es) + text_len (e ∷ []) < 2 ^ 32 =
      omega (arith, short, ap text_len both, len_append (filter_map front_event es) (e ∷ [])) in
      let before : run (filter_map front_event es) nothing_made ≡ m = a.rows (omega (arith, len)) in
      let at : m.at ≡ text_len (filter_map front_event es) = omega (arith, ap (λ (x : Making). x.at) before, run_at (filter_map front_event es) nothing_made) in
      ap (λ l. run l nothing_made) both ∙ run_append (filter_map front_event es) e nothing_made ∙ ap (after_step e) before ∙ sym (next (omega (arith, at, len)));
  errors_are = a.errors_are ∙ sym (append-nil (step_faults es)) ∙ ap (λ l. step_faults es ++ l) (sym (no_fault s e is)) ∙ sym (faults_append es (s ∷ []));
}

pub started_event : (k : SyntaxKind) (t : Bool) (n : ℕ) → front_event (started k t n) ≡ Some (step_of (head k t) n)
started_event k true n = refl
started_event k false n = refl

pub fault_added : (m : Making) (errors errors' : List ErrorModel) (es : List FrontStep) (t : List ℕ) (p : ℕ) → errors' ≡ errors ++ fault_at t p ∷ []
    → AreOf m errors es → AreOf m errors' (es ++ reports t p ∷ [])
fault_added m errors errors' es t p is a = record {
  rows = λ short.
      let same = events_still es t p in
      ap (λ l. run l nothing_made) same ∙ a.rows (omega (arith, short, ap text_len same));
  errors_are = is ∙ ap (λ l. l ++ fault_at t p ∷ []) a.errors_are ∙ sym (faults_append es (reports t p ∷ []));
}

pub none_taken : AreOf nothing_made [] []
none_taken = record { rows = λ short. refl; errors_are = refl }

-- ---- the tree of all steps

events_same : (ss : List FrontStep) (s : List ℕ) → builder.events_from (filter_map front_event ss) s ≡ events_from ss s
events_same [] s = refl
events_same (begins k ∷ ss) s = ap (λ l. enter k ∷ l) (events_same ss s)
events_same (takes k n ∷ ss) s = ap (λ l. leaf k (take n s) ∷ l) (events_same ss (drop n s))
events_same (ends ∷ ss) s = ap (λ l. exit ∷ l) (events_same ss s)
events_same (reports m p ∷ ss) s = events_same ss s

texts_fit : (ss : List FrontStep) (s : List ℕ) → Cuts ss s → TextsFit (filter_map front_event ss) s
texts_fit [] s h = h
texts_fit (begins k ∷ ss) s h = texts_fit ss s h
texts_fit (takes k n ∷ ss) s h = (h.0, h.1, texts_fit ss (drop n s) h.2)
texts_fit (ends ∷ ss) s h = texts_fit ss s h
texts_fit (reports m p ∷ ss) s h = texts_fit ss s h

fit_len : (es : List BuilderEvent) (s : List ℕ) → TextsFit es s → text_len es ≤ length s
fit_len [] s h = omega arith
fit_len (event.Enter k ∷ es) s h = fit_len es s h
fit_len (event.Token k n ∷ es) s h = omega (arith, fit_len es (drop n s) h.2, length-drop n s, h.0)
fit_len (event.Exit ∷ es) s h = fit_len es s h

module _ (input : List ℕ) (r : Reading) (k : Keeps (λ root. ⊤) input r) (short : length input < 2 ^ 32) (m : Making) (faults : List ErrorModel) (a : AreOf m faults r.steps) where
  pub made_rows : run (filter_map front_event r.steps) nothing_made ≡ m
  made_rows = a.rows (omega (arith, fit_len (filter_map front_event r.steps) input (texts_fit r.steps input k.cuts), short))

  pub one_tree : IsOneTree (filter_map front_event r.steps) input
  one_tree = record {
    tree = k.tree;
    fits = texts_fit r.steps input k.cuts;
    builds = subst (λ l. BuildsNode l k.tree) (sym (events_same r.steps input)) k.builds;
  }

  pub made_of : MadeOf input m
  made_of = record { steps = filter_map front_event r.steps; made = made_rows; one_tree = one_tree }

  pub parse_of : (t : Tree) (errors : List ErrorModel) → BuildsNode (builder.events_from (filter_map front_event r.steps) input) t → errors ≡ faults ++ r.errors
      → IsParseOf input r (record { tree = t; errors = errors }) × ErrorsLieIn (record { tree = t; errors = errors })
  parse_of t errors b is =
      let builds = subst (λ l. BuildsNode l t) (events_same r.steps input) b in
      let same = built_text r.steps input t k.cuts builds in
      let complete : errors ≡ stored_faults r = is ∙ ap (λ l. l ++ r.errors) a.errors_are in (
        record { builds = builds; text_is = same; errors_are = complete },
        subst (λ n. All (LiesIn n) errors) (ap length (sym same)) (subst (λ l. All (LiesIn (length input)) l) (sym complete) k.in_text),
      )
