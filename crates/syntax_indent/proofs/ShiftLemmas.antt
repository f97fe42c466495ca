-- What the walk of a tree adds after a shift is the shifted tree.
use Rattle.std.proofs.Common.{◌≡◌, ◌≤◌, ◌<◌, ◌^◌, ℕ, List, [], ◌∷◌, ◌++◌, map, length, refl, sym, ap, subst, ◌∙◌, arith, append_assoc, append-nil, Bool, inl, inr, ⊎_elim}
use Rattle.std.specs.Prelude.{Result, Ok, Err, IfOk, OnOk, IfErr, if◌then◌else◌, encode_utf8, encode_utf8_all, IsUtf8}
use Rattle.std.specs.Str.{chars}
use Rattle.std.proofs.lemmas.Bool.{cases_Bool, cases_lt}
use Rattle.std.proofs.lemmas.List.{map-append}
use Rattle.std.proofs.lemmas.Str.{chars_past_char, chars-nil, encodes-append}
use Rattle.syntax_kind.specs.Kinds.{is_same_kind}
use Rattle.syntax_kind.specs.declared.syntax_kind.TheConstants.SyntaxKind.{WHITESPACE}
use Rattle.tree_model.specs.Tree.{Tree, node, token, Forest, nil, cons, text, IsNode}
use Rattle.tree_model.specs.Cursor.{Cursor, focus, walk_of, IsRoot}
use Rattle.tree_model.specs.Edit.{root_of}
use Rattle.tree_model.specs.Events.{Event, enter, leaf, exit, events_of, Builds, BuildsNode, IsAccepted, IsFirstRefusal, refusal_number, text_len}
use Rattle.tree_model.specs.declared.error.FinishError.{FinishError}
use Rattle.tree_model.specs.declared.error.FinishError.TheVariants.{TooLong, OverClosed, Unclosed, Empty, ManyRoots, TokenRoot, ErrorPastText, Memory}
use Rattle.tree_model.proofs.Balance.{builds-events_of, builds_one}
use Rattle.tree_model.proofs.Refusals.{none_holds, built_len}
use Rattle.tree_edits.specs.Walked.{step_events}
use Rattle.tree_edits.proofs.WalkLemmas.{plain, plain-walk_of, plain-step, plain-end}
use Rattle.syntax_indent.specs.declared.shift.Shift.{Shift}
use Rattle.syntax_indent.specs.Shifted.{kept, left_after, without_blanks, shifted_space, shifted_text, shifted_forest, shifted, shifted_event, IsNotMade}
use Rattle.syntax_indent.specs.Others.{other_tokens, OtherTokensStay}

-- ---- the events of a shifted forest

events_shifted : (s : Shift) (f : Forest) → map (shifted_event s) (events_of f) ≡ events_of (shifted_forest s f)
events_shifted s nil = refl
events_shifted s (cons (token k t) r) = ap (λ l. leaf k (shifted_text s k t) ∷ l) (events_shifted s r)
events_shifted s (cons (node k c) r) =
    ap (λ l. enter k ∷ l) (map-append (shifted_event s) (events_of c) (exit ∷ events_of r))
    ∙ ap (λ l. enter k ∷ (l ++ exit ∷ map (shifted_event s) (events_of r))) (events_shifted s c)
    ∙ ap (λ l. enter k ∷ (events_of (shifted_forest s c) ++ exit ∷ l)) (events_shifted s r)

one_shifted : (s : Shift) (t : Tree) → shifted_forest s (cons t nil) ≡ cons (shifted s t) nil
one_shifted s (token k t) = refl
one_shifted s (node k c) = refl

-- the whole walk adds the shifted tree
pub whole_walk : (s : Shift) (c : Cursor) → map (shifted_event s) (plain (walk_of c)) ≡ events_of (cons (shifted s (focus c)) nil)
whole_walk s c = ap (map (shifted_event s)) (plain-walk_of c) ∙ events_shifted s (cons (focus c) nil) ∙ ap events_of (one_shifted s (focus c))

pub walk-step : (s : Shift) (out new whole : List Event) (b : Bool) (d : Cursor) (w rest : List (Bool × Cursor)) → w ≡ (b, d) ∷ rest
    → new ≡ out ++ map (shifted_event s) (step_events (focus d) b) → out ++ map (shifted_event s) (plain w) ≡ whole → new ++ map (shifted_event s) (plain rest) ≡ whole
walk-step s out new whole b d w rest is added h =
    ap (λ l. l ++ map (shifted_event s) (plain rest)) added
    ∙ append_assoc out (map (shifted_event s) (step_events (focus d) b)) (map (shifted_event s) (plain rest))
    ∙ ap (λ l. out ++ l) (sym (map-append (shifted_event s) (step_events (focus d) b) (plain rest)))
    ∙ ap (λ l. out ++ map (shifted_event s) l) (plain-step [] (step_events (focus d) b) (plain w) b d w rest is refl refl)
    ∙ h

pub walk-end : (s : Shift) (out whole : List Event) (w : List (Bool × Cursor)) → w ≡ [] → out ++ map (shifted_event s) (plain w) ≡ whole → out ≡ whole
walk-end s out whole w is h = sym (append-nil out) ∙ ap (λ l. out ++ map (shifted_event s) l) (plain-end [] (plain w) w is refl) ∙ h

-- ---- the tree that the events build

shifted_node : (s : Shift) (t : Tree) → IsNode t → IsNode (shifted s t)
shifted_node s (token k t) h = absurd h
shifted_node s (node k c) h = h

builds_shifted : (s : Shift) (t : Tree) (es : List Event) → IsNode t → es ≡ events_of (cons (shifted s t) nil) → BuildsNode es (shifted s t)
builds_shifted s t es is e = subst (λ l. BuildsNode l (shifted s t)) (sym e) (builds-events_of (cons (shifted s t) nil), shifted_node s t is)

same_one : (t u : Tree) → cons t nil ≡ cons u nil → t ≡ u
same_one t u e = cc

built : (s : Shift) (t : Tree) (root : Cursor) (es : List Event) → es ≡ events_of (cons (shifted s t) nil) → BuildsNode es root.tree → root.place ≡ [] → root ≡ record { tree = shifted s t; place = [] }
built s t root es e b is =
    let same : root.tree ≡ shifted s t = same_one root.tree (shifted s t) (builds_one (b.0) (subst (λ l. Builds l (cons (shifted s t) nil)) (sym e) (builds-events_of (cons (shifted s t) nil)))) in
    ap (λ x. record { tree = x; place = root.place }) same ∙ ap (λ p. record { tree = shifted s t; place = p }) is

is_short : (s : Shift) (t : Tree) (es : List Event) → IsNode t → es ≡ events_of (cons (shifted s t) nil) → IsAccepted es → length (text (shifted s t)) < 2 ^ 32
is_short s t es is e w = subst (λ n. n < 2 ^ 32) (built_len es (shifted s t) (builds_shifted s t es is e)) w.short

-- ---- white space without blanks

pub dedent-step : (out new whole bs rest : List ℕ) (c count left after : ℕ) → IsUtf8 bs → bs ≡ encode_utf8 c ++ rest → after ≡ left_after count left c
    → new ≡ out ++ encode_utf8_all (kept left c) → out ++ encode_utf8_all (without_blanks count left (chars bs)) ≡ whole
    → new ++ encode_utf8_all (without_blanks count after (chars rest)) ≡ whole
dedent-step out new whole bs rest c count left after u is behind added h =
    ap (λ l. l ++ encode_utf8_all (without_blanks count after (chars rest))) added
    ∙ append_assoc out (encode_utf8_all (kept left c)) (encode_utf8_all (without_blanks count after (chars rest)))
    ∙ ap (λ n. out ++ (encode_utf8_all (kept left c) ++ encode_utf8_all (without_blanks count n (chars rest)))) behind
    ∙ ap (λ l. out ++ l) (sym (encodes-append (kept left c) (without_blanks count (left_after count left c) (chars rest))))
    ∙ ap (λ cs. out ++ encode_utf8_all (without_blanks count left cs)) (sym (chars_past_char bs rest c u is))
    ∙ h

pub dedent-end : (out whole bs : List ℕ) (count left : ℕ) → length bs ≡ 0 → out ++ encode_utf8_all (without_blanks count left (chars bs)) ≡ whole → out ≡ whole
dedent-end out whole [] count left e h = sym (append-nil out) ∙ ap (λ cs. out ++ encode_utf8_all (without_blanks count left cs)) (sym chars-nil) ∙ h
dedent-end out whole (b ∷ bs) count left e h = absurd (omega (arith, e))

-- ---- other tokens

pub other_tokens_stay : OtherTokensStay
other_tokens_stay s nil = refl
other_tokens_stay s (cons (node k c) r) = ap (λ l. l ++ other_tokens (shifted_forest s r)) (other_tokens_stay s c) ∙ ap (λ l. other_tokens c ++ l) (other_tokens_stay s r)
other_tokens_stay s (cons (token k t) r) = elim (cases_Bool (is_same_kind k WHITESPACE)) [
  | inl space ↦
      ap (λ b. if b then other_tokens (shifted_forest s r) else ((k, shifted_text s k t) ∷ other_tokens (shifted_forest s r))) space
      ∙ other_tokens_stay s r
      ∙ sym (ap (λ b. if b then other_tokens r else ((k, t) ∷ other_tokens r)) space)
  | inr other ↦
      ap (λ b. if b then other_tokens (shifted_forest s r) else ((k, shifted_text s k t) ∷ other_tokens (shifted_forest s r))) other
      ∙ ap (λ b. (k, if b then shifted_space s t else t) ∷ other_tokens (shifted_forest s r)) other
      ∙ ap (λ l. (k, t) ∷ l) (other_tokens_stay s r)
      ∙ sym (ap (λ b. if b then other_tokens r else ((k, t) ∷ other_tokens r)) other)
]

-- ---- why a tree is not made

not_long : (es : List Event) (e : FinishError) → 1 < refusal_number e → IsFirstRefusal es e → text_len es < 2 ^ 32
not_long es e later w = ⊎_elim (λ lt. lt) (λ ge. absurd (w.first TooLong later ge)) (cases_lt (text_len es) (2 ^ 32))

no_other : (es : List Event) (t : Tree) (e : FinishError) → BuildsNode es t → 1 < refusal_number e → refusal_number e < 8 → IsFirstRefusal es e → ⊥
no_other es t e b later named w = none_holds es (record { short = not_long es e later w; root = t; builds = b }) e named w.holds

refused_by : (es : List Event) (t : Tree) (e : FinishError) → BuildsNode es t → IsFirstRefusal es e → IsNotMade t e
refused_by es t TooLong b w = subst (λ n. 2 ^ 32 ≤ n) (built_len es t b) w.holds
refused_by es t OverClosed b w = no_other es t OverClosed b (omega arith) (omega arith) w
refused_by es t Unclosed b w = no_other es t Unclosed b (omega arith) (omega arith) w
refused_by es t Empty b w = no_other es t Empty b (omega arith) (omega arith) w
refused_by es t ManyRoots b w = no_other es t ManyRoots b (omega arith) (omega arith) w
refused_by es t TokenRoot b w = no_other es t TokenRoot b (omega arith) (omega arith) w
refused_by es t ErrorPastText b w = no_other es t ErrorPastText b (omega arith) (omega arith) w
refused_by es t Memory b w = tt

not_made : (s : Shift) (t : Tree) (es : List Event) (e : FinishError) → IsNode t → es ≡ events_of (cons (shifted s t) nil) → IsFirstRefusal es e → IsNotMade (shifted s t) e
not_made s t es e is is_es w = refused_by es (shifted s t) e (builds_shifted s t es is is_es) w

-- ---- what `finish` answers

pub ok_of : (s : Shift) (t : Tree) (es : List Event) (r : Result Cursor FinishError) → es ≡ events_of (cons (shifted s t) nil) → IfOk r (λ root. BuildsNode es root.tree × IsRoot root) → IfOk r (λ new. new ≡ root_of (shifted s t))
ok_of s t es (Ok root) e h = built s t root es e h.0 h.1
ok_of s t es (Err x) e h = h

pub short_of : (s : Shift) (t : Tree) (es : List Event) (r : Result Cursor FinishError) → IsNode t → es ≡ events_of (cons (shifted s t) nil) → OnOk r (IsAccepted es) → OnOk r (length (text (shifted s t)) < 2 ^ 32)
short_of s t es (Ok root) is e h = is_short s t es is e h
short_of s t es (Err x) is e h = h

pub refused_of : (s : Shift) (t : Tree) (es : List Event) (r : Result Cursor FinishError) → IsNode t → es ≡ events_of (cons (shifted s t) nil) → IfErr r (IsFirstRefusal es) → IfErr r (IsNotMade (shifted s t))
refused_of s t es (Ok root) is e h = h
refused_of s t es (Err x) is e h = not_made s t es x is e h
