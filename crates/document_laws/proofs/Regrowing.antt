-- The tree of a text in which one token was given another text.
use Rattle.std.proofs.Common.{◌≡◌, ℕ, ◌+◌, ◌<◌, ◌≤◌, List, ◌∷◌, ◌++◌, length, take, drop, ap, ◌∙◌, sym, subst, arith}
use Rattle.std.proofs.lemmas.List.{take-append-drop, length-take-le, length-drop}
use Rattle.syntax_kind.specs.declared.syntax_kind.SyntaxKind.{SyntaxKind}
use Rattle.tree_model.specs.Tree.{Tree, token, Place, IsPlace, kind_of, text, subtree, start}
use Rattle.tree_model.specs.Edit.{replace}
use Rattle.tree_model.specs.Events.{BuildsNode}
use Rattle.ras_front_end.specs.Reading.{FrontStep, takes, events_from, Cuts}
use Rattle.event_layout.specs.Filled.{bytes_taken}
use Rattle.document_laws.specs.Leaves.{IsLeafBehind, HasByte}
use Rattle.document_laws.proofs.Leaves.{leaves_at, one_token}
use Rattle.document_laws.proofs.Leaving.{bytes_both}
use Rattle.document_laws.proofs.Taking.{cuts_all}
use Rattle.document_laws.proofs.Textual.{same_front, same_back}

-- ---- the bytes of a step

record PartsOf (s : List ℕ) (from count : ℕ) : Type 0 where
  before : List ℕ
  part : List ℕ
  behind : List ℕ
  is : s ≡ before ++ (part ++ behind)
  starts : length before ≡ from
  long : length part ≡ count

parts_of : (s : List ℕ) (from count : ℕ) → from + count ≤ length s → PartsOf s from count
parts_of s from count h =
    let rest : List ℕ = drop from s in
    record {
      before = take from s;
      part = take count rest;
      behind = drop count rest;
      is = sym (take-append-drop from s) ∙ ap (λ (z : List ℕ). take from s ++ z) (sym (take-append-drop count rest));
      starts = length-take-le from s (omega (arith, h));
      long = length-take-le count rest (omega (arith, h, length-drop from s));
    }

token_text : (k l : SyntaxKind) (s r : List ℕ) → token k s ≡ token l r → s ≡ r
token_text k l s r h = ap text h

token_kind : (k l : SyntaxKind) (s r : List ℕ) → token k s ≡ token l r → k ≡ l
token_kind k l s r h = ap kind_of h

-- ---- the token is the step's

-- the token with the text in the middle is that of the step, so the step takes just this text
pub retold_tree : (x old new y : List ℕ) (steps new_steps before behind : List FrontStep) (leaf k : SyntaxKind) (ahead after : ℕ) (t : Tree) (p : Place)
    → steps ≡ before ++ takes leaf (ahead + (length old + after)) ∷ behind
    → new_steps ≡ before ++ takes leaf (ahead + (length new + after)) ∷ behind
    → bytes_taken before + ahead ≡ length x
    → Cuts steps (x ++ (old ++ y)) → BuildsNode (events_from steps (x ++ (old ++ y))) t
    → IsPlace t p → subtree t p ≡ token k old → start t p ≡ length x → 0 < length old
    → BuildsNode (events_from new_steps (x ++ (new ++ y))) (replace t p (token k new))
retold_tree x old new y steps new_steps before behind leaf k ahead after t p is new_is starts cuts built at sub here some =
    let s : List ℕ = x ++ (old ++ y) in
    let n : ℕ = ahead + (length old + after) in
    let whole : bytes_taken steps ≡ length s = cuts_all steps s cuts in
    let sum : bytes_taken steps ≡ bytes_taken before + (n + bytes_taken behind) = ap bytes_taken is ∙ bytes_both before (takes leaf n ∷ behind) in
    let v : PartsOf s (bytes_taken before) n = parts_of s (bytes_taken before) n (omega (arith, whole, sum)) in
    let built_parts : BuildsNode (events_from (before ++ takes leaf (length v.part) ∷ behind) (v.before ++ (v.part ++ v.behind))) t =
    subst (λ (m : ℕ). BuildsNode (events_from (before ++ takes leaf m ∷ behind) (v.before ++ (v.part ++ v.behind))) t) (sym v.long)
    (subst (λ (z : List ℕ). BuildsNode (events_from (before ++ takes leaf n ∷ behind) z) t) v.is
    (subst (λ (xs : List FrontStep). BuildsNode (events_from xs s) t) is built)) in
    let w : IsLeafBehind v.before v.behind before behind leaf v.part t = leaves_at v.before v.part v.behind before behind leaf t (sym v.starts) built_parts in
    let own : HasByte t w.place (length x) = record {
      is_place = w.is_place;
      kind = leaf;
      its_text = v.part;
      is = w.is_old;
      begun = omega (arith, w.starts, v.starts, starts);
      ended = omega (arith, w.starts, v.starts, starts, v.long, some);
    } in
    let other : HasByte t p (length x) = record {
      is_place = at;
      kind = k;
      its_text = old;
      is = sub;
      begun = omega (arith, here);
      ended = omega (arith, here, some);
    } in
    let same : w.place ≡ p = one_token t w.place p (length x) own other in
    let tokens : token leaf v.part ≡ token k old = sym w.is_old ∙ ap (subtree t) same ∙ sub in
    let part_is : v.part ≡ old = token_text leaf k v.part old tokens in
    let kind_is : leaf ≡ k = token_kind leaf k v.part old tokens in
    let front : length v.before ≡ length x = sym w.starts ∙ ap (start t) same ∙ here in
    let no_more : n ≡ length old = sym v.long ∙ ap length part_is in
    let new_n : length new ≡ ahead + (length new + after) = omega (arith, no_more) in
    let before_is : v.before ≡ x = same_front v.before (v.part ++ v.behind) x (old ++ y) (sym v.is) front in
    let rest_is : v.part ++ v.behind ≡ old ++ y = same_back v.before (v.part ++ v.behind) x (old ++ y) (sym v.is) front in
    let behind_is : v.behind ≡ y = same_back v.part v.behind old y rest_is (ap length part_is) in
    let made : BuildsNode (events_from (before ++ takes leaf (length new) ∷ behind) (v.before ++ (new ++ v.behind))) (replace t w.place (token leaf new)) = w.replaced new in
    let one : BuildsNode (events_from (before ++ takes leaf (length new) ∷ behind) (x ++ (new ++ v.behind))) (replace t w.place (token leaf new)) =
    subst (λ (z : List ℕ). BuildsNode (events_from (before ++ takes leaf (length new) ∷ behind) (z ++ (new ++ v.behind))) (replace t w.place (token leaf new))) before_is made in
    let two : BuildsNode (events_from (before ++ takes leaf (length new) ∷ behind) (x ++ (new ++ y))) (replace t w.place (token leaf new)) =
    subst (λ (z : List ℕ). BuildsNode (events_from (before ++ takes leaf (length new) ∷ behind) (x ++ (new ++ z))) (replace t w.place (token leaf new))) behind_is one in
    let three : BuildsNode (events_from (before ++ takes leaf (length new) ∷ behind) (x ++ (new ++ y))) (replace t p (token leaf new)) =
    subst (λ (q : Place). BuildsNode (events_from (before ++ takes leaf (length new) ∷ behind) (x ++ (new ++ y))) (replace t q (token leaf new))) same two in
    let four : BuildsNode (events_from (before ++ takes leaf (length new) ∷ behind) (x ++ (new ++ y))) (replace t p (token k new)) =
    subst (λ (j : SyntaxKind). BuildsNode (events_from (before ++ takes leaf (length new) ∷ behind) (x ++ (new ++ y))) (replace t p (token j new))) kind_is three in
    let five : BuildsNode (events_from (before ++ takes leaf (ahead + (length new + after)) ∷ behind) (x ++ (new ++ y))) (replace t p (token k new)) =
    subst (λ (m : ℕ). BuildsNode (events_from (before ++ takes leaf m ∷ behind) (x ++ (new ++ y))) (replace t p (token k new))) new_n four in
    subst (λ (xs : List FrontStep). BuildsNode (events_from xs (x ++ (new ++ y))) (replace t p (token k new))) (sym new_is) five
