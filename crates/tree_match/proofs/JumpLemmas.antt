-- Walks that pass the nodes of kinds at which no rule can match: the matches are the same.
use Rattle.std.proofs.Common.{◌≡◌, ℕ, zero, suc, ◌+◌, ◌-◌, ◌<◌, ◌≤◌, Bool, true, false, cond, List, [], ◌∷◌, ◌++◌, length, refl, sym, subst, ap, ◌∙◌, if◌then◌else◌, arith}
use Rattle.std.specs.Prelude.{Option, Some, None, option_map, nat_le, ⊤, ◌&&◌, ◌||◌}
use Rattle.std.specs.Option.{option_or}
use Rattle.std.specs.List.{filter, find, list_all}
use Rattle.std.proofs.lemmas.Bool.Decides.{nat_tests}
use Rattle.text_size.specs.TextRange.{Bounds}
use Rattle.syntax_kind.specs.declared.syntax_kind.SyntaxKind.{SyntaxKind}
use Rattle.syntax_kind.specs.Kinds.{is_same_kind}
use Rattle.syntax_kind.specs.KindLaws.{is_same_kind-equal}
use Rattle.tree_model.specs.Tree.{Tree, nil, size, IsPlace}
use Rattle.tree_model.specs.Rows.{start_at, tree_at}
use Rattle.tree_model.specs.Cursor.{Cursor, at_node, at_place, cursor_at, cursors_from, descendants_of, range_of, range_start}
use Rattle.tree_model.proofs.At.{At-fits, forest_size-cons}
use Rattle.tree_model.proofs.TableLemmas.{at_row}
use Rattle.tree_model.proofs.Starts.{starts_rise}
use Rattle.tree_model.proofs.PlaceLemmas.{row_of_place}
use Rattle.tree_model.proofs.WalkLemmas.{descendants-numbered}
use Rattle.lossless_tree.specs.KindSearch.{is_among, after_first}
use Rattle.lossless_tree.specs.Trees.{Siblings}
use Rattle.ras_node.specs.Nodes.{kind_at}
use Rattle.tree_match.specs.declared.rule.Form.{Form}
use Rattle.tree_match.specs.declared.rule.Rule.{Rule}
use Rattle.tree_match.specs.Matching.{Values, is_for, first_from}
use Rattle.tree_match.specs.Roots.{has_form}
use Rattle.tree_match.specs.Jumps.{is_operation, has_operations, has_rule, stops_at}
use Rattle.tree_match.specs.Finds.{Occurrence, inside_of, ranges_of, nodes_of, match_at, kept, kept_at, drop_behind, is_free, take_out, with_found, found_at, found_from}
use Rattle.tree_match.proofs.ConditionLemmas.{not_for}
use Rattle.tree_match.proofs.RootLemmas.{or_left, or_right}

-- ---- the nodes of a walk start one behind the other

-- each starts at n or later, and no earlier than the one before
abbrev pub Rises : ℕ → List Cursor → Type 0
Rises n [] = ⊤
Rises n (c ∷ l) = (n ≤ range_start c) × Rises (range_start c) l

rises_low : (n m : ℕ) (l : List Cursor) → n ≤ m → Rises m l → Rises n l
rises_low n m [] h r = tt
rises_low n m (c ∷ l) h r = (omega (arith, h, r.0), r.1)

rises_among : (test : Cursor → Bool) (n : ℕ) (l : List Cursor) → Rises n l → Rises n (filter test l)
rises_among test n [] r = tt
rises_among test n (c ∷ l) r = by (test c) (rises_among test (range_start c) l r.1)
  where
    by : (b : Bool) → Rises (range_start c) (filter test l)
        → Rises n (cond b (c ∷ filter test l) (filter test l))
    by true rest = (r.0, rest)
    by false rest = rises_low n (range_start c) (filter test l) r.0 rest

pub rises_behind : (test : Cursor → Bool) (n : ℕ) (l : List Cursor) → Rises n l
    → Rises n (after_first test l)
rises_behind test n [] r = tt
rises_behind test n (c ∷ l) r = by (test c) (rises_behind test (range_start c) l r.1)
  where
    by : (b : Bool) → Rises (range_start c) (after_first test l)
        → Rises n (cond b l (after_first test l))
    by true rest = rises_low n (range_start c) l r.0 r.1
    by false rest = rises_low n (range_start c) (after_first test l) r.0 rest

rises_rows : (tree : Tree) (a n b : ℕ) → a + n ≤ size tree → (0 < n → b ≤ start_at tree a)
    → Rises b (cursors_from tree a n)
rises_rows tree a zero b h low = tt
rises_rows tree a (suc n) b h low = (
  low (omega arith),
  rises_rows tree (a + 1) n (start_at tree a) (omega (arith, h))
      (λ more. starts_rise tree a (a + 1) (omega arith) (omega (arith, h, more))),
)

pub rises_below : (c : Cursor) → IsPlace c.tree c.place
    → Rises 0 (filter at_node (descendants_of c))
rises_below c h =
    let w = row_of_place c.tree c.place h in
    let n = w.n in
    let e = n + size (tree_at c.tree n) in
    let fits : e ≤ size c.tree =
    omega (arith, At-fits (at_row c.tree n w.in_range), forest_size-cons c.tree nil) in
    let rows : Rises 0 (cursors_from c.tree n (e - n)) =
    rises_rows c.tree n (e - n) 0 (omega (arith, fits)) (λ more. omega arith) in
    let there : Rises 0 (descendants_of (cursor_at c.tree n)) =
    subst (Rises 0) (descendants-numbered c.tree n e w.in_range refl) rows in
    rises_among at_node 0 (descendants_of c)
    (subst (λ p. Rises 0 (descendants_of (at_place c p))) w.is there)

-- ---- a node of a kind without rules has no match

none_from : (n : ℕ) (rules : List Rule) (k : SyntaxKind) (s : Siblings) → has_rule rules k ≡ false
    → None ≡ first_from n rules k s
none_from n [] k s h = refl
none_from n (r ∷ rs) k s h =
    none_from (suc n) rs k s (or_right (is_for k r) (has_rule rs k) h)
    ∙ ap (λ o. option_or (option_map (λ (f : ℕ × Values). (n, f.0, f.1)) o) (first_from (suc n) rs k s))
    (not_for r k s (or_left (is_for k r) (has_rule rs k) h))

none_at : (rules : List Rule) (c : Cursor) → has_rule rules (kind_at c) ≡ false
    → None ≡ match_at rules c
none_at rules c h =
    ap (option_map (λ (f : ℕ × ℕ × Values). record {
      rule = f.0;
      form = f.1;
      range = range_of c;
      values = ranges_of f.2;
      nodes = nodes_of f.2;
    }))
    (none_from 0 rules (kind_at c) (inside_of c) h)

none_found : (rules : List Rule) (free : List Bounds) (c : Cursor)
    → has_rule rules (kind_at c) ≡ false → found_at rules free c ≡ None
none_found rules free c h = by (is_free (drop_behind (range_start c) free) (range_of c))
  where
    by : (b : Bool) → (if b then kept_at rules c else None) ≡ None
    by true = ap (kept rules c) (sym (none_at rules c h))
    by false = refl

-- ---- what may be searched behind it

up : (a n m : ℕ) → n ≤ m → nat_le a n ≡ true → nat_le a m ≡ true
up a n m h e = grind (arith, nat_tests)

drop_twice : (n m : ℕ) (free : List Bounds) → n ≤ m
    → drop_behind m (drop_behind n free) ≡ drop_behind m free
drop_twice n m [] h = refl
drop_twice n m (r ∷ rs) h = by (nat_le r.end n) refl (drop_twice n m rs h)
  where
    by : (b : Bool) → nat_le r.end n ≡ b → drop_behind m (drop_behind n rs) ≡ drop_behind m rs
        → drop_behind m (if b then drop_behind n rs else r ∷ rs) ≡ drop_behind m (r ∷ rs)
    by true e rest =
        rest ∙ sym (ap (λ b. if b then drop_behind m rs else r ∷ rs) (up r.end n m h e))
    by false e rest = refl

found_behind : (rules : List Rule) (n : ℕ) (free : List Bounds) (l : List Cursor) → Rises n l
    → found_from rules (drop_behind n free) l ≡ found_from rules free l
found_behind rules n free [] r = refl
found_behind rules n free (c ∷ l) r =
    ap (λ f. with_found (if is_free f (range_of c) then kept_at rules c else None)
    (found_from rules (take_out (if is_free f (range_of c) then kept_at rules c else None) f) l))
    (drop_twice n (range_start c) free r.0)

passed : (rules : List Rule) (free : List Bounds) (c : Cursor) (l : List Cursor)
    → has_rule rules (kind_at c) ≡ false → Rises (range_start c) l
    → found_from rules free (c ∷ l) ≡ found_from rules free l
passed rules free c l h r =
    ap (λ o. with_found o (found_from rules (take_out o (drop_behind (range_start c) free)) l))
    (none_found rules free c h)
    ∙ found_behind rules (range_start c) free l r

-- ---- the walk

-- all nodes at which a rule can match are of kinds of a set
abbrev pub HasRoots : List Rule → (SyntaxKind → Bool) → Type 0
HasRoots rules kinds = (k : SyntaxKind) → kinds k ≡ false → has_rule rules k ≡ false

pub jumped : (rules : List Rule) (kinds : SyntaxKind → Bool) → HasRoots rules kinds
    → (free : List Bounds) (n : ℕ) (l : List Cursor) (x : Cursor) → Rises n l
    → Some x ≡ find (is_among kinds) l
    → found_from rules free l ≡ found_from rules free (x ∷ after_first (is_among kinds) l)
jumped rules kinds h free n [] x r e = (let no : Some x ≡ None = e in cc)
jumped rules kinds h free n (c ∷ l) x r e =
    by (kinds (kind_at c)) refl e (jumped rules kinds h free (range_start c) l x r.1)
  where
    by : (b : Bool) → kinds (kind_at c) ≡ b → Some x ≡ cond b (Some c) (find (is_among kinds) l)
        → (Some x ≡ find (is_among kinds) l
        → found_from rules free l ≡ found_from rules free (x ∷ after_first (is_among kinds) l))
        → found_from rules free (c ∷ l)
        ≡ found_from rules free (x ∷ cond b l (after_first (is_among kinds) l))
    by true is e rest =
        (let same : c ≡ x = cc in ap (λ d. found_from rules free (d ∷ l)) same)
    by false is e rest = passed rules free c l (h (kind_at c) is) r.1 ∙ rest e

pub ended : (rules : List Rule) (kinds : SyntaxKind → Bool) → HasRoots rules kinds
    → (free : List Bounds) (n : ℕ) (l : List Cursor) → Rises n l → None ≡ find (is_among kinds) l
    → found_from rules free l ≡ []
ended rules kinds h free n [] r e = refl
ended rules kinds h free n (c ∷ l) r e =
    by (kinds (kind_at c)) refl e (ended rules kinds h free (range_start c) l r.1)
  where
    by : (b : Bool) → kinds (kind_at c) ≡ b → None ≡ cond b (Some c) (find (is_among kinds) l)
        → (None ≡ find (is_among kinds) l → found_from rules free l ≡ [])
        → found_from rules free (c ∷ l) ≡ []
    by true is e rest = (let no : None ≡ Some c = e in cc)
    by false is e rest = passed rules free c l (h (kind_at c) is) r.1 ∙ rest e

pub fewer_left : (test : Cursor → Bool) (l : List Cursor) (x : Cursor) → Some x ≡ find test l
    → length (after_first test l) < length l
fewer_left test [] x e = (let no : Some x ≡ None = e in cc)
fewer_left test (c ∷ l) x e = by (test c) e (fewer_left test l x)
  where
    by : (b : Bool) → Some x ≡ cond b (Some c) (find test l)
        → (Some x ≡ find test l → length (after_first test l) < length l)
        → length (cond b l (after_first test l)) < suc (length l)
    by true e rest = omega arith
    by false e rest = omega (arith, rest e)

-- one more match, before others
pub found_first : (o : Option Occurrence) (l : List Occurrence)
    → with_found o [] ++ l ≡ with_found o l
found_first None l = refl
found_first (Some m) l = refl

-- ---- rules for operators and calls

and_left : (a b : Bool) → (a && b) ≡ true → a ≡ true
and_left true b h = refl
and_left false b h = absurd (let bad : false ≡ true = h in cc)

and_right : (a b : Bool) → (a && b) ≡ true → b ≡ true
and_right true b h = h
and_right false b h = absurd (let bad : false ≡ true = h in cc)

no_form : (fs : List Form) (k : SyntaxKind) → list_all (λ f. is_operation f.kind) fs ≡ true
    → is_operation k ≡ false → has_form k fs ≡ false
no_form [] k h i = refl
no_form (f ∷ fs) k h i =
    by (is_same_kind f.kind k) refl
    (no_form fs k (and_right (is_operation f.kind) (list_all (λ f. is_operation f.kind) fs) h) i)
  where
    by : (b : Bool) → is_same_kind f.kind k ≡ b → has_form k fs ≡ false
        → (b || has_form k fs) ≡ false
    by true e rest =
        (let bad : true ≡ false =
        sym (and_left (is_operation f.kind) (list_all (λ f. is_operation f.kind) fs) h)
        ∙ ap is_operation ((is_same_kind-equal f.kind k).0 e) ∙ i in cc)
    by false e rest = rest

no_rule : (rules : List Rule) (k : SyntaxKind) → list_all has_operations rules ≡ true
    → is_operation k ≡ false → has_rule rules k ≡ false
no_rule [] k h i = refl
no_rule (r ∷ rs) k h i =
    ap (λ b. b || has_rule rs k)
    (no_form r.forms.items k (and_left (has_operations r) (list_all has_operations rs) h) i)
    ∙ no_rule rs k (and_right (has_operations r) (list_all has_operations rs) h) i

pub has_roots : (rules : List Rule) (b : Bool) → b ≡ list_all has_operations rules
    → HasRoots rules (stops_at b)
has_roots rules true e k h = no_rule rules k (sym e) h
has_roots rules false e k h = (let no : true ≡ false = h in cc)
