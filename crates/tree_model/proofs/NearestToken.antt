-- The tokens of a tree on either side of one of them.
use Rattle.std.proofs.Common.{◌≡◌, ℕ, zero, suc, ◌+◌, ◌<◌, ◌≤◌, List, [], ◌∷◌, ◌++◌, length, take, drop, reverse, Bool, true, false, cond, not, refl, sym, ap, ◌∙◌, subst, arith}
use Rattle.std.specs.List.{All, filter, position_or_len, after_first, before_first}
use Rattle.std.proofs.Math.Seq.{take-append_seam, drop-append-add}
use Rattle.std.proofs.lemmas.List.{reverse-append}
use Rattle.std.proofs.lemmas.List.Elements.{All-head, All-tail, All-push, All-take, All-drop, filter_passes}
use Rattle.tree_model.specs.declared.direction.Direction.{Direction}
use Rattle.tree_model.specs.declared.direction.Direction.TheVariants.{Next, Prev}
use Rattle.tree_model.specs.Tree.{Tree, size}
use Rattle.tree_model.specs.Cursor.{Cursor, at_place, at_token, descendants_of, all_tokens, cursor_at, cursors_from}
use Rattle.tree_model.specs.Equality.{is_same_cursor}
use Rattle.tree_model.specs.EqualityLaws.{cursor_Decides}
use Rattle.tree_model.specs.NearestToken.{tokens_beyond}
use Rattle.tree_model.proofs.EqualityLemmas.{same_rows}
use Rattle.tree_model.proofs.PointerLemmas.{all_rows}
use Rattle.tree_model.proofs.WalkLemmas.{root_place}

-- ---- no token comes twice

-- x is none of the list
abbrev Avoids : Cursor → List Cursor → Type 0
Avoids x [] = Unit {0}
Avoids x (y ∷ ys) = (x ≡ y → ⊥) × Avoids x ys

abbrev Distinct : List Cursor → Type 0
Distinct [] = Unit {0}
Distinct (x ∷ xs) = Avoids x xs × Distinct xs

avoids_kept : (test : Cursor → Bool) (x : Cursor) (ys : List Cursor) → Avoids x ys → Avoids x (filter test ys)
avoids_kept test x [] a = tt
avoids_kept test x (y ∷ ys) a = kept (test y) (avoids_kept test x ys a.1)
  where
    kept : (b : Bool) → Avoids x (filter test ys) → Avoids x (cond b (y ∷ filter test ys) (filter test ys))
    kept true rest = (a.0, rest)
    kept false rest = rest

distinct_kept : (test : Cursor → Bool) (xs : List Cursor) → Distinct xs → Distinct (filter test xs)
distinct_kept test [] d = tt
distinct_kept test (x ∷ xs) d = kept (test x) (distinct_kept test xs d.1)
  where
    kept : (b : Bool) → Distinct (filter test xs) → Distinct (cond b (x ∷ filter test xs) (filter test xs))
    kept true rest = (avoids_kept test x xs d.0, rest)
    kept false rest = rest

avoids_later : (tree : Tree) (n a count : ℕ) → n < a → a + count ≤ size tree → Avoids (cursor_at tree n) (cursors_from tree a count)
avoids_later tree n a zero less within = tt
avoids_later tree n a (suc count) less within = (
  λ same. (let e : n ≡ a = same_rows tree tree n a (omega arith) (omega arith) same in absurd (omega arith)),
  avoids_later tree n (a + 1) count (omega arith) (omega arith),
)

distinct_rows : (tree : Tree) (a count : ℕ) → a + count ≤ size tree → Distinct (cursors_from tree a count)
distinct_rows tree a zero within = tt
distinct_rows tree a (suc count) within = (avoids_later tree a (a + 1) count (omega arith) (omega arith), distinct_rows tree (a + 1) count (omega arith))

distinct_tokens : (c : Cursor) → Distinct (all_tokens c)
distinct_tokens c =
    let rows = all_rows c.tree ∙ ap (λ p. descendants_of (record { tree = c.tree; place = p })) (root_place c.tree) in
    subst (λ l. Distinct (filter at_token l)) rows (distinct_kept at_token _ (distinct_rows c.tree 0 (size c.tree) (omega arith)))

-- ---- what is on either side in a list

avoids_inside : (x c : Cursor) (front back : List Cursor) → Avoids x (front ++ c ∷ back) → x ≡ c → ⊥
avoids_inside x c [] back a = a.0
avoids_inside x c (y ∷ front) back a = avoids_inside x c front back a.1

differs : (c x : Cursor) → (x ≡ c → ⊥) → is_same_cursor c x ≡ false
differs c x apart = test (is_same_cursor c x) refl
  where
    test : (b : Bool) → is_same_cursor c x ≡ b → b ≡ false
    test true e = absurd (apart (sym ((cursor_Decides c x).0 e)))
    test false e = refl

found_at : (c : Cursor) (front back : List Cursor) → Distinct (front ++ c ∷ back) → position_or_len (is_same_cursor c) (front ++ c ∷ back) ≡ length front
found_at c [] back d = ap (λ b. cond (not b) (1 + position_or_len (is_same_cursor c) back) 0) ((cursor_Decides c c).1 refl)
found_at c (x ∷ front) back d =
    ap (λ b. cond (not b) (1 + position_or_len (is_same_cursor c) (front ++ c ∷ back)) 0) (differs c x (avoids_inside x c front back d.0))
    ∙ omega (arith, found_at c front back d.1)

before_in : (c : Cursor) (all front back : List Cursor) → Distinct all → all ≡ front ++ c ∷ back → before_first (is_same_cursor c) all ≡ front
before_in c all front back d e =
    ap (before_first (is_same_cursor c)) e
    ∙ ap (λ n. take n (front ++ c ∷ back)) (found_at c front back (subst Distinct e d))
    ∙ take-append_seam front (c ∷ back)

after_in : (c : Cursor) (all front back : List Cursor) → Distinct all → all ≡ front ++ c ∷ back → after_first (is_same_cursor c) all ≡ back
after_in c all front back d e =
    ap (after_first (is_same_cursor c)) e
    ∙ ap (λ n. drop (n + 1) (front ++ c ∷ back)) (found_at c front back (subst Distinct e d))
    ∙ drop-append-add front (c ∷ back) 1

-- ---- the tokens after one, and before it

pub tokens_behind : (c : Cursor) (front back : List Cursor) → all_tokens c ≡ front ++ c ∷ back → tokens_beyond Next c ≡ back
tokens_behind c front back e = after_in c (all_tokens c) front back (distinct_tokens c) e

pub tokens_before : (c : Cursor) (front back : List Cursor) → all_tokens c ≡ front ++ c ∷ back → tokens_beyond Prev c ≡ reverse front
tokens_before c front back e = ap reverse (before_in c (all_tokens c) front back (distinct_tokens c) e)

-- ---- each of them is a token

reversed : {X : Type 0} (P : X → Type 0) (xs : List X) → All P xs → All P (reverse xs)
reversed P [] h = h
reversed P (x ∷ xs) h = subst (All P) (sym (reverse-append (x ∷ []) xs)) (All-push P (reverse xs) x (reversed P xs (All-tail P x xs h)) (All-head P x xs h))

pub tokens_stand_beyond : (d : Direction) (c : Cursor) → All (λ x. at_token x ≡ true) (tokens_beyond d c)
tokens_stand_beyond Next c = All-drop (λ x. at_token x ≡ true) (position_or_len (is_same_cursor c) (all_tokens c) + 1) (all_tokens c) (filter_passes at_token (descendants_of (at_place c [])))
tokens_stand_beyond Prev c =
    reversed (λ x. at_token x ≡ true) (before_first (is_same_cursor c) (all_tokens c)) (All-take (λ x. at_token x ≡ true) (position_or_len (is_same_cursor c) (all_tokens c)) (all_tokens c) (filter_passes at_token (descendants_of (at_place c []))))
