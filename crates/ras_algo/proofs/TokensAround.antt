-- The tokens on either side of a token: the next one, those beyond that, and the nearest that is no
-- trivia.
use Rattle.std.proofs.Common.{◌≡◌, List, [], ◌∷◌, ◌++◌, map, Bool, true, false, not, cond, refl, sym, ap, ◌∙◌, subst, append_assoc}
use Rattle.std.specs.Prelude.{Some, None, Option}
use Rattle.std.specs.List.{All, filter, find}
use Rattle.std.proofs.lemmas.List.{reverse-append}
use Rattle.std.proofs.lemmas.List.Elements.{All-head, All-tail}
use Rattle.syntax_kind.specs.Kinds.{is_trivia}
use Rattle.tree_model.specs.declared.direction.Direction.{Direction}
use Rattle.tree_model.specs.declared.direction.Direction.TheVariants.{Next, Prev}
use Rattle.tree_model.specs.Tree.{Tree, node, token, Place, places, is_token, kind_of}
use Rattle.tree_model.specs.Cursor.{Cursor, focus, at_place, at_token, descendants_of, all_tokens, IsRightBehind, IsRightBefore}
use Rattle.tree_model.specs.NearestToken.{tokens_beyond, is_trivia_token, is_no_trivia}
use Rattle.tree_model.proofs.NearestToken.{tokens_behind, tokens_before, tokens_stand_beyond}
use Rattle.ras_algo.specs.Algo.{tokens_left, has_no_trivia_kind}

-- ---- the tokens of one tree

abbrev InTree : Tree → List Cursor → Type 0
InTree t [] = Unit {0}
InTree t (x ∷ xs) = (x.tree ≡ t) × InTree t xs

in_tree_kept : (test : Cursor → Bool) (t : Tree) (xs : List Cursor) → InTree t xs → InTree t (filter test xs)
in_tree_kept test t [] h = tt
in_tree_kept test t (x ∷ xs) h = kept (test x) (in_tree_kept test t xs h.1)
  where
    kept : (b : Bool) → InTree t (filter test xs) → InTree t (cond b (x ∷ filter test xs) (filter test xs))
    kept true rest = (h.0, rest)
    kept false rest = rest

in_tree_places : (c : Cursor) (ps : List Place) → InTree c.tree (map (λ q. at_place c ([] ++ q)) ps)
in_tree_places c [] = tt
in_tree_places c (p ∷ ps) = (refl, in_tree_places c ps)

in_tree_inside : (t : Tree) (y : Cursor) (front back : List Cursor) → InTree t (front ++ y ∷ back) → y.tree ≡ t
in_tree_inside t y [] back h = h.0
in_tree_inside t y (x ∷ front) back h = in_tree_inside t y front back h.1

-- a token of the tree has the same tokens around it
same_tokens : (c y : Cursor) (front back : List Cursor) → all_tokens c ≡ front ++ y ∷ back → all_tokens y ≡ all_tokens c
same_tokens c y front back e =
    let within : InTree c.tree (all_tokens c) = in_tree_kept at_token c.tree _ (in_tree_places c (places c.tree)) in
    ap (λ t. filter at_token (descendants_of (record { tree = t; place = [] }))) (in_tree_inside c.tree y front back (subst (InTree c.tree) e within))

-- ---- one step

-- the token right beyond another in a direction, if there is one
abbrev pub IsRightBeyond : Direction → Cursor → Option Cursor → Type 0
IsRightBeyond Next t after = IsRightBehind (all_tokens t) t after
IsRightBeyond Prev t after = IsRightBefore (all_tokens t) t after

pub beyond-step : (d : Direction) (t : Cursor) (after : Option Cursor) → IsRightBeyond d t after → tokens_beyond d t ≡ tokens_left d after
beyond-step Next t None h = tokens_behind t h.0 [] h.1
beyond-step Next t (Some y) h =
    let front = h.0 in
    let back = h.1 in
    let e : all_tokens t ≡ (front ++ t ∷ []) ++ y ∷ back = h.2 ∙ sym (append_assoc front (t ∷ []) (y ∷ back)) in
    let same = same_tokens t y (front ++ t ∷ []) back e in
    tokens_behind t front (y ∷ back) h.2
    ∙ sym (ap (λ l. y ∷ l) (tokens_behind y (front ++ t ∷ []) back (same ∙ e)))
beyond-step Prev t None h = tokens_before t [] h.0 h.1
beyond-step Prev t (Some y) h =
    let front = h.0 in
    let back = h.1 in
    let e : all_tokens t ≡ (front ++ y ∷ []) ++ t ∷ back = h.2 ∙ sym (append_assoc front (y ∷ []) (t ∷ back)) in
    let same = same_tokens t y front (t ∷ back) h.2 in
    tokens_before t (front ++ y ∷ []) back e
    ∙ reverse-append front (y ∷ [])
    ∙ sym (ap (λ l. y ∷ l) (tokens_before y front (t ∷ back) (same ∙ h.2)))

-- ---- among tokens the kind tells what is trivia

kind_tells : (t : Tree) → is_token t ≡ true → not (is_trivia_token t) ≡ not (is_trivia (kind_of t))
kind_tells (token k x) h = refl
kind_tells (node k c) h = absurd (let e : false ≡ true = h in cc)

same_found : (l : List Cursor) → All (λ x. at_token x ≡ true) l → find is_no_trivia l ≡ find has_no_trivia_kind l
same_found [] h = refl
same_found (x ∷ l) h =
    ap (λ b. cond b (Some x) (find is_no_trivia l)) (kind_tells (focus x) (All-head (λ x. at_token x ≡ true) x l h))
    ∙ ap (cond (has_no_trivia_kind x) (Some x)) (same_found l (All-tail (λ x. at_token x ≡ true) x l h))

pub same_nearest : (d : Direction) (c : Cursor) → find is_no_trivia (tokens_beyond d c) ≡ find has_no_trivia_kind (tokens_beyond d c)
same_nearest d c = same_found (tokens_beyond d c) (tokens_stand_beyond d c)
