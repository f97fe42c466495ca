-- The rows of a subtree are its places in preorder.
use Rattle.std.proofs.Common.{map}
use Rattle.tree_model.specs.Cursor.{at_place}
use Rattle.tree_model.specs.Cursor.{Cursor}
use Rattle.tree_model.specs.Tree.{Place}
use Rattle.std.proofs.Common.{◌≡◌, ℕ, zero, suc, ◌+◌, ◌-◌, ◌<◌, ◌∷◌, ◌++◌, length, get_or, refl, sym, ap, ◌∙◌, arith, append-nil, []}
use Rattle.tree_model.specs.Tree.{Tree, node, token, nil, cons, size, places}
use Rattle.tree_model.specs.Rows.{place_at, start_at}
use Rattle.tree_model.specs.Cursor.{cursor_at, cursors_from}
use Rattle.tree_model.proofs.At.{At, located, lift, shift-zero, length-places_from}
use Rattle.tree_model.proofs.StepLemmas.{place_from_At}
use Rattle.std.proofs.lemmas.List.{same_lists, get_or-map, length-map}
use Rattle.std.proofs.lemmas.List.FromFn.{get_or-map-range_with_len, length-map-range_with_len}
use Rattle.tree_model.specs.Cursor.{descendants_of, cursors_from}
use Rattle.tree_model.proofs.TableLemmas.{at_row}
use Rattle.tree_model.specs.Rows.{tree_at}
use Rattle.tree_model.specs.Tree.{places}

pub length-places : (t : Tree) → length (places t) ≡ size t
length-places (token k x) = refl
length-places (node k c) = ap suc (length-places_from c 0)

-- row n + m is the m-th place of the subtree at row n
pub place_below : (whole : Tree) (n m i : ℕ) (t : Tree) → At (cons whole nil) n (0 ∷ place_at whole n) t (start_at whole n) → m < size t → i ≡ n + m → place_at whole i ≡ place_at whole n ++ get_or (places t) m []
place_below whole n zero i (token k x) a h is_i = ap (place_at whole) (omega (arith, is_i)) ∙ sym (append-nil (place_at whole n))
place_below whole n (suc m) i (token k x) a h is_i = absurd (omega arith)
place_below whole n zero i (node k c) a h is_i = ap (place_at whole) (omega (arith, is_i)) ∙ sym (append-nil (place_at whole n))
place_below whole n (suc m) i (node k c) a h is_i =
    let w = located c m (omega arith) in
    let there : At (cons whole nil) i ((0 ∷ place_at whole n) ++ w.p) w.t (start_at whole n + w.b) = lift a w.is_at (omega (arith, is_i)) refl in
    sym (place_from_At there) ∙ ap (λ p. place_at whole n ++ p) (sym (w.is_place 0 ∙ shift-zero w.p))

pub cursors_from-step : (whole : Tree) (a e : ℕ) → a < e → cursors_from whole a (e - a) ≡ cursor_at whole a ∷ cursors_from whole (a + 1) (e - (a + 1))
cursors_from-step whole a e h = let count : e - a ≡ suc (e - (a + 1)) = omega arith in ap (cursors_from whole a) count

-- row 0 is the root
pub root_place : (whole : Tree) → place_at whole 0 ≡ []
root_place (node k c) = refl
root_place (token k x) = refl

-- the places of a subtree are those with the numbers from its own on
pub descendants-numbered : (whole : Tree) (n e : ℕ) → n < size whole → e ≡ n + size (tree_at whole n) → cursors_from whole n (e - n) ≡ descendants_of (cursor_at whole n)
descendants-numbered whole n e h is_e =
    let t = tree_at whole n in
    let count : e - n ≡ size t = omega (arith, is_e) in
    let below : Place → Cursor = λ q. at_place (cursor_at whole n) (place_at whole n ++ q) in
    same_lists (cursors_from whole n (e - n)) (map below (places t))
    (length-map-range_with_len (cursor_at whole) n (e - n) ∙ count ∙ sym (length-map (places t) below ∙ length-places t))
    (λ k d lt.
    let lt' : k < e - n = omega (arith, lt, length-map-range_with_len (cursor_at whole) n (e - n)) in
    let lt2 : k < length (places t) = omega (arith, lt', count, length-places t) in
    get_or-map-range_with_len (cursor_at whole) n (e - n) k (n + k) d lt' refl
    ∙ ap (λ p. at_place (cursor_at whole n) p) (place_below whole n k (n + k) t (at_row whole n h) (omega (arith, lt', count)) refl)
    ∙ sym (get_or-map below (places t) k [] d lt2))
