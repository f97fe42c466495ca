-- Errors in order lie in the edited text.
use Rattle.std.proofs.Common.{◌≡◌, ℕ, suc, ◌+◌, ◌-◌, ◌≤◌, List, [], ◌∷◌, ◌++◌, map, length, take, drop, arith}
use Rattle.std.specs.Prelude.{All, nat_le, flat_map}
use Rattle.std.proofs.lemmas.List.Elements.{All-append, All-take, All-drop}
use Rattle.text_size.specs.TextRange.{Bounds}
use Rattle.tree_model.specs.Tree.{text}
use Rattle.tree_model.specs.Cursor.{Cursor, range_start}
use Rattle.ras_parsing.specs.Edit.{Edit, IsEditOf, edited, edited_at}
use Rattle.ras_front_end.specs.ErrorModel.{ErrorModel, LiesIn}
use Rattle.ras_parsing.specs.Reparse.{moved}
use Rattle.ras_parsing.specs.Document.{earlier_fault, later_fault, in_order, all_in_order}
use Rattle.ras_parsing.specs.Rereading.{IsAround}
use Rattle.ras_parsing.proofs.Around.{piece_length, edited_length}
use Rattle.ras_parsing.proofs.MergedInText.{none, one, le_true, by_test, Fits, moved_all}

earlier_in : (replaced : Bounds) (edit : Edit) (n m : ℕ) → Fits replaced edit n m → (f : ErrorModel) → LiesIn n f → All (LiesIn m) (earlier_fault replaced f)
earlier_in replaced edit n m w f v =
    by_test (nat_le f.range.end replaced.start) (All (LiesIn m)) _ _
    (λ t. one (LiesIn m) f (record { forwards = v.forwards; within = omega (arith, w.new_length, w.begun, w.forwards, w.ended, w.within, le_true f.range.end replaced.start t) }))
    (λ _. none (LiesIn m))

later_in : (replaced : Bounds) (edit : Edit) (n m : ℕ) → Fits replaced edit n m → (f : ErrorModel) → LiesIn n f → All (LiesIn m) (later_fault replaced edit f)
later_in replaced edit n m w f v =
    by_test (nat_le replaced.end f.range.start) (All (LiesIn m)) _ _
    (λ t. one (LiesIn m) _ (record { forwards = omega (arith, v.forwards); within = omega (arith, w.new_length, w.forwards, w.ended, v.within, v.forwards, le_true replaced.end f.range.start t) }))
    (λ _. none (LiesIn m))

all_of : (n m : ℕ) (g : ErrorModel → List ErrorModel) → ((f : ErrorModel) → LiesIn n f → All (LiesIn m) (g f)) → (fs : List ErrorModel) → All (LiesIn n) fs → All (LiesIn m) (flat_map g fs)
all_of n m g h [] v = none (LiesIn m)
all_of n m g h (f ∷ fs) v =
    All-append (LiesIn m) (g f) (flat_map g fs) (h f (v 0 f (omega arith))) (all_of n m g h fs (λ k d p. v (suc k) d (omega (arith, p))))

in_order_lies : (replaced : Bounds) (edit : Edit) (n p m : ℕ) (old new : List ErrorModel) → Fits replaced edit n m
    → p ≡ ((replaced.end - replaced.start) + length edit.insert) - (edit.delete.end - edit.delete.start)
    → All (LiesIn n) old → All (LiesIn p) new → All (LiesIn m) (in_order old new replaced edit)
in_order_lies replaced edit n p m old new w e u v =
    All-append (LiesIn m) (flat_map (earlier_fault replaced) old) (map (moved replaced.start) new ++ flat_map (later_fault replaced edit) old)
    (all_of n m (earlier_fault replaced) (earlier_in replaced edit n m w) old u)
    (All-append (LiesIn m) (map (moved replaced.start) new) (flat_map (later_fault replaced edit) old)
    (moved_all replaced.start p m (omega (arith, e, w.new_length, w.begun, w.forwards, w.ended, w.within)) new v)
    (all_of n m (later_fault replaced edit) (later_in replaced edit n m w) old u))

pub ordered_in_text : (count more : ℕ) (replaced : Bounds) (edit : Edit) (n p m : ℕ) (old new : List ErrorModel) → Fits replaced edit n m
    → p ≡ ((replaced.end - replaced.start) + length edit.insert) - (edit.delete.end - edit.delete.start)
    → All (LiesIn n) old → All (LiesIn p) new → All (LiesIn m) (all_in_order count more old new replaced edit)
ordered_in_text count more replaced edit n p m old new w e u v =
    All-append (LiesIn m) (in_order (take count old) (take more new) replaced edit) (in_order (drop count old) (drop more new) replaced edit)
    (in_order_lies replaced edit n p m (take count old) (take more new) w e (All-take (LiesIn n) count old u) (All-take (LiesIn p) more new v))
    (in_order_lies replaced edit n p m (drop count old) (drop more new) w e (All-drop (LiesIn n) count old u) (All-drop (LiesIn p) more new v))

-- the piece ends within the new text
pub piece_fits : (c : Cursor) (edit : Edit) → IsAround c edit → IsEditOf (text c.tree) edit → range_start c + length (edited_at c edit) ≤ length (edited (text c.tree) edit)
piece_fits c edit w e =
    let p = piece_length c edit w e.forwards in
    let q = edited_length (text c.tree) edit e in
    omega (arith, p, q, w.within, w.begun, w.ended, e.forwards, e.within)
