-- The node that a pointer finds, by rows.
use Rattle.std.proofs.Common.{◌≡◌, ℕ, ◌<◌, refl, sym, ap, ◌∙◌, subst, arith, Bool, true, false, not, []}
use Rattle.std.specs.Prelude.{Some, None, IsTrue}
use Rattle.tree_rows.specs.declared.rows.Row.{Row}
use Rattle.syntax_kind.specs.declared.syntax_kind.SyntaxKind.{SyntaxKind}
use Rattle.tree_model.specs.Tree.{Tree, size, parent_place}
use Rattle.text_size.specs.TextRange.{Bounds}
use Rattle.tree_model.specs.Rows.{tree_at, place_at, start_at, end_at}
use Rattle.tree_rows.specs.Rows.{row_at, parent_at}
use Rattle.tree_model.specs.Cursor.{Cursor, cursor_at, descendants_of}
use Rattle.tree_model.specs.Pointer.{Pointer, PointsTo, Finds, IsFirst}
use Rattle.tree_rows.proofs.StepLemmas.{row_kind, row_node, row_token, parent_by_row}
use Rattle.tree_model.proofs.PointerLemmas.{all_rows, first_of_rows, no_node, no_truth, none_of_rows, not_false, not_true, same_bounds}

pub first_found : (P : Cursor → Type 0) (whole : Tree) (k : ℕ) → k < size whole → P (cursor_at whole k) → ((j : ℕ) → j < k → P (cursor_at whole j) → ⊥) → IsFirst P (descendants_of (cursor_at whole 0)) (Some (cursor_at whole k))
first_found P whole k lt is before = subst (λ l. IsFirst P l (Some (cursor_at whole k))) (all_rows whole) (first_of_rows P whole 0 (size whole) k (omega arith) (omega arith) is (λ j from. before j))

pub none_found : (P : Cursor → Type 0) (whole : Tree) → ((j : ℕ) → j < size whole → P (cursor_at whole j) → ⊥) → IsFirst P (descendants_of (cursor_at whole 0)) None
none_found P whole none = subst (λ l. IsFirst P l None) (all_rows whole) (none_of_rows P whole 0 (size whole) (λ j from to. none j (omega arith)))

-- row n as the loop of the search sees it: it starts where the range does
pub record Seen (whole : Tree) (kind : SyntaxKind) (range : Bounds) (n : ℕ) (r : Row) : Type 0 where
  pub is_row : n < size whole
  pub row_is : r ≡ row_at whole n
  pub start_is : start_at whole n ≡ range.start

pub points : {whole : Tree} {kind : SyntaxKind} {range : Bounds} {n : ℕ} {r : Row} → Seen whole kind range n r → not r.is_token ≡ true → r.kind ≡ kind → end_at whole n ≡ range.end → PointsTo (record { kind = kind; range = range }) (cursor_at whole n)
points {whole} {kind} {range} {n} {r} s is_node is_kind is_end = record {
  is_node = row_node whole n r s.is_row s.row_is (not_true r.is_token is_node);
  kind = sym (row_kind whole n s.is_row) ∙ ap (λ x. x.kind) (sym s.row_is) ∙ is_kind;
  range = same_bounds range (start_at whole n) (end_at whole n) s.start_is is_end;
}

pub token_misses : {whole : Tree} {kind : SyntaxKind} {range : Bounds} {n : ℕ} {r : Row} → Seen whole kind range n r → not r.is_token ≡ false → PointsTo (record { kind = kind; range = range }) (cursor_at whole n) → ⊥
token_misses {whole} {n} {r} s is_token at = no_node (tree_at whole n) (row_token whole n r s.is_row s.row_is (not_false r.is_token is_token)) at.is_node

pub kind_misses : {whole : Tree} {kind : SyntaxKind} {range : Bounds} {n : ℕ} {r : Row} {b : Bool} → Seen whole kind range n r → (IsTrue b → r.kind ≡ kind) × (r.kind ≡ kind → IsTrue b) → b ≡ false → PointsTo (record { kind = kind; range = range }) (cursor_at whole n) → ⊥
kind_misses {whole} {n} {r} {b} s says differs at = no_truth b differs (says.1 (ap (λ x. x.kind) s.row_is ∙ row_kind whole n s.is_row ∙ at.kind))

-- only the first row is the root's
root_row : (whole : Tree) (n : ℕ) → n < size whole → (n ≡ 0 → ⊥) → place_at whole n ≡ [] → ⊥
root_row whole n h below is_root =
    let above = (parent_by_row whole n (parent_at whole n) h below refl).place in
    (let e : Some (place_at whole (parent_at whole n)) ≡ None = above ∙ ap parent_place is_root in cc)

pub finds_nothing : (p : Pointer) (whole : Tree) (n : ℕ) (c : Cursor) → n < size whole → (n ≡ 0 → ⊥) → cursor_at whole n ≡ c → Finds p c None
finds_nothing p whole n c h below is = record {
  from_root = λ root. absurd (root_row whole n h below (ap (λ x. x.place) is ∙ root));
  from_below = λ _. refl;
}
