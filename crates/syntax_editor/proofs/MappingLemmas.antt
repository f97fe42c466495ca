-- Where elements are in the new tree.
use Rattle.std.proofs.Common.{◌≡◌, refl, ℕ, suc, ◌-◌, ◌<◌, ◌≤◌, List, length, get_or, sym, ap, subst, ◌∙◌, arith}
use Rattle.std.specs.Prelude.{Option, Some, None, IfSome}
use Rattle.std.specs.Option.{SomeIff}
use Rattle.tree_model.specs.Tree.{Tree, node, token, Place, size, subtree, IsNode, IsToken}
use Rattle.tree_model.specs.Rows.{place_at}
use Rattle.tree_model.specs.Cursor.{Cursor, cursor_at, focus}
use Rattle.tree_model.specs.Edit.{root_of, Within}
use Rattle.tree_model.proofs.PlaceLemmas.{within_at}
use Rattle.lossless_tree.specs.declared.cursor.element.NodeOrToken.{NodeOrToken}
use Rattle.lossless_tree.specs.Element.{element_of, element_by, node_part, token_part}
use Rattle.tree_edit_model.specs.Changes.{Change, changed}
use Rattle.tree_edit_model.specs.Moved.{IsKept, below_place}
use Rattle.tree_edit_model.proofs.MovedLemmas.{kept_places_move}
use Rattle.tree_edits.specs.Session.{Session, at_of, result_of}
use Rattle.tree_edits.specs.Kept.{new_row, new_rows_of}
use Rattle.tree_edits.proofs.PlaceLemmas.{row_count, row_number, new_place, IsAtNew, no_place}
use Rattle.syntax_editor.specs.Editor.{IsKeptCursor, new_cursor}

-- ---- the number of a row

pub has_number : (at : Place → Change) (t u : Tree) (rows : List ℕ) (n : ℕ) → rows ≡ new_rows_of at t → u ≡ t → n < size u → n < length rows
has_number at t u rows n is same h = omega (arith, h, ap size same, ap length is, row_count at t)

number_is : (at : Place → Change) (t u : Tree) (rows : List ℕ) (n : ℕ) → rows ≡ new_rows_of at t → u ≡ t → n < size u → get_or rows n 0 ≡ new_row at u (place_at u n)
number_is at t u rows n is same h =
    ap (λ l. get_or l n 0) is ∙ row_number at t n (omega (arith, h, ap size same)) ∙ ap (λ x. new_row at x (place_at x n)) (sym same)

less_one : (m : ℕ) → 1 ≤ m → m ≡ suc (m - 1)
less_one m h = omega (arith, h)

none_left : (m : ℕ) → (1 ≤ m → ⊥) → m ≡ 0
none_left m h = omega (arith, h)

pub number_some : (at : Place → Change) (t u : Tree) (rows : List ℕ) (n m : ℕ) (o : Option ℕ) → rows ≡ new_rows_of at t → u ≡ t → n < size u → get_or rows n 0 ≡ m → SomeIff o (1 ≤ m) (m - 1) → IfSome o (λ k. new_row at u (place_at u n) ≡ suc k)
number_some at t u rows n m None is same h e w = tt
number_some at t u rows n m (Some k) is same h e w = sym (number_is at t u rows n is same h) ∙ e ∙ less_one m w.0 ∙ ap suc (sym w.1)

pub number_none : (at : Place → Change) (t u : Tree) (rows : List ℕ) (n m : ℕ) (o : Option ℕ) → rows ≡ new_rows_of at t → u ≡ t → n < size u → get_or rows n 0 ≡ m → SomeIff o (1 ≤ m) (m - 1) → o ≡ None → new_row at u (place_at u n) ≡ 0
number_none at t u rows n m None is same h e w z = sym (number_is at t u rows n is same h) ∙ e ∙ none_left m w
number_none at t u rows n m (Some k) is same h e w z = (let off : Some k ≡ None = z in cc)

-- ---- the cursor in the new tree

pub record IsNewCursor (s : Session) (c : Cursor) (n : ℕ) : Type 0 where
  pub kept : IsKeptCursor s c
  pub within : Within s.tree c.place
  pub is_row : n < size (result_of s)
  pub is : cursor_at (result_of s) n ≡ new_cursor s c

pub new_cursor_is : (s : Session) (t : Tree) (row n : ℕ) (c : Cursor) → t ≡ s.tree → row < size t → cursor_at t row ≡ c → new_row (at_of s) t (place_at t row) ≡ suc n → IsNewCursor s c n
new_cursor_is s t row n c same h is e =
    let old : row < size s.tree = omega (arith, h, ap size same) in
    let here : new_row (at_of s) s.tree (place_at s.tree row) ≡ suc n = sym (ap (λ x. new_row (at_of s) x (place_at x row)) same) ∙ e in
    let w : IsAtNew (at_of s) s.tree (place_at s.tree row) n = new_place (at_of s) s.tree (place_at s.tree row) n (within_at s.tree row old) here in
    let place : place_at s.tree row ≡ c.place = sym (ap (λ x. place_at x row) same) ∙ ap (λ x. x.place) is in
    record {
      kept = (sym (ap (λ x. x.tree) is) ∙ same, subst (IsKept (at_of s)) place w.kept);
      within = subst (Within s.tree) place (within_at s.tree row old);
      is_row = w.is_row;
      is = ap (λ x. at (result_of s) x) w.place ∙ ap (λ q. new_cursor s (at s.tree q)) place;
    }
  where
    at : Tree → Place → Cursor
    at x q = record { tree = x; place = q }

pub not_kept : (s : Session) (t : Tree) (row : ℕ) (c : Cursor) → cursor_at t row ≡ c → (t ≡ s.tree → new_row (at_of s) t (place_at t row) ≡ 0) → IsKeptCursor s c → ⊥
not_kept s t row c is none kept =
    let same : t ≡ s.tree = ap (λ x. x.tree) is ∙ kept.0 in
    let here : new_row (at_of s) s.tree (place_at s.tree row) ≡ 0 = sym (ap (λ x. new_row (at_of s) x (place_at x row)) same) ∙ none same in
    let place : place_at s.tree row ≡ c.place = sym (ap (λ x. place_at x row) same) ∙ ap (λ x. x.place) is in
    no_place (at_of s) s.tree (place_at s.tree row) here (subst (IsKept (at_of s)) (sym place) kept.1)

-- ---- the call's answer

pub element_some : (s : Session) (c new : Cursor) (n : ℕ) (o : Option (NodeOrToken Cursor Cursor)) → IsNewCursor s c n → new ≡ root_of (result_of s) → IfSome o (λ e. e ≡ element_of (cursor_at new.tree n)) → IfSome o (λ e. e ≡ element_of (new_cursor s c))
element_some s c new n None w root h = tt
element_some s c new n (Some e) w root h = h ∙ ap (λ x. element_of (cursor_at x.tree n)) root ∙ ap element_of w.is

pub element_kept : (s : Session) (c : Cursor) (n : ℕ) (o : Option (NodeOrToken Cursor Cursor)) → IsNewCursor s c n → IfSome o (λ e. IsKeptCursor s c)
element_kept s c n None w = tt
element_kept s c n (Some e) w = w.kept

pub element_there : (s : Session) (c new : Cursor) (n : ℕ) → IsNewCursor s c n → new ≡ root_of (result_of s) → size new.tree ≤ n → ⊥
element_there s c new n w root h = omega (arith, h, w.is_row, ap (λ x. size x.tree) root)

-- ---- of a node, and of a token

node_kept : (at : Place → Change) (t : Tree) → IsNode t → IsNode (changed at t)
node_kept at (node k c) h = tt
node_kept at (token k x) h = absurd h

token_kept : (at : Place → Change) (t : Tree) → IsToken t → IsToken (changed at t)
token_kept at (node k c) h = absurd h
token_kept at (token k x) h = tt

same_focus : (s : Session) (c : Cursor) (n : ℕ) → IsNewCursor s c n → focus (new_cursor s c) ≡ changed (below_place (at_of s) c.place) (focus c)
same_focus s c n w =
    kept_places_move (at_of s) s.tree c.place w.within w.kept.1 ∙ ap (λ t. changed (below_place (at_of s) c.place) (subtree t c.place)) (sym w.kept.0)

as_node : (t : Tree) (c : Cursor) → IsNode t → node_part (element_by t c) ≡ Some c
as_node (node k f) c h = refl
as_node (token k x) c h = absurd h

as_token : (t : Tree) (c : Cursor) → IsToken t → token_part (element_by t c) ≡ Some c
as_token (node k f) c h = absurd h
as_token (token k x) c h = refl

same_element : (s : Session) (c new : Cursor) (n : ℕ) (e : NodeOrToken Cursor Cursor) → IsNewCursor s c n → new ≡ root_of (result_of s) → e ≡ element_of (cursor_at new.tree n) → e ≡ element_of (new_cursor s c)
same_element s c new n e w root h = h ∙ ap (λ x. element_of (cursor_at x.tree n)) root ∙ ap element_of w.is

pub node_answer : (s : Session) (c new : Cursor) (n : ℕ) (e : NodeOrToken Cursor Cursor) (o : Option Cursor) → IsNewCursor s c n → new ≡ root_of (result_of s) → IsNode (focus c) → e ≡ element_of (cursor_at new.tree n) → o ≡ node_part e → o ≡ Some (new_cursor s c)
node_answer s c new n e o w root is h made =
    made ∙ ap node_part (same_element s c new n e w root h)
    ∙ as_node (focus (new_cursor s c)) (new_cursor s c) (subst IsNode (sym (same_focus s c n w)) (node_kept (below_place (at_of s) c.place) (focus c) is))

pub token_answer : (s : Session) (c new : Cursor) (n : ℕ) (e : NodeOrToken Cursor Cursor) (o : Option Cursor) → IsNewCursor s c n → new ≡ root_of (result_of s) → IsToken (focus c) → e ≡ element_of (cursor_at new.tree n) → o ≡ token_part e → o ≡ Some (new_cursor s c)
token_answer s c new n e o w root is h made =
    made ∙ ap token_part (same_element s c new n e w root h)
    ∙ as_token (focus (new_cursor s c)) (new_cursor s c) (subst IsToken (sym (same_focus s c n w)) (token_kept (below_place (at_of s) c.place) (focus c) is))

pub answer_some : (o : Option Cursor) (x : Cursor) → o ≡ Some x → IfSome o (λ y. y ≡ x)
answer_some None x h = tt
answer_some (Some y) x h = (let same : Some y ≡ Some x = h in cc)

pub answer_kept : (o : Option Cursor) (P : Type 0) → P → IfSome o (λ y. P)
answer_kept None P h = tt
answer_kept (Some y) P h = h

pub answer_none : (o : Option Cursor) (x : Cursor) → o ≡ Some x → o ≡ None → ⊥
answer_none o x h e = (let off : Some x ≡ None = sym h ∙ e in cc)
