-- Many changes of a tree, as rows.
use Rattle.std.specs.Prelude.{◌≡◌, ◌⊎◌, ℕ, ◌<◌, ◌≤◌, ◌^◌, ◌==◌, if◌then◌else◌, List, [], ◌∷◌, length, IsCharBoundary, Option, None, Some}
use Rattle.std.specs.List.{slice_range}
use Rattle.syntax_kind.specs.declared.syntax_kind.SyntaxKind.TheVariants as kinds
use Rattle.syntax_kind.specs.declared.syntax_kind.token_kind.TokenKind.TheVariants as token
use Rattle.tree_model.specs.Tree.{Tree, text, size}
use Rattle.tree_model.specs.Events.{Event, enter, leaf, exit}
use Rattle.tree_model.specs.Cursor.{Cursor, cursor_at, focus}
use Rattle.tree_model.specs.Edit.{root_of}
use Rattle.lossless_tree.specs.declared.cursor.element.NodeOrToken.{NodeOrToken}
use Rattle.lossless_tree.specs.declared.cursor.element.NodeOrToken.TheVariants.{Node, Token}
use Rattle.lossless_tree.specs.Element.{element_of}
use Rattle.tree_edits.specs.declared.error.ChangeError.{ChangeError}
use Rattle.tree_edits.specs.declared.error.ChangeError.TheVariants as refused
use Rattle.tree_edits.specs.Session.{result_of}
use Rattle.syntax_editor.specs.declared.position.Position.{Position}
use Rattle.syntax_editor.specs.Annotated.{Editing, IsNewEditing}
use Rattle.syntax_editor.specs.Editor.{tree_of, before, after, instead_of, first_child_of, last_child_of, with_trees, IsTakenAt, IsRefusedAt}
use Rattle.ras_c.specs.declared.change_rows.ChangeRow.{ChangeRow}

-- the status of a change that the editor refuses
abbrev pub change_status : ChangeError → ℕ
change_status refused.OtherTree = 6
change_status refused.NotSiblings = 6
change_status refused.Root = 21
change_status refused.Token = 22
change_status refused.Replaced = 23
change_status refused.InReplaced = 24
change_status refused.ChangedInside = 25
change_status refused.TooLong = 2
change_status refused.Memory = 3

-- the events of a node with one token
abbrev pub events_with : List ℕ → List Event
events_with t = enter (kinds.Token token.ERROR) ∷ leaf (kinds.Token token.ERROR) t ∷ exit ∷ []

-- a part of a text, between characters
pub record IsPart (s : List ℕ) (start end : ℕ) : Type 0 where
  pub forwards : start ≤ end
  pub start_boundary : IsCharBoundary s start
  pub end_boundary : IsCharBoundary s end

-- one tree that has this part as its text
pub record HasPart (s : List ℕ) (start end : ℕ) (ts : List Tree) : Type 0 where
  pub is_part : IsPart s start end
  pub tree : Tree
  pub text_is : text tree ≡ slice_range s start end
  pub trees_are : ts ≡ tree ∷ []

-- the element at a row of a tree
abbrev pub element_at : Tree → ℕ → NodeOrToken Cursor Cursor
element_at tree row = element_of (cursor_at tree row)

-- its tree
pub record HasRow (tree : Tree) (row : ℕ) (ts : List Tree) : Type 0 where
  pub inside : row < size tree
  pub trees_are : ts ≡ tree_of (element_at tree row) ∷ []

-- what a change of the tree puts in: nothing (0), a part of the texts (1) or a copy of a row (2)
abbrev pub IsContent : Tree → List ℕ → ChangeRow → List Tree → Type 0
IsContent tree texts r ts =
    (r.content ≡ 0) × (ts ≡ [])
    ⊎ ((r.content ≡ 1) × HasPart texts r.start r.end ts
    ⊎ (r.content ≡ 2) × HasRow tree r.start ts)

-- why it puts nothing in: there is no such part (20), no such row (6), or no such content (26)
abbrev pub IsNoContent : Tree → List ℕ → ChangeRow → ℕ → Type 0
IsNoContent tree texts r status =
    (status ≡ 20) × (r.content ≡ 1) × (IsPart texts r.start r.end → ⊥)
    ⊎ ((status ≡ 6) × (r.content ≡ 2) × (size tree ≤ r.start)
    ⊎ (status ≡ 26) × (3 ≤ r.content))

-- a position in a node; a token has none
abbrev pub inside_of : (Cursor → Position) → NodeOrToken Cursor Cursor → Option Position
inside_of f (Node c) = Some (f c)
inside_of f (Token c) = None

-- the position with a number
abbrev pub position_at : NodeOrToken Cursor Cursor → ℕ → Option Position
position_at e n =
    if n == 0 then Some (instead_of e) else (
    if n == 1 then Some (before e) else (
    if n == 2 then Some (after e) else (
    if n == 3 then inside_of first_child_of e else (
    if n == 4 then inside_of last_child_of e else
    None))))

-- trees are put at the position with a number
pub record IsPutAt (old : Editing) (e : NodeOrToken Cursor Cursor) (place : ℕ) (ts : List Tree) (new : Editing) : Type 0 where
  pub position : Position
  pub position_is : position_at e place ≡ Some position
  pub taken : IsTakenAt old position
  pub new_is : new ≡ with_trees old position ts

-- the editor refuses it, and the status says why
pub record IsRefusedBy (old : Editing) (e : NodeOrToken Cursor Cursor) (place status : ℕ) : Type 0 where
  pub position : Position
  pub position_is : position_at e place ≡ Some position
  pub refusal : ChangeError
  pub is_refused : IsRefusedAt old position refusal
  pub status_is : status ≡ change_status refusal

-- there is no position: none has the number (26), or it would be in a token (22)
abbrev pub IsNoPosition : NodeOrToken Cursor Cursor → ℕ → ℕ → Type 0
IsNoPosition e place status = (position_at e place ≡ None) × ((status ≡ 26) × (5 ≤ place) ⊎ (status ≡ 22) × (place ≤ 4))

-- they are not: there is no position, or the editor refuses
abbrev pub IsNotPutAt : Editing → NodeOrToken Cursor Cursor → ℕ → ℕ → Type 0
IsNotPutAt old e place status = IsNoPosition e place status ⊎ IsRefusedBy old e place status

-- one change is made
pub record IsPut (tree : Tree) (texts : List ℕ) (old : Editing) (r : ChangeRow) (new : Editing) : Type 0 where
  pub inside : r.row < size tree
  pub content : List Tree
  pub is_content : IsContent tree texts r content
  pub is_put : IsPutAt old (element_at tree r.row) r.place content new

-- it is not: the tree has no such row (6), or it has, but the content or the editor refuse
abbrev pub IsNotPut : Tree → List ℕ → Editing → ChangeRow → ℕ → Type 0
IsNotPut tree texts old r status =
    (status ≡ 6) × (size tree ≤ r.row)
    ⊎ (r.row < size tree) × (IsNoContent tree texts r status ⊎ IsNotPutAt old (element_at tree r.row) r.place status)

-- each of some changes is made, one after another
abbrev pub ArePut : Tree → List ℕ → Editing → List ChangeRow → Editing → Type 0
ArePut tree texts old [] new = new ≡ old
ArePut tree texts old (r ∷ rs) new = (next : Editing) × IsPut tree texts old r next × ArePut tree texts next rs new

-- one of them is not, after those before it
abbrev pub AreNotPut : Tree → List ℕ → Editing → List ChangeRow → ℕ → Type 0
AreNotPut tree texts old [] status = ⊥
AreNotPut tree texts old (r ∷ rs) status =
    IsNotPut tree texts old r status
    ⊎ (next : Editing) × IsPut tree texts old r next × AreNotPut tree texts next rs status

-- the root of the tree with all changes
pub record IsChangedBy (tree : Tree) (texts : List ℕ) (rows : List ChangeRow) (new : Cursor) : Type 0 where
  pub begin : Editing
  pub is_new : IsNewEditing tree begin
  pub end : Editing
  pub are_put : ArePut tree texts begin rows end
  pub new_is : new ≡ root_of (result_of end.session)
  pub is_short : length (text (result_of end.session)) < 2 ^ 32

-- all are made, but the new text would be too long (2)
pub record IsTooLong (tree : Tree) (texts : List ℕ) (begin : Editing) (rows : List ChangeRow) (status : ℕ) : Type 0 where
  pub end : Editing
  pub are_put : ArePut tree texts begin rows end
  pub status_is : status ≡ 2
  pub is_long : 2 ^ 32 ≤ length (text (result_of end.session))

-- there is no such tree
pub record IsUnchangedBy (tree : Tree) (texts : List ℕ) (rows : List ChangeRow) (status : ℕ) : Type 0 where
  pub begin : Editing
  pub is_new : IsNewEditing tree begin
  pub why : AreNotPut tree texts begin rows status ⊎ IsTooLong tree texts begin rows status

-- the text of the changed tree has a property
pub record HasChanged (tree : Tree) (texts : List ℕ) (rows : List ChangeRow) (P : List ℕ → Type 0) : Type 0 where
  pub new : Cursor
  pub is_changed : IsChangedBy tree texts rows new
  pub holds : P (text (focus new))
