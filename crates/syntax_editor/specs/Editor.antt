-- Positions of elements in a tree that is changed, and what an editor answers.
-- (Upstream: rust-analyzer's `syntax_editor::{SyntaxEditor, Position, SyntaxEdit}`.)
use Rattle.std.specs.Prelude.{◌≡◌, ℕ, List, [], ◌∷◌, ◌++◌, map, filter_map, nat_eq, Option, Some, None, if◌then◌else◌}
use Rattle.tree_model.specs.Tree.{Tree, text}
use Rattle.tree_model.specs.Rows.{place_at}
use Rattle.tree_model.specs.Cursor.{Cursor, focus}
use Rattle.lossless_tree.specs.declared.cursor.element.NodeOrToken.{NodeOrToken}
use Rattle.lossless_tree.specs.Element.{cursor_of, element_of}
use Rattle.tree_edits.specs.declared.change.Slot.TheVariants.{Before, Instead, First, Last, After}
use Rattle.syntax_editor.specs.declared.position.Position.{Position}
use Rattle.text_edit.specs.Replacements.{Replacement, edited}
use Rattle.tree_edit_model.specs.Texts.{edits_of, text_edit_of}
use Rattle.tree_edits.specs.declared.error.ChangeError.{ChangeError}
use Rattle.tree_edits.specs.declared.error.ChangeError.TheVariants.{OtherTree, Memory}
use Rattle.tree_edits.specs.Kept.{is_kept, new_row}
use Rattle.syntax_editor.specs.declared.annotation.SyntaxAnnotation.{SyntaxAnnotation}
use Rattle.syntax_editor.specs.Annotated.{Note, Editing}
use Rattle.syntax_editor.specs.Spot.{Spot, row_at, spot_of, cursor_of_spot}
use Rattle.tree_edit_model.specs.Moved.{moved, IsKept}
use Rattle.tree_edits.specs.Session.{Session, with_elements_at, at_of, result_of}
use Rattle.tree_edits.specs.Refused.{IsTaken, IsRefused}
use Rattle.tree_edits.specs.Run.{IsRunReplaced, IsRunRefused}

-- what an element is
abbrev pub tree_of : NodeOrToken Cursor Cursor → Tree
tree_of e = focus (cursor_of e)

-- what the elements are, in order
abbrev pub trees_of : List (NodeOrToken Cursor Cursor) → List Tree
trees_of es = map tree_of es

-- before, after and in the place of an element
abbrev pub before : NodeOrToken Cursor Cursor → Position
before e = record { place = spot_of (cursor_of e); slot = Before }

abbrev pub after : NodeOrToken Cursor Cursor → Position
after e = record { place = spot_of (cursor_of e); slot = After }

abbrev pub instead_of : NodeOrToken Cursor Cursor → Position
instead_of e = record { place = spot_of (cursor_of e); slot = Instead }

-- inside a node, before its first child and after its last
abbrev pub first_child_of : Cursor → Position
first_child_of c = record { place = spot_of c; slot = First }

abbrev pub last_child_of : Cursor → Position
last_child_of c = record { place = spot_of c; slot = Last }

-- trees are added at a position
abbrev pub with_trees : Editing → Position → List Tree → Editing
with_trees e p ts = record e { session = with_elements_at e.session p.place.row p.slot ts }

-- a change at a position is taken
abbrev pub IsTakenAt : Editing → Position → Type 0
IsTakenAt e p = (p.place.tree ≡ e.session.tree) × IsTaken e.session p.place.row p.slot

-- why it is not
abbrev pub IsRefusedAt : Editing → Position → ChangeError → Type 0
IsRefusedAt e p OtherTree = p.place.tree ≡ e.session.tree → ⊥
IsRefusedAt e p x = (p.place.tree ≡ e.session.tree) × IsRefused e.session p.place.row p.slot x

-- trees stand in the place of the siblings from one cursor to another
pub record ReplacesRun (e : Editing) (c d : Cursor) (ts : List Tree) (e' : Editing) : Type 0 where
  pub first_in_tree : c.tree ≡ e.session.tree
  pub last_in_tree : d.tree ≡ e.session.tree
  pub run : IsRunReplaced e.session (row_at c) (row_at d) ts e'.session
  pub same : e' ≡ record e { session = e'.session }

-- why they do not
abbrev pub IsRunRefusedAt : Editing → Cursor → Cursor → ChangeError → Type 0
IsRunRefusedAt e c d OtherTree = (c.tree ≡ e.session.tree) × (d.tree ≡ e.session.tree) → ⊥
IsRunRefusedAt e c d x = (c.tree ≡ e.session.tree) × (d.tree ≡ e.session.tree) × IsRunRefused e.session (row_at c) (row_at d) x

-- an element has an annotation too
abbrev pub with_note : Editing → SyntaxAnnotation → Cursor → Editing
with_note e a c = record e { notes = e.notes ++ record { annotation = a.number; cursor = c } ∷ [] }

-- the cursor is one of the tree that is changed
abbrev pub IsOfTree : Editing → Cursor → Type 0
IsOfTree e c = c.tree ≡ e.session.tree

-- why an element is not annotated
abbrev pub IsNotAnnotated : Editing → Cursor → ChangeError → Type 0
IsNotAnnotated e c OtherTree = IsOfTree e c → ⊥
IsNotAnnotated e c x = IsOfTree e c × (x ≡ Memory)

-- the text of the changed tree is the old text with the edit that the changes are
abbrev pub IsEditedText : Session → Tree → Type 0
IsEditedText s t = text t ≡ edited (text s.tree) (edits_of (at_of s) s.tree)

-- the edit of the text that a session is
abbrev pub text_edit_of_session : Session → List Replacement
text_edit_of_session s = text_edit_of (at_of s) s.tree

-- the edit turns the text at one cursor into that at another
abbrev pub Turns : Cursor → Cursor → List Replacement → Type 0
Turns old new es = text (focus new) ≡ edited (text (focus old)) es

-- the cursor is one of the old tree, and neither what is there nor anything around it is replaced
abbrev pub IsKeptCursor : Session → Cursor → Type 0
IsKeptCursor s c = (c.tree ≡ s.tree) × IsKept (at_of s) c.place

abbrev pub IsKeptElement : Session → NodeOrToken Cursor Cursor → Type 0
IsKeptElement s e = IsKeptCursor s (cursor_of e)

-- where it is in the new tree
abbrev pub new_cursor : Session → Cursor → Cursor
new_cursor s c = record { tree = result_of s; place = moved (at_of s) s.tree c.place }

abbrev pub new_element : Session → NodeOrToken Cursor Cursor → NodeOrToken Cursor Cursor
new_element s e = element_of (new_cursor s (cursor_of e))

-- of what is at a spot: its row in the new tree, counted from 1, or 0 if it is not kept; the
-- element there; whether it is kept
abbrev pub row_after : Session → Spot → ℕ
row_after s p = new_row (at_of s) p.tree (place_at p.tree p.row)

abbrev pub element_after : Session → Spot → NodeOrToken Cursor Cursor
element_after s p = element_of (new_cursor s (cursor_of_spot p))

abbrev pub IsKeptSpot : Session → Spot → Type 0
IsKeptSpot s p = IsKeptCursor s (cursor_of_spot p)

-- the element of a note in the new tree, if it has the annotation and is kept
abbrev pub found_note : Session → SyntaxAnnotation → Note → Option (NodeOrToken Cursor Cursor)
found_note s a n =
    if nat_eq n.annotation a.number
    then (if is_kept (at_of s) n.cursor.place then Some (element_of (new_cursor s n.cursor)) else None)
    else None

-- those of all notes, in the order of the calls
abbrev pub found_notes : Session → SyntaxAnnotation → List Note → List (NodeOrToken Cursor Cursor)
found_notes s a notes = filter_map (found_note s a) notes
