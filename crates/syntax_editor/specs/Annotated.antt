-- Elements with annotations, and what an editor holds. (Upstream: rust-analyzer's
-- `SyntaxAnnotation`, whose numbers are counted for the whole program; here each editor counts its
-- own.)
use Rattle.std.specs.Prelude.{◌≡◌, ℕ, List, [], ◌∷◌, ⊤, refl}
use Rattle.std.specs.Coded.{Coded, code_by, coded×, coded_ℕ, coded_list, Coded-set, ×_prop, Unit-prop}
use Rattle.tree_model.specs.Tree.{Tree}
use Rattle.tree_model.specs.TreeCode.{tree_code}
use Rattle.tree_model.specs.Cursor.{Cursor, cursor_code}
use Rattle.tree_model.specs.Edit.{root_of}
use Rattle.tree_edits.specs.Session.{Session, session_code, IsNew}

-- the number of an annotation, and an element that has it
pub record Note : Type 0 where
  pub annotation : ℕ
  pub cursor : Cursor

abbrev pub note_code : Coded Note
note_code = code_by (ℕ × Cursor) (coded× coded_ℕ cursor_code) (λ n. (n.annotation, n.cursor)) (λ p. record { annotation = p.0; cursor = p.1 }) (λ _. refl)

-- the changes of a tree, how many annotations were made, and the elements that have one, in the
-- order of the calls
pub record Editing : Type 0 where
  pub session : Session
  pub made : ℕ
  pub notes : List Note

abbrev pub editing_code : Coded Editing
editing_code =
    code_by (Session × (ℕ × List Note)) (coded× session_code (coded× coded_ℕ (coded_list note_code))) (λ e. (e.session, (e.made, e.notes))) (λ p. record { session = p.0; made = p.1.0; notes = p.1.1 }) (λ _. refl)

-- each of them is an element of the tree
abbrev pub AreOf : Tree → List Note → Type 0
AreOf tree [] = ⊤
AreOf tree (n ∷ notes) = (n.cursor.tree ≡ tree) × AreOf tree notes

pub AreOf-prop : (tree : Tree) (notes : List Note) → IsProp (AreOf tree notes)
AreOf-prop tree [] = Unit-prop
AreOf-prop tree (n ∷ notes) = ×_prop (Coded-set tree_code n.cursor.tree tree) (AreOf-prop tree notes)

-- what an editor keeps
pub record IsEditing (root : Cursor) (tree : Tree) (notes : List Note) : Type 0 where
  pub root_is : root ≡ root_of tree
  pub notes_are : AreOf tree notes

-- nothing is changed yet, and nothing annotated
pub record IsNewEditing (tree : Tree) (e : Editing) : Type 0 where
  pub session : IsNew tree e.session
  pub made : e.made ≡ 0
  pub notes : e.notes ≡ []
