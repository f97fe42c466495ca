-- Nodes that are made from a text.
use Rattle.std.specs.Prelude.{◌≡◌, ℕ, ◌≤◌, ◌^◌, ◌==◌, ◌⊎◌, Bool, true, false, ◌&&◌, List, [], ◌∷◌, length, Option, Some, None, ⊤}
use Rattle.std.specs.List.{filter, find}
use Rattle.std.specs.Cmp.Lexicographic.{pointwise}
use Rattle.syntax_kind.specs.declared.syntax_kind.SyntaxKind.{SyntaxKind}
use Rattle.tree_model.specs.Tree.{text}
use Rattle.tree_model.specs.Cursor.{Cursor, focus, range_start, descendants_of, at_node}
use Rattle.tree_model.specs.Edit.{root_of}
use Rattle.ras_node.specs.Nodes.{kind_at}
use Rattle.ras_front_end.specs.declared.edition.Entry.TheVariants.{SourceFile}
use Rattle.ras_front_end.specs.declared.edition.Edition.{Edition}
use Rattle.ras_front_end.specs.ErrorModel.{ErrorModel}
use Rattle.ras_front_end.specs.Front.{Front}
use Rattle.ras_front_end.specs.Parsed.{Parsed, IsParseOf}
use Rattle.ras_parsing.specs.AllErrors.{all_errors}
use Rattle.syntax_make.specs.declared.place.Place.{Place}
use Rattle.syntax_make.specs.declared.error.MakeError.{MakeError}
use Rattle.syntax_make.specs.declared.error.MakeError.TheVariants.{Syntax, NotOne, NoPlace, TooLong, Memory}
use Rattle.syntax_make.specs.Places.{before_of, second_of, in_place}
use Rattle.syntax_make.specs.Failures.{is_misread}

-- the parse of a text as a file
abbrev pub IsFileOf : Front → Edition → List ℕ → Parsed → Type 0
IsFileOf front edition s p = IsParseOf s (front.parsed SourceFile edition s) p

-- the first of some errors; None if there are none
abbrev pub IsFirstOf : List ErrorModel → Option ErrorModel → Type 0
IsFirstOf faults None = faults ≡ []
IsFirstOf faults (Some fault) = (rest : List ErrorModel) × (faults ≡ fault ∷ rest)

-- the parse of a text as a file, without errors
pub record IsCleanOf (front : Front) (edition : Edition) (s : List ℕ) (p : Parsed) : Type 0 where
  pub parsed : IsFileOf front edition s p
  pub clean : all_errors p ≡ []

-- a node that starts there and has this text
abbrev pub is_at : ℕ → List ℕ → Cursor → Bool
is_at start s c = range_start c == start && pointwise ◌==◌ (text (focus c)) s

-- one of such a kind
abbrev pub is_there : (SyntaxKind → Bool) → ℕ → List ℕ → Cursor → Bool
is_there casts start s c = casts (kind_at c) && is_at start s c

-- the first of these below a node, in preorder
abbrev pub node_there : (SyntaxKind → Bool) → ℕ → List ℕ → Cursor → Option Cursor
node_there casts start s root = find (is_there casts start s) (filter at_node (descendants_of root))

-- the text stands at this place in a file without errors, and is this node there: the outermost of
-- such a kind; it is given as a tree of its own
pub record IsMadeIn (front : Front) (edition : Edition) (place : Place) (casts : SyntaxKind → Bool) (s : List ℕ) (made : Cursor) : Type 0 where
  pub file : Parsed
  pub clean : IsCleanOf front edition (in_place place s) file
  pub there : Cursor
  pub found : node_there casts (length (before_of place)) s (root_of file.tree) ≡ Some there
  pub alone : made ≡ root_of (focus there)

-- why it is not: the first error of the file; or there is no error, and no such node
pub record IsFaultIn (front : Front) (edition : Edition) (s : List ℕ) (fault : ErrorModel) : Type 0 where
  pub file : Parsed
  pub parsed : IsFileOf front edition s file
  pub first : IsFirstOf (all_errors file) (Some fault)

pub record IsNoneIn (front : Front) (edition : Edition) (place : Place) (casts : SyntaxKind → Bool) (s : List ℕ) : Type 0 where
  pub file : Parsed
  pub clean : IsCleanOf front edition (in_place place s) file
  pub missing : node_there casts (length (before_of place)) s (root_of file.tree) ≡ None

abbrev pub IsRefusedIn : Front → Edition → Place → (SyntaxKind → Bool) → List ℕ → MakeError → Type 0
IsRefusedIn front edition place casts s (Syntax fault) = IsFaultIn front edition (in_place place s) fault
IsRefusedIn front edition place casts s NotOne = IsNoneIn front edition place casts s
IsRefusedIn front edition place casts s NoPlace = ⊥
IsRefusedIn front edition place casts s TooLong = 2 ^ 32 ≤ length (in_place place s)
IsRefusedIn front edition place casts s Memory = ⊤

-- at this place the text does not read as such a node
pub record IsMisreadIn (front : Front) (edition : Edition) (place : Place) (casts : SyntaxKind → Bool) (s : List ℕ) : Type 0 where
  pub error : MakeError
  pub refused : IsRefusedIn front edition place casts s error
  pub misread : is_misread error ≡ true

-- made at the second place, if there is one; misread there, or there is none; and refused there for
-- another reason than what the text reads as
abbrev pub IsMadeSecond : Front → Edition → Option Place → (SyntaxKind → Bool) → List ℕ → Cursor → Type 0
IsMadeSecond front edition None casts s made = ⊥
IsMadeSecond front edition (Some place) casts s made = IsMadeIn front edition place casts s made

abbrev pub IsMisreadSecond : Front → Edition → Option Place → (SyntaxKind → Bool) → List ℕ → Type 0
IsMisreadSecond front edition None casts s = ⊤
IsMisreadSecond front edition (Some place) casts s = IsMisreadIn front edition place casts s

abbrev pub IsStoppedSecond : Front → Edition → Option Place → (SyntaxKind → Bool) → List ℕ → MakeError → Type 0
IsStoppedSecond front edition None casts s e = ⊥
IsStoppedSecond front edition (Some place) casts s e = IsRefusedIn front edition place casts s e × (is_misread e ≡ false)

-- made at this place, or at the second one if it is misread here
abbrev pub IsMadeFrom : Front → Edition → Place → (SyntaxKind → Bool) → List ℕ → Cursor → Type 0
IsMadeFrom front edition place casts s made =
    IsMadeIn front edition place casts s made
    ⊎ (IsMisreadIn front edition place casts s × IsMadeSecond front edition (second_of place) casts s made)

-- refused here for another reason than what the text reads as; misread here, and so where else it
-- is tried; or misread here, and refused there for another reason
abbrev pub IsRefusedFrom : Front → Edition → Place → (SyntaxKind → Bool) → List ℕ → MakeError → Type 0
IsRefusedFrom front edition place casts s e =
    (IsRefusedIn front edition place casts s e × (is_misread e ≡ false))
    ⊎ ((IsRefusedIn front edition place casts s e × (is_misread e ≡ true)) × IsMisreadSecond front edition (second_of place) casts s)
    ⊎ (IsMisreadIn front edition place casts s × IsStoppedSecond front edition (second_of place) casts s e)

-- at the place of a view's kinds, if there is one
abbrev pub IsMadeAt : Front → Edition → Option Place → (SyntaxKind → Bool) → List ℕ → Cursor → Type 0
IsMadeAt front edition None casts s made = ⊥
IsMadeAt front edition (Some place) casts s made = IsMadeFrom front edition place casts s made

abbrev pub IsRefusedAt : Front → Edition → Option Place → (SyntaxKind → Bool) → List ℕ → MakeError → Type 0
IsRefusedAt front edition None casts s e = e ≡ NoPlace
IsRefusedAt front edition (Some place) casts s e = IsRefusedFrom front edition place casts s e

-- why a file is not parsed without errors
abbrev pub IsUnclean : Front → Edition → List ℕ → MakeError → Type 0
IsUnclean front edition s (Syntax fault) = IsFaultIn front edition s fault
IsUnclean front edition s NotOne = ⊥
IsUnclean front edition s NoPlace = ⊥
IsUnclean front edition s TooLong = 2 ^ 32 ≤ length s
IsUnclean front edition s Memory = ⊤
