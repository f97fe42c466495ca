-- Patterns of kinds, their last step first.
use Rattle.std.specs.Prelude.{Bool, true, false, ◌&&◌, ◌||◌, List, [], ◌∷◌, Option, Some, None}
use Rattle.std.specs.List.{list_any}
use Rattle.syntax_kind.specs.declared.syntax_kind.SyntaxKind.{SyntaxKind}
use Rattle.syntax_kind.specs.Kinds.{is_same_kind}
use Rattle.tree_model.specs.Cursor.{Cursor, parent_of, ancestors_of}
use Rattle.lossless_tree.specs.declared.cursor.element.NodeOrToken.{NodeOrToken}
use Rattle.lossless_tree.specs.Element.{cursor_of}
use Rattle.ras_node.specs.Nodes.{kind_at}
use Rattle.rust_report.specs.declared.pattern.Step.{Step}
use Rattle.rust_report.specs.declared.pattern.Link.{Link}
use Rattle.rust_report.specs.declared.pattern.Link.TheVariants.{Child, Within}

abbrev pub is_wanted : Option SyntaxKind → SyntaxKind → Bool
is_wanted None k = true
is_wanted (Some wanted) k = is_same_kind k wanted

-- the step is one of any kind, or of this one
abbrev pub allows : Step → SyntaxKind → Bool
allows s k = is_wanted s.kind k

-- the parent passes the test; or a node above does
abbrev pub among : Link → (Cursor → Bool) → Option Cursor → Bool
among link test None = false
among Child test (Some parent) = test parent
among Within test (Some parent) = list_any test (ancestors_of parent)

abbrev pub is_last : List Step → Bool
is_last [] = true
is_last (s ∷ r) = false

-- what has this kind, below this parent, fits the steps, the last of the pattern first
abbrev pub fits : List Step → SyntaxKind → Option Cursor → Bool
fits [] k above = true
fits (s ∷ r) k above = allows s k && (is_last r || among s.link (λ c. fits r (kind_at c) (parent_of c)) above)

abbrev pub fits_at : List Step → NodeOrToken Cursor Cursor → Bool
fits_at steps x = fits steps (kind_at (cursor_of x)) (parent_of (cursor_of x))
