-- Tokens that cut a text, and steps that build one tree of it.
use Rattle.std.specs.Prelude.{◌≡◌, ℕ, ◌≤◌, List, [], ◌∷◌, length, take, drop, IsUtf8}
use Rattle.syntax_kind.specs.declared.syntax_kind.SyntaxKind.{SyntaxKind}
use Rattle.tree_model.specs.Tree.{Tree, kind_of}
use Rattle.tree_model.specs.Events.{BuildsNode}
use Rattle.ras_front_end.specs.Reading.{FrontStep, events_from, Cuts, step_faults}
use Rattle.token_layout.specs.declared.span.Token.{Token}

-- the tokens cut the text on character boundaries, one after another, and use it up
abbrev pub IsCut : List Token → List ℕ → Type 0
IsCut [] s = s ≡ []
IsCut (t ∷ ts) s = (t.len ≤ length s) × IsUtf8 (take t.len s) × IsCut ts (drop t.len s)

-- the steps cut the text and build one tree with such a root; no error is among them
pub record Laid (root : SyntaxKind) (text : List ℕ) (steps : List FrontStep) : Type 0 where
  pub tree : Tree
  pub cuts : Cuts steps text
  pub builds : BuildsNode (events_from steps text) tree
  pub root_is : kind_of tree ≡ root
  pub no_faults : step_faults steps ≡ []
