-- A parse: a tree, and the errors that are stored with it.
use Rattle.std.specs.Prelude.{◌≡◌, ℕ, List, length, All, refl}
use Rattle.std.specs.Coded.{Coded, code_by, coded×, coded_list}
use Rattle.tree_model.specs.Tree.{Tree, text}
use Rattle.tree_model.specs.TreeCode.{tree_code}
use Rattle.tree_model.specs.Events.{BuildsNode}
use Rattle.ras_front_end.specs.ErrorModel.{ErrorModel, LiesIn, fault_code}
use Rattle.ras_front_end.specs.Reading.{Reading, events_from, stored_faults}

pub record Parsed : Type 0 where
  pub tree : Tree
  pub errors : List ErrorModel

abbrev pub parsed_code : Coded Parsed
parsed_code = code_by (Tree × List ErrorModel) (coded× tree_code (coded_list fault_code)) (λ p. (p.tree, p.errors)) (λ p. record { tree = p.0; errors = p.1 }) (λ _. refl)

-- the tree is that of the reading's steps, its text is the text that was given, and the errors are
-- those of the steps and then the lexer's
pub record IsParseOf (input : List ℕ) (r : Reading) (p : Parsed) : Type 0 where
  pub builds : BuildsNode (events_from r.steps input) p.tree
  pub text_is : text p.tree ≡ input
  pub errors_are : p.errors ≡ stored_faults r

-- the ranges of the stored errors are within the text
abbrev pub ErrorsLieIn : Parsed → Type 0
ErrorsLieIn p = All (LiesIn (length (text p.tree))) p.errors
