-- A language as functions of the arguments.
use Rattle.std.specs.Prelude.{ℕ, List, Option}
use Rattle.syntax_kind.specs.declared.syntax_kind.SyntaxKind.{SyntaxKind}
use Rattle.ras_front_end.specs.declared.edition.Edition.{Edition}
use Rattle.token_layout.specs.declared.span.Token.{Token}
use Rattle.grammar_machine.specs.declared.grammar.Sight.{Sight}
use Rattle.grammar_machine.specs.Running.{Tables}
use Rattle.grammar_front.specs.declared.language.ErrorPlace.{ErrorPlace}
use Rattle.grammar_front.specs.declared.language.Target.{Target}

pub record LanguageAnswers : Type 0 where
  pub tables : Tables
  pub rule : Target → ℕ
  pub sights : Edition → List ℕ → List Token → List Sight
  pub message : ℕ → List Token → List ℕ
  pub error_place : ErrorPlace
  pub attaching : List SyntaxKind
  pub reparser : SyntaxKind → Option SyntaxKind → Option SyntaxKind → Option ℕ
