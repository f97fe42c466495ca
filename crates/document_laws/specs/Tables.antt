-- What holds of Rust's tables, found by computation.
use Rattle.std.specs.Prelude.{◌≡◌, ℕ, true, false, Some, slice_get}
use Rattle.syntax_kind.specs.declared.syntax_kind.SyntaxKind.{SyntaxKind}
use Rattle.ras_front_end.specs.declared.edition.Reparser.{Reparser}
use Rattle.grammar_machine.specs.declared.grammar.Op.TheVariants as op
use Rattle.grammar_machine.specs.Running.{is_among}
use Rattle.grammar_machine.specs.Filling.{LooksAreShort}
use Rattle.grammar_machine.specs.Reading.{IsSealedRule}
use Rattle.event_layout.specs.Trivia.{attaches_of}
use Rattle.rust_grammar.specs.Tables.{rust_tables}
use Rattle.rust_grammar.specs.Rules.{first_op}
use Rattle.rust_front.specs.Pieces.{exact_chosen_of, rule_by_number}
use Rattle.rust_front.specs.Roots.{attaching_kinds}
use Rattle.document_laws.specs.Calls.{OnlyCallsSeal}

-- no operation but a sealed call makes a node of a kind that the tables list
abbrev pub RustSealsByCalls : Type 0
RustSealsByCalls = OnlyCallsSeal rust_tables

abbrev pub RustLooksAreShort : Type 0
RustLooksAreShort = LooksAreShort rust_tables

-- a reparser's rule is one sealed call, and so are all operations that make nodes of its kind:
-- calls of the same rule
pub record IsExactRule (k : SyntaxKind) (r : Reparser) : Type 0 where
  pub kind : r.kind ≡ k
  pub target : ℕ
  pub rule : IsSealedRule rust_tables (first_op (rule_by_number r.number)) target k
  pub calls : (i t : ℕ) → slice_get rust_tables.ops i ≡ Some (op.Sealed t k) → t ≡ target
  pub listed : is_among rust_tables.sealed k ≡ true
  -- comments before such a node do not go into it
  pub apart : attaches_of attaching_kinds k ≡ false

abbrev pub ExactRulesAreSealed : Type 0
ExactRulesAreSealed = (k : SyntaxKind) (r : Reparser) → exact_chosen_of k ≡ Some r → IsExactRule k r
