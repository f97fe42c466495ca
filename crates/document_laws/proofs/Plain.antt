-- A run makes tokens of the kinds that the tables have.
use Rattle.std.proofs.Common.{◌≡◌, ℕ, true, false, not, refl}
use Rattle.std.specs.Prelude.{Option, Some, None, slice_get}
use Rattle.std.specs.List.{list_all}
use Rattle.std.proofs.lemmas.Bool.{not-true}
use Rattle.syntax_kind.specs.declared.syntax_kind.SyntaxKind.{SyntaxKind}
use Rattle.syntax_kind.specs.Kinds.{is_trivia}
use Rattle.grammar_machine.specs.declared.event.Event.TheVariants as event
use Rattle.grammar_machine.specs.declared.grammar.Op.{Op}
use Rattle.grammar_machine.specs.declared.grammar.Op.TheVariants as op
use Rattle.grammar_machine.specs.Running.{Tables, kind_or, kind_of}
use Rattle.rust_grammar.specs.Tables.{rust_tables}
use Rattle.document_laws.specs.FileKinds.{makes_kind}
use Rattle.document_laws.specs.Plain.{HasPlainKinds, RunsMakePlainTokens, RustHasPlainKinds}
use Rattle.document_laws.proofs.Making.{made_other}
use Rattle.document_laws.proofs.Tabling.{passes}

plain_or : (o : Option SyntaxKind) → ((k : SyntaxKind) → o ≡ Some k → is_trivia k ≡ false) → is_trivia (kind_or o) ≡ false
plain_or None f = refl
plain_or (Some k) f = f k refl

plain_kind : (g : Tables) (n : ℕ) → HasPlainKinds g → is_trivia (kind_of g n) ≡ false
plain_kind g n p = plain_or (slice_get g.kinds n) (λ k e. p n k e)

-- a test of nodes that finds none
no_node : (o : Op) → makes_kind (λ k. false) o ≡ false
no_node (op.Wrap k) = refl
no_node (op.Close k) = refl
no_node (op.Leaf k) = refl
no_node (op.Sealed target k) = refl
no_node _ = refl

pub runs_plain : RunsMakePlainTokens
runs_plain g rule ts p i k signs e =
    made_other (λ l. false) is_trivia g (λ n. plain_kind g n p) rule ts (λ j o is. no_node o) i (event.Token k signs) e

-- ---- Rust's kinds

all_plain : list_all (λ k. not (is_trivia k)) rust_tables.kinds ≡ true
unfolding rust_tables
all_plain = refl

pub rust_plain : RustHasPlainKinds
rust_plain i k e = not-true (is_trivia k) (passes (λ j. not (is_trivia j)) rust_tables.kinds i k all_plain e)
