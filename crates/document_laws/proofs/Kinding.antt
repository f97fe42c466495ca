-- A run makes nodes of the kinds of its operations.
use Rattle.std.proofs.Common.{◌≡◌, ℕ, Bool, true, false, not, refl}
use Rattle.std.specs.Prelude.{Some, slice_get}
use Rattle.std.specs.List.{list_all}
use Rattle.std.proofs.lemmas.Bool.{not-true}
use Rattle.grammar_machine.specs.declared.event.Event.TheVariants as event
use Rattle.grammar_machine.specs.declared.grammar.Op.{Op}
use Rattle.rust_grammar.specs.Tables.{rust_tables}
use Rattle.document_laws.specs.FileKinds.{makes_kind, NodesHaveTheirKinds, is_brace}
use Rattle.document_laws.proofs.Making.{made_other}
use Rattle.document_laws.proofs.Tabling.{passes}

pub nodes_other : NodesHaveTheirKinds
nodes_other test g rule ts p i k from e = made_other test (λ l. false) g (λ n. refl) rule ts p i (event.Node k from) e

-- ---- Rust's kinds

abbrev makes_no_brace : Op → Bool
makes_no_brace o = not (makes_kind is_brace o)

all_other : list_all makes_no_brace rust_tables.ops ≡ true
unfolding rust_tables
all_other = refl

pub rust_makes_none : (i : ℕ) (o : Op) → slice_get rust_tables.ops i ≡ Some o → makes_kind is_brace o ≡ false
rust_makes_none i o e = not-true (makes_kind is_brace o) (passes makes_no_brace rust_tables.ops i o all_other e)
