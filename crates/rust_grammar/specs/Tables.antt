-- The grammar's tables.
use Rattle.grammar_machine.specs.Running.{Tables}
use Rattle.rust_grammar.specs.declared.tables.op_table.TheConstants.{OPS}
use Rattle.rust_grammar.specs.declared.tables.set_table.TheConstants.{SETS}
use Rattle.rust_grammar.specs.declared.tables.row_table.TheConstants.{ROWS}
use Rattle.rust_grammar.specs.declared.tables.power_table.TheConstants.{POWERS}
use Rattle.rust_grammar.specs.declared.tables.kind_table.TheConstants.{KINDS}
use Rattle.rust_grammar.specs.declared.tables.sealed_table.TheConstants.{SEALED}

unfoldable pub rust_tables : Tables
rust_tables = record { ops = OPS; sets = SETS; rows = ROWS; powers = POWERS; kinds = KINDS; sealed = SEALED; opening = 20; closing = 21 }
