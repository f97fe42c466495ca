-- The grammar's tables.
use Rattle.grammar_machine.specs.Running.{Tables}
use Rattle.example_grammar.specs.declared.tables.op_table.TheConstants.{OPS}
use Rattle.example_grammar.specs.declared.tables.set_table.TheConstants.{SETS}
use Rattle.example_grammar.specs.declared.tables.row_table.TheConstants.{ROWS}
use Rattle.example_grammar.specs.declared.tables.power_table.TheConstants.{POWERS}
use Rattle.example_grammar.specs.declared.tables.kind_table.TheConstants.{KINDS}
use Rattle.example_grammar.specs.declared.tables.sealed_table.TheConstants.{SEALED}

unfoldable pub arithmetic_tables : Tables
arithmetic_tables = record { ops = OPS; sets = SETS; rows = ROWS; powers = POWERS; kinds = KINDS; sealed = SEALED; opening = 0; closing = 0 }
