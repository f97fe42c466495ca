-- The grammar's tables.
use Rattle.grammar_machine.specs.Running.{Tables}
use Rattle.tiny_front.specs.declared.tables.op_table.TheConstants.{OPS}
use Rattle.tiny_front.specs.declared.tables.set_table.TheConstants.{SETS}
use Rattle.tiny_front.specs.declared.tables.row_table.TheConstants.{ROWS}
use Rattle.tiny_front.specs.declared.tables.power_table.TheConstants.{POWERS}
use Rattle.tiny_front.specs.declared.tables.kind_table.TheConstants.{KINDS}
use Rattle.tiny_front.specs.declared.tables.sealed_table.TheConstants.{SEALED}

unfoldable pub tiny_tables : Tables
tiny_tables = record { ops = OPS; sets = SETS; rows = ROWS; powers = POWERS; kinds = KINDS; sealed = SEALED; opening = 19; closing = 20 }
