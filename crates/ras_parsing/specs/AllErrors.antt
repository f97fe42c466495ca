-- All errors of a parse, and how they print.
use Rattle.std.specs.Prelude.{ℕ, List, ◌++◌, map, codes}
use Rattle.std.specs.List.{flat_map}
use Rattle.text_size.specs.TextRange.{range_text}
use Rattle.tree_model.specs.Edit.{root_of}
use Rattle.lossless_tree.specs.Dump.{dump_of}
use Rattle.ras_front_end.specs.ErrorModel.{ErrorModel}
use Rattle.ras_front_end.specs.Parsed.{Parsed}
use Rattle.ras_validation.specs.declared.violation.Violation.{Violation}
use Rattle.ras_validation.specs.Messages.{text_of}
use Rattle.ras_validation.specs.Violations.{violations_of}

-- a broken rule as an error
abbrev pub violation_fault : Violation → ErrorModel
violation_fault v = record { message = text_of v.message; range = v.range }

-- the stored errors, and then the violations of the tree
-- (Upstream: `Parse::errors`.)
abbrev pub all_errors : Parsed → List ErrorModel
all_errors p = p.errors ++ map violation_fault (violations_of (root_of p.tree))

-- `error a..b: message`
abbrev pub error_line : ErrorModel → List ℕ
error_line f = codes "error " ++ range_text f.range ++ codes ": " ++ f.message ++ codes "\n"

-- the dump of the tree, and then a line for each error
-- (Upstream: `Parse::debug_dump`.)
abbrev pub debug_dump_of : Parsed → List ℕ
debug_dump_of p = dump_of (root_of p.tree) ++ flat_map error_line (all_errors p)
