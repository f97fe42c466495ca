use Rattle.std.proofs.Common.{◌≡◌, drop, map}
use Rattle.text_edit.specs.Replacements.{with_all}
use Rattle.rust_rules.specs.Macros.{replacement_of, together}
use Rattle.rust_rules.proofs.within.edit_of.Given as goal

abbrev pub invariant-loop-change : goal.invariant-loop-change
invariant-loop-change l = with_all l.edit (map replacement_of (drop l.change-index l.changes)) ≡ together l.changes
