-- Results in SARIF (SARIF 2.1.0, section 3.27).
use Rattle.std.specs.Prelude.{ℕ, List, codes}
use Rattle.rust_print.specs.declared.sarif.Rule.{Rule}
use Rattle.rust_print.specs.declared.sarif.Rule.TheVariants.{Syntax, Parentheses, Match}

-- `ruleId` (section 3.27.5)
abbrev pub rule_id : Rule → List ℕ
rule_id Syntax = codes "syntax-error"
rule_id Parentheses = codes "needless-parentheses"
rule_id Match = codes "match"

-- `level` (section 3.27.10)
abbrev pub level_of : Rule → List ℕ
level_of Syntax = codes "error"
level_of Parentheses = codes "note"
level_of Match = codes "warning"
