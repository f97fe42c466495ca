-- How severe a match is, and how it is named. (GitHub: "Workflow commands", `error`, `warning`,
-- `notice`; SARIF 2.1.0, 3.27.10, "level property".)
use Rattle.std.specs.Prelude.{◌==◌, ℕ, List, codes, Option, Some, None, Bool, if◌then◌else◌}
use Rattle.std.specs.Cmp.Lexicographic.{pointwise}
use Rattle.rule_plan.specs.declared.severity.Severity.{Severity}
use Rattle.rule_plan.specs.declared.severity.Severity.TheVariants.{Error, Warning, Note, Help}

abbrev pub is_text : List ℕ → List ℕ → Bool
is_text s t = pointwise ◌==◌ s t

abbrev pub severity_named : List ℕ → Option Severity
severity_named s =
    if is_text s (codes "error") then Some Error
    else (if is_text s (codes "warning") then Some Warning
    else (if is_text s (codes "note") then Some Note
    else (if is_text s (codes "help") then Some Help else None)))

abbrev pub name_of : Severity → List ℕ
name_of Error = codes "error"
name_of Warning = codes "warning"
name_of Note = codes "note"
name_of Help = codes "help"

-- the command of a workflow
abbrev pub command_of : Severity → List ℕ
command_of Error = codes "error"
command_of Warning = codes "warning"
command_of Note = codes "notice"
command_of Help = codes "notice"

-- the level of a result of SARIF, which has no help
abbrev pub level_of : Severity → List ℕ
level_of Error = codes "error"
level_of Warning = codes "warning"
level_of Note = codes "note"
level_of Help = codes "note"
