use Rattle.std.proofs.Common.{◌∙◌, ◌++◌, ap, sym, append-nil}
use Rattle.std.specs.Str.{chars}
use Rattle.ras_validation.proofs.Plain.{plain_content}
use Rattle.ras_validation.proofs.literals.add_string_faults.Goals as goal

pub returns-then-is_plain : goal.returns-then-is_plain
returns-then-is_plain c =
    sym
    (ap (λ l. c.args.found.now.items ++ l)
    (plain_content c.args.mode c.args.start (chars c.args.content.now) c.requires.string (sym c.is_plain.ensures ∙ c.if-is_plain.true))
    ∙ append-nil c.args.found.now.items)
