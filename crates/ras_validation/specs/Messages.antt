-- The message of each violation. (Upstream: rust-analyzer's validation.)
use Rattle.std.specs.Prelude.{ℕ, List, codes}
use Rattle.literal_escape.specs.Messages.{message_of}
use Rattle.ras_validation.specs.declared.violation.ViolationMessage.{ViolationMessage}
use Rattle.ras_validation.specs.declared.violation.ViolationMessage.TheVariants as messages

abbrev pub text_of : ViolationMessage → List ℕ
text_of (messages.Escape e) = message_of e
text_of messages.MutableConst = codes "const globals cannot be mutable"
text_of messages.InnerAttribute = codes "A block in this position cannot accept inner attributes"
text_of messages.NumericName = codes "Tuple (struct) field access is only allowed through decimal integers with no underscores or suffix"
text_of messages.VisibilityPath = codes "incorrect visibility restriction"
text_of messages.VisibilityInTrait = codes "Unnecessary visibility qualifier"
text_of messages.RangeWithoutEnd = codes "An inclusive range must have an end expression"
text_of messages.SelfInPath = codes "The `self` keyword is only allowed at the start or at the end of a path"
text_of messages.CrateInPath = codes "The `crate` keyword is only allowed as the first segment of a path"
text_of messages.AmbiguousPlus = codes "ambiguous `+` in a type"
text_of messages.NoTrait = codes "At least one trait is required for an object type"
text_of messages.MacroRulesVisibility = codes "visibilities are not allowed on `macro_rules!` items"
text_of messages.MisplacedLet = codes "`let` expressions are not supported here"
