-- The failures of lower crates as those of this one.
use Rattle.std.specs.Prelude.{Bool, true, false}
use Rattle.ras_front_end.specs.declared.parse_error.ParseError.{ParseError}
use Rattle.ras_front_end.specs.declared.parse_error.ParseError.TheVariants as parse
use Rattle.tree_model.specs.declared.error.ReplaceError.{ReplaceError}
use Rattle.tree_model.specs.declared.error.ReplaceError.TheVariants as replace
use Rattle.syntax_make.specs.declared.error.MakeError.{MakeError}
use Rattle.syntax_make.specs.declared.error.MakeError.TheVariants as make
use Rattle.syntax_make.specs.declared.error.ReplaceExprError.{ReplaceExprError}
use Rattle.syntax_make.specs.declared.error.ReplaceExprError.TheVariants as put

abbrev pub unread : ParseError → MakeError
unread parse.TooLong = make.TooLong
unread parse.Memory = make.Memory

abbrev pub unplaced : ReplaceError → ReplaceExprError
unplaced replace.TooLong = put.TooLong
unplaced replace.Memory = put.Memory

abbrev pub unparsed : ParseError → ReplaceExprError
unparsed parse.TooLong = put.TooLong
unparsed parse.Memory = put.Memory

-- a refusal that depends on what the text reads as
abbrev pub is_misread : MakeError → Bool
is_misread (make.Syntax fault) = true
is_misread make.NotOne = true
is_misread make.NoPlace = false
is_misread make.TooLong = false
is_misread make.Memory = false
