-- The errors of `ok`.
use Rattle.std.specs.Prelude.{◌≡◌, ◌≢◌, Bool, false, []}
use Rattle.ras_front_end.specs.Parsed.{Parsed}
use Rattle.ras_parsing.specs.declared.ok_error.OkError.{OkError}
use Rattle.ras_parsing.specs.declared.ok_error.OkError.TheVariants.{Errors, OtherRoot, Memory}
use Rattle.ras_parsing.specs.AllErrors.{all_errors}

-- all errors, if there are some; or a root of another kind, if there are none; or out of memory.
-- Each contains the parse.
abbrev pub IsOkRefusal : {T : Type 0} → Bool → Parsed → OkError T → Type 0
IsOkRefusal casts p (Errors errors parse) = (errors.items ≡ all_errors p) × (all_errors p ≢ []) × (parse ≡ p)
IsOkRefusal casts p (OtherRoot parse) = (all_errors p ≡ []) × (casts ≡ false) × (parse ≡ p)
IsOkRefusal casts p (Memory parse) = parse ≡ p
