-- The results of the reader's private functions, by its state. Public clauses cite only to_come,
-- reports_in and Gives of these: the pieces are in Pieces.
use Rattle.std.specs.Prelude.{◌≡◌, ℕ, ◌+◌, ◌-◌, ◌*◌, ◌^◌, min, Bool, false, not, ◌==◌, ◌&&◌, ◌||◌, if◌then◌else◌, Option, Some, None, Result, Err, List, [], ◌∷◌}
use Rattle.std.specs.Char.{digit_value, len_utf8, is_whitespace}
use Rattle.std.specs.Str.{chars}
use Rattle.literal_escape.specs.declared.error.EscapeError.{EscapeError}
use Rattle.literal_escape.specs.declared.error.EscapeError.TheVariants.{LoneSlash, InvalidEscape, TooShortHexEscape, InvalidCharInHexEscape, NoBraceInUnicodeEscape, InvalidCharInUnicodeEscape, EmptyUnicodeEscape, UnclosedUnicodeEscape, LeadingUnderscoreUnicodeEscape, MultipleSkippedLinesWarning, UnskippedWhitespaceWarning}
use Rattle.literal_escape.specs.declared.mode.Mode.{Mode}
use Rattle.literal_escape.specs.declared.mode.MixedUnit.{MixedUnit}
use Rattle.literal_escape.specs.declared.progress.State.{State}
use Rattle.literal_escape.specs.declared.progress.State.TheVariants as states
use Rattle.literal_escape.specs.declared.progress.Step.{Step}
use Rattle.literal_escape.specs.declared.progress.Step.TheVariants.{Go, Unit as Ends}
use Rattle.literal_escape.specs.declared.reader.Report.{Report}
use Rattle.literal_escape.specs.declared.reader.Reader.{Reader}
use Rattle.literal_escape.specs.declared.units.Units.{Units}
use Rattle.literal_escape.specs.Literal.{is_string, meaning, plain, is_simple, simple, is_hex, hex, code, is_blank}

-- the code of an escape of two characters, and the value of two digits
abbrev pub simple_code : ℕ → Option ℕ
simple_code c = if is_simple c then Some (simple c) else None

abbrev pub pair_value : ℕ → ℕ → Option ℕ
pair_value a b = if is_hex a && is_hex b then Some (digit_value a * 16 + digit_value b) else None

-- one more digit, saturating: the number at 32 bits, the count at 8 bits
abbrev pub longer_code : ℕ → ℕ → ℕ
longer_code n d = min (min (n * 16) (2 ^ 32 - 1) + d) (2 ^ 32 - 1)

abbrev pub more_digits : ℕ → ℕ
more_digits count = min (count + 1) (2 ^ 8 - 1)

abbrev pub after_backslash : Mode → ℕ → Step
after_backslash mode c =
    if is_simple c then Ends (meaning mode (simple c))
    else (if c == 120 then Go states.Hex
    else (if c == 117 then Go states.Unicode
    else (if is_string mode && c == 10 then Go (states.Continuation false)
    else Ends (Err InvalidEscape))))

abbrev pub after_digit : Mode → ℕ → ℕ → Step
after_digit mode a c = if is_hex a && is_hex c then Ends (hex mode (digit_value a * 16 + digit_value c)) else Ends (Err InvalidCharInHexEscape)

abbrev pub after_brace : ℕ → Step
after_brace c =
    if is_hex c then Go (states.Digits (digit_value c) 1)
    else (if c == 125 then Ends (Err EmptyUnicodeEscape)
    else (if c == 95 then Ends (Err LeadingUnderscoreUnicodeEscape)
    else Ends (Err InvalidCharInUnicodeEscape)))

abbrev pub after_digits : Mode → ℕ → ℕ → ℕ → Step
after_digits mode n count c =
    if is_hex c then Go (states.Digits (longer_code n (digit_value c)) (more_digits count))
    else (if c == 95 then Go (states.Digits n count)
    else (if c == 125 then Ends (code mode count n)
    else Ends (Err InvalidCharInUnicodeEscape)))

-- the effect of a character after a prefix
unfoldable pub step_of : Mode → State → ℕ → Step
step_of mode states.Start c = if c == 92 then Go states.Backslash else Ends (plain mode c)
step_of mode states.Backslash c = after_backslash mode c
step_of mode states.Hex c = if is_hex c then Go (states.HexDigit c) else Ends (Err InvalidCharInHexEscape)
step_of mode (states.HexDigit a) c = after_digit mode a c
step_of mode states.Unicode c = if c == 123 then Go states.Brace else Ends (Err NoBraceInUnicodeEscape)
step_of mode states.Brace c = after_brace c
step_of mode (states.Digits n count) c = after_digits mode n count c
step_of mode (states.Continuation lines) c = Go (states.Continuation (lines || c == 10))

-- the effect of the content's end
abbrev pub end_fault_of : State → Option EscapeError
end_fault_of states.Start = None
end_fault_of states.Backslash = Some LoneSlash
end_fault_of states.Hex = Some TooShortHexEscape
end_fault_of (states.HexDigit a) = Some TooShortHexEscape
end_fault_of states.Unicode = Some NoBraceInUnicodeEscape
end_fault_of states.Brace = Some UnclosedUnicodeEscape
end_fault_of (states.Digits n count) = Some UnclosedUnicodeEscape
end_fault_of (states.Continuation lines) = if lines then Some MultipleSkippedLinesWarning else None

-- a continuation that ends before the next character
abbrev pub is_over : State → ℕ → Bool
is_over (states.Continuation lines) c = not (is_blank c)
is_over _ c = false

abbrev pub has_lines : State → Bool
has_lines (states.Continuation lines) = lines
has_lines _ = false

-- a report on what the reader has read of its piece, and this many bytes more
abbrev pub report_of : Reader → ℕ → Result MixedUnit EscapeError → Report
report_of r more unit = record { start = r.start; end = r.at + more; unit = unit }

-- the reader where it is, between two pieces
abbrev pub fresh_of : Reader → Reader
fresh_of r = record r { start = r.at; state = states.Start }

-- before the character c, which is not taken: a continuation that is over gives its warnings one by
-- one
unfoldable pub warning_of : Reader → ℕ → Option Report
warning_of r c =
    if not (is_over r.state c) then None
    else (if has_lines r.state then Some (report_of r 0 (Err MultipleSkippedLinesWarning))
    else (if is_whitespace c then Some (report_of r (len_utf8 c) (Err UnskippedWhitespaceWarning))
    else None))

unfoldable pub warned_of : Reader → ℕ → Reader
warned_of r c =
    if not (is_over r.state c) then r
    else (if has_lines r.state then record r { state = states.Continuation false }
    else fresh_of r)

-- the report that a step gives, and the reader after it
abbrev pub found : Reader → Step → Option Report
found r (Go state) = None
found r (Ends unit) = Some (report_of r 0 unit)

abbrev pub behind : Reader → Step → Reader
behind r (Go state) = record r { state = state }
behind r (Ends unit) = fresh_of r

abbrev pub past : Reader → ℕ → Reader
past r c = record r { at = r.at + len_utf8 c }

unfoldable pub read_report_of : Reader → ℕ → Option Report
read_report_of r c = found (past r c) (step_of r.mode r.state c)

unfoldable pub read_of : Reader → ℕ → Reader
read_of r c = behind (past r c) (step_of r.mode r.state c)

-- at the content's end
abbrev pub fault_report : Reader → Option EscapeError → Option Report
fault_report r None = None
fault_report r (Some e) = Some (report_of r 0 (Err e))

unfoldable pub end_report_of : Reader → Option Report
end_report_of r = fault_report r (end_fault_of r.state)

-- an optional report before others
abbrev pub before : Option Report → List Report → List Report
before None rs = rs
before (Some r) rs = r ∷ rs

-- the reader is past the warnings before c
abbrev pub left_of : Reader → ℕ → Reader
left_of r c = if is_over r.state c then fresh_of r else r

-- what a reader before these characters still reports
unfoldable pub reports_of : Reader → List ℕ → List Report
reports_of r [] = before (end_report_of r) []
reports_of r (c ∷ cs) =
    before (warning_of r c) (before (if has_lines r.state then warning_of (warned_of r c) c else None)
    (before (read_report_of (left_of r c) c) (reports_of (read_of (left_of r c) c) cs)))

-- the reports of a content, read from its start; `laws::read_by_cut` says that they are those of
-- its cut
abbrev pub reports_in : Mode → List ℕ → List Report
reports_in mode content = reports_of (record { mode = mode; start = 0; at = 0; state = states.Start }) content

-- the reports that are still to be given
abbrev pub to_come : Units → List Report
to_come u = reports_of u.reader (chars u.rest.now)

-- the reports from here on are this one, if there is one, and then those from there on
abbrev pub Gives : List Report → Option Report → List Report → Type 0
Gives old None new = (old ≡ []) × (new ≡ [])
Gives old (Some r) new = old ≡ r ∷ new
