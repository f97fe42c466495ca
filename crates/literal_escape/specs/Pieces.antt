-- The pieces of a content, each by one row of the table of escapes, and what each reports. Source:
-- the Rust Reference, "Tokens", on escapes and string continuations; the faults are those of
-- upstream's `unescape`.
use Rattle.std.specs.Prelude.{◌≡◌, ℕ, ◌+◌, ◌*◌, ◌<◌, ◌≤◌, Bool, true, false, not, ◌==◌, ◌&&◌, ◌||◌, if◌then◌else◌, Option, Some, None, Result, Ok, Err, List, [], ◌∷◌, ◌++◌, flat_map, sum_by}
use Rattle.std.specs.List.{list_all, list_any, AllByRecursion, FoldsTo}
use Rattle.std.specs.declared.ops.Range.{Range}
use Rattle.std.specs.Char.{digit_value, len_utf8, is_whitespace}
use Rattle.literal_escape.specs.declared.error.EscapeError.{EscapeError}
use Rattle.literal_escape.specs.declared.error.EscapeError.TheVariants.{LoneSlash, InvalidEscape, TooShortHexEscape, InvalidCharInHexEscape, NoBraceInUnicodeEscape, InvalidCharInUnicodeEscape, EmptyUnicodeEscape, UnclosedUnicodeEscape, LeadingUnderscoreUnicodeEscape, MultipleSkippedLinesWarning, UnskippedWhitespaceWarning, ZeroChars, MoreThanOneChar}
use Rattle.literal_escape.specs.declared.mode.Mode.{Mode}
use Rattle.literal_escape.specs.declared.mode.MixedUnit.{MixedUnit}
use Rattle.literal_escape.specs.declared.reader.Report.{Report}
use Rattle.literal_escape.specs.Literal.{is_warning, is_string, meaning, plain, is_simple, simple, is_hex, hex, unicode, is_blank}

-- the prefix of an escape that is not whole: \, \x, \x and a digit, \u, \u{, and \u{ with a digit
-- and what follows it
pub data Begun : Type 0 where
  slash : Begun
  slash_x : Begun
  slash_x_digit : ℕ → Begun
  slash_u : Begun
  slash_u_brace : Begun
  slash_u_digits : ℕ → List ℕ → Begun

-- a character for itself; an escape of two characters; \x with two digits; \u{..}; a prefix of an
-- escape with the character that shows the fault, or without one at the content's end; a
-- continuation with the blanks that it skips
pub data Piece : Type 0 where
  character : ℕ → Piece
  letter : ℕ → Piece
  pair : ℕ → ℕ → Piece
  braced : ℕ → List ℕ → Piece
  faulty : Begun → Option ℕ → Piece
  continuation : List ℕ → Piece

-- the characters of the prefix: 92 is \, 120 is x, 117 is u, 123 and 125 are the braces
abbrev pub front : Begun → List ℕ
front slash = 92 ∷ []
front slash_x = 92 ∷ 120 ∷ []
front (slash_x_digit a) = 92 ∷ 120 ∷ a ∷ []
front slash_u = 92 ∷ 117 ∷ []
front slash_u_brace = 92 ∷ 117 ∷ 123 ∷ []
front (slash_u_digits first more) = 92 ∷ 117 ∷ 123 ∷ first ∷ more

-- the character, if there is one
abbrev pub shown : Option ℕ → List ℕ
shown None = []
shown (Some c) = c ∷ []

-- the characters of a piece
abbrev pub spelling : Piece → List ℕ
spelling (character c) = c ∷ []
spelling (letter c) = 92 ∷ c ∷ []
spelling (pair a b) = 92 ∷ 120 ∷ a ∷ b ∷ []
spelling (braced first more) = (92 ∷ 117 ∷ 123 ∷ first ∷ more) ++ 125 ∷ []
spelling (faulty begun next) = front begun ++ shown next
spelling (continuation blanks) = 92 ∷ 10 ∷ blanks

-- what may be within the braces after the first digit
abbrev pub is_inside : ℕ → Bool
is_inside c = is_hex c || c == 95

abbrev pub IsBegun : Begun → Type 0
IsBegun slash = Unit {0}
IsBegun slash_x = Unit {0}
IsBegun (slash_x_digit a) = is_hex a ≡ true
IsBegun slash_u = Unit {0}
IsBegun slash_u_brace = Unit {0}
IsBegun (slash_u_digits first more) = (is_hex first ≡ true) × (list_all is_inside more ≡ true)

-- whether the character after the prefix makes neither a longer prefix nor an escape
abbrev pub shows_fault : Mode → Begun → ℕ → Bool
shows_fault mode slash c = not (is_simple c || c == 120 || c == 117 || (is_string mode && c == 10))
shows_fault mode slash_x c = not (is_hex c)
shows_fault mode (slash_x_digit a) c = not (is_hex c)
shows_fault mode slash_u c = not (c == 123)
shows_fault mode slash_u_brace c = not (is_hex c)
shows_fault mode (slash_u_digits first more) c = not (is_inside c || c == 125)

-- no blank follows
abbrev pub StartsWithNoBlank : List ℕ → Type 0
StartsWithNoBlank [] = Unit {0}
StartsWithNoBlank (c ∷ cs) = is_blank c ≡ false

-- the row of each piece, before the rest of the content: a fault without a character is at the end,
-- and a continuation skips all blanks
abbrev pub IsPiece : Mode → Piece → List ℕ → Type 0
IsPiece mode (character c) rest = (c == 92) ≡ false
IsPiece mode (letter c) rest = is_simple c ≡ true
IsPiece mode (pair a b) rest = (is_hex a ≡ true) × (is_hex b ≡ true)
IsPiece mode (braced first more) rest = (is_hex first ≡ true) × (list_all is_inside more ≡ true)
IsPiece mode (faulty begun None) rest = IsBegun begun × (rest ≡ [])
IsPiece mode (faulty begun (Some c)) rest = IsBegun begun × (shows_fault mode begun c ≡ true)
IsPiece mode (continuation blanks) rest = (is_string mode ≡ true) × (list_all is_blank blanks ≡ true) × StartsWithNoBlank rest

-- The pieces cut the content: each character is in one of them, in order.
abbrev pub IsCut : Mode → List ℕ → List Piece → Type 0
IsCut mode content [] = content ≡ []
IsCut mode content (p ∷ ps) = (rest : List ℕ) × (content ≡ spelling p ++ rest) × IsPiece mode p rest × IsCut mode rest ps

-- there is a cut, and no other
abbrev pub HasOneCut : Mode → List ℕ → Type 0
HasOneCut mode content = (pieces : List Piece) × IsCut mode content pieces × ((others : List Piece) → IsCut mode content others → others ≡ pieces)

-- the fault of a prefix, by the character that shows it
abbrev pub fault : Begun → Option ℕ → EscapeError
fault slash None = LoneSlash
fault slash (Some c) = InvalidEscape
fault slash_x None = TooShortHexEscape
fault slash_x (Some c) = InvalidCharInHexEscape
fault (slash_x_digit a) None = TooShortHexEscape
fault (slash_x_digit a) (Some c) = InvalidCharInHexEscape
fault slash_u next = NoBraceInUnicodeEscape
fault slash_u_brace None = UnclosedUnicodeEscape
fault slash_u_brace (Some c) = if c == 125 then EmptyUnicodeEscape else (if c == 95 then LeadingUnderscoreUnicodeEscape else InvalidCharInUnicodeEscape)
fault (slash_u_digits first more) None = UnclosedUnicodeEscape
fault (slash_u_digits first more) (Some c) = InvalidCharInUnicodeEscape

-- how many bytes the characters take
abbrev pub size : List ℕ → ℕ
size cs = sum_by len_utf8 cs

-- one report: from where to where, in bytes, and the meaning or the fault
abbrev pub unit_at : ℕ → List ℕ → Result MixedUnit EscapeError → List Report
unit_at at text unit = (record { start = at; end = at + size text; unit = unit }) ∷ []

-- the warning if the text that is skipped after the first newline contains another one
abbrev pub lines_warning : ℕ → List ℕ → List Report
lines_warning at blanks = if list_any (λ c. c == 10) blanks then unit_at at (92 ∷ 10 ∷ blanks) (Err MultipleSkippedLinesWarning) else []

-- the warning where white space follows that is not skipped; it reaches through that character
abbrev pub white_warning : ℕ → List ℕ → List ℕ → List Report
white_warning at blanks [] = []
white_warning at blanks (c ∷ cs) = if is_whitespace c then unit_at at ((92 ∷ 10 ∷ blanks) ++ c ∷ []) (Err UnskippedWhitespaceWarning) else []

-- what a piece that begins at this offset reports, before what follows it: a unit each, but a
-- continuation its warnings
abbrev pub piece_reports : Mode → ℕ → Piece → List ℕ → List Report
piece_reports mode at (character c) rest = unit_at at (c ∷ []) (plain mode c)
piece_reports mode at (letter c) rest = unit_at at (spelling (letter c)) (meaning mode (simple c))
piece_reports mode at (pair a b) rest = unit_at at (spelling (pair a b)) (hex mode (digit_value a * 16 + digit_value b))
piece_reports mode at (braced first more) rest = unit_at at (spelling (braced first more)) (unicode mode (first ∷ more))
piece_reports mode at (faulty begun next) rest = unit_at at (spelling (faulty begun next)) (Err (fault begun next))
piece_reports mode at (continuation blanks) rest = lines_warning at blanks ++ white_warning at blanks rest

-- what the pieces from this offset on report, in order
abbrev pub reports_from : Mode → ℕ → List Piece → List Report
reports_from mode at [] = []
reports_from mode at (p ∷ ps) = piece_reports mode at p (flat_map spelling ps) ++ reports_from mode (at + size (spelling p)) ps

-- where a report is, as the calls give it
abbrev pub range_of : Report → Range ℕ
range_of r = record { start = r.start; end = r.end }

-- Calls of a closure, by its step, lead from one state to another: one call for each report, in
-- order, with where it is and with the meaning or fault as view shows it
abbrev pub CalledOnEach : {F U : Type 0} → (Result MixedUnit EscapeError → U) → (F → Range ℕ → U → F → Type 0) → F → F → List Report → Type 0
CalledOnEach view step old new reports = FoldsTo (λ f r g. step f (range_of r) (view r.unit) g) old reports new

-- P holds of the reports of the content's cut
abbrev pub OfReports : Mode → List ℕ → (List Report → Type 0) → Type 0
OfReports mode content P = (pieces : List Piece) × IsCut mode content pieces × P (reports_from mode 0 pieces)

-- the result for a literal of one unit: the unit's meaning or fault, but a good one must be the
-- last
abbrev pub alone : Result MixedUnit EscapeError → Result MixedUnit EscapeError
alone (Ok unit) = Err MoreThanOneChar
alone (Err e) = Err e

abbrev pub single : List Report → Result MixedUnit EscapeError
single [] = Err ZeroChars
single (r ∷ []) = r.unit
single (r ∷ s ∷ more) = alone r.unit

-- an offset in the content: as many bytes as the characters before some place take
abbrev pub IsOffset : List ℕ → ℕ → Type 0
IsOffset content n = (before : List ℕ) × (behind : List ℕ) × (content ≡ before ++ behind) × (n ≡ size before)

-- a report is within a content of that many bytes
abbrev pub IsWithin : ℕ → Report → Type 0
IsWithin len r = (r.start ≤ len) × (r.end ≤ len)

-- where the next report may begin: a unit is over at its end, but a warning covers the reports
-- after it
abbrev pub is_warned : Result MixedUnit EscapeError → Bool
is_warned (Ok unit) = false
is_warned (Err e) = is_warning e

abbrev pub next_start : Report → ℕ
next_start r = if is_warned r.unit then r.start else r.end

-- Reports follow each other from an offset on: none is empty, and none begins within the unit
-- before it.
abbrev pub Follow : ℕ → List Report → Type 0
Follow at [] = Unit {0}
Follow at (r ∷ rs) = (at ≤ r.start) × (r.start < r.end) × Follow (next_start r) rs

-- each range of the reports begins and ends at a character, and they follow each other
abbrev pub AreRanges : List ℕ → List Report → Type 0
AreRanges content rs = Follow 0 rs × AllByRecursion (λ r. IsOffset content r.start × IsOffset content r.end) rs
