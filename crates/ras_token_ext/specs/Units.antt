-- The calls of a callback for the units of a string's content. (Upstream: rust-analyzer's
-- `IsString`.)
use Rattle.std.specs.Prelude.{ℕ, ◌+◌, Bool, List, [], ◌∷◌, map, Option, option_map, Result, Ok, if◌then◌else◌}
use Rattle.std.specs.Char.{len_utf8}
use Rattle.std.specs.Option.{option_and_then, option_map_or}
use Rattle.std.specs.Str.{chars}
use Rattle.text_size.specs.TextRange.{Bounds}
use Rattle.literal_escape.specs.Literal.{numbered}
use Rattle.literal_escape.specs.Reading.{reports_in}
use Rattle.literal_escape.specs.declared.error.EscapeError.{EscapeError}
use Rattle.literal_escape.specs.declared.mode.Mode.{Mode}
use Rattle.literal_escape.specs.declared.mode.Mode.TheVariants as modes
use Rattle.literal_escape.specs.declared.mode.MixedUnit.{MixedUnit}
use Rattle.literal_escape.specs.declared.reader.Report.{Report}
use Rattle.ras_token_ext.specs.Literals.{quote_places, between}
use Rattle.ras_token_ext.specs.Quotes.{bounds}

-- a unit as a character: a byte as the character with that code; each unit of a C string as `_`
-- (95), also one with a fault
abbrev pub shown : Mode → Result MixedUnit EscapeError → Result ℕ EscapeError
shown modes.CStr unit = Ok 95
shown _ unit = numbered unit

-- the call for a unit of a content that starts at an offset
abbrev pub unit_call : Mode → ℕ → Report → Bounds × Result ℕ EscapeError
unit_call mode offset r = (bounds (offset + r.start) (offset + r.end), shown mode r.unit)

abbrev pub unit_calls : Mode → ℕ → List ℕ → List (Bounds × Result ℕ EscapeError)
unit_calls mode offset content = map (unit_call mode offset) (reports_in mode (chars content))

-- the calls for the characters of a raw content that starts at an offset
abbrev pub char_calls : ℕ → List ℕ → List (Bounds × Result ℕ EscapeError)
char_calls at [] = []
char_calls at (c ∷ cs) = (bounds at (at + len_utf8 c), Ok c) ∷ char_calls (at + len_utf8 c) cs

abbrev pub content_calls : Mode → Bool → ℕ → List ℕ → List (Bounds × Result ℕ EscapeError)
content_calls mode raw offset content = if raw then char_calls offset (chars content) else unit_calls mode offset content

-- the content of a literal's text, and its offset; None without two quotes
abbrev pub content_at : List ℕ → ℕ × ℕ → Option (ℕ × List ℕ)
content_at text places = option_map (λ content. (places.0 + 1, content)) (between text places)

abbrev pub placed_content : List ℕ → Option (ℕ × List ℕ)
placed_content text = option_and_then (content_at text) (quote_places text)

-- the calls for the text of a literal: the empty list without two quotes
abbrev pub literal_calls : Mode → Bool → List ℕ → List (Bounds × Result ℕ EscapeError)
literal_calls mode raw text = option_map_or (λ p. content_calls mode raw p.0 p.1) (placed_content text) []
