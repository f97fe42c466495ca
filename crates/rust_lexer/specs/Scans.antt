-- Tokens that end with a mark of their own, read byte by byte: block comments, strings, characters,
-- front matters. Source: the Rust Reference, "Comments" and "Tokens".
use Rattle.std.specs.Prelude.{ℕ, ◌+◌, ◌-◌, ◌^◌, min, not, nat_le, ◌==◌, if◌then◌else◌, Option, Some, None, List, [], ◌∷◌}
use Rattle.rust_lexer.specs.declared.scan.Scan.{Scan}
use Rattle.rust_lexer.specs.declared.scan.Scan.TheVariants.{Comment, CommentSlash, CommentStar, Text, TextEscape, Quote, QuoteEscape, QuoteLine, Raw, RawHashes, Matter, Fence, Seek, SeekSecond, Closed}

-- comments nest; the depth saturates at 32 bits
abbrev pub comment_of : ℕ → ℕ → Scan
comment_of d b = if b == 47 then CommentSlash d else (if b == 42 then CommentStar d else Comment d)

abbrev pub comment_slash_of : ℕ → ℕ → Scan
comment_slash_of d b = if b == 42 then Comment (min (d + 1) (2 ^ 32 - 1)) else comment_of d b

abbrev pub comment_star_of : ℕ → ℕ → Scan
comment_star_of d b = if not (b == 47) then comment_of d b else (if d == 0 then Closed else Comment (d - 1))

-- a string ends with the first quote that no backslash precedes
abbrev pub text_of : ℕ → Scan
text_of b = if b == 34 then Closed else (if b == 92 then TextEscape else Text)

-- a character ends with the first quote that no backslash precedes; none is sought after a slash or
-- another line
abbrev pub quote_of : ℕ → Option Scan
quote_of b = if b == 39 then Some Closed else (if b == 92 then Some QuoteEscape else (if b == 10 then Some QuoteLine else (if b == 47 then None else Some Quote)))

abbrev pub quote_line_of : ℕ → Option Scan
quote_line_of b = if b == 39 then Some Closed else None

-- a raw string ends with the first quote that is followed by as many # as it began with
abbrev pub after_raw_quote_of : ℕ → Scan
after_raw_quote_of h = if h == 0 then Closed else RawHashes h h

abbrev pub raw_of : ℕ → ℕ → Scan
raw_of h b = if b == 34 then after_raw_quote_of h else Raw h

abbrev pub raw_hashes_of : ℕ → ℕ → ℕ → Scan
raw_hashes_of n h b = if not (b == 35) then raw_of h b else (if nat_le n 1 then Closed else RawHashes (n - 1) h)

-- a front matter ends with the first line that begins with as many dashes as its fence has
abbrev pub matter_of : ℕ → ℕ → Scan
matter_of d b = if b == 10 then Fence d d else Matter d

abbrev pub fence_of : ℕ → ℕ → ℕ → Scan
fence_of n d b = if not (b == 45) then matter_of d b else (if nat_le n 1 then Closed else Fence (n - 1) d)

-- the search for one byte directly after another
abbrev pub seek_of : ℕ → ℕ → ℕ → Scan
seek_of x y b = if b == x then SeekSecond x y else Seek x y

abbrev pub seek_second_of : ℕ → ℕ → ℕ → Scan
seek_second_of x y b = if b == y then Closed else seek_of x y b

abbrev pub next_of : Scan → ℕ → Option Scan
next_of (Comment d) b = Some (comment_of d b)
next_of (CommentSlash d) b = Some (comment_slash_of d b)
next_of (CommentStar d) b = Some (comment_star_of d b)
next_of Text b = Some (text_of b)
next_of TextEscape b = Some Text
next_of Quote b = quote_of b
next_of QuoteEscape b = Some Quote
next_of QuoteLine b = quote_line_of b
next_of (Raw h) b = Some (raw_of h b)
next_of (RawHashes n h) b = Some (raw_hashes_of n h b)
next_of (Matter d) b = Some (matter_of d b)
next_of (Fence n d) b = Some (fence_of n d b)
next_of (Seek x y) b = Some (seek_of x y b)
next_of (SeekSecond x y) b = Some (seek_second_of x y b)
next_of Closed b = None

-- the state after reading the bytes, and the rest
unfoldable pub run_of : Scan → List ℕ → Scan × List ℕ
run_of q [] = (q, [])
run_of q (b ∷ bs) = elim (next_of q b) [ None ↦ (q, b ∷ bs) | Some r ↦ run_of r bs ]
