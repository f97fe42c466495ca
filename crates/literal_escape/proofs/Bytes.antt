-- In a literal of bytes each unit is a byte.
use Rattle.std.proofs.Common.{◌≡◌, ℕ, ◌+◌, ◌*◌, ◌<◌, Bool, true, false, Result, Err, List, [], ◌∷◌, ◌++◌, refl, sym, length, arith, subst}
use Rattle.std.specs.Prelude.{if◌then◌else◌, ◌==◌, nat_le, nat_lt, IfOk}
use Rattle.std.specs.List.{AllByRecursion, list_any, flat_map}
use Rattle.std.specs.Char.{digit_value, is_whitespace}
use Rattle.std.proofs.lemmas.Bool.Decides.{nat_tests}
use Rattle.literal_escape.specs.declared.error.EscapeError.{EscapeError}
use Rattle.literal_escape.specs.declared.error.EscapeError.TheVariants.{MultipleSkippedLinesWarning, UnskippedWhitespaceWarning}
use Rattle.literal_escape.specs.declared.mode.Mode.{Mode}
use Rattle.literal_escape.specs.declared.mode.Mode.TheVariants as modes
use Rattle.literal_escape.specs.declared.mode.MixedUnit.{MixedUnit}
use Rattle.literal_escape.specs.declared.reader.Report.{Report}
use Rattle.literal_escape.specs.Literal.{is_bytes, is_simple, simple, must_be_escaped, meaning, plain, hex, code, digits, number, number_of}
use Rattle.literal_escape.specs.Pieces.{Piece, character, letter, pair, braced, faulty, continuation, spelling, IsPiece, IsCut, size, lines_warning, white_warning, piece_reports, reports_from}
use Rattle.literal_escape.proofs.Digits.{hex_small}
use Rattle.literal_escape.proofs.Cutting.{cut-text}

abbrev pub IsByteReport : Report → Type 0
IsByteReport r = IfOk r.unit (λ unit. number_of unit < 256)

abbrev pub IsByteUnit : Result MixedUnit EscapeError → Type 0
IsByteUnit unit = IfOk unit (λ unit. number_of unit < 256)

meaning_byte : (mode : Mode) (c : ℕ) → is_bytes mode ≡ true → c < 256 → IsByteUnit (meaning mode c)
meaning_byte modes.Byte c b h = h
meaning_byte modes.ByteStr c b h = h
meaning_byte modes.Char c b h = cc
meaning_byte modes.Str c b h = cc
meaning_byte modes.CStr c b h = cc

plain_by : (cr only high : Bool) (mode : Mode) (c : ℕ) → is_bytes mode ≡ true → (c == 13) ≡ cr → must_be_escaped mode c ≡ only → nat_le 128 c ≡ high → IsByteUnit (plain mode c)
plain_by true only high mode c b er eo eh = rw er tt
plain_by false true high mode c b er eo eh = rw er (rw eo tt)
plain_by false false true mode c b er eo eh = rw er (rw eo (rw b (rw eh tt)))
plain_by false false false mode c b er eo eh = let small : c < 256 = grind (arith, nat_tests) in rw er (rw eo (rw b (rw eh (meaning_byte mode c b small))))

hex_by : (low : Bool) (mode : Mode) (v : ℕ) → is_bytes mode ≡ true → v < 256 → nat_lt v 128 ≡ low → IsByteUnit (hex mode v)
hex_by true mode v b h e = rw e (meaning_byte mode v b h)
hex_by false modes.Byte v b h e = rw e h
hex_by false modes.ByteStr v b h e = rw e h
hex_by false modes.Char v b h e = cc
hex_by false modes.Str v b h e = cc
hex_by false modes.CStr v b h e = cc

code_by : (long : Bool) (mode : Mode) (k n : ℕ) → is_bytes mode ≡ true → nat_lt 6 k ≡ long → IsByteUnit (code mode k n)
code_by true mode k n b e = rw e tt
code_by false mode k n b e = rw e (rw b tt)

simple_small : (c : ℕ) → is_simple c ≡ true → simple c < 256
simple_small c e = grind (arith, nat_tests)

one_warning : (warns : Bool) (start end : ℕ) (e : EscapeError) → AllByRecursion IsByteReport (if warns then (record { start = start; end = end; unit = Err e }) ∷ [] else [])
one_warning true start end e = (tt, tt)
one_warning false start end e = tt

white_bytes : (at : ℕ) (bs rest : List ℕ) → AllByRecursion IsByteReport (white_warning at bs rest)
white_bytes at bs [] = tt
white_bytes at bs (c ∷ cs) = one_warning (is_whitespace c) at (at + size ((92 ∷ 10 ∷ bs) ++ c ∷ [])) UnskippedWhitespaceWarning

all-append : (xs ys : List Report) → AllByRecursion IsByteReport xs → AllByRecursion IsByteReport ys → AllByRecursion IsByteReport (xs ++ ys)
all-append [] ys h k = k
all-append (x ∷ xs) ys h k = (h.0, all-append xs ys h.1 k)

piece_bytes : (mode : Mode) (at : ℕ) (p : Piece) (rest : List ℕ) → is_bytes mode ≡ true → IsPiece mode p rest → AllByRecursion IsByteReport (piece_reports mode at p rest)
piece_bytes mode at (character c) rest b h = (plain_by (c == 13) (must_be_escaped mode c) (nat_le 128 c) mode c b refl refl refl, tt)
piece_bytes mode at (letter c) rest b h = (meaning_byte mode (simple c) b (simple_small c h), tt)
piece_bytes mode at (pair a d) rest b h = (hex_by (nat_lt (digit_value a * 16 + digit_value d) 128) mode (digit_value a * 16 + digit_value d) b (omega (arith, hex_small a h.0, hex_small d h.1)) refl, tt)
piece_bytes mode at (braced f m) rest b h = (code_by (nat_lt 6 (length (digits (f ∷ m)))) mode (length (digits (f ∷ m))) (number (digits (f ∷ m))) b refl, tt)
piece_bytes mode at (faulty s next) rest b h = (tt, tt)
piece_bytes mode at (continuation bs) rest b h =
    all-append (lines_warning at bs) (white_warning at bs rest) (one_warning (list_any (λ c. c == 10) bs) at (at + size (92 ∷ 10 ∷ bs)) MultipleSkippedLinesWarning) (white_bytes at bs rest)

pub bytes_from : (mode : Mode) (at : ℕ) (ps : List Piece) (cs : List ℕ) → is_bytes mode ≡ true → IsCut mode cs ps → AllByRecursion IsByteReport (reports_from mode at ps)
bytes_from mode at [] cs b h = tt
bytes_from mode at (p ∷ ps) cs b h =
    all-append (piece_reports mode at p (flat_map spelling ps)) (reports_from mode (at + size (spelling p)) ps)
    (piece_bytes mode at p (flat_map spelling ps) b (subst (IsPiece mode p) (sym (cut-text mode h.0 ps h.3)) h.2)) (bytes_from mode (at + size (spelling p)) ps h.0 b h.3)
