-- The ranges of a cut's reports follow each other and lie on characters.
use Rattle.std.proofs.Common.{◌≡◌, ℕ, ◌+◌, ◌<◌, ◌≤◌, Bool, true, false, Option, Result, Err, List, [], ◌∷◌, ◌++◌, refl, sym, ap, ◌∙◌, arith, subst, append_assoc}
use Rattle.std.specs.Prelude.{if◌then◌else◌, ◌==◌}
use Rattle.std.specs.List.{AllByRecursion, list_any, flat_map}
use Rattle.std.specs.Char.{len_utf8, is_whitespace}
use Rattle.std.proofs.lemmas.List.Sums.{sum_by-append}
use Rattle.std.proofs.lemmas.Str.{len_utf8_bounds}
use Rattle.literal_escape.specs.declared.error.EscapeError.{EscapeError}
use Rattle.literal_escape.specs.declared.error.EscapeError.TheVariants.{MultipleSkippedLinesWarning, UnskippedWhitespaceWarning}
use Rattle.literal_escape.specs.declared.mode.Mode.{Mode}
use Rattle.literal_escape.specs.declared.mode.MixedUnit.{MixedUnit}
use Rattle.literal_escape.specs.declared.reader.Report.{Report}
use Rattle.literal_escape.specs.Pieces.{Begun, slash, slash_x, slash_x_digit, slash_u, slash_u_brace, slash_u_digits, Piece, character, letter, pair, braced, faulty, continuation, front, shown, spelling, IsCut, size, lines_warning, white_warning, piece_reports, reports_from, IsOffset, is_warned, Follow, AreRanges}
use Rattle.literal_escape.proofs.Cutting.{cut-text}
use Rattle.literal_escape.proofs.Partial.{unit_of}

size-append : (xs ys : List ℕ) → size (xs ++ ys) ≡ size xs + size ys
size-append xs ys = sum_by-append len_utf8 xs ys

-- a list with a character takes a byte at least
size_pos : (c : ℕ) (xs : List ℕ) → 0 < size (c ∷ xs)
size_pos c xs = omega (arith, size-append (c ∷ []) xs, (len_utf8_bounds c).0)

front_pos : (b : Begun) (next : Option ℕ) → 0 < size (front b ++ shown next)
front_pos slash next = size_pos 92 (shown next)
front_pos slash_x next = size_pos 92 (120 ∷ shown next)
front_pos (slash_x_digit a) next = size_pos 92 (120 ∷ a ∷ shown next)
front_pos slash_u next = size_pos 92 (117 ∷ shown next)
front_pos slash_u_brace next = size_pos 92 (117 ∷ 123 ∷ shown next)
front_pos (slash_u_digits f m) next = size_pos 92 (117 ∷ 123 ∷ f ∷ (m ++ shown next))

Follow-sooner : (m n : ℕ) (rs : List Report) → m ≤ n → Follow n rs → Follow m rs
Follow-sooner m n [] h f = tt
Follow-sooner m n (r ∷ rs) h f = (omega (arith, f.0), f.1, f.2)

-- one report, and then others from its end on
unit_follow : (warned : Bool) (at end : ℕ) (unit : Result MixedUnit EscapeError) (rs : List Report) → is_warned unit ≡ warned → at < end → Follow end rs
    → Follow at ((record { start = at; end = end; unit = unit }) ∷ rs)
unit_follow true at end unit rs e h f = (omega arith, h, rw e (Follow-sooner at end rs (omega arith) f))
unit_follow false at end unit rs e h f = (omega arith, h, rw e f)

one_follow : (at : ℕ) (text : List ℕ) (unit : Result MixedUnit EscapeError) (rs : List Report) → 0 < size text → Follow (at + size text) rs
    → Follow at ((record { start = at; end = at + size text; unit = unit }) ∷ rs)
one_follow at text unit rs h f = unit_follow (is_warned unit) at (at + size text) unit rs refl (omega arith) f

-- a warning, if there is one, and then others from its start on
warning_follow : (warns : Bool) (at end : ℕ) (rs : List Report) → at < end → Follow at rs
    → Follow at ((if warns then (record { start = at; end = end; unit = Err MultipleSkippedLinesWarning }) ∷ [] else []) ++ rs)
warning_follow true at end rs h f = (omega arith, h, f)
warning_follow false at end rs h f = f

white_follow : (warns : Bool) (at end : ℕ) (rs : List Report) → at < end → Follow at rs
    → Follow at ((if warns then (record { start = at; end = end; unit = Err UnskippedWhitespaceWarning }) ∷ [] else []) ++ rs)
white_follow true at end rs h f = (omega arith, h, f)
white_follow false at end rs h f = f

after_white : (at : ℕ) (bs rest : List ℕ) (rs : List Report) → Follow at rs → Follow at (white_warning at bs rest ++ rs)
after_white at bs [] rs f = f
after_white at bs (c ∷ cs) rs f = let h = size_pos 92 (10 ∷ (bs ++ c ∷ [])) in white_follow (is_whitespace c) at (at + size ((92 ∷ 10 ∷ bs) ++ c ∷ [])) rs (omega (arith, h)) f

piece_follow : (mode : Mode) (at : ℕ) (p : Piece) (rest : List ℕ) (rs : List Report) → Follow (at + size (spelling p)) rs → Follow at (piece_reports mode at p rest ++ rs)
piece_follow mode at (character c) rest rs f = one_follow at (c ∷ []) (unit_of mode (character c)) rs (size_pos c []) f
piece_follow mode at (letter c) rest rs f = one_follow at (92 ∷ c ∷ []) (unit_of mode (letter c)) rs (size_pos 92 (c ∷ [])) f
piece_follow mode at (pair a b) rest rs f = one_follow at (92 ∷ 120 ∷ a ∷ b ∷ []) (unit_of mode (pair a b)) rs (size_pos 92 (120 ∷ a ∷ b ∷ [])) f
piece_follow mode at (braced d m) rest rs f = one_follow at (spelling (braced d m)) (unit_of mode (braced d m)) rs (size_pos 92 (117 ∷ 123 ∷ d ∷ (m ++ 125 ∷ []))) f
piece_follow mode at (faulty b next) rest rs f = one_follow at (front b ++ shown next) (unit_of mode (faulty b next)) rs (front_pos b next) f
piece_follow mode at (continuation bs) rest rs f =
    let h = size_pos 92 (10 ∷ bs) in
    let sooner = Follow-sooner at (at + size (92 ∷ 10 ∷ bs)) rs (omega arith) f in
    subst (Follow at) (sym (append_assoc (lines_warning at bs) (white_warning at bs rest) rs))
    (warning_follow (list_any (λ c. c == 10) bs) at (at + size (92 ∷ 10 ∷ bs)) (white_warning at bs rest ++ rs) (omega (arith, h)) (after_white at bs rest rs sooner))

follow_from : (mode : Mode) (at : ℕ) (ps : List Piece) → Follow at (reports_from mode at ps)
follow_from mode at [] = tt
follow_from mode at (p ∷ ps) = piece_follow mode at p (flat_map spelling ps) (reports_from mode (at + size (spelling p)) ps) (follow_from mode (at + size (spelling p)) ps)

-- the report lies on characters
abbrev Lies : List ℕ → Report → Type 0
Lies content r = IsOffset content r.start × IsOffset content r.end

all-append : (content : List ℕ) (xs ys : List Report) → AllByRecursion (Lies content) xs → AllByRecursion (Lies content) ys → AllByRecursion (Lies content) (xs ++ ys)
all-append content [] ys h k = k
all-append content (x ∷ xs) ys h k = (h.0, all-append content xs ys h.1 k)

-- a report on some characters after others
lies : (content before text rest : List ℕ) (at : ℕ) (unit : Result MixedUnit EscapeError) → content ≡ before ++ (text ++ rest) → at ≡ size before → Lies content (record { start = at; end = at + size text; unit = unit })
lies content before text rest at unit e a =
    ((before, text ++ rest, e, a), (before ++ text, rest, e ∙ sym (append_assoc before text rest), omega (arith, size-append before text)))

lies_if : (warns : Bool) (content before text rest : List ℕ) (at : ℕ) (unit : Result MixedUnit EscapeError) → content ≡ before ++ (text ++ rest) → at ≡ size before
    → AllByRecursion (Lies content) (if warns then (record { start = at; end = at + size text; unit = unit }) ∷ [] else [])
lies_if true content before text rest at unit e a = (lies content before text rest at unit e a, tt)
lies_if false content before text rest at unit e a = tt

white_lies : (content before bs rest : List ℕ) (at : ℕ) → content ≡ before ++ ((92 ∷ 10 ∷ bs) ++ rest) → at ≡ size before → AllByRecursion (Lies content) (white_warning at bs rest)
white_lies content before bs [] at e a = tt
white_lies content before bs (c ∷ cs) at e a =
    lies_if (is_whitespace c) content before ((92 ∷ 10 ∷ bs) ++ c ∷ []) cs at (Err UnskippedWhitespaceWarning) (e ∙ ap (λ ds. before ++ ds) (sym (append_assoc (92 ∷ 10 ∷ bs) (c ∷ []) cs))) a

piece_lies : (mode : Mode) (content before : List ℕ) (p : Piece) (rest : List ℕ) (at : ℕ) → content ≡ before ++ (spelling p ++ rest) → at ≡ size before → AllByRecursion (Lies content) (piece_reports mode at p rest)
piece_lies mode content before (character c) rest at e a = (lies content before (c ∷ []) rest at (unit_of mode (character c)) e a, tt)
piece_lies mode content before (letter c) rest at e a = (lies content before (92 ∷ c ∷ []) rest at (unit_of mode (letter c)) e a, tt)
piece_lies mode content before (pair d b) rest at e a = (lies content before (92 ∷ 120 ∷ d ∷ b ∷ []) rest at (unit_of mode (pair d b)) e a, tt)
piece_lies mode content before (braced f m) rest at e a = (lies content before (spelling (braced f m)) rest at (unit_of mode (braced f m)) e a, tt)
piece_lies mode content before (faulty b next) rest at e a = (lies content before (front b ++ shown next) rest at (unit_of mode (faulty b next)) e a, tt)
piece_lies mode content before (continuation bs) rest at e a =
    all-append content (lines_warning at bs) (white_warning at bs rest) (lies_if (list_any (λ c. c == 10) bs) content before (92 ∷ 10 ∷ bs) rest at (Err MultipleSkippedLinesWarning) e a) (white_lies content before bs rest at e a)

lie_from : (mode : Mode) (content before cs : List ℕ) (at : ℕ) (ps : List Piece) → content ≡ before ++ cs → at ≡ size before → IsCut mode cs ps → AllByRecursion (Lies content) (reports_from mode at ps)
lie_from mode content before cs at [] e a h = tt
lie_from mode content before cs at (p ∷ ps) e a h =
    let text = e ∙ ap (λ ds. before ++ ds) h.1 in
    let same = cut-text mode h.0 ps h.3 in
    all-append content (piece_reports mode at p (flat_map spelling ps)) (reports_from mode (at + size (spelling p)) ps)
    (piece_lies mode content before p (flat_map spelling ps) at (text ∙ ap (λ ds. before ++ (spelling p ++ ds)) (sym same)) a)
    (lie_from mode content (before ++ spelling p) h.0 (at + size (spelling p)) ps (text ∙ sym (append_assoc before (spelling p) h.0)) (omega (arith, size-append before (spelling p))) h.3)

pub ranges : (mode : Mode) (content : List ℕ) (ps : List Piece) → IsCut mode content ps → AreRanges content (reports_from mode 0 ps)
ranges mode content ps h = (follow_from mode 0 ps, lie_from mode content [] content 0 ps refl refl h)
