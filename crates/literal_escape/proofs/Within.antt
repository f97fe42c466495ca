-- The reports of a content: those of its cut, and within its bytes.
use Rattle.std.proofs.Common.{◌≡◌, ℕ, ◌+◌, ◌≤◌, List, [], ◌∷◌, length, refl, sym, ap, ◌∙◌, subst, arith, length-append}
use Rattle.std.specs.Prelude.{encode_utf8_all}
use Rattle.std.specs.List.{AllByRecursion}
use Rattle.std.specs.Char.{encode_utf8, len_utf8}
use Rattle.std.specs.Str.{IsUtf8, chars}
use Rattle.std.proofs.lemmas.List.Sums.{sum_by-append}
use Rattle.std.proofs.lemmas.Str.{length-encode, encodes-chars}
use Rattle.literal_escape.specs.declared.mode.Mode.{Mode}
use Rattle.literal_escape.specs.declared.reader.Report.{Report}
use Rattle.literal_escape.specs.Pieces.{Piece, IsCut, size, reports_from, IsOffset, IsWithin}
use Rattle.literal_escape.specs.Reading.{reports_in}
use Rattle.literal_escape.proofs.Cutting.{starts}
use Rattle.literal_escape.proofs.OneCut.{one_cut}
use Rattle.literal_escape.proofs.Ranges.{ranges}

pub read_by_cut : (mode : Mode) (content : List ℕ) (pieces : List Piece) → IsCut mode content pieces → reports_in mode content ≡ reports_from mode 0 pieces
read_by_cut mode content pieces h =
    let s = starts mode content in
    let one = one_cut mode content in
    s.2 ∙ ap (reports_from mode 0) (one.2 s.0 s.1 ∙ sym (one.2 pieces h))

-- an offset is not past the content
offset-le : (content : List ℕ) (n : ℕ) → IsOffset content n → n ≤ size content
offset-le content n h = omega (arith, h.3, ap size h.2, sum_by-append len_utf8 h.0 h.1)

all_within : (content : List ℕ) (rs : List Report) → AllByRecursion (λ r. IsOffset content r.start × IsOffset content r.end) rs → AllByRecursion (IsWithin (size content)) rs
all_within content [] h = tt
all_within content (r ∷ rs) h = ((offset-le content r.start h.0.0, offset-le content r.end h.0.1), all_within content rs h.1)

-- characters take as many bytes as their UTF-8 has
size-encoded : (cs : List ℕ) → size cs ≡ length (encode_utf8_all cs)
size-encoded [] = refl
size-encoded (c ∷ cs) =
    let one : size (c ∷ []) ≡ len_utf8 c = omega arith in
    let rest : size (c ∷ []) + size cs ≡ length (encode_utf8 c) + length (encode_utf8_all cs) = omega (arith, one, size-encoded cs, length-encode c) in
    sum_by-append len_utf8 (c ∷ []) cs ∙ (rest ∙ sym (length-append (encode_utf8 c) (encode_utf8_all cs)))

pub reports_within : (mode : Mode) (bs : List ℕ) → IsUtf8 bs → AllByRecursion (IsWithin (length bs)) (reports_in mode (chars bs))
reports_within mode bs u =
    let s = starts mode (chars bs) in
    let all = all_within (chars bs) (reports_from mode 0 s.0) (ranges mode (chars bs) s.0 s.1).1 in
    let same : size (chars bs) ≡ length bs = size-encoded (chars bs) ∙ ap length (encodes-chars bs u) in
    subst (λ n. AllByRecursion (IsWithin n) (reports_in mode (chars bs))) same (subst (AllByRecursion (IsWithin (size (chars bs)))) (sym s.2) all)
