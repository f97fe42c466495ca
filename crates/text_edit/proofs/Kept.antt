-- What stands before some replacements is not changed by them.
use Rattle.std.proofs.Common.{◌≡◌, ℕ, ◌≤◌, List, ◌++◌, length, take, sym, ap, subst, ◌∙◌, arith}
use Rattle.std.specs.Prelude.{All, IsUtf8, IsCharBoundary}
use Rattle.std.proofs.lemmas.List.{take_at, take-append-le, take-take, length-take-le, length-append}
use Rattle.std.proofs.lemmas.Str.{IsUtf8-take, IsCharBoundary-from_take}
use Rattle.text_edit.specs.Replacements.{Replacement, InOrder, IsRangeOf, edited}
use Rattle.text_edit.proofs.Pass.{all_within, edited_passed_within, passed}

-- the first n bytes stay
pub stays_before : (s : List ℕ) (n m : ℕ) (es : List Replacement) → n ≤ m → m ≤ length s → InOrder m es → All (IsRangeOf s) es → take n (edited s es) ≡ take n s
stays_before s n m es le within o a =
    let long : length (take m s) ≡ m = length-take-le m s within in
    ap (take n) (edited_passed_within s m es within o (all_within s es a))
    ∙ take-append-le n (take m s) (passed s m es) (omega (arith, long, le))
    ∙ take-take n m s le

long_enough : (s : List ℕ) (m : ℕ) (es : List Replacement) → m ≤ length s → InOrder m es → All (IsRangeOf s) es → m ≤ length (edited s es)
long_enough s m es within o a =
    let long : length (take m s) ≡ m = length-take-le m s within in
    omega (arith, long, ap length (edited_passed_within s m es within o (all_within s es a)), length-append (take m s) (passed s m es))

boundary_stays : (s : List ℕ) (n m : ℕ) (es : List Replacement) → IsUtf8 s → IsUtf8 (edited s es) → n ≤ m → m ≤ length s → InOrder m es → All (IsRangeOf s) es → IsCharBoundary s n → IsCharBoundary (edited s es) n
boundary_stays s n m es utf8 utf8' le within o a here =
    IsCharBoundary-from_take (edited s es) n utf8' (omega (arith, le, long_enough s m es within o a))
    (subst IsUtf8 (sym (stays_before s n m es le within o a)) (IsUtf8-take s n utf8 here))

-- a range of the text that ends before the replacements is one of the edited text
pub range_stays : (s : List ℕ) (e : Replacement) (es : List Replacement) → IsUtf8 s → IsUtf8 (edited s es) → e.delete.start ≤ e.delete.end → InOrder e.delete.end es → All (IsRangeOf s) es → IsRangeOf s e → IsRangeOf (edited s es) e
range_stays s e es utf8 utf8' forwards o a range = record {
  within = long_enough s e.delete.end es range.within o a;
  start_boundary = boundary_stays s e.delete.start e.delete.end es utf8 utf8' forwards range.within o a range.start_boundary;
  end_boundary = boundary_stays s e.delete.end e.delete.end es utf8 utf8' (omega arith) range.within o a range.end_boundary;
}
