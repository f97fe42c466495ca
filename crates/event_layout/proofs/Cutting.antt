-- Steps that cut a text up to where the rest of it begins, and tokens that cut the rest.
use Rattle.std.proofs.Common.{◌≡◌, ℕ, zero, suc, ◌+◌, ◌-◌, ◌≤◌, ◌<◌, ◌^◌, List, [], ◌∷◌, ◌++◌, length, take, drop, ap, sym, ◌∙◌, refl, arith, subst, Some, None, get_or, fold, if◌then◌else◌}
use Rattle.std.specs.Prelude.{IsUtf8, IsCharBoundary, min, position, nat_eq, Bool, true, false}
use Rattle.std.proofs.Math.Nat.{min-eq_left}
use Rattle.std.proofs.Math.Seq.{take-add}
use Rattle.std.proofs.lemmas.Bool.Decides.{nat_tests}
use Rattle.std.proofs.lemmas.Str.{IsUtf8-append, IsUtf8-take, IsUtf8-drop, IsCharBoundary-start, IsCharBoundary-after_ascii}
use Rattle.std.proofs.lemmas.List.{drop-take, drop-drop, length-take-le, length-drop}
use Rattle.std.proofs.lemmas.List.Quantifiers.{position-Some}
use Rattle.syntax_kind.specs.declared.syntax_kind.SyntaxKind.{SyntaxKind}
use Rattle.ras_front_end.specs.Reading.{FrontStep, begins, takes, ends, reports, Cuts}
use Rattle.token_layout.specs.declared.span.Token.{Token}
use Rattle.token_layout.specs.Laid.{IsCut}
use Rattle.grammar_machine.specs.declared.event.Part.{Part}
use Rattle.grammar_machine.specs.declared.event.Part.TheVariants.{Whole, Dot, Fraction}
use Rattle.event_layout.specs.Trivia.{later_of}
use Rattle.event_layout.specs.Layout.{len_of_part, joined_len, is_number, dot_of}

-- the steps cut the text up to where `rest` begins
abbrev pub CutsTo : List FrontStep → List ℕ → List ℕ → Type 0
CutsTo [] s rest = s ≡ rest
CutsTo (begins k ∷ es) s rest = CutsTo es s rest
CutsTo (takes k n ∷ es) s rest = (n ≤ length s) × IsUtf8 (take n s) × CutsTo es (drop n s) rest
CutsTo (ends ∷ es) s rest = CutsTo es s rest
CutsTo (reports m p ∷ es) s rest = CutsTo es s rest

-- the tokens cut the text, but for so many bytes of the first that are gone
abbrev pub IsCutFrom : ℕ → List Token → List ℕ → Type 0
IsCutFrom c [] s = s ≡ []
IsCutFrom c (t ∷ ts) s = (t.len < 2 ^ 32) × (t.len - c ≤ length s) × IsUtf8 (take (t.len - c) s) × IsCut ts (drop (t.len - c) s)

pub cuts_takes : (es : List FrontStep) (k : SyntaxKind) (n : ℕ) (s rest : List ℕ) → CutsTo es s rest → n ≤ length rest → IsUtf8 (take n rest) → CutsTo (es ++ takes k n ∷ []) s (drop n rest)
cuts_takes [] k n s rest h l u = (subst (λ z. n ≤ length z) (sym h) l, subst (λ z. IsUtf8 (take n z)) (sym h) u, ap (drop n) h)
cuts_takes (begins j ∷ es) k n s rest h l u = cuts_takes es k n s rest h l u
cuts_takes (takes j m ∷ es) k n s rest h l u = (h.0, h.1, cuts_takes es k n (drop m s) rest h.2 l u)
cuts_takes (ends ∷ es) k n s rest h l u = cuts_takes es k n s rest h l u
cuts_takes (reports m p ∷ es) k n s rest h l u = cuts_takes es k n s rest h l u

pub cuts_begins : (es : List FrontStep) (k : SyntaxKind) (s rest : List ℕ) → CutsTo es s rest → CutsTo (es ++ begins k ∷ []) s rest
cuts_begins [] k s rest h = h
cuts_begins (begins j ∷ es) k s rest h = cuts_begins es k s rest h
cuts_begins (takes j m ∷ es) k s rest h = (h.0, h.1, cuts_begins es k (drop m s) rest h.2)
cuts_begins (ends ∷ es) k s rest h = cuts_begins es k s rest h
cuts_begins (reports m p ∷ es) k s rest h = cuts_begins es k s rest h

pub cuts_ends : (es : List FrontStep) (s rest : List ℕ) → CutsTo es s rest → CutsTo (es ++ ends ∷ []) s rest
cuts_ends [] s rest h = h
cuts_ends (begins j ∷ es) s rest h = cuts_ends es s rest h
cuts_ends (takes j m ∷ es) s rest h = (h.0, h.1, cuts_ends es (drop m s) rest h.2)
cuts_ends (ends ∷ es) s rest h = cuts_ends es s rest h
cuts_ends (reports m p ∷ es) s rest h = cuts_ends es s rest h

pub cuts_all : (es : List FrontStep) (s rest : List ℕ) → CutsTo es s rest → rest ≡ [] → Cuts es s
cuts_all [] s rest h e = h ∙ e
cuts_all (begins j ∷ es) s rest h e = cuts_all es s rest h e
cuts_all (takes j m ∷ es) s rest h e = (h.0, h.1, cuts_all es (drop m s) rest h.2 e)
cuts_all (ends ∷ es) s rest h e = cuts_all es s rest h e
cuts_all (reports m p ∷ es) s rest h e = cuts_all es s rest h e

pub from_start : (ts : List Token) (s : List ℕ) → length s < 2 ^ 32 → IsCut ts s → IsCutFrom 0 ts s
from_start [] s l h = h
from_start (t ∷ ts) s l h =
    let e : t.len ≡ t.len - 0 = omega arith in
    (omega (arith, h.0, l), omega (arith, h.0), subst (λ n. IsUtf8 (take n s)) e h.1, subst (λ n. IsCut ts (drop n s)) e h.2)

pub later_is : (a n : ℕ) → a + n < 2 ^ 32 → later_of a n ≡ a + n
later_is a n h = min-eq_left (omega (arith, h))

-- so many bytes are a text, and the tokens cut what follows
pub record Goes (n : ℕ) (ts : List Token) (s : List ℕ) : Type 0 where
  pub within : n ≤ length s
  pub is_text : IsUtf8 (take n s)
  pub behind : IsCut ts (drop n s)

pub goes_on : (t : Token) (ts : List Token) (a : ℕ) (s : List ℕ) → Goes a (t ∷ ts) s → Goes (a + t.len) ts s
goes_on t ts a s h =
    let c = h.behind in
    let long : t.len + a ≤ length s = omega (arith, c.0, h.within, length-drop a s) in
    record {
      within = omega (arith, long);
      is_text = subst IsUtf8 (sym (take-add a t.len s)) (IsUtf8-append (take a s) (take t.len (drop a s)) h.is_text c.1);
      behind = subst (IsCut ts) (drop-drop t.len a s) c.2;
    }

joined_on : (more : ℕ) (ts : List Token) (a : ℕ) (s : List ℕ) → length s < 2 ^ 32 → Goes a ts s → Goes (fold (λ n t. later_of n t.len) a (take more ts)) (drop more ts) s
joined_on zero ts a s l h = h
joined_on (suc n) [] a s l h = h
joined_on (suc n) (t ∷ ts) a s l h =
    let g = goes_on t ts a s h in
    let e : later_of a t.len ≡ a + t.len = later_is a t.len (omega (arith, g.within, l)) in
    joined_on n ts (later_of a t.len) s l (subst (λ m. Goes m ts s) (sym e) g)

-- a token that is made of several
pub joined_goes : (more : ℕ) (ts : List Token) (a : ℕ) (s : List ℕ) → length s < 2 ^ 32 → Goes a ts s → Goes (joined_len a (take more ts)) (drop more ts) s
unfolding joined_len
joined_goes more ts a s l h = joined_on more ts a s l h

-- a number of bytes at which a text may be cut
pub record CutsAt (n : ℕ) (w : List ℕ) : Type 0 where
  pub within : n ≤ length w
  pub boundary : IsCharBoundary w n

cut_before : (w : List ℕ) (dot : ℕ) → dot < length w → get_or w dot 0 ≡ 46 → IsCharBoundary w dot
cut_before w dot h e = (omega (arith, h), λ _ big. absurd (omega (arith, e, big)))

part_cuts : (p : Part) (dot : ℕ) (w : List ℕ) → IsUtf8 w → length w < 2 ^ 32 → dot < length w → get_or w dot 0 ≡ 46 → CutsAt (len_of_part p dot) w
part_cuts Whole dot w u l h e =
    let same : dot ≡ min dot (2 ^ 32 - 1) = sym (min-eq_left (omega (arith, h, l))) in
    subst (λ n. CutsAt n w) same (record { within = omega (arith, h); boundary = cut_before w dot h e })
part_cuts Dot dot w u l h e =
    let same : min dot (2 ^ 32 - 1) ≡ dot = min-eq_left (omega (arith, h, l)) in
    let more : later_of (min dot (2 ^ 32 - 1)) 1 ≡ dot + 1 = ap (λ n. later_of n 1) same ∙ min-eq_left (omega (arith, h, l)) in
    subst (λ n. CutsAt n w) (sym more) (record { within = omega (arith, h); boundary = IsCharBoundary-after_ascii w dot u h (omega (arith, e)) })
part_cuts Fraction dot w u l h e = record { within = omega arith; boundary = IsCharBoundary-start w u }

is_dot : (b : ℕ) → nat_eq b 46 ≡ true → b ≡ 46
is_dot b h = grind (arith, nat_tests)

-- what is found as a dot is one
pub dot_place : (k : SyntaxKind) (w : List ℕ) (dot : ℕ) → dot_of k w ≡ Some dot
    → position (λ b. nat_eq b 46) w ≡ Some dot
dot_place k w dot h = by (is_number k) refl
  where
    by : (b : Bool) → is_number k ≡ b → position (λ b. nat_eq b 46) w ≡ Some dot
    by true f = sym (ap (λ c. if c then position (λ b. nat_eq b 46) w else None) f) ∙ h
    by false f =
        let no : None ≡ Some dot = sym (ap (λ c. if c then position (λ b. nat_eq b 46) w else None) f) ∙ h in
        absurd (cc)

pub dot_found : (k : SyntaxKind) (w : List ℕ) (dot : ℕ) → dot_of k w ≡ Some dot
    → (dot < length w) × (nat_eq (get_or w dot 0) 46 ≡ true)
dot_found k w dot h = let f = position-Some (λ b. nat_eq b 46) w dot 0 (dot_place k w dot h) in (f.0, f.1)

pub no_dot_in : (k : SyntaxKind) (w : List ℕ) → position (λ b. nat_eq b 46) w ≡ None → dot_of k w ≡ None
no_dot_in k w h = by (is_number k) refl
  where
    by : (b : Bool) → is_number k ≡ b → dot_of k w ≡ None
    by true f = ap (λ c. if c then position (λ b. nat_eq b 46) w else None) f ∙ h
    by false f = ap (λ c. if c then position (λ b. nat_eq b 46) w else None) f

-- where the dot is found, the part is a text
pub found_cuts : (p : Part) (dot : ℕ) (w : List ℕ) → IsUtf8 w → length w < 2 ^ 32 → position (λ b. nat_eq b 46) w ≡ Some dot → CutsAt (len_of_part p dot) w
found_cuts p dot w u l h =
    let f = position-Some (λ b. nat_eq b 46) w dot 0 h in
    part_cuts p dot w u l f.0 (is_dot (get_or w dot 0) f.1)

take_short : (n m : ℕ) (s : List ℕ) → n ≤ m → take n (take m s) ≡ take n s
take_short zero m s h = refl
take_short (suc n) zero s h = absurd (omega (arith, h))
take_short (suc n) (suc m) [] h = refl
take_short (suc n) (suc m) (x ∷ s) h = ap (λ l. x ∷ l) (take_short n m s (omega (arith, h)))

-- the first n bytes of a token of so many, and the others
pub record Parts (n len : ℕ) (s : List ℕ) : Type 0 where
  pub within : n ≤ len
  pub front : IsUtf8 (take n s)
  pub back : IsUtf8 (take (len - n) (drop n s))

pub parted : (n len : ℕ) (s : List ℕ) → len ≤ length s → IsUtf8 (take len s) → CutsAt n (take len s) → Parts n len s
parted n len s l u h =
    let le : n ≤ len = omega (arith, h.within, length-take-le len s l) in
    let sum : n + (len - n) ≡ len = omega (arith, le) in
    let front_is : take n (take len s) ≡ take n s = take_short n len s le in
    let back_is : drop n (take len s) ≡ take (len - n) (drop n s) = ap (λ m. drop n (take m s)) (sym sum) ∙ drop-take n (len - n) s in
    record {
      within = le;
      front = subst IsUtf8 front_is (IsUtf8-take (take len s) n u h.boundary);
      back = subst IsUtf8 back_is (IsUtf8-drop (take len s) n u h.boundary);
    }
