-- A string in which each character stands for itself has no fault.
use Rattle.std.proofs.Common.{◌≡◌, ◌∙◌, ℕ, ◌+◌, Bool, true, false, not, nat_le, ◌==◌, ◌&&◌, if◌then◌else◌, List, [], ◌∷◌, Result, Ok, Err, ap, refl}
use Rattle.std.specs.Prelude.{flat_map}
use Rattle.std.specs.List.{list_all}
use Rattle.std.specs.Char.{len_utf8}
use Rattle.literal_escape.specs.declared.error.EscapeError.{EscapeError}
use Rattle.literal_escape.specs.declared.error.EscapeError.TheVariants.{BareCarriageReturn, EscapeOnlyChar, NonAsciiCharInByte, NulInCStr}
use Rattle.literal_escape.specs.declared.mode.Mode.{Mode}
use Rattle.literal_escape.specs.declared.mode.Mode.TheVariants as modes
use Rattle.literal_escape.specs.declared.mode.MixedUnit.{MixedUnit}
use Rattle.literal_escape.specs.declared.mode.MixedUnit.TheVariants as units
use Rattle.literal_escape.specs.declared.progress.State.TheVariants as states
use Rattle.literal_escape.specs.declared.progress.Step.{Step}
use Rattle.literal_escape.specs.declared.progress.Step.TheVariants.{Go, Unit as Ends}
use Rattle.literal_escape.specs.declared.reader.Reader.{Reader}
use Rattle.literal_escape.specs.Literal.{is_string, is_bytes, plain}
use Rattle.literal_escape.specs.Reading.{step_of, found, behind, past, before, reports_of, warning_of, read_report_of, read_of, end_report_of}
use Rattle.ras_validation.specs.Plain.{stands_for_itself, is_plain}
use Rattle.ras_validation.specs.Violations.{report_fault}

-- a test fails, and what follows holds
refused : (a b : Bool) → (not a && b) ≡ true → (a ≡ false) × (b ≡ true)
refused true b h = absurd (let bad : false ≡ true = h in cc)
refused false b h = (refl, h)

both : (a b : Bool) → (a && b) ≡ true → (a ≡ true) × (b ≡ true)
both true b h = (refl, h)
both false b h = absurd (let bad : false ≡ true = h in cc)

not_so : (a : Bool) → not a ≡ true → a ≡ false
not_so true h = absurd (let bad : false ≡ true = h in cc)
not_so false h = refl

-- none of four tests holds
last_of : {A : Type 0} (a b d e : Bool) (x y z v w : A) → a ≡ false → b ≡ false → d ≡ false → e ≡ false
    → (if a then x else (if b then y else (if d then z else (if e then v else w)))) ≡ w
last_of a b d e x y z v w f g h i =
    ap (λ p. if p then x else (if b then y else (if d then z else (if e then v else w)))) f
    ∙ ap (λ p. if p then y else (if d then z else (if e then v else w))) g
    ∙ ap (λ p. if p then z else (if e then v else w)) h
    ∙ ap (λ p. if p then v else w) i

last_of_three : {A : Type 0} (a b d : Bool) (x y z w : A) → a ≡ false → b ≡ false → d ≡ false
    → (if a then x else (if b then y else (if d then z else w))) ≡ w
last_of_three a b d x y z w f g h =
    ap (λ p. if p then x else (if b then y else (if d then z else w))) f
    ∙ ap (λ p. if p then y else (if d then z else w)) g
    ∙ ap (λ p. if p then z else w) h

abbrev good : ℕ → Result MixedUnit EscapeError
good c = Ok (units.Char c)

plain_good : (mode : Mode) (c : ℕ) → is_string mode ≡ true → (c == 13) ≡ false → (c == 34) ≡ false → (c == 0) ≡ false
    → (is_bytes mode && nat_le 128 c) ≡ false → plain mode c ≡ good c
plain_good modes.Char c s f g h i = absurd (let bad : false ≡ true = s in cc)
plain_good modes.Byte c s f g h i = absurd (let bad : false ≡ true = s in cc)
plain_good modes.Str c s f g h i = last_of_three (c == 13) (c == 34) false (Err BareCarriageReturn) (Err EscapeOnlyChar) (Err NonAsciiCharInByte) (good c) f g refl
plain_good modes.ByteStr c s f g h i = last_of_three (c == 13) (c == 34) (nat_le 128 c) (Err BareCarriageReturn) (Err EscapeOnlyChar) (Err NonAsciiCharInByte) (good c) f g i
plain_good modes.CStr c s f g h i = last_of (c == 13) (c == 34) false (c == 0) (Err BareCarriageReturn) (Err EscapeOnlyChar) (Err NonAsciiCharInByte) (Err NulInCStr) (good c) f g refl h

-- the reader between two pieces
abbrev fresh : Mode → ℕ → ℕ → Reader
fresh mode start at = record { mode = mode; start = start; at = at; state = states.Start }

step_good : (mode : Mode) (c : ℕ) → is_string mode ≡ true → stands_for_itself mode c ≡ true → step_of mode states.Start c ≡ Ends (good c)
unfolding step_of
step_good mode c s h =
    let p = refused (c == 92) _ h in
    let q = refused (c == 13) _ p.1 in
    let r = refused (c == 34) _ q.1 in
    let t = refused (c == 0) _ r.1 in
    ap (λ b. if b then Go states.Backslash else Ends (plain mode c)) p.0
    ∙ ap Ends (plain_good mode c s q.0 r.0 t.0 (not_so (is_bytes mode && nat_le 128 c) t.1))

-- the report of the first character, and those of the others
one_more : (mode : Mode) (c : ℕ) (cs : List ℕ) (start at : ℕ) → step_of mode states.Start c ≡ Ends (good c)
    → reports_of (fresh mode start at) (c ∷ cs)
    ≡ record { start = start; end = (at + len_utf8 c) + 0; unit = good c } ∷ reports_of (fresh mode (at + len_utf8 c) (at + len_utf8 c)) cs
unfolding reports_of warning_of read_report_of read_of
one_more mode c cs start at h =
    ap (λ (st : Step). before (found (past (fresh mode start at) c) st) (reports_of (behind (past (fresh mode start at) c) st) cs)) h

none_left : (mode : Mode) (start at : ℕ) → reports_of (fresh mode start at) [] ≡ []
unfolding reports_of end_report_of
none_left mode start at = refl

no_faults : (mode : Mode) (s : ℕ) (cs : List ℕ) (start at : ℕ) → is_string mode ≡ true → list_all (stands_for_itself mode) cs ≡ true
    → flat_map (report_fault s) (reports_of (fresh mode start at) cs) ≡ []
no_faults mode s [] start at is h = ap (flat_map (report_fault s)) (none_left mode start at)
no_faults mode s (c ∷ cs) start at is h =
    let p = both (stands_for_itself mode c) (list_all (stands_for_itself mode) cs) h in
    ap (flat_map (report_fault s)) (one_more mode c cs start at (step_good mode c is p.0))
    ∙ no_faults mode s cs (at + len_utf8 c) (at + len_utf8 c) is p.1

-- a plain content has none
pub plain_content : (mode : Mode) (s : ℕ) (content : List ℕ) → is_string mode ≡ true → is_plain mode content ≡ true
    → flat_map (report_fault s) (reports_of (fresh mode 0 0) content) ≡ []
plain_content mode s content is h = no_faults mode s content 0 0 is h
