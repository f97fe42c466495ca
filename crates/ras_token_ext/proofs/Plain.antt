-- A content without a backslash and without a fatal fault means itself.
use Rattle.std.proofs.Common.{◌≡◌, ℕ, ◌+◌, Bool, true, false, ◌&&◌, ◌||◌, Option, Some, None, Result, Ok, List, [], ◌∷◌, ◌++◌, map, refl, sym, ap, ◌∙◌, subst, arith}
use Rattle.std.specs.Prelude.{◌==◌, nat_le, flat_map, encode_utf8, encode_utf8_all}
use Rattle.std.specs.Str.{IsUtf8, chars}
use Rattle.std.proofs.lemmas.Str.{encodes-chars}
use Rattle.std.proofs.lemmas.Bool.Decides.{nat_tests}
use Rattle.literal_escape.specs.declared.error.EscapeError.{EscapeError}
use Rattle.literal_escape.specs.declared.mode.Mode.{Mode}
use Rattle.literal_escape.specs.declared.mode.Mode.TheVariants as modes
use Rattle.literal_escape.specs.declared.mode.MixedUnit.{MixedUnit}
use Rattle.literal_escape.specs.declared.mode.MixedUnit.TheVariants as units
use Rattle.literal_escape.specs.declared.reader.Report.{Report}
use Rattle.literal_escape.specs.Literal.{is_bytes, must_be_escaped, meaning, plain}
use Rattle.literal_escape.specs.Pieces.{character, spelling, IsCut, size, reports_from}
use Rattle.literal_escape.specs.Reading.{reports_in}
use Rattle.literal_escape.proofs.Within.{read_by_cut}
use Rattle.ras_token_ext.specs.Literals.{has_backslash, fatal, newer, last_fault_after, last_fault, unit_bytes, unit_text, meanings, string_meanings}

-- each character is no backslash
abbrev HasNone : List ℕ → Type 0
HasNone [] = Unit {0}
HasNone (c ∷ cs) = ((c == 92) ≡ false) × HasNone cs

rest_false : (b c : Bool) → (b || c) ≡ false → c ≡ false
rest_false true c h = (let no : true ≡ false = h in cc)
rest_false false c h = h

back_false : (xs ys : List ℕ) → has_backslash (xs ++ ys) ≡ false → has_backslash ys ≡ false
back_false [] ys h = h
back_false (x ∷ xs) ys h = back_false xs ys (rest_false (x == 92) (has_backslash (xs ++ ys)) h)

-- a backslash is one byte
no_backslash : (c : ℕ) (ys : List ℕ) (b : Bool) → (c == 92) ≡ b → has_backslash (encode_utf8 c ++ ys) ≡ false → (c == 92) ≡ false
unfolding lib.Utf8.encode
no_backslash c ys false e h = e
no_backslash c ys true e h =
    let same : c ≡ 92 = grind (arith, nat_tests) in
    let clash : has_backslash (encode_utf8 92 ++ ys) ≡ false = subst (λ d. has_backslash (encode_utf8 d ++ ys) ≡ false) same h in
    let no : true ≡ false = clash in cc

none_in : (cs : List ℕ) → has_backslash (encode_utf8_all cs) ≡ false → HasNone cs
none_in [] h = tt
none_in (c ∷ cs) h = (no_backslash c (encode_utf8_all cs) (c == 92) refl h, none_in cs (back_false (encode_utf8 c) (encode_utf8_all cs) h))

cut_of : (mode : Mode) (cs : List ℕ) → HasNone cs → IsCut mode cs (map character cs)
cut_of mode [] h = refl
cut_of mode (c ∷ cs) h = (cs, refl, h.0, cut_of mode cs h.1)

-- a fault stays the last one or gives way to another
stays : (e : EscapeError) (rs : List Report) → last_fault_after (Some e) rs ≡ None → ⊥
stays e [] h = (let no : Some e ≡ None = h in cc)
stays e (r ∷ rs) h = by (fatal r.unit) h (λ f k. stays f rs k)
  where
    by : (o : Option EscapeError) → last_fault_after (newer (Some e) o) rs ≡ None → ((f : EscapeError) → last_fault_after (Some f) rs ≡ None → ⊥) → ⊥
    by None k ih = ih e k
    by (Some f) k ih = ih f k

-- so no report is at fault
first_good : (o : Option EscapeError) (rs : List Report) → last_fault_after (newer None o) rs ≡ None → o ≡ None
first_good None rs h = refl
first_good (Some e) rs h = absurd (stays e rs h)

rest_good : (o : Option EscapeError) (rs : List Report) → o ≡ None → last_fault_after (newer None o) rs ≡ None → last_fault_after None rs ≡ None
rest_good None rs e h = h
rest_good (Some f) rs e h = (let no : Some f ≡ None = e in cc)

meaning_ok : (mode : Mode) (c : ℕ) (b : Bool) → (c == 0) ≡ b → fatal (meaning mode c) ≡ None → meaning mode c ≡ Ok (units.Char c)
meaning_ok modes.CStr c true e h = (let g = rw e at h in cc)
meaning_ok modes.CStr c false e h = rw e refl
meaning_ok modes.Char c b e h = refl
meaning_ok modes.Byte c b e h = refl
meaning_ok modes.Str c b e h = refl
meaning_ok modes.ByteStr c b e h = refl

-- a character for itself that is not at fault
plain_ok : (cr only high : Bool) (mode : Mode) (c : ℕ) → (c == 13) ≡ cr → must_be_escaped mode c ≡ only → (is_bytes mode && nat_le 128 c) ≡ high
    → fatal (plain mode c) ≡ None → plain mode c ≡ Ok (units.Char c)
plain_ok true only high mode c er eo eh h = (let g = rw er at h in cc)
plain_ok false true high mode c er eo eh h = (let g = rw (er, eo) at h in cc)
plain_ok false false true mode c er eo eh h = (let g = rw (er, eo, eh) at h in cc)
plain_ok false false false mode c er eo eh h = rw (er, eo, eh) (meaning_ok mode c (c == 0) refl (rw (er, eo, eh) at h))

joined : (view : Result MixedUnit EscapeError → List ℕ) (mode : Mode) (at : ℕ) (cs : List ℕ) → ((c : ℕ) → view (Ok (units.Char c)) ≡ encode_utf8 c)
    → last_fault_after None (reports_from mode at (map character cs)) ≡ None → flat_map (λ (r : Report). view r.unit) (reports_from mode at (map character cs)) ≡ encode_utf8_all cs
joined view mode at [] spelled h = refl
joined view mode at (c ∷ cs) spelled h =
    let rest : List Report = reports_from mode (at + size (spelling (character c))) (map character cs) in
    let good : fatal (plain mode c) ≡ None = first_good (fatal (plain mode c)) rest h in
    let here : view (plain mode c) ≡ encode_utf8 c = ap view (plain_ok (c == 13) (must_be_escaped mode c) (is_bytes mode && nat_le 128 c) mode c refl refl refl good) ∙ spelled c in
    let there : flat_map (λ (r : Report). view r.unit) rest ≡ encode_utf8_all cs = joined view mode (at + size (spelling (character c))) cs spelled (rest_good (fatal (plain mode c)) rest good h) in
    ap (λ bs. bs ++ flat_map (λ (r : Report). view r.unit) rest) here ∙ ap (λ bs. encode_utf8 c ++ bs) there

itself : (view : Result MixedUnit EscapeError → List ℕ) (mode : Mode) (content : List ℕ) → ((c : ℕ) → view (Ok (units.Char c)) ≡ encode_utf8 c) → IsUtf8 content
    → has_backslash content ≡ false → last_fault mode content ≡ None → flat_map (λ (r : Report). view r.unit) (reports_in mode (chars content)) ≡ content
itself view mode content spelled u p g =
    let cs = chars content in
    let text = encodes-chars content u in
    let none : HasNone cs = none_in cs (ap has_backslash text ∙ p) in
    let read = read_by_cut mode cs (map character cs) (cut_of mode cs none) in
    ap (flat_map (λ (r : Report). view r.unit)) read ∙ (joined view mode 0 cs spelled (ap (last_fault_after None) (sym read) ∙ g) ∙ text)

pub means_itself : (mode : Mode) (content : List ℕ) → IsUtf8 content → has_backslash content ≡ false → last_fault mode content ≡ None → meanings mode content ≡ content
means_itself mode content u p g = itself unit_bytes mode content (λ c. refl) u p g

pub spells_itself : (content : List ℕ) → IsUtf8 content → has_backslash content ≡ false → last_fault modes.Str content ≡ None → string_meanings content ≡ content
spells_itself content u p g = itself unit_text modes.Str content (λ c. refl) u p g
