-- The errors of a text in which one token was given another text.
use Rattle.std.proofs.Common.{◌≡◌, ℕ, zero, suc, ◌+◌, ◌-◌, ◌<◌, ◌≤◌, Bool, true, false, nat_le, if◌then◌else◌, List, [], ◌∷◌, ◌++◌, length, take, drop, map, ap, ap₂, ◌∙◌, refl, sym, arith, append-nil}
use Rattle.std.specs.Prelude.{All}
use Rattle.std.specs.List.{flat_map}
use Rattle.std.proofs.Math.Seq.{take-append_seam, drop-append_seam}
use Rattle.std.proofs.lemmas.Bool.{leb-true}
use Rattle.std.proofs.lemmas.Grind.{flat_map-append}
use Rattle.std.proofs.lemmas.List.{length-append, map-append}
use Rattle.std.proofs.lemmas.List.Concat.{flat_map-cons}
use Rattle.std.proofs.lemmas.List.Elements.{All-head, All-tail, All-cons, All-nil}
use Rattle.syntax_kind.specs.Kinds.{is_trivia}
use Rattle.syntax_kind.specs.declared.syntax_kind.SyntaxKind.{SyntaxKind}
use Rattle.text_size.specs.TextRange.{Bounds}
use Rattle.ras_front_end.specs.ErrorModel.{ErrorModel, fault_at}
use Rattle.ras_front_end.specs.Reading.{Reading, step_faults, stored_faults}
use Rattle.token_layout.specs.declared.span.Token.{Token as RawToken}
use Rattle.event_layout.specs.declared.layout.ParserError.{ParserError}
use Rattle.event_layout.specs.Retold.{fault_retold}
use Rattle.lexer_laws.specs.Quiet.{ended_by}
use Rattle.rust_lexer.specs.declared.lexer.LexError.{LexError}
use Rattle.rust_lexer.specs.Laws.{ErrorLiesIn}
use Rattle.rust_front.specs.Messages.{next_kind_of, parser_message_of, last_of, lexer_error_of}
use Rattle.ras_parsing.specs.Edit.{Edit}
use Rattle.ras_parsing.specs.Reparse.{shifted}
use Rattle.ras_parsing.specs.Document.{earlier_fault, later_fault, in_order}
use Rattle.document_laws.specs.Retold.{AreKept}
use Rattle.document_laws.proofs.Faults.{said_of, next_more, message_same, at_most, more_than, is_earlier, not_earlier, is_later, not_later, all_one, all_none}

-- ---- the next token of a message

abbrev pub with_len : SyntaxKind → ℕ → RawToken
with_len k n = record { kind = k; len = n }

-- a token's length does not matter
next_alike : (n : ℕ) (front back : List RawToken) (k : SyntaxKind) (i j : ℕ)
    → next_kind_of (drop n (front ++ with_len k i ∷ back)) ≡ next_kind_of (drop n (front ++ with_len k j ∷ back))
next_alike zero [] back k i j = refl
next_alike (suc n) [] back k i j = refl
next_alike zero (t ∷ front) back k i j =
    next_more t (front ++ with_len k i ∷ back) (front ++ with_len k j ∷ back) (is_trivia t.kind) refl (next_alike zero front back k i j)
next_alike (suc n) (t ∷ front) back k i j = next_alike n front back k i j

as_long : (front back : List RawToken) (k : SyntaxKind) (i j : ℕ) → length (front ++ with_len k i ∷ back) ≡ length (front ++ with_len k j ∷ back)
as_long front back k i j = length-append front (with_len k i ∷ back) ∙ sym (length-append front (with_len k j ∷ back))

said_alike : (m l : ℕ) (front back : List RawToken) (k : SyntaxKind) (i j : ℕ)
    → parser_message_of m (last_of (front ++ with_len k i ∷ back) l) ≡ parser_message_of m (last_of (front ++ with_len k j ∷ back) l)
said_alike m l front back k i j =
    let n : ℕ = length (front ++ with_len k i ∷ back) - l in
    message_same m (last_of (front ++ with_len k i ∷ back) l) (last_of (front ++ with_len k j ∷ back) l)
    (next_alike n front back k i j
    ∙ ap (λ (o : ℕ). next_kind_of (drop (o - l) (front ++ with_len k j ∷ back))) (as_long front back k i j))

-- ---- the parser's errors

stays : (at old new : ℕ) (f : ParserError) → f.position ≤ at → fault_retold at old new f ≡ f
stays at old new f h = ap (λ (b : Bool). if b then f else record f { position = (f.position - old) + new }) (at_most f.position at h)

moves : (at old new : ℕ) (f : ParserError) → at < f.position → fault_retold at old new f ≡ record f { position = (f.position - old) + new }
moves at old new f h = ap (λ (b : Bool). if b then f else record f { position = (f.position - old) + new }) (more_than f.position at h)

all_mapped : (x : ParserError → ErrorModel) (y : ParserError → ParserError) (fs : List ParserError) → map (λ f. x (y f)) fs ≡ map x (map y fs)
all_mapped x y [] = refl
all_mapped x y (f ∷ fs) = ap (λ (l : List ErrorModel). x (y f) ∷ l) (all_mapped x y fs)

-- those before the token stay, those behind it move with the text
pub parser_retold : (front back : List RawToken) (k : SyntaxKind) (at i j : ℕ) (edit : Edit) (early late : List ParserError)
    → 0 < i → ((p : ℕ) → at + i ≤ p → shifted edit p ≡ (p - i) + j)
    → All (λ f. f.position ≤ at) early → All (λ f. at + i ≤ f.position) late
    → map (said_of (front ++ with_len k j ∷ back)) (map (fault_retold at i j) (early ++ late))
    ≡ in_order (map (said_of (front ++ with_len k i ∷ back)) (early ++ late)) [] (record { start = at; end = at + i }) edit
parser_retold front back k at i j edit early late some shift first last =
    let b : Bounds = record { start = at; end = at + i } in
    let old : ParserError → ErrorModel = said_of (front ++ with_len k i ∷ back) in
    let new : ParserError → ErrorModel = λ f. said_of (front ++ with_len k j ∷ back) (fault_retold at i j f) in
    let kept : flat_map (earlier_fault b) (map old early) ≡ map new early =
    all_one (λ f. f.position ≤ at) (earlier_fault b) old new
    (λ f h. is_earlier b (old f) h
    ∙ ap (λ (m : List ℕ). fault_at m f.position ∷ []) (said_alike f.message f.left front back k i j)
    ∙ ap (λ (g : ParserError). said_of (front ++ with_len k j ∷ back) g ∷ []) (sym (stays at i j f h)))
    early first in
    let none_late : flat_map (earlier_fault b) (map old late) ≡ [] =
    all_none (λ f. at + i ≤ f.position) (earlier_fault b) old (λ f h. not_earlier b (old f) (omega (arith, h, some))) late last in
    let none_early : flat_map (later_fault b edit) (map old early) ≡ [] =
    all_none (λ f. f.position ≤ at) (later_fault b edit) old (λ f h. not_later b edit (old f) (omega (arith, h, some))) early first in
    let moved : flat_map (later_fault b edit) (map old late) ≡ map new late =
    all_one (λ f. at + i ≤ f.position) (later_fault b edit) old new
    (λ f h. is_later b edit (old f) h
    ∙ ap₂ (λ (m : List ℕ) (p : ℕ). fault_at m p ∷ []) (said_alike f.message f.left front back k i j) (shift f.position h)
    ∙ ap (λ (g : ParserError). said_of (front ++ with_len k j ∷ back) g ∷ []) (sym (moves at i j f (omega (arith, h, some)))))
    late last in
    let earlier : flat_map (earlier_fault b) (map old (early ++ late)) ≡ map new early =
    ap (flat_map (earlier_fault b)) (map-append old early late) ∙ flat_map-append (earlier_fault b) (map old early) (map old late)
    ∙ ap₂ (λ (xs ys : List ErrorModel). xs ++ ys) kept none_late ∙ append-nil (map new early) in
    let later : flat_map (later_fault b edit) (map old (early ++ late)) ≡ map new late =
    ap (flat_map (later_fault b edit)) (map-append old early late) ∙ flat_map-append (later_fault b edit) (map old early) (map old late)
    ∙ ap₂ (λ (xs ys : List ErrorModel). xs ++ ys) none_early moved in
    sym (all_mapped (said_of (front ++ with_len k j ∷ back)) (fault_retold at i j) (early ++ late)) ∙ map-append new early late
    ∙ sym (ap₂ (λ (xs ys : List ErrorModel). xs ++ ys) earlier later)

-- ---- the lexer's errors

abbrev EndsBy : ℕ → LexError → Type 0
EndsBy n f = f.range.end ≤ n

few_end : (n : ℕ) (fs : List LexError) → length (flat_map (ended_by n) fs) ≤ length fs
few_end n [] = omega arith
few_end n (f ∷ fs) = by (nat_le f.range.end n) refl (few_end n fs)
  where
    by : (b : Bool) → nat_le f.range.end n ≡ b → length (flat_map (ended_by n) fs) ≤ length fs → length (flat_map (ended_by n) (f ∷ fs)) ≤ length (f ∷ fs)
    by true e few =
        let is : length (flat_map (ended_by n) (f ∷ fs)) ≡ suc (length (flat_map (ended_by n) fs)) =
        ap length (flat_map-cons (ended_by n) f fs ∙ ap (λ (b : Bool). (if b then f ∷ [] else []) ++ flat_map (ended_by n) fs) e) in
        omega (arith, few, is)
    by false e few =
        let is : length (flat_map (ended_by n) (f ∷ fs)) ≡ length (flat_map (ended_by n) fs) =
        ap length (flat_map-cons (ended_by n) f fs ∙ ap (λ (b : Bool). (if b then f ∷ [] else []) ++ flat_map (ended_by n) fs) e) in
        omega (arith, few, is)

same_rest : (f g : LexError) (fs gs : List LexError) → f ∷ fs ≡ g ∷ gs → fs ≡ gs
same_rest f g fs gs h = cc

-- where all are among those that end by a byte, each does
pub all_end : (n : ℕ) (fs : List LexError) → flat_map (ended_by n) fs ≡ fs → All (EndsBy n) fs
all_end n [] h = All-nil (EndsBy n)
all_end n (f ∷ fs) h = by (nat_le f.range.end n) refl (all_end n fs)
  where
    by : (b : Bool) → nat_le f.range.end n ≡ b → (flat_map (ended_by n) fs ≡ fs → All (EndsBy n) fs) → All (EndsBy n) (f ∷ fs)
    by true e rest =
        let is : f ∷ flat_map (ended_by n) fs ≡ f ∷ fs =
        ap (λ (b : Bool). (if b then f ∷ [] else []) ++ flat_map (ended_by n) fs) (sym e) ∙ sym (flat_map-cons (ended_by n) f fs) ∙ h in
        All-cons (EndsBy n) f fs (leb-true f.range.end n e) (rest (same_rest f f (flat_map (ended_by n) fs) fs is))
    by false e rest =
        let is : flat_map (ended_by n) fs ≡ f ∷ fs =
        ap (λ (b : Bool). (if b then f ∷ [] else []) ++ flat_map (ended_by n) fs) (sym e) ∙ sym (flat_map-cons (ended_by n) f fs) ∙ h in
        absurd (omega (arith, ap length is, few_end n fs))

-- errors that end before the token stay
pub lexer_kept : (s z : List ℕ) (l n : ℕ) (b : Bounds) (edit : Edit) (fs : List LexError)
    → l ≤ b.start → b.start < b.end → ((f : LexError) → f.range.end ≤ l → lexer_error_of s f ≡ lexer_error_of z f)
    → All (EndsBy l) fs → All (ErrorLiesIn n) fs
    → map (lexer_error_of z) fs ≡ in_order (map (lexer_error_of s) fs) [] b edit
lexer_kept s z l n b edit fs from some same ends lie = sym (ap₂ (λ (xs ys : List ErrorModel). xs ++ ys) (stay fs ends) (none fs ends lie) ∙ append-nil (map (lexer_error_of z) fs))
  where
    stay : (es : List LexError) → All (EndsBy l) es → flat_map (earlier_fault b) (map (lexer_error_of s) es) ≡ map (lexer_error_of z) es
    stay [] h = refl
    stay (f ∷ es) h =
        let own : f.range.end ≤ l = All-head (EndsBy l) f es h in
        flat_map-cons (earlier_fault b) (lexer_error_of s f) (map (lexer_error_of s) es)
        ∙ ap₂ (λ (xs ys : List ErrorModel). xs ++ ys)
        (is_earlier b (lexer_error_of s f) (omega (arith, own, from)) ∙ ap (λ (g : ErrorModel). g ∷ []) (same f own))
        (stay es (All-tail (EndsBy l) f es h))

    none : (es : List LexError) → All (EndsBy l) es → All (ErrorLiesIn n) es → flat_map (later_fault b edit) (map (lexer_error_of s) es) ≡ []
    none [] h k = refl
    none (f ∷ es) h k =
        let own : f.range.end ≤ l = All-head (EndsBy l) f es h in
        let lies = (All-head (ErrorLiesIn n) f es k).0 in
        flat_map-cons (later_fault b edit) (lexer_error_of s f) (map (lexer_error_of s) es)
        ∙ ap₂ (λ (xs ys : List ErrorModel). xs ++ ys)
        (not_later b edit (lexer_error_of s f) (omega (arith, own, from, some, lies)))
        (none es (All-tail (EndsBy l) f es h) (All-tail (ErrorLiesIn n) f es k))

-- ---- all errors

pub all_kept : (old new : Reading) (b : Bounds) (edit : Edit)
    → step_faults new.steps ≡ in_order (step_faults old.steps) [] b edit → new.errors ≡ in_order old.errors [] b edit
    → AreKept old new b edit
all_kept old new b edit parser lexer =
    let os : List ErrorModel = step_faults old.steps in
    let front : in_order (take (length os) (stored_faults old)) [] b edit ≡ in_order os [] b edit =
    ap (λ (l : List ErrorModel). in_order l [] b edit) (take-append_seam os old.errors) in
    let back : in_order (drop (length os) (stored_faults old)) [] b edit ≡ in_order old.errors [] b edit =
    ap (λ (l : List ErrorModel). in_order l [] b edit) (drop-append_seam os old.errors) in
    record {
      all = ap₂ (λ (l m : List ErrorModel). l ++ m) (parser ∙ sym front) (lexer ∙ sym back);
      count = ap length (parser ∙ sym front);
    }
