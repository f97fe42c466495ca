-- Each content has one cut: whatever cuts it is what the function of Cutting makes.
use Rattle.std.proofs.Common.{◌≡◌, ℕ, Bool, true, false, not, ◌||◌, ◌&&◌, Some, None, List, [], ◌∷◌, ◌++◌, refl, sym, ap, ◌∙◌, append_assoc, append-nil}
use Rattle.std.specs.Prelude.{◌==◌}
use Rattle.std.specs.List.{list_all}
use Rattle.literal_escape.specs.declared.mode.Mode.{Mode}
use Rattle.literal_escape.specs.Literal.{is_string, is_simple, is_hex, is_blank}
use Rattle.literal_escape.specs.Pieces.{Begun, slash, slash_x, slash_x_digit, slash_u, slash_u_brace, slash_u_digits, Piece, character, letter, pair, braced, faulty, continuation, front, spelling, is_inside, IsBegun, shows_fault, IsPiece, IsCut, StartsWithNoBlank, HasOneCut}
use Rattle.literal_escape.proofs.Digits.{and_left, and_right}
use Rattle.literal_escape.proofs.Partial.{fresh, begun, blanks, Next, done, after}
use Rattle.literal_escape.proofs.Cutting.{finished, going, pieces_of, works}

-- what may be within the braces makes the front longer
inside : (mode : Mode) (f : ℕ) (had m tail : List ℕ) → list_all is_inside m ≡ true → pieces_of mode (begun (slash_u_digits f had)) (m ++ tail) ≡ pieces_of mode (begun (slash_u_digits f (had ++ m))) tail
unfolding pieces_of
inside mode f had [] tail h = rw (append-nil had) refl
inside mode f had (c ∷ m) tail h =
    rw (and_left (is_inside c) _ h) (inside mode f (had ++ c ∷ []) m tail (and_right (is_inside c) _ h) ∙ ap (λ ds. pieces_of mode (begun (slash_u_digits f ds)) tail) (append_assoc had (c ∷ []) m))

-- blanks make the continuation longer
blank : (mode : Mode) (had bs tail : List ℕ) → list_all is_blank bs ≡ true → pieces_of mode (blanks had) (bs ++ tail) ≡ pieces_of mode (blanks (had ++ bs)) tail
unfolding pieces_of
blank mode had [] tail h = rw (append-nil had) refl
blank mode had (c ∷ bs) tail h =
    rw (and_left (is_blank c) _ h) (blank mode (had ++ c ∷ []) bs tail (and_right (is_blank c) _ h) ∙ ap (λ ds. pieces_of mode (blanks ds) tail) (append_assoc had (c ∷ []) bs))

to_begun : (mode : Mode) (b : Begun) (tail : List ℕ) → IsBegun b → pieces_of mode fresh (front b ++ tail) ≡ pieces_of mode (begun b) tail
unfolding pieces_of
to_begun mode slash tail h = refl
to_begun mode slash_x tail h = refl
to_begun mode (slash_x_digit a) tail h = rw h refl
to_begun mode slash_u tail h = refl
to_begun mode slash_u_brace tail h = refl
to_begun mode (slash_u_digits f m) tail h = rw (h.0) (inside mode f [] m tail h.1)

slash_fault : (s x u n : Bool) (mode : Mode) (c : ℕ) → is_simple c ≡ s → (c == 120) ≡ x → (c == 117) ≡ u → (is_string mode && c == 10) ≡ n → not (s || x || u || n) ≡ true
    → after mode (begun slash) c ≡ done (faulty slash (Some c))
slash_fault true x u n mode c es ex eu en h = cc
slash_fault false true u n mode c es ex eu en h = cc
slash_fault false false true n mode c es ex eu en h = cc
slash_fault false false false true mode c es ex eu en h = cc
slash_fault false false false false mode c es ex eu en h = rw es (rw ex (rw eu (rw en refl)))

not_true : (b : Bool) → not b ≡ true → b ≡ false
not_true true e = cc
not_true false e = refl

digits_fault : (i close : Bool) (mode : Mode) (f : ℕ) (m : List ℕ) (c : ℕ) → is_inside c ≡ i → (c == 125) ≡ close → not (i || close) ≡ true
    → after mode (begun (slash_u_digits f m)) c ≡ done (faulty (slash_u_digits f m) (Some c))
digits_fault true close mode f m c ei ec h = cc
digits_fault false true mode f m c ei ec h = cc
digits_fault false false mode f m c ei ec h = rw ei (rw ec refl)

fault_shown : (mode : Mode) (b : Begun) (c : ℕ) → shows_fault mode b c ≡ true → after mode (begun b) c ≡ done (faulty b (Some c))
fault_shown mode slash c h = slash_fault (is_simple c) (c == 120) (c == 117) (is_string mode && c == 10) mode c refl refl refl refl h
fault_shown mode slash_x c h = rw (not_true (is_hex c) h) refl
fault_shown mode (slash_x_digit a) c h = rw (not_true (is_hex c) h) refl
fault_shown mode slash_u c h = rw (not_true (c == 123) h) refl
fault_shown mode slash_u_brace c h = rw (not_true (is_hex c) h) refl
fault_shown mode (slash_u_digits f m) c h = digits_fault (is_inside c) (c == 125) mode f m c refl refl h

begun_step : (mode : Mode) (b : Begun) (c : ℕ) (rest : List ℕ) (next : Next) → after mode (begun b) c ≡ next → pieces_of mode (begun b) (c ∷ rest) ≡ finished next ++ pieces_of mode (going next) rest
unfolding pieces_of
begun_step mode b c rest next e = ap (λ n. finished n ++ pieces_of mode (going n) rest) e

begun_end : (mode : Mode) (b : Begun) → pieces_of mode (begun b) [] ≡ faulty b None ∷ pieces_of mode fresh []
unfolding pieces_of
begun_end mode b = refl

brace_end : (mode : Mode) (f : ℕ) (m rest : List ℕ) → pieces_of mode (begun (slash_u_digits f m)) (125 ∷ rest) ≡ braced f m ∷ pieces_of mode fresh rest
unfolding pieces_of
brace_end mode f m rest = refl

blanks_end : (mode : Mode) (bs rest : List ℕ) → StartsWithNoBlank rest → pieces_of mode (blanks bs) rest ≡ continuation bs ∷ pieces_of mode fresh rest
unfolding pieces_of
blanks_end mode bs [] h = refl
blanks_end mode bs (c ∷ cs) h = rw h refl

to_blanks : (mode : Mode) (bs rest : List ℕ) → is_string mode ≡ true → list_all is_blank bs ≡ true → pieces_of mode fresh (92 ∷ 10 ∷ (bs ++ rest)) ≡ pieces_of mode (blanks bs) rest
unfolding pieces_of
to_blanks mode bs rest s h = rw s (blank mode [] bs rest h)

plain_piece : (mode : Mode) (c : ℕ) (rest : List ℕ) → (c == 92) ≡ false → pieces_of mode fresh (c ∷ rest) ≡ character c ∷ pieces_of mode fresh rest
unfolding pieces_of
plain_piece mode c rest h = rw h refl

letter_piece : (mode : Mode) (c : ℕ) (rest : List ℕ) → is_simple c ≡ true → pieces_of mode fresh (92 ∷ c ∷ rest) ≡ letter c ∷ pieces_of mode fresh rest
unfolding pieces_of
letter_piece mode c rest h = rw h refl

pair_piece : (mode : Mode) (a b : ℕ) (rest : List ℕ) → is_hex a ≡ true → is_hex b ≡ true → pieces_of mode fresh (92 ∷ 120 ∷ a ∷ b ∷ rest) ≡ pair a b ∷ pieces_of mode fresh rest
unfolding pieces_of
pair_piece mode a b rest h k = rw h (rw k refl)

-- the function finds each piece that is in front
first : (mode : Mode) (p : Piece) (rest : List ℕ) → IsPiece mode p rest → pieces_of mode fresh (spelling p ++ rest) ≡ p ∷ pieces_of mode fresh rest
first mode (character c) rest h = plain_piece mode c rest h
first mode (letter c) rest h = letter_piece mode c rest h
first mode (pair a b) rest h = pair_piece mode a b rest h.0 h.1
first mode (braced f m) rest h =
    ap (λ ds. pieces_of mode fresh (92 ∷ 117 ∷ 123 ∷ f ∷ ds)) (append_assoc m (125 ∷ []) rest) ∙ (to_begun mode (slash_u_digits f m) (125 ∷ rest) h ∙ brace_end mode f m rest)
first mode (faulty b None) rest h =
    ap (λ ds. pieces_of mode fresh (ds ++ rest)) (append-nil (front b)) ∙ (to_begun mode b rest h.0
    ∙ (ap (pieces_of mode (begun b)) h.1 ∙ (begun_end mode b ∙ ap (λ ds. faulty b None ∷ pieces_of mode fresh ds) (sym h.1))))
first mode (faulty b (Some c)) rest h =
    ap (pieces_of mode fresh) (append_assoc (front b) (c ∷ []) rest) ∙ (to_begun mode b (c ∷ rest) h.0 ∙ begun_step mode b c rest (done (faulty b (Some c))) (fault_shown mode b c h.1))
first mode (continuation bs) rest h = to_blanks mode bs rest h.0 h.1 ∙ blanks_end mode bs rest h.2

no_pieces : (mode : Mode) (cs : List ℕ) → cs ≡ [] → [] ≡ pieces_of mode fresh cs
unfolding pieces_of
no_pieces mode cs h = ap (pieces_of mode fresh) (sym h)

determined : (mode : Mode) (cs : List ℕ) (ps : List Piece) → IsCut mode cs ps → ps ≡ pieces_of mode fresh cs
determined mode cs [] h = no_pieces mode cs h
determined mode cs (p ∷ ps) h = ap (λ qs. p ∷ qs) (determined mode h.0 ps h.3) ∙ (sym (first mode p h.0 h.2) ∙ ap (pieces_of mode fresh) (sym h.1))

pub one_cut : (mode : Mode) (cs : List ℕ) → HasOneCut mode cs
one_cut mode cs = let w = works cs mode fresh tt in (pieces_of mode fresh cs, w.cut, determined mode cs)
