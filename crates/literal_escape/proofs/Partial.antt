-- A piece of which some characters are read, and what the next one does to it.
use Rattle.std.proofs.Common.{◌≡◌, ℕ, ◌+◌, ◌*◌, Bool, true, false, not, ◌||◌, ◌&&◌, Some, Result, Err, List, [], ◌∷◌, ◌++◌, refl, sym, ap, ◌∙◌}
use Rattle.std.specs.Prelude.{if◌then◌else◌, ◌==◌}
use Rattle.std.specs.List.{fold, list_all, list_any}
use Rattle.std.specs.Char.{digit_value}
use Rattle.std.proofs.lemmas.Bool.{eqb-true}
use Rattle.std.proofs.lemmas.List.Sums.{fold-append}
use Rattle.std.proofs.lemmas.List.Folds.{list_any-append}
use Rattle.literal_escape.specs.declared.error.EscapeError.{EscapeError}
use Rattle.literal_escape.specs.declared.error.EscapeError.TheVariants.{InvalidEscape, InvalidCharInUnicodeEscape}
use Rattle.literal_escape.specs.declared.mode.Mode.{Mode}
use Rattle.literal_escape.specs.declared.mode.MixedUnit.{MixedUnit}
use Rattle.literal_escape.specs.declared.progress.State.{State}
use Rattle.literal_escape.specs.declared.progress.State.TheVariants as states
use Rattle.literal_escape.specs.declared.progress.Step.TheVariants.{Go, Unit as Ends}
use Rattle.literal_escape.specs.Literal.{is_string, is_simple, simple, is_hex, is_blank, code, unicode, plain, meaning, hex}
use Rattle.literal_escape.specs.Pieces.{Begun, slash, slash_x, slash_x_digit, slash_u, slash_u_brace, slash_u_digits, Piece, character, letter, pair, braced, faulty, continuation, front, spelling, is_inside, IsBegun, IsPiece, fault, unit_at, piece_reports}
use Rattle.literal_escape.specs.Reading.{step_of, is_over}
use Rattle.literal_escape.proofs.Digits.{code_step, count_step, and_left, and_right, body_code}

-- nothing, a front of an escape, or a continuation with the blanks so far
pub data Part : Type 0 where
  fresh : Part
  begun : Begun → Part
  blanks : List ℕ → Part

-- a character makes a longer front, or ends the piece
pub data Next : Type 0 where
  more : Part → Next
  done : Piece → Next

abbrev pub text : Part → List ℕ
text fresh = []
text (begun b) = front b
text (blanks bs) = 92 ∷ 10 ∷ bs

abbrev pub IsPart : Mode → Part → Type 0
IsPart mode fresh = Unit {0}
IsPart mode (begun b) = IsBegun b
IsPart mode (blanks bs) = (is_string mode ≡ true) × (list_all is_blank bs ≡ true)

abbrev pub after_slash : Mode → ℕ → Next
after_slash mode c =
    if is_simple c then done (letter c)
    else (if c == 120 then more (begun slash_x)
    else (if c == 117 then more (begun slash_u)
    else (if is_string mode && c == 10 then more (blanks [])
    else done (faulty slash (Some c)))))

abbrev pub after : Mode → Part → ℕ → Next
after mode fresh c = if c == 92 then more (begun slash) else done (character c)
after mode (begun slash) c = after_slash mode c
after mode (begun slash_x) c = if is_hex c then more (begun (slash_x_digit c)) else done (faulty slash_x (Some c))
after mode (begun (slash_x_digit a)) c = if is_hex c then done (pair a c) else done (faulty (slash_x_digit a) (Some c))
after mode (begun slash_u) c = if c == 123 then more (begun slash_u_brace) else done (faulty slash_u (Some c))
after mode (begun slash_u_brace) c = if is_hex c then more (begun (slash_u_digits c [])) else done (faulty slash_u_brace (Some c))
after mode (begun (slash_u_digits f m)) c =
    if is_inside c then more (begun (slash_u_digits f (m ++ c ∷ [])))
    else (if c == 125 then done (braced f m) else done (faulty (slash_u_digits f m) (Some c)))
after mode (blanks bs) c = more (blanks (bs ++ c ∷ []))

-- the reader's state
abbrev pub state_of : Part → State
state_of fresh = states.Start
state_of (begun slash) = states.Backslash
state_of (begun slash_x) = states.Hex
state_of (begun (slash_x_digit a)) = states.HexDigit a
state_of (begun slash_u) = states.Unicode
state_of (begun slash_u_brace) = states.Brace
state_of (begun (slash_u_digits f m)) = states.Digits (fold code_step (digit_value f) m) (fold count_step 1 m)
state_of (blanks bs) = states.Continuation (list_any (λ c. c == 10) bs)

-- what a piece that is no continuation means
abbrev pub unit_of : Mode → Piece → Result MixedUnit EscapeError
unit_of mode (character c) = plain mode c
unit_of mode (letter c) = meaning mode (simple c)
unit_of mode (pair a b) = hex mode (digit_value a * 16 + digit_value b)
unit_of mode (braced f m) = unicode mode (f ∷ m)
unit_of mode (faulty b next) = Err (fault b next)
unit_of mode (continuation bs) = Err InvalidEscape

-- what the character does is right of the part, of the piece and of the reader's state
abbrev pub Sound : Mode → Part → ℕ → Next → Type 0
Sound mode p c (more q) = IsPart mode q × (text q ≡ text p ++ c ∷ []) × (step_of mode (state_of p) c ≡ Go (state_of q))
Sound mode p c (done q) =
    (spelling q ≡ text p ++ c ∷ []) × ((rest : List ℕ) → IsPiece mode q rest)
    × (step_of mode (state_of p) c ≡ Ends (unit_of mode q)) × ((at : ℕ) (rest : List ℕ) → piece_reports mode at q rest ≡ unit_at at (spelling q) (unit_of mode q))

fresh_by : (b : Bool) (mode : Mode) (c : ℕ) → (c == 92) ≡ b → Sound mode fresh c (after mode fresh c)
unfolding step_of
fresh_by true mode c e = rw e (tt, ap (λ d. d ∷ []) (sym (eqb-true c 92 e)), rw e refl)
fresh_by false mode c e = rw e (refl, λ rest. e, rw e refl, λ at rest. refl)

slash_by : (s x u n : Bool) (mode : Mode) (c : ℕ) → is_simple c ≡ s → (c == 120) ≡ x → (c == 117) ≡ u → (is_string mode && c == 10) ≡ n
    → Sound mode (begun slash) c (after mode (begun slash) c)
unfolding step_of
slash_by true x u n mode c e ex eu en = rw e (refl, λ rest. e, rw e refl, λ at rest. refl)
slash_by false true u n mode c e ex eu en = rw e (rw ex (tt, ap (λ d. 92 ∷ d ∷ []) (sym (eqb-true c 120 ex)), rw e (rw ex refl)))
slash_by false false true n mode c e ex eu en = rw e (rw ex (rw eu (tt, ap (λ d. 92 ∷ d ∷ []) (sym (eqb-true c 117 eu)), rw e (rw ex (rw eu refl)))))
slash_by false false false true mode c e ex eu en =
    rw e (rw ex (rw eu (rw en ((and_left (is_string mode) (c == 10) en, refl), ap (λ d. 92 ∷ d ∷ []) (sym (eqb-true c 10 (and_right (is_string mode) (c == 10) en))), rw e (rw ex (rw eu (rw en refl)))))))
slash_by false false false false mode c e ex eu en =
    rw e (rw ex (rw eu (rw en (refl, λ rest. (tt, rw e (rw ex (rw eu (rw en refl)))), rw e (rw ex (rw eu (rw en refl))), λ at rest. refl))))

x_by : (b : Bool) (mode : Mode) (c : ℕ) → is_hex c ≡ b → Sound mode (begun slash_x) c (after mode (begun slash_x) c)
unfolding step_of
x_by true mode c e = rw e (e, refl, rw e refl)
x_by false mode c e = rw e (refl, λ rest. (tt, rw e refl), rw e refl, λ at rest. refl)

x_digit_by : (b : Bool) (mode : Mode) (a c : ℕ) → is_hex a ≡ true → is_hex c ≡ b → Sound mode (begun (slash_x_digit a)) c (after mode (begun (slash_x_digit a)) c)
unfolding step_of
x_digit_by true mode a c h e = rw e (refl, λ rest. (h, e), rw h (rw e refl), λ at rest. refl)
x_digit_by false mode a c h e = rw e (refl, λ rest. (h, rw e refl), rw h (rw e refl), λ at rest. refl)

u_by : (b : Bool) (mode : Mode) (c : ℕ) → (c == 123) ≡ b → Sound mode (begun slash_u) c (after mode (begun slash_u) c)
unfolding step_of
u_by true mode c e = rw e (tt, ap (λ d. 92 ∷ 117 ∷ d ∷ []) (sym (eqb-true c 123 e)), rw e refl)
u_by false mode c e = rw e (refl, λ rest. (tt, rw e refl), rw e refl, λ at rest. refl)

brace_by : (b close low : Bool) (mode : Mode) (c : ℕ) → is_hex c ≡ b → (c == 125) ≡ close → (c == 95) ≡ low → Sound mode (begun slash_u_brace) c (after mode (begun slash_u_brace) c)
unfolding step_of
brace_by true close low mode c e ec el = rw e ((e, refl), refl, rw e refl)
brace_by false true low mode c e ec el = rw e (refl, λ rest. (tt, rw e refl), rw e (rw ec refl), λ at rest. refl)
brace_by false false true mode c e ec el = rw e (refl, λ rest. (tt, rw e refl), rw e (rw ec (rw el refl)), λ at rest. refl)
brace_by false false false mode c e ec el = rw e (refl, λ rest. (tt, rw e refl), rw e (rw ec (rw el refl)), λ at rest. refl)

list_all-append : (p : ℕ → Bool) (xs ys : List ℕ) → list_all p xs ≡ true → list_all p ys ≡ true → list_all p (xs ++ ys) ≡ true
list_all-append p [] ys h k = k
list_all-append p (x ∷ xs) ys h k = rw (and_left (p x) _ h) (list_all-append p xs ys (and_right (p x) _ h) k)

-- a digit or an underscore within the braces
inside_by : (b : Bool) (mode : Mode) (f : ℕ) (m : List ℕ) (c : ℕ) → is_hex c ≡ b → is_inside c ≡ true
    → step_of mode (state_of (begun (slash_u_digits f m))) c ≡ Go (states.Digits (code_step (fold code_step (digit_value f) m) c) (count_step (fold count_step 1 m) c))
unfolding step_of
inside_by true mode f m c e i = rw e refl
inside_by false mode f m c e i = let low = rw e at i in rw e (rw low refl)

outside_hex : (a b : Bool) → (a || b) ≡ false → a ≡ false
outside_hex false b e = refl
outside_hex true b e = cc

outside_low : (a b : Bool) → (a || b) ≡ false → b ≡ false
outside_low false b e = e
outside_low true b e = cc

-- the closing brace, and another character
closed : (mode : Mode) (f : ℕ) (m : List ℕ) (c : ℕ) → is_inside c ≡ false → (c == 125) ≡ true
    → step_of mode (state_of (begun (slash_u_digits f m))) c ≡ Ends (code mode (fold count_step 1 m) (fold code_step (digit_value f) m))
unfolding step_of
closed mode f m c e ec = rw (outside_hex (is_hex c) (c == 95) e) (rw (outside_low (is_hex c) (c == 95) e) (rw ec refl))

unclosed : (mode : Mode) (f : ℕ) (m : List ℕ) (c : ℕ) → is_inside c ≡ false → (c == 125) ≡ false
    → step_of mode (state_of (begun (slash_u_digits f m))) c ≡ Ends (Err InvalidCharInUnicodeEscape)
unfolding step_of
unclosed mode f m c e ec = rw (outside_hex (is_hex c) (c == 95) e) (rw (outside_low (is_hex c) (c == 95) e) (rw ec refl))

digits_by : (b close : Bool) (mode : Mode) (f : ℕ) (m : List ℕ) (c : ℕ) → is_hex f ≡ true → list_all is_inside m ≡ true → is_inside c ≡ b → (c == 125) ≡ close
    → Sound mode (begun (slash_u_digits f m)) c (after mode (begun (slash_u_digits f m)) c)
digits_by true close mode f m c h k e ec =
    rw e (
      (h, list_all-append is_inside m (c ∷ []) k (rw e refl)),
      refl,
      inside_by (is_hex c) mode f m c refl e
          ∙ ap (λ n. Go (states.Digits n (count_step (fold count_step 1 m) c))) (sym (fold-append code_step (digit_value f) m (c ∷ [])))
          ∙ ap (λ n. Go (states.Digits (fold code_step (digit_value f) (m ++ c ∷ [])) n)) (sym (fold-append count_step 1 m (c ∷ []))),
    )
digits_by false true mode f m c h k e ec =
    rw e (rw ec (ap (λ d. (92 ∷ 117 ∷ 123 ∷ f ∷ m) ++ d ∷ []) (sym (eqb-true c 125 ec)), λ rest. (h, k), closed mode f m c e ec ∙ ap Ends (body_code mode f m h k), λ at rest. refl))
digits_by false false mode f m c h k e ec = rw e (rw ec (refl, λ rest. ((h, k), rw e (rw ec refl)), unclosed mode f m c e ec, λ at rest. refl))

or_false : (b : Bool) → (b || false) ≡ b
or_false true = refl
or_false false = refl

not_false : (b : Bool) → not b ≡ false → b ≡ true
not_false true e = refl
not_false false e = cc

-- a newline, a space, a tab or a carriage return within a continuation
blanks_by : (mode : Mode) (bs : List ℕ) (c : ℕ) → is_string mode ≡ true → list_all is_blank bs ≡ true → is_blank c ≡ true → Sound mode (blanks bs) c (after mode (blanks bs) c)
unfolding step_of
blanks_by mode bs c s h e = ((s, list_all-append is_blank bs (c ∷ []) h (rw e refl)), refl, ap (λ l. Go (states.Continuation l)) (sym (list_any-append (λ d. d == 10) bs (c ∷ []) ∙ ap (λ b. list_any (λ d. d == 10) bs || b) (or_false (c == 10)))))

pub sound : (mode : Mode) (p : Part) (c : ℕ) → IsPart mode p → is_over (state_of p) c ≡ false → Sound mode p c (after mode p c)
sound mode fresh c h o = fresh_by (c == 92) mode c refl
sound mode (begun slash) c h o = slash_by (is_simple c) (c == 120) (c == 117) (is_string mode && c == 10) mode c refl refl refl refl
sound mode (begun slash_x) c h o = x_by (is_hex c) mode c refl
sound mode (begun (slash_x_digit a)) c h o = x_digit_by (is_hex c) mode a c h refl
sound mode (begun slash_u) c h o = u_by (c == 123) mode c refl
sound mode (begun slash_u_brace) c h o = brace_by (is_hex c) (c == 125) (c == 95) mode c refl refl refl
sound mode (begun (slash_u_digits f m)) c h o = digits_by (is_inside c) (c == 125) mode f m c h.0 h.1 refl refl
sound mode (blanks bs) c h o = blanks_by mode bs c h.0 h.1 (not_false (is_blank c) o)
