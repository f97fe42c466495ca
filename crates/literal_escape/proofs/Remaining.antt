-- What a reader still reports, step by step.
use Rattle.std.proofs.Common.{◌≡◌, ℕ, ◌+◌, Bool, true, false, not, Option, Some, None, List, [], ◌∷◌, refl, sym, ap, ◌∙◌}
use Rattle.std.specs.Prelude.{is_some, if◌then◌else◌}
use Rattle.std.specs.Char.{len_utf8}
use Rattle.literal_escape.specs.declared.reader.Report.{Report}
use Rattle.literal_escape.specs.declared.reader.Reader.{Reader}
use Rattle.literal_escape.specs.declared.progress.State.{State}
use Rattle.literal_escape.specs.declared.progress.State.TheVariants as states
use Rattle.literal_escape.specs.declared.progress.Step.{Step}
use Rattle.literal_escape.specs.declared.progress.Step.TheVariants.{Go, Unit as Ends}
use Rattle.literal_escape.specs.Literal.{is_blank}
use Rattle.literal_escape.specs.Reading.{is_over, has_lines, fresh_of, warning_of, warned_of, behind, past, step_of, read_report_of, read_of, end_report_of, before, reports_of, Gives}

behind-at : (r : Reader) (s : Step) → (behind r s).at ≡ r.at
behind-at r (Go state) = refl
behind-at r (Ends unit) = refl

pub read-at : (r : Reader) (c : ℕ) → (read_of r c).at ≡ r.at + len_utf8 c
unfolding read_of
read-at r c = behind-at (past r c) (step_of r.mode r.state c)

at_when : (over lines : Bool) (r a b : Reader) → r.at ≡ a.at → r.at ≡ b.at → (if not over then r else (if lines then a else b)).at ≡ r.at
at_when false lines r a b p q = refl
at_when true true r a b p q = sym p
at_when true false r a b p q = sym q

pub warned-at : (r : Reader) (c : ℕ) → (warned_of r c).at ≡ r.at
unfolding warned_of
warned-at r c = at_when (is_over r.state c) (has_lines r.state) r (record r { state = states.Continuation false }) (fresh_of r) refl refl

pub reports-end : (r : Reader) → reports_of r [] ≡ before (end_report_of r) []
unfolding reports_of
reports-end r = refl

pub Gives-end : (r : Reader) (o : Option Report) (s : Reader) → o ≡ end_report_of r → end_report_of s ≡ None → Gives (reports_of r []) o (reports_of s [])
unfolding reports_of
Gives-end r None s e f = (ap (λ q. before q []) (sym e), ap (λ q. before q []) f)
Gives-end r (Some x) s e f = ap (λ q. before q []) (sym e) ∙ ap (λ q. x ∷ before q []) (sym f)

pub Gives-before : (o : Option Report) (rs : List Report) → is_some o ≡ true → Gives (before o rs) o rs
Gives-before None rs e = cc
Gives-before (Some r) rs e = refl

pub before-none : (o : Option Report) (rs : List Report) → is_some o ≡ false → before o rs ≡ rs
before-none None rs e = refl
before-none (Some r) rs e = cc

-- of a continuation, by whether the next character is blank, whether there are lines, and whether
-- it is white space
warned_by : (blank lines : Bool) (r : Reader) (c : ℕ) (cs : List ℕ) (w : Report) → is_blank c ≡ blank
    → warning_of (record r { state = states.Continuation lines }) c ≡ Some w
    → reports_of (record r { state = states.Continuation lines }) (c ∷ cs) ≡ w ∷ reports_of (warned_of (record r { state = states.Continuation lines }) c) (c ∷ cs)
unfolding reports_of warning_of warned_of
warned_by true lines r c cs w b e = let h = rw b at e in cc
warned_by false true r c cs w b e = let h = rw b at e in simp b (cc)
warned_by false false r c cs w b e = let h = rw b at e in simp b (rw h refl)

warned_in : (state : State) (r : Reader) (c : ℕ) (cs : List ℕ) (w : Report) → warning_of (record r { state = state }) c ≡ Some w
    → reports_of (record r { state = state }) (c ∷ cs) ≡ w ∷ reports_of (warned_of (record r { state = state }) c) (c ∷ cs)
unfolding warning_of
warned_in (states.Continuation lines) r c cs w e = warned_by (is_blank c) lines r c cs w refl e
warned_in states.Start r c cs w e = cc
warned_in states.Backslash r c cs w e = cc
warned_in states.Hex r c cs w e = cc
warned_in (states.HexDigit a) r c cs w e = cc
warned_in states.Unicode r c cs w e = cc
warned_in states.Brace r c cs w e = cc
warned_in (states.Digits n k) r c cs w e = cc

-- a warning is the first report, and the character is read again
pub reports-warned : (r : Reader) (c : ℕ) (cs : List ℕ) (w : Report) → warning_of r c ≡ Some w → reports_of r (c ∷ cs) ≡ w ∷ reports_of (warned_of r c) (c ∷ cs)
reports-warned r c cs w e = warned_in r.state r c cs w e

read_by : (blank lines : Bool) (r : Reader) (c : ℕ) (cs : List ℕ) → is_blank c ≡ blank
    → warning_of (record r { state = states.Continuation lines }) c ≡ None
    → reports_of (record r { state = states.Continuation lines }) (c ∷ cs)
    ≡ before (read_report_of (warned_of (record r { state = states.Continuation lines }) c) c) (reports_of (read_of (warned_of (record r { state = states.Continuation lines }) c) c) cs)
unfolding reports_of warning_of warned_of
read_by true true r c cs b e = simp b
read_by true false r c cs b e = simp b
read_by false true r c cs b e = let h = rw b at e in cc
read_by false false r c cs b e = let h = rw b at e in simp b (rw h refl)

read_in : (state : State) (r : Reader) (c : ℕ) (cs : List ℕ) → warning_of (record r { state = state }) c ≡ None
    → reports_of (record r { state = state }) (c ∷ cs)
    ≡ before (read_report_of (warned_of (record r { state = state }) c) c) (reports_of (read_of (warned_of (record r { state = state }) c) c) cs)
unfolding reports_of warning_of warned_of
read_in (states.Continuation lines) r c cs e = read_by (is_blank c) lines r c cs refl e
read_in states.Start r c cs e = refl
read_in states.Backslash r c cs e = refl
read_in states.Hex r c cs e = refl
read_in (states.HexDigit a) r c cs e = refl
read_in states.Unicode r c cs e = refl
read_in states.Brace r c cs e = refl
read_in (states.Digits n k) r c cs e = refl

-- with no warning left, the character is taken
pub reports-read : (r : Reader) (c : ℕ) (cs : List ℕ) → warning_of r c ≡ None → reports_of r (c ∷ cs) ≡ before (read_report_of (warned_of r c) c) (reports_of (read_of (warned_of r c) c) cs)
reports-read r c cs e = read_in r.state r c cs e

-- the same, with names for the reader past the warnings, the report and the reader after the
-- character
pub reports-taken : (r w n : Reader) (o : Option Report) (c : ℕ) (cs : List ℕ) → warning_of r c ≡ None → w ≡ warned_of r c → o ≡ read_report_of w c → n ≡ read_of w c
    → reports_of r (c ∷ cs) ≡ before o (reports_of n cs)
reports-taken r w n o c cs e p q s = rw (s, q, p) (reports-read r c cs e)
