-- What events take of the tokens, and what they leave, is all.
use Rattle.std.proofs.Common.{◌≡◌, ℕ, ◌+◌, ◌<◌, ◌≤◌, Bool, true, false, nat_eq, if◌then◌else◌, List, [], ◌∷◌, ◌++◌, take, drop, sum_by, refl, sym, ap, ◌∙◌, arith}
use Rattle.std.specs.Prelude.{Option, Some, None}
use Rattle.std.proofs.lemmas.List.{length-take}
use Rattle.std.proofs.lemmas.List.Sums.{sum_by-cons, sum_by-take-drop}
use Rattle.syntax_kind.specs.declared.syntax_kind.SyntaxKind.{SyntaxKind}
use Rattle.syntax_kind.specs.Kinds.{is_trivia}
use Rattle.ras_front_end.specs.Reading.{FrontStep, begins, takes, ends, reports}
use Rattle.token_layout.specs.declared.span.Token.{Token as RawToken}
use Rattle.grammar_machine.specs.declared.event.Event.{Event}
use Rattle.grammar_machine.specs.declared.event.Event.TheVariants.{Token, Piece, Node, Error}
use Rattle.grammar_machine.specs.declared.event.Part.{Part}
use Rattle.grammar_machine.specs.declared.event.Part.TheVariants.{Whole, Dot, Fraction}
use Rattle.event_layout.specs.Amid.{sum_len}
use Rattle.event_layout.specs.Layout.{kind_of_part, dot_of}
use Rattle.event_layout.specs.Made.{Left, Made, trivia_of, past_trivia, past, joined_on, joined, part_len, parted_at, parted_on, parted, after, made_by}
use Rattle.document_laws.specs.Nodes.{made_steps, made_left}
use Rattle.event_layout.specs.Filled.{bytes_taken}
use Rattle.event_layout.proofs.Cutting.{dot_found}

pub bytes_both : (xs ys : List FrontStep) → bytes_taken (xs ++ ys) ≡ bytes_taken xs + bytes_taken ys
bytes_both [] ys = omega arith
bytes_both (begins k ∷ xs) ys = bytes_both xs ys
bytes_both (takes k n ∷ xs) ys = omega (arith, bytes_both xs ys)
bytes_both (ends ∷ xs) ys = bytes_both xs ys
bytes_both (reports m p ∷ xs) ys = bytes_both xs ys

sum_is : (ts : List RawToken) → sum_len ts ≡ sum_by (λ u. u.len) ts
sum_is [] = refl
sum_is (t ∷ ts) = ap (λ (n : ℕ). t.len + n) (sum_is ts) ∙ sym (sum_by-cons (λ u. u.len) t ts)

-- white space and comments, and what is behind them
pub trivia_sum : (ts : List RawToken) (text : List ℕ) → bytes_taken (trivia_of ts) + sum_len (past_trivia ts text).tokens ≡ sum_len ts
trivia_sum [] text = refl
trivia_sum (t ∷ ts) text = by (is_trivia t.kind) (trivia_sum ts (drop t.len text))
  where
    by : (b : Bool) → bytes_taken (trivia_of ts) + sum_len (past_trivia ts (drop t.len text)).tokens ≡ sum_len ts
        → bytes_taken (if b then takes t.kind t.len ∷ trivia_of ts else []) + sum_len (if b then past_trivia ts (drop t.len text) else (record { tokens = t ∷ ts; text = text })).tokens ≡ t.len + sum_len ts
    by true h = omega (arith, h)
    by false h = omega arith

-- what is made and what is left
abbrev Keeps : Made → List RawToken → Type 0
Keeps m ts = bytes_taken m.steps + sum_len m.left.tokens ≡ sum_len ts

joined_keeps : (k : SyntaxKind) (more : ℕ) (l : Left) → Keeps (joined k more l) l.tokens
joined_keeps k more l = by l.tokens
  where
    by : (ts : List RawToken) → Keeps (joined_on k more ts l.text) ts
    by [] = refl
    by (t ∷ ts) = omega (arith, sum_is (drop more ts), sum_is ts, sum_by-take-drop (λ u. u.len) ts more)

part_few : (p : Part) (dot n : ℕ) → dot < n → part_len p dot ≤ n
part_few Whole dot n h = omega (arith, h)
part_few Dot dot n h = omega (arith, h)
part_few Fraction dot n h = omega arith

parted_keeps : (p : Part) (l : Left) → Keeps (parted p l) l.tokens
parted_keeps p l = by l.tokens
  where
    at_dot : (o : Option ℕ) (t : RawToken) (ts : List RawToken) → ((dot : ℕ) → o ≡ Some dot → dot < t.len) → Keeps (parted_at p o t ts l.text) (t ∷ ts)
    at_dot None t ts h = omega arith
    at_dot (Some dot) t ts h = omega (arith, part_few p dot t.len (h dot refl))

    by : (ts : List RawToken) → Keeps (parted_on p ts l.text) ts
    by [] = refl
    by (t ∷ ts) =
        at_dot (dot_of t.kind (take t.len l.text)) t ts
        (λ dot e. let found = dot_found t.kind (take t.len l.text) dot e in let first = found.0 in omega (arith, first, length-take t.len l.text))

behind_trivia : (m : Made) (l : Left) → Keeps m (past l).tokens → Keeps (after (trivia_of l.tokens) m) l.tokens
behind_trivia m l h = omega (arith, bytes_both (trivia_of l.tokens) m.steps, h, trivia_sum l.tokens l.text)

made_keeps : (root n : ℕ) (e : Event) (l : Left) → Keeps (made_by root n e l) l.tokens
made_keeps root n (Token k signs) l = behind_trivia (joined k _ (past l)) l (joined_keeps k _ (past l))
made_keeps root n (Piece p true) l = behind_trivia (joined (kind_of_part p) 0 (past l)) l (joined_keeps (kind_of_part p) 0 (past l))
made_keeps root n (Piece p false) l = behind_trivia (parted p (past l)) l (parted_keeps p (past l))
made_keeps root n (Node k from) l = by (nat_eq n root)
  where
    by : (b : Bool) → bytes_taken (if b then [] else ends ∷ []) + sum_len l.tokens ≡ sum_len l.tokens
    by true = omega arith
    by false = omega arith
made_keeps root n (Error m) l = omega arith

pub all_kept : (root n : ℕ) (es : List Event) (l : Left) → bytes_taken (made_steps root n es l) + sum_len (made_left root n es l).tokens ≡ sum_len l.tokens
all_kept root n [] l = omega arith
all_kept root n (e ∷ es) l =
    let m : Made = made_by root n e l in
    omega (arith, bytes_both m.steps (made_steps root (n + 1) es m.left), made_keeps root n e l, all_kept root (n + 1) es m.left)
