-- Where the errors of orders are: between the bytes and the tokens where the orders begin and end.
use Rattle.std.proofs.Common.{◌≡◌, ℕ, zero, suc, ◌+◌, ◌-◌, ◌≤◌, ◌<◌, ◌^◌, Bool, true, false, nat_lt, if◌then◌else◌, List, [], ◌∷◌, ◌++◌, length, ap, ◌∙◌, refl, arith, subst, sym, Option, Some, None, append_assoc, append-nil}
use Rattle.std.specs.Prelude.{All}
use Rattle.std.proofs.lemmas.List.{length-drop}
use Rattle.std.proofs.lemmas.List.Elements.{All-head, All-tail, All-append, All-cons, All-nil}
use Rattle.syntax_kind.specs.declared.syntax_kind.SyntaxKind.{SyntaxKind}
use Rattle.ras_front_end.specs.Reading.{begins, ends}
use Rattle.token_layout.specs.declared.span.Token.{Token as RawToken}
use Rattle.grammar_machine.specs.declared.event.Part.{Part}
use Rattle.event_layout.specs.declared.layout.ParserError.{ParserError}
use Rattle.event_layout.specs.Trivia.{lead, part_of, outside_of}
use Rattle.event_layout.specs.Layout.{Laying, pass_on, pass_of, pass_all_of, pass_trivia_of, join_on, cut_at, piece_on, enter_of, exit_of, exit_all_of, finish_of, dot_of}
use Rattle.event_layout.specs.Orders.{Order, begin_node, take_joined, take_part, end_node, say, nothing, ordered, walked}
use Rattle.event_layout.specs.Amid.{Fits, sum_len, first_len}
use Rattle.event_layout.proofs.Amid.{pass_all_fits, ordered_fits}

-- ---- errors

-- at the bytes from p to q, where m to n tokens are left
pub record Between (p q m n : ℕ) (f : ParserError) : Type 0 where
  pub low : p ≤ f.position
  pub high : f.position ≤ q
  pub few : m ≤ f.left
  pub many : f.left ≤ n

pub all_too : (P Q : ParserError → Type 0) → ((f : ParserError) → P f → Q f) → (fs : List ParserError) → All P fs → All Q fs
all_too P Q h [] a = All-nil Q
all_too P Q h (f ∷ fs) a = All-cons Q f fs (h f (All-head P f fs a)) (all_too P Q h fs (All-tail P f fs a))

-- from one state to a later one, errors are added that are between them
pub record Said (s t : Laying) : Type 0 where
  pub added : List ParserError
  pub faults : t.faults ≡ s.faults ++ added
  pub between : All (Between s.position t.position (length t.rest) (length s.rest)) added
  pub position : s.position ≤ t.position
  pub rest : length t.rest ≤ length s.rest

pub said_twice : (s t u : Laying) → Said s t → Said t u → Said s u
said_twice s t u a b =
    let p = a.position in
    let q = b.position in
    let r = a.rest in
    let z = b.rest in
    record {
      added = a.added ++ b.added;
      faults = b.faults ∙ ap (λ (fs : List ParserError). fs ++ b.added) a.faults ∙ append_assoc s.faults a.added b.added;
      between =
          All-append (Between s.position u.position (length u.rest) (length s.rest)) a.added b.added
          (all_too (Between s.position t.position (length t.rest) (length s.rest)) (Between s.position u.position (length u.rest) (length s.rest))
          (λ f h. let l = h.low in let g = h.high in let x = h.few in let m = h.many in
          record { low = l; high = omega (arith, g, q); few = omega (arith, x, z); many = m }) a.added a.between)
          (all_too (Between t.position u.position (length u.rest) (length t.rest)) (Between s.position u.position (length u.rest) (length s.rest))
          (λ f h. let l = h.low in let g = h.high in let x = h.few in let m = h.many in
          record { low = omega (arith, l, p); high = g; few = x; many = omega (arith, m, r) }) b.added b.between);
      position = omega (arith, p, q);
      rest = omega (arith, r, z);
    }

quiet : (s t : Laying) → t.faults ≡ s.faults → s.position ≤ t.position → length t.rest ≤ length s.rest → Said s t
quiet s t e p r = record {
  added = [];
  faults = e ∙ sym (append-nil s.faults);
  between = All-nil (Between s.position t.position (length t.rest) (length s.rest));
  position = p;
  rest = r;
}

said_none : (s : Laying) → Said s s
said_none s = quiet s s refl (omega arith) (omega arith)

-- ---- orders

first_few : (ts : List RawToken) → first_len ts ≤ sum_len ts
first_few [] = omega arith
first_few (t ∷ ts) = omega arith

pub in_text : (text : List ℕ) (s : Laying) → Fits text s → s.position ≤ length text
in_text text s h =
    let sum = h.sum in
    let cut = h.cut in
    omega (arith, sum, cut, first_few s.rest)

module _ (text : List ℕ) (small : length text < 2 ^ 32) where
  pass_on_said : (ts : List RawToken) (s : Laying) → s.rest ≡ ts → Fits text s → Said s (pass_on ts s)
  pass_on_said [] s e h = said_none s
  pass_on_said (t ∷ ts) s e h =
      quiet s (pass_on (t ∷ ts) s) refl (omega (arith, in_text text s h, small)) (omega (arith, ap length e))

  pub pass_all_said : (n : ℕ) (s : Laying) → Fits text s → Said s (pass_all_of n s)
  unfolding pass_all_of
  pass_all_said zero s h = said_none s
  pass_all_said (suc n) s h =
      said_twice s (pass_all_of n s) (pass_of (pass_all_of n s)) (pass_all_said n s h)
      (pass_on_said (pass_all_of n s).rest (pass_all_of n s) refl (pass_all_fits text small n s h))

  join_on_said : (k : SyntaxKind) (more : ℕ) (ts : List RawToken) (s : Laying) → s.rest ≡ ts → Fits text s → Said s (join_on k more ts s)
  join_on_said k more [] s e h = said_none s
  join_on_said k more (t ∷ ts) s e h =
      quiet s (join_on k more (t ∷ ts) s) refl (omega (arith, in_text text s h, small)) (omega (arith, ap length e, length-drop more ts))

  cut_at_said : (p : Part) (o : Option ℕ) (s : Laying) → Fits text s → Said s (cut_at p o s)
  cut_at_said p None s h = said_none s
  cut_at_said p (Some dot) s h = quiet s (cut_at p (Some dot) s) refl (omega (arith, in_text text s h, small)) (omega arith)

  piece_on_said : (p : Part) (ts : List RawToken) (s : Laying) → Fits text s → Said s (piece_on text p ts s)
  piece_on_said p [] s h = said_none s
  piece_on_said p (t ∷ ts) s h = cut_at_said p (dot_of t.kind (part_of text s.position (t.len - s.cut))) s h

  enter_said : (k : SyntaxKind) (s : Laying) → Said s (enter_of k s)
  enter_said k s = by (nat_lt s.depth (2 ^ 64 - 1))
    where
      by : (b : Bool) → Said s (if b then record s { depth = s.depth + 1; steps = s.steps ++ begins k ∷ [] } else s)
      by true = quiet s (record s { depth = s.depth + 1; steps = s.steps ++ begins k ∷ [] }) refl (omega arith) (omega arith)
      by false = said_none s

  exit_said : (s : Laying) → Said s (exit_of s)
  exit_said s = by (nat_lt 0 s.depth)
    where
      by : (b : Bool) → Said s (if b then record s { depth = s.depth - 1; steps = s.steps ++ ends ∷ [] } else s)
      by true = quiet s (record s { depth = s.depth - 1; steps = s.steps ++ ends ∷ [] }) refl (omega arith) (omega arith)
      by false = said_none s

  exit_all_said : (n : ℕ) (s : Laying) → Said s (exit_all_of n s)
  unfolding exit_all_of
  exit_all_said zero s = said_none s
  exit_all_said (suc n) s = said_twice s (exit_all_of n s) (exit_of (exit_all_of n s)) (exit_all_said n s) (exit_said (exit_all_of n s))

  ordered_said : (attaching : List SyntaxKind) (o : Order) (s : Laying) → Fits text s → Said s (ordered text attaching o s)
  ordered_said attaching (begin_node k) s h =
      let out = outside_of text attaching k s.position s.rest (lead s.rest) in
      let t = pass_all_of out s in
      let f : Fits text (enter_of k t) = enter_fits k t (pass_all_fits text small out s h) in
      said_twice s t (pass_all_of (lead s.rest - out) (enter_of k t)) (pass_all_said out s h)
      (said_twice t (enter_of k t) (pass_all_of (lead s.rest - out) (enter_of k t)) (enter_said k t) (pass_all_said (lead s.rest - out) (enter_of k t) f))
    where
      enter_fits : (k : SyntaxKind) (s : Laying) → Fits text s → Fits text (enter_of k s)
      enter_fits k s h = by (nat_lt s.depth (2 ^ 64 - 1))
        where
          by : (b : Bool) → Fits text (if b then record s { depth = s.depth + 1; steps = s.steps ++ begins k ∷ [] } else s)
          by true = record { sum = h.sum; cut = h.cut; whole = h.whole; short = h.short }
          by false = h
  ordered_said attaching (take_joined k more) s h =
      let t = pass_trivia_of s in
      said_twice s t (join_on k more t.rest t) (pass_all_said (lead s.rest) s h) (join_on_said k more t.rest t refl (pass_all_fits text small (lead s.rest) s h))
  ordered_said attaching (take_part p) s h =
      let t = pass_trivia_of s in
      said_twice s t (piece_on text p t.rest t) (pass_all_said (lead s.rest) s h) (piece_on_said p t.rest t (pass_all_fits text small (lead s.rest) s h))
  ordered_said attaching end_node s h = exit_said s
  ordered_said attaching (say m) s h =
      let f : ParserError = record { message = m; position = s.position; left = length s.rest } in
      let P : ParserError → Type 0 = Between s.position s.position (length s.rest) (length s.rest) in
      record {
        added = f ∷ [];
        faults = refl;
        between = All-cons P f [] (record { low = omega arith; high = omega arith; few = omega arith; many = omega arith }) (All-nil P);
        position = omega arith;
        rest = omega arith;
      }
  ordered_said attaching nothing s h = said_none s

  pub walked_said : (attaching : List SyntaxKind) (os : List Order) (s : Laying) → Fits text s → Said s (walked text attaching os s)
  walked_said attaching [] s h = said_none s
  walked_said attaching (o ∷ os) s h =
      let t = ordered text attaching o s in
      said_twice s t (walked text attaching os t) (ordered_said attaching o s h) (walked_said attaching os t (ordered_fits text small attaching o s h))

  pub finish_said : (s : Laying) → Fits text s → Said s (finish_of s)
  finish_said s h =
      let t = pass_all_of (length s.rest) s in
      let u = exit_all_of t.depth t in
      let w = said_twice s t u (pass_all_said (length s.rest) s h) (exit_all_said t.depth t) in
      let p = w.position in
      let r = w.rest in
      let b = w.between in
      record { added = w.added; faults = w.faults; between = b; position = p; rest = r }

-- the errors of states that begin without any
pub said_before : (s t : Laying) (high : ℕ) → s.faults ≡ [] → Said s t → t.position ≤ high → All (λ f. f.position ≤ high) t.faults
said_before s t high none w h =
    subst (All (λ f. f.position ≤ high)) (sym (w.faults ∙ ap (λ (fs : List ParserError). fs ++ w.added) none))
    (all_too (Between s.position t.position (length t.rest) (length s.rest)) (λ f. f.position ≤ high)
    (λ f b. let g = b.high in omega (arith, g, h)) w.added w.between)

pub said_behind : (s t : Laying) → s.faults ≡ [] → Said s t → All (λ f. f.left ≤ length s.rest) t.faults
said_behind s t none w =
    subst (All (λ f. f.left ≤ length s.rest)) (sym (w.faults ∙ ap (λ (fs : List ParserError). fs ++ w.added) none))
    (all_too (Between s.position t.position (length t.rest) (length s.rest)) (λ f. f.left ≤ length s.rest) (λ f b. b.many) w.added w.between)
