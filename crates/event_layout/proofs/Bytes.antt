-- What is laid takes the text up to the position.
use Rattle.std.proofs.Common.{◌≡◌, ℕ, zero, suc, ◌+◌, ◌-◌, ◌^◌, min, Bool, true, false, nat_lt, if◌then◌else◌, List, [], ◌∷◌, ◌++◌, take, drop, arith, Option, Some, None}
use Rattle.syntax_kind.specs.declared.syntax_kind.SyntaxKind.{SyntaxKind}
use Rattle.ras_front_end.specs.Reading.{FrontStep, begins, takes, ends, reports}
use Rattle.token_layout.specs.declared.span.Token.{Token as RawToken}
use Rattle.grammar_machine.specs.declared.event.Part.{Part}
use Rattle.event_layout.specs.Trivia.{lead, later_of, part_of, outside_of}
use Rattle.event_layout.specs.Layout.{Laying, leaf_of, pass_on, pass_all_of, pass_trivia_of, joined_len, join_on, len_of_part, kind_of_part, cut_at, piece_on, enter_of, exit_of, dot_of}
use Rattle.event_layout.specs.Orders.{Order, begin_node, take_joined, take_part, end_node, say, nothing, ordered, walked}
use Rattle.event_layout.specs.Filled.{bytes_taken}

pub bytes_both : (xs ys : List FrontStep) → bytes_taken (xs ++ ys) ≡ bytes_taken xs + bytes_taken ys
bytes_both [] ys = omega arith
bytes_both (begins k ∷ xs) ys = bytes_both xs ys
bytes_both (takes k n ∷ xs) ys = omega (arith, bytes_both xs ys)
bytes_both (ends ∷ xs) ys = bytes_both xs ys
bytes_both (reports m p ∷ xs) ys = bytes_both xs ys

-- positions saturate
abbrev pub Took : Laying → Type 0
Took s = min (bytes_taken s.steps) (2 ^ 32 - 1) ≡ s.position

leaf_took : (k : SyntaxKind) (n : ℕ) (s : Laying) → Took s → Took (leaf_of k n s)
leaf_took k n s h = omega (arith, h, bytes_both s.steps (takes k n ∷ []))

pub pass_on_took : (ts : List RawToken) (s : Laying) → Took s → Took (pass_on ts s)
pass_on_took [] s h = h
pass_on_took (t ∷ ts) s h = leaf_took t.kind (t.len - s.cut) (record s { rest = ts; cut = 0 }) h

pub pass_all_took : (n : ℕ) (s : Laying) → Took s → Took (pass_all_of n s)
unfolding pass_all_of
pass_all_took zero s h = h
pass_all_took (suc n) s h = pass_on_took (pass_all_of n s).rest (pass_all_of n s) (pass_all_took n s h)

pub join_took : (k : SyntaxKind) (more : ℕ) (ts : List RawToken) (s : Laying) → Took s → Took (join_on k more ts s)
join_took k more [] s h = h
join_took k more (t ∷ ts) s h = leaf_took k (joined_len (t.len - s.cut) (take more ts)) (record s { rest = drop more ts; cut = 0 }) h

cut_took : (p : Part) (o : Option ℕ) (s : Laying) → Took s → Took (cut_at p o s)
cut_took p None s h = h
cut_took p (Some dot) s h = leaf_took (kind_of_part p) (len_of_part p dot) (record s { cut = later_of s.cut (len_of_part p dot) }) h

pub piece_took : (text : List ℕ) (p : Part) (ts : List RawToken) (s : Laying) → Took s → Took (piece_on text p ts s)
piece_took text p [] s h = h
piece_took text p (t ∷ ts) s h = cut_took p (dot_of t.kind (part_of text s.position (t.len - s.cut))) s h

pub enter_took : (k : SyntaxKind) (s : Laying) → Took s → Took (enter_of k s)
enter_took k s h = by (nat_lt s.depth (2 ^ 64 - 1))
  where
    by : (b : Bool) → Took (if b then record s { depth = s.depth + 1; steps = s.steps ++ begins k ∷ [] } else s)
    by true = omega (arith, h, bytes_both s.steps (begins k ∷ []))
    by false = h

pub exit_took : (s : Laying) → Took s → Took (exit_of s)
exit_took s h = by (nat_lt 0 s.depth)
  where
    by : (b : Bool) → Took (if b then record s { depth = s.depth - 1; steps = s.steps ++ ends ∷ [] } else s)
    by true = omega (arith, h, bytes_both s.steps (ends ∷ []))
    by false = h

ordered_took : (text : List ℕ) (attaching : List SyntaxKind) (o : Order) (s : Laying) → Took s → Took (ordered text attaching o s)
ordered_took text attaching (begin_node k) s h =
    let out = outside_of text attaching k s.position s.rest (lead s.rest) in
    pass_all_took (lead s.rest - out) (enter_of k (pass_all_of out s)) (enter_took k (pass_all_of out s) (pass_all_took out s h))
ordered_took text attaching (take_joined k more) s h = join_took k more (pass_trivia_of s).rest (pass_trivia_of s) (pass_all_took (lead s.rest) s h)
ordered_took text attaching (take_part p) s h = piece_took text p (pass_trivia_of s).rest (pass_trivia_of s) (pass_all_took (lead s.rest) s h)
ordered_took text attaching end_node s h = exit_took s h
ordered_took text attaching (say m) s h = h
ordered_took text attaching nothing s h = h

pub walked_took : (text : List ℕ) (attaching : List SyntaxKind) (os : List Order) (s : Laying) → Took s → Took (walked text attaching os s)
walked_took text attaching [] s h = h
walked_took text attaching (o ∷ os) s h = walked_took text attaching os (ordered text attaching o s) (ordered_took text attaching o s h)
