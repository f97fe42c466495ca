-- A sealed call begins with the token that it takes.
use Rattle.std.proofs.Common.{◌≡◌, ℕ, suc, ◌+◌, List, [], ◌∷◌, ◌++◌, length, take, ap, ◌∙◌, subst, sym, arith, append_assoc}
use Rattle.std.specs.Prelude.{Some, reverse}
use Rattle.std.proofs.Math.Seq.{take-append_seam}
use Rattle.std.proofs.lemmas.List.{length-append, reverse-append, reverse-reverse}
use Rattle.syntax_kind.specs.declared.syntax_kind.SyntaxKind.{SyntaxKind}
use Rattle.grammar_machine.specs.declared.event.Event.{Event}
use Rattle.grammar_machine.specs.declared.event.Event.TheVariants as event
use Rattle.grammar_machine.specs.declared.grammar.Sight.{Sight}
use Rattle.grammar_machine.specs.declared.grammar.Op.TheVariants as op
use Rattle.grammar_machine.specs.Framing.{moved_events}
use Rattle.grammar_machine.specs.Lasting.{IsOver}
use Rattle.grammar_machine.specs.Running.{Tables, State, kind_of, start_of, with_place, past_of, sealed_on, step_of}
use Rattle.grammar_machine.specs.Sealing.{returned}
use Rattle.grammar_machine.proofs.Running.{step-obeys, runs-suc}
use Rattle.document_laws.specs.Begun.{BeginsWithSight, CallsBeginWithTheirToken}
use Rattle.document_laws.proofs.Owning.{map_turned, tail_of}
use Rattle.document_laws.proofs.Staying.{runs-stay}

same_front : (xs ys zs : List Event) → xs ++ zs ≡ ys ++ zs → xs ≡ ys
same_front xs ys zs e =
    let long : length xs ≡ length ys = omega (arith, ap length e, length-append xs zs, length-append ys zs) in
    sym (take-append_seam xs zs) ∙ ap (λ (n : ℕ). take n (xs ++ zs)) long ∙ ap (take (length ys)) e ∙ take-append_seam ys zs

first_of : (x y : Event) (xs ys : List Event) → x ∷ xs ≡ y ∷ ys → x ≡ y
first_of x y xs ys e = cc

-- a node first, and a token last
record Ends (own later : List Event) (x : Event) : Type 0 where
  front : List Event
  is : own ≡ front ++ x ∷ []

ends_with : (k l : SyntaxKind) (from n : ℕ) (own later : List Event) → event.Node k from ∷ own ≡ later ++ event.Token l n ∷ [] → Ends own later (event.Token l n)
ends_with k l from n own [] e = absurd (let bad : event.Node k from ≡ event.Token l n = first_of (event.Node k from) (event.Token l n) own [] e in cc)
ends_with k l from n own (x ∷ later) e = record { front = later; is = tail_of (event.Node k from) x own (later ++ event.Token l n ∷ []) e }

begins : (g : Tables) (t : Sight) (n : ℕ) (own rest : List Event) → moved_events n own ≡ event.Token (kind_of g t.one) 1 ∷ rest → BeginsWithSight g t own
begins g t n [] rest e = absurd (let bad : [] ≡ event.Token (kind_of g t.one) 1 ∷ rest = e in cc)
begins g t n (event.Token k m ∷ own) rest e =
    record { later = own; is = ap (λ (x : Event). x ∷ own) (first_of (event.Token k m) (event.Token (kind_of g t.one) 1) (moved_events n own) rest e) }
begins g t n (event.Piece p last ∷ own) rest e =
    absurd (let bad : event.Piece p last ≡ event.Token (kind_of g t.one) 1 = first_of (event.Piece p last) (event.Token (kind_of g t.one) 1) (moved_events n own) rest e in cc)
begins g t n (event.Node k from ∷ own) rest e =
    absurd (let bad : event.Node k (from + n) ≡ event.Token (kind_of g t.one) 1 = first_of (event.Node k (from + n)) (event.Token (kind_of g t.one) 1) (moved_events n own) rest e in cc)
begins g t n (event.Error m ∷ own) rest e =
    absurd (let bad : event.Error m ≡ event.Token (kind_of g t.one) 1 = first_of (event.Error m) (event.Token (kind_of g t.one) 1) (moved_events n own) rest e in cc)

pub calls_begin : CallsBeginWithTheirToken
calls_begin g ts k s c t own there makes =
    let first : Event = event.Token (kind_of g t.one) 1 in
    let before : List Event = s.made.events in
    let one : step_of g ts s ≡ sealed_on g c.target k (Some t) (with_place past_of s) =
    step-obeys g ts s (op.Sealed c.target k) c.found c.left ∙ ap (λ o. sealed_on g c.target k o (with_place past_of s)) there in
    let over : IsOver (first ∷ before) (step_of g ts s).made = record { later = []; is = ap (λ (z : State). z.made.events) one } in
    let all : IsOver (first ∷ before) (returned c).made =
    subst (λ (z : State). IsOver (first ∷ before) z.made) (runs-suc c.steps g ts (step_of g ts s)) (runs-stay (suc c.steps) (kind_of g t.one) 1 before g ts (step_of g ts s) over) in
    let n : ℕ = length before in
    let mine : List Event = moved_events n (reverse own) in
    let node : Event = event.Node k (start_of s.made) in
    let whole : (node ∷ mine) ++ before ≡ (all.later ++ first ∷ []) ++ before =
    sym (ap (λ (z : State). z.made.events) makes) ∙ all.is ∙ sym (append_assoc all.later (first ∷ []) before) in
    let e : Ends mine all.later first = ends_with k (kind_of g t.one) (start_of s.made) 1 mine all.later (same_front (node ∷ mine) (all.later ++ first ∷ []) before whole) in
    let turned : moved_events n own ≡ first ∷ reverse e.front =
    ap (moved_events n) (sym (reverse-reverse own)) ∙ sym (map_turned n (reverse own)) ∙ ap reverse e.is ∙ reverse-append e.front (first ∷ []) in
    begins g t n own (reverse e.front) turned
