-- Nodes that begin behind white space alone.
use Rattle.std.proofs.Common.{◌≡◌, ℕ, ◌-◌, List, [], ◌∷◌, take, ap, ◌∙◌, refl, Bool, true, false, not, ◌&&◌, if◌then◌else◌, nat_lt}
use Rattle.syntax_kind.specs.declared.syntax_kind.SyntaxKind.{SyntaxKind}
use Rattle.token_layout.specs.declared.span.Token.{Token}
use Rattle.event_layout.specs.Trivia.{lead, attached, attaches_of, is_blank_on, is_comment, kept_of, part_of, outside_of}
use Rattle.event_layout.specs.Layout.{Given, Laying, begin_of, begin_with, enter_of, pass_of, pass_all_of}
use Rattle.event_layout.proofs.Moves.{pass_all_none, pass_all_more}

no_comment : (k : SyntaxKind) (text : List ℕ) (b : Bool) → is_comment k ≡ b → not b ≡ true → kept_of text k 0 ≡ 0
no_comment k text true e h = (let bad : false ≡ true = h in cc)
no_comment k text false e h = ap (λ b. if b then 1 else 0) e

-- no comment, nothing to attach
nothing_attached : (bytes : List ℕ) (start : ℕ) (ts : List Token) → is_blank_on ts ≡ true → attached bytes start (take 1 ts) ≡ 0
unfolding attached
nothing_attached bytes start [] h = (let bad : false ≡ true = h in cc)
nothing_attached bytes start (t ∷ ts) h = no_comment t.kind (part_of bytes start t.len) (is_comment t.kind) refl h

outside_if : (b : Bool) (n : ℕ) → n ≡ 0 → (if b then 1 - n else 1) ≡ 1
outside_if true n e = ap (λ m. 1 - m) e
outside_if false n e = refl

outside_one : (bytes : List ℕ) (ks : List SyntaxKind) (k : SyntaxKind) (start : ℕ) (ts : List Token) → is_blank_on ts ≡ true → outside_of bytes ks k start ts 1 ≡ 1
outside_one bytes ks k start ts h = outside_if (nat_lt 0 1 && attaches_of ks k) (attached bytes start (take 1 ts)) (nothing_attached bytes start ts h)

pub begun_behind_blank : (g : Given) (k : SyntaxKind) (s : Laying) → lead s.rest ≡ 1 → is_blank_on s.rest ≡ true → begin_of g k s ≡ enter_of k (pass_of s)
begun_behind_blank g k s one h =
    ap (λ n. begin_with k n (outside_of g.bytes g.attaching k s.position s.rest n) s) one
    ∙ ap (λ n. begin_with k 1 n s) (outside_one g.bytes g.attaching k s.position s.rest h)
    ∙ pass_all_none (enter_of k (pass_all_of 1 s))
    ∙ ap (enter_of k) (pass_all_more 0 s ∙ ap pass_of (pass_all_none s))
