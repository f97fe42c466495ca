use Rattle.std.proofs.Common.{◌≡◌, ℕ, sym, ap, ◌∙◌, ◌+◌, subst, IsTrue, nat_eq}
use Rattle.text_size.specs.TextRange.{Bounds}
use Rattle.ras_parsing.specs.Document.{byte_at, BeginsToken}
use Rattle.ras_parsing.proofs.Windows.{begins_some, begins_none}
use Rattle.ras_parsing.proofs.retold.begins_token.Goals as goal

pub returns-in-Some : goal.returns-in-Some
returns-in-Some c =
    let byte : c.new-byte.result ≡ byte_at c.args.at = c.new-byte.ensures ∙ ap (λ m. let b : Bounds = record { start = c.args.at; end = m } in b) (c.new.ensures ∙ ap (λ m. m + 1) c.raw-2.ensures) in
    subst (λ (n : ℕ). (IsTrue (nat_eq c.raw-in-Some.result n) → BeginsToken c.args.root.now.tree c.args.at) × (BeginsToken c.args.root.now.tree c.args.at → IsTrue (nat_eq c.raw-in-Some.result n))) (sym c.raw-in-Some-2.ensures)
    (begins_some c.args.root.now c.args.at c.raw-in-Some.result c.new-byte.result c.covering_element.result c.into_token.result c.in-Some.token c.requires.root byte c.covering_element.ensures c.into_token.ensures c.in-Some.is
    (c.raw-in-Some.ensures ∙ c.start.ensures.value ∙ ap (λ (b : Bounds). b.start) c.text_range.ensures) (λ z. c.if-raw-eq0.false (c.raw.ensures ∙ z)))

pub returns-in-None : goal.returns-in-None
returns-in-None c =
    let byte : c.new-byte.result ≡ byte_at c.args.at = c.new-byte.ensures ∙ ap (λ m. let b : Bounds = record { start = c.args.at; end = m } in b) (c.new.ensures ∙ ap (λ m. m + 1) c.raw-2.ensures) in
    begins_none c.args.root.now c.args.at c.new-byte.result c.covering_element.result c.into_token.result c.requires.root byte c.covering_element.ensures c.into_token.ensures c.in-None.is (λ z. c.if-raw-eq0.false (c.raw.ensures ∙ z))
