use Rattle.std.proofs.Common.{◌≡◌, ℕ, List, [], ◌∷◌, ◌++◌, ap, sym, ◌∙◌, refl, map, arith}
use Rattle.std.specs.Prelude.{flat_map, string_bytes, encode_utf8}
use Rattle.std.proofs.lemmas.Bool.Decides.{nat_tests}
use Rattle.std.proofs.lemmas.List.{flat_map_more}
use Rattle.std.proofs.lemmas.Iterator.{YieldsList-from_chars}
use Rattle.std.proofs.lemmas.Iterator.Consumers.{YieldsList-end}
use Rattle.rust_front.specs.Messages.{filled, filled_char}
use Rattle.rust_front.proofs.message.filled.Goals as goal

same : (xs : List ℕ) → map (λ c. c) xs ≡ xs
same [] = refl
same (x ∷ xs) = ap (λ l. x ∷ l) (same xs)

-- one more character
one_more : (name out out' cs : List ℕ) (c : ℕ) (text : List ℕ) → out ≡ flat_map (filled_char name) cs → out' ≡ out ++ text → text ≡ filled_char name c → out' ≡ flat_map (filled_char name) (cs ++ c ∷ [])
one_more name out out' cs c text h added is = added ∙ ap (λ l. l ++ text) h ∙ ap (λ l. flat_map (filled_char name) cs ++ l) is ∙ flat_map_more (filled_char name) [] cs c

other : (name : List ℕ) (c : ℕ) → (c ≡ 37 → ⊥) → encode_utf8 c ≡ filled_char name c
other name c h = grind (arith, nat_tests)

pub loop-c-preserved : goal.loop-c-preserved
loop-c-preserved c =
    let name : List ℕ = c.args.name.now in
    one_more name (string_bytes c.loop-c.out) (string_bytes c.push.new.self) c.loop-c.yielded c.in-Some.c (encode_utf8 c.in-Some.c) c.loop-c.invariant c.in_ok-push.ensures.bytes (other name c.in-Some.c c.if-c-eq37.false)

pub loop-c-preserved-in-Continue-1 : goal.loop-c-preserved-in-Continue-1
loop-c-preserved-in-Continue-1 c =
    let name : List ℕ = c.args.name.now in
    one_more name (string_bytes c.loop-c.out) (string_bytes c.push_str.new.self) c.loop-c.yielded c.in-Some.c name c.loop-c.invariant c.in_ok-push_str.ensures.bytes (ap (filled_char name) (sym c.if-c-eq37.true))

pub returns : goal.returns
unfolding filled
returns c =
    let t = YieldsList-end (YieldsList-from_chars c.args.text.now c.utf8.text cc) c.loop-c.yielded _ c.loop-c.yielded_by _ _ c.in-None.is c.next.ensures.steps in
    c.loop-c.invariant ∙ ap (flat_map (filled_char c.args.name.now)) (sym (same c.loop-c.yielded) ∙ t.0)
