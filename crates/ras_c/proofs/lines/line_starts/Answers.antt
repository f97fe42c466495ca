use Rattle.std.proofs.Common.{◌≡◌, ◌<◌, ◌+◌, ◌∷◌, ◌++◌, [], ℕ, length, All, arith, subst, ap, ◌∙◌}
use Rattle.std.proofs.lemmas.List.Elements.{All-head, All-tail}
use Rattle.memchr.specs.Find.{Passes, is_byte, places}
use Rattle.memchr.proofs.lemmas.CallerLemmas.{All-places}
use Rattle.line_index.specs.Lines.{starts_after}
use Rattle.line_index.proofs.StartLemmas.{after_places, one_more, no_more}
use Rattle.ras_c.proofs.lines.line_starts.Goals as goal

pub loop-at-init : goal.loop-at-init
loop-at-init c =
    let found : c.into_iter-at-iterator.result ≡ places (is_byte 10) c.args.text.now = c.into_iter-at-iterator.ensures.into_iter_gives ∙ c.memchr_iter-at-items.ensures.value ∙ ap (places (is_byte 10)) c.as_bytes.ensures.value in
    let first : c.push.new.self.items ≡ 0 ∷ [] = c.in_ok-push.ensures.items ∙ ap (λ l. l ++ 0 ∷ []) c.new-starts.ensures.items in
    rw found (tt, tt, All-places (is_byte 10) c.args.text.now, ap (λ l. c.push.new.self.items ++ l) (after_places 0 c.args.text.now) ∙ ap (λ l. l ++ starts_after 0 c.args.text.now) first)

pub overflow_cast-at : goal.overflow_cast-at
overflow_cast-at c =
    let P = λ (k : ℕ). (k < length c.args.text.now) × Passes (is_byte 10) c.args.text.now k in
    let all : All P (c.in-Some.at ∷ c.next.new.self) = subst (All P) c.in-Some.ensures.steps c.loop-at.invariant.2 in
    let inside = (All-head P c.in-Some.at c.next.new.self all).0 in
    omega (arith, inside, c.requires)

pub loop-at-preserved : goal.loop-at-preserved
loop-at-preserved c =
    let P = λ (k : ℕ). (k < length c.args.text.now) × Passes (is_byte 10) c.args.text.now k in
    let all : All P (c.in-Some.at ∷ c.next.new.self) = subst (All P) c.in-Some.ensures.steps c.loop-at.invariant.2 in
    let same : c.in-Some.at + 1 ≡ 0 + c.in-Some.at + 1 = omega arith in
    let grown = c.in_ok-push-2.ensures.items ∙ ap (λ (x : ℕ). c.loop-at.starts.items ++ x ∷ []) same in (
      tt,
      tt,
      All-tail P c.in-Some.at c.next.new.self all,
      one_more 0 c.in-Some.at c.loop-at.starts.items c.push-in-loop-at.new.self.items c.loop-at.at-iterator c.next.new.self c.in-Some.ensures.steps grown ∙ c.loop-at.invariant.3,
    )

pub returns : goal.returns
returns c = no_more 0 c.loop-at.starts.items c.loop-at.at-iterator c.in-None.ensures.steps.0 ∙ c.loop-at.invariant.3
