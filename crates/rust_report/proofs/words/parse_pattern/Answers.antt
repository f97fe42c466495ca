use Rattle.std.proofs.Common.{◌≡◌, sym, ap, ◌∙◌, subst, reverse, take, ◌-◌, arith, ◌∷◌, []}
use Rattle.std.proofs.lemmas.List.{reverse-reverse}
use Rattle.rust_report.specs.Words.{AreSteps, words}
use Rattle.rust_report.specs.declared.pattern.Link.TheVariants.{Child}
use Rattle.rust_report.proofs.WordLemmas.{word_read, last_read, cut_with, after_sign}
use Rattle.rust_report.proofs.words.parse_pattern.Goals as goal

pub range_from-rest-requires : goal.range_from-rest-requires
range_from-rest-requires c =
    λ _. after_sign c.loop-at.rest.now c.as_bytes.result.now c.in-Some.next c.in-Some.at c.width.result c.as_bytes.ensures.utf8 c.as_bytes.ensures.value c.width.ensures c.in-Some.ensures.0 c.in-Some.ensures.2

pub loop-at-preserved : goal.loop-at-preserved
loop-at-preserved c = (
  c.range_from-rest.utf8,
  word_read c.args.text.now c.loop-at.link c.in-Some.next c.loop-at.rest.now c.range.result.now c.range_from-rest.result.now c.loop-at.steps.items c.push_step.new.steps.items c.loop-at.invariant.1
      (cut_with c.loop-at.rest.now c.as_bytes.result.now c.loop-at.link c.in-Some.next c.in-Some.at c.width.result c.range.result.now c.range_from-rest.result.now
      c.in-Some.ensures.3 c.as_bytes.ensures.value c.width.ensures (c.range.ensures.value ∙ ap (λ n. take n c.loop-at.rest.now) (let e : c.in-Some.at - 0 ≡ c.in-Some.at = omega arith in e)) c.range_from-rest.ensures.value)
      c.in_ok-push_step.ensures,
)

pub returns : goal.returns
returns c =
    subst (AreSteps (words Child c.args.text.now)) (sym (ap reverse c.reverse.ensures.items ∙ reverse-reverse c.push_step-2.new.steps.items))
    (last_read c.args.text.now c.loop-at.link c.loop-at.rest.now c.loop-at.steps.items c.push_step-2.new.steps.items c.loop-at.invariant.1
    (ap (words c.loop-at.link) (sym c.as_bytes.ensures.value) ∙ c.in_default.ensures c.loop-at.link ∙ ap (λ t. (c.loop-at.link, t) ∷ []) c.as_bytes.ensures.value)
    c.in_ok-push_step-2.ensures)
