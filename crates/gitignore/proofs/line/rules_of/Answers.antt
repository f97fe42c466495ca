use Rattle.std.proofs.Common.{sym, ◌∙◌}
use Rattle.gitignore.proofs.LineLemmas.{line_read}
use Rattle.gitignore.proofs.line.rules_of.Goals as goal

pub loop-at-preserved : goal.loop-at-preserved
loop-at-preserved c =
    line_read c.args.text.now c.loop-at.rules.items c.push.new.self.items c.loop-at.rest.now c.split_at.result.0.now c.split_at-in-Some.result.1.now c.in_ok-rule_of.field-0
    c.in-Some.at c.loop-at.invariant (sym c.feed_at.ensures ∙ c.in-Some.is) c.split_at.ensures.front c.in_ok-rule_of.ensures c.in_ok-push.ensures.items c.split_at-in-Some.ensures.back
