use Rattle.std.proofs.Common.{◌≡◌, string_bytes, subst, rules, tests}
use Rattle.ras_c.specs.Border.{IsHanded, IsCounted}
use Rattle.ras_c.specs.Rewriting.{AreRules}
use Rattle.ras_c.proofs.RewritingLemmas.{becomes}
use Rattle.ras_c.proofs.rewriting.ras_c_rewrite.Goals as goal

pub returns-in-Ok-rewritten-clause-done : goal.returns-in-Ok-rewritten-clause-done
returns-in-Ok-rewritten-clause-done c = λ q.
    becomes c.args.lines c.args.rules.now c.args.edition c.args.text.now c.in-Ok-rules_of.rules.items c.in-Ok-rewritten.number (string_bytes c.in-Ok-rewritten.new)
    (λ n s. IsHanded s c.args.out.now c.hand_new.new.out c.hand_new.new.count × (c.hand_new.new.matches ≡ n))
    (subst (λ t. AreRules c.args.lines t c.in-Ok-rules_of.rules.items) c.in-Ok.ensures.cases.0 c.in-Ok-rules_of.ensures.rules)
    (search (rules, tests))
    (search (rules, tests))
    (search (rules, tests))

pub returns-in-Ok-rewritten-clause-room : goal.returns-in-Ok-rewritten-clause-room
returns-in-Ok-rewritten-clause-room c = λ q.
    becomes c.args.lines c.args.rules.now c.args.edition c.args.text.now c.in-Ok-rules_of.rules.items c.in-Ok-rewritten.number (string_bytes c.in-Ok-rewritten.new)
    (λ n s. IsCounted s c.args.out.now c.hand_new.new.out c.hand_new.new.count × (c.hand_new.new.matches ≡ n))
    (subst (λ t. AreRules c.args.lines t c.in-Ok-rules_of.rules.items) c.in-Ok.ensures.cases.0 c.in-Ok-rules_of.ensures.rules)
    (search (rules, tests))
    (search (rules, tests))
    (search (rules, tests))
