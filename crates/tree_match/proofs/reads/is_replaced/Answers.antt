use Rattle.std.proofs.Common.{subst, ap, ◌∙◌, length}
use Rattle.tree_match.specs.Matching.{Values, match_template, found_of}
use Rattle.tree_match.specs.Reads.{ValuesRead, Leads}
use Rattle.tree_match.proofs.ReadLemmas.{if_ok, replaced_leads}
use Rattle.tree_match.proofs.reads.is_replaced.Goals as goal

pub returns : goal.returns
returns c =
    replaced_leads c.args.rules.now c.push_values.new.tasks.items c.args.tasks.now.items c.args.new.now (found_of c.args.found.now)
    (λ r. r.now) c.form_at.result c.in-Some.form (λ vs. vs.items) c.in_ok-values.field-0 c.in-Some-2.values c.push_values.result
    c.form_at.ensures c.in-Some.is
    (c.in_ok-values.ensures ∙ ap (λ (os : Values). match_template c.in-Some.form.now (length os) c.args.new.now) c.deref.ensures.value)
    c.in-Some-2.is
    (if_ok c.push_values.result c.push_values.ensures (λ ok l.
    subst (λ (ns : Values). Leads (λ rs. ValuesRead rs c.args.found.now.values.items ns) ok c.push_values.new.tasks.items c.args.tasks.now.items) c.deref-3.ensures.value
    (subst (λ (os : Values). Leads (λ rs. ValuesRead rs os c.deref-3.result.now) ok c.push_values.new.tasks.items c.args.tasks.now.items) c.deref-2.ensures.value l)))
