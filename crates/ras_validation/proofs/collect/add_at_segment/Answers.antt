use Rattle.std.proofs.Common.{◌++◌, ◌∙◌, ap, sym, append-nil}
use Rattle.ras_validation.proofs.Walks.{plain_segment}
use Rattle.ras_validation.proofs.collect.add_at_segment.Goals as goal

pub returns-then-not-has_path_keyword : goal.returns-then-not-has_path_keyword
returns-then-not-has_path_keyword c =
    let items = c.args.found.now.items in
    sym (append-nil items) ∙ ap (λ v. items ++ v) (sym (plain_segment c.args.node.now (sym c.has_path_keyword.ensures ∙ c.if-not-has_path_keyword.true)))
