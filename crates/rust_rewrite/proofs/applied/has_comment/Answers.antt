use Rattle.std.proofs.Common.{◌∙◌}
use Rattle.rust_rewrite.proofs.CommentLemmas.{found_start, no_next, next_there}
use Rattle.rust_rewrite.proofs.applied.has_comment.Goals as goal

pub returns-in-Ok : goal.returns-in-Ok
returns-in-Ok c =
    found_start c.args.starts.now c.args.range c.raw.result c.raw-end.result c.in-Ok.field-0 c.requires
    (c.raw.ensures ∙ c.start.ensures.value) (c.raw-end.ensures ∙ c.end.ensures.value) c.in-Ok.ensures.position

pub returns-in-None : goal.returns-in-None
returns-in-None c =
    no_next c.args.starts.now c.args.range c.raw.result c.in-Err.at c.requires
    (c.raw.ensures ∙ c.start.ensures.value) c.in-Err.ensures.position c.in-None.ensures.lookup.3

pub returns-in-Some : goal.returns-in-Some
returns-in-Some c =
    next_there c.args.starts.now c.args.range c.raw.result c.raw-end.result c.in-Err.at c.in-Some.next.now c.requires
    (c.raw.ensures ∙ c.start.ensures.value) (c.raw-end.ensures ∙ c.end.ensures.value) c.in-Err.ensures.position
    c.in-Some.ensures.lookup.3.0 (c.in-Some.ensures.lookup.3.1 0)
