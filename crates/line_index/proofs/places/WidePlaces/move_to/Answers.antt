use Rattle.std.proofs.Common.{ℕ, List, sym, subst}
use Rattle.line_index.specs.declared.line_col.WideEncoding.{WideEncoding}
use Rattle.line_index.specs.Lines.{IsWideAt}
use Rattle.line_index.proofs.WideLemmas.{wide_at}
use Rattle.line_index.proofs.places.WidePlaces.move_to.Goals as goal

pub returns-clause-wide : goal.returns-clause-wide
returns-clause-wide c = subst (λ (v : WideEncoding × List ℕ). IsWideAt v.0 v.1 c.args.offset c.in_ok-wide.wide) c.self.view_is (wide_at c.self.inside.encoding c.self.inside.index c.args.offset c.in_ok-at.at c.in_ok-wide.wide (c.in_ok-at.ensures.0, sym c.in_ok-at.ensures.1) c.in_ok-wide.ensures)
