use Rattle.std.proofs.Common.{ℕ, List, MatchOption, sym, subst}
use Rattle.line_index.specs.declared.line_col.WideEncoding.{WideEncoding}
use Rattle.line_index.specs.Lines.{IsWideAt, NoCharAt}
use Rattle.line_index.proofs.WideLemmas.{wide_match}
use Rattle.line_index.proofs.places.WidePlaces.wide_line_col.Goals as goal

pub returns : goal.returns
returns c = subst (λ (v : WideEncoding × List ℕ). MatchOption c.to_wide_from.result (NoCharAt v.1 c.args.offset) (IsWideAt v.0 v.1 c.args.offset)) c.self.view_is (wide_match c.self.inside.encoding c.self.inside.index c.args.offset c.in_ok-at.at c.to_wide_from.result (c.in_ok-at.ensures.0, sym c.in_ok-at.ensures.1) c.to_wide_from.ensures)
