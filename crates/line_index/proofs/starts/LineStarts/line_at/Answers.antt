use Rattle.std.proofs.Common.{◌≡◌, ◌≤◌, length, subst, sym, ap, ◌∙◌, arith, Ok, Err}
use Rattle.line_index.specs.Lines.{HasStarts, HasText, Numbers}
use Rattle.line_index.proofs.LineLemmas.{searched_line}
use Rattle.line_index.proofs.starts.LineStarts.line_at.Goals as goal

pub overflow_sub-result : goal.overflow_sub-result
overflow_sub-result c =
    let some : HasText c.args.self.now = subst HasText c.self.view_is c.self.invariant in
    let same : c.deref.result.now ≡ c.args.self.now.starts = c.deref.ensures.value ∙ ap (λ (n : Numbers). n.starts) c.self.view_is in
    let h : HasStarts some.text c.deref.result.now = subst (HasStarts some.text) (sym same) some.is.starts in
    let fits : c.args.offset ≤ length some.text = omega (arith, c.requires, some.is.len) in
    let k = searched_line some.text c.deref.result.now h c.args.offset fits (Err c.in-Err.next) c.in-Err.ensures.position in
    omega (arith, k)

pub returns-in-Err : goal.returns-in-Err
returns-in-Err c s is =
    let same : c.deref.result.now ≡ c.args.self.now.starts = c.deref.ensures.value ∙ ap (λ (n : Numbers). n.starts) c.self.view_is in
    let h : HasStarts s c.deref.result.now = subst (HasStarts s) (sym same) is.starts in
    let fits : c.args.offset ≤ length s = omega (arith, c.requires, is.len) in
    let k = searched_line s c.deref.result.now h c.args.offset fits (Err c.in-Err.next) c.in-Err.ensures.position in
    omega (arith, k)

pub returns-in-Ok : goal.returns-in-Ok
returns-in-Ok c s is =
    let same : c.deref.result.now ≡ c.args.self.now.starts = c.deref.ensures.value ∙ ap (λ (n : Numbers). n.starts) c.self.view_is in
    let h : HasStarts s c.deref.result.now = subst (HasStarts s) (sym same) is.starts in
    let fits : c.args.offset ≤ length s = omega (arith, c.requires, is.len) in
    searched_line s c.deref.result.now h c.args.offset fits (Ok c.in-Ok.line) c.in-Ok.ensures.position
