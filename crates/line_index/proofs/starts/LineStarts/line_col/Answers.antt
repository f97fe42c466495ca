use Rattle.std.proofs.Common.{◌≡◌, ℕ, List, ◌+◌, ◌-◌, ◌<◌, ◌≤◌, length, take, get_or, subst, sym, ap, arith}
use Rattle.std.proofs.lemmas.Grind.{get_or_default_zero}
use Rattle.line_index.specs.Lines.{HasStarts, HasText, Numbers, line_feeds, bytes_behind, line_col_at}
use Rattle.line_index.proofs.LineLemmas.{kept_start, place, few_lines}
use Rattle.line_index.proofs.starts.LineStarts.line_col.Goals as goal

record Kept (t v : List ℕ) (o n : ℕ) : Type 0 where
  inside : n < length v
  start : (d : ℕ) → get_or v n d + bytes_behind (take o t) ≡ o

kept : (t v w : List ℕ) → v ≡ w → HasStarts t w → (o n : ℕ) → o ≤ length t → n ≡ line_feeds (take o t) → Kept t v o n
kept t v w e h o n within f =
    let k = kept_start t v (subst (HasStarts t) (sym e) h) o n within f in
    record { inside = k.0; start = λ d. omega (arith, k.1, get_or_default_zero v n d k.0) }

pub overflow_cast-result : goal.overflow_cast-result
overflow_cast-result c =
    let some : HasText c.args.self.now = subst HasText c.self.view_is c.self.invariant in
    let len : c.self.inside.len ≡ c.args.self.now.len = ap (λ (n : Numbers). n.len) c.self.view_is in
    let fits : c.raw-offset.result ≤ length some.text = omega (arith, len, some.is.len, c.if-self-offset.false) in
    omega (arith, few_lines some.text c.raw-offset.result fits, c.line_at-line.ensures some.text some.is, c.raw-offset.type_inv)

pub index-requires : goal.index-requires
index-requires c =
    let some : HasText c.args.self.now = subst HasText c.self.view_is c.self.invariant in
    let len : c.self.inside.len ≡ c.args.self.now.len = ap (λ (n : Numbers). n.len) c.self.view_is in
    let fits : c.raw-offset.result ≤ length some.text = omega (arith, len, some.is.len, c.if-self-offset.false) in
    let k = kept some.text c.self.inside.starts.items c.args.self.now.starts (ap (λ (n : Numbers). n.starts) c.self.view_is) some.is.starts c.raw-offset.result c.line_at-line.result fits (c.line_at-line.ensures some.text some.is) in
    omega (arith, k.inside, c.self.inside.starts.ok.0)

pub overflow_sub-result : goal.overflow_sub-result
overflow_sub-result c =
    let some : HasText c.args.self.now = subst HasText c.self.view_is c.self.invariant in
    let len : c.self.inside.len ≡ c.args.self.now.len = ap (λ (n : Numbers). n.len) c.self.view_is in
    let fits : c.raw-offset.result ≤ length some.text = omega (arith, len, some.is.len, c.if-self-offset.false) in
    let k = kept some.text c.self.inside.starts.items c.args.self.now.starts (ap (λ (n : Numbers). n.starts) c.self.view_is) some.is.starts c.raw-offset.result c.line_at-line.result fits (c.line_at-line.ensures some.text some.is) in
    omega (arith, k.start c.index.result.now, c.index.ensures)

pub returns : goal.returns
returns c s is =
    let o = c.raw-offset.result in
    let len : c.self.inside.len ≡ c.args.self.now.len = ap (λ (n : Numbers). n.len) c.self.view_is in
    let fits : o ≤ length s = omega (arith, len, is.len, c.if-self-offset.false) in
    let k = kept s c.self.inside.starts.items c.args.self.now.starts (ap (λ (n : Numbers). n.starts) c.self.view_is) is.starts o c.line_at-line.result fits (c.line_at-line.ensures s is) in
    let col : bytes_behind (take o s) ≡ o - c.index.result.now = omega (arith, k.start c.index.result.now, c.index.ensures) in
    let at = place s o c.line_at-line.result (o - c.index.result.now) (sym (c.line_at-line.ensures s is)) col in
    (omega (arith, c.raw-offset.ensures, fits), sym (subst (λ n. line_col_at s n ≡ record { line = c.line_at-line.result; col = o - c.index.result.now }) c.raw-offset.ensures at))
