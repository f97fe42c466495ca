use Rattle.std.proofs.Common.{◌≡◌, ℕ, ◌<◌, List, get_or, Option, Some, None, subst, sym, ap, ◌∙◌, arith}
use Rattle.std.specs.Prelude.{MatchOption}
use Rattle.std.specs.Option.{option_copied}
use Rattle.std.specs.Slice.{IsItemAt}
use denote.Bor.{Bor}
use Rattle.line_index.specs.Lines.{HasStarts, IsLineStart, Numbers, line_feeds}
use Rattle.line_index.proofs.starts.LineStarts.start.Goals as goal

kept : (s v : List ℕ) → HasStarts s v → (n : ℕ) (r : Option (Bor ℕ)) → IsItemAt v n r → MatchOption (option_copied r) (line_feeds s < n) (IsLineStart s n)
kept s v h n None k = omega (arith, h.count, k.3)
kept s v h n (Some x) k = let e : x.now ≡ get_or v n 0 = k.3.1 0 in subst (IsLineStart s n) (sym e) (h.each n k.3.0)

pub returns : goal.returns
returns c s is =
    let same : c.deref.result.now ≡ c.args.self.now.starts = c.deref.ensures.value ∙ ap (λ (n : Numbers). n.starts) c.self.view_is in
    let h : HasStarts s c.deref.result.now = subst (HasStarts s) (sym same) is.starts in
    rw c.copied.ensures (kept s c.deref.result.now h c.args.line c.get.result c.get.ensures.lookup)
