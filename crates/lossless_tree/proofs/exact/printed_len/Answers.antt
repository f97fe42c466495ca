use Rattle.std.proofs.Common.{refl}
use Rattle.lossless_tree.proofs.LengthLemmas.{count_after_writes}
use Rattle.lossless_tree.proofs.exact.printed_len.Goals as goal

pub returns : goal.returns
returns g c = count_after_writes _ (λ l. l.bytes) (λ _ _ _ e. e) _ _ _ refl c.in_ok-write.ensures.writes
