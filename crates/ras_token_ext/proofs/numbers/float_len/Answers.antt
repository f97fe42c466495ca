use Rattle.std.proofs.Common.{arith}
use Rattle.ras_token_ext.proofs.Boundaries.{after_ascii}
use Rattle.ras_token_ext.proofs.numbers.float_len.Goals as goal

pub range_from-requires : goal.range_from-requires
range_from-requires c = λ _. after_ascii c.args.text.now c.as_bytes-bytes.result.now c.first_letter-letter.result c.as_bytes-bytes.ensures.value c.utf8.text (omega arith) (c.is_exponent.ensures.ascii c.if-is_exponent.true)
