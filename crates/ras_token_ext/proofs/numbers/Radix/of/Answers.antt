use Rattle.std.proofs.Common.{arith}
use Rattle.std.proofs.lemmas.Str.{IsCharBoundary-start}
use Rattle.ras_token_ext.proofs.Boundaries.{after_ascii}
use Rattle.ras_token_ext.proofs.numbers.Radix.of.Goals as goal

pub returns-then-bytes-lt2-clause-boundary : goal.returns-then-bytes-lt2-clause-boundary
returns-then-bytes-lt2-clause-boundary c = IsCharBoundary-start c.args.text.now c.utf8.text

pub returns-then-bytes-eq98-clause-boundary : goal.returns-then-bytes-eq98-clause-boundary
returns-then-bytes-eq98-clause-boundary c = after_ascii c.args.text.now c.as_bytes-bytes.result.now 1 c.as_bytes-bytes.ensures.value c.utf8.text (omega arith) (omega arith)

pub returns-then-bytes-eq111-clause-boundary : goal.returns-then-bytes-eq111-clause-boundary
returns-then-bytes-eq111-clause-boundary c = after_ascii c.args.text.now c.as_bytes-bytes.result.now 1 c.as_bytes-bytes.ensures.value c.utf8.text (omega arith) (omega arith)

pub returns-then-bytes-eq120-clause-boundary : goal.returns-then-bytes-eq120-clause-boundary
returns-then-bytes-eq120-clause-boundary c = after_ascii c.args.text.now c.as_bytes-bytes.result.now 1 c.as_bytes-bytes.ensures.value c.utf8.text (omega arith) (omega arith)
