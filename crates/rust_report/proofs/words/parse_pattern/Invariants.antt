use Rattle.std.proofs.Common.{length}
use denote.Text.{Utf8}
use denote.Shadow.{shadow}
use Rattle.rust_report.proofs.WordLemmas.{AreRead}
use Rattle.rust_report.proofs.words.parse_pattern.Given as goal

abbrev pub invariant-loop-at : goal.invariant-loop-at
invariant-loop-at l = shadow (Utf8 l.rest) × AreRead l.text l.link l.rest l.steps.items

abbrev pub decreases-loop-at : goal.decreases-loop-at
decreases-loop-at l = length l.rest
