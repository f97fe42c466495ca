use Rattle.std.proofs.Common.{◌≡◌, ◌++◌, length}
use Rattle.std.specs.Prelude.{string_bytes, option_map}
use denote.Text.{Utf8}
use denote.Shadow.{shadow}
use Rattle.syntax_tool.specs.Escapes.{unescaped}
use Rattle.syntax_tool.proofs.escapes.unescape.Given as goal

abbrev pub invariant-loop-plain : goal.invariant-loop-plain
invariant-loop-plain l = shadow (Utf8 l.rest) × (unescaped l.fn.raw ≡ option_map (λ t. string_bytes l.out ++ t) (unescaped l.rest))

abbrev pub decreases-loop-plain : goal.decreases-loop-plain
decreases-loop-plain l = length l.rest
