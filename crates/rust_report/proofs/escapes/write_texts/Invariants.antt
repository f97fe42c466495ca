use Rattle.std.proofs.Common.{◌≤◌, length, take, ℕ, List, Bor}
use Rattle.std.specs.Fmt.{HasWritten, IsPlainFormatter}
use Rattle.std.specs.List.{flat_map}
use Rattle.rust_report.proofs.escapes.write_texts.Given as goal

abbrev pub invariant-loop-text : goal.invariant-loop-text
invariant-loop-text g l =
    (l.text-index ≤ length l.fn.texts)
    × (IsPlainFormatter l.fn.f → HasWritten g.W.Write.write_str_gives l.fn.f (flat_map (λ (t : Bor (List ℕ)). t.now) (take l.text-index l.fn.texts)) l.f)
