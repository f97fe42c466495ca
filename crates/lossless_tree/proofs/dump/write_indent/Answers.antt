use Rattle.std.proofs.Common.{◌+◌, ◌*◌, ◌/◌, arith, refl, true}
use Rattle.std.proofs.Output.{has_written_append, has_written_of_eq}
use Rattle.lossless_tree.proofs.DumpLemmas.{more_spaces}
use Rattle.lossless_tree.proofs.dump.write_indent.Goals as goal

pub loop-eight-preserved : goal.loop-eight-preserved
loop-eight-preserved g c = λ plain.
    let before = c.loop-eight.invariant plain in
    has_written_of_eq _ _ _ _ _ (more_spaces (16 * c.loop-eight._eight) 16 _ (omega arith)) (has_written_append _ _ _ _ _ _ before (c.in_ok-write_str.ensures.writes before.plain (refl {a = true})))

pub loop-one-preserved : goal.loop-one-preserved
loop-one-preserved g c = λ plain.
    let before = c.loop-one.invariant plain in
    has_written_of_eq _ _ _ _ _ (more_spaces (16 * (c.args.level / 8) + 2 * c.loop-one._one) 2 _ (omega arith)) (has_written_append _ _ _ _ _ _ before (c.in_ok-write_str-2.ensures.writes before.plain (refl {a = true})))
