use Rattle.std.proofs.Common.{◌++◌, arith, refl, true}
use Rattle.std.proofs.Output.{has_written_append, has_written_of_eq}
use Rattle.std.specs.Prelude.{codes}
use Rattle.syntax_indent.proofs.BlankTexts.{blanks_step, blanks_end}
use Rattle.syntax_indent.proofs.level.IndentLevelDisplay.fmt.Goals as goal

pub loop-level-preserved : goal.loop-level-preserved
loop-level-preserved g c = record {
  whole = λ plain.
      let now = c.loop-level.invariant.whole plain in (
        now.0 ++ codes "    ",
        has_written_append _ _ _ _ _ _ now.1 (c.in_ok-write_str.ensures.writes now.1.plain (refl {a = true})),
        blanks_step _ _ _ _ (omega (arith, c.loop-level-test.true)) now.2,
      );
}

pub returns-clause-writes : goal.returns-clause-writes
returns-clause-writes g c = λ plain _.
    let now = c.loop-level.invariant.whole plain in
    has_written_of_eq _ _ _ _ _ (blanks_end now.0 _ _ (omega (arith, c.loop-level-test.false)) now.2) now.1
