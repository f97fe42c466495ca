use Rattle.std.proofs.Common.{ap, sym, ◌∙◌}
use Rattle.std.proofs.Output.{has_written_of_eq}
use Rattle.std.specs.List.{flat_map}
use Rattle.lossless_tree.specs.Dump.{escaped}
use Rattle.lossless_tree.proofs.DumpLemmas.{plain_whole, shortest_front-whole}
use Rattle.lossless_tree.proofs.quoted.write_whole.Goals as goal

pub returns-then-is_all_plain : goal.returns-then-is_all_plain
returns-then-is_all_plain g c = λ plain ok.
    has_written_of_eq _ _ _ _ _ (plain_whole c.args.text.now c.utf8.text (sym c.is_all_plain.ensures ∙ c.if-is_all_plain.true)) (c.write_str.ensures.writes plain ok)

pub returns-else-is_all_plain : goal.returns-else-is_all_plain
returns-else-is_all_plain g c = λ plain ok.
    has_written_of_eq _ _ _ _ _ (ap (flat_map escaped) (shortest_front-whole c.args.text.now c.utf8.text)) (c.write_front.ensures plain ok)
