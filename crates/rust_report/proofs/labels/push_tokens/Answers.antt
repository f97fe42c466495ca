use Rattle.std.proofs.Common.{◌≡◌, true, map, string_bytes, sym, ◌∙◌, ap}
use Rattle.lossless_tree.specs.Element.{element_of}
use Rattle.tree_model.specs.Cursor.{descendants_of}
use Rattle.rust_report.specs.Labels.{is_full, with_elements}
use Rattle.rust_report.proofs.LabelsLemmas.{filled}
use Rattle.rust_report.proofs.labels.push_tokens.Goals as goal

pub returns-then-is_full : goal.returns-then-is_full
returns-then-is_full c =
    let h : is_full (string_bytes c.loop-element.line) ≡ true = ap is_full (sym c.deref.ensures) ∙ sym c.is_full.ensures ∙ c.if-is_full.true in
    filled (string_bytes c.loop-element.line, c.loop-element.gap) (map element_of c.loop-element.element-iterator) (with_elements (string_bytes c.args.line.now, c.args.gap) (map element_of (descendants_of c.args.node.now))) h c.loop-element.invariant.2
