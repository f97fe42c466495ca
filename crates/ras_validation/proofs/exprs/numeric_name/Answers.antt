use Rattle.std.proofs.Common.{◌∙◌, ap, sym, option_map}
use Rattle.tree_model.specs.Cursor.{range_of}
use Rattle.ras_validation.proofs.NameLemmas.{no_number}
use Rattle.ras_validation.proofs.exprs.numeric_name.Goals as goal

pub returns-else-has_number_as_name : goal.returns-else-has_number_as_name
returns-else-has_number_as_name c = sym (ap (option_map range_of) (no_number c.args.field.now (sym c.has_number_as_name.ensures ∙ c.if-has_number_as_name.false)))
