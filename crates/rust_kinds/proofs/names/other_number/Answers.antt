use Rattle.std.proofs.Common.{◌≡◌, ◌∙◌, sym, ap, slice_index_or}
use Rattle.rust_kinds.specs.Names.{name_in_table, place_of}
use Rattle.rust_kinds.specs.declared.names.TheConstants.{NUMBERS}
use Rattle.rust_kinds.proofs.KindNames.{unnamed}
use Rattle.rust_kinds.proofs.names.other_number.Goals as goal

pub returns-in_err-other_name : goal.returns-in_err-other_name
returns-in_err-other_name c =
    let place : c.place_of.result ≡ place_of c.args.name.now = c.place_of.ensures ∙ ap place_of c.as_bytes.ensures.value in
    c.from_residual.ensures ∙ sym (unnamed c.args.name.now
    (ap (λ at. name_in_table (slice_index_or NUMBERS at 0)) (sym place) ∙ c.in_err-other_name.ensures))
