use Rattle.std.proofs.Common.{◌≡◌, sym, ap, ◌∙◌, subst, arith, length, Err}
use Rattle.std.specs.Prelude.{All}
use Rattle.tree_model.specs.Tree.{Tree, token, text}
use Rattle.tree_model.specs.Cursor.{Cursor}
use Rattle.tree_model.specs.Edit.{replace}
use Rattle.ras_parsing.specs.Edit.{Edit, edited, edited_at}
use Rattle.ras_front_end.specs.ErrorModel.{LiesIn}
use Rattle.ras_front_end.specs.Parsed.{Parsed}
use Rattle.ras_parsing.specs.Reparse.{merged}
use Rattle.ras_parsing.proofs.BuildLemmas.{ok_is}
use Rattle.ras_parsing.proofs.BlockPaths.{IsIn, token_in, new_short, new_text, stands, errors_lie, token_faults_lie}
use Rattle.ras_parsing.proofs.reparse.with_token.Goals as goal

pub token_errors-requires : goal.token_errors-requires
token_errors-requires g c =
    let edit : Edit = record { delete = c.args.delete; insert = c.args.insert.now } in
    let w : IsIn c.args.old.now.tree edit c.args.new.token = token_in c.args.old.now.tree edit c.args.new.token c.requires.edit c.requires.covers in
    new_short c.args.old.now.tree edit c.args.new.token c.as_str.result.now w c.requires.edit c.requires.short (c.as_str.ensures.value ∙ c.requires.text)

pub unreachable-requires : goal.unreachable-requires
unreachable-requires g c =
    let edit : Edit = record { delete = c.args.delete; insert = c.args.insert.now } in
    let w : IsIn c.args.old.now.tree edit c.args.new.token = token_in c.args.old.now.tree edit c.args.new.token c.requires.edit c.requires.covers in
    let u : Tree = token c.kind.result c.as_str-2.result.now in
    let t : text u ≡ edited_at c.args.new.token edit = c.as_str-2.ensures.value ∙ c.requires.text in
    let all : text (replace c.args.new.token.tree c.args.new.token.place u) ≡ edited (text c.args.old.now.tree) edit = new_text c.args.old.now.tree edit c.args.new.token u w c.requires.edit t in
    omega (arith, c.replace_with.ensures.too_long.0 (c.in-Err.is ∙ ap Err c.in-TooLong.is), ap length all, c.requires.short)

pub spliced-requires-clause-text : goal.spliced-requires-clause-text
spliced-requires-clause-text g c =
    let edit : Edit = record { delete = c.args.delete; insert = c.args.insert.now } in
    let w : IsIn c.args.old.now.tree edit c.args.new.token = token_in c.args.old.now.tree edit c.args.new.token c.requires.edit c.requires.covers in
    let u : Tree = token c.kind.result c.as_str-2.result.now in
    let t : text u ≡ edited_at c.args.new.token edit = c.as_str-2.ensures.value ∙ c.requires.text in
    let all : text (replace c.args.new.token.tree c.args.new.token.place u) ≡ edited (text c.args.old.now.tree) edit = new_text c.args.old.now.tree edit c.args.new.token u w c.requires.edit t in
    ap (λ (d : Cursor). text d.tree) c.in-Ok.ensures.ok ∙ all

pub spliced-requires-clause-around : goal.spliced-requires-clause-around
spliced-requires-clause-around g c =
    let edit : Edit = record { delete = c.args.delete; insert = c.args.insert.now } in
    let w : IsIn c.args.old.now.tree edit c.args.new.token = token_in c.args.old.now.tree edit c.args.new.token c.requires.edit c.requires.covers in
    stands c.args.old.now.tree edit c.args.new.token c.text_range-range.result w c.text_range-range.ensures

pub spliced-requires-clause-errors : goal.spliced-requires-clause-errors
spliced-requires-clause-errors g c =
    let edit : Edit = record { delete = c.args.delete; insert = c.args.insert.now } in
    let w : IsIn c.args.old.now.tree edit c.args.new.token = token_in c.args.old.now.tree edit c.args.new.token c.requires.edit c.requires.covers in
    errors_lie c.args.old.now.tree edit c.args.new.token c.text_range-range.result c.as_str.result.now c.in_ok-errors.errors.items w c.requires.edit.forwards c.text_range-range.ensures (c.as_str.ensures.value ∙ c.requires.text)
    (subst (All (LiesIn (length c.as_str.result.now))) (sym c.in_ok-errors.ensures) (token_faults_lie c.as_str.result.now _))

pub returns-clause-same_text : goal.returns-clause-same_text
returns-clause-same_text g c =
    let edit : Edit = record { delete = c.args.delete; insert = c.args.insert.now } in
    let w : IsIn c.args.old.now.tree edit c.args.new.token = token_in c.args.old.now.tree edit c.args.new.token c.requires.edit c.requires.covers in
    let u : Tree = token c.kind.result c.as_str-2.result.now in
    let t : text u ≡ edited_at c.args.new.token edit = c.as_str-2.ensures.value ∙ c.requires.text in
    let all : text (replace c.args.new.token.tree c.args.new.token.place u) ≡ edited (text c.args.old.now.tree) edit = new_text c.args.old.now.tree edit c.args.new.token u w c.requires.edit t in
    let new : Parsed = record { tree = c.in-Ok.root.tree; errors = merged c.args.old.now.errors c.in_ok-errors.errors.items c.text_range-range.result edit } in
    ok_is c.spliced.result new (λ p. text p.tree ≡ edited (text c.args.old.now.tree) edit) (ap (λ (d : Cursor). text d.tree) c.in-Ok.ensures.ok ∙ all) c.spliced.ensures.new
