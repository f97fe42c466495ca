use Rattle.std.proofs.Common.{◌≡◌, sym, ap, ◌∙◌, subst, arith, length, refl, Err}
use Rattle.std.specs.Prelude.{⊤}
use Rattle.tree_model.specs.Tree.{Tree, text}
use Rattle.tree_model.specs.Cursor.{Cursor, focus}
use Rattle.tree_model.specs.Edit.{replace}
use Rattle.ras_parsing.specs.Edit.{Edit, edited, edited_at}
use Rattle.ras_front_end.specs.Reading.{reading_of}
use Rattle.ras_front_end.specs.Keeps.{Keeps}
use Rattle.ras_front_end.specs.Parsed.{Parsed, IsParseOf}
use Rattle.ras_parsing.specs.Reparse.{merged}
use Rattle.ras_parsing.specs.Rereading.{IsBlockOf}
use Rattle.ras_parsing.proofs.BuildLemmas.{ok_is}
use Rattle.ras_parsing.proofs.TokenPaths.{root_text}
use Rattle.ras_parsing.proofs.BlockPaths.{IsIn, new_short, new_text, stands, errors_lie, whole_is, placed}
use Rattle.ras_parsing.proofs.reparse.with_block.Goals as goal

pub build_output-requires-clause-short : goal.build_output-requires-clause-short
build_output-requires-clause-short g c =
    let edit : Edit = record { delete = c.args.delete; insert = c.args.insert.now } in
    let w : IsIn c.args.old.now.tree edit c.args.new.node = record { same = c.requires.same_tree; around = c.requires.around } in
    new_short c.args.old.now.tree edit c.args.new.node c.as_str.result.now w c.requires.edit c.requires.short (c.as_str.ensures.value ∙ c.requires.new_text)

pub build_output-requires-clause-keeps : goal.build_output-requires-clause-keeps
build_output-requires-clause-keeps g c = subst (λ s. Keeps (λ root. ⊤) s (reading_of c.args.new.output)) (sym c.as_str.ensures.value) c.requires.keeps

pub unreachable-requires : goal.unreachable-requires
unreachable-requires g c =
    let edit : Edit = record { delete = c.args.delete; insert = c.args.insert.now } in
    let w : IsIn c.args.old.now.tree edit c.args.new.node = record { same = c.requires.same_tree; around = c.requires.around } in
    let u : Tree = focus c.in_ok-built.built.root in
    let t : text u ≡ edited_at c.args.new.node edit = root_text c.in_ok-built.built.root c.in_ok-built.ensures.root ∙ c.in_ok-built.ensures.parsed.text_is ∙ c.as_str.ensures.value ∙ c.requires.new_text in
    let all : text (replace c.args.new.node.tree c.args.new.node.place u) ≡ edited (text c.args.old.now.tree) edit = new_text c.args.old.now.tree edit c.args.new.node u w c.requires.edit t in
    omega (arith, c.replace_with.ensures.too_long.0 (c.in-Err.is ∙ ap Err c.in-TooLong.is), ap length all, c.requires.short)

pub spliced-requires-clause-text : goal.spliced-requires-clause-text
spliced-requires-clause-text g c =
    let edit : Edit = record { delete = c.args.delete; insert = c.args.insert.now } in
    let w : IsIn c.args.old.now.tree edit c.args.new.node = record { same = c.requires.same_tree; around = c.requires.around } in
    let u : Tree = focus c.in_ok-built.built.root in
    let t : text u ≡ edited_at c.args.new.node edit = root_text c.in_ok-built.built.root c.in_ok-built.ensures.root ∙ c.in_ok-built.ensures.parsed.text_is ∙ c.as_str.ensures.value ∙ c.requires.new_text in
    let all : text (replace c.args.new.node.tree c.args.new.node.place u) ≡ edited (text c.args.old.now.tree) edit = new_text c.args.old.now.tree edit c.args.new.node u w c.requires.edit t in
    ap (λ (d : Cursor). text d.tree) c.in-Ok.ensures.ok ∙ all

pub spliced-requires-clause-around : goal.spliced-requires-clause-around
spliced-requires-clause-around g c =
    let edit : Edit = record { delete = c.args.delete; insert = c.args.insert.now } in
    let w : IsIn c.args.old.now.tree edit c.args.new.node = record { same = c.requires.same_tree; around = c.requires.around } in
    stands c.args.old.now.tree edit c.args.new.node c.text_range-range.result w c.text_range-range.ensures

pub spliced-requires-clause-errors : goal.spliced-requires-clause-errors
spliced-requires-clause-errors g c =
    let edit : Edit = record { delete = c.args.delete; insert = c.args.insert.now } in
    let w : IsIn c.args.old.now.tree edit c.args.new.node = record { same = c.requires.same_tree; around = c.requires.around } in
    errors_lie c.args.old.now.tree edit c.args.new.node c.text_range-range.result (text c.in_ok-built.built.root.tree) c.in_ok-built.built.errors.items w c.requires.edit.forwards c.text_range-range.ensures (c.in_ok-built.ensures.parsed.text_is ∙ c.as_str.ensures.value ∙ c.requires.new_text) c.in_ok-built.ensures.in_text

pub returns-clause-new : goal.returns-clause-new
returns-clause-new g c =
    let edit : Edit = record { delete = c.args.delete; insert = c.args.insert.now } in
    let w : IsIn c.args.old.now.tree edit c.args.new.node = record { same = c.requires.same_tree; around = c.requires.around } in
    let piece : Parsed = record { tree = c.in_ok-built.built.root.tree; errors = c.in_ok-built.built.errors.items } in
    let new : Parsed = record { tree = c.in-Ok.root.tree; errors = merged c.args.old.now.errors c.in_ok-built.built.errors.items c.text_range-range.result edit } in
    ok_is c.spliced.result new (IsBlockOf c.args.old.now edit c.args.new.node (reading_of c.args.new.output))
    (record {
      piece = piece;
      is_parse = subst (λ s. IsParseOf s (reading_of c.args.new.output) piece) (c.as_str.ensures.value ∙ c.requires.new_text) c.in_ok-built.ensures.parsed;
      is = placed c.args.old.now edit c.args.new.node c.in-Ok.root (focus c.in_ok-built.built.root) c.in_ok-built.built.root.tree c.text_range-range.result c.in_ok-built.built.errors.items c.in_ok-built.built.errors.items w.same c.in-Ok.ensures.ok (whole_is c.in_ok-built.built.root c.in_ok-built.ensures.root) c.text_range-range.ensures refl;
    })
    c.spliced.ensures.new

pub returns-clause-same_text : goal.returns-clause-same_text
returns-clause-same_text g c =
    let edit : Edit = record { delete = c.args.delete; insert = c.args.insert.now } in
    let w : IsIn c.args.old.now.tree edit c.args.new.node = record { same = c.requires.same_tree; around = c.requires.around } in
    let u : Tree = focus c.in_ok-built.built.root in
    let t : text u ≡ edited_at c.args.new.node edit = root_text c.in_ok-built.built.root c.in_ok-built.ensures.root ∙ c.in_ok-built.ensures.parsed.text_is ∙ c.as_str.ensures.value ∙ c.requires.new_text in
    let all : text (replace c.args.new.node.tree c.args.new.node.place u) ≡ edited (text c.args.old.now.tree) edit = new_text c.args.old.now.tree edit c.args.new.node u w c.requires.edit t in
    let new : Parsed = record { tree = c.in-Ok.root.tree; errors = merged c.args.old.now.errors c.in_ok-built.built.errors.items c.text_range-range.result edit } in
    ok_is c.spliced.result new (λ p. text p.tree ≡ edited (text c.args.old.now.tree) edit) (ap (λ (d : Cursor). text d.tree) c.in-Ok.ensures.ok ∙ all) c.spliced.ensures.new
