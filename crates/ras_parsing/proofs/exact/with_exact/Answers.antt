use Rattle.std.proofs.Common.{◌≡◌, sym, ap, ◌∙◌, subst, arith, length, Err}
use Rattle.std.specs.Prelude.{⊤}
use Rattle.tree_model.specs.Tree.{Tree, text}
use Rattle.text_size.specs.TextRange.{Bounds}
use Rattle.tree_model.specs.Cursor.{Cursor, focus, range_start}
use Rattle.tree_model.specs.Edit.{replace}
use Rattle.ras_parsing.specs.Edit.{Edit, IsEditOf, edited, edited_at}
use Rattle.ras_front_end.specs.Reading.{reading_of}
use Rattle.ras_front_end.specs.Keeps.{Keeps}
use Rattle.ras_front_end.specs.Parsed.{Parsed}
use Rattle.ras_parsing.proofs.TokenPaths.{root_text}
use Rattle.ras_parsing.proofs.BlockPaths.{IsIn, new_short, new_text, stands, errors_lie}
use Rattle.ras_parsing.proofs.BuildLemmas.{ok_along}
use Rattle.ras_parsing.proofs.OrderedInText.{piece_fits}
use Rattle.ras_parsing.proofs.exact.with_exact.Goals as goal

pub build_output-requires-clause-short : goal.build_output-requires-clause-short
build_output-requires-clause-short g c =
    let edit : Edit = record { delete = c.args.delete; insert = c.args.insert.now } in
    let w : IsIn c.args.old.now.tree edit c.args.new.node = record { same = c.requires.same_tree; around = c.requires.around } in
    new_short c.args.old.now.tree edit c.args.new.node c.as_str.result.now w c.requires.edit c.requires.short (c.as_str.ensures.value ∙ c.requires.new_text)

pub build_output-requires-clause-keeps : goal.build_output-requires-clause-keeps
build_output-requires-clause-keeps g c =
    subst (λ s. Keeps (λ root. ⊤) s (reading_of c.args.new.output)) (sym c.as_str.ensures.value) c.requires.keeps

pub unreachable-requires : goal.unreachable-requires
unreachable-requires g c =
    let edit : Edit = record { delete = c.args.delete; insert = c.args.insert.now } in
    let w : IsIn c.args.old.now.tree edit c.args.new.node = record { same = c.requires.same_tree; around = c.requires.around } in
    let u : Tree = focus c.in_ok-built.built.root in
    let t : text u ≡ edited_at c.args.new.node edit = root_text c.in_ok-built.built.root c.in_ok-built.ensures.root ∙ c.in_ok-built.ensures.parsed.text_is ∙ c.as_str.ensures.value ∙ c.requires.new_text in
    let all : text (replace c.args.new.node.tree c.args.new.node.place u) ≡ edited (text c.args.old.now.tree) edit = new_text c.args.old.now.tree edit c.args.new.node u w c.requires.edit t in
    omega (arith, c.replace_with.ensures.too_long.0 (c.in-Err.is ∙ ap Err c.in-TooLong.is), ap length all, c.requires.short)

pub spliced-requires-clause-text : goal.spliced-requires-clause-text
spliced-requires-clause-text g c =
    let edit : Edit = record { delete = c.args.delete; insert = c.args.insert.now } in
    let w : IsIn c.args.old.now.tree edit c.args.new.node = record { same = c.requires.same_tree; around = c.requires.around } in
    let u : Tree = focus c.in_ok-built.built.root in
    let t : text u ≡ edited_at c.args.new.node edit = root_text c.in_ok-built.built.root c.in_ok-built.ensures.root ∙ c.in_ok-built.ensures.parsed.text_is ∙ c.as_str.ensures.value ∙ c.requires.new_text in
    let all : text (replace c.args.new.node.tree c.args.new.node.place u) ≡ edited (text c.args.old.now.tree) edit = new_text c.args.old.now.tree edit c.args.new.node u w c.requires.edit t in
    ap (λ (d : Cursor). text d.tree) c.in-Ok.ensures.ok ∙ all

pub spliced-requires-clause-around : goal.spliced-requires-clause-around
spliced-requires-clause-around g c =
    let edit : Edit = record { delete = c.args.delete; insert = c.args.insert.now } in
    let w : IsIn c.args.old.now.tree edit c.args.new.node = record { same = c.requires.same_tree; around = c.requires.around } in
    stands c.args.old.now.tree edit c.args.new.node c.text_range-replaced.result w c.text_range-replaced.ensures

pub spliced-requires-clause-errors : goal.spliced-requires-clause-errors
spliced-requires-clause-errors g c =
    let edit : Edit = record { delete = c.args.delete; insert = c.args.insert.now } in
    let w : IsIn c.args.old.now.tree edit c.args.new.node = record { same = c.requires.same_tree; around = c.requires.around } in
    errors_lie c.args.old.now.tree edit c.args.new.node c.text_range-replaced.result (text c.in_ok-built.built.root.tree) c.in_ok-built.built.errors.items w c.requires.edit.forwards c.text_range-replaced.ensures (c.in_ok-built.ensures.parsed.text_is ∙ c.as_str.ensures.value ∙ c.requires.new_text) c.in_ok-built.ensures.in_text

pub range_from-range-requires : goal.range_from-range-requires
range_from-range-requires g c =
    let edit : Edit = record { delete = c.args.delete; insert = c.args.insert.now } in
    let starts : c.start.result ≡ range_start c.args.new.node = c.start.ensures.value ∙ ap (λ (b : Bounds). b.start) c.text_range-replaced.ensures in
    let ends : length c.as_str-2.result.now ≡ length (edited_at c.args.new.node edit) = ap length (c.as_str-2.ensures.value ∙ c.requires.new_text) in
    let fits = piece_fits c.args.new.node edit c.requires.around (subst (λ (t : Tree). IsEditOf (text t) edit) (sym c.requires.same_tree) c.requires.edit) in
    let whole : length (edited (text c.args.new.node.tree) edit) ≡ length (edited (text c.args.old.now.tree) edit) = ap (λ (t : Tree). length (edited (text t) edit)) c.requires.same_tree in
    omega (arith, starts, ends, fits, whole, c.requires.short)

pub returns-clause-same_text : goal.returns-clause-same_text
returns-clause-same_text g c =
    let edit : Edit = record { delete = c.args.delete; insert = c.args.insert.now } in
    let w : IsIn c.args.old.now.tree edit c.args.new.node = record { same = c.requires.same_tree; around = c.requires.around } in
    let u : Tree = focus c.in_ok-built.built.root in
    let t : text u ≡ edited_at c.args.new.node edit = root_text c.in_ok-built.built.root c.in_ok-built.ensures.root ∙ c.in_ok-built.ensures.parsed.text_is ∙ c.as_str.ensures.value ∙ c.requires.new_text in
    let all : text (replace c.args.new.node.tree c.args.new.node.place u) ≡ edited (text c.args.old.now.tree) edit = new_text c.args.old.now.tree edit c.args.new.node u w c.requires.edit t in
    ok_along c.spliced.result _ (λ n. text n.parse.tree ≡ edited (text c.args.old.now.tree) edit) (λ n e. ap (λ (p : Parsed). text p.tree) e ∙ ap (λ (d : Cursor). text d.tree) c.in-Ok.ensures.ok ∙ all) c.spliced.ensures.parse
