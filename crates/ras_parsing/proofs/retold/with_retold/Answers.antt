use Rattle.std.proofs.Common.{◌≡◌, [], take, sym, ap, ◌∙◌, subst, arith, length, Err}
use Rattle.tree_model.specs.Tree.{Tree, token, text}
use Rattle.text_size.specs.TextRange.{Bounds}
use Rattle.tree_model.specs.Cursor.{Cursor, range_start}
use Rattle.tree_model.specs.Edit.{replace}
use Rattle.ras_parsing.specs.Edit.{Edit, IsEditOf, edited, edited_at}
use Rattle.ras_parsing.specs.Reparse.{kind_at}
use Rattle.ras_parsing.specs.Document.{all_in_order, in_order, IsRetoldOf}
use Rattle.ras_front_end.specs.Parsed.{Parsed}
use Rattle.ras_parsing.proofs.BuildLemmas.{ok_along, ok_both}
use Rattle.ras_parsing.proofs.BlockPaths.{IsIn, token_in, new_text, stands}
use Rattle.ras_parsing.proofs.OrderedInText.{piece_fits}
use Rattle.ras_parsing.proofs.retold.with_retold.Goals as goal

pub unreachable-requires : goal.unreachable-requires
unreachable-requires g c =
    let edit : Edit = record { delete = c.args.delete; insert = c.args.insert.now } in
    let w : IsIn c.args.old.now.tree edit c.args.new.token = token_in c.args.old.now.tree edit c.args.new.token c.requires.edit c.requires.covers in
    let u : Tree = token c.kind.result c.as_str.result.now in
    let t : text u ≡ edited_at c.args.new.token edit = c.as_str.ensures.value ∙ c.requires.text in
    let all : text (replace c.args.new.token.tree c.args.new.token.place u) ≡ edited (text c.args.old.now.tree) edit = new_text c.args.old.now.tree edit c.args.new.token u w c.requires.edit t in
    omega (arith, c.replace_with.ensures.too_long.0 (c.in-Err.is ∙ ap Err c.in-TooLong.is), ap length all, c.requires.short)

pub range_from-range-requires : goal.range_from-range-requires
range_from-range-requires g c =
    let edit : Edit = record { delete = c.args.delete; insert = c.args.insert.now } in
    let w : IsIn c.args.old.now.tree edit c.args.new.token = token_in c.args.old.now.tree edit c.args.new.token c.requires.edit c.requires.covers in
    let starts : c.start.result ≡ range_start c.args.new.token = c.start.ensures.value ∙ ap (λ (b : Bounds). b.start) c.text_range-replaced.ensures in
    let ends : length c.as_str-2.result.now ≡ length (edited_at c.args.new.token edit) = ap length (c.as_str-2.ensures.value ∙ c.requires.text) in
    let fits = piece_fits c.args.new.token edit w.around (subst (λ (t : Tree). IsEditOf (text t) edit) (sym w.same) c.requires.edit) in
    let whole : length (edited (text c.args.new.token.tree) edit) ≡ length (edited (text c.args.old.now.tree) edit) = ap (λ (t : Tree). length (edited (text t) edit)) w.same in
    omega (arith, starts, ends, fits, whole, c.requires.short)

pub spliced-requires-clause-text : goal.spliced-requires-clause-text
spliced-requires-clause-text g c =
    let edit : Edit = record { delete = c.args.delete; insert = c.args.insert.now } in
    let w : IsIn c.args.old.now.tree edit c.args.new.token = token_in c.args.old.now.tree edit c.args.new.token c.requires.edit c.requires.covers in
    let u : Tree = token c.kind.result c.as_str.result.now in
    let t : text u ≡ edited_at c.args.new.token edit = c.as_str.ensures.value ∙ c.requires.text in
    let all : text (replace c.args.new.token.tree c.args.new.token.place u) ≡ edited (text c.args.old.now.tree) edit = new_text c.args.old.now.tree edit c.args.new.token u w c.requires.edit t in
    ap (λ (d : Cursor). text d.tree) c.in-Ok.ensures.ok ∙ all

pub spliced-requires-clause-around : goal.spliced-requires-clause-around
spliced-requires-clause-around g c =
    let edit : Edit = record { delete = c.args.delete; insert = c.args.insert.now } in
    let w : IsIn c.args.old.now.tree edit c.args.new.token = token_in c.args.old.now.tree edit c.args.new.token c.requires.edit c.requires.covers in
    stands c.args.old.now.tree edit c.args.new.token c.text_range-replaced.result w c.text_range-replaced.ensures

pub returns-clause-new : goal.returns-clause-new
returns-clause-new g c =
    let old = c.args.old.now in
    let c' = c.args.new.token in
    let edit : Edit = record { delete = c.args.delete; insert = c.args.insert.now } in
    let w : IsIn old.tree edit c' = token_in old.tree edit c' c.requires.edit c.requires.covers in
    let its_text : c.as_str.result.now ≡ edited_at c' edit = c.as_str.ensures.value ∙ c.requires.text in
    let its_tree : c.in-Ok.root.tree ≡ replace old.tree c'.place (token (kind_at c') (edited_at c' edit)) =
    ap (λ (d : Cursor). d.tree) c.in-Ok.ensures.ok ∙ ap (λ (t : Tree). replace t c'.place (token c.kind.result c.as_str.result.now)) w.same
    ∙ ap (λ k. replace old.tree c'.place (token k c.as_str.result.now)) c.kind.ensures ∙ ap (λ s. replace old.tree c'.place (token (kind_at c') s)) its_text in
    ok_both c.spliced.result _ _ (λ n. IsRetoldOf old c.args.count edit c' n.parse n.parser_errors) (λ n p q. record {
      in_old = w.same;
      is_around = w.around;
      tree_is = ap (λ (x : Parsed). x.tree) p ∙ its_tree;
      errors_are = ap (λ (x : Parsed). x.errors) p ∙ ap (λ fs. all_in_order c.args.count 0 old.errors fs c.text_range-replaced.result edit) c.new-none.ensures.items ∙ ap (λ r. all_in_order c.args.count 0 old.errors [] r edit) c.text_range-replaced.ensures;
      count_is = q ∙ ap (λ r. length (in_order (take c.args.count old.errors) [] r edit)) c.text_range-replaced.ensures;
    }) c.spliced.ensures.parse c.spliced.ensures.count

pub returns-clause-same_text : goal.returns-clause-same_text
returns-clause-same_text g c =
    let edit : Edit = record { delete = c.args.delete; insert = c.args.insert.now } in
    let w : IsIn c.args.old.now.tree edit c.args.new.token = token_in c.args.old.now.tree edit c.args.new.token c.requires.edit c.requires.covers in
    let u : Tree = token c.kind.result c.as_str.result.now in
    let t : text u ≡ edited_at c.args.new.token edit = c.as_str.ensures.value ∙ c.requires.text in
    let all : text (replace c.args.new.token.tree c.args.new.token.place u) ≡ edited (text c.args.old.now.tree) edit = new_text c.args.old.now.tree edit c.args.new.token u w c.requires.edit t in
    ok_along c.spliced.result _ (λ n. text n.parse.tree ≡ edited (text c.args.old.now.tree) edit) (λ n e. ap (λ (p : Parsed). text p.tree) e ∙ ap (λ (d : Cursor). text d.tree) c.in-Ok.ensures.ok ∙ all) c.spliced.ensures.parse
