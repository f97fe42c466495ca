use Rattle.std.proofs.Common.{◌≡◌, ℕ, List, sym, ap, ◌∙◌, subst, arith, length}
use Rattle.std.specs.Prelude.{string_bytes, drop}
use Rattle.text_size.specs.TextRange.{Bounds}
use Rattle.tree_model.specs.Tree.{Tree, text, IsToken}
use Rattle.tree_model.specs.Cursor.{Cursor, focus, range_start, range_of}
use Rattle.ras_front_end.specs.declared.edition.Edition.{Edition}
use Rattle.exact_front.specs.Exact.{Exact}
use Rattle.ras_parsing.specs.Edit.{Edit, IsEditOf, covered}
use Rattle.ras_parsing.specs.Document.{window_around, StandsAlone, is_retold_in}
use Rattle.ras_parsing.specs.ExactSteps.{IsRetoldToken}
use Rattle.ras_parsing.proofs.Around.{boundary_at, edited_is}
use Rattle.ras_parsing.proofs.Windows.{IsCovering, is_covering, retold_found}
use Rattle.ras_parsing.proofs.retold.token_path.Goals as goal

pub window_around-window-requires-clause-within : goal.window_around-window-requires-clause-within
window_around-window-requires-clause-within g c =
    (is_covering c.args.old.now.tree (record { delete = c.args.delete; insert = c.args.insert.now }) c.root-root.result.now c.covering_element.result c.into_token.result c.in-Some.token c.text_range-range.result c.as_str.result.now
    c.root-root.ensures c.requires.edit c.covering_element.ensures c.into_token.ensures c.in-Some.is c.token_is_placed.ensures.placed c.text_range-range.ensures c.as_str.ensures).within

pub window_around-window-requires-clause-short : goal.window_around-window-requires-clause-short
window_around-window-requires-clause-short g c =
    (is_covering c.args.old.now.tree (record { delete = c.args.delete; insert = c.args.insert.now }) c.root-root.result.now c.covering_element.result c.into_token.result c.in-Some.token c.text_range-range.result c.as_str.result.now
    c.root-root.ensures c.requires.edit c.covering_element.ensures c.into_token.ensures c.in-Some.is c.token_is_placed.ensures.placed c.text_range-range.ensures c.as_str.ensures).short

pub stands_alone-requires : goal.stands_alone-requires
stands_alone-requires g c =
    let w = (is_covering c.args.old.now.tree (record { delete = c.args.delete; insert = c.args.insert.now }) c.root-root.result.now c.covering_element.result c.into_token.result c.in-Some.token c.text_range-range.result c.as_str.result.now
    c.root-root.ensures c.requires.edit c.covering_element.ensures c.into_token.ensures c.in-Some.is c.token_is_placed.ensures.placed c.text_range-range.ensures c.as_str.ensures) in
    let early = c.window_around-window.ensures.early in
    let short = w.short in
    let within = w.within in
    let ordered = c.token_is_placed.ensures.placed.short in
    omega (arith, early, short, within, c.text_range-range.type_inv)

pub is_retold-requires-clause-around : goal.is_retold-requires-clause-around
is_retold-requires-clause-around g c =
    let w = (is_covering c.args.old.now.tree (record { delete = c.args.delete; insert = c.args.insert.now }) c.root-root.result.now c.covering_element.result c.into_token.result c.in-Some.token c.text_range-range.result c.as_str.result.now
    c.root-root.ensures c.requires.edit c.covering_element.ensures c.into_token.ensures c.in-Some.is c.token_is_placed.ensures.placed c.text_range-range.ensures c.as_str.ensures) in
    let starts = ap (λ (b : Bounds). b.start) w.range_is in
    let ends = ap (λ (b : Bounds). b.end) w.range_is in
    let begun = w.around.begun in
    let ended = w.around.ended in
    (omega (arith, starts, begun), omega (arith, ends, ended))

pub edited_text-requires-clause-begun : goal.edited_text-requires-clause-begun
edited_text-requires-clause-begun g c =
    let w = (is_covering c.args.old.now.tree (record { delete = c.args.delete; insert = c.args.insert.now }) c.root-root.result.now c.covering_element.result c.into_token.result c.in-Some.token c.text_range-range.result c.as_str.result.now
    c.root-root.ensures c.requires.edit c.covering_element.ensures c.into_token.ensures c.in-Some.is c.token_is_placed.ensures.placed c.text_range-range.ensures c.as_str.ensures) in
    let starts : c.start.result ≡ range_start c.in-Some.token = c.start.ensures.value ∙ ap (λ (b : Bounds). b.start) c.text_range-range.ensures in
    let begun = w.around.begun in
    omega (arith, begun, starts)

pub edited_text-requires-clause-ended : goal.edited_text-requires-clause-ended
edited_text-requires-clause-ended g c =
    let w = (is_covering c.args.old.now.tree (record { delete = c.args.delete; insert = c.args.insert.now }) c.root-root.result.now c.covering_element.result c.into_token.result c.in-Some.token c.text_range-range.result c.as_str.result.now
    c.root-root.ensures c.requires.edit c.covering_element.ensures c.into_token.ensures c.in-Some.is c.token_is_placed.ensures.placed c.text_range-range.ensures c.as_str.ensures) in
    let starts : c.start.result ≡ range_start c.in-Some.token = c.start.ensures.value ∙ ap (λ (b : Bounds). b.start) c.text_range-range.ensures in
    let ended = w.around.ended in
    omega (arith, ended, starts, ap length c.text.ensures)

pub edited_text-requires-clause-start_boundary : goal.edited_text-requires-clause-start_boundary
edited_text-requires-clause-start_boundary g c =
    let w = (is_covering c.args.old.now.tree (record { delete = c.args.delete; insert = c.args.insert.now }) c.root-root.result.now c.covering_element.result c.into_token.result c.in-Some.token c.text_range-range.result c.as_str.result.now
    c.root-root.ensures c.requires.edit c.covering_element.ensures c.into_token.ensures c.in-Some.is c.token_is_placed.ensures.placed c.text_range-range.ensures c.as_str.ensures) in
    let starts : c.start.result ≡ range_start c.in-Some.token = c.start.ensures.value ∙ ap (λ (b : Bounds). b.start) c.text_range-range.ensures in
    let same : text c.args.old.now.tree ≡ text c.in-Some.token.tree = ap (λ (d : Cursor). text d.tree) (sym w.same) in
    let ended = w.around.ended in
    let forwards = c.requires.edit.forwards in
    boundary_at c.in-Some.token c.args.delete.start c.start.result c.text.result.now (text c.args.old.now.tree) w.around.is_place c.text.ensures starts same w.around.begun (omega (arith, ended, forwards)) c.requires.edit.start_boundary

pub edited_text-requires-clause-end_boundary : goal.edited_text-requires-clause-end_boundary
edited_text-requires-clause-end_boundary g c =
    let w = (is_covering c.args.old.now.tree (record { delete = c.args.delete; insert = c.args.insert.now }) c.root-root.result.now c.covering_element.result c.into_token.result c.in-Some.token c.text_range-range.result c.as_str.result.now
    c.root-root.ensures c.requires.edit c.covering_element.ensures c.into_token.ensures c.in-Some.is c.token_is_placed.ensures.placed c.text_range-range.ensures c.as_str.ensures) in
    let starts : c.start.result ≡ range_start c.in-Some.token = c.start.ensures.value ∙ ap (λ (b : Bounds). b.start) c.text_range-range.ensures in
    let same : text c.args.old.now.tree ≡ text c.in-Some.token.tree = ap (λ (d : Cursor). text d.tree) (sym w.same) in
    let begun = w.around.begun in
    let forwards = c.requires.edit.forwards in
    boundary_at c.in-Some.token c.args.delete.end c.start.result c.text.result.now (text c.args.old.now.tree) w.around.is_place c.text.ensures starts same (omega (arith, begun, forwards)) w.around.ended c.requires.edit.end_boundary

pub returns : goal.returns
returns g c =
    let edit : Edit = record { delete = c.args.delete; insert = c.args.insert.now } in
    let w = (is_covering c.args.old.now.tree (record { delete = c.args.delete; insert = c.args.insert.now }) c.root-root.result.now c.covering_element.result c.into_token.result c.in-Some.token c.text_range-range.result c.as_str.result.now
    c.root-root.ensures c.requires.edit c.covering_element.ensures c.into_token.ensures c.in-Some.is c.token_is_placed.ensures.placed c.text_range-range.ensures c.as_str.ensures) in
    let starts : c.start.result ≡ range_start c.in-Some.token = c.start.ensures.value ∙ ap (λ (b : Bounds). b.start) c.text_range-range.ensures in
    let root_text : c.as_str.result.now ≡ text c.args.old.now.tree = w.text_is in
    retold_found (g.F.ExactFront.exact c.args.front.now) c.args.edition c.args.old.now c.args.count edit c.in-Some.token c.text_range-range.result c.as_str.result.now c.window_around-window.result (string_bytes c.in_ok-text.text)
    w c.window_around-window.ensures.value
    (ap (g.F.ExactFront.exact c.args.front.now).has_head (c.as_str.ensures ∙ sym c.as_str-2.ensures) ∙ sym c.has_head.ensures ∙ c.if-has_head.false)
    (c.stands_alone.ensures.0 c.if-not-stands_alone.false)
    (ap (λ (s : List ℕ). is_retold_in (g.F.ExactFront.exact c.args.front.now) c.args.edition s c.window_around-window.result c.text_range-range.result edit) (c.as_str.ensures ∙ sym c.as_str-3.ensures) ∙ sym c.in_ok-is_retold.ensures ∙ c.if-not-branch.false)
    (edited_is c.in-Some.token edit (string_bytes c.in_ok-text.text) c.text.result.now c.start.result c.in_ok-text.ensures c.text.ensures starts)
