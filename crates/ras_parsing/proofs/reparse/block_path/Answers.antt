use Rattle.std.proofs.Common.{◌≡◌, sym, ap, ◌∙◌, arith, length}
use Rattle.std.specs.Prelude.{string_bytes}
use Rattle.std.proofs.lemmas.Str.{IsUtf8-string_bytes}
use Rattle.text_size.specs.TextRange.{Bounds}
use Rattle.tree_model.specs.Tree.{text}
use Rattle.tree_model.specs.Cursor.{range_start}
use Rattle.ras_front_end.specs.Balanced.{IsBalanced}
use Rattle.ras_front_end.specs.Reading.{reading_of}
use Rattle.ras_parsing.specs.Edit.{Edit, edited_at}
use Rattle.ras_parsing.specs.Reparse.{nodes_around}
use Rattle.ras_parsing.proofs.Around.{boundary_at, edited_is}
use Rattle.ras_parsing.proofs.TokenPaths.{around_is}
use Rattle.ras_parsing.proofs.BlockPaths.{IsIn, nearest_in, is_block, not_found, not_balanced, Reads, nothing_found, found_path}
use Rattle.ras_parsing.proofs.reparse.block_path.Goals as goal

pub edited_text-requires-clause-begun : goal.edited_text-requires-clause-begun
edited_text-requires-clause-begun g c =
    let edit : Edit = record { delete = c.args.delete; insert = c.args.insert.now } in
    let around : c.ancestors-nodes.result ≡ nodes_around c.args.root.now.tree edit = c.ancestors-nodes.ensures ∙ around_is c.args.root.now edit c.covering_element.result c.requires.root c.covering_element.ensures in
    let w : IsIn c.args.root.now.tree edit c.in-Some.found.0 = nearest_in (g.F.FrontEnd.answers c.args.front.now) c.args.root.now.tree edit c.ancestors-nodes.result c.first_reparsable.result c.in-Some.found.0 c.in-Some.found.1 c.requires.edit around c.first_reparsable.ensures c.in-Some.is c.node_is_placed.ensures.placed.is_place in
    let starts : c.start-start.result ≡ range_start c.in-Some.found.0 = c.start-start.ensures.value ∙ ap (λ (b : Bounds). b.start) c.text_range.ensures in
    omega (arith, w.around.begun, starts)

pub edited_text-requires-clause-ended : goal.edited_text-requires-clause-ended
edited_text-requires-clause-ended g c =
    let edit : Edit = record { delete = c.args.delete; insert = c.args.insert.now } in
    let around : c.ancestors-nodes.result ≡ nodes_around c.args.root.now.tree edit = c.ancestors-nodes.ensures ∙ around_is c.args.root.now edit c.covering_element.result c.requires.root c.covering_element.ensures in
    let w : IsIn c.args.root.now.tree edit c.in-Some.found.0 = nearest_in (g.F.FrontEnd.answers c.args.front.now) c.args.root.now.tree edit c.ancestors-nodes.result c.first_reparsable.result c.in-Some.found.0 c.in-Some.found.1 c.requires.edit around c.first_reparsable.ensures c.in-Some.is c.node_is_placed.ensures.placed.is_place in
    let starts : c.start-start.result ≡ range_start c.in-Some.found.0 = c.start-start.ensures.value ∙ ap (λ (b : Bounds). b.start) c.text_range.ensures in
    omega (arith, w.around.ended, starts, ap length c.as_str.ensures)

pub edited_text-requires-clause-start_boundary : goal.edited_text-requires-clause-start_boundary
edited_text-requires-clause-start_boundary g c =
    let edit : Edit = record { delete = c.args.delete; insert = c.args.insert.now } in
    let around : c.ancestors-nodes.result ≡ nodes_around c.args.root.now.tree edit = c.ancestors-nodes.ensures ∙ around_is c.args.root.now edit c.covering_element.result c.requires.root c.covering_element.ensures in
    let w : IsIn c.args.root.now.tree edit c.in-Some.found.0 = nearest_in (g.F.FrontEnd.answers c.args.front.now) c.args.root.now.tree edit c.ancestors-nodes.result c.first_reparsable.result c.in-Some.found.0 c.in-Some.found.1 c.requires.edit around c.first_reparsable.ensures c.in-Some.is c.node_is_placed.ensures.placed.is_place in
    let starts : c.start-start.result ≡ range_start c.in-Some.found.0 = c.start-start.ensures.value ∙ ap (λ (b : Bounds). b.start) c.text_range.ensures in
    let same : text c.args.root.now.tree ≡ text c.in-Some.found.0.tree = ap text (sym w.same) in
    boundary_at c.in-Some.found.0 c.args.delete.start c.start-start.result c.as_str.result.now (text c.args.root.now.tree) w.around.is_place c.as_str.ensures starts same w.around.begun (omega (arith, w.around.ended, c.requires.edit.forwards)) c.requires.edit.start_boundary

pub edited_text-requires-clause-end_boundary : goal.edited_text-requires-clause-end_boundary
edited_text-requires-clause-end_boundary g c =
    let edit : Edit = record { delete = c.args.delete; insert = c.args.insert.now } in
    let around : c.ancestors-nodes.result ≡ nodes_around c.args.root.now.tree edit = c.ancestors-nodes.ensures ∙ around_is c.args.root.now edit c.covering_element.result c.requires.root c.covering_element.ensures in
    let w : IsIn c.args.root.now.tree edit c.in-Some.found.0 = nearest_in (g.F.FrontEnd.answers c.args.front.now) c.args.root.now.tree edit c.ancestors-nodes.result c.first_reparsable.result c.in-Some.found.0 c.in-Some.found.1 c.requires.edit around c.first_reparsable.ensures c.in-Some.is c.node_is_placed.ensures.placed.is_place in
    let starts : c.start-start.result ≡ range_start c.in-Some.found.0 = c.start-start.ensures.value ∙ ap (λ (b : Bounds). b.start) c.text_range.ensures in
    let same : text c.args.root.now.tree ≡ text c.in-Some.found.0.tree = ap text (sym w.same) in
    boundary_at c.in-Some.found.0 c.args.delete.end c.start-start.result c.as_str.result.now (text c.args.root.now.tree) w.around.is_place c.as_str.ensures starts same (omega (arith, w.around.begun, c.requires.edit.forwards)) w.around.ended c.requires.edit.end_boundary

pub returns-in-None : goal.returns-in-None
returns-in-None g c =
    let edit : Edit = record { delete = c.args.delete; insert = c.args.insert.now } in
    let around : c.ancestors-nodes.result ≡ nodes_around c.args.root.now.tree edit = c.ancestors-nodes.ensures ∙ around_is c.args.root.now edit c.covering_element.result c.requires.root c.covering_element.ensures in
    not_found (g.F.FrontEnd.answers c.args.front.now) c.args.edition c.args.root.now.tree edit c.ancestors-nodes.result c.first_reparsable.result around c.first_reparsable.ensures c.in-None.is

pub returns-in-None-2 : goal.returns-in-None-2
returns-in-None-2 g c =
    let edit : Edit = record { delete = c.args.delete; insert = c.args.insert.now } in
    let around : c.ancestors-nodes.result ≡ nodes_around c.args.root.now.tree edit = c.ancestors-nodes.ensures ∙ around_is c.args.root.now edit c.covering_element.result c.requires.root c.covering_element.ensures in
    let starts : c.start-start.result ≡ range_start c.in-Some.found.0 = c.start-start.ensures.value ∙ ap (λ (b : Bounds). b.start) c.text_range.ensures in
    let new : string_bytes c.in_ok-text.text ≡ edited_at c.in-Some.found.0 edit = edited_is c.in-Some.found.0 edit (string_bytes c.in_ok-text.text) c.as_str.result.now c.start-start.result c.in_ok-text.ensures c.as_str.ensures starts in
    let front = g.F.FrontEnd.answers c.args.front.now in
    let read = c.as_str-2.result.now in
    not_balanced front c.args.edition c.args.root.now.tree edit c.ancestors-nodes.result c.first_reparsable.result c.in-Some.found.0 c.in-Some.found.1 read around c.first_reparsable.ensures c.in-Some.is (c.as_str-2.ensures.value ∙ new)
    (nothing_found (IsBalanced (front.lexed c.args.edition read) → ⊥) c.in_ok-output.field-0 (Reads front c.args.edition c.in-Some.found.1 read) c.in_ok-output.ensures c.in-None-2.is)

pub returns-in-Some-2 : goal.returns-in-Some-2
returns-in-Some-2 g c =
    let edit : Edit = record { delete = c.args.delete; insert = c.args.insert.now } in
    let around : c.ancestors-nodes.result ≡ nodes_around c.args.root.now.tree edit = c.ancestors-nodes.ensures ∙ around_is c.args.root.now edit c.covering_element.result c.requires.root c.covering_element.ensures in
    let starts : c.start-start.result ≡ range_start c.in-Some.found.0 = c.start-start.ensures.value ∙ ap (λ (b : Bounds). b.start) c.text_range.ensures in
    let new : string_bytes c.in_ok-text.text ≡ edited_at c.in-Some.found.0 edit = edited_is c.in-Some.found.0 edit (string_bytes c.in_ok-text.text) c.as_str.result.now c.start-start.result c.in_ok-text.ensures c.as_str.ensures starts in
    let front = g.F.FrontEnd.answers c.args.front.now in
    let read = c.as_str-2.result.now in
    let found = found_path (IsBalanced (front.lexed c.args.edition read) → ⊥) c.in_ok-output.field-0 (Reads front c.args.edition c.in-Some.found.1 read) c.in-Some-2.output c.in_ok-output.ensures c.in-Some-2.is in
    is_block front c.args.edition c.args.root.now.tree edit c.ancestors-nodes.result c.first_reparsable.result c.in-Some.found.0 c.in-Some.found.1 (string_bytes c.in_ok-text.text) read (reading_of c.in-Some-2.output)
    (g.met.F.FrontEnd.kept c.args.front.now) c.requires.edit c.requires.short c.node_is_placed.ensures.placed.is_place (IsUtf8-string_bytes c.in_ok-text.text)
    around c.first_reparsable.ensures c.in-Some.is new c.as_str-2.ensures.value found.0 found.1
