use Rattle.std.proofs.Common.{◌≡◌, sym, ap, ◌∙◌, subst, ℕ, List, drop}
use Rattle.std.specs.Prelude.{string_bytes}
use Rattle.std.proofs.lemmas.Str.{IsUtf8-string_bytes}
use Rattle.text_size.specs.TextRange.{Bounds}
use Rattle.tree_model.specs.Tree.{Tree, text}
use Rattle.tree_model.specs.Cursor.{Cursor, focus, range_end}
use Rattle.ras_front_end.specs.ErrorModel.{ErrorModel}
use Rattle.ras_front_end.specs.Reading.{reading_of}
use Rattle.ras_parsing.specs.Edit.{Edit, IsEditOf}
use Rattle.ras_parsing.specs.Document.{AreShort}
use Rattle.ras_parsing.specs.Reparse.{nodes_around}
use Rattle.ras_parsing.proofs.BlockPaths.{IsIn}
use Rattle.ras_parsing.proofs.ExactPaths.{nodes_are, exact_in, exact_found}
use Rattle.ras_parsing.proofs.exact.exact_path.Goals as goal

pub text_after-requires-clause-edit : goal.text_after-requires-clause-edit
text_after-requires-clause-edit g c =
    let edit : Edit = record { delete = c.args.delete; insert = c.args.insert.now } in
    let around : c.ancestors-nodes.result ≡ nodes_around c.args.old.now.tree edit = nodes_are c.args.old.now.tree edit c.root-root.result.now c.covering_element.result c.ancestors-nodes.result c.root-root.ensures c.covering_element.ensures c.ancestors-nodes.ensures in
    let w : IsIn c.args.old.now.tree edit c.in-Some.found.0 = exact_in (g.F.ExactFront.exact c.args.front.now) c.args.old.now.tree edit c.ancestors-nodes.result c.first_exact.result c.in-Some.found.0 c.in-Some.found.1 c.requires.edit around c.first_exact.ensures c.in-Some.is c.node_is_placed.ensures.placed.is_place in
    subst (λ (t : Tree). IsEditOf (text t) edit) (sym w.same) c.requires.edit

pub text_after-requires-clause-around : goal.text_after-requires-clause-around
text_after-requires-clause-around g c =
    let edit : Edit = record { delete = c.args.delete; insert = c.args.insert.now } in
    let around : c.ancestors-nodes.result ≡ nodes_around c.args.old.now.tree edit = nodes_are c.args.old.now.tree edit c.root-root.result.now c.covering_element.result c.ancestors-nodes.result c.root-root.ensures c.covering_element.ensures c.ancestors-nodes.ensures in
    (exact_in (g.F.ExactFront.exact c.args.front.now) c.args.old.now.tree edit c.ancestors-nodes.result c.first_exact.result c.in-Some.found.0 c.in-Some.found.1 c.requires.edit around c.first_exact.ensures c.in-Some.is c.node_is_placed.ensures.placed.is_place).around

pub returns : goal.returns
returns g c =
    let edit : Edit = record { delete = c.args.delete; insert = c.args.insert.now } in
    let around : c.ancestors-nodes.result ≡ nodes_around c.args.old.now.tree edit = nodes_are c.args.old.now.tree edit c.root-root.result.now c.covering_element.result c.ancestors-nodes.result c.root-root.ensures c.covering_element.ensures c.ancestors-nodes.ensures in
    let ends : c.end.result ≡ range_end c.in-Some.found.0 = c.end.ensures.value ∙ ap (λ (b : Bounds). b.end) c.text_range.ensures in
    let head : c.as_str.result.now ≡ text c.args.old.now.tree = c.as_str.ensures ∙ ap (λ (r : Cursor). text (focus r)) c.root-root.ensures in
    let asked : AreShort c.longest.result (text c.root-root.result.now.tree) edit = c.are_short.ensures.0 c.if-not-are_short.false in
    let of_old : AreShort c.longest.result (text c.args.old.now.tree) edit = subst (λ (s : List ℕ). AreShort c.longest.result s edit) (ap (λ (r : Cursor). text r.tree) c.root-root.ensures) asked in
    let few = subst (λ (n : ℕ). AreShort n (text c.args.old.now.tree) edit) c.longest.ensures of_old in
    exact_found (g.F.ExactFront.exact c.args.front.now) c.args.edition c.args.old.now c.args.count edit c.ancestors-nodes.result c.first_exact.result c.in-Some.found.0 c.in-Some.found.1
    c.as_str.result.now c.has_head.result c.end.result c.lexer_part.result.now c.is_quiet_from.result (string_bytes c.in_ok-text.text) c.as_str-2.result.now reading_of _ c.in-Some-2.output c.as_str-3.result.now _
    (g.met.F.ExactFront.exact_kept c.args.front.now) c.requires.edit c.requires.short c.node_is_placed.ensures.placed.is_place (IsUtf8-string_bytes c.in_ok-text.text)
    around c.first_exact.ensures c.in-Some.is
    head c.has_head.ensures c.if-has_head.false
    ends (c.lexer_part.ensures ∙ ap (λ (l : List ErrorModel). drop c.args.count l) c.stored.ensures.errors) c.is_quiet_from.ensures c.if-not-is_quiet_from.false
    c.in_ok-text.ensures c.as_str-2.ensures.value c.in_ok-output.ensures c.in-Some-2.is few c.as_str-3.ensures c.in_ok-is_exact_piece.ensures c.if-not-branch.false
