use Rattle.std.proofs.Common.{◌≡◌, sym, ap, ◌∙◌, subst, arith, length, true, false}
use Rattle.std.specs.Prelude.{string_bytes, option_map}
use Rattle.text_size.specs.TextRange.{Bounds}
use Rattle.tree_model.specs.Tree.{text}
use Rattle.tree_model.specs.Cursor.{Cursor, range_start}
use Rattle.ras_parsing.specs.Edit.{Edit}
use Rattle.ras_parsing.specs.Rereading.{IsAround, IsNewToken}
use Rattle.ras_parsing.proofs.Around.{around_covered, boundary_at, edited_is}
use Rattle.ras_parsing.proofs.TokenPaths.{token_found, no_token, root_text, next_is, not_kept, is_read, not_read, Asked, one_is, none_is}
use Rattle.ras_parsing.proofs.reparse.token_path.Goals as goal

pub returns-in-None : goal.returns-in-None
returns-in-None g c =
    no_token (g.F.FrontEnd.answers c.args.front.now) c.args.edition c.args.root.now (record { delete = c.args.delete; insert = c.args.insert.now }) c.covering_element.result c.into_token.result c.requires.root c.covering_element.ensures c.into_token.ensures c.in-None.is

pub returns-then-not-may_be_reread : goal.returns-then-not-may_be_reread
returns-then-not-may_be_reread g c =
    let edit : Edit = record { delete = c.args.delete; insert = c.args.insert.now } in
    let f = token_found c.args.root.now edit c.covering_element.result c.into_token.result c.in-Some.token c.requires.root c.covering_element.ensures c.into_token.ensures c.in-Some.is in
    not_kept (g.F.FrontEnd.answers c.args.front.now) c.args.edition c.args.root.now.tree edit c.in-Some.token c.kind-kind.result f c.kind-kind.ensures (λ m. (let bad : true ≡ false = sym (c.may_be_reread.ensures.1 m) ∙ c.if-not-may_be_reread.true in cc))

pub edited_text-requires-clause-begun : goal.edited_text-requires-clause-begun
edited_text-requires-clause-begun g c =
    let edit : Edit = record { delete = c.args.delete; insert = c.args.insert.now } in
    let f = token_found c.args.root.now edit c.covering_element.result c.into_token.result c.in-Some.token c.requires.root c.covering_element.ensures c.into_token.ensures c.in-Some.is in
    let w : IsAround c.in-Some.token edit = subst (λ d. IsAround d edit) (sym f.same) (around_covered c.args.root.now.tree edit c.requires.edit) in
    let starts : c.start.result ≡ range_start c.in-Some.token = c.start.ensures.value ∙ ap (λ (b : Bounds). b.start) c.text_range-range.ensures in
    omega (arith, w.begun, starts)

pub edited_text-requires-clause-ended : goal.edited_text-requires-clause-ended
edited_text-requires-clause-ended g c =
    let edit : Edit = record { delete = c.args.delete; insert = c.args.insert.now } in
    let f = token_found c.args.root.now edit c.covering_element.result c.into_token.result c.in-Some.token c.requires.root c.covering_element.ensures c.into_token.ensures c.in-Some.is in
    let w : IsAround c.in-Some.token edit = subst (λ d. IsAround d edit) (sym f.same) (around_covered c.args.root.now.tree edit c.requires.edit) in
    let starts : c.start.result ≡ range_start c.in-Some.token = c.start.ensures.value ∙ ap (λ (b : Bounds). b.start) c.text_range-range.ensures in
    omega (arith, w.ended, starts, ap length c.text.ensures)

pub edited_text-requires-clause-start_boundary : goal.edited_text-requires-clause-start_boundary
edited_text-requires-clause-start_boundary g c =
    let edit : Edit = record { delete = c.args.delete; insert = c.args.insert.now } in
    let f = token_found c.args.root.now edit c.covering_element.result c.into_token.result c.in-Some.token c.requires.root c.covering_element.ensures c.into_token.ensures c.in-Some.is in
    let w : IsAround c.in-Some.token edit = subst (λ d. IsAround d edit) (sym f.same) (around_covered c.args.root.now.tree edit c.requires.edit) in
    let starts : c.start.result ≡ range_start c.in-Some.token = c.start.ensures.value ∙ ap (λ (b : Bounds). b.start) c.text_range-range.ensures in
    let same : text c.args.root.now.tree ≡ text c.in-Some.token.tree = ap (λ (d : Cursor). text d.tree) (sym f.same) in
    boundary_at c.in-Some.token c.args.delete.start c.start.result c.text.result.now (text c.args.root.now.tree) w.is_place c.text.ensures starts same w.begun (omega (arith, w.ended, c.requires.edit.forwards)) c.requires.edit.start_boundary

pub edited_text-requires-clause-end_boundary : goal.edited_text-requires-clause-end_boundary
edited_text-requires-clause-end_boundary g c =
    let edit : Edit = record { delete = c.args.delete; insert = c.args.insert.now } in
    let f = token_found c.args.root.now edit c.covering_element.result c.into_token.result c.in-Some.token c.requires.root c.covering_element.ensures c.into_token.ensures c.in-Some.is in
    let w : IsAround c.in-Some.token edit = subst (λ d. IsAround d edit) (sym f.same) (around_covered c.args.root.now.tree edit c.requires.edit) in
    let starts : c.start.result ≡ range_start c.in-Some.token = c.start.ensures.value ∙ ap (λ (b : Bounds). b.start) c.text_range-range.ensures in
    let same : text c.args.root.now.tree ≡ text c.in-Some.token.tree = ap (λ (d : Cursor). text d.tree) (sym f.same) in
    boundary_at c.in-Some.token c.args.delete.end c.start.result c.text.result.now (text c.args.root.now.tree) w.is_place c.text.ensures starts same (omega (arith, w.begun, c.requires.edit.forwards)) w.ended c.requires.edit.end_boundary

pub returns-in-Some-2 : goal.returns-in-Some-2
returns-in-Some-2 g c =
    let edit : Edit = record { delete = c.args.delete; insert = c.args.insert.now } in
    let f = token_found c.args.root.now edit c.covering_element.result c.into_token.result c.in-Some.token c.requires.root c.covering_element.ensures c.into_token.ensures c.in-Some.is in
    let starts : c.start.result ≡ range_start c.in-Some.token = c.start.ensures.value ∙ ap (λ (b : Bounds). b.start) c.text_range-range.ensures in
    let same : text c.args.root.now.tree ≡ text c.in-Some.token.tree = ap (λ (d : Cursor). text d.tree) (sym f.same) in
    let a : Asked c.args.root.now.tree edit c.in-Some.token c.kind-kind.result (string_bytes c.in_ok-text.text) c.char_at-next.result = record {
      found = f;
      kind_is = c.kind-kind.ensures;
      text_is = edited_is c.in-Some.token edit (string_bytes c.in_ok-text.text) c.text.result.now c.start.result c.in_ok-text.ensures c.text.ensures starts;
      next_is = next_is c.text-2.result c.end.result c.in-Some.token c.char_at-next.result (c.text-2.ensures ∙ root_text c.args.root.now c.requires.root ∙ same) (c.end.ensures.value ∙ ap (λ (b : Bounds). b.end) c.text_range-range.ensures) c.char_at-next.ensures;
    } in
    subst (λ s. IsNewToken (g.F.FrontEnd.answers c.args.front.now) c.args.edition c.args.root.now.tree edit c.in-Some.token s (option_map string_bytes c.in-Some-2.one.error)) (sym c.in_ok-one.ensures.text)
    (is_read (g.F.FrontEnd.answers c.args.front.now) c.args.edition c.args.root.now.tree edit c.in-Some.token c.kind-kind.result (string_bytes c.in_ok-text.text) c.char_at-next.result (option_map string_bytes c.in-Some-2.one.error) a (c.may_be_reread.ensures.0 c.if-not-may_be_reread.false)
    (one_is (g.F.FrontEnd.answers c.args.front.now) c.args.edition c.kind-kind.result (string_bytes c.in_ok-text.text) c.char_at-next.result c.in_ok-one.field-0 c.in-Some-2.one c.in_ok-one.ensures.answer c.in-Some-2.is))

pub returns-in-None-2 : goal.returns-in-None-2
returns-in-None-2 g c =
    let edit : Edit = record { delete = c.args.delete; insert = c.args.insert.now } in
    let f = token_found c.args.root.now edit c.covering_element.result c.into_token.result c.in-Some.token c.requires.root c.covering_element.ensures c.into_token.ensures c.in-Some.is in
    let starts : c.start.result ≡ range_start c.in-Some.token = c.start.ensures.value ∙ ap (λ (b : Bounds). b.start) c.text_range-range.ensures in
    let same : text c.args.root.now.tree ≡ text c.in-Some.token.tree = ap (λ (d : Cursor). text d.tree) (sym f.same) in
    let a : Asked c.args.root.now.tree edit c.in-Some.token c.kind-kind.result (string_bytes c.in_ok-text.text) c.char_at-next.result = record {
      found = f;
      kind_is = c.kind-kind.ensures;
      text_is = edited_is c.in-Some.token edit (string_bytes c.in_ok-text.text) c.text.result.now c.start.result c.in_ok-text.ensures c.text.ensures starts;
      next_is = next_is c.text-2.result c.end.result c.in-Some.token c.char_at-next.result (c.text-2.ensures ∙ root_text c.args.root.now c.requires.root ∙ same) (c.end.ensures.value ∙ ap (λ (b : Bounds). b.end) c.text_range-range.ensures) c.char_at-next.ensures;
    } in
    not_read (g.F.FrontEnd.answers c.args.front.now) c.args.edition c.args.root.now.tree edit c.in-Some.token c.kind-kind.result (string_bytes c.in_ok-text.text) c.char_at-next.result a
    (none_is (g.F.FrontEnd.answers c.args.front.now) c.args.edition c.kind-kind.result (string_bytes c.in_ok-text.text) c.char_at-next.result c.in_ok-one.field-0 c.in_ok-one.ensures.answer c.in-None-2.is)
