use Rattle.std.proofs.Common.{◌≡◌, ◌∙◌, ℕ, ◌<◌, ◌≤◌, ◌-◌, sym, ap, subst, true, false, Bool, length, get_or, arith, inl, inr}
use Rattle.std.specs.Prelude.{◌↔◌, ◌^◌, IsTrue, IsUtf8, Option, Some, None, MatchOption, IfSome}
use Rattle.std.proofs.Math.Nat.{lt_of_not-le}
use Rattle.tree_model.specs.Tree.{text}
use Rattle.tree_model.specs.Cursor.{Cursor}
use Rattle.text_edit.specs.Replacements.{Replacement}
use Rattle.ras_parsing.specs.Edit.{Edit, IsEditOf, edited}
use Rattle.ras_parsing.specs.InSteps.{edit_of, InPlace, NotInPlace}
use Rattle.ras_parsing.proofs.Steps.{edit_is, next_is_edit, step_made, stops_here}
use Rattle.ras_parsing.proofs.document.Document.in_steps.Goals as goal

below : (b : Bool) (n : ℕ) → (IsTrue b ↔ (2 ^ 32 ≤ n)) → b ≡ false → n < 2 ^ 32
below b n is no' = lt_of_not-le (λ long. let bad : true ≡ false = sym (is.1 long) ∙ no' in cc)

is_none : {A : Type 0} (X : Type 0) (Y : A → Type 0) (o : Option A) → o ≡ None → MatchOption o X Y → X
is_none X Y o is h = subst (λ x. MatchOption x X Y) is h

is_some : {A : Type 0} (X : Type 0) (Y : A → Type 0) (o : Option A) (n : A) → o ≡ Some n → MatchOption o X Y → Y n
is_some X Y o n is h = subst (λ x. MatchOption x X Y) is h

it_is : {A : Type 0} (P : A → Type 0) (o : Option A) (n : A) → o ≡ Some n → IfSome o P → P n
it_is P o n is h = subst (λ x. IfSome x P) is h

pub is_too_long-requires-clause-edit : goal.is_too_long-requires-clause-edit
is_too_long-requires-clause-edit g c =
    let old = c.args.self.now in
    let e = c.index-edits-at.result in
    let front = g.F.FrontEnd.answers old.front in
    let exact = g.F.ExactFront.exact old.front in
    let utf8 = subst (λ (r : Cursor). IsUtf8 (text r.tree)) c.root.ensures c.node_is_placed.ensures.placed.utf8 in
    let utf8_now = subst (λ (r : Cursor). IsUtf8 (text r.tree)) c.root-in-loop-at.ensures c.node_is_placed-in-loop-at.ensures.placed.utf8 in
    let edit_eq = edit_is e c.deleted-delete.result c.inserted-insert.result.now c.deleted-delete.ensures c.inserted-insert.ensures in
    let fits = next_is_edit (text old.parse.tree) (text c.loop-at.parse.tree) c.args.edits.now c.loop-at.at e c.loop-at-test.true c.loop-at.auto.at c.index-edits-at.is utf8 utf8_now c.loop-at.invariant.text_is c.requires.ranges c.requires.in_order in
    subst (λ (r : Cursor). IsEditOf (text r.tree) (record { delete = c.deleted-delete.result; insert = c.inserted-insert.result.now })) (sym c.root-in-loop-at-2.ensures)
    (subst (IsEditOf (text c.loop-at.parse.tree)) edit_eq fits)

pub in_place-requires-clause-edit : goal.in_place-requires-clause-edit
in_place-requires-clause-edit g c =
    let old = c.args.self.now in
    let e = c.index-edits-at.result in
    let front = g.F.FrontEnd.answers old.front in
    let exact = g.F.ExactFront.exact old.front in
    let utf8 = subst (λ (r : Cursor). IsUtf8 (text r.tree)) c.root.ensures c.node_is_placed.ensures.placed.utf8 in
    let utf8_now = subst (λ (r : Cursor). IsUtf8 (text r.tree)) c.root-in-loop-at.ensures c.node_is_placed-in-loop-at.ensures.placed.utf8 in
    let edit_eq = edit_is e c.deleted-delete.result c.inserted-insert.result.now c.deleted-delete.ensures c.inserted-insert.ensures in
    let fits = next_is_edit (text old.parse.tree) (text c.loop-at.parse.tree) c.args.edits.now c.loop-at.at e c.loop-at-test.true c.loop-at.auto.at c.index-edits-at.is utf8 utf8_now c.loop-at.invariant.text_is c.requires.ranges c.requires.in_order in
    subst (IsEditOf (text c.loop-at.parse.tree)) edit_eq fits

pub returns-then-is_too_long-clause-answer : goal.returns-then-is_too_long-clause-answer
returns-then-is_too_long-clause-answer g c =
    let old = c.args.self.now in
    let e = c.index-edits-at.result in
    let front = g.F.FrontEnd.answers old.front in
    let exact = g.F.ExactFront.exact old.front in
    let utf8 = subst (λ (r : Cursor). IsUtf8 (text r.tree)) c.root.ensures c.node_is_placed.ensures.placed.utf8 in
    let utf8_now = subst (λ (r : Cursor). IsUtf8 (text r.tree)) c.root-in-loop-at.ensures c.node_is_placed-in-loop-at.ensures.placed.utf8 in
    let edit_eq = edit_is e c.deleted-delete.result c.inserted-insert.result.now c.deleted-delete.ensures c.inserted-insert.ensures in
    let fits = next_is_edit (text old.parse.tree) (text c.loop-at.parse.tree) c.args.edits.now c.loop-at.at e c.loop-at-test.true c.loop-at.auto.at c.index-edits-at.is utf8 utf8_now c.loop-at.invariant.text_is c.requires.ranges c.requires.in_order in
    let asked = subst (λ (r : Cursor). IsTrue c.is_too_long.result ↔ (2 ^ 32 ≤ length (edited (text r.tree) (record { delete = c.deleted-delete.result; insert = c.inserted-insert.result.now })))) c.root-in-loop-at-2.ensures c.is_too_long.ensures in
    let long = subst (λ x. 2 ^ 32 ≤ length (edited (text c.loop-at.parse.tree) x)) (sym edit_eq) (asked.0 c.if-is_too_long.true) in
    inr (stops_here front exact old.edition old.parse old.parser_errors c.args.edits.now c.loop-at.at e c.loop-at.parse c.loop-at.count
    c.loop-at-test.true c.loop-at.auto.at c.index-edits-at.is c.loop-at.invariant (inl long))

pub returns-in-None-clause-answer : goal.returns-in-None-clause-answer
returns-in-None-clause-answer g c =
    let old = c.args.self.now in
    let e = c.index-edits-at.result in
    let front = g.F.FrontEnd.answers old.front in
    let exact = g.F.ExactFront.exact old.front in
    let utf8 = subst (λ (r : Cursor). IsUtf8 (text r.tree)) c.root.ensures c.node_is_placed.ensures.placed.utf8 in
    let utf8_now = subst (λ (r : Cursor). IsUtf8 (text r.tree)) c.root-in-loop-at.ensures c.node_is_placed-in-loop-at.ensures.placed.utf8 in
    let edit_eq = edit_is e c.deleted-delete.result c.inserted-insert.result.now c.deleted-delete.ensures c.inserted-insert.ensures in
    let fits = next_is_edit (text old.parse.tree) (text c.loop-at.parse.tree) c.args.edits.now c.loop-at.at e c.loop-at-test.true c.loop-at.auto.at c.index-edits-at.is utf8 utf8_now c.loop-at.invariant.text_is c.requires.ranges c.requires.in_order in
    inr (stops_here front exact old.edition old.parse old.parser_errors c.args.edits.now c.loop-at.at e c.loop-at.parse c.loop-at.count
    c.loop-at-test.true c.loop-at.auto.at c.index-edits-at.is c.loop-at.invariant (inr (subst (NotInPlace exact old.edition c.loop-at.parse c.loop-at.count) (sym edit_eq) (is_none _ _ c.in_ok-new.field-0 c.in-None.is c.in_ok-new.ensures.answer))))

pub loop-at-preserved : goal.loop-at-preserved
loop-at-preserved g c =
    let old = c.args.self.now in
    let e = c.index-edits-at.result in
    let front = g.F.FrontEnd.answers old.front in
    let exact = g.F.ExactFront.exact old.front in
    let utf8 = subst (λ (r : Cursor). IsUtf8 (text r.tree)) c.root.ensures c.node_is_placed.ensures.placed.utf8 in
    let utf8_now = subst (λ (r : Cursor). IsUtf8 (text r.tree)) c.root-in-loop-at.ensures c.node_is_placed-in-loop-at.ensures.placed.utf8 in
    let edit_eq = edit_is e c.deleted-delete.result c.inserted-insert.result.now c.deleted-delete.ensures c.inserted-insert.ensures in
    let fits = next_is_edit (text old.parse.tree) (text c.loop-at.parse.tree) c.args.edits.now c.loop-at.at e c.loop-at-test.true c.loop-at.auto.at c.index-edits-at.is utf8 utf8_now c.loop-at.invariant.text_is c.requires.ranges c.requires.in_order in
    let asked = subst (λ (r : Cursor). IsTrue c.is_too_long.result ↔ (2 ^ 32 ≤ length (edited (text r.tree) (record { delete = c.deleted-delete.result; insert = c.inserted-insert.result.now })))) c.root-in-loop-at-2.ensures c.is_too_long.ensures in
    let short = below c.is_too_long.result (length (edited (text c.loop-at.parse.tree) (record { delete = c.deleted-delete.result; insert = c.inserted-insert.result.now }))) asked c.if-is_too_long.false in
    let new = c.in-Some.new in
    let placed = subst (λ x. InPlace exact old.edition c.loop-at.parse c.loop-at.count x new.parse new.parser_errors new.range) (sym edit_eq) (is_some _ _ c.in_ok-new.field-0 new c.in-Some.is c.in_ok-new.ensures.answer) in
    let same = subst (λ x. text new.parse.tree ≡ edited (text c.loop-at.parse.tree) x) (sym edit_eq) (it_is _ c.in_ok-new.field-0 new c.in-Some.is c.in_ok-new.ensures.same_text) in
    step_made front exact old.edition old.parse old.parser_errors c.args.edits.now c.loop-at.at e c.loop-at.parse new.parse c.loop-at.count new.parser_errors new.range
    c.loop-at-test.true c.loop-at.auto.at c.index-edits-at.is c.loop-at.invariant placed same utf8_now
    (subst IsUtf8 c.inserted-insert.ensures c.inserted-insert.utf8) fits (subst (λ x. length (edited (text c.loop-at.parse.tree) x) < 2 ^ 32) (sym edit_eq) short)
