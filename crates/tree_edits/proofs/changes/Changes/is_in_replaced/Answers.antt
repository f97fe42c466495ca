use Rattle.std.proofs.Common.{◌≡◌, ◌<◌, ◌∙◌, ℕ, sym, ap, subst, refl, true, false}
use Rattle.std.specs.Prelude.{option_map, Some, None}
use Rattle.tree_model.specs.Tree.{parent_place, size}
use Rattle.tree_model.specs.Rows.{place_at}
use Rattle.tree_edits.specs.Session.{Session, change_of}
use Rattle.tree_edits.specs.Refused.{IsInside, IsReplacedAt, IsInReplaced}
use Rattle.tree_edits.proofs.RowLemmas.{seen}
use Rattle.tree_edits.proofs.AroundLemmas.{parent_around, around_parent, inside_inside, no_parent}
use Rattle.tree_edits.proofs.changes.Changes.is_in_replaced.Goals as goal
use Rattle.tree_edits.proofs.changes.Changes.is_in_replaced.Goals.{In-Some, After-is_replaced}

same_tree : (c : In-Some) → c.deref.result.now ≡ c.args.self.now.tree
same_tree c = c.deref.ensures ∙ ap (λ s. s.tree) c.self.view_is

parent : (c : In-Some) → option_map (place_at c.args.self.now.tree) (Some c.in-Some.up) ≡ parent_place (place_at c.args.self.now.tree c.loop-up.at)
parent c = subst (λ t. option_map (place_at t) (Some c.in-Some.up) ≡ parent_place (place_at t c.loop-up.at)) (same_tree c) c.in-Some.ensures.place

up_row : (c : In-Some) → c.in-Some.up < size c.args.self.now.tree
up_row c = subst (λ t. c.in-Some.up < size t) (same_tree c) c.in-Some.ensures.in_range

around : (c : In-Some) → IsInside c.args.self.now.tree c.in-Some.up c.loop-up.at
around c = parent_around c.args.self.now.tree c.loop-up.at c.in-Some.up c.loop-up.invariant.is_row (up_row c) (parent c)

replaced : (c : After-is_replaced) → c.is_replaced.result ≡ (change_of c.args.self.now c.in-Some.up).replaced
replaced c = c.is_replaced.ensures ∙ sym (ap (λ x. x.replaced) (seen c.self.inside.table.value c.self.inside.rows.marks.items c.self.inside.rows.changes.items c.args.self.now c.in-Some.up c.self.view_is))

pub returns-then-is_replaced : goal.returns-then-is_replaced
returns-then-is_replaced c =
    let w = (goal.at.returns-then-is_replaced c).After-is_replaced in
    let v = (goal.at.returns-then-is_replaced c).In-Some in
    (λ _. (c.in-Some.up, c.loop-up.invariant.around c.in-Some.up (around v), sym (replaced w) ∙ c.if-is_replaced.true), λ _. refl)

pub loop-up-preserved : goal.loop-up-preserved
loop-up-preserved c =
    let w = (goal.at.loop-up-preserved c).After-is_replaced in
    let v = (goal.at.loop-up-preserved c).In-Some in
    record {
      is_row = up_row v;
      around = λ k i. c.loop-up.invariant.around k (inside_inside c.args.self.now.tree k c.in-Some.up c.loop-up.at (up_row v) i (around v));
      left = λ k i r.
          around_parent c.args.self.now.tree c.loop-up.at c.in-Some.up k c.loop-up.invariant.is_row (up_row v) (parent v) (c.loop-up.invariant.left k i r)
          (λ same. (let t : c.is_replaced.result ≡ true = replaced w ∙ ap (λ n. (change_of c.args.self.now n).replaced) (sym same) ∙ r in let f : c.is_replaced.result ≡ false = c.if-is_replaced.false in let off : true ≡ false = sym t ∙ f in cc));
    }

pub returns : goal.returns
returns c =
    let same : c.deref.result.now ≡ c.args.self.now.tree = c.deref.ensures ∙ ap (λ s. s.tree) c.self.view_is in
    let none = subst (λ t. option_map (place_at t) None ≡ parent_place (place_at t c.loop-up.at)) same c.in_default.ensures.place in
    (λ t. (let off : false ≡ true = t in cc), λ w. nowhere c.args.self.now c.args.row (λ k i r. no_parent c.args.self.now.tree c.loop-up.at k c.loop-up.invariant.is_row none (c.loop-up.invariant.left k i r)) w)
  where
    nowhere : {T : Type 0} (s : Session) (n : ℕ) → ((k : ℕ) → IsInside s.tree k n → IsReplacedAt s k → ⊥) → IsInReplaced s n → T
    nowhere s n f (k, inside, is) = absurd (f k inside is)
