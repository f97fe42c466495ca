use Rattle.std.proofs.Common.{◌≡◌, ◌∙◌, sym, ap, true, false}
use Rattle.std.specs.Prelude.{string_bytes}
use Rattle.std.specs.Cmp.{unsigned_Decides}
use Rattle.std.specs.Cmp.Lexicographic.{pointwise_decides}
use Rattle.tree_model.specs.Tree.{cons, nil, text}
use Rattle.tree_rows.specs.Rows.{Represents, columns_of, tree_of_rows}
use Rattle.tree_model.specs.Equality.{is_same_tree}
use Rattle.tree_model.specs.EqualityLaws.{tree_Decides, same_test}
use Rattle.tree_rows.specs.RowEqualityLaws.{columns_Decides}
use Rattle.tree_model.proofs.At.{cong₂}
use Rattle.tree_rows.proofs.TableLemmas.{shown, kept_are}
use Rattle.tree_rows.proofs.table.TablePartialEq.eq.Goals as goal

pub returns-then-eq : goal.returns-then-eq
returns-then-eq c =
    let w : Represents c.self.inside.rows (string_bytes c.self.inside.text) c.args.self.now = shown _ _ _ c.self.view_is c.self.invariant in
    let v : Represents c.other.inside.rows (string_bytes c.other.inside.text) c.args.other.now = shown _ _ _ c.other.view_is c.other.invariant in
    let texts = pointwise_decides unsigned_Decides c.as_str.result.now c.as_str-2.result.now in
    let rows = columns_Decides c.self.inside.rows c.other.inside.rows in
    same_test c.eq-then-eq.result (is_same_tree c.args.self.now c.args.other.now) (tree_Decides c.args.self.now c.args.other.now)
    (λ same. sym c.self.view_is ∙ cong₂ tree_of_rows (rows.0 (sym c.eq-then-eq.ensures ∙ same))
    (sym c.as_str.ensures.value ∙ texts.0 (sym c.eq.ensures ∙ c.if-eq.true) ∙ c.as_str-2.ensures.value) ∙ c.other.view_is)
    (λ differ e. no_both (sym differ ∙ c.eq-then-eq.ensures ∙ rows.1 (kept_are _ _ _ w ∙ ap (λ t. columns_of (cons t nil)) e ∙ sym (kept_are _ _ _ v))))
  where
    no_both : false ≡ true → ⊥
    no_both e = cc

pub returns-else-eq : goal.returns-else-eq
returns-else-eq c =
    let w : Represents c.self.inside.rows (string_bytes c.self.inside.text) c.args.self.now = shown _ _ _ c.self.view_is c.self.invariant in
    let v : Represents c.other.inside.rows (string_bytes c.other.inside.text) c.args.other.now = shown _ _ _ c.other.view_is c.other.invariant in
    let texts = pointwise_decides unsigned_Decides c.as_str.result.now c.as_str-2.result.now in
    same_test c.eq.result (is_same_tree c.args.self.now c.args.other.now) (tree_Decides c.args.self.now c.args.other.now)
    (λ same. absurd (no_both (sym c.if-eq.false ∙ same)))
    (λ differ e. no_both (sym differ ∙ c.eq.ensures ∙ texts.1 (c.as_str.ensures.value ∙ w.text_is ∙ ap text e ∙ sym (c.as_str-2.ensures.value ∙ v.text_is))))
  where
    no_both : false ≡ true → ⊥
    no_both e = cc
