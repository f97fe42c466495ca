-- The tests of trees and cursors decide their equality.
use Rattle.std.proofs.Common.{◌≡◌, ◌==◌, ◌&&◌, true, false, Bool, Decides, refl, sym, ap, ◌∙◌}
use Rattle.std.specs.Cmp.{decided, unsigned_Decides, IsEquivalence}
use Rattle.std.specs.Cmp.Lexicographic.{pointwise, pointwise_decides}
use Rattle.syntax_kind.specs.declared.syntax_kind.SyntaxKind.{SyntaxKind}
use Rattle.syntax_kind.specs.Kinds.{is_same_kind}
use Rattle.syntax_kind.specs.KindLaws.{is_same_kind-equal}
use Rattle.tree_model.specs.Tree.{Tree, node, token, Forest, nil, cons}
use Rattle.tree_model.specs.Rows.{first_tree}
use Rattle.tree_model.specs.Cursor.{Cursor}
use Rattle.tree_model.specs.Equality.{is_same_forest, is_same_tree, is_same_cursor, cursor_hash}

-- two tests that decide two facts, one after another
pub and_Decides : {P Q R : Type 0} (a b : Bool) → Decides a P → Decides b Q → (P → Q → R) → (R → P × Q) → Decides (a && b) R
and_Decides true b p q make split = (λ e. make (p.0 refl) (q.0 e), λ r. q.1 (split r).1)
and_Decides false b p q make split = (λ e. (let no : false ≡ true = e in cc), λ r. p.1 (split r).0)

pub never : {R : Type 0} → (R → ⊥) → Decides false R
never f = (λ e. (let no : false ≡ true = e in cc), λ r. absurd (f r))

pub kind_Decides : (j k : SyntaxKind) → Decides (is_same_kind j k) (j ≡ k)
kind_Decides j k = (λ e. (is_same_kind-equal j k).0 e, λ e. (is_same_kind-equal j k).1 e)

pub forest_Decides : (f g : Forest) → Decides (is_same_forest f g) (f ≡ g)
forest_Decides nil nil = (λ _. refl, λ _. refl)
forest_Decides nil (cons u s) = never (λ e. (let no : nil ≡ cons u s = e in cc))
forest_Decides (cons (node k c) r) nil = never (λ e. (let no : cons (node k c) r ≡ nil = e in cc))
forest_Decides (cons (token k t) r) nil = never (λ e. (let no : cons (token k t) r ≡ nil = e in cc))
forest_Decides (cons (node k c) r) (cons (token l u) s) = never (λ e. (let no : node k c ≡ token l u = ap first_tree e in cc))
forest_Decides (cons (token k t) r) (cons (node l d) s) = never (λ e. (let no : token k t ≡ node l d = ap first_tree e in cc))
forest_Decides (cons (node k c) r) (cons (node l d) s) =
    and_Decides (is_same_kind k l) (is_same_forest c d && is_same_forest r s) (kind_Decides k l)
    (and_Decides (is_same_forest c d) (is_same_forest r s) (forest_Decides c d) (forest_Decides r s) (λ p q. (p, q)) (λ e. e))
    (λ p q. made p q.0 q.1) (λ e. parts e)
  where
    made : k ≡ l → c ≡ d → r ≡ s → cons (node k c) r ≡ cons (node l d) s
    made p q w = cc

    parts : cons (node k c) r ≡ cons (node l d) s → (k ≡ l) × ((c ≡ d) × (r ≡ s))
    parts e = (cc, (cc, cc))
forest_Decides (cons (token k t) r) (cons (token l u) s) =
    and_Decides (is_same_kind k l) (pointwise ◌==◌ t u && is_same_forest r s) (kind_Decides k l)
    (and_Decides (pointwise ◌==◌ t u) (is_same_forest r s) (pointwise_decides unsigned_Decides t u) (forest_Decides r s) (λ p q. (p, q)) (λ e. e))
    (λ p q. made p q.0 q.1) (λ e. parts e)
  where
    made : k ≡ l → t ≡ u → r ≡ s → cons (token k t) r ≡ cons (token l u) s
    made p q w = cc

    parts : cons (token k t) r ≡ cons (token l u) s → (k ≡ l) × ((t ≡ u) × (r ≡ s))
    parts e = (cc, (cc, cc))

pub tree_Decides : (t u : Tree) → Decides (is_same_tree t u) (t ≡ u)
tree_Decides t u = (λ e. ap first_tree ((forest_Decides (cons t nil) (cons u nil)).0 e), λ e. (forest_Decides (cons t nil) (cons u nil)).1 (ap (λ x. cons x nil) e))

pub cursor_Decides : (c d : Cursor) → Decides (is_same_cursor c d) (c ≡ d)
cursor_Decides c d =
    and_Decides (is_same_tree c.tree d.tree) (pointwise ◌==◌ c.place d.place) (tree_Decides c.tree d.tree) (pointwise_decides unsigned_Decides c.place d.place)
    (λ p q. made p q) (λ e. (ap (λ x. x.tree) e, ap (λ x. x.place) e))
  where
    made : c.tree ≡ d.tree → c.place ≡ d.place → c ≡ d
    made p q = ap (λ t. record { tree = t; place = c.place }) p ∙ ap (λ x. record { tree = d.tree; place = x }) q

pub tree_equivalence : IsEquivalence is_same_tree
tree_equivalence = decided is_same_tree tree_Decides

pub cursor_equivalence : IsEquivalence is_same_cursor
cursor_equivalence = decided is_same_cursor cursor_Decides

-- equal cursors hash alike
pub cursors_alike : (c d : Cursor) → is_same_cursor c d ≡ true → cursor_hash c ≡ cursor_hash d
cursors_alike c d e = ap cursor_hash ((cursor_Decides c d).0 e)

-- a test that is true exactly where a deciding one is
pub same_test : {P : Type 0} (r b : Bool) → Decides b P → (r ≡ true → P) → (r ≡ false → P → ⊥) → r ≡ b
same_test true true d f g = refl
same_test false false d f g = refl
same_test true false d f g = sym (d.1 (f refl))
same_test false true d f g = absurd (g refl (d.0 refl))
