-- The tests of rows decide their equality.
use Rattle.std.proofs.Common.{◌≡◌, ◌==◌, ◌&&◌, true, false, Bool, Decides, refl, ap, ◌∙◌}
use Rattle.std.specs.Cmp.{decided, unsigned_Decides, IsEquivalence}
use Rattle.std.specs.Cmp.Lexicographic.{pointwise, pointwise_decides}
use Rattle.tree_rows.specs.declared.rows.Row.{Row}
use Rattle.syntax_kind.specs.Kinds.{is_same_kind}
use Rattle.tree_rows.specs.Rows.{Columns}
use Rattle.tree_rows.specs.RowEquality.{is_same_bool, is_same_row, are_same_columns}
use Rattle.tree_model.specs.EqualityLaws.{and_Decides, kind_Decides, never}

bool_Decides : (a b : Bool) → Decides (is_same_bool a b) (a ≡ b)
bool_Decides true true = (λ _. refl, λ _. refl)
bool_Decides true false = never (λ e. (let no : true ≡ false = e in cc))
bool_Decides false true = never (λ e. (let no : false ≡ true = e in cc))
bool_Decides false false = (λ _. refl, λ _. refl)

-- the test of two rows
pub row_Decides : (a b : Row) → Decides (is_same_row a b) (a ≡ b)
row_Decides a b =
    and_Decides (is_same_kind a.kind b.kind) (is_same_bool a.is_token b.is_token && (a.start == b.start && a.end == b.end)) (kind_Decides a.kind b.kind)
    (and_Decides (is_same_bool a.is_token b.is_token) (a.start == b.start && a.end == b.end) (bool_Decides a.is_token b.is_token)
    (and_Decides (a.start == b.start) (a.end == b.end) (unsigned_Decides a.start b.start) (unsigned_Decides a.end b.end) (λ p q. (p, q)) (λ e. e))
    (λ p q. (p, q)) (λ e. e))
    (λ p q. made p q.0 q.1.0 q.1.1)
    (λ e. (ap (λ r. r.kind) e, (ap (λ r. r.is_token) e, (ap (λ r. r.start) e, ap (λ r. r.end) e))))
  where
    made : a.kind ≡ b.kind → a.is_token ≡ b.is_token → a.start ≡ b.start → a.end ≡ b.end → a ≡ b
    made p q s t =
        ap (λ x. record { kind = x; is_token = a.is_token; start = a.start; end = a.end }) p
        ∙ ap (λ x. record { kind = b.kind; is_token = x; start = a.start; end = a.end }) q
        ∙ ap (λ x. record { kind = b.kind; is_token = b.is_token; start = x; end = a.end }) s
        ∙ ap (λ x. record { kind = b.kind; is_token = b.is_token; start = b.start; end = x }) t

pub row_equivalence : IsEquivalence is_same_row
row_equivalence = decided is_same_row row_Decides

-- the test of two lists of rows with their parents
pub columns_Decides : (a b : Columns) → Decides (are_same_columns a b) (a ≡ b)
columns_Decides a b =
    and_Decides (pointwise is_same_row a.rows b.rows) (pointwise ◌==◌ a.parents b.parents)
    (pointwise_decides row_Decides a.rows b.rows) (pointwise_decides unsigned_Decides a.parents b.parents)
    made (λ e. (ap (λ c. c.rows) e, ap (λ c. c.parents) e))
  where
    made : a.rows ≡ b.rows → a.parents ≡ b.parents → a ≡ b
    made p q = ap (λ x. record { rows = x; parents = a.parents }) p ∙ ap (λ x. record { rows = b.rows; parents = x }) q

pub columns_equivalence : IsEquivalence are_same_columns
columns_equivalence = decided are_same_columns columns_Decides
