-- The conditions of a placeholder, and the forms of a rule.
use Rattle.std.proofs.Common.{◌≡◌, ℕ, suc, Bool, ◌||◌, length, if◌then◌else◌, true, false, refl, ap, ◌∙◌, Option, Some, None, List, [], ◌∷◌, ◌++◌, map}
use Rattle.std.proofs.lemmas.List.{map-append}
use Rattle.std.specs.Prelude.{option_map, slice_get}
use Rattle.std.specs.Option.{option_and_then, option_or}
use Rattle.std.specs.List.{list_any}
use Rattle.syntax_kind.specs.Kinds.{is_same_kind}
use Rattle.syntax_kind.specs.declared.syntax_kind.SyntaxKind.{SyntaxKind}
use Rattle.ras_node.specs.Sets.{is_expr}
use Rattle.lossless_tree.specs.Trees.{Siblings}
use Rattle.tree_match.specs.declared.bare.Comments.TheVariants.{Passed}
use Rattle.tree_match.specs.declared.condition.Hole.{Hole}
use Rattle.tree_match.specs.declared.part.Sort.{Sort}
use Rattle.tree_match.specs.declared.rule.Form.{Form}
use Rattle.tree_match.specs.declared.rule.Rule.{Rule}
use Rattle.tree_match.specs.Bare.{bare}
use Rattle.tree_match.specs.Matching.{Values, comments_by, match_parts, form_from, is_for, match_rule, match_numbered, sort_in, sort_by, is_expr_by}
use Rattle.tree_match.specs.Conditions.{all_hold, admits}

pub no_hole : (o : Option Hole) (v : Siblings) → None ≡ o → true ≡ admits o v
no_hole o v e = ap (λ k. admits k v) e

pub some_hole : (o : Option Hole) (h : Hole) (v : Siblings) (b : Bool) → Some h ≡ o
    → b ≡ all_hold h.conditions.items (bare Passed v) → b ≡ admits o v
some_hole o h v b e is = is ∙ ap (λ k. admits k v) e

-- ---- a form that there may be

pub no_sort : (o : Option Form) (n : ℕ) → None ≡ o → None ≡ sort_by o n
no_sort o n e = ap (λ k. sort_by k n) e

pub some_sort : (o : Option Form) (f : Form) (n : ℕ) (r : Option Sort) → Some f ≡ o → r ≡ sort_in n f.template.items → r ≡ sort_by o n
some_sort o f n r e is = is ∙ ap (λ k. sort_by k n) e

pub no_expr : (o : Option Form) → None ≡ o → false ≡ is_expr_by o
no_expr o e = ap is_expr_by e

pub some_expr : (o : Option Form) (f : Form) (b : Bool) → Some f ≡ o → b ≡ is_expr f.kind → b ≡ is_expr_by o
some_expr o f b e is = is ∙ ap is_expr_by e

-- ---- a form more

pub one_form_more : (fs gs : List Form) (f : Form) (k : SyntaxKind) → gs ≡ fs ++ f ∷ [] → f.kind ≡ k
    → map (λ g. g.kind) gs ≡ map (λ g. g.kind) fs ++ k ∷ []
one_form_more fs gs f k e is =
    ap (map (λ (g : Form). g.kind)) e ∙ map-append (λ (g : Form). g.kind) fs (f ∷ []) ∙ ap (λ x. map (λ (g : Form). g.kind) fs ++ x ∷ []) is

-- ---- no form is for a kind

no_form : (n : ℕ) (hs : List Hole) (fs : List Form) (k : SyntaxKind) (s : Siblings) → list_any (λ f. is_same_kind f.kind k) fs ≡ false
    → None ≡ form_from n hs fs k s
no_form n hs [] k s e = refl
no_form n hs (f ∷ fs) k s e = by (is_same_kind f.kind k) e (no_form (suc n) hs fs k s)
  where
    by : (b : Bool) → (b || list_any (λ f. is_same_kind f.kind k) fs) ≡ false
        → (list_any (λ f. is_same_kind f.kind k) fs ≡ false → None ≡ form_from (suc n) hs fs k s)
        → None ≡ option_or (option_map (λ (vs : Values). (n, vs)) (if b then match_parts (comments_by f.template.items) hs f.inside.items (length hs) s else None))
        (form_from (suc n) hs fs k s)
    by false h g = g h
    by true h g = absurd (let bad : true ≡ false = h in cc)

pub not_for : (r : Rule) (k : SyntaxKind) (s : Siblings) → is_for k r ≡ false → None ≡ match_rule r k s
not_for r k s e = no_form 0 r.holes.items r.forms.items k s e

-- ---- the rule with a number

pub no_numbered : (rules : List Rule) (n : ℕ) (k : SyntaxKind) (s : Siblings)
    → None ≡ slice_get rules n → None ≡ match_numbered rules n k s
no_numbered rules n k s e = ap (option_and_then (λ (r : Rule). match_rule r k s)) e

pub some_numbered : (rules : List Rule) (n : ℕ) (r : Rule) (k : SyntaxKind) (s : Siblings)
    (o : Option (ℕ × Values)) → Some r ≡ slice_get rules n → o ≡ match_rule r k s
    → o ≡ match_numbered rules n k s
some_numbered rules n r k s o e is = is ∙ ap (option_and_then (λ (q : Rule). match_rule q k s)) e
