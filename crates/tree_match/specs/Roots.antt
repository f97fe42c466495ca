-- The kinds of nodes at which rules may match, and the rules for each.
use Rattle.std.specs.Prelude.{◌≡◌, ℕ, suc, ◌==◌, Bool, false, if◌then◌else◌, List, [], ◌∷◌, ◌++◌}
use Rattle.std.specs.List.{list_any}
use Rattle.syntax_kind.specs.declared.syntax_kind.SyntaxKind.{SyntaxKind}
use Rattle.syntax_kind.specs.Kinds.{kind_raw, is_same_kind}
use Rattle.tree_match.specs.declared.rule.Form.{Form}
use Rattle.tree_match.specs.declared.rule.Rule.{Rule}
use Rattle.tree_match.specs.declared.roots.Root.{Root}
use Rattle.tree_match.specs.Matching.{is_for}

-- a kind is among some; one of some forms is for it
abbrev pub has_kind : SyntaxKind → List SyntaxKind → Bool
has_kind k ks = list_any (λ j. is_same_kind j k) ks

abbrev pub has_form : SyntaxKind → List Form → Bool
has_form k fs = list_any (λ f. is_same_kind f.kind k) fs

-- some kinds and one more, if it is not among them
abbrev pub with_kind : SyntaxKind → List SyntaxKind → List SyntaxKind
with_kind k ks = if has_kind k ks then ks else ks ++ k ∷ []

-- the new kinds have the old ones and those of some forms
pub record HaveForms (fs : List Form) (old new : List SyntaxKind) : Type 0 where
  pub kept : (k : SyntaxKind) → has_kind k new ≡ false → has_kind k old ≡ false
  pub forms : (k : SyntaxKind) → has_kind k new ≡ false → has_form k fs ≡ false

-- where a kind is not among these, no rule has a form for it
pub record AreKinds (rules : List Rule) (ks : List SyntaxKind) : Type 0 where
  pub all : (k : SyntaxKind) → has_kind k ks ≡ false → list_any (is_for k) rules ≡ false

-- the numbers of the rules that have a form for nodes of a kind, in their order, of rules that are
-- counted from n on
abbrev pub numbers_from : ℕ → SyntaxKind → List Rule → List ℕ
numbers_from n k [] = []
numbers_from n k (r ∷ rs) =
    if is_for k r then n ∷ numbers_from (suc n) k rs else numbers_from (suc n) k rs

-- the numbers that a table has for a kind, or others if it has none
abbrev pub numbers_by : SyntaxKind → List Root → List ℕ → List ℕ
numbers_by k [] ns = ns
numbers_by k (r ∷ rs) ns = if r.raw == kind_raw k then r.rules.items else numbers_by k rs ns

-- a table that has for each kind the rules that have a form for it
pub record AreRoots (rules : List Rule) (roots : List Root) : Type 0 where
  pub all : (k : SyntaxKind) → numbers_by k roots [] ≡ numbers_from 0 k rules
