-- Rules that are tried one by one: those of some numbers, and all.
use Rattle.std.proofs.Common.{◌≡◌, ℕ, suc, ◌+◌, List, ◌∷◌, drop, sym, ap, ◌∙◌}
use Rattle.std.specs.Prelude.{Option, Some, None, option_map}
use Rattle.std.specs.Option.{option_or}
use Rattle.syntax_kind.specs.declared.syntax_kind.SyntaxKind.{SyntaxKind}
use Rattle.lossless_tree.specs.Trees.{Siblings}
use Rattle.tree_match.specs.declared.rule.Rule.{Rule}
use Rattle.tree_match.specs.Matching.{Values, match_rule, match_numbered, first_from, first_among}

-- what comes first if this is what the first number left has
abbrev tried : (rules : List Rule) (rest : List ℕ) (n : ℕ) (k : SyntaxKind) (s : Siblings) → Option (ℕ × Values)
    → Option (ℕ × ℕ × Values)
tried rules rest n k s o =
    option_or (option_map (λ (g : ℕ × Values). (n, g.0, g.1)) o) (first_among rules rest k s)

pub found_among : (rules : List Rule) (left rest all : List ℕ) (n f : ℕ) (vs : Values)
    (k : SyntaxKind) (s : Siblings) → left ≡ n ∷ rest → Some (f, vs) ≡ match_numbered rules n k s
    → first_among rules left k s ≡ first_among rules all k s
    → Some (n, f, vs) ≡ first_among rules all k s
found_among rules left rest all n f vs k s e h i =
    ap (tried rules rest n k s) h ∙ ap (λ (ns : List ℕ). first_among rules ns k s) (sym e) ∙ i

pub next_among : (rules : List Rule) (left rest all : List ℕ) (n : ℕ) (k : SyntaxKind)
    (s : Siblings) → left ≡ n ∷ rest → None ≡ match_numbered rules n k s
    → first_among rules left k s ≡ first_among rules all k s
    → first_among rules rest k s ≡ first_among rules all k s
next_among rules left rest all n k s e h i =
    ap (tried rules rest n k s) h ∙ ap (λ (ns : List ℕ). first_among rules ns k s) (sym e) ∙ i

-- ---- all rules, one by one

pub found_rule : (rules : List Rule) (n : ℕ) (r : Rule) (f : ℕ) (vs : Values) (k : SyntaxKind)
    (s : Siblings) (whole : Option (ℕ × ℕ × Values)) → drop n rules ≡ r ∷ drop (n + 1) rules
    → Some (f, vs) ≡ match_rule r k s → first_from n (drop n rules) k s ≡ whole
    → Some (n, f, vs) ≡ whole
found_rule rules n r f vs k s whole e h i =
    ap (λ (o : Option (ℕ × Values)).
    option_or (option_map (λ (g : ℕ × Values). (n, g.0, g.1)) o)
    (first_from (suc n) (drop (n + 1) rules) k s)) h
    ∙ ap (λ (rs : List Rule). first_from n rs k s) (sym e) ∙ i
