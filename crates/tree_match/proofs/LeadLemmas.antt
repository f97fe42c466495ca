-- Where a node begins with another token than a pattern, the node is not the pattern.
use Rattle.std.proofs.Common.{◌≡◌, ℕ, ◌+◌, ◌<◌, Bool, true, false, not, ◌&&◌, if◌then◌else◌, length, refl, sym, ap, ◌∙◌, Option, Some, None, List, [], ◌∷◌, String, Global}
use Rattle.std.specs.Prelude.{replicate}
use Rattle.std.proofs.lemmas.Option.{option_and_then_some}
use Rattle.syntax_kind.specs.declared.syntax_kind.SyntaxKind.{SyntaxKind}
use Rattle.syntax_kind.specs.declared.syntax_kind.TheConstants.SyntaxKind.{PAREN_EXPR}
use Rattle.syntax_kind.specs.Kinds.{is_trivia, is_same_kind}
use Rattle.tree_model.specs.Tree.{node, token, Forest, nil, cons, forest_size, forest_of_children}
use Rattle.lossless_tree.specs.Trees.{Siblings, first_of, inside_first}
use Rattle.tree_match.specs.declared.bare.Comments.{Comments}
use Rattle.tree_match.specs.declared.condition.Hole.{Hole}
use Rattle.tree_match.specs.declared.part.Part.{Part}
use Rattle.tree_match.specs.declared.part.Part.TheVariants as part
use Rattle.tree_match.specs.Bare.{end, leaf, is_passed, past_trees, past_start, behind_one}
use Rattle.tree_match.specs.Walks.{step_at, advance, is_part}
use Rattle.tree_match.specs.Matching.{Values, match_part, match_from, match_parts}
use Rattle.tree_match.specs.Signs.{word_part, fits}
use Rattle.tree_match.specs.Leads.{is_leading, lead_here, lead_of, lead_in}
use Rattle.tree_match.proofs.BareLemmas.{and_left, at, children_smaller}
use Rattle.tree_match.proofs.SignLemmas.{given, fits_end, passed_trivia, bare_itself}

-- ---- the first tokens one by one

false_of : (b : Bool) → not b ≡ true → b ≡ false
false_of false h = refl
false_of true h = absurd (let bad : false ≡ true = h in cc)

pub led_on : (s : Siblings) → is_leading s.trees ≡ true → lead_of (inside_first s).trees ≡ lead_of s.trees
led_on s h = by s.trees h
  where
    by : (f : Forest) → is_leading f ≡ true → lead_of (forest_of_children (first_of f)) ≡ lead_of f
    by nil e = absurd (let bad : false ≡ true = e in cc)
    by (cons (token k t) r) e = absurd (let bad : false ≡ true = e in cc)
    by (cons (node k c) r) e = ap (λ x. if x then end else lead_of c) (sym (false_of (is_same_kind k PAREN_EXPR) e))

pub led_here : (s : Siblings) → is_leading s.trees ≡ false → lead_here s.trees ≡ lead_of s.trees
led_here s h = by s.trees h
  where
    by : (f : Forest) → is_leading f ≡ false → lead_here f ≡ lead_of f
    by nil e = refl
    by (cons (token k t) r) e = one (is_trivia k)
      where
        one : (x : Bool) → (if true && not x then leaf k t else end) ≡ (if x then end else leaf k t)
        one true = refl
        one false = refl
    by (cons (node k c) r) e = one (is_same_kind k PAREN_EXPR) e
      where
        one : (x : Bool) → not x ≡ false → end ≡ (if x then end else lead_of c)
        one true i = refl
        one false i = absurd (let bad : true ≡ false = i in cc)

pub led_smaller : (s : Siblings) → is_leading s.trees ≡ true → forest_size (inside_first s).trees < forest_size s.trees
led_smaller s h = children_smaller s.trees (and_left _ _ h)

-- ---- a pattern that begins with a token

-- a token is not passed over if it counts
not_passed : (cs : Comments) (k : SyntaxKind) → is_trivia k ≡ false → is_passed cs k ≡ false
not_passed cs k h = by (is_passed cs k) refl
  where
    by : (x : Bool) → is_passed cs k ≡ x → x ≡ false
    by false e = refl
    by true e = absurd (let bad : true ≡ false = sym (passed_trivia cs k e) ∙ h in cc)

token_fits : (cs : Comments) (k : SyntaxKind) (w : String Global) (f : Forest) (b : ℕ) (below : List Siblings)
    → is_part (part.Token k w) (step_at cs (at (past_trees cs f) (past_start cs f b)) below).0 ≡ true
    → fits (word_part (part.Token k w)) (lead_of f) ≡ true
token_fits cs k w nil b below h = fits_end (word_part (part.Token k w))
token_fits cs k w (cons (node l c) r) b below h = absurd (let bad : false ≡ true = h in cc)
token_fits cs k w (cons (token l t) r) b below h = by (is_trivia l) refl
  where
    told : (x : Bool) → is_trivia k ≡ x → is_part (part.Token k w) (leaf l t) ≡ true
        → fits (if x then None else Some (part.Token k w)) (leaf l t) ≡ true
    told true e i = refl
    told false e i = i

    by : (x : Bool) → is_trivia l ≡ x → fits (word_part (part.Token k w)) (if x then end else leaf l t) ≡ true
    by true e = fits_end (word_part (part.Token k w))
    by false e =
        told (is_trivia k) refl
        (ap (λ (x : Bool). is_part (part.Token k w)
        (step_at cs (at (if x then past_trees cs r else cons (token l t) r) (if x then past_start cs r (b + length t) else b)) below).0)
        (sym (not_passed cs l e)) ∙ h)

leading : (cs : Comments) (hs : List Hole) (ps : List Part) (s : Siblings) (below : List Siblings) (vs ws : Values)
    → match_from cs hs ps (s ∷ below) vs ≡ Some ws → fits (lead_in ps) (lead_of s.trees) ≡ true
leading cs hs [] s below vs ws h = refl
leading cs hs (part.Leave ∷ ps) s below vs ws h = refl
leading cs hs (part.Hole n o ∷ ps) s below vs ws h = refl
leading cs hs (part.List n c d ∷ ps) s below vs ws h = refl
leading cs hs (part.Token k w ∷ ps) s below vs ws h =
    option_and_then_some (λ (r : List Siblings × Values). match_from cs hs ps r.0 r.1) (match_part cs hs (part.Token k w) (s ∷ below) vs) ws h
    (λ r e m. given (is_part (part.Token k w) (advance cs (s ∷ below)).0) ((advance cs (s ∷ below)).1, vs) r e
    (λ y q. token_fits cs k w s.trees s.start below y))
leading cs hs (part.Enter k ∷ ps) s below vs ws h =
    option_and_then_some (λ (r : List Siblings × Values). match_from cs hs ps r.0 r.1) (match_part cs hs (part.Enter k) (s ∷ below) vs) ws h
    (λ r e m. given (is_part (part.Enter k) (advance cs (s ∷ below)).0) ((advance cs (s ∷ below)).1, vs) r e
    (λ y q. by s.trees s.start r.1 (λ t under us n. leading cs hs ps t under us ws n)
    (ap (λ (l : List Siblings). match_from cs hs ps l r.1) (ap (λ (p : List Siblings × Values). p.0) q) ∙ m) y))
  where
    by : (f : Forest) (b : ℕ) (us : Values)
        → ((t : Siblings) (under : List Siblings) (us : Values) → match_from cs hs ps (t ∷ under) us ≡ Some ws → fits (lead_in ps) (lead_of t.trees) ≡ true)
        → match_from cs hs ps (step_at cs (at (past_trees cs f) (past_start cs f b)) below).1 us ≡ Some ws
        → is_part (part.Enter k) (step_at cs (at (past_trees cs f) (past_start cs f b)) below).0 ≡ true
        → fits (lead_in ps) (lead_of f) ≡ true
    by nil b us again m y = fits_end (lead_in ps)
    by (cons (token l t) r) b us again m y = one (is_trivia l) refl
      where
        one : (x : Bool) → is_trivia l ≡ x → fits (lead_in ps) (if x then end else leaf l t) ≡ true
        one true e = fits_end (lead_in ps)
        one false e =
            absurd (
            let bad : false ≡ true =
            ap (λ (x : Bool). is_part (part.Enter k)
            (step_at cs (at (if x then past_trees cs r else cons (token l t) r) (if x then past_start cs r (b + length t) else b)) below).0)
            (sym (not_passed cs l e)) ∙ y in cc
            )
    by (cons (node l c) r) b us again m y = one (is_same_kind l PAREN_EXPR) refl
      where
        one : (x : Bool) → is_same_kind l PAREN_EXPR ≡ x → fits (lead_in ps) (if x then end else lead_of c) ≡ true
        one true e = fits_end (lead_in ps)
        one false e =
            again (at c b) (behind_one cs (at (cons (node l c) r) b) ∷ below) us
            (ap (λ (q : Siblings). match_from cs hs ps (inside_first q ∷ (behind_one cs (at (cons (node l c) r) b) ∷ below)) us)
            (sym (bare_itself cs l c r b e)) ∙ m)

pub not_led : (cs : Comments) (hs : List Hole) (ps : List Part) (n : ℕ) (s : Siblings) → fits (lead_in ps) (lead_of s.trees) ≡ false
    → match_parts cs hs ps n s ≡ None
not_led cs hs ps n s h = by (match_parts cs hs ps n s) refl
  where
    by : (o : Option Values) → match_parts cs hs ps n s ≡ o → o ≡ None
    by None i = refl
    by (Some ws) i = absurd (let bad : true ≡ false = sym (leading cs hs ps s [] (replicate n None) ws i) ∙ h in cc)
