-- Where the sign of a node is not that of a pattern, the node is not the pattern.
use Rattle.std.proofs.Common.{◌≡◌, ℕ, suc, ◌+◌, ◌-◌, ◌==◌, Bool, true, false, not, ◌&&◌, ◌||◌, if◌then◌else◌, length, refl, sym, subst, ap, ◌∙◌, Option, Some, None, List, [], ◌∷◌, ◌++◌, String, Global, arith, drop}
use Rattle.std.specs.Prelude.{option_map, replicate, string_bytes}
use Rattle.std.specs.Option.{option_or}
use Rattle.std.specs.Cmp.Lexicographic.{pointwise}
use Rattle.std.proofs.lemmas.Bool.{eqb-true}
use Rattle.std.proofs.lemmas.Option.{option_and_then_some}
use Rattle.syntax_kind.specs.declared.syntax_kind.SyntaxKind.{SyntaxKind}
use Rattle.syntax_kind.specs.declared.syntax_kind.TheConstants.SyntaxKind.{NAME_REF, PAREN_EXPR, COMMA, DOT, WHITESPACE}
use Rattle.syntax_kind.specs.Kinds.{is_trivia, is_same_kind}
use Rattle.syntax_kind.specs.KindLaws.{is_same_kind-equal}
use Rattle.tree_model.specs.Tree.{node, token, Forest, nil, cons, kind_of}
use Rattle.lossless_tree.specs.Trees.{Siblings, is_done, first_of, rest_of, behind_first, inside_first}
use Rattle.tree_match.specs.declared.bare.Comments.{Comments}
use Rattle.tree_match.specs.declared.bare.Comments.TheVariants.{Passed, Kept}
use Rattle.tree_match.specs.declared.condition.Hole.{Hole}
use Rattle.tree_match.specs.declared.part.Part.{Part}
use Rattle.tree_match.specs.declared.part.Part.TheVariants as part
use Rattle.tree_match.specs.declared.part.Comma.{Comma}
use Rattle.tree_match.specs.declared.part.Sort.{Sort}
use Rattle.tree_match.specs.declared.part.Sort.TheVariants as sort
use Rattle.tree_match.specs.declared.rule.Form.{Form}
use Rattle.tree_match.specs.declared.rule.Rule.{Rule}
use Rattle.tree_match.specs.Runs.{run_of}
use Rattle.tree_match.specs.Bare.{Step, leave, end, leaf, is_node_there, is_passed, past_trees, past_start, past, is_token_of, is_last_comma, is_element, opens, closes, inner, bare, without_comma, behind_one}
use Rattle.tree_match.specs.Walks.{sort_has, is_there, step_at, advance, taken, is_part}
use Rattle.tree_match.specs.Lists.{list_at, taken_list}
use Rattle.tree_match.specs.Matching.{Values, put_held, put_new, comments_by, match_part, match_from, match_parts, match_form, match_rule, first_from}
use Rattle.tree_match.specs.Signs.{is_plain, word_of, is_sign, sign_here, sign_of, word_in, depth_behind, is_told, told, sign_in, fits}
use Rattle.tree_match.proofs.BareLemmas.{and_left, and_right, at}

-- ---- small steps

or_true : (a b : Bool) → b ≡ true → (a || b) ≡ true
or_true true b h = refl
or_true false b h = h

or_first : (a b : Bool) → a ≡ true → (a || b) ≡ true
or_first true b h = refl
or_first false b h = absurd (let bad : false ≡ true = h in cc)

-- what is given only where a test holds
pub given : {A P : Type 0} (b : Bool) (x y : A) → (if b then Some x else None) ≡ Some y → (b ≡ true → x ≡ y → P) → P
given true x y h k = k refl (let same : Some x ≡ Some y = h in cc)
given false x y h k = absurd (let bad : None ≡ Some y = h in cc)

-- the levels beside values
levels_are : (l : List Siblings) (o : Option Values) (r : List Siblings × Values) → option_map (λ (ws : Values). (l, ws)) o ≡ Some r → l ≡ r.0
levels_are l None r h = absurd (let bad : None ≡ Some r = h in cc)
levels_are l (Some w) r h = ap (λ (q : List Siblings × Values). q.0) (let same : (l, w) ≡ r = (let e : Some (l, w) ≡ Some r = h in cc) in same)

pub fits_end : (q : Option Part) → fits q end ≡ true
fits_end None = refl
fits_end (Some p) = refl

-- ---- the siblings one by one

pub told_nothing : (s : Siblings) → is_sign (first_of s.trees) ≡ false → sign_of (behind_first s).trees ≡ sign_of s.trees
told_nothing s h = by s.trees h
  where
    by : (f : Forest) → is_sign (first_of f) ≡ false → sign_of (rest_of f) ≡ sign_of f
    by nil e = refl
    by (cons t r) e = ap (λ x. if x then sign_here t else sign_of r) (sym e)

pub told_here : (s : Siblings) → is_done s.trees ≡ false → is_sign (first_of s.trees) ≡ true → sign_here (first_of s.trees) ≡ sign_of s.trees
told_here s d h = by s.trees d h
  where
    by : (f : Forest) → is_done f ≡ false → is_sign (first_of f) ≡ true → sign_here (first_of f) ≡ sign_of f
    by nil e i = absurd (let bad : true ≡ false = e in cc)
    by (cons t r) e i = ap (λ x. if x then sign_here t else sign_of r) (sym i)

pub none_told : (s : Siblings) → is_done s.trees ≡ true → leave ≡ sign_of s.trees
none_told s h = by s.trees h
  where
    by : (f : Forest) → is_done f ≡ true → leave ≡ sign_of f
    by nil e = refl
    by (cons t r) e = absurd (let bad : false ≡ true = e in cc)

-- ---- what is passed over tells nothing

pub passed_trivia : (cs : Comments) (k : SyntaxKind) → is_passed cs k ≡ true → is_trivia k ≡ true
passed_trivia Passed k h = h
passed_trivia Kept k h = ap is_trivia ((is_same_kind-equal k WHITESPACE).0 h)

trivia_plain : (k : SyntaxKind) → is_trivia k ≡ true → is_plain k ≡ true
trivia_plain k h = or_first (is_trivia k || is_same_kind k COMMA) (is_same_kind k DOT) (or_first (is_trivia k) (is_same_kind k COMMA) h)

plain_sign : (k : SyntaxKind) (t : List ℕ) (r : Forest) → is_plain k ≡ true → sign_of (cons (token k t) r) ≡ sign_of r
plain_sign k t r h = ap (λ x. if not x then leaf k t else sign_of r) h

sign_past : (cs : Comments) (f : Forest) → sign_of f ≡ sign_of (past_trees cs f)
sign_past cs nil = refl
sign_past cs (cons (node k c) r) = refl
sign_past cs (cons (token k t) r) = by (is_passed cs k) refl (sign_past cs r)
  where
    by : (x : Bool) → is_passed cs k ≡ x → sign_of r ≡ sign_of (past_trees cs r)
        → sign_of (cons (token k t) r) ≡ sign_of (if x then past_trees cs r else cons (token k t) r)
    by true h i = plain_sign k t r (trivia_plain k (passed_trivia cs k h)) ∙ i
    by false h i = refl

sign_comma : (f : Forest) → is_token_of COMMA f ≡ true → sign_of f ≡ sign_of (rest_of f)
sign_comma nil h = refl
sign_comma (cons (node k c) r) h = absurd (let bad : false ≡ true = h in cc)
sign_comma (cons (token k t) r) h =
    plain_sign k t r (or_first (is_trivia k || is_same_kind k COMMA) (is_same_kind k DOT) (or_true (is_trivia k) (is_same_kind k COMMA) h))

sign_without : (cs : Comments) (r : Forest) (b : ℕ) → sign_of r ≡ sign_of (without_comma cs (at r b)).trees
sign_without cs r b = by (is_last_comma cs (past_trees cs r)) refl
  where
    by : (x : Bool) → is_last_comma cs (past_trees cs r) ≡ x
        → sign_of r ≡ sign_of (if x then behind_first (past cs (at r b)) else at r b).trees
    by true h = sign_past cs r ∙ sign_comma (past_trees cs r) (and_left (is_token_of COMMA (past_trees cs r)) _ h)
    by false h = refl

sign_behind : (cs : Comments) (k : SyntaxKind) (c r : Forest) (b : ℕ) → sign_of r ≡ sign_of (behind_one cs (at (cons (node k c) r) b)).trees
sign_behind cs k c r b = by (is_element (cons (node k c) r))
  where
    by : (x : Bool) → sign_of r ≡ sign_of (if x then without_comma cs (behind_first (at (cons (node k c) r) b)) else behind_first (at (cons (node k c) r) b)).trees
    by true = sign_without cs r (behind_first (at (cons (node k c) r) b)).start
    by false = refl

-- ---- a node that is no name tells nothing

node_passed : (q : Option Part) (k : SyntaxKind) (c r : Forest) → is_same_kind k NAME_REF ≡ false → fits q (sign_of r) ≡ true
    → fits q (sign_of (cons (node k c) r)) ≡ true
node_passed q k c r h i = by (is_same_kind k PAREN_EXPR)
  where
    by : (x : Bool) → fits q (if x || is_same_kind k NAME_REF then (if is_same_kind k NAME_REF then word_of c else end) else sign_of r) ≡ true
    by true = ap (λ y. fits q (if y then word_of c else end)) h ∙ fits_end q
    by false = ap (λ y. fits q (if y then (if y then word_of c else end) else sign_of r)) h ∙ i

not_name : (o : Sort) (k : SyntaxKind) → sort_has o NAME_REF ≡ false → sort_has o k ≡ true → is_same_kind k NAME_REF ≡ false
not_name o k n h = by (is_same_kind k NAME_REF) refl
  where
    by : (x : Bool) → is_same_kind k NAME_REF ≡ x → x ≡ false
    by false e = refl
    by true e = absurd (let bad : true ≡ false = sym h ∙ ap (sort_has o) ((is_same_kind-equal k NAME_REF).0 e) ∙ n in cc)

-- ---- the word of a name

word_fits : (cs : Comments) (k : SyntaxKind) (s : String Global) (c : Forest) (b : ℕ) (below : List Siblings) → is_trivia k ≡ false
    → is_part (part.Token k s) (step_at cs (at (past_trees cs c) b) below).0 ≡ true → fits (Some (part.Token k s)) (word_of c) ≡ true
word_fits cs k s nil b below n h = refl
word_fits cs k s (cons (node l d) r) b below n h = refl
word_fits cs k s (cons (token l t) r) b below n h = by (is_passed cs l) refl (word_fits cs k s r b below n) h
  where
    by : (x : Bool) → is_passed cs l ≡ x
        → (is_part (part.Token k s) (step_at cs (at (past_trees cs r) b) below).0 ≡ true → fits (Some (part.Token k s)) (word_of r) ≡ true)
        → is_part (part.Token k s) (step_at cs (at (if x then past_trees cs r else cons (token l t) r) b) below).0 ≡ true
        → fits (Some (part.Token k s)) (word_of (cons (token l t) r)) ≡ true
    by true e i m = ap (λ y. fits (Some (part.Token k s)) (if y then word_of r else leaf l t)) (passed_trivia cs l e) ∙ i m
    by false e i m =
        ap (λ y. fits (Some (part.Token k s)) (if y then word_of r else leaf l t))
        (ap is_trivia (sym ((is_same_kind-equal k l).0 (and_left (is_same_kind k l) (pointwise ◌==◌ (string_bytes s) t) m))) ∙ n) ∙ m

-- ---- inside a node of the pattern: what is left of the node's siblings stays

-- the levels behind a part, which is in n nodes, end as those before it
pub record Keeps (p : Part) (n : ℕ) (tail levels : List Siblings) : Type 0 where
  pub above : List Siblings
  pub is : levels ≡ above ++ tail
  pub deep : length above ≡ depth_behind p n

kept_step : (cs : Comments) (p : Part) (g : Forest) (b : ℕ) (over tail : List Siblings) → is_part p (step_at cs (at g b) (over ++ tail)).0 ≡ true
    → Keeps p (suc (length over)) tail (step_at cs (at g b) (over ++ tail)).1
kept_step cs part.Leave nil b over tail h = record {
  above = over;
  is = refl;
  deep = (let one : length over ≡ suc (length over) - 1 = omega arith in one);
}
kept_step cs (part.Enter k) nil b over tail h = absurd (let bad : false ≡ true = h in cc)
kept_step cs (part.Token k s) nil b over tail h = absurd (let bad : false ≡ true = h in cc)
kept_step cs (part.Hole n o) nil b over tail h = absurd (let bad : false ≡ true = h in cc)
kept_step cs (part.List n c e) nil b over tail h = absurd (let bad : false ≡ true = h in cc)
kept_step cs part.Leave (cons (token l t) r) b over tail h = absurd (let bad : false ≡ true = h in cc)
kept_step cs (part.Enter k) (cons (token l t) r) b over tail h = absurd (let bad : false ≡ true = h in cc)
kept_step cs (part.Token k s) (cons (token l t) r) b over tail h = record { above = behind_first (at (cons (token l t) r) b) ∷ over; is = refl; deep = refl }
kept_step cs (part.Hole n o) (cons (token l t) r) b over tail h = absurd (let bad : false ≡ true = h in cc)
kept_step cs (part.List n c e) (cons (token l t) r) b over tail h = absurd (let bad : false ≡ true = h in cc)
kept_step cs part.Leave (cons (node l d) r) b over tail h = absurd (let bad : false ≡ true = h in cc)
kept_step cs (part.Enter k) (cons (node l d) r) b over tail h =
    record {
      above = inside_first (bare cs (at (cons (node l d) r) b)) ∷ (behind_one cs (at (cons (node l d) r) b) ∷ over);
      is = refl;
      deep = refl;
    }
kept_step cs (part.Token k s) (cons (node l d) r) b over tail h = absurd (let bad : false ≡ true = h in cc)
kept_step cs (part.Hole n o) (cons (node l d) r) b over tail h = absurd (let bad : false ≡ true = h in cc)
kept_step cs (part.List n c e) (cons (node l d) r) b over tail h = absurd (let bad : false ≡ true = h in cc)

-- a part that is a step
kept_by : (cs : Comments) (p : Part) (a : Siblings) (over tail : List Siblings) (vs : Values) (r : List Siblings × Values)
    → (if is_part p (advance cs (a ∷ (over ++ tail))).0 then Some ((advance cs (a ∷ (over ++ tail))).1, vs) else None) ≡ Some r
    → Keeps p (suc (length over)) tail r.0
kept_by cs p a over tail vs r h =
    given (is_part p (advance cs (a ∷ (over ++ tail))).0) ((advance cs (a ∷ (over ++ tail))).1, vs) r h
    (λ y e. subst (λ (q : List Siblings × Values). Keeps p (suc (length over)) tail q.0) e
    (kept_step cs p (past_trees cs a.trees) (past_start cs a.trees a.start) over tail y))

-- a placeholder
kept_hole : (cs : Comments) (hs : List Hole) (n : ℕ) (o : Sort) (a : Siblings) (over tail : List Siblings) (vs : Values) (r : List Siblings × Values)
    → match_part cs hs (part.Hole n o) (a ∷ (over ++ tail)) vs ≡ Some r → Keeps (part.Hole n o) (suc (length over)) tail r.0
kept_hole cs hs n o a over tail vs r h =
    option_and_then_some (λ (t : Siblings × List Siblings). option_map (λ (ws : Values). (t.1, ws)) (put_held hs n t.0 vs))
    (taken cs o (a ∷ (over ++ tail))) r h
    (λ t e m. record {
      above = behind_one cs (past cs a) ∷ over;
      is = sym (levels_are t.1 (put_held hs n t.0 vs) r m) ∙ took t e;
      deep = refl;
    })
  where
    took : (t : Siblings × List Siblings) → taken cs o (a ∷ (over ++ tail)) ≡ Some t → t.1 ≡ behind_one cs (past cs a) ∷ (over ++ tail)
    took t e =
        given (is_there o (past cs a).trees && sort_has o (kind_of (first_of (past cs a).trees)))
        (run_of (Some 1) (past cs a), behind_one cs (past cs a) ∷ (over ++ tail)) t e
        (λ y i. sym (ap (λ (q : Siblings × List Siblings). q.1) i))

-- a placeholder for a list
kept_list : (cs : Comments) (hs : List Hole) (n : ℕ) (c : Comma) (d : ℕ) (a : Siblings) (over tail : List Siblings) (vs : Values) (r : List Siblings × Values)
    → match_part cs hs (part.List n c d) (a ∷ (over ++ tail)) vs ≡ Some r → Keeps (part.List n c d) (suc (length over)) tail r.0
kept_list cs hs n c d a over tail vs r h =
    option_and_then_some (λ (t : Siblings × List Siblings). option_map (λ (ws : Values). (t.1, ws)) (put_new n t.0 vs))
    (taken_list cs c d (a ∷ (over ++ tail))) r h
    (λ t e m. took t (list_at cs c d (past cs a)) e (sym (levels_are t.1 (put_new n t.0 vs) r m)))
  where
    took : (t : Siblings × List Siblings) (o : Option (Siblings × Siblings))
        → option_map (λ (p : Siblings × Siblings). (p.0, p.1 ∷ (over ++ tail))) o ≡ Some t → r.0 ≡ t.1
        → Keeps (part.List n c d) (suc (length over)) tail r.0
    took t None e i = absurd (let bad : None ≡ Some t = e in cc)
    took t (Some q) e i = record {
      above = q.1 ∷ over;
      is = i ∙ sym (ap (λ (p : Siblings × List Siblings). p.1) (let same : (q.0, q.1 ∷ (over ++ tail)) ≡ t = (let f : Some (q.0, q.1 ∷ (over ++ tail)) ≡ Some t = e in cc) in same));
      deep = refl;
    }

kept_part : (cs : Comments) (hs : List Hole) (p : Part) (a : Siblings) (over tail : List Siblings) (vs : Values) (r : List Siblings × Values)
    → match_part cs hs p (a ∷ (over ++ tail)) vs ≡ Some r → Keeps p (suc (length over)) tail r.0
kept_part cs hs (part.Hole n o) a over tail vs r h = kept_hole cs hs n o a over tail vs r h
kept_part cs hs (part.List n c d) a over tail vs r h = kept_list cs hs n c d a over tail vs r h
kept_part cs hs (part.Enter k) a over tail vs r h = kept_by cs (part.Enter k) a over tail vs r h
kept_part cs hs part.Leave a over tail vs r h = kept_by cs part.Leave a over tail vs r h
kept_part cs hs (part.Token k s) a over tail vs r h = kept_by cs (part.Token k s) a over tail vs r h

-- ---- beside the nodes of the pattern

-- what the parts behind a part say of its siblings
abbrev Later : Comments → List Hole → List Part → List Siblings → Values → Values → Type 0
Later cs hs ps below vs ws =
    (above : List Siblings) (s : Siblings) → match_from cs hs ps (above ++ s ∷ below) vs ≡ Some ws
    → fits (sign_in (length above) ps) (sign_of s.trees) ≡ true

-- a placeholder for a node, which is no name
hole_top : (cs : Comments) (hs : List Hole) (n : ℕ) (o : Sort) (ps : List Part) (s : Siblings) (below : List Siblings) (vs ws : Values)
    (r : List Siblings × Values) → sort_has o NAME_REF ≡ false → ((f : Forest) → is_there o f ≡ true → is_node_there f ≡ true)
    → match_part cs hs (part.Hole n o) (s ∷ below) vs ≡ Some r → match_from cs hs ps r.0 r.1 ≡ Some ws → Later cs hs ps below r.1 ws
    → fits (sign_in 0 ps) (sign_of s.trees) ≡ true
hole_top cs hs n o ps s below vs ws r no_name nodes h m later =
    option_and_then_some (λ (t : Siblings × List Siblings). option_map (λ (ws : Values). (t.1, ws)) (put_held hs n t.0 vs))
    (taken cs o (s ∷ below)) r h
    (λ t e i. given (is_there o (past_trees cs s.trees) && sort_has o (kind_of (first_of (past_trees cs s.trees))))
    (run_of (Some 1) (past cs s), behind_one cs (past cs s) ∷ below) t e
    (λ y q. ap (fits (sign_in 0 ps)) (sign_past cs s.trees)
    ∙ by (past_trees cs s.trees) (past_start cs s.trees s.start) y
    (later [] (behind_one cs (past cs s))
    (ap (λ (l : List Siblings). match_from cs hs ps l r.1)
    (ap (λ (p : Siblings × List Siblings). p.1) q ∙ levels_are t.1 (put_held hs n t.0 vs) r i) ∙ m))))
  where
    by : (f : Forest) (b : ℕ) → (is_there o f && sort_has o (kind_of (first_of f))) ≡ true
        → fits (sign_in 0 ps) (sign_of (behind_one cs (at f b)).trees) ≡ true → fits (sign_in 0 ps) (sign_of f) ≡ true
    by nil b y z = absurd (let bad : false ≡ true = nodes nil (and_left (is_there o nil) _ y) in cc)
    by (cons (token l t) rest) b y z =
        absurd (let bad : false ≡ true = nodes (cons (token l t) rest) (and_left (is_there o (cons (token l t) rest)) (sort_has o l) y) in cc)
    by (cons (node l c) rest) b y z =
        node_passed (sign_in 0 ps) l c rest (not_name o l no_name (and_right (is_there o (cons (node l c) rest)) (sort_has o l) y))
        (ap (fits (sign_in 0 ps)) (sign_behind cs l c rest b) ∙ z)

-- a token
token_top : (cs : Comments) (hs : List Hole) (k : SyntaxKind) (w : String Global) (ps : List Part) (s : Siblings) (below : List Siblings)
    (vs ws : Values) (r : List Siblings × Values) → match_part cs hs (part.Token k w) (s ∷ below) vs ≡ Some r
    → match_from cs hs ps r.0 r.1 ≡ Some ws → Later cs hs ps below r.1 ws → fits (sign_in 0 (part.Token k w ∷ ps)) (sign_of s.trees) ≡ true
token_top cs hs k w ps s below vs ws r h m later =
    given (is_part (part.Token k w) (advance cs (s ∷ below)).0) ((advance cs (s ∷ below)).1, vs) r h
    (λ y e. ap (fits (sign_in 0 (part.Token k w ∷ ps))) (sign_past cs s.trees)
    ∙ by (past_trees cs s.trees) (past_start cs s.trees s.start) y
    (ap (λ (l : List Siblings). match_from cs hs ps l r.1) (ap (λ (p : List Siblings × Values). p.0) e) ∙ m))
  where
    by : (f : Forest) (b : ℕ) → is_part (part.Token k w) (step_at cs (at f b) below).0 ≡ true
        → match_from cs hs ps (step_at cs (at f b) below).1 r.1 ≡ Some ws → fits (sign_in 0 (part.Token k w ∷ ps)) (sign_of f) ≡ true
    by nil b y z = absurd (let bad : false ≡ true = y in cc)
    by (cons (node l c) rest) b y z = absurd (let bad : false ≡ true = y in cc)
    by (cons (token l t) rest) b y z =
        tell (is_plain l) (ap is_plain ((is_same_kind-equal k l).0 (and_left (is_same_kind k l) (pointwise ◌==◌ (string_bytes w) t) y))) refl
      where
        tell : (x : Bool) → is_plain k ≡ is_plain l → is_plain l ≡ x → fits (sign_in 0 (part.Token k w ∷ ps)) (sign_of (cons (token l t) rest)) ≡ true
        tell true same e =
            ap (λ z. fits (if not z then Some (part.Token k w) else sign_in 0 ps) (sign_of (cons (token l t) rest))) (same ∙ e)
            ∙ ap (fits (sign_in 0 ps)) (plain_sign l t rest e) ∙ later [] (behind_first (at (cons (token l t) rest) b)) z
        tell false same e =
            ap (λ z. fits (if not z then Some (part.Token k w) else sign_in 0 ps) (sign_of (cons (token l t) rest))) (same ∙ e)
            ∙ ap (λ z. fits (Some (part.Token k w)) (if not z then leaf l t else sign_of rest)) e ∙ y

-- the word of a name that is entered
word_top : (cs : Comments) (hs : List Hole) (ps : List Part) (c : Forest) (b : ℕ) (below : List Siblings) (vs ws : Values)
    → match_from cs hs ps (at c b ∷ below) vs ≡ Some ws → fits (word_in ps) (word_of c) ≡ true
word_top cs hs [] c b below vs ws m = refl
word_top cs hs (part.Enter k ∷ ps) c b below vs ws m = refl
word_top cs hs (part.Leave ∷ ps) c b below vs ws m = refl
word_top cs hs (part.Hole n o ∷ ps) c b below vs ws m = refl
word_top cs hs (part.List n d e ∷ ps) c b below vs ws m = refl
word_top cs hs (part.Token k w ∷ ps) c b below vs ws m = by (is_trivia k) refl
  where
    by : (x : Bool) → is_trivia k ≡ x → fits (if x then None else Some (part.Token k w)) (word_of c) ≡ true
    by true e = refl
    by false e =
        option_and_then_some (λ (r : List Siblings × Values). match_from cs hs ps r.0 r.1) (match_part cs hs (part.Token k w) (at c b ∷ below) vs) ws m
        (λ r i z. given (is_part (part.Token k w) (advance cs (at c b ∷ below)).0) ((advance cs (at c b ∷ below)).1, vs) r i
        (λ y q. word_fits cs k w c (past_start cs c b) below e y))

-- a node without a pair round it
pub bare_itself : (cs : Comments) (k : SyntaxKind) (c r : Forest) (b : ℕ) → is_same_kind k PAREN_EXPR ≡ false
    → bare cs (at (cons (node k c) r) b) ≡ at (cons (node k c) r) b
bare_itself cs k c r b h =
    ap (λ x. if x && (opens cs (at (cons (node k c) r) b) && closes cs (at (cons (node k c) r) b)) then inner cs c b else at (cons (node k c) r) b) h

-- a node that is entered
enter_top : (cs : Comments) (hs : List Hole) (k : SyntaxKind) (ps : List Part) (s : Siblings) (below : List Siblings)
    (vs ws : Values) (r : List Siblings × Values) → match_part cs hs (part.Enter k) (s ∷ below) vs ≡ Some r
    → match_from cs hs ps r.0 r.1 ≡ Some ws → Later cs hs ps below r.1 ws → fits (sign_in 0 (part.Enter k ∷ ps)) (sign_of s.trees) ≡ true
enter_top cs hs k ps s below vs ws r h m later =
    given (is_part (part.Enter k) (advance cs (s ∷ below)).0) ((advance cs (s ∷ below)).1, vs) r h
    (λ y e. ap (fits (sign_in 0 (part.Enter k ∷ ps))) (sign_past cs s.trees)
    ∙ by (past_trees cs s.trees) (past_start cs s.trees s.start) y
    (ap (λ (l : List Siblings). match_from cs hs ps l r.1) (ap (λ (p : List Siblings × Values). p.0) e) ∙ m))
  where
    by : (f : Forest) (b : ℕ) → is_part (part.Enter k) (step_at cs (at f b) below).0 ≡ true
        → match_from cs hs ps (step_at cs (at f b) below).1 r.1 ≡ Some ws → fits (sign_in 0 (part.Enter k ∷ ps)) (sign_of f) ≡ true
    by nil b y z = absurd (let bad : false ≡ true = y in cc)
    by (cons (token l t) rest) b y z = absurd (let bad : false ≡ true = y in cc)
    by (cons (node l c) rest) b y z = pair (is_same_kind l PAREN_EXPR) refl
      where
        f : Forest
        f = cons (node l c) rest

        goal : Type 0
        goal = fits (sign_in 0 (part.Enter k ∷ ps)) (sign_of f) ≡ true

        name : (x : Bool) → is_same_kind l PAREN_EXPR ≡ false → k ≡ l → is_same_kind k NAME_REF ≡ x
            → match_from cs hs ps (at c b ∷ (behind_one cs (at f b) ∷ below)) r.1 ≡ Some ws → goal
        name true p same e i =
            ap (λ z. fits (if z then word_in ps else sign_in 1 ps) (sign_of f)) e
            ∙ ap (λ z. fits (word_in ps) (if is_same_kind l PAREN_EXPR || z then (if z then word_of c else end) else sign_of rest))
            (ap (λ j. is_same_kind j NAME_REF) (sym same) ∙ e)
            ∙ ap (λ z. fits (word_in ps) (if z || true then word_of c else sign_of rest)) p
            ∙ word_top cs hs ps c b (behind_one cs (at f b) ∷ below) r.1 ws i
        name false p same e i =
            ap (λ z. fits (if z then word_in ps else sign_in 1 ps) (sign_of f)) e
            ∙ node_passed (sign_in 1 ps) l c rest (ap (λ j. is_same_kind j NAME_REF) (sym same) ∙ e)
            (ap (fits (sign_in 1 ps)) (sign_behind cs l c rest b) ∙ later (at c b ∷ []) (behind_one cs (at f b)) i)

        pair : (x : Bool) → is_same_kind l PAREN_EXPR ≡ x → goal
        pair true e =
            ap (λ z. fits (sign_in 0 (part.Enter k ∷ ps)) (if z || is_same_kind l NAME_REF then (if is_same_kind l NAME_REF then word_of c else end) else sign_of rest)) e
            ∙ ap (λ z. fits (sign_in 0 (part.Enter k ∷ ps)) (if z then word_of c else end))
            (ap (λ j. is_same_kind j NAME_REF) ((is_same_kind-equal l PAREN_EXPR).0 e))
            ∙ fits_end (sign_in 0 (part.Enter k ∷ ps))
        pair false e =
            name (is_same_kind k NAME_REF) e
            ((is_same_kind-equal k l).0 (ap (λ (q : Siblings). is_same_kind k (kind_of (first_of q.trees))) (sym (bare_itself cs l c rest b e)) ∙ y)) refl
            (ap (λ (q : Siblings). match_from cs hs ps (inside_first q ∷ (behind_one cs (at f b) ∷ below)) r.1) (sym (bare_itself cs l c rest b e)) ∙ z)

top : (cs : Comments) (hs : List Hole) (p : Part) (ps : List Part) (s : Siblings) (below : List Siblings)
    (vs ws : Values) (r : List Siblings × Values) → match_part cs hs p (s ∷ below) vs ≡ Some r
    → match_from cs hs ps r.0 r.1 ≡ Some ws → Later cs hs ps below r.1 ws → fits (sign_in 0 (p ∷ ps)) (sign_of s.trees) ≡ true
top cs hs part.Leave ps s below vs ws r h m later = refl
top cs hs (part.List n c d) ps s below vs ws r h m later = refl
top cs hs (part.Enter k) ps s below vs ws r h m later = enter_top cs hs k ps s below vs ws r h m later
top cs hs (part.Token k w) ps s below vs ws r h m later = token_top cs hs k w ps s below vs ws r h m later
top cs hs (part.Hole n sort.Word) ps s below vs ws r h m later = refl
top cs hs (part.Hole n sort.Expr) ps s below vs ws r h m later = hole_top cs hs n sort.Expr ps s below vs ws r refl (λ f y. y) h m later
top cs hs (part.Hole n sort.Ty) ps s below vs ws r h m later = hole_top cs hs n sort.Ty ps s below vs ws r refl (λ f y. y) h m later
top cs hs (part.Hole n sort.Pat) ps s below vs ws r h m later = hole_top cs hs n sort.Pat ps s below vs ws r refl (λ f y. y) h m later
top cs hs (part.Hole n sort.Path) ps s below vs ws r h m later = hole_top cs hs n sort.Path ps s below vs ws r refl (λ f y. y) h m later
top cs hs (part.Hole n sort.List) ps s below vs ws r h m later = hole_top cs hs n sort.List ps s below vs ws r refl (λ f y. y) h m later

-- ---- a pattern

deeper : (n : ℕ) → (suc n == 0) ≡ false
deeper n = by (suc n == 0) refl
  where
    by : (x : Bool) → (suc n == 0) ≡ x → x ≡ false
    by false e = refl
    by true e = absurd (let zero_is : suc n ≡ 0 = eqb-true (suc n) 0 e in omega (arith, zero_is))

fitting : (cs : Comments) (hs : List Hole) (ps : List Part) (below : List Siblings) (vs ws : Values) → Later cs hs ps below vs ws
fitting cs hs [] below vs ws above s h = refl
fitting cs hs (p ∷ ps) below vs ws [] s h =
    option_and_then_some (λ (r : List Siblings × Values). match_from cs hs ps r.0 r.1) (match_part cs hs p (s ∷ below) vs) ws h
    (λ r e m. top cs hs p ps s below vs ws r e m (fitting cs hs ps below r.1 ws))
fitting cs hs (p ∷ ps) below vs ws (a ∷ over) s h =
    option_and_then_some (λ (r : List Siblings × Values). match_from cs hs ps r.0 r.1) (match_part cs hs p (a ∷ (over ++ s ∷ below)) vs) ws h
    (λ r e m. inside r (kept_part cs hs p a over (s ∷ below) vs r e) m (fitting cs hs ps below r.1 ws))
  where
    inside : (r : List Siblings × Values) → Keeps p (suc (length over)) (s ∷ below) r.0 → match_from cs hs ps r.0 r.1 ≡ Some ws
        → Later cs hs ps below r.1 ws → fits (sign_in (suc (length over)) (p ∷ ps)) (sign_of s.trees) ≡ true
    inside r k m later =
        ap (λ b. fits (if b && is_told p then told p ps else sign_in (depth_behind p (suc (length over))) ps) (sign_of s.trees)) (deeper (length over))
        ∙ ap (λ n. fits (sign_in n ps) (sign_of s.trees)) (sym k.deep)
        ∙ later k.above s (ap (λ (l : List Siblings). match_from cs hs ps l r.1) (sym k.is) ∙ m)

pub refused : (hs : List Hole) (f : Form) (k : SyntaxKind) (s : Siblings) (x : Step) → x ≡ sign_of s.trees
    → fits (sign_in 0 f.inside.items) x ≡ false → match_form hs f k s ≡ None
refused hs f k s x e h = by (is_same_kind f.kind k) (match_parts (comments_by f.template.items) hs f.inside.items (length hs) s) refl
  where
    by : (b : Bool) (o : Option Values) → match_parts (comments_by f.template.items) hs f.inside.items (length hs) s ≡ o → (if b then o else None) ≡ None
    by false o i = refl
    by true None i = refl
    by true (Some ws) i =
        absurd (
        let bad : true ≡ false =
        sym (fitting (comments_by f.template.items) hs f.inside.items [] (replicate (length hs) None) ws [] s i)
        ∙ ap (fits (sign_in 0 f.inside.items)) (sym e) ∙ h in cc
        )

-- ---- the rules one by one

pub next_rule : (rules : List Rule) (n : ℕ) (r : Rule) (k : SyntaxKind) (s : Siblings) (whole : Option (ℕ × ℕ × Values))
    → drop n rules ≡ r ∷ drop (n + 1) rules → None ≡ match_rule r k s → first_from n (drop n rules) k s ≡ whole
    → first_from (n + 1) (drop (n + 1) rules) k s ≡ whole
next_rule rules n r k s whole e h i =
    ap (λ m. first_from m (drop (n + 1) rules) k s) (let up : n + 1 ≡ suc n = omega arith in up)
    ∙ ap (λ (o : Option (ℕ × Values)). option_or (option_map (λ (f : ℕ × Values). (n, f.0, f.1)) o) (first_from (suc n) (drop (n + 1) rules) k s)) h
    ∙ ap (λ (rs : List Rule). first_from n rs k s) (sym e) ∙ i
