-- What is passed over, and pairs of parentheses round a node.
use Rattle.std.proofs.Common.{◌≡◌, ℕ, suc, ◌+◌, ◌<◌, ◌≤◌, Bool, true, false, ◌&&◌, length, refl, ◌∙◌, ap, arith}
use Rattle.std.specs.Prelude.{if◌then◌else◌}
use Rattle.syntax_kind.specs.declared.syntax_kind.SyntaxKind.{SyntaxKind}
use Rattle.syntax_kind.specs.declared.syntax_kind.TheConstants.SyntaxKind.{PAREN_EXPR, L_PAREN}
use Rattle.tree_model.specs.Tree.{node, token, Forest, nil, cons, kind_of, text, is_token, forest_of_children, forest_size}
use Rattle.lossless_tree.specs.Trees.{Siblings, first_of, rest_of, behind_first}
use Rattle.tree_match.specs.declared.bare.Comments.{Comments}
use Rattle.tree_match.specs.Bare.{is_passed, past_trees, past_start, past, is_token_of, is_node_there, is_node_of, opening, held, opens, closes, is_pair, inner, bare}

pub and_left : (a b : Bool) → (a && b) ≡ true → a ≡ true
and_left true b h = refl
and_left false b h = h

pub and_right : (a b : Bool) → (a && b) ≡ true → b ≡ true
and_right true b h = h
and_right false b h = absurd (let bad : false ≡ true = h in cc)

abbrev pub at : Forest → ℕ → Siblings
at f b = record { trees = f; start = b }

-- ---- what is passed over

-- one that is passed over
past_one : (cs : Comments) (f : Forest) (b : ℕ) → is_token (first_of f) ≡ true → is_passed cs (kind_of (first_of f)) ≡ true
    → past cs (behind_first (at f b)) ≡ past cs (at f b)
past_one cs nil b t p = absurd (let bad : false ≡ true = t in cc)
past_one cs (cons (node k c) r) b t p = absurd (let bad : false ≡ true = t in cc)
past_one cs (cons (token k s) r) b t p = by (is_passed cs k) p
  where
    by : (x : Bool) → x ≡ true
        → past cs (at r (b + length s))
        ≡ at (if x then past_trees cs r else cons (token k s) r) (if x then past_start cs r (b + length s) else b)
    by true h = refl
    by false h = absurd (let bad : false ≡ true = h in cc)

pub past_step : (cs : Comments) (s : Siblings) → is_token (first_of s.trees) ≡ true → is_passed cs (kind_of (first_of s.trees)) ≡ true
    → past cs (behind_first s) ≡ past cs s
past_step cs s t p = past_one cs s.trees s.start t p

-- one that counts
past_none : (cs : Comments) (f : Forest) (b : ℕ) → (is_token (first_of f) && is_passed cs (kind_of (first_of f))) ≡ false
    → (at f b) ≡ past cs (at f b)
past_none cs nil b h = refl
past_none cs (cons (node k c) r) b h = refl
past_none cs (cons (token k s) r) b h = by (is_passed cs k) h
  where
    by : (x : Bool) → x ≡ false
        → (at (cons (token k s) r) b)
        ≡ at (if x then past_trees cs r else cons (token k s) r) (if x then past_start cs r (b + length s) else b)
    by false h = refl
    by true h = absurd (let bad : true ≡ false = h in cc)

pub past_token_stop : (cs : Comments) (s : Siblings) → is_token (first_of s.trees) ≡ false → s ≡ past cs s
past_token_stop cs s t = past_none cs s.trees s.start (ap (λ x. x && is_passed cs (kind_of (first_of s.trees))) t)

pub past_kind_stop : (cs : Comments) (s : Siblings) → is_passed cs (kind_of (first_of s.trees)) ≡ false → s ≡ past cs s
past_kind_stop cs s p = past_none cs s.trees s.start (both (is_token (first_of s.trees)) p)
  where
    both : (x : Bool) → is_passed cs (kind_of (first_of s.trees)) ≡ false → (x && is_passed cs (kind_of (first_of s.trees))) ≡ false
    both true h = h
    both false h = refl

-- ---- sizes

pub past_smaller : (cs : Comments) (f : Forest) → forest_size (past_trees cs f) ≤ forest_size f
past_smaller cs nil = omega arith
past_smaller cs (cons (node k c) r) = omega arith
past_smaller cs (cons (token k s) r) = by (is_passed cs k) (past_smaller cs r)
  where
    by : (x : Bool) → forest_size (past_trees cs r) ≤ forest_size r
        → forest_size (if x then past_trees cs r else cons (token k s) r) ≤ suc (forest_size r)
    by true h = omega (arith, h)
    by false h = omega arith

pub rest_smaller : (f : Forest) → forest_size (rest_of f) ≤ forest_size f
rest_smaller nil = omega arith
rest_smaller (cons (node k c) r) = omega arith
rest_smaller (cons (token k s) r) = omega arith

pub children_smaller : (f : Forest) → is_node_there f ≡ true → forest_size (forest_of_children (first_of f)) < forest_size f
children_smaller nil h = absurd (let bad : false ≡ true = h in cc)
children_smaller (cons (node k c) r) h = omega arith
children_smaller (cons (token k s) r) h = absurd (let bad : false ≡ true = h in cc)

pub held_smaller : (cs : Comments) (s : Siblings) → is_pair cs s ≡ true → forest_size (held cs s).trees < forest_size s.trees
held_smaller cs s h =
    let there = and_left (is_node_there s.trees) _ (and_left (is_node_of PAREN_EXPR s.trees) _ h) in
    omega (
      arith,
      children_smaller s.trees there,
      past_smaller cs (forest_of_children (first_of s.trees)),
      rest_smaller (past_trees cs (forest_of_children (first_of s.trees))),
      past_smaller cs (rest_of (past_trees cs (forest_of_children (first_of s.trees)))),
    )

-- ---- pairs

pub inner_past : (cs : Comments) (f : Forest) (b : ℕ) → inner cs (past_trees cs f) (past_start cs f b) ≡ inner cs f b
inner_past cs nil b = refl
inner_past cs (cons (node k c) r) b = refl
inner_past cs (cons (token k s) r) b = by (is_passed cs k) (inner_past cs r (b + length s))
  where
    by : (x : Bool) → inner cs (past_trees cs r) (past_start cs r (b + length s)) ≡ inner cs r (b + length s)
        → inner cs (if x then past_trees cs r else cons (token k s) r) (if x then past_start cs r (b + length s) else b) ≡ inner cs r (b + length s)
    by true h = h
    by false h = refl

inner_token : (cs : Comments) (k : SyntaxKind) (f : Forest) (b : ℕ) → is_token_of k f ≡ true
    → inner cs (rest_of f) (b + length (text (first_of f))) ≡ inner cs f b
inner_token cs k nil b h = absurd (let bad : false ≡ true = h in cc)
inner_token cs k (cons (node l c) r) b h = absurd (let bad : false ≡ true = h in cc)
inner_token cs k (cons (token l s) r) b h = refl

inner_held : (cs : Comments) (s : Siblings) → is_token_of L_PAREN (opening cs s).trees ≡ true
    → inner cs (held cs s).trees (held cs s).start ≡ inner cs (forest_of_children (first_of s.trees)) s.start
inner_held cs s h =
    inner_past cs (rest_of (opening cs s).trees) ((opening cs s).start + length (text (first_of (opening cs s).trees)))
    ∙ inner_token cs L_PAREN (opening cs s).trees (opening cs s).start h
    ∙ inner_past cs (forest_of_children (first_of s.trees)) s.start

-- a pair stands for what is in it
pair_at : (cs : Comments) (f : Forest) (b : ℕ) → is_pair cs (at f b) ≡ true
    → inner cs (forest_of_children (first_of f)) b ≡ bare cs (at f b)
pair_at cs nil b h = absurd (let bad : false ≡ true = h in cc)
pair_at cs (cons (token k s) r) b h = absurd (let bad : false ≡ true = h in cc)
pair_at cs (cons (node k c) r) b h = by (is_pair cs (at (cons (node k c) r) b)) h
  where
    by : (x : Bool) → x ≡ true → inner cs c b ≡ (if x then inner cs c b else (at (cons (node k c) r) b))
    by true h = refl
    by false h = absurd (let bad : false ≡ true = h in cc)

there_at : (cs : Comments) (s : Siblings) → is_node_there s.trees ≡ true → bare cs s ≡ inner cs s.trees s.start
there_at cs s h = ap (λ x. if x then inner cs s.trees s.start else s) h

pub bare_step : (cs : Comments) (s : Siblings) → is_pair cs s ≡ true → bare cs (held cs s) ≡ bare cs s
bare_step cs s h =
    let o = and_left (opens cs s) (closes cs s) (and_right (is_node_of PAREN_EXPR s.trees) _ h) in
    there_at cs (held cs s) (and_right (is_token_of L_PAREN (opening cs s).trees) _ o)
    ∙ inner_held cs s (and_left (is_token_of L_PAREN (opening cs s).trees) _ o)
    ∙ pair_at cs s.trees s.start h

none_at : (cs : Comments) (f : Forest) (b : ℕ) → is_pair cs (at f b) ≡ false
    → (at f b) ≡ bare cs (at f b)
none_at cs nil b h = refl
none_at cs (cons (token k s) r) b h = refl
none_at cs (cons (node k c) r) b h = by (is_pair cs (at (cons (node k c) r) b)) h
  where
    by : (x : Bool) → x ≡ false
        → (at (cons (node k c) r) b) ≡ (if x then inner cs c b else (at (cons (node k c) r) b))
    by false h = refl
    by true h = absurd (let bad : true ≡ false = h in cc)

pub bare_stop : (cs : Comments) (s : Siblings) → is_pair cs s ≡ false → s ≡ bare cs s
bare_stop cs s h = none_at cs s.trees s.start h
