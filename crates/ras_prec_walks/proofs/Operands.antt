-- The loop along operands answers what the rules say, and these speak of the children that are
-- meant.
use Rattle.std.proofs.Common.{◌≡◌, ℕ, suc, ◌+◌, ◌++◌, Bool, true, false, ◌&&◌, ◌||◌, cond, List, [], ◌∷◌, map, Option, Some, None, refl, sym, ap, ◌∙◌, arith}
use Rattle.std.specs.Prelude.{if◌then◌else◌, is_some}
use Rattle.std.specs.List.{filter, find, range_with_len}
use Rattle.syntax_kind.specs.declared.syntax_kind.SyntaxKind.{SyntaxKind}
use Rattle.tree_model.specs.Tree.{Tree, node, token, Forest, nil, cons, kind_of, child_count, forest_of_children}
use Rattle.tree_model.specs.Cursor.{Cursor, focus, at_place, at_node, children_of}
use Rattle.ras_node.specs.Lookups.{second_typed_child}
use Rattle.ras_node.specs.Nodes.{kind_at, has_kind_in}
use Rattle.ras_node.specs.PartSets.{is_range_operator}
use Rattle.ras_node.specs.Searches.{behind, first_node, is_token_in}
use Rattle.ras_node.specs.Sets.{is_expr}
use Rattle.ras_node.proofs.NodeWalks.{child, Children, first_child, more_children, children_are}
use Rattle.ras_prec_walks.specs.declared.along.Meant.{Meant}
use Rattle.ras_prec_walks.specs.declared.along.Meant.TheVariants.{First, Second, BehindDots}
use Rattle.ras_prec_walks.specs.declared.along.Toward.{Toward}
use Rattle.ras_prec_walks.specs.declared.along.Toward.TheVariants.{Start, End, Block, Any}
use Rattle.ras_prec_walks.specs.Along.{is_block_like, is_braced, is_block, begins_with_operand, ends_with_operand, last_operand, meant_child, passes, is_expr_tree, is_dots, begins, first_begins, ends, meant_ends, begins_with_block, ends_in_brace}
use Rattle.ras_prec_walks.specs.Parts.{is_block_at, second_of}
use Rattle.ras_prec_walks.specs.Turns.{is_found, goes_on, operand, reaches}
use Rattle.ras_prec_walks.proofs.Steps.{second_listed}

-- ---- the loop

pub begins_so : (f : Forest) → reaches Start First f ≡ first_begins f
begins_so nil = refl
begins_so (cons (token k t) r) = begins_so r
begins_so (cons (node k c) r) =
    ap (λ b. if is_expr k then is_block_like k || (begins_with_operand k && b) else reaches Start First r) (begins_so c)
    ∙ ap (λ b. if is_expr k then is_block_like k || (begins_with_operand k && first_begins c) else b) (begins_so r)

pub ends_so : (m : Meant) (f : Forest) → reaches End m f ≡ meant_ends m f
ends_so First nil = refl
ends_so Second nil = refl
ends_so BehindDots nil = refl
ends_so First (cons (token k t) r) = ends_so First r
ends_so Second (cons (token k t) r) = ends_so Second r
ends_so BehindDots (cons (token k t) r) = by (is_range_operator k) (ends_so First r) (ends_so BehindDots r)
  where
    by : (b : Bool) → reaches End First r ≡ meant_ends First r → reaches End BehindDots r ≡ meant_ends BehindDots r
        → reaches End (if b then First else BehindDots) r ≡ (if b then meant_ends First r else meant_ends BehindDots r)
    by true e g = e
    by false e g = g
ends_so First (cons (node k c) r) =
    ap (λ b. if is_expr k then is_braced k || (ends_with_operand k && b) else reaches End First r) (ends_so (last_operand k) c)
    ∙ ap (λ b. if is_expr k then is_braced k || (ends_with_operand k && meant_ends (last_operand k) c) else b) (ends_so First r)
ends_so Second (cons (node k c) r) =
    ap (λ b. if is_expr k then b else reaches End Second r) (ends_so First r)
    ∙ ap (λ b. if is_expr k then meant_ends First r else b) (ends_so Second r)
ends_so BehindDots (cons (node k c) r) = ends_so BehindDots r

-- ---- a test of the tree that is meant

abbrev meant_holds : (Tree → Bool) → Meant → Forest → Bool
meant_holds test m nil = false
meant_holds test First (cons u r) = if is_expr_tree u then test u else meant_holds test First r
meant_holds test Second (cons u r) = if is_expr_tree u then meant_holds test First r else meant_holds test Second r
meant_holds test BehindDots (cons u r) = if is_dots u then meant_holds test First r else meant_holds test BehindDots r

-- as the rules test a tree, a token too
abbrev begins_at : Tree → Bool
begins_at u = is_block_like (kind_of u) || (begins_with_operand (kind_of u) && first_begins (forest_of_children u))

abbrev ends_at : Tree → Bool
ends_at u = is_braced (kind_of u) || (ends_with_operand (kind_of u) && meant_ends (last_operand (kind_of u)) (forest_of_children u))

begins_told : (f : Forest) → first_begins f ≡ meant_holds begins_at First f
begins_told nil = refl
begins_told (cons (token k t) r) = begins_told r
begins_told (cons (node k c) r) = ap (λ b. if is_expr k then begins (node k c) else b) (begins_told r)

ends_told : (m : Meant) (f : Forest) → meant_ends m f ≡ meant_holds ends_at m f
ends_told First nil = refl
ends_told Second nil = refl
ends_told BehindDots nil = refl
ends_told First (cons (token k t) r) = ends_told First r
ends_told First (cons (node k c) r) = ap (λ b. if is_expr k then ends (node k c) else b) (ends_told First r)
ends_told Second (cons u r) =
    ap (λ b. if is_expr_tree u then b else meant_ends Second r) (ends_told First r)
    ∙ ap (λ b. if is_expr_tree u then meant_holds ends_at First r else b) (ends_told Second r)
ends_told BehindDots (cons u r) =
    ap (λ b. if is_dots u then b else meant_ends BehindDots r) (ends_told First r)
    ∙ ap (λ b. if is_dots u then meant_holds ends_at First r else b) (ends_told BehindDots r)

-- a loop that goes into no child
loop_told : (w : Toward) (test : Tree → Bool) → ((k : SyntaxKind) (c : Forest) → is_found w k || (goes_on w k && reaches w (operand w k) c) ≡ test (node k c)) → (m : Meant) (f : Forest) → reaches w m f ≡ meant_holds test m f
loop_told w test each First nil = refl
loop_told w test each Second nil = refl
loop_told w test each BehindDots nil = refl
loop_told w test each First (cons (token k t) r) = loop_told w test each First r
loop_told w test each Second (cons (token k t) r) = loop_told w test each Second r
loop_told w test each BehindDots (cons (token k t) r) = by (is_range_operator k) (loop_told w test each First r) (loop_told w test each BehindDots r)
  where
    by : (b : Bool) → reaches w First r ≡ meant_holds test First r → reaches w BehindDots r ≡ meant_holds test BehindDots r
        → reaches w (if b then First else BehindDots) r ≡ (if b then meant_holds test First r else meant_holds test BehindDots r)
    by true e g = e
    by false e g = g
loop_told w test each First (cons (node k c) r) =
    ap (λ b. if is_expr k then b else reaches w First r) (each k c)
    ∙ ap (λ b. if is_expr k then test (node k c) else b) (loop_told w test each First r)
loop_told w test each Second (cons (node k c) r) =
    ap (λ b. if is_expr k then b else reaches w Second r) (loop_told w test each First r)
    ∙ ap (λ b. if is_expr k then meant_holds test First r else b) (loop_told w test each Second r)
loop_told w test each BehindDots (cons (node k c) r) = loop_told w test each BehindDots r

-- ---- the same among cursors

-- n children of a node, from number k on
abbrev pub children_from : Cursor → ℕ → ℕ → List Cursor
children_from d k n = map (at_place d) (map (λ i. d.place ++ i ∷ []) (range_with_len k n))

abbrev meant_in : Meant → List Cursor → Option Cursor
meant_in First l = find (has_kind_in is_expr) (filter at_node l)
meant_in Second l = second_of false (filter at_node l)
meant_in BehindDots l = first_node is_expr (behind is_range_operator l)

one_is_first : (cs : List Cursor) → second_of true cs ≡ find (has_kind_in is_expr) cs
one_is_first [] = refl
one_is_first (c ∷ cs) = by (is_expr (kind_at c)) (one_is_first cs)
  where
    by : (b : Bool) → second_of true cs ≡ find (has_kind_in is_expr) cs → (if b then (if true then Some c else second_of true cs) else second_of true cs) ≡ cond b (Some c) (find (has_kind_in is_expr) cs)
    by true e = refl
    by false e = e

first_step : (test : Tree → Bool) (x : Cursor) (l : List Cursor) → passes (λ c. test (focus c)) (meant_in First (x ∷ l)) ≡ (if is_expr_tree (focus x) then test (focus x) else passes (λ c. test (focus c)) (meant_in First l))
first_step test x l = by (at_node x)
  where
    inside : (b : Bool) → passes (λ c. test (focus c)) (cond b (Some x) (find (has_kind_in is_expr) (filter at_node l))) ≡ (if b then test (focus x) else passes (λ c. test (focus c)) (meant_in First l))
    inside true = refl
    inside false = refl

    by : (b : Bool) → passes (λ c. test (focus c)) (find (has_kind_in is_expr) (cond b (x ∷ filter at_node l) (filter at_node l))) ≡ (if b && is_expr (kind_at x) then test (focus x) else passes (λ c. test (focus c)) (meant_in First l))
    by true = inside (is_expr (kind_at x))
    by false = refl

second_step : (test : Tree → Bool) (x : Cursor) (l : List Cursor)
    → passes (λ c. test (focus c)) (meant_in Second (x ∷ l)) ≡ (if is_expr_tree (focus x) then passes (λ c. test (focus c)) (meant_in First l) else passes (λ c. test (focus c)) (meant_in Second l))
second_step test x l = by (at_node x)
  where
    inside : (b : Bool) → passes (λ c. test (focus c)) (if b then (if false then Some x else second_of true (filter at_node l)) else second_of false (filter at_node l))
        ≡ (if b then passes (λ c. test (focus c)) (meant_in First l) else passes (λ c. test (focus c)) (meant_in Second l))
    inside true = ap (passes (λ c. test (focus c))) (one_is_first (filter at_node l))
    inside false = refl

    by : (b : Bool) → passes (λ c. test (focus c)) (second_of false (cond b (x ∷ filter at_node l) (filter at_node l)))
        ≡ (if b && is_expr (kind_at x) then passes (λ c. test (focus c)) (meant_in First l) else passes (λ c. test (focus c)) (meant_in Second l))
    by true = inside (is_expr (kind_at x))
    by false = refl

dots_step : (test : Tree → Bool) (x : Cursor) (l : List Cursor)
    → passes (λ c. test (focus c)) (meant_in BehindDots (x ∷ l)) ≡ (if is_dots (focus x) then passes (λ c. test (focus c)) (meant_in First l) else passes (λ c. test (focus c)) (meant_in BehindDots l))
dots_step test x l = by (is_token_in is_range_operator x)
  where
    by : (b : Bool) → passes (λ c. test (focus c)) (first_node is_expr (if b then l else behind is_range_operator l)) ≡ (if b then passes (λ c. test (focus c)) (meant_in First l) else passes (λ c. test (focus c)) (meant_in BehindDots l))
    by true = refl
    by false = refl

found_among : (test : Tree → Bool) (m : Meant) (d : Cursor) (k : ℕ) (f : Forest) → Children d k f → passes (λ c. test (focus c)) (meant_in m (children_from d k (child_count f))) ≡ meant_holds test m f
found_among test First d k nil same = refl
found_among test Second d k nil same = refl
found_among test BehindDots d k nil same = refl
found_among test First d k (cons u r) same =
    let on : k + 1 ≡ suc k = omega arith in
    first_step test (child d k) (children_from d (k + 1) (child_count r))
    ∙ ap (λ v. if is_expr_tree v then test v else passes (λ c. test (focus c)) (meant_in First (children_from d (k + 1) (child_count r)))) (first_child d k u r same)
    ∙ ap (λ i. if is_expr_tree u then test u else passes (λ c. test (focus c)) (meant_in First (children_from d i (child_count r)))) on
    ∙ ap (λ b. if is_expr_tree u then test u else b) (found_among test First d (suc k) r (more_children d k u r same))
found_among test Second d k (cons u r) same =
    let on : k + 1 ≡ suc k = omega arith in
    second_step test (child d k) (children_from d (k + 1) (child_count r))
    ∙ ap (λ v. if is_expr_tree v then passes (λ c. test (focus c)) (meant_in First (children_from d (k + 1) (child_count r))) else passes (λ c. test (focus c)) (meant_in Second (children_from d (k + 1) (child_count r)))) (first_child d k u r same)
    ∙ ap (λ i. if is_expr_tree u then passes (λ c. test (focus c)) (meant_in First (children_from d i (child_count r))) else passes (λ c. test (focus c)) (meant_in Second (children_from d i (child_count r)))) on
    ∙ ap (λ b. if is_expr_tree u then b else passes (λ c. test (focus c)) (meant_in Second (children_from d (suc k) (child_count r)))) (found_among test First d (suc k) r (more_children d k u r same))
    ∙ ap (λ b. if is_expr_tree u then meant_holds test First r else b) (found_among test Second d (suc k) r (more_children d k u r same))
found_among test BehindDots d k (cons u r) same =
    let on : k + 1 ≡ suc k = omega arith in
    dots_step test (child d k) (children_from d (k + 1) (child_count r))
    ∙ ap (λ v. if is_dots v then passes (λ c. test (focus c)) (meant_in First (children_from d (k + 1) (child_count r))) else passes (λ c. test (focus c)) (meant_in BehindDots (children_from d (k + 1) (child_count r)))) (first_child d k u r same)
    ∙ ap (λ i. if is_dots u then passes (λ c. test (focus c)) (meant_in First (children_from d i (child_count r))) else passes (λ c. test (focus c)) (meant_in BehindDots (children_from d i (child_count r)))) on
    ∙ ap (λ b. if is_dots u then b else passes (λ c. test (focus c)) (meant_in BehindDots (children_from d (suc k) (child_count r)))) (found_among test First d (suc k) r (more_children d k u r same))
    ∙ ap (λ b. if is_dots u then meant_holds test First r else b) (found_among test BehindDots d (suc k) r (more_children d k u r same))

meant_told : (test : Tree → Bool) (m : Meant) (d : Cursor) → passes (λ c. test (focus c)) (meant_child m d) ≡ meant_holds test m (forest_of_children (focus d))
meant_told test First d = found_among test First d 0 (forest_of_children (focus d)) (children_are d)
meant_told test Second d = ap (passes (λ c. test (focus c))) (sym (second_listed (filter at_node (children_of d)))) ∙ found_among test Second d 0 (forest_of_children (focus d)) (children_are d)
meant_told test BehindDots d = found_among test BehindDots d 0 (forest_of_children (focus d)) (children_are d)

-- ---- what the rules say of cursors

pub begins_by_operand : (c : Cursor) → begins_with_block c ≡ begins_with_operand (kind_at c) && passes (λ d. is_block_like (kind_at d) || begins_with_block d) (meant_child First c)
begins_by_operand c = ap (λ b. begins_with_operand (kind_at c) && b) (begins_told (forest_of_children (focus c)) ∙ sym (meant_told begins_at First c))

pub ends_by_operand : (c : Cursor) → ends_in_brace c ≡ is_braced (kind_at c) || (ends_with_operand (kind_at c) && passes ends_in_brace (meant_child (last_operand (kind_at c)) c))
ends_by_operand c = ap (λ b. is_braced (kind_at c) || (ends_with_operand (kind_at c) && b)) (ends_told (last_operand (kind_at c)) (forest_of_children (focus c)) ∙ sym (meant_told ends_at (last_operand (kind_at c)) c))

or-false : (a b : Bool) → a || (false && b) ≡ a
or-false true b = refl
or-false false b = refl

pub block_behind_dots : (c : Cursor) → reaches Block BehindDots (forest_of_children (focus c)) ≡ passes is_block_at (meant_child BehindDots c)
block_behind_dots c =
    loop_told Block (λ u. is_block (kind_of u)) (λ k f. or-false (is_block k) (reaches Block First f)) BehindDots (forest_of_children (focus c))
    ∙ sym (meant_told (λ u. is_block (kind_of u)) BehindDots c)

some_passes : (o : Option Cursor) → passes (λ c. true) o ≡ is_some o
some_passes None = refl
some_passes (Some c) = refl

pub second_meant : (c : Cursor) → reaches Any Second (forest_of_children (focus c)) ≡ is_some (second_typed_child is_expr c)
second_meant c =
    loop_told Any (λ u. true) (λ k f. refl) Second (forest_of_children (focus c))
    ∙ sym (meant_told (λ u. true) Second c)
    ∙ some_passes (second_typed_child is_expr c)
