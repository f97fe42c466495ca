-- A walk that passes over what is below each node that is no `cfg_attr` comes to the metas to which
-- the top opens.
use Rattle.std.proofs.Common.{◌≡◌, ℕ, suc, ◌+◌, ◌≤◌, ◌<◌, ◌++◌, Bool, true, false, ◌&&◌, ◌||◌, cond, List, [], ◌∷◌, map, length, Option, Some, None, refl, sym, ap, ◌∙◌, arith, append_assoc}
use Rattle.std.proofs.lemmas.List.{append-nil}
use Rattle.std.specs.Prelude.{if◌then◌else◌, option_map, not, drop}
use Rattle.std.specs.List.{filter}
use Rattle.std.proofs.lemmas.List.Elements.{filter-append}
use Rattle.syntax_kind.specs.declared.syntax_kind.SyntaxKind.{SyntaxKind}
use Rattle.tree_model.specs.Tree.{Tree, node, token, Forest, nil, cons}
use Rattle.tree_model.specs.Cursor.{Cursor, focus, at_place, moves_at_node, parent_of, ancestors_of, ancestors_from, walk_of}
use Rattle.tree_model.specs.Equality.{is_same_cursor}
use Rattle.tree_model.proofs.AncestorLemmas.{ancestors_of-step}
use Rattle.tree_model.proofs.StepLemmas.{parent_place-append}
use Rattle.lossless_tree.specs.declared.cursor.preorder.WalkEvent.{WalkEvent}
use Rattle.lossless_tree.specs.declared.cursor.preorder.WalkEvent.TheVariants.{Enter, Leave}
use Rattle.lossless_tree.specs.WalkEvent.{node_event}
use Rattle.ras_node.specs.Nodes.{kind_at, has_kind_in}
use Rattle.ras_node.proofs.NodeWalks.{child, itself, deeper, child_deep, events, nodes, walk_told, walk_at_token, descendants_told, descendants_at_token}
use Rattle.ras_node_ext.specs.Metas.{is_cfg_attr, reaches, is_opened, opened}

-- what the walk keeps from here on, and the node below which it passes over what is there, if it
-- does
abbrev pub kept : (SyntaxKind → Bool) → Option Cursor → List (WalkEvent Cursor) → List Cursor
kept metas past [] = []
kept metas None (Enter c ∷ w) = if is_cfg_attr c then kept metas None w else filter (has_kind_in metas) (c ∷ []) ++ kept metas (Some c) w
kept metas None (Leave c ∷ w) = kept metas None w
kept metas (Some p) (Enter c ∷ w) = kept metas (Some p) w
kept metas (Some p) (Leave c ∷ w) = if is_same_cursor c p then kept metas None w else kept metas (Some p) w

-- ---- the nodes above

above : (c : Cursor) → drop 1 (ancestors_of c) ≡ ancestors_from (parent_of c)
above c = ap (drop 1) (ancestors_of-step c)

above_child : (d : Cursor) (i : ℕ) → drop 1 (ancestors_of (child d i)) ≡ ancestors_of d
above_child d i = above (child d i) ∙ ap (λ p. ancestors_from (option_map (at_place (child d i)) p)) (parent_place-append d.place i)

reaches_step : (top c : Cursor) → reaches top (ancestors_of c) ≡ is_cfg_attr c && (is_same_cursor c top || reaches top (drop 1 (ancestors_of c)))
reaches_step top c = ap (reaches top) (ancestors_of-step c) ∙ ap (λ l. is_cfg_attr c && (is_same_cursor c top || reaches top l)) (sym (above c))

-- ---- what is passed over

passed_over : (metas : SyntaxKind → Bool) (p d : Cursor) (i : ℕ) (f : Forest) (w : List (WalkEvent Cursor)) → length p.place ≤ length d.place → kept metas (Some p) (events d i f ++ w) ≡ kept metas (Some p) w
passed_over metas p d i nil w h = refl
passed_over metas p d i (cons (token k t) r) w h = passed_over metas p d (suc i) r w h
passed_over metas p d i (cons (node k c) r) w h =
    let long : length (child d i).place ≡ length d.place + 1 = child_deep d i in
    let under : length p.place ≤ length (child d i).place = omega arith in
    let lower : length p.place < length (child d i).place = omega arith in
    let rest : List (WalkEvent Cursor) = events d (suc i) r ++ w in
    ap (kept metas (Some p)) (append_assoc (events (child d i) 0 c) (Leave (child d i) ∷ events d (suc i) r) w)
    ∙ passed_over metas p (child d i) 0 c (Leave (child d i) ∷ rest) under
    ∙ ap (λ b. if b then kept metas None rest else kept metas (Some p) rest) (deeper (child d i) p lower)
    ∙ passed_over metas p d (suc i) r w h

-- ---- what is kept

and_false : (a : Bool) → a && false ≡ false
and_false true = refl
and_false false = refl

or_true : (a : Bool) → a || true ≡ true
or_true true = refl
or_true false = refl

-- below a node from which one does not go up to the top there is nothing
none_below : (metas : SyntaxKind → Bool) (top d : Cursor) (i : ℕ) (f : Forest) → length top.place ≤ length d.place → reaches top (ancestors_of d) ≡ false → filter (is_opened metas top) (nodes d i f) ≡ []
none_below metas top d i nil h e = refl
none_below metas top d i (cons (token k t) r) h e = none_below metas top d (suc i) r h e
none_below metas top d i (cons (node k c) r) h e =
    let x : Cursor = child d i in
    let long : length x.place ≡ length d.place + 1 = child_deep d i in
    let under : length top.place ≤ length x.place = omega arith in
    let lower : length top.place < length x.place = omega arith in
    let rest : List Cursor = nodes x 0 c ++ nodes d (suc i) r in
    let away : is_same_cursor x top || reaches top (drop 1 (ancestors_of x)) ≡ false =
    ap (λ b. b || reaches top (drop 1 (ancestors_of x))) (deeper x top lower)
    ∙ ap (reaches top) (above_child d i)
    ∙ e
    in
    let below : reaches top (ancestors_of x) ≡ false = reaches_step top x ∙ ap (λ b. is_cfg_attr x && b) away ∙ and_false (is_cfg_attr x) in
    ap (λ b. cond (metas (kind_at x) && (not (is_cfg_attr x) && b)) (x ∷ filter (is_opened metas top) rest) (filter (is_opened metas top) rest)) away
    ∙ ap (λ b. cond (metas (kind_at x) && b) (x ∷ filter (is_opened metas top) rest) (filter (is_opened metas top) rest)) (and_false (not (is_cfg_attr x)))
    ∙ ap (λ b. cond b (x ∷ filter (is_opened metas top) rest) (filter (is_opened metas top) rest)) (and_false (metas (kind_at x)))
    ∙ filter-append (is_opened metas top) (nodes x 0 c) (nodes d (suc i) r)
    ∙ ap (λ l. l ++ filter (is_opened metas top) (nodes d (suc i) r)) (none_below metas top x 0 c under below)
    ∙ none_below metas top d (suc i) r h e

-- a node to which the walk comes: all above it up to the top are `cfg_attr`s, or it is the top
comes_to : (metas : SyntaxKind → Bool) (top x : Cursor) (c : Forest) (w : List (WalkEvent Cursor)) → length top.place ≤ length x.place → is_same_cursor x top || reaches top (drop 1 (ancestors_of x)) ≡ true
    → (reaches top (ancestors_of x) ≡ true → kept metas None (events x 0 c ++ Leave x ∷ w) ≡ filter (is_opened metas top) (nodes x 0 c) ++ kept metas None w)
    → kept metas None (Enter x ∷ (events x 0 c ++ Leave x ∷ w)) ≡ filter (is_opened metas top) (x ∷ nodes x 0 c) ++ kept metas None w
comes_to metas top x c w h up inner = by (is_cfg_attr x) (metas (kind_at x)) (is_same_cursor x top || reaches top (drop 1 (ancestors_of x))) refl up
  where
    within : (a : Bool) → is_cfg_attr x ≡ a → reaches top (ancestors_of x) ≡ a && true
    within a e = reaches_step top x ∙ ap (λ b. is_cfg_attr x && b) up ∙ ap (λ b. b && true) e

    closed : is_cfg_attr x ≡ false → kept metas (Some x) (events x 0 c ++ Leave x ∷ w) ≡ filter (is_opened metas top) (nodes x 0 c) ++ kept metas None w
    closed e =
        passed_over metas x x 0 c (Leave x ∷ w) (omega arith)
        ∙ ap (λ b. if b then kept metas None w else kept metas (Some x) w) (itself x)
        ∙ ap (λ l. l ++ kept metas None w) (sym (none_below metas top x 0 c h (within false e)))

    by : (a m u : Bool) → is_cfg_attr x ≡ a → u ≡ true
        → (if a then kept metas None (events x 0 c ++ Leave x ∷ w) else cond m (x ∷ []) [] ++ kept metas (Some x) (events x 0 c ++ Leave x ∷ w))
        ≡ cond (m && (not a && u)) (x ∷ filter (is_opened metas top) (nodes x 0 c)) (filter (is_opened metas top) (nodes x 0 c)) ++ kept metas None w
    by true true true e g = inner (within true e)
    by true false true e g = inner (within true e)
    by false true true e g = ap (λ l. x ∷ l) (closed e)
    by false false true e g = closed e
    by true true false e g = absurd (let bad : false ≡ true = g in cc)
    by true false false e g = absurd (let bad : false ≡ true = g in cc)
    by false true false e g = absurd (let bad : false ≡ true = g in cc)
    by false false false e g = absurd (let bad : false ≡ true = g in cc)

kept_below : (metas : SyntaxKind → Bool) (top d : Cursor) (i : ℕ) (f : Forest) (w : List (WalkEvent Cursor)) → length top.place ≤ length d.place → reaches top (ancestors_of d) ≡ true → kept metas None (events d i f ++ w) ≡ filter (is_opened metas top) (nodes d i f) ++ kept metas None w
kept_below metas top d i nil w h e = refl
kept_below metas top d i (cons (token k t) r) w h e = kept_below metas top d (suc i) r w h e
kept_below metas top d i (cons (node k c) r) w h e =
    let x : Cursor = child d i in
    let long : length x.place ≡ length d.place + 1 = child_deep d i in
    let under : length top.place ≤ length x.place = omega arith in
    let up : is_same_cursor x top || reaches top (drop 1 (ancestors_of x)) ≡ true =
    ap (λ b. is_same_cursor x top || b) (ap (reaches top) (above_child d i) ∙ e) ∙ or_true (is_same_cursor x top)
    in
    let here : List Cursor = filter (is_opened metas top) (x ∷ nodes x 0 c) in
    let later : List Cursor = filter (is_opened metas top) (nodes d (suc i) r) in
    ap (λ l. kept metas None (Enter x ∷ l)) (append_assoc (events x 0 c) (Leave x ∷ events d (suc i) r) w)
    ∙ comes_to metas top x c (events d (suc i) r ++ w) under up (λ a. kept_below metas top x 0 c (Leave x ∷ (events d (suc i) r ++ w)) under a)
    ∙ ap (λ l. here ++ l) (kept_below metas top d (suc i) r w h e)
    ∙ sym (append_assoc here later (kept metas None w))
    ∙ ap (λ l. l ++ kept metas None w) (sym (filter-append (is_opened metas top) (x ∷ nodes x 0 c) (nodes d (suc i) r)))

-- the walk of the whole keeps what it opens to
pub kept_so : (metas : SyntaxKind → Bool) (top : Cursor) → kept metas None (map node_event (filter moves_at_node (walk_of top))) ≡ opened metas top
kept_so metas top = by (focus top) refl
  where
    whole : is_same_cursor top top || reaches top (drop 1 (ancestors_of top)) ≡ true
    whole = ap (λ b. b || reaches top (drop 1 (ancestors_of top))) (itself top)

    by : (t : Tree) → focus top ≡ t → kept metas None (map node_event (filter moves_at_node (walk_of top))) ≡ opened metas top
    by (token k t) e = ap (kept metas None) (walk_at_token top k t e) ∙ sym (ap (filter (is_opened metas top)) (descendants_at_token top k t e))
    by (node k c) e =
        ap (kept metas None) (walk_told top k c e)
        ∙ comes_to metas top top c [] (omega arith) whole (λ a. kept_below metas top top 0 c (Leave top ∷ []) (omega arith) a)
        ∙ append-nil (filter (is_opened metas top) (top ∷ nodes top 0 c))
        ∙ sym (ap (filter (is_opened metas top)) (descendants_told top k c e))
