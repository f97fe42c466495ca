-- What is sought is in a node where the node is it, or where one of its open operands has it.
use Rattle.std.proofs.Common.{◌≡◌, ℕ, zero, suc, ◌+◌, ◌≤◌, ◌<◌, ◌++◌, Bool, true, false, ◌&&◌, ◌||◌, cond, List, [], ◌∷◌, length, Option, Some, None, refl, sym, ap, subst, ◌∙◌, arith}
use Rattle.std.specs.Prelude.{slice_get, ⊤}
use Rattle.std.specs.List.{filter, find, list_any}
use Rattle.syntax_kind.specs.declared.syntax_kind.SyntaxKind.{SyntaxKind}
use Rattle.syntax_kind.specs.declared.syntax_kind.SyntaxKind.TheVariants.{Node}
use Rattle.syntax_kind.specs.declared.syntax_kind.node_kind.NodeKind.TheVariants as kind
use Rattle.tree_model.specs.Tree.{Tree, node, token, Forest, nil, cons, is_node, child_count, forest_of_children}
use Rattle.tree_model.specs.Cursor.{Cursor, focus, at_node, parent_of, ancestors_of, children_of, descendants_of}
use Rattle.tree_model.specs.Equality.{is_same_cursor}
use Rattle.tree_model.specs.EqualityLaws.{cursor_Decides}
use Rattle.ras_node.specs.Lookups.{second_typed_child}
use Rattle.ras_node.specs.Nodes.{kind_at, has_kind_in, is_of_kind, typed_child}
use Rattle.ras_node.specs.Sets.{is_expr}
use Rattle.ras_node.proofs.NodeWalks.{child, Children, first_child, more_children, children_are, itself, deeper, child_deep, nodes, descendants_told}
use Rattle.ras_prec_walks.specs.declared.inside.Sought.{Sought}
use Rattle.ras_prec_walks.specs.declared.inside.Sought.TheVariants.{Record, Let}
use Rattle.ras_prec_walks.specs.Along.{passes}
use Rattle.ras_prec_walks.specs.Inside.{is_base, is_side, is_operand, opens, is_step, lacks_side, is_sought, leads_up, holds, has_exterior_record, has_let, side_passes, operand_passes}
use Rattle.ras_prec_walks.specs.Parts.{is_it, is_and}
use Rattle.ras_prec_walks.proofs.Operands.{children_from}
use Rattle.ras_prec_walks.proofs.PassedOver.{holds-append, child_parent, child_leads, top_leads}

-- ---- below a child one goes up to the top by way of the child

up_by : (s : Sought) (top u d : Cursor) (j : ℕ) (b : Bool) → length top.place < length u.place → length u.place ≤ length d.place
    → leads_up s top (ancestors_of d) ≡ leads_up s u (ancestors_of d) && b → leads_up s top (ancestors_of (child d j)) ≡ leads_up s u (ancestors_of (child d j)) && b
up_by s top u d j b h g e =
    let long : length (child d j).place ≡ length d.place + 1 = child_deep d j in
    let under : length u.place < length (child d j).place = omega arith in
    let lower : length top.place < length (child d j).place = omega arith in
    child_leads s top d j
    ∙ ap (λ x. x || (is_step s (child d j) (parent_of (child d j)) && leads_up s top (ancestors_of d))) (deeper (child d j) top lower)
    ∙ ap (λ x. is_step s (child d j) (parent_of (child d j)) && x) e
    ∙ moved (is_step s (child d j) (parent_of (child d j))) (leads_up s u (ancestors_of d)) b
    ∙ ap (λ x. (x || (is_step s (child d j) (parent_of (child d j)) && leads_up s u (ancestors_of d))) && b) (sym (deeper (child d j) u under))
    ∙ ap (λ x. x && b) (sym (child_leads s u d j))
  where
    moved : (a l b : Bool) → a && (l && b) ≡ (false || (a && l)) && b
    moved true l b = refl
    moved false l b = refl

held_by : (s : Sought) (top u d : Cursor) (j : ℕ) (f : Forest) (b : Bool) → length top.place < length u.place → length u.place ≤ length d.place
    → leads_up s top (ancestors_of d) ≡ leads_up s u (ancestors_of d) && b → holds s top (nodes d j f) ≡ holds s u (nodes d j f) && b
held_by s top u d j nil b h g e = refl
held_by s top u d j (cons (token k t) r) b h g e = held_by s top u d (suc j) r b h g e
held_by s top u d j (cons (node k c) r) b h g e =
    let long : length (child d j).place ≡ length d.place + 1 = child_deep d j in
    let under : length u.place ≤ length (child d j).place = omega arith in
    let up : leads_up s top (ancestors_of (child d j)) ≡ leads_up s u (ancestors_of (child d j)) && b = up_by s top u d j b h g e in
    ap (λ x. (is_sought s (child d j) && x) || holds s top (nodes (child d j) 0 c ++ nodes d (suc j) r)) up
    ∙ ap (λ x. (is_sought s (child d j) && (leads_up s u (ancestors_of (child d j)) && b)) || x) (holds-append s top (nodes (child d j) 0 c) (nodes d (suc j) r))
    ∙ ap (λ x. (is_sought s (child d j) && (leads_up s u (ancestors_of (child d j)) && b)) || (x || holds s top (nodes d (suc j) r))) (held_by s top u (child d j) 0 c b h under up)
    ∙ ap (λ x. (is_sought s (child d j) && (leads_up s u (ancestors_of (child d j)) && b)) || ((holds s u (nodes (child d j) 0 c) && b) || x)) (held_by s top u d (suc j) r b h g e)
    ∙ all (is_sought s (child d j)) (leads_up s u (ancestors_of (child d j))) (holds s u (nodes (child d j) 0 c)) (holds s u (nodes d (suc j) r)) b
    ∙ ap (λ x. ((is_sought s (child d j) && leads_up s u (ancestors_of (child d j))) || x) && b) (sym (holds-append s u (nodes (child d j) 0 c) (nodes d (suc j) r)))
  where
    all : (q l x y b : Bool) → (q && (l && b)) || ((x && b) || (y && b)) ≡ ((q && l) || (x || y)) && b
    all true true x y true = refl
    all true true true true false = refl
    all true true true false false = refl
    all true true false true false = refl
    all true true false false false = refl
    all true false true y true = refl
    all true false true true false = refl
    all true false true false false = refl
    all true false false true b = or_false b
      where
        or_false : (b : Bool) → false || b ≡ b
        or_false b = refl
    all true false false false b = refl
    all false l true y true = refl
    all false l true true false = refl
    all false l true false false = refl
    all false l false y b = refl

-- ---- a node and those below it

abbrev has : Sought → Cursor → Bool
has s c = holds s c (filter at_node (descendants_of c))

has_so : (s : Sought) (top : Cursor) (k : SyntaxKind) (c : Forest) → focus top ≡ node k c → has s top ≡ is_sought s top || holds s top (nodes top 0 c)
has_so s top k c e =
    ap (holds s top) (descendants_told top k c e)
    ∙ ap (λ b. (is_sought s top && b) || holds s top (nodes top 0 c)) (top_leads s top)
    ∙ plain (is_sought s top) (holds s top (nodes top 0 c))
  where
    plain : (q x : Bool) → (q && true) || x ≡ q || x
    plain true x = refl
    plain false x = refl

-- ---- among the children, as nodes and as they are listed

abbrev some_open : Sought → Cursor → Cursor → Bool
some_open s top u = has s u && opens s u top

kid_leads : (s : Sought) (top : Cursor) (i : ℕ) → leads_up s top (ancestors_of (child top i)) ≡ opens s (child top i) top
kid_leads s top i =
    let long : length (child top i).place ≡ length top.place + 1 = child_deep top i in
    let lower : length top.place < length (child top i).place = omega arith in
    child_leads s top top i
    ∙ ap (λ x. x || (is_step s (child top i) (parent_of (child top i)) && leads_up s top (ancestors_of top))) (deeper (child top i) top lower)
    ∙ ap (λ x. is_step s (child top i) (parent_of (child top i)) && x) (top_leads s top)
    ∙ ap (λ o. is_step s (child top i) o && true) (child_parent top i)
    ∙ and_true (opens s (child top i) top)
  where
    and_true : (a : Bool) → a && true ≡ a
    and_true true = refl
    and_true false = refl

kids_have : (s : Sought) (top : Cursor) (i : ℕ) (f : Forest) → Children top i f → holds s top (nodes top i f) ≡ list_any (some_open s top) (filter at_node (children_from top i (child_count f)))
kids_have s top i nil same = refl
kids_have s top i (cons (token k t) r) same =
    let on : i + 1 ≡ suc i = omega arith in
    kids_have s top (suc i) r (more_children top i (token k t) r same)
    ∙ ap (λ j. list_any (some_open s top) (filter at_node (children_from top j (child_count r)))) (sym on)
    ∙ ap (λ u. list_any (some_open s top) (cond (is_node u) (child top i ∷ filter at_node (children_from top (i + 1) (child_count r))) (filter at_node (children_from top (i + 1) (child_count r))))) (sym (first_child top i (token k t) r same))
kids_have s top i (cons (node k c) r) same =
    let on : i + 1 ≡ suc i = omega arith in
    let here : focus (child top i) ≡ node k c = first_child top i (node k c) r same in
    let long : length (child top i).place ≡ length top.place + 1 = child_deep top i in
    let lower : length top.place < length (child top i).place = omega arith in
    let by : leads_up s top (ancestors_of (child top i)) ≡ leads_up s (child top i) (ancestors_of (child top i)) && opens s (child top i) top =
    kid_leads s top i ∙ ap (λ x. x && opens s (child top i) top) (sym (top_leads s (child top i)))
    in
    ap (λ x. (is_sought s (child top i) && x) || holds s top (nodes (child top i) 0 c ++ nodes top (suc i) r)) (kid_leads s top i)
    ∙ ap (λ x. (is_sought s (child top i) && opens s (child top i) top) || x) (holds-append s top (nodes (child top i) 0 c) (nodes top (suc i) r))
    ∙ ap (λ x. (is_sought s (child top i) && opens s (child top i) top) || (x || holds s top (nodes top (suc i) r))) (held_by s top (child top i) (child top i) 0 c (opens s (child top i) top) lower (omega arith) by)
    ∙ joined (is_sought s (child top i)) (holds s (child top i) (nodes (child top i) 0 c)) (opens s (child top i) top) (holds s top (nodes top (suc i) r))
    ∙ ap (λ x. (x && opens s (child top i) top) || holds s top (nodes top (suc i) r)) (sym (has_so s (child top i) k c here))
    ∙ ap (λ x. some_open s top (child top i) || x) (kids_have s top (suc i) r (more_children top i (node k c) r same))
    ∙ ap (λ j. some_open s top (child top i) || list_any (some_open s top) (filter at_node (children_from top j (child_count r)))) (sym on)
    ∙ ap (λ u. list_any (some_open s top) (cond (is_node u) (child top i ∷ filter at_node (children_from top (i + 1) (child_count r))) (filter at_node (children_from top (i + 1) (child_count r))))) (sym here)
  where
    joined : (q x b y : Bool) → (q && b) || ((x && b) || y) ≡ ((q || x) && b) || y
    joined true true true y = refl
    joined true true false y = refl
    joined true false true y = refl
    joined true false false y = refl
    joined false x b y = refl

children_have : (s : Sought) (top : Cursor) → at_node top ≡ true → has s top ≡ is_sought s top || list_any (some_open s top) (filter at_node (children_of top))
children_have s top h = by (focus top) refl h
  where
    by : (t : Tree) → focus top ≡ t → is_node t ≡ true → has s top ≡ is_sought s top || list_any (some_open s top) (filter at_node (children_of top))
    by (token k t) e n = absurd (let bad : false ≡ true = n in cc)
    by (node k c) e n =
        let P : Tree → Type 0 = λ v. Children top 0 (forest_of_children v) in
        let kids : Children top 0 c = subst P e (children_are top) in
        has_so s top k c e
        ∙ ap (λ x. is_sought s top || x) (kids_have s top 0 c kids)
        ∙ ap (λ v. is_sought s top || list_any (some_open s top) (filter at_node (children_from top 0 (child_count (forest_of_children v))))) (sym e)

-- ---- the operands that are meant

abbrev is_the : Cursor → Cursor → Bool
is_the d u = is_same_cursor d u

the_one : (test : Cursor → Bool) (d : Cursor) (l : List Cursor) → list_any (λ u. test u && is_same_cursor d u) l ≡ test d && list_any (is_the d) l
the_one test d [] = and_false (test d)
  where
    and_false : (a : Bool) → false ≡ a && false
    and_false true = refl
    and_false false = refl
the_one test d (u ∷ l) =
    ap (λ x. (test u && is_same_cursor d u) || x) (the_one test d l)
    ∙ by (is_same_cursor d u) refl
  where
    spread : (a x : Bool) → (a && true) || (a && x) ≡ a && true
    spread true x = refl
    spread false x = refl

    skip : (a t x : Bool) → (t && false) || (a && x) ≡ a && x
    skip a true x = refl
    skip a false x = refl

    by : (b : Bool) → is_same_cursor d u ≡ b → (test u && is_same_cursor d u) || (test d && list_any (is_the d) l) ≡ test d && (is_same_cursor d u || list_any (is_the d) l)
    by true e =
        let same : d ≡ u = (cursor_Decides d u).0 e in
        ap (λ b. (test u && b) || (test d && list_any (is_the d) l)) e
        ∙ ap (λ v. (test v && true) || (test d && list_any (is_the d) l)) (sym same)
        ∙ spread (test d) (list_any (is_the d) l)
        ∙ ap (λ b. test d && (b || list_any (is_the d) l)) (sym e)
    by false e =
        ap (λ b. (test u && b) || (test d && list_any (is_the d) l)) e
        ∙ skip (test d) (test u) (list_any (is_the d) l)
        ∙ ap (λ b. test d && (b || list_any (is_the d) l)) (sym e)

-- one that was found is among them
abbrev among : Option Cursor → List Cursor → Type 0
among None l = ⊤
among (Some d) l = list_any (is_the d) l ≡ true

meant : (test : Cursor → Bool) (o : Option Cursor) (l : List Cursor) → among o l → list_any (λ u. test u && is_it u o) l ≡ passes test o
meant test None l e = none l
  where
    and_false : (a b : Bool) → (a && false) || b ≡ b
    and_false true b = refl
    and_false false b = refl

    none : (l : List Cursor) → list_any (λ u. test u && is_it u None) l ≡ false
    none [] = refl
    none (u ∷ l) = and_false (test u) (list_any (λ u. test u && is_it u None) l) ∙ none l
meant test (Some d) l e = the_one test d l ∙ ap (λ b. test d && b) e ∙ and_true (test d)
  where
    and_true : (a : Bool) → a && true ≡ a
    and_true true = refl
    and_true false = refl

kept_among : (p : Cursor → Bool) (d : Cursor) (l : List Cursor) → list_any (is_the d) (filter p l) ≡ true → list_any (is_the d) l ≡ true
kept_among p d [] e = e
kept_among p d (u ∷ l) e = by (p u) (kept_among p d l) e
  where
    or_true : (a b : Bool) → b ≡ true → a || b ≡ true
    or_true true b h = refl
    or_true false b h = h

    or_same : (a x y : Bool) → (x ≡ true → y ≡ true) → a || x ≡ true → a || y ≡ true
    or_same true x y f h = refl
    or_same false x y f h = f h

    by : (b : Bool) → (list_any (is_the d) (filter p l) ≡ true → list_any (is_the d) l ≡ true)
        → list_any (is_the d) (cond b (u ∷ filter p l) (filter p l)) ≡ true → is_same_cursor d u || list_any (is_the d) l ≡ true
    by true more h = or_same (is_same_cursor d u) (list_any (is_the d) (filter p l)) (list_any (is_the d) l) more h
    by false more h = or_true (is_same_cursor d u) (list_any (is_the d) l) (more h)

first_among : (p : Cursor → Bool) (l : List Cursor) → among (find p l) l
first_among p [] = tt
first_among p (u ∷ l) = by (p u) (first_among p l)
  where
    more : (o : Option Cursor) → among o l → among o (u ∷ l)
    more None h = tt
    more (Some d) h = or_true (is_same_cursor d u) (list_any (is_the d) l) h
      where
        or_true : (a b : Bool) → b ≡ true → a || b ≡ true
        or_true true b h = refl
        or_true false b h = h

    by : (b : Bool) → among (find p l) l → among (cond b (Some u) (find p l)) (u ∷ l)
    by true h = ap (λ b. b || list_any (is_the u) l) (itself u)
    by false h = more (find p l) h

got_among : (n : ℕ) (l : List Cursor) → among (slice_get l n) l
got_among n [] = tt
got_among zero (u ∷ l) = ap (λ b. b || list_any (is_the u) l) (itself u)
got_among (suc n) (u ∷ l) = more (slice_get l n) (got_among n l)
  where
    more : (o : Option Cursor) → among o l → among o (u ∷ l)
    more None h = tt
    more (Some d) h = or_true (is_same_cursor d u) (list_any (is_the d) l) h
      where
        or_true : (a b : Bool) → b ≡ true → a || b ≡ true
        or_true true b h = refl
        or_true false b h = h

second_among : (p : Cursor → Bool) (l : List Cursor) → among (slice_get (filter p l) 1) l
second_among p l = by (slice_get (filter p l) 1) (got_among 1 (filter p l))
  where
    by : (o : Option Cursor) → among o (filter p l) → among o l
    by None h = tt
    by (Some d) h = kept_among p d l h

-- ---- by the kinds of expressions

any_or : (f g : Cursor → Bool) (l : List Cursor) → list_any (λ u. f u || g u) l ≡ list_any f l || list_any g l
any_or f g [] = refl
any_or f g (u ∷ l) = ap (λ x. (f u || g u) || x) (any_or f g l) ∙ by (f u) (g u) (list_any f l) (list_any g l)
  where
    by : (a b x y : Bool) → (a || b) || (x || y) ≡ (a || x) || (b || y)
    by true b x y = refl
    by false true true y = refl
    by false true false y = refl
    by false false x y = refl

any_same : (f g : Cursor → Bool) → ((u : Cursor) → f u ≡ g u) → (l : List Cursor) → list_any f l ≡ list_any g l
any_same f g e [] = refl
any_same f g e (u ∷ l) = ap (λ a. a || list_any f l) (e u) ∙ ap (λ x. g u || x) (any_same f g e l)

bases : (test : Cursor → Bool) (top : Cursor) → list_any (λ u. test u && is_base u top) (filter at_node (children_of top)) ≡ passes test (typed_child is_expr top)
bases test top = meant test (typed_child is_expr top) (filter at_node (children_of top)) (first_among (has_kind_in is_expr) (filter at_node (children_of top)))

seconds : (test : Cursor → Bool) (top : Cursor) → list_any (λ u. test u && is_it u (second_typed_child is_expr top)) (filter at_node (children_of top)) ≡ passes test (second_typed_child is_expr top)
seconds test top = meant test (second_typed_child is_expr top) (filter at_node (children_of top)) (second_among (has_kind_in is_expr) (filter at_node (children_of top)))

sides : (test : Cursor → Bool) (top : Cursor) → list_any (λ u. test u && is_side u top) (filter at_node (children_of top)) ≡ side_passes test top
sides test top =
    let l : List Cursor = filter at_node (children_of top) in
    any_same (λ u. test u && is_side u top) (λ u. (test u && is_base u top) || (test u && is_it u (second_typed_child is_expr top))) (λ u. spread (test u) (is_base u top) (is_it u (second_typed_child is_expr top))) l
    ∙ any_or (λ u. test u && is_base u top) (λ u. test u && is_it u (second_typed_child is_expr top)) l
    ∙ ap (λ x. x || list_any (λ u. test u && is_it u (second_typed_child is_expr top)) l) (bases test top)
    ∙ ap (λ x. passes test (typed_child is_expr top) || x) (seconds test top)
  where
    spread : (a x y : Bool) → a && (x || y) ≡ (a && x) || (a && y)
    spread true x y = refl
    spread false x y = refl

nothing : (test : Cursor → Bool) (l : List Cursor) → list_any (λ u. test u && false) l ≡ false
nothing test [] = refl
nothing test (u ∷ l) = by (test u) ∙ nothing test l
  where
    by : (a : Bool) → (a && false) || list_any (λ u. test u && false) l ≡ list_any (λ u. test u && false) l
    by true = refl
    by false = refl

operands : (test : Cursor → Bool) (top : Cursor) (k : SyntaxKind) → list_any (λ u. test u && is_operand k u top) (filter at_node (children_of top)) ≡ operand_passes k test top
operands test top (Node kind.BIN_EXPR) = sides test top
operands test top (Node kind.INDEX_EXPR) = bases test top
operands test top (Node kind.AWAIT_EXPR) = bases test top
operands test top (Node kind.PREFIX_EXPR) = bases test top
operands test top (Node kind.CAST_EXPR) = bases test top
operands test top (Node kind.FIELD_EXPR) = bases test top
operands test top (Node kind.METHOD_CALL_EXPR) = bases test top
operands test top _ = nothing test (filter at_node (children_of top))

pub records : (c : Cursor) → at_node c ≡ true → has_exterior_record c ≡ is_of_kind (Node kind.RECORD_EXPR) c || operand_passes (kind_at c) has_exterior_record c
records c h = children_have Record c h ∙ ap (λ x. is_of_kind (Node kind.RECORD_EXPR) c || x) (operands (has Record) c (kind_at c))

pub lets : (c : Cursor) → at_node c ≡ true → has_let c ≡ is_of_kind (Node kind.LET_EXPR) c || (is_and c && (lacks_side c || side_passes has_let c))
lets c h =
    children_have Let c h
    ∙ ap (λ x. (is_of_kind (Node kind.LET_EXPR) c || (is_and c && lacks_side c)) || x) (any_same (λ u. has Let u && (is_and c && is_side u c)) (λ u. (is_and c && has Let u) && is_side u c) (λ u. turned (has Let u) (is_and c) (is_side u c)) (filter at_node (children_of c)))
    ∙ ap (λ x. (is_of_kind (Node kind.LET_EXPR) c || (is_and c && lacks_side c)) || x) (by (is_and c))
    ∙ grouped (is_of_kind (Node kind.LET_EXPR) c) (is_and c) (lacks_side c) (side_passes has_let c)
  where
    turned : (x a s : Bool) → x && (a && s) ≡ (a && x) && s
    turned true true s = refl
    turned true false s = refl
    turned false true s = refl
    turned false false s = refl

    by : (a : Bool) → list_any (λ u. (a && has Let u) && is_side u c) (filter at_node (children_of c)) ≡ a && side_passes has_let c
    by true = sides has_let c
    by false = none (filter at_node (children_of c))
      where
        none : (l : List Cursor) → list_any (λ u. (false && has Let u) && is_side u c) l ≡ false
        none [] = refl
        none (u ∷ l) = none l

    grouped : (l a n s : Bool) → (l || (a && n)) || (a && s) ≡ l || (a && (n || s))
    grouped true a n s = refl
    grouped false true n s = refl
    grouped false false n s = refl
