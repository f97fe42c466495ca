-- What an operator tree doesn't hold: a block at the end of a range, a record, a `let`, an `&&`
-- that lacks a side.
use Rattle.std.proofs.Common.{◌≡◌, ℕ, Bool, true, false, not, ◌&&◌, ◌||◌, cond, List, [], ◌∷◌, refl, sym, ap, ◌∙◌, subst}
use Rattle.std.specs.Prelude.{if◌then◌else◌}
use Rattle.std.specs.List.{filter, list_all}
use Rattle.syntax_kind.specs.Kinds.{is_same_kind, is_trivia}
use Rattle.syntax_kind.specs.KindLaws.{is_same_kind-equal}
use Rattle.syntax_kind.specs.declared.syntax_kind.SyntaxKind.{SyntaxKind}
use Rattle.syntax_kind.specs.declared.syntax_kind.SyntaxKind.TheVariants.{Node}
use Rattle.syntax_kind.specs.declared.syntax_kind.node_kind.NodeKind.TheVariants as kind
use Rattle.tree_model.specs.Tree.{Tree, node, token, Forest, nil, cons, kind_of, is_node, forest_of_children}
use Rattle.tree_model.specs.Cursor.{Cursor, focus, at_node, ancestors_of, children_of, descendants_of}
use Rattle.tree_model.specs.Every.{every, every_in}
use Rattle.tree_model.proofs.EveryLaws.{every_is_descendants}
use Rattle.ras_node.specs.Nodes.{is_of_kind}
use Rattle.ras_node.specs.PartSets.{is_binary_operator}
use Rattle.ras_node.specs.Searches.{first_token}
use Rattle.ras_node.specs.Sets.{is_expr}
use Rattle.operator_terms.specs.Sign.{Op}
use Rattle.operator_terms.proofs.Bools.{both-true}
use Rattle.operator_trees.specs.declared.form.Form.{Form}
use Rattle.operator_trees.specs.declared.form.Form.TheVariants as form
use Rattle.operator_trees.specs.Forms.{form_of}
use Rattle.operator_trees.specs.Shown.{Meaning, IsTerm, IsSign, leaf, means, meaning, bin_form, is_right}
use Rattle.operator_trees.specs.Shape.{assumed, blank_of, shape}
use Rattle.operator_trees.proofs.Inversion.{no}
use Rattle.operator_trees.proofs.Local.{right-tree}
use Rattle.operator_powers.specs.Rules.{is_foreign, is_term_form}
use Rattle.ras_prec_walks.specs.declared.along.Meant.{Meant}
use Rattle.ras_prec_walks.specs.declared.along.Meant.TheVariants.{First, Second, BehindDots}
use Rattle.ras_prec_walks.specs.declared.along.Toward.TheVariants.{Block, Any}
use Rattle.ras_prec_walks.specs.declared.inside.Sought.{Sought}
use Rattle.ras_prec_walks.specs.declared.inside.Sought.TheVariants.{Record, Let}
use Rattle.ras_prec_walks.specs.Along.{is_block}
use Rattle.ras_prec_walks.specs.Turns.{past_token, reaches}
use Rattle.ras_prec_walks.proofs.Operands.{block_behind_dots, second_meant}
use Rattle.ras_prec_walks.specs.Inside.{holds, is_sought, leads_up}
use Rattle.ras_prec_walks.specs.Parts.{is_and, is_and_token, range_ends_in_block}
use Rattle.ras_prec.proofs.KindFacts.{other_kind, no_block, expr_of_form}

right_here : Tree → Bool
right_here u = is_right (shape u)

not_foreign_so : (f : Form) (ms : List Meaning) → is_right (means f ms) ≡ true → is_foreign f ≡ false
not_foreign_so form.Foreign ms h = absurd (no h)
not_foreign_so _ ms h = refl

-- ---- no block among the children

block_none : (m : Meant) (c : Forest) → every_in (λ u. is_right (shape u)) c ≡ true → reaches Block m c ≡ false
block_none m nil h = refl
block_none m (cons (token k t) r) h = block_none (past_token m k) r h
block_none First (cons (node k c) r) h =
    let one = both-true (is_right (means (form_of k) (assumed c))) _ h in
    let more = both-true (every_in (λ u. is_right (shape u)) c) _ one.1 in
    by (is_expr k) (is_block k) (no_block k (not_foreign_so (form_of k) (assumed c) one.0)) (block_none First r more.1)
  where
    by : (a b : Bool) → b ≡ false → reaches Block First r ≡ false → (if a then b || false else reaches Block First r) ≡ false
    by true true e i = absurd (no (sym e))
    by true false e i = refl
    by false b e i = i
block_none Second (cons (node k c) r) h =
    let one = both-true (is_right (means (form_of k) (assumed c))) _ h in
    let more = both-true (every_in (λ u. is_right (shape u)) c) _ one.1 in
    by (is_expr k) (block_none First r more.1) (block_none Second r more.1)
  where
    by : (a : Bool) → reaches Block First r ≡ false → reaches Block Second r ≡ false → (if a then reaches Block First r else reaches Block Second r) ≡ false
    by true i j = i
    by false i j = j
block_none BehindDots (cons (node k c) r) h =
    let one = both-true (is_right (means (form_of k) (assumed c))) _ h in
    let more = both-true (every_in (λ u. is_right (shape u)) c) _ one.1 in
    block_none BehindDots r more.1

children_right : (u : Tree) → every (λ v. is_right (shape v)) u ≡ true → every_in (λ v. is_right (shape v)) (forest_of_children u) ≡ true
children_right (token k t) h = refl
children_right (node k c) h = (both-true (is_right (shape (node k c))) _ h).1

and_none : (a b : Bool) → b ≡ false → a && b ≡ false
and_none true b e = e
and_none false b e = refl

pub no_block_at_end : (c : Cursor) → is_right (meaning (focus c)) ≡ true → range_ends_in_block c ≡ false
no_block_at_end c h = and_none _ _ (sym (block_behind_dots c) ∙ block_none BehindDots (forest_of_children (focus c)) (children_right (focus c) (sym (right-tree (focus c)) ∙ h)))

-- ---- two sides

-- two terms among meanings, or one more
terms_there : Bool → List Meaning → Bool
terms_there one [] = false
terms_there one (IsTerm t ∷ ms) = if one then true else terms_there true ms
terms_there one (m ∷ ms) = terms_there one ms

bin_terms : (ms : List Meaning) → is_right (bin_form ms) ≡ true → terms_there false ms ≡ true
unfolding terms_there
bin_terms (IsTerm l ∷ IsSign (Op op) ∷ IsTerm r ∷ []) h = refl
bin_terms _ h = absurd (no h)

one_of_two : (ms : List Meaning) → terms_there false ms ≡ true → terms_there true ms ≡ true
unfolding terms_there
one_of_two [] h = absurd (no h)
one_of_two (IsTerm t ∷ ms) h = refl
one_of_two (m ∷ ms) h = one_of_two ms h

no_term : (one : Bool) (f : Form) (ms : List Meaning) → is_term_form f ≡ false → terms_there one (blank_of f ∷ ms) ≡ terms_there one ms
unfolding terms_there
no_term one form.NameRef ms h = refl
no_term one form.Segment ms h = refl
no_term one form.Path ms h = refl
no_term one form.PathType ms h = refl
no_term one form.Arguments ms h = refl
no_term one form.Foreign ms h = refl
no_term one _ ms h = absurd (no (sym h))

some_term : (f : Form) (ms : List Meaning) → terms_there false (blank_of f ∷ ms) ≡ true → terms_there true ms ≡ true
unfolding terms_there
some_term form.NameRef ms h = one_of_two ms h
some_term form.Segment ms h = one_of_two ms h
some_term form.Path ms h = one_of_two ms h
some_term form.PathType ms h = one_of_two ms h
some_term form.Arguments ms h = one_of_two ms h
some_term form.Foreign ms h = one_of_two ms h
some_term _ ms h = h

skip_token : (one : Bool) (k : SyntaxKind) (t : List ℕ) (r : Forest) → terms_there one (assumed (cons (token k t) r)) ≡ true → terms_there one (assumed r) ≡ true
unfolding terms_there
skip_token one k t r h = by (is_trivia k) h
  where
    by : (b : Bool) → terms_there one (cond b (assumed r) (IsSign (leaf k t) ∷ assumed r)) ≡ true → terms_there one (assumed r) ≡ true
    by true h = h
    by false h = h

no_form : (k : SyntaxKind) → is_expr k ≡ false → is_term_form (form_of k) ≡ false
no_form k e = by (is_term_form (form_of k)) refl
  where
    by : (b : Bool) → is_term_form (form_of k) ≡ b → b ≡ false
    by false g = refl
    by true g = absurd (no (sym e ∙ expr_of_form k g))

first_there : (c : Forest) → terms_there true (assumed c) ≡ true → reaches Any First c ≡ true
unfolding terms_there
first_there nil h = absurd (let bad : false ≡ true = h in no bad)
first_there (cons (token k t) r) h = first_there r (skip_token true k t r h)
first_there (cons (node k c) r) h = by (is_expr k) refl (first_there r)
  where
    by : (b : Bool) → is_expr k ≡ b → (terms_there true (assumed r) ≡ true → reaches Any First r ≡ true) → (if b then true || (false && reaches Any First c) else reaches Any First r) ≡ true
    by true e i = refl
    by false e i = i (sym (no_term true (form_of k) (assumed r) (no_form k e)) ∙ h)

second_there : (c : Forest) → terms_there false (assumed c) ≡ true → reaches Any Second c ≡ true
unfolding terms_there
second_there nil h = absurd (let bad : false ≡ true = h in no bad)
second_there (cons (token k t) r) h = second_there r (skip_token false k t r h)
second_there (cons (node k c) r) h = by (is_expr k) refl (second_there r)
  where
    by : (b : Bool) → is_expr k ≡ b → (terms_there false (assumed r) ≡ true → reaches Any Second r ≡ true) → (if b then reaches Any First r else reaches Any Second r) ≡ true
    by true e i = first_there r (some_term (form_of k) (assumed r) h)
    by false e i = i (sym (no_term false (form_of k) (assumed r) (no_form k e)) ∙ h)

two_sides : (k : SyntaxKind) (c : Forest) → is_right (means (form_of k) (assumed c)) ≡ true → is_same_kind k (Node kind.BIN_EXPR) ≡ true → reaches Any Second c ≡ true
two_sides k c h e =
    let same : k ≡ Node kind.BIN_EXPR = (is_same_kind-equal k (Node kind.BIN_EXPR)).0 e in
    second_there c (bin_terms (assumed c) (subst (λ j. is_right (means (form_of j) (assumed c)) ≡ true) same h))

-- ---- nothing that is sought

sought_none : (s : Sought) (u : Tree) (o : Bool) → is_right (shape u) ≡ true → is_node u ≡ true
    → (is_same_kind (kind_of u) (Node kind.RECORD_EXPR) ≡ false)
    × (is_same_kind (kind_of u) (Node kind.LET_EXPR) || ((is_same_kind (kind_of u) (Node kind.BIN_EXPR) && o) && not (reaches Any Second (forest_of_children u))) ≡ false)
sought_none s (token k t) o h n = absurd (no n)
sought_none s (node k c) o h n =
    let f = not_foreign_so (form_of k) (assumed c) h in (
      other_kind k (Node kind.RECORD_EXPR) f refl,
      ap (λ b. b || ((is_same_kind k (Node kind.BIN_EXPR) && o) && not (reaches Any Second c))) (other_kind k (Node kind.LET_EXPR) f refl)
          ∙ by (is_same_kind k (Node kind.BIN_EXPR)) refl o,
    )
  where
    by : (b : Bool) → is_same_kind k (Node kind.BIN_EXPR) ≡ b → (o : Bool) → ((b && o) && not (reaches Any Second c)) ≡ false
    by false e o = refl
    by true e false = refl
    by true e true = ap not (two_sides k c h e)

sought_at : (s : Sought) (c : Cursor) → is_right (shape (focus c)) ≡ true → at_node c ≡ true → is_sought s c ≡ false
sought_at Record c h n = (sought_none Record (focus c) true h n).0
sought_at Let c h n =
    ap (λ b. is_of_kind (Node kind.LET_EXPR) c || (is_and c && not b)) (sym (second_meant c))
    ∙ (sought_none Let (focus c) (is_and_token (first_token is_binary_operator (children_of c))) h n).1

holds_none : (s : Sought) (top : Cursor) (ds : List Cursor) → list_all (λ d. is_right (shape (focus d))) ds ≡ true → holds s top (filter at_node ds) ≡ false
holds_none s top [] h = refl
holds_none s top (d ∷ ds) h =
    let one = both-true (is_right (shape (focus d))) _ h in
    by (at_node d) refl one.0 (holds_none s top ds one.1)
  where
    by : (b : Bool) → at_node d ≡ b → is_right (shape (focus d)) ≡ true → holds s top (filter at_node ds) ≡ false → holds s top (cond b (d ∷ filter at_node ds) (filter at_node ds)) ≡ false
    by false e r i = i
    by true e r i = ap (λ b. (b && leads_up s top (ancestors_of d)) || holds s top (filter at_node ds)) (sought_at s d r e) ∙ i

pub none_sought : (s : Sought) (c : Cursor) → is_right (meaning (focus c)) ≡ true → holds s c (filter at_node (descendants_of c)) ≡ false
none_sought s c h = holds_none s c (descendants_of c) (sym (every_is_descendants (λ u. is_right (shape u)) c) ∙ sym (right-tree (focus c)) ∙ h)
