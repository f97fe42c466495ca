-- An operator tree ends in the name of a cast's type exactly where its last two tokens are `as` and
-- a name.
use Rattle.std.proofs.Common.{◌≡◌, ◌≤◌, ℕ, suc, ◌+◌, List, [], ◌∷◌, ◌++◌, length, Bool, true, false, ◌&&◌, ◌||◌, cond, Option, Some, None, option_map, refl, sym, ap, subst, ◌∙◌, arith, append_assoc, length-append}
use Rattle.std.specs.Prelude.{if◌then◌else◌}
use Rattle.std.specs.List.{filter, find}
use Rattle.std.specs.Option.{option_or}
use Rattle.syntax_kind.specs.Kinds.{is_same_kind, is_trivia}
use Rattle.syntax_kind.specs.KindLaws.{is_same_kind-equal}
use Rattle.syntax_kind.specs.declared.syntax_kind.SyntaxKind.{SyntaxKind}
use Rattle.syntax_kind.specs.declared.syntax_kind.SyntaxKind.TheVariants.{Node}
use Rattle.syntax_kind.specs.declared.syntax_kind.node_kind.NodeKind.TheVariants as kind
use Rattle.tree_model.specs.Tree.{Tree, node, token, Forest, nil, cons, Place, kind_of, is_node, is_token, child_at, child_count, forest_of_children}
use Rattle.tree_model.specs.Cursor.{Cursor, focus, at_place, at_node, ancestors_of, ancestors_from, parent_of}
use Rattle.tree_model.specs.Equality.{is_same_cursor}
use Rattle.tree_model.specs.EqualityLaws.{cursor_Decides, cursor_equivalence}
use Rattle.tree_model.proofs.AncestorLemmas.{ancestors_of-step}
use Rattle.ras_node.specs.Nodes.{kind_at, has_kind_in, typed_child}
use Rattle.ras_node.specs.Sets.{is_name_like, is_ty}
use Rattle.operator_terms.specs.Operators.{Dereference, Not, Negate}
use Rattle.operator_terms.specs.Term.{Term, Literal, Name, Paren, Field, Await, Try, Cast, Method, Call, Index, Prefix, Borrow, Binary, RangeFull, RangeFrom, RangeTo, Range, Terms, NoTerms, Last, More}
use Rattle.operator_terms.specs.Sign.{Sign, Word, Opens, Closes, Comma, As}
use Rattle.operator_terms.specs.Places.{ends_in_cast}
use Rattle.operator_terms.proofs.Bools.{both-true, and-false}
use Rattle.operator_terms.proofs.Clear.{cast_at_end}
use Rattle.operator_terms.proofs.Ends.{ends-tokens}
use Rattle.operator_trees.specs.declared.form.Form.{Form}
use Rattle.operator_trees.specs.declared.form.Form.TheVariants as form
use Rattle.operator_trees.specs.Forms.{form_of}
use Rattle.operator_trees.specs.Leaves.{leaves_of}
use Rattle.operator_trees.specs.Shown.{Meaning, IsSign, IsTerm, IsName, IsSegment, IsPath, IsType, IsArguments, IsNothing, leaf, means, meanings, meaning, is_right, path_type_form}
use Rattle.operator_trees.specs.Shape.{argument_meanings, term_form, kids_of, erase, blank_of}
use Rattle.operator_trees.proofs.Inversion.{no, no_sign, kids_told, erased}
use Rattle.operator_trees.proofs.Operands.{told_parts, arguments_told}
use Rattle.operator_trees.proofs.Tokens.{tokens-shown}
use Rattle.operator_powers.proofs.Cursors.{child_parent, form_told, subtree-child}
use Rattle.ras_prec_walks.specs.CastName.{is_in_name, is_type_of_cast, is_cast_type, passes_cast_type, is_cast_name, is_cast_name_of, ends_in_cast_name}
use Rattle.ras_prec_walks.specs.Parts.{is_it}
use Rattle.ras_prec.proofs.LastToken.{last_place, last_in, last_leaf_is}
use Rattle.ras_prec.proofs.Precedences.{child_cursors}

-- ---- from the top down to a token

abbrev child : Cursor → ℕ → Cursor
child d i = at_place d (d.place ++ i ∷ [])

-- the token at a place below d lies directly in a name, and in the type of a cast from d on (or
-- `passed` says that one was above)
abbrev named : Bool → Cursor → Place → Bool
named passed d [] = false
named passed d (i ∷ []) = is_name_like (kind_at d) && passed
named passed d (i ∷ (j ∷ q)) = named (passed || is_type_of_cast (child d i) d) (child d i) (j ∷ q)

longer : (top d : Cursor) (i : ℕ) → length top.place ≤ length d.place → is_same_cursor (child d i) top ≡ false
longer top d i long = by (is_same_cursor (child d i) top) refl
  where
    by : (b : Bool) → is_same_cursor (child d i) top ≡ b → b ≡ false
    by false e = refl
    by true e =
        let same : length (d.place ++ i ∷ []) ≡ length top.place = ap (λ c. length c.place) ((cursor_Decides (child d i) top).0 e) in
        absurd (omega (arith, same, length-append d.place (i ∷ []), long))

or-moved : (a b c : Bool) → (a || b) || c ≡ a || (c || b)
or-moved true b c = refl
or-moved false true true = refl
or-moved false true false = refl
or-moved false false true = refl
or-moved false false false = refl

abbrev Reached : (top d : Cursor) → Bool → Type 0
Reached top d passed = (b : Bool) → passes_cast_type b top (ancestors_of d) ≡ b || passed

up_one : (top d : Cursor) (passed : Bool) (i : ℕ) → length top.place ≤ length d.place → Reached top d passed → Reached top (child d i) (passed || is_type_of_cast (child d i) d)
up_one top d passed i long up b =
    ap (passes_cast_type b top) (ancestors_of-step (child d i))
    ∙ ap (λ s. if s then b else passes_cast_type (b || is_cast_type (child d i) (parent_of (child d i))) top (ancestors_from (parent_of (child d i)))) (longer top d i long)
    ∙ ap (λ o. passes_cast_type (b || is_cast_type (child d i) o) top (ancestors_from o)) (child_parent d i)
    ∙ up (b || is_type_of_cast (child d i) d)
    ∙ or-moved b (is_type_of_cast (child d i) d) passed

at_top : (top : Cursor) → Reached top top false
at_top top b =
    ap (passes_cast_type b top) (ancestors_of-step top)
    ∙ ap (λ s. if s then b else passes_cast_type (b || is_cast_type top (parent_of top)) top (ancestors_from (parent_of top))) (cursor_equivalence.refl top)
    ∙ by b
  where
    by : (b : Bool) → b ≡ b || false
    by true = refl
    by false = refl

climbed : (top d : Cursor) (passed : Bool) (i : ℕ) (q : Place) → length top.place ≤ length d.place → Reached top d passed → is_cast_name top (at_place d (d.place ++ i ∷ q)) ≡ named passed d (i ∷ q)
climbed top d passed i [] long up =
    ap (λ o. is_in_name o && passes_cast_type false top (ancestors_from o)) (child_parent d i)
    ∙ ap (λ b. is_name_like (kind_at d) && b) (up false)
climbed top d passed i (j ∷ q) long up =
    ap (λ p. is_cast_name top (at_place d p)) (sym (append_assoc d.place (i ∷ []) (j ∷ q)))
    ∙ climbed top (child d i) (passed || is_type_of_cast (child d i) d) j q (omega (arith, length-append d.place (i ∷ []), long)) (up_one top d passed i long up)

-- ---- kinds

abbrev is_cast : Form → Bool
is_cast form.Cast = true
is_cast _ = false

cast_kind : (k : SyntaxKind) → is_cast (form_of k) ≡ true → is_same_kind k (Node kind.CAST_EXPR) ≡ true
cast_kind (Node kind.CAST_EXPR) h = refl
cast_kind _ h = absurd (no h)

not_cast : (k : SyntaxKind) → is_cast (form_of k) ≡ false → is_same_kind k (Node kind.CAST_EXPR) ≡ false
not_cast k h = by (is_same_kind k (Node kind.CAST_EXPR)) refl
  where
    by : (b : Bool) → is_same_kind k (Node kind.CAST_EXPR) ≡ b → b ≡ false
    by false e = refl
    by true e = absurd (let same : k ≡ Node kind.CAST_EXPR = (is_same_kind-equal k (Node kind.CAST_EXPR)).0 e in no (sym h ∙ ap (λ j. is_cast (form_of j)) same))

name_kind : (k : SyntaxKind) → form_of k ≡ form.NameRef → is_name_like k ≡ true
name_kind (Node kind.NAME_REF) h = refl
name_kind _ h = absurd cc

type_kind : (k : SyntaxKind) → form_of k ≡ form.PathType → is_ty k ≡ true
type_kind (Node kind.PATH_TYPE) h = refl
type_kind _ h = absurd cc

-- neither a type nor nothing
abbrev plain : Meaning → Bool
plain (IsType n) = false
plain IsNothing = false
plain _ = true

no_plain : (ms : List Meaning) → plain (path_type_form ms) ≡ true → ⊥
no_plain (IsPath n ∷ []) h = no h
no_plain _ h = no h

not_type : (k : SyntaxKind) (ms : List Meaning) → plain (means (form_of k) ms) ≡ true → is_ty k ≡ false
not_type (Node kind.ARRAY_TYPE) ms h = absurd (no h)
not_type (Node kind.DYN_TRAIT_TYPE) ms h = absurd (no h)
not_type (Node kind.FN_PTR_TYPE) ms h = absurd (no h)
not_type (Node kind.FOR_TYPE) ms h = absurd (no h)
not_type (Node kind.IMPL_TRAIT_TYPE) ms h = absurd (no h)
not_type (Node kind.INFER_TYPE) ms h = absurd (no h)
not_type (Node kind.MACRO_TYPE) ms h = absurd (no h)
not_type (Node kind.NEVER_TYPE) ms h = absurd (no h)
not_type (Node kind.PAREN_TYPE) ms h = absurd (no h)
not_type (Node kind.PATH_TYPE) ms h = absurd (no_plain ms h)
not_type (Node kind.PTR_TYPE) ms h = absurd (no h)
not_type (Node kind.REF_TYPE) ms h = absurd (no h)
not_type (Node kind.SLICE_TYPE) ms h = absurd (no h)
not_type (Node kind.TUPLE_TYPE) ms h = absurd (no h)
not_type _ ms h = refl

-- ---- the last child that is no trivia

abbrev last_of : Meaning → List Meaning → Meaning
last_of m [] = m
last_of m (n ∷ ms) = last_of n ms

-- all but the last are plain
abbrev plain_before : Meaning → List Meaning → Bool
plain_before m [] = true
plain_before m (n ∷ ms) = plain m && plain_before n ms

abbrev type_here : Tree → Bool
type_here u = is_node u && is_ty (kind_of u)

-- the number of the first type among the trees
abbrev first_type : ℕ → Forest → Option ℕ
first_type a nil = None
first_type a (cons u r) = cond (type_here u) (Some a) (first_type (suc a) r)

record LastKid (a : ℕ) (f : Forest) (m : Meaning) (ms : List Meaning) : Type 0 where
  number : ℕ
  means_it : meaning (child_at f number) ≡ last_of m ms
  last : (q : Place) → last_in (child_at f number) ≡ Some q → last_place a f ≡ Some ((a + number) ∷ q)
  solid : is_token (child_at f number) ≡ true → last_in (child_at f number) ≡ Some []
  typed : type_here (child_at f number) ≡ true → plain_before m ms ≡ true → first_type a f ≡ Some (a + number)

last_cons : (a : ℕ) (u : Tree) (r : Forest) → last_place a (cons u r) ≡ option_or (last_place (suc a) r) (option_map (λ q. a ∷ q) (last_in u))
last_cons a (node k c) r = refl
last_cons a (token k t) r = ap (option_or (last_place (suc a) r)) (by (is_trivia k))
  where
    by : (b : Bool) → cond b None (Some (a ∷ [])) ≡ option_map (λ q. a ∷ q) (cond b None (Some []))
    by true = refl
    by false = refl

none_left : (a : ℕ) (f : Forest) → meanings f ≡ [] → last_place a f ≡ None
none_left a nil h = refl
none_left a (cons (token k t) r) h = by (is_trivia k) (none_left (suc a) r) h
  where
    by : (b : Bool) → (meanings r ≡ [] → last_place (suc a) r ≡ None) → cond b (meanings r) (IsSign (leaf k t) ∷ meanings r) ≡ [] → option_or (last_place (suc a) r) (cond b None (Some (a ∷ []))) ≡ None
    by true each h = ap (λ o. option_or o None) (each h)
    by false each h = absurd (let bad : IsSign (leaf k t) ∷ meanings r ≡ [] = h in cc)
none_left a (cons (node k c) r) h = absurd (let bad : means (form_of k) (meanings c) ∷ meanings r ≡ [] = h in cc)

-- a tree before it
later : (a : ℕ) (u : Tree) (r : Forest) (m n : Meaning) (ns ms : List Meaning) → last_of n ns ≡ last_of m ms → (plain_before m ms ≡ true → (type_here u ≡ false) × (plain_before n ns ≡ true))
    → LastKid (suc a) r n ns → LastKid a (cons u r) m ms
later a u r m n ns ms same before kid =
    let next : suc a + kid.number ≡ a + suc kid.number = omega arith in
    record {
      number = suc kid.number;
      means_it = kid.means_it ∙ same;
      last = λ q e. last_cons a u r ∙ ap (λ o. option_or o (option_map (λ q. a ∷ q) (last_in u))) (kid.last q e ∙ ap (λ k. Some (k ∷ q)) next);
      solid = kid.solid;
      typed = λ is plain.
          (let p = before plain in
          ap (λ b. cond b (Some a) (first_type (suc a) r)) p.0 ∙ kid.typed is p.1 ∙ ap Some next);
    }

-- no tree that means something after it
here : (a : ℕ) (u : Tree) (r : Forest) → meanings r ≡ [] → (is_token u ≡ true → last_in u ≡ Some []) → LastKid a (cons u r) (meaning u) []
here a u r none solid =
    let zeroth : a ≡ a + 0 = omega arith in
    record {
      number = 0;
      means_it = refl;
      last = λ q e. last_cons a u r ∙ ap (λ o. option_or o (option_map (λ q. a ∷ q) (last_in u))) (none_left (suc a) r none) ∙ ap (option_map (λ q. a ∷ q)) e ∙ ap (λ k. Some (k ∷ q)) zeroth;
      solid = solid;
      typed = λ is plain. ap (λ b. cond b (Some a) (first_type (suc a) r)) is ∙ ap Some zeroth;
    }

head_is : (m n : Meaning) (ms ns : List Meaning) → m ∷ ms ≡ n ∷ ns → (m ≡ n) × (ms ≡ ns)
head_is m n ms ns e = (cc, cc)

abbrev Each : ℕ → Forest → Type 0
Each a f = (m : Meaning) (ms : List Meaning) → meanings f ≡ m ∷ ms → LastKid a f m ms

by_last : (a : ℕ) (u : Tree) (r : Forest) (m : Meaning) (ms : List Meaning) → Each (suc a) r → meaning u ≡ m → meanings r ≡ ms → (plain m ≡ true → type_here u ≡ false) → (is_token u ≡ true → last_in u ≡ Some []) → LastKid a (cons u r) m ms
by_last a u r m [] each is rest untyped solid = subst (λ n. LastKid a (cons u r) n []) is (here a u r rest solid)
by_last a u r m (n ∷ ns) each is rest untyped solid =
    later a u r m n ns (n ∷ ns) refl (λ h. (let p = both-true (plain m) (plain_before n ns) h in (untyped p.0, p.1))) (each n ns rest)

last_kid : (a : ℕ) (f : Forest) (m : Meaning) (ms : List Meaning) → meanings f ≡ m ∷ ms → LastKid a f m ms
last_kid a nil m ms h = absurd (let bad : [] ≡ m ∷ ms = h in cc)
last_kid a (cons (token k t) r) m ms h = by (is_trivia k) refl (last_kid (suc a) r) h
  where
    by : (b : Bool) → is_trivia k ≡ b → Each (suc a) r → cond b (meanings r) (IsSign (leaf k t) ∷ meanings r) ≡ m ∷ ms → LastKid a (cons (token k t) r) m ms
    by true e each h = later a (token k t) r m m ms ms refl (λ p. (refl, p)) (each m ms h)
    by false e each h =
        let is = head_is (IsSign (leaf k t)) m (meanings r) ms h in
        by_last a (token k t) r m ms each is.0 is.1 (λ p. refl) (λ p. ap (λ b. cond b None (Some [])) e)
last_kid a (cons (node k c) r) m ms h =
    let is = head_is (means (form_of k) (meanings c)) m (meanings r) ms h in
    by_last a (node k c) r m ms (last_kid (suc a) r) is.0 is.1 (λ p. not_type k (meanings c) (ap plain is.0 ∙ p)) (λ p. absurd (no p))

-- ---- the type of a cast

one_cursor : (x : Cursor) (l : List Cursor) → find (has_kind_in is_ty) (filter at_node (x ∷ l)) ≡ cond (type_here (focus x)) (Some x) (find (has_kind_in is_ty) (filter at_node l))
one_cursor x l = by (at_node x)
  where
    by : (b : Bool) → find (has_kind_in is_ty) (cond b (x ∷ filter at_node l) (filter at_node l)) ≡ cond (b && is_ty (kind_at x)) (Some x) (find (has_kind_in is_ty) (filter at_node l))
    by true = refl
    by false = refl

type_found : (d : Cursor) (k : ℕ) (c : Forest) → ((j : ℕ) → focus (child d (k + j)) ≡ child_at c j) → find (has_kind_in is_ty) (filter at_node (child_cursors d k (child_count c))) ≡ option_map (child d) (first_type k c)
type_found d k nil same = refl
type_found d k (cons u r) same =
    let first : k ≡ k + 0 = omega arith in
    let here : focus (child d k) ≡ u = ap (λ i. focus (child d i)) first ∙ same 0 in
    let on : k + 1 ≡ suc k = omega arith in
    one_cursor (child d k) (child_cursors d (k + 1) (child_count r))
    ∙ ap (λ v. cond (type_here v) (Some (child d k)) (find (has_kind_in is_ty) (filter at_node (child_cursors d (k + 1) (child_count r))))) here
    ∙ ap (λ i. cond (type_here u) (Some (child d k)) (find (has_kind_in is_ty) (filter at_node (child_cursors d i (child_count r))))) on
    ∙ ap (cond (type_here u) (Some (child d k))) (type_found d (suc k) r (λ j. let later : suc k + j ≡ k + suc j = omega arith in ap (λ i. focus (child d i)) later ∙ same (suc j)))
    ∙ by (type_here u)
  where
    by : (b : Bool) → cond b (Some (child d k)) (option_map (child d) (first_type (suc k) r)) ≡ option_map (child d) (cond b (Some k) (first_type (suc k) r))
    by true = refl
    by false = refl

type_child : (d : Cursor) → typed_child is_ty d ≡ option_map (child d) (first_type 0 (forest_of_children (focus d)))
type_child d = type_found d 0 (forest_of_children (focus d)) (λ j. let here : 0 + j ≡ j = omega arith in ap (λ i. focus (child d i)) here ∙ subtree-child d.tree d.place j)

cast_type : (d : Cursor) (i : ℕ) → is_cast (form_of (kind_at d)) ≡ true → first_type 0 (forest_of_children (focus d)) ≡ Some i → is_type_of_cast (child d i) d ≡ true
cast_type d i form at =
    ap (λ b. b && is_it (child d i) (typed_child is_ty d)) (cast_kind (kind_at d) form)
    ∙ ap (is_it (child d i)) (type_child d ∙ ap (option_map (child d)) at)
    ∙ cursor_equivalence.refl (child d i)

-- ---- how a node ends that means something

-- it holds a token that is no trivia, and of the last one `named` says this
record Ends (passed : Bool) (d : Cursor) (b : Bool) : Type 0 where
  number : ℕ
  rest : Place
  last : last_in (focus d) ≡ Some (number ∷ rest)
  says : named passed d (number ∷ rest) ≡ b

last_node : (u : Tree) (m : Meaning) (ms : List Meaning) → meanings (forest_of_children u) ≡ m ∷ ms → last_in u ≡ last_place 0 (forest_of_children u)
last_node (node k c) m ms told = refl
last_node (token k t) m ms told = absurd (let bad : [] ≡ m ∷ ms = told in cc)

token_means : (u : Tree) (s : Sign) → meaning u ≡ IsSign s → is_token u ≡ true
token_means (token k t) s e = refl
token_means (node k c) s e = absurd (no_sign (form_of k) (meanings c) s e)

-- in a token of its own
ends_token : (passed : Bool) (d : Cursor) (m : Meaning) (ms : List Meaning) (s : Sign) → meanings (forest_of_children (focus d)) ≡ m ∷ ms → last_of m ms ≡ IsSign s → Ends passed d (is_name_like (kind_at d) && passed)
ends_token passed d m ms s told is =
    let kid = last_kid 0 (forest_of_children (focus d)) m ms told in
    let sign = token_means (child_at (forest_of_children (focus d)) kid.number) s (kid.means_it ∙ is) in
    record { number = 0 + kid.number; rest = []; last = last_node (focus d) m ms told ∙ kid.last [] (kid.solid sign); says = refl }

-- in a child
child_there : (d : Cursor) (n : ℕ) → focus (child d (0 + n)) ≡ child_at (forest_of_children (focus d)) n
child_there d n = let here : 0 + n ≡ n = omega arith in ap (λ i. focus (child d i)) here ∙ subtree-child d.tree d.place n

last_below : (d : Cursor) (m : Meaning) (ms : List Meaning) (kid : LastKid 0 (forest_of_children (focus d)) m ms) (q : Place) → meanings (forest_of_children (focus d)) ≡ m ∷ ms
    → last_in (focus (child d (0 + kid.number))) ≡ Some q → last_in (focus d) ≡ Some ((0 + kid.number) ∷ q)
last_below d m ms kid q told last = last_node (focus d) m ms told ∙ kid.last q (ap last_in (sym (child_there d kid.number)) ∙ last)

ends_below : (passed : Bool) (d : Cursor) (m : Meaning) (ms : List Meaning) (b : Bool) → meanings (forest_of_children (focus d)) ≡ m ∷ ms
    → ((i : ℕ) → meaning (focus (child d i)) ≡ last_of m ms → (type_here (focus (child d i)) ≡ true → plain_before m ms ≡ true → first_type 0 (forest_of_children (focus d)) ≡ Some i) → Ends (passed || is_type_of_cast (child d i) d) (child d i) b)
    → Ends passed d b
ends_below passed d m ms b told inside = made (last_kid 0 (forest_of_children (focus d)) m ms told)
  where
    under : (kid : LastKid 0 (forest_of_children (focus d)) m ms) → Ends (passed || is_type_of_cast (child d (0 + kid.number)) d) (child d (0 + kid.number)) b → Ends passed d b
    under kid below = record { number = 0 + kid.number; rest = below.number ∷ below.rest; last = last_below d m ms kid (below.number ∷ below.rest) told below.last; says = below.says }

    made : LastKid 0 (forest_of_children (focus d)) m ms → Ends passed d b
    made kid =
        under kid
        (inside (0 + kid.number) (ap meaning (child_there d kid.number) ∙ kid.means_it) (λ is plain. kid.typed (ap type_here (sym (child_there d kid.number)) ∙ is) plain))

no_cast_type : (passed : Bool) (c d : Cursor) → is_cast (form_of (kind_at d)) ≡ false → passed ≡ passed || is_type_of_cast c d
no_cast_type passed c d form = by passed ∙ ap (λ b. passed || b) (sym (ap (λ b. b && is_it c (typed_child is_ty d)) (not_cast (kind_at d) form)))
  where
    by : (b : Bool) → b ≡ b || false
    by true = refl
    by false = refl

-- in a child of what is no cast
ends_inside : (passed : Bool) (d : Cursor) (m : Meaning) (ms : List Meaning) (b : Bool) → is_cast (form_of (kind_at d)) ≡ false → meanings (forest_of_children (focus d)) ≡ m ∷ ms
    → ((i : ℕ) → meaning (focus (child d i)) ≡ last_of m ms → Ends passed (child d i) b) → Ends passed d b
ends_inside passed d m ms b form told inside =
    ends_below passed d m ms b told (λ i is typed. subst (λ p. Ends p (child d i) b) (no_cast_type passed (child d i) d form) (inside i is))

-- ---- names, paths and types

told_so : (u : Tree) (m : Meaning) (n : Meaning) (ns : List Meaning) → meaning u ≡ m → is_right m ≡ true → kids_of m ≡ n ∷ ns → meanings (forest_of_children u) ≡ n ∷ ns
told_so (token k t) m n ns e right kids = absurd (let none : kids_of m ≡ [] = ap kids_of (sym e) in let bad : [] ≡ n ∷ ns = sym none ∙ kids in cc)
told_so (node k c) m n ns e right kids = kids_told (form_of k) (meanings c) m e right ∙ kids

formed : (u : Tree) (m : Meaning) → meaning u ≡ m → is_node u ≡ true → is_right m ≡ true → erase m ≡ blank_of (form_of (kind_of u))
formed (token k t) m e n right = absurd (no n)
formed (node k c) m e n right = ap erase (sym e) ∙ erased (form_of k) (meanings c) (ap is_right e ∙ right)

name_form_is : (f : Form) → IsName [] ≡ blank_of f → f ≡ form.NameRef
name_form_is form.NameRef e = refl
name_form_is _ e = absurd cc

type_form_is : (f : Form) → IsType [] ≡ blank_of f → f ≡ form.PathType
type_form_is form.PathType e = refl
type_form_is _ e = absurd cc

abbrev is_term : Meaning → Bool
is_term (IsTerm t) = true
is_term _ = false

other_form : (f : Form) → is_term (blank_of f) ≡ false → is_cast f ≡ false
other_form form.Cast h = absurd (no (sym h))
other_form _ h = refl

abbrev is_sign : Meaning → Bool
is_sign (IsSign s) = true
is_sign _ = false

node_means : (u : Tree) (m : Meaning) → meaning u ≡ m → is_sign m ≡ false → is_node u ≡ true
node_means (node k c) m e h = refl
node_means (token k t) m e h = absurd (no (sym h ∙ ap is_sign (sym e)))

no_cast_here : (u : Tree) (m : Meaning) → meaning u ≡ m → is_sign m ≡ false → is_right m ≡ true → is_term (erase m) ≡ false → is_cast (form_of (kind_of u)) ≡ false
no_cast_here u m e sign right other = other_form (form_of (kind_of u)) (ap is_term (sym (formed u m e (node_means u m e sign) right)) ∙ other)

name_ends : (passed : Bool) (d : Cursor) (x : List ℕ) → meaning (focus d) ≡ IsName x → Ends passed d passed
name_ends passed d x e =
    subst (λ b. Ends passed d (b && passed)) (name_kind (kind_at d) (name_form_is (form_of (kind_at d)) (formed (focus d) (IsName x) e (node_means (focus d) (IsName x) e refl) refl)))
    (ends_token passed d (IsSign (Word x)) [] (Word x) (told_so (focus d) (IsName x) (IsSign (Word x)) [] e refl refl) refl)

segment_ends : (passed : Bool) (d : Cursor) (x : List ℕ) → meaning (focus d) ≡ IsSegment x → Ends passed d passed
segment_ends passed d x e =
    ends_inside passed d (IsName x) [] passed (no_cast_here (focus d) (IsSegment x) e refl refl refl) (told_so (focus d) (IsSegment x) (IsName x) [] e refl refl) (λ i is. name_ends passed (child d i) x is)

path_ends : (passed : Bool) (d : Cursor) (x : List ℕ) → meaning (focus d) ≡ IsPath x → Ends passed d passed
path_ends passed d x e =
    ends_inside passed d (IsSegment x) [] passed (no_cast_here (focus d) (IsPath x) e refl refl refl) (told_so (focus d) (IsPath x) (IsSegment x) [] e refl refl) (λ i is. segment_ends passed (child d i) x is)

type_ends : (passed : Bool) (d : Cursor) (x : List ℕ) → meaning (focus d) ≡ IsType x → Ends passed d passed
type_ends passed d x e =
    ends_inside passed d (IsPath x) [] passed (no_cast_here (focus d) (IsType x) e refl refl refl) (told_so (focus d) (IsType x) (IsPath x) [] e refl refl) (λ i is. path_ends passed (child d i) x is)

-- what means a type is one
type_is : (u : Tree) (x : List ℕ) → meaning u ≡ IsType x → type_here u ≡ true
type_is u x e =
    let node = node_means u (IsType x) e refl in
    ap (λ b. b && is_ty (kind_of u)) node ∙ type_kind (kind_of u) (type_form_is (form_of (kind_of u)) (formed u (IsType x) e node refl))

-- ---- terms

-- a token of its own ends it, and no type of a cast is around
ends_plainly : (d : Cursor) (m : Meaning) (ms : List Meaning) (s : Sign) → meanings (forest_of_children (focus d)) ≡ m ∷ ms → last_of m ms ≡ IsSign s → Ends false d false
ends_plainly d m ms s told is = subst (Ends false d) (and-false (is_name_like (kind_at d))) (ends_token false d m ms s told is)

closes : (m : Meaning) (args : Terms) → last_of m (argument_meanings args) ≡ IsSign Closes
closes m NoTerms = refl
closes m (Last e) = refl
closes m (More e es) = closes (IsSign Comma) es

arguments_end : (d : Cursor) (args : Terms) → meaning (focus d) ≡ IsArguments args → Ends false d false
arguments_end d args e = ends_plainly d (IsSign Opens) (argument_meanings args) Closes (arguments_told (focus d) args e) (closes (IsSign Opens) args)

form_at_term : (d : Cursor) (t : Term) → meaning (focus d) ≡ IsTerm t → is_cast (term_form t) ≡ false → is_cast (form_of (kind_at d)) ≡ false
form_at_term d t e h = ap is_cast (form_told (focus d) t e) ∙ h

cast_ends : (d : Cursor) (e : Term) (x : List ℕ) → meaning (focus d) ≡ IsTerm (Cast e x) → Ends false d true
cast_ends d e x shows =
    ends_below false d (IsTerm e) (IsSign As ∷ IsType x ∷ []) true (told_parts (focus d) (Cast e x) shows)
    (λ i is typed. subst (Ends (is_type_of_cast (child d i) d) (child d i)) (cast_type d i (ap is_cast (form_told (focus d) (Cast e x) shows)) (typed (type_is (focus (child d i)) x is) refl))
    (type_ends (is_type_of_cast (child d i) d) (child d i) x is))

term_ends : (t : Term) (d : Cursor) → meaning (focus d) ≡ IsTerm t → Ends false d (cast_at_end t)
term_ends (Literal k x) d shows = ends_plainly d _ _ _ (told_parts (focus d) (Literal k x) shows) refl
term_ends (Name x) d shows = ends_inside false d (IsPath x) [] false (form_at_term d (Name x) shows refl) (told_parts (focus d) (Name x) shows) (λ i is. path_ends false (child d i) x is)
term_ends (Paren e) d shows = ends_plainly d _ _ _ (told_parts (focus d) (Paren e) shows) refl
term_ends (Field e x) d shows = ends_inside false d _ _ false (form_at_term d (Field e x) shows refl) (told_parts (focus d) (Field e x) shows) (λ i is. name_ends false (child d i) x is)
term_ends (Await e) d shows = ends_plainly d _ _ _ (told_parts (focus d) (Await e) shows) refl
term_ends (Try e) d shows = ends_plainly d _ _ _ (told_parts (focus d) (Try e) shows) refl
term_ends (Cast e x) d shows = cast_ends d e x shows
term_ends (Method e x args) d shows = ends_inside false d _ _ false (form_at_term d (Method e x args) shows refl) (told_parts (focus d) (Method e x args) shows) (λ i is. arguments_end (child d i) args is)
term_ends (Call e args) d shows = ends_inside false d _ _ false (form_at_term d (Call e args) shows refl) (told_parts (focus d) (Call e args) shows) (λ i is. arguments_end (child d i) args is)
term_ends (Index e j) d shows = ends_plainly d _ _ _ (told_parts (focus d) (Index e j) shows) refl
term_ends (Prefix Not e) d shows = ends_inside false d _ _ (cast_at_end e) (form_at_term d (Prefix Not e) shows refl) (told_parts (focus d) (Prefix Not e) shows) (λ i is. term_ends e (child d i) is)
term_ends (Prefix Dereference e) d shows = ends_inside false d _ _ (cast_at_end e) (form_at_term d (Prefix Dereference e) shows refl) (told_parts (focus d) (Prefix Dereference e) shows) (λ i is. term_ends e (child d i) is)
term_ends (Prefix Negate e) d shows = ends_inside false d _ _ (cast_at_end e) (form_at_term d (Prefix Negate e) shows refl) (told_parts (focus d) (Prefix Negate e) shows) (λ i is. term_ends e (child d i) is)
term_ends (Borrow true e) d shows = ends_inside false d _ _ (cast_at_end e) (form_at_term d (Borrow true e) shows refl) (told_parts (focus d) (Borrow true e) shows) (λ i is. term_ends e (child d i) is)
term_ends (Borrow false e) d shows = ends_inside false d _ _ (cast_at_end e) (form_at_term d (Borrow false e) shows refl) (told_parts (focus d) (Borrow false e) shows) (λ i is. term_ends e (child d i) is)
term_ends (Binary op l r) d shows = ends_inside false d _ _ (cast_at_end r) (form_at_term d (Binary op l r) shows refl) (told_parts (focus d) (Binary op l r) shows) (λ i is. term_ends r (child d i) is)
term_ends RangeFull d shows = ends_plainly d _ _ _ (told_parts (focus d) RangeFull shows) refl
term_ends (RangeFrom l) d shows = ends_plainly d _ _ _ (told_parts (focus d) (RangeFrom l) shows) refl
term_ends (RangeTo inclusive r) d shows = ends_inside false d _ _ (cast_at_end r) (form_at_term d (RangeTo inclusive r) shows refl) (told_parts (focus d) (RangeTo inclusive r) shows) (λ i is. term_ends r (child d i) is)
term_ends (Range inclusive l r) d shows = ends_inside false d _ _ (cast_at_end r) (form_at_term d (Range inclusive l r) shows refl) (told_parts (focus d) (Range inclusive l r) shows) (λ i is. term_ends r (child d i) is)

pub cast_names_agree : (c : Cursor) (t : Term) → meaning (focus c) ≡ IsTerm t → ends_in_cast_name c ≡ ends_in_cast (leaves_of (focus c))
cast_names_agree c t shows =
    let e = term_ends t c shows in
    ap (is_cast_name_of c) (last_leaf_is c (e.number ∷ e.rest) e.last)
    ∙ climbed c c false e.number e.rest (omega arith) (at_top c)
    ∙ e.says
    ∙ sym (ends-tokens t)
    ∙ ap ends_in_cast (sym (tokens-shown (focus c) t shows))
