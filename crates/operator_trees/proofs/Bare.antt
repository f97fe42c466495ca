-- Trees that show one term are the same, trivia aside.
use Rattle.std.proofs.Common.{◌≡◌, ℕ, List, [], ◌∷◌, Bool, true, false, ◌&&◌, cond, refl, sym, ap, subst, ◌∙◌}
use Rattle.syntax_kind.specs.declared.syntax_kind.SyntaxKind.{SyntaxKind}
use Rattle.syntax_kind.specs.declared.syntax_kind.SyntaxKind.TheVariants.{Node, Token as OfToken, OTHER}
use Rattle.syntax_kind.specs.declared.syntax_kind.node_kind.NodeKind.{NodeKind}
use Rattle.syntax_kind.specs.declared.syntax_kind.node_kind.NodeKind.TheVariants as kind
use Rattle.syntax_kind.specs.Kinds.{is_trivia}
use Rattle.tree_model.specs.Tree.{Tree, node, token, Forest, nil, cons}
use Rattle.operator_terms.specs.Token.{Token}
use Rattle.operator_terms.specs.Term.{Term}
use Rattle.operator_terms.specs.Sign.{token_of}
use Rattle.operator_trees.specs.declared.form.Form.{Form}
use Rattle.operator_trees.specs.declared.form.Form.TheVariants as form
use Rattle.operator_trees.specs.Forms.{node_form, form_of}
use Rattle.operator_trees.specs.Shown.{Meaning, IsSign, IsTerm, IsName, IsSegment, IsPath, IsType, IsArguments, IsNothing, leaf, means, meanings, meaning, is_right}
use Rattle.operator_trees.specs.Shape.{term_form, kid_meanings, kids_of, erase, blank_of}
use Rattle.operator_trees.specs.Bare.{bare, bare_children}
use Rattle.operator_trees.proofs.Inversion.{no, back, back_of, kids_told, no_sign, FormIs, Back}
use Rattle.operator_trees.proofs.Tokens.{sound, all_sound, sound-kids, sound_right, sign_tokens, leaf_is, and_both}

-- ---- the kind of a node is told by its form
abbrev kind_for : Form → SyntaxKind
kind_for form.Literal = Node kind.LITERAL
kind_for form.NameRef = Node kind.NAME_REF
kind_for form.Segment = Node kind.PATH_SEGMENT
kind_for form.Path = Node kind.PATH
kind_for form.PathExpr = Node kind.PATH_EXPR
kind_for form.PathType = Node kind.PATH_TYPE
kind_for form.Paren = Node kind.PAREN_EXPR
kind_for form.Prefix = Node kind.PREFIX_EXPR
kind_for form.Borrow = Node kind.REF_EXPR
kind_for form.Binary = Node kind.BIN_EXPR
kind_for form.Range = Node kind.RANGE_EXPR
kind_for form.Field = Node kind.FIELD_EXPR
kind_for form.Await = Node kind.AWAIT_EXPR
kind_for form.Try = Node kind.TRY_EXPR
kind_for form.Cast = Node kind.CAST_EXPR
kind_for form.Index = Node kind.INDEX_EXPR
kind_for form.Call = Node kind.CALL_EXPR
kind_for form.Method = Node kind.METHOD_CALL_EXPR
kind_for form.Arguments = Node kind.ARG_LIST
kind_for form.Foreign = OTHER 0

abbrev Kinded : SyntaxKind → Form → Type 0
Kinded k form.Foreign = Unit {0}
Kinded k f = k ≡ kind_for f

kinded-node : (k : NodeKind) → Kinded (Node k) (node_form k)
kinded-node kind.LITERAL = refl
kinded-node kind.NAME_REF = refl
kinded-node kind.PATH_SEGMENT = refl
kinded-node kind.PATH = refl
kinded-node kind.PATH_EXPR = refl
kinded-node kind.PATH_TYPE = refl
kinded-node kind.PAREN_EXPR = refl
kinded-node kind.PREFIX_EXPR = refl
kinded-node kind.REF_EXPR = refl
kinded-node kind.BIN_EXPR = refl
kinded-node kind.RANGE_EXPR = refl
kinded-node kind.FIELD_EXPR = refl
kinded-node kind.AWAIT_EXPR = refl
kinded-node kind.TRY_EXPR = refl
kinded-node kind.CAST_EXPR = refl
kinded-node kind.INDEX_EXPR = refl
kinded-node kind.CALL_EXPR = refl
kinded-node kind.METHOD_CALL_EXPR = refl
kinded-node kind.ARG_LIST = refl
kinded-node _ = tt

kinded : (k : SyntaxKind) → Kinded k (form_of k)
kinded (Node k) = kinded-node k
kinded (OfToken k) = tt
kinded (OTHER n) = tt

kind_is : (k : SyntaxKind) (f : Form) (ms : List Meaning) → Kinded k f → is_right (means f ms) ≡ true → k ≡ kind_for f
kind_is k form.Foreign ms told h = absurd (no h)
kind_is k _ ms told h = told

-- ---- the form of a node is told by what it means
name_form-is : (f : Form) → IsName [] ≡ blank_of f → f ≡ form.NameRef
name_form-is form.NameRef e = refl
name_form-is _ e = cc

segment_form-is : (f : Form) → IsSegment [] ≡ blank_of f → f ≡ form.Segment
segment_form-is form.Segment e = refl
segment_form-is _ e = cc

path_form-is : (f : Form) → IsPath [] ≡ blank_of f → f ≡ form.Path
path_form-is form.Path e = refl
path_form-is _ e = cc

type_form-is : (f : Form) → IsType [] ≡ blank_of f → f ≡ form.PathType
type_form-is form.PathType e = refl
type_form-is _ e = cc

abbrev form_for : Meaning → Form
form_for (IsTerm t) = term_form t
form_for (IsName n) = form.NameRef
form_for (IsSegment n) = form.Segment
form_for (IsPath n) = form.Path
form_for (IsType n) = form.PathType
form_for (IsArguments args) = form.Arguments
form_for _ = form.Foreign

form-on : (f : Form) (ms : List Meaning) (m : Meaning) → means f ms ≡ m → is_right m ≡ true → (erase m ≡ blank_of f) → FormIs f m → f ≡ form_for m
form-on f ms IsNothing e h b i = absurd (no h)
form-on f ms (IsSign s) e h b i = absurd (no_sign f ms s e)
form-on f ms (IsTerm t) e h b i = i
form-on f ms (IsArguments args) e h b i = i
form-on f ms (IsName n) e h b i = name_form-is f b
form-on f ms (IsSegment n) e h b i = segment_form-is f b
form-on f ms (IsPath n) e h b i = path_form-is f b
form-on f ms (IsType n) e h b i = type_form-is f b

form_is : (f : Form) (ms : List Meaning) (m : Meaning) → means f ms ≡ m → is_right m ≡ true → f ≡ form_for m
form_is f ms m e h =
    let b = back_of f ms m (subst (Back f ms) e (back f ms)) h in
    form-on f ms m e h b.1 b.2

-- nodes that mean one thing are of one kind, and their children mean the same
kind_told : (k : SyntaxKind) (ms : List Meaning) (m : Meaning) → means (form_of k) ms ≡ m → is_right m ≡ true → k ≡ kind_for (form_for m)
kind_told k ms m e h = kind_is k (form_of k) ms (kinded k) (ap is_right e ∙ h) ∙ ap kind_for (form_is (form_of k) ms m e h)

-- ---- forests
abbrev Alike : Forest → Forest → Type 0
Alike c d = meanings c ≡ meanings d → all_sound (meanings c) ≡ true → bare_children c ≡ bare_children d

first_of : {x y : Meaning} {xs ys : List Meaning} → x ∷ xs ≡ y ∷ ys → x ≡ y
first_of e = cc

others_of : {x y : Meaning} {xs ys : List Meaning} → x ∷ xs ≡ y ∷ ys → xs ≡ ys
others_of e = cc

one_token : {x y : Token} → x ∷ [] ≡ y ∷ [] → x ≡ y
one_token e = cc

abbrev leaf_node : Token → Tree
leaf_node x = token x.kind x.text

leaf_told : (k j : SyntaxKind) (t u : List ℕ) → IsSign (leaf k t) ≡ IsSign (leaf j u) → sound (IsSign (leaf k t)) ≡ true → token k t ≡ token j u
leaf_told k j t u e h =
    let same : leaf k t ≡ leaf j u = cc in
    let there = leaf_is j u (subst (λ s. sound (IsSign s) ≡ true) same h) in
    let one = sym (leaf_is k t h) ∙ ap (λ s. sign_tokens (token_of s)) same ∙ there in
    ap leaf_node (one_token one)

-- a token, and the first tree of the other forest that is no trivia
find_token : (k : SyntaxKind) (t : List ℕ) (r : Forest) → ((d : Forest) → Alike r d) → (d : Forest) → IsSign (leaf k t) ∷ meanings r ≡ meanings d → sound (IsSign (leaf k t)) ≡ true → all_sound (meanings r) ≡ true
    → cons (token k t) (bare_children r) ≡ bare_children d
find_token k t r each nil e h a = cc
find_token k t r each (cons (token j u) s) e h a = skip (is_trivia j) (find_token k t r each s) e
  where
    skip : (b : Bool) → (IsSign (leaf k t) ∷ meanings r ≡ meanings s → sound (IsSign (leaf k t)) ≡ true → all_sound (meanings r) ≡ true → cons (token k t) (bare_children r) ≡ bare_children s)
        → IsSign (leaf k t) ∷ meanings r ≡ cond b (meanings s) (IsSign (leaf j u) ∷ meanings s)
        → cons (token k t) (bare_children r) ≡ cond b (bare_children s) (cons (token j u) (bare_children s))
    skip true later e = later e h a
    skip false later e =
        let one = leaf_told k j t u (first_of e) h in
        let rest = each s (others_of e) a in
        cc
find_token k t r each (cons (node j b) s) e h a = absurd (no_sign (form_of j) (meanings b) (leaf k t) (sym (first_of e)))

-- a node, and the first tree of the other forest that is no trivia
find_node : (k : SyntaxKind) (c r : Forest) → ((d : Forest) → Alike c d) → ((d : Forest) → Alike r d) → (d : Forest) → means (form_of k) (meanings c) ∷ meanings r ≡ meanings d → sound (means (form_of k) (meanings c)) ≡ true → all_sound (meanings r) ≡ true
    → cons (node k (bare_children c)) (bare_children r) ≡ bare_children d
find_node k c r inside each nil e h a = cc
find_node k c r inside each (cons (token j u) s) e h a = skip (is_trivia j) (find_node k c r inside each s) e
  where
    skip : (b : Bool) → (means (form_of k) (meanings c) ∷ meanings r ≡ meanings s → sound (means (form_of k) (meanings c)) ≡ true → all_sound (meanings r) ≡ true → cons (node k (bare_children c)) (bare_children r) ≡ bare_children s)
        → means (form_of k) (meanings c) ∷ meanings r ≡ cond b (meanings s) (IsSign (leaf j u) ∷ meanings s)
        → cons (node k (bare_children c)) (bare_children r) ≡ cond b (bare_children s) (cons (token j u) (bare_children s))
    skip true later e = later e h a
    skip false later e = absurd (no_sign (form_of k) (meanings c) (leaf j u) (first_of e))
find_node k c r inside each (cons (node j b) s) e h a =
    let right = sound_right (means (form_of k) (meanings c)) h in
    let heads = sym (first_of e) in
    let one : k ≡ j = kind_told k (meanings c) _ refl right ∙ sym (kind_told j (meanings b) _ heads right) in
    let mine = kids_told (form_of k) (meanings c) _ refl right in
    let theirs = kids_told (form_of j) (meanings b) _ heads right in
    let within = inside b (mine ∙ sym theirs) (ap all_sound mine ∙ sound-kids (means (form_of k) (meanings c))) in
    let rest = each s (others_of e) a in
    cc

-- nothing but trivia
find_none : (d : Forest) → [] ≡ meanings d → nil ≡ bare_children d
find_none nil e = refl
find_none (cons (token j u) s) e = skip (is_trivia j) (find_none s) e
  where
    skip : (b : Bool) → ([] ≡ meanings s → nil ≡ bare_children s) → [] ≡ cond b (meanings s) (IsSign (leaf j u) ∷ meanings s) → nil ≡ cond b (bare_children s) (cons (token j u) (bare_children s))
    skip true later e = later e
    skip false later e = cc
find_none (cons (node j b) s) e = cc

pub alike : (c d : Forest) → Alike c d
alike nil d e a = find_none d e
alike (cons (token k t) r) d e a = skip (is_trivia k) (alike r) e a
  where
    skip : (b : Bool) → ((d : Forest) → Alike r d) → cond b (meanings r) (IsSign (leaf k t) ∷ meanings r) ≡ meanings d → all_sound (cond b (meanings r) (IsSign (leaf k t) ∷ meanings r)) ≡ true
        → cond b (bare_children r) (cons (token k t) (bare_children r)) ≡ bare_children d
    skip true each e a = each d e a
    skip false each e a =
        let s = and_both (sound (IsSign (leaf k t))) (all_sound (meanings r)) a in
        find_token k t r each d e s.0 s.1
alike (cons (node k c) r) d e a =
    let s = and_both (sound (means (form_of k) (meanings c))) (all_sound (meanings r)) a in
    find_node k c r (alike c) (alike r) d e s.0 s.1

-- Trees that show one term are the same, trivia aside.
pub one_tree : (u v : Tree) (t : Term) → meaning u ≡ IsTerm t → meaning v ≡ IsTerm t → bare u ≡ bare v
one_tree (token k x) v t e i = absurd (let bad : meaning (token k x) ≡ IsTerm t = e in cc)
one_tree (node k c) (token j x) t e i = absurd (let bad : meaning (token j x) ≡ IsTerm t = i in cc)
one_tree (node k c) (node j d) t e i =
    let one : k ≡ j = kind_told k (meanings c) (IsTerm t) e refl ∙ sym (kind_told j (meanings d) (IsTerm t) i refl) in
    let mine = kids_told (form_of k) (meanings c) (IsTerm t) e refl in
    let theirs = kids_told (form_of j) (meanings d) (IsTerm t) i refl in
    let within = alike c d (mine ∙ sym theirs) (ap all_sound mine ∙ sound-kids (IsTerm t)) in
    cc
