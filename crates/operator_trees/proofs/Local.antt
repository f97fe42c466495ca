-- A tree means something exactly where each of its nodes has the shape of its kind.
use Rattle.std.proofs.Common.{◌≡◌, List, [], ◌∷◌, Bool, true, false, ◌&&◌, cond, map, refl, sym, ap, ◌∙◌}
use Rattle.syntax_kind.specs.declared.syntax_kind.SyntaxKind.{SyntaxKind}
use Rattle.syntax_kind.specs.Kinds.{is_trivia}
use Rattle.tree_model.specs.Tree.{Tree, node, token, Forest, nil, cons}
use Rattle.tree_model.specs.Every.{every_in, every}
use Rattle.operator_terms.specs.Operators.{Subtract, Multiply, BitAnd, Compute}
use Rattle.operator_terms.specs.Term.{Term, NoTerms}
use Rattle.operator_terms.specs.Sign.{Lit, Word, Opens, Closes, OpensIndex, ClosesIndex, Comma, Dot, Question, AwaitWord, MutWord, Bang, As, To, Op}
use Rattle.operator_trees.specs.declared.form.Form.{Form}
use Rattle.operator_trees.specs.declared.form.Form.TheVariants as form
use Rattle.operator_trees.specs.Forms.{form_of}
use Rattle.operator_trees.specs.Shown.{Meaning, IsSign, IsTerm, IsName, IsSegment, IsPath, IsType, IsArguments, IsNothing, leaf, literal_form, name_form, segment_form, path_form, path_expr_form, path_type_form, paren_form, prefix_form, ref_form, bin_form, range_form, field_form, await_form, try_form, cast_form, index_form, call_form, method_form, put_argument, rest_form, arguments_form, means, meanings, meaning, is_right}
use Rattle.operator_trees.specs.Shape.{blank, erase, blank_of, assumed, shape, outlined}
use Rattle.operator_trees.proofs.Inversion.{no, erased, strict, all_right}

pub right-outlined : (m : Meaning) → is_right (outlined m) ≡ is_right m
right-outlined IsNothing = refl
right-outlined _ = refl

-- ---- a form's outline depends on the outlines of the parts alone

same-literal : (ms : List Meaning) → outlined (literal_form (map erase ms)) ≡ outlined (literal_form ms)
same-literal (IsSign (Lit k t) ∷ []) = refl
same-literal _ = refl

same-name : (ms : List Meaning) → outlined (name_form (map erase ms)) ≡ outlined (name_form ms)
same-name (IsSign (Word n) ∷ []) = refl
same-name _ = refl

same-segment : (ms : List Meaning) → outlined (segment_form (map erase ms)) ≡ outlined (segment_form ms)
same-segment (IsName n ∷ []) = refl
same-segment _ = refl

same-path : (ms : List Meaning) → outlined (path_form (map erase ms)) ≡ outlined (path_form ms)
same-path (IsSegment n ∷ []) = refl
same-path _ = refl

same-path_expr : (ms : List Meaning) → outlined (path_expr_form (map erase ms)) ≡ outlined (path_expr_form ms)
same-path_expr (IsPath n ∷ []) = refl
same-path_expr _ = refl

same-path_type : (ms : List Meaning) → outlined (path_type_form (map erase ms)) ≡ outlined (path_type_form ms)
same-path_type (IsPath n ∷ []) = refl
same-path_type _ = refl

same-paren : (ms : List Meaning) → outlined (paren_form (map erase ms)) ≡ outlined (paren_form ms)
same-paren (IsSign Opens ∷ IsTerm e ∷ IsSign Closes ∷ []) = refl
same-paren _ = refl

same-prefix : (ms : List Meaning) → outlined (prefix_form (map erase ms)) ≡ outlined (prefix_form ms)
same-prefix (IsSign Bang ∷ IsTerm e ∷ []) = refl
same-prefix (IsSign (Op (Compute Multiply)) ∷ IsTerm e ∷ []) = refl
same-prefix (IsSign (Op (Compute Subtract)) ∷ IsTerm e ∷ []) = refl
same-prefix _ = refl

same-ref : (ms : List Meaning) → outlined (ref_form (map erase ms)) ≡ outlined (ref_form ms)
same-ref (IsSign (Op (Compute BitAnd)) ∷ IsTerm e ∷ []) = refl
same-ref (IsSign (Op (Compute BitAnd)) ∷ IsSign MutWord ∷ IsTerm e ∷ []) = refl
same-ref _ = refl

same-bin : (ms : List Meaning) → outlined (bin_form (map erase ms)) ≡ outlined (bin_form ms)
same-bin (IsTerm l ∷ IsSign (Op op) ∷ IsTerm r ∷ []) = refl
same-bin _ = refl

same-range : (ms : List Meaning) → outlined (range_form (map erase ms)) ≡ outlined (range_form ms)
same-range (IsSign (To false) ∷ []) = refl
same-range (IsTerm l ∷ IsSign (To false) ∷ []) = refl
same-range (IsSign (To false) ∷ IsTerm r ∷ []) = refl
same-range (IsSign (To true) ∷ IsTerm r ∷ []) = refl
same-range (IsTerm l ∷ IsSign (To false) ∷ IsTerm r ∷ []) = refl
same-range (IsTerm l ∷ IsSign (To true) ∷ IsTerm r ∷ []) = refl
same-range _ = refl

same-field : (ms : List Meaning) → outlined (field_form (map erase ms)) ≡ outlined (field_form ms)
same-field (IsTerm e ∷ IsSign Dot ∷ IsName n ∷ []) = refl
same-field _ = refl

same-await : (ms : List Meaning) → outlined (await_form (map erase ms)) ≡ outlined (await_form ms)
same-await (IsTerm e ∷ IsSign Dot ∷ IsSign AwaitWord ∷ []) = refl
same-await _ = refl

same-try : (ms : List Meaning) → outlined (try_form (map erase ms)) ≡ outlined (try_form ms)
same-try (IsTerm e ∷ IsSign Question ∷ []) = refl
same-try _ = refl

same-cast : (ms : List Meaning) → outlined (cast_form (map erase ms)) ≡ outlined (cast_form ms)
same-cast (IsTerm e ∷ IsSign As ∷ IsType n ∷ []) = refl
same-cast _ = refl

same-index : (ms : List Meaning) → outlined (index_form (map erase ms)) ≡ outlined (index_form ms)
same-index (IsTerm e ∷ IsSign OpensIndex ∷ IsTerm i ∷ IsSign ClosesIndex ∷ []) = refl
same-index _ = refl

same-call : (ms : List Meaning) → outlined (call_form (map erase ms)) ≡ outlined (call_form ms)
same-call (IsTerm e ∷ IsArguments args ∷ []) = refl
same-call _ = refl

same-method : (ms : List Meaning) → outlined (method_form (map erase ms)) ≡ outlined (method_form ms)
same-method (IsTerm e ∷ IsSign Dot ∷ IsName n ∷ IsArguments args ∷ []) = refl
same-method _ = refl

-- what a comma's argument leaves of an outline
abbrev only_arguments : Meaning → Meaning
only_arguments (IsArguments args) = IsArguments NoTerms
only_arguments _ = IsNothing

outlined-put : (e : Term) (m : Meaning) → outlined (put_argument e m) ≡ only_arguments (outlined m)
outlined-put e (IsArguments args) = refl
outlined-put e _ = refl

same-rest : (ms : List Meaning) → outlined (rest_form (map erase ms)) ≡ outlined (rest_form ms)
same-rest (IsSign Closes ∷ []) = refl
same-rest (IsTerm e ∷ IsSign Closes ∷ []) = refl
same-rest (IsTerm e ∷ IsSign Comma ∷ ms) = outlined-put blank (rest_form (map erase ms)) ∙ ap only_arguments (same-rest ms) ∙ sym (outlined-put e (rest_form ms))
same-rest _ = refl

same-arguments : (ms : List Meaning) → outlined (arguments_form (map erase ms)) ≡ outlined (arguments_form ms)
same-arguments (IsSign Opens ∷ ms) = same-rest ms
same-arguments _ = refl

pub same : (f : Form) (ms : List Meaning) → outlined (means f (map erase ms)) ≡ outlined (means f ms)
same form.Literal ms = same-literal ms
same form.NameRef ms = same-name ms
same form.Segment ms = same-segment ms
same form.Path ms = same-path ms
same form.PathExpr ms = same-path_expr ms
same form.PathType ms = same-path_type ms
same form.Paren ms = same-paren ms
same form.Prefix ms = same-prefix ms
same form.Borrow ms = same-ref ms
same form.Binary ms = same-bin ms
same form.Range ms = same-range ms
same form.Field ms = same-field ms
same form.Await ms = same-await ms
same form.Try ms = same-try ms
same form.Cast ms = same-cast ms
same form.Index ms = same-index ms
same form.Call ms = same-call ms
same form.Method ms = same-method ms
same form.Arguments ms = same-arguments ms
same form.Foreign ms = refl

-- ---- all together
and_left : (a b : Bool) → (a && b) ≡ true → a ≡ true
and_left true b h = refl
and_left false b h = h

and_right : (a b : Bool) → (a && b) ≡ true → b ≡ true
and_right true b h = h
and_right false b h = absurd (no h)

erased-all : (c : Forest) → all_right (meanings c) ≡ true → map erase (meanings c) ≡ assumed c
erased-all nil h = refl
erased-all (cons (token k t) r) h = skip (erased-all r) (is_trivia k) h
  where
    skip : (all_right (meanings r) ≡ true → map erase (meanings r) ≡ assumed r) → (b : Bool) → all_right (cond b (meanings r) (IsSign (leaf k t) ∷ meanings r)) ≡ true → map erase (cond b (meanings r) (IsSign (leaf k t) ∷ meanings r)) ≡ cond b (assumed r) (IsSign (leaf k t) ∷ assumed r)
    skip each true h = each h
    skip each false h = ap (λ ms. IsSign (leaf k t) ∷ ms) (each h)
erased-all (cons (node k c) r) h =
    ap (λ m. m ∷ map erase (meanings r)) (erased (form_of k) (meanings c) (and_left (is_right (means (form_of k) (meanings c))) (all_right (meanings r)) h))
    ∙ ap (λ ms. blank_of (form_of k) ∷ ms) (erased-all r (and_right (is_right (means (form_of k) (meanings c))) (all_right (meanings r)) h))

-- the outline of what a node means is that of its shape, where what is below is right
pub outlined-node : (k : SyntaxKind) (c : Forest) → all_right (meanings c) ≡ true → outlined (means (form_of k) (assumed c)) ≡ outlined (means (form_of k) (meanings c))
outlined-node k c h = ap (λ ms. outlined (means (form_of k) ms)) (sym (erased-all c h)) ∙ same (form_of k) (meanings c)

right-node : (k : SyntaxKind) (c : Forest) → all_right (meanings c) ≡ true → is_right (means (form_of k) (assumed c)) ≡ is_right (means (form_of k) (meanings c))
right-node k c h = sym (right-outlined (means (form_of k) (assumed c))) ∙ ap is_right (outlined-node k c h) ∙ right-outlined (means (form_of k) (meanings c))

-- a node means something exactly where it has its shape and what is below is right
below : (k : SyntaxKind) (c : Forest) (b : Bool) → all_right (meanings c) ≡ b → is_right (means (form_of k) (meanings c)) ≡ (is_right (means (form_of k) (assumed c)) && b)
below k c true h = sym (right-node k c h) ∙ and_true (is_right (means (form_of k) (assumed c)))
  where
    and_true : (a : Bool) → a ≡ (a && true)
    and_true true = refl
    and_true false = refl
below k c false h = none (is_right (means (form_of k) (meanings c))) refl ∙ and_false (is_right (means (form_of k) (assumed c)))
  where
    none : (a : Bool) → is_right (means (form_of k) (meanings c)) ≡ a → a ≡ false
    none true e = absurd (no (sym h ∙ strict (form_of k) (meanings c) e))
    none false e = refl

    and_false : (a : Bool) → false ≡ (a && false)
    and_false true = refl
    and_false false = refl

pub right-all : (c : Forest) → all_right (meanings c) ≡ every_in (λ u. is_right (shape u)) c
right-all nil = refl
right-all (cons (token k t) r) = skip (right-all r) (is_trivia k)
  where
    skip : all_right (meanings r) ≡ every_in (λ u. is_right (shape u)) r → (b : Bool) → all_right (cond b (meanings r) (IsSign (leaf k t) ∷ meanings r)) ≡ every_in (λ u. is_right (shape u)) r
    skip each true = each
    skip each false = each
right-all (cons (node k c) r) =
    ap (λ b. b && all_right (meanings r)) (below k c (every_in (λ u. is_right (shape u)) c) (right-all c))
    ∙ ap (λ b. (is_right (means (form_of k) (assumed c)) && every_in (λ u. is_right (shape u)) c) && b) (right-all r)
    ∙ and_assoc (is_right (means (form_of k) (assumed c))) (every_in (λ u. is_right (shape u)) c) (every_in (λ u. is_right (shape u)) r)
  where
    and_assoc : (a b c : Bool) → ((a && b) && c) ≡ (a && (b && c))
    and_assoc true b c = refl
    and_assoc false b c = refl

pub right-tree : (t : Tree) → is_right (meaning t) ≡ every (λ u. is_right (shape u)) t
right-tree (token k t) = refl
right-tree (node k c) = below k c (every_in (λ u. is_right (shape u)) c) (right-all c)

-- and then its outline is that of its shape
pub outline-tree : (t : Tree) → is_right (meaning t) ≡ true → outlined (shape t) ≡ outlined (meaning t)
outline-tree (token k t) h = refl
outline-tree (node k c) h = outlined-node k c (strict (form_of k) (meanings c) h)
