-- What a form was made of, and that it fails where a part does.
use Rattle.std.proofs.Common.{◌≡◌, List, [], ◌∷◌, Bool, true, false, ◌&&◌, refl, sym, ap, subst}
use Rattle.operator_terms.specs.Operators.{Subtract, Multiply, BitAnd, Compute, Dereference, Not, Negate}
use Rattle.operator_terms.specs.Term.{Term, Prefix, Borrow, Terms, NoTerms, Last, More}
use Rattle.operator_terms.specs.Sign.{Sign, Lit, Word, Opens, Closes, OpensIndex, ClosesIndex, Comma, Dot, Question, AwaitWord, MutWord, Bang, As, Strange, To, Op}
use Rattle.operator_trees.specs.declared.form.Form.{Form}
use Rattle.operator_trees.specs.declared.form.Form.TheVariants as form
use Rattle.operator_trees.specs.Shown.{Meaning, IsSign, IsTerm, IsName, IsSegment, IsPath, IsType, IsArguments, IsNothing, literal_form, name_form, segment_form, path_form, path_expr_form, path_type_form, paren_form, prefix_form, ref_form, bin_form, range_form, field_form, await_form, try_form, cast_form, index_form, call_form, method_form, put_argument, rest_form, arguments_form, means, is_right}
use Rattle.operator_trees.specs.Shape.{kid_meanings, argument_meanings, term_form, kids_of, erase, blank_of}

pub no : false ≡ true → ⊥
no e = cc

abbrev pub FormIs : Form → Meaning → Type 0
FormIs f (IsTerm t) = f ≡ term_form t
FormIs f (IsArguments args) = f ≡ form.Arguments
FormIs f _ = Unit {0}

-- a form gives back what it was made of, and means what its kind may mean
abbrev pub Back : Form → List Meaning → Meaning → Type 0
Back f ms IsNothing = Unit {0}
Back f ms m = (ms ≡ kids_of m) × (erase m ≡ blank_of f) × FormIs f m

back-literal : (ms : List Meaning) → Back form.Literal ms (literal_form ms)
back-literal (IsSign (Lit k t) ∷ []) = (refl, refl, refl)
back-literal _ = tt

back-name : (ms : List Meaning) → Back form.NameRef ms (name_form ms)
back-name (IsSign (Word n) ∷ []) = (refl, refl, tt)
back-name _ = tt

back-segment : (ms : List Meaning) → Back form.Segment ms (segment_form ms)
back-segment (IsName n ∷ []) = (refl, refl, tt)
back-segment _ = tt

back-path : (ms : List Meaning) → Back form.Path ms (path_form ms)
back-path (IsSegment n ∷ []) = (refl, refl, tt)
back-path _ = tt

back-path_expr : (ms : List Meaning) → Back form.PathExpr ms (path_expr_form ms)
back-path_expr (IsPath n ∷ []) = (refl, refl, refl)
back-path_expr _ = tt

back-path_type : (ms : List Meaning) → Back form.PathType ms (path_type_form ms)
back-path_type (IsPath n ∷ []) = (refl, refl, tt)
back-path_type _ = tt

back-paren : (ms : List Meaning) → Back form.Paren ms (paren_form ms)
back-paren (IsSign Opens ∷ IsTerm e ∷ IsSign Closes ∷ []) = (refl, refl, refl)
back-paren _ = tt

back-prefix : (ms : List Meaning) → Back form.Prefix ms (prefix_form ms)
back-prefix (IsSign Bang ∷ IsTerm e ∷ []) = (refl, refl, refl)
back-prefix (IsSign (Op (Compute Multiply)) ∷ IsTerm e ∷ []) = (refl, refl, refl)
back-prefix (IsSign (Op (Compute Subtract)) ∷ IsTerm e ∷ []) = (refl, refl, refl)
back-prefix _ = tt

back-ref : (ms : List Meaning) → Back form.Borrow ms (ref_form ms)
back-ref (IsSign (Op (Compute BitAnd)) ∷ IsTerm e ∷ []) = (refl, refl, refl)
back-ref (IsSign (Op (Compute BitAnd)) ∷ IsSign MutWord ∷ IsTerm e ∷ []) = (refl, refl, refl)
back-ref _ = tt

back-bin : (ms : List Meaning) → Back form.Binary ms (bin_form ms)
back-bin (IsTerm l ∷ IsSign (Op op) ∷ IsTerm r ∷ []) = (refl, refl, refl)
back-bin _ = tt

back-range : (ms : List Meaning) → Back form.Range ms (range_form ms)
back-range (IsSign (To false) ∷ []) = (refl, refl, refl)
back-range (IsTerm l ∷ IsSign (To false) ∷ []) = (refl, refl, refl)
back-range (IsSign (To false) ∷ IsTerm r ∷ []) = (refl, refl, refl)
back-range (IsSign (To true) ∷ IsTerm r ∷ []) = (refl, refl, refl)
back-range (IsTerm l ∷ IsSign (To false) ∷ IsTerm r ∷ []) = (refl, refl, refl)
back-range (IsTerm l ∷ IsSign (To true) ∷ IsTerm r ∷ []) = (refl, refl, refl)
back-range _ = tt

back-field : (ms : List Meaning) → Back form.Field ms (field_form ms)
back-field (IsTerm e ∷ IsSign Dot ∷ IsName n ∷ []) = (refl, refl, refl)
back-field _ = tt

back-await : (ms : List Meaning) → Back form.Await ms (await_form ms)
back-await (IsTerm e ∷ IsSign Dot ∷ IsSign AwaitWord ∷ []) = (refl, refl, refl)
back-await _ = tt

back-try : (ms : List Meaning) → Back form.Try ms (try_form ms)
back-try (IsTerm e ∷ IsSign Question ∷ []) = (refl, refl, refl)
back-try _ = tt

back-cast : (ms : List Meaning) → Back form.Cast ms (cast_form ms)
back-cast (IsTerm e ∷ IsSign As ∷ IsType n ∷ []) = (refl, refl, refl)
back-cast _ = tt

back-index : (ms : List Meaning) → Back form.Index ms (index_form ms)
back-index (IsTerm e ∷ IsSign OpensIndex ∷ IsTerm i ∷ IsSign ClosesIndex ∷ []) = (refl, refl, refl)
back-index _ = tt

back-call : (ms : List Meaning) → Back form.Call ms (call_form ms)
back-call (IsTerm e ∷ IsArguments args ∷ []) = (refl, refl, refl)
back-call _ = tt

back-method : (ms : List Meaning) → Back form.Method ms (method_form ms)
back-method (IsTerm e ∷ IsSign Dot ∷ IsName n ∷ IsArguments args ∷ []) = (refl, refl, refl)
back-method _ = tt

abbrev RestBack : List Meaning → Meaning → Type 0
RestBack ms (IsArguments args) = ms ≡ argument_meanings args
RestBack ms IsNothing = Unit {0}
RestBack ms _ = ⊥

back-put : (e : Term) (ms : List Meaning) (m : Meaning) → RestBack ms m → RestBack (IsTerm e ∷ IsSign Comma ∷ ms) (put_argument e m)
back-put e ms (IsArguments args) h = ap (λ x. IsTerm e ∷ IsSign Comma ∷ x) h
back-put e ms _ h = tt

back-rest : (ms : List Meaning) → RestBack ms (rest_form ms)
back-rest (IsSign Closes ∷ []) = refl
back-rest (IsTerm e ∷ IsSign Closes ∷ []) = refl
back-rest (IsTerm e ∷ IsSign Comma ∷ ms) = back-put e ms (rest_form ms) (back-rest ms)
back-rest _ = tt

back-opens : (ms : List Meaning) (m : Meaning) → RestBack ms m → Back form.Arguments (IsSign Opens ∷ ms) m
back-opens ms (IsArguments args) h = (ap (λ x. IsSign Opens ∷ x) h, refl, refl)
back-opens ms IsNothing h = tt
back-opens ms _ h = absurd h

back-arguments : (ms : List Meaning) → Back form.Arguments ms (arguments_form ms)
back-arguments (IsSign Opens ∷ ms) = back-opens ms (rest_form ms) (back-rest ms)
back-arguments _ = tt

pub back : (f : Form) (ms : List Meaning) → Back f ms (means f ms)
back form.Literal ms = back-literal ms
back form.NameRef ms = back-name ms
back form.Segment ms = back-segment ms
back form.Path ms = back-path ms
back form.PathExpr ms = back-path_expr ms
back form.PathType ms = back-path_type ms
back form.Paren ms = back-paren ms
back form.Prefix ms = back-prefix ms
back form.Borrow ms = back-ref ms
back form.Binary ms = back-bin ms
back form.Range ms = back-range ms
back form.Field ms = back-field ms
back form.Await ms = back-await ms
back form.Try ms = back-try ms
back form.Cast ms = back-cast ms
back form.Index ms = back-index ms
back form.Call ms = back-call ms
back form.Method ms = back-method ms
back form.Arguments ms = back-arguments ms
back form.Foreign ms = tt

pub back_of : (f : Form) (ms : List Meaning) (m : Meaning) → Back f ms m → is_right m ≡ true → (ms ≡ kids_of m) × (erase m ≡ blank_of f) × FormIs f m
back_of f ms IsNothing b h = absurd (no h)
back_of f ms _ b h = b

unsigned : {s : Sign} (f : Form) → IsSign s ≡ blank_of f → ⊥
unsigned form.Foreign e = cc
unsigned _ e = cc

-- what the children of a node mean is told by what the node means
pub kids_told : (f : Form) (ms : List Meaning) (m : Meaning) → means f ms ≡ m → is_right m ≡ true → ms ≡ kids_of m
kids_told f ms m e h = (back_of f ms m (subst (Back f ms) e (back f ms)) h).0

pub term_parts : (f : Form) (ms : List Meaning) (t : Term) → means f ms ≡ IsTerm t → ms ≡ kid_meanings t
term_parts f ms t e = kids_told f ms (IsTerm t) e refl

pub arguments_parts : (f : Form) (ms : List Meaning) (args : Terms) → means f ms ≡ IsArguments args → ms ≡ IsSign Opens ∷ argument_meanings args
arguments_parts f ms args e = kids_told f ms (IsArguments args) e refl

-- and the form too
pub term_formed : (f : Form) (ms : List Meaning) (t : Term) → means f ms ≡ IsTerm t → f ≡ term_form t
term_formed f ms t e = (back_of f ms (IsTerm t) (subst (Back f ms) e (back f ms)) refl).2

pub arguments_formed : (f : Form) (ms : List Meaning) (args : Terms) → means f ms ≡ IsArguments args → f ≡ form.Arguments
arguments_formed f ms args e = (back_of f ms (IsArguments args) (subst (Back f ms) e (back f ms)) refl).2

-- a node means no sign
pub no_sign : (f : Form) (ms : List Meaning) (s : Sign) → means f ms ≡ IsSign s → ⊥
no_sign f ms s e = unsigned f (back_of f ms (IsSign s) (subst (Back f ms) e (back f ms)) refl).1

-- a node that means something means what its kind may mean
pub erased : (f : Form) (ms : List Meaning) → is_right (means f ms) ≡ true → erase (means f ms) ≡ blank_of f
erased f ms h = (back_of f ms (means f ms) (back f ms) h).1

-- ---- what the kids mean is right, and the first of them is there

abbrev pub all_right : List Meaning → Bool
all_right [] = true
all_right (m ∷ ms) = is_right m && all_right ms

abbrev pub firm : List Meaning → Bool
firm [] = false
firm (IsNothing ∷ ms) = false
firm (IsSign Strange ∷ ms) = false
firm (m ∷ ms) = true

right-arguments : (args : Terms) → all_right (argument_meanings args) ≡ true
right-arguments NoTerms = refl
right-arguments (Last e) = refl
right-arguments (More e es) = right-arguments es

abbrev RightFirm : List Meaning → Type 0
RightFirm ms = (all_right ms ≡ true) × (firm ms ≡ true)

right-term : (t : Term) → RightFirm (kid_meanings t)
right-term (Prefix Not e) = (refl, refl)
right-term (Prefix Dereference e) = (refl, refl)
right-term (Prefix Negate e) = (refl, refl)
right-term (Borrow true e) = (refl, refl)
right-term (Borrow false e) = (refl, refl)
right-term _ = (refl, refl)

right-kids : (f : Form) (m : Meaning) → is_right m ≡ true → erase m ≡ blank_of f → RightFirm (kids_of m)
right-kids f IsNothing h b = absurd (no h)
right-kids f (IsSign s) h b = absurd (unsigned f b)
right-kids f (IsTerm t) h b = right-term t
right-kids f (IsArguments args) h b = (right-arguments args, refl)
right-kids f _ h b = (refl, refl)

kids-right : (f : Form) (ms : List Meaning) → is_right (means f ms) ≡ true → RightFirm ms
kids-right f ms h =
    let b = back_of f ms (means f ms) (back f ms) h in
    subst RightFirm (sym b.0) (right-kids f (means f ms) h b.1)

-- a form whose parts mean nothing means nothing
pub strict : (f : Form) (ms : List Meaning) → is_right (means f ms) ≡ true → all_right ms ≡ true
strict f ms h = (kids-right f ms h).0

pub firm-form : (f : Form) (ms : List Meaning) → is_right (means f ms) ≡ true → firm ms ≡ true
firm-form f ms h = (kids-right f ms h).1
