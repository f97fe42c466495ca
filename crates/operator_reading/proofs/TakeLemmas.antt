-- Reading the children of a node from the left.
use Rattle.std.proofs.Common.{◌≡◌, ◌<◌, ℕ, ◌+◌, List, [], ◌∷◌, Bool, true, false, ◌||◌, cond, Option, Some, None, length, refl, sym, ap, ◌∙◌, arith}
use Rattle.std.specs.Prelude.{option_and_then, if◌then◌else◌}
use Rattle.syntax_kind.specs.Kinds.{is_trivia}
use Rattle.tree_model.specs.Tree.{Tree, node, token, Forest, nil, cons, kind_of, text, is_token}
use Rattle.lossless_tree.specs.Trees.{is_done, first_of, rest_of, past_trivia}
use Rattle.operator_terms.specs.Operators.{Subtract, Multiply, BitAnd, Compute}
use Rattle.operator_terms.specs.Term.{Term}
use Rattle.operator_terms.specs.Sign.{Lit, Word, Opens, Closes, OpensIndex, ClosesIndex, Comma, Dot, Question, AwaitWord, MutWord, Bang, As, To, Op}
use Rattle.operator_trees.specs.Forms.{form_of}
use Rattle.operator_trees.specs.Shown.{Meaning, IsSign, IsTerm, IsName, IsSegment, IsPath, IsType, IsArguments, IsNothing, leaf, literal_form, name_form, segment_form, path_form, path_expr_form, path_type_form, paren_form, prefix_form, ref_form, bin_form, range_form, field_form, await_form, try_form, cast_form, index_form, call_form, method_form, put_argument, rest_form, arguments_form, is_right}
use Rattle.operator_trees.specs.Shape.{blank_of, assumed}
use Rattle.operator_reading.specs.declared.take.What.{What}
use Rattle.operator_reading.specs.declared.take.What.TheVariants as what
use Rattle.operator_reading.specs.Take.{is_what, take, is_end, first_meaning}

-- what is left after trivia; where it starts is of no matter here
abbrev pub skipped : Forest → Forest
skipped nil = nil
skipped (cons (token k t) r) = cond (is_trivia k) (skipped r) (cons (token k t) r)
skipped (cons (node k c) r) = cons (node k c) r

pub past-skipped : (f : Forest) (b : ℕ) → (past_trivia f b).trees ≡ skipped f
past-skipped nil b = refl
past-skipped (cons (token k t) r) b = by (past-skipped r (b + length t)) (is_trivia k)
  where
    by : (past_trivia r (b + length t)).trees ≡ skipped r → (y : Bool) → (if y then past_trivia r (b + length t) else record { trees = cons (token k t) r; start = b }).trees ≡ cond y (skipped r) (cons (token k t) r)
    by e true = e
    by e false = refl
past-skipped (cons (node k c) r) b = refl

-- what is left after trivia means the same
pub assumed-skipped : (f : Forest) → assumed (skipped f) ≡ assumed f
assumed-skipped nil = refl
assumed-skipped (cons (token k t) r) = by (assumed-skipped r) (is_trivia k) refl
  where
    by : assumed (skipped r) ≡ assumed r → (b : Bool) → is_trivia k ≡ b → assumed (cond b (skipped r) (cons (token k t) r)) ≡ cond b (assumed r) (IsSign (leaf k t) ∷ assumed r)
    by e true h = e
    by e false h = rw h refl
assumed-skipped (cons (node k c) r) = refl

-- the first is no trivia
pub solid : (f : Forest) → is_done (skipped f) ≡ false → is_token (first_of (skipped f)) ≡ true → is_trivia (kind_of (first_of (skipped f))) ≡ false
solid nil h g = absurd (no h)
  where
    no : true ≡ false → ⊥
    no e = cc
solid (cons (node k c) r) h g = absurd (no g)
  where
    no : false ≡ true → ⊥
    no e = cc
solid (cons (token k t) r) h g = by (solid r) (is_trivia k) refl h g
  where
    by : (is_done (skipped r) ≡ false → is_token (first_of (skipped r)) ≡ true → is_trivia (kind_of (first_of (skipped r))) ≡ false) → (b : Bool) → is_trivia k ≡ b → is_done (cond b (skipped r) (cons (token k t) r)) ≡ false → is_token (first_of (cond b (skipped r) (cons (token k t) r))) ≡ true → is_trivia (kind_of (first_of (cond b (skipped r) (cons (token k t) r)))) ≡ false
    by each true e h g = each h g
    by each false e h g = e

pub take_none : (w : What) (f : Forest) → is_done (skipped f) ≡ true → None ≡ take w (assumed f)
take_none w f h = ap (take w) (done (skipped f) h ∙ assumed-skipped f)
  where
    done : (g : Forest) → is_done g ≡ true → [] ≡ assumed g
    done nil h = refl
    done (cons t r) h = absurd (let bad : false ≡ true = h in cc)

pub meaning-token : (t : Tree) → is_token t ≡ true → IsSign (leaf (kind_of t) (text t)) ≡ first_meaning t
meaning-token (token k t) h = refl
meaning-token (node k c) h = absurd (let bad : false ≡ true = h in cc)

pub meaning-node : (t : Tree) → is_token t ≡ false → blank_of (form_of (kind_of t)) ≡ first_meaning t
meaning-node (token k t) h = absurd (let bad : true ≡ false = h in cc)
meaning-node (node k c) h = refl

take_by : (w : What) (g : Forest) → is_done g ≡ false → (is_token (first_of g) ≡ true → is_trivia (kind_of (first_of g)) ≡ false)
    → cond (is_what w (first_meaning (first_of g))) (Some (assumed (rest_of g))) None ≡ take w (assumed g)
take_by w nil h s = absurd (let bad : true ≡ false = h in cc)
take_by w (cons (token k t) r) h s = rw (s refl) refl
take_by w (cons (node k c) r) h s = refl

take_is : (w : What) (f here : Forest) → here ≡ skipped f → is_done here ≡ false → cond (is_what w (first_meaning (first_of here))) (Some (assumed (rest_of here))) None ≡ take w (assumed f)
take_is w f here e h = rw e (take_by w (skipped f) (ap is_done (sym e) ∙ h) (solid f (ap is_done (sym e) ∙ h)) ∙ ap (take w) (assumed-skipped f))

pub take_yes : (w : What) (f here rest : Forest) (b : Bool) → here ≡ skipped f → is_done here ≡ false → b ≡ is_what w (first_meaning (first_of here)) → b ≡ true → rest ≡ rest_of here → Some (assumed rest) ≡ take w (assumed f)
take_yes w f here rest b e h is y r = rw r (ap (λ x. cond x (Some (assumed (rest_of here))) None) (sym y ∙ is) ∙ take_is w f here e h)

pub take_no : (w : What) (f here : Forest) (b : Bool) → here ≡ skipped f → is_done here ≡ false → b ≡ is_what w (first_meaning (first_of here)) → b ≡ false → None ≡ take w (assumed f)
take_no w f here b e h is n = ap (λ x. cond x (Some (assumed (rest_of here))) None) (sym n ∙ is) ∙ take_is w f here e h

pub end-is : (f : Forest) → is_done (skipped f) ≡ is_end (Some (assumed f))
end-is f = by (skipped f) (solid f) ∙ ap (λ ms. is_end (Some ms)) (assumed-skipped f)
  where
    by : (g : Forest) → (is_done g ≡ false → is_token (first_of g) ≡ true → is_trivia (kind_of (first_of g)) ≡ false) → is_done g ≡ is_end (Some (assumed g))
    by nil h = refl
    by (cons (node k c) r) h = refl
    by (cons (token k t) r) h = rw (h refl refl) refl

-- ---- the forms, read from the left
pub by-literal : (ms : List Meaning) → is_end (take what.ALiteral ms) ≡ is_right (literal_form ms)
by-literal (IsSign (Lit k t) ∷ []) = refl
by-literal _ = refl

pub by-name : (ms : List Meaning) → is_end (take what.AWord ms) ≡ is_right (name_form ms)
by-name (IsSign (Word n) ∷ []) = refl
by-name _ = refl

pub by-segment : (ms : List Meaning) → is_end (take what.AName ms) ≡ is_right (segment_form ms)
by-segment (IsName n ∷ []) = refl
by-segment _ = refl

pub by-path : (ms : List Meaning) → is_end (take what.ASegment ms) ≡ is_right (path_form ms)
by-path (IsSegment n ∷ []) = refl
by-path _ = refl

pub by-path_expr : (ms : List Meaning) → is_end (take what.APath ms) ≡ is_right (path_expr_form ms)
by-path_expr (IsPath n ∷ []) = refl
by-path_expr _ = refl

pub by-path_type : (ms : List Meaning) → is_end (take what.APath ms) ≡ is_right (path_type_form ms)
by-path_type (IsPath n ∷ []) = refl
by-path_type _ = refl

pub by-paren : (ms : List Meaning) → is_end (option_and_then (take what.Closing) (option_and_then (take what.ATerm) (take what.Opening ms))) ≡ is_right (paren_form ms)
by-paren (IsSign Opens ∷ IsTerm e ∷ IsSign Closes ∷ []) = refl
by-paren _ = refl

pub by-prefix : (ms : List Meaning) → is_end (option_and_then (take what.ATerm) (take what.PrefixSign ms)) ≡ is_right (prefix_form ms)
by-prefix (IsSign Bang ∷ IsTerm e ∷ []) = refl
by-prefix (IsSign (Op (Compute Multiply)) ∷ IsTerm e ∷ []) = refl
by-prefix (IsSign (Op (Compute Subtract)) ∷ IsTerm e ∷ []) = refl
by-prefix _ = refl

pub by-bin : (ms : List Meaning) → is_end (option_and_then (take what.ATerm) (option_and_then (take what.AnOperator) (take what.ATerm ms))) ≡ is_right (bin_form ms)
by-bin (IsTerm l ∷ IsSign (Op op) ∷ IsTerm r ∷ []) = refl
by-bin _ = refl

pub by-field : (ms : List Meaning) → is_end (option_and_then (take what.AName) (option_and_then (take what.Dot) (take what.ATerm ms))) ≡ is_right (field_form ms)
by-field (IsTerm e ∷ IsSign Dot ∷ IsName n ∷ []) = refl
by-field _ = refl

pub by-await : (ms : List Meaning) → is_end (option_and_then (take what.AwaitWord) (option_and_then (take what.Dot) (take what.ATerm ms))) ≡ is_right (await_form ms)
by-await (IsTerm e ∷ IsSign Dot ∷ IsSign AwaitWord ∷ []) = refl
by-await _ = refl

pub by-try : (ms : List Meaning) → is_end (option_and_then (take what.Question) (take what.ATerm ms)) ≡ is_right (try_form ms)
by-try (IsTerm e ∷ IsSign Question ∷ []) = refl
by-try _ = refl

pub by-cast : (ms : List Meaning) → is_end (option_and_then (take what.AType) (option_and_then (take what.As) (take what.ATerm ms))) ≡ is_right (cast_form ms)
by-cast (IsTerm e ∷ IsSign As ∷ IsType n ∷ []) = refl
by-cast _ = refl

pub by-index : (ms : List Meaning) → is_end (option_and_then (take what.ClosesIndex) (option_and_then (take what.ATerm) (option_and_then (take what.OpensIndex) (take what.ATerm ms)))) ≡ is_right (index_form ms)
by-index (IsTerm e ∷ IsSign OpensIndex ∷ IsTerm i ∷ IsSign ClosesIndex ∷ []) = refl
by-index _ = refl

pub by-call : (ms : List Meaning) → is_end (option_and_then (take what.AList) (take what.ATerm ms)) ≡ is_right (call_form ms)
by-call (IsTerm e ∷ IsArguments args ∷ []) = refl
by-call _ = refl

pub by-method : (ms : List Meaning) → is_end (option_and_then (take what.AList) (option_and_then (take what.AName) (option_and_then (take what.Dot) (take what.ATerm ms)))) ≡ is_right (method_form ms)
by-method (IsTerm e ∷ IsSign Dot ∷ IsName n ∷ IsArguments args ∷ []) = refl
by-method _ = refl

pub by-ref : (ms : List Meaning) → (is_end (option_and_then (take what.ATerm) (take what.Amp ms)) || is_end (option_and_then (take what.ATerm) (option_and_then (take what.MutWord) (take what.Amp ms)))) ≡ is_right (ref_form ms)
by-ref (IsSign (Op (Compute BitAnd)) ∷ IsTerm e ∷ []) = refl
by-ref (IsSign (Op (Compute BitAnd)) ∷ IsSign MutWord ∷ IsTerm e ∷ []) = refl
by-ref _ = refl

pub by-range : (ms : List Meaning) → (is_end (take what.Dots ms) || (is_end (option_and_then (take what.Dots) (take what.ATerm ms)) || (is_end (option_and_then (take what.ATerm) (take what.AnyDots ms)) || is_end (option_and_then (take what.ATerm) (option_and_then (take what.AnyDots) (take what.ATerm ms)))))) ≡ is_right (range_form ms)
by-range (IsSign (To false) ∷ []) = refl
by-range (IsTerm l ∷ IsSign (To false) ∷ []) = refl
by-range (IsSign (To false) ∷ IsTerm r ∷ []) = refl
by-range (IsSign (To true) ∷ IsTerm r ∷ []) = refl
by-range (IsTerm l ∷ IsSign (To false) ∷ IsTerm r ∷ []) = refl
by-range (IsTerm l ∷ IsSign (To true) ∷ IsTerm r ∷ []) = refl
by-range _ = refl

-- ---- arguments
abbrev RestIs : Meaning → Type 0
RestIs (IsArguments args) = Unit {0}
RestIs IsNothing = Unit {0}
RestIs _ = ⊥

rest-put : (e : Term) (m : Meaning) → RestIs (put_argument e m)
rest-put e (IsArguments args) = tt
rest-put e _ = tt

rest-is : (ms : List Meaning) → RestIs (rest_form ms)
rest-is (IsSign Closes ∷ []) = tt
rest-is (IsTerm e ∷ IsSign Closes ∷ []) = tt
rest-is (IsTerm e ∷ IsSign Comma ∷ ms) = rest-put e (rest_form ms)
rest-is _ = tt

same-put : (e : Term) (m : Meaning) → RestIs m → is_right (put_argument e m) ≡ is_right m
same-put e (IsArguments args) r = refl
same-put e IsNothing r = refl
same-put e _ r = absurd r

pub rest_now : (ms : List Meaning) → is_end (take what.Closing ms) ≡ true → is_right (rest_form ms) ≡ true
rest_now (IsSign Closes ∷ []) h = refl
rest_now (IsTerm e ∷ IsSign Closes ∷ []) h = refl
rest_now (IsTerm e ∷ IsSign Comma ∷ ms) h = absurd (let bad : false ≡ true = h in cc)
rest_now _ h = absurd (let bad : false ≡ true = h in cc)

abbrev pub two_on : List Meaning → Option (List Meaning)
two_on ms = option_and_then (take what.Comma) (take what.ATerm ms)

-- a comma after the first argument: what follows it is as right
pub rest_step : (ms ns : List Meaning) → two_on ms ≡ Some ns → (is_right (rest_form ns) ≡ is_right (rest_form ms)) × (length ns < length ms)
rest_step (IsTerm e ∷ IsSign Comma ∷ ms) ns h =
    let same : ms ≡ ns = (let g : Some ms ≡ Some ns = h in cc) in
    (ap (λ x. is_right (rest_form x)) (sym same) ∙ sym (same-put e (rest_form ms) (rest-is ms)), omega (arith, ap length same))
rest_step (IsSign Closes ∷ []) ns h = absurd (let bad : None ≡ Some ns = h in cc)
rest_step (IsTerm e ∷ IsSign Closes ∷ []) ns h = absurd (let bad : None ≡ Some ns = h in cc)
rest_step _ ns h = absurd (let bad : None ≡ Some ns = h in cc)

pub rest_last : (ms : List Meaning) → is_end (take what.Closing ms) ≡ false → two_on ms ≡ None → is_end (option_and_then (take what.Closing) (take what.ATerm ms)) ≡ is_right (rest_form ms)
rest_last (IsSign Closes ∷ []) g h = absurd (let bad : true ≡ false = g in cc)
rest_last (IsTerm e ∷ IsSign Closes ∷ []) g h = refl
rest_last (IsTerm e ∷ IsSign Comma ∷ ms) g h = absurd (let bad : Some ms ≡ None = h in cc)
rest_last _ g h = refl

pub opened : (ms : List Meaning) (ns : List Meaning) → Some ns ≡ take what.Opening ms → is_right (rest_form ns) ≡ is_right (arguments_form ms)
opened (IsSign Opens ∷ ms) ns h = let same : ns ≡ ms = (let g : Some ns ≡ Some ms = h in cc) in ap (λ x. is_right (rest_form x)) same
opened [] ns h = absurd (let bad : Some ns ≡ None = h in cc)
opened _ ns h = absurd (let bad : Some ns ≡ None = h in cc)

pub unopened : (ms : List Meaning) → None ≡ take what.Opening ms → false ≡ is_right (arguments_form ms)
unopened (IsSign Opens ∷ ms) h = absurd (let bad : None ≡ Some ms = h in cc)
unopened _ h = refl
