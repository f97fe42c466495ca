-- What a node means if each child that is a node means what its kind may mean.
use Rattle.std.specs.Prelude.{List, [], ◌∷◌, true, false, cond}
use Rattle.syntax_kind.specs.Kinds.{is_trivia}
use Rattle.tree_model.specs.Tree.{Tree, node, token, Forest, nil, cons}
use Rattle.operator_terms.specs.Operators.{Subtract, Multiply, BitAnd, Compute, Dereference, Not, Negate}
use Rattle.operator_terms.specs.Term.{Term, Literal, Name, Paren, Field, Await, Try, Cast, Method, Call, Index, Prefix, Borrow, Binary, RangeFull, RangeFrom, RangeTo, Range, Terms, NoTerms, Last, More}
use Rattle.operator_terms.specs.Sign.{Lit, Word, Opens, Closes, OpensIndex, ClosesIndex, Comma, Dot, Question, AwaitWord, MutWord, Bang, As, To, Op}
use Rattle.operator_trees.specs.declared.form.Form.{Form}
use Rattle.operator_trees.specs.declared.form.Form.TheVariants as form
use Rattle.operator_trees.specs.Forms.{form_of}
use Rattle.operator_trees.specs.Shown.{Meaning, IsSign, IsTerm, IsName, IsSegment, IsPath, IsType, IsArguments, IsNothing, leaf, means}

-- ---- what the children of a node mean, trivia left out, by what the node means

abbrev pub kid_meanings : Term → List Meaning
kid_meanings (Literal k x) = IsSign (Lit k x) ∷ []
kid_meanings (Name n) = IsPath n ∷ []
kid_meanings (Paren e) = IsSign Opens ∷ IsTerm e ∷ IsSign Closes ∷ []
kid_meanings (Field e n) = IsTerm e ∷ IsSign Dot ∷ IsName n ∷ []
kid_meanings (Await e) = IsTerm e ∷ IsSign Dot ∷ IsSign AwaitWord ∷ []
kid_meanings (Try e) = IsTerm e ∷ IsSign Question ∷ []
kid_meanings (Cast e n) = IsTerm e ∷ IsSign As ∷ IsType n ∷ []
kid_meanings (Method e n args) = IsTerm e ∷ IsSign Dot ∷ IsName n ∷ IsArguments args ∷ []
kid_meanings (Call e args) = IsTerm e ∷ IsArguments args ∷ []
kid_meanings (Index e i) = IsTerm e ∷ IsSign OpensIndex ∷ IsTerm i ∷ IsSign ClosesIndex ∷ []
kid_meanings (Prefix Not e) = IsSign Bang ∷ IsTerm e ∷ []
kid_meanings (Prefix Dereference e) = IsSign (Op (Compute Multiply)) ∷ IsTerm e ∷ []
kid_meanings (Prefix Negate e) = IsSign (Op (Compute Subtract)) ∷ IsTerm e ∷ []
kid_meanings (Borrow false e) = IsSign (Op (Compute BitAnd)) ∷ IsTerm e ∷ []
kid_meanings (Borrow true e) = IsSign (Op (Compute BitAnd)) ∷ IsSign MutWord ∷ IsTerm e ∷ []
kid_meanings (Binary op l r) = IsTerm l ∷ IsSign (Op op) ∷ IsTerm r ∷ []
kid_meanings RangeFull = IsSign (To false) ∷ []
kid_meanings (RangeFrom l) = IsTerm l ∷ IsSign (To false) ∷ []
kid_meanings (RangeTo inclusive r) = IsSign (To inclusive) ∷ IsTerm r ∷ []
kid_meanings (Range inclusive l r) = IsTerm l ∷ IsSign (To inclusive) ∷ IsTerm r ∷ []

abbrev pub argument_meanings : Terms → List Meaning
argument_meanings NoTerms = IsSign Closes ∷ []
argument_meanings (Last e) = IsTerm e ∷ IsSign Closes ∷ []
argument_meanings (More e es) = IsTerm e ∷ IsSign Comma ∷ argument_meanings es

abbrev pub kids_of : Meaning → List Meaning
kids_of (IsTerm t) = kid_meanings t
kids_of (IsName n) = IsSign (Word n) ∷ []
kids_of (IsSegment n) = IsName n ∷ []
kids_of (IsPath n) = IsSegment n ∷ []
kids_of (IsType n) = IsPath n ∷ []
kids_of (IsArguments args) = IsSign Opens ∷ argument_meanings args
kids_of _ = []

-- the form of the node that shows a term
abbrev pub term_form : Term → Form
term_form (Literal k x) = form.Literal
term_form (Name n) = form.PathExpr
term_form (Paren e) = form.Paren
term_form (Field e n) = form.Field
term_form (Await e) = form.Await
term_form (Try e) = form.Try
term_form (Cast e n) = form.Cast
term_form (Method e n args) = form.Method
term_form (Call e args) = form.Call
term_form (Index e i) = form.Index
term_form (Prefix op e) = form.Prefix
term_form (Borrow mutable e) = form.Borrow
term_form (Binary op l r) = form.Binary
term_form RangeFull = form.Range
term_form (RangeFrom l) = form.Range
term_form (RangeTo inclusive r) = form.Range
term_form (Range inclusive l r) = form.Range

-- ---- meanings without what is below

-- what is in the place of a part
abbrev pub blank : Term
blank = Name []

abbrev pub erase : Meaning → Meaning
erase (IsSign s) = IsSign s
erase (IsTerm e) = IsTerm blank
erase (IsName n) = IsName []
erase (IsSegment n) = IsSegment []
erase (IsPath n) = IsPath []
erase (IsType n) = IsType []
erase (IsArguments args) = IsArguments NoTerms
erase IsNothing = IsNothing

-- what a node of this form means, if anything
abbrev pub blank_of : Form → Meaning
blank_of form.Literal = IsTerm blank
blank_of form.NameRef = IsName []
blank_of form.Segment = IsSegment []
blank_of form.Path = IsPath []
blank_of form.PathExpr = IsTerm blank
blank_of form.PathType = IsType []
blank_of form.Paren = IsTerm blank
blank_of form.Prefix = IsTerm blank
blank_of form.Borrow = IsTerm blank
blank_of form.Binary = IsTerm blank
blank_of form.Range = IsTerm blank
blank_of form.Field = IsTerm blank
blank_of form.Await = IsTerm blank
blank_of form.Try = IsTerm blank
blank_of form.Cast = IsTerm blank
blank_of form.Index = IsTerm blank
blank_of form.Call = IsTerm blank
blank_of form.Method = IsTerm blank
blank_of form.Arguments = IsArguments NoTerms
blank_of form.Foreign = IsNothing

abbrev pub assumed : Forest → List Meaning
assumed nil = []
assumed (cons (token k t) r) = cond (is_trivia k) (assumed r) (IsSign (leaf k t) ∷ assumed r)
assumed (cons (node k c) r) = blank_of (form_of k) ∷ assumed r

abbrev pub shape : Tree → Meaning
shape (node k c) = means (form_of k) (assumed c)
shape (token k t) = IsSign (leaf k t)

-- the form at the top, its parts and texts gone
abbrev pub outline : Term → Term
outline (Literal kind text) = Literal kind text
outline (Name n) = blank
outline (Paren e) = Paren blank
outline (Field e n) = Field blank []
outline (Await e) = Await blank
outline (Try e) = Try blank
outline (Cast e n) = Cast blank []
outline (Method e n args) = Method blank [] NoTerms
outline (Call e args) = Call blank NoTerms
outline (Index e i) = Index blank blank
outline (Prefix op e) = Prefix op blank
outline (Borrow mutable e) = Borrow mutable blank
outline (Binary op l r) = Binary op blank blank
outline RangeFull = RangeFull
outline (RangeFrom l) = RangeFrom blank
outline (RangeTo inclusive r) = RangeTo inclusive blank
outline (Range inclusive l r) = Range inclusive blank blank

abbrev pub outlined : Meaning → Meaning
outlined (IsTerm t) = IsTerm (outline t)
outlined (IsSign s) = IsSign s
outlined (IsName n) = IsName []
outlined (IsSegment n) = IsSegment []
outlined (IsPath n) = IsPath []
outlined (IsType n) = IsType []
outlined (IsArguments args) = IsArguments NoTerms
outlined IsNothing = IsNothing
