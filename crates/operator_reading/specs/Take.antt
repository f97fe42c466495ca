-- Reading the children of a node from the left.
use Rattle.std.specs.Prelude.{List, [], ◌∷◌, Bool, true, false, cond, Option, Some, None}
use Rattle.tree_model.specs.Tree.{Tree, node, token}
use Rattle.operator_terms.specs.Operators.{Subtract, Multiply, BitAnd, Compute}
use Rattle.operator_terms.specs.Sign.{Sign, Lit, Word, Opens, Closes, OpensIndex, ClosesIndex, Comma, Dot, Question, AwaitWord, MutWord, Bang, As, To, Op}
use Rattle.operator_trees.specs.Forms.{form_of}
use Rattle.operator_trees.specs.Shown.{Meaning, IsSign, IsTerm, IsName, IsSegment, IsPath, IsType, IsArguments, leaf}
use Rattle.operator_trees.specs.Shape.{blank_of}
use Rattle.operator_reading.specs.declared.take.What.{What}
use Rattle.operator_reading.specs.declared.take.What.TheVariants as what

abbrev pub is_sign : What → Sign → Bool
is_sign what.ALiteral (Lit k t) = true
is_sign what.AWord (Word t) = true
is_sign what.Opening Opens = true
is_sign what.Closing Closes = true
is_sign what.OpensIndex OpensIndex = true
is_sign what.ClosesIndex ClosesIndex = true
is_sign what.Comma Comma = true
is_sign what.Dot Dot = true
is_sign what.Question Question = true
is_sign what.AwaitWord AwaitWord = true
is_sign what.MutWord MutWord = true
is_sign what.PrefixSign Bang = true
is_sign what.PrefixSign (Op (Compute Multiply)) = true
is_sign what.PrefixSign (Op (Compute Subtract)) = true
is_sign what.As As = true
is_sign what.Amp (Op (Compute BitAnd)) = true
is_sign what.AnOperator (Op op) = true
is_sign what.Dots (To false) = true
is_sign what.AnyDots (To inclusive) = true
is_sign _ _ = false

abbrev pub is_what : What → Meaning → Bool
is_what what.AName (IsName n) = true
is_what what.ASegment (IsSegment n) = true
is_what what.APath (IsPath n) = true
is_what what.AType (IsType n) = true
is_what what.ATerm (IsTerm e) = true
is_what what.AList (IsArguments args) = true
is_what w (IsSign s) = is_sign w s
is_what _ _ = false

-- the meanings after the first, if the first is as expected
abbrev pub take : What → List Meaning → Option (List Meaning)
take w [] = None
take w (m ∷ ms) = cond (is_what w m) (Some ms) None

abbrev pub is_end : Option (List Meaning) → Bool
is_end (Some []) = true
is_end _ = false

-- what the first of the trees is taken to mean
abbrev pub first_meaning : Tree → Meaning
first_meaning (token k t) = IsSign (leaf k t)
first_meaning (node k c) = blank_of (form_of k)
