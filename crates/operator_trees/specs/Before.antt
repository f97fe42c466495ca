-- On which side of its parent's operator an operand is, by bytes.
use Rattle.std.specs.Prelude.{ℕ, zero, suc, ◌+◌, ◌≤◌, List, [], ◌∷◌, Bool, true, false, ⊤, cond, length, get_or, nat_lt, nat_le, if◌then◌else◌}
use Rattle.syntax_kind.specs.Kinds.{is_trivia}
use Rattle.tree_model.specs.Tree.{Tree, node, token, Forest, nil, cons, no_tree, text}
use Rattle.operator_terms.specs.Term.{Term, Prefix, Borrow, RangeTo, Binary, Index, Paren, Range, RangeFull, Literal, Name, Method, Call}

-- The rule on starts of operators, for an expression of `size` bytes, whose operator starts `order`
-- bytes after its own start, in place of the range `from..to`; the parent's operator starts at
-- `parent`.
abbrev pub stands_before : (order size from to parent : ℕ) → Bool
stands_before order size from to parent =
    if nat_le parent from then nat_lt (from + order) parent
    else (if nat_le to parent then nat_lt (from + order + to) (parent + size + from) else false)

-- a child that is not trivia: its number, its start, and the tree
pub record Kid : Type 0 where
  pub number : ℕ
  pub start : ℕ
  pub tree : Tree

abbrev pub kid_end : Kid → ℕ
kid_end k = k.start + length (text k.tree)

-- the children that are not trivia; the first tree of the forest is child number i and starts at
-- byte b
abbrev pub kids : ℕ → ℕ → Forest → List Kid
kids i b nil = []
kids i b (cons (token k t) r) = cond (is_trivia k) (kids (suc i) (b + length t) r) (record { number = i; start = b; tree = token k t } ∷ kids (suc i) (b + length t) r)
kids i b (cons (node k c) r) = record { number = i; start = b; tree = node k c } ∷ kids (suc i) (b + length (text (node k c))) r

abbrev pub no_kid : Kid
no_kid = record { number = 0; start = 0; tree = no_tree }

abbrev pub kid_at : Forest → ℕ → Kid
kid_at c n = get_or (kids 0 0 c) n no_kid

-- they are one after the other, from byte b on
abbrev pub From : ℕ → List Kid → Type 0
From b [] = ⊤
From b (k ∷ ks) = (b ≤ k.start) × From (kid_end k) ks

-- which kid is the operator of a form, and which its i-th part (not that of an argument)
abbrev pub operator_kid : Term → ℕ
operator_kid (Prefix op e) = 0
operator_kid (Borrow mutable e) = 0
operator_kid (RangeTo inclusive r) = 0
operator_kid (Paren e) = 0
operator_kid (Literal k x) = 0
operator_kid (Name x) = 0
operator_kid RangeFull = 0
operator_kid _ = 1

abbrev pub part_kid : Term → ℕ → ℕ
part_kid (Prefix op e) i = 1
part_kid (Borrow false e) i = 1
part_kid (Borrow true e) i = 2
part_kid (RangeTo inclusive r) i = 1
part_kid (Paren e) i = 1
part_kid (Binary op l r) (suc i) = 2
part_kid (Range inclusive l r) (suc i) = 2
part_kid (Index e i) (suc j) = 2
part_kid _ i = 0

-- the part is a child of the node itself
abbrev pub is_direct : Term → ℕ → Bool
is_direct (Method e n args) (suc i) = false
is_direct (Call e args) (suc i) = false
is_direct t i = true

-- the index of the list of arguments among the kids, and of the j-th argument among its kids
abbrev pub arguments_kid : Term → ℕ
arguments_kid (Method e n args) = 3
arguments_kid _ = 1

abbrev pub argument_index : ℕ → ℕ
argument_index zero = 0
argument_index (suc j) = suc (suc (argument_index j))

abbrev pub argument_kid : ℕ → ℕ
argument_kid j = suc (argument_index j)
