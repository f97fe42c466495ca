-- An expression in the place of another.
use Rattle.std.specs.Prelude.{◌≡◌, ℕ, ◌⊎◌, ◌≤◌, ◌^◌, Bool, true, false, if◌then◌else◌, List, [], ◌∷◌, length, ⊤, Option, Some, None, codes}
use Rattle.syntax_kind.specs.declared.syntax_kind.TheConstants.SyntaxKind.{SOURCE_FILE, PAREN_EXPR, L_PAREN, R_PAREN, ERROR}
use Rattle.syntax_kind.specs.Kinds.{is_same_kind}
use Rattle.tree_model.specs.Tree.{Tree, node, token, nil, cons, kind_of, text}
use Rattle.tree_model.specs.Cursor.{Cursor, focus, range_start, range_end, parent_of}
use Rattle.tree_model.specs.Edit.{replace, root_of, splice}
use Rattle.ras_prec.specs.Rules.{asks}
use Rattle.ras_front_end.specs.declared.edition.Entry.{Entry}
use Rattle.ras_front_end.specs.declared.edition.Entry.TheVariants.{SourceFile, Expr}
use Rattle.ras_front_end.specs.declared.edition.Edition.{Edition}
use Rattle.ras_front_end.specs.Front.{Front}
use Rattle.ras_front_end.specs.Parsed.{Parsed, IsParseOf}
use Rattle.syntax_make.specs.declared.error.ReplaceExprError.{ReplaceExprError}
use Rattle.syntax_make.specs.declared.error.ReplaceExprError.TheVariants.{ReadsOtherwise, TooLong, Memory}

-- a tree in a pair of parentheses
abbrev pub in_pair : Tree → Tree
in_pair t = node PAREN_EXPR (cons (token L_PAREN (codes "(")) (cons t (cons (token R_PAREN (codes ")")) nil)))

-- a pair round a node without children
abbrev pub empty_pair : Tree
empty_pair = in_pair (node ERROR nil)

-- what is put in the place: the new expression, or a pair with it
abbrev pub piece_of : Bool → Cursor → Tree
piece_of true new = in_pair (focus new)
piece_of false new = focus new

-- the tree that is meant
abbrev pub meant : Bool → Cursor → Cursor → Tree
meant pair old new = replace old.tree old.place (piece_of pair new)

-- the whole text of a tree is read as a file or as an expression, as its root says
abbrev pub entry_of : Tree → Entry
entry_of t = if is_same_kind (kind_of t) SOURCE_FILE then SourceFile else Expr

abbrev pub IsReadingOf : Front → Edition → Tree → Parsed → Type 0
IsReadingOf front edition t p = IsParseOf (text t) (front.parsed (entry_of t) edition (text t)) p

-- the text of a tree parses to the tree
pub record Reads (front : Front) (edition : Edition) (t : Tree) : Type 0 where
  pub parse : Parsed
  pub parsed : IsReadingOf front edition t parse
  pub same : parse.tree ≡ t

-- the text of a tree parses to another one
pub record IsMisreading (front : Front) (edition : Edition) (t : Tree) : Type 0 where
  pub parse : Parsed
  pub parsed : IsReadingOf front edition t parse
  pub other : parse.tree ≡ t → ⊥

abbrev pub IsReadOrNot : Front → Edition → Tree → Bool → Type 0
IsReadOrNot front edition t true = Reads front edition t
IsReadOrNot front edition t false = IsMisreading front edition t

-- the expression needs a pair of parentheses in the place of the other, below that one's parent
abbrev pub needs_pair_below : Option Cursor → Cursor → Cursor → Bool
needs_pair_below None new old = false
needs_pair_below (Some parent) new old = asks new parent old

abbrev pub needs_pair_at : Cursor → Cursor → Bool
needs_pair_at new old = needs_pair_below (parent_of old) new old

-- it needs one, or the text without one would read as another tree
abbrev pub IsPairNeeded : Front → Edition → Cursor → Cursor → Type 0
IsPairNeeded front edition old new = (needs_pair_at new old ≡ true) ⊎ IsMisreading front edition (meant false old new)

-- without a pair: it needs none, and the text reads as the new tree
pub record IsBare (front : Front) (edition : Edition) (old new root : Cursor) : Type 0 where
  pub root_is : root ≡ root_of (meant false old new)
  pub needs_none : needs_pair_at new old ≡ false
  pub reads : Reads front edition (meant false old new)

-- with a pair: the text reads as the new tree, and the pair is needed
pub record IsPaired (front : Front) (edition : Edition) (old new root : Cursor) : Type 0 where
  pub root_is : root ≡ root_of (meant true old new)
  pub needed : IsPairNeeded front edition old new
  pub reads : Reads front edition (meant true old new)

abbrev pub IsBareOrNot : Front → Edition → Cursor → Cursor → Option Cursor → Type 0
IsBareOrNot front edition old new None = IsPairNeeded front edition old new
IsBareOrNot front edition old new (Some root) = IsBare front edition old new root

abbrev pub IsReplaced : Front → Edition → Cursor → Cursor → Bool → Cursor → Type 0
IsReplaced front edition old new false root = IsBare front edition old new root
IsReplaced front edition old new true root = IsPaired front edition old new root

-- the old text with that of the piece in the place of the old expression's
abbrev pub IsTextWith : Cursor → Tree → List ℕ → Type 0
IsTextWith old piece s = s ≡ splice (text old.tree) (range_start old) (range_end old) (text piece)

-- why there is no such tree: its text is too long, if memory did not run out before
abbrev pub IsTooLong : Tree → ReplaceExprError → Type 0
IsTooLong t ReadsOtherwise = ⊥
IsTooLong t TooLong = 2 ^ 32 ≤ length (text t)
IsTooLong t Memory = ⊤

-- why nothing is replaced
abbrev pub IsNotReplaced : Front → Edition → Cursor → Cursor → ReplaceExprError → Type 0
IsNotReplaced front edition old new ReadsOtherwise = IsPairNeeded front edition old new × IsMisreading front edition (meant true old new)
IsNotReplaced front edition old new TooLong =
    (2 ^ 32 ≤ length (text (meant false old new))) ⊎ (2 ^ 32 ≤ length (text (in_pair (focus new)))) ⊎ (2 ^ 32 ≤ length (text (meant true old new)))
IsNotReplaced front edition old new Memory = ⊤
