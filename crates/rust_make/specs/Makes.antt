-- Nodes that are made from pieces, and the pieces of lists.
use Rattle.std.specs.Prelude.{ℕ, ◌==◌, Bool, true, false, not, is_some, ◌&&◌, List, [], ◌∷◌, Option, None, Some, Result, MatchResult, codes}
use Rattle.std.specs.List.{find, list_any}
use Rattle.std.specs.Cmp.Lexicographic.{pointwise}
use Rattle.syntax_kind.specs.declared.syntax_kind.TheConstants.SyntaxKind.{IDENT, COMMA, SEMICOLON, EXPR_STMT}
use Rattle.tree_model.specs.Tree.{text}
use Rattle.tree_model.specs.Cursor.{Cursor, focus, descendants_of, at_token}
use Rattle.ras_node.specs.Nodes.{kind_at, is_of_kind, typed_child, token_child}
use Rattle.ras_prec_walks.specs.Along.{is_block_like}
use Rattle.ras_parsing.specs.Names.{is_raw_identifier_of}
use Rattle.ra_ap_syntax.specs.ExprCases.{expr_kinds}
use Rattle.ras_node.specs.declared.node.AstNode.{Ghosts}
use Rattle.ras_operators.specs.declared.operators.UnaryOp.{UnaryOp}
use Rattle.ras_operators.specs.declared.operators.UnaryOp.TheVariants.{Deref, Not, Neg}
use Rattle.ras_front_end.specs.declared.edition.Edition.{Edition}
use Rattle.ras_front_end.specs.Front.{Front}
use Rattle.syntax_make.specs.declared.error.MakeError.{MakeError}
use Rattle.syntax_make.specs.Forms.{Bit, fixed, part, children, left, IsFormOf, IsNoFormOf}

-- the view of the node that is made of these bits, or why there is none
abbrev pub IsMadeOf : {N : Type 0} → Ghosts N → Front → Edition → List Bit → Result N MakeError → Type 0
IsMadeOf type front edition bits r =
    MatchResult r (λ n. IsFormOf front edition type.casts bits (type.node n)) (λ e. IsNoFormOf front edition type.casts bits e)

-- a node behind a text, if there is one
abbrev pub optional : List ℕ → Option Cursor → List Bit
optional before None = []
optional before (Some c) = fixed before ∷ part c ∷ []

-- nodes, each behind a text; and with a text between any two
abbrev pub behind : List ℕ → List Cursor → List Bit
behind before [] = []
behind before (c ∷ cs) = fixed before ∷ part c ∷ behind before cs

abbrev pub separated : List ℕ → List Cursor → List Bit
separated between [] = []
separated between (c ∷ cs) = part c ∷ behind between cs

-- nodes, each between two texts
abbrev pub each_between : List ℕ → List ℕ → List Cursor → List Bit
each_between before after [] = []
each_between before after (c ∷ cs) = fixed before ∷ part c ∷ fixed after ∷ each_between before after cs

abbrev pub prefix_text : UnaryOp → List ℕ
prefix_text Deref = codes "*"
prefix_text Not = codes "!"
prefix_text Neg = codes "-"

-- a text, if it is wanted
abbrev pub text_if : Bool → List ℕ → List ℕ
text_if true s = s
text_if false s = []

-- what stands before a block: a newline behind what has one, and else a blank
abbrev pub has_newline : Cursor → Bool
has_newline c = list_any (λ b. b == 10) (text (focus c))

abbrev pub space : Bool → List ℕ
space true = codes "\n"
space false = codes " "

abbrev pub block_space : Cursor → List ℕ
block_space c = space (has_newline c)

-- it ends in a block, so that no sign need follow it in an arm or a statement
abbrev pub ends_itself : Cursor → Bool
ends_itself c = is_block_like (kind_at c)

-- what stands before the body of an arm
abbrev pub arm_space : Option Cursor → Cursor → List ℕ
arm_space None body = codes " "
arm_space (Some guard) body = space (ends_itself body && has_newline guard)

-- `r#` before a word that is a name only behind it
abbrev pub raw_prefix : Front → Edition → List ℕ → List ℕ
raw_prefix front edition s = text_if (is_raw_identifier_of front edition s) (codes "r#")

-- an arm without a comma that needs one behind it, since its body does not end in a block
abbrev pub is_open_body : Option Cursor → Bool
is_open_body None = true
is_open_body (Some body) = not (ends_itself body)

abbrev pub lacks_comma : Cursor → Bool
lacks_comma c = not (is_some (token_child COMMA c)) && is_open_body (typed_child expr_kinds c)

abbrev pub part_unless : Bool → Cursor → Bit
part_unless true c = children c
part_unless false c = part c

-- arms, a line for each, with the commas that they lack
abbrev pub arm_bits : List Cursor → List Bit
arm_bits [] = []
arm_bits (c ∷ cs) = fixed (codes "    ") ∷ part_unless (lacks_comma c) c ∷ fixed (text_if (lacks_comma c) (codes ",")) ∷ fixed (codes "\n") ∷ arm_bits cs

-- an expression as a statement without a `;`: at the end of a block it reads as the value
abbrev pub is_bare : Cursor → Bool
is_bare c = is_of_kind EXPR_STMT c && not (is_some (token_child SEMICOLON c))

abbrev pub is_last : List Cursor → Bool
is_last [] = true
is_last (c ∷ cs) = false

-- statements, a line for each; the last one of a block without a value may read as the value
abbrev pub stmt_bits : Bool → List Cursor → List Bit
stmt_bits has_value [] = []
stmt_bits has_value (c ∷ cs) = fixed (codes "\n    ") ∷ part_unless ((is_last cs && not has_value) && is_bare c) c ∷ stmt_bits has_value cs

-- a path whose text is one name, which as a pattern is no path
abbrev pub is_name_token : List ℕ → Option Cursor → Bool
is_name_token s None = false
is_name_token s (Some t) = is_of_kind IDENT t && pointwise ◌==◌ (text (focus t)) s

abbrev pub is_one_name : Cursor → Bool
is_one_name c = is_name_token (text (focus c)) (find at_token (descendants_of c))

abbrev pub pat_bit_if : Bool → Cursor → Bit
pat_bit_if true c = fixed (text (focus c))
pat_bit_if false c = part c

abbrev pub pat_bit : Cursor → Bit
pat_bit c = pat_bit_if (is_one_name c) c

-- nodes with a text between any two, the first one by its children if it changes
abbrev pub leading_bits : Bool → List ℕ → List Cursor → List Bit
leading_bits changes between [] = []
leading_bits changes between (c ∷ cs) = part_unless changes c ∷ behind between cs
