-- No two kinds have one number.
use Rattle.std.specs.Prelude.{◌≡◌, ◌↔◌, IsTrue, ◌<◌, slice_index_or, List, [], ◌∷◌}
use Rattle.std.proofs.Common.{refl, sym, ap, ◌∙◌, arith, lit<}
use Rattle.std.proofs.lemmas.Bool.{eqb-true, eq-eqb}
use Rattle.syntax_kind.specs.Kinds.{kind_raw, is_same_kind, NumbersDiffer}
use Rattle.syntax_kind.specs.declared.syntax_kind.SyntaxKind.{SyntaxKind}
use Rattle.syntax_kind.specs.declared.syntax_kind.SyntaxKind.TheVariants.{Token, Node, OTHER}
use Rattle.syntax_kind.specs.declared.syntax_kind.token_kind.TokenKind.{TokenKind}
use Rattle.syntax_kind.specs.declared.syntax_kind.token_kind.TokenKind.TheVariants as token
use Rattle.syntax_kind.specs.declared.syntax_kind.node_kind.NodeKind.{NodeKind}
use Rattle.syntax_kind.specs.declared.syntax_kind.node_kind.NodeKind.TheVariants as node

-- `OTHER` apart, a kind's number is below 264
pub token_raw_small : (t : TokenKind) → kind_raw (Token t) < 264
token_raw_small token.WHITESPACE = lit< tt
token_raw_small _ = lit< tt

pub node_raw_small : (t : NodeKind) → kind_raw (Node t) < 264
node_raw_small node.SOURCE_FILE = lit< tt
node_raw_small _ = lit< tt

-- the kinds with a name, in the order of their numbers
kinds : List SyntaxKind
kinds =
    Token token.WHITESPACE ∷ Token token.COMMENT ∷ Token token.INNER_DOC_COMMENT ∷ Token token.OUTER_DOC_COMMENT ∷
    Token token.ERROR ∷ Token token.IDENT ∷ Token token.LIFETIME_IDENT ∷ Token token.INT_NUMBER ∷ Token token.FLOAT_NUMBER ∷
    Token token.CHAR ∷ Token token.BYTE ∷ Token token.STRING ∷ Token token.BYTE_STRING ∷ Token token.C_STRING ∷
    Token token.SEMICOLON ∷ Token token.COMMA ∷ Token token.L_PAREN ∷ Token token.R_PAREN ∷ Token token.L_CURLY ∷
    Token token.R_CURLY ∷ Token token.L_BRACK ∷ Token token.R_BRACK ∷ Token token.L_ANGLE ∷ Token token.R_ANGLE ∷ Token token.AT ∷
    Token token.POUND ∷ Token token.DOLLAR ∷ Token token.TILDE ∷ Token token.QUESTION ∷ Token token.AMP ∷ Token token.PIPE ∷
    Token token.PLUS ∷ Token token.STAR ∷ Token token.SLASH ∷ Token token.CARET ∷ Token token.PERCENT ∷ Token token.UNDERSCORE ∷
    Token token.DOT ∷ Token token.DOT2 ∷ Token token.DOT3 ∷ Token token.DOT2EQ ∷ Token token.COLON ∷ Token token.COLON2 ∷
    Token token.EQ ∷ Token token.EQ2 ∷ Token token.FAT_ARROW ∷ Token token.BANG ∷ Token token.NEQ ∷ Token token.MINUS ∷
    Token token.THIN_ARROW ∷ Token token.LTEQ ∷ Token token.GTEQ ∷ Token token.PLUSEQ ∷ Token token.MINUSEQ ∷ Token token.PIPEEQ ∷
    Token token.AMPEQ ∷ Token token.CARETEQ ∷ Token token.SLASHEQ ∷ Token token.STAREQ ∷ Token token.PERCENTEQ ∷
    Token token.AMP2 ∷ Token token.PIPE2 ∷ Token token.SHL ∷ Token token.SHR ∷ Token token.SHLEQ ∷ Token token.SHREQ ∷
    Token token.AS_KW ∷ Token token.ASYNC_KW ∷ Token token.AUTO_KW ∷ Token token.AWAIT_KW ∷ Token token.BECOME_KW ∷
    Token token.BIKESHED_KW ∷ Token token.BREAK_KW ∷ Token token.BUILTIN_KW ∷ Token token.CONST_KW ∷ Token token.CONTINUE_KW ∷
    Token token.CRATE_KW ∷ Token token.DEFAULT_KW ∷ Token token.DO_KW ∷ Token token.DYN_KW ∷ Token token.ELSE_KW ∷
    Token token.ENUM_KW ∷ Token token.EXTERN_KW ∷ Token token.FALSE_KW ∷ Token token.FN_KW ∷ Token token.FOR_KW ∷
    Token token.GEN_KW ∷ Token token.IF_KW ∷ Token token.IMPL_KW ∷ Token token.IN_KW ∷ Token token.LET_KW ∷ Token token.LOOP_KW ∷
    Token token.MACRO_KW ∷ Token token.MACRO_RULES_KW ∷ Token token.MATCH_KW ∷ Token token.MOD_KW ∷ Token token.MOVE_KW ∷
    Token token.MUT_KW ∷ Token token.PUB_KW ∷ Token token.REF_KW ∷ Token token.RETURN_KW ∷ Token token.SELF_KW ∷
    Token token.SELF_TYPE_KW ∷ Token token.STATIC_KW ∷ Token token.STRUCT_KW ∷ Token token.SUPER_KW ∷ Token token.TRAIT_KW ∷
    Token token.TRUE_KW ∷ Token token.TRY_KW ∷ Token token.TYPE_KW ∷ Token token.UNION_KW ∷ Token token.UNSAFE_KW ∷
    Token token.USE_KW ∷ Token token.WHERE_KW ∷ Token token.WHILE_KW ∷ Token token.YEET_KW ∷ Token token.YIELD_KW ∷
    Node node.ARRAY_EXPR ∷ Node node.ASM_EXPR ∷ Node node.AWAIT_EXPR ∷ Node node.BECOME_EXPR ∷ Node node.BIN_EXPR ∷
    Node node.BLOCK_EXPR ∷ Node node.BREAK_EXPR ∷ Node node.CALL_EXPR ∷ Node node.CAST_EXPR ∷ Node node.CFG_PRED_EXPR ∷
    Node node.CLOSURE_EXPR ∷ Node node.CONTINUE_EXPR ∷ Node node.FIELD_EXPR ∷ Node node.FOR_EXPR ∷ Node node.FORMAT_ARGS_EXPR ∷
    Node node.IF_EXPR ∷ Node node.INCLUDE_BYTES_EXPR ∷ Node node.INDEX_EXPR ∷ Node node.LET_EXPR ∷ Node node.LITERAL ∷
    Node node.LOOP_EXPR ∷ Node node.MACRO_EXPR ∷ Node node.MATCH_EXPR ∷ Node node.METHOD_CALL_EXPR ∷ Node node.OFFSET_OF_EXPR ∷
    Node node.PAREN_EXPR ∷ Node node.PATH_EXPR ∷ Node node.PREFIX_EXPR ∷ Node node.RANGE_EXPR ∷ Node node.RECORD_EXPR ∷
    Node node.REF_EXPR ∷ Node node.RETURN_EXPR ∷ Node node.TRY_EXPR ∷ Node node.TUPLE_EXPR ∷ Node node.UNDERSCORE_EXPR ∷
    Node node.WHILE_EXPR ∷ Node node.YEET_EXPR ∷ Node node.YIELD_EXPR ∷ Node node.ARRAY_TYPE ∷ Node node.DYN_TRAIT_TYPE ∷
    Node node.FN_PTR_TYPE ∷ Node node.FOR_TYPE ∷ Node node.IMPL_TRAIT_TYPE ∷ Node node.INFER_TYPE ∷ Node node.MACRO_TYPE ∷
    Node node.NEVER_TYPE ∷ Node node.PAREN_TYPE ∷ Node node.PATH_TYPE ∷ Node node.PTR_TYPE ∷ Node node.REF_TYPE ∷
    Node node.SLICE_TYPE ∷ Node node.TUPLE_TYPE ∷ Node node.BOX_PAT ∷ Node node.CONST_BLOCK_PAT ∷ Node node.IDENT_PAT ∷
    Node node.LITERAL_PAT ∷ Node node.MACRO_PAT ∷ Node node.OR_PAT ∷ Node node.PAREN_PAT ∷ Node node.PATH_PAT ∷
    Node node.RANGE_PAT ∷ Node node.RECORD_PAT ∷ Node node.REF_PAT ∷ Node node.REST_PAT ∷ Node node.SLICE_PAT ∷
    Node node.TUPLE_PAT ∷ Node node.TUPLE_STRUCT_PAT ∷ Node node.WILDCARD_PAT ∷ Node node.CONST ∷ Node node.ENUM ∷
    Node node.EXTERN_BLOCK ∷ Node node.EXTERN_CRATE ∷ Node node.FN ∷ Node node.IMPL ∷ Node node.MACRO_CALL ∷ Node node.MACRO_DEF ∷
    Node node.MACRO_RULES ∷ Node node.MODULE ∷ Node node.STATIC ∷ Node node.STRUCT ∷ Node node.TRAIT ∷ Node node.TYPE_ALIAS ∷
    Node node.UNION ∷ Node node.USE ∷ Node node.CFG_ATTR_META ∷ Node node.CFG_META ∷ Node node.KEY_VALUE_META ∷
    Node node.PATH_META ∷ Node node.TOKEN_TREE_META ∷ Node node.UNSAFE_META ∷ Node node.LIFETIME_PARAM ∷ Node node.TYPE_PARAM ∷
    Node node.CONST_PARAM ∷ Node node.TYPE_ARG ∷ Node node.ASSOC_TYPE_ARG ∷ Node node.LIFETIME_ARG ∷ Node node.CONST_ARG ∷
    Node node.EXPR_STMT ∷ Node node.LET_STMT ∷ Node node.SOURCE_FILE ∷ Node node.NAME ∷ Node node.NAME_REF ∷ Node node.LIFETIME ∷
    Node node.PATH ∷ Node node.PATH_SEGMENT ∷ Node node.TYPE_ANCHOR ∷ Node node.ARG_LIST ∷ Node node.PARAM_LIST ∷
    Node node.PARAM ∷ Node node.SELF_PARAM ∷ Node node.RET_TYPE ∷ Node node.STMT_LIST ∷ Node node.LABEL ∷
    Node node.TRY_BLOCK_MODIFIER ∷ Node node.LET_ELSE ∷ Node node.MATCH_ARM_LIST ∷ Node node.MATCH_ARM ∷ Node node.MATCH_GUARD ∷
    Node node.RECORD_EXPR_FIELD ∷ Node node.RECORD_PAT_FIELD ∷ Node node.FORMAT_ARGS_ARG ∷ Node node.ABI ∷ Node node.ATTR ∷
    Node node.DOC_COMMENT ∷ Node node.CFG_ATOM ∷ Node node.USE_TREE ∷ Node node.USE_TREE_LIST ∷ Node node.RECORD_FIELD_LIST ∷
    Node node.RECORD_FIELD ∷ Node node.TUPLE_FIELD_LIST ∷ Node node.TUPLE_FIELD ∷ Node node.VARIANT ∷ Node node.ITEM_LIST ∷
    Node node.ASSOC_ITEM_LIST ∷ Node node.EXTERN_ITEM_LIST ∷ Node node.TYPE_BOUND ∷ Node node.TYPE_BOUND_LIST ∷
    Node node.USE_BOUND_GENERIC_ARGS ∷ Node node.FOR_BINDER ∷ Node node.GENERIC_PARAM_LIST ∷ Node node.GENERIC_ARG_LIST ∷
    Node node.WHERE_CLAUSE ∷ Node node.WHERE_PRED ∷ Node node.VISIBILITY ∷ Node node.VISIBILITY_INNER ∷ Node node.TOKEN_TREE ∷
    Node node.MACRO_STMTS ∷ []

-- each kind is at the index of its number
token_listed : (t : TokenKind) (d : SyntaxKind) → slice_index_or kinds (kind_raw (Token t)) d ≡ Token t
unfolding kinds
token_listed token.WHITESPACE d = refl
token_listed _ d = refl

node_listed : (t : NodeKind) (d : SyntaxKind) → slice_index_or kinds (kind_raw (Node t)) d ≡ Node t
unfolding kinds
node_listed node.SOURCE_FILE d = refl
node_listed _ d = refl

listed : (k : SyntaxKind) (d : SyntaxKind) → kind_raw k < 264 → slice_index_or kinds (kind_raw k) d ≡ k
listed (Token t) d h = token_listed t d
listed (Node t) d h = node_listed t d
listed (OTHER n) d h = absurd (omega arith)

listed-injective : (j k : SyntaxKind) → kind_raw j < 264 → kind_raw k < 264 → kind_raw j ≡ kind_raw k → j ≡ k
listed-injective j k p q e = sym (listed j j p) ∙ ap (λ i. slice_index_or kinds i j) e ∙ listed k j q

pub kind_raw-injective : NumbersDiffer
kind_raw-injective (OTHER m) (OTHER n) e = let same : m ≡ n = omega arith in ap OTHER same
kind_raw-injective (OTHER m) (Token t) e = absurd (omega (arith, token_raw_small t))
kind_raw-injective (OTHER m) (Node t) e = absurd (omega (arith, node_raw_small t))
kind_raw-injective (Token t) (OTHER m) e = absurd (omega (arith, token_raw_small t))
kind_raw-injective (Node t) (OTHER m) e = absurd (omega (arith, node_raw_small t))
kind_raw-injective (Token t) (Token u) e = listed-injective (Token t) (Token u) (token_raw_small t) (token_raw_small u) e
kind_raw-injective (Token t) (Node u) e = listed-injective (Token t) (Node u) (token_raw_small t) (node_raw_small u) e
kind_raw-injective (Node t) (Token u) e = listed-injective (Node t) (Token u) (node_raw_small t) (token_raw_small u) e
kind_raw-injective (Node t) (Node u) e = listed-injective (Node t) (Node u) (node_raw_small t) (node_raw_small u) e

-- the test of `is_same_kind` is equality
pub is_same_kind-equal : (j k : SyntaxKind) → IsTrue (is_same_kind j k) ↔ (j ≡ k)
is_same_kind-equal j k = (
  λ same. kind_raw-injective j k (eqb-true (kind_raw j) (kind_raw k) same),
  λ e. eq-eqb (kind_raw j) (kind_raw k) (ap kind_raw e),
)
