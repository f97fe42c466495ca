-- Tokens by themselves: the texts of signs and keywords, and what is made.
use Rattle.std.specs.Prelude.{◌≡◌, ◌⊎◌, ◌≤◌, ◌^◌, ◌==◌, ℕ, Bool, true, false, ◌&&◌, List, [], ◌∷◌, length, Option, Some, None, ⊤, codes}
use Rattle.std.specs.List.{find}
use Rattle.std.specs.Cmp.Lexicographic.{pointwise}
use Rattle.syntax_kind.specs.declared.syntax_kind.SyntaxKind.{SyntaxKind}
use Rattle.syntax_kind.specs.declared.syntax_kind.SyntaxKind.TheVariants.{Token, Node, OTHER}
use Rattle.syntax_kind.specs.declared.syntax_kind.token_kind.TokenKind.{TokenKind}
use Rattle.syntax_kind.specs.declared.syntax_kind.token_kind.TokenKind.TheVariants as token
use Rattle.syntax_kind.specs.declared.syntax_kind.TheConstants.SyntaxKind.{WHITESPACE, SOURCE_FILE}
use Rattle.tree_model.specs.Tree.{Tree, Forest, node, nil, cons, text}
use Rattle.tree_model.specs.Tree.{token as token_of}
use Rattle.tree_model.specs.Cursor.{Cursor, focus, descendants_of, at_token}
use Rattle.tree_model.specs.Edit.{root_of}
use Rattle.ras_node.specs.Nodes.{kind_at, is_of_kind}
use Rattle.ras_front_end.specs.declared.edition.Edition.{Edition}
use Rattle.ras_front_end.specs.Front.{Front}
use Rattle.ras_front_end.specs.Parsed.{Parsed}
use Rattle.syntax_make.specs.declared.error.MakeError.{MakeError}
use Rattle.syntax_make.specs.declared.error.MakeError.TheVariants.{Syntax, NotOne, NoPlace, TooLong, Memory}
use Rattle.syntax_make.specs.Made.{IsFileOf}

-- the text of all tokens of a kind; empty if they differ
abbrev pub token_text : TokenKind → List ℕ
token_text token.WHITESPACE = []
token_text token.COMMENT = []
token_text token.INNER_DOC_COMMENT = []
token_text token.OUTER_DOC_COMMENT = []
token_text token.ERROR = []
token_text token.IDENT = []
token_text token.LIFETIME_IDENT = []
token_text token.INT_NUMBER = []
token_text token.FLOAT_NUMBER = []
token_text token.CHAR = []
token_text token.BYTE = []
token_text token.STRING = []
token_text token.BYTE_STRING = []
token_text token.C_STRING = []
token_text token.SEMICOLON = codes ";"
token_text token.COMMA = codes ","
token_text token.L_PAREN = codes "("
token_text token.R_PAREN = codes ")"
token_text token.L_CURLY = codes "{"
token_text token.R_CURLY = codes "}"
token_text token.L_BRACK = codes "["
token_text token.R_BRACK = codes "]"
token_text token.L_ANGLE = codes "<"
token_text token.R_ANGLE = codes ">"
token_text token.AT = codes "@"
token_text token.POUND = codes "#"
token_text token.DOLLAR = codes "$"
token_text token.TILDE = codes "~"
token_text token.QUESTION = codes "?"
token_text token.AMP = codes "&"
token_text token.PIPE = codes "|"
token_text token.PLUS = codes "+"
token_text token.STAR = codes "*"
token_text token.SLASH = codes "/"
token_text token.CARET = codes "^"
token_text token.PERCENT = codes "%"
token_text token.UNDERSCORE = codes "_"
token_text token.DOT = codes "."
token_text token.DOT2 = codes ".."
token_text token.DOT3 = codes "..."
token_text token.DOT2EQ = codes "..="
token_text token.COLON = codes ":"
token_text token.COLON2 = codes "::"
token_text token.EQ = codes "="
token_text token.EQ2 = codes "=="
token_text token.FAT_ARROW = codes "=>"
token_text token.BANG = codes "!"
token_text token.NEQ = codes "!="
token_text token.MINUS = codes "-"
token_text token.THIN_ARROW = codes "->"
token_text token.LTEQ = codes "<="
token_text token.GTEQ = codes ">="
token_text token.PLUSEQ = codes "+="
token_text token.MINUSEQ = codes "-="
token_text token.PIPEEQ = codes "|="
token_text token.AMPEQ = codes "&="
token_text token.CARETEQ = codes "^="
token_text token.SLASHEQ = codes "/="
token_text token.STAREQ = codes "*="
token_text token.PERCENTEQ = codes "%="
token_text token.AMP2 = codes "&&"
token_text token.PIPE2 = codes "||"
token_text token.SHL = codes "<<"
token_text token.SHR = codes ">>"
token_text token.SHLEQ = codes "<<="
token_text token.SHREQ = codes ">>="
token_text token.AS_KW = codes "as"
token_text token.ASYNC_KW = codes "async"
token_text token.AUTO_KW = codes "auto"
token_text token.AWAIT_KW = codes "await"
token_text token.BECOME_KW = codes "become"
token_text token.BIKESHED_KW = codes "bikeshed"
token_text token.BREAK_KW = codes "break"
token_text token.BUILTIN_KW = codes "builtin"
token_text token.CONST_KW = codes "const"
token_text token.CONTINUE_KW = codes "continue"
token_text token.CRATE_KW = codes "crate"
token_text token.DEFAULT_KW = codes "default"
token_text token.DO_KW = codes "do"
token_text token.DYN_KW = codes "dyn"
token_text token.ELSE_KW = codes "else"
token_text token.ENUM_KW = codes "enum"
token_text token.EXTERN_KW = codes "extern"
token_text token.FALSE_KW = codes "false"
token_text token.FN_KW = codes "fn"
token_text token.FOR_KW = codes "for"
token_text token.GEN_KW = codes "gen"
token_text token.IF_KW = codes "if"
token_text token.IMPL_KW = codes "impl"
token_text token.IN_KW = codes "in"
token_text token.LET_KW = codes "let"
token_text token.LOOP_KW = codes "loop"
token_text token.MACRO_KW = codes "macro"
token_text token.MACRO_RULES_KW = codes "macro_rules"
token_text token.MATCH_KW = codes "match"
token_text token.MOD_KW = codes "mod"
token_text token.MOVE_KW = codes "move"
token_text token.MUT_KW = codes "mut"
token_text token.PUB_KW = codes "pub"
token_text token.REF_KW = codes "ref"
token_text token.RETURN_KW = codes "return"
token_text token.SELF_KW = codes "self"
token_text token.SELF_TYPE_KW = codes "Self"
token_text token.STATIC_KW = codes "static"
token_text token.STRUCT_KW = codes "struct"
token_text token.SUPER_KW = codes "super"
token_text token.TRAIT_KW = codes "trait"
token_text token.TRUE_KW = codes "true"
token_text token.TRY_KW = codes "try"
token_text token.TYPE_KW = codes "type"
token_text token.UNION_KW = codes "union"
token_text token.UNSAFE_KW = codes "unsafe"
token_text token.USE_KW = codes "use"
token_text token.WHERE_KW = codes "where"
token_text token.WHILE_KW = codes "while"
token_text token.YEET_KW = codes "yeet"
token_text token.YIELD_KW = codes "yield"

abbrev pub fixed_text : SyntaxKind → List ℕ
fixed_text (Token k) = token_text k
fixed_text (Node k) = []
fixed_text (OTHER n) = []

-- a file of one token
abbrev pub lone_root : SyntaxKind → List ℕ → Cursor
lone_root kind s = root_of (node SOURCE_FILE (cons (token_of kind s) nil))

-- a token of this kind with this text
pub record IsTokenOf (kind : SyntaxKind) (s : List ℕ) (made : Cursor) : Type 0 where
  pub kind_is : kind_at made ≡ kind
  pub text_is : text (focus made) ≡ s

-- the token of a kind that has one text
pub record IsFixed (kind : SyntaxKind) (made : Cursor) : Type 0 where
  pub is : IsTokenOf kind (fixed_text kind) made
  pub has_text : (length (fixed_text kind) == 0) ≡ false

-- why there is none: the kind has no one text; or memory ran out
abbrev pub IsNotFixed : SyntaxKind → MakeError → Type 0
IsNotFixed kind (Syntax fault) = ⊥
IsNotFixed kind NotOne = ⊥
IsNotFixed kind NoPlace = fixed_text kind ≡ []
IsNotFixed kind TooLong = ⊥
IsNotFixed kind Memory = ⊤

-- the token is white space with this text
abbrev pub is_space : List ℕ → Option Cursor → Bool
is_space s None = false
is_space s (Some t) = is_of_kind WHITESPACE t && pointwise ◌==◌ (text (focus t)) s

-- the first token of a file with this text is such white space, or is not
pub record IsSpaceOrNot (front : Front) (edition : Edition) (s : List ℕ) (space : Bool) : Type 0 where
  pub file : Parsed
  pub parsed : IsFileOf front edition s file
  pub first : is_space s (find at_token (descendants_of (root_of file.tree))) ≡ space

-- a token of the text, which is one token of white space
pub record IsSpaceOf (front : Front) (edition : Edition) (s : List ℕ) (made : Cursor) : Type 0 where
  pub is : IsTokenOf WHITESPACE s made
  pub read : IsSpaceOrNot front edition s true

-- why there is none
abbrev pub IsNoSpace : Front → Edition → List ℕ → MakeError → Type 0
IsNoSpace front edition s (Syntax fault) = ⊥
IsNoSpace front edition s NotOne = IsSpaceOrNot front edition s false
IsNoSpace front edition s NoPlace = ⊥
IsNoSpace front edition s TooLong = 2 ^ 32 ≤ length s
IsNoSpace front edition s Memory = ⊤
