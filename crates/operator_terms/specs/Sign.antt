-- The signs of tokens. A sign is what the grammar of operator expressions uses of a token, except
-- for the text of fixed kinds, which `CarriesFixedText` states: so code that reads trees or tokens
-- distinguishes a few cases and not all kinds.
use Rattle.std.specs.Prelude.{◌≡◌, ℕ, List, [], ◌∷◌, Bool, true, false, Option, Some, None}
use Rattle.syntax_kind.specs.declared.syntax_kind.SyntaxKind.{SyntaxKind}
use Rattle.syntax_kind.specs.declared.syntax_kind.SyntaxKind.TheVariants.{Token as OfToken}
use Rattle.syntax_kind.specs.declared.syntax_kind.token_kind.TokenKind.TheVariants as token
use Rattle.operator_terms.specs.Token.{Token, fixed_text, fixed}
use Rattle.operator_terms.specs.Term.{literal, name}
use Rattle.operator_terms.specs.Operators.{LiteralKind, Int, Float, Char, Byte, Str, ByteStr, CStr, True, False, Add, Subtract, Multiply, Divide, Remainder, ShiftLeft, ShiftRight, BitXor, BitOr, BitAnd, Equal, NotEqual, Less, LessOrEqual, Greater, GreaterOrEqual, Operator, Or, And, Compare, Compute, Assign, AssignBy, operator_kind, range_kind}

-- A literal or a word with its text, a delimiter, a keyword, `..` or `..=`, an operator; `Strange`
-- is any other token. `-`, `*` and `&` are operators here, even as prefixes: the position
-- distinguishes the two.
pub data Sign : Type 0 where
  Lit : LiteralKind → (text : List ℕ) → Sign
  Word : (text : List ℕ) → Sign
  Opens Closes OpensIndex ClosesIndex Comma Dot Question AwaitWord MutWord Bang As Strange : Sign
  To : (inclusive : Bool) → Sign
  Op : Operator → Sign

-- the sign of a kind and a text
abbrev pub sign_of : SyntaxKind → List ℕ → Sign
sign_of (OfToken token.IDENT) x = Word x
sign_of (OfToken token.INT_NUMBER) x = Lit Int x
sign_of (OfToken token.FLOAT_NUMBER) x = Lit Float x
sign_of (OfToken token.CHAR) x = Lit Char x
sign_of (OfToken token.BYTE) x = Lit Byte x
sign_of (OfToken token.STRING) x = Lit Str x
sign_of (OfToken token.BYTE_STRING) x = Lit ByteStr x
sign_of (OfToken token.C_STRING) x = Lit CStr x
sign_of (OfToken token.TRUE_KW) x = Lit True x
sign_of (OfToken token.FALSE_KW) x = Lit False x
sign_of (OfToken token.L_PAREN) x = Opens
sign_of (OfToken token.R_PAREN) x = Closes
sign_of (OfToken token.L_BRACK) x = OpensIndex
sign_of (OfToken token.R_BRACK) x = ClosesIndex
sign_of (OfToken token.COMMA) x = Comma
sign_of (OfToken token.DOT) x = Dot
sign_of (OfToken token.QUESTION) x = Question
sign_of (OfToken token.AWAIT_KW) x = AwaitWord
sign_of (OfToken token.MUT_KW) x = MutWord
sign_of (OfToken token.BANG) x = Bang
sign_of (OfToken token.AS_KW) x = As
sign_of (OfToken token.PIPE2) x = Op Or
sign_of (OfToken token.AMP2) x = Op And
sign_of (OfToken token.EQ2) x = Op (Compare Equal)
sign_of (OfToken token.NEQ) x = Op (Compare NotEqual)
sign_of (OfToken token.L_ANGLE) x = Op (Compare Less)
sign_of (OfToken token.LTEQ) x = Op (Compare LessOrEqual)
sign_of (OfToken token.R_ANGLE) x = Op (Compare Greater)
sign_of (OfToken token.GTEQ) x = Op (Compare GreaterOrEqual)
sign_of (OfToken token.PLUS) x = Op (Compute Add)
sign_of (OfToken token.MINUS) x = Op (Compute Subtract)
sign_of (OfToken token.STAR) x = Op (Compute Multiply)
sign_of (OfToken token.SLASH) x = Op (Compute Divide)
sign_of (OfToken token.PERCENT) x = Op (Compute Remainder)
sign_of (OfToken token.SHL) x = Op (Compute ShiftLeft)
sign_of (OfToken token.SHR) x = Op (Compute ShiftRight)
sign_of (OfToken token.CARET) x = Op (Compute BitXor)
sign_of (OfToken token.PIPE) x = Op (Compute BitOr)
sign_of (OfToken token.AMP) x = Op (Compute BitAnd)
sign_of (OfToken token.EQ) x = Op Assign
sign_of (OfToken token.PLUSEQ) x = Op (AssignBy Add)
sign_of (OfToken token.MINUSEQ) x = Op (AssignBy Subtract)
sign_of (OfToken token.STAREQ) x = Op (AssignBy Multiply)
sign_of (OfToken token.SLASHEQ) x = Op (AssignBy Divide)
sign_of (OfToken token.PERCENTEQ) x = Op (AssignBy Remainder)
sign_of (OfToken token.SHLEQ) x = Op (AssignBy ShiftLeft)
sign_of (OfToken token.SHREQ) x = Op (AssignBy ShiftRight)
sign_of (OfToken token.CARETEQ) x = Op (AssignBy BitXor)
sign_of (OfToken token.PIPEEQ) x = Op (AssignBy BitOr)
sign_of (OfToken token.AMPEQ) x = Op (AssignBy BitAnd)
sign_of (OfToken token.DOT2) x = To false
sign_of (OfToken token.DOT2EQ) x = To true
sign_of _ x = Strange

-- the token of a sign
abbrev pub token_of : Sign → Option Token
token_of (Lit kind text) = Some (literal kind text)
token_of (Word text) = Some (name text)
token_of Opens = Some (fixed token.L_PAREN)
token_of Closes = Some (fixed token.R_PAREN)
token_of OpensIndex = Some (fixed token.L_BRACK)
token_of ClosesIndex = Some (fixed token.R_BRACK)
token_of Comma = Some (fixed token.COMMA)
token_of Dot = Some (fixed token.DOT)
token_of Question = Some (fixed token.QUESTION)
token_of AwaitWord = Some (fixed token.AWAIT_KW)
token_of MutWord = Some (fixed token.MUT_KW)
token_of Bang = Some (fixed token.BANG)
token_of As = Some (fixed token.AS_KW)
token_of (To inclusive) = Some (fixed (range_kind inclusive))
token_of (Op op) = Some (fixed (operator_kind op))
token_of Strange = None

abbrev pub is_empty : List ℕ → Bool
is_empty [] = true
is_empty (c ∷ cs) = false

-- where a kind has a fixed text, this is the text
abbrev pub CarriesFixedText : SyntaxKind → List ℕ → Type 0
CarriesFixedText (OfToken k) text = is_empty (fixed_text k) ≡ false → text ≡ fixed_text k
CarriesFixedText _ text = Unit {0}
