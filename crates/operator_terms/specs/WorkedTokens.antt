-- Worked tokens: what the tokens of a term are, each written as its kind and its text. Each
-- operator comes once as itself, each literal kind once, and each form of a term.
use Rattle.std.specs.Prelude.{◌≡◌, ℕ, List, [], ◌∷◌, ◌++◌, codes, true, false}
use Rattle.syntax_kind.specs.Kinds.{kind_name}
use Rattle.operator_terms.specs.Token.{Token}
use Rattle.operator_terms.specs.Operators.{Int, Float, Char, Byte, Str, ByteStr, CStr, True, False, Or, And, Equal, NotEqual, Less, LessOrEqual, Greater, GreaterOrEqual, Compare, Add, Subtract, Multiply, Divide, Remainder, ShiftLeft, ShiftRight, BitXor, BitOr, BitAnd, Compute, Assign, AssignBy, Dereference, Not, Negate}
use Rattle.operator_terms.specs.Term.{Term, Literal, Paren, Field, Await, Try, Cast, Method, Call, Index, Prefix, Borrow, Binary, RangeFull, RangeFrom, RangeTo, Range, NoTerms, Last, More, tokens}
use Rattle.operator_terms.specs.Notation.{a, b, c, f}

-- the tokens, each as its kind and its text, with a blank after each
abbrev pub described : List Token → List ℕ
described [] = []
described (t ∷ ts) = kind_name t.kind ++ (32 ∷ (t.text ++ (32 ∷ described ts)))

-- a term, and its tokens so written
pub record TokensRow : Type 0 where
  pub term : Term
  pub text : List ℕ

abbrev pub HasTokens : TokensRow → Type 0
HasTokens r = described (tokens r.term) ≡ r.text

abbrev pub row : Term → List ℕ → TokensRow
row t s = record { term = t; text = s }

-- the binary operators
abbrev pub binary_tokens : List TokensRow
binary_tokens =
    row (Binary Or a b) (codes "IDENT a PIPE2 || IDENT b ")
    ∷ row (Binary And a b) (codes "IDENT a AMP2 && IDENT b ")
    ∷ row (Binary (Compare Equal) a b) (codes "IDENT a EQ2 == IDENT b ")
    ∷ row (Binary (Compare NotEqual) a b) (codes "IDENT a NEQ != IDENT b ")
    ∷ row (Binary (Compare Less) a b) (codes "IDENT a L_ANGLE < IDENT b ")
    ∷ row (Binary (Compare LessOrEqual) a b) (codes "IDENT a LTEQ <= IDENT b ")
    ∷ row (Binary (Compare Greater) a b) (codes "IDENT a R_ANGLE > IDENT b ")
    ∷ row (Binary (Compare GreaterOrEqual) a b) (codes "IDENT a GTEQ >= IDENT b ")
    ∷ row (Binary (Compute Add) a b) (codes "IDENT a PLUS + IDENT b ")
    ∷ row (Binary (Compute Subtract) a b) (codes "IDENT a MINUS - IDENT b ")
    ∷ row (Binary (Compute Multiply) a b) (codes "IDENT a STAR * IDENT b ")
    ∷ row (Binary (Compute Divide) a b) (codes "IDENT a SLASH / IDENT b ")
    ∷ row (Binary (Compute Remainder) a b) (codes "IDENT a PERCENT % IDENT b ")
    ∷ row (Binary (Compute ShiftLeft) a b) (codes "IDENT a SHL << IDENT b ")
    ∷ row (Binary (Compute ShiftRight) a b) (codes "IDENT a SHR >> IDENT b ")
    ∷ row (Binary (Compute BitXor) a b) (codes "IDENT a CARET ^ IDENT b ")
    ∷ row (Binary (Compute BitOr) a b) (codes "IDENT a PIPE | IDENT b ")
    ∷ row (Binary (Compute BitAnd) a b) (codes "IDENT a AMP & IDENT b ")
    ∷ row (Binary Assign a b) (codes "IDENT a EQ = IDENT b ")
    ∷ row (Binary (AssignBy Add) a b) (codes "IDENT a PLUSEQ += IDENT b ")
    ∷ row (Binary (AssignBy Subtract) a b) (codes "IDENT a MINUSEQ -= IDENT b ")
    ∷ row (Binary (AssignBy Multiply) a b) (codes "IDENT a STAREQ *= IDENT b ")
    ∷ row (Binary (AssignBy Divide) a b) (codes "IDENT a SLASHEQ /= IDENT b ")
    ∷ row (Binary (AssignBy Remainder) a b) (codes "IDENT a PERCENTEQ %= IDENT b ")
    ∷ row (Binary (AssignBy ShiftLeft) a b) (codes "IDENT a SHLEQ <<= IDENT b ")
    ∷ row (Binary (AssignBy ShiftRight) a b) (codes "IDENT a SHREQ >>= IDENT b ")
    ∷ row (Binary (AssignBy BitXor) a b) (codes "IDENT a CARETEQ ^= IDENT b ")
    ∷ row (Binary (AssignBy BitOr) a b) (codes "IDENT a PIPEEQ |= IDENT b ")
    ∷ row (Binary (AssignBy BitAnd) a b) (codes "IDENT a AMPEQ &= IDENT b ")
    ∷ []

-- literals
abbrev pub literal_tokens : List TokensRow
literal_tokens =
    row (Literal Int (codes "1")) (codes "INT_NUMBER 1 ")
    ∷ row (Literal Float (codes "1.5")) (codes "FLOAT_NUMBER 1.5 ")
    ∷ row (Literal Char (codes "'c'")) (codes "CHAR 'c' ")
    ∷ row (Literal Byte (codes "b'c'")) (codes "BYTE b'c' ")
    ∷ row (Literal Str (codes "\"s\"")) (codes "STRING \"s\" ")
    ∷ row (Literal ByteStr (codes "b\"s\"")) (codes "BYTE_STRING b\"s\" ")
    ∷ row (Literal CStr (codes "c\"s\"")) (codes "C_STRING c\"s\" ")
    ∷ row (Literal True (codes "true")) (codes "TRUE_KW true ")
    ∷ row (Literal False (codes "false")) (codes "FALSE_KW false ")
    ∷ []

-- prefixes, borrows, ranges, postfixes, calls and pairs
abbrev pub other_tokens : List TokensRow
other_tokens =
    row (Prefix Dereference a) (codes "STAR * IDENT a ")
    ∷ row (Prefix Not a) (codes "BANG ! IDENT a ")
    ∷ row (Prefix Negate a) (codes "MINUS - IDENT a ")
    ∷ row (Borrow false a) (codes "AMP & IDENT a ")
    ∷ row (Borrow true a) (codes "AMP & MUT_KW mut IDENT a ")
    ∷ row RangeFull (codes "DOT2 .. ")
    ∷ row (RangeFrom a) (codes "IDENT a DOT2 .. ")
    ∷ row (RangeTo false a) (codes "DOT2 .. IDENT a ")
    ∷ row (RangeTo true a) (codes "DOT2EQ ..= IDENT a ")
    ∷ row (Range false a b) (codes "IDENT a DOT2 .. IDENT b ")
    ∷ row (Range true a b) (codes "IDENT a DOT2EQ ..= IDENT b ")
    ∷ row (Paren a) (codes "L_PAREN ( IDENT a R_PAREN ) ")
    ∷ row (Field a (codes "g")) (codes "IDENT a DOT . IDENT g ")
    ∷ row (Await a) (codes "IDENT a DOT . AWAIT_KW await ")
    ∷ row (Try a) (codes "IDENT a QUESTION ? ")
    ∷ row (Cast a (codes "T")) (codes "IDENT a AS_KW as IDENT T ")
    ∷ row (Index a b) (codes "IDENT a L_BRACK [ IDENT b R_BRACK ] ")
    ∷ row (Call f NoTerms) (codes "IDENT f L_PAREN ( R_PAREN ) ")
    ∷ row (Call f (More a NoTerms)) (codes "IDENT f L_PAREN ( IDENT a COMMA , R_PAREN ) ")
    ∷ row (Method a (codes "g") (More b (Last c))) (codes "IDENT a DOT . IDENT g L_PAREN ( IDENT b COMMA , IDENT c R_PAREN ) ")
    ∷ []
