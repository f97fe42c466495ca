-- Signs. A term's tokens, taken as signs, are those that `emit` writes for the machine; and a sign
-- and its token determine each other.
use Rattle.std.proofs.Common.{◌≡◌, ℕ, List, [], ◌∷◌, ◌++◌, Bool, true, false, IfSome, IfNone, refl, sym, ap, ap₂, ◌∙◌}
use Rattle.syntax_kind.specs.declared.syntax_kind.token_kind.TokenKind.TheVariants as token
use Rattle.syntax_kind.specs.declared.syntax_kind.SyntaxKind.{SyntaxKind}
use Rattle.syntax_kind.specs.declared.syntax_kind.SyntaxKind.TheVariants.{Token as OfToken}
use Rattle.operator_terms.specs.Token.{Token, fixed_text}
use Rattle.operator_terms.specs.Operators.{Add, And, Assign, AssignBy, BitAnd, BitOr, BitXor, Byte, ByteStr, CStr, Char, Compare, Compute, Dereference, Divide, Equal, False, Float, Greater, GreaterOrEqual, Int, Less, LessOrEqual, LiteralKind, Multiply, Negate, Not, NotEqual, Operator, Or, PrefixOperator, Remainder, ShiftLeft, ShiftRight, Str, Subtract, True, operator_kind, prefix_kind, range_kind}
use Rattle.operator_terms.specs.Term.{Await, Binary, Borrow, Call, Cast, Field, Index, Last, Literal, Method, More, Name, NoTerms, Paren, Prefix, Range, RangeFrom, RangeFull, RangeTo, Term, Terms, Try, argument_tokens, literal, tokens}
use Rattle.operator_terms.specs.Sign.{As, AwaitWord, CarriesFixedText, Closes, ClosesIndex, Comma, Dot, Lit, MutWord, Op, Opens, OpensIndex, Question, Sign, Strange, To, Word, sign_of, token_of}
use Rattle.operator_terms.proofs.Machine.{prefix_sign, emit, emit_all}

-- the signs of tokens, before others
abbrev pub signs : List Token → List Sign → List Sign
signs [] rest = rest
signs (t ∷ ts) rest = sign_of t.kind t.text ∷ signs ts rest

signs-append : (xs ys : List Token) (rest : List Sign) → signs (xs ++ ys) rest ≡ signs xs (signs ys rest)
signs-append [] ys rest = refl
signs-append (t ∷ ts) ys rest = ap (◌∷◌ (sign_of t.kind t.text)) (signs-append ts ys rest)

sign-literal : (kind : LiteralKind) (x : List ℕ) → sign_of (literal kind x).kind x ≡ Lit kind x
sign-literal Int x = refl
sign-literal Float x = refl
sign-literal Char x = refl
sign-literal Byte x = refl
sign-literal Str x = refl
sign-literal ByteStr x = refl
sign-literal CStr x = refl
sign-literal True x = refl
sign-literal False x = refl

sign-operator : (op : Operator) (x : List ℕ) → sign_of (OfToken (operator_kind op)) x ≡ Op op
sign-operator Or x = refl
sign-operator And x = refl
sign-operator (Compare Equal) x = refl
sign-operator (Compare NotEqual) x = refl
sign-operator (Compare Less) x = refl
sign-operator (Compare LessOrEqual) x = refl
sign-operator (Compare Greater) x = refl
sign-operator (Compare GreaterOrEqual) x = refl
sign-operator (Compute Add) x = refl
sign-operator (Compute Subtract) x = refl
sign-operator (Compute Multiply) x = refl
sign-operator (Compute Divide) x = refl
sign-operator (Compute Remainder) x = refl
sign-operator (Compute ShiftLeft) x = refl
sign-operator (Compute ShiftRight) x = refl
sign-operator (Compute BitXor) x = refl
sign-operator (Compute BitOr) x = refl
sign-operator (Compute BitAnd) x = refl
sign-operator Assign x = refl
sign-operator (AssignBy Add) x = refl
sign-operator (AssignBy Subtract) x = refl
sign-operator (AssignBy Multiply) x = refl
sign-operator (AssignBy Divide) x = refl
sign-operator (AssignBy Remainder) x = refl
sign-operator (AssignBy ShiftLeft) x = refl
sign-operator (AssignBy ShiftRight) x = refl
sign-operator (AssignBy BitXor) x = refl
sign-operator (AssignBy BitOr) x = refl
sign-operator (AssignBy BitAnd) x = refl

sign-prefix : (op : PrefixOperator) (x : List ℕ) → sign_of (OfToken (prefix_kind op)) x ≡ prefix_sign op
sign-prefix Dereference x = refl
sign-prefix Not x = refl
sign-prefix Negate x = refl

sign-range : (inclusive : Bool) (x : List ℕ) → sign_of (OfToken (range_kind inclusive)) x ≡ To inclusive
sign-range true x = refl
sign-range false x = refl

mutual
  unfolding tokens

  pub signs-tokens : (t : Term) (rest : List Sign) → signs (tokens t) rest ≡ emit t rest
  signs-tokens (Literal kind text) rest = ap (λ c. c ∷ rest) (sign-literal kind text)
  signs-tokens (Name text) rest = refl
  signs-tokens (Paren e) rest = ap (◌∷◌ Opens) (signs-append (tokens e) _ rest ∙ signs-tokens e (Closes ∷ rest))
  signs-tokens (Field e n) rest = signs-append (tokens e) _ rest ∙ signs-tokens e (Dot ∷ Word n ∷ rest)
  signs-tokens (Await e) rest = signs-append (tokens e) _ rest ∙ signs-tokens e (Dot ∷ AwaitWord ∷ rest)
  signs-tokens (Cast e n) rest = signs-append (tokens e) _ rest ∙ signs-tokens e (As ∷ Word n ∷ rest)
  signs-tokens (Try e) rest = signs-append (tokens e) _ rest ∙ signs-tokens e (Question ∷ rest)
  signs-tokens (Method e n args) rest =
      signs-append (tokens e) _ rest ∙ signs-tokens e _
      ∙ ap (λ cs. emit e (Dot ∷ Word n ∷ Opens ∷ cs)) (signs-append (argument_tokens args) _ rest ∙ signs-arguments args (Closes ∷ rest))
  signs-tokens (Call e args) rest =
      signs-append (tokens e) _ rest ∙ signs-tokens e _
      ∙ ap (λ cs. emit e (Opens ∷ cs)) (signs-append (argument_tokens args) _ rest ∙ signs-arguments args (Closes ∷ rest))
  signs-tokens (Index e i) rest =
      signs-append (tokens e) _ rest ∙ signs-tokens e _
      ∙ ap (λ cs. emit e (OpensIndex ∷ cs)) (signs-append (tokens i) _ rest ∙ signs-tokens i (ClosesIndex ∷ rest))
  signs-tokens (Prefix op e) rest = ap₂ ◌∷◌ (sign-prefix op _) (signs-tokens e rest)
  signs-tokens (Borrow true e) rest = ap (λ cs. Op (Compute BitAnd) ∷ MutWord ∷ cs) (signs-tokens e rest)
  signs-tokens (Borrow false e) rest = ap (λ cs. Op (Compute BitAnd) ∷ cs) (signs-tokens e rest)
  signs-tokens (Binary op l r) rest =
      signs-append (tokens l) _ rest ∙ signs-tokens l _ ∙ ap (emit l) (ap₂ ◌∷◌ (sign-operator op _) (signs-tokens r rest))
  signs-tokens RangeFull rest = refl
  signs-tokens (RangeFrom l) rest = signs-append (tokens l) _ rest ∙ signs-tokens l (To false ∷ rest)
  signs-tokens (RangeTo inclusive r) rest = ap₂ ◌∷◌ (sign-range inclusive _) (signs-tokens r rest)
  signs-tokens (Range inclusive l r) rest =
      signs-append (tokens l) _ rest ∙ signs-tokens l _ ∙ ap (emit l) (ap₂ ◌∷◌ (sign-range inclusive _) (signs-tokens r rest))

  pub signs-arguments : (ts : Terms) (rest : List Sign) → signs (argument_tokens ts) rest ≡ emit_all ts rest
  signs-arguments NoTerms rest = refl
  signs-arguments (Last e) rest = signs-tokens e rest
  signs-arguments (More e es) rest =
      signs-append (tokens e) _ rest ∙ signs-tokens e _ ∙ ap (λ cs. emit e (Comma ∷ cs)) (signs-arguments es rest)

-- ---- a sign and its token

pub sign-token : (s : Sign) → IfSome (token_of s) (λ t. sign_of t.kind t.text ≡ s)
sign-token (Lit kind text) = sign-literal kind text
sign-token (To inclusive) = sign-range inclusive _
sign-token (Op op) = sign-operator op _
sign-token Strange = tt
sign-token _ = refl

pub strange : (s : Sign) → IfNone (token_of s) (s ≡ Strange)
strange Strange = refl
strange _ = tt

pub token-sign : (k : SyntaxKind) (x : List ℕ) → CarriesFixedText k x → IfSome (token_of (sign_of k x)) (λ u. u ≡ record { kind = k; text = x })
unfolding fixed_text
token-sign (OfToken token.L_PAREN) x h = ap (λ y. record { kind = OfToken token.L_PAREN; text = y }) (sym (h refl))
token-sign (OfToken token.R_PAREN) x h = ap (λ y. record { kind = OfToken token.R_PAREN; text = y }) (sym (h refl))
token-sign (OfToken token.L_BRACK) x h = ap (λ y. record { kind = OfToken token.L_BRACK; text = y }) (sym (h refl))
token-sign (OfToken token.R_BRACK) x h = ap (λ y. record { kind = OfToken token.R_BRACK; text = y }) (sym (h refl))
token-sign (OfToken token.COMMA) x h = ap (λ y. record { kind = OfToken token.COMMA; text = y }) (sym (h refl))
token-sign (OfToken token.DOT) x h = ap (λ y. record { kind = OfToken token.DOT; text = y }) (sym (h refl))
token-sign (OfToken token.QUESTION) x h = ap (λ y. record { kind = OfToken token.QUESTION; text = y }) (sym (h refl))
token-sign (OfToken token.AWAIT_KW) x h = ap (λ y. record { kind = OfToken token.AWAIT_KW; text = y }) (sym (h refl))
token-sign (OfToken token.MUT_KW) x h = ap (λ y. record { kind = OfToken token.MUT_KW; text = y }) (sym (h refl))
token-sign (OfToken token.BANG) x h = ap (λ y. record { kind = OfToken token.BANG; text = y }) (sym (h refl))
token-sign (OfToken token.AS_KW) x h = ap (λ y. record { kind = OfToken token.AS_KW; text = y }) (sym (h refl))
token-sign (OfToken token.PIPE2) x h = ap (λ y. record { kind = OfToken token.PIPE2; text = y }) (sym (h refl))
token-sign (OfToken token.AMP2) x h = ap (λ y. record { kind = OfToken token.AMP2; text = y }) (sym (h refl))
token-sign (OfToken token.EQ2) x h = ap (λ y. record { kind = OfToken token.EQ2; text = y }) (sym (h refl))
token-sign (OfToken token.NEQ) x h = ap (λ y. record { kind = OfToken token.NEQ; text = y }) (sym (h refl))
token-sign (OfToken token.L_ANGLE) x h = ap (λ y. record { kind = OfToken token.L_ANGLE; text = y }) (sym (h refl))
token-sign (OfToken token.LTEQ) x h = ap (λ y. record { kind = OfToken token.LTEQ; text = y }) (sym (h refl))
token-sign (OfToken token.R_ANGLE) x h = ap (λ y. record { kind = OfToken token.R_ANGLE; text = y }) (sym (h refl))
token-sign (OfToken token.GTEQ) x h = ap (λ y. record { kind = OfToken token.GTEQ; text = y }) (sym (h refl))
token-sign (OfToken token.PLUS) x h = ap (λ y. record { kind = OfToken token.PLUS; text = y }) (sym (h refl))
token-sign (OfToken token.MINUS) x h = ap (λ y. record { kind = OfToken token.MINUS; text = y }) (sym (h refl))
token-sign (OfToken token.STAR) x h = ap (λ y. record { kind = OfToken token.STAR; text = y }) (sym (h refl))
token-sign (OfToken token.SLASH) x h = ap (λ y. record { kind = OfToken token.SLASH; text = y }) (sym (h refl))
token-sign (OfToken token.PERCENT) x h = ap (λ y. record { kind = OfToken token.PERCENT; text = y }) (sym (h refl))
token-sign (OfToken token.SHL) x h = ap (λ y. record { kind = OfToken token.SHL; text = y }) (sym (h refl))
token-sign (OfToken token.SHR) x h = ap (λ y. record { kind = OfToken token.SHR; text = y }) (sym (h refl))
token-sign (OfToken token.CARET) x h = ap (λ y. record { kind = OfToken token.CARET; text = y }) (sym (h refl))
token-sign (OfToken token.PIPE) x h = ap (λ y. record { kind = OfToken token.PIPE; text = y }) (sym (h refl))
token-sign (OfToken token.AMP) x h = ap (λ y. record { kind = OfToken token.AMP; text = y }) (sym (h refl))
token-sign (OfToken token.EQ) x h = ap (λ y. record { kind = OfToken token.EQ; text = y }) (sym (h refl))
token-sign (OfToken token.PLUSEQ) x h = ap (λ y. record { kind = OfToken token.PLUSEQ; text = y }) (sym (h refl))
token-sign (OfToken token.MINUSEQ) x h = ap (λ y. record { kind = OfToken token.MINUSEQ; text = y }) (sym (h refl))
token-sign (OfToken token.STAREQ) x h = ap (λ y. record { kind = OfToken token.STAREQ; text = y }) (sym (h refl))
token-sign (OfToken token.SLASHEQ) x h = ap (λ y. record { kind = OfToken token.SLASHEQ; text = y }) (sym (h refl))
token-sign (OfToken token.PERCENTEQ) x h = ap (λ y. record { kind = OfToken token.PERCENTEQ; text = y }) (sym (h refl))
token-sign (OfToken token.SHLEQ) x h = ap (λ y. record { kind = OfToken token.SHLEQ; text = y }) (sym (h refl))
token-sign (OfToken token.SHREQ) x h = ap (λ y. record { kind = OfToken token.SHREQ; text = y }) (sym (h refl))
token-sign (OfToken token.CARETEQ) x h = ap (λ y. record { kind = OfToken token.CARETEQ; text = y }) (sym (h refl))
token-sign (OfToken token.PIPEEQ) x h = ap (λ y. record { kind = OfToken token.PIPEEQ; text = y }) (sym (h refl))
token-sign (OfToken token.AMPEQ) x h = ap (λ y. record { kind = OfToken token.AMPEQ; text = y }) (sym (h refl))
token-sign (OfToken token.DOT2) x h = ap (λ y. record { kind = OfToken token.DOT2; text = y }) (sym (h refl))
token-sign (OfToken token.DOT2EQ) x h = ap (λ y. record { kind = OfToken token.DOT2EQ; text = y }) (sym (h refl))
token-sign (OfToken token.IDENT) x h = refl
token-sign (OfToken token.INT_NUMBER) x h = refl
token-sign (OfToken token.FLOAT_NUMBER) x h = refl
token-sign (OfToken token.CHAR) x h = refl
token-sign (OfToken token.BYTE) x h = refl
token-sign (OfToken token.STRING) x h = refl
token-sign (OfToken token.BYTE_STRING) x h = refl
token-sign (OfToken token.C_STRING) x h = refl
token-sign (OfToken token.TRUE_KW) x h = refl
token-sign (OfToken token.FALSE_KW) x h = refl
token-sign _ x h = tt
