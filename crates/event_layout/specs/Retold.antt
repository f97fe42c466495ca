-- A text in which one token is given another text, and what is laid of it: laws of the definitions.
use Rattle.std.specs.Prelude.{◌≡◌, ℕ, suc, ◌+◌, ◌-◌, ◌≤◌, ◌<◌, ◌^◌, nat_le, Bool, true, false, ◌==◌, if◌then◌else◌, Some, List, ◌∷◌, ◌++◌, map, length, slice_get, All}
use Rattle.std.specs.List.{list_any}
use Rattle.syntax_kind.specs.declared.syntax_kind.SyntaxKind.{SyntaxKind}
use Rattle.syntax_kind.specs.Kinds.{is_trivia}
use Rattle.ras_front_end.specs.Reading.{FrontStep, takes}
use Rattle.token_layout.specs.declared.span.Token.{Token as RawToken}
use Rattle.token_layout.specs.Laid.{IsCut}
use Rattle.grammar_machine.specs.declared.event.Event.{Event}
use Rattle.event_layout.specs.declared.layout.ParserError.{ParserError}
use Rattle.event_layout.specs.Amid.{sum_len}
use Rattle.event_layout.specs.Filled.{bytes_taken}
use Rattle.event_layout.specs.Layout.{Laying, laid_of, is_number}
use Rattle.event_layout.specs.Trivia.{has_blank_line, is_comment}

abbrev pub has_dot : List ℕ → Bool
has_dot s = list_any (λ b. b == 46) s

-- the tokens cut the texts s and z, which differ in the text of one token
pub record IsRetold (s z : List ℕ) (ts us : List RawToken) (x old new y : List ℕ) : Type 0 where
  pub kind : SyntaxKind
  pub front : List RawToken
  pub back : List RawToken
  pub text : s ≡ x ++ (old ++ y)
  pub new_text : z ≡ x ++ (new ++ y)
  pub tokens : ts ≡ front ++ record { kind = kind; len = length old } ∷ back
  pub new_tokens : us ≡ front ++ record { kind = kind; len = length new } ∷ back
  pub cut : IsCut ts s
  pub new_cut : IsCut us z
  pub cut_before : IsCut front x
  pub some : 0 < length old
  pub new_some : 0 < length new
  -- white space says, by its blank lines, which comments go into the next node
  pub lines : is_trivia kind ≡ true → is_comment kind ≡ false
      → has_blank_line old ≡ has_blank_line new
  -- a number may be cut at its dot
  pub no_dots : is_number kind ≡ true → (has_dot old ≡ false) × (has_dot new ≡ false)

-- a fault behind the token moves with the text
abbrev pub fault_retold : ℕ → ℕ → ℕ → ParserError → ParserError
fault_retold at old new f =
    if nat_le f.position at then f else record f { position = (f.position - old) + new }

-- of both texts the same is laid, but for the length of the leaf that has the token in it; no fault
-- is in the token
pub record LaidAlike (laid laid_new : Laying) (x old new : List ℕ) : Type 0 where
  pub before : List FrontStep
  pub behind : List FrontStep
  pub leaf : SyntaxKind
  -- the bytes of the leaf before and behind the token
  pub ahead : ℕ
  pub after : ℕ
  pub steps : laid.steps ≡ before ++ takes leaf (ahead + (length old + after)) ∷ behind
  pub new_steps : laid_new.steps ≡ before ++ takes leaf (ahead + (length new + after)) ∷ behind
  pub starts : bytes_taken before + ahead ≡ length x
  pub new_faults : laid_new.faults
      ≡ map (fault_retold (length x) (length old) (length new)) laid.faults
  -- the faults before the token come first
  pub early : List ParserError
  pub late : List ParserError
  pub faults_are : laid.faults ≡ early ++ late
  pub are_early : All (λ f. f.position ≤ length x) early
  pub are_late : All (λ f. length x + length old ≤ f.position) late

abbrev pub RetoldTokensAreLaid : Type 0
RetoldTokensAreLaid =
    (root : SyntaxKind) (attaching : List SyntaxKind) (es : List Event)
    (s z : List ℕ) (ts us : List RawToken) (x old new y : List ℕ)
    → IsRetold s z ts us x old new y → length s < 2 ^ 32 → length z < 2 ^ 32
    → LaidAlike (laid_of root attaching s ts es) (laid_of root attaching z us es) x old new

-- tokens are cut in two parts
pub record AreCutAt (ts : List RawToken) (at : ℕ) : Type 0 where
  pub front : List RawToken
  pub back : List RawToken
  pub is : ts ≡ front ++ back
  pub bytes : sum_len front ≡ at

-- a leaf begins where one of the lexer's tokens begins, or beside a dot
abbrev pub LeavesBeginInTokens : Type 0
LeavesBeginInTokens =
    (root : SyntaxKind) (attaching : List SyntaxKind) (es : List Event)
    (s : List ℕ) (ts : List RawToken)
    (before behind : List FrontStep)
    → IsCut ts s → length s < 2 ^ 32
    → (laid_of root attaching s ts es).steps ≡ before ++ behind
    → (slice_get s (bytes_taken before) ≡ Some 46 → ⊥)
    → ((n : ℕ) → suc n ≡ bytes_taken before → slice_get s n ≡ Some 46 → ⊥)
    → AreCutAt ts (bytes_taken before)
