-- A line of an ignore file. (gitignore(5), "PATTERN FORMAT".) 13 is a carriage return, 32 a blank,
-- 33 `!`, 35 `#`, 47 `/`, 92 a backslash.
use Rattle.std.specs.Prelude.{◌≡◌, ℕ, ◌==◌, ◌+◌, ◌-◌, Bool, true, false, not, ◌&&◌, if◌then◌else◌, List, [], ◌∷◌, length, take, drop, slice_index, Option, Some, None, option_map, position, ◌++◌}
use Rattle.std.specs.List.{list_any}
use Rattle.gitignore.specs.declared.piece.Piece.{Piece}
use Rattle.gitignore.specs.declared.line.Rule.{Rule}
use Rattle.gitignore.specs.Pieces.{IsGlobOf}

abbrev pub first_is : ℕ → List ℕ → Bool
first_is b [] = false
first_is b (c ∷ cs) = c == b

abbrev pub last_is : ℕ → List ℕ → Bool
last_is b cs = not (length cs == 0) && (slice_index cs (length cs - 1) == b)

-- a text without its first byte, or its last, if that is this one
abbrev pub behind_first : ℕ → List ℕ → List ℕ
behind_first b [] = []
behind_first b (c ∷ cs) = if c == b then cs else c ∷ cs

abbrev pub before_last : ℕ → List ℕ → List ℕ
before_last b cs = if last_is b cs then take (length cs - 1) cs else cs

-- how many bytes are kept: up to the last that is no blank, or is behind a backslash. k are kept of
-- the n bytes before these
abbrev pub kept : ℕ → ℕ → List ℕ → ℕ
kept k n [] = k
kept k n (b ∷ []) = if b == 32 then k else n + 1
kept k n (b ∷ (c ∷ cs)) = if b == 32 then kept k (n + 1) (c ∷ cs) else (if b == 92 then kept (n + 2) (n + 2) cs else kept (n + 1) (n + 1) (c ∷ cs))

abbrev pub without_blanks : List ℕ → List ℕ
without_blanks line = take (kept 0 0 line) line

-- the glob of a rule, as pieces
abbrev pub glob_of : Rule → Option (List Piece)
glob_of r = option_map (λ v. v.items) r.glob

-- what a pattern says
pub record IsRuleBy (pattern : List ℕ) (r : Rule) : Type 0 where
  pub negated : r.is_negated ≡ first_is 33 pattern
  pub folders : r.is_for_folders ≡ last_is 47 (behind_first 33 pattern)
  pub names : r.is_for_names ≡ not (list_any (λ b. b == 47) (before_last 47 (behind_first 33 pattern)))
  pub glob : IsGlobOf (behind_first 47 (before_last 47 (behind_first 33 pattern))) (glob_of r)

-- what a line says: a comment names nothing
pub record IsRuleOf (line : List ℕ) (r : Rule) : Type 0 where
  pub comment : first_is 35 line ≡ true → glob_of r ≡ None
  pub pattern : first_is 35 line ≡ false → IsRuleBy (without_blanks (before_last 13 line)) r

abbrev pub is_feed : ℕ → Bool
is_feed b = b == 10

-- these rules are those of the first lines of a text, each up to its line feed; then this rest is
-- left
abbrev pub LinesAt : List ℕ → List Rule → List ℕ → Type 0
LinesAt text [] rest = text ≡ rest
LinesAt text (r ∷ rs) rest = (n : ℕ) × (position is_feed text ≡ Some n) × IsRuleOf (take n text) r × LinesAt (drop (n + 1) text) rs rest

-- the rules of a text: one for each line, and one for what follows the last line feed
pub record AreRulesOf (text : List ℕ) (rules : List Rule) : Type 0 where
  pub front : List Rule
  pub last : Rule
  pub rest : List ℕ
  pub are : rules ≡ front ++ last ∷ []
  pub before : LinesAt text front rest
  pub end : position is_feed rest ≡ None
  pub behind : IsRuleOf rest last
