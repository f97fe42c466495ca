-- The text of a pattern: words between the signs `>` and `//`.
use Rattle.std.specs.Prelude.{◌≡◌, ℕ, ◌==◌, ◌+◌, ◌-◌, ◌≤◌, ◌<◌, Bool, false, ◌&&◌, if◌then◌else◌, List, [], ◌∷◌, ◌++◌, length, take, drop, slice_index, codes, string_bytes, Option, Some, None, ⊤}
use Rattle.std.specs.Str.{trim}
use Rattle.syntax_kind.specs.declared.syntax_kind.SyntaxKind.{SyntaxKind}
use Rattle.syntax_kind.specs.Kinds.{IsKind}
use Rattle.rust_kinds.specs.Names.{IsNamed}
use Rattle.rust_report.specs.declared.pattern.Step.{Step}
use Rattle.rust_report.specs.declared.pattern.Link.{Link}
use Rattle.rust_report.specs.declared.pattern.Link.TheVariants.{Child, Within}
use Rattle.rust_report.specs.declared.words.PatternError.{PatternError}
use Rattle.rust_report.specs.declared.words.PatternError.TheVariants.{NoKind, UnknownKind, Memory}

-- a text begins with `/`
abbrev pub is_slash : List ℕ → Bool
is_slash [] = false
is_slash (b ∷ bs) = b == 47

-- the sign that a byte begins, with those after it
abbrev pub sign_at : ℕ → List ℕ → Option Link
sign_at a bs = if a == 62 then Some Child else (if (a == 47) && is_slash bs then Some Within else None)

-- a byte before the first of some words
abbrev pub begin_with : ℕ → List (Link × List ℕ) → List (Link × List ℕ)
begin_with b [] = []
begin_with b (w ∷ ws) = (w.0, b ∷ w.1) ∷ ws

-- the words of a text, each with its link to the word before it, which the sign between them says;
-- that of the first is given
abbrev pub words : Link → List ℕ → List (Link × List ℕ)
words link [] = (link, []) ∷ []
words link (b ∷ []) = if b == 62 then (link, []) ∷ (Child, []) ∷ [] else (link, b ∷ []) ∷ []
words link (a ∷ (b ∷ bs)) =
    if a == 62 then (link, []) ∷ words Child (b ∷ bs) else (if (a == 47) && (b == 47) then (link, []) ∷ words Within bs else begin_with a (words link (b ∷ bs)))

-- a word, without white space around it, is `*`, which is any kind, or the name of a kind
abbrev pub Means : List ℕ → Option SyntaxKind → Type 0
Means word None = trim word ≡ codes "*"
Means word (Some k) = (trim word ≡ codes "*" → ⊥) × IsKind k × IsNamed k (trim word)

-- a word is empty, or something else that means no kind
abbrev pub Fails : List ℕ → PatternError → Type 0
Fails word NoKind = trim word ≡ []
Fails word (UnknownKind s) =
    (string_bytes s ≡ trim word) × (trim word ≡ [] → ⊥) × (trim word ≡ codes "*" → ⊥) × ((k : SyntaxKind) → IsKind k → IsNamed k (trim word) → ⊥)
Fails word Memory = ⊤

-- the steps that the words mean, in order
abbrev pub AreSteps : List (Link × List ℕ) → List Step → Type 0
AreSteps [] [] = ⊤
AreSteps [] (s ∷ ss) = ⊥
AreSteps (w ∷ ws) [] = ⊥
AreSteps (w ∷ ws) (s ∷ ss) = (s.link ≡ w.0) × Means w.1 s.kind × AreSteps ws ss

-- the first word that means nothing fails so
pub record IsRefused (ws : List (Link × List ℕ)) (e : PatternError) : Type 0 where
  pub front : List (Link × List ℕ)
  pub word : Link × List ℕ
  pub behind : List (Link × List ℕ)
  pub steps : List Step
  pub are : ws ≡ front ++ word ∷ behind
  pub before : AreSteps front steps
  pub fails : Fails word.1 e

-- ---- where a text is cut

-- how many bytes a sign has
abbrev pub width : Link → ℕ
width Child = 1
width Within = 2

-- the text is one word; or its first word ends at this offset, before this sign
abbrev pub IsFirstSign : List ℕ → Option (ℕ × Link) → Type 0
IsFirstSign s None = (link : Link) → words link s ≡ (link, s) ∷ []
IsFirstSign s (Some cut) =
    (cut.0 + width cut.1 ≤ length s) × (slice_index s cut.0 < 128) × (slice_index s (cut.0 + width cut.1 - 1) < 128)
    × ((link : Link) → words link s ≡ (link, take cut.0 s) ∷ words cut.1 (drop (cut.0 + width cut.1) s))

-- what an error says
abbrev pub error_text : PatternError → List ℕ
error_text NoKind = codes "a kind is missing"
error_text (UnknownKind s) = codes "no kind is named `" ++ (string_bytes s ++ codes "`")
error_text Memory = codes "out of memory"
