-- The lines of an event text, and the events that they stand for.
use Rattle.std.specs.Prelude.{◌≡◌, ◌≢◌, ℕ, ◌<◌, ◌⊎◌, List, [], ◌∷◌, ◌++◌, length, Some, Result, Ok, Err, codes, ⊤, ◌==◌, if◌then◌else◌}
use Rattle.syntax_kind.specs.Kinds.{kind_name, IsKind}
use Rattle.tree_model.specs.Events.{Event, enter, leaf, exit}
use Rattle.ras_parsing.specs.Draft.{Draft}
use Rattle.syntax_tool.specs.declared.refusal.Refusal.{Refusal}
use Rattle.syntax_tool.specs.declared.refusal.Refusal.TheVariants.{BadLine, BadKind, Memory}
use Rattle.syntax_tool.specs.Escapes.{unescaped}

-- the byte b and then the first line
abbrev pub onto_first : ℕ → List (List ℕ) → List (List ℕ)
onto_first b [] = (b ∷ []) ∷ []
onto_first b (l ∷ ls) = (b ∷ l) ∷ ls

-- the lines of a text: what is between its newlines, and after the last one
abbrev pub lines_of : List ℕ → List (List ℕ)
lines_of [] = [] ∷ []
lines_of (b ∷ bs) = if b == 10 then [] ∷ lines_of bs else onto_first b (lines_of bs)

-- what a line says, before its kind is looked up
pub data Form : Type 0 where
  enters : List ℕ → Form
  has_token : List ℕ → List ℕ → Form
  exits : Form

-- the byte c is not among these
abbrev pub HasNo : ℕ → List ℕ → Type 0
HasNo c [] = ⊤
HasNo c (b ∷ bs) = (b ≢ c) × HasNo c bs

-- the text, cut at the first c: the text before it and after it; if there is none, the whole text
-- and an empty one
abbrev pub IsCut : ℕ → List ℕ → List ℕ → List ℕ → Type 0
IsCut c text before after = HasNo c before × ((text ≡ before ++ c ∷ after) ⊎ ((text ≡ before) × (after ≡ [])))

-- the first line of a text, which ends in a newline, and what follows it
abbrev pub IsLine : List ℕ → List ℕ → List ℕ → Type 0
IsLine text line behind = HasNo 10 line × (text ≡ line ++ 10 ∷ behind)

-- one or more bytes without a space
pub record IsWord (bytes : List ℕ) : Type 0 where
  pub some : 0 < length bytes
  pub no_space : HasNo 32 bytes

-- `token KIND`, with or without one space after it, stands for the empty text; `token KIND TEXT`
-- for that text, in which a backslash begins an escape
abbrev pub IsTokenLine : List ℕ → List ℕ → List ℕ → Type 0
IsTokenLine line kind t =
    ((line ≡ codes "token " ++ kind) × (t ≡ []))
    ⊎ ((raw : List ℕ) × (line ≡ codes "token " ++ (kind ++ (codes " " ++ raw))) × (unescaped raw ≡ Some t))

-- the line has exactly this form
abbrev pub IsForm : List ℕ → Form → Type 0
IsForm line (enters kind) = (line ≡ codes "enter " ++ kind) × IsWord kind
IsForm line (has_token kind t) = IsTokenLine line kind t × IsWord kind
IsForm line exits = line ≡ codes "exit"

-- the form stands for the event, where its kind is one that prints so
abbrev pub StandsFor : Form → Event → Type 0
StandsFor (enters kind) (enter k) = IsKind k × (kind_name k ≡ kind)
StandsFor (enters kind) (leaf k t) = ⊥
StandsFor (enters kind) exit = ⊥
StandsFor (has_token kind t) (enter k) = ⊥
StandsFor (has_token kind t) (leaf k u) = IsKind k × (kind_name k ≡ kind) × (u ≡ t)
StandsFor (has_token kind t) exit = ⊥
StandsFor exits (enter k) = ⊥
StandsFor exits (leaf k t) = ⊥
StandsFor exits exit = ⊤

-- a line that is not empty reads as an event; or it has none of the forms; or it names no kind
abbrev pub ReadsLine : List ℕ → Result Event Refusal → Type 0
ReadsLine line (Ok e) = (f : Form) × IsForm line f × StandsFor f e
ReadsLine line (Err r) =
    ((r ≡ BadLine) × ((f : Form) → IsForm line f → ⊥))
    ⊎ ((r ≡ BadKind) × ((f : Form) × IsForm line f × ((e : Event) → StandsFor f e → ⊥)))

-- events and those that follow them, up to the first refusal
abbrev pub behind : List Event → Result (List Event) Refusal → Result (List Event) Refusal
behind es (Ok later) = Ok (es ++ later)
behind es (Err r) = Err r

-- the lines read as events, empty ones aside; the first line that does not read refuses
abbrev pub ReadsLines : List (List ℕ) → Result (List Event) Refusal → Type 0
ReadsLines [] r = r ≡ Ok []
ReadsLines ([] ∷ lines) r = ReadsLines lines r
ReadsLines ((b ∷ line) ∷ lines) r =
    ((e : Event) × (later : Result (List Event) Refusal) × ReadsLine (b ∷ line) (Ok e) × ReadsLines lines later × (r ≡ behind (e ∷ []) later))
    ⊎ ((x : Refusal) × ReadsLine (b ∷ line) (Err x) × (r ≡ Err x))

-- the event of a line is appended, and no error
abbrev pub AppendsEvent : List ℕ → Draft → Draft → Type 0
AppendsEvent line before after = (e : Event) × ReadsLine line (Ok e) × (after ≡ record { events = before.events ++ e ∷ []; faults = before.faults })

-- the line does not read so, or memory was wanted
abbrev pub RefusesLine : List ℕ → Refusal → Type 0
RefusesLine line r = (r ≡ Memory) ⊎ ReadsLine line (Err r)
