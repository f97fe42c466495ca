-- The violations at the nodes of one subtree, in the buffers of the caller, and their numbers.
use Rattle.std.specs.Prelude.{◌≡◌, ℕ, ◌-◌, ◌<◌, ◌≤◌, ◌^◌, nat_lt, if◌then◌else◌, List, length, map, Option, None, IfSome}
use Rattle.tree_model.specs.Tree.{Tree, size}
use Rattle.tree_model.specs.Cursor.{Cursor, cursor_at, cursors_from}
use Rattle.lossless_tree.specs.Element.{element_of, node_part}
use Rattle.ras_front_end.specs.ErrorModel.{ErrorModel}
use Rattle.ras_validation.specs.Violations.{violations_of, violations_among}
use Rattle.ras_parsing.specs.AllErrors.{violation_fault}
use Rattle.ras_c.specs.declared.read.ErrorRow.{ErrorRow}
use Rattle.ras_c.specs.declared.read.Counts.{Counts}
use Rattle.ras_c.specs.Border.{over}
use Rattle.ras_c.specs.Kept.{Kept}
use Rattle.ras_c.specs.Live.{Holds}
use Rattle.ras_c.specs.Read.{error_row, messages_of}

-- the node with a number in preorder, that of its row
abbrev pub node_of_row : Tree → ℕ → Option Cursor
node_of_row t n = if nat_lt n (size t) then node_part (element_of (cursor_at t n)) else None

-- the violations at a node and at the nodes in it, as errors
abbrev pub faults_in : Cursor → List ErrorModel
faults_in c = map violation_fault (violations_of c)

-- the violations at the nodes of some rows
abbrev pub faults_among : Tree → ℕ → ℕ → List ErrorModel
faults_among t from to = map violation_fault (violations_among (cursors_from t from (to - from)))

-- what the caller has room for, without rows
pub record ErrorBuffers : Type 0 where
  pub errors : List ErrorRow
  pub messages : List ℕ
  pub counts : Counts

abbrev pub error_buffers : List ErrorRow → List ℕ → Counts → ErrorBuffers
error_buffers errors messages counts =
    record { errors = errors; messages = messages; counts = counts }

-- how many violations there are, and bytes of their messages
abbrev pub counts_of : List ErrorModel → Counts
counts_of faults = record {
  rows = 0;
  errors = length faults;
  violations = length faults;
  messages = length (messages_of faults);
}

-- numbers of 32 bits count them
pub record AreFew (faults : List ErrorModel) : Type 0 where
  pub errors_fit : length faults < 2 ^ 32
  pub messages_fit : length (messages_of faults) < 2 ^ 32

-- each buffer has room for them
pub record FitIn (faults : List ErrorModel) (b : ErrorBuffers) : Type 0 where
  pub errors_fit : length faults ≤ length b.errors
  pub messages_fit : length (messages_of faults) ≤ length b.messages

-- they are at the fronts of the buffers; or one lacks room for them, and they are counted alone
pub record AreListed (faults : List ErrorModel) (before after : ErrorBuffers) : Type 0 where
  pub few : AreFew faults
  pub room : FitIn faults before
  pub written : after ≡ error_buffers (over (map error_row faults) before.errors)
      (over (messages_of faults) before.messages) (counts_of faults)

pub record AreCounted (faults : List ErrorModel) (before after : ErrorBuffers) : Type 0 where
  pub few : AreFew faults
  pub short : FitIn faults before → ⊥
  pub written : after ≡ error_buffers before.errors before.messages (counts_of faults)

-- a handle has a parse, in whose tree the violations at the node of a row and in it have a
-- property, if there is such a node
abbrev pub HoldsFaultsIn : ℕ → Option Kept → (List ErrorModel → Type 0) → Type 0
HoldsFaultsIn row held P =
    Holds held (λ p. IfSome (node_of_row p.tree row) (λ c. P (faults_in c)))

-- a handle has a parse, whose tree has these rows, and the violations among them have a property
abbrev pub HoldsFaultsAmong : ℕ → ℕ → Option Kept → (List ErrorModel → Type 0) → Type 0
HoldsFaultsAmong from to held P =
    Holds held (λ p. (to ≤ size p.tree) × P (faults_among p.tree from to))
