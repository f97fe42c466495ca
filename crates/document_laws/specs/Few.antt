-- How many events a run makes.
use Rattle.std.specs.Prelude.{ℕ, ◌+◌, ◌*◌, ◌-◌, ◌≤◌, ◌<◌, ◌^◌, IsUtf8, List, length}
use Rattle.syntax_kind.specs.declared.syntax_kind.SyntaxKind.{SyntaxKind}
use Rattle.tree_model.specs.Tree.{Tree, Place, start}
use Rattle.ras_front_end.specs.declared.edition.Edition.{Edition}
use Rattle.ras_front_end.specs.declared.edition.Reparser.{Reparser}
use Rattle.ras_front_end.specs.Reading.{Reading}
use Rattle.grammar_machine.specs.declared.grammar.Sight.{Sight}
use Rattle.grammar_machine.specs.Running.{Tables, runs, begin_of, events_of}
use Rattle.rust_grammar.specs.declared.tables.rules.Rule.{Rule}
use Rattle.rust_front.specs.Front.{made_of}
use Rattle.document_laws.specs.Alone.{IsExactPiece}
use Rattle.document_laws.specs.Opening.{OpensThere}

-- so many of each token, and some at the end of the tokens
abbrev pub EventsAreFew : Type 0
EventsAreFew =
    (g : Tables) (rule : ℕ) (ts : List Sight) → length ts + 3 < 2 ^ 64 → length (events_of g rule ts) ≤ 1202 + 2403 * length ts

-- the grammar of Rust makes so many of each byte; so those of a text that is not too long have
-- numbers of 32 bits
abbrev pub RustMakesFewEvents : Type 0
RustMakesFewEvents =
    (rule : Rule) (e : Edition) (text : List ℕ) → IsUtf8 text → length text < 2 ^ 32
    → length (made_of rule e text) ≤ 1200 + 2403 * length text

abbrev pub ShortTextsMakeFewEvents : Type 0
ShortTextsMakeFewEvents =
    (rule : Rule) (e : Edition) (text : List ℕ) → IsUtf8 text → length text ≤ 1787335
    → length (made_of rule e text) + 1 < 2 ^ 32 - 1

-- so many of each token that is taken, wherever a run is
abbrev pub EventsSoFarAreFew : Type 0
EventsSoFarAreFew =
    (n : ℕ) (g : Tables) (rule : ℕ) (ts : List Sight) → length ts + 3 < 2 ^ 64
    → length (runs n g ts (begin_of rule)).made.events ≤ 1200 + 2403 * (runs n g ts (begin_of rule)).place.at

-- so a file has few events before those of a piece
abbrev pub PiecesComeEarly : Type 0
PiecesComeEarly =
    (e : Edition) (text : List ℕ) (t : Tree) (p : Place) (k : SyntaxKind) (r : Reparser) (o : OpensThere e text t p k r)
    → IsUtf8 text → length text < 2 ^ 32 → o.piece.event.from ≤ 1200 + 2403 * start t p

-- and with those of any exact piece in its place they have numbers of 32 bits, if the bytes up to
-- the end of that are not too many
abbrev pub PiecesFit : Type 0
PiecesFit =
    (e : Edition) (text q : List ℕ) (t : Tree) (p : Place) (k j : SyntaxKind) (r s : Reparser) (reading : Reading)
    → (o : OpensThere e text t p k r) → (x : IsExactPiece e q j s reading)
    → IsUtf8 text → length text < 2 ^ 32 → IsUtf8 q → start t p + length q ≤ 1786000
    → (length x.own + 1) + o.piece.event.from < 2 ^ 32 - 1
