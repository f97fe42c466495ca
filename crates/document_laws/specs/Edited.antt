-- The tree of a file of Rust in which an exact piece was edited.
use Rattle.std.specs.Prelude.{◌≡◌, ℕ, ◌+◌, ◌-◌, ◌<◌, ◌^◌, List, ◌∷◌, ◌++◌, length, Some}
use Rattle.syntax_kind.specs.declared.syntax_kind.SyntaxKind.{SyntaxKind}
use Rattle.tree_model.specs.Tree.{Tree, node, token, Forest, cons, Place, IsPlace, subtree, start}
use Rattle.tree_model.specs.Edit.{replace}
use Rattle.tree_model.specs.Events.{BuildsNode}
use Rattle.ras_front_end.specs.declared.edition.Edition.{Edition}
use Rattle.ras_front_end.specs.declared.edition.Entry.TheVariants.{SourceFile}
use Rattle.ras_front_end.specs.declared.edition.Reparser.{Reparser}
use Rattle.ras_front_end.specs.Reading.{Reading, events_from}
use Rattle.token_layout.specs.declared.span.Token.{Token}
use Rattle.grammar_machine.specs.declared.event.Event.{Event}
use Rattle.rust_front.specs.Front.{parsed_of}
use Rattle.rust_front.specs.Pieces.{exact_chosen_of}
use Rattle.document_laws.specs.Alone.{IsExactPiece}
use Rattle.document_laws.specs.Parts.{IsInParts, IsLaidAround}

-- the tree that a file's parse builds
abbrev pub BuildsFile : Edition → List ℕ → Tree → Type 0
BuildsFile e text t = BuildsNode (events_from (parsed_of SourceFile e text).steps text) t

-- where a text with an exact piece is laid as before around another exact piece, the node that
-- starts where the piece starts, if its first child is a token with a text, is the piece's; with
-- the tree of the other piece there, the tree is that of the new text
abbrev pub EditedTreesAreParsed : Type 0
EditedTreesAreParsed =
    (e : Edition) (a w q c : List ℕ) (ts us : List Token) (k : SyntaxKind) (r : Reparser) (was now : Reading) (es fs : List Event)
    (t : Tree) (i : ℕ) (p : Place) (l : SyntaxKind) (first : List ℕ) (f : Forest) (piece : Tree)
    → IsInParts e a w c ts us → IsLaidAround e a w q c ts us k es fs → exact_chosen_of k ≡ Some r
    → (x : IsExactPiece e w k r was) → x.own ≡ es → (y : IsExactPiece e q k r now) → y.own ≡ fs
    → length a < 2 ^ 32 - 1 → length es + 1 < 2 ^ 32 - 1
    → BuildsFile e (a ++ (w ++ c)) t → IsPlace t (i ∷ p)
    → subtree t (i ∷ p) ≡ node k (cons (token l first) f) → 0 < length first → start t (i ∷ p) ≡ length a
    → BuildsNode (events_from now.steps q) piece
    → BuildsFile e (a ++ (q ++ c)) (replace t (i ∷ p) piece)
