-- The parser's errors of a text of Rust in which an exact piece was replaced.
use Rattle.std.specs.Prelude.{◌≡◌, ℕ, ◌+◌, ◌-◌, ◌≤◌, ◌<◌, ◌^◌, true, Some, List, ◌++◌, length, take}
use Rattle.syntax_kind.specs.declared.syntax_kind.SyntaxKind.{SyntaxKind}
use Rattle.text_size.specs.TextRange.{Bounds}
use Rattle.tree_model.specs.Edit.{splice}
use Rattle.ras_front_end.specs.declared.edition.Edition.{Edition}
use Rattle.ras_front_end.specs.declared.edition.Entry.TheVariants.{SourceFile}
use Rattle.ras_front_end.specs.declared.edition.Reparser.{Reparser}
use Rattle.ras_front_end.specs.Reading.{Reading, step_faults, stored_faults}
use Rattle.token_layout.specs.declared.span.Token.{Token}
use Rattle.rust_front.specs.Front.{made_of, parsed_of}
use Rattle.rust_front.specs.Pieces.{exact_chosen_of, rule_by_number}
use Rattle.ras_parsing.specs.Edit.{Edit}
use Rattle.ras_parsing.specs.Reparse.{shifted}
use Rattle.ras_parsing.specs.Document.{in_order, all_in_order, is_quiet_from}
use Rattle.document_laws.specs.Alone.{IsExactPiece}
use Rattle.document_laws.specs.Parts.{IsInParts, IsLaidAround}

-- where an exact piece is replaced by another one, around which the text is laid as before, the
-- errors that `Document::edit` puts in order are those of the new text, with their messages: of the
-- old ones those before the piece, those of the new piece by itself, and the old ones behind it
abbrev pub ParserErrorsAreReplaced : Type 0
ParserErrorsAreReplaced =
    (e : Edition) (a w q c : List ℕ) (ts us : List Token) (k : SyntaxKind) (r : Reparser) (was now : Reading) (edit : Edit)
    → IsInParts e a w c ts us
    → (x : IsExactPiece e w k r was) → (y : IsExactPiece e q k r now)
    → IsLaidAround e a w q c ts us k x.own y.own
    → exact_chosen_of k ≡ Some r
    → length (made_of (rule_by_number r.number) e w) < 2 ^ 32 - 1
    → length (made_of (rule_by_number r.number) e q) < 2 ^ 32 - 1
    → ((n : ℕ) → shifted edit (length (a ++ w) + n) ≡ length (a ++ q) + n)
    → step_faults (parsed_of SourceFile e (a ++ (q ++ c))).steps
    ≡ in_order (step_faults (parsed_of SourceFile e (a ++ (w ++ c))).steps) (step_faults now.steps)
    (record { start = length a; end = length (a ++ w) }) edit

-- an edit inside of the piece moves what is behind it so
abbrev pub PiecesShiftTheRest : Type 0
PiecesShiftTheRest =
    (a w q : List ℕ) (edit : Edit)
    → q ≡ splice w (edit.delete.start - length a) (edit.delete.end - length a) edit.insert
    → length a ≤ edit.delete.start → edit.delete.start ≤ edit.delete.end → edit.delete.end ≤ length (a ++ w)
    → (n : ℕ) → shifted edit (length (a ++ w) + n) ≡ length (a ++ q) + n

-- the errors that a parse stores, and how many of them are the parser's, where a piece is replaced
-- in the range `b`
pub record AreReplaced (old now new : Reading) (b : Bounds) (edit : Edit) : Type 0 where
  pub all :
      stored_faults new
      ≡ all_in_order (length (step_faults old.steps)) (length (step_faults now.steps)) (stored_faults old) (stored_faults now) b edit
  pub count :
      length (step_faults new.steps)
      ≡ length (in_order (take (length (step_faults old.steps)) (stored_faults old)) (take (length (step_faults now.steps)) (stored_faults now)) b edit)

-- those of the parser and of the lexer together, if no error of the lexer is behind the piece
abbrev pub ErrorsAreReplaced : Type 0
ErrorsAreReplaced =
    (e : Edition) (a w q c : List ℕ) (ts us : List Token) (k : SyntaxKind) (r : Reparser) (was now : Reading) (edit : Edit)
    → IsInParts e a w c ts us
    → (x : IsExactPiece e w k r was) → (y : IsExactPiece e q k r now)
    → IsLaidAround e a w q c ts us k x.own y.own
    → exact_chosen_of k ≡ Some r
    → length (made_of (rule_by_number r.number) e w) < 2 ^ 32 - 1
    → length (made_of (rule_by_number r.number) e q) < 2 ^ 32 - 1
    → ((n : ℕ) → shifted edit (length (a ++ w) + n) ≡ length (a ++ q) + n)
    → is_quiet_from (length (a ++ w)) (parsed_of SourceFile e (a ++ (w ++ c))).errors ≡ true
    → AreReplaced (parsed_of SourceFile e (a ++ (w ++ c))) now (parsed_of SourceFile e (a ++ (q ++ c)))
    (record { start = length a; end = length (a ++ w) }) edit
