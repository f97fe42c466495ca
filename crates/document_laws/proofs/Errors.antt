-- All errors that a parse stores, where an exact piece was replaced.
use Rattle.std.proofs.Common.{◌≡◌, ℕ, ◌+◌, ◌-◌, ◌<◌, ◌^◌, List, ◌++◌, length, take, drop, map, ap, ap₂, ◌∙◌, refl, sym, arith}
use Rattle.std.proofs.Math.Seq.{take-append_seam, drop-append_seam}
use Rattle.std.proofs.lemmas.List.{length-append, length-drop, length-take-le}
use Rattle.syntax_kind.specs.declared.syntax_kind.SyntaxKind.{SyntaxKind}
use Rattle.text_size.specs.TextRange.{Bounds}
use Rattle.ras_front_end.specs.declared.edition.Edition.{Edition}
use Rattle.ras_front_end.specs.declared.edition.Entry.TheVariants.{SourceFile}
use Rattle.ras_front_end.specs.ErrorModel.{ErrorModel}
use Rattle.ras_front_end.specs.Reading.{Reading, step_faults, stored_faults}
use Rattle.token_layout.specs.declared.span.Token.{Token as RawToken}
use Rattle.grammar_machine.specs.declared.event.Event.{Event}
use Rattle.rust_lexer.specs.declared.lexer.LexError.{LexError}
use Rattle.rust_lexer.specs.Lexing.{tokens_of}
use Rattle.rust_front.specs.Front.{reading_with, parsed_of}
use Rattle.rust_front.specs.Messages.{lexer_error_of}
use Rattle.ras_parsing.specs.Document.{in_order, is_quiet_from}
use Rattle.document_laws.specs.Faults.{PiecesShiftTheRest, ErrorsAreReplaced}
use Rattle.document_laws.specs.Parts.{IsInParts}
use Rattle.document_laws.specs.Stored.{stored}
use Rattle.document_laws.proofs.Erring.{two_parts}
use Rattle.document_laws.proofs.Faults.{parsed_is, errors_replaced}
use Rattle.document_laws.proofs.Storing.{stored_replaced}

pub rest_shifted : PiecesShiftTheRest
rest_shifted a w q edit is from forwards within n =
    let s : ℕ = edit.delete.start - length a in
    let f : ℕ = edit.delete.end - length a in
    let long : length q ≡ length (take s w) + (length edit.insert + length (drop f w)) =
    ap length is ∙ length-append (take s w) (edit.insert ++ drop f w) ∙ ap (λ (m : ℕ). length (take s w) + m) (length-append edit.insert (drop f w)) in
    let old : length (a ++ w) ≡ length a + length w = length-append a w in
    omega (arith, long, old, length-append a q, length-take-le s w (omega (arith, from, forwards, within, old)), length-drop f w, from, forwards, within)

-- the lexer's errors of a reading
with_errors : (root : SyntaxKind) (text : List ℕ) (ts : List RawToken) (errors : List LexError) (es : List Event)
    → (reading_with root text ts errors es).errors ≡ map (lexer_error_of text) errors
unfolding reading_with
with_errors root text ts errors es = refl

pub parsed_errors : (e : Edition) (text : List ℕ) → length text < 2 ^ 32 → (parsed_of SourceFile e text).errors ≡ stored e text
parsed_errors e text small = ap (λ (x : Reading). x.errors) (parsed_is e text small) ∙ with_errors _ text (tokens_of e text) _ _

pub all_replaced : ErrorsAreReplaced
all_replaced e a w q c ts us k r was now edit i x y d chosen few few_new shift quiet =
    let j : IsInParts e a q c ts us = d.new in
    let b : Bounds = record { start = length a; end = length (a ++ w) } in
    let old : Reading = parsed_of SourceFile e (a ++ (w ++ c)) in
    let new : Reading = parsed_of SourceFile e (a ++ (q ++ c)) in
    let parser : step_faults new.steps ≡ in_order (step_faults old.steps) (step_faults now.steps) b edit =
    errors_replaced e a w q c ts us k r was now edit i x y d chosen few few_new shift in
    let old_is : old.errors ≡ stored e (a ++ (w ++ c)) = parsed_errors e (a ++ (w ++ c)) i.short in
    let now_is : now.errors ≡ stored e q = ap (λ (z : Reading). z.errors) y.reading_is ∙ with_errors k q (tokens_of e q) _ _ in
    let lexer : new.errors ≡ in_order old.errors now.errors b edit =
    parsed_errors e (a ++ (q ++ c)) j.short
    ∙ stored_replaced e a w q c ts (tokens_of e w) us edit (two_parts e a w q c ts us i j) y.late
    (sym (ap (is_quiet_from (length (a ++ w))) old_is) ∙ quiet)
    ∙ sym (ap₂ (λ (l m : List ErrorModel). in_order l m b edit) old_is now_is) in
    let os : List ErrorModel = step_faults old.steps in
    let ns : List ErrorModel = step_faults now.steps in
    let front : in_order (take (length os) (stored_faults old)) (take (length ns) (stored_faults now)) b edit ≡ in_order os ns b edit =
    ap₂ (λ (l m : List ErrorModel). in_order l m b edit) (take-append_seam os old.errors) (take-append_seam ns now.errors) in
    let back : in_order (drop (length os) (stored_faults old)) (drop (length ns) (stored_faults now)) b edit ≡ in_order old.errors now.errors b edit =
    ap₂ (λ (l m : List ErrorModel). in_order l m b edit) (drop-append_seam os old.errors) (drop-append_seam ns now.errors) in
    record {
      all = ap₂ (λ (l m : List ErrorModel). l ++ m) (parser ∙ sym front) (lexer ∙ sym back);
      count = ap length (parser ∙ sym front);
    }
