-- Where a node's text is an exact piece, the text is in parts around it.
use Rattle.std.proofs.Common.{◌≡◌, ℕ, ◌<◌, ◌^◌, false, List, ◌∷◌, ◌++◌, length, drop, refl, ap, ◌∙◌, subst, sym, arith}
use Rattle.std.specs.Prelude.{IsUtf8}
use Rattle.std.proofs.Math.Seq.{drop-append_seam}
use Rattle.std.proofs.lemmas.List.{length-append}
use Rattle.syntax_kind.specs.declared.syntax_kind.SyntaxKind.{SyntaxKind}
use Rattle.tree_model.specs.Tree.{Tree, Place, text, subtree, start}
use Rattle.tree_model.specs.Edit.{text_before, text_behind}
use Rattle.tree_model.proofs.EditLaws.{text_around}
use Rattle.ras_front_end.specs.declared.edition.Edition.{Edition}
use Rattle.ras_front_end.specs.declared.edition.Entry.TheVariants.{SourceFile}
use Rattle.ras_front_end.specs.declared.edition.Reparser.{Reparser}
use Rattle.ras_front_end.specs.Reading.{Reading, Cuts}
use Rattle.ras_parsing.proofs.TreeTexts.{built_text}
use Rattle.token_layout.specs.declared.span.Token.{Token}
use Rattle.token_layout.specs.Laid.{IsCut}
use Rattle.grammar_machine.specs.Exchanging.{CallsMakeTheirOwn}
use Rattle.grammar_machine.specs.Sealing.{SealedCallsLeaveNothing}
use Rattle.lexer_laws.specs.Cuts.{tokens_within, bytes_of}
use Rattle.lexer_laws.specs.Heads.{may_have_head, PlainTextsHaveNoHead}
use Rattle.lexer_laws.proofs.Finding.{braced_cut}
use Rattle.lexer_laws.proofs.Pieces.{headless, behind_cut}
use Rattle.rust_front.specs.Heads.{has_head_of}
use Rattle.rust_front.specs.Front.{parsed_of}
use Rattle.rust_front.specs.Laws.{rust_kept}
use Rattle.rust_lexer.specs.Lexing.{tokens_of}
use Rattle.rust_lexer.proofs.Kept.{lexed}
use Rattle.document_laws.specs.Alone.{IsExactPiece}
use Rattle.document_laws.specs.Opening.{OpensThere}
use Rattle.document_laws.specs.Parts.{IsInParts}
use Rattle.document_laws.specs.Setting.{PiecesAreInParts}
use Rattle.document_laws.proofs.Alone.{exact_alone, heads_tested}
use Rattle.document_laws.proofs.Around.{cut_text}
use Rattle.document_laws.proofs.Opening.{pieces_open}
use Rattle.document_laws.proofs.Setting.{bytes_in}
use Rattle.document_laws.proofs.Textual.{text_there, both_cut, rest_utf8}

-- the parts of a text in which an exact piece is
record InParts (e : Edition) (a w c : List ℕ) (t : Tree) (p : Place) (k : SyntaxKind) (r : Reparser) : Type 0 where
  ts : List Token
  us : List Token
  parts : IsInParts e a w c ts us
  opens : OpensThere e (a ++ (w ++ c)) t p k r
  front : opens.front ≡ ts

parted : PlainTextsHaveNoHead → (e : Edition) (a w c : List ℕ) (t : Tree) (p : Place) (k : SyntaxKind) (r : Reparser) (reading : Reading)
    → IsUtf8 (a ++ (w ++ c)) → length (a ++ (w ++ c)) < 2 ^ 32 → has_head_of (a ++ (w ++ c)) ≡ false
    → length a ≡ start t p → IsUtf8 w → IsExactPiece e w k r reading → OpensThere e (a ++ (w ++ c)) t p k r → InParts e a w c t p k r
parted plain e a w c t p k r reading u small head starts is_w x o =
    let whole : List ℕ = a ++ (w ++ c) in
    let no_head : may_have_head whole ≡ false = sym (heads_tested whole) ∙ head in
    let bytes : bytes_of o.front ≡ length a = o.cut ∙ sym starts in
    let cuts : IsCut o.front a × IsCut o.back (w ++ c) =
    both_cut o.front o.back a (w ++ c) (subst (λ (xs : List Token). IsCut xs whole) o.tokens (lexed e whole u small).cut) bytes in
    let is_back : IsUtf8 (w ++ c) = cut_text o.back (w ++ c) cuts.1 in
    let is_rest : IsUtf8 c = rest_utf8 w c is_back is_w in
    let all : tokens_within e whole ≡ o.front ++ o.back = sym (headless e whole (plain e whole u no_head)) ∙ o.tokens in
    let behind : o.back ≡ tokens_of e w ++ tokens_within e c =
    behind_cut (length whole) e whole o.front o.back (omega arith) small all
    ∙ ap (λ (n : ℕ). tokens_within e (drop n whole)) bytes ∙ ap (tokens_within e) (drop-append_seam a (w ++ c))
    ∙ braced_cut e w c is_w is_rest (omega (arith, small, length-append a (w ++ c))) x.braced in
    let cuts_behind : IsCut (tokens_of e w) w × IsCut (tokens_within e c) c =
    both_cut (tokens_of e w) (tokens_within e c) w c (subst (λ (xs : List Token). IsCut xs (w ++ c)) behind cuts.1) (bytes_in x) in
    record {
      ts = o.front;
      us = tokens_within e c;
      parts = record {
        is_text = u;
        is_part = is_w;
        is_rest = is_rest;
        short = small;
        no_head = no_head;
        tokens = o.tokens ∙ ap (λ (xs : List Token). o.front ++ xs) behind;
        before = bytes;
        cut_before = cuts.0;
        cut_behind = cuts_behind.1;
        braced = x.braced;
      };
      opens = o;
      front = refl;
    }

pub pieces_stand : CallsMakeTheirOwn → SealedCallsLeaveNothing → PlainTextsHaveNoHead → PiecesAreInParts
pieces_stand law nothing plain e whole t i p k v f r reading u small head few built at sub chosen piece few_made =
    let a : List ℕ = text_before t (i ∷ p) in
    let w : List ℕ = text (subtree t (i ∷ p)) in
    let c : List ℕ = text_behind t (i ∷ p) in
    let cuts : Cuts (parsed_of SourceFile e whole).steps whole = (rust_kept.entry_kept SourceFile e whole u small).cuts in
    let is : whole ≡ a ++ (w ++ c) = sym (built_text (parsed_of SourceFile e whole).steps whole t cuts built) ∙ (text_around t (i ∷ p) at).0 in
    let starts : length a ≡ start t (i ∷ p) = (text_around t (i ∷ p) at).1 in
    let is_w : IsUtf8 w = text_there (parsed_of SourceFile e whole).steps whole t (i ∷ p) cuts built in
    let small_w : length w < 2 ^ 32 = omega (arith, small, ap length is, length-append a (w ++ c), length-append w c) in
    let x : IsExactPiece e w k r reading = exact_alone nothing e w k r reading is_w small_w few_made chosen piece in
    let o : OpensThere e (a ++ (w ++ c)) t (i ∷ p) k r =
    subst (λ (s : List ℕ). OpensThere e s t (i ∷ p) k r) is (pieces_open law e whole t i p k v f r u small few built at sub chosen).0 in
    let n : InParts e a w c t (i ∷ p) k r =
    parted plain e a w c t (i ∷ p) k r reading (subst IsUtf8 is u) (subst (λ (s : List ℕ). length s < 2 ^ 32) is small) (ap has_head_of (sym is) ∙ head) starts is_w x o in
    record {
      a = a;
      c = c;
      ts = n.ts;
      us = n.us;
      is = is;
      starts = starts;
      parts = n.parts;
      opens = n.opens;
      front = n.front;
      exact = x;
    }
