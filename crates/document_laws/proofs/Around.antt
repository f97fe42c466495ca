-- A part of a text that is some of the lexer's tokens may be replaced.
use Rattle.std.proofs.Common.{◌≡◌, ℕ, ◌<◌, ◌^◌, List, [], ◌∷◌, ◌++◌, length, take, drop, refl, sym, ap, subst, ◌∙◌, arith, append_assoc}
use Rattle.std.specs.Prelude.{IsUtf8}
use Rattle.std.proofs.Math.Seq.{take-append_seam, drop-append_seam}
use Rattle.std.proofs.lemmas.List.{take-append-drop, length-append, length-take-le}
use Rattle.std.proofs.lemmas.Str.{IsUtf8-nil, IsUtf8-append}
use Rattle.token_layout.specs.declared.span.Token.{Token}
use Rattle.token_layout.specs.Laid.{IsCut}
use Rattle.event_layout.specs.Amid.{sum_len}
use Rattle.event_layout.proofs.Filled.{cut_sum}
use Rattle.lexer_laws.specs.Heads.{may_have_head}
use Rattle.rust_lexer.specs.Lexing.{tokens_of}
use Rattle.rust_lexer.proofs.Kept.{lexed}
use Rattle.document_laws.specs.Around.{TokensAreReplaced}
use Rattle.document_laws.proofs.Opening.{bytes_are}

-- tokens cut a text in the parts that some of them cut
pub record Parts (xs ys : List Token) (text : List ℕ) : Type 0 where
  pub front : List ℕ
  pub back : List ℕ
  pub is : text ≡ front ++ back
  pub cut_front : IsCut xs front
  pub cut_back : IsCut ys back

pub parts : (xs ys : List Token) (text : List ℕ) → IsCut (xs ++ ys) text → Parts xs ys text
parts [] ys text h = record { front = []; back = text; is = refl; cut_front = refl; cut_back = h }
parts (t ∷ xs) ys text h =
    let w : Parts xs ys (drop t.len text) = parts xs ys (drop t.len text) h.2 in
    let first : List ℕ = take t.len text in
    let long : length first ≡ t.len = length-take-le t.len text h.0 in
    let taken : take t.len (first ++ w.front) ≡ first = ap (λ (n : ℕ). take n (first ++ w.front)) (sym long) ∙ take-append_seam first w.front in
    let dropped : drop t.len (first ++ w.front) ≡ w.front = ap (λ (n : ℕ). drop n (first ++ w.front)) (sym long) ∙ drop-append_seam first w.front in
    record {
      front = first ++ w.front;
      back = w.back;
      is = sym (take-append-drop t.len text) ∙ ap (λ (s : List ℕ). first ++ s) w.is ∙ sym (append_assoc first w.front w.back);
      cut_front = (omega (arith, long, length-append first w.front), subst IsUtf8 (sym taken) h.1, subst (IsCut xs) (sym dropped) w.cut_front);
      cut_back = w.cut_back;
    }

pub cut_text : (ts : List Token) (s : List ℕ) → IsCut ts s → IsUtf8 s
cut_text [] s h = subst IsUtf8 (sym h) IsUtf8-nil
cut_text (t ∷ ts) s h =
    subst IsUtf8 (take-append-drop t.len s) (IsUtf8-append (take t.len s) (drop t.len s) h.1 (cut_text ts (drop t.len s) h.2))

pub tokens_replaced : TokensAreReplaced
tokens_replaced e text ts ps us u small head tokens opens =
    let x : Parts ts (ps ++ us) text = parts ts (ps ++ us) text (subst (λ (xs : List Token). IsCut xs text) tokens (lexed e text u small).cut) in
    let y : Parts ps us x.back = parts ps us x.back x.cut_back in
    let is : text ≡ x.front ++ (y.front ++ y.back) = x.is ∙ ap (λ (s : List ℕ). x.front ++ s) y.is in
    let before : length x.front ≡ sum_len ts = sym (cut_sum ts x.front x.cut_front) in
    record {
      a = x.front;
      part = y.front;
      c = y.back;
      is = is;
      before = bytes_are ts ∙ sym before;
      cut_before = x.cut_front;
      cut_part = y.cut_front;
      cut_behind = y.cut_back;
      replaced = λ piece is_piece short braced. record {
        is_text = subst IsUtf8 is u;
        is_new_text = IsUtf8-append x.front (piece ++ y.back) (cut_text ts x.front x.cut_front) (IsUtf8-append piece y.back is_piece (cut_text us y.back y.cut_back));
        is_piece_text = is_piece;
        is_rest_text = cut_text us y.back y.cut_back;
        short = subst (λ (s : List ℕ). length s < 2 ^ 32) is small;
        new_short = short;
        no_head = ap may_have_head (sym is) ∙ head;
        are_tokens = ap (tokens_of e) (sym is) ∙ tokens;
        cut_before = bytes_are ts ∙ sym before;
        cut_behind = bytes_are ps ∙ cut_sum ps y.front y.cut_front;
        opens = opens;
        braced = braced;
      };
    }
