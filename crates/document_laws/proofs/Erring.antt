-- The errors of an exact piece are inside of it.
use Rattle.std.proofs.Common.{◌≡◌, ℕ, suc, ◌+◌, ◌<◌, ◌^◌, List, [], ◌∷◌, ◌++◌, length, ap, ◌∙◌, subst, arith}
use Rattle.std.specs.Prelude.{Some, reverse}
use Rattle.std.proofs.lemmas.List.{length-append, reverse-append}
use Rattle.syntax_kind.specs.declared.syntax_kind.SyntaxKind.{SyntaxKind}
use Rattle.ras_front_end.specs.declared.edition.Edition.{Edition}
use Rattle.token_layout.specs.declared.span.Token.{Token as RawToken}
use Rattle.grammar_machine.specs.declared.event.Event.{Event}
use Rattle.grammar_machine.specs.declared.event.Event.TheVariants.{Token, Node}
use Rattle.grammar_machine.specs.declared.grammar.Sight.{Sight}
use Rattle.grammar_machine.specs.declared.grammar.Op.TheVariants as op
use Rattle.grammar_machine.specs.Lasting.{IsOver}
use Rattle.grammar_machine.specs.Reading.{ReadsPiece}
use Rattle.grammar_machine.specs.Running.{Tables, State, kind_of, with_place, past_of, sealed_on, step_of, begin_of}
use Rattle.grammar_machine.specs.Sealing.{SealedCall, returned}
use Rattle.grammar_machine.proofs.Read.{pieces-sealed}
use Rattle.grammar_machine.proofs.Running.{step-obeys, runs-suc}
use Rattle.event_layout.specs.Ending.{EndsInToken}
use Rattle.event_layout.proofs.Ends.{ends_found}
use Rattle.event_layout.proofs.Filled.{cut_sum}
use Rattle.event_layout.proofs.Placed.{pieces_take}
use Rattle.lexer_laws.specs.Pieces.{IsReplaced}
use Rattle.lexer_laws.proofs.Finding.{Replaced, replaced}
use Rattle.rust_grammar.specs.Rules.{first_op}
use Rattle.rust_grammar.specs.Seeing.{sights_of}
use Rattle.rust_grammar.specs.Tables.{rust_tables}
use Rattle.rust_lexer.specs.Laws.{IsLexed}
use Rattle.rust_lexer.specs.Lexing.{tokens_of}
use Rattle.rust_lexer.proofs.Kept.{lexed}
use Rattle.rust_front.specs.Pieces.{rule_by_number}
use Rattle.rust_front.specs.Roots.{attaching_kinds}
use Rattle.document_laws.specs.Inside.{PiecesErrInside}
use Rattle.document_laws.specs.Parts.{IsInParts}
use Rattle.document_laws.specs.Tables.{IsExactRule}
use Rattle.document_laws.proofs.Inside.{EndsClosed, errors_inside}
use Rattle.document_laws.proofs.Opening.{SomeAt, some_at, bytes_are}
use Rattle.document_laws.proofs.Owning.{short_text}
use Rattle.document_laws.proofs.Staying.{runs-stay}
use Rattle.document_laws.proofs.Tabling.{exact_rules}

-- ---- the first event is a token

pub record BeginsWith (es : List Event) : Type 0 where
  pub kind : SyntaxKind
  pub later : List Event
  pub is : es ≡ Token kind 1 ∷ later

front_begins : (k l : SyntaxKind) (es rest : List Event) → es ++ Node k 0 ∷ [] ≡ Token l 1 ∷ rest → BeginsWith es
front_begins k l [] rest e = absurd (let bad : Node k 0 ∷ [] ≡ Token l 1 ∷ rest = e in cc)
front_begins k l (x ∷ es) rest e = record { kind = l; later = es; is = ap (λ (y : Event). y ∷ es) (first x (Token l 1) (es ++ Node k 0 ∷ []) rest e) }
  where
    first : (x y : Event) (xs ys : List Event) → x ∷ xs ≡ y ∷ ys → x ≡ y
    first x y xs ys e = cc

pub call_begins : (g : Tables) (ts : List Sight) (rule : ℕ) (k : SyntaxKind) (es : List Event) (c : SealedCall g ts k (begin_of rule))
    → es ++ Node k 0 ∷ [] ≡ reverse (returned c).made.events → BeginsWith es
call_begins g ts rule k es c e =
    let s : State = begin_of rule in
    let t : SomeAt ts s.place.at = some_at ts s.place.at c.token in
    let first : Event = Token (kind_of g t.sight.one) 1 in
    let one : step_of g ts s ≡ sealed_on g c.target k (Some t.sight) (with_place past_of s) =
    step-obeys g ts s (op.Sealed c.target k) c.found c.left ∙ ap (λ o. sealed_on g c.target k o (with_place past_of s)) t.there in
    let over : IsOver (first ∷ []) (step_of g ts s).made = record { later = []; is = ap (λ (z : State). z.made.events) one } in
    let all : IsOver (first ∷ []) (returned c).made =
    subst (λ (z : State). IsOver (first ∷ []) z.made) (runs-suc c.steps g ts (step_of g ts s)) (runs-stay (suc c.steps) (kind_of g t.sight.one) 1 [] g ts (step_of g ts s) over) in
    front_begins k (kind_of g t.sight.one) es (reverse all.later) (e ∙ ap reverse all.is ∙ reverse-append all.later (first ∷ []))

-- ---- the last token is `}`

pub part_len : (a w c : List ℕ) → length (a ++ (w ++ c)) ≡ length a + (length w + length c)
part_len a w c = omega (arith, length-append a (w ++ c), length-append w c)

-- another part comes in the place of one, or the same
pub two_parts : (e : Edition) (a w q c : List ℕ) (ts us : List RawToken) → IsInParts e a w c ts us → IsInParts e a q c ts us
    → IsReplaced e a w q c ts (tokens_of e w) us
two_parts e a w q c ts us i j =
    let short = i.short in
    let small : length w < 2 ^ 32 = omega (arith, short, part_len a w c) in
    record {
      is_text = i.is_text;
      is_new_text = j.is_text;
      is_piece_text = j.is_part;
      is_rest_text = i.is_rest;
      short = i.short;
      new_short = j.short;
      no_head = i.no_head;
      are_tokens = i.tokens;
      cut_before = i.before;
      cut_behind = bytes_are (tokens_of e w) ∙ cut_sum (tokens_of e w) w (lexed e w i.is_part small).cut;
      opens = i.braced.0;
      braced = j.braced;
    }

pub closed_part : (e : Edition) (a w c : List ℕ) (ts us : List RawToken) → IsInParts e a w c ts us → EndsClosed w (tokens_of e w)
closed_part e a w c ts us i =
    let x : Replaced e a w w c ts (tokens_of e w) us =
    replaced e a w w c ts (tokens_of e w) us (two_parts e a w w c ts us i i) in
    record {
      front = x.is_piece.front;
      close = x.is_piece.close;
      closed = x.is_piece.closed;
      one = x.is_piece.one_byte;
      before = 123 ∷ x.is_piece.inner;
      parts = x.is_piece.parts;
    }

pub errs_inside : PiecesErrInside
errs_inside e a w c ts us k r reading i x chosen few =
    let short = i.short in
    let small : length w < 2 ^ 32 = omega (arith, short, part_len a w c) in
    let tw : List RawToken = tokens_of e w in
    let ss : List Sight = sights_of e w tw in
    let l : IsLexed e w = lexed e w i.is_part small in
    let rl : IsExactRule k r = exact_rules k r chosen in
    let rule : ℕ = first_op (rule_by_number r.number) in
    let whole : List Event = x.own ++ Node k 0 ∷ [] in
    let count : length whole ≡ length x.own + 1 = length-append x.own (Node k 0 ∷ []) in
    let made = ap length x.events in
    let sights : length ss + 3 < 2 ^ 64 = omega (arith, short_text e w i.is_part small) in
    let p : ReadsPiece rust_tables rule k ss whole =
    pieces-sealed rust_tables rule rl.target k ss whole rl.rule x.alone.alone sights (omega (arith, few, made)) in
    let b : BeginsWith x.own = call_begins rust_tables ss rule k x.own p.call p.events in
    let d : EndsInToken x.own = ends_found k 0 x.own x.alone.closes in
    errors_inside k attaching_kinds w tw x.own small (omega (arith, few, made, count)) l.cut x.alone.first l.none_empty
    (closed_part e a w c ts us i)
    (pieces_take rust_tables rule rl.target k ss x.own tw rl.rule x.alone.alone sights (omega (arith, few, made, count)) x.alone.sights x.alone.last)
    b.kind b.later d.body d.kind d.signs b.is d.is
