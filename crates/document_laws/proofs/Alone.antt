-- What the front end tests of an exact piece is what the laws ask for.
use Rattle.std.proofs.Common.{◌≡◌, ℕ, ◌+◌, ◌-◌, ◌<◌, ◌^◌, Bool, true, false, not, ◌&&◌, ◌||◌, nat_lt, nat_eq, if◌then◌else◌, List, [], ◌∷◌, ◌++◌, length, ap, ap₂, ◌∙◌, refl, subst, sym, arith, append_assoc}
use Rattle.std.specs.Prelude.{Option, Some, None, slice_get, reverse, option_map, option_and_then}
use Rattle.std.proofs.lemmas.Bool.{and_parts}
use Rattle.std.proofs.lemmas.Bool.Decides.{nat_tests}
use Rattle.std.proofs.lemmas.List.{reverse-append, length-reverse}
use Rattle.syntax_kind.specs.declared.syntax_kind.SyntaxKind.{SyntaxKind}
use Rattle.syntax_kind.specs.declared.syntax_kind.SyntaxKind.TheVariants.{Token}
use Rattle.syntax_kind.specs.declared.syntax_kind.token_kind.TokenKind.TheVariants as token
use Rattle.syntax_kind.specs.Kinds.{is_trivia}
use Rattle.ras_front_end.specs.declared.edition.Edition.{Edition}
use Rattle.ras_front_end.specs.declared.edition.Reparser.{Reparser}
use Rattle.ras_front_end.specs.Reading.{Reading}
use Rattle.token_layout.specs.declared.span.Token.{Token as RawToken}
use Rattle.grammar_machine.specs.declared.event.Event.{Event}
use Rattle.grammar_machine.specs.declared.event.Event.TheVariants as event
use Rattle.grammar_machine.specs.declared.grammar.Sight.{Sight}
use Rattle.grammar_machine.specs.Running.{Tables, State, events_of, begin_of}
use Rattle.grammar_machine.specs.Alone.{is_alone_of, alone_of}
use Rattle.grammar_machine.specs.Filling.{LooksAreShort}
use Rattle.grammar_machine.specs.Reading.{IsSealedRule, ReadsPiece}
use Rattle.grammar_machine.specs.Sealing.{returned, SealedCallsLeaveNothing, LeavesNothing}
use Rattle.grammar_machine.proofs.Read.{pieces-sealed}
use Rattle.event_layout.specs.Ending.{closes_last}
use Rattle.event_layout.specs.Trivia.{lead}
use Rattle.event_layout.proofs.Amid.{lead_more}
use Rattle.lexer_laws.specs.Heads.{may_be_shebang, may_be_fence, is_byte as is_lexer_byte}
use Rattle.lexer_laws.specs.Pieces.{Opens, Closes, IsBraced}
use Rattle.rust_grammar.specs.Rules.{first_op}
use Rattle.rust_grammar.specs.Seeing.{sights_of}
use Rattle.rust_grammar.specs.Tables.{rust_tables}
use Rattle.rust_lexer.specs.Lexing.{tokens_of, errors_of}
use Rattle.rust_lexer.proofs.Kept.{lexed}
use Rattle.rust_front.specs.Exact.{is_open, is_close, opens_with, closes_with, is_braced_by, errs_early, if_closed, whole_exact_of, exact_piece_of}
use Rattle.rust_front.specs.Heads.{is_byte, is_visible, has_fence_of, has_shebang_of}
use Rattle.rust_front.specs.Front.{made_of, reading_with}
use Rattle.rust_front.specs.Pieces.{rule_by_number}
use Rattle.document_laws.specs.Alone.{ExactPiecesAreReadAlone, HeadsAreTested}
use Rattle.document_laws.specs.Tables.{IsExactRule}
use Rattle.document_laws.proofs.Knowns.{lexer_known}
use Rattle.document_laws.proofs.Owning.{short_text}
use Rattle.document_laws.proofs.Sights.{sights_are}
use Rattle.document_laws.proofs.Tabling.{looks_short, exact_rules}

-- ---- braces

no : false ≡ true → ⊥
no h = cc

never : {X : Type 0} (x : X) → None ≡ Some x → ⊥
never x h = (let bad : None ≡ Some x = h in cc)

some_is : {X : Type 0} (x y : X) → Some x ≡ Some y → x ≡ y
some_is x y e = cc

pub open_only : (k : SyntaxKind) → is_open k ≡ true → k ≡ Token token.L_CURLY
open_only (Token token.L_CURLY) h = refl
open_only _ h = absurd (no h)

close_only : (k : SyntaxKind) → is_close k ≡ true → k ≡ Token token.R_CURLY
close_only (Token token.R_CURLY) h = refl
close_only _ h = absurd (no h)

opened : (ts : List RawToken) → opens_with (slice_get ts 0) ≡ true → Opens ts
opened [] h = absurd (no h)
opened (t ∷ ts) h = record { first = t; rest = ts; begins = refl; is_open = open_only t.kind h }

closed_on : (t : RawToken) (front rest : List RawToken) → closes_with (slice_get (t ∷ rest) (length rest)) ≡ true → Closes (front ++ t ∷ rest)
closed_on t front [] h = record { front = front; last = t; ends = refl; is_close = close_only t.kind h }
closed_on t front (u ∷ rest) h =
    subst Closes (append_assoc front (t ∷ []) (u ∷ rest)) (closed_on u (front ++ t ∷ []) rest h)

closed : (ts : List RawToken) → closes_with (slice_get ts (length ts - 1)) ≡ true → Closes ts
closed [] h = absurd (no h)
closed (t ∷ ts) h =
    let n : length (t ∷ ts) - 1 ≡ length ts = omega arith in
    closed_on t [] ts (sym (ap (λ (i : ℕ). closes_with (slice_get (t ∷ ts) i)) n) ∙ h)

pub braced_is : (ts : List RawToken) → is_braced_by ts ≡ true → IsBraced ts
braced_is ts h =
    let w = and_parts (opens_with (slice_get ts 0)) (closes_with (slice_get ts (length ts - 1))) h in
    (opened ts w.0, closed ts w.1)

plain_open : (k : SyntaxKind) → k ≡ Token token.L_CURLY → is_trivia k ≡ false
plain_open k h = ap is_trivia h

plain_close : (k : SyntaxKind) → k ≡ Token token.R_CURLY → is_trivia k ≡ false
plain_close k h = ap is_trivia h

lead_none : (ts : List RawToken) → Opens ts → lead ts ≡ 0
lead_none ts o =
    ap lead o.begins ∙ lead_more o.first o.rest ∙ ap (λ (b : Bool). if b then lead o.rest + 1 else 0) (plain_open o.first.kind o.is_open)

-- ---- what is tested

-- the tests that an exact piece passes
record Passes (e : Edition) (text : List ℕ) (r : Reparser) (reading : Reading) : Type 0 where
  all : List Event
  braced : is_braced_by (tokens_of e text) ≡ true
  late : errs_early (tokens_of e text) (errors_of e text) ≡ false
  alone : alone_of rust_tables (first_op (rule_by_number r.number)) (sights_of e text (tokens_of e text)) ≡ Some all
  closes : closes_last (reverse all) ≡ true
  reading_is : reading ≡ reading_with r.kind text (tokens_of e text) (errors_of e text) all

passed_on : (e : Edition) (text : List ℕ) (r : Reparser) (reading : Reading) (a b : Bool) (o : Option (List Event))
    → is_braced_by (tokens_of e text) ≡ a → errs_early (tokens_of e text) (errors_of e text) ≡ b
    → alone_of rust_tables (first_op (rule_by_number r.number)) (sights_of e text (tokens_of e text)) ≡ o
    → (if not a || b then None else option_map (reading_with r.kind text (tokens_of e text) (errors_of e text)) (option_and_then if_closed o)) ≡ Some reading
    → Passes e text r reading
passed_on e text r reading false b o ha hb ho h = absurd (never reading h)
passed_on e text r reading true true o ha hb ho h = absurd (never reading h)
passed_on e text r reading true false None ha hb ho h = absurd (never reading h)
passed_on e text r reading true false (Some all) ha hb ho h = by (closes_last (reverse all)) refl h
  where
    by : (d : Bool) → closes_last (reverse all) ≡ d
        → option_map (reading_with r.kind text (tokens_of e text) (errors_of e text)) (if d then Some all else None) ≡ Some reading → Passes e text r reading
    by true q i = record { all = all; braced = ha; late = hb; alone = ho; closes = q; reading_is = sym (some_is (reading_with r.kind text (tokens_of e text) (errors_of e text) all) reading i) }
    by false q i = absurd (never reading i)

passed : (e : Edition) (text : List ℕ) (r : Reparser) (reading : Reading) → length text < 2 ^ 32 → exact_piece_of r e text ≡ Some reading → Passes e text r reading
unfolding exact_piece_of
passed e text r reading small h =
    let short : nat_lt (length text) (2 ^ 32) ≡ true = grind (arith, nat_tests, small) in
    passed_on e text r reading (is_braced_by (tokens_of e text)) (errs_early (tokens_of e text) (errors_of e text))
    (alone_of rust_tables (first_op (rule_by_number r.number)) (sights_of e text (tokens_of e text))) refl refl refl
    (sym (ap (λ (b : Bool). if b then whole_exact_of r e text else None) short) ∙ h)

alone_events : (g : Tables) (rule : ℕ) (ts : List Sight) (all : List Event) → alone_of g rule ts ≡ Some all → events_of g rule ts ≡ all
alone_events g rule ts all h = by (is_alone_of g rule ts) h
  where
    by : (b : Bool) → (if b then Some (events_of g rule ts) else None) ≡ Some all → events_of g rule ts ≡ all
    by true e = some_is (events_of g rule ts) all e
    by false e = absurd (never all e)

-- ---- the law

-- events that are read alone, up to the node over all
record Splits (k : SyntaxKind) (all : List Event) : Type 0 where
  own : List Event
  is : all ≡ own ++ event.Node k 0 ∷ []

splits : SealedCallsLeaveNothing → (g : Tables) (rule target : ℕ) (k : SyntaxKind) (ts : List Sight) (all : List Event) → LooksAreShort g → IsSealedRule g rule target k
    → length ts < 2 ^ 32 → length all < 2 ^ 32 - 1 → alone_of g rule ts ≡ Some all → Splits k all
splits law g rule target k ts all looks sealed short few alone =
    let c : ReadsPiece g rule k ts all = pieces-sealed g rule target k ts all sealed alone (omega (arith, short)) few in
    let made : List Event = (returned c.call).made.events in
    let long : length all ≡ length made = ap length c.events ∙ length-reverse made in
    let l : LeavesNothing k (begin_of rule) (returned c.call) =
    law g ts k (begin_of rule) c.call looks (omega (arith, short)) (record { at = omega (arith, c.at, short); events = omega (arith, long, few) }) in
    let is : made ≡ event.Node k 0 ∷ (l.events ++ []) = ap (λ (s : State). s.made.events) l.is in
    record { own = reverse (l.events ++ []); is = c.events ∙ ap reverse is ∙ reverse-append (event.Node k 0 ∷ []) (l.events ++ []) }

pub exact_alone : SealedCallsLeaveNothing → ExactPiecesAreReadAlone
exact_alone law e text k r reading u small few chosen is =
    let x : IsExactRule k r = exact_rules k r chosen in
    let p : Passes e text r reading = passed e text r reading small is in
    let ts : List RawToken = tokens_of e text in
    let made : made_of (rule_by_number r.number) e text ≡ p.all = alone_events rust_tables (first_op (rule_by_number r.number)) (sights_of e text ts) p.all p.alone in
    let s : Splits k p.all =
    splits law rust_tables (first_op (rule_by_number r.number)) x.target k (sights_of e text ts) p.all looks_short x.rule (short_text e text u small)
    (subst (λ (es : List Event). length es < 2 ^ 32 - 1) made few) p.alone in
    let b : IsBraced ts = braced_is ts p.braced in
    record {
      own = s.own;
      alone = record {
        cut = (lexed e text u small).cut;
        sights = sights_are e text ts (lexer_known e text);
        first = lead_none ts b.0;
        last = record { front = b.1.front; last = b.1.last; is = b.1.ends; seen = plain_close b.1.last.kind b.1.is_close };
        alone = p.alone ∙ ap Some s.is;
        closes = ap (λ (es : List Event). closes_last (reverse es)) (sym s.is) ∙ p.closes;
      };
      events = made ∙ s.is;
      braced = b;
      late = p.late;
      reading_is = p.reading_is ∙ ap₂ (λ (j : SyntaxKind) (es : List Event). reading_with j text ts (errors_of e text) es) x.kind s.is;
    }

-- ---- heads

fence_is : (text : List ℕ) → has_fence_of text ≡ may_be_fence text
fence_is [] = refl
fence_is (b ∷ text) = ap (λ (x : Bool). if is_visible b then nat_eq b 45 else x) (fence_is text)

byte_is : (b : ℕ) (o : Option ℕ) → is_byte b o ≡ is_lexer_byte b o
byte_is b None = refl
byte_is b (Some c) = refl

shebang_is : (text : List ℕ) → has_shebang_of text ≡ may_be_shebang text
shebang_is text =
    ap₂ (λ (x y : Bool). x && y) (byte_is 35 (slice_get text 0))
    (ap₂ (λ (x y : Bool). x && not y) (byte_is 33 (slice_get text 1)) (byte_is 91 (slice_get text 2)))

pub heads_tested : HeadsAreTested
heads_tested text = ap (λ (x : Bool). has_shebang_of text || x) (fence_is text) ∙ ap (λ (x : Bool). x || may_be_fence text) (shebang_is text)
