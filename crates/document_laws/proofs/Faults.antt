-- The parser's errors, where an exact piece was replaced.
use Rattle.std.proofs.Common.{◌≡◌, ℕ, ◌+◌, ◌-◌, ◌<◌, ◌≤◌, ◌^◌, Bool, true, false, nat_lt, nat_le, if◌then◌else◌, Option, Some, List, [], ◌∷◌, ◌++◌, length, drop, map, ap, ap₂, ◌∙◌, refl, sym, arith}
use Rattle.std.specs.Prelude.{All, IsUtf8}
use Rattle.std.specs.List.{flat_map}
use Rattle.std.proofs.Math.Seq.{drop-append-add}
use Rattle.std.proofs.lemmas.Bool.Decides.{nat_tests}
use Rattle.std.proofs.lemmas.Grind.{flat_map-append}
use Rattle.std.proofs.lemmas.List.{length-append, map-append, drop-append-le}
use Rattle.std.proofs.lemmas.List.Concat.{flat_map-cons}
use Rattle.std.proofs.lemmas.List.Elements.{All-head, All-tail}
use Rattle.syntax_kind.specs.Kinds.{is_trivia}
use Rattle.syntax_kind.specs.declared.syntax_kind.SyntaxKind.{SyntaxKind}
use Rattle.syntax_kind.specs.declared.syntax_kind.SyntaxKind.TheVariants as kinds
use Rattle.syntax_kind.specs.declared.syntax_kind.node_kind.NodeKind.TheVariants as node
use Rattle.syntax_kind.specs.declared.syntax_kind.token_kind.TokenKind.TheVariants as token
use Rattle.text_size.specs.TextRange.{Bounds}
use Rattle.ras_front_end.specs.declared.edition.Edition.{Edition}
use Rattle.ras_front_end.specs.declared.edition.Entry.TheVariants.{SourceFile}
use Rattle.ras_front_end.specs.ErrorModel.{ErrorModel, fault_at}
use Rattle.ras_front_end.specs.Reading.{FrontStep, begins, takes, ends, reports, Reading, step_faults}
use Rattle.token_layout.specs.declared.span.Token.{Token as RawToken}
use Rattle.token_layout.specs.Laid.{IsCut}
use Rattle.token_layout.specs.Report.{report_by}
use Rattle.grammar_machine.specs.declared.event.Event.{Event}
use Rattle.grammar_machine.specs.declared.event.Event.TheVariants as event
use Rattle.event_layout.specs.declared.layout.ParserError.{ParserError}
use Rattle.event_layout.specs.Amid.{fault_amid, faults_amid}
use Rattle.event_layout.specs.Layout.{Laying, laid_of}
use Rattle.event_layout.specs.Replaced.{sights_in, LaidIn}
use Rattle.event_layout.proofs.Laying.{laid as laid_tree}
use Rattle.lexer_laws.specs.Pieces.{Opens, Closes}
use Rattle.rust_grammar.specs.Messages.{message_of}
use Rattle.rust_grammar.specs.declared.tables.rules.Rule.TheVariants as rule
use Rattle.rust_grammar.specs.Rules.{first_op}
use Rattle.rust_grammar.specs.Seeing.{sights_of}
use Rattle.rust_grammar.specs.Tables.{rust_tables}
use Rattle.rust_lexer.specs.declared.lexer.LexError.{LexError}
use Rattle.rust_lexer.specs.Lexing.{tokens_of, errors_of}
use Rattle.rust_lexer.proofs.Kept.{lexed}
use Rattle.rust_front.specs.Front.{made_with, made_of, reading_with, entry_reading, nothing_read, parsed_of}
use Rattle.rust_front.specs.Messages.{next_kind_of, kind_name_of, filled, parser_message_of, last_of, say_of}
use Rattle.rust_front.specs.Roots.{attaching_kinds}
use Rattle.ras_parsing.specs.Edit.{Edit}
use Rattle.ras_parsing.specs.Reparse.{moved, shifted}
use Rattle.ras_parsing.specs.Document.{earlier_fault, later_fault}
use Rattle.document_laws.specs.Faults.{ParserErrorsAreReplaced}
use Rattle.document_laws.specs.Inside.{IsInside}
use Rattle.document_laws.specs.Parts.{with_tokens, IsInParts}
use Rattle.document_laws.proofs.Erring.{part_len, closed_part, errs_inside}
use Rattle.document_laws.proofs.Inside.{EndsClosed}

-- ---- the errors of a reading

-- what a reading says of an error of the layout
abbrev pub said_of : List RawToken → ParserError → ErrorModel
said_of ts f = fault_at (parser_message_of f.message (last_of ts f.left)) f.position

faults_both : (es ds : List FrontStep) → step_faults (es ++ ds) ≡ step_faults es ++ step_faults ds
faults_both [] ds = refl
faults_both (begins k ∷ es) ds = faults_both es ds
faults_both (takes k n ∷ es) ds = faults_both es ds
faults_both (ends ∷ es) ds = faults_both es ds
faults_both (reports m p ∷ es) ds = ap (λ l. fault_at m p ∷ l) (faults_both es ds)

reported : (ts : List RawToken) (fs : List ParserError) → step_faults (map (report_by (say_of ts)) fs) ≡ map (said_of ts) fs
reported ts [] = refl
reported ts (f ∷ fs) = ap (λ (l : List ErrorModel). said_of ts f ∷ l) (reported ts fs)

pub reading_faults : (root : SyntaxKind) (text : List ℕ) (ts : List RawToken) (errors : List LexError) (es : List Event) → length text < 2 ^ 32 → IsCut ts text
    → step_faults (reading_with root text ts errors es).steps ≡ map (said_of ts) (laid_of root attaching_kinds text ts es).faults
unfolding reading_with
reading_faults root text ts errors es small cut =
    let s : Laying = laid_of root attaching_kinds text ts es in
    faults_both s.steps (map (report_by (say_of ts)) s.faults)
    ∙ ap (λ (l : List ErrorModel). l ++ step_faults (map (report_by (say_of ts)) s.faults)) (laid_tree root attaching_kinds text ts es small cut).no_faults
    ∙ reported ts s.faults

pub parsed_is : (e : Edition) (text : List ℕ) → length text < 2 ^ 32
    → parsed_of SourceFile e text ≡ reading_with (kinds.Node node.SOURCE_FILE) text (tokens_of e text) (errors_of e text) (made_of rule.SourceFile e text)
unfolding parsed_of
parsed_is e text small =
    let short : nat_lt (length text) (2 ^ 32) ≡ true = grind (arith, nat_tests, small) in
    ap (λ (b : Bool). if b then entry_reading SourceFile e text (made_of rule.SourceFile e text) else nothing_read) short

pub parsed_faults : (e : Edition) (text : List ℕ) → IsUtf8 text → length text < 2 ^ 32
    → step_faults (parsed_of SourceFile e text).steps
    ≡ map (said_of (tokens_of e text)) (laid_of (kinds.Node node.SOURCE_FILE) attaching_kinds text (tokens_of e text) (made_of rule.SourceFile e text)).faults
parsed_faults e text u small =
    ap (λ (x : Reading). step_faults x.steps) (parsed_is e text small)
    ∙ reading_faults (kinds.Node node.SOURCE_FILE) text (tokens_of e text) (errors_of e text) (made_of rule.SourceFile e text) small (lexed e text u small).cut

-- ---- the next token of a message

pub next_more : (x : RawToken) (xs ys : List RawToken) (b : Bool) → is_trivia x.kind ≡ b → next_kind_of xs ≡ next_kind_of ys
    → (if b then next_kind_of xs else Some x.kind) ≡ (if b then next_kind_of ys else Some x.kind)
next_more x xs ys true e h = h
next_more x xs ys false e h = refl

-- before other tokens
next_both : (xs ys zs : List RawToken) → next_kind_of ys ≡ next_kind_of zs → next_kind_of (xs ++ ys) ≡ next_kind_of (xs ++ zs)
next_both [] ys zs h = h
next_both (x ∷ xs) ys zs h = next_more x (xs ++ ys) (xs ++ zs) (is_trivia x.kind) refl (next_both xs ys zs h)

next_first : (t : RawToken) (ts : List RawToken) → is_trivia t.kind ≡ false → next_kind_of (t ∷ ts) ≡ Some t.kind
next_first t ts e = ap (λ (b : Bool). if b then next_kind_of ts else Some t.kind) e

-- up to a token that is seen
next_stops : (xs ys : List RawToken) (t : RawToken) → is_trivia t.kind ≡ false → next_kind_of ((xs ++ t ∷ []) ++ ys) ≡ next_kind_of (xs ++ t ∷ [])
next_stops [] ys t e = next_first t ys e ∙ sym (next_first t [] e)
next_stops (x ∷ xs) ys t e = next_more x ((xs ++ t ∷ []) ++ ys) (xs ++ t ∷ []) (is_trivia x.kind) refl (next_stops xs ys t e)

open_seen : (k : SyntaxKind) → k ≡ kinds.Token token.L_CURLY → is_trivia k ≡ false
open_seen k h = ap is_trivia h

close_seen : (k : SyntaxKind) → k ≡ kinds.Token token.R_CURLY → is_trivia k ≡ false
close_seen k h = ap is_trivia h

next_open : (ts us : List RawToken) → Opens ts → next_kind_of (ts ++ us) ≡ Some (kinds.Token token.L_CURLY)
next_open ts us o =
    ap (λ (xs : List RawToken). next_kind_of (xs ++ us)) o.begins ∙ next_first o.first (o.rest ++ us) (open_seen o.first.kind o.is_open)
    ∙ ap (λ (k : SyntaxKind). Some k) o.is_open

tokens_len : (xs ys zs : List RawToken) → length (xs ++ (ys ++ zs)) ≡ length xs + (length ys + length zs)
tokens_len xs ys zs = omega (arith, length-append xs (ys ++ zs), length-append ys zs)

-- an error before the piece, with m more tokens left
left_before : (ts vs : List RawToken) (l m : ℕ) → m ≡ length vs → last_of (ts ++ vs) (l + m) ≡ drop (length ts - l) ts ++ vs
left_before ts vs l m e =
    let n : length (ts ++ vs) - (l + m) ≡ length ts - l = omega (arith, e, length-append ts vs) in
    ap (λ (i : ℕ). drop i (ts ++ vs)) n ∙ drop-append-le (length ts - l) ts vs (omega arith)

next_before : (ts tw tq us : List RawToken) (l : ℕ) → Opens tw → Opens tq
    → next_kind_of (last_of (ts ++ (tw ++ us)) (l + length (tw ++ us))) ≡ next_kind_of (last_of (ts ++ (tq ++ us)) (l + length (tq ++ us)))
next_before ts tw tq us l o p =
    ap next_kind_of (left_before ts (tw ++ us) l (length (tw ++ us)) refl)
    ∙ next_both (drop (length ts - l) ts) (tw ++ us) (tq ++ us) (next_open tw us o ∙ sym (next_open tq us p))
    ∙ sym (ap next_kind_of (left_before ts (tq ++ us) l (length (tq ++ us)) refl))

-- an error of the piece
next_inside : (ts tq us : List RawToken) (l : ℕ) → Closes tq → 0 < l → l ≤ length tq
    → next_kind_of (last_of (ts ++ (tq ++ us)) (l + length us)) ≡ next_kind_of (last_of tq l)
next_inside ts tq us l z some most =
    let j : ℕ = length tq - l in
    let front : List RawToken = z.front in
    let n : length (ts ++ (tq ++ us)) - (l + length us) ≡ length ts + j = omega (arith, tokens_len ts tq us, most) in
    let long : length tq ≡ length front + 1 = ap length z.ends ∙ length-append front (z.last ∷ []) in
    let own : drop j tq ≡ drop j front ++ z.last ∷ [] = ap (drop j) z.ends ∙ drop-append-le j front (z.last ∷ []) (omega (arith, long, some)) in
    let whole : last_of (ts ++ (tq ++ us)) (l + length us) ≡ (drop j front ++ z.last ∷ []) ++ us =
    ap (λ (i : ℕ). drop i (ts ++ (tq ++ us))) n ∙ drop-append-add ts (tq ++ us) j ∙ drop-append-le j tq us (omega arith)
    ∙ ap (λ (xs : List RawToken). xs ++ us) own in
    ap next_kind_of whole ∙ next_stops (drop j front) us z.last (close_seen z.last.kind z.is_close) ∙ sym (ap next_kind_of own)

-- an error behind the piece
left_behind : (ts tw us : List RawToken) (l : ℕ) → l ≤ length us → last_of (ts ++ (tw ++ us)) (l + 0) ≡ drop (length us - l) us
left_behind ts tw us l most =
    let n : length (ts ++ (tw ++ us)) - (l + 0) ≡ length ts + (length tw + (length us - l)) = omega (arith, tokens_len ts tw us, most) in
    ap (λ (i : ℕ). drop i (ts ++ (tw ++ us))) n ∙ drop-append-add ts (tw ++ us) (length tw + (length us - l))
    ∙ drop-append-add tw us (length us - l)

pub message_same : (m : ℕ) (xs ys : List RawToken) → next_kind_of xs ≡ next_kind_of ys → parser_message_of m xs ≡ parser_message_of m ys
message_same m xs ys h = ap (λ (o : Option SyntaxKind). filled (kind_name_of o) (message_of m)) h

-- ---- which errors are put in order

pub at_most : (m n : ℕ) → m ≤ n → nat_le m n ≡ true
at_most m n h = grind (arith, nat_tests, h)

pub more_than : (m n : ℕ) → n < m → nat_le m n ≡ false
more_than m n h = grind (arith, nat_tests, h)

abbrev pub by_edit : Edit → ErrorModel → ErrorModel
by_edit edit f = record { message = f.message; range = record { start = shifted edit f.range.start; end = shifted edit f.range.end } }

pub is_earlier : (b : Bounds) (f : ErrorModel) → f.range.end ≤ b.start → earlier_fault b f ≡ f ∷ []
is_earlier b f h = ap (λ (x : Bool). if x then f ∷ [] else []) (at_most f.range.end b.start h)

pub not_earlier : (b : Bounds) (f : ErrorModel) → b.start < f.range.end → earlier_fault b f ≡ []
not_earlier b f h = ap (λ (x : Bool). if x then f ∷ [] else []) (more_than f.range.end b.start h)

pub is_later : (b : Bounds) (edit : Edit) (f : ErrorModel) → b.end ≤ f.range.start → later_fault b edit f ≡ by_edit edit f ∷ []
is_later b edit f h = ap (λ (x : Bool). if x then by_edit edit f ∷ [] else []) (at_most b.end f.range.start h)

pub not_later : (b : Bounds) (edit : Edit) (f : ErrorModel) → f.range.start < b.end → later_fault b edit f ≡ []
not_later b edit f h = ap (λ (x : Bool). if x then by_edit edit f ∷ [] else []) (more_than b.end f.range.start h)

-- each of the errors becomes one, or none
pub all_one : (P : ParserError → Type 0) (g : ErrorModel → List ErrorModel) (x y : ParserError → ErrorModel) → ((f : ParserError) → P f → g (x f) ≡ y f ∷ [])
    → (fs : List ParserError) → All P fs → flat_map g (map x fs) ≡ map y fs
all_one P g x y h [] p = refl
all_one P g x y h (f ∷ fs) p =
    flat_map-cons g (x f) (map x fs)
    ∙ ap₂ (λ (xs ys : List ErrorModel). xs ++ ys) (h f (All-head P f fs p)) (all_one P g x y h fs (All-tail P f fs p))

pub all_none : (P : ParserError → Type 0) (g : ErrorModel → List ErrorModel) (x : ParserError → ErrorModel) → ((f : ParserError) → P f → g (x f) ≡ [])
    → (fs : List ParserError) → All P fs → flat_map g (map x fs) ≡ []
all_none P g x h [] p = refl
all_none P g x h (f ∷ fs) p =
    flat_map-cons g (x f) (map x fs)
    ∙ ap₂ (λ (xs ys : List ErrorModel). xs ++ ys) (h f (All-head P f fs p)) (all_none P g x h fs (All-tail P f fs p))

all_same : (P : ParserError → Type 0) (x y : ParserError → ErrorModel) → ((f : ParserError) → P f → x f ≡ y f)
    → (fs : List ParserError) → All P fs → map x fs ≡ map y fs
all_same P x y h [] p = refl
all_same P x y h (f ∷ fs) p =
    ap₂ (λ (z : ErrorModel) (zs : List ErrorModel). z ∷ zs) (h f (All-head P f fs p)) (all_same P x y h fs (All-tail P f fs p))

map_map : (x : ParserError → ErrorModel) (y : ParserError → ParserError) (fs : List ParserError) → map x (map y fs) ≡ map (λ f. x (y f)) fs
map_map x y [] = refl
map_map x y (f ∷ fs) = ap (λ (zs : List ErrorModel). x (y f) ∷ zs) (map_map x y fs)

moved_map : (n : ℕ) (x : ParserError → ErrorModel) (fs : List ParserError) → map (moved n) (map x fs) ≡ map (λ f. moved n (x f)) fs
moved_map n x [] = refl
moved_map n x (f ∷ fs) = ap (λ (zs : List ErrorModel). moved n (x f) ∷ zs) (moved_map n x fs)

fault_same : (m n : List ℕ) (p q : ℕ) → m ≡ n → p ≡ q → fault_at m p ≡ fault_at n q
fault_same m n p q e f = ap₂ (λ (l : List ℕ) (i : ℕ). fault_at l i) e f

-- ---- the law

-- the errors of the layout, as those of the whole text say them
abbrev said_amid : List RawToken → ℕ → ℕ → ParserError → ErrorModel
said_amid ts bytes tokens f = said_of ts (fault_amid bytes tokens f)

three_said : (ts : List RawToken) (n b m d o : ℕ) (fs gs hs : List ParserError)
    → map (said_of ts) (faults_amid 0 n fs ++ (faults_amid b m gs ++ faults_amid d o hs))
    ≡ map (said_amid ts 0 n) fs ++ (map (said_amid ts b m) gs ++ map (said_amid ts d o) hs)
three_said ts n b m d o fs gs hs =
    map-append (said_of ts) (faults_amid 0 n fs) (faults_amid b m gs ++ faults_amid d o hs)
    ∙ ap₂ (λ (xs ys : List ErrorModel). xs ++ ys) (map_map (said_of ts) (fault_amid 0 n) fs)
    (map-append (said_of ts) (faults_amid b m gs) (faults_amid d o hs)
    ∙ ap₂ (λ (xs ys : List ErrorModel). xs ++ ys) (map_map (said_of ts) (fault_amid b m) gs) (map_map (said_of ts) (fault_amid d o) hs))

three_flat : (g : ErrorModel → List ErrorModel) (xs ys zs : List ErrorModel) → flat_map g (xs ++ (ys ++ zs)) ≡ flat_map g xs ++ (flat_map g ys ++ flat_map g zs)
three_flat g xs ys zs = flat_map-append g xs (ys ++ zs) ∙ ap (λ (l : List ErrorModel). flat_map g xs ++ l) (flat_map-append g ys zs)

none_behind : (xs ys zs : List ErrorModel) → ys ≡ [] → zs ≡ [] → xs ++ (ys ++ zs) ≡ xs
none_behind xs ys zs e f = ap₂ (λ (k l : List ErrorModel). xs ++ (k ++ l)) e f ∙ append_none xs
  where
    append_none : (xs : List ErrorModel) → xs ++ [] ≡ xs
    append_none [] = refl
    append_none (x ∷ xs) = ap (λ (l : List ErrorModel). x ∷ l) (append_none xs)

none_before : (xs ys zs : List ErrorModel) → xs ≡ [] → ys ≡ [] → xs ++ (ys ++ zs) ≡ zs
none_before xs ys zs e f = ap₂ (λ (k l : List ErrorModel). k ++ (l ++ zs)) e f

-- the errors of a text that is laid around a piece
whole_faults : (e : Edition) (a w c : List ℕ) (ts us : List RawToken) (k : SyntaxKind) (es : List Event) (before behind : List FrontStep) (fs hs : List ParserError)
    → IsInParts e a w c ts us
    → sights_of e (a ++ (w ++ c)) (tokens_of e (a ++ (w ++ c))) ≡ sights_in (with_tokens e a ts) (with_tokens e w (tokens_of e w)) (with_tokens e c us)
    → LaidIn (kinds.Node node.SOURCE_FILE) k attaching_kinds rust_tables (first_op rule.SourceFile) (with_tokens e a ts) (with_tokens e w (tokens_of e w)) (with_tokens e c us) es before behind fs hs
    → step_faults (parsed_of SourceFile e (a ++ (w ++ c))).steps
    ≡ map (said_amid (ts ++ (tokens_of e w ++ us)) 0 (length (tokens_of e w ++ us))) fs
    ++ (map (said_amid (ts ++ (tokens_of e w ++ us)) (length a) (length us)) (laid_of k attaching_kinds w (tokens_of e w) (es ++ event.Node k 0 ∷ [])).faults
    ++ map (said_amid (ts ++ (tokens_of e w ++ us)) (length (a ++ w)) 0) hs)
whole_faults e a w c ts us k es before behind fs hs i sights l =
    let text : List ℕ = a ++ (w ++ c) in
    let all : List RawToken = ts ++ (tokens_of e w ++ us) in
    parsed_faults e text i.is_text i.short
    ∙ ap₂ (λ (xs : List RawToken) (s : List Event). map (said_of xs) (laid_of (kinds.Node node.SOURCE_FILE) attaching_kinds text xs s).faults) i.tokens (ap (made_with rule.SourceFile) sights)
    ∙ ap (map (said_of all)) l.faults
    ∙ three_said all (length (tokens_of e w ++ us)) (length a) (length us) (length (a ++ w)) 0 fs (laid_of k attaching_kinds w (tokens_of e w) (es ++ event.Node k 0 ∷ [])).faults hs

pub errors_replaced : ParserErrorsAreReplaced
errors_replaced e a w q c ts us k r was now edit i x y d chosen few few_new shift =
    let j : IsInParts e a q c ts us = d.new in
    let short = i.short in
    let new_short = j.short in
    let tw : List RawToken = tokens_of e w in
    let tq : List RawToken = tokens_of e q in
    let old_all : List RawToken = ts ++ (tw ++ us) in
    let new_all : List RawToken = ts ++ (tq ++ us) in
    let fs : List ParserError = d.laid.faults_before in
    let hs : List ParserError = d.laid.faults_behind in
    let own : List ParserError = (laid_of k attaching_kinds w tw (x.own ++ event.Node k 0 ∷ [])).faults in
    let new_own : List ParserError = (laid_of k attaching_kinds q tq (y.own ++ event.Node k 0 ∷ [])).faults in
    let b : Bounds = record { start = length a; end = length (a ++ w) } in
    let z : EndsClosed w tw = closed_part e a w c ts us i in
    let some : 0 < length w = omega (arith, ap length z.parts, length-append z.before (125 ∷ [])) in
    let long : length (a ++ w) ≡ length a + length w = length-append a w in
    let inside : All (IsInside (length w) (length tw)) own = errs_inside e a w c ts us k r was i x chosen few in
    let new_inside : All (IsInside (length q) (length tq)) new_own = errs_inside e a q c ts us k r now j y chosen few_new in
    let was_laid = d.laid.was in
    let now_laid = d.laid.now in
    let old : List ErrorModel = step_faults (parsed_of SourceFile e (a ++ (w ++ c))).steps in
    let one : List ErrorModel = map (said_amid old_all 0 (length (tw ++ us))) fs in
    let two : List ErrorModel = map (said_amid old_all (length a) (length us)) own in
    let three : List ErrorModel = map (said_amid old_all (length (a ++ w)) 0) hs in
    let old_is : old ≡ one ++ (two ++ three) =
    whole_faults e a w c ts us k x.own d.laid.before d.laid.behind fs hs i d.sights was_laid in
    let new_is : step_faults (parsed_of SourceFile e (a ++ (q ++ c))).steps
    ≡ map (said_amid new_all 0 (length (tq ++ us))) fs ++ (map (said_amid new_all (length a) (length us)) new_own ++ map (said_amid new_all (length (a ++ q)) 0) hs) =
    whole_faults e a q c ts us k y.own d.laid.before d.laid.behind fs hs j d.new_sights now_laid in
    -- before
    let P : ParserError → Type 0 = λ f. f.position ≤ length a in
    let before : flat_map (earlier_fault b) one ≡ map (said_amid new_all 0 (length (tq ++ us))) fs =
    all_one P (earlier_fault b) (said_amid old_all 0 (length (tw ++ us))) (said_amid new_all 0 (length (tq ++ us)))
    (λ f p. is_earlier b (said_amid old_all 0 (length (tw ++ us)) f) (omega (arith, p))
    ∙ ap (λ (m : List ℕ). fault_at m (f.position + 0) ∷ [])
    (message_same f.message (last_of old_all (f.left + length (tw ++ us))) (last_of new_all (f.left + length (tq ++ us))) (next_before ts tw tq us f.left i.braced.0 j.braced.0)))
    fs was_laid.lie_before in
    let not_before : flat_map (earlier_fault b) two ≡ [] =
    all_none (IsInside (length w) (length tw)) (earlier_fault b) (said_amid old_all (length a) (length us))
    (λ f p. let low = p.low in not_earlier b (said_amid old_all (length a) (length us) f) (omega (arith, low))) own inside in
    let L : ParserError → Type 0 = λ f. f.left ≤ length us in
    let not_first : flat_map (earlier_fault b) three ≡ [] =
    all_none L (earlier_fault b) (said_amid old_all (length (a ++ w)) 0)
    (λ f p. not_earlier b (said_amid old_all (length (a ++ w)) 0 f) (omega (arith, long, some))) hs was_laid.lie_behind in
    -- behind
    let not_last : flat_map (later_fault b edit) one ≡ [] =
    all_none P (later_fault b edit) (said_amid old_all 0 (length (tw ++ us)))
    (λ f p. not_later b edit (said_amid old_all 0 (length (tw ++ us)) f) (omega (arith, p, long, some))) fs was_laid.lie_before in
    let not_behind : flat_map (later_fault b edit) two ≡ [] =
    all_none (IsInside (length w) (length tw)) (later_fault b edit) (said_amid old_all (length a) (length us))
    (λ f p. let high = p.high in not_later b edit (said_amid old_all (length a) (length us) f) (omega (arith, high, long))) own inside in
    let behind : flat_map (later_fault b edit) three ≡ map (said_amid new_all (length (a ++ q)) 0) hs =
    all_one L (later_fault b edit) (said_amid old_all (length (a ++ w)) 0) (said_amid new_all (length (a ++ q)) 0)
    (λ f p.
    let at : shifted edit (f.position + length (a ++ w)) ≡ f.position + length (a ++ q) =
    ap (shifted edit) (swap f.position (length (a ++ w))) ∙ shift f.position ∙ swap (length (a ++ q)) f.position in
    is_later b edit (said_amid old_all (length (a ++ w)) 0 f) (omega arith)
    ∙ ap (λ (g : ErrorModel). g ∷ [])
    (fault_same (parser_message_of f.message (last_of old_all (f.left + 0))) (parser_message_of f.message (last_of new_all (f.left + 0)))
    (shifted edit (f.position + length (a ++ w))) (f.position + length (a ++ q))
    (ap (parser_message_of f.message) (left_behind ts tw us f.left p ∙ sym (left_behind ts tq us f.left p))) at))
    hs was_laid.lie_behind in
    -- the new piece
    let few_bytes : length q < 2 ^ 32 = omega (arith, new_short, part_len a q c) in
    let now_faults : step_faults now.steps ≡ map (said_of tq) new_own =
    ap (λ (g : Reading). step_faults g.steps) y.reading_is
    ∙ reading_faults k q tq (errors_of e q) (y.own ++ event.Node k 0 ∷ []) few_bytes (lexed e q j.is_part few_bytes).cut in
    let here : map (moved (length a)) (step_faults now.steps) ≡ map (said_amid new_all (length a) (length us)) new_own =
    ap (map (moved (length a))) now_faults ∙ moved_map (length a) (said_of tq) new_own
    ∙ all_same (IsInside (length q) (length tq)) (λ f. moved (length a) (said_of tq f)) (said_amid new_all (length a) (length us))
    (λ f p. let low = p.few in let high = p.many in
    ap (λ (m : List ℕ). fault_at m (f.position + length a))
    (sym (message_same f.message (last_of new_all (f.left + length us)) (last_of tq f.left) (next_inside ts tq us f.left j.braced.1 low high))))
    new_own new_inside in
    let first : flat_map (earlier_fault b) old ≡ map (said_amid new_all 0 (length (tq ++ us))) fs =
    ap (flat_map (earlier_fault b)) old_is ∙ three_flat (earlier_fault b) one two three
    ∙ none_behind (flat_map (earlier_fault b) one) (flat_map (earlier_fault b) two) (flat_map (earlier_fault b) three) not_before not_first ∙ before in
    let last : flat_map (later_fault b edit) old ≡ map (said_amid new_all (length (a ++ q)) 0) hs =
    ap (flat_map (later_fault b edit)) old_is ∙ three_flat (later_fault b edit) one two three
    ∙ none_before (flat_map (later_fault b edit) one) (flat_map (later_fault b edit) two) (flat_map (later_fault b edit) three) not_last not_behind ∙ behind in
    new_is ∙ sym (ap₂ (λ (l m : List ErrorModel). l ++ m) first (ap₂ (λ (l m : List ErrorModel). l ++ m) here last))
  where
    swap : (m n : ℕ) → m + n ≡ n + m
    swap m n = omega arith
