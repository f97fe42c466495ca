-- Where the pieces of a text of Rust begin.
use Rattle.std.proofs.Common.{◌≡◌, ℕ, zero, suc, min, ◌+◌, ◌-◌, ◌<◌, ◌≤◌, ◌^◌, Bool, true, false, not, ◌&&◌, nat_lt, nat_eq, if◌then◌else◌, List, [], ◌∷◌, ◌++◌, length, take, drop, ap, ◌∙◌, refl, subst, sym, arith}
use Rattle.std.specs.Prelude.{Option, Some, None, slice_get, reverse, All, IsUtf8}
use Rattle.std.specs.List.{list_all}
use Rattle.std.proofs.Math.Seq.{take-append_seam, drop-append_seam}
use Rattle.std.proofs.lemmas.Bool.{and_parts}
use Rattle.std.proofs.lemmas.List.Elements.{All-head, All-tail}
use Rattle.std.proofs.lemmas.List.{length-append, length-reverse, length-take}
use Rattle.syntax_kind.specs.declared.syntax_kind.SyntaxKind.{SyntaxKind}
use Rattle.syntax_kind.specs.declared.syntax_kind.SyntaxKind.TheVariants as kinds
use Rattle.syntax_kind.specs.declared.syntax_kind.token_kind.TokenKind.TheVariants as token
use Rattle.syntax_kind.specs.declared.syntax_kind.node_kind.NodeKind.TheVariants as node
use Rattle.syntax_kind.specs.Kinds.{kind_raw}
use Rattle.syntax_kind.specs.KindLaws.{kind_raw-injective}
use Rattle.tree_model.specs.Tree.{Tree, Place, start}
use Rattle.ras_front_end.specs.declared.edition.Edition.{Edition}
use Rattle.ras_front_end.specs.declared.edition.Reparser.{Reparser}
use Rattle.ras_front_end.specs.Reading.{takes}
use Rattle.token_layout.specs.declared.span.Token.{Token as RawToken}
use Rattle.grammar_machine.specs.declared.event.Event.{Event}
use Rattle.grammar_machine.specs.declared.event.Event.TheVariants as event
use Rattle.grammar_machine.specs.declared.grammar.Sight.{Sight}
use Rattle.grammar_machine.specs.Exchanging.{CallsMakeTheirOwn}
use Rattle.grammar_machine.specs.Framing.{moved_events}
use Rattle.grammar_machine.specs.Running.{State, kind_or, kind_of}
use Rattle.event_layout.specs.Amid.{first_len, sum_len}
use Rattle.event_layout.specs.Finding.{AreSightsOf}
use Rattle.event_layout.specs.Layout.{root_of}
use Rattle.event_layout.specs.Made.{Left, past, trivia_of, only_tokens, made_from}
use Rattle.event_layout.proofs.Filled.{cut_sum}
use Rattle.lexer_laws.specs.Cuts.{bytes_of}
use Rattle.rust_front.specs.Exact.{is_open}
use Rattle.rust_front.specs.Roots.{attaching_kinds}
use Rattle.rust_grammar.specs.declared.tables.rules.Rule.TheVariants as rule
use Rattle.rust_grammar.specs.Rules.{first_op}
use Rattle.rust_grammar.specs.Seeing.{byte_or_0, in_tables, number_of, finer_of, sights_of}
use Rattle.rust_grammar.specs.Tables.{rust_tables}
use Rattle.rust_lexer.specs.Laws.{HasBytes, IsLexed}
use Rattle.rust_lexer.specs.Lexing.{tokens_of}
use Rattle.rust_lexer.proofs.Kept.{lexed}
use Rattle.document_laws.specs.Begun.{BeginsWithSight}
use Rattle.document_laws.specs.Calls.{IsOfCall}
use Rattle.document_laws.specs.Leaving.{LeavesTokens}
use Rattle.document_laws.specs.Nodes.{made_left}
use Rattle.document_laws.specs.Opening.{OpensThere, PiecesOpenAtTheirBraces}
use Rattle.document_laws.specs.Own.{before_call, HasOwn}
use Rattle.document_laws.specs.Pieces.{events_in, IsCalledPiece}
use Rattle.document_laws.specs.Tables.{IsExactRule}
use Rattle.document_laws.proofs.Begun.{calls_begin}
use Rattle.document_laws.proofs.Knowns.{lexer_known}
use Rattle.document_laws.proofs.Near.{runs_leave, some_left}
use Rattle.document_laws.proofs.Owning.{short_text, pieces_own}
use Rattle.document_laws.proofs.Piecing.{called_there, laid_tree, plain_events}
use Rattle.document_laws.proofs.Sights.{IsFine, sights_fine, FirstHas, first_has, sights_are}
use Rattle.document_laws.proofs.Starting.{Starts, node_starts, first_made}
use Rattle.document_laws.proofs.Tabling.{only_calls, exact_rules}

-- ---- the tables have `{` once

-- only number n of the list passes the test
abbrev only_at : {A : Type 0} → (A → Bool) → List A → ℕ → Bool
only_at test [] n = true
only_at test (x ∷ xs) zero = list_all (λ y. not (test y)) xs
only_at test (x ∷ xs) (suc n) = not (test x) && only_at test xs n

no : false ≡ true → ⊥
no h = cc

not_both : (a : Bool) → not a ≡ true → a ≡ true → ⊥
not_both true h k = no h
not_both false h k = no k

same : {A : Type 0} (x y : A) → Some x ≡ Some y → x ≡ y
same x y e = cc

none_passes : {A : Type 0} (test : A → Bool) (xs : List A) (i : ℕ) (x : A) → list_all (λ y. not (test y)) xs ≡ true → slice_get xs i ≡ Some x → test x ≡ true → ⊥
none_passes test [] i x h e p = (let bad : None ≡ Some x = e in cc)
none_passes test (y ∷ xs) zero x h e p = not_both (test y) (and_parts (not (test y)) (list_all (λ z. not (test z)) xs) h).0 (ap test (same y x e) ∙ p)
none_passes test (y ∷ xs) (suc i) x h e p = none_passes test xs i x (and_parts (not (test y)) (list_all (λ z. not (test z)) xs) h).1 e p

found_at : {A : Type 0} (test : A → Bool) (xs : List A) (n i : ℕ) (x : A) → only_at test xs n ≡ true → slice_get xs i ≡ Some x → test x ≡ true → i ≡ n
found_at test [] n i x h e p = absurd (let bad : None ≡ Some x = e in cc)
found_at test (y ∷ xs) zero zero x h e p = refl
found_at test (y ∷ xs) zero (suc i) x h e p = absurd (none_passes test xs i x h e p)
found_at test (y ∷ xs) (suc n) zero x h e p =
    absurd (not_both (test y) (and_parts (not (test y)) (only_at test xs n) h).0 (ap test (same y x e) ∙ p))
found_at test (y ∷ xs) (suc n) (suc i) x h e p = ap suc (found_at test xs n i x (and_parts (not (test y)) (only_at test xs n) h).1 e p)

one_kind : only_at is_open rust_tables.kinds 20 ≡ true
unfolding rust_tables
one_kind = refl

kind_found : (i : ℕ) (o : Option SyntaxKind) → slice_get rust_tables.kinds i ≡ o → kind_or o ≡ kinds.Token token.L_CURLY → i ≡ 20
kind_found i None e h = absurd (no (ap is_open h))
kind_found i (Some k) e h = found_at is_open rust_tables.kinds 20 i k one_kind e (ap is_open h)

abbrev is_20 : ℕ → Bool
is_20 b = nat_eq b 20

number_at : (xs : List ℕ) (i : ℕ) (o : Option ℕ) → only_at is_20 xs 18 ≡ true → slice_get xs i ≡ o → byte_or_0 o ≡ 20 → i ≡ 18
number_at xs i None f e h = absurd (omega (arith, h))
number_at xs i (Some b) f e h = found_at is_20 xs 18 i b f e (ap is_20 h)

no_other : (xs : List ℕ) (i : ℕ) (o : Option ℕ) → list_all (λ b. not (is_20 b)) xs ≡ true → slice_get xs i ≡ o → byte_or_0 o ≡ 20 → ⊥
no_other xs i None f e h = omega (arith, h)
no_other xs i (Some b) f e h = none_passes is_20 xs i b f e (ap is_20 h)

number_in : (named others : List ℕ) (k : SyntaxKind) → in_tables named others k ≡ 20 → only_at is_20 named 18 ≡ true → list_all (λ b. not (is_20 b)) others ≡ true → k ≡ kinds.Token token.L_CURLY
number_in named others k h one none = by (nat_lt (kind_raw k) 65536) h
  where
    by : (b : Bool) → (if b then byte_or_0 (slice_get named (kind_raw k)) else byte_or_0 (slice_get others (kind_raw k - 65536))) ≡ 20 → k ≡ kinds.Token token.L_CURLY
    by true q = kind_raw-injective k (kinds.Token token.L_CURLY) (number_at named (kind_raw k) (slice_get named (kind_raw k)) one refl q)
    by false q = absurd (no_other others (kind_raw k - 65536) (slice_get others (kind_raw k - 65536)) none refl q)

-- the tables of numbers, which their crate does not export
abbrev token_numbers : List ℕ
token_numbers =
    0 ∷ 0 ∷ 12 ∷ 13 ∷ 2 ∷ 3 ∷ 4 ∷ 5 ∷ 6 ∷ 7 ∷ 8 ∷ 9 ∷ 10 ∷ 11 ∷ 16 ∷ 17 ∷ 18 ∷ 19 ∷ 20 ∷ 21 ∷ 22 ∷ 23 ∷ 24 ∷ 25 ∷ 26 ∷
    27 ∷ 28 ∷ 29 ∷ 30 ∷ 31 ∷ 32 ∷ 33 ∷ 34 ∷ 35 ∷ 36 ∷ 37 ∷ 43 ∷ 38 ∷ 0 ∷ 0 ∷ 0 ∷ 39 ∷ 0 ∷ 40 ∷ 0 ∷ 0 ∷ 41 ∷ 0 ∷ 42 ∷ 0 ∷
    0 ∷ 0 ∷ 0 ∷ 0 ∷ 0 ∷ 0 ∷ 0 ∷ 0 ∷ 0 ∷ 0 ∷ 0 ∷ 0 ∷ 0 ∷ 0 ∷ 0 ∷ 0 ∷ 46 ∷ 91 ∷ 0 ∷ 92 ∷ 47 ∷ 0 ∷ 49 ∷ 0 ∷ 50 ∷ 51 ∷ 52 ∷
    0 ∷ 53 ∷ 93 ∷ 54 ∷ 55 ∷ 56 ∷ 57 ∷ 59 ∷ 60 ∷ 94 ∷ 61 ∷ 62 ∷ 63 ∷ 64 ∷ 65 ∷ 66 ∷ 0 ∷ 67 ∷ 68 ∷ 69 ∷ 70 ∷ 73 ∷ 74 ∷
    75 ∷ 76 ∷ 44 ∷ 77 ∷ 78 ∷ 79 ∷ 80 ∷ 81 ∷ 95 ∷ 82 ∷ 0 ∷ 84 ∷ 86 ∷ 88 ∷ 89 ∷ 0 ∷ 90 ∷ []

abbrev other_numbers : List ℕ
other_numbers =
    15 ∷ 14 ∷ 45 ∷ 48 ∷ 58 ∷ 71 ∷ 72 ∷ 83 ∷ 85 ∷ 87 ∷ []

numbers_are : (k : SyntaxKind) → number_of k ≡ in_tables token_numbers other_numbers k
numbers_are k = refl

number_found : (k : SyntaxKind) → number_of k ≡ 20 → k ≡ kinds.Token token.L_CURLY
number_found k h = number_in token_numbers other_numbers k (sym (numbers_are k) ∙ h) refl refl

-- ---- the piece

pub record SomeAt (ss : List Sight) (i : ℕ) : Type 0 where
  pub sight : Sight
  pub there : slice_get ss i ≡ Some sight

pub some_at : (ss : List Sight) (i : ℕ) → i < length ss → SomeAt ss i
some_at [] i h = absurd (omega (arith, h))
some_at (s ∷ ss) zero h = record { sight = s; there = refl }
some_at (s ∷ ss) (suc i) h = (let w : SomeAt ss i = some_at ss i (omega (arith, h)) in record { sight = w.sight; there = w.there })

pub bytes_are : (ts : List RawToken) → bytes_of ts ≡ sum_len ts
bytes_are [] = refl
bytes_are (t ∷ ts) = ap (λ (n : ℕ). t.len + n) (bytes_are ts)

pub sum_both : (xs ys : List RawToken) → sum_len (xs ++ ys) ≡ sum_len xs + sum_len ys
sum_both [] ys = omega arith
sum_both (x ∷ xs) ys = omega (arith, sum_both xs ys)

all_behind : (xs ys : List RawToken) → All HasBytes (xs ++ ys) → All HasBytes ys
all_behind [] ys h = h
all_behind (x ∷ xs) ys h = all_behind xs ys (All-tail HasBytes x (xs ++ ys) h)

some_text : (a b c d : ℕ) → 0 < a → b ≡ a → b ≤ c → d ≡ c → 0 < d
some_text a b c d h e l f = omega (arith, h, e, l, f)

cut_at : (x f s b a n : ℕ) → x ≡ f → s + b ≡ n → a ≡ f + b → a ≡ n → x ≡ s
cut_at x f s b a n h i j k = omega (arith, h, i, j, k)

abbrev sights_in : Edition → List ℕ → List Sight
sights_in e text = sights_of e text (tokens_of e text)

abbrev StartsIn : Edition → List ℕ → Tree → Place → SyntaxKind → List ℕ → Type 0
StartsIn e text t p k w = Starts (kinds.Node node.SOURCE_FILE) attaching_kinds text (tokens_of e text) (events_in e text) t p k (kinds.Token token.L_CURLY) w

abbrev CalledIn : Edition → List ℕ → SyntaxKind → ℕ → ℕ → Type 0
CalledIn e text k from n = IsOfCall rust_tables (sights_in e text) (first_op rule.SourceFile) k from (reverse (take n (events_in e text)))

open_with : (e : Edition) (text : List ℕ) (t : Tree) (p : Place) (k : SyntaxKind) (w : List ℕ) (r : Reparser) → IsUtf8 text → length text < 2 ^ 32
    → (v : StartsIn e text t p k w) (x : IsExactRule k r) (d : CalledIn e text k v.starts.is_of.from v.starts.is_of.number)
    → HasOwn e text t p k r (record { exact = x; event = v.starts.is_of; called = d; target = x.calls _ d.call.target d.call.found }) → OpensThere e text t p k r × (0 < length w)
open_with e text t p k w r u small v x d h =
    let ts : List RawToken = tokens_of e text in
    let ss : List Sight = sights_of e text ts in
    let es : List Event = events_in e text in
    let l : IsLexed e text = lexed e text u small in
    let n : ℕ = v.starts.is_of.number in
    let from : ℕ = v.starts.is_of.from in
    let c : IsCalledPiece e text t p k r = record { exact = x; event = v.starts.is_of; called = d; target = x.calls _ d.call.target d.call.found } in
    let state : State = before_call d in
    let before : List Event = reverse state.made.events in
    let rest : List Event = moved_events from h.is_own.own ++ event.Node k from ∷ h.later in
    let count : length before ≡ from = length-reverse state.made.events ∙ h.is_own.made_is in
    let long : length (reverse (take n es)) ≡ length (moved_events from (reverse h.is_own.own)) + length state.made.events =
    ap length h.is_own.events ∙ length-append (moved_events from (reverse h.is_own.own)) state.made.events in
    let first : min from n ≡ length before = omega (arith, count, long, length-reverse (take n es), length-take n es, h.is_own.made_is) in
    let front_is : take (min from n) es ≡ before = ap (λ (m : ℕ). take m es) first ∙ ap (take (length before)) h.all ∙ take-append_seam before rest in
    let back_is : drop (min from n) es ≡ rest = ap (λ (m : ℕ). drop m es) first ∙ ap (drop (length before)) h.all ∙ drop-append_seam before rest in
    let there : SomeAt ss state.place.at = some_at ss state.place.at d.call.token in
    let b : BeginsWithSight rust_tables there.sight h.is_own.own = calls_begin rust_tables ss k state d.call there.sight h.is_own.own there.there h.is_own.makes in
    let kind : SyntaxKind = kind_of rust_tables there.sight.one in
    let later : List Event = moved_events from b.later ++ event.Node k from ∷ h.later in
    let begins : drop (min from n) es ≡ event.Token kind 1 ∷ later = back_is ∙ ap (λ (xs : List Event). moved_events from xs ++ event.Node k from ∷ h.later) b.is in
    let whole : Left = record { tokens = ts; text = text } in
    let left : Left = made_left (root_of es) 0 before whole in
    let short : length ss + 3 < 2 ^ 64 = omega (arith, short_text e text u small) in
    let sights : AreSightsOf ss ts = sights_are e text ts (lexer_known e text) in
    let next : only_tokens (made_from (root_of es) es (0 + min from n) (event.Token kind 1 ∷ later) left) ≡ trivia_of left.tokens ++ takes (kinds.Token token.L_CURLY) v.len ∷ v.more =
    sym (ap (λ (xs : List Event). only_tokens (made_from (root_of es) es (0 + min from n) xs left)) begins)
    ∙ sym (ap (λ (xs : List Event). only_tokens (made_from (root_of es) es (0 + min from n) (drop (min from n) es) (made_left (root_of es) 0 xs whole))) front_is)
    ∙ v.next
    ∙ ap (λ (xs : List Event). trivia_of (made_left (root_of es) 0 xs whole).tokens ++ takes (kinds.Token token.L_CURLY) v.len ∷ v.more) front_is in
    let made : (kind ≡ kinds.Token token.L_CURLY) × (first_len (past left).tokens ≤ v.len) =
    first_made (root_of es) es (0 + min from n) kind (kinds.Token token.L_CURLY) later left v.len v.more
    (some_left d.before (root_of es) rust_tables (first_op rule.SourceFile) ss ts text short sights d.call.token) next in
    let one : there.sight.one ≡ 20 = kind_found there.sight.one (slice_get rust_tables.kinds there.sight.one) refl made.0 in
    let fine : IsFine e there.sight = sights_fine e text ts state.place.at there.sight there.there in
    let word : there.sight.word ≡ 0 = fine.is ∙ ap (λ (m : ℕ). finer_of e m fine.its_text) one in
    let cut : LeavesTokens (root_of es) state ts text = runs_leave d.before (root_of es) rust_tables (first_op rule.SourceFile) ss ts text there.sight short sights there.there word in
    let has : FirstHas cut.back there.sight.one =
    first_has e text ts cut.front cut.back there.sight (lexer_known e text) cut.is cut.first (ap (slice_get ss) cut.count ∙ there.there) in
    let sum : start t p + sum_len cut.back ≡ length text =
    sym (ap (λ (xs : List RawToken). start t p + sum_len xs) cut.left)
    ∙ sym (ap (λ (xs : List Event). start t p + sum_len (past (made_left (root_of es) 0 xs whole)).tokens) front_is) ∙ v.starts.rest in
    let bytes : 0 < has.first.len = All-head HasBytes has.first has.later (all_behind cut.front (has.first ∷ has.later) (subst (All HasBytes) (cut.is ∙ ap (λ (xs : List RawToken). cut.front ++ xs) has.is) l.none_empty)) in
    let first_long : first_len (past left).tokens ≡ has.first.len = ap first_len (cut.left ∙ has.is) in
    let some : 0 < length w = some_text has.first.len (first_len (past left).tokens) v.len (length w) bytes first_long made.1 v.long in (
      record {
        piece = c;
        front = cut.front;
        back = cut.back;
        tokens = cut.is;
        cut =
            cut_at (bytes_of cut.front) (sum_len cut.front) (start t p) (sum_len cut.back) (sum_len ts) (length text)
            (bytes_are cut.front) sum (ap sum_len cut.is ∙ sum_both cut.front cut.back) (cut_sum ts text l.cut);
        opens = record { first = has.first; rest = has.later; begins = has.is; is_open = number_found has.first.kind (sym has.number_is ∙ one) };
        count = cut.count;
      },
      some,
    )

pub pieces_open : CallsMakeTheirOwn → PiecesOpenAtTheirBraces
pieces_open law e text t i p k w f r u small few built at sub chosen =
    let v : StartsIn e text t (i ∷ p) k w =
    node_starts (kinds.Node node.SOURCE_FILE) attaching_kinds text (tokens_of e text) (events_in e text) t i p k (kinds.Token token.L_CURLY) w f small
    (lexed e text u small).cut (omega (arith, few)) (plain_events e text) (laid_tree e text t small built) at sub refl in
    let x : IsExactRule k r = exact_rules k r chosen in
    let d : CalledIn e text k v.starts.is_of.from v.starts.is_of.number =
    called_there rust_tables (sights_in e text) (first_op rule.SourceFile) k v.starts.is_of.number v.starts.is_of.from only_calls x.listed v.starts.is_of.event in
    open_with e text t (i ∷ p) k w r u small v x d
    (pieces_own law e text t (i ∷ p) k r (record { exact = x; event = v.starts.is_of; called = d; target = x.calls _ d.call.target d.call.found }) u small few)
