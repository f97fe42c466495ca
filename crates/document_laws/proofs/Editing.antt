-- The tree of a file of Rust in which an exact piece was edited.
use Rattle.std.proofs.Common.{◌≡◌, ℕ, zero, suc, ◌+◌, ◌-◌, ◌≤◌, ◌<◌, ◌^◌, Bool, true, false, not, if◌then◌else◌, List, [], ◌∷◌, ◌++◌, length, take, drop, refl, sym, ap, subst, ◌∙◌, arith, length-append}
use Rattle.std.specs.Prelude.{All, Some, slice_get, min, sum_by, IsUtf8}
use Rattle.std.proofs.lemmas.List.Elements.{All-head}
use Rattle.syntax_kind.specs.Kinds.{is_trivia}
use Rattle.syntax_kind.specs.declared.syntax_kind.SyntaxKind.{SyntaxKind}
use Rattle.syntax_kind.specs.declared.syntax_kind.SyntaxKind.TheVariants.{Node}
use Rattle.syntax_kind.specs.declared.syntax_kind.node_kind.NodeKind.TheVariants as node_kind
use Rattle.tree_model.specs.Tree.{Tree, node, token, Forest, cons, text, Place, IsPlace, subtree, start}
use Rattle.tree_model.specs.Edit.{replace}
use Rattle.tree_model.specs.Events.{Event as TreeEvent, BuildsNode}
use Rattle.tree_model.proofs.PlaceLemmas.{places_are_reached}
use Rattle.ras_front_end.specs.declared.edition.Edition.{Edition}
use Rattle.ras_front_end.specs.declared.edition.Reparser.{Reparser}
use Rattle.ras_front_end.specs.Reading.{FrontStep, begins, takes, ends, reports, Reading, events_from}
use Rattle.ras_parsing.proofs.TreeTexts.{built_text}
use Rattle.token_layout.specs.declared.span.Token.{Token as RawToken}
use Rattle.token_layout.specs.Laid.{IsCut, Laid}
use Rattle.grammar_machine.specs.declared.event.Event.{Event}
use Rattle.grammar_machine.specs.declared.event.Event.TheVariants as event
use Rattle.grammar_machine.specs.declared.grammar.Sight.{Sight}
use Rattle.grammar_machine.specs.Reading.{ReadsPiece}
use Rattle.grammar_machine.specs.Running.{events_of}
use Rattle.grammar_machine.proofs.Read.{pieces-sealed}
use Rattle.event_layout.specs.Filled.{bytes_taken}
use Rattle.event_layout.specs.Layout.{laid_of, root_of}
use Rattle.event_layout.specs.Made.{Left, without_trivia, only_tokens, trivia_of, past_trivia, joined, made_by}
use Rattle.event_layout.specs.Replaced.{Part, sights_in, whole_of, piece_of}
use Rattle.event_layout.proofs.Laying.{laid}
use Rattle.rust_grammar.specs.declared.tables.rules.Rule.TheVariants as rule
use Rattle.rust_grammar.specs.Rules.{first_op}
use Rattle.rust_grammar.specs.Seeing.{sights_of}
use Rattle.rust_grammar.specs.Tables.{rust_tables}
use Rattle.rust_lexer.specs.declared.lexer.LexError.{LexError}
use Rattle.rust_lexer.specs.Laws.{HasBytes}
use Rattle.rust_lexer.specs.Lexing.{tokens_of, errors_of}
use Rattle.rust_lexer.proofs.Kept.{lexed}
use Rattle.rust_front.specs.Front.{reading_with}
use Rattle.rust_front.specs.Messages.{say_of}
use Rattle.rust_front.specs.Pieces.{exact_chosen_of, rule_by_number}
use Rattle.rust_front.specs.Roots.{attaching_kinds}
use Rattle.document_laws.specs.Alone.{IsExactPiece}
use Rattle.document_laws.specs.Edited.{BuildsFile, EditedTreesAreParsed}
use Rattle.document_laws.specs.Nodes.{seen_of, made_steps, IsOfEvent}
use Rattle.document_laws.specs.Parts.{with_tokens}
use Rattle.document_laws.specs.Replacing.{BuildsLaid, IsReplacedTree}
use Rattle.document_laws.specs.Tables.{IsExactRule}
use Rattle.document_laws.proofs.Beside.{same_place}
use Rattle.document_laws.proofs.Inner.{BeginsWithToken, all_begin, inner_late}
use Rattle.document_laws.proofs.Noding.{nodes_of_events}
use Rattle.document_laws.proofs.Owning.{short_text}
use Rattle.document_laws.proofs.Piecing.{with_reports, parsed_events, laid_tree}
use Rattle.document_laws.proofs.Plain.{runs_plain, rust_plain}
use Rattle.document_laws.proofs.Replacing.{replaced_trees}
use Rattle.document_laws.proofs.Tabling.{only_calls, exact_rules}

-- ---- the bytes of the tokens that are seen

abbrev Steps : Type 0
Steps = List FrontStep

none_seen : seen_of [] ≡ []
unfolding without_trivia only_tokens
none_seen = refl

begin_seen : (k : SyntaxKind) (xs : Steps) → seen_of (begins k ∷ xs) ≡ seen_of xs
unfolding without_trivia only_tokens
begin_seen k xs = refl

end_seen : (xs : Steps) → seen_of (ends ∷ xs) ≡ seen_of xs
unfolding without_trivia only_tokens
end_seen xs = refl

report_seen : (m : List ℕ) (p : ℕ) (xs : Steps) → seen_of (reports m p ∷ xs) ≡ seen_of xs
unfolding without_trivia only_tokens
report_seen m p xs = refl

take_seen : (k : SyntaxKind) (n : ℕ) (xs : Steps) → seen_of (takes k n ∷ xs) ≡ (if not (is_trivia k) then takes k n ∷ seen_of xs else seen_of xs)
unfolding without_trivia only_tokens
take_seen k n xs = by (not (is_trivia k))
  where
    by : (b : Bool) → only_tokens (if b then takes k n ∷ without_trivia xs else without_trivia xs) ≡ (if b then takes k n ∷ seen_of xs else seen_of xs)
    by true = refl
    by false = refl

few_seen : (xs : Steps) → bytes_taken (seen_of xs) ≤ bytes_taken xs
few_seen [] = omega (arith, ap bytes_taken none_seen)
few_seen (begins k ∷ xs) = omega (arith, ap bytes_taken (begin_seen k xs), few_seen xs)
few_seen (takes k n ∷ xs) = by (not (is_trivia k)) (ap bytes_taken (take_seen k n xs)) (few_seen xs)
  where
    by : (b : Bool) → bytes_taken (seen_of (takes k n ∷ xs)) ≡ bytes_taken (if b then takes k n ∷ seen_of xs else seen_of xs) → bytes_taken (seen_of xs) ≤ bytes_taken xs
        → bytes_taken (seen_of (takes k n ∷ xs)) ≤ n + bytes_taken xs
    by true e h = omega (arith, e, h)
    by false e h = omega (arith, e, h)
few_seen (ends ∷ xs) = omega (arith, ap bytes_taken (end_seen xs), few_seen xs)
few_seen (reports m p ∷ xs) = omega (arith, ap bytes_taken (report_seen m p xs), few_seen xs)

-- ---- the nodes in a piece begin behind its first token

first_taken : (root : ℕ) (k : SyntaxKind) (t : RawToken) (ts : List RawToken) (s : List ℕ) (es : List Event) → is_trivia t.kind ≡ false → is_trivia k ≡ false → 0 < t.len
    → 0 < bytes_taken (seen_of (made_steps root 0 (event.Token k 1 ∷ es) (record { tokens = t ∷ ts; text = s })))
first_taken root k t ts s es clear plain some =
    let l : Left = record { tokens = t ∷ ts; text = s } in
    let n : ℕ = t.len + sum_by (λ (u : RawToken). u.len) (take (1 - 1) ts) in
    let more : Steps = made_steps root (0 + 1) es (made_by root 0 (event.Token k 1) l).left in
    let made : (made_by root 0 (event.Token k 1) l).steps ≡ takes k n ∷ [] =
    ap (λ (b : Bool). (if b then takes t.kind t.len ∷ trivia_of ts else []) ++ (joined k (1 - 1) (if b then past_trivia ts (drop t.len s) else l)).steps) clear in
    let seen : seen_of ((made_by root 0 (event.Token k 1) l).steps ++ more) ≡ takes k n ∷ seen_of more =
    ap (λ (xs : Steps). seen_of (xs ++ more)) made ∙ take_seen k n more ∙ ap (λ (b : Bool). if not b then takes k n ∷ seen_of more else seen_of more) plain in
    omega (arith, ap bytes_taken seen, some)

not_first : (j k : SyntaxKind) (from n : ℕ) (es : List Event) → slice_get (event.Token j 1 ∷ es) n ≡ Some (event.Node k from) → 0 < n
not_first j k from zero es h = absurd (let bad : Some (event.Token j 1) ≡ Some (event.Node k from) = h in cc)
not_first j k from (suc n) es h = omega arith

some_cut : (ts : List RawToken) (s : List ℕ) (t : RawToken) (us : List RawToken) → ts ≡ t ∷ us → IsCut ts s → t.len ≤ length s
some_cut ts s t us e h = (subst (λ (xs : List RawToken). IsCut xs s) e h).0

late_inside : (e : Edition) (w : List ℕ) (k : SyntaxKind) (r : Reparser) (was : Reading) (x : IsExactPiece e w k r was)
    → exact_chosen_of k ≡ Some r → IsUtf8 w → length w < 2 ^ 32 → length x.own + 1 < 2 ^ 32 - 1
    → (old : Tree) → BuildsLaid k attaching_kinds (piece_of k (with_tokens e w (tokens_of e w)) x.own) old
    → (j : ℕ) (o : Place) (f : Forest) → IsPlace old (j ∷ o) → subtree old (j ∷ o) ≡ node k f → 0 < start old (j ∷ o)
late_inside e w k r was x chosen u small few old built j o f at sub =
    let all : List Event = x.own ++ event.Node k 0 ∷ [] in
    let ts : List RawToken = tokens_of e w in
    let ss : List Sight = sights_of e w ts in
    let rule : ℕ = first_op (rule_by_number r.number) in
    let long : length all ≡ length x.own + 1 = length-append x.own (event.Node k 0 ∷ []) in
    let h : IsExactRule k r = exact_rules k r chosen in
    let v : IsOfEvent k attaching_kinds w ts all old (j ∷ o) k =
    nodes_of_events k attaching_kinds w ts all old j o k f small x.alone.cut (omega (arith, long, few)) built at sub in
    let reads : ReadsPiece rust_tables rule k ss all =
    pieces-sealed rust_tables rule h.target k ss all h.rule x.alone.alone (omega (arith, short_text e w u small)) (omega (arith, long, few)) in
    let from_late : 0 < v.from = inner_late rust_tables ss k rule x.own v.number v.from only_calls h.listed reads x.events v.event v.inner in
    let b : BeginsWithToken (events_of rust_tables rule ss) = all_begin rust_tables ss k rule reads.call in
    let is : all ≡ event.Token b.kind 1 ∷ b.rest = sym x.events ∙ b.is in
    let plain : is_trivia b.kind ≡ false = runs_plain rust_tables rule ss rust_plain 0 b.kind 1 (ap (λ (es : List Event). slice_get es 0) b.is) in
    let number_late : 0 < v.number = not_first b.kind k v.from v.number b.rest (sym (ap (λ (es : List Event). slice_get es v.number) is) ∙ v.event) in
    let m : ℕ = min v.from v.number in
    let one : m ≡ suc (m - 1) = omega (arith, from_late, number_late) in
    let front : take m all ≡ event.Token b.kind 1 ∷ take (m - 1) b.rest =
    ap (take m) is ∙ ap (λ (i : ℕ). take i (event.Token b.kind 1 ∷ b.rest)) one in
    let t : RawToken = x.braced.0.first in
    let us : List RawToken = x.braced.0.rest in
    let bytes : 0 < t.len = All-head HasBytes t us (subst (All HasBytes) x.braced.0.begins (lexed e w u small).none_empty) in
    let taken : 0 < bytes_taken (seen_of (made_steps (root_of all) 0 (take m all) (record { tokens = ts; text = w }))) =
    subst (λ (xs : List Event). 0 < bytes_taken (seen_of (made_steps (root_of all) 0 xs (record { tokens = ts; text = w })))) (sym front)
    (subst (λ (xs : List RawToken). 0 < bytes_taken (seen_of (made_steps (root_of all) 0 (event.Token b.kind 1 ∷ take (m - 1) b.rest) (record { tokens = xs; text = w })))) (sym x.braced.0.begins)
    (first_taken (root_of all) b.kind t us w (take (m - 1) b.rest) (ap is_trivia x.braced.0.is_open) plain bytes)) in
    omega (arith, v.starts, few_seen v.before, ap bytes_taken v.seen, taken)

-- ---- readings and files

reading_events : (k : SyntaxKind) (s : List ℕ) (ts : List RawToken) (errors : List LexError) (es : List Event)
    → events_from (reading_with k s ts errors es).steps s ≡ events_from (laid_of k attaching_kinds s ts es).steps s
unfolding reading_with
reading_events k s ts errors es = with_reports (say_of ts) (laid_of k attaching_kinds s ts es).faults (laid_of k attaching_kinds s ts es).steps s

-- a file's tree, laid of some tokens and of the events that the machine makes of some sights
abbrev LaidFile : List ℕ → List RawToken → List Sight → Tree → Type 0
LaidFile s ts ss t =
    BuildsNode (events_from (laid_of (Node node_kind.SOURCE_FILE) attaching_kinds s ts (events_of rust_tables (first_op rule.SourceFile) ss)).steps s) t

to_parts : (e : Edition) (s : List ℕ) (ts : List RawToken) (ss : List Sight) (t : Tree) → length s < 2 ^ 32
    → tokens_of e s ≡ ts → sights_of e s (tokens_of e s) ≡ ss → BuildsFile e s t → LaidFile s ts ss t
to_parts e s ts ss t small is seen built =
    subst (λ (xs : List Sight). LaidFile s ts xs t) seen
    (subst (λ (xs : List RawToken). LaidFile s xs (sights_of e s (tokens_of e s)) t) is (laid_tree e s t small built))

of_parts : (e : Edition) (s : List ℕ) (ts : List RawToken) (ss : List Sight) (t : Tree) → length s < 2 ^ 32
    → tokens_of e s ≡ ts → sights_of e s (tokens_of e s) ≡ ss → LaidFile s ts ss t → BuildsFile e s t
of_parts e s ts ss t small is seen built =
    subst (λ (xs : List TreeEvent). BuildsNode xs t) (sym (parsed_events e s small))
    (subst (λ (xs : List RawToken). LaidFile s xs (sights_of e s (tokens_of e s)) t) (sym is) (subst (λ (xs : List Sight). LaidFile s ts xs t) (sym seen) built))

-- ---- the law

pub edited_parsed : EditedTreesAreParsed
edited_parsed e a w q c ts us k r was now es fs t i p l first f piece parts around chosen x is y other short few built at sub some starts new =
    let own_few : length x.own + 1 < 2 ^ 32 - 1 = omega (arith, ap length is, few) in
    let small : length w < 2 ^ 32 = omega (arith, parts.short, length-append a (w ++ c), length-append w c) in
    let small_new : length q < 2 ^ 32 = omega (arith, around.new.short, length-append a (q ++ c), length-append q c) in
    let before : Part = with_tokens e a ts in
    let old_part : Part = with_tokens e w (tokens_of e w) in
    let new_part : Part = with_tokens e q (tokens_of e q) in
    let behind : Part = with_tokens e c us in
    let whole : BuildsLaid (Node node_kind.SOURCE_FILE) attaching_kinds (whole_of rust_tables (first_op rule.SourceFile) before old_part behind) t =
    to_parts e (a ++ (w ++ c)) (ts ++ (tokens_of e w ++ us)) (sights_in before old_part behind) t parts.short parts.tokens around.sights built in
    let o : Laid k w (laid_of k attaching_kinds w (tokens_of e w) (x.own ++ event.Node k 0 ∷ [])).steps =
    laid k attaching_kinds w (tokens_of e w) (x.own ++ event.Node k 0 ∷ []) small x.alone.cut in
    let old_built : BuildsLaid k attaching_kinds (piece_of k old_part es) o.tree =
    subst (λ (xs : List Event). BuildsLaid k attaching_kinds (piece_of k old_part xs) o.tree) is o.builds in
    let new_built : BuildsLaid k attaching_kinds (piece_of k new_part fs) piece =
    subst (λ (xs : List Event). BuildsLaid k attaching_kinds (piece_of k new_part xs) piece) other
    (subst (λ (xs : List TreeEvent). BuildsNode xs piece)
    (ap (λ (z : Reading). events_from z.steps q) y.reading_is ∙ reading_events k q (tokens_of e q) (errors_of e q) (y.own ++ event.Node k 0 ∷ [])) new) in
    let v : IsReplacedTree (Node node_kind.SOURCE_FILE) k attaching_kinds rust_tables (first_op rule.SourceFile) before new_part behind t o.tree piece =
    replaced_trees (Node node_kind.SOURCE_FILE) k attaching_kinds rust_tables (first_op rule.SourceFile) before old_part new_part behind es fs t o.tree piece
    around.laid short x.alone.cut y.alone.cut small small_new whole old_built new_built in
    let bytes : 0 < x.braced.0.first.len =
    All-head HasBytes x.braced.0.first x.braced.0.rest (subst (All HasBytes) x.braced.0.begins (lexed e w parts.is_part small).none_empty) in
    let text_is : text o.tree ≡ w = built_text (laid_of k attaching_kinds w (tokens_of e w) (x.own ++ event.Node k 0 ∷ [])).steps w o.tree o.cuts o.builds in
    let text_long : 0 < length (text o.tree) =
    omega (arith, ap length text_is, bytes, some_cut (tokens_of e w) w x.braced.0.first x.braced.0.rest x.braced.0.begins x.alone.cut) in
    let place : v.place ≡ (i ∷ p) =
    same_place t o.tree v.place (i ∷ p) k l first f ((places_are_reached t v.place).0 v.is_place) ((places_are_reached t (i ∷ p)).0 at)
    v.is_old o.builds.1 text_long sub some (v.starts ∙ sym starts)
    (λ j m within below. late_inside e w k r was x chosen parts.is_part small own_few o.tree o.builds j m (cons (token l first) f) ((places_are_reached o.tree (j ∷ m)).1 within) below) in
    of_parts e (a ++ (q ++ c)) (ts ++ (tokens_of e q ++ us)) (sights_in before new_part behind) (replace t (i ∷ p) piece) around.new.short around.new.tokens around.new_sights
    (subst (λ (m : Place). LaidFile (a ++ (q ++ c)) (ts ++ (tokens_of e q ++ us)) (sights_in before new_part behind) (replace t m piece)) place v.is_new)
