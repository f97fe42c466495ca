-- One token of a text of Rust gets another text.
use Rattle.std.proofs.Common.{◌≡◌, ◌⊎◌, inl, inr, ℕ, zero, suc, ◌+◌, ◌-◌, ◌<◌, ◌≤◌, ◌^◌, Bool, true, false, nat_lt, if◌then◌else◌, Some, List, [], ◌∷◌, ◌++◌, length, take, drop, map, ap, ap₂, ◌∙◌, refl, sym, subst, arith, append_assoc, length-append}
use Rattle.std.specs.Prelude.{IsUtf8, IsCharBoundary, slice_get}
use Rattle.std.specs.List.{flat_map}
use Rattle.std.proofs.lemmas.Str.{IsUtf8-append, IsUtf8-take, IsUtf8-drop}
use Rattle.std.proofs.Math.Seq.{drop-append_seam}
use Rattle.std.proofs.lemmas.Bool.Decides.{nat_tests}
use Rattle.syntax_kind.specs.declared.syntax_kind.SyntaxKind.{SyntaxKind}
use Rattle.syntax_kind.specs.declared.syntax_kind.SyntaxKind.TheVariants as kinds
use Rattle.syntax_kind.specs.declared.syntax_kind.node_kind.NodeKind.TheVariants as node_kind
use Rattle.text_size.specs.TextRange.{Bounds}
use Rattle.tree_model.specs.Tree.{Tree, node, token, IsToken, Place, IsPlace, kind_of, text, subtree, start}
use Rattle.tree_model.specs.Covering.{covering_of}
use Rattle.tree_model.specs.Cursor.{Cursor, range_of}
use Rattle.tree_model.specs.Edit.{replace, root_of, splice, text_before, text_behind}
use Rattle.tree_model.specs.Events.{Event as TreeEvent, enter, exit, events_of, BuildsNode}
use Rattle.tree_model.proofs.Balance.{events_of-builds}
use Rattle.tree_model.proofs.EditLaws.{text_around}
use Rattle.tree_model.proofs.PlaceLemmas.{places_are_reached}
use Rattle.lossless_tree.proofs.CoveringLaws.{covering_holds}
use Rattle.ras_front_end.specs.declared.edition.Edition.{Edition}
use Rattle.ras_front_end.specs.declared.edition.Entry.TheVariants.{SourceFile}
use Rattle.ras_front_end.specs.ErrorModel.{ErrorModel}
use Rattle.ras_front_end.specs.Parsed.{Parsed}
use Rattle.ras_front_end.specs.Reading.{Reading, events_from, Cuts, step_faults, stored_faults}
use Rattle.token_layout.specs.declared.span.Token.{Token}
use Rattle.token_layout.specs.Laid.{IsCut}
use Rattle.grammar_machine.specs.declared.event.Event.{Event}
use Rattle.event_layout.specs.declared.layout.ParserError.{ParserError}
use Rattle.event_layout.specs.Filled.{bytes_taken}
use Rattle.event_layout.specs.Layout.{laid_of}
use Rattle.event_layout.specs.Retold.{fault_retold, IsRetold, LaidAlike, RetoldTokensAreLaid, AreCutAt, LeavesBeginInTokens}
use Rattle.event_layout.proofs.Laying.{laid}
use Rattle.lexer_laws.specs.Behind.{IsBrace}
use Rattle.lexer_laws.specs.Heads.{may_have_head, HeadsEndBeforeBraces}
use Rattle.lexer_laws.specs.Quiet.{ended_by}
use Rattle.lexer_laws.specs.Quiet as lexer
use Rattle.lexer_laws.specs.Windows.{WindowsAreReplaced}
use Rattle.rust_grammar.specs.declared.tables.rules.Rule.TheVariants as rule
use Rattle.rust_lexer.specs.declared.lexer.LexError.{LexError}
use Rattle.rust_lexer.specs.Lexing.{tokens_of, errors_of}
use Rattle.rust_lexer.proofs.Kept.{lexed}
use Rattle.rust_front.specs.Exact.{rust_exact}
use Rattle.rust_front.specs.Front.{made_with, whole_of, nothing_read, parsed_of, rust_front}
use Rattle.rust_front.specs.Laws.{rust_kept}
use Rattle.rust_front.specs.Messages.{is_boundary_of, front_of, back_of, lexer_message_of, lexer_error_of}
use Rattle.rust_front.specs.Retold.{is_dot_at, ends_in_dot, is_retold_of}
use Rattle.rust_front.specs.RetoldLaws.{IsRetoldAs, RetoldWindowsAreAlike}
use Rattle.rust_front.specs.Roots.{attaching_kinds}
use Rattle.ras_parsing.specs.Edit.{Edit, IsEditOf, edited, covered, edited_at}
use Rattle.ras_parsing.specs.Rereading.{IsAround}
use Rattle.ras_parsing.specs.Reparse.{shifted}
use Rattle.ras_parsing.specs.Document.{is_quiet_from, in_order, all_in_order, window_around, part_of, edited_in, counted_from, byte_at, BeginsToken, TokenPath, IsReadOf, IsRetoldOf}
use Rattle.ras_parsing.proofs.Around.{around_covered, piece_length}
use Rattle.ras_parsing.proofs.TreeTexts.{built_text}
use Rattle.document_laws.specs.Edited.{BuildsFile}
use Rattle.document_laws.specs.Leaves.{StepsPart}
use Rattle.document_laws.specs.Pieces.{events_in}
use Rattle.document_laws.specs.Retold.{AreKept, RetoldTokensAreRead}
use Rattle.document_laws.specs.Stored.{stored}
use Rattle.document_laws.specs.Windows.{StartsWithBrace, IsWindowAround}
use Rattle.document_laws.proofs.Alone.{heads_tested}
use Rattle.document_laws.proofs.Errors.{parsed_errors}
use Rattle.document_laws.proofs.Faults.{said_of, parsed_faults}
use Rattle.document_laws.proofs.Leaves.{places_part}
use Rattle.document_laws.proofs.Piecing.{laid_in, parsed_events}
use Rattle.document_laws.proofs.Regrowing.{retold_tree}
use Rattle.document_laws.proofs.Reporting.{with_len, parser_retold, all_end, lexer_kept, all_kept}
use Rattle.document_laws.proofs.Retelling.{PartsAreUtf8, parts_utf8, InWindow, TokensAreAlike, tokens_alike}
use Rattle.document_laws.proofs.Storing.{error_before, quiet_same, same_choice}
use Rattle.document_laws.proofs.Windows.{windows_around}

-- ---- where the tokens are cut

byte_got : (p c : List ℕ) (b : ℕ) → slice_get (p ++ b ∷ c) (length p) ≡ Some b
byte_got [] c b = refl
byte_got (x ∷ p) c b = byte_got p c b

got_before : (p c : List ℕ) (n : ℕ) → n < length p → slice_get (p ++ c) n ≡ slice_get p n
got_before [] c n h = absurd (omega (arith, h))
got_before (x ∷ p) c zero h = refl
got_before (x ∷ p) c (suc n) h = got_before p c n (omega (arith, h))

some_same : (x b : ℕ) → Some x ≡ Some b → x ≡ b
some_same x b h = cc

no_brace : (b : ℕ) → IsBrace b → b ≡ 46 → ⊥
no_brace b (inl e) h = absurd (omega (arith, e, h))
no_brace b (inr e) h = absurd (omega (arith, e, h))

not_behind_dot : (a r : List ℕ) (n : ℕ) → ends_in_dot a ≡ false → suc n ≡ length a → slice_get (a ++ r) n ≡ Some 46 → ⊥
not_behind_dot a r n h is got =
    let last : length a - 1 ≡ n = omega (arith, is) in
    let there : slice_get a (length a - 1) ≡ Some 46 = ap (slice_get a) last ∙ sym (got_before a r n (omega (arith, is))) ∙ got in
    let bad : true ≡ false = sym (ap is_dot_at there) ∙ h in
    cc

-- behind the steps before a place
cut_there : LeavesBeginInTokens → (e : Edition) (s : List ℕ) (t : Tree) (at : ℕ) → IsUtf8 s → length s < 2 ^ 32 → BuildsFile e s t
    → BeginsToken t at → (slice_get s at ≡ Some 46 → ⊥) → ((n : ℕ) → suc n ≡ at → slice_get s n ≡ Some 46 → ⊥)
    → AreCutAt (tokens_of e s) at
cut_there leaves e s t at u small built (inl none) dot dot_before = record { front = []; back = tokens_of e s; is = refl; bytes = sym none }
cut_there leaves e s t at u small built (inr h) dot dot_before =
    let p : Place = (covering_of (root_of t) (byte_at at)).place in
    let placed : IsPlace t p = (covering_holds (root_of t) (byte_at at) ((places_are_reached t []).1 tt) (omega arith)).0 in
    let cut : IsCut (tokens_of e s) s = (lexed e s u small).cut in
    let cuts : Cuts (laid_in e s).steps s = (laid (kinds.Node node_kind.SOURCE_FILE) attaching_kinds s (tokens_of e s) (events_in e s) small cut).cuts in
    let made : BuildsNode (events_from (laid_in e s).steps s) t = subst (λ (es : List TreeEvent). BuildsNode es t) (parsed_events e s small) built in
    let v : StepsPart (laid_in e s).steps (start t p) = places_part (laid_in e s).steps s t p cuts made placed in
    let taken : bytes_taken v.before ≡ at = v.taken ∙ h.1 in
    subst (AreCutAt (tokens_of e s)) taken
    (leaves (kinds.Node node_kind.SOURCE_FILE) attaching_kinds (events_in e s) s (tokens_of e s) v.before v.behind cut small v.is
    (λ d. dot (sym (ap (slice_get s) taken) ∙ d)) (λ n is d. dot_before n (is ∙ taken) d))

cut_at : LeavesBeginInTokens → (e : Edition) (s : List ℕ) (t : Tree) (a x r : List ℕ) → IsUtf8 s → length s < 2 ^ 32 → BuildsFile e s t
    → s ≡ a ++ (x ++ r) → (a ≡ []) ⊎ StartsWithBrace x → BeginsToken t (length a) → ends_in_dot a ≡ false
    → AreCutAt (tokens_of e s) (length a)
cut_at leaves e s t a x r u small built is (inl none) begins dot = record { front = []; back = tokens_of e s; is = refl; bytes = sym (ap length none) }
cut_at leaves e s t a x r u small built is (inr b) begins dot =
    let whole : s ≡ a ++ b.brace ∷ (b.rest ++ r) = is ∙ ap (λ (z : List ℕ). a ++ (z ++ r)) b.is in
    cut_there leaves e s t (length a) u small built begins
    (λ d. no_brace b.brace b.is_brace (some_same b.brace 46 (sym (byte_got a (b.rest ++ r) b.brace) ∙ sym (ap (λ (z : List ℕ). slice_get z (length a)) whole) ∙ d)))
    (λ n suc_n d. not_behind_dot a (x ++ r) n dot suc_n (sym (ap (λ (z : List ℕ). slice_get z n) is) ∙ d))

-- ---- messages of the lexer's errors

front_none : (n : ℕ) (s : List ℕ) → n ≡ 0 → front_of n s ≡ []
front_none n s h = ap (λ (m : ℕ). front_of m s) h ∙ same_choice (is_boundary_of 0 s)

-- an error that ends before the window has the same message
message_kept : (a x r p s z : List ℕ) → s ≡ a ++ (x ++ r) → z ≡ a ++ (x ++ p) → (a ≡ []) ⊎ StartsWithBrace x
    → (f : LexError) → f.range.end ≤ length a → lexer_error_of s f ≡ lexer_error_of z f
message_kept a x r p s z is new_is (inl none) f h =
    let n : f.range.end ≡ 0 = omega (arith, h, ap length none) in
    ap (λ (t : List ℕ). record { message = lexer_message_of f.problem (back_of f.range.start t); range = f.range })
    (front_none f.range.end s n ∙ sym (front_none f.range.end z n))
message_kept a x r p s z is new_is (inr b) f h =
    ap (λ (t : List ℕ). lexer_error_of t f) (is ∙ ap (λ (t : List ℕ). a ++ (t ++ r)) b.is)
    ∙ error_before a (b.rest ++ r) (b.rest ++ p) b.brace f h
    ∙ sym (ap (λ (t : List ℕ). lexer_error_of t f) (new_is ∙ ap (λ (t : List ℕ). a ++ (t ++ p)) b.is))

-- ---- the new text

pub splice_utf8 : (s ins : List ℕ) (i j : ℕ) → IsUtf8 s → IsUtf8 ins → IsCharBoundary s i → IsCharBoundary s j → IsUtf8 (splice s i j ins)
splice_utf8 s ins i j u v a b = IsUtf8-append (take i s) (ins ++ drop j s) (IsUtf8-take s i u a) (IsUtf8-append ins (drop j s) v (IsUtf8-drop s j u b))

token_is : (u : Tree) → IsToken u → u ≡ token (kind_of u) (text u)
token_is (node k f) h = absurd h
token_is (token k s) h = refl

three : (x m y c : List ℕ) → (x ++ (m ++ y)) ++ c ≡ x ++ (m ++ (y ++ c))
three x m y c = simp append_assoc

-- the lexer's errors are those behind the parser's
pub behind_steps : (s : Reading) (errors : List ErrorModel) (n : ℕ) → errors ≡ stored_faults s → n ≡ length (step_faults s.steps) → drop n errors ≡ s.errors
behind_steps s errors n e count = ap₂ drop count e ∙ drop-append_seam (step_faults s.steps) s.errors

-- what an edit of one token is about: its place, the texts around it in the window and around that,
-- and what the lexer makes of these
record Told (e : Edition) (t : Tree) (p : Place) (edit : Edit) (new : List ℕ) : Type 0 where
  a : List ℕ
  x : List ℕ
  y : List ℕ
  c : List ℕ
  text_is : text t ≡ a ++ ((x ++ (text (subtree t p) ++ y)) ++ c)
  new_is : edited (text t) edit ≡ a ++ ((x ++ (new ++ y)) ++ c)
  starts : length (a ++ x) ≡ start t p
  begins : (a ≡ []) ⊎ StartsWithBrace x
  alike : TokensAreAlike e (text t) (edited (text t) edit) (a ++ x) (text (subtree t p)) new (y ++ c)
  errors : errors_of e (edited (text t) edit) ≡ errors_of e (text t)
  early : flat_map (ended_by (length a)) (errors_of e (text t)) ≡ errors_of e (text t)

-- ---- the tree and the errors

abbrev root : SyntaxKind
root = kinds.Node node_kind.SOURCE_FILE

retold_laid : RetoldTokensAreLaid → (e : Edition) (s z x old new y : List ℕ) → length s < 2 ^ 32 → length z < 2 ^ 32
    → TokensAreAlike e s z x old new y → LaidAlike (laid_in e s) (laid_in e z) x old new
retold_laid law e s z x old new y small short al =
    let events : events_in e s ≡ events_in e z = ap (made_with rule.SourceFile) al.sights in
    subst (λ (es : List Event). LaidAlike (laid_in e s) (laid_of root attaching_kinds z (tokens_of e z) es) x old new) events
    (law root attaching_kinds (events_in e s) s z (tokens_of e s) (tokens_of e z) x old new y al.retold small short)

new_tree : (e : Edition) (s z x old new y : List ℕ) (t : Tree) (p : Place) (k : SyntaxKind) → IsUtf8 s → length s < 2 ^ 32 → length z < 2 ^ 32
    → TokensAreAlike e s z x old new y → LaidAlike (laid_in e s) (laid_in e z) x old new → BuildsFile e s t
    → IsPlace t p → subtree t p ≡ token k old → start t p ≡ length x
    → BuildsFile e z (replace t p (token k new))
new_tree e s z x old new y t p k u small short al la built at sub here =
    let r : IsRetold s z (tokens_of e s) (tokens_of e z) x old new y = al.retold in
    let cuts : Cuts (laid_in e s).steps s = (laid root attaching_kinds s (tokens_of e s) (events_in e s) small (lexed e s u small).cut).cuts in
    let made : BuildsNode (events_from (laid_in e s).steps s) t = subst (λ (es : List TreeEvent). BuildsNode es t) (parsed_events e s small) built in
    let grown : BuildsNode (events_from (laid_in e z).steps (x ++ (new ++ y))) (replace t p (token k new)) =
    retold_tree x old new y (laid_in e s).steps (laid_in e z).steps la.before la.behind la.leaf k la.ahead la.after t p la.steps la.new_steps la.starts
    (subst (λ (l : List ℕ). Cuts (laid_in e s).steps l) r.text cuts)
    (subst (λ (l : List ℕ). BuildsNode (events_from (laid_in e s).steps l) t) r.text made) at sub here r.some in
    subst (λ (es : List TreeEvent). BuildsNode es (replace t p (token k new))) (sym (parsed_events e z short))
    (subst (λ (l : List ℕ). BuildsNode (events_from (laid_in e z).steps l) (replace t p (token k new))) (sym r.new_text) grown)

new_faults : (e : Edition) (s z x old new y : List ℕ) (edit : Edit) → IsUtf8 s → IsUtf8 z → length s < 2 ^ 32 → length z < 2 ^ 32
    → TokensAreAlike e s z x old new y → LaidAlike (laid_in e s) (laid_in e z) x old new
    → ((n : ℕ) → length x + length old ≤ n → shifted edit n ≡ (n - length old) + length new)
    → step_faults (parsed_of SourceFile e z).steps
    ≡ in_order (step_faults (parsed_of SourceFile e s).steps) [] (record { start = length x; end = length x + length old }) edit
new_faults e s z x old new y edit u v small short al la shift =
    let b : Bounds = record { start = length x; end = length x + length old } in
    let ts : List Token = al.front ++ with_len al.kind (length old) ∷ al.back in
    let us : List Token = al.front ++ with_len al.kind (length new) ∷ al.back in
    let olds : step_faults (parsed_of SourceFile e s).steps ≡ map (said_of ts) (la.early ++ la.late) =
    parsed_faults e s u small ∙ ap₂ (λ (l : List Token) (fs : List ParserError). map (said_of l) fs) al.tokens la.faults_are in
    let news : step_faults (parsed_of SourceFile e z).steps ≡ map (said_of us) (map (fault_retold (length x) (length old) (length new)) (la.early ++ la.late)) =
    parsed_faults e z v short
    ∙ ap₂ (λ (l : List Token) (fs : List ParserError). map (said_of l) fs) al.new_tokens
    (la.new_faults ∙ ap (map (fault_retold (length x) (length old) (length new))) la.faults_are) in
    news
    ∙ parser_retold al.front al.back al.kind (length x) (length old) (length new) edit la.early la.late al.retold.some shift la.are_early la.are_late
    ∙ ap (λ (l : List ErrorModel). in_order l [] b edit) (sym olds)

new_errors : (e : Edition) (s z : List ℕ) (l : ℕ) (b : Bounds) (edit : Edit) → IsUtf8 s → length s < 2 ^ 32 → length z < 2 ^ 32
    → errors_of e z ≡ errors_of e s → flat_map (ended_by l) (errors_of e s) ≡ errors_of e s
    → l ≤ b.start → b.start < b.end → ((f : LexError) → f.range.end ≤ l → lexer_error_of s f ≡ lexer_error_of z f)
    → (parsed_of SourceFile e z).errors ≡ in_order (parsed_of SourceFile e s).errors [] b edit
new_errors e s z l b edit u small short same early from some message =
    parsed_errors e z short ∙ ap (map (lexer_error_of z)) same
    ∙ lexer_kept s z l (length s) b edit (errors_of e s) from some message (all_end l (errors_of e s) early) (lexed e s u small).lie
    ∙ ap (λ (fs : List ErrorModel). in_order fs [] b edit) (sym (parsed_errors e s small))

-- ---- the window of the edit

told : HeadsEndBeforeBraces → LeavesBeginInTokens → WindowsAreReplaced → RetoldWindowsAreAlike
    → (e : Edition) (old : Parsed) (before : ℕ) (edit : Edit)
    → IsUtf8 (text old.tree) → length (text old.tree) < 2 ^ 32 → IsUtf8 (edited (text old.tree) edit) → length (edited (text old.tree) edit) < 2 ^ 32
    → IsEditOf (text old.tree) edit → IsReadOf rust_front e (text old.tree) old before
    → (w : Bounds) → TokenPath rust_exact e old before edit (covered old.tree edit) w
    → Told e old.tree (covered old.tree edit).place edit (edited_at (covered old.tree edit) edit)
told heads leaves windows front e old before edit u small v short is_edit was w path =
    let t : Tree = old.tree in
    let s : List ℕ = text t in
    let c : Cursor = covered t edit in
    let p : Place = c.place in
    let L : List ℕ = text (subtree t p) in
    let N : List ℕ = edited_at c edit in
    let around : IsAround c edit = around_covered t edit is_edit in
    let parts = text_around t p around.is_place in
    let begun = around.begun in
    let ended = around.ended in
    let forwards = is_edit.forwards in
    let found : IsWindowAround s edit (window_around s (record { start = length (text_before t p); end = length (text_before t p) + length L })) (length (text_before t p)) L
    (splice L (edit.delete.start - length (text_before t p)) (edit.delete.end - length (text_before t p)) edit.insert) =
    windows_around s (text_before t p) L (text_behind t p) edit parts.0 (omega (arith, parts.1, begun)) forwards (omega (arith, parts.1, ended)) in
    let i : IsWindowAround s edit w (start t p) L N =
    subst (λ (b : Bounds). IsWindowAround s edit b (start t p) L N) (sym path.is_window)
    (subst (λ (n : ℕ). IsWindowAround s edit (window_around s (record { start = n; end = n + length L })) n L (splice L (edit.delete.start - n) (edit.delete.end - n) edit.insert)) parts.1 found) in
    let old_text : List ℕ = i.a ++ ((i.x ++ (L ++ i.y)) ++ i.c) in
    let new_text : List ℕ = i.a ++ ((i.x ++ (N ++ i.y)) ++ i.c) in
    let b : Bounds = counted_from w.start (range_of c) in
    let us : PartsAreUtf8 i.a i.x L i.y i.c = parts_utf8 i.a i.x L i.y i.c i.begins i.ends (subst IsUtf8 i.text u) in
    let vs : PartsAreUtf8 i.a i.x N i.y i.c = parts_utf8 i.a i.x N i.y i.c i.begins i.ends (subst IsUtf8 i.new_text v) in
    let seen : is_retold_of e i.a (i.x ++ (L ++ i.y)) (i.x ++ (N ++ i.y)) i.c b ≡ true =
    ap (λ (l : List ℕ). is_retold_of e l (i.x ++ (L ++ i.y)) (i.x ++ (N ++ i.y)) i.c b) (sym i.before_is)
    ∙ ap (λ (l : List ℕ). is_retold_of e (take w.start s) l (i.x ++ (N ++ i.y)) i.c b) (sym i.window_is)
    ∙ ap (λ (l : List ℕ). is_retold_of e (take w.start s) (part_of s w) l i.c b) (sym i.new_window_is)
    ∙ ap (λ (l : List ℕ). is_retold_of e (take w.start s) (part_of s w) (edited_in s w edit) l b) (sym i.behind_is)
    ∙ path.is_retold in
    let r : IsRetoldAs e i.a (i.x ++ (L ++ i.y)) (i.x ++ (N ++ i.y)) i.c b =
    front e i.a (i.x ++ (L ++ i.y)) (i.x ++ (N ++ i.y)) i.c b us.window vs.window seen in
    let begins : BeginsToken t (length i.a) = subst (BeginsToken t) (sym i.long) path.stands_alone.begins in
    let cut : AreCutAt (tokens_of e s) (length i.a) =
    cut_at leaves e s t i.a i.x (L ++ (i.y ++ i.c)) u small was.is_parse.builds (i.text ∙ ap (λ (l : List ℕ). i.a ++ l) (three i.x L i.y i.c)) i.begins begins r.no_dot_before in
    let stored_is : drop before old.errors ≡ stored e s =
    behind_steps (parsed_of SourceFile e s) old.errors before was.is_parse.errors_are was.count_is ∙ parsed_errors e s small in
    let quiet : lexer.is_quiet_from (length (i.a ++ (i.x ++ (L ++ i.y)))) (errors_of e s) ≡ true =
    sym (quiet_same s (length (i.a ++ (i.x ++ (L ++ i.y)))) (errors_of e s))
    ∙ ap₂ is_quiet_from (sym i.ends_at) (sym stored_is) ∙ path.stands_alone.is_quiet in
    let no_head : may_have_head s ≡ false = sym (heads_tested s) ∙ path.no_head in
    let starts = i.starts in
    let long = i.long in
    let h : InWindow e i.a i.x L N i.y i.c b = record {
      is_text = subst IsUtf8 i.text u;
      is_new_text = subst IsUtf8 i.new_text v;
      short = subst (λ (l : List ℕ). length l < 2 ^ 32) i.text small;
      new_short = subst (λ (l : List ℕ). length l < 2 ^ 32) i.new_text short;
      no_head = ap may_have_head (sym i.text) ∙ no_head;
      begins = i.begins;
      ends = i.ends;
      starts = omega (arith, starts, long);
      long = omega (arith, starts, long);
      cut = subst (λ (l : List ℕ). AreCutAt (tokens_of e l) (length i.a)) i.text cut;
      quiet = subst (λ (l : List ℕ). lexer.is_quiet_from (length (i.a ++ (i.x ++ (L ++ i.y)))) (errors_of e l) ≡ true) i.text quiet;
      retold = r;
    } in
    let out = tokens_alike heads windows e i.a i.x L N i.y i.c b h in
    let al : TokensAreAlike e old_text new_text (i.a ++ i.x) L N (i.y ++ i.c) = out.1 in
    record {
      a = i.a;
      x = i.x;
      y = i.y;
      c = i.c;
      text_is = i.text;
      new_is = i.new_text;
      starts = length-append i.a i.x ∙ i.starts;
      begins = i.begins;
      alike =
          subst (λ (l : List ℕ). TokensAreAlike e l (edited s edit) (i.a ++ i.x) L N (i.y ++ i.c)) (sym i.text)
          (subst (λ (l : List ℕ). TokensAreAlike e old_text l (i.a ++ i.x) L N (i.y ++ i.c)) (sym i.new_text) al);
      errors = ap (errors_of e) i.new_text ∙ out.0.errors ∙ sym (ap (errors_of e) i.text);
      early = subst (λ (l : List ℕ). flat_map (ended_by (length i.a)) (errors_of e l) ≡ errors_of e l) (sym i.text) out.0.early;
    }

-- ---- the parse

by_covered : HeadsEndBeforeBraces → LeavesBeginInTokens → RetoldTokensAreLaid → WindowsAreReplaced → RetoldWindowsAreAlike
    → (e : Edition) (old new : Parsed) (before count : ℕ) (edit : Edit)
    → IsUtf8 (text old.tree) → IsUtf8 edit.insert → IsEditOf (text old.tree) edit → length (edited (text old.tree) edit) < 2 ^ 32 → length (text old.tree) < 2 ^ 32
    → IsReadOf rust_front e (text old.tree) old before
    → (w : Bounds) → TokenPath rust_exact e old before edit (covered old.tree edit) w
    → IsRetoldOf old before edit (covered old.tree edit) new count
    → IsReadOf rust_front e (edited (text old.tree) edit) new count
by_covered heads leaves laid_law windows front e old new before count edit u ins is_edit short small was w path is =
    let t : Tree = old.tree in
    let s : List ℕ = text t in
    let z : List ℕ = edited s edit in
    let c : Cursor = covered t edit in
    let p : Place = c.place in
    let L : List ℕ = text (subtree t p) in
    let N : List ℕ = edited_at c edit in
    let k : SyntaxKind = kind_of (subtree t p) in
    let v : IsUtf8 z = splice_utf8 s edit.insert edit.delete.start edit.delete.end u ins is_edit.start_boundary is_edit.end_boundary in
    let around : IsAround c edit = around_covered t edit is_edit in
    let d : Told e t p edit N = told heads leaves windows front e old before edit u small v short is_edit was w path in
    let x : List ℕ = d.a ++ d.x in
    let la : LaidAlike (laid_in e s) (laid_in e z) x L N = retold_laid laid_law e s z x L N (d.y ++ d.c) small short d.alike in
    let sub : subtree t p ≡ token k L = token_is (subtree t p) path.is_token in
    let builds : BuildsFile e z (replace t p (token k N)) =
    new_tree e s z x L N (d.y ++ d.c) t p k u small short d.alike la was.is_parse.builds around.is_place sub (sym d.starts) in
    let size = piece_length c edit around is_edit.forwards in
    let begun = around.begun in
    let ended = around.ended in
    let starts = d.starts in
    let forwards = is_edit.forwards in
    let b : Bounds = record { start = length x; end = length x + length L } in
    let parser : step_faults (parsed_of SourceFile e z).steps ≡ in_order (step_faults (parsed_of SourceFile e s).steps) [] b edit =
    new_faults e s z x L N (d.y ++ d.c) edit u v small short d.alike la (λ n far. omega (arith, size, begun, ended, starts, forwards, far)) in
    let some = d.alike.retold.some in
    let lexer : (parsed_of SourceFile e z).errors ≡ in_order (parsed_of SourceFile e s).errors [] b edit =
    new_errors e s z (length d.a) b edit u small short d.errors d.early (omega (arith, length-append d.a d.x)) (omega (arith, some))
    (message_kept d.a d.x (L ++ (d.y ++ d.c)) (N ++ (d.y ++ d.c)) s z
    (d.text_is ∙ ap (λ (l : List ℕ). d.a ++ l) (three d.x L d.y d.c)) (d.new_is ∙ ap (λ (l : List ℕ). d.a ++ l) (three d.x N d.y d.c)) d.begins) in
    let kept : AreKept (parsed_of SourceFile e s) (parsed_of SourceFile e z) b edit = all_kept (parsed_of SourceFile e s) (parsed_of SourceFile e z) b edit parser lexer in
    let range : range_of c ≡ b = ap (λ (n : ℕ). record { start = n; end = n + length L }) (sym d.starts) in
    let tree_is : new.tree ≡ replace t p (token k N) = is.tree_is in
    let builds_new : BuildsFile e z new.tree = subst (λ (y : Tree). BuildsFile e z y) (sym tree_is) builds in
    let m : ℕ = length (step_faults (parsed_of SourceFile e s).steps) in
    record {
      is_parse = record {
        builds = builds_new;
        text_is = built_text (parsed_of SourceFile e z).steps z new.tree (rust_kept.entry_kept SourceFile e z v short).cuts builds_new;
        errors_are =
            is.errors_are
            ∙ ap (λ (n : ℕ). all_in_order n 0 old.errors [] (range_of c) edit) was.count_is
            ∙ ap (λ (l : List ErrorModel). all_in_order m 0 l [] (range_of c) edit) was.is_parse.errors_are
            ∙ ap (λ (r : Bounds). all_in_order m 0 (stored_faults (parsed_of SourceFile e s)) [] r edit) range
            ∙ sym kept.all;
      };
      count_is =
          is.count_is
          ∙ ap (λ (n : ℕ). length (in_order (take n old.errors) [] (range_of c) edit)) was.count_is
          ∙ ap (λ (l : List ErrorModel). length (in_order (take m l) [] (range_of c) edit)) was.is_parse.errors_are
          ∙ ap (λ (r : Bounds). length (in_order (take m (stored_faults (parsed_of SourceFile e s))) [] r edit)) range
          ∙ sym kept.count;
    }

-- ---- the old text's length

none_read : (e : Edition) (s : List ℕ) → nat_lt (length s) (2 ^ 32) ≡ false → events_from (parsed_of SourceFile e s).steps s ≡ []
unfolding parsed_of
none_read e s h = ap (λ (b : Bool). events_from (if b then whole_of SourceFile e s else nothing_read).steps s) h

no_tree : (t : Tree) → BuildsNode [] t → ⊥
no_tree (token k s) b = b.1
no_tree (node k f) b = (let bad : enter k ∷ (events_of f ++ exit ∷ []) ≡ [] = events_of-builds b.0 in absurd (cc))

-- a text that is too long has no tree
short_text : (e : Edition) (s : List ℕ) (t : Tree) → BuildsFile e s t → length s < 2 ^ 32
short_text e s t built = by (nat_lt (length s) (2 ^ 32)) refl
  where
    by : (b : Bool) → nat_lt (length s) (2 ^ 32) ≡ b → length s < 2 ^ 32
    by true h = grind (arith, nat_tests, h)
    by false h = absurd (no_tree t (subst (λ (es : List TreeEvent). BuildsNode es t) (none_read e s h) built))

pub by_token : HeadsEndBeforeBraces → LeavesBeginInTokens → RetoldTokensAreLaid → WindowsAreReplaced → RetoldWindowsAreAlike → RetoldTokensAreRead
by_token heads leaves laid_law windows front e old new before count edit u ins is_edit short was c w path is =
    let t : Tree = old.tree in
    let small : length (text t) < 2 ^ 32 = short_text e (text t) t was.is_parse.builds in
    subst (λ (d : Cursor). TokenPath rust_exact e old before edit d w → IsRetoldOf old before edit d new count → IsReadOf rust_front e (edited (text t) edit) new count)
    (sym path.covers)
    (λ (path : TokenPath rust_exact e old before edit (covered t edit) w) (is : IsRetoldOf old before edit (covered t edit) new count).
    by_covered heads leaves laid_law windows front e old new before count edit u ins is_edit short small was w path is)
    path is
