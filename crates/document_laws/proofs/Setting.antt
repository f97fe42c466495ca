-- A text of Rust in which an exact piece is replaced by another one is laid around it as before.
use Rattle.std.proofs.Common.{◌≡◌, inl, ℕ, zero, suc, ◌+◌, ◌-◌, ◌<◌, ◌^◌, false, nat_eq, List, [], ◌∷◌, ◌++◌, length, take, drop, refl, ap, ap₂, ◌∙◌, subst, sym, arith}
use Rattle.std.specs.Prelude.{slice_get, reverse, IsUtf8}
use Rattle.std.proofs.lemmas.List.{length-append, length-map, length-reverse, length-take}
use Rattle.std.proofs.lemmas.Option.{slice_get_within}
use Rattle.syntax_kind.specs.declared.syntax_kind.SyntaxKind.{SyntaxKind}
use Rattle.syntax_kind.specs.declared.syntax_kind.SyntaxKind.TheVariants as kinds
use Rattle.syntax_kind.specs.declared.syntax_kind.node_kind.NodeKind.TheVariants as node
use Rattle.tree_model.specs.Tree.{Tree, Place}
use Rattle.ras_front_end.specs.declared.edition.Edition.{Edition}
use Rattle.ras_front_end.specs.declared.edition.Reparser.{Reparser}
use Rattle.token_layout.specs.declared.span.Token.{Token}
use Rattle.grammar_machine.specs.declared.event.Event.{Event}
use Rattle.grammar_machine.specs.declared.event.Event.TheVariants as event
use Rattle.grammar_machine.specs.declared.grammar.Sight.{Sight}
use Rattle.grammar_machine.specs.Exchanging.{Makes, ComesToCall, ExchangedAt, CallsMakeTheirOwn}
use Rattle.grammar_machine.specs.Filling.{Fits}
use Rattle.grammar_machine.specs.Framing.{moved_event, moved_events}
use Rattle.grammar_machine.specs.Running.{Tables, runs, run_of, begin_of, events_of, fuel_of}
use Rattle.grammar_machine.specs.Sealing.{SealedCall}
use Rattle.grammar_machine.proofs.Exchanging.{exchanged as exchanged_at}
use Rattle.event_layout.specs.Finding.{AreSightsOf}
use Rattle.event_layout.specs.Layout.{root_of}
use Rattle.event_layout.specs.Replaced.{Part, sights_in, IsPlace as IsPlaceOf, IsSmall}
use Rattle.event_layout.specs.Taking.{seen_tokens}
use Rattle.event_layout.proofs.Filled.{cut_sum}
use Rattle.lexer_laws.specs.Cuts.{bytes_of}
use Rattle.lexer_laws.specs.Heads.{may_have_head, HeadsEndBeforeBraces}
use Rattle.lexer_laws.specs.Pieces.{IsReplaced}
use Rattle.lexer_laws.proofs.Finding.{Replaced, replaced, pieces_replaced}
use Rattle.lexer_laws.proofs.Sighting.{sights_cut}
use Rattle.rust_front.specs.Pieces.{rule_by_number}
use Rattle.rust_front.specs.Roots.{attaching_kinds}
use Rattle.rust_grammar.specs.declared.tables.rules.Rule.TheVariants as rule
use Rattle.rust_grammar.specs.Rules.{first_op}
use Rattle.rust_grammar.specs.Seeing.{sights_of}
use Rattle.rust_grammar.specs.Tables.{rust_tables}
use Rattle.rust_lexer.specs.Lexing.{tokens_of}
use Rattle.document_laws.specs.Alone.{IsExactPiece}
use Rattle.document_laws.specs.Own.{before_call, HasOwn}
use Rattle.document_laws.specs.Parts.{with_tokens, IsInParts}
use Rattle.document_laws.specs.Pieces.{events_in, IsCalledPiece}
use Rattle.document_laws.specs.Setting.{PiecesAreLaidAround}
use Rattle.document_laws.specs.Sights.{AreKnown}
use Rattle.document_laws.proofs.Braces.{end_alike, next_plain}
use Rattle.document_laws.proofs.Fitting.{fitted}
use Rattle.document_laws.proofs.Knowns.{lexer_known}
use Rattle.document_laws.proofs.Once.{as_many}
use Rattle.document_laws.proofs.Opening.{bytes_are}
use Rattle.document_laws.proofs.Owning.{few_at, short_text, pieces_own}
use Rattle.document_laws.proofs.Sights.{sights_are}
use Rattle.document_laws.proofs.Tabling.{looks_short}

-- ---- the new text

abbrev start : ℕ
start = first_op rule.SourceFile

abbrev all_sights : Edition → List ℕ → List Sight
all_sights e text = sights_of e text (tokens_of e text)

-- what may stand at the head of a text does not depend on what follows a `{`
head_moved : HeadsEndBeforeBraces → (a w q c r s : List ℕ) → w ≡ 123 ∷ r → q ≡ 123 ∷ s → may_have_head (a ++ (w ++ c)) ≡ may_have_head (a ++ (q ++ c))
head_moved law a w q c r s h k =
    ap (λ (t : List ℕ). may_have_head (a ++ (t ++ c))) h ∙ law a (r ++ c) (s ++ c) 123 (inl refl) ∙ sym (ap (λ (t : List ℕ). may_have_head (a ++ (t ++ c))) k)

pub bytes_in : {e : Edition} {w : List ℕ} {k : SyntaxKind} {r : Reparser} {reading : _} → IsExactPiece e w k r reading → bytes_of (tokens_of e w) ≡ length w
bytes_in {e} {w} x = bytes_are (tokens_of e w) ∙ cut_sum (tokens_of e w) w x.alone.cut

-- the text with the new piece is in parts, too
in_parts : HeadsEndBeforeBraces → (e : Edition) (a w q c : List ℕ) (ts us : List Token) → IsInParts e a w c ts us → IsReplaced e a w q c ts (tokens_of e w) us → IsInParts e a q c ts us
in_parts law e a w q c ts us h x =
    let n : Replaced e a w q c ts (tokens_of e w) us = replaced e a w q c ts (tokens_of e w) us x in
    record {
      is_text = x.is_new_text;
      is_part = x.is_piece_text;
      is_rest = h.is_rest;
      short = x.new_short;
      no_head = sym (head_moved law a w q c (drop 1 w) (n.is_piece.inner ++ 125 ∷ []) n.opens n.is_piece.parts) ∙ h.no_head;
      tokens = pieces_replaced e a w q c ts (tokens_of e w) us x;
      before = h.before;
      cut_before = h.cut_before;
      cut_behind = h.cut_behind;
      braced = x.braced;
    }

-- how the machine sees a text in parts
seen_in : (e : Edition) (a w c : List ℕ) (ts us : List Token) → IsInParts e a w c ts us → bytes_of (tokens_of e w) ≡ length w
    → all_sights e (a ++ (w ++ c)) ≡ sights_in (with_tokens e a ts) (with_tokens e w (tokens_of e w)) (with_tokens e c us)
seen_in e a w c ts us h bytes =
    ap (sights_of e (a ++ (w ++ c))) h.tokens ∙ sights_cut e a w c ts (tokens_of e w) us h.before bytes h.braced

-- ---- the call

within : (xs ys : List Token) (i : ℕ) → i < length xs → slice_get (xs ++ ys) i ≡ slice_get xs i
within [] ys i h = absurd (omega (arith, h))
within (x ∷ xs) ys zero h = refl
within (x ∷ xs) ys (suc i) h = within xs ys i (omega (arith, h))

front_known : (all ts us : List Token) → all ≡ ts ++ us → AreKnown all → AreKnown ts
front_known all ts us is known i t at plain =
    known i t (ap (λ (xs : List Token). slice_get xs i) is ∙ within ts us i (slice_get_within ts i t at) ∙ at) plain

-- the events of the call are as many as the piece has by itself
own_long : (g : Tables) (from m at made : ℕ) (k : SyntaxKind) (before old new behind whole : List Sight) (own es fs : List Event)
    → ExchangedAt g (before ++ (old ++ behind)) (before ++ (new ++ behind)) from k at made es fs → length (before ++ (old ++ behind)) + 3 < 2 ^ 64
    → before ++ (old ++ behind) ≡ whole → (c : SealedCall g whole k (runs m g whole (begin_of from))) → Makes c own
    → length (runs m g whole (begin_of from)).made.events ≡ made → length own ≡ length es
own_long g from m at made k before old new behind whole own es fs x short is =
    subst (λ (ss : List Sight). (c : SealedCall g ss k (runs m g ss (begin_of from))) → Makes c own → length (runs m g ss (begin_of from)).made.events ≡ made → length own ≡ length es) is
    (λ c makes count. as_many g (before ++ (old ++ behind)) from m x.exchange.steps k own es short c x.exchange.was (count ∙ sym x.made_is) makes x.was_makes)

-- the number of the node of a piece's call
numbered : (e : Edition) (text : List ℕ) (t : Tree) (p : Place) (k : SyntaxKind) (r : Reparser) (c : IsCalledPiece e text t p k r) (h : HasOwn e text t p k r c)
    → c.event.number ≡ length h.is_own.own + c.event.from
numbered e text t p k r c h =
    let es : List Event = events_in e text in
    let n : ℕ = c.event.number in
    let from : ℕ = c.event.from in
    let own : List Event = h.is_own.own in
    let long : length (reverse (take n es)) ≡ length (moved_events from (reverse own)) + length (before_call c.called).made.events =
    ap length h.is_own.events ∙ length-append (moved_events from (reverse own)) (before_call c.called).made.events in
    omega (arith, long, h.is_own.made_is, length-map (reverse own) (moved_event from), length-reverse own, length-reverse (take n es), length-take n es, slice_get_within es n (event.Node k from) c.event.event)

run_fits : (e : Edition) (text : List ℕ) (ss : List Sight) → IsUtf8 text → length text < 2 ^ 32 → length (events_in e text) < 2 ^ 32 - 1 → all_sights e text ≡ ss → Fits (run_of rust_tables start ss)
run_fits e text ss u small few is =
    let whole : List Sight = all_sights e text in
    let short : length whole < 2 ^ 32 = short_text e text u small in
    subst (λ (xs : List Sight). Fits (run_of rust_tables start xs)) is (record {
      at = omega (arith, short, few_at (fuel_of (length whole)) rust_tables whole start (omega (arith, short)));
      events = omega (arith, few, length-reverse (run_of rust_tables start whole).made.events);
    })

is_small : (e : Edition) (a w c : List ℕ) (ts us : List Token) (made : ℕ) (es : List Event) → IsInParts e a w c ts us → length (events_in e (a ++ (w ++ c))) < 2 ^ 32 - 1
    → all_sights e (a ++ (w ++ c)) ≡ sights_in (with_tokens e a ts) (with_tokens e w (tokens_of e w)) (with_tokens e c us) → (length es + 1) + made < 2 ^ 32 - 1
    → IsSmall rust_tables start (with_tokens e a ts) (with_tokens e w (tokens_of e w)) (with_tokens e c us) made es
is_small e a w c ts us made es h few is own = record {
  text = h.short;
  sights = omega (arith, short_text e (a ++ (w ++ c)) h.is_text h.short, ap length is);
  fits = run_fits e (a ++ (w ++ c)) _ h.is_text h.short few is;
  events = own;
}

pub laid_around : CallsMakeTheirOwn → HeadsEndBeforeBraces → PiecesAreLaidAround
laid_around law heads e a w q c ts us t p k r was now o x y h front is_q is_new short few few_new own_few own_few_new =
    let text : List ℕ = a ++ (w ++ c) in
    let g : Tables = rust_tables in
    let pa : Part = with_tokens e a ts in
    let pw : Part = with_tokens e w (tokens_of e w) in
    let pq : Part = with_tokens e q (tokens_of e q) in
    let pc : Part = with_tokens e c us in
    let d : IsCalledPiece e text t p k r = o.piece in
    let from : ℕ = d.event.from in
    let changed : IsReplaced e a w q c ts (tokens_of e w) us = record {
      is_text = h.is_text;
      is_new_text = is_new;
      is_piece_text = is_q;
      is_rest_text = h.is_rest;
      short = h.short;
      new_short = short;
      no_head = h.no_head;
      are_tokens = h.tokens;
      cut_before = h.before;
      cut_behind = bytes_in x;
      opens = h.braced.0;
      braced = y.braced;
    } in
    let new : IsInParts e a q c ts us = in_parts heads e a w q c ts us h changed in
    let seen : all_sights e text ≡ sights_in pa pw pc = seen_in e a w c ts us h (bytes_in x) in
    let new_seen : all_sights e (a ++ (q ++ c)) ≡ sights_in pa pq pc = seen_in e a q c ts us new (bytes_in y) in
    let own : HasOwn e text t p k r d = pieces_own law e text t p k r d h.is_text h.short few in
    let sights : AreSightsOf pa.sights ts = sights_are e a ts (front_known (tokens_of e text) ts (tokens_of e w ++ us) h.tokens (lexer_known e text)) in
    let at : (before_call d.called).place.at ≡ length pa.sights = sym o.count ∙ ap (λ (xs : List Token). length (seen_tokens xs)) front ∙ sym sights.count in
    let comes : ComesToCall g start d.exact.target k (sights_in pa pw pc) (length pa.sights) from =
    subst (λ (ss : List Sight). ComesToCall g start d.exact.target k ss (length pa.sights) from) seen
    (subst (λ (i : ℕ). ComesToCall g start d.exact.target k (all_sights e text) i from) at
    (subst (λ (i : ℕ). ComesToCall g start i k (all_sights e text) (before_call d.called).place.at from) d.target own.is_own.comes)) in
    let small : IsSmall g start pa pw pc from x.own = is_small e a w c ts us from x.own h few seen own_few in
    let new_small : IsSmall g start pa pq pc from y.own = is_small e a q c ts us from y.own new few_new new_seen own_few_new in
    let z : ExchangedAt g (sights_in pa pw pc) (sights_in pa pq pc) start k (length pa.sights) from x.own y.own =
    exchanged_at g start (first_op (rule_by_number r.number)) d.exact.target k pa.sights pw.sights pq.sights pc.sights from x.own y.own d.exact.rule comes
    (end_alike e w q (tokens_of e w) (tokens_of e q) h.braced y.braced) x.alone.alone y.alone.alone small.sights new_small.sights own_few own_few_new in
    let long : length own.is_own.own ≡ length x.own =
    own_long g start d.called.before (length pa.sights) from k pa.sights pw.sights pq.sights pc.sights (all_sights e text) own.is_own.own x.own y.own z small.sights (sym seen)
    d.called.call own.is_own.makes own.is_own.made_is in
    let number : d.event.number ≡ length x.own + from = numbered e text t p k r d own ∙ ap (λ (n : ℕ). n + from) long in
    let place : IsPlaceOf g start d.exact.target k attaching_kinds pa pw pc from = record {
      cut_before = h.cut_before;
      cut_behind = h.cut_behind;
      sights = sights;
      plain = next_plain e w (tokens_of e w) pc.sights h.braced.0;
      comes = comes;
      sealed = d.exact.listed;
      apart = d.exact.apart;
    } in
    let inner : nat_eq (length x.own + from) (root_of (events_of g start (sights_in pa pw pc))) ≡ false =
    sym (ap₂ (λ (n : ℕ) (ss : List Sight). nat_eq n (root_of (events_of g start ss))) number seen) ∙ d.event.inner in
    record {
      new = new;
      sights = seen;
      new_sights = new_seen;
      laid =
          fitted (kinds.Node node.SOURCE_FILE) k attaching_kinds g start (first_op (rule_by_number r.number)) d.exact.target pa pw pq pc from x.own y.own looks_short d.exact.rule place
          x.alone y.alone (end_alike e w q (tokens_of e w) (tokens_of e q) h.braced y.braced) inner small new_small;
    }
