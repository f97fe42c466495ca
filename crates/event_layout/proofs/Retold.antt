-- Where two texts differ in the text of one token, the same is laid of both but for its length.
use Rattle.std.proofs.Common.{◌≡◌, ℕ, zero, suc, ◌+◌, ◌-◌, ◌≤◌, ◌<◌, ◌^◌, List, [], ◌∷◌, ◌++◌, length, map, ap, ap₂, sym, ◌∙◌, refl, arith, subst, Option, Some, None, Bool, true, false, if◌then◌else◌, nat_lt, nat_eq, append_assoc, append-nil, slice_get}
use Rattle.std.specs.Prelude.{All, nat_le}
use Rattle.std.proofs.lemmas.Bool.{le-leb, lt-leb}
use Rattle.std.proofs.lemmas.List.{length-append, drop_all, map-append}
use Rattle.std.proofs.lemmas.List.Elements.{All-cons, All-nil, All-head, All-tail}
use Rattle.syntax_kind.specs.declared.syntax_kind.SyntaxKind.{SyntaxKind}
use Rattle.ras_front_end.specs.Reading.{takes, ends}
use Rattle.token_layout.specs.declared.span.Token.{Token as RawToken}
use Rattle.token_layout.specs.Laid.{IsCut}
use Rattle.grammar_machine.specs.declared.event.Event.{Event}
use Rattle.grammar_machine.specs.declared.event.Event.TheVariants.{Token, Piece, Node, Error}
use Rattle.grammar_machine.specs.declared.event.Part.{Part}
use Rattle.event_layout.specs.declared.layout.ParserError.{ParserError}
use Rattle.event_layout.specs.Starts.{number_at}
use Rattle.event_layout.specs.Trivia.{lead, outside_of}
use Rattle.event_layout.specs.Layout.{Given, Laying, given, added, pass_on, pass_of, pass_all_of, pass_trivia_of, join_on, join_of, kind_of_part, piece_on, piece_of, enter_of, exit_of, exit_all_of, fault_of, begin_with, begin_at_of, obey_at_of, plus_of, entering_of, going_of, advance_of, moves, moves_of, start_of, finish_of, laid_of}
use Rattle.event_layout.specs.Orders.{Order, begin_node, take_joined, take_part, end_node, say, nothing, ordered}
use Rattle.event_layout.specs.Amid.{Around, fault_amid, faults_amid, amid, Fits}
use Rattle.event_layout.specs.Retold.{fault_retold, LaidAlike, RetoldTokensAreLaid}
use Rattle.event_layout.proofs.Walking.{advance_on, advance_is}
use Rattle.event_layout.proofs.Filled.{cut_sum, start_fits}
use Rattle.event_layout.proofs.Amid.{passed_rest, lead_none, enter_on, exit_on, enter_is, exit_is, pass_on_fits, join_on_fits, piece_on_fits, enter_fits, ordered_fits, pass_on_in, join_on_in, piece_on_in, enter_in, exit_in, say_in, outside_in, trivia_none}
use Rattle.event_layout.proofs.Retelling.{Retelling, was, now, old_token, new_token, Retells, retold, Before, Leaf, steps_with, around, Behind, Both, ahead_of, past, both_is, back_in, whole_len, lead_both_ways, length_both_ways, pass_before, join_before, piece_before, enter_before, exit_before, say_before, outside_before, was_small, sum_both}

-- ---- behind the token

module _ (attaching : List SyntaxKind) (x o y : List ℕ) (l : Leaf) (room : length x + (length o + length y) < 2 ^ 32) where
  abbrev whole : List ℕ
  whole = x ++ (o ++ y)

  abbrev a : Around
  a = around l (length x) (length o)

  space : length y + (length x + length o) < 2 ^ 32
  space = omega (arith, room)

  pass_end : (ts : List RawToken) (p : Laying) → p.rest ≡ ts → Fits y p → pass_on (ts ++ []) (amid a p) ≡ amid a (pass_on ts p)
  pass_end [] p is h = refl
  pass_end (t ∷ ts) p is h = pass_on_in y whole attaching a (back_in x o y) space (t ∷ ts) p is (omega arith) h

  pub join_end : (k : SyntaxKind) (more : ℕ) (p : Laying) → Fits y p → join_of k more (amid a p) ≡ amid a (join_of k more p)
  join_end k more p h = join_on_in y whole attaching a (back_in x o y) space k more p.rest p refl (λ few. refl) h

  pub piece_end : (q : Part) (p : Laying) → Fits y p → piece_of whole q (amid a p) ≡ amid a (piece_of y q p)
  piece_end q p h = piece_on_in y whole attaching a (back_in x o y) space q p.rest p refl (λ few. refl) h

  pub enter_end : (k : SyntaxKind) (p : Laying) → enter_of k (amid a p) ≡ amid a (enter_of k p)
  enter_end k p = enter_in y whole attaching a (back_in x o y) space k p (λ some. absurd (omega (arith, some)))

  pub exit_end : (p : Laying) → exit_of (amid a p) ≡ amid a (exit_of p)
  exit_end p = exit_in y whole attaching a (back_in x o y) space p (λ some. absurd (omega (arith, some)))

  pub say_end : (m : ℕ) (p : Laying) → fault_of m (amid a p) ≡ amid a (fault_of m p)
  say_end m p = say_in y whole attaching a (back_in x o y) space m p

  pub outside_end : (k : SyntaxKind) (p : Laying) → Fits y p
      → outside_of whole attaching k (p.position + (length x + length o)) (p.rest ++ []) (lead p.rest) ≡ outside_of y attaching k p.position p.rest (lead p.rest)
  outside_end k p h = outside_in y whole attaching a (back_in x o y) space k p h (λ all. lead_none)

module _ (attaching : List SyntaxKind) (e : Retelling) (ok : Retells e) where
  back_small : length e.y < 2 ^ 32
  back_small = omega (arith, ok.small)

  -- what is done behind the token
  behind_on : (s t s' t' : Laying) (b : Behind e s t) (q : Laying) → s' ≡ amid (around b.leaf (length e.x) (length e.old)) q
      → t' ≡ amid (around b.leaf (length e.x) (length e.new)) q → Fits e.y q → Behind e s' t'
  behind_on s t s' t' b q f g h = record { leaf = b.leaf; part = q; was = f; is = g; fits = h; starts = b.starts; low = b.low }

  pass_both : (s t : Laying) → Both e s t → Both e (pass_of s) (pass_of t)
  pass_both u v (ahead_of front s h) =
      both_is e (pass_of s) (pass_on (front ++ old_token e ∷ e.back) s) (pass_of (retold e front s)) (pass_on (front ++ new_token e ∷ e.back) (retold e front s))
      (ap (λ ts. pass_on ts s) h.rest) refl (pass_before e ok front s h)
  pass_both u v (past s t b) =
      past (pass_of s) (pass_of t) (behind_on s t (pass_of s) (pass_of t) b (pass_of b.part)
      (ap pass_of b.was ∙ pass_end attaching e.x e.old e.y b.leaf ok.small b.part.rest b.part refl b.fits)
      (ap pass_of b.is ∙ pass_end attaching e.x e.new e.y b.leaf ok.new_small b.part.rest b.part refl b.fits)
      (pass_on_fits e.y back_small b.part.rest b.part refl b.fits))

  pass_all_both : (n : ℕ) (s t : Laying) → Both e s t → Both e (pass_all_of n s) (pass_all_of n t)
  unfolding pass_all_of
  pass_all_both zero s t h = h
  pass_all_both (suc n) s t h = pass_both (pass_all_of n s) (pass_all_of n t) (pass_all_both n s t h)

  join_both : (k : SyntaxKind) (more : ℕ) (s t : Laying) → Both e s t → Both e (join_of k more s) (join_of k more t)
  join_both k more u v (ahead_of front s h) =
      both_is e (join_of k more s) (join_on k more (front ++ old_token e ∷ e.back) s) (join_of k more (retold e front s)) (join_on k more (front ++ new_token e ∷ e.back) (retold e front s))
      (ap (λ ts. join_on k more ts s) h.rest) refl (join_before e ok k more front s h)
  join_both k more u v (past s t b) =
      past (join_of k more s) (join_of k more t) (behind_on s t (join_of k more s) (join_of k more t) b (join_of k more b.part)
      (ap (join_of k more) b.was ∙ join_end attaching e.x e.old e.y b.leaf ok.small k more b.part b.fits)
      (ap (join_of k more) b.is ∙ join_end attaching e.x e.new e.y b.leaf ok.new_small k more b.part b.fits)
      (join_on_fits e.y back_small k more b.part.rest b.part refl b.fits))

  piece_both : (q : Part) (s t : Laying) → lead s.rest ≡ 0 → Both e s t → Both e (piece_of (was e) q s) (piece_of (now e) q t)
  piece_both q u v none (ahead_of front s h) =
      both_is e (piece_of (was e) q s) (piece_on (was e) q (front ++ old_token e ∷ e.back) s) (piece_of (now e) q (retold e front s)) (piece_on (now e) q (front ++ new_token e ∷ e.back) (retold e front s))
      (ap (λ ts. piece_on (was e) q ts s) h.rest) refl (piece_before e ok q front s none h)
  piece_both q u v none (past s t b) =
      let clear : lead b.part.rest ≡ 0 = sym (ap lead (append-nil b.part.rest)) ∙ ap (λ (u : Laying). lead u.rest) (sym b.was) ∙ none in
      past (piece_of (was e) q s) (piece_of (now e) q t) (behind_on s t (piece_of (was e) q s) (piece_of (now e) q t) b (piece_of e.y q b.part)
      (ap (piece_of (was e) q) b.was ∙ piece_end attaching e.x e.old e.y b.leaf ok.small q b.part b.fits)
      (ap (piece_of (now e) q) b.is ∙ piece_end attaching e.x e.new e.y b.leaf ok.new_small q b.part b.fits)
      (piece_on_fits e.y back_small q b.part.rest b.part refl clear b.fits))

  enter_both : (k : SyntaxKind) (s t : Laying) → Both e s t → Both e (enter_of k s) (enter_of k t)
  enter_both k u v (ahead_of front s h) =
      both_is e (enter_of k s) (enter_on k (nat_lt s.depth (2 ^ 64 - 1)) s) (enter_of k (retold e front s)) (enter_on k (nat_lt s.depth (2 ^ 64 - 1)) (retold e front s))
      (enter_is k s) (enter_is k (retold e front s)) (enter_before e ok k (nat_lt s.depth (2 ^ 64 - 1)) front s refl h)
  enter_both k u v (past s t b) =
      past (enter_of k s) (enter_of k t) (behind_on s t (enter_of k s) (enter_of k t) b (enter_of k b.part)
      (ap (enter_of k) b.was ∙ enter_end attaching e.x e.old e.y b.leaf ok.small k b.part)
      (ap (enter_of k) b.is ∙ enter_end attaching e.x e.new e.y b.leaf ok.new_small k b.part)
      (enter_fits e.y back_small k b.part b.fits))

  exit_behind : (s t : Laying) → Behind e s t → Behind e (exit_of s) (exit_of t)
  exit_behind s t b =
      behind_on s t (exit_of s) (exit_of t) b (exit_of b.part)
      (ap exit_of b.was ∙ exit_end attaching e.x e.old e.y b.leaf ok.small b.part)
      (ap exit_of b.is ∙ exit_end attaching e.x e.new e.y b.leaf ok.new_small b.part)
      (ordered_fits e.y back_small attaching end_node b.part b.fits)

  exit_both : (s t : Laying) → Both e s t → Both e (exit_of s) (exit_of t)
  exit_both u v (ahead_of front s h) =
      both_is e (exit_of s) (exit_on (nat_lt 0 s.depth) s) (exit_of (retold e front s)) (exit_on (nat_lt 0 s.depth) (retold e front s))
      (exit_is s) (exit_is (retold e front s)) (exit_before e ok (nat_lt 0 s.depth) front s refl h)
  exit_both u v (past s t b) = past (exit_of s) (exit_of t) (exit_behind s t b)

  say_both : (m : ℕ) (s t : Laying) → Both e s t → Both e (fault_of m s) (fault_of m t)
  say_both m u v (ahead_of front s h) = say_before e ok m front s h
  say_both m u v (past s t b) =
      past (fault_of m s) (fault_of m t) (behind_on s t (fault_of m s) (fault_of m t) b (fault_of m b.part)
      (ap (fault_of m) b.was ∙ say_end attaching e.x e.old e.y b.leaf ok.small m b.part)
      (ap (fault_of m) b.is ∙ say_end attaching e.x e.new e.y b.leaf ok.new_small m b.part)
      (ordered_fits e.y back_small attaching (say m) b.part b.fits))

  lead_same : (s t : Laying) → Both e s t → lead s.rest ≡ lead t.rest
  lead_same u v (ahead_of front s h) = ap lead h.rest ∙ lead_both_ways front e.back (old_token e) (new_token e) refl
  lead_same u v (past s t b) = ap (λ (u : Laying). lead u.rest) b.was ∙ sym (ap (λ (u : Laying). lead u.rest) b.is)

  length_same : (s t : Laying) → Both e s t → length s.rest ≡ length t.rest
  length_same u v (ahead_of front s h) = ap length h.rest ∙ length_both_ways front e.back (old_token e) (new_token e)
  length_same u v (past s t b) = ap (λ (u : Laying). length u.rest) b.was ∙ sym (ap (λ (u : Laying). length u.rest) b.is)

  entering_same : (s t : Laying) → Both e s t → s.entering ≡ t.entering
  entering_same u v (ahead_of front s h) = refl
  entering_same u v (past s t b) = ap (λ (u : Laying). u.entering) b.was ∙ sym (ap (λ (u : Laying). u.entering) b.is)

  next_same : (s t : Laying) → Both e s t → s.next ≡ t.next
  next_same u v (ahead_of front s h) = refl
  next_same u v (past s t b) = ap (λ (u : Laying). u.next) b.was ∙ sym (ap (λ (u : Laying). u.next) b.is)

  depth_same : (s t : Laying) → Both e s t → s.depth ≡ t.depth
  depth_same u v (ahead_of front s h) = refl
  depth_same u v (past s t b) = ap (λ (u : Laying). u.depth) b.was ∙ sym (ap (λ (u : Laying). u.depth) b.is)

  outside_same : (k : SyntaxKind) (s t : Laying) → Both e s t
      → outside_of (was e) attaching k s.position s.rest (lead s.rest) ≡ outside_of (now e) attaching k t.position t.rest (lead t.rest)
  outside_same k u v (ahead_of front s h) =
      outside_before e ok attaching k front s h
      ∙ ap (outside_of (now e) attaching k s.position (front ++ new_token e ∷ e.back)) (lead_same s (retold e front s) (ahead_of front s h))
  outside_same k u v (past s t b) =
      let out : List ℕ → Laying → ℕ = λ w u. outside_of w attaching k u.position u.rest (lead u.rest) in
      let p = b.part in
      let n : lead (p.rest ++ []) ≡ lead p.rest = ap lead (append-nil p.rest) in
      ap (out (was e)) b.was
      ∙ ap (outside_of (was e) attaching k (p.position + (length e.x + length e.old)) (p.rest ++ [])) n
      ∙ outside_end attaching e.x e.old e.y b.leaf ok.small k p b.fits
      ∙ sym (ap (out (now e)) b.is
      ∙ ap (outside_of (now e) attaching k (p.position + (length e.x + length e.new)) (p.rest ++ [])) n
      ∙ outside_end attaching e.x e.new e.y b.leaf ok.new_small k p b.fits)

  -- ---- orders

  begin_both : (k : SyntaxKind) (n out : ℕ) (s t : Laying) → Both e s t → Both e (begin_with k n out s) (begin_with k n out t)
  begin_both k n out s t h =
      let u = enter_both k (pass_all_of out s) (pass_all_of out t) (pass_all_both out s t h) in
      pass_all_both (n - out) (enter_of k (pass_all_of out s)) (enter_of k (pass_all_of out t)) u

  trivia_both : (s t : Laying) → Both e s t → Both e (pass_trivia_of s) (pass_trivia_of t)
  trivia_both s t h =
      subst (λ n. Both e (pass_trivia_of s) (pass_all_of n t)) (lead_same s t h) (pass_all_both (lead s.rest) s t h)

  ordered_both : (o : Order) (s t : Laying) → Both e s t → Both e (ordered (was e) attaching o s) (ordered (now e) attaching o t)
  ordered_both (begin_node k) s t h =
      let n = lead s.rest in
      let out = outside_of (was e) attaching k s.position s.rest n in
      subst (Both e (begin_with k n out s)) (ap₂ (λ n out. begin_with k n out t) (lead_same s t h) (outside_same k s t h)) (begin_both k n out s t h)
  ordered_both (take_joined k more) s t h = join_both k more (pass_trivia_of s) (pass_trivia_of t) (trivia_both s t h)
  ordered_both (take_part q) s t h = piece_both q (pass_trivia_of s) (pass_trivia_of t) (trivia_none (was e) (was_small e ok) s) (trivia_both s t h)
  ordered_both end_node s t h = exit_both s t h
  ordered_both (say m) s t h = say_both m s t h
  ordered_both nothing s t h = h

  -- ---- moves

  set_both : (n m : ℕ) (s t : Laying) → Both e s t → Both e (record s { next = n; entering = m }) (record t { next = n; entering = m })
  set_both n m u v (ahead_of front s h) = ahead_of front (record s { next = n; entering = m }) (record {
    rest = h.rest;
    fits = record { sum = h.fits.sum; cut = h.fits.cut; whole = h.fits.whole; short = h.fits.short };
    whole = h.whole;
    took = h.took;
    low = h.low;
  })
  set_both n m u v (past s t b) =
      let set : Laying → Laying = λ u. record u { next = n; entering = m } in
      past (set s) (set t) (behind_on s t (set s) (set t) b (set b.part) (ap set b.was) (ap set b.is)
      (record { sum = b.fits.sum; cut = b.fits.cut; whole = b.fits.whole; short = b.fits.short }))

  enter_set : (m : ℕ) (s t : Laying) → Both e s t → s.next ≡ t.next → Both e (record s { entering = m }) (record t { entering = m })
  enter_set m s t h same =
      subst (λ i. Both e (record s { entering = m }) (record t { next = i; entering = m })) same (set_both s.next m s t h)

  begin_at_both : (g : Given) (o : Option Event) (s t : Laying) → Both e s t
      → Both e (begin_at_of (record g { bytes = was e; attaching = attaching }) o s) (begin_at_of (record g { bytes = now e; attaching = attaching }) o t)
  begin_at_both g None s t h = h
  begin_at_both g (Some (Node k from)) s t h = ordered_both (begin_node k) s t h
  begin_at_both g (Some (Token k signs)) s t h = h
  begin_at_both g (Some (Piece p last)) s t h = h
  begin_at_both g (Some (Error m)) s t h = h

  node_both : (b : Bool) (s t : Laying) → Both e s t → Both e (if b then s else exit_of s) (if b then t else exit_of t)
  node_both true s t h = h
  node_both false s t h = exit_both s t h

  obey_both : (g : Given) (o : Option Event) (n : ℕ) (s t : Laying) → Both e s t
      → Both e (obey_at_of (record g { bytes = was e; attaching = attaching }) o n s) (obey_at_of (record g { bytes = now e; attaching = attaching }) o n t)
  obey_both g None n s t h = h
  obey_both g (Some (Node k from)) n s t h = node_both (nat_eq n g.root) s t h
  obey_both g (Some (Token k signs)) n s t h = ordered_both (take_joined k (signs - 1)) s t h
  obey_both g (Some (Piece p true)) n s t h = ordered_both (take_joined (kind_of_part p) 0) s t h
  obey_both g (Some (Piece p false)) n s t h = ordered_both (take_part p) s t h
  obey_both g (Some (Error m)) n s t h = ordered_both (say m) s t h

  module _ (g : Given) where
    abbrev old_given : Given
    old_given = record g { bytes = was e; attaching = attaching }

    abbrev new_given : Given
    new_given = record g { bytes = now e; attaching = attaching }

    entering_both : (n : ℕ) (s t : Laying) → Both e s t → Both e (entering_of old_given n s) (entering_of new_given n t)
    entering_both n s t h =
        let m = number_at g.links.before n in
        begin_at_both g (slice_get g.events n) (record s { entering = m }) (record t { entering = m }) (enter_set m s t h (next_same s t h))

    going_both : (n : ℕ) (s t : Laying) → Both e s t → Both e (going_of old_given n s) (going_of new_given n t)
    going_both n s t h =
        let i = plus_of n in
        let m = number_at g.links.last (plus_of n) in
        obey_both g (slice_get g.events n) n (record s { next = i; entering = m }) (record t { next = i; entering = m }) (set_both i m s t h)

    advance_by : (b : Bool) (s t : Laying) → Both e s t
        → Both e (advance_on old_given b s) (if b then entering_of new_given (s.entering - 1) t else going_of new_given s.next t)
    advance_by true s t h = entering_both (s.entering - 1) s t h
    advance_by false s t h = going_both s.next s t h

    advance_both : (s t : Laying) → Both e s t → Both e (advance_of old_given s) (advance_of new_given t)
    advance_both s t h =
        let b = nat_lt 0 s.entering in
        let on : ℕ → ℕ → Laying = λ n m. if nat_lt 0 m then entering_of new_given (m - 1) t else going_of new_given n t in
        both_is e (advance_of old_given s) (advance_on old_given b s) (advance_of new_given t) (on s.next s.entering)
        (advance_is old_given s)
        (advance_is new_given t ∙ sym (ap₂ on (next_same s t h) (entering_same s t h)))
        (advance_by b s t h)

    moves_both : (n : ℕ) (s t : Laying) → Both e s t → Both e (moves n old_given s) (moves n new_given t)
    unfolding moves
    moves_both zero s t h = h
    moves_both (suc n) s t h = advance_both (moves n old_given s) (moves n new_given t) (moves_both n s t h)

  -- ---- the end

  exit_all_behind : (n : ℕ) (s t : Laying) → Behind e s t → Behind e (exit_all_of n s) (exit_all_of n t)
  unfolding exit_all_of
  exit_all_behind zero s t h = h
  exit_all_behind (suc n) s t h = exit_behind (exit_all_of n s) (exit_all_of n t) (exit_all_behind n s t h)

  none_before : (front : List RawToken) (s : Laying) → Before e front s → s.rest ≡ [] → ⊥
  none_before front s h none =
      omega (arith, ap length h.rest, ap length none, length-append front (old_token e ∷ e.back))

  is_behind : (s t : Laying) → Both e s t → s.rest ≡ [] → Behind e s t
  is_behind u v (ahead_of front s h) none = absurd (none_before front s h none)
  is_behind u v (past s t b) none = b

  abbrev turned : ParserError → ParserError
  turned = fault_retold (length e.x) (length e.old) (length e.new)

  low_stay : (fs : List ParserError) → All (λ f. f.position ≤ length e.x) fs → map turned fs ≡ fs
  low_stay [] low = refl
  low_stay (f ∷ fs) low =
      let P : ParserError → Type 0 = λ f. f.position ≤ length e.x in
      let one : turned f ≡ f = ap (λ b. if b then f else record f { position = (f.position - length e.old) + length e.new }) (le-leb f.position (length e.x) (All-head P f fs low)) in
      ap₂ (λ f fs. f ∷ fs) one (low_stay fs (All-tail P f fs low))

  high_turn : (fs : List ParserError) → map turned (faults_amid (length e.x + length e.old) 0 fs) ≡ faults_amid (length e.x + length e.new) 0 fs
  high_turn [] = refl
  high_turn (f ∷ fs) =
      let g = fault_amid (length e.x + length e.old) 0 f in
      let high : nat_le g.position (length e.x) ≡ false = lt-leb g.position (length e.x) (omega (arith, ok.some)) in
      let at : (g.position - length e.old) + length e.new ≡ f.position + (length e.x + length e.new) = omega arith in
      let one : turned g ≡ fault_amid (length e.x + length e.new) 0 f =
      ap (λ b. if b then g else record g { position = (g.position - length e.old) + length e.new }) high ∙ ap (λ n. record g { position = n }) at in
      ap₂ (λ f fs. f ∷ fs) one (high_turn fs)

  high_late : (fs : List ParserError) → All (λ f. length e.x + length e.old ≤ f.position) (faults_amid (length e.x + length e.old) 0 fs)
  high_late [] = All-nil (λ f. length e.x + length e.old ≤ f.position)
  high_late (f ∷ fs) =
      All-cons (λ f. length e.x + length e.old ≤ f.position) (fault_amid (length e.x + length e.old) 0 f) (faults_amid (length e.x + length e.old) 0 fs) (omega arith) (high_late fs)

  ended_alike : (s t : Laying) → Behind e s t → LaidAlike (added ends s) (added ends t) e.x e.old e.new
  ended_alike s t b =
      let l = b.leaf in
      let p = b.part in
      let n : ℕ → ℕ = λ n. l.ahead + (n + l.after) in
      let steps_are : (k : ℕ) → (steps_with l k ++ p.steps) ++ ends ∷ [] ≡ l.before ++ takes l.kind (n k) ∷ (p.steps ++ ends ∷ []) =
      λ k. append_assoc (steps_with l k) p.steps (ends ∷ []) ∙ append_assoc l.before (takes l.kind (n k) ∷ []) (p.steps ++ ends ∷ []) in
      let old_faults : s.faults ≡ l.faults ++ faults_amid (length e.x + length e.old) 0 p.faults = ap (λ (u : Laying). u.faults) b.was in
      let new_faults : t.faults ≡ l.faults ++ faults_amid (length e.x + length e.new) 0 p.faults = ap (λ (u : Laying). u.faults) b.is in
      record {
        before = l.before;
        behind = p.steps ++ ends ∷ [];
        leaf = l.kind;
        ahead = l.ahead;
        after = l.after;
        steps = ap (λ (u : Laying). u.steps ++ ends ∷ []) b.was ∙ steps_are (length e.old);
        new_steps = ap (λ (u : Laying). u.steps ++ ends ∷ []) b.is ∙ steps_are (length e.new);
        starts = b.starts;
        new_faults =
            new_faults ∙ sym (ap (map turned) old_faults ∙ map-append turned l.faults (faults_amid (length e.x + length e.old) 0 p.faults)
            ∙ ap₂ (λ fs gs. fs ++ gs) (low_stay l.faults b.low) (high_turn p.faults));
        early = l.faults;
        late = faults_amid (length e.x + length e.old) 0 p.faults;
        faults_are = old_faults;
        are_early = b.low;
        are_late = high_late p.faults;
      }

  finish_alike : (s t : Laying) → Both e s t → LaidAlike (finish_of s) (finish_of t) e.x e.old e.new
  finish_alike s t h =
      let n = length s.rest in
      let u = pass_all_of n s in
      let v = pass_all_of (length t.rest) t in
      let over : u.rest ≡ [] = passed_rest n s ∙ drop_all n s.rest (omega arith) in
      let both : Both e u v = subst (λ m. Both e u (pass_all_of m t)) (length_same s t h) (pass_all_both n s t h) in
      let b = is_behind u v both over in
      let closed : Behind e (exit_all_of u.depth u) (exit_all_of v.depth v) =
      subst (λ d. Behind e (exit_all_of u.depth u) (exit_all_of d v)) (depth_same u v both) (exit_all_behind u.depth u v b) in
      ended_alike (exit_all_of u.depth u) (exit_all_of v.depth v) closed

  laid_alike : (root : SyntaxKind) (es : List Event) (front : List RawToken) → IsCut (front ++ old_token e ∷ e.back) (was e)
      → LaidAlike (laid_of root attaching (was e) (front ++ old_token e ∷ e.back) es) (laid_of root attaching (now e) (front ++ new_token e ∷ e.back) es) e.x e.old e.new
  laid_alike root es front cut =
      let g = given attaching (was e) es in
      let s = start_of root g (front ++ old_token e ∷ e.back) in
      let first : Before e front s = record {
        rest = refl;
        fits = start_fits (was e) (front ++ old_token e ∷ e.back) s cut refl refl refl;
        whole = λ none. refl;
        took = refl;
        low = All-nil (λ f. f.position ≤ length e.x);
      } in
      let n = moves_of (length es) in
      finish_alike (moves n g s) (moves n (given attaching (now e) es) (retold e front s)) (moves_both g n s (retold e front s) (ahead_of front s first))

pub retold_laid : RetoldTokensAreLaid
retold_laid root attaching es s z ts us x old new y h small new_small =
    let e : Retelling = record { x = x; old = old; new = new; y = y; kind = h.kind; back = h.back } in
    let was_cut : IsCut (h.front ++ old_token e ∷ h.back) (was e) = subst (λ w. IsCut (h.front ++ old_token e ∷ h.back) w) h.text (subst (λ l. IsCut l s) h.tokens h.cut) in
    let sum = cut_sum (h.front ++ old_token e ∷ h.back) (was e) was_cut in
    let ok : Retells e = record {
      small = omega (arith, small, ap length h.text, whole_len x old y);
      new_small = omega (arith, new_small, ap length h.new_text, whole_len x new y);
      some = h.some;
      cut = omega (arith, sum, sum_both h.front (old_token e ∷ h.back), cut_sum h.front x h.cut_before, whole_len x old y);
      lines = h.lines;
      no_dots = h.no_dots;
    } in
    let l = laid_alike attaching e ok root es h.front was_cut in
    let all : List ℕ → List RawToken → List ℕ → List RawToken → Type 0 = λ s ts z us. LaidAlike (laid_of root attaching s ts es) (laid_of root attaching z us es) x old new in
    subst (λ w. all w ts z us) (sym h.text) (subst (λ l. all (was e) l z us) (sym h.tokens)
    (subst (λ w. all (was e) (h.front ++ old_token e ∷ h.back) w us) (sym h.new_text) (subst (λ l. all (was e) (h.front ++ old_token e ∷ h.back) (now e) l) (sym h.new_tokens) l)))
