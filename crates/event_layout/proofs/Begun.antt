-- A leaf begins where one of the lexer's tokens begins, or beside a dot.
use Rattle.std.proofs.Common.{◌≡◌, ⊎_elim, ℕ, zero, suc, ◌+◌, ◌-◌, ◌≤◌, ◌<◌, ◌^◌, List, [], ◌∷◌, ◌++◌, length, take, drop, ap, sym, ◌∙◌, refl, arith, subst, Option, Some, None, Bool, true, false, if◌then◌else◌, nat_lt, nat_eq, append_assoc, slice_get, get_or}
use Rattle.std.specs.Prelude.{position}
use Rattle.std.proofs.lemmas.Bool.{cases_lt, eqb-true}
use Rattle.std.proofs.lemmas.List.{length-append, length-drop, length-take, take-append-le, take-append-drop, take_all, get_or-take, get_or-drop}
use Rattle.std.proofs.lemmas.List.Quantifiers.{position-Some}
use Rattle.std.proofs.lemmas.Option.{slice_get-get_or}
use Rattle.std.proofs.Math.Seq.{take-append_seam}
use Rattle.syntax_kind.specs.declared.syntax_kind.SyntaxKind.{SyntaxKind}
use Rattle.ras_front_end.specs.Reading.{FrontStep, begins, takes, ends}
use Rattle.token_layout.specs.declared.span.Token.{Token as RawToken}
use Rattle.token_layout.specs.Laid.{IsCut}
use Rattle.grammar_machine.specs.declared.event.Event.{Event}
use Rattle.grammar_machine.specs.declared.event.Event.TheVariants.{Token, Piece, Node, Error}
use Rattle.grammar_machine.specs.declared.event.Part.{Part}
use Rattle.grammar_machine.specs.declared.event.Part.TheVariants.{Whole, Dot, Fraction}
use Rattle.event_layout.specs.Starts.{number_at}
use Rattle.event_layout.specs.Trivia.{lead, later_of, part_of, outside_of}
use Rattle.event_layout.specs.Layout.{Given, Laying, given, leaf_of, pass_on, pass_all_of, pass_trivia_of, joined_len, join_on, kind_of_part, len_of_part, cut_at, piece_on, enter_of, exit_of, exit_all_of, begin_at_of, obey_at_of, plus_of, moves, moves_of, start_of, finish_of, laid_of, dot_of}
use Rattle.event_layout.specs.Orders.{Order, begin_node, take_joined, take_part, end_node, say, nothing, ordered}
use Rattle.event_layout.specs.Amid.{sum_len, first_len, Fits}
use Rattle.event_layout.specs.Filled.{bytes_taken}
use Rattle.event_layout.specs.Retold.{AreCutAt, LeavesBeginInTokens}
use Rattle.event_layout.proofs.Bytes.{bytes_both}
use Rattle.event_layout.proofs.Walking.{advance_on, advance_is}
use Rattle.event_layout.proofs.Filled.{cut_sum, start_fits}
use Rattle.event_layout.proofs.Amid.{sum_split, joined_is, enter_on, exit_on, enter_is, exit_is, pass_on_fits, join_on_fits, piece_on_fits, enter_on_fits, exit_on_fits, trivia_none}
use Rattle.event_layout.proofs.Retelling.{sum_both}
use Rattle.event_layout.proofs.Cutting.{dot_found, dot_place}

-- ---- what orders keep, moves keep

module _ (g : Given) (P : Laying → Type 0) (by_order : (o : Order) (s : Laying) → P s → P (ordered g.bytes g.attaching o s))
    (by_set : (n m : ℕ) (s : Laying) → P s → P (record s { next = n; entering = m })) where
  begin_at_keeps : (o : Option Event) (s : Laying) → P s → P (begin_at_of g o s)
  begin_at_keeps None s h = h
  begin_at_keeps (Some (Node k from)) s h = by_order (begin_node k) s h
  begin_at_keeps (Some (Token k signs)) s h = h
  begin_at_keeps (Some (Piece p last)) s h = h
  begin_at_keeps (Some (Error m)) s h = h

  node_keeps : (b : Bool) (s : Laying) → P s → P (if b then s else exit_of s)
  node_keeps true s h = h
  node_keeps false s h = by_order end_node s h

  obey_keeps : (o : Option Event) (n : ℕ) (s : Laying) → P s → P (obey_at_of g o n s)
  obey_keeps None n s h = h
  obey_keeps (Some (Node k from)) n s h = node_keeps (nat_eq n g.root) s h
  obey_keeps (Some (Token k signs)) n s h = by_order (take_joined k (signs - 1)) s h
  obey_keeps (Some (Piece p true)) n s h = by_order (take_joined (kind_of_part p) 0) s h
  obey_keeps (Some (Piece p false)) n s h = by_order (take_part p) s h
  obey_keeps (Some (Error m)) n s h = by_order (say m) s h

  advance_keeps_on : (b : Bool) (s : Laying) → P s → P (advance_on g b s)
  advance_keeps_on true s h =
      let m = number_at g.links.before (s.entering - 1) in
      begin_at_keeps (slice_get g.events (s.entering - 1)) (record s { entering = m }) (by_set s.next m s h)
  advance_keeps_on false s h =
      let n = plus_of s.next in
      let m = number_at g.links.last n in
      obey_keeps (slice_get g.events s.next) s.next (record s { next = n; entering = m }) (by_set n m s h)

  pub moves_keep : (n : ℕ) (s : Laying) → P s → P (moves n g s)
  unfolding moves
  moves_keep zero s h = h
  moves_keep (suc n) s h =
      let t = moves n g s in
      subst P (sym (advance_is g t)) (advance_keeps_on (nat_lt 0 t.entering) t (moves_keep n s h))

module _ (text : List ℕ) (ts : List RawToken) (cut : IsCut ts text) (small : length text < 2 ^ 32) where
  -- a token begins there, if no dot is beside it
  abbrev Good : ℕ → Type 0
  Good n = (slice_get text n ≡ Some 46 → ⊥) → ((m : ℕ) → suc m ≡ n → slice_get text m ≡ Some 46 → ⊥) → AreCutAt ts n

  record Begun (s : Laying) : Type 0 where
    fits : Fits text s
    exact : bytes_taken s.steps ≡ s.position
    gone : List RawToken
    is : ts ≡ gone ++ s.rest
    here : Good s.position
    marks : (n : ℕ) → Good (bytes_taken (take n s.steps))

  marks_more : (steps : List FrontStep) (x : FrontStep) → ((n : ℕ) → Good (bytes_taken (take n steps))) → Good (bytes_taken (steps ++ x ∷ []))
      → (n : ℕ) → Good (bytes_taken (take n (steps ++ x ∷ [])))
  marks_more steps x marks all n =
      ⊎_elim
      (λ far. subst (λ l. Good (bytes_taken l)) (sym (take_all n (steps ++ x ∷ []) (omega (arith, far, length-append steps (x ∷ []))))) all)
      (λ near. subst (λ l. Good (bytes_taken l)) (sym (take-append-le n steps (x ∷ []) near)) (marks n))
      (cases_lt (length steps) n)

  -- where the first token that is left is whole
  good_whole : (gone : List RawToken) (s : Laying) → Fits text s → s.cut ≡ 0 → ts ≡ gone ++ s.rest → Good s.position
  good_whole gone s fits whole is before behind =
      record {
        front = gone;
        back = s.rest;
        is = is;
        bytes = omega (arith, fits.sum, whole, cut_sum ts text cut, ap sum_len is, sum_both gone s.rest);
      }

  leaf_begun : (k : SyntaxKind) (n : ℕ) (rest gone : List RawToken) (c : ℕ) (s : Laying) → Begun s → Fits text (leaf_of k n (record s { rest = rest; cut = c }))
      → s.position + n < 2 ^ 32 → ts ≡ gone ++ rest → Good (later_of s.position n) → Begun (leaf_of k n (record s { rest = rest; cut = c }))
  leaf_begun k n rest gone c s h fits room is good =
      let exact : bytes_taken (s.steps ++ takes k n ∷ []) ≡ later_of s.position n = omega (arith, bytes_both s.steps (takes k n ∷ []), h.exact, room) in
      record {
        fits = fits;
        exact = exact;
        gone = gone;
        is = is;
        here = good;
        marks = marks_more s.steps (takes k n) h.marks (subst Good (sym exact) good);
      }

  pass_on_begun : (us : List RawToken) (s : Laying) → s.rest ≡ us → Begun s → Begun (pass_on us s)
  pass_on_begun [] s e h = h
  pass_on_begun (t ∷ us) s e h =
      let fits = pass_on_fits text small (t ∷ us) s e h.fits in
      let gone = h.gone ++ t ∷ [] in
      let is : ts ≡ gone ++ us = h.is ∙ ap (λ l. h.gone ++ l) e ∙ sym (append_assoc h.gone (t ∷ []) us) in
      leaf_begun t.kind (t.len - s.cut) us gone 0 s h fits (omega (arith, h.fits.sum, h.fits.cut, ap sum_len e, ap first_len e, small)) is
      (good_whole gone (pass_on (t ∷ us) s) fits refl is)

  pass_all_begun : (n : ℕ) (s : Laying) → Begun s → Begun (pass_all_of n s)
  unfolding pass_all_of
  pass_all_begun zero s h = h
  pass_all_begun (suc n) s h = pass_on_begun (pass_all_of n s).rest (pass_all_of n s) refl (pass_all_begun n s h)

  join_on_begun : (k : SyntaxKind) (more : ℕ) (us : List RawToken) (s : Laying) → s.rest ≡ us → Begun s → Begun (join_on k more us s)
  join_on_begun k more [] s e h = h
  join_on_begun k more (t ∷ us) s e h =
      let fits = join_on_fits text small k more (t ∷ us) s e h.fits in
      let gone = h.gone ++ t ∷ take more us in
      let is : ts ≡ gone ++ drop more us =
      h.is ∙ ap (λ l. h.gone ++ l) e ∙ ap (λ l. h.gone ++ t ∷ l) (sym (take-append-drop more us)) ∙ sym (append_assoc h.gone (t ∷ take more us) (drop more us)) in
      let all = ap sum_len e in
      let n = joined_is (t.len - s.cut) (take more us) (omega (arith, sum_split more us, all, h.fits.short, small)) in
      leaf_begun k (joined_len (t.len - s.cut) (take more us)) (drop more us) gone 0 s h fits
      (omega (arith, h.fits.sum, h.fits.cut, all, ap first_len e, small, n, sum_split more us)) is
      (good_whole gone (join_on k more (t ∷ us) s) fits refl is)

  -- the dot that is found
  dot_at : (start n dot : ℕ) → position (λ b. nat_eq b 46) (part_of text start n) ≡ Some dot → slice_get text (start + dot) ≡ Some 46
  dot_at start n dot f =
      let part = part_of text start n in
      let found = position-Some (λ b. nat_eq b 46) part dot 0 f in
      let most = length-take n (drop start text) in
      let long = length-drop start text in
      let is : get_or text (start + dot) 0 ≡ 46 =
      sym (get_or-drop start text dot 0) ∙ sym (get_or-take n (drop start text) dot 0 (omega (arith, found.0, most))) ∙ eqb-true (get_or part dot 0) 46 found.1 in
      slice_get-get_or text (start + dot) 0 (omega (arith, found.0, most, long)) ∙ ap Some is

  good_cut : (p : Part) (s : Laying) (dot : ℕ) → slice_get text (s.position + dot) ≡ Some 46 → s.position + dot < length text → Good s.position → Good (later_of s.position (len_of_part p dot))
  good_cut Whole s dot is within good before behind =
      let at : s.position + dot ≡ later_of s.position (len_of_part Whole dot) = omega (arith, within, small) in
      absurd (before (subst (λ n. slice_get text n ≡ Some 46) at is))
  good_cut Dot s dot is within good before behind =
      let at : suc (s.position + dot) ≡ later_of s.position (len_of_part Dot dot) = omega (arith, within, small) in
      absurd (behind (s.position + dot) at is)
  good_cut Fraction s dot is within good before behind =
      let at : s.position ≡ later_of s.position (len_of_part Fraction dot) = omega (arith, within, small) in
      subst Good at good before behind

  part_len : (p : Part) (dot : ℕ) → len_of_part p dot ≤ dot + 1
  part_len Whole dot = omega arith
  part_len Dot dot = omega arith
  part_len Fraction dot = omega arith

  cut_at_begun : (p : Part) (k : SyntaxKind) (o : Option ℕ) (n : ℕ) (s : Laying) → dot_of k (part_of text s.position n) ≡ o → Begun s → Fits text (cut_at p o s) → Begun (cut_at p o s)
  cut_at_begun p k None n s f h fits = h
  cut_at_begun p k (Some dot) n s f h fits =
      let found = dot_found k (part_of text s.position n) dot f in
      let within : s.position + dot < length text = omega (arith, found.0, length-take n (drop s.position text), length-drop s.position text) in
      leaf_begun (kind_of_part p) (len_of_part p dot) s.rest h.gone (later_of s.cut (len_of_part p dot)) s h fits
      (omega (arith, within, part_len p dot, small)) h.is (good_cut p s dot (dot_at s.position n dot (dot_place k (part_of text s.position n) dot f)) within h.here)

  piece_on_begun : (p : Part) (us : List RawToken) (s : Laying) → s.rest ≡ us → lead s.rest ≡ 0 → Begun s → Begun (piece_on text p us s)
  piece_on_begun p [] s e none h = h
  piece_on_begun p (t ∷ us) s e none h =
      cut_at_begun p t.kind (dot_of t.kind (part_of text s.position (t.len - s.cut))) (t.len - s.cut) s refl h (piece_on_fits text small p (t ∷ us) s e none h.fits)

  -- steps that take nothing
  same_bytes : (steps : List FrontStep) (x : FrontStep) → bytes_taken (x ∷ []) ≡ 0 → bytes_taken (steps ++ x ∷ []) ≡ bytes_taken steps
  same_bytes steps x none = omega (arith, bytes_both steps (x ∷ []), none)

  step_marks : (x : FrontStep) (s : Laying) → bytes_taken (x ∷ []) ≡ 0 → Begun s → (n : ℕ) → Good (bytes_taken (take n (s.steps ++ x ∷ [])))
  step_marks x s none h = marks_more s.steps x h.marks (subst Good (sym (same_bytes s.steps x none ∙ h.exact)) h.here)

  enter_on_begun : (k : SyntaxKind) (b : Bool) (s : Laying) → Begun s → Begun (enter_on k b s)
  enter_on_begun k true s h = record {
    fits = enter_on_fits text small k true s h.fits;
    exact = same_bytes s.steps (begins k) refl ∙ h.exact;
    gone = h.gone;
    is = h.is;
    here = h.here;
    marks = step_marks (begins k) s refl h;
  }
  enter_on_begun k false s h = h

  exit_on_begun : (b : Bool) (s : Laying) → Begun s → Begun (exit_on b s)
  exit_on_begun true s h = record {
    fits = exit_on_fits text small true s h.fits;
    exact = same_bytes s.steps ends refl ∙ h.exact;
    gone = h.gone;
    is = h.is;
    here = h.here;
    marks = step_marks ends s refl h;
  }
  exit_on_begun false s h = h

  enter_begun : (k : SyntaxKind) (s : Laying) → Begun s → Begun (enter_of k s)
  enter_begun k s h = subst Begun (sym (enter_is k s)) (enter_on_begun k (nat_lt s.depth (2 ^ 64 - 1)) s h)

  exit_begun : (s : Laying) → Begun s → Begun (exit_of s)
  exit_begun s h = subst Begun (sym (exit_is s)) (exit_on_begun (nat_lt 0 s.depth) s h)

  same_begun : (s t : Laying) → Fits text t → s.rest ≡ t.rest → s.position ≡ t.position → s.steps ≡ t.steps → Begun s → Begun t
  same_begun s t fits rest at steps h = record {
    fits = fits;
    exact = sym (ap bytes_taken steps) ∙ h.exact ∙ at;
    gone = h.gone;
    is = h.is ∙ ap (λ l. h.gone ++ l) rest;
    here = subst Good at h.here;
    marks = λ n. subst (λ l. Good (bytes_taken (take n l))) steps (h.marks n);
  }

  ordered_begun : (attaching : List SyntaxKind) (o : Order) (s : Laying) → Begun s → Begun (ordered text attaching o s)
  ordered_begun attaching (begin_node k) s h =
      let out = outside_of text attaching k s.position s.rest (lead s.rest) in
      pass_all_begun (lead s.rest - out) (enter_of k (pass_all_of out s)) (enter_begun k (pass_all_of out s) (pass_all_begun out s h))
  ordered_begun attaching (take_joined k more) s h = join_on_begun k more (pass_trivia_of s).rest (pass_trivia_of s) refl (pass_all_begun (lead s.rest) s h)
  ordered_begun attaching (take_part p) s h = piece_on_begun p (pass_trivia_of s).rest (pass_trivia_of s) refl (trivia_none text small s) (pass_all_begun (lead s.rest) s h)
  ordered_begun attaching end_node s h = exit_begun s h
  ordered_begun attaching (say m) s h =
      same_begun s (ordered text attaching (say m) s) (record { sum = h.fits.sum; cut = h.fits.cut; whole = h.fits.whole; short = h.fits.short }) refl refl refl h
  ordered_begun attaching nothing s h = h

  set_begun : (n m : ℕ) (s : Laying) → Begun s → Begun (record s { next = n; entering = m })
  set_begun n m s h =
      same_begun s (record s { next = n; entering = m }) (record { sum = h.fits.sum; cut = h.fits.cut; whole = h.fits.whole; short = h.fits.short }) refl refl refl h

  exit_all_begun : (n : ℕ) (s : Laying) → Begun s → Begun (exit_all_of n s)
  unfolding exit_all_of
  exit_all_begun zero s h = h
  exit_all_begun (suc n) s h = exit_begun (exit_all_of n s) (exit_all_begun n s h)

  finish_marks : (s : Laying) → Begun s → (n : ℕ) → Good (bytes_taken (take n (finish_of s).steps))
  finish_marks s h =
      let p = pass_all_of (length s.rest) s in
      let q = exit_all_of p.depth p in
      step_marks ends q refl (exit_all_begun p.depth p (pass_all_begun (length s.rest) s h))

  start_begun : (root : SyntaxKind) (g : Given) → Begun (start_of root g ts)
  start_begun root g =
      let s = start_of root g ts in
      let fits = start_fits text ts s cut refl refl refl in
      let here : Good 0 = good_whole [] s fits refl refl in
      record {
        fits = fits;
        exact = refl;
        gone = [];
        is = refl;
        here = here;
        marks = marks_more [] (begins root) (none_marks here) here;
      }
    where
      none_marks : Good 0 → (n : ℕ) → Good (bytes_taken (take n []))
      none_marks good zero = good
      none_marks good (suc n) = good

  pub laid_marks : (root : SyntaxKind) (attaching : List SyntaxKind) (es : List Event) (n : ℕ) → Good (bytes_taken (take n (laid_of root attaching text ts es).steps))
  laid_marks root attaching es =
      let g = given attaching text es in
      let s = start_of root g ts in
      let n = moves_of (length es) in
      finish_marks (moves n g s) (moves_keep g Begun (ordered_begun attaching) set_begun n s (start_begun root g))

pub leaves_begin : LeavesBeginInTokens
leaves_begin root attaching es s ts before behind cut small steps =
    let taken : take (length before) (laid_of root attaching s ts es).steps ≡ before = ap (take (length before)) steps ∙ take-append_seam before behind in
    let good = laid_marks s ts cut small root attaching es (length before) in
    let at : bytes_taken (take (length before) (laid_of root attaching s ts es).steps) ≡ bytes_taken before = ap bytes_taken taken in
    subst (λ n. (slice_get s n ≡ Some 46 → ⊥) → ((m : ℕ) → suc m ≡ n → slice_get s m ≡ Some 46 → ⊥) → AreCutAt ts n) at good
