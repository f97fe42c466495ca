-- What each move keeps, whatever the events are.
use Rattle.std.proofs.Common.{◌≡◌, ℕ, zero, suc, ◌+◌, ◌-◌, ◌≤◌, ◌<◌, ◌^◌, List, [], ◌∷◌, ◌++◌, length, take, drop, ap, sym, ◌∙◌, refl, arith, subst, Option, Some, None, Bool, true, false, if◌then◌else◌, nat_lt, nat_eq, add-one}
use Rattle.std.specs.Prelude.{All, IsUtf8, option_and_then, slice_get}
use Rattle.std.proofs.lemmas.List.{drop-drop, length-drop, length-take}
use Rattle.std.proofs.lemmas.Bool.{ltb-true}
use Rattle.std.proofs.lemmas.List.Elements.{All-append, All-cons, All-nil}
use Rattle.syntax_kind.specs.declared.syntax_kind.SyntaxKind.{SyntaxKind}
use Rattle.ras_front_end.specs.Reading.{FrontStep, begins, takes, ends, reports, step_faults}
use Rattle.token_layout.specs.declared.span.Token.{Token as RawToken}
use Rattle.token_layout.specs.Laid.{IsCut}
use Rattle.token_layout.specs.Balance.{balance}
use Rattle.grammar_machine.specs.declared.event.Event.{Event}
use Rattle.grammar_machine.specs.declared.event.Event.TheVariants.{Token, Piece, Node, Error}
use Rattle.grammar_machine.specs.declared.event.Part.{Part}
use Rattle.event_layout.specs.declared.layout.ParserError.{ParserError}
use Rattle.event_layout.specs.Trivia.{lead, later_of, part_of, outside_of}
use Rattle.event_layout.specs.Starts.{number_at}
use Rattle.event_layout.specs.Layout.{Given, Laying, leaf_of, pass_on, pass_of, pass_all_of, pass_trivia_of, joined_len, join_on, join_of, kind_of_part, len_of_part, cut_at, piece_on, piece_of, enter_of, exit_of, exit_all_of, begin_of, begin_at_of, fault_of, obey_of, obey_at_of, entering_of, going_of, advance_of, moves, plus_of, dot_of}
use Rattle.event_layout.proofs.Cutting.{CutsTo, IsCutFrom, cuts_takes, cuts_begins, cuts_ends, from_start, later_is, Goes, joined_goes, CutsAt, found_cuts, Parts, parted, dot_place}

balance-append : (d : ℕ) (xs ys : List FrontStep) → balance d (xs ++ ys) ≡ option_and_then (λ e. balance e ys) (balance d xs)
balance-append d [] ys = refl
balance-append d (begins k ∷ xs) ys = balance-append (suc d) xs ys
balance-append d (takes k n ∷ xs) ys = balance-append d xs ys
balance-append zero (ends ∷ xs) ys = refl
balance-append (suc d) (ends ∷ xs) ys = balance-append d xs ys
balance-append d (reports m p ∷ xs) ys = balance-append d xs ys

balanced : (xs ys : List FrontStep) (d : ℕ) → balance 0 xs ≡ Some d → balance 0 (xs ++ ys) ≡ balance d ys
balanced xs ys d h = balance-append 0 xs ys ∙ ap (option_and_then (λ e. balance e ys)) h

takes_no_fault : (xs : List FrontStep) (k : SyntaxKind) (n : ℕ) → step_faults xs ≡ [] → step_faults (xs ++ takes k n ∷ []) ≡ []
takes_no_fault [] k n h = refl
takes_no_fault (begins j ∷ xs) k n h = takes_no_fault xs k n h
takes_no_fault (takes j m ∷ xs) k n h = takes_no_fault xs k n h
takes_no_fault (ends ∷ xs) k n h = takes_no_fault xs k n h
takes_no_fault (reports m p ∷ xs) k n h = (let bad : _ ∷ step_faults xs ≡ [] = h in cc)

begins_no_fault : (xs : List FrontStep) (k : SyntaxKind) → step_faults xs ≡ [] → step_faults (xs ++ begins k ∷ []) ≡ []
begins_no_fault [] k h = refl
begins_no_fault (begins j ∷ xs) k h = begins_no_fault xs k h
begins_no_fault (takes j m ∷ xs) k h = begins_no_fault xs k h
begins_no_fault (ends ∷ xs) k h = begins_no_fault xs k h
begins_no_fault (reports m p ∷ xs) k h = (let bad : _ ∷ step_faults xs ≡ [] = h in cc)

pub ends_no_fault : (xs : List FrontStep) → step_faults xs ≡ [] → step_faults (xs ++ ends ∷ []) ≡ []
ends_no_fault [] h = refl
ends_no_fault (begins j ∷ xs) h = ends_no_fault xs h
ends_no_fault (takes j m ∷ xs) h = ends_no_fault xs h
ends_no_fault (ends ∷ xs) h = ends_no_fault xs h
ends_no_fault (reports m p ∷ xs) h = (let bad : _ ∷ step_faults xs ≡ [] = h in cc)

-- the steps are in one root, cut the text so far, and the tokens that are left cut the rest of it
pub record Held (root : SyntaxKind) (text : List ℕ) (rest : List RawToken) (cut : ℕ) (position : ℕ) (depth : ℕ) (steps : List FrontStep) (faults : List ParserError) : Type 0 where
  pub inner : List FrontStep
  pub steps_are : steps ≡ begins root ∷ inner
  pub closed : balance 0 inner ≡ Some depth
  pub no_faults : step_faults inner ≡ []
  pub within : position ≤ length text
  pub so_far : CutsTo inner text (drop position text)
  pub ahead : IsCutFrom cut rest (drop position text)
  pub small : cut < 2 ^ 32
  pub lie : All (λ f. f.position ≤ length text) faults

abbrev pub Kept : SyntaxKind → List ℕ → Laying → Type 0
Kept root text s = Held root text s.rest s.cut s.position s.depth s.steps s.faults

-- one token of the tree, of n bytes
leaf_kept : (root : SyntaxKind) (text : List ℕ) (k : SyntaxKind) (n : ℕ) (rest : List RawToken) (cut : ℕ) (s : Laying)
    → length text < 2 ^ 32 → Kept root text s → n ≤ length (drop s.position text) → IsUtf8 (take n (drop s.position text)) → IsCutFrom cut rest (drop n (drop s.position text)) → cut < 2 ^ 32
    → Kept root text (leaf_of k n (record s { rest = rest; cut = cut }))
leaf_kept root text k n rest cut s l h le u c small =
    let long : s.position + n ≤ length text = omega (arith, le, length-drop s.position text, h.within) in
    let p : later_of s.position n ≡ s.position + n = later_is s.position n (omega (arith, long, l)) in
    let r : drop n (drop s.position text) ≡ drop (later_of s.position n) text = drop-drop n s.position text ∙ ap (λ m. drop m text) (sym p) in
    record {
      inner = h.inner ++ takes k n ∷ [];
      steps_are = ap (λ z. z ++ takes k n ∷ []) h.steps_are;
      closed = balanced h.inner (takes k n ∷ []) s.depth h.closed;
      no_faults = takes_no_fault h.inner k n h.no_faults;
      within = omega (arith, p, long);
      so_far = subst (CutsTo (h.inner ++ takes k n ∷ []) text) r (cuts_takes h.inner k n text (drop s.position text) h.so_far le u);
      ahead = subst (IsCutFrom cut rest) r c;
      small = small;
      lie = h.lie;
    }

short_rest : (text : List ℕ) (p : ℕ) → length text < 2 ^ 32 → length (drop p text) < 2 ^ 32
short_rest text p l = omega (arith, l, length-drop p text)

goes_kept : (root : SyntaxKind) (text : List ℕ) (k : SyntaxKind) (n : ℕ) (ts : List RawToken) (s : Laying) → length text < 2 ^ 32 → Kept root text s → Goes n ts (drop s.position text)
    → Kept root text (leaf_of k n (record s { rest = ts; cut = 0 }))
goes_kept root text k n ts s l h g =
    let short : length (drop n (drop s.position text)) < 2 ^ 32 = omega (arith, l, length-drop n (drop s.position text), length-drop s.position text) in
    leaf_kept root text k n ts 0 s l h g.within g.is_text (from_start ts (drop n (drop s.position text)) short g.behind) (omega arith)

pub first_goes : (c : ℕ) (t : RawToken) (ts : List RawToken) (r : List ℕ) → IsCutFrom c (t ∷ ts) r → Goes (t.len - c) ts r
first_goes c t ts r h = record { within = h.1; is_text = h.2; behind = h.3 }

pass_on_kept : (root : SyntaxKind) (text : List ℕ) (ts : List RawToken) (s : Laying) → length text < 2 ^ 32 → s.rest ≡ ts → Kept root text s → Kept root text (pass_on ts s)
pass_on_kept root text [] s l e h = h
pass_on_kept root text (t ∷ ts) s l e h =
    goes_kept root text t.kind (t.len - s.cut) ts s l h (first_goes s.cut t ts (drop s.position text) (subst (λ z. IsCutFrom s.cut z (drop s.position text)) e h.ahead))

pass_kept : (root : SyntaxKind) (text : List ℕ) (s : Laying) → length text < 2 ^ 32 → Kept root text s → Kept root text (pass_of s)
pass_kept root text s l h = pass_on_kept root text s.rest s l refl h

pub pass_all_kept : (root : SyntaxKind) (text : List ℕ) (n : ℕ) (s : Laying) → length text < 2 ^ 32 → Kept root text s → Kept root text (pass_all_of n s)
unfolding pass_all_of
pass_all_kept root text zero s l h = h
pass_all_kept root text (suc n) s l h = pass_kept root text (pass_all_of n s) l (pass_all_kept root text n s l h)

join_on_kept : (root : SyntaxKind) (text : List ℕ) (k : SyntaxKind) (more : ℕ) (ts : List RawToken) (s : Laying) → length text < 2 ^ 32 → s.rest ≡ ts → Kept root text s → Kept root text (join_on k more ts s)
join_on_kept root text k more [] s l e h = h
join_on_kept root text k more (t ∷ ts) s l e h =
    let g = first_goes s.cut t ts (drop s.position text) (subst (λ z. IsCutFrom s.cut z (drop s.position text)) e h.ahead) in
    goes_kept root text k (joined_len (t.len - s.cut) (take more ts)) (drop more ts) s l h (joined_goes more ts (t.len - s.cut) (drop s.position text) (short_rest text s.position l) g)

join_kept : (root : SyntaxKind) (text : List ℕ) (k : SyntaxKind) (more : ℕ) (s : Laying) → length text < 2 ^ 32 → Kept root text s → Kept root text (join_of k more s)
join_kept root text k more s l h = join_on_kept root text k more s.rest s l refl h

later_small : (a n : ℕ) → later_of a n < 2 ^ 32
later_small a n = omega arith

-- a token of which n more bytes are gone
cut_more : (n c : ℕ) (t : RawToken) (ts : List RawToken) (r : List ℕ) → IsCutFrom c (t ∷ ts) r → Parts n (t.len - c) r → c < 2 ^ 32 → IsCutFrom (later_of c n) (t ∷ ts) (drop n r)
cut_more n c t ts r h p small =
    let sum : later_of c n ≡ c + n = later_is c n (omega (arith, p.within, h.0, small)) in
    let less : t.len - later_of c n ≡ (t.len - c) - n = omega (arith, sum) in
    let all : n + ((t.len - c) - n) ≡ t.len - c = omega (arith, p.within) in
    let same : drop ((t.len - c) - n) (drop n r) ≡ drop (t.len - c) r = drop-drop ((t.len - c) - n) n r ∙ ap (λ m. drop m r) all in
    let here : (((t.len - c) - n) ≤ length (drop n r)) × IsUtf8 (take ((t.len - c) - n) (drop n r)) × IsCut ts (drop ((t.len - c) - n) (drop n r)) =
    (omega (arith, h.1, length-drop n r), p.back, subst (IsCut ts) (sym same) h.3) in
    (h.0, subst (λ m. m ≤ length (drop n r)) (sym less) here.0, subst (λ m. IsUtf8 (take m (drop n r))) (sym less) here.1, subst (λ m. IsCut ts (drop m (drop n r))) (sym less) here.2)

cut_at_kept : (root : SyntaxKind) (text : List ℕ) (p : Part) (t : RawToken) (ts : List RawToken) (o : Option ℕ) (s : Laying) → length text < 2 ^ 32 → s.rest ≡ t ∷ ts
    → dot_of t.kind (part_of text s.position (t.len - s.cut)) ≡ o → Kept root text s → Kept root text (cut_at p o s)
cut_at_kept root text p t ts None s l e f h = h
cut_at_kept root text p t ts (Some dot) s l e f h =
    let r = drop s.position text in
    let here : IsCutFrom s.cut (t ∷ ts) r = subst (λ z. IsCutFrom s.cut z r) e h.ahead in
    let len = t.len - s.cut in
    let short : length (take len r) < 2 ^ 32 = omega (arith, short_rest text s.position l, length-take len r) in
    let at : CutsAt (len_of_part p dot) (take len r) = found_cuts p dot (take len r) here.2 short (dot_place t.kind (take len r) dot f) in
    let parts : Parts (len_of_part p dot) len r = parted (len_of_part p dot) len r here.1 here.2 at in
    let n = len_of_part p dot in
    let more : IsCutFrom (later_of s.cut n) (t ∷ ts) (drop n r) = cut_more n s.cut t ts r here parts h.small in
    let le : n ≤ length r = omega (arith, parts.within, here.1) in
    leaf_kept root text (kind_of_part p) n s.rest (later_of s.cut n) s l h le parts.front (subst (λ z. IsCutFrom (later_of s.cut n) z (drop n r)) (sym e) more) (later_small s.cut n)

piece_on_kept : (root : SyntaxKind) (text : List ℕ) (p : Part) (ts : List RawToken) (s : Laying) → length text < 2 ^ 32 → s.rest ≡ ts → Kept root text s → Kept root text (piece_on text p ts s)
piece_on_kept root text p [] s l e h = h
piece_on_kept root text p (t ∷ ts) s l e h = cut_at_kept root text p t ts (dot_of t.kind (part_of text s.position (t.len - s.cut))) s l e refl h

enter_on_kept : (root : SyntaxKind) (text : List ℕ) (k : SyntaxKind) (b : Bool) (s : Laying) → Kept root text s → Kept root text (if b then record s { depth = s.depth + 1; steps = s.steps ++ begins k ∷ [] } else s)
enter_on_kept root text k false s h = h
enter_on_kept root text k true s h = record {
  inner = h.inner ++ begins k ∷ [];
  steps_are = ap (λ z. z ++ begins k ∷ []) h.steps_are;
  closed = balanced h.inner (begins k ∷ []) s.depth h.closed ∙ ap Some (sym (add-one s.depth));
  no_faults = begins_no_fault h.inner k h.no_faults;
  within = h.within;
  so_far = cuts_begins h.inner k text (drop s.position text) h.so_far;
  ahead = h.ahead;
  small = h.small;
  lie = h.lie;
}

pub enter_kept : (root : SyntaxKind) (text : List ℕ) (k : SyntaxKind) (s : Laying) → Kept root text s → Kept root text (enter_of k s)
enter_kept root text k s h = enter_on_kept root text k (nat_lt s.depth (2 ^ 64 - 1)) s h

one_less : (d : ℕ) → 0 < d → balance d (ends ∷ []) ≡ Some (d - 1)
one_less zero h = absurd (omega (arith, h))
one_less (suc d) h = let e : suc d - 1 ≡ d = omega arith in ap Some (sym e)

exit_on_kept : (root : SyntaxKind) (text : List ℕ) (b : Bool) (s : Laying) → nat_lt 0 s.depth ≡ b → Kept root text s → Kept root text (if b then record s { depth = s.depth - 1; steps = s.steps ++ ends ∷ [] } else s)
exit_on_kept root text false s e h = h
exit_on_kept root text true s e h = record {
  inner = h.inner ++ ends ∷ [];
  steps_are = ap (λ z. z ++ ends ∷ []) h.steps_are;
  closed = balanced h.inner (ends ∷ []) s.depth h.closed ∙ one_less s.depth (ltb-true 0 s.depth e);
  no_faults = ends_no_fault h.inner h.no_faults;
  within = h.within;
  so_far = cuts_ends h.inner text (drop s.position text) h.so_far;
  ahead = h.ahead;
  small = h.small;
  lie = h.lie;
}

exit_kept : (root : SyntaxKind) (text : List ℕ) (s : Laying) → Kept root text s → Kept root text (exit_of s)
exit_kept root text s h = exit_on_kept root text (nat_lt 0 s.depth) s refl h

pub exit_all_kept : (root : SyntaxKind) (text : List ℕ) (n : ℕ) (s : Laying) → Kept root text s → Kept root text (exit_all_of n s)
unfolding exit_all_of
exit_all_kept root text zero s h = h
exit_all_kept root text (suc n) s h = exit_kept root text (exit_all_of n s) (exit_all_kept root text n s h)

begin_kept : (root : SyntaxKind) (text : List ℕ) (g : Given) (k : SyntaxKind) (s : Laying) → length text < 2 ^ 32 → Kept root text s → Kept root text (begin_of g k s)
begin_kept root text g k s l h =
    let out = outside_of g.bytes g.attaching k s.position s.rest (lead s.rest) in
    pass_all_kept root text (lead s.rest - out) (enter_of k (pass_all_of out s)) l (enter_kept root text k (pass_all_of out s) (pass_all_kept root text out s l h))

begin_at_kept : (root : SyntaxKind) (text : List ℕ) (g : Given) (e : Option Event) (s : Laying) → length text < 2 ^ 32 → Kept root text s → Kept root text (begin_at_of g e s)
begin_at_kept root text g None s l h = h
begin_at_kept root text g (Some (Node k from)) s l h = begin_kept root text g k s l h
begin_at_kept root text g (Some (Token k signs)) s l h = h
begin_at_kept root text g (Some (Piece p last)) s l h = h
begin_at_kept root text g (Some (Error m)) s l h = h

fault_kept : (root : SyntaxKind) (text : List ℕ) (m : ℕ) (s : Laying) → Kept root text s → Kept root text (fault_of m s)
fault_kept root text m s h =
    let f : ParserError = record { message = m; position = s.position; left = length s.rest } in
    record {
      inner = h.inner;
      steps_are = h.steps_are;
      closed = h.closed;
      no_faults = h.no_faults;
      within = h.within;
      so_far = h.so_far;
      ahead = h.ahead;
      small = h.small;
      lie = All-append (λ f. f.position ≤ length text) s.faults (f ∷ []) h.lie (All-cons (λ f. f.position ≤ length text) f [] h.within (All-nil (λ f. f.position ≤ length text)));
    }

trivia_kept : (root : SyntaxKind) (text : List ℕ) (s : Laying) → length text < 2 ^ 32 → Kept root text s → Kept root text (pass_trivia_of s)
trivia_kept root text s l h = pass_all_kept root text (lead s.rest) s l h

piece_event_kept : (root : SyntaxKind) (text : List ℕ) (p : Part) (last : Bool) (s : Laying) → length text < 2 ^ 32 → Kept root text s → Kept root text (if last then join_of (kind_of_part p) 0 s else piece_of text p s)
piece_event_kept root text p true s l h = join_kept root text (kind_of_part p) 0 s l h
piece_event_kept root text p false s l h = piece_on_kept root text p s.rest s l refl h

node_event_kept : (root : SyntaxKind) (text : List ℕ) (b : Bool) (s : Laying) → Kept root text s → Kept root text (if b then s else exit_of s)
node_event_kept root text true s h = h
node_event_kept root text false s h = exit_kept root text s h

obey_kept : (root : SyntaxKind) (g : Given) (e : Event) (number : ℕ) (s : Laying) → length g.bytes < 2 ^ 32 → Kept root g.bytes s → Kept root g.bytes (obey_of g e number s)
obey_kept root g (Token k signs) number s l h = join_kept root g.bytes k (signs - 1) (pass_trivia_of s) l (trivia_kept root g.bytes s l h)
obey_kept root g (Piece p last) number s l h = piece_event_kept root g.bytes p last (pass_trivia_of s) l (trivia_kept root g.bytes s l h)
obey_kept root g (Node k from) number s l h = node_event_kept root g.bytes (nat_eq number g.root) s h
obey_kept root g (Error m) number s l h = fault_kept root g.bytes m s h

pub obey_at_kept : (root : SyntaxKind) (g : Given) (o : Option Event) (number : ℕ) (s : Laying) → length g.bytes < 2 ^ 32 → Kept root g.bytes s → Kept root g.bytes (obey_at_of g o number s)
obey_at_kept root g None number s l h = h
obey_at_kept root g (Some e) number s l h = obey_kept root g e number s l h

advance_on_kept : (root : SyntaxKind) (g : Given) (b : Bool) (s : Laying) → length g.bytes < 2 ^ 32 → Kept root g.bytes s → Kept root g.bytes (if b then entering_of g (s.entering - 1) s else going_of g s.next s)
advance_on_kept root g true s l h = begin_at_kept root g.bytes g (slice_get g.events (s.entering - 1)) (record s { entering = number_at g.links.before (s.entering - 1) }) l h
advance_on_kept root g false s l h = obey_at_kept root g (slice_get g.events s.next) s.next (record s { next = plus_of s.next; entering = number_at g.links.last (plus_of s.next) }) l h

pub advance_kept : (root : SyntaxKind) (g : Given) (s : Laying) → length g.bytes < 2 ^ 32 → Kept root g.bytes s → Kept root g.bytes (advance_of g s)
unfolding advance_of
advance_kept root g s l h = advance_on_kept root g (nat_lt 0 s.entering) s l h

pub moves_kept : (root : SyntaxKind) (n : ℕ) (g : Given) (s : Laying) → length g.bytes < 2 ^ 32 → Kept root g.bytes s → Kept root g.bytes (moves n g s)
unfolding moves
moves_kept root zero g s l h = h
moves_kept root (suc n) g s l h = advance_kept root g (moves n g s) l (moves_kept root n g s l h)
