-- Where a node that begins with a token starts.
use Rattle.std.proofs.Common.{◌≡◌, ℕ, zero, suc, ◌+◌, ◌<◌, ◌≤◌, ◌^◌, ◌-◌, min, Bool, true, false, not, nat_eq, if◌then◌else◌, List, [], ◌∷◌, ◌++◌, length, take, drop, sum_by, refl, sym, ap, ap₂, subst, ◌∙◌, arith, append_assoc, append-nil}
use Rattle.std.specs.Prelude.{Option, Some, None}
use Rattle.std.proofs.lemmas.List.{length-take-le}
use Rattle.syntax_kind.specs.declared.syntax_kind.SyntaxKind.{SyntaxKind}
use Rattle.syntax_kind.specs.Kinds.{is_trivia}
use Rattle.tree_model.specs.Tree.{Tree, node, token, Forest, cons, Place, IsPlace, subtree, start}
use Rattle.tree_model.specs.Events.{Event as TreeEvent, enter, leaf, exit, BuildsNode}
use Rattle.ras_front_end.specs.Reading.{FrontStep, begins, takes, ends, reports, events_from, Cuts}
use Rattle.token_layout.specs.declared.span.Token.{Token as RawToken}
use Rattle.grammar_machine.specs.declared.event.Event.{Event}
use Rattle.grammar_machine.specs.declared.event.Event.TheVariants.{Token, Piece, Node, Error}
use Rattle.grammar_machine.specs.declared.event.Part.{Part}
use Rattle.grammar_machine.specs.declared.event.Part.TheVariants.{Whole, Dot, Fraction}
use Rattle.token_layout.specs.Laid.{IsCut}
use Rattle.event_layout.specs.Layout.{laid_of, root_of, kind_of_part}
use Rattle.event_layout.specs.Made.{without_trivia, only_tokens, begins_at, Left, Made, trivia_of, past, joined_on, joined, parted_at, parted_on, parted, made_by, tokens_as_they_are, made_from, made_of}
use Rattle.event_layout.specs.Amid.{first_len, sum_len}
use Rattle.event_layout.proofs.Filled.{cut_sum}
use Rattle.event_layout.proofs.Making.{tokens_made}
use Rattle.event_layout.proofs.Seeing.{seen_more, told_more, told_begins, told_end, told_nothing, seen_begins, seen_end, seen_nothing, past_none}
use Rattle.document_laws.specs.Nodes.{made_steps, made_left, MakesPlainTokens, IsOfEvent, StartsBehind, NodesStartBehindTokens}
use Rattle.event_layout.specs.Filled.{bytes_taken}
use Rattle.document_laws.proofs.Leaving.{bytes_both, trivia_sum, all_kept}
use Rattle.document_laws.proofs.Noding.{Steps, begins_told, begins_only, made_nothing, made_more, seen_cons, told_cons, seen_one, seen_report, first_same, head_same, tail_same, Placed, placed}

-- ---- tokens

-- only tokens are in the list
abbrev OnlyTakes : Steps → Type 0
OnlyTakes [] = Unit {0}
OnlyTakes (takes k n ∷ xs) = OnlyTakes xs
OnlyTakes (begins k ∷ xs) = ⊥
OnlyTakes (ends ∷ xs) = ⊥
OnlyTakes (reports m p ∷ xs) = ⊥

-- nothing, or a token that is neither white space nor a comment, is first
abbrev FirstSeen : Steps → Type 0
FirstSeen [] = Unit {0}
FirstSeen (takes k n ∷ xs) = is_trivia k ≡ false
FirstSeen (begins k ∷ xs) = ⊥
FirstSeen (ends ∷ xs) = ⊥
FirstSeen (reports m p ∷ xs) = ⊥

told_takes : (k : SyntaxKind) (n : ℕ) → only_tokens (takes k n ∷ []) ≡ takes k n ∷ []
unfolding only_tokens
told_takes k n = refl

told_report : (m : List ℕ) (p : ℕ) → only_tokens (reports m p ∷ []) ≡ []
unfolding only_tokens
told_report m p = refl

told_take : (k : SyntaxKind) (n : ℕ) (xs : Steps) → only_tokens (takes k n ∷ xs) ≡ takes k n ∷ only_tokens xs
told_take k n xs = told_cons (takes k n) xs ∙ ap (λ (ys : Steps). ys ++ only_tokens xs) (told_takes k n)

told_only : (xs : Steps) → OnlyTakes (only_tokens xs)
told_only [] = subst OnlyTakes (sym told_nothing) tt
told_only (begins k ∷ xs) = subst OnlyTakes (sym (told_cons (begins k) xs ∙ ap (λ (ys : Steps). ys ++ only_tokens xs) (told_begins k))) (told_only xs)
told_only (takes k n ∷ xs) = subst OnlyTakes (sym (told_take k n xs)) (told_only xs)
told_only (ends ∷ xs) = subst OnlyTakes (sym (told_cons ends xs ∙ ap (λ (ys : Steps). ys ++ only_tokens xs) told_end)) (told_only xs)
told_only (reports m p ∷ xs) = subst OnlyTakes (sym (told_cons (reports m p) xs ∙ ap (λ (ys : Steps). ys ++ only_tokens xs) (told_report m p))) (told_only xs)

pub takes_told : (xs : Steps) → OnlyTakes xs → only_tokens xs ≡ xs
takes_told [] h = told_nothing
takes_told (takes k n ∷ xs) h = told_take k n xs ∙ ap (λ (ys : Steps). takes k n ∷ ys) (takes_told xs h)
takes_told (begins k ∷ xs) h = absurd h
takes_told (ends ∷ xs) h = absurd h
takes_told (reports m p ∷ xs) h = absurd h

-- only tokens take bytes
told_bytes : (xs : Steps) → bytes_taken (only_tokens xs) ≡ bytes_taken xs
told_bytes [] = ap bytes_taken told_nothing
told_bytes (begins k ∷ xs) = ap bytes_taken (told_cons (begins k) xs ∙ ap (λ (ys : Steps). ys ++ only_tokens xs) (told_begins k)) ∙ told_bytes xs
told_bytes (takes k n ∷ xs) = ap bytes_taken (told_take k n xs) ∙ ap (λ (j : ℕ). n + j) (told_bytes xs)
told_bytes (ends ∷ xs) = ap bytes_taken (told_cons ends xs ∙ ap (λ (ys : Steps). ys ++ only_tokens xs) told_end) ∙ told_bytes xs
told_bytes (reports m p ∷ xs) = ap bytes_taken (told_cons (reports m p) xs ∙ ap (λ (ys : Steps). ys ++ only_tokens xs) (told_report m p)) ∙ told_bytes xs

-- the tokens that are seen, by one more
seen_take : (k : SyntaxKind) (n : ℕ) (xs : Steps) → without_trivia (takes k n ∷ xs) ≡ (if not (is_trivia k) then takes k n ∷ [] else []) ++ without_trivia xs
seen_take k n xs = seen_cons (takes k n) xs ∙ ap (λ (ys : Steps). ys ++ without_trivia xs) (seen_one k n)

seen_plain : (k : SyntaxKind) (n : ℕ) (xs : Steps) → is_trivia k ≡ false → without_trivia (takes k n ∷ xs) ≡ takes k n ∷ without_trivia xs
seen_plain k n xs h = seen_take k n xs ∙ ap (λ (b : Bool). (if not b then takes k n ∷ [] else []) ++ without_trivia xs) h

-- tokens first, and then what is seen
seen_told : (xs : Steps) → only_tokens (without_trivia xs) ≡ without_trivia (only_tokens xs)
seen_told [] = ap only_tokens seen_nothing ∙ told_nothing ∙ sym (ap without_trivia told_nothing ∙ seen_nothing)
seen_told (begins k ∷ xs) =
    ap only_tokens (seen_cons (begins k) xs ∙ ap (λ (ys : Steps). ys ++ without_trivia xs) (seen_begins k))
    ∙ told_cons (begins k) (without_trivia xs) ∙ ap (λ (ys : Steps). ys ++ only_tokens (without_trivia xs)) (told_begins k) ∙ seen_told xs
    ∙ sym (ap without_trivia (told_cons (begins k) xs ∙ ap (λ (ys : Steps). ys ++ only_tokens xs) (told_begins k)))
seen_told (ends ∷ xs) =
    ap only_tokens (seen_cons ends xs ∙ ap (λ (ys : Steps). ys ++ without_trivia xs) seen_end)
    ∙ told_cons ends (without_trivia xs) ∙ ap (λ (ys : Steps). ys ++ only_tokens (without_trivia xs)) told_end ∙ seen_told xs
    ∙ sym (ap without_trivia (told_cons ends xs ∙ ap (λ (ys : Steps). ys ++ only_tokens xs) told_end))
seen_told (reports m p ∷ xs) =
    ap only_tokens (seen_cons (reports m p) xs ∙ ap (λ (ys : Steps). ys ++ without_trivia xs) (seen_report m p))
    ∙ told_cons (reports m p) (without_trivia xs) ∙ ap (λ (ys : Steps). ys ++ only_tokens (without_trivia xs)) (told_report m p) ∙ seen_told xs
    ∙ sym (ap without_trivia (told_cons (reports m p) xs ∙ ap (λ (ys : Steps). ys ++ only_tokens xs) (told_report m p)))
seen_told (takes k n ∷ xs) =
    ap only_tokens (seen_take k n xs) ∙ told_more (if not (is_trivia k) then takes k n ∷ [] else []) (without_trivia xs)
    ∙ ap₂ (λ (ys zs : Steps). ys ++ zs) (by (not (is_trivia k))) (seen_told xs)
    ∙ sym (ap without_trivia (told_take k n xs) ∙ seen_take k n (only_tokens xs))
  where
    by : (b : Bool) → only_tokens (if b then takes k n ∷ [] else []) ≡ (if b then takes k n ∷ [] else [])
    by true = told_takes k n
    by false = told_nothing

-- ---- where a list of tokens is cut

-- two fronts of one list with the same tokens that are seen are the same, if what follows them is
-- seen
same_front : (xs ys zs qs : Steps) (k : SyntaxKind) (n : ℕ) → OnlyTakes xs → OnlyTakes ys → is_trivia k ≡ false → FirstSeen zs
    → xs ++ takes k n ∷ qs ≡ ys ++ zs → without_trivia xs ≡ without_trivia ys → xs ≡ ys
same_front [] [] zs qs k n a b h z e s = refl
same_front [] (takes j m ∷ ys) zs qs k n a b h z e s =
    let first : takes k n ≡ takes j m = head_same (takes k n) (takes j m) qs (ys ++ zs) e in
    let plain : is_trivia j ≡ false = subst (λ (i : SyntaxKind). is_trivia i ≡ false) (kind_of_take k j n m first) h in
    absurd (let bad : [] ≡ takes j m ∷ without_trivia ys = sym seen_nothing ∙ s ∙ seen_plain j m ys plain in cc)
  where
    kind_of_take : (i o : SyntaxKind) (u v : ℕ) → takes i u ≡ takes o v → i ≡ o
    kind_of_take i o u v q = cc
same_front [] (begins j ∷ ys) zs qs k n a b h z e s = absurd b
same_front [] (ends ∷ ys) zs qs k n a b h z e s = absurd b
same_front [] (reports m p ∷ ys) zs qs k n a b h z e s = absurd b
same_front (begins j ∷ xs) ys zs qs k n a b h z e s = absurd a
same_front (ends ∷ xs) ys zs qs k n a b h z e s = absurd a
same_front (reports m p ∷ xs) ys zs qs k n a b h z e s = absurd a
same_front (takes j m ∷ xs) [] [] qs k n a b h z e s = absurd (let bad : takes j m ∷ (xs ++ takes k n ∷ qs) ≡ [] = e in cc)
same_front (takes j m ∷ xs) [] (takes i o ∷ zs) qs k n a b h z e s =
    let first : takes j m ≡ takes i o = head_same (takes j m) (takes i o) (xs ++ takes k n ∷ qs) zs e in
    let plain : is_trivia j ≡ false = subst (λ (x : SyntaxKind). is_trivia x ≡ false) (kind_of_take i j o m (sym first)) z in
    absurd (let bad : takes j m ∷ without_trivia xs ≡ [] = sym (seen_plain j m xs plain) ∙ s ∙ seen_nothing in cc)
  where
    kind_of_take : (c d : SyntaxKind) (u v : ℕ) → takes c u ≡ takes d v → c ≡ d
    kind_of_take c d u v q = cc
same_front (takes j m ∷ xs) [] (begins i ∷ zs) qs k n a b h z e s = absurd z
same_front (takes j m ∷ xs) [] (ends ∷ zs) qs k n a b h z e s = absurd z
same_front (takes j m ∷ xs) [] (reports i o ∷ zs) qs k n a b h z e s = absurd z
same_front (takes j m ∷ xs) (begins i ∷ ys) zs qs k n a b h z e s = absurd b
same_front (takes j m ∷ xs) (ends ∷ ys) zs qs k n a b h z e s = absurd b
same_front (takes j m ∷ xs) (reports i o ∷ ys) zs qs k n a b h z e s = absurd b
same_front (takes j m ∷ xs) (takes i o ∷ ys) zs qs k n a b h z e s =
    let first : takes j m ≡ takes i o = head_same (takes j m) (takes i o) (xs ++ takes k n ∷ qs) (ys ++ zs) e in
    ap₂ (λ (x : FrontStep) (ws : Steps). x ∷ ws) first
    (same_front xs ys zs qs k n a b h z (tail_same (takes j m) (takes i o) (xs ++ takes k n ∷ qs) (ys ++ zs) e)
    (cancel (not (is_trivia j)) (sym (seen_take j m xs) ∙ s ∙ ap (λ (x : FrontStep). without_trivia (x ∷ ys)) (sym first) ∙ seen_take j m ys)))
  where
    cancel : (c : Bool) → (if c then takes j m ∷ [] else []) ++ without_trivia xs ≡ (if c then takes j m ∷ [] else []) ++ without_trivia ys → without_trivia xs ≡ without_trivia ys
    cancel true q = tail_same (takes j m) (takes j m) (without_trivia xs) (without_trivia ys) q
    cancel false q = q

-- ---- what events make

abbrev PlainAll : List Event → Type 0
PlainAll [] = Unit {0}
PlainAll (Token k signs ∷ es) = (is_trivia k ≡ false) × PlainAll es
PlainAll (Piece p last ∷ es) = PlainAll es
PlainAll (Node k from ∷ es) = PlainAll es
PlainAll (Error m ∷ es) = PlainAll es

plain_all : (es : List Event) → MakesPlainTokens es → PlainAll es
plain_all [] h = tt
plain_all (Token k signs ∷ es) h = (h 0 k signs refl, plain_all es (λ i j s e. h (suc i) j s e))
plain_all (Piece p last ∷ es) h = plain_all es (λ i j s e. h (suc i) j s e)
plain_all (Node k from ∷ es) h = plain_all es (λ i j s e. h (suc i) j s e)
plain_all (Error m ∷ es) h = plain_all es (λ i j s e. h (suc i) j s e)

plain_rest : (m : ℕ) (es : List Event) → PlainAll es → PlainAll (drop m es)
plain_rest zero es h = h
plain_rest (suc m) [] h = tt
plain_rest (suc m) (Token k signs ∷ es) h = plain_rest m es h.1
plain_rest (suc m) (Piece p last ∷ es) h = plain_rest m es h
plain_rest (suc m) (Node k from ∷ es) h = plain_rest m es h
plain_rest (suc m) (Error i ∷ es) h = plain_rest m es h

pub told_from : (root : ℕ) (all : List Event) (n : ℕ) (e : Event) (es : List Event) (l : Left)
    → only_tokens (made_from root all n (e ∷ es) l) ≡ only_tokens (made_by root n e l).steps ++ only_tokens (made_from root all (n + 1) es (made_by root n e l).left)
told_from root all n e es l =
    ap only_tokens (made_more root all n e es l) ∙ told_more (begins_at root all n (length all)) ((made_by root n e l).steps ++ made_from root all (n + 1) es (made_by root n e l).left)
    ∙ ap₂ (λ (xs ys : Steps). xs ++ ys) (begins_told (begins_at root all n (length all)) (begins_only root all n (length all)))
    (told_more (made_by root n e l).steps (made_from root all (n + 1) es (made_by root n e l).left))

-- the first events, and the others
parts_told : (m root : ℕ) (all : List Event) (n : ℕ) (es : List Event) (l : Left)
    → only_tokens (made_from root all n es l)
    ≡ only_tokens (made_steps root n (take m es) l) ++ only_tokens (made_from root all (n + m) (drop m es) (made_left root n (take m es) l))
parts_told zero root all n es l =
    let none : n ≡ n + 0 = omega arith in
    ap (λ (i : ℕ). only_tokens (made_from root all i es l)) none ∙ sym (ap (λ (xs : Steps). xs ++ only_tokens (made_from root all (n + 0) es l)) told_nothing)
parts_told (suc m) root all n [] l =
    ap only_tokens (made_nothing root all n l ∙ sym (made_nothing root all (n + suc m) l))
    ∙ sym (ap (λ (xs : Steps). xs ++ only_tokens (made_from root all (n + suc m) [] l)) told_nothing)
parts_told (suc m) root all n (e ∷ es) l =
    let own : Steps = (made_by root n e l).steps in
    let left : Left = (made_by root n e l).left in
    let later : Steps = made_steps root (n + 1) (take m es) left in
    let further : (n + 1) + m ≡ n + suc m = omega arith in
    told_from root all n e es l ∙ ap (λ (xs : Steps). only_tokens own ++ xs) (parts_told m root all (n + 1) es left)
    ∙ sym (append_assoc (only_tokens own) (only_tokens later) (only_tokens (made_from root all ((n + 1) + m) (drop m es) (made_left root (n + 1) (take m es) left))))
    ∙ ap₂ (λ (xs : Steps) (i : ℕ). xs ++ only_tokens (made_from root all i (drop m es) (made_left root (n + 1) (take m es) left))) (sym (told_more own later)) further

-- white space and comments come first
record Rest (xs : Steps) (ts : List RawToken) : Type 0 where
  more : Steps
  is : xs ≡ trivia_of ts ++ more
  seen : FirstSeen more

as_they_are : (ts : List RawToken) → OnlyTakes (tokens_as_they_are ts)
as_they_are [] = tt
as_they_are (t ∷ ts) = as_they_are ts

rest_as_is : (ts : List RawToken) → Rest (tokens_as_they_are ts) ts
rest_as_is [] = record { more = []; is = refl; seen = tt }
rest_as_is (t ∷ ts) = by (is_trivia t.kind) refl (rest_as_is ts)
  where
    by : (b : Bool) → is_trivia t.kind ≡ b → Rest (tokens_as_they_are ts) ts → Rest (tokens_as_they_are (t ∷ ts)) (t ∷ ts)
    by true e r = record {
      more = r.more;
      is = ap (λ (xs : Steps). takes t.kind t.len ∷ xs) r.is ∙ ap (λ (b : Bool). (if b then takes t.kind t.len ∷ trivia_of ts else []) ++ r.more) (sym e);
      seen = r.seen;
    }
    by false e r = record {
      more = tokens_as_they_are (t ∷ ts);
      is = ap (λ (b : Bool). (if b then takes t.kind t.len ∷ trivia_of ts else []) ++ tokens_as_they_are (t ∷ ts)) (sym e);
      seen = e;
    }

pub trivia_takes : (ts : List RawToken) → OnlyTakes (trivia_of ts)
trivia_takes [] = tt
trivia_takes (t ∷ ts) = by (is_trivia t.kind) (trivia_takes ts)
  where
    by : (b : Bool) → OnlyTakes (trivia_of ts) → OnlyTakes (if b then takes t.kind t.len ∷ trivia_of ts else [])
    by true h = h
    by false h = tt

-- an event that makes, behind white space and comments, a token or nothing
abbrev MakesOne : Made → Type 0
MakesOne m = FirstSeen m.steps × OnlyTakes m.steps × (m.steps ≡ [] → trivia_of m.left.tokens ≡ [])

rest_behind : (ts : List RawToken) (m : Made) (later : Steps) → MakesOne m → Rest later m.left.tokens → Rest (only_tokens (trivia_of ts ++ m.steps) ++ later) ts
rest_behind ts m later one r = by m.steps one.0 one.1 one.2
  where
    by : (xs : Steps) → FirstSeen xs → OnlyTakes xs → (xs ≡ [] → trivia_of m.left.tokens ≡ []) → Rest (only_tokens (trivia_of ts ++ xs) ++ later) ts
    by [] f o h = record {
      more = r.more;
      is =
          ap (λ (ys : Steps). ys ++ later) (ap only_tokens (append-nil (trivia_of ts)) ∙ takes_told (trivia_of ts) (trivia_takes ts))
          ∙ ap (λ (ys : Steps). trivia_of ts ++ ys) (r.is ∙ ap (λ (ys : Steps). ys ++ r.more) (h refl));
      seen = r.seen;
    }
    by (takes k n ∷ xs) f o h = record {
      more = takes k n ∷ (xs ++ later);
      is =
          ap (λ (ys : Steps). ys ++ later) (told_more (trivia_of ts) (takes k n ∷ xs) ∙ ap₂ (λ (ys zs : Steps). ys ++ zs) (takes_told (trivia_of ts) (trivia_takes ts)) (takes_told (takes k n ∷ xs) o))
          ∙ append_assoc (trivia_of ts) (takes k n ∷ xs) later;
      seen = f;
    }
    by (begins k ∷ xs) f o h = absurd f
    by (ends ∷ xs) f o h = absurd f
    by (reports i p ∷ xs) f o h = absurd f

joined_one : (k : SyntaxKind) (more : ℕ) (l : Left) → is_trivia k ≡ false → MakesOne (joined k more l)
joined_one k more l h = by l.tokens
  where
    by : (ts : List RawToken) → MakesOne (joined_on k more ts l.text)
    by [] = (tt, tt, λ e. refl)
    by (t ∷ ts) = (h, tt, λ e. absurd (let bad : takes k _ ∷ [] ≡ [] = e in cc))

part_plain : (p : Part) → is_trivia (kind_of_part p) ≡ false
part_plain Whole = refl
part_plain Dot = refl
part_plain Fraction = refl

parted_one : (p : Part) (l : Left) → trivia_of l.tokens ≡ [] → MakesOne (parted p l)
parted_one p l h = by l.tokens h
  where
    at_dot : (o : Option ℕ) (t : RawToken) (ts : List RawToken) → trivia_of (t ∷ ts) ≡ [] → MakesOne (parted_at p o t ts l.text)
    at_dot None t ts e = (tt, tt, λ q. e)
    at_dot (Some dot) t ts e = (part_plain p, tt, λ q. absurd (let bad : takes (kind_of_part p) _ ∷ [] ≡ [] = q in cc))

    by : (ts : List RawToken) → trivia_of ts ≡ [] → MakesOne (parted_on p ts l.text)
    by [] e = (tt, tt, λ q. refl)
    by (t ∷ ts) e = at_dot _ t ts e

pub past_trivia_none : (l : Left) → trivia_of (past l).tokens ≡ []
past_trivia_none l = past_none l.tokens l.text

rest_told : (root : ℕ) (all : List Event) (n : ℕ) (es : List Event) (l : Left) → PlainAll es → Rest (only_tokens (made_from root all n es l)) l.tokens
rest_told root all n [] l h =
    subst (λ (xs : Steps). Rest xs l.tokens) (sym (ap only_tokens (made_nothing root all n l) ∙ takes_told (tokens_as_they_are l.tokens) (as_they_are l.tokens))) (rest_as_is l.tokens)
rest_told root all n (Token k signs ∷ es) l h =
    let e : Event = Token k signs in
    subst (λ (xs : Steps). Rest xs l.tokens) (sym (told_from root all n e es l))
    (rest_behind l.tokens (joined k _ (past l)) (only_tokens (made_from root all (n + 1) es (made_by root n e l).left)) (joined_one k _ (past l) h.0)
    (rest_told root all (n + 1) es (made_by root n e l).left h.1))
rest_told root all n (Piece p true ∷ es) l h =
    let e : Event = Piece p true in
    subst (λ (xs : Steps). Rest xs l.tokens) (sym (told_from root all n e es l))
    (rest_behind l.tokens (joined (kind_of_part p) 0 (past l)) (only_tokens (made_from root all (n + 1) es (made_by root n e l).left)) (joined_one (kind_of_part p) 0 (past l) (part_plain p))
    (rest_told root all (n + 1) es (made_by root n e l).left h))
rest_told root all n (Piece p false ∷ es) l h =
    let e : Event = Piece p false in
    subst (λ (xs : Steps). Rest xs l.tokens) (sym (told_from root all n e es l))
    (rest_behind l.tokens (parted p (past l)) (only_tokens (made_from root all (n + 1) es (made_by root n e l).left)) (parted_one p (past l) (past_trivia_none l))
    (rest_told root all (n + 1) es (made_by root n e l).left h))
rest_told root all n (Node k from ∷ es) l h =
    subst (λ (xs : Steps). Rest xs l.tokens) (sym (told_from root all n (Node k from) es l ∙ ap (λ (ys : Steps). ys ++ only_tokens (made_from root all (n + 1) es l)) (by (nat_eq n root))))
    (rest_told root all (n + 1) es l h)
  where
    by : (b : Bool) → only_tokens (if b then [] else ends ∷ []) ≡ []
    by true = told_nothing
    by false = told_end
rest_told root all n (Error m ∷ es) l h =
    subst (λ (xs : Steps). Rest xs l.tokens) (sym (told_from root all n (Error m) es l ∙ ap (λ (ys : Steps). ys ++ only_tokens (made_from root all (n + 1) es l)) told_nothing))
    (rest_told root all (n + 1) es l h)

-- ---- the token behind a node's beginning

record NextTaken (xs : Steps) (l : SyntaxKind) (w : List ℕ) : Type 0 where
  len : ℕ
  more : Steps
  is : only_tokens xs ≡ takes l len ∷ more
  long : length w ≡ len

next_taken : (xs : Steps) (s : List ℕ) (l : SyntaxKind) (w : List ℕ) (es : List TreeEvent) → Cuts xs s → events_from xs s ≡ leaf l w ∷ es → NextTaken xs l w
next_taken [] s l w es c h = absurd (let bad : [] ≡ leaf l w ∷ es = h in cc)
next_taken (begins k ∷ xs) s l w es c h = absurd (let bad : enter k ≡ leaf l w = first_same (enter k) (leaf l w) (events_from xs s) es h in cc)
next_taken (takes k n ∷ xs) s l w es c h =
    let same : k ≡ l = kind_of_leaf k l (take n s) w (first_same (leaf k (take n s)) (leaf l w) (events_from xs (drop n s)) es h) in
    let text : take n s ≡ w = text_of_leaf k l (take n s) w (first_same (leaf k (take n s)) (leaf l w) (events_from xs (drop n s)) es h) in
    record {
      len = n;
      more = only_tokens xs;
      is = told_take k n xs ∙ ap (λ (j : SyntaxKind). takes j n ∷ only_tokens xs) same;
      long = sym (ap length text) ∙ length-take-le n s c.0;
    }
  where
    text_of_leaf : (i j : SyntaxKind) (u v : List ℕ) → leaf i u ≡ leaf j v → u ≡ v
    text_of_leaf i j u v q = cc

    kind_of_leaf : (i j : SyntaxKind) (u v : List ℕ) → leaf i u ≡ leaf j v → i ≡ j
    kind_of_leaf i j u v q = cc
next_taken (ends ∷ xs) s l w es c h = absurd (let bad : exit ≡ leaf l w = first_same exit (leaf l w) (events_from xs s) es h in cc)
next_taken (reports m p ∷ xs) s l w es c h =
    let r = next_taken xs s l w es c h in
    record { len = r.len; more = r.more; is = told_cons (reports m p) xs ∙ ap (λ (ys : Steps). ys ++ only_tokens xs) (told_report m p) ∙ r.is; long = r.long }

made_tokens : (root : SyntaxKind) (ts : List RawToken) (s : List ℕ) (es : List Event)
    → only_tokens (made_of root ts s es) ≡ only_tokens (made_from (root_of es) es 0 es (record { tokens = ts; text = s }))
unfolding made_of
made_tokens root ts s es =
    let m : Steps = made_from (root_of es) es 0 es (record { tokens = ts; text = s }) in
    told_cons (begins root) (m ++ ends ∷ []) ∙ ap₂ (λ (ys zs : Steps). ys ++ zs) (told_begins root) (told_more m (ends ∷ []) ∙ ap (λ (zs : Steps). only_tokens m ++ zs) told_end)
    ∙ append-nil (only_tokens m)

only_both : (xs ys : Steps) → OnlyTakes xs → OnlyTakes ys → OnlyTakes (xs ++ ys)
only_both [] ys h k = k
only_both (takes j n ∷ xs) ys h k = only_both xs ys h k
only_both (begins j ∷ xs) ys h k = absurd h
only_both (ends ∷ xs) ys h k = absurd h
only_both (reports m p ∷ xs) ys h k = absurd h

trivia_unseen : (ts : List RawToken) → without_trivia (trivia_of ts) ≡ []
trivia_unseen [] = seen_nothing
trivia_unseen (t ∷ ts) = by (is_trivia t.kind) refl (trivia_unseen ts)
  where
    by : (b : Bool) → is_trivia t.kind ≡ b → without_trivia (trivia_of ts) ≡ [] → without_trivia (if b then takes t.kind t.len ∷ trivia_of ts else []) ≡ []
    by true e h = seen_take t.kind t.len (trivia_of ts) ∙ ap₂ (λ (c : Bool) (xs : Steps). (if not c then takes t.kind t.len ∷ [] else []) ++ xs) e h
    by false e h = seen_nothing

-- where the node starts, and that its first child is the next token that the events make
pub record Starts
    (root : SyntaxKind) (attaching : List SyntaxKind) (s : List ℕ) (ts : List RawToken) (es : List Event) (t : Tree) (p : Place) (k l : SyntaxKind) (w : List ℕ) : Type 0 where
  pub starts : StartsBehind root attaching s ts es t p k
  pub len : ℕ
  pub long : length w ≡ len
  pub more : Steps
  pub next :
      only_tokens (made_from (root_of es) es (0 + min starts.is_of.from starts.is_of.number) (drop (min starts.is_of.from starts.is_of.number) es)
      (made_left (root_of es) 0 (take (min starts.is_of.from starts.is_of.number) es) (record { tokens = ts; text = s })))
      ≡ trivia_of (made_left (root_of es) 0 (take (min starts.is_of.from starts.is_of.number) es) (record { tokens = ts; text = s })).tokens ++ takes l len ∷ more

pub behind_front : (xs ys us vs : Steps) → xs ++ us ≡ ys ++ vs → xs ≡ ys → us ≡ vs
behind_front xs ys us vs e f = cancel ys (sym (ap (λ (zs : Steps). zs ++ us) f) ∙ e)
  where
    cancel : (zs : Steps) → zs ++ us ≡ zs ++ vs → us ≡ vs
    cancel [] q = q
    cancel (z ∷ zs) q = cancel zs (tail_same z z (zs ++ us) (zs ++ vs) q)

pub node_starts : (root : SyntaxKind) (attaching : List SyntaxKind) (s : List ℕ) (ts : List RawToken) (es : List Event) (t : Tree) (i : ℕ) (p : Place) (k l : SyntaxKind) (w : List ℕ) (f : Forest)
    → length s < 2 ^ 32 → IsCut ts s → length es < 2 ^ 32 → MakesPlainTokens es → BuildsNode (events_from (laid_of root attaching s ts es).steps s) t
    → IsPlace t (i ∷ p) → subtree t (i ∷ p) ≡ node k (cons (token l w) f) → is_trivia l ≡ false → Starts root attaching s ts es t (i ∷ p) k l w
node_starts root attaching s ts es t i p k l w f small cut few plain built at sub clear =
    let x : Placed root attaching s ts es t (i ∷ p) k (cons (token l w) f) = placed root attaching s ts es t i p k (cons (token l w) f) small cut few built at sub in
    let v : IsOfEvent root attaching s ts es t (i ∷ p) k = x.is_of in
    let m : ℕ = min v.from v.number in
    let start_left : Left = record { tokens = ts; text = s } in
    let own : Steps = made_steps (root_of es) 0 (take m es) start_left in
    let left : Left = made_left (root_of es) 0 (take m es) start_left in
    let y : NextTaken v.behind l w = next_taken v.behind x.left l w _ x.cuts x.later in
    let r : Rest (only_tokens (made_from (root_of es) es (0 + m) (drop m es) left)) left.tokens =
    rest_told (root_of es) es (0 + m) (drop m es) left (plain_rest m es (plain_all es plain)) in
    let trivia : Steps = trivia_of left.tokens in
    let all : only_tokens v.before ++ takes l y.len ∷ y.more ≡ (only_tokens own ++ trivia) ++ r.more =
    ap (λ (xs : Steps). only_tokens v.before ++ xs) (sym (told_cons (begins k) v.behind ∙ ap (λ (xs : Steps). xs ++ only_tokens v.behind) (told_begins k) ∙ y.is))
    ∙ sym (told_more v.before (begins k ∷ v.behind)) ∙ ap only_tokens (sym v.steps) ∙ tokens_made root attaching s ts es small cut few ∙ made_tokens root ts s es
    ∙ parts_told m (root_of es) es 0 es start_left ∙ ap (λ (xs : Steps). only_tokens own ++ xs) r.is ∙ sym (append_assoc (only_tokens own) trivia r.more) in
    let seen : without_trivia (only_tokens v.before) ≡ without_trivia (only_tokens own ++ trivia) =
    sym (seen_told v.before) ∙ v.seen ∙ seen_told own ∙ sym (seen_more (only_tokens own) trivia ∙ ap (λ (xs : Steps). without_trivia (only_tokens own) ++ xs) (trivia_unseen left.tokens) ∙ append-nil (without_trivia (only_tokens own))) in
    let front : only_tokens v.before ≡ only_tokens own ++ trivia =
    same_front (only_tokens v.before) (only_tokens own ++ trivia) r.more y.more l y.len (told_only v.before) (only_both (only_tokens own) trivia (told_only own) (trivia_takes left.tokens)) clear r.seen all seen in
    let starts : start t (i ∷ p) ≡ bytes_taken own + bytes_taken trivia =
    v.starts ∙ sym (told_bytes v.before) ∙ ap bytes_taken front ∙ bytes_both (only_tokens own) trivia ∙ ap (λ (n : ℕ). n + bytes_taken trivia) (told_bytes own) in
    let kept : bytes_taken own + sum_len left.tokens ≡ sum_len ts = all_kept (root_of es) 0 (take m es) start_left in
    let behind : takes l y.len ∷ y.more ≡ r.more = behind_front (only_tokens v.before) (only_tokens own ++ trivia) (takes l y.len ∷ y.more) r.more all front in
    record {
      starts = record { is_of = v; start_is = starts; rest = omega (arith, starts, kept, trivia_sum left.tokens left.text, cut_sum ts s cut) };
      len = y.len;
      long = y.long;
      more = y.more;
      next = r.is ∙ ap (λ (xs : Steps). trivia ++ xs) (sym behind);
    }

pub nodes_start : NodesStartBehindTokens
nodes_start root attaching s ts es t i p k l w f small cut few plain built at sub clear =
    (node_starts root attaching s ts es t i p k l w f small cut few plain built at sub clear).starts

-- where a token is the next event, and a token is left, that is made first
pub first_made : (root : ℕ) (all : List Event) (i : ℕ) (k j : SyntaxKind) (es : List Event) (l : Left) (len : ℕ) (more : Steps) → 0 < length (past l).tokens
    → only_tokens (made_from root all i (Token k 1 ∷ es) l) ≡ trivia_of l.tokens ++ takes j len ∷ more → (k ≡ j) × (first_len (past l).tokens ≤ len)
first_made root all i k j es l len more some e = by (past l).tokens refl some
  where
    kind_of_take : (c d : SyntaxKind) (u v : ℕ) → takes c u ≡ takes d v → c ≡ d
    kind_of_take c d u v q = cc

    len_of_take : (c d : SyntaxKind) (u v : ℕ) → takes c u ≡ takes d v → u ≡ v
    len_of_take c d u v q = cc

    by : (ts : List RawToken) → (past l).tokens ≡ ts → 0 < length ts → (k ≡ j) × (first_len (past l).tokens ≤ len)
    by [] q h = absurd (omega (arith, h))
    by (t ∷ ts) q h =
        let trivia : Steps = trivia_of l.tokens in
        let later : Steps = only_tokens (made_from root all (i + 1) es (made_by root i (Token k 1) l).left) in
        let own : Steps = (joined_on k (1 - 1) (t ∷ ts) (past l).text).steps in
        let made : only_tokens (made_by root i (Token k 1) l).steps ≡ trivia ++ own =
        told_more trivia (joined k (1 - 1) (past l)).steps
        ∙ ap₂ (λ (xs ys : Steps). xs ++ ys) (takes_told trivia (trivia_takes l.tokens))
        (ap (λ (us : List RawToken). only_tokens (joined_on k (1 - 1) us (past l).text).steps) q ∙ told_takes k _) in
        let whole : trivia ++ (own ++ later) ≡ trivia ++ takes j len ∷ more =
        sym (append_assoc trivia own later) ∙ ap (λ (xs : Steps). xs ++ later) (sym made) ∙ sym (told_from root all i (Token k 1) es l) ∙ e in
        let both : own ++ later ≡ takes j len ∷ more = behind_front trivia trivia (own ++ later) (takes j len ∷ more) whole refl in
        let first : takes k (t.len + sum_by (λ (u : RawToken). u.len) (take (1 - 1) ts)) ≡ takes j len = head_same _ (takes j len) later more both in
        (kind_of_take k j _ len first, omega (arith, len_of_take k j _ len first, ap first_len q))
