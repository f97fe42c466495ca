-- Lists that are full from the start have what lists that grow have.
use Rattle.std.proofs.Common.{◌≡◌, ℕ, zero, suc, ◌+◌, ◌-◌, ◌<◌, ◌≤◌, min, List, [], ◌∷◌, ◌++◌, length, take, get_or, set, replicate, fold, ap, sym, ◌∙◌, refl, arith, subst, Bool, true, false, if◌then◌else◌, nat_eq}
use Rattle.std.proofs.lemmas.List.{length-append, append_assoc}
use Rattle.std.proofs.lemmas.List.Sums.{fold_more}
use Rattle.std.proofs.Math.Seq.{set-append_seam}
use Rattle.grammar_machine.specs.declared.event.Event.{Event}
use Rattle.grammar_machine.specs.declared.event.Event.TheVariants.{Token, Piece, Node, Error}
use Rattle.event_layout.specs.Starts.{Links, number_at, number_of, passed_by, begun, begun_at, begun_from, linked, noted, with_room}

-- the links of the first i events
abbrev pub links_so_far : ℕ → List Event → ℕ → Links
links_so_far root es i = fold (λ l e. linked root e l) (record { last = replicate {A = ℕ} (length es) 0; before = [] }) (take i es)

-- a place of the room that is left
room : (n i : ℕ) → i < n → replicate {A = ℕ} (n - i) 0 ≡ 0 ∷ replicate {A = ℕ} (n - (i + 1)) 0
room n i h =
    let e : n - i ≡ suc (n - (i + 1)) = omega (arith, h) in
    ap (λ k. replicate {A = ℕ} k 0) e

room_behind : (before : List ℕ) (n i : ℕ) → i < n → before ++ replicate {A = ℕ} (n - i) 0 ≡ before ++ 0 ∷ replicate {A = ℕ} (n - (i + 1)) 0
room_behind before n i h = ap (λ r. before ++ r) (room n i h)

passed_in_room : (l : Links) (n i : ℕ) → i < n → with_room (n - i) l ≡ with_room (n - (i + 1)) (passed_by l)
passed_in_room l n i h = ap (λ b. record l { before = b }) (room_behind l.before n i h ∙ sym (append_assoc l.before (0 ∷ []) (replicate {A = ℕ} (n - (i + 1)) 0)))

set_in_room : (before : List ℕ) (n i v : ℕ) → length before ≡ i → i < n → set (before ++ replicate {A = ℕ} (n - i) 0) i v ≡ (before ++ v ∷ []) ++ replicate {A = ℕ} (n - (i + 1)) 0
set_in_room before n i v long h =
    ap (λ b. set b i v) (room_behind before n i h)
    ∙ subst (λ k. set (before ++ 0 ∷ replicate {A = ℕ} (n - (i + 1)) 0) k v ≡ before ++ v ∷ replicate {A = ℕ} (n - (i + 1)) 0) long (set-append_seam before 0 (replicate {A = ℕ} (n - (i + 1)) 0) v)
    ∙ sym (append_assoc before (v ∷ []) (replicate {A = ℕ} (n - (i + 1)) 0))

begun_in_room : (l : Links) (from n i : ℕ) → length l.before ≡ i → i < n → begun_from from i (with_room (n - i) l) ≡ with_room (n - (i + 1)) (begun from l)
begun_in_room l from n i long h =
    ap (λ b. record { last = set l.last (min from i) (number_of i); before = b }) (set_in_room l.before n i (number_at l.last (min from i)) long h)
    ∙ subst (λ k. record { last = set l.last (min from i) (number_of i); before = (l.before ++ number_at l.last (min from i) ∷ []) ++ replicate {A = ℕ} (n - (i + 1)) 0 } ≡ with_room (n - (i + 1)) (begun_at (min from k) (record l { last = l.last }))) (sym long)
    (ap (λ k. record { last = set l.last (min from i) (number_of k); before = (l.before ++ number_at l.last (min from i) ∷ []) ++ replicate {A = ℕ} (n - (i + 1)) 0 }) (sym long))

node_in_room : (b : Bool) (l : Links) (from n i : ℕ) → length l.before ≡ i → i < n
    → (if b then with_room (n - i) l else begun_from from i (with_room (n - i) l)) ≡ with_room (n - (i + 1)) (if b then passed_by l else begun from l)
node_in_room true l from n i long h = passed_in_room l n i h
node_in_room false l from n i long h = begun_in_room l from n i long h

-- one more event
noted_in_room : (root n i : ℕ) (e : Event) (l : Links) → length l.before ≡ i → i < n → noted root i e (with_room (n - i) l) ≡ with_room (n - (i + 1)) (linked root e l)
noted_in_room root n i (Node k from) l long h =
    node_in_room (nat_eq i root) l from n i long h
    ∙ subst (λ m. with_room (n - (i + 1)) (if nat_eq i root then passed_by l else begun from l) ≡ with_room (n - (i + 1)) (if nat_eq m root then passed_by l else begun from l)) (sym long) refl
noted_in_room root n i (Token k signs) l long h = passed_in_room l n i h
noted_in_room root n i (Piece p last) l long h = passed_in_room l n i h
noted_in_room root n i (Error m) l long h = passed_in_room l n i h

node_grows : (b : Bool) (l : Links) (from : ℕ) → length (if b then passed_by l else begun from l).before ≡ length l.before + 1
node_grows true l from = length-append l.before (0 ∷ [])
node_grows false l from = length-append l.before (number_at l.last (min from (length l.before)) ∷ [])

linked_grows : (root : ℕ) (e : Event) (l : Links) → length (linked root e l).before ≡ length l.before + 1
linked_grows root (Node k from) l = node_grows (nat_eq (length l.before) root) l from
linked_grows root (Token k signs) l = length-append l.before (0 ∷ [])
linked_grows root (Piece p last) l = length-append l.before (0 ∷ [])
linked_grows root (Error m) l = length-append l.before (0 ∷ [])

so_far_more : (root : ℕ) (es : List Event) (i : ℕ) (d : Event) → i < length es → links_so_far root es (i + 1) ≡ linked root (get_or es i d) (links_so_far root es i)
so_far_more root es i d h = fold_more (λ l e. linked root e l) (record { last = replicate {A = ℕ} (length es) 0; before = [] }) es i d h

so_far_long : (root : ℕ) (es : List Event) (d : Event) (i : ℕ) → i ≤ length es → length (links_so_far root es i).before ≡ i
so_far_long root es d zero h = refl
so_far_long root es d (suc i) h =
    let one : suc i ≡ i + 1 = omega arith in
    let less : i < length es = omega (arith, h) in
    let rest = so_far_long root es d i (omega (arith, h)) in
    subst (λ k. length (links_so_far root es k).before ≡ k) (sym one)
    (ap (λ l. length l.before) (so_far_more root es i d less) ∙ linked_grows root (get_or es i d) (links_so_far root es i) ∙ ap (λ k. k + 1) rest)

-- one more event, after the first i
pub noted_more : (root : ℕ) (es : List Event) (i : ℕ) (d : Event) (l : Links) → i < length es → l ≡ with_room (length es - i) (links_so_far root es i)
    → noted root i (get_or es i d) l ≡ with_room (length es - (i + 1)) (links_so_far root es (i + 1))
noted_more root es i d l h is =
    ap (noted root i (get_or es i d)) is
    ∙ noted_in_room root (length es) i (get_or es i d) (links_so_far root es i) (so_far_long root es d i (omega (arith, h))) h
    ∙ ap (with_room (length es - (i + 1))) (sym (so_far_more root es i d h))
