-- The orders of a text are those of what is around a piece, with the piece's own in its place.
use Rattle.std.proofs.Common.{◌≡◌, ◌⊎◌, inl, inr, ℕ, zero, suc, ◌+◌, ◌≤◌, ◌<◌, min, List, [], ◌∷◌, ◌++◌, length, map, ap, ap₂, sym, ◌∙◌, refl, arith, subst, Option, Some, None, Bool, true, false, if◌then◌else◌, nat_eq, append_assoc, append-nil, slice_get}
use Rattle.std.specs.Prelude.{nat_le, option_map}
use Rattle.std.proofs.lemmas.Bool.{eqb-true, eqb-false}
use Rattle.std.proofs.lemmas.Bool.Decides.{nat_tests}
use Rattle.std.proofs.lemmas.List.{map-append, length-map, length-append}
use Rattle.std.proofs.lemmas.Option.{slice_get-map}
use Rattle.syntax_kind.specs.declared.syntax_kind.SyntaxKind.{SyntaxKind}
use Rattle.grammar_machine.specs.declared.event.Event.{Event}
use Rattle.grammar_machine.specs.declared.event.Event.TheVariants.{Token, Piece, Node, Error}
use Rattle.grammar_machine.specs.Framing.{moved_event, moved_events}
use Rattle.grammar_machine.specs.Filling.{later_than, event_later}
use Rattle.event_layout.specs.Layout.{root_from, root_of, is_node_at}
use Rattle.event_layout.specs.Made.{Span, node_of}
use Rattle.event_layout.specs.Orders.{Order, begin_node, end_node, nothing, Turn, turn, turns, kind_if, kinds_at, orders_from, orders_of}

-- ---- lists of turns

pub kinds_both : (i : ℕ) (xs ys : List Turn) → kinds_at i (xs ++ ys) ≡ kinds_at i ys ++ kinds_at i xs
kinds_both i [] ys = sym (append-nil (kinds_at i ys))
kinds_both i (x ∷ xs) ys = ap (λ ks. ks ++ kind_if i x.node) (kinds_both i xs ys) ∙ append_assoc (kinds_at i ys) (kinds_at i xs) (kind_if i x.node)

pub turns_both : (r n : ℕ) (xs ys : List Event) → turns r n (xs ++ ys) ≡ turns r n xs ++ turns r (n + length xs) ys
turns_both r n [] ys = let e : n ≡ n + 0 = omega arith in ap (λ m. turns r m ys) e
turns_both r n (x ∷ xs) ys =
    let e : suc n + length xs ≡ n + suc (length xs) = omega arith in
    ap (λ ts. turn r n x ∷ ts) (turns_both r (suc n) xs ys ∙ ap (λ m. turns r (suc n) xs ++ turns r m ys) e)

pub turns_length : (r n : ℕ) (es : List Event) → length (turns r n es) ≡ length es
turns_length r n [] = refl
turns_length r n (e ∷ es) = ap suc (turns_length r (suc n) es)

pub orders_both : (all : List Turn) (i : ℕ) (xs ys : List Turn) → orders_from all i (xs ++ ys) ≡ orders_from all i xs ++ orders_from all (i + length xs) ys
orders_both all i [] ys = let e : i ≡ i + 0 = omega arith in ap (λ m. orders_from all m ys) e
orders_both all i (x ∷ xs) ys =
    let e : suc i + length xs ≡ i + suc (length xs) = omega arith in
    let ks = map begin_node (kinds_at i all) in
    ap (λ os. ks ++ x.order ∷ os) (orders_both all (suc i) xs ys ∙ ap (λ m. orders_from all (suc i) xs ++ orders_from all m ys) e)
    ∙ sym (append_assoc ks (x.order ∷ orders_from all (suc i) xs) (orders_from all (i + suc (length xs)) ys))

-- the same nodes begin
orders_same : (all others : List Turn) (i j : ℕ) (xs : List Turn)
    → ((p q : ℕ) → i ≤ p → p < i + length xs → p + j ≡ q + i → kinds_at p all ≡ kinds_at q others)
    → orders_from all i xs ≡ orders_from others j xs
orders_same all others i j [] h = refl
orders_same all others i j (x ∷ xs) h =
    ap₂ (λ ks os. map begin_node ks ++ x.order ∷ os) (h i j (omega arith) (omega arith) (omega arith))
    (orders_same all others (suc i) (suc j) xs (λ p q low high e. h p q (omega (arith, low)) (omega (arith, high)) (omega (arith, e))))

-- other nodes, but the same orders
orders_map : (all : List Turn) (i : ℕ) (f : Turn → Turn) (xs : List Turn) → ((t : Turn) → (f t).order ≡ t.order) → orders_from all i (map f xs) ≡ orders_from all i xs
orders_map all i f [] h = refl
orders_map all i f (x ∷ xs) h = ap₂ (λ o os. map begin_node (kinds_at i all) ++ o ∷ os) (h x) (orders_map all (suc i) f xs h)

-- ---- where nodes begin

not_equal : (a b : ℕ) → (a ≡ b → ⊥) → nat_eq a b ≡ false
not_equal a b h = by_test (nat_eq a b) refl
  where
    by_test : (x : Bool) → nat_eq a b ≡ x → x ≡ false
    by_test true e = absurd (h (eqb-true a b e))
    by_test false e = refl

same_test : (a b c d : ℕ) → (a ≡ b → c ≡ d) → (c ≡ d → a ≡ b) → nat_eq a b ≡ nat_eq c d
same_test a b c d f g = by_tests (nat_eq a b) (nat_eq c d) refl refl
  where
    by_tests : (x y : Bool) → nat_eq a b ≡ x → nat_eq c d ≡ y → x ≡ y
    by_tests true true e h = refl
    by_tests true false e h = absurd (eqb-false c d h (f (eqb-true a b e)))
    by_tests false true e h = absurd (eqb-false a b e (g (eqb-true c d h)))
    by_tests false false e h = refl

abbrev pub NodeIn : ℕ → ℕ → Option Span → Type 0
NodeIn low high None = Unit
NodeIn low high (Some s) = (low ≤ s.from) × (s.from < high)

-- all nodes begin with events from `low` on, below `high`
abbrev pub Within : ℕ → ℕ → List Turn → Type 0
Within low high [] = Unit
Within low high (t ∷ ts) = NodeIn low high t.node × Within low high ts

kind_none : (i low high : ℕ) (o : Option Span) → NodeIn low high o → (i < low) ⊎ (high ≤ i) → kind_if i o ≡ []
kind_none i low high None h away = refl
kind_none i low high (Some s) h (inl below) = ap (λ b. if b then s.kind ∷ [] else []) (not_equal s.from i (λ e. omega (arith, e, below, h.0)))
kind_none i low high (Some s) h (inr above) = ap (λ b. if b then s.kind ∷ [] else []) (not_equal s.from i (λ e. omega (arith, e, above, h.1)))

pub none_at : (i low high : ℕ) (ts : List Turn) → Within low high ts → (i < low) ⊎ (high ≤ i) → kinds_at i ts ≡ []
none_at i low high [] h away = refl
none_at i low high (t ∷ ts) h away = ap₂ (λ ks ls. ks ++ ls) (none_at i low high ts h.1 away) (kind_none i low high t.node h.0 away)

node_within : (r n high : ℕ) (e : Event) → n < high → NodeIn 0 high (node_of r n (Some e))
node_within r n high (Node k from) h = by_test (nat_eq n r)
  where
    by_test : (b : Bool) → NodeIn 0 high (if b then None else Some (record { kind = k; from = min from n }))
    by_test true = tt
    by_test false = (omega arith, omega (arith, h))
node_within r n high (Token k signs) h = tt
node_within r n high (Piece p last) h = tt
node_within r n high (Error m) h = tt

-- a node begins with its own event at the latest
pub turns_within : (r n high : ℕ) (es : List Event) → n + length es ≤ high → Within 0 high (turns r n es)
turns_within r n high [] h = tt
turns_within r n high (e ∷ es) h = (node_within r n high e (omega (arith, h)), turns_within r (suc n) high es (omega (arith, h)))

-- no event of these is the root's, so that its number does not matter
turn_off : (r q n : ℕ) (e : Event) → n < r → n < q → turn r n e ≡ turn q n e
turn_off r q n (Node k from) h g =
    ap (λ (b : Bool). ◌turn b) (not_equal n r (λ e. omega (arith, e, h)) ∙ sym (not_equal n q (λ e. omega (arith, e, g))))
  where
    ◌turn : Bool → Turn
    ◌turn b = record { node = if b then None else Some (record { kind = k; from = min from n }); order = if b then nothing else end_node }
turn_off r q n (Token k signs) h g = refl
turn_off r q n (Piece p last) h g = refl
turn_off r q n (Error m) h g = refl

turns_off : (r q n : ℕ) (es : List Event) → n + length es ≤ r → n + length es ≤ q → turns r n es ≡ turns q n es
turns_off r q n [] h g = refl
turns_off r q n (e ∷ es) h g = ap₂ (λ t ts. t ∷ ts) (turn_off r q n e (omega (arith, h)) (omega (arith, g))) (turns_off r q (suc n) es (omega (arith, h)) (omega (arith, g)))

-- ---- the piece

abbrev moved_span : ℕ → Option Span → Option Span
moved_span by None = None
moved_span by (Some s) = Some (record s { from = s.from + by })

abbrev pub moved_turn : ℕ → Turn → Turn
moved_turn by t = record t { node = moved_span by t.node }

abbrev node_turn : SyntaxKind → ℕ → Bool → Turn
node_turn k from b = record { node = if b then None else Some (record { kind = k; from = from }); order = if b then nothing else end_node }

turn_moved : (r q by n : ℕ) (e : Event) → n + by < r → n < q → turn r (n + by) (moved_event by e) ≡ moved_turn by (turn q n e)
turn_moved r q by n (Node k from) h g =
    let least : min (from + by) (n + by) ≡ min from n + by = omega arith in
    ap (node_turn k (min (from + by) (n + by))) (not_equal (n + by) r (λ e. omega (arith, e, h)))
    ∙ ap (λ m. node_turn k m false) least
    ∙ ap (λ b. moved_turn by (node_turn k (min from n) b)) (sym (not_equal n q (λ e. omega (arith, e, g))))
turn_moved r q by n (Token k signs) h g = refl
turn_moved r q by n (Piece p last) h g = ap (λ o. record { node = None; order = o }) refl
turn_moved r q by n (Error m) h g = refl

turns_moved : (r q by n : ℕ) (es : List Event) → n + by + length es ≤ r → n + length es ≤ q → turns r (n + by) (moved_events by es) ≡ map (moved_turn by) (turns q n es)
turns_moved r q by n [] h g = refl
turns_moved r q by n (e ∷ es) h g =
    let next : suc (n + by) ≡ suc n + by = omega arith in
    ap₂ (λ t ts. t ∷ ts) (turn_moved r q by n e (omega (arith, h)) (omega (arith, g)))
    (ap (λ m. turns r m (moved_events by es)) next ∙ turns_moved r q by (suc n) es (omega (arith, h)) (omega (arith, g)))

kind_moved : (i j by : ℕ) (o : Option Span) → i ≡ j + by → kind_if i (moved_span by o) ≡ kind_if j o
kind_moved i j by None e = refl
kind_moved i j by (Some s) e = ap (λ b. if b then s.kind ∷ [] else []) (same_test (s.from + by) i s.from j (λ h. omega (arith, h, e)) (λ h. omega (arith, h, e)))

kinds_moved : (i j by : ℕ) (ts : List Turn) → i ≡ j + by → kinds_at i (map (moved_turn by) ts) ≡ kinds_at j ts
kinds_moved i j by [] e = refl
kinds_moved i j by (t ∷ ts) e = ap₂ (λ ks ls. ks ++ ls) (kinds_moved i j by ts e) (kind_moved i j by t.node e)

moved_within : (by low high : ℕ) (ts : List Turn) → Within low high ts → Within (low + by) (high + by) (map (moved_turn by) ts)
moved_within by low high [] h = tt
moved_within by low high (t ∷ ts) h = (node_moved t.node h.0, moved_within by low high ts h.1)
  where
    node_moved : (o : Option Span) → NodeIn low high o → NodeIn (low + by) (high + by) (moved_span by o)
    node_moved None g = tt
    node_moved (Some s) g = (omega (arith, g.0), omega (arith, g.1))

-- ---- what is behind the piece

abbrev later_span : ℕ → ℕ → Option Span → Option Span
later_span e n None = None
later_span e n (Some s) = Some (record s { from = later_than e n s.from })

abbrev pub later_turn : ℕ → ℕ → Turn → Turn
later_turn e n t = record t { node = later_span e n t.node }

pub later_low : (e n i : ℕ) → i ≤ e → later_than e n i ≡ i
later_low e n i h = by_test (nat_le i e) refl
  where
    by_test : (x : Bool) → nat_le i e ≡ x → (if x then i else i + n) ≡ i
    by_test true q = refl
    by_test false q = let high : e < i = grind (arith, nat_tests, q) in absurd (omega (arith, high, h))

later_high : (e n i : ℕ) → e < i → later_than e n i ≡ i + n
later_high e n i h = by_test (nat_le i e) refl
  where
    by_test : (x : Bool) → nat_le i e ≡ x → (if x then i else i + n) ≡ i + n
    by_test false q = refl
    by_test true q = let low : i ≤ e = grind (arith, nat_tests, q) in absurd (omega (arith, low, h))

below_or_above : (i e : ℕ) → (i ≤ e) ⊎ (e < i)
below_or_above zero e = inl (omega arith)
below_or_above (suc i) zero = inr (omega arith)
below_or_above (suc i) (suc e) = next (below_or_above i e)
  where
    next : (i ≤ e) ⊎ (e < i) → (suc i ≤ suc e) ⊎ (suc e < suc i)
    next (inl h) = inl (omega (arith, h))
    next (inr h) = inr (omega (arith, h))

least_later : (e n m from : ℕ) → e < m → (from ≤ e) ⊎ (e < from) → min (later_than e n from) (m + n) ≡ later_than e n (min from m)
least_later e n m from h (inl low) =
    let own : min from m ≡ from = omega (arith, low, h) in
    ap (λ i. min i (m + n)) (later_low e n from low) ∙ omega (arith, low, h) ∙ sym (ap (later_than e n) own ∙ later_low e n from low)
least_later e n m from h (inr high) =
    ap (λ i. min i (m + n)) (later_high e n from high) ∙ omega arith ∙ sym (later_high e n (min from m) (omega (arith, h, high)))

turn_later : (r q e n m : ℕ) (x : Event) → r ≡ q + n → e < m → turn r (m + n) (event_later e n x) ≡ later_turn e n (turn q m x)
turn_later r q e n m (Node k from) is h =
    ap (node_turn k (min (later_than e n from) (m + n))) (same_test (m + n) r m q (λ s. omega (arith, s, is)) (λ s. omega (arith, s, is)))
    ∙ ap (λ i. node_turn k i (nat_eq m q)) (least_later e n m from h (below_or_above from e))
    ∙ by_test (nat_eq m q)
  where
    by_test : (b : Bool) → node_turn k (later_than e n (min from m)) b ≡ later_turn e n (node_turn k (min from m) b)
    by_test true = refl
    by_test false = refl
turn_later r q e n m (Token k signs) is h = refl
turn_later r q e n m (Piece p last) is h = refl
turn_later r q e n m (Error x) is h = refl

turns_later : (r q e n m : ℕ) (es : List Event) → r ≡ q + n → e < m → turns r (m + n) (map (event_later e n) es) ≡ map (later_turn e n) (turns q m es)
turns_later r q e n m [] is h = refl
turns_later r q e n m (x ∷ es) is h =
    let next : suc (m + n) ≡ suc m + n = omega arith in
    ap₂ (λ t ts. t ∷ ts) (turn_later r q e n m x is h) (ap (λ i. turns r i (map (event_later e n) es)) next ∙ turns_later r q e n (suc m) es is (omega (arith, h)))

kind_low : (e n i : ℕ) (o : Option Span) → i ≤ e → kind_if i (later_span e n o) ≡ kind_if i o
kind_low e n i None h = refl
kind_low e n i (Some s) h = by_side (below_or_above s.from e)
  where
    by_side : (s.from ≤ e) ⊎ (e < s.from) → kind_if i (Some (record s { from = later_than e n s.from })) ≡ kind_if i (Some s)
    by_side (inl low) = ap (λ f. kind_if i (Some (record s { from = f }))) (later_low e n s.from low)
    by_side (inr high) = ap (λ f. kind_if i (Some (record s { from = f }))) (later_high e n s.from high)
        ∙ ap (λ b. if b then s.kind ∷ [] else []) (same_test (s.from + n) i s.from i (λ q. omega (arith, q, high, h)) (λ q. omega (arith, q, high, h)))

kinds_low : (e n i : ℕ) (ts : List Turn) → i ≤ e → kinds_at i (map (later_turn e n) ts) ≡ kinds_at i ts
kinds_low e n i [] h = refl
kinds_low e n i (t ∷ ts) h = ap₂ (λ ks ls. ks ++ ls) (kinds_low e n i ts h) (kind_low e n i t.node h)

kind_amid : (e n i : ℕ) (o : Option Span) → e < i → i ≤ e + n → kind_if i (later_span e n o) ≡ []
kind_amid e n i None h le = refl
kind_amid e n i (Some s) h le = by_side (below_or_above s.from e)
  where
    by_side : (s.from ≤ e) ⊎ (e < s.from) → kind_if i (Some (record s { from = later_than e n s.from })) ≡ []
    by_side (inl low) = ap (λ f. kind_if i (Some (record s { from = f }))) (later_low e n s.from low) ∙ ap (λ b. if b then s.kind ∷ [] else []) (not_equal s.from i (λ q. omega (arith, q, low, h)))
    by_side (inr high) = ap (λ f. kind_if i (Some (record s { from = f }))) (later_high e n s.from high) ∙ ap (λ b. if b then s.kind ∷ [] else []) (not_equal (s.from + n) i (λ q. omega (arith, q, high, le)))

kinds_amid : (e n i : ℕ) (ts : List Turn) → e < i → i ≤ e + n → kinds_at i (map (later_turn e n) ts) ≡ []
kinds_amid e n i [] h le = refl
kinds_amid e n i (t ∷ ts) h le = ap₂ (λ ks ls. ks ++ ls) (kinds_amid e n i ts h le) (kind_amid e n i t.node h le)

kind_high : (e n i j : ℕ) (o : Option Span) → e < j → i ≡ j + n → kind_if i (later_span e n o) ≡ kind_if j o
kind_high e n i j None h is = refl
kind_high e n i j (Some s) h is = by_side (below_or_above s.from e)
  where
    by_side : (s.from ≤ e) ⊎ (e < s.from) → kind_if i (Some (record s { from = later_than e n s.from })) ≡ kind_if j (Some s)
    by_side (inl low) = ap (λ f. kind_if i (Some (record s { from = f }))) (later_low e n s.from low)
        ∙ ap (λ b. if b then s.kind ∷ [] else []) (same_test s.from i s.from j (λ q. omega (arith, q, low, h, is)) (λ q. omega (arith, q, low, h, is)))
    by_side (inr high) = ap (λ f. kind_if i (Some (record s { from = f }))) (later_high e n s.from high)
        ∙ ap (λ b. if b then s.kind ∷ [] else []) (same_test (s.from + n) i s.from j (λ q. omega (arith, q, is)) (λ q. omega (arith, q, is)))

kinds_high : (e n i j : ℕ) (ts : List Turn) → e < j → i ≡ j + n → kinds_at i (map (later_turn e n) ts) ≡ kinds_at j ts
kinds_high e n i j [] h is = refl
kinds_high e n i j (t ∷ ts) h is = ap₂ (λ ks ls. ks ++ ls) (kinds_high e n i j ts h is) (kind_high e n i j t.node h is)

-- ---- the root

root_zero : (es : List Event) → root_from es 0 ≡ length es
unfolding root_from
root_zero es = refl

root_suc : (es : List Event) (n : ℕ) → root_from es (suc n) ≡ (if is_node_at (slice_get es n) then n else root_from es n)
unfolding root_from
root_suc es n = refl

get_behind : (xs ys : List Event) (n : ℕ) → slice_get (xs ++ ys) (length xs + n) ≡ slice_get ys n
get_behind [] ys n = let e : 0 + n ≡ n = omega arith in ap (slice_get ys) e
get_behind (x ∷ xs) ys n = let e : suc (length xs) + n ≡ suc (length xs + n) = omega arith in ap (slice_get (x ∷ (xs ++ ys))) e ∙ get_behind xs ys n

root_behind_on : (xs ys : List Event) (n : ℕ) (b : Bool) → is_node_at (slice_get ys n) ≡ b
    → (root_from ys n < length ys → root_from (xs ++ ys) (length xs + n) ≡ length xs + root_from ys n) → root_from ys (suc n) < length ys
    → (if b then length xs + n else root_from (xs ++ ys) (length xs + n)) ≡ length xs + root_from ys (suc n)
root_behind_on xs ys n true q more h = sym (ap (λ m. length xs + m) (root_suc ys n ∙ ap (λ b. if b then n else root_from ys n) q))
root_behind_on xs ys n false q more h =
    let same : root_from ys (suc n) ≡ root_from ys n = root_suc ys n ∙ ap (λ b. if b then n else root_from ys n) q in
    more (omega (arith, h, same)) ∙ sym (ap (λ m. length xs + m) same)

-- one of the last events is a node's
root_behind_from : (xs ys : List Event) (n : ℕ) → root_from ys n < length ys → root_from (xs ++ ys) (length xs + n) ≡ length xs + root_from ys n
root_behind_from xs ys zero h = absurd (omega (arith, h, root_zero ys))
root_behind_from xs ys (suc n) h =
    let e : length xs + suc n ≡ suc (length xs + n) = omega arith in
    ap (root_from (xs ++ ys)) e ∙ root_suc (xs ++ ys) (length xs + n)
    ∙ ap (λ o. if is_node_at o then length xs + n else root_from (xs ++ ys) (length xs + n)) (get_behind xs ys n)
    ∙ root_behind_on xs ys n (is_node_at (slice_get ys n)) refl (root_behind_from xs ys n) h

pub root_behind : (xs ys : List Event) → root_of ys < length ys → root_of (xs ++ ys) ≡ length xs + root_of ys
root_behind xs ys h = ap (root_from (xs ++ ys)) (length-append xs ys) ∙ root_behind_from xs ys (length ys) h

is_node_later : (e n : ℕ) (o : Option Event) → is_node_at (option_map (event_later e n) o) ≡ is_node_at o
is_node_later e n None = refl
is_node_later e n (Some (Node k from)) = refl
is_node_later e n (Some (Token k signs)) = refl
is_node_later e n (Some (Piece p last)) = refl
is_node_later e n (Some (Error m)) = refl

root_later_from : (e n : ℕ) (es : List Event) (m : ℕ) → root_from (map (event_later e n) es) m ≡ root_from es m
root_later_from e n es zero = root_zero (map (event_later e n) es) ∙ length-map es (event_later e n) ∙ sym (root_zero es)
root_later_from e n es (suc m) =
    root_suc (map (event_later e n) es) m
    ∙ ap₂ (λ b i. if b then m else i) (ap is_node_at (slice_get-map (event_later e n) es m) ∙ is_node_later e n (slice_get es m)) (root_later_from e n es m)
    ∙ sym (root_suc es m)

root_later : (e n : ℕ) (es : List Event) → root_of (map (event_later e n) es) ≡ root_of es
root_later e n es = ap (root_from (map (event_later e n) es)) (length-map es (event_later e n)) ∙ root_later_from e n es (length es)

-- ---- all together

-- the events before a piece, by themselves
abbrev pub turns_before : List Event → List Turn
turns_before before = turns (length before) 0 before

-- those of a piece by itself
abbrev pub turns_inside : List Event → List Turn
turns_inside piece = turns (length piece) 0 piece

-- those behind, where a piece is one event behind e others
abbrev pub turns_behind : ℕ → List Event → List Turn
turns_behind e behind = turns (suc e + root_of behind) (suc e) behind

abbrev pub orders_before : List Event → List Event → List Order
orders_before before behind = orders_from (turns_before before ++ turns_behind (length before) behind) 0 (turns_before before)

-- the nodes from behind the piece that begin with it
abbrev pub orders_at : List Event → List Event → List Order
orders_at before behind = map begin_node (kinds_at (length before) (turns_behind (length before) behind))

abbrev pub orders_inside : List Event → List Order
orders_inside piece = orders_from (turns_inside piece) 0 (turns_inside piece)

abbrev pub orders_behind : List Event → List Event → List Order
orders_behind before behind = orders_from (turns_behind (length before) behind) (suc (length before)) (turns_behind (length before) behind)

equal : (a b : ℕ) → a ≡ b → nat_eq a b ≡ true
equal a b e = by_test (nat_eq a b) refl
  where
    by_test : (x : Bool) → nat_eq a b ≡ x → x ≡ true
    by_test true q = refl
    by_test false q = absurd (eqb-false a b q e)

begin_both : (ks ls : List SyntaxKind) → map begin_node (ks ++ ls) ≡ map begin_node ks ++ map begin_node ls
begin_both ks ls = map-append begin_node ks ls

module _ (before : List Event) (x : Event) (xs behind : List Event) (k : SyntaxKind) (outer : root_of behind < length behind) where
  abbrev whole : List Event
  whole = before ++ (moved_events (length before) (x ∷ xs) ++ Node k (length before) ∷ map (event_later (length before) (suc (length xs))) behind)

  abbrev last_turn : Turn
  last_turn = record { node = Some (record { kind = k; from = length before }); order = end_node }

  moved_length : length (moved_events (length before) (x ∷ xs)) ≡ suc (length xs)
  moved_length = length-map (x ∷ xs) (moved_event (length before))

  root_is : root_of (before ++ (moved_events (length before) (x ∷ xs) ++ Node k (length before) ∷ map (event_later (length before) (suc (length xs))) behind))
      ≡ length before + (suc (length xs) + (1 + root_of behind))
  root_is =
      let l = map (event_later (length before) (suc (length xs))) behind in
      let m = moved_events (length before) (x ∷ xs) in
      let d = Node k (length before) in
      let same : root_of l ≡ root_of behind = root_later (length before) (suc (length xs)) behind in
      let long : length l ≡ length behind = length-map behind (event_later (length before) (suc (length xs))) in
      let one : root_of (d ∷ l) ≡ 1 + root_of l = root_behind (d ∷ []) l (omega (arith, same, long, outer)) in
      let two : root_of (m ++ d ∷ l) ≡ length m + root_of (d ∷ l) = root_behind m (d ∷ l) (omega (arith, one, same, long, outer)) in
      let three : root_of (before ++ (m ++ d ∷ l)) ≡ length before + root_of (m ++ d ∷ l) = root_behind before (m ++ d ∷ l) (omega (arith, one, two, same, long, outer, length-append m (d ∷ l))) in
      omega (arith, one, two, three, same, moved_length)

  abbrev all_turns : List Turn
  all_turns = turns_before before ++ (map (moved_turn (length before)) (turns_inside (x ∷ xs)) ++ last_turn ∷ map (later_turn (length before) (suc (length xs))) (turns_behind (length before) behind))

  turns_are : (r : ℕ) → r ≡ length before + (suc (length xs) + (1 + root_of behind)) → turns r 0 whole ≡ all_turns
  turns_are r is =
      let e = length before in
      let n = suc (length xs) in
      let l = map (event_later e n) behind in
      let m = moved_events e (x ∷ xs) in
      let d = Node k e in
      let least : min e (e + n) ≡ e = omega arith in
      let at : 0 + e + length m ≡ e + n = omega (arith, moved_length) in
      let own : turn r (0 + e + length m) d ≡ last_turn =
      ap (λ b. node_turn k (min e (0 + e + length m)) b) (not_equal (0 + e + length m) r (λ q. omega (arith, q, is, at)))
      ∙ ap (λ i. node_turn k (min e i) false) at ∙ ap (λ i. node_turn k i false) least in
      let next : suc (0 + e + length m) ≡ suc e + n = omega (arith, at) in
      turns_both r 0 before (m ++ d ∷ l)
      ∙ ap₂ (λ ts us. ts ++ us) (turns_off r e 0 before (omega (arith, is)) (omega arith))
      (turns_both r (0 + e) m (d ∷ l)
      ∙ ap₂ (λ ts us. ts ++ us) (turns_moved r n e 0 (x ∷ xs) (omega (arith, is)) (omega arith))
      (ap₂ (λ t ts. t ∷ ts) own (ap (λ i. turns r i l) next ∙ turns_later r (suc e + root_of behind) e n (suc e) behind (omega (arith, is)) (omega arith))))

  inside_within : Within 0 (suc (length xs)) (turns_inside (x ∷ xs))
  inside_within = turns_within (suc (length xs)) 0 (suc (length xs)) (x ∷ xs) (omega arith)

  moved_in : Within (length before) (suc (length xs) + length before) (map (moved_turn (length before)) (turns_inside (x ∷ xs)))
  moved_in =
      let z : 0 + length before ≡ length before = omega arith in
      subst (λ low. Within low (suc (length xs) + length before) (map (moved_turn (length before)) (turns_inside (x ∷ xs)))) z
      (moved_within (length before) 0 (suc (length xs)) (turns_inside (x ∷ xs)) inside_within)

  before_in : Within 0 (length before) (turns_before before)
  before_in = turns_within (length before) 0 (length before) before (omega arith)

  -- the nodes that begin with event i: behind the piece, its own, in it, and before it
  kinds_in : (i : ℕ) → kinds_at i all_turns ≡
      ((kinds_at i (map (later_turn (length before) (suc (length xs))) (turns_behind (length before) behind)) ++ kind_if i last_turn.node)
      ++ kinds_at i (map (moved_turn (length before)) (turns_inside (x ∷ xs)))) ++ kinds_at i (turns_before before)
  kinds_in i =
      let m = map (moved_turn (length before)) (turns_inside (x ∷ xs)) in
      let l = map (later_turn (length before) (suc (length xs))) (turns_behind (length before) behind) in
      kinds_both i (turns_before before) (m ++ last_turn ∷ l) ∙ ap (λ ks. ks ++ kinds_at i (turns_before before)) (kinds_both i m (last_turn ∷ l))

  own_none : (i : ℕ) → (length before ≡ i → ⊥) → kind_if i last_turn.node ≡ []
  own_none i h = ap (λ b. if b then k ∷ [] else []) (not_equal (length before) i h)

  four : (a b c d a' b' c' d' : List SyntaxKind) → a ≡ a' → b ≡ b' → c ≡ c' → d ≡ d' → ((a ++ b) ++ c) ++ d ≡ ((a' ++ b') ++ c') ++ d'
  four a b c d a' b' c' d' p q r s = cc

  kinds_before : (i : ℕ) → i < length before → kinds_at i all_turns ≡ kinds_at i (turns_before before ++ turns_behind (length before) behind)
  kinds_before i h =
      let m = map (moved_turn (length before)) (turns_inside (x ∷ xs)) in
      let l = map (later_turn (length before) (suc (length xs))) (turns_behind (length before) behind) in
      let s = turns_behind (length before) behind in
      let b = turns_before before in
      kinds_in i
      ∙ four (kinds_at i l) (kind_if i last_turn.node) (kinds_at i m) (kinds_at i b) (kinds_at i s) [] [] (kinds_at i b)
      (kinds_low (length before) (suc (length xs)) i s (omega (arith, h))) (own_none i (λ q. omega (arith, q, h))) (none_at i (length before) (suc (length xs) + length before) m moved_in (inl h)) refl
      ∙ ap (λ ks. ks ++ kinds_at i b) (append-nil (kinds_at i s ++ []) ∙ append-nil (kinds_at i s))
      ∙ sym (kinds_both i b s)

  kinds_here : kinds_at (length before) all_turns ≡ kinds_at (length before) (turns_behind (length before) behind) ++ k ∷ kinds_at 0 (turns_inside (x ∷ xs))
  kinds_here =
      let i = length before in
      let m = map (moved_turn i) (turns_inside (x ∷ xs)) in
      let l = map (later_turn i (suc (length xs))) (turns_behind i behind) in
      let s = turns_behind i behind in
      let b = turns_before before in
      let own : kind_if i last_turn.node ≡ k ∷ [] = ap (λ b. if b then k ∷ [] else []) (equal i i refl) in
      kinds_in i
      ∙ four (kinds_at i l) (kind_if i last_turn.node) (kinds_at i m) (kinds_at i b) (kinds_at i s) (k ∷ []) (kinds_at 0 (turns_inside (x ∷ xs))) []
      (kinds_low i (suc (length xs)) i s (omega arith)) own (kinds_moved i 0 i (turns_inside (x ∷ xs)) (omega arith)) (none_at i 0 i b before_in (inr (omega arith)))
      ∙ append-nil ((kinds_at i s ++ k ∷ []) ++ kinds_at 0 (turns_inside (x ∷ xs)))
      ∙ append_assoc (kinds_at i s) (k ∷ []) (kinds_at 0 (turns_inside (x ∷ xs)))

  kinds_inside : (i j : ℕ) → 0 < j → j ≤ suc (length xs) → i ≡ j + length before → kinds_at i all_turns ≡ kinds_at j (turns_inside (x ∷ xs))
  kinds_inside i j some most is =
      let m = map (moved_turn (length before)) (turns_inside (x ∷ xs)) in
      let l = map (later_turn (length before) (suc (length xs))) (turns_behind (length before) behind) in
      let b = turns_before before in
      kinds_in i
      ∙ four (kinds_at i l) (kind_if i last_turn.node) (kinds_at i m) (kinds_at i b) [] [] (kinds_at j (turns_inside (x ∷ xs))) []
      (kinds_amid (length before) (suc (length xs)) i (turns_behind (length before) behind) (omega (arith, is, some)) (omega (arith, is, most)))
      (own_none i (λ q. omega (arith, q, is, some))) (kinds_moved i j (length before) (turns_inside (x ∷ xs)) is) (none_at i 0 (length before) b before_in (inr (omega (arith, is))))
      ∙ append-nil (kinds_at j (turns_inside (x ∷ xs)))

  kinds_behind : (i j : ℕ) → length before < j → i ≡ j + suc (length xs) → kinds_at i all_turns ≡ kinds_at j (turns_behind (length before) behind)
  kinds_behind i j h is =
      let m = map (moved_turn (length before)) (turns_inside (x ∷ xs)) in
      let s = turns_behind (length before) behind in
      let l = map (later_turn (length before) (suc (length xs))) s in
      let b = turns_before before in
      kinds_in i
      ∙ four (kinds_at i l) (kind_if i last_turn.node) (kinds_at i m) (kinds_at i b) (kinds_at j s) [] [] []
      (kinds_high (length before) (suc (length xs)) i j s h is) (own_none i (λ q. omega (arith, q, is, h)))
      (none_at i (length before) (suc (length xs) + length before) m moved_in (inr (omega (arith, is, h)))) (none_at i 0 (length before) b before_in (inr (omega (arith, is, h))))
      ∙ append-nil ((kinds_at j s ++ []) ++ []) ∙ append-nil (kinds_at j s ++ []) ∙ append-nil (kinds_at j s)

  abbrev others : List Turn
  others = turns (suc (length xs)) 1 xs

  -- the orders of the piece, and its node's before them
  piece_ordered : (i : ℕ) → i ≡ length before → orders_from all_turns i (map (moved_turn (length before)) (turns_inside (x ∷ xs))) ≡ orders_at before behind ++ begin_node k ∷ orders_inside (x ∷ xs)
  piece_ordered i is =
      let b = length before in
      let t = turn (suc (length xs)) 0 x in
      let ks = kinds_at b (turns_behind b behind) in
      let inner = kinds_at 0 (turns_inside (x ∷ xs)) in
      let more : orders_from all_turns (suc b) (map (moved_turn b) others) ≡ orders_from (turns_inside (x ∷ xs)) 1 others =
      orders_map all_turns (suc b) (moved_turn b) others (λ t. refl)
      ∙ orders_same all_turns (turns_inside (x ∷ xs)) (suc b) 1 others
      (λ p q low high e. kinds_inside p q (omega (arith, e, low)) (omega (arith, e, high, turns_length (suc (length xs)) 1 xs)) (omega (arith, e))) in
      ap (λ i. orders_from all_turns i (map (moved_turn b) (turns_inside (x ∷ xs)))) is
      ∙ ap₂ (λ ks os. map begin_node ks ++ t.order ∷ os) kinds_here more
      ∙ ap (λ os. os ++ t.order ∷ orders_from (turns_inside (x ∷ xs)) 1 others) (begin_both ks (k ∷ inner))
      ∙ append_assoc (map begin_node ks) (begin_node k ∷ map begin_node inner) (t.order ∷ orders_from (turns_inside (x ∷ xs)) 1 others)

  rest_ordered : (i : ℕ) → i ≡ length before + suc (length xs) → orders_from all_turns i (last_turn ∷ map (later_turn (length before) (suc (length xs))) (turns_behind (length before) behind)) ≡ end_node ∷ orders_behind before behind
  rest_ordered i is =
      let s = turns_behind (length before) behind in
      let none : kinds_at i all_turns ≡ [] =
      kinds_inside i (suc (length xs)) (omega arith) (omega arith) (omega (arith, is)) ∙ none_at (suc (length xs)) 0 (suc (length xs)) (turns_inside (x ∷ xs)) inside_within (inr (omega arith)) in
      ap₂ (λ ks os. map begin_node ks ++ end_node ∷ os) none
      (orders_map all_turns (suc i) (later_turn (length before) (suc (length xs))) s (λ t. refl)
      ∙ orders_same all_turns s (suc i) (suc (length before)) s (λ p q low high e. kinds_behind p q (omega (arith, e, low, is)) (omega (arith, e, is))))

  -- the whole's orders
  pub filled_orders : orders_of whole ≡ orders_before before behind ++ ((orders_at before behind ++ begin_node k ∷ orders_inside (x ∷ xs)) ++ end_node ∷ orders_behind before behind)
  filled_orders =
      let b = turns_before before in
      let m = map (moved_turn (length before)) (turns_inside (x ∷ xs)) in
      let l = map (later_turn (length before) (suc (length xs))) (turns_behind (length before) behind) in
      let long : length b ≡ length before = turns_length (length before) 0 before in
      let wide : length m ≡ suc (length xs) = length-map (turns_inside (x ∷ xs)) (moved_turn (length before)) ∙ turns_length (suc (length xs)) 0 (x ∷ xs) in
      ap (λ ts. orders_from ts 0 ts) (turns_are (root_of whole) root_is)
      ∙ orders_both all_turns 0 b (m ++ last_turn ∷ l)
      ∙ ap₂ (λ os ps. os ++ ps)
      (orders_same all_turns (b ++ turns_behind (length before) behind) 0 0 b (λ p q low high e. ap (λ i. kinds_at i all_turns) (same p q e) ∙ kinds_before q (omega (arith, high, e, long))))
      (orders_both all_turns (0 + length b) m (last_turn ∷ l)
      ∙ ap₂ (λ os ps. os ++ ps) (piece_ordered (0 + length b) (omega (arith, long))) (rest_ordered (0 + length b + length m) (omega (arith, long, wide))))
    where
      same : (p q : ℕ) → p + 0 ≡ q + 0 → p ≡ q
      same p q e = omega (arith, e)

-- the orders of a piece by itself
pub alone_orders : (k : SyntaxKind) (xs : List Event) → orders_of (xs ++ Node k 0 ∷ []) ≡ orders_inside xs ++ nothing ∷ []
alone_orders k xs =
    let n = length xs in
    let none : Turn = record { node = None; order = nothing } in
    let s = turns_inside xs in
    let one : root_of (Node k 0 ∷ []) ≡ 0 = root_suc (Node k 0 ∷ []) 0 in
    let root : root_of (xs ++ Node k 0 ∷ []) ≡ n = root_behind xs (Node k 0 ∷ []) (omega (arith, one)) ∙ omega (arith, one) in
    let at : 0 + n ≡ n = omega arith in
    let turns_are : turns n 0 (xs ++ Node k 0 ∷ []) ≡ s ++ none ∷ [] =
    turns_both n 0 xs (Node k 0 ∷ []) ∙ ap (λ b. s ++ node_turn k (min 0 (0 + n)) b ∷ []) (equal (0 + n) n at) in
    let kinds : (i : ℕ) → kinds_at i (s ++ none ∷ []) ≡ kinds_at i s = λ i. kinds_both i s (none ∷ []) in
    let over : kinds_at (0 + length s) (s ++ none ∷ []) ≡ [] =
    kinds (0 + length s) ∙ none_at (0 + length s) 0 n s (turns_within n 0 n xs (omega arith)) (inr (omega (arith, turns_length n 0 xs))) in
    ap (λ r. orders_from (turns r 0 (xs ++ Node k 0 ∷ [])) 0 (turns r 0 (xs ++ Node k 0 ∷ []))) root
    ∙ ap (λ ts. orders_from ts 0 ts) turns_are
    ∙ orders_both (s ++ none ∷ []) 0 s (none ∷ [])
    ∙ ap₂ (λ os ks. os ++ (map begin_node ks ++ nothing ∷ []))
    (orders_same (s ++ none ∷ []) s 0 0 s (λ p q low high e. kinds p ∙ ap (λ i. kinds_at i s) (same p q e)))
    over
  where
    same : (p q : ℕ) → p + 0 ≡ q + 0 → p ≡ q
    same p q e = omega (arith, e)
