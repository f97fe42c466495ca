-- Rows as they are stored.
use Rattle.std.proofs.Common.{◌≡◌, ℕ, zero, suc, inl, inr, ◌+◌, ◌-◌, ◌/◌, ◌%◌, ◌^◌, ◌<◌, ◌≤◌, List, [], ◌∷◌, ◌++◌, length, get_or, take, drop, refl, sym, ap, ◌∙◌, arith, true, false, Bool, Some, None, Option, Ok, Err, Result}
use Rattle.std.specs.Prelude.{◌⊎◌, ◌==◌, OnOk, OnErr, IfSome, replicate, nat_lt, if◌then◌else◌, slice_index_or, All}
use Rattle.std.proofs.lemmas.Bool.Decides.{nat_tests}
use Rattle.std.proofs.lemmas.List.{get_or-map, get_or_past, get_or_default, length-map, map-set, map-append, take-map, drop-map, set-get_or, length-append, length-take, length-drop, length-replicate, take_all, append-nil}
use Rattle.std.proofs.lemmas.List.Elements.{All-set, All-head, All-tail}
use Rattle.std.proofs.Math.ListN.{set, length-set}
use Rattle.std.proofs.Math.Nat.{mod-eq_of_lt}
use Rattle.syntax_kind.specs.Kinds.{kind_raw, IsKind}
use Rattle.syntax_kind.specs.KindLaws.{token_raw_small, node_raw_small}
use Rattle.syntax_kind.specs.declared.syntax_kind.SyntaxKind.{SyntaxKind}
use Rattle.syntax_kind.specs.declared.syntax_kind.SyntaxKind.TheVariants.{Token, Node, OTHER}
use Rattle.syntax_kind.specs.declared.syntax_kind.all.TheConstants.{KINDS}
use Rattle.syntax_kind.proofs.KindTable.{reads_table}
use Rattle.tree_rows.specs.declared.rows.Row.{Row}
use Rattle.tree_rows.specs.declared.rows.High.{High}
use Rattle.tree_rows.specs.declared.table.flat.FlatRow.{FlatRow}
use Rattle.tree_rows.specs.Flat.{flat_kind}
use Rattle.tree_rows.specs.declared.shift.Shift.{Shift}
use Rattle.tree_rows.specs.Rows.{Columns, no_row, one_row, joined}
use Rattle.tree_rows.specs.MovedRows.{cut_of, moved_number, moved_row}
use Rattle.tree_rows.specs.Stored.{kind_numbered, kind_kept, token_kept, whole_end, whole_parent, Slot, slot, no_high, row_in, parent_in, slots, columns_in, rows_kept, high_of, high_between, with_row, IsNumbered, StandBeside, AreKept, flat_columns}
use Rattle.tree_model.proofs.At.{cong₂}
use Rattle.tree_rows.proofs.Hung.{same_columns}

-- ---- the numbers of kinds

below : {X : Type 0} (n m : ℕ) (a b : X) → n < m → (if nat_lt n m then a else b) ≡ a
below n m a b h = grind (arith, nat_tests)

from : {X : Type 0} (n m : ℕ) (a b : X) → m ≤ n → (if nat_lt n m then a else b) ≡ b
from n m a b h = grind (arith, nat_tests)

named : (k : SyntaxKind) → kind_raw k < 264 → kind_numbered (kind_raw k) ≡ k
unfolding kind_numbered
named k h =
    let listed : Some (slice_index_or KINDS (kind_raw k) (OTHER 0)) ≡ Some k = (reads_table (kind_raw k) (OTHER 0) k h).1 refl in
    let same : slice_index_or KINDS (kind_raw k) (OTHER 0) ≡ k = cc in
    below (kind_raw k) 264 (slice_index_or KINDS (kind_raw k) (OTHER 0)) (OTHER (kind_raw k % 65536)) h ∙ same

other : (n : ℕ) → n < 65536 → kind_numbered (65536 + n) ≡ OTHER n
unfolding kind_numbered
other n h =
    let rest : (65536 + n) % 65536 ≡ n = omega arith in
    from (65536 + n) 264 (slice_index_or KINDS (65536 + n) (OTHER 0)) (OTHER ((65536 + n) % 65536)) (omega arith) ∙ ap OTHER rest

pub kind_numbered-kind_raw : (k : SyntaxKind) → IsKind k → kind_numbered (kind_raw k) ≡ k
kind_numbered-kind_raw (Token t) h = named (Token t) (token_raw_small t)
kind_numbered-kind_raw (Node t) h = named (Node t) (node_raw_small t)
kind_numbered-kind_raw (OTHER n) h = other n h

pub kind_raw-small : (k : SyntaxKind) → IsKind k → kind_raw k < 131072
kind_raw-small (Token t) h = omega (arith, token_raw_small t)
kind_raw-small (Node t) h = omega (arith, node_raw_small t)
kind_raw-small (OTHER n) h = omega (arith, h)

pub kind_kept-flat_kind : (k : SyntaxKind) (t : Bool) → IsKind k → kind_kept (flat_kind k t) ≡ k
kind_kept-flat_kind k false h = ap kind_numbered (mod-eq_of_lt (omega (arith, kind_raw-small k h))) ∙ kind_numbered-kind_raw k h
kind_kept-flat_kind k true h =
    let rest : (kind_raw k + 2 ^ 31) % 2 ^ 31 ≡ kind_raw k = omega (arith, kind_raw-small k h) in
    ap kind_numbered rest ∙ kind_numbered-kind_raw k h

pub token_kept-flat_kind : (k : SyntaxKind) (t : Bool) → IsKind k → token_kept (flat_kind k t) ≡ t
token_kept-flat_kind k false h = let small = kind_raw-small k h in grind (arith, nat_tests)
token_kept-flat_kind k true h = grind (arith, nat_tests)

-- ---- numbers in two halves

pub whole_end-halves : (n : ℕ) → n < 2 ^ 63 → whole_end (n / 2 ^ 32) (n % 2 ^ 32) ≡ n
whole_end-halves n h = omega arith

pub whole_parent-halves : (n : ℕ) → whole_parent (n / 2 ^ 32) (n % 2 ^ 32) ≡ n
whole_parent-halves n = omega arith

pub high_of-none : (e p : ℕ) → e < 2 ^ 32 → p < 2 ^ 32 → high_of e p ≡ no_high
high_of-none e p h k =
    let a : e / 2 ^ 32 ≡ 0 = omega arith in
    let b : p / 2 ^ 32 ≡ 0 = omega arith in
    cong₂ (λ x y. record { end = x; parent = y }) a b

-- ---- rows beside their high halves

pub length-slots : (fs : List FlatRow) (hs : List High) → length (slots fs hs) ≡ length fs
length-slots [] hs = refl
length-slots (f ∷ fs) [] = ap suc (length-slots fs [])
length-slots (f ∷ fs) (h ∷ hs) = ap suc (length-slots fs hs)

pub get_or-slots : (fs : List FlatRow) (hs : List High) (n : ℕ) (f : FlatRow) (s : Slot) → n < length fs → get_or (slots fs hs) n s ≡ slot (get_or fs n f) (get_or hs n no_high)
get_or-slots [] hs n f s h = absurd (omega (arith, h))
get_or-slots (g ∷ fs) [] zero f s h = refl
get_or-slots (g ∷ fs) [] (suc n) f s h = get_or-slots fs [] n f s (omega (arith, h)) ∙ ap (slot (get_or fs n f)) (get_or_past [] n no_high (omega arith))
get_or-slots (g ∷ fs) (k ∷ hs) zero f s h = refl
get_or-slots (g ∷ fs) (k ∷ hs) (suc n) f s h = get_or-slots fs hs n f s (omega (arith, h))

pub slots-append : (fs gs : List FlatRow) (hs ks : List High) → length hs ≡ length fs → slots (fs ++ gs) (hs ++ ks) ≡ slots fs hs ++ slots gs ks
slots-append [] gs [] ks e = refl
slots-append [] gs (h ∷ hs) ks e = absurd (omega (arith, e))
slots-append (f ∷ fs) gs [] ks e = absurd (omega (arith, e))
slots-append (f ∷ fs) gs (h ∷ hs) ks e = ap (λ l. slot f h ∷ l) (slots-append fs gs hs ks (omega (arith, e)))

pub slots-append_low : (fs gs : List FlatRow) → slots (fs ++ gs) [] ≡ slots fs [] ++ slots gs []
slots-append_low [] gs = refl
slots-append_low (f ∷ fs) gs = ap (λ l. slot f no_high ∷ l) (slots-append_low fs gs)

pub slots-none : (fs : List FlatRow) (n : ℕ) → slots fs (replicate n no_high) ≡ slots fs []
slots-none [] n = refl
slots-none (f ∷ fs) zero = refl
slots-none (f ∷ fs) (suc n) = ap (λ l. slot f no_high ∷ l) (slots-none fs n)

take_none : (n : ℕ) → take {A = High} n [] ≡ []
take_none zero = refl
take_none (suc n) = refl

drop_none : (n : ℕ) → drop {A = High} n [] ≡ []
drop_none zero = refl
drop_none (suc n) = refl

slots-take : (n : ℕ) (fs : List FlatRow) (hs : List High) → slots (take n fs) (take n hs) ≡ take n (slots fs hs)
slots-take zero fs hs = refl
slots-take (suc n) [] hs = refl
slots-take (suc n) (f ∷ fs) [] = ap (λ l. slot f no_high ∷ l) (ap (slots (take n fs)) (sym (take_none n)) ∙ slots-take n fs [])
slots-take (suc n) (f ∷ fs) (h ∷ hs) = ap (λ l. slot f h ∷ l) (slots-take n fs hs)

slots-drop : (n : ℕ) (fs : List FlatRow) (hs : List High) → slots (drop n fs) (drop n hs) ≡ drop n (slots fs hs)
slots-drop zero fs hs = refl
slots-drop (suc n) [] hs = refl
slots-drop (suc n) (f ∷ fs) [] = ap (slots (drop n fs)) (sym (drop_none n)) ∙ slots-drop n fs []
slots-drop (suc n) (f ∷ fs) (h ∷ hs) = slots-drop n fs hs

pub slots-set : (fs : List FlatRow) (n : ℕ) (f : FlatRow) → slots (set fs n f) [] ≡ set (slots fs []) n (slot f no_high)
slots-set [] n f = refl
slots-set (g ∷ fs) zero f = refl
slots-set (g ∷ fs) (suc n) f = ap (λ l. slot g no_high ∷ l) (slots-set fs n f)

pub slots-set_both : (fs : List FlatRow) (hs : List High) (n : ℕ) (f : FlatRow) (h : High) → length hs ≡ length fs → slots (set fs n f) (set hs n h) ≡ set (slots fs hs) n (slot f h)
slots-set_both [] [] n f h e = refl
slots-set_both [] (k ∷ hs) n f h e = absurd (omega (arith, e))
slots-set_both (g ∷ fs) [] n f h e = absurd (omega (arith, e))
slots-set_both (g ∷ fs) (k ∷ hs) zero f h e = refl
slots-set_both (g ∷ fs) (k ∷ hs) (suc n) f h e = ap (λ l. slot g k ∷ l) (slots-set_both fs hs n f h (omega (arith, e)))

-- high halves for all rows
pub made_long : (fs : List FlatRow) (hs : List High) → StandBeside fs hs → length (take (length fs) hs ++ replicate (length fs - length hs) no_high) ≡ length fs
made_long fs hs s = omega (arith, length-append (take (length fs) hs) (replicate (length fs - length hs) no_high), length-take (length fs) hs, length-replicate (length fs - length hs) no_high)

pub slots-made_long : (fs : List FlatRow) (hs : List High) → StandBeside fs hs → slots fs (take (length fs) hs ++ replicate (length fs - length hs) no_high) ≡ slots fs hs
slots-made_long fs hs (inl none) =
    ap (λ l. slots fs (take (length fs) l ++ replicate (length fs - length l) no_high)) none
    ∙ ap (λ l. slots fs (l ++ replicate (length fs - 0) no_high)) (take_none (length fs)) ∙ slots-none fs (length fs - 0) ∙ ap (slots fs) (sym none)
slots-made_long fs hs (inr long) =
    let whole : take (length fs) hs ≡ hs = take_all (length fs) hs (omega (arith, long)) in
    let nothing : length fs - length hs ≡ 0 = omega (arith, long) in
    cong₂ (λ l n. slots fs (l ++ replicate n no_high)) whole nothing ∙ ap (slots fs) (append-nil hs)

-- ---- what is read

pub length-rows : (fs : List FlatRow) (hs : List High) → length (rows_kept fs hs).rows ≡ length fs
length-rows fs hs = length-map (slots fs hs) row_in ∙ length-slots fs hs

pub length-parents : (fs : List FlatRow) (hs : List High) → length (rows_kept fs hs).parents ≡ length fs
length-parents fs hs = length-map (slots fs hs) parent_in ∙ length-slots fs hs

none : FlatRow
none = record { kind = 0; start = 0; subtree_end = 0; parent = 0 }

pub row_read : (fs : List FlatRow) (hs : List High) (n : ℕ) (f : FlatRow) → n < length fs → get_or (rows_kept fs hs).rows n no_row ≡ row_in (slot (get_or fs n f) (get_or hs n no_high))
row_read fs hs n f h =
    get_or-map row_in (slots fs hs) n (slot f no_high) no_row (omega (arith, h, length-slots fs hs)) ∙ ap row_in (get_or-slots fs hs n f (slot f no_high) h)

pub parent_read : (fs : List FlatRow) (hs : List High) (n : ℕ) (f : FlatRow) → n < length fs → get_or (rows_kept fs hs).parents n 0 ≡ parent_in (slot (get_or fs n f) (get_or hs n no_high))
parent_read fs hs n f h =
    get_or-map parent_in (slots fs hs) n (slot f no_high) 0 (omega (arith, h, length-slots fs hs)) ∙ ap parent_in (get_or-slots fs hs n f (slot f no_high) h)

-- ---- what is stored

columns-append : (xs ys : List Slot) → columns_in (xs ++ ys) ≡ joined (columns_in xs) (columns_in ys)
columns-append xs ys = same_columns (columns_in (xs ++ ys)) (joined (columns_in xs) (columns_in ys)) (map-append row_in xs ys) (map-append parent_in xs ys)

pub rows_kept-append : (fs gs : List FlatRow) (hs ks : List High) → length hs ≡ length fs → rows_kept (fs ++ gs) (hs ++ ks) ≡ joined (rows_kept fs hs) (rows_kept gs ks)
rows_kept-append fs gs hs ks e = ap columns_in (slots-append fs gs hs ks e) ∙ columns-append (slots fs hs) (slots gs ks)

pub rows_kept-append_low : (fs gs : List FlatRow) → rows_kept (fs ++ gs) [] ≡ joined (rows_kept fs []) (rows_kept gs [])
rows_kept-append_low fs gs = ap columns_in (slots-append_low fs gs) ∙ columns-append (slots fs []) (slots gs [])

columns-set : (xs : List Slot) (n : ℕ) (s : Slot) → columns_in (set xs n s) ≡ with_row (columns_in xs) n s
columns-set xs n s = same_columns (columns_in (set xs n s)) (with_row (columns_in xs) n s) (map-set row_in xs n s) (map-set parent_in xs n s)

pub rows_kept-set : (fs : List FlatRow) (hs : List High) (n : ℕ) (f : FlatRow) (h : High) → length hs ≡ length fs → rows_kept (set fs n f) (set hs n h) ≡ with_row (rows_kept fs hs) n (slot f h)
rows_kept-set fs hs n f h e = ap columns_in (slots-set_both fs hs n f h e) ∙ columns-set (slots fs hs) n (slot f h)

pub rows_kept-set_low : (fs : List FlatRow) (n : ℕ) (f : FlatRow) → rows_kept (set fs n f) [] ≡ with_row (rows_kept fs []) n (slot f no_high)
rows_kept-set_low fs n f = ap columns_in (slots-set fs n f) ∙ columns-set (slots fs []) n (slot f no_high)

-- ---- rows that are copied

slots-between : (fs : List FlatRow) (hs : List High) (a b : ℕ) → slots (take (b - a) (drop a fs)) (high_between hs a b) ≡ take (b - a) (drop a (slots fs hs))
slots-between fs [] a b =
    slots-none (take (b - a) (drop a fs)) (b - a) ∙ ap (slots (take (b - a) (drop a fs))) (sym (ap (take (b - a)) (drop_none a) ∙ take_none (b - a)))
    ∙ slots-take (b - a) (drop a fs) (drop a []) ∙ ap (take (b - a)) (slots-drop a fs [])
slots-between fs (h ∷ hs) a b = slots-take (b - a) (drop a fs) (drop a (h ∷ hs)) ∙ ap (take (b - a)) (slots-drop a fs (h ∷ hs))

pub rows_kept-between : (fs : List FlatRow) (hs : List High) (a b : ℕ) → rows_kept (take (b - a) (drop a fs)) (high_between hs a b) ≡ cut_of a b (rows_kept fs hs)
rows_kept-between fs hs a b =
    ap columns_in (slots-between fs hs a b)
    ∙ same_columns (columns_in (take (b - a) (drop a (slots fs hs)))) (cut_of a b (rows_kept fs hs))
    (sym (take-map row_in (b - a) (drop a (slots fs hs))) ∙ ap (take (b - a)) (sym (drop-map row_in a (slots fs hs))))
    (sym (take-map parent_in (b - a) (drop a (slots fs hs))) ∙ ap (take (b - a)) (sym (drop-map parent_in a (slots fs hs))))

pub rows_kept-between_low : (fs : List FlatRow) (a b : ℕ) → rows_kept (take (b - a) (drop a fs)) [] ≡ cut_of a b (rows_kept fs [])
rows_kept-between_low fs a b = ap columns_in (sym (slots-none (take (b - a) (drop a fs)) (b - a))) ∙ rows_kept-between fs [] a b

pub length-high_between : (hs : List High) (a b : ℕ) → (hs ≡ []) ⊎ (b ≤ length hs) → a ≤ b → length (high_between hs a b) ≡ b - a
length-high_between [] a b w h = length-replicate (b - a) no_high
length-high_between (k ∷ hs) a b (inl bad) h = (let e : k ∷ hs ≡ [] = bad in cc)
length-high_between (k ∷ hs) a b (inr fits) h = omega (arith, length-take (b - a) (drop a (k ∷ hs)), length-drop a (k ∷ hs), fits, h)

-- ---- kinds that are read

length-KINDS : length KINDS ≡ 264
length-KINDS = refl

pub table_kind : (n : ℕ) (d : SyntaxKind) → n < 264 → slice_index_or KINDS n d ≡ kind_numbered n
unfolding kind_numbered
table_kind n d h =
    get_or_default KINDS n d (OTHER 0) (omega (arith, h, length-KINDS)) ∙ sym (below n 264 (slice_index_or KINDS n (OTHER 0)) (OTHER (n % 65536)) h)

pub other_kind : (n : ℕ) → 264 ≤ n → OTHER (n % 65536) ≡ kind_numbered n
unfolding kind_numbered
other_kind n h = sym (from n 264 (slice_index_or KINDS n (OTHER 0)) (OTHER (n % 65536)) h)

-- ---- what the calls on rows do

pub on_ok : {X E P : Type 0} (r : Result X E) → P → OnOk r P
on_ok (Ok x) p = p
on_ok (Err e) p = tt

pub on_err : {X E P : Type 0} (r : Result X E) → P → OnErr r P
on_err (Ok x) p = tt
on_err (Err e) p = p

pub ok_then : {X E P Q : Type 0} (r : Result X E) → (P → Q) → OnOk r P → OnOk r Q
ok_then (Ok x) f p = f p
ok_then (Err e) f p = tt

-- high halves for all rows, made of those that there were
pub record Widened (fs : List FlatRow) (hs new : List High) : Type 0 where
  pub long : length new ≡ length fs
  pub same : rows_kept fs new ≡ rows_kept fs hs

pub widened : (fs : List FlatRow) (hs new : List High) (m n : ℕ) → new ≡ take m hs ++ replicate n no_high → m ≡ length fs → n ≡ length fs - length hs → StandBeside fs hs → Widened fs hs new
widened fs hs new m n is is_m is_n s =
    let e : new ≡ take (length fs) hs ++ replicate (length fs - length hs) no_high = is ∙ cong₂ (λ x y. take x hs ++ replicate y no_high) is_m is_n in
    record { long = ap length e ∙ made_long fs hs s; same = ap columns_in (ap (slots fs) e ∙ slots-made_long fs hs s) }

pub none_there : (hs : List High) (n : ℕ) → n ≡ length hs → true ≡ (n == 0) → hs ≡ []
none_there [] n e t = refl
none_there (h ∷ hs) n e t = let z : n ≡ 0 = grind (arith, nat_tests) in absurd (omega (arith, e, z))

pub same_high : (h : High) → h.end ≡ 0 → h.parent ≡ 0 → h ≡ no_high
same_high h e p = cong₂ (λ x y. record { end = x; parent = y }) e p

pub one_kept : (f : FlatRow) (h : High) (r : Row) (p : ℕ) → row_in (slot f h) ≡ r → parent_in (slot f h) ≡ p → rows_kept (f ∷ []) (h ∷ []) ≡ one_row r p
one_kept f h r p e q = cong₂ one_row e q

pub set_kept : (fs : List FlatRow) (hs new : List High) (n : ℕ) (f : FlatRow) (h : High) → AreKept fs hs → length new ≡ length fs → IsNumbered f → AreKept (set fs n f) (set new n h)
set_kept fs hs new n f h kept long numbered =
    record { numbered = All-set IsNumbered fs n f numbered kept.numbered; beside = inr (omega (arith, length-set new n h, length-set fs n f, long)) }

-- the stored row n with another end
pub end_put : (now : Columns) (fs : List FlatRow) (hs : List High) (n e hi lo hp : ℕ) (f : FlatRow) → rows_kept fs hs ≡ now → n < length fs → f ≡ get_or fs n f
    → hp ≡ (get_or hs n no_high).parent → hi ≡ e / 2 ^ 32 → lo ≡ e % 2 ^ 32 → e < 2 ^ 63
    → with_row now n (slot (record { kind = f.kind; start = f.start; subtree_end = lo; parent = f.parent }) (record { end = hi; parent = hp }))
    ≡ record { rows = set now.rows n (record (get_or now.rows n no_row) { end = e }); parents = now.parents }
end_put now fs hs n e hi lo hp f is h is_f is_hp is_hi is_lo small =
    let high = get_or hs n no_high in
    let read : get_or now.rows n no_row ≡ row_in (slot f high) =
    ap (λ k. get_or k.rows n no_row) (sym is) ∙ row_read fs hs n f h ∙ ap (λ x. row_in (slot x high)) (sym is_f) in
    let up : get_or now.parents n 0 ≡ whole_parent hp f.parent =
    ap (λ k. get_or k.parents n 0) (sym is) ∙ parent_read fs hs n f h ∙ cong₂ (λ x y. whole_parent y x.parent) (sym is_f) (sym is_hp) in
    let ends : whole_end hi lo ≡ e = cong₂ whole_end is_hi is_lo ∙ whole_end-halves e small in
    same_columns (with_row now n (slot (record { kind = f.kind; start = f.start; subtree_end = lo; parent = f.parent }) (record { end = hi; parent = hp })))
    (record { rows = set now.rows n (record (get_or now.rows n no_row) { end = e }); parents = now.parents })
    (cong₂ (λ x r. set now.rows n (record { kind = r.kind; is_token = r.is_token; start = r.start; end = x })) ends (sym read))
    (ap (set now.parents n) (sym up) ∙ set-get_or now.parents n 0)

-- the stored row n, moved
pub moved_put : (by : Shift) (now : Columns) (fs : List FlatRow) (hs : List High) (n s hi lo hp lp e p : ℕ) (f : FlatRow) → rows_kept fs hs ≡ now → n < length fs → f ≡ get_or fs n f
    → s ≡ (f.start - by.from_byte) + by.to_byte → e ≡ moved_number by (get_or now.rows n no_row).end → p ≡ moved_number by (get_or now.parents n 0)
    → hi ≡ e / 2 ^ 32 → lo ≡ e % 2 ^ 32 → hp ≡ p / 2 ^ 32 → lp ≡ p % 2 ^ 32 → e < 2 ^ 63
    → with_row now n (slot (record { kind = f.kind; start = s; subtree_end = lo; parent = lp }) (record { end = hi; parent = hp }))
    ≡ record { rows = set now.rows n (moved_row by (get_or now.rows n no_row)); parents = set now.parents n (moved_number by (get_or now.parents n 0)) }
moved_put by now fs hs n s hi lo hp lp e p f is h is_f is_s is_e is_p is_hi is_lo is_hp is_lp small =
    let high = get_or hs n no_high in
    let old = get_or now.rows n no_row in
    let read : old ≡ row_in (slot f high) =
    ap (λ k. get_or k.rows n no_row) (sym is) ∙ row_read fs hs n f h ∙ ap (λ x. row_in (slot x high)) (sym is_f) in
    let ends : whole_end hi lo ≡ moved_number by old.end = cong₂ whole_end is_hi is_lo ∙ whole_end-halves e small ∙ is_e in
    let ups : whole_parent hp lp ≡ moved_number by (get_or now.parents n 0) = cong₂ whole_parent is_hp is_lp ∙ whole_parent-halves p ∙ is_p in
    let starts : s ≡ (old.start - by.from_byte) + by.to_byte = is_s ∙ ap (λ r. (r.start - by.from_byte) + by.to_byte) (sym read) in
    same_columns (with_row now n (slot (record { kind = f.kind; start = s; subtree_end = lo; parent = lp }) (record { end = hi; parent = hp })))
    (record { rows = set now.rows n (moved_row by old); parents = set now.parents n (moved_number by (get_or now.parents n 0)) })
    (ap (set now.rows n) (cong₂ (λ x y. record { kind = kind_kept f.kind; is_token = token_kept f.kind; start = x; end = y }) starts ends
    ∙ ap (λ r. record { kind = r.kind; is_token = r.is_token; start = (old.start - by.from_byte) + by.to_byte; end = moved_number by old.end }) (sym read)))
    (ap (set now.parents n) ups)

pub high_range : (fs : List FlatRow) (hs l : List High) (e : ℕ) → l ≡ hs → StandBeside fs hs → e ≤ length fs → (l ≡ []) ⊎ (e ≤ length l)
high_range fs hs l e is (inl none) h = inl (is ∙ none)
high_range fs hs l e is (inr long) h = inr (omega (arith, ap length is, long, h))

pub one_low : (f : FlatRow) (h : High) (r : Row) (p : ℕ) → h ≡ no_high → row_in (slot f h) ≡ r → parent_in (slot f h) ≡ p → rows_kept (f ∷ []) [] ≡ one_row r p
one_low f h r p none e q = cong₂ one_row (ap (λ x. row_in (slot f x)) (sym none) ∙ e) (ap (λ x. parent_in (slot f x)) (sym none) ∙ q)

flat_kept-one : (f : FlatRow) → IsNumbered f
    → f ≡ record { kind = flat_kind (kind_kept f.kind) (token_kept f.kind); start = f.start; subtree_end = whole_end 0 f.subtree_end; parent = whole_parent 0 f.parent }
flat_kept-one f is_kind =
    let e : f.subtree_end ≡ whole_end 0 f.subtree_end = omega arith in
    let p : f.parent ≡ whole_parent 0 f.parent = omega arith in
    ap (λ k. record { kind = k; start = f.start; subtree_end = f.subtree_end; parent = f.parent }) is_kind
    ∙ cong₂ (λ x y. record { kind = flat_kind (kind_kept f.kind) (token_kept f.kind); start = f.start; subtree_end = x; parent = y }) e p

-- rows without high halves are stored as they cross to other languages
pub flat_kept : (fs : List FlatRow) → All IsNumbered fs → fs ≡ flat_columns (rows_kept fs [])
flat_kept [] h = refl
flat_kept (f ∷ fs) h = cong₂ ◌∷◌ (flat_kept-one f (All-head IsNumbered f fs h)) (flat_kept fs (All-tail IsNumbered f fs h))

pub some_then : {X : Type 0} {P Q : X → Type 0} (r : Option X) → ((x : X) → P x → Q x) → IfSome r P → IfSome r Q
some_then (Some x) f p = f x p
some_then None f p = tt
