-- Where one more replacement goes.
use Rattle.std.proofs.Common.{◌≡◌, ℕ, zero, suc, ◌+◌, ◌-◌, ◌<◌, ◌≤◌, List, [], ◌∷◌, ◌++◌, length, get_or, refl, sym, ap, ◌∙◌, subst, arith, append_assoc, append-nil, length-append}
use Rattle.text_edit.specs.declared.error.OverlapError.{OverlapError}
use Rattle.text_edit.specs.declared.error.OverlapError.TheVariants.{Overlap, Memory}
use Rattle.std.specs.Prelude.{◌↔◌, Result, Ok, Err, OnOk, IfErr, IsErrOf, All, Bool, true, false, Option, Some, None, option_to_list, IsSome, IsTrue}
use Rattle.std.specs.List.{Any, insert}
use Rattle.std.proofs.lemmas.Bool.Decides.{nat_tests}
use Rattle.std.proofs.lemmas.Bool.{cases_lt}
use Rattle.std.proofs.Common.{inl, inr}
use Rattle.text_edit.proofs.Pass.{rest_all}
use Rattle.text_edit.specs.Merge.{GoesFirst, IsPopped}
use Rattle.text_edit.specs.Replacements.{Overlap as overlap, with_all, Replacement, InOrder, Overlaps, with_one, begin_at, end_at}

-- ---- one more piece

clear : (d e : Replacement) → (Overlaps d e → ⊥) → e.delete.start < d.delete.end → e.delete.end ≤ d.delete.start
clear d e none h = elim (cases_lt d.delete.start e.delete.end) [ inl lt ↦ absurd (none (lt, h)) | inr le ↦ le ]

-- a range starts before it ends
pub begins_before : (n : ℕ) (items : List Replacement) (d : Replacement) (i : ℕ) → InOrder n items → i < length items → begin_at items i d ≤ end_at items i d
begins_before n [] d i o lt = absurd (omega (arith, lt))
begins_before n (e ∷ es) d zero o lt = o.1
begins_before n (e ∷ es) d (suc i) o lt = begins_before e.delete.end es d i o.2 (omega (arith, lt))

-- ends rise, and so do starts
pub ends_rise : (n : ℕ) (items : List Replacement) (d : Replacement) (k i : ℕ) → InOrder n items → k ≤ i → i < length items → (n ≤ begin_at items k d) × (end_at items k d ≤ end_at items i d) × (begin_at items k d ≤ begin_at items i d)
ends_rise n [] d k i o h lt = absurd (omega (arith, lt))
ends_rise n (e ∷ es) d zero zero o h lt = (o.0, omega arith, omega arith)
ends_rise n (e ∷ es) d (suc k) zero o h lt = absurd (omega (arith, h))
ends_rise n (e ∷ es) d zero (suc i) o h lt =
    let w = ends_rise e.delete.end es d i i o.2 (omega arith) (omega (arith, lt)) in
    let f = begins_before e.delete.end es d i o.2 (omega (arith, lt)) in
    (o.0, omega (arith, w.0, f), omega (arith, w.0, o.1))
ends_rise n (e ∷ es) d (suc k) (suc i) o h lt =
    let w = ends_rise e.delete.end es d k i o.2 (omega (arith, h)) (omega (arith, lt)) in
    (omega (arith, o.0, o.1, w.0), w.1, w.2)

with_below : (d e : Replacement) (es : List Replacement) → d.delete.end ≤ e.delete.start → with_one (d ∷ es) e ≡ d ∷ with_one es e
with_below d e es h = grind (arith, nat_tests)

with_above : (d e : Replacement) (es : List Replacement) → e.delete.start < d.delete.end → with_one (d ∷ es) e ≡ e ∷ (d ∷ es)
with_above d e es h = grind (arith, nat_tests)

-- the place is behind each range that ends where the piece starts or before, and before all others
pub record IsPlaceFor (items : List Replacement) (e : Replacement) (i : ℕ) : Type 0 where
  pub within : i ≤ length items
  pub ended : (k : ℕ) → k < i → end_at items k e ≤ e.delete.start
  pub open_behind : i < length items → e.delete.start < end_at items i e

pub inserted_is : (items : List Replacement) (e : Replacement) (i : ℕ) → IsPlaceFor items e i → insert items i e ≡ with_one items e
inserted_is [] e zero p = refl
inserted_is [] e (suc i) p = absurd (omega (arith, p.within))
inserted_is (d ∷ es) e zero p = sym (with_above d e es (p.open_behind (omega arith)))
inserted_is (d ∷ es) e (suc i) p =
    ap (λ l. d ∷ l) (inserted_is es e i (record { within = omega (arith, p.within); ended = λ k h. p.ended (suc k) (omega (arith, h)); open_behind = λ h. p.open_behind (omega (arith, h)) }))
    ∙ sym (with_below d e es (p.ended 0 (omega arith)))

-- the place is right where the range before it ends in time
pub place_found : (items : List Replacement) (e : Replacement) (i : ℕ) → InOrder 0 items → i ≤ length items → (0 < i → end_at items (i - 1) e ≤ e.delete.start) → (i < length items → e.delete.start < end_at items i e) → IsPlaceFor items e i
place_found items e i o within last h = record {
  within = within;
  ended = λ k lt. let w = ends_rise 0 items e k (i - 1) o (omega (arith, lt)) (omega (arith, lt, within)) in omega (arith, w.1, last (omega (arith, lt)));
  open_behind = h;
}

abbrev pub NoneOverlaps : Replacement → List Replacement → Type 0
NoneOverlaps e items = All (λ d. Overlaps d e → ⊥) items

default_same : (items : List Replacement) (k : ℕ) (c d : Replacement) → k < length items → get_or items k c ≡ get_or items k d
default_same [] k c d lt = absurd (omega (arith, lt))
default_same (x ∷ xs) zero c d lt = refl
default_same (x ∷ xs) (suc k) c d lt = default_same xs k c d (omega (arith, lt))

pub none_overlaps : (items : List Replacement) (e : Replacement) (i : ℕ) → InOrder 0 items → IsPlaceFor items e i → (i < length items → e.delete.end ≤ begin_at items i e) → NoneOverlaps e items
none_overlaps items e i o p free k d lt =
    subst (λ x. Overlaps x e → ⊥) (default_same items k e d lt)
    (λ both. elim (cases_lt k i) [
      | inl early ↦ absurd (omega (arith, p.ended k early, both.1))
      | inr late ↦ let w = ends_rise 0 items e i k o late lt in absurd (omega (arith, w.2, both.0, free (omega (arith, late, lt))))
    ])

pub in_order_with : (n : ℕ) (items : List Replacement) (e : Replacement) → InOrder n items → n ≤ e.delete.start → e.delete.start ≤ e.delete.end → NoneOverlaps e items → InOrder n (with_one items e)
in_order_with n [] e o h f a = (h, f, tt)
in_order_with n (d ∷ es) e o h f a = elim (cases_lt e.delete.start d.delete.end) [
  | inl above ↦ subst (λ l. InOrder n l) (sym (with_above d e es above)) (h, f, (clear d e (a 0 d (omega arith)) above, o.1, o.2))
  | inr below ↦ subst (λ l. InOrder n l) (sym (with_below d e es below)) (o.0, o.1, in_order_with d.delete.end es e o.2 below f (rest_all (λ x. Overlaps x e → ⊥) d es a))
]

pub any_not_all : (items : List Replacement) (e : Replacement) → NoneOverlaps e items → Any (λ d. Overlaps d e) items → ⊥
any_not_all items e a (k, x, lt, is, both) = a k x lt (subst (λ y. Overlaps y e) (sym is) both)

pub overlap_found : (items : List Replacement) (e : Replacement) (i : ℕ) → i < length items → begin_at items i e < e.delete.end → e.delete.start < end_at items i e → Any (λ d. Overlaps d e) items
overlap_found items e i lt s h = (i, get_or items i e, lt, default_same items i (get_or items i e) e lt, (s, h))

-- ---- results

pub ok_along : {E : Type 0} (r : Result (Unit {0}) E) (P Q : Type 0) → (P → Q) → OnOk r P → OnOk r Q
ok_along (Ok x) P Q f h = f h
ok_along (Err e) P Q f h = h

pub no_overlap_error : (r : Result (Unit {0}) OverlapError) (e : Replacement) (items new old : List Replacement) → IfErr r (λ x. (new ≡ old) × (x ≡ Memory)) → NoneOverlaps e items → IsErrOf r Overlap ↔ Any (λ d. Overlaps d e) items
no_overlap_error (Ok x) e items new old h a = (λ is. (let no : Ok x ≡ Err Overlap = is in cc), λ any. absurd (any_not_all items e a any))
no_overlap_error (Err x) e items new old h a = (λ is. (let f : Err x ≡ Err Overlap = is in let k : x ≡ Memory = h.1 in cc), λ any. absurd (any_not_all items e a any))

pub kept_in_order : (r : Result (Unit {0}) OverlapError) (old new : List Replacement) (e : Replacement) → OnOk r (new ≡ with_one old e) → IfErr r (λ x. (new ≡ old) × (x ≡ Memory)) → InOrder 0 old → e.delete.start ≤ e.delete.end → NoneOverlaps e old → InOrder 0 new
kept_in_order (Ok x) old new e ok err o f a = subst (λ l. InOrder 0 l) (sym ok) (in_order_with 0 old e o (omega arith) f a)
kept_in_order (Err x) old new e ok err o f a = subst (λ l. InOrder 0 l) (sym err.0) o

-- ---- two lists

-- each pair of the lists in which the one or the other has a lower number does not overlap
pub record Clear (ds es : List Replacement) (i j : ℕ) : Type 0 where
  pub ds_clear : (k l : ℕ) (d : Replacement) → k < i → k < length ds → l < length es → Overlaps (get_or ds k d) (get_or es l d) → ⊥
  pub es_clear : (k l : ℕ) (d : Replacement) → l < j → k < length ds → l < length es → Overlaps (get_or ds k d) (get_or es l d) → ⊥

pub none_clear : (ds es : List Replacement) → Clear ds es 0 0
none_clear ds es = record { ds_clear = λ k l d h. absurd (omega (arith, h)); es_clear = λ k l d h. absurd (omega (arith, h)) }

pub clear_ds : (ds es : List Replacement) (i j : ℕ) → InOrder 0 es → i < length ds → j < length es → ((d : Replacement) → end_at ds i d ≤ begin_at es j d) → Clear ds es i j → Clear ds es (i + 1) j
clear_ds ds es i j oe li lj le c = record {
  ds_clear = λ k l d h lk ll both. elim (cases_lt k i) [
    | inl early ↦ c.ds_clear k l d early lk ll both
    | inr late ↦
        let same : k ≡ i = omega (arith, h, late) in
        elim (cases_lt l j) [
          | inl before ↦ c.es_clear k l d before lk ll both
          | inr after ↦
              let w = ends_rise 0 es d j l oe after ll in
              absurd (omega (arith, both.1, w.2, le d, ap (λ n. end_at ds n d) same))
        ]
  ];
  es_clear = c.es_clear;
}

pub clear_es : (ds es : List Replacement) (i j : ℕ) → InOrder 0 ds → i < length ds → j < length es → ((d : Replacement) → end_at es j d ≤ begin_at ds i d) → Clear ds es i j → Clear ds es i (j + 1)
clear_es ds es i j od li lj le c = record {
  ds_clear = c.ds_clear;
  es_clear = λ k l d h lk ll both. elim (cases_lt l j) [
    | inl early ↦ c.es_clear k l d early lk ll both
    | inr late ↦
        let same : l ≡ j = omega (arith, h, late) in
        elim (cases_lt k i) [
          | inl before ↦ c.ds_clear k l d before lk ll both
          | inr after ↦
              let w = ends_rise 0 ds d i k od after lk in
              absurd (omega (arith, both.0, w.2, le d, ap (λ n. end_at es n d) same))
        ]
  ];
}

pub clear_all : (ds es : List Replacement) (i j : ℕ) → ((i < length ds) × (j < length es) → ⊥) → Clear ds es i j → overlap ds es → ⊥
clear_all ds es i j done c (k, x, lk, is, (l, y, ll, is', both)) =
    let one : get_or ds k y ≡ x = default_same ds k y x lk ∙ is in
    let pair : Overlaps (get_or ds k y) (get_or es l y) = subst (λ z. Overlaps z (get_or es l y)) (sym one) (subst (λ z. Overlaps x z) (sym is') both) in
    elim (cases_lt i (length ds)) [
      | inl more ↦ elim (cases_lt j (length es)) [
        | inl more' ↦ done (more, more')
        | inr all ↦ c.es_clear k l y (omega (arith, all, ll)) lk ll pair
      ]
      | inr all ↦ c.ds_clear k l y (omega (arith, all, lk)) lk ll pair
    ]

blank : Replacement
blank = record { insert = []; delete = record { start = 0; end = 0 } }

pub overlap_here : (ds es : List Replacement) (i j : ℕ) → i < length ds → j < length es → ((d : Replacement) → end_at ds i d ≤ begin_at es j d → ⊥) → ((d : Replacement) → end_at es j d ≤ begin_at ds i d → ⊥) → overlap ds es
overlap_here ds es i j li lj a b =
    let x : Replacement = get_or ds i blank in
    let y : Replacement = get_or es j blank in
    let one : begin_at es j blank < end_at ds i blank = elim (cases_lt (begin_at es j blank) (end_at ds i blank)) [ inl lt ↦ lt | inr le ↦ absurd (a blank le) ] in
    let two : begin_at ds i blank < end_at es j blank = elim (cases_lt (begin_at ds i blank) (end_at es j blank)) [ inl lt ↦ lt | inr le ↦ absurd (b blank le) ] in
    (i, x, li, default_same ds i x blank li, (j, y, lj, default_same es j y blank lj, (two, one)))

-- a test that fails
pub fails : (b : Bool) (P : Type 0) → IsTrue b ↔ P → b ≡ false → P → ⊥
fails b P h f p = (let t : b ≡ true = h.1 p in cc)

-- ---- two edits as one

-- all start where the first one ends, or after
StartAfter : Replacement → List Replacement → Type 0
StartAfter d es = All (λ x. d.delete.end ≤ x.delete.start) es

with_first : (d : Replacement) (ds es : List Replacement) → StartAfter d es → with_all (d ∷ ds) es ≡ d ∷ with_all ds es
unfolding StartAfter
with_first d ds [] a = refl
with_first d ds (e ∷ es) a =
    ap (λ l. with_all l es) (with_below d e ds (a 0 e (omega arith))) ∙ with_first d (with_one ds e) es (rest_all (λ x. d.delete.end ≤ x.delete.start) e es a)

start_after : (n : ℕ) (d : Replacement) (es : List Replacement) → InOrder n es → d.delete.end ≤ n → StartAfter d es
unfolding StartAfter
start_after n d [] o h k x lt = absurd (omega (arith, lt))
start_after n d (e ∷ es) o h zero x lt = omega (arith, o.0, h)
start_after n d (e ∷ es) o h (suc k) x lt = start_after e.delete.end d es o.2 (omega (arith, o.0, o.1, h)) k x (omega (arith, lt))

pub from_start : (n : ℕ) (es : List Replacement) → InOrder n es → InOrder 0 es
from_start n [] o = tt
from_start n (e ∷ es) o = (omega arith, o.1, o.2)

no_some : IsSome {T = Replacement} None → ⊥
no_some h = (let no : false ≡ true = h in cc)

pub mine_popped : (ds es ds' : List Replacement) (r : Option Replacement) → InOrder 0 es → GoesFirst ds es → ds ≡ option_to_list r ++ ds' → (IsSome r ↔ (0 < length ds)) → IsPopped ds es r ds' es
mine_popped [] es ds' r o g h some = absurd g
mine_popped (d ∷ ds) es ds' None o g h some = absurd (no_some (some.1 (omega arith)))
mine_popped (d ∷ ds) [] ds' (Some x) o g h some =
    let t : (d ∷ ds) ≡ (x ∷ ds') = h in
    t
mine_popped (d ∷ ds) (e ∷ es) ds' (Some x) o g h some =
    let t : (d ∷ ds) ≡ (x ∷ ds') = h in
    let head : d ≡ x = cc in
    let tail : ds ≡ ds' = cc in
    with_first d ds (e ∷ es) (start_after d.delete.end d (e ∷ es) (g, o.1, o.2) (omega arith))
    ∙ ap (λ y. y ∷ with_all ds (e ∷ es)) head ∙ ap (λ l. x ∷ with_all l (e ∷ es)) tail

pub theirs_popped : (ds es es' : List Replacement) (r : Option Replacement) → InOrder 0 es → (GoesFirst ds es → ⊥) → es ≡ option_to_list r ++ es' → (IsSome r ↔ (0 < length es)) → IsPopped ds es r ds es'
theirs_popped [] [] es' None o g h some = refl
theirs_popped [] [] es' (Some x) o g h some = (let no : [] ≡ (x ∷ es') = h in cc)
theirs_popped (d ∷ ds) [] es' r o g h some = absurd (g tt)
theirs_popped [] (e ∷ es) es' None o g h some = absurd (no_some (some.1 (omega arith)))
theirs_popped (d ∷ ds) (e ∷ es) es' None o g h some = absurd (no_some (some.1 (omega arith)))
theirs_popped [] (e ∷ es) es' (Some x) o g h some =
    let t : (e ∷ es) ≡ (x ∷ es') = h in
    let head : e ≡ x = cc in
    let tail : es ≡ es' = cc in
    with_first e [] es (start_after e.delete.end e es o.2 (omega arith))
    ∙ ap (λ y. y ∷ with_all [] es) head ∙ ap (λ l. x ∷ with_all [] l) tail
theirs_popped (d ∷ ds) (e ∷ es) es' (Some x) o g h some =
    let t : (e ∷ es) ≡ (x ∷ es') = h in
    let head : e ≡ x = cc in
    let tail : es ≡ es' = cc in
    let above : e.delete.start < d.delete.end = elim (cases_lt e.delete.start d.delete.end) [ inl lt ↦ lt | inr le ↦ absurd (g le) ] in
    ap (λ l. with_all l es) (with_above d e ds above)
    ∙ with_first e (d ∷ ds) es (start_after e.delete.end e es o.2 (omega arith))
    ∙ ap (λ y. y ∷ with_all (d ∷ ds) es) head ∙ ap (λ l. x ∷ with_all (d ∷ ds) l) tail

pub rest_in_order : (es es' : List Replacement) (r : Option Replacement) → InOrder 0 es → es ≡ option_to_list r ++ es' → InOrder 0 es'
rest_in_order es es' None o h = subst (λ l. InOrder 0 l) h o
rest_in_order es es' (Some x) o h = from_start x.delete.end es' (parts x es' (subst (λ l. InOrder 0 l) h o))
  where
    parts : (x : Replacement) (xs : List Replacement) → InOrder 0 (x ∷ xs) → InOrder x.delete.end xs
    parts x xs o = o.2

with_one-length : (ds : List Replacement) (e : Replacement) → length (with_one ds e) ≡ suc (length ds)
with_one-length [] e = refl
with_one-length (d ∷ ds) e = elim (cases_lt e.delete.start d.delete.end) [
  | inl above ↦ ap length (with_above d e ds above)
  | inr below ↦ ap length (with_below d e ds below) ∙ ap suc (with_one-length ds e)
]

pub with_all-length : (ds es : List Replacement) → length (with_all ds es) ≡ length ds + length es
with_all-length ds [] = omega arith
with_all-length ds (e ∷ es) = omega (arith, with_all-length (with_one ds e) es, with_one-length ds e)

-- ---- no overlap, so in order

cons_all : (P : Replacement → Type 0) (x : Replacement) (xs : List Replacement) → P x → All P xs → All P (x ∷ xs)
cons_all P x xs h a zero d lt = h
cons_all P x xs h a (suc k) d lt = a k d (omega (arith, lt))

all_with_one : (P : Replacement → Type 0) (ds : List Replacement) (e : Replacement) → All P ds → P e → All P (with_one ds e)
all_with_one P [] e a h = cons_all P e [] h (λ k d lt. absurd (omega (arith, lt)))
all_with_one P (d ∷ ds) e a h = elim (cases_lt e.delete.start d.delete.end) [
  | inl above ↦ subst (λ l. All P l) (sym (with_above d e ds above)) (cons_all P e (d ∷ ds) h a)
  | inr below ↦ subst (λ l. All P l) (sym (with_below d e ds below)) (cons_all P d (with_one ds e) (a 0 d (omega arith)) (all_with_one P ds e (rest_all P d ds a) h))
]

ApartFrom : List Replacement → Replacement → Type 0
ApartFrom es x = All (λ y. Overlaps x y → ⊥) es

Apart : List Replacement → List Replacement → Type 0
Apart ds es = All (ApartFrom es) ds

apart : (ds es : List Replacement) → (overlap ds es → ⊥) → Apart ds es
unfolding Apart ApartFrom
apart ds es none k d lk l y ll both = none (k, get_or ds k d, lk, default_same ds k (get_or ds k d) d lk, (l, get_or es l y, ll, default_same es l (get_or es l y) y ll, both))

all_in_order : (ds es : List Replacement) → InOrder 0 ds → InOrder 0 es → Apart ds es → InOrder 0 (with_all ds es)
unfolding Apart ApartFrom StartAfter
all_in_order ds [] od oe a = od
all_in_order ds (e ∷ es) od oe a =
    let later : All (λ x. e.delete.end ≤ x.delete.start) es = start_after e.delete.end e es oe.2 (omega arith) in
    all_in_order (with_one ds e) es
    (in_order_with 0 ds e od (omega arith) oe.1 (λ k d lk. a k d lk 0 e (omega arith)))
    (from_start e.delete.end es oe.2)
    (all_with_one (λ x. All (λ y. Overlaps x y → ⊥) es) ds e (λ k d lk. rest_all (λ y. Overlaps (get_or ds k d) y → ⊥) e es (a k d lk)) (λ l y ll both. omega (arith, both.1, later l y ll)))

pub union_in_order : (ds es : List Replacement) → InOrder 0 ds → InOrder 0 es → (overlap ds es → ⊥) → InOrder 0 (with_all ds es)
union_in_order ds es od oe none = all_in_order ds es od oe (apart ds es none)

-- ---- the loop that takes out the first ones

pub popped_order : (whole out ds es ds' es' : List Replacement) (x : Replacement) → out ++ with_all ds es ≡ whole → IsPopped ds es (Some x) ds' es' → (out ++ x ∷ []) ++ with_all ds' es' ≡ whole
popped_order whole out ds es ds' es' x h p = append_assoc out (x ∷ []) (with_all ds' es') ∙ ap (λ l. out ++ l) (sym p) ∙ h

pub popped_none : (whole out ds es ds' es' : List Replacement) → out ++ with_all ds es ≡ whole → IsPopped ds es None ds' es' → out ≡ whole
popped_none whole out ds es ds' es' h p = sym (append-nil out) ∙ ap (λ l. out ++ l) (sym p) ∙ h

pub popped_room : (whole out ds es ds' es' : List Replacement) (x : Replacement) → out ++ with_all ds es ≡ whole → IsPopped ds es (Some x) ds' es' → length out < length whole
popped_room whole out ds es ds' es' x h p = omega (arith, ap length h, length-append out (with_all ds es), ap length p)

pub popped_less : (ds es ds' es' : List Replacement) (x : Replacement) → IsPopped ds es (Some x) ds' es' → length (with_all ds' es') < length (with_all ds es)
popped_less ds es ds' es' x p = omega (arith, ap length p)
