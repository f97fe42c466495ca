-- Pairs that were tried, and further ones after them.
use Rattle.std.proofs.Common.{◌≡◌, ◌≤◌, ◌<◌, ◌+◌, ◌-◌, ℕ, Bool, true, false, not, cond, List, [], ◌∷◌, ◌++◌, length, map, take, drop, get_or, IfOk, Result, Ok, Err, is_some, option_map, arith, min, Global, Option, Some, None, refl, sym, ap, ap₂, subst, ◌∙◌}
use Rattle.std.specs.List.{filter}
use Rattle.std.proofs.lemmas.List.{take-append-drop, length-append, length-map, length-take, length-take-le, length-drop, drop_more}
use Rattle.std.proofs.lemmas.List.Elements.{filter-append}
use Rattle.std.specs.Prelude.{String, string_bytes}
use Rattle.std.specs.Option.{option_or}
use Rattle.std.proofs.Math.Seq.{take-append_seam, take-length, drop-length}
use Rattle.std.proofs.Math.Nat.{min-le_right}
use Rattle.tree_model.specs.Cursor.{Cursor}
use Rattle.ras_front_end.specs.declared.edition.Entry.{Entry}
use Rattle.ras_front_end.specs.declared.edition.Edition.{Edition}
use Rattle.ras_front_end.specs.Front.{Front}
use Rattle.ras_front_end.specs.Parsed.{Parsed}
use Rattle.rust_parens.specs.declared.needless.Tried.{Tried}
use Rattle.rust_parens.specs.declared.needless.Run.{Run}
use Rattle.rust_parens.specs.Needless.{fixed, MayGo, Refused, chosen, IsAnswer, with_pair, AreSorted, IsFixed, AreTriedAmong}
use Rattle.rust_parens.specs.Runs.{as_tried, going, planned, IsText, ArePlan, AreRun, IsRun}

abbrev pair_of : Tried → Cursor
pair_of t = t.pair

pub not_both : {A : Type 0} (b : Bool) → b ≡ true → b ≡ false → A
not_both b e f = absurd (let bad : true ≡ false = sym e ∙ f in cc)

pub if_ok : {T E : Type 0} {P Q : T → Type 0} (r : Result T E) → IfOk r P → ((x : T) → P x → Q x) → IfOk r Q
if_ok (Ok x) h f = f x h
if_ok (Err e) h f = tt

append_nil : {A : Type 0} (l : List A) → l ++ [] ≡ l
append_nil [] = refl
append_nil (x ∷ l) = ap (λ k. x ∷ k) (append_nil l)

append_three : {A : Type 0} (l m n : List A) → l ++ (m ++ n) ≡ (l ++ m) ++ n
append_three [] m n = refl
append_three (x ∷ l) m n = ap (λ k. x ∷ k) (append_three l m n)

map_append : {A B : Type 0} (f : A → B) (l m : List A) → map f (l ++ m) ≡ map f l ++ map f m
map_append f [] m = refl
map_append f (x ∷ l) m = ap (λ k. f x ∷ k) (map_append f l m)

pairs_noted : (goes : Bool) (run : List Cursor) → map pair_of (map (as_tried goes) run) ≡ run
pairs_noted goes [] = refl
pairs_noted goes (p ∷ run) = ap (λ k. p ∷ k) (pairs_noted goes run)

-- ---- the candidates, in order

in_order : (all : List Cursor) (tried more : List Tried) (back : List Cursor)
    → map pair_of tried ≡ take (length tried) all → drop (length tried) all ≡ map pair_of more ++ back
    → map pair_of (tried ++ more) ≡ take (length (tried ++ more)) all
in_order all tried more back e f =
    let whole : all ≡ map pair_of (tried ++ more) ++ back =
    sym (take-append-drop (length tried) all)
    ∙ ap (λ k. k ++ drop (length tried) all) (sym e)
    ∙ ap (λ k. map pair_of tried ++ k) f
    ∙ append_three (map pair_of tried) (map pair_of more) back
    ∙ ap (λ k. k ++ back) (sym (map_append pair_of tried more)) in
    sym (take-append_seam (map pair_of (tried ++ more)) back)
    ∙ ap (λ n. take n (map pair_of (tried ++ more) ++ back)) (length-map (tried ++ more) pair_of)
    ∙ ap (take (length (tried ++ more))) (sym whole)

behind : (goes : Bool) (n : ℕ) (rest : List Cursor) → rest ≡ map pair_of (map (as_tried goes) (take n rest)) ++ drop n rest
behind goes n rest = sym (take-append-drop n rest) ∙ ap (λ k. k ++ drop n rest) (sym (pairs_noted goes (take n rest)))

pub rest_of : (n : ℕ) (all : List Cursor) → take (length all - n) (drop n all) ≡ drop n all
rest_of n all = ap (λ k. take k (drop n all)) (sym (length-drop n all)) ∙ take-length (drop n all)

-- ---- those that go

abbrev goes_of : Tried → Bool
goes_of t = t.goes

chosen_append : (ts us : List Tried) → chosen (ts ++ us) ≡ chosen ts ++ chosen us
chosen_append ts us = ap (map pair_of) (filter-append goes_of ts us) ∙ map_append pair_of (filter goes_of ts) (filter goes_of us)

chosen_going : (run : List Cursor) → chosen (map (as_tried true) run) ≡ run
chosen_going [] = refl
chosen_going (p ∷ run) = ap (λ k. p ∷ k) (chosen_going run)

chosen_staying : (run : List Cursor) → chosen (map (as_tried false) run) ≡ []
chosen_staying [] = refl
chosen_staying (p ∷ run) = chosen_staying run

-- ---- each that stays was refused

with_chosen : (b : Bool) (before : List Cursor) (t : Tried) (l : List Tried)
    → before ++ map pair_of (cond b (t ∷ l) l) ≡ with_pair before b t.pair ++ map pair_of l
with_chosen true before t l = append_three before (t.pair ∷ []) (map pair_of l)
with_chosen false before t l = refl

sorted_append : (refused : List Cursor → Type 0) (before : List Cursor) (ts us : List Tried)
    → AreSorted refused before ts → AreSorted refused (before ++ chosen ts) us → AreSorted refused before (ts ++ us)
sorted_append refused before [] us h k = subst (λ c. AreSorted refused c us) (append_nil before) k
sorted_append refused before (t ∷ ts) us h k = (
  h.0,
  sorted_append refused (with_pair before t.goes t.pair) ts us h.1 (subst (λ c. AreSorted refused c us) (with_chosen t.goes before t (filter goes_of ts)) k),
)

sorted_going : (refused : List Cursor → Type 0) (before : List Cursor) (run : List Cursor) → AreSorted refused before (map (as_tried true) run)
sorted_going refused before [] = tt
sorted_going refused before (p ∷ run) = (tt, sorted_going refused (before ++ p ∷ []) run)

sorted_staying : (refused : List Cursor → Type 0) (before : List Cursor) (rest : List Cursor)
    → refused (before ++ take 1 rest) → AreSorted refused before (map (as_tried false) (take 1 rest))
sorted_staying refused before [] h = tt
sorted_staying refused before (p ∷ rest) h = (h, tt)

-- ---- pairs of which all go, or of which one stays

all_sorted : (refused : List Cursor → Type 0) (before rest : List Cursor) (n : ℕ) (goes : Bool) → (goes ≡ false → n ≡ 1)
    → (goes ≡ false → refused (before ++ take n rest)) → AreSorted refused before (map (as_tried goes) (take n rest))
all_sorted refused before rest n true one h = sorted_going refused before (take n rest)
all_sorted refused before rest n false one h =
    subst (λ k. AreSorted refused before (map (as_tried false) (take k rest))) (sym (one refl))
    (sorted_staying refused before rest (subst (λ k. refused (before ++ take k rest)) (one refl) (h refl)))

pub refused_none : (front : Front) (entry : Entry) (edition : Edition) (old : Parsed) (pairs : List Cursor) (o : Option (String Global))
    → IsAnswer front entry edition old pairs (option_map string_bytes o) → is_some o ≡ false → Refused front entry edition old pairs
refused_none front entry edition old pairs None a e = a
refused_none front entry edition old pairs (Some s) a e = absurd (let bad : true ≡ false = e in cc)

text_of_answer : (front : Front) (entry : Entry) (edition : Edition) (old : Parsed) (before pairs : List Cursor) (o : Option (String Global))
    → IsAnswer front entry edition old (before ++ pairs) (option_map string_bytes o)
    → IsText front entry edition old before (chosen (map (as_tried (is_some o)) pairs)) (option_map string_bytes o)
text_of_answer front entry edition old before pairs None a = chosen_staying pairs
text_of_answer front entry edition old before pairs (Some s) a =
    subst (λ k. (string_bytes s ≡ fixed old (before ++ k)) × MayGo front entry edition old (before ++ k)) (sym (chosen_going pairs)) a

length_noted : (goes : Bool) (n : ℕ) (rest : List Cursor) → n ≤ length rest → length (map (as_tried goes) (take n rest)) ≡ n
length_noted goes n rest h = length-map (take n rest) (as_tried goes) ∙ length-take-le n rest h

run_of : (front : Front) (entry : Entry) (edition : Edition) (old : Parsed) (before rest : List Cursor) (n : ℕ) (o : Option (String Global))
    → 1 ≤ n → n ≤ length rest → (is_some o ≡ false → n ≡ 1)
    → IsAnswer front entry edition old (before ++ take n rest) (option_map string_bytes o)
    → AreRun front entry edition old before rest (map (as_tried (is_some o)) (take n rest)) (option_map string_bytes o)
run_of front entry edition old before rest n o some within one a = record {
  some = subst (λ k. 1 ≤ k) (sym (length_noted (is_some o) n rest within)) some;
  in_order = pairs_noted (is_some o) (take n rest) ∙ ap (λ k. take k rest) (sym (length_noted (is_some o) n rest within));
  sorted = all_sorted (Refused front entry edition old) before rest n (is_some o) one (refused_none front entry edition old (before ++ take n rest) o a);
  text = text_of_answer front entry edition old before (take n rest) o a;
}

pub is_run : (front : Front) (entry : Entry) (edition : Edition) (old : Parsed) (before rest : List Cursor) (n : ℕ) (o : Option (String Global)) (run : Run)
    → 1 ≤ n → n ≤ length rest → (is_some o ≡ false → n ≡ 1)
    → IsAnswer front entry edition old (before ++ take n rest) (option_map string_bytes o)
    → (run.tried.items ≡ map (as_tried (is_some o)) (take n rest)) × (run.text ≡ o)
    → IsRun front entry edition old before rest run
is_run front entry edition old before rest n o run some within one a e =
    subst (λ ts. AreRun front entry edition old before rest ts (option_map string_bytes run.text)) (sym e.0)
    (subst (λ k. AreRun front entry edition old before rest (map (as_tried (is_some o)) (take n rest)) (option_map string_bytes k)) (sym e.1)
    (run_of front entry edition old before rest n o some within one a))

-- ---- a plan is followed

pub planned_goes : (stays : List Bool) (rest : List Cursor) (n : ℕ) → n < length stays → n < length rest → (d : Cursor) → get_or stays n false ≡ false
    → planned (drop n stays) (drop n rest) ≡ get_or rest n d ∷ planned (drop (n + 1) stays) (drop (n + 1) rest)
planned_goes stays rest n i j d e =
    ap₂ planned (drop_more stays n false i) (drop_more rest n d j)
    ∙ ap (λ b. planned (b ∷ drop (n + 1) stays) (get_or rest n d ∷ drop (n + 1) rest)) e

pub planned_stays : (stays : List Bool) (rest : List Cursor) (n : ℕ) → n < length stays → n < length rest → (d : Cursor) → get_or stays n false ≡ true
    → planned (drop n stays) (drop n rest) ≡ planned (drop (n + 1) stays) (drop (n + 1) rest)
planned_stays stays rest n i j d e =
    ap₂ planned (drop_more stays n false i) (drop_more rest n d j)
    ∙ ap (λ b. planned (b ∷ drop (n + 1) stays) (get_or rest n d ∷ drop (n + 1) rest)) e

planned_none : (l : List Cursor) → planned [] l ≡ []
planned_none [] = refl
planned_none (p ∷ l) = refl

first_is : {A : Type 0} {x y : A} {l k m : List A} → m ≡ x ∷ l → m ≡ y ∷ k → y ≡ x
first_is {x = x} e f = ap (λ m. get_or m 0 x) (sym f ∙ e)

-- what was tried by a plan, up to a place
pub record Follow (front : Front) (entry : Entry) (edition : Edition) (old : Parsed) (first rest : List Cursor) (stays : List Bool) (before : List Cursor) (tried : List Tried) : Type 0 where
  pub in_order : map pair_of tried ≡ take (length tried) rest
  pub going : before ≡ first ++ chosen tried
  pub sorted : AreSorted (Refused front entry edition old) first tried
  pub planned : chosen tried ++ planned (drop (length tried) stays) (drop (length tried) rest) ≡ planned stays rest
  pub within : length tried ≤ length stays

pub started : (front : Front) (entry : Entry) (edition : Edition) (old : Parsed) (first rest : List Cursor) (stays : List Bool)
    → Follow front entry edition old first rest stays first []
started front entry edition old first rest stays = record {
  in_order = refl;
  going = sym (append_nil first);
  sorted = tt;
  planned = refl;
  within = omega arith;
}

length_one : (n : ℕ) (rest : List Cursor) → n < length rest → 1 ≤ length (drop n rest)
length_one n rest h = subst (λ k. 1 ≤ k) (sym (length-drop n rest)) (omega (arith, h))

-- what one more makes of those that were chosen
chosen_more : (first before : List Cursor) (tried : List Tried) (goes : Bool) (l : List Cursor)
    → before ≡ first ++ chosen tried → before ++ going goes l ≡ first ++ chosen (tried ++ map (as_tried goes) l)
chosen_more first before tried true l e =
    ap (λ k. k ++ l) e ∙ sym (append_three first (chosen tried) l)
    ∙ ap (λ k. first ++ (chosen tried ++ k)) (sym (chosen_going l)) ∙ ap (λ k. first ++ k) (sym (chosen_append tried (map (as_tried true) l)))
chosen_more first before tried false l e =
    append_nil before ∙ e ∙ ap (λ k. first ++ k) (sym (append_nil (chosen tried)))
    ∙ ap (λ k. first ++ (chosen tried ++ k)) (sym (chosen_staying l)) ∙ ap (λ k. first ++ k) (sym (chosen_append tried (map (as_tried false) l)))

planned_more : (stays : List Bool) (rest : List Cursor) (n : ℕ) → n < length stays → n < length rest
    → planned (drop n stays) (drop n rest) ≡ chosen (map (as_tried (not (get_or stays n false))) (take 1 (drop n rest))) ++ planned (drop (n + 1) stays) (drop (n + 1) rest)
planned_more stays rest n i j = by_rest (drop n rest) refl (get_or stays n false) refl where
  by_rest : (l : List Cursor) → drop n rest ≡ l → (b : Bool) → get_or stays n false ≡ b
      → planned (drop n stays) (drop n rest) ≡ chosen (map (as_tried (not b)) (take 1 (drop n rest))) ++ planned (drop (n + 1) stays) (drop (n + 1) rest)
  by_rest [] e b f = absurd (omega (arith, subst (λ k. 1 ≤ length k) e (length_one n rest j)))
  by_rest (p ∷ l) e true f =
      planned_stays stays rest n i j p f
      ∙ sym (ap (λ k. chosen (map (as_tried false) (take 1 k)) ++ planned (drop (n + 1) stays) (drop (n + 1) rest)) e)
  by_rest (p ∷ l) e false f =
      planned_goes stays rest n i j p f
      ∙ ap (λ k. k ∷ planned (drop (n + 1) stays) (drop (n + 1) rest)) (first_is e (drop_more rest n p j))
      ∙ sym (ap (λ k. chosen (map (as_tried true) (take 1 k)) ++ planned (drop (n + 1) stays) (drop (n + 1) rest)) e)

pub followed : (front : Front) (entry : Entry) (edition : Edition) (old : Parsed) (first rest : List Cursor) (stays : List Bool) (before : List Cursor) (tried : List Tried) (goes : Bool)
    → Follow front entry edition old first rest stays before tried → length stays ≤ length rest → length tried < length stays
    → goes ≡ not (get_or stays (length tried) false)
    → (goes ≡ false → Refused front entry edition old (before ++ take 1 (drop (length tried) rest)))
    → Follow front entry edition old first rest stays (before ++ going goes (take 1 (drop (length tried) rest))) (tried ++ map (as_tried goes) (take 1 (drop (length tried) rest)))
followed front entry edition old first rest stays before tried goes h short i is refused =
    let n : ℕ = length tried in
    let pair : List Cursor = take 1 (drop n rest) in
    let j : n < length rest = omega (arith, i, short) in
    let one : length (map (as_tried goes) pair) ≡ 1 = length_noted goes 1 (drop n rest) (length_one n rest j) in
    let all : length (tried ++ map (as_tried goes) pair) ≡ n + 1 = length-append tried (map (as_tried goes) pair) ∙ ap (λ k. n + k) one in record {
      in_order = in_order rest tried (map (as_tried goes) pair) (drop 1 (drop n rest)) h.in_order (behind goes 1 (drop n rest));
      going = chosen_more first before tried goes pair h.going;
      sorted =
          sorted_append (Refused front entry edition old) first tried (map (as_tried goes) pair) h.sorted
          (all_sorted (Refused front entry edition old) (first ++ chosen tried) (drop n rest) 1 goes (λ e. refl)
          (λ e. subst (λ k. Refused front entry edition old (k ++ pair)) h.going (refused e)));
      planned =
          ap (λ k. chosen (tried ++ map (as_tried goes) pair) ++ planned (drop k stays) (drop k rest)) all
          ∙ ap (λ k. k ++ planned (drop (n + 1) stays) (drop (n + 1) rest)) (chosen_append tried (map (as_tried goes) pair))
          ∙ sym (append_three (chosen tried) (chosen (map (as_tried goes) pair)) (planned (drop (n + 1) stays) (drop (n + 1) rest)))
          ∙ ap (λ b. chosen tried ++ (chosen (map (as_tried b) pair) ++ planned (drop (n + 1) stays) (drop (n + 1) rest))) is
          ∙ ap (λ k. chosen tried ++ k) (sym (planned_more stays rest n i j))
          ∙ h.planned;
      within = subst (λ k. k ≤ length stays) (sym all) (omega (arith, i));
    }

-- the plan was followed to its end
pub followed_all : (front : Front) (entry : Entry) (edition : Edition) (old : Parsed) (first rest : List Cursor) (stays : List Bool) (s : Option (List ℕ)) (before : List Cursor) (tried : List Tried)
    → ArePlan front entry edition old first rest stays s → Follow front entry edition old first rest stays before tried → length stays ≤ length tried
    → AreRun front entry edition old first rest tried s
followed_all front entry edition old first rest stays s before tried is h end =
    let e : length tried ≡ length stays = omega (arith, h.within, end) in record {
      some = subst (λ k. 1 ≤ k) (sym e) is.some;
      in_order = h.in_order;
      sorted = h.sorted;
      text =
          subst (λ k. IsText front entry edition old first k s)
          (sym h.planned
          ∙ ap (λ k. chosen tried ++ planned k (drop (length tried) rest)) (ap (λ k. drop k stays) e ∙ drop-length stays)
          ∙ ap (λ k. chosen tried ++ k) (planned_none (drop (length tried) rest))
          ∙ append_nil (chosen tried))
          is.text;
    }

-- a pair goes that stays by the plan
pub followed_to : (front : Front) (entry : Entry) (edition : Edition) (old : Parsed) (first rest : List Cursor) (stays : List Bool) (before : List Cursor) (tried : List Tried) (o : Option (String Global))
    → Follow front entry edition old first rest stays before tried → length tried < length rest → is_some o ≡ true
    → IsAnswer front entry edition old (before ++ take 1 (drop (length tried) rest)) (option_map string_bytes o)
    → AreRun front entry edition old first rest (tried ++ map (as_tried true) (take 1 (drop (length tried) rest))) (option_map string_bytes o)
followed_to front entry edition old first rest stays before tried None h j some a = absurd (let bad : false ≡ true = some in cc)
followed_to front entry edition old first rest stays before tried (Some s) h j some a =
    let n : ℕ = length tried in
    let pair : List Cursor = take 1 (drop n rest) in
    let one : length (map (as_tried true) pair) ≡ 1 = length_noted true 1 (drop n rest) (length_one n rest j) in
    let all : length (tried ++ map (as_tried true) pair) ≡ n + 1 = length-append tried (map (as_tried true) pair) ∙ ap (λ k. n + k) one in record {
      some = subst (λ k. 1 ≤ k) (sym all) (omega arith);
      in_order = in_order rest tried (map (as_tried true) pair) (drop 1 (drop n rest)) h.in_order (behind true 1 (drop n rest));
      sorted =
          sorted_append (Refused front entry edition old) first tried (map (as_tried true) pair) h.sorted
          (sorted_going (Refused front entry edition old) (first ++ chosen tried) pair);
      text = subst (λ k. (string_bytes s ≡ fixed old k) × MayGo front entry edition old k) (chosen_more first before tried true pair h.going) a;
    }

pub pair_at : (n : ℕ) (rest : List Cursor) (tried : List Tried) → n ≡ length tried → take 1 (take (length rest - n) (drop n rest)) ≡ take 1 (drop (length tried) rest)
pair_at n rest tried e = ap (take 1) (rest_of n rest ∙ ap (λ k. drop k rest) e)

pub followed_to_by : (front : Front) (entry : Entry) (edition : Edition) (old : Parsed) (first rest : List Cursor) (stays : List Bool) (before beside : List Cursor) (tried new_tried : List Tried) (pair : List Cursor) (o : Option (String Global))
    → Follow front entry edition old first rest stays before tried → length tried < length rest
    → pair ≡ take 1 (drop (length tried) rest) → beside ≡ before → is_some o ≡ true
    → IsAnswer front entry edition old (beside ++ pair) (option_map string_bytes o) → new_tried ≡ tried ++ map (as_tried true) pair
    → AreRun front entry edition old first rest new_tried (option_map string_bytes o)
followed_to_by front entry edition old first rest stays before beside tried new_tried pair o h j is same some a e =
    subst (λ ts. AreRun front entry edition old first rest ts (option_map string_bytes o)) (sym (e ∙ ap (λ l. tried ++ map (as_tried true) l) is))
    (followed_to front entry edition old first rest stays before tried o h j some
    (subst (λ l. IsAnswer front entry edition old l (option_map string_bytes o)) (ap₂ (λ k l. k ++ l) same is) a))

pub followed_by : (front : Front) (entry : Entry) (edition : Edition) (old : Parsed) (first rest : List Cursor) (stays : List Bool) (before new_before : List Cursor) (tried new_tried : List Tried) (pair : List Cursor) (goes : Bool)
    → Follow front entry edition old first rest stays before tried → length stays ≤ length rest → length tried < length stays
    → pair ≡ take 1 (drop (length tried) rest) → goes ≡ not (get_or stays (length tried) false)
    → (goes ≡ false → Refused front entry edition old (before ++ pair))
    → new_before ≡ before ++ going goes pair → new_tried ≡ tried ++ map (as_tried goes) pair
    → Follow front entry edition old first rest stays new_before new_tried
followed_by front entry edition old first rest stays before new_before tried new_tried pair goes h short i is marked refused e f =
    subst (λ k. Follow front entry edition old first rest stays k new_tried) (sym (e ∙ ap (λ l. before ++ going goes l) is))
    (subst (λ k. Follow front entry edition old first rest stays (before ++ going goes (take 1 (drop (length tried) rest))) k) (sym (f ∙ ap (λ l. tried ++ map (as_tried goes) l) is))
    (followed front entry edition old first rest stays before tried goes h short i marked
    (λ no. subst (λ l. Refused front entry edition old (before ++ l)) is (refused no))))

pub one_more : (tried new_tried : List Tried) (pair rest : List Cursor) (goes : Bool) → length tried < length rest
    → pair ≡ take 1 (drop (length tried) rest) → new_tried ≡ tried ++ map (as_tried goes) pair → length new_tried ≡ length tried + 1
one_more tried new_tried pair rest goes j is e =
    ap length e ∙ length-append tried (map (as_tried goes) pair)
    ∙ ap (λ l. length tried + length (map (as_tried goes) l)) is
    ∙ ap (λ k. length tried + k) (length_noted goes 1 (drop (length tried) rest) (length_one (length tried) rest j))

-- ---- a run was noted

fixed_more : (front : Front) (entry : Entry) (edition : Edition) (old : Parsed) (found more : List Cursor) (o s : Option (String Global))
    → IsFixed front entry edition old found (option_map string_bytes s) → IsText front entry edition old found more (option_map string_bytes o)
    → IsFixed front entry edition old (found ++ more) (option_map string_bytes (option_or o s))
fixed_more front entry edition old found more None s h e =
    subst (λ k. IsFixed front entry edition old k (option_map string_bytes s)) (sym (append_nil found) ∙ ap (λ k. found ++ k) (sym e)) h
fixed_more front entry edition old found more (Some new) s h e = e

pub noted : (front : Front) (entry : Entry) (edition : Edition) (old : Parsed) (candidates found beside : List Cursor) (tried more : List Tried) (o s : Option (String Global)) (rest : List Cursor)
    → AreTriedAmong front entry edition old candidates found tried (option_map string_bytes s) → rest ≡ drop (length tried) candidates
    → beside ≡ found → AreRun front entry edition old beside rest more (option_map string_bytes o)
    → AreTriedAmong front entry edition old candidates (found ++ chosen more) (tried ++ more) (option_map string_bytes (option_or o s))
noted front entry edition old candidates found beside tried more o s rest h left same is' =
    let is : AreRun front entry edition old found rest more (option_map string_bytes o) = subst (λ k. AreRun front entry edition old k rest more (option_map string_bytes o)) same is' in record {
      in_order =
          in_order candidates tried more (drop (length more) rest) h.in_order
          (sym left ∙ sym (take-append-drop (length more) rest) ∙ ap (λ k. k ++ drop (length more) rest) (sym is.in_order));
      going = ap (λ k. k ++ chosen more) h.going ∙ sym (chosen_append tried more);
      sorted = sorted_append (Refused front entry edition old) [] tried more h.sorted (subst (λ k. AreSorted (Refused front entry edition old) k more) h.going is.sorted);
      text = fixed_more front entry edition old found (chosen more) o s h.text is.text;
    }

pub tried_within : (front : Front) (entry : Entry) (edition : Edition) (old : Parsed) (candidates found : List Cursor) (tried : List Tried) (s : Option (List ℕ))
    → AreTriedAmong front entry edition old candidates found tried s → length tried ≤ length candidates
tried_within front entry edition old candidates found tried s h =
    let are : length tried ≡ min (length tried) (length candidates) =
    sym (length-map tried pair_of) ∙ ap length h.in_order ∙ length-take (length tried) candidates in
    subst (λ n. n ≤ length candidates) (sym are) (min-le_right (length tried) (length candidates))
