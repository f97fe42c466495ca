-- Two texts that differ in the text of one token, and how the states of their layouts are related.
use Rattle.std.proofs.Common.{◌≡◌, ⊎_elim, ℕ, zero, suc, ◌+◌, ◌-◌, ◌≤◌, ◌<◌, ◌^◌, List, [], ◌∷◌, ◌++◌, length, take, drop, fold, ap, ap₂, sym, ◌∙◌, refl, arith, subst, Option, Some, None, Bool, true, false, if◌then◌else◌, nat_lt, nat_eq, append-nil}
use Rattle.std.specs.Prelude.{All, ◌&&◌, ◌||◌, position}
use Rattle.std.proofs.lemmas.Bool.{cases_lt}
use Rattle.std.proofs.lemmas.List.{length-append, length-drop, take-append-le, drop-append-le}
use Rattle.std.proofs.lemmas.List.Elements.{All-cons, All-nil, All-append}
use Rattle.std.proofs.lemmas.List.Folds.{list_any_at}
use Rattle.std.proofs.lemmas.List.Quantifiers.{position-Some}
use Rattle.std.proofs.Math.Seq.{take-append_seam, drop-append_seam}
use Rattle.syntax_kind.specs.declared.syntax_kind.SyntaxKind.{SyntaxKind}
use Rattle.syntax_kind.specs.Kinds.{is_trivia}
use Rattle.ras_front_end.specs.Reading.{FrontStep, takes}
use Rattle.token_layout.specs.declared.span.Token.{Token as RawToken}
use Rattle.grammar_machine.specs.declared.event.Part.{Part}
use Rattle.event_layout.specs.declared.layout.ParserError.{ParserError}
use Rattle.event_layout.specs.declared.trivia.Keep.{Keep}
use Rattle.event_layout.specs.Trivia.{lead, later_of, part_of, has_blank_line, is_comment, one_more, kept_of, attached_after, attached, attaches_of, outside_of}
use Rattle.event_layout.specs.Layout.{Laying, leaf_of, pass_on, joined_len, join_on, is_number, dot_of, cut_at, piece_on, fault_of}
use Rattle.event_layout.specs.Amid.{Around, amid, IsIn, sum_len, first_len, Fits}
use Rattle.event_layout.specs.Filled.{bytes_taken}
use Rattle.event_layout.specs.Retold.{has_dot}
use Rattle.event_layout.proofs.Bytes.{Took, pass_on_took, join_took, piece_took, enter_took, exit_took}
use Rattle.event_layout.proofs.Filled.{laying_is, is_in_back}
use Rattle.event_layout.proofs.Amid.{keep_amid, lead_more, sum_split, joined_is, enter_on, exit_on, enter_is, exit_is, pass_on_fits, join_on_fits, piece_on_fits, enter_on_fits, exit_on_fits, attached_fold}

-- a token's text is between x and y; the tokens behind it
pub record Retelling : Type 0 where
  pub x : List ℕ
  pub old : List ℕ
  pub new : List ℕ
  pub y : List ℕ
  pub kind : SyntaxKind
  pub back : List RawToken

abbrev pub was : Retelling → List ℕ
was e = e.x ++ (e.old ++ e.y)

abbrev pub now : Retelling → List ℕ
now e = e.x ++ (e.new ++ e.y)

abbrev pub old_token : Retelling → RawToken
old_token e = record { kind = e.kind; len = length e.old }

abbrev pub new_token : Retelling → RawToken
new_token e = record { kind = e.kind; len = length e.new }

pub record Retells (e : Retelling) : Type 0 where
  pub small : length e.x + (length e.old + length e.y) < 2 ^ 32
  pub new_small : length e.x + (length e.new + length e.y) < 2 ^ 32
  pub some : 0 < length e.old
  pub cut : sum_len e.back ≡ length e.y
  pub lines : is_trivia e.kind ≡ true → is_comment e.kind ≡ false → has_blank_line e.old ≡ has_blank_line e.new
  pub no_dots : is_number e.kind ≡ true → (has_dot e.old ≡ false) × (has_dot e.new ≡ false)

-- a state of the old text's layout, as it is in that of the new one
abbrev pub retold : Retelling → List RawToken → Laying → Laying
retold e front s = record s { rest = front ++ new_token e ∷ e.back }

-- the token is not laid yet
pub record Before (e : Retelling) (front : List RawToken) (s : Laying) : Type 0 where
  pub rest : s.rest ≡ front ++ old_token e ∷ e.back
  pub fits : Fits (was e) s
  pub whole : length front ≡ 0 → s.cut ≡ 0
  pub took : Took s
  pub low : All (λ f. f.position ≤ length e.x) s.faults

-- the leaf that has the token in it, and what is laid before it
pub record Leaf : Type 0 where
  pub before : List FrontStep
  pub kind : SyntaxKind
  pub ahead : ℕ
  pub after : ℕ
  pub faults : List ParserError

abbrev pub steps_with : Leaf → ℕ → List FrontStep
steps_with l n = l.before ++ takes l.kind (l.ahead + (n + l.after)) ∷ []

-- what is around the text behind the token, where it is n bytes long
abbrev pub around : Leaf → ℕ → ℕ → Around
around l start n = record { bytes = start + n; behind = []; open_nodes = 0; steps = steps_with l n; faults = l.faults }

-- the token is laid
pub record Behind (e : Retelling) (s t : Laying) : Type 0 where
  pub leaf : Leaf
  pub part : Laying
  pub was : s ≡ amid (around leaf (length e.x) (length e.old)) part
  pub is : t ≡ amid (around leaf (length e.x) (length e.new)) part
  pub fits : Fits e.y part
  pub starts : bytes_taken leaf.before + leaf.ahead ≡ length e.x
  pub low : All (λ f. f.position ≤ length e.x) leaf.faults

pub data Both (e : Retelling) : Laying → Laying → Type 0 where
  ahead_of : (front : List RawToken) (s : Laying) → Before e front s → Both e s (retold e front s)
  past : (s t : Laying) → Behind e s t → Both e s t

pub both_is : (e : Retelling) (s s' t t' : Laying) → s ≡ s' → t ≡ t' → Both e s' t' → Both e s t
both_is e s s' t t' f g h = subst (λ u. Both e u t) (sym f) (subst (λ u. Both e s' u) (sym g) h)

-- ---- lists

take_past : (r b : List RawToken) (t : RawToken) (more m : ℕ) → more ≡ length r + suc m → take more (r ++ t ∷ b) ≡ r ++ t ∷ take m b
take_past [] b t zero m h = absurd (omega (arith, h))
take_past [] b t (suc n) m h = let same : n ≡ m = omega (arith, h) in ap (λ i. t ∷ take i b) same
take_past (u ∷ r) b t zero m h = absurd (omega (arith, h))
take_past (u ∷ r) b t (suc n) m h = ap (λ l. u ∷ l) (take_past r b t n m (omega (arith, h)))

drop_past : (r b : List RawToken) (t : RawToken) (more m : ℕ) → more ≡ length r + suc m → drop more (r ++ t ∷ b) ≡ drop m b
drop_past [] b t zero m h = absurd (omega (arith, h))
drop_past [] b t (suc n) m h = let same : n ≡ m = omega (arith, h) in ap (λ i. drop i b) same
drop_past (u ∷ r) b t zero m h = absurd (omega (arith, h))
drop_past (u ∷ r) b t (suc n) m h = drop_past r b t n m (omega (arith, h))

pub sum_both : (r b : List RawToken) → sum_len (r ++ b) ≡ sum_len r + sum_len b
sum_both [] b = omega arith
sum_both (t ∷ r) b = omega (arith, sum_both r b)

part_front : (x w : List ℕ) (p n : ℕ) → p + n ≤ length x → part_of (x ++ w) p n ≡ part_of x p n
part_front x w p n h =
    ap (take n) (drop-append-le p x w (omega (arith, h))) ∙ take-append-le n (drop p x) w (omega (arith, h, length-drop p x))

part_mid : (x o y : List ℕ) → part_of (x ++ (o ++ y)) (length x) (length o) ≡ o
part_mid x o y = ap (take (length o)) (drop-append_seam x (o ++ y)) ∙ take-append_seam o y

pub back_in : (x o y : List ℕ) → IsIn y (length x + length o) (x ++ (o ++ y))
back_in x o y = ap (λ n. part_of (x ++ (o ++ y)) n (length y)) (sym (length-append x o)) ∙ is_in_back x o y

pub whole_len : (x o y : List ℕ) → length (x ++ (o ++ y)) ≡ length x + (length o + length y)
whole_len x o y = omega (arith, length-append x (o ++ y), length-append o y)

-- a text without dots has no place of a dot
pub no_place : (s : List ℕ) → has_dot s ≡ false → position (λ b. nat_eq b 46) s ≡ None
no_place s h = by (position (λ b. nat_eq b 46) s) refl
  where
    by : (o : Option ℕ) → position (λ b. nat_eq b 46) s ≡ o → position (λ b. nat_eq b 46) s ≡ None
    by None f = f
    by (Some i) f =
        let found = position-Some (λ b. nat_eq b 46) s i 0 f in
        let some : has_dot s ≡ true = list_any_at (λ b. nat_eq b 46) s i 0 found.0 found.1 in
        let bad : false ≡ true = sym h ∙ some in
        absurd (cc)

-- a token that is no number, or has none, is not cut at a dot
no_dot : (k : SyntaxKind) (s : List ℕ) → (is_number k ≡ true → has_dot s ≡ false) → dot_of k s ≡ None
no_dot k s h = by (is_number k) refl
  where
    by : (b : Bool) → is_number k ≡ b → dot_of k s ≡ None
    by true f = ap (λ c. if c then position (λ b. nat_eq b 46) s else None) f ∙ no_place s (h f)
    by false f = ap (λ c. if c then position (λ b. nat_eq b 46) s else None) f

pub lead_both_ways : (front : List RawToken) (b : List RawToken) (t u : RawToken) → t.kind ≡ u.kind → lead (front ++ t ∷ b) ≡ lead (front ++ u ∷ b)
lead_both_ways [] b t u same = lead_more t b ∙ ap (λ (k : SyntaxKind). if is_trivia k then lead b + 1 else 0) same ∙ sym (lead_more u b)
lead_both_ways (v ∷ front) b t u same =
    lead_more v (front ++ t ∷ b) ∙ ap (λ n. if is_trivia v.kind then n + 1 else 0) (lead_both_ways front b t u same) ∙ sym (lead_more v (front ++ u ∷ b))

pub length_both_ways : (front : List RawToken) (b : List RawToken) (t u : RawToken) → length (front ++ t ∷ b) ≡ length (front ++ u ∷ b)
length_both_ways [] b t u = refl
length_both_ways (v ∷ front) b t u = ap suc (length_both_ways front b t u)

reaches_on : (v : RawToken) (front b : List RawToken) (t : RawToken) (c : Bool) → is_trivia v.kind ≡ c → suc (length front) < lead (v ∷ (front ++ t ∷ b))
    → (length front < lead (front ++ t ∷ b) → is_trivia t.kind ≡ true) → is_trivia t.kind ≡ true
reaches_on v front b t true f h more = more (omega (arith, h, lead_more v (front ++ t ∷ b) ∙ ap (λ c. if c then lead (front ++ t ∷ b) + 1 else 0) f))
reaches_on v front b t false f h more = absurd (omega (arith, h, lead_more v (front ++ t ∷ b) ∙ ap (λ c. if c then lead (front ++ t ∷ b) + 1 else 0) f))

-- trivia that reach so far take the token too
lead_reaches : (front : List RawToken) (b : List RawToken) (t : RawToken) → length front < lead (front ++ t ∷ b) → is_trivia t.kind ≡ true
lead_reaches [] b t h = by (is_trivia t.kind) refl
  where
    by : (c : Bool) → is_trivia t.kind ≡ c → is_trivia t.kind ≡ true
    by true f = f
    by false f = absurd (omega (arith, h, lead_more t b ∙ ap (λ c. if c then lead b + 1 else 0) f))
lead_reaches (v ∷ front) b t h = reaches_on v front b t (is_trivia v.kind) refl h (lead_reaches front b t)

module _ (e : Retelling) (ok : Retells e) where
  pub was_small : length (was e) < 2 ^ 32
  was_small = omega (arith, ok.small, whole_len e.x e.old e.y)

  -- what the sum says of what is before the token
  sum_here : (front : List RawToken) (s : Laying) → Before e front s → s.position + sum_len front ≡ length e.x + s.cut
  sum_here front s h =
      omega (arith, h.fits.sum, whole_len e.x e.old e.y, ap sum_len h.rest, sum_both front (old_token e ∷ e.back), ok.cut)

  pub position_low : (front : List RawToken) (s : Laying) → Before e front s → s.position ≤ length e.x
  position_low [] s h = omega (arith, sum_here [] s h, h.whole refl)
  position_low (u ∷ front) s h = omega (arith, sum_here (u ∷ front) s h, h.fits.cut, ap first_len h.rest)

  -- ---- the token is laid

  crosses : (k : SyntaxKind) (ahead more : ℕ) (s : Laying) → s.position + ahead ≡ length e.x → Took s → All (λ f. f.position ≤ length e.x) s.faults
      → Both e (leaf_of k (ahead + (length e.old + sum_len (take more e.back))) (record s { rest = drop more e.back; cut = 0 }))
      (leaf_of k (ahead + (length e.new + sum_len (take more e.back))) (record s { rest = drop more e.back; cut = 0 }))
  crosses k ahead more s at took low =
      let after = sum_len (take more e.back) in
      let split = sum_split more e.back in
      let l : Leaf = record { before = s.steps; kind = k; ahead = ahead; after = after; faults = s.faults } in
      let p : Laying = record { next = s.next; entering = s.entering; rest = drop more e.back; cut = 0; position = after; depth = s.depth; steps = []; faults = [] } in
      let old_leaf = leaf_of k (ahead + (length e.old + after)) (record s { rest = drop more e.back; cut = 0 }) in
      let new_leaf = leaf_of k (ahead + (length e.new + after)) (record s { rest = drop more e.back; cut = 0 }) in
      past old_leaf new_leaf (record {
        leaf = l;
        part = p;
        was = laying_is old_leaf (amid (around l (length e.x) (length e.old)) p) refl refl (sym (append-nil (drop more e.back))) refl
            (omega (arith, at, split, ok.cut, ok.small)) (omega arith) (sym (append-nil (steps_with l (length e.old)))) (sym (append-nil s.faults));
        is = laying_is new_leaf (amid (around l (length e.x) (length e.new)) p) refl refl (sym (append-nil (drop more e.back))) refl
            (omega (arith, at, split, ok.cut, ok.new_small)) (omega arith) (sym (append-nil (steps_with l (length e.new)))) (sym (append-nil s.faults));
        fits = record { sum = omega (arith, split, ok.cut); cut = omega arith; whole = λ some. refl; short = omega (arith, split, ok.cut) };
        starts = omega (arith, took, at, ok.small, ok.some);
        low = low;
      })

  -- ---- single tokens

  pub pass_before : (front : List RawToken) (s : Laying) → Before e front s → Both e (pass_on (front ++ old_token e ∷ e.back) s) (pass_on (front ++ new_token e ∷ e.back) (retold e front s))
  pass_before [] s h =
      let none = h.whole refl in
      let n : length e.old - s.cut ≡ 0 + (length e.old + sum_len (take 0 e.back)) = omega (arith, none) in
      let m : length e.new - s.cut ≡ 0 + (length e.new + sum_len (take 0 e.back)) = omega (arith, none) in
      let u : Laying = record s { rest = e.back; cut = 0 } in
      both_is e (leaf_of e.kind (length e.old - s.cut) u) (leaf_of e.kind (0 + (length e.old + sum_len (take 0 e.back))) u)
      (leaf_of e.kind (length e.new - s.cut) u) (leaf_of e.kind (0 + (length e.new + sum_len (take 0 e.back))) u)
      (ap (λ n. leaf_of e.kind n u) n) (ap (λ n. leaf_of e.kind n u) m)
      (crosses e.kind 0 0 s (omega (arith, sum_here [] s h, none)) h.took h.low)
  pass_before (u ∷ front) s h =
      let t = pass_on (u ∷ (front ++ old_token e ∷ e.back)) s in
      ahead_of front t (record {
        rest = refl;
        fits = pass_on_fits (was e) was_small (u ∷ (front ++ old_token e ∷ e.back)) s h.rest h.fits;
        whole = λ none. refl;
        took = pass_on_took (u ∷ (front ++ old_token e ∷ e.back)) s h.took;
        low = h.low;
      })

  join_far : (k : SyntaxKind) (more m : ℕ) (u : RawToken) (front : List RawToken) (s : Laying) → Before e (u ∷ front) s → more ≡ length front + suc m
      → Both e (join_on k more (u ∷ (front ++ old_token e ∷ e.back)) s) (join_on k more (u ∷ (front ++ new_token e ∷ e.back)) (retold e (u ∷ front) s))
  join_far k more m u front s h far =
      let first = u.len - s.cut in
      let ahead = first + sum_len front in
      let after = sum_len (take m e.back) in
      let split = sum_split m e.back in
      let sum = sum_here (u ∷ front) s h in
      let one : s.cut ≤ u.len = omega (arith, h.fits.cut, ap first_len h.rest) in
      let ts = old_token e ∷ take m e.back in
      let us = new_token e ∷ take m e.back in
      let n : joined_len first (front ++ ts) ≡ ahead + (length e.old + after) =
      joined_is first (front ++ ts) (omega (arith, sum_both front ts, split, ok.cut, ok.small, sum, one)) ∙ omega (arith, sum_both front ts) in
      let l : joined_len first (front ++ us) ≡ ahead + (length e.new + after) =
      joined_is first (front ++ us) (omega (arith, sum_both front us, split, ok.cut, ok.new_small, sum, one)) ∙ omega (arith, sum_both front us) in
      let z : List RawToken → ℕ → Laying = λ rest n. leaf_of k n (record s { rest = rest; cut = 0 }) in
      both_is e (join_on k more (u ∷ (front ++ old_token e ∷ e.back)) s) (z (drop m e.back) (ahead + (length e.old + after)))
      (join_on k more (u ∷ (front ++ new_token e ∷ e.back)) (retold e (u ∷ front) s)) (z (drop m e.back) (ahead + (length e.new + after)))
      (ap₂ z (drop_past front e.back (old_token e) more m far) (ap (joined_len first) (take_past front e.back (old_token e) more m far) ∙ n))
      (ap₂ z (drop_past front e.back (new_token e) more m far) (ap (joined_len first) (take_past front e.back (new_token e) more m far) ∙ l))
      (crosses k ahead m s (omega (arith, sum, one)) h.took h.low)

  join_near : (k : SyntaxKind) (more : ℕ) (u : RawToken) (front : List RawToken) (s : Laying) → Before e (u ∷ front) s → more ≤ length front
      → Both e (join_on k more (u ∷ (front ++ old_token e ∷ e.back)) s) (join_on k more (u ∷ (front ++ new_token e ∷ e.back)) (retold e (u ∷ front) s))
  join_near k more u front s h near =
      let ts = front ++ old_token e ∷ e.back in
      let t = join_on k more (u ∷ ts) s in
      let z : List RawToken → ℕ → Laying = λ rest n. leaf_of k n (record s { rest = rest; cut = 0 }) in
      let first = u.len - s.cut in
      both_is e t t (join_on k more (u ∷ (front ++ new_token e ∷ e.back)) (retold e (u ∷ front) s)) (retold e (drop more front) t)
      refl
      (ap₂ z (drop-append-le more front (new_token e ∷ e.back) near)
      (ap (joined_len first) (take-append-le more front (new_token e ∷ e.back) near ∙ sym (take-append-le more front (old_token e ∷ e.back) near))))
      (ahead_of (drop more front) t (record {
        rest = drop-append-le more front (old_token e ∷ e.back) near;
        fits = join_on_fits (was e) was_small k more (u ∷ ts) s h.rest h.fits;
        whole = λ none. refl;
        took = join_took k more (u ∷ ts) s h.took;
        low = h.low;
      }))

  pub join_before : (k : SyntaxKind) (more : ℕ) (front : List RawToken) (s : Laying) → Before e front s
      → Both e (join_on k more (front ++ old_token e ∷ e.back) s) (join_on k more (front ++ new_token e ∷ e.back) (retold e front s))
  join_before k more [] s h =
      let none = h.whole refl in
      let split = sum_split more e.back in
      let after = sum_len (take more e.back) in
      let n : joined_len (length e.old - s.cut) (take more e.back) ≡ 0 + (length e.old + after) =
      joined_is (length e.old - s.cut) (take more e.back) (omega (arith, split, ok.cut, ok.small)) ∙ omega (arith, none) in
      let m : joined_len (length e.new - s.cut) (take more e.back) ≡ 0 + (length e.new + after) =
      joined_is (length e.new - s.cut) (take more e.back) (omega (arith, split, ok.cut, ok.new_small)) ∙ omega (arith, none) in
      let z : ℕ → Laying = λ n. leaf_of k n (record s { rest = drop more e.back; cut = 0 }) in
      both_is e (z (joined_len (length e.old - s.cut) (take more e.back))) (z (0 + (length e.old + after)))
      (z (joined_len (length e.new - s.cut) (take more e.back))) (z (0 + (length e.new + after)))
      (ap z n) (ap z m) (crosses k 0 more s (omega (arith, sum_here [] s h, none)) h.took h.low)
  join_before k more (u ∷ front) s h =
      ⊎_elim
      (λ far. join_far k more (more - suc (length front)) u front s h (omega (arith, far)))
      (λ near. join_near k more u front s h near)
      (cases_lt (length front) more)

  -- ---- digits before a dot, and dots

  cut_retold : (p : Part) (o : Option ℕ) (front : List RawToken) (s : Laying) → cut_at p o (retold e front s) ≡ retold e front (cut_at p o s)
  cut_retold p None front s = refl
  cut_retold p (Some dot) front s = refl

  cut_rest : (p : Part) (o : Option ℕ) (s : Laying) → (cut_at p o s).rest ≡ s.rest
  cut_rest p None s = refl
  cut_rest p (Some dot) s = refl

  cut_faults : (p : Part) (o : Option ℕ) (s : Laying) → (cut_at p o s).faults ≡ s.faults
  cut_faults p None s = refl
  cut_faults p (Some dot) s = refl

  pub piece_before : (p : Part) (front : List RawToken) (s : Laying) → lead s.rest ≡ 0 → Before e front s
      → Both e (piece_on (was e) p (front ++ old_token e ∷ e.back) s) (piece_on (now e) p (front ++ new_token e ∷ e.back) (retold e front s))
  piece_before p [] s none h =
      let cut = h.whole refl in
      let at : s.position ≡ length e.x = omega (arith, sum_here [] s h, cut) in
      let n : length e.old - s.cut ≡ length e.old = omega (arith, cut) in
      let m : length e.new - s.cut ≡ length e.new = omega (arith, cut) in
      let find : List ℕ → Option ℕ = dot_of e.kind in
      let o : find (part_of (was e) s.position (length e.old - s.cut)) ≡ None = ap find (ap₂ (part_of (was e)) at n ∙ part_mid e.x e.old e.y) ∙ no_dot e.kind e.old (λ number. (ok.no_dots number).0) in
      let q : find (part_of (now e) s.position (length e.new - s.cut)) ≡ None = ap find (ap₂ (part_of (now e)) at m ∙ part_mid e.x e.new e.y) ∙ no_dot e.kind e.new (λ number. (ok.no_dots number).1) in
      both_is e (cut_at p (find (part_of (was e) s.position (length e.old - s.cut))) s) s
      (cut_at p (find (part_of (now e) s.position (length e.new - s.cut))) (retold e [] s)) (retold e [] s)
      (ap (λ o. cut_at p o s) o) (ap (λ o. cut_at p o (retold e [] s)) q) (ahead_of [] s h)
  piece_before p (u ∷ front) s none h =
      let sum = sum_here (u ∷ front) s h in
      let one : s.cut ≤ u.len = omega (arith, h.fits.cut, ap first_len h.rest) in
      let n = u.len - s.cut in
      let within : s.position + n ≤ length e.x = omega (arith, sum, one) in
      let find : List ℕ → Option ℕ = dot_of u.kind in
      let o = find (part_of (was e) s.position n) in
      let same : part_of (now e) s.position n ≡ part_of (was e) s.position n = part_front e.x (e.new ++ e.y) s.position n within ∙ sym (part_front e.x (e.old ++ e.y) s.position n within) in
      let t = cut_at p o s in
      both_is e t t (cut_at p (find (part_of (now e) s.position n)) (retold e (u ∷ front) s)) (retold e (u ∷ front) t)
      refl (ap (λ w. cut_at p (find w) (retold e (u ∷ front) s)) same ∙ cut_retold p o (u ∷ front) s)
      (ahead_of (u ∷ front) t (record {
        rest = cut_rest p o s ∙ h.rest;
        fits = piece_on_fits (was e) was_small p (u ∷ (front ++ old_token e ∷ e.back)) s h.rest none h.fits;
        whole = λ empty. absurd (omega (arith, empty));
        took = piece_took (was e) p (u ∷ (front ++ old_token e ∷ e.back)) s h.took;
        low = subst (All (λ f. f.position ≤ length e.x)) (sym (cut_faults p o s)) h.low;
      }))

  -- ---- nodes and errors

  pub enter_before : (k : SyntaxKind) (b : Bool) (front : List RawToken) (s : Laying) → nat_lt s.depth (2 ^ 64 - 1) ≡ b → Before e front s
      → Both e (enter_on k b s) (enter_on k b (retold e front s))
  enter_before k true front s d h =
      let t = enter_on k true s in
      ahead_of front t (record {
        rest = h.rest;
        fits = enter_on_fits (was e) was_small k true s h.fits;
        whole = h.whole;
        took = subst Took (enter_is k s ∙ ap (λ b. enter_on k b s) d) (enter_took k s h.took);
        low = h.low;
      })
  enter_before k false front s d h = ahead_of front s h

  pub exit_before : (b : Bool) (front : List RawToken) (s : Laying) → nat_lt 0 s.depth ≡ b → Before e front s → Both e (exit_on b s) (exit_on b (retold e front s))
  exit_before true front s d h =
      let t = exit_on true s in
      ahead_of front t (record {
        rest = h.rest;
        fits = exit_on_fits (was e) was_small true s h.fits;
        whole = h.whole;
        took = subst Took (exit_is s ∙ ap (λ b. exit_on b s) d) (exit_took s h.took);
        low = h.low;
      })
  exit_before false front s d h = ahead_of front s h

  pub say_before : (m : ℕ) (front : List RawToken) (s : Laying) → Before e front s → Both e (fault_of m s) (fault_of m (retold e front s))
  say_before m front s h =
      let P : ParserError → Type 0 = λ f. f.position ≤ length e.x in
      let t = fault_of m s in
      let one : ℕ → ParserError = λ n. record { message = m; position = s.position; left = n } in
      let same : length (front ++ new_token e ∷ e.back) ≡ length s.rest = length_both_ways front e.back (new_token e) (old_token e) ∙ sym (ap length h.rest) in
      both_is e t t (fault_of m (retold e front s)) (retold e front t)
      refl (ap (λ n. record s { rest = front ++ new_token e ∷ e.back; faults = s.faults ++ one n ∷ [] }) same)
      (ahead_of front t (record {
        rest = h.rest;
        fits = record { sum = h.fits.sum; cut = h.fits.cut; whole = h.fits.whole; short = h.fits.short };
        whole = h.whole;
        took = h.took;
        low = All-append P s.faults (one (length s.rest) ∷ []) h.low (All-cons P (one (length s.rest)) [] (position_low front s h) (All-nil P));
      }))

  -- ---- white space and comments

  kept_alike : (c : ℕ) → is_trivia e.kind ≡ true → kept_of e.old e.kind c ≡ kept_of e.new e.kind c
  kept_alike c trivia = by (is_comment e.kind) refl
    where
      by : (b : Bool) → is_comment e.kind ≡ b → kept_of e.old e.kind c ≡ kept_of e.new e.kind c
      by true f =
          ap (λ b. if b then one_more c else (if nat_eq c 0 || has_blank_line e.old then 0 else one_more c)) f
          ∙ sym (ap (λ b. if b then one_more c else (if nat_eq c 0 || has_blank_line e.new then 0 else one_more c)) f)
      by false f = ap (λ blank. if is_comment e.kind then one_more c else (if nat_eq c 0 || blank then 0 else one_more c)) (ok.lines trivia f)

  kept_after : (attaching : List SyntaxKind) (o : List ℕ) (c start : ℕ) (m : ℕ) → start ≡ length e.x → length e.x + (length o + length e.y) < 2 ^ 32
      → (fold (λ k t. attached_after (e.x ++ (o ++ e.y)) t k) (record { kept = c; start = start }) (record { kind = e.kind; len = length o } ∷ take m e.back)).kept
      ≡ (fold (λ k t. attached_after e.y t k) (record { kept = kept_of o e.kind c; start = 0 }) (take m e.back)).kept
  kept_after attaching o c start m at room =
      let w = e.x ++ (o ++ e.y) in
      let keep : List ℕ → ℕ → Keep = λ text next. record { kept = kept_of text e.kind c; start = next } in
      let next : later_of start (length o) ≡ 0 + (length e.x + length o) = omega (arith, at, room) in
      let a : Around = record { bytes = length e.x + length o; behind = []; open_nodes = 0; steps = []; faults = [] } in
      let first : attached_after w (record { kind = e.kind; len = length o }) (record { kept = c; start = start }) ≡ keep_amid (length e.x + length o) (keep o 0) =
      ap₂ keep (ap (λ p. part_of w p (length o)) at ∙ part_mid e.x o e.y) next in
      ap (λ (k : Keep). (fold (λ k t. attached_after w t k) k (take m e.back)).kept) first
      ∙ ap (λ (k : Keep). k.kept) (attached_fold e.y w attaching a (back_in e.x o e.y) (omega (arith, room)) (take m e.back) (keep o 0) (omega (arith, sum_split m e.back, ok.cut)))

  kept_folds : (attaching : List SyntaxKind) (front : List RawToken) (n c start : ℕ) → start + sum_len front ≡ length e.x → (length front < n → is_trivia e.kind ≡ true)
      → (fold (λ k t. attached_after (was e) t k) (record { kept = c; start = start }) (take n (front ++ old_token e ∷ e.back))).kept
      ≡ (fold (λ k t. attached_after (now e) t k) (record { kept = c; start = start }) (take n (front ++ new_token e ∷ e.back))).kept
  kept_folds attaching front zero c start at trivia = refl
  kept_folds attaching [] (suc m) c start at trivia =
      kept_after attaching e.old c start m (omega (arith, at)) ok.small
      ∙ ap (λ c. (fold (λ k t. attached_after e.y t k) (record { kept = c; start = 0 }) (take m e.back)).kept) (kept_alike c (trivia (omega arith)))
      ∙ sym (kept_after attaching e.new c start m (omega (arith, at)) ok.new_small)
  kept_folds attaching (u ∷ front) (suc m) c start at trivia =
      let within : start + u.len ≤ length e.x = omega (arith, at) in
      let same : part_of (was e) start u.len ≡ part_of (now e) start u.len = part_front e.x (e.old ++ e.y) start u.len within ∙ sym (part_front e.x (e.new ++ e.y) start u.len within) in
      let next : later_of start u.len ≡ start + u.len = omega (arith, within, ok.small) in
      let keep : List ℕ → ℕ → Keep = λ text next. record { kept = kept_of text u.kind c; start = next } in
      let old_fold : Keep → ℕ = λ k. (fold (λ k t. attached_after (was e) t k) k (take m (front ++ old_token e ∷ e.back))).kept in
      let new_fold : Keep → ℕ = λ k. (fold (λ k t. attached_after (now e) t k) k (take m (front ++ new_token e ∷ e.back))).kept in
      ap old_fold (ap₂ keep same next)
      ∙ kept_folds attaching front m (kept_of (part_of (now e) start u.len) u.kind c) (start + u.len) (omega (arith, at)) (λ far. trivia (omega (arith, far)))
      ∙ sym (ap new_fold (ap (keep (part_of (now e) start u.len)) next))

  attached_alike : (attaching : List SyntaxKind) (front : List RawToken) (n p : ℕ) → p + sum_len front ≡ length e.x → (length front < n → is_trivia e.kind ≡ true)
      → attached (was e) p (take n (front ++ old_token e ∷ e.back)) ≡ attached (now e) p (take n (front ++ new_token e ∷ e.back))
  unfolding attached
  attached_alike attaching front n p at trivia = kept_folds attaching front n 0 p at trivia

  none_attached : (w : List ℕ) (p : ℕ) → attached w p [] ≡ 0
  unfolding attached
  none_attached w p = refl

  kept_before : (attaching : List SyntaxKind) (front : List RawToken) (s : Laying) → Before e front s → (n : ℕ) → n ≡ lead s.rest
      → attached (was e) s.position (take n (front ++ old_token e ∷ e.back)) ≡ attached (now e) s.position (take n (front ++ new_token e ∷ e.back))
  kept_before attaching front s h zero is = none_attached (was e) s.position ∙ sym (none_attached (now e) s.position)
  kept_before attaching front s h (suc n) is =
      let whole : s.cut ≡ 0 = h.fits.whole (omega (arith, is)) in
      let reach : suc n ≡ lead (front ++ old_token e ∷ e.back) = is ∙ ap lead h.rest in
      attached_alike attaching front (suc n) s.position (omega (arith, sum_here front s h, whole))
      (λ far. lead_reaches front e.back (old_token e) (omega (arith, far, reach)))

  pub outside_before : (attaching : List SyntaxKind) (k : SyntaxKind) (front : List RawToken) (s : Laying) → Before e front s
      → outside_of (was e) attaching k s.position s.rest (lead s.rest) ≡ outside_of (now e) attaching k s.position (front ++ new_token e ∷ e.back) (lead s.rest)
  outside_before attaching k front s h =
      let n = lead s.rest in
      ap (λ m. if nat_lt 0 n && attaches_of attaching k then n - m else n)
      (ap (λ ts. attached (was e) s.position (take n ts)) h.rest ∙ kept_before attaching front s h n refl)
