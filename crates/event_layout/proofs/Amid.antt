-- Orders that meet nothing of what is around a part of a text lay the same there.
use Rattle.std.proofs.Common.{◌≡◌, ◌⊎◌, inl, inr, ℕ, zero, suc, ◌+◌, ◌-◌, ◌≤◌, ◌<◌, ◌^◌, List, [], ◌∷◌, ◌++◌, length, take, drop, fold, ap, ap₂, sym, ◌∙◌, refl, arith, subst, Option, Some, None, Bool, true, false, if◌then◌else◌, nat_lt, add-one, append_assoc, append-nil}
use Rattle.std.specs.Prelude.{◌&&◌}
use Rattle.std.proofs.lemmas.Bool.{lt-ltb, ltb-true, ltb-false}
use Rattle.std.proofs.lemmas.List.{drop-take, drop-drop, length-append, length-drop, length-take, take-append-le, drop-append-le, map-append}
use Rattle.syntax_kind.specs.declared.syntax_kind.SyntaxKind.{SyntaxKind}
use Rattle.syntax_kind.specs.Kinds.{is_trivia}
use Rattle.ras_front_end.specs.Reading.{begins, takes, ends}
use Rattle.token_layout.specs.declared.span.Token.{Token as RawToken}
use Rattle.grammar_machine.specs.declared.event.Part.{Part}
use Rattle.grammar_machine.specs.declared.event.Part.TheVariants.{Whole, Dot, Fraction}
use Rattle.event_layout.specs.declared.layout.ParserError.{ParserError}
use Rattle.event_layout.specs.declared.trivia.Keep.{Keep}
use Rattle.event_layout.specs.Trivia.{lead, later_of, part_of, kept_of, attached_after, attached, attaches_of, outside_of}
use Rattle.event_layout.specs.Layout.{Laying, leaf_of, pass_on, pass_of, pass_all_of, pass_trivia_of, joined_len, join_on, join_of, kind_of_part, len_of_part, cut_at, piece_on, piece_of, enter_of, exit_of, exit_all_of, fault_of, added, finish_of, dot_of}
use Rattle.event_layout.specs.Orders.{Order, begin_node, take_joined, take_part, end_node, say, nothing, ordered, walked}
use Rattle.event_layout.specs.Amid.{Around, fault_amid, faults_amid, amid, IsIn, sum_len, first_len, Fits, Stays, AllStay}
use Rattle.event_layout.proofs.Cutting.{dot_found}

-- ---- white space and comments

pub lead_more : (t : RawToken) (ts : List RawToken) → lead (t ∷ ts) ≡ (if is_trivia t.kind then lead ts + 1 else 0)
unfolding lead
lead_more t ts = refl

pub lead_none : lead [] ≡ 0
unfolding lead
lead_none = refl

lead_le_on : (b : Bool) (n m : ℕ) → n ≤ m → (if b then n + 1 else 0) ≤ suc m
lead_le_on true n m h = omega (arith, h)
lead_le_on false n m h = omega arith

pub lead_le : (ts : List RawToken) → lead ts ≤ length ts
lead_le [] = omega (arith, lead_none)
lead_le (t ∷ ts) = omega (arith, lead_more t ts, lead_le_on (is_trivia t.kind) (lead ts) (length ts) (lead_le ts))

lead_both_on : (t : RawToken) (ts us : List RawToken) (b : Bool) → is_trivia t.kind ≡ b
    → ((lead ts ≡ length ts → lead us ≡ 0) → lead (ts ++ us) ≡ lead ts) → (lead (t ∷ ts) ≡ suc (length ts) → lead us ≡ 0) → lead (t ∷ (ts ++ us)) ≡ lead (t ∷ ts)
lead_both_on t ts us true e more h =
    let l : lead (t ∷ ts) ≡ lead ts + 1 = lead_more t ts ∙ ap (λ b. if b then lead ts + 1 else 0) e in
    let m : lead (t ∷ (ts ++ us)) ≡ lead (ts ++ us) + 1 = lead_more t (ts ++ us) ∙ ap (λ b. if b then lead (ts ++ us) + 1 else 0) e in
    m ∙ ap (λ n. n + 1) (more (λ all. h (omega (arith, l, all)))) ∙ sym l
lead_both_on t ts us false e more h =
    lead_more t (ts ++ us) ∙ ap (λ b. if b then lead (ts ++ us) + 1 else 0) e ∙ sym (lead_more t ts ∙ ap (λ b. if b then lead ts + 1 else 0) e)

pub lead_both : (ts us : List RawToken) → (lead ts ≡ length ts → lead us ≡ 0) → lead (ts ++ us) ≡ lead ts
lead_both [] us h = h lead_none ∙ sym lead_none
lead_both (t ∷ ts) us h = lead_both_on t ts us (is_trivia t.kind) refl (lead_both ts us) h

lead_past_on : (t : RawToken) (ts : List RawToken) (b : Bool) → is_trivia t.kind ≡ b → lead (drop (lead ts) ts) ≡ 0 → lead (drop (lead (t ∷ ts)) (t ∷ ts)) ≡ 0
lead_past_on t ts true e h =
    let l : lead (t ∷ ts) ≡ suc (lead ts) = lead_more t ts ∙ ap (λ b. if b then lead ts + 1 else 0) e ∙ add-one (lead ts) in
    ap (λ n. lead (drop n (t ∷ ts))) l ∙ h
lead_past_on t ts false e h =
    let l : lead (t ∷ ts) ≡ 0 = lead_more t ts ∙ ap (λ b. if b then lead ts + 1 else 0) e in
    ap (λ n. lead (drop n (t ∷ ts))) l ∙ l

-- behind them comes none
pub lead_past : (ts : List RawToken) → lead (drop (lead ts) ts) ≡ 0
lead_past [] = ap (λ n. lead (drop n [])) lead_none ∙ lead_none
lead_past (t ∷ ts) = lead_past_on t ts (is_trivia t.kind) refl (lead_past ts)

-- ---- lengths

pub first_le : (ts : List RawToken) → first_len ts ≤ sum_len ts
first_le [] = omega arith
first_le (t ∷ ts) = omega arith

pub sum_split : (n : ℕ) (ts : List RawToken) → sum_len (take n ts) + sum_len (drop n ts) ≡ sum_len ts
sum_split zero ts = omega arith
sum_split (suc n) [] = omega arith
sum_split (suc n) (t ∷ ts) = omega (arith, sum_split n ts)

fold_len : (a : ℕ) (ts : List RawToken) → a + sum_len ts < 2 ^ 32 → fold (λ n t. later_of n t.len) a ts ≡ a + sum_len ts
fold_len a [] h = omega arith
fold_len a (t ∷ ts) h =
    let e : later_of a t.len ≡ a + t.len = omega (arith, h) in
    ap (λ n. fold (λ n t. later_of n t.len) n ts) e ∙ fold_len (a + t.len) ts (omega (arith, h)) ∙ omega arith

pub joined_is : (a : ℕ) (ts : List RawToken) → a + sum_len ts < 2 ^ 32 → joined_len a ts ≡ a + sum_len ts
unfolding joined_len
joined_is a ts h = fold_len a ts h

on_less : (m n : ℕ) (us : List RawToken) (b : Bool) → nat_lt m n ≡ b → (m < n → us ≡ []) → (n ≤ m) ⊎ (us ≡ [])
on_less m n us true e h = inr (h (ltb-true m n e))
on_less m n us false e h = inl (ltb-false m n e)

take_both : (n : ℕ) (ts us : List RawToken) → (n ≤ length ts) ⊎ (us ≡ []) → take n (ts ++ us) ≡ take n ts
take_both n ts us (inl h) = take-append-le n ts us h
take_both n ts us (inr h) = ap (λ z. take n (ts ++ z)) h ∙ ap (take n) (append-nil ts)

drop_both : (n : ℕ) (ts us : List RawToken) → (n ≤ length ts) ⊎ (us ≡ []) → drop n (ts ++ us) ≡ drop n ts ++ us
drop_both n ts us (inl h) = drop-append-le n ts us h
drop_both n ts us (inr h) = ap (λ z. drop n (ts ++ z)) h ∙ ap (drop n) (append-nil ts) ∙ sym (append-nil (drop n ts)) ∙ ap (λ z. drop n ts ++ z) (sym h)

take_short : (n m : ℕ) (s : List ℕ) → n ≤ m → take n (take m s) ≡ take n s
take_short zero m s h = refl
take_short (suc n) zero s h = absurd (omega (arith, h))
take_short (suc n) (suc m) [] h = refl
take_short (suc n) (suc m) (x ∷ s) h = ap (λ l. x ∷ l) (take_short n m s (omega (arith, h)))

-- ---- what an order leaves

pub pass_on_rest : (ts : List RawToken) (s : Laying) → s.rest ≡ ts → (pass_on ts s).rest ≡ drop 1 ts
pass_on_rest [] s e = e
pass_on_rest (t ∷ ts) s e = refl

pub passed_rest : (n : ℕ) (s : Laying) → (pass_all_of n s).rest ≡ drop n s.rest
unfolding pass_all_of
passed_rest zero s = refl
passed_rest (suc n) s =
    pass_on_rest (pass_all_of n s).rest (pass_all_of n s) refl ∙ ap (drop 1) (passed_rest n s) ∙ drop-drop 1 n s.rest ∙ ap (λ m. drop m s.rest) (add-one n)

pass_on_depth : (ts : List RawToken) (s : Laying) → (pass_on ts s).depth ≡ s.depth
pass_on_depth [] s = refl
pass_on_depth (t ∷ ts) s = refl

pub passed_depth : (n : ℕ) (s : Laying) → (pass_all_of n s).depth ≡ s.depth
unfolding pass_all_of
passed_depth zero s = refl
passed_depth (suc n) s = pass_on_depth (pass_all_of n s).rest (pass_all_of n s) ∙ passed_depth n s

abbrev pub enter_on : SyntaxKind → Bool → Laying → Laying
enter_on k b s = if b then record s { depth = s.depth + 1; steps = s.steps ++ begins k ∷ [] } else s

abbrev pub exit_on : Bool → Laying → Laying
exit_on b s = if b then record s { depth = s.depth - 1; steps = s.steps ++ ends ∷ [] } else s

pub enter_is : (k : SyntaxKind) (s : Laying) → enter_of k s ≡ enter_on k (nat_lt s.depth (2 ^ 64 - 1)) s
enter_is k s = refl

pub exit_is : (s : Laying) → exit_of s ≡ exit_on (nat_lt 0 s.depth) s
exit_is s = refl

enter_on_rest : (k : SyntaxKind) (b : Bool) (s : Laying) → (enter_on k b s).rest ≡ s.rest
enter_on_rest k true s = refl
enter_on_rest k false s = refl

pub entered_rest : (k : SyntaxKind) (s : Laying) → (enter_of k s).rest ≡ s.rest
entered_rest k s = ap (λ (t : Laying). t.rest) (enter_is k s) ∙ enter_on_rest k (nat_lt s.depth (2 ^ 64 - 1)) s

pub later_sum : (c n : ℕ) → c + n < 2 ^ 32 → later_of c n ≡ c + n
later_sum c n h = omega (arith, h)

on_le : (b : Bool) (m n : ℕ) → (if b then m - n else m) ≤ m
on_le true m n = omega arith
on_le false m n = omega arith

pub outside_le : (text : List ℕ) (attaching : List SyntaxKind) (k : SyntaxKind) (start : ℕ) (ts : List RawToken) (count : ℕ) → outside_of text attaching k start ts count ≤ count
outside_le text attaching k start ts count = on_le (nat_lt 0 count && attaches_of attaching k) count (attached text start (take count ts))

pub len_part_le : (p : Part) (dot : ℕ) → len_of_part p dot ≤ dot + 1
len_part_le Whole dot = omega arith
len_part_le Dot dot = omega arith
len_part_le Fraction dot = omega arith

abbrev pub keep_amid : ℕ → Keep → Keep
keep_amid bytes k = record k { start = k.start + bytes }

module _ (text : List ℕ) (small : length text < 2 ^ 32) where
  -- ---- what stays true of the part by itself

  pub pass_on_fits : (ts : List RawToken) (s : Laying) → s.rest ≡ ts → Fits text s → Fits text (pass_on ts s)
  pass_on_fits [] s e h = h
  pass_on_fits (t ∷ ts) s e h =
      let all : sum_len s.rest ≡ t.len + sum_len ts = ap sum_len e in
      let one : first_len s.rest ≡ t.len = ap first_len e in
      record {
        sum = omega (arith, h.sum, h.cut, all, one, small);
        cut = omega arith;
        whole = λ more. refl;
        short = omega (arith, h.short, all);
      }

  pub pass_all_fits : (n : ℕ) (s : Laying) → Fits text s → Fits text (pass_all_of n s)
  unfolding pass_all_of
  pass_all_fits zero s h = h
  pass_all_fits (suc n) s h = pass_on_fits (pass_all_of n s).rest (pass_all_of n s) refl (pass_all_fits n s h)

  pub join_on_fits : (k : SyntaxKind) (more : ℕ) (ts : List RawToken) (s : Laying) → s.rest ≡ ts → Fits text s → Fits text (join_on k more ts s)
  join_on_fits k more [] s e h = h
  join_on_fits k more (t ∷ ts) s e h =
      let all : sum_len s.rest ≡ t.len + sum_len ts = ap sum_len e in
      let one : first_len s.rest ≡ t.len = ap first_len e in
      let both = sum_split more ts in
      let n : joined_len (t.len - s.cut) (take more ts) ≡ (t.len - s.cut) + sum_len (take more ts) = joined_is (t.len - s.cut) (take more ts) (omega (arith, both, all, h.short, small)) in
      record {
        sum = omega (arith, h.sum, h.cut, all, one, small, both, n);
        cut = omega arith;
        whole = λ more. refl;
        short = omega (arith, h.short, all, both);
      }

  pub cut_at_fits : (p : Part) (o : Option ℕ) (t : RawToken) (ts : List RawToken) (s : Laying) → s.rest ≡ t ∷ ts → lead s.rest ≡ 0
      → dot_of t.kind (part_of text s.position (t.len - s.cut)) ≡ o → Fits text s → Fits text (cut_at p o s)
  cut_at_fits p None t ts s e none f h = h
  cut_at_fits p (Some dot) t ts s e none f h =
      let all : sum_len s.rest ≡ t.len + sum_len ts = ap sum_len e in
      let one : first_len s.rest ≡ t.len = ap first_len e in
      let found = dot_found t.kind (part_of text s.position (t.len - s.cut)) dot f in
      let most = length-take (t.len - s.cut) (drop s.position text) in
      let n = len_part_le p dot in
      let cut_is = later_sum s.cut (len_of_part p dot) (omega (arith, found.0, most, n, h.cut, one, all, h.short, small)) in
      let at = later_sum s.position (len_of_part p dot) (omega (arith, found.0, most, n, h.cut, h.sum, one, all, small)) in
      record {
        sum = omega (arith, h.sum, cut_is, at);
        cut = omega (arith, cut_is, found.0, most, n, h.cut, one);
        whole = λ more. absurd (omega (arith, more, none));
        short = h.short;
      }

  pub piece_on_fits : (p : Part) (ts : List RawToken) (s : Laying) → s.rest ≡ ts → lead s.rest ≡ 0 → Fits text s → Fits text (piece_on text p ts s)
  piece_on_fits p [] s e none h = h
  piece_on_fits p (t ∷ ts) s e none h = cut_at_fits p (dot_of t.kind (part_of text s.position (t.len - s.cut))) t ts s e none refl h

  pub enter_on_fits : (k : SyntaxKind) (b : Bool) (s : Laying) → Fits text s → Fits text (enter_on k b s)
  enter_on_fits k true s h = record { sum = h.sum; cut = h.cut; whole = h.whole; short = h.short }
  enter_on_fits k false s h = h

  pub enter_fits : (k : SyntaxKind) (s : Laying) → Fits text s → Fits text (enter_of k s)
  enter_fits k s h = subst (Fits text) (sym (enter_is k s)) (enter_on_fits k (nat_lt s.depth (2 ^ 64 - 1)) s h)

  pub exit_on_fits : (b : Bool) (s : Laying) → Fits text s → Fits text (exit_on b s)
  exit_on_fits true s h = record { sum = h.sum; cut = h.cut; whole = h.whole; short = h.short }
  exit_on_fits false s h = h

  pub trivia_none : (s : Laying) → lead (pass_trivia_of s).rest ≡ 0
  trivia_none s = ap lead (passed_rest (lead s.rest) s) ∙ lead_past s.rest

  pub ordered_fits : (attaching : List SyntaxKind) (o : Order) (s : Laying) → Fits text s → Fits text (ordered text attaching o s)
  ordered_fits attaching (begin_node k) s h =
      let out = outside_of text attaching k s.position s.rest (lead s.rest) in
      pass_all_fits (lead s.rest - out) (enter_of k (pass_all_of out s)) (enter_fits k (pass_all_of out s) (pass_all_fits out s h))
  ordered_fits attaching (take_joined k more) s h = join_on_fits k more (pass_trivia_of s).rest (pass_trivia_of s) refl (pass_all_fits (lead s.rest) s h)
  ordered_fits attaching (take_part p) s h = piece_on_fits p (pass_trivia_of s).rest (pass_trivia_of s) refl (trivia_none s) (pass_all_fits (lead s.rest) s h)
  ordered_fits attaching end_node s h = subst (Fits text) (sym (exit_is s)) (exit_on_fits (nat_lt 0 s.depth) s h)
  ordered_fits attaching (say m) s h = record { sum = h.sum; cut = h.cut; whole = h.whole; short = h.short }
  ordered_fits attaching nothing s h = h

  pub walked_fits : (attaching : List SyntaxKind) (os : List Order) (s : Laying) → Fits text s → Fits text (walked text attaching os s)
  walked_fits attaching [] s h = h
  walked_fits attaching (o ∷ os) s h = walked_fits attaching os (ordered text attaching o s) (ordered_fits attaching o s h)

module _ (text whole : List ℕ) (attaching : List SyntaxKind) (a : Around) (inside : IsIn text a.bytes whole) (room : length text + a.bytes < 2 ^ 32) where
  small : length text < 2 ^ 32
  small = omega (arith, room)

  -- ---- the text

  read : (p n : ℕ) → p + n ≤ length text → part_of whole (p + a.bytes) n ≡ part_of text p n
  read p n h =
      let z = drop a.bytes whole in
      let m = length text - p in
      let sum : p + m ≡ length text = omega (arith, h) in
      let turned : p + a.bytes ≡ a.bytes + p = omega arith in
      let there : drop (p + a.bytes) whole ≡ drop p z = ap (λ q. drop q whole) turned ∙ sym (drop-drop p a.bytes whole) in
      let here : drop p text ≡ take m (drop p z) = ap (drop p) (sym inside) ∙ ap (λ l. drop p (take l z)) (sym sum) ∙ drop-take p m z in
      ap (take n) there ∙ sym (ap (take n) here ∙ take_short n m (drop p z) (omega (arith, h)))

  later : (p n : ℕ) → p + n ≤ length text → later_of (p + a.bytes) n ≡ later_of p n + a.bytes
  later p n h = omega (arith, h, room)

  attached_step : (t : RawToken) (k : Keep) → k.start + t.len ≤ length text → attached_after whole t (keep_amid a.bytes k) ≡ keep_amid a.bytes (attached_after text t k)
  attached_step t k h =
      let next : List ℕ → ℕ → Keep = λ w start. record { kept = kept_of w t.kind k.kept; start = start } in
      ap₂ next (read k.start t.len h) (later k.start t.len h)

  pub attached_fold : (ts : List RawToken) (k : Keep) → k.start + sum_len ts ≤ length text
      → fold (λ k t. attached_after whole t k) (keep_amid a.bytes k) ts ≡ keep_amid a.bytes (fold (λ k t. attached_after text t k) k ts)
  attached_fold [] k h = refl
  attached_fold (t ∷ ts) k h =
      ap (λ k. fold (λ k t. attached_after whole t k) k ts) (attached_step t k (omega (arith, h)))
      ∙ attached_fold ts (attached_after text t k) (omega (arith, h))

  attached_in : (p : ℕ) (ts : List RawToken) → p + sum_len ts ≤ length text → attached whole (p + a.bytes) ts ≡ attached text p ts
  unfolding attached
  attached_in p ts h = ap (λ (k : Keep). k.kept) (attached_fold ts (record { kept = 0; start = p }) h)

  lead_room : (s : Laying) (n : ℕ) → n ≡ lead s.rest → Fits text s → s.position + sum_len (take n s.rest) ≤ length text
  lead_room s zero e h = omega (arith, h.sum, h.cut, first_le s.rest)
  lead_room s (suc n) e h = omega (arith, h.sum, h.whole (omega (arith, e)), sum_split (suc n) s.rest)

  pub outside_in : (k : SyntaxKind) (s : Laying) → Fits text s → (lead s.rest ≡ length s.rest → lead a.behind ≡ 0)
      → outside_of whole attaching k (s.position + a.bytes) (s.rest ++ a.behind) (lead s.rest) ≡ outside_of text attaching k s.position s.rest (lead s.rest)
  outside_in k s h clear =
      let n = lead s.rest in
      let same : take n (s.rest ++ a.behind) ≡ take n s.rest = take-append-le n s.rest a.behind (lead_le s.rest) in
      let kept : attached whole (s.position + a.bytes) (take n (s.rest ++ a.behind)) ≡ attached text s.position (take n s.rest) =
      ap (attached whole (s.position + a.bytes)) same ∙ attached_in s.position (take n s.rest) (lead_room s n refl h) in
      ap (λ m. if nat_lt 0 n && attaches_of attaching k then n - m else n) kept

  -- ---- the orders

  leaf_in : (k : SyntaxKind) (n : ℕ) (rest : List RawToken) (cut : ℕ) (s : Laying) → s.position + n ≤ length text
      → leaf_of k n (record (amid a s) { rest = rest ++ a.behind; cut = cut }) ≡ amid a (leaf_of k n (record s { rest = rest; cut = cut }))
  leaf_in k n rest cut s h =
      ap₂ (λ p steps. record (amid a s) { rest = rest ++ a.behind; cut = cut; position = p; steps = steps }) (later s.position n h) (append_assoc a.steps s.steps (takes k n ∷ []))

  pub pass_on_in : (ts : List RawToken) (s : Laying) → s.rest ≡ ts → 0 < length ts → Fits text s → pass_on (ts ++ a.behind) (amid a s) ≡ amid a (pass_on ts s)
  pass_on_in [] s e more h = absurd (omega (arith, more))
  pass_on_in (t ∷ ts) s e more h =
      let all : sum_len s.rest ≡ t.len + sum_len ts = ap sum_len e in
      let one : first_len s.rest ≡ t.len = ap first_len e in
      leaf_in t.kind (t.len - s.cut) ts 0 s (omega (arith, h.sum, h.cut, all, one))

  pub pass_all_in : (n : ℕ) (s : Laying) → n ≤ length s.rest → Fits text s → pass_all_of n (amid a s) ≡ amid a (pass_all_of n s)
  unfolding pass_all_of
  pass_all_in zero s le h = refl
  pass_all_in (suc n) s le h =
      let t = pass_all_of n s in
      let some : 0 < length t.rest = omega (arith, le, ap length (passed_rest n s), length-drop n s.rest) in
      ap pass_of (pass_all_in n s (omega (arith, le)) h) ∙ pass_on_in t.rest t refl some (pass_all_fits text small n s h)

  trivia_in : (s : Laying) → (lead s.rest ≡ length s.rest → lead a.behind ≡ 0) → Fits text s → pass_trivia_of (amid a s) ≡ amid a (pass_trivia_of s)
  trivia_in s clear h = ap (λ n. pass_all_of n (amid a s)) (lead_both s.rest a.behind clear) ∙ pass_all_in (lead s.rest) s (lead_le s.rest) h

  pub join_on_in : (k : SyntaxKind) (more : ℕ) (ts : List RawToken) (s : Laying) → s.rest ≡ ts → (length ts < more + 1 → a.behind ≡ []) → Fits text s
      → join_on k more (ts ++ a.behind) (amid a s) ≡ amid a (join_on k more ts s)
  join_on_in k more [] s e left h = ap (λ ts. join_on k more ts (amid a s)) (left (omega arith))
  join_on_in k more (t ∷ ts) s e left h =
      let all : sum_len s.rest ≡ t.len + sum_len ts = ap sum_len e in
      let one : first_len s.rest ≡ t.len = ap first_len e in
      let enough = on_less (length ts) more a.behind (nat_lt (length ts) more) refl (λ less. left (omega (arith, less))) in
      let n = joined_len (t.len - s.cut) (take more ts) in
      let n_is = joined_is (t.len - s.cut) (take more ts) (omega (arith, sum_split more ts, all, h.short, small)) in
      ap₂ (λ us vs. leaf_of k (joined_len (t.len - s.cut) us) (record (amid a s) { rest = vs; cut = 0 })) (take_both more ts a.behind enough) (drop_both more ts a.behind enough)
      ∙ leaf_in k n (drop more ts) 0 s (omega (arith, h.sum, h.cut, all, one, sum_split more ts, n_is))

  cut_at_in : (p : Part) (k : SyntaxKind) (o : Option ℕ) (n : ℕ) (s : Laying) → dot_of k (part_of text s.position n) ≡ o → s.position + n ≤ length text
      → cut_at p o (amid a s) ≡ amid a (cut_at p o s)
  cut_at_in p k None n s f h = refl
  cut_at_in p k (Some dot) n s f h =
      let found = dot_found k (part_of text s.position n) dot f in
      let most = length-take n (drop s.position text) in
      leaf_in (kind_of_part p) (len_of_part p dot) s.rest (later_of s.cut (len_of_part p dot)) s (omega (arith, found.0, most, len_part_le p dot, h))

  pub piece_on_in : (p : Part) (ts : List RawToken) (s : Laying) → s.rest ≡ ts → (length ts < 1 → a.behind ≡ []) → Fits text s
      → piece_on whole p (ts ++ a.behind) (amid a s) ≡ amid a (piece_on text p ts s)
  piece_on_in p [] s e left h = ap (λ ts. piece_on whole p ts (amid a s)) (left (omega arith))
  piece_on_in p (t ∷ ts) s e left h =
      let all : sum_len s.rest ≡ t.len + sum_len ts = ap sum_len e in
      let one : first_len s.rest ≡ t.len = ap first_len e in
      let n = t.len - s.cut in
      let within : s.position + n ≤ length text = omega (arith, h.sum, h.cut, all, one) in
      ap (λ w. cut_at p (dot_of t.kind w) (amid a s)) (read s.position n within)
      ∙ cut_at_in p t.kind (dot_of t.kind (part_of text s.position n)) n s refl within

  enter_on_in : (k : SyntaxKind) (b : Bool) (s : Laying) → enter_on k b (amid a s) ≡ amid a (enter_on k b s)
  enter_on_in k true s =
      let deeper : s.depth + a.open_nodes + 1 ≡ s.depth + 1 + a.open_nodes = omega arith in
      ap₂ (λ d steps. record (amid a s) { depth = d; steps = steps }) deeper (append_assoc a.steps s.steps (begins k ∷ []))
  enter_on_in k false s = refl

  same_enter : (d n : ℕ) → (0 < n → d + n < 2 ^ 64 - 1) → nat_lt (d + n) (2 ^ 64 - 1) ≡ nat_lt d (2 ^ 64 - 1)
  same_enter d zero h = let e : d + zero ≡ d = omega arith in ap (λ d. nat_lt d (2 ^ 64 - 1)) e
  same_enter d (suc n) h =
      let low : d + suc n < 2 ^ 64 - 1 = h (omega arith) in
      lt-ltb (d + suc n) (2 ^ 64 - 1) low ∙ sym (lt-ltb d (2 ^ 64 - 1) (omega (arith, low)))

  pub enter_in : (k : SyntaxKind) (s : Laying) → (0 < a.open_nodes → s.depth + a.open_nodes < 2 ^ 64 - 1) → enter_of k (amid a s) ≡ amid a (enter_of k s)
  enter_in k s h =
      enter_is k (amid a s) ∙ ap (λ b. enter_on k b (amid a s)) (same_enter s.depth a.open_nodes h)
      ∙ enter_on_in k (nat_lt s.depth (2 ^ 64 - 1)) s ∙ ap (amid a) (sym (enter_is k s))

  exit_on_in : (b : Bool) (s : Laying) → nat_lt 0 s.depth ≡ b → exit_on b (amid a s) ≡ amid a (exit_on b s)
  exit_on_in true s e =
      let some : 0 < s.depth = ltb-true 0 s.depth e in
      let higher : s.depth + a.open_nodes - 1 ≡ s.depth - 1 + a.open_nodes = omega (arith, some) in
      ap₂ (λ d steps. record (amid a s) { depth = d; steps = steps }) higher (append_assoc a.steps s.steps (ends ∷ []))
  exit_on_in false s e = refl

  same_exit : (d n : ℕ) → (0 < n → 0 < d) → nat_lt 0 (d + n) ≡ nat_lt 0 d
  same_exit d zero h = let e : d + zero ≡ d = omega arith in ap (nat_lt 0) e
  same_exit d (suc n) h = lt-ltb 0 (d + suc n) (omega arith) ∙ sym (lt-ltb 0 d (h (omega arith)))

  pub exit_in : (s : Laying) → (0 < a.open_nodes → 0 < s.depth) → exit_of (amid a s) ≡ amid a (exit_of s)
  exit_in s h =
      exit_is (amid a s) ∙ ap (λ b. exit_on b (amid a s)) (same_exit s.depth a.open_nodes h)
      ∙ exit_on_in (nat_lt 0 s.depth) s refl ∙ ap (amid a) (sym (exit_is s))

  begin_in : (k : SyntaxKind) (s : Laying) → Fits text s → (lead s.rest ≡ length s.rest → lead a.behind ≡ 0) → (0 < a.open_nodes → s.depth + a.open_nodes < 2 ^ 64 - 1)
      → ordered whole attaching (begin_node k) (amid a s) ≡ amid a (ordered text attaching (begin_node k) s)
  begin_in k s h clear low =
      let n = lead s.rest in
      let out = outside_of text attaching k s.position s.rest n in
      let le = outside_le text attaching k s.position s.rest n in
      let most = lead_le s.rest in
      let t = pass_all_of out s in
      let u = enter_of k t in
      let left : length u.rest ≡ length s.rest - out = ap length (entered_rest k t ∙ passed_rest out s) ∙ length-drop out s.rest in
      let deep : t.depth ≡ s.depth = passed_depth out s in
      ap (λ n. pass_all_of (n - outside_of whole attaching k (s.position + a.bytes) (s.rest ++ a.behind) n) (enter_of k (pass_all_of (outside_of whole attaching k (s.position + a.bytes) (s.rest ++ a.behind) n) (amid a s)))) (lead_both s.rest a.behind clear)
      ∙ ap (λ out. pass_all_of (n - out) (enter_of k (pass_all_of out (amid a s)))) (outside_in k s h clear)
      ∙ ap (λ t. pass_all_of (n - out) (enter_of k t)) (pass_all_in out s (omega (arith, le, most)) h)
      ∙ ap (pass_all_of (n - out)) (enter_in k t (λ some. omega (arith, deep, low some)))
      ∙ pass_all_in (n - out) u (omega (arith, left, most, le)) (enter_fits text small k t (pass_all_fits text small out s h))

  pub say_in : (m : ℕ) (s : Laying) → fault_of m (amid a s) ≡ amid a (fault_of m s)
  say_in m s =
      let f : ParserError = record { message = m; position = s.position; left = length s.rest } in
      let more = length a.behind in
      let here : ℕ → ParserError = λ left. record { message = m; position = s.position + a.bytes; left = left } in
      ap (λ fs. record (amid a s) { faults = fs })
      (ap (λ n. (a.faults ++ faults_amid a.bytes more s.faults) ++ here n ∷ []) (length-append s.rest a.behind)
      ∙ append_assoc a.faults (faults_amid a.bytes more s.faults) (fault_amid a.bytes more f ∷ [])
      ∙ ap (λ fs. a.faults ++ fs) (sym (map-append (fault_amid a.bytes more) s.faults (f ∷ []))))

  empty_lead : a.behind ≡ [] → lead a.behind ≡ 0
  empty_lead e = ap lead e ∙ lead_none

  ordered_in : (o : Order) (s : Laying) → Fits text s → Stays a o s → ordered whole attaching o (amid a s) ≡ amid a (ordered text attaching o s)
  ordered_in (begin_node k) s h stays = begin_in k s h stays.0 stays.1
  ordered_in (take_joined k more) s h stays =
      let t = pass_trivia_of s in
      let left : length t.rest ≡ length s.rest - lead s.rest = ap length (passed_rest (lead s.rest) s) ∙ length-drop (lead s.rest) s.rest in
      ap (join_of k more) (trivia_in s (λ e. empty_lead (stays (omega (arith, e)))) h)
      ∙ join_on_in k more t.rest t refl (λ less. stays (omega (arith, less, left, lead_le s.rest))) (pass_all_fits text small (lead s.rest) s h)
  ordered_in (take_part p) s h stays =
      let t = pass_trivia_of s in
      let left : length t.rest ≡ length s.rest - lead s.rest = ap length (passed_rest (lead s.rest) s) ∙ length-drop (lead s.rest) s.rest in
      ap (piece_of whole p) (trivia_in s (λ e. empty_lead (stays (omega (arith, e)))) h)
      ∙ piece_on_in p t.rest t refl (λ less. stays (omega (arith, less, left, lead_le s.rest))) (pass_all_fits text small (lead s.rest) s h)
  ordered_in end_node s h stays = exit_in s stays
  ordered_in (say m) s h stays = say_in m s
  ordered_in nothing s h stays = refl

  pub walked_amid : (os : List Order) (s : Laying) → Fits text s → AllStay text attaching a os s → walked whole attaching os (amid a s) ≡ amid a (walked text attaching os s)
  walked_amid [] s h stays = refl
  walked_amid (o ∷ os) s h stays =
      ap (walked whole attaching os) (ordered_in o s h stays.0)
      ∙ walked_amid os (ordered text attaching o s) (ordered_fits text small attaching o s h) stays.1

  exit_all_in : (n : ℕ) (s : Laying) → (0 < a.open_nodes → ⊥) → exit_all_of n (amid a s) ≡ amid a (exit_all_of n s)
  unfolding exit_all_of
  exit_all_in zero s top = refl
  exit_all_in (suc n) s top = ap exit_of (exit_all_in n s top) ∙ exit_in (exit_all_of n s) (λ some. absurd (top some))

  -- the end of the whole
  pub finish_amid : (s : Laying) → a.behind ≡ [] → (0 < a.open_nodes → ⊥) → Fits text s → finish_of (amid a s) ≡ amid a (finish_of s)
  finish_amid s none top h =
      let t = pass_all_of (length s.rest) s in
      let u = exit_all_of t.depth t in
      let all : length (s.rest ++ a.behind) ≡ length s.rest = omega (arith, length-append s.rest a.behind, ap length none) in
      let level : t.depth + a.open_nodes ≡ t.depth = level_is t.depth a.open_nodes top in
      let passed : pass_all_of (length (s.rest ++ a.behind)) (amid a s) ≡ amid a t = ap (λ n. pass_all_of n (amid a s)) all ∙ pass_all_in (length s.rest) s (omega arith) h in
      ap (λ (t : Laying). added ends (exit_all_of t.depth t)) passed
      ∙ ap (λ n. added ends (exit_all_of n (amid a t))) level ∙ ap (added ends) (exit_all_in t.depth t top)
      ∙ ap (λ steps. record (amid a u) { steps = steps }) (append_assoc a.steps u.steps (ends ∷ []))
    where
      level_is : (d n : ℕ) → (0 < n → ⊥) → d + n ≡ d
      level_is d zero top = omega arith
      level_is d (suc n) top = absurd (top (omega arith))
