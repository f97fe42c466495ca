-- What each event adds to the steps, but for white space and comments.
use Rattle.std.proofs.Common.{◌≡◌, ℕ, zero, suc, ◌+◌, ◌-◌, ◌≤◌, ◌<◌, ◌^◌, min, List, [], ◌∷◌, ◌++◌, length, take, drop, fold, sum_by, ap, sym, ◌∙◌, refl, arith, subst, Option, Some, None, Bool, true, false, not, ◌&&◌, if◌then◌else◌, nat_lt, nat_eq, append_assoc, append-nil}
use Rattle.std.proofs.Math.Nat.{min-eq_left}
use Rattle.std.proofs.lemmas.Bool.{lt-ltb}
use Rattle.std.proofs.lemmas.List.{drop-drop, length-drop, length-take}
use Rattle.std.proofs.lemmas.List.Elements.{filter-append}
use Rattle.std.proofs.lemmas.List.Sums.{sum_by-cons}
use Rattle.syntax_kind.specs.declared.syntax_kind.SyntaxKind.{SyntaxKind}
use Rattle.syntax_kind.specs.Kinds.{is_trivia}
use Rattle.ras_front_end.specs.Reading.{FrontStep, begins, takes, ends}
use Rattle.token_layout.specs.declared.span.Token.{Token as RawToken}
use Rattle.grammar_machine.specs.declared.event.Event.{Event}
use Rattle.grammar_machine.specs.declared.event.Event.TheVariants.{Token, Piece, Node, Error}
use Rattle.grammar_machine.specs.declared.event.Part.{Part}
use Rattle.grammar_machine.specs.declared.event.Part.TheVariants.{Whole, Dot, Fraction}
use Rattle.event_layout.specs.Trivia.{lead, later_of, attached, attaches_of, outside_of}
use Rattle.event_layout.specs.Layout.{Given, Laying, pass_on, pass_all_of, pass_trivia_of, joined_len, join_on, join_of, kind_of_part, len_of_part, cut_at, piece_on, piece_of, enter_of, exit_of, begin_of, obey_of, dot_of}
use Rattle.event_layout.specs.Made.{is_seen, without_trivia, node_of, Left, Made, only_tokens, is_token, trivia_of, after, past_trivia, past, joined_on, joined, part_len, shorter, parted_at, parted_on, parted, made_by}
use Rattle.event_layout.proofs.Cutting.{IsCutFrom, later_is, Goes, goes_on, joined_goes, CutsAt, found_cuts, Parts, parted as cut_parts, dot_found, dot_place}
use Rattle.event_layout.proofs.Keeping.{Kept, pass_all_kept, first_goes, enter_kept}
use Rattle.event_layout.proofs.Walking.{one_node}

-- the tokens that are left, but for so many bytes of the first
abbrev pub left_on : ℕ → List RawToken → List RawToken
left_on c [] = []
left_on c (t ∷ ts) = shorter c t ∷ ts

-- what a state leaves
abbrev pub left_of : List ℕ → Laying → Left
left_of text s = record { tokens = left_on s.cut s.rest; text = drop s.position text }

pub seen_more : (xs ys : List FrontStep) → without_trivia (xs ++ ys) ≡ without_trivia xs ++ without_trivia ys
unfolding without_trivia
seen_more xs ys = filter-append is_seen xs ys

pub told_more : (xs ys : List FrontStep) → only_tokens (xs ++ ys) ≡ only_tokens xs ++ only_tokens ys
unfolding only_tokens
told_more xs ys = filter-append is_token xs ys

pub told_begins : (k : SyntaxKind) → only_tokens (begins k ∷ []) ≡ []
unfolding only_tokens
told_begins k = refl

pub told_end : only_tokens (ends ∷ []) ≡ []
unfolding only_tokens
told_end = refl

pub told_nothing : only_tokens [] ≡ []
unfolding only_tokens
told_nothing = refl

pub seen_begins : (k : SyntaxKind) → without_trivia (begins k ∷ []) ≡ begins k ∷ []
unfolding without_trivia
seen_begins k = refl

pub seen_trivia : (k : SyntaxKind) (n : ℕ) → is_trivia k ≡ true → without_trivia (takes k n ∷ []) ≡ []
unfolding without_trivia
seen_trivia k n e = ap (λ b. if not b then takes k n ∷ [] else []) e

pub seen_end : without_trivia (ends ∷ []) ≡ ends ∷ []
unfolding without_trivia
seen_end = refl

pub seen_nothing : without_trivia [] ≡ []
unfolding without_trivia
seen_nothing = refl

whole : (t : RawToken) → shorter 0 t ≡ t
whole t = let e : t.len - 0 ≡ t.len = omega arith in ap (λ n. record t { len = n }) e

pub all_left : (ts : List RawToken) → left_on 0 ts ≡ ts
all_left [] = refl
all_left (t ∷ ts) = ap (λ u. u ∷ ts) (whole t)

left_is : (ts us : List RawToken) (x y : List ℕ) → ts ≡ us → x ≡ y → ◌≡◌ {A = Left} (record { tokens = ts; text = x }) (record { tokens = us; text = y })
left_is ts us x y e f = cc

-- what is left behind n bytes of the text
behind_is : (text : List ℕ) (p n : ℕ) → length text < 2 ^ 32 → p ≤ length text → n ≤ length (drop p text) → drop (later_of p n) text ≡ drop n (drop p text)
behind_is text p n l within h =
    let sum : later_of p n ≡ p + n = later_is p n (omega (arith, l, within, h, length-drop p text)) in
    ap (λ m. drop m text) sum ∙ sym (drop-drop n p text)

lead_more : (t : RawToken) (ts : List RawToken) → lead (t ∷ ts) ≡ (if is_trivia t.kind then lead ts + 1 else 0)
unfolding lead
lead_more t ts = refl

lead_none : lead [] ≡ 0
unfolding lead
lead_none = refl

first_trivia : (t : RawToken) (ts : List RawToken) (b : Bool) → is_trivia t.kind ≡ b → 0 < lead (t ∷ ts) → is_trivia t.kind ≡ true
first_trivia t ts true e h = e
first_trivia t ts false e h = absurd (omega (arith, h, lead_more t ts ∙ ap (λ b. if b then lead ts + 1 else 0) e))

first_not : (t : RawToken) (ts : List RawToken) (b : Bool) → is_trivia t.kind ≡ b → lead (t ∷ ts) ≡ 0 → is_trivia t.kind ≡ false
first_not t ts false e h = e
first_not t ts true e h = absurd (omega (arith, h, lead_more t ts ∙ ap (λ b. if b then lead ts + 1 else 0) e))

-- nothing to pass
no_lead : (c : ℕ) (ts : List RawToken) (text : List ℕ) → lead ts ≡ 0 → past_trivia (left_on c ts) text ≡ record { tokens = left_on c ts; text = text }
no_lead c [] text e = refl
no_lead c (t ∷ ts) text e =
    let here : Left = record { tokens = shorter c t ∷ ts; text = text } in
    ap (λ b. if b then past_trivia ts (drop (t.len - c) text) else here) (first_not t ts (is_trivia t.kind) refl e)

seen_trivias_on : (t : RawToken) (ts : List RawToken) (b : Bool) → is_trivia t.kind ≡ b → without_trivia (trivia_of ts) ≡ [] → without_trivia (if b then takes t.kind t.len ∷ trivia_of ts else []) ≡ []
seen_trivias_on t ts true e h = seen_more (takes t.kind t.len ∷ []) (trivia_of ts) ∙ ap (λ l. l ++ without_trivia (trivia_of ts)) (seen_trivia t.kind t.len e) ∙ h
seen_trivias_on t ts false e h = seen_nothing

-- white space and comments are not seen
seen_trivias : (ts : List RawToken) → without_trivia (trivia_of ts) ≡ []
seen_trivias [] = seen_nothing
seen_trivias (t ∷ ts) = seen_trivias_on t ts (is_trivia t.kind) refl (seen_trivias ts)

-- no white space and no comment comes next
no_trivia : (c : ℕ) (ts : List RawToken) → lead ts ≡ 0 → trivia_of (left_on c ts) ≡ []
no_trivia c [] e = refl
no_trivia c (t ∷ ts) e = ap (λ b. if b then takes t.kind (t.len - c) ∷ trivia_of ts else []) (first_not t ts (is_trivia t.kind) refl e)

-- the tokens so far, with the white space and comments that come next
abbrev pub told : List ℕ → Laying → List FrontStep
told text s = only_tokens s.steps ++ only_tokens (trivia_of (left_of text s).tokens)

record Passed (text : List ℕ) (n : ℕ) (s t : Laying) : Type 0 where
  seen : without_trivia t.steps ≡ without_trivia s.steps
  tokens : told text t ≡ told text s
  depth : t.depth ≡ s.depth
  left : past (left_of text t) ≡ past (left_of text s)
  leads : lead t.rest ≡ lead s.rest - n

on_le : (b : Bool) (m n : ℕ) → (if b then m - n else m) ≤ m
on_le true m n = omega arith
on_le false m n = omega arith

outside_le : (bytes : List ℕ) (attaching : List SyntaxKind) (k : SyntaxKind) (start : ℕ) (ts : List RawToken) (count : ℕ) → outside_of bytes attaching k start ts count ≤ count
outside_le bytes attaching k start ts count = on_le (nat_lt 0 count && attaches_of attaching k) count (attached bytes start (take count ts))

enter_is : (k : SyntaxKind) (s : Laying) → s.depth < 2 ^ 64 - 1 → enter_of k s ≡ record s { depth = s.depth + 1; steps = s.steps ++ begins k ∷ [] }
enter_is k s h =
    let t : Laying = record s { depth = s.depth + 1; steps = s.steps ++ begins k ∷ [] } in
    ap (λ b. if b then t else s) (lt-ltb s.depth (2 ^ 64 - 1) h)

exit_is : (s : Laying) → 0 < s.depth → exit_of s ≡ record s { depth = s.depth - 1; steps = s.steps ++ ends ∷ [] }
exit_is s h =
    let t : Laying = record s { depth = s.depth - 1; steps = s.steps ++ ends ∷ [] } in
    ap (λ b. if b then t else s) (lt-ltb 0 s.depth h)

-- the length of a token that is made of several
joined_len_is : (more : ℕ) (ts : List RawToken) (a : ℕ) (r : List ℕ) → length r < 2 ^ 32 → Goes a ts r → fold (λ n t. later_of n t.len) a (take more ts) ≡ a + sum_by (λ u. u.len) (take more ts)
joined_len_is zero ts a r l h = omega arith
joined_len_is (suc n) [] a r l h = omega arith
joined_len_is (suc n) (t ∷ ts) a r l h =
    let g = goes_on t ts a r h in
    let e : later_of a t.len ≡ a + t.len = later_is a t.len (omega (arith, g.within, l)) in
    let on = joined_len_is n ts (a + t.len) r l g in
    ap (λ m. fold (λ n t. later_of n t.len) m (take n ts)) e ∙ on ∙ omega (arith, sum_by-cons (λ (u : RawToken). u.len) t (take n ts))

join_len_is : (more : ℕ) (ts : List RawToken) (a : ℕ) (r : List ℕ) → length r < 2 ^ 32 → Goes a ts r → joined_len a (take more ts) ≡ a + sum_by (λ u. u.len) (take more ts)
unfolding joined_len
join_len_is more ts a r l h = joined_len_is more ts a r l h

part_len_is : (p : Part) (dot : ℕ) → dot < 2 ^ 32 - 1 → len_of_part p dot ≡ part_len p dot
part_len_is Whole dot h = min-eq_left (omega (arith, h))
part_len_is Dot dot h =
    let same : min dot (2 ^ 32 - 1) ≡ dot = min-eq_left (omega (arith, h)) in
    ap (λ n. later_of n 1) same ∙ min-eq_left (omega (arith, h))
part_len_is Fraction dot h = refl

record Ready (root : SyntaxKind) (text : List ℕ) (l : Left) (s t : Laying) : Type 0 where
  seen : without_trivia t.steps ≡ without_trivia s.steps
  tokens : only_tokens t.steps ≡ told text s
  depth : t.depth ≡ s.depth
  left : left_of text t ≡ past l
  kept : Kept root text t

-- a state with what is made
record Added (text : List ℕ) (m : Made) (s t : Laying) : Type 0 where
  steps : t.steps ≡ s.steps ++ m.steps
  left : left_of text t ≡ m.left
  depth : t.depth ≡ s.depth

pub record Began (root : SyntaxKind) (text : List ℕ) (k : SyntaxKind) (s t : Laying) : Type 0 where
  pub seen : without_trivia t.steps ≡ without_trivia s.steps ++ begins k ∷ []
  pub tokens : told text t ≡ told text s
  pub depth : t.depth ≡ s.depth + 1
  pub left : past (left_of text t) ≡ past (left_of text s)
  pub kept : Kept root text t

module _ (root : SyntaxKind) (text : List ℕ) (small : length text < 2 ^ 32) where
  cut_here : (s : Laying) (t : RawToken) (ts : List RawToken) → s.rest ≡ t ∷ ts → Kept root text s → IsCutFrom s.cut (t ∷ ts) (drop s.position text)
  cut_here s t ts e h = subst (λ z. IsCutFrom s.cut z (drop s.position text)) e h.ahead

  pass_one : (s : Laying) (ts : List RawToken) → s.rest ≡ ts → 0 < lead ts → Kept root text s → Passed text 1 s (pass_on ts s)
  pass_one s [] e some h = absurd (omega (arith, some, lead_none))
  pass_one s (t ∷ ts) e some h =
      let n = t.len - s.cut in
      let r = drop s.position text in
      let trivia : is_trivia t.kind ≡ true = first_trivia t ts (is_trivia t.kind) refl some in
      let more : lead (t ∷ ts) ≡ lead ts + 1 = lead_more t ts ∙ ap (λ b. if b then lead ts + 1 else 0) trivia in
      let lead_is : lead s.rest ≡ lead (t ∷ ts) = ap lead e in
      let cut = cut_here s t ts e h in
      let stop : Left = record { tokens = shorter s.cut t ∷ ts; text = r } in
      let there : past_trivia (left_on s.cut s.rest) r ≡ past_trivia ts (drop n r) = ap (λ z. past_trivia (left_on s.cut z) r) e ∙ ap (λ b. if b then past_trivia ts (drop n r) else stop) trivia in
      let here : past_trivia (left_on 0 ts) (drop (later_of s.position n) text) ≡ past_trivia ts (drop n r) =
      ap (λ z. past_trivia z (drop (later_of s.position n) text)) (all_left ts) ∙ ap (past_trivia ts) (behind_is text s.position n small h.within cut.1) in
      let next : trivia_of (left_on s.cut s.rest) ≡ takes t.kind n ∷ trivia_of ts = ap (λ z. trivia_of (left_on s.cut z)) e ∙ ap (λ b. if b then takes t.kind n ∷ trivia_of ts else []) trivia in
      record {
        tokens = ap (λ l. l ++ only_tokens (trivia_of (left_on 0 ts))) (told_more s.steps (takes t.kind n ∷ []))
            ∙ append_assoc (only_tokens s.steps) (only_tokens (takes t.kind n ∷ [])) (only_tokens (trivia_of (left_on 0 ts)))
            ∙ ap (λ z. only_tokens s.steps ++ (only_tokens (takes t.kind n ∷ []) ++ only_tokens (trivia_of z))) (all_left ts)
            ∙ ap (λ l. only_tokens s.steps ++ l) (sym (told_more (takes t.kind n ∷ []) (trivia_of ts)) ∙ ap only_tokens (sym next));
        seen = seen_more s.steps (takes t.kind n ∷ []) ∙ ap (λ l. without_trivia s.steps ++ l) (seen_trivia t.kind n trivia) ∙ append-nil (without_trivia s.steps);
        depth = refl;
        left = here ∙ sym there;
        leads = omega (arith, more, lead_is);
      }

  pass_seen : (n : ℕ) (s : Laying) → n ≤ lead s.rest → Kept root text s → Passed text n s (pass_all_of n s)
  unfolding pass_all_of
  pass_seen zero s le h = record { seen = refl; tokens = refl; depth = refl; left = refl; leads = omega arith }
  pass_seen (suc n) s le h =
      let a = pass_all_of n s in
      let x = pass_seen n s (omega (arith, le)) h in
      let y = pass_one a a.rest refl (omega (arith, x.leads, le)) (pass_all_kept root text n s small h) in
      record { seen = y.seen ∙ x.seen; tokens = y.tokens ∙ x.tokens; depth = y.depth ∙ x.depth; left = y.left ∙ x.left; leads = omega (arith, x.leads, y.leads) }

  ready : (s : Laying) (l : Left) → Kept root text s → past (left_of text s) ≡ past l → Ready root text l s (pass_trivia_of s)
  ready s l h e =
      let t = pass_trivia_of s in
      let x = pass_seen (lead s.rest) s (omega arith) h in
      record {
        seen = x.seen;
        tokens = sym (ap (λ l. only_tokens t.steps ++ l) (ap only_tokens (no_trivia t.cut t.rest (omega (arith, x.leads))) ∙ told_nothing) ∙ append-nil (only_tokens t.steps)) ∙ x.tokens;
        depth = x.depth;
        left = sym (no_lead t.cut t.rest (drop t.position text) (omega (arith, x.leads))) ∙ x.left ∙ e;
        kept = pass_all_kept root text (lead s.rest) s small h;
      }

  pub begin_seen : (g : Given) (k : SyntaxKind) (s : Laying) → s.depth < 2 ^ 64 - 1 → Kept root text s → Began root text k s (begin_of g k s)
  begin_seen g k s deep h =
      let out = outside_of g.bytes g.attaching k s.position s.rest (lead s.rest) in
      let le : out ≤ lead s.rest = outside_le g.bytes g.attaching k s.position s.rest (lead s.rest) in
      let a = pass_all_of out s in
      let x = pass_seen out s le h in
      let b : Laying = record a { depth = a.depth + 1; steps = a.steps ++ begins k ∷ [] } in
      let is : enter_of k a ≡ b = enter_is k a (omega (arith, deep, x.depth)) in
      let b_kept : Kept root text b = subst (Kept root text) is (enter_kept root text k a (pass_all_kept root text out s small h)) in
      let inside = lead s.rest - out in
      let y = pass_seen inside b (omega (arith, x.leads)) b_kept in
      let entered : Began root text k s (pass_all_of inside b) = record {
        seen = y.seen ∙ seen_more a.steps (begins k ∷ []) ∙ ap (λ l. l ++ without_trivia (begins k ∷ [])) x.seen ∙ ap (λ l. without_trivia s.steps ++ l) (seen_begins k);
        tokens = y.tokens ∙ ap (λ l. l ++ only_tokens (trivia_of (left_of text a).tokens)) (told_more a.steps (begins k ∷ []) ∙ ap (λ l. only_tokens a.steps ++ l) (told_begins k) ∙ append-nil (only_tokens a.steps)) ∙ x.tokens;
        depth = y.depth ∙ ap (λ n. n + 1) x.depth;
        left = y.left ∙ x.left;
        kept = pass_all_kept root text inside b small b_kept;
      } in
      subst (λ b. Began root text k s (pass_all_of inside b)) (sym is) entered

  rest_short : (p : ℕ) → length (drop p text) < 2 ^ 32
  rest_short p = omega (arith, small, length-drop p text)

  join_added : (k : SyntaxKind) (more : ℕ) (s : Laying) (ts : List RawToken) → s.rest ≡ ts → Kept root text s → Added text (joined_on k more (left_on s.cut ts) (drop s.position text)) s (join_on k more ts s)
  join_added k more s [] e h = record { steps = sym (append-nil s.steps); left = left_is (left_on s.cut s.rest) [] (drop s.position text) (drop s.position text) (ap (left_on s.cut) e) refl; depth = refl }
  join_added k more s (t ∷ ts) e h =
      let r = drop s.position text in
      let first = first_goes s.cut t ts r (cut_here s t ts e h) in
      let goes = joined_goes more ts (t.len - s.cut) r (rest_short s.position) first in
      let n = joined_len (t.len - s.cut) (take more ts) in
      let len : n ≡ (t.len - s.cut) + sum_by (λ u. u.len) (take more ts) = join_len_is more ts (t.len - s.cut) r (rest_short s.position) first in
      record {
        steps = ap (λ n. s.steps ++ takes k n ∷ []) len;
        left = left_is (left_on 0 (drop more ts)) (drop more ts) (drop (later_of s.position n) text) (drop ((t.len - s.cut) + sum_by (λ u. u.len) (take more ts)) r)
            (all_left (drop more ts)) (behind_is text s.position n small h.within goes.within ∙ ap (λ n. drop n r) len);
        depth = refl;
      }

  cut_added : (p : Part) (o : Option ℕ) (s : Laying) (t : RawToken) (ts : List RawToken) → s.rest ≡ t ∷ ts → dot_of t.kind (take (t.len - s.cut) (drop s.position text)) ≡ o → Kept root text s
      → Added text (parted_at p o (shorter s.cut t) ts (drop s.position text)) s (cut_at p o s)
  cut_added p None s t ts e f h = record { steps = sym (append-nil s.steps); left = left_is (left_on s.cut s.rest) (shorter s.cut t ∷ ts) (drop s.position text) (drop s.position text) (ap (left_on s.cut) e) refl; depth = refl }
  cut_added p (Some dot) s t ts e f h =
      let r = drop s.position text in
      let len = t.len - s.cut in
      let here : IsCutFrom s.cut (t ∷ ts) r = cut_here s t ts e h in
      let short : length (take len r) < 2 ^ 32 = omega (arith, rest_short s.position, length-take len r) in
      let found = dot_found t.kind (take len r) dot f in
      let n = len_of_part p dot in
      let is : n ≡ part_len p dot = part_len_is p dot (omega (arith, found.0, short)) in
      let at : CutsAt n (take len r) = found_cuts p dot (take len r) here.2 short (dot_place t.kind (take len r) dot f) in
      let parts : Parts n len r = cut_parts n len r here.1 here.2 at in
      let sum : later_of s.cut n ≡ s.cut + n = later_is s.cut n (omega (arith, parts.within, here.0, h.small)) in
      let less : t.len - later_of s.cut n ≡ (t.len - s.cut) - part_len p dot = omega (arith, sum, is) in
      record {
        steps = ap (λ n. s.steps ++ takes (kind_of_part p) n ∷ []) is;
        left = left_is (left_on (later_of s.cut n) s.rest) (shorter (part_len p dot) (shorter s.cut t) ∷ ts) (drop (later_of s.position n) text) (drop (part_len p dot) r)
            (ap (left_on (later_of s.cut n)) e ∙ ap (λ m. record t { len = m } ∷ ts) less)
            (behind_is text s.position n small h.within (omega (arith, parts.within, here.1)) ∙ ap (λ n. drop n r) is);
        depth = refl;
      }

  piece_added : (p : Part) (s : Laying) (ts : List RawToken) → s.rest ≡ ts → Kept root text s → Added text (parted_on p (left_on s.cut ts) (drop s.position text)) s (piece_on text p ts s)
  piece_added p s [] e h = record { steps = sym (append-nil s.steps); left = left_is (left_on s.cut s.rest) [] (drop s.position text) (drop s.position text) (ap (left_on s.cut) e) refl; depth = refl }
  piece_added p s (t ∷ ts) e h = cut_added p (dot_of t.kind (take (t.len - s.cut) (drop s.position text))) s t ts e refl h

pub past_on : (t : RawToken) (ts : List RawToken) (text : List ℕ) → is_trivia t.kind ≡ true → past_trivia (t ∷ ts) text ≡ past_trivia ts (drop t.len text)
past_on t ts text e =
    let stop : Left = record { tokens = t ∷ ts; text = text } in
    ap (λ b. if b then past_trivia ts (drop t.len text) else stop) e

pub past_stops : (t : RawToken) (ts : List RawToken) (text : List ℕ) → is_trivia t.kind ≡ false → past_trivia (t ∷ ts) text ≡ record { tokens = t ∷ ts; text = text }
past_stops t ts text e =
    let stop : Left = record { tokens = t ∷ ts; text = text } in
    ap (λ b. if b then past_trivia ts (drop t.len text) else stop) e

past_past_on : (t : RawToken) (ts : List RawToken) (text : List ℕ) (b : Bool) → is_trivia t.kind ≡ b → past (past_trivia ts (drop t.len text)) ≡ past_trivia ts (drop t.len text) → past (past_trivia (t ∷ ts) text) ≡ past_trivia (t ∷ ts) text
past_past_on t ts text true e h = ap past (past_on t ts text e) ∙ h ∙ sym (past_on t ts text e)
past_past_on t ts text false e h = ap past (past_stops t ts text e)

pub past_past : (ts : List RawToken) (text : List ℕ) → past (past_trivia ts text) ≡ past_trivia ts text
past_past [] text = refl
past_past (t ∷ ts) text = past_past_on t ts text (is_trivia t.kind) refl (past_past ts (drop t.len text))

past_none_on : (t : RawToken) (ts : List RawToken) (text : List ℕ) (b : Bool) → is_trivia t.kind ≡ b → trivia_of (past_trivia ts (drop t.len text)).tokens ≡ [] → trivia_of (past_trivia (t ∷ ts) text).tokens ≡ []
past_none_on t ts text true e h = ap (λ (l : Left). trivia_of l.tokens) (past_on t ts text e) ∙ h
past_none_on t ts text false e h = ap (λ (l : Left). trivia_of l.tokens) (past_stops t ts text e) ∙ ap (λ b. if b then takes t.kind t.len ∷ trivia_of ts else []) e

pub past_none : (ts : List RawToken) (text : List ℕ) → trivia_of (past_trivia ts text).tokens ≡ []
past_none [] text = refl
past_none (t ∷ ts) text = past_none_on t ts text (is_trivia t.kind) refl (past_none ts (drop t.len text))

-- with no white space and no comment next, none is made
pub after_past : (f : Left → Made) (l : Left) → after (trivia_of (past l).tokens) (f (past (past l))) ≡ f (past l)
after_past f l = ap (λ z. after z (f (past (past l)))) (past_none l.tokens l.text) ∙ ap (λ l. after [] (f l)) (past_past l.tokens l.text)

pub untold : (xs : List FrontStep) (l : Left) → only_tokens xs ≡ [] → only_tokens xs ++ only_tokens (trivia_of (past l).tokens) ≡ []
untold xs l e = ap (λ z. z ++ only_tokens (trivia_of (past l).tokens)) e ∙ ap only_tokens (past_none l.tokens l.text) ∙ told_nothing

-- an event is laid; `behind` is what it makes when no white space and no comment comes next
pub record Obeyed (text : List ℕ) (m behind : Made) (ended : ℕ) (s t : Laying) : Type 0 where
  pub seen : without_trivia t.steps ≡ without_trivia s.steps ++ without_trivia m.steps
  pub tokens : told text t ≡ told text s ++ (only_tokens behind.steps ++ only_tokens (trivia_of behind.left.tokens))
  pub left : past (left_of text t) ≡ past m.left
  pub depth : t.depth + ended ≡ s.depth

added_obeyed : (root : SyntaxKind) (text : List ℕ) (l : Left) (m behind : Made) (s a t : Laying) → behind ≡ m → Ready root text l s a → Added text m a t → Obeyed text (after (trivia_of l.tokens) m) behind 0 s t
added_obeyed root text l m behind s a t e x y = record {
  seen = ap without_trivia y.steps ∙ seen_more a.steps m.steps ∙ ap (λ z. z ++ without_trivia m.steps) x.seen
      ∙ ap (λ z. without_trivia s.steps ++ z) (sym (seen_more (trivia_of l.tokens) m.steps ∙ ap (λ z. z ++ without_trivia m.steps) (seen_trivias l.tokens)));
  tokens = ap (λ z. z ++ only_tokens (trivia_of (left_of text t).tokens)) (ap only_tokens y.steps ∙ told_more a.steps m.steps ∙ ap (λ z. z ++ only_tokens m.steps) x.tokens)
      ∙ ap (λ (l : Left). (told text s ++ only_tokens m.steps) ++ only_tokens (trivia_of l.tokens)) y.left
      ∙ append_assoc (told text s) (only_tokens m.steps) (only_tokens (trivia_of m.left.tokens))
      ∙ ap (λ (m : Made). told text s ++ (only_tokens m.steps ++ only_tokens (trivia_of m.left.tokens))) (sym e);
  left = ap past y.left;
  depth = omega (arith, x.depth, y.depth);
}

module _ (root : SyntaxKind) (g : Given) (small : length g.bytes < 2 ^ 32) where
  piece_obeyed : (p : Part) (last : Bool) (l : Left) (s a : Laying) → Ready root g.bytes l s a
      → Obeyed g.bytes (after (trivia_of l.tokens) (if last then joined (kind_of_part p) 0 (past l) else parted p (past l)))
      (after (trivia_of (past l).tokens) (if last then joined (kind_of_part p) 0 (past (past l)) else parted p (past (past l)))) 0 s (if last then join_of (kind_of_part p) 0 a else piece_of g.bytes p a)
  piece_obeyed p true l s a x =
      added_obeyed root g.bytes l (joined (kind_of_part p) 0 (past l)) (after (trivia_of (past l).tokens) (joined (kind_of_part p) 0 (past (past l)))) s a (join_of (kind_of_part p) 0 a) (after_past (joined (kind_of_part p) 0) l) x
      (subst (λ l. Added g.bytes (joined (kind_of_part p) 0 l) a (join_of (kind_of_part p) 0 a)) x.left (join_added root g.bytes small (kind_of_part p) 0 a a.rest refl x.kept))
  piece_obeyed p false l s a x =
      added_obeyed root g.bytes l (parted p (past l)) (after (trivia_of (past l).tokens) (parted p (past (past l)))) s a (piece_of g.bytes p a) (after_past (parted p) l) x
      (subst (λ l. Added g.bytes (parted p l) a (piece_of g.bytes p a)) x.left (piece_added root g.bytes small p a a.rest refl x.kept))

  still_obeyed : (l : Left) (s : Laying) → past (left_of g.bytes s) ≡ past l → Obeyed g.bytes (record { steps = []; left = l }) (record { steps = []; left = past l }) 0 s s
  still_obeyed l s e = record {
    seen = sym (ap (λ l. without_trivia s.steps ++ l) seen_nothing ∙ append-nil (without_trivia s.steps));
    tokens = sym (ap (λ z. told g.bytes s ++ z) (untold [] l told_nothing) ∙ append-nil (told g.bytes s));
    left = e;
    depth = omega arith;
  }

  node_obeyed : (b : Bool) (k : SyntaxKind) (from : ℕ) (l : Left) (s : Laying) → one_node (if b then None else Some (record { kind = k; from = from })) ≤ s.depth → past (left_of g.bytes s) ≡ past l
      → Obeyed g.bytes (record { steps = if b then [] else ends ∷ []; left = l }) (record { steps = if b then [] else ends ∷ []; left = past l }) (one_node (if b then None else Some (record { kind = k; from = from }))) s (if b then s else exit_of s)
  node_obeyed true k from l s deep e = still_obeyed l s e
  node_obeyed false k from l s deep e =
      let t : Laying = record s { depth = s.depth - 1; steps = s.steps ++ ends ∷ [] } in
      let m : Made = record { steps = ends ∷ []; left = l } in
      let behind : Made = record { steps = ends ∷ []; left = past l } in
      let done : Obeyed g.bytes m behind 1 s t = record {
        seen = seen_more s.steps (ends ∷ []);
        tokens = ap (λ z. z ++ only_tokens (trivia_of (left_of g.bytes s).tokens)) (told_more s.steps (ends ∷ []) ∙ ap (λ z. only_tokens s.steps ++ z) told_end ∙ append-nil (only_tokens s.steps))
            ∙ sym (ap (λ z. told g.bytes s ++ z) (untold (ends ∷ []) l told_end) ∙ append-nil (told g.bytes s));
        left = e;
        depth = omega (arith, deep);
      } in
      subst (Obeyed g.bytes m behind 1 s) (sym (exit_is s (omega (arith, deep)))) done

  pub obeyed : (e : Event) (n : ℕ) (l : Left) (s : Laying) → Kept root g.bytes s → one_node (node_of g.root n (Some e)) ≤ s.depth → past (left_of g.bytes s) ≡ past l
      → Obeyed g.bytes (made_by g.root n e l) (made_by g.root n e (past l)) (one_node (node_of g.root n (Some e))) s (obey_of g e n s)
  obeyed (Token k signs) n l s h deep e =
      let a = pass_trivia_of s in
      let x = ready root g.bytes small s l h e in
      added_obeyed root g.bytes l (joined k (signs - 1) (past l)) (after (trivia_of (past l).tokens) (joined k (signs - 1) (past (past l)))) s a (join_of k (signs - 1) a) (after_past (joined k (signs - 1)) l) x
      (subst (λ l. Added g.bytes (joined k (signs - 1) l) a (join_of k (signs - 1) a)) x.left (join_added root g.bytes small k (signs - 1) a a.rest refl x.kept))
  obeyed (Piece p last) n l s h deep e = piece_obeyed p last l s (pass_trivia_of s) (ready root g.bytes small s l h e)
  obeyed (Node k from) n l s h deep e = node_obeyed (nat_eq n g.root) k (min from n) l s deep e
  obeyed (Error m) n l s h deep e =
      let x = still_obeyed l s e in
      record { seen = x.seen; tokens = x.tokens; left = x.left; depth = x.depth }
