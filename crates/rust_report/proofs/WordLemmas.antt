-- How a text is cut at its first sign, and the steps of its words.
use Rattle.std.proofs.Common.{◌≡◌, ℕ, ◌+◌, ◌-◌, ◌≤◌, ◌<◌, ◌==◌, Bool, true, false, ◌&&◌, List, [], ◌∷◌, ◌++◌, length, take, drop, Option, Some, None, refl, sym, ap, ◌∙◌, cond, arith, get_or, subst}
use Rattle.std.proofs.Math.Seq.{take-append_seam, drop-append-add}
use Rattle.std.proofs.lemmas.List.{get_or-append-add, length-append}
use Rattle.std.proofs.lemmas.Bool.{eqb-true}
use Rattle.std.proofs.lemmas.Str.{IsCharBoundary-after_ascii}
use Rattle.std.specs.Str.{IsUtf8, IsCharBoundary}
use Rattle.syntax_kind.specs.declared.syntax_kind.SyntaxKind.{SyntaxKind}
use Rattle.rust_report.specs.declared.pattern.Link.{Link}
use Rattle.rust_report.specs.declared.pattern.Link.TheVariants.{Child, Within}
use Rattle.rust_report.specs.Words.{words, begin_with, is_slash, sign_at, width, IsFirstSign, Means, Fails, AreSteps, IsRefused}
use Rattle.rust_report.specs.declared.pattern.Step.{Step}
use Rattle.rust_report.specs.declared.words.PatternError.{PatternError}

-- a text before the first of some words
abbrev pub begin_all : List ℕ → List (Link × List ℕ) → List (Link × List ℕ)
begin_all t [] = []
begin_all t (w ∷ ws) = (w.0, t ++ w.1) ∷ ws

append_one : (t : List ℕ) (b : ℕ) (u : List ℕ) → t ++ (b ∷ u) ≡ (t ++ b ∷ []) ++ u
append_one [] b u = refl
append_one (x ∷ t) b u = ap (λ k. x ∷ k) (append_one t b u)

append_nil : (t : List ℕ) → t ++ [] ≡ t
append_nil [] = refl
append_nil (x ∷ t) = ap (λ k. x ∷ k) (append_nil t)

begin_more : (t : List ℕ) (b : ℕ) (ws : List (Link × List ℕ)) → begin_all t (begin_with b ws) ≡ begin_all (t ++ b ∷ []) ws
begin_more t b [] = refl
begin_more t b (w ∷ ws) = ap (λ u. (w.0, u) ∷ ws) (append_one t b w.1)

-- a sign, or none, at the first byte
abbrev after : Option Link → Link → ℕ → List ℕ → List (Link × List ℕ)
after None link a bs = begin_with a (words link bs)
after (Some next) link a bs = (link, []) ∷ words next (drop (width next) (a ∷ bs))

by_sign_two : (gt sl : Bool) (link : Link) (a b : ℕ) (bs : List ℕ)
    → cond gt ((link, []) ∷ words Child (b ∷ bs)) (cond sl ((link, []) ∷ words Within bs) (begin_with a (words link (b ∷ bs))))
    ≡ after (cond gt (Some Child) (cond sl (Some Within) None)) link a (b ∷ bs)
by_sign_two true sl link a b bs = refl
by_sign_two false true link a b bs = refl
by_sign_two false false link a b bs = refl

and_false : (b : Bool) → (b && false) ≡ false
and_false true = refl
and_false false = refl

by_sign_one : (gt : Bool) (link : Link) (a : ℕ)
    → cond gt ((link, []) ∷ (Child, []) ∷ []) ((link, a ∷ []) ∷ []) ≡ after (cond gt (Some Child) None) link a []
by_sign_one true link a = refl
by_sign_one false link a = refl

by_sign : (link : Link) (a : ℕ) (bs : List ℕ) → words link (a ∷ bs) ≡ after (sign_at a bs) link a bs
by_sign link a [] =
    by_sign_one (a == 62) link a ∙ ap (λ b. after (cond (a == 62) (Some Child) (cond b (Some Within) None)) link a []) (sym (and_false (a == 47)))
by_sign link a (b ∷ bs) = by_sign_two (a == 62) ((a == 47) && (b == 47)) link a b bs

-- the loop: what is passed belongs to the first word
pub record IsPassed (text rest : List ℕ) : Type 0 where
  pub front : List ℕ
  pub are : text ≡ front ++ rest
  pub first : (link : Link) → words link text ≡ begin_all front (words link rest)

whole : (ws : List (Link × List ℕ)) → ws ≡ begin_all [] ws
whole [] = refl
whole (w ∷ ws) = refl

pub starts : (text rest : List ℕ) → rest ≡ text → IsPassed text rest
starts text rest e = record { front = []; are = sym e; first = λ link. whole (words link text) ∙ ap (λ t. begin_all [] (words link t)) (sym e) }

pub one_more : (text rest : List ℕ) (a : ℕ) (bs : List ℕ) (s : Option Link) → IsPassed text rest → rest ≡ a ∷ bs → s ≡ sign_at a bs → s ≡ None → IsPassed text bs
one_more text rest a bs s h e is none = record {
  front = h.front ++ a ∷ [];
  are = h.are ∙ ap (λ r. h.front ++ r) e ∙ append_one h.front a bs;
  first = λ link.
      h.first link
      ∙ ap (λ r. begin_all h.front (words link r)) e
      ∙ ap (begin_all h.front) (by_sign link a bs ∙ ap (λ o. after o link a bs) (sym is ∙ none))
      ∙ begin_more h.front a (words link bs);
}

pub ends : (text rest : List ℕ) → IsPassed text rest → rest ≡ [] → (link : Link) → words link text ≡ (link, text) ∷ []
ends text rest h e link =
    h.first link
    ∙ ap (λ r. begin_all h.front (words link r)) e
    ∙ ap (λ t. (link, t) ∷ []) (ap (λ r. h.front ++ r) (sym e) ∙ sym h.are)

-- ---- what is known of a sign

record IsSign (next : Link) (a : ℕ) (bs : List ℕ) : Type 0 where
  first : a < 128
  within : width next ≤ length (a ∷ bs)
  last : get_or (a ∷ bs) (width next - 1) 0 < 128

record IsPair (a : ℕ) (bs : List ℕ) : Type 0 where
  first : a ≡ 47
  some : 1 ≤ length bs
  second : get_or bs 0 0 ≡ 47

is_pair : (a : ℕ) (bs : List ℕ) → ((a == 47) && is_slash bs) ≡ true → IsPair a bs
is_pair a bs = by_bool (a == 47) refl bs
  where
    by_bool : (b : Bool) → (a == 47) ≡ b → (bs : List ℕ) → (b && is_slash bs) ≡ true → IsPair a bs
    by_bool false e bs h = absurd (let bad : false ≡ true = h in cc)
    by_bool true e [] h = absurd (let bad : false ≡ true = h in cc)
    by_bool true e (b ∷ bs) h = record { first = eqb-true a 47 e; some = omega arith; second = eqb-true b 47 h }

sign_if : (gt pair : Bool) (a : ℕ) (bs : List ℕ) (next : Link) → (gt ≡ true → a ≡ 62) → (pair ≡ true → IsPair a bs)
    → cond gt (Some Child) (cond pair (Some Within) None) ≡ Some next → IsSign next a bs
sign_if true pair a bs Child f g e =
    let is : a ≡ 62 = f refl in record { first = omega (arith, is); within = omega arith; last = omega (arith, is) }
sign_if true pair a bs Within f g e = absurd (let bad : ◌≡◌ {A = Option Link} (Some Child) (Some Within) = e in cc)
sign_if false true a bs Child f g e = absurd (let bad : ◌≡◌ {A = Option Link} (Some Within) (Some Child) = e in cc)
sign_if false true a bs Within f g e =
    let is : IsPair a bs = g refl in
    record { first = omega (arith, is.first); within = omega (arith, is.some); last = subst (λ n. n < 128) (sym is.second) (omega arith) }
sign_if false false a bs next f g e = absurd (let bad : ◌≡◌ {A = Option Link} None (Some next) = e in cc)

is_sign : (a : ℕ) (bs : List ℕ) (next : Link) → sign_at a bs ≡ Some next → IsSign next a bs
is_sign a bs next = sign_if (a == 62) ((a == 47) && is_slash bs) a bs next (eqb-true a 62) (is_pair a bs)

pub cut_here : (text rest : List ℕ) (a : ℕ) (bs : List ℕ) (next : Link)
    → IsPassed text rest → rest ≡ a ∷ bs → sign_at a bs ≡ Some next → IsFirstSign text (Some (length text - length rest, next))
cut_here text rest a bs next h e is =
    let sign : IsSign next a bs = is_sign a bs next is in
    let whole : text ≡ h.front ++ (a ∷ bs) = h.are ∙ ap (λ r. h.front ++ r) e in
    let sum : length text ≡ length h.front + length (a ∷ bs) = ap length whole ∙ length-append h.front (a ∷ bs) in
    let at : length text - length rest ≡ length h.front = omega (arith, sum, ap length e) in
    subst (λ n. IsFirstSign text (Some (n, next))) (sym at)
    (subst (λ t. IsFirstSign t (Some (length h.front, next))) (sym whole)
    (let total : length (h.front ++ (a ∷ bs)) ≡ length h.front + length (a ∷ bs) = length-append h.front (a ∷ bs) in
    let plain : length h.front + 0 ≡ length h.front = omega arith in
    let least : 1 ≤ width next = one next in
    let end : length h.front + width next - 1 ≡ length h.front + (width next - 1) = omega (arith, least) in (
      omega (arith, total, sign.within),
      subst (λ n. get_or (h.front ++ (a ∷ bs)) n 0 < 128) plain (subst (λ n. n < 128) (sym (get_or-append-add h.front (a ∷ bs) 0 0)) sign.first),
      subst (λ n. get_or (h.front ++ (a ∷ bs)) n 0 < 128) (sym end) (subst (λ n. n < 128) (sym (get_or-append-add h.front (a ∷ bs) (width next - 1) 0)) sign.last),
      λ link.
          ap (words link) (sym whole)
          ∙ h.first link
          ∙ ap (λ r. begin_all h.front (words link r)) e
          ∙ ap (begin_all h.front) (by_sign link a bs ∙ ap (λ o. after o link a bs) is)
          ∙ ap (λ t. (link, t) ∷ words next (drop (width next) (a ∷ bs))) (append_nil h.front ∙ sym (take-append_seam h.front (a ∷ bs)))
          ∙ ap (λ r. (link, take (length h.front) (h.front ++ (a ∷ bs))) ∷ words next r) (sym (drop-append-add h.front (a ∷ bs) (width next))),
    )))
  where
    one : (next : Link) → 1 ≤ width next
    one Child = omega arith
    one Within = omega arith

-- ---- the steps of words

-- the first words are read
pub record AreRead (text : List ℕ) (link : Link) (rest : List ℕ) (steps : List Step) : Type 0 where
  pub front : List (Link × List ℕ)
  pub are : words Child text ≡ front ++ words link rest
  pub read : AreSteps front steps

pub none_read : (text : List ℕ) → AreRead text Child text []
none_read text = record { front = []; are = refl; read = tt }

append_list : {A : Type 0} (l : List A) (x : A) (m : List A) → l ++ (x ∷ m) ≡ (l ++ x ∷ []) ++ m
append_list [] x m = refl
append_list (y ∷ l) x m = ap (λ k. y ∷ k) (append_list l x m)

one_step : (ws : List (Link × List ℕ)) (ss : List Step) (w : Link × List ℕ) (s : Step) → AreSteps ws ss → s.link ≡ w.0 → Means w.1 s.kind → AreSteps (ws ++ w ∷ []) (ss ++ s ∷ [])
one_step [] [] w s h l m = (l, m, tt)
one_step [] (t ∷ ss) w s h l m = absurd h
one_step (v ∷ ws) [] w s h l m = absurd h
one_step (v ∷ ws) (t ∷ ss) w s h l m = (h.0, h.1, one_step ws ss w s h.2 l m)

-- a word was read, and its step was put after the others
abbrev pub IsPut : Link → List ℕ → List Step → List Step → Type 0
IsPut link word steps new = (kind : Option SyntaxKind) × Means word kind × (new ≡ steps ++ record { link = link; kind = kind } ∷ [])

pub word_read : (text : List ℕ) (link next : Link) (rest word behind : List ℕ) (steps new : List Step)
    → AreRead text link rest steps → words link rest ≡ (link, word) ∷ words next behind → IsPut link word steps new → AreRead text next behind new
word_read text link next rest word behind steps new h cut put = record {
  front = h.front ++ (link, word) ∷ [];
  are = h.are ∙ ap (λ k. h.front ++ k) cut ∙ append_list h.front (link, word) (words next behind);
  read = subst (AreSteps (h.front ++ (link, word) ∷ [])) (sym put.2) (one_step h.front steps (link, word) (record { link = link; kind = put.0 }) h.read refl put.1);
}

pub last_read : (text : List ℕ) (link : Link) (rest : List ℕ) (steps new : List Step)
    → AreRead text link rest steps → words link rest ≡ (link, rest) ∷ [] → IsPut link rest steps new → AreSteps (words Child text) new
last_read text link rest steps new h cut put =
    subst (AreSteps (words Child text)) (sym put.2)
    (subst (λ ws. AreSteps ws (steps ++ record { link = link; kind = put.0 } ∷ [])) (sym (h.are ∙ ap (λ k. h.front ++ k) cut)) (one_step h.front steps (link, rest) (record { link = link; kind = put.0 }) h.read refl put.1))

pub refused : (text : List ℕ) (link : Link) (rest word : List ℕ) (behind : List (Link × List ℕ)) (steps : List Step) (e : PatternError)
    → AreRead text link rest steps → words link rest ≡ (link, word) ∷ behind → Fails word e → IsRefused (words Child text) e
refused text link rest word behind steps e h cut fails = record {
  front = h.front;
  word = (link, word);
  behind = behind;
  steps = steps;
  are = h.are ∙ ap (λ k. h.front ++ k) cut;
  before = h.read;
  fails = fails;
}

pub width_some : (next : Link) → 1 ≤ width next
width_some Child = omega arith
width_some Within = omega arith

pub cut_with : (s t : List ℕ) (link next : Link) (at width_is : ℕ) (word behind : List ℕ)
    → ((l : Link) → words l t ≡ (l, take at t) ∷ words next (drop (at + width next) t)) → t ≡ s → width_is ≡ width next → word ≡ take at s → behind ≡ drop (at + width_is) s
    → words link s ≡ (link, word) ∷ words next behind
cut_with s t link next at width_is word behind h e w f b =
    ap (words link) (sym e)
    ∙ h link
    ∙ ap (λ u. (link, take at u) ∷ words next (drop (at + width next) u)) e
    ∙ ap (λ u. (link, u) ∷ words next (drop (at + width next) s)) (sym f)
    ∙ ap (λ n. (link, word) ∷ words next (drop (at + n) s)) (sym w)
    ∙ ap (λ u. (link, word) ∷ words next u) (sym b)

pub after_sign : (s t : List ℕ) (next : Link) (at width_is : ℕ) → IsUtf8 t → t ≡ s → width_is ≡ width next → at + width next ≤ length t → get_or t (at + width next - 1) 0 < 128
    → IsCharBoundary s (at + width_is)
after_sign s t next at width_is u e w fits ascii =
    let some : 1 ≤ width next = width_some next in
    let end : at + width next - 1 + 1 ≡ at + width_is = omega (arith, some, w) in
    subst (λ k. IsCharBoundary k (at + width_is)) e (subst (IsCharBoundary t) end (IsCharBoundary-after_ascii t (at + width next - 1) u (omega (arith, fits, some)) ascii))
