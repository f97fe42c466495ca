-- The text of a changed tree.
use Rattle.std.proofs.Common.{◌≡◌, ℕ, suc, ◌+◌, ◌-◌, ◌≤◌, List, [], ◌∷◌, ◌++◌, length, take, drop, refl, sym, ap, ◌∙◌, subst, arith, append_assoc, append-nil, length-append, true, false, inl, inr}
use Rattle.std.specs.Prelude.{if◌then◌else◌}
use Rattle.std.proofs.lemmas.Bool.{cases_Bool}
use Rattle.std.proofs.Math.Seq.{take_at, drop_at, drop-drop, drop-length}
use Rattle.tree_model.specs.Tree.{Tree, node, token, Forest, nil, cons, Place, forest_text}
use Rattle.tree_model.specs.Events.{append_forest}
use Rattle.text_edit.specs.Replacements.{Replacement, InOrder}
use Rattle.text_edit.proofs.Pass.{passed, EndWithin, edited_passed_within}
use Rattle.tree_edit_model.specs.Changes.{Change, forest_from, around, inside, below, changed_from}
use Rattle.tree_edit_model.specs.Texts.{put, edits_around, edits_inside, edits_from, ChangedText}

pub forest_text-append : (f g : Forest) → forest_text (append_forest f g) ≡ forest_text f ++ forest_text g
forest_text-append nil g = refl
forest_text-append (cons (token k t) r) g = ap (λ l. t ++ l) (forest_text-append r g) ∙ sym (append_assoc t (forest_text r) (forest_text g))
forest_text-append (cons (node k c) r) g = ap (λ l. forest_text c ++ l) (forest_text-append r g) ∙ sym (append_assoc (forest_text c) (forest_text r) (forest_text g))

-- the texts of pieces
txt : List Tree → List ℕ
txt ts = forest_text (forest_from ts)

around-kept : (c : Change) (x : Tree) → c.replaced ≡ false → forest_text (around c x) ≡ txt c.before ++ (forest_text (cons x nil) ++ txt c.after)
unfolding txt
around-kept c x e =
    forest_text-append (forest_from c.before) (append_forest (if c.replaced then forest_from c.instead else cons x nil) (forest_from c.after))
    ∙ ap (λ l. forest_text (forest_from c.before) ++ l) (forest_text-append (if c.replaced then forest_from c.instead else cons x nil) (forest_from c.after))
    ∙ ap (λ b. forest_text (forest_from c.before) ++ (forest_text (if b then forest_from c.instead else cons x nil) ++ forest_text (forest_from c.after))) e

around-replaced : (c : Change) (x : Tree) → c.replaced ≡ true → forest_text (around c x) ≡ txt c.before ++ (txt c.instead ++ txt c.after)
unfolding txt
around-replaced c x e =
    forest_text-append (forest_from c.before) (append_forest (if c.replaced then forest_from c.instead else cons x nil) (forest_from c.after))
    ∙ ap (λ l. forest_text (forest_from c.before) ++ l) (forest_text-append (if c.replaced then forest_from c.instead else cons x nil) (forest_from c.after))
    ∙ ap (λ b. forest_text (forest_from c.before) ++ (forest_text (if b then forest_from c.instead else cons x nil) ++ forest_text (forest_from c.after))) e

inside-text : (c : Change) (f : Forest) → forest_text (inside c f) ≡ txt c.first ++ (forest_text f ++ txt c.last)
unfolding txt
inside-text c f = forest_text-append (forest_from c.first) (append_forest f (forest_from c.last)) ∙ ap (λ l. forest_text (forest_from c.first) ++ l) (forest_text-append f (forest_from c.last))

-- a piece read where the pass is: what it inserts
here : (s : List ℕ) (n m : ℕ) (ts : List Tree) (P : List Replacement) → passed s n (put n m ts ∷ P) ≡ txt ts ++ passed s m P
unfolding txt
here s n m ts P = let z : n - n ≡ 0 = omega arith in ap (λ k. take k (drop n s) ++ (forest_text (forest_from ts) ++ passed s m P)) z

-- a piece read later: what is kept before it, and what it inserts
later : (s x r : List ℕ) (n m : ℕ) (ts : List Tree) (P : List Replacement) → drop n s ≡ x ++ r → m ≡ n + length x → passed s n (put m m ts ∷ P) ≡ x ++ (txt ts ++ passed s m P)
unfolding txt
later s x r n m ts P e h =
    let k : m - n ≡ length x = omega (arith, h) in
    ap (λ j. take j (drop n s) ++ (forest_text (forest_from ts) ++ passed s m P)) k
    ∙ ap (λ l. take (length x) l ++ (forest_text (forest_from ts) ++ passed s m P)) e
    ∙ ap (λ l. l ++ (forest_text (forest_from ts) ++ passed s m P)) (take_at x r (length x) refl)

-- what the pass makes of an element and goes on with, if its kept part gives `made`
around_passed : (s : List ℕ) (c : Change) (x : Tree) (a b : ℕ) (kept P : List Replacement)
    → ((Q : List Replacement) → c.replaced ≡ false → passed s a (kept ++ (put b b c.after ∷ Q)) ≡ forest_text (cons x nil) ++ (txt c.after ++ passed s b Q))
    → passed s a (edits_around c a b kept ++ P) ≡ forest_text (around c x) ++ passed s b P
around_passed s c x a b kept P h = elim (cases_Bool c.replaced) [
  | inl was ↦
      here s a a c.before (((if c.replaced then put a b c.instead ∷ [] else kept) ++ put b b c.after ∷ []) ++ P)
      ∙ ap (λ y. txt c.before ++ passed s a (((if y then put a b c.instead ∷ [] else kept) ++ put b b c.after ∷ []) ++ P)) was
      ∙ ap (λ l. txt c.before ++ l) (here s a b c.instead (put b b c.after ∷ P) ∙ ap (λ l. txt c.instead ++ l) (here s b b c.after P))
      ∙ regroup (txt c.before) (txt c.instead) (txt c.after) (passed s b P)
      ∙ ap (λ l. l ++ passed s b P) (sym (around-replaced c x was))
  | inr stays ↦
      here s a a c.before (((if c.replaced then put a b c.instead ∷ [] else kept) ++ put b b c.after ∷ []) ++ P)
      ∙ ap (λ y. txt c.before ++ passed s a (((if y then put a b c.instead ∷ [] else kept) ++ put b b c.after ∷ []) ++ P)) stays
      ∙ ap (λ l. txt c.before ++ passed s a l) (append_assoc kept (put b b c.after ∷ []) P)
      ∙ ap (λ l. txt c.before ++ l) (h P stays)
      ∙ regroup (txt c.before) (forest_text (cons x nil)) (txt c.after) (passed s b P)
      ∙ ap (λ l. l ++ passed s b P) (sym (around-kept c x stays))
]
  where
    regroup : (a b c d : List ℕ) → a ++ (b ++ (c ++ d)) ≡ (a ++ (b ++ c)) ++ d
    regroup a b c d = simp append_assoc

-- where a forest's text stands in the whole text
pub record StandsAt (s : List ℕ) (b : ℕ) (f : Forest) : Type 0 where
  pub rest : List ℕ
  pub is : drop b s ≡ forest_text f ++ rest

after_front : (s x r : List ℕ) (b : ℕ) → drop b s ≡ x ++ r → drop (b + length x) s ≡ r
after_front s x r b e = sym (drop-drop (length x) b s) ∙ ap (drop (length x)) e ∙ drop_at x r (length x) refl

-- the same inside a node, from what the pass makes of its children
inside_passed : (s : List ℕ) (c : Change) (a b : ℕ) (f : Forest) (children P : List Replacement) → ((Q : List Replacement) → passed s a (children ++ Q) ≡ forest_text f ++ passed s b Q)
    → passed s a (edits_inside c a b children ++ P) ≡ forest_text (inside c f) ++ passed s b P
inside_passed s c a b f children P h =
    here s a a c.first ((children ++ put b b c.last ∷ []) ++ P)
    ∙ ap (λ l. txt c.first ++ passed s a l) (append_assoc children (put b b c.last ∷ []) P)
    ∙ ap (λ l. txt c.first ++ l) (h (put b b c.last ∷ P) ∙ ap (λ l. forest_text f ++ l) (here s b b c.last P))
    ∙ regroup (txt c.first) (forest_text f) (txt c.last) (passed s b P)
    ∙ ap (λ l. l ++ passed s b P) (sym (inside-text c f))
  where
    regroup : (a b c d : List ℕ) → a ++ (b ++ (c ++ d)) ≡ (a ++ (b ++ c)) ++ d
    regroup a b c d = simp append_assoc

pub forest_passed : (f : Forest) (s : List ℕ) (at : Place → Change) (i b : ℕ) (P : List Replacement) → StandsAt s b f
    → passed s b (edits_from at i b f ++ P) ≡ forest_text (changed_from at i f) ++ passed s (b + length (forest_text f)) P
forest_passed nil s at i b P h = let e : b ≡ b + 0 = omega arith in ap (λ n. passed s n P) e
forest_passed (cons (token k t) r) s at i b P h =
    let c : Change = at (i ∷ []) in
    let e : ℕ = b + length t in
    let split : drop b s ≡ t ++ (forest_text r ++ h.rest) = h.is ∙ append_assoc t (forest_text r) h.rest in
    let long : e + length (forest_text r) ≡ b + length (t ++ forest_text r) = omega (arith, length-append t (forest_text r)) in
    ap (passed s b) (append_assoc (edits_around c b e []) (edits_from at (suc i) e r) P)
    ∙ around_passed s c (token k t) b e [] (edits_from at (suc i) e r ++ P) (λ Q stays. later s t (forest_text r ++ h.rest) b e c.after Q split refl ∙ ap (λ l. l ++ (txt c.after ++ passed s e Q)) (sym (append-nil t)))
    ∙ ap (λ l. forest_text (around c (token k t)) ++ l) (forest_passed r s at (suc i) e P (record { rest = h.rest; is = after_front s t (forest_text r ++ h.rest) b split }))
    ∙ sym (append_assoc (forest_text (around c (token k t))) (forest_text (changed_from at (suc i) r)) (passed s (e + length (forest_text r)) P))
    ∙ ap (λ l. l ++ passed s (e + length (forest_text r)) P) (sym (forest_text-append (around c (token k t)) (changed_from at (suc i) r)))
    ∙ ap (λ n. forest_text (append_forest (around c (token k t)) (changed_from at (suc i) r)) ++ passed s n P) long
forest_passed (cons (node k f) r) s at i b P h =
    let c : Change = at (i ∷ []) in
    let t : List ℕ = forest_text f in
    let e : ℕ = b + length t in
    let inner : Forest = changed_from (below i at) 0 f in
    let x : Tree = node k (inside c inner) in
    let split : drop b s ≡ t ++ (forest_text r ++ h.rest) = h.is ∙ append_assoc t (forest_text r) h.rest in
    let long : e + length (forest_text r) ≡ b + length (t ++ forest_text r) = omega (arith, length-append t (forest_text r)) in
    ap (passed s b) (append_assoc (edits_around c b e (edits_inside c b e (edits_from (below i at) 0 b f))) (edits_from at (suc i) e r) P)
    ∙ around_passed s c x b e (edits_inside c b e (edits_from (below i at) 0 b f)) (edits_from at (suc i) e r ++ P) (λ Q stays.
    inside_passed s c b e inner (edits_from (below i at) 0 b f) (put e e c.after ∷ Q) (λ R. forest_passed f s (below i at) 0 b R (record { rest = forest_text r ++ h.rest; is = split }))
    ∙ ap (λ l. forest_text (inside c inner) ++ l) (here s e e c.after Q)
    ∙ ap (λ l. l ++ (txt c.after ++ passed s e Q)) (sym (append-nil (forest_text (inside c inner)))))
    ∙ ap (λ l. forest_text (around c x) ++ l) (forest_passed r s at (suc i) e P (record { rest = h.rest; is = after_front s t (forest_text r ++ h.rest) b split }))
    ∙ sym (append_assoc (forest_text (around c x)) (forest_text (changed_from at (suc i) r)) (passed s (e + length (forest_text r)) P))
    ∙ ap (λ l. l ++ passed s (e + length (forest_text r)) P) (sym (forest_text-append (around c x) (changed_from at (suc i) r)))
    ∙ ap (λ n. forest_text (append_forest (around c x) (changed_from at (suc i) r)) ++ passed s n P) long

-- ---- the pieces are in order, and within the text

-- they go from byte a to byte b, and then others may follow
record Goes (a b : ℕ) (es : List Replacement) : Type 0 where
  on : (n : ℕ) (P : List Replacement) → n ≤ a → InOrder b P → InOrder n (es ++ P)
  ends : (n : ℕ) (P : List Replacement) → b ≤ n → EndWithin n P → EndWithin n (es ++ P)

nothing_goes : (a b : ℕ) → a ≤ b → Goes a b []
nothing_goes a b h = record { on = λ n P le o. later_order P n b (omega (arith, le, h)) o; ends = λ n P le w. w }
  where
    later_order : (P : List Replacement) (n b : ℕ) → n ≤ b → InOrder b P → InOrder n P
    later_order [] n b h o = tt
    later_order (e ∷ es) n b h o = (omega (arith, h, o.0), o.1, o.2)

one_goes : (a b : ℕ) (ts : List Tree) → a ≤ b → Goes a b (put a b ts ∷ [])
one_goes a b ts h = record { on = λ n P le o. (le, h, o); ends = λ n P le w. (le, w) }

both_go : (a b c : ℕ) (es fs : List Replacement) → Goes a b es → Goes b c fs → b ≤ c → Goes a c (es ++ fs)
both_go a b c es fs h k bc = record {
  on = λ n P le o. subst (λ l. InOrder n l) (sym (append_assoc es fs P)) (h.on n (fs ++ P) le (k.on b P (omega arith) o));
  ends = λ n P le w. subst (λ l. EndWithin n l) (sym (append_assoc es fs P)) (h.ends n (fs ++ P) (omega (arith, le, bc)) (k.ends n P le w));
}

around_goes : (c : Change) (a b : ℕ) (kept : List Replacement) → a ≤ b → Goes a b kept → Goes a b (edits_around c a b kept)
around_goes c a b kept h k =
    both_go a a b (put a a c.before ∷ []) ((if c.replaced then put a b c.instead ∷ [] else kept) ++ put b b c.after ∷ []) (one_goes a a c.before (omega arith))
    (both_go a b b (if c.replaced then put a b c.instead ∷ [] else kept) (put b b c.after ∷ []) middle (one_goes b b c.after (omega arith)) (omega arith)) h
  where
    middle : Goes a b (if c.replaced then put a b c.instead ∷ [] else kept)
    middle = elim c.replaced as (λ y. Goes a b (if y then put a b c.instead ∷ [] else kept)) [ true ↦ one_goes a b c.instead h | false ↦ k ]

inside_goes : (c : Change) (a b : ℕ) (children : List Replacement) → a ≤ b → Goes a b children → Goes a b (edits_inside c a b children)
inside_goes c a b children h k =
    both_go a a b (put a a c.first ∷ []) (children ++ put b b c.last ∷ []) (one_goes a a c.first (omega arith))
    (both_go a b b children (put b b c.last ∷ []) k (one_goes b b c.last (omega arith)) (omega arith)) h

forest_goes : (f : Forest) (at : Place → Change) (i b : ℕ) → Goes b (b + length (forest_text f)) (edits_from at i b f)
forest_goes nil at i b = nothing_goes b (b + 0) (omega arith)
forest_goes (cons (token k t) r) at i b =
    let e : ℕ = b + length t in
    let long : e + length (forest_text r) ≡ b + length (t ++ forest_text r) = omega (arith, length-append t (forest_text r)) in
    subst (λ n. Goes b n (edits_from at i b (cons (token k t) r))) long
    (both_go b e (e + length (forest_text r)) (edits_around (at (i ∷ [])) b e []) (edits_from at (suc i) e r)
    (around_goes (at (i ∷ [])) b e [] (omega arith) (nothing_goes b e (omega arith))) (forest_goes r at (suc i) e) (omega arith))
forest_goes (cons (node k c) r) at i b =
    let e : ℕ = b + length (forest_text c) in
    let long : e + length (forest_text r) ≡ b + length (forest_text c ++ forest_text r) = omega (arith, length-append (forest_text c) (forest_text r)) in
    subst (λ n. Goes b n (edits_from at i b (cons (node k c) r))) long
    (both_go b e (e + length (forest_text r)) (edits_around (at (i ∷ [])) b e (edits_inside (at (i ∷ [])) b e (edits_from (below i at) 0 b c))) (edits_from at (suc i) e r)
    (around_goes (at (i ∷ [])) b e (edits_inside (at (i ∷ [])) b e (edits_from (below i at) 0 b c)) (omega arith) (inside_goes (at (i ∷ [])) b e (edits_from (below i at) 0 b c) (omega arith) (forest_goes c (below i at) 0 b)))
    (forest_goes r at (suc i) e) (omega arith))

pub changed_text : ChangedText
changed_text at (token k t) = (tt, refl)
changed_text at (node k c) =
    let n : ℕ = length (forest_text c) in
    let es : List Replacement = edits_inside (at []) 0 n (edits_from at 0 0 c) in
    let z : 0 + n ≡ n = omega arith in
    let goes : Goes 0 n es = inside_goes (at []) 0 n (edits_from at 0 0 c) (omega arith) (subst (λ m. Goes 0 m (edits_from at 0 0 c)) z (forest_goes c at 0 0)) in
    let order : InOrder 0 es = subst (λ l. InOrder 0 l) (append-nil es) (goes.on 0 [] (omega arith) tt) in
    let ends : EndWithin n es = subst (λ l. EndWithin n l) (append-nil es) (goes.ends n [] (omega arith) tt) in
    let stands : StandsAt (forest_text c) 0 c = record { rest = []; is = sym (append-nil (forest_text c)) } in
    let all_kept : passed (forest_text c) n [] ≡ [] = drop-length (forest_text c) in (
      order,
      sym (edited_passed_within (forest_text c) 0 es (omega arith) order ends
          ∙ ap (passed (forest_text c) 0) (sym (append-nil es))
          ∙ inside_passed (forest_text c) (at []) 0 n (changed_from at 0 c) (edits_from at 0 0 c) [] (λ Q. forest_passed c (forest_text c) at 0 0 Q stands ∙ ap (λ m. forest_text (changed_from at 0 c) ++ passed (forest_text c) m Q) z)
          ∙ ap (λ l. forest_text (inside (at []) (changed_from at 0 c)) ++ l) all_kept
          ∙ append-nil (forest_text (inside (at []) (changed_from at 0 c)))),
    )
