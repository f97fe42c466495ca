-- What `find_map` gives of an iterator over a list: the first of what is kept of the list.
use Rattle.std.proofs.Common.{◌≡◌, ◌+◌, ◌<◌, true, List, [], ◌∷◌, map, ℕ, zero, suc, refl, sym, ap, ◌∙◌, subst, length, arith}
use Rattle.std.specs.Prelude.{Option, None, Some, MatchOption, IfSome, ⊤, slice_get}
use Rattle.std.specs.List.{FoldsTo}
use Rattle.std.specs.Iterator.{YieldsFirst, Yields, ActsAs, FindsMapped, MakesProgress, item_count}
use Rattle.std.specs.Iterator.Runs.{SomeRun, AllItemsGive, IsFirstToGive, YieldsRun}
use denote.Param.Members.{Mut, Called}
use Rattle.lossless_tree.proofs.NodeLists.{head_of, tail_of}

weaken : {A : Type 0} {P Q : A → Type 0} (o : Option A) → ((x : A) → P x → Q x) → IfSome o P → IfSome o Q
weaken None f h = h
weaken (Some x) f h = f x h

-- an iterator that yields a list comes nearer to its end with each item
pub progress : {S A : Type 0} (rest : S → List A) (s t : S) (r : Option A) → YieldsFirst rest s r t → MakesProgress (λ _. ⊤) (item_count rest) s r t
progress rest s t None w = record {
  on = λ _. tt;
  keeps = tt;
  rests = λ _. tt;
}
progress rest s t (Some x) w = record {
  on = λ _. (tt, tt, omega (arith, ap length w));
  keeps = tt;
  rests = λ _. tt;
}

-- `part` says what is kept of an item, if anything: `kept` adds it in front of what is kept of the
-- others
module _ {C E D F : Type 0} (view : C → E) (same : (l m : List C) → map view l ≡ map view m → l ≡ m)
    (part : E → Option D) (kept : List C → List D) (nothing : kept [] ≡ [])
    (adds : (c : C) (l : List C) → MatchOption (part (view c)) (kept (c ∷ l) ≡ kept l) (λ y. kept (c ∷ l) ≡ y ∷ kept l))
    (g : Mut F (E × Unit {0}) (Option D)) (acts : (f : F) → ActsAs g f part) where
  none_left : (l : List C) → map view l ≡ [] → kept l ≡ []
  none_left [] e = nothing
  none_left (c ∷ l) e = (let no : view c ∷ map view l ≡ [] = e in cc)

  first_adds : (x : E) (l m : List C) → map view l ≡ x ∷ map view m → MatchOption (part x) (kept l ≡ kept m) (λ y. kept l ≡ y ∷ kept m)
  unfolding head_of tail_of
  first_adds x [] m e = (let no : [] ≡ x ∷ map view m = e in cc)
  first_adds x (c ∷ l) m e =
      subst (λ z. MatchOption (part z) (kept (c ∷ l) ≡ kept m) (λ y. kept (c ∷ l) ≡ y ∷ kept m)) (ap (head_of x) e)
      (subst (λ k. MatchOption (part (view c)) (kept (c ∷ l) ≡ kept k) (λ y. kept (c ∷ l) ≡ y ∷ kept k)) (same l m (ap tail_of e)) (adds c l))

  told : (o : Option D) (x : E) (l m : List C) → map view l ≡ x ∷ map view m → o ≡ part x → MatchOption o (kept l ≡ kept m) (λ y. kept l ≡ y ∷ kept m)
  told o x l m e is = subst (λ o. MatchOption o (kept l ≡ kept m) (λ y. kept l ≡ y ∷ kept m)) (sym is) (first_adds x l m e)

  -- nothing was kept of the items that were passed over
  passed : (xs : List E) (s t : List C) (f f' : F) → Yields (YieldsFirst (map view)) s xs t → FoldsTo (λ p x q. Called g p (x, tt) None q) f xs f' → kept s ≡ kept t
  passed [] s t f f' y c = ap kept y
  passed (x ∷ xs) s t f f' y c = told None x s y.0 y.1 (acts f x None c.0 c.1).1 ∙ passed xs y.0 t c.0 f' y.2 c.2

  all_passed : (xs : List E) (s t v : List C) → Yields (YieldsFirst (map view)) s xs t → YieldsFirst (map view) t None v → ((k : ℕ) → IfSome (slice_get xs k) (λ x. None ≡ part x)) → kept s ≡ []
  all_passed [] s t v y e none = ap kept y ∙ none_left t e.0
  all_passed (x ∷ xs) s t v y e none = told None x s y.0 y.1 (none zero) ∙ all_passed xs y.0 t v y.2 e (λ k. none (suc k))

  none_kept : (s : List C) (f : F) → SomeRun (YieldsFirst (map view)) s (λ p. (p.whole ≡ true) × AllItemsGive p g f None) → kept s ≡ []
  unfolding YieldsRun
  none_kept s f (p, from, all) =
      let run = p.gave in
      let end = run.0.2 all.0 in
      ap kept (sym from) ∙ all_passed p.items p.from run.0.0 end.0 run.0.1 end.1
      (λ k. subst (λ o. IfSome o (λ x. None ≡ part x)) (run.1 k) (weaken (p.at k) (λ x c. (acts f x None f c).1) (all.1 (λ a r h c. (acts f a.0 r h c).0) k)))

  found_by : (r : Option D) (o : Option E) (s t u : List C) (f f' : F) → kept s ≡ kept t → (r ≡ None → kept s ≡ []) → YieldsFirst (map view) t o u
      → MatchOption o (r ≡ None) (λ x. (h : F) × Called g f' (x, tt) r h) → MatchOption r ((kept s ≡ []) × (kept u ≡ [])) (λ y. kept s ≡ y ∷ kept u)
  found_by None None s t u f f' same_kept none e last = (none refl, none_left u e.1)
  found_by None (Some x) s t u f f' same_kept none e last =
      (none refl, sym (same_kept ∙ told None x t u e (acts f' x None last.0 last.1).1) ∙ none refl)
  found_by (Some y) None s t u f f' same_kept none e last = (let no : Some y ≡ None = last in cc)
  found_by (Some y) (Some x) s t u f f' same_kept none e last = same_kept ∙ told (Some y) x t u e (acts f' x (Some y) last.0 last.1).1

  none_by : (s : List C) (f : F) (r : Option D)
      → SomeRun (YieldsFirst (map view)) s (λ p. MatchOption r ((p.whole ≡ true) × AllItemsGive p g f None) (λ y. (i : ℕ) × (i < p.len) × (p.len ≡ i + 1) × IsFirstToGive p g f (Some y) None i))
      → r ≡ None → kept s ≡ []
  none_by s f None run is = none_kept s f run
  none_by s f (Some y) run is = (let no : Some y ≡ None = is in cc)

  pub found : (s u : List C) (f : F) (r : Option D) → FindsMapped (YieldsFirst (map view)) g s f r u
      → SomeRun (YieldsFirst (map view)) s (λ p. MatchOption r ((p.whole ≡ true) × AllItemsGive p g f None) (λ y. (i : ℕ) × (i < p.len) × (p.len ≡ i + 1) × IsFirstToGive p g f (Some y) None i))
      → MatchOption r ((kept s ≡ []) × (kept u ≡ [])) (λ y. kept s ≡ y ∷ kept u)
  found s u f r (xs, o, f', yields, folds, last) run =
      found_by r o s yields.0 u f f' (passed xs s yields.0 f f' yields.1 folds) (none_by s f r run) yields.2 last
