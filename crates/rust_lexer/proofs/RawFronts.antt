-- The law of raw strings.
use Rattle.std.proofs.Common.{◌≡◌, ℕ, zero, suc, ◌-◌, ◌<◌, Bool, true, false, not, nat_le, ◌==◌, if◌then◌else◌, List, [], ◌∷◌, ◌++◌, ap, sym, ◌∙◌, refl, subst, arith, inl, inr, ◌⊎◌}
use Rattle.std.proofs.lemmas.Bool.Decides.{nat_tests}
use Rattle.rust_lexer.specs.declared.scan.Scan.{Scan}
use Rattle.rust_lexer.specs.declared.scan.Scan.TheVariants.{Raw, RawHashes, Closed}
use Rattle.rust_lexer.specs.Fronts.{hashes, RawRead}
use Rattle.rust_lexer.specs.Scans.{run_of, raw_of, after_raw_quote_of}
use Rattle.rust_lexer.proofs.Fronts.{closed_run}

longer : (h b : ℕ) (s r : List ℕ) → RawRead h s r → RawRead h (b ∷ s) r
longer h b s r k = record { content = b ∷ k.content; parts = ap (λ z. b ∷ z) k.parts }

here : (h b : ℕ) (s r : List ℕ) → b ≡ 34 → s ≡ hashes h ++ r → RawRead h (b ∷ s) r
here h b s r e k = record { content = []; parts = ap (λ x. x ∷ s) e ∙ ap (λ z. 34 ∷ z) k }

abbrev Raws : ℕ → List ℕ → Type 0
Raws h s = (run_of (Raw h) s).0 ≡ Closed → RawRead h s (run_of (Raw h) s).1

abbrev Ends : ℕ → ℕ → List ℕ → Type 0
Ends h n s = (run_of (RawHashes n h) s).0 ≡ Closed → (s ≡ hashes n ++ (run_of (RawHashes n h) s).1) ⊎ RawRead h s (run_of (RawHashes n h) s).1

no_hashes : (h : ℕ) (s : List ℕ) → h ≡ 0 → s ≡ hashes h ++ s
no_hashes zero s e = refl
no_hashes (suc h) s e = absurd (omega (arith, e))

closed_here : (h b : ℕ) (s : List ℕ) → b ≡ 34 → h ≡ 0 → RawRead h (b ∷ s) (run_of Closed s).1
closed_here h b s e z = subst (λ (r : List ℕ). RawRead h (b ∷ s) r) (sym (ap (λ (x : Scan × List ℕ). x.1) (closed_run s))) (here h b s s e (no_hashes h s z))

either : (h b : ℕ) (s r : List ℕ) → b ≡ 34 → (s ≡ hashes h ++ r) ⊎ RawRead h s r → RawRead h (b ∷ s) r
either h b s r e (inl k) = here h b s r e k
either h b s r e (inr k) = longer h b s r k

is_same : (b n : ℕ) → (b == n) ≡ true → b ≡ n
is_same b n h = grind (arith, nat_tests)

is_some : (n : ℕ) → (n == 0) ≡ false → 0 < n
is_some n h = grind (arith, nat_tests)

quote_on : (z : Bool) (h b : ℕ) (s : List ℕ) → (h == 0) ≡ z → b ≡ 34 → ((n : ℕ) → 0 < n → Ends h n s) → (run_of (if z then Closed else RawHashes h h) s).0 ≡ Closed → RawRead h (b ∷ s) (run_of (if z then Closed else RawHashes h h) s).1
quote_on true h b s z e g k = closed_here h b s e (is_same h 0 z)
quote_on false h b s z e g k = either h b s (run_of (RawHashes h h) s).1 e (g h (is_some h z) k)

raw_on : (q : Bool) (h b : ℕ) (s : List ℕ) → (b == 34) ≡ q → Raws h s → ((n : ℕ) → 0 < n → Ends h n s) → (run_of (if q then after_raw_quote_of h else Raw h) s).0 ≡ Closed → RawRead h (b ∷ s) (run_of (if q then after_raw_quote_of h else Raw h) s).1
raw_on true h b s e f g k = quote_on (h == 0) h b s refl (is_same b 34 e) g k
raw_on false h b s e f g k = longer h b s (run_of (Raw h) s).1 (f k)

last_hash : (n b : ℕ) (s r : List ℕ) → b ≡ 35 → 0 < n → nat_le n 1 ≡ true → r ≡ s → b ∷ s ≡ hashes n ++ r
last_hash zero b s r e l m k = absurd (omega (arith, l))
last_hash (suc zero) b s r e l m k = ap (λ x. x ∷ s) e ∙ ap (λ z. 35 ∷ z) (sym k)
last_hash (suc (suc n)) b s r e l m k = absurd (grind (arith, nat_tests))

more_hashes : (n b : ℕ) (s r : List ℕ) → b ≡ 35 → 0 < n → s ≡ hashes (n - 1) ++ r → b ∷ s ≡ hashes n ++ r
more_hashes zero b s r e l k = absurd (omega (arith, l))
more_hashes (suc n) b s r e l k =
    let p : suc n - 1 ≡ n = omega arith in
    ap (λ x. x ∷ s) e ∙ ap (λ z. 35 ∷ z) (k ∙ ap (λ (m : ℕ). hashes m ++ r) p)

one_more_hash : (h n b : ℕ) (s r : List ℕ) → b ≡ 35 → 0 < n → (s ≡ hashes (n - 1) ++ r) ⊎ RawRead h s r → (b ∷ s ≡ hashes n ++ r) ⊎ RawRead h (b ∷ s) r
one_more_hash h n b s r e l (inl k) = inl (more_hashes n b s r e l k)
one_more_hash h n b s r e l (inr k) = inr (longer h b s r k)

fewer : (n : ℕ) → nat_le n 1 ≡ false → 0 < n - 1
fewer n h = grind (arith, nat_tests)

hash_on : (z : Bool) (h n b : ℕ) (s : List ℕ) → nat_le n 1 ≡ z → b ≡ 35 → 0 < n → ((m : ℕ) → 0 < m → Ends h m s) → (run_of (if z then Closed else RawHashes (n - 1) h) s).0 ≡ Closed → (b ∷ s ≡ hashes n ++ (run_of (if z then Closed else RawHashes (n - 1) h) s).1) ⊎ RawRead h (b ∷ s) (run_of (if z then Closed else RawHashes (n - 1) h) s).1
hash_on true h n b s z e l g k = inl (last_hash n b s (run_of Closed s).1 e l z (ap (λ (x : Scan × List ℕ). x.1) (closed_run s)))
hash_on false h n b s z e l g k = one_more_hash h n b s (run_of (RawHashes (n - 1) h) s).1 e l (g (n - 1) (fewer n z) k)

ends_on : (q : Bool) (h n b : ℕ) (s : List ℕ) → (b == 35) ≡ q → 0 < n → Raws h s → ((m : ℕ) → 0 < m → Ends h m s) → (run_of (if not q then raw_of h b else (if nat_le n 1 then Closed else RawHashes (n - 1) h)) s).0 ≡ Closed → (b ∷ s ≡ hashes n ++ (run_of (if not q then raw_of h b else (if nat_le n 1 then Closed else RawHashes (n - 1) h)) s).1) ⊎ RawRead h (b ∷ s) (run_of (if not q then raw_of h b else (if nat_le n 1 then Closed else RawHashes (n - 1) h)) s).1
ends_on true h n b s e l f g k = hash_on (nat_le n 1) h n b s refl (is_same b 35 e) l g k
ends_on false h n b s e l f g k = inr (raw_on (b == 34) h b s refl f g k)

raw_unclosed : (h : ℕ) → Raw h ≡ Closed → RawRead h [] []
raw_unclosed h e = (let bad : Raw h ≡ Closed = e in cc)

ends_unclosed : (h n : ℕ) → RawHashes n h ≡ Closed → ([] ≡ hashes n ++ []) ⊎ RawRead h [] []
ends_unclosed h n e = (let bad : RawHashes n h ≡ Closed = e in cc)

both : (h : ℕ) (s : List ℕ) → Raws h s × ((n : ℕ) → 0 < n → Ends h n s)
unfolding run_of
both h [] = (raw_unclosed h, λ n l. ends_unclosed h n)
both h (b ∷ s) =
    let k = both h s in
    (raw_on (b == 34) h b s refl k.0 k.1, λ n l. ends_on (b == 35) h n b s refl l k.0 k.1)

pub raws_read : (h : ℕ) (s : List ℕ) → (run_of (Raw h) s).0 ≡ Closed → RawRead h s (run_of (Raw h) s).1
raws_read h s = (both h s).0
