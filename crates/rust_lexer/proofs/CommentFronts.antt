-- The law of block comments.
use Rattle.std.proofs.Common.{◌≡◌, ◌≢◌, ◌↔◌, ℕ, suc, ◌+◌, ◌-◌, ◌^◌, ◌<◌, min, Bool, true, false, not, ◌==◌, if◌then◌else◌, Some, List, [], ◌∷◌, length, ap, sym, ◌∙◌, refl, subst, arith}
use Rattle.std.specs.Prelude.{slice_get}
use Rattle.std.proofs.lemmas.Bool.Decides.{nat_tests}
use Rattle.rust_lexer.specs.declared.scan.Scan.{Scan}
use Rattle.rust_lexer.specs.declared.scan.Scan.TheVariants.{Comment, CommentSlash, CommentStar, Closed}
use Rattle.rust_lexer.specs.CommentLaws.{Closes, ends, closes, opens, goes_on}
use Rattle.rust_lexer.specs.Scans.{run_of, comment_of}
use Rattle.rust_lexer.proofs.Fronts.{closed_run, is_same, is_other, other_is}

abbrev Reads : ℕ → List ℕ → Type 0
Reads d s = (run_of (Comment d) s).0 ≡ Closed → Closes d s (run_of (Comment d) s).1

abbrev ReadsSlash : ℕ → List ℕ → Type 0
ReadsSlash d s = (run_of (CommentSlash d) s).0 ≡ Closed → Closes d (47 ∷ s) (run_of (CommentSlash d) s).1

abbrev ReadsStar : ℕ → List ℕ → Type 0
ReadsStar d s = (run_of (CommentStar d) s).0 ≡ Closed → Closes d (42 ∷ s) (run_of (CommentStar d) s).1

abbrev on : Bool → Bool → ℕ → Scan
on p q d = if p then CommentSlash d else (if q then CommentStar d else Comment d)

comment_on : (p q : Bool) (d b : ℕ) (s : List ℕ) → (b == 47) ≡ p → (b == 42) ≡ q → Reads d s → ReadsSlash d s → ReadsStar d s
    → (run_of (on p q d) s).0 ≡ Closed → Closes d (b ∷ s) (run_of (on p q d) s).1
comment_on true q d b s h k f g w e = subst (λ (x : ℕ). Closes d (x ∷ s) (run_of (CommentSlash d) s).1) (sym (is_same b 47 h)) (g e)
comment_on false true d b s h k f g w e = subst (λ (x : ℕ). Closes d (x ∷ s) (run_of (CommentStar d) s).1) (sym (is_same b 42 k)) (w e)
comment_on false false d b s h k f g w e =
    goes_on d b s (run_of (Comment d) s).1 (λ is first. is_other b 47 h is) (λ is first. is_other b 42 k is) (f e)

same_first : (b x : ℕ) (s : List ℕ) → slice_get (b ∷ s) 0 ≡ Some x → b ≡ x
same_first b x s h = cc

deeper : (d n : ℕ) → d + suc n < 2 ^ 32 → min (d + 1) (2 ^ 32 - 1) ≡ suc d
deeper d n h = omega (arith, h)

opened : (d b : ℕ) (s : List ℕ) → b ≡ 42 → d + suc (length s) < 2 ^ 32 → Reads (suc d) s
    → (run_of (Comment (min (d + 1) (2 ^ 32 - 1))) s).0 ≡ Closed → Closes d (47 ∷ b ∷ s) (run_of (Comment (min (d + 1) (2 ^ 32 - 1))) s).1
opened d b s is h f e =
    let m = deeper d (length s) h in
    subst (λ (x : ℕ). Closes d (47 ∷ x ∷ s) (run_of (Comment (min (d + 1) (2 ^ 32 - 1))) s).1) (sym is)
    (subst (λ (x : ℕ). Closes d (47 ∷ 42 ∷ s) (run_of (Comment x) s).1) (sym m)
    (opens d s (run_of (Comment (suc d)) s).1 (f (subst (λ (x : ℕ). (run_of (Comment x) s).0 ≡ Closed) m e))))

slash_on : (q : Bool) (d b : ℕ) (s : List ℕ) → (b == 42) ≡ q → d + suc (length s) < 2 ^ 32 → Reads (suc d) s
    → ((run_of (comment_of d b) s).0 ≡ Closed → Closes d (b ∷ s) (run_of (comment_of d b) s).1)
    → (run_of (if q then Comment (min (d + 1) (2 ^ 32 - 1)) else comment_of d b) s).0 ≡ Closed
    → Closes d (47 ∷ b ∷ s) (run_of (if q then Comment (min (d + 1) (2 ^ 32 - 1)) else comment_of d b) s).1
slash_on true d b s k h f g e = opened d b s (is_same b 42 k) h f e
slash_on false d b s k h f g e =
    goes_on d 47 (b ∷ s) (run_of (comment_of d b) s).1 (λ is first. is_other b 42 k (same_first b 42 s first)) (λ is first. absurd (omega (arith, is))) (g e)

ended : (d b : ℕ) (s : List ℕ) → b ≡ 47 → d ≡ 0 → Closes d (42 ∷ b ∷ s) (run_of Closed s).1
ended d b s is none =
    subst (λ (r : List ℕ). Closes d (42 ∷ b ∷ s) r) (sym (ap (λ (x : Scan × List ℕ). x.1) (closed_run s)))
    (subst (λ (x : ℕ). Closes d (42 ∷ x ∷ s) s) (sym is) (subst (λ (x : ℕ). Closes x (42 ∷ 47 ∷ s) s) (sym none) (ends s)))

closed_one : (d b : ℕ) (s : List ℕ) → b ≡ 47 → d ≢ 0 → Reads (d - 1) s → (run_of (Comment (d - 1)) s).0 ≡ Closed → Closes d (42 ∷ b ∷ s) (run_of (Comment (d - 1)) s).1
closed_one d b s is some f e =
    let m : suc (d - 1) ≡ d = omega (arith, some) in
    subst (λ (x : ℕ). Closes d (42 ∷ x ∷ s) (run_of (Comment (d - 1)) s).1) (sym is)
    (subst (λ (x : ℕ). Closes x (42 ∷ 47 ∷ s) (run_of (Comment (d - 1)) s).1) m (closes (d - 1) s (run_of (Comment (d - 1)) s).1 (f e)))

star_end : (z : Bool) (d b : ℕ) (s : List ℕ) → (d == 0) ≡ z → b ≡ 47 → Reads (d - 1) s
    → (run_of (if z then Closed else Comment (d - 1)) s).0 ≡ Closed → Closes d (42 ∷ b ∷ s) (run_of (if z then Closed else Comment (d - 1)) s).1
star_end true d b s h is f e = ended d b s is (is_same d 0 h)
star_end false d b s h is f e = closed_one d b s is (is_other d 0 h) f e

star_on : (q : Bool) (d b : ℕ) (s : List ℕ) → (b == 47) ≡ q → Reads (d - 1) s
    → ((run_of (comment_of d b) s).0 ≡ Closed → Closes d (b ∷ s) (run_of (comment_of d b) s).1)
    → (run_of (if not q then comment_of d b else (if d == 0 then Closed else Comment (d - 1))) s).0 ≡ Closed
    → Closes d (42 ∷ b ∷ s) (run_of (if not q then comment_of d b else (if d == 0 then Closed else Comment (d - 1))) s).1
star_on true d b s k f g e = star_end (d == 0) d b s refl (is_same b 47 k) f e
star_on false d b s k f g e =
    goes_on d 42 (b ∷ s) (run_of (comment_of d b) s).1 (λ is first. absurd (omega (arith, is))) (λ is first. is_other b 47 k (same_first b 47 s first)) (g e)

none : (d : ℕ) → Comment d ≡ Closed → Closes d [] []
none d h = (let bad : Comment d ≡ Closed = h in cc)

none_slash : (d : ℕ) → CommentSlash d ≡ Closed → Closes d (47 ∷ []) []
none_slash d h = (let bad : CommentSlash d ≡ Closed = h in cc)

none_star : (d : ℕ) → CommentStar d ≡ Closed → Closes d (42 ∷ []) []
none_star d h = (let bad : CommentStar d ≡ Closed = h in cc)

all_read : (s : List ℕ) (d : ℕ) → d + length s < 2 ^ 32 → Reads d s × (ReadsSlash d s × ReadsStar d s)
unfolding run_of
all_read [] d h = (none d, (none_slash d, none_star d))
all_read (b ∷ s) d h =
    let k = all_read s d (omega (arith, h)) in
    let read = comment_on (b == 47) (b == 42) d b s refl refl k.0 k.1.0 k.1.1 in (
      read,
      (
        slash_on (b == 42) d b s refl (omega (arith, h)) (all_read s (suc d) (omega (arith, h))).0 read,
        star_on (b == 47) d b s refl (all_read s (d - 1) (omega (arith, h))).0 read,
      ),
    )

-- ---- and the other way

slash_goes_on : (d x : ℕ) (s : List ℕ) → (x == 42) ≡ false → run_of (CommentSlash d) (x ∷ s) ≡ run_of (Comment d) (x ∷ s)
unfolding run_of
slash_goes_on d x s h = ap (λ (p : Bool). run_of (if p then Comment (min (d + 1) (2 ^ 32 - 1)) else comment_of d x) s) h

star_goes_on : (d x : ℕ) (s : List ℕ) → (x == 47) ≡ false → run_of (CommentStar d) (x ∷ s) ≡ run_of (Comment d) (x ∷ s)
unfolding run_of
star_goes_on d x s h = ap (λ (p : Bool). run_of (if not p then comment_of d x else (if d == 0 then Closed else Comment (d - 1))) s) h

step : (d b : ℕ) (s : List ℕ) → run_of (Comment d) (b ∷ s) ≡ run_of (on (b == 47) (b == 42) d) s
unfolding run_of
step d b s = refl

not_empty : (d : ℕ) (r : List ℕ) → Closes d [] r → ⊥
not_empty d r w = elim w [ ]

first_slash : (d b : ℕ) (s r : List ℕ) → b ≡ 47 → (b ≡ 47 → slice_get s 0 ≡ Some 42 → ⊥) → Closes d s r → run_of (CommentSlash d) s ≡ run_of (Comment d) s
first_slash d b [] r is n w = absurd (not_empty d r w)
first_slash d b (x ∷ s) r is n w = slash_goes_on d x s (other_is x 42 (λ e. n is (ap Some e)))

first_star : (d b : ℕ) (s r : List ℕ) → b ≡ 42 → (b ≡ 42 → slice_get s 0 ≡ Some 47 → ⊥) → Closes d s r → run_of (CommentStar d) s ≡ run_of (Comment d) s
first_star d b [] r is n w = absurd (not_empty d r w)
first_star d b (x ∷ s) r is n w = star_goes_on d x s (other_is x 47 (λ e. n is (ap Some e)))

passes : (p q : Bool) (d b : ℕ) (s r : List ℕ) → (b == 47) ≡ p → (b == 42) ≡ q → (b ≡ 47 → slice_get s 0 ≡ Some 42 → ⊥) → (b ≡ 42 → slice_get s 0 ≡ Some 47 → ⊥)
    → Closes d s r → run_of (on p q d) s ≡ run_of (Comment d) s
passes true q d b s r h k n m w = first_slash d b s r (is_same b 47 h) n w
passes false true d b s r h k n m w = first_star d b s r (is_same b 42 k) m w
passes false false d b s r h k n m w = refl

two_open : (d : ℕ) (s : List ℕ) → run_of (Comment d) (47 ∷ 42 ∷ s) ≡ run_of (Comment (min (d + 1) (2 ^ 32 - 1))) s
unfolding run_of
two_open d s = refl

two_close : (d : ℕ) (s : List ℕ) → run_of (Comment d) (42 ∷ 47 ∷ s) ≡ run_of (if d == 0 then Closed else Comment (d - 1)) s
unfolding run_of
two_close d s = refl

some : (d : ℕ) → (suc d == 0) ≡ false
some d = grind (arith, nat_tests)

pub closed_read : (d : ℕ) (s r : List ℕ) → Closes d s r → d + length s < 2 ^ 32 → run_of (Comment d) s ≡ (Closed, r)
closed_read _ _ _ (ends r) h = two_close 0 r ∙ closed_run r
closed_read _ _ _ (closes d s r w) h =
    let one_less : suc d - 1 ≡ d = omega arith in
    two_close (suc d) s ∙ ap (λ (z : Bool). run_of (if z then Closed else Comment (suc d - 1)) s) (some d) ∙ ap (λ k. run_of (Comment k) s) one_less
    ∙ closed_read d s r w (omega (arith, h))
closed_read _ _ _ (opens d s r w) h = two_open d s ∙ ap (λ k. run_of (Comment k) s) (deeper d (length s) (omega (arith, h))) ∙ closed_read (suc d) s r w (omega (arith, h))
closed_read _ _ _ (goes_on d b s r n m w) h = step d b s ∙ passes (b == 47) (b == 42) d b s r refl refl n m w ∙ closed_read d s r w (omega (arith, h))

pub block_comments : (s r : List ℕ) → length s < 2 ^ 32 → Closes 0 s r ↔ (run_of (Comment 0) s ≡ (Closed, r))
block_comments s r h = (
  (λ w. closed_read 0 s r w (omega (arith, h))),
  (λ e. subst (λ (x : List ℕ). Closes 0 s x) (ap (λ (x : Scan × List ℕ). x.1) e) ((all_read s 0 (omega (arith, h))).0 (ap (λ (x : Scan × List ℕ). x.0) e))),
)
