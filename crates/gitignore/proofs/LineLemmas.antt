-- Blanks at the end of a line, and lines behind each other.
use Rattle.std.proofs.Common.{◌≡◌, ℕ, ◌<◌, ◌≤◌, ◌+◌, ◌==◌, Bool, true, false, cond, List, [], ◌∷◌, ◌++◌, length, get_or, take, drop, Some, refl, sym, ap, ◌∙◌, subst, arith}
use Rattle.std.specs.Prelude.{position}
use Rattle.std.proofs.lemmas.List.{drop_more, drop_all}
use Rattle.std.proofs.lemmas.Bool.{eqb-true}
use Rattle.gitignore.specs.declared.line.Rule.{Rule}
use Rattle.gitignore.specs.Lines.{kept, is_feed, IsRuleOf, LinesAt}

differs : (b n : ℕ) → (b ≡ n → ⊥) → (b == n) ≡ false
differs b n h = go (b == n) refl
  where
    go : (t : Bool) → (b == n) ≡ t → t ≡ false
    go false e = refl
    go true e = absurd (h (eqb-true b n e))

blank : (k n : ℕ) (bs : List ℕ) → kept k n (32 ∷ bs) ≡ kept k (n + 1) bs
blank k n [] = refl
blank k n (c ∷ cs) = refl

other : (k n b : ℕ) (bs : List ℕ) → (b == 32) ≡ false → (b == 92) ≡ false → kept k n (b ∷ bs) ≡ kept (n + 1) (n + 1) bs
other k n b [] e f = ap (λ t. cond t k (n + 1)) e
other k n b (c ∷ cs) e f =
    ap (λ t. cond t (kept k (n + 1) (c ∷ cs)) (cond (b == 92) (kept (n + 2) (n + 2) cs) (kept (n + 1) (n + 1) (c ∷ cs)))) e
    ∙ ap (λ t. cond t (kept (n + 2) (n + 2) cs) (kept (n + 1) (n + 1) (c ∷ cs))) f

last : (k n b : ℕ) → (b == 32) ≡ false → kept k n (b ∷ []) ≡ kept (n + 1) (n + 1) []
last k n b e = ap (λ t. cond t k (n + 1)) e

pub keep_blank : (k at : ℕ) (line : List ℕ) (all : ℕ) → at < length line → get_or line at 0 ≡ 32 → kept k at (drop at line) ≡ all
    → kept k (at + 1) (drop (at + 1) line) ≡ all
keep_blank k at line all h e before =
    sym (ap (kept k at) (drop_more line at 0 h ∙ ap (λ b. b ∷ drop (at + 1) line) e) ∙ blank k at (drop (at + 1) line)) ∙ before

pub keep_pair : (k at : ℕ) (line : List ℕ) (all : ℕ) → at + 1 < length line → get_or line at 0 ≡ 92 → kept k at (drop at line) ≡ all
    → kept (at + 2) (at + 2) (drop (at + 2) line) ≡ all
keep_pair k at line all h e before =
    sym (ap (kept k at) (drop_more line at 0 (omega (arith, h)) ∙ ap (λ b. b ∷ drop (at + 1) line) e
    ∙ ap (λ l. 92 ∷ l) (drop_more line (at + 1) 0 h ∙ ap (λ n. get_or line (at + 1) 0 ∷ drop n line) (let two : at + 1 + 1 ≡ at + 2 = omega arith in two)))) ∙ before

pub keep_other : (k at : ℕ) (line : List ℕ) (all : ℕ) → at < length line → (get_or line at 0 ≡ 32 → ⊥) → (get_or line at 0 ≡ 92 → ⊥) → kept k at (drop at line) ≡ all
    → kept (at + 1) (at + 1) (drop (at + 1) line) ≡ all
keep_other k at line all h e f before =
    sym (ap (kept k at) (drop_more line at 0 h)
    ∙ other k at (get_or line at 0) (drop (at + 1) line) (differs (get_or line at 0) 32 e) (differs (get_or line at 0) 92 f)) ∙ before

pub keep_last : (k at : ℕ) (line : List ℕ) (all : ℕ) → at < length line → length line ≤ at + 1 → (get_or line at 0 ≡ 32 → ⊥) → kept k at (drop at line) ≡ all
    → kept (at + 1) (at + 1) (drop (at + 1) line) ≡ all
keep_last k at line all h ends e before =
    let none = drop_all (at + 1) line ends in
    sym (ap (kept k at) (drop_more line at 0 h ∙ ap (λ l. get_or line at 0 ∷ l) none)
    ∙ last k at (get_or line at 0) (differs (get_or line at 0) 32 e) ∙ ap (kept (at + 1) (at + 1)) (sym none)) ∙ before

-- one more line
pub one_more : (text : List ℕ) (rules : List Rule) (rest : List ℕ) (r : Rule) (n : ℕ) → LinesAt text rules rest → position is_feed rest ≡ Some n → IsRuleOf (take n rest) r
    → LinesAt text (rules ++ r ∷ []) (drop (n + 1) rest)
one_more text [] rest r n e at is =
    (n, ap (position is_feed) e ∙ at, subst (λ l. IsRuleOf (take n l) r) (sym e) is, ap (drop (n + 1)) e)
one_more text (q ∷ qs) rest r n before at is = (before.0, before.1, before.2, one_more (drop (before.0 + 1) text) qs rest r n before.3 at is)

pub line_read : (text : List ℕ) (rules new : List Rule) (rest line behind : List ℕ) (r : Rule) (n : ℕ) → LinesAt text rules rest → position is_feed rest ≡ Some n
    → line ≡ take n rest → IsRuleOf line r → new ≡ rules ++ r ∷ [] → behind ≡ drop (n + 1) rest → LinesAt text new behind
line_read text rules new rest line behind r n before at cut is pushed left =
    subst (λ l. LinesAt text l behind) (sym pushed)
    (subst (λ l. LinesAt text (rules ++ r ∷ []) l) (sym left) (one_more text rules rest r n before at (subst (λ l. IsRuleOf l r) cut is)))
