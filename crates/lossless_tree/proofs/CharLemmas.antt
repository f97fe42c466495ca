-- The character at a byte of a text.
use Rattle.std.proofs.Common.{◌≡◌, ℕ, List, [], ◌∷◌, drop, sym, ap, subst, ◌∙◌}
use Rattle.std.specs.Prelude.{Option, MatchOption, slice_get}
use Rattle.std.specs.Str.{chars, IsCharBoundary}
use Rattle.lossless_tree.specs.SyntaxText.{StartsAt, NoneStartsAt}

there : (s cs : List ℕ) (o : ℕ) (r : Option ℕ) → IsCharBoundary s o → chars (drop o s) ≡ cs → r ≡ slice_get cs 0 → MatchOption r (NoneStartsAt s o) (StartsAt s o)
there s [] o r b is e = subst (λ r. MatchOption r (NoneStartsAt s o) (StartsAt s o)) (sym e) (λ c w. (let no : [] ≡ c ∷ w.later = sym is ∙ w.is in cc))
there s (c ∷ cs) o r b is e = subst (λ r. MatchOption r (NoneStartsAt s o) (StartsAt s o)) (sym e) (record { boundary = b; later = cs; is = is })

-- the first character after a boundary
pub first_char : (s l : List ℕ) (o : ℕ) (r : Option ℕ) → IsCharBoundary s o → l ≡ drop o s → r ≡ slice_get (chars l) 0 → MatchOption r (NoneStartsAt s o) (StartsAt s o)
first_char s l o r b is e = there s (chars l) o r b (ap chars (sym is)) e
