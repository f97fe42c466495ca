-- Characters fed one after another.
use Rattle.std.proofs.Common.{◌≡◌, ℕ, List, [], ◌∷◌, ◌++◌, ap, sym, refl, Some, None, map}
use Rattle.ras_front_end.specs.declared.edition.Edition.{Edition}
use Rattle.tiny_lexer.specs.declared.scan.Scan.{Scan}
use Rattle.tiny_lexer.specs.Lexing.{Lexing, feed_of, feed_on, next_of, begun_of, more_of, end_of, feeds}

pub feed-some : (e : Edition) (s : Lexing) (c : ℕ) (q : Scan) → Some q ≡ next_of s c → feed_of e s c ≡ more_of q c s
unfolding feed_of
feed-some e s c q h = ap (λ o. feed_on e o s c) (sym h)

pub feed-none : (e : Edition) (s : Lexing) (c : ℕ) → None ≡ next_of s c → feed_of e s c ≡ begun_of c (end_of e s)
unfolding feed_of
feed-none e s c h = ap (λ o. feed_on e o s c) (sym h)

pub feeds-none : (e : Edition) (s : Lexing) → feeds e [] s ≡ s
unfolding feeds
feeds-none e s = refl

pub feeds-more : (e : Edition) (cs : List ℕ) (c : ℕ) (s : Lexing) → feeds e (cs ++ (c ∷ [])) s ≡ feed_of e (feeds e cs s) c
unfolding feeds
feeds-more e [] c s = refl
feeds-more e (x ∷ cs) c s = feeds-more e cs c (feed_of e s x)

pub map-same : (cs : List ℕ) → map (λ (x : ℕ). x) cs ≡ cs
map-same [] = refl
map-same (c ∷ cs) = ap (λ z. c ∷ z) (map-same cs)
