-- The test `meets` decides what a place demands.
use Rattle.std.proofs.Common.{◌≡◌, true, not, leb, ap, leb-true, le-leb}
use Rattle.operator_terms.specs.Term.{Term, level, is_field}
use Rattle.operator_terms.specs.Places.{Demand, AtLeast, Callee, Meets, meets}
use Rattle.operator_terms.proofs.Bools.{both-true, true-both, not-true}

pub meets-true : (d : Demand) (t : Term) → Meets d t → meets d t ≡ true
meets-true (AtLeast k) t h = le-leb k (level t) h
meets-true Callee t h = true-both (leb 13 (level t)) (not (is_field t)) (le-leb 13 (level t) h.0) (ap not h.1)

pub true-meets : (d : Demand) (t : Term) → meets d t ≡ true → Meets d t
true-meets (AtLeast k) t h = leb-true k (level t) h
true-meets Callee t h = let parts = both-true (leb 13 (level t)) (not (is_field t)) h in (leb-true 13 (level t) parts.0, not-true (is_field t) parts.1)
