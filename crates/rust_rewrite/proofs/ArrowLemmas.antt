-- The arrows of a text.
use Rattle.std.proofs.Common.{◌≡◌, ◌↔◌, ℕ, ◌+◌, ◌<◌, ◌≤◌, List, [], ◌∷◌, ◌++◌, length, take, drop, refl, sym, ap, ◌∙◌, arith, length-append, Option, Some, None, append_assoc, ⊎_elim, true, Result, Ok, Err}
use Rattle.std.specs.Prelude.{MatchOption, MatchResult, IfErr}
use Rattle.std.proofs.lemmas.Bool.{cases_lt}
use Rattle.std.proofs.lemmas.List.{drop-append-le, take-append-drop}
use Rattle.std.specs.Str.Pattern.{FindsText, MatchBeginsAt, SplitsAroundMatch}
use denote.Ref.{Bor}
use Rattle.tree_match.specs.declared.rule.Rule.{Rule}
use Rattle.rust_rewrite.specs.declared.error.RuleError.{RuleError}
use Rattle.rust_rewrite.specs.declared.error.RuleFault.{RuleFault}
use Rattle.rust_rewrite.specs.declared.error.RuleFault.TheVariants as fault
use Rattle.rust_rewrite.specs.Rules.{arrow, HasArrow, HasTwo, HasOne, IsFirstSplit, is_other, IsRuleFault}

drop_all : (a b : List ℕ) → drop (length a) (a ++ b) ≡ b
drop_all [] b = refl
drop_all (x ∷ a) b = drop_all a b

at_arrow : (s a b : List ℕ) → s ≡ a ++ (arrow ++ b) → drop (length a) s ≡ arrow ++ b
at_arrow s a b e = ap (drop (length a)) e ∙ drop_all a (arrow ++ b)

none_there : (s : List ℕ) → FindsText arrow s None → HasArrow s → ⊥
none_there s f h = f (length h.0) (omega (arith, ap length h.2, length-append h.0 (arrow ++ h.1))) h.1 (at_arrow s h.0 h.1 h.2)

cut_there : (s : List ℕ) (i j : ℕ) → FindsText arrow s (Some (i, j)) → s ≡ take i s ++ (arrow ++ drop j s)
cut_there s i j f = sym (take-append-drop i s) ∙ ap (λ k. take i s ++ k) f.1.split

-- what `find` says of an arrow
pub arrow_found : (s : List ℕ) (r : Option ℕ) → MatchOption r (FindsText arrow s None) (MatchBeginsAt (FindsText arrow) s) → MatchOption r (HasArrow s → ⊥) (λ _. HasArrow s)
arrow_found s None f = none_there s f
arrow_found s (Some i) f = (take i s, drop f.0 s, cut_there s i f.0 f.1)

-- no arrow begins before the first one
first_begins : (s a b : List ℕ) (i j : ℕ) → FindsText arrow s (Some (i, j)) → s ≡ a ++ (arrow ++ b) → i ≤ length a
first_begins s a b i j f e = ⊎_elim (λ lt. absurd (f.0 (length a) lt b (at_arrow s a b e))) (λ le. le) (cases_lt (length a) i)

-- so two arrows leave one behind the first
one_behind : (s : List ℕ) (i j : ℕ) → FindsText arrow s (Some (i, j)) → HasTwo s → HasArrow (drop j s)
one_behind s i j f t =
    let a : List ℕ = t.0 in
    let b : List ℕ = t.1 in
    let c : List ℕ = t.3.0 in
    let d : List ℕ = t.3.1 in
    let room : j ≤ length (a ++ arrow) = omega (arith, f.1.ends, first_begins s a b i j f t.2, length-append a arrow) in
    let whole : s ≡ (a ++ arrow) ++ b = t.2 ∙ sym (append_assoc a arrow b) in
    let left : List ℕ = drop j (a ++ arrow) in
    let rest : drop j s ≡ left ++ b = ap (drop j) whole ∙ drop-append-le j (a ++ arrow) b room in
    (left ++ c, d, rest ∙ ap (λ k. left ++ k) t.3.2 ∙ sym (append_assoc left c (arrow ++ d)))

split_at : (s before behind : List ℕ) → SplitsAroundMatch (FindsText arrow) s before behind → IsFirstSplit s before behind
split_at s before behind f =
    let i : ℕ = f.0 in
    let j : ℕ = f.1 in
    let found : FindsText arrow s (Some (i, j)) = f.2 in
    let front : before ≡ take i s = f.3 in
    let back : behind ≡ drop j s = f.4 in
    let parts : s ≡ before ++ (arrow ++ behind) = rw (front, back) (cut_there s i j found) in
    record {
      parts = parts;
      two = ((λ t. rw back (one_behind s i j found t)), (λ h. (before, behind, parts, h)));
    }

-- what `split_once` says of an arrow
pub arrow_split : (s : List ℕ) (r : Option (Bor (List ℕ) × Bor (List ℕ))) → MatchOption r (FindsText arrow s None) (λ x. SplitsAroundMatch (FindsText arrow) s x.0.now x.1.now)
    → MatchOption r (HasArrow s → ⊥) (λ x. IsFirstSplit s x.0.now x.1.now)
arrow_split s None f = none_there s f
arrow_split s (Some x) f = split_at s x.0.now x.1.now f

-- ---- a text with one arrow

pub one_arrow : (s before behind : List ℕ) → IsFirstSplit s before behind → (HasArrow behind → ⊥) → HasOne s
one_arrow s before behind f none = record {
  one = (before, behind, f.parts);
  no_more = λ t. none (f.two.0 t);
}

other_fault : (s : List ℕ) (f : RuleFault) → HasOne s → is_other f ≡ true → IsRuleFault s f
other_fault s fault.NoArrow h e = absurd (cc)
other_fault s fault.FurtherArrow h e = absurd (cc)
other_fault s fault.NoName h e = h
other_fault s fault.NoBrace h e = h
other_fault s fault.NoCondition h e = h
other_fault s fault.NoOpening h e = h
other_fault s fault.NoClosing h e = h
other_fault s (fault.UnknownKind k) h e = h
other_fault s fault.NoRegex h e = h
other_fault s (fault.BadRegex x) h e = h
other_fault s fault.TemplateCondition h e = h
other_fault s fault.Joined h e = h
other_fault s fault.Unknown h e = h
other_fault s (fault.Syntax m) h e = h
other_fault s fault.Misplaced h e = h
other_fault s fault.ListName h e = h
other_fault s fault.ListTwice h e = h
other_fault s fault.Everything h e = h
other_fault s fault.TooLong h e = h
other_fault s fault.Memory h e = h

pub one_told : (s before behind : List ℕ) (r : Result Rule RuleError) → IsFirstSplit s before behind → (HasArrow behind → ⊥)
    → IfErr r (λ e. is_other e.fault ≡ true) → MatchResult r (λ _. HasOne s) (λ e. IsRuleFault s e.fault)
one_told s before behind (Ok x) f none h = one_arrow s before behind f none
one_told s before behind (Err e) f none h = other_fault s e.fault (one_arrow s before behind f none) h
