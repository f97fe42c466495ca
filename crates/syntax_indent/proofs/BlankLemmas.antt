-- What is left out of white space.
use Rattle.std.proofs.Common.{◌≡◌, ℕ, zero, suc, ◌+◌, ◌-◌, List, [], ◌∷◌, ◌++◌, refl, sym, ap, ◌∙◌, arith, true, false, Bool, not, ◌&&◌, filter, replicate, inl, inr}
use Rattle.std.specs.Prelude.{if◌then◌else◌, nat_lt}
use Rattle.std.specs.List.{list_all}
use Rattle.std.proofs.lemmas.Bool.{cases_Bool}
use Rattle.std.proofs.lemmas.Bool.Decides.{nat_tests}
use Rattle.syntax_indent.specs.Shifted.{is_blank, kept, left_after, without_blanks}
use Rattle.syntax_indent.specs.Others.{is_no_blank, line_of_blanks, OnlyBlanksGo, DedentUndoesIndent}

-- ---- what stays

filter-kept : (left c : ℕ) (cs ds : List ℕ) → filter is_no_blank cs ≡ filter is_no_blank ds → filter is_no_blank (kept left c ++ cs) ≡ filter is_no_blank (c ∷ ds)
filter-kept left c cs ds h = elim (cases_Bool (is_blank c)) [
  | inl yes' ↦ ap (λ b. filter is_no_blank ((if b && nat_lt 0 left then [] else (c ∷ [])) ++ cs)) yes' ∙ blank (nat_lt 0 left) yes'
  | inr no' ↦ ap (λ b. filter is_no_blank ((if b && nat_lt 0 left then [] else (c ∷ [])) ++ cs)) no' ∙ stays
]
  where
    stays : filter is_no_blank (c ∷ cs) ≡ filter is_no_blank (c ∷ ds)
    stays = ap (λ l. if is_no_blank c then c ∷ l else l) h

    blank : (b : Bool) → is_blank c ≡ true → filter is_no_blank ((if b then [] else (c ∷ [])) ++ cs) ≡ filter is_no_blank (c ∷ ds)
    blank true e = h ∙ sym (ap (λ b. if not b then c ∷ filter is_no_blank ds else filter is_no_blank ds) e)
    blank false e = stays

pub only_blanks_go : OnlyBlanksGo
only_blanks_go count left [] = refl
only_blanks_go count left (c ∷ cs) = filter-kept left c (without_blanks count (left_after count left c) cs) cs (only_blanks_go count (left_after count left c) cs)

-- ---- blanks that were put in

no_more : (count own : ℕ) → without_blanks count 0 (replicate own 32) ≡ replicate own 32
no_more count zero = refl
no_more count (suc own) = ap (λ l. 32 ∷ l) (no_more count own)

left_out : (count left : ℕ) (cs : List ℕ) → without_blanks count (suc left) (32 ∷ cs) ≡ without_blanks count left cs
left_out count left cs =
    let less : suc left - 1 ≡ left = omega arith in
    ap (λ b. (if b then [] else (32 ∷ [])) ++ without_blanks count (suc left - 1) cs) (some left) ∙ ap (λ n. without_blanks count n cs) less
  where
    some : (n : ℕ) → nat_lt 0 (suc n) ≡ true
    some n = grind (arith, nat_tests)

as_many : (count left own : ℕ) → without_blanks count left (replicate (left + own) 32) ≡ replicate own 32
as_many count zero own = ap (λ n. without_blanks count 0 (replicate n 32)) (let e : 0 + own ≡ own = omega arith in e) ∙ no_more count own
as_many count (suc left) own =
    let e : suc left + own ≡ suc (left + own) = omega arith in
    ap (λ n. without_blanks count (suc left) (replicate n 32)) e ∙ left_out count left (replicate (left + own) 32) ∙ as_many count left own

last_line : (count left own : ℕ) → without_blanks count left (line_of_blanks (count + own)) ≡ line_of_blanks own
last_line count left own = ap (λ l. 10 ∷ l) (as_many count count own)

kept-other : (left c : ℕ) → is_no_blank c ≡ true → kept left c ≡ c ∷ []
kept-other left c h = elim (cases_Bool (is_blank c)) [
  | inl yes' ↦ (let no : false ≡ true = sym (ap not yes') ∙ h in cc)
  | inr no' ↦ ap (λ b. if b && nat_lt 0 left then [] else (c ∷ [])) no'
]

all_but : (count left own : ℕ) (lines : List ℕ) → list_all is_no_blank lines ≡ true → without_blanks count left (lines ++ line_of_blanks (count + own)) ≡ lines ++ line_of_blanks own
all_but count left own [] h = last_line count left own
all_but count left own (c ∷ cs) h =
    let both : (is_no_blank c ≡ true) × (list_all is_no_blank cs ≡ true) = parts (is_no_blank c) (list_all is_no_blank cs) h in
    ap (λ l. l ++ without_blanks count (left_after count left c) (cs ++ line_of_blanks (count + own))) (kept-other left c both.0)
    ∙ ap (λ l. c ∷ l) (all_but count (left_after count left c) own cs both.1)
  where
    parts : (a b : Bool) → a && b ≡ true → (a ≡ true) × (b ≡ true)
    parts true b h = (refl, h)
    parts false b h = (let no : false ≡ true = h in cc)

pub dedent_undoes_indent : DedentUndoesIndent
dedent_undoes_indent more own lines h = all_but more 0 own lines h
