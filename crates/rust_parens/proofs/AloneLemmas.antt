-- Pairs that stay by an expression around them.
use Rattle.std.proofs.Common.{◌≡◌, ◌↔◌, ℕ, ◌≤◌, Bool, true, false, not, List, [], ◌∷◌, ◌++◌, length, IsTrue, refl, sym, ap, subst, ◌∙◌, get_or, inl, inr, arith}
use Rattle.std.specs.Prelude.{◌^◌}
use Rattle.tree_model.specs.Tree.{text}
use Rattle.tree_model.specs.Cursor.{Cursor, ancestors_of}
use Rattle.ras_front_end.specs.declared.edition.Entry.{Entry}
use Rattle.ras_front_end.specs.declared.edition.Entry.TheVariants.{Expr}
use Rattle.ras_front_end.specs.declared.edition.Edition.{Edition}
use Rattle.ras_front_end.specs.Front.{Front}
use Rattle.ras_front_end.specs.Parsed.{Parsed, IsParseOf}
use Rattle.rust_parens.specs.Texts.{marks_of, text_without}
use Rattle.rust_parens.specs.Alone.{IsAlike, IsReadAlone, IsTold, IsToldAround, StaysAlone}
use Rattle.rust_parens.specs.Needless.{Refused}

append_nil : {A : Type 0} (l : List A) → l ++ [] ≡ l
append_nil [] = refl
append_nil (x ∷ l) = ap (λ k. x ∷ k) (append_nil l)

-- a parse of the text without what the marks leave out, and whether it is alike
pub answered : (front : Front) (edition : Edition) (around : Cursor) (marks : List Bool) (s : List ℕ) (p : Parsed) (b : Bool)
    → s ≡ text_without marks around → IsParseOf s (front.parsed Expr edition s) p → IsTrue b ↔ IsAlike around marks p
    → IsReadAlone front edition around marks b
answered front edition around marks s p true e is h = record {
  parse = p;
  is_parse = subst (λ t. IsParseOf t (front.parsed Expr edition t) p) e is;
  alike = h.0 refl;
}
answered front edition around marks s p false e is h = inr (record {
  parse = p;
  is_parse = subst (λ t. IsParseOf t (front.parsed Expr edition t) p) e is;
  differs = λ a. let bad : false ≡ true = h.1 a in cc;
})

-- such a text that is too long
pub too_long : (front : Front) (edition : Edition) (around : Cursor) (marks : List Bool) (s : List ℕ)
    → s ≡ text_without marks around → 2 ^ 32 ≤ length s → IsReadAlone front edition around marks false
too_long front edition around marks s e h = inl (subst (λ t. 2 ^ 32 ≤ length t) e h)

-- it is read alone without the first marks, and not without the others
pub told : (front : Front) (edition : Edition) (around : Cursor) (kept marks : List Bool) (a b : Bool)
    → a ≡ true → IsReadAlone front edition around kept a → IsReadAlone front edition around marks b → IsTrue (not b)
    → IsTold front edition around kept marks
told front edition around kept marks a true e ra rb h = absurd (let bad : false ≡ true = h in cc)
told front edition around kept marks a false e ra rb h = record {
  reads = subst (λ c. IsReadAlone front edition around kept c) e ra;
  fails = rb;
}

-- the ancestor that a walk is at tells them apart
pub told_at : (front : Front) (edition : Edition) (pair around : Cursor) (below left above : List Cursor) (kept marks : List Bool)
    → below ++ left ≡ ancestors_of pair → left ≡ around ∷ above → IsTold front edition around kept marks
    → IsToldAround front edition pair kept marks
told_at front edition pair around below left above kept marks e is told = record {
  around = around;
  below = below;
  above = above;
  is_around = sym e ∙ ap (λ l. below ++ l) is;
  is_told = told;
}

pub stays : (front : Front) (edition : Edition) (len : ℕ) (before pairs : List Cursor) (pair : Cursor) (kept marks : List Bool)
    → length pairs ≡ 1 → pair ≡ get_or pairs 0 pair
    → kept ≡ marks_of len (before ++ []) → marks ≡ marks_of len (before ++ pairs)
    → IsToldAround front edition pair kept marks → StaysAlone front edition len before pairs
stays front edition len before pairs pair kept marks one is k m told = record {
  pair = pair;
  is_pair = single pairs pair one is;
  is_told =
      subst (λ l. IsToldAround front edition pair (marks_of len l) (marks_of len (before ++ pairs))) (append_nil before)
      (subst (λ l. IsToldAround front edition pair l (marks_of len (before ++ pairs))) k
      (subst (λ l. IsToldAround front edition pair kept l) m told));
}
  where
    single : (l : List Cursor) (x : Cursor) → length l ≡ 1 → x ≡ get_or l 0 x → l ≡ x ∷ []
    single [] x e f = absurd (let bad : 0 ≡ 1 = e in omega (arith, bad))
    single (y ∷ []) x e f = ap (λ z. z ∷ []) (sym f)
    single (y ∷ (z ∷ l)) x e f = absurd (omega (arith, e))

pub refused : (front : Front) (entry : Entry) (edition : Edition) (old : Parsed) (before pairs : List Cursor) (len : ℕ)
    → len ≡ length (text old.tree) → StaysAlone front edition len before pairs → Refused front entry edition old (before ++ pairs)
refused front entry edition old before pairs len is so = inr (inr (record {
  before = before;
  last = pairs;
  are = refl;
  stays = subst (λ n. StaysAlone front edition n before pairs) is so;
}))

append_list : {A : Type 0} (l : List A) (x : A) (m : List A) → l ++ (x ∷ m) ≡ (l ++ x ∷ []) ++ m
append_list [] x m = refl
append_list (y ∷ l) x m = ap (λ k. y ∷ k) (append_list l x m)

-- a walk over the ancestors of a pair, one further
pub walked : (pair around : Cursor) (left rest : List Cursor) → (below : List Cursor) × (below ++ left ≡ ancestors_of pair)
    → left ≡ around ∷ rest → (below : List Cursor) × (below ++ rest ≡ ancestors_of pair)
walked pair around left rest before is =
    (before.0 ++ around ∷ [], sym (append_list before.0 around rest) ∙ ap (λ l. before.0 ++ l) (sym is) ∙ before.1)
