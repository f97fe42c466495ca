-- The ranges of an edit, compared with others one after the other.
use Rattle.std.proofs.Common.{◌≡◌, ℕ, None, List, [], ◌∷◌, length, map, refl, sym, subst, ◌∙◌, ap, arith}
use Rattle.text_size.specs.TextRange.{Bounds}
use Rattle.text_edit.specs.Replacements.{Replacement}
use Rattle.ras_front_end.specs.declared.edition.Edition.{Edition}
use Rattle.ras_front_end.specs.Front.{Front}
use Rattle.ras_front_end.specs.Parsed.{Parsed}
use Rattle.tree_match.specs.declared.rule.Rule.{Rule}
use Rattle.tree_match.specs.Finds.{Occurrence}
use Rattle.rust_rewrite.specs.Rewrites.{ranges_of, IsRewrite, WithoutNeedless}

nil_of : {A : Type 0} (xs : List A) → length xs ≡ 0 → xs ≡ []
nil_of [] e = refl
nil_of (x ∷ xs) e = absurd (omega (arith, e))

-- if what is left is the same, all is
pub record LeftSame (es : List Replacement) (rs : List Bounds) (all_es : List Replacement) (all_rs : List Bounds) : Type 0 where
  pub same : ranges_of es ≡ rs → ranges_of all_es ≡ all_rs

pub none_same : (es : List Replacement) (rs : List Bounds) → LeftSame es rs es rs
none_same es rs = record { same = λ h. h }

pub one_same : (es es' a : List Replacement) (rs rs' b : List Bounds) (e : Replacement) (r : Bounds) → LeftSame es rs a b
    → es ≡ e ∷ es' → rs ≡ r ∷ rs' → e.delete ≡ r → LeftSame es' rs' a b
one_same es es' a rs rs' b e r l f g d = record {
  same = λ h. l.same (ap ranges_of f ∙ ap (λ x. x ∷ ranges_of es') d ∙ ap (λ xs. r ∷ xs) h ∙ sym g);
}

pub all_same : (es a : List Replacement) (rs b : List Bounds) → LeftSame es rs a b → rs ≡ [] → length es ≡ 0 → ranges_of a ≡ b
all_same es a rs b l f g = l.same (ap ranges_of (nil_of es g) ∙ sym f)

-- ---- a text in which no pair was put

pub none_put : (front : Front) (edition : Edition) (rules : List Rule) (old : Parsed) (found : List Occurrence) (edit : List Replacement) (s : List ℕ)
    → IsRewrite front edition rules old found edit s → WithoutNeedless front edition s
none_put front edition rules old found edit s w = record {
  full = s;
  parse = w.reads_as.parse;
  is_parse = w.reads_as.is_parse;
  candidates = [];
  going = [];
  tried = [];
  without = None;
  were_tried = record { in_order = refl; going = refl; sorted = tt; text = refl };
  all = refl;
  is_text = refl;
}
