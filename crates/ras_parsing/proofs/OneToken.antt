-- One token with its new text, in the words of the tree and in those of a text and a character.
use Rattle.std.proofs.Common.{◌≡◌, ℕ, List, ◌∷◌, ◌++◌, sym, ap, ◌∙◌, subst, Option, Some, None}
use Rattle.std.specs.Prelude.{MatchOption}
use Rattle.std.specs.Char.{encode_utf8}
use Rattle.tree_model.specs.Tree.{kind_of, text}
use Rattle.tree_model.specs.Cursor.{Cursor, focus, range_end}
use Rattle.lossless_tree.specs.SyntaxText.{StartsAt, NoneStartsAt}
use Rattle.ras_front_end.specs.declared.edition.Edition.{Edition}
use Rattle.ras_front_end.specs.Front.{Front}
use Rattle.ras_parsing.specs.Edit.{Edit, edited_at}
use Rattle.ras_parsing.specs.Reparse.{StaysOneToken, IsContextualWord}
use Rattle.ras_parsing.specs.Rereading.{IsOneToken}

same_char : (s : List ℕ) (o a b : ℕ) → StartsAt s o a → StartsAt s o b → a ≡ b
same_char s o a b v w =
    let e : a ∷ v.later ≡ b ∷ w.later = sym v.is ∙ w.is in cc

abbrev pub Next : Cursor → Option ℕ → Type 0
Next c next = MatchOption next (NoneStartsAt (text c.tree) (range_end c)) (StartsAt (text c.tree) (range_end c))

pub stays : (front : Front) (edition : Edition) (c : Cursor) (edit : Edit) (new : List ℕ) (next : Option ℕ) (fault : Option (List ℕ)) → Next c next → new ≡ edited_at c edit
    → IsOneToken front edition (kind_of (focus c)) new next fault → StaysOneToken front edition c edit fault
stays front edition c edit new None fault n e w = record {
  same_kind = ap (front.single edition) (sym e) ∙ w.same_kind;
  no_word = λ is word. w.no_word is (subst IsContextualWord (sym e) word);
  alone = λ next starts. absurd (n next starts);
}
stays front edition c edit new (Some d) fault n e w = record {
  same_kind = ap (front.single edition) (sym e) ∙ w.same_kind;
  no_word = λ is word. w.no_word is (subst IsContextualWord (sym e) word);
  alone = λ next starts. ap (λ s. front.single edition (s ++ encode_utf8 next)) (sym e) ∙ ap (λ x. front.single edition (new ++ encode_utf8 x)) (same_char (text c.tree) (range_end c) next d starts n) ∙ w.alone;
}

pub is_one : (front : Front) (edition : Edition) (c : Cursor) (edit : Edit) (new : List ℕ) (next : Option ℕ) (fault : Option (List ℕ)) → Next c next → new ≡ edited_at c edit
    → StaysOneToken front edition c edit fault → IsOneToken front edition (kind_of (focus c)) new next fault
is_one front edition c edit new None fault n e w = record {
  same_kind = ap (front.single edition) e ∙ w.same_kind;
  no_word = λ is word. w.no_word is (subst IsContextualWord e word);
  alone = tt;
}
is_one front edition c edit new (Some d) fault n e w = record {
  same_kind = ap (front.single edition) e ∙ w.same_kind;
  no_word = λ is word. w.no_word is (subst IsContextualWord e word);
  alone = ap (λ s. front.single edition (s ++ encode_utf8 d)) e ∙ w.alone d n;
}
