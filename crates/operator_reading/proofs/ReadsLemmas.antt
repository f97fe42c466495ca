-- From the tests of each place to what the tree shows and how it reads.
use Rattle.std.proofs.Common.{◌≡◌, List, [], ◌∷◌, map, Bool, true, false, ◌&&◌, Option, Some, None, refl, sym, ap, subst, ◌∙◌}
use Rattle.std.specs.Prelude.{is_some}
use Rattle.std.specs.List.{list_all}
use Rattle.tree_model.specs.Tree.{Tree, node, token, kind_of, IsNode}
use Rattle.tree_model.specs.Cursor.{Cursor, focus, descendants_of}
use Rattle.tree_model.specs.Every.{every}
use Rattle.tree_model.proofs.EveryLaws.{every_is_descendants}
use Rattle.lossless_tree.specs.declared.cursor.element.NodeOrToken.{NodeOrToken}
use Rattle.lossless_tree.specs.Element.{element_of, element_by}
use Rattle.operator_terms.specs.Term.{Term, tokens}
use Rattle.operator_terms.specs.Reading.{no_cast_before_angle}
use Rattle.operator_terms.specs.AllFit.{demands_met, all_fit}
use Rattle.operator_terms.proofs.AllFit.{all_fit-decides}
use Rattle.operator_terms.proofs.Readings.{reads_exactly, one_reading}
use Rattle.operator_terms.proofs.Paired.{paired_reads}
use Rattle.operator_trees.specs.Forms.{form_of}
use Rattle.operator_trees.specs.Shown.{Meaning, IsSign, IsTerm, IsName, IsSegment, IsPath, IsType, IsArguments, IsNothing, means, meanings, meaning, is_right, shown, term_of}
use Rattle.operator_trees.specs.Shape.{erase, blank_of, blank}
use Rattle.operator_trees.specs.Leaves.{leaves_of}
use Rattle.operator_trees.proofs.Inversion.{no, no_sign, term_formed, erased}
use Rattle.operator_trees.proofs.Local.{right-tree}
use Rattle.operator_trees.proofs.Tokens.{tokens-shown}
use Rattle.operator_powers.specs.Rules.{is_term_form}
use Rattle.operator_reading.specs.Reads.{has_form, node_fits, element_has_form, element_fits, IsAnswer, ReadsBack}
use Rattle.operator_reading.proofs.Demands.{every_fits, term_blank, term_formed_so}

-- ---- steps over the places

elements_all : (NodeOrToken Cursor Cursor → Bool) → List (NodeOrToken Cursor Cursor) → Bool
elements_all g [] = true
elements_all g (x ∷ xs) = g x && elements_all g xs

abbrev pub all_of : (Tree → Bool) → List Cursor → Bool
all_of f cs = list_all (λ d. f (focus d)) cs

abbrev pub Agree : (Tree → Bool) → (NodeOrToken Cursor Cursor → Bool) → Type 0
Agree f g = (c : Cursor) → g (element_of c) ≡ f (focus c)

elements-are : (f : Tree → Bool) (g : NodeOrToken Cursor Cursor → Bool) → Agree f g → (cs : List Cursor) → elements_all g (map element_of cs) ≡ all_of f cs
unfolding elements_all
elements-are f g h [] = refl
elements-are f g h (c ∷ cs) = ap (λ b. b && elements_all g (map element_of cs)) (h c) ∙ ap (λ b. f (focus c) && b) (elements-are f g h cs)

step : (f : Tree → Bool) (g : NodeOrToken Cursor Cursor → Bool) → Agree f g → (cs ds : List Cursor) (x : NodeOrToken Cursor Cursor) → map element_of cs ≡ x ∷ map element_of ds → all_of f cs ≡ (g x && all_of f ds)
unfolding elements_all
step f g h cs ds x e = sym (elements-are f g h cs) ∙ ap (elements_all g) e ∙ ap (λ b. g x && b) (elements-are f g h ds)

pub at_end : (f : Tree → Bool) (g : NodeOrToken Cursor Cursor → Bool) → Agree f g → (cs : List Cursor) → map element_of cs ≡ [] → all_of f cs ≡ true
unfolding elements_all
at_end f g h cs e = sym (elements-are f g h cs) ∙ ap (elements_all g) e

pub step_false : (f : Tree → Bool) (g : NodeOrToken Cursor Cursor → Bool) → Agree f g → (cs ds : List Cursor) (x : NodeOrToken Cursor Cursor) (b : Bool) → map element_of cs ≡ x ∷ map element_of ds → b ≡ g x → b ≡ false → all_of f cs ≡ false
step_false f g h cs ds x b e is n = step f g h cs ds x e ∙ ap (λ y. y && all_of f ds) (sym is ∙ n)

pub step_true : (f : Tree → Bool) (g : NodeOrToken Cursor Cursor → Bool) → Agree f g → (cs ds : List Cursor) (x : NodeOrToken Cursor Cursor) (b : Bool) → map element_of cs ≡ x ∷ map element_of ds → b ≡ g x → b ≡ true → all_of f cs ≡ all_of f ds
step_true f g h cs ds x b e is y = step f g h cs ds x e ∙ ap (λ y. y && all_of f ds) (sym is ∙ y)

pub from_places : (f : Tree → Bool) (c : Cursor) → every f (focus c) ≡ all_of f (descendants_of c)
from_places f c = every_is_descendants f c

pub forms_agree : Agree has_form element_has_form
forms_agree c = by (focus c) refl
  where
    by : (t : Tree) → focus c ≡ t → element_has_form (element_by t c) ≡ has_form t
    by (node k d) e = ap has_form e
    by (token k x) e = refl

pub fits_agree : Agree node_fits element_fits
fits_agree c = by (focus c) refl
  where
    by : (t : Tree) → focus c ≡ t → element_fits (element_by t c) ≡ node_fits t
    by (node k d) e = ap node_fits e
    by (token k x) e = refl

-- ---- what is shown
and-false : (b : Bool) → false ≡ (b && false)
and-false true = refl
and-false false = refl

pub term_shown : (u : Tree) → IsNode u → (is_term_form (form_of (kind_of u)) && every has_form u) ≡ is_some (shown u)
term_shown (token k x) h = absurd h
term_shown (node k c) h = ap (λ b. is_term_form (form_of k) && b) (sym (right-tree (node k c))) ∙ sym (by (means (form_of k) (meanings c)) refl)
  where
    other : (m : Meaning) → means (form_of k) (meanings c) ≡ m → is_right m ≡ true → (IsTerm blank ≡ erase m → ⊥) → false ≡ (is_term_form (form_of k) && is_right m)
    other m e h g = ap (λ b. b && is_right m) (sym (term_blank (form_of k) m (subst (λ m. erase m ≡ blank_of (form_of k)) e (erased (form_of k) (meanings c) (ap is_right e ∙ h))) h g))

    by : (m : Meaning) → means (form_of k) (meanings c) ≡ m → is_some (term_of m) ≡ (is_term_form (form_of k) && is_right m)
    by (IsTerm t) e = sym (ap (λ b. b && true) (ap is_term_form (term_formed (form_of k) (meanings c) t e) ∙ term_formed_so t))
    by (IsSign s) e = absurd (no_sign (form_of k) (meanings c) s e)
    by IsNothing e = and-false (is_term_form (form_of k))
    by (IsName n) e = other (IsName n) e refl (λ h. cc)
    by (IsSegment n) e = other (IsSegment n) e refl (λ h. cc)
    by (IsPath n) e = other (IsPath n) e refl (λ h. cc)
    by (IsType n) e = other (IsType n) e refl (λ h. cc)
    by (IsArguments args) e = other (IsArguments args) e refl (λ h. cc)

-- ---- how it reads
answers : (t : Term) (b : Bool) → b ≡ all_fit t → IsAnswer b t
answers t b e =
    let fit = all_fit-decides t in
    let reads = reads_exactly t in (
      (λ h. reads.1 (fit.0 (sym e ∙ h)), λ h. e ∙ fit.1 (reads.0 h)),
      (λ h u r. sym (one_reading 0 0 (tokens t) t u (reads.1 (fit.0 (sym e ∙ h))) r)),
      paired_reads t,
    )

pub reads_so : (u : Tree) (b : Bool) → is_some (shown u) ≡ true → b ≡ (every node_fits u && no_cast_before_angle (leaves_of u)) → ReadsBack (Some b) (shown u)
reads_so u b h e = by (meaning u) refl h
  where
    by : (m : Meaning) → meaning u ≡ m → is_some (term_of m) ≡ true → ReadsBack (Some b) (term_of m)
    by (IsTerm t) is h = answers t b (e ∙ ap (λ x. x && no_cast_before_angle (leaves_of u)) (every_fits u t is) ∙ ap (λ ts. demands_met t && no_cast_before_angle ts) (tokens-shown u t is))
    by _ is h = absurd (no h)

pub none_shown : (u : Tree) → is_some (shown u) ≡ false → ReadsBack None (shown u)
none_shown u h = by (shown u) h
  where
    by : (o : Option Term) → is_some o ≡ false → ReadsBack None o
    by None h = tt
    by (Some t) h = absurd (let bad : true ≡ false = h in cc)
