-- Changes of arguments, as changes of the text around them, and the matches in arguments.
use Rattle.std.proofs.Common.{◌≡◌, ℕ, List, [], ◌∷◌, ◌++◌, map, ap, sym, ◌∙◌, subst, append_assoc, Option, Some, None, string_bytes}
use Rattle.std.specs.List.{filter_map}
use Rattle.std.proofs.lemmas.List.Elements.{filter_map-append}
use Rattle.text_size.specs.TextRange.{Bounds}
use Rattle.tree_model.specs.Edit.{root_of}
use Rattle.ras_front_end.specs.Parsed.{Parsed}
use Rattle.tree_match.specs.declared.rule.Rule.{Rule}
use Rattle.tree_match.specs.Finds.{occurrence_of, found_in}
use Rattle.rust_front.specs.Front.{rust_front}
use Rattle.rust_rewrite.specs.Rewrites.{IsRewrite, WithoutNeedless}
use Rattle.rust_rewrite.specs.declared.applied.Rewritten.{Rewritten}
use Rattle.rust_print.specs.declared.source.Reading.{Reading}
use Rattle.rust_print.specs.Readings.{IsReadAs}
use Rattle.rust_rules.specs.declared.within.Found.{Found}
use Rattle.rust_rules.specs.declared.within.Change.{Change}
use Rattle.rust_rules.specs.Macros.{IsFileOf, IsListRead, found_of, found_outward, AreFoundOf, AreFoundInLists, change_outward, IsOutside, AreOutside, AreChangesOf, AreChangesInLists, all_or, changed, replacement_of, IsRewriting, IsRewritingBy, IsRewritingOf}
use Rattle.rust_rules.specs.Reports.{IsAnswer}
use Rattle.rust_rules.proofs.EachLemmas.{LeftEach, read_done}

-- one more is moved
pub moved_on : {A B : Type 0} (h : A → Option B) (base all new : List B) (ys : List A) (y : A) → all ≡ base ++ filter_map h ys
    → new ≡ all ++ filter_map h (y ∷ []) → new ≡ base ++ filter_map h (ys ++ y ∷ [])
moved_on h base all new ys y e is =
    is ∙ ap (λ k. k ++ filter_map h (y ∷ [])) e ∙ append_assoc base (filter_map h ys) (filter_map h (y ∷ []))
    ∙ ap (λ k. base ++ k) (sym (filter_map-append h ys (y ∷ [])))

pub found_done : (r : Reading) (rules : List Rule) (n : ℕ) (s : List ℕ) (left left' : List Bounds) (xs inner mine out : List Found)
    (all : List Bounds) (list : Bounds) (file : List ℕ) (p : Parsed)
    → LeftEach r (AreFoundOf rules (AreFoundInLists r rules n)) found_outward s left xs all → left ≡ list ∷ left' → IsFileOf s list file
    → IsListRead r file (Some p) → AreFoundInLists r rules n file p inner → mine ≡ map found_of (found_in rules (root_of p.tree)) ++ inner
    → out ≡ xs ++ filter_map (found_outward list) mine
    → LeftEach r (AreFoundOf rules (AreFoundInLists r rules n)) found_outward s left' out all
found_done r rules n s left left' xs inner mine out all list file p l e f q i m is =
    read_done r (AreFoundOf rules (AreFoundInLists r rules n)) found_outward s left left' xs mine out all list file p l e f q
    (record { inner = inner; are_inner = i; all = m }) is

pub changes_done : (r : Reading) (rules : List Rule) (n : ℕ) (s : List ℕ) (left left' : List Bounds) (xs inner mine out : List Change)
    (outer : Option (List Change)) (all : List Bounds) (list : Bounds) (file : List ℕ) (p : Parsed)
    → LeftEach r (AreChangesOf r rules (AreChangesInLists r rules n)) change_outward s left xs all → left ≡ list ∷ left' → IsFileOf s list file
    → IsListRead r file (Some p) → AreChangesInLists r rules n file p inner → AreOutside r rules file inner outer → mine ≡ all_or inner outer
    → out ≡ xs ++ filter_map (change_outward list) mine
    → LeftEach r (AreChangesOf r rules (AreChangesInLists r rules n)) change_outward s left' out all
changes_done r rules n s left left' xs inner mine out outer all list file p l e f q i o m is =
    read_done r (AreChangesOf r rules (AreChangesInLists r rules n)) change_outward s left left' xs mine out all list file p l e f q
    (record { inner = inner; are_inner = i; outer = outer; are_outer = o; all = m }) is

-- where no list has changes, the text in between is the text
pub none_between : (r : Reading) (rules : List Rule) (s : List ℕ) (inner : List Change) (p : Parsed) (outer : Option (List Change))
    → inner ≡ [] → IsReadAs r s p → IsOutside r rules s inner p outer → AreOutside r rules s inner outer
none_between r rules s inner p outer e is o = record {
  between = p;
  is_read = subst (λ k. IsReadAs r (changed s k) p) (sym e) is;
  is_outside = o;
}

pub some_between : (r : Reading) (rules : List Rule) (s t : List ℕ) (inner : List Change) (p : Parsed) (outer : Option (List Change))
    → t ≡ changed s inner → IsReadAs r t p → IsOutside r rules s inner p outer → AreOutside r rules s inner outer
some_between r rules s t inner p outer e is o = record {
  between = p;
  is_read = subst (λ k. IsReadAs r k p) e is;
  is_outside = o;
}

-- what a rewriting makes, if changes make the same
pub made_alike : (r : Reading) (rules : List Rule) (s : List ℕ) (inner : List Change) (p : Parsed) (done : Rewritten) (changes : List Change)
    → IsRewritingBy r rules p done → changed s changes ≡ string_bytes done.text → (inner ≡ [] → map replacement_of changes ≡ done.edit)
    → IsRewriting r rules s inner p changes
made_alike r rules s inner p done changes w e a = record {
  some = w.some;
  found = map occurrence_of done.matches.items;
  edit = done.edit;
  rewrite = subst (IsRewrite rust_front r.edition rules p (map occurrence_of done.matches.items) done.edit) (sym e) w.rewrite;
  needless = subst (WithoutNeedless rust_front r.edition) (sym e) w.needless;
  alone = a;
}

-- what a text becomes, by its parse
pub answered : (r : Reading) (rules : List Rule) (s : List ℕ) (p : Parsed) (o : Option Rewritten) → IsReadAs r s p → IsRewritingOf r rules p o
    → IsAnswer r rules s o
answered r rules s p None is w = record { parse = p; is_read = is; all = sym w }
answered r rules s p (Some done) is w = record { parse = p; is_read = is; rewrite = w.rewrite; needless = w.needless }
