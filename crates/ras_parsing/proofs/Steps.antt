-- Replacements that are made one after another, the last one first.
use Rattle.std.proofs.Common.{◌≡◌, ◌+◌, ◌-◌, ◌<◌, ◌≤◌, ℕ, zero, suc, List, [], ◌∷◌, length, drop, get_or, refl, sym, ap, subst, ◌∙◌, arith, inl, inr}
use Rattle.std.specs.Prelude.{All, IsUtf8, ◌^◌, ◌⊎◌}
use Rattle.std.proofs.lemmas.List.{drop_more, drop_all}
use Rattle.text_size.specs.TextRange.{Bounds}
use Rattle.tree_model.specs.Tree.{text}
use Rattle.text_edit.specs.Replacements.{Replacement, InOrder, IsRangeOf}
use Rattle.text_edit.specs.Replacements.{edited as all_edited}
use Rattle.std.proofs.lemmas.List.Elements.{All-drop}
use Rattle.text_edit.proofs.Kept.{range_stays}
use Rattle.text_edit.proofs.Pass.{order_step}
use Rattle.text_edit.proofs.Order.{from_start}
use Rattle.ras_front_end.specs.declared.edition.Edition.{Edition}
use Rattle.ras_front_end.specs.Front.{Front}
use Rattle.ras_front_end.specs.Parsed.{Parsed}
use Rattle.exact_front.specs.Exact.{Exact}
use Rattle.ras_parsing.specs.Edit.{Edit, IsEditOf, edited}
use Rattle.ras_parsing.specs.Document.{IsReadOf, IsEdited, ReadsExactly}
use Rattle.ras_parsing.specs.InSteps.{edit_of, InPlace, NotInPlace, InSteps, StopsInside, ThenNot}

-- those from one on are made
pub record SoFar (front : Front) (exact : Exact) (edition : Edition) (old : Parsed) (before : ℕ) (items : List Replacement) (at : ℕ) (parse : Parsed) (count : ℕ) : Type 0 where
  pub steps : InSteps exact edition old before (drop at items) parse count
  pub text_is : text parse.tree ≡ all_edited (text old.tree) (drop at items)
  pub reads : ReadsExactly front exact → IsReadOf front edition (text old.tree) old before → IsReadOf front edition (text parse.tree) parse count

as_edited : (front : Front) (exact : Exact) (edition : Edition) (old : Parsed) (before : ℕ) (edit : Edit) (new : Parsed) (count : ℕ) (range : Bounds) → InPlace exact edition old before edit new count range → IsEdited front exact edition old before edit new count range
as_edited front exact edition old before edit new count range (inl token) = inl token
as_edited front exact edition old before edit new count range (inr piece) = inr (inl piece)

-- nothing is made before the first step
pub none_yet : (front : Front) (exact : Exact) (edition : Edition) (old : Parsed) (before : ℕ) (items : List Replacement) → SoFar front exact edition old before items (length items) old before
none_yet front exact edition old before items =
    let none : drop (length items) items ≡ [] = drop_all (length items) items (omega arith) in
    record {
      steps = subst (λ es. InSteps exact edition old before es old before) (sym none) (refl, refl);
      text_is = ap (all_edited (text old.tree)) (sym none);
      reads = λ law was. was;
    }

-- the next one, and those behind it
pub next_cut : (items : List Replacement) (at : ℕ) (e : Replacement) → 0 < at → at ≤ length items → e ≡ get_or items (at - 1) e → drop (at - 1) items ≡ e ∷ drop at items
next_cut items at e some le is =
    let back : (at - 1) + 1 ≡ at = omega (arith, some) in
    drop_more items (at - 1) e (omega (arith, some, le)) ∙ ap (λ x. x ∷ drop ((at - 1) + 1) items) (sym is) ∙ ap (λ n. e ∷ drop n items) back

in_order_behind : (n k : ℕ) (items : List Replacement) → InOrder n items → InOrder 0 (drop k items)
in_order_behind n zero items o = from_start n items o
in_order_behind n (suc k) [] o = tt
in_order_behind n (suc k) (e ∷ es) o = in_order_behind e.delete.end k es o.2

-- the next one is a range of the text so far
pub next_is_edit : (s t : List ℕ) (items : List Replacement) (at : ℕ) (e : Replacement) → 0 < at → at ≤ length items → e ≡ get_or items (at - 1) e → IsUtf8 s → IsUtf8 t → t ≡ all_edited s (drop at items) → All (IsRangeOf s) items → InOrder 0 items → IsEditOf t (edit_of e)
next_is_edit s t items at e some le is utf8 utf8' t_is ranges o =
    let back : (at - 1) + 1 ≡ at = omega (arith, some) in
    let here = order_step 0 items (at - 1) e (omega (arith, some, le)) (sym is) (in_order_behind 0 (at - 1) items o) in
    let behind = subst (λ n. InOrder e.delete.end (drop n items)) back here.rest in
    let own = subst (IsRangeOf s) (sym is) (ranges (at - 1) e (omega (arith, some, le))) in
    let range = range_stays s e (drop at items) utf8 (subst IsUtf8 t_is utf8') here.forwards behind (All-drop (IsRangeOf s) at items ranges) own in
    subst (λ x. IsEditOf x (edit_of e)) (sym t_is) (record {
      forwards = here.forwards;
      within = range.within;
      start_boundary = range.start_boundary;
      end_boundary = range.end_boundary;
    })

-- a step is made
pub step_made : (front : Front) (exact : Exact) (edition : Edition) (old : Parsed) (before : ℕ) (items : List Replacement) (at : ℕ) (e : Replacement) (parse new : Parsed) (count more : ℕ) (range : Bounds)
    → 0 < at → at ≤ length items → e ≡ get_or items (at - 1) e
    → SoFar front exact edition old before items at parse count
    → InPlace exact edition parse count (edit_of e) new more range
    → text new.tree ≡ edited (text parse.tree) (edit_of e)
    → IsUtf8 (text parse.tree) → IsUtf8 e.insert → IsEditOf (text parse.tree) (edit_of e) → length (edited (text parse.tree) (edit_of e)) < 2 ^ 32
    → SoFar front exact edition old before items (at - 1) new more
step_made front exact edition old before items at e parse new count more range some le is was placed same utf8 utf8' fits short =
    let cut = next_cut items at e some le is in
    record {
      steps = subst (λ es. InSteps exact edition old before es new more) (sym cut) (record {
        so_far = parse;
        so_many = count;
        is_made = was.steps;
        range = range;
        in_place = placed;
      });
      text_is = same ∙ ap (λ s. edited s (edit_of e)) was.text_is ∙ ap (all_edited (text old.tree)) (sym cut);
      reads = λ law was_read.
          subst (λ s. IsReadOf front edition s new more) (sym same)
          (law edition parse new count more (edit_of e) range utf8 utf8' fits short (was.reads law was_read) (as_edited front exact edition parse count (edit_of e) new more range placed));
    }

-- where one can't be made, neither can those before it
pub stops_inside : (exact : Exact) (edition : Edition) (old : Parsed) (before : ℕ) (items : List Replacement) (k : ℕ) → StopsInside exact edition old before (drop k items) → StopsInside exact edition old before items
stops_inside exact edition old before items zero stops = stops
stops_inside exact edition old before [] (suc k) stops = stops
stops_inside exact edition old before (e ∷ es) (suc k) stops = inl (stops_inside exact edition old before es k stops)

pub stops_here : (front : Front) (exact : Exact) (edition : Edition) (old : Parsed) (before : ℕ) (items : List Replacement) (at : ℕ) (e : Replacement) (parse : Parsed) (count : ℕ)
    → 0 < at → at ≤ length items → e ≡ get_or items (at - 1) e
    → SoFar front exact edition old before items at parse count
    → (2 ^ 32 ≤ length (edited (text parse.tree) (edit_of e))) ⊎ NotInPlace exact edition parse count (edit_of e)
    → StopsInside exact edition old before items
stops_here front exact edition old before items at e parse count some le is was not_here =
    stops_inside exact edition old before items (at - 1)
    (subst (StopsInside exact edition old before) (sym (next_cut items at e some le is))
    (inr (record { so_far = parse; so_many = count; is_made = was.steps; is_not = not_here })))

-- a replacement as an edit, by its parts
pub edit_is : (e : Replacement) (delete : Bounds) (insert : List ℕ) → delete ≡ e.delete → insert ≡ e.insert → edit_of e ≡ record { delete = delete; insert = insert }
edit_is e delete insert d i = ap (λ x. record { delete = x; insert = e.insert }) (sym d) ∙ ap (λ x. record { delete = delete; insert = x }) (sym i)
