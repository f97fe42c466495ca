-- What a step along a path finds.
use Rattle.std.proofs.Common.{◌≡◌, Bool, true, false, List, [], ◌∷◌, ◌∙◌, cond, drop, refl, sym, ap}
use Rattle.std.specs.Prelude.{Option, None, Some, option_map, ◌&&◌}
use Rattle.std.specs.Option.{option_and_then}
use Rattle.std.specs.Iterator.{YieldsFirst}
use Rattle.text_size.specs.TextRange.{Bounds}
use Rattle.syntax_kind.specs.declared.syntax_kind.SyntaxKind.{SyntaxKind}
use Rattle.tree_model.specs.Cursor.{Cursor, ancestors_from, parent_of}
use Rattle.tree_model.proofs.AncestorLemmas.{ancestors_from-step}
use Rattle.ras_node.specs.Nodes.{kind_at, typed_child}
use Rattle.ras_node_ext.specs.Path.{is_path_within, then_rest, outward, top_tree_from}

-- a child that was found as a view, and none
pub found : {N : Type 0} (node : N → Cursor) (casts : SyntaxKind → Bool) (r : Option N) (seen path : Cursor) (x : N) → option_map node r ≡ typed_child casts seen → seen ≡ path → r ≡ Some x → typed_child casts path ≡ Some (node x)
found node casts r seen path x is same some = ap (typed_child casts) (sym same) ∙ sym is ∙ ap (option_map node) some

pub none_found : {N : Type 0} (node : N → Cursor) (casts : SyntaxKind → Bool) (r : Option N) (seen path : Cursor) → option_map node r ≡ typed_child casts seen → seen ≡ path → r ≡ None → typed_child casts path ≡ None
none_found node casts r seen path is same none = ap (typed_child casts) (sym same) ∙ sym is ∙ ap (option_map node) none

-- the segments that are left where the path p is next
module _ (paths segments : SyntaxKind → Bool) (range : Bounds) (left : List Cursor) (next : Option Cursor) (p : Cursor) (view : outward paths segments range (ancestors_from next) ≡ left) (is : next ≡ Some p) where
  step : (up : Option Cursor) → up ≡ parent_of p → left ≡ cond (is_path_within paths range p) (then_rest (typed_child segments p) (outward paths segments range (ancestors_from up))) []
  step up is_up = sym view ∙ ap (outward paths segments range) (ancestors_from-step (ancestors_from next) next p up refl is is_up)

  pub outside : (b : Bool) → b ≡ is_path_within paths range p → b ≡ false → left ≡ []
  outside b test fails =
      step (parent_of p) refl ∙ ap (λ b. cond b (then_rest (typed_child segments p) (outward paths segments range (ancestors_from (parent_of p)))) []) (sym test ∙ fails)

  pub no_segment : (b : Bool) → b ≡ is_path_within paths range p → b ≡ true → None ≡ typed_child segments p → left ≡ []
  no_segment b test passes none =
      step (parent_of p) refl
      ∙ ap (λ b. cond b (then_rest (typed_child segments p) (outward paths segments range (ancestors_from (parent_of p)))) []) (sym test ∙ passes)
      ∙ ap (λ o. then_rest o (outward paths segments range (ancestors_from (parent_of p)))) (sym none)

  pub one : (s : Cursor) (up : Option Cursor) (b : Bool) → up ≡ parent_of p → b ≡ is_path_within paths range p → b ≡ true → Some s ≡ typed_child segments p → left ≡ s ∷ outward paths segments range (ancestors_from up)
  one s up b is_up test passes some =
      step up is_up
      ∙ ap (λ b. cond b (then_rest (typed_child segments p) (outward paths segments range (ancestors_from up))) []) (sym test ∙ passes)
      ∙ ap (λ o. then_rest o (outward paths segments range (ancestors_from up))) (sym some)

-- one step up from a use tree, over its list to the tree of that
pub tree_up : (lists trees : SyntaxKind → Bool) (above mid rest : List Cursor) (top l o : Cursor) (t : Option Cursor) → above ≡ l ∷ mid → YieldsFirst (λ left. left) mid t rest → Some o ≡ option_and_then (λ t. cond (lists (kind_at l) && trees (kind_at t)) (Some t) None) t → top_tree_from lists trees o rest ≡ top_tree_from lists trees top above
tree_up lists trees above mid rest top l o None is next some = (let no : Some o ≡ None = some in cc)
tree_up lists trees above mid rest top l o (Some t) is next some = here (lists (kind_at l) && trees (kind_at t)) some ∙ sym (ap (top_tree_from lists trees top) (is ∙ ap (λ m. l ∷ m) next))
  where
    same : Some o ≡ Some t → o ≡ t
    same e = (let both : Some o ≡ Some t = e in cc)

    here : (b : Bool) → Some o ≡ cond b (Some t) None → top_tree_from lists trees o rest ≡ cond b (top_tree_from lists trees t rest) top
    here true e = ap (λ c. top_tree_from lists trees c rest) (same e)
    here false e = (let no : Some o ≡ None = e in cc)

-- no step up: what is around the use tree is no list of one
pub tree_stays : (lists trees : SyntaxKind → Bool) (above mid rest : List Cursor) (top l : Cursor) (t : Option Cursor) → above ≡ l ∷ mid → YieldsFirst (λ left. left) mid t rest → None ≡ option_and_then (λ t. cond (lists (kind_at l) && trees (kind_at t)) (Some t) None) t → top ≡ top_tree_from lists trees top above
tree_stays lists trees above mid rest top l None is next none = sym (ap (top_tree_from lists trees top) (is ∙ ap (λ m. l ∷ m) next.0))
tree_stays lists trees above mid rest top l (Some t) is next none = here (lists (kind_at l) && trees (kind_at t)) none ∙ sym (ap (top_tree_from lists trees top) (is ∙ ap (λ m. l ∷ m) next))
  where
    here : (b : Bool) → None ≡ cond b (Some t) None → top ≡ cond b (top_tree_from lists trees t rest) top
    here true e = (let no : None ≡ Some t = e in cc)
    here false e = refl

-- what is left behind a first step
pub behind_first : (all left : List Cursor) (o : Option Cursor) → YieldsFirst (λ l. l) all o left → left ≡ drop 1 all
behind_first all left None e = e.1 ∙ sym (ap (drop 1) e.0)
behind_first all left (Some c) e = sym (ap (drop 1) e)
