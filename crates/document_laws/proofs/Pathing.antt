-- The cursor of an edit that parses an exact piece again.
use Rattle.std.proofs.Common.{◌≡◌, ℕ, zero, suc, ◌-◌, ◌<◌, Bool, true, false, ◌&&◌, nat_lt, if◌then◌else◌, List, [], ◌∷◌, ◌++◌, map, length, get_or, refl, sym, ap, subst, ◌∙◌, arith, Option, Some, None}
use Rattle.std.specs.Prelude.{Contains, option_map}
use Rattle.std.proofs.lemmas.Bool.{and_parts, ltb-true}
use Rattle.std.proofs.lemmas.Bool.Decides.{nat_tests}
use Rattle.text_size.specs.TextRange.{Bounds}
use Rattle.syntax_kind.specs.declared.syntax_kind.SyntaxKind.{SyntaxKind}
use Rattle.syntax_kind.specs.declared.syntax_kind.SyntaxKind.TheVariants.{Token, Node}
use Rattle.syntax_kind.specs.declared.syntax_kind.node_kind.NodeKind.TheVariants as node_kind
use Rattle.syntax_kind.specs.declared.syntax_kind.token_kind.TokenKind.TheVariants as token_kind
use Rattle.tree_model.specs.Tree.{Tree, node, token, Forest, nil, cons, child_at, child_count, forest_of_children, kind_of, text, Place, IsPlace, subtree, ancestor_places}
use Rattle.tree_model.specs.Cursor.{Cursor, at_place, focus, range_start, range_end, parent_of, ancestors_of, ancestors_from, first_child_of, last_child_of}
use Rattle.tree_model.specs.Edit.{Within, text_before, text_behind}
use Rattle.tree_model.proofs.AncestorLemmas.{ancestors_of-step}
use Rattle.tree_model.proofs.EditLaws.{text_around, replaced_text}
use Rattle.tree_model.proofs.EveryLaws.{subtree-append}
use Rattle.tree_model.proofs.PlaceLemmas.{places_are_reached}
use Rattle.lossless_tree.specs.Element.{element_by, ancestors_of_element}
use Rattle.ras_front_end.specs.Balanced.{opens_brace, closes_brace}
use Rattle.ras_front_end.specs.declared.edition.Reparser.{Reparser}
use Rattle.rust_front.specs.Exact.{rust_exact}
use Rattle.rust_front.specs.Pieces.{exact_chosen_of}
use Rattle.ras_parsing.specs.Edit.{Edit, IsEditOf, covered, edited_at}
use Rattle.ras_parsing.specs.Reparse.{kind_at, nodes_around}
use Rattle.ras_parsing.specs.Rereading.{IsAround}
use Rattle.ras_parsing.specs.Document.{opens, closes, is_between, or_further, exact_reparser_of, first_exact}
use Rattle.ras_parsing.proofs.Around.{later_in, around_covered, node_around, piece_text}
use Rattle.document_laws.specs.Paths.{BracesAreTokens, last_child, IsExactCursor, CursorsOfEdits}

-- ---- the first node

no : false ≡ true → ⊥
no h = cc

never : {X : Type 0} (x : X) → None ≡ Some x → ⊥
never x h = (let bad : None ≡ Some x = h in cc)

some_is : {X : Type 0} (x y : X) → Some x ≡ Some y → x ≡ y
some_is x y e = cc

record IsFirst (delete : Bounds) (cs : List Cursor) (c : Cursor) (r : Reparser) : Type 0 where
  among : Contains cs c
  asked : exact_reparser_of rust_exact delete c ≡ Some r

by_answer : (delete : Bounds) (c : Cursor) (cs : List Cursor) (a : Cursor) (r : Reparser) (o : Option Reparser)
    → exact_reparser_of rust_exact delete c ≡ o → or_further c o (first_exact rust_exact delete cs) ≡ Some (a, r)
    → (first_exact rust_exact delete cs ≡ Some (a, r) → IsFirst delete cs a r) → IsFirst delete (c ∷ cs) a r
by_answer delete c cs a r None is e later =
    let w : IsFirst delete cs a r = later e in
    record { among = later_in c a cs w.among; asked = w.asked }
by_answer delete c cs a r (Some s) is e later =
    let p : Cursor × Reparser = (c, s) in
    let q : Cursor × Reparser = (a, r) in
    let same : p ≡ q = some_is p q e in
    let first : c ≡ a = ap (λ (x : Cursor × Reparser). x.0) same in
    let second : s ≡ r = ap (λ (x : Cursor × Reparser). x.1) same in
    record { among = (0, omega arith, first); asked = ap (exact_reparser_of rust_exact delete) (sym first) ∙ is ∙ ap Some second }

is_first : (delete : Bounds) (cs : List Cursor) (c : Cursor) (r : Reparser) → first_exact rust_exact delete cs ≡ Some (c, r) → IsFirst delete cs c r
is_first delete [] c r e = (let p : Cursor × Reparser = (c, r) in absurd (never p e))
is_first delete (d ∷ cs) c r e = by_answer delete d cs c r (exact_reparser_of rust_exact delete d) refl e (is_first delete cs c r)

-- ---- it is at a place

abbrev AllWithin : Tree → List Place → Type 0
AllWithin t [] = Unit {0}
AllWithin t (p ∷ ps) = Within t p × AllWithin t ps

all_under : (t : Tree) (i : ℕ) (ps : List Place) → i < child_count (forest_of_children t) → AllWithin (child_at (forest_of_children t) i) ps
    → AllWithin t (map (λ q. i ∷ q) ps ++ [] ∷ [])
all_under t i [] h w = (tt, tt)
all_under t i (p ∷ ps) h w = ((h, w.0), all_under t i ps h w.1)

all_above : (t : Tree) (p : Place) → Within t p → AllWithin t (ancestor_places p)
all_above t [] w = (tt, tt)
all_above t (i ∷ p) w = all_under t i (ancestor_places p) w.0 (all_above (child_at (forest_of_children t) i) p w.1)

at_within : (c a : Cursor) (ps : List Place) → AllWithin c.tree ps → (k : ℕ) → k < length ps → get_or (map (at_place c) ps) k a ≡ a → Within c.tree a.place
at_within c a [] w k lt e = absurd (omega (arith, lt))
at_within c a (p ∷ ps) w zero lt e = subst (λ (d : Cursor). Within c.tree d.place) e w.0
at_within c a (p ∷ ps) w (suc k) lt e = at_within c a ps w.1 k (omega (arith, lt)) e

length-at : (c : Cursor) (ps : List Place) → length (map (at_place c) ps) ≡ length ps
length-at c [] = refl
length-at c (p ∷ ps) = ap suc (length-at c ps)

above_within : (c a : Cursor) → Within c.tree c.place → Contains (ancestors_of c) a → Within c.tree a.place
above_within c a w h =
    at_within c a (ancestor_places c.place) (all_above c.tree c.place w) h.0 (omega (arith, h.1, length-at c (ancestor_places c.place))) h.2

element_above : (t : Tree) (c a : Cursor) → Contains (ancestors_of_element (element_by t c)) a → Contains (ancestors_of c) a
element_above (node k f) c a h = h
element_above (token k s) c a h = subst (λ (l : List Cursor). Contains l a) (sym (ancestors_of-step c)) (later_in c a (ancestors_from (parent_of c)) h)

place_around : (t : Tree) (edit : Edit) (a : Cursor) → IsEditOf (text t) edit → Contains (nodes_around t edit) a → Within t a.place
place_around t edit a e h =
    let c : Cursor = covered t edit in
    above_within c a ((places_are_reached t c.place).0 (around_covered t edit e).is_place) (element_above (focus c) c a h)

-- ---- braces

open_kind : (k : SyntaxKind) → opens_brace k ≡ true → k ≡ Token token_kind.L_CURLY
open_kind (Token token_kind.L_CURLY) h = refl
open_kind _ h = absurd (no h)

close_kind : (k : SyntaxKind) → closes_brace k ≡ true → k ≡ Token token_kind.R_CURLY
close_kind (Token token_kind.R_CURLY) h = refl
close_kind _ h = absurd (no h)

within_below : (t : Tree) (p : Place) (i : ℕ) → Within t p → i < child_count (forest_of_children (subtree t p)) → Within t (p ++ i ∷ [])
within_below t [] i w h = (h, tt)
within_below t (j ∷ p) i w h = (w.0, within_below (child_at (forest_of_children t) j) p i w.1 h)

abbrev some_child : Cursor → Tree → (Forest → ℕ) → Option Cursor
some_child c t f = option_map (at_place c) (if nat_lt 0 (child_count (forest_of_children t)) then Some (c.place ++ f (forest_of_children t) ∷ []) else None)

record IsToken (u : Tree) (k : SyntaxKind) : Type 0 where
  its_text : List ℕ
  is : u ≡ token k its_text

open_token : (t u : Tree) (p : Place) → BracesAreTokens t → IsPlace t p → subtree t p ≡ u → opens_brace (kind_of u) ≡ true → IsToken u (Token token_kind.L_CURLY)
open_token t (node k f) p b h is e = absurd (no (sym (b p k f h is).0 ∙ e))
open_token t (token k s) p b h is e = record { its_text = s; is = ap (λ (j : SyntaxKind). token j s) (open_kind k e) }

close_token : (t u : Tree) (p : Place) → BracesAreTokens t → IsPlace t p → subtree t p ≡ u → closes_brace (kind_of u) ≡ true → IsToken u (Token token_kind.R_CURLY)
close_token t (node k f) p b h is e = absurd (no (sym (b p k f h is).1 ∙ e))
close_token t (token k s) p b h is e = record { its_text = s; is = ap (λ (j : SyntaxKind). token j s) (close_kind k e) }

-- the node's first and last child
record Braced (t : Tree) (p : Place) (u : Tree) : Type 0 where
  kind : SyntaxKind
  opening : List ℕ
  later : Forest
  is : u ≡ node kind (cons (token (Token token_kind.L_CURLY) opening) later)
  closing : List ℕ
  last : last_child u ≡ token (Token token_kind.R_CURLY) closing

one_more : (n : ℕ) → nat_lt 0 (suc n) ≡ true
one_more n = grind (arith, nat_tests)

at_none : (c : Cursor) (f : Forest → ℕ) → false ≡ opens (some_child c (node (Node node_kind.SOURCE_FILE) nil) f)
at_none c f = refl

braced : (t : Tree) (p : Place) (u : Tree) → BracesAreTokens t → Within t p → subtree t p ≡ u
    → opens (some_child (record { tree = t; place = p }) u (λ f. 0)) ≡ true → closes (some_child (record { tree = t; place = p }) u (λ f. child_count f - 1)) ≡ true
    → Braced t p u
braced t p (token k s) b w is o c = absurd (no (at_none (record { tree = t; place = p }) (λ f. 0) ∙ o))
braced t p (node k nil) b w is o c = absurd (no (at_none (record { tree = t; place = p }) (λ f. 0) ∙ o))
braced t p (node k (cons u r)) b w is o c =
    let n : ℕ = child_count (cons u r) - 1 in
    let here : Cursor = record { tree = t; place = p } in
    let some : true ≡ nat_lt 0 (child_count (cons u r)) = sym (one_more (child_count r)) in
    let first_there : IsPlace t (p ++ 0 ∷ []) =
    (places_are_reached t (p ++ 0 ∷ [])).1 (within_below t p 0 w (omega (arith, ap (λ (x : Tree). child_count (forest_of_children x)) is))) in
    let last_there : IsPlace t (p ++ n ∷ []) =
    (places_are_reached t (p ++ n ∷ [])).1 (within_below t p n w (omega (arith, ap (λ (x : Tree). child_count (forest_of_children x)) is))) in
    let first_is : subtree t (p ++ 0 ∷ []) ≡ u = subtree-append t p (0 ∷ []) ∙ ap (λ (x : Tree). child_at (forest_of_children x) 0) is in
    let last_is : subtree t (p ++ n ∷ []) ≡ child_at (cons u r) n = subtree-append t p (n ∷ []) ∙ ap (λ (x : Tree). child_at (forest_of_children x) n) is in
    let v : IsToken u (Token token_kind.L_CURLY) = open_token t u (p ++ 0 ∷ []) b first_there first_is (ap (λ (x : Tree). opens_brace (kind_of x)) (sym first_is)
    ∙ ap (λ (x : Bool). opens (option_map (at_place here) (if x then Some (p ++ 0 ∷ []) else None))) some ∙ o) in
    let x : IsToken (child_at (cons u r) n) (Token token_kind.R_CURLY) =
    close_token t (child_at (cons u r) n) (p ++ n ∷ []) b last_there last_is (ap (λ (y : Tree). closes_brace (kind_of y)) (sym last_is)
    ∙ ap (λ (x : Bool). closes (option_map (at_place here) (if x then Some (p ++ n ∷ []) else None))) some ∙ c) in
    record {
      kind = k;
      opening = v.its_text;
      later = r;
      is = ap (λ (y : Tree). node k (cons y r)) v.is;
      closing = x.its_text;
      last = x.is;
    }

-- ---- the cursor

record IsAsked (delete : Bounds) (c : Cursor) (r : Reparser) : Type 0 where
  between : is_between delete c ≡ true
  chosen : exact_chosen_of (kind_at c) ≡ Some r

is_asked : (delete : Bounds) (c : Cursor) (r : Reparser) → exact_reparser_of rust_exact delete c ≡ Some r → IsAsked delete c r
is_asked delete c r h = by (is_between delete c) refl h
  where
    by : (b : Bool) → is_between delete c ≡ b → (if b then exact_chosen_of (kind_at c) else None) ≡ Some r → IsAsked delete c r
    by true e k = record { between = e; chosen = k }
    by false e k = absurd (never r k)

record IsBelow (p : Place) : Type 0 where
  position : ℕ
  below : Place
  is : p ≡ position ∷ below

below_root : (t : Tree) (p : Place) (r : Reparser) → kind_of t ≡ Node node_kind.SOURCE_FILE → exact_chosen_of (kind_of (subtree t p)) ≡ Some r → IsBelow p
below_root t [] r root chosen = absurd (never r (sym (ap exact_chosen_of root) ∙ chosen))
below_root t (i ∷ p) r root chosen = record { position = i; below = p; is = refl }

cursor : (edit : Edit) (c : Cursor) (r : Reparser) → kind_of c.tree ≡ Node node_kind.SOURCE_FILE → BracesAreTokens c.tree → IsEditOf (text c.tree) edit
    → IsAround c edit → exact_reparser_of rust_exact edit.delete c ≡ Some r → IsExactCursor c.tree edit c r
cursor edit c r root b e around asked =
    let a : IsAsked edit.delete c r = is_asked edit.delete c r asked in
    let tests = and_parts (opens (first_child_of c) && closes (last_child_of c)) (nat_lt (range_start c) edit.delete.start && nat_lt edit.delete.end (range_end c)) a.between in
    let braces = and_parts (opens (first_child_of c)) (closes (last_child_of c)) tests.0 in
    let bounds = and_parts (nat_lt (range_start c) edit.delete.start) (nat_lt edit.delete.end (range_end c)) tests.1 in
    let v : Braced c.tree c.place (focus c) = braced c.tree c.place (focus c) b ((places_are_reached c.tree c.place).0 around.is_place) refl braces.0 braces.1 in
    let under : IsBelow c.place = below_root c.tree c.place r root a.chosen in
    let w = text_around c.tree c.place around.is_place in
    let u : Tree = token (Token token_kind.L_CURLY) (edited_at c edit) in
    record {
      same_tree = refl;
      is_place = around.is_place;
      position = under.position;
      below = under.below;
      place_is = under.is;
      kind = v.kind;
      chosen = ap (λ (x : Tree). exact_chosen_of (kind_of x)) (sym v.is) ∙ a.chosen;
      opening = v.opening;
      later = v.later;
      node_is = v.is;
      closing = v.closing;
      last_is = v.last;
      starts = refl;
      ends = refl;
      begun = ltb-true (range_start c) edit.delete.start bounds.0;
      ended = ltb-true edit.delete.end (range_end c) bounds.1;
      before = text_before c.tree c.place;
      behind = text_behind c.tree c.place;
      text_is = w.0;
      before_is = w.1;
      edited_is = sym (piece_text c edit u around e.forwards refl) ∙ (replaced_text c.tree c.place u around.is_place).0;
    }

pub cursors_found : CursorsOfEdits
cursors_found t edit c r root b e found =
    let w : IsFirst edit.delete (nodes_around t edit) c r = is_first edit.delete (nodes_around t edit) c r found in
    let v = node_around t edit e c w.among in
    let is_place : IsPlace t c.place = (places_are_reached t c.place).1 (place_around t edit c e w.among) in
    subst (λ (x : Tree). IsExactCursor x edit c r) v.same_tree
    (cursor edit c r (ap kind_of v.same_tree ∙ root) (subst BracesAreTokens (sym v.same_tree) b) (subst (λ (x : Tree). IsEditOf (text x) edit) (sym v.same_tree) e)
    (v.around (subst (λ (x : Tree). IsPlace x c.place) (sym v.same_tree) is_place)) w.asked)
