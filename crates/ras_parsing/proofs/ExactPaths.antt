-- The exact piece around an edit.
use Rattle.std.proofs.Common.{◌≡◌, ℕ, ◌<◌, ◌^◌, List, [], ◌∷◌, length, refl, sym, ap, ◌∙◌, arith, Bool, true, false, Option, Some, None}
use Rattle.std.specs.Prelude.{Contains, IsUtf8, option_map, drop}
use Rattle.text_size.specs.TextRange.{Bounds}
use Rattle.tree_model.specs.Tree.{Tree, text, IsPlace}
use Rattle.tree_model.specs.Cursor.{Cursor, focus, range_end}
use Rattle.tree_model.specs.Covering.{covering_of}
use Rattle.tree_model.specs.Edit.{root_of}
use Rattle.lossless_tree.specs.declared.cursor.element.NodeOrToken.{NodeOrToken}
use Rattle.lossless_tree.specs.Element.{element_of, cursor_of, ancestors_of_element}
use Rattle.lossless_tree.proofs.NodeLists.{cursor_of-element_by}
use Rattle.ras_front_end.specs.declared.edition.Edition.{Edition}
use Rattle.ras_front_end.specs.declared.edition.Reparser.{Reparser}
use Rattle.ras_front_end.specs.Balanced.{opens_brace, closes_brace}
use Rattle.ras_front_end.specs.ErrorModel.{ErrorModel}
use Rattle.ras_front_end.specs.Parsed.{Parsed}
use Rattle.ras_front_end.specs.Reading.{Reading}
use Rattle.exact_front.specs.Exact.{Exact, is_piece, ExactKeeps}
use Rattle.ras_parsing.specs.Edit.{Edit, IsEditOf, edited, edited_at}
use Rattle.ras_parsing.specs.Reparse.{kind_at, nodes_around}
use Rattle.ras_parsing.specs.Document.{opens, closes, or_further, exact_reparser_of, first_exact, is_quiet_from, AreShort, ExactPath}
use Rattle.ras_parsing.specs.ExactSteps.{IsExactPiece}
use Rattle.ras_parsing.proofs.Around.{later_in, node_around}
use Rattle.ras_parsing.proofs.BlockPaths.{IsIn, new_short}
use Rattle.ras_parsing.proofs.BuildLemmas.{forget_root}

-- ---- the braces

pub opens_is : (o : Option Cursor) (e : NodeOrToken Cursor Cursor) → option_map element_of o ≡ Some e → opens_brace (kind_at (cursor_of e)) ≡ opens o
opens_is None e h = (let none : None ≡ Some e = h in cc)
opens_is (Some c) e h =
    let same : element_of c ≡ e = (let f : Some (element_of c) ≡ Some e = h in cc) in
    ap (λ x. opens_brace (kind_at (cursor_of x))) (sym same) ∙ ap (λ x. opens_brace (kind_at x)) (cursor_of-element_by (focus c) c)

pub closes_is : (o : Option Cursor) (e : NodeOrToken Cursor Cursor) → option_map element_of o ≡ Some e → closes_brace (kind_at (cursor_of e)) ≡ closes o
closes_is None e h = (let none : None ≡ Some e = h in cc)
closes_is (Some c) e h =
    let same : element_of c ≡ e = (let f : Some (element_of c) ≡ Some e = h in cc) in
    ap (λ x. closes_brace (kind_at (cursor_of x))) (sym same) ∙ ap (λ x. closes_brace (kind_at x)) (cursor_of-element_by (focus c) c)

-- ---- the nearest node, step by step

at_first : (exact : Exact) (delete : Bounds) (l next : List Cursor) (c : Cursor) (o answer : Option Reparser) → l ≡ c ∷ next → o ≡ exact_reparser_of exact delete c → o ≡ answer
    → first_exact exact delete l ≡ or_further c answer (first_exact exact delete next)
at_first exact delete l next c o answer e asked is = ap (first_exact exact delete) e ∙ ap (λ x. or_further c x (first_exact exact delete next)) (sym asked ∙ is)

pub passed : (exact : Exact) (delete : Bounds) (l next : List Cursor) (c : Cursor) (o : Option Reparser) → l ≡ c ∷ next → o ≡ exact_reparser_of exact delete c → o ≡ None → first_exact exact delete next ≡ first_exact exact delete l
passed exact delete l next c o e asked is = sym (at_first exact delete l next c o None e asked is)

pub hit : (exact : Exact) (delete : Bounds) (l next : List Cursor) (c : Cursor) (o : Option Reparser) (r : Reparser) → l ≡ c ∷ next → o ≡ exact_reparser_of exact delete c → o ≡ Some r → Some (c, r) ≡ first_exact exact delete l
hit exact delete l next c o r e asked is = sym (at_first exact delete l next c o (Some r) e asked is)

pub ran_out : (exact : Exact) (delete : Bounds) (l : List Cursor) → l ≡ [] → None ≡ first_exact exact delete l
ran_out exact delete l e = sym (ap (first_exact exact delete) e)

by_answer : (exact : Exact) (delete : Bounds) (c : Cursor) (cs : List Cursor) (a : Cursor) (r : Reparser) (o : Option Reparser) → or_further c o (first_exact exact delete cs) ≡ Some (a, r) → (first_exact exact delete cs ≡ Some (a, r) → Contains cs a) → Contains (c ∷ cs) a
by_answer exact delete c cs a r None e later = later_in c a cs (later e)
by_answer exact delete c cs a r (Some s) e later =
    let p : Cursor × Reparser = (c, s) in
    let q : Cursor × Reparser = (a, r) in
    let same : p ≡ q = (let f : Some p ≡ Some q = e in cc) in
    (0, omega arith, ap (λ (x : Cursor × Reparser). x.0) same)

is_among : (exact : Exact) (delete : Bounds) (cs : List Cursor) (c : Cursor) (r : Reparser) → first_exact exact delete cs ≡ Some (c, r) → Contains cs c
is_among exact delete [] c r e = (let p : Cursor × Reparser = (c, r) in let none : None ≡ Some p = e in cc)
is_among exact delete (d ∷ cs) c r e = by_answer exact delete d cs c r (exact_reparser_of exact delete d) e (is_among exact delete cs c r)

-- ---- around an edit

pub nodes_are : (tree : Tree) (edit : Edit) (root : Cursor) (e : NodeOrToken Cursor Cursor) (l : List Cursor) → root ≡ root_of tree → e ≡ element_of (covering_of root edit.delete) → l ≡ ancestors_of_element e → l ≡ nodes_around tree edit
nodes_are tree edit root e l is f g = g ∙ ap ancestors_of_element (f ∙ ap (λ (r : Cursor). element_of (covering_of r edit.delete)) is)

pub exact_in : (exact : Exact) (tree : Tree) (edit : Edit) (l : List Cursor) (o : Option (Cursor × Reparser)) (c : Cursor) (r : Reparser) → IsEditOf (text tree) edit → l ≡ nodes_around tree edit → o ≡ first_exact exact edit.delete l → o ≡ Some (c, r) → IsPlace c.tree c.place → IsIn tree edit c
exact_in exact tree edit l o c r e f g is is_place =
    let found : first_exact exact edit.delete (nodes_around tree edit) ≡ Some (c, r) = ap (first_exact exact edit.delete) (sym f) ∙ sym g ∙ is in
    let w = node_around tree edit e c (is_among exact edit.delete (nodes_around tree edit) c r found) in
    record { same = w.same_tree; around = w.around is_place }

-- ---- the piece

read_as : {X : Type 0} (f : X → Reading) (o : Option X) (p : Option Reading) (x : X) → option_map f o ≡ p → o ≡ Some x → p ≡ Some (f x)
read_as f o p x e is = sym e ∙ ap (option_map f) is

pub exact_found : {X : Type 0} (exact : Exact) (edition : Edition) (old : Parsed) (count : ℕ) (edit : Edit) (l : List Cursor) (o : Option (Cursor × Reparser)) (c : Cursor) (r : Reparser) (head : List ℕ) (b : Bool) (at : ℕ) (errors : List ErrorModel) (q : Bool) (new asked : List ℕ) (h : X → Reading) (read : Option X) (x : X) (was : List ℕ) (p : Bool)
    → ExactKeeps exact → IsEditOf (text old.tree) edit → length (edited (text old.tree) edit) < 2 ^ 32 → IsPlace c.tree c.place → IsUtf8 new
    → l ≡ nodes_around old.tree edit → o ≡ first_exact exact edit.delete l → o ≡ Some (c, r)
    → head ≡ text old.tree → b ≡ exact.has_head head → b ≡ false
    → at ≡ range_end c → errors ≡ drop count old.errors → q ≡ is_quiet_from at errors → q ≡ true
    → new ≡ edited_at c edit → asked ≡ new → option_map h read ≡ exact.piece r edition asked → read ≡ Some x
    → AreShort exact.longest (text old.tree) edit → was ≡ text (focus c) → p ≡ is_piece (exact.piece r edition was) → p ≡ true
    → IsExactPiece exact edition old count edit c r new (h x)
exact_found exact edition old count edit l o c r head b at errors q new asked h read x was p kept e short is_place utf8 f g is head_is b_is no' at_is errors_are q_is yes' new_is asked_is read_is some few was_is p_is true' =
    let w = exact_in exact old.tree edit l o c r e f g is is_place in
    let found : exact.piece r edition new ≡ Some (h x) = ap (exact.piece r edition) (sym asked_is) ∙ read_as h read (exact.piece r edition asked) x read_is some in
    record {
      same_tree = w.same;
      around = w.around;
      text_is = new_is;
      path = record {
        no_head = ap exact.has_head (sym head_is) ∙ sym b_is ∙ no';
        is_nearest = ap (first_exact exact edit.delete) (sym f) ∙ sym g ∙ is;
        is_quiet = ap (λ n. is_quiet_from n (drop count old.errors)) (sym at_is) ∙ ap (is_quiet_from at) (sym errors_are) ∙ sym q_is ∙ yes';
        is_read = ap (exact.piece r edition) (sym new_is) ∙ found;
        are_short = few;
        was_read = ap (λ x. is_piece (exact.piece r edition x)) (sym was_is) ∙ sym p_is ∙ true';
      };
      keeps = forget_root _ new (h x) (h x) (kept.piece_kept r edition new (h x) utf8 (new_short old.tree edit c new w e short new_is) found) refl;
    }
