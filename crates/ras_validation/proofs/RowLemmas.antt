-- Segments that the walk passes by their rows, and what is left of the walk from a row on.
use Rattle.std.proofs.Common.{◌≡◌, ℕ, suc, ◌+◌, ◌-◌, ◌<◌, ◌≤◌, ◌==◌, inl, inr, List, [], ◌∷◌, ◌++◌, cond, Bool, true, false, ◌&&◌, nat_lt, refl, sym, ap, ◌∙◌, arith}
use Rattle.std.specs.Prelude.{None, Some, flat_map, is_some, if◌then◌else◌}
use Rattle.std.specs.List.{filter, find}
use Rattle.std.specs.Option.{option_and_then}
use Rattle.std.proofs.lemmas.Bool.Decides.{nat_tests}
use Rattle.syntax_kind.specs.declared.syntax_kind.SyntaxKind.{SyntaxKind}
use Rattle.syntax_kind.specs.declared.syntax_kind.SyntaxKind.TheVariants.{Node, Token}
use Rattle.syntax_kind.specs.declared.syntax_kind.node_kind.NodeKind.TheVariants as node
use Rattle.syntax_kind.specs.declared.syntax_kind.token_kind.TokenKind.TheVariants as token
use Rattle.tree_model.specs.Tree.{Tree, node as inner, token as leaf, size, nil, IsNode, is_node, is_token, kind_of}
use Rattle.tree_model.specs.Rows.{tree_at}
use Rattle.tree_model.specs.Cursor.{Cursor, focus, at_node, children_of, cursor_at, cursors_from}
use Rattle.tree_model.proofs.At.{At-fits, forest_size-cons, some_row, below_or_after}
use Rattle.tree_model.proofs.TableLemmas.{at_row}
use Rattle.tree_rows.specs.KindSearch.{only, is_node_among, is_token_among, first_node_among, first_token_among}
use Rattle.tree_rows.specs.RowKinds.{NoNodesAmong}
use Rattle.tree_rows.specs.Walks.{siblings_left}
use Rattle.tree_rows.proofs.ChildLists.{children_begin}
use Rattle.tree_rows.proofs.StepLemmas.{end_is_behind}
use Rattle.tree_rows.proofs.KindLemmas.{child_node, child_token, run_with, run_without}
use Rattle.lossless_tree.specs.Element.{element_by, element_of, node_part}
use Rattle.ras_node.specs.Nodes.{is_of_kind, token_child}
use Rattle.ras_validation.specs.Kinds.{has_rules, is_path_keyword, is_segment, is_name_ref, is_identifier}
use Rattle.ras_validation.specs.Lookups.{node_child}
use Rattle.ras_validation.specs.Rows.{begins_with_name, is_plain_segment, violations_from}
use Rattle.ras_validation.specs.declared.violation.ViolationMessage.TheVariants as messages
use Rattle.ras_validation.specs.Violations.{named, violations_by, violations_at, at_segment, attribute_at}
use Rattle.ras_validation.proofs.Walks.{walked, all_walked, no_rules_at, plain_segment}

both : (a b : Bool) → (a && b) ≡ true → (a ≡ true) × (b ≡ true)
both true b e = (refl, e)
both false b e = (let no : false ≡ true = e in cc)

above : (i n : ℕ) → nat_lt i n ≡ true → i < n
above i n h = grind (arith, nat_tests, h)

equal : (i n : ℕ) → (i == n) ≡ true → i ≡ n
equal i n h = grind (arith, nat_tests, h)

-- the subtree of a row lies within the tree
pub fits : (tree : Tree) (n : ℕ) → n < size tree → n + size (tree_at tree n) ≤ size tree
fits tree n h = omega (arith, At-fits (at_row tree n h), forest_size-cons tree nil)

-- ---- what the tests of kinds say

segment_rules : (k : SyntaxKind) (c : Cursor) → is_segment k ≡ true → violations_by k c ≡ at_segment c
segment_rules (Node node.PATH_SEGMENT) c e = refl
segment_rules _ c e = (let no : false ≡ true = e in cc)

name_kind : (k : SyntaxKind) → is_name_ref k ≡ true → only (Node node.NAME_REF) k ≡ true
name_kind (Node node.NAME_REF) e = refl
name_kind _ e = (let no : false ≡ true = e in cc)

name_rules : (k : SyntaxKind) → is_name_ref k ≡ true → has_rules k ≡ false
name_rules (Node node.NAME_REF) e = refl
name_rules _ e = (let no : false ≡ true = e in cc)

identifier_rules : (k : SyntaxKind) → is_identifier k ≡ true → (has_rules k ≡ false) × (is_path_keyword k ≡ false)
identifier_rules (Token token.IDENT) e = (refl, refl)
identifier_rules _ e = (let no : false ≡ true = e in cc)

-- a tree of two rows is a node
of_two : (t : Tree) → size t ≡ 2 → is_node t ≡ true
of_two (inner k c) e = refl
of_two (leaf k s) e = (let no : 1 ≡ 2 = e in absurd (omega (arith, no)))

-- ---- what the rows of a plain segment say

pub record IsPlain (tree : Tree) (n : ℕ) : Type 0 where
  pub segment : is_segment (kind_of (tree_at tree n)) ≡ true
  pub inside : n + 1 < n + size (tree_at tree n)
  pub name : is_name_ref (kind_of (tree_at tree (n + 1))) ≡ true
  pub two : size (tree_at tree (n + 1)) ≡ 2
  pub identifier : is_identifier (kind_of (tree_at tree (n + 2))) ≡ true

pub plain : (tree : Tree) (n : ℕ) → is_plain_segment tree n ≡ true → IsPlain tree n
plain tree n e =
    let is_name = is_name_ref (kind_of (tree_at tree (n + 1))) in
    let is_two = size (tree_at tree (n + 1)) == 2 in
    let is_word = is_identifier (kind_of (tree_at tree (n + 2))) in
    let is_inside = nat_lt (n + 1) (n + size (tree_at tree n)) in
    let a = both (is_segment (kind_of (tree_at tree n))) (begins_with_name tree n) e in
    let b = both is_inside (is_name && (is_two && is_word)) a.1 in
    let c = both is_name (is_two && is_word) b.1 in
    let d = both is_two is_word c.1 in record {
      segment = a.0;
      inside = above (n + 1) (n + size (tree_at tree n)) b.0;
      name = c.0;
      two = equal (size (tree_at tree (n + 1))) 2 d.0;
      identifier = d.1;
    }

-- and that they say so
all_true : (a b c d : Bool) → a ≡ true → b ≡ true → c ≡ true → d ≡ (a && (b && (c && d)))
all_true true true true d p q r = refl
all_true false b c d p q r = (let no : false ≡ true = p in cc)
all_true true false c d p q r = (let no : false ≡ true = q in cc)
all_true true true false d p q r = (let no : false ≡ true = r in cc)

below : (i n : ℕ) → i < n → nat_lt i n ≡ true
below i n h = grind (arith, nat_tests)

same : (i n : ℕ) → i ≡ n → (i == n) ≡ true
same i n h = grind (arith, nat_tests, h)

pub begun : (tree : Tree) (n name : ℕ) (word : Bool) → name ≡ n + 1 → name < n + size (tree_at tree n) → is_name_ref (kind_of (tree_at tree name)) ≡ true → size (tree_at tree name) ≡ 2
    → word ≡ is_identifier (kind_of (tree_at tree (name + 1))) → word ≡ begins_with_name tree n
begun tree n name word first inside kind two is =
    let next : name + 1 ≡ n + 2 = omega (arith, first) in
    let t = tree_at tree (n + 1) in
    let to_first : tree_at tree name ≡ t = ap (tree_at tree) first in
    is
    ∙ ap (λ i. is_identifier (kind_of (tree_at tree i))) next
    ∙ all_true (nat_lt (n + 1) (n + size (tree_at tree n))) (is_name_ref (kind_of t)) (size t == 2) (is_identifier (kind_of (tree_at tree (n + 2)))) (below (n + 1) (n + size (tree_at tree n)) (omega (arith, inside, first)))
    (ap (λ t. is_name_ref (kind_of t)) (sym to_first) ∙ kind)
    (same (size t) 2 (ap size (sym to_first) ∙ two))

-- its first child is the name
name_found : (tree : Tree) (n : ℕ) → n < size tree → IsPlain tree n → node_child (Node node.NAME_REF) (cursor_at tree n) ≡ Some (cursor_at tree (n + 1))
name_found tree n h p =
    let stop = n + size (tree_at tree n) in
    let begun = children_begin tree n (n + 1) stop h (omega arith) (end_is_behind tree n stop h refl) in
    let here : true ≡ is_node_among (only (Node node.NAME_REF)) (cursor_at tree (n + 1)) =
    sym (ap (λ b. b && only (Node node.NAME_REF) (kind_of (tree_at tree (n + 1)))) (of_two (tree_at tree (n + 1)) p.two) ∙ name_kind (kind_of (tree_at tree (n + 1))) p.name) in
    ap (first_node_among (only (Node node.NAME_REF))) (sym begun.0)
    ∙ child_node (only (Node node.NAME_REF)) tree (n + 1) (n + 1 + size (tree_at tree (n + 1))) stop true begun.1 p.inside refl here

-- which has no keyword
no_keyword : (tree : Tree) (n : ℕ) → n < size tree → IsPlain tree n → first_token_among is_path_keyword (children_of (cursor_at tree (n + 1))) ≡ None
no_keyword tree n h p =
    let m = n + 1 in
    let stop = m + size (tree_at tree m) in
    let is_row : m < size tree = omega (arith, fits tree n h, p.inside) in
    let three : stop ≡ n + 3 = omega (arith, p.two) in
    let begun = children_begin tree m (n + 2) stop is_row (omega arith) (end_is_behind tree m stop is_row refl) in
    let past = n + 2 + size (tree_at tree (n + 2)) in
    let end : stop ≤ past = omega (arith, three, some_row (tree_at tree (n + 2))) in
    let here : false ≡ is_token_among is_path_keyword (cursor_at tree (n + 2)) =
    sym (no_token (is_token (tree_at tree (n + 2))) (is_path_keyword (kind_of (tree_at tree (n + 2)))) (identifier_rules (kind_of (tree_at tree (n + 2))) p.identifier).1) in
    ap (first_token_among is_path_keyword) (sym begun.0)
    ∙ child_token is_path_keyword tree (n + 2) past stop false begun.1 (omega (arith, three)) refl here
    ∙ ap (first_token_among is_path_keyword) (none_left tree past stop end)
  where
    no_token : (a b : Bool) → b ≡ false → (a && b) ≡ false
    no_token true b e = e
    no_token false b e = refl

    none_left : (tree : Tree) (a stop : ℕ) → stop ≤ a → siblings_left tree a stop ≡ []
    none_left tree a stop h = grind (arith, nat_tests, h)

pub plain_row : (tree : Tree) (n : ℕ) → n < size tree → IsPlain tree n → violations_at (cursor_at tree n) ≡ []
plain_row tree n h p =
    segment_rules (kind_of (tree_at tree n)) (cursor_at tree n) p.segment
    ∙ plain_segment (cursor_at tree n) (ap (λ o. is_some (option_and_then (λ name. first_token_among is_path_keyword (children_of name)) o)) (name_found tree n h p) ∙ ap is_some (no_keyword tree n h p))

-- ---- what is left from a row on

-- a row without rules is passed
skip : (tree : Tree) (a to : ℕ) → has_rules (kind_of (tree_at tree a)) ≡ false → violations_from tree a to ≡ violations_from tree (a + 1) to
skip tree a to none = elim (below_or_after a to) [
  | inl lt ↦
      let count : to - a ≡ suc (to - (a + 1)) = omega (arith, lt) in
      ap (λ k. flat_map violations_at (filter at_node (cursors_from tree a k))) count
      ∙ by (at_node (cursor_at tree a)) (filter at_node (cursors_from tree (a + 1) (to - (a + 1))))
  | inr same ↦
      let before : to - a ≡ 0 = omega (arith, same.1) in
      let after : to - (a + 1) ≡ 0 = omega (arith, same.1) in
      ap (λ k. flat_map violations_at (filter at_node (cursors_from tree a k))) before
      ∙ sym (ap (λ k. flat_map violations_at (filter at_node (cursors_from tree (a + 1) k))) after)
]
  where
    by : (b : Bool) (l : List Cursor) → flat_map violations_at (cond b (cursor_at tree a ∷ l) l) ≡ flat_map violations_at l
    by true l = ap (λ v. v ++ flat_map violations_at l) (no_rules_at (cursor_at tree a) none)
    by false l = refl

-- the next row with rules is found
pub found_left : (tree : Tree) (a to m : ℕ) → a ≤ m → m < to → is_node_among has_rules (cursor_at tree m) ≡ true → NoNodesAmong has_rules tree a m
    → violations_from tree a to ≡ violations_at (cursor_at tree m) ++ violations_from tree (m + 1) to
found_left tree a to m from lt is none =
    let run = run_with has_rules tree a to m from lt is none in
    walked (filter at_node (cursors_from tree a (to - a))) (cursor_at tree m) run.0
    ∙ ap (λ l. violations_at (cursor_at tree m) ++ flat_map violations_at l) (sym run.1)

-- it is a plain segment
pub plain_left : (tree : Tree) (a to m : ℕ) → a ≤ m → m < to → m < size tree → is_node_among has_rules (cursor_at tree m) ≡ true → NoNodesAmong has_rules tree a m → is_plain_segment tree m ≡ true
    → violations_from tree a to ≡ violations_from tree (m + 1 + size (tree_at tree (m + 1))) to
plain_left tree a to m from lt row is none e =
    let p = plain tree m e in
    let second : m + 1 + 1 ≡ m + 2 = omega arith in
    let behind : m + 2 + 1 ≡ m + 1 + size (tree_at tree (m + 1)) = omega (arith, p.two) in
    found_left tree a to m from lt is none
    ∙ ap (λ v. v ++ violations_from tree (m + 1) to) (plain_row tree m row p)
    ∙ skip tree (m + 1) to (name_rules (kind_of (tree_at tree (m + 1))) p.name)
    ∙ ap (λ n. violations_from tree n to) second
    ∙ skip tree (m + 2) to (identifier_rules (kind_of (tree_at tree (m + 2))) p.identifier).0
    ∙ ap (λ n. violations_from tree n to) behind

-- there is none
pub none_left : (tree : Tree) (a to : ℕ) → NoNodesAmong has_rules tree a to → violations_from tree a to ≡ []
none_left tree a to none = all_walked (filter at_node (cursors_from tree a (to - a))) (run_without has_rules tree a to none).0

-- the element at the row of a node is the node
pub node_there : (c : Cursor) → IsNode (focus c) → node_part (element_of c) ≡ Some c
node_there c h = by (focus c) h
  where
    by : (t : Tree) → IsNode t → node_part (element_by t c) ≡ Some c
    by (inner k l) h = refl
    by (leaf k s) h = absurd h

-- ---- lists without attributes

pub no_attributes : (l : List Cursor) → find (is_of_kind (Node node.ATTR)) l ≡ None → flat_map attribute_at l ≡ []
no_attributes [] e = refl
no_attributes (c ∷ l) e = by (is_of_kind (Node node.ATTR) c) refl e (no_attributes l)
  where
    by : (b : Bool) → is_of_kind (Node node.ATTR) c ≡ b → cond b (Some c) (find (is_of_kind (Node node.ATTR)) l) ≡ None
        → (find (is_of_kind (Node node.ATTR)) l ≡ None → flat_map attribute_at l ≡ []) → attribute_at c ++ flat_map attribute_at l ≡ []
    by true is e rest = (let no : Some c ≡ None = e in cc)
    by false is e rest =
        let none : attribute_at c ≡ [] = ap (λ b. named messages.InnerAttribute (if (b && is_some (token_child (Token token.BANG) c)) then Some c else None)) is in
        ap (λ v. v ++ flat_map attribute_at l) none ∙ rest e
