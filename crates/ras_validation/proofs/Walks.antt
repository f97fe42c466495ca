-- Walks over the nodes that have rules, and parts of them.
use Rattle.std.proofs.Common.{◌≡◌, ℕ, ◌+◌, ◌-◌, ◌<◌, ◌≤◌, suc, List, [], ◌∷◌, ◌++◌, length, cond, Bool, true, false, refl, sym, ap, ◌∙◌, arith, append_assoc}
use Rattle.std.specs.Prelude.{Option, None, Some, flat_map, is_some, if◌then◌else◌, not, ◌&&◌}
use Rattle.std.specs.List.{filter, find}
use Rattle.std.specs.Option.{option_and_then}
use Rattle.std.proofs.lemmas.List.Elements.{filter-append}
use Rattle.syntax_kind.specs.declared.syntax_kind.SyntaxKind.{SyntaxKind}
use Rattle.syntax_kind.specs.declared.syntax_kind.SyntaxKind.TheVariants.{Node, Token}
use Rattle.syntax_kind.specs.declared.syntax_kind.node_kind.NodeKind.TheVariants as node
use Rattle.syntax_kind.specs.declared.syntax_kind.token_kind.TokenKind.TheVariants as token
use Rattle.syntax_kind.specs.KindLaws.{is_same_kind-equal}
use Rattle.tree_model.specs.Tree.{Tree, size, nil}
use Rattle.tree_model.specs.Rows.{tree_at}
use Rattle.tree_model.specs.Neighbours.{behind_at}
use Rattle.tree_model.specs.Cursor.{Cursor, at_node, at_token, children_of, descendants_of, cursor_at, cursors_from}
use Rattle.tree_model.proofs.At.{At-fits, cong₂, forest_size-cons, some_row}
use Rattle.tree_model.proofs.StepLemmas.{root_tree}
use Rattle.tree_model.proofs.TableLemmas.{at_row}
use Rattle.tree_model.proofs.TokenSearch.{cursors_from-append}
use Rattle.tree_model.proofs.WalkLemmas.{descendants-numbered}
use Rattle.lossless_tree.specs.KindSearch.{is_among, after_first}
use Rattle.ras_node.specs.Nodes.{kind_at, is_of_kind, token_child}
use Rattle.ras_validation.specs.Kinds.{has_rules, is_path_keyword}
use Rattle.ras_validation.specs.Lookups.{node_child, segment_keyword, has_path_keyword, path_around, starts_path}
use Rattle.ras_validation.specs.Rules.{self_in_path, crate_in_path, crate_is_inside}
use Rattle.ras_validation.specs.declared.violation.ViolationMessage.TheVariants as messages
use Rattle.ras_validation.specs.Violations.{named, violations_by, violations_at, violations_of, violations_among, at_segment, ViolationsStandTogether, ViolationsOfParts, OnlyKindsWithRules}

-- ---- nodes without rules

no_rules : (k : SyntaxKind) (c : Cursor) → has_rules k ≡ false → violations_by k c ≡ []
no_rules (Node node.LITERAL) c e = (let no : true ≡ false = e in cc)
no_rules (Node node.CONST) c e = (let no : true ≡ false = e in cc)
no_rules (Node node.BLOCK_EXPR) c e = (let no : true ≡ false = e in cc)
no_rules (Node node.FIELD_EXPR) c e = (let no : true ≡ false = e in cc)
no_rules (Node node.RECORD_EXPR_FIELD) c e = (let no : true ≡ false = e in cc)
no_rules (Node node.VISIBILITY) c e = (let no : true ≡ false = e in cc)
no_rules (Node node.RANGE_EXPR) c e = (let no : true ≡ false = e in cc)
no_rules (Node node.PATH_SEGMENT) c e = (let no : true ≡ false = e in cc)
no_rules (Node node.REF_TYPE) c e = (let no : true ≡ false = e in cc)
no_rules (Node node.PTR_TYPE) c e = (let no : true ≡ false = e in cc)
no_rules (Node node.FN_PTR_TYPE) c e = (let no : true ≡ false = e in cc)
no_rules (Node node.DYN_TRAIT_TYPE) c e = (let no : true ≡ false = e in cc)
no_rules (Node node.IMPL_TRAIT_TYPE) c e = (let no : true ≡ false = e in cc)
no_rules (Node node.MACRO_RULES) c e = (let no : true ≡ false = e in cc)
no_rules (Node node.LET_EXPR) c e = (let no : true ≡ false = e in cc)
no_rules _ c e = refl

pub no_rules_at : OnlyKindsWithRules
no_rules_at c e = no_rules (kind_at c) c e

-- ---- the walk over nodes that have rules

pub walked : (l : List Cursor) (x : Cursor) → Some x ≡ find (is_among has_rules) l → flat_map violations_at l ≡ violations_at x ++ flat_map violations_at (after_first (is_among has_rules) l)
walked [] x e = (let no : Some x ≡ None = e in cc)
walked (c ∷ l) x e = by (has_rules (kind_at c)) refl e (walked l x)
  where
    by : (b : Bool) → has_rules (kind_at c) ≡ b → Some x ≡ cond b (Some c) (find (is_among has_rules) l)
        → (Some x ≡ find (is_among has_rules) l → flat_map violations_at l ≡ violations_at x ++ flat_map violations_at (after_first (is_among has_rules) l))
        → violations_at c ++ flat_map violations_at l ≡ violations_at x ++ flat_map violations_at (cond b l (after_first (is_among has_rules) l))
    by true is e rest = (let same : c ≡ x = cc in ap (λ d. violations_at d ++ flat_map violations_at l) same)
    by false is e rest = ap (λ v. v ++ flat_map violations_at l) (no_rules_at c is) ∙ rest e

pub all_walked : (l : List Cursor) → None ≡ find (is_among has_rules) l → flat_map violations_at l ≡ []
all_walked [] e = refl
all_walked (c ∷ l) e = by (has_rules (kind_at c)) refl e (all_walked l)
  where
    by : (b : Bool) → has_rules (kind_at c) ≡ b → None ≡ cond b (Some c) (find (is_among has_rules) l) → (None ≡ find (is_among has_rules) l → flat_map violations_at l ≡ [])
        → violations_at c ++ flat_map violations_at l ≡ []
    by true is e rest = (let no : None ≡ Some c = e in cc)
    by false is e rest = ap (λ v. v ++ flat_map violations_at l) (no_rules_at c is) ∙ rest e

pub fewer_left : (test : Cursor → Bool) (l : List Cursor) (x : Cursor) → Some x ≡ find test l → length (after_first test l) < length l
fewer_left test [] x e = (let no : Some x ≡ None = e in cc)
fewer_left test (c ∷ l) x e = by (test c) e (fewer_left test l x)
  where
    by : (b : Bool) → Some x ≡ cond b (Some c) (find test l) → (Some x ≡ find test l → length (after_first test l) < length l) → length (cond b l (after_first test l)) < suc (length l)
    by true e rest = omega arith
    by false e rest = omega (arith, rest e)

-- ---- segments without keyword

find_none : (p q : Cursor → Bool) → ((c : Cursor) → p c ≡ false → q c ≡ false) → (l : List Cursor) → is_some (find p l) ≡ false → find q l ≡ None
find_none p q h [] e = refl
find_none p q h (c ∷ l) e = by (p c) refl e (find_none p q h l)
  where
    by : (b : Bool) → p c ≡ b → is_some (cond b (Some c) (find p l)) ≡ false → (is_some (find p l) ≡ false → find q l ≡ None) → find q (c ∷ l) ≡ None
    by true is e rest = (let no : true ≡ false = e in cc)
    by false is e rest = ap (λ b. cond b (Some c) (find q l)) (h c is) ∙ rest e

other_kind : (kind : SyntaxKind) → is_path_keyword kind ≡ true → (c : Cursor) → is_path_keyword (kind_at c) ≡ false → is_of_kind kind c ≡ false
other_kind kind listed c e = by (is_of_kind kind c) refl
  where
    by : (b : Bool) → is_of_kind kind c ≡ b → b ≡ false
    by false is = refl
    by true is = (let no : true ≡ false = sym listed ∙ ap is_path_keyword (sym ((is_same_kind-equal (kind_at c) kind).0 is)) ∙ e in cc)

no_keyword : (kind : SyntaxKind) → is_path_keyword kind ≡ true → (c : Cursor) → has_path_keyword c ≡ false → segment_keyword kind c ≡ None
no_keyword kind listed c e = by (node_child (Node node.NAME_REF) c) e
  where
    by : (name : Option Cursor) → is_some (option_and_then (λ name. find (is_among is_path_keyword) (filter at_token (children_of name))) name) ≡ false → option_and_then (token_child kind) name ≡ None
    by None e = refl
    by (Some name) e = find_none (is_among is_path_keyword) (is_of_kind kind) (other_kind kind listed) (filter at_token (children_of name)) e

no_self : (c : Cursor) → has_path_keyword c ≡ false → self_in_path c ≡ None
no_self c e = by (path_around c)
  where
    none : segment_keyword (Token token.SELF_KW) c ≡ None
    none = no_keyword (Token token.SELF_KW) refl c e

    either : (b : Bool) → (if b then segment_keyword (Token token.SELF_KW) c else None) ≡ None
    either true = none
    either false = refl

    by : (path : Option Cursor) → option_and_then (λ path. if not (starts_path c path) && is_some (path_around path) then segment_keyword (Token token.SELF_KW) c else None) path ≡ None
    by None = refl
    by (Some path) = either (not (starts_path c path) && is_some (path_around path))

no_crate : (c : Cursor) → has_path_keyword c ≡ false → crate_in_path c ≡ None
no_crate c e = by (path_around c)
  where
    inside : Cursor → Cursor → Option Cursor
    inside path keyword = if is_some (segment_keyword (Token token.SELF_KW) c) then None else (if crate_is_inside c path then Some keyword else None)

    by : (path : Option Cursor) → option_and_then (λ path. option_and_then (inside path) (segment_keyword (Token token.CRATE_KW) c)) path ≡ None
    by None = refl
    by (Some path) = ap (option_and_then (inside path)) (no_keyword (Token token.CRATE_KW) refl c e)

pub plain_segment : (c : Cursor) → has_path_keyword c ≡ false → at_segment c ≡ []
plain_segment c e = cong₂ (λ a b. named messages.SelfInPath a ++ named messages.CrateInPath b) (no_self c e) (no_crate c e)

-- ---- the walk in three parts

among-append : (k l : List Cursor) → violations_among (k ++ l) ≡ violations_among k ++ violations_among l
among-append k l = ap (flat_map violations_at) (filter-append at_node k l) ∙ flat (filter at_node k)
  where
    flat : (k : List Cursor) → flat_map violations_at (k ++ filter at_node l) ≡ flat_map violations_at k ++ violations_among l
    flat [] = refl
    flat (c ∷ k) = ap (λ v. violations_at c ++ v) (flat k) ∙ sym (append_assoc (violations_at c) (flat_map violations_at k) (violations_among l))

pub stand_together : ViolationsStandTogether
stand_together tree n h =
    let e = behind_at tree n in
    let fits : e ≤ size tree = omega (arith, At-fits (at_row tree n h), forest_size-cons tree nil) in
    let past : n < e = omega (arith, some_row (tree_at tree n)) in
    let root : size tree ≡ 0 + size (tree_at tree 0) = omega (arith, ap size (root_tree tree)) in
    let none : size tree - 0 ≡ size tree = omega arith in
    let whole : cursors_from tree 0 (size tree) ≡ descendants_of (cursor_at tree 0) =
    ap (cursors_from tree 0) (sym none) ∙ descendants-numbered tree 0 (size tree) (omega (arith, h)) root in
    let front = cursors_from tree 0 n in
    let own = cursors_from tree n (e - n) in
    let rest = cursors_from tree e (size tree - e) in
    let parts : cursors_from tree 0 (size tree) ≡ front ++ (own ++ rest) =
    cursors_from-append tree 0 n (size tree - n) (size tree) n (omega (arith, h)) (omega arith)
    ∙ ap (λ l. front ++ l) (cursors_from-append tree n (e - n) (size tree - e) (size tree - n) e (omega (arith, fits, past)) (omega (arith, past))) in
    ap violations_among (sym whole ∙ parts)
    ∙ among-append front (own ++ rest)
    ∙ ap (λ v. violations_among front ++ v) (among-append own rest)
    ∙ ap (λ l. violations_among front ++ (violations_among l ++ violations_among rest)) (descendants-numbered tree n e h refl)

-- ---- the walk in runs of rows

whole_rows : (tree : Tree) → violations_of (cursor_at tree 0) ≡ violations_among (cursors_from tree 0 (size tree))
whole_rows tree =
    let root : size tree ≡ 0 + size (tree_at tree 0) = omega (arith, ap size (root_tree tree)) in
    let none : size tree - 0 ≡ size tree = omega arith in
    sym (ap violations_among (ap (cursors_from tree 0) (sym none) ∙ descendants-numbered tree 0 (size tree) (omega (arith, some_row tree)) root))

parts_of_rows : (tree : Tree) (a b c : ℕ) → a ≤ b → b ≤ c
    → violations_among (cursors_from tree a (c - a)) ≡ violations_among (cursors_from tree a (b - a)) ++ violations_among (cursors_from tree b (c - b))
parts_of_rows tree a b c ab bc =
    ap violations_among (cursors_from-append tree a (b - a) (c - b) (c - a) b (omega (arith, ab, bc)) (omega (arith, ab)))
    ∙ among-append (cursors_from tree a (b - a)) (cursors_from tree b (c - b))

pub of_parts : ViolationsOfParts
of_parts = (whole_rows, parts_of_rows)
