-- The patterns in a slice pattern: `a` and `b` before the `..` of `[a, b, rest @ .., c]`, and `c`
-- after it. (Rust Reference, "Slice patterns", "Rest patterns".)
use Rattle.std.specs.Prelude.{Bool, false, ◌||◌, ◌&&◌, List, [], ◌∷◌, if◌then◌else◌}
use Rattle.std.specs.Option.{option_map_or}
use Rattle.syntax_kind.specs.declared.syntax_kind.SyntaxKind.{SyntaxKind}
use Rattle.syntax_kind.specs.declared.syntax_kind.SyntaxKind.TheVariants.{Node}
use Rattle.syntax_kind.specs.declared.syntax_kind.node_kind.NodeKind.TheVariants as kind
use Rattle.tree_model.specs.Cursor.{Cursor}
use Rattle.ras_node.specs.Nodes.{is_of_kind, typed_child}

-- a pattern `..`, also bound by a name
abbrev pub is_dots : Cursor → Bool
is_dots c = is_of_kind (Node kind.REST_PAT) c

abbrev pub is_bound_dots : (pats : SyntaxKind → Bool) → Cursor → Bool
is_bound_dots pats c = is_dots c || (is_of_kind (Node kind.IDENT_PAT) c && option_map_or is_dots (typed_child pats c) false)

-- the same, also after `&`
abbrev pub is_rest : (pats : SyntaxKind → Bool) → Cursor → Bool
is_rest pats c =
    is_bound_dots pats c || (is_of_kind (Node kind.REF_PAT) c && option_map_or (is_bound_dots pats) (typed_child pats c) false)

-- the patterns before the first of these, all if there is none; and the patterns after it
abbrev pub before_rest : (pats : SyntaxKind → Bool) → List Cursor → List Cursor
before_rest pats [] = []
before_rest pats (c ∷ l) = if is_rest pats c then [] else c ∷ before_rest pats l

abbrev pub behind_rest : (pats : SyntaxKind → Bool) → List Cursor → List Cursor
behind_rest pats [] = []
behind_rest pats (c ∷ l) = if is_rest pats c then l else behind_rest pats l
