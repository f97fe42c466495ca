-- The metas of attributes, through `cfg_attr` and `unsafe`. (Rust Reference, "The `cfg_attr`
-- attribute": it is the attributes that it lists, which may be `cfg_attr`s again.)
use Rattle.std.specs.Prelude.{◌≡◌, ℕ, Bool, true, false, not, ◌&&◌, ◌||◌, List, [], ◌∷◌, Option, Some, None, option_map, is_some, codes, drop, if◌then◌else◌}
use Rattle.std.specs.Option.{option_and_then}
use Rattle.std.specs.List.{filter, find}
use Rattle.syntax_kind.specs.declared.syntax_kind.SyntaxKind.{SyntaxKind}
use Rattle.syntax_kind.specs.declared.syntax_kind.SyntaxKind.TheVariants.{Node}
use Rattle.syntax_kind.specs.declared.syntax_kind.node_kind.NodeKind.TheVariants as kind
use Rattle.tree_model.specs.Tree.{text}
use Rattle.tree_model.specs.Cursor.{Cursor, focus, at_node, at_token, ancestors_of, descendants_of}
use Rattle.tree_model.specs.Equality.{is_same_cursor}
use Rattle.ras_node.specs.Nodes.{kind_at, is_of_kind, typed_child}

abbrev pub is_cfg_attr : Cursor → Bool
is_cfg_attr c = is_of_kind (Node kind.CFG_ATTR_META) c

-- among the nodes above a node, the innermost first: up to `top`, itself included, all are
-- `cfg_attr`s
abbrev pub reaches : Cursor → List Cursor → Bool
reaches top [] = false
reaches top (a ∷ above) = is_cfg_attr a && (is_same_cursor a top || reaches top above)

-- a meta that is not a `cfg_attr`, and is `top`, or has only `cfg_attr`s around it up to `top`
abbrev pub is_opened : (metas : SyntaxKind → Bool) → Cursor → Cursor → Bool
is_opened metas top c =
    metas (kind_at c) && (not (is_cfg_attr c) && (is_same_cursor c top || reaches top (drop 1 (ancestors_of c))))

-- `top` with each `cfg_attr` replaced by the metas in it, in the order of the text
abbrev pub opened : (metas : SyntaxKind → Bool) → Cursor → List Cursor
opened metas top = filter (is_opened metas top) (filter at_node (descendants_of top))

abbrev pub is_unsafe : Cursor → Bool
is_unsafe c = is_of_kind (Node kind.UNSAFE_META) c

-- d is the meta inside the `unsafe`s around c: c itself if it is not one; None if an `unsafe` has
-- no meta in it
pub data IsInnermost (metas : SyntaxKind → Bool) : Cursor → Option Cursor → Type 0 where
  itself : {c : Cursor} → is_unsafe c ≡ false → IsInnermost metas c (Some c)
  empty : {c : Cursor} → is_unsafe c ≡ true → typed_child metas c ≡ None → IsInnermost metas c None
  within : {c m : Cursor} {d : Option Cursor} → is_unsafe c ≡ true → typed_child metas c ≡ Some m → IsInnermost metas m d → IsInnermost metas c d

-- the path of a meta that is not an `unsafe`; `cfg` and `cfg_attr` have none
abbrev pub own_path : (paths : SyntaxKind → Bool) → Cursor → Option Cursor
own_path paths c = if is_cfg_attr c || is_of_kind (Node kind.CFG_META) c then None else typed_child paths c

-- r is the path of the meta inside the `unsafe`s around c
abbrev pub IsMetaPath : (metas paths : SyntaxKind → Bool) → Cursor → Option Cursor → Type 0
IsMetaPath metas paths c r = (d : Option Cursor) × IsInnermost metas c d × (r ≡ option_and_then (own_path paths) d)

-- the first word of a path that has only one segment
abbrev pub path_word : (paths segments : SyntaxKind → Bool) → Cursor → Option (List ℕ)
path_word paths segments p =
    if is_some (typed_child paths p) then None
    else option_map (λ t. text (focus t)) (option_and_then (λ s. find at_token (descendants_of s)) (typed_child segments p))

-- name is the name of an attribute: the word of its path, or `cfg` or `cfg_attr`
pub data IsMetaName (metas paths segments : SyntaxKind → Bool) : Cursor → Option (List ℕ) → Type 0 where
  by_cfg_attr : {c : Cursor} → is_cfg_attr c ≡ true → IsMetaName metas paths segments c (Some (codes "cfg_attr"))
  by_cfg : {c : Cursor} → is_cfg_attr c ≡ false → is_of_kind (Node kind.CFG_META) c ≡ true → IsMetaName metas paths segments c (Some (codes "cfg"))
  by_path : {c : Cursor} {p : Option Cursor} → is_cfg_attr c ≡ false → is_of_kind (Node kind.CFG_META) c ≡ false → IsMetaPath metas paths c p → IsMetaName metas paths segments c (option_and_then (path_word paths segments) p)
