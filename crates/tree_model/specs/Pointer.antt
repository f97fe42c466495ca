-- A pointer to a node, and the node that it finds. (Upstream: `rowan`'s `ast::SyntaxNodePtr`.)
use Rattle.std.specs.Prelude.{◌≡◌, ◌<◌, Contains, length, List, [], ◌∷◌, Option, Some, None}
use Rattle.syntax_kind.specs.declared.syntax_kind.SyntaxKind.{SyntaxKind}
use Rattle.text_size.specs.TextRange.{Bounds}
use Rattle.tree_model.specs.Tree.{IsNode, IsPlace, kind_of, text}
use Rattle.tree_model.specs.Cursor.{Cursor, focus, range_of, IsRoot, at_place, ancestors_of, descendants_of}

-- a pointer: the kind and the range of a node
pub record Pointer : Type 0 where
  pub kind : SyntaxKind
  pub range : Bounds

abbrev pub pointer_to : Cursor → Pointer
pointer_to c = record { kind = kind_of (focus c); range = range_of c }

-- a node with the pointer's kind and range
pub record PointsTo (p : Pointer) (c : Cursor) : Type 0 where
  pub is_node : IsNode (focus c)
  pub kind : kind_of (focus c) ≡ p.kind
  pub range : range_of c ≡ p.range

-- the first cursor of a list that P holds of, if there is one
pub data IsFirst (P : Cursor → Type 0) : List Cursor → Option Cursor → Type 0 where
  in_none : IsFirst P [] None
  here : {x : Cursor} {xs : List Cursor} → P x → IsFirst P (x ∷ xs) (Some x)
  later : {x : Cursor} {xs : List Cursor} {r : Option Cursor} → (P x → ⊥) → IsFirst P xs r → IsFirst P (x ∷ xs) r

-- from the root of a tree a pointer finds the first node in preorder with its kind and range; from
-- any other node nothing
pub record Finds (p : Pointer) (from : Cursor) (found : Option Cursor) : Type 0 where
  pub from_root : IsRoot from → IsFirst (PointsTo p) (descendants_of from) found
  pub from_below : (IsRoot from → ⊥) → found ≡ None

-- a pointer to a node that has a text, and that is the only one of its ancestors with its kind and
-- range, finds that node from the root
abbrev pub PointersResolve : Type 0
PointersResolve =
    (c : Cursor) (found : Option Cursor) → IsPlace c.tree c.place → IsNode (focus c) → 0 < length (text (focus c))
    → ((a : Cursor) → Contains (ancestors_of c) a → pointer_to a ≡ pointer_to c → a ≡ c) → Finds (pointer_to c) (at_place c []) found → found ≡ Some c
