-- Nodes that are made from texts and from nodes between them.
use Rattle.std.specs.Prelude.{◌≡◌, ◌⊎◌, ℕ, ◌==◌, Bool, true, false, not, ◌&&◌, if◌then◌else◌, List, [], ◌∷◌, ◌++◌, length, map, Option, Some, None, ⊤, codes, string_bytes}
use Rattle.std.specs.List.{filter}
use Rattle.std.specs.Cmp.Lexicographic.{pointwise}
use Rattle.syntax_kind.specs.declared.syntax_kind.SyntaxKind.{SyntaxKind}
use Rattle.syntax_kind.specs.Kinds.{is_same_kind}
use Rattle.tree_model.specs.Tree.{text}
use Rattle.tree_model.specs.Cursor.{Cursor, focus, range_start, parent_of, children_of, descendants_of, at_node}
use Rattle.lossless_tree.specs.declared.cursor.element.NodeOrToken.{NodeOrToken}
use Rattle.lossless_tree.specs.declared.cursor.element.NodeOrToken.TheVariants.{Node, Token}
use Rattle.lossless_tree.specs.Element.{element_of}
use Rattle.tree_model.specs.Equality.{is_same_tree}
use Rattle.ras_node.specs.Nodes.{kind_at}
use Rattle.ras_prec.specs.Rules.{asks}
use Rattle.ras_front_end.specs.declared.edition.Edition.{Edition}
use Rattle.ras_front_end.specs.Front.{Front}
use Rattle.syntax_make.specs.declared.error.MakeError.{MakeError}
use Rattle.syntax_make.specs.declared.error.MakeError.TheVariants.{NotOne, Memory}
use Rattle.syntax_make.specs.declared.from_parts.Part.{Part}
use Rattle.syntax_make.specs.declared.from_parts.Draft.{Draft}
use Rattle.syntax_make.specs.declared.from_parts.Piece.{Piece}
use Rattle.syntax_make.specs.declared.from_parts.Piece.TheVariants as piece
use Rattle.syntax_make.specs.declared.from_parts.Pairs.{Pairs}
use Rattle.syntax_make.specs.declared.from_parts.Pairs.TheVariants.{Neither, Right, Left, Both}
use Rattle.syntax_make.specs.Places.{place_of}
use Rattle.syntax_make.specs.Failures.{is_misread}
use Rattle.syntax_make.specs.Made.{IsMadeAt, IsRefusedAt}

-- a fixed text; a node by its text; the children of a node by their texts; and an operand, which
-- may get a pair of parentheses: the first or the only one, or the second
pub data Bit : Type 0 where
  fixed : List ℕ → Bit
  part : Cursor → Bit
  children : Cursor → Bit
  left : Cursor → Bit
  right : Cursor → Bit

abbrev pub bit_of : Piece → Bit
bit_of (piece.Text s) = fixed s.now
bit_of (piece.Part c) = part c.now
bit_of (piece.Children c) = children c.now
bit_of (piece.Left c) = left c.now
bit_of (piece.Right c) = right c.now

abbrev pub bits_of : List Piece → List Bit
bits_of ps = map bit_of ps

-- which operands get a pair
abbrev pub has_left : Pairs → Bool
has_left Neither = false
has_left Left = true
has_left Right = false
has_left Both = true

abbrev pub has_right : Pairs → Bool
has_right Neither = false
has_right Left = false
has_right Right = true
has_right Both = true

abbrev pub opening : Bool → List ℕ
opening true = codes "("
opening false = []

abbrev pub closing : Bool → List ℕ
closing true = codes ")"
closing false = []

-- a text, and the nodes in it, each with its start
pub record Drafted : Type 0 where
  pub text : List ℕ
  pub parts : List Part

abbrev pub drafted : Draft → Drafted
drafted d = record { text = string_bytes d.text; parts = d.parts.items }

-- with a text behind; with a node behind; with a node in a pair behind, or without one
abbrev pub with_text : Drafted → List ℕ → Drafted
with_text d s = record { text = d.text ++ s; parts = d.parts }

abbrev pub with_part : Bool → Drafted → Cursor → Drafted
with_part is_operand d c =
    record { text = d.text ++ text (focus c); parts = d.parts ++ record { start = length d.text; node = c; is_operand = is_operand } ∷ [] }

abbrev pub with_operand : Bool → Drafted → Cursor → Drafted
with_operand pair d c = with_text (with_part true (with_text d (opening pair)) c) (closing pair)

-- with a node or a token behind; with several
abbrev pub with_element : Drafted → NodeOrToken Cursor Cursor → Drafted
with_element d (Node c) = with_part false d c
with_element d (Token c) = with_text d (text (focus c))

abbrev pub with_elements : Drafted → List (NodeOrToken Cursor Cursor) → Drafted
with_elements d [] = d
with_elements d (e ∷ es) = with_elements (with_element d e) es

-- with the children of a node behind
abbrev pub with_children : Drafted → Cursor → Drafted
with_children d c = with_elements d (map element_of (children_of c))

abbrev pub with_bit : Pairs → Drafted → Bit → Drafted
with_bit pairs d (fixed s) = with_text d s
with_bit pairs d (part c) = with_part false d c
with_bit pairs d (children c) = with_children d c
with_bit pairs d (left c) = with_operand (has_left pairs) d c
with_bit pairs d (right c) = with_operand (has_right pairs) d c

abbrev pub draft_from : Pairs → Drafted → List Bit → Drafted
draft_from pairs d [] = d
draft_from pairs d (b ∷ bs) = draft_from pairs (with_bit pairs d b) bs

-- the texts of the bits, one after another
abbrev pub draft_of : Pairs → List Bit → Drafted
draft_of pairs bs = draft_from pairs (record { text = []; parts = [] }) bs

-- the node starts where the part does, and is the same tree. (Kind and text tell most nodes apart.)
abbrev pub is_part : Part → Cursor → Bool
is_part p c =
    (range_start c == p.start && is_same_kind (kind_at c) (kind_at p.node))
    && (pointwise ◌==◌ (text (focus c)) (text (focus p.node)) && is_same_tree (focus c) (focus p.node))

-- the node needs a pair of parentheses below its parent
abbrev pub needs_pair_below : Option Cursor → Cursor → Bool
needs_pair_below None c = false
needs_pair_below (Some parent) c = asks c parent c

abbrev pub needs_pair : Cursor → Bool
needs_pair c = needs_pair_below (parent_of c) c

-- the node is the part, and no operand that needs a pair there
abbrev pub is_part_here : Part → Cursor → Bool
is_part_here p c = is_part p c && not (p.is_operand && needs_pair c)

-- each part is one of the nodes, in this order
abbrev pub are_parts : List Part → List Cursor → Bool
are_parts [] cs = true
are_parts (p ∷ ps) [] = false
are_parts (p ∷ ps) (c ∷ cs) = if is_part_here p c then are_parts ps cs else are_parts (p ∷ ps) cs

abbrev pub nodes_of : Cursor → List Cursor
nodes_of c = filter at_node (descendants_of c)

-- made of the text of the bits, with these pairs, and with each of its parts where it was put
pub record IsFormWith (front : Front) (edition : Edition) (casts : SyntaxKind → Bool) (pairs : Pairs) (bits : List Bit) (made : Cursor) : Type 0 where
  pub from_text : IsMadeAt front edition (place_of casts) casts (draft_of pairs bits).text made
  pub with_parts : are_parts (draft_of pairs bits).parts (nodes_of made) ≡ true

-- the text is such a node, but one without a part, or with an operand that needs a pair
pub record LacksPart (front : Front) (edition : Edition) (casts : SyntaxKind → Bool) (pairs : Pairs) (bits : List Bit) : Type 0 where
  pub made : Cursor
  pub from_text : IsMadeAt front edition (place_of casts) casts (draft_of pairs bits).text made
  pub lacks : are_parts (draft_of pairs bits).parts (nodes_of made) ≡ false

-- why none is made with these pairs
abbrev pub IsRefusedWith : Front → Edition → (SyntaxKind → Bool) → Pairs → List Bit → MakeError → Type 0
IsRefusedWith front edition casts pairs bits e =
    (e ≡ Memory) ⊎ IsRefusedAt front edition (place_of casts) casts (draft_of pairs bits).text e ⊎ ((e ≡ NotOne) × LacksPart front edition casts pairs bits)

-- with these pairs the text does not read as what is meant, or needs further pairs
pub record IsMisread (front : Front) (edition : Edition) (casts : SyntaxKind → Bool) (bits : List Bit) (pairs : Pairs) : Type 0 where
  pub error : MakeError
  pub refused : IsRefusedWith front edition casts pairs bits error
  pub misread : is_misread error ≡ true

-- with each choice of fewer pairs, which is tried before, it does not
abbrev pub NeedsPairs : Front → Edition → (SyntaxKind → Bool) → List Bit → Pairs → Type 0
NeedsPairs front edition casts bits Neither = ⊤
NeedsPairs front edition casts bits Left = IsMisread front edition casts bits Neither
NeedsPairs front edition casts bits Right = IsMisread front edition casts bits Neither × IsMisread front edition casts bits Left
NeedsPairs front edition casts bits Both =
    IsMisread front edition casts bits Neither × IsMisread front edition casts bits Left × IsMisread front edition casts bits Right

-- made with the first pairs with which the text reads as what is meant and needs no further ones;
-- so no pair is put where the text without it does
pub record IsFormOf (front : Front) (edition : Edition) (casts : SyntaxKind → Bool) (bits : List Bit) (made : Cursor) : Type 0 where
  pub pairs : Pairs
  pub form : IsFormWith front edition casts pairs bits made
  pub needed : NeedsPairs front edition casts bits pairs

-- it is refused with some pairs for another reason than what the text reads as
pub record IsStopped (front : Front) (edition : Edition) (casts : SyntaxKind → Bool) (bits : List Bit) (e : MakeError) : Type 0 where
  pub pairs : Pairs
  pub refused : IsRefusedWith front edition casts pairs bits e
  pub reason : is_misread e ≡ false

-- the text is misread with all pairs, and without pairs so
pub record IsMisreadAlways (front : Front) (edition : Edition) (casts : SyntaxKind → Bool) (bits : List Bit) (e : MakeError) : Type 0 where
  pub refused : IsRefusedWith front edition casts Neither bits e
  pub reason : is_misread e ≡ true
  pub left : IsMisread front edition casts bits Left
  pub right : IsMisread front edition casts bits Right
  pub both : IsMisread front edition casts bits Both

-- why none is made
abbrev pub IsNoFormOf : Front → Edition → (SyntaxKind → Bool) → List Bit → MakeError → Type 0
IsNoFormOf front edition casts bits e = IsStopped front edition casts bits e ⊎ IsMisreadAlways front edition casts bits e
