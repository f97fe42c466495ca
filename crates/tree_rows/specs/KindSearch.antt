-- What a search for a node or a token of some kinds finds in a list of cursors.
use Rattle.std.specs.Prelude.{Bool, ◌&&◌, List, [], ◌∷◌, Option, is_some, if◌then◌else◌}
use Rattle.std.specs.List.{filter, find}
use Rattle.std.specs.Option.{option_and_then}
use Rattle.syntax_kind.specs.declared.syntax_kind.SyntaxKind.{SyntaxKind}
use Rattle.syntax_kind.specs.Kinds.{is_same_kind}
use Rattle.tree_model.specs.Tree.{kind_of}
use Rattle.tree_model.specs.Cursor.{Cursor, focus, at_node, at_token, children_of}

-- the kind of the node or token is one of the set
abbrev pub is_among : (SyntaxKind → Bool) → Cursor → Bool
is_among kinds c = kinds (kind_of (focus c))

-- the set of one kind
abbrev pub only : SyntaxKind → SyntaxKind → Bool
only kind k = is_same_kind k kind

-- the cursor is at a node, or at a token, whose kind is one of the set
abbrev pub is_node_among : (SyntaxKind → Bool) → Cursor → Bool
is_node_among kinds c = at_node c && is_among kinds c

abbrev pub is_token_among : (SyntaxKind → Bool) → Cursor → Bool
is_token_among kinds c = at_token c && is_among kinds c

-- the first node of a list of cursors with a kind of the set, and the first such token
abbrev pub first_node_among : (SyntaxKind → Bool) → List Cursor → Option Cursor
first_node_among kinds l = find (is_among kinds) (filter at_node l)

abbrev pub first_token_among : (SyntaxKind → Bool) → List Cursor → Option Cursor
first_token_among kinds l = find (is_among kinds) (filter at_token l)

-- there is such a node, and it has a child token with a kind of the set
abbrev pub has_token_in : Option Cursor → (SyntaxKind → Bool) → Bool
has_token_in parent kinds = is_some (option_and_then (λ c. first_token_among kinds (children_of c)) parent)

-- what comes after the first item of a list that passes a test; nothing if none does
abbrev pub after_first : {A : Type 0} → (A → Bool) → List A → List A
after_first test [] = []
after_first test (x ∷ l) = if test x then l else after_first test l
