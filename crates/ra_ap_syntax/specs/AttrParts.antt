-- Attributes, their metas, and documentation comments. (Upstream: `ast::node_ext` of
-- rust-analyzer's `syntax`.)
use Rattle.std.specs.Prelude.{ℕ, Bool, List, Option, None, option_map, if◌then◌else◌}
use Rattle.std.specs.List.{find}
use Rattle.std.specs.Option.{option_and_then}
use Rattle.syntax_kind.specs.declared.syntax_kind.SyntaxKind.{SyntaxKind}
use Rattle.syntax_kind.specs.declared.syntax_kind.SyntaxKind.TheVariants.{Node}
use Rattle.syntax_kind.specs.declared.syntax_kind.node_kind.NodeKind.TheVariants as kind
use Rattle.tree_model.specs.Cursor.{Cursor, focus, at_token, descendants_of}
use Rattle.lossless_tree.specs.Trees.{child_text}
use Rattle.ras_token_ext.specs.declared.comments.AttrKind.{AttrKind}
use Rattle.ras_token_ext.specs.declared.comments.AttrKind.TheVariants.{Inner, Outer}
use Rattle.ras_token_ext.specs.declared.comments.CommentShape.{CommentShape}
use Rattle.ras_token_ext.specs.Comments.{comment_text, shape_of}
use Rattle.ras_node.specs.Nodes.{is_of_kind, typed_child}
use Rattle.ras_node.specs.Sets.{is_any_comment}
use Rattle.ras_node_ext.specs.NodeParts.{if_in, single_name}

abbrev pub kind_by : Bool → AttrKind
kind_by inner = if inner then Inner else Outer

-- a documentation comment, by the text of its first child: its shape, and the text between its
-- markers, of which the opening one has three bytes; and its first token, if that is a comment
abbrev pub doc_shape : Cursor → Option CommentShape
doc_shape c = option_map shape_of (child_text (focus c) 0)

abbrev pub doc_text : Cursor → Option (List ℕ)
doc_text c = option_and_then (comment_text 3) (child_text (focus c) 0)

abbrev pub doc_token : Cursor → Option Cursor
doc_token c = option_and_then (if_in is_any_comment) (find at_token (descendants_of c))

-- the path of a meta that is only a path
abbrev pub simple_path : (paths : SyntaxKind → Bool) → Cursor → Option Cursor
simple_path paths c = if is_of_kind (Node kind.PATH_META) c then typed_child paths c else None

-- the text of a path that is only one name
abbrev pub atom_of : (paths segments name_refs : SyntaxKind → Bool) → Cursor → Option (List ℕ)
atom_of paths segments names p = option_and_then (λ n. child_text (focus n) 0) (single_name paths segments names p)

abbrev pub simple_atom : (paths segments name_refs : SyntaxKind → Bool) → Cursor → Option (List ℕ)
simple_atom paths segments names c = option_and_then (atom_of paths segments names) (simple_path paths c)

-- the name of a meta that is one name with arguments, and the arguments
abbrev pub call_in : (paths segments name_refs : SyntaxKind → Bool) → Cursor → Cursor → Option (List ℕ × Cursor)
call_in paths segments names c tree = option_map (λ word. (word, tree)) (option_and_then (atom_of paths segments names) (typed_child paths c))

abbrev pub simple_call : (paths segments name_refs trees : SyntaxKind → Bool) → Cursor → Option (List ℕ × Cursor)
simple_call paths segments names trees c =
    if is_of_kind (Node kind.TOKEN_TREE_META) c then option_and_then (call_in paths segments names c) (typed_child trees c) else None
