-- The lifetimes among bounds: `'b` and `'c` of `'a: 'b + 'c`. (Rust Reference, "Trait and lifetime
-- bounds".)
use Rattle.std.specs.Prelude.{Bool, List, [], Option}
use Rattle.std.specs.List.{filter_map}
use Rattle.std.specs.Option.{option_and_then, option_map_or}
use Rattle.syntax_kind.specs.declared.syntax_kind.SyntaxKind.{SyntaxKind}
use Rattle.syntax_kind.specs.declared.syntax_kind.SyntaxKind.TheVariants.{Token}
use Rattle.syntax_kind.specs.declared.syntax_kind.token_kind.TokenKind.TheVariants.{LIFETIME_IDENT}
use Rattle.tree_model.specs.Cursor.{Cursor}
use Rattle.ras_node.specs.Nodes.{token_child, typed_child, typed_children}

-- the token of a lifetime that is a bound, if it is one
abbrev pub lifetime_word : (lifetimes : SyntaxKind → Bool) → Cursor → Option Cursor
lifetime_word lifetimes bound = option_and_then (token_child (Token LIFETIME_IDENT)) (typed_child lifetimes bound)

-- the lifetimes of the bounds in a list, in order; the empty list if there is no list
abbrev pub lifetime_bounds : (bounds lifetimes : SyntaxKind → Bool) → Option Cursor → List Cursor
lifetime_bounds bounds lifetimes list = option_map_or (λ l. filter_map (lifetime_word lifetimes) (typed_children bounds l)) list []
