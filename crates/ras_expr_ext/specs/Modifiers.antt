-- The modifiers of blocks, with cursors in the place of views. (Upstream: `BlockModifier` of
-- `ast::expr_ext`.)
use Rattle.std.specs.Prelude.{Bool, Option, option_map, is_some, if◌then◌else◌}
use Rattle.std.specs.Option.{option_and_then, option_or}
use Rattle.syntax_kind.specs.declared.syntax_kind.SyntaxKind.{SyntaxKind}
use Rattle.syntax_kind.specs.declared.syntax_kind.SyntaxKind.TheVariants.{Token}
use Rattle.syntax_kind.specs.declared.syntax_kind.token_kind.TokenKind.TheVariants as token
use Rattle.tree_model.specs.Cursor.{Cursor}
use Rattle.ras_node.specs.Nodes.{typed_child, token_child}
use Rattle.ras_expr_ext.specs.declared.block.BlockModifier.{BlockModifier}
use Rattle.ras_expr_ext.specs.declared.block.BlockModifier.TheVariants as modifier

-- the modifier of a block
pub data ModifierShape : Type 0 where
  async_gen : Cursor → ModifierShape
  gen : Cursor → ModifierShape
  async : Cursor → ModifierShape
  unsafe : Cursor → ModifierShape
  try : Cursor → Option Cursor → Option Cursor → ModifierShape
  const : Cursor → ModifierShape
  label : Cursor → ModifierShape

-- a modifier's variant, by the nodes of its views
abbrev pub modifier_shape : {T L : Type 0} → (T → Cursor) → (L → Cursor) → BlockModifier T L → ModifierShape
modifier_shape types labels (modifier.AsyncGen t) = async_gen t
modifier_shape types labels (modifier.Gen t) = gen t
modifier_shape types labels (modifier.Async t) = async t
modifier_shape types labels (modifier.Unsafe t) = unsafe t
modifier_shape types labels (modifier.Try t b r) = try t b (option_map types r)
modifier_shape types labels (modifier.Const t) = const t
modifier_shape types labels (modifier.Label l) = label (labels l)

-- `try`, with its type where it has one
abbrev pub try_of : (SyntaxKind → Bool) → Cursor → Option ModifierShape
try_of types m = option_map (λ t. try t (token_child (Token token.BIKESHED_KW) m) (typed_child types m)) (token_child (Token token.TRY_KW) m)

-- the first of these that a block has: `gen`, also after `async`; `async`; `unsafe`; `try`;
-- `const`; a label
abbrev pub block_modifier : (SyntaxKind → Bool) → (SyntaxKind → Bool) → (SyntaxKind → Bool) → Cursor → Option ModifierShape
block_modifier tries types labels c =
    option_or (option_map (λ t. if is_some (token_child (Token token.ASYNC_KW) c) then async_gen t else gen t) (token_child (Token token.GEN_KW) c))
    (option_or (option_map async (token_child (Token token.ASYNC_KW) c))
    (option_or (option_map unsafe (token_child (Token token.UNSAFE_KW) c))
    (option_or (option_and_then (try_of types) (typed_child tries c))
    (option_or (option_map const (token_child (Token token.CONST_KW) c))
    (option_map label (typed_child labels c))))))
