-- Comments and white space, by their texts. (Upstream: rust-analyzer's `token_ext`.)
use Rattle.std.specs.Prelude.{ℕ, ◌-◌, ◌==◌, ◌&&◌, Bool, true, false, nat_eq, nat_le, count_by, codes, List, length, Option, None, Some, if◌then◌else◌}
use Rattle.std.specs.List.{starts_with, ends_with}
use Rattle.std.specs.Option.{option_and_then}
use Rattle.ras_token_ext.specs.declared.comments.CommentShape.{CommentShape}
use Rattle.ras_token_ext.specs.declared.comments.CommentShape.TheVariants.{Line, Block}
use Rattle.ras_token_ext.specs.declared.comments.AttrKind.{AttrKind}
use Rattle.ras_token_ext.specs.declared.comments.AttrKind.TheVariants.{Inner, Outer}
use Rattle.ras_token_ext.specs.Texts.{part}

abbrev pub shape_of : List ℕ → CommentShape
shape_of text = if starts_with nat_eq text (codes "/*") then Block else Line

abbrev pub is_line_shape : CommentShape → Bool
is_line_shape Line = true
is_line_shape Block = false

abbrev pub is_block_shape : CommentShape → Bool
is_block_shape Line = false
is_block_shape Block = true

abbrev pub is_inner_kind : AttrKind → Bool
is_inner_kind Inner = true
is_inner_kind Outer = false

abbrev pub is_outer_kind : AttrKind → Bool
is_outer_kind Inner = false
is_outer_kind Outer = true

-- the opening marker of a comment
abbrev pub line_prefix : Option AttrKind → List ℕ
line_prefix None = codes "//"
line_prefix (Some Inner) = codes "//!"
line_prefix (Some Outer) = codes "///"

abbrev pub block_prefix : Option AttrKind → List ℕ
block_prefix None = codes "/*"
block_prefix (Some Inner) = codes "/*!"
block_prefix (Some Outer) = codes "/**"

abbrev pub prefix_of : CommentShape → Option AttrKind → List ℕ
prefix_of Line doc = line_prefix doc
prefix_of Block doc = block_prefix doc

-- the text after the opening marker, for a block without its closing marker
abbrev pub without_closing : CommentShape → List ℕ → Option (List ℕ)
without_closing shape behind = if is_block_shape shape && ends_with nat_eq behind (codes "*/") then part behind 0 (length behind - 2) else Some behind

abbrev pub comment_text : ℕ → List ℕ → Option (List ℕ)
comment_text marker text = option_and_then (without_closing (shape_of text)) (part text marker (length text))

-- at least two newlines
abbrev pub spans_lines : List ℕ → Bool
spans_lines text = nat_le 2 (count_by (λ b. b == 10) text)
