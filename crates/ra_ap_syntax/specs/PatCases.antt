-- `Pat`: the node of each variant, that its kind is one of the enum's, and words of clauses. Made
-- by `tools/views` from `views.txt`.
use Rattle.std.specs.Prelude.{◌≡◌, Bool, true, Option, option_map}
use Rattle.std.proofs.Common.{refl}
use Rattle.syntax_kind.specs.declared.syntax_kind.SyntaxKind.{SyntaxKind}
use Rattle.syntax_kind.specs.declared.syntax_kind.SyntaxKind.TheVariants.{Node}
use Rattle.syntax_kind.specs.declared.syntax_kind.node_kind.NodeKind.TheVariants as kind
use Rattle.tree_model.specs.Cursor.{Cursor}
use Rattle.ras_node.specs.Nodes.{kind_at, typed_child}
use Rattle.ras_node.specs.KindSets.{by_number}
use Rattle.ra_ap_syntax.specs.declared.ast.views.pat.Pat.{Pat}
use Rattle.ra_ap_syntax.specs.declared.ast.views.pat.Pat.TheVariants.{BoxPat, ConstBlockPat, IdentPat, LiteralPat, MacroPat, OrPat, ParenPat, PathPat, RangePat, RecordPat, RefPat, RestPat, SlicePat, TuplePat, TupleStructPat, WildcardPat}
use Rattle.ras_node.specs.Sets.{is_pat}

abbrev pub pat_node : Pat → Cursor
pat_node (BoxPat it) = it.syntax
pat_node (ConstBlockPat it) = it.syntax
pat_node (IdentPat it) = it.syntax
pat_node (LiteralPat it) = it.syntax
pat_node (MacroPat it) = it.syntax
pat_node (OrPat it) = it.syntax
pat_node (ParenPat it) = it.syntax
pat_node (PathPat it) = it.syntax
pat_node (RangePat it) = it.syntax
pat_node (RecordPat it) = it.syntax
pat_node (RefPat it) = it.syntax
pat_node (RestPat it) = it.syntax
pat_node (SlicePat it) = it.syntax
pat_node (TuplePat it) = it.syntax
pat_node (TupleStructPat it) = it.syntax
pat_node (WildcardPat it) = it.syntax

-- its kind is one of these
pub pat_castable : (it : Pat) → is_pat (kind_at (pat_node it)) ≡ true
pat_castable (BoxPat it) = by_number is_pat _ (Node kind.BOX_PAT) it.is refl
pat_castable (ConstBlockPat it) = by_number is_pat _ (Node kind.CONST_BLOCK_PAT) it.is refl
pat_castable (IdentPat it) = by_number is_pat _ (Node kind.IDENT_PAT) it.is refl
pat_castable (LiteralPat it) = by_number is_pat _ (Node kind.LITERAL_PAT) it.is refl
pat_castable (MacroPat it) = by_number is_pat _ (Node kind.MACRO_PAT) it.is refl
pat_castable (OrPat it) = by_number is_pat _ (Node kind.OR_PAT) it.is refl
pat_castable (ParenPat it) = by_number is_pat _ (Node kind.PAREN_PAT) it.is refl
pat_castable (PathPat it) = by_number is_pat _ (Node kind.PATH_PAT) it.is refl
pat_castable (RangePat it) = by_number is_pat _ (Node kind.RANGE_PAT) it.is refl
pat_castable (RecordPat it) = by_number is_pat _ (Node kind.RECORD_PAT) it.is refl
pat_castable (RefPat it) = by_number is_pat _ (Node kind.REF_PAT) it.is refl
pat_castable (RestPat it) = by_number is_pat _ (Node kind.REST_PAT) it.is refl
pat_castable (SlicePat it) = by_number is_pat _ (Node kind.SLICE_PAT) it.is refl
pat_castable (TuplePat it) = by_number is_pat _ (Node kind.TUPLE_PAT) it.is refl
pat_castable (TupleStructPat it) = by_number is_pat _ (Node kind.TUPLE_STRUCT_PAT) it.is refl
pat_castable (WildcardPat it) = by_number is_pat _ (Node kind.WILDCARD_PAT) it.is refl

abbrev pub pat_kinds : SyntaxKind → Bool
pat_kinds = is_pat

-- r is the view of the node at c as a `Pat`; there is none if there is no node
abbrev pub IsPat : Option Cursor → Option Pat → Type 0
IsPat c r = option_map pat_node r ≡ c

abbrev pub IsFirstPat : Cursor → Option Pat → Type 0
IsFirstPat c r = IsPat (typed_child pat_kinds c) r
