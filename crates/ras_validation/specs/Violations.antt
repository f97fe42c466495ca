-- The violations of a tree: those of each node by its kind, in preorder of the nodes.
use Rattle.std.specs.Prelude.{◌≡◌, ℕ, ◌+◌, ◌-◌, ◌≤◌, false, codes, List, [], ◌∷◌, ◌++◌, flat_map, Option, Some, None, option_map, Result, Ok, Err, if◌then◌else◌}
use Rattle.std.specs.List.{filter}
use Rattle.std.specs.Option.{option_and_then, option_map_or}
use Rattle.std.specs.Str.{chars}
use Rattle.text_size.specs.TextRange.{Bounds}
use Rattle.syntax_kind.specs.declared.syntax_kind.SyntaxKind.{SyntaxKind}
use Rattle.syntax_kind.specs.declared.syntax_kind.SyntaxKind.TheVariants.{Node, Token}
use Rattle.syntax_kind.specs.declared.syntax_kind.node_kind.NodeKind.TheVariants as node
use Rattle.syntax_kind.specs.declared.syntax_kind.token_kind.TokenKind.TheVariants as token
use Rattle.literal_escape.specs.Literal.{is_warning, is_string}
use Rattle.literal_escape.specs.Pieces.{single}
use Rattle.literal_escape.specs.Reading.{reports_in}
use Rattle.literal_escape.specs.declared.error.EscapeError.{EscapeError}
use Rattle.literal_escape.specs.declared.mode.Mode.{Mode}
use Rattle.literal_escape.specs.declared.mode.Mode.TheVariants as modes
use Rattle.literal_escape.specs.declared.mode.MixedUnit.{MixedUnit}
use Rattle.literal_escape.specs.declared.reader.Report.{Report}
use Rattle.tree_model.specs.Tree.{Tree, text, size}
use Rattle.tree_model.specs.Rows.{IsRow}
use Rattle.tree_model.specs.Neighbours.{behind_at}
use Rattle.tree_model.specs.Cursor.{Cursor, focus, children_of, range_of, range_start, at_node, descendants_of, cursor_at, cursors_from}
use Rattle.ras_node.specs.Nodes.{kind_at}
use Rattle.ras_token_ext.specs.Texts.{part, last_place, is_raw}
use Rattle.ras_validation.specs.declared.violation.Violation.{Violation}
use Rattle.ras_validation.specs.declared.violation.ViolationMessage.{ViolationMessage}
use Rattle.ras_validation.specs.declared.violation.ViolationMessage.TheVariants as messages
use Rattle.ras_validation.specs.declared.literals.LiteralForm.{LiteralForm}
use Rattle.ras_validation.specs.Kinds.{has_rules}
use Rattle.ras_validation.specs.Lookups.{literal_token}
use Rattle.ras_validation.specs.Rules.{mutable_const, bare_statements, inner_attribute, numeric_name, visibility_path, visibility_in_trait, range_without_end, self_in_path, crate_in_path, ambiguous_target, ambiguous_return, without_trait, macro_rules_visibility, misplaced_let}

-- the violation at a range, if there is one; the same for a range that breaks a rule
abbrev pub named_at : ViolationMessage → Option Bounds → List Violation
named_at message None = []
named_at message (Some range) = (record { message = message; range = range }) ∷ []

abbrev pub named : ViolationMessage → Option Cursor → List Violation
named message piece = named_at message (option_map range_of piece)

-- ---- literals

-- the violation of a unit that starts at an offset, if it has a fatal fault
abbrev pub fault_at : ℕ → Result MixedUnit EscapeError → List Violation
fault_at at (Ok unit) = []
fault_at at (Err e) = if is_warning e then [] else ((record { message = messages.Escape e; range = record { start = at; end = at } }) ∷ [])

abbrev pub report_fault : ℕ → Report → List Violation
report_fault start r = fault_at (start + r.start) r.unit

-- the faults of a content that starts at an offset: for a string the fault of each unit, at the
-- unit's start; for a character or a byte the fault of the whole
abbrev pub content_faults : Mode → ℕ → List ℕ → List Violation
content_faults mode start content =
    if is_string mode then flat_map (report_fault start) (reports_in mode (chars content)) else fault_at start (single (reports_in mode (chars content)))

-- a literal whose content is checked, by the kind and the text of its token: the offset of the
-- content, and the quote that ends it; None for a raw string
abbrev pub unless_raw : List ℕ → List ℕ → LiteralForm → Option LiteralForm
unless_raw prefix text form = if is_raw prefix text then None else Some form

abbrev pub form_of : SyntaxKind → List ℕ → Option LiteralForm
form_of (Token token.STRING) text = unless_raw (codes "r") text (record { mode = modes.Str; start = 1; quote = 34 })
form_of (Token token.BYTE_STRING) text = unless_raw (codes "br") text (record { mode = modes.ByteStr; start = 2; quote = 34 })
form_of (Token token.C_STRING) text = unless_raw (codes "cr") text (record { mode = modes.CStr; start = 2; quote = 34 })
form_of (Token token.CHAR) text = Some (record { mode = modes.Char; start = 1; quote = 39 })
form_of (Token token.BYTE) text = Some (record { mode = modes.Byte; start = 2; quote = 39 })
form_of _ text = None

-- the content: up to the last quote
abbrev pub content_of : LiteralForm → List ℕ → Option (List ℕ)
content_of form text = option_and_then (part text form.start) (last_place form.quote 0 None text)

abbrev pub form_faults : Cursor → LiteralForm → List Violation
form_faults t form = option_map_or (content_faults form.mode (range_start t + form.start)) (content_of form (text (focus t))) []

abbrev pub token_faults : Cursor → List Violation
token_faults t = option_map_or (form_faults t) (form_of (kind_at t) (text (focus t))) []

abbrev pub literal_faults : Cursor → List Violation
literal_faults c = option_map_or token_faults (literal_token c) []

-- ---- the list

-- the inner attributes of a block that may not have any
abbrev pub attribute_at : Cursor → List Violation
attribute_at c = named messages.InnerAttribute (inner_attribute c)

abbrev pub attributes_in : Cursor → List Violation
attributes_in list = flat_map attribute_at (filter at_node (children_of list))

abbrev pub block_attributes : Cursor → List Violation
block_attributes c = option_map_or attributes_in (bare_statements c) []

-- the two rules on a visibility, and those on a segment of a path
abbrev pub at_visibility : Cursor → List Violation
at_visibility c = named messages.VisibilityPath (visibility_path c) ++ named messages.VisibilityInTrait (visibility_in_trait c)

abbrev pub at_segment : Cursor → List Violation
at_segment c = named messages.SelfInPath (self_in_path c) ++ named messages.CrateInPath (crate_in_path c)

-- the violations at a node, by its kind
abbrev pub violations_by : SyntaxKind → Cursor → List Violation
violations_by (Node node.LITERAL) c = literal_faults c
violations_by (Node node.CONST) c = named messages.MutableConst (mutable_const c)
violations_by (Node node.BLOCK_EXPR) c = block_attributes c
violations_by (Node node.FIELD_EXPR) c = named messages.NumericName (numeric_name c)
violations_by (Node node.RECORD_EXPR_FIELD) c = named messages.NumericName (numeric_name c)
violations_by (Node node.VISIBILITY) c = at_visibility c
violations_by (Node node.RANGE_EXPR) c = named messages.RangeWithoutEnd (range_without_end c)
violations_by (Node node.PATH_SEGMENT) c = at_segment c
violations_by (Node node.REF_TYPE) c = named messages.AmbiguousPlus (ambiguous_target c)
violations_by (Node node.PTR_TYPE) c = named messages.AmbiguousPlus (ambiguous_target c)
violations_by (Node node.FN_PTR_TYPE) c = named messages.AmbiguousPlus (ambiguous_return c)
violations_by (Node node.DYN_TRAIT_TYPE) c = named messages.NoTrait (without_trait c)
violations_by (Node node.IMPL_TRAIT_TYPE) c = named messages.NoTrait (without_trait c)
violations_by (Node node.MACRO_RULES) c = named messages.MacroRulesVisibility (macro_rules_visibility c)
violations_by (Node node.LET_EXPR) c = named messages.MisplacedLet (misplaced_let c)
violations_by _ c = []

abbrev pub violations_at : Cursor → List Violation
violations_at c = violations_by (kind_at c) c

-- the violations of a tree
abbrev pub violations_of : Cursor → List Violation
violations_of c = flat_map violations_at (filter at_node (descendants_of c))

-- the violations at the nodes among some cursors
abbrev pub violations_among : List Cursor → List Violation
violations_among l = flat_map violations_at (filter at_node l)

-- the violations of a tree are those of the nodes before a place in preorder, those of the place,
-- and those of the nodes after its subtree
abbrev pub ViolationsStandTogether : Type 0
ViolationsStandTogether =
    (tree : Tree) (n : ℕ) → IsRow tree n
    → violations_of (cursor_at tree 0)
    ≡ violations_among (cursors_from tree 0 n)
    ++ (violations_of (cursor_at tree n) ++ violations_among (cursors_from tree (behind_at tree n) (size tree - behind_at tree n)))

-- the violations of a tree are those among all of its rows, and those among some rows in a run are
-- those among the first of them, and then those among the rest
abbrev pub ViolationsOfParts : Type 0
ViolationsOfParts =
    ((tree : Tree) → violations_of (cursor_at tree 0) ≡ violations_among (cursors_from tree 0 (size tree)))
    × ((tree : Tree) (a b c : ℕ) → a ≤ b → b ≤ c
    → violations_among (cursors_from tree a (c - a))
    ≡ violations_among (cursors_from tree a (b - a)) ++ violations_among (cursors_from tree b (c - b)))

-- a node of another kind has none
abbrev pub OnlyKindsWithRules : Type 0
OnlyKindsWithRules = (c : Cursor) → has_rules (kind_at c) ≡ false → violations_at c ≡ []
