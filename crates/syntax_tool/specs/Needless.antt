-- The result of the command `parens` for the text of an expression.
use Rattle.std.specs.Prelude.{◌≡◌, ℕ, ◌<◌, ◌≤◌, ◌^◌, ◌⊎◌, Bool, true, false, length, List, [], ◌∷◌, ◌++◌, Option, Some, None, Result, Ok, Err, codes}
use Rattle.text_size.specs.TextRange.{range_text}
use Rattle.tree_model.specs.Tree.{Tree, kind_of}
use Rattle.tree_model.specs.Cursor.{Cursor, focus, range_of}
use Rattle.tree_model.specs.Edit.{root_of}
use Rattle.ras_front_end.specs.declared.edition.Entry.TheVariants.{Expr}
use Rattle.ras_front_end.specs.declared.edition.Edition.TheVariants.{Edition2024}
use Rattle.ras_front_end.specs.Parsed.{Parsed, IsParseOf}
use Rattle.ras_node.specs.Sets.{is_expr}
use Rattle.operator_trees.specs.Shown.{shown}
use Rattle.operator_reading.specs.Reads.{ReadsBack}
use Rattle.operator_pairs.specs.Pairs.{NeedlessOf}
use Rattle.tiny_front.specs.Front.{tiny_front}
use Rattle.syntax_tool.specs.declared.refusal.Refusal.{Refusal}
use Rattle.syntax_tool.specs.declared.refusal.Refusal.TheVariants.{OtherRoot, TooLong}

-- the first line of an answer
abbrev pub verdict_line : Option Bool → List ℕ
verdict_line None = codes "reads_back none\n"
verdict_line (Some true) = codes "reads_back true\n"
verdict_line (Some false) = codes "reads_back false\n"

-- a line for each pair, with its range
abbrev pub pair_lines : List Cursor → List ℕ
pair_lines [] = []
pair_lines (pair ∷ pairs) = (codes "needless " ++ range_text (range_of pair) ++ codes "\n") ++ pair_lines pairs

abbrev pub lines_of_found : Option (List Cursor) → List ℕ
lines_of_found None = []
lines_of_found (Some pairs) = pair_lines pairs

-- the answer for a tree: whether the term that it shows is a reading of its tokens, and which of
-- its pairs may go
pub record IsReport (tree : Cursor) (out : List ℕ) : Type 0 where
  pub verdict : Option Bool
  pub found : Option (List Cursor)
  pub reads : ReadsBack verdict (shown (focus tree))
  pub needless : NeedlessOf tree found (shown (focus tree))
  pub written : out ≡ verdict_line verdict ++ lines_of_found found

-- first it is checked that the root is an expression; syntax errors are not refused
abbrev pub AnswersTree : Tree → Result (List ℕ) Refusal → Type 0
AnswersTree t r =
    ((is_expr (kind_of t) ≡ false) × (r ≡ Err OtherRoot))
    ⊎ ((is_expr (kind_of t) ≡ true) × ((out : List ℕ) × IsReport (root_of t) out × (r ≡ Ok out)))

-- first it is checked that the text is not too long; then the small front end reads it as an
-- expression of the newest edition
abbrev pub AnswersParens : List ℕ → Result (List ℕ) Refusal → Type 0
AnswersParens text r =
    ((2 ^ 32 ≤ length text) × (r ≡ Err TooLong))
    ⊎ ((length text < 2 ^ 32) × ((p : Parsed) × IsParseOf text (tiny_front.parsed Expr Edition2024 text) p × AnswersTree p.tree r))
