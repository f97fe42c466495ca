-- The needless pairs of parentheses of a text, as ranges, and whether the operator tree at a range
-- reads back.
use Rattle.std.specs.Prelude.{◌≡◌, ℕ, Bool, ◌&&◌, ◌==◌, List, length, map, Option, Some}
use Rattle.std.specs.List.{find}
use Rattle.std.specs.Option.{option_and_then, is_some}
use Rattle.text_size.specs.TextRange.{Bounds}
use Rattle.tree_model.specs.Cursor.{Cursor, focus, range_start, range_end}
use Rattle.tree_model.specs.Covering.{covering_of}
use Rattle.lossless_tree.specs.Element.{element_of, ancestors_of_element}
use Rattle.ras_front_end.specs.declared.edition.Edition.{Edition}
use Rattle.ras_front_end.specs.declared.edition.Entry.TheVariants.{SourceFile}
use Rattle.ras_front_end.specs.Parsed.{Parsed, IsParseOf}
use Rattle.rust_front.specs.Front.{rust_front}
use Rattle.rust_parens.specs.declared.needless.Tried.{Tried}
use Rattle.rust_parens.specs.Needless.{AreTried, candidates_of}
use Rattle.operator_terms.specs.Term.{Term}
use Rattle.operator_trees.specs.Shown.{shown}
use Rattle.operator_reading.specs.Reads.{ReadsBack}
use Rattle.ras_c.specs.Border.{edition_of}
use Rattle.ras_c.specs.declared.parens.Range.{Range}

-- the range of a place
abbrev pub range_at : Cursor → Range
range_at c = record { start = range_start c; end = range_end c }

-- pairs of a file's parse that can all be removed together, as `rust_tree parens` lists them: all
-- candidates were tried, these go, and the text without them parses to the tree without them
pub record AreNeedless (edition : Edition) (parse : Parsed) (pairs : List Cursor) : Type 0 where
  pub tried : List Tried
  pub fixed : Option (List ℕ)
  pub are_tried : AreTried rust_front SourceFile edition parse pairs tried fixed
  pub all : length tried ≡ length (candidates_of parse)

-- a property of the ranges of such pairs of a parse
pub record HasNeedless (edition : Edition) (parse : Parsed) (P : List Range → Type 0) : Type 0 where
  pub pairs : List Cursor
  pub needless : AreNeedless edition parse pairs
  pub holds : P (map range_at pairs)

-- the same in a parse of the text as a file of the year's edition
pub record Lists (year : ℕ) (text : List ℕ) (P : List Range → Type 0) : Type 0 where
  pub edition : Edition
  pub edition_is : edition_of year ≡ Some edition
  pub parse : Parsed
  pub is_parse : IsParseOf text (rust_front.parsed SourceFile edition text) parse
  pub needless : HasNeedless edition parse P

abbrev pub range_from : ℕ → ℕ → Bounds
range_from start end = record { start = start; end = end }

-- the place has exactly this range
abbrev pub spans : Bounds → Cursor → Bool
spans range c = (range_start c == range.start) && (range_end c == range.end)

-- the term that is at a place, if it shows one
abbrev pub term_at : Cursor → Option Term
term_at c = shown (focus c)

abbrev pub shows_term : Cursor → Bool
shows_term c = is_some (term_at c)

abbrev pub is_term_over : Bounds → Cursor → Bool
is_term_over range c = spans range c && shows_term c

-- the innermost operator tree with exactly this range: one of what covers the range and the nodes
-- above it
abbrev pub node_over : Cursor → Bounds → Option Cursor
node_over root range = find (is_term_over range) (ancestors_of_element (element_of (covering_of root range)))

-- the result for it, if there is one
abbrev pub ReadsBackAt : Option Bool → Cursor → Bounds → Type 0
ReadsBackAt answer root range = ReadsBack answer (option_and_then term_at (node_over root range))
