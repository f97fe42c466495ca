-- The report on a text: rows, errors and messages in the buffers of the caller, and their numbers.
use Rattle.std.specs.Prelude.{◌≡◌, ◌↔◌, ◌⊎◌, ℕ, ◌<◌, ◌≤◌, ◌^◌, Bool, if◌then◌else◌, List, [], length, map, Some, None, IsUtf8}
use Rattle.std.specs.List.{flat_map}
use Rattle.tree_model.specs.Tree.{Tree, size}
use Rattle.tree_model.specs.Edit.{root_of}
use Rattle.tree_rows.specs.Flat.{flat_rows}
use Rattle.tree_rows.specs.declared.table.flat.FlatRow.{FlatRow}
use Rattle.ras_front_end.specs.declared.edition.Edition.{Edition}
use Rattle.ras_front_end.specs.ErrorModel.{ErrorModel}
use Rattle.ras_front_end.specs.Parsed.{Parsed, IsParseOf}
use Rattle.ras_validation.specs.Violations.{violations_of}
use Rattle.ras_parsing.specs.AllErrors.{all_errors, violation_fault}
use Rattle.rust_front.specs.declared.top.TopEntryPoint.{TopEntryPoint}
use Rattle.rust_front.specs.declared.top.TopEntryPoint.TheVariants.{SourceFile}
use Rattle.rust_front.specs.Tops.{top_of}
use Rattle.ras_c.specs.declared.read.ErrorRow.{ErrorRow}
use Rattle.ras_c.specs.declared.read.Counts.{Counts}
use Rattle.ras_c.specs.declared.choice.Errors.{Errors}
use Rattle.ras_c.specs.declared.choice.Errors.TheVariants.{Nothing, Parse, Violations, All}
use Rattle.ras_c.specs.Border.{edition_of, entry_of, errors_of, over}

-- an error as a row, and the bytes of all messages, one after the other
abbrev pub error_row : ErrorModel → ErrorRow
error_row f = record { start = f.range.start; end = f.range.end; message = length f.message }

abbrev pub message_of : ErrorModel → List ℕ
message_of f = f.message

abbrev pub messages_of : List ErrorModel → List ℕ
messages_of faults = flat_map message_of faults

-- what is told of a parse: its tree or a part of it, some errors, and how many of them are
-- violations, which come last
pub record Report : Type 0 where
  pub tree : Tree
  pub faults : List ErrorModel
  pub violations : ℕ

abbrev pub report : Tree → List ErrorModel → ℕ → Report
report t faults violations = record { tree = t; faults = faults; violations = violations }

abbrev pub violations_in : Parsed → List ErrorModel
violations_in p = map violation_fault (violations_of (root_of p.tree))

-- the report on a part of its tree with a choice of all its errors
abbrev pub report_at : Tree → Errors → Parsed → Report
report_at t Nothing p = report t [] 0
report_at t Parse p = report t p.errors 0
report_at t Violations p = report t (violations_in p) (length (violations_in p))
report_at t All p = report t (all_errors p) (length (violations_in p))

-- the report on all of it
abbrev pub report_on : Errors → Parsed → Report
report_on errors p = report_at p.tree errors p

-- the violations, and also the errors of the parse if `all`
abbrev pub violations_by : Bool → Errors
violations_by all = if all then All else Violations

-- its size
abbrev pub needed : Report → Counts
needed r = record {
  rows = size r.tree;
  errors = length r.faults;
  violations = r.violations;
  messages = length (messages_of r.faults);
}

-- numbers of 32 bits count it
pub record IsSmall (r : Report) : Type 0 where
  pub rows_fit : size r.tree < 2 ^ 32
  pub errors_fit : length r.faults < 2 ^ 32
  pub messages_fit : length (messages_of r.faults) < 2 ^ 32

-- the buffers of the caller
pub record Buffers : Type 0 where
  pub rows : List FlatRow
  pub errors : List ErrorRow
  pub messages : List ℕ
  pub counts : Counts

abbrev pub buffers : List FlatRow → List ErrorRow → List ℕ → Counts → Buffers
buffers rows errors messages counts = record { rows = rows; errors = errors; messages = messages; counts = counts }

-- each has room
pub record HasRoom (r : Report) (b : Buffers) : Type 0 where
  pub rows_fit : size r.tree ≤ length b.rows
  pub errors_fit : length r.faults ≤ length b.errors
  pub messages_fit : length (messages_of r.faults) ≤ length b.messages

-- all of it at the fronts of the buffers
abbrev pub told : Report → Buffers → Buffers
told r b = buffers (over (flat_rows r.tree) b.rows) (over (map error_row r.faults) b.errors) (over (messages_of r.faults) b.messages) (needed r)

-- the counts alone
abbrev pub counted : Report → Buffers → Buffers
counted r b = buffers b.rows b.errors b.messages (needed r)

-- the report is in the buffers; or one lacks room for it, and they have its counts alone
pub record IsTold (r : Report) (before after : Buffers) : Type 0 where
  pub small : IsSmall r
  pub room : HasRoom r before
  pub written : after ≡ told r before

pub record IsCut (r : Report) (before after : Buffers) : Type 0 where
  pub small : IsSmall r
  pub short : HasRoom r before → ⊥
  pub written : after ≡ counted r before

-- the parse is one of the text by an entry, in the edition of the year: of a file and an expression
-- that of the front end for Rust, of another part that by its rule
pub record IsReadingAs (entry : TopEntryPoint) (year : ℕ) (text : List ℕ) (p : Parsed) : Type 0 where
  pub edition : Edition
  pub edition_is : edition_of year ≡ Some edition
  pub parses : IsParseOf text (top_of entry edition text) p

-- the same of a whole file
abbrev pub IsReading : ℕ → List ℕ → Parsed → Type 0
IsReading year text p = IsReadingAs SourceFile year text p

-- a parse of the text by an entry has a report with a property
abbrev pub Reports : TopEntryPoint → Errors → ℕ → List ℕ → (Report → Type 0) → Type 0
Reports entry errors year text P = (p : Parsed) × IsReadingAs entry year text p × P (report_on errors p)

-- the same by the numbers of the entry and of the choice
pub record ReportsBy (entry errors year : ℕ) (text : List ℕ) (P : Report → Type 0) : Type 0 where
  pub as_entry : TopEntryPoint
  pub as_errors : Errors
  pub entry_is : entry_of entry ≡ Some as_entry
  pub errors_is : errors_of errors ≡ Some as_errors
  pub reports : Reports as_entry as_errors year text P

-- what a call that reads a text returns, and what it leaves in the buffers: by the numbers of an
-- entry and of a choice of errors, as each clause of `ras_c_read_as` says
pub record IsReadBy (entry errors year : ℕ) (text : List ℕ) (status : ℕ) (before after : Buffers) : Type 0 where
  pub done : status ≡ 0 → ReportsBy entry errors year text (λ r. IsTold r before after)
  pub room : status ≡ 4 → ReportsBy entry errors year text (λ r. IsCut r before after)
  pub kept : (status ≡ 0 → ⊥) → (status ≡ 4 → ⊥) → after ≡ before
  pub entry_known : (status ≡ 11) ↔ (entry_of entry ≡ None)
  pub choice_known : (status ≡ 12) ↔ (entry_of entry ≡ None → ⊥) × (errors_of errors ≡ None)
  pub edition_known : (status ≡ 5) ↔ (entry_of entry ≡ None → ⊥) × (errors_of errors ≡ None → ⊥)
      × (edition_of year ≡ None)
  pub utf8 : (status ≡ 1) ↔ (entry_of entry ≡ None → ⊥) × (errors_of errors ≡ None → ⊥)
      × (edition_of year ≡ None → ⊥) × (IsUtf8 text → ⊥)
  pub long : status ≡ 2 → (2 ^ 32 ≤ length text) ⊎ ReportsBy entry errors year text (λ r. IsSmall r → ⊥)
  pub which : (status ≤ 5) ⊎ (11 ≤ status) × (status ≤ 12)
