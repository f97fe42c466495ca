-- Rows that are made as the steps of a tree come, one after another.
use Rattle.std.specs.Prelude.{◌≡◌, ℕ, ◌+◌, List, ◌∷◌, [], length, get_or, true, false, cond, nat_lt, refl}
use Rattle.std.specs.Coded.{Coded, code_by, coded×, coded_ℕ}
use Rattle.std.proofs.Math.ListN.{set}
use Rattle.tree_rows.specs.declared.builder_event.BuilderEvent.{BuilderEvent}
use Rattle.tree_rows.specs.declared.builder_event.BuilderEvent.TheVariants.{Enter, Token, Exit}
use Rattle.tree_rows.specs.Builder.{IsOneTree}
use Rattle.tree_rows.specs.Rows.{Columns, no_row, no_rows, one_row, joined}
use Rattle.tree_rows.specs.Stored.{columns_code}

-- the rows so far, the row of the innermost open node (0 where none is), and the bytes so far
pub record Making : Type 0 where
  pub kept : Columns
  pub innermost : ℕ
  pub at : ℕ

abbrev pub making : Columns → ℕ → ℕ → Making
making kept innermost at = record { kept = kept; innermost = innermost; at = at }

-- what each step of a tree adds
abbrev pub after_step : BuilderEvent → Making → Making
after_step (Enter k) s = making (joined s.kept (one_row (record { kind = k; is_token = false; start = s.at; end = 0 }) s.innermost)) (length s.kept.rows) s.at
after_step (Token k n) s =
    making (joined s.kept (one_row (record { kind = k; is_token = true; start = s.at; end = length s.kept.rows + 1 }) s.innermost)) s.innermost (s.at + n)
after_step Exit s =
    cond (nat_lt s.innermost (length s.kept.rows))
    (making (record s.kept { rows = set s.kept.rows s.innermost (record (get_or s.kept.rows s.innermost no_row) { end = length s.kept.rows }) }) (get_or s.kept.parents s.innermost 0) s.at)
    s

abbrev pub run : List BuilderEvent → Making → Making
run [] s = s
run (e ∷ es) s = run es (after_step e s)

-- no step yet
abbrev pub nothing_made : Making
nothing_made = making no_rows 0 0

-- the rows so far as the prover's value
abbrev pub making_code : Coded Making
making_code =
    code_by (Columns × (ℕ × ℕ)) (coded× columns_code (coded× coded_ℕ coded_ℕ)) (λ m. (m.kept, (m.innermost, m.at))) (λ p. making p.0 p.1.0 p.1.1) (λ _. refl)

-- the rows are those of some steps that build one tree over the text
pub record MadeOf (s : List ℕ) (m : Making) : Type 0 where
  pub steps : List BuilderEvent
  pub made : run steps nothing_made ≡ m
  pub one_tree : IsOneTree steps s
