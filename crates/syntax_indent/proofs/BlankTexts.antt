-- The blanks of a level, one level after another.
use Rattle.std.proofs.Common.{◌≡◌, ℕ, suc, List, ◌++◌, sym, ap, ◌∙◌, append_assoc, append-nil}
use Rattle.std.specs.Prelude.{codes}
use Rattle.syntax_indent.specs.Level.{blanks}

pub blanks_step : (done whole : List ℕ) (l m : ℕ) → l ≡ suc m → done ++ blanks l ≡ whole → (done ++ codes "    ") ++ blanks m ≡ whole
blanks_step done whole l m e h = append_assoc done (codes "    ") (blanks m) ∙ ap (λ k. done ++ blanks k) (sym e) ∙ h

pub blanks_end : (done whole : List ℕ) (l : ℕ) → l ≡ 0 → done ++ blanks l ≡ whole → done ≡ whole
blanks_end done whole l e h = sym (append-nil done) ∙ ap (λ k. done ++ blanks k) (sym e) ∙ h
