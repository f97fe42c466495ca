use Rattle.std.proofs.Common.{Some, None, ◌≡◌, ◌+◌, ◌-◌, length, refl, subst, arith}
use Rattle.std.proofs.lemmas.Str.{IsCharBoundary-after_ascii, IsCharBoundary-end}
use Rattle.std.proofs.lemmas.Str.Pattern.{split_parts}
use Rattle.std.specs.Str.{IsCharBoundary}
use Rattle.rust_report.proofs.ChangesLemmas.{cut_line, whole_line}
use Rattle.rust_report.proofs.changes.first_end.Goals as goal

pub returns-in-Some : goal.returns-in-Some
returns-in-Some c =
    let parts = split_parts 10 c.args.text.now (Some (c.in-Some.field-0-0, c.in-Some.behind)) c.in-Some.ensures.cases (omega arith) in
    let cut = cut_line c.args.text.now c.in-Some.field-0-0.now c.in-Some.behind.now (length c.args.text.now - length c.in-Some.behind.now) parts.0 parts.1 refl in
    let end : length c.in-Some.field-0-0.now + 1 ≡ length c.args.text.now - length c.in-Some.behind.now = omega (arith, cut.0) in
    record {
      within = omega arith;
      boundary = subst (IsCharBoundary c.args.text.now) end (IsCharBoundary-after_ascii c.args.text.now (length c.in-Some.field-0-0.now) c.utf8.text cut.1 (omega (arith, cut.2)));
      cut = λ _. (omega (arith, cut.0), cut.3);
    }

pub returns-in-None : goal.returns-in-None
returns-in-None c =
    let none = split_parts 10 c.args.text.now None c.in-None.ensures.cases (omega arith) in
    record {
      within = omega arith;
      boundary = IsCharBoundary-end c.args.text.now;
      cut = λ some. (some, whole_line c.args.text.now none some);
    }
