use Rattle.std.proofs.Common.{◌≡◌, ◌+◌, length, ℕ, List, [], ◌∷◌, ◌++◌}
use Rattle.std.proofs.Common.{arith, sym, ap, refl, subst, ◌∙◌, length-append}
use Rattle.std.proofs.lemmas.Str.{length-encode, chars_past_char}
use Rattle.std.specs.Char.{len_utf8, encode_utf8}
use Rattle.std.specs.Str.{chars}
use Rattle.std.specs.Str.Iter.{chars_rest}
use Rattle.literal_escape.proofs.Remaining.{read-at, warned-at, reports-warned, reports-taken, Gives-end, Gives-before, before-none}
use Rattle.literal_escape.specs.declared.reader.Reader.{Reader}
use Rattle.literal_escape.specs.Reading.{Gives, reports_of}
use Rattle.literal_escape.proofs.units.Units.next.Goals as goal

-- the step of the characters: what was left is this character and what is left
taken : (bs rest : List ℕ) (c : ℕ) → bs ≡ encode_utf8 c ++ rest → length bs ≡ len_utf8 c + length rest
taken bs rest c e = omega (arith, ap length e, length-append (encode_utf8 c) rest, length-encode c)

chars_empty : (bs : List ℕ) → length bs ≡ 0 → chars bs ≡ []
unfolding chars
chars_empty [] e = refl
chars_empty (b ∷ bs) e = absurd (omega (arith, e))

pub warn-requires : goal.warn-requires
warn-requires c = omega (arith, taken _ _ _ c.in-Some.ensures.steps.0, c.loop-c.self.in_memory, ap length c.loop-c.invariant.rest)

pub invariant_of-self : goal.invariant_of-self
invariant_of-self c = record { in_memory = omega (arith, c.loop-c.self.in_memory, ap (λ (r : Reader). r.at) c.warn.ensures.reader, warned-at c.loop-c.self.reader c.in-Some.c) }

pub returns-in-Some-warn : goal.returns-in-Some-warn
returns-in-Some-warn c =
    let r = c.loop-c.self.reader in
    let split = chars_past_char c.loop-c.self.rest.now _ c.in-Some.c c.loop-c.invariant.text (sym c.loop-c.invariant.rest ∙ c.in-Some.ensures.steps.0) in
    sym c.loop-c.invariant.same ∙ (ap (reports_of r) split
    ∙ (reports-warned r c.in-Some.c _ c.in-Some-warn.warning (sym c.in-Some-warn.ensures.report)
    ∙ ap (λ rs. c.in-Some-warn.warning ∷ rs) (ap (λ s. reports_of s (c.in-Some.c ∷ chars (chars_rest c.next.new.self))) (sym c.warn.ensures.reader) ∙ ap (reports_of c.warn.new.self) (sym split))))

pub read-report-requires : goal.read-report-requires
read-report-requires c = omega (arith, taken _ _ _ c.in-Some.ensures.steps.0, c.loop-c.self.in_memory, ap length c.loop-c.invariant.rest, ap (λ (r : Reader). r.at) c.warn.ensures.reader, warned-at c.loop-c.self.reader c.in-Some.c)

pub invariant_of-self-in-Some : goal.invariant_of-self-in-Some
invariant_of-self-in-Some c = record { in_memory = omega (arith, taken _ _ _ c.in-Some.ensures.steps.0, c.loop-c.self.in_memory, ap length c.loop-c.invariant.rest, ap length c.as_str-self.ensures, ap (λ (r : Reader). r.at) c.warn.ensures.reader, warned-at c.loop-c.self.reader c.in-Some.c, ap (λ (r : Reader). r.at) c.read-report.ensures.reader, read-at c.warn.new.self c.in-Some.c) }

pub returns-then-is_some : goal.returns-then-is_some
returns-then-is_some c =
    let new = reports_of c.read-report.new.self (chars c.as_str-self.result.now) in
    let split = chars_past_char c.loop-c.self.rest.now _ c.in-Some.c c.loop-c.invariant.text (sym c.loop-c.invariant.rest ∙ (c.in-Some.ensures.steps.0 ∙ ap (λ bs. encode_utf8 c.in-Some.c ++ bs) (sym c.as_str-self.ensures))) in
    let same = sym c.loop-c.invariant.same ∙ (ap (reports_of c.loop-c.self.reader) split
    ∙ reports-taken c.loop-c.self.reader c.warn.new.self c.read-report.new.self c.read-report.result c.in-Some.c _ (sym c.in_default-warn.ensures.report) c.warn.ensures.reader c.read-report.ensures.report c.read-report.ensures.reader) in
    subst (λ old. Gives old c.read-report.result new) (sym same) (Gives-before c.read-report.result new (sym c.is_some.ensures ∙ c.if-is_some.true))

pub loop-c-preserved : goal.loop-c-preserved
loop-c-preserved c =
    let new = reports_of c.read-report.new.self (chars c.as_str-self.result.now) in
    let split = chars_past_char c.loop-c.self.rest.now _ c.in-Some.c c.loop-c.invariant.text (sym c.loop-c.invariant.rest ∙ (c.in-Some.ensures.steps.0 ∙ ap (λ bs. encode_utf8 c.in-Some.c ++ bs) (sym c.as_str-self.ensures))) in
    let same = sym c.loop-c.invariant.same ∙ (ap (reports_of c.loop-c.self.reader) split
    ∙ reports-taken c.loop-c.self.reader c.warn.new.self c.read-report.new.self c.read-report.result c.in-Some.c _ (sym c.in_default-warn.ensures.report) c.warn.ensures.reader c.read-report.ensures.report c.read-report.ensures.reader) in
    record {
      can_next = tt;
      is_finite = tt;
      same = sym (same ∙ before-none c.read-report.result new (sym c.is_some.ensures ∙ c.if-is_some.false));
      rest = sym c.as_str-self.ensures;
      text = c.as_str-self.utf8;
    }

pub invariant_of-self-2 : goal.invariant_of-self-2
invariant_of-self-2 c = record { in_memory = omega (arith, c.loop-c.self.in_memory, c.end.ensures.at) }

pub returns : goal.returns
returns c =
    let bs = c.loop-c.self.rest.now in
    let none = chars_empty bs (omega (arith, c.in_default.ensures.steps.0, ap length c.loop-c.invariant.rest)) in
    let same = sym c.loop-c.invariant.same ∙ ap (reports_of c.loop-c.self.reader) none in
    subst (λ old. Gives old c.end.result (reports_of c.end.new.self (chars bs))) (sym same)
    (subst (λ cs. Gives (reports_of c.loop-c.self.reader []) c.end.result (reports_of c.end.new.self cs)) (sym none)
    (Gives-end c.loop-c.self.reader c.end.result c.end.new.self c.end.ensures.report c.end.ensures.over))
