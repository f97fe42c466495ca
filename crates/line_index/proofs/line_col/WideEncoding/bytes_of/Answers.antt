use Rattle.std.proofs.Common.{◌≡◌, ◌+◌, ◌<◌, ◌++◌, length, drop, arith, sym, ◌∙◌, ap, subst, ⊎_elim}
use Rattle.std.proofs.lemmas.Str.{IsUtf8-past_char, IsCharBoundary-past_char, IsCharBoundary-start, IsUtf8-drop}
use Rattle.std.proofs.Math.Utf8.{encode}
use Rattle.std.proofs.Math.Nat.{eq-zero-or-pos}
use Rattle.std.proofs.lemmas.Bool.{cases_lt}
use Rattle.std.specs.Char.{len_utf8}
use Rattle.std.specs.Str.{IsUtf8, IsCharBoundary}
use Rattle.std.specs.Str.Iter.{chars_rest}
use Rattle.line_index.specs.Lines.{wide_length, units}
use Rattle.line_index.proofs.WideLemmas.{wide_past, is_front, no_front_past, no_front_end, front_step}
use Rattle.line_index.proofs.line_col.WideEncoding.bytes_of.Goals as goal

pub loop-c-init : goal.loop-c-init
loop-c-init c =
    let e : chars_rest c.into_iter-c-iterator.result ≡ c.args.text.now = ap chars_rest c.into_iter-c-iterator.ensures.into_iter_gives ∙ c.chars-c-items.ensures.rest in
    record {
      utf8 = subst IsUtf8 (sym e) c.utf8.text;
      rest = sym e;
      boundary = IsCharBoundary-start c.args.text.now c.utf8.text;
      count = omega (arith, ap (wide_length c.args.self) e);
    }

pub returns-then-left-eq0 : goal.returns-then-left-eq0
returns-then-left-eq0 c =
    let i = c.loop-c.invariant in
    let e = c.args.self in
    let s = c.args.text.now in
    is_front e s c.args.units c.loop-c.bytes c.loop-c.left c.utf8.text i.boundary (i.count ∙ ap (λ x. c.args.units + wide_length e x) (sym i.rest)) c.if-left-eq0.true

pub returns-in_err-left : goal.returns-in_err-left
returns-in_err-left c =
    let i = c.loop-c.invariant in
    let e = c.args.self in
    let s = c.args.text.now in
    let some : 0 < c.loop-c.left =
    ⊎_elim (λ z. absurd (c.if-left-eq0.false z)) (λ p. p) (eq-zero-or-pos c.loop-c.left) in
    let less : c.loop-c.left < units e c.in-Some.c =
    ⊎_elim
    (λ lt. omega (arith, lt, c.units.ensures))
    (λ le. absurd (c.in_err-left.ensures le))
    (cases_lt c.loop-c.left c.units.result) in
    rw c.from_residual.ensures (no_front_past e s (chars_rest c.next.new.self) c.args.units c.loop-c.bytes c.loop-c.left c.in-Some.c c.utf8.text i.boundary (i.count ∙ ap (λ x. c.args.units + wide_length e x) (sym i.rest)) some less (i.rest ∙ c.in-Some.ensures.steps.0))

pub loop-c-preserved : goal.loop-c-preserved
loop-c-preserved c =
    let i = c.loop-c.invariant in
    let s = c.args.text.now in
    let bytes = c.loop-c.bytes in
    let old = chars_rest c.loop-c.c-iterator in
    let new = chars_rest c.next.new.self in
    let step = c.in-Some.ensures.steps.0 in
    let h : drop bytes s ≡ encode c.in-Some.c ++ new = i.rest ∙ step in
    let add : bytes + c.len_utf8.result ≡ bytes + len_utf8 c.in-Some.c = ap (λ n. bytes + n) c.len_utf8.ensures.value in
    record {
      utf8 = IsUtf8-past_char old new c.in-Some.c i.utf8 step;
      rest = ap (λ n. drop n s) add ∙ front_step s new bytes c.in-Some.c h;
      boundary = subst (IsCharBoundary s) (sym add) (IsCharBoundary-past_char s new bytes c.in-Some.c i.boundary.0 (IsUtf8-drop s bytes c.utf8.text i.boundary) h);
      count = omega (arith, i.count, wide_past c.args.self old new c.in-Some.c i.utf8 step, c.units.ensures, c.in_ok-left.ensures.0, c.in_ok-left.ensures.1);
    }

pub returns-then-left-gt0 : goal.returns-then-left-gt0
returns-then-left-gt0 c =
    let i = c.loop-c.invariant in
    let e = c.args.self in
    let s = c.args.text.now in
    no_front_end e s c.args.units c.loop-c.bytes c.loop-c.left c.utf8.text (i.count ∙ ap (λ x. c.args.units + wide_length e x) (sym i.rest)) c.if-left-gt0.true (ap length i.rest ∙ c.in-None.ensures.steps.0.0)

pub returns : goal.returns
returns c =
    let i = c.loop-c.invariant in
    let e = c.args.self in
    let s = c.args.text.now in
    is_front e s c.args.units c.loop-c.bytes c.loop-c.left c.utf8.text i.boundary (i.count ∙ ap (λ x. c.args.units + wide_length e x) (sym i.rest)) (omega (arith, c.if-left-gt0.false))
