use Rattle.std.proofs.Common.{◌≡◌, ◌++◌, ◌∷◌, [], ◌∙◌, inr, refl, sym, ap, arith, drop}
use Rattle.std.specs.Prelude.{string_bytes, option_map}
use Rattle.std.proofs.lemmas.Str.Pattern.{split_parts}
use Rattle.syntax_tool.specs.Escapes.{unescaped}
use Rattle.syntax_tool.specs.Lines.{HasNo}
use Rattle.syntax_tool.proofs.Cuts.{has_no_by_index}
use Rattle.syntax_tool.proofs.EscapeLemmas.{unescaped-start, unescaped-all_plain, unescaped-lone, unescaped-no_escape, unescaped-step, head_of, cut_behind, nothing_behind, escape_of-ascii}
use Rattle.syntax_tool.proofs.escapes.unescape.Goals as goal
use Rattle.syntax_tool.proofs.escapes.unescape.Goals.{In-Some, In-Some-first}

-- the rest of the text, cut at its first backslash
record Split (c : In-Some) : Type 0 where
  plain : HasNo 92 c.in-Some.plain.now
  is : c.loop-plain.rest.now ≡ c.in-Some.plain.now ++ 92 ∷ c.in-Some.after.now
  meant : unescaped c.args.raw.now ≡ option_map (λ t. string_bytes c.loop-plain.out ++ t) (unescaped (c.in-Some.plain.now ++ 92 ∷ c.in-Some.after.now))

split : (c : In-Some) → Split c
split c =
    let parts = rw c.in-Some.is at (split_parts 92 c.loop-plain.rest.now c.split_once.result c.split_once.ensures.cases (omega arith)) in
    record {
      plain = has_no_by_index 92 c.in-Some.plain.now parts.1;
      is = parts.0;
      meant = c.loop-plain.invariant.1 ∙ ap (λ l. option_map (λ t. string_bytes c.loop-plain.out ++ t) (unescaped l)) parts.0;
    }

letter_is : (c : In-Some-first) → c.in-Some.after.now ≡ c.in-Some-first.letter.now ∷ drop 1 c.in-Some.after.now
letter_is c = head_of c.as_bytes.result.now c.in-Some.after.now c.in-Some-first.letter.now c.as_bytes.ensures.value c.in-Some-first.ensures.item.3.0 (c.in-Some-first.ensures.item.3.1 0)

pub loop-plain-init : goal.loop-plain-init
loop-plain-init c = (c.utf8.raw, unescaped-start c.args.raw.now _ c.clear.ensures.bytes)

pub returns-in_default-first-clause-err : goal.returns-in_default-first-clause-err
returns-in_default-first-clause-err c =
    let w = split (goal.at.returns-in_default-first-clause-err c).In-Some in
    let none : c.in-Some.after.now ≡ [] = nothing_behind c.as_bytes.result.now c.in-Some.after.now c.as_bytes.ensures.value c.in_default-first.ensures.item.3 in
    inr (refl, unescaped-lone c.args.raw.now c.in-Some.plain.now (string_bytes c.loop-plain.out) w.plain (w.meant ∙ ap (λ l. option_map (λ t. string_bytes c.loop-plain.out ++ t) (unescaped (c.in-Some.plain.now ++ 92 ∷ l))) none))

pub returns-in_default-escape_of-clause-err : goal.returns-in_default-escape_of-clause-err
returns-in_default-escape_of-clause-err c =
    let w = split (goal.at.returns-in_default-escape_of-clause-err c).In-Some in
    inr (
      refl,
      unescaped-no_escape c.args.raw.now c.in-Some.plain.now (string_bytes c.loop-plain.out) c.in-Some.after.now c.in-Some-first.letter.now w.plain
          (letter_is (goal.at.returns-in_default-escape_of-clause-err c).In-Some-first) (sym c.in_default-escape_of.ensures) w.meant,
    )

pub range_from-rest-requires : goal.range_from-rest-requires
range_from-rest-requires c = λ _. cut_behind c.as_bytes.result.now c.in-Some.after.now c.in-Some-first.letter.now c.in-Some-escape_of.c c.as_bytes.ensures.value c.as_bytes.ensures.utf8 c.in-Some-first.ensures.item.3.0 (c.in-Some-first.ensures.item.3.1 0) (sym c.in-Some-escape_of.ensures)

pub loop-plain-preserved : goal.loop-plain-preserved
loop-plain-preserved c =
    let w = split (goal.at.loop-plain-preserved c).In-Some in (
      c.range_from-rest.utf8,
      unescaped-step c.args.raw.now c.in-Some.plain.now (string_bytes c.loop-plain.out) _ c.in-Some.after.now c.range_from-rest.result.now c.in-Some-first.letter.now c.in-Some-escape_of.c w.plain
          (letter_is (goal.at.loop-plain-preserved c).In-Some-first ∙ ap (λ l. c.in-Some-first.letter.now ∷ l) (sym c.range_from-rest.ensures.value)) (sym c.in-Some-escape_of.ensures)
          (c.in_ok-push.ensures.bytes
          ∙ ap (λ l. string_bytes c.push_str.new.self ++ l) (c.in_ok-push.ensures.ascii (escape_of-ascii c.in-Some-first.letter.now c.in-Some-escape_of.c (sym c.in-Some-escape_of.ensures)).1)
          ∙ ap (λ l. l ++ c.in-Some-escape_of.c ∷ []) c.in_ok-push_str.ensures.bytes)
          w.meant,
    )

pub returns-clause-ok : goal.returns-clause-ok
returns-clause-ok c =
    let none = rw c.in_default.is at (split_parts 92 c.loop-plain.rest.now c.split_once.result c.split_once.ensures.cases (omega arith)) in
    unescaped-all_plain c.args.raw.now c.loop-plain.rest.now (string_bytes c.loop-plain.out) (string_bytes c.push_str-2.new.self) (has_no_by_index 92 c.loop-plain.rest.now none) c.in_ok-push_str-2.ensures.bytes c.loop-plain.invariant.1
