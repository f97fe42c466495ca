use Rattle.std.proofs.Common.{sym, ◌∙◌, subst}
use Rattle.std.specs.Prelude.{[]}
use Rattle.std.specs.List.{FoldsTo}
use Rattle.std.specs.Option.{option_map_or}
use Rattle.ras_token_ext.specs.Texts.{is_raw}
use Rattle.ras_token_ext.specs.Units.{content_calls}
use Rattle.ras_token_ext.proofs.units.escaped_char_ranges.Goals as goal

pub returns-then-is_raw : goal.returns-then-is_raw
returns-then-is_raw g c =
    let raw = is_raw c.args.prefix.now c.args.text.now in
    let called = subst (λ b. FoldsTo (λ f call h. goal.F-step g f call.0 call.1 tt h) c.args.callback (content_calls c.args.mode b c.in-Some.start c.in-Some.content.now) c.call_on_chars.result) (sym c.if-is_raw.true ∙ c.is_raw.ensures) c.call_on_chars.ensures in
    subst (λ o. FoldsTo (λ f call h. goal.F-step g f call.0 call.1 tt h) c.args.callback (option_map_or (λ p. content_calls c.args.mode raw p.0 p.1) o []) c.call_on_chars.result) c.in-Some.ensures.value called

pub returns-else-is_raw : goal.returns-else-is_raw
returns-else-is_raw g c =
    let raw = is_raw c.args.prefix.now c.args.text.now in
    let called = subst (λ b. FoldsTo (λ f call h. goal.F-step g f call.0 call.1 tt h) c.args.callback (content_calls c.args.mode b c.in-Some.start c.in-Some.content.now) c.call_on_units.result) (sym c.if-is_raw.false ∙ c.is_raw.ensures) c.call_on_units.ensures in
    subst (λ o. FoldsTo (λ f call h. goal.F-step g f call.0 call.1 tt h) c.args.callback (option_map_or (λ p. content_calls c.args.mode raw p.0 p.1) o []) c.call_on_units.result) c.in-Some.ensures.value called
