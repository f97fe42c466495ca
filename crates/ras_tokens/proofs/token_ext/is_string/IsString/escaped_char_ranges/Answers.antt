use Rattle.std.proofs.Common.{subst}
use Rattle.std.specs.List.{FoldsTo}
use Rattle.ras_token_ext.specs.Texts.{is_raw}
use Rattle.ras_token_ext.specs.Units.{literal_calls}
use Rattle.ras_tokens.proofs.token_ext.is_string.IsString.escaped_char_ranges.Goals as goal

pub returns : goal.returns
returns g c =
    let by_mode = subst (λ m. FoldsTo (λ f call h. goal.F-step g f call.0 call.1 tt h) c.args.callback (literal_calls m (is_raw c.raw_prefix.result.now c.text.result.now) c.text.result.now) c.escaped_char_ranges.result) c.mode.ensures c.escaped_char_ranges.ensures in
    let by_prefix = subst (λ p. FoldsTo (λ f call h. goal.F-step g f call.0 call.1 tt h) c.args.callback (literal_calls (g.Self.IsString.literal c.args.self.now) (is_raw p c.text.result.now) c.text.result.now) c.escaped_char_ranges.result) c.raw_prefix.ensures by_mode in
    subst (λ s. FoldsTo (λ f call h. goal.F-step g f call.0 call.1 tt h) c.args.callback (literal_calls (g.Self.IsString.literal c.args.self.now) (is_raw (g.Self.IsString.prefix c.args.self.now) s) s) c.escaped_char_ranges.result) c.text.ensures by_prefix
