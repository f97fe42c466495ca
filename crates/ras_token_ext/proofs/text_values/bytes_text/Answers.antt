use Rattle.std.proofs.Common.{◌≡◌, true, false, ap, sym, ◌∙◌}
use Rattle.std.specs.Prelude.{Ok}
use Rattle.std.specs.Cow.{cow_slice_items}
use Rattle.std.proofs.lemmas.Str.{IsUtf8-string_bytes}
use Rattle.ras_token_ext.specs.Literals.{as_text}
use Rattle.ras_token_ext.proofs.TextValues.{text_is_text, no_text}
use Rattle.ras_token_ext.proofs.text_values.bytes_text.Goals as goal

pub returns-in-Ok-clause-text : goal.returns-in-Ok-clause-text
returns-in-Ok-clause-text c =
    ap (λ b. as_text (cow_slice_items b)) c.in-Borrowed.is ∙ (text_is_text c.in-Borrowed.bytes.now c.in-Ok.ensures.cases.1 ∙ ap Ok (sym c.in-Ok.ensures.cases.0))

pub returns-in-Borrowed-clause-text : goal.returns-in-Borrowed-clause-text
returns-in-Borrowed-clause-text c = ap (λ b. as_text (cow_slice_items b)) c.in-Borrowed.is ∙ no_text c.in-Borrowed.bytes.now c.in-Err.ensures.cases.0

pub returns-in-Ok-from_utf8-clause-text : goal.returns-in-Ok-from_utf8-clause-text
returns-in-Ok-from_utf8-clause-text c =
    ap (λ b. as_text (cow_slice_items b)) c.in-Owned.is ∙ (ap (λ v. as_text v.items) (sym c.in-Ok-from_utf8.ensures.ok) ∙ text_is_text _ (IsUtf8-string_bytes c.in-Ok-from_utf8.text))

pub returns-clause-text : goal.returns-clause-text
returns-clause-text c = ap (λ b. as_text (cow_slice_items b)) c.in-Owned.is ∙ no_text c.in-Owned.bytes.items (λ u. let other : true ≡ false = sym (c.in-Err-from_utf8.ensures.succeeds u) in cc)
