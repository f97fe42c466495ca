-- What is told of a parse, put together from its parts.
use Rattle.std.proofs.Common.{◌≡◌, ℕ, ◌+◌, ◌<◌, ◌≤◌, List, length, drop, get_or, ap, arith, length-append}
use Rattle.std.specs.Prelude.{◌^◌, ⊤}
use Rattle.std.proofs.Math.Seq.{drop-append_seam}
use Rattle.std.proofs.lemmas.List.Folds.{length-flat_map-take}
use Rattle.syntax_kind.specs.declared.syntax_kind.SyntaxKind.{SyntaxKind}
use Rattle.ras_front_end.specs.ErrorModel.{ErrorModel}
use Rattle.ras_front_end.specs.Keeps.{Keeps}
use Rattle.ras_front_end.specs.Parsed.{Parsed}
use Rattle.ras_front_end.specs.Reading.{Reading}
use Rattle.ras_parsing.specs.AllErrors.{all_errors}
use Rattle.ras_c.specs.Read.{messages_of, message_of, violations_in}

pub message_fits : (faults : List ErrorModel) (i : ℕ) (d f : ErrorModel) → i < length faults → f ≡ get_or faults i d → length (messages_of faults) < 2 ^ 32 → length f.message < 2 ^ 32
message_fits faults i d f lt is few = omega (arith, length-flat_map-take message_of faults i d lt, ap (λ f. length f.message) is, few)

-- the violations come behind the errors of the parse
pub all_counted : (p : Parsed) → length (all_errors p) ≡ length p.errors + length (violations_in p)
all_counted p = length-append p.errors (violations_in p)

pub stored_within : (p : Parsed) → length p.errors ≤ length (all_errors p)
stored_within p = omega (arith, all_counted p)

pub behind_stored : (p : Parsed) → drop (length p.errors) (all_errors p) ≡ violations_in p
behind_stored p = drop-append_seam p.errors (violations_in p)

-- what a parser keeps of a text, whatever the root
pub any_root : (is_root : SyntaxKind → Type 0) (input : List ℕ) (r : Reading) → Keeps is_root input r → Keeps (λ root. ⊤) input r
any_root is_root input r k = record { tree = k.tree; cuts = k.cuts; builds = k.builds; root = tt; in_text = k.in_text }
