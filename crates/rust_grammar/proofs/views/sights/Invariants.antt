use Rattle.std.proofs.Common.{◌≡◌, ◌++◌, length, slice_get}
use denote.Shadow.{shadow}
use denote.Text.{Utf8}
use Rattle.token_layout.specs.Laid.{IsCut}
use Rattle.rust_grammar.specs.Seeing.{number_on, sights_of}
use Rattle.rust_grammar.proofs.views.sights.Given as goal

-- the numbers of the next two tokens are there; the tokens that are left cut what is left of the
-- text, and their sights come after those that are there
abbrev pub invariant-loop-token : goal.invariant-loop-token
invariant-loop-token l =
    shadow (Utf8 l.rest) × (l.one ≡ number_on (slice_get l.left 0)) × (l.second ≡ number_on (slice_get l.left 1)) ×
    (IsCut l.fn.tokens l.fn.text → (IsCut l.left l.rest) × (l.sights.items ++ sights_of l.edition l.rest l.left ≡ sights_of l.edition l.fn.text l.fn.tokens))

abbrev pub decreases-loop-token : goal.decreases-loop-token
decreases-loop-token l = length l.left
