-- Kinds of rows: a kind, and whether it is that of a token.
use Rattle.std.specs.Prelude.{◌≡◌, Bool, true, false, ℕ, cond, refl}
use Rattle.std.specs.Coded.{Coded, code_by, coded_bool, coded×}
use Rattle.syntax_kind.specs.declared.syntax_kind.SyntaxKind.{SyntaxKind}
use Rattle.tree_model.specs.TreeCode.{kind_code}
use Rattle.tree_rows.specs.declared.builder_event.BuilderEvent.{BuilderEvent}
use Rattle.tree_rows.specs.declared.builder_event.BuilderEvent.TheVariants.{Enter, Token}

pub record Head : Type 0 where
  pub kind : SyntaxKind
  pub is_token : Bool

abbrev pub head : SyntaxKind → Bool → Head
head k t = record { kind = k; is_token = t }

-- the step that begins such a row: a token of n bytes, or a node
abbrev pub step_of : Head → ℕ → BuilderEvent
step_of h n = cond h.is_token (Token h.kind n) (Enter h.kind)

-- a head as the prover's value
abbrev pub head_code : Coded Head
head_code = code_by (SyntaxKind × Bool) (coded× kind_code coded_bool) (λ h. (h.kind, h.is_token)) (λ p. head p.0 p.1) (λ _. refl)
