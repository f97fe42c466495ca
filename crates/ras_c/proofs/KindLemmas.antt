-- What a name's number says of the kinds.
use Rattle.std.specs.Prelude.{◌≡◌, ◌↔◌, ℕ, ◌<◌, List, Some, IsUtf8}
use Rattle.std.proofs.Common.{sym, ap, ◌∙◌, subst, arith}
use Rattle.syntax_kind.specs.Kinds.{kind_raw, IsKind}
use Rattle.syntax_kind.specs.KindLaws.{token_raw_small, node_raw_small, kind_raw-injective}
use Rattle.syntax_kind.specs.declared.syntax_kind.SyntaxKind.{SyntaxKind}
use Rattle.syntax_kind.specs.declared.syntax_kind.SyntaxKind.TheVariants.{Token, Node, OTHER}
use Rattle.rust_kinds.specs.Names.{IsNamed}
use Rattle.rust_kinds.proofs.Utf8.{rust_name-IsUtf8}

-- no kind has the largest number of 32 bits
small : (k : SyntaxKind) → IsKind k → kind_raw k < 4294967295
small (Token t) q = omega (arith, token_raw_small t)
small (Node t) q = omega (arith, node_raw_small t)
small (OTHER n) q = omega (arith, q)

abbrev pub IsNumberOf : ℕ → List ℕ → Type 0
IsNumberOf r name = (k : SyntaxKind) → IsKind k → (r ≡ kind_raw k) ↔ IsNamed k name

pub found : (j : SyntaxKind) (r : ℕ) (name : List ℕ) → r ≡ kind_raw j → ((k : SyntaxKind) → IsKind k → (Some j ≡ Some k) ↔ IsNamed k name)
    → IsNumberOf r name
found j r name e exact k q = (
  λ h. (exact k q).0 (ap Some (kind_raw-injective j k (sym e ∙ h))),
  λ named.
      let there : Some j ≡ Some k = (exact k q).1 named in
      let same : j ≡ k = cc in
      e ∙ ap kind_raw same,
)

pub not_found : (name : List ℕ) → ((k : SyntaxKind) → IsKind k → IsNamed k name → ⊥) → IsNumberOf 4294967295 name
not_found name none k q = (λ h. absurd (omega (arith, h, small k q)), λ named. absurd (none k q named))

-- a text that is not UTF-8 is no name
pub no_name : (name : List ℕ) → (IsUtf8 name → ⊥) → IsNumberOf 4294967295 name
no_name name bad = not_found name (λ k q named. bad (subst IsUtf8 named.name (rust_name-IsUtf8 k)))
