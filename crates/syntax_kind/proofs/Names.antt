-- What a name finds.
use Rattle.std.proofs.Common.{◌≡◌, ℕ, ◌<◌, ◌∙◌, List, sym, ap, subst, Option, Some, None, ◌↔◌}
use Rattle.syntax_kind.specs.Kinds.{kind_raw, kind_name, IsKind}
use Rattle.syntax_kind.specs.KindText.{IsNamedAs}
use Rattle.syntax_kind.specs.KindLaws.{token_raw_small, node_raw_small}
use Rattle.syntax_kind.proofs.KindLaws.{kind_name-injective}
use Rattle.syntax_kind.specs.declared.syntax_kind.SyntaxKind.{SyntaxKind}
use Rattle.syntax_kind.specs.declared.syntax_kind.SyntaxKind.TheVariants.{Token, Node, OTHER}

abbrev pub Finds : Option SyntaxKind → List ℕ → Type 0
Finds r name = (k : SyntaxKind) → IsKind k → (r ≡ Some k) ↔ (kind_name k ≡ name)

pub Finds-some : (j : SyntaxKind) (name : List ℕ) → IsKind j → kind_name j ≡ name → Finds (Some j) name
Finds-some j name p e k q = (
  λ (h : Some j ≡ Some k). let same : j ≡ k = cc in subst (λ k. kind_name k ≡ name) same e,
  λ h. ap Some
      (kind_name-injective j k p q (e ∙ sym h)),
)

pub IsNamedAs-kind : (k : SyntaxKind) (name : List ℕ) → IsNamedAs k name → IsKind k × (kind_name k ≡ name)
IsNamedAs-kind (Token t) name e = (tt, e)
IsNamedAs-kind (Node t) name e = (tt, e)
IsNamedAs-kind (OTHER n) name e = absurd e

pub Finds-none : (name : List ℕ) → ((k : SyntaxKind) → ¬ (IsNamedAs k name)) →
    ((n : ℕ) → n < 65536 → ¬ (kind_name (OTHER n) ≡ name)) → Finds None name
Finds-none name no_name no_number (Token t) q = (λ (h : None ≡ Some (Token t)). (cc), λ e. absurd (no_name (Token t) e))
Finds-none name no_name no_number (Node t) q = (λ (h : None ≡ Some (Node t)). (cc), λ e. absurd (no_name (Node t) e))
Finds-none name no_name no_number (OTHER n) q = (λ (h : None ≡ Some (OTHER n)). (cc), λ e. absurd (no_number n q e))

-- a kind of this name is the one that the tables point to
pub named-candidate : (r : Option SyntaxKind) (name : List ℕ) →
    ((k : SyntaxKind) → kind_raw k < 264 → kind_name k ≡ name → r ≡ Some k) → (k : SyntaxKind) → IsNamedAs k name
    → r ≡ Some k
named-candidate r name only (Token t) e = only (Token t) (token_raw_small t) e
named-candidate r name only (Node t) e = only (Node t) (node_raw_small t) e
named-candidate r name only (OTHER n) e = absurd e

pub none_is_some : {A : Type 0} (x : A) → None ≡ Some x → ⊥
none_is_some x e = cc
