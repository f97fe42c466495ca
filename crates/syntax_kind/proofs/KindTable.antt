-- The table of kinds has each number's kind at its place.
use Rattle.std.proofs.Common.{◌≡◌, ◌↔◌, ℕ, ◌<◌, ◌∙◌, true, refl, sym, ap, subst, arith, nat_eq, slice_index_or, Some}
use Rattle.std.proofs.lemmas.Bool.{agree_below, agree_below_at, eqb-true}
use Rattle.syntax_kind.specs.Kinds.{kind_raw, IsKind}
use Rattle.syntax_kind.specs.KindLaws.{kind_raw-injective}
use Rattle.syntax_kind.specs.declared.syntax_kind.SyntaxKind.{SyntaxKind}
use Rattle.syntax_kind.specs.declared.syntax_kind.SyntaxKind.TheVariants.{Token, Node, OTHER}
use Rattle.syntax_kind.specs.declared.syntax_kind.all.TheConstants.{KINDS}

numbered : (d : SyntaxKind) → agree_below (λ n. nat_eq (kind_raw (slice_index_or KINDS n d)) n) (λ n. true) 264 ≡ true
numbered d = refl

kind_raw-KINDS : (n : ℕ) (d : SyntaxKind) → n < 264 → kind_raw (slice_index_or KINDS n d) ≡ n
kind_raw-KINDS n d h =
    eqb-true _ _ (agree_below_at (λ n. nat_eq (kind_raw (slice_index_or KINDS n d)) n) (λ n. true) 264 n (numbered d) h)

pub reads_table : (n : ℕ) (d k : SyntaxKind) → n < 264 → (Some (slice_index_or KINDS n d) ≡ Some k) ↔ (kind_raw k ≡ n)
reads_table n d k h =
    let number = kind_raw-KINDS n d h in (
      λ (q : Some (slice_index_or KINDS n d) ≡ Some k). let same : slice_index_or KINDS n d ≡ k = cc in ap kind_raw (sym same) ∙ number,
      λ q. ap Some (kind_raw-injective (slice_index_or KINDS n d) k (number ∙ sym q)),
    )

-- a kind with a number below 264 is no `OTHER`
pub small-IsKind : (k : SyntaxKind) → kind_raw k < 264 → IsKind k
small-IsKind (Token t) h = tt
small-IsKind (Node t) h = tt
small-IsKind (OTHER n) h = absurd (omega arith)

pub IsKind-KINDS : (n : ℕ) (d : SyntaxKind) → n < 264 → IsKind (slice_index_or KINDS n d)
IsKind-KINDS n d h = small-IsKind _ (subst (λ m. m < 264) (sym (kind_raw-KINDS n d h)) h)
