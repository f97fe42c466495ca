-- The innermost nodes around a token.
use Rattle.std.proofs.Common.{◌≡◌, ℕ, zero, suc, ◌-◌, ◌<◌, ◌≤◌, Bool, true, false, ◌||◌, take, Option, Some, None, refl, ap, sym, ◌∙◌, arith}
use Rattle.std.specs.List.{list_any}
use Rattle.syntax_kind.specs.declared.syntax_kind.SyntaxKind.{SyntaxKind}
use Rattle.syntax_kind.specs.declared.syntax_kind.SyntaxKind.TheVariants.{Token}
use Rattle.syntax_kind.specs.declared.syntax_kind.token_kind.TokenKind.TheVariants as token
use Rattle.syntax_kind.specs.declared.syntax_kind.TheConstants.SyntaxKind.{IDENT}
use Rattle.syntax_kind.specs.Kinds.{is_same_kind}
use Rattle.syntax_kind.specs.KindLaws.{is_same_kind-equal}
use Rattle.tree_model.specs.Tree.{text}
use Rattle.tree_model.specs.Cursor.{Cursor, focus, parent_of, ancestors_from}
use Rattle.tree_model.proofs.AncestorLemmas.{ancestors_from-step}
use Rattle.ras_node.specs.Nodes.{kind_at, is_of_kind}
use Rattle.rust_report.specs.Roles.{role_of_token, role_of_word, role_alone}

-- an identifier
pub word_alone : (c : Cursor) → is_of_kind IDENT c ≡ true → role_of_word (parent_of c) ≡ role_alone (kind_at c) c
word_alone c h = sym (ap (λ k. role_alone k c) ((is_same_kind-equal (kind_at c) IDENT).0 h))

other_role : (k : SyntaxKind) (c : Cursor) → is_same_kind k IDENT ≡ false → role_of_token k (text (focus c)) ≡ role_alone k c
other_role (Token token.IDENT) c h = absurd (let no : true ≡ false = h in cc)
other_role _ c h = refl

-- every other token
pub other_alone : (c : Cursor) → is_of_kind IDENT c ≡ false → role_of_token (kind_at c) (text (focus c)) ≡ role_alone (kind_at c) c
other_alone c h = other_role (kind_at c) c h

module _ (test : Cursor → Bool) where
  pub among_none : (n : ℕ) (next : Option Cursor) → next ≡ None → list_any test (take n (ancestors_from next)) ≡ false
  among_none zero next h = refl
  among_none (suc n) next h = rw h refl

  pub among_no_more : (n : ℕ) (next : Option Cursor) → n ≤ 0 → list_any test (take n (ancestors_from next)) ≡ false
  among_no_more zero next h = refl
  among_no_more (suc n) next h = absurd (omega (arith, h))

  split : (n : ℕ) (next up : Option Cursor) (c : Cursor) → next ≡ Some c → up ≡ parent_of c
      → list_any test (take (suc n) (ancestors_from next)) ≡ (test c || list_any test (take n (ancestors_from up)))
  split n next up c is above = ap (λ l. list_any test (take (suc n) l)) (ancestors_from-step (ancestors_from next) next c up refl is above)

  pub among_first : (n : ℕ) (next : Option Cursor) (c : Cursor) → 0 < n → next ≡ Some c → test c ≡ true → list_any test (take n (ancestors_from next)) ≡ true
  among_first zero next c h is holds = absurd (omega (arith, h))
  among_first (suc n) next c h is holds = split n next (parent_of c) c is refl ∙ rw holds refl

  pub among_others : (n m : ℕ) (next up : Option Cursor) (c : Cursor) → 0 < n → m ≡ n - 1 → next ≡ Some c → up ≡ parent_of c → test c ≡ false
      → list_any test (take m (ancestors_from up)) ≡ list_any test (take n (ancestors_from next))
  among_others zero m next up c h e is above fails = absurd (omega (arith, h))
  among_others (suc n) m next up c h e is above fails =
      let same : m ≡ n = omega (arith, e) in
      ap (λ k. list_any test (take k (ancestors_from up))) same ∙ sym (split n next up c is above ∙ rw fails refl)
