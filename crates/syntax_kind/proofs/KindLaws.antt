-- No two kinds have one number, and no two print the same.
use Rattle.std.specs.Prelude.{◌≡◌, ℕ, ◌<◌, List, Bool, true, false, codes, ◌==◌}
use Rattle.std.proofs.Common.{refl, sym, ap, ◌∙◌, arith, get_or}
use Rattle.std.proofs.lemmas.Fmt.{decimal_injective}
use Rattle.std.proofs.lemmas.List.{append_cancel_left, append_cancel_right}
use Rattle.syntax_kind.specs.KindLaws.{token_raw_small, node_raw_small, kind_raw-injective}
use Rattle.syntax_kind.specs.Kinds.{kind_raw, kind_name, NamesDiffer}
use Rattle.syntax_kind.specs.KindText.{hash_of, number_at}
use Rattle.syntax_kind.specs.declared.syntax_kind.SyntaxKind.{SyntaxKind}
use Rattle.syntax_kind.specs.declared.syntax_kind.SyntaxKind.TheVariants.{Token, Node, OTHER}
use Rattle.syntax_kind.specs.declared.syntax_kind.token_kind.TokenKind.{TokenKind}
use Rattle.syntax_kind.specs.declared.syntax_kind.token_kind.TokenKind.TheVariants as token
use Rattle.syntax_kind.specs.declared.syntax_kind.node_kind.NodeKind.{NodeKind}
use Rattle.syntax_kind.specs.declared.syntax_kind.node_kind.NodeKind.TheVariants as node

-- the tables find each name
token_number : (t : TokenKind) → number_at (hash_of (kind_name (Token t))) ≡ kind_raw (Token t)
token_number token.WHITESPACE = refl
token_number _ = refl

node_number : (t : NodeKind) → number_at (hash_of (kind_name (Node t))) ≡ kind_raw (Node t)
node_number node.SOURCE_FILE = refl
node_number _ = refl

pub number_at-kind_name : (k : SyntaxKind) → kind_raw k < 264 → number_at (hash_of (kind_name k)) ≡ kind_raw k
number_at-kind_name (Token t) h = token_number t
number_at-kind_name (Node t) h = node_number t
number_at-kind_name (OTHER n) h = absurd (omega arith)

-- the bracket of `OTHER(n)` is in no other name
abbrev has_bracket : List ℕ → Bool
has_bracket name = get_or name 5 0 == 40

token_bracket : (t : TokenKind) → has_bracket (kind_name (Token t)) ≡ false
token_bracket token.WHITESPACE = refl
token_bracket _ = refl

node_bracket : (t : NodeKind) → has_bracket (kind_name (Node t)) ≡ false
node_bracket node.SOURCE_FILE = refl
node_bracket _ = refl

other_bracket : (n : ℕ) → has_bracket (kind_name (OTHER n)) ≡ true
other_bracket n = refl

other_apart : (n : ℕ) (k : SyntaxKind) → has_bracket (kind_name k) ≡ false → kind_name (OTHER n) ≡ kind_name k → ⊥
other_apart n k h e =
    let clash : true ≡ false = sym (other_bracket n) ∙ ap has_bracket e ∙ h in
    (cc)

named-injective : (j k : SyntaxKind) → kind_raw j < 264 → kind_raw k < 264 → kind_name j ≡ kind_name k → j ≡ k
named-injective j k p q e =
    kind_raw-injective j k (sym (number_at-kind_name j p) ∙ ap (λ name. number_at (hash_of name)) e ∙ number_at-kind_name k q)

pub kind_name-injective : NamesDiffer
kind_name-injective (OTHER m) (OTHER n) p q e =
    ap OTHER (decimal_injective m n (omega arith) (omega arith)
    (append_cancel_left (codes "OTHER(") _ _ (append_cancel_right _ _ (codes ")") e)))
kind_name-injective (OTHER m) (Token t) p q e = absurd (other_apart m (Token t) (token_bracket t) e)
kind_name-injective (OTHER m) (Node t) p q e = absurd (other_apart m (Node t) (node_bracket t) e)
kind_name-injective (Token t) (OTHER m) p q e = absurd (other_apart m (Token t) (token_bracket t) (sym e))
kind_name-injective (Node t) (OTHER m) p q e = absurd (other_apart m (Node t) (node_bracket t) (sym e))
kind_name-injective (Token t) (Token u) p q e = named-injective (Token t) (Token u) (token_raw_small t) (token_raw_small u) e
kind_name-injective (Token t) (Node u) p q e = named-injective (Token t) (Node u) (token_raw_small t) (node_raw_small u) e
kind_name-injective (Node t) (Token u) p q e = named-injective (Node t) (Token u) (node_raw_small t) (token_raw_small u) e
kind_name-injective (Node t) (Node u) p q e = named-injective (Node t) (Node u) (node_raw_small t) (node_raw_small u) e
