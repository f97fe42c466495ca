-- A name is that of one kind: the kinds of the library and the rows of the table have different
-- names.
use Rattle.std.specs.Prelude.{◌≡◌, ◌↔◌, ℕ, List, [], ◌∷◌, Bool, true, false, Option, Some, None, ⊤, bytes_eq, if◌then◌else◌}
use Rattle.std.proofs.Common.{refl, sym, ap, ◌∙◌, subst}
use Rattle.syntax_kind.specs.Kinds.{kind_name, IsKind}
use Rattle.syntax_kind.specs.declared.syntax_kind.SyntaxKind.{SyntaxKind}
use Rattle.syntax_kind.specs.declared.syntax_kind.SyntaxKind.TheVariants.{Token, Node, OTHER}
use Rattle.syntax_kind.specs.declared.syntax_kind.token_kind.TokenKind.{TokenKind}
use Rattle.syntax_kind.specs.declared.syntax_kind.token_kind.TokenKind.TheVariants as token
use Rattle.syntax_kind.specs.declared.syntax_kind.node_kind.NodeKind.{NodeKind}
use Rattle.syntax_kind.specs.declared.syntax_kind.node_kind.NodeKind.TheVariants as node
use Rattle.std.proofs.lemmas.Slice.Eq.{bytes_eq-Decides}
use Rattle.rust_kinds.specs.Names.{name_in_table, number_in_table, number_at, IsNamed}
use Rattle.rust_kinds.proofs.Table.{number_found}
use Rattle.rust_kinds.proofs.Rows.{none_is_some}

-- no kind of the library has a name of the table
token_apart : (t : TokenKind) → number_in_table (kind_name (Token t)) ≡ None
token_apart token.WHITESPACE = refl
token_apart _ = refl

node_apart : (t : NodeKind) → number_in_table (kind_name (Node t)) ≡ None
node_apart node.SOURCE_FILE = refl
node_apart _ = refl

-- and each has a name
abbrev is_empty : List ℕ → Bool
is_empty [] = true
is_empty (b ∷ bs) = false

token_named : (t : TokenKind) → is_empty (kind_name (Token t)) ≡ false
token_named token.WHITESPACE = refl
token_named _ = refl

node_named : (t : NodeKind) → is_empty (kind_name (Node t)) ≡ false
node_named node.SOURCE_FILE = refl
node_named _ = refl

some : (own name : List ℕ) → is_empty own ≡ false → own ≡ name → name ≡ [] → ⊥
some own name h e f =
    let clash : true ≡ false = ap is_empty (sym (e ∙ f)) ∙ h in
    (cc)

-- a place without a name finds none
pub unnamed : (name : List ℕ) → name_in_table (number_at name) ≡ [] → number_in_table name ≡ None
unnamed [] h = refl
unnamed (b ∷ bs) h = ap (λ s. if bytes_eq s (b ∷ bs) then Some (number_at (b ∷ bs)) else None) h

-- what is found has the name
chosen : (b : Bool) (m n : ℕ) → (if b then Some m else None) ≡ Some n → (b ≡ true) × (m ≡ n)
chosen true m n e = (refl, cc)
chosen false m n e = absurd (none_is_some n e)

no_name : number_in_table [] ≡ None
no_name = refl

name_found : (name : List ℕ) (n : ℕ) → number_in_table name ≡ Some n → (name_in_table n ≡ name) × (name ≡ [] → ⊥)
name_found name n e =
    let found = chosen (bytes_eq (name_in_table (number_at name)) name) (number_at name) n e in
    let named : name_in_table (number_at name) ≡ name = (bytes_eq-Decides (name_in_table (number_at name)) name).0 found.0 in (
      subst (λ m. name_in_table m ≡ name) found.1 named,
      λ (f : name ≡ []). none_is_some n (sym no_name ∙ ap number_in_table (sym f) ∙ e),
    )

abbrev pub Finds : Option SyntaxKind → List ℕ → Type 0
Finds r name = (k : SyntaxKind) → IsKind k → (r ≡ Some k) ↔ IsNamed k name

-- a kind with a name of the table is the row of that name
row_of : (k : SyntaxKind) (name : List ℕ) (n : ℕ) → number_in_table name ≡ Some n → IsNamed k name → OTHER n ≡ k
row_of (OTHER m) name n e named =
    let there : number_in_table name ≡ Some m =
    subst (λ t. number_in_table t ≡ Some m) named.name (number_found m (λ f. named.some (sym named.name ∙ f))) in
    (cc)
row_of (Token t) name n e named = absurd (none_is_some n (sym (token_apart t) ∙ ap number_in_table named.name ∙ e))
row_of (Node t) name n e named = absurd (none_is_some n (sym (node_apart t) ∙ ap number_in_table named.name ∙ e))

pub finds_row : (name : List ℕ) (n : ℕ) → number_in_table name ≡ Some n → Finds (Some (OTHER n)) name
finds_row name n e k q = (
  λ (h : Some (OTHER n) ≡ Some k).
      let same : OTHER n ≡ k = cc in
      let found = name_found name n e in
      let named : IsNamed (OTHER n) name = record { name = found.0; some = found.1 } in
      subst (λ k. IsNamed k name) same named,
  λ named. ap Some (row_of k name n e named),
)

abbrev pub IsOwn : SyntaxKind → Type 0
IsOwn (OTHER n) = ⊥
IsOwn _ = ⊤

-- where the table has no such name, a kind with it is the library's own
own_named : (k : SyntaxKind) (name : List ℕ) → number_in_table name ≡ None → IsNamed k name → IsOwn k × (kind_name k ≡ name)
own_named (OTHER m) name e named =
    absurd (none_is_some m (sym e ∙ subst (λ t. number_in_table t ≡ Some m) named.name (number_found m (λ f. named.some (sym named.name ∙ f)))))
own_named (Token t) name e named = (tt, named.name)
own_named (Node t) name e named = (tt, named.name)

named_own : (k : SyntaxKind) (name : List ℕ) → IsOwn k → kind_name k ≡ name → IsNamed k name
named_own (OTHER m) name own e = absurd own
named_own (Token t) name own e = record { name = e; some = some _ _ (token_named t) e }
named_own (Node t) name own e = record { name = e; some = some _ _ (node_named t) e }

-- what the library finds by the name
abbrev pub FindsOwn : Option SyntaxKind → List ℕ → Type 0
FindsOwn r name = (k : SyntaxKind) → IsKind k → (r ≡ Some k) ↔ (kind_name k ≡ name)

pub finds_own : (j : SyntaxKind) (name : List ℕ) → number_in_table name ≡ None → IsOwn j → FindsOwn (Some j) name → Finds (Some j) name
finds_own j name e own there k q = (
  λ (h : Some j ≡ Some k).
      let same : j ≡ k = cc in
      named_own k name (subst IsOwn same own) ((there k q).0 h),
  λ named. (there k q).1 (own_named k name e named).1,
)

pub finds_none : (name : List ℕ) → number_in_table name ≡ None → FindsOwn None name → Finds None name
finds_none name e there k q = (
  λ (h : None ≡ Some k). (cc),
  λ named. (there k q).1 (own_named k name e named).1,
)

pub finds_other : (n : ℕ) (name : List ℕ) → number_in_table name ≡ None → FindsOwn (Some (OTHER n)) name → Finds None name
finds_other n name e there k q = (
  λ (h : None ≡ Some k). (cc),
  λ named.
      let own = own_named k name e named in
      let found : Some (OTHER n) ≡ Some k = (there k q).1 own.1 in
      let same : OTHER n ≡ k = cc in
      absurd (subst IsOwn (sym same) own.0),
)
