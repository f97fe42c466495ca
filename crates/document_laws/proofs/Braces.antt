-- How the grammar's machine sees the first and the last token of a text from `{` to `}`.
use Rattle.std.proofs.Common.{◌≡◌, ℕ, suc, ◌-◌, true, List, [], ◌∷◌, ◌++◌, length, drop, take, ap, ap₂, sym, subst, ◌∙◌, refl, arith, append_assoc}
use Rattle.std.specs.Prelude.{Some, slice_get}
use Rattle.std.proofs.lemmas.List.{length-append}
use Rattle.syntax_kind.specs.declared.syntax_kind.SyntaxKind.{SyntaxKind}
use Rattle.syntax_kind.specs.declared.syntax_kind.SyntaxKind.TheVariants as kinds
use Rattle.syntax_kind.specs.declared.syntax_kind.token_kind.TokenKind.TheVariants as token
use Rattle.ras_front_end.specs.declared.edition.Edition.{Edition}
use Rattle.token_layout.specs.declared.span.Token.{Token}
use Rattle.grammar_machine.specs.declared.grammar.Sight.{Sight}
use Rattle.grammar_machine.specs.declared.grammar.View.TheVariants.{One}
use Rattle.grammar_machine.specs.Running.{is_brace_of, seen_of as seen_in}
use Rattle.grammar_machine.specs.Exchanging.{EndAlike}
use Rattle.event_layout.specs.Placed.{NextIsPlain}
use Rattle.lexer_laws.specs.Pieces.{Opens, Closes, IsBraced}
use Rattle.lexer_laws.proofs.Sighting.{no_left, no_right_open}
use Rattle.rust_grammar.specs.Seeing.{number_of, number_on, joined_of, seen_of, sights_of}
use Rattle.rust_grammar.specs.Tables.{rust_tables}

-- ---- the two sights

abbrev pub open_sight : Sight
open_sight = record { one = 20; two = 0; three = 0; word = 0 }

abbrev pub close_sight : Sight
close_sight = record { one = 21; two = 0; three = 0; word = 0 }

opening_number : (k : SyntaxKind) → k ≡ kinds.Token token.L_CURLY → number_of k ≡ 20
opening_number k h = ap number_of h

closing_number : (k : SyntaxKind) → k ≡ kinds.Token token.R_CURLY → number_of k ≡ 21
closing_number k h = ap number_of h

sees_open : (e : Edition) (w : List ℕ) (s t : ℕ) → seen_of e w 20 s t ≡ open_sight ∷ []
sees_open e w s t =
    ap₂ (λ (x y : ℕ). record { one = 20; two = x; three = y; word = 0 } ∷ []) (no_right_open s) (ap (λ (j : ℕ). joined_of j t) (no_right_open s) ∙ no_left t)

sees_close : (e : Edition) (w : List ℕ) → seen_of e w 21 0 0 ≡ close_sight ∷ []
sees_close e w = refl

-- the sights begin with that of `{`
record Begins (ss : List Sight) : Type 0 where
  later : List Sight
  is : ss ≡ open_sight ∷ later

-- they end with that of `}`
record Ends (ss : List Sight) : Type 0 where
  front : List Sight
  is : ss ≡ front ++ close_sight ∷ []

begins : (e : Edition) (text : List ℕ) (ts : List Token) → Opens ts → Begins (sights_of e text ts)
begins e text ts o = record {
  later = sights_of e (drop o.first.len text) o.rest;
  is =
      ap (sights_of e text) o.begins
      ∙ ap (λ (n : ℕ). seen_of e (take o.first.len text) n (number_on (slice_get o.rest 0)) (number_on (slice_get o.rest 1)) ++ sights_of e (drop o.first.len text) o.rest)
      (opening_number o.first.kind o.is_open)
      ∙ ap (λ (ss : List Sight). ss ++ sights_of e (drop o.first.len text) o.rest)
      (sees_open e (take o.first.len text) (number_on (slice_get o.rest 0)) (number_on (slice_get o.rest 1)));
}

ends_on : (e : Edition) (text : List ℕ) (front : List Token) (t : Token) → t.kind ≡ kinds.Token token.R_CURLY → Ends (sights_of e text (front ++ t ∷ []))
ends_on e text [] t h = record {
  front = [];
  is = ap (λ (n : ℕ). seen_of e (take t.len text) n 0 0 ++ []) (closing_number t.kind h);
}
ends_on e text (x ∷ front) t h =
    let w : Ends (sights_of e (drop x.len text) (front ++ t ∷ [])) = ends_on e (drop x.len text) front t h in
    let one : List Sight = seen_of e (take x.len text) (number_of x.kind) (number_on (slice_get (front ++ t ∷ []) 0)) (number_on (slice_get (front ++ t ∷ []) 1)) in
    record { front = one ++ w.front; is = ap (λ (ss : List Sight). one ++ ss) w.is ∙ sym (append_assoc one w.front (close_sight ∷ [])) }

ends : (e : Edition) (text : List ℕ) (ts : List Token) → Closes ts → Ends (sights_of e text ts)
ends e text ts c = subst (λ (us : List Token). Ends (sights_of e text us)) (sym c.ends) (ends_on e text c.front c.last c.is_close)

last_at : (xs : List Sight) (x : Sight) → slice_get (xs ++ x ∷ []) (length (xs ++ x ∷ []) - 1) ≡ Some x
last_at [] x = refl
last_at (y ∷ xs) x =
    let n : length (y ∷ (xs ++ x ∷ [])) - 1 ≡ suc (length (xs ++ x ∷ []) - 1) = omega (arith, length-append xs (x ∷ [])) in
    ap (slice_get (y ∷ (xs ++ x ∷ []))) n ∙ last_at xs x

-- ---- so two such texts end alike

first_brace : is_brace_of rust_tables (seen_in One (Some open_sight)) ≡ true
unfolding rust_tables
first_brace = refl

pub end_alike : (e : Edition) (w q : List ℕ) (ts us : List Token) → IsBraced ts → IsBraced us → EndAlike rust_tables (sights_of e w ts) (sights_of e q us)
end_alike e w q ts us b d =
    let x : Begins (sights_of e w ts) = begins e w ts b.0 in
    let y : Begins (sights_of e q us) = begins e q us d.0 in
    let z : Ends (sights_of e w ts) = ends e w ts b.1 in
    let u : Ends (sights_of e q us) = ends e q us d.1 in
    let first : slice_get (sights_of e w ts) 0 ≡ Some open_sight = ap (λ (ss : List Sight). slice_get ss 0) x.is in
    record {
      some = omega (arith, ap length x.is);
      brace = ap (λ o. is_brace_of rust_tables (seen_in One o)) first ∙ first_brace;
      first = first ∙ sym (ap (λ (ss : List Sight). slice_get ss 0) y.is);
      last =
          ap (λ (ss : List Sight). slice_get ss (length ss - 1)) z.is ∙ last_at z.front close_sight
          ∙ sym (ap (λ (ss : List Sight). slice_get ss (length ss - 1)) u.is ∙ last_at u.front close_sight);
    }

some_same : (x y : Sight) → Some x ≡ Some y → x ≡ y
some_same x y e = cc

pub next_plain : (e : Edition) (text : List ℕ) (ts : List Token) (ss : List Sight) → Opens ts → NextIsPlain (sights_of e text ts ++ ss)
next_plain e text ts ss o s h =
    let x : Begins (sights_of e text ts) = begins e text ts o in
    let same : open_sight ≡ s = some_same open_sight s (sym (ap (λ (us : List Sight). slice_get (us ++ ss) 0) x.is) ∙ h) in
    sym (ap (λ (y : Sight). y.word) same)
