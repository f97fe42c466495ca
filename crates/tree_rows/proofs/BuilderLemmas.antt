-- What a builder's steps say when some are added.
use Rattle.std.proofs.Common.{◌≡◌, ℕ, ◌≤◌, List, ◌∷◌, ◌++◌, length, take, drop, refl, sym, ap, subst, ◌∙◌, arith, append-nil, []}
use Rattle.std.specs.Prelude.{IsUtf8}
use Rattle.std.proofs.lemmas.List.{take-append-le, drop-append-le}
use Rattle.std.proofs.Math.Seq.{drop-length, take-length}
use Rattle.std.proofs.Common.{length-append}
use Rattle.syntax_kind.specs.declared.syntax_kind.SyntaxKind.{SyntaxKind}
use Rattle.tree_rows.specs.declared.builder_event.BuilderEvent.{BuilderEvent}
use Rattle.tree_rows.specs.declared.builder_event.BuilderEvent.TheVariants.{Enter, Token, Exit}
use Rattle.tree_model.specs.Events.{enter, leaf, exit}
use Rattle.tree_rows.specs.Builder.{events_from, TextsFit}

pub TextsFit-append : (es more : List BuilderEvent) (s t : List ℕ) → TextsFit es s → TextsFit more t → TextsFit (es ++ more) (s ++ t)
TextsFit-append [] more s t h k = subst (λ x. TextsFit more (x ++ t)) (sym h) k
TextsFit-append (Enter a ∷ es) more s t h k = TextsFit-append es more s t h k
TextsFit-append (Exit ∷ es) more s t h k = TextsFit-append es more s t h k
TextsFit-append (Token a n ∷ es) more s t h k =
    let fits : n ≤ length s = h.0 in (
      omega (arith, fits, length-append s t),
      subst IsUtf8 (sym (take-append-le n s t fits)) h.1,
      subst (TextsFit (es ++ more)) (sym (drop-append-le n s t fits)) (TextsFit-append es more (drop n s) t h.2 k),
    )

pub events_from-append : (es more : List BuilderEvent) (s t : List ℕ) → TextsFit es s → events_from (es ++ more) (s ++ t) ≡ events_from es s ++ events_from more t
events_from-append [] more s t h = ap (λ x. events_from more (x ++ t)) h
events_from-append (Enter a ∷ es) more s t h = ap (λ l. enter a ∷ l) (events_from-append es more s t h)
events_from-append (Exit ∷ es) more s t h = ap (λ l. exit ∷ l) (events_from-append es more s t h)
events_from-append (Token a n ∷ es) more s t h =
    let fits : n ≤ length s = h.0 in
    rw (take-append-le n s t fits, drop-append-le n s t fits) (ap (λ l. leaf a (take n s) ∷ l) (events_from-append es more (drop n s) t h.2))

pub TextsFit-enter : (es : List BuilderEvent) (s : List ℕ) (k : SyntaxKind) → TextsFit es s → TextsFit (es ++ Enter k ∷ []) s
TextsFit-enter es s k h = subst (TextsFit (es ++ Enter k ∷ [])) (append-nil s) (TextsFit-append es (Enter k ∷ []) s [] h refl)

pub TextsFit-exit : (es : List BuilderEvent) (s : List ℕ) → TextsFit es s → TextsFit (es ++ Exit ∷ []) s
TextsFit-exit es s h = subst (TextsFit (es ++ Exit ∷ [])) (append-nil s) (TextsFit-append es (Exit ∷ []) s [] h refl)

pub TextsFit-token : (es : List BuilderEvent) (s t : List ℕ) (k : SyntaxKind) → TextsFit es s → IsUtf8 t → TextsFit (es ++ Token k (length t) ∷ []) (s ++ t)
TextsFit-token es s t k h u = TextsFit-append es (Token k (length t) ∷ []) s t h (omega arith, subst IsUtf8 (sym (take-length t)) u, drop-length t)

pub events_from-enter : (es : List BuilderEvent) (s : List ℕ) (k : SyntaxKind) → TextsFit es s → events_from (es ++ Enter k ∷ []) s ≡ events_from es s ++ enter k ∷ []
events_from-enter es s k h = ap (events_from (es ++ Enter k ∷ [])) (sym (append-nil s)) ∙ events_from-append es (Enter k ∷ []) s [] h

pub events_from-exit : (es : List BuilderEvent) (s : List ℕ) → TextsFit es s → events_from (es ++ Exit ∷ []) s ≡ events_from es s ++ exit ∷ []
events_from-exit es s h = ap (events_from (es ++ Exit ∷ [])) (sym (append-nil s)) ∙ events_from-append es (Exit ∷ []) s [] h

pub events_from-token : (es : List BuilderEvent) (s t : List ℕ) (k : SyntaxKind) → TextsFit es s → events_from (es ++ Token k (length t) ∷ []) (s ++ t) ≡ events_from es s ++ leaf k t ∷ []
events_from-token es s t k h = events_from-append es (Token k (length t) ∷ []) s t h ∙ ap (λ x. events_from es s ++ leaf k x ∷ []) (take-length t)

pub token_fits : (es es₁ es₂ : List BuilderEvent) (s s₂ t : List ℕ) (k : SyntaxKind) → es₁ ≡ es → es₂ ≡ es₁ ++ Token k (length t) ∷ [] → s₂ ≡ s ++ t → TextsFit es s → IsUtf8 t → TextsFit es₂ s₂
token_fits es es₁ es₂ s s₂ t k a b e h u = rw (b, a, e) (TextsFit-token es s t k h u)

pub token_events : (es es₁ es₂ : List BuilderEvent) (s s₂ t : List ℕ) (k : SyntaxKind) → es₁ ≡ es → es₂ ≡ es₁ ++ Token k (length t) ∷ [] → s₂ ≡ s ++ t → TextsFit es s → events_from es₂ s₂ ≡ events_from es s ++ leaf k t ∷ []
token_events es es₁ es₂ s s₂ t k a b e h = rw (b, a, e) (events_from-token es s t k h)
