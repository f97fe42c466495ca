-- What a line can be read as.
use Rattle.std.proofs.Common.{◌≡◌, ◌≢◌, ℕ, ◌<◌, ◌⊎◌, inl, inr, List, [], ◌∷◌, ◌++◌, length, get_or, drop, refl, sym, ap, subst, ◌∙◌, arith}
use Rattle.std.specs.Prelude.{None, Some, Ok, Err, codes}
use Rattle.syntax_kind.specs.declared.syntax_kind.SyntaxKind.{SyntaxKind}
use Rattle.syntax_kind.specs.Kinds.{kind_name, IsKind}
use Rattle.tree_model.specs.Events.{Event, enter, leaf, exit}
use Rattle.syntax_tool.specs.declared.refusal.Refusal.{Refusal}
use Rattle.syntax_tool.specs.declared.refusal.Refusal.TheVariants.{BadLine, BadKind, Memory}
use Rattle.syntax_tool.specs.Escapes.{unescaped}
use Rattle.syntax_tool.specs.Lines.{HasNo, IsCut, IsWord, Form, enters, has_token, exits, IsForm, IsTokenLine, StandsFor, ReadsLine, RefusesLine}
use Rattle.syntax_tool.proofs.Cuts.{has_no_before, cut_once, cut_at_first, cut_nowhere}

heads : {xs ys : List ℕ} → xs ≡ ys → get_or xs 0 0 ≡ get_or ys 0 0
heads e = ap (λ l. get_or l 0 0) e

-- after `drop n` of two texts
tails : (n : ℕ) {xs ys : List ℕ} → xs ≡ ys → drop n xs ≡ drop n ys
tails n e = ap (drop n) e

-- ---- `enter KIND`

-- a line that begins `enter ` has no other form
pub enter_form : (name : List ℕ) (f : Form) → IsForm (codes "enter " ++ name) f → (f ≡ enters name) × IsWord name
enter_form name (enters kind) h =
    let same : name ≡ kind = tails 6 h.0 in
    (ap enters (sym same), subst IsWord (sym same) h.1)
enter_form name (has_token kind t) (inl whole, word) = absurd (omega (arith, heads whole.0))
enter_form name (has_token kind t) (inr parts, word) = absurd (omega (arith, heads parts.1))
enter_form name exits h = absurd (omega (arith, ap (λ l. get_or l 1 0) h))

pub not_entered : (name : List ℕ) → (IsWord name → ⊥) → ReadsLine (codes "enter " ++ name) (Err BadLine)
not_entered name h = inl (refl, λ f form. h (enter_form name f form).1)

pub entered : (name : List ℕ) (k : SyntaxKind) → IsWord name → IsKind k → kind_name k ≡ name → ReadsLine (codes "enter " ++ name) (Ok (enter k))
entered name k word kind named = (enters name, (refl, word), (kind, named))

pub kind_not_entered : (name : List ℕ) → IsWord name → ((k : SyntaxKind) → IsKind k → kind_name k ≡ name → ⊥) → ReadsLine (codes "enter " ++ name) (Err BadKind)
kind_not_entered name word unknown = inr (refl, (enters name, (refl, word), none))
  where
    none : (e : Event) → StandsFor (enters name) e → ⊥
    none (enter k) h = unknown k h.0 h.1
    none (leaf k t) h = h
    none exit h = h

-- ---- `token KIND TEXT`

-- a line that begins `token ` has a form only by the word before the next space, and by what is
-- meant by the text after it
pub token_form : (rest name raw : List ℕ) (f : Form) → IsCut 32 rest name raw → IsForm (codes "token " ++ rest) f → (t : List ℕ) × (f ≡ has_token name t) × (unescaped raw ≡ Some t) × IsWord name
token_form rest name raw (enters kind) cut h = absurd (omega (arith, heads h.0))
token_form rest name raw (has_token kind t) cut (inl whole, word) =
    let same : rest ≡ kind = tails 6 whole.0 in
    let w = cut_nowhere 32 rest name raw cut (subst (HasNo 32) (sym same) word.no_space) in
    let named : kind ≡ name = sym same ∙ w.0 in
    (t, ap (λ x. has_token x t) named, ap unescaped w.1 ∙ ap Some (sym whole.1), subst IsWord named word)
token_form rest name raw (has_token kind t) cut (inr parts, word) =
    let same : rest ≡ kind ++ 32 ∷ parts.0 = tails 6 parts.1 in
    let w = cut_at_first 32 rest name raw kind parts.0 cut word.no_space same in
    (t, ap (λ x. has_token x t) w.0, ap unescaped (sym w.1) ∙ parts.2, subst IsWord w.0 word)
token_form rest name raw exits cut h = absurd (omega (arith, heads h))

pub has_form : (rest name raw t : List ℕ) → IsCut 32 rest name raw → unescaped raw ≡ Some t → IsTokenLine (codes "token " ++ rest) name t
has_form rest name raw t (lacks, inl is) meant = inr (raw, ap (λ l. codes "token " ++ l) is, meant)
has_form rest name raw t (lacks, inr whole) meant =
    let empty : Some [] ≡ Some t = sym (ap unescaped whole.1) ∙ meant in
    inl (ap (λ l. codes "token " ++ l) whole.0, (let same : [] ≡ t = cc in sym same))

word_of_cut : (rest name raw : List ℕ) → IsCut 32 rest name raw → 0 < length name → IsWord name
word_of_cut rest name raw cut some = record { some = some; no_space = cut.0 }

pub not_a_token : (rest name raw : List ℕ) → IsCut 32 rest name raw → length name ≡ 0 → ReadsLine (codes "token " ++ rest) (Err BadLine)
not_a_token rest name raw cut empty = inl (refl, λ f form. absurd (omega (arith, (token_form rest name raw f cut form).3.some, empty)))

pub not_an_escape : (rest name raw : List ℕ) → IsCut 32 rest name raw → unescaped raw ≡ None → ReadsLine (codes "token " ++ rest) (Err BadLine)
not_an_escape rest name raw cut none = inl (refl, λ f form. let w = token_form rest name raw f cut form in (let no_such : None ≡ Some w.0 = sym none ∙ w.2 in cc))

pub token_read : (rest name raw t : List ℕ) (k : SyntaxKind) → IsCut 32 rest name raw → 0 < length name → unescaped raw ≡ Some t → IsKind k → kind_name k ≡ name → ReadsLine (codes "token " ++ rest) (Ok (leaf k t))
token_read rest name raw t k cut some meant kind named = (has_token name t, (has_form rest name raw t cut meant, word_of_cut rest name raw cut some), (kind, named, refl))

pub kind_not_read : (rest name raw t : List ℕ) → IsCut 32 rest name raw → 0 < length name → unescaped raw ≡ Some t → ((k : SyntaxKind) → IsKind k → kind_name k ≡ name → ⊥) → ReadsLine (codes "token " ++ rest) (Err BadKind)
kind_not_read rest name raw t cut some meant unknown = inr (refl, (has_token name t, (has_form rest name raw t cut meant, word_of_cut rest name raw cut some), none))
  where
    none : (e : Event) → StandsFor (has_token name t) e → ⊥
    none (enter k) h = h
    none (leaf k u) h = unknown k h.0 h.1
    none exit h = h

-- ---- other lines

has_space : (xs ys : List ℕ) → HasNo 32 (xs ++ 32 ∷ ys) → ⊥
has_space xs ys h = has_no_before 32 xs ys h

pub not_exit : (line : List ℕ) → HasNo 32 line → line ≢ codes "exit" → ReadsLine line (Err BadLine)
not_exit line lacks other = inl (refl, none)
  where
    none : (f : Form) → IsForm line f → ⊥
    none (enters kind) h = has_space (codes "enter") kind (subst (HasNo 32) h.0 lacks)
    none (has_token kind t) (inl whole, word) = has_space (codes "token") kind (subst (HasNo 32) whole.0 lacks)
    none (has_token kind t) (inr parts, word) = has_space (codes "token") (kind ++ 32 ∷ parts.0) (subst (HasNo 32) parts.1 lacks)
    none exits h = other h

-- the first word is neither `enter` nor `token`
pub other_word : (line word rest : List ℕ) → line ≡ word ++ 32 ∷ rest → HasNo 32 word → word ≢ codes "enter" → word ≢ codes "token" → ReadsLine line (Err BadLine)
other_word line word rest is lacks not_enter not_token = inl (refl, none)
  where
    lacks_enter : HasNo 32 (codes "enter")
    lacks_enter = (λ e. absurd (omega (arith, e)), (λ e. absurd (omega (arith, e)), (λ e. absurd (omega (arith, e)), (λ e. absurd (omega (arith, e)), (λ e. absurd (omega (arith, e)), tt)))))

    lacks_token : HasNo 32 (codes "token")
    lacks_token = (λ e. absurd (omega (arith, e)), (λ e. absurd (omega (arith, e)), (λ e. absurd (omega (arith, e)), (λ e. absurd (omega (arith, e)), (λ e. absurd (omega (arith, e)), tt)))))

    lacks_exit : HasNo 32 (codes "exit")
    lacks_exit = (λ e. absurd (omega (arith, e)), (λ e. absurd (omega (arith, e)), (λ e. absurd (omega (arith, e)), (λ e. absurd (omega (arith, e)), tt))))

    none : (f : Form) → IsForm line f → ⊥
    none (enters kind) h = not_enter (cut_once 32 word rest (codes "enter") kind lacks lacks_enter (sym is ∙ h.0)).0
    none (has_token kind t) (inl whole, w) = not_token (cut_once 32 word rest (codes "token") kind lacks lacks_token (sym is ∙ whole.0)).0
    none (has_token kind t) (inr parts, w) = not_token (cut_once 32 word rest (codes "token") (kind ++ 32 ∷ parts.0) lacks lacks_token (sym is ∙ parts.1)).0
    none exits h = has_no_before 32 word rest (subst (HasNo 32) (sym h ∙ is) lacks_exit)

-- what refuses the text of a token refuses its line
pub token_refused : (rest name raw : List ℕ) (r : Refusal) → IsCut 32 rest name raw → (r ≡ Memory) ⊎ ((r ≡ BadLine) × (unescaped raw ≡ None)) → RefusesLine (codes "token " ++ rest) r
token_refused rest name raw r cut (inl memory) = inl memory
token_refused rest name raw r cut (inr bad) = inr (subst (λ x. ReadsLine (codes "token " ++ rest) (Err x)) (sym bad.0) (not_an_escape rest name raw cut bad.1))
