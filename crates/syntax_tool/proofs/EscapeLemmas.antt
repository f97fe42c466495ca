-- What is meant by a text, piece by piece.
use Rattle.std.proofs.Common.{◌≡◌, ◌≢◌, ℕ, ◌<◌, List, [], ◌∷◌, ◌++◌, length, get_or, drop, ◌≤◌, refl, sym, ap, subst, ◌∙◌, arith, append_assoc, append-nil}
use Rattle.std.specs.Prelude.{Option, None, Some, option_map, ◌==◌, if◌then◌else◌, IsUtf8}
use Rattle.std.specs.Option.{option_and_then}
use Rattle.std.specs.Str.{IsCharBoundary}
use Rattle.std.proofs.lemmas.Str.{IsCharBoundary-after_ascii}
use Rattle.std.proofs.lemmas.Bool.Decides.{nat_tests}
use Rattle.syntax_tool.specs.Escapes.{escape_of, unescaped}
use Rattle.syntax_tool.specs.Lines.{HasNo}

if_same : {A : Type 0} (n m : ℕ) (x y : A) → n ≡ m → (if n == m then x else y) ≡ x
if_same n m x y h = grind (arith, nat_tests)

if_other : {A : Type 0} (n m : ℕ) (x y : A) → n ≢ m → (if n == m then x else y) ≡ y
if_other n m x y h = grind (arith, nat_tests)

map_map : (f g : List ℕ → List ℕ) (o : Option (List ℕ)) → option_map f (option_map g o) ≡ option_map (λ t. f (g t)) o
map_map f g None = refl
map_map f g (Some t) = refl

map_same : (f g : List ℕ → List ℕ) (o : Option (List ℕ)) → ((t : List ℕ) → f t ≡ g t) → option_map f o ≡ option_map g o
map_same f g None h = refl
map_same f g (Some t) h = ap Some (h t)

unescaped-plain_byte : (b : ℕ) (bs : List ℕ) → b ≢ 92 → unescaped (b ∷ bs) ≡ option_map (λ t. b ∷ t) (unescaped bs)
unescaped-plain_byte b [] h = if_other b 92 None (Some (b ∷ [])) h
unescaped-plain_byte b (c ∷ bs) h = if_other b 92 (option_and_then (λ e. option_map (λ t. e ∷ t) (unescaped bs)) (escape_of c)) (option_map (λ t. b ∷ t) (unescaped (c ∷ bs))) h

-- bytes that are no backslash stand for themselves
pub unescaped-plain : (plain rest : List ℕ) → HasNo 92 plain → unescaped (plain ++ rest) ≡ option_map (λ t. plain ++ t) (unescaped rest)
unescaped-plain [] rest h = same (unescaped rest)
  where
    same : (o : Option (List ℕ)) → o ≡ option_map (λ t. t) o
    same None = refl
    same (Some t) = refl
unescaped-plain (b ∷ plain) rest h =
    unescaped-plain_byte b (plain ++ rest) h.0
    ∙ ap (option_map (λ t. b ∷ t)) (unescaped-plain plain rest h.1)
    ∙ map_map (λ t. b ∷ t) (λ t. plain ++ t) (unescaped rest)

-- the whole text, of which all is plain
pub unescaped-all_plain : (raw plain out whole : List ℕ) → HasNo 92 plain → whole ≡ out ++ plain → unescaped raw ≡ option_map (λ t. out ++ t) (unescaped plain) → unescaped raw ≡ Some whole
unescaped-all_plain raw plain out whole h is e =
    e ∙ ap (option_map (λ t. out ++ t)) (ap unescaped (sym (append-nil plain)) ∙ unescaped-plain plain [] h)
    ∙ ap (λ t. Some (out ++ t)) (append-nil plain) ∙ ap Some (sym is)

-- a backslash, and what follows it
unescaped-escape : (letter : ℕ) (rest : List ℕ) → unescaped (92 ∷ (letter ∷ rest)) ≡ option_and_then (λ e. option_map (λ t. e ∷ t) (unescaped rest)) (escape_of letter)
unescaped-escape letter rest = refl

pub unescaped-lone : (raw plain out : List ℕ) → HasNo 92 plain → unescaped raw ≡ option_map (λ t. out ++ t) (unescaped (plain ++ 92 ∷ [])) → unescaped raw ≡ None
unescaped-lone raw plain out h e = e ∙ ap (option_map (λ t. out ++ t)) (unescaped-plain plain (92 ∷ []) h)

pub unescaped-no_escape : (raw plain out after : List ℕ) (letter : ℕ) → HasNo 92 plain → after ≡ letter ∷ drop 1 after → escape_of letter ≡ None → unescaped raw ≡ option_map (λ t. out ++ t) (unescaped (plain ++ 92 ∷ after)) → unescaped raw ≡ None
unescaped-no_escape raw plain out after letter h is none e =
    let inner : unescaped (92 ∷ after) ≡ None = ap (λ l. unescaped (92 ∷ l)) is ∙ ap (option_and_then (λ x. option_map (λ t. x ∷ t) (unescaped (drop 1 after)))) none in
    e ∙ ap (option_map (λ t. out ++ t)) (unescaped-plain plain (92 ∷ after) h ∙ ap (option_map (λ t. plain ++ t)) inner)

pub unescaped-step : (raw plain out out' after rest : List ℕ) (letter c : ℕ) → HasNo 92 plain → after ≡ letter ∷ rest → escape_of letter ≡ Some c → out' ≡ (out ++ plain) ++ c ∷ []
    → unescaped raw ≡ option_map (λ t. out ++ t) (unescaped (plain ++ 92 ∷ after)) → unescaped raw ≡ option_map (λ t. out' ++ t) (unescaped rest)
unescaped-step raw plain out out' after rest letter c h is some added e =
    let inner : unescaped (92 ∷ after) ≡ option_map (λ t. c ∷ t) (unescaped rest) = ap (λ l. unescaped (92 ∷ l)) is ∙ ap (option_and_then (λ x. option_map (λ t. x ∷ t) (unescaped rest))) some in
    e ∙ ap (option_map (λ t. out ++ t)) (unescaped-plain plain (92 ∷ after) h ∙ ap (option_map (λ t. plain ++ t)) inner)
    ∙ ap (option_map (λ t. out ++ t)) (map_map (λ t. plain ++ t) (λ t. c ∷ t) (unescaped rest))
    ∙ map_map (λ t. out ++ t) (λ t. plain ++ (c ∷ t)) (unescaped rest)
    ∙ map_same (λ t. out ++ (plain ++ (c ∷ t))) (λ t. out' ++ t) (unescaped rest) (λ t. sym (ap (λ l. l ++ t) added ∙ simp append_assoc))

pub unescaped-start : (raw out : List ℕ) → out ≡ [] → unescaped raw ≡ option_map (λ t. out ++ t) (unescaped raw)
unescaped-start raw out empty = same (unescaped raw) ∙ map_same (λ t. t) (λ t. out ++ t) (unescaped raw) (λ t. ap (λ l. l ++ t) (sym empty))
  where
    same : (o : Option (List ℕ)) → o ≡ option_map (λ t. t) o
    same None = refl
    same (Some t) = refl

-- every letter of an escape is ASCII, and so is what it stands for
pub escape_of-ascii : (letter c : ℕ) → escape_of letter ≡ Some c → (letter < 128) × (c < 128)
escape_of-ascii letter c h = grind (arith, nat_tests)

pub head_of : (bs after : List ℕ) (letter : ℕ) → bs ≡ after → 0 < length bs → letter ≡ get_or bs 0 0 → after ≡ letter ∷ drop 1 after
head_of bs [] letter is some h = absurd (omega (arith, ap length is, some))
head_of bs (b ∷ after) letter is some h = ap (λ x. x ∷ after) (sym (h ∙ ap (λ l. get_or l 0 0) is))

-- after an ASCII letter a text may be cut
pub cut_behind : (bs after : List ℕ) (letter c : ℕ) → bs ≡ after → IsUtf8 bs → 0 < length bs → letter ≡ get_or bs 0 0 → escape_of letter ≡ Some c → IsCharBoundary after 1
cut_behind bs after letter c is u some h e =
    subst (λ l. IsCharBoundary l 1) is (IsCharBoundary-after_ascii bs 0 u some (omega (arith, (escape_of-ascii letter c e).0, h)))

pub nothing_behind : (bs after : List ℕ) → bs ≡ after → length bs ≤ 0 → after ≡ []
nothing_behind bs [] is h = refl
nothing_behind bs (b ∷ after) is h = absurd (omega (arith, ap length is, h))
