-- Characters, lifetimes and strings at a brace.
use Rattle.std.proofs.Common.{◌≡◌, ◌⊎◌, inl, inr, ℕ, suc, ◌+◌, ◌<◌, ◌≤◌, ◌^◌, Bool, true, false, not, ◌==◌, ◌&&◌, ◌||◌, if◌then◌else◌, List, [], ◌∷◌, ◌++◌, length, drop, ap, ap₂, sym, ◌∙◌, refl, arith, subst}
use Rattle.std.proofs.lemmas.List.{length-drop}
use Rattle.syntax_kind.specs.declared.syntax_kind.SyntaxKind.TheVariants.{Token}
use Rattle.syntax_kind.specs.declared.syntax_kind.token_kind.TokenKind.TheVariants as token
use Rattle.literal_escape.specs.declared.mode.Mode.{Mode}
use Rattle.literal_escape.specs.declared.mode.Mode.TheVariants as modes
use Rattle.rust_lexer.specs.declared.problem.Problem.TheVariants as problems
use Rattle.rust_lexer.specs.declared.scan.Scan.{Scan}
use Rattle.rust_lexer.specs.declared.scan.Scan.TheVariants.{Text, Quote, QuoteLine, Closed}
use Rattle.rust_lexer.specs.declared.shape.Shape.{Shape}
use Rattle.rust_lexer.specs.declared.shape.Check.TheVariants.{Content}
use Rattle.rust_lexer.specs.Classes.{begins_of, begins_digit_of, after_char_of}
use Rattle.rust_lexer.specs.Names.{begins_name_of, skip_name_of, skip_suffix_of}
use Rattle.rust_lexer.specs.Quotes.{kind_of, opening_of, one_more, closed_of, open_of, string_on, string_of, is_mark_of, character_on, character_of, lifetime_of, is_raw_lifetime_of, may_be_lifetime_of, character_or_lifetime_of}
use Rattle.rust_lexer.specs.Scans.{run_of}
use Rattle.rust_lexer.specs.Shapes.{plain_of, with_of}
use Rattle.lexer_laws.specs.Behind.{IsBrace, before}
use Rattle.lexer_laws.proofs.Tests.{at_brace, begins_same, not_same, and_same, or_same, and_fails, tail_same, longer}
use Rattle.lexer_laws.proofs.Decoding.{after_char_same}
use Rattle.lexer_laws.proofs.Skipping.{digit_same, begins_name_same, skip_name_same, skip_suffix_same, suffix_shorter}
use Rattle.lexer_laws.proofs.Scanning.{ScanStays, ScanPasses, scan_ends, run_shorter, run_lighter, line, weight, next_no_line}
use Rattle.lexer_laws.proofs.Ending.{Ends, ended, covered, choose, plain_ends, with_ends}

begins : (n b : ℕ) → IsBrace b → (123 == n) ≡ false → (125 == n) ≡ false → (q y : List ℕ) → begins_of n (q ++ b ∷ y) ≡ begins_of n q
begins n b h f g q y = begins_same n b (not_same n b h f g) q y

-- ---- literals that are closed

one_more_later : (n k : ℕ) → n + k < 2 ^ 33 → one_more (n + k) ≡ one_more n + k
one_more_later n k h = omega (arith, h)

closed_later : (m : Mode) (r y : List ℕ) (b : ℕ) → IsBrace b → length r + length y < 2 ^ 32 → closed_of m (r ++ b ∷ y) ≡ before (suc (length y)) (closed_of m r)
closed_later m r y b h l =
    let F : ℕ → ℕ → Shape = λ n k. record { kind = kind_of m; left = n; check = Content m (opening_of m) k } in
    let left : length (skip_suffix_of (r ++ b ∷ y)) ≡ length (skip_suffix_of r) + suc (length y) = ap length (skip_suffix_same b h r y) ∙ longer (skip_suffix_of r) y b in
    let more : one_more (length (r ++ b ∷ y)) ≡ one_more (length r) + suc (length y) =
    ap one_more (longer r y b) ∙ one_more_later (length r) (suc (length y)) (omega (arith, l)) in
    ap₂ F left more

fits : (n m k : ℕ) → n ≤ m → m + k < 2 ^ 32 → n + k < 2 ^ 32
fits n m k h l = omega (arith, h, l)

-- ---- strings

string_later : (m : Mode) (p : Scan) (r y : List ℕ) (b : ℕ) → IsBrace b → length r + length y < 2 ^ 32
    → string_on m p (r ++ b ∷ y) ≡ before (suc (length y)) (string_on m p r)
string_later m Closed r y b h l = closed_later m r y b h l
string_later m _ r y b h l = ap (open_of m) (longer r y b)

string_left : (m : Mode) (p : Scan) (r : List ℕ) → (string_on m p r).left ≤ length r
string_left m Closed r = suffix_shorter r
string_left m _ r = omega arith

string_scanned : (m : Mode) (b : ℕ) (text q : List ℕ) → IsBrace b → length q ≤ length text → ScanStays Text b q ⊎ ScanPasses Text b q → Ends (string_of m) b text q
string_scanned m b text q h n (inl k) =
    ended (string_of m) b text q (λ y l.
    ap (λ (t : Scan × List ℕ). string_on m t.0 t.1) (k.stays y)
    ∙ string_later m (run_of Text q).0 (run_of Text q).1 y b h
    (fits (length (run_of Text q).1) (length text) (length y) (omega (arith, n, run_shorter q Text)) l))
string_scanned m b text q h n (inr k) =
    covered (string_of m) b text q (λ y.
    subst (λ (t : Scan × List ℕ). (string_on m t.0 t.1).left ≤ length y) (sym (k.passes y))
    (omega (arith, string_left m (run_of k.next y).0 (run_of k.next y).1, run_shorter y k.next)))

pub string_ends : (m : Mode) (b : ℕ) (text q : List ℕ) → IsBrace b → length q ≤ length text → Ends (string_of m) b text q
string_ends m b text q h n = string_scanned m b text q h n (scan_ends Text b q)

-- ---- characters

mark_same : (b : ℕ) → IsBrace b → (q y : List ℕ) → is_mark_of (q ++ b ∷ y) ≡ is_mark_of q
mark_same b h [] y = and_fails ((b == 39) || (b == 47)) (begins_of 39 y) (at_brace (λ (x : ℕ). (x == 39) || (x == 47)) b h refl refl)
mark_same b h (x ∷ q) y = and_same _ _ _ _ refl (begins 39 b h refl refl q y)

right_fails : (p : Bool) → (p && false) ≡ true → false ≡ true
right_fails true h = h
right_fails false h = h

mark_tail : (b : ℕ) (q y : List ℕ) → is_mark_of q ≡ true → drop 2 (q ++ b ∷ y) ≡ drop 2 q ++ b ∷ y
mark_tail b [] y h = absurd (cc)
mark_tail b (x ∷ []) y h = absurd (let bad : false ≡ true = right_fails ((x == 39) || (x == 47)) h in cc)
mark_tail b (x ∷ z ∷ q) y h = refl

character_later : (m : Mode) (p : Scan) (r y : List ℕ) (b : ℕ) → IsBrace b → length r + length y < 2 ^ 32
    → character_on m p (r ++ b ∷ y) ≡ before (suc (length y)) (character_on m p r)
character_later m Closed r y b h l = closed_later m r y b h l
character_later m QuoteLine r y b h l =
    ap (open_of m) (ap one_more (longer r y b) ∙ one_more_later (length r) (suc (length y)) (omega (arith, l)))
character_later m _ r y b h l = ap (open_of m) (longer r y b)

at_most_one : (n : ℕ) → one_more n ≤ suc n
at_most_one n = omega arith

character_left : (m : Mode) (p : Scan) (r : List ℕ) → (character_on m p r).left ≤ weight (line p) r
unfolding line weight
character_left m Closed r = suffix_shorter r
character_left m QuoteLine r = at_most_one (length r)
character_left m _ r = omega arith

light : (p : Bool) (y : List ℕ) → p ≡ false → weight p y ≡ length y
unfolding weight
light true y h = absurd (cc)
light false y h = refl

character_scanned : (m : Mode) (b : ℕ) (text q : List ℕ) → IsBrace b → length q ≤ length text → ScanStays Quote b q ⊎ ScanPasses Quote b q
    → Ends (λ s. character_on m (run_of Quote s).0 (run_of Quote s).1) b text q
character_scanned m b text q h n (inl k) =
    ended (λ s. character_on m (run_of Quote s).0 (run_of Quote s).1) b text q (λ y l.
    ap (λ (t : Scan × List ℕ). character_on m t.0 t.1) (k.stays y)
    ∙ character_later m (run_of Quote q).0 (run_of Quote q).1 y b h
    (fits (length (run_of Quote q).1) (length text) (length y) (omega (arith, n, run_shorter q Quote)) l))
character_scanned m b text q h n (inr k) =
    covered (λ s. character_on m (run_of Quote s).0 (run_of Quote s).1) b text q (λ y.
    subst (λ (t : Scan × List ℕ). (character_on m t.0 t.1).left ≤ length y) (sym (k.passes y))
    (omega (
      arith,
      character_left m (run_of k.next y).0 (run_of k.next y).1,
      run_lighter y k.next,
      light (line k.next) y (next_no_line (run_of Quote q).0 k.next b h k.is_next),
    )))

pub character_ends : (m : Mode) (b : ℕ) (text q : List ℕ) → IsBrace b → length q ≤ length text → Ends (character_of m) b text q
character_ends m b text q h n =
    choose is_mark_of (λ s. closed_of m (drop 2 s)) (λ s. character_on m (run_of Quote s).0 (run_of Quote s).1) b text q (λ y. mark_same b h q y)
    (λ e. ended (λ s. closed_of m (drop 2 s)) b text q (λ y l.
    ap (closed_of m) (mark_tail b q y e)
    ∙ closed_later m (drop 2 q) y b h (fits (length (drop 2 q)) (length text) (length y) (omega (arith, n, length-drop 2 q)) l)))
    (λ e. character_scanned m b text q h n (scan_ends Quote b q))

-- ---- lifetimes

middle_fails : (p r t r' t' : Bool) → r ≡ false → r' ≡ false → (p && r && t) ≡ (p && r' && t')
middle_fails true r t r' t' h k = and_fails r t h ∙ sym (and_fails r' t' k)
middle_fails false r t r' t' h k = refl

raw_lifetime_same : (b : ℕ) → IsBrace b → (q y : List ℕ) → is_raw_lifetime_of (q ++ b ∷ y) ≡ is_raw_lifetime_of q
raw_lifetime_same b h [] y =
    ap (λ (p : Bool). p && begins_of 35 y && begins_name_of (drop 1 y)) (not_same 114 b h refl refl)
raw_lifetime_same b h (x ∷ []) y =
    middle_fails (x == 114) (b == 35) (begins_name_of y) false (begins_name_of []) (not_same 35 b h refl refl) refl
raw_lifetime_same b h (x ∷ z ∷ q) y = ap (λ (p : Bool). (x == 114) && (z == 35) && p) (begins_name_same b h q y)

not_lifetime : (b : ℕ) → IsBrace b → (y : List ℕ) → may_be_lifetime_of (b ∷ y) ≡ false
not_lifetime b h y =
    and_fails (begins_digit_of (b ∷ y) || begins_name_of (b ∷ y)) (not (begins_of 39 (after_char_of (b ∷ y))))
    (or_same (begins_digit_of (b ∷ y)) false (begins_name_of (b ∷ y)) false (digit_same b h [] y) (begins_name_same b h [] y))

may_be_same : (b : ℕ) → IsBrace b → (q y : List ℕ) → may_be_lifetime_of (q ++ b ∷ y) ≡ may_be_lifetime_of q
may_be_same b h [] y = not_lifetime b h y
may_be_same b h (x ∷ q) y =
    and_same _ _ _ _ (or_same _ _ _ _ (digit_same b h (x ∷ q) y) (begins_name_same b h (x ∷ q) y))
    (ap not (ap (begins_of 39) (after_char_same b h x q y) ∙ begins 39 b h refl refl (after_char_of (x ∷ q)) y))

lifetime_ends : (b : ℕ) (text q : List ℕ) → IsBrace b → Ends lifetime_of b text q
lifetime_ends b text q h =
    choose (λ s. begins_of 39 (skip_name_of s))
    (λ s. record { kind = Token token.CHAR; left = length (drop 1 (skip_name_of s)); check = Content modes.Char 1 (length (skip_name_of s)) })
    (λ s. if begins_digit_of s then with_of (Token token.LIFETIME_IDENT) (length (skip_name_of s)) problems.NumberedLifetime
    else (if begins_of 35 (skip_name_of s) then with_of (Token token.LIFETIME_IDENT) (length (skip_name_of s)) problems.LifetimePrefix
    else plain_of (Token token.LIFETIME_IDENT) (length (skip_name_of s))))
    b text q
    (λ y. ap (begins_of 39) (skip_name_same b h q y) ∙ begins 39 b h refl refl (skip_name_of q) y)
    (λ e. ended _ b text q (λ y l.
    let r : List ℕ = skip_name_of q in
    let F : ℕ → ℕ → Shape = λ n k. record { kind = Token token.CHAR; left = n; check = Content modes.Char 1 k } in
    let behind : drop 1 (skip_name_of (q ++ b ∷ y)) ≡ drop 1 r ++ b ∷ y = ap (drop 1) (skip_name_same b h q y) ∙ tail_same (λ (x : ℕ). x == 39) b r y e in
    ap₂ F (ap length behind ∙ longer (drop 1 r) y b) (ap length (skip_name_same b h q y) ∙ longer r y b)))
    (λ e. choose begins_digit_of (λ s. with_of (Token token.LIFETIME_IDENT) (length (skip_name_of s)) problems.NumberedLifetime)
    (λ s. if begins_of 35 (skip_name_of s) then with_of (Token token.LIFETIME_IDENT) (length (skip_name_of s)) problems.LifetimePrefix
    else plain_of (Token token.LIFETIME_IDENT) (length (skip_name_of s)))
    b text q (λ y. digit_same b h q y)
    (λ k. with_ends (Token token.LIFETIME_IDENT) problems.NumberedLifetime skip_name_of b text q (λ y. skip_name_same b h q y))
    (λ k. choose (λ s. begins_of 35 (skip_name_of s)) (λ s. with_of (Token token.LIFETIME_IDENT) (length (skip_name_of s)) problems.LifetimePrefix)
    (λ s. plain_of (Token token.LIFETIME_IDENT) (length (skip_name_of s))) b text q
    (λ y. ap (begins_of 35) (skip_name_same b h q y) ∙ begins 35 b h refl refl (skip_name_of q) y)
    (λ l. with_ends (Token token.LIFETIME_IDENT) problems.LifetimePrefix skip_name_of b text q (λ y. skip_name_same b h q y))
    (λ l. plain_ends (Token token.LIFETIME_IDENT) skip_name_of b text q (λ y. skip_name_same b h q y))))

no_middle : (p t : Bool) → (p && false && t) ≡ true → false ≡ true
no_middle true t h = h
no_middle false t h = h

raw_tail : (b : ℕ) (q y : List ℕ) → is_raw_lifetime_of q ≡ true → drop 2 (q ++ b ∷ y) ≡ drop 2 q ++ b ∷ y
raw_tail b [] y h = absurd (cc)
raw_tail b (x ∷ []) y h = absurd (let bad : false ≡ true = no_middle (x == 114) (begins_name_of []) h in cc)
raw_tail b (x ∷ z ∷ q) y h = refl

pub character_or_lifetime_ends : (b : ℕ) (text q : List ℕ) → IsBrace b → length q ≤ length text → Ends character_or_lifetime_of b text q
character_or_lifetime_ends b text q h n =
    choose (λ s. not (may_be_lifetime_of s)) (character_of modes.Char)
    (λ s. if is_raw_lifetime_of s then plain_of (Token token.LIFETIME_IDENT) (length (skip_name_of (drop 2 s))) else lifetime_of s) b text q
    (λ y. ap not (may_be_same b h q y))
    (λ e. character_ends modes.Char b text q h n)
    (λ e. choose is_raw_lifetime_of (λ s. plain_of (Token token.LIFETIME_IDENT) (length (skip_name_of (drop 2 s)))) lifetime_of b text q
    (λ y. raw_lifetime_same b h q y)
    (λ k. plain_ends (Token token.LIFETIME_IDENT) (λ s. skip_name_of (drop 2 s)) b text q
    (λ y. ap skip_name_of (raw_tail b q y k) ∙ skip_name_same b h (drop 2 q) y))
    (λ k. lifetime_ends b text q h))
