-- Raw strings, comments and names at a brace.
use Rattle.std.proofs.Common.{◌≡◌, ◌⊎◌, inl, inr, ℕ, suc, ◌+◌, ◌-◌, ◌≤◌, Bool, true, false, not, ◌==◌, ◌&&◌, nat_lt, if◌then◌else◌, List, [], ◌∷◌, ◌++◌, length, drop, ap, ap₂, sym, ◌∙◌, refl, arith, subst}
use Rattle.std.proofs.lemmas.List.{length-drop}
use Rattle.syntax_kind.specs.declared.syntax_kind.SyntaxKind.{SyntaxKind}
use Rattle.syntax_kind.specs.declared.syntax_kind.SyntaxKind.TheVariants.{Token}
use Rattle.syntax_kind.specs.declared.syntax_kind.token_kind.TokenKind.TheVariants as token
use Rattle.rust_lexer.specs.declared.class.Class.TheVariants as classes
use Rattle.rust_lexer.specs.declared.scan.Scan.{Scan}
use Rattle.rust_lexer.specs.declared.scan.Scan.TheVariants.{Comment, Raw, Closed}
use Rattle.rust_lexer.specs.Classes.{begins_of, after_char_of, is_in_of, skip_of}
use Rattle.rust_lexer.specs.Comments.{line_kind_of, block_kind_of, line_comment_of, block_on, block_comment_of}
use Rattle.rust_lexer.specs.Names.{skip_suffix_of}
use Rattle.rust_lexer.specs.RawStrings.{invalid_of, body_on, body_of, raw_string_of}
use Rattle.rust_lexer.specs.Scans.{run_of}
use Rattle.rust_lexer.specs.Shapes.{plain_of}
use Rattle.rust_lexer.specs.Signs.{sign_kind_of}
use Rattle.rust_lexer.specs.Tokens.{sign_of, slash_of}
use Rattle.lexer_laws.specs.Behind.{IsBrace, before}
use Rattle.lexer_laws.proofs.Tests.{at_brace, begins_same, not_same, and_same, and_fails, skip_same, tail_same, longer}
use Rattle.lexer_laws.proofs.Decoding.{brace_decoded, after_char_same}
use Rattle.lexer_laws.proofs.Skipping.{skip_suffix_same, skip_shorter, suffix_shorter}
use Rattle.lexer_laws.proofs.Scanning.{ScanStays, ScanPasses, scan_ends, run_shorter}
use Rattle.lexer_laws.proofs.Ending.{Ends, ended, covered, choose, plain_ends, skipped_ends, like}

begins : (n b : ℕ) → IsBrace b → (123 == n) ≡ false → (125 == n) ≡ false → (q y : List ℕ) → begins_of n (q ++ b ∷ y) ≡ begins_of n q
begins n b h f g q y = begins_same n b (not_same n b h f g) q y

-- ---- raw strings

few_on : (p : Bool) (k : SyntaxKind) (r y : List ℕ) (b : ℕ) → IsBrace b
    → (if p then plain_of k (length (skip_suffix_of (r ++ b ∷ y))) else invalid_of k (length (r ++ b ∷ y)))
    ≡ before (suc (length y)) (if p then plain_of k (length (skip_suffix_of r)) else invalid_of k (length r))
few_on true k r y b h = ap (plain_of k) (ap length (skip_suffix_same b h r y) ∙ longer (skip_suffix_of r) y b)
few_on false k r y b h = ap (invalid_of k) (longer r y b)

body_later : (k : SyntaxKind) (n : ℕ) (p : Scan) (r y : List ℕ) (b : ℕ) → IsBrace b → body_on k n p (r ++ b ∷ y) ≡ before (suc (length y)) (body_on k n p r)
body_later k n Closed r y b h = few_on (nat_lt n 256) k r y b h
body_later k n _ r y b h = ap (invalid_of k) (longer r y b)

few_left : (p : Bool) (k : SyntaxKind) (r : List ℕ) → (if p then plain_of k (length (skip_suffix_of r)) else invalid_of k (length r)).left ≤ length r
few_left true k r = suffix_shorter r
few_left false k r = omega arith

body_left : (k : SyntaxKind) (n : ℕ) (p : Scan) (r : List ℕ) → (body_on k n p r).left ≤ length r
body_left k n Closed r = few_left (nat_lt n 256) k r
body_left k n _ r = omega arith

body_scanned : (k : SyntaxKind) (n b : ℕ) (text q : List ℕ) → IsBrace b → ScanStays (Raw n) b q ⊎ ScanPasses (Raw n) b q → Ends (body_of k n) b text q
body_scanned k n b text q h (inl w) =
    ended (body_of k n) b text q (λ y l.
    ap (λ (t : Scan × List ℕ). body_on k n t.0 t.1) (w.stays y) ∙ body_later k n (run_of (Raw n) q).0 (run_of (Raw n) q).1 y b h)
body_scanned k n b text q h (inr w) =
    covered (body_of k n) b text q (λ y.
    subst (λ (t : Scan × List ℕ). (body_on k n t.0 t.1).left ≤ length y) (sym (w.passes y))
    (omega (arith, body_left k n (run_of w.next y).0 (run_of w.next y).1, run_shorter y w.next)))

hashes_same : (b : ℕ) → IsBrace b → (q y : List ℕ) → skip_of classes.Hash (q ++ b ∷ y) ≡ skip_of classes.Hash q ++ b ∷ y
hashes_same b h q y = skip_same classes.Hash b (at_brace (is_in_of classes.Hash) b h refl refl) q y

count_same : (b : ℕ) → IsBrace b → (q y : List ℕ)
    → length (q ++ b ∷ y) - length (skip_of classes.Hash (q ++ b ∷ y)) ≡ length q - length (skip_of classes.Hash q)
count_same b h q y = omega (arith, longer q y b, ap length (hashes_same b h q y), longer (skip_of classes.Hash q) y b)

invalid_ends : (k : SyntaxKind) (b : ℕ) (text o : List ℕ) → IsBrace b → Ends (λ s. invalid_of k (length (after_char_of s))) b text o
invalid_ends k b text [] h =
    covered (λ s. invalid_of k (length (after_char_of s))) b text [] (λ y.
    let rest : length (after_char_of (b ∷ y)) ≡ length y =
    length-drop _ (b ∷ y) ∙ ap (λ r. length (b ∷ y) - r.size) (brace_decoded b h y) ∙ (omega arith) in
    omega (arith, rest))
invalid_ends k b text (x ∷ o) h =
    ended (λ s. invalid_of k (length (after_char_of s))) b text (x ∷ o) (λ y l.
    ap (invalid_of k) (ap length (after_char_same b h x o y) ∙ longer (after_char_of (x ∷ o)) y b))

opened_ends : (k : SyntaxKind) (n b : ℕ) (text o : List ℕ) → IsBrace b
    → Ends (λ s. if begins_of 34 s then body_of k n (drop 1 s) else invalid_of k (length (after_char_of s))) b text o
opened_ends k n b text o h =
    choose (begins_of 34) (λ s. body_of k n (drop 1 s)) (λ s. invalid_of k (length (after_char_of s))) b text o (λ y. begins 34 b h refl refl o y)
    (λ e. skipped_ends (body_of k n) (drop 1) b text o (λ y. tail_same (λ (x : ℕ). x == 34) b o y e) (body_scanned k n b text (drop 1 o) h (scan_ends (Raw n) b (drop 1 o))))
    (λ e. invalid_ends k b text o h)

pub raw_string_ends : (k : SyntaxKind) (b : ℕ) (text q : List ℕ) → IsBrace b → Ends (raw_string_of k) b text q
raw_string_ends k b text q h =
    let n : ℕ = length q - length (skip_of classes.Hash q) in
    like (raw_string_of k)
    (λ s. if begins_of 34 (skip_of classes.Hash s) then body_of k n (drop 1 (skip_of classes.Hash s)) else invalid_of k (length (after_char_of (skip_of classes.Hash s))))
    b text q
    (λ y. ap (λ (m : ℕ). if begins_of 34 (skip_of classes.Hash (q ++ b ∷ y)) then body_of k m (drop 1 (skip_of classes.Hash (q ++ b ∷ y)))
    else invalid_of k (length (after_char_of (skip_of classes.Hash (q ++ b ∷ y))))) (count_same b h q y))
    refl
    (skipped_ends (λ s. if begins_of 34 s then body_of k n (drop 1 s) else invalid_of k (length (after_char_of s))) (skip_of classes.Hash) b text q
    (λ y. hashes_same b h q y) (opened_ends k n b text (skip_of classes.Hash q) h))

-- ---- comments

-- the rest of the line ends before what follows the text, or goes over its first byte
line_on : (p : Bool) (x : ℕ) (b : ℕ) (q : List ℕ) → is_in_of classes.InLine x ≡ p
    → ((y : List ℕ) → skip_of classes.InLine (q ++ b ∷ y) ≡ skip_of classes.InLine q ++ b ∷ y) ⊎ ((y : List ℕ) → skip_of classes.InLine (q ++ b ∷ y) ≡ skip_of classes.InLine y)
    → ((y : List ℕ) → skip_of classes.InLine (x ∷ (q ++ b ∷ y)) ≡ skip_of classes.InLine (x ∷ q) ++ b ∷ y)
    ⊎ ((y : List ℕ) → skip_of classes.InLine (x ∷ (q ++ b ∷ y)) ≡ skip_of classes.InLine y)
line_on true x b q h (inl k) =
    inl (λ y. ap (λ (r : Bool). if r then skip_of classes.InLine (q ++ b ∷ y) else x ∷ (q ++ b ∷ y)) h ∙ k y
    ∙ sym (ap (λ (r : Bool). (if r then skip_of classes.InLine q else x ∷ q) ++ b ∷ y) h))
line_on true x b q h (inr k) =
    inr (λ y. ap (λ (r : Bool). if r then skip_of classes.InLine (q ++ b ∷ y) else x ∷ (q ++ b ∷ y)) h ∙ k y)
line_on false x b q h k =
    inl (λ y. ap (λ (r : Bool). if r then skip_of classes.InLine (q ++ b ∷ y) else x ∷ (q ++ b ∷ y)) h
    ∙ sym (ap (λ (r : Bool). (if r then skip_of classes.InLine q else x ∷ q) ++ b ∷ y) h))

in_line : (b : ℕ) → IsBrace b → is_in_of classes.InLine b ≡ true
in_line b h = ap not (not_same 10 b h refl refl)

line_ends : (b : ℕ) → IsBrace b → (q : List ℕ)
    → ((y : List ℕ) → skip_of classes.InLine (q ++ b ∷ y) ≡ skip_of classes.InLine q ++ b ∷ y) ⊎ ((y : List ℕ) → skip_of classes.InLine (q ++ b ∷ y) ≡ skip_of classes.InLine y)
line_ends b h [] = inr (λ y. ap (λ (r : Bool). if r then skip_of classes.InLine y else b ∷ y) (in_line b h))
line_ends b h (x ∷ q) = line_on (is_in_of classes.InLine x) x b q refl (line_ends b h q)

outer_line : (b : ℕ) → IsBrace b → (q y : List ℕ)
    → (begins_of 47 (q ++ b ∷ y) && not (begins_of 47 (drop 1 (q ++ b ∷ y)))) ≡ (begins_of 47 q && not (begins_of 47 (drop 1 q)))
outer_line b h [] y = and_fails (b == 47) (not (begins_of 47 y)) (not_same 47 b h refl refl)
outer_line b h (x ∷ q) y = and_same _ _ _ _ refl (ap not (begins 47 b h refl refl q y))

line_kind_same : (b : ℕ) → IsBrace b → (q y : List ℕ) → line_kind_of (q ++ b ∷ y) ≡ line_kind_of q
line_kind_same b h q y =
    ap₂ (λ (p r : Bool). if p then Token token.INNER_DOC_COMMENT else (if r then Token token.OUTER_DOC_COMMENT else Token token.COMMENT))
    (begins 33 b h refl refl q y) (outer_line b h q y)

line_comment_on : (b : ℕ) (text q : List ℕ) → IsBrace b
    → ((y : List ℕ) → skip_of classes.InLine (q ++ b ∷ y) ≡ skip_of classes.InLine q ++ b ∷ y) ⊎ ((y : List ℕ) → skip_of classes.InLine (q ++ b ∷ y) ≡ skip_of classes.InLine y)
    → Ends line_comment_of b text q
line_comment_on b text q h (inl k) =
    ended line_comment_of b text q (λ y l. ap₂ plain_of (line_kind_same b h q y) (ap length (k y) ∙ longer (skip_of classes.InLine q) y b))
line_comment_on b text q h (inr k) =
    covered line_comment_of b text q (λ y. omega (arith, ap length (k y), skip_shorter classes.InLine y))

line_comment_ends : (b : ℕ) (text q : List ℕ) → IsBrace b → Ends line_comment_of b text q
line_comment_ends b text q h = line_comment_on b text q h (line_ends b h q)

outer_block : (b : ℕ) → IsBrace b → (q y : List ℕ)
    → (begins_of 42 (q ++ b ∷ y) && not (begins_of 42 (drop 1 (q ++ b ∷ y))) && not (begins_of 47 (drop 1 (q ++ b ∷ y))))
    ≡ (begins_of 42 q && not (begins_of 42 (drop 1 q)) && not (begins_of 47 (drop 1 q)))
outer_block b h [] y = ap (λ (p : Bool). p && not (begins_of 42 y) && not (begins_of 47 y)) (not_same 42 b h refl refl)
outer_block b h (x ∷ q) y =
    ap₂ (λ (p r : Bool). (x == 42) && not p && not r) (begins 42 b h refl refl q y) (begins 47 b h refl refl q y)

block_kind_same : (b : ℕ) → IsBrace b → (q y : List ℕ) → block_kind_of (q ++ b ∷ y) ≡ block_kind_of q
block_kind_same b h q y =
    ap₂ (λ (p r : Bool). if p then Token token.INNER_DOC_COMMENT else (if r then Token token.OUTER_DOC_COMMENT else Token token.COMMENT))
    (begins 33 b h refl refl q y) (outer_block b h q y)

block_later : (k : SyntaxKind) (p : Scan) (n m : ℕ) → block_on k p (n + m) ≡ before m (block_on k p n)
block_later k Closed n m = refl
block_later k _ n m = refl

block_left : (k : SyntaxKind) (p : Scan) (n : ℕ) → (block_on k p n).left ≡ n
block_left k Closed n = refl
block_left k _ n = refl

block_scanned : (b : ℕ) (text q : List ℕ) → IsBrace b → ScanStays (Comment 0) b q ⊎ ScanPasses (Comment 0) b q → Ends block_comment_of b text q
block_scanned b text q h (inl w) =
    ended block_comment_of b text q (λ y l.
    ap (λ (k : SyntaxKind). block_on k (run_of (Comment 0) (q ++ b ∷ y)).0 (length (run_of (Comment 0) (q ++ b ∷ y)).1)) (block_kind_same b h q y)
    ∙ ap (λ (t : Scan × List ℕ). block_on (block_kind_of q) t.0 (length t.1)) (w.stays y)
    ∙ ap (block_on (block_kind_of q) (run_of (Comment 0) q).0) (longer (run_of (Comment 0) q).1 y b)
    ∙ block_later (block_kind_of q) (run_of (Comment 0) q).0 (length (run_of (Comment 0) q).1) (suc (length y)))
block_scanned b text q h (inr w) =
    covered block_comment_of b text q (λ y.
    subst (λ (t : Scan × List ℕ). (block_on (block_kind_of (q ++ b ∷ y)) t.0 (length t.1)).left ≤ length y) (sym (w.passes y))
    (omega (
      arith,
      block_left (block_kind_of (q ++ b ∷ y)) (run_of w.next y).0 (length (run_of w.next y).1),
      run_shorter y w.next,
    )))

pub sign_ends : (k : SyntaxKind) (b : ℕ) (text q : List ℕ) → Ends (λ s. plain_of k (length s)) b text q
sign_ends k b text q = plain_ends k (λ s. s) b text q (λ y. refl)

pub slash_ends : (b : ℕ) (text q : List ℕ) → IsBrace b → Ends slash_of b text q
slash_ends b text q h =
    choose (begins_of 47) (λ s. line_comment_of (drop 1 s)) (λ s. if begins_of 42 s then block_comment_of (drop 1 s) else sign_of 47 s) b text q
    (λ y. begins 47 b h refl refl q y)
    (λ e. skipped_ends line_comment_of (drop 1) b text q (λ y. tail_same (λ (x : ℕ). x == 47) b q y e) (line_comment_ends b text (drop 1 q) h))
    (λ e. choose (begins_of 42) (λ s. block_comment_of (drop 1 s)) (sign_of 47) b text q (λ y. begins 42 b h refl refl q y)
    (λ k. skipped_ends block_comment_of (drop 1) b text q (λ y. tail_same (λ (x : ℕ). x == 42) b q y k)
    (block_scanned b text (drop 1 q) h (scan_ends (Comment 0) b (drop 1 q))))
    (λ k. sign_ends (sign_kind_of 47) b text q))
