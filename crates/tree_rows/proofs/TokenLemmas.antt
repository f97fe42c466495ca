-- The first and the last token of a run of rows, the list of all tokens, and the nearest that is no
-- trivia.
use Rattle.std.proofs.Common.{◌≡◌, ℕ, zero, suc, ◌+◌, ◌-◌, ◌<◌, ◌≤◌, inl, inr, List, [], ◌∷◌, ◌++◌, map, reverse, cond, Bool, true, false, ◌&&◌, not, refl, sym, ap, subst, ◌∙◌, arith, append_assoc}
use Rattle.std.specs.Prelude.{Option, None, Some, option_map}
use Rattle.std.specs.List.{range_with_len, filter, find}
use Rattle.std.proofs.lemmas.List.{map-append, reverse-append}
use Rattle.std.proofs.lemmas.List.Elements.{filter-append}
use Rattle.syntax_kind.specs.declared.syntax_kind.SyntaxKind.{SyntaxKind}
use Rattle.syntax_kind.specs.Kinds.{is_trivia}
use Rattle.tree_model.specs.Tree.{Tree, node, token, size, subtree, IsNode, IsToken, is_token, kind_of}
use Rattle.tree_model.specs.Rows.{tree_at}
use Rattle.tree_rows.specs.Rows.{row_at}
use Rattle.tree_rows.specs.RowSteps.{NoTokens, IsFirstToken, IsLastToken, tokens_among}
use Rattle.tree_model.specs.Cursor.{Cursor, at_place, at_token, cursor_at, cursors_from, descendants_of, all_tokens, IsRightBehind, IsRightBefore}
use Rattle.tree_model.proofs.At.{below_or_after, cong₂, some_row}
use Rattle.tree_rows.proofs.StepLemmas.{end_of_row}
use Rattle.tree_model.proofs.ChildLists.{range-last}
use Rattle.tree_model.specs.declared.direction.Direction.TheVariants.{Next, Prev}
use Rattle.tree_model.specs.NearestToken.{tokens_beyond, is_trivia_token, is_no_trivia}
use Rattle.tree_model.proofs.NearestToken.{tokens_behind, tokens_before}
use Rattle.tree_model.proofs.WalkLemmas.{root_place}
use Rattle.tree_rows.proofs.WalkLemmas.{descendants-cursors_from}

pub one_more_behind : (whole : Tree) (a b : ℕ) → NoTokens whole a b → IsNode (tree_at whole b) → NoTokens whole a (b + 1)
one_more_behind whole a b none last k from to = elim (below_or_after k b) [
  | inl lt ↦ none k from lt
  | inr same ↦ (let e : b ≡ k = omega (arith, same.1, to) in subst (λ i. IsNode (tree_at whole i)) e last)
]

pub one_more_before : (whole : Tree) (a b : ℕ) → NoTokens whole (a + 1) b → IsNode (tree_at whole a) → NoTokens whole a b
one_more_before whole a b none first k from to = elim (below_or_after a k) [
  | inl lt ↦ none k (omega (arith, lt)) to
  | inr same ↦ (let e : a ≡ k = omega (arith, same.1, from) in subst (λ i. IsNode (tree_at whole i)) e first)
]

node_is : (t : Tree) → IsNode t → is_token t ≡ false
node_is (node k c) h = refl
node_is (token k s) h = absurd h

token_is : (t : Tree) → IsToken t → is_token t ≡ true
token_is (node k c) h = absurd h
token_is (token k s) h = refl

-- ---- the first and the last token of a run of rows

find_none : (tree : Tree) (n a : ℕ) → NoTokens tree a (a + n) → find at_token (cursors_from tree a n) ≡ None
find_none tree zero a none = refl
find_none tree (suc n) a none =
    ap (λ b. cond b (Some (cursor_at tree a)) (find at_token (cursors_from tree (a + 1) n))) (node_is (tree_at tree a) (none a (omega arith) (omega arith)))
    ∙ find_none tree n (a + 1) (λ k from to. none k (omega (arith, from)) (omega (arith, to)))

find_some : (tree : Tree) (n a m : ℕ) → a ≤ m → m < a + n → IsToken (tree_at tree m) → NoTokens tree a m → find at_token (cursors_from tree a n) ≡ Some (cursor_at tree m)
find_some tree zero a m from to is none = absurd (omega (arith, from, to))
find_some tree (suc n) a m from to is none = elim (below_or_after a m) [
  | inl lt ↦
      ap (λ b. cond b (Some (cursor_at tree a)) (find at_token (cursors_from tree (a + 1) n))) (node_is (tree_at tree a) (none a (omega arith) lt))
      ∙ find_some tree n (a + 1) m (omega (arith, lt)) (omega (arith, to)) is (λ k from to. none k (omega (arith, from)) to)
  | inr same ↦
      let here : a ≡ m = omega (arith, same.1, from) in
      ap (λ b. cond b (Some (cursor_at tree a)) (find at_token (cursors_from tree (a + 1) n))) (token_is (tree_at tree a) (subst (λ i. IsToken (tree_at tree i)) (sym here) is))
      ∙ ap (λ i. Some (cursor_at tree i)) here
]

pub first_token_found : (tree : Tree) (a b : ℕ) (r : Option ℕ) → a ≤ b → IsFirstToken tree a b r → option_map (cursor_at tree) r ≡ find at_token (cursors_from tree a (b - a))
first_token_found tree a b None h w = sym (find_none tree (b - a) a (λ k from to. w k from (omega (arith, to, h))))
first_token_found tree a b (Some m) h w = sym (find_some tree (b - a) a m w.0 (omega (arith, w.1, h)) w.2 w.3)

-- the last row of a run comes first in reverse
reversed_run : (tree : Tree) (n a : ℕ) → reverse (cursors_from tree a (suc n)) ≡ cursor_at tree (a + n) ∷ reverse (cursors_from tree a n)
reversed_run tree n a =
    ap (λ l. reverse (map (cursor_at tree) l)) (range-last n a)
    ∙ ap reverse (map-append (cursor_at tree) (range_with_len a n) ((a + n) ∷ []))
    ∙ reverse-append (cursors_from tree a n) (cursor_at tree (a + n) ∷ [])

find_last_none : (tree : Tree) (n a : ℕ) → NoTokens tree a (a + n) → find at_token (reverse (cursors_from tree a n)) ≡ None
find_last_none tree zero a none = refl
find_last_none tree (suc n) a none =
    ap (find at_token) (reversed_run tree n a)
    ∙ ap (λ b. cond b (Some (cursor_at tree (a + n))) (find at_token (reverse (cursors_from tree a n)))) (node_is (tree_at tree (a + n)) (none (a + n) (omega arith) (omega arith)))
    ∙ find_last_none tree n a (λ k from to. none k from (omega (arith, to)))

find_last_some : (tree : Tree) (n a m : ℕ) → a ≤ m → m < a + n → IsToken (tree_at tree m) → NoTokens tree (m + 1) (a + n) → find at_token (reverse (cursors_from tree a n)) ≡ Some (cursor_at tree m)
find_last_some tree zero a m from to is none = absurd (omega (arith, from, to))
find_last_some tree (suc n) a m from to is none = elim (below_or_after m (a + n)) [
  | inl lt ↦
      ap (find at_token) (reversed_run tree n a)
      ∙ ap (λ b. cond b (Some (cursor_at tree (a + n))) (find at_token (reverse (cursors_from tree a n)))) (node_is (tree_at tree (a + n)) (none (a + n) (omega (arith, lt)) (omega arith)))
      ∙ find_last_some tree n a m from lt is (λ k from to. none k from (omega (arith, to)))
  | inr same ↦
      let here : a + n ≡ m = omega (arith, same.1, to) in
      ap (find at_token) (reversed_run tree n a)
      ∙ ap (λ b. cond b (Some (cursor_at tree (a + n))) (find at_token (reverse (cursors_from tree a n)))) (token_is (tree_at tree (a + n)) (subst (λ i. IsToken (tree_at tree i)) (sym here) is))
      ∙ ap (λ i. Some (cursor_at tree i)) here
]

pub last_token_found : (tree : Tree) (a b : ℕ) (r : Option ℕ) → a ≤ b → IsLastToken tree a b r → option_map (cursor_at tree) r ≡ find at_token (reverse (cursors_from tree a (b - a)))
last_token_found tree a b None h w = sym (find_last_none tree (b - a) a (λ k from to. w k from (omega (arith, to, h))))
last_token_found tree a b (Some m) h w = sym (find_last_some tree (b - a) a m w.0 (omega (arith, w.1, h)) w.2 (λ k from to. w.3 k from (omega (arith, to, h))))

-- ---- the list of all tokens

range-split : (m n a : ℕ) → range_with_len a (m + n) ≡ range_with_len a m ++ range_with_len (a + m) n
range-split zero n a =
    let e : 0 + n ≡ n = omega arith in
    let e' : a + 0 ≡ a = omega arith in ap (range_with_len a) e ∙ ap (λ i. range_with_len i n) (sym e')
range-split (suc m) n a =
    let e : suc m + n ≡ suc (m + n) = omega arith in
    let e' : (a + 1) + m ≡ a + suc m = omega arith in
    ap (range_with_len a) e ∙ ap (λ l. a ∷ l) (range-split m n (a + 1) ∙ ap (λ i. range_with_len (a + 1) m ++ range_with_len i n) e')

tokens_split : (tree : Tree) (a m b : ℕ) → a ≤ m → m ≤ b → tokens_among tree a b ≡ tokens_among tree a m ++ tokens_among tree m b
tokens_split tree a m b from to =
    let count : b - a ≡ (m - a) + (b - m) = omega (arith, from, to) in
    let start : a + (m - a) ≡ m = omega (arith, from) in
    ap (λ n. filter at_token (cursors_from tree a n)) count
    ∙ ap (λ l. filter at_token (map (cursor_at tree) l)) (range-split (m - a) (b - m) a)
    ∙ ap (filter at_token) (map-append (cursor_at tree) (range_with_len a (m - a)) (range_with_len (a + (m - a)) (b - m)))
    ∙ filter-append at_token (cursors_from tree a (m - a)) (cursors_from tree (a + (m - a)) (b - m))
    ∙ ap (λ i. filter at_token (cursors_from tree a (m - a)) ++ filter at_token (cursors_from tree i (b - m))) start

tokens_none : (tree : Tree) (n a : ℕ) → NoTokens tree a (a + n) → filter at_token (cursors_from tree a n) ≡ []
tokens_none tree zero a none = refl
tokens_none tree (suc n) a none =
    ap (λ b. cond b (cursor_at tree a ∷ filter at_token (cursors_from tree (a + 1) n)) (filter at_token (cursors_from tree (a + 1) n))) (node_is (tree_at tree a) (none a (omega arith) (omega arith)))
    ∙ tokens_none tree n (a + 1) (λ k from to. none k (omega (arith, from)) (omega (arith, to)))

tokens_empty : (tree : Tree) (a b : ℕ) → a ≤ b → NoTokens tree a b → tokens_among tree a b ≡ []
tokens_empty tree a b h none = tokens_none tree (b - a) a (λ k from to. none k from (omega (arith, to, h)))

tokens_at : (tree : Tree) (a b : ℕ) → a < b → IsToken (tree_at tree a) → tokens_among tree a b ≡ cursor_at tree a ∷ tokens_among tree (a + 1) b
tokens_at tree a b h is =
    let count : b - a ≡ suc (b - (a + 1)) = omega (arith, h) in
    ap (λ n. filter at_token (cursors_from tree a n)) count
    ∙ ap (λ t. cond t (cursor_at tree a ∷ filter at_token (cursors_from tree (a + 1) (b - (a + 1)))) (filter at_token (cursors_from tree (a + 1) (b - (a + 1))))) (token_is (tree_at tree a) is)

all_tokens-rows : (tree : Tree) (n : ℕ) → all_tokens (cursor_at tree n) ≡ tokens_among tree 0 (size tree)
all_tokens-rows tree n =
    let whole : size tree ≡ (row_at tree 0).end = omega (arith, end_of_row tree 0 (some_row tree), ap (λ p. size (subtree tree p)) (root_place tree)) in
    ap (λ p. filter at_token (descendants_of (at_place (cursor_at tree n) p))) (sym (root_place tree))
    ∙ ap (filter at_token) (sym (descendants-cursors_from tree 0 (size tree) (some_row tree) whole))

-- the tokens of the tree around the one at a row
around : (tree : Tree) (n : ℕ) → n < size tree → IsToken (tree_at tree n) → all_tokens (cursor_at tree n) ≡ tokens_among tree 0 n ++ cursor_at tree n ∷ tokens_among tree (n + 1) (size tree)
around tree n h is =
    all_tokens-rows tree n ∙ tokens_split tree 0 n (size tree) (omega arith) (omega (arith, h)) ∙ ap (λ l. tokens_among tree 0 n ++ l) (tokens_at tree n (size tree) h is)

pub token_behind : (tree : Tree) (n : ℕ) (r : Option ℕ) → n < size tree → IsToken (tree_at tree n) → IsFirstToken tree (n + 1) (size tree) r
    → IsRightBehind (all_tokens (cursor_at tree n)) (cursor_at tree n) (option_map (cursor_at tree) r)
token_behind tree n None h is none = (
  tokens_among tree 0 n,
  around tree n h is ∙ ap (λ l. tokens_among tree 0 n ++ cursor_at tree n ∷ l) (tokens_empty tree (n + 1) (size tree) (omega (arith, h)) none),
)
token_behind tree n (Some m) h is w = (
  tokens_among tree 0 n,
  tokens_among tree (m + 1) (size tree),
  around tree n h is
      ∙ ap (λ l. tokens_among tree 0 n ++ cursor_at tree n ∷ l)
      (tokens_split tree (n + 1) m (size tree) w.0 (omega (arith, w.1)) ∙ cong₂ ◌++◌ (tokens_empty tree (n + 1) m w.0 w.3) (tokens_at tree m (size tree) w.1 w.2)),
)

pub token_before : (tree : Tree) (n : ℕ) (r : Option ℕ) → n < size tree → IsToken (tree_at tree n) → IsLastToken tree 0 n r
    → IsRightBefore (all_tokens (cursor_at tree n)) (cursor_at tree n) (option_map (cursor_at tree) r)
token_before tree n None h is none = (
  tokens_among tree (n + 1) (size tree),
  around tree n h is ∙ ap (λ l. l ++ cursor_at tree n ∷ tokens_among tree (n + 1) (size tree)) (tokens_empty tree 0 n (omega arith) none),
)
token_before tree n (Some m) h is w = (
  tokens_among tree 0 m,
  tokens_among tree (n + 1) (size tree),
  around tree n h is
      ∙ ap (λ l. l ++ cursor_at tree n ∷ tokens_among tree (n + 1) (size tree))
      (tokens_split tree 0 m n (omega arith) (omega (arith, w.1)) ∙ ap (λ l. tokens_among tree 0 m ++ l) (tokens_at tree m n w.1 w.2 ∙ ap (λ l. cursor_at tree m ∷ l) (tokens_empty tree (m + 1) n (omega (arith, w.1)) w.3)))
      ∙ append_assoc (tokens_among tree 0 m) (cursor_at tree m ∷ []) (cursor_at tree n ∷ tokens_among tree (n + 1) (size tree)),
)

-- ---- the nearest token that is no trivia

pub beyond_next : (tree : Tree) (n : ℕ) → n < size tree → IsToken (tree_at tree n) → tokens_beyond Next (cursor_at tree n) ≡ tokens_among tree (n + 1) (size tree)
beyond_next tree n h is = tokens_behind (cursor_at tree n) (tokens_among tree 0 n) (tokens_among tree (n + 1) (size tree)) (around tree n h is)

pub beyond_prev : (tree : Tree) (n : ℕ) → n < size tree → IsToken (tree_at tree n) → tokens_beyond Prev (cursor_at tree n) ≡ reverse (tokens_among tree 0 n)
beyond_prev tree n h is = tokens_before (cursor_at tree n) (tokens_among tree 0 n) (tokens_among tree (n + 1) (size tree)) (around tree n h is)

-- a row's bit and kind tell whether it is a token that is no trivia
pub solid_row : (t : Tree) (is : Bool) (kind : SyntaxKind) → is ≡ is_token t → kind ≡ kind_of t → (is && not (is_trivia kind)) ≡ is_token t && not (is_trivia_token t)
solid_row t is kind e k = ap (λ b. b && not (is_trivia kind)) e ∙ ap (λ x. is_token t && not (is_trivia x)) k ∙ by t
  where
    by : (u : Tree) → (is_token u && not (is_trivia (kind_of u))) ≡ is_token u && not (is_trivia_token u)
    by (node l c) = refl
    by (token l x) = refl

-- what a search finds among the tokens of a run of rows, by the first row and by the last
one_more : (is : Bool) (c : Cursor) (rest : List Cursor) → find is_no_trivia (cond is (c ∷ rest) rest) ≡ cond (is && is_no_trivia c) (Some c) (find is_no_trivia rest)
one_more true c rest = refl
one_more false c rest = refl

pub first_of_tokens : (tree : Tree) (a b : ℕ) → a < b
    → find is_no_trivia (tokens_among tree a b) ≡ cond (at_token (cursor_at tree a) && is_no_trivia (cursor_at tree a)) (Some (cursor_at tree a)) (find is_no_trivia (tokens_among tree (a + 1) b))
first_of_tokens tree a b h =
    let count : b - a ≡ suc (b - (a + 1)) = omega (arith, h) in
    ap (λ n. find is_no_trivia (filter at_token (cursors_from tree a n))) count
    ∙ one_more (at_token (cursor_at tree a)) (cursor_at tree a) (tokens_among tree (a + 1) b)

single : (tree : Tree) (k : ℕ) → reverse (tokens_among tree k (k + 1)) ≡ cond (at_token (cursor_at tree k)) (cursor_at tree k ∷ []) []
single tree k =
    let count : (k + 1) - k ≡ 1 = omega arith in
    ap (λ n. reverse (filter at_token (cursors_from tree k n))) count ∙ either (at_token (cursor_at tree k))
  where
    either : (b : Bool) → reverse (cond b (cursor_at tree k ∷ []) []) ≡ cond b (cursor_at tree k ∷ []) []
    either true = refl
    either false = refl

pub last_of_tokens : (tree : Tree) (a k : ℕ) → a ≤ k
    → find is_no_trivia (reverse (tokens_among tree a (k + 1)))
    ≡ cond (at_token (cursor_at tree k) && is_no_trivia (cursor_at tree k)) (Some (cursor_at tree k)) (find is_no_trivia (reverse (tokens_among tree a k)))
last_of_tokens tree a k h =
    ap (λ l. find is_no_trivia (reverse l)) (tokens_split tree a k (k + 1) h (omega arith))
    ∙ ap (find is_no_trivia) (reverse-append (tokens_among tree a k) (tokens_among tree k (k + 1)) ∙ ap (λ l. l ++ reverse (tokens_among tree a k)) (single tree k))
    ∙ either (at_token (cursor_at tree k))
  where
    either : (b : Bool) → find is_no_trivia (cond b (cursor_at tree k ∷ []) [] ++ reverse (tokens_among tree a k))
        ≡ cond (b && is_no_trivia (cursor_at tree k)) (Some (cursor_at tree k)) (find is_no_trivia (reverse (tokens_among tree a k)))
    either true = refl
    either false = refl
