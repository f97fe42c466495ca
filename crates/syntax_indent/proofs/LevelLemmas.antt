-- The level of a line: one token back, and one character on.
use Rattle.std.proofs.Common.{◌≡◌, ℕ, suc, ◌+◌, ◌<◌, ◌≤◌, List, [], ◌∷◌, ◌++◌, map, length, Bool, true, false, cond, refl, sym, ap, ◌∙◌, arith, append_assoc, length-append}
use Rattle.std.specs.Prelude.{Option, None, Some, IsUtf8, encode_utf8, if◌then◌else◌}
use Rattle.std.specs.List.{filter}
use Rattle.std.specs.Str.{chars}
use Rattle.std.proofs.lemmas.List.{reverse-append}
use Rattle.std.proofs.lemmas.Str.{chars_past_char, chars-nil, length-encode, len_utf8_bounds}
use Rattle.tree_model.specs.declared.direction.Direction.TheVariants.{Prev}
use Rattle.tree_model.specs.Tree.{Tree, node, token, Place, places, text, IsToken, kind_of}
use Rattle.tree_model.specs.Cursor.{Cursor, focus, at_place, at_token, descendants_of, all_tokens, IsRightBefore}
use Rattle.tree_model.specs.NearestToken.{tokens_beyond}
use Rattle.tree_model.proofs.NearestToken.{tokens_before}
use Rattle.syntax_indent.specs.Level.{is_newline, column, level_by, line_level, told_or, first_level, tokens_back, level_at}

-- ---- one token back

-- the tokens of a tree are in that tree
of_tree : (c y : Cursor) (ps : List Place) (front back : List Cursor) → filter at_token (map (λ q. at_place c ([] ++ q)) ps) ≡ front ++ y ∷ back → y.tree ≡ c.tree
of_tree c y [] [] back e = absurd (let no : [] ≡ y ∷ back = e in cc)
of_tree c y [] (x ∷ front) back e = absurd (let no : [] ≡ x ∷ (front ++ y ∷ back) = e in cc)
of_tree c y (p ∷ ps) front back e = by (λ f h. of_tree c y ps f back h) (at_token (at_place c p)) front e
  where
    rest : List Cursor
    rest = filter at_token (map (λ q. at_place c ([] ++ q)) ps)

    first : (z : Cursor) (zs : List Cursor) → at_place c p ∷ zs ≡ z ∷ back → z.tree ≡ c.tree
    first z zs e = (let same : z ≡ at_place c p = cc in ap (λ x. x.tree) same)

    later : (z x : Cursor) (xs front : List Cursor) → x ∷ xs ≡ z ∷ (front ++ y ∷ back) → xs ≡ front ++ y ∷ back
    later z x xs front e = cc

    by : ((f : List Cursor) → rest ≡ f ++ y ∷ back → y.tree ≡ c.tree) → (b : Bool) (front : List Cursor) → cond b (at_place c p ∷ rest) rest ≡ front ++ y ∷ back → y.tree ≡ c.tree
    by inside false front e = inside front e
    by inside true [] e = first y rest e
    by inside true (z ∷ front) e = inside front (later z (at_place c p) rest front e)

same_tokens : (c y : Cursor) (front back : List Cursor) → all_tokens c ≡ front ++ y ∷ back → all_tokens y ≡ all_tokens c
same_tokens c y front back e = ap (λ t. filter at_token (descendants_of (record { tree = t; place = [] }))) (of_tree c y (places c.tree) front back e)

one_back : (c : Cursor) (r : Option Cursor) → IsRightBefore (all_tokens c) c r → tokens_beyond Prev c ≡ tokens_back r
one_back c None h = tokens_before c [] h.0 h.1
one_back c (Some y) h =
    let split : all_tokens c ≡ (h.0 ++ y ∷ []) ++ c ∷ h.1 = h.2 ∙ sym (append_assoc h.0 (y ∷ []) (c ∷ h.1)) in
    tokens_before c (h.0 ++ y ∷ []) h.1 split
    ∙ reverse-append h.0 (y ∷ [])
    ∙ sym (ap (λ l. y ∷ l) (tokens_before y h.0 (c ∷ h.1) (same_tokens c y h.0 (c ∷ h.1) h.2 ∙ h.2)))

-- a token that tells its level, and one that does not
pub told : (c : Cursor) (n : ℕ) → Some n ≡ line_level (focus c) → n ≡ level_at c
told c n e = ap (λ o. told_or o (first_level (tokens_beyond Prev c))) e

pub goes_back : (c : Cursor) (r : Option Cursor) → None ≡ line_level (focus c) → IsRightBefore (all_tokens c) c r → first_level (tokens_back r) ≡ level_at c
goes_back c r e h = ap first_level (sym (one_back c r h)) ∙ ap (λ o. told_or o (first_level (tokens_beyond Prev c))) e

pub fewer : (c : Cursor) (r : Option Cursor) → IsRightBefore (all_tokens c) c r → length (tokens_back r) < length (tokens_back (Some c))
fewer c r h = omega (arith, ap length (one_back c r h))

-- ---- one character on

pub room_past : (bs rest : List ℕ) (c : ℕ) → bs ≡ encode_utf8 c ++ rest → length rest + 1 ≤ length bs
room_past bs rest c is = (let len : length bs ≡ length (encode_utf8 c ++ rest) = ap length is in let some = (len_utf8_bounds c).0 in omega (arith, len, some, length-append (encode_utf8 c) rest, length-encode c))

column-step : (bs rest whole : List ℕ) (c n : ℕ) (b : Bool) → IsUtf8 bs → bs ≡ encode_utf8 c ++ rest → is_newline c ≡ b → column n (chars bs) ≡ column 0 whole → column (if b then 0 else suc n) (chars rest) ≡ column 0 whole
column-step bs rest whole c n b u is e h = ap (λ x. column (if x then 0 else suc n) (chars rest)) (sym e) ∙ ap (column n) (sym (chars_past_char bs rest c u is)) ∙ h

pub column-newline : (bs rest whole : List ℕ) (c n : ℕ) → IsUtf8 bs → bs ≡ encode_utf8 c ++ rest → is_newline c ≡ true → column n (chars bs) ≡ column 0 whole → column 0 (chars rest) ≡ column 0 whole
column-newline bs rest whole c n u is e h = column-step bs rest whole c n true u is e h

pub column-other : (bs rest whole : List ℕ) (c n : ℕ) → IsUtf8 bs → bs ≡ encode_utf8 c ++ rest → is_newline c ≡ false → column n (chars bs) ≡ column 0 whole → column (n + 1) (chars rest) ≡ column 0 whole
column-other bs rest whole c n u is e h = let more : n + 1 ≡ suc n = omega arith in ap (λ m. column m (chars rest)) more ∙ column-step bs rest whole c n false u is e h

pub column-end : (bs : List ℕ) (n : ℕ) → length bs ≡ 0 → column n (chars bs) ≡ n
column-end [] n e = ap (column n) chars-nil
column-end (b ∷ bs) n e = absurd (omega (arith, e))

-- ---- what a token tells by its kind and text

pub tells : (t : Tree) → IsToken t → level_by (kind_of t) (text t) ≡ line_level t
tells (node k c) h = absurd h
tells (token k t) h = refl
