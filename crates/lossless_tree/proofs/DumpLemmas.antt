-- What the loops of a dump add, step by step.
use Rattle.std.proofs.Common.{◌≡◌, ℕ, suc, ◌+◌, ◌-◌, ◌<◌, ◌≤◌, List, [], ◌∷◌, ◌++◌, length, refl, sym, ap, ◌∙◌, arith, append_assoc, append-nil, length-append}
use Rattle.std.specs.Prelude.{IsUtf8, encode_utf8, encode_utf8_all, ◌==◌, if◌then◌else◌, nat_lt, codes, replicate, Bool, true, false, cond, map, Option, None, Some}
use Rattle.std.specs.Char.{len_utf8}
use Rattle.std.specs.List.{flat_map, list_all}
use Rattle.std.proofs.lemmas.List.{replicate-append-replicate}
use Rattle.std.proofs.lemmas.List.Concat.{flat_map-append}
use Rattle.std.specs.Str.{chars}
use Rattle.std.proofs.lemmas.Bool.Decides.{nat_tests}
use Rattle.std.proofs.lemmas.Str.{chars_past_char, chars-nil, length-encode, len_utf8_bounds, encodes-chars}
use Rattle.lossless_tree.specs.Dump.{escaped, is_plain, shortest_front, shown, shown_text, dump_line, dump_of}
use Rattle.tree_model.specs.Tree.{Tree, node, token, Forest, nil, cons, IsNode, Place, places, places_from, walk, walk_from, under, size}
use Rattle.tree_model.specs.Cursor.{Cursor, focus, at_place, level_below, walk_of, cursor_at}
use Rattle.tree_rows.specs.Walks.{IsWalk, open_count, walk_left}
use Rattle.tree_rows.proofs.WalkSteps.{depth_row, open_row, walk_left-whole}

if_zero : {A : Type 0} (n : ℕ) (x y : A) → n ≡ 0 → (if n == 0 then x else y) ≡ x
if_zero n x y h = grind (arith, nat_tests)

if_more : {A : Type 0} (n : ℕ) (x y : A) → (n ≡ 0 → ⊥) → (if n == 0 then x else y) ≡ y
if_more n x y h = grind (arith, nat_tests)

shortest_front-zero : (n : ℕ) (cs : List ℕ) → n ≡ 0 → shortest_front n cs ≡ []
shortest_front-zero n [] h = refl
shortest_front-zero n (c ∷ cs) h = if_zero n [] (c ∷ shortest_front (n - len_utf8 c) cs) h

shortest_front-all : (cs : List ℕ) (n : ℕ) → length (encode_utf8_all cs) ≤ n → shortest_front n cs ≡ cs
shortest_front-all [] n h = refl
shortest_front-all (c ∷ cs) n h =
    let len : length (encode_utf8_all (c ∷ cs)) ≡ len_utf8 c + length (encode_utf8_all cs) = length-append (encode_utf8 c) (encode_utf8_all cs) ∙ ap (λ m. m + length (encode_utf8_all cs)) (length-encode c) in
    let some = len_utf8_bounds c in
    if_more n [] (c ∷ shortest_front (n - len_utf8 c) cs) (λ e. absurd (omega (arith, len, some.0, h, e)))
    ∙ ap (λ l. c ∷ l) (shortest_front-all cs (n - len_utf8 c) (omega (arith, len, h)))

-- a text is its own front of as many bytes
pub shortest_front-whole : (t : List ℕ) → IsUtf8 t → shortest_front (length t) (chars t) ≡ chars t
shortest_front-whole t u = shortest_front-all (chars t) (length t) (omega (arith, ap length (encodes-chars t u)))

pub front_done : (out whole cs : List ℕ) (n : ℕ) → n ≡ 0 → out ++ flat_map escaped (shortest_front n cs) ≡ whole → out ≡ whole
front_done out whole cs n z h = sym (append-nil out) ∙ ap (λ l. out ++ flat_map escaped l) (sym (shortest_front-zero n cs z)) ∙ h

pub front_end : (out whole bs : List ℕ) (n : ℕ) → length bs ≡ 0 → out ++ flat_map escaped (shortest_front n (chars bs)) ≡ whole → out ≡ whole
front_end out whole [] n e h = sym (append-nil out) ∙ ap (λ l. out ++ flat_map escaped (shortest_front n l)) (sym chars-nil) ∙ h
front_end out whole (b ∷ bs) n e h = absurd (omega (arith, e))

pub front_step : (out out' whole bs rest : List ℕ) (c n m : ℕ) → IsUtf8 bs → bs ≡ encode_utf8 c ++ rest → (n ≡ 0 → ⊥) → m ≡ n - len_utf8 c → out' ≡ out ++ escaped c
    → out ++ flat_map escaped (shortest_front n (chars bs)) ≡ whole → out' ++ flat_map escaped (shortest_front m (chars rest)) ≡ whole
front_step out out' whole bs rest c n m u is some is_m added h =
    let front : shortest_front n (chars bs) ≡ c ∷ shortest_front m (chars rest) =
    ap (shortest_front n) (chars_past_char bs rest c u is) ∙ if_more n [] (c ∷ shortest_front (n - len_utf8 c) (chars rest)) some ∙ ap (λ k. c ∷ shortest_front k (chars rest)) (sym is_m) in
    ap (λ l. l ++ flat_map escaped (shortest_front m (chars rest))) added
    ∙ append_assoc out (escaped c) (flat_map escaped (shortest_front m (chars rest)))
    ∙ ap (λ l. out ++ flat_map escaped l) (sym front)
    ∙ h

below_limit : (n : ℕ) (x y : List ℕ) → n < 25 → (if nat_lt n 25 then x else y) ≡ x
below_limit n x y h = grind (arith, nat_tests)

-- a short text is shown whole
pub shown_short : (t : List ℕ) → length t < 25 → flat_map escaped (chars t) ≡ shown t
shown_short t h = sym (below_limit (length t) (flat_map escaped (chars t)) (flat_map escaped (shortest_front 21 (chars t)) ++ codes " ...") h)

plain_char : (c : ℕ) → is_plain c ≡ true → escaped c ≡ encode_utf8 c
plain_char c h = grind (arith, nat_tests)

plain_chars : (cs : List ℕ) → list_all is_plain cs ≡ true → flat_map escaped cs ≡ encode_utf8_all cs
plain_chars [] h = refl
plain_chars (c ∷ cs) h = grind (arith, plain_char c, plain_chars cs, nat_tests)

-- a text of characters that stand for themselves is shown as it is
pub plain_whole : (t : List ℕ) → IsUtf8 t → list_all is_plain (chars t) ≡ true → t ≡ flat_map escaped (chars t)
plain_whole t u h = sym (encodes-chars t u) ∙ sym (plain_chars (chars t) h)

pub shown_text-node : (t : Tree) → IsNode t → shown_text t ≡ []
shown_text-node (node k c) h = refl
shown_text-node (token k x) h = absurd h

-- spaces of the indentation, and some more
pub more_spaces : (n m k : ℕ) → n + m ≡ k → replicate {A = ℕ} n 32 ++ replicate m 32 ≡ replicate k 32
more_spaces n m k e = replicate-append-replicate n m 32 ∙ ap (λ l. replicate {A = ℕ} l 32) e

-- ---- the whole dump

-- what a walk's events add: a line where an element is entered
abbrev pub event_line : Cursor → Bool × Cursor → List ℕ
event_line c e = cond e.0 (dump_line (level_below c e.1) e.1) []

abbrev pub event_lines : Cursor → List (Bool × Cursor) → List ℕ
event_lines c w = flat_map (event_line c) w

flat_map-map : {A B : Type 0} (f : B → List ℕ) (g : A → B) (xs : List A) → flat_map f (map g xs) ≡ flat_map (λ x. f (g x)) xs
flat_map-map f g [] = refl
flat_map-map f g (x ∷ xs) = ap (λ l. f (g x) ++ l) (flat_map-map f g xs)

entered : (Place → List ℕ) → Bool × Place → List ℕ
entered g w = cond w.0 (g w.1) []

-- what is added as places are entered is what is added for each place
entered-walk_from : (f : Forest) (i : ℕ) (g : Place → List ℕ) → flat_map (entered g) (walk_from i f) ≡ flat_map g (places_from i f)
unfolding entered
entered-walk_from nil i g = refl
entered-walk_from (cons (token k t) r) i g = ap (λ l. g (i ∷ []) ++ l) (entered-walk_from r (suc i) g)
entered-walk_from (cons (node k c) r) i g =
    let inner : Place → List ℕ = λ p. g (i ∷ p) in
    ap (λ l. g (i ∷ []) ++ l)
    (flat_map-append (entered g) (map (under i) (walk_from 0 c)) ((false, i ∷ []) ∷ walk_from (suc i) r)
    ∙ ap (λ l. l ++ flat_map (entered g) (walk_from (suc i) r)) (flat_map-map (entered g) (under i) (walk_from 0 c) ∙ entered-walk_from c 0 inner ∙ sym (flat_map-map g (λ p. i ∷ p) (places_from 0 c)))
    ∙ ap (λ l. flat_map g (map (λ p. i ∷ p) (places_from 0 c)) ++ l) (entered-walk_from r (suc i) g)
    ∙ sym (flat_map-append g (map (λ p. i ∷ p) (places_from 0 c)) (places_from (suc i) r)))

entered-walk : (t : Tree) (g : Place → List ℕ) → flat_map (entered g) (walk t) ≡ flat_map g (places t)
unfolding entered
entered-walk (token k x) g = refl
entered-walk (node k c) g =
    ap (λ l. g [] ++ l) (flat_map-append (entered g) (walk_from 0 c) ((false, []) ∷ []) ∙ append-nil (flat_map (entered g) (walk_from 0 c)) ∙ entered-walk_from c 0 g)

-- the lines of the whole walk are the dump
pub event_lines-walk_of : (c : Cursor) → event_lines c (walk_of c) ≡ dump_of c
unfolding entered
event_lines-walk_of c =
    let there : Place → Cursor = λ q. at_place c (c.place ++ q) in
    let line : Cursor → List ℕ = λ d. dump_line (level_below c d) d in
    flat_map-map (event_line c) (λ w. (w.0, there w.1)) (walk (focus c))
    ∙ entered-walk (focus c) (λ q. line (there q))
    ∙ sym (flat_map-map line there (places (focus c)))

-- after an element is entered, or left
pub after_enter : (c d : Cursor) (level : ℕ) (out out' whole : List ℕ) (w rest : List (Bool × Cursor)) → w ≡ (true, d) ∷ rest → level ≡ level_below c d → out' ≡ out ++ dump_line level d → out ++ event_lines c w ≡ whole → out' ++ event_lines c rest ≡ whole
after_enter c d level out out' whole w rest is is_level added h =
    ap (λ l. l ++ event_lines c rest) (added ∙ ap (λ n. out ++ dump_line n d) is_level)
    ∙ append_assoc out (dump_line (level_below c d) d) (event_lines c rest)
    ∙ ap (λ l. out ++ event_lines c l) (sym is)
    ∙ h

pub after_leave : (c d : Cursor) (out whole : List ℕ) (w rest : List (Bool × Cursor)) → w ≡ (false, d) ∷ rest → out ++ event_lines c w ≡ whole → out ++ event_lines c rest ≡ whole
after_leave c d out whole w rest is h = ap (λ l. out ++ event_lines c l) (sym is) ∙ h

pub lines_at_start : (whole : Tree) (start : ℕ) (out : List ℕ) → out ≡ [] → out ++ event_lines (cursor_at whole start) (walk_left whole start start None) ≡ dump_of (cursor_at whole start)
lines_at_start whole start out empty =
    ap (λ l. l ++ event_lines (cursor_at whole start) (walk_left whole start start None)) empty
    ∙ ap (event_lines (cursor_at whole start)) (walk_left-whole whole start)
    ∙ event_lines-walk_of (cursor_at whole start)

pub lines_at_end : (c : Cursor) (out whole : List ℕ) (w : List (Bool × Cursor)) → w ≡ [] → out ++ event_lines c w ≡ whole → out ≡ whole
lines_at_end c out whole w done h = sym (append-nil out) ∙ ap (λ l. out ++ event_lines c l) (sym done) ∙ h

-- as many nodes are open as there are rows at most
pub open_fits : (whole : Tree) (start next : ℕ) (o : Option ℕ) → IsWalk whole start next o → open_count whole start o ≤ size whole
open_fits whole start next None w = omega arith
open_fits whole start next (Some o) w =
    let is_row = open_row whole start next o w in
    omega (arith, is_row, depth_row whole o is_row)
