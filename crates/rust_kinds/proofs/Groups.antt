-- A text that begins with the first byte of no word is none of the words.
use Rattle.std.proofs.Common.{◌≡◌, ℕ, Bool, true, false, ◌==◌, ◌&&◌, if◌then◌else◌, not, Option, Some, None, List, [], ◌∷◌, ◌++◌, ap, sym, ◌∙◌, refl, eqb-true, eq-eqb}
use Rattle.std.specs.Prelude.{unwrap_or, slice_get}
use Rattle.std.specs.Str.{bytes_eq}
use Rattle.std.proofs.lemmas.Bool.{false≢true}
use Rattle.std.proofs.lemmas.Slice.Eq.{bytes_eq-Decides}
use Rattle.syntax_kind.specs.declared.syntax_kind.SyntaxKind.{SyntaxKind}
use Rattle.ras_front_end.specs.declared.edition.Edition.{Edition}
use Rattle.ras_front_end.specs.declared.edition.Edition.TheVariants.{Edition2015, Edition2018, Edition2021, Edition2024}
use Rattle.rust_kinds.specs.Keywords.{Words, find, keyword_of, words_upper_s, words_a, words_b, words_c, words_d, words_e, words_f, words_g, words_i, words_l, words_m, words_o, words_p, words_r, words_s, words_t, words_u, words_v, words_w, words_y}
use Rattle.rust_kinds.specs.Contextual.{contextual_kind_of, names_a, names_b, names_c, names_d, names_f, names_g, names_i, names_l, names_m, names_n, names_o, names_p, names_r, names_s, names_u, names_y}

-- words by their first byte
abbrev pub Groups : Type 0
Groups = List (ℕ × Words)

abbrev flat : Words → Groups → Words
flat words [] = words
flat words (group ∷ groups) = flat (words ++ group.1) groups

abbrev starts : ℕ → List ℕ → Bool
starts b [] = false
starts b (x ∷ xs) = b == x

abbrev begin : ℕ → Words → Bool
begin b [] = true
begin b (word ∷ words) = starts b word.0 && begin b words

abbrev all_begin : Groups → Bool
all_begin [] = true
all_begin (group ∷ groups) = begin group.0 group.1 && all_begin groups

-- the byte is the first one of no group
abbrev pub OfNone : ℕ → Groups → Type 0
OfNone x [] = Unit
OfNone x (group ∷ groups) = (x ≡ group.0 → ⊥) × OfNone x groups

both : (a b : Bool) → (a && b) ≡ true → (a ≡ true) × (b ≡ true)
both true b h = (refl, h)
both false b h = absurd (false≢true h)

never : (a : Bool) → (a ≡ true → ⊥) → a ≡ false
never true not_so = absurd (not_so refl)
never false not_so = refl

same_head : (b x : ℕ) (word : List ℕ) → starts b word ≡ true → Some x ≡ slice_get word 0 → x ≡ b
same_head b x [] h k = absurd (false≢true h)
same_head b x (y ∷ ys) h k = ap (λ o. unwrap_or o x) k ∙ sym (eqb-true b y h)

apart : (b x : ℕ) (text word : List ℕ) → slice_get text 0 ≡ Some x → (x ≡ b → ⊥) → starts b word ≡ true → bytes_eq text word ≡ false
apart b x text word first other h =
    never (bytes_eq text word) (λ same. other (same_head b x word h (sym first ∙ ap (λ l. slice_get l 0) ((bytes_eq-Decides text word).0 same))))

not_among : (b x : ℕ) (text : List ℕ) (words : Words) → slice_get text 0 ≡ Some x → (x ≡ b → ⊥) → begin b words ≡ true → find words text ≡ None
not_among b x text [] first other h = refl
not_among b x text (word ∷ words) first other h =
    let k = both (starts b word.0) (begin b words) h in
    ap (λ (t : Bool). if t then Some word.1 else find words text) (apart b x text word.0 first other k.0) ∙ not_among b x text words first other k.1

-- of two lists that both lack a text
passed : (t : Bool) (k : SyntaxKind) (o p : Option SyntaxKind) → (if t then Some k else o) ≡ None → (o ≡ None → p ≡ None) → (if t then Some k else p) ≡ None
passed true k o p h next = h
passed false k o p h next = next h

none_of_two : (text : List ℕ) (front back : Words) → find front text ≡ None → find back text ≡ None → find (front ++ back) text ≡ None
none_of_two text [] back h k = k
none_of_two text (word ∷ front) back h k =
    passed (bytes_eq text word.0) word.1 (find front text) (find (front ++ back) text) h (λ rest. none_of_two text front back rest k)

none_of_all : (groups : Groups) (words : Words) (text : List ℕ) (x : ℕ) → slice_get text 0 ≡ Some x → all_begin groups ≡ true → OfNone x groups → find words text ≡ None → find (flat words groups) text ≡ None
none_of_all [] words text x first h other k = k
none_of_all (group ∷ groups) words text x first h other k =
    let begins = both (begin group.0 group.1) (all_begin groups) h in
    none_of_all groups (words ++ group.1) text x first begins.1 other.1
    (none_of_two text words group.1 k (not_among group.0 x text group.1 first other.0 begins.0))

-- ---- a text that begins with the first byte of one group is found in no other

-- the words of the group of a byte
abbrev group_of : ℕ → Groups → Words
group_of b [] = []
group_of b (group ∷ groups) = if b == group.0 then group.1 else group_of b groups

abbrev has_none : ℕ → Groups → Bool
has_none b [] = true
has_none b (group ∷ groups) = not (b == group.0) && has_none b groups

-- at most one group is that of the byte
abbrev pub has_one : ℕ → Groups → Bool
has_one b [] = true
has_one b (group ∷ groups) = if b == group.0 then has_none b groups else has_one b groups

differ : (b y : ℕ) → (b == y) ≡ false → b ≡ y → ⊥
differ b y h same = false≢true (sym h ∙ eq-eqb b y same)

not_true : (a : Bool) → not a ≡ true → a ≡ false
not_true true h = absurd (false≢true h)
not_true false h = refl

of_none : (b : ℕ) (groups : Groups) → has_none b groups ≡ true → OfNone b groups
of_none b [] h = tt
of_none b (group ∷ groups) h =
    let k = both (not (b == group.0)) (has_none b groups) h in
    (differ b group.0 (not_true (b == group.0) k.0), of_none b groups k.1)

abbrev is_there : Option SyntaxKind → Bool
is_there None = false
is_there (Some _) = true

behind : (t : Bool) (k : SyntaxKind) (o p q : Option SyntaxKind) → (if t then Some k else o) ≡ None → (o ≡ None → p ≡ q) → (if t then Some k else p) ≡ q
behind true k o p q h next = absurd (false≢true (sym (ap is_there h)))
behind false k o p q h next = next h

back_of_two : (text : List ℕ) (front back : Words) → find front text ≡ None → find (front ++ back) text ≡ find back text
back_of_two text [] back h = refl
back_of_two text (word ∷ front) back h =
    behind (bytes_eq text word.0) word.1 (find front text) (find (front ++ back) text) (find back text) h (λ rest. back_of_two text front back rest)

front_of_two : (text : List ℕ) (front back : Words) → find back text ≡ None → find (front ++ back) text ≡ find front text
front_of_two text [] back h = h
front_of_two text (word ∷ front) back h =
    ap (λ (o : Option SyntaxKind). if bytes_eq text word.0 then Some word.1 else o) (front_of_two text front back h)

without_rest : (groups : Groups) (words : Words) (text : List ℕ) (x : ℕ) → slice_get text 0 ≡ Some x → all_begin groups ≡ true → OfNone x groups → find (flat words groups) text ≡ find words text
without_rest [] words text x first h other = refl
without_rest (group ∷ groups) words text x first h other =
    let begins = both (begin group.0 group.1) (all_begin groups) h in
    without_rest groups (words ++ group.1) text x first begins.1 other.1
    ∙ front_of_two text words group.1 (not_among group.0 x text group.1 first other.0 begins.0)

either : (t : Bool) (a b : Words) (text : List ℕ) (o : Option SyntaxKind) → (t ≡ true → o ≡ find a text) → (t ≡ false → o ≡ find b text) → o ≡ find (if t then a else b) text
either true a b text o in_first in_second = in_first refl
either false a b text o in_first in_second = in_second refl

in_one : (groups : Groups) (words : Words) (text : List ℕ) (x : ℕ) → slice_get text 0 ≡ Some x → all_begin groups ≡ true → has_one x groups ≡ true → find words text ≡ None → find (flat words groups) text ≡ find (group_of x groups) text
in_one [] words text x first h one k = k
in_one (group ∷ groups) words text x first h one k =
    let begins = both (begin group.0 group.1) (all_begin groups) h in
    let left = λ (t : Bool). if t then has_none x groups else has_one x groups in
    either (x == group.0) group.1 (group_of x groups) text (find (flat (words ++ group.1) groups) text)
    (λ same. without_rest groups (words ++ group.1) text x first begins.1 (of_none x groups (sym (ap left same) ∙ one)) ∙ back_of_two text words group.1 k)
    (λ other. in_one groups (words ++ group.1) text x first begins.1 (sym (ap left other) ∙ one)
    (none_of_two text words group.1 k (not_among group.0 x text group.1 first (differ x group.0 other) begins.0)))

-- ---- keywords

abbrev pub keyword_groups : Edition → Groups
keyword_groups e =
    (83, words_upper_s) ∷ (97, words_a e) ∷ (98, words_b) ∷ (99, words_c) ∷ (100, words_d e) ∷ (101, words_e) ∷ (102, words_f) ∷ (103, words_g e)
    ∷ (105, words_i) ∷ (108, words_l) ∷ (109, words_m) ∷ (111, words_o) ∷ (112, words_p) ∷ (114, words_r) ∷ (115, words_s) ∷ (116, words_t e)
    ∷ (117, words_u) ∷ (118, words_v) ∷ (119, words_w) ∷ (121, words_y) ∷ []

keywords_begin : (e : Edition) → all_begin (keyword_groups e) ≡ true
keywords_begin Edition2015 = refl
keywords_begin Edition2018 = refl
keywords_begin Edition2021 = refl
keywords_begin Edition2024 = refl

pub no_keyword : (e : Edition) (text : List ℕ) (x : ℕ) → slice_get text 0 ≡ Some x → OfNone x (keyword_groups e) → None ≡ keyword_of e text
no_keyword e text x first other = sym (none_of_all (keyword_groups e) [] text x first (keywords_begin e) other refl)

pub keyword_at : (e : Edition) (text : List ℕ) (x b : ℕ) → slice_get text 0 ≡ Some x → x ≡ b → has_one b (keyword_groups e) ≡ true → find (group_of b (keyword_groups e)) text ≡ keyword_of e text
keyword_at e text x b first same one = sym (in_one (keyword_groups e) [] text b (first ∙ ap Some same) (keywords_begin e) one refl)

-- ---- words that are keywords in some places

abbrev pub name_groups : Groups
name_groups =
    (97, names_a) ∷ (98, names_b) ∷ (99, names_c) ∷ (100, names_d) ∷ (102, names_f) ∷ (103, names_g) ∷ (105, names_i) ∷ (108, names_l)
    ∷ (109, names_m) ∷ (110, names_n) ∷ (111, names_o) ∷ (112, names_p) ∷ (114, names_r) ∷ (115, names_s) ∷ (117, names_u) ∷ (121, names_y) ∷ []

pub no_name : (text : List ℕ) (x : ℕ) → slice_get text 0 ≡ Some x → OfNone x name_groups → None ≡ contextual_kind_of text
no_name text x first other = sym (none_of_all name_groups [] text x first refl other refl)

pub name_at : (text : List ℕ) (x b : ℕ) → slice_get text 0 ≡ Some x → x ≡ b → has_one b name_groups ≡ true → find (group_of b name_groups) text ≡ contextual_kind_of text
name_at text x b first same one = sym (in_one name_groups [] text b (first ∙ ap Some same) refl one refl)
