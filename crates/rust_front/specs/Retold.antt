-- Windows of a text in which one token is given another text.
use Rattle.std.specs.Prelude.{ℕ, ◌-◌, ◌^◌, nat_lt, nat_le, ◌==◌, Bool, true, false, not, ◌||◌, ◌&&◌, if◌then◌else◌, Option, Some, None, List, [], ◌∷◌, length, take, drop, slice_get}
use Rattle.std.specs.Bool.{beq}
use Rattle.std.specs.List.{list_any, list_all}
use Rattle.std.specs.Char.{is_ascii_alphanumeric, is_ascii_whitespace}
use Rattle.text_size.specs.TextRange.{Bounds}
use Rattle.syntax_kind.specs.declared.syntax_kind.SyntaxKind.{SyntaxKind}
use Rattle.syntax_kind.specs.declared.syntax_kind.SyntaxKind.TheVariants.{Token}
use Rattle.syntax_kind.specs.declared.syntax_kind.token_kind.TokenKind.TheVariants as token
use Rattle.syntax_kind.specs.Kinds.{is_trivia, is_same_kind}
use Rattle.ras_front_end.specs.declared.edition.Edition.{Edition}
use Rattle.token_layout.specs.declared.span.Token as span
use Rattle.grammar_machine.specs.declared.grammar.Sight.{Sight}
use Rattle.event_layout.specs.Trivia.{has_blank_line, is_comment}
use Rattle.event_layout.specs.Layout.{is_number}
use Rattle.rust_grammar.specs.Seeing.{sights_of}
use Rattle.rust_lexer.specs.declared.lexer.LexError.{LexError}
use Rattle.rust_lexer.specs.Lexing.{tokens_of, errors_of}
use Rattle.rust_front.specs.Heads.{has_head_of}

-- ---- braces around a window

abbrev pub is_brace : SyntaxKind → Bool
is_brace (Token token.L_CURLY) = true
is_brace (Token token.R_CURLY) = true
is_brace _ = false

abbrev pub is_brace_at : Option span.Token → Bool
is_brace_at None = false
is_brace_at (Some t) = is_brace t.kind

abbrev pub is_empty : List ℕ → Bool
is_empty s = length s == 0

-- a window begins with a brace, if some text is before it
abbrev pub begins_well : List ℕ → List span.Token → Bool
begins_well before ts = is_empty before || is_brace_at (slice_get ts 0)

-- and ends with one, if some text is behind it
abbrev pub ends_well : List ℕ → List span.Token → Bool
ends_well behind ts = is_empty behind || is_brace_at (slice_get ts (length ts - 1))

-- a window by itself begins and ends in braces, but at the start and the end, and has no errors
abbrev pub stands_alone : List ℕ → List ℕ → List span.Token → List LexError → Bool
stands_alone before behind ts es = begins_well before ts && (ends_well behind ts && (length es == 0))

-- a leaf of the tree begins where a token begins, or beside a dot: numbers are cut at their dots
abbrev pub is_dot_at : Option ℕ → Bool
is_dot_at None = false
is_dot_at (Some b) = b == 46

abbrev pub ends_in_dot : List ℕ → Bool
ends_in_dot before = is_dot_at (slice_get before (length before - 1))

-- a window at the start of the text has no head
abbrev pub has_no_head : List ℕ → List ℕ → Bool
has_no_head before new = not (is_empty before) || not (has_head_of new)

-- ---- the tokens

abbrev pub is_same_token : span.Token → span.Token → Bool
is_same_token t u = is_same_kind t.kind u.kind && (t.len == u.len)

unfoldable pub are_same_tokens : List span.Token → List span.Token → Bool
are_same_tokens [] us = length us == 0
are_same_tokens (t ∷ ts) [] = false
are_same_tokens (t ∷ ts) (u ∷ us) = if is_same_token t u then are_same_tokens ts us else false

abbrev pub kind_if : Bool → SyntaxKind → Option SyntaxKind
kind_if b k = if b then Some k else None

-- the kind of the token that begins at a byte and has so many bytes in the first ones, where the
-- tokens are the same but for its length
unfoldable pub retold_kind : ℕ → ℕ → List span.Token → List span.Token → Option SyntaxKind
retold_kind at len [] us = None
retold_kind at len (t ∷ ts) [] = None
retold_kind at len (t ∷ ts) (u ∷ us) =
    if at == 0 then kind_if (is_same_kind t.kind u.kind && ((t.len == len) && are_same_tokens ts us)) t.kind
    else (if is_same_token t u && nat_le t.len at then retold_kind (at - t.len) len ts us else None)

-- ---- the token's texts

abbrev pub has_dot : List ℕ → Bool
has_dot s = list_any (λ b. b == 46) s

-- the blank lines of white space say which comments go into the next node
abbrev pub keeps_lines : SyntaxKind → List ℕ → List ℕ → Bool
keeps_lines k old new = (not (is_trivia k) || is_comment k) || beq (has_blank_line old) (has_blank_line new)

-- the layout cuts a number at its dot
abbrev pub keeps_whole : SyntaxKind → List ℕ → List ℕ → Bool
keeps_whole k old new = not (is_number k) || (not (has_dot old) && not (has_dot new))

abbrev pub may_be_retold : SyntaxKind → List ℕ → List ℕ → Bool
may_be_retold k old new = keeps_lines k old new && keeps_whole k old new

abbrev pub if_retold : Option SyntaxKind → List ℕ → List ℕ → Bool
if_retold None old new = false
if_retold (Some k) old new = may_be_retold k old new

abbrev pub part_of : List ℕ → ℕ → ℕ → List ℕ
part_of text start len = take len (drop start text)

abbrev pub len_of : Bounds → ℕ
len_of t = t.end - t.start

-- how long the token is in the new text, in place of `len` bytes: the others stay
abbrev pub new_len : List ℕ → List ℕ → ℕ → ℕ
new_len old new len = length new - (length old - len)

abbrev pub keeps_tokens : List ℕ → List ℕ → Bounds → List span.Token → List span.Token → Bool
keeps_tokens old new t ts us =
    if_retold (retold_kind t.start (len_of t) ts us)
    (part_of old t.start (len_of t)) (part_of new t.start (new_len old new (len_of t)))

-- ---- what the machine sees

unfoldable pub is_same_sight : Sight → Sight → Bool
is_same_sight s t = (s.one == t.one) && ((s.two == t.two) && ((s.three == t.three) && (s.word == t.word)))

unfoldable pub are_same_sights : List Sight → List Sight → Bool
are_same_sights [] ts = length ts == 0
are_same_sights (s ∷ ss) [] = false
are_same_sights (s ∷ ss) (t ∷ ts) = if is_same_sight s t then are_same_sights ss ts else false

-- ---- the whole

-- the new text of the token is not empty, and its window has a brace before it, but at the start
abbrev pub is_inside : List ℕ → List ℕ → List ℕ → Bounds → Bool
is_inside before old new t =
    nat_lt 0 (len_of t) && (nat_lt 0 (new_len old new (len_of t)) && (is_empty before || nat_lt 0 t.start))

-- a byte of a name or number
abbrev pub is_of_word : ℕ → Bool
is_of_word b = (is_ascii_alphanumeric b || (b == 95)) || nat_le 128 b

-- all bytes stay of one sort, if they were
abbrev pub keeps_all : (ℕ → Bool) → List ℕ → List ℕ → Bool
keeps_all p old new = not (list_all p old) || list_all p new

-- white space and words stay such
abbrev pub keeps_sort : List ℕ → List ℕ → Bool
keeps_sort old new = keeps_all is_ascii_whitespace old new && keeps_all is_of_word old new

abbrev pub token_keeps_sort : List ℕ → List ℕ → Bounds → Bool
token_keeps_sort old new t =
    keeps_sort (part_of old t.start (len_of t)) (part_of new t.start (new_len old new (len_of t)))

-- what can be said without the tokens
abbrev pub may_be_inside : List ℕ → List ℕ → List ℕ → Bounds → Bool
may_be_inside before old new t =
    (is_inside before old new t && token_keeps_sort old new t)
    && (not (ends_in_dot before) && has_no_head before new)

abbrev pub retold_in : Edition → List ℕ → List ℕ → Bounds → List span.Token → List span.Token → Bool
retold_in e old new t ts us = keeps_tokens old new t ts us && are_same_sights (sights_of e old ts) (sights_of e new us)

abbrev pub both_alone : Edition → List ℕ → List ℕ → List ℕ → List ℕ → Bool
both_alone e before old new behind =
    stands_alone before behind (tokens_of e old) (errors_of e old)
    && stands_alone before behind (tokens_of e new) (errors_of e new)

abbrev pub retold_with : Edition → List ℕ → List ℕ → List ℕ → List ℕ → Bounds → Bool
retold_with e before old new behind t =
    both_alone e before old new behind && retold_in e old new t (tokens_of e old) (tokens_of e new)

abbrev pub are_short : List ℕ → List ℕ → Bool
are_short old new = nat_lt (length old) (2 ^ 32) && nat_lt (length new) (2 ^ 32)

-- only the token's text is another one
unfoldable pub is_retold_of : Edition → List ℕ → List ℕ → List ℕ → List ℕ → Bounds → Bool
is_retold_of e before old new behind t =
    are_short old new && (may_be_inside before old new t && retold_with e before old new behind t)
