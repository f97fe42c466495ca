-- White space and comments, and which of them go into the node that follows.
use Rattle.std.specs.Prelude.{ℕ, ◌+◌, ◌-◌, ◌^◌, min, nat_lt, nat_eq, not, Bool, true, false, ◌||◌, ◌&&◌, if◌then◌else◌, List, [], ◌∷◌, take, drop, fold}
use Rattle.std.specs.List.{list_any}
use Rattle.syntax_kind.specs.declared.syntax_kind.SyntaxKind.{SyntaxKind}
use Rattle.syntax_kind.specs.declared.syntax_kind.SyntaxKind.TheVariants as family
use Rattle.syntax_kind.specs.declared.syntax_kind.token_kind.TokenKind.TheVariants as kind
use Rattle.syntax_kind.specs.Kinds.{kind_raw, is_trivia}
use Rattle.token_layout.specs.declared.span.Token.{Token}
use Rattle.event_layout.specs.declared.trivia.Keep.{Keep}

-- how many trivia the tokens begin with
unfoldable pub lead : List Token → ℕ
lead [] = 0
lead (t ∷ ts) = if is_trivia t.kind then lead ts + 1 else 0

-- the position after n more bytes, saturating at 32 bits
abbrev pub later_of : ℕ → ℕ → ℕ
later_of a n = min (a + n) (2 ^ 32 - 1)

abbrev pub part_of : List ℕ → ℕ → ℕ → List ℕ
part_of bytes start n = take n (drop start bytes)

-- how many line feeds have followed one another, up to two
abbrev pub newlines_after : ℕ → ℕ → ℕ
newlines_after count byte = if nat_eq count 2 then 2 else (if nat_eq byte 10 then (if nat_eq count 0 then 1 else 2) else 0)

-- two line feeds follow one another
unfoldable pub has_blank_line : List ℕ → Bool
has_blank_line bytes = nat_eq (fold newlines_after 0 bytes) 2

abbrev pub is_comment : SyntaxKind → Bool
is_comment (family.Token kind.COMMENT) = true
is_comment _ = false

-- the first token is no comment
abbrev pub is_blank_on : List Token → Bool
is_blank_on [] = false
is_blank_on (t ∷ ts) = not (is_comment t.kind)

abbrev pub one_more : ℕ → ℕ
one_more n = min (n + 1) (2 ^ 64 - 1)

abbrev pub kept_of : List ℕ → SyntaxKind → ℕ → ℕ
kept_of text k kept = if is_comment k then one_more kept else (if nat_eq kept 0 || has_blank_line text then 0 else one_more kept)

abbrev pub attached_after : List ℕ → Token → Keep → Keep
attached_after bytes t a = record { kept = kept_of (part_of bytes a.start t.len) t.kind a.kept; start = later_of a.start t.len }

-- how many of the trivia, which start at `start`, go into the node after them: the comments from
-- the last blank line on, and what white space follows them
unfoldable pub attached : List ℕ → ℕ → List Token → ℕ
attached bytes start ts = (fold (λ a t. attached_after bytes t a) (record { kept = 0; start = start }) ts).kept

abbrev pub attaches_of : List SyntaxKind → SyntaxKind → Bool
attaches_of ks k = list_any (λ other. nat_eq (kind_raw other) (kind_raw k)) ks

-- how many of the `count` trivia that come next stay outside of a node
abbrev pub outside_of : List ℕ → List SyntaxKind → SyntaxKind → ℕ → List Token → ℕ → ℕ
outside_of bytes attaching k start ts count = if nat_lt 0 count && attaches_of attaching k then count - attached bytes start (take count ts) else count
