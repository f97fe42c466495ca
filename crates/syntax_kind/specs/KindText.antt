-- How a kind is read back from its text.
use Rattle.std.specs.Prelude.{◌≡◌, ℕ, ◌+◌, ◌*◌, ◌/◌, ◌%◌, List, [], ◌∷◌, Bool, false, not, ◌==◌, ◌&&◌, fold, slice_index_or}
use Rattle.syntax_kind.specs.Kinds.{kind_name}
use Rattle.syntax_kind.specs.declared.syntax_kind.SyntaxKind.{SyntaxKind}
use Rattle.syntax_kind.specs.declared.syntax_kind.SyntaxKind.TheVariants.{OTHER}
use Rattle.syntax_kind.specs.declared.syntax_kind.name_table.TheConstants.{SHIFTS, NUMBERS}

-- the kind has this name and is not `OTHER`
abbrev pub IsNamedAs : SyntaxKind → List ℕ → Type 0
IsNamedAs (OTHER n) name = ⊥
IsNamedAs k name = kind_name k ≡ name

-- the text is not empty, and begins with no `+` and no leading `0`
abbrev pub has_plain_start : List ℕ → Bool
has_plain_start [] = false
has_plain_start (b ∷ []) = not (b == 43)
has_plain_start (b ∷ c ∷ bs) = not (b == 43) && not (b == 48)

-- the hash of a name, byte by byte
abbrev pub next_hash : ℕ → ℕ → ℕ
next_hash hash byte = (hash * 9 + byte) % 65536

abbrev pub hash_of : List ℕ → ℕ
hash_of name = fold next_hash 0 name

-- the number that the tables have for a hash
abbrev pub number_at : ℕ → ℕ
number_at hash = slice_index_or NUMBERS ((hash / 128 + slice_index_or SHIFTS (hash % 128) 0) % 264) 0
