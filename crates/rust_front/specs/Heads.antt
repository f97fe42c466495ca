-- What may stand at the head of a text: a shebang or a front matter.
use Rattle.std.specs.Prelude.{ℕ, nat_lt, nat_eq, Bool, false, not, ◌||◌, ◌&&◌, if◌then◌else◌, Option, Some, None, List, [], ◌∷◌, slice_get}

abbrev pub is_byte : ℕ → Option ℕ → Bool
is_byte b None = false
is_byte b (Some c) = nat_eq c b

-- `#!` and no `[`
abbrev pub has_shebang_of : List ℕ → Bool
has_shebang_of s = is_byte 35 (slice_get s 0) && (is_byte 33 (slice_get s 1) && not (is_byte 91 (slice_get s 2)))

abbrev pub is_visible : ℕ → Bool
is_visible b = nat_lt 32 b && nat_lt b 127

-- a dash is the first visible character of ASCII
abbrev pub has_fence_of : List ℕ → Bool
has_fence_of [] = false
has_fence_of (b ∷ s) = if is_visible b then nat_eq b 45 else has_fence_of s

abbrev pub has_head_of : List ℕ → Bool
has_head_of s = has_shebang_of s || has_fence_of s
