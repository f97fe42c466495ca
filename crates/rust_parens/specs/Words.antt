-- Bytes of words.
use Rattle.std.specs.Prelude.{ℕ, ◌==◌, nat_le, Bool, ◌&&◌, ◌||◌}

-- a byte of a word: a letter, a digit, `_`, and each one beyond ASCII
abbrev pub is_word : ℕ → Bool
is_word b = (nat_le 48 b && nat_le b 57) || ((nat_le 65 b && nat_le b 90) || ((nat_le 97 b && nat_le b 122) || (b == 95 || nat_le 128 b)))
