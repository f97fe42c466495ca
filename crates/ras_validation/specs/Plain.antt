-- Contents of strings in which each character stands for itself, so that none breaks a rule.
use Rattle.std.specs.Prelude.{ℕ, Bool, not, ◌==◌, ◌&&◌, nat_le, List}
use Rattle.std.specs.List.{list_all}
use Rattle.literal_escape.specs.Literal.{is_bytes}
use Rattle.literal_escape.specs.declared.mode.Mode.{Mode}

-- a character that stands for itself in a string, and may: no backslash, carriage return, quote or
-- NUL, and in a byte string of ASCII
abbrev pub stands_for_itself : Mode → ℕ → Bool
stands_for_itself mode c =
    not (c == 92) && (not (c == 13) && (not (c == 34) && (not (c == 0)
    && not (is_bytes mode && nat_le 128 c))))

abbrev pub is_plain : Mode → List ℕ → Bool
is_plain mode content = list_all (stands_for_itself mode) content
