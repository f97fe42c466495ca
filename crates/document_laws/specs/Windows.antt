-- The window around a token that an edit is inside of: the parts of the text.
use Rattle.std.specs.Prelude.{◌≡◌, ◌⊎◌, ℕ, ◌+◌, ◌-◌, ◌≤◌, List, [], ◌∷◌, ◌++◌, length, take, drop}
use Rattle.text_size.specs.TextRange.{Bounds}
use Rattle.tree_model.specs.Edit.{splice}
use Rattle.lexer_laws.specs.Behind.{IsBrace}
use Rattle.ras_parsing.specs.Edit.{Edit, edited}
use Rattle.ras_parsing.specs.Document.{part_of, edited_in, window_around}

pub record StartsWithBrace (s : List ℕ) : Type 0 where
  pub brace : ℕ
  pub rest : List ℕ
  pub is_brace : IsBrace brace
  pub is : s ≡ brace ∷ rest

pub record EndsWithBrace (s : List ℕ) : Type 0 where
  pub brace : ℕ
  pub front : List ℕ
  pub is_brace : IsBrace brace
  pub is : s ≡ front ++ brace ∷ []

-- the text before the window, in the window before the token and behind it, and behind the window;
-- the window's text, and that of the new window, which has the token's new text
pub record IsWindowAround
    (s : List ℕ) (edit : Edit) (w : Bounds) (at : ℕ) (old new : List ℕ)
    : Type 0 where
  pub a : List ℕ
  pub x : List ℕ
  pub y : List ℕ
  pub c : List ℕ
  pub text : s ≡ a ++ ((x ++ (old ++ y)) ++ c)
  pub new_text : edited s edit ≡ a ++ ((x ++ (new ++ y)) ++ c)
  pub before_is : take w.start s ≡ a
  pub window_is : part_of s w ≡ x ++ (old ++ y)
  pub new_window_is : edited_in s w edit ≡ x ++ (new ++ y)
  pub behind_is : drop w.end s ≡ c
  pub long : length a ≡ w.start
  pub starts : length a + length x ≡ at
  pub ends_at : w.end ≡ length (a ++ (x ++ (old ++ y)))
  pub begins : (a ≡ []) ⊎ StartsWithBrace x
  pub ends : (c ≡ []) ⊎ EndsWithBrace y

abbrev pub WindowsAreAroundTokens : Type 0
WindowsAreAroundTokens =
    (s before old behind : List ℕ) (edit : Edit)
    → s ≡ before ++ (old ++ behind)
    → length before ≤ edit.delete.start → edit.delete.start ≤ edit.delete.end
    → edit.delete.end ≤ length before + length old
    → IsWindowAround s edit
    (window_around s (record { start = length before; end = length before + length old }))
    (length before) old
    (splice old (edit.delete.start - length before) (edit.delete.end - length before) edit.insert)
