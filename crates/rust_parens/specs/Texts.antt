-- A text without some pairs of parentheses.
use Rattle.std.specs.Prelude.{ℕ, ◌-◌, ◌==◌, Bool, true, false, ◌&&◌, ◌||◌, if◌then◌else◌, List, [], ◌∷◌, ◌++◌, length, map, replicate, set, Option, Some, None, slice_get}
use Rattle.text_size.specs.TextRange.{Bounds}
use Rattle.tree_model.specs.Tree.{text}
use Rattle.tree_model.specs.Cursor.{Cursor, focus, descendants_of}
use Rattle.lossless_tree.specs.declared.cursor.element.NodeOrToken.TheVariants as element
use Rattle.lossless_tree.specs.Element.{element_of}
use Rattle.rust_report.specs.Steps.{Element, is_left_out}
use Rattle.rust_parens.specs.Words.{is_word}
use Rattle.rust_parens.specs.Pairs.{parens_of}

-- ---- the marks of pairs

-- the two parentheses, where there are two, are marked at their first bytes
abbrev pub mark_pair : Option (Bounds × Bounds) → List Bool → List Bool
mark_pair None marks = marks
mark_pair (Some two) marks = set (set marks two.0.start true) two.1.start true

-- further pairs are marked
abbrev pub marked : List Bool → List Cursor → List Bool
marked marks [] = marks
marked marks (p ∷ ps) = marked (mark_pair (parens_of p) marks) ps

-- the marks of some pairs of a text of n bytes
abbrev pub marks_of : ℕ → List Cursor → List Bool
marks_of n pairs = marked (replicate n false) pairs

-- ---- the tokens that are left, with blanks

-- a byte that a word takes in: one of a word, `"`, `'` or `#`
abbrev pub is_taken : ℕ → Bool
is_taken b = is_word b || (b == 34 || (b == 39 || b == 35))

-- two bytes that are one sign, or begin a comment: `..`, `::`, `&&`, `||`, `<<`, `>>`, `->`, `=>`,
-- `<-`, `//`, `/*`, `*/`
abbrev pub is_sign : ℕ → ℕ → Bool
is_sign a b =
    (a == b && (a == 46 || (a == 58 || (a == 38 || (a == 124 || (a == 60 || (a == 62 || a == 47)))))))
    || ((a == 45 && b == 62) || ((a == 61 && b == 62) || ((a == 60 && b == 45) || ((a == 47 && b == 42) || (a == 42 && b == 47)))))

-- two bytes with `=` after: `==`, `!=`, `<=`, `>=`, `+=`, `-=`, `*=`, `/=`, `%=`, `^=`, `&=`, `|=`
abbrev pub takes_equals : ℕ → Bool
takes_equals a =
    a == 61 || (a == 33 || (a == 60 || (a == 62 || (a == 43 || (a == 45 || (a == 42 || (a == 47 || (a == 37 || (a == 94 || (a == 38 || a == 124))))))))))

-- what ends with byte a and what begins with byte b would be joined
abbrev pub would_join : ℕ → ℕ → Bool
would_join a b = (is_word a && is_taken b) || (is_sign a b || (b == 61 && takes_equals a))

abbrev pub would_join_at : Option ℕ → Option ℕ → Bool
would_join_at None b = false
would_join_at (Some a) None = false
would_join_at (Some a) (Some b) = would_join a b

abbrev pub gap_of : Bool → List ℕ
gap_of true = 32 ∷ []
gap_of false = []

-- a token after a text; where something was left out between, a blank keeps them apart if they
-- would be joined
abbrev pub push_token : Bool → List ℕ → List ℕ → List ℕ
push_token gap s t = s ++ (gap_of (gap && would_join_at (slice_get s (length s - 1)) (slice_get t 0)) ++ t)

-- a node or token after a text: a node adds nothing, and a token that the marks leave out leaves a
-- gap
abbrev pub with_element : List Bool → List ℕ × Bool → Element → List ℕ × Bool
with_element marks st (element.Node c) = st
with_element marks st (element.Token c) = if is_left_out marks (element.Token c) then (st.0, true) else (push_token st.1 st.0 (text (focus c)), false)

abbrev pub text_from : List Bool → List ℕ × Bool → List Element → List ℕ
text_from marks st [] = st.0
text_from marks st (x ∷ xs) = text_from marks (with_element marks st x) xs

-- the text of a tree without the tokens that the marks leave out
abbrev pub text_without : List Bool → Cursor → List ℕ
text_without marks c = text_from marks ([], false) (map element_of (descendants_of c))
