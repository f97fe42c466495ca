-- How the texts of files are read, and which pairs of parentheses are wanted.
use Rattle.std.specs.Prelude.{◌≡◌, ℕ, Bool, List, length, Option}
use Rattle.std.specs.List.{filter}
use Rattle.tree_model.specs.Cursor.{Cursor}
use Rattle.ras_front_end.specs.Parsed.{Parsed, IsParseOf}
use Rattle.rust_front.specs.Front.{rust_front}
use Rattle.rust_parens.specs.declared.needless.Tried.{Tried}
use Rattle.rust_parens.specs.declared.place.PairPlace.{PairPlace}
use Rattle.rust_parens.specs.declared.place.PairPlace.TheVariants.{Value, Operand, Mixed, Other}
use Rattle.rust_parens.specs.Places.{place_of}
use Rattle.rust_parens.specs.Needless.{AreTriedAmong, candidates_of}
use Rattle.rust_print.specs.declared.forms.Wanted.{Wanted}
use Rattle.rust_print.specs.declared.source.Reading.{Reading}

-- the parse of a text by the front end for Rust
abbrev pub IsReadAs : Reading → List ℕ → Parsed → Type 0
IsReadAs r s p = IsParseOf s (rust_front.parsed r.entry r.edition s) p

-- pairs in such a place are wanted; a pair is
abbrev pub wants : Wanted → PairPlace → Bool
wants w Value = w.values
wants w Operand = w.operands
wants w Mixed = w.mixed
wants w Other = w.others

abbrev pub is_wanted : Wanted → Cursor → Bool
is_wanted w pair = wants w (place_of pair)

-- the pairs that may go by the tests of operators and statements, of those that are wanted
abbrev pub wanted_of : Wanted → Parsed → List Cursor
wanted_of w p = filter (is_wanted w) (candidates_of p)

-- Each of these was tried: the pairs can all be removed together, the text is the one without them,
-- and each other one was refused beside those before it.
pub record AreNeedless (r : Reading) (w : Wanted) (s : List ℕ) (pairs : List Cursor) (tried : List Tried)
    (without : Option (List ℕ)) : Type 0 where
  pub parse : Parsed
  pub is_read : IsReadAs r s parse
  pub were_tried : AreTriedAmong rust_front r.entry r.edition parse (wanted_of w parse) pairs tried without
  pub all : length tried ≡ length (wanted_of w parse)
