-- Which pairs of a text may go together, by the parse of the text without them.
use Rattle.std.specs.Prelude.{◌≡◌, ℕ, ◌≤◌, ◌^◌, Bool, true, false, List, [], ◌∷◌, ◌++◌, length, map, take, ◌⊎◌, ⊤, not, Option, Some, None}
use Rattle.std.specs.List.{filter}
use Rattle.tree_model.specs.Tree.{text}
use Rattle.tree_model.specs.Cursor.{Cursor, at_node, descendants_of}
use Rattle.tree_model.specs.Edit.{root_of}
use Rattle.ras_front_end.specs.declared.edition.Entry.{Entry}
use Rattle.ras_front_end.specs.declared.edition.Edition.{Edition}
use Rattle.ras_front_end.specs.Front.{Front}
use Rattle.ras_front_end.specs.Parsed.{Parsed, IsParseOf}
use Rattle.rust_report.specs.declared.same.Trivia.TheVariants.{Aside}
use Rattle.rust_report.specs.Steps.{steps_of}
use Rattle.rust_parens.specs.declared.needless.Tried.{Tried}
use Rattle.rust_parens.specs.Pairs.{may_go}
use Rattle.rust_parens.specs.Texts.{marks_of, text_without}
use Rattle.rust_parens.specs.Alone.{StaysAlone}

-- a text without some pairs of a parse
abbrev pub fixed : Parsed → List Cursor → List ℕ
fixed old pairs = text_without (marks_of (length (text old.tree)) pairs) (root_of old.tree)

-- a parse is the old one without what the marks leave out, white space and comments aside, with as
-- many errors
pub record IsMarkedOut (old : Parsed) (marks : List Bool) (new : Parsed) : Type 0 where
  pub steps : steps_of Aside marks (root_of old.tree) ≡ steps_of Aside [] (root_of new.tree)
  pub errors : length old.errors ≡ length new.errors

-- a parse is the old one without some pairs
abbrev pub IsWithout : Parsed → Parsed → List Cursor → Type 0
IsWithout old new pairs = IsMarkedOut old (marks_of (length (text old.tree)) pairs) new

-- the pairs may go: the text without them parses to the tree without them
pub record MayGo (front : Front) (entry : Entry) (edition : Edition) (old : Parsed) (pairs : List Cursor) : Type 0 where
  pub parse : Parsed
  pub is_parse : IsParseOf (fixed old pairs) (front.parsed entry edition (fixed old pairs)) parse
  pub is_without : IsWithout old parse pairs

-- the text without them parses to another tree, or with another number of errors
pub record ParsesApart (front : Front) (entry : Entry) (edition : Edition) (old : Parsed) (pairs : List Cursor) : Type 0 where
  pub parse : Parsed
  pub is_parse : IsParseOf (fixed old pairs) (front.parsed entry edition (fixed old pairs)) parse
  pub differs : IsWithout old parse pairs → ⊥

-- an expression around the last of them, parsed alone, shows that it stays beside the others
pub record LastStays (front : Front) (edition : Edition) (old : Parsed) (pairs : List Cursor) : Type 0 where
  pub before : List Cursor
  pub last : List Cursor
  pub are : pairs ≡ before ++ last
  pub stays : StaysAlone front edition (length (text old.tree)) before last

-- they may not: one of these, or the text without them is too long for a parse
abbrev pub Refused : Front → Entry → Edition → Parsed → List Cursor → Type 0
Refused front entry edition old pairs =
    (2 ^ 32 ≤ length (fixed old pairs)) ⊎ ParsesApart front entry edition old pairs ⊎ LastStays front edition old pairs

-- the text without the pairs if they can be removed, otherwise None
abbrev pub IsAnswer : Front → Entry → Edition → Parsed → List Cursor → Option (List ℕ) → Type 0
IsAnswer front entry edition old pairs None = Refused front entry edition old pairs
IsAnswer front entry edition old pairs (Some s) = (s ≡ fixed old pairs) × MayGo front entry edition old pairs

-- ---- pairs that were tried one after the other

-- those that go
abbrev pub chosen : List Tried → List Cursor
chosen ts = map (λ t. t.pair) (filter (λ t. t.goes) ts)

abbrev pub refused_of : List Tried → List Tried
refused_of ts = filter (λ t. not t.goes) ts

abbrev pub StaysRightly : (List Cursor → Type 0) → List Cursor → Bool → Cursor → Type 0
StaysRightly refused before true p = ⊤
StaysRightly refused before false p = refused (before ++ p ∷ [])

abbrev pub with_pair : List Cursor → Bool → Cursor → List Cursor
with_pair before true p = before ++ p ∷ []
with_pair before false p = before

-- each pair that stays was refused beside those before it that go
abbrev pub AreSorted : (List Cursor → Type 0) → List Cursor → List Tried → Type 0
AreSorted refused before [] = ⊤
AreSorted refused before (t ∷ ts) = StaysRightly refused before t.goes t.pair × AreSorted refused (with_pair before t.goes t.pair) ts

-- the pairs that may go by the tests of operators and statements
abbrev pub candidates_of : Parsed → List Cursor
candidates_of old = filter may_go (filter at_node (descendants_of (root_of old.tree)))

-- the text is the text without the pairs, which can be removed together; None if there are no pairs
abbrev pub IsFixed : Front → Entry → Edition → Parsed → List Cursor → Option (List ℕ) → Type 0
IsFixed front entry edition old pairs None = pairs ≡ []
IsFixed front entry edition old pairs (Some s) = (s ≡ fixed old pairs) × MayGo front entry edition old pairs

-- the first of some candidates were tried, in order
pub record AreTriedAmong (front : Front) (entry : Entry) (edition : Edition) (old : Parsed) (candidates pairs : List Cursor) (tried : List Tried) (s : Option (List ℕ)) : Type 0 where
  pub in_order : map (λ t. t.pair) tried ≡ take (length tried) candidates
  pub going : pairs ≡ chosen tried
  pub sorted : AreSorted (Refused front entry edition old) [] tried
  pub text : IsFixed front entry edition old pairs s

-- the first of all candidates were
abbrev pub AreTried : Front → Entry → Edition → Parsed → List Cursor → List Tried → Option (List ℕ) → Type 0
AreTried front entry edition old pairs tried s = AreTriedAmong front entry edition old (candidates_of old) pairs tried s
