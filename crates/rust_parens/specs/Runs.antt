-- Pairs that are tried together beside those that were chosen.
use Rattle.std.specs.Prelude.{◌≡◌, ℕ, ◌≤◌, Bool, true, false, List, [], ◌∷◌, ◌++◌, length, map, take, Option, Some, None, option_map, string_bytes}
use Rattle.tree_model.specs.Cursor.{Cursor}
use Rattle.ras_front_end.specs.declared.edition.Entry.{Entry}
use Rattle.ras_front_end.specs.declared.edition.Edition.{Edition}
use Rattle.ras_front_end.specs.Front.{Front}
use Rattle.ras_front_end.specs.Parsed.{Parsed}
use Rattle.rust_parens.specs.declared.needless.Tried.{Tried}
use Rattle.rust_parens.specs.declared.needless.Run.{Run}
use Rattle.rust_parens.specs.declared.needless.Plan.{Plan}
use Rattle.rust_parens.specs.Needless.{Refused, AreSorted, fixed, MayGo, chosen}

abbrev pub as_tried : Bool → Cursor → Tried
as_tried goes p = record { pair = p; goes = goes }

-- the pairs of a run that are removed: all or none
abbrev pub going : Bool → List Cursor → List Cursor
going true run = run
going false run = []

-- the pairs that a plan lets go: those for which it has no mark
abbrev pub planned : List Bool → List Cursor → List Cursor
planned bs [] = []
planned [] (p ∷ ps) = []
planned (true ∷ bs) (p ∷ ps) = planned bs ps
planned (false ∷ bs) (p ∷ ps) = p ∷ planned bs ps

-- the text without the chosen pairs and these, if these can be removed; None if there are no pairs
-- beside the chosen ones
abbrev pub IsText : Front → Entry → Edition → Parsed → List Cursor → List Cursor → Option (List ℕ) → Type 0
IsText front entry edition old before more None = more ≡ []
IsText front entry edition old before more (Some s) = (s ≡ fixed old (before ++ more)) × MayGo front entry edition old (before ++ more)

-- a guess which of the first pairs stay, and the text without the chosen pairs and the others
pub record ArePlan (front : Front) (entry : Entry) (edition : Edition) (old : Parsed) (before rest : List Cursor) (stays : List Bool) (s : Option (List ℕ)) : Type 0 where
  pub some : 1 ≤ length stays
  pub within : length stays ≤ length rest
  pub text : IsText front entry edition old before (planned stays rest) s

abbrev pub IsPlan : Front → Entry → Edition → Parsed → List Cursor → List Cursor → Plan → Type 0
IsPlan front entry edition old before rest plan = ArePlan front entry edition old before rest plan.stays.items (option_map string_bytes plan.text)

-- the first pairs that are left, in order; each that stays was refused beside the chosen ones and
-- those before it that go; and the text without the chosen ones and all that go
pub record AreRun (front : Front) (entry : Entry) (edition : Edition) (old : Parsed) (before rest : List Cursor) (tried : List Tried) (s : Option (List ℕ)) : Type 0 where
  pub some : 1 ≤ length tried
  pub in_order : map (λ t. t.pair) tried ≡ take (length tried) rest
  pub sorted : AreSorted (Refused front entry edition old) before tried
  pub text : IsText front entry edition old before (chosen tried) s

abbrev pub IsRun : Front → Entry → Edition → Parsed → List Cursor → List Cursor → Run → Type 0
IsRun front entry edition old before rest run = AreRun front entry edition old before rest run.tried.items (option_map string_bytes run.text)
