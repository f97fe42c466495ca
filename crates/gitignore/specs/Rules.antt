-- Which rule decides. (gitignore(5), "DESCRIPTION" and "PATTERN FORMAT".) 47 is `/`.
use Rattle.std.specs.Prelude.{ℕ, ◌==◌, ◌+◌, Bool, true, false, not, ◌&&◌, ◌||◌, if◌then◌else◌, List, [], ◌∷◌, length, take, drop, nat_lt, Option, Some, None}
use Rattle.gitignore.specs.declared.piece.Piece.{Piece}
use Rattle.gitignore.specs.declared.line.Rule.{Rule}
use Rattle.gitignore.specs.declared.rules.IgnoreFile.{IgnoreFile}
use Rattle.gitignore.specs.declared.rules.Verdict.{Verdict}
use Rattle.gitignore.specs.declared.rules.Verdict.TheVariants.{Unnamed, Ignored, Kept}
use Rattle.gitignore.specs.Lines.{glob_of}
use Rattle.gitignore.specs.Fits.{fits}

-- what follows the last slash of a text, or else this name
abbrev pub name_behind : List ℕ → List ℕ → List ℕ
name_behind name [] = name
name_behind name (b ∷ bs) = name_behind (if b == 47 then bs else name) bs

abbrev pub name_of : List ℕ → List ℕ
name_of path = name_behind path path

abbrev pub says : Rule → Verdict
says r = if r.is_negated then Kept else Ignored

abbrev pub fits_glob : Option (List Piece) → List ℕ → Bool
fits_glob None path = false
fits_glob (Some ps) path = fits ps path

-- a rule names a path
abbrev pub applies : Rule → List ℕ → Bool → Bool
applies r path is_folder = (not r.is_for_folders || is_folder) && fits_glob (glob_of r) (if r.is_for_names then name_of path else path)

-- the last rule that names a path decides
abbrev pub verdict_behind : Verdict → List Rule → List ℕ → Bool → Verdict
verdict_behind found [] path is_folder = found
verdict_behind found (r ∷ rs) path is_folder = verdict_behind (if applies r path is_folder then says r else found) rs path is_folder

abbrev pub verdict_of : List Rule → List ℕ → Bool → Verdict
verdict_of rs path is_folder = verdict_behind Unnamed rs path is_folder

-- ---- several files, outermost first

abbrev pub nearer : Verdict → Verdict → Verdict
nearer Unnamed outer = outer
nearer Ignored outer = Ignored
nearer Kept outer = Kept

-- a file sees what a path has below its folder
abbrev pub verdict_in : IgnoreFile → List ℕ → Bool → Verdict
verdict_in f path is_folder = if nat_lt f.folder (length path) then verdict_of f.rules.items (drop f.folder path) is_folder else Unnamed

abbrev pub among_behind : Verdict → List IgnoreFile → List ℕ → Bool → Verdict
among_behind found [] path is_folder = found
among_behind found (f ∷ fs) path is_folder = among_behind (nearer (verdict_in f path is_folder) found) fs path is_folder

-- the nearest file of which a rule names the path decides
abbrev pub verdict_among : List IgnoreFile → List ℕ → Bool → Verdict
verdict_among fs path is_folder = among_behind Unnamed fs path is_folder

abbrev pub is_out : Verdict → Bool
is_out Unnamed = false
is_out Ignored = true
is_out Kept = false

-- a folder around a path is ignored, which ends before a slash among these bytes from the n-th on
abbrev pub is_below : List IgnoreFile → List ℕ → ℕ → List ℕ → Bool
is_below fs path n [] = false
is_below fs path n (b ∷ bs) = ((b == 47) && is_out (verdict_among fs (take n path) true)) || is_below fs path (n + 1) bs

-- a path is ignored, or a folder around it
abbrev pub is_ignored : List IgnoreFile → List ℕ → Bool → Bool
is_ignored fs path is_folder = is_below fs path 0 path || is_out (verdict_among fs path is_folder)
