-- Lists of globs that choose files; each is a line of an ignore file. 47 is `/`.
use Rattle.std.specs.Prelude.{ℕ, ◌==◌, ◌+◌, Bool, true, false, not, ◌&&◌, ◌||◌, if◌then◌else◌, List, [], ◌∷◌, take}
use Rattle.std.specs.List.{list_all}
use Rattle.gitignore.specs.declared.line.Rule.{Rule}
use Rattle.gitignore.specs.Rules.{applies}

-- a rule names a folder around a path, which ends before a slash among these bytes from the n-th on
abbrev pub names_above : Rule → List ℕ → ℕ → List ℕ → Bool
names_above r path n [] = false
names_above r path n (b ∷ bs) = ((b == 47) && applies r (take n path) true) || names_above r path (n + 1) bs

-- a rule names the path of a file, or a folder around it
abbrev pub covers : Rule → List ℕ → Bool
covers r path = names_above r path 0 path || applies r path false

-- the last glob that names a path decides
abbrev pub chosen_by : Bool → List Rule → List ℕ → Bool
chosen_by found [] path = found
chosen_by found (r ∷ rs) path = chosen_by (if covers r path then not r.is_negated else found) rs path

-- globs choose the path of a file; one that none of them names, if each has a `!`
abbrev pub chooses : List Rule → List ℕ → Bool
chooses rs path = chosen_by (list_all (λ r. r.is_negated) rs) rs path
