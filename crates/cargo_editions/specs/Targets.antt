-- The edition of a target. (The Cargo Book: "Cargo Targets", "Configuring a target".)
use Rattle.std.specs.Prelude.{ℕ, Bool, false, List, codes, Option, Some, None, if◌then◌else◌}
use Rattle.std.specs.Option.{option_or, option_and_then, option_map_or}
use Rattle.toml.specs.Data.{Data, Items, no_items, item, get, as_str, as_array}
use Rattle.cargo_editions.specs.declared.manifest.Stated.{Stated}
use Rattle.cargo_editions.specs.declared.manifest.Stated.TheVariants as says
use Rattle.cargo_editions.specs.Manifest.{edition_field}
use Rattle.cargo_editions.specs.Paths.{is_same}

-- a target is at this path, by its field `path`, or by a default
abbrev pub is_at : Option (List ℕ) → List ℕ → Data → Bool
is_at default path d =
    option_map_or (λ p. option_map_or (is_same path) (as_str p) false) (get (codes "path") d) (option_map_or (is_same path) default false)

-- what a target says of its edition
abbrev pub own_edition : Data → Stated
own_edition d = option_map_or edition_field (get (codes "edition") d) says.Nothing

-- the first of these at this path
abbrev pub first_at : List ℕ → Items → Option Data
first_at path no_items = None
first_at path (item d ds) = if is_at None path d then Some d else first_at path ds

-- the first of the targets of a field at this path
abbrev pub listed_at : List ℕ → List ℕ → Data → Option Data
listed_at field path d = option_and_then (first_at path) (option_and_then as_array (get field d))

-- the library at this path
abbrev pub library_at : List ℕ → Data → Option Data
library_at path d = option_and_then (λ t. if is_at (Some (codes "src/lib.rs")) path t then Some t else None) (get (codes "lib") d)

-- the target at this path: the library, else the first of the programs, examples, tests and benches
abbrev pub target_at : List ℕ → Data → Option Data
target_at path d =
    option_or (library_at path d) (option_or (listed_at (codes "bin") path d) (option_or (listed_at (codes "example") path d)
    (option_or (listed_at (codes "test") path d) (listed_at (codes "bench") path d))))

abbrev pub target_edition : List ℕ → Data → Stated
target_edition path d = option_map_or own_edition (target_at path d) says.Nothing
