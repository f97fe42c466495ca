-- What a Cargo manifest says of an edition. (The Cargo Book: "The Manifest Format", "The edition
-- field"; "Workspaces", "The package table".)
use Rattle.std.specs.Prelude.{ℕ, Bool, true, List, codes, Option, Some, None, if◌then◌else◌}
use Rattle.std.specs.Cmp.Lexicographic.{pointwise}
use Rattle.std.specs.Prelude.{◌==◌}
use Rattle.std.specs.Option.{option_or, option_and_then, option_map_or}
use Rattle.toml.specs.Data.{Data, get, as_str, as_bool}
use Rattle.ras_front_end.specs.declared.edition.Edition.{Edition}
use Rattle.ras_front_end.specs.declared.edition.Edition.TheVariants.{Edition2015, Edition2018, Edition2021, Edition2024}
use Rattle.cargo_editions.specs.declared.manifest.Stated.{Stated}
use Rattle.cargo_editions.specs.declared.manifest.Stated.TheVariants as says

abbrev pub is_text : List ℕ → List ℕ → Bool
is_text s t = pointwise ◌==◌ s t

abbrev pub edition_named : List ℕ → Option Edition
edition_named s =
    if is_text s (codes "2015") then Some Edition2015
    else (if is_text s (codes "2018") then Some Edition2018
    else (if is_text s (codes "2021") then Some Edition2021
    else (if is_text s (codes "2024") then Some Edition2024 else None)))

abbrev pub as_edition : Option Edition → Stated
as_edition (Some e) = says.Edition e
as_edition None = says.Unknown

abbrev pub as_inherited : Option Bool → Stated
as_inherited (Some true) = says.Workspace
as_inherited _ = says.Unknown

-- the value of a field `edition`, by its text if it is one
abbrev pub stated_by : Option (List ℕ) → Data → Stated
stated_by (Some name) d = as_edition (edition_named name)
stated_by None d = as_inherited (option_and_then as_bool (get (codes "workspace") d))

abbrev pub edition_field : Data → Stated
edition_field d = stated_by (as_str d) d

-- the table `package`, or `project`, its old name
abbrev pub package_of : Data → Option Data
package_of d = option_or (get (codes "package") d) (get (codes "project") d)

-- a package without an edition is one of 2015
abbrev pub package_edition : Data → Stated
package_edition d = option_map_or (λ p. option_map_or edition_field (get (codes "edition") p) (says.Edition Edition2015)) (package_of d) says.Nothing

abbrev pub workspace_of : Data → Option Data
workspace_of d = get (codes "workspace") d

-- the edition that packages take from their workspace
abbrev pub workspace_edition : Data → Stated
workspace_edition d =
    option_map_or edition_field (option_and_then (get (codes "edition")) (option_and_then (get (codes "package")) (workspace_of d))) says.Nothing
