-- Paths that lead to the same file. (Rust's std: `Path::components`.)
use Rattle.std.specs.Prelude.{ℕ, Bool, List, [], ◌∷◌, codes, if◌then◌else◌}
use Rattle.std.specs.Cmp.Lexicographic.{pointwise}
use Rattle.std.specs.Path.{path_components}
use Rattle.cargo_editions.specs.Manifest.{is_text}

-- these components, without a `.` in front
abbrev pub without_dot : List (List ℕ) → List (List ℕ)
without_dot [] = []
without_dot (part ∷ rest) = if is_text part (codes ".") then rest else part ∷ rest

-- `src` and `x.rs`, those of `src/x.rs`, are also those of `./src/x.rs`, `.//src/x.rs` and
-- `src/./x.rs`; those of `/src/x.rs` begin with `/`, and a `..` is one of them
abbrev pub parts_of : List ℕ → List (List ℕ)
parts_of path = without_dot (path_components path)

-- the paths have the same parts
abbrev pub is_same : List ℕ → List ℕ → Bool
is_same path other = pointwise is_text (parts_of path) (parts_of other)
