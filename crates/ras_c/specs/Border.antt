-- What crosses to C: the numbers of editions, entries and choices, and buffers that are filled from
-- the front.
use Rattle.std.specs.Prelude.{◌≡◌, ℕ, ◌<◌, ◌≤◌, ◌==◌, if◌then◌else◌, List, ◌++◌, drop, length, Option, None, Some}
use Rattle.ras_front_end.specs.declared.edition.Edition.{Edition}
use Rattle.ras_front_end.specs.declared.edition.Edition.TheVariants.{Edition2015, Edition2018, Edition2021, Edition2024}
use Rattle.rust_front.specs.declared.top.TopEntryPoint.{TopEntryPoint}
use Rattle.rust_front.specs.declared.top.TopEntryPoint.TheVariants as top
use Rattle.ras_c.specs.declared.choice.Errors.{Errors}
use Rattle.ras_c.specs.declared.choice.Errors.TheVariants as errors

-- the edition of a year
abbrev pub edition_of : ℕ → Option Edition
edition_of year =
    if year == 2015 then Some Edition2015 else (
    if year == 2018 then Some Edition2018 else (
    if year == 2021 then Some Edition2021 else (
    if year == 2024 then Some Edition2024 else
    None)))

-- the entry with a number, and the choice of errors
abbrev pub entry_of : ℕ → Option TopEntryPoint
entry_of n =
    if n == 0 then Some top.SourceFile else (
    if n == 1 then Some top.Expr else (
    if n == 2 then Some top.«Type» else (
    if n == 3 then Some top.Pattern else (
    if n == 4 then Some top.MacroStmts else (
    if n == 5 then Some top.MacroItems else (
    if n == 6 then Some top.MetaItem else
    None))))))

abbrev pub errors_of : ℕ → Option Errors
errors_of n =
    if n == 0 then Some errors.Nothing else (
    if n == 1 then Some errors.Parse else (
    if n == 2 then Some errors.Violations else (
    if n == 3 then Some errors.All else
    None)))

-- a buffer whose front has these values; what follows them stays
abbrev pub over : {A : Type 0} → List A → List A → List A
over xs buffer = xs ++ drop (length xs) buffer

-- values at the front of a buffer that has room for them, and how many they are
pub record IsHanded {A : Type 0} (xs before after : List A) (count : ℕ) : Type 0 where
  pub room : length xs ≤ length before
  pub values : after ≡ over xs before
  pub counted : count ≡ length xs

-- how many there are, where the buffer has too little room and stays as it was
pub record IsCounted {A : Type 0} (xs before after : List A) (count : ℕ) : Type 0 where
  pub short : length before < length xs
  pub kept : after ≡ before
  pub counted : count ≡ length xs
