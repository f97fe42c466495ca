-- The order in which to read the proofs, which is that in which they rest on each other.
-- `docs/OPERATORS.md` tells the idea.

-- small facts
pub mod Bools
pub mod Demands
pub mod Parts
-- one reading, by a machine that reads every term that fits
pub mod Machine
pub mod Reduce
pub mod Complete
pub mod Signs
pub mod Deriving
-- levels: fitting, pairs, the test by powers
pub mod Fitting
pub mod Without
pub mod Gone
pub mod Power
-- the rule on casts
pub mod Clear
pub mod Ends
pub mod Readings
-- both together
pub mod Paired
pub mod MayGo
pub mod Put
pub mod Headlines
pub mod AllFit
pub mod Precedences
pub mod CastFree
pub mod Rows
pub mod WorkedTokens
