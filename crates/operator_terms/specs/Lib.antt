-- The definitions, in the order in which to read them.

-- terms, their tokens, and how tokens read
pub mod Token
pub mod Operators
pub mod Term
pub mod Reading
-- places, what fits there, and pairs
pub mod Places
pub mod Pairs
pub mod Put
pub mod AllFit
-- the tests
pub mod Powers
pub mod Precedence
-- the theorem
pub mod Headline
-- the signs of tokens
pub mod Sign
-- worked terms
pub mod Notation
pub mod WorkedTerms
pub mod WorkedTokens
pub mod WorkedPlaces
pub mod WorkedPairs
