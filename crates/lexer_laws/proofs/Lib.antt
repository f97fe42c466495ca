mod Tests
mod Decoding
mod Skipping
mod Scanning
mod Ending
mod Digits
mod Literals
mod RawTexts
pub mod Words
mod Firsts
mod Stepping
mod Bracing
mod Heading
pub mod Pieces
pub mod LexedKinds
mod BraceKinds
pub mod Finding
pub mod Sighting
mod Faults
mod Cleaning
mod Exchanging
mod Telling
pub mod Messages
pub mod Windows
