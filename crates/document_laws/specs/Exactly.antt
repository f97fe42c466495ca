-- The front end for Rust reads the pieces of every text as in the text, and gives one token another
-- text where nothing else changes. So a document that was read anew once has, after any number of
-- edits, the parse of its text.
use Rattle.std.specs.Prelude.{◌≡◌, ℕ, List}
use Rattle.ras_front_end.specs.declared.edition.Edition.{Edition}
use Rattle.ras_front_end.specs.Front.{Front}
use Rattle.ras_front_end.specs.Parsed.{Parsed}
use Rattle.ras_parsing.specs.Document.{IsReadOf, ReadsExactly}
use Rattle.rust_front.specs.Exact.{rust_exact}
use Rattle.rust_front.specs.Front.{rust_front}

abbrev pub RustReadsExactly : Type 0
RustReadsExactly = ReadsExactly rust_front rust_exact

-- a text has one parse by a front end in an edition: that of a document after edits is equal to
-- that of one that is made anew
abbrev pub TextsHaveOneParse : Type 0
TextsHaveOneParse =
    (front : Front) (edition : Edition) (s : List ℕ) (p q : Parsed) (m n : ℕ)
    → IsReadOf front edition s p m → IsReadOf front edition s q n → (p ≡ q) × (m ≡ n)
