-- The table is held against the definition at each of the 256 bytes, by computing.
use Rattle.std.proofs.Common.{◌≡◌, ℕ, ◌<◌, true, nat_eq, get_or, List, refl, arith}
use Rattle.rust_lexer.specs.declared.class.TheConstants.{BYTES}
use Rattle.rust_lexer.specs.Fast.{is_alone_of}
use Rattle.rust_lexer.proofs.Bytes.{agree_below, agree_at}
use Rattle.rust_lexer.proofs.class.is_alone.Goals as goal

from_table : (table : List ℕ) (b : ℕ) → b < 256
    → agree_below (λ k. nat_eq (get_or table k 0) 112) (is_alone_of) 256 ≡ true
    → nat_eq (get_or table b 0) 112 ≡ is_alone_of b
from_table table b lt h = agree_at _ _ 256 h b lt

pub returns : goal.returns
unfolding agree_below
returns c = from_table BYTES c.args.byte (omega arith) refl
