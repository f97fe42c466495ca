-- What a walk begins with, for a call that takes one `&Shared<T, A>`. Assumes `Logic`.
--     Row E, ν E          the type of an owner, and its name
--     by_self E r         such a call, whose result has the type r
--     stayed E            at exit nothing is had of the reference
--     begun E r 𝓛 held z  what is passed and bound at entry, each under a name
use mathlib.Core.List.{List, [], ◌∷◌}
use Prim.Native.Nat.{ℕ}
use seplogic.Ra.Ura.{Ura}
use mir.Syntax.{Sym, named}
use mir.Val.{Val, vptr}
use base.Logic.{SProp}
use base.Fml.{Lft, Share, ftrue, flft}
use types.Logic.{Logic}
use types.Kit.{Item, ‵, ◌⊛◌}
use denote.Builtin.{RefOf}
use denote.Exit.{yes}
use denote.RattleType.{RattleType}
use denote.RawPtr.{Ptr}
use denote.Signature.{Slot, plain}
use denote.Triple.Clauses.{Clauses, Ended}
use denote.Triple.Walked.{Stays, stay_dropped, walk_of}
use Rattle.std.proofs.BoxSteps.Form.{Bx, X, R, P}
use Rattle.shared_pointer.specs.contracts.shared.Shared as SH

module _ (E : Bx) where
  abbrev pub Row : RattleType
  Row = SH.the_row (R E) (P E) E.al.g

  abbrev pub ν : Sym
  ν = (SH.the_type (R E) (P E) E.al.g).name

  abbrev pub self : Slot 3
  self = RefOf (0 ∷ []) tt (plain (λ _. Row)) (λ _. tt)

  abbrev pub stayed : Stays (self ∷ []) (yes, tt)
  stayed = (stay_dropped self yes, tt)

  module _ (result : Slot 3) where
    -- the borrow ends before the lifetimes of the value's type and of the allocator's
    abbrev pub by_self : Ended
    by_self = record {
      signature = record {
        lifetimes = 3;
        outlives = record { long = 1; long_ok = tt; short = named 0; short_ok = tt } ∷ record { long = 2; long_ok = tt; short = named 0; short_ok = tt } ∷ [];
        params = self ∷ [];
        result = result;
      };
      kept = (yes, tt);
    }

    module _ {M : Type 1} {𝓤 : Ura M} (𝓛 : Logic 𝓤) (held : Clauses 𝓤 by_self) where
      pub record Begun : Type 2 where
        -- where the owner points, the value, and the reference
        pub c : Ptr
        pub x : X E
        pub b : ℕ
        pub o : ℕ
        pub us : List Val
        -- the borrow, the share of it, and the tokens of the other lifetimes
        pub κ : Lft
        pub q : Share
        pub others : Item 𝓤
        -- the walk's variables with the reference written out, and where it ends
        pub bound : (walk_of 𝓛 by_self stayed held).Ghost
        pub Post : Val → SProp 𝓤

      abbrev pub begun : (walk_of 𝓛 by_self stayed held).Ghost → Begun
      begun z =
          let b : ℕ = z.0.3.0.ref_ptr.0 in
          let o : ℕ = z.0.3.0.ref_ptr.1 in
          let us : List Val = vptr b o ∷ [] in
          let bound : (walk_of 𝓛 by_self stayed held).Ghost = ((z.0.0, z.0.1, z.0.2, z.0.3, (us, tt)), z.1) in
          record {
            c = z.0.3.0.now.ptr;
            x = z.0.3.0.now.value;
            b = b;
            o = o;
            us = us;
            κ = z.0.0.0;
            q = z.0.1.0;
            others = ‵ (flft z.0.0.1.0 z.0.1.1.0) ⊛ ‵ (flft z.0.0.1.1.0 z.0.1.1.1.0) ⊛ ‵ ftrue;
            bound = bound;
            Post = (walk_of 𝓛 by_self stayed held).post bound;
          }
