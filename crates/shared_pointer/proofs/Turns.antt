-- How a function that opens an invariant of its thread meets its contract: its walk has the
-- thread's token from the start to the end. Assumes `Logic`.
--     with_turn            the contract with the token beside its `requires` and its `ensures`
--     tables_with_turn     what the walk's calls are proved to do, where the token is carried along
--     meets_in_turn        a walk for the contract with the token meets the contract
use mathlib.Core.Path.{subst}
use seplogic.Ra.Ura.{Ura}
use mir.Syntax.{Fn}
use base.Mask.{every}
use prog.Model.{Model}
use prog.Routine.{Callee, over, ◌≼⁺◌}
use prog.Wp.{Tables, WpFn}
use sound.WpLaws.{WpFn-mono}
use contract.Beside.{Carries}
use contract.Named.{bare_unfolds}
use contract.Running.{Running, bare_tables, tables_of}
use types.Logic.{Logic}
use denote.Triple.Clauses.{Clauses, Ended, closing}
use denote.Triple.Handed.{holding, hands}
use denote.Triple.Spec.{Meets, triple_of}
use denote.Triple.Table.{entered}
use denote.Triple.Walked.{AllGo, Stays, Walks, walk_Meets}

module _ {M : Type 1} {𝓤 : Ura M} (𝓛 : Logic 𝓤) (T : Ended) (c : Clauses 𝓤 T) where
  open 𝓛 use {H, A}

  abbrev pub with_turn : Clauses 𝓤 T
  with_turn = holding 𝓤 T (A.tok every) c

  module _ (hs : Stays T.signature.params T.kept) (𝓜 : Model 𝓤 H) (𝓡 : Running 𝓤 H 𝓜) where
    abbrev 𝓒 : Carries 𝓤 H 𝓜 (A.tok every)
    𝓒 = subst (Carries 𝓤 H 𝓜) 𝓛.turn_is 𝓡.carries

    abbrev pub tables_with_turn : Tables 𝓤 H
    tables_with_turn = tables_of 𝓤 H 𝓒.inner (bare_tables 𝓤 H 𝓒.inner 𝓡.allowed 𝓡.how 𝓡.env)

    pub meets_in_turn : (k : Callee) (e : Fn) → over 𝓡.env e ≼⁺ 𝓡.env k
        → AllGo 𝓛 T.signature.lifetimes T.signature.params T.kept hs
        → Walks 𝓛 T hs (WpFn 𝓤 H tables_with_turn.C tables_with_turn.Λ e) with_turn
        → Meets 𝓛 T.signature (𝓡.run (𝓡.env k)) (closing 𝓛 T c)
    unfolding tables_of
    meets_in_turn k e is go walks =
        hands 𝓛 T (A.tok every) c 𝓜 𝓒 𝓡 (𝓡.env k)
        (entered 𝓤 H (triple_of 𝓛 T.signature (closing 𝓛 T with_turn)) tables_with_turn.C tables_with_turn.Λ k e
        (bare_unfolds 𝓤 H 𝓒.inner 𝓡.allowed 𝓡.how 𝓡.env k e is)
        (walk_Meets 𝓛 T hs go with_turn (WpFn 𝓤 H tables_with_turn.C tables_with_turn.Λ e)
        (WpFn-mono 𝓤 H 𝓛.laws tables_with_turn e) walks))
