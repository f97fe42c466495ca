-- Errors 2 to 6, by a scan from left to right.
use Rattle.std.specs.Prelude.{ℕ, zero, suc, List, [], ◌∷◌, Bool, true, false, Option, None, Some}
use Rattle.tree_model.specs.declared.error.FinishError.{FinishError}
use Rattle.tree_model.specs.declared.error.FinishError.TheVariants.{TooLong, OverClosed, Unclosed, Empty, ManyRoots, TokenRoot, ErrorPastText, Memory}
use Rattle.tree_model.specs.Events.{Event, enter, leaf, exit}

-- the error of the top elements so far, after one more
abbrev pub after_top : Option FinishError → Bool → Option FinishError
after_top (Some Empty) true = Some TokenRoot
after_top (Some Empty) false = None
after_top (Some TooLong) b = Some ManyRoots
after_top (Some OverClosed) b = Some ManyRoots
after_top (Some Unclosed) b = Some ManyRoots
after_top (Some ManyRoots) b = Some ManyRoots
after_top (Some TokenRoot) b = Some ManyRoots
after_top (Some ErrorPastText) b = Some ManyRoots
after_top (Some Memory) b = Some ManyRoots
after_top None b = Some ManyRoots

-- d nodes are open, and r is the error of the top elements so far
abbrev pub scan : ℕ → Option FinishError → List Event → Option FinishError
scan zero r [] = r
scan (suc d) r [] = Some Unclosed
scan zero r (enter k ∷ es) = scan 1 (after_top r false) es
scan (suc d) r (enter k ∷ es) = scan (suc (suc d)) r es
scan zero r (leaf k t ∷ es) = scan zero (after_top r true) es
scan (suc d) r (leaf k t ∷ es) = scan (suc d) r es
scan zero r (exit ∷ es) = Some OverClosed
scan (suc d) r (exit ∷ es) = scan d r es
