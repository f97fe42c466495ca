use Rattle.std.proofs.Common.{ℕ, List, subst}
use Rattle.rust_report.specs.Spots.{IsSpot, spot_of}
use Rattle.rust_report.proofs.SpotLemmas.{is_spot_at}
use Rattle.rust_report.proofs.place.Spots.move_to.Goals as goal

pub returns-clause-spot : goal.returns-clause-spot
returns-clause-spot c =
    rw c.spot_of.ensures (subst (λ (s : List ℕ). IsSpot s c.args.offset (spot_of c.in_ok-wide.wide)) c.self.view_is (is_spot_at c.self.inside.places.0 c.self.inside.places.1 c.args.offset c.in_ok-wide.wide c.self.invariant c.in_ok-wide.ensures.wide))
