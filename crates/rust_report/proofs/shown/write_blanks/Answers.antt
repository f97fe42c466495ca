use Rattle.std.proofs.Common.{◌≡◌, [], ◌++◌, ap, sym, ◌∙◌, refl, true}
use Rattle.std.proofs.lemmas.Grind.{put_two}
use Rattle.std.proofs.lemmas.List.{flat_map_more}
use Rattle.std.proofs.Output.{has_written_of_eq}
use Rattle.std.specs.List.{flat_map}
use Rattle.std.specs.Str.{chars}
use Rattle.std.proofs.lemmas.Iterator.{YieldsList-from_chars}
use Rattle.std.proofs.lemmas.Iterator.Consumers.{YieldsList-end}
use Rattle.rust_report.proofs.EscapesLemmas.{map-same}
use Rattle.rust_report.specs.Shown.{blanks_below}
use Rattle.rust_report.proofs.shown.write_blanks.Goals as goal

pub returns : goal.returns
returns g c = λ plain _.
    let t = YieldsList-end (YieldsList-from_chars c.args.text.now c.utf8.text cc) c.loop-c.yielded _ c.loop-c.yielded_by _ _ c.in-None.is c.next.ensures.steps in
    let all : c.loop-c.yielded ≡ chars c.args.text.now = sym (map-same c.loop-c.yielded) ∙ t.0 in
    has_written_of_eq _ _ _ _ _ (ap (flat_map blanks_below) all) (c.loop-c.invariant plain)

pub loop-c-preserved : goal.loop-c-preserved
loop-c-preserved g c = λ plain.
    let before = c.loop-c.invariant plain in
    put_two _ _ _ _ _ _ _ before (c.in_ok-write_str.ensures.writes before.plain (refl {a = true}))
    (ap (λ w. flat_map blanks_below c.loop-c.yielded ++ w) c.blanks_below.ensures ∙ flat_map_more blanks_below [] c.loop-c.yielded c.in-Some.c)
