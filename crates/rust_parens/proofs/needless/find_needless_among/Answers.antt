use Rattle.std.proofs.Common.{◌≡◌, ◌≤◌, ◌++◌, ap, ap₂, sym, subst, ◌∙◌, List, ◌-◌, take, drop, length, option_map, string_bytes}
use Rattle.tree_model.specs.Cursor.{Cursor}
use Rattle.ras_front_end.specs.Front.{Front}
use Rattle.rust_parens.specs.declared.needless.Tried.{Tried}
use Rattle.rust_parens.specs.Needless.{AreTriedAmong, chosen}
use Rattle.rust_parens.proofs.TriedLemmas.{rest_of, noted, tried_within}
use Rattle.rust_parens.proofs.needless.find_needless_among.Goals as goal

pub loop-trial-preserved : goal.loop-trial-preserved
loop-trial-preserved g c =
    let front : Front = g.F.FrontEnd.answers c.args.front.now in
    let rest : List Cursor = take (length c.deref.result.now - c.len-in-loop-trial-3.result) (drop c.len-in-loop-trial-3.result c.deref.result.now) in
    let left : rest ≡ drop (length c.loop-trial.tried.items) c.args.candidates.items = rest_of c.len-in-loop-trial-3.result c.deref.result.now ∙ ap₂ drop (c.len-in-loop-trial-3.ensures ∙ c.loop-trial.tried.ok.0) (c.deref.ensures.value ∙ c.loop-trial.invariant.1) in
    let more : List Tried = c.in_ok-run.run'.tried.items in
    let found_is : c.add_chosen.new.found.items ≡ c.loop-trial.found.items ++ chosen more = c.in_ok-add_chosen.ensures ∙ ap (λ k. c.loop-trial.found.items ++ chosen k) c.as_slice-more.ensures.value in
    let tried_is : c.add_tried.new.tried.items ≡ c.loop-trial.tried.items ++ more = c.in_ok-add_tried.ensures ∙ ap (λ k. c.loop-trial.tried.items ++ k) c.as_slice-more.ensures.value in
    let are : AreTriedAmong front c.args.entry c.args.edition c.args.old.now c.args.candidates.items c.add_chosen.new.found.items c.add_tried.new.tried.items (option_map string_bytes c.or-text.result) =
    subst (λ k. AreTriedAmong front c.args.entry c.args.edition c.args.old.now c.args.candidates.items k c.add_tried.new.tried.items (option_map string_bytes c.or-text.result)) (sym found_is)
    (subst (λ k. AreTriedAmong front c.args.entry c.args.edition c.args.old.now c.args.candidates.items (c.loop-trial.found.items ++ chosen more) k (option_map string_bytes c.or-text.result)) (sym tried_is)
    (subst (λ k. AreTriedAmong front c.args.entry c.args.edition c.args.old.now c.args.candidates.items (c.loop-trial.found.items ++ chosen more) (c.loop-trial.tried.items ++ more) (option_map string_bytes k)) (sym c.or-text.ensures)
    (noted front c.args.entry c.args.edition c.args.old.now c.args.candidates.items c.loop-trial.found.items c.as_slice-beside.result.now c.loop-trial.tried.items more c.in_ok-run.run'.text c.loop-trial.text rest
    c.loop-trial.invariant.0 left c.as_slice-beside.ensures.value c.in_ok-run.ensures))) in (
      are,
      c.loop-trial.invariant.1,
      subst (λ n. length c.add_tried.new.tried.items ≤ n) (ap length (sym c.loop-trial.invariant.1))
          (tried_within front c.args.entry c.args.edition c.args.old.now c.args.candidates.items c.add_chosen.new.found.items c.add_tried.new.tried.items (option_map string_bytes c.or-text.result) are),
    )
