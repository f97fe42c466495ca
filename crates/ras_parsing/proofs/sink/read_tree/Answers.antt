use Rattle.std.proofs.Common.{◌∙◌, ◌++◌, ap, refl, filter_map}
use Rattle.ras_front_end.specs.Keeps.{IsRootOf}
use Rattle.ras_front_end.specs.Reading.{front_event}
use Rattle.ras_parsing.proofs.BuildLemmas.{forget_root}
use Rattle.ras_parsing.proofs.Sinks.{made_of, made_rows, one_tree, parse_of}
use Rattle.ras_parsing.proofs.sink.read_tree.Goals as goal

pub tree_of_rows-requires-clause-made : goal.tree_of_rows-requires-clause-made
tree_of_rows-requires-clause-made g c =
    let text = c.args.text.now in
    let r = (g.F.FrontEnd.answers c.args.front.now).parsed c.args.entry c.args.edition text in
    let kept = (g.met.F.FrontEnd.kept c.args.front.now).entry_kept c.args.entry c.args.edition text c.utf8.text c.requires.short in
    let any = forget_root (IsRootOf c.args.entry) text r r kept refl in
    made_of text r any c.requires.short c.in_ok-sink.sink.rows c.in_ok-sink.sink.errors.items c.in_ok-sink.ensures.steps

pub returns-clause-root : goal.returns-clause-root
returns-clause-root g c =
    let text = c.args.text.now in
    let r = (g.F.FrontEnd.answers c.args.front.now).parsed c.args.entry c.args.edition text in
    let kept = (g.met.F.FrontEnd.kept c.args.front.now).entry_kept c.args.entry c.args.edition text c.utf8.text c.requires.short in
    let any = forget_root (IsRootOf c.args.entry) text r r kept refl in
    let m = c.in_ok-sink.sink.rows in
    let faults = c.in_ok-sink.sink.errors.items in
    let are = c.in_ok-sink.ensures.steps in
    (c.in_ok-root.ensures (filter_map front_event r.steps) (made_rows text r any c.requires.short m faults are) (one_tree text r any c.requires.short m faults are)).1

pub returns-clause-parsed : goal.returns-clause-parsed
returns-clause-parsed g c =
    let text = c.args.text.now in
    let r = (g.F.FrontEnd.answers c.args.front.now).parsed c.args.entry c.args.edition text in
    let kept = (g.met.F.FrontEnd.kept c.args.front.now).entry_kept c.args.entry c.args.edition text c.utf8.text c.requires.short in
    let any = forget_root (IsRootOf c.args.entry) text r r kept refl in
    let m = c.in_ok-sink.sink.rows in
    let faults = c.in_ok-sink.sink.errors.items in
    let are = c.in_ok-sink.ensures.steps in
    let builds = (c.in_ok-root.ensures (filter_map front_event r.steps) (made_rows text r any c.requires.short m faults are) (one_tree text r any c.requires.short m faults are)).0 in
    (parse_of text r any c.requires.short m faults are c.in_ok-root.root.tree c.append.new.self.items builds
    (c.in_ok-append.ensures.items ∙ ap (λ l. faults ++ l) c.in_ok-sink.ensures.errors_are)).0

pub returns-clause-in_text : goal.returns-clause-in_text
returns-clause-in_text g c =
    let text = c.args.text.now in
    let r = (g.F.FrontEnd.answers c.args.front.now).parsed c.args.entry c.args.edition text in
    let kept = (g.met.F.FrontEnd.kept c.args.front.now).entry_kept c.args.entry c.args.edition text c.utf8.text c.requires.short in
    let any = forget_root (IsRootOf c.args.entry) text r r kept refl in
    let m = c.in_ok-sink.sink.rows in
    let faults = c.in_ok-sink.sink.errors.items in
    let are = c.in_ok-sink.ensures.steps in
    let builds = (c.in_ok-root.ensures (filter_map front_event r.steps) (made_rows text r any c.requires.short m faults are) (one_tree text r any c.requires.short m faults are)).0 in
    (parse_of text r any c.requires.short m faults are c.in_ok-root.root.tree c.append.new.self.items builds
    (c.in_ok-append.ensures.items ∙ ap (λ l. faults ++ l) c.in_ok-sink.ensures.errors_are)).1
