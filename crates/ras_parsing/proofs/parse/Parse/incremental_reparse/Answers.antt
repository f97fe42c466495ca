use Rattle.std.proofs.Common.{inr}
use Rattle.std.specs.Prelude.{string_bytes}
use Rattle.ras_front_end.specs.Reading.{reading_of}
use Rattle.ras_parsing.specs.Edit.{Edit}
use Rattle.ras_parsing.specs.Reparse.{NoTokenPath}
use Rattle.ras_parsing.specs.Rereading.{IsNewBlock}
use Rattle.ras_parsing.proofs.BlockPaths.{no_token_path, no_block_path, found_path, by_block}
use Rattle.ras_parsing.proofs.parse.Parse.incremental_reparse.Goals as goal

pub returns-in_ok-parse-in-Some-2-clause-answer : goal.returns-in_ok-parse-in-Some-2-clause-answer
returns-in_ok-parse-in-Some-2-clause-answer g c =
    let front = g.F.FrontEnd.answers c.args.front.now in
    let edit : Edit = record { delete = c.args.delete; insert = c.args.insert.now } in
    let none : NoTokenPath front c.args.edition c.args.self.now.tree edit = no_token_path front c.args.edition c.args.self.now.tree c.root-2.result.now edit c.in_ok-new.field-0 _ c.in_ok-new.ensures c.in_default.is c.root-2.ensures in
    let new : IsNewBlock front c.args.edition c.root-3.result.now.tree edit c.in-Some-2.new.node (string_bytes c.in-Some-2.new.text) (reading_of c.in-Some-2.new.output) =
    found_path _ c.in_ok-new-2.field-0 (λ n. IsNewBlock front c.args.edition c.root-3.result.now.tree edit n.node (string_bytes n.text) (reading_of n.output)) c.in-Some-2.new c.in_ok-new-2.ensures c.in-Some-2.is in
    inr (by_block front c.args.edition c.args.self.now edit c.root-3.result.now c.in-Some-2.new.node (string_bytes c.in-Some-2.new.text) (reading_of c.in-Some-2.new.output) c.in_ok-parse-in-Some-2.parse c.text_range-range-in-Some-2.result c.root-3.ensures none
    new c.in_ok-parse-in-Some-2.ensures.new c.text_range-range-in-Some-2.ensures)

pub returns-in-None-clause-answer : goal.returns-in-None-clause-answer
returns-in-None-clause-answer g c =
    let front = g.F.FrontEnd.answers c.args.front.now in
    let edit : Edit = record { delete = c.args.delete; insert = c.args.insert.now } in (
      no_token_path front c.args.edition c.args.self.now.tree c.root-2.result.now edit c.in_ok-new.field-0 _ c.in_ok-new.ensures c.in_default.is c.root-2.ensures,
      no_block_path front c.args.edition c.args.self.now.tree c.root-3.result.now edit c.in_ok-new-2.field-0 _ c.in_ok-new-2.ensures c.in-None.is c.root-3.ensures,
    )
