use Rattle.std.proofs.Common.{ap, arith, length}
use Rattle.std.specs.Prelude.{string_bytes}
use Rattle.tree_rows.specs.Rows.{Represents}
use Rattle.tree_rows.proofs.TableLemmas.{shown}
use Rattle.tree_model.proofs.Texts.{whole_utf8}
use Rattle.tree_model.proofs.PlaceLemmas.{within_at, row_is_place}
use Rattle.tree_rows.proofs.table.Table.placed.Goals as goal

pub returns : goal.returns
returns c =
    let w : Represents c.self.inside.rows (string_bytes c.self.inside.text) c.args.self.now = shown _ _ _ c.self.view_is c.self.invariant in
    record {
      is_place = row_is_place c.args.self.now c.args.n c.requires;
      within = within_at c.args.self.now c.args.n c.requires;
      root_is_node = w.root_is_node;
      utf8 = whole_utf8 c.args.self.now w.texts_are_utf8;
      short = omega (arith, w.short, ap length w.text_is);
    }
