use Rattle.std.proofs.Common.{◌∙◌, ap, sym, length, get_or, ◌≤◌, ◌<◌, ◌+◌, ◌-◌, refl, arith}
use Rattle.std.specs.Prelude.{◌^◌}
use Rattle.tree_model.specs.Tree.{size}
use Rattle.tree_model.specs.Rows.{tree_at}
use Rattle.tree_model.proofs.At.{some_row}
use Rattle.tree_rows.specs.Rows.{no_row}
use Rattle.tree_rows.proofs.TableLemmas.{shown, rows_len, kept_are}
use Rattle.tree_model.proofs.EditLemmas.{length-spliced, within_rows}
use Rattle.tree_rows.proofs.EditLemmas.{token_pushed, fits_behind}
use Rattle.tree_rows.proofs.Restarted.{token_size, token_restarted}
use Rattle.tree_rows.proofs.table.Table.rows_with_token.Goals as goal
use Rattle.tree_rows.proofs.table.Table.rows_with_token.Goals.{After-len-count}

few : (c : After-len-count) → (size c.args.self.now - size (tree_at c.args.self.now c.args.n)) + 1 < 2 ^ 63
few c =
    let w = shown _ _ _ c.self.view_is c.self.invariant in
    omega (arith, c.len-count.ensures.small, c.len-count.ensures.value, rows_len _ _ _ w, some_row (tree_at c.args.self.now c.args.n), within_rows c.args.self.now c.args.n c.requires.is_row)

pub overflow_add-token : goal.overflow_add-token
overflow_add-token c = let w = shown _ _ _ c.self.view_is c.self.invariant in omega (arith, c.len-count.ensures.small, c.len-count.ensures.value, rows_len _ _ _ w, c.requires.is_row)

pub push_behind-requires-clause-rows_fit : goal.push_behind-requires-clause-rows_fit
push_behind-requires-clause-rows_fit c = few (goal.at.push_behind-requires-clause-rows_fit c).After-len-count

pub push_behind-requires-clause-bytes_fit : goal.push_behind-requires-clause-bytes_fit
push_behind-requires-clause-bytes_fit c = omega (arith, c.requires.fits, length-spliced c.args.self.now c.args.n c.args.new.now c.requires.is_row)

pub returns : goal.returns
returns c =
    c.in_ok-kept.ensures
    ∙ token_pushed c.args.self.now c.args.n c.requires.is_row c.args.kind c.args.new.now c.in_ok-rows.rows c.push.new.self c.push_behind.new.rows c.start_at-start.result (c.args.n + 1) _ c.parent.result
    c.start_at-start.ensures refl refl c.parent.ensures c.in_ok-rows.ensures.rows c.in_ok-push.ensures.ok c.in_ok-push_behind.ensures

pub push-requires : goal.push-requires
push-requires c = let w = shown _ _ _ c.self.view_is c.self.invariant in omega (arith, c.len-count.ensures.small, c.len-count.ensures.value, rows_len _ _ _ w, c.requires.is_row)

pub restarted-requires-clause-is_row : goal.restarted-requires-clause-is_row
restarted-requires-clause-is_row c = let w = shown _ _ _ c.self.view_is c.self.invariant in omega (arith, c.requires.is_row, rows_len _ _ _ w)

pub restarted-requires-clause-fits : goal.restarted-requires-clause-fits
restarted-requires-clause-fits c = λ k lt there.
    let whole = c.args.self.now in
    let n = c.args.n in
    let w = shown _ _ _ c.self.view_is c.self.invariant in
    let in_range : k < size whole = omega (arith, there, rows_len _ _ _ w) in
    let later : n + size (tree_at whole n) ≤ k = omega (arith, lt, token_size (tree_at whole n) c.requires.is_token) in
    let d = c.start_at-start.result + length c.args.new.now in
    let fits = fits_behind whole n k (n + size (tree_at whole n)) 1 c.end_at-from.result (length c.args.new.now) c.requires.is_row refl
    (few (goal.at.restarted-requires-clause-fits c).After-len-count)
    (omega (arith, c.requires.fits, length-spliced whole n c.args.new.now c.requires.is_row)) c.end_at-from.ensures.value later in_range d (omega (arith, c.start_at-start.ensures)) in
    omega (arith, fits.byte_fits, ap (λ l. (get_or l k no_row).start) w.rows_are)

pub returns-in-Some : goal.returns-in-Some
returns-in-Some c =
    let w = shown _ _ _ c.self.view_is c.self.invariant in
    c.in-Some.ensures
    ∙ token_restarted c.args.self.now c.args.n c.requires.is_row c.args.kind c.args.new.now c.self.inside.rows c.end_at-from.result _ c.requires.is_token (sym c.kind_at.ensures ∙ c.if-same_kind.ensures.0 refl) (kept_are _ _ _ w)
    c.end_at-from.ensures.value (omega (arith, c.start_at-start.ensures))
