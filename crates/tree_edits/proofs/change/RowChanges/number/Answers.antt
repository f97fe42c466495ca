use Rattle.std.proofs.Common.{◌≡◌, ℕ, ◌+◌, ◌∷◌, ◌++◌, [], List, length, get_or, sym, ap, ◌∙◌, arith}
use Rattle.std.proofs.Math.ListN.{set}
use Rattle.std.proofs.lemmas.List.{get_or_read}
use Rattle.tree_edit_model.specs.Changes.{Change, change_at}
use Rattle.tree_edits.proofs.StoreLemmas.{new_number}
use Rattle.tree_edits.proofs.change.RowChanges.number.Goals as goal

pub returns-clause-same : goal.returns-clause-same
returns-clause-same c k =
    let marks : List ℕ = c.args.self.now.marks.items in
    let changes : List Change = c.args.self.now.changes.items in
    let count : c.len-count.result ≡ length changes = omega (arith, c.len-count.ensures, c.args.self.now.changes.ok.0) in
    let z : c.index-mark.result.now ≡ 0 = omega (arith, c.if-mark-gt0.false) in
    let none : get_or marks c.args.row 0 ≡ 0 = sym (get_or_read marks c.args.row c.index-mark.result.now c.requires c.index-mark.ensures 0) ∙ z in
    ap (λ n. change_at (set marks c.args.row (n + 1)) c.push.new.self.items k) count
    ∙ ap (λ l. change_at (set marks c.args.row (length changes + 1)) l k) (c.in_ok-push.ensures.items ∙ ap (λ x. changes ++ x ∷ []) c.new.ensures)
    ∙ new_number marks changes c.args.row k c.requires c.args.self.now.marked none
