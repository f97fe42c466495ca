use Rattle.std.proofs.Common.{◌+◌, length, drop, sym, ap, ◌∙◌}
use Rattle.std.specs.List.{list_any}
use Rattle.gitignore.specs.Fits.{step, mark_in, is_first, fits, marks_of}
use Rattle.gitignore.proofs.FitsLemmas.{marks_length, begun, piece_on, ended, begins_otherwise}
use Rattle.gitignore.proofs.matching.fits.Goals as goal

pub loop-piece-init : goal.loop-piece-init
loop-piece-init c = (
  marks_length is_first (length c.args.path.now + 1) c.in_ok-row.row.items c.in_ok-row.ensures,
  begun c.args.pieces.now c.args.path.now c.in_ok-row.row.items c.in_ok-row.ensures,
)

pub loop-piece-preserved : goal.loop-piece-preserved
loop-piece-preserved c =
    let rows = c.in_ok-row-2.ensures ∙ ap (λ r. marks_of (step c.piece-item.result c.args.path.now (mark_in r)) (length c.args.path.now + 1)) c.as_slice.ensures.value in (
      marks_length (step c.piece-item.result c.args.path.now (mark_in c.loop-piece.row.items)) (length c.args.path.now + 1) c.in_ok-row-2.row.items rows,
      piece_on c.args.pieces.now c.loop-piece.piece-index c.piece-item.result c.args.path.now c.loop-piece.row.items c.in_ok-row-2.row.items (fits c.args.pieces.now c.args.path.now)
          c.loop-piece-test.true (sym c.piece-item.is) rows c.loop-piece.invariant.1,
    )

pub returns-then-not-is_any : goal.returns-then-not-is_any
returns-then-not-is_any c =
    let rows = c.in_ok-row-2.ensures ∙ ap (λ r. marks_of (step c.piece-item.result c.args.path.now (mark_in r)) (length c.args.path.now + 1)) c.as_slice.ensures.value in
    ended (drop (c.loop-piece.piece-index + 1) c.args.pieces.now) c.args.path.now c.in_ok-row-2.row.items
    (ap (list_any (λ mark. mark)) (sym c.as_slice-in-loop-piece.ensures.value) ∙ sym c.is_any.ensures ∙ c.if-not-is_any.true)
    ∙ piece_on c.args.pieces.now c.loop-piece.piece-index c.piece-item.result c.args.path.now c.loop-piece.row.items c.in_ok-row-2.row.items (fits c.args.pieces.now c.args.path.now)
    c.loop-piece-test.true (sym c.piece-item.is) rows c.loop-piece.invariant.1

pub returns-then-not-may_begin : goal.returns-then-not-may_begin
returns-then-not-may_begin c =
    begins_otherwise c.in-Some.piece.now c.in-Some.field-0-1.now c.args.path.now (sym c.may_begin.ensures ∙ c.if-not-may_begin.true)
    ∙ ap (λ l. fits l c.args.path.now) (sym c.in-Some.ensures.cases.0)
