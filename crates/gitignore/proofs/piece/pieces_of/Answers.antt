use Rattle.gitignore.proofs.PieceLemmas.{piece_read}
use Rattle.gitignore.proofs.piece.pieces_of.Goals as goal

pub loop-rest-preserved : goal.loop-rest-preserved
loop-rest-preserved c =
    piece_read c.args.glob.now c.loop-rest.pieces.items c.push.new.self.items c.loop-rest.is_start c.loop-rest.rest.now c.split_at.result.1.now c.in_ok-piece.field-0
    c.in-Some.piece c.in-Some.used c.loop-rest.invariant c.in_ok-piece.ensures.value c.in_ok-piece.ensures.room c.in-Some.is c.in_ok-push.ensures.items c.split_at.ensures.back
