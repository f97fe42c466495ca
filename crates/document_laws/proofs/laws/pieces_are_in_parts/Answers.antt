use Rattle.document_laws.proofs.Parting.{pieces_stand}
use Rattle.document_laws.proofs.laws.pieces_are_in_parts.Goals as goal

pub returns : goal.returns
returns c e whole t i p k w f r reading u small head few built at sub chosen piece few_made =
    pieces_stand c.calls_make_their_own.ensures c.sealed_calls_leave_nothing.ensures c.plain_texts_have_no_head.ensures.plain
    e whole t i p k w f r reading u small head few built at sub chosen piece few_made
