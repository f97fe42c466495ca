use Rattle.document_laws.proofs.Leaves.{leaves_at, one_token, places_part}
use Rattle.document_laws.proofs.laws.leaves_of_steps_are_at_places.Goals as goal

pub returns-clause-leaves : goal.returns-clause-leaves
returns-clause-leaves x a old c before behind k t h whole = leaves_at a old c before behind k t h whole

pub returns-clause-bytes : goal.returns-clause-bytes
returns-clause-bytes c t p q at h k = one_token t p q at h k

pub returns-clause-parts : goal.returns-clause-parts
returns-clause-parts c steps s t p cuts built at = places_part steps s t p cuts built at
