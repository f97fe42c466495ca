use Rattle.document_laws.proofs.Early.{so_far_few, come_early, pieces_fit}
use Rattle.document_laws.proofs.Few.{events_few, rust_few, short_few}
use Rattle.document_laws.proofs.laws.rust_makes_few_events.Goals as goal

pub returns-clause-runs : goal.returns-clause-runs
returns-clause-runs c g rule ts short = events_few g rule ts short

pub returns-clause-rust : goal.returns-clause-rust
returns-clause-rust c rule e text u small = rust_few rule e text u small

pub returns-clause-short : goal.returns-clause-short
returns-clause-short c rule e text u small = short_few rule e text u small

pub returns-clause-so_far : goal.returns-clause-so_far
returns-clause-so_far c n g rule ts short = so_far_few n g rule ts short

pub returns-clause-early : goal.returns-clause-early
returns-clause-early c e text t p k r o u small = come_early e text t p k r o u small

pub returns-clause-fit : goal.returns-clause-fit
returns-clause-fit c e text q t p k j r s reading o x u small v few = pieces_fit e text q t p k j r s reading o x u small v few
