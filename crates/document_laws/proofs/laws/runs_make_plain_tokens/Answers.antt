use Rattle.document_laws.proofs.Plain.{runs_plain, rust_plain}
use Rattle.document_laws.proofs.laws.runs_make_plain_tokens.Goals as goal

pub returns-clause-runs : goal.returns-clause-runs
returns-clause-runs c g rule ts p i k signs e = runs_plain g rule ts p i k signs e

pub returns-clause-rust : goal.returns-clause-rust
returns-clause-rust c i k e = rust_plain i k e
