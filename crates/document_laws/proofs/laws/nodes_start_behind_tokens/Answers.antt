use Rattle.document_laws.proofs.Starting.{nodes_start}
use Rattle.document_laws.proofs.laws.nodes_start_behind_tokens.Goals as goal

pub returns : goal.returns
returns c root attaching text ts es t i p k l w f small cut few plain built at sub clear =
    nodes_start root attaching text ts es t i p k l w f small cut few plain built at sub clear
