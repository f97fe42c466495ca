use Rattle.rust_report.proofs.StepLemmas.{node_same, token_same}
use Rattle.rust_report.proofs.same.is_same_element.Goals as goal

pub returns-in-Node-Node : goal.returns-in-Node-Node
returns-in-Node-Node c =
    node_same c.args.a.now c.args.b.now c.in-Node-Node.a c.in-Node-Node.b c.to_raw.result c.to_raw-in-Node-Node.result c.kind.result c.kind-in-Node-Node.result
    c.in-Node-Node.is-0 c.in-Node-Node.is-1 c.kind.ensures c.kind-in-Node-Node.ensures c.to_raw.ensures c.to_raw-in-Node-Node.ensures

pub returns-then-to_raw : goal.returns-then-to_raw
returns-then-to_raw c =
    token_same c.args.a.now c.args.b.now c.in-Token-Token.a c.in-Token-Token.b c.to_raw-in-Token-Token.result c.to_raw-in-Token-Token-2.result c.kind-in-Token-Token.result c.kind-in-Token-Token-2.result
    c.text.result.now c.text-then-to_raw.result.now c.is_same_text.result
    c.in-Token-Token.is-0 c.in-Token-Token.is-1 c.kind-in-Token-Token.ensures c.kind-in-Token-Token-2.ensures c.to_raw-in-Token-Token.ensures c.to_raw-in-Token-Token-2.ensures c.if-to_raw.true
    c.text.ensures c.text-then-to_raw.ensures c.is_same_text.ensures
