-- A builder that is accepted is dumped.
use Rattle.std.proofs.Common.{◌⊎◌, inl, ◌≡◌, ℕ, List, [], ap}
use Rattle.std.specs.Prelude.{Result, Ok}
use Rattle.tree_model.specs.Tree.{Tree}
use Rattle.tree_model.specs.Events.{BuildsNode}
use Rattle.lossless_tree.specs.Dump.{dump_of}
use Rattle.ras_parsing.specs.Draft.{Draft, IsAcceptedDraft}
use Rattle.syntax_tool.specs.declared.refusal.Refusal.{Refusal}
use Rattle.syntax_tool.specs.Output.{DumpsEvents}

pub dumped : (d : Draft) (t : Tree) (out : List ℕ) → d.faults ≡ [] → IsAcceptedDraft d → BuildsNode d.events t → out ≡ dump_of (record { tree = t; place = [] }) → DumpsEvents d.events (Ok out)
dumped d t out h accepted builds is = inl (accepted.events, (t, builds, ap Ok is))
