use Rattle.operator_terms.proofs.Rows.{grouping-right, ranges-right, prefixes-right, postfixes-right, casts-right, no_chain, method_read}
use Rattle.operator_terms.proofs.laws.worked_terms.Goals as goal

pub returns : goal.returns
returns c = record {
  grouping = grouping-right;
  ranges = ranges-right;
  prefixes = prefixes-right;
  postfixes = postfixes-right;
  casts = casts-right;
  no_chain = no_chain;
  method = method_read;
}
