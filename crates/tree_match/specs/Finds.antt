-- The places of a tree where rules match: the outermost, and those inside what stands for
-- placeholders.
use Rattle.std.specs.Prelude.{ℕ, ◌==◌, Bool, false, not, ◌&&◌, if◌then◌else◌, List, [], ◌∷◌, length, Option, Some, None, option_map, map, nat_le}
use Rattle.std.specs.Option.{option_and_then}
use Rattle.tree_model.specs.Tree.{forest_of_children, is_token}
use Rattle.tree_model.specs.Cursor.{Cursor, focus, range_of, range_start, at_node, descendants_of}
use Rattle.std.specs.List.{filter}
use Rattle.text_size.specs.TextRange.{Bounds}
use Rattle.lossless_tree.specs.Trees.{Siblings, first_of}
use Rattle.ras_node.specs.Nodes.{kind_at}
use Rattle.tree_match.specs.declared.rule.Rule.{Rule}
use Rattle.tree_match.specs.declared.rule.Form.{Form}
use Rattle.tree_match.specs.declared.places.Match.{Match}
use Rattle.tree_match.specs.Runs.{run_range}
use Rattle.tree_match.specs.Fields.{is_in_short}
use Rattle.tree_match.specs.Matching.{Values, form_at, first_rule}

-- a rule, which of its forms, where it matches, where what stands for each placeholder is, and
-- where if that is a node
pub record Occurrence : Type 0 where
  pub rule : ℕ
  pub form : ℕ
  pub range : Bounds
  pub values : List (Option Bounds)
  pub nodes : List (Option Bounds)

abbrev pub occurrence_of : Match → Occurrence
occurrence_of m = record { rule = m.rule; form = m.form; range = m.range; values = m.values.items; nodes = m.nodes.items }

abbrev pub ranges_of : Values → List (Option Bounds)
ranges_of vs = map (option_map run_range) vs

-- of a value, if it is no token
abbrev pub node_range : Siblings → Option Bounds
node_range s = if is_token (first_of s.trees) then None else Some (run_range s)

abbrev pub nodes_of : Values → List (Option Bounds)
nodes_of vs = map (option_and_then node_range) vs

-- the children of a node
abbrev pub inside_of : Cursor → Siblings
inside_of c = record { trees = forest_of_children (focus c); start = range_start c }

-- the first rule that matches a node
abbrev pub match_at : List Rule → Cursor → Option Occurrence
match_at rules c =
    option_map (λ f. record { rule = f.0; form = f.1; range = range_of c; values = ranges_of f.2; nodes = nodes_of f.2 })
    (first_rule rules (kind_at c) (inside_of c))

-- the template of a form that there may be
abbrev pub has_template : Option Form → Bool
has_template None = false
has_template (Some f) = not (length f.template.items == 0)

-- a match is none if it would be replaced and is a field without a `:`, whose name would change
abbrev pub kept : List Rule → Cursor → Option Occurrence → Option Occurrence
kept rules c None = None
kept rules c (Some m) = if has_template (form_at rules m.rule m.form) && is_in_short c then None else Some m

abbrev pub kept_at : List Rule → Cursor → Option Occurrence
kept_at rules c = kept rules c (match_at rules c)

-- the ranges that may still be searched, without those that end where a node starts, or before
abbrev pub drop_behind : ℕ → List Bounds → List Bounds
drop_behind n [] = []
drop_behind n (r ∷ rs) = if nat_le r.end n then drop_behind n rs else r ∷ rs

-- a range is in the next one
abbrev pub is_free : List Bounds → Bounds → Bool
is_free [] r = false
is_free (next ∷ rs) r = nat_le next.start r.start && nat_le r.end next.end

-- the ranges that there are, before others
abbrev pub with_some : List (Option Bounds) → List Bounds → List Bounds
with_some [] rs = rs
with_some (None ∷ os) rs = with_some os rs
with_some (Some r ∷ os) rs = r ∷ with_some os rs

-- what is left of a range behind a match in it
abbrev pub behind : Bounds → Bounds → Bounds
behind found next = if nat_le found.end next.end then record { start = found.end; end = next.end } else next

-- a match takes its range out, but for what stands for placeholders
abbrev pub take_out : Option Occurrence → List Bounds → List Bounds
take_out None rs = rs
take_out (Some m) [] = []
take_out (Some m) (next ∷ rs) = with_some m.nodes (behind m.range next ∷ rs)

-- the match at a node that may be searched, and what may be searched behind it
abbrev pub found_at : List Rule → List Bounds → Cursor → Option Occurrence
found_at rules free c = if is_free (drop_behind (range_start c) free) (range_of c) then kept_at rules c else None

abbrev pub free_behind : List Rule → List Bounds → Cursor → List Bounds
free_behind rules free c = take_out (found_at rules free c) (drop_behind (range_start c) free)

abbrev pub with_found : Option Occurrence → List Occurrence → List Occurrence
with_found None ms = ms
with_found (Some m) ms = m ∷ ms

-- the matches among some nodes in preorder
abbrev pub found_from : List Rule → List Bounds → List Cursor → List Occurrence
found_from rules free [] = []
found_from rules free (c ∷ cs) = with_found (found_at rules free c) (found_from rules (free_behind rules free c) cs)

-- the matches in a tree
abbrev pub found_in : List Rule → Cursor → List Occurrence
found_in rules root = found_from rules (range_of root ∷ []) (filter at_node (descendants_of root))
