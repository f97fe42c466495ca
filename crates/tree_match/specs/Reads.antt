-- A tree in which the matches of rules are replaced.
use Rattle.std.specs.Prelude.{◌≡◌, ℕ, ⊤, IsTrue, Bool, true, false, List, [], ◌∷◌, length, Option, Some, None}
use Rattle.syntax_kind.specs.Kinds.{is_same_kind}
use Rattle.tree_model.specs.Tree.{kind_of, text, is_token}
use Rattle.lossless_tree.specs.Trees.{Siblings, is_done, first_of, behind_first, inside_first}
use Rattle.tree_match.specs.declared.bare.Comments.TheVariants.{Passed}
use Rattle.tree_match.specs.declared.rule.Rule.{Rule}
use Rattle.tree_match.specs.declared.rule.Form.{Form}
use Rattle.tree_match.specs.declared.reads.Task.{Task}
use Rattle.tree_match.specs.Bare.{past, bare}
use Rattle.tree_match.specs.Fields.{is_short_first}
use Rattle.tree_match.specs.Same.{is_same}
use Rattle.tree_match.specs.Matching.{Values, form_at, match_template, first_rule}

-- the first rule whose pattern the first of some siblings is, in which of its forms, and the values
abbrev pub rule_at : List Rule → Siblings → Option (ℕ × ℕ × Values)
rule_at rules s = first_rule rules (kind_of (first_of (bare Passed s).trees)) (inside_first (bare Passed s))

mutual
  -- The first of the new siblings is the first of the old ones with the matches of rules replaced.
  pub data FirstReads (rules : List Rule) : Siblings → Siblings → Type 0 where
    -- the same token
    same_token : {old new : Siblings} → is_token (first_of old.trees) ≡ true → is_token (first_of new.trees) ≡ true
        → is_same_kind (kind_of (first_of old.trees)) (kind_of (first_of new.trees)) ≡ true
        → text (first_of old.trees) ≡ text (first_of new.trees) → FirstReads rules old new
    -- where no rule matches: the same field without a `:`, in which nothing is replaced
    same_field : {old new : Siblings} → is_token (first_of old.trees) ≡ false → rule_at rules old ≡ None
        → is_short_first old.trees ≡ true → is_same old new ≡ true → FirstReads rules old new
    -- or any other node of the same kind, whose children are the old ones with the matches in them
    -- replaced
    same_node : {old new : Siblings} → is_token (first_of old.trees) ≡ false → rule_at rules old ≡ None → is_short_first old.trees ≡ false
        → is_token (first_of (bare Passed new).trees) ≡ false
        → is_same_kind (kind_of (first_of (bare Passed old).trees)) (kind_of (first_of (bare Passed new).trees)) ≡ true
        → AllRead rules (inside_first (bare Passed old)) (inside_first (bare Passed new)) → FirstReads rules old new
    -- where a rule matches: the template of its form, in which each placeholder stands for what it
    -- stands for in the match, with the matches in that replaced
    replaced : {old new : Siblings} (n m : ℕ) (form : Form) (olds news : Values) → is_token (first_of old.trees) ≡ false
        → rule_at rules old ≡ Some (n, m, olds) → form_at rules n m ≡ Some form
        → match_template form (length olds) new ≡ Some news
        → ValuesRead rules olds news → FirstReads rules old new

  -- All of the new siblings are the old ones with the matches of rules replaced.
  pub data AllRead (rules : List Rule) : Siblings → Siblings → Type 0 where
    none : {old new : Siblings} → is_done (past Passed old).trees ≡ true → is_done (past Passed new).trees ≡ true → AllRead rules old new
    some : {old new : Siblings} → is_done (past Passed old).trees ≡ false → is_done (past Passed new).trees ≡ false
        → FirstReads rules (past Passed old) (past Passed new)
        → AllRead rules (behind_first (past Passed old)) (behind_first (past Passed new)) → AllRead rules old new

  -- What a placeholder of a template stands for: the same with the matches of rules replaced. A
  -- placeholder that is not in the template has no value there.
  pub data ValueReads (rules : List Rule) : Option Siblings → Option Siblings → Type 0 where
    unused : {old : Option Siblings} → ValueReads rules old None
    used : {old new : Siblings} → AllRead rules old new → ValueReads rules (Some old) (Some new)

  -- The same of each placeholder.
  pub data ValuesRead (rules : List Rule) : Values → Values → Type 0 where
    no_values : ValuesRead rules [] []
    values : {old new : Option Siblings} {olds news : Values} → ValueReads rules old new → ValuesRead rules olds news
        → ValuesRead rules (old ∷ olds) (new ∷ news)

-- the new siblings are the template of a rule, with what its placeholders stand for in the match
pub record IsReplaced (rules : List Rule) (found : ℕ × ℕ × Values) (new : Siblings) : Type 0 where
  pub form : Form
  pub news : Values
  pub is_form : form_at rules found.0 found.1 ≡ Some form
  pub is_template : match_template form (length found.2) new ≡ Some news
  pub values : ValuesRead rules found.2 news

-- the first of the new siblings is the same token as that of the old ones; or a node of the same
-- kind, whose children are the old ones with the matches in them replaced
pub record IsSameToken (old new : Siblings) : Type 0 where
  pub old_token : is_token (first_of old.trees) ≡ true
  pub new_token : is_token (first_of new.trees) ≡ true
  pub kind : is_same_kind (kind_of (first_of old.trees)) (kind_of (first_of new.trees)) ≡ true
  pub same : text (first_of old.trees) ≡ text (first_of new.trees)

pub record IsSameNode (rules : List Rule) (old new : Siblings) : Type 0 where
  pub new_node : is_token (first_of new.trees) ≡ false
  pub kind : is_same_kind (kind_of (first_of old.trees)) (kind_of (first_of new.trees)) ≡ true
  pub inside : AllRead rules (inside_first old) (inside_first new)

-- the first of the old siblings is a field without a `:`, or not, and the first of the new ones is
-- as it has to be where no rule matches
abbrev pub IsNodeBy : Bool → List Rule → Siblings → Siblings → Type 0
IsNodeBy true rules old new = is_same old new ≡ true
IsNodeBy false rules old new = IsSameNode rules (bare Passed old) (bare Passed new)

abbrev pub IsNode : List Rule → Siblings → Siblings → Type 0
IsNode rules old new = IsNodeBy (is_short_first old.trees) rules old new

-- ---- what is still to be compared

abbrev pub TasksRead : List Rule → List Task → Type 0
TasksRead rules [] = ⊤
TasksRead rules (t ∷ ts) = AllRead rules t.old t.new × TasksRead rules ts

-- if a call returned true, and the tasks that it left hold, so do a fact and the tasks that there
-- were
pub record Leads (P : List Rule → Type 0) (ok : Bool) (new old : List Task) : Type 0 where
  pub leads : IsTrue ok → (rules : List Rule) → TasksRead rules new → P rules × TasksRead rules old

-- the same for some rules
pub record LeadsBy (rules : List Rule) (P : Type 0) (ok : Bool) (new old : List Task) : Type 0 where
  pub leads : IsTrue ok → TasksRead rules new → P × TasksRead rules old
