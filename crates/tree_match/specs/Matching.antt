-- A pattern at one place of a tree, and what stands for its placeholders.
use Rattle.std.specs.Prelude.{ℕ, suc, Bool, false, ◌==◌, ◌&&◌, if◌then◌else◌, List, [], ◌∷◌, Option, Some, None, is_none, option_map, length, get_or, set, replicate, nat_lt, slice_get}
use Rattle.std.specs.Option.{option_and_then, option_or}
use Rattle.std.specs.List.{list_any}
use Rattle.syntax_kind.specs.declared.syntax_kind.SyntaxKind.{SyntaxKind}
use Rattle.syntax_kind.specs.Kinds.{is_same_kind}
use Rattle.ras_node.specs.Sets.{is_expr}
use Rattle.lossless_tree.specs.Trees.{Siblings}
use Rattle.tree_match.specs.declared.bare.Comments.{Comments}
use Rattle.tree_match.specs.declared.bare.Comments.TheVariants.{Passed, Kept}
use Rattle.tree_match.specs.declared.condition.Hole.{Hole}
use Rattle.tree_match.specs.declared.part.Part.{Part}
use Rattle.tree_match.specs.declared.part.Part.TheVariants as part
use Rattle.tree_match.specs.declared.part.Comma.{Comma}
use Rattle.tree_match.specs.declared.part.Sort.{Sort}
use Rattle.tree_match.specs.declared.part.Sort.TheVariants as sort
use Rattle.tree_match.specs.declared.rule.Rule.{Rule}
use Rattle.tree_match.specs.declared.rule.Form.{Form}
use Rattle.tree_match.specs.declared.matching.Found.{Found}
use Rattle.tree_match.specs.Conditions.{admits}
use Rattle.tree_match.specs.Walks.{advance, taken, is_part}
use Rattle.tree_match.specs.Lists.{taken_list}
use Rattle.tree_match.specs.Same.{is_same}

-- what stands for each placeholder: a run of siblings, of one or of the elements of a list
abbrev pub Values : Type 0
Values = List (Option Siblings)

-- a value for a placeholder beside the one that it has, which must be the same tree
abbrev pub put_beside : Option Siblings → ℕ → Siblings → Values → Option Values
put_beside None n v vs = Some (set vs n (Some v))
put_beside (Some old) n v vs = if is_same old v then Some vs else None

abbrev pub put : ℕ → Siblings → Values → Option Values
put n v vs = if nat_lt n (length vs) then put_beside (get_or vs n None) n v vs else None

-- the same where the conditions of the placeholder hold
abbrev pub put_held : List Hole → ℕ → Siblings → Values → Option Values
put_held hs n v vs = if admits (slice_get hs n) v then put n v vs else None

-- a value for a placeholder that has none
abbrev pub put_new : ℕ → Siblings → Values → Option Values
put_new n v vs =
    if nat_lt n (length vs) && is_none (get_or vs n None) then Some (set vs n (Some v)) else None

-- the levels and the values behind one part of a pattern, if that is next: a placeholder passes
-- over a node of its sort, where its conditions hold
abbrev pub match_hole : Comments → List Hole → ℕ → Sort → List Siblings → Values → Option (List Siblings × Values)
match_hole cs hs n sort st vs = option_and_then (λ t. option_map (λ ws. (t.1, ws)) (put_held hs n t.0 vs)) (taken cs sort st)

-- a placeholder for a list takes its elements
abbrev pub match_list : Comments → ℕ → Comma → ℕ → List Siblings → Values
    → Option (List Siblings × Values)
match_list cs n c behind st vs =
    option_and_then (λ t. option_map (λ ws. (t.1, ws)) (put_new n t.0 vs)) (taken_list cs c behind st)

abbrev pub match_step : Comments → Part → List Siblings → Values → Option (List Siblings × Values)
match_step cs p st vs = if is_part p (advance cs st).0 then Some ((advance cs st).1, vs) else None

abbrev pub match_part : Comments → List Hole → Part → List Siblings → Values → Option (List Siblings × Values)
match_part cs hs (part.Hole n sort) st vs = match_hole cs hs n sort st vs
match_part cs hs (part.List n c behind) st vs = match_list cs n c behind st vs
match_part cs hs (part.Enter k) st vs = match_step cs (part.Enter k) st vs
match_part cs hs part.Leave st vs = match_step cs part.Leave st vs
match_part cs hs (part.Token k s) st vs = match_step cs (part.Token k s) st vs

-- the values behind all parts
abbrev pub match_from : Comments → List Hole → List Part → List Siblings → Values → Option Values
match_from cs hs [] st vs = Some vs
match_from cs hs (p ∷ ps) st vs = option_and_then (λ r. match_from cs hs ps r.0 r.1) (match_part cs hs p st vs)

-- what stands for n placeholders, if the parts are the first steps of the walk of some siblings
abbrev pub match_parts : Comments → List Hole → List Part → ℕ → Siblings → Option Values
match_parts cs hs ps n s = match_from cs hs ps (s ∷ []) (replicate n None)

-- comments between the tokens of a match do not count, unless the match is replaced
abbrev pub comments_by : List Part → Comments
comments_by [] = Passed
comments_by (p ∷ ps) = Kept

-- what stands for some placeholders, if a node of this kind with these children is the pattern of a
-- form
abbrev pub match_form : List Hole → Form → SyntaxKind → Siblings → Option Values
match_form hs f k s =
    if is_same_kind f.kind k then match_parts (comments_by f.template.items) hs f.inside.items (length hs) s else None

-- the first form whose pattern it is
abbrev pub form_from : ℕ → List Hole → List Form → SyntaxKind → Siblings → Option (ℕ × Values)
form_from n hs [] k s = None
form_from n hs (f ∷ fs) k s = option_or (option_map (λ vs. (n, vs)) (match_form hs f k s)) (form_from (suc n) hs fs k s)

abbrev pub first_form : List Hole → List Form → SyntaxKind → Siblings → Option (ℕ × Values)
first_form hs fs k s = form_from 0 hs fs k s

-- a rule has a form for nodes of a kind
abbrev pub is_for : SyntaxKind → Rule → Bool
is_for k r = list_any (λ f. is_same_kind f.kind k) r.forms.items

abbrev pub match_rule : Rule → SyntaxKind → Siblings → Option (ℕ × Values)
match_rule r k s = first_form r.holes.items r.forms.items k s

-- what stands for n placeholders of a form, if the first of some siblings is its template:
-- conditions are those of the pattern
abbrev pub match_template : Form → ℕ → Siblings → Option Values
match_template f n s = match_parts Passed [] f.template.items n s

-- the first rule whose pattern it is, in one of its forms
abbrev pub first_from : ℕ → List Rule → SyntaxKind → Siblings → Option (ℕ × ℕ × Values)
first_from n [] k s = None
first_from n (r ∷ rs) k s = option_or (option_map (λ f. (n, f.0, f.1)) (match_rule r k s)) (first_from (suc n) rs k s)

abbrev pub first_rule : List Rule → SyntaxKind → Siblings → Option (ℕ × ℕ × Values)
first_rule rules k s = first_from 0 rules k s

-- the same of those of some numbers
abbrev pub match_numbered : List Rule → ℕ → SyntaxKind → Siblings → Option (ℕ × Values)
match_numbered rules n k s = option_and_then (λ r. match_rule r k s) (slice_get rules n)

abbrev pub first_among : List Rule → List ℕ → SyntaxKind → Siblings → Option (ℕ × ℕ × Values)
first_among rules [] k s = None
first_among rules (n ∷ ns) k s =
    option_or (option_map (λ f. (n, f.0, f.1)) (match_numbered rules n k s)) (first_among rules ns k s)

-- form number m of rule number n
abbrev pub form_at : List Rule → ℕ → ℕ → Option Form
form_at rules n m = option_and_then (λ r. slice_get r.forms.items m) (slice_get rules n)

abbrev pub found_of : Found → ℕ × ℕ × Values
found_of f = (f.rule, f.form, f.values.items)

-- what the placeholder with a number stands for in a template
abbrev pub sort_at : ℕ → Part → Option Sort → Option Sort
sort_at n (part.Hole m sort) rest = if m == n then Some sort else rest
sort_at n (part.List m c behind) rest = if m == n then Some sort.List else rest
sort_at n (part.Enter k) rest = rest
sort_at n part.Leave rest = rest
sort_at n (part.Token k s) rest = rest

abbrev pub sort_in : ℕ → List Part → Option Sort
sort_in n [] = None
sort_in n (p ∷ ps) = sort_at n p (sort_in n ps)

-- a form that there may be is that of expressions
abbrev pub is_expr_by : Option Form → Bool
is_expr_by None = false
is_expr_by (Some f) = is_expr f.kind

-- what the placeholder with a number stands for in the template of a form that there may be
abbrev pub sort_by : Option Form → ℕ → Option Sort
sort_by None n = None
sort_by (Some f) n = sort_in n f.template.items
