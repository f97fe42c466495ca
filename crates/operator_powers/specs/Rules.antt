-- What the code reads off a node.
use Rattle.std.specs.Prelude.{ℕ, ◌+◌, ◌-◌, [], ◌∷◌, ◌++◌, Bool, true, false, ◌&&◌, ◌||◌, not, cond, Option, Some, None, length, nat_eq, if◌then◌else◌}
use Rattle.syntax_kind.specs.declared.syntax_kind.SyntaxKind.{SyntaxKind}
use Rattle.syntax_kind.specs.declared.syntax_kind.SyntaxKind.TheVariants.{Token as OfToken}
use Rattle.syntax_kind.specs.declared.syntax_kind.token_kind.TokenKind.TheVariants as tok
use Rattle.tree_model.specs.Tree.{Tree, node, token, Forest, nil, cons, text, kind_of, forest_of_children, is_token}
use Rattle.tree_model.specs.Cursor.{Cursor, focus, at_place, range_start, range_end, parent_of}
use Rattle.tree_model.specs.Equality.{is_same_cursor}
use Rattle.operator_terms.specs.Powers.{Powers, pow, operator_powers, is_excused, binds_less}
use Rattle.operator_terms.specs.Places.{ends_in_cast}
use Rattle.operator_trees.specs.Leaves.{leaves_of}
use Rattle.operator_terms.specs.Sign.{Sign, Op, sign_of}
use Rattle.operator_trees.specs.declared.form.Form.{Form}
use Rattle.operator_trees.specs.declared.form.Form.TheVariants as form
use Rattle.operator_trees.specs.Before.{stands_before, kid_at}
use Rattle.operator_trees.specs.Forms.{form_of}
use Rattle.operator_powers.specs.declared.look.Wanted.{Wanted}
use Rattle.operator_powers.specs.declared.look.Wanted.TheVariants as want

abbrev pub sign_powers : Sign → Powers
sign_powers (Op op) = operator_powers op
sign_powers _ = pow 0 0

abbrev pub kind_powers : SyntaxKind → Powers
kind_powers k = sign_powers (sign_of k [])

abbrev pub is_operator_kind : SyntaxKind → Bool
is_operator_kind k = not (nat_eq (kind_powers k).left 0)

abbrev pub wants : Wanted → SyntaxKind → Bool
wants want.Dot (OfToken tok.DOT) = true
wants want.Question (OfToken tok.QUESTION) = true
wants want.Bracket (OfToken tok.L_BRACK) = true
wants want.As (OfToken tok.AS_KW) = true
wants want.Amp (OfToken tok.AMP) = true
wants want.Dots (OfToken tok.DOT2) = true
wants want.Dots (OfToken tok.DOT2EQ) = true
wants want.Opening (OfToken tok.L_PAREN) = true
wants want.Operator k = is_operator_kind k
wants _ k = false

-- the first child token that is wanted: where it starts, and its kind
abbrev pub token_start : Wanted → Forest → ℕ → Option (ℕ × SyntaxKind)
token_start w nil b = None
token_start w (cons (token k t) r) b = cond (wants w k) (Some (b, k)) (token_start w r (b + length t))
token_start w (cons (node k c) r) b = token_start w r (b + length (text (node k c)))

abbrev pub is_wanted : Wanted → Tree → Bool
is_wanted w t = is_token t && wants w (kind_of t)

-- ---- operators and powers of nodes

abbrev pub is_arguments : Form → Bool
is_arguments form.Arguments = true
is_arguments _ = false

abbrev pub is_list : Tree → Bool
is_list t = not (is_token t) && is_arguments (form_of (kind_of t))

-- where the first `(` in the first list of arguments starts
abbrev pub opening_start : Forest → ℕ → Option (ℕ × SyntaxKind)
opening_start nil b = None
opening_start (cons (token k t) r) b = opening_start r (b + length t)
opening_start (cons (node k c) r) b = cond (is_arguments (form_of k)) (token_start want.Opening c b) (opening_start r (b + length (text (node k c))))

-- the operator of a node of a form, by its children and where they start
abbrev pub operator_token : Form → Forest → ℕ → Option (ℕ × SyntaxKind)
operator_token form.Binary c b = token_start want.Operator c b
operator_token form.Range c b = token_start want.Dots c b
operator_token form.Borrow c b = token_start want.Amp c b
operator_token form.Cast c b = token_start want.As c b
operator_token form.Field c b = token_start want.Dot c b
operator_token form.Await c b = token_start want.Dot c b
operator_token form.Method c b = token_start want.Dot c b
operator_token form.Try c b = token_start want.Question c b
operator_token form.Index c b = token_start want.Bracket c b
operator_token form.Call c b = opening_start c b
operator_token _ c b = None

abbrev pub start_or : ℕ → Option (ℕ × SyntaxKind) → ℕ
start_or b None = b
start_or b (Some x) = x.0

-- where the operator of a node starts; where the node does, if it has none
abbrev pub operator_start : Form → Forest → ℕ → ℕ
operator_start f c b = start_or b (operator_token f c b)

abbrev pub powers_or : Option (ℕ × SyntaxKind) → Powers
powers_or None = pow 0 0
powers_or (Some x) = kind_powers x.1

-- the powers of a node of a form, for the forms that a term can have
abbrev pub form_powers : Form → Forest → ℕ → Powers
form_powers form.Prefix c b = pow 0 27
form_powers form.Borrow c b = pow 0 27
form_powers form.Binary c b = powers_or (token_start want.Operator c b)
form_powers form.Range c b = pow 5 5
form_powers form.Field c b = pow 31 32
form_powers form.Await c b = pow 29 0
form_powers form.Try c b = pow 29 0
form_powers form.Cast c b = pow 25 26
form_powers form.Index c b = pow 29 0
form_powers form.Call c b = pow 29 0
form_powers form.Method c b = pow 29 0
form_powers _ c b = pow 0 0

-- the rules on powers
abbrev pub by_power : Powers → Powers → Bool → Bool
by_power own parent before =
    if is_excused own parent before then false
    else (if (nat_eq own.left 11 && nat_eq parent.left 11) || (nat_eq own.left 5 && nat_eq parent.left 5) then true
    else binds_less own parent before)

-- a field that is called
abbrev pub is_field_form : Form → Bool
is_field_form form.Field = true
is_field_form _ = false

abbrev pub is_call_form : Form → Bool
is_call_form form.Call = true
is_call_form _ = false

-- what a node is, and where: its form, its children, where they start and how long it is
abbrev pub stands_before_in : (own : Form) (oc : Forest) (os size from to : ℕ) (parent : Form) (pc : Forest) (ps : ℕ) → Bool
stands_before_in own oc os size from to parent pc ps = stands_before (operator_start own oc os - os) size from to (operator_start parent pc ps)

-- the rules on a called field and on powers
abbrev pub asks : (own : Form) (oc : Forest) (os size from to : ℕ) (parent : Form) (pc : Forest) (ps : ℕ) → Bool
asks own oc os size from to parent pc ps =
    if is_field_form own && is_call_form parent then true
    else by_power (form_powers own oc os) (form_powers parent pc ps) (stands_before_in own oc os size from to parent pc ps)

-- the same of cursors
abbrev pub form_at : Cursor → Form
form_at c = form_of (kind_of (focus c))

abbrev pub asks_at : Cursor → Cursor → Cursor → Bool
asks_at own parent place =
    asks (form_at own) (forest_of_children (focus own)) (range_start own) (length (text (focus own))) (range_start place) (range_end place)
    (form_at parent) (forest_of_children (focus parent)) (range_start parent)

abbrev pub is_foreign : Form → Bool
is_foreign form.Foreign = true
is_foreign _ = false

-- a form of a term
abbrev pub is_term_form : Form → Bool
is_term_form form.NameRef = false
is_term_form form.Segment = false
is_term_form form.Path = false
is_term_form form.PathType = false
is_term_form form.Arguments = false
is_term_form form.Foreign = false
is_term_form _ = true

-- the kid of a node that is its part of this number, as a cursor
abbrev pub kid_place : Cursor → ℕ → Cursor
kid_place c j = at_place c (c.place ++ (kid_at (forest_of_children (focus c)) j).number ∷ [])

-- the rule on a cast before `<`, and the rules on a called field and on powers
abbrev pub operators_ask : Cursor → Cursor → Cursor → (angle : Bool) → Bool
operators_ask own parent place angle = (ends_in_cast (leaves_of (focus own)) && angle) || asks_at own parent place

-- a node's parent, if it has one, is this node
abbrev pub is_own_parent : Cursor → Option Cursor → Bool
is_own_parent parent None = false
is_own_parent parent (Some above) = is_same_cursor above parent

-- Whether `own` needs a pair below a parent: never in a list of arguments, never if it has no form
-- of an operator tree, otherwise by the rules above.
abbrev pub asks_under : (own parent place : Cursor) → (angle : Bool) → Bool
asks_under own parent place angle = not (is_arguments (form_at parent)) && (not (is_foreign (form_at own)) && operators_ask own parent place angle)

-- Whether `own` needs a pair in place of the node or token at `place`: only by the place's own
-- parent.
abbrev pub asks_below : (own parent place : Cursor) → (angle : Bool) → Bool
asks_below own parent place angle = is_own_parent parent (parent_of place) && asks_under own parent place angle
