-- Two trees, read as walks that enter and leave each node and token.
use Rattle.std.specs.Prelude.{◌≡◌, ℕ, Bool, true, false, not, ◌&&◌, ◌||◌, List, [], ◌∷◌, ◌++◌, Option, Some, None, map, get_or}
use Rattle.std.specs.List.{filter}
use Rattle.syntax_kind.specs.declared.syntax_kind.SyntaxKind.{SyntaxKind}
use Rattle.syntax_kind.specs.declared.syntax_kind.SyntaxKind.TheVariants.{Token}
use Rattle.syntax_kind.specs.declared.syntax_kind.token_kind.TokenKind.TheVariants as token
use Rattle.lossless_tree.specs.declared.cursor.preorder.WalkEvent.{WalkEvent}
use Rattle.lossless_tree.specs.declared.cursor.preorder.WalkEvent.TheVariants.{Enter, Leave}
use Rattle.lossless_tree.specs.declared.cursor.element.NodeOrToken.{NodeOrToken}
use Rattle.lossless_tree.specs.declared.cursor.element.NodeOrToken.TheVariants as element
use Rattle.lossless_tree.specs.Element.{is_trivia_element}
use Rattle.lossless_tree.specs.WalkEvent.{walk_event}
use Rattle.tree_model.specs.Tree.{text}
use Rattle.syntax_kind.specs.declared.syntax_kind.TheConstants.SyntaxKind.{PAREN_EXPR, PAREN_PAT}
use Rattle.tree_model.specs.Cursor.{Cursor, focus, range_start, walk_of}
use Rattle.ras_node.specs.Nodes.{kind_at, is_of_kind}
use Rattle.rust_report.specs.declared.same.Trivia.{Trivia}
use Rattle.rust_report.specs.declared.same.Trivia.TheVariants.{Kept, Aside}
use Rattle.rust_report.specs.declared.same.Difference.{Difference}

abbrev pub Element : Type 0
Element = NodeOrToken Cursor Cursor

abbrev pub Event : Type 0
Event = WalkEvent Element

abbrev pub element_in : Event → Element
element_in (Enter x) = x
element_in (Leave x) = x

abbrev pub is_paren : SyntaxKind → Bool
is_paren (Token token.L_PAREN) = true
is_paren (Token token.R_PAREN) = true
is_paren _ = false

-- the mark of an offset; false past the last mark
abbrev pub is_marked : List Bool → ℕ → Bool
is_marked marks o = get_or marks o false

-- a pair of parentheses around an expression or a pattern
abbrev pub is_pair : Cursor → Bool
is_pair c = is_of_kind PAREN_EXPR c || is_of_kind PAREN_PAT c

-- a pair of parentheses that starts at a marked byte, or a parenthesis that does
abbrev pub is_left_out : List Bool → Element → Bool
is_left_out marks (element.Node c) = is_pair c && is_marked marks (range_start c)
is_left_out marks (element.Token c) = is_paren (kind_at c) && is_marked marks (range_start c)

-- white space or a comment, where these are passed over
abbrev pub is_aside : Trivia → Element → Bool
is_aside Kept x = false
is_aside Aside x = is_trivia_element x

abbrev pub counts_element : Trivia → List Bool → Element → Bool
counts_element trivia marks x = not (is_aside trivia x) && not (is_left_out marks x)

abbrev pub counts : Trivia → List Bool → Event → Bool
counts trivia marks e = counts_element trivia marks (element_in e)

-- the events of a walk that count
abbrev pub counted : Trivia → List Bool → List (Bool × Cursor) → List Event
counted trivia marks walk = filter (counts trivia marks) (map walk_event walk)

-- this is the first of some events, and the others are left; no event if there are no events
abbrev pub IsNext : List Event → Option Event → List Event → Type 0
IsNext old None new = (old ≡ []) × (new ≡ [])
IsNext old (Some e) new = old ≡ e ∷ new

-- the kind, and a token's text
abbrev pub shown : Element → SyntaxKind × Option (List ℕ)
shown (element.Node c) = (kind_at c, None)
shown (element.Token c) = (kind_at c, Some (text (focus c)))

-- whether it is entered or left, and what
abbrev pub step : Event → Bool × (SyntaxKind × Option (List ℕ))
step (Enter x) = (true, shown x)
step (Leave x) = (false, shown x)

-- what the walk of a tree shows, without what the marks leave out
abbrev pub steps_of : Trivia → List Bool → Cursor → List (Bool × (SyntaxKind × Option (List ℕ)))
steps_of trivia marks c = map step (counted trivia marks (walk_of c))

-- the first of some events, or None if there are no events
abbrev pub first_event : List Event → Option Event
first_event [] = None
first_event (e ∷ es) = Some e

abbrev pub first_step : List Event → Option (Bool × (SyntaxKind × Option (List ℕ)))
first_step [] = None
first_step (e ∷ es) = Some (step e)

-- two lists of events begin alike, and go on differently with these events
pub record IsFirstDifference (old new : List Event) (d : Difference) : Type 0 where
  pub front : List Event
  pub behind : List Event
  pub other : List Event
  pub rest : List Event
  pub begins : old ≡ front ++ behind
  pub begins_so : new ≡ other ++ rest
  pub alike : map step front ≡ map step other
  pub differ : first_step behind ≡ first_step rest → ⊥
  pub old_event : d.old ≡ first_event behind
  pub new_event : d.new ≡ first_event rest
