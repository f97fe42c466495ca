-- The tree of one token, and its token.
use Rattle.std.proofs.Common.{◌≡◌, ℕ, List, [], ◌∷◌, Option, Some, refl, ap, sym, ◌∙◌, subst}
use Rattle.std.specs.List.{find}
use Rattle.syntax_kind.specs.declared.syntax_kind.SyntaxKind.{SyntaxKind}
use Rattle.syntax_kind.specs.declared.syntax_kind.TheConstants.SyntaxKind.{SOURCE_FILE}
use Rattle.tree_model.specs.Tree.{Tree, Forest, node, token, nil, cons, child_at, Place}
use Rattle.tree_model.specs.Cursor.{Cursor, IsRoot, descendants_of, at_token}
use Rattle.tree_model.specs.Edit.{root_of}
use Rattle.tree_model.specs.Events.{Event, enter, leaf, exit, BuildsNode, Builds, events_of}
use Rattle.tree_model.proofs.Balance.{builds-events_of, builds_one}
use Rattle.rust_make.specs.Tokens.{lone_root, IsTokenOf}

abbrev lone_tree : SyntaxKind → List ℕ → Tree
lone_tree kind s = node SOURCE_FILE (cons (token kind s) nil)

abbrev lone_events : SyntaxKind → List ℕ → List Event
lone_events kind s = enter SOURCE_FILE ∷ (leaf kind s ∷ (exit ∷ []))

root_again : (root : Cursor) → IsRoot root → root ≡ root_of root.tree
root_again root h = ap (λ (p : Place). let c : Cursor = record { tree = root.tree; place = p } in c) h

built : (kind : SyntaxKind) (s : List ℕ) (t : Tree) → Builds (lone_events kind s) (cons t nil) → t ≡ lone_tree kind s
built kind s t h = ap (λ f. child_at f 0) (builds_one h (builds-events_of (cons (lone_tree kind s) nil)))

pub lone_built : (es : List Event) (kind : SyntaxKind) (s : List ℕ) (root : Cursor) → BuildsNode es root.tree → IsRoot root
    → es ≡ enter SOURCE_FILE ∷ (leaf kind s ∷ (exit ∷ [])) → root ≡ lone_root kind s
lone_built es kind s root b r e =
    root_again root r ∙ ap root_of (built kind s root.tree (subst (λ (l : List Event). Builds l (cons root.tree nil)) e b.0))

abbrev lone_cursor : SyntaxKind → List ℕ → Cursor
lone_cursor kind s = record { tree = lone_tree kind s; place = 0 ∷ [] }

first_is : (kind : SyntaxKind) (s : List ℕ) → find at_token (descendants_of (lone_root kind s)) ≡ Some (lone_cursor kind s)
first_is kind s = refl

same : (a b : Cursor) → Some a ≡ Some b → a ≡ b
same a b e = cc

pub lone_first : (kind : SyntaxKind) (s : List ℕ) (root t : Cursor) → root ≡ lone_root kind s
    → find at_token (descendants_of root) ≡ Some t → IsTokenOf kind s t
lone_first kind s root t is found =
    let found_there : find at_token (descendants_of (lone_root kind s)) ≡ Some t = subst (λ (c : Cursor). find at_token (descendants_of c) ≡ Some t) is found in
    let e : lone_cursor kind s ≡ t = same (lone_cursor kind s) t (sym (first_is kind s) ∙ found_there) in
    subst (λ (c : Cursor). IsTokenOf kind s c) e (record { kind_is = refl; text_is = refl })
