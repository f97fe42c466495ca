-- One step over children: what is left begins with the child that came.
use Rattle.std.proofs.Common.{◌≡◌, List, [], ◌∷◌, map, cond, Bool, true, false, ◌&&◌, refl, sym, ap, ◌∙◌}
use Rattle.std.specs.Prelude.{None, Some, option_map}
use Rattle.std.specs.List.{filter, find}
use Rattle.syntax_kind.specs.declared.syntax_kind.SyntaxKind.{SyntaxKind}
use Rattle.lossless_tree.specs.declared.cursor.element.NodeOrToken.{NodeOrToken}
use Rattle.lossless_tree.specs.declared.cursor.element.NodeOrToken.TheVariants.{Node, Token}
use Rattle.tree_model.specs.Cursor.{Cursor, at_node}
use Rattle.lossless_tree.specs.Element.{element_of, cursor_of, node_part}
use Rattle.lossless_tree.proofs.ChildSteps.{NodeStep, TokenStep, begins, stands, node_step, token_step}
use Rattle.ras_node.specs.Nodes.{kind_at, has_kind_in}
use Rattle.ras_node.specs.Searches.{first_node, behind, before, has_other_kind, is_node_among, is_token_among, is_other}

-- for each search: the child is found; it is passed over; nothing is left
pub behind_found : (T : SyntaxKind → Bool) (l m : List Cursor) (x : NodeOrToken Cursor Cursor) (b : Bool) → map element_of l ≡ x ∷ map element_of m → b ≡ is_token_among T x → b ≡ true → m ≡ behind T l
behind_found T l m (Node n) b e is passes = (let no : false ≡ true = sym is ∙ passes in cc)
behind_found T l m (Token t) b e is passes =
    let s : TokenStep l m t = token_step l m (Token t) t e refl in
    sym (ap (behind T) s.begins ∙ ap (λ b. cond (b && T (kind_at t)) m (behind T m)) s.is_token ∙ ap (λ b. cond b m (behind T m)) (sym is ∙ passes))

pub behind_passed : (T : SyntaxKind → Bool) (l m : List Cursor) (x : NodeOrToken Cursor Cursor) (b : Bool) → map element_of l ≡ x ∷ map element_of m → b ≡ is_token_among T x → b ≡ false → behind T m ≡ behind T l
behind_passed T l m (Node n) b e is fails =
    let s : NodeStep l m n = node_step l m (Node n) n e refl in
    sym (ap (behind T) s.begins ∙ ap (λ b. cond (b && T (kind_at n)) m (behind T m)) s.is_token)
behind_passed T l m (Token t) b e is fails =
    let s : TokenStep l m t = token_step l m (Token t) t e refl in
    sym (ap (behind T) s.begins ∙ ap (λ b. cond (b && T (kind_at t)) m (behind T m)) s.is_token ∙ ap (λ b. cond b m (behind T m)) (sym is ∙ fails))

-- before the first token of the set T: a node goes on, and so does a token that is none of them
before_node : (T : SyntaxKind → Bool) (l m : List Cursor) (n : Cursor) → NodeStep l m n → NodeStep (before T l) (before T m) n
before_node T l m n s = record {
  begins = ap (before T) s.begins ∙ ap (λ b. cond (b && T (kind_at n)) [] (n ∷ before T m)) s.is_token;
  is_node = s.is_node;
  is_token = s.is_token;
}

-- a search of a list of nodes steps as one of elements does
node_found_by : (S : SyntaxKind → Bool) (l m : List Cursor) (n : Cursor) → NodeStep l m n → S (kind_at n) ≡ true → Some n ≡ first_node S l
node_found_by S l m n s passes =
    sym (ap (first_node S) s.begins
    ∙ ap (λ b. find (has_kind_in S) (cond b (n ∷ filter at_node m) (filter at_node m))) s.is_node
    ∙ ap (λ b. cond b (Some n) (first_node S m)) passes)

pub before_found : (S T : SyntaxKind → Bool) (l m : List Cursor) (x : NodeOrToken Cursor Cursor) (b : Bool) → map element_of l ≡ x ∷ map element_of m → b ≡ is_node_among S x → b ≡ true → node_part x ≡ first_node S (before T l)
before_found S T l m (Token t) b e is passes = (let no : false ≡ true = sym is ∙ passes in cc)
before_found S T l m (Node n) b e is passes = node_found_by S (before T l) (before T m) n (before_node T l m n (node_step l m (Node n) n e refl)) (sym is ∙ passes)

pub before_ended : (S T : SyntaxKind → Bool) (l m : List Cursor) (x : NodeOrToken Cursor Cursor) (b : Bool) → map element_of l ≡ x ∷ map element_of m → b ≡ is_token_among T x → b ≡ true → None ≡ first_node S (before T l)
before_ended S T l m (Node n) b e is passes = (let no : false ≡ true = sym is ∙ passes in cc)
before_ended S T l m (Token t) b e is passes =
    let s : TokenStep l m t = token_step l m (Token t) t e refl in
    sym (ap (first_node S) (ap (before T) s.begins ∙ ap (λ b. cond (b && T (kind_at t)) [] (t ∷ before T m)) s.is_token ∙ ap (λ b. cond b [] (t ∷ before T m)) (sym is ∙ passes)))

pub before_passed : (S T : SyntaxKind → Bool) (l m : List Cursor) (x : NodeOrToken Cursor Cursor) (b d : Bool) → map element_of l ≡ x ∷ map element_of m → b ≡ is_node_among S x → b ≡ false → d ≡ is_token_among T x → d ≡ false → first_node S (before T m) ≡ first_node S (before T l)
before_passed S T l m (Node n) b d e is fails is_t fails_t =
    let s : NodeStep (before T l) (before T m) n = before_node T l m n (node_step l m (Node n) n e refl) in
    sym (ap (first_node S) s.begins
    ∙ ap (λ b. find (has_kind_in S) (cond b (n ∷ filter at_node (before T m)) (filter at_node (before T m)))) s.is_node
    ∙ ap (λ b. cond b (Some n) (first_node S (before T m))) (sym is ∙ fails))
before_passed S T l m (Token t) b d e is fails is_t fails_t =
    let s : TokenStep l m t = token_step l m (Token t) t e refl in
    sym (ap (first_node S) (ap (before T) s.begins ∙ ap (λ b. cond (b && T (kind_at t)) [] (t ∷ before T m)) s.is_token ∙ ap (λ b. cond b [] (t ∷ before T m)) (sym is_t ∙ fails_t))
    ∙ ap (λ b. find (has_kind_in S) (cond b (t ∷ filter at_node (before T m)) (filter at_node (before T m)))) s.is_node)

pub other_found : (S : SyntaxKind → Bool) (l m : List Cursor) (x : NodeOrToken Cursor Cursor) (b : Bool) → map element_of l ≡ x ∷ map element_of m → b ≡ is_other S x → b ≡ true → Some x ≡ option_map element_of (find (has_other_kind S) l)
other_found S l m x b e is passes =
    sym (ap (λ k. option_map element_of (find (has_other_kind S) k)) (begins l m x e)
    ∙ ap (λ b. option_map element_of (cond b (Some (cursor_of x)) (find (has_other_kind S) m))) (sym is ∙ passes)
    ∙ ap Some (stands l m x e))

pub other_passed : (S : SyntaxKind → Bool) (l m : List Cursor) (x : NodeOrToken Cursor Cursor) (b : Bool) → map element_of l ≡ x ∷ map element_of m → b ≡ is_other S x → b ≡ false → find (has_other_kind S) m ≡ find (has_other_kind S) l
other_passed S l m x b e is fails =
    sym (ap (find (has_other_kind S)) (begins l m x e) ∙ ap (λ b. cond b (Some (cursor_of x)) (find (has_other_kind S) m)) (sym is ∙ fails))
