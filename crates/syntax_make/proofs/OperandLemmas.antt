-- An expression in the place of an operand: the new tree, and whether a pair is asked for, by the
-- operator theorem.
use Rattle.std.proofs.Common.{◌≡◌, ◌↔◌, ◌++◌, ℕ, List, [], ◌∷◌, Bool, true, false, Option, Some, None, refl, sym, ap, subst, ◌∙◌}
use Rattle.tree_model.specs.Tree.{Tree, node, token, Place, subtree}
use Rattle.tree_model.specs.Cursor.{Cursor, focus, parent_of}
use Rattle.tree_model.specs.Edit.{replace}
use Rattle.tree_model.proofs.PlaceLemmas.{places_are_reached}
use Rattle.tree_model.proofs.EditLaws.{subtree-replace}
use Rattle.operator_terms.specs.Term.{Term, Paren, tokens}
use Rattle.operator_terms.specs.Token.{Token, fixed_text}
use Rattle.operator_terms.specs.Sign.{Opens, Closes}
use Rattle.operator_terms.specs.Reading.{Reads, begins_with_angle}
use Rattle.operator_terms.specs.Places.{Part, AtLeast, FitsPlace, tokens_behind}
use Rattle.operator_terms.specs.Put.{put}
use Rattle.operator_terms.proofs.Put.{put_reads, put_in_pair_reads}
use Rattle.operator_trees.specs.Leaves.{leaves_behind}
use Rattle.operator_trees.specs.Operands.{operand_place}
use Rattle.operator_trees.specs.Shown.{Meaning, IsSign, IsTerm, leaf, meaning, paren_form}
use Rattle.operator_trees.proofs.Put.{operand_put, replace-append}
use Rattle.operator_pairs.specs.Pairs.{operand_cursor, angle_behind}
use Rattle.operator_pairs.proofs.Asked.{AskedAt, asked_at}
use Rattle.ras_prec.specs.Headline.{NeedsNone}
use Rattle.ras_prec.specs.Rules.{asks}
use Rattle.ras_prec.proofs.Headline.{fits_where_none}
use Rattle.syntax_make.specs.Replaced.{in_pair, piece_of, meant, needs_pair_at, needs_pair_below}
use Rattle.syntax_make.specs.Operands.{IsOperand, put_piece}

-- ---- the tree

pair_shown : (u : Tree) (s : Term) → meaning u ≡ IsTerm s → meaning (in_pair u) ≡ IsTerm (Paren s)
unfolding fixed_text
pair_shown (token k x) s e = absurd (let bad : IsSign (leaf k x) ≡ IsTerm s = e in cc)
pair_shown (node k c) s e = ap (λ m. paren_form (IsSign Opens ∷ m ∷ IsSign Closes ∷ [])) e

abbrev piece : Bool → Term → Term
piece true s = Paren s
piece false s = s

piece_shown : (pair : Bool) (new : Cursor) (s : Term) → meaning (focus new) ≡ IsTerm s → meaning (piece_of pair new) ≡ IsTerm (piece pair s)
piece_shown true new s e = pair_shown (focus new) s e
piece_shown false new s e = e

put_is : (pair : Bool) (s t : Term) (q : List ℕ) → put (piece pair s) q t ≡ put_piece pair s q t
put_is true s t q = refl
put_is false s t q = refl

pub shown_with : (pair : Bool) (old new r : Cursor) (t s : Term) (i : ℕ) (q : List ℕ) → IsOperand old new r t s i q → meaning (subtree (meant pair old new) r.place) ≡ IsTerm (put_piece pair s (i ∷ q) t)
shown_with pair old new r t s i q h =
    let below : Place = operand_place (i ∷ q) (focus r) t in
    let new_tree : Tree = piece_of pair new in
    let whole : meant pair old new ≡ replace r.tree r.place (replace (focus r) below new_tree) =
    ap (λ c. replace c.tree c.place new_tree) h.at ∙ replace-append r.tree r.place below new_tree in
    ap (λ u. meaning (subtree u r.place)) whole
    ∙ ap meaning (subtree-replace r.tree r.place (replace (focus r) below new_tree) ((places_are_reached r.tree r.place).0 h.is_place))
    ∙ operand_put (piece pair s) new_tree (piece_shown pair new s h.own) (i ∷ q) (focus r) (AtLeast 0) t h.held h.shows h.has
    ∙ ap IsTerm (put_is pair s t (i ∷ q))

-- ---- the pair

none_more : (ts following : List Token) → begins_with_angle following ≡ false → begins_with_angle (ts ++ following) ≡ begins_with_angle ts
none_more [] following h = h
none_more (t ∷ ts) following h = refl

none_where : (old new : Cursor) → needs_pair_at new old ≡ false → (parent : Cursor) → parent_of old ≡ Some parent → NeedsNone new old
none_where old new h parent is = (parent, is, subst (λ o. needs_pair_below o new old ≡ false) is h)

where_none : (old new : Cursor) → NeedsNone new old → needs_pair_at new old ≡ false
where_none old new n = subst (λ o. needs_pair_below o new old ≡ false) (sym n.1) n.2

pub bare_where_it_reads : (old new r : Cursor) (t s : Term) (i : ℕ) (q : List ℕ) → IsOperand old new r t s i q → needs_pair_at new old ≡ false ↔ Reads 0 (tokens (put s (i ∷ q) t)) (put s (i ∷ q) t)
bare_where_it_reads old new r t s i q h =
    let place : Cursor = operand_cursor r t (i ∷ q) in
    let asked : AskedAt r t (i ∷ q) h.held = asked_at r t i q h.held h.shows h.has in
    let fits : NeedsNone new place ↔ FitsPlace h.held.demand (angle_behind r t (i ∷ q)) s = fits_where_none r t s i q h.held new h.shows h.has h.own in
    let same : angle_behind r t (i ∷ q) ≡ begins_with_angle (tokens_behind (i ∷ q) t) = none_more (tokens_behind (i ∷ q) t) (leaves_behind r.tree r.place) h.behind in
    let reads = put_reads t s (i ∷ q) h.held.demand h.held.term h.reads h.reads_own h.has in (
      (λ none. reads.0 (subst (λ b. FitsPlace h.held.demand b s) same (fits.0 (none_where place new (subst (λ c. needs_pair_at new c ≡ false) h.at none) asked.parent asked.is_parent)))),
      (λ r. subst (λ c. needs_pair_at new c ≡ false) (sym h.at) (where_none place new (fits.1 (subst (λ b. FitsPlace h.held.demand b s) (sym same) (reads.1 r))))),
    )

pub paired_reads : (old new r : Cursor) (t s : Term) (i : ℕ) (q : List ℕ) → IsOperand old new r t s i q → Reads 0 (tokens (put (Paren s) (i ∷ q) t)) (put (Paren s) (i ∷ q) t)
paired_reads old new r t s i q h = put_in_pair_reads t s (i ∷ q) h.held.demand h.held.term h.reads h.reads_own h.has
