-- Changes of a tree, one by one.
use Rattle.std.proofs.Common.{◌≡◌, ◌⊎◌, ℕ, ◌+◌, ◌<◌, ◌≤◌, List, length, drop, get_or, inl, inr, refl, ap, sym, ◌∙◌, subst, append-nil}
use Rattle.std.proofs.lemmas.List.{drop_more, drop_all}
use Rattle.tree_model.specs.Tree.{Tree, Place, text}
use Rattle.tree_model.specs.Cursor.{Cursor, IsRoot, focus}
use Rattle.tree_model.specs.Events.{BuildsNode}
use Rattle.tree_model.proofs.Refusals.{built_text}
use Rattle.tree_edits.specs.Refused.{IsNotMade}
use Rattle.tree_edits.specs.declared.error.ChangeError.{ChangeError}
use Rattle.tree_edits.specs.declared.error.ChangeError.TheVariants as refused
use Rattle.syntax_editor.specs.Annotated.{Editing, IsNewEditing}
use Rattle.ras_c.specs.declared.change_rows.ChangeRow.{ChangeRow}
use Rattle.ras_c.specs.ChangeRows.{change_status, events_with, IsPut, IsNotPut, ArePut, AreNotPut, IsUnchangedBy}

-- the node with one token has its text
pub node_text : (t : List ℕ) (root : Cursor) → BuildsNode (events_with t) root.tree → IsRoot root → text (focus root) ≡ t
node_text t root b at = ap (λ (p : Place). text (focus (record root { place = p }))) at ∙ built_text (events_with t) root.tree b ∙ append-nil t

module _ (tree : Tree) (texts : List ℕ) (old : Editing) (rows : List ChangeRow) (i : ℕ) (d : ChangeRow) (lt : i < length rows) where
  -- a change, and then those behind it
  pub put_first : (next new : Editing) → IsPut tree texts old (get_or rows i d) next → ArePut tree texts next (drop (i + 1) rows) new → ArePut tree texts old (drop i rows) new
  put_first next new p k = subst (λ l. ArePut tree texts old l new) (sym (drop_more rows i d lt)) (next, p, k)

  pub not_behind : (next : Editing) (status : ℕ) → IsPut tree texts old (get_or rows i d) next → AreNotPut tree texts next (drop (i + 1) rows) status → AreNotPut tree texts old (drop i rows) status
  not_behind next status p k = subst (λ l. AreNotPut tree texts old l status) (sym (drop_more rows i d lt)) (inr (next, p, k))

  -- a change that is not made
  pub not_first : (status : ℕ) → IsNotPut tree texts old (get_or rows i d) status → AreNotPut tree texts old (drop i rows) status
  not_first status n = subst (λ l. AreNotPut tree texts old l status) (sym (drop_more rows i d lt)) (inl n)

-- no change is left
pub all_put : (tree : Tree) (texts : List ℕ) (end : Editing) (rows : List ChangeRow) (i : ℕ) → length rows ≤ i → ArePut tree texts end (drop i rows) end
all_put tree texts end rows i le = subst (λ l. ArePut tree texts end l end) (sym (drop_all i rows le)) refl

-- all changes are made, but the new tree is not
pub not_made : (tree : Tree) (texts : List ℕ) (begin end : Editing) (rows : List ChangeRow) (e : ChangeError) (status : ℕ) → IsNewEditing tree begin → ArePut tree texts begin rows end
    → IsNotMade end.session e → status ≡ change_status e → (status ≡ 3) ⊎ IsUnchangedBy tree texts rows status
not_made tree texts begin end rows refused.TooLong status new put long is =
    inr (record { begin = begin; is_new = new; why = inr (record { end = end; are_put = put; status_is = is; is_long = long }) })
not_made tree texts begin end rows refused.Memory status new put made is = inl is
not_made tree texts begin end rows refused.OtherTree status new put made is = absurd made
not_made tree texts begin end rows refused.NotSiblings status new put made is = absurd made
not_made tree texts begin end rows refused.Root status new put made is = absurd made
not_made tree texts begin end rows refused.Token status new put made is = absurd made
not_made tree texts begin end rows refused.Replaced status new put made is = absurd made
not_made tree texts begin end rows refused.InReplaced status new put made is = absurd made
not_made tree texts begin end rows refused.ChangedInside status new put made is = absurd made
