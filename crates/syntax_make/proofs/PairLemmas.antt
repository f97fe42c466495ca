-- The tree that the events of an empty pair build.
use Rattle.std.proofs.Common.{◌≡◌, List, [], ◌∷◌, ◌++◌, true, false, Bool, inl, inr, refl, ap, sym, ◌∙◌, subst}
use Rattle.std.specs.Prelude.{codes}
use Rattle.syntax_kind.specs.declared.syntax_kind.TheConstants.SyntaxKind.{PAREN_EXPR, L_PAREN, R_PAREN, ERROR}
use Rattle.tree_model.specs.Tree.{Tree, Forest, nil, cons, child_at, Place, text}
use Rattle.tree_model.specs.Cursor.{Cursor, IsRoot, focus}
use Rattle.tree_model.specs.Edit.{root_of}
use Rattle.tree_model.specs.Events.{Event, enter, leaf, exit, BuildsNode, Builds, events_of}
use Rattle.tree_model.proofs.Balance.{builds-events_of, builds_one}
use Rattle.tree_model.specs.Placed.{IsPlaced}
use Rattle.tree_model.specs.Equality.{is_same_cursor}
use Rattle.tree_model.specs.EqualityLaws.{cursor_Decides}
use Rattle.tree_model.proofs.EditLaws.{replaced_text}
use Rattle.ras_front_end.specs.declared.edition.Edition.{Edition}
use Rattle.ras_front_end.specs.Front.{Front}
use Rattle.ras_front_end.specs.Parsed.{Parsed, IsParseOf}
use Rattle.syntax_make.specs.declared.error.ReplaceExprError.{ReplaceExprError}
use Rattle.syntax_make.specs.declared.error.ReplaceExprError.TheVariants.{ReadsOtherwise, TooLong, Memory}
use Rattle.syntax_make.specs.Replaced.{empty_pair, in_pair, meant, entry_of, IsBare, IsTextWith, IsTooLong, IsNotReplaced, IsReadOrNot}

abbrev pub pair_events : List Event
pair_events = enter PAREN_EXPR ∷ (leaf L_PAREN (codes "(") ∷ (enter ERROR ∷ (exit ∷ (leaf R_PAREN (codes ")") ∷ (exit ∷ [])))))

root_again : (root : Cursor) → IsRoot root → root ≡ root_of root.tree
root_again root h = ap (λ (p : Place). let c : Cursor = record { tree = root.tree; place = p } in c) h

built : (t : Tree) → Builds pair_events (cons t nil) → t ≡ empty_pair
built t h = ap (λ f. child_at f 0) (builds_one h (builds-events_of (cons empty_pair nil)))

pub pair_built : (es : List Event) (root : Cursor) → BuildsNode es root.tree → IsRoot root → es ≡ pair_events → root ≡ root_of empty_pair
pair_built es root b r e =
    root_again root r ∙ ap root_of (built root.tree (subst (λ (l : List Event). Builds l (cons root.tree nil)) e b.0))

-- the text of a tree with a piece in the place of an expression
pub put_bare : (front : Front) (edition : Edition) (old new root : Cursor) → IsPlaced old → IsBare front edition old new root
    → IsTextWith old (focus new) (text root.tree)
put_bare front edition old new root placed is =
    ap (λ (c : Cursor). text c.tree) is.root_is ∙ (replaced_text old.tree old.place (focus new) placed.is_place).0

pub put_paired : (old new root : Cursor) → IsPlaced old → root ≡ root_of (meant true old new) → IsTextWith old (in_pair (focus new)) (text root.tree)
put_paired old new root placed e =
    ap (λ (c : Cursor). text c.tree) e ∙ (replaced_text old.tree old.place (in_pair (focus new)) placed.is_place).0

-- errors of the pair, and of the tree with it
pub pair_too_long : (front : Front) (edition : Edition) (old new : Cursor) (e : ReplaceExprError) → IsTooLong (in_pair (focus new)) e
    → IsNotReplaced front edition old new e
pair_too_long front edition old new ReadsOtherwise h = absurd h
pair_too_long front edition old new TooLong h = inr (inl h)
pair_too_long front edition old new Memory h = tt

pub paired_too_long : (front : Front) (edition : Edition) (old new : Cursor) (e : ReplaceExprError) → IsTooLong (meant true old new) e
    → IsNotReplaced front edition old new e
paired_too_long front edition old new ReadsOtherwise h = absurd h
paired_too_long front edition old new TooLong h = inr (inr h)
paired_too_long front edition old new Memory h = tt

-- a parse of a tree's text, and whether it is the tree
pub read_or_not : (front : Front) (edition : Edition) (root other : Cursor) (p : Parsed) (b : Bool)
    → IsRoot root → other ≡ root_of p.tree
    → IsParseOf (text (focus root)) (front.parsed (entry_of root.tree) edition (text (focus root))) p
    → b ≡ is_same_cursor other root → IsReadOrNot front edition root.tree b
read_or_not front edition root other p true r o is e = record {
  parse = p;
  parsed = subst (λ (c : Cursor). IsParseOf (text (focus c)) (front.parsed (entry_of root.tree) edition (text (focus c))) p) (root_again root r) is;
  same = ap (λ (c : Cursor). c.tree) (sym o ∙ (cursor_Decides other root).0 (sym e));
}
read_or_not front edition root other p false r o is e = record {
  parse = p;
  parsed = subst (λ (c : Cursor). IsParseOf (text (focus c)) (front.parsed (entry_of root.tree) edition (text (focus c))) p) (root_again root r) is;
  other = λ same. (let yes : is_same_cursor other root ≡ true = (cursor_Decides other root).1 (o ∙ ap root_of same ∙ sym (root_again root r)) in
      let bad : false ≡ true = e ∙ yes in cc);
}
