-- Why a run of siblings is not replaced.
use Rattle.std.proofs.Common.{◌≡◌, ℕ, List, [], ◌∷◌, sym, subst, inl, inr}
use Rattle.std.specs.Prelude.{Result, Ok, Err, IfErr}
use Rattle.tree_model.specs.Cursor.{Cursor}
use Rattle.tree_edits.specs.declared.error.ChangeError.{ChangeError}
use Rattle.tree_edits.specs.declared.error.ChangeError.TheVariants.{OtherTree, NotSiblings, Root, Token, Replaced, InReplaced, ChangedInside, TooLong, Memory}
use Rattle.tree_edits.specs.Session.{Session}
use Rattle.tree_edits.specs.Run.{IsRunRefused, IsFirstRefused}
use Rattle.syntax_editor.specs.Annotated.{Editing}
use Rattle.syntax_editor.specs.Spot.{row_at}
use Rattle.syntax_editor.specs.Editor.{IsRunRefusedAt}

-- rows do not say that a tree is another one
not_other : (s : Session) (ks : List ℕ) → IsFirstRefused s ks OtherTree → ⊥
not_other s [] r = r
not_other s (k ∷ ks) (inl r) = r
not_other s (k ∷ ks) (inr r) = not_other s ks r.1

reason : (e : Editing) (c d : Cursor) (x : ChangeError) → c.tree ≡ e.session.tree → d.tree ≡ e.session.tree → IsRunRefused e.session (row_at c) (row_at d) x → IsRunRefusedAt e c d x
reason e c d OtherTree first last (ks, run, r) = absurd (not_other e.session (row_at c ∷ ks) r)
reason e c d NotSiblings first last r = (first, last, r)
reason e c d Root first last r = (first, last, r)
reason e c d Token first last r = (first, last, r)
reason e c d Replaced first last r = (first, last, r)
reason e c d InReplaced first last r = (first, last, r)
reason e c d ChangedInside first last r = (first, last, r)
reason e c d TooLong first last r = (first, last, r)
reason e c d Memory first last r = (first, last, r)

pub run_refused_at : {T : Type 0} (r : Result T ChangeError) (e : Editing) (c d : Cursor) (n m : ℕ) → c.tree ≡ e.session.tree → d.tree ≡ e.session.tree → n ≡ row_at c → m ≡ row_at d
    → IfErr r (IsRunRefused e.session n m) → IfErr r (IsRunRefusedAt e c d)
run_refused_at (Ok x) e c d n m first last is_n is_m h = tt
run_refused_at (Err x) e c d n m first last is_n is_m h = reason e c d x first last (subst (λ k. IsRunRefused e.session k (row_at d) x) is_n (subst (λ k. IsRunRefused e.session n k x) is_m h))
