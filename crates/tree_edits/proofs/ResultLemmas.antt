-- What a refused call says.
use Rattle.std.proofs.Common.{◌≡◌, ◌≤◌, ◌^◌, length, refl}
use Rattle.std.specs.Prelude.{Result, Ok, Err, IfErr, OnErr, IsErrOf}
use Rattle.tree_model.specs.Tree.{text}
use Rattle.tree_edits.specs.declared.error.ChangeError.{ChangeError}
use Rattle.tree_edits.specs.declared.error.ChangeError.TheVariants.{OtherTree, NotSiblings, Root, Token, Replaced, InReplaced, ChangedInside, TooLong, Memory}
use Rattle.tree_edits.specs.Session.{Session, result_of}
use Rattle.tree_edits.specs.Refused.{IsNotMade}

-- the end of a session is refused for two reasons
pub not_made : {T : Type 0} (r : Result T ChangeError) (s : Session) → (IsErrOf r TooLong → 2 ^ 32 ≤ length (text (result_of s))) → IfErr r (λ e. (e ≡ TooLong → ⊥) → e ≡ Memory) → IfErr r (IsNotMade s)
not_made (Ok x) s h k = tt
not_made (Err TooLong) s h k = h refl
not_made (Err Memory) s h k = tt
not_made (Err OtherTree) s h k = (let no : OtherTree ≡ Memory = k (λ e. (let n : OtherTree ≡ TooLong = e in cc)) in cc)
not_made (Err NotSiblings) s h k = (let no : NotSiblings ≡ Memory = k (λ e. (let n : NotSiblings ≡ TooLong = e in cc)) in cc)
not_made (Err Root) s h k = (let no : Root ≡ Memory = k (λ e. (let n : Root ≡ TooLong = e in cc)) in cc)
not_made (Err Token) s h k = (let no : Token ≡ Memory = k (λ e. (let n : Token ≡ TooLong = e in cc)) in cc)
not_made (Err Replaced) s h k = (let no : Replaced ≡ Memory = k (λ e. (let n : Replaced ≡ TooLong = e in cc)) in cc)
not_made (Err InReplaced) s h k = (let no : InReplaced ≡ Memory = k (λ e. (let n : InReplaced ≡ TooLong = e in cc)) in cc)
not_made (Err ChangedInside) s h k = (let no : ChangedInside ≡ Memory = k (λ e. (let n : ChangedInside ≡ TooLong = e in cc)) in cc)

pub on_err : {T E : Type 0} (r : Result T E) (P : Type 0) → P → OnErr r P
on_err (Ok x) P h = tt
on_err (Err e) P h = h
