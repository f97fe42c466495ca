-- Equal subtrees, parts that are left, and why no form is made.
use Rattle.std.proofs.Common.{◌≡◌, ◌==◌, ◌&&◌, ℕ, suc, Bool, true, false, List, [], ◌∷◌, length, refl, sym, ◌∙◌, inl, inr, arith}
use Rattle.std.proofs.lemmas.Bool.Decides.{nat_tests}
use Rattle.syntax_kind.specs.declared.syntax_kind.SyntaxKind.{SyntaxKind}
use Rattle.tree_model.specs.Tree.{Tree}
use Rattle.tree_model.specs.Cursor.{Cursor}
use Rattle.tree_model.specs.Edit.{root_of}
use Rattle.tree_model.specs.Equality.{is_same_cursor, is_same_tree}
use Rattle.ras_front_end.specs.declared.edition.Edition.{Edition}
use Rattle.ras_front_end.specs.Front.{Front}
use Rattle.syntax_make.specs.declared.error.MakeError.{MakeError}
use Rattle.syntax_make.specs.declared.from_parts.Part.{Part}
use Rattle.syntax_make.specs.declared.from_parts.Pairs.{Pairs}
use Rattle.syntax_make.specs.Failures.{is_misread}
use Rattle.syntax_make.specs.Forms.{Bit, are_parts, IsRefusedWith, IsMisread, IsNoFormOf}

and_true : (b : Bool) → (b && true) ≡ b
and_true true = refl
and_true false = refl

-- two roots are equal if their trees are
pub same_roots : (t u : Tree) → is_same_cursor (root_of t) (root_of u) ≡ is_same_tree t u
same_roots t u = and_true (is_same_tree t u)

-- where no nodes are left, there are the parts if none is left
pub none_left : (ps : List Part) → are_parts ps [] ≡ (length ps == 0)
none_left [] = refl
none_left (p ∷ ps) = no_more (length ps)
  where
    no_more : (n : ℕ) → false ≡ (suc n == 0)
    no_more n = grind (arith, nat_tests)

pub stopped : (front : Front) (edition : Edition) (casts : SyntaxKind → Bool) (bits : List Bit) (pairs : Pairs) (e : MakeError)
    → IsRefusedWith front edition casts pairs bits e → is_misread e ≡ false → IsNoFormOf front edition casts bits e
stopped front edition casts bits pairs e h m = inl (record { pairs = pairs; refused = h; reason = m })

pub misread : (front : Front) (edition : Edition) (casts : SyntaxKind → Bool) (bits : List Bit) (pairs : Pairs) (e : MakeError)
    → IsRefusedWith front edition casts pairs bits e → is_misread e ≡ true → IsMisread front edition casts bits pairs
misread front edition casts bits pairs e h m = record { error = e; refused = h; misread = m }
