-- What is read as a part of a file keeps the law of front ends, whatever the grammar makes of it.
use Rattle.std.proofs.Common.{◌≡◌, ℕ, ◌<◌, ◌^◌, List, length, refl, inl, inr, Bool, true, false, Option, Some, None}
use Rattle.std.specs.Prelude.{IsUtf8, nat_lt, if◌then◌else◌}
use Rattle.syntax_kind.specs.declared.syntax_kind.SyntaxKind.{SyntaxKind}
use Rattle.syntax_kind.specs.declared.syntax_kind.SyntaxKind.TheVariants.{Token}
use Rattle.syntax_kind.specs.declared.syntax_kind.token_kind.TokenKind.TheVariants as token
use Rattle.ras_front_end.specs.declared.edition.Edition.{Edition}
use Rattle.ras_front_end.specs.Keeps.{Keeps}
use Rattle.ras_node.specs.Sets.{is_expr, is_meta, is_pat, is_ty}
use Rattle.event_layout.specs.Layout.{outermost_of}
use Rattle.rust_front.specs.declared.top.TopEntryPoint.{TopEntryPoint}
use Rattle.rust_front.specs.declared.top.TopEntryPoint.TheVariants as top
use Rattle.rust_front.specs.Front.{made_of}
use Rattle.rust_front.specs.Laws.{keeps, short_on}
use Rattle.rust_front.specs.Tops.{IsOneOrError, IsTopRoot, one_or_error, point_root_of, point_rule_of, read_at, whole_at}

one_if : (is : SyntaxKind → Bool) (b : Bool) (k : SyntaxKind) → is k ≡ b → IsOneOrError is (if b then k else Token token.ERROR)
one_if is true k e = inl e
one_if is false k e = inr refl

one_root : (is : SyntaxKind → Bool) (o : Option SyntaxKind) → IsOneOrError is (one_or_error is o)
one_root is None = inr refl
one_root is (Some k) = one_if is (is k) k refl

point_root : (p : TopEntryPoint) (o : Option SyntaxKind) → IsTopRoot p (point_root_of p o)
point_root top.SourceFile o = refl
point_root top.MacroStmts o = refl
point_root top.MacroItems o = refl
point_root top.Pattern o = one_root is_pat o
point_root top.«Type» o = one_root is_ty o
point_root top.Expr o = one_root is_expr o
point_root top.MetaItem o = one_root is_meta o

pub point_keeps : (p : TopEntryPoint) (e : Edition) (text : List ℕ) → IsUtf8 text → length text < 2 ^ 32 → Keeps (IsTopRoot p) text (read_at p e text)
unfolding read_at
point_keeps p e text u l =
    let events = made_of (point_rule_of p) e text in
    short_on (IsTopRoot p) (nat_lt (length text) (2 ^ 32)) (whole_at p e text) text refl l
    (keeps (IsTopRoot p) (point_root_of p (outermost_of events)) events e text (point_root p (outermost_of events)) u l)
