-- The front end's own entries, read as entry points.
use Rattle.std.proofs.Common.{◌≡◌, ℕ, List, length, ap, refl, Option, Some, None}
use Rattle.std.specs.Prelude.{◌^◌, nat_lt, if◌then◌else◌}
use Rattle.syntax_kind.specs.declared.syntax_kind.SyntaxKind.{SyntaxKind}
use Rattle.ras_front_end.specs.declared.edition.Edition.{Edition}
use Rattle.ras_front_end.specs.declared.edition.Entry.{Entry}
use Rattle.ras_front_end.specs.declared.edition.Entry.TheVariants as entry
use Rattle.ras_node.specs.Sets.{is_expr}
use Rattle.event_layout.specs.Layout.{outermost_of}
use Rattle.rust_lexer.specs.Lexing.{tokens_of, errors_of}
use Rattle.rust_grammar.specs.declared.tables.rules.Rule.TheVariants as rule
use Rattle.rust_front.specs.declared.top.TopEntryPoint.{TopEntryPoint}
use Rattle.rust_front.specs.declared.top.TopEntryPoint.TheVariants as top
use Rattle.rust_front.specs.Roots.{expr_or_error_of}
use Rattle.rust_front.specs.Front.{made_of, nothing_read, parsed_of, reading_with}
use Rattle.rust_front.specs.Tops.{one_or_error, point_of_entry, read_at, top_of}

one_expr : (o : Option SyntaxKind) → one_or_error is_expr o ≡ expr_or_error_of o
one_expr None = refl
one_expr (Some k) = refl

expr_is : (e : Edition) (text : List ℕ) → read_at top.Expr e text ≡ parsed_of entry.Expr e text
unfolding read_at parsed_of
expr_is e text =
    let events = made_of rule.WholeExpr e text in
    ap (λ k. if nat_lt (length text) (2 ^ 32) then reading_with k text (tokens_of e text) (errors_of e text) events else nothing_read)
    (one_expr (outermost_of events))

file_is : (e : Edition) (text : List ℕ) → read_at top.SourceFile e text ≡ parsed_of entry.SourceFile e text
unfolding read_at parsed_of
file_is e text = refl

pub top_is : (p : TopEntryPoint) (e : Edition) (text : List ℕ) → read_at p e text ≡ top_of p e text
top_is top.SourceFile e text = file_is e text
top_is top.MacroStmts e text = refl
top_is top.MacroItems e text = refl
top_is top.Pattern e text = refl
top_is top.«Type» e text = refl
top_is top.Expr e text = expr_is e text
top_is top.MetaItem e text = refl

pub entry_is : (i : Entry) (e : Edition) (text : List ℕ) → read_at (point_of_entry i) e text ≡ parsed_of i e text
entry_is entry.SourceFile e text = file_is e text
entry_is entry.Expr e text = expr_is e text
