use Rattle.std.proofs.Common.{ap, sym, ◌∙◌}
use Rattle.operator_trees.specs.Shown.{is_right, means}
use Rattle.operator_trees.specs.Shape.{assumed}
use Rattle.operator_reading.proofs.TakeLemmas.{by-literal, by-name, by-segment, by-path, by-path_expr, by-path_type, by-paren, by-prefix, by-bin, by-field, by-await, by-try, by-cast, by-index, by-call, by-method}
use Rattle.operator_reading.proofs.shape.form_fits.Goals as goal

pub returns-in-Literal : goal.returns-in-Literal
returns-in-Literal c = c.is_one.ensures ∙ by-literal (assumed c.args.trees.now.trees) ∙ ap (λ f. is_right (means f (assumed c.args.trees.now.trees))) (sym c.in-Literal.is)

pub returns-in-NameRef : goal.returns-in-NameRef
returns-in-NameRef c = c.is_one-in-NameRef.ensures ∙ by-name (assumed c.args.trees.now.trees) ∙ ap (λ f. is_right (means f (assumed c.args.trees.now.trees))) (sym c.in-NameRef.is)

pub returns-in-Segment : goal.returns-in-Segment
returns-in-Segment c = c.is_one-in-Segment.ensures ∙ by-segment (assumed c.args.trees.now.trees) ∙ ap (λ f. is_right (means f (assumed c.args.trees.now.trees))) (sym c.in-Segment.is)

pub returns-in-Path : goal.returns-in-Path
returns-in-Path c = c.is_one-in-Path.ensures ∙ by-path (assumed c.args.trees.now.trees) ∙ ap (λ f. is_right (means f (assumed c.args.trees.now.trees))) (sym c.in-Path.is)

pub returns-in-PathExpr : goal.returns-in-PathExpr
returns-in-PathExpr c = c.is_one-in-PathExpr.ensures ∙ by-path_expr (assumed c.args.trees.now.trees) ∙ ap (λ f. is_right (means f (assumed c.args.trees.now.trees))) (sym c.in-PathExpr.is)

pub returns-in-PathType : goal.returns-in-PathType
returns-in-PathType c = c.is_one-in-PathType.ensures ∙ by-path_type (assumed c.args.trees.now.trees) ∙ ap (λ f. is_right (means f (assumed c.args.trees.now.trees))) (sym c.in-PathType.is)

pub returns-in-Paren : goal.returns-in-Paren
returns-in-Paren c = c.is_three.ensures ∙ by-paren (assumed c.args.trees.now.trees) ∙ ap (λ f. is_right (means f (assumed c.args.trees.now.trees))) (sym c.in-Paren.is)

pub returns-in-Prefix : goal.returns-in-Prefix
returns-in-Prefix c = c.is_two.ensures ∙ by-prefix (assumed c.args.trees.now.trees) ∙ ap (λ f. is_right (means f (assumed c.args.trees.now.trees))) (sym c.in-Prefix.is)

pub returns-in-Binary : goal.returns-in-Binary
returns-in-Binary c = c.is_three-in-Binary.ensures ∙ by-bin (assumed c.args.trees.now.trees) ∙ ap (λ f. is_right (means f (assumed c.args.trees.now.trees))) (sym c.in-Binary.is)

pub returns-in-Field : goal.returns-in-Field
returns-in-Field c = c.is_three-in-Field.ensures ∙ by-field (assumed c.args.trees.now.trees) ∙ ap (λ f. is_right (means f (assumed c.args.trees.now.trees))) (sym c.in-Field.is)

pub returns-in-Await : goal.returns-in-Await
returns-in-Await c = c.is_three-in-Await.ensures ∙ by-await (assumed c.args.trees.now.trees) ∙ ap (λ f. is_right (means f (assumed c.args.trees.now.trees))) (sym c.in-Await.is)

pub returns-in-Try : goal.returns-in-Try
returns-in-Try c = c.is_two-in-Try.ensures ∙ by-try (assumed c.args.trees.now.trees) ∙ ap (λ f. is_right (means f (assumed c.args.trees.now.trees))) (sym c.in-Try.is)

pub returns-in-Cast : goal.returns-in-Cast
returns-in-Cast c = c.is_three-in-Cast.ensures ∙ by-cast (assumed c.args.trees.now.trees) ∙ ap (λ f. is_right (means f (assumed c.args.trees.now.trees))) (sym c.in-Cast.is)

pub returns-in-Index : goal.returns-in-Index
returns-in-Index c = c.is_four.ensures ∙ by-index (assumed c.args.trees.now.trees) ∙ ap (λ f. is_right (means f (assumed c.args.trees.now.trees))) (sym c.in-Index.is)

pub returns-in-Call : goal.returns-in-Call
returns-in-Call c = c.is_two-in-Call.ensures ∙ by-call (assumed c.args.trees.now.trees) ∙ ap (λ f. is_right (means f (assumed c.args.trees.now.trees))) (sym c.in-Call.is)

pub returns-in-Method : goal.returns-in-Method
returns-in-Method c = c.is_four-in-Method.ensures ∙ by-method (assumed c.args.trees.now.trees) ∙ ap (λ f. is_right (means f (assumed c.args.trees.now.trees))) (sym c.in-Method.is)
