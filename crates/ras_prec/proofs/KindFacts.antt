-- What the kinds of operator trees are not.
use Rattle.std.proofs.Common.{◌≡◌, Bool, true, false, Option, Some, None, refl, sym, ap, ◌∙◌}
use Rattle.syntax_kind.specs.Kinds.{is_same_kind}
use Rattle.syntax_kind.specs.KindLaws.{is_same_kind-equal}
use Rattle.syntax_kind.specs.declared.syntax_kind.SyntaxKind.{SyntaxKind}
use Rattle.syntax_kind.specs.declared.syntax_kind.SyntaxKind.TheVariants.{Node, Token}
use Rattle.syntax_kind.specs.declared.syntax_kind.node_kind.NodeKind.TheVariants as kind
use Rattle.syntax_kind.specs.declared.syntax_kind.token_kind.TokenKind.TheVariants as token
use Rattle.tree_model.specs.Cursor.{Cursor, children_of}
use Rattle.ras_node.specs.Nodes.{kind_at}
use Rattle.ras_node.specs.PartSets.{is_binary_operator}
use Rattle.ras_node.specs.Searches.{first_token}
use Rattle.ras_node.specs.Sets.{is_expr}
use Rattle.operator_trees.specs.Forms.{form_of}
use Rattle.operator_trees.proofs.Inversion.{no}
use Rattle.operator_powers.specs.Rules.{is_foreign, is_term_form, is_arguments}
use Rattle.ras_operators.specs.Levels.{precedence_at, operator_precedence, binary_precedence, is_valueless_at}
use Rattle.ras_prec_walks.specs.Along.{is_block}
use Rattle.ras_prec.specs.Rules.{is_bare_jump, is_jump, is_statement}

-- a kind of an operator tree is none of another kind
pub other_kind : (k j : SyntaxKind) → is_foreign (form_of k) ≡ false → is_foreign (form_of j) ≡ true → is_same_kind k j ≡ false
other_kind k j h g = by (is_same_kind k j) refl
  where
    by : (b : Bool) → is_same_kind k j ≡ b → b ≡ false
    by false e = refl
    by true e = absurd (let same : k ≡ j = (is_same_kind-equal k j).0 e in no (sym h ∙ ap (λ i. is_foreign (form_of i)) same ∙ g))

pub no_block : (k : SyntaxKind) → is_foreign (form_of k) ≡ false → is_block k ≡ false
no_block (Node kind.BLOCK_EXPR) h = absurd (no (sym h))
no_block _ h = refl

pub valueless : (k : SyntaxKind) (c : Cursor) → is_foreign (form_of k) ≡ false → is_valueless_at k c ≡ false
valueless (Node kind.CONTINUE_EXPR) c h = absurd (no (sym h))
valueless (Node kind.RETURN_EXPR) c h = absurd (no (sym h))
valueless (Node kind.BREAK_EXPR) c h = absurd (no (sym h))
valueless (Node kind.YIELD_EXPR) c h = absurd (no (sym h))
valueless (Node kind.BECOME_EXPR) c h = absurd (no (sym h))
valueless _ c h = refl

pub bare : (k : SyntaxKind) (c : Cursor) → is_foreign (form_of k) ≡ false → is_bare_jump k c ≡ false
bare (Node kind.RETURN_EXPR) c h = absurd (no (sym h))
bare (Node kind.BREAK_EXPR) c h = absurd (no (sym h))
bare (Node kind.YIELD_EXPR) c h = absurd (no (sym h))
bare _ c h = refl

operator_jump : (k : SyntaxKind) → is_jump (operator_precedence k) ≡ false
operator_jump (Token token.PIPE2) = refl
operator_jump _ = refl

binary_jump : (o : Option Cursor) → is_jump (binary_precedence o) ≡ false
binary_jump None = refl
binary_jump (Some t) = operator_jump (kind_at t)

pub jumps : (k : SyntaxKind) (c : Cursor) → is_foreign (form_of k) ≡ false → is_jump (precedence_at k c) ≡ false
jumps (Node kind.CLOSURE_EXPR) c h = absurd (no (sym h))
jumps (Node kind.BREAK_EXPR) c h = absurd (no (sym h))
jumps (Node kind.BECOME_EXPR) c h = absurd (no (sym h))
jumps (Node kind.RETURN_EXPR) c h = absurd (no (sym h))
jumps (Node kind.YEET_EXPR) c h = absurd (no (sym h))
jumps (Node kind.YIELD_EXPR) c h = absurd (no (sym h))
jumps (Node kind.CONTINUE_EXPR) c h = absurd (no (sym h))
jumps (Node kind.BIN_EXPR) c h = binary_jump (first_token is_binary_operator (children_of c))
jumps _ c h = refl

pub expr_of_form : (k : SyntaxKind) → is_term_form (form_of k) ≡ true → is_expr k ≡ true
expr_of_form (Node kind.LITERAL) h = refl
expr_of_form (Node kind.PATH_EXPR) h = refl
expr_of_form (Node kind.PAREN_EXPR) h = refl
expr_of_form (Node kind.PREFIX_EXPR) h = refl
expr_of_form (Node kind.REF_EXPR) h = refl
expr_of_form (Node kind.BIN_EXPR) h = refl
expr_of_form (Node kind.RANGE_EXPR) h = refl
expr_of_form (Node kind.FIELD_EXPR) h = refl
expr_of_form (Node kind.AWAIT_EXPR) h = refl
expr_of_form (Node kind.TRY_EXPR) h = refl
expr_of_form (Node kind.CAST_EXPR) h = refl
expr_of_form (Node kind.INDEX_EXPR) h = refl
expr_of_form (Node kind.CALL_EXPR) h = refl
expr_of_form (Node kind.METHOD_CALL_EXPR) h = refl
expr_of_form _ h = absurd (no h)

pub no_expr : (k : SyntaxKind) → is_arguments (form_of k) ≡ true → is_expr k ≡ false
no_expr (Node kind.ARG_LIST) h = refl
no_expr _ h = absurd (no h)

pub no_statement : (k : SyntaxKind) → is_arguments (form_of k) ≡ true → is_statement k ≡ false
no_statement (Node kind.ARG_LIST) h = refl
no_statement _ h = absurd (no h)
