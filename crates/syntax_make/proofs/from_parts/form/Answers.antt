-- The text is misread with all pairs.
use Rattle.std.proofs.Common.{sym, inr}
use Rattle.syntax_make.specs.declared.from_parts.Pairs.TheVariants.{Left, Right, Both}
use Rattle.syntax_make.specs.Forms.{bits_of}
use Rattle.syntax_make.proofs.FormLemmas.{misread}
use Rattle.syntax_make.proofs.from_parts.form.Goals as goal

pub returns-then-is_misread-clause-refused : goal.returns-then-is_misread-clause-refused
returns-then-is_misread-clause-refused g c =
    let front = g.F.FrontEnd.answers c.args.front.now in
    let casts = g.N.AstNode.casts in
    let bits = bits_of c.args.pieces.now in
    inr (record {
      refused = c.in-Err.ensures.refused;
      reason = sym c.if-not-is_misread.ensures;
      left = misread front c.args.edition casts bits Left c.in-Err-form_with.error c.in-Err-form_with.ensures.refused (sym c.if-not-is_misread-2.ensures);
      right = misread front c.args.edition casts bits Right c.in-Err-form_with-2.error c.in-Err-form_with-2.ensures.refused (sym c.if-not-is_misread-3.ensures);
      both = misread front c.args.edition casts bits Both c.in-Err-form_with-3.error c.in-Err-form_with-3.ensures.refused (sym c.if-is_misread.ensures);
    })
