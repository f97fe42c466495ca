use Rattle.std.proofs.Common.{◌≡◌, ◌∙◌, ℕ, ◌<◌, ◌≤◌, ◌^◌, sym, subst, true, false, Bool, List, length}
use Rattle.std.specs.Prelude.{◌↔◌, IsTrue, IsUtf8}
use Rattle.std.proofs.Math.Nat.{lt_of_not-le}
use Rattle.tree_model.specs.Tree.{text}
use Rattle.tree_model.specs.Cursor.{Cursor}
use Rattle.ras_parsing.specs.Document.{IsReadOf}
use Rattle.ras_parsing.specs.Edit.{Edit, edited}
use Rattle.ras_parsing.proofs.document.Document.edit.Goals as goal

below : (b : Bool) (n : ℕ) → (IsTrue b ↔ (2 ^ 32 ≤ n)) → b ≡ false → n < 2 ^ 32
below b n is no' = lt_of_not-le (λ long. let bad : true ≡ false = sym (is.1 long) ∙ no' in cc)

-- what the law of the front end says of the parse, whose text is the edited one
pub returns-clause-exact : goal.returns-clause-exact
returns-clause-exact g c law was =
    let edit : Edit = record { delete = c.args.delete; insert = c.args.insert.now } in
    let new = c.in_ok-new.new in
    let utf8 = subst (λ (r : Cursor). IsUtf8 (text r.tree)) c.root-2.ensures c.node_is_placed.ensures.placed.utf8 in
    let asked = subst (λ (r : Cursor). IsTrue c.is_too_long.result ↔ (2 ^ 32 ≤ length (edited (text r.tree) edit))) c.root.ensures c.is_too_long.ensures in
    let short = below c.is_too_long.result (length (edited (text c.args.self.now.parse.tree) edit)) asked c.if-is_too_long.false in
    subst (λ (s : List ℕ). IsReadOf (g.F.FrontEnd.answers c.args.self.now.front) c.args.self.now.edition s new.parse new.parser_errors)
    (sym c.in_ok-new.ensures.same_text)
    (law c.args.self.now.edition c.args.self.now.parse new.parse c.args.self.now.parser_errors new.parser_errors edit new.range utf8 c.utf8.insert c.requires short was c.in_ok-new.ensures.answer)
