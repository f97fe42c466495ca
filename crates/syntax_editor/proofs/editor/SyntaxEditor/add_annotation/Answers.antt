use Rattle.std.proofs.Common.{◌≡◌, rules, ap, ◌∙◌}
use Rattle.syntax_editor.proofs.NoteLemmas.{notes-push}
use Rattle.syntax_editor.proofs.editor.SyntaxEditor.add_annotation.Goals as goal

pub invariant_of-self : goal.invariant_of-self
invariant_of-self c =
    let here : c.of-place.result.tree ≡ c.self.inside.changes.tree = search rules in
    record {
      root_is = c.self.invariant.root_is;
      notes_are = notes-push c.push.result c.self.inside.changes.tree c.self.inside.notes.items c.push.new.self.items c.new.result c.push.ensures.items c.self.invariant.notes_are (ap (λ n. n.cursor.tree) c.new.ensures ∙ here);
    }
