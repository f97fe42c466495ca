use Rattle.std.proofs.Common.{◌≡◌, ◌++◌, drop}
use Rattle.syntax_editor.specs.Editor.{trees_of}
use Rattle.syntax_editor.proofs.editor.elements_of.Given as goal

abbrev pub invariant-loop-element : goal.invariant-loop-element
invariant-loop-element l = l.all.items ++ trees_of (drop l.element-index l.elements) ≡ trees_of l.elements
