-- What the clauses of this crate cite of the crates below.
pub use Rattle.text_edit.specs.Replacements
pub use Rattle.tree_edit_model.specs.Changes
pub use Rattle.tree_edit_model.specs.Texts
pub use Rattle.tree_edit_model.specs.Moved
pub use Rattle.tree_edits.specs.Session
pub use Rattle.tree_edits.specs.Refused
pub use Rattle.tree_edits.specs.Kept
pub use Rattle.tree_edits.specs.Run
pub mod Spot
pub mod Annotated
pub mod Editor
