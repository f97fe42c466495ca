-- The tree of a file: its text, its kinds, and the cursors of its edits.
use Rattle.std.proofs.Common.{◌≡◌, ℕ, Bool, true, false, ◌||◌, List, ◌∷◌, [], refl, sym, ap, subst, ◌∙◌}
use Rattle.syntax_kind.specs.declared.syntax_kind.SyntaxKind.{SyntaxKind}
use Rattle.syntax_kind.specs.declared.syntax_kind.SyntaxKind.TheVariants.{Node}
use Rattle.syntax_kind.specs.declared.syntax_kind.node_kind.NodeKind.TheVariants as node_kind
use Rattle.tree_model.specs.Tree.{Tree, node, Forest, nil, cons, kind_of, Place, IsPlace, subtree}
use Rattle.tree_model.specs.Events.{BuildsNode}
use Rattle.tree_model.proofs.Balance.{builds_one}
use Rattle.ras_front_end.specs.Balanced.{opens_brace, closes_brace}
use Rattle.ras_front_end.specs.Reading.{events_from}
use Rattle.ras_parsing.proofs.TreeTexts.{built_text}
use Rattle.ras_parsing.specs.Edit.{IsEditOf}
use Rattle.token_layout.specs.Laid.{Laid}
use Rattle.event_layout.proofs.Laying.{laid}
use Rattle.rust_grammar.specs.declared.tables.rules.Rule.TheVariants as rule
use Rattle.rust_grammar.specs.Rules.{first_op}
use Rattle.rust_grammar.specs.Seeing.{sights_of}
use Rattle.rust_grammar.specs.Tables.{rust_tables}
use Rattle.rust_lexer.specs.Lexing.{tokens_of}
use Rattle.rust_lexer.proofs.Kept.{lexed}
use Rattle.rust_front.specs.Roots.{attaching_kinds}
use Rattle.document_laws.specs.FileKinds.{is_brace, IsFile, FilesHaveTheirKinds, CursorsOfFiles}
use Rattle.document_laws.specs.Nodes.{IsOfEvent}
use Rattle.document_laws.specs.Pieces.{events_in}
use Rattle.document_laws.proofs.Kinding.{nodes_other, rust_makes_none}
use Rattle.document_laws.proofs.Noding.{nodes_of_events}
use Rattle.document_laws.proofs.Pathing.{cursors_found}
use Rattle.document_laws.proofs.Piecing.{laid_in, laid_tree}

neither : (a b : Bool) → a || b ≡ false → (a ≡ false) × (b ≡ false)
neither false b h = (refl, h)
neither true b h = (let bad : true ≡ false = h in cc)

same_tree : (t u : Tree) → cons t nil ≡ cons u nil → t ≡ u
same_tree t u h = cc

pub files_kinds : FilesHaveTheirKinds
files_kinds e s t u small few built =
    let root : SyntaxKind = Node node_kind.SOURCE_FILE in
    let is_cut = (lexed e s u small).cut in
    let l : BuildsNode (events_from (laid_in e s).steps s) t = laid_tree e s t small built in
    let o : Laid root s (laid_in e s).steps = laid root attaching_kinds s (tokens_of e s) (events_in e s) small is_cut in
    let same : t ≡ o.tree = same_tree t o.tree (builds_one l.0 o.builds.0) in
    let is_root : kind_of t ≡ root = ap kind_of same ∙ o.root_is in
    record {
      text_is = built_text (laid_in e s).steps s t o.cuts l;
      root = is_root;
      braces = λ p k f at sub. neither (opens_brace k) (closes_brace k) (by is_root l p k f at sub);
    }
  where
    by : kind_of t ≡ Node node_kind.SOURCE_FILE → BuildsNode (events_from (laid_in e s).steps s) t
        → (p : Place) (k : SyntaxKind) (f : Forest) → IsPlace t p → subtree t p ≡ node k f → is_brace k ≡ false
    by is_root l [] k f at sub = ap is_brace (sym (ap kind_of sub) ∙ is_root)
    by is_root l (i ∷ p) k f at sub =
        let v : IsOfEvent (Node node_kind.SOURCE_FILE) attaching_kinds s (tokens_of e s) (events_in e s) t (i ∷ p) k =
        nodes_of_events (Node node_kind.SOURCE_FILE) attaching_kinds s (tokens_of e s) (events_in e s) t i p k f small (lexed e s u small).cut few l at sub in
        nodes_other is_brace rust_tables (first_op rule.SourceFile) (sights_of e s (tokens_of e s)) rust_makes_none v.number k v.from v.event

pub files_cursors : CursorsOfFiles
files_cursors e s t edit c r u small few built is found =
    let f : IsFile e s t = files_kinds e s t u small few built in
    cursors_found t edit c r f.root f.braces (subst (λ (x : List ℕ). IsEditOf x edit) (sym f.text_is) is) found
