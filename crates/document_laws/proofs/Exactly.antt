-- The front end for Rust reads the pieces of every text as in the text.
use Rattle.std.proofs.Common.{inl, inr, ◌≡◌, ℕ, ◌+◌, ◌-◌, ◌≤◌, ◌<◌, ◌^◌, true, false, List, [], ◌∷◌, ◌++◌, length, take, drop, ap, ap₂, ◌∙◌, refl, subst, sym, arith, length-append}
use Rattle.std.specs.Prelude.{Option, Some, None, IsUtf8}
use Rattle.std.proofs.lemmas.List.{append_cancel_left, append_cancel_right}
use Rattle.std.proofs.Math.Seq.{drop-append_seam}
use Rattle.text_size.specs.TextRange.{Bounds}
use Rattle.syntax_kind.specs.declared.syntax_kind.SyntaxKind.{SyntaxKind}
use Rattle.syntax_kind.specs.declared.syntax_kind.SyntaxKind.TheVariants as kinds
use Rattle.syntax_kind.specs.declared.syntax_kind.token_kind.TokenKind.TheVariants as token
use Rattle.tree_model.specs.Tree.{Tree, Forest, cons, text, Place, IsPlace, subtree, start}
use Rattle.tree_model.specs.Tree as tree
use Rattle.tree_model.specs.Cursor.{Cursor, focus, range_start, range_end, range_of}
use Rattle.tree_model.specs.Edit.{replace, splice}
use Rattle.tree_model.specs.Events.{BuildsNode}
use Rattle.ras_front_end.specs.declared.edition.Edition.{Edition}
use Rattle.ras_front_end.specs.declared.edition.Entry.TheVariants.{SourceFile}
use Rattle.ras_front_end.specs.declared.edition.Reparser.{Reparser}
use Rattle.ras_front_end.specs.ErrorModel.{ErrorModel}
use Rattle.ras_front_end.specs.Parsed.{Parsed}
use Rattle.ras_front_end.specs.Reading.{Reading, events_from, step_faults, stored_faults}
use Rattle.exact_front.specs.Exact.{is_piece}
use Rattle.ras_parsing.specs.Edit.{Edit, IsEditOf, edited, edited_at}
use Rattle.ras_parsing.specs.Document.{is_quiet_from, in_order, all_in_order, IsReadOf, ExactPath, IsPieceOf}
use Rattle.ras_parsing.proofs.Around.{boundary_at}
use Rattle.grammar_machine.specs.declared.event.Event.TheVariants as event
use Rattle.grammar_machine.specs.Exchanging.{CallsMakeTheirOwn}
use Rattle.grammar_machine.specs.Sealing.{SealedCallsLeaveNothing}
use Rattle.event_layout.specs.Retold.{LeavesBeginInTokens, RetoldTokensAreLaid}
use Rattle.lexer_laws.specs.Heads.{PlainTextsHaveNoHead, HeadsEndBeforeBraces}
use Rattle.lexer_laws.specs.Windows.{WindowsAreReplaced}
use Rattle.rust_grammar.specs.declared.tables.rules.Rule.{Rule}
use Rattle.rust_grammar.specs.declared.tables.rules.Rule.TheVariants as rule
use Rattle.rust_front.specs.Exact.{exact_piece_of, rust_exact}
use Rattle.rust_front.specs.Heads.{has_head_of}
use Rattle.rust_front.specs.Front.{parsed_of, made_of, rust_front}
use Rattle.rust_front.specs.Laws.{rust_kept}
use Rattle.rust_front.specs.Pieces.{exact_chosen_of, rule_by_number}
use Rattle.rust_front.specs.RetoldLaws.{RetoldWindowsAreAlike}
use Rattle.document_laws.specs.Alone.{IsExactPiece}
use Rattle.document_laws.specs.Edited.{BuildsFile}
use Rattle.document_laws.specs.Exactly.{RustReadsExactly}
use Rattle.document_laws.specs.Faults.{AreReplaced}
use Rattle.document_laws.specs.Parts.{IsLaidAround}
use Rattle.document_laws.specs.Paths.{IsExactCursor}
use Rattle.document_laws.specs.Setting.{StandsInParts}
use Rattle.document_laws.proofs.Alone.{exact_alone}
use Rattle.document_laws.proofs.Early.{pieces_fit}
use Rattle.document_laws.proofs.Editing.{edited_parsed}
use Rattle.document_laws.proofs.Errors.{rest_shifted, all_replaced}
use Rattle.document_laws.proofs.Few.{short_few}
use Rattle.document_laws.proofs.Filing.{files_kinds, files_cursors}
use Rattle.document_laws.proofs.Opening.{pieces_open}
use Rattle.document_laws.proofs.Parting.{pieces_stand}
use Rattle.document_laws.proofs.Retold.{splice_utf8, behind_steps, by_token}
use Rattle.document_laws.proofs.Setting.{laid_around}
use Rattle.document_laws.proofs.Textual.{text_there}

-- ---- lists

-- two ways to part a text, the first parts of which are as long
record Same (a b x y : List ℕ) : Type 0 where
  pub front : a ≡ b
  pub rest : x ≡ y

same_parts : (a b x y : List ℕ) → length a ≡ length b → a ++ x ≡ b ++ y → Same a b x y
same_parts a b x y long e =
    let rest : x ≡ y = sym (drop-append_seam a x) ∙ ap₂ drop long e ∙ drop-append_seam b y in
    record {
      front = append_cancel_right a b x (e ∙ ap (λ z. b ++ z) (sym rest));
      rest = rest;
    }

-- ---- readings

record IsSome (o : Option Reading) : Type 0 where
  pub reading : Reading
  pub is : o ≡ Some reading

some_of : (o : Option Reading) → is_piece o ≡ true → IsSome o
some_of None h = absurd (let bad : false ≡ true = h in cc)
some_of (Some x) h = record { reading = x; is = refl }

-- ---- the piece

-- what an edit of a tree by an exact piece is about: the node's place, the text before it and
-- behind it, its new text, and the readings of the old one and of the new one
record Piece (e : Edition) (t : Tree) (edit : Edit) (a q b : List ℕ) (k : SyntaxKind) (r : Reparser) (was now : Reading) (place : Place) : Type 0 where
  pub is_place : IsPlace t place
  pub chosen : exact_chosen_of k ≡ Some r
  pub opening : List ℕ
  pub later : Forest
  pub node_is : subtree t place ≡ tree.node k (cons (tree.token (kinds.Token token.L_CURLY) opening) later)
  pub is : text t ≡ a ++ (text (subtree t place) ++ b)
  pub starts : length a ≡ start t place
  pub new_is : edited (text t) edit ≡ a ++ (q ++ b)
  pub new_part : q ≡ splice (text (subtree t place)) (edit.delete.start - length a) (edit.delete.end - length a) edit.insert
  pub begun : length a ≤ edit.delete.start
  pub ended : edit.delete.end ≤ length (a ++ text (subtree t place))
  pub was_read : exact_piece_of r e (text (subtree t place)) ≡ Some was
  pub is_read : exact_piece_of r e q ≡ Some now

-- the texts are short, so few events are made of them
few_of : (rule : Rule) (e : Edition) (s : List ℕ) → IsUtf8 s → length s ≤ 1700000 → length (made_of rule e s) + 1 < 2 ^ 32 - 1
few_of rule e s u small = short_few rule e s u (omega (arith, small))

-- the text of each node
piece_utf8 : (e : Edition) (s : List ℕ) (t : Tree) (p : Place) → IsUtf8 s → length s < 2 ^ 32 → BuildsFile e s t → IsUtf8 (text (subtree t p))
piece_utf8 e s t p u small built = text_there (parsed_of SourceFile e s).steps s t p (rust_kept.entry_kept SourceFile e s u small).cuts built

-- what an edit by an exact piece makes: the tree and the errors of the new text
record Edited (e : Edition) (old new : List ℕ) (t : Tree) (a w : List ℕ) (now : Reading) (edit : Edit) : Type 0 where
  pub builds : BuildsFile e new t
  pub errors : AreReplaced (parsed_of SourceFile e old) now (parsed_of SourceFile e new) (record { start = length a; end = length (a ++ w) }) edit

-- the texts around the piece
record Texts (t : Tree) (edit : Edit) (a w q b : List ℕ) : Type 0 where
  pub is : text t ≡ a ++ (w ++ b)
  pub new_is : edited (text t) edit ≡ a ++ (q ++ b)

same_texts : (t : Tree) (edit : Edit) (a w q b x y : List ℕ) → length a ≡ length x → text t ≡ a ++ (w ++ b) → text t ≡ x ++ (w ++ y) → edited (text t) edit ≡ a ++ (q ++ b)
    → Same a x b y
same_texts t edit a w q b x y long e f new =
    let one : Same a x (w ++ b) (w ++ y) = same_parts a x (w ++ b) (w ++ y) long (sym e ∙ f) in
    record { front = one.front; rest = append_cancel_left w b y one.rest }

own_few : (e : Edition) (w : List ℕ) (k : SyntaxKind) (r : Reparser) (was : Reading) (x : IsExactPiece e w k r was) → IsUtf8 w → length w ≤ 1700000 → length x.own + 1 < 2 ^ 32 - 1
own_few e w k r was x u small =
    let count = ap length x.events ∙ length-append x.own (event.Node k 0 ∷ []) in
    let few = few_of (rule_by_number r.number) e w u small in
    omega (arith, count, few)

-- the parts of the text are those that the tokens cut
at_piece : CallsMakeTheirOwn → SealedCallsLeaveNothing → PlainTextsHaveNoHead → HeadsEndBeforeBraces
    → (e : Edition) (t : Tree) (edit : Edit) (q : List ℕ) (k : SyntaxKind) (r : Reparser) (was now : Reading) (i : ℕ) (p : Place) (piece : Tree)
    → (s : StandsInParts e (text t) t (i ∷ p) k r was) → IsUtf8 q → IsUtf8 (s.a ++ (q ++ s.c))
    → length (text t) ≤ 1700000 → length (s.a ++ (q ++ s.c)) ≤ 1700000
    → BuildsFile e (text t) t → Piece e t edit s.a q s.c k r was now (i ∷ p)
    → edit.delete.start ≤ edit.delete.end
    → is_quiet_from (length (s.a ++ text (subtree t (i ∷ p)))) (parsed_of SourceFile e (text t)).errors ≡ true
    → BuildsNode (events_from now.steps q) piece
    → Edited e (text t) (s.a ++ (q ++ s.c)) (replace t (i ∷ p) piece) s.a (text (subtree t (i ∷ p))) now edit
at_piece own leave plain heads e t edit q k r was now i p piece s is_q is_new small small_new built here forwards quiet builds =
    let a = s.a in
    let c = s.c in
    let w = text (subtree t (i ∷ p)) in
    let old_is : IsUtf8 (a ++ (w ++ c)) = s.parts.is_text in
    let long_old : length (text t) ≡ length (a ++ (w ++ c)) = ap length s.is in
    let one = length-append a (w ++ c) in
    let two = length-append w c in
    let one_new = length-append a (q ++ c) in
    let two_new = length-append q c in
    let small_old : length (a ++ (w ++ c)) ≤ 1700000 = omega (arith, small, long_old) in
    let small_w : length w ≤ 1700000 = omega (arith, small_old, one, two) in
    let small_q : length q ≤ 1700000 = omega (arith, small_new, one_new, two_new) in
    let at = here.starts in
    let small_a : length a ≤ 1700000 = omega (arith, small_old, one, two) in
    let few_old = few_of rule.SourceFile e (a ++ (w ++ c)) old_is small_old in
    let few_new = few_of rule.SourceFile e (a ++ (q ++ c)) is_new small_new in
    let few_w = few_of (rule_by_number r.number) e w s.parts.is_part small_w in
    let few_q = few_of (rule_by_number r.number) e q is_q small_q in
    let y : IsExactPiece e q k r now = exact_alone leave e q k r now is_q (omega (arith, small_q)) (omega (arith, few_q)) here.chosen here.is_read in
    let own_x = own_few e w k r was s.exact s.parts.is_part small_w in
    let built_old : BuildsFile e (a ++ (w ++ c)) t = subst (λ (x : List ℕ). BuildsFile e x t) s.is built in
    let l : IsLaidAround e a w q c s.ts s.us k s.exact.own y.own =
    laid_around own heads e a w q c s.ts s.us t (i ∷ p) k r was now s.opens s.exact y s.parts s.front is_q is_new (omega (arith, small_new))
    (omega (arith, few_old)) (omega (arith, few_new))
    (pieces_fit e (a ++ (w ++ c)) w t (i ∷ p) k k r r was s.opens s.exact old_is s.parts.short s.parts.is_part (omega (arith, small_old, one, two, at)))
    (pieces_fit e (a ++ (w ++ c)) q t (i ∷ p) k k r r now s.opens y old_is s.parts.short is_q (omega (arith, small_new, one_new, two_new, at))) in
    let opened = pieces_open own e (a ++ (w ++ c)) t i p k here.opening here.later r old_is s.parts.short (omega (arith, few_old)) built_old here.is_place here.node_is here.chosen in
    let shift = rest_shifted a w q edit here.new_part here.begun forwards here.ended in
    record {
      builds =
          edited_parsed e a w q c s.ts s.us k r was now s.exact.own y.own t i p (kinds.Token token.L_CURLY) here.opening here.later piece
          s.parts l here.chosen s.exact refl y refl (omega (arith, small_a)) (omega (arith, own_x))
          built_old here.is_place here.node_is opened.1 (sym here.starts) builds;
      errors = subst (λ (x : List ℕ). AreReplaced (parsed_of SourceFile e x) now (parsed_of SourceFile e (a ++ (q ++ c))) (record { start = length a; end = length (a ++ w) }) edit)
          (sym s.is)
          (all_replaced e a w q c s.ts s.us k r was now edit s.parts s.exact y l here.chosen (omega (arith, few_w)) (omega (arith, few_q)) shift
          (subst (λ (x : List ℕ). is_quiet_from (length (a ++ w)) (parsed_of SourceFile e x).errors ≡ true) s.is quiet));
    }

-- the same, for the text before the piece and behind it as the tree has them
in_parts : CallsMakeTheirOwn → SealedCallsLeaveNothing → PlainTextsHaveNoHead → HeadsEndBeforeBraces
    → (e : Edition) (t : Tree) (edit : Edit) (a q b : List ℕ) (k : SyntaxKind) (r : Reparser) (was now : Reading) (i : ℕ) (p : Place) (piece : Tree)
    → IsUtf8 (text t) → IsUtf8 q → IsUtf8 (edited (text t) edit)
    → length (text t) ≤ 1700000 → length (edited (text t) edit) ≤ 1700000 → has_head_of (text t) ≡ false
    → BuildsFile e (text t) t → BuildsNode (events_from now.steps q) piece → edit.delete.start ≤ edit.delete.end
    → Piece e t edit a q b k r was now (i ∷ p)
    → is_quiet_from (length (a ++ text (subtree t (i ∷ p)))) (parsed_of SourceFile e (text t)).errors ≡ true
    → Edited e (text t) (edited (text t) edit) (replace t (i ∷ p) piece) a (text (subtree t (i ∷ p))) now edit
in_parts own leave plain heads e t edit a q b k r was now i p piece u is_q is_new small small_new no_head built builds forwards here quiet =
    let w = text (subtree t (i ∷ p)) in
    let few = few_of rule.SourceFile e (text t) u small in
    let parts = ap length here.is ∙ length-append a (w ++ b) in
    let more = length-append w b in
    let is_w : IsUtf8 w = piece_utf8 e (text t) t (i ∷ p) u (omega (arith, small)) built in
    let few_w = few_of (rule_by_number r.number) e w is_w (omega (arith, small, parts, more)) in
    let s : StandsInParts e (text t) t (i ∷ p) k r was =
    pieces_stand own leave plain e (text t) t i p k here.opening here.later r was u (omega (arith, small)) no_head (omega (arith, few))
    built here.is_place here.node_is here.chosen here.was_read (omega (arith, few_w)) in
    let same : Same a s.a b s.c = same_texts t edit a w q b s.a s.c (here.starts ∙ sym s.starts) here.is s.is here.new_is in
    let moved : Piece e t edit s.a q s.c k r was now (i ∷ p) =
    subst (λ (y : List ℕ). Piece e t edit s.a q y k r was now (i ∷ p)) same.rest (subst (λ (x : List ℕ). Piece e t edit x q b k r was now (i ∷ p)) same.front here) in
    let new_is : edited (text t) edit ≡ s.a ++ (q ++ s.c) = moved.new_is in
    let made =
    at_piece own leave plain heads e t edit q k r was now i p piece s is_q (subst IsUtf8 new_is is_new) small (subst (λ (x : List ℕ). length x ≤ 1700000) new_is small_new)
    built moved forwards (subst (λ (x : List ℕ). is_quiet_from (length (x ++ w)) (parsed_of SourceFile e (text t)).errors ≡ true) same.front quiet) builds in
    subst (λ (x : List ℕ). Edited e (text t) (edited (text t) edit) (replace t (i ∷ p) piece) x w now edit) (sym same.front)
    (subst (λ (x : List ℕ). Edited e (text t) x (replace t (i ∷ p) piece) s.a w now edit) (sym new_is) made)

-- the same, for a place that is not the root
by_place : CallsMakeTheirOwn → SealedCallsLeaveNothing → PlainTextsHaveNoHead → HeadsEndBeforeBraces
    → (e : Edition) (t : Tree) (edit : Edit) (a q b : List ℕ) (k : SyntaxKind) (r : Reparser) (was now : Reading) (piece : Tree)
    → IsUtf8 (text t) → IsUtf8 q → IsUtf8 (edited (text t) edit)
    → length (text t) ≤ 1700000 → length (edited (text t) edit) ≤ 1700000 → has_head_of (text t) ≡ false
    → BuildsFile e (text t) t → BuildsNode (events_from now.steps q) piece → edit.delete.start ≤ edit.delete.end
    → (i : ℕ) (p place : Place) → place ≡ i ∷ p
    → Piece e t edit a q b k r was now place
    → is_quiet_from (length (a ++ text (subtree t place))) (parsed_of SourceFile e (text t)).errors ≡ true
    → Edited e (text t) (edited (text t) edit) (replace t place piece) a (text (subtree t place)) now edit
by_place own leave plain heads e t edit a q b k r was now piece u is_q is_new small small_new no_head built builds forwards i p place is =
    subst (λ (x : Place). Piece e t edit a q b k r was now x
    → is_quiet_from (length (a ++ text (subtree t x))) (parsed_of SourceFile e (text t)).errors ≡ true
    → Edited e (text t) (edited (text t) edit) (replace t x piece) a (text (subtree t x)) now edit) (sym is)
    (in_parts own leave plain heads e t edit a q b k r was now i p piece u is_q is_new small small_new no_head built builds forwards)

-- ---- an edit by a piece

-- the path of the edit, with the old text of its node as a piece
by_piece : CallsMakeTheirOwn → SealedCallsLeaveNothing → PlainTextsHaveNoHead → HeadsEndBeforeBraces
    → (e : Edition) (old new : Parsed) (before count : ℕ) (edit : Edit)
    → IsUtf8 (text old.tree) → IsUtf8 edit.insert → IsEditOf (text old.tree) edit → length (edited (text old.tree) edit) < 2 ^ 32
    → IsReadOf rust_front e (text old.tree) old before
    → (c : Cursor) (r : Reparser) (reading : Reading) → ExactPath rust_exact e old before edit c r reading
    → IsPieceOf old before edit c reading new count
    → IsReadOf rust_front e (edited (text old.tree) edit) new count
by_piece own leave plain heads e old new before count edit u v is_edit short was c r now path is =
    let t = old.tree in
    let T = text t in
    let built : BuildsFile e T t = was.is_parse.builds in
    let small : length T ≤ 1700000 = path.are_short.old in
    let small_new : length (edited T edit) ≤ 1700000 = path.are_short.new in
    let few = few_of rule.SourceFile e T u small in
    let x : IsExactCursor t edit c r = files_cursors e T t edit c r u (omega (arith, small)) (omega (arith, few)) built is_edit path.is_nearest in
    let at : focus c ≡ subtree t c.place = ap (λ (y : Tree). subtree y c.place) x.same_tree in
    let old_piece : IsSome (exact_piece_of r e (text (subtree t c.place))) =
    some_of (exact_piece_of r e (text (subtree t c.place))) (ap (λ (y : Tree). is_piece (exact_piece_of r e (text y))) (sym at) ∙ path.was_read) in
    let w = text (subtree t c.place) in
    let q = edited_at c edit in
    let start_is : length x.before ≡ start t c.place = x.before_is ∙ x.starts in
    let end_is : range_end c ≡ length (x.before ++ w) = x.ends ∙ ap (λ n. n + length w) (sym x.before_is) ∙ sym (length-append x.before w) in
    let here : Piece e t edit x.before q x.behind x.kind r old_piece.reading now c.place = record {
      is_place = x.is_place;
      chosen = x.chosen;
      opening = x.opening;
      later = x.later;
      node_is = x.node_is;
      is = x.text_is;
      starts = start_is;
      new_is = x.edited_is;
      new_part = ap₂ (λ (s : List ℕ) (n : ℕ). splice s (edit.delete.start - n) (edit.delete.end - n) edit.insert) (ap text at) (sym x.before_is);
      begun = (let b = x.begun in let s = x.before_is in omega (arith, b, s));
      ended = (let b = x.ended in omega (arith, b, end_is));
      was_read = old_piece.is;
      is_read = path.is_read;
    } in
    let within : IsUtf8 (edited T edit) = splice_utf8 T edit.insert edit.delete.start edit.delete.end u v is_edit.start_boundary is_edit.end_boundary in
    let placed : IsPlace c.tree c.place = subst (λ (y : Tree). IsPlace y c.place) (sym x.same_tree) x.is_place in
    let below = x.begun in
    let above = x.ended in
    let forwards = is_edit.forwards in
    let whole : T ≡ text c.tree = ap text (sym x.same_tree) in
    let one = boundary_at c edit.delete.start (range_start c) (text (focus c)) T placed refl refl whole (omega (arith, below)) (omega (arith, above, forwards)) is_edit.start_boundary in
    let two = boundary_at c edit.delete.end (range_start c) (text (focus c)) T placed refl refl whole (omega (arith, below, forwards)) (omega (arith, above)) is_edit.end_boundary in
    let focus_utf8 : IsUtf8 (text (focus c)) = subst (λ (y : Tree). IsUtf8 (text y)) (sym at) (piece_utf8 e T t c.place u (omega (arith, small)) built) in
    let is_q : IsUtf8 q = splice_utf8 (text (focus c)) edit.insert (edit.delete.start - range_start c) (edit.delete.end - range_start c) focus_utf8 v one two in
    let quiet : is_quiet_from (length (x.before ++ w)) (parsed_of SourceFile e T).errors ≡ true =
    ap₂ is_quiet_from (sym end_is) (sym (behind_steps (parsed_of SourceFile e T) old.errors before was.is_parse.errors_are was.count_is)) ∙ path.is_quiet in
    let made : Edited e T (edited T edit) (replace t c.place is.piece.tree) x.before w now edit =
    by_place own leave plain heads e t edit x.before q x.behind x.kind r old_piece.reading now is.piece.tree u is_q within small small_new path.no_head
    built is.is_parse.builds forwards x.position x.below c.place x.place_is here quiet in
    let ranges : range_of c ≡ record { start = length x.before; end = length (x.before ++ w) } = ap₂ (λ (m n : ℕ). record { start = m; end = n }) (sym x.before_is) end_is in
    let tree_is : new.tree ≡ replace t c.place is.piece.tree = is.tree_is in
    let builds_new : BuildsFile e (edited T edit) new.tree = subst (λ (y : Tree). BuildsFile e (edited T edit) y) (sym tree_is) made.builds in
    let olds = was.is_parse.errors_are in
    let news = is.is_parse.errors_are in
    let counted = was.count_is in
    let n = length (step_faults now.steps) in
    let m = length (step_faults (parsed_of SourceFile e T).steps) in
    let b : Bounds = record { start = length x.before; end = length (x.before ++ w) } in
    record {
      is_parse = record {
        builds = builds_new;
        text_is = (files_kinds e (edited T edit) new.tree within short (omega (arith, few_of rule.SourceFile e (edited T edit) within small_new)) builds_new).text_is;
        errors_are =
            is.errors_are
            ∙ ap (λ (z : ℕ). all_in_order z n old.errors is.piece.errors (range_of c) edit) counted
            ∙ ap (λ (z : List ErrorModel). all_in_order m n z is.piece.errors (range_of c) edit) olds
            ∙ ap (λ (z : List ErrorModel). all_in_order m n (stored_faults (parsed_of SourceFile e T)) z (range_of c) edit) news
            ∙ ap (λ (z : Bounds). all_in_order m n (stored_faults (parsed_of SourceFile e T)) (stored_faults now) z edit) ranges
            ∙ sym made.errors.all;
      };
      count_is =
          is.count_is
          ∙ ap (λ (z : ℕ). length (in_order (take z old.errors) (take n is.piece.errors) (range_of c) edit)) counted
          ∙ ap (λ (z : List ErrorModel). length (in_order (take m z) (take n is.piece.errors) (range_of c) edit)) olds
          ∙ ap (λ (z : List ErrorModel). length (in_order (take m (stored_faults (parsed_of SourceFile e T))) (take n z) (range_of c) edit)) news
          ∙ ap (λ (z : Bounds). length (in_order (take m (stored_faults (parsed_of SourceFile e T))) (take n (stored_faults now)) z edit)) ranges
          ∙ sym made.errors.count;
    }

pub exactly : CallsMakeTheirOwn → SealedCallsLeaveNothing → PlainTextsHaveNoHead → HeadsEndBeforeBraces
    → LeavesBeginInTokens → RetoldTokensAreLaid → WindowsAreReplaced → RetoldWindowsAreAlike → RustReadsExactly
exactly own leave plain heads leaves laid windows front e old new before count edit range u v is_edit short was (inl p) =
    by_token heads leaves laid windows front e old new before count edit u v is_edit short was p.retold p.window p.path p.is
exactly own leave plain heads leaves laid windows front e old new before count edit range u v is_edit short was (inr (inl p)) =
    by_piece own leave plain heads e old new before count edit u v is_edit short was p.block p.reparser p.reading p.path p.is
exactly own leave plain heads leaves laid windows front e old new before count edit range u v is_edit short was (inr (inr p)) = p.is
