-- When the nearest node with a reparser is parsed again.
use Rattle.std.proofs.Common.{◌≡◌, ℕ, ◌<◌, ◌≤◌, ◌^◌, ◌+◌, ◌-◌, List, [], ◌∷◌, zero, suc, get_or, length, sym, ap, ◌∙◌, subst, arith, Option, Some, None}
use Rattle.std.specs.Prelude.{IsUtf8, All, MatchOption}
use Rattle.text_size.specs.TextRange.{Bounds}
use Rattle.tree_model.specs.Tree.{Tree, text, subtree, IsPlace}
use Rattle.tree_model.specs.Cursor.{Cursor, IsRoot, focus, range_start, range_end, range_of}
use Rattle.tree_model.specs.Edit.{replace, root_of}
use Rattle.ras_front_end.specs.declared.edition.Edition.{Edition}
use Rattle.ras_front_end.specs.declared.edition.Reparser.{Reparser}
use Rattle.ras_front_end.specs.declared.output.Output.{Output}
use Rattle.ras_front_end.specs.ErrorModel.{ErrorModel, LiesIn}
use Rattle.ras_front_end.specs.Balanced.{IsBalanced}
use Rattle.ras_front_end.specs.Reading.{Reading, reading_of}
use Rattle.ras_front_end.specs.Front.{Front, FrontEndKeeps}
use Rattle.ras_front_end.specs.Parsed.{Parsed, IsParseOf}
use Rattle.ras_parsing.specs.Edit.{Edit, IsEditOf, edited, covered, edited_at}
use Rattle.ras_parsing.specs.Reparse.{first_reparsable, nodes_around, BlockPath, merged, with_piece, token_faults, NoTokenPath, NoBlockPath, ByBlock}
use Rattle.ras_parsing.specs.Rereading.{IsAround, IsNewBlock, IsBlockOf}
use Rattle.ras_parsing.proofs.Around.{around_covered, first_is_in, node_around, piece_length, piece_short, piece_text}
use Rattle.ras_parsing.proofs.BuildLemmas.{forget_root}

-- ---- a node around an edit, in a tree

pub record IsIn (tree : Tree) (edit : Edit) (c : Cursor) : Type 0 where
  pub same : c.tree ≡ tree
  pub around : IsAround c edit

pub nearest_in : (front : Front) (tree : Tree) (edit : Edit) (l : List Cursor) (o : Option (Cursor × Reparser)) (c : Cursor) (r : Reparser) → IsEditOf (text tree) edit → l ≡ nodes_around tree edit → o ≡ first_reparsable front l → o ≡ Some (c, r) → IsPlace c.tree c.place → IsIn tree edit c
nearest_in front tree edit l o c r e f g is is_place =
    let found : first_reparsable front (nodes_around tree edit) ≡ Some (c, r) = ap (first_reparsable front) (sym f) ∙ sym g ∙ is in
    let w = node_around tree edit e c (first_is_in front (nodes_around tree edit) c r found).among in
    record { same = w.same_tree; around = w.around is_place }

pub token_in : (tree : Tree) (edit : Edit) (c : Cursor) → IsEditOf (text tree) edit → c ≡ covered tree edit → IsIn tree edit c
token_in tree edit c e is = record { same = ap (λ (d : Cursor). d.tree) is; around = subst (λ d. IsAround d edit) (sym is) (around_covered tree edit e) }

-- ---- the new text

pub new_short : (tree : Tree) (edit : Edit) (c : Cursor) (new : List ℕ) → IsIn tree edit c → IsEditOf (text tree) edit → length (edited (text tree) edit) < 2 ^ 32 → new ≡ edited_at c edit → length new < 2 ^ 32
new_short tree edit c new w e short is =
    let p = piece_short c edit w.around (subst (λ t. IsEditOf (text t) edit) (sym w.same) e) in
    let q = ap (λ t. length (edited (text t) edit)) w.same in
    omega (arith, p, q, ap length is, short)

-- ---- the paths

-- the output for a text whose braces balance
abbrev pub Reads : Front → Edition → Reparser → List ℕ → Output → Type 0
Reads front edition r s output = IsBalanced (front.lexed edition s) × (reading_of output ≡ front.piece r edition s)

pub is_block : (front : Front) (edition : Edition) (tree : Tree) (edit : Edit) (l : List Cursor) (o : Option (Cursor × Reparser)) (c : Cursor) (r : Reparser) (new read : List ℕ) (reading : Reading)
    → FrontEndKeeps front → IsEditOf (text tree) edit → length (edited (text tree) edit) < 2 ^ 32 → IsPlace c.tree c.place → IsUtf8 new
    → l ≡ nodes_around tree edit → o ≡ first_reparsable front l → o ≡ Some (c, r) → new ≡ edited_at c edit → read ≡ new
    → IsBalanced (front.lexed edition read) → reading ≡ front.piece r edition read → IsNewBlock front edition tree edit c new reading
is_block front edition tree edit l o c r new read reading k e short is_place u f g is new_is same b reads =
    let w = nearest_in front tree edit l o c r e f g is is_place in
    let nearest : first_reparsable front (nodes_around tree edit) ≡ Some (c, r) = ap (first_reparsable front) (sym f) ∙ sym g ∙ is in
    let asked = (first_is_in front (nodes_around tree edit) c r nearest).asked in
    let balanced = subst (λ s. IsBalanced (front.lexed edition s)) same b in
    let reads_new : reading ≡ front.piece r edition new = reads ∙ ap (front.piece r edition) same in
    record {
      same_tree = w.same;
      around = w.around;
      text_is = new_is;
      reparser = r;
      path = record { is_nearest = nearest; balanced = subst (λ s. IsBalanced (front.lexed edition s)) new_is balanced };
      reading_is = reads_new ∙ ap (front.piece r edition) new_is;
      keeps = forget_root _ new reading (front.piece r edition new) (k.piece_kept _ _ _ r edition new asked u (new_short tree edit c new w e short new_is) balanced) reads_new;
    }

pub not_found : (front : Front) (edition : Edition) (tree : Tree) (edit : Edit) (l : List Cursor) (o : Option (Cursor × Reparser)) → l ≡ nodes_around tree edit → o ≡ first_reparsable front l → o ≡ None
    → (c : Cursor) (r : Reparser) → BlockPath front edition tree edit c r → ⊥
not_found front edition tree edit l o f g is c r w =
    let p : Cursor × Reparser = (c, r) in
    let bad : None ≡ Some p = sym is ∙ g ∙ ap (first_reparsable front) f ∙ w.is_nearest in cc

pub not_balanced : (front : Front) (edition : Edition) (tree : Tree) (edit : Edit) (l : List Cursor) (o : Option (Cursor × Reparser)) (d : Cursor) (s : Reparser) (read : List ℕ) → l ≡ nodes_around tree edit → o ≡ first_reparsable front l → o ≡ Some (d, s) → read ≡ edited_at d edit
    → (IsBalanced (front.lexed edition read) → ⊥) → (c : Cursor) (r : Reparser) → BlockPath front edition tree edit c r → ⊥
not_balanced front edition tree edit l o d s read f g is e never c r w =
    let p : Cursor × Reparser = (d, s) in
    let q : Cursor × Reparser = (c, r) in
    let found : Some p ≡ Some q = sym is ∙ g ∙ ap (first_reparsable front) f ∙ w.is_nearest in
    let same : p ≡ q = cc in
    let at : d ≡ c = ap (λ (x : Cursor × Reparser). x.0) same in
    never (subst (λ t. IsBalanced (front.lexed edition t)) (sym (e ∙ ap (λ x. edited_at x edit) at)) w.balanced)

-- ---- the new piece

-- the tree with a piece that has the new text
pub new_text : (tree : Tree) (edit : Edit) (c : Cursor) (u : Tree) → IsIn tree edit c → IsEditOf (text tree) edit → text u ≡ edited_at c edit → text (replace c.tree c.place u) ≡ edited (text tree) edit
new_text tree edit c u w e is = piece_text c edit u w.around e.forwards is ∙ ap (λ t. edited (text t) edit) w.same

-- where the piece is
pub stands : (tree : Tree) (edit : Edit) (c : Cursor) (range : Bounds) → IsIn tree edit c → range ≡ range_of c → (range.start ≤ edit.delete.start) × (edit.delete.end ≤ range.end) × (range.end ≤ length (text tree))
stands tree edit c range w is =
    let from : range.start ≡ range_start c = ap (λ (b : Bounds). b.start) is in
    let to : range.end ≡ range_end c = ap (λ (b : Bounds). b.end) is in
    let whole : length (text c.tree) ≡ length (text tree) = ap (λ t. length (text t)) w.same in
    (omega (arith, w.around.begun, from), omega (arith, w.around.ended, to), omega (arith, w.around.within, to, whole))

pub errors_lie : (tree : Tree) (edit : Edit) (c : Cursor) (range : Bounds) (new : List ℕ) (errors : List ErrorModel) → IsIn tree edit c → edit.delete.start ≤ edit.delete.end → range ≡ range_of c → new ≡ edited_at c edit → All (LiesIn (length new)) errors
    → All (LiesIn (((range.end - range.start) + length edit.insert) - (edit.delete.end - edit.delete.start))) errors
errors_lie tree edit c range new errors w forwards is e h =
    subst (λ n. All (LiesIn n) errors)
    (ap length e ∙ piece_length c edit w.around forwards ∙ ap (λ (b : Bounds). ((b.end - b.start) + length edit.insert) - (edit.delete.end - edit.delete.start)) (sym is)) h

pub whole_is : (root : Cursor) → IsRoot root → focus root ≡ root.tree
whole_is root h = ap (λ p. subtree root.tree p) h

same_parsed : (t u : Tree) (es fs : List ErrorModel) → t ≡ u → es ≡ fs → (let p : Parsed = record { tree = t; errors = es } in p) ≡ record { tree = u; errors = fs }
same_parsed t u es fs e f = ap (λ x. let p : Parsed = record { tree = x; errors = es } in p) e ∙ ap (λ x. let p : Parsed = record { tree = u; errors = x } in p) f

-- the parse with the piece
pub placed : (old : Parsed) (edit : Edit) (c root : Cursor) (u : Tree) (v : Tree) (range : Bounds) (es fs : List ErrorModel) → c.tree ≡ old.tree → root ≡ root_of (replace c.tree c.place u) → u ≡ v → range ≡ range_of c → es ≡ fs
    → (let p : Parsed = record { tree = root.tree; errors = merged old.errors es range edit } in p) ≡ with_piece old edit c (record { tree = v; errors = fs })
placed old edit c root u v range es fs same e f is g =
    same_parsed root.tree (replace old.tree c.place v) (merged old.errors es range edit) (merged old.errors fs (range_of c) edit)
    (ap (λ (d : Cursor). d.tree) e ∙ ap (λ t. replace t c.place u) same ∙ ap (replace old.tree c.place) f)
    (ap (λ b. merged old.errors es b edit) is ∙ ap (λ l. merged old.errors l (range_of c) edit) g)

-- the error of a token lies in its text
pub token_faults_lie : (new : List ℕ) (fault : Option (List ℕ)) → All (LiesIn (length new)) (token_faults new fault)
token_faults_lie new None = λ k d h. absurd (omega (arith, h))
token_faults_lie new (Some m) = λ k d h. first_lies new m k d h
  where
    first_lies : (new m : List ℕ) (k : ℕ) (d : ErrorModel) → k < 1 → LiesIn (length new) (get_or ((let f : ErrorModel = record { message = m; range = record { start = 0; end = length new } } in f) ∷ []) k d)
    first_lies new m zero d h = record { forwards = omega arith; within = omega arith }
    first_lies new m (suc k) d h = absurd (omega (arith, h))

-- ---- what the paths answered of the root of a tree

pub no_token_path : {X : Type 0} (front : Front) (edition : Edition) (tree : Tree) (root : Cursor) (edit : Edit) (o : Option X) (P : X → Type 0) → MatchOption o (NoTokenPath front edition root.tree edit) P → o ≡ None → root ≡ root_of tree → NoTokenPath front edition tree edit
no_token_path front edition tree root edit o P h is e =
    subst (λ (d : Cursor). NoTokenPath front edition d.tree edit) e (subst (λ x. MatchOption x (NoTokenPath front edition root.tree edit) P) is h)

pub no_block_path : {X : Type 0} (front : Front) (edition : Edition) (tree : Tree) (root : Cursor) (edit : Edit) (o : Option X) (P : X → Type 0) → MatchOption o (NoBlockPath front edition root.tree edit) P → o ≡ None → root ≡ root_of tree → NoBlockPath front edition tree edit
no_block_path front edition tree root edit o P h is e =
    subst (λ (d : Cursor). NoBlockPath front edition d.tree edit) e (subst (λ x. MatchOption x (NoBlockPath front edition root.tree edit) P) is h)

pub nothing_found : {X : Type 0} (N : Type 0) (o : Option X) (P : X → Type 0) → MatchOption o N P → o ≡ None → N
nothing_found N o P h is = subst (λ y. MatchOption y N P) is h

pub found_path : {X : Type 0} (N : Type 0) (o : Option X) (P : X → Type 0) (x : X) → MatchOption o N P → o ≡ Some x → P x
found_path N o P x h is = subst (λ y. MatchOption y N P) is h

pub by_block : (front : Front) (edition : Edition) (old : Parsed) (edit : Edit) (root c : Cursor) (s : List ℕ) (reading : Reading) (new : Parsed) (range : Bounds) → root ≡ root_of old.tree → NoTokenPath front edition old.tree edit
    → IsNewBlock front edition root.tree edit c s reading → IsBlockOf old edit c reading new → range ≡ range_of c → ByBlock front edition old edit new range
by_block front edition old edit root c s reading new range e none b p is = record {
  block = c;
  reparser = b.reparser;
  piece = p.piece;
  no_token = none;
  path = subst (λ (d : Cursor). BlockPath front edition d.tree edit c b.reparser) e b.path;
  is_parse = subst (λ r. IsParseOf (edited_at c edit) r p.piece) b.reading_is p.is_parse;
  is = p.is;
  range_is = is;
}
