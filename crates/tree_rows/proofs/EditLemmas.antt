-- What the rows and texts of a new table show.
use Rattle.std.proofs.Common.{◌≡◌, ℕ, suc, ◌+◌, ◌-◌, ◌<◌, ◌≤◌, List, ◌∷◌, ◌++◌, length, map, take, drop, get_or, true, false, refl, sym, ap, subst, ◌∙◌, arith, append_assoc, append-nil, length-append, []}
use Rattle.std.specs.Prelude.{◌^◌}
use Rattle.std.proofs.lemmas.List.{length-take, length-drop, get_or-take, get_or-drop, get_or-append_right}
use Rattle.std.proofs.Math.Seq.{take-append_seam, drop-append_seam}
use Rattle.syntax_kind.specs.declared.syntax_kind.SyntaxKind.{SyntaxKind}
use Rattle.tree_rows.specs.declared.rows.Row.{Row}
use Rattle.tree_rows.specs.declared.shift.Shift.{Shift}
use Rattle.tree_model.specs.Tree.{Tree, node, token, nil, cons, text, size, kind_of, IsNode}
use Rattle.tree_model.specs.Rows.{place_at, tree_at, start_at, end_at, TextsAreUtf8}
use Rattle.tree_rows.specs.Rows.{Columns, columns_of, rows_of, parents_of, row_of, row_at, parent_at, no_row, no_rows, one_row, joined, Represents, tree_of_rows}
use Rattle.tree_rows.specs.MovedRows.{moved, moved_from, moved_row, moved_number, moved_subtree, MoveFits, rows_between, shift_from, moved_before, moved_behind}
use Rattle.tree_model.specs.Edit.{splice, replace}
use Rattle.tree_model.proofs.At.{At-fits, cong₂, forest_size-cons}
use Rattle.tree_rows.proofs.InPlace.{append_changed}
use Rattle.tree_rows.proofs.Hung.{Hung, hung, hung_of, columns, same_columns, map-hung_of}
use Rattle.tree_rows.proofs.At.{length-hung_of}
use Rattle.tree_rows.proofs.Parents.{columns_of-hung, get_or-parents_of}
use Rattle.tree_rows.proofs.MovedColumns.{joined_assoc, three_joined, hung_between, length-all, moved_between}
use Rattle.tree_model.proofs.TableLemmas.{at_row, up_at}
use Rattle.tree_rows.proofs.TableLemmas.{cut, columns_shown, row_end_fits, tree_of_rows-rows_of}
use Rattle.tree_rows.proofs.StepLemmas.{end_of_row, row_start, row_kind, parent_of_row}
use Rattle.tree_model.proofs.Texts.{subtree_utf8}
use Rattle.tree_rows.proofs.MovedRows.{replaced_utf8, At-inside, At-later}
use Rattle.tree_rows.proofs.MovedRows.{moved_hung, replaced, hung_of-moved, moved-above}
use Rattle.tree_model.proofs.EditLaws.{spliced}
use Rattle.tree_model.proofs.PlaceLemmas.{within_at}
use Rattle.tree_model.proofs.EditLemmas.{Cuts, up_of-earlier, within_rows, within_text}

pub parent_is_earlier : (whole : Tree) (n : ℕ) → n < size whole → parent_at whole n ≤ n
parent_is_earlier whole n h = omega (arith, parent_of_row whole n h, up_of-earlier (at_row whole n h) 0 0 (omega arith))

-- rows that were copied and then moved
pub all_moved : (by : Shift) (old next new copy : Columns) (n : ℕ) → length old.parents ≡ length old.rows → n ≡ length old.rows → next ≡ joined old copy → new ≡ moved_from n by next → new ≡ joined old (moved by copy)
all_moved by old next new copy n beside is_n is_next is_new =
    is_new ∙ ap (moved_from n by) is_next
    ∙ same_columns (moved_from n by (joined old copy)) (joined old (moved by copy))
    (append_changed (moved_row by) old.rows copy.rows n is_n)
    (append_changed (moved_number by) old.parents copy.parents n (omega (arith, is_n, beside)))

-- which row of the tree a copied one is
pub record Copied (whole : Tree) (next : Columns) (first end k from : ℕ) : Type 0 where
  pub row_is : get_or next.rows k no_row ≡ row_at whole from
  pub parent_is : get_or next.parents k 0 ≡ parent_at whole from
  pub later : first ≤ from
  pub there : from < end

pub copied_at : (whole : Tree) (old next : Columns) (first end n k : ℕ) → first ≤ end → end ≤ size whole → length old.parents ≡ length old.rows → n ≡ length old.rows
    → next ≡ joined old (rows_between whole first end) → n ≤ k → k < length next.rows → Copied whole next first end k (first + (k - n))
copied_at whole old next first end n k h fits beside is_n is_next behind lt =
    let rows = rows_of (cons whole nil) 0 0 in
    let cut = rows_between whole first end in
    let count = end - first in
    let i = k - n in
    let all = length-all whole in
    let long : length cut.rows ≡ count = omega (arith, length-take count (drop first rows), length-drop first rows, all, fits) in
    let in_cut : i < count = omega (arith, lt, ap (λ c. length c.rows) is_next, length-append old.rows cut.rows, long, is_n, behind) in
    let in_rows : first + i < length rows = omega (arith, in_cut, fits, all) in
    record {
      row_is =
          ap (λ c. get_or c.rows k no_row) is_next ∙ get_or-append_right old.rows cut.rows n k no_row (sym is_n) behind ∙ get_or-take count (drop first rows) i no_row in_cut
          ∙ get_or-drop first rows i no_row;
      parent_is =
          ap (λ c. get_or c.parents k 0) is_next ∙ get_or-append_right old.parents cut.parents n k 0 (omega (arith, is_n, beside)) behind ∙ get_or-take count (drop first (parents_of rows)) i 0 in_cut
          ∙ get_or-drop first (parents_of rows) i 0 ∙ get_or-parents_of rows (first + i) in_rows;
      later = omega arith;
      there = omega (arith, in_cut, h);
    }

-- what is cut out of a list
cut_out : (rows xs ys zs : List Hung) (a b : ℕ) → rows ≡ xs ++ (ys ++ zs) → length xs ≡ a → a + length ys ≡ b → take (b - a) (drop a rows) ≡ ys
cut_out rows xs ys zs a b is is_a is_b =
    let count : b - a ≡ length ys = omega arith in
    ap (λ l. take (b - a) (drop a l)) is ∙ ap (λ k. take (b - a) (drop k (xs ++ (ys ++ zs)))) (sym is_a)
    ∙ ap (take (b - a)) (drop-append_seam xs (ys ++ zs)) ∙ ap (λ k. take k (ys ++ zs)) count ∙ take-append_seam ys zs

-- the rows of a subtree among those of the tree
pub record Segment (whole : Tree) (n : ℕ) (h : n < size whole) : Type 0 where
  pub before : List Hung
  pub behind : List Hung
  pub is : hung_of (cons whole nil) 0 0 0 ≡ before ++ (hung_of (cons (tree_at whole n) nil) n (start_at whole n) (up_at whole n h) ++ behind)
  pub count : length before ≡ n

pub segment : (whole : Tree) (n : ℕ) (h : n < size whole) → Segment whole n h
segment whole n h =
    let t = tree_at whole n in
    let w = replaced (at_row whole n h) t 0 0 0 ((0 + n) + size t) ((0 + n) + size t) ((0 + start_at whole n) + length (text t)) ((0 + start_at whole n) + length (text t)) (omega arith) refl refl refl refl in
    record {
      before = w.before;
      behind = w.behind;
      is = w.old ∙ ap (λ l. w.before ++ (l ++ w.behind)) (cong₂ (λ i j. hung_of (cons t nil) i j (up_at whole n h)) (omega arith) (omega arith));
      count = w.count;
    }

-- the rows of a node that moves: its own, and those below it
node_parts : (whole : Tree) (n : ℕ) (h : n < size whole) (t : Tree) (to byte up : ℕ) → tree_at whole n ≡ t → IsNode t
    → columns (hung_of (cons t nil) to byte up) ≡ joined (one_row (row_of t to byte) up) (moved (shift_from n to (start_at whole n) byte) (rows_between whole (n + 1) (n + size t)))
node_parts whole n h (token k s) to byte up is_t bad = absurd bad
node_parts whole n h (node k c) to byte up is_t yes_node =
    let w = segment whole n h in
    let b = start_at whole n in
    let own : Hung = hung (node k c) n b (up_at whole n h) in
    let by : Shift = shift_from n to b byte in
    let inner = hung_of c (suc n) b n in
    let split_up : hung_of (cons whole nil) 0 0 0 ≡ (w.before ++ own ∷ []) ++ (inner ++ w.behind) =
    w.is ∙ ap (λ t. w.before ++ (hung_of (cons t nil) n b (up_at whole n h) ++ w.behind)) is_t
    ∙ ap (λ l. w.before ++ (own ∷ (l ++ w.behind))) (append-nil inner)
    ∙ sym (append_assoc w.before (own ∷ []) (inner ++ w.behind)) in
    let between : hung_between whole (n + 1) (n + size (node k c)) ≡ inner =
    cut_out (hung_of (cons whole nil) 0 0 0) (w.before ++ own ∷ []) inner w.behind (n + 1) (n + size (node k c)) split_up
    (omega (arith, length-append w.before (own ∷ []), w.count)) (omega (arith, length-hung_of c (suc n) b n)) in
    let moves : hung_of c (suc to) byte to ≡ map (moved_hung by) inner =
    hung_of-moved c by (suc n) b n (suc to) byte to (omega arith) (omega arith) (omega arith) (omega arith) (omega (arith, moved-above by n (omega arith))) in
    ap (λ l. columns (hung (node k c) to byte up ∷ l)) (append-nil (hung_of c (suc to) byte to) ∙ moves ∙ ap (map (moved_hung by)) (sym between))
    ∙ ap (joined (one_row (row_of (node k c) to byte) up)) (sym (moved_between whole by (n + 1) (n + size (node k c))))

subtree_is : (whole : Tree) (n : ℕ) (h : n < size whole) (to byte up : ℕ) → IsNode (tree_at whole n) → moved_subtree whole n to byte up ≡ columns (hung_of (cons (tree_at whole n) nil) to byte up)
subtree_is whole n h to byte up is_node =
    let t = tree_at whole n in
    same_columns (moved_subtree whole n to byte up) (columns (hung_of (cons t nil) to byte up))
    (sym (map-hung_of (cons t nil) to byte up)) (sym (ap (λ c. c.parents) (node_parts whole n h t to byte up refl is_node)))

row_of_node : (t : Tree) (n b : ℕ) → IsNode t → row_of t n b ≡ record { kind = kind_of t; is_token = false; start = b; end = n + size t }
row_of_node (token k s) n b bad = absurd bad
row_of_node (node k c) n b yes_node = ap (λ e. record { kind = k; is_token = false; start = b; end = e }) (omega arith)

-- what is pushed of a node that is read
pub node_pushed : (whole : Tree) (n : ℕ) (h : n < size whole) (r : Row) (old middle new : Columns) (first to byte up : ℕ) → IsNode (tree_at whole n) → r ≡ row_at whole n → first ≡ n + 1
    → middle ≡ joined old (one_row (record { kind = r.kind; is_token = false; start = byte; end = (r.end - n) + to }) up)
    → new ≡ joined middle (moved (record { from_row = n; to_row = to; from_byte = r.start; to_byte = byte }) (rows_between whole first r.end))
    → new ≡ joined old (moved_subtree whole n to byte up)
node_pushed whole n h r old middle new first to byte up is_node is_r is_first is_middle is_new =
    let t = tree_at whole n in
    let own = one_row (row_of t to byte) up in
    let is_kind : r.kind ≡ kind_of t = ap (λ r. r.kind) is_r ∙ row_kind whole n h in
    let is_start : r.start ≡ start_at whole n = ap (λ r. r.start) is_r ∙ row_start whole n h in
    let is_end : r.end ≡ n + size t = ap (λ r. r.end) is_r ∙ end_of_row whole n h in
    let ends : (r.end - n) + to ≡ to + size t = omega (arith, is_end) in
    let is_own : one_row (record { kind = r.kind; is_token = false; start = byte; end = (r.end - n) + to }) up ≡ own =
    cong₂ (λ k e. one_row (record { kind = k; is_token = false; start = byte; end = e }) up) is_kind ends ∙ ap (λ x. one_row x up) (sym (row_of_node t to byte is_node)) in
    is_new ∙ cong₂ (λ c s. joined c (moved (shift_from n to s byte) (rows_between whole first r.end))) (is_middle ∙ ap (joined old) is_own) is_start
    ∙ cong₂ (λ i e. joined (joined old own) (moved (shift_from n to (start_at whole n) byte) (rows_between whole i e))) is_first is_end
    ∙ joined_assoc old own (moved (shift_from n to (start_at whole n) byte) (rows_between whole (n + 1) (n + size t)))
    ∙ ap (joined old) (sym (node_parts whole n h t to byte up refl is_node) ∙ sym (subtree_is whole n h to byte up is_node))

pub fits_inside : (whole : Tree) (n k : ℕ) (r : Row) (to byte : ℕ) → n < size whole → r ≡ row_at whole n → to + size (tree_at whole n) < 2 ^ 63 → byte + length (text (tree_at whole n)) < 2 ^ 32
    → n ≤ k → k < r.end → MoveFits (record { from_row = n; to_row = to; from_byte = r.start; to_byte = byte }) (row_at whole k)
fits_inside whole n k r to byte h is_r rows_fit bytes_fit later lt =
    let is_end = ap (λ r. r.end) is_r ∙ end_of_row whole n h in
    let is_start = ap (λ r. r.start) is_r ∙ row_start whole n h in
    let in_range : k < size whole = omega (arith, lt, is_end, At-fits (at_row whole n h), forest_size-cons whole nil) in
    let w = At-inside (at_row whole n h) (at_row whole k in_range) later (omega (arith, lt, is_end)) in
    let starts = row_start whole k in_range in
    record {
      byte_fits = omega (arith, w.starts, w.stops, starts, is_start);
      end_fits = omega (arith, end_of_row whole k in_range, w.ends);
    }

-- the table of a subtree
pub subtree_shown : (whole : Tree) (n : ℕ) (all new : Columns) (s part : List ℕ) → n < size whole → IsNode (tree_at whole n) → Represents all s whole
    → new ≡ joined no_rows (moved_subtree whole n 0 0 0) → part ≡ text (tree_at whole n) → Represents new part (tree_at whole n)
subtree_shown whole n all new s part h is_node w is_new is_part =
    let t = tree_at whole n in
    let v = cut all s whole n w h in
    let shown = columns_shown t new (is_new ∙ subtree_is whole n h 0 0 0 is_node ∙ sym (columns_of-hung (cons t nil))) in
    record {
      rows_are = shown.0;
      parents_are = shown.1;
      text_is = is_part;
      texts_are_utf8 = subtree_utf8 (at_row whole n h) w.texts_are_utf8;
      short = omega (arith, ap length is_part, v.end_in_text, w.short);
      root_is_node = is_node;
    }

-- a subtree's text is short
pub text_fits : (all : Columns) (s : List ℕ) (whole : Tree) (n : ℕ) → Represents all s whole → n < size whole → length (text (tree_at whole n)) < 2 ^ 32
text_fits all s whole n w h = let v = cut all s whole n w h in omega (arith, v.end_in_text, w.short)

pub fits_before : (whole : Tree) (n k e count : ℕ) → n < size whole → e ≡ n + size (tree_at whole n) → (size whole - size (tree_at whole n)) + count < 2 ^ 63 → length (text whole) < 2 ^ 32
    → k < n → MoveFits (shift_from e (n + count) 0 0) (row_at whole k)
fits_before whole n k e count h is_e rows_fit short lt =
    let in_range : k < size whole = omega arith in
    let ends = row_end_fits whole k in_range in
    record {
      byte_fits = omega (arith, row_start whole k in_range, within_text whole k in_range);
      end_fits = omega (arith, ends, is_e, within_rows whole n h);
    }

pub fits_behind : (whole : Tree) (n k e count b bytes : ℕ) → n < size whole → e ≡ n + size (tree_at whole n) → (size whole - size (tree_at whole n)) + count < 2 ^ 63
    → (length (text whole) - length (text (tree_at whole n))) + bytes < 2 ^ 32 → b ≡ end_at whole n
    → e ≤ k → k < size whole → (d : ℕ) → d ≡ start_at whole n + bytes → MoveFits (shift_from e (n + count) b d) (row_at whole k)
fits_behind whole n k e count b bytes h is_e rows_fit bytes_fit is_b later in_range d is_d =
    let ends = row_end_fits whole k in_range in
    let starts = row_start whole k in_range in
    let after = At-later (at_row whole n h) (at_row whole k in_range) (omega (arith, later, is_e)) in
    record {
      byte_fits = omega (arith, after, starts, is_b, is_d, within_text whole k in_range, within_text whole n h);
      end_fits = omega (arith, ends, is_e, within_rows whole n h);
    }

pub before_moved : (whole : Tree) (n count e : ℕ) (empty new : Columns) → e ≡ n + size (tree_at whole n) → empty ≡ no_rows
    → new ≡ joined empty (moved (shift_from e (n + count) 0 0) (rows_between whole 0 n)) → new ≡ moved_before whole n count
before_moved whole n count e empty new is_e is_empty is_new =
    is_new ∙ cong₂ (λ c x. joined c (moved (shift_from x (n + count) 0 0) (rows_between whole 0 n))) is_empty is_e

pub behind_moved : (whole : Tree) (n count bytes e b d z : ℕ) (old new : Columns) → e ≡ n + size (tree_at whole n) → b ≡ end_at whole n → d ≡ start_at whole n + bytes → z ≡ size whole
    → new ≡ joined old (moved (shift_from e (n + count) b d) (rows_between whole e z)) → new ≡ joined old (moved_behind whole n count bytes)
behind_moved whole n count bytes e b d z old new is_e is_b is_d is_z is_new =
    is_new ∙ cong₂ (λ x y. joined old (moved (shift_from x (n + count) y d) (rows_between whole x z))) is_e is_b
    ∙ cong₂ (λ x y. joined old (moved (shift_from (n + size (tree_at whole n)) (n + count) (end_at whole n) x) (rows_between whole (n + size (tree_at whole n)) y))) is_d is_z

-- the rows of the tree with a piece replaced
rows_replaced : (whole : Tree) (n : ℕ) (h : n < size whole) (u : Tree) (count bytes up : ℕ) (kept piece : Columns) → count ≡ size u → bytes ≡ length (text u) → up ≡ parent_at whole n
    → piece ≡ columns (hung_of (cons u nil) n (start_at whole n) up) → kept ≡ joined (joined (moved_before whole n count) piece) (moved_behind whole n count bytes)
    → kept ≡ columns_of (cons (replace whole (place_at whole n) u) nil)
rows_replaced whole n h u count bytes up kept piece is_count is_bytes is_up is_piece is_kept =
    let t = tree_at whole n in
    let all = hung_of (cons whole nil) 0 0 0 in
    let w = replaced (at_row whole n h) u 0 0 0 (n + size t) (n + count) (end_at whole n) (start_at whole n + bytes) (omega arith) (omega arith) (omega (arith, is_count)) (omega arith) (omega (arith, is_bytes)) in
    let here = hung_of (cons t nil) (0 + n) (0 + start_at whole n) (up_at whole n h) in
    let front : hung_between whole 0 n ≡ w.before = cut_out all [] w.before (here ++ w.behind) 0 n w.old refl (omega (arith, w.count)) in
    let length_here : length here ≡ size t = omega (arith, length-hung_of (cons t nil) (0 + n) (0 + start_at whole n) (up_at whole n h), forest_size-cons t nil) in
    let regrouped : all ≡ (w.before ++ here) ++ (w.behind ++ []) = w.old ∙ sym (append_assoc w.before here w.behind) ∙ ap (λ l. (w.before ++ here) ++ l) (sym (append-nil w.behind)) in
    let until_here : length (w.before ++ here) ≡ n + size t = omega (arith, length-append w.before here, w.count, length_here) in
    let total : (n + size t) + length w.behind ≡ size whole =
    omega (arith, ap length regrouped, length-append (w.before ++ here) (w.behind ++ []), length-append w.behind [], until_here, length-hung_of (cons whole nil) 0 0 0, forest_size-cons whole nil) in
    let rear : hung_between whole (n + size t) (size whole) ≡ w.behind = cut_out all (w.before ++ here) w.behind [] (n + size t) (size whole) regrouped until_here total in
    let before : Shift = shift_from (n + size t) (n + count) 0 0 in
    let behind : Shift = shift_from (n + size t) (n + count) (end_at whole n) (start_at whole n + bytes) in
    let new = hung_of (cons u nil) (0 + n) (0 + start_at whole n) (up_at whole n h) in
    let is_new : piece ≡ columns new =
    is_piece ∙ cong₂ (λ i j. columns (hung_of (cons u nil) i j up)) (omega arith) (omega arith)
    ∙ ap (λ i. columns (hung_of (cons u nil) (0 + n) (0 + start_at whole n) i)) (is_up ∙ parent_of_row whole n h) in
    let front_is : moved_before whole n count ≡ columns (map (moved_hung before) w.before) = moved_between whole before 0 n ∙ ap (λ l. columns (map (moved_hung before) l)) front in
    let rear_is : moved_behind whole n count bytes ≡ columns (map (moved_hung behind) w.behind) =
    moved_between whole behind (n + size t) (size whole) ∙ ap (λ l. columns (map (moved_hung behind) l)) rear in
    is_kept ∙ cong₂ joined (cong₂ joined front_is is_new) rear_is
    ∙ three_joined (map (moved_hung before) w.before) new (map (moved_hung behind) w.behind)
    ∙ ap columns (sym w.new)
    ∙ sym (columns_of-hung (cons (replace whole (place_at whole n) u) nil))

-- the table of the tree with a piece replaced
pub replaced_shown : (whole : Tree) (n : ℕ) (u : Tree) (all new : Columns) (s spliced_s : List ℕ) → n < size whole → Represents all s whole
    → new ≡ columns_of (cons (replace whole (place_at whole n) u) nil)
    → spliced_s ≡ splice (text whole) (start_at whole n) (end_at whole n) (text u) → length (splice (text whole) (start_at whole n) (end_at whole n) (text u)) < 2 ^ 32
    → TextsAreUtf8 (cons u nil) → IsNode (replace whole (place_at whole n) u) → Represents new spliced_s (replace whole (place_at whole n) u)
replaced_shown whole n u all new s spliced_s h w is_new is_text fits utf8 is_node =
    let shown = columns_shown (replace whole (place_at whole n) u) new is_new in
    record {
      rows_are = shown.0;
      parents_are = shown.1;
      text_is = is_text ∙ sym (spliced whole (place_at whole n) u (within_at whole n h));
      texts_are_utf8 = replaced_utf8 (at_row whole n h) u w.texts_are_utf8 utf8;
      short = omega (arith, ap length is_text);
      root_is_node = is_node;
    }

-- what the loops of a replacement leave
pub token_pushed : (whole : Tree) (n : ℕ) (h : n < size whole) (k : SyntaxKind) (new_text : List ℕ) (before middle kept : Columns) (b e bytes up : ℕ) → b ≡ start_at whole n → e ≡ n + 1 → bytes ≡ length new_text
    → up ≡ parent_at whole n → before ≡ moved_before whole n 1 → middle ≡ joined before (one_row (record { kind = k; is_token = true; start = b; end = e }) up)
    → kept ≡ joined middle (moved_behind whole n 1 bytes) → kept ≡ columns_of (cons (replace whole (place_at whole n) (token k new_text)) nil)
token_pushed whole n h k new_text before middle kept b e bytes up is_b is_e is_bytes is_up is_before is_middle is_kept =
    let own : Row = record { kind = k; is_token = true; start = b; end = e } in
    let ends : e ≡ suc n = omega (arith, is_e) in
    rows_replaced whole n h (token k new_text) 1 bytes up kept (one_row own up) refl is_bytes is_up
    (cong₂ (λ x y. one_row (record { kind = k; is_token = true; start = x; end = y }) up) is_b ends)
    (is_kept ∙ ap (λ c. joined c (moved_behind whole n 1 bytes)) (is_middle ∙ ap (λ c. joined c (one_row own up)) is_before))

pub node_replaced : (whole : Tree) (n : ℕ) (h : n < size whole) (piece : Tree) (other : ℕ) (before middle kept : Columns) (b count bytes up : ℕ) → other < size piece → IsNode (tree_at piece other)
    → b ≡ start_at whole n → count ≡ size (tree_at piece other) → bytes ≡ length (text (tree_at piece other))
    → up ≡ parent_at whole n → before ≡ moved_before whole n count → middle ≡ joined before (moved_subtree piece other n b up)
    → kept ≡ joined middle (moved_behind whole n count bytes) → kept ≡ columns_of (cons (replace whole (place_at whole n) (tree_at piece other)) nil)
node_replaced whole n h piece other before middle kept b count bytes up is_other is_node is_b is_count is_bytes is_up is_before is_middle is_kept =
    rows_replaced whole n h (tree_at piece other) count bytes up kept (moved_subtree piece other n b up) is_count is_bytes is_up
    (subtree_is piece other is_other n b up is_node ∙ ap (λ x. columns (hung_of (cons (tree_at piece other) nil) n x up)) is_b)
    (is_kept ∙ ap (λ c. joined c (moved_behind whole n count bytes)) (is_middle ∙ ap (λ c. joined c (moved_subtree piece other n b up)) is_before))

pub cuts : (all : Columns) (s l : List ℕ) (whole : Tree) (n a e : ℕ) → Represents all s whole → n < size whole → l ≡ s → a ≡ start_at whole n → e ≡ end_at whole n → Cuts l whole a e
cuts all s l whole n a e w h is_l is_a is_e =
    let v = cut all s whole n w h in
    record {
      ordered = omega (arith, is_a, is_e, v.start_in_order);
      within = omega (arith, is_e, ap length is_l, v.end_in_text);
      whole_text = is_l ∙ w.text_is;
      short = omega (arith, ap length is_l, w.short);
      start_boundary = rw (is_l, is_a) v.start_boundary;
      end_boundary = rw (is_l, is_e) v.end_boundary;
    }

pub subtree_at_utf8 : (all : Columns) (s : List ℕ) (whole : Tree) (n : ℕ) → Represents all s whole → n < size whole → TextsAreUtf8 (cons (tree_at whole n) nil)
subtree_at_utf8 all s whole n w h = subtree_utf8 (at_row whole n h) w.texts_are_utf8

pub as_table : (t x : Tree) (kept : Columns) (s : List ℕ) → Represents kept s t → x ≡ tree_of_rows kept s → (x ≡ t) × IsNode x
as_table t x kept s w is = let same : x ≡ t = is ∙ tree_of_rows-rows_of t kept s w.rows_are w.text_is in (same, subst IsNode (sym same) w.root_is_node)
