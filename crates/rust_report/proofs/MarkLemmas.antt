-- Marks of rows.
use Rattle.std.proofs.Common.{◌≡◌, ◌<◌, ℕ, Bool, true, false, ◌&&◌, ◌||◌, List, [], ◌∷◌, ◌++◌, length, map, get_or, Option, Some, None, option_map, refl, sym, ap, ◌∙◌, arith}
use Rattle.std.specs.List.{list_any, range_with_len}
use Rattle.std.proofs.lemmas.List.FromFn.{get_or-map-range_with_len, length-map-range_with_len, map-range_with_len_more}
use Rattle.tree_model.specs.Tree.{Tree, size, parent_place}
use Rattle.tree_model.specs.Rows.{place_at}
use Rattle.tree_model.specs.Cursor.{Cursor, cursor_at, parent_of, ancestors_from, at_place}
use Rattle.tree_model.proofs.AncestorLemmas.{ancestors_of-step}
use Rattle.rust_report.specs.declared.pattern.Step.{Step}
use Rattle.std.proofs.Common.{◌==◌, ◌≤◌, ◌+◌, ◌-◌, cond, replicate, drop, zero, suc}
use Rattle.std.proofs.lemmas.List.FromFn.{filter_of_map_range_with_len_more}
use Rattle.tree_model.specs.Tree.{nil}
use Rattle.tree_model.specs.Rows.{tree_at}
use Rattle.tree_model.specs.Cursor.{descendants_of}
use Rattle.tree_model.proofs.At.{At-fits, forest_size-cons}
use Rattle.tree_model.proofs.TableLemmas.{at_row}
use Rattle.tree_model.proofs.WalkLemmas.{descendants-numbered}
use Rattle.std.proofs.lemmas.List.{append-nil, length-append, drop_all}
use Rattle.std.proofs.lemmas.Simd.{map-map}
use Rattle.std.proofs.lemmas.Bool.{false≢true}
use Rattle.std.specs.List.{filter}
use Rattle.ras_node.specs.Nodes.{kind_at}
use Rattle.lossless_tree.specs.declared.cursor.element.NodeOrToken.{NodeOrToken}
use Rattle.lossless_tree.specs.Element.{element_of}
use Rattle.lossless_tree.proofs.NodeLists.{cursor_of-element_by}
use Rattle.tree_model.specs.Cursor.{focus}
use Rattle.rust_report.specs.declared.pattern.Link.{Link}
use Rattle.rust_report.specs.declared.pattern.Link.TheVariants.{Child, Within}
use Rattle.rust_report.specs.Patterns.{allows, among, is_last, fits_at}
use Rattle.rust_report.specs.Marks.{marks_of, passes, fits_row, fits_up, reaches, element_at}

-- the parent of a row's place is the place of the parent's row
pub parent_at : (tree : Tree) (n : ℕ) (up : Option ℕ) → option_map (place_at tree) up ≡ parent_place (place_at tree n)
    → parent_of (cursor_at tree n) ≡ option_map (cursor_at tree) up
parent_at tree n None e = ap (option_map (at_place (cursor_at tree n))) (sym e)
parent_at tree n (Some p) e = ap (option_map (at_place (cursor_at tree n))) (sym e)

-- a row that has no row above
pub alone : (tree : Tree) (steps : List Step) (n : ℕ) → option_map (place_at tree) None ≡ parent_place (place_at tree n)
    → fits_up tree steps n ≡ fits_row tree steps n
alone tree steps n e =
    ap (list_any (passes steps)) (ancestors_of-step (cursor_at tree n)
    ∙ ap (λ up. cursor_at tree n ∷ ancestors_from up) (parent_at tree n None e))
    ∙ or_false (fits_row tree steps n)
  where
    or_false : (b : Bool) → (b || false) ≡ b
    or_false true = refl
    or_false false = refl

-- a row below another one
pub below : (tree : Tree) (steps : List Step) (n p : ℕ) → option_map (place_at tree) (Some p) ≡ parent_place (place_at tree n)
    → fits_up tree steps n ≡ (fits_row tree steps n || fits_up tree steps p)
below tree steps n p e =
    ap (list_any (passes steps)) (ancestors_of-step (cursor_at tree n)
    ∙ ap (λ up. cursor_at tree n ∷ ancestors_from up) (parent_at tree n (Some p) e))

-- ---- marks

pub marks_length : (test : ℕ → Bool) (n : ℕ) (marks : List Bool) → marks ≡ marks_of test n → length marks ≡ n
marks_length test n marks e = ap length e ∙ length-map-range_with_len test 0 n

pub mark_at : (test : ℕ → Bool) (n i : ℕ) (d : Bool) (marks : List Bool) → marks ≡ marks_of test n → i < n → get_or marks i d ≡ test i
mark_at test n i d marks e h = ap (λ l. get_or l i d) e ∙ get_or-map-range_with_len test 0 n i i d h (omega arith)

-- a mark of the row itself is one of the row or of one above it
pub marked_here : (tree : Tree) (steps : List Step) (n p : ℕ) (up : Option ℕ) (mark : Bool)
    → up ≡ Some p → option_map (place_at tree) up ≡ parent_place (place_at tree n)
    → mark ≡ fits_row tree steps n → mark ≡ true → mark ≡ fits_up tree steps n
marked_here tree steps n p up mark is_up place is is_true =
    either mark (fits_row tree steps n) (fits_up tree steps p) is is_true
    ∙ sym (below tree steps n p (ap (option_map (place_at tree)) (sym is_up) ∙ place))
  where
    either : (a b c : Bool) → a ≡ b → a ≡ true → a ≡ (b || c)
    either a true c e h = h
    either a false c e h = absurd (false≢true (sym e ∙ h))

-- with no mark of the row it is what the parent's is
pub marked_above : (tree : Tree) (steps : List Step) (n p : ℕ) (up : Option ℕ) (mark over : Bool)
    → up ≡ Some p → option_map (place_at tree) up ≡ parent_place (place_at tree n)
    → mark ≡ fits_row tree steps n → mark ≡ false → over ≡ fits_up tree steps p → over ≡ fits_up tree steps n
marked_above tree steps n p up mark over is_up place is is_false above =
    above
    ∙ or_other (fits_row tree steps n) (fits_up tree steps p) (sym is ∙ is_false)
    ∙ sym (below tree steps n p (ap (option_map (place_at tree)) (sym is_up) ∙ place))
  where
    or_other : (a b : Bool) → a ≡ false → b ≡ (a || b)
    or_other true b e = absurd (false≢true (sym e))
    or_other false b e = refl

reached : (link : Link) (tree : Tree) (rest : List Step) (p : ℕ) → reaches link tree rest p ≡ among link (passes rest) (Some (cursor_at tree p))
reached Child tree rest p = refl
reached Within tree rest p = refl

not_last : (rest : List Step) → false ≡ (length rest == 0) → is_last rest ≡ false
not_last [] e = absurd (false≢true e)
not_last (s ∷ r) e = refl

-- a row fits further steps if it is allowed by the first and its parent reaches the others
pub parent_reaches : (tree : Tree) (step : Step) (rest : List Step) (n p : ℕ) (up : Option ℕ) (seen : Bool)
    → up ≡ Some p → option_map (place_at tree) up ≡ parent_place (place_at tree n)
    → allows step (kind_at (cursor_at tree n)) ≡ true → false ≡ (length rest == 0)
    → seen ≡ reaches step.link tree rest p → seen ≡ fits_row tree (step ∷ rest) n
parent_reaches tree step rest n p up seen is_up place is_allowed is_long is =
    is
    ∙ reached step.link tree rest p
    ∙ ap (among step.link (passes rest)) (sym (parent_at tree n (Some p) (ap (option_map (place_at tree)) (sym is_up) ∙ place)))
    ∙ both (allows step (kind_at (cursor_at tree n))) (is_last rest) (among step.link (passes rest) (parent_of (cursor_at tree n))) is_allowed (not_last rest is_long)
  where
    both : (a b c : Bool) → a ≡ true → b ≡ false → c ≡ (a && (b || c))
    both true false c e h = refl
    both true true c e h = absurd (false≢true (sym h))
    both false b c e h = absurd (false≢true e)

-- the node or token at a row fits as its row does
pub fits_there : (tree : Tree) (steps : List Step) (n : ℕ) → fits_at steps (element_at tree n) ≡ fits_row tree steps n
fits_there tree steps n = ap (passes steps) (cursor_of-element_by (focus (cursor_at tree n)) (cursor_at tree n))

pub kept_one : {A : Type 0} (test : A → Bool) (x y : A) (found new : List A) → test x ≡ true → y ≡ x → new ≡ found ++ y ∷ [] → new ≡ found ++ filter test (x ∷ [])
kept_one test x y found new is same e =
    e ∙ ap (λ z. found ++ z ∷ []) same ∙ ap (λ b. found ++ cond b (x ∷ []) []) (sym is)

pub left_out : {A : Type 0} (test : A → Bool) (x : A) (found : List A) → test x ≡ false → found ≡ found ++ filter test (x ∷ [])
left_out test x found is = sym (append-nil found) ∙ ap (λ b. found ++ cond b (x ∷ []) []) (sym is)

-- one more row
pub one_more : (test : ℕ → Bool) (marks new : List Bool) (mark : Bool) → marks ≡ marks_of test (length marks)
    → mark ≡ test (length marks) → new ≡ marks ++ mark ∷ [] → new ≡ marks_of test (length new)
one_more test marks new mark before is e =
    e
    ∙ ap (λ m. marks ++ m ∷ []) is
    ∙ ap (λ l. l ++ test (length marks) ∷ []) before
    ∙ sym (map-range_with_len_more test 0 (length marks) (length marks) (omega arith))
    ∙ ap (marks_of test) (sym (ap length e ∙ longer marks mark))
  where
    longer : (l : List Bool) (x : Bool) → length (l ++ x ∷ []) ≡ length l + 1
    longer l x = length-append l (x ∷ [])

-- it stays within the rows of the tree
pub room : (marks new : List Bool) (mark : Bool) (n at count : ℕ) → at < count → at ≡ length marks → count ≡ n
    → new ≡ marks ++ mark ∷ [] → length new ≤ n
room marks new mark n at count h e f is = omega (arith, h, e, f, ap length is, length-append marks (mark ∷ []), refl {a = length (mark ∷ [])})

-- with no steps each row fits
all_true : (a n : ℕ) → replicate n true ≡ map (λ i. true) (range_with_len a n)
all_true a zero = refl
all_true a (suc n) = ap (λ l. true ∷ l) (all_true (a + 1) n)

pub none_left : (tree : Tree) (steps : List Step) (n : ℕ) (marks : List Bool) → marks ≡ replicate n true
    → marks ≡ marks_of (fits_row tree (drop (length steps) steps)) n
none_left tree steps n marks e = e ∙ all_true 0 n ∙ ap (λ l. marks_of (fits_row tree l) n) (sym (drop_all (length steps) steps (omega arith)))

-- ---- the rows of a subtree

pub found_none : (tree : Tree) (steps : List Step) (first : ℕ)
    → [] ≡ filter (fits_at steps) (map (element_at tree) (range_with_len first (first - first)))
found_none tree steps first = ap (λ k. filter (fits_at steps) (map (element_at tree) (range_with_len first k))) (let none : 0 ≡ first - first = omega arith in none)

pub found_more : (tree : Tree) (steps : List Step) (first row : ℕ) (found new : List (NodeOrToken Cursor Cursor)) → first ≤ row
    → found ≡ filter (fits_at steps) (map (element_at tree) (range_with_len first (row - first)))
    → new ≡ found ++ filter (fits_at steps) (element_at tree row ∷ [])
    → new ≡ filter (fits_at steps) (map (element_at tree) (range_with_len first (row + 1 - first)))
found_more tree steps first row found new h before e =
    e
    ∙ ap (λ l. l ++ filter (fits_at steps) (element_at tree row ∷ [])) before
    ∙ sym (filter_of_map_range_with_len_more (fits_at steps) (element_at tree) first (row - first) row (omega (arith, h)))
    ∙ ap (λ k. filter (fits_at steps) (map (element_at tree) (range_with_len first k))) (let next : row - first + 1 ≡ row + 1 - first = omega (arith, h) in next)

pub ends_within : (table tree : Tree) (first end : ℕ) → table ≡ tree → first < size tree → end ≡ first + size (tree_at table first) → end ≤ size tree
ends_within table tree first end same h e =
    omega (arith, e ∙ ap (λ t. first + size (tree_at t first)) same, At-fits (at_row tree first h), forest_size-cons tree nil)

pub found_all : (table tree : Tree) (root : Cursor) (steps : List Step) (first row end : ℕ) (found : List (NodeOrToken Cursor Cursor))
    → table ≡ tree → first < size tree → cursor_at tree first ≡ root → end ≡ first + size (tree_at table first) → row ≡ end
    → found ≡ filter (fits_at steps) (map (element_at tree) (range_with_len first (row - first)))
    → found ≡ filter (fits_at steps) (map element_of (descendants_of root))
found_all table tree root steps first row end found same h place behind is_end before =
    before
    ∙ ap (λ k. filter (fits_at steps) (map (element_at tree) (range_with_len first (k - first)))) is_end
    ∙ ap (filter (fits_at steps)) (
    sym (map-map element_of (cursor_at tree) (range_with_len first (end - first)))
    ∙ ap (map element_of) (descendants-numbered tree first end h (behind ∙ ap (λ t. first + size (tree_at t first)) same))
    ∙ ap (λ c. map element_of (descendants_of c)) place)
