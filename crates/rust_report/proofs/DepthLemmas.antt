-- Numbers of items around rows.
use Rattle.std.proofs.Common.{◌≡◌, ◌<◌, ◌≤◌, ◌+◌, ◌^◌, ◌-◌, ℕ, Bool, true, false, List, [], ◌∷◌, ◌++◌, length, get_or, min, drop, Option, Some, None, option_map, refl, sym, ap, subst, ◌∙◌, arith, if◌then◌else◌}
use Rattle.std.specs.List.{filter}
use Rattle.std.proofs.lemmas.List.{length-append}
use Rattle.std.proofs.lemmas.List.FromFn.{get_or-map-range_with_len, length-map-range_with_len, map-range_with_len_more}
use Rattle.tree_model.specs.Tree.{Tree, size, parent_place}
use Rattle.tree_model.specs.Rows.{place_at, IsRow}
use Rattle.tree_model.specs.Cursor.{Cursor, cursor_at, parent_of, ancestors_of, ancestors_from}
use Rattle.tree_model.proofs.AncestorLemmas.{ancestors_of-step}
use Rattle.ras_node.specs.Nodes.{has_kind_in, kind_at}
use Rattle.rust_report.specs.Outlines.{is_listed, depth_of}
use Rattle.rust_report.specs.Depths.{depth_at, depths_of}
use Rattle.rust_report.proofs.MarkLemmas.{parent_at}

abbrev limit : ℕ
limit = 2 ^ 64 - 1

abbrev items_in : List Cursor → ℕ
items_in cs = length (filter (has_kind_in is_listed) cs)

-- the nodes above a row are its parent and those above that
above : (tree : Tree) (n : ℕ) (up : Option ℕ) → option_map (place_at tree) up ≡ parent_place (place_at tree n)
    → drop 1 (ancestors_of (cursor_at tree n)) ≡ ancestors_from (option_map (cursor_at tree) up)
above tree n up e = ap (drop 1) (ancestors_of-step (cursor_at tree n)) ∙ ap ancestors_from (parent_at tree n up e)

-- nothing is above the root
pub top : (tree : Tree) (n : ℕ) → option_map (place_at tree) None ≡ parent_place (place_at tree n) → 0 ≡ depth_at tree n
top tree n e = sym (ap (λ l. min (items_in l) limit) (above tree n None e))

pub depths_length : (tree : Tree) (n : ℕ) (depths : List ℕ) → depths ≡ depths_of tree n → length depths ≡ n
depths_length tree n depths e = ap length e ∙ length-map-range_with_len (depth_at tree) 0 n

pub depth_in : (tree : Tree) (n i d : ℕ) (depths : List ℕ) → depths ≡ depths_of tree n → i < n → get_or depths i d ≡ depth_at tree i
depth_in tree n i d depths e h = ap (λ l. get_or l i d) e ∙ get_or-map-range_with_len (depth_at tree) 0 n i i d h (omega arith)

-- below a node there is one item more if it is one
pub below : (tree : Tree) (n p : ℕ) (up : Option ℕ) → up ≡ Some p → option_map (place_at tree) up ≡ parent_place (place_at tree n)
    → depth_at tree n ≡ min ((if is_listed (kind_at (cursor_at tree p)) then 1 else 0) + items_in (drop 1 (ancestors_of (cursor_at tree p)))) limit
below tree n p up is e =
    ap (λ l. min (items_in l) limit) (above tree n (Some p) (ap (option_map (place_at tree)) (sym is) ∙ e))
    ∙ ap (λ l. min (items_in l) limit) (ancestors_of-step (cursor_at tree p))
    ∙ ap (λ k. min k limit) (by (is_listed (kind_at (cursor_at tree p))) (ancestors_from (parent_of (cursor_at tree p))))
    ∙ ap (λ l. min ((if is_listed (kind_at (cursor_at tree p)) then 1 else 0) + items_in (drop 1 l)) limit) (sym (ancestors_of-step (cursor_at tree p)))
  where
    by : (b : Bool) (cs : List Cursor) → length (if b then cursor_at tree p ∷ filter (has_kind_in is_listed) cs else filter (has_kind_in is_listed) cs) ≡ (if b then 1 else 0) + items_in cs
    by true cs = omega arith
    by false cs = omega arith

pub one_more_item : (tree : Tree) (n p : ℕ) (up : Option ℕ) (d r : ℕ) → up ≡ Some p → option_map (place_at tree) up ≡ parent_place (place_at tree n)
    → is_listed (kind_at (cursor_at tree p)) ≡ true → d ≡ depth_at tree p → r ≡ min (d + 1) limit → r ≡ depth_at tree n
one_more_item tree n p up d r is e listed same sum =
    let told = below tree n p up is e in
    let one = ap (λ b. min ((if b then 1 else 0) + items_in (drop 1 (ancestors_of (cursor_at tree p)))) limit) listed in
    omega (arith, told, one, same, sum)

pub same_items : (tree : Tree) (n p : ℕ) (up : Option ℕ) (d : ℕ) → up ≡ Some p → option_map (place_at tree) up ≡ parent_place (place_at tree n)
    → is_listed (kind_at (cursor_at tree p)) ≡ false → d ≡ depth_at tree p → d ≡ depth_at tree n
same_items tree n p up d is e listed same =
    let told = below tree n p up is e in
    let none = ap (λ b. min ((if b then 1 else 0) + items_in (drop 1 (ancestors_of (cursor_at tree p)))) limit) listed in
    omega (arith, told, none, same)

pub one_more_depth : (tree : Tree) (depths new : List ℕ) (d : ℕ) → depths ≡ depths_of tree (length depths)
    → d ≡ depth_at tree (length depths) → new ≡ depths ++ d ∷ [] → new ≡ depths_of tree (length new)
one_more_depth tree depths new d before is e =
    e
    ∙ ap (λ m. depths ++ m ∷ []) is
    ∙ ap (λ l. l ++ depth_at tree (length depths) ∷ []) before
    ∙ sym (map-range_with_len_more (depth_at tree) 0 (length depths) (length depths) (omega arith))
    ∙ ap (depths_of tree) (longer (length depths) (length new) (ap length e ∙ length-append depths (d ∷ [])))
  where
    longer : (a b : ℕ) → b ≡ a + 1 → a + 1 ≡ b
    longer a b h = sym h

pub depths_room : (depths new : List ℕ) (d : ℕ) (n at count : ℕ) → at < count → at ≡ length depths → count ≡ n
    → new ≡ depths ++ d ∷ [] → length new ≤ n
depths_room depths new d n at count h e f is = omega (arith, h, e, f, ap length is, length-append depths (d ∷ []), refl {a = length (d ∷ [])})

-- the number at a node's row is that of the items around the node
pub depth_of_row : (tree : Tree) (node : Cursor) (row d : ℕ) (depths : List ℕ) → node.tree ≡ tree → depths ≡ depths_of tree (size tree)
    → IsRow node.tree row → cursor_at node.tree row ≡ node → d ≡ get_or depths row 0 → d ≡ depth_of node
depth_of_row tree node row d depths same all is_row place is =
    is
    ∙ depth_in tree (size tree) row 0 depths all (subst (λ t. IsRow t row) same is_row)
    ∙ ap (λ t. depth_at t row) (sym same)
    ∙ ap depth_of place
