-- Which place and which tree a row number stands for.
use Rattle.std.proofs.Common.{◌≡◌, ℕ, suc, ◌+◌, ◌<◌, length, get_or, refl, sym, ap, ◌∙◌, arith, length-append}
use Rattle.std.proofs.lemmas.List.{get_or-append-add, get_or_append_left, length-map}
use Rattle.std.proofs.Math.ListN.{get_or-map}
use Rattle.tree_rows.specs.declared.rows.Row.{Row}
use Rattle.tree_model.specs.Tree.{Tree, node, token, Forest, nil, cons, size, forest_text, forest_size, Place}
use Rattle.tree_rows.specs.Rows.{rows_of, row_of, no_row}
use Rattle.tree_rows.proofs.Hung.{Hung, hung, hung_of, row_in, map-hung_of}
use Rattle.tree_model.proofs.At.{At, At-fits, after, below, cong₂, here, some_row, up_of}

pub length-rows_of : (f : Forest) (n b : ℕ) → length (rows_of f n b) ≡ forest_size f
length-rows_of nil n b = refl
length-rows_of (cons (token k t) r) n b = ap suc (length-rows_of r (suc n) (b + length t))
length-rows_of (cons (node k c) r) n b =
    omega (arith, length-append (rows_of c (suc n) b) (rows_of r (suc n + forest_size c) (b + length (forest_text c))), length-rows_of c (suc n) b, length-rows_of r (suc n + forest_size c) (b + length (forest_text c)))

pub length-hung_of : (f : Forest) (n b u : ℕ) → length (hung_of f n b u) ≡ forest_size f
length-hung_of f n b u = sym (length-map (hung_of f n b u) row_in) ∙ ap length (map-hung_of f n b u) ∙ length-rows_of f n b

-- the row there, and below which it hangs
pub hung-At : {f : Forest} {n : ℕ} {p : Place} {t : Tree} {b : ℕ} (a : At f n p t b) (m d u : ℕ) (x : Hung) → get_or (hung_of f m d u) n x ≡ hung t (m + n) (d + b) (up_of a m u)
hung-At (here {u = token k s}) m d u x = cong₂ (λ i j. hung (token k s) i j u) (omega arith) (omega arith)
hung-At (here {u = node k c}) m d u x = cong₂ (λ i j. hung (node k c) i j u) (omega arith) (omega arith)
hung-At (below {k} {c} {r} {n} {p} {t} {b} a) m d u x =
    let lt : n < length (hung_of c (suc m) d m) = omega (arith, length-hung_of c (suc m) d m, At-fits a, some_row t) in
    get_or_append_left (hung_of c (suc m) d m) (hung_of r (suc m + forest_size c) (d + length (forest_text c)) u) x n lt
    ∙ hung-At a (suc m) d m x
    ∙ ap (λ i. hung t i (d + b) (up_of a (suc m) m)) (omega arith)
hung-At (after {u = token k s} {r} {n} {m = q} {i} {p} {t} {b} {d = e} is_m is_d a) m d u x =
    let e1 : q ≡ suc n = omega (arith, is_m) in
    let e2 : suc m ≡ m + 1 = omega arith in
    ap (λ j. get_or (hung_of (cons (token k s) r) m d u) j x) e1
    ∙ hung-At a (suc m) (d + length s) u x
    ∙ ap (λ v. hung t (suc m + n) ((d + length s) + b) v) (ap (λ j. up_of a j u) e2)
    ∙ cong₂ (λ j k. hung t j k (up_of a (m + 1) u)) (omega (arith, e1)) (omega (arith, is_d))
hung-At (after {u = node k c} {r} {n} {m = q} {i} {p} {t} {b} {d = e} is_m is_d a) m d u x =
    let e1 : q ≡ suc (length (hung_of c (suc m) d m) + n) = omega (arith, is_m, length-hung_of c (suc m) d m) in
    let e2 : suc m + forest_size c ≡ m + suc (forest_size c) = omega arith in
    ap (λ j. get_or (hung_of (cons (node k c) r) m d u) j x) e1
    ∙ get_or-append-add (hung_of c (suc m) d m) (hung_of r (suc m + forest_size c) (d + length (forest_text c)) u) n x
    ∙ hung-At a (suc m + forest_size c) (d + length (forest_text c)) u x
    ∙ ap (λ v. hung t ((suc m + forest_size c) + n) ((d + length (forest_text c)) + b) v) (ap (λ j. up_of a j u) e2)
    ∙ cong₂ (λ j k. hung t j k (up_of a (m + suc (forest_size c)) u)) (omega (arith, is_m)) (omega (arith, is_d))

pub row-At : {f : Forest} {n : ℕ} {p : Place} {t : Tree} {b : ℕ} (a : At f n p t b) (m d : ℕ) (x : Row) → get_or (rows_of f m d) n x ≡ row_of t (m + n) (d + b)
row-At {f} {n} a m d x =
    let none : Hung = record { row = x; up = 0 } in
    ap (λ l. get_or l n x) (sym (map-hung_of f m d 0)) ∙ get_or-map row_in (hung_of f m d 0) n none ∙ ap row_in (hung-At a m d 0 none)

pub row_of-end : (t : Tree) (n b : ℕ) → (row_of t n b).end ≡ n + size t
row_of-end (token k x) n b = omega arith
row_of-end (node k c) n b = omega arith

pub end_from_At : {f : Forest} {n : ℕ} {p : Place} {t : Tree} {b : ℕ} → At f n p t b → (get_or (rows_of f 0 0) n no_row).end ≡ n + size t
end_from_At {n} {t} {b} a = ap (λ r. r.end) (row-At a 0 0 no_row) ∙ row_of-end t (0 + n) (0 + b) ∙ omega arith
