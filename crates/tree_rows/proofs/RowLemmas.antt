-- The rows of a forest show that forest.
use Rattle.std.proofs.Common.{◌≡◌, ℕ, suc, ◌+◌, ◌-◌, List, ◌++◌, length, take, drop, refl, sym, ap, ◌∙◌, arith, append_assoc, length-append}
use Rattle.std.proofs.Math.Seq.{take-append_seam, drop-append_seam}
use Rattle.std.proofs.lemmas.List.{drop-drop}
use Rattle.tree_rows.specs.declared.rows.Row.{Row}
use Rattle.tree_model.specs.Tree.{node, token, Forest, nil, cons, forest_text, forest_size}
use Rattle.tree_model.specs.Events.{append_forest}
use Rattle.tree_rows.specs.Rows.{rows_of, front, back, next_start, forest_of_rows}

pub front-append_forest : (c g : Forest) → front (append_forest c g) (forest_size c) ≡ c
front-append_forest nil nil = refl
front-append_forest nil (cons t r) = refl
front-append_forest (cons (token k t) r) g = ap (cons (token k t)) (front-append_forest r g)
front-append_forest (cons (node k c) r) g =
    let e : (forest_size c + forest_size r) - forest_size c ≡ forest_size r = omega arith in
    ap (λ m. cons (node k c) (front (append_forest r g) m)) e ∙ ap (cons (node k c)) (front-append_forest r g)

pub back-append_forest : (c g : Forest) → back (append_forest c g) (forest_size c) ≡ g
back-append_forest nil nil = refl
back-append_forest nil (cons t r) = refl
back-append_forest (cons (token k t) r) g = back-append_forest r g
back-append_forest (cons (node k c) r) g =
    let e : (forest_size c + forest_size r) - forest_size c ≡ forest_size r = omega arith in
    ap (λ m. back (append_forest r g) m) e ∙ back-append_forest r g

next_start-rows_of : (f : Forest) (n b : ℕ) (rest : List Row) (s : List ℕ) → next_start rest s ≡ b + length (forest_text f) → next_start (rows_of f n b ++ rest) s ≡ b
next_start-rows_of nil n b rest s h = omega arith
next_start-rows_of (cons (token k t) r) n b rest s h = refl
next_start-rows_of (cons (node k c) r) n b rest s h = refl

drop_more : (b : ℕ) (s t u : List ℕ) → drop b s ≡ t ++ u → drop (b + length t) s ≡ u
drop_more b s t u h = sym (drop-drop (length t) b s) ∙ ap (drop (length t)) h ∙ drop-append_seam t u

pub forest_of_rows-rows_of : (f : Forest) (n b : ℕ) (rest : List Row) (s post : List ℕ)
    → drop b s ≡ forest_text f ++ post
    → next_start rest s ≡ b + length (forest_text f)
    → forest_of_rows n (rows_of f n b ++ rest) s ≡ append_forest f (forest_of_rows (n + forest_size f) rest s)
unfolding forest_of_rows
forest_of_rows-rows_of nil n b rest s post h e = ap (λ m. forest_of_rows m rest s) (omega arith)
forest_of_rows-rows_of (cons (token k t) r) n b rest s post h e =
    let h' : drop b s ≡ t ++ (forest_text r ++ post) = h ∙ append_assoc t (forest_text r) post in
    let after = drop_more b s t (forest_text r ++ post) h' in
    let e' : next_start rest s ≡ (b + length t) + length (forest_text r) = omega (arith, e, length-append t (forest_text r)) in
    let later = next_start-rows_of r (suc n) (b + length t) rest s e' in
    let len : (b + length t) - b ≡ length t = omega arith in
    let piece : take (next_start (rows_of r (suc n) (b + length t) ++ rest) s - b) (drop b s) ≡ t =
    ap (λ m. take (m - b) (drop b s)) later ∙ ap (λ m. take m (drop b s)) len ∙ ap (take (length t)) h' ∙ take-append_seam t (forest_text r ++ post) in
    let size : suc n + forest_size r ≡ n + suc (forest_size r) = omega arith in
    ap (λ x. cons (token k x) (forest_of_rows (suc n) (rows_of r (suc n) (b + length t) ++ rest) s)) piece
    ∙ ap (cons (token k t)) (forest_of_rows-rows_of r (suc n) (b + length t) rest s post after e' ∙ ap (λ m. append_forest r (forest_of_rows m rest s)) size)
forest_of_rows-rows_of (cons (node k c) r) n b rest s post h e =
    let h' : drop b s ≡ forest_text c ++ (forest_text r ++ post) = h ∙ append_assoc (forest_text c) (forest_text r) post in
    let after = drop_more b s (forest_text c) (forest_text r ++ post) h' in
    let e' : next_start rest s ≡ (b + length (forest_text c)) + length (forest_text r) = omega (arith, e, length-append (forest_text c) (forest_text r)) in
    let later = next_start-rows_of r (suc n + forest_size c) (b + length (forest_text c)) rest s e' in
    let m = suc n + forest_size c in
    let rows = rows_of r m (b + length (forest_text c)) ++ rest in
    let g = append_forest r (forest_of_rows (n + suc (forest_size c + forest_size r)) rest s) in
    let size : m + forest_size r ≡ n + suc (forest_size c + forest_size r) = omega arith in
    let all : forest_of_rows (suc n) ((rows_of c (suc n) b ++ rows_of r m (b + length (forest_text c))) ++ rest) s ≡ append_forest c g =
    ap (λ l. forest_of_rows (suc n) l s) (append_assoc (rows_of c (suc n) b) (rows_of r m (b + length (forest_text c))) rest)
    ∙ forest_of_rows-rows_of c (suc n) b rows s (forest_text r ++ post) h' later
    ∙ ap (append_forest c) (forest_of_rows-rows_of r m (b + length (forest_text c)) rest s post after e' ∙ ap (λ m. append_forest r (forest_of_rows m rest s)) size) in
    let len : m - suc n ≡ forest_size c = omega arith in
    ap (λ x. cons (node k (front x (m - suc n))) (back x (m - suc n))) all
    ∙ ap (λ m. cons (node k (front (append_forest c g) m)) (back (append_forest c g) m)) len
    ∙ ap (λ x. cons (node k x) (back (append_forest c g) (forest_size c))) (front-append_forest c g)
    ∙ ap (cons (node k c)) (back-append_forest c g)
