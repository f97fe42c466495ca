-- Steps of the walks.
use Rattle.std.proofs.Common.{◌≡◌, Bool, true, false, ◌&&◌, ◌||◌, List, [], ◌∷◌, Some, cond, refl, ap}
use Rattle.std.specs.Prelude.{if◌then◌else◌}
use Rattle.std.specs.List.{filter, slice_get}
use Rattle.tree_model.specs.Tree.{node, token, Forest, nil, cons, forest_of_children}
use Rattle.tree_model.specs.Cursor.{Cursor}
use Rattle.lossless_tree.specs.Trees.{first_of, rest_of, is_done}
use Rattle.ras_node.specs.Nodes.{kind_at, has_kind_in}
use Rattle.ras_node.specs.Sets.{is_expr}
use Rattle.ras_prec_walks.specs.declared.along.Toward.{Toward}
use Rattle.ras_prec_walks.specs.declared.along.Meant.{Meant}
use Rattle.ras_prec_walks.specs.declared.along.Meant.TheVariants.{First, Second, BehindDots}
use Rattle.ras_prec_walks.specs.declared.along.Turn.TheVariants.{Answer, Past, Into}
use Rattle.ras_prec_walks.specs.Turns.{is_found, goes_on, operand, past_token, turn_at, reaches}
use Rattle.ras_prec_walks.specs.Parts.{second_of}

first_listed : (cs : List Cursor) → second_of true cs ≡ slice_get (filter (has_kind_in is_expr) cs) 0
first_listed [] = refl
first_listed (c ∷ cs) = by (is_expr (kind_at c)) (first_listed cs)
  where
    by : (b : Bool) → second_of true cs ≡ slice_get (filter (has_kind_in is_expr) cs) 0
        → (if b then (if true then Some c else second_of true cs) else second_of true cs) ≡ slice_get (cond b (c ∷ filter (has_kind_in is_expr) cs) (filter (has_kind_in is_expr) cs)) 0
    by true h = refl
    by false h = h

-- the second expression is the second of the expressions
pub second_listed : (cs : List Cursor) → second_of false cs ≡ slice_get (filter (has_kind_in is_expr) cs) 1
second_listed [] = refl
second_listed (c ∷ cs) = by (is_expr (kind_at c)) (second_listed cs)
  where
    by : (b : Bool) → second_of false cs ≡ slice_get (filter (has_kind_in is_expr) cs) 1
        → (if b then (if false then Some c else second_of true cs) else second_of false cs) ≡ slice_get (cond b (c ∷ filter (has_kind_in is_expr) cs) (filter (has_kind_in is_expr) cs)) 1
    by true h = first_listed cs
    by false h = h

-- a step into a child
pub into_step : (w : Toward) (m n : Meant) (f : Forest) → Into n ≡ turn_at w m (first_of f) → is_done f ≡ false → reaches w n (forest_of_children (first_of f)) ≡ reaches w m f
into_step w m n nil e h = absurd (let bad : true ≡ false = h in cc)
into_step w m n (cons (token k t) r) e h = absurd (let bad : Into n ≡ Past (past_token m k) = e in cc)
into_step w First n (cons (node k c) r) e h = by (is_expr k) (is_found w k) (goes_on w k) e
  where
    by : (a b d : Bool) → Into n ≡ (if a then (if b then Answer true else (if d then Into (operand w k) else Answer false)) else Past First)
        → reaches w n c ≡ (if a then b || (d && reaches w (operand w k) c) else reaches w First r)
    by false b d e = absurd (let bad : Into n ≡ Past First = e in cc)
    by true true d e = absurd (let bad : Into n ≡ Answer true = e in cc)
    by true false false e = absurd (let bad : Into n ≡ Answer false = e in cc)
    by true false true e = ap (λ m. reaches w m c) (let both : Into n ≡ Into (operand w k) = e in let same : n ≡ operand w k = cc in same)
into_step w Second n (cons (node k c) r) e h = by (is_expr k) e
  where
    by : (a : Bool) → Into n ≡ (if a then Past First else Past Second) → reaches w n c ≡ (if a then reaches w First r else reaches w Second r)
    by false e = absurd (let bad : Into n ≡ Past Second = e in cc)
    by true e = absurd (let bad : Into n ≡ Past First = e in cc)
into_step w BehindDots n (cons (node k c) r) e h = by (is_expr k) e
  where
    by : (a : Bool) → Into n ≡ (if a then Past BehindDots else Past BehindDots) → reaches w n c ≡ reaches w BehindDots r
    by false e = absurd (let bad : Into n ≡ Past BehindDots = e in cc)
    by true e = absurd (let bad : Into n ≡ Past BehindDots = e in cc)

-- a step past a child
pub past_step : (w : Toward) (m n : Meant) (f : Forest) → Past n ≡ turn_at w m (first_of f) → is_done f ≡ false → reaches w n (rest_of f) ≡ reaches w m f
past_step w m n nil e h = absurd (let bad : true ≡ false = h in cc)
past_step w m n (cons (token k t) r) e h = ap (λ m. reaches w m r) (let both : Past n ≡ Past (past_token m k) = e in let same : n ≡ past_token m k = cc in same)
past_step w First n (cons (node k c) r) e h = by (is_expr k) (is_found w k) (goes_on w k) e
  where
    by : (a b d : Bool) → Past n ≡ (if a then (if b then Answer true else (if d then Into (operand w k) else Answer false)) else Past First)
        → reaches w n r ≡ (if a then b || (d && reaches w (operand w k) c) else reaches w First r)
    by false b d e = ap (λ m. reaches w m r) (let both : Past n ≡ Past First = e in let same : n ≡ First = cc in same)
    by true true d e = absurd (let bad : Past n ≡ Answer true = e in cc)
    by true false false e = absurd (let bad : Past n ≡ Answer false = e in cc)
    by true false true e = absurd (let bad : Past n ≡ Into (operand w k) = e in cc)
past_step w Second n (cons (node k c) r) e h = by (is_expr k) e
  where
    by : (a : Bool) → Past n ≡ (if a then Past First else Past Second) → reaches w n r ≡ (if a then reaches w First r else reaches w Second r)
    by false e = ap (λ m. reaches w m r) (let both : Past n ≡ Past Second = e in let same : n ≡ Second = cc in same)
    by true e = ap (λ m. reaches w m r) (let both : Past n ≡ Past First = e in let same : n ≡ First = cc in same)
past_step w BehindDots n (cons (node k c) r) e h = by (is_expr k) e
  where
    by : (a : Bool) → Past n ≡ (if a then Past BehindDots else Past BehindDots) → reaches w n r ≡ reaches w BehindDots r
    by false e = ap (λ m. reaches w m r) (let both : Past n ≡ Past BehindDots = e in let same : n ≡ BehindDots = cc in same)
    by true e = ap (λ m. reaches w m r) (let both : Past n ≡ Past BehindDots = e in let same : n ≡ BehindDots = cc in same)

-- the end of a walk
pub answer_step : (w : Toward) (m : Meant) (u : Bool) (f : Forest) → Answer u ≡ turn_at w m (first_of f) → is_done f ≡ false → u ≡ reaches w m f
answer_step w m u nil e h = absurd (let bad : true ≡ false = h in cc)
answer_step w m u (cons (token k t) r) e h = absurd (let bad : Answer u ≡ Past (past_token m k) = e in cc)
answer_step w First u (cons (node k c) r) e h = by (is_expr k) (is_found w k) (goes_on w k) e
  where
    by : (a b d : Bool) → Answer u ≡ (if a then (if b then Answer true else (if d then Into (operand w k) else Answer false)) else Past First)
        → u ≡ (if a then b || (d && reaches w (operand w k) c) else reaches w First r)
    by false b d e = absurd (let bad : Answer u ≡ Past First = e in cc)
    by true true d e = let both : Answer u ≡ Answer true = e in let same : u ≡ true = cc in same
    by true false false e = let both : Answer u ≡ Answer false = e in let same : u ≡ false = cc in same
    by true false true e = absurd (let bad : Answer u ≡ Into (operand w k) = e in cc)
answer_step w Second u (cons (node k c) r) e h = by (is_expr k) e
  where
    by : (a : Bool) → Answer u ≡ (if a then Past First else Past Second) → u ≡ (if a then reaches w First r else reaches w Second r)
    by false e = absurd (let bad : Answer u ≡ Past Second = e in cc)
    by true e = absurd (let bad : Answer u ≡ Past First = e in cc)
answer_step w BehindDots u (cons (node k c) r) e h = by (is_expr k) e
  where
    by : (a : Bool) → Answer u ≡ (if a then Past BehindDots else Past BehindDots) → u ≡ reaches w BehindDots r
    by false e = absurd (let bad : Answer u ≡ Past BehindDots = e in cc)
    by true e = absurd (let bad : Answer u ≡ Past BehindDots = e in cc)
