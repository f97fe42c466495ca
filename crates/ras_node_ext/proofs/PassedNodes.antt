-- Nodes that are passed over.
use Rattle.std.proofs.Common.{◌≡◌, Bool, true, false, List, [], ◌∷◌, ◌++◌, map, Option, Some, None, option_map, if◌then◌else◌, refl, sym, ap, ◌∙◌}
use Rattle.std.specs.List.{filter}
use Rattle.std.specs.Iterator.{Yields, YieldsThen, YieldsFirstBy}
use Rattle.syntax_kind.specs.declared.syntax_kind.SyntaxKind.{SyntaxKind}
use Rattle.tree_model.specs.Cursor.{Cursor}
use Rattle.ras_node.specs.Nodes.{has_kind_in}
use Rattle.ras_node.specs.Lookups.{if_of, view_in}

no_view : (casts : SyntaxKind → Bool) (c : Cursor) → None ≡ if_of casts c → has_kind_in casts c ≡ false
no_view casts c e = by (has_kind_in casts c) e
  where
    by : (b : Bool) → None ≡ (if b then Some c else None) → b ≡ false
    by false e = refl
    by true e = cc

none_more : (p : Cursor → Bool) (cs : List Cursor) (c : Cursor) → filter p cs ≡ [] → p c ≡ false → filter p (cs ++ (c ∷ [])) ≡ []
none_more p [] c none out = by (p c) out
  where
    by : (b : Bool) → b ≡ false → (if b then c ∷ [] else []) ≡ []
    by false e = refl
    by true e = cc
none_more p (d ∷ cs) c none out = by (p d) (none_more p cs c) none
  where
    by : (b : Bool) → (filter p cs ≡ [] → p c ≡ false → filter p (cs ++ (c ∷ [])) ≡ []) → (if b then d ∷ filter p cs else filter p cs) ≡ []
        → (if b then d ∷ filter p (cs ++ (c ∷ [])) else filter p (cs ++ (c ∷ []))) ≡ []
    by false later e = later e out
    by true later e = cc

map_more : {A B : Type 0} (f : A → B) (xs : List A) (x : A) → map f (xs ++ (x ∷ [])) ≡ map f xs ++ (f x ∷ [])
map_more f [] x = refl
map_more f (y ∷ xs) x = ap (λ l. f y ∷ l) (map_more f xs x)

-- one more node that cannot be viewed
pub passed_over : {A B : Type 0} (node : A → Cursor) (casts : SyntaxKind → Bool) (view : B → Cursor) (seen : List A) (x : A) (r : Option B)
    → filter (has_kind_in casts) (map node seen) ≡ [] → option_map view r ≡ view_in casts (option_map node (Some x)) → r ≡ None
    → filter (has_kind_in casts) (map node (seen ++ (x ∷ []))) ≡ []
passed_over node casts view seen x r none told is =
    let out = no_view casts (node x) (sym (ap (option_map view) is) ∙ told) in
    ap (filter (has_kind_in casts)) (map_more node seen x) ∙ none_more (has_kind_in casts) (map node seen) (node x) none out

-- ---- a source that shows the list of what is left

join_append : (ks ls ms : List Cursor) → (ks ++ ls) ++ ms ≡ ks ++ (ls ++ ms)
join_append [] ls ms = refl
join_append (k ∷ ks) ls ms = ap (λ l. k ∷ l) (join_append ks ls ms)

-- what was given was in front of what is left
pub in_front : {S A : Type 0} (node : A → Cursor) (rest : S → List Cursor) (xs : List A) (s u : S) → Yields (YieldsFirstBy node rest) s xs u → rest s ≡ map node xs ++ rest u
in_front node rest [] s u y = ap rest y
in_front node rest (x ∷ xs) s u y = y.1 ∙ ap (λ l. node x ∷ l) (in_front node rest xs y.0 u y.2)

filter_behind : (p : Cursor → Bool) (cs ds : List Cursor) → filter p cs ≡ [] → filter p (cs ++ ds) ≡ filter p ds
filter_behind p [] ds none = refl
filter_behind p (c ∷ cs) ds none = by (p c) (filter_behind p cs ds) none
  where
    by : (b : Bool) → (filter p cs ≡ [] → filter p (cs ++ ds) ≡ filter p ds) → (if b then c ∷ filter p cs else filter p cs) ≡ []
        → (if b then c ∷ filter p (cs ++ ds) else filter p (cs ++ ds)) ≡ filter p ds
    by false later e = later e
    by true later e = cc

taken : (p : Cursor → Bool) (c : Cursor) (cs : List Cursor) → p c ≡ true → filter p (c ∷ cs) ≡ c ∷ filter p cs
taken p c cs yes-c = ap (λ b. if b then c ∷ filter p cs else filter p cs) yes-c

-- nodes of a list that can be viewed come one after the other
pub filtered : {S W A B : Type 0} (node : A → Cursor) (casts : SyntaxKind → Bool) (view : B → Cursor) (rest : S → List Cursor) (source : W → S) (s t : W) (r : Option B)
    → ((b : B) → has_kind_in casts (view b) ≡ true)
    → ((others : List A) × (next : Option A) × YieldsThen (YieldsFirstBy node rest) (source s) others next (source t)
    × (filter (has_kind_in casts) (map node others) ≡ []) × (option_map view r ≡ option_map node next))
    → YieldsFirstBy view (λ it. filter (has_kind_in casts) (rest (source it))) s r t
filtered node casts view rest source s t None castable (others, None, (u, y, step), none, same) =
    let front = in_front node rest others (source s) u y in
    let left = ap (filter (has_kind_in casts)) front ∙ filter_behind (has_kind_in casts) (map node others) (rest u) none ∙ ap (filter (has_kind_in casts)) step.0 in
    (left, ap (filter (has_kind_in casts)) step.1)
filtered node casts view rest source s t None castable (others, Some x, y, none, same) = absurd (let bad : None ≡ Some (node x) = same in cc)
filtered node casts view rest source s t (Some b) castable (others, None, y, none, same) = absurd (let bad : Some (view b) ≡ None = same in cc)
filtered node casts view rest source s t (Some b) castable (others, Some x, (u, y, step), none, same) =
    let front = in_front node rest others (source s) u y in
    let one : view b ≡ node x = cc in
    let yes-x : has_kind_in casts (node x) ≡ true = sym (ap (has_kind_in casts) one) ∙ castable b in
    let left = ap (filter (has_kind_in casts)) front ∙ filter_behind (has_kind_in casts) (map node others) (rest u) none ∙ ap (filter (has_kind_in casts)) step
    ∙ taken (has_kind_in casts) (node x) (rest (source t)) yes-x in
    left ∙ ap (λ k. k ∷ filter (has_kind_in casts) (rest (source t))) (sym one)
