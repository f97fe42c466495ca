-- Two lists of events that begin alike.
use Rattle.std.proofs.Common.{◌≡◌, ◌↔◌, ℕ, nat_eq, Bool, List, [], ◌∷◌, ◌++◌, map, Option, Some, None, IsTrue, eq-eqb, refl, sym, ap, subst, ◌∙◌, ◌+◌, ◌-◌, ◌<◌, suc, length, drop, arith}
use Rattle.syntax_kind.specs.declared.syntax_kind.SyntaxKind.{SyntaxKind}
use Rattle.syntax_kind.specs.Kinds.{kind_raw, is_same_kind}
use Rattle.syntax_kind.specs.KindLaws.{is_same_kind-equal}
use Rattle.lossless_tree.specs.declared.cursor.element.NodeOrToken.TheVariants.{Node, Token}
use Rattle.tree_model.specs.Tree.{text}
use Rattle.tree_model.specs.Cursor.{Cursor, focus}
use Rattle.ras_node.specs.Nodes.{kind_at}
use Rattle.rust_report.specs.declared.same.Difference.{Difference}
use Rattle.rust_report.specs.Differences.{past, levels, AreDifferences, DifferThen}
use Rattle.rust_report.specs.Steps.{Event, Element, step, shown, first_event, first_step, IsFirstDifference}

-- the lists are what is left after fronts that show the same steps
pub record AreAlike (old new olds news : List Event) : Type 0 where
  pub front : List Event
  pub other : List Event
  pub begins : old ≡ front ++ olds
  pub begins_so : new ≡ other ++ news
  pub alike : map step front ≡ map step other

pub starts : (old new olds news : List Event) → olds ≡ old → news ≡ new → AreAlike old new olds news
starts old new olds news e f = record { front = []; other = []; begins = sym e; begins_so = sym f; alike = refl }

append_assoc : {A : Type 0} (l : List A) (x : A) (m : List A) → l ++ (x ∷ m) ≡ (l ++ x ∷ []) ++ m
append_assoc [] x m = refl
append_assoc (y ∷ l) x m = ap (λ k. y ∷ k) (append_assoc l x m)

map_append : {A B : Type 0} (f : A → B) (l : List A) (m : List A) → map f (l ++ m) ≡ map f l ++ map f m
map_append f [] m = refl
map_append f (x ∷ l) m = ap (λ k. f x ∷ k) (map_append f l m)

-- both go on with the same step
pub longer : (old new olds news : List Event) (a b : Event) (olds' news' : List Event)
    → AreAlike old new olds news → olds ≡ a ∷ olds' → news ≡ b ∷ news' → step a ≡ step b → AreAlike old new olds' news'
longer old new olds news a b olds' news' h e f s = record {
  front = h.front ++ a ∷ [];
  other = h.other ++ b ∷ [];
  begins = h.begins ∙ ap (λ l. h.front ++ l) e ∙ append_assoc h.front a olds';
  begins_so = h.begins_so ∙ ap (λ l. h.other ++ l) f ∙ append_assoc h.other b news';
  alike =
      map_append step h.front (a ∷ [])
      ∙ ap (λ l. l ++ step a ∷ []) h.alike
      ∙ ap (λ x. map step h.other ++ x ∷ []) s
      ∙ sym (map_append step h.other (b ∷ []));
}

-- they go on differently
abbrev pub differ : (old new olds news : List Event) (d : Difference)
    → AreAlike old new olds news → (first_step olds ≡ first_step news → ⊥) → d.old ≡ first_event olds → d.new ≡ first_event news → IsFirstDifference old new d
differ old new olds news d h apart e f = record {
  front = h.front;
  behind = olds;
  other = h.other;
  rest = news;
  begins = h.begins;
  begins_so = h.begins_so;
  alike = h.alike;
  differ = apart;
  old_event = e;
  new_event = f;
}

pub differ_then : (old new olds news : List Event) (d : Difference) (left others : List Event)
    → AreAlike old new olds news → (first_step olds ≡ first_step news → ⊥) → d.old ≡ first_event olds → d.new ≡ first_event news → left ≡ drop 1 olds → others ≡ drop 1 news
    → DifferThen old new d left others
differ_then old new olds news d left others h apart e f l o = record { first = differ old new olds news d h apart e f; old_left = l; new_left = o }

-- both have ended
pub same : (old new : List Event) → AreAlike old new [] [] → map step old ≡ map step new
same old new h =
    ap (map step) h.begins ∙ map_append step h.front [] ∙ ap (λ l. l ++ []) h.alike ∙ sym (map_append step h.other []) ∙ sym (ap (map step) h.begins_so)

behind_front : {A : Type 0} (l m p q : List A) → l ≡ m → l ++ p ≡ m ++ q → p ≡ q
behind_front [] [] p q e f = f
behind_front [] (y ∷ m) p q e f = absurd (let bad : [] ≡ y ∷ m = e in cc)
behind_front (x ∷ l) [] p q e f = absurd (let bad : x ∷ l ≡ [] = e in cc)
behind_front (x ∷ l) (y ∷ m) p q e f = behind_front l m p q (let t : l ≡ m = cc in t) (let t : l ++ p ≡ m ++ q = cc in t)

steps_first : (l m : List Event) → map step l ≡ map step m → first_step l ≡ first_step m
steps_first [] [] e = refl
steps_first [] (y ∷ m) e = absurd (let bad : [] ≡ step y ∷ map step m = e in cc)
steps_first (x ∷ l) [] e = absurd (let bad : step x ∷ map step l ≡ [] = e in cc)
steps_first (x ∷ l) (y ∷ m) e = (let t : step x ≡ step y = cc in ap Some t)

-- lists with the same steps go on with the same one
pub no_difference : (old new olds news : List Event) → AreAlike old new olds news → map step old ≡ map step new → first_step olds ≡ first_step news
no_difference old new olds news h e =
    steps_first olds news
    (behind_front (map step h.front) (map step h.other) (map step olds) (map step news) h.alike
    (sym (map_append step h.front olds) ∙ sym (ap (map step) h.begins) ∙ e ∙ ap (map step) h.begins_so ∙ map_append step h.other news))

-- so these are the same step
pub same_first : (olds news : List Event) (a b : Event) (olds' news' : List Event)
    → olds ≡ a ∷ olds' → news ≡ b ∷ news' → first_step olds ≡ first_step news → step a ≡ step b
same_first olds news a b olds' news' e f h = (let t : Some (step a) ≡ Some (step b) = sym (ap first_step e) ∙ h ∙ ap first_step f in let s : step a ≡ step b = cc in s)

pub not_ended : (olds news : List Event) (a : Event) (olds' : List Event) → olds ≡ a ∷ olds' → news ≡ [] → first_step olds ≡ first_step news → ⊥
not_ended olds news a olds' e f h = (let t : Some (step a) ≡ None = sym (ap first_step e) ∙ h ∙ ap first_step f in cc)

pub none_left : (olds news : List Event) (b : Event) (news' : List Event) → olds ≡ [] → news ≡ b ∷ news' → first_step olds ≡ first_step news → ⊥
none_left olds news b news' e f h = (let t : None ≡ Some (step b) = sym (ap first_step e) ∙ h ∙ ap first_step f in cc)

-- the first goes on, and the second has ended
pub differ_old : (old new olds news : List Event) (d : Difference) (a : Event) (left others : List Event)
    → AreAlike old new olds news → olds ≡ a ∷ left → (news ≡ []) × (others ≡ []) → d.old ≡ Some a → d.new ≡ None → DifferThen old new d left others
differ_old old new olds news d a left others h e f is none =
    differ_then old new olds news d left others h (not_ended olds news a left e f.0) (is ∙ sym (ap first_event e)) (none ∙ sym (ap first_event f.0)) (sym (ap (drop 1) e)) (f.1 ∙ sym (ap (drop 1) f.0))

-- the first has ended, and the second goes on
pub differ_new : (old new olds news : List Event) (d : Difference) (b : Event) (left others : List Event)
    → AreAlike old new olds news → (olds ≡ []) × (left ≡ []) → news ≡ b ∷ others → d.old ≡ None → d.new ≡ Some b → DifferThen old new d left others
differ_new old new olds news d b left others h e f none is =
    differ_then old new olds news d left others h (none_left olds news b others e.0 f) (none ∙ sym (ap first_event e.0)) (is ∙ sym (ap first_event f)) (e.1 ∙ sym (ap (drop 1) e.0)) (sym (ap (drop 1) f))

-- both go on, with other steps
pub differ_both : (old new olds news : List Event) (d : Difference) (a b : Event) (left others : List Event)
    → AreAlike old new olds news → olds ≡ a ∷ left → news ≡ b ∷ others → (step a ≡ step b → ⊥) → d.old ≡ Some a → d.new ≡ Some b → DifferThen old new d left others
differ_both old new olds news d a b left others h e f apart is are =
    differ_then old new olds news d left others h (λ same. apart (same_first olds news a b left others e f same)) (is ∙ sym (ap first_event e)) (are ∙ sym (ap first_event f)) (sym (ap (drop 1) e)) (sym (ap (drop 1) f))

-- ---- one difference after the other

less : (limit n : ℕ) → n < limit → suc (limit - (n + 1)) ≡ limit - n
less limit n h = omega (arith, h)

-- the differences that were found before, with those that follow
abbrev pub Continues : ℕ → List Event → List Event → List Event → List Event → List Difference → Type 0
Continues limit old new olds news found = (ds : List Difference) → AreDifferences (limit - length found) olds news ds → AreDifferences limit old new (found ++ ds)

pub none_found : (limit : ℕ) (old new olds news : List Event) → olds ≡ old → news ≡ new → Continues limit old new olds news []
none_found limit old new olds news e f ds h =
    let plain : limit - 0 ≡ limit = omega arith in
    subst (λ n. AreDifferences n old new ds) plain (subst (λ k. AreDifferences (limit - 0) old k ds) f (subst (λ k. AreDifferences (limit - 0) k news ds) e h))

append_one : (l : List Difference) (d : Difference) (m : List Difference) → l ++ (d ∷ m) ≡ (l ++ d ∷ []) ++ m
append_one [] d m = refl
append_one (x ∷ l) d m = ap (λ k. x ∷ k) (append_one l d m)

length_one : (l : List Difference) (d : Difference) → length (l ++ d ∷ []) ≡ length l + 1
length_one [] d = refl
length_one (x ∷ l) d = let e : length (l ++ d ∷ []) ≡ length l + 1 = length_one l d in omega (arith, e)

with_first : (m : ℕ) (olds news : List Event) (d : Difference) (left others olds' news' : List Event) (ds : List Difference)
    → DifferThen olds news d left others → olds' ≡ past (levels d.old d.new) left → news' ≡ past (levels d.new d.old) others
    → AreDifferences m olds' news' ds → AreDifferences (suc m) olds news (d ∷ ds)
with_first m olds news d left others olds' news' ds first e f h = (
  first.first,
  subst (λ k. AreDifferences m k (past (levels d.new d.old) (drop 1 first.first.rest)) ds) (e ∙ ap (past (levels d.old d.new)) first.old_left)
      (subst (λ k. AreDifferences m olds' k ds) (f ∙ ap (past (levels d.new d.old)) first.new_left) h),
)

pub one_more : (limit : ℕ) (old new olds news : List Event) (found found' : List Difference) (d : Difference) (left others olds' news' : List Event)
    → length found < limit → Continues limit old new olds news found → DifferThen olds news d left others
    → olds' ≡ past (levels d.old d.new) left → news' ≡ past (levels d.new d.old) others → found' ≡ found ++ d ∷ []
    → Continues limit old new olds' news' found'
one_more limit old new olds news found found' d left others olds' news' h before first e f is ds after =
    let count : limit - length found' ≡ limit - (length found + 1) = ap (λ n. limit - n) (ap length is ∙ length_one found d) in
    subst (AreDifferences limit old new) (append_one found d ds ∙ ap (λ k. k ++ ds) (sym is))
    (before (d ∷ ds)
    (subst (λ n. AreDifferences n olds news (d ∷ ds)) (less limit (length found) h)
    (with_first (limit - (length found + 1)) olds news d left others olds' news' ds first e f (subst (λ n. AreDifferences n olds' news' ds) count after))))

append_none : (l : List Difference) → l ++ [] ≡ l
append_none [] = refl
append_none (x ∷ l) = ap (λ k. x ∷ k) (append_none l)

pub no_more : (limit : ℕ) (old new olds news : List Event) (found : List Difference)
    → length found < limit → Continues limit old new olds news found → map step olds ≡ map step news → AreDifferences limit old new found
no_more limit old new olds news found h before same =
    subst (AreDifferences limit old new) (append_none found) (before [] (subst (λ n. AreDifferences n olds news []) (less limit (length found) h) same))

pub enough : (limit : ℕ) (old new olds news : List Event) (found : List Difference)
    → (length found < limit → ⊥) → Continues limit old new olds news found → AreDifferences limit old new found
enough limit old new olds news found h before =
    let none : 0 ≡ limit - length found = omega (arith, h) in
    subst (AreDifferences limit old new) (append_none found) (before [] (subst (λ n. AreDifferences n olds news []) none tt))

-- ---- what a node and a token show

some_same : (s t : List ℕ) → Some s ≡ Some t → s ≡ t
some_same s t e = cc

raws : (k j : SyntaxKind) (m n : ℕ) (p q : SyntaxKind) → p ≡ k → q ≡ j → m ≡ kind_raw p → n ≡ kind_raw q → nat_eq m n ≡ is_same_kind k j
raws k j m n p q e f g h = ap (λ x. nat_eq x n) (g ∙ ap kind_raw e) ∙ ap (λ x. nat_eq (kind_raw k) x) (h ∙ ap kind_raw f)

pub node_same : (x y : Element) (a b : Cursor) (m n : ℕ) (p q : SyntaxKind)
    → x ≡ Node a → y ≡ Node b → p ≡ kind_at a → q ≡ kind_at b → m ≡ kind_raw p → n ≡ kind_raw q → IsTrue (nat_eq m n) ↔ (shown x ≡ shown y)
node_same x y a b m n p q ex ey e f g h = (
  λ t. ap shown ex ∙ ap (λ k. (k, None)) ((is_same_kind-equal (kind_at a) (kind_at b)).0 (sym (raws (kind_at a) (kind_at b) m n p q e f g h) ∙ t)) ∙ sym (ap shown ey),
  λ s. raws (kind_at a) (kind_at b) m n p q e f g h ∙ (is_same_kind-equal (kind_at a) (kind_at b)).1 (ap (λ z. z.0) (sym (ap shown ex) ∙ s ∙ ap shown ey)),
)

pub token_same : (x y : Element) (a b : Cursor) (m n : ℕ) (p q : SyntaxKind) (s t : List ℕ) (r : Bool)
    → x ≡ Token a → y ≡ Token b → p ≡ kind_at a → q ≡ kind_at b → m ≡ kind_raw p → n ≡ kind_raw q → m ≡ n
    → s ≡ text (focus a) → t ≡ text (focus b) → IsTrue r ↔ (s ≡ t) → IsTrue r ↔ (shown x ≡ shown y)
token_same x y a b m n p q s t r ex ey e f g h same es et texts =
    let kinds : kind_at a ≡ kind_at b = (is_same_kind-equal (kind_at a) (kind_at b)).0 (sym (raws (kind_at a) (kind_at b) m n p q e f g h) ∙ eq-eqb m n same) in (
      λ yes.
          ap shown ex
          ∙ ap (λ k. (k, Some (text (focus a)))) kinds
          ∙ ap (λ u. (kind_at b, Some u)) (sym es ∙ texts.0 yes ∙ et)
          ∙ sym (ap shown ey),
      λ z.
          let plain : text (focus a) ≡ text (focus b) =
          some_same (text (focus a)) (text (focus b)) (ap (λ (w : SyntaxKind × Option (List ℕ)). w.1) (sym (ap shown ex) ∙ z ∙ ap shown ey)) in
          texts.1 (es ∙ plain ∙ sym et),
    )
