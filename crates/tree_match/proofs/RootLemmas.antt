-- The kinds of the forms of some rules, and the rules for each.
use Rattle.std.proofs.Common.{◌≡◌, ℕ, zero, suc, ◌==◌, Bool, true, false, ◌||◌, List, [], ◌∷◌, ◌++◌, drop, length, refl, sym, subst, ap, ◌∙◌, if◌then◌else◌}
use Rattle.std.specs.Prelude.{Option, Some, None, option_map, slice_get}
use Rattle.std.specs.Option.{option_and_then, option_or}
use Rattle.std.specs.List.{list_any}
use Rattle.std.proofs.lemmas.Bool.{eqb-true}
use Rattle.std.proofs.lemmas.List.Folds.{list_any-append}
use Rattle.syntax_kind.specs.declared.syntax_kind.SyntaxKind.{SyntaxKind}
use Rattle.syntax_kind.specs.Kinds.{kind_raw, is_same_kind}
use Rattle.syntax_kind.specs.KindLaws.{is_same_kind-equal}
use Rattle.tree_model.specs.Cursor.{Cursor, range_of}
use Rattle.lossless_tree.specs.Trees.{Siblings}
use Rattle.ras_node.specs.Nodes.{kind_at}
use Rattle.tree_match.specs.declared.rule.Form.{Form}
use Rattle.tree_match.specs.declared.rule.Rule.{Rule}
use Rattle.tree_match.specs.declared.roots.Root.{Root}
use Rattle.tree_match.specs.Matching.{Values, is_for, match_rule, first_from, first_rule, first_among}
use Rattle.tree_match.specs.Roots.{has_kind, has_form, with_kind, HaveForms, AreKinds, numbers_from, numbers_by, AreRoots}
use Rattle.tree_match.specs.Finds.{inside_of, ranges_of, nodes_of, match_at}
use Rattle.tree_match.proofs.ConditionLemmas.{not_for}
use Rattle.tree_match.proofs.PlaceLemmas.{nil_of}

pub or_left : (a b : Bool) → (a || b) ≡ false → a ≡ false
or_left false b h = refl
or_left true b h = h

pub or_right : (a b : Bool) → (a || b) ≡ false → b ≡ false
or_right false b h = h
or_right true b h = absurd (let bad : true ≡ false = h in cc)

or_false : (a b : Bool) → a ≡ false → b ≡ false → (a || b) ≡ false
or_false a b h i = ap (λ x. x || b) h ∙ i

-- ---- the kinds of some forms

-- the kinds that are there have the old ones, and all but those of the forms that are left
pub record Adding (left fs : List Form) (old now : List SyntaxKind) : Type 0 where
  pub kept : (k : SyntaxKind) → has_kind k now ≡ false → has_kind k old ≡ false
  pub forms : (k : SyntaxKind) → has_kind k now ≡ false → has_form k left ≡ false → has_form k fs ≡ false

pub begun : (fs : List Form) (ks : List SyntaxKind) → Adding fs fs ks ks
begun fs ks = record { kept = λ k h. h; forms = λ k h i. i }

-- another kind than one that is among some is not the one that is not among them
other : (j k : SyntaxKind) (ks : List SyntaxKind) → has_kind j ks ≡ true → has_kind k ks ≡ false → is_same_kind j k ≡ false
other j k ks h i = by (is_same_kind j k) refl
  where
    by : (b : Bool) → is_same_kind j k ≡ b → b ≡ false
    by false e = refl
    by true e = absurd (let bad : true ≡ false = sym h ∙ ap (λ x. has_kind x ks) ((is_same_kind-equal j k).0 e) ∙ i in cc)

known : (left left' fs : List Form) (f : Form) (old now : List SyntaxKind) → Adding left fs old now → left ≡ f ∷ left' → has_kind f.kind now ≡ true
    → Adding left' fs old now
known left left' fs f old now a e h = record {
  kept = a.kept;
  forms = λ k i rest. a.forms k i (ap (has_form k) e ∙ or_false (is_same_kind f.kind k) (has_form k left') (other f.kind k now h i) rest);
}

pushed : (left left' fs : List Form) (f : Form) (old now new : List SyntaxKind) → Adding left fs old now → left ≡ f ∷ left' → new ≡ now ++ f.kind ∷ []
    → Adding left' fs old new
pushed left left' fs f old now new a e n = record {
  kept = λ k h. a.kept k (before k h);
  forms = λ k h rest. a.forms k (before k h) (ap (has_form k) e ∙ or_false (is_same_kind f.kind k) (has_form k left') (last k h) rest);
}
  where
    both : (k : SyntaxKind) → has_kind k new ≡ false → (has_kind k now || (is_same_kind f.kind k || false)) ≡ false
    both k h = sym (list_any-append (λ j. is_same_kind j k) now (f.kind ∷ [])) ∙ ap (has_kind k) (sym n) ∙ h

    before : (k : SyntaxKind) → has_kind k new ≡ false → has_kind k now ≡ false
    before k h = or_left (has_kind k now) (is_same_kind f.kind k || false) (both k h)

    last : (k : SyntaxKind) → has_kind k new ≡ false → is_same_kind f.kind k ≡ false
    last k h = or_left (is_same_kind f.kind k) false (or_right (has_kind k now) (is_same_kind f.kind k || false) (both k h))

pub added : (left left' fs : List Form) (f : Form) (old now new : List SyntaxKind) → Adding left fs old now → left ≡ f ∷ left'
    → new ≡ with_kind f.kind now → Adding left' fs old new
added left left' fs f old now new a e n = by (has_kind f.kind now) refl
  where
    by : (b : Bool) → has_kind f.kind now ≡ b → Adding left' fs old new
    by true h =
        subst (λ (ks : List SyntaxKind). Adding left' fs old ks)
        (sym (n ∙ ap (λ x. if x then now else now ++ f.kind ∷ []) h)) (known left left' fs f old now a e h)
    by false h = pushed left left' fs f old now new a e (n ∙ ap (λ x. if x then now else now ++ f.kind ∷ []) h)

pub ended : (left fs : List Form) (old now : List SyntaxKind) → Adding left fs old now → left ≡ [] → HaveForms fs old now
ended left fs old now a e = record { kept = a.kept; forms = λ k h. a.forms k h (ap (has_form k) e) }

-- ---- those of some rules

pub record AddingRules (left rules : List Rule) (now : List SyntaxKind) : Type 0 where
  pub all : (k : SyntaxKind) → has_kind k now ≡ false → list_any (is_for k) left ≡ false → list_any (is_for k) rules ≡ false

pub no_rules : (rules : List Rule) (now : List SyntaxKind) → AddingRules rules rules now
no_rules rules now = record { all = λ k h i. i }

pub one_rule : (left left' rules : List Rule) (r : Rule) (now new : List SyntaxKind) → AddingRules left rules now → left ≡ r ∷ left'
    → HaveForms r.forms.items now new → AddingRules left' rules new
one_rule left left' rules r now new a e h = record {
  all = λ k i rest. a.all k (h.kept k i) (ap (list_any (is_for k)) e ∙ or_false (is_for k r) (list_any (is_for k) left') (h.forms k i) rest);
}

pub all_rules : (left rules : List Rule) (now : List SyntaxKind) → AddingRules left rules now → left ≡ [] → AreKinds rules now
all_rules left rules now a e = record { all = λ k h. a.all k h (ap (list_any (is_for k)) e) }

-- ---- where no rule is for a kind

no_numbers : (n : ℕ) (rules : List Rule) (k : SyntaxKind) → list_any (is_for k) rules ≡ false
    → [] ≡ numbers_from n k rules
no_numbers n [] k h = refl
no_numbers n (r ∷ rs) k h =
    no_numbers (suc n) rs k (or_right (is_for k r) (list_any (is_for k) rs) h)
    ∙ ap (λ b. if b then n ∷ numbers_from (suc n) k rs else numbers_from (suc n) k rs)
    (sym (or_left (is_for k r) (list_any (is_for k) rs) h))

-- ---- a table of some kinds

-- the rules of a kind that is among some
abbrev listed : List Rule → List SyntaxKind → SyntaxKind → List ℕ
listed rules ks k = if has_kind k ks then numbers_from 0 k rules else []

-- a table of all kinds but those that are left
pub record Tabling (left : List SyntaxKind) (rules : List Rule) (roots : List Root) : Type 0 where
  pub all : (k : SyntaxKind) → numbers_by k roots (listed rules left k) ≡ numbers_from 0 k rules

pub no_roots : (rules : List Rule) (ks : List SyntaxKind) → AreKinds rules ks → Tabling ks rules []
no_roots rules ks a = record { all = λ k. by k (has_kind k ks) refl }
  where
    by : (k : SyntaxKind) (b : Bool) → has_kind k ks ≡ b
        → (if b then numbers_from 0 k rules else []) ≡ numbers_from 0 k rules
    by k true h = refl
    by k false h = no_numbers 0 rules k (a.all k h)

root_more : (k : SyntaxKind) (roots : List Root) (r : Root) (ns : List ℕ)
    → numbers_by k (roots ++ r ∷ []) ns ≡ numbers_by k roots (numbers_by k (r ∷ []) ns)
root_more k [] r ns = refl
root_more k (q ∷ qs) r ns =
    ap (λ x. if q.raw == kind_raw k then q.rules.items else x) (root_more k qs r ns)

pub one_root : (left left' : List SyntaxKind) (j : SyntaxKind) (rules : List Rule)
    (roots new : List Root) (r : Root) → Tabling left rules roots → left ≡ j ∷ left'
    → r.raw ≡ kind_raw j → r.rules.items ≡ numbers_from 0 j rules → new ≡ roots ++ r ∷ []
    → Tabling left' rules new
one_root left left' j rules roots new r t e is ns n = record {
  all = λ k.
      ap (λ qs. numbers_by k qs (listed rules left' k)) n ∙ root_more k roots r (listed rules left' k)
      ∙ ap (numbers_by k roots) (last k) ∙ t.all k;
}
  where
    by : (k : SyntaxKind) (b : Bool) → is_same_kind j k ≡ b
        → (if b then r.rules.items else listed rules left' k)
        ≡ (if b || has_kind k left' then numbers_from 0 k rules else [])
    by k true h = ns ∙ ap (λ i. numbers_from 0 i rules) ((is_same_kind-equal j k).0 h)
    by k false h = refl

    last : (k : SyntaxKind) → numbers_by k (r ∷ []) (listed rules left' k) ≡ listed rules left k
    last k =
        ap (λ i. if i == kind_raw k then r.rules.items else listed rules left' k) is
        ∙ by k (is_same_kind j k) refl ∙ ap (λ ks. listed rules ks k) (sym e)

pub all_roots : (left : List SyntaxKind) (rules : List Rule) (roots : List Root)
    → Tabling left rules roots → left ≡ [] → AreRoots rules roots
all_roots left rules roots t e = record {
  all = λ k. ap (λ ks. numbers_by k roots (listed rules ks k)) (sym e) ∙ t.all k;
}

-- ---- the rules for a kind are tried alone

get_first : (rules : List Rule) (n : ℕ) (r : Rule) (rs : List Rule) → drop n rules ≡ r ∷ rs
    → slice_get rules n ≡ Some r
get_first [] zero r rs e = absurd (let bad : [] ≡ r ∷ rs = e in cc)
get_first [] (suc n) r rs e = absurd (let bad : [] ≡ r ∷ rs = e in cc)
get_first (q ∷ qs) zero r rs e = (let same : q ∷ qs ≡ r ∷ rs = e in cc)
get_first (q ∷ qs) (suc n) r rs e = get_first qs n r rs e

drop_next : (rules : List Rule) (n : ℕ) (r : Rule) (rs : List Rule) → drop n rules ≡ r ∷ rs
    → drop (suc n) rules ≡ rs
drop_next [] zero r rs e = absurd (let bad : [] ≡ r ∷ rs = e in cc)
drop_next [] (suc n) r rs e = absurd (let bad : [] ≡ r ∷ rs = e in cc)
drop_next (q ∷ qs) zero r rs e = (let same : q ∷ qs ≡ r ∷ rs = e in cc)
drop_next (q ∷ qs) (suc n) r rs e = drop_next qs n r rs e

-- a match of the rule with a number, with the number
abbrev noted : ℕ → Option (ℕ × Values) → Option (ℕ × ℕ × Values)
noted n o = option_map (λ (f : ℕ × Values). (n, f.0, f.1)) o

among_from : (rules left : List Rule) (n : ℕ) (k : SyntaxKind) (s : Siblings) → drop n rules ≡ left
    → first_among rules (numbers_from n k left) k s ≡ first_from n left k s
among_from rules [] n k s e = refl
among_from rules (r ∷ rs) n k s e =
    by (is_for k r) refl (among_from rules rs (suc n) k s (drop_next rules n r rs e))
  where
    by : (b : Bool) → is_for k r ≡ b
        → first_among rules (numbers_from (suc n) k rs) k s ≡ first_from (suc n) rs k s
        → first_among rules
        (if b then n ∷ numbers_from (suc n) k rs else numbers_from (suc n) k rs) k s
        ≡ first_from n (r ∷ rs) k s
    by true h i =
        ap (λ (o : Option Rule).
        option_or (noted n (option_and_then (λ (q : Rule). match_rule q k s) o))
        (first_among rules (numbers_from (suc n) k rs) k s)) (get_first rules n r rs e)
        ∙ ap (option_or (noted n (match_rule r k s))) i
    by false h i =
        i ∙ ap (λ o. option_or (noted n o) (first_from (suc n) rs k s)) (not_for r k s h)

pub among_all : (rules : List Rule) (roots : List Root) (k : SyntaxKind) (s : Siblings)
    → AreRoots rules roots → first_among rules (numbers_by k roots []) k s ≡ first_rule rules k s
among_all rules roots k s a =
    ap (λ ns. first_among rules ns k s) (a.all k) ∙ among_from rules rules 0 k s refl

no_match : (rules : List Rule) (roots : List Root) (ns : List ℕ) (k : SyntaxKind) (s : Siblings)
    → AreRoots rules roots → ns ≡ numbers_by k roots [] → ns ≡ [] → None ≡ first_rule rules k s
no_match rules roots ns k s a e h =
    ap (λ ms. first_among rules ms k s) (sym h) ∙ ap (λ ms. first_among rules ms k s) e
    ∙ among_all rules roots k s a

-- a node of a kind without rules
pub none_match : (rules : List Rule) (roots : List Root) (ns : List ℕ) (k : SyntaxKind)
    (c : Cursor) → AreRoots rules roots → ns ≡ numbers_by k roots [] → k ≡ kind_at c
    → (length ns == 0) ≡ true → None ≡ match_at rules c
none_match rules roots ns k c a e i h =
    let none : None ≡ first_rule rules k (inside_of c) =
    no_match rules roots ns k (inside_of c) a e (nil_of ns (eqb-true (length ns) 0 h)) in
    ap (option_map (λ (f : ℕ × ℕ × Values). record {
      rule = f.0;
      form = f.1;
      range = range_of c;
      values = ranges_of f.2;
      nodes = nodes_of f.2;
    }))
    (none ∙ ap (λ j. first_rule rules j (inside_of c)) i)

pub some_match : (rules : List Rule) (roots : List Root) (ns : List ℕ) (k : SyntaxKind)
    (s : Siblings) (o : Option (ℕ × ℕ × Values)) → AreRoots rules roots
    → ns ≡ numbers_by k roots [] → o ≡ first_among rules ns k s → o ≡ first_rule rules k s
some_match rules roots ns k s o a e is =
    is ∙ ap (λ ms. first_among rules ms k s) e ∙ among_all rules roots k s a
