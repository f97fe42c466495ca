-- What the tasks that are left say of the trees that are compared.
use Rattle.std.proofs.Common.{◌≡◌, ℕ, Bool, true, false, List, [], ◌∷◌, length, refl, sym, subst, ◌∙◌, ap}
use Rattle.std.specs.Prelude.{Option, Some, None, option_map, slice_get, Result, Ok, Err, IfOk}
use Rattle.std.specs.Option.{option_and_then}
use Rattle.tree_model.specs.Tree.{is_token}
use Rattle.lossless_tree.specs.Trees.{Siblings, is_done, first_of, behind_first}
use Rattle.tree_match.specs.declared.bare.Comments.TheVariants.{Passed}
use Rattle.tree_match.specs.declared.rule.Rule.{Rule}
use Rattle.tree_match.specs.declared.rule.Form.{Form}
use Rattle.tree_match.specs.declared.matching.Found.{Found}
use Rattle.tree_match.specs.declared.reads.Task.{Task}
use Rattle.tree_match.specs.Bare.{past, bare}
use Rattle.tree_match.specs.Fields.{is_short_first}
use Rattle.tree_match.specs.Same.{is_same}
use Rattle.tree_match.specs.Matching.{Values, form_at, match_template, found_of}
use Rattle.tree_match.specs.Reads.{rule_at, FirstReads, same_token, same_field, same_node, replaced, AllRead, none, some, ValueReads, unused, used, ValuesRead, no_values, values, IsReplaced, IsSameToken, IsSameNode, IsNodeBy, IsNode, TasksRead, Leads, LeadsBy}

pub if_ok : {T E : Type 0} {P Q : T → Type 0} (r : Result T E) → IfOk r P → ((x : T) → P x → Q x) → IfOk r Q
if_ok (Ok x) h f = f x h
if_ok (Err e) h f = tt

pub not_led : (P : List Rule → Type 0) (new old : List Task) → Leads P false new old
not_led P new old = record { leads = λ h. absurd (let bad : false ≡ true = h in cc) }

pub not_led_by : (rules : List Rule) (P : Type 0) (new old : List Task) → LeadsBy rules P false new old
not_led_by rules P new old = record { leads = λ h. absurd (let bad : false ≡ true = h in cc) }

-- ---- values of placeholders

pub value_unused : (ts : List Task) (old new : Option Siblings) → new ≡ None → Leads (λ rules. ValueReads rules old new) true ts ts
value_unused ts old new e = record {
  leads = λ t rules h. (subst (λ (n : Option Siblings). ValueReads rules old n) (sym e) unused, h);
}

pub value_used : (ts ts' : List Task) (old new : Option Siblings) (o n : Siblings) → old ≡ Some o → new ≡ Some n
    → ts' ≡ record { old = o; new = n } ∷ ts → Leads (λ rules. ValueReads rules old new) true ts' ts
value_used ts ts' old new o n e f g = record {
  leads = λ t rules h. (let both : AllRead rules o n × TasksRead rules ts = subst (TasksRead rules) g h in
      (subst (λ (x : Option Siblings). ValueReads rules x new) (sym e) (subst (λ (y : Option Siblings). ValueReads rules (Some o) y) (sym f) (used both.0)), both.1));
}

-- the values and the tasks that are left lead to all of them
pub record ToCome (olds news : Values) (ts : List Task) (all_olds all_news : Values) (first : List Task) : Type 0 where
  pub come : (rules : List Rule) → ValuesRead rules olds news → TasksRead rules ts → ValuesRead rules all_olds all_news × TasksRead rules first

pub none_come : (os ns : Values) (ts : List Task) → ToCome os ns ts os ns ts
none_come os ns ts = record { come = λ rules vs h. (vs, h) }

pub one_came : (os ns os' ns' a b : Values) (ts ts' first : List Task) (o n : Option Siblings) (y : Bool) → ToCome os ns ts a b first
    → os ≡ o ∷ os' → ns ≡ n ∷ ns' → y ≡ true → Leads (λ rules. ValueReads rules o n) y ts' ts → ToCome os' ns' ts' a b first
one_came os ns os' ns' a b ts ts' first o n y c e f t l = record {
  come = λ rules vs h. (let both = l.leads t rules h in
      c.come rules (subst (λ (x : Values). ValuesRead rules x ns) (sym e) (subst (λ (y : Values). ValuesRead rules (o ∷ os') y) (sym f) (values both.0 vs))) both.1);
}

pub all_came : (os ns a b : Values) (ts first : List Task) → ToCome os ns ts a b first → ns ≡ [] → os ≡ []
    → Leads (λ rules. ValuesRead rules a b) true ts first
all_came os ns a b ts first c e f = record {
  leads = λ t rules h. c.come rules (subst (λ (x : Values). ValuesRead rules x ns) (sym f) (subst (λ (z : Values). ValuesRead rules [] z) (sym e) no_values)) h;
}

-- ---- the first of some siblings

pub no_rule : (rules : List Rule) (n m : ℕ) → None ≡ slice_get rules n → None ≡ form_at rules n m
no_rule rules n m a = ap (option_and_then (λ r. slice_get r.forms.items m)) a

pub some_rule : (rules : List Rule) (n m : ℕ) (rule : Rule) (o : Option Form) → Some rule ≡ slice_get rules n → o ≡ slice_get rule.forms.items m
    → o ≡ form_at rules n m
some_rule rules n m rule o a b = b ∙ ap (option_and_then (λ r. slice_get r.forms.items m)) a

pub replaced_leads : {R V E : Type 0} (rules : List Rule) (ts' ts : List Task) (new : Siblings) (f : ℕ × ℕ × Values) (now : R → Form) (x : Option R) (form : R)
    (items : V → Values) (y : Option V) (news : V) (r : Result Bool E)
    → option_map now x ≡ form_at rules f.0 f.1 → x ≡ Some form
    → option_map items y ≡ match_template (now form) (length f.2) new → y ≡ Some news
    → IfOk r (λ ok. Leads (λ rs. ValuesRead rs f.2 (items news)) ok ts' ts)
    → IfOk r (λ ok. LeadsBy rules (IsReplaced rules f new) ok ts' ts)
replaced_leads rules ts' ts new f now x form items y news r a b c d h =
    if_ok r h (λ ok l. record {
      leads = λ t k. (let both = l.leads t rules k in (
        record {
          form = now form;
          news = items news;
          is_form = sym a ∙ ap (option_map now) b;
          is_template = sym c ∙ ap (option_map items) d;
          values = both.0;
        },
        both.1,
      ));
    })

pub token_leads : (rules : List Rule) (ts : List Task) (old new : Siblings) (y : Bool) → (y ≡ true → IsSameToken old new)
    → LeadsBy rules (FirstReads rules old new) y ts ts
token_leads rules ts old new y f = record {
  leads = λ t h. (let s = f t in (same_token s.old_token s.new_token s.kind s.same, h));
}

pub match_leads : {E : Type 0} (rules : List Rule) (ts' ts : List Task) (old new : Siblings) (x : Option Found) (f : Found) (r : Result Bool E)
    → is_token (first_of old.trees) ≡ false → option_map found_of x ≡ rule_at rules old → x ≡ Some f
    → IfOk r (λ ok. LeadsBy rules (IsReplaced rules (found_of f) new) ok ts' ts)
    → IfOk r (λ ok. LeadsBy rules (FirstReads rules old new) ok ts' ts)
match_leads rules ts' ts old new x f r k a b h =
    if_ok r h (λ ok l. record {
      leads = λ t q. (let both = l.leads t q in let it = both.0 in
          (replaced f.rule f.form it.form f.values.items it.news k (sym a ∙ ap (option_map found_of) b) it.is_form it.is_template it.values, both.1));
    })

pub field_leads : (ts : List Task) (old new : Siblings) (y : Bool) → is_short_first old.trees ≡ true → y ≡ is_same old new
    → Leads (λ rules. IsNode rules old new) y ts ts
field_leads ts old new y s e = record {
  leads = λ t rules h. (subst (λ b. IsNodeBy b rules old new) (sym s) (sym e ∙ t), h);
}

pub other_leads : {E : Type 0} (ts' ts : List Task) (old new : Siblings) (r : Result Bool E) → is_short_first old.trees ≡ false
    → IfOk r (λ ok. Leads (λ rules. IsSameNode rules (bare Passed old) (bare Passed new)) ok ts' ts)
    → IfOk r (λ ok. Leads (λ rules. IsNode rules old new) ok ts' ts)
other_leads ts' ts old new r s h =
    if_ok r h (λ ok l. record {
      leads = λ t rules k. (let both = l.leads t rules k in
          (subst (λ b. IsNodeBy b rules old new) (sym s) both.0, both.1));
    })

first_node : (rules : List Rule) (old new : Siblings) → is_token (first_of old.trees) ≡ false → rule_at rules old ≡ None → IsNode rules old new
    → FirstReads rules old new
first_node rules old new k e n = by (is_short_first old.trees) refl n
  where
    by : (b : Bool) → is_short_first old.trees ≡ b → IsNodeBy b rules old new → FirstReads rules old new
    by true s is = same_field k e s is
    by false s is = same_node k e s is.new_node is.kind is.inside

pub node_leads : {E : Type 0} (rules : List Rule) (ts' ts : List Task) (old new : Siblings) (x : Option Found) (r : Result Bool E)
    → is_token (first_of old.trees) ≡ false → option_map found_of x ≡ rule_at rules old → x ≡ None
    → IfOk r (λ ok. Leads (λ rs. IsNode rs old new) ok ts' ts)
    → IfOk r (λ ok. LeadsBy rules (FirstReads rules old new) ok ts' ts)
node_leads rules ts' ts old new x r k a b h =
    if_ok r h (λ ok l. record {
      leads = λ t q. (let both = l.leads t rules q in
          (first_node rules old new k (sym a ∙ ap (option_map found_of) b) both.0, both.1));
    })

-- ---- all of some siblings

pub none_lead : (rules : List Rule) (ts : List Task) (old new o n : Siblings) (y : Bool) → o ≡ past Passed old → n ≡ past Passed new
    → is_done o.trees ≡ true → y ≡ is_done n.trees → LeadsBy rules (AllRead rules old new) y ts ts
none_lead rules ts old new o n y e f d g = record {
  leads = λ t h. (none (ap (λ (s : Siblings). is_done s.trees) (sym e) ∙ d) (ap (λ (s : Siblings). is_done s.trees) (sym f) ∙ sym g ∙ t), h);
}

pub some_lead : {E : Type 0} (rules : List Rule) (ts'' ts' ts : List Task) (old new o n p q : Siblings) (r : Result Bool E)
    → o ≡ past Passed old → n ≡ past Passed new → is_done o.trees ≡ false → is_done n.trees ≡ false
    → p ≡ behind_first o → q ≡ behind_first n → ts' ≡ record { old = p; new = q } ∷ ts
    → IfOk r (λ ok. LeadsBy rules (FirstReads rules o n) ok ts'' ts') → IfOk r (λ ok. LeadsBy rules (AllRead rules old new) ok ts'' ts)
some_lead rules ts'' ts' ts old new o n p q r e f d g a b c h =
    if_ok r h (λ ok l. record {
      leads = λ t k. (let both = l.leads t k in
          let more : AllRead rules p q × TasksRead rules ts = subst (TasksRead rules) c both.1 in
          let first : FirstReads rules (past Passed old) (past Passed new) =
          subst (λ (x : Siblings). FirstReads rules x (past Passed new)) e (subst (λ (y : Siblings). FirstReads rules o y) f both.0) in
          let rest : AllRead rules (behind_first (past Passed old)) (behind_first (past Passed new)) =
          subst (λ (x : Siblings). AllRead rules x (behind_first (past Passed new))) (a ∙ ap behind_first e)
          (subst (λ (y : Siblings). AllRead rules p y) (b ∙ ap behind_first f) more.0) in
          (some (ap (λ (s : Siblings). is_done s.trees) (sym e) ∙ d) (ap (λ (s : Siblings). is_done s.trees) (sym f) ∙ g) first rest, more.1));
    })

-- ---- tasks

-- the tasks that are left lead to a fact
pub record Remains (rules : List Rule) (ts : List Task) (P : Type 0) : Type 0 where
  pub rest : TasksRead rules ts → P

pub begun : (rules : List Rule) (ts : List Task) (o n a b : Siblings) → o ≡ a → n ≡ b → ts ≡ record { old = o; new = n } ∷ []
    → Remains rules ts (AllRead rules a b)
begun rules ts o n a b e f g = record {
  rest = λ h. (let both : AllRead rules o n × TasksRead rules [] = subst (TasksRead rules) g h in
      subst (λ (x : Siblings). AllRead rules x b) e (subst (λ (y : Siblings). AllRead rules o y) f both.0));
}

pub turned : (rules : List Rule) (ts ts1 ts2 : List Task) (t : Task) (a b : Siblings) (y : Bool) → Remains rules ts (AllRead rules a b) → ts ≡ t ∷ ts1
    → y ≡ true → LeadsBy rules (AllRead rules t.old t.new) y ts2 ts1 → Remains rules ts2 (AllRead rules a b)
turned rules ts ts1 ts2 t a b y m e k l = record {
  rest = λ h. m.rest (subst (TasksRead rules) (sym e) (l.leads k h));
}

pub finished : (rules : List Rule) (ts : List Task) (a b : Siblings) → Remains rules ts (AllRead rules a b) → ts ≡ [] → AllRead rules a b
finished rules ts a b m e = m.rest (subst (TasksRead rules) (sym e) tt)
