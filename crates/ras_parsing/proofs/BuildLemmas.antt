-- What a build asks for, and what it has at its end.
use Rattle.std.proofs.Common.{◌≡◌, ℕ, List, [], ◌∷◌, ◌++◌, length, take, drop, filter_map, refl, sym, ap, ◌∙◌, subst, append-nil}
use Rattle.std.specs.Prelude.{All, ⊤, Result, Ok, Err, IfOk}
use Rattle.syntax_kind.specs.declared.syntax_kind.SyntaxKind.{SyntaxKind}
use Rattle.syntax_kind.specs.declared.syntax_kind.SyntaxKind.TheVariants.{OTHER}
use Rattle.tree_model.specs.Tree.{Tree, Forest, nil, cons, kind_of}
use Rattle.tree_model.specs.Events.{enter, leaf, exit, BuildsNode}
use Rattle.tree_model.proofs.Balance.{builds_one}
use Rattle.tree_rows.specs.Builder.{TextsFit, IsOneTree}
use Rattle.tree_rows.specs.Builder as builder
use Rattle.ras_front_end.specs.declared.output.Step.{Step}
use Rattle.ras_front_end.specs.declared.output.Step.TheVariants.{Enter, Token, Exit, Error}
use Rattle.ras_front_end.specs.declared.output.Output.{Output}
use Rattle.ras_front_end.specs.ErrorModel.{ErrorModel, LiesIn}
use Rattle.ras_front_end.specs.Reading.{Reading, front_steps, reading_of, events_from, Cuts, step_faults, stored_faults}
use Rattle.ras_front_end.specs.TreeEvent.{tree_event}
use Rattle.ras_front_end.specs.Keeps.{Keeps}
use Rattle.ras_front_end.specs.Parsed.{Parsed, IsParseOf, ErrorsLieIn}
use Rattle.ras_parsing.proofs.TreeTexts.{built_text}

-- the steps as events, with lengths in the place of texts, stand for the same events
events_same : (ss : List Step) (s : List ℕ) → builder.events_from (filter_map tree_event ss) s ≡ events_from (front_steps ss) s
events_same [] s = refl
events_same (Enter k ∷ ss) s = ap (λ l. enter k ∷ l) (events_same ss s)
events_same (Token k n ∷ ss) s = ap (λ l. leaf k (take n s) ∷ l) (events_same ss (drop n s))
events_same (Exit ∷ ss) s = ap (λ l. exit ∷ l) (events_same ss s)
events_same (Error m p ∷ ss) s = events_same ss s

texts_fit : (ss : List Step) (s : List ℕ) → Cuts (front_steps ss) s → TextsFit (filter_map tree_event ss) s
texts_fit [] s h = h
texts_fit (Enter k ∷ ss) s h = texts_fit ss s h
texts_fit (Token k n ∷ ss) s h = (h.0, h.1, texts_fit ss (drop n s) h.2)
texts_fit (Exit ∷ ss) s h = texts_fit ss s h
texts_fit (Error m p ∷ ss) s h = texts_fit ss s h

-- what a front end keeps of a reading is what a tree of its steps asks for
pub one_tree : (o : Output) (input : List ℕ) → Keeps (λ root. ⊤) input (reading_of o) → IsOneTree (filter_map tree_event o.steps.items) input
one_tree o input k = record {
  tree = k.tree;
  fits = texts_fit o.steps.items input k.cuts;
  builds = subst (λ l. BuildsNode l k.tree) (sym (events_same o.steps.items input)) k.builds;
}

pub record IsFinished (input : List ℕ) (r : Reading) (p : Parsed) : Type 0 where
  pub parsed : IsParseOf input r p
  pub in_text : ErrorsLieIn p

-- the errors are complete where none is left of the steps, nor of the lexer's
all_faults : (o : Output) (left : List Step) (more faults all : List ErrorModel) → left ≡ [] → more ≡ []
    → faults ++ step_faults (front_steps left) ≡ step_faults (front_steps o.steps.items) → all ++ more ≡ faults ++ o.errors.items → all ≡ stored_faults (reading_of o)
all_faults o left more faults all e f g h =
    sym (append-nil all) ∙ ap (λ l. all ++ l) (sym f) ∙ h
    ∙ ap (λ l. l ++ o.errors.items) (sym (append-nil faults) ∙ ap (λ l. faults ++ step_faults (front_steps l)) (sym e) ∙ g)

-- the tree of an output's steps, with all errors
pub finished : (o : Output) (input : List ℕ) (k : Keeps (λ root. ⊤) input (reading_of o)) (given left : List Step) (more faults all : List ErrorModel) (t : Tree)
    → given ≡ o.steps.items → BuildsNode (builder.events_from (filter_map tree_event given) input) t
    → left ≡ [] → more ≡ [] → faults ++ step_faults (front_steps left) ≡ step_faults (front_steps o.steps.items) → all ++ more ≡ faults ++ o.errors.items
    → IsFinished input (reading_of o) (record { tree = t; errors = all })
finished o input k given left more faults all t is b e f g h =
    let builds = subst (λ l. BuildsNode l t) (ap (λ l. builder.events_from (filter_map tree_event l) input) is ∙ events_same o.steps.items input) b in
    let same = built_text (front_steps o.steps.items) input t k.cuts builds in
    let complete = all_faults o left more faults all e f g h in
    record {
      parsed = record { builds = builds; text_is = same; errors_are = complete };
      in_text = subst (λ n. All (LiesIn n) all) (ap length (sym same)) (subst (λ l. All (LiesIn (length input)) l) (sym complete) k.in_text);
    }

first_kind : Forest → SyntaxKind
first_kind nil = OTHER 0
first_kind (cons t r) = kind_of t

-- the root is the one that the front end keeps
pub root_kept : (is_root : SyntaxKind → Type 0) (input : List ℕ) (r r' : Reading) (p : Parsed) → Keeps is_root input r' → r ≡ r' → IsParseOf input r p → is_root (kind_of p.tree)
unfolding first_kind
root_kept is_root input r r' p k e h =
    let one = builds_one k.builds.0 (subst (λ x. BuildsNode (events_from x.steps input) p.tree) e h.builds).0 in
    subst is_root (ap first_kind one) k.root

pub forget_root : (is_root : SyntaxKind → Type 0) (input : List ℕ) (r r' : Reading) → Keeps is_root input r' → r ≡ r' → Keeps (λ root. ⊤) input r
forget_root is_root input r r' k e =
    let any : Keeps (λ root. ⊤) input r' = record { tree = k.tree; cuts = k.cuts; builds = k.builds; root = tt; in_text = k.in_text } in
    subst (Keeps (λ root. ⊤) input) (sym e) any

pub ok_along : {A E : Type 0} (r : Result A E) (P Q : A → Type 0) → ((x : A) → P x → Q x) → IfOk r P → IfOk r Q
ok_along (Ok x) P Q f h = f x h
ok_along (Err e) P Q f h = tt

-- and from two clauses
pub ok_both : {A E : Type 0} (r : Result A E) (P Q R : A → Type 0) → ((x : A) → P x → Q x → R x) → IfOk r P → IfOk r Q → IfOk r R
ok_both (Ok x) P Q R f p q = f x p q
ok_both (Err e) P Q R f p q = tt

-- a clause of the only value that a call can answer
pub ok_is : {A E : Type 0} (r : Result A E) (x : A) (P : A → Type 0) → P x → IfOk r (λ y. y ≡ x) → IfOk r P
ok_is (Ok y) x P h e = subst P (sym e) h
ok_is (Err e) x P h f = tt
