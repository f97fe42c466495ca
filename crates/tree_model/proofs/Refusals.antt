-- Which events are accepted, and why the first refusal is one alone.
use Rattle.std.proofs.Common.{◌≡◌, ℕ, zero, suc, ◌<◌, ◌≤◌, ◌^◌, List, [], ◌∷◌, ◌++◌, length, refl, sym, ap, subst, ◌∙◌, arith, append_assoc, append-nil}
use Rattle.std.specs.Prelude.{Option, None, Some, nat_lt, if◌then◌else◌, MatchOption}
use Rattle.std.proofs.lemmas.Bool.Decides.{nat_tests}
use native.Mathlib.Decide.{dec_lt}
use Rattle.tree_model.specs.declared.error.FinishError.{FinishError}
use Rattle.tree_model.specs.declared.error.FinishError.TheVariants.{TooLong, OverClosed, Unclosed, Empty, ManyRoots, TokenRoot, ErrorPastText, Memory}
use Rattle.tree_model.specs.Tree.{Tree, node, token, Forest, nil, cons, text, IsNode}
use Rattle.tree_model.specs.Events.{Event, exit, Builds, BuildsNode, events_of, texts, text_len, open_after, forest_of, root_refusal, balance_refusal, first_refusal, refusal_of, Holds, refusal_number, IsFirstRefusal, IsAccepted, TextsAreBuilt, NodesAreAccepted}
use Rattle.tree_model.specs.TreeCode.{forest_of-events_of}
use Rattle.tree_model.proofs.Balance.{events_of-builds, builds_one}
use Rattle.tree_model.proofs.Counts.{never_over, counted, refusals_hold}
use Rattle.tree_model.proofs.EventTexts.{texts-events_of, text_len-texts, forest_text-one}

-- ---- what events build has their texts

pub texts_are_built : TextsAreBuilt
texts_are_built es f b = sym (texts-events_of f) ∙ ap texts (events_of-builds b)

-- the text of one built tree is that of the events
pub built_text : (es : List Event) (t : Tree) → BuildsNode es t → text t ≡ texts es
built_text es t b = sym (forest_text-one t) ∙ texts_are_built es (cons t nil) b.0

-- the bytes of the events are those of the text that they build
pub built_len : (es : List Event) (t : Tree) → BuildsNode es t → text_len es ≡ length (text t)
built_len es t b = text_len-texts es ∙ ap length (sym (built_text es t b))

-- ---- events that build one node

open_after-events_of : (f : Forest) (d : ℕ) (es : List Event) → open_after d (events_of f ++ es) ≡ open_after d es
open_after-events_of nil d es = refl
open_after-events_of (cons (token k t) r) d es = open_after-events_of r d es
open_after-events_of (cons (node k c) r) d es =
    ap (open_after (suc d)) (append_assoc (events_of c) (exit ∷ events_of r) es)
    ∙ open_after-events_of c (suc d) (exit ∷ (events_of r ++ es))
    ∙ open_after-events_of r d es

-- events that build some trees leave none open
pub builds_balanced : (es : List Event) (f : Forest) → Builds es f → open_after 0 es ≡ Some 0
builds_balanced es f b = ap (open_after 0) (sym (events_of-builds b) ∙ sym (append-nil (events_of f))) ∙ open_after-events_of f 0 []

root_refusal-IsNode : (t : Tree) → IsNode t → root_refusal (cons t nil) ≡ None
root_refusal-IsNode (node k c) h = refl
root_refusal-IsNode (token k t) h = absurd h

below_limit : {A : Type 0} (n : ℕ) (x y : A) → n < 2 ^ 32 → (if nat_lt n (2 ^ 32) then x else y) ≡ x
below_limit n x y h = grind (arith, nat_tests)

above_limit : {A : Type 0} (n : ℕ) (x y : A) → 2 ^ 32 ≤ n → (if nat_lt n (2 ^ 32) then x else y) ≡ y
above_limit n x y h = grind (arith, nat_tests)

no_refusal : (es : List Event) (t : Tree) → BuildsNode es t → text_len es < 2 ^ 32 → first_refusal es ≡ None
no_refusal es t b short =
    below_limit (text_len es) (balance_refusal (open_after 0 es) es) (Some TooLong) short
    ∙ ap (λ o. balance_refusal o es) (builds_balanced es (cons t nil) b.0)
    ∙ ap root_refusal (ap forest_of (sym (events_of-builds b.0)) ∙ forest_of-events_of (cons t nil))
    ∙ root_refusal-IsNode t b.1

pub nodes_are_accepted : NodesAreAccepted
nodes_are_accepted es t b short = no_refusal es t b (omega (arith, built_len es t b, short))

-- ---- the first refusal is one alone

first_of : Forest → Tree → Tree
first_of nil t = t
first_of (cons u r) t = u

token_is_no_node : (t u : Tree) → t ≡ u → IsNode t → (IsNode u → ⊥) → ⊥
token_is_no_node t u e h k = k (subst IsNode e h)

-- no refusal holds of events that are accepted
pub none_holds : (es : List Event) → IsAccepted es → (e : FinishError) → refusal_number e < 8 → Holds e es → ⊥
unfolding first_of
none_holds es w TooLong lt k = absurd (omega (arith, k, w.short))
none_holds es w OverClosed lt k = never_over es 0 (builds_balanced es (cons w.root nil) w.builds.0) k
none_holds es w Unclosed lt k = absurd (omega (arith, k, counted es 0 0 (builds_balanced es (cons w.root nil) w.builds.0)))
none_holds es w Empty lt k = (let no : cons w.root nil ≡ nil = builds_one w.builds.0 k in cc)
none_holds es w ManyRoots lt k = (let no : cons w.root nil ≡ cons k.first (cons k.second k.later) = builds_one w.builds.0 k.builds in cc)
none_holds es w TokenRoot lt k = token_is_no_node w.root (token k.kind k.its_text) (ap (λ f. first_of f w.root) (builds_one w.builds.0 k.builds)) w.builds.1 (λ h. h)
none_holds es w ErrorPastText lt k = k
none_holds es w Memory lt k = absurd (omega (arith, lt))

-- the refusal with a number
numbered : ℕ → FinishError
numbered zero = Memory
numbered (suc zero) = TooLong
numbered (suc (suc zero)) = OverClosed
numbered (suc (suc (suc zero))) = Unclosed
numbered (suc (suc (suc (suc zero)))) = Empty
numbered (suc (suc (suc (suc (suc zero))))) = ManyRoots
numbered (suc (suc (suc (suc (suc (suc zero)))))) = TokenRoot
numbered (suc (suc (suc (suc (suc (suc (suc zero))))))) = ErrorPastText
numbered (suc (suc (suc (suc (suc (suc (suc (suc n)))))))) = Memory

numbered_is : (e : FinishError) → numbered (refusal_number e) ≡ e
unfolding numbered
numbered_is TooLong = refl
numbered_is OverClosed = refl
numbered_is Unclosed = refl
numbered_is Empty = refl
numbered_is ManyRoots = refl
numbered_is TokenRoot = refl
numbered_is ErrorPastText = refl
numbered_is Memory = refl

same_number : (d e : FinishError) → refusal_number d ≡ refusal_number e → d ≡ e
same_number d e h = sym (numbered_is d) ∙ ap numbered h ∙ numbered_is e

named : (a e : FinishError) → Some a ≡ Some e → refusal_of a ≡ Some a → refusal_of e ≡ Some e
named a e h k = let same : a ≡ e = cc in subst (λ x. refusal_of x ≡ Some x) same k

root_named : (f : Forest) (e : FinishError) → root_refusal f ≡ Some e → refusal_of e ≡ Some e
root_named nil e h = named Empty e h refl
root_named (cons (token x t) nil) e h = named TokenRoot e h refl
root_named (cons (node x c) nil) e h = (let no : None ≡ Some e = h in cc)
root_named (cons (token x t) (cons u r)) e h = named ManyRoots e h refl
root_named (cons (node x c) (cons u r)) e h = named ManyRoots e h refl

-- what is found of the balance is no want of memory
pub balance_named : (o : Option ℕ) (es : List Event) (e : FinishError) → balance_refusal o es ≡ Some e → refusal_of e ≡ Some e
balance_named None es e h = named OverClosed e h refl
balance_named (Some (suc d)) es e h = named Unclosed e h refl
balance_named (Some zero) es e h = root_named (forest_of es) e h

refusal_named : (es : List Event) (e : FinishError) → first_refusal es ≡ Some e → refusal_of e ≡ Some e
refusal_named es e h =
    elim (dec_lt (text_len es) (2 ^ 32)) [
      | yes short ↦ balance_named (open_after 0 es) es e (sym (below_limit (text_len es) (balance_refusal (open_after 0 es) es) (Some TooLong) short) ∙ h)
      | no long ↦ named TooLong e (sym (above_limit (text_len es) (balance_refusal (open_after 0 es) es) (Some TooLong) (omega arith)) ∙ h) refl
    ]

one_refusal : (es : List Event) (d e : FinishError) → IsFirstRefusal es d → IsFirstRefusal es e → d ≡ e
one_refusal es d e w f =
    elim (dec_lt (refusal_number d) (refusal_number e)) [
      | yes earlier ↦ absurd (f.first d earlier w.holds)
      | no later ↦ elim (dec_lt (refusal_number e) (refusal_number d)) [
        | yes earlier ↦ absurd (w.first e earlier f.holds)
        | no same ↦ same_number d e (omega arith)
      ]
    ]

Answered : List Event → Option FinishError → Type 0
Answered es r = MatchOption r (IsAccepted es) (IsFirstRefusal es)

answered_none : (es : List Event) → IsAccepted es → (e : FinishError) → IsFirstRefusal es e → refusal_of e ≡ None
answered_none es w TooLong f = absurd (none_holds es w TooLong (omega arith) f.holds)
answered_none es w OverClosed f = absurd (none_holds es w OverClosed (omega arith) f.holds)
answered_none es w Unclosed f = absurd (none_holds es w Unclosed (omega arith) f.holds)
answered_none es w Empty f = absurd (none_holds es w Empty (omega arith) f.holds)
answered_none es w ManyRoots f = absurd (none_holds es w ManyRoots (omega arith) f.holds)
answered_none es w TokenRoot f = absurd (none_holds es w TokenRoot (omega arith) f.holds)
answered_none es w ErrorPastText f = absurd f.holds
answered_none es w Memory f = refl

named_first : (es : List Event) (r : Option FinishError) (e : FinishError) → first_refusal es ≡ r → Answered es r → IsFirstRefusal es e → refusal_of e ≡ r
unfolding Answered
named_first es None e is w f = answered_none es w e f
named_first es (Some d) e is w f = subst (λ x. refusal_of x ≡ Some d) (one_refusal es d e w f) (refusal_named es d is)

-- the first refusal that holds is the one that `first_refusal` finds; it finds none where want of
-- memory alone is left
pub is_first_refusal : (es : List Event) (e : FinishError) → IsFirstRefusal es e → refusal_of e ≡ first_refusal es
unfolding Answered
is_first_refusal es e f = named_first es (first_refusal es) e refl (refusals_hold es) f

memory_first : (es : List Event) → IsAccepted es → IsFirstRefusal es Memory
memory_first es w = record { holds = tt; first = none_holds es w }

first_by_none : (es : List Event) (e : FinishError) → IsAccepted es → refusal_of e ≡ None → IsFirstRefusal es e
first_by_none es TooLong w h = (let no : Some TooLong ≡ None = h in cc)
first_by_none es OverClosed w h = (let no : Some OverClosed ≡ None = h in cc)
first_by_none es Unclosed w h = (let no : Some Unclosed ≡ None = h in cc)
first_by_none es Empty w h = (let no : Some Empty ≡ None = h in cc)
first_by_none es ManyRoots w h = (let no : Some ManyRoots ≡ None = h in cc)
first_by_none es TokenRoot w h = (let no : Some TokenRoot ≡ None = h in cc)
first_by_none es ErrorPastText w h = (let no : Some ErrorPastText ≡ None = h in cc)
first_by_none es Memory w h = memory_first es w

same_some : (d e : FinishError) → Some d ≡ Some e → d ≡ e
same_some d e h = cc

first_by_some : (es : List Event) (d e : FinishError) → IsFirstRefusal es d → refusal_of e ≡ Some d → IsFirstRefusal es e
first_by_some es d TooLong w h = subst (IsFirstRefusal es) (sym (same_some TooLong d h)) w
first_by_some es d OverClosed w h = subst (IsFirstRefusal es) (sym (same_some OverClosed d h)) w
first_by_some es d Unclosed w h = subst (IsFirstRefusal es) (sym (same_some Unclosed d h)) w
first_by_some es d Empty w h = subst (IsFirstRefusal es) (sym (same_some Empty d h)) w
first_by_some es d ManyRoots w h = subst (IsFirstRefusal es) (sym (same_some ManyRoots d h)) w
first_by_some es d TokenRoot w h = subst (IsFirstRefusal es) (sym (same_some TokenRoot d h)) w
first_by_some es d ErrorPastText w h = subst (IsFirstRefusal es) (sym (same_some ErrorPastText d h)) w
first_by_some es d Memory w h = (let no : None ≡ Some d = h in cc)

first_by : (es : List Event) (r : Option FinishError) (e : FinishError) → Answered es r → refusal_of e ≡ r → IsFirstRefusal es e
unfolding Answered
first_by es None e w h = first_by_none es e w h
first_by es (Some d) e w h = first_by_some es d e w h

-- what names the refusal that `first_refusal` finds is the first that holds
pub first_refusal_is : (es : List Event) (e : FinishError) → refusal_of e ≡ first_refusal es → IsFirstRefusal es e
unfolding Answered
first_refusal_is es e h = first_by es (first_refusal es) e (refusals_hold es) h

-- events are accepted exactly where `first_refusal` finds none
pub accepted_none : (es : List Event) → IsAccepted es → first_refusal es ≡ None
accepted_none es w = no_refusal es w.root w.builds w.short

accepted_by : (es : List Event) (r : Option FinishError) → Answered es r → r ≡ None → IsAccepted es
unfolding Answered
accepted_by es None w h = w
accepted_by es (Some d) w h = (let no : Some d ≡ None = h in cc)

pub none_accepted : (es : List Event) → first_refusal es ≡ None → IsAccepted es
unfolding Answered
none_accepted es h = accepted_by es (first_refusal es) (refusals_hold es) h
