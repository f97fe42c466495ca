-- Rust's tables, by computation.
use Rattle.std.proofs.Common.{◌≡◌, ℕ, zero, suc, ◌+◌, ◌-◌, ◌<◌, ◌≤◌, ◌^◌, Bool, true, false, not, nat_eq, nat_le, if◌then◌else◌, List, [], ◌∷◌, length, ap, sym, ◌∙◌, refl, subst, arith}
use Rattle.std.specs.Prelude.{Some, None, slice_get}
use Rattle.std.specs.List.{list_all}
use Rattle.std.proofs.lemmas.Bool.{and_parts, eqb-true, not-true}
use Rattle.std.proofs.lemmas.Bool.Decides.{nat_tests}
use Rattle.std.proofs.lemmas.Option.{slice_get_past}
use Rattle.syntax_kind.specs.declared.syntax_kind.SyntaxKind.{SyntaxKind}
use Rattle.syntax_kind.specs.declared.syntax_kind.SyntaxKind.TheVariants.{Node, OTHER}
use Rattle.syntax_kind.specs.declared.syntax_kind.node_kind.NodeKind.TheVariants as node
use Rattle.ras_front_end.specs.declared.edition.Reparser.{Reparser}
use Rattle.grammar_machine.specs.declared.grammar.Op.{Op}
use Rattle.grammar_machine.specs.declared.grammar.Op.TheVariants as op
use Rattle.grammar_machine.specs.Running.{is_among}
use Rattle.grammar_machine.specs.Alone.{reach_of}
use Rattle.event_layout.specs.Trivia.{attaches_of}
use Rattle.rust_grammar.specs.Tables.{rust_tables}
use Rattle.rust_grammar.specs.Rules.{first_op, body_of, op_count}
use Rattle.rust_front.specs.Pieces.{reparser_on, rule_by_number}
use Rattle.rust_front.specs.Roots.{attaching_kinds}
use Rattle.document_laws.specs.Calls.{makes_one_of}
use Rattle.document_laws.specs.Tables.{RustSealsByCalls, RustLooksAreShort, IsExactRule, ExactRulesAreSealed}

-- ---- tests of all operations

some_same : {X : Type 0} (a b : X) → Some a ≡ Some b → a ≡ b
some_same a b e = cc

pub passes : {X : Type 0} (test : X → Bool) (xs : List X) (i : ℕ) (x : X) → list_all test xs ≡ true → slice_get xs i ≡ Some x → test x ≡ true
passes test [] i x h e = (let bad : None ≡ Some x = e in cc)
passes test (y ∷ xs) zero x h e = ap test (sym (some_same y x e)) ∙ (and_parts (test y) (list_all test xs) h).0
passes test (y ∷ xs) (suc i) x h e = passes test xs i x (and_parts (test y) (list_all test xs) h).1 e

-- ---- only calls seal

abbrev seals_rightly : Op → Bool
seals_rightly o = not (makes_one_of rust_tables.sealed o)

all_seal : list_all seals_rightly rust_tables.ops ≡ true
unfolding rust_tables
all_seal = refl

pub only_calls : RustSealsByCalls
only_calls i o e = not-true (makes_one_of rust_tables.sealed o) (passes seals_rightly rust_tables.ops i o all_seal e)

-- ---- looks are short

abbrev looks_near : Op → Bool
looks_near o = nat_le (reach_of o) 256

all_near : list_all looks_near rust_tables.ops ≡ true
unfolding rust_tables
all_near = refl

at_most : (n : ℕ) → nat_le n 256 ≡ true → n ≤ 2 ^ 8
at_most n h = grind (arith, nat_tests, h)

pub looks_short : RustLooksAreShort
looks_short i o e = at_most (reach_of o) (passes looks_near rust_tables.ops i o all_near e)

-- ---- the calls of each kind

abbrev calls_body : Op → Bool
calls_body (op.Sealed target k) = nat_eq target (body_of k)
calls_body _ = true

all_bodies : list_all calls_body rust_tables.ops ≡ true
unfolding rust_tables
all_bodies = refl

body_called : (k : SyntaxKind) (i t : ℕ) → slice_get rust_tables.ops i ≡ Some (op.Sealed t k) → t ≡ body_of k
body_called k i t e = eqb-true t (body_of k) (passes calls_body rust_tables.ops i (op.Sealed t k) all_bodies e)

count : length rust_tables.ops ≡ op_count
unfolding rust_tables
count = refl

none_last : slice_get rust_tables.ops (2 ^ 32 - 1) ≡ None
none_last = slice_get_past rust_tables.ops (2 ^ 32 - 1) (omega (arith, count))

-- what is computed of one kind
record Computed (k : SyntaxKind) (number : ℕ) : Type 0 where
  call : slice_get rust_tables.ops (first_op (rule_by_number number)) ≡ Some (op.Sealed (body_of k) k)
  back : slice_get rust_tables.ops (first_op (rule_by_number number) + 1) ≡ Some op.Return
  short : first_op (rule_by_number number) + 1 < 2 ^ 32 - 1
  listed : is_among rust_tables.sealed k ≡ true
  apart : attaches_of attaching_kinds k ≡ false

some_reparser : (r s : Reparser) → Some r ≡ Some s → r ≡ s
some_reparser r s e = cc

exact : (k : SyntaxKind) (number : ℕ) (r : Reparser) → Computed k number → Some (record { kind = k; number = number }) ≡ Some r → IsExactRule k r
exact k number r c e =
    subst (IsExactRule k) (some_reparser (record { kind = k; number = number }) r e) (record {
      kind = refl;
      target = body_of k;
      rule = record { call = c.call; back = c.back; short = c.short; ends = none_last };
      calls = λ i t h. body_called k i t h;
      listed = c.listed;
      apart = c.apart;
    })

token_tree : Computed (Node node.TOKEN_TREE) 7
unfolding rust_tables
token_tree = record { call = refl; back = refl; short = omega arith; listed = refl; apart = refl }

stmt_list : Computed (Node node.STMT_LIST) 10
unfolding rust_tables
stmt_list = record { call = refl; back = refl; short = omega arith; listed = refl; apart = refl }

match_arm_list : Computed (Node node.MATCH_ARM_LIST) 4
unfolding rust_tables
match_arm_list = record { call = refl; back = refl; short = omega arith; listed = refl; apart = refl }

assoc_item_list : Computed (Node node.ASSOC_ITEM_LIST) 8
unfolding rust_tables
assoc_item_list = record { call = refl; back = refl; short = omega arith; listed = refl; apart = refl }

extern_item_list : Computed (Node node.EXTERN_ITEM_LIST) 6
unfolding rust_tables
extern_item_list = record { call = refl; back = refl; short = omega arith; listed = refl; apart = refl }

item_list : Computed (Node node.ITEM_LIST) 9
unfolding rust_tables
item_list = record { call = refl; back = refl; short = omega arith; listed = refl; apart = refl }

record_field_list : Computed (Node node.RECORD_FIELD_LIST) 1
unfolding rust_tables
record_field_list = record { call = refl; back = refl; short = omega arith; listed = refl; apart = refl }

use_tree_list : Computed (Node node.USE_TREE_LIST) 5
unfolding rust_tables
use_tree_list = record { call = refl; back = refl; short = omega arith; listed = refl; apart = refl }

record_expr_field_list : Computed (OTHER 271) 2
unfolding rust_tables
record_expr_field_list = record { call = refl; back = refl; short = omega arith; listed = refl; apart = refl }

variant_list : Computed (OTHER 275) 3
unfolding rust_tables
variant_list = record { call = refl; back = refl; short = omega arith; listed = refl; apart = refl }

no_reparser : (r : Reparser) → None ≡ Some r → ⊥
no_reparser r e = (let bad : None ≡ Some r = e in cc)

of_number : (n m : ℕ) (number : ℕ) → Computed (OTHER m) number → nat_eq n m ≡ true → Computed (OTHER n) number
of_number n m number c e = subst (λ (j : ℕ). Computed (OTHER j) number) (sym (eqb-true n m e)) c

other : (n : ℕ) (r : Reparser) (b c : Bool) → nat_eq n 271 ≡ b → nat_eq n 275 ≡ c
    → reparser_on (OTHER n) (if b then Some 2 else (if c then Some 3 else None)) ≡ Some r → IsExactRule (OTHER n) r
other n r true c e f h = exact (OTHER n) 2 r (of_number n 271 2 record_expr_field_list e) h
other n r false true e f h = exact (OTHER n) 3 r (of_number n 275 3 variant_list f) h
other n r false false e f h = absurd (no_reparser r h)

pub exact_rules : ExactRulesAreSealed
exact_rules (Node node.TOKEN_TREE) r h = exact (Node node.TOKEN_TREE) 7 r token_tree h
exact_rules (Node node.STMT_LIST) r h = exact (Node node.STMT_LIST) 10 r stmt_list h
exact_rules (Node node.MATCH_ARM_LIST) r h = exact (Node node.MATCH_ARM_LIST) 4 r match_arm_list h
exact_rules (Node node.ASSOC_ITEM_LIST) r h = exact (Node node.ASSOC_ITEM_LIST) 8 r assoc_item_list h
exact_rules (Node node.EXTERN_ITEM_LIST) r h = exact (Node node.EXTERN_ITEM_LIST) 6 r extern_item_list h
exact_rules (Node node.ITEM_LIST) r h = exact (Node node.ITEM_LIST) 9 r item_list h
exact_rules (Node node.RECORD_FIELD_LIST) r h = exact (Node node.RECORD_FIELD_LIST) 1 r record_field_list h
exact_rules (Node node.USE_TREE_LIST) r h = exact (Node node.USE_TREE_LIST) 5 r use_tree_list h
exact_rules (OTHER n) r h = other n r (nat_eq n 271) (nat_eq n 275) refl refl h
exact_rules _ r h = absurd (no_reparser r h)
