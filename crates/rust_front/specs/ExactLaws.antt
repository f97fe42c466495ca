-- The steps of a piece that is read by itself build one tree over its text.
use Rattle.std.proofs.Common.{◌≡◌, ℕ, ◌<◌, ◌^◌, List, length, refl, subst, Bool, true, false, Option, Some, None}
use Rattle.std.specs.Prelude.{IsUtf8, nat_lt, not, ◌||◌, if◌then◌else◌, option_map}
use Rattle.ras_front_end.specs.declared.edition.Edition.{Edition}
use Rattle.ras_front_end.specs.declared.edition.Reparser.{Reparser}
use Rattle.ras_front_end.specs.Keeps.{Keeps}
use Rattle.ras_front_end.specs.Reading.{Reading}
use Rattle.exact_front.specs.Exact.{ExactKeeps}
use Rattle.grammar_machine.specs.declared.event.Event.{Event}
use Rattle.rust_grammar.specs.Seeing.{sights_of}
use Rattle.rust_lexer.specs.Lexing.{tokens_of, errors_of}
use Rattle.rust_front.specs.Exact.{is_braced_by, errs_early, alone_with, whole_exact_of, exact_piece_of, rust_exact}
use Rattle.rust_front.specs.Front.{reading_with}
use Rattle.rust_front.specs.Laws.{keeps}
use Rattle.rust_front.specs.Pieces.{rule_by_number}

some_is : {X : Type 0} (x y : X) → Some x ≡ Some y → x ≡ y
some_is x y e = cc

of_events : (r : Reparser) (e : Edition) (text : List ℕ) (reading : Reading) (o : Option (List Event)) → IsUtf8 text → length text < 2 ^ 32
    → option_map (reading_with r.kind text (tokens_of e text) (errors_of e text)) o ≡ Some reading → Keeps (λ root. root ≡ r.kind) text reading
of_events r e text reading None u l is = (let bad : None ≡ Some reading = is in cc)
of_events r e text reading (Some events) u l is =
    subst (Keeps (λ root. root ≡ r.kind) text) (some_is (reading_with r.kind text (tokens_of e text) (errors_of e text) events) reading is)
    (keeps (λ root. root ≡ r.kind) r.kind events e text refl u l)

unless_refused : (r : Reparser) (e : Edition) (text : List ℕ) (reading : Reading) (b : Bool) (o : Option Reading) → (o ≡ Some reading → Keeps (λ root. root ≡ r.kind) text reading)
    → (if b then None else o) ≡ Some reading → Keeps (λ root. root ≡ r.kind) text reading
unless_refused r e text reading true o f is = (let bad : None ≡ Some reading = is in cc)
unless_refused r e text reading false o f is = f is

if_short : (r : Reparser) (text : List ℕ) (reading : Reading) (b : Bool) (o : Option Reading) → (o ≡ Some reading → Keeps (λ root. root ≡ r.kind) text reading)
    → (if b then o else None) ≡ Some reading → Keeps (λ root. root ≡ r.kind) text reading
if_short r text reading true o f is = f is
if_short r text reading false o f is = (let bad : None ≡ Some reading = is in cc)

exact_keeps : (r : Reparser) (e : Edition) (text : List ℕ) (reading : Reading) → IsUtf8 text → length text < 2 ^ 32 → exact_piece_of r e text ≡ Some reading → Keeps (λ root. root ≡ r.kind) text reading
unfolding exact_piece_of
exact_keeps r e text reading u l is =
    if_short r text reading (nat_lt (length text) (2 ^ 32)) (whole_exact_of r e text)
    (unless_refused r e text reading (not (is_braced_by (tokens_of e text)) || errs_early (tokens_of e text) (errors_of e text)) (option_map (reading_with r.kind text (tokens_of e text) (errors_of e text)) (alone_with (rule_by_number r.number) (sights_of e text (tokens_of e text))))
    (of_events r e text reading (alone_with (rule_by_number r.number) (sights_of e text (tokens_of e text))) u l)) is

pub rust_exact_kept : ExactKeeps rust_exact
rust_exact_kept = record { piece_kept = λ r e text reading is_text is_short is. exact_keeps r e text reading is_text is_short is }
