-- The front end keeps the law, whatever the grammar makes of a text: the lexer's tokens cut it, and
-- any events are laid out as one tree over them.
use Rattle.std.proofs.Common.{◌≡◌, ℕ, ◌<◌, ◌≤◌, ◌^◌, List, [], ◌∷◌, length, map, refl, inl, inr, Bool, true, false, Option, Some, None}
use Rattle.std.specs.Prelude.{IsUtf8, All, nat_lt, if◌then◌else◌}
use Rattle.std.proofs.lemmas.Bool.{ltb-false}
use Rattle.std.proofs.Common.{arith}
use Rattle.std.proofs.lemmas.List.Elements.{All-cons, All-nil, All-head, All-tail}
use Rattle.syntax_kind.specs.declared.syntax_kind.SyntaxKind.{SyntaxKind}
use Rattle.syntax_kind.specs.declared.syntax_kind.SyntaxKind.TheVariants.{Token}
use Rattle.syntax_kind.specs.declared.syntax_kind.token_kind.TokenKind.TheVariants as token
use Rattle.ras_front_end.specs.declared.edition.Edition.{Edition}
use Rattle.ras_front_end.specs.declared.edition.Entry.{Entry}
use Rattle.ras_front_end.specs.declared.edition.Entry.TheVariants.{SourceFile, Expr}
use Rattle.ras_front_end.specs.declared.edition.Reparser.{Reparser}
use Rattle.ras_front_end.specs.ErrorModel.{LiesIn}
use Rattle.ras_front_end.specs.Front.{FrontEndKeeps}
use Rattle.ras_front_end.specs.Keeps.{Keeps, IsRootOf}
use Rattle.ras_front_end.specs.Reading.{Reading}
use Rattle.ras_node.specs.Sets.{is_expr}
use Rattle.grammar_machine.specs.declared.event.Event.{Event}
use Rattle.rust_lexer.specs.declared.lexer.LexError.{LexError}
use Rattle.rust_lexer.specs.Lexing.{tokens_of, errors_of}
use Rattle.rust_lexer.specs.Laws.{IsLexed, ErrorLiesIn}
use Rattle.rust_lexer.proofs.Kept.{lexed}
use Rattle.event_layout.specs.Layout.{laid_of, outermost_of}
use Rattle.event_layout.proofs.Laying.{laid, lie}
use Rattle.event_layout.proofs.Kept.{kept}
use Rattle.rust_front.specs.Pieces.{number_of, reparser_on, chosen_of, rule_by_number}
use Rattle.rust_front.specs.Roots.{attaching_kinds, entry_rule_of, expr_or_error_of, root_kind_of}
use Rattle.rust_front.specs.Messages.{say_of, lexer_error_of}
use Rattle.rust_front.specs.Front.{made_of, reading_with, whole_of, whole_piece_of, parsed_of, piece_of, nothing_read, rust_front}

errors_lie : (text : List ℕ) (n : ℕ) (es : List LexError) → All (ErrorLiesIn n) es → All (LiesIn n) (map (lexer_error_of text) es)
errors_lie text n [] h = All-nil (LiesIn n)
errors_lie text n (e ∷ es) h =
    let own = All-head (ErrorLiesIn n) e es h in
    let one : LiesIn n (lexer_error_of text e) = record { forwards = own.0; within = own.1 } in
    All-cons (LiesIn n) (lexer_error_of text e) (map (lexer_error_of text) es) one (errors_lie text n es (All-tail (ErrorLiesIn n) e es h))

-- whatever the events are
pub keeps : (is_root : SyntaxKind → Type 0) (root : SyntaxKind) (events : List Event) (e : Edition) (text : List ℕ) → is_root root → IsUtf8 text → length text < 2 ^ 32
    → Keeps is_root text (reading_with root text (tokens_of e text) (errors_of e text) events)
unfolding reading_with
keeps is_root root events e text h u l =
    let x : IsLexed e text = lexed e text u l in
    let ts = tokens_of e text in
    let s = laid_of root attaching_kinds text ts events in
    kept (say_of ts) is_root root s.faults (map (lexer_error_of text) (errors_of e text)) text s.steps h
    (laid root attaching_kinds text ts events l x.cut)
    (lie root attaching_kinds text ts events l x.cut)
    (errors_lie text (length text) (errors_of e text) x.lie)

expr_or_error : (b : Bool) (k : SyntaxKind) → is_expr k ≡ b → IsRootOf Expr (if b then k else Token token.ERROR)
expr_or_error true k e = inl e
expr_or_error false k e = inr refl

top_root : (o : Option SyntaxKind) → IsRootOf Expr (expr_or_error_of o)
top_root None = inr refl
top_root (Some k) = expr_or_error (is_expr k) k refl

entry_root : (entry : Entry) (o : Option SyntaxKind) → IsRootOf entry (root_kind_of entry o)
entry_root SourceFile o = refl
entry_root Expr o = top_root o

pub short_on : (is_root : SyntaxKind → Type 0) (b : Bool) (r : Reading) (text : List ℕ) → nat_lt (length text) (2 ^ 32) ≡ b → length text < 2 ^ 32 → Keeps is_root text r → Keeps is_root text (if b then r else nothing_read)
short_on is_root true r text e l h = h
short_on is_root false r text e l h = let k : 2 ^ 32 ≤ length text = ltb-false (length text) (2 ^ 32) e in absurd (omega (arith, k, l))

entry_keeps : (entry : Entry) (e : Edition) (text : List ℕ) → IsUtf8 text → length text < 2 ^ 32 → Keeps (IsRootOf entry) text (parsed_of entry e text)
unfolding parsed_of
entry_keeps entry e text u l =
    let events = made_of (entry_rule_of entry) e text in
    short_on (IsRootOf entry) (nat_lt (length text) (2 ^ 32)) (whole_of entry e text) text refl l
    (keeps (IsRootOf entry) (root_kind_of entry (outermost_of events)) events e text (entry_root entry (outermost_of events)) u l)

piece_keeps : (k : SyntaxKind) (r : Reparser) (e : Edition) (text : List ℕ) → r.kind ≡ k → IsUtf8 text → length text < 2 ^ 32 → Keeps (λ root. root ≡ k) text (piece_of r e text)
unfolding piece_of
piece_keeps k r e text same u l =
    short_on (λ root. root ≡ k) (nat_lt (length text) (2 ^ 32)) (whole_piece_of r e text) text refl l
    (keeps (λ root. root ≡ k) r.kind (made_of (rule_by_number r.number) e text) e text same u l)

chosen_on : (k : SyntaxKind) (o : Option ℕ) (r : Reparser) → reparser_on k o ≡ Some r → r.kind ≡ k
chosen_on k None r e = (let bad : None ≡ Some r = e in cc)
chosen_on k (Some n) r e = let f : Some (record { kind = k; number = n }) ≡ Some r = e in cc

chosen_kind : (k : SyntaxKind) (first parent : Option SyntaxKind) (r : Reparser) → chosen_of k first parent ≡ Some r → r.kind ≡ k
chosen_kind k first parent r e = chosen_on k (number_of k first parent) r e

pub rust_kept : FrontEndKeeps rust_front
rust_kept = record {
  entry_kept = λ entry edition text is_text is_short. entry_keeps entry edition text is_text is_short;
  piece_kept = λ k first_child parent reparser edition text is_chosen is_text is_short is_balanced.
      piece_keeps k reparser edition text (chosen_kind k first_child parent reparser is_chosen) is_text is_short;
  reparser_kept = λ k first_child parent reparser is_chosen. chosen_kind k first_child parent reparser is_chosen;
}
