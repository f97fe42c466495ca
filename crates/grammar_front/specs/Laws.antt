-- The front end keeps the law of front ends, whatever its grammar makes of a text: the lexer's
-- tokens cut the text, and any events are laid out as one tree over them.
use Rattle.std.proofs.Common.{◌≡◌, ℕ, ◌<◌, ◌≤◌, ◌-◌, ◌^◌, Bool, true, false, if◌then◌else◌, List, [], ◌∷◌, length, refl, arith, inl, inr, Option, Some, None}
use Rattle.std.specs.Prelude.{IsUtf8, All, nat_lt}
use Rattle.std.proofs.Math.Nat.{min-le_left, min-le_right}
use Rattle.std.proofs.lemmas.Bool.{ltb-false}
use Rattle.std.proofs.lemmas.List.Elements.{All-cons, All-nil, All-head, All-tail}
use Rattle.syntax_kind.specs.declared.syntax_kind.SyntaxKind.{SyntaxKind}
use Rattle.syntax_kind.specs.declared.syntax_kind.SyntaxKind.TheVariants.{Token}
use Rattle.syntax_kind.specs.declared.syntax_kind.token_kind.TokenKind.TheVariants as token
use Rattle.ras_node.specs.Sets.{is_expr}
use Rattle.ras_front_end.specs.declared.edition.Edition.{Edition}
use Rattle.ras_front_end.specs.declared.edition.Entry.{Entry}
use Rattle.ras_front_end.specs.declared.edition.Entry.TheVariants.{SourceFile, Expr}
use Rattle.ras_front_end.specs.declared.edition.Reparser.{Reparser}
use Rattle.ras_front_end.specs.Front.{FrontEndKeeps}
use Rattle.ras_front_end.specs.Keeps.{Keeps, IsRootOf}
use Rattle.ras_front_end.specs.Reading.{Reading}
use Rattle.token_layout.specs.declared.span.Token.{Token as LexedToken}
use Rattle.token_layout.specs.Answers.{LexerAnswers, LexerKeeps}
use Rattle.event_layout.specs.declared.layout.ParserError.{ParserError}
use Rattle.event_layout.specs.Layout.{laid_of, outermost_of}
use Rattle.event_layout.proofs.Laying.{laid, lie}
use Rattle.event_layout.proofs.Kept.{kept}
use Rattle.grammar_front.specs.declared.language.ErrorPlace.{ErrorPlace}
use Rattle.grammar_front.specs.declared.language.ErrorPlace.TheVariants.{BehindLast, AtNext}
use Rattle.grammar_front.specs.declared.language.Target.{Target}
use Rattle.grammar_front.specs.declared.language.Target.TheVariants.{Whole, Piece}
use Rattle.grammar_front.specs.Answers.{LanguageAnswers}
use Rattle.grammar_front.specs.Reports.{placed_of, next_from, last_of, say_of}
use Rattle.grammar_front.specs.Front.{size_of, expr_or_error_of, root_of, made_of, reading_with, nothing_read, whole_of, read_of, reparser_of, grammar_front}

-- an error in the text stays in it, wherever errors are
placed_lies : (place : ErrorPlace) (text : List ℕ) (p : ℕ) (ts : List LexedToken) → p ≤ length text → placed_of place (size_of text) p ts ≤ length text
placed_lies BehindLast text p ts h = h
placed_lies AtNext text p ts h = omega (arith, min-le_right (next_from p ts) (size_of text), min-le_left (length text) (2 ^ 32 - 1))

all_lie : (language : LanguageAnswers) (text : List ℕ) (ts : List LexedToken) (fs : List ParserError) → All (λ f. f.position ≤ length text) fs → All (λ f. (say_of language (size_of text) ts f).1 ≤ length text) fs
all_lie language text ts [] h = All-nil (λ f. (say_of language (size_of text) ts f).1 ≤ length text)
all_lie language text ts (f ∷ fs) h =
    let own = All-head (λ f. f.position ≤ length text) f fs h in
    All-cons (λ f. (say_of language (size_of text) ts f).1 ≤ length text) f fs
    (placed_lies language.error_place text f.position (last_of ts f.left) own)
    (all_lie language text ts fs (All-tail (λ f. f.position ≤ length text) f fs h))

-- whatever the events are
keeps : (is_root : SyntaxKind → Type 0) (lexer : LexerAnswers) (law : LexerKeeps lexer) (language : LanguageAnswers) (target : Target) (e : Edition) (text : List ℕ)
    → ((top : Option SyntaxKind) → is_root (root_of target top)) → IsUtf8 text → length text < 2 ^ 32 → Keeps is_root text (whole_of lexer language target e text)
unfolding reading_with
keeps is_root lexer law language target e text h u l =
    let ts = lexer.tokens e text in
    let es = made_of language target e text ts in
    let root = root_of target (outermost_of es) in
    let s = laid_of root language.attaching text ts es in
    let cut = law.cut e text u l in
    kept (say_of language (size_of text) ts) is_root root s.faults (lexer.errors e text) text s.steps (h (outermost_of es))
    (laid root language.attaching text ts es l cut)
    (all_lie language text ts s.faults (lie root language.attaching text ts es l cut))
    (law.lie e text u l)

short_on : (is_root : SyntaxKind → Type 0) (b : Bool) (r : Reading) (text : List ℕ) → nat_lt (length text) (2 ^ 32) ≡ b → length text < 2 ^ 32 → Keeps is_root text r → Keeps is_root text (if b then r else nothing_read)
short_on is_root true r text e l h = h
short_on is_root false r text e l h = let k : 2 ^ 32 ≤ length text = ltb-false (length text) (2 ^ 32) e in absurd (omega (arith, k, l))

read_keeps : (is_root : SyntaxKind → Type 0) (lexer : LexerAnswers) (law : LexerKeeps lexer) (language : LanguageAnswers) (target : Target) (e : Edition) (text : List ℕ)
    → ((top : Option SyntaxKind) → is_root (root_of target top)) → IsUtf8 text → length text < 2 ^ 32 → Keeps is_root text (read_of lexer language target e text)
unfolding read_of
read_keeps is_root lexer law language target e text h u l =
    short_on is_root (nat_lt (length text) (2 ^ 32)) (whole_of lexer language target e text) text refl l (keeps is_root lexer law language target e text h u l)

expr_or_error : (b : Bool) (k : SyntaxKind) → is_expr k ≡ b → IsRootOf Expr (if b then k else Token token.ERROR)
expr_or_error true k e = inl e
expr_or_error false k e = inr refl

top_root : (top : Option SyntaxKind) → IsRootOf Expr (expr_or_error_of top)
top_root None = inr refl
top_root (Some k) = expr_or_error (is_expr k) k refl

entry_root : (entry : Entry) (top : Option SyntaxKind) → IsRootOf entry (root_of (Whole entry) top)
entry_root SourceFile top = refl
entry_root Expr top = top_root top

same_kind : (k : SyntaxKind) (number : Option ℕ) (r : Reparser) → reparser_of k number ≡ Some r → r.kind ≡ k
same_kind k None r e = (let bad : None ≡ Some r = e in cc)
same_kind k (Some n) r e = let f : Some (record { kind = k; number = n }) ≡ Some r = e in cc

pub grammar_kept : (lexer : LexerAnswers) (law : LexerKeeps lexer) (language : LanguageAnswers) → FrontEndKeeps (grammar_front lexer language)
grammar_kept lexer law language = record {
  entry_kept = λ entry edition text is_text is_short. read_keeps (IsRootOf entry) lexer law language (Whole entry) edition text (entry_root entry) is_text is_short;
  piece_kept = λ k first_child parent reparser edition text is_chosen is_text is_short is_balanced.
      read_keeps (λ root. root ≡ k) lexer law language (Piece reparser) edition text (λ _. same_kind k (language.reparser k first_child parent) reparser is_chosen) is_text is_short;
  reparser_kept = λ k first_child parent reparser is_chosen. same_kind k (language.reparser k first_child parent) reparser is_chosen;
}
