-- What the program writes, and its exit status, for a command and what was read.
use Rattle.std.specs.Prelude.{◌≡◌, ℕ, ◌<◌, ◌≤◌, ◌^◌, length, ◌⊎◌, List, [], ◌++◌, take, Option, None, Some, IfSome, MatchOption, Result, Ok, Err, codes, IsUtf8, if◌then◌else◌}
use Rattle.std.specs.Str.{bytes_eq}
use Rattle.std.specs.Io.KnownBytes.{Appends}
use Rattle.tree_model.specs.Tree.{Tree}
use Rattle.tree_model.specs.Events.{Event, BuildsNode, IsAccepted, IsFirstRefusal}
use Rattle.lossless_tree.specs.Dump.{dump_of}
use Rattle.tree_model.specs.declared.error.FinishError.{FinishError}
use Rattle.tree_model.specs.declared.error.FinishError.TheVariants as finish
use Rattle.ras_front_end.specs.declared.parse_error.ParseError.{ParseError}
use Rattle.ras_front_end.specs.declared.parse_error.ParseError.TheVariants as parse
use Rattle.ras_front_end.specs.declared.edition.Entry.TheVariants.{SourceFile}
use Rattle.ras_front_end.specs.declared.edition.Edition.TheVariants.{Edition2024}
use Rattle.ras_front_end.specs.Parsed.{Parsed, IsParseOf}
use Rattle.ras_parsing.specs.AllErrors.{debug_dump_of}
use Rattle.tiny_front.specs.Front.{tiny_front}
use Rattle.syntax_tool.specs.declared.command.Command.{Command}
use Rattle.syntax_tool.specs.declared.command.Command.TheVariants.{Events, Dump, Parens, Reparse}
use Rattle.syntax_tool.specs.declared.refusal.Refusal.{Refusal}
use Rattle.syntax_tool.specs.declared.refusal.Refusal.TheVariants.{Read, NotUtf8, BadLine, BadKind, BadRange, OtherRoot, TooLong, OverClosed, Unclosed, Empty, ManyRoots, TokenRoot, ErrorPastText, Memory}
use Rattle.syntax_tool.specs.Lines.{lines_of, ReadsLines}
use Rattle.syntax_tool.specs.Needless.{AnswersParens}
use Rattle.syntax_tool.specs.Requests.{AnswersReparse}

-- the program's name of a refusal of `finish`
abbrev pub refusal_of_finish : FinishError → Refusal
refusal_of_finish finish.TooLong = TooLong
refusal_of_finish finish.OverClosed = OverClosed
refusal_of_finish finish.Unclosed = Unclosed
refusal_of_finish finish.Empty = Empty
refusal_of_finish finish.ManyRoots = ManyRoots
refusal_of_finish finish.TokenRoot = TokenRoot
refusal_of_finish finish.ErrorPastText = ErrorPastText
refusal_of_finish finish.Memory = Memory

abbrev pub refusal_name : Refusal → List ℕ
refusal_name Read = codes "Read"
refusal_name NotUtf8 = codes "NotUtf8"
refusal_name BadLine = codes "BadLine"
refusal_name BadKind = codes "BadKind"
refusal_name BadRange = codes "BadRange"
refusal_name OtherRoot = codes "OtherRoot"
refusal_name TooLong = codes "TooLong"
refusal_name OverClosed = codes "OverClosed"
refusal_name Unclosed = codes "Unclosed"
refusal_name Empty = codes "Empty"
refusal_name ManyRoots = codes "ManyRoots"
refusal_name TokenRoot = codes "TokenRoot"
refusal_name ErrorPastText = codes "ErrorPastText"
refusal_name Memory = codes "Memory"

-- the program's name of a refusal to read a text
abbrev pub refusal_of_parse : ParseError → Refusal
refusal_of_parse parse.TooLong = TooLong
refusal_of_parse parse.Memory = Memory

-- the command that a word names
abbrev pub command_of : List ℕ → Option Command
command_of word = if bytes_eq word (codes "events") then Some Events else (if bytes_eq word (codes "dump") then Some Dump else (if bytes_eq word (codes "parens") then Some Parens else (if bytes_eq word (codes "reparse") then Some Reparse else None)))

-- accepted events build a tree, which is dumped; otherwise the result is the first refusal of
-- `finish` that holds
abbrev pub DumpsEvents : List Event → Result (List ℕ) Refusal → Type 0
DumpsEvents es r =
    (IsAccepted es × ((t : Tree) × BuildsNode es t × (r ≡ Ok (dump_of (record { tree = t; place = [] })))))
    ⊎ ((e : FinishError) × IsFirstRefusal es e × (¬ (e ≡ finish.Memory)) × (r ≡ Err (refusal_of_finish e)))

abbrev pub AnswersRead : Result (List Event) Refusal → Result (List ℕ) Refusal → Type 0
AnswersRead (Ok es) r = DumpsEvents es r
AnswersRead (Err x) r = r ≡ Err x

-- `events`: each line is read, and then the tree of their events is built
abbrev pub AnswersEvents : List ℕ → Result (List ℕ) Refusal → Type 0
AnswersEvents text r = (es : Result (List Event) Refusal) × ReadsLines (lines_of text) es × AnswersRead es r

-- `dump`: first it is checked that the text is not too long; then the small front end reads it as a
-- file of the newest edition, and its parse is dumped
abbrev pub AnswersText : List ℕ → Result (List ℕ) Refusal → Type 0
AnswersText text r =
    ((2 ^ 32 ≤ length text) × (r ≡ Err TooLong))
    ⊎ ((length text < 2 ^ 32) × ((p : Parsed) × IsParseOf text (tiny_front.parsed SourceFile Edition2024 text) p × (r ≡ Ok (debug_dump_of p))))

abbrev pub AnswersAs : Command → List ℕ → Result (List ℕ) Refusal → Type 0
AnswersAs Events text r = AnswersEvents text r
AnswersAs Dump text r = AnswersText text r
AnswersAs Parens text r = AnswersParens text r
AnswersAs Reparse text r = AnswersReparse text r

-- the answer of a command: first it is checked that the input is UTF-8
abbrev pub AnswersInput : Command → List ℕ → Result (List ℕ) Refusal → Type 0
AnswersInput command input r = ((¬ (IsUtf8 input)) × (r ≡ Err NotUtf8)) ⊎ (IsUtf8 input × AnswersAs command input r)

-- the bytes that are written, and the exit status
pub record Output : Type 0 where
  pub text : List ℕ
  pub status : ℕ

abbrev pub refused : Refusal → Output
refused r = record { text = codes "refused: " ++ (refusal_name r ++ codes "\n"); status = 1 }

abbrev pub output_of : Result (List ℕ) Refusal → Output
output_of (Ok t) = record { text = t; status = 0 }
output_of (Err r) = refused r

abbrev pub usage : Output
usage = record { text = codes "usage: syntax_tool events|dump|parens|reparse\n"; status = 2 }

-- the output for a word and what was read
abbrev pub IsOutput : List ℕ → List ℕ → Output → Type 0
IsOutput word input out = MatchOption (command_of word) (out ≡ usage) (λ c. (r : Result (List ℕ) Refusal) × AnswersInput c input r × (out ≡ output_of r))

-- if the reader failed, or memory was refused, the output states only that
abbrev pub IsCutShort : List ℕ → Output → Type 0
IsCutShort word out = MatchOption (command_of word) ⊥ (λ _. (out ≡ refused Read) ⊎ (out ≡ refused Memory))

-- the writer took the whole output; or it failed, and took a prefix of it
abbrev pub Wrote : Option (List ℕ) → Option (List ℕ) → ℕ → Output → Type 0
Wrote before after status out =
    (Appends before after out.text × (status ≡ out.status))
    ⊎ ((n : ℕ) × (n < length out.text) × Appends before after (take n out.text) × (status ≡ 1))

-- the input is all that the reader was known to have left
abbrev pub WasLeft : Option (List ℕ) → List ℕ → Type 0
WasLeft left input = IfSome left (λ xs. input ≡ xs)

-- the reader failed, or memory was refused
abbrev pub IsEarly : Refusal → Type 0
IsEarly r = (r ≡ Read) ⊎ (r ≡ Memory)

-- all of the input was read, and it has this answer
abbrev pub AnswersReader : Command → Option (List ℕ) → Result (List ℕ) Refusal → Type 0
AnswersReader command left r = (input : List ℕ) × WasLeft left input × AnswersInput command input r

-- what a run leaves: the bytes that a reader was known to have left were read, and their output was
-- written
pub record IsRun (word : List ℕ) (left before after : Option (List ℕ)) (status : ℕ) : Type 0 where
  pub input : List ℕ
  pub read_whole : WasLeft left input
  pub out : Output
  pub out_is : IsOutput word input out ⊎ IsCutShort word out
  pub wrote : Wrote before after status out
