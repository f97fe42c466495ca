-- The events of two runs that differ in one piece are those of one setting: a law of the
-- definitions.
use Rattle.std.specs.Prelude.{◌≡◌, ℕ, ◌+◌, ◌<◌, ◌^◌, true, List, length, reverse}
use Rattle.syntax_kind.specs.declared.syntax_kind.SyntaxKind.{SyntaxKind}
use Rattle.grammar_machine.specs.declared.event.Event.{Event}
use Rattle.grammar_machine.specs.declared.grammar.Sight.{Sight}
use Rattle.grammar_machine.specs.Running.{Tables, is_among, runs, run_of, begin_of, events_of}
use Rattle.grammar_machine.specs.Filling.{LooksAreShort, Fits}
use Rattle.grammar_machine.specs.Exchanging.{Makes}
use Rattle.grammar_machine.specs.Replacing.{Exchanges}
use Rattle.event_layout.specs.Filled.{Stretch, Setting, events_in}

-- parts of a text, with the events that are made of them
abbrev pub setting_of : SyntaxKind → Stretch → Stretch → List Event → List Event → Setting
setting_of k a c before behind =
    record {
      before = record a { events = before };
      kind = k;
      behind = record c { events = behind };
    }

-- the events before the call, in order
abbrev pub made_before : {g : Tables} {old new : List Sight} {rule : ℕ} {k : SyntaxKind}
    → Exchanges g old new rule k → List Event
made_before {g} {old} {new} {rule} {k} x = reverse (runs x.steps g old (begin_of rule)).made.events

-- both runs make the events of their own call, and around it the same
pub record OneSetting
    (g : Tables) (old new : List Sight) (rule : ℕ) (k : SyntaxKind) (x : Exchanges g old new rule k)
    (a c : Stretch) (es fs : List Event) : Type 0 where
  pub behind : List Event
  pub were : events_of g rule old ≡ events_in (setting_of k a c (made_before x) behind) es
  pub are : events_of g rule new ≡ events_in (setting_of k a c (made_before x) behind) fs

abbrev pub ExchangedEventsAreSetIn : Type 0
ExchangedEventsAreSetIn =
    (g : Tables) (old new : List Sight) (rule : ℕ) (k : SyntaxKind) (x : Exchanges g old new rule k)
    (a c : Stretch) (es fs : List Event)
    → LooksAreShort g → is_among g.sealed k ≡ true
    → length old + 3 < 2 ^ 64 → length new + 3 < 2 ^ 64
    → Fits (run_of g rule old) → Fits (run_of g rule new)
    → Makes x.was es → Makes x.now fs
    → OneSetting g old new rule k x a c es fs
