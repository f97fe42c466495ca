-- Which replacements of a text are taken, by the answers of somebody who is asked.
use Rattle.std.specs.Prelude.{ℕ, zero, suc, Bool, true, false, if◌then◌else◌, List, [], ◌∷◌, codes, Option, Some, None}
use Rattle.text_edit.specs.Replacements.{Replacement}
use Rattle.rule_plan.specs.Severities.{is_text}
use Rattle.rule_plan.specs.declared.answer.Answer.{Answer}
use Rattle.rule_plan.specs.declared.answer.Answer.TheVariants.{Yes, No, All, Quit}

-- the answer that a word is, or its first letter
abbrev pub answer_of : List ℕ → Option Answer
answer_of s =
    if is_text s (codes "y") then Some Yes
    else (if is_text s (codes "yes") then Some Yes
    else (if is_text s (codes "n") then Some No
    else (if is_text s (codes "no") then Some No
    else (if is_text s (codes "a") then Some All
    else (if is_text s (codes "all") then Some All
    else (if is_text s (codes "q") then Some Quit
    else (if is_text s (codes "quit") then Some Quit else None)))))))

abbrev pub is_taken : Answer → Bool
is_taken Yes = true
is_taken No = false
is_taken All = true
is_taken Quit = false

-- it is the answer for all further replacements too
abbrev pub is_last : Answer → Bool
is_last Yes = false
is_last No = false
is_last All = true
is_last Quit = true

-- the first answer; without one it is no
abbrev pub first_answer : List Answer → Answer
first_answer [] = No
first_answer (a ∷ more) = a

-- the answers for the further replacements
abbrev pub further : List Answer → List Answer
further [] = []
further (a ∷ more) = if is_last a then a ∷ more else more

-- which of so many replacements are taken, each by the first answer that is left
abbrev pub taken : ℕ → List Answer → List Bool
taken zero answers = []
taken (suc n) answers = is_taken (first_answer answers) ∷ taken n (further answers)

abbrev pub is_first_marked : List Bool → Bool
is_first_marked [] = false
is_first_marked (mark ∷ marks) = mark

abbrev pub behind_first : List Bool → List Bool
behind_first [] = []
behind_first (mark ∷ marks) = marks

-- the replacements that are marked; one without a mark is not
abbrev pub chosen : List Bool → List Replacement → List Replacement
chosen marks [] = []
chosen marks (e ∷ es) = if is_first_marked marks then e ∷ chosen (behind_first marks) es else chosen (behind_first marks) es
