-- The nearest node with a reparser, step by step.
use Rattle.std.proofs.Common.{◌≡◌, List, [], ◌∷◌, sym, ap, ◌∙◌, Option, Some, None}
use Rattle.tree_model.specs.Cursor.{Cursor}
use Rattle.ras_front_end.specs.declared.edition.Reparser.{Reparser}
use Rattle.ras_front_end.specs.Front.{Front}
use Rattle.ras_parsing.specs.Reparse.{reparser_of, or_later, first_reparsable}

at_first : (front : Front) (l next : List Cursor) (c : Cursor) (o answer : Option Reparser) → l ≡ c ∷ next → o ≡ reparser_of front c → o ≡ answer → first_reparsable front l ≡ or_later c answer (first_reparsable front next)
at_first front l next c o answer e asked is = ap (first_reparsable front) e ∙ ap (λ x. or_later c x (first_reparsable front next)) (sym asked ∙ is)

pub passed : (front : Front) (l next : List Cursor) (c : Cursor) (o : Option Reparser) → l ≡ c ∷ next → o ≡ reparser_of front c → o ≡ None → first_reparsable front next ≡ first_reparsable front l
passed front l next c o e asked is = sym (at_first front l next c o None e asked is)

pub hit : (front : Front) (l next : List Cursor) (c : Cursor) (o : Option Reparser) (r : Reparser) → l ≡ c ∷ next → o ≡ reparser_of front c → o ≡ Some r → Some (c, r) ≡ first_reparsable front l
hit front l next c o r e asked is = sym (at_first front l next c o (Some r) e asked is)

pub ran_out : (front : Front) (l : List Cursor) → l ≡ [] → None ≡ first_reparsable front l
ran_out front l e = sym (ap (first_reparsable front) e)
