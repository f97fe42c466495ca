-- How the events of a piece end.
use Rattle.std.proofs.Common.{◌≡◌, true, false, List, [], ◌∷◌, ◌++◌, ap, sym, ◌∙◌}
use Rattle.std.specs.Prelude.{reverse}
use Rattle.std.proofs.lemmas.List.{reverse-append, reverse-reverse}
use Rattle.grammar_machine.specs.declared.event.Event.{Event}
use Rattle.grammar_machine.specs.declared.event.Event.TheVariants.{Token, Piece, Node, Error}
use Rattle.event_layout.specs.Ending.{says_last, closes_last, EndsInToken, EndsAreFound}

pub turned_one : (es : List Event) (e : Event) → reverse (es ++ e ∷ []) ≡ e ∷ reverse es
turned_one es e = reverse-append es (e ∷ [])

found : (es : List Event) → says_last es ≡ true → EndsInToken (reverse es)
found [] h = (let bad : false ≡ true = h in cc)
found (Token k signs ∷ es) h = record {
  body = reverse es;
  kind = k;
  signs = signs;
  is = reverse-append (Token k signs ∷ []) es;
}
found (Piece p last ∷ es) h = (let bad : false ≡ true = h in cc)
found (Node k from ∷ es) h = (let bad : false ≡ true = h in cc)
found (Error m ∷ es) h = (let bad : false ≡ true = h in cc)

pub ends_found : EndsAreFound
ends_found k from es h =
    let said : says_last (reverse es) ≡ true = sym (ap closes_last (turned_one es (Node k from))) ∙ h in
    let end = found (reverse es) said in
    record {
      body = end.body;
      kind = end.kind;
      signs = end.signs;
      is = sym (reverse-reverse es) ∙ end.is;
    }
