use Rattle.std.proofs.Common.{◌≡◌, ◌∙◌, sym, ap}
use Rattle.syntax_kind.specs.Kinds.{kind_raw}
use Rattle.syntax_kind.specs.KindText.{hash_of, number_at}
use Rattle.syntax_kind.proofs.KindLaws.{number_at-kind_name}
use Rattle.syntax_kind.proofs.KindTable.{small-IsKind}
use Rattle.syntax_kind.proofs.syntax_kind.find.candidate.Goals as goal

pub returns : goal.returns
returns c = λ k small e.
    let number : kind_raw k ≡ number_at c.hash_of-hash.result =
    sym (number_at-kind_name k small) ∙ ap (λ name. number_at (hash_of name)) e ∙ ap (λ name. number_at (hash_of name))
    (sym c.as_bytes.ensures.value) ∙ ap number_at (sym c.hash_of-hash.ensures) in
    (c.from_raw.ensures.exact k (small-IsKind k small)).1 number
