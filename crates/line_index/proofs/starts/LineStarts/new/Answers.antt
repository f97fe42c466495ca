use Rattle.std.proofs.Common.{◌≡◌, [], ◌∷◌, ◌++◌, subst, sym, ap, ◌∙◌, refl}
use Rattle.line_index.specs.Lines.{HasStarts, starts_after}
use Rattle.line_index.proofs.StartLemmas.{starts_of_text}
use Rattle.line_index.proofs.starts.LineStarts.new.Goals as goal

pub invariant_of-result : goal.invariant_of-result
invariant_of-result c =
    let text = c.args.text.now in
    let items : c.push_starts.new.starts.items ≡ 0 ∷ starts_after 0 text = c.in_ok-push_starts.ensures ∙ ap (λ l. l ++ starts_after 0 text) (c.in_ok-push.ensures.items ∙ ap (λ l. l ++ 0 ∷ []) c.new-starts.ensures.items) in
    record { text = text; is = record { starts = subst (HasStarts text) (sym items) (starts_of_text text); len = refl } }

pub returns : goal.returns
returns c =
    let text = c.args.text.now in
    let items : c.push_starts.new.starts.items ≡ 0 ∷ starts_after 0 text = c.in_ok-push_starts.ensures ∙ ap (λ l. l ++ starts_after 0 text) (c.in_ok-push.ensures.items ∙ ap (λ l. l ++ 0 ∷ []) c.new-starts.ensures.items) in
    record { starts = subst (HasStarts text) (sym items) (starts_of_text text); len = refl }
