use Rattle.std.proofs.Common.{◌≡◌, ◌<◌, ◌&&◌, ◌||◌, true, false, not, suc, length, sym, ap, subst, ◌∙◌}
use Rattle.syntax_kind.specs.Kinds.{is_trivia}
use Rattle.tree_model.specs.declared.direction.Direction.TheVariants.{Prev}
use Rattle.tree_model.specs.Tree.{kind_of}
use Rattle.tree_model.specs.Cursor.{focus}
use Rattle.tree_model.specs.NearestToken.{tokens_beyond}
use Rattle.operator_terms.specs.Reading.{is_as, is_name}
use Rattle.operator_powers.proofs.LastTokens.{Unread, standing, unread_all, past_trivia, past_name, decided, none_left, fewer_to_read, to_read}
use Rattle.operator_powers.proofs.ending.ends_in_cast.Goals as goal
use Rattle.operator_powers.proofs.ending.ends_in_cast.Goals.{then-not-is_trivia+else-decides, else-not-is_trivia}

pub loop-next-init : goal.loop-next-init
loop-next-init c = record { first = c.first_token-first.ensures; unread = unread_all c.args.node.now c.last_token-next.result c.last_token-next.ensures }

pub returns-then-decides : goal.returns-then-decides
returns-then-decides c =
    let s = standing c.args.node.now c.in-Some.token c.loop-next.next c.loop-next.named c.in-Some.is c.loop-next.invariant.unread in
    let trivia : is_trivia (kind_of (focus c.in-Some.token)) ≡ false = sym (ap is_trivia c.kind-kind.ensures) ∙ sym c.is_trivia.ensures
    ∙ c.if-not-is_trivia.true in
    let stops : (c.loop-next.named || not (is_name (kind_of (focus c.in-Some.token)))) ≡ true =
    sym (ap (λ k. c.loop-next.named || not (is_name k)) c.kind-kind.ensures) ∙ sym c.decides.ensures ∙ c.if-decides.true in
    let said = decided c.args.node.now c.in-Some.token c.loop-next.named s trivia stops in
    c.is_cast_word.ensures ∙ (ap (λ k. c.loop-next.named && is_as k) c.kind-kind.ensures ∙ said)

pub loop-next-smaller : goal.loop-next-smaller
loop-next-smaller c =
    let s = standing c.args.node.now c.in-Some.token c.loop-next.next c.loop-next.named c.in-Some.is c.loop-next.invariant.unread in
    let nearest = c.token_before-next.ensures c.args.node.now s.before s.after c.placed.ensures.placed.is_place s.parts c.loop-next.invariant.first in
    let fewer = fewer_to_read c.tokens_stand_together.ensures c.args.node.now c.in-Some.token s.before s.after c.placed.ensures.placed.is_place s.parts in
    let named : to_read c.token_before-next.result < suc (length (tokens_beyond Prev c.in-Some.token)) = subst (λ n. to_read n < suc (length (tokens_beyond Prev c.in-Some.token))) (sym nearest) fewer in
    subst (λ n. to_read c.token_before-next.result < to_read n) (sym c.in-Some.is) named

pub loop-next-preserved : goal.loop-next-preserved
loop-next-preserved c =
    let s = standing c.args.node.now c.in-Some.token c.loop-next.next c.loop-next.named c.in-Some.is c.loop-next.invariant.unread in
    let nearest = c.token_before-next.ensures c.args.node.now s.before s.after c.placed.ensures.placed.is_place s.parts c.loop-next.invariant.first in
    record {
      first = c.loop-next.invariant.first;
      unread = elim c.if-not-is_trivia.branch [
        | then-not-is_trivia+else-decides w ↦
            (let trivia : is_trivia (kind_of (focus c.in-Some.token)) ≡ false = sym (ap is_trivia c.kind-kind.ensures) ∙ sym c.is_trivia.ensures ∙ w.if-not-is_trivia.true in
            let goes : (c.loop-next.named || not (is_name (kind_of (focus c.in-Some.token)))) ≡ false =
            sym (ap (λ k. c.loop-next.named || not (is_name k)) c.kind-kind.ensures) ∙ sym w.decides.ensures ∙ w.if-decides.false in
            subst (Unread c.args.node.now c.token_before-next.result) (sym w.named-is)
            (past_name c.args.node.now c.in-Some.token c.token_before-next.result c.loop-next.named s trivia goes nearest))
        | else-not-is_trivia w ↦
            (let trivia : is_trivia (kind_of (focus c.in-Some.token)) ≡ true = sym (ap is_trivia c.kind-kind.ensures) ∙ sym c.is_trivia.ensures ∙ w.if-not-is_trivia.false in
            subst (Unread c.args.node.now c.token_before-next.result) (sym w.named-is)
            (past_trivia c.args.node.now c.in-Some.token c.token_before-next.result c.loop-next.named s trivia nearest))
      ];
    }

pub returns : goal.returns
returns c = none_left c.args.node.now c.loop-next.next c.loop-next.named c.in_default.is c.loop-next.invariant.unread
