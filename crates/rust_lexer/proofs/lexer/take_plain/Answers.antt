use Rattle.std.proofs.Common.{◌∙◌, ◌++◌, [], ◌∷◌, sym, ap, ℕ, List, drop}
use Rattle.rust_lexer.specs.Lexing.{lexing_of, size_of}
use Rattle.rust_lexer.proofs.Steps.{lexing_made, taken_plain}
use Rattle.rust_lexer.proofs.lexer.take_plain.Goals as goal

pub returns : goal.returns
returns c = λ (text : List ℕ).
    let before = c.args.lexed.now.tokens.items in
    let pushed = c.in_ok-push.ensures ∙ ap (λ (n : ℕ). before ++ (record { kind = c.args.kind; len = n }) ∷ []) c.size-len.ensures in
    lexing_made c.push.new.tokens.items (before ++ (record { kind = c.args.kind; len = size_of c.args.len }) ∷ []) c.args.lexed.now.errors.items c.split_at.result.1.now (drop c.args.len c.args.rest.now) pushed c.split_at.ensures.back
    ∙ sym (taken_plain text c.args.kind c.args.len (lexing_of c.args.lexed.now c.args.rest.now) c.requires)
