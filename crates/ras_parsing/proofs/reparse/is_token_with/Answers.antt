use Rattle.std.proofs.Common.{◌∙◌, sym, subst, length}
use Rattle.std.specs.Prelude.{string_bytes}
use Rattle.std.specs.Char.{encode_utf8}
use Rattle.std.specs.Str.{IsCharBoundary}
use Rattle.std.proofs.lemmas.Str.{IsCharBoundary-at_seam, IsUtf8-encode}
use Rattle.ras_parsing.proofs.reparse.is_token_with.Goals as goal

pub truncate-requires : goal.truncate-requires
truncate-requires g c fits =
    let seam : IsCharBoundary (string_bytes c.push.new.self) (length (string_bytes c.args.text.now)) = IsCharBoundary-at_seam (string_bytes c.push.new.self) (string_bytes c.args.text.now) (encode_utf8 c.args.next) c.in_ok-push.ensures.bytes (IsUtf8-encode c.args.next c.ranges.next.0) in
    let at : IsCharBoundary (string_bytes c.push.new.self) c.len-length.result = subst (IsCharBoundary (string_bytes c.push.new.self)) (sym (c.len-length.ensures ∙ c.args.text.now.bytes.ok.0)) seam in
    (at.0, λ positive. at.1)
