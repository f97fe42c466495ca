-- A token as a row.
use Rattle.syntax_kind.specs.Kinds.{kind_raw}
use Rattle.token_layout.specs.declared.span.Token.{Token}
use Rattle.ras_c.specs.declared.tokens.TokenRow.{TokenRow}

abbrev pub token_row : Token → TokenRow
token_row t = record { kind = kind_raw t.kind; bytes = t.len }
