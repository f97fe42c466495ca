-- Names that are identifiers.
-- (Rust Reference, "Identifiers"; upstream: `utils::is_identifier`.)
use Rattle.std.specs.Prelude.{ℕ, List, [], ◌∷◌, Bool, false, not, ◌==◌, ◌&&◌, ◌||◌, Option, Some, None, is_some, codes}
use Rattle.std.specs.List.{list_all}
use Rattle.std.specs.Str.{chars, bytes_eq}
use Rattle.unicode_ident.specs.Ident.{is_xid_start, is_xid_continue}
use Rattle.syntax_kind.specs.declared.syntax_kind.SyntaxKind.{SyntaxKind}
use Rattle.ras_front_end.specs.declared.edition.Edition.{Edition}
use Rattle.ras_front_end.specs.Front.{Front}

abbrev pub starts_name : ℕ → Bool
starts_name c = (c == 95) || is_xid_start c

abbrev pub begins_name : List ℕ → Bool
begins_name [] = false
begins_name (c ∷ cs) = starts_name c

-- the first character can begin a name, and the others can continue it, as the first then can too
abbrev pub is_word : List ℕ → Bool
is_word s = begins_name (chars s) && list_all is_xid_continue (chars s)

abbrev pub is_strict : Front → Edition → Option SyntaxKind → Bool
is_strict front e None = false
is_strict front e (Some k) = front.is_strict e k

-- the bytes are a strict keyword
abbrev pub is_strict_word : Front → Edition → List ℕ → Bool
is_strict_word front e s = is_strict front e (front.word e s)

abbrev pub is_identifier_of : Front → Edition → List ℕ → Bool
is_identifier_of front e s = is_word s && not (is_strict_word front e s)

-- keywords that begin paths, which stay keywords after `r#`
abbrev pub is_path_word : List ℕ → Bool
is_path_word s = bytes_eq s (codes "self") || bytes_eq s (codes "crate") || bytes_eq s (codes "super") || bytes_eq s (codes "Self")

abbrev pub is_raw_identifier_of : Front → Edition → List ℕ → Bool
is_raw_identifier_of front e s = is_some (front.word e s) && not (is_path_word s)
