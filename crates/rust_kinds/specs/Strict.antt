-- The kinds of keywords. Source: the Rust Reference, "Keywords".
use Rattle.std.specs.Prelude.{Bool, true, false, ◌||◌, ◌==◌}
use Rattle.syntax_kind.specs.declared.syntax_kind.SyntaxKind.{SyntaxKind}
use Rattle.syntax_kind.specs.declared.syntax_kind.SyntaxKind.TheVariants.{Token, OTHER}
use Rattle.syntax_kind.specs.declared.syntax_kind.token_kind.TokenKind.TheVariants as token
use Rattle.ras_front_end.specs.declared.edition.Edition.{Edition}
use Rattle.rust_kinds.specs.Keywords.{is_2018_of, is_2024_of}

-- those reserved words that the table of further kinds has: abstract, box, final, override, priv,
-- typeof, unsized, virtual
abbrev pub is_reserved_kind_of : SyntaxKind → Bool
is_reserved_kind_of (OTHER n) = n == 2 || n == 3 || n == 4 || n == 5 || n == 6 || n == 7 || n == 8 || n == 9
is_reserved_kind_of _ = false

abbrev pub is_strict_kind_of : Edition → SyntaxKind → Bool
is_strict_kind_of e (Token token.SELF_TYPE_KW) = true
is_strict_kind_of e (Token token.AS_KW) = true
is_strict_kind_of e (Token token.BECOME_KW) = true
is_strict_kind_of e (Token token.BREAK_KW) = true
is_strict_kind_of e (Token token.CONST_KW) = true
is_strict_kind_of e (Token token.CONTINUE_KW) = true
is_strict_kind_of e (Token token.CRATE_KW) = true
is_strict_kind_of e (Token token.DO_KW) = true
is_strict_kind_of e (Token token.ELSE_KW) = true
is_strict_kind_of e (Token token.ENUM_KW) = true
is_strict_kind_of e (Token token.EXTERN_KW) = true
is_strict_kind_of e (Token token.FALSE_KW) = true
is_strict_kind_of e (Token token.FN_KW) = true
is_strict_kind_of e (Token token.FOR_KW) = true
is_strict_kind_of e (Token token.IF_KW) = true
is_strict_kind_of e (Token token.IMPL_KW) = true
is_strict_kind_of e (Token token.IN_KW) = true
is_strict_kind_of e (Token token.LET_KW) = true
is_strict_kind_of e (Token token.LOOP_KW) = true
is_strict_kind_of e (Token token.MACRO_KW) = true
is_strict_kind_of e (Token token.MATCH_KW) = true
is_strict_kind_of e (Token token.MOD_KW) = true
is_strict_kind_of e (Token token.MOVE_KW) = true
is_strict_kind_of e (Token token.MUT_KW) = true
is_strict_kind_of e (Token token.PUB_KW) = true
is_strict_kind_of e (Token token.REF_KW) = true
is_strict_kind_of e (Token token.RETURN_KW) = true
is_strict_kind_of e (Token token.SELF_KW) = true
is_strict_kind_of e (Token token.STATIC_KW) = true
is_strict_kind_of e (Token token.STRUCT_KW) = true
is_strict_kind_of e (Token token.SUPER_KW) = true
is_strict_kind_of e (Token token.TRAIT_KW) = true
is_strict_kind_of e (Token token.TRUE_KW) = true
is_strict_kind_of e (Token token.TYPE_KW) = true
is_strict_kind_of e (Token token.UNSAFE_KW) = true
is_strict_kind_of e (Token token.USE_KW) = true
is_strict_kind_of e (Token token.WHERE_KW) = true
is_strict_kind_of e (Token token.WHILE_KW) = true
is_strict_kind_of e (Token token.YIELD_KW) = true
is_strict_kind_of e (Token token.ASYNC_KW) = is_2018_of e
is_strict_kind_of e (Token token.AWAIT_KW) = is_2018_of e
is_strict_kind_of e (Token token.DYN_KW) = is_2018_of e
is_strict_kind_of e (Token token.GEN_KW) = is_2024_of e
is_strict_kind_of e (Token token.TRY_KW) = is_2018_of e
is_strict_kind_of e k = is_reserved_kind_of k
