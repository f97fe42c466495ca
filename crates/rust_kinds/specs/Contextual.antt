-- The words that are keywords in some places, by their first letter. Source: the Rust Reference,
-- "Keywords", on weak keywords, "Inline assembly" and "Conditional compilation"; the rest are those
-- of macros built into the compiler.
use Rattle.std.specs.Prelude.{ℕ, ◌&&◌, not, if◌then◌else◌, Option, Some, List, [], ◌∷◌, ◌++◌, bytes_eq, codes}
use Rattle.syntax_kind.specs.declared.syntax_kind.SyntaxKind.{SyntaxKind}
use Rattle.syntax_kind.specs.declared.syntax_kind.SyntaxKind.TheVariants.{Token, OTHER}
use Rattle.syntax_kind.specs.declared.syntax_kind.token_kind.TokenKind.TheVariants as token
use Rattle.ras_front_end.specs.declared.edition.Edition.{Edition}
use Rattle.rust_kinds.specs.Keywords.{is_2018_of, Words, find}

abbrev pub names_a : Words
names_a =
    (codes "asm", OTHER 10)
    ∷ (codes "att_syntax", OTHER 11)
    ∷ (codes "auto", Token token.AUTO_KW) ∷ []

abbrev pub names_b : Words
names_b = (codes "bikeshed", Token token.BIKESHED_KW) ∷ (codes "builtin", Token token.BUILTIN_KW) ∷ []

abbrev pub names_c : Words
names_c = (codes "cfg", OTHER 33) ∷ (codes "cfg_attr", OTHER 34) ∷ (codes "clobber_abi", OTHER 12) ∷ []

abbrev pub names_d : Words
names_d = (codes "default", Token token.DEFAULT_KW) ∷ []

abbrev pub names_f : Words
names_f = (codes "format_args", OTHER 13) ∷ []

abbrev pub names_g : Words
names_g = (codes "global_asm", OTHER 14) ∷ []

abbrev pub names_i : Words
names_i = (codes "inlateout", OTHER 15) ∷ (codes "inout", OTHER 16) ∷ []

abbrev pub names_l : Words
names_l = (codes "label", OTHER 17) ∷ (codes "lateout", OTHER 18) ∷ []

abbrev pub names_m : Words
names_m = (codes "macro_rules", Token token.MACRO_RULES_KW) ∷ (codes "may_unwind", OTHER 19) ∷ []

abbrev pub names_n : Words
names_n =
    (codes "naked_asm", OTHER 20)
    ∷ (codes "nomem", OTHER 21)
    ∷ (codes "noreturn", OTHER 22)
    ∷ (codes "nostack", OTHER 23) ∷ []

abbrev pub names_o : Words
names_o = (codes "offset_of", OTHER 24) ∷ (codes "options", OTHER 25) ∷ (codes "out", OTHER 26) ∷ []

abbrev pub names_p : Words
names_p = (codes "preserves_flags", OTHER 27) ∷ (codes "pure", OTHER 28) ∷ []

abbrev pub names_r : Words
names_r = (codes "raw", OTHER 29) ∷ (codes "readonly", OTHER 30) ∷ []

abbrev pub names_s : Words
names_s = (codes "safe", OTHER 31) ∷ (codes "sym", OTHER 32) ∷ []

abbrev pub names_u : Words
names_u = (codes "union", Token token.UNION_KW) ∷ []

abbrev pub names_y : Words
names_y = (codes "yeet", Token token.YEET_KW) ∷ []

abbrev pub contextual_words : Words
contextual_words =
    names_a
    ++ names_b
    ++ names_c
    ++ names_d
    ++ names_f
    ++ names_g
    ++ names_i
    ++ names_l
    ++ names_m
    ++ names_n
    ++ names_o
    ++ names_p
    ++ names_r
    ++ names_s
    ++ names_u
    ++ names_y

-- the kind of the word that the text is, in every edition
abbrev pub contextual_kind_of : List ℕ → Option SyntaxKind
contextual_kind_of text = find contextual_words text

-- and in one edition: `dyn` before 2018
abbrev pub contextual_keyword_of : Edition → List ℕ → Option SyntaxKind
contextual_keyword_of e text =
    if bytes_eq text (codes "dyn") && not (is_2018_of e) then Some (Token token.DYN_KW) else contextual_kind_of text
