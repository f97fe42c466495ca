-- The keywords, strict and reserved, by their first letter. Source: the Rust Reference, "Keywords".
use Rattle.std.specs.Prelude.{ℕ, Bool, true, false, Option, List, [], ◌∷◌, ◌++◌, bytes_eq, codes}
use Rattle.std.specs.Map.{lookup}
use Rattle.syntax_kind.specs.declared.syntax_kind.SyntaxKind.{SyntaxKind}
use Rattle.syntax_kind.specs.declared.syntax_kind.SyntaxKind.TheVariants.{Token, OTHER}
use Rattle.syntax_kind.specs.declared.syntax_kind.token_kind.TokenKind.TheVariants as token
use Rattle.ras_front_end.specs.declared.edition.Edition.{Edition}
use Rattle.ras_front_end.specs.declared.edition.Edition.TheVariants.{Edition2015, Edition2024}

abbrev pub is_2018_of : Edition → Bool
is_2018_of Edition2015 = false
is_2018_of _ = true

abbrev pub is_2024_of : Edition → Bool
is_2024_of Edition2024 = true
is_2024_of _ = false

-- words, each with the kind of its token
abbrev pub Words : Type 0
Words = List (List ℕ × SyntaxKind)

-- the kind of the word that the text is
abbrev pub find : Words → List ℕ → Option SyntaxKind
find words text = lookup (bytes_eq text) words

abbrev pub since_2018 : Edition → Words → Words
since_2018 Edition2015 words = []
since_2018 _ words = words

abbrev pub since_2024 : Edition → Words → Words
since_2024 Edition2024 words = words
since_2024 _ words = []

abbrev pub words_upper_s : Words
words_upper_s = (codes "Self", Token token.SELF_TYPE_KW) ∷ []

abbrev pub words_a : Edition → Words
words_a e =
    (codes "abstract", OTHER 2) ∷ (codes "as", Token token.AS_KW)
    ∷ since_2018 e ((codes "async", Token token.ASYNC_KW) ∷ (codes "await", Token token.AWAIT_KW) ∷ [])

abbrev pub words_b : Words
words_b =
    (codes "become", Token token.BECOME_KW)
    ∷ (codes "box", OTHER 3)
    ∷ (codes "break", Token token.BREAK_KW) ∷ []

abbrev pub words_c : Words
words_c =
    (codes "const", Token token.CONST_KW)
    ∷ (codes "continue", Token token.CONTINUE_KW)
    ∷ (codes "crate", Token token.CRATE_KW) ∷ []

abbrev pub words_d : Edition → Words
words_d e = (codes "do", Token token.DO_KW) ∷ since_2018 e ((codes "dyn", Token token.DYN_KW) ∷ [])

abbrev pub words_e : Words
words_e =
    (codes "else", Token token.ELSE_KW)
    ∷ (codes "enum", Token token.ENUM_KW)
    ∷ (codes "extern", Token token.EXTERN_KW) ∷ []

abbrev pub words_f : Words
words_f =
    (codes "false", Token token.FALSE_KW)
    ∷ (codes "final", OTHER 4)
    ∷ (codes "fn", Token token.FN_KW)
    ∷ (codes "for", Token token.FOR_KW) ∷ []

abbrev pub words_g : Edition → Words
words_g e = since_2024 e ((codes "gen", Token token.GEN_KW) ∷ [])

abbrev pub words_i : Words
words_i =
    (codes "if", Token token.IF_KW)
    ∷ (codes "impl", Token token.IMPL_KW)
    ∷ (codes "in", Token token.IN_KW) ∷ []

abbrev pub words_l : Words
words_l = (codes "let", Token token.LET_KW) ∷ (codes "loop", Token token.LOOP_KW) ∷ []

abbrev pub words_m : Words
words_m =
    (codes "macro", Token token.MACRO_KW)
    ∷ (codes "match", Token token.MATCH_KW)
    ∷ (codes "mod", Token token.MOD_KW)
    ∷ (codes "move", Token token.MOVE_KW)
    ∷ (codes "mut", Token token.MUT_KW) ∷ []

abbrev pub words_o : Words
words_o = (codes "override", OTHER 5) ∷ []

abbrev pub words_p : Words
words_p = (codes "priv", OTHER 6) ∷ (codes "pub", Token token.PUB_KW) ∷ []

abbrev pub words_r : Words
words_r = (codes "ref", Token token.REF_KW) ∷ (codes "return", Token token.RETURN_KW) ∷ []

abbrev pub words_s : Words
words_s =
    (codes "self", Token token.SELF_KW)
    ∷ (codes "static", Token token.STATIC_KW)
    ∷ (codes "struct", Token token.STRUCT_KW)
    ∷ (codes "super", Token token.SUPER_KW) ∷ []

abbrev pub words_t : Edition → Words
words_t e =
    (codes "trait", Token token.TRAIT_KW) ∷ (codes "true", Token token.TRUE_KW) ∷ (codes "type", Token token.TYPE_KW) ∷ (codes "typeof", OTHER 7)
    ∷ since_2018 e ((codes "try", Token token.TRY_KW) ∷ [])

abbrev pub words_u : Words
words_u =
    (codes "unsafe", Token token.UNSAFE_KW)
    ∷ (codes "unsized", OTHER 8)
    ∷ (codes "use", Token token.USE_KW) ∷ []

abbrev pub words_v : Words
words_v = (codes "virtual", OTHER 9) ∷ []

abbrev pub words_w : Words
words_w = (codes "where", Token token.WHERE_KW) ∷ (codes "while", Token token.WHILE_KW) ∷ []

abbrev pub words_y : Words
words_y = (codes "yield", Token token.YIELD_KW) ∷ []

abbrev pub keywords : Edition → Words
keywords e =
    words_upper_s
    ++ words_a e
    ++ words_b
    ++ words_c
    ++ words_d e
    ++ words_e
    ++ words_f
    ++ words_g e
    ++ words_i
    ++ words_l
    ++ words_m
    ++ words_o
    ++ words_p
    ++ words_r
    ++ words_s
    ++ words_t e
    ++ words_u
    ++ words_v
    ++ words_w
    ++ words_y

-- the kind of the keyword that the text is
abbrev pub keyword_of : Edition → List ℕ → Option SyntaxKind
keyword_of e text = find (keywords e) text
