-- The surroundings in which a text is parsed.
use Rattle.std.specs.Prelude.{ℕ, Bool, List, [], ◌++◌, Option, Some, None, option_map, codes}
use Rattle.std.specs.List.{find}
use Rattle.syntax_kind.specs.declared.syntax_kind.SyntaxKind.{SyntaxKind}
use Rattle.syntax_make.specs.declared.place.Place.{Place}
use Rattle.syntax_make.specs.declared.place.Place.TheVariants.{Stmt, File, Expr, Condition, Ty, Pat, Name, Lifetime, Binder, GenericArgs, GenericArg, GenericParams, GenericParam, Bounds, Params, Param, ClosureParam, Result, WherePred, RecordFields, RecordField, TupleFields, TupleField, Variant, Variants, Head, Meta, Arms, Arm, Guard, Args, RecordExprField, RecordExprFields, RecordPatField, RecordPatFields, UseTree, UseTrees, Rename, LetElse, Label, Items, AssocItems, ExternItems, Tokens}
use Rattle.syntax_make.specs.declared.place.TheConstants.{PLACES}

-- what stands before the text
abbrev pub before_of : Place → List ℕ
before_of Stmt = codes "fn f() { "
before_of File = []
before_of Expr = codes "const C: () = "
before_of Condition = codes "fn f() { while "
before_of Ty = codes "type T = "
before_of Pat = codes "fn f() { match x { "
before_of Name = codes "mod "
before_of Lifetime = codes "type T = &"
before_of Binder = codes "type T = "
before_of GenericArgs = codes "type T = T"
before_of GenericArg = codes "type T = T<"
before_of GenericParams = codes "fn f"
before_of GenericParam = codes "fn f<"
before_of Bounds = codes "fn f<T: "
before_of Params = codes "fn f"
before_of Param = codes "fn f("
before_of ClosureParam = codes "const C: () = |"
before_of Result = codes "fn f() "
before_of WherePred = codes "fn f() where "
before_of RecordFields = codes "struct S "
before_of RecordField = codes "struct S { "
before_of TupleFields = codes "struct S"
before_of TupleField = codes "struct S("
before_of Variant = codes "enum E { "
before_of Variants = codes "enum E "
before_of Head = []
before_of Meta = codes "#["
before_of Arms = codes "fn f() { match x "
before_of Arm = codes "fn f() { match x { "
before_of Guard = codes "fn f() { match x { _ "
before_of Args = codes "const C: () = f"
before_of RecordExprField = codes "const C: () = S { "
before_of RecordExprFields = codes "const C: () = S "
before_of RecordPatField = codes "fn f() { match x { S { "
before_of RecordPatFields = codes "fn f() { match x { S "
before_of UseTree = codes "use "
before_of UseTrees = codes "use a::"
before_of Rename = codes "use a "
before_of LetElse = codes "fn f() { let x = y "
before_of Label = codes "fn f() { "
before_of Items = codes "mod m "
before_of AssocItems = codes "impl T "
before_of ExternItems = codes "extern \"C\" "
before_of Tokens = codes "const C: () = m!"

-- what stands after it
abbrev pub after_of : Place → List ℕ
after_of Stmt = codes " 0 }"
after_of File = []
after_of Expr = codes ";"
after_of Condition = codes " {} }"
after_of Ty = codes ";"
after_of Pat = codes " => {} } }"
after_of Name = codes ";"
after_of Lifetime = codes " T;"
after_of Binder = codes " fn();"
after_of GenericArgs = codes ";"
after_of GenericArg = codes ">;"
after_of GenericParams = codes "() {}"
after_of GenericParam = codes ">() {}"
after_of Bounds = codes ">() {}"
after_of Params = codes " {}"
after_of Param = codes ") {}"
after_of ClosureParam = codes "| ();"
after_of Result = codes " {}"
after_of WherePred = codes " {}"
after_of RecordFields = []
after_of RecordField = codes " }"
after_of TupleFields = codes ";"
after_of TupleField = codes ");"
after_of Variant = codes " }"
after_of Variants = []
after_of Head = codes "\nfn f() {}"
after_of Meta = codes "]\nfn f() {}"
after_of Arms = codes " }"
after_of Arm = codes " } }"
after_of Guard = codes " => {} } }"
after_of Args = codes ";"
after_of RecordExprField = codes " };"
after_of RecordExprFields = codes ";"
after_of RecordPatField = codes " } => {} } }"
after_of RecordPatFields = codes " => {} } }"
after_of UseTree = codes ";"
after_of UseTrees = codes ";"
after_of Rename = codes ";"
after_of LetElse = codes "; }"
after_of Label = codes " loop {} }"
after_of Items = []
after_of AssocItems = []
after_of ExternItems = []
after_of Tokens = codes ";"

-- where a text is tried that is misread there: an expression as a condition, which may have a
-- `let`, and a parameter as one of a closure
abbrev pub second_of : Place → Option Place
second_of Expr = Some Condition
second_of Param = Some ClosureParam
second_of _ = None

-- the text in its surroundings
abbrev pub in_place : Place → List ℕ → List ℕ
in_place p s = before_of p ++ s ++ after_of p

-- the place of the first row whose kind is one of these
abbrev pub place_in : (SyntaxKind → Bool) → List (SyntaxKind × Place) → Option Place
place_in casts rows = option_map (λ row. row.1) (find (λ row. casts row.0) rows)

-- where the text of a node of these kinds stands; None if no such node can be made
unfoldable pub place_of : (SyntaxKind → Bool) → Option Place
place_of casts = place_in casts PLACES
