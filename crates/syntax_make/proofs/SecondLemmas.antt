-- A text that is misread at the first place.
use Rattle.std.proofs.Common.{◌≡◌, ℕ, List, true, false, Bool, Option, Some, None, inl, inr, refl, sym, subst}
use Rattle.syntax_kind.specs.declared.syntax_kind.SyntaxKind.{SyntaxKind}
use Rattle.tree_model.specs.Cursor.{Cursor}
use Rattle.ras_front_end.specs.declared.edition.Edition.{Edition}
use Rattle.ras_front_end.specs.Front.{Front}
use Rattle.syntax_make.specs.declared.place.Place.{Place}
use Rattle.syntax_make.specs.declared.error.MakeError.{MakeError}
use Rattle.syntax_make.specs.Places.{second_of}
use Rattle.syntax_make.specs.Failures.{is_misread}
use Rattle.syntax_make.specs.Made.{IsMadeIn, IsRefusedIn, IsMisreadIn, IsMadeSecond, IsMisreadSecond, IsStoppedSecond, IsMadeFrom, IsRefusedFrom}

misread_in : (front : Front) (edition : Edition) (place : Place) (casts : SyntaxKind → Bool) (s : List ℕ) (e : MakeError)
    → IsRefusedIn front edition place casts s e → is_misread e ≡ true → IsMisreadIn front edition place casts s
misread_in front edition place casts s e h m = record { error = e; refused = h; misread = m }

pub made_second : (front : Front) (edition : Edition) (place second : Place) (casts : SyntaxKind → Bool) (s : List ℕ) (e : MakeError) (made : Cursor)
    → IsRefusedIn front edition place casts s e → is_misread e ≡ true → second_of place ≡ Some second
    → IsMadeIn front edition second casts s made → IsMadeFrom front edition place casts s made
made_second front edition place second casts s e made h m is there =
    inr (misread_in front edition place casts s e h m, subst (λ (o : Option Place). IsMadeSecond front edition o casts s made) (sym is) there)

pub none_second : (front : Front) (edition : Edition) (place : Place) (casts : SyntaxKind → Bool) (s : List ℕ) (e : MakeError)
    → IsRefusedIn front edition place casts s e → is_misread e ≡ true → second_of place ≡ None
    → IsRefusedFrom front edition place casts s e
none_second front edition place casts s e h m is =
    inr (inl ((h, m), subst (λ (o : Option Place). IsMisreadSecond front edition o casts s) (sym is) tt))

pub misread_both : (front : Front) (edition : Edition) (place second : Place) (casts : SyntaxKind → Bool) (s : List ℕ) (e f : MakeError)
    → IsRefusedIn front edition place casts s e → is_misread e ≡ true → second_of place ≡ Some second
    → IsRefusedIn front edition second casts s f → is_misread f ≡ true → IsRefusedFrom front edition place casts s e
misread_both front edition place second casts s e f h m is there misread =
    inr (inl ((h, m), subst (λ (o : Option Place). IsMisreadSecond front edition o casts s) (sym is) (misread_in front edition second casts s f there misread)))

pub stopped_second : (front : Front) (edition : Edition) (place second : Place) (casts : SyntaxKind → Bool) (s : List ℕ) (e f : MakeError)
    → IsRefusedIn front edition place casts s e → is_misread e ≡ true → second_of place ≡ Some second
    → IsRefusedIn front edition second casts s f → is_misread f ≡ false → IsRefusedFrom front edition place casts s f
stopped_second front edition place second casts s e f h m is there stopped =
    inr (inr (misread_in front edition place casts s e h m, subst (λ (o : Option Place). IsStoppedSecond front edition o casts s f) (sym is) (there, stopped)))
