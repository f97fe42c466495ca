-- The ranges of pairs that can be removed together.
use Rattle.std.proofs.Common.{◌≡◌, ℕ, List, length, map, Option, None, Some, sym, ap, subst, ◌∙◌}
use Rattle.tree_model.specs.Cursor.{Cursor}
use Rattle.ras_front_end.specs.declared.edition.Edition.{Edition}
use Rattle.ras_front_end.specs.declared.edition.Entry.TheVariants.{SourceFile}
use Rattle.ras_front_end.specs.Parsed.{Parsed}
use Rattle.rust_front.specs.Front.{rust_front}
use Rattle.rust_parens.specs.declared.needless.Tried.{Tried}
use Rattle.rust_parens.specs.Needless.{AreTried, candidates_of}
use Rattle.ras_c.specs.declared.parens.Range.{Range}
use Rattle.ras_c.specs.Border.{edition_of}
use Rattle.ras_c.specs.Read.{IsReading}
use Rattle.ras_c.specs.Parens.{range_at, HasNeedless, Lists}

pub found : (edition : Edition) (parse : Parsed) (pairs : List Cursor) (tried : List Tried) (fixed : Option (List ℕ)) (ranges : List Range)
    → AreTried rust_front SourceFile edition parse pairs tried fixed → length tried ≡ length (candidates_of parse)
    → ranges ≡ map range_at pairs → HasNeedless edition parse (λ found. ranges ≡ found)
found edition parse pairs tried fixed ranges are all is = record {
  pairs = pairs;
  needless = record { tried = tried; fixed = fixed; are_tried = are; all = all };
  holds = is;
}

inside : Edition → Option Edition → Edition
inside e None = e
inside e (Some x) = x

pub lists : (year : ℕ) (text : List ℕ) (p : Parsed) (edition : Edition) (P : List Range → Type 0)
    → IsReading year text p → edition_of year ≡ Some edition → HasNeedless edition p P → Lists year text P
unfolding inside
lists year text p edition P r is has = record {
  edition = r.edition;
  edition_is = r.edition_is;
  parse = p;
  is_parse = r.parses;
  needless = subst (λ e. HasNeedless e p P) (ap (inside edition) (sym is ∙ r.edition_is)) has;
}

-- what holds of these ranges holds of those of the pairs
pub at_ranges : (year : ℕ) (text : List ℕ) (ranges : List Range) (P : List Range → Type 0)
    → Lists year text (λ found. ranges ≡ found) → P ranges → Lists year text P
at_ranges year text ranges P l h = record {
  edition = l.edition;
  edition_is = l.edition_is;
  parse = l.parse;
  is_parse = l.is_parse;
  needless = record {
    pairs = l.needless.pairs;
    needless = l.needless.needless;
    holds = subst P l.needless.holds h;
  };
}
