-- Refusals as statuses, and the number of matches with the new text.
use Rattle.std.proofs.Common.{◌≡◌, ◌∙◌, ◌⊎◌, ℕ, List, length, map, Bool, false, inl, inr, sym, ap, subst, arith}
use Rattle.std.proofs.lemmas.List.{length-map}
use Rattle.tree_model.specs.Cursor.{Cursor}
use Rattle.tree_model.specs.Edit.{root_of}
use Rattle.text_edit.specs.Replacements.{Replacement}
use Rattle.ras_front_end.specs.declared.edition.Edition.{Edition}
use Rattle.ras_front_end.specs.Parsed.{Parsed}
use Rattle.rust_front.specs.Front.{rust_front}
use Rattle.tree_match.specs.declared.rule.Rule.{Rule}
use Rattle.tree_match.specs.declared.places.Match.{Match}
use Rattle.tree_match.specs.Finds.{Occurrence, occurrence_of}
use Rattle.rust_rewrite.specs.declared.refusal.RewriteError.{RewriteError}
use Rattle.rust_rewrite.specs.declared.refusal.RewriteError.TheVariants.{ReadsOtherwise, LosesComment, TooLong, Memory}
use Rattle.rust_rewrite.specs.Rewrites.{IsRewrite, IsRefused, WithoutNeedless, loses_comment}
use Rattle.ras_c.specs.Rewriting.{AreRules, Becomes, HasNew, InFile, IsNewText, IsRefusedAs, has_bare, status_of}

pub refused_as : (rules : List Rule) (root : Cursor) (e : RewriteError) (s : ℕ) → IsRefused rules root e → s ≡ status_of e → IsRefusedAs rules root s
refused_as rules root ReadsOtherwise s h is = record { lost = λ q. absurd (omega (arith, is, q)); otherwise = λ _. h }
refused_as rules root LosesComment s h is = record { lost = λ _. h; otherwise = λ q. absurd (omega (arith, is, q)) }
refused_as rules root TooLong s h is = record { lost = λ q. absurd (omega (arith, is, q)); otherwise = λ q. absurd (omega (arith, is, q)) }
refused_as rules root Memory s h is = record { lost = λ q. absurd (omega (arith, is, q)); otherwise = λ q. absurd (omega (arith, is, q)) }

pub one_of : (e : RewriteError) (s : ℕ) → s ≡ status_of e → (s ≡ 2) ⊎ (s ≡ 3) ⊎ (s ≡ 15) ⊎ (s ≡ 16)
one_of ReadsOtherwise s is = inr (inr (inr is))
one_of LosesComment s is = inr (inr (inl is))
one_of TooLong s is = inl is
one_of Memory s is = inr (inl is)

pub is_new : (edition : Edition) (rules : List Rule) (p : Parsed) (matches : List Match) (count : ℕ) (edit : List Replacement) (new : List ℕ)
    → IsRewrite rust_front edition rules p (map occurrence_of matches) edit new → WithoutNeedless rust_front edition new
    → loses_comment rules (root_of p.tree) ≡ false → count ≡ length matches → IsNewText edition rules p count new
is_new edition rules p matches count edit new r w kept counted = record {
  edit = edit;
  rewrite = subst (λ (ms : List Occurrence). IsRewrite rust_front edition rules p ms edit new) r.matches r;
  needless = w;
  kept = kept;
  counted = counted ∙ sym (length-map matches occurrence_of) ∙ ap length r.matches;
}

-- what holds of these holds of the number of matches and of the new text
pub becomes : (lines : Bool) (s : List ℕ) (year : ℕ) (text : List ℕ) (rules : List Rule) (number : ℕ) (bytes : List ℕ) (P : ℕ → List ℕ → Type 0)
    → AreRules lines s rules → has_bare rules ≡ false → InFile year text (λ p. HasNew year rules p (λ n new. (n ≡ number) × (new ≡ bytes)))
    → P number bytes → Becomes lines s year text P
becomes lines s year text rules number bytes P are full (p, is, has) h =
    let there : P has.count has.new = subst (λ new. P has.count new) (sym has.holds.1) (subst (λ n. P n bytes) (sym has.holds.0) h) in
    let has' : HasNew year rules p P = record {
      edition = has.edition;
      edition_is = has.edition_is;
      count = has.count;
      new = has.new;
      is_new = has.is_new;
      holds = there;
    } in record { rules = rules; are_rules = (are, full); new = (p, is, has') }
