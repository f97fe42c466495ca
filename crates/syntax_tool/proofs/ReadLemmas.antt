-- The lines of a text, read one after another.
use Rattle.std.proofs.Common.{◌≡◌, ◌≢◌, ℕ, ◌+◌, ◌<◌, ◌⊎◌, inl, inr, List, [], ◌∷◌, ◌++◌, length, get_or, drop, refl, sym, ap, subst, ◌∙◌, arith, append_assoc, append-nil, length-append}
use Rattle.std.specs.Prelude.{Result, Ok, Err, IsUtf8, ◌==◌, if◌then◌else◌}
use Rattle.std.proofs.Math.Seq.{get_or-append_seam, drop-append_seam}
use Rattle.std.proofs.lemmas.List.{drop-drop}
use Rattle.std.proofs.lemmas.Str.{IsUtf8-drop, IsUtf8-nil, IsCharBoundary-after_ascii}
use Rattle.std.proofs.lemmas.Bool.Decides.{nat_tests}
use Rattle.tree_model.specs.Events.{Event}
use Rattle.ras_parsing.specs.Draft.{Draft}
use Rattle.syntax_tool.specs.declared.refusal.Refusal.{Refusal}
use Rattle.syntax_tool.specs.declared.refusal.Refusal.TheVariants.{Memory}
use Rattle.syntax_tool.specs.Lines.{HasNo, IsCut, lines_of, onto_first, ReadsLine, ReadsLines, behind, AppendsEvent, RefusesLine}

if_newline : {A : Type 0} (n : ℕ) (x y : A) → n ≡ 10 → (if n == 10 then x else y) ≡ x
if_newline n x y h = grind (arith, nat_tests)

if_other : {A : Type 0} (n : ℕ) (x y : A) → n ≢ 10 → (if n == 10 then x else y) ≡ y
if_other n x y h = grind (arith, nat_tests)

-- the first line, and those after its newline
lines_of-line : (line after : List ℕ) → HasNo 10 line → lines_of (line ++ 10 ∷ after) ≡ line ∷ lines_of after
lines_of-line [] after h = if_newline 10 ([] ∷ lines_of after) (onto_first 10 (lines_of after)) refl
lines_of-line (b ∷ line) after h = if_other b ([] ∷ lines_of (line ++ 10 ∷ after)) (onto_first b (lines_of (line ++ 10 ∷ after))) h.0 ∙ ap (onto_first b) (lines_of-line line after h.1)

lines_of-last : (line : List ℕ) → HasNo 10 line → lines_of line ≡ line ∷ []
lines_of-last [] h = refl
lines_of-last (b ∷ line) h = if_other b ([] ∷ lines_of line) (onto_first b (lines_of line)) h.0 ∙ ap (onto_first b) (lines_of-last line h.1)

behind-behind : (es : List Event) (e : Event) (r : Result (List Event) Refusal) → behind es (behind (e ∷ []) r) ≡ behind (es ++ e ∷ []) r
behind-behind es e (Ok fs) = ap Ok (sym (append_assoc es (e ∷ []) fs))
behind-behind es e (Err x) = refl

-- what reads from a line on
OfLines : List (List ℕ) → List ℕ → List (List ℕ) → Type 0
OfLines whole line lines = (r : Result (List Event) Refusal) → ReadsLines (line ∷ lines) r → ReadsLines whole r

module _ (whole : List (List ℕ)) (line after text : List ℕ) (cut : IsCut 10 text line after) where
  -- the reading of the text, by its first line
  by_line : (r : Result (List Event) Refusal) → ReadsLines (line ∷ lines_of after) r → ReadsLines (lines_of text) r
  by_line r h = by_cut line after text cut r h
    where
      by_last : (line : List ℕ) (r : Result (List Event) Refusal) → ReadsLines (line ∷ ([] ∷ [])) r → ReadsLines (line ∷ []) r
      by_last [] r h = h
      by_last (b ∷ line) r h = h

      by_cut : (line after text : List ℕ) → IsCut 10 text line after → (r : Result (List Event) Refusal) → ReadsLines (line ∷ lines_of after) r → ReadsLines (lines_of text) r
      by_cut line after text (lacks, inl is) r h = subst (λ l. ReadsLines l r) (sym (ap lines_of is ∙ lines_of-line line after lacks)) h
      by_cut line after text (lacks, inr last) r h =
          subst (λ l. ReadsLines l r) (sym (ap lines_of last.0 ∙ lines_of-last line lacks)) (by_last line r (subst (λ l. ReadsLines (line ∷ lines_of l) r) last.1 h))

  pub after_empty : (es : List Event) → length line ≡ 0 → ((r : Result (List Event) Refusal) → ReadsLines (lines_of text) r → ReadsLines whole (behind es r)) → (r : Result (List Event) Refusal) → ReadsLines (lines_of after) r → ReadsLines whole (behind es r)
  after_empty es empty h r k = h r (by_line r (empty_line line empty k))
    where
      empty_line : (line : List ℕ) → length line ≡ 0 → ReadsLines (lines_of after) r → ReadsLines (line ∷ lines_of after) r
      empty_line [] e k = k
      empty_line (b ∷ line) e k = absurd (omega (arith, e))

  pub after_event : (d f : Draft) → 0 < length line → AppendsEvent line d f → ((r : Result (List Event) Refusal) → ReadsLines (lines_of text) r → ReadsLines whole (behind d.events r)) → (r : Result (List Event) Refusal) → ReadsLines (lines_of after) r → ReadsLines whole (behind f.events r)
  after_event d f some (e, reads, is) h r k =
      subst (λ (l : Draft). ReadsLines whole (behind l.events r)) (sym is) (subst (ReadsLines whole) (behind-behind d.events e r) (h (behind (e ∷ []) r) (by_line (behind (e ∷ []) r) (event_line line some reads))))
    where
      event_line : (line : List ℕ) → 0 < length line → ReadsLine line (Ok e) → ReadsLines (line ∷ lines_of after) (behind (e ∷ []) r)
      event_line [] s d = absurd (omega (arith, s))
      event_line (b ∷ line) s d = inl (e, r, d, k, refl)

  pub after_refusal : (es : List Event) (x : Refusal) → 0 < length line → RefusesLine line x → ((r : Result (List Event) Refusal) → ReadsLines (lines_of text) r → ReadsLines whole (behind es r)) → (x ≡ Memory) ⊎ ReadsLines whole (Err x)
  after_refusal es x some (inl memory) h = inl memory
  after_refusal es x some (inr reads) h = inr (h (Err x) (by_line (Err x) (refused_line line some reads)))
    where
      refused_line : (line : List ℕ) → 0 < length line → ReadsLine line (Err x) → ReadsLines (line ∷ lines_of after) (Err x)
      refused_line [] s d = absurd (omega (arith, s))
      refused_line (b ∷ line) s d = inr (x, d, refl)

-- no error comes with an event
pub no_fault : (line : List ℕ) (d f : Draft) → AppendsEvent line d f → d.faults ≡ [] → f.faults ≡ []
no_fault line d f (e, reads, is) h = ap (λ (l : Draft). l.faults) is ∙ h

-- nothing follows the last line
pub read_all : (whole : List (List ℕ)) (text : List ℕ) (es : List Event) → length text ≡ 0 → ((r : Result (List Event) Refusal) → ReadsLines (lines_of text) r → ReadsLines whole (behind es r)) → ReadsLines whole (Ok es)
read_all whole [] es empty h = subst (λ l. ReadsLines whole (Ok l)) (append-nil es) (h (Ok []) refl)
read_all whole (b ∷ text) es empty h = absurd (omega (arith, empty))

-- at the start nothing has been read
pub read_none : (whole : List (List ℕ)) (es : List Event) → es ≡ [] → (r : Result (List Event) Refusal) → ReadsLines whole r → ReadsLines whole (behind es r)
read_none whole es empty r h = subst (λ l. ReadsLines whole (behind l r)) (sym empty) (same r h)
  where
    same : (r : Result (List Event) Refusal) → ReadsLines whole r → ReadsLines whole (behind [] r)
    same (Ok fs) h = h
    same (Err x) h = h

-- what follows the first line is shorter
pub cut_shorter : (text line after : List ℕ) → IsCut 10 text line after → 0 < length text → length after < length text
cut_shorter text line after (lacks, inl is) some = omega (arith, ap length is, length-append line (10 ∷ after))
cut_shorter text line after (lacks, inr last) some = omega (arith, ap length last.1, some)

-- what follows the first line is text
pub cut_is_text : (text line after : List ℕ) → IsCut 10 text line after → IsUtf8 text → IsUtf8 after
cut_is_text text line after (lacks, inl is) u =
    let there : get_or text (length line) 0 ≡ 10 = ap (λ l. get_or l (length line) 0) is ∙ get_or-append_seam line 10 after 0 in
    let within : length line < length text = omega (arith, ap length is, length-append line (10 ∷ after)) in
    let rest : drop (length line + 1) text ≡ after = ap (λ l. drop (length line + 1) l) is ∙ sym (drop-drop 1 (length line) (line ++ 10 ∷ after)) ∙ ap (drop 1) (drop-append_seam line (10 ∷ after)) in
    subst IsUtf8 rest (IsUtf8-drop text (length line + 1) u (IsCharBoundary-after_ascii text (length line) u within (omega (arith, there))))
cut_is_text text line after (lacks, inr last) u = subst IsUtf8 (sym last.1) IsUtf8-nil
