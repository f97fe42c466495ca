-- A function that cuts a content into its pieces, and that the reader reports these.
use Rattle.std.proofs.Common.{◌≡◌, ℕ, ◌+◌, Bool, true, false, Option, Some, None, Result, Err, List, [], ◌∷◌, ◌++◌, refl, sym, ap, ◌∙◌, arith, subst, append_assoc, append-nil}
use Rattle.std.specs.Prelude.{if◌then◌else◌, ◌==◌}
use Rattle.std.specs.List.{list_any, flat_map}
use Rattle.std.specs.Char.{len_utf8, is_whitespace}
use Rattle.std.proofs.lemmas.List.Sums.{sum_by-append}
use Rattle.literal_escape.specs.declared.error.EscapeError.{EscapeError}
use Rattle.literal_escape.specs.declared.error.EscapeError.TheVariants.{MultipleSkippedLinesWarning, UnskippedWhitespaceWarning}
use Rattle.literal_escape.specs.declared.mode.Mode.{Mode}
use Rattle.literal_escape.specs.declared.mode.MixedUnit.{MixedUnit}
use Rattle.literal_escape.specs.declared.reader.Report.{Report}
use Rattle.literal_escape.specs.declared.reader.Reader.{Reader}
use Rattle.literal_escape.specs.declared.progress.State.{State}
use Rattle.literal_escape.specs.declared.progress.State.TheVariants as states
use Rattle.literal_escape.specs.declared.progress.Step.TheVariants.{Go, Unit as Ends}
use Rattle.literal_escape.specs.Literal.{is_blank}
use Rattle.literal_escape.specs.Pieces.{Begun, slash, slash_x, slash_x_digit, slash_u, slash_u_brace, slash_u_digits, Piece, faulty, continuation, front, spelling, IsCut, fault, size, lines_warning, white_warning, reports_from, OfReports}
use Rattle.literal_escape.specs.Reading.{step_of, is_over, has_lines, fresh_of, found, behind, past, warning_of, warned_of, read_report_of, read_of, end_fault_of, end_report_of, before, reports_of}
use Rattle.literal_escape.proofs.Partial.{Part, fresh, begun, blanks, Next, more, done, text, IsPart, after, state_of, unit_of, Sound, sound}

-- the piece that the content's end cuts off
abbrev pub ending : Part → List Piece
ending fresh = []
ending (begun b) = faulty b None ∷ []
ending (blanks bs) = continuation bs ∷ []

-- a continuation is over before a character that is no blank
abbrev pub gone : Part → ℕ → List Piece
gone fresh c = []
gone (begun b) c = []
gone (blanks bs) c = if is_blank c then [] else continuation bs ∷ []

abbrev pub left : Part → ℕ → Part
left fresh c = fresh
left (begun b) c = begun b
left (blanks bs) c = if is_blank c then blanks bs else fresh

abbrev pub finished : Next → List Piece
finished (more p) = []
finished (done q) = q ∷ []

abbrev pub going : Next → Part
going (more p) = p
going (done q) = fresh

-- the pieces of a part and the characters after it
unfoldable pub pieces_of : Mode → Part → List ℕ → List Piece
pieces_of mode p [] = ending p
pieces_of mode p (c ∷ cs) = gone p c ++ (finished (after mode (left p c) c) ++ pieces_of mode (going (after mode (left p c) c)) cs)

-- the reader that has read the part, which begins at this offset
abbrev pub reader : Mode → ℕ → Part → Reader
reader mode at p = record { mode = mode; start = at; at = at + size (text p); state = state_of p }

-- the pieces cut the characters, and their reports are those that the reader gives
pub record Works (mode : Mode) (p : Part) (cs : List ℕ) (ps : List Piece) : Type 0 where
  pub cut : IsCut mode (text p ++ cs) ps
  pub reports : (at : ℕ) → reports_from mode at ps ≡ reports_of (reader mode at p) cs

size-push : (xs : List ℕ) (c : ℕ) → size (xs ++ c ∷ []) ≡ size xs + len_utf8 c
size-push xs c = sum_by-append len_utf8 xs (c ∷ []) ∙ ap (λ n. size xs + n) (omega arith)

same_either : (b : Bool) (o : Option Report) → (if b then o else o) ≡ o
same_either true o = refl
same_either false o = refl

-- a character that ends no continuation
reports-plain : (r : Reader) (c : ℕ) (cs : List ℕ) → is_over r.state c ≡ false → reports_of r (c ∷ cs) ≡ before (read_report_of r c) (reports_of (read_of r c) cs)
unfolding reports_of warning_of warned_of
reports-plain r c cs e = rw e (rw e (rw (same_either (has_lines r.state) None) refl))

read-more : (mode : Mode) (at : ℕ) (p q : Part) (c : ℕ) → text q ≡ text p ++ c ∷ [] → step_of mode (state_of p) c ≡ Go (state_of q) → read_of (reader mode at p) c ≡ reader mode at q
unfolding read_of
read-more mode at p q c t s =
    let longer : (at + size (text p)) + len_utf8 c ≡ at + size (text q) = omega (arith, ap size t ∙ size-push (text p) c) in
    let moved : ℕ → Reader = λ n. record { mode = mode; start = at; at = n; state = state_of q } in
    ap (behind (past (reader mode at p) c)) s ∙ ap moved longer

report-more : (mode : Mode) (at : ℕ) (p : Part) (c : ℕ) (state : State) → step_of mode (state_of p) c ≡ Go state → read_report_of (reader mode at p) c ≡ None
unfolding read_report_of
report-more mode at p c state s = ap (found (past (reader mode at p) c)) s

read-done : (mode : Mode) (at end : ℕ) (p : Part) (c : ℕ) (unit : Result MixedUnit EscapeError) → end ≡ at + (size (text p) + len_utf8 c) → step_of mode (state_of p) c ≡ Ends unit
    → read_of (reader mode at p) c ≡ reader mode end fresh
unfolding read_of
read-done mode at end p c unit e s =
    let here : (at + size (text p)) + len_utf8 c ≡ end = omega (arith, e) in
    let zero_on : end ≡ end + size [] = omega arith in
    let both : ℕ → Reader = λ n. record { mode = mode; start = n; at = n; state = states.Start } in
    let moved : ℕ → Reader = λ n. record { mode = mode; start = end; at = n; state = states.Start } in
    ap (behind (past (reader mode at p) c)) s ∙ (ap both here ∙ ap moved zero_on)

report-done : (mode : Mode) (at end : ℕ) (p : Part) (c : ℕ) (unit : Result MixedUnit EscapeError) → end ≡ at + (size (text p) + len_utf8 c) → step_of mode (state_of p) c ≡ Ends unit
    → read_report_of (reader mode at p) c ≡ Some (record { start = at; end = end; unit = unit })
unfolding read_report_of
report-done mode at end p c unit e s =
    let here : ((at + size (text p)) + len_utf8 c) + 0 ≡ end = omega (arith, e) in
    let until : ℕ → Option Report = λ n. Some (record { start = at; end = n; unit = unit }) in
    ap (found (past (reader mode at p) c)) s ∙ ap until here

-- the rest of the work at a character that ends no continuation
taken : (mode : Mode) (p : Part) (c : ℕ) (cs : List ℕ) (next : Next) → is_over (state_of p) c ≡ false → Sound mode p c next
    → Works mode (going next) cs (pieces_of mode (going next) cs) → Works mode p (c ∷ cs) (finished next ++ pieces_of mode (going next) cs)
taken mode p c cs (more q) o s w = record {
  cut = subst (λ ds. IsCut mode ds (pieces_of mode q cs)) (ap (λ ds. ds ++ cs) s.1 ∙ append_assoc (text p) (c ∷ []) cs) w.cut;
  reports = λ at. w.reports at ∙ (ap (λ r. reports_of r cs) (sym (read-more mode at p q c s.1 s.2))
      ∙ sym (reports-plain (reader mode at p) c cs o ∙ ap (λ f. before f (reports_of (read_of (reader mode at p) c) cs)) (report-more mode at p c (state_of q) s.2)));
}
taken mode p c cs (done q) o s w = record {
  cut = (cs, sym (append_assoc (text p) (c ∷ []) cs) ∙ ap (λ ds. ds ++ cs) (sym s.0), s.1 cs, w.cut);
  reports = λ at.
      let end : at + size (spelling q) ≡ at + (size (text p) + len_utf8 c) = ap (λ n. at + n) (ap size s.0 ∙ size-push (text p) c) in
      let ps = pieces_of mode fresh cs in
      let one : Report = record { start = at; end = at + size (spelling q); unit = unit_of mode q } in
      ap (λ rs. rs ++ reports_from mode (at + size (spelling q)) ps) (s.3 at (flat_map spelling ps))
      ∙ (ap (λ rs. one ∷ rs) (w.reports (at + size (spelling q)) ∙ ap (λ r. reports_of r cs) (sym (read-done mode at (at + size (spelling q)) p c (unit_of mode q) end s.2)))
      ∙ sym (reports-plain (reader mode at p) c cs o ∙ ap (λ f. before f (reports_of (read_of (reader mode at p) c) cs)) (report-done mode at (at + size (spelling q)) p c (unit_of mode q) end s.2)));
}

-- the pieces of a cut, joined, are the content
pub cut-text : (mode : Mode) (cs : List ℕ) (ps : List Piece) → IsCut mode cs ps → flat_map spelling ps ≡ cs
cut-text mode cs [] h = sym h
cut-text mode cs (p ∷ ps) h = ap (λ ds. spelling p ++ ds) (cut-text mode h.0 ps h.3) ∙ sym h.1

-- the reports of a continuation before a character that is no blank, by whether it has lines and
-- whether white space follows
over-reports : (lines white : Bool) (r : Reader) (c m k : ℕ) (cs : List ℕ) → m ≡ r.at + 0 → k ≡ r.at + len_utf8 c → is_blank c ≡ false → is_whitespace c ≡ white
    → ((if lines then (record { start = r.start; end = m; unit = Err MultipleSkippedLinesWarning }) ∷ [] else [])
    ++ (if is_whitespace c then (record { start = r.start; end = k; unit = Err UnskippedWhitespaceWarning }) ∷ [] else [])) ++ reports_of (fresh_of r) (c ∷ cs)
    ≡ reports_of (record r { state = states.Continuation lines }) (c ∷ cs)
unfolding reports_of warning_of warned_of
over-reports true true r c m k cs em ek e w = rw (em, ek) (simp (e, w))
over-reports true false r c m k cs em ek e w = rw (em, ek) (simp (e, w))
over-reports false true r c m k cs em ek e w = rw ek (simp (e, w))
over-reports false false r c m k cs em ek e w = rw ek (simp (e, w))

-- a continuation that is over
continued : (mode : Mode) (bs : List ℕ) (c : ℕ) (cs : List ℕ) (ps : List Piece) → is_blank c ≡ false → IsPart mode (blanks bs)
    → Works mode fresh (c ∷ cs) ps → Works mode (blanks bs) (c ∷ cs) (continuation bs ∷ ps)
continued mode bs c cs ps e h w = record {
  cut = (c ∷ cs, refl, (h.0, h.1, e), w.cut);
  reports = λ at.
      let end = at + size (92 ∷ 10 ∷ bs) in
      let moved : ℕ → Reader = λ n. record { mode = mode; start = end; at = n; state = states.Start } in
      let zero_on : end + size [] ≡ end = omega arith in
      let all : end ≡ end + 0 = omega arith in
      let past_white : at + size ((92 ∷ 10 ∷ bs) ++ c ∷ []) ≡ end + len_utf8 c = omega (arith, size-push (92 ∷ 10 ∷ bs) c) in
      ap (λ ds. (lines_warning at bs ++ white_warning at bs ds) ++ reports_from mode end ps) (cut-text mode (c ∷ cs) ps w.cut)
      ∙ (ap (λ rs. (lines_warning at bs ++ white_warning at bs (c ∷ cs)) ++ rs) (w.reports end ∙ ap (λ r. reports_of r (c ∷ cs)) (ap moved zero_on))
      ∙ over-reports (list_any (λ d. d == 10) bs) (is_whitespace c) (reader mode at (blanks bs)) c end (at + size ((92 ∷ 10 ∷ bs) ++ c ∷ [])) cs all past_white e refl);
}

-- the end shows the fault of a front
end-fault : (b : Begun) → end_fault_of (state_of (begun b)) ≡ Some (fault b None)
end-fault slash = refl
end-fault slash_x = refl
end-fault (slash_x_digit a) = refl
end-fault slash_u = refl
end-fault slash_u_brace = refl
end-fault (slash_u_digits f m) = refl

end-begun : (mode : Mode) (at end : ℕ) (b : Begun) → end ≡ (at + size (front b)) + 0 → (record { start = at; end = end; unit = Err (fault b None) }) ∷ [] ≡ reports_of (reader mode at (begun b)) []
unfolding reports_of end_report_of
end-begun mode at end b e = rw (e, end-fault b) refl

end-fresh : (mode : Mode) (at : ℕ) → [] ≡ reports_of (reader mode at fresh) []
unfolding reports_of end_report_of
end-fresh mode at = refl

end-blanks : (lines : Bool) (r : Reader) (m : ℕ) → m ≡ r.at + 0
    → (if lines then (record { start = r.start; end = m; unit = Err MultipleSkippedLinesWarning }) ∷ [] else []) ≡ reports_of (record r { state = states.Continuation lines }) []
unfolding reports_of end_report_of
end-blanks true r m e = rw e refl
end-blanks false r m e = refl

-- the content's end
ends : (mode : Mode) (p : Part) → IsPart mode p → Works mode p [] (ending p)
ends mode fresh h = record { cut = refl; reports = λ at. end-fresh mode at }
ends mode (begun b) h = record {
  cut = ([], sym (append-nil (front b ++ [])), (h, refl), refl);
  reports = λ at. let end : at + size (front b ++ []) ≡ (at + size (front b)) + 0 = rw (append-nil (front b)) (omega arith) in end-begun mode at (at + size (front b ++ [])) b end;
}
ends mode (blanks bs) h = record {
  cut = ([], refl, (h.0, h.1, tt), refl);
  reports = λ at.
      let all : at + size (92 ∷ 10 ∷ bs) ≡ (at + size (92 ∷ 10 ∷ bs)) + 0 = omega arith in
      append-nil (lines_warning at bs ++ []) ∙ (append-nil (lines_warning at bs) ∙ end-blanks (list_any (λ d. d == 10) bs) (reader mode at (blanks bs)) (at + size (92 ∷ 10 ∷ bs)) all);
}

not_over : (b : Begun) (c : ℕ) → is_over (state_of (begun b)) c ≡ false
not_over slash c = refl
not_over slash_x c = refl
not_over (slash_x_digit a) c = refl
not_over slash_u c = refl
not_over slash_u_brace c = refl
not_over (slash_u_digits f m) c = refl

going-part : (mode : Mode) (p : Part) (c : ℕ) (next : Next) → Sound mode p c next → IsPart mode (going next)
going-part mode p c (more q) s = s.0
going-part mode p c (done q) s = tt

step : (mode : Mode) (p : Part) (c : ℕ) (cs : List ℕ) → IsPart mode p → is_over (state_of p) c ≡ false → ((q : Part) → IsPart mode q → Works mode q cs (pieces_of mode q cs))
    → Works mode p (c ∷ cs) (finished (after mode p c) ++ pieces_of mode (going (after mode p c)) cs)
step mode p c cs h o next = let s = sound mode p c h o in taken mode p c cs (after mode p c) o s (next (going (after mode p c)) (going-part mode p c (after mode p c) s))

blanks_by : (b : Bool) (mode : Mode) (bs : List ℕ) (c : ℕ) (cs : List ℕ) → is_blank c ≡ b → IsPart mode (blanks bs) → ((q : Part) → IsPart mode q → Works mode q cs (pieces_of mode q cs))
    → Works mode (blanks bs) (c ∷ cs) (gone (blanks bs) c ++ (finished (after mode (left (blanks bs) c) c) ++ pieces_of mode (going (after mode (left (blanks bs) c) c)) cs))
blanks_by true mode bs c cs e h next = rw e (step mode (blanks bs) c cs h (rw e refl) next)
blanks_by false mode bs c cs e h next = rw e (continued mode bs c cs _ e h (step mode fresh c cs tt refl next))

-- the function is right at each part
pub works : (cs : List ℕ) (mode : Mode) (p : Part) → IsPart mode p → Works mode p cs (pieces_of mode p cs)
unfolding pieces_of
works [] mode p h = ends mode p h
works (c ∷ cs) mode fresh h = step mode fresh c cs h refl (λ q k. works cs mode q k)
works (c ∷ cs) mode (begun b) h = step mode (begun b) c cs h (not_over b c) (λ q k. works cs mode q k)
works (c ∷ cs) mode (blanks bs) h = blanks_by (is_blank c) mode bs c cs refl h (λ q k. works cs mode q k)

-- what a reader at the start of a content still reports is what some cut of it does
pub starts : (mode : Mode) (cs : List ℕ) → OfReports mode cs (λ rs. reports_of (reader mode 0 fresh) cs ≡ rs)
starts mode cs = let w = works cs mode fresh tt in (pieces_of mode fresh cs, w.cut, sym (w.reports 0))
