-- What the lexer has read is cut into its tokens and the text of the one that it reads.
use Rattle.std.proofs.Common.{◌≡◌, ℕ, ◌+◌, ◌-◌, ◌≤◌, ◌<◌, ◌^◌, List, [], ◌∷◌, ◌++◌, length, take, drop, ap, sym, ◌∙◌, refl, arith, subst, Option, Some, None, append_assoc, append-nil, length-append, Bool, true, false, ◌&&◌, if◌then◌else◌}
use Rattle.std.specs.Prelude.{IsUtf8, All, nat_lt}
use Rattle.std.specs.Char.{encode_utf8}
use Rattle.std.specs.Str.{chars}
use Rattle.std.proofs.Math.Utf8.{encodes, scalars, scalar}
use Rattle.std.proofs.Math.Nat.{min-le_left, le-min}
use Rattle.std.proofs.Math.Seq.{take-append_seam, drop-append_seam}
use Rattle.std.proofs.lemmas.Bool.Decides.{nat_tests}
use Rattle.std.proofs.lemmas.Str.{IsUtf8-append, IsUtf8-nil, IsUtf8-encode, encodes-chars, scalars-chars}
use Rattle.std.proofs.lemmas.List.Elements.{All-append, All-cons, All-nil}
use Rattle.ras_front_end.specs.declared.edition.Edition.{Edition}
use Rattle.token_layout.specs.declared.span.Token.{Token}
use Rattle.token_layout.specs.Laid.{IsCut}
use Rattle.tiny_lexer.specs.declared.lexer.Complaint.{Complaint}
use Rattle.tiny_lexer.specs.declared.scan.Scan.{Scan}
use Rattle.tiny_lexer.specs.declared.scan.Problem.{Problem}
use Rattle.tiny_lexer.specs.Scans.{scan_kind_of, problem_of}
use Rattle.tiny_lexer.specs.Lexing.{Lexing, size_of, later_of, report_of, end_with, end_of, feed_of, feed_on, next_of, feeds, fresh, tokens_of}
use Rattle.tiny_lexer.specs.Cut.{ComplaintLiesIn, IsLexed}

-- the tokens split the text, one after another
abbrev IsSplit : List Token → List ℕ → Type 0
IsSplit [] s = s ≡ []
IsSplit (t ∷ ts) s = (front : List ℕ) × (rest : List ℕ) × (s ≡ front ++ rest) × (t.len ≡ length front) × IsUtf8 front × IsSplit ts rest

split_push : (ts : List Token) (t : Token) (done now : List ℕ) → IsSplit ts done → t.len ≡ length now → IsUtf8 now → IsSplit (ts ++ (t ∷ [])) (done ++ now)
split_push [] t done now h e u = (now, [], rw h (sym (append-nil now)), e, u, refl)
split_push (x ∷ ts) t done now h e u = (h.0, h.1 ++ now, ap (λ cs. cs ++ now) h.2 ∙ append_assoc h.0 h.1 now, h.3, h.4, split_push ts t h.1 now h.5 e u)

first_fits : (front rest s : List ℕ) (n : ℕ) → s ≡ front ++ rest → n ≡ length front → n ≤ length s
first_fits front rest s n e f = omega (arith, ap length e, length-append front rest, f)

split_cut : (ts : List Token) (s : List ℕ) → IsSplit ts s → IsCut ts s
split_cut [] s h = h
split_cut (t ∷ ts) s h =
    let front = h.0 in
    let rest = h.1 in
    let taken : take t.len s ≡ front = ap (λ n. take n s) h.3 ∙ ap (take (length front)) h.2 ∙ take-append_seam front rest in
    let dropped : drop t.len s ≡ rest = ap (λ n. drop n s) h.3 ∙ ap (drop (length front)) h.2 ∙ drop-append_seam front rest in
    (first_fits front rest s t.len h.2 h.3, subst IsUtf8 (sym taken) h.4, subst (IsCut ts) (sym dropped) (split_cut ts rest h.5))

-- where no token is being read, no characters wait
abbrev Waits : Option Scan → List ℕ → Type 0
Waits None w = w ≡ []
Waits (Some q) w = Unit {0}

record Cuts (p : List ℕ) (s : Lexing) : Type 0 where
  pub done : List ℕ
  pub all : p ≡ done ++ s.word
  pub split : IsSplit s.tokens done
  pub is_text : IsUtf8 s.word
  pub start : s.start ≤ length done
  pub lie : All (ComplaintLiesIn (length done)) s.complaints
  pub waits : Waits s.scan s.word

record Ended (p : List ℕ) (s : Lexing) : Type 0 where
  pub split : IsSplit s.tokens p
  pub start : s.start ≤ length p
  pub lie : All (ComplaintLiesIn (length p)) s.complaints

size_on : (b : Bool) (n : ℕ) → b ≡ true → (if b then n else 0) ≡ n
size_on true n e = refl
size_on false n e = (let bad : false ≡ true = e in cc)

pub size_is : (w : List ℕ) → length w < 2 ^ 32 → size_of w ≡ length w
size_is w h =
    let test : nat_lt (length w) (2 ^ 32) ≡ true = grind (arith, nat_tests) in
    size_on (nat_lt (length w) (2 ^ 32)) (length w) test

later_le : (a n : ℕ) → later_of a n ≤ a + n
later_le a n = min-le_left (a + n) (2 ^ 32 - 1)

le_later : (a n : ℕ) → a < 2 ^ 32 → a ≤ later_of a n
le_later a n h =
    let x : a ≤ a + n = omega arith in
    let y : a ≤ 2 ^ 32 - 1 = omega (arith, h) in
    le-min x y

weaker : (m n : ℕ) (cs : List Complaint) → m ≤ n → All (ComplaintLiesIn m) cs → All (ComplaintLiesIn n) cs
weaker m n cs l h = λ k d b. ((h k d b).0, omega (arith, l, (h k d b).1))

report_lies : (o : Option Problem) (k m : ℕ) (s : Lexing) → s.start < 2 ^ 32 → s.start + k ≤ m → All (ComplaintLiesIn m) s.complaints → All (ComplaintLiesIn m) (report_of o k s).complaints
report_lies None k m s l h a = a
report_lies (Some p) k m s l h a =
    let c : Complaint = record { problem = p; range = record { start = s.start; end = later_of s.start k } } in
    let b : later_of s.start k ≤ m = omega (arith, later_le s.start k, h) in
    let one : ComplaintLiesIn m c = (le_later s.start k l, b) in
    All-append (ComplaintLiesIn m) s.complaints (c ∷ []) a (All-cons (ComplaintLiesIn m) c [] one (All-nil (ComplaintLiesIn m)))

report_tokens : (o : Option Problem) (k : ℕ) (s : Lexing) → (report_of o k s).tokens ≡ s.tokens
report_tokens None k s = refl
report_tokens (Some p) k s = refl

report_start : (o : Option Problem) (k : ℕ) (s : Lexing) → (report_of o k s).start ≡ s.start
report_start None k s = refl
report_start (Some p) k s = refl

end_ends : (e : Edition) (o : Option Scan) (p : List ℕ) (s : Lexing) → length p < 2 ^ 32 → Cuts p s → Waits o s.word → Ended p (end_with e o s)
end_ends e None p s l h w =
    let q : h.done ≡ p = sym (h.all ∙ ap (λ z. h.done ++ z) w ∙ append-nil h.done) in
    record {
      split = subst (IsSplit s.tokens) q h.split;
      start = subst (λ z. s.start ≤ length z) q h.start;
      lie = subst (λ z. All (ComplaintLiesIn (length z)) s.complaints) q h.lie;
    }
end_ends e (Some q) p s l h w =
    let total : length p ≡ length h.done + length s.word = ap length h.all ∙ length-append h.done s.word in
    let n : size_of s.word ≡ length s.word = size_is s.word (omega (arith, total, l)) in
    let k = size_of s.word in
    let t : Token = record { kind = scan_kind_of e s.word q; len = k } in
    let r = report_of (problem_of q) k s in
    let short : s.start < 2 ^ 32 = omega (arith, h.start, total, l) in
    let fits : s.start + k ≤ length p = omega (arith, h.start, total, n) in
    let before : length h.done ≤ length p = omega (arith, total) in
    let all : All (ComplaintLiesIn (length p)) s.complaints = weaker (length h.done) (length p) s.complaints before h.lie in
    let ended : later_of r.start k ≤ length p = omega (arith, later_le r.start k, report_start (problem_of q) k s, fits) in
    record {
      split = subst (λ ts. IsSplit (ts ++ (t ∷ [])) p) (sym (report_tokens (problem_of q) k s)) (subst (IsSplit (s.tokens ++ (t ∷ []))) (sym h.all) (split_push s.tokens t h.done s.word h.split n h.is_text));
      start = ended;
      lie = report_lies (problem_of q) k (length p) s short fits all;
    }

feed_cuts_on : (e : Edition) (o : Option Scan) (p : List ℕ) (s : Lexing) (c : ℕ) → length p < 2 ^ 32 → IsUtf8 (encode_utf8 c) → Cuts p s → Cuts (p ++ encode_utf8 c) (feed_on e o s c)
feed_cuts_on e None p s c l u h =
    let x = end_ends e s.scan p s l h h.waits in
    record { done = p; all = refl; split = x.split; is_text = u; start = x.start; lie = x.lie; waits = tt }
feed_cuts_on e (Some q) p s c l u h = record {
  done = h.done;
  all = ap (λ z. z ++ encode_utf8 c) h.all ∙ append_assoc h.done s.word (encode_utf8 c);
  split = h.split;
  is_text = IsUtf8-append s.word (encode_utf8 c) h.is_text u;
  start = h.start;
  lie = h.lie;
  waits = tt;
}

feed_cuts : (e : Edition) (p : List ℕ) (s : Lexing) (c : ℕ) → length p < 2 ^ 32 → IsUtf8 (encode_utf8 c) → Cuts p s → Cuts (p ++ encode_utf8 c) (feed_of e s c)
unfolding feed_of
feed_cuts e p s c l u h = feed_cuts_on e (next_of s c) p s c l u h

both_left : (a b : Bool) → (a && b) ≡ true → a ≡ true
both_left true b h = refl
both_left false b h = h

both_right : (a b : Bool) → (a && b) ≡ true → b ≡ true
both_right true b h = h
both_right false b h = (let bad : false ≡ true = h in cc)

feeds_cuts : (e : Edition) (cs p : List ℕ) (s : Lexing) → scalars cs ≡ true → length (p ++ encodes cs) < 2 ^ 32 → Cuts p s → Cuts (p ++ encodes cs) (feeds e cs s)
unfolding feeds
feeds_cuts e [] p s k l h = subst (λ z. Cuts z s) (sym (append-nil p)) h
feeds_cuts e (c ∷ cs) p s k l h =
    let u : IsUtf8 (encode_utf8 c) = IsUtf8-encode c (both_left (scalar c) (scalars cs) k) in
    let assoc : (p ++ encode_utf8 c) ++ encodes cs ≡ p ++ (encode_utf8 c ++ encodes cs) = append_assoc p (encode_utf8 c) (encodes cs) in
    let short : length p < 2 ^ 32 = omega (arith, l, length-append p (encode_utf8 c ++ encodes cs)) in
    let l' : length ((p ++ encode_utf8 c) ++ encodes cs) < 2 ^ 32 = subst (λ z. length z < 2 ^ 32) (sym assoc) l in
    subst (λ z. Cuts z (feeds e cs (feed_of e s c))) assoc (feeds_cuts e cs (p ++ encode_utf8 c) (feed_of e s c) (both_right (scalar c) (scalars cs) k) l' (feed_cuts e p s c short u h))

lexed_from : (e : Edition) (cs text : List ℕ) → cs ≡ chars text → scalars cs ≡ true → encodes cs ≡ text → length text < 2 ^ 32 → Ended text (end_of e (feeds e cs fresh))
lexed_from e cs text q k f l =
    let h : Cuts [] fresh = record { done = []; all = refl; split = refl; is_text = IsUtf8-nil; start = omega arith; lie = All-nil (ComplaintLiesIn 0); waits = refl } in
    let g : Cuts text (feeds e cs fresh) = subst (λ z. Cuts z (feeds e cs fresh)) f (feeds_cuts e cs [] fresh k (subst (λ z. length z < 2 ^ 32) (sym f) l) h) in
    end_ends e (feeds e cs fresh).scan text (feeds e cs fresh) l g g.waits

pub lexed : (e : Edition) (text : List ℕ) → IsUtf8 text → length text < 2 ^ 32 → IsLexed e text
lexed e text u l =
    let h = lexed_from e (chars text) text refl (scalars-chars text u) (encodes-chars text u) l in
    record { cut = split_cut (tokens_of e text) text h.split; lie = h.lie }
