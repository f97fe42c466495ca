-- What was read, and what goes out.
use Rattle.std.proofs.Common.{◌≡◌, ℕ, ◌-◌, ◌<◌, zero, suc, append-nil, length-append, ◌⊎◌, inl, inr, List, [], ◌++◌, length, take, drop, refl, sym, ap, subst, ◌∙◌, arith, append_assoc}
use Rattle.std.specs.Prelude.{Option, MatchOption, None, Some, Result, Err, true, false, ◌==◌}
use Rattle.std.proofs.lemmas.List.{take-append-drop, length-drop, take_all}
use Rattle.std.proofs.Math.Seq.{take-append_seam}
use Rattle.std.specs.Io.KnownBytes.{Appends, Keeps}
use Rattle.syntax_tool.specs.declared.refusal.Refusal.{Refusal}
use Rattle.syntax_tool.specs.declared.refusal.Refusal.TheVariants.{Read, Memory}
use Rattle.syntax_tool.specs.declared.command.Command.{Command}
use Rattle.syntax_tool.specs.Output.{command_of, output_of, refused, usage, WasLeft, IsEarly, AnswersInput, AnswersReader, IsCutShort, IsRun, Wrote}

pub appends-appends : (a b c : Option (List ℕ)) (xs ys : List ℕ) → Appends a b xs → Appends b c ys → Appends a c (xs ++ ys)
appends-appends None b c xs ys h k = tt
appends-appends (Some a) None c xs ys h k = absurd h
appends-appends (Some a) (Some b) None xs ys h k = absurd k
appends-appends (Some a) (Some b) (Some c) xs ys h k = k ∙ ap (λ l. l ++ ys) h ∙ append_assoc a xs ys

pub appends-keeps : (a b c : Option (List ℕ)) (xs : List ℕ) → Appends a b xs → Keeps b c → Appends a c xs
appends-keeps None b c xs h k = tt
appends-keeps (Some a) None c xs h k = absurd h
appends-keeps (Some a) (Some b) None xs h k = absurd k
appends-keeps (Some a) (Some b) (Some c) xs h k = k ∙ h

pub nothing_more : (a b c : Option (List ℕ)) (done rest : List ℕ) (n : ℕ) → n ≡ 0 → Appends a b done → Appends b c (take n rest) → Appends a c done
nothing_more a b c done rest n z h k = subst (Appends a c) (ap (λ m. done ++ take m rest) z ∙ append-nil done) (appends-appends a b c done (take n rest) h k)

pub some_left : (n : ℕ) → false ≡ (n == 0) → 0 < n
some_left zero h = (let bad : false ≡ true = h in cc)
some_left (suc n) h = omega arith

-- what is left, cut again
pub cut_again : (bytes done rest : List ℕ) (n m : ℕ) → m ≡ length rest - n → bytes ≡ done ++ rest → bytes ≡ (done ++ take n rest) ++ take m (drop n rest)
cut_again bytes done rest n m is_m is =
    is ∙ ap (λ l. done ++ l) (sym (take-append-drop n rest)) ∙ sym (append_assoc done (take n rest) (drop n rest))
    ∙ ap (λ l. (done ++ take n rest) ++ l) (sym (take_all m (drop n rest) (omega (arith, is_m, length-drop n rest))))

-- a front that was written
pub front_written : (before after : Option (List ℕ)) (bytes done rest : List ℕ) → bytes ≡ done ++ rest → 0 < length rest → Appends before after done → (n : ℕ) × (n < length bytes) × Appends before after (take n bytes)
front_written before after bytes done rest is some h = (length done, omega (arith, some, ap length is, length-append done rest), subst (Appends before after) (sym (ap (take (length done)) is ∙ take-append_seam done rest)) h)

was_left : Option (List ℕ) → List ℕ
was_left None = []
was_left (Some xs) = xs

was_left-WasLeft : (left : Option (List ℕ)) → WasLeft left (was_left left)
unfolding was_left
was_left-WasLeft None = tt
was_left-WasLeft (Some xs) = refl

early : (word : List ℕ) (c : Command) (e : Refusal) → command_of word ≡ Some c → IsEarly e → IsCutShort word (refused e)
early word c e is h = subst (λ o. MatchOption o ⊥ (λ _. (refused e ≡ refused Read) ⊎ (refused e ≡ refused Memory))) (sym is) (by_cause h)
  where
    by_cause : IsEarly e → (refused e ≡ refused Read) ⊎ (refused e ≡ refused Memory)
    by_cause (inl r) = inl (ap refused r)
    by_cause (inr m) = inr (ap refused m)

module _ (word : List ℕ) (left before after : Option (List ℕ)) (status : ℕ) where
  pub run_usage : command_of word ≡ None → Wrote before after status usage → IsRun word left before after status
  run_usage none wrote = record {
    input = was_left left;
    read_whole = was_left-WasLeft left;
    out = usage;
    out_is = inl (subst (λ o. MatchOption o (usage ≡ usage) (λ c. (r : Result (List ℕ) Refusal) × AnswersInput c (was_left left) r × (usage ≡ output_of r))) (sym none) refl);
    wrote = wrote;
  }

  pub run_answer : (c : Command) (r : Result (List ℕ) Refusal) → command_of word ≡ Some c → AnswersReader c left r → Wrote before after status (output_of r) → IsRun word left before after status
  run_answer c r is (input, whole, answers) wrote = record {
    input = input;
    read_whole = whole;
    out = output_of r;
    out_is = inl (subst (λ o. MatchOption o (output_of r ≡ usage) (λ d. (s : Result (List ℕ) Refusal) × AnswersInput d input s × (output_of r ≡ output_of s))) (sym is) (r, answers, refl));
    wrote = wrote;
  }

  pub run_refused : (c : Command) (e : Refusal) → command_of word ≡ Some c → IsEarly e ⊎ AnswersReader c left (Err e) → Wrote before after status (refused e) → IsRun word left before after status
  run_refused c e is (inl cut) wrote = record { input = was_left left; read_whole = was_left-WasLeft left; out = refused e; out_is = inr (early word c e is cut); wrote = wrote }
  run_refused c e is (inr answers) wrote = run_answer c (Err e) is answers wrote

pub wrote_text : (before after : Option (List ℕ)) (status written : ℕ) (s t : List ℕ) → s ≡ t → Wrote before after status (record { text = s; status = written }) → Wrote before after status (record { text = t; status = written })
wrote_text before after status written s t e h = subst (λ x. Wrote before after status (record { text = x; status = written })) e h
