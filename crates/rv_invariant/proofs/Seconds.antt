-- The second list of proofs, which the record that follows the first tells.
use Rattle.std.proofs.Common.{◌≡◌, ◌^◌, ◌≤◌, ℕ, zero, suc, Bool, true, false, cond, List, [], ◌∷◌, length, refl, sym, ap, ◌∙◌, arith}
use Rattle.std.proofs.lemmas.Bool.{lt-ltb}
use Rattle.std.specs.Prelude.{◌&&◌, ◌||◌, ◌⊎◌, nat_lt, codes}
use Rattle.rv_diagram.specs.declared.frozen.Frozen.{Frozen}
use Rattle.rv_rows.specs.declared.farkas.Multipliers.{Multipliers}
use Rattle.rv_invfile.specs.{Rules.Fields, Rules.Rule, Rules.done, Rules.await, Readers.Ahead, Readers.run, Forms.counted, Forms.field, Texts.natural}
use Rattle.rv_invfile.specs.{Parts.bind, Parts.times, Parts.either, Parts.sees}
use Rattle.rv_invfile.proofs.Loops.{times_more}
use Rattle.rv_invariant.specs.Certificates.{has_turned, count_rule, second_rule, second_or, after_proofs}
use Rattle.rv_invariant.specs.{declared.fronts.Front.Front, declared.fronts.Lists.Lists, Outlines.takes_second}
use Rattle.rv_invariant.specs.Pieces.{a_proof, by_form, multipliers_of}
use Rattle.rv_invariant.proofs.Choices.{run_either}

module _ (control : Frozen) (lists : Lists) (by_entry : List Multipliers) where
  abbrev pub second_next : ℕ → Fields → Rule Front
  second_next n r =
      bind (bind (times n (a_proof (2 ^ 30) (length lists.first))) (λ more. done (multipliers_of r ∷ more))) (count_rule control lists by_entry 1)

  abbrev pub count_next : ℕ → Fields → Rule Front
  count_next least r = done (record { control = control; lists = lists; by_entry = by_entry; by_first = []; cases = natural (field r 1) })

  pub second-waits : (n : ℕ) → second_rule control lists by_entry (suc n) ≡ await (by_form (2 ^ 30) (length lists.first) ∷ []) (second_next n)
  second-waits n = ap (λ t. bind t (count_rule control lists by_entry 1)) (times_more n (a_proof (2 ^ 30) (length lists.first)))

  pub second-none : second_rule control lists by_entry zero ≡ count_rule control lists by_entry 1 []
  unfolding times
  second-none = refl

  second-run : (n : ℕ) (a : Ahead) → run (second_or control lists by_entry n) a
      ≡ cond (nat_lt 0 n && sees (by_form (2 ^ 30) (length lists.first) ∷ []) a) (run (second_rule control lists by_entry n) a)
      (run (count_rule control lists by_entry 0 []) a)
  second-run zero a = refl
  second-run (suc n) a =
      ap (λ q. run (either q (count_rule control lists by_entry 0 [])) a) (second-waits n)
      ∙ run_either (by_form (2 ^ 30) (length lists.first) ∷ []) (counted (codes "cases") 0 4294967295 ∷ []) (second_next n) (count_next 0) a
      ∙ ap (λ q. cond (sees (by_form (2 ^ 30) (length lists.first) ∷ []) a) (run q a) (run (count_rule control lists by_entry 0 []) a)) (sym (second-waits n))
      ∙ ap (λ b. cond (b && sees (by_form (2 ^ 30) (length lists.first) ∷ []) a) (run (second_rule control lists by_entry (suc n)) a)
      (run (count_rule control lists by_entry 0 []) a)) (sym (lt-ltb 0 (suc n) (omega arith)))

  after-by : (b : Bool) (n : ℕ) (a : Ahead) → run (cond b (second_rule control lists by_entry n) (second_or control lists by_entry n)) a
      ≡ cond (b || (nat_lt 0 n && sees (by_form (2 ^ 30) (length lists.first) ∷ []) a)) (run (second_rule control lists by_entry n) a)
      (run (count_rule control lists by_entry 0 []) a)
  after-by true n a = refl
  after-by false n a = second-run n a

  -- the second list is read where it must stand next, or does
  pub after-run : (a : Ahead) (b : Bool) → takes_second lists (sees (by_form (2 ^ 30) (length lists.first) ∷ []) a) ≡ b
      → run (after_proofs control lists by_entry) a
      ≡ cond b (run (second_rule control lists by_entry (length lists.state)) a) (run (count_rule control lists by_entry 0 []) a)
  after-run a b h =
      after-by (has_turned lists) (length lists.state) a
      ∙ ap (λ x. cond x (run (second_rule control lists by_entry (length lists.state)) a) (run (count_rule control lists by_entry 0 []) a)) h

-- What the proofs from `first` and the count of entries are: a proof of each row and an entry, or none where none is needed.
abbrev pub AreSeconds : Lists → List Multipliers → ℕ → Type 0
AreSeconds lists by_first cases =
    ((length by_first ≡ length lists.state) × (1 ≤ cases)) ⊎ ((by_first ≡ []) × (has_turned lists ≡ false))
