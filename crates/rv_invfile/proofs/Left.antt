-- The records that are left, record by record.
use Rattle.std.proofs.Common.{◌≡◌, ◌+◌, ◌<◌, ◌≤◌, ℕ, zero, suc, Bool, true, false, cond, List, [], ◌∷◌, ◌++◌, length, refl, sym, ap, ◌∙◌, arith, add-one}
use Rattle.std.specs.Prelude.{Option, Some, None}
use Rattle.std.proofs.lemmas.List.{length_push}
use Rattle.csv.specs.Machine.{Read, next_record, step, is_end, ends_at_end, fields_after, field_after}
use Rattle.csv.specs.declared.parser.Action.{Action}
use Rattle.csv.specs.declared.parser.Action.TheVariants as act
use Rattle.csv.specs.{declared.parser.State.State, Reading.records_from, Reading.records_next, Reading.default_config}
use Rattle.csv.specs.declared.parser.State.TheVariants as st
use Rattle.rv_invfile.specs.Csv.{left}

some-is : (p q : Read) → ◌≡◌ {A = Option Read} (Some p) (Some q) → p ≡ q
some-is p q e = cc

-- a record is at least one byte, or the last
shorter-end : (b : Bool) (fields : List (List ℕ)) (p : Read) → cond b (Some (fields, st.StartRecord, [])) None ≡ Some p → (p.1 ≡ st.StartRecord) × (p.2 ≡ [])
shorter-end true fields p e = let same = some-is (fields, st.StartRecord, []) p e in (ap (λ (q : Read). q.1) (sym same), ap (λ (q : Read). q.2) (sym same))
shorter-end false fields p e = cc

last-record : (s : State) (fields : List (List ℕ)) (field : List ℕ) (p : Read) → next_record default_config s fields field [] ≡ Some p
    → (p.1 ≡ st.StartRecord) × (p.2 ≡ [])
unfolding next_record
last-record s fields field p e = shorter-end (ends_at_end s) (fields ++ (field ∷ [])) p e

shorter-by : (b : Bool) (f : List (List ℕ)) (s : State) (rest : List ℕ) (o : Option Read) (p : Read) → cond b (Some (f, s, rest)) o ≡ Some p
    → (o ≡ Some p → length p.2 ≤ length rest) → length p.2 ≤ length rest
shorter-by true f s rest o p e h = let same : rest ≡ p.2 = ap (λ (q : Read). q.2) (some-is (f, s, rest) p e) in omega (arith, ap length same)
shorter-by false f s rest o p e h = h e

pub shorter : (s : State) (fields : List (List ℕ)) (field : List ℕ) (c : ℕ) (rest : List ℕ) (p : Read)
    → next_record default_config s fields field (c ∷ rest) ≡ Some p → length p.2 ≤ length rest
unfolding next_record
shorter s fields field c [] p e =
    shorter-by (is_end (step default_config s c).1) (fields_after (step default_config s c).1 fields field) (step default_config s c).0 [] _ p e
    (λ h. let q = last-record (step default_config s c).0 (fields_after (step default_config s c).1 fields field)
    (field_after (step default_config s c).1 c field) p h in omega (arith, ap length q.1))
shorter s fields field c (d ∷ rest) p e =
    shorter-by (is_end (step default_config s c).1) (fields_after (step default_config s c).1 fields field) (step default_config s c).0 (d ∷ rest) _ p e
    (λ h. let q = shorter (step default_config s c).0 (fields_after (step default_config s c).1 fields field) (field_after (step default_config s c).1 c field)
    d rest p h in omega (arith, q))

pub no-longer : (s : State) (xs : List ℕ) (p : Read) → next_record default_config s [] [] xs ≡ Some p → length p.2 ≤ length xs
no-longer s [] p e = let q = last-record s [] [] p e in omega (arith, ap length q.1)
no-longer s (c ∷ rest) p e = let q = shorter s [] [] c rest p e in omega (arith, q)

-- a record has one field more than the bytes that end fields
more-fields : (a : Action) (fields : List (List ℕ)) (field : List ℕ) → length (fields_after a fields field) ≤ length fields + 1
more-fields act.EndField fields field = omega (arith, length_push fields field)
more-fields act.EndRecord fields field = omega (arith, length_push fields field)
more-fields act.Skip fields field = omega arith
more-fields act.Copy fields field = omega arith

narrow-by : (b : Bool) (f : List (List ℕ)) (s : State) (rest : List ℕ) (o : Option Read) (p : Read) (n : ℕ) → cond b (Some (f, s, rest)) o ≡ Some p
    → length f ≤ n → (o ≡ Some p → length p.0 ≤ n) → length p.0 ≤ n
narrow-by true f s rest o p n e l h = let same : f ≡ p.0 = ap (λ (q : Read). q.0) (some-is (f, s, rest) p e) in omega (arith, ap length same, l)
narrow-by false f s rest o p n e l h = h e

pub narrow : (s : State) (fields : List (List ℕ)) (field : List ℕ) (xs : List ℕ) (p : Read) → next_record default_config s fields field xs ≡ Some p
    → length p.0 ≤ length fields + length xs + 1
unfolding next_record
narrow s fields field [] p e =
    narrow-by (ends_at_end s) (fields ++ (field ∷ [])) st.StartRecord [] None p (length fields + 0 + 1) e (omega (arith, length_push fields field)) (λ h. cc)
narrow s fields field (c ∷ rest) p e =
    let a = more-fields (step default_config s c).1 fields field in
    narrow-by (is_end (step default_config s c).1) (fields_after (step default_config s c).1 fields field) (step default_config s c).0 rest _ p
    (length fields + length (c ∷ rest) + 1) e (omega (arith, a))
    (λ h. let q = narrow (step default_config s c).0 (fields_after (step default_config s c).1 fields field)
    (field_after (step default_config s c).1 c field) rest p h in omega (arith, q, a))

-- none is left at the end
pub none-left : (n : ℕ) → records_from default_config n st.StartRecord [] ≡ []
unfolding records_from next_record
none-left zero = refl
none-left (suc n) = refl

next-same : (n m : ℕ) (o : Option Read) → ((p : Read) → o ≡ Some p → records_from default_config n p.1 p.2 ≡ records_from default_config m p.1 p.2)
    → records_next (records_from default_config n) o ≡ records_next (records_from default_config m) o
next-same n m None h = refl
next-same n m (Some p) h = ap (λ l. p.0 ∷ l) (h p refl)

end-same : (n m : ℕ) (p : Read) → (p.1 ≡ st.StartRecord) × (p.2 ≡ []) → records_from default_config n p.1 p.2 ≡ records_from default_config m p.1 p.2
end-same n m p h = rw (h.0, h.1) (none-left n ∙ sym (none-left m))

-- as many tries as there are bytes are enough
pub enough : (n m : ℕ) (s : State) (xs : List ℕ) → length xs < n → length xs < m → records_from default_config n s xs ≡ records_from default_config m s xs
unfolding records_from
enough zero m s xs a b = absurd (omega arith)
enough (suc n) zero s xs a b = absurd (omega arith)
enough (suc n) (suc m) s [] a b = next-same n m (next_record default_config s [] [] []) (λ p e. end-same n m p (last-record s [] [] p e))
enough (suc n) (suc m) s (c ∷ rest) a b =
    next-same n m (next_record default_config s [] [] (c ∷ rest))
    (λ p e. let h = shorter s [] [] c rest p e in enough n m p.1 p.2 (omega (arith, h)) (omega (arith, h)))

-- what is left is the next record and what is left then
one-more : (n : ℕ) (s : State) (xs : List ℕ) → records_from default_config (n + 1) s xs ≡ records_next (records_from default_config n)
    (next_record default_config s [] [] xs)
unfolding records_from
one-more n s xs = ap (λ k. records_from default_config k s xs) (add-one n)

left-by : (s : State) (xs : List ℕ) (p : Read) → next_record default_config s [] [] xs ≡ Some p → records_from default_config (length xs) p.1 p.2 ≡ left p.1 p.2
left-by s [] p e = end-same 0 (length p.2 + 1) p (last-record s [] [] p e)
left-by s (c ∷ rest) p e = let h = shorter s [] [] c rest p e in enough (suc (length rest)) (length p.2 + 1) p.1 p.2 (omega (arith, h)) (omega arith)

pub left-some : (s : State) (xs : List ℕ) (p : Read) → next_record default_config s [] [] xs ≡ Some p → left s xs ≡ p.0 ∷ left p.1 p.2
left-some s xs p e = one-more (length xs) s xs ∙ ap (records_next (records_from default_config (length xs))) e ∙ ap (λ l. p.0 ∷ l) (left-by s xs p e)

pub left-none : (s : State) (xs : List ℕ) → next_record default_config s [] [] xs ≡ None → left s xs ≡ []
left-none s xs e = one-more (length xs) s xs ∙ ap (records_next (records_from default_config (length xs))) e

-- there are at most as many as tries
next-few : (n : ℕ) (o : Option Read) → ((p : Read) → length (records_from default_config n p.1 p.2) ≤ n)
    → length (records_next (records_from default_config n) o) ≤ suc n
next-few n None h = omega arith
next-few n (Some p) h = let k = h p in omega (arith, k)

pub few : (n : ℕ) (s : State) (xs : List ℕ) → length (records_from default_config n s xs) ≤ n
unfolding records_from
few zero s xs = omega arith
few (suc n) s xs = next-few n (next_record default_config s [] [] xs) (λ p. few n p.1 p.2)
