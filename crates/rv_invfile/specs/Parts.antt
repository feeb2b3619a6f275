-- What rules are made of: one part and then another, a part for each of a list, a part so many times, one part or another.
use Rattle.std.specs.Prelude.{ℕ, zero, suc, Bool, false, cond, List, [], ◌∷◌, ◌++◌, is_some}
use Rattle.rv_invfile.specs.{Rules.Fields, Rules.Form, Rules.Rule, Rules.done, Rules.await, Rules.form_of, Readers.Ahead}

-- one part, and then by its value the rest
abbrev pub bind : {A B : Type 0} → Rule A → (A → Rule B) → Rule B
bind (done a) k = k a
bind (await forms next) k = await forms (λ r. bind (next r) k)

-- a part for each of these, in order
unfoldable pub each : {P A : Type 0} → (P → Rule A) → List P → Rule (List A)
each part [] = done []
each part (p ∷ ps) = bind (part p) (λ a. bind (each part ps) (λ more. done (a ∷ more)))

-- a part so many times
unfoldable pub times : {A : Type 0} → ℕ → Rule A → Rule (List A)
times zero part = done []
times (suc n) part = bind part (λ a. bind (times n part) (λ more. done (a ∷ more)))

-- the first part where a record of its forms stands next, else the second
abbrev pub either : {A : Type 0} → Rule A → Rule A → Rule A
either (done a) q = done a
either (await forms next) (done a) = await forms next
either (await forms next) (await others then) = await (forms ++ others) (λ r. cond (is_some (form_of forms r)) (next r) (then r))

-- a part at most so many times, as long as a record of its forms stands next, and then by their values the rest
unfoldable pub turns : {A B : Type 0} → ℕ → Rule A → (List A → Rule B) → Rule B
turns zero part rest = rest []
turns (suc n) part rest = either (bind part (λ a. turns n part (λ more. rest (a ∷ more)))) (rest [])

-- whether a record of these forms stands next
abbrev pub sees_in : List Form → List Fields → Bool
sees_in forms [] = false
sees_in forms (r ∷ rs) = is_some (form_of forms r)

abbrev pub sees : List Form → Ahead → Bool
sees forms s = sees_in forms s.rest
