-- What the integer memories become, times a sign, as forms for the answers to their questions.
use Rattle.std.specs.Prelude.{◌≡◌, ℕ, ◌<◌, ◌≤◌, ◌^◌, ℤ, pos, negsuc, ◌*ℤ◌, List, length, true, Some, slice_get}
use Rattle.rv_diagram.specs.{declared.Triple.Triple, Nodes.Valuation, Nodes.value_of, Several.ref_at}
use Rattle.rv_rows.specs.{declared.linear.Form.Form, Forms.FormWithin, Forms.value}
use Rattle.rv_proofs.specs.{Systems.System, Systems.IsUpdate, Implied.form_at}
use Rattle.rv_cases.specs.{declared.asking.Questions.Questions, Questions.memory_answers, Questions.forms_at}
use Rattle.rv_least.specs.{declared.turned.Sign.Sign, declared.turned.Sign.TheVariants.Plus, declared.turned.Sign.TheVariants.Minus}

-- 1, or -1 for the opposite
abbrev pub sign_of : Sign → ℤ
sign_of Plus = pos 1
sign_of Minus = negsuc 0

-- Where the answer is given memory k becomes the form.
abbrev pub IsGivenFor : System → List Triple → ℕ → ℕ → Form → Type 0
IsGivenFor s nodes k answer f = (v : Valuation) → value_of nodes answer v ≡ true → IsUpdate s f × (s.update v k ≡ f)

-- Where an answer is given memory k becomes the form with the same number.
abbrev pub AreGivenFor : System → List Triple → ℕ → List ℕ → List Form → Type 0
AreGivenFor s nodes k answers forms = (i : ℕ) (f : Form) → slice_get forms i ≡ Some f → IsGivenFor s nodes k (ref_at answers i) f

-- The form is worth what memory k becomes, times the sign, at each valuation at which the answer is given, and is small.
pub record IsTurned (s : System) (nodes : List Triple) (k : ℕ) (sign : ℤ) (answer : ℕ) (f : Form) : Type 0 where
  pub narrow : length f.coefficients ≤ s.columns
  pub small : FormWithin (2 ^ 41) f
  pub worth : (v : Valuation) → value_of nodes answer v ≡ true → (point : List ℤ) → value f point ≡ sign *ℤ value (s.update v k) point

-- one such form for each of the first n answers
pub record AreTurned (s : System) (nodes : List Triple) (k : ℕ) (sign : ℤ) (answers : List ℕ) (n : ℕ) (forms : List Form) : Type 0 where
  pub size : length forms ≡ n
  pub each : (i : ℕ) → i < n → IsTurned s nodes k sign (ref_at answers i) (form_at forms i)

-- and this for each of the first n memories
pub record AreAllTurned (s : System) (nodes : List Triple) (q : Questions) (sign : ℤ) (n : ℕ) (lists : List (List Form)) : Type 0 where
  pub size : length lists ≡ n
  pub each : (k : ℕ) → k < n → AreTurned s nodes k sign (memory_answers q k) (length (memory_answers q k)) (forms_at lists k)
