-- The state after an instant, by the updates and the next control state of a valuation.
use Rattle.std.proofs.Common.{◌≡◌, ℕ, suc, ◌<◌, ℤ, Bool, true, false, cond, List, [], ◌∷◌, length, refl, sym, ◌∙◌, ap, arith, Option}
use Rattle.std.proofs.lemmas.List.{length-map}
use Rattle.std.specs.Prelude.{slice_index_or}
use Rattle.rv_base.specs.{declared.value.Value.Value, declared.value.Value.TheVariants.Flag, declared.value.Value.TheVariants.Label}
use Rattle.rv_types.specs.{declared.typed.Kind.Kind, Variables.is_integer, Variables.bits_for}
use Rattle.rv_types.specs.declared.typed.Kind.TheVariants as kind
use Rattle.rv_meaning.specs.{Meaning.number, Codes.code}
use Rattle.rv_rows.specs.declared.linear.Form.{Form}
use Rattle.rv_rows.specs.Forms as forms
use Rattle.rv_agreement.specs.Trees.{System, memory_kinds, kind_at}
use Rattle.rv_agreement.specs.Valuations.{Valuation, Reading, Truth, Name, at_point, form_of, width, wholes, updated}
use Rattle.rv_agreement.specs.Agreement.{State, point, IsWholeInstant, IsNext, IsTyped, IsAgreed, IsWell, forms_from, updates, IsSpelled, IsSpelledAs, Leads}
use Rattle.rv_agreement.specs.ProgramAgreement.{integers_of}
use Rattle.rv_agreement.proofs.{Operators.number_at, Agreed.gives}

-- integers of a list are those of a function that gives its values
pub wholes_are : (ks : List Kind) (vs : List Value) (f : ℕ → Value) → length vs ≡ length ks
    → ((m : ℕ) → m < length ks → slice_index_or vs m (Flag false) ≡ f m) → wholes ks vs ≡ integers_of ks f
wholes_are [] vs f many is = refl
wholes_are (k ∷ ks) [] f many is = absurd (omega arith)
wholes_are (k ∷ ks) (v ∷ vs) f many is =
    let rest = wholes_are ks vs (λ m. f (suc m)) (omega arith) (λ m lt. is (suc m) (omega arith)) in
    λ i. cond (is_integer k) (number (is 0 (omega arith) i) ∷ rest i) (rest i)

-- and those are the values of forms that have them
pub integers_are : (x : List ℤ) (ks : List Kind) (f : ℕ → Value) (g : ℕ → Form) → ((m : ℕ) → m < length ks → number (f m) ≡ forms.value (g m) x)
    → integers_of ks f ≡ forms.values (forms_from ks g) x
integers_are x [] f g is = refl
integers_are x (k ∷ ks) f g is =
    let rest = integers_are x ks (λ m. f (suc m)) (λ m. g (suc m)) (λ m lt. is (suc m) (omega arith)) in
    elim (is_integer k) as (λ b. cond b (number (f 0) ∷ integers_of ks (λ m. f (suc m))) (integers_of ks (λ m. f (suc m)))
    ≡ forms.values (cond b (g 0 ∷ forms_from ks (λ m. g (suc m))) (forms_from ks (λ m. g (suc m)))) x)
    [ true ↦ λ i. is 0 (omega arith) i ∷ rest i | false ↦ rest ]

-- a reading that is a control value at a point is that control value
truth_back : (x : List ℤ) (a : Reading) (b : Bool) → at_point x a ≡ Flag b → a ≡ Truth b
truth_back x (Truth c) b e = let f : c ≡ b = cc in ap Truth f
truth_back x _ b e = absurd (cc)

name_back : (x : List ℤ) (a : Reading) (l : ℕ) → at_point x a ≡ Label l → a ≡ Name l
name_back x (Name k) l e = let f : k ≡ l = cc in ap Name f
name_back x _ l e = absurd (cc)

pub spelled_as : (x : List ℤ) (labels : List ℕ) (k : Kind) (bits : ℕ → Bool) (a : Reading) (v : Value) → v ≡ at_point x a → IsSpelled labels k bits v
    → IsSpelledAs labels k bits a
spelled_as x labels kind.Bool bits a v is spells = truth_back x a (bits 0) (sym is ∙ spells)
spelled_as x labels kind.Int bits a v is spells = tt
spelled_as x labels (kind.Labels i) bits a v is spells = name_back x a (code (bits_for (slice_index_or labels i 0)) bits) (sym is ∙ spells)

module _ (s : System) (now next : State) (inputs : List Value) (row : List (Option Value)) (v : Valuation) (symbolic : List (Option Reading))
    (well : IsWell s) (typed : IsTyped s now inputs) (rows : IsWholeInstant s now inputs row) (is_next : IsNext s now inputs row next)
    (agreed : IsAgreed s v symbolic now inputs) where
  pub updates_are : wholes (memory_kinds s) next.kept ≡ forms.values (updates s v symbolic) (point s now inputs)
  updates_are =
      let given = gives s now next inputs row v symbolic well typed rows is_next agreed in
      let many : length (memory_kinds s) ≡ length s.memories = length-map s.memories (λ m. m.kind) in
      wholes_are (memory_kinds s) next.kept (λ m. slice_index_or next.kept m (Flag false)) (is_next.memories ∙ sym many) (λ m lt. refl)
      ∙ integers_are (point s now inputs) (memory_kinds s) (λ m. slice_index_or next.kept m (Flag false))
      (λ m. form_of (width s) v.test (updated s v symbolic m))
      (λ m lt. ap number (given.memories m (omega (arith, lt, many))) ∙ number_at (point s now inputs) (width s) v.test (updated s v symbolic m))

  pub leads_to : (w : Valuation) (after : List (Option Reading)) (later : List Value) → IsAgreed s w after next later → Leads s v symbolic w
  leads_to w after later other =
      let given = gives s now next inputs row v symbolic well typed rows is_next agreed in
      record {
        ticks = λ k lt. sym (other.0.ticks k lt) ∙ given.ticks k (omega (arith, well.ticks, lt));
        memories = λ m lt. spelled_as _ s.labels (kind_at (memory_kinds s) m) _ _ _ (given.memories m lt) (other.0.memories m lt);
      }
