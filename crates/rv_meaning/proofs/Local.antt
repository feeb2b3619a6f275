-- The value of an expression depends only on the earlier instants and on the flows that it needs.
use Rattle.std.proofs.Common.{◌≡◌, ℕ, zero, suc, ◌+◌, ◌<◌, ◌≤◌, pos, ◌-ℤ◌, Bool, true, false, not, ◌||◌, cond, unwrap_or, [], ◌∷◌, ◌++◌, refl, ap, arith}
use Rattle.std.proofs.Common.{Option, Some, nat_le, None as Nothing}
use Rattle.std.specs.List.{All}
use Rattle.rv_base.specs.{declared.value.Value.Value, declared.value.Value.TheVariants.Flag, declared.value.Value.TheVariants.Whole}
use Rattle.rv_tree.specs.Tree.{Tree, Node, Form, Named, Not, Minus, Pre, Current, When, Binary, If, AtMostOne, Call, Trees, None, More, ProgramTree}
use Rattle.rv_tree.specs.Places.{Sites, is_flow}
use Rattle.rv_types.specs.Instances.{Right, Body, Output, Instance, place, absolute, clock_in, clock_taken, clock_of_arguments, output_place}
use Rattle.rv_types.specs.Needs.{flow_of, needs, form_needs, needs_all, needs_of_right}
use Rattle.rv_types.specs.{declared.typed.Clock.Clock, declared.typed.Clock.TheVariants.Base, Scopes.constant_value}
use Rattle.rv_meaning.specs.Meaning.{Cells, is_true, number, held, is_on, operate, is_there, was_there, last_before, kept_place, content, form_content, trues}
use Rattle.rv_meaning.specs.Meaning.{value, right_value}
use Rattle.rv_base.proofs.Lists.{all_left, all_right}

module _ (g h : Cells) where
  -- the histories are the same before u
  abbrev pub AreAlike : ℕ → Type 0
  AreAlike u = (s : ℕ) (p : Sites) → s < u → g s p ≡ h s p

  -- they have the same at t for this flow
  abbrev pub IsAlike : ℕ → Sites → Type 0
  IsAlike t p = g t p ≡ h t p

  -- a clock before u
  pub there_before : (u : ℕ) → AreAlike u → (k : Option Sites) (t : ℕ) → t < u → is_there g k t ≡ is_there h k t
  there_before u alike Nothing t lt = refl
  there_before u alike (Some p) t lt = ap is_on (alike t p lt)

  -- a clock whose flow is the same
  there_now : (k : Option Sites) (t : ℕ) → All (IsAlike t) (flow_of k) → is_there g k t ≡ is_there h k t
  there_now Nothing t same = refl
  there_now (Some p) t same = ap is_on (same 0 p (omega arith))

  -- whether a clock was there
  was_before : (u : ℕ) → AreAlike u → (k : Option Sites) (t : ℕ) → t ≤ u → was_there g k t ≡ was_there h k t
  was_before u alike k zero le = refl
  was_before u alike k (suc t) le = λ i. there_before u alike k t (omega arith) i || was_before u alike k t (omega arith) i

  -- a memory
  last_alike : (u : ℕ) → AreAlike u → (k : Option Sites) (a b : ℕ → Value) (start : Value) (t : ℕ) → t ≤ u → ((s : ℕ) → s < t → a s ≡ b s)
      → last_before g k a start t ≡ last_before h k b start t
  last_alike u alike k a b start zero le same = refl
  last_alike u alike k a b start (suc t) le same = λ i. cond
      (there_before u alike k t (omega arith) i)
      (same t (omega arith) i)
      (last_alike u alike k a b start t (omega arith) (λ s lt. same s (omega arith)) i)

  -- a name of a flow that is needed, or a constant
  named_now : (b : Bool) (p : Sites) (c : Value) (t : ℕ) → All (IsAlike t) (cond b (p ∷ []) []) → cond b (held (g t p)) c ≡ cond b (held (h t p)) c
  named_now true p c t same = ap held (same 0 p (omega arith))
  named_now false p c t same = refl

  module _ (program : ProgramTree) (starts : Sites → Value) (i : Instance) where
    mutual
      -- an expression at t, where what it needs is the same
      pub now : (k : Clock) (e : Tree) (t : ℕ) → AreAlike t → All (IsAlike t) (needs program i k e)
          → content program starts g i e t ≡ content program starts h i e t
      now k (Node at site form) t alike same = form_now k site form t alike (all_right (IsAlike t) (flow_of (absolute i k)) _ same)

      -- before an instant up to which the histories are the same it needs nothing
      before : (e : Tree) (u t : ℕ) → AreAlike u → t < u → content program starts g i e t ≡ content program starts h i e t
      before (Node at site form) u t alike lt = form_now Base site form t (λ s p less. alike s p (omega arith)) (λ j d less. alike t _ lt)

      -- by its form
      form_now : (k : Clock) (site : Option ℕ) (form : Form) (t : ℕ) → AreAlike t → All (IsAlike t) (form_needs program i k site form)
          → form_content program starts g i site form t ≡ form_content program starts h i site form t
      form_now k site (Named x) t alike same = named_now (is_flow i.node x) (place i x) (constant_value program x) t same
      form_now k site (Not e) t alike same = ap (λ v. Flag (not (is_true v))) (now k e t alike same)
      form_now k site (Minus e) t alike same = ap (λ v. Whole (pos 0 -ℤ number v)) (now k e t alike same)
      form_now k site (Binary o a b) t alike same = λ j. operate o
          (not (was_before t alike (clock_in i Base (Node 0 site (Binary o a b))) t (omega arith) j))
          (now k a t alike (all_left (IsAlike t) (needs program i k a) _ same) j)
          (now k b t alike (all_right (IsAlike t) (needs program i k a) _ same) j)
      form_now k site (Pre e) t alike same = last_alike t alike (clock_in i Base e) _ _ _ t (omega arith) (λ s less. before e t s alike less)
      form_now k site (Current e) t alike same = λ j. cond
          (there_of (clock_taken i Base e) e t same j)
          (now (clock_taken i Base e) e t alike same j)
          (last_alike t alike (clock_in i Base e) (content program starts g i e) (content program starts h i e) (starts (kept_place i site e)) t (omega arith)
          (λ s less. before e t s alike less) j)
      form_now k site (When e c) t alike same = now _ e t alike same
      form_now k site (If a b c) t alike same =
          let later : All (IsAlike t) (needs program i k b ++ needs program i k c) = all_right (IsAlike t) (needs program i k a) _ same in λ j. cond
          (is_true (now k a t alike (all_left (IsAlike t) (needs program i k a) _ same) j))
          (now k b t alike (all_left (IsAlike t) (needs program i k b) _ later) j)
          (now k c t alike (all_right (IsAlike t) (needs program i k b) _ later) j)
      form_now k site (AtMostOne es) t alike same = ap (λ n. Flag (nat_le n 1)) (all_now k es t alike same)
      form_now k site (Call f args) t alike same = ap held (same 0 (output_place program i (unwrap_or site 0) f 0) (omega arith))
      form_now k site _ t alike same = refl

      -- some expressions
      all_now : (k : Clock) (es : Trees) (t : ℕ) → AreAlike t → All (IsAlike t) (needs_all program i k es)
          → trues program starts g i es t ≡ trues program starts h i es t
      all_now k None t alike same = refl
      all_now k (More e es) t alike same = λ j.
          cond (is_true (now k e t alike (all_left (IsAlike t) (needs program i k e) _ same) j)) 1 0
          + all_now k es t alike (all_right (IsAlike t) (needs program i k e) _ same) j

      -- the clock that it stands on
      there_of : (k : Clock) (e : Tree) (t : ℕ) → All (IsAlike t) (needs program i k e) → is_there g (absolute i k) t ≡ is_there h (absolute i k) t
      there_of k (Node at site form) t same = there_now (absolute i k) t (all_left (IsAlike t) (flow_of (absolute i k)) _ same)

    -- the value of an expression at t, which takes the clock k where it is free
    pub value_now : (k : Clock) (e : Tree) (t : ℕ) → AreAlike t → All (IsAlike t) (needs program i (clock_taken i k e) e)
        → value program starts g i k e t ≡ value program starts h i k e t
    value_now k e t alike same = λ j. cond (there_of (clock_taken i k e) e t same j) (Some (now (clock_taken i k e) e t alike same j)) Nothing

    -- the value of a right side at t
    pub right_now : (k : Clock) (r : Right) (t : ℕ) → AreAlike t → All (IsAlike t) (needs_of_right program i k r)
        → right_value program starts g i k r t ≡ right_value program starts h i k r t
    right_now k (Body e) t alike same = value_now k e t alike same
    right_now k (Output c n) t alike same = let clock = absolute i (clock_of_arguments i c.args) in λ j. cond
        (there_now clock t (all_left (IsAlike t) (flow_of clock) _ same) j)
        (Some (held (all_right (IsAlike t) (flow_of clock) _ same 0 (output_place program i c.site c.name n) (omega arith) j))) Nothing
