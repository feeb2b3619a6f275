-- What an expression has in a row, at a state, depends only on the flows that it needs.
use Rattle.std.proofs.Common.{◌≡◌, ℕ, pos, ◌-ℤ◌, ◌+◌, Bool, true, false, not, cond, nat_le, unwrap_or, [], ◌∷◌, ◌++◌, refl, ap, arith, Option, Some}
use Rattle.std.proofs.Common.{None as Nothing}
use Rattle.std.specs.List.{All}
use Rattle.rv_base.specs.{declared.value.Value.Value, declared.value.Value.TheVariants.Flag, declared.value.Value.TheVariants.Whole}
use Rattle.rv_tree.specs.Tree.{Tree, Node, Form, Named, Not, Minus, Current, When, Binary, If, AtMostOne, Call, Trees, None, More, ProgramTree}
use Rattle.rv_tree.specs.Places.{Sites, is_flow}
use Rattle.rv_types.specs.Instances.{Right, Body, Output, Instance, place, absolute, clock_in, clock_taken, clock_of_arguments, output_place}
use Rattle.rv_types.specs.Needs.{flow_of, needs, form_needs, needs_all, needs_of_right}
use Rattle.rv_types.specs.{declared.typed.Clock.Clock, declared.typed.Clock.TheVariants.Base, Scopes.constant_value}
use Rattle.rv_meaning.specs.Instants.{State, is_on_in, memory, now, form_now, trues_now, value_now, right_now}
use Rattle.rv_meaning.specs.{Meaning.is_true, Meaning.number, Meaning.held, Meaning.is_on, Meaning.operate, Runs.Instant, Runs.cell}
use Rattle.rv_base.proofs.Lists.{all_left, all_right}

module _ (g h : Instant) where
  -- the rows have the same for this flow
  abbrev pub IsSameCell : Sites → Type 0
  IsSameCell p = cell g p ≡ cell h p

  -- a clock whose flow is the same
  on_alike : (k : Option Sites) → All IsSameCell (flow_of k) → is_on_in g k ≡ is_on_in h k
  on_alike Nothing same = refl
  on_alike (Some p) same = ap is_on (same 0 p (omega arith))

  -- a name of a flow that is needed, or a constant
  named_alike : (b : Bool) (p : Sites) (c : Value) → All IsSameCell (cond b (p ∷ []) []) → cond b (held (cell g p)) c ≡ cond b (held (cell h p)) c
  named_alike true p c same = ap held (same 0 p (omega arith))
  named_alike false p c same = refl

  module _ (program : ProgramTree) (state : State) (i : Instance) where
    mutual
      -- an expression, where what it needs is the same
      pub alike : (k : Clock) (e : Tree) → All IsSameCell (needs program i k e) → now program state g i e ≡ now program state h i e
      alike k (Node at site form) same = form_alike k site form (all_right IsSameCell (flow_of (absolute i k)) _ same)

      -- by its form
      form_alike : (k : Clock) (site : Option ℕ) (form : Form) → All IsSameCell (form_needs program i k site form)
          → form_now program state g i site form ≡ form_now program state h i site form
      form_alike k site (Named x) same = named_alike (is_flow i.node x) (place i x) (constant_value program x) same
      form_alike k site (Not e) same = ap (λ v. Flag (not (is_true v))) (alike k e same)
      form_alike k site (Minus e) same = ap (λ v. Whole (pos 0 -ℤ number v)) (alike k e same)
      form_alike k site (Binary o a b) same = λ j. operate o
          (not (state.ticked (clock_in i Base (Node 0 site (Binary o a b)))))
          (alike k a (all_left IsSameCell (needs program i k a) _ same) j)
          (alike k b (all_right IsSameCell (needs program i k a) _ same) j)
      form_alike k site (Current e) same = λ j. cond
          (on_of (clock_taken i Base e) e same j)
          (alike (clock_taken i Base e) e same j)
          (memory program state g i site e)
      form_alike k site (When e c) same = alike _ e same
      form_alike k site (If a b c) same = let later : All IsSameCell (needs program i k b ++ needs program i k c) = all_right IsSameCell
          (needs program i k a) _ same in λ j. cond
          (is_true (alike k a (all_left IsSameCell (needs program i k a) _ same) j))
          (alike k b (all_left IsSameCell (needs program i k b) _ later) j)
          (alike k c (all_right IsSameCell (needs program i k b) _ later) j)
      form_alike k site (AtMostOne es) same = ap (λ n. Flag (nat_le n 1)) (all_alike k es same)
      form_alike k site (Call f args) same = ap held (same 0 (output_place program i (unwrap_or site 0) f 0) (omega arith))
      form_alike k site _ same = refl

      -- some expressions
      all_alike : (k : Clock) (es : Trees) → All IsSameCell (needs_all program i k es) → trues_now program state g i es ≡ trues_now program state h i es
      all_alike k None same = refl
      all_alike k (More e es) same = λ j.
          cond (is_true (alike k e (all_left IsSameCell (needs program i k e) _ same) j)) 1 0
          + all_alike k es (all_right IsSameCell (needs program i k e) _ same) j

      -- the clock that it stands on
      on_of : (k : Clock) (e : Tree) → All IsSameCell (needs program i k e) → is_on_in g (absolute i k) ≡ is_on_in h (absolute i k)
      on_of k (Node at site form) same = on_alike (absolute i k) (all_left IsSameCell (flow_of (absolute i k)) _ same)

    -- what an expression has, present alike
    pub value_alike : (k : Clock) (e : Tree) → All IsSameCell (needs program i (clock_taken i k e) e)
        → value_now program state g i k e ≡ value_now program state h i k e
    value_alike k e same = λ j. cond (on_of (clock_taken i k e) e same j) (Some (alike (clock_taken i k e) e same j)) Nothing

    -- what a right side has depends on the flows that it needs
    pub right_alike : (k : Clock) (r : Right) → All IsSameCell (needs_of_right program i k r)
        → right_now program state g i k r ≡ right_now program state h i k r
    right_alike k (Body e) same = value_alike k e same
    right_alike k (Output c n) same = let clock = absolute i (clock_of_arguments i c.args) in λ j. cond
        (on_alike clock (all_left IsSameCell (flow_of clock) _ same) j)
        (Some (held (all_right IsSameCell (flow_of clock) _ same 0 (output_place program i c.site c.name n) (omega arith) j))) Nothing
