use Rattle.std.proofs.Common.{◌∷◌, [], ap, sym}
use Rattle.rv_flat.specs.{declared.parts.Bit.Bit, Lists.variable_of}
use Rattle.rv_control.specs.Control.{order_tests}
use Rattle.rv_tested.proofs.testing.one_of.Goals as goal

pub returns-in-Test : goal.returns-in-Test
unfolding order_tests
returns-in-Test c = ap (λ (x : Bit). order_tests (variable_of x ∷ [])) (sym c.in-Test.is)

pub returns-in-MainTick : goal.returns-in-MainTick
unfolding order_tests
returns-in-MainTick c = ap (λ (x : Bit). order_tests (variable_of x ∷ [])) (sym c.in-MainTick.is)

pub returns-in-Tick : goal.returns-in-Tick
unfolding order_tests
returns-in-Tick c = ap (λ (x : Bit). order_tests (variable_of x ∷ [])) (sym c.in-Tick.is)

pub returns-in-Kept : goal.returns-in-Kept
unfolding order_tests
returns-in-Kept c = ap (λ (x : Bit). order_tests (variable_of x ∷ [])) (sym c.in-Kept.is)

pub returns-in-Next : goal.returns-in-Next
unfolding order_tests
returns-in-Next c = ap (λ (x : Bit). order_tests (variable_of x ∷ [])) (sym c.in-Next.is)

pub returns-in-Input : goal.returns-in-Input
unfolding order_tests
returns-in-Input c = ap (λ (x : Bit). order_tests (variable_of x ∷ [])) (sym c.in-Input.is)
