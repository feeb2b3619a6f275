use Rattle.std.proofs.Common.{ℕ}
use Rattle.rv_proofs.specs.Systems.{System}
use Rattle.rv_least.specs.Turned.{sign_of, AreGivenFor, AreTurned}
use Rattle.rv_least.proofs.turned.turned_forms.Given as goal

abbrev pub invariant-loop-place : goal.invariant-loop-place
invariant-loop-place l = (s : System) (k : ℕ) → AreGivenFor s l.store.nodes k l.answers l.forms
    → AreTurned s l.store.nodes k (sign_of l.sign) l.answers l.place l.list
