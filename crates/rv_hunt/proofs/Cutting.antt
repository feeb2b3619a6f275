-- A trace cut after the instant at which it falsifies.
use Rattle.std.proofs.Common.{◌≡◌, ℕ, ◌+◌, List, length, take, sym, ◌∙◌, subst}
use Rattle.rv_base.specs.{declared.value.Trace.Trace, declared.value.Value.Value}
use Rattle.rv_tree.specs.{Tree.ProgramTree, Places.Identifier}
use Rattle.rv_replay.specs.{Replays.IsFalsifiedAt, Traces.IsTrace}
use Rattle.rv_probe.specs.Probes.{cut}
use Rattle.rv_probe.proofs.Cuts.{cut_count, cut_falsified, cut_trace}

pub cut_falsifies : (program : ProgramTree) (main : Identifier) (whole : Trace) (last : ℕ) → IsTrace program main whole → IsFalsifiedAt program main whole last
    → (left : List (List Value)) → left ≡ take (last + 1) whole.instants → (t : Trace) → record { starts = whole.starts; instants = left } ≡ t
    → IsTrace program main t × ((k : ℕ) × (length t.instants ≡ k + 1) × IsFalsifiedAt program main t k)
cut_falsifies program main whole last trace is left so t same =
    let first : cut last whole ≡ t = (λ i. record { starts = whole.starts; instants = sym so i }) ∙ same in
    subst (λ (u : Trace). IsTrace program main u × ((k : ℕ) × (length u.instants ≡ k + 1) × IsFalsifiedAt program main u k)) first
    (cut_trace program main whole last trace, (last, cut_count program main whole last is, cut_falsified program main whole last is))
