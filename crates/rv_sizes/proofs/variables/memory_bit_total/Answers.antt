use Rattle.std.proofs.Common.{◌≡◌, ◌≤◌, List, length, sym, subst, ℕ}
use Rattle.rv_tree.specs.{declared.tree.TypeDecl.TypeDecl, Tree.program_tree, Bounded.most}
use Rattle.rv_types.specs.{Variables.memory_bits, Variables.over_instances, Values.labels_at, Instances.name_at}
use Rattle.rv_instances.proofs.{LabelCodes.few_labels, Lists.if_ok}
use Rattle.rv_sizes.specs.{Totals.total_at, Capped.capped}
use Rattle.rv_calls.specs.Callings.{callings_of}
use Rattle.rv_sizes.proofs.{Measured.of_each, Measured.sum_measured, Varied.bits_measured}
use Rattle.rv_sizes.proofs.variables.memory_bit_total.Goals as goal

pub memory_bits_of-requires : goal.memory_bits_of-requires
memory_bits_of-requires c = record {
  few = λ k. subst (λ (ds : List TypeDecl). labels_at ds k ≤ most) (sym c.as_slice.ensures)
      (few_labels (program_tree c.args.p.now) c.requires.bounded k);
}

pub total_of-requires : goal.total_of-requires
total_of-requires c =
    let p = program_tree c.args.p.now in
    let own = bits_measured p c.as_slice.result.now c.in_ok-kinds.kinds c.in_ok-own.own c.as_slice.ensures c.in_ok-kinds.ensures c.in_ok-own.ensures in
    let each = of_each (memory_bits p) p.nodes c.in_ok-own.own own in
    record { named = c.requires.named; nodes = c.requires.nodes; main = c.requires.main; size = each.0; own = each.1 }

pub returns : goal.returns
returns c =
    let p = program_tree c.args.p.now in
    let own = bits_measured p c.as_slice.result.now c.in_ok-kinds.kinds c.in_ok-own.own c.as_slice.ensures c.in_ok-kinds.ensures c.in_ok-own.ensures in
    if_ok c.total_of.result (λ (sum : ℕ). sum ≡ capped (total_at c.in_ok-own.own (callings_of p) (length p.nodes) c.args.main))
    (λ (sum : ℕ). sum ≡ capped (over_instances p (name_at p c.args.main) (memory_bits p)))
    (λ sum is. sum_measured p c.requires.named c.args.main c.requires.main (memory_bits p) c.in_ok-own.own sum own is) c.total_of.ensures
