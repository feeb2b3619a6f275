use Rattle.std.proofs.{Common.◌≡◌, Common.◌<◌, Common.length, Common.sym, Common.◌∙◌, Common.ap, Common.subst, lemmas.Option.get_or_from_slice_get}
use Rattle.rv_tree.specs.Tree.{program_tree}
use Rattle.rv_calls.specs.{Graphs.IsGraph, Graphs.IsOrdered, Callings.call_graph}
use Rattle.rv_calls.proofs.Recursions.{is_graph, table_size}
use Rattle.rv_sizes.proofs.Measured.{total_read}
use Rattle.rv_sizes.proofs.measure.total_of.Goals as goal

pub totals-requires : goal.totals-requires
totals-requires c =
    let p = program_tree c.args.p.now in
    let t = c.requires.nodes.calls in
    record {
      size = c.requires.size ∙ sym (ap length t ∙ table_size p c.requires.named);
      capped = c.requires.own;
      graph = subst (λ l. IsGraph (call_graph l)) (sym t) (is_graph p c.requires.named);
      ordered = subst (λ l. IsOrdered (call_graph l) c.args.nodes.now.order) (sym t) c.requires.nodes.order;
    }

pub at-requires : goal.at-requires
at-requires c =
    let p = program_tree c.args.p.now in
    let size : length c.in_ok-sums.sums ≡ length p.nodes = c.in_ok-sums.ensures.size ∙ ap length c.requires.nodes.calls ∙ table_size p c.requires.named in
    subst (λ n. c.args.main < n) (sym size) c.requires.main

pub returns : goal.returns
returns c =
    total_read (program_tree c.args.p.now) c.requires.named c.args.own.now c.in_ok-sums.sums c.args.nodes.now.calls c.args.main c.at.result.now c.requires.main
    c.requires.nodes.calls
    c.in_ok-sums.ensures (get_or_from_slice_get c.in_ok-sums.sums c.args.main c.at.result.now 0 c.at.ensures.value)
