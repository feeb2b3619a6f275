use Rattle.std.proofs.Common.{◌∙◌, ap}
use Rattle.rv_diagram.specs.Nodes.{Diagrams}
use Rattle.rv_paths.proofs.planning.with_layers.Goals as goal

pub united-requires : goal.united-requires
united-requires c =
    let (s, variables, first, layers) = c.requires in (
      s,
      ap (λ (d : Diagrams). d.variables) c.loop-layer.invariant.same ∙ variables,
      c.loop-layer.invariant.control s variables first layers,
      layers c.loop-layer.layer c.at.result.now c.at.ensures.value,
    )

pub loop-layer-preserved : goal.loop-layer-preserved
loop-layer-preserved c = record {
  same = c.united.ensures.same ∙ c.loop-layer.invariant.same;
  control = λ s variables first layers.
      c.in_ok-reached.ensures.control s (ap (λ (d : Diagrams). d.variables) c.loop-layer.invariant.same ∙ variables)
      (c.loop-layer.invariant.control s variables first layers) (layers c.loop-layer.layer c.at.result.now c.at.ensures.value);
}
