use Rattle.std.proofs.Common.{List, map, sym, ◌∙◌, ap, subst}
use Rattle.std.specs.List.{Contains}
use Rattle.rv_tree.specs.Places.{Sites}
use Rattle.rv_instances.specs.declared.answer.Instance.{Instance}
use Rattle.rv_tests.proofs.Mapped.{of_map}
use Rattle.rv_tests.proofs.places.memory_text.Goals as goal

pub memories-requires : goal.memories-requires
memories-requires c = record {
  tree = c.requires.tree;
  settled = c.requires.settled;
  paths = λ path w.
      let are = c.in_ok-paths.ensures ∙ ap (map (λ (i : Instance). i.path)) c.as_slice.ensures in
      let x = of_map (λ (i : Instance). i.path) path c.args.source.now.order.instances (subst (λ (l : List Sites). Contains l path) are w) in
      let r = c.requires.instances.all.only x.0 x.1 in
      (r.0, r.1, sym (ap (λ (i : Instance). i.path) r.2) ∙ x.2);
}
