use Rattle.std.proofs.Common.{inl, inr, refl, sym, subst}
use Rattle.std.proofs.lemmas.Bool.{MatchBool-at_false}
use Rattle.rv_diagram.specs.{Nodes.Diagrams, Nodes.value_of, Nodes.IsOrderedOver, declared.frozen.Frozen.Frozen}
use Rattle.rv_split.specs.{Partitions.AreParts, Partitions.IsStateSet, Splits.IsEven, Splits.IsDivided}
use Rattle.rv_split.proofs.Replacing.{parts_new}
use Rattle.rv_split.proofs.Dividing.{part_is, part_set, even_by, replaced_of}
use Rattle.rv_split.proofs.partition.Partition.split_by.Goals as goal

pub returns-then-not-divided-clause-step : goal.returns-then-not-divided-clause-step
returns-then-not-divided-clause-step c = inr (inl (
  refl,
  subst (λ (f : Frozen). IsEven f (λ v. v c.args.x))
      (sym (part_is c.args.self.now.parts c.args.at c.at.result.now c.at.ensures.value))
      (even_by c.at.result.now c.args.by.now c.args.x c.requires.means
      (MatchBool-at_false (IsDivided c.at.result.now (value_of c.args.by.now.nodes c.args.by.now.root))
      (IsEven c.at.result.now (value_of c.args.by.now.nodes c.args.by.now.root)) c.if-not-divided.true c.in_ok-divided.ensures.exact)),
))

pub cut_by-requires-clause-set : goal.cut_by-requires-clause-set
cut_by-requires-clause-set c = subst (λ (d : Diagrams). IsOrderedOver d.variables c.at-2.result.now) (sym c.divides.ensures.same)
    (part_set c.args.store.now.variables c.args.self.now.state c.args.self.now.parts c.args.at c.at-2.result.now c.requires.parts c.requires.at
    c.at-2.ensures.value).ordered

pub returns-clause-step : goal.returns-clause-step
returns-clause-step c = inr (inr (replaced_of c.args.self.now.parts c.replace.new.self.parts c.args.at (λ v. v c.args.x) c.at-2.result.now
    c.in_ok-halves.halves.yes c.in_ok-halves.halves.no c.requires.at c.at-2.ensures.value c.in_ok-halves.ensures.cut c.in_ok-replace.ensures.parts))

pub returns-clause-parts : goal.returns-clause-parts
returns-clause-parts c =
    let state = c.args.self.now.state in
    let both : IsStateSet c.args.store.now.variables c.args.self.now.state c.in_ok-halves.halves.yes
    × IsStateSet c.args.store.now.variables c.args.self.now.state c.in_ok-halves.halves.no =
    subst (λ (d : Diagrams). IsStateSet d.variables c.args.self.now.state c.in_ok-halves.halves.yes
    × IsStateSet d.variables c.args.self.now.state c.in_ok-halves.halves.no) c.divides.ensures.same
    (c.in_ok-halves.ensures.states c.args.self.now.state
    (subst (λ (d : Diagrams). IsStateSet d.variables c.args.self.now.state c.at-2.result.now) (sym c.divides.ensures.same)
    (part_set c.args.store.now.variables c.args.self.now.state c.args.self.now.parts c.args.at c.at-2.result.now c.requires.parts c.requires.at
    c.at-2.ensures.value))
    (subst (λ (d : Diagrams). IsStateSet d.variables c.args.self.now.state c.args.by.now) (sym c.divides.ensures.same) c.requires.by)) in
    let new : AreParts c.args.store.now.variables c.args.self.now.state c.replace.new.self.parts =
    parts_new c.args.self.now.parts c.replace.new.self.parts c.args.at (λ v. v c.args.x)
    (replaced_of c.args.self.now.parts c.replace.new.self.parts c.args.at (λ v. v c.args.x) c.at-2.result.now
    c.in_ok-halves.halves.yes c.in_ok-halves.halves.no c.requires.at c.at-2.ensures.value c.in_ok-halves.ensures.cut c.in_ok-replace.ensures.parts)
    c.args.store.now.variables c.args.self.now.state c.requires.parts both.0 both.1 in
    new
