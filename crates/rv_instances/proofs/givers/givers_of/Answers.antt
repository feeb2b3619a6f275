use Rattle.std.proofs.Common.{◌≡◌, ℕ, ◌+◌, inl, inr, map, sym, subst, arith, List, Some}
use Rattle.std.proofs.lemmas.Bool.{cases_eq}
use Rattle.std.specs.List.{Contains}
use Rattle.rv_types.specs.Instances.{calls, IsRight}
use Rattle.rv_instances.specs.Giving.{IsGiven, first_of, number_at}
use Rattle.rv_instances.specs.{declared.givers.Giver.Giver, Expanded.program_of, Expanded.main_of, Givers.AreGivers, Layouts.callee_or_main, Layouts.node_at}
use Rattle.rv_instances.proofs.{AllGiven.all_given, AllGiven.are_givers, Lists.if_ok}
use Rattle.rv_instances.proofs.givers.givers_of.Goals as goal

pub loop-instance-preserved : goal.loop-instance-preserved
loop-instance-preserved c =
    let x = c.args.expanded.now in let p = program_of x in let ins = x.instances.now in
    let t = c.loop-instance.instance in
    let both : (k : ℕ) → IsGiven c.loop-instance.found k → IsGiven c.give_arguments.new.found k = λ k g. c.give_arguments.ensures.kept k
    (c.give_rights.ensures.kept k g) in
    record {
      given = c.give_arguments.ensures.given;
      inputs = λ j lt. both j (c.loop-instance.invariant.inputs j lt);
      rights = λ m y r lt right. elim (cases_eq m t) [
        | inl last ↦
            c.give_arguments.ensures.kept (number_at p ins m y)
            (subst (λ n. IsGiven c.give_rights.new.found (number_at p ins n y)) (sym last)
            (c.give_rights.ensures.rights y r (subst (λ n. IsRight (node_at p ins n) y r) last right)))
        | inr other ↦ both (number_at p ins m y) (c.loop-instance.invariant.rights m y r (omega (arith, lt, other)) right)
      ];
      arguments = λ m d j e lt w arg. elim (cases_eq m t) [
        | inl last ↦
            subst (λ n. IsGiven c.give_arguments.new.found (first_of p ins (callee_or_main c.args.layout.now.callees n d.site) + j)) (sym last)
            (c.give_arguments.ensures.arguments d j e (subst (λ n. Contains (calls (node_at p ins n)) d) last w) arg)
        | inr other ↦ both (first_of p ins (callee_or_main c.args.layout.now.callees m d.site) + j)
            (c.loop-instance.invariant.arguments m d j e (omega (arith, lt, other)) w arg)
      ];
      end = c.loop-instance.invariant.end;
    }

pub all_found-requires : goal.all_found-requires
all_found-requires c k lt =
    let x = c.args.expanded.now in let done = c.loop-instance-test.false in
    let end = c.loop-instance.invariant.end in
    all_given (program_of x) (main_of x) x.instances.now c.requires.known.expanded c.args.layout.now.callees c.requires.layout.callees c.loop-instance.found
    c.loop-instance.invariant.inputs (λ m y r less. c.loop-instance.invariant.rights m y r (omega (arith, less, done, end)))
    (λ m d j e less. c.loop-instance.invariant.arguments m d j e (omega (arith, less, done, end)))
    k (omega (arith, lt, c.loop-instance.invariant.given.size))

pub returns : goal.returns
returns c =
    let x = c.args.expanded.now in
    if_ok c.all_found.result (λ (givers : List Giver). map Some givers ≡ c.loop-instance.found) (AreGivers (program_of x) (main_of x) x.instances.now)
    (λ givers is. are_givers (program_of x) (main_of x) x.instances.now c.requires.known.expanded c.loop-instance.found givers c.loop-instance.invariant.given
    is) c.all_found.ensures
