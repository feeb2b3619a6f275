use Rattle.std.proofs.Common.{◌≡◌, ◌∙◌, ◌-◌, ◌<◌, ◌++◌, ◌∷◌, [], ℕ, Bool, List, length, sym, subst, arith, false}
use Rattle.rv_diagram.specs.{Nodes.Valuation, Nodes.IsOrderedOver, Nodes.value_of, declared.frozen.Frozen.Frozen}
use Rattle.rv_diagram.proofs.Growing.{extends_trans}
use Rattle.rv_proofs.specs.{Systems.System, Ranges.IsControlSet}
use Rattle.rv_symbolic.specs.Stepped.{AreNextStates}
use Rattle.rv_walk.specs.{Extended.fresh_in, Extended.IsGrown, Walks.last_of, Walks.missing, Walks.IsWalk, Walks.IsDone}
use Rattle.rv_walk.proofs.{Stages.at_last, Rounds.kept_same, Rounds.round_done, Rounds.round_more, Rounds.round_less}
use Rattle.rv_walk.proofs.walking.advance.Goals as goal

pub step_from-requires : goal.step_from-requires
step_from-requires c =
    let e : last_of c.args.walk.now.sets ≡ c.at.result.now = at_last c.args.walk.now.sets c.at.result.now c.len-last.result c.len-last.ensures
    c.at.ensures.value in (
      c.requires.0,
      c.requires.1,
      subst (IsControlSet c.requires.0) e (c.requires.3.layers (length c.args.walk.now.sets - 1) (omega
          (arith, c.requires.3.some))).control,
    )

pub grow-requires-clause-next : goal.grow-requires-clause-next
grow-requires-clause-next c =
    let e : last_of c.args.walk.now.sets ≡ c.at.result.now = at_last c.args.walk.now.sets c.at.result.now c.len-last.result c.len-last.ensures
    c.at.ensures.value in
    let control : IsControlSet c.requires.0 c.at.result.now = subst (IsControlSet c.requires.0) e (c.requires.3.layers
    (length c.args.walk.now.sets - 1) (omega (arith, c.requires.3.some))).control in
    let variables : c.step_from.new.store.variables ≡ c.requires.0.variables = c.step_from.ensures.extends.variables ∙ c.requires.1.parts.variables in
    subst (λ (m : ℕ). IsOrderedOver m c.in_ok-step.step.set) (sym variables) (c.in_ok-step.ensures.exact c.requires.0 c.requires.1 control).control.ordered

pub returns-in_default-clause-ok : goal.returns-in_default-clause-ok
returns-in_default-clause-ok c s is w =
    let e : last_of c.args.walk.now.sets ≡ c.at.result.now = at_last c.args.walk.now.sets c.at.result.now c.len-last.result c.len-last.ensures
    c.at.ensures.value in
    let control : IsControlSet s c.at.result.now = subst (IsControlSet s) e (w.layers (length c.args.walk.now.sets - 1) (omega (arith, w.some))).control in
    let st : AreNextStates s (last_of c.args.walk.now.sets) c.in_ok-step.step = subst (λ (f : Frozen). AreNextStates s f c.in_ok-step.step) (sym e)
    (c.in_ok-step.ensures.exact s is control) in
    let none : (v : Valuation) → fresh_in (value_of c.step_from.new.store.nodes c.args.walk.now.reached) c.in_ok-step.step.set v ≡ false =
    rw c.in_default.is at c.in_ok-grown.ensures.exact in
    subst (λ (b : Bool). IsDone s c.args.walk.now.sets (value_of c.grow.new.store.nodes c.args.walk.now.reached) b) (sym c.both-good.ensures)
    (round_done s c.args.store.now c.step_from.new.store c.grow.new.store c.args.walk.now.sets c.args.walk.now.reached c.args.walk.now.good c.in_ok-step.step
    c.requires.2 c.step_from.ensures.extends w st c.grow.ensures.extends none)

pub returns-in_default-clause-still : goal.returns-in_default-clause-still
returns-in_default-clause-still c _ =
    kept_same c.args.store.now c.grow.new.store c.args.walk.now.reached
    (extends_trans c.args.store.now c.step_from.new.store c.grow.new.store c.step_from.ensures.extends c.grow.ensures.extends) c.requires.2

pub returns-clause-ok : goal.returns-clause-ok
returns-clause-ok c s is w =
    let e : last_of c.args.walk.now.sets ≡ c.at.result.now = at_last c.args.walk.now.sets c.at.result.now c.len-last.result c.len-last.ensures
    c.at.ensures.value in
    let control : IsControlSet s c.at.result.now = subst (IsControlSet s) e (w.layers (length c.args.walk.now.sets - 1) (omega (arith, w.some))).control in
    let st : AreNextStates s (last_of c.args.walk.now.sets) c.in_ok-step.step = subst (λ (f : Frozen). AreNextStates s f c.in_ok-step.step) (sym e)
    (c.in_ok-step.ensures.exact s is control) in
    let variables : c.step_from.new.store.variables ≡ s.variables = c.step_from.ensures.extends.variables ∙ is.parts.variables in
    let x : IsGrown c.step_from.new.store c.grow.new.store c.args.walk.now.reached c.in_ok-step.step.set c.in-Some.grown = rw c.in-Some.is at
    c.in_ok-grown.ensures.exact in
    subst (λ (l : List Frozen). IsWalk s l (value_of c.grow.new.store.nodes c.in-Some.grown.all) c.both-good.result) (sym c.in_ok-push.ensures.ok)
    (subst (λ (b : Bool). IsWalk s (c.args.walk.now.sets ++ c.in-Some.grown.fresh ∷ []) (value_of c.grow.new.store.nodes c.in-Some.grown.all) b)
    (sym c.both-good.ensures)
    (round_more s c.args.store.now c.step_from.new.store c.grow.new.store c.args.walk.now.sets c.args.walk.now.reached c.args.walk.now.good c.in_ok-step.step
    c.requires.2 c.step_from.ensures.extends w st c.in-Some.grown variables x))

pub returns-clause-less : goal.returns-clause-less
returns-clause-less c _ v =
    let s : System = c.requires.0 in
    let is = c.requires.1 in
    let w = c.requires.3 in
    let e : last_of c.args.walk.now.sets ≡ c.at.result.now = at_last c.args.walk.now.sets c.at.result.now c.len-last.result c.len-last.ensures
    c.at.ensures.value in
    let control : IsControlSet s c.at.result.now = subst (IsControlSet s) e (w.layers (length c.args.walk.now.sets - 1) (omega (arith, w.some))).control in
    let st : AreNextStates s (last_of c.args.walk.now.sets) c.in_ok-step.step = subst (λ (f : Frozen). AreNextStates s f c.in_ok-step.step) (sym e)
    (c.in_ok-step.ensures.exact s is control) in
    let variables : c.step_from.new.store.variables ≡ s.variables = c.step_from.ensures.extends.variables ∙ is.parts.variables in
    let x : IsGrown c.step_from.new.store c.grow.new.store c.args.walk.now.reached c.in_ok-step.step.set c.in-Some.grown = rw c.in-Some.is at
    c.in_ok-grown.ensures.exact in
    subst (λ (n : ℕ). missing n (value_of c.grow.new.store.nodes c.in-Some.grown.all) v
    < missing n (value_of c.args.store.now.nodes c.args.walk.now.reached) v) (sym is.parts.states)
    (round_less s c.args.store.now c.step_from.new.store c.grow.new.store c.args.walk.now.sets c.args.walk.now.reached c.args.walk.now.good c.in_ok-step.step
    c.requires.2 c.step_from.ensures.extends w st c.in-Some.grown variables x v)
