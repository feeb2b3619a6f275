use Rattle.std.proofs.{Common.◌≡◌, Common.List, Common.sym, Common.subst, Common.Result, Common.IfOk, Common.None as Nothing, lemmas.Result.IfOk-weaker}
use Rattle.rv_diagram.specs.declared.Triple.{Triple}
use Rattle.rv_base.specs.declared.value.Place.{Place}
use Rattle.rv_flat.specs.{declared.flat.Flat.Flat, declared.parts.Bit.Bit, FlatInstants.system_of, Lists.side_of, Lists.variable_of}
use Rattle.rv_flat.specs.declared.parts.Bit.TheVariants as bit
use Rattle.rv_flat.specs.declared.parts.Side as declared
use Rattle.rv_agreement.specs.Valuations.{Comparison, all_comparisons}
use Rattle.rv_tested.specs.{declared.rows.Answered.Answered, Rows.IsAnswered, Testing.row_in, Testing.row_of_variable}
use Rattle.rv_tested.proofs.testing.read_variable.Goals as goal

row_of_test : (f : Flat) (nodes : List Triple) {cs : List Comparison} {x : Bit} {p : Place} {s : declared.Side} {E : Type 0}
    → cs ≡ all_comparisons (system_of f) → x ≡ bit.Test p s → (r : Result Answered E)
    → IfOk r (IsAnswered nodes (row_in f cs p.sites (side_of s))) → IfOk r (IsAnswered nodes (row_of_variable f (variable_of x)))
row_of_test f nodes {cs} {x} {p} {s} all is r ok =
    IfOk-weaker r (IsAnswered nodes (row_in f cs p.sites (side_of s))) (IsAnswered nodes (row_of_variable f (variable_of x)))
    (λ a got. subst (λ (y : Bit). IsAnswered nodes (row_of_variable f (variable_of y)) a) (sym is)
    (subst (λ (l : List Comparison). IsAnswered nodes (row_in f l p.sites (side_of s)) a) all got)) ok

pub returns-in-Test-clause-ok : goal.returns-in-Test-clause-ok
returns-in-Test-clause-ok c = row_of_test c.args.flat.now c.read_test.new.store.nodes c.requires.all c.in-Test.is c.read_test.result c.read_test.ensures.ok

pub returns-in-MainTick-clause-ok : goal.returns-in-MainTick-clause-ok
returns-in-MainTick-clause-ok c = IfOk-weaker c.absent.result (λ (a : Answered). (nodes : List Triple) → IsAnswered nodes (λ v. Nothing) a)
    (IsAnswered c.args.store.now.nodes (row_of_variable c.args.flat.now (variable_of c.args.variable.now)))
    (λ a is. subst (λ (x : Bit). IsAnswered c.args.store.now.nodes (row_of_variable c.args.flat.now (variable_of x)) a) (sym c.in-MainTick.is)
    (is c.args.store.now.nodes)) c.absent.ensures.ok

pub returns-in-Tick-clause-ok : goal.returns-in-Tick-clause-ok
returns-in-Tick-clause-ok c = IfOk-weaker c.absent-in-Tick.result (λ (a : Answered). (nodes : List Triple) → IsAnswered nodes (λ v. Nothing) a)
    (IsAnswered c.args.store.now.nodes (row_of_variable c.args.flat.now (variable_of c.args.variable.now)))
    (λ a is. subst (λ (x : Bit). IsAnswered c.args.store.now.nodes (row_of_variable c.args.flat.now (variable_of x)) a) (sym c.in-Tick.is)
    (is c.args.store.now.nodes)) c.absent-in-Tick.ensures.ok

pub returns-in-Kept-clause-ok : goal.returns-in-Kept-clause-ok
returns-in-Kept-clause-ok c = IfOk-weaker c.absent-in-Kept.result (λ (a : Answered). (nodes : List Triple) → IsAnswered nodes (λ v. Nothing) a)
    (IsAnswered c.args.store.now.nodes (row_of_variable c.args.flat.now (variable_of c.args.variable.now)))
    (λ a is. subst (λ (x : Bit). IsAnswered c.args.store.now.nodes (row_of_variable c.args.flat.now (variable_of x)) a) (sym c.in-Kept.is)
    (is c.args.store.now.nodes)) c.absent-in-Kept.ensures.ok

pub returns-in-Next-clause-ok : goal.returns-in-Next-clause-ok
returns-in-Next-clause-ok c = IfOk-weaker c.absent-in-Next.result (λ (a : Answered). (nodes : List Triple) → IsAnswered nodes (λ v. Nothing) a)
    (IsAnswered c.args.store.now.nodes (row_of_variable c.args.flat.now (variable_of c.args.variable.now)))
    (λ a is. subst (λ (x : Bit). IsAnswered c.args.store.now.nodes (row_of_variable c.args.flat.now (variable_of x)) a) (sym c.in-Next.is)
    (is c.args.store.now.nodes)) c.absent-in-Next.ensures.ok

pub returns-in-Input-clause-ok : goal.returns-in-Input-clause-ok
returns-in-Input-clause-ok c = IfOk-weaker c.absent-in-Input.result (λ (a : Answered). (nodes : List Triple) → IsAnswered nodes (λ v. Nothing) a)
    (IsAnswered c.args.store.now.nodes (row_of_variable c.args.flat.now (variable_of c.args.variable.now)))
    (λ a is. subst (λ (x : Bit). IsAnswered c.args.store.now.nodes (row_of_variable c.args.flat.now (variable_of x)) a) (sym c.in-Input.is)
    (is c.args.store.now.nodes)) c.absent-in-Input.ensures.ok
