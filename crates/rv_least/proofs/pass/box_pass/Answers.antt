use Rattle.std.proofs.Common.{ℤ, List, sym, subst, Result, IfOk}
use Rattle.rv_diagram.specs.declared.store.StoreFault.{StoreFault}
use Rattle.rv_walk.specs.declared.end.BoxEnd.{BoxEnd}
use Rattle.rv_boxes.specs.{Rounds.IsGiven, Passing.IsEndOf}
use Rattle.rv_boxes.proofs.Ending.{exactly}
use Rattle.rv_symbolic.proofs.Extending.{map_ok}
use Rattle.rv_least.proofs.pass.box_pass.Goals as goal

pub pass_in-requires : goal.pass_in-requires
pass_in-requires c =
    let s = c.requires.system.0 in
    let p = c.requires.system.1 in
    let q = p.questions in
    let given : IsGiven s c.args.store.now c.args.relation.now c.args.questions.now c.in_ok-frame.frame =
    record { relation = p.relation; questions = p.questions; frame = c.in_ok-frame.ensures.frame s p.wide (sym q.many_tests) } in
    (s, given)

pub returns-clause-good : goal.returns-clause-good
returns-clause-good c s x p e =
    let q = p.questions in
    let given : IsGiven s c.args.store.now c.args.relation.now c.args.questions.now c.in_ok-frame.frame =
    record { relation = p.relation; questions = p.questions; frame = c.in_ok-frame.ensures.frame s p.wide (sym q.many_tests) } in
    let ends = subst (λ (ts : List ℤ). IfOk c.pass_in.result (IsEndOf s ts)) c.in_ok-frame.ensures.thresholds (c.pass_in.ensures.ends s given) in
    (subst (λ (o : Result BoxEnd StoreFault). IfOk o (IsEndOf s c.args.thresholds.now)) e ends).0.accepted

pub returns-clause-plain : goal.returns-clause-plain
returns-clause-plain c s x p e =
    let q = p.questions in
    let given : IsGiven s c.args.store.now c.args.relation.now c.args.questions.now c.in_ok-frame.frame =
    record { relation = p.relation; questions = p.questions; frame = c.in_ok-frame.ensures.frame s p.wide (sym q.many_tests) } in
    let ends = subst (λ (ts : List ℤ). IfOk c.pass_in.result (IsEndOf s ts)) c.in_ok-frame.ensures.thresholds (c.pass_in.ensures.ends s given) in
    (subst (λ (o : Result BoxEnd StoreFault). IfOk o (IsEndOf s c.args.thresholds.now)) e ends).0.plain

pub returns-clause-exactly : goal.returns-clause-exactly
returns-clause-exactly c s p =
    let q = p.questions in
    let given : IsGiven s c.args.store.now c.args.relation.now c.args.questions.now c.in_ok-frame.frame =
    record { relation = p.relation; questions = p.questions; frame = c.in_ok-frame.ensures.frame s p.wide (sym q.many_tests) } in
    let ends = subst (λ (ts : List ℤ). IfOk c.pass_in.result (IsEndOf s ts)) c.in_ok-frame.ensures.thresholds (c.pass_in.ensures.ends s given) in
    map_ok c.pass_in.result (IsEndOf s c.args.thresholds.now) _ (λ x end. exactly s c.args.thresholds.now x end) ends

pub returns-clause-bad : goal.returns-clause-bad
returns-clause-bad c s l p e =
    let q = p.questions in
    let given : IsGiven s c.args.store.now c.args.relation.now c.args.questions.now c.in_ok-frame.frame =
    record { relation = p.relation; questions = p.questions; frame = c.in_ok-frame.ensures.frame s p.wide (sym q.many_tests) } in
    let ends = subst (λ (ts : List ℤ). IfOk c.pass_in.result (IsEndOf s ts)) c.in_ok-frame.ensures.thresholds (c.pass_in.ensures.ends s given) in
    (subst (λ (o : Result BoxEnd StoreFault). IfOk o (IsEndOf s c.args.thresholds.now)) e ends).1
