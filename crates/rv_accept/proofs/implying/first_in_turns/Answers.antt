use Rattle.std.proofs.Common.{◌∙◌, ◌≤◌, ◌++◌, List, Some, length, sym, subst, arith, None as Nothing}
use Rattle.rv_rows.specs.declared.linear.Row.{Row}
use Rattle.rv_proofs.specs.{Systems.System, Systems.IsSystem, Scopes.after, Scopes.each}
use Rattle.rv_accept.specs.Passing.{AreLimited, AreAsked, AreJudged}
use Rattle.rv_accept.proofs.{Listing.length_each, Judged.judged_left, Judged.found_few, Judged.asked_few}
use Rattle.rv_accept.proofs.implying.first_in_turns.Goals as goal

pub first_after-requires : goal.first_after-requires
first_after-requires c = let (s, is, limits, a, b) = c.requires in
    subst (λ (g : List Row). (s : System) × IsSystem s × AreLimited s c.args.facts.now.rows c.args.facts.now.forms
    × AreAsked s g c.args.location.now.around c.args.around.now) (sym c.in_ok-given.ensures) (s, is, limits, a)

pub returns-in-Some : goal.returns-in-Some
returns-in-Some c =
    let h = rw c.in-Some.is at c.in_ok-n.ensures in
    judged_left c.args.facts.now.rows c.args.facts.now.forms (each after
    (c.args.location.now.around ++ c.args.location.now.state) c.args.location.now.around c.args.around.now) (each after
    (c.args.location.now.around ++ c.args.location.now.state) c.args.location.now.state c.args.state.now) c.in-Some.n
    (subst (λ (g : List Row). AreJudged c.args.facts.now.rows c.args.facts.now.forms (each after g c.args.location.now.around c.args.around.now)
    (Some c.in-Some.n)) c.in_ok-given.ensures h)

pub first_after-requires-2 : goal.first_after-requires-2
first_after-requires-2 c = let (s, is, limits, a, b) = c.requires in
    subst (λ (g : List Row). (s : System) × IsSystem s × AreLimited s c.args.facts.now.rows c.args.facts.now.forms
    × AreAsked s g c.args.location.now.state c.args.state.now) (sym c.in_ok-given.ensures) (s, is, limits, b)

pub later-requires-clause-many : goal.later-requires-clause-many
later-requires-clause-many c = let (s, is, limits, a, b) = c.requires in let few : length c.args.location.now.around ≤ 1024 = a.kept.1 in omega
    (arith, c.len.ensures)

pub later-requires-clause-found : goal.later-requires-clause-found
later-requires-clause-found c = let (s, is, limits, a, b) = c.requires in
    let h = subst (λ (g : List Row). AreJudged c.args.facts.now.rows c.args.facts.now.forms
    (each after g c.args.location.now.state c.args.state.now) c.in_ok-found.found) c.in_ok-given.ensures c.in_ok-found.ensures in
    let few = asked_few s after (c.args.location.now.around ++ c.args.location.now.state) c.args.location.now.state c.args.state.now b in
    found_few c.args.facts.now.rows c.args.facts.now.forms (each after
    (c.args.location.now.around ++ c.args.location.now.state) c.args.location.now.state c.args.state.now) c.in_ok-found.found (omega arith) h

pub returns : goal.returns
returns c = let (s, is, limits, a, b) = c.requires in
    let none = rw c.in_default.is at c.in_ok-n.ensures in
    c.later.ensures c.args.facts.now.rows c.args.facts.now.forms (each after
    (c.args.location.now.around ++ c.args.location.now.state) c.args.location.now.around c.args.around.now) (each after
    (c.args.location.now.around ++ c.args.location.now.state) c.args.location.now.state c.args.state.now) (length_each after
    (c.args.location.now.around ++ c.args.location.now.state) c.args.location.now.around c.args.around.now a.counts ∙ sym c.len.ensures)
    (subst (λ (g : List Row). AreJudged c.args.facts.now.rows c.args.facts.now.forms
    (each after g c.args.location.now.around c.args.around.now) Nothing) c.in_ok-given.ensures none)
    (subst (λ (g : List Row). AreJudged c.args.facts.now.rows c.args.facts.now.forms
    (each after g c.args.location.now.state c.args.state.now) c.in_ok-found.found) c.in_ok-given.ensures c.in_ok-found.ensures)
