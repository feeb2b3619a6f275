use Rattle.std.proofs.Common.{◌∙◌, ◌≤◌, ◌++◌, length, sym, arith}
use Rattle.rv_proofs.specs.Scopes.{before, after, each}
use Rattle.rv_accept.proofs.{Listing.length_each, Judged.judged_left, Judged.found_few, Judged.asked_few, Judged.both_few}
use Rattle.rv_accept.proofs.implying.first_in_loop.Goals as goal

pub first_after-requires : goal.first_after-requires
first_after-requires c = let (s, is, limits, a, b, d, e) = c.requires in (s, is, limits, a)

pub returns-in-Some : goal.returns-in-Some
returns-in-Some c = let h = rw c.in-Some.is at c.in_ok-n.ensures in judged_left c.args.facts.now.rows c.args.facts.now.forms
    (each after c.args.location.now.entry c.args.location.now.first c.args.first.now)
    ((each before c.args.location.now.first c.args.location.now.around c.args.before_all.now) ++ ((each after
    (c.args.location.now.around ++ c.args.location.now.state) c.args.location.now.around c.args.around.now) ++ (each after
    (c.args.location.now.around ++ c.args.location.now.state) c.args.location.now.state c.args.state.now))) c.in-Some.n h

pub first_in_rest-requires : goal.first_in_rest-requires
first_in_rest-requires c = let (s, is, limits, a, b, d, e) = c.requires in (s, is, limits, b, d, e)

pub later-requires-clause-many : goal.later-requires-clause-many
later-requires-clause-many c = let (s, is, limits, a, b, d, e) = c.requires in let few : length c.args.location.now.first ≤ 1024 = a.kept.1 in omega
    (arith, c.len.ensures)

pub later-requires-clause-found : goal.later-requires-clause-found
later-requires-clause-found c = let (s, is, limits, a, b, d, e) = c.requires in
    let turns = both_few (each after (c.args.location.now.around ++ c.args.location.now.state) c.args.location.now.around c.args.around.now) (each after
    (c.args.location.now.around ++ c.args.location.now.state) c.args.location.now.state c.args.state.now) 1024 1024 (asked_few s after
    (c.args.location.now.around ++ c.args.location.now.state) c.args.location.now.around c.args.around.now d)
    (asked_few s after (c.args.location.now.around ++ c.args.location.now.state) c.args.location.now.state c.args.state.now e) in
    let few = both_few (each before c.args.location.now.first c.args.location.now.around c.args.before_all.now) ((each after
    (c.args.location.now.around ++ c.args.location.now.state) c.args.location.now.around c.args.around.now) ++ (each after
    (c.args.location.now.around ++ c.args.location.now.state) c.args.location.now.state c.args.state.now)) 1024 2048
    (asked_few s before c.args.location.now.first c.args.location.now.around c.args.before_all.now b) (omega arith) in
    found_few c.args.facts.now.rows c.args.facts.now.forms ((each before c.args.location.now.first c.args.location.now.around c.args.before_all.now) ++
    ((each after (c.args.location.now.around ++ c.args.location.now.state) c.args.location.now.around c.args.around.now) ++ (each after
    (c.args.location.now.around ++ c.args.location.now.state) c.args.location.now.state c.args.state.now))) c.in_ok-found.found
    (omega arith) c.in_ok-found.ensures

pub returns : goal.returns
returns c = let (s, is, limits, a, b, d, e) = c.requires in
    let none = rw c.in_default.is at c.in_ok-n.ensures in
    c.later.ensures c.args.facts.now.rows c.args.facts.now.forms (each after c.args.location.now.entry c.args.location.now.first c.args.first.now)
    ((each before c.args.location.now.first c.args.location.now.around c.args.before_all.now) ++ ((each after
    (c.args.location.now.around ++ c.args.location.now.state) c.args.location.now.around c.args.around.now) ++ (each after
    (c.args.location.now.around ++ c.args.location.now.state) c.args.location.now.state c.args.state.now)))
    (length_each after c.args.location.now.entry c.args.location.now.first c.args.first.now a.counts ∙ sym c.len.ensures) none c.in_ok-found.ensures
