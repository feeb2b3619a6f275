use Rattle.std.proofs.Common.{◌≡◌, ℕ, List, [], ◌∷◌, ◌++◌, set, sym, ◌∙◌, ap, subst, rules, Some, arith}
use Rattle.std.proofs.lemmas.Option.{get_or_from_slice_get}
use Rattle.std.specs.List.{Contains}
use Rattle.rv_calls.specs.{Components.Marks, Components.IsSearch, Components.IsSpread}
use Rattle.rv_calls.proofs.Searches.{search_start, search_step, search_end, search_last, search_edge}
use Rattle.rv_calls.proofs.reach.reach.Goals as goal

pub loop-v-init : goal.loop-v-init
loop-v-init c =
    let w : c.push.new.self ≡ c.args.from ∷ [] = c.in_ok-push.ensures.ok ∙ ap (λ l. l ++ c.args.from ∷ []) c.new-waiting.ensures in
    subst (λ (m : Marks). IsSearch c.args.graph.now c.args.allowed.now c.args.wanted c.args.from c.args.marks.now m c.push.new.self) (sym c.set.ensures)
    (subst (λ (w : List ℕ). IsSearch c.args.graph.now c.args.allowed.now c.args.wanted c.args.from c.args.marks.now
    (set c.args.marks.now c.args.from (Some c.args.from)) w) (sym w)
    (search_start c.args.allowed.now c.args.wanted c.args.from c.args.graph.now c.requires.vertices c.args.marks.now c.requires.from c.requires.marks
    c.requires.start c.requires.fresh))

pub at-requires : goal.at-requires
at-requires c =
    search_last c.args.allowed.now c.args.wanted c.args.from c.args.graph.now c.requires.vertices c.args.marks.now c.loop-v.marks c.loop-v.waiting
    c.pop.new.self c.in-Some.v c.loop-v.invariant c.in-Some.ensures.taken

pub spread-requires-clause-allowed : goal.spread-requires-clause-allowed
spread-requires-clause-allowed c v w =
    let same = c.as_slice-targets.ensures ∙ sym (get_or_from_slice_get c.args.graph.now c.in-Some.v c.at.result.now [] c.at.ensures.value) in
    let less = search_edge c.args.allowed.now c.args.wanted c.args.from c.args.graph.now c.requires.vertices c.args.marks.now c.loop-v.marks c.loop-v.waiting
    c.pop.new.self c.in-Some.v v c.loop-v.invariant c.in-Some.ensures.taken (subst (λ (ts : List ℕ). Contains ts v) same w) in
    omega (arith, less, c.requires.allowed)

pub spread-requires-clause-marks : goal.spread-requires-clause-marks
spread-requires-clause-marks c v w =
    let same = c.as_slice-targets.ensures ∙ sym (get_or_from_slice_get c.args.graph.now c.in-Some.v c.at.result.now [] c.at.ensures.value) in
    let less = search_edge c.args.allowed.now c.args.wanted c.args.from c.args.graph.now c.requires.vertices c.args.marks.now c.loop-v.marks c.loop-v.waiting
    c.pop.new.self c.in-Some.v v c.loop-v.invariant c.in-Some.ensures.taken (subst (λ (ts : List ℕ). Contains ts v) same w) in
    omega (arith, less, c.requires.marks, c.loop-v.invariant.size)

pub loop-v-preserved : goal.loop-v-preserved
loop-v-preserved c =
    let same = c.as_slice-targets.ensures ∙ sym (get_or_from_slice_get c.args.graph.now c.in-Some.v c.at.result.now [] c.at.ensures.value) in
    (search_step c.args.allowed.now c.args.wanted c.args.from c.args.graph.now c.requires.vertices c.args.marks.now c.loop-v.marks c.spread.new.marks
    c.loop-v.waiting c.pop.new.self c.spread.new.waiting c.in-Some.v
    c.loop-v.invariant c.in-Some.ensures.taken
    (subst (λ (ts : List ℕ). IsSpread c.args.allowed.now c.args.wanted c.args.from ts c.loop-v.marks c.pop.new.self c.spread.new.marks c.spread.new.waiting)
    same c.in_ok-spread.ensures)).0

pub loop-v-smaller : goal.loop-v-smaller
loop-v-smaller c =
    let same = c.as_slice-targets.ensures ∙ sym (get_or_from_slice_get c.args.graph.now c.in-Some.v c.at.result.now [] c.at.ensures.value) in
    (search_step c.args.allowed.now c.args.wanted c.args.from c.args.graph.now c.requires.vertices c.args.marks.now c.loop-v.marks c.spread.new.marks
    c.loop-v.waiting c.pop.new.self c.spread.new.waiting c.in-Some.v
    c.loop-v.invariant c.in-Some.ensures.taken
    (subst (λ (ts : List ℕ). IsSpread c.args.allowed.now c.args.wanted c.args.from ts c.loop-v.marks c.pop.new.self c.spread.new.marks c.spread.new.waiting)
    same c.in_ok-spread.ensures)).1

pub returns : goal.returns
returns c =
    let none : c.loop-v.waiting ≡ [] = search rules in
    search_end c.args.allowed.now c.args.wanted c.args.from c.args.graph.now c.requires.vertices c.args.marks.now c.loop-v.marks c.loop-v.waiting
    c.loop-v.invariant none
