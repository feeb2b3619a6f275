use Rattle.std.proofs.Common.{true, ◌≡◌, ◌∙◌, ◌+◌, ◌<◌, sym, ap, subst, ℕ, List, length, arith}
use Rattle.rv_diagram.specs.{declared.Triple.Triple, Nodes.Diagrams, Nodes.value_of, Nodes.IsOrderedOver, Several.ref_at}
use Rattle.rv_accept.specs.{Steps.AreRefs, Steps.has, Held.follow}
use Rattle.rv_accept.proofs.Moving.{child_found, child_means}
use Rattle.rv_accept.proofs.words.led_into.Goals as goal

pub returns-clause-found : goal.returns-clause-found
returns-clause-found c =
    let list : c.as_slice-2.result.now ≡ c.in_ok-moved.moved.items = c.as_slice-2.ensures.value in
    let size : length c.as_slice-2.result.now ≡ length c.in_ok-kept.kept.nodes = ap (λ (l : List ℕ). length l) list ∙ c.in_ok-moved.ensures.size
    ∙ ap (λ (l : List Triple). length l) c.as_slice.ensures in
    let root : c.in_ok-kept.kept.root < length c.in_ok-kept.kept.nodes + 2 = c.in_ok-kept.ensures.ordered.root in
    child_found c.moved_nodes.new.store c.as_slice-2.result.now c.in_ok-kept.kept.root c.moved_child.result
    (subst (λ (l : List ℕ). AreRefs c.moved_nodes.new.store l) (sym list) c.in_ok-moved.ensures.refs)
    (omega arith) c.moved_child.ensures.constant c.moved_child.ensures.node

pub returns-clause-means : goal.returns-clause-means
returns-clause-means c =
    let list : c.as_slice-2.result.now ≡ c.in_ok-moved.moved.items = c.as_slice-2.ensures.value in
    let size : length c.as_slice-2.result.now ≡ length c.in_ok-kept.kept.nodes = ap (λ (l : List ℕ). length l) list ∙ c.in_ok-moved.ensures.size
    ∙ ap (λ (l : List Triple). length l) c.as_slice.ensures in
    let root : c.in_ok-kept.kept.root < length c.in_ok-kept.kept.nodes + 2 = c.in_ok-kept.ensures.ordered.root in
    let given : c.as_slice.result.now ≡ c.in_ok-kept.kept.nodes = c.as_slice.ensures in
    let right : c.ordered-ordered.result ≡ true = c.ordered-ordered.ensures.exact.1 (subst (λ (m : ℕ). IsOrderedOver m c.in_ok-kept.kept)
    (sym (c.variables-variables.ensures.is ∙ ap (λ (d : Diagrams). d.variables) c.reached.ensures.same)) c.in_ok-kept.ensures.ordered) in
    λ v. child_means c.moved_nodes.new.store c.reached.new.store c.args.next.now c.in_ok-kept.kept.nodes c.as_slice-2.result.now c.in_ok-kept.kept.root
    c.moved_child.result c.mark-count.ensures.expanded (c.ordered-ordered.ensures.expanded right)
    (λ n low w. ap (λ (l : List ℕ). value_of c.moved_nodes.new.store.nodes (ref_at l n) w) list
    ∙ c.in_ok-moved.ensures.means n (let z : length c.as_slice.result.now ≡ length c.in_ok-kept.kept.nodes = ap (λ
    (l : List Triple). length l) given in omega arith) w
    ∙ ap (λ (l : List Triple). value_of l (n + 2) (follow c.reached.new.store c.args.next.now w)) given)
    (omega arith) c.moved_child.ensures.constant c.moved_child.ensures.node v
    ∙ c.in_ok-kept.ensures.means (follow c.reached.new.store c.args.next.now v)
    ∙ ap (λ (d : Diagrams). has c.args.set.now (follow d c.args.next.now v)) c.reached.ensures.same
