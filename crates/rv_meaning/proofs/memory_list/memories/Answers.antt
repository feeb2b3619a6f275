use Rattle.std.proofs.Common.{◌≡◌, List, length, map, sym, ◌∙◌, ap, subst, arith, get_or, []}
use Rattle.std.proofs.lemmas.List.{length-map}
use Rattle.std.specs.List.{Contains, flat_map}
use Rattle.rv_tree.specs.{Places.Sites, Tree.node_tree, Tree.program_tree}
use Rattle.rv_types.specs.{Instances.name_at, Instances.no_node, Lists.sites_of}
use Rattle.rv_meaning.specs.{Callings.callee_in, Leading.callee_at, Remembered.AreSites, Remembered.places_at}
use Rattle.rv_meaning.proofs.{Leads.is_node, Leads.settled, Leads.main_node, MemoryPlaces.are_memory_places}
use Rattle.rv_meaning.proofs.memory_list.memories.Goals as goal

pub callees_of-requires : goal.callees_of-requires
callees_of-requires c =
    let b = c.requires.tree.bounded in
    let few = b.nodes in let same = ap length c.as_slice.ensures in omega (arith, few, same, length-map c.args.p.now.nodes node_tree)

pub sites_of_nodes-requires : goal.sites_of_nodes-requires
sites_of_nodes-requires c = λ n w. let b = c.requires.tree.bounded in b.node_flows n (subst (λ l. Contains (map node_tree l) n) c.as_slice-2.ensures w)

pub returns : goal.returns
returns c =
    let p = program_tree c.args.p.now in
    let t = c.args.t.now in
    let rules = settled p t c.requires.settled in
    let well = c.well_formed_programs.ensures p (name_at p t.main) t c.requires.tree rules in
    let next = callee_in c.in_ok-callees.callees in
    let found : sites_of c.in_ok-places.places ≡ flat_map (places_at next c.in_ok-sites.sites t.main) c.args.paths.now =
    c.in_ok-places.ensures
    ∙ (λ i. flat_map (places_at (callee_in (c.as_slice-4.ensures i)) (c.as_slice-5.ensures i) t.main) (c.as_slice-3.ensures i)) in
    are_memory_places p (name_at p t.main) well (is_node p t c.requires.settled) t.main (main_node p t c.requires.settled) c.args.paths.now c.requires.paths
    next (λ k s. c.in_ok-callees.ensures k s ∙ ap (λ ns. callee_at (map node_tree ns) k s) c.as_slice.ensures)
    c.in_ok-sites.sites (λ k. subst (λ ns. AreSites (get_or (map node_tree ns) k no_node) (get_or c.in_ok-sites.sites k [])) c.as_slice-2.ensures
    (c.in_ok-sites.ensures k))
    (sites_of c.sorted.result) c.sorted.ensures.rising
    (λ q w. c.sorted.ensures.all q (subst (λ (l : List Sites). Contains l q) (sym found) w))
    (λ q w. subst (λ (l : List Sites). Contains l q) found (c.sorted.ensures.only q w))
