use Rattle.std.proofs.{Common.◌+◌, Common.◌-◌, Common.◌*◌, Common.◌/◌, Common.◌∙◌, Common.length, Common.ap, Common.sym, lemmas.Result.err_from_is_err_and}
use Rattle.rv_invfile.specs.{Ahead.here, Texts.natural}
use Rattle.rv_invariant.specs.{Groups.group_count, Groups.upto, Pieces.frozen_of, Pieces.is_below, Pieces.is_node_field, Pieces.is_root, Pieces.triple_at}
use Rattle.rv_invariant.proofs.Grouping.{grouped-is, groups-stop, none-wrong, three}
use Rattle.rv_invariant.proofs.diagrams.read_frozen.Goals as goal

pub returns-in_err-nodes : goal.returns-in_err-nodes
returns-in_err-nodes c =
    let r = here c.args.records.now in
    let n = (c.len-fields.result - 2) / 3 in
    let k = grouped-is c.args.word.now 3 r c.requires in
    let size = three.counted (length r) k.1 k.2 ∙ ap (λ l. 2 + 3 * ((l - 2) / 3)) (sym c.len-fields.ensures.exact) in
    let root = ap (λ t. is_below (group_count 3 r + 2) t) (sym c.field.ensures)
    ∙ ap (λ l. is_below ((l - 2) / 3 + 2) c.field.result.now) (sym c.len-fields.ensures.exact) ∙ c.in-Some.ensures.0 in
    let p = err_from_is_err_and c.from_residual.result c.from_residual.ensures.1 in
    rw (p.1, p.2) (groups-stop 3 three is_root (is_node_field c.args.shape c.args.states) c.args.word.now c.args.records.now n (upto triple_at r n)
    (frozen_of r) c.in_err-nodes.field-0.0 size root c.in_err-nodes.ensures)

pub returns : goal.returns
returns c =
    let r = here c.args.records.now in
    let n = (c.len-fields.result - 2) / 3 in
    let k = grouped-is c.args.word.now 3 r c.requires in
    let size = three.counted (length r) k.1 k.2 ∙ ap (λ l. 2 + 3 * ((l - 2) / 3)) (sym c.len-fields.ensures.exact) in
    let root = ap (λ t. is_below (group_count 3 r + 2) t) (sym c.field.ensures)
    ∙ ap (λ l. is_below ((l - 2) / 3 + 2) c.field.result.now) (sym c.len-fields.ensures.exact) ∙ c.in-Some.ensures.0 in
    let nodes = c.in_ok-nodes.ensures.0 ∙ ap (λ l. upto triple_at r ((l - 2) / 3)) c.len-fields.ensures.exact in
    let told = c.in-Some.ensures.1 ∙ ap natural c.field.ensures in (
      λ i. record { nodes = nodes i; root = told i },
      none-wrong 3 three is_root (is_node_field c.args.shape c.args.states) r n size root
          c.in_ok-nodes.ensures.1,
    )
