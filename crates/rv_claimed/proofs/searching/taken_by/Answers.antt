use Rattle.std.proofs.Common.{refl, sym, subst}
use Rattle.rv_diagram.specs.{Nodes.IsOrderedOver}
use Rattle.rv_diagram.proofs.Growing.{extends_trans}
use Rattle.rv_symbolic.proofs.Extending.{map_ok}
use Rattle.rv_proofs.proofs.Records.{kept_within}
use Rattle.rv_claims.specs.Claiming.{claim_of}
use Rattle.rv_claimed.proofs.Sought.{searched_later, means_of, refs_of, allowed_means}
use Rattle.rv_claimed.proofs.searching.taken_by.Goals as goal

pub premises-requires : goal.premises-requires
premises-requires c =
    let (s, thresholds, is) = c.requires in
    let given = is.given in
    let of = given.relation in
    let kept = is.kept in
    record { questions = (s, of.system, given.questions); given = kept_within s c.args.claim.now.rows kept.kept }

pub open_rows-requires : goal.open_rows-requires
open_rows-requires c =
    let (s, thresholds, is) = c.requires in
    let kept = is.kept in
    let set = kept.control in
    let later = searched_later s thresholds c.args.store.now c.premises.new.store c.args.relation.now c.args.questions.now c.args.claim.now
    c.premises.ensures.extends is in
    let there = later.given in
    let refs = refs_of s c.premises.new.store c.args.relation.now c.args.questions.now there c.parts.result.now c.parts.ensures in
    let means = means_of s c.premises.new.store c.args.relation.now c.args.questions.now there c.parts.result.now c.parts.ensures in
    record {
      allowed = refs.allowed;
      labels = c.in_ok-labels.ensures.labels;
      reached = subst (λ n. IsOrderedOver n c.args.claim.now.reached) (sym means.variables) set.ordered;
    }

pub returns-clause-extends : goal.returns-clause-extends
returns-clause-extends c = extends_trans c.args.store.now c.premises.new.store c.open_rows.new.store c.premises.ensures.extends c.open_rows.ensures.extends

pub returns-clause-taken : goal.returns-clause-taken
returns-clause-taken c s thresholds is some =
    let given = is.given in
    let of = given.relation in
    let later = searched_later s thresholds c.args.store.now c.premises.new.store c.args.relation.now c.args.questions.now c.args.claim.now
    c.premises.ensures.extends is in
    let there = later.given in
    map_ok c.open_rows.result _ _ (λ r h. h s (claim_of c.args.claim.now)
    (allowed_means s c.premises.new.store c.args.relation.now c.args.questions.now there c.parts.result.now c.parts.ensures) (λ v. refl)
    (c.in_ok-labels.ensures.premises s of.system given.questions some (claim_of c.args.claim.now) refl)) c.open_rows.ensures.taken
