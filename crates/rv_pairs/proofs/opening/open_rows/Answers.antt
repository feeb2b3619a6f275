use Rattle.std.proofs.Common.{◌≡◌, ◌↔◌, true}
use Rattle.std.proofs.lemmas.Result.{IfOk-weaker}
use Rattle.rv_rows.specs.Multipliers.{AreShutAtOnce}
use Rattle.rv_diagram.specs.Nodes.{Valuation, IsRef, IsMeant, value_of}
use Rattle.rv_walk.specs.Ends.{has}
use Rattle.rv_proofs.specs.RowClaims.{RowClaim}
use Rattle.rv_proofs.specs.Systems.{System}
use Rattle.rv_pairs.specs.{Labels.active, Taking.ArePremises, Taking.IsTakenAt}
use Rattle.rv_pairs.proofs.Admitting.{taken_is, ok_both}
use Rattle.rv_pairs.proofs.opening.open_rows.Goals as goal

pub returns-clause-taken : goal.returns-clause-taken
returns-clause-taken c =
    IfOk-weaker c.open_within.result
    (λ r. IsRef c.open_within.new.store.nodes r × ((v : Valuation) → (value_of c.open_within.new.store.nodes r v ≡ true)
    ↔ (((value_of c.args.store.now.nodes c.args.allowed v ≡ true) × (has c.args.reached.now v ≡ true))
    × ¬ AreShutAtOnce (active c.args.store.now.nodes c.args.labels.now v))))
    (λ r. (s : System) (claim : RowClaim) → IsMeant c.args.store.now.nodes s.allowed c.args.allowed
    → ((v : Valuation) → claim.reached v ≡ has c.args.reached.now v) → ArePremises s c.args.store.now.nodes claim c.args.labels.now
    → IsTakenAt s c.open_within.new.store.nodes claim r)
    (λ r (found, exact) s claim meant reached are. record {
      found = found;
      exact = λ v. taken_is s claim v (value_of c.open_within.new.store.nodes r v)
          (value_of c.args.store.now.nodes c.args.allowed v) (has c.args.reached.now v) (active c.args.store.now.nodes c.args.labels.now v)
          (exact v) (meant.1 v) (reached v) (are v);
    })
    (ok_both c.open_within.result (IsRef c.open_within.new.store.nodes) (λ r. (v : Valuation) → (value_of c.open_within.new.store.nodes r v ≡ true)
    ↔ (((value_of c.args.store.now.nodes c.args.allowed v ≡ true) × (has c.args.reached.now v ≡ true))
    × ¬ AreShutAtOnce (active c.args.store.now.nodes c.args.labels.now v))) c.open_within.ensures.found c.open_within.ensures.exact)
