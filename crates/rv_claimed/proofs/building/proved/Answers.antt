use Rattle.std.proofs.Common.{◌+◌, ◌<◌, ◌^◌, length, arith}
use Rattle.rv_claimed.proofs.Giving.{given_there}
use Rattle.rv_claimed.proofs.building.proved.Goals as goal

pub few_entries-requires : goal.few_entries-requires
few_entries-requires c =
    let (s, thresholds, given, kept, closed) = c.requires in
    let few : length c.args.claim.now.rows + length c.args.questions.now.rows < 2 ^ 32 = omega
    (arith, c.len.ensures, c.len-many.ensures, c.if-len-many-gt-MOST.false) in
    (s, thresholds, record { given = given; kept = kept; few = few })

pub over_cases-requires-clause-given : goal.over_cases-requires-clause-given
over_cases-requires-clause-given c =
    let (s, thresholds, given, kept, closed) = c.requires in (
      s,
      thresholds,
      given_there s c.args.store.now c.few_entries.new.store c.args.relation.now c.args.questions.now c.few_entries.ensures.same given,
      kept,
      closed,
    )

pub returns-in-Bad-clause-proof : goal.returns-in-Bad-clause-proof
returns-in-Bad-clause-proof c s thresholds given kept closed =
    let few : length c.args.claim.now.rows + length c.args.questions.now.rows < 2 ^ 32 = omega
    (arith, c.len.ensures, c.len-many.ensures, c.if-len-many-gt-MOST.false) in
    rw c.in-Bad.is at c.in_ok-few_entries.ensures.proof s thresholds (record { given = given; kept = kept; few = few })

pub returns-in-Shown-clause-proof : goal.returns-in-Shown-clause-proof
returns-in-Shown-clause-proof c s thresholds given kept closed =
    let few : length c.args.claim.now.rows + length c.args.questions.now.rows < 2 ^ 32 = omega
    (arith, c.len.ensures, c.len-many.ensures, c.if-len-many-gt-MOST.false) in
    rw c.in-Shown.is at c.in_ok-few_entries.ensures.proof s thresholds (record { given = given; kept = kept; few = few })

pub returns-in-Unknown-clause-proof : goal.returns-in-Unknown-clause-proof
returns-in-Unknown-clause-proof c s thresholds given kept closed =
    c.over_cases.ensures.proof s thresholds
    (given_there s c.args.store.now c.few_entries.new.store c.args.relation.now c.args.questions.now c.few_entries.ensures.same given) kept closed
