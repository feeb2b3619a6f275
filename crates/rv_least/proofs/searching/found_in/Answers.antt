use Rattle.std.proofs.Common.{ℕ, ◌+◌, ◌<◌, ◌^◌, ◌≤◌, arith, refl, sym, subst}
use Rattle.rv_diagram.specs.{Nodes.Diagrams, Growing.Extends}
use Rattle.rv_symbolic.specs.{declared.relation.Parts.Parts, Represented.HaveRefs, Represented.AreParts}
use Rattle.rv_walk.specs.Ends.{has}
use Rattle.rv_boxes.specs.Bounding.{AreBothRows}
use Rattle.rv_boxes.proofs.{Giving.given_there, Rounding.rows_kept, Rounding.rows_few}
use Rattle.rv_least.proofs.Opening.{given_later}
use Rattle.rv_least.proofs.searching.found_in.Goals as goal

pub initial-requires : goal.initial-requires
initial-requires c = let (s, given, kept) = c.requires in (s, given.relation)

pub opened_anew-requires : goal.opened_anew-requires
opened_anew-requires c =
    let (s, given, kept) = c.requires in (
      s,
      c.args.frame.now,
      given_there s c.args.store.now c.without.new.store c.args.relation.now c.args.questions.now c.args.frame.now c.without.ensures.same given,
      refl,
      kept,
    )

pub sought-requires : goal.sought-requires
sought-requires c =
    let (s, given, kept) = c.requires in
    let r = given.relation in
    let p = r.parts in
    let f = given.frame in
    let y = r.system in
    let limits = y.limits in
    let here = given_there s c.args.store.now c.without.new.store c.args.relation.now c.args.questions.now c.args.frame.now c.without.ensures.same given in
    let later = given_later s c.without.new.store c.opened_anew.new.store c.args.relation.now c.args.questions.now c.args.frame.now
    c.opened_anew.ensures.extends here in
    let rl = later.relation in
    let out = rl.laid_out in
    let initial = c.in_ok-first.ensures s r in
    let o = c.in_ok-opening.ensures.opened s c.args.frame.now here refl kept in
    let t = o.taken in
    let both : AreBothRows c.args.claim.now.upper c.args.claim.now.lower s.memories c.in_ok-given.given =
    subst (λ (m : ℕ). AreBothRows c.args.claim.now.upper c.args.claim.now.lower m c.in_ok-given.given) kept.uppers c.in_ok-given.ensures in
    let few : s.memories ≤ 64 = limits.memories in
    let tests : s.tests + 128 < 2 ^ 32 = limits.tests in
    let rows = rows_few s (has c.args.claim.now.reached) c.args.claim.now.upper c.args.claim.now.lower c.in_ok-given.given both in (
      s,
      record {
        system = y;
        questions = later.questions;
        refs = subst (λ (x : Parts). HaveRefs c.opened_anew.new.store x) (sym c.parts.ensures) out.refs;
        parts = subst (λ (x : Parts). AreParts s c.opened_anew.new.store x) (sym c.parts.ensures) rl.parts;
        way = sym f.columns;
        first_set = initial.control;
        rest_set = c.in_ok-rest.ensures.control s p.variables kept.control initial.control;
        reached_set = kept.control;
        taken_found = t.found;
        kept = rows_kept s (has c.args.claim.now.reached) c.args.claim.now.upper c.args.claim.now.lower c.in_ok-given.given both
            c.args.frame.now.thresholds c.args.frame.now.opposites f.small f.turned_small kept.upper_among kept.lower_among few;
        few = omega (arith, rows, few, tests);
      },
    )

pub returns-clause-extends : goal.returns-clause-extends
returns-clause-extends c =
    subst (λ (d : Diagrams). Extends c.args.store.now d) (sym c.sought.ensures.same)
    (subst (λ (d : Diagrams). Extends d c.opened_anew.new.store) c.without.ensures.same c.opened_anew.ensures.extends)

pub returns-clause-found : goal.returns-clause-found
returns-clause-found c s given kept =
    let r = given.relation in
    let p = r.parts in
    let f = given.frame in
    let y = r.system in
    let limits = y.limits in
    let here = given_there s c.args.store.now c.without.new.store c.args.relation.now c.args.questions.now c.args.frame.now c.without.ensures.same given in
    let later = given_later s c.without.new.store c.opened_anew.new.store c.args.relation.now c.args.questions.now c.args.frame.now
    c.opened_anew.ensures.extends here in
    let rl = later.relation in
    let out = rl.laid_out in
    let initial = c.in_ok-first.ensures s r in
    let o = c.in_ok-opening.ensures.opened s c.args.frame.now here refl kept in
    let t = o.taken in
    let both : AreBothRows c.args.claim.now.upper c.args.claim.now.lower s.memories c.in_ok-given.given =
    subst (λ (m : ℕ). AreBothRows c.args.claim.now.upper c.args.claim.now.lower m c.in_ok-given.given) kept.uppers c.in_ok-given.ensures in
    let few : s.memories ≤ 64 = limits.memories in
    let tests : s.tests + 128 < 2 ^ 32 = limits.tests in
    let rows = rows_few s (has c.args.claim.now.reached) c.args.claim.now.upper c.args.claim.now.lower c.in_ok-given.given both in
    c.sought.ensures.found s (record {
      system = y;
      questions = later.questions;
      refs = subst (λ (x : Parts). HaveRefs c.opened_anew.new.store x) (sym c.parts.ensures) out.refs;
      parts = subst (λ (x : Parts). AreParts s c.opened_anew.new.store x) (sym c.parts.ensures) rl.parts;
      way = sym f.columns;
      first_set = initial.control;
      rest_set = c.in_ok-rest.ensures.control s p.variables kept.control initial.control;
      reached_set = kept.control;
      taken_found = t.found;
      kept = rows_kept s (has c.args.claim.now.reached) c.args.claim.now.upper c.args.claim.now.lower c.in_ok-given.given both
          c.args.frame.now.thresholds c.args.frame.now.opposites f.small f.turned_small kept.upper_among kept.lower_among few;
      few = omega (arith, rows, few, tests);
    })
