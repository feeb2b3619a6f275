use Rattle.std.proofs.Common.{◌^◌, List, refl, ap, ◌∙◌, subst}
use Rattle.std.specs.Prelude.{Some, None}
use Rattle.rv_rows.specs.declared.farkas.Multipliers.{Multipliers}
use Rattle.rv_invfile.specs.{Readers.Reads, Readers.run, Parts.times}
use Rattle.rv_invariant.specs.{Certificates.reach_rule, Certificates.known_at, Continues.Then, Pieces.a_proof}
use Rattle.rv_invariant.proofs.{Going.known-is, Choices.continues-after, Choices.continues-read}
use Rattle.rv_invariant.proofs.entries.read_reach.Goals as goal

pub returns-in-Some : goal.returns-in-Some
returns-in-Some c =
    let known = c.args.known.now in
    let a = c.args.records.now in
    let p = c.args.premises in
    let t = c.args.target in
    let is = known-is known t c.at-count.result.now c.at-count.ensures.value ∙ c.in-Some.is in
    record {
      read = continues-after (λ (next : Then (List Multipliers)). run (reach_rule p t (known_at known t) next known) a)
          (λ (next : Then (List Multipliers)). run (reach_rule p t (Some c.in-Some.count) next known) a)
          c.read_proofs.result known c.read_proofs.new.records (λ next w. ap (λ o. run (reach_rule p t o next known) a) is)
          (continues-read (times c.in-Some.count (a_proof (2 ^ 30) p)) a c.read_proofs.result known c.read_proofs.new.records
          (subst (λ n. Reads (λ (x : List Multipliers). x) (run (times n (a_proof (2 ^ 30) p)) a) c.read_proofs.result c.read_proofs.new.records) c.from.ensures
          c.read_proofs.ensures));
      same = refl;
    }

pub returns-in-None : goal.returns-in-None
returns-in-None c =
    let known = c.args.known.now in
    let a = c.args.records.now in
    let p = c.args.premises in
    let t = c.args.target in
    let is = known-is known t c.at-count.result.now c.at-count.ensures.value ∙ c.in-None.is in
    record {
      read = continues-after (λ (next : Then (List Multipliers)). run (reach_rule p t (known_at known t) next known) a)
          (λ (next : Then (List Multipliers)). run (reach_rule p t None next known) a)
          c.read_unknown.result c.read_unknown.new.known c.read_unknown.new.records (λ next w. ap (λ o. run (reach_rule p t o next known) a) is)
          c.read_unknown.ensures.read;
      same = c.read_unknown.ensures.same;
    }
