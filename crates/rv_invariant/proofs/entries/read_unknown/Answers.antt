use Rattle.std.proofs.Common.{◌^◌, [], List, length, refl, sym, ap, ◌∙◌}
use Rattle.std.proofs.{lemmas.List.length-set, lemmas.Result.err_from_is_err_and}
use Rattle.std.specs.Prelude.{Some, None, slice_set}
use Rattle.rv_rows.specs.declared.farkas.Multipliers.{Multipliers}
use Rattle.rv_invfile.specs.{Readers.run, Parts.turns}
use Rattle.rv_invariant.specs.{Certificates.reach_rule, Certificates.learn, Continues.Then, Pieces.a_proof}
use Rattle.rv_invariant.proofs.Choices.{continues-stop}
use Rattle.rv_invariant.proofs.entries.read_unknown.Goals as goal

pub returns-in_err-reach : goal.returns-in_err-reach
returns-in_err-reach c =
    let known = c.args.known.now in
    let a = c.args.records.now in
    let p = err_from_is_err_and c.from_residual.result c.from_residual.ensures.1 in
    record {
      read = rw (p.1, p.2) (continues-stop (λ (next : Then (List Multipliers)). run (reach_rule c.args.premises c.args.target None next known) a)
          (λ (next : Then (List Multipliers)). run (turns 1024 (a_proof (2 ^ 30) c.args.premises) (λ reach. next reach [])) a) c.in_err-reach.field-0.0 [] known
          c.read_open.new.records c.read_open.new.records
          (λ next w. (λ reach k. next reach (learn known c.args.target (length reach)), λ reach k. w reach (learn known c.args.target (length reach)), refl))
          c.in_err-reach.ensures.read);
      same = refl;
    }

pub returns : goal.returns
returns c =
    let known = c.args.known.now in
    record {
      read = λ next w. c.in_ok-reach.ensures.read (λ reach k. next reach (learn known c.args.target (length reach)))
          (λ reach k. w reach (learn known c.args.target (length reach)))
          ∙ ap (λ m. run (next c.in_ok-reach.reach (slice_set known c.args.target (Some m))) c.read_open.new.records) (sym c.len.ensures)
          ∙ ap (λ k. run (next c.in_ok-reach.reach k) c.read_open.new.records) (sym c.set.ensures);
      same = ap length c.set.ensures ∙ length-set known c.args.target (Some c.len.result);
    }
