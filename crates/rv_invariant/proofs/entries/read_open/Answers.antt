use Rattle.std.proofs.Common.{◌≡◌, ◌+◌, ◌-◌, ◌^◌, ◌++◌, ◌∷◌, [], zero, suc, List, length, arith, refl, sym, ap, ◌∙◌, append_assoc}
use Rattle.std.proofs.{lemmas.List.append-nil, lemmas.List.length_push, lemmas.Result.err_from_is_err_and}
use Rattle.rv_rows.specs.declared.farkas.Multipliers.{Multipliers}
use Rattle.rv_invfile.specs.{Rules.Fields, Rules.Rule, Rules.done, Readers.run, Parts.turns}
use Rattle.rv_invariant.specs.{Continues.Then, Pieces.a_proof, Pieces.by_form, Pieces.multipliers_of}
use Rattle.rv_invariant.proofs.Choices.{turn_over, turn_more, turn_stops, run_none, sees_is, continues-part}
use Rattle.rv_invariant.proofs.entries.read_open.Goals as goal

abbrev next_of : Fields → Rule Multipliers
next_of r = done (multipliers_of r)

pub returns-then-not-has_groups : goal.returns-then-not-has_groups
returns-then-not-has_groups c =
    let form = by_form (2 ^ 30) c.args.premises in
    let s = c.loop-turn.records in
    let found = c.loop-turn.found in
    record {
      read = λ next w. c.loop-turn.invariant.kept next w
          ∙ turn_over form next_of (λ more. next (found ++ more) []) s (w (found ++ []) []) (1024 - c.loop-turn.turn)
          (sees_is form s refl ∙ sym c.has_groups.ensures ∙ c.if-not-has_groups.true)
          ∙ ap (λ l. run (next l []) s) (append-nil found);
      few = omega (arith, c.loop-turn.invariant.size, c.loop-turn-test.true);
    }

pub returns-in_err-read_proof-clause-read : goal.returns-in_err-read_proof-clause-read
returns-in_err-read_proof-clause-read c =
    let form = by_form (2 ^ 30) c.args.premises in
    let s = c.loop-turn.records in
    let found = c.loop-turn.found in
    let p = err_from_is_err_and c.from_residual.result c.from_residual.ensures.1 in
    let seen = sees_is form s refl ∙ sym c.has_groups.ensures ∙ c.if-not-has_groups.false in
    let e : 1024 - c.loop-turn.turn ≡ suc (1024 - (c.loop-turn.turn + 1)) = omega arith in
    rw (p.1, p.2) (continues-part (λ (m : Multipliers). m) (run (a_proof (2 ^ 30) c.args.premises) s)
    (λ (next : Then (List Multipliers)). run (turns 1024 (a_proof (2 ^ 30) c.args.premises) (λ reach. next reach [])) c.args.records.now)
    c.in_err-read_proof.field-0.0 [] c.read_proof.new.records c.read_proof.new.records c.in_err-read_proof.ensures
    (λ next w x h. c.loop-turn.invariant.kept next w ∙ ap (λ k. run (turns k (a_proof (2 ^ 30) c.args.premises) (λ more. next (found ++ more) [])) s) e
    ∙ turn_stops form next_of (λ more. next (found ++ more) []) s (w (found ++ []) []) (1024 - (c.loop-turn.turn + 1)) x seen h))

pub loop-turn-preserved : goal.loop-turn-preserved
loop-turn-preserved c =
    let form = by_form (2 ^ 30) c.args.premises in
    let s = c.loop-turn.records in
    let found = c.loop-turn.found in
    let seen = sees_is form s refl ∙ sym c.has_groups.ensures ∙ c.if-not-has_groups.false in
    let e : 1024 - c.loop-turn.turn ≡ suc (1024 - (c.loop-turn.turn + 1)) = omega arith in
    let a = c.in_ok-read_proof.field-0 in
    let joined = λ (more : List Multipliers). sym (append_assoc found (a ∷ []) more) ∙ ap (λ l. l ++ more) (sym c.in_ok-push.ensures.ok) in
    record {
      size = ap length c.in_ok-push.ensures.ok ∙ length_push found a ∙ ap (λ k. k + 1) c.loop-turn.invariant.size;
      kept = λ next w. c.loop-turn.invariant.kept next w ∙ ap (λ k. run (turns k (a_proof (2 ^ 30) c.args.premises) (λ more. next (found ++ more) [])) s) e
          ∙ turn_more form next_of (λ more. next (found ++ more) []) s (w (found ++ []) []) (1024 - (c.loop-turn.turn + 1)) a c.read_proof.new.records seen
          c.in_ok-read_proof.ensures
          ∙ ap (λ (g : List Multipliers → List Multipliers). run (turns (1024 - (c.loop-turn.turn + 1)) (a_proof (2 ^ 30) c.args.premises)
          (λ more. next (g more) [])) c.read_proof.new.records) (λ i more. joined more i);
    }

pub returns : goal.returns
returns c =
    let s = c.loop-turn.records in
    let found = c.loop-turn.found in
    let e : 1024 - c.loop-turn.turn ≡ zero = omega arith in
    record {
      read = λ next w. c.loop-turn.invariant.kept next w ∙ ap (λ k. run (turns k (a_proof (2 ^ 30) c.args.premises) (λ more. next (found ++ more) [])) s) e
          ∙ run_none (a_proof (2 ^ 30) c.args.premises) (λ more. next (found ++ more) []) s ∙ ap (λ l. run (next l []) s) (append-nil found);
      few = omega (arith, c.loop-turn.invariant.size);
    }
