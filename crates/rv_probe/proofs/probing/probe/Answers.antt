use Rattle.std.proofs.Common.{◌≤◌, length, refl, arith, inr}
use Rattle.std.specs.Prelude.{pos}
use Rattle.rv_tree.specs.Tree.{program_tree}
use Rattle.rv_types.specs.Instances.{name_at}
use Rattle.rv_probe.proofs.Found.{exactly_of, none_falsifies, some_falsifies, some_values, told}
use Rattle.rv_probe.proofs.Typed.{number_within}
use Rattle.rv_probe.proofs.probing.probe.Goals as goal

pub returns-then-not-have_values-clause-exactly : goal.returns-then-not-have_values-clause-exactly
returns-then-not-have_values-clause-exactly c =
    let s = c.args.source.now in
    let p = program_tree s.program in (
      λ e h.
          let have = some_values p s.typed s.order (c.fitting_sources.ensures s) (λ m text settled. c.well_formed_programs.ensures p m s.typed text settled)
              c.args.flat.now
          c.requires.flat
          c.flat_states.ensures.back c.flat_states.ensures.given h in
          grind arith,
      λ h. refl,
    )

pub try_number-requires-clause-number : goal.try_number-requires-clause-number
try_number-requires-clause-number c = number_within (pos 0) (omega arith)

pub returns-in-Some-clause-falsifies : goal.returns-in-Some-clause-falsifies
returns-in-Some-clause-falsifies c = λ t e.
    let s = c.args.source.now in
    let p = program_tree s.program in
    let is = c.in_ok-trace.ensures.found t (cc) in
    told p (name_at p s.typed.main) c.args.flat.now is.0 (pos 0) t is.1

pub returns-in-None-clause-exactly : goal.returns-in-None-clause-exactly
returns-in-None-clause-exactly c =
    let s = c.args.source.now in
    let p = program_tree s.program in (
      λ e. none_falsifies p (name_at p s.typed.main) c.args.flat.now (λ b. c.in_ok-trace.ensures.never b (cc)) (λ b z few w _. absurd (omega (arith, few))),
      λ h. refl,
    )

pub returns-in-None-2-clause-falsifies : goal.returns-in-None-2-clause-falsifies
returns-in-None-2-clause-falsifies c = λ t e.
    let s = c.args.source.now in
    let p = program_tree s.program in
    let is = c.try_thresholds.ensures.found t e in
    told p (name_at p s.typed.main) c.args.flat.now is.0 is.1 t is.4

pub returns-in-None-2-clause-exactly : goal.returns-in-None-2-clause-exactly
returns-in-None-2-clause-exactly c =
    let s = c.args.source.now in
    let p = program_tree s.program in
    let f = c.args.flat.now in
    let few : length f.thresholds ≤ 256 = omega arith in
    exactly_of p (name_at p s.typed.main) f c.try_thresholds.result
    (λ t e. let is = c.try_thresholds.ensures.found t e in some_falsifies p (name_at p s.typed.main) f is.0 is.1 t (inr (few, is.2, is.3)) is.4)
    (λ e. none_falsifies p (name_at p s.typed.main) f (λ b. c.in_ok-trace.ensures.never b (cc)) (λ b z _ w. c.try_thresholds.ensures.never b z e w))
