use Rattle.std.proofs.Common.{ℕ, length, get_or, ◌∙◌, ap, arith, List, Option, None as Nothing}
use Rattle.std.proofs.lemmas.List.{length-replicate}
use Rattle.rv_instances.specs.Expanded.{program_of, main_of}
use Rattle.rv_instances.proofs.{BaseClocks.main_base, BaseClocks.base_by_then, Lists.equal_at}
use Rattle.rv_instances.proofs.layout.bases_of.Goals as goal

pub loop-instance-init : goal.loop-instance-init
loop-instance-init c =
    let x = c.args.expanded.now in let p = program_of x in
    record {
      size = ap length c.in_ok-bases.ensures ∙ length-replicate {A = Option ℕ} c.len.result Nothing ∙ c.len.ensures;
      main = λ k none.
          main_base p (main_of x) x.instances.now c.requires.known.expanded k c.in_ok-bases.bases none
          (ap (λ (l : List (Option ℕ)). get_or l k Nothing) c.in_ok-bases.ensures ∙ equal_at c.len.result k Nothing);
      done = λ m s k less. absurd (omega (arith, less));
      end = c.len-instance-end.ensures;
    }

pub set_bases-requires-clause-base : goal.set_bases-requires-clause-base
set_bases-requires-clause-base c =
    let x = c.args.expanded.now in let p = program_of x in let t = c.loop-instance.instance in
    base_by_then p (main_of x) x.instances.now c.requires.known.expanded c.loop-instance.bases t t (omega arith) (omega arith)
    c.loop-instance.invariant.main c.loop-instance.invariant.done

pub returns-clause-base : goal.returns-clause-base
returns-clause-base c m lt =
    let x = c.args.expanded.now in let p = program_of x in
    base_by_then p (main_of x) x.instances.now c.requires.known.expanded c.loop-instance.bases c.loop-instance.instance m lt (omega arith)
    c.loop-instance.invariant.main c.loop-instance.invariant.done
