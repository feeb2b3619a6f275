use Rattle.std.proofs.Common.{sym, subst}
use Rattle.rv_tree.specs.Tree.{program_tree}
use Rattle.rv_types.specs.Instances.{name_at}
use Rattle.rv_run.specs.{declared.words.Task.Task, Checked.IsAnswerOf, Checked.IsReportOf, Checked.IsUnlessLimit, Checked.SaysOf}
use Rattle.rv_run.proofs.Reported.{trace-answers, trace-not_accepted, trace-not_nodes, trace-unless}
use Rattle.rv_run.proofs.running.report_on_bytes.Goals as goal

pub returns-in-Replay : goal.returns-in-Replay
returns-in-Replay c =
    let bytes = c.args.document.now in
    let p = program_tree c.args.source.now.program in
    let m = name_at p c.args.source.now.typed.main in
    let answer = c.report_on_trace.ensures in
    let r = c.report_on_trace.result in
    let task = c.in-Replay.is in
    record {
      says = λ x is e. subst (λ (t : Task). SaysOf t x bytes p m) (sym task) (answer.says x (subst (λ (t : Task). IsReportOf t x) task is) e);
      safe = λ h. absurd (trace-not_accepted r answer.only h);
      wide = λ n h. absurd (trace-not_nodes r n answer.only h);
      only = subst (λ (t : Task). IsAnswerOf t r) (sym task) (trace-answers r answer.only);
      only_says = λ x says. subst (λ (t : Task). IsUnlessLimit t x r) (sym task)
          (trace-unless x r (answer.only_says x (subst (λ (t : Task). SaysOf t x bytes p m) task says)));
    }

pub returns-in-Check : goal.returns-in-Check
returns-in-Check c =
    let bytes = c.args.document.now in
    let p = program_tree c.args.source.now.program in
    let m = name_at p c.args.source.now.typed.main in
    let answer = c.report_on_invariant.ensures in
    let r = c.report_on_invariant.result in
    let task = c.in-Check.is in
    record {
      says = λ x is e. subst (λ (t : Task). SaysOf t x bytes p m) (sym task) (answer.says x (subst (λ (t : Task). IsReportOf t x) task is) e);
      safe = answer.safe;
      wide = answer.wide;
      only = subst (λ (t : Task). IsAnswerOf t r) (sym task) answer.only;
      only_says = λ x says. subst (λ (t : Task). IsUnlessLimit t x r) (sym task) (answer.only_says x (subst (λ (t : Task). SaysOf t x bytes p m) task says));
    }
