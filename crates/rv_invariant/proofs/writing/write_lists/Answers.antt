use Rattle.std.proofs.Common.{◌++◌}
use Rattle.std.specs.Prelude.{Some, codes}
use Rattle.rv_invfile.proofs.Adding.{then-last}
use Rattle.rv_invariant.specs.Pieces.{list_records}
use Rattle.rv_invariant.proofs.writing.write_lists.Goals as goal

pub returns : goal.returns
returns c =
    let l = c.args.location.now in
    let entry = list_records (codes "entry") l.entry in
    let first = list_records (codes "first") l.first in
    let around = list_records (codes "around") l.around in
    let state = list_records (codes "state") l.state in
    let r = c.write_list-4.result in
    let w = c.write_list-4.new.writer in
    then-last (λ v. Some v.items) c.args.writer.now c.write_list.new.writer w entry (first ++ (around ++ state)) r c.in_ok-write_list.ensures
    (then-last (λ v. Some v.items) c.write_list.new.writer c.write_list-2.new.writer w first (around ++ state) r c.in_ok-write_list-2.ensures
    (then-last (λ v. Some v.items) c.write_list-2.new.writer c.write_list-3.new.writer w around state r c.in_ok-write_list-3.ensures c.write_list-4.ensures))
