use Rattle.std.proofs.Common.{length, arith, refl, sym, ap, ◌∙◌, inr}
use Rattle.csv.specs.Reading.{strip_bom, builder_config, builder_trim, builder_is_flexible, builder_names_headers}
use Rattle.rv_invfile.proofs.Taking.{kept, took, opened, few-records, stripped}
use Rattle.rv_invfile.proofs.records.Records.new.Goals as goal

pub invariant_of-result : goal.invariant_of-result
invariant_of-result c =
    let f = c.from_reader-reader.ensures in
    let e = c.flexible.ensures in
    let e2 = c.has_headers.ensures in
    let config = f.config ∙ ap builder_config e ∙ ap builder_config e2 ∙ c.new.ensures.config in
    let trim = f.trim ∙ ap builder_trim e ∙ ap builder_trim e2 ∙ c.new.ensures.trim in
    let named = f.has_headers ∙ ap builder_names_headers e ∙ ap builder_names_headers e2 in
    let left = opened c.from_reader-reader.result c.args.bytes.now f.state f.source in
    let few = few-records c.args.bytes.now c.requires in
    let short = stripped c.args.bytes.now in
    let flexible = f.flexible ∙ ap builder_is_flexible e in
    kept c.in-Ok.here c.from_reader-reader.result c.read_byte_record.new.self (strip_bom c.args.bytes.now) c.read_byte_record.new.row 0 config
    (f.source, omega (arith, short, c.requires)) trim flexible c.in-Ok.ensures.flexible
    (c.in-Ok.ensures.reads trim (inr (inr (named, f.headers)))) (c.in-Ok.ensures.ready trim) (omega (arith, ap length left, few))

pub returns-in-Ok-clause-ok : goal.returns-in-Ok-clause-ok
returns-in-Ok-clause-ok c =
    let f = c.from_reader-reader.ensures in
    let e = c.flexible.ensures in
    let e2 = c.has_headers.ensures in
    let config = f.config ∙ ap builder_config e ∙ ap builder_config e2 ∙ c.new.ensures.config in
    let trim = f.trim ∙ ap builder_trim e ∙ ap builder_trim e2 ∙ c.new.ensures.trim in
    let named = f.has_headers ∙ ap builder_names_headers e ∙ ap builder_names_headers e2 in (
      refl,
      sym (took c.in-Ok.here c.from_reader-reader.result c.read_byte_record.new.self (strip_bom c.args.bytes.now) c.read_byte_record.new.row config
          f.source (c.in-Ok.ensures.reads trim (inr (inr (named, f.headers))))) ∙ opened c.from_reader-reader.result c.args.bytes.now f.state f.source,
    )
