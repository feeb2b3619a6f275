use Rattle.rv_ranges.proofs.Recording.{ranges_record, record_ranges}
use Rattle.rv_ranges.proofs.records.is_record.Goals as goal

pub returns : goal.returns
returns c = (
  (λ yes. ranges_record c.args.premises c.args.by.now (c.has_ranges.ensures.0 yes)),
  (λ is. c.has_ranges.ensures.1 (record_ranges c.args.premises c.args.by.now is)),
)
