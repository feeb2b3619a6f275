use Rattle.rv_instances.proofs.LayoutLaws.{is_here}
use Rattle.rv_instances.proofs.laws.instance_numbers.Goals as goal

pub returns : goal.returns
returns c p main instances l m i known laid_out is e = is_here p main instances known l laid_out m i e.0 is e.1
