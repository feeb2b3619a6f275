use Rattle.rv_instances.proofs.FlowPlaces.{are_flow_places}
use Rattle.rv_instances.proofs.laws.flow_places.Goals as goal

pub returns : goal.returns
returns c p main instances named declared sited are = are_flow_places p main named declared sited instances are
