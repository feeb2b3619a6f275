-- What gives a flow its value and what a memory takes, as they are made.
use Rattle.rv_flatten.specs.{declared.items.FlatItem.FlatItem, Readings.RawItem}
use Rattle.rv_flat.specs.RawTree.{raw_tree}

abbrev pub made_item : FlatItem → RawItem
made_item x = record { clock = x.clock; body = raw_tree x.body }
