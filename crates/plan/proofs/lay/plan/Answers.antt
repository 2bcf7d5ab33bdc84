use Rattle.plan.proofs.Outside.{parts_below}
use Rattle.plan.proofs.lay.plan.Goals as goal

pub lay-trunk-requires-clause-within : goal.lay-trunk-requires-clause-within
lay-trunk-requires-clause-within g c = (parts_below c.args.groups.now c.places.ensures c.in_ok-admit.ensures c.index-groups-0.is c.as_slice.ensures.value).0

pub lay-trunk-requires-clause-inside : goal.lay-trunk-requires-clause-inside
lay-trunk-requires-clause-inside g c = (parts_below c.args.groups.now c.places.ensures c.in_ok-admit.ensures c.index-groups-0.is c.as_slice.ensures.value).1
