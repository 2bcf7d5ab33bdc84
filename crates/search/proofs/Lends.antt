-- The memory that is lent to a search, over more steps than one. Assumes nothing.
use Rattle.std.proofs.Common.{◌∙◌}
use Rattle.search.specs.declared.dijkstra.Search.{Search}
use Rattle.search.specs.Memory.{SameMemory}

-- the same memory after two steps
pub same_on : {a b c : Search} → SameMemory a b → SameMemory b c → SameMemory a c
same_on x y = record { records = y.records ∙ x.records; queue = y.queue ∙ x.queue; size = y.size ∙ x.size; room = y.room ∙ x.room; focus = λ v. y.focus v ∙ x.focus v }
