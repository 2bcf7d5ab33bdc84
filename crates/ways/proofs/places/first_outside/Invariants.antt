use Rattle.std.proofs.Common.{◌≡◌, drop}
use Rattle.ways.specs.Places.{outside}
use Rattle.ways.proofs.places.first_outside.Given as goal

abbrev pub invariant-loop-p : goal.invariant-loop-p
invariant-loop-p l = outside l.n (drop l.p-index l.places) ≡ outside l.n l.places
