-- The lesser of two. Assumes nothing.
use Rattle.std.specs.Prelude.{Some, None, Option}
use Rattle.std.specs.declared.cmp.Ordering.{Ordering}
use Rattle.std.specs.Ordering.{is_lt}
use Rattle.ways.specs.Options.{pick}

-- the lesser of two by an order, the first of equals; where one is missing, the other
abbrev pub lesser_by : {A : Type 0} → (A → A → Ordering) → Option A → Option A → Option A
lesser_by cmp None q = q
lesser_by cmp (Some p) None = Some p
lesser_by cmp (Some p) (Some q) = pick (is_lt (cmp q p)) (Some q) (Some p)
