-- What a clause reads of a `PlainOracle`. Assumes nothing.
use Rattle.std.specs.Prelude.{ℕ, Bool, List, length, vec_items, vec_len}
use Rattle.std.specs.Rc.{rc_value}
use Rattle.heap.specs.Of.{capacity}
use Rattle.ways.specs.declared.row.Row.{Row}
use Rattle.frame.specs.Of.{places_of, rows_of}
use Rattle.oracle.specs.Meaning.{Meaning}
use Rattle.search.specs.declared.plain.PlainOracle.{PlainOracle}
use Rattle.search.specs.Plain.{enough, plain_meaning}
use Rattle.search.specs.State.{lit}

-- the places and ducts of its frame
abbrev pub frame_places : PlainOracle → ℕ
frame_places o = places_of (rc_value o.frame)

abbrev pub frame_rows : PlainOracle → List Row
frame_rows o = rows_of (rc_value o.frame)

-- its memory is enough
abbrev pub ready : PlainOracle → Bool
ready o = enough (frame_places o) (length (frame_rows o)) (vec_len o.records) (capacity o.queue)

-- what it means, and what it has in focus
abbrev pub meaning_of : PlainOracle → Meaning
meaning_of o = plain_meaning (frame_places o) (frame_rows o) (vec_len o.records) (capacity o.queue)

abbrev pub focus_of : PlainOracle → ℕ → Bool
focus_of o x = lit (vec_items o.records) x
