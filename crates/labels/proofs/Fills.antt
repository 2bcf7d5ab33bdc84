-- The rows filled rank by rank. Assumes nothing.
use Rattle.std.proofs.Common.{◌≡◌, ℕ, ◌+◌, ◌*◌, List, [], length, take, drop, ap, ◌∙◌, subst, arith}
use Rattle.ways.specs.declared.row.Row.{Row}
use Rattle.ways.specs.Places.{Order}
use Rattle.hubs.specs.declared.entry.Entry.{Entry}
use Rattle.hubs.specs.Labels.{ExactBelow}
use Rattle.hubs.proofs.Build.{below_starts, below_ends}
use Rattle.hubs.proofs.Lengths.{too_long}
use Rattle.labels.specs.declared.fault.LabelsFault.{LabelsFault}
use Rattle.labels.specs.declared.fault.LabelsFault.TheVariants.{TooLong}
use Rattle.labels.specs.declared.record.Record.{Record}
use Rattle.labels.specs.Table.{count_of, row_in, table_in, Fits, Behind}
use Rattle.labels.specs.State.{Upto}
use Rattle.labels.specs.Rounds.{Overfull}
use Rattle.labels.specs.Building.{Built, SomeLonger, Zeroed}

empty_row : (w : ℕ) (counts : List ℕ) (entries : List Entry) (v : ℕ) → count_of counts v ≡ 0 → row_in w counts entries v ≡ []
unfolding row_in
empty_row w counts entries v z = ap (λ (k : ℕ). take k (drop (v * w) entries)) z

-- the rows hold the hubs of the ranks below r
pub record Filling (n : ℕ) (ds : List Row) (order : List ℕ) (w r : ℕ) (counts : List ℕ) (entries : List Entry) (rs : List Record) : Type 0 where
  pub exact : ExactBelow n ds order (row_in w counts entries) r
  pub fits : Fits n w counts entries
  pub behind : Behind n w counts entries
  pub upto : Upto r rs

pub filling_none : {n : ℕ} {ds : List Row} {order : List ℕ} {w : ℕ} {counts : List ℕ} {entries : List Entry} {rs : List Record} → length counts ≡ n → Fits (length counts) w counts entries → Zeroed counts entries → Upto 0 rs → Filling n ds order w 0 counts entries rs
filling_none {n} {ds} {order} {w} {counts} {entries} b f z u = record {
  exact = below_starts n ds order (row_in w counts entries) (λ v iv. empty_row w counts entries v (z.0 v));
  fits = subst (λ (m : ℕ). Fits m w counts entries) b f;
  behind = λ v i iv ge lt. z.1 (v * w + i);
  upto = u;
}

pub filling_all : {n : ℕ} {ds : List Row} {order : List ℕ} {w v r : ℕ} {counts : List ℕ} {entries : List Entry} {rs : List Record} → w ≡ v → Order n order → r ≡ n → Filling n ds order w r counts entries rs → Built n ds order v counts entries
filling_all {n} {ds} {order} {w} {v} {r} {counts} {entries} z o all f = subst (λ (u : ℕ). Built n ds order u counts entries) z (record {
  exact = below_ends n ds (table_in w order counts entries) o (subst (ExactBelow n ds order (row_in w counts entries)) all f.exact);
  fits = f.fits;
  behind = f.behind;
})

-- a row that is full before a further hub
pub some_longer : {n : ℕ} {ds : List Row} {order : List ℕ} {w v r : ℕ} {counts : List ℕ} {entries : List Entry} {rs : List Record} (f : LabelsFault) → w ≡ v → Filling n ds order w r counts entries rs → Overfull n ds order w r (row_in w counts entries) f → (f ≡ TooLong v) × SomeLonger n ds order v
some_longer {n} {ds} {order} {w} {v} {r} {counts} {entries} f z l (e, (x, ix, full, (c, h))) =
    (e ∙ ap TooLong z, λ t ex y. (x, ix, omega (arith, z, full, too_long n ds order (row_in w counts entries) r x c t l.exact ix h ex y)))
