-- The rows of the table in their memory. Assumes nothing.
use Rattle.std.proofs.Common.{◌≡◌, ℕ, ◌+◌, ◌-◌, ◌*◌, ◌<◌, ◌≤◌, List, [], ◌∷◌, ◌++◌, length, get_or, take, drop, set, sym, ap, ◌∙◌, add-mul, mul-le-mul, one-mul, arith, length-drop, length-set, get_or-set_other, get_or-set_same}
use native.Mathlib.Decide.{ℕ_discrete, dec_lt}
use Rattle.std.proofs.lemmas.List.{length-take-le, take-set-le, drop-set-lt, drop-set-add, take_more_set}
use Rattle.hubs.specs.declared.entry.Entry.{Entry}
use Rattle.labels.specs.declared.searching.Search.{Search}
use Rattle.labels.specs.declared.table.Rows.{Rows}
use Rattle.labels.specs.Memory.{SameMemory, SameRoom, SameRound}
use Rattle.labels.specs.Table.{no_entry, count_of, row_in, Fits, Behind, Longer}

-- the row of v ends before that of u begins, where v comes first
pub apart : (v u w : ℕ) → v < u → v * w + w ≤ u * w
apart v u w l =
    let more : v + 1 ≤ u = omega arith in
    let same : w ≤ w = omega arith in
    omega (arith, mul-le-mul more same, add-mul v 1 w, one-mul w)

-- so many of its entries are within the memory
pub inside : (n w v c : ℕ) → v < n → c ≤ w → v * w + c ≤ n * w
inside n w v c l k = omega (arith, apart v n w l)

pub row_length : (n w v : ℕ) (counts : List ℕ) (entries : List Entry) → Fits n w counts entries → v < n → length (row_in w counts entries v) ≡ count_of counts v
unfolding row_in
row_length n w v counts entries f iv = length-take-le (count_of counts v) (drop (v * w) entries) (omega (arith, length-drop (v * w) entries, f.rows, inside n w v (count_of counts v) iv (f.narrow v iv)))

module _ (n w v : ℕ) (e : Entry) (counts : List ℕ) (entries : List Entry) (counts' : List ℕ) (entries' : List Entry) (f : Fits n w counts entries) (iv : v < n) (l : Longer w v e counts entries counts' entries') where
  c : ℕ
  c = count_of counts v

  at : v < length counts
  at = omega (arith, f.counted)

  count_new : count_of counts' v ≡ count_of counts v + 1
  count_new = ap (λ (xs : List ℕ). get_or xs v 0) l.counts_are ∙ get_or-set_same counts v (count_of counts v + 1) 0 at

  count_other : (u : ℕ) → (u ≡ v → ⊥) → count_of counts' u ≡ count_of counts u
  count_other u ne = ap (λ (xs : List ℕ). get_or xs u 0) l.counts_are ∙ get_or-set_other counts v u (count_of counts v + 1) 0 ne

  pub fits_more : Fits n w counts' entries'
  fits_more = record {
    rows = ap length l.entries_are ∙ length-set entries (v * w + count_of counts v) e ∙ f.rows;
    counted = ap length l.counts_are ∙ length-set counts v (count_of counts v + 1) ∙ f.counted;
    narrow = λ u iu. go u iu (ℕ_discrete u v);
  }
    where
      go : (u : ℕ) → u < n → Dec (u ≡ v) → count_of counts' u ≤ w
      go u iu (yes z) = omega (arith, ap (count_of counts') z, count_new, l.room)
      go u iu (no ne) = omega (arith, count_other u ne, f.narrow u iu)

  pub row_new : row_in w counts' entries' v ≡ row_in w counts entries v ++ (e ∷ [])
  unfolding row_in
  row_new =
      ap (λ (k : ℕ). take k (drop (v * w) entries')) count_new
      ∙ ap (λ (xs : List Entry). take (count_of counts v + 1) (drop (v * w) xs)) l.entries_are
      ∙ ap (take (count_of counts v + 1)) (drop-set-add (v * w) entries (count_of counts v) e)
      ∙ take_more_set (drop (v * w) entries) (count_of counts v) e (omega (arith, length-drop (v * w) entries, f.rows, inside n w v w iv (omega arith), l.room))

  pub row_other : (u : ℕ) → u < n → (u ≡ v → ⊥) → row_in w counts' entries' u ≡ row_in w counts entries u
  unfolding row_in
  row_other u iu ne =
      ap (λ (k : ℕ). take k (drop (u * w) entries')) (count_other u ne) ∙ ap (λ (xs : List Entry). take (count_of counts u) (drop (u * w) xs)) l.entries_are ∙ go (dec_lt u v)
    where
      go : Dec (u < v) → take (count_of counts u) (drop (u * w) (set entries (v * w + count_of counts v) e)) ≡ take (count_of counts u) (drop (u * w) entries)
      go (yes lt) =
          let j : ℕ = v * w + count_of counts v - u * w in
          let gap = apart u v w lt in
          let z : v * w + count_of counts v ≡ u * w + j = omega arith in
          ap (λ (k : ℕ). take (count_of counts u) (drop (u * w) (set entries k e))) z
          ∙ ap (take (count_of counts u)) (drop-set-add (u * w) entries j e)
          ∙ take-set-le (count_of counts u) (drop (u * w) entries) j e (omega (arith, f.narrow u iu))
      go (no ge) =
          let gap = apart v u w (omega arith) in
          ap (take (count_of counts u)) (drop-set-lt (u * w) entries (v * w + count_of counts v) e (omega (arith, l.room)))

  pub behind_more : Behind n w counts entries → Behind n w counts' entries'
  behind_more b u i iu ge lt = go (ℕ_discrete u v)
    where
      free : (v * w + count_of counts v ≡ u * w + i → ⊥) → count_of counts u ≤ i → get_or entries' (u * w + i) no_entry ≡ no_entry
      free ne k = ap (λ (xs : List Entry). get_or xs (u * w + i) no_entry) l.entries_are ∙ get_or-set_other entries (v * w + count_of counts v) (u * w + i) e no_entry (λ z. ne (sym z)) ∙ b u i iu k lt

      side : (u ≡ v → ⊥) → Dec (u < v) → v * w + count_of counts v ≡ u * w + i → ⊥
      side ne (yes k) z = omega (arith, apart u v w k)
      side ne (no k) z = omega (arith, apart v u w (omega arith), l.room)

      go : Dec (u ≡ v) → get_or entries' (u * w + i) no_entry ≡ no_entry
      go (yes z) = free (λ y. let a : count_of counts' u ≡ count_of counts v + 1 = ap (count_of counts') z ∙ count_new in let m : u * w ≡ v * w = ap (λ (k : ℕ). k * w) z in omega arith) (let a : count_of counts' u ≡ count_of counts v + 1 = ap (count_of counts') z ∙ count_new in let m : count_of counts u ≡ count_of counts v = ap (count_of counts) z in omega arith)
      go (no ne) = free (side ne (dec_lt u v)) (omega (arith, count_other u ne))

-- the same memory after two steps
pub same_on : {a b c : Rows} → SameMemory a b → SameMemory b c → SameMemory a c
same_on x y = record { width = y.width ∙ x.width; entries = y.entries ∙ x.entries; counts = y.counts ∙ x.counts }

-- the same room after two steps
pub room_on : {a b c : Search} → SameRoom a b → SameRoom b c → SameRoom a c
room_on x y = record { records = y.records ∙ x.records; queue = y.queue ∙ x.queue }

-- the same round after two steps
pub round_on : {a b c : Search} → SameRound a b → SameRound b c → SameRound a c
round_on x y = record { round = y.round ∙ x.round; room = room_on x.room y.room }
