-- How long the labels are. Assumes nothing.
use Rattle.std.proofs.Common.{◌≡◌, ℕ, ◌<◌, ◌≤◌, ◌⊎◌, List, [], ◌∷◌, ◌++◌, length, sym, refl, ap, subst, inl, inr, arith, length-append}
use native.Mathlib.Decide.{dec_lt}
use Rattle.ways.specs.declared.row.Row.{Row}
use Rattle.hubs.specs.Labels.{Hub, Entry, In, Has, Rising, Table, Exact, ExactBelow}
use Rattle.hubs.proofs.Merging.{above_in}
use Rattle.hubs.proofs.Build.{rising_push, in_split}

module _ (x y : Entry) (xs ys : List Entry) (p : Rising (x ∷ xs)) (q : Rising (y ∷ ys)) (to : (e : Entry) → In e (x ∷ xs) → Has (y ∷ ys) e.rank) where
  least : (e : Entry) → In e (x ∷ xs) → x.rank ≤ e.rank
  least e (inl z) = omega (arith, ap (λ (w : Entry). w.rank) z)
  least e (inr i) = omega (arith, above_in x.rank e xs p.0 i)

  -- y is not among them
  past : y.rank < x.rank → (e : Entry) → In e (x ∷ xs) → Has ys e.rank
  past lt e i = go (to e i)
    where
      go : Has (y ∷ ys) e.rank → Has ys e.rank
      go (g, inl z, k) = absurd (omega (arith, least e i, ap (λ (w : Entry). w.rank) z))
      go (g, inr j, k) = (g, j, k)

  -- x and y have one rank
  level : (y.rank < x.rank → ⊥) → Has (y ∷ ys) x.rank → x.rank ≡ y.rank
  level ge (g, inl z, i) = omega (arith, ap (λ (w : Entry). w.rank) z)
  level ge (g, inr k, i) = absurd (ge (omega (arith, above_in y.rank g ys q.0 k)))

  behind : (y.rank < x.rank → ⊥) → (e : Entry) → In e xs → Has ys e.rank
  behind ge e i = go (to e (inr i))
    where
      go : Has (y ∷ ys) e.rank → Has ys e.rank
      go (g, inl z, k) = absurd (omega (arith, above_in x.rank e xs p.0 i, level ge (to x (inl refl)), ap (λ (w : Entry). w.rank) z))
      go (g, inr j, k) = (g, j, k)

-- a rising row whose ranks all stand in another is no longer
no_more : (ys xs : List Entry) → Rising xs → Rising ys → ((e : Entry) → In e xs → Has ys e.rank) → length xs ≤ length ys
no_more ys [] p q to = omega arith
no_more [] (x ∷ xs) p q to = absurd (to x (inl refl)).1
no_more (y ∷ ys) (x ∷ xs) p q to = go (dec_lt y.rank x.rank) (λ zs k to. no_more ys zs k q.1 to)
  where
    go : Dec (y.rank < x.rank) → ((zs : List Entry) → Rising zs → ((e : Entry) → In e zs → Has ys e.rank) → length zs ≤ length ys) → length (x ∷ xs) ≤ length (y ∷ ys)
    go (yes lt) rest = omega (arith, rest (x ∷ xs) p (past x y xs ys p q to lt))
    go (no ge) rest = omega (arith, rest xs p.1 (behind x y xs ys p q to ge))

-- the hubs of lower rank and one more: the label is longer than the row so far
pub too_long : (n : ℕ) (ds : List Row) (order : List ℕ) (row : ℕ → List Entry) (r v c : ℕ) (t : Table) → ExactBelow n ds order row r → v < n → Hub n ds order v r c → Exact n ds t → t.order ≡ order → length (row v) < length (t.row v)
too_long n ds order row r v c t x iv h ex z = omega (arith, longer, length-append (row v) (e ∷ []))
  where
    e : Entry
    e = record { rank = r; distance = c; neighbour = 0 }

    has : (q d : ℕ) → Hub n ds order v q d → Has (t.row v) q
    has q d k = ex.every v q d iv (subst (λ (w : List ℕ). Hub n ds w v q d) (sym z) k)

    which : (g : Entry) → In g (row v) ⊎ (g ≡ e) → Has (t.row v) g.rank
    which g (inl i) = has g.rank g.distance (x.only v g iv i).1.is_hub
    which g (inr k) = subst (Has (t.row v)) (sym (ap (λ (w : Entry). w.rank) k)) (has r c h)

    longer : length (row v ++ (e ∷ [])) ≤ length (t.row v)
    longer = no_more (t.row v) (row v ++ (e ∷ [])) (rising_push e (row v) (x.rising v iv) (λ g i. (x.only v g iv i).0)) (ex.rising v iv) (λ g i. which g (in_split g e (row v) i))
