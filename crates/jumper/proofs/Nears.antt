-- The nearest of a group, with one more duct. Assumes nothing.
use Rattle.std.proofs.Common.{◌≡◌, ℕ, ◌+◌, ◌<◌, ◌≤◌, Bool, true, false, eqb, ltb, leb, IfSome, Some, None, Ok, Err, Option, Result, sym, refl, ap, ◌∙◌, subst, arith, ltb-false, ltb-true, eqb-true, leb-false, leb-true}
use borrow.Author.Tests.{eqb-false}
use Rattle.ways.specs.declared.row.Row.{Row}
use Rattle.ways.specs.Options.{pick, within, lesser, through}
use Rattle.ways.specs.Way.{LawfulDuct}
use Rattle.ways.specs.Nearest.{Near, Later, Nearest}
use Rattle.ways.proofs.Graph.{pick_has}
use Rattle.oracle.specs.declared.fault.OracleFault.{OracleFault}
use Rattle.oracle.specs.Meaning.{Meaning, Sound, far}
use Rattle.oracle.specs.Answers.{Focused}
use Rattle.jumper.specs.Jumped.{crossing, least, with_duct}
use Rattle.jumper.specs.Crossings.{farther, via, sooner, Finds, Seen}
use Rattle.oracle.proofs.Meanings.{far_short}
use Rattle.jumper.specs.Sounds.{three_sums, with_duct_sound}

none_lesser : (o : Option ℕ) → lesser None o ≡ o
none_lesser None = refl
none_lesser (Some d) = refl

later_lesser : (p : Near) (g : ℕ) (x y : Option ℕ) → Later p g x → Later p g y → Later p g (lesser x y)
later_lesser p g x y h k = pick_has (Later p g) (within x y) x y h k

-- what comes after q comes after p, where p comes before q
later_trans : (p q : Near) (x : ℕ) (o : Option ℕ) → p.distance ≤ q.distance → (p.distance ≡ q.distance → p.place ≤ q.place) → Later q x o → Later p x o
later_trans p q x None h k l = tt
later_trans p q x (Some m) h k l = (omega (arith, l.0), λ e. omega (arith, k (omega (arith, l.0)), l.1 (omega (arith, l.0))))

value_left : (p : Near) (g : ℕ) (o : Option ℕ) → Later p g o → lesser (Some p.distance) o ≡ Some p.distance
value_left p g None l = refl
value_left p g (Some e) l = go (leb p.distance e) refl
  where
    go : (c : Bool) → leb p.distance e ≡ c → pick c (Some p.distance) (Some e) ≡ Some p.distance
    go true q = refl
    go false q = ap Some (omega (arith, leb-false p.distance e q, l.0))

value_right : (p : Near) (g : ℕ) (o : Option ℕ) → Later p g o → lesser o (Some p.distance) ≡ Some p.distance
value_right p g None l = refl
value_right p g (Some e) l = go (leb e p.distance) refl
  where
    go : (c : Bool) → leb e p.distance ≡ c → pick c (Some e) (Some p.distance) ≡ Some p.distance
    go true q = ap Some (omega (arith, leb-true e p.distance q, l.0))
    go false q = refl

module _ (n : ℕ) (focus : ℕ → Bool) where
  nearest_through : (F : ℕ → Option ℕ) (k : Option ℕ) (len : ℕ) (p : Option Near) → Nearest n focus F p → Nearest n focus (λ g. through k len (F g)) (via k len p)
  nearest_through F None len p h = λ g i e. refl
  nearest_through F (Some d) len None h = λ g i e. ap (through (Some d) len) (h g i e)
  nearest_through F (Some d) len (Some p) h =
      (h.0, h.1, ap (through (Some d) len) h.2, λ g i e. go g (F g) (h.3 g i e))
    where
      go : (g : ℕ) (o : Option ℕ) → Later p g o → Later (farther (d + len) p) g (through (Some d) len o)
      go g None l = tt
      go g (Some e) l = (omega (arith, l.0), λ q. l.1 (omega arith))

  nearest_lesser : (F G : ℕ → Option ℕ) (p q : Option Near) → Nearest n focus F p → Nearest n focus G q → Nearest n focus (λ g. lesser (F g) (G g)) (sooner p q)
  nearest_lesser F G None None h k = λ g i e. ap (λ o. lesser o (G g)) (h g i e) ∙ none_lesser (G g) ∙ k g i e
  nearest_lesser F G None (Some q) h k =
      (k.0, k.1, only q.place k.0 k.1 ∙ k.2, λ g i e. subst (Later q g) (sym (only g i e)) (k.3 g i e))
    where
      only : (g : ℕ) → g < n → focus g ≡ true → lesser (F g) (G g) ≡ G g
      only g i e = ap (λ o. lesser o (G g)) (h g i e) ∙ none_lesser (G g)
  nearest_lesser F G (Some p) None h k =
      (h.0, h.1, only p.place h.0 h.1 ∙ h.2, λ g i e. subst (Later p g) (sym (only g i e)) (h.3 g i e))
    where
      only : (g : ℕ) → g < n → focus g ≡ true → lesser (F g) (G g) ≡ F g
      only g i e = ap (lesser (F g)) (k g i e)
  nearest_lesser F G (Some p) (Some q) h k = go (ltb p.distance q.distance) refl (eqb p.distance q.distance) refl (leb p.place q.place) refl
    where
      left : p.distance ≤ q.distance → (p.distance ≡ q.distance → p.place ≤ q.place) → Nearest n focus (λ g. lesser (F g) (G g)) (Some p)
      left le tie =
          let other : (g : ℕ) → g < n → focus g ≡ true → Later p g (G g) = λ g i e. later_trans p q g (G g) le tie (k.3 g i e) in (
            h.0,
            h.1,
            ap (λ o. lesser o (G p.place)) h.2 ∙ value_left p p.place (G p.place) (other p.place h.0 h.1),
            λ g i e. later_lesser p g (F g) (G g) (h.3 g i e) (other g i e),
          )

      right : q.distance ≤ p.distance → (q.distance ≡ p.distance → q.place ≤ p.place) → Nearest n focus (λ g. lesser (F g) (G g)) (Some q)
      right le tie =
          let other : (g : ℕ) → g < n → focus g ≡ true → Later q g (F g) = λ g i e. later_trans q p g (F g) le tie (h.3 g i e) in (
            k.0,
            k.1,
            ap (lesser (F q.place)) k.2 ∙ value_right q q.place (F q.place) (other q.place k.0 k.1),
            λ g i e. later_lesser q g (F g) (G g) (other g i e) (k.3 g i e),
          )

      go : (a : Bool) → ltb p.distance q.distance ≡ a → (b : Bool) → eqb p.distance q.distance ≡ b → (c : Bool) → leb p.place q.place ≡ c → Nearest n focus (λ g. lesser (F g) (G g)) (pick (pick a true (pick b c false)) (Some p) (Some q))
      go true x b y c z =
          let lt : p.distance < q.distance = ltb-true p.distance q.distance x in
          left (omega arith) (λ e. omega arith)
      go false x true y true z = left (omega (arith, eqb-true p.distance q.distance y)) (λ e. leb-true p.place q.place z)
      go false x true y false z =
          let lt : q.place < p.place = leb-false p.place q.place z in
          right (omega (arith, eqb-true p.distance q.distance y)) (λ e. omega arith)
      go false x false y c z =
          let le : q.distance ≤ p.distance = ltb-false p.distance q.distance x in
          right le (λ e. absurd (eqb-false p.distance q.distance y (sym e)))

-- the same of another function of the same distances
nearest_by : (n : ℕ) (focus : ℕ → Bool) (F G : ℕ → Option ℕ) (p : Option Near) → ((g : ℕ) → g < n → F g ≡ G g) → Nearest n focus F p → Nearest n focus G p
nearest_by n focus F G None s h = λ g i e. sym (s g i) ∙ h g i e
nearest_by n focus F G (Some p) s h =
    (h.0, h.1, sym (s p.place h.0) ∙ h.2, λ g i e. subst (Later p g) (s g i) (h.3 g i e))

-- a change of focus asks no more of a meaning than how many places there are
pub focused_as : (k m : Meaning) (v : ℕ) (f e : ℕ → Bool) (r : Result (Unit {0}) OracleFault) → k.count ≡ m.count → Focused m v f e r → Focused k v f e r
focused_as k m v f e (Ok _) c h = (omega (arith, h.0), h.1)
focused_as k m v f e (Err x) c h = (omega (arith, h.0), h.1, h.2)

-- the soonest of three is found with the duct: from v, from the second end seen from v over the first, from the first over the second
pub finds_seen : (m : Meaning) (focus : ℕ → Bool) (d : Row) (v : ℕ) (o : Option Near) → Sound m → LawfulDuct m.count d → Seen m focus d v (Ok o) → Finds (with_duct m d.first d.second d.length) focus v o
finds_seen m focus d v o s l (iv, (p, q, r, np, (x, nx, ex), (y, ny, ey), e)) =
    let a = d.first in
    let b = d.second in
    let len = d.length in
    let is : o ≡ sooner p (sooner (via (far m v a) len x) (via (far m v b) len y)) = cc in
    subst (Finds (with_duct m a b len) focus v) (sym is)
    (nearest_by m.count focus (least m a b len v) (far (with_duct m a b len) v) _ (λ g ig. sym (three_sums m a b len v g s l iv ig))
    (nearest_lesser m.count focus (far m v) (λ g. lesser (crossing m a b len v g) (crossing m b a len v g)) p _ np
    (nearest_lesser m.count focus (crossing m a b len v) (crossing m b a len v) (via (far m v a) len x) (via (far m v b) len y)
    (nearest_through m.count focus (far m b) (far m v a) len x nx)
    (nearest_through m.count focus (far m a) (far m v b) len y ny))))

-- and lies at a distance, which fits 32 bits
pub seen_short : (m : Meaning) (focus : ℕ → Bool) (d : Row) (v : ℕ) (o : Option Near) → Sound m → LawfulDuct m.count d → Seen m focus d v (Ok o) → IfSome o (λ t. t.distance ≤ 4095000000)
seen_short m focus d v None s l h = tt
seen_short m focus d v (Some t) s l h =
    far_short (with_duct m d.first d.second d.length) v t.place t.distance (with_duct_sound m d.first d.second d.length s l) h.0 (finds_seen m focus d v (Some t) s l h).2
