-- The steps name one trunk, and it is laid exactly where a connected set touches every group. Assumes nothing.
use Rattle.std.proofs.Common.{◌≡◌, ℕ, ◌<◌, List, [], ◌∷◌, length, get_or, Some, None, Ok, Err, Option, sym, refl, ap, ◌∙◌, subst, arith}
use native.Mathlib.Decide.{ℕ_discrete}
use Rattle.ways.specs.declared.row.Row.{Row}
use Rattle.ways.specs.Nearest.{Near, Later}
use Rattle.oracle.specs.Meaning.{Meaning, far}
use Rattle.trees.specs.Connected.{weight}
use Rattle.trees.specs.Growth.{net}
use Rattle.trees.specs.Groups.{focus_on}
use Rattle.plan.specs.declared.fault.PlanFault.TheVariants.{Count, NoPlace, Rows, NoSet}
use Rattle.plan.specs.Choices.{Begins, Gathered, Chosen}
use Rattle.plan.specs.Kept.{Lightest}
use Rattle.plan.specs.Laws.{TrunkUnique, StepsUnique, LaidExactly}
use Rattle.plan.specs.Trunks.{Grown}
use Rattle.plan.proofs.Near.{nearest_unique}
use Rattle.plan.proofs.Unique.{grows_unique}

pub trunk_unique : TrunkUnique
trunk_unique m x cs ds es g h = grows_unique m x cs [] ds es g h

-- one place to begin at
begins_unique : (m : Meaning) (first : List ℕ) (others : List (List ℕ)) (p q : Near) → Begins m first others (Some p) → Begins m first others (Some q) → p.place ≡ q.place
begins_unique m first others p q k l =
    let a : Later p q.place (Some q.distance) = subst (Later p q.place) l.1 (k.2 q.place l.0) in
    let b : Later q p.place (Some p.distance) = subst (Later q p.place) k.1 (l.2 p.place k.0) in
    let e : p.distance ≡ q.distance = omega (arith, a.0, b.0) in
    omega (arith, a.1 e, b.1 (sym e))

-- one nearest place of each group
gathered_unique : (m : Meaning) (x : ℕ) (gs : List (List ℕ)) (ps qs : List ℕ) → Gathered m x gs ps → Gathered m x gs qs → ps ≡ qs
gathered_unique m x [] ps qs k l = k ∙ sym l
gathered_unique m x (g ∷ gs) [] qs k l = absurd k
gathered_unique m x (g ∷ gs) (p ∷ ps) [] k l = absurd l
gathered_unique m x (g ∷ gs) (p ∷ ps) (q ∷ qs) k l =
    let u = nearest_unique m.count (focus_on g) (far m x) (record { place = p; distance = k.0.0 }) (record { place = q; distance = l.0.0 }) k.0.1 l.0.1 in
    ap (λ (y : ℕ). y ∷ ps) u.0 ∙ ap (λ (ys : List ℕ). q ∷ ys) (gathered_unique m x gs ps qs k.1 l.1)

chosen_unique : (m : Meaning) (first : List ℕ) (others : List (List ℕ)) (cs ds : List ℕ) → Chosen m first others cs → Chosen m first others ds → cs ≡ ds
chosen_unique m first others cs ds k l =
    let e : k.start.place ≡ l.start.place = begins_unique m first others k.start l.start k.least l.least in
    let r : k.around.0 ≡ l.around.0 = gathered_unique m l.start.place others k.around.0 l.around.0 (subst (λ (y : ℕ). Gathered m y others k.around.0) e k.around.2) l.around.2 in
    k.around.1 ∙ ap (λ (y : ℕ). y ∷ k.around.0) e ∙ ap (λ (ys : List ℕ). l.start.place ∷ ys) r ∙ sym l.around.1

-- one lightest trunk, the first among equals
module _ (m : Meaning) (cs : List ℕ) (i : ℕ) where
  not_before : (x y : ℕ) (ds es : List Row) (k : Lightest m cs i x ds) (l : Lightest m cs i y es) → k.at < l.at → ⊥
  not_before x y ds es k l lt =
      let r = l.least k.at k.before in
      let t = k.least l.at l.before in
      let a : r.0 ≡ ds = grows_unique m x cs [] r.0 ds (subst (λ (z : ℕ). Grown m z cs r.0) (sym k.starts) r.1) k.grown in
      let b : t.0 ≡ es = grows_unique m y cs [] t.0 es (subst (λ (z : ℕ). Grown m z cs t.0) (sym l.starts) t.1) l.grown in
      omega (arith, r.3 lt, t.2, ap weight a, ap weight b)

  lightest_unique : (x y : ℕ) (ds es : List Row) → Lightest m cs i x ds → Lightest m cs i y es → (x ≡ y) × (ds ≡ es)
  lightest_unique x y ds es k l = go (ℕ_discrete k.at l.at)
    where
      either : (a b : ℕ) → (a ≡ b → ⊥) → (a < b → ⊥) → (b < a → ⊥) → ⊥
      either a b ne f h = ne (omega (arith, f, h))

      go : Dec (k.at ≡ l.at) → (x ≡ y) × (ds ≡ es)
      go (no ne) = absurd (either k.at l.at ne (not_before x y ds es k l) (not_before y x es ds l k))
      go (yes e) =
          let s : x ≡ y = k.starts ∙ ap (λ (z : ℕ). get_or cs z 0) e ∙ sym l.starts in
          (s, grows_unique m y cs [] ds es (subst (λ (z : ℕ). Grown m z cs ds) s k.grown) l.grown)

pub steps_unique : StepsUnique
steps_unique m [] x y ds es s t = absurd s
steps_unique m (first ∷ others) x y ds es s t =
    let e : s.0 ≡ t.0 = chosen_unique m first others s.0 t.0 s.1 t.1 in
    lightest_unique m t.0 (length t.0) x y ds es (subst (λ (cs : List ℕ). Lightest m cs (length cs) x ds) e s.2) t.2

pub laid_exactly : LaidExactly
laid_exactly m gs old new (Ok t) o a = (λ j. refl, λ e. (net t.start o.1.ducts, (o.1.tree.connected, o.1.touches)))
laid_exactly m gs old new (Err (Count groups)) o a = absurd (o.0.1 a.few)
laid_exactly m gs old new (Err (NoPlace place)) o a = absurd (let z : ◌≡◌ {A = Option ℕ} None (Some place) = sym a.inside ∙ o.0.1 in let y : ◌≡◌ {A = ℕ} 0 1 = cc in omega arith)
laid_exactly m gs old new (Err (Rows needed)) o a = absurd (omega (arith, a.roomy, o.0.2, o.0.3))
laid_exactly m gs old new (Err (NoSet groups)) o a = (λ j. absurd (o.0.2 j.0 j.1), λ e. absurd (let y : ◌≡◌ {A = ℕ} 0 1 = cc in omega arith))
