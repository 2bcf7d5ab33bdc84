-- The trunk of the steps against any connected set. Assumes nothing.
use Rattle.std.proofs.Common.{◌≡◌, ℕ, ◌+◌, ◌-◌, ◌*◌, ◌<◌, ◌≤◌, true, List, [], ◌∷◌, length, get_or, Some, None, Option, unwrap_or, sym, refl, ap, ◌∙◌, subst, inl, inr, arith, le-leb}
use Rattle.ways.specs.declared.row.Row.{Row}
use Rattle.ways.specs.Nearest.{Near, Later}
use Rattle.ways.specs.Options.{AtMost, within}
use Rattle.ways.specs.Places.{On, AllBelow}
use Rattle.ways.proofs.Metric.{far_self, same}
use Rattle.oracle.specs.Meaning.{Meaning, far, Sound}
use Rattle.trees.specs.Connected.{weight, Net, TouchesAll, Tree}
use Rattle.trees.specs.Growth.{held, net}
use Rattle.trees.specs.Groups.{cost, GroupsBelow}
use Rattle.trees.proofs.Places.{below_on, get_or_on}
use Rattle.trees.proofs.Focus.{focus_is}
use Rattle.trees.proofs.Groups.{least_cost_bounded}
use Rattle.trees.proofs.Sets.{tree_few}
use Rattle.plan.specs.declared.trunk.Trunk.{Trunk}
use Rattle.plan.specs.Choices.{Begins, Gathered, Around, Chosen}
use Rattle.plan.specs.Kept.{Lightest, TellsLightest}
use Rattle.plan.specs.Plans.{Joining, Planned}
use Rattle.plan.specs.Trunks.{Reached, Grown, Laid}
use Rattle.plan.proofs.Chosens.{gathered_reached, gathered_sum}
use Rattle.plan.proofs.Lighter.{reached_from}
use Rattle.plan.proofs.Rows.{written_all}
use Rattle.plan.proofs.Trunks.{sum_of, trunk_tree, trunk_holds, trunk_light}
use Rattle.plan.proofs.Unique.{grows_unique}

gathered_touches : (m : Meaning) (x : ℕ) (c : Net) (gs : List (List ℕ)) (ps : List ℕ) → Gathered m x gs ps → ((p : ℕ) → On p ps → On p c.places) → TouchesAll c gs
gathered_touches m x c [] ps k f = tt
gathered_touches m x c (g ∷ gs) [] k f = absurd k
gathered_touches m x c (g ∷ gs) (p ∷ ps) k f = ((p, focus_is g p k.0.1.1, f p (inl refl)), gathered_touches m x c gs ps k.1 (λ q o. f q (inr o)))

later_within : (p : Near) (v : ℕ) (o : Option ℕ) → Later p v o → within (Some p.distance) o ≡ true
later_within p v None l = refl
later_within p v (Some e) l = le-leb p.distance e l.0

module _ (m : Meaning) (s : Sound m) (first : List ℕ) (others : List (List ℕ)) where
  -- where no place of the first group has a way to every other group, no connected set touches them all
  pub none_joins : Begins m first others None → (c : Net) → Joining m (first ∷ others) c → ⊥
  none_joins n c j =
      let v = j.1.0.0 in
      subst (λ (o : Option ℕ). AtMost o (length others * weight c.ducts)) (n v j.1.0.1)
      (least_cost_bounded m.count m.ducts first others v c s.lawful (λ u o. subst (λ (p : Option ℕ). within (cost (far m) v others) p ≡ true) (sym (n u o)) refl) j.0 j.1.0 j.1.1)

-- the oracle still means what it did when the place to begin at was found
pub start_known : {m m' : Meaning} (first : List ℕ) (others : List (List ℕ)) {start : Near} → AllBelow m.count first → Begins m first others (Some start) → m' ≡ m → (start.place < m'.count) × (cost (far m') start.place others ≡ Some start.distance)
start_known {m = m} first others {start = start} below b e = (subst (λ (y : Meaning). start.place < y.count) (sym e) (below_on m.count start.place first below b.0), ap (λ (y : Meaning). cost (far y) start.place others) e ∙ b.1)

-- the places were chosen from what the oracle answered
pub chosen_of : {m m' : Meaning} (first : List ℕ) (others : List (List ℕ)) {start : Near} {cs ds : List ℕ} → Begins m first others (Some start) → m' ≡ m → Around m' start.place others cs → ds ≡ cs → Chosen m first others ds
chosen_of {m' = m'} first others {start = start} {ds = ds} b e a is = record { start = start; least = b; around = subst (λ (y : Meaning). Around y start.place others ds) e (subst (Around m' start.place others) (sym is) a) }

module _ {m : Meaning} {first : List ℕ} {others : List (List ℕ)} {cs : List ℕ} (s : Sound m) (below : AllBelow m.count first) (inside : GroupsBelow m.count others) (ch : Chosen m first others cs) where
  abbrev x : ℕ
  x = ch.start.place

  pub start_within : x < m.count
  start_within = below_on m.count x first below ch.least.0

  chosen_reached : Reached m x cs
  chosen_reached = subst (Reached m x) (sym ch.around.1) from
    where
      from : Reached m x (x ∷ ch.around.0)
      from c (inl e) = subst (λ (y : ℕ). (y < m.count) × ((d : ℕ) × (far m x y ≡ Some d))) (sym e) (start_within, (0, far_self m.count m.ducts s.lawful x start_within))
      from c (inr o) = gathered_reached m x others ch.around.0 ch.around.2 c o

  first_is : get_or cs 0 0 ≡ x
  first_is = ap (λ (ys : List ℕ). get_or ys 0 0) ch.around.1

  pub some_chosen : 0 < length cs
  some_chosen = omega (arith, ap length ch.around.1)

  pub first_reached : {m' : Meaning} → m' ≡ m → Reached m' (get_or cs 0 0) cs
  first_reached e = subst (λ (y : Meaning). Reached y (get_or cs 0 0) cs) (sym e) (subst (λ (y : ℕ). Reached m y cs) (sym first_is) chosen_reached)

  sum_is : sum_of (far m x) cs ≡ ch.start.distance
  sum_is =
      let own : unwrap_or (far m x x) 0 ≡ 0 = ap (λ (o : Option ℕ). unwrap_or o 0) (far_self m.count m.ducts s.lawful x start_within) in
      let sum : sum_of (far m x) ch.around.0 ≡ ch.start.distance = same (gathered_sum m x others ch.around.0 inside ch.around.2) ch.least.1 in
      ap (sum_of (far m x)) ch.around.1 ∙ ap (λ (z : ℕ). z + sum_of (far m x) ch.around.0) own ∙ omega (arith, sum)

  bound : (c : Net) → Joining m (first ∷ others) c → ch.start.distance ≤ (length (first ∷ others) - 1) * weight c.ducts
  bound c j =
      subst (λ (k : ℕ). ch.start.distance ≤ k * weight c.ducts) (omega arith)
      (subst (λ (o : Option ℕ). AtMost o (length others * weight c.ducts)) ch.least.1
      (least_cost_bounded m.count m.ducts first others x c s.lawful (λ v o. subst (λ (p : Option ℕ). within p (cost (far m) v others) ≡ true) (sym ch.least.1) (later_within ch.start v (cost (far m) v others) (ch.least.2 v o))) j.0 j.1.0 j.1.1))

  -- the lightest trunk is grown again, and laid
  module _ {t : Trunk} {m' : Meaning} (told : TellsLightest m' cs (length cs) t) (e : m' ≡ m) where
    w : TellsLightest m cs (length cs) t
    w = subst (λ (y : Meaning). TellsLightest y cs (length cs) t) e told

    within_it : t.start < m.count
    within_it = subst (λ (y : ℕ). y < m.count) (sym w.1.starts) (chosen_reached (get_or cs w.1.at 0) (get_or_on cs w.1.at w.1.before)).0

    reached_it : Reached m t.start cs
    reached_it = subst (λ (y : ℕ). Reached m y cs) (sym w.1.starts) (reached_from m x (get_or cs w.1.at 0) cs s start_within chosen_reached (get_or_on cs w.1.at w.1.before))

    pub kept_reached : {m'' : Meaning} → m'' ≡ m → (t.start < m''.count) × Reached m'' t.start cs
    kept_reached q = (subst (λ (y : Meaning). t.start < y.count) (sym q) within_it, subst (λ (y : Meaning). Reached y t.start cs) (sym q) reached_it)

    pub planned : {m'' : Meaning} {u : Trunk} {old new : List Row} → m.count - 1 ≤ length old → Laid m'' t.start cs old new u → m'' ≡ m → Planned m (first ∷ others) old new u
    planned {u = u} {old = old} {new = new} room there q = record {
      ducts = ds;
      steps = (cs, ch, light);
      tells = record { start = refl; ducts = l.tells.ducts; weighs = l.tells.weighs };
      rows = l.rows ∙ written_all ds old (omega (arith, tree_few m.count m.ducts (net u.start ds) tree, room));
      tree = tree;
      touches = ((x, ch.least.0, holds x (subst (On x) (sym ch.around.1) (inl refl))), gathered_touches m x (net u.start ds) others ch.around.0 ch.around.2 (λ p o. holds p (subst (On p) (sym ch.around.1) (inr o))));
      bounded = λ c j. let r = light.least 0 some_chosen in omega (arith, l.tells.weighs, r.2, at_first r.0 r.1, sum_is, bound c j);
    }
      where
        l : Laid m t.start cs old new u
        l = subst (λ (y : Meaning). Laid y t.start cs old new u) q there

        ds : List Row
        ds = l.ducts

        again : w.0 ≡ ds
        again = grows_unique m t.start cs [] w.0 ds w.1.grown l.grown

        light : Lightest m cs (length cs) u.start ds
        light = subst (λ (y : ℕ). Lightest m cs (length cs) y ds) (sym l.tells.start) (subst (Lightest m cs (length cs) t.start) again w.1)

        tree : Tree m.count m.ducts (net u.start ds)
        tree = subst (λ (y : ℕ). Tree m.count m.ducts (net y ds)) (sym l.tells.start) (trunk_tree m s t.start cs within_it reached_it ds l.grown)

        holds : (p : ℕ) → On p cs → On p (held u.start ds)
        holds p o = subst (λ (y : ℕ). On p (held y ds)) (sym l.tells.start) (trunk_holds m s t.start cs within_it reached_it ds l.grown p o)

        at_first : (es : List Row) → Grown m (get_or cs 0 0) cs es → weight es ≤ sum_of (far m x) cs
        at_first es g = trunk_light m s x cs start_within chosen_reached es (subst (λ (y : ℕ). Grown m y cs es) first_is g)
