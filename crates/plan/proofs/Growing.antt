-- A trunk while it grows. Assumes nothing.
use Rattle.std.proofs.Common.{◌≡◌, ℕ, ◌+◌, ◌<◌, ◌≤◌, Bool, true, false, List, ◌++◌, length, sym, refl, ap, ◌∙◌, subst, inl, arith, length-append}
use Rattle.ways.specs.declared.row.Row.{Row}
use Rattle.ways.specs.Nearest.{no_place}
use Rattle.ways.proofs.Metric.{far_back}
use Rattle.oracle.specs.Meaning.{Meaning, Sound}
use Rattle.trees.specs.Connected.{weight, Tree}
use Rattle.trees.specs.Growth.{walked, laid, held, net}
use Rattle.trees.specs.Groups.{with_places, focus_on}
use Rattle.trees.proofs.Focus.{focus_all, places_append}
use Rattle.trees.proofs.Growth.{held_more}
use Rattle.trees.proofs.Sets.{tree_few, tree_light}
use Rattle.plan.specs.declared.branch.Branch.{Branch}
use Rattle.plan.specs.declared.trunk.Trunk.{Trunk}
use Rattle.plan.specs.Rows.{written}
use Rattle.plan.specs.Walks.{Walked}
use Rattle.plan.specs.Trunks.{Holds, Next, Joinable, Reached, Grows, done, more, Grown, Laid}
use Rattle.plan.proofs.Rows.{written_append}
use Rattle.plan.proofs.Trunks.{IsTree, grown_tree}
use Rattle.plan.proofs.Walking.{Begun, Passing, at_first, met_trunk, walk_ends}

-- what growth from x over the chosen places begins with
pub record Basis (m : Meaning) (x : ℕ) (cs : List ℕ) : Type 0 where
  pub sound : Sound m
  pub within : x < m.count
  pub reached : Reached m x cs

-- the trunk from x has come to some ducts: what grows from there has grown from x
pub record Growing (m : Meaning) (x : ℕ) (cs : List ℕ) (old : List Row) (m' : Meaning) (f' : ℕ → Bool) (rows' : List Row) (k w : ℕ) : Type 0 where
  pub base : Basis m x cs
  pub ducts : List Row
  pub onward : (es : List Row) → Grows m x cs ducts es → Grown m x cs es
  pub tree : Tree m.count m.ducts (net x ducts)
  pub meaning : m' ≡ m
  pub focus : f' ≡ focus_on (held x ducts)
  pub rows_are : rows' ≡ written 0 ducts old
  pub count : k ≡ length ducts
  pub weighs : w ≡ weight ducts

-- the walk has met the trunk at the nearest place, and the trunk has come to more ducts: its weight fits
pub record Joined (m : Meaning) (x : ℕ) (cs : List ℕ) (old : List Row) (m'' : Meaning) (f'' : ℕ → Bool) (rows'' : List Row) (k'' w at : ℕ) (b : Branch) : Type 0 where
  pub meets : at ≡ b.to
  pub fits : w + b.distance ≤ 4095000000
  pub grown : Growing m x cs old m'' f'' rows'' k'' (w + b.distance)

module _ {m : Meaning} {x : ℕ} {cs : List ℕ} {old : List Row} {m' : Meaning} {f' : ℕ → Bool} {rows' : List Row} {k w : ℕ} (g : Growing m x cs old m' f' rows' k w) where
  s : Sound m
  s = g.base.sound

  ix : x < m.count
  ix = g.base.within

  reach : Reached m x cs
  reach = g.base.reached

  -- every chosen place has a way to where the trunk began
  pub joinable : Joinable m' f' cs
  joinable =
      subst (λ (y : Meaning). Joinable y f' cs) (sym g.meaning)
      (subst (λ (y : ℕ → Bool). Joinable m y cs) (sym g.focus)
      (λ c o. let r = reach c o in (r.0, (x, ix, focus_all (held x g.ducts) x (inl refl), (r.1.0, far_back m.count m.ducts s.lawful x c r.1.0 ix r.0 r.1.1)))))

  pub few_ducts : k + 1 ≤ m.count
  few_ducts = omega (arith, g.count, tree_few m.count m.ducts (net x g.ducts) g.tree)

  -- all are on the trunk
  pub all_held : Holds f' cs → (t : Trunk) → t.start ≡ x → t.ducts ≡ k → t.weight ≡ w → Laid m x cs old rows' t
  all_held h t es ek ew = record {
    ducts = g.ducts;
    grown = g.onward g.ducts (done (subst (λ (y : ℕ → Bool). Holds y cs) g.focus h) refl);
    tells = record { start = es; ducts = ek ∙ g.count; weighs = ew ∙ g.weighs };
    rows = g.rows_are;
  }

  -- one is not, and walks; n' and h' are the meaning and the focus while it does
  module _ {b : Branch} {n' : Meaning} {h' : ℕ → Bool} (same : n' ≡ m') (kept : h' ≡ f') (n : Next m' f' cs b) where
    meant : n' ≡ m
    meant = same ∙ g.meaning

    held_so : h' ≡ focus_on (held x g.ducts)
    held_so = kept ∙ g.focus

    next₀ : Next m (focus_on (held x g.ducts)) cs b
    next₀ = subst (λ (y : Meaning). Next y (focus_on (held x g.ducts)) cs b) g.meaning (subst (λ (y : ℕ → Bool). Next m' y cs b) g.focus n)

    pub begins : Begun n' h' b
    begins =
        subst (λ (y : Meaning). Begun y h' b) (sym meant)
        (subst (λ (y : ℕ → Bool). Begun m y b) (sym held_so)
        (record { sound = s; within = (reach b.from next₀.chosen).0; off = next₀.off; near = next₀.near }))

    pub walks : Passing n' h' b rows' k n' h' rows' k b.from × (h' b.from ≡ false)
    walks = (at_first n' h' b rows' k begins (subst (λ (y : Meaning). k + 1 ≤ y.count) (sym meant) few_ducts), begins.off)

    module _ {m'' : Meaning} {f'' : ℕ → Bool} {rows'' : List Row} {k'' at : ℕ} (p : Passing n' h' b rows' k m'' f'' rows'' k'' at) (on : f'' at ≡ true) where
      t : h' at ≡ true
      t = met_trunk p on

      walk₀ : Walked m.rule (focus_on (held x g.ducts)) b.from b.to p.hops at
      walk₀ =
          subst (λ (y : Meaning). Walked y.rule (focus_on (held x g.ducts)) b.from b.to p.hops at) meant
          (subst (λ (y : ℕ → Bool). Walked n'.rule y b.from b.to p.hops at) held_so (record { along = p.along; met = t; first = p.first }))

      tree₀ : IsTree m s x (g.ducts ++ laid b.from p.hops) × (weight (g.ducts ++ laid b.from p.hops) ≡ weight g.ducts + b.distance)
      tree₀ = grown_tree m s x g.ducts g.tree b (reach b.from next₀.chosen).0 next₀.near p.hops at walk₀

      pub grows_on : Growing m x cs old m'' f'' rows'' k'' (w + b.distance)
      grows_on = record {
        base = g.base;
        ducts = g.ducts ++ laid b.from p.hops;
        onward = λ es r. g.onward es (more b p.hops at next₀ walk₀ r);
        tree = tree₀.0;
        meaning = p.meaning ∙ meant;
        focus = p.focus ∙ ap (with_places (walked b.from p.hops)) held_so ∙ sym (places_append (held x g.ducts) (walked b.from p.hops) no_place) ∙ ap focus_on (sym (held_more x g.ducts b.from p.hops));
        rows_are = p.rows_are ∙ ap (written k (laid b.from p.hops)) g.rows_are ∙ ap (λ (j : ℕ). written j (laid b.from p.hops) (written 0 g.ducts old)) at_end ∙ sym (written_append 0 g.ducts (laid b.from p.hops) old);
        count = omega (arith, p.count, g.count, length-append g.ducts (laid b.from p.hops));
        weighs = omega (arith, g.weighs, tree₀.1);
      }
        where
          at_end : k ≡ 0 + length g.ducts
          at_end = omega (arith, g.count)

      pub weight_fits : w + b.distance ≤ 4095000000
      weight_fits =
          let l = tree_light m.count m.ducts (net x (g.ducts ++ laid b.from p.hops)) s.lawful tree₀.0 in
          let c = tree_few m.count m.ducts (net x (g.ducts ++ laid b.from p.hops)) tree₀.0 in
          omega (arith, l, c, tree₀.1, g.weighs, s.few)

      pub joins : Joined m x cs old m'' f'' rows'' k'' w at b
      joins = record { meets = walk_ends p t; fits = weight_fits; grown = grows_on }
