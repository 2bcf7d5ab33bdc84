-- A trunk that grows is a tree, and weighs no more than the distances of the chosen places from its start. Assumes nothing.
use Rattle.std.proofs.Common.{◌≡◌, ℕ, ◌+◌, ◌<◌, ◌≤◌, Bool, true, false, List, [], ◌∷◌, ◌++◌, Some, Option, unwrap_or, sym, refl, ap, ◌∙◌, subst, inl, inr, arith}
use Rattle.ways.specs.Nearest.{Near}
use Rattle.ways.specs.declared.row.Row.{Row}
use Rattle.ways.specs.Nearest.{Later}
use Rattle.ways.specs.Options.{pick}
use Rattle.ways.specs.Places.{On}
use Rattle.ways.specs.Way.{Hop, total}
use Rattle.ways.proofs.Metric.{far_back}
use Rattle.oracle.specs.Meaning.{Meaning, far, Sound}
use Rattle.trees.specs.Connected.{weight, Tree}
use Rattle.trees.specs.Growth.{AllOff, walked, laid, held, net, Walk}
use Rattle.trees.specs.Groups.{focus_on}
use Rattle.trees.proofs.Places.{not_on, on_left, on_turned}
use Rattle.trees.proofs.Focus.{focus_is, focus_all}
use Rattle.trees.proofs.Growth.{starts_on, held_more, tree_starts, tree_grows}
use Rattle.plan.specs.declared.branch.Branch.{Branch}
use Rattle.plan.specs.Walks.{Walked}
use Rattle.plan.specs.Trunks.{NearTrunk, Next, Reached, Grows, done, more, Grown}
use Rattle.plan.proofs.Follow.{Part, along_part, walked_apart}
use Rattle.plan.proofs.Meets.{walk_meets}
use Rattle.plan.proofs.Near.{true_false}

-- the lengths together, where an absent one counts nothing
abbrev pub sum_of : (ℕ → Option ℕ) → List ℕ → ℕ
sum_of to [] = 0
sum_of to (c ∷ cs) = unwrap_or (to c) 0 + sum_of to cs

-- the same of those places that are on the trunk
abbrev pub spent : (ℕ → Option ℕ) → (ℕ → Bool) → List ℕ → ℕ
spent to trunk [] = 0
spent to trunk (c ∷ cs) = pick (trunk c) (unwrap_or (to c) 0) 0 + spent to trunk cs

spent_all : (to : ℕ → Option ℕ) (f : ℕ → Bool) (cs : List ℕ) → spent to f cs ≤ sum_of to cs
spent_all to f [] = omega arith
spent_all to f (c ∷ cs) = omega (arith, one (f c), spent_all to f cs)
  where
    one : (b : Bool) → pick b (unwrap_or (to c) 0) 0 ≤ unwrap_or (to c) 0
    one true = omega arith
    one false = omega arith

module _ (to : ℕ → Option ℕ) (f h : ℕ → Bool) (keeps : (p : ℕ) → f p ≡ true → h p ≡ true) where
  one_more : (c : ℕ) → pick (f c) (unwrap_or (to c) 0) 0 ≤ pick (h c) (unwrap_or (to c) 0) 0
  one_more c = go (f c) refl (h c) refl
    where
      go : (a : Bool) → f c ≡ a → (b : Bool) → h c ≡ b → pick a (unwrap_or (to c) 0) 0 ≤ pick b (unwrap_or (to c) 0) 0
      go true p true q = omega arith
      go true p false q = absurd (true_false (h c) (keeps c p) q)
      go false p b q = omega arith

  spent_more : (cs : List ℕ) → spent to f cs ≤ spent to h cs
  spent_more [] = omega arith
  spent_more (c ∷ cs) = omega (arith, one_more c, spent_more cs)

  -- a place that is new pays its distance
  spent_new : (t : ℕ) (cs : List ℕ) → On t cs → f t ≡ false → h t ≡ true → spent to f cs + unwrap_or (to t) 0 ≤ spent to h cs
  spent_new t [] o off on = absurd o
  spent_new t (c ∷ cs) (inr o) off on = omega (arith, one_more c, spent_new t cs o off on)
  spent_new t (c ∷ cs) (inl e) off on =
      let a : pick (f c) (unwrap_or (to c) 0) 0 ≡ 0 = ap (λ (b : Bool). pick b (unwrap_or (to c) 0) 0) (ap f (sym e) ∙ off) in
      let b : pick (h c) (unwrap_or (to c) 0) 0 ≡ unwrap_or (to c) 0 = ap (λ (b : Bool). pick b (unwrap_or (to c) 0) 0) (ap h (sym e) ∙ on) in
      let same : unwrap_or (to t) 0 ≡ unwrap_or (to c) 0 = ap (λ (y : ℕ). unwrap_or (to y) 0) e in
      omega (arith, a, b, same, spent_more cs)

all_off : (qs ps : List ℕ) → ((p : ℕ) → On p qs → focus_on ps p ≡ false) → AllOff qs ps
all_off [] ps f = tt
all_off (q ∷ qs) ps f = (not_on q ps (λ o. true_false (focus_on ps q) (focus_all ps q o) (f q (inl refl))), all_off qs ps (λ p o. f p (inr o)))

module _ (m : Meaning) (s : Sound m) (x : ℕ) where
  abbrev pub IsTree : List Row → Type 0
  IsTree ds = Tree m.count m.ducts (net x ds)

  -- a branch and its walk
  module _ (ds : List Row) (tree : IsTree ds) (b : Branch) (it : b.from < m.count) (near : NearTrunk m (focus_on (held x ds)) b.from (record { place = b.to; distance = b.distance })) (hs : List Hop) (meet : ℕ) (w : Walked m.rule (focus_on (held x ds)) b.from b.to hs meet) where
    part : Part m s b.from b.to b.distance hs meet
    part = along_part m s b.to b.from b.distance meet hs near.0 it near.2 w.along

    walk_long : total hs ≡ b.distance
    walk_long = (walk_meets m (focus_on (held x ds)) b hs meet s it near w).1

    the_walk : Walk m.ducts (held x ds) b.from hs meet
    the_walk = record {
      leads = part.0;
      lands = focus_is (held x ds) meet w.met;
      apart = walked_apart m s b.to b.from b.distance meet hs near.0 it near.2 w.along;
      off = all_off (walked b.from hs) (held x ds) w.first;
    }

    pub grown_tree : IsTree (ds ++ laid b.from hs) × (weight (ds ++ laid b.from hs) ≡ weight ds + b.distance)
    grown_tree =
        let g = tree_grows m.count m.ducts x ds b.from meet hs s.lawful tree the_walk in
        (g.0, omega (arith, g.1, walk_long))

    pub keeps_places : (p : ℕ) → focus_on (held x ds) p ≡ true → focus_on (held x (ds ++ laid b.from hs)) p ≡ true
    keeps_places p e = focus_all (held x (ds ++ laid b.from hs)) p (subst (On p) (sym (held_more x ds b.from hs)) (on_left p (held x ds) (walked b.from hs) (focus_is (held x ds) p e)))

    pub holds_from : focus_on (held x (ds ++ laid b.from hs)) b.from ≡ true
    holds_from = focus_all (held x (ds ++ laid b.from hs)) b.from (subst (On b.from) (sym (held_more x ds b.from hs)) (on_turned b.from (walked b.from hs) (held x ds) (starts_on m.ducts b.from meet hs (held x ds) part.0 the_walk.lands)))

  module _ (cs : List ℕ) (ix : x < m.count) (reach : Reached m x cs) where
    -- a branch is no longer than the way from where the trunk began
    branch_short : (ds : List Row) (b : Branch) → Next m (focus_on (held x ds)) cs b → b.distance ≤ unwrap_or (far m x b.from) 0
    branch_short ds b n =
        let r = reach b.from n.chosen in
        let e : far m b.from x ≡ Some r.1.0 = far_back m.count m.ducts s.lawful x b.from r.1.0 ix r.0 r.1.1 in
        let q : Near = record { place = b.to; distance = b.distance } in
        let l : Later q x (Some r.1.0) = subst (Later q x) e (n.near.3 x ix (focus_all (held x ds) x (inl refl))) in
        let v : unwrap_or (far m x b.from) 0 ≡ r.1.0 = ap (λ (p : Option ℕ). unwrap_or p 0) r.1.1 in
        omega (arith, l.0, v)

    grows_tree : (ds es : List Row) → IsTree ds → Grows m x cs ds es → IsTree es
    grows_tree ds es t (done h e) = subst IsTree (sym e) t
    grows_tree ds es t (more b hs meet n w g) = grows_tree (ds ++ laid b.from hs) es (grown_tree ds t b (reach b.from n.chosen).0 n.near hs meet w).0 g

    grows_light : (ds es : List Row) → IsTree ds → weight ds ≤ spent (far m x) (focus_on (held x ds)) cs → Grows m x cs ds es → weight es ≤ sum_of (far m x) cs
    grows_light ds es t l (done h e) = omega (arith, l, spent_all (far m x) (focus_on (held x ds)) cs, ap weight e)
    grows_light ds es t l (more b hs meet n w g) =
        let it = (reach b.from n.chosen).0 in
        let r = grown_tree ds t b it n.near hs meet w in
        grows_light (ds ++ laid b.from hs) es r.0
        (omega (arith, l, r.1, branch_short ds b n, spent_new (far m x) (focus_on (held x ds)) (focus_on (held x (ds ++ laid b.from hs))) (keeps_places ds t b it n.near hs meet w) b.from cs n.chosen n.off (holds_from ds t b it n.near hs meet w)))
        g

    grows_holds : (ds es : List Row) → Grows m x cs ds es → (c : ℕ) → On c cs → On c (held x es)
    grows_holds ds es (done h e) c o = subst (λ (y : List Row). On c (held x y)) (sym e) (focus_is (held x ds) c (h c o))
    grows_holds ds es (more b hs meet n w g) c o = grows_holds (ds ++ laid b.from hs) es g c o

    alone : IsTree []
    alone = tree_starts m.count m.ducts x ix

    -- what has grown is a tree that has every chosen place, and weighs no more than their distances from its start together
    pub trunk_tree : (ds : List Row) → Grown m x cs ds → IsTree ds
    trunk_tree ds g = grows_tree [] ds alone g

    pub trunk_holds : (ds : List Row) → Grown m x cs ds → (c : ℕ) → On c cs → On c (held x ds)
    trunk_holds ds g = grows_holds [] ds g

    pub trunk_light : (ds : List Row) → Grown m x cs ds → weight ds ≤ sum_of (far m x) cs
    trunk_light ds g = grows_light [] ds alone (omega arith) g
