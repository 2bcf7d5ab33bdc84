-- A walk on its way to the trunk. Assumes nothing.
use Rattle.std.proofs.Common.{◌≡◌, ℕ, ◌+◌, ◌<◌, ◌≤◌, Bool, true, false, ◌⊎◌, List, [], ◌∷◌, ◌++◌, length, set, Some, None, Option, unwrap_or, sym, refl, ap, ◌∙◌, subst, inl, inr, arith, length-append, ne_eqb}
use Rattle.std.proofs.lemmas.Option.{same_Some}
use Rattle.ways.specs.declared.row.Row.{Row}
use Rattle.ways.specs.Nearest.{with_place}
use Rattle.ways.specs.Options.{pick}
use Rattle.ways.specs.Places.{On, AllBelow}
use Rattle.ways.specs.Way.{Hop}
use Rattle.ways.proofs.Metric.{same}
use Rattle.ways.proofs.Simple.{fit}
use Rattle.oracle.specs.declared.step.Step.TheVariants.{Here, Next}
use Rattle.oracle.specs.declared.walk.Leg.{Leg}
use Rattle.oracle.specs.Answers.{step_of, step_for}
use Rattle.oracle.specs.Asked.{LegFrom}
use Rattle.oracle.specs.Meaning.{Meaning, far, Sound}
use Rattle.oracle.specs.Walked.{leg_of}
use Rattle.trees.specs.Growth.{walked, laid}
use Rattle.trees.specs.Groups.{with_places}
use Rattle.trees.proofs.Focus.{places_on, places_all, places_push}
use Rattle.trees.proofs.Growth.{end, walked_push, laid_push, length_laid}
use Rattle.plan.specs.declared.branch.Branch.{Branch}
use Rattle.plan.specs.Rows.{written}
use Rattle.plan.specs.Walks.{Along}
use Rattle.plan.specs.Trunks.{NearTrunk}
use Rattle.plan.proofs.Follow.{Onward, rule_step, Part, along_part, along_append, walked_far, walked_apart}
use Rattle.plan.proofs.Meets.{walk_meets}
use Rattle.plan.proofs.Near.{not_true, true_false}
use Rattle.plan.proofs.Nexts.{each_more}
use Rattle.plan.proofs.Rows.{written_push}

-- a branch from a place off the trunk f to its nearest place
pub record Begun (m : Meaning) (f : ℕ → Bool) (b : Branch) : Type 0 where
  pub sound : Sound m
  pub within : b.from < m.count
  pub off : f b.from ≡ false
  pub near : NearTrunk m f b.from (record { place = b.to; distance = b.distance })

-- the walk of the branch has come to the place at, and none of its places before was on the trunk f; its ducts are written from the index k on, which a tree's ducts do not reach
pub record Passing (m : Meaning) (f : ℕ → Bool) (b : Branch) (rows : List Row) (k : ℕ) (m' : Meaning) (f' : ℕ → Bool) (rows' : List Row) (k' : ℕ) (at : ℕ) : Type 0 where
  pub begun : Begun m f b
  pub room : k + 1 ≤ m.count
  pub hops : List Hop
  pub along : Along m.rule b.to b.from hops at
  pub first : (p : ℕ) → On p (walked b.from hops) → f p ≡ false
  pub meaning : m' ≡ m
  pub focus : f' ≡ with_places (walked b.from hops) f
  pub rows_are : rows' ≡ written k (laid b.from hops) rows
  pub count : k' ≡ k + length (laid b.from hops)

-- the code has made the hop to which the leg leads from the place at towards goal: its place and its duct have joined in, and whether its end is in focus was seen
pub record Hopped (m m' : Meaning) (f f' : ℕ → Bool) (rows rows' : List Row) (k at goal : ℕ) (leg : Leg) (seen : Bool) : Type 0 where
  pub answer : Option Leg
  pub asked : LegFrom m at goal answer
  pub is : answer ≡ Some leg
  pub meaning : m' ≡ m
  pub focus : f' ≡ with_place at f
  pub rows_are : rows' ≡ set rows k (record { first = at; second = leg.place; length = leg.length })
  pub looked : f' leg.place ≡ seen

pub at_first : (m : Meaning) (f : ℕ → Bool) (b : Branch) (rows : List Row) (k : ℕ) → Begun m f b → k + 1 ≤ m.count → Passing m f b rows k m f rows k b.from
at_first m f b rows k w r = record { begun = w; room = r; hops = []; along = refl; first = λ p o. absurd o; meaning = refl; focus = refl; rows_are = refl; count = omega arith }

along_end : (rule : ℕ → ℕ → Hop) (goal t at : ℕ) (hs : List Hop) → Along rule goal t hs at → end t hs ≡ at
along_end rule goal t at [] a = a
along_end rule goal t at (h ∷ hs) a = along_end rule goal h.to at hs a.2

all_below : (n : ℕ) (ps : List ℕ) → ((p : ℕ) → On p ps → p < n) → AllBelow n ps
all_below n [] f = tt
all_below n (p ∷ ps) f = (f p (inl refl), all_below n ps (λ q o. f q (inr o)))

module _ {m : Meaning} {f : ℕ → Bool} {b : Branch} {rows : List Row} {k : ℕ} {m' : Meaning} {f' : ℕ → Bool} {rows' : List Row} {k' at : ℕ} (p : Passing m f b rows k m' f' rows' k' at) where
  abbrev w : Begun m f b
  w = p.begun

  part : Part m w.sound b.from b.to b.distance p.hops at
  part = along_part m w.sound b.to b.from b.distance at p.hops w.near.0 w.within w.near.2 p.along

  pub at_within : at < m'.count
  at_within = subst (λ (y : Meaning). at < y.count) (sym p.meaning) part.1

  pub to_within : b.to < m'.count
  to_within = subst (λ (y : Meaning). b.to < y.count) (sym p.meaning) w.near.0

  -- a walk has fewer ducts than there are places
  pub few_hops : k' ≤ k + 4096
  few_hops =
      let inside : AllBelow m.count (walked b.from p.hops) = all_below m.count (walked b.from p.hops) (λ q o. (walked_far m w.sound b.to b.from b.distance at p.hops w.near.0 w.within w.near.2 p.along part.2.0 part.2.1 q o).0) in
      omega (arith, p.count, length_laid b.from p.hops, fit m.count (walked b.from p.hops) (walked_apart m w.sound b.to b.from b.distance at p.hops w.near.0 w.within w.near.2 p.along) inside, w.sound.few)

  -- and so has the trunk
  pub few_laid : k' < 8192
  few_laid = omega (arith, few_hops, p.room, w.sound.few)

  -- on the trunk with the walk is what is on the trunk
  pub met_trunk : f' at ≡ true → f at ≡ true
  met_trunk e = go (places_on (walked b.from p.hops) f at (subst (λ (y : ℕ → Bool). y at ≡ true) p.focus e))
    where
      go : On at (walked b.from p.hops) ⊎ (f at ≡ true) → f at ≡ true
      go (inr t) = t
      go (inl o) =
          let r = walked_far m w.sound b.to b.from b.distance at p.hops w.near.0 w.within w.near.2 p.along part.2.0 part.2.1 at o in
          let l : r.1.0 ≡ part.2.0 = same r.1.1 part.2.1 in
          absurd (omega (arith, l, r.1.2))

  pub missed_trunk : f' at ≡ false → f at ≡ false
  missed_trunk e = not_true (f at) (λ t. true_false (f' at) (subst (λ (y : ℕ → Bool). y at ≡ true) (sym p.focus) (places_all (walked b.from p.hops) f at (inr t))) e)

  -- at the end
  pub walk_ends : f at ≡ true → at ≡ b.to
  walk_ends t = (walk_meets m f b p.hops at w.sound w.within w.near (record { along = p.along; met = t; first = p.first })).0

  -- on its way
  module _ (off : f at ≡ false) where
    not_there : at ≡ b.to → ⊥
    not_there e = true_false (f at) (ap f e ∙ w.near.1) off

    onward : Onward m at b.to part.2.0 (m.rule at b.to)
    onward = rule_step m w.sound at b.to part.2.0 part.1 w.near.0 not_there part.2.1

    pub on_way : step_of m' at b.to ≡ Next (m'.rule at b.to).to (m'.rule at b.to).length
    on_way =
        subst (λ (y : Meaning). step_of y at b.to ≡ Next (y.rule at b.to).to (y.rule at b.to).length) (sym p.meaning)
        (ap (λ (t : Bool). pick t Here (step_for (far m at b.to) (m.rule at b.to))) (ne_eqb at b.to not_there) ∙ ap (λ (o : Option ℕ). step_for o (m.rule at b.to)) part.2.1)

    told : {l : Option Leg} → LegFrom m' at b.to l → l ≡ Some (record { place = (m'.rule at b.to).to; length = (m'.rule at b.to).length })
    told q = q.0 at_within to_within ∙ ap leg_of on_way

    -- there is a leg
    pub some_leg : {l : Option Leg} → LegFrom m' at b.to l → l ≡ None → ⊥
    some_leg q e = let a = sym (told q) ∙ e in let z : ◌≡◌ {A = ℕ} 0 1 = cc in omega arith

    module _ {l : Option Leg} {leg : Leg} (asked : LegFrom m' at b.to l) (is : l ≡ Some leg) where
      by_step : leg ≡ record { place = (m'.rule at b.to).to; length = (m'.rule at b.to).length }
      by_step = same_Some leg (record { place = (m'.rule at b.to).to; length = (m'.rule at b.to).length }) (sym is ∙ told asked)

      abbrev hop : Hop
      hop = record { to = leg.place; length = leg.length }

      by_rule : hop ≡ m.rule at b.to
      by_rule =
          let a = ap (λ (q : Leg). q.place) by_step in
          let c = ap (λ (q : Leg). q.length) by_step in
          let here : hop ≡ m'.rule at b.to = λ i. record { to = a i; length = c i } in
          here ∙ ap (λ (y : Meaning). y.rule at b.to) p.meaning

      went : Onward m at b.to part.2.0 hop
      went = subst (Onward m at b.to part.2.0) (sym by_rule) onward

      pub place_within : leg.place < m'.count
      place_within = subst (λ (y : Meaning). leg.place < y.count) (sym p.meaning) went.1

    -- one hop more
    module _ {m'' : Meaning} {f'' : ℕ → Bool} {rows'' : List Row} {leg : Leg} {seen : Bool} (h : Hopped m' m'' f' f'' rows' rows'' k' at b.to leg seen) where
      abbrev made : Hop
      made = record { to = leg.place; length = leg.length }

      pub nearer : unwrap_or (far m'' leg.place b.to) 0 < unwrap_or (far m' at b.to) 0
      nearer =
          let n : Onward m at b.to part.2.0 made = went h.asked h.is in
          let x : unwrap_or (far m'' leg.place b.to) 0 ≡ n.3.0 = ap (λ (y : Meaning). unwrap_or (far y leg.place b.to) 0) (h.meaning ∙ p.meaning) ∙ ap (λ (o : Option ℕ). unwrap_or o 0) n.3.1 in
          let y : unwrap_or (far m' at b.to) 0 ≡ part.2.0 = ap (λ (y : Meaning). unwrap_or (far y at b.to) 0) p.meaning ∙ ap (λ (o : Option ℕ). unwrap_or o 0) part.2.1 in
          omega (arith, x, y, n.2, n.3.2)

      pub passes_on : Passing m f b rows k m'' f'' rows'' (k' + 1) leg.place
      passes_on = record {
        begun = w;
        room = p.room;
        hops = p.hops ++ (made ∷ []);
        along = along_append m.rule b.to b.from at leg.place p.hops (made ∷ []) p.along (not_there, by_rule h.asked h.is, refl);
        first = subst (λ (ps : List ℕ). (q : ℕ) → On q ps → f q ≡ false) (sym walked_more) (each_more (λ q. f q ≡ false) (walked b.from p.hops) at p.first off);
        meaning = h.meaning ∙ p.meaning;
        focus = h.focus ∙ ap (with_place at) p.focus ∙ sym (places_push (walked b.from p.hops) at f) ∙ ap (λ (r : List ℕ). with_places r f) (sym walked_more);
        rows_are = h.rows_are ∙ ap (λ (y : List Row). set y k' row) p.rows_are ∙ sym (written_push k k' (laid b.from p.hops) rows row p.count) ∙ ap (λ (y : List Row). written k y rows) (sym laid_more);
        count = omega (arith, p.count, ap length laid_more, length-append (laid b.from p.hops) (row ∷ []));
      }
        where
          row : Row
          row = record { first = at; second = leg.place; length = leg.length }

          ended : end b.from p.hops ≡ at
          ended = along_end m.rule b.to b.from at p.hops p.along

          laid_more : laid b.from (p.hops ++ (made ∷ [])) ≡ laid b.from p.hops ++ (row ∷ [])
          laid_more = laid_push b.from p.hops made ∙ ap (λ (y : ℕ). laid b.from p.hops ++ (record { first = y; second = leg.place; length = leg.length } ∷ [])) ended

          walked_more : walked b.from (p.hops ++ (made ∷ [])) ≡ walked b.from p.hops ++ (at ∷ [])
          walked_more = walked_push b.from p.hops made ∙ ap (λ (y : ℕ). walked b.from p.hops ++ (y ∷ [])) ended
