-- A tree's lists may be put together the other way round. Assumes nothing.
use Rattle.std.proofs.Common.{◌≡◌, ℕ, ◌+◌, ◌⊎◌, List, [], ◌∷◌, ◌++◌, sym, inl, inr, arith, length-append}
use Rattle.ways.specs.declared.row.Row.{Row}
use Rattle.ways.specs.Places.{On}
use Rattle.ways.specs.Way.{Hop, Joins, Joined, Leads}
use Rattle.trees.specs.Connected.{weight, Listed, Once, Between, Net, Tree}
use Rattle.trees.proofs.Places.{on_turned, apart_turned, below_append, below_left, below_right}

joined_left : (es fs : List Row) (u w l : ℕ) → Joined es u w l → Joined (es ++ fs) u w l
joined_left [] fs u w l j = absurd j
joined_left (e ∷ es) fs u w l (inl j) = inl j
joined_left (e ∷ es) fs u w l (inr j) = inr (joined_left es fs u w l j)

joined_right : (es fs : List Row) (u w l : ℕ) → Joined fs u w l → Joined (es ++ fs) u w l
joined_right [] fs u w l j = j
joined_right (e ∷ es) fs u w l j = inr (joined_right es fs u w l j)

joined_split : (es fs : List Row) (u w l : ℕ) → Joined (es ++ fs) u w l → Joined es u w l ⊎ Joined fs u w l
joined_split [] fs u w l j = inr j
joined_split (e ∷ es) fs u w l (inl j) = inl (inl j)
joined_split (e ∷ es) fs u w l (inr j) = also (joined_split es fs u w l j)
  where
    also : Joined es u w l ⊎ Joined fs u w l → Joined (e ∷ es) u w l ⊎ Joined fs u w l
    also (inl i) = inl (inr i)
    also (inr i) = inr i

joined_swap : (es fs : List Row) (u w l : ℕ) → Joined (es ++ fs) u w l → Joined (fs ++ es) u w l
joined_swap es fs u w l j = go (joined_split es fs u w l j)
  where
    go : Joined es u w l ⊎ Joined fs u w l → Joined (fs ++ es) u w l
    go (inl i) = joined_right fs es u w l i
    go (inr i) = joined_left fs es u w l i

leads_swap : (es fs : List Row) (u v : ℕ) (hs : List Hop) → Leads (es ++ fs) u hs v → Leads (fs ++ es) u hs v
leads_swap es fs u v [] l = l
leads_swap es fs u v (h ∷ hs) l = (joined_swap es fs u h.to h.length l.0, leads_swap es fs h.to v hs l.1)

-- a duct that is the same as another, from either end
same_turned : (d e : Row) → Joins d e.first e.second e.length → Joins e d.first d.second d.length
same_turned d e j = (sym j.0, go j.1)
  where
    go : (((d.first ≡ e.first) × (d.second ≡ e.second)) ⊎ ((d.first ≡ e.second) × (d.second ≡ e.first))) → ((e.first ≡ d.first) × (e.second ≡ d.second)) ⊎ ((e.first ≡ d.second) × (e.second ≡ d.first))
    go (inl q) = inl (sym q.0, sym q.1)
    go (inr q) = inr (sym q.1, sym q.0)

abbrev Lacks : List Row → Row → Type 0
Lacks es d = Joined es d.first d.second d.length → ⊥

once_moved : (d : Row) (gs fs : List Row) → Lacks (gs ++ fs) d → Once (gs ++ fs) → Once (gs ++ (d ∷ fs))
once_moved d [] fs f a = (f, a)
once_moved d (g ∷ gs) fs f a = (λ j. go (joined_split gs (d ∷ fs) g.first g.second g.length j), once_moved d gs fs (λ j. f (inr j)) a.1)
  where
    go : Joined gs g.first g.second g.length ⊎ Joined (d ∷ fs) g.first g.second g.length → ⊥
    go (inl j) = a.0 (joined_left gs fs g.first g.second g.length j)
    go (inr (inl j)) = f (inl (same_turned d g j))
    go (inr (inr j)) = a.0 (joined_right gs fs g.first g.second g.length j)

once_turned : (es fs : List Row) → Once (es ++ fs) → Once (fs ++ es)
once_turned [] fs a = plain fs a
  where
    plain : (fs : List Row) → Once fs → Once (fs ++ [])
    plain [] a = tt
    plain (f ∷ fs) a = (λ j. a.0 (joined_swap fs [] f.first f.second f.length j), plain fs a.1)
once_turned (e ∷ es) fs a = once_moved e fs es (λ j. a.0 (joined_swap fs es e.first e.second e.length j)) (once_turned es fs a.1)

listed_append : (ds es fs : List Row) → Listed ds es → Listed ds fs → Listed ds (es ++ fs)
listed_append ds [] fs a b = b
listed_append ds (e ∷ es) fs a b = (a.0, listed_append ds es fs a.1 b)

listed_left : (ds es fs : List Row) → Listed ds (es ++ fs) → Listed ds es
listed_left ds [] fs a = tt
listed_left ds (e ∷ es) fs a = (a.0, listed_left ds es fs a.1)

listed_right : (ds es fs : List Row) → Listed ds (es ++ fs) → Listed ds fs
listed_right ds [] fs a = a
listed_right ds (e ∷ es) fs a = listed_right ds es fs a.1

between_append : (ps : List ℕ) (es fs : List Row) → Between ps es → Between ps fs → Between ps (es ++ fs)
between_append ps [] fs a b = b
between_append ps (e ∷ es) fs a b = (a.0, a.1, between_append ps es fs a.2 b)

between_left : (ps : List ℕ) (es fs : List Row) → Between ps (es ++ fs) → Between ps es
between_left ps [] fs a = tt
between_left ps (e ∷ es) fs a = (a.0, a.1, between_left ps es fs a.2)

between_right : (ps : List ℕ) (es fs : List Row) → Between ps (es ++ fs) → Between ps fs
between_right ps [] fs a = a
between_right ps (e ∷ es) fs a = between_right ps es fs a.2

between_as : (ps qs : List ℕ) (es : List Row) → ((x : ℕ) → On x ps → On x qs) → Between ps es → Between qs es
between_as ps qs [] f b = tt
between_as ps qs (e ∷ es) f b = (f e.first b.0, f e.second b.1, between_as ps qs es f b.2)

abbrev pub put : List ℕ → List ℕ → List Row → List Row → Net
put ps qs es fs = record { places = ps ++ qs; ducts = es ++ fs }

pub tree_turned : (n : ℕ) (ds : List Row) (ps qs : List ℕ) (es fs : List Row) → Tree n ds (put ps qs es fs) → Tree n ds (put qs ps fs es)
tree_turned n ds ps qs es fs t =
    let k = t.connected in
    record {
      connected = record {
        some = omega (arith, k.some, length-append ps qs, length-append qs ps);
        inside = below_append n qs ps (below_right n ps qs k.inside) (below_left n ps qs k.inside);
        apart = apart_turned ps qs k.apart;
        listed = listed_append ds fs es (listed_right ds es fs k.listed) (listed_left ds es fs k.listed);
        once = once_turned es fs k.once;
        between = between_as (ps ++ qs) (qs ++ ps) (fs ++ es) (λ x o. on_turned x ps qs o) (between_append (ps ++ qs) fs es (between_right (ps ++ qs) es fs k.between) (between_left (ps ++ qs) es fs k.between));
        joined = λ u v iu iv. let w = k.joined u v (on_turned u qs ps iu) (on_turned v qs ps iv) in (w.0, leads_swap es fs u v w.0 w.1);
      };
      thin = omega (arith, t.thin, length-append ps qs, length-append qs ps, length-append es fs, length-append fs es);
    }

pub weight_append : (es fs : List Row) → weight (es ++ fs) ≡ weight es + weight fs
weight_append [] fs = omega arith
weight_append (e ∷ es) fs = omega (arith, weight_append es fs)
