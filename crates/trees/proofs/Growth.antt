-- A tree with one more place on it, and a tree grown by a walk. Assumes nothing.
use Rattle.std.proofs.Common.{◌≡◌, ℕ, ◌+◌, List, [], ◌∷◌, ◌++◌, length, sym, refl, ap, ◌∙◌, subst, inl, inr, arith}
use Rattle.ways.specs.declared.row.Row.{Row}
use Rattle.ways.specs.Places.{On, Off, Apart}
use Rattle.ways.specs.Way.{Hop, Joined, Leads, total, Lawful}
use Rattle.ways.proofs.Graph.{leads_append, leads_more, from_in}
use Rattle.trees.specs.Connected.{weight, Between, Net, Connected, Tree}
use Rattle.trees.specs.Growth.{AllOff, walked, laid, firsts, held, net}
use Rattle.trees.specs.Laws.{TreeStarts, TreeGrows}
use Rattle.trees.proofs.Places.{off_on, off_append}
use Rattle.trees.proofs.Sets.{end_on}
use Rattle.trees.proofs.Turned.{tree_turned, weight_append}

pub tree_starts : TreeStarts
tree_starts n ds x lt = record {
  connected = record {
    some = omega arith;
    inside = (lt, tt);
    apart = (tt, tt);
    listed = tt;
    once = tt;
    between = tt;
    joined = ways;
  };
  thin = omega arith;
}
  where
    ways : (u v : ℕ) → On u (x ∷ []) → On v (x ∷ []) → (hs : List Hop) × Leads [] u hs v
    ways u v (inl a) (inl b) = ([], a ∙ sym b)
    ways u v (inl a) (inr b) = absurd b
    ways u v (inr a) b = absurd a

between_more : (t : ℕ) (ps : List ℕ) (es : List Row) → Between ps es → Between (t ∷ ps) es
between_more t ps [] b = tt
between_more t ps (e ∷ es) b = (inr b.0, inr b.1, between_more t ps es b.2)

-- the set c with the place t and a duct from it to w
abbrev leafed : Net → ℕ → ℕ → ℕ → Net
leafed c t w len = record { places = t ∷ c.places; ducts = record { first = t; second = w; length = len } ∷ c.ducts }

abbrev SomeWay : List Row → ℕ → ℕ → Type 0
SomeWay es u v = (hs : List Hop) × Leads es u hs v

leaf : (n : ℕ) (ds : List Row) (c : Net) (t w len : ℕ) → Lawful n ds → Connected n ds c → Joined ds t w len → On w c.places → Off t c.places → Connected n ds (leafed c t w len)
leaf n ds c t w len lawful k j on off =
    record {
      some = omega arith;
      inside = (from_in n ds t w len lawful j, k.inside);
      apart = (off, k.apart);
      listed = (j, k.listed);
      once = (λ q. off_on t c.places off (end_on c.places c.ducts t w len k.between q), k.once);
      between = (inl refl, inr on, between_more t c.places c.ducts k.between);
      joined = ways;
    }
  where
    es : List Row
    es = record { first = t; second = w; length = len } ∷ c.ducts

    old : (u v : ℕ) → On u c.places → On v c.places → SomeWay es u v
    old u v iu iv =
        let x = k.joined u v iu iv in
        (x.0, leads_more (record { first = t; second = w; length = len }) c.ducts u v x.0 x.1)

    ways : (u v : ℕ) → On u (t ∷ c.places) → On v (t ∷ c.places) → SomeWay es u v
    ways u v (inl a) (inl b) = ([], a ∙ sym b)
    ways u v (inl a) (inr iv) =
        let x = old w v on iv in
        (record { to = w; length = len } ∷ x.0, (inl (refl, inl (sym a, refl)), x.1))
    ways u v (inr iu) (inl b) =
        let x = old u w iu on in
        (x.0 ++ (record { to = t; length = len } ∷ []), leads_append es u w v x.0 (record { to = t; length = len } ∷ []) x.1 (inl (refl, inr (refl, refl)), sym b))
    ways u v (inr iu) (inr iv) = old u v iu iv

-- where a walk that lands on the places ps starts
pub starts_on : (ds : List Row) (t v : ℕ) (hs : List Hop) (ps : List ℕ) → Leads ds t hs v → On v ps → On t (walked t hs ++ ps)
starts_on ds t v [] ps l o = subst (λ (x : ℕ). On x ps) (sym l) o
starts_on ds t v (h ∷ hs) ps l o = inl refl

-- the set c with the walk in front
abbrev grown : Net → ℕ → List Hop → Net
grown c t hs = record { places = walked t hs ++ c.places; ducts = laid t hs ++ c.ducts }

grow : (n : ℕ) (ds : List Row) (c : Net) (t v : ℕ) (hs : List Hop) → Lawful n ds → Tree n ds c → Leads ds t hs v → On v c.places → Apart (walked t hs) → AllOff (walked t hs) c.places → Tree n ds (grown c t hs)
grow n ds c t v [] lawful k l o a f = k
grow n ds c t v (h ∷ hs) lawful k l o a f =
    let r : Tree n ds (grown c h.to hs) = grow n ds c h.to v hs lawful k l.1 o a.1 f.1 in
    record {
      connected = leaf n ds (grown c h.to hs) t h.to h.length lawful r.connected l.0 (starts_on ds h.to v hs c.places l.1 o) (off_append t (walked h.to hs) c.places a.0 f.0);
      thin = omega (arith, r.thin);
    }

heavier : (t : ℕ) (hs : List Hop) (es : List Row) → weight (laid t hs ++ es) ≡ weight es + total hs
heavier t [] es = omega arith
heavier t (h ∷ hs) es = omega (arith, heavier h.to hs es)

firsts_append : (ds es : List Row) → firsts (ds ++ es) ≡ firsts ds ++ firsts es
firsts_append [] es = refl
firsts_append (d ∷ ds) es = ap (λ (r : List ℕ). d.first ∷ r) (firsts_append ds es)

firsts_laid : (t : ℕ) (hs : List Hop) → firsts (laid t hs) ≡ walked t hs
firsts_laid t [] = refl
firsts_laid t (h ∷ hs) = ap (λ (r : List ℕ). t ∷ r) (firsts_laid h.to hs)

-- the places that are held after a walk
pub held_more : (x : ℕ) (es : List Row) (t : ℕ) (hs : List Hop) → held x (es ++ laid t hs) ≡ held x es ++ walked t hs
held_more x es t hs = ap (λ (r : List ℕ). x ∷ r) (firsts_append es (laid t hs) ∙ ap (λ (r : List ℕ). firsts es ++ r) (firsts_laid t hs))

pub tree_grows : TreeGrows
tree_grows n ds x es t v hs lawful k w = (
  subst (λ (ps : List ℕ). Tree n ds (record { places = ps; ducts = es ++ laid t hs })) (sym (held_more x es t hs))
      (tree_turned n ds (walked t hs) (held x es) (laid t hs) es (grow n ds (net x es) t v hs lawful k w.leads w.lands w.apart w.off)),
  omega (arith, heavier t hs es, weight_append (laid t hs) es, weight_append es (laid t hs)),
)

-- the place that hops from t come to
abbrev pub end : ℕ → List Hop → ℕ
end t [] = t
end t (h ∷ hs) = end h.to hs

-- one hop more is one place and one duct more
pub walked_push : (t : ℕ) (hs : List Hop) (h : Hop) → walked t (hs ++ (h ∷ [])) ≡ walked t hs ++ (end t hs ∷ [])
walked_push t [] h = refl
walked_push t (k ∷ hs) h = ap (λ (r : List ℕ). t ∷ r) (walked_push k.to hs h)

pub laid_push : (t : ℕ) (hs : List Hop) (h : Hop) → laid t (hs ++ (h ∷ [])) ≡ laid t hs ++ (record { first = end t hs; second = h.to; length = h.length } ∷ [])
laid_push t [] h = refl
laid_push t (k ∷ hs) h = ap (λ (r : List Row). record { first = t; second = k.to; length = k.length } ∷ r) (laid_push k.to hs h)

pub length_laid : (t : ℕ) (hs : List Hop) → length (laid t hs) ≡ length (walked t hs)
length_laid t [] = refl
length_laid t (h ∷ hs) = omega (arith, length_laid h.to hs)
