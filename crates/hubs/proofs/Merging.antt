-- What two rising rows share, and that their merge finds it. Assumes nothing.
use Rattle.std.proofs.Common.{◌≡◌, ℕ, ◌+◌, ◌<◌, ◌≤◌, Bool, true, false, ltb, leb, ◌⊎◌, List, [], ◌∷◌, Some, None, Option, sym, refl, ap, ◌∙◌, subst, inl, inr, arith, ltb-false, ltb-true, leb-false, leb-true}
use Rattle.ways.specs.Options.{pick}
use Rattle.hubs.specs.Labels.{Entry, In, Above, Rising, Shared}
use Rattle.hubs.specs.Merge.{Meeting, Merged, or_less, against, merge}
use Rattle.hubs.specs.Theorems.{MergeFinds}

pub above_in : (r : ℕ) (e : Entry) (xs : List Entry) → Above r xs → In e xs → r < e.rank
above_in r e [] a i = absurd i
above_in r e (x ∷ xs) a (inl q) = subst (λ (y : Entry). r < y.rank) (sym q) a.0
above_in r e (x ∷ xs) a (inr i) = above_in r e xs a.1 i

-- a rising row has at most one entry for a hub
pub one_entry : (e g : Entry) (xs : List Entry) → Rising xs → In e xs → In g xs → e.rank ≡ g.rank → e ≡ g
one_entry e g [] p i j h = absurd i
one_entry e g (x ∷ xs) p (inl q) (inl r) h = q ∙ sym r
one_entry e g (x ∷ xs) p (inl q) (inr j) h = absurd (omega (arith, above_in x.rank g xs p.0 j, h, ap (λ (y : Entry). y.rank) q))
one_entry e g (x ∷ xs) p (inr i) (inl r) h = absurd (omega (arith, above_in x.rank e xs p.0 i, h, ap (λ (y : Entry). y.rank) r))
one_entry e g (x ∷ xs) p (inr i) (inr j) h = one_entry e g xs p.1 i j h

-- rows that share the same have the same merge
merged_as : (xs ys zs ws : List Entry) (o : Option Meeting) → ((r d : ℕ) → Shared xs ys r d → Shared zs ws r d) → ((r d : ℕ) → Shared zs ws r d → Shared xs ys r d) → Merged xs ys o → Merged zs ws o
merged_as xs ys zs ws None to from m = λ r d s. m r d (from r d s)
merged_as xs ys zs ws (Some k) to from m = (to k.rank k.sum m.0, λ r d s. m.1 r d (from r d s))

more_one : (x : Entry) (xs ys : List Entry) (r d : ℕ) → Shared xs ys r d → Shared (x ∷ xs) ys r d
more_one x xs ys r d s = record { first = s.first; second = s.second; first_in = inr s.first_in; second_in = s.second_in; first_rank = s.first_rank; second_rank = s.second_rank; sum = s.sum }

more_other : (y : Entry) (xs ys : List Entry) (r d : ℕ) → Shared xs ys r d → Shared xs (y ∷ ys) r d
more_other y xs ys r d s = record { first = s.first; second = s.second; first_in = s.first_in; second_in = inr s.second_in; first_rank = s.first_rank; second_rank = s.second_rank; sum = s.sum }

-- a row all of whose ranks are above x's shares nothing with x
less_one : (x : Entry) (xs ys : List Entry) (r d : ℕ) → Above x.rank ys → Shared (x ∷ xs) ys r d → Shared xs ys r d
less_one x xs ys r d a s = go s.first_in
  where
    go : In s.first (x ∷ xs) → Shared xs ys r d
    go (inl q) = absurd (omega (arith, above_in x.rank s.second ys a s.second_in, s.first_rank, s.second_rank, ap (λ (y : Entry). y.rank) q))
    go (inr i) = record { first = s.first; second = s.second; first_in = i; second_in = s.second_in; first_rank = s.first_rank; second_rank = s.second_rank; sum = s.sum }

less_other : (y : Entry) (xs ys : List Entry) (r d : ℕ) → Above y.rank xs → Shared xs (y ∷ ys) r d → Shared xs ys r d
less_other y xs ys r d a s = go s.second_in
  where
    go : In s.second (y ∷ ys) → Shared xs ys r d
    go (inl q) = absurd (omega (arith, above_in y.rank s.first xs a s.first_in, s.first_rank, s.second_rank, ap (λ (y : Entry). y.rank) q))
    go (inr i) = record { first = s.first; second = s.second; first_in = s.first_in; second_in = i; first_rank = s.first_rank; second_rank = s.second_rank; sum = s.sum }

above_more : (q r : ℕ) (xs : List Entry) → q ≤ r → Above r xs → Above q xs
above_more q r [] l a = tt
above_more q r (x ∷ xs) l a = (omega (arith, a.0), above_more q r xs l a.1)

-- what two rows share whose first ranks are equal
first_or : (x y : Entry) (xs ys : List Entry) (r d : ℕ) → x.rank ≡ y.rank → Above x.rank xs → Above y.rank ys → Shared (x ∷ xs) (y ∷ ys) r d → ((r ≡ x.rank) × (d ≡ x.distance + y.distance)) ⊎ Shared xs ys r d
first_or x y xs ys r d e a b s = go s.first_in s.second_in
  where
    go : In s.first (x ∷ xs) → In s.second (y ∷ ys) → ((r ≡ x.rank) × (d ≡ x.distance + y.distance)) ⊎ Shared xs ys r d
    go (inl p) (inl q) = inl (omega (arith, s.first_rank, ap (λ (y : Entry). y.rank) p), omega (arith, s.sum, ap (λ (y : Entry). y.distance) p, ap (λ (y : Entry). y.distance) q))
    go (inl p) (inr j) = absurd (omega (arith, above_in y.rank s.second ys b j, s.first_rank, s.second_rank, ap (λ (y : Entry). y.rank) p))
    go (inr i) (inl q) = absurd (omega (arith, above_in x.rank s.first xs a i, s.first_rank, s.second_rank, ap (λ (y : Entry). y.rank) q))
    go (inr i) (inr j) = inr (record { first = s.first; second = s.second; first_in = i; second_in = j; first_rank = s.first_rank; second_rank = s.second_rank; sum = s.sum })

merged_first : (x y : Entry) (xs ys : List Entry) (o : Option Meeting) → x.rank ≡ y.rank → Above x.rank xs → Above y.rank ys → Merged xs ys o → Merged (x ∷ xs) (y ∷ ys) (or_less (record { rank = x.rank; sum = x.distance + y.distance }) o)
merged_first x y xs ys o e a b = go o
  where
    here : Shared (x ∷ xs) (y ∷ ys) x.rank (x.distance + y.distance)
    here = record { first = x; second = y; first_in = inl refl; second_in = inl refl; first_rank = refl; second_rank = sym e; sum = refl }

    -- a shared hub of what is left comes after x's
    after : (r d : ℕ) → Shared xs ys r d → x.rank < r
    after r d s = omega (arith, above_in x.rank s.first xs a s.first_in, s.first_rank)

    go : (o : Option Meeting) → Merged xs ys o → Merged (x ∷ xs) (y ∷ ys) (or_less (record { rank = x.rank; sum = x.distance + y.distance }) o)
    go None m = (here, λ r d s. least r d (first_or x y xs ys r d e a b s))
      where
        least : (r d : ℕ) → ((r ≡ x.rank) × (d ≡ x.distance + y.distance)) ⊎ Shared xs ys r d → (x.distance + y.distance ≤ d) × (x.distance + y.distance ≡ d → x.rank ≤ r)
        least r d (inl (p, q)) = (omega arith, λ z. omega arith)
        least r d (inr s) = absurd (m r d s)
    go (Some k) m = pair (leb (x.distance + y.distance) k.sum) refl
      where
        left : x.distance + y.distance ≤ k.sum → (r d : ℕ) → ((r ≡ x.rank) × (d ≡ x.distance + y.distance)) ⊎ Shared xs ys r d → (x.distance + y.distance ≤ d) × (x.distance + y.distance ≡ d → x.rank ≤ r)
        left l r d (inl (p, q)) = (omega arith, λ z. omega arith)
        left l r d (inr s) = (omega (arith, (m.1 r d s).0), λ z. omega (arith, after r d s))

        right : k.sum < x.distance + y.distance → (r d : ℕ) → ((r ≡ x.rank) × (d ≡ x.distance + y.distance)) ⊎ Shared xs ys r d → (k.sum ≤ d) × (k.sum ≡ d → k.rank ≤ r)
        right l r d (inl (p, q)) = (omega arith, λ z. absurd (omega arith))
        right l r d (inr s) = m.1 r d s

        pair : (c : Bool) → leb (x.distance + y.distance) k.sum ≡ c → Merged (x ∷ xs) (y ∷ ys) (pick c (Some (record { rank = x.rank; sum = x.distance + y.distance })) (Some k))
        pair true q = (here, λ r d s. left (leb-true (x.distance + y.distance) k.sum q) r d (first_or x y xs ys r d e a b s))
        pair false q = (more_other y (x ∷ xs) ys k.rank k.sum (more_one x xs ys k.rank k.sum m.0), λ r d s. right (leb-false (x.distance + y.distance) k.sum q) r d (first_or x y xs ys r d e a b s))

merged_against : (x : Entry) (xs : List Entry) (rest : List Entry → Option Meeting) → ((zs : List Entry) → Rising zs → Merged xs zs (rest zs)) → Rising (x ∷ xs) → (ys : List Entry) → Rising ys → Merged (x ∷ xs) ys (against x rest ys)
merged_against x xs rest is p [] q = λ r d s. absurd s.second_in
merged_against x xs rest is p (y ∷ ys) q = go (ltb x.rank y.rank) refl (ltb y.rank x.rank) refl (merged_against x xs rest is p ys q.1)
  where
    go : (c : Bool) → ltb x.rank y.rank ≡ c → (d : Bool) → ltb y.rank x.rank ≡ d → Merged (x ∷ xs) ys (against x rest ys) → Merged (x ∷ xs) (y ∷ ys) (pick c (rest (y ∷ ys)) (pick d (against x rest ys) (or_less (record { rank = x.rank; sum = x.distance + y.distance }) (rest ys))))
    go true k d l m =
        let lt : x.rank < y.rank = ltb-true x.rank y.rank k in
        merged_as xs (y ∷ ys) (x ∷ xs) (y ∷ ys) (rest (y ∷ ys)) (λ r d s. more_one x xs (y ∷ ys) r d s)
        (λ r d s. less_one x xs (y ∷ ys) r d (lt, above_more x.rank y.rank ys (omega arith) q.0) s) (is (y ∷ ys) q)
    go false k true l m =
        let lt : y.rank < x.rank = ltb-true y.rank x.rank l in
        merged_as (x ∷ xs) ys (x ∷ xs) (y ∷ ys) (against x rest ys) (λ r d s. more_other y (x ∷ xs) ys r d s)
        (λ r d s. less_other y (x ∷ xs) ys r d (lt, above_more y.rank x.rank xs (omega arith) p.0) s) m
    go false k false l m =
        merged_first x y xs ys (rest ys) (omega (arith, ltb-false x.rank y.rank k, ltb-false y.rank x.rank l)) p.0 q.0 (is ys q.1)

pub merge_finds : MergeFinds
merge_finds [] ys p q = λ r d s. absurd s.first_in
merge_finds (x ∷ xs) ys p q = merged_against x xs (merge xs) (λ zs k. merge_finds xs zs p.1 k) p ys q

-- no two answers are right
pub merged_once : (xs ys : List Entry) (o p : Option Meeting) → Merged xs ys o → Merged xs ys p → o ≡ p
merged_once xs ys None None m k = refl
merged_once xs ys None (Some b) m k = absurd (m b.rank b.sum k.0)
merged_once xs ys (Some a) None m k = absurd (k a.rank a.sum m.0)
merged_once xs ys (Some a) (Some b) m k =
    let p = m.1 b.rank b.sum k.0 in
    let q = k.1 a.rank a.sum m.0 in
    let s : a.sum ≡ b.sum = omega (arith, p.0, q.0) in
    let h : a.rank ≡ b.rank = omega (arith, p.1 s, q.1 (sym s)) in
    let e : a ≡ b = λ i. record { rank = h i; sum = s i } in
    ap Some e
