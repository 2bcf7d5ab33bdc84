-- A list that grows by one number.
use Rattle.std.proofs.Common.{◌≡◌, ℕ, suc, ◌+◌, ◌<◌, ◌≤◌, Bool, true, false, cond, ltb, List, [], ◌∷◌, ◌++◌, map, length, take, MatchResult, Ok, Err, Result, ap, refl, arith, rules}
use Rattle.std.proofs.lemmas.List.{take_all, length_push, length-take, take-append-le, length-map, map_push}
use Rattle.ways.specs.declared.few.Full.{Full}
use Rattle.lines.specs.Said.{capped, shorts}

-- one more number is put behind where there is room
pub store : (ns : List ℕ) (v : ℕ) → length ns < 17 → take 17 (map capped (ns ++ v ∷ [])) ≡ take 17 (map capped ns) ++ capped v ∷ []
store ns v l =
    let lm = length-map ns capped in
    let b = take_all 17 (map capped ns) (omega arith) in
    let m = map_push capped ns v in
    let p = length_push ns v in
    let q = length-map (ns ++ v ∷ []) capped in
    let d = take_all 17 (map capped (ns ++ v ∷ [])) (omega arith) in
    cc

-- and else passed over
pub pass : (ns : List ℕ) (v : ℕ) → 17 ≤ length ns → take 17 (map capped (ns ++ v ∷ [])) ≡ take 17 (map capped ns)
pass ns v l =
    let lm = length-map ns capped in
    let m = map_push capped ns v in
    let d = take-append-le 17 (map capped ns) (capped v ∷ []) (omega arith) in
    cc

-- a number more, put behind or only counted
pub pushed : (old new ns : List ℕ) (v : ℕ) (r : Result (Unit {0}) Full) → old ≡ take 17 (map capped ns) → length new ≤ 17 → MatchResult r (λ _. new ≡ old ++ capped v ∷ []) (λ _. (new ≡ old) × (length old ≡ 17)) → new ≡ take 17 (map capped (ns ++ v ∷ []))
pushed old new ns v (Ok u) e few h =
    let long = ap length h in
    let more = length_push old (capped v) in
    let old-long = ap length e in
    let cut = length-take 17 (map capped ns) in
    let lm = length-map ns capped in
    let s = store ns v (omega (arith, long, more, old-long, cut, lm)) in
    cc
pushed old new ns v (Err u) e few h =
    let old-long = ap length e in
    let cut = length-take 17 (map capped ns) in
    let lm = length-map ns capped in
    let s = pass ns v (omega (arith, h.1, old-long, cut, lm)) in
    let same = h.0 in
    cc

-- a short number behind short ones
pub shorts_yes : (ns : List ℕ) (v : ℕ) → shorts ns ≡ length ns → v < 10000000 → shorts (ns ++ v ∷ []) ≡ shorts ns + 1
shorts_yes [] v e l = search rules
shorts_yes (n ∷ ns) v e l = go (ltb n 10000000) e (shorts_yes ns v)
  where
    go : (b : Bool) → cond b (1 + shorts ns) 0 ≡ suc (length ns) → (shorts ns ≡ length ns → v < 10000000 → shorts (ns ++ v ∷ []) ≡ shorts ns + 1) → cond b (1 + shorts (ns ++ v ∷ [])) 0 ≡ cond b (1 + shorts ns) 0 + 1
    go true q f = omega (arith, f (omega arith) l)
    go false q f = absurd (omega arith)

-- any other leaves the count
pub shorts_no : (ns : List ℕ) (v : ℕ) → (shorts ns ≡ length ns → v < 10000000 → ⊥) → shorts (ns ++ v ∷ []) ≡ shorts ns
shorts_no [] v f = search rules
shorts_no (n ∷ ns) v f = go (ltb n 10000000) f (shorts_no ns v)
  where
    go : (b : Bool) → (cond b (1 + shorts ns) 0 ≡ suc (length ns) → v < 10000000 → ⊥) → ((shorts ns ≡ length ns → v < 10000000 → ⊥) → shorts (ns ++ v ∷ []) ≡ shorts ns) → cond b (1 + shorts (ns ++ v ∷ [])) 0 ≡ cond b (1 + shorts ns) 0
    go true q g = omega (arith, g (λ e l. q (omega arith) l))
    go false q g = refl
