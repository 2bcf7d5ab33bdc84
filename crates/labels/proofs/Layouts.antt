-- A row laid out by rank. Assumes nothing.
use Rattle.std.proofs.Common.{◌≡◌, ℕ, zero, suc, ◌+◌, ◌<◌, ◌≤◌, Bool, true, false, eqb, leb, List, [], ◌∷◌, length, get_or, set, Some, None, Option, sym, refl, ap, ◌∙◌, subst, inl, inr, arith, get_or-set_other, get_or-set_same, eq-eqb, eqb-true, leb-true, leb-false}
use native.Mathlib.Decide.{ℕ_discrete}
use Rattle.std.specs.List.{list_any}
use Rattle.std.proofs.lemmas.Bool.{both_ways, false_from_ne_true}
use Rattle.std.proofs.lemmas.List.{get_or_default}
use Rattle.std.proofs.lemmas.List.Folds.{Any-from_list_any, list_any_at}
use Rattle.ways.specs.Options.{pick}
use Rattle.ways.proofs.Metric.{same, not_both}
use Rattle.hubs.specs.declared.entry.Entry.{Entry}
use Rattle.hubs.specs.declared.meeting.Meeting.{Meeting}
use Rattle.hubs.specs.Labels.{In, Rising, Shared}
use Rattle.hubs.specs.Merge.{Merged, merge, sum_of, Less}
use Rattle.hubs.proofs.Merging.{above_in, merge_finds}
use Rattle.labels.specs.declared.record.Record.{Record}
use Rattle.labels.specs.Table.{no_entry}
use Rattle.labels.specs.State.{blank, laid_at, Upto, SameSearch, Laid, tells_by}

-- what is in a row stands at some position, and what stands in it is in it
pub in_at : (e : Entry) (xs : List Entry) → In e xs → (j : ℕ) × (j < length xs) × (get_or xs j no_entry ≡ e)
in_at e [] i = absurd i
in_at e (x ∷ xs) (inl z) = (0, omega arith, sym z)
in_at e (x ∷ xs) (inr i) = let k = in_at e xs i in (suc k.0, omega (arith, k.1), k.2)

pub at_in : (xs : List Entry) (j : ℕ) → j < length xs → In (get_or xs j no_entry) xs
at_in [] j l = absurd (omega arith)
at_in (x ∷ xs) zero l = inl refl
at_in (x ∷ xs) (suc j) l = inr (at_in xs j (omega arith))

pub rising_at : (xs : List Entry) (i j : ℕ) → Rising xs → i < j → j < length xs → (get_or xs i no_entry).rank < (get_or xs j no_entry).rank
rising_at [] i j p l m = absurd (omega arith)
rising_at (x ∷ xs) i zero p l m = absurd (omega arith)
rising_at (x ∷ xs) zero (suc j) p l m = above_in x.rank (get_or xs j no_entry) xs p.0 (at_in xs j (omega arith))
rising_at (x ∷ xs) (suc i) (suc j) p l m = rising_at xs i j p.1 (omega arith) (omega arith)

-- a record is written
pub upto_set : (k : ℕ) (rs : List Record) (v : ℕ) (x : Record) → v < length rs → Upto k rs → x.round ≤ k → x.laid_round ≤ k → Upto k (set rs v x)
upto_set k rs v x l u a b = record { came = λ w. came w (ℕ_discrete w v); laid = λ w. laid w (ℕ_discrete w v) }
  where
    came : (w : ℕ) → Dec (w ≡ v) → (get_or (set rs v x) w blank).round ≤ k
    came w (yes z) = subst (λ (y : ℕ). (get_or (set rs v x) y blank).round ≤ k) (sym z) (subst (λ (y : Record). y.round ≤ k) (sym (get_or-set_same rs v x blank l)) a)
    came w (no ne) = subst (λ (y : Record). y.round ≤ k) (sym (get_or-set_other rs v w x blank ne)) (u.came w)

    laid : (w : ℕ) → Dec (w ≡ v) → (get_or (set rs v x) w blank).laid_round ≤ k
    laid w (yes z) = subst (λ (y : ℕ). (get_or (set rs v x) y blank).laid_round ≤ k) (sym z) (subst (λ (y : Record). y.laid_round ≤ k) (sym (get_or-set_same rs v x blank l)) b)
    laid w (no ne) = subst (λ (y : Record). y.laid_round ≤ k) (sym (get_or-set_other rs v w x blank ne)) (u.laid w)

-- a field that the write keeps
pub field_kept : {A : Type 0} (f : Record → A) (rs : List Record) (v : ℕ) (x : Record) → v < length rs → f x ≡ f (get_or rs v blank) → (w : ℕ) → f (get_or (set rs v x) w blank) ≡ f (get_or rs w blank)
field_kept f rs v x l e w = go (ℕ_discrete w v)
  where
    go : Dec (w ≡ v) → f (get_or (set rs v x) w blank) ≡ f (get_or rs w blank)
    go (yes z) = ap (λ (y : ℕ). f (get_or (set rs v x) y blank)) z ∙ ap f (get_or-set_same rs v x blank l) ∙ e ∙ ap (λ (y : ℕ). f (get_or rs y blank)) (sym z)
    go (no ne) = ap f (get_or-set_other rs v w x blank ne)

-- what the loop keeps: the first i entries are laid out
pub record Laying (k : ℕ) (before : List Record) (ys : List Entry) (i : ℕ) (rs : List Record) : Type 0 where
  pub laid : Laid k rs ys i
  pub same : SameSearch before rs
  pub upto : Upto k rs

module _ (k : ℕ) (before : List Record) (ys : List Entry) (i : ℕ) (rs : List Record) (x : Record) (l : Laying k before ys i rs) (up : Rising ys) (m : i < length ys)
    (room : (get_or ys i no_entry).rank < length rs) (at-k : x.laid_round ≡ k) (at-d : x.laid ≡ (get_or ys i no_entry).distance)
    (a : x.round ≡ (get_or rs (get_or ys i no_entry).rank blank).round) (b : x.distance ≡ (get_or rs (get_or ys i no_entry).rank blank).distance) (c : x.stage ≡ (get_or rs (get_or ys i no_entry).rank blank).stage) where
  r : ℕ
  r = (get_or ys i no_entry).rank

  new : laid_at k (set rs (get_or ys i no_entry).rank x) (get_or ys i no_entry).rank ≡ Some (get_or ys i no_entry).distance
  new = ap (λ (y : Record). pick (eqb y.laid_round k) (Some y.laid) None) (get_or-set_same rs (get_or ys i no_entry).rank x blank room) ∙ rw (eq-eqb x.laid_round k at-k) (ap Some at-d)

  old : (q : ℕ) → (q ≡ (get_or ys i no_entry).rank → ⊥) → laid_at k (set rs (get_or ys i no_entry).rank x) q ≡ laid_at k rs q
  old q ne = ap (λ (y : Record). pick (eqb y.laid_round k) (Some y.laid) None) (get_or-set_other rs (get_or ys i no_entry).rank q x blank ne)

  pub laying_more : Laying k before ys (i + 1) (set rs (get_or ys i no_entry).rank x)
  laying_more = record {
    laid = record { only = λ q d e. only q d e (ℕ_discrete q (get_or ys i no_entry).rank); every = λ j n. every j n (ℕ_discrete j i) };
    same = record {
      round = λ v. field_kept (λ y. y.round) rs (get_or ys i no_entry).rank x room a v ∙ l.same.round v;
      distance = λ v. field_kept (λ y. y.distance) rs (get_or ys i no_entry).rank x room b v ∙ l.same.distance v;
      stage = λ v. field_kept (λ y. y.stage) rs (get_or ys i no_entry).rank x room c v ∙ l.same.stage v;
    };
    upto = upto_set k rs (get_or ys i no_entry).rank x room l.upto (omega (arith, a, l.upto.came (get_or ys i no_entry).rank)) (omega (arith, at-k));
  }
    where
      only : (q d : ℕ) → laid_at k (set rs (get_or ys i no_entry).rank x) q ≡ Some d → Dec (q ≡ (get_or ys i no_entry).rank) → (j : ℕ) × (j < i + 1) × ((get_or ys j no_entry).rank ≡ q) × ((get_or ys j no_entry).distance ≡ d)
      only q d e (yes z) = (i, omega arith, sym z, same new (ap (laid_at k (set rs (get_or ys i no_entry).rank x)) (sym z) ∙ e))
      only q d e (no ne) = let w = l.laid.only q d (sym (old q ne) ∙ e) in (w.0, omega (arith, w.1), w.2, w.3)

      every : (j : ℕ) → j < i + 1 → Dec (j ≡ i) → laid_at k (set rs (get_or ys i no_entry).rank x) (get_or ys j no_entry).rank ≡ Some (get_or ys j no_entry).distance
      every j n (yes z) = subst (λ (y : ℕ). laid_at k (set rs (get_or ys i no_entry).rank x) (get_or ys y no_entry).rank ≡ Some (get_or ys y no_entry).distance) (sym z) new
      every j n (no ne) = old (get_or ys j no_entry).rank (λ z. omega (arith, rising_at ys j i up (omega arith) m)) ∙ l.laid.every j (omega arith)

-- the row and a row that is laid out tell a distance of d or less, or they do not
abbrev pub Tells : Bool → ℕ → Option ℕ → Type 0
Tells true d o = Less d o → ⊥
Tells false d o = Less d o

-- an entry of the row meets the one laid out at its rank, at d or less
pub told : (k : ℕ) (rs : List Record) (xs ys : List Entry) (d i b : ℕ) → Rising xs → Rising ys → Laid k rs ys (length ys) → i < length xs → laid_at k rs (get_or xs i no_entry).rank ≡ Some b → (get_or xs i no_entry).distance + b ≤ d → Tells true d (sum_of (merge xs ys))
told k rs xs ys d i b p q l m e le = go (merge xs ys) (merge_finds xs ys p q)
  where
    w : (j : ℕ) × (j < length ys) × ((get_or ys j no_entry).rank ≡ (get_or xs i no_entry).rank) × ((get_or ys j no_entry).distance ≡ b)
    w = l.only (get_or xs i no_entry).rank b e

    shared : Shared xs ys (get_or xs i no_entry).rank ((get_or xs i no_entry).distance + b)
    shared = record { first = get_or xs i no_entry; second = get_or ys w.0 no_entry; first_in = at_in xs i m; second_in = at_in ys w.0 w.1; first_rank = refl; second_rank = w.2; sum = ap (λ (y : ℕ). (get_or xs i no_entry).distance + y) w.3 }

    go : (o : Option Meeting) → Merged xs ys o → Less d (sum_of o) → ⊥
    go None n s = n (get_or xs i no_entry).rank ((get_or xs i no_entry).distance + b) shared
    go (Some a) n s = omega (arith, (n.1 (get_or xs i no_entry).rank ((get_or xs i no_entry).distance + b) shared).0)

-- none does
pub untold : (k : ℕ) (rs : List Record) (xs ys : List Entry) (d : ℕ) → Rising xs → Rising ys → Laid k rs ys (length ys) → ((i b : ℕ) → i < length xs → laid_at k rs (get_or xs i no_entry).rank ≡ Some b → d < (get_or xs i no_entry).distance + b) → Tells false d (sum_of (merge xs ys))
untold k rs xs ys d p q l none = go (merge xs ys) (merge_finds xs ys p q)
  where
    go : (o : Option Meeting) → Merged xs ys o → Less d (sum_of o)
    go None n = tt
    go (Some a) n =
        let sh = n.0 in
        let x = in_at sh.first xs sh.first_in in
        let y = in_at sh.second ys sh.second_in in
        let ranks : (get_or ys y.0 no_entry).rank ≡ (get_or xs x.0 no_entry).rank = ap (λ (z : Entry). z.rank) y.2 ∙ sh.second_rank ∙ sym sh.first_rank ∙ ap (λ (z : Entry). z.rank) (sym x.2) in
        let e : laid_at k rs (get_or xs x.0 no_entry).rank ≡ Some (get_or ys y.0 no_entry).distance = ap (laid_at k rs) (sym ranks) ∙ l.every y.0 y.1 in
        omega (arith, none x.0 (get_or ys y.0 no_entry).distance x.1 e, sh.sum, ap (λ (z : Entry). z.distance) x.2, ap (λ (z : Entry). z.distance) y.2)

-- what a record of this round says of its rank
pub laid_now : (k : ℕ) (rs : List Record) (r : ℕ) → (get_or rs r blank).laid_round ≡ k → laid_at k rs r ≡ Some (get_or rs r blank).laid
laid_now k rs r e = rw (eq-eqb (get_or rs r blank).laid_round k e) refl

-- what the test of an entry says
tells_true : (k d : ℕ) (x : Record) (e : Entry) → tells_by k d x e ≡ true → (x.laid_round ≡ k) × (e.distance + x.laid ≤ d)
tells_true k d x e h = go (eqb x.laid_round k) refl h
  where
    go : (b : Bool) → eqb x.laid_round k ≡ b → pick b (leb (e.distance + x.laid) d) false ≡ true → (x.laid_round ≡ k) × (e.distance + x.laid ≤ d)
    go true z t = (eqb-true x.laid_round k z, leb-true (e.distance + x.laid) d t)
    go false z t = absurd (both_ways false refl t)

tells_false : (k d b : ℕ) (rs : List Record) (e : Entry) → tells_by k d (get_or rs e.rank blank) e ≡ false → laid_at k rs e.rank ≡ Some b → d < e.distance + b
tells_false k d b rs e h z = go (eqb (get_or rs e.rank blank).laid_round k) h z
  where
    go : (t : Bool) → pick t (leb (e.distance + (get_or rs e.rank blank).laid) d) false ≡ false → pick t (Some (get_or rs e.rank blank).laid) None ≡ Some b → d < e.distance + b
    go true t s = omega (arith, same refl s, leb-false (e.distance + (get_or rs e.rank blank).laid) d t)
    go false t s = absurd (not_both refl s)

-- whether some entry of the row passes the test
pub told_by : (k d : ℕ) (rs : List Record) (xs ys : List Entry) → Rising xs → Rising ys → Laid k rs ys (length ys) → Tells (list_any (λ e. tells_by k d (get_or rs e.rank blank) e) xs) d (sum_of (merge xs ys))
told_by k d rs xs ys p q l = go (list_any test xs) refl
  where
    test : Entry → Bool
    test e = tells_by k d (get_or rs e.rank blank) e

    none : list_any test xs ≡ false → (i b : ℕ) → i < length xs → laid_at k rs (get_or xs i no_entry).rank ≡ Some b → d < (get_or xs i no_entry).distance + b
    none z i b m s = tells_false k d b rs (get_or xs i no_entry) (false_from_ne_true (test (get_or xs i no_entry)) (λ t. both_ways (list_any test xs) z (list_any_at test xs i no_entry m t))) s

    go : (b : Bool) → list_any test xs ≡ b → Tells b d (sum_of (merge xs ys))
    go false z = untold k rs xs ys d p q l (none z)
    go true z =
        let a = Any-from_list_any test xs z in
        let t = tells_true k d (get_or rs a.1.rank blank) a.1 a.4 in
        let is : get_or xs a.0 no_entry ≡ a.1 = get_or_default xs a.0 no_entry a.1 a.2 ∙ a.3 in
        told k rs xs ys d a.0 (get_or rs a.1.rank blank).laid p q l a.2 (ap (λ (e : Entry). laid_at k rs e.rank) is ∙ laid_now k rs a.1.rank t.0) (omega (arith, ap (λ (e : Entry). e.distance) is, t.1))
