-- What holds of the rows of a frame, and that an accepted row keeps it. Assumes nothing.
use Rattle.std.proofs.Common.{◌≡◌, ℕ, suc, ◌+◌, ◌<◌, ◌≤◌, Bool, true, false, ◌&&◌, eqb, ltb, leb, List, [], ◌∷◌, ◌++◌, length, sym, refl, ap, ◌∙◌, arith}
use native.Mathlib.Decide.{ℕ_discrete, dec_le}
use Rattle.std.specs.List.{AllByRecursion}
use Rattle.std.proofs.ByRecursion.{All-get_or, All-push}
use Rattle.std.proofs.lemmas.List.{get_or_append_left, get_or_push, length_push}
use Rattle.std.proofs.lemmas.Bool.{ltb-false, leb-false, eq-eqb, and_from, or_parts, both_ways}
use Rattle.ways.specs.declared.row.Row.{Row}
use Rattle.ways.specs.Way.{LawfulDuct, Lawful}
use Rattle.frame.specs.declared.fault.FrameFault.{FrameFault}
use Rattle.frame.specs.declared.fault.FrameFault.TheVariants.{Length, NoRoom, NoPlace, Ends}
use Rattle.frame.specs.Rows.{IsDuct, no_row, row_at, paired, Sound, Kept}
use Rattle.frame.specs.Verdict.{Verdict, accepted, refuse, verdict}

-- what is not false is true, where it can be decided
pub decided : {P : Type 0} → Dec P → ((P → ⊥) → ⊥) → P
decided (yes p) h = p
decided (no n) h = absurd (h n)

pub le : (a b : ℕ) → ((a ≤ b → ⊥) → ⊥) → a ≤ b
le a b h = decided (dec_le a b) h

all_lawful : (n : ℕ) (ds : List Row) → ((Lawful n ds → ⊥) → ⊥) → Lawful n ds
all_lawful n [] h = tt
all_lawful n (d ∷ ds) h = (
  record {
    first_in = le (suc d.first) n (λ k. h (λ l. k l.0.first_in));
    second_in = le (suc d.second) n (λ k. h (λ l. k l.0.second_in));
    apart = λ e. h (λ l. l.0.apart e);
    some_length = le 1 d.length (λ k. h (λ l. k l.0.some_length));
    no_longer = le d.length 1000000 (λ k. h (λ l. k l.0.no_longer));
  },
  all_lawful n ds (λ k. h (λ l. k l.1)),
)

all_ordered : (ds : List Row) → ((AllByRecursion (λ d. d.first < d.second) ds → ⊥) → ⊥) → AllByRecursion (λ d. d.first < d.second) ds
all_ordered [] h = tt
all_ordered (d ∷ ds) h = (le (suc d.first) d.second (λ k. h (λ l. k l.0)), all_ordered ds (λ k. h (λ l. k l.1)))

-- what a ghost field holds, that it is not false, is true
pub unkept : (n : ℕ) (rows : List Row) → Kept n rows → Sound n rows
unkept n rows h = record {
  few = le n 4096 (λ k. h (λ s. k s.few));
  few_ducts = le (length rows) 16384 (λ k. h (λ s. k s.few_ducts));
  lawful = all_lawful n rows (λ k. h (λ s. k s.lawful));
  ordered = all_ordered rows (λ k. h (λ s. k s.ordered));
  single = λ i j lt in' p q. h (λ s. s.single i j lt in' p q);
}

lawful_get_or : (n : ℕ) (rows : List Row) (i : ℕ) → i < length rows → Lawful n rows → LawfulDuct n (row_at rows i)
lawful_get_or n rows i l h = All-get_or (LawfulDuct n) rows i no_row l (all rows h)
  where
    all : (ds : List Row) → Lawful n ds → AllByRecursion (LawfulDuct n) ds
    all [] k = tt
    all (d ∷ ds) k = (k.0, all ds k.1)

-- each row of a frame is a duct
pub duct_at : (n : ℕ) (rows : List Row) (i : ℕ) → Sound n rows → i < length rows → IsDuct (row_at rows i)
duct_at n rows i s l =
    let d : LawfulDuct n (row_at rows i) = lawful_get_or n rows i l s.lawful in
    record {
      ends = All-get_or (λ d. d.first < d.second) rows i no_row l s.ordered;
      some_length = d.some_length;
      no_longer = d.no_longer;
    }

-- an accepted verdict passed each test
passed : (b : Bool) (f : FrameFault) (o : Verdict) → refuse b f o ≡ accepted → (b ≡ false) × (o ≡ accepted)
passed true f o e = let z : ◌≡◌ {A = ℕ} 0 1 = cc in absurd (omega arith)
passed false f o e = (refl, e)

-- what an accepted row is
pub record Taken (n room : ℕ) (rows : List Row) (row : Row) : Type 0 where
  pub lawful : LawfulDuct n row
  pub ordered : row.first < row.second
  pub fits : length rows < room
  pub fresh : paired rows row.first row.second ≡ false

-- each test of the verdict tells a part
pub taken : (n room : ℕ) (rows : List Row) (row : Row) → verdict n room rows row ≡ accepted → Taken n room rows row
taken n room rows row e =
    let a = passed (ltb row.length 1) Length _ e in
    let b = passed (ltb 1000000 row.length) Length _ a.1 in
    let c = passed (leb room (length rows)) (NoRoom (length rows + 1)) _ b.1 in
    let d = passed (leb n row.first) (NoPlace row.first) _ c.1 in
    let f = passed (leb n row.second) (NoPlace row.second) _ d.1 in
    let g = passed (leb row.second row.first) (Ends row.first) _ f.1 in
    let h = passed (paired rows row.first row.second) (Ends row.first) _ g.1 in
    let up : row.first < row.second = leb-false row.second row.first g.0 in
    record {
      lawful = record {
        first_in = leb-false n row.first d.0;
        second_in = leb-false n row.second f.0;
        apart = λ p. omega arith;
        some_length = ltb-false row.length 1 a.0;
        no_longer = ltb-false 1000000 row.length b.0;
      };
      ordered = up;
      fits = leb-false room (length rows) c.0;
      fresh = h.0;
    }

-- one lawful duct more
lawful_push : (n : ℕ) (ds : List Row) (d : Row) → Lawful n ds → LawfulDuct n d → Lawful n (ds ++ d ∷ [])
lawful_push n [] d l h = (h, tt)
lawful_push n (x ∷ xs) d l h = (l.0, lawful_push n xs d l.1 h)

-- where no row has these ends, each row has others
unpaired : (rows : List Row) (a b : ℕ) → paired rows a b ≡ false → AllByRecursion (λ d. d.first ≡ a → d.second ≡ b → ⊥) rows
unpaired [] a b e = tt
unpaired (d ∷ ds) a b e =
    let parts = or_parts (eqb d.first a && eqb d.second b) (paired ds a b) e in
    (λ p q. both_ways _ parts.0 (and_from _ _ (eq-eqb d.first a p) (eq-eqb d.second b q)), unpaired ds a b parts.1)

-- a frame with an accepted row more
pub sound_push : (n room : ℕ) (rows : List Row) (row : Row) → room ≤ 16384 → Taken n room rows row → Sound n rows → Sound n (rows ++ row ∷ [])
sound_push n room rows row most t s = record {
  few = s.few;
  few_ducts = omega (arith, length_push rows row, t.fits);
  lawful = lawful_push n rows row s.lawful t.lawful;
  ordered = All-push (λ d. d.first < d.second) rows row s.ordered t.ordered;
  single = λ i j lt in' p q. go i j lt (omega (arith, length_push rows row)) p q (ℕ_discrete j (length rows));
}
  where
    old : (i : ℕ) → i < length rows → row_at (rows ++ row ∷ []) i ≡ row_at rows i
    old i l = get_or_append_left rows (row ∷ []) no_row i l

    go : (i j : ℕ) → i < j → j < length rows + 1 → (row_at (rows ++ row ∷ []) i).first ≡ (row_at (rows ++ row ∷ []) j).first → (row_at (rows ++ row ∷ []) i).second ≡ (row_at (rows ++ row ∷ []) j).second → Dec (j ≡ length rows) → ⊥
    go i j lt in' p q (yes e) =
        let l : i < length rows = omega arith in
        let new : row_at (rows ++ row ∷ []) j ≡ row = get_or_push rows row no_row j (sym e) in
        All-get_or (λ d. d.first ≡ row.first → d.second ≡ row.second → ⊥) rows i no_row l (unpaired rows row.first row.second t.fresh)
        (sym (ap (λ (d : Row). d.first) (old i l)) ∙ p ∙ ap (λ (d : Row). d.first) new)
        (sym (ap (λ (d : Row). d.second) (old i l)) ∙ q ∙ ap (λ (d : Row). d.second) new)
    go i j lt in' p q (no ne) =
        let l : i < length rows = omega arith in
        let k : j < length rows = omega arith in
        s.single i j lt k
        (sym (ap (λ (d : Row). d.first) (old i l)) ∙ p ∙ ap (λ (d : Row). d.first) (old j k))
        (sym (ap (λ (d : Row). d.second) (old i l)) ∙ q ∙ ap (λ (d : Row). d.second) (old j k))
