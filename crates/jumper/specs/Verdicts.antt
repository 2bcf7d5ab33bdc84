-- When a jumper's duct is accepted, and what the jumper then means. Assumes nothing.
use Rattle.std.specs.Prelude.{◌≡◌, ℕ, Bool, true, false, is_ok, Ok, Err, Result, ◌==◌, nat_le, nat_lt, refl}
use Rattle.std.proofs.Common.{sym, ap, subst, arith, leb-true, leb-false, ltb-true, ltb-false, eqb-true}
use Rattle.std.proofs.lemmas.Bool.{eqb-false}
use Rattle.ways.specs.declared.row.Row.{Row}
use Rattle.ways.specs.Options.{pick}
use Rattle.ways.specs.Way.{LawfulDuct}
use Rattle.oracle.specs.declared.fault.OracleFault.{OracleFault}
use Rattle.oracle.specs.declared.fault.OracleFault.TheVariants.{Limit, EqualEnds, NoPlace}
use Rattle.oracle.specs.Meaning.{Meaning}
use Rattle.jumper.specs.Laws.{AcceptedLawful}
use Rattle.jumper.specs.Jumped.{duct, turned, verdict, accepted, with_duct, jumped}

-- what holds of an acceptance of a lawful duct and of each refusal of another holds of the verdict
by_verdict : (n a b len : ℕ) (P : Result (Unit {0}) OracleFault → Type 0) → (LawfulDuct n (duct a b len) → P (Ok tt)) → ((e : OracleFault) → (LawfulDuct n (duct a b len) → ⊥) → P (Err e)) → P (verdict n a b len)
unfolding verdict
by_verdict n a b len P yes-so no-so = go (nat_le 1 len) refl (nat_le len 1000000) refl (nat_lt a n) refl (nat_lt b n) refl (a == b) refl
  where
    go : (p : Bool) → nat_le 1 len ≡ p → (q : Bool) → nat_le len 1000000 ≡ q → (r : Bool) → nat_lt a n ≡ r → (s : Bool) → nat_lt b n ≡ s → (t : Bool) → (a == b) ≡ t
        → P (pick (pick p q false) (pick r (pick s (pick t (Err (EqualEnds a)) (Ok tt)) (Err (NoPlace b))) (Err (NoPlace a))) (Err (Limit 3)))
    go false hp q hq r hr s hs t ht = no-so (Limit 3) (λ l. omega (arith, leb-false 1 len hp, l.some_length))
    go true hp false hq r hr s hs t ht = no-so (Limit 3) (λ l. omega (arith, leb-false len 1000000 hq, l.no_longer))
    go true hp true hq false hr s hs t ht = no-so (NoPlace a) (λ l. omega (arith, ltb-false a n hr, l.first_in))
    go true hp true hq true hr false hs t ht = no-so (NoPlace b) (λ l. omega (arith, ltb-false b n hs, l.second_in))
    go true hp true hq true hr true hs true ht = no-so (EqualEnds a) (λ l. l.apart (eqb-true a b ht))
    go true hp true hq true hr true hs false ht =
        yes-so (record { first_in = ltb-true a n hr; second_in = ltb-true b n hs; apart = eqb-false a b ht; some_length = leb-true 1 len hp; no_longer = leb-true len 1000000 hq })

abbrev Tells : (n a b len : ℕ) → Result (Unit {0}) OracleFault → Type 0
Tells n a b len r = (r ≡ Ok tt → LawfulDuct n (duct a b len)) × (LawfulDuct n (duct a b len) → r ≡ Ok tt)

not_err : {e : OracleFault} → ◌≡◌ {A = Result (Unit {0}) OracleFault} (Err e) (Ok tt) → ⊥
not_err q = cc

pub accepted_lawful : AcceptedLawful
accepted_lawful n a b len = by_verdict n a b len (Tells n a b len) (λ l. (λ q. l, λ k. refl)) (λ e no-l. (λ q. absurd (not_err q), λ k. absurd (no-l k)))

-- an accepted duct is lawful
pub lawful_duct : (n a b len : ℕ) → accepted n a b len ≡ true → LawfulDuct n (duct a b len)
lawful_duct n a b len = by_verdict n a b len (λ r. is_ok r ≡ true → LawfulDuct n (duct a b len)) (λ l q. l) (λ e no-l q. cc)

-- a lawful duct is lawful from its other end
pub turned_lawful : (n : ℕ) (d : Row) → LawfulDuct n d → LawfulDuct n (turned d)
turned_lawful n d l = record { first_in = l.second_in; second_in = l.first_in; apart = λ e. l.apart (sym e); some_length = l.some_length; no_longer = l.no_longer }

pub jumped_on : (m : Meaning) (a b len : ℕ) → accepted m.count a b len ≡ true → jumped m a b len ≡ with_duct m a b len
unfolding jumped
jumped_on m a b len e = ap (λ (c : Bool). pick c (with_duct m a b len) m) e

pub jumped_off : (m : Meaning) (a b len : ℕ) → accepted m.count a b len ≡ false → jumped m a b len ≡ m
unfolding jumped
jumped_off m a b len e = ap (λ (c : Bool). pick c (with_duct m a b len) m) e

-- what holds with a lawful duct, and as it was, holds of the jumper
pub by_jumped : (m : Meaning) (a b len : ℕ) (P : Meaning → Type 0) → (LawfulDuct m.count (duct a b len) → P (with_duct m a b len)) → P m → P (jumped m a b len)
by_jumped m a b len P on off = go (accepted m.count a b len) refl
  where
    go : (c : Bool) → accepted m.count a b len ≡ c → P (jumped m a b len)
    go true e = subst P (sym (jumped_on m a b len e)) (on (lawful_duct m.count a b len e))
    go false e = subst P (sym (jumped_off m a b len e)) off

-- a jumper adds no place
pub jumped_count : (m : Meaning) (a b len : ℕ) → (jumped m a b len).count ≡ m.count
jumped_count m a b len = by_jumped m a b len (λ k. k.count ≡ m.count) (λ _. refl) refl

-- what holds with an accepted duct holds of the jumper
pub on_jumped : (m : Meaning) (a b len : ℕ) (P : Meaning → Type 0) → true ≡ accepted m.count a b len → P (with_duct m a b len) → P (jumped m a b len)
on_jumped m a b len P e h = subst P (sym (jumped_on m a b len (sym e))) h

-- what holds below holds of a jumper with a refused duct
pub off_jumped : (m : Meaning) (a b len : ℕ) (P : Meaning → Type 0) → false ≡ accepted m.count a b len → P m → P (jumped m a b len)
off_jumped m a b len P e h = subst P (sym (jumped_off m a b len (sym e))) h

-- taken, the duct is lawful and there; not taken, all is as it was
abbrev pub Taken : Meaning → Row → Bool → Type 0
Taken m d true = LawfulDuct m.count d × (jumped m d.first d.second d.length ≡ with_duct m d.first d.second d.length)
Taken m d false = jumped m d.first d.second d.length ≡ m

pub taken : (m : Meaning) (d : Row) (c : Bool) → c ≡ accepted m.count d.first d.second d.length → Taken m d c
taken m d true e = (lawful_duct m.count d.first d.second d.length (sym e), on_jumped m d.first d.second d.length (λ k. k ≡ with_duct m d.first d.second d.length) e refl)
taken m d false e = off_jumped m d.first d.second d.length (λ k. k ≡ m) e refl
