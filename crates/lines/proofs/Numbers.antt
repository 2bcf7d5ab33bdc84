-- A text of numbers: read in one way only, and its steps.
use Rattle.std.proofs.Common.{◌≡◌, ℕ, ◌+◌, ◌<◌, ◌≤◌, List, [], ◌∷◌, ◌++◌, length, get_or, drop, sym, refl, ap, ◌∙◌, subst, arith}
use Rattle.std.proofs.lemmas.List.{length-append, length_push, nil_from_length, append_cancel_right, append_assoc, append-nil}
use Rattle.std.specs.Str.Parse.{AllDigits, digits_value}
use Rattle.std.specs.Int.{IsInRange}
use Rattle.std.proofs.lemmas.Str.Parse.{digit_at}
use Rattle.lines.specs.Text.{Stops, Opens, Numbered, Next, NoNext, held}
use Rattle.lines.specs.Said.{Lists}
use Rattle.lines.specs.declared.line.Listed.{Listed}

-- where two cuts behind digits meet, what follows is the same
same_rest : (p q r s : List ℕ) → AllDigits 10 p → AllDigits 10 q → Stops r → Stops s → p ++ r ≡ q ++ s → r ≡ s
same_rest [] [] r s dp dq hr hs e = e
same_rest [] (d ∷ q) r s dp dq hr hs e =
    let g = digit_at (d ∷ q) 0 dq (omega arith) in
    absurd (hr.stops (subst (IsInRange 48 57) (sym (ap (λ (u : List ℕ). get_or u 0 0) e)) g))
same_rest (c ∷ p) [] r s dp dq hr hs e =
    let g = digit_at (c ∷ p) 0 dp (omega arith) in
    absurd (hs.stops (subst (IsInRange 48 57) (ap (λ (u : List ℕ). get_or u 0 0) e) g))
same_rest (c ∷ p) (d ∷ q) r s dp dq hr hs e =
    same_rest p q r s dp.1 dq.1 hr hs (ap (drop 1) e)

-- two numbers at one front are the same
pub record Once (v w : ℕ) (r s : List ℕ) : Type 0 where
  pub worth : v ≡ w
  pub rest : r ≡ s

pub opens_once : (text : List ℕ) (v w : ℕ) (r s : List ℕ) → Opens text v r → Stops r → Opens text w s → Stops s → Once v w r s
opens_once text v w r s o hr p hs =
    let e : o.piece ++ r ≡ p.piece ++ s = ap (drop 1) (sym o.is ∙ p.is) in
    let q = same_rest o.piece p.piece r s o.plain.digits p.plain.digits hr hs e in
    let u : o.piece ≡ p.piece = append_cancel_right o.piece p.piece s (subst (λ (x : List ℕ). o.piece ++ x ≡ p.piece ++ s) q e) in
    record { worth = sym o.worth ∙ (ap (digits_value 10) u ∙ p.worth); rest = q }

-- what is left of a text of numbers goes on with no digit
pub stops_numbered : (text vs : List ℕ) → Numbered text vs → Stops text
stops_numbered text [] e = record { stops = λ h. let z = ap (λ (u : List ℕ). get_or u 0 0) e in omega arith }
stops_numbered text (v ∷ vs) n = record { stops = λ h. let z = ap (λ (u : List ℕ). get_or u 0 0) n.1.is in omega arith }

-- a text is one list of numbers only
pub numbered_once : (text vs ws : List ℕ) → Numbered text vs → Numbered text ws → vs ≡ ws
numbered_once text [] [] p q = refl
numbered_once text [] (w ∷ ws) p q = let l = ap length (sym p ∙ q.1.is) in absurd (omega arith)
numbered_once text (v ∷ vs) [] p q = let l = ap length (sym q ∙ p.1.is) in absurd (omega arith)
numbered_once text (v ∷ vs) (w ∷ ws) p q =
    let o = opens_once text v w p.0 q.0 p.1 (stops_numbered p.0 vs p.2) q.1 (stops_numbered q.0 ws q.2) in
    let i = numbered_once p.0 vs ws p.2 (subst (λ (u : List ℕ). Numbered u ws) (sym o.rest) q.2) in
    let h = o.worth in
    cc

-- what follows the first number
pub record Behind (v : ℕ) (rest : List ℕ) (vs : List ℕ) : Type 0 where
  pub tail : List ℕ
  pub is : vs ≡ v ∷ tail
  pub numbered : Numbered rest tail

pub behind : (text rest : List ℕ) (n : ℕ) (x : Next text n rest) (vs : List ℕ) → Numbered text vs → Behind x.worth rest vs
behind text rest n x [] e = let l = ap length (sym e ∙ x.opens.is) in absurd (omega arith)
behind text rest n x (w ∷ ws) q =
    let o = opens_once text x.worth w rest q.0 x.opens x.after q.1 (stops_numbered q.0 ws q.2) in
    let h = o.worth in
    record { tail = ws; is = cc; numbered = subst (λ (u : List ℕ). Numbered u ws) (sym o.rest) q.2 }

pub none_behind : (text : List ℕ) → NoNext text → (vs : List ℕ) → 0 < length text → Numbered text vs → ⊥
none_behind text f [] l e = omega (arith, ap length e)
none_behind text f (v ∷ vs) l n = f v n.0 n.1 (stops_numbered n.0 vs n.2)

pub shorter : (text rest : List ℕ) (n : ℕ) → Next text n rest → length rest < length text
shorter text rest n x = omega (arith, ap length x.opens.is, length-append x.opens.piece rest, x.opens.plain.some)

-- where a reading of a list stands
pub record Along (text rest : List ℕ) (list : Listed) : Type 0 where
  pub done : List ℕ
  pub lists : Lists list done
  pub room : list.count + length rest ≤ length text
  pub so_far : (ms : List ℕ) → Numbered rest ms → Numbered text (done ++ ms)
  pub only : (ns : List ℕ) → Numbered text ns → (ms : List ℕ) × (ns ≡ done ++ ms) × Numbered rest ms

pub along : (text rest after : List ℕ) (n : ℕ) (list list' : Listed) → Next rest n after → Along text rest list → ((ns : List ℕ) (v : ℕ) → Lists list ns → n ≡ held v → Lists list' (ns ++ v ∷ [])) → Along text after list'
along text rest after n list list' x a f =
    let g = f a.done x.worth a.lists x.number in
    record {
      done = a.done ++ x.worth ∷ [];
      lists = g;
      room = omega (arith, a.room, shorter rest after n x, g.counted, a.lists.counted, length_push a.done x.worth);
      so_far = λ ms h. subst (Numbered text) (sym (append_assoc a.done (x.worth ∷ []) ms)) (a.so_far (x.worth ∷ ms) (after, x.opens, h));
      only = λ ns h. go ns (a.only ns h);
    }
  where
    go : (ns : List ℕ) → (ms : List ℕ) × (ns ≡ a.done ++ ms) × Numbered rest ms → (ms : List ℕ) × (ns ≡ (a.done ++ x.worth ∷ []) ++ ms) × Numbered after ms
    go ns h =
        let b = behind rest after n x h.0 h.2 in
        let e = append_assoc a.done (x.worth ∷ []) b.tail in
        let i = b.is in
        let j = h.1 in
        (b.tail, cc, b.numbered)

pub finished : (text rest : List ℕ) (list : Listed) → length rest ≤ 0 → Along text rest list → (ns : List ℕ) × Numbered text ns × Lists list ns
finished text rest list z a =
    (a.done, subst (Numbered text) (append-nil a.done) (a.so_far [] (nil_from_length rest (omega arith))), a.lists)
