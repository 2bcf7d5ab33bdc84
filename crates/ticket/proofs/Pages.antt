-- Text after text, with its length. Assumes nothing.
use Rattle.std.proofs.Common.{◌≡◌, ℕ, zero, suc, ◌+◌, ◌-◌, ◌<◌, ◌≤◌, true, false, ltb, List, [], ◌∷◌, ◌++◌, length, get_or, take, Some, None, Ok, Err, vec_items, vec_len, vec_capacity, Option, Vec, sym, refl, ap, ◌∙◌, subst, arith}
use Rattle.std.proofs.lemmas.Bool.{ne_eqb, eq-eqb, lt-ltb, le-ltb}
use Rattle.std.proofs.lemmas.List.{append_assoc, append-nil, length-append, take-take, take_at, take_all, take_more, flat_map_more}
use Rattle.std.specs.List.{flat_map}
use Rattle.std.specs.Option.{option_to_list}
use Rattle.std.specs.declared.alloc.Global.{Global}
use Rattle.job.specs.Day.{Standing, below}
use Rattle.lines.specs.Pages.{Puts, Adds}
use Rattle.lines.specs.declared.page.Page.{Page}
use Rattle.lines.proofs.Pages.{adds_more, puts_all}
use Rattle.lines.specs.declared.fault.ReaderFault.TheVariants.{Memory}
use Rattle.ticket.specs.Tickets.{Wrote, entry, fits_below, fit_text, write_verdict}

-- nothing is appended
pub adds_none : (u : Page) → Adds u u []
adds_none u =
    let v = u.out.now in
    let a = append-nil (vec_items v) in
    let t = take_all (vec_capacity v) (vec_items v) (omega (arith, v.ok.0, v.ok.1)) in
    record { same = refl; puts = record { items = cc; room = refl }; long = omega (arith, u.fits) }

joined_append : {X : Type 0} (f : X → List ℕ) (xs ys : List X) → flat_map f (xs ++ ys) ≡ flat_map f xs ++ flat_map f ys
joined_append f [] ys = refl
joined_append f (x ∷ xs) ys =
    let i = joined_append f xs ys in
    let a = append_assoc (f x) (flat_map f xs) (flat_map f ys) in
    cc

-- no fitting below 0
pub fits_none : (on : Standing) → fits_below 0 on ≡ []
unfolding fits_below
fits_none on = refl

-- one more number looked at
pub fits_more : (on : Standing) (k : ℕ) → fits_below (k + 1) on ≡ fits_below k on ++ entry k (on k)
unfolding fits_below
fits_more on k = let e : k + 1 ≡ suc k = omega arith in ap (λ (j : ℕ). fits_below j on) e

pub adds_fit : (u v w : Page) (on : Standing) (k : ℕ) → Adds u v (flat_map fit_text (fits_below k on)) → Adds v w (flat_map fit_text (entry k (on k))) → Adds u w (flat_map fit_text (fits_below (k + 1) on))
adds_fit u v w on k p q =
    let x : flat_map fit_text (fits_below k on) ++ flat_map fit_text (entry k (on k)) ≡ flat_map fit_text (fits_below (k + 1) on) = sym (joined_append fit_text (fits_below k on) (entry k (on k))) ∙ ap (flat_map fit_text) (sym (fits_more on k)) in
    subst (Adds u w) x (adds_more u v w (flat_map fit_text (fits_below k on)) (flat_map fit_text (entry k (on k))) p q)

same_count : (k : ℕ) (o : Option (List ℕ)) → length (entry k o) ≡ length (option_to_list o)
same_count k None = refl
same_count k (Some ps) = refl

-- as many fittings as groups
pub fits_count : (k : ℕ) (on : Standing) → length (fits_below k on) ≡ length (below k on)
unfolding fits_below below
fits_count zero on = refl
fits_count (suc k) on = omega (arith, fits_count k on, same_count k (on k), length-append (fits_below k on) (entry k (on k)), length-append (below k on) (option_to_list (on k)))

-- none stands
pub adds_absent : (u : Page) (n : ℕ) (o : Option (List ℕ)) → None ≡ o → Adds u u (flat_map fit_text (entry n o))
adds_absent u n o e = subst (λ (x : Option (List ℕ)). Adds u u (flat_map fit_text (entry n x))) e (adds_none u)

-- five texts, one after another
pub adds_five : (u v w x y z : Page) (p q r s t : List ℕ) → Adds u v p → Adds v w q → Adds w x r → Adds x y s → Adds y z t → Adds u z (p ++ (q ++ (r ++ (s ++ t))))
adds_five u v w x y z p q r s t a b c d e =
    adds_more u v z p (q ++ (r ++ (s ++ t))) a (adds_more v w z q (r ++ (s ++ t)) b (adds_more w x z r (s ++ t) c (adds_more x y z s t d e)))

-- one more of many texts
pub adds_joined : {X : Type 0} (f : X → List ℕ) (u v w : Page) (xs : List X) (i : ℕ) (d : X) → i < length xs → Adds u v (flat_map f (take i xs)) → Adds v w (f (get_or xs i d)) → Adds u w (flat_map f (take (i + 1) xs))
adds_joined f u v w xs i d l p q =
    let j = flat_map_more f [] (take i xs) (get_or xs i d) in
    let t = ap (flat_map f) (take_more xs i d l) in
    let e : flat_map f (take i xs) ++ f (get_or xs i d) ≡ flat_map f (take (i + 1) xs) = cc in
    subst (Adds u w) e (adds_more u v w (flat_map f (take i xs)) (f (get_or xs i d)) p q)

-- a refusal takes away what was written
pub taken_back : (u v w : Vec ℕ Global) (s : List ℕ) → Puts u v s → vec_items w ≡ take (vec_len u) (vec_items v) → vec_items w ≡ vec_items u
taken_back u v w s p e =
    let a = take-take (vec_len u) (vec_capacity u) (vec_items u ++ s) u.ok.1 in
    let b = take_at (vec_items u) s (vec_len u) (sym u.ok.0) in
    let q = p.items in
    cc

-- all of it is there
pub all_written : (u v : Vec ℕ Global) (needed : ℕ) (s : List ℕ) → Wrote u v needed s → needed ≤ vec_capacity u - vec_len u → vec_items v ≡ vec_items u ++ s
all_written u v needed s w l = puts_all u v s w.puts (omega (arith, w.long, u.ok.1, u.small))

pub verdict_memory : (n m room needed size : ℕ) → (n ≡ 0 → ⊥) → n ≡ m → needed ≡ size → room < needed → Err (Memory needed) ≡ write_verdict n m room size
verdict_memory n m room needed size z e k l =
    let a = ne_eqb n 0 z in
    let b = eq-eqb n m e in
    let c : ltb room size ≡ true = lt-ltb room size (omega arith) in
    simp (a, b, c) (ap (λ (x : ℕ). Err (Memory x)) k)

pub verdict_written : (n m room needed size : ℕ) → (n ≡ 0 → ⊥) → n ≡ m → needed ≡ size → needed ≤ room → Ok tt ≡ write_verdict n m room size
verdict_written n m room needed size z e k l =
    let a = ne_eqb n 0 z in
    let b = eq-eqb n m e in
    let c : ltb room size ≡ false = le-ltb room size (omega arith) in
    simp (a, b, c)
