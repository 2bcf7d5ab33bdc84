-- Text after text on a page.
use Rattle.std.proofs.Common.{◌≡◌, ℕ, zero, suc, ◌+◌, ◌≤◌, List, [], ◌∷◌, ◌++◌, length, take, vec_items, vec_len, vec_capacity, Vec, refl, ap, ◌∙◌, arith}
use Rattle.std.proofs.lemmas.List.{take_all, append_assoc, length-append}
use Rattle.std.specs.declared.alloc.Global.{Global}
use Rattle.lines.specs.declared.page.Page.{Page}
use Rattle.lines.specs.Pages.{Puts, Adds}

-- what is cut off once stays cut off
take_then : (c : ℕ) (xs ys : List ℕ) → take c (take c xs ++ ys) ≡ take c (xs ++ ys)
take_then zero xs ys = refl
take_then (suc c) [] ys = refl
take_then (suc c) (x ∷ xs) ys = ap (λ (u : List ℕ). x ∷ u) (take_then c xs ys)

-- one text after another
pub puts_more : (u v w : Vec ℕ Global) (s t : List ℕ) → Puts u v s → Puts v w t → Puts u w (s ++ t)
puts_more u v w s t p q =
    let a = append_assoc (vec_items u) s t in
    let b = take_then (vec_capacity u) (vec_items u ++ s) t in
    let x = p.items in
    let y = q.items in
    let c = p.room in
    let d = q.room in
    record { items = cc; room = cc }

pub adds_more : (u v w : Page) (s t : List ℕ) → Adds u v s → Adds v w t → Adds u w (s ++ t)
adds_more u v w s t p q =
    let a = p.same in
    let b = q.same in
    record {
      same = cc;
      puts = puts_more u.out.now v.out.now w.out.now s t p.puts q.puts;
      long = omega (arith, length-append s t, p.long, q.long);
    }

-- all of it where there is room
pub puts_all : (u v : Vec ℕ Global) (s : List ℕ) → Puts u v s → vec_len u + length s ≤ vec_capacity u → vec_items v ≡ vec_items u ++ s
puts_all u v s p l = p.items ∙ take_all (vec_capacity u) (vec_items u ++ s) (omega (arith, length-append (vec_items u) s, u.ok.0))
