use Rattle.std.proofs.Common.{◌≡◌, ℕ, ◌<◌, List, ◌++◌, length, take, drop, vec_items, sym, ◌∙◌, subst, arith}
use Rattle.std.specs.List.Sorted.{IsNonDecreasingBy}
use Rattle.std.proofs.lemmas.List.{take_at}
use Rattle.frame.specs.declared.arc.Arc.{Arc}
use Rattle.frame.specs.Fans.{Parted, from_at, Sealed}
use Rattle.frame.proofs.Fan.{by_key, rises_from, sealed}
use Rattle.frame.proofs.Sounds.{unkept}
use Rattle.frame.proofs.frame.OpenFrame.close.Goals as goal

pub lay-requires : goal.lay-requires
lay-requires c =
    let s = c.args.self in
    let xs = vec_items c.sort_unstable.new.self in
    let up = by_key s.places (vec_items s.rows) (vec_items s.arcs) xs s.sound s.both c.sort_unstable.ensures.permutation c.sort_unstable.ensures.sorted in
    let r = rises_from s.places (vec_items s.rows) (vec_items s.arcs) xs s.sound s.both c.sort_unstable.ensures.permutation up in
    subst (IsNonDecreasingBy (λ (a : Arc). a.from)) (sym c.deref.ensures.value) r

pub invariant_of-result : goal.invariant_of-result
invariant_of-result c =
    let s = c.args.self in
    let xs = vec_items c.sort_unstable.new.self in
    let offs = c.lay.new.offsets in
    let up = by_key s.places (vec_items s.rows) (vec_items s.arcs) xs s.sound s.both c.sort_unstable.ensures.permutation c.sort_unstable.ensures.sorted in
    let size : length offs ≡ s.offsets.len = c.lay.auto.offsets ∙ c.deref_mut.ensures.len in
    let e : take s.offsets.len (offs ++ drop (length offs) s.offsets.items) ≡ offs = take_at offs _ s.offsets.len size in
    let parted : (v : ℕ) → v < length offs → Parted xs v (from_at offs v) = λ v l. subst (λ (a : List Arc). Parted a v (from_at offs v)) c.deref.ensures.value (c.lay.ensures v l) in
    let few = (unkept s.places (vec_items s.rows) s.sound).few in
    let r = sealed s.places (vec_items s.rows) offs (vec_items s.arcs) xs s.sound (omega (arith, size, s.count, few)) s.both c.sort_unstable.ensures.permutation up parted in
    record { fan = subst (λ (o : List ℕ). Sealed s.places (vec_items s.rows) o xs) (sym e) r }
