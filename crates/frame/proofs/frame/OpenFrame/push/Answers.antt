use Rattle.std.proofs.Common.{length, vec_items, sym, ap, ◌∙◌, subst, arith}
use Rattle.frame.specs.Rows.{Sound}
use Rattle.frame.proofs.Arcs.{length_arcs, both_push}
use Rattle.frame.proofs.Sounds.{Taken, taken, sound_push}
use Rattle.frame.proofs.frame.OpenFrame.push.Goals as goal

pub push_reserved-requires-2 : goal.push_reserved-requires-2
push_reserved-requires-2 c =
    let s = c.args.self.now in
    let t : Taken s.places s.room (vec_items s.rows) c.args.row = taken _ _ _ _ c.requires in
    omega (arith, ap length s.both, length_arcs 0 (vec_items s.rows), s.arcs.ok.0, s.rows.ok.0, s.memory, t.fits)

pub push_reserved-requires-3 : goal.push_reserved-requires-3
push_reserved-requires-3 c =
    let s = c.args.self.now in
    let t : Taken s.places s.room (vec_items s.rows) c.args.row = taken _ _ _ _ c.requires in
    omega (arith, ap length s.both, length_arcs 0 (vec_items s.rows), s.arcs.ok.0, s.rows.ok.0, s.memory, t.fits, c.push_reserved-2.ensures.len, c.push_reserved-2.ensures.capacity)

pub invariant_of-self : goal.invariant_of-self
invariant_of-self c =
    let s = c.args.self.now in
    let rows = vec_items s.rows in
    let t : Taken s.places s.room rows c.args.row = taken _ _ _ _ c.requires in
    let more = c.push_reserved.ensures in
    let first = c.push_reserved-2.ensures in
    let second = c.push_reserved-3.ensures in
    record {
      sound = λ k. s.sound (λ h. k (subst (Sound s.places) (sym more.items) (sound_push s.places s.room rows c.args.row s.limits.0 t h)));
      both = both_push rows _ _ _ _ c.args.row _ s.both first.items second.items more.items (c.len-duct.ensures ∙ s.rows.ok.0);
      count = s.count;
      limits = (s.limits.0, omega (arith, more.len, s.rows.ok.0, t.fits));
      memory = (omega (arith, more.capacity, s.memory), omega (arith, first.capacity, second.capacity, s.memory));
    }
