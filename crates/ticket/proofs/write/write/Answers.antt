use Rattle.std.proofs.Common.{ℕ, ◌-◌, length, take, vec_items, vec_len, vec_capacity, ap, ◌∙◌, arith}
use Rattle.frame.specs.Of.{places_of}
use Rattle.ticket.specs.Tickets.{text_of}
use Rattle.ticket.proofs.Round.{readable, exactly}
use Rattle.ticket.proofs.Pages.{taken_back, all_written, verdict_memory, verdict_written}
use Rattle.ticket.proofs.write.write.Goals as goal

pub returns-then-room-needed : goal.returns-then-room-needed
returns-then-room-needed c =
    let w = c.write_text-needed.ensures.wrote in
    let u = c.args.out.now in
    record {
      value = verdict_memory (places_of c.args.frame.now) c.args.job.now.heading.places (vec_capacity u - vec_len u) c.write_text-needed.result (length (text_of c.args.frame.now c.args.job.now)) (omega arith) (omega arith) (exactly c.args.frame.now c.args.job.now c.write_text-needed.result (omega arith) (omega arith) c.write_text-needed.ensures.sound w.long) (omega arith);
      items = taken_back u c.write_text-needed.new.out c.truncate.new.self (text_of c.args.frame.now c.args.job.now) w.puts (c.truncate.ensures.items ∙ ap (λ (k : ℕ). take k (vec_items c.write_text-needed.new.out)) c.len-old.ensures);
      capacity = c.truncate.ensures.capacity ∙ w.puts.room;
      readable = tt;
    }

pub returns : goal.returns
returns c =
    let w = c.write_text-needed.ensures.wrote in
    let u = c.args.out.now in
    record {
      value = verdict_written (places_of c.args.frame.now) c.args.job.now.heading.places (vec_capacity u - vec_len u) c.write_text-needed.result (length (text_of c.args.frame.now c.args.job.now)) (omega arith) (omega arith) (exactly c.args.frame.now c.args.job.now c.write_text-needed.result (omega arith) (omega arith) c.write_text-needed.ensures.sound w.long) (omega arith);
      items = all_written u c.write_text-needed.new.out c.write_text-needed.result (text_of c.args.frame.now c.args.job.now) w (omega arith);
      capacity = w.puts.room;
      readable = readable c.args.frame.now c.args.job.now (omega arith) (omega arith) c.write_text-needed.ensures.sound;
    }
