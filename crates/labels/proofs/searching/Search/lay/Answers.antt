use Rattle.std.proofs.Common.{length-set, refl, ◌∙◌, arith}
use Rattle.labels.specs.Table.{no_entry}
use Rattle.labels.proofs.Layouts.{laying_more}
use Rattle.labels.proofs.searching.Search.lay.Goals as goal

pub loop-e-preserved : goal.loop-e-preserved
loop-e-preserved c =
    let i = c.loop-e.invariant in
    record {
      round = record { round = i.round.round; room = record { records = length-set c.loop-e.self.records.now _ _ ∙ i.round.room.records; queue = i.round.room.queue } };
      laying = laying_more c.args.self.now.round c.args.self.now.records.now c.args.row.now c.loop-e.e-index c.loop-e.self.records.now _ i.laying c.requires.rising c.loop-e-test.true (omega (arith, c.requires.ranks c.loop-e.e-index no_entry c.loop-e-test.true, i.round.room.records)) i.round.round refl refl refl refl;
    }
