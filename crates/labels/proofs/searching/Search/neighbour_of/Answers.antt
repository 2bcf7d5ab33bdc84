use Rattle.std.proofs.Common.{◌≡◌, ◌∙◌, rules, subst, sym, ap}
use Rattle.std.specs.Option.{option_map_or}
use Rattle.frame.specs.declared.arc.Arc.{Arc}
use Rattle.labels.specs.Steps.{Chosen}
use Rattle.labels.proofs.Marks.{chosen}
use Rattle.labels.proofs.searching.Search.neighbour_of.Goals as goal

pub returns : goal.returns
returns c =
    let is : c.map_or.result ≡ option_map_or (λ (a : Arc). a.to) c.first_back.result c.args.place = search rules in
    subst (Chosen c.args.self.now.round c.args.self.now.records.now c.args.arcs.now c.args.source c.args.place c.args.distance) (sym (is ∙ ap (λ o. option_map_or (λ (a : Arc). a.to) o c.args.place) c.first_back.ensures))
    (chosen c.args.self.now.round c.args.self.now.records.now c.args.arcs.now c.args.source c.args.place c.args.distance c.if-place-source.false)
