use Rattle.std.proofs.Common.{◌≡◌, Ok, subst, rules}
use Rattle.lines.specs.Said.{ReadsAt}
use Rattle.ticket.proofs.Told.{places_did, ducts_did, duct_did, fittings_did, fitting_did}
use Rattle.ticket.proofs.reading.Reading.take.Goals as goal

pub returns-in-Places-clause-did : goal.returns-in-Places-clause-did
returns-in-Places-clause-did c room s h =
    let read : c.read_line.result ≡ Ok c.in_ok-line.line = search rules in
    places_did room c.args.self.now.at s c.args.text.now c.places.new.self.frame.now c.places.new.self.job.now c.places.result c.in_ok-line.line c.in-Places.n c.in-Places.is (subst (ReadsAt c.args.text.now c.args.self.now.at) read c.read_line.ensures) (λ v. c.places.ensures.took room s v h)

pub returns-in-Ducts-clause-did : goal.returns-in-Ducts-clause-did
returns-in-Ducts-clause-did c room s h =
    let read : c.read_line.result ≡ Ok c.in_ok-line.line = search rules in
    ducts_did room c.args.self.now.at s c.args.text.now c.args.self.now.frame.now c.args.self.now.job.now c.ducts.result c.in_ok-line.line c.in-Ducts.m c.in-Ducts.is (subst (ReadsAt c.args.text.now c.args.self.now.at) read c.read_line.ensures) (λ v. c.ducts.ensures room s v h)

pub returns-in-Duct-clause-did : goal.returns-in-Duct-clause-did
returns-in-Duct-clause-did c room s h =
    let read : c.read_line.result ≡ Ok c.in_ok-line.line = search rules in
    duct_did room c.args.self.now.at s c.args.text.now c.duct.new.self.frame.now c.duct.new.self.job.now c.duct.result c.in_ok-line.line c.in-Duct.row c.in-Duct.is (subst (ReadsAt c.args.text.now c.args.self.now.at) read c.read_line.ensures) (λ a b l. c.duct.ensures.took room s a b l h)

pub returns-in-Fittings-clause-did : goal.returns-in-Fittings-clause-did
returns-in-Fittings-clause-did c room s h =
    let read : c.read_line.result ≡ Ok c.in_ok-line.line = search rules in
    fittings_did room c.args.self.now.at s c.args.text.now c.args.self.now.frame.now c.args.self.now.job.now c.fittings.result c.in_ok-line.line c.in-Fittings.k c.in-Fittings.is (subst (ReadsAt c.args.text.now c.args.self.now.at) read c.read_line.ensures) (λ v. c.fittings.ensures room s v h)

pub returns-in-Fitting-clause-did : goal.returns-in-Fitting-clause-did
returns-in-Fitting-clause-did c room s h =
    let read : c.read_line.result ≡ Ok c.in_ok-line.line = search rules in
    fitting_did room c.args.self.now.at s c.args.text.now c.fitting.new.self.frame.now c.fitting.new.self.job.now c.fitting.result c.in_ok-line.line c.in-Fitting.fitting c.in-Fitting.is (subst (ReadsAt c.args.text.now c.args.self.now.at) read c.read_line.ensures) (λ f k ps. c.fitting.ensures.took room s f k ps h)
