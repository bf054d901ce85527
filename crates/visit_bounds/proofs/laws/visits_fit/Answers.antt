use Rattle.visit_bounds.proofs.Fitting.{batch_visits_fit, opening_visits_fit}
use Rattle.visit_bounds.proofs.laws.visits_fit.Goals as goal

pub returns : goal.returns
returns c = record { batch = batch_visits_fit; opening = opening_visits_fit }
