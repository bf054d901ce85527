use Rattle.agg_history.proofs.PlacesAre.{touched_distinct, touched_few, others_blank}
use Rattle.agg_history.proofs.places.Places.touched.Goals as goal

pub returns-clause-distinct : goal.returns-clause-distinct
returns-clause-distinct c =
    touched_distinct c.self.inside c.args.self.now c.self.view_is c.self.invariant

pub returns-clause-others : goal.returns-clause-others
returns-clause-others c = others_blank c.self.inside c.args.self.now c.self.view_is c.self.invariant

pub returns-clause-few : goal.returns-clause-few
returns-clause-few c = touched_few c.self.inside c.args.self.now c.self.view_is c.self.invariant
