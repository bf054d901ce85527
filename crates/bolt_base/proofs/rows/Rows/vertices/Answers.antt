use Rattle.std.proofs.Common.{subst}
use Rattle.bolt_base.specs.RowShape.{AreRectangular}
use Rattle.bolt_base.proofs.RowShapes.{flat_rectangular}
use Rattle.bolt_base.proofs.rows.Rows.vertices.Goals as goal

pub returns-clause-shape : goal.returns-clause-shape
returns-clause-shape c = subst AreRectangular c.self.view_is
    (flat_rectangular c.self.inside c.self.invariant)
