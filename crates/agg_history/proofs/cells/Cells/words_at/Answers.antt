use Rattle.std.proofs.Common.{ap, ◌∙◌, ◌*◌, length, arith, take, drop}
use Rattle.agg_history.proofs.CellLemmas.{words_end, words_is, agg_width, val_width}
use Rattle.agg_history.proofs.cells.Cells.words_at.Goals as goal

pub piece-requires : goal.piece-requires
piece-requires c = omega (
  arith,
  words_end c.self.inside c.args.self.now c.self.view_is c.self.invariant c.args.j
      c.requires,
  ap length c.deref.ensures.value,
)

pub returns-clause-value : goal.returns-clause-value
returns-clause-value c =
    c.piece.ensures ∙ ap
    (λ ws. take (2 * c.self.inside.lanes) (drop (c.args.j * (2 * c.self.inside.lanes)) ws))
    c.deref.ensures.value
    ∙ words_is c.self.inside c.args.self.now c.self.view_is c.self.invariant c.args.j c.requires

pub returns-clause-agg : goal.returns-clause-agg
returns-clause-agg c =
    agg_width c.self.inside c.args.self.now c.self.view_is c.self.invariant c.args.j c.requires

pub returns-clause-val : goal.returns-clause-val
returns-clause-val c =
    val_width c.self.inside c.args.self.now c.self.view_is c.self.invariant c.args.j c.requires
