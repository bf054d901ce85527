use Rattle.std.proofs.Common.{◌≡◌, ℕ, ◌≤◌, true, List, map, ap, sym, ◌∙◌, subst}
use Rattle.std.specs.Prelude.{IfOk}
use Rattle.std.specs.List.{range_with_len}
use Rattle.bolt_base.specs.Graph.{Graph}
use Rattle.bolt_base.specs.Pieces.{piece}
use Rattle.bolt_base.specs.Residue.{Amount}
use Rattle.vertex_expr.specs.declared.program.ProgramEntries.{ProgramEntries}
use Rattle.run_model.specs.Program.{is_sum}
use Rattle.core_model.specs.Iterations.{all_left}
use Rattle.core_model.specs.State.{Given}
use Rattle.core_adds.proofs.PieceAdds.{pieces_are}
use Rattle.core_adds.proofs.pieces.pieces_left.Goals as goal

pub returns : goal.returns
returns g c = record {
  pieces = λ opened.
      let p : ProgramEntries = c.program-program.result.now in
      let before : Graph = g.A.Adjacency.plain c.args.old.now in
      let after : Graph = g.A.Adjacency.plain c.args.new.now in
      let w : ℕ = c.args.choice.workers in
      let same : p ≡ c.args.accepted.now = c.program-program.ensures.program in
      let given : Given = record {
        program = c.args.accepted.now;
        opened = opened;
        choice = c.args.choice;
      } in
      let made : IfOk c.pieces_of.result (λ (left : List (List Amount)). left
      ≡ map (λ k. all_left (piece c.as_slice.result.now w k)) (range_with_len 0 w)) =
      c.pieces_of.ensures in
      let sum : is_sum given.program.combine ≡ true =
      ap (λ (x : ProgramEntries). is_sum x.combine) (sym same) ∙ sym c.is_sum.ensures
      ∙ c.if-not-is_sum.false in
      let within : c.args.iteration ≤ given.program.rounds =
      subst (λ (x : ProgramEntries). c.args.iteration ≤ x.rounds)
      (c.entries.ensures.entries ∙ same) c.if-entries-iteration.false in
      subst (λ (x : List (List Amount)). IfOk c.pieces_of.result
      (λ (left : List (List Amount)). left ≡ x))
      (pieces_are given before after c.args.iteration p c.as_slice.result.now same
      (c.as_slice.ensures ∙ c.in_ok-items.ensures) sum within)
      made;
}
