-- Values of some vertices, from their aggregates.
use Rattle.std.specs.Prelude.{◌≡◌, ℕ, ℤ, ◌<◌, List, length, map, slice_index_or}
use Rattle.std.specs.List.{All, range_with_len}
use Rattle.bolt_base.specs.Graph.{Graph, vertices}
use Rattle.vertex_expr.specs.ProgramBounds.{aggregated}
use Rattle.vertex_expr.specs.Span.{AreIn}
use Rattle.vertex_expr.specs.declared.program.ProgramEntries.{ProgramEntries}
use Rattle.run_model.specs.Given.{IsBefore}
use Rattle.run_model.specs.Rows.{Lists, applied, at}

-- the vertices have these aggregates, each in its range, after a row of values
pub record CanApply (p : ProgramEntries) (h : Graph) (vals : Lists) (vs : List ℕ) (aggs : Lists)
    : Type 0 where
  pub before : IsBefore p h vals
  pub there : All (λ v. v < vertices h) vs
  pub long : length aggs ≡ length vs
  pub ranged : All (AreIn (aggregated p)) aggs

-- the next value of the vertex at a place
abbrev pub applied_at : ProgramEntries → Graph → Lists → List ℕ → Lists → ℕ → List ℤ
applied_at p h vals vs aggs k =
    let v = slice_index_or vs k 0 in
    applied p h (at aggs k) (at vals v) v

-- the next values of all
abbrev pub applied_to : ProgramEntries → Graph → Lists → List ℕ → Lists → Lists
applied_to p h vals vs aggs = map (applied_at p h vals vs aggs) (range_with_len 0 (length vs))
