-- The edges out of a dirty source, one after the other.
use Rattle.std.specs.Prelude.{◌≡◌, ℕ, ℤ, ◌-ℤ◌, ◌<◌, ◌≤◌, ◌==◌, ◌&&◌, nat_lt, if◌then◌else◌, Bool}
use Rattle.std.specs.Prelude.{true, false, List, [], ◌∷◌, ◌++◌, map, length, drop}
use Rattle.std.specs.Int.{int_wrap, w64}
use Rattle.bolt_base.specs.Graph.{Graph, out_edges}
use Rattle.bolt_base.specs.Residue.{Amount}
use Rattle.bolt_base.specs.declared.edge.Edge.{Edge}
use Rattle.vertex_expr.specs.declared.program.ProgramEntries.{ProgramEntries}
use Rattle.agg_words.specs.View.{View}
use Rattle.run_model.specs.Program.{lanes, number}
use Rattle.edge_map.specs.Additions.{source_at, was_env, now_env, given, change_gift, adds_of_gifts}
use Rattle.edge_map.specs.Additions.{ends_of_gifts}
use Rattle.edge_map.specs.Agrees.{IsTask}
use Rattle.edge_map.specs.Grew.{Grew}
use Rattle.edge_map.specs.declared.tasks.Source.{Source}
use Rattle.edge_map.specs.declared.tasks.TaskEdge.{TaskEdge}
use Rattle.edge_map.specs.declared.tasks.Tasks.{Tasks}
use Rattle.edge_map.specs.declared.tasks.Work.{Work}
use Rattle.edge_map.specs.declared.tasks.Work.TheVariants.{Removed, Added, Dirty}

-- the added edges from those of source k on
abbrev pub from_source : ℕ → List TaskEdge → List TaskEdge
from_source k [] = []
from_source k (x ∷ xs) = if nat_lt x.source k then from_source k xs else x ∷ xs

-- the edges out of source k without the added ones, both lists rising by destination
abbrev pub unadded : ℕ → List TaskEdge → List Edge → List Edge
unadded k xs [] = []
unadded k [] (e ∷ es) = e ∷ es
unadded k (x ∷ xs) (e ∷ es) =
    if (x.source == k) && (x.edge.dst == e.dst)
    then unadded k xs es
    else e ∷ unadded k (x ∷ xs) es

-- those out of a source
abbrev pub walked_out : Graph → Tasks → ℕ → List Edge
walked_out g t k = unadded k (from_source k t.added) (out_edges g (source_at t k).vertex)

-- the new contribution of an edge of this weight less the old one, lane by lane, with wrap-around
pub record IsDelta (p : ProgramEntries) (x : Source) (w : ℤ) (xs : List ℤ) : Type 0 where
  pub long : length xs ≡ lanes p
  pub each : (l : ℕ) → l < lanes p → number xs l
      ≡ int_wrap w64 (given p (now_env p x w) l -ℤ given p (was_env p x w) l)

-- the list begins with an added edge of source k with this end
abbrev pub begins : ℕ → ℕ → List TaskEdge → Bool
begins k dst [] = false
begins k dst (x ∷ xs) = (x.source == k) && (x.edge.dst == dst)

-- an item of tasks that agree with a graph
abbrev pub IsWork : ProgramEntries → Graph → Tasks → Work → Type 0
IsWork p g t (Removed x) = IsTask p g t x × (1 ≤ (source_at t x.source).old_degree)
IsWork p g t (Added x) = IsTask p g t x × (1 ≤ (source_at t x.source).new_degree)
IsWork p g t (Dirty k) = (k < length t.sources) × ((source_at t k).dirty ≡ true)

-- what the first k edges out of a dirty source have given, where `next` is the next of the added
-- edges
pub record Walked (p : ProgramEntries) (g : Graph) (t : Tasks) (place next k : ℕ)
    (first last : View) (before after : List ℕ) : Type 0 where
  pub done : List Edge
  pub rest : done ++ unadded place (drop next t.added)
      (drop k (out_edges g (source_at t place).vertex)) ≡ walked_out g t place
  pub grew : (start : View) (more : List Amount) (ends : List ℕ) → Grew start first more ends before
      → Grew start last (more ++ adds_of_gifts p (map (change_gift p (source_at t place)) done))
      (ends ++ ends_of_gifts (map (change_gift p (source_at t place)) done)) after
