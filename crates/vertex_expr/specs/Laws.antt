-- Laws of the definitions, each the clause of a public function.
use Rattle.std.specs.Prelude.{◌≡◌, ◌↔◌, ℕ, ℤ, pos, negsuc, suc, ◌*ℤ◌, ◌≤ℤ◌, List, All, length, None}
use Rattle.vertex_expr.specs.Box.{Bounds, InBounds}
use Rattle.vertex_expr.specs.Floor.{floor_div}
use Rattle.vertex_expr.specs.Meaning.{ev}
use Rattle.vertex_expr.specs.Mentions.{AgreeFor}
use Rattle.vertex_expr.specs.ProgramBounds.{bounds_in, trees_in}
use Rattle.vertex_expr.specs.Safe.{EachNode, postorder, break_at, IsKnown, IsSafe, IsSound}
use Rattle.vertex_expr.specs.Tree.{Tree, nodes}
use Rattle.vertex_expr.specs.Writable.{IsWritable, values_of}
use Rattle.vertex_expr.specs.declared.env.Env.{Env}
use Rattle.vertex_expr.specs.declared.expr.Part.{Part}
use Rattle.vertex_expr.specs.declared.program.ProgramEntries.{ProgramEntries}

-- a whole number is at most the floor of x / d just where it is at most the quotient, at d above 0
-- and below
abbrev pub FloorIsGreatest : Type 0
FloorIsGreatest = (x q : ℤ) (n : ℕ)
    → ((q ≤ℤ floor_div x (pos (suc n))) ↔ ((q *ℤ pos (suc n)) ≤ℤ x))
    × ((q ≤ℤ floor_div x (negsuc n)) ↔ (x ≤ℤ (q *ℤ negsuc n)))

-- under any environment inside the bounds each node of a safe expression is sound
abbrev pub BoxesAreSound : Type 0
BoxesAreSound = (ps : List ℤ) (b : Bounds) (n : Env) (t : Tree) → InBounds b n → IsSafe ps b t
    → EachNode (IsSound ps b n) t

-- what an expression doesn't mention doesn't change its meaning
abbrev pub OnlyMentionedMatters : Type 0
OnlyMentionedMatters = (ps : List ℤ) (n m : Env) (t : Tree) → AgreeFor t n m → ev ps n t ≡ ev ps m t

-- the nodes in their order are as many as are counted
abbrev pub AllAreNumbered : Type 0
AllAreNumbered = (t : Tree) → length (postorder t) ≡ nodes t

-- the expressions of a program name only what is there and mention only what has an interval in
-- their part
abbrev pub ProgramsAreKnown : Type 0
ProgramsAreKnown = (p : ProgramEntries) (part : Part) → IsWritable p
    → All (EachNode (IsKnown (values_of p.params) (bounds_in p part))) (trees_in p part)

-- where each node is known and none has a break, the expression is safe
abbrev pub UnbrokenIsSafe : Type 0
UnbrokenIsSafe = (ps : List ℤ) (b : Bounds) (t : Tree) → EachNode (IsKnown ps b) t
    → (IsSafe ps b t ↔ All (λ s. break_at ps b s ≡ None) (postorder t))
