-- The pairs that edits touch, each with the weight that it has then, and the edges that come and go
-- by that.
use Rattle.std.specs.Prelude.{◌≡◌, ℤ, List, T, Option, Some, None, if◌then◌else◌}
use Rattle.std.specs.List.{filter_map}
use Rattle.std.specs.FinMap as finite
use Rattle.std.specs.FinMap.{find, is_sorted}
use Rattle.bolt_base.specs.Graph.{Graph, Pair, pair_cmp}
use Rattle.bolt_base.specs.Change.{same_weights}

-- the new state, where there is one, or the old one
abbrev pub over : Option (Option ℤ) → Option ℤ → Option ℤ
over (Some w) o = w
over None o = o

-- a weight that goes where another one comes, or none, and the one that comes
abbrev pub going : Option ℤ → Option ℤ → Option ℤ
going old new = if same_weights old new then None else old

abbrev pub coming : Option ℤ → Option ℤ → Option ℤ
coming old new = if same_weights old new then None else new

abbrev pub with_key : Pair → Option ℤ → Option (Pair × ℤ)
with_key q None = None
with_key q (Some w) = Some (q, w)

-- of each pair with its state, the weight that is picked, if any
abbrev pub picked : (Pair → Option ℤ → Option ℤ) → List (Pair × Option ℤ) → List (Pair × ℤ)
picked pick es = filter_map (λ e. with_key e.0 (pick e.0 e.1)) es

-- the weights that go from g, and those that come to it
abbrev pub gone : Graph → Pair → Option ℤ → Option ℤ
gone g q w = going (finite.get g.weights q) w

abbrev pub come : Graph → Pair → Option ℤ → Option ℤ
come g q w = coming (finite.get g.weights q) w

-- these pairs, in order, with their states in h, are all in which h may differ from g
pub record AreTouched (touched : List (Pair × Option ℤ)) (g h : Graph) : Type 0 where
  pub sorted : T (is_sorted pair_cmp touched)
  pub told : (q : Pair)
      → finite.get h.weights q ≡ over (find pair_cmp q touched) (finite.get g.weights q)
