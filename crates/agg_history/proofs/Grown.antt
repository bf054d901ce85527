-- A history with room for new vertices.
use Rattle.std.proofs.Common.{◌≡◌, ℕ, ◌++◌, [], take, replicate}
use Rattle.agg_history.specs.Drafted.{blank_entry}
use Rattle.agg_history.specs.declared.history.History.TheInside.{Inside}

-- the same, but for blanks past the vertices, and perhaps another draft
pub record IsGrown (old new : Inside) : Type 0 where
  pub vertical : new.vertical ≡ old.vertical
  pub cut : new.cut ≡ old.cut
  pub lanes : new.lanes ≡ old.lanes
  pub vertices : new.vertices ≡ old.vertices
  pub kept : new.kept ≡ old.kept
  pub blanks : ℕ
  pub first : new.first
      ≡ record old.first
      { all = take old.vertices old.first.all ++ replicate blanks (blank_entry old.lanes) }
  pub empties : ℕ
  pub tracks : new.tracks.items ≡ take old.vertices old.tracks.items
      ++ replicate empties (record { lanes = old.lanes; all = [] })
