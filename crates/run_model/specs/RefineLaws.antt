-- Laws of rows that are refined, iteration after iteration.
use Rattle.std.specs.Prelude.{◌≡◌, ℕ, ◌+◌, ◌-◌, ◌<◌, ◌≤◌, Some, None}
use Rattle.bolt_base.specs.Graph.{Graph, IsGood, vertices}
use Rattle.bolt_base.specs.Keep.{Entry}
use Rattle.bolt_base.specs.RowTable.{entry_at}
use Rattle.vertex_expr.specs.declared.program.ProgramEntries.{ProgramEntries}
use Rattle.range_check.specs.Breaks.{IsAccepted}
use Rattle.run_model.specs.Refined.{Puts, laid, seen_step, had, entry_again, put_first, put_again}
use Rattle.run_model.specs.Refined.{IsRefined, AreRefined}
use Rattle.run_model.specs.Refined.{tail_seen, aggs_again, values_again, AreTailRows}
use Rattle.run_model.specs.Rows.{Lists, entry, rows_to}
use Rattle.run_model.specs.Steps.{step}

-- the rows up to the cut have the entries
abbrev pub RowsHaveEntries : Type 0
RowsHaveEntries = (p : ProgramEntries) (g : Graph) (cut i v : ℕ)
    → i ≤ cut → v < vertices g → entry_at (rows_to p g cut) i v ≡ entry p g i v

-- an aggregate and a value that are evaluated again are those of the new row, if the rows before
-- are
abbrev pub EntriesAreRefined : Type 0
EntriesAreRefined = (p : ProgramEntries) (g h : Graph)
    → IsAccepted p → IsGood p.limits g → IsGood p.limits h
    → (cut i v : ℕ) → 1 ≤ i → i ≤ cut → v < vertices h
    → entry_again p (step p g h i) (had p g (rows_to p g cut) i v) v ≡ entry p h i v

-- refined rows give the new entries
abbrev pub RefinedAreNew : Type 0
RefinedAreNew = (p : ProgramEntries) (g h : Graph) → IsGood p.limits g
    → (put : Puts) (cut i v : ℕ) → i ≤ cut → v < vertices h
    → IsRefined p g h put i v → laid put (rows_to p g cut) i v ≡ entry p h i v

-- and so the next iteration is seen by them
abbrev pub RefinedAreSeen : Type 0
RefinedAreSeen = (p : ProgramEntries) (g h : Graph) → IsGood p.limits g
    → (put : Puts) (cut i : ℕ) → 1 ≤ i → i ≤ cut → AreRefined p g h put i
    → seen_step g h put (rows_to p g cut) i ≡ step p g h i

-- ---- iteration after iteration
abbrev pub RefinementBegins : Type 0
RefinementBegins = (p : ProgramEntries) (g h : Graph) (put : Puts) (v : ℕ) → v < vertices h
    → put 0 v ≡ put_first p g h v → IsRefined p g h put 0 v

-- what is seen at an iteration and put at it refines it
abbrev pub RefinementGoesOn : Type 0
RefinementGoesOn = (p : ProgramEntries) (g h : Graph)
    → IsAccepted p → IsGood p.limits g → IsGood p.limits h
    → (put : Puts) (cut i v : ℕ) → 1 ≤ i → i ≤ cut → v < vertices h → AreRefined p g h put i
    → put i v ≡ put_again p g h put (rows_to p g cut) i v → IsRefined p g h put i v

-- one iteration more
abbrev pub RefinementGrows : Type 0
RefinementGrows = (p : ProgramEntries) (g h : Graph) (put : Puts) (i : ℕ)
    → AreRefined p g h put i → ((v : ℕ) → v < vertices h → IsRefined p g h put i v)
    → AreRefined p g h put (i + 1)

-- what was put leads from the old rows to the new ones: it has the new entries, and where nothing
-- was put the old entry is the new one
pub record LeadOn (p : ProgramEntries) (g h : Graph) (put : Puts) (cut : ℕ) : Type 0 where
  pub right : (i v : ℕ) (e : Entry) → i ≤ cut → v < vertices h
      → put i v ≡ Some e → e ≡ entry_at (rows_to p h cut) i v
  pub rest : (i v : ℕ) → i ≤ cut → v < vertices h
      → put i v ≡ None → entry_at (rows_to p g cut) i v ≡ entry_at (rows_to p h cut) i v

abbrev pub RefinementLeadsOn : Type 0
RefinementLeadsOn = (p : ProgramEntries) (g h : Graph) → IsGood p.limits g
    → (put : Puts) (cut : ℕ) → AreRefined p g h put (cut + 1) → LeadOn p g h put cut

-- ---- past the cut
abbrev pub TailRowsGoOn : Type 0
TailRowsGoOn = (p : ProgramEntries) (h : Graph) → IsAccepted p → IsGood p.limits h
    → (i : ℕ) (aggs vals before : Lists) → 2 ≤ i → AreTailRows p h (i - 1) aggs vals before
    → let s = tail_seen h before vals in
    let next = aggs_again p s aggs in
    AreTailRows p h i next (values_again p s next) vals
