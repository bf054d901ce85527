use Rattle.std.proofs.Common.{rules, arith, ◌≡◌, ◌≢◌, ℕ, ℤ, List, ◌+◌, ◌-◌, ◌/◌, ◌<◌, ◌≤◌, ◌++◌}
use Rattle.std.proofs.Common.{◌∙◌}
use Rattle.std.proofs.Common.{map}
use Rattle.bolt_base.specs.Graph.{Graph}
use Rattle.run_model.specs.Rows.{gathered}
use Rattle.run_model.specs.Visits.{in_visits}
use Rattle.pull_targets.specs.Reading.{CanPullPart, part}
use Rattle.pull_targets.proofs.PartLemmas.{mapped_both, reads_both}
use Rattle.pull_targets.proofs.pull.+fn-half-join_mut+arg2+fn-half-join_mut+arg3+half.Goals as goal

pub join_mut-first-requires-after_bounds : goal.join_mut-first-requires-after_bounds
join_mut-first-requires-after_bounds g t c κs within =
    let h : Graph = g.A.Adjacency.plain c.args.graph.now in
    let ts : List ℕ = c.args.targets.now in
    let mid : ℕ = c.part_end-mid.result in
    let low : c.args.from ≤ mid = c.part_end-mid.ensures.low in
    let high : mid ≤ c.args.to = c.part_end-mid.ensures.high in
    let split : in_visits h (part ts c.args.from c.args.to)
    ≡ in_visits h (part ts c.args.from mid) + in_visits h (part ts mid c.args.to) =
    reads_both ts h c.args.from mid low c.args.to high in
    let ready = c.requires.ready in
    let several : c.args.workers ≢ 1 = search rules in
    let same = c.split-second_meter.ensures.count in
    let fresh = c.split-second_meter.ensures.fresh in
    let rest = c.split-second_meter.ensures.rest in
    let piece = c.split-second_meter.ensures.piece in
    let room : g.M.Meter.counted c.split-second_meter.new.self
    + in_visits h (part ts c.args.from mid) < 18446744073709551616 =
    omega (arith, c.requires.ready.room) in
    let room' : g.M.Meter.counted c.split-second_meter.result
    + in_visits h (part ts mid c.args.to) < 18446744073709551616 =
    omega (arith, c.requires.ready.room) in
    let first : CanPullPart c.args.program.now h (g.V.ValueRow.values c.args.row.now)
    c.args.given.now ts (c.args.workers - c.args.workers / 2) c.args.from mid
    (g.M.Meter.counted c.split-second_meter.new.self)
    (g.M.Meter.held c.split-second_meter.new.self) = record {
      before = ready.before;
      contributions = ready.contributions;
      vertices = ready.vertices;
      range = low;
      places = omega (arith, ready.places);
      room = room;
      some = omega (arith, ready.some);
      units = omega (arith, ready.units);
    } in
    let second : CanPullPart c.args.program.now h (g.V.ValueRow.values c.args.row.now)
    c.args.given.now ts (c.args.workers / 2) mid c.args.to
    (g.M.Meter.counted c.split-second_meter.result)
    (g.M.Meter.held c.split-second_meter.result) = record {
      before = ready.before;
      contributions = ready.contributions;
      vertices = ready.vertices;
      range = high;
      places = ready.places;
      room = room';
      some = omega (arith, ready.some);
      units = omega (arith, ready.units);
    } in
    search rules

pub join-requires-clause-count_fits : goal.join-requires-clause-count_fits
join-requires-clause-count_fits g t c =
    let h : Graph = g.A.Adjacency.plain c.args.graph.now in
    let ts : List ℕ = c.args.targets.now in
    let mid : ℕ = c.part_end-mid.result in
    let low : c.args.from ≤ mid = c.part_end-mid.ensures.low in
    let high : mid ≤ c.args.to = c.part_end-mid.ensures.high in
    let split : in_visits h (part ts c.args.from c.args.to)
    ≡ in_visits h (part ts c.args.from mid) + in_visits h (part ts mid c.args.to) =
    reads_both ts h c.args.from mid low c.args.to high in
    let first : g.M.Meter.counted c.meter-1.given.0 ≤ g.M.Meter.counted
    c.split-second_meter.new.self + in_visits h (part ts c.args.from mid) = search rules in
    let second : g.M.Meter.counted c.second_meter-2-1.given.0 ≤ g.M.Meter.counted
    c.split-second_meter.result + in_visits h (part ts mid c.args.to) = search rules in
    let same = c.split-second_meter.ensures.count in
    let fresh = c.split-second_meter.ensures.fresh in
    let room = c.requires.ready.room in
    omega arith

pub join-requires-clause-units_fit : goal.join-requires-clause-units_fit
join-requires-clause-units_fit g t c =
    let first : g.M.Meter.held c.meter-1.given.0 ≡ g.M.Meter.held c.split-second_meter.new.self =
    search rules in
    let second : g.M.Meter.held c.second_meter-2-1.given.0
    ≡ g.M.Meter.held c.split-second_meter.result = search rules in
    let rest = c.split-second_meter.ensures.rest in
    let piece = c.split-second_meter.ensures.piece in
    let below = c.split-second_meter.ensures.below in
    omega arith

pub returns-in_err-aggs-clause-most : goal.returns-in_err-aggs-clause-most
returns-in_err-aggs-clause-most g t c =
    let h : Graph = g.A.Adjacency.plain c.args.graph.now in
    let ts : List ℕ = c.args.targets.now in
    let mid : ℕ = c.part_end-mid.result in
    let low : c.args.from ≤ mid = c.part_end-mid.ensures.low in
    let high : mid ≤ c.args.to = c.part_end-mid.ensures.high in
    let split : in_visits h (part ts c.args.from c.args.to)
    ≡ in_visits h (part ts c.args.from mid) + in_visits h (part ts mid c.args.to) =
    reads_both ts h c.args.from mid low c.args.to high in
    let first : g.M.Meter.counted c.meter-1.given.0 ≤ g.M.Meter.counted
    c.split-second_meter.new.self + in_visits h (part ts c.args.from mid) = search rules in
    let second : g.M.Meter.counted c.second_meter-2-1.given.0 ≤ g.M.Meter.counted
    c.split-second_meter.result + in_visits h (part ts mid c.args.to) = search rules in
    let same = c.split-second_meter.ensures.count in
    let fresh = c.split-second_meter.ensures.fresh in
    let both = c.join.ensures.count in
    omega arith

pub returns-in_err-second-clause-most : goal.returns-in_err-second-clause-most
returns-in_err-second-clause-most g t c =
    let h : Graph = g.A.Adjacency.plain c.args.graph.now in
    let ts : List ℕ = c.args.targets.now in
    let mid : ℕ = c.part_end-mid.result in
    let low : c.args.from ≤ mid = c.part_end-mid.ensures.low in
    let high : mid ≤ c.args.to = c.part_end-mid.ensures.high in
    let split : in_visits h (part ts c.args.from c.args.to)
    ≡ in_visits h (part ts c.args.from mid) + in_visits h (part ts mid c.args.to) =
    reads_both ts h c.args.from mid low c.args.to high in
    let first : g.M.Meter.counted c.meter-1.given.0 ≤ g.M.Meter.counted
    c.split-second_meter.new.self + in_visits h (part ts c.args.from mid) = search rules in
    let second : g.M.Meter.counted c.second_meter-2-1.given.0 ≤ g.M.Meter.counted
    c.split-second_meter.result + in_visits h (part ts mid c.args.to) = search rules in
    let same = c.split-second_meter.ensures.count in
    let fresh = c.split-second_meter.ensures.fresh in
    let both = c.join.ensures.count in
    omega arith

pub returns-in_err-append-clause-most : goal.returns-in_err-append-clause-most
returns-in_err-append-clause-most g t c =
    let h : Graph = g.A.Adjacency.plain c.args.graph.now in
    let ts : List ℕ = c.args.targets.now in
    let mid : ℕ = c.part_end-mid.result in
    let low : c.args.from ≤ mid = c.part_end-mid.ensures.low in
    let high : mid ≤ c.args.to = c.part_end-mid.ensures.high in
    let split : in_visits h (part ts c.args.from c.args.to)
    ≡ in_visits h (part ts c.args.from mid) + in_visits h (part ts mid c.args.to) =
    reads_both ts h c.args.from mid low c.args.to high in
    let first : g.M.Meter.counted c.meter-1.given.0 ≤ g.M.Meter.counted
    c.split-second_meter.new.self + in_visits h (part ts c.args.from mid) = search rules in
    let second : g.M.Meter.counted c.second_meter-2-1.given.0 ≤ g.M.Meter.counted
    c.split-second_meter.result + in_visits h (part ts mid c.args.to) = search rules in
    let same = c.split-second_meter.ensures.count in
    let fresh = c.split-second_meter.ensures.fresh in
    let both = c.join.ensures.count in
    omega arith

pub returns-clause-most : goal.returns-clause-most
returns-clause-most g t c =
    let h : Graph = g.A.Adjacency.plain c.args.graph.now in
    let ts : List ℕ = c.args.targets.now in
    let mid : ℕ = c.part_end-mid.result in
    let low : c.args.from ≤ mid = c.part_end-mid.ensures.low in
    let high : mid ≤ c.args.to = c.part_end-mid.ensures.high in
    let split : in_visits h (part ts c.args.from c.args.to)
    ≡ in_visits h (part ts c.args.from mid) + in_visits h (part ts mid c.args.to) =
    reads_both ts h c.args.from mid low c.args.to high in
    let first : g.M.Meter.counted c.meter-1.given.0 ≤ g.M.Meter.counted
    c.split-second_meter.new.self + in_visits h (part ts c.args.from mid) = search rules in
    let second : g.M.Meter.counted c.second_meter-2-1.given.0 ≤ g.M.Meter.counted
    c.split-second_meter.result + in_visits h (part ts mid c.args.to) = search rules in
    let same = c.split-second_meter.ensures.count in
    let fresh = c.split-second_meter.ensures.fresh in
    let both = c.join.ensures.count in
    omega arith

pub returns-clause-aggregates : goal.returns-clause-aggregates
returns-clause-aggregates g t c =
    let h : Graph = g.A.Adjacency.plain c.args.graph.now in
    let ts : List ℕ = c.args.targets.now in
    let mid : ℕ = c.part_end-mid.result in
    let low : c.args.from ≤ mid = c.part_end-mid.ensures.low in
    let high : mid ≤ c.args.to = c.part_end-mid.ensures.high in
    let f : ℕ → List ℤ = gathered c.args.program.now h (g.V.ValueRow.values c.args.row.now) in
    let first : c.in_ok-aggs.aggs.items ≡ map f (part ts c.args.from mid) = search rules in
    let second : c.in_ok-second.field-0.items ≡ map f (part ts mid c.args.to) = search rules in
    let all : c.append.new.self.items ≡ c.in_ok-aggs.aggs.items
    ++ c.in_ok-second.field-0.items = search rules in
    all ∙ (λ j. first j ++ second j) ∙ mapped_both ts f c.args.from mid c.args.to low high

pub returns-clause-exact : goal.returns-clause-exact
returns-clause-exact g t c =
    let h : Graph = g.A.Adjacency.plain c.args.graph.now in
    let ts : List ℕ = c.args.targets.now in
    let mid : ℕ = c.part_end-mid.result in
    let low : c.args.from ≤ mid = c.part_end-mid.ensures.low in
    let high : mid ≤ c.args.to = c.part_end-mid.ensures.high in
    let split : in_visits h (part ts c.args.from c.args.to)
    ≡ in_visits h (part ts c.args.from mid) + in_visits h (part ts mid c.args.to) =
    reads_both ts h c.args.from mid low c.args.to high in
    let first : g.M.Meter.counted c.meter-1.given.0 ≡ g.M.Meter.counted
    c.split-second_meter.new.self + in_visits h (part ts c.args.from mid) = search rules in
    let second : g.M.Meter.counted c.second_meter-2-1.given.0 ≡ g.M.Meter.counted
    c.split-second_meter.result + in_visits h (part ts mid c.args.to) = search rules in
    let same = c.split-second_meter.ensures.count in
    let fresh = c.split-second_meter.ensures.fresh in
    let both = c.join.ensures.count in
    omega arith
