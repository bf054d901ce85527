use Rattle.std.proofs.Common.{rules, arith, ◌≡◌, ◌∙◌, ℕ, ◌+◌, ◌-◌, ◌/◌, ◌<◌, ◌≤◌, ◌++◌, List}
use Rattle.std.proofs.Common.{length, take, drop, sym, ap, subst, refl, length-append}
use Rattle.std.specs.Prelude.{min}
use Rattle.std.specs.List.{All}
use Rattle.bolt_base.specs.Graph.{vertices}
use Rattle.std.proofs.lemmas.List.Elements.{All-take, All-drop}
use Rattle.bolt_base.specs.Pieces.{cut, pieces}
use Rattle.bolt_base.specs.Residue.{Amount}
use Rattle.agg_words.specs.Facts.{SeatFacts}
use Rattle.agg_words.specs.View.{with_fewer, bare, joined}
use Rattle.edge_map.specs.Additions.{visits_of}
use Rattle.edge_map.specs.Forks.{part_visits, part_adds, part_ends}
use Rattle.edge_map.specs.Grew.{Grew}
use Rattle.edge_map.specs.Walks.{IsWork}
use Rattle.edge_map.specs.declared.tasks.Plan.{Plan}
use Rattle.edge_map.specs.declared.tasks.Work.{Work}
use Rattle.edge_map.proofs.Growing.{grew_joined}
use Rattle.edge_map.proofs.Parts.{part_is, part_split, room_split, room_alone, adds_split}
use Rattle.edge_map.proofs.Parts.{ends_split, works_fit, closed}
use Rattle.edge_map.proofs.fork.+fork.Goals as goal

pub run_pieces-run_piece-requires-clause-works : goal.run_pieces-run_piece-requires-clause-works
run_pieces-run_piece-requires-clause-works g t c =
    let x : Plan = c.args.plan.now in
    let G = g.A.Adjacency.plain c.args.graph.now in
    let P : Work → Type 0 = IsWork x.program.now G x.tasks.now in
    subst (λ (xs : List Work). All P
    (take (c.cut_at-end.result - c.cut_at-start.result) (drop c.cut_at-start.result xs)))
    (sym c.deref.ensures.value)
    (All-take P (c.cut_at-end.result - c.cut_at-start.result)
    (drop c.cut_at-start.result x.works.items)
    (All-drop P c.cut_at-start.result x.works.items (works_fit G x c.requires.plan)))

pub run_pieces-run_piece-requires-clause-room : goal.run_pieces-run_piece-requires-clause-room
run_pieces-run_piece-requires-clause-room g t c =
    let x : Plan = c.args.plan.now in
    let G = g.A.Adjacency.plain c.args.graph.now in
    let n : ℕ = vertices G in
    let range = c.requires.range in
    let one = c.if-to-from-eq1.true in
    let alone = room_alone G x c.args.from c.args.to (omega arith) in
    let total : c.len.result ≡ length x.works.items = search rules in
    let total_2 : c.len-then-to-from-eq1.result ≡ length x.works.items = search rules in
    let same : take (c.cut_at-end.result - c.cut_at-start.result)
    (drop c.cut_at-start.result c.deref.result.now)
    ≡ pieces x.works.items x.workers c.args.from c.args.to =
    part_is x c.deref.result.now (length x.works.items) c.cut_at-start.result c.cut_at-end.result
    c.args.from c.args.to c.deref.ensures.value refl
    (c.cut_at-start.ensures.value ∙ ap (λ (n : ℕ). cut c.args.from n x.workers) total)
    (c.cut_at-end.ensures.value ∙ ap (λ (n : ℕ). cut c.args.to n x.workers) total_2) in
    let room = c.requires.room in
    subst (λ (l : List Work). min n (visits_of x.tasks.now l) ≤ length c.args.targets.now)
    (sym same) (let most : min n (part_visits x c.args.from c.args.to) ≤ length
    c.args.targets.now = omega arith in most)

pub run_pieces-room_of-middle-requires-clause-visits :
    goal.run_pieces-room_of-middle-requires-clause-visits
run_pieces-room_of-middle-requires-clause-visits g t c =
    let x : Plan = c.args.plan.now in
    let from : ℕ = c.args.from in
    let to : ℕ = c.args.to in
    let range = c.requires.range in
    let apart = c.if-to-from-eq1.false in
    let half : ℕ = from + (to - from) / 2 in
    let up : from ≤ half = omega arith in
    let down : half ≤ to = omega arith in
    let some : 0 < x.workers = omega arith in
    let e : part_visits x from half + part_visits x half to
    ≡ part_visits x from to = part_split x from half to some up down in
    let fits = c.requires.visits in
    omega arith

pub run_pieces-split_at_mut-first_targets-requires :
    goal.run_pieces-split_at_mut-first_targets-requires
run_pieces-split_at_mut-first_targets-requires g t c =
    let x : Plan = c.args.plan.now in
    let from : ℕ = c.args.from in
    let to : ℕ = c.args.to in
    let range = c.requires.range in
    let apart = c.if-to-from-eq1.false in
    let half : ℕ = from + (to - from) / 2 in
    let up : from ≤ half = omega arith in
    let down : half ≤ to = omega arith in
    let some : 0 < x.workers = omega arith in
    let e : part_visits x from half + part_visits x half to
    ≡ part_visits x from to = part_split x from half to some up down in
    let middle = c.room_of-middle.ensures in
    let rooms = room_split (g.A.Adjacency.plain c.args.graph.now) x from half to up down in
    let room = c.requires.room in omega arith

pub run_pieces-run_halves-first-requires-clause-visits :
    goal.run_pieces-run_halves-first-requires-clause-visits
run_pieces-run_halves-first-requires-clause-visits g t c κs within =
    let x : Plan = c.args.plan.now in
    let from : ℕ = c.args.from in
    let to : ℕ = c.args.to in
    let range = c.requires.range in
    let apart = c.if-to-from-eq1.false in
    let half : ℕ = from + (to - from) / 2 in
    let up : from ≤ half = omega arith in
    let down : half ≤ to = omega arith in
    let some : 0 < x.workers = omega arith in
    let e : part_visits x from half + part_visits x half to
    ≡ part_visits x from to = part_split x from half to some up down in
    let fits = c.requires.visits in
    let kept = c.split-second_meter.ensures.count in
    omega arith

pub run_pieces-run_halves-first-requires-clause-second_room :
    goal.run_pieces-run_halves-first-requires-clause-second_room
run_pieces-run_halves-first-requires-clause-second_room g t c κs within =
    let x : Plan = c.args.plan.now in
    let from : ℕ = c.args.from in
    let to : ℕ = c.args.to in
    let range = c.requires.range in
    let apart = c.if-to-from-eq1.false in
    let half : ℕ = from + (to - from) / 2 in
    let up : from ≤ half = omega arith in
    let down : half ≤ to = omega arith in
    let some : 0 < x.workers = omega arith in
    let e : part_visits x from half + part_visits x half to
    ≡ part_visits x from to = part_split x from half to some up down in
    let middle = c.room_of-middle.ensures in
    let rooms = room_split (g.A.Adjacency.plain c.args.graph.now) x from half to up down in
    let room = c.requires.room in
    let back = c.split_at_mut-first_targets.ensures.back_len in
    omega arith

pub run_pieces-run_halves-first-requires-clause-second_visits :
    goal.run_pieces-run_halves-first-requires-clause-second_visits
run_pieces-run_halves-first-requires-clause-second_visits g t c κs within =
    let x : Plan = c.args.plan.now in
    let from : ℕ = c.args.from in
    let to : ℕ = c.args.to in
    let range = c.requires.range in
    let apart = c.if-to-from-eq1.false in
    let half : ℕ = from + (to - from) / 2 in
    let up : from ≤ half = omega arith in
    let down : half ≤ to = omega arith in
    let some : 0 < x.workers = omega arith in
    let e : part_visits x from half + part_visits x half to
    ≡ part_visits x from to = part_split x from half to some up down in
    let fits = c.requires.visits in
    let fresh = c.split-second_meter.ensures.fresh in
    omega arith

pub run_pieces-join-requires-2-clause-count_fits : goal.run_pieces-join-requires-2-clause-count_fits
run_pieces-join-requires-2-clause-count_fits g t c =
    let x : Plan = c.args.plan.now in
    let from : ℕ = c.args.from in
    let to : ℕ = c.args.to in
    let range = c.requires.range in
    let apart = c.if-to-from-eq1.false in
    let half : ℕ = from + (to - from) / 2 in
    let up : from ≤ half = omega arith in
    let down : half ≤ to = omega arith in
    let some : 0 < x.workers = omega arith in
    let e : part_visits x from half + part_visits x half to
    ≡ part_visits x from to = part_split x from half to some up down in
    let did = c.run_halves-first.ensures in
    let a = did.visits in
    let b = did.second_visits in
    let kept = c.split-second_meter.ensures.count in
    let fresh = c.split-second_meter.ensures.fresh in
    let fits = c.requires.visits in
    let n = did.count in
    let m = did.second_count in
    omega arith

pub run_pieces-close_up-requires-clause-room : goal.run_pieces-close_up-requires-clause-room
run_pieces-close_up-requires-clause-room g t c =
    let x : Plan = c.args.plan.now in
    let from : ℕ = c.args.from in
    let to : ℕ = c.args.to in
    let range = c.requires.range in
    let apart = c.if-to-from-eq1.false in
    let half : ℕ = from + (to - from) / 2 in
    let up : from ≤ half = omega arith in
    let down : half ≤ to = omega arith in
    let some : 0 < x.workers = omega arith in
    let e : part_visits x from half + part_visits x half to
    ≡ part_visits x from to = part_split x from half to some up down in
    let middle = c.room_of-middle.ensures in
    let rooms = room_split (g.A.Adjacency.plain c.args.graph.now) x from half to up down in
    let did = c.run_halves-first.ensures in
    let a = did.visits in
    let b = did.second_visits in
    let kept = c.split-second_meter.ensures.count in
    let fresh = c.split-second_meter.ensures.fresh in
    let fits = c.requires.visits in
    let n = did.count in
    let m = did.second_count in
    let long = c.run_halves-first.auto.targets in
    let long_2 = c.run_halves-first.auto.second_targets in
    let front = c.split_at_mut-first_targets.ensures.front_len in
    let back = c.split_at_mut-first_targets.ensures.back_len in
    let room = c.requires.room in
    omega (
      arith,
      length-append c.run_halves-first.new.targets
          c.run_halves-first.new.second_targets,
    )

pub run_pieces-overflow_add-result : goal.run_pieces-overflow_add-result
run_pieces-overflow_add-result g t c =
    let x : Plan = c.args.plan.now in
    let from : ℕ = c.args.from in
    let to : ℕ = c.args.to in
    let range = c.requires.range in
    let apart = c.if-to-from-eq1.false in
    let half : ℕ = from + (to - from) / 2 in
    let up : from ≤ half = omega arith in
    let down : half ≤ to = omega arith in
    let some : 0 < x.workers = omega arith in
    let e : part_visits x from half + part_visits x half to
    ≡ part_visits x from to = part_split x from half to some up down in
    let did = c.run_halves-first.ensures in
    let a = did.visits in
    let b = did.second_visits in
    let kept = c.split-second_meter.ensures.count in
    let fresh = c.split-second_meter.ensures.fresh in
    let fits = c.requires.visits in
    let n = did.count in
    let m = did.second_count in
    let long = c.run_halves-first.auto.targets in
    let long_2 = c.run_halves-first.auto.second_targets in
    let front = c.split_at_mut-first_targets.ensures.front_len in
    let back = c.split_at_mut-first_targets.ensures.back_len in
    omega arith

pub run_pieces-returns-clause-visits : goal.run_pieces-returns-clause-visits
run_pieces-returns-clause-visits g t c =
    let x : Plan = c.args.plan.now in
    let from : ℕ = c.args.from in
    let to : ℕ = c.args.to in
    let range = c.requires.range in
    let apart = c.if-to-from-eq1.false in
    let half : ℕ = from + (to - from) / 2 in
    let up : from ≤ half = omega arith in
    let down : half ≤ to = omega arith in
    let some : 0 < x.workers = omega arith in
    let e : part_visits x from half + part_visits x half to
    ≡ part_visits x from to = part_split x from half to some up down in
    let did = c.run_halves-first.ensures in
    let a = did.visits in
    let b = did.second_visits in
    let kept = c.split-second_meter.ensures.count in
    let fresh = c.split-second_meter.ensures.fresh in
    let fits = c.requires.visits in
    let n = did.count in
    let m = did.second_count in
    let whole = c.join-2.ensures.count in
    omega arith

pub run_pieces-returns-clause-grew : goal.run_pieces-returns-clause-grew
run_pieces-returns-clause-grew g t c =
    let x : Plan = c.args.plan.now in
    let from : ℕ = c.args.from in
    let to : ℕ = c.args.to in
    let range = c.requires.range in
    let apart = c.if-to-from-eq1.false in
    let half : ℕ = from + (to - from) / 2 in
    let up : from ≤ half = omega arith in
    let down : half ≤ to = omega arith in
    let some : 0 < x.workers = omega arith in
    let e : part_visits x from half + part_visits x half to
    ≡ part_visits x from to = part_split x from half to some up down in
    let middle = c.room_of-middle.ensures in
    let rooms = room_split (g.A.Adjacency.plain c.args.graph.now) x from half to up down in
    let did = c.run_halves-first.ensures in
    let a = did.visits in
    let b = did.second_visits in
    let kept = c.split-second_meter.ensures.count in
    let fresh = c.split-second_meter.ensures.fresh in
    let fits = c.requires.visits in
    let n = did.count in
    let m = did.second_count in
    let long = c.run_halves-first.auto.targets in
    let long_2 = c.run_halves-first.auto.second_targets in
    let front = c.split_at_mut-first_targets.ensures.front_len in
    let back = c.split_at_mut-first_targets.ensures.back_len in
    let room = c.requires.room in
    let G = g.A.Adjacency.plain c.args.graph.now in
    let cuts = c.requires.units in
    let old = c.args.seat.now.view in
    let first_seat = c.split-second_seat.new.seat.view in
    let second_seat = c.split-second_seat.result.view in
    let start : first_seat ≡ with_fewer old (to - half) = ap (λ (s : SeatFacts). s.view)
    c.split-second_seat.ensures.rest in
    let new : second_seat ≡ bare (to - half) = ap (λ (s : SeatFacts). s.view)
    c.split-second_seat.ensures.cut in
    let both : c.join.new.seat.view ≡ joined c.run_halves-first.new.seat.view
    c.run_halves-first.new.second_seat.view = ap (λ (s : SeatFacts). s.view)
    c.join.ensures.seat in
    let units : to - half ≤ old.units = omega arith in
    let few : c.run_halves-first.result.0 ≤ c.room_of-middle.result = omega arith in
    let front_long : length c.run_halves-first.new.targets
    ≡ c.room_of-middle.result = omega arith in
    let targets = closed c.run_halves-first.result.0 c.room_of-middle.result
    c.run_halves-first.result.1 c.run_halves-first.new.targets
    c.run_halves-first.new.second_targets
    (take (c.run_halves-first.result.0 + c.run_halves-first.result.1)
    c.close_up.new.targets) front_long few c.close_up.ensures in
    let grew = grew_joined old first_seat c.run_halves-first.new.seat.view second_seat
    c.run_halves-first.new.second_seat.view c.join.new.seat.view (to - half)
    (part_adds G x from half) (part_adds G x half to) (part_ends G x from half)
    (part_ends G x half to)
    (take c.run_halves-first.result.0 c.run_halves-first.new.targets)
    (take c.run_halves-first.result.1 c.run_halves-first.new.second_targets)
    (take (c.run_halves-first.result.0 + c.run_halves-first.result.1)
    c.close_up.new.targets) units start new did.grew did.second_grew both targets in
    subst (λ (l : List Amount). Grew old c.join.new.seat.view l (part_ends G x from to)
    (take (c.run_halves-first.result.0 + c.run_halves-first.result.1) c.close_up.new.targets))
    (adds_split G x from half to some up down)
    (subst (λ (l : List ℕ). Grew old c.join.new.seat.view
    (part_adds G x from half ++ part_adds G x half to) l
    (take (c.run_halves-first.result.0 + c.run_halves-first.result.1)
    c.close_up.new.targets)) (ends_split G x from half to some up down) grew)
