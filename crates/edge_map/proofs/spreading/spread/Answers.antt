use Rattle.std.proofs.Common.{arith, ◌≡◌, ◌∙◌, ℕ, ◌+◌, ◌≤◌, ◌++◌, List, length, take, drop, sym, ap}
use Rattle.std.proofs.Common.{subst}
use Rattle.agg_words.specs.Facts.{SeatFacts}
use Rattle.agg_words.specs.Known.{IsKnown}
use Rattle.vertex_expr.specs.declared.program.ProgramEntries.{ProgramEntries}
use Rattle.run_model.specs.Additions.{Gift}
use Rattle.edge_map.specs.Additions.{task_gifts, adds_of_gifts}
use Rattle.edge_map.specs.Additions.{ends_of_gifts}
use Rattle.edge_map.specs.Forks.{part_adds, part_ends}
use Rattle.edge_map.specs.Grew.{Grew}
use Rattle.edge_map.specs.Plans.{AreFit}
use Rattle.edge_map.specs.Targets.{AreTargets}
use Rattle.edge_map.specs.declared.tasks.Plan.{Plan}
use Rattle.edge_map.specs.declared.tasks.Tasks.{Tasks}
use Rattle.edge_map.proofs.Parts.{whole_visits, whole_gifts, kept}
use Rattle.edge_map.proofs.RisingTasks.{sources_few}
use Rattle.bolt_base.specs.Graph.{vertices}
use Rattle.edge_map.proofs.Sources.{sources_fit}
use Rattle.edge_map.proofs.TargetLemmas.{targets_are}
use Rattle.edge_map.proofs.spreading.spread.Goals as goal

pub plan_of-requires-clause-fit : goal.plan_of-requires-clause-fit
plan_of-requires-clause-fit g c =
    subst (λ (p : ProgramEntries). AreFit p c.args.tasks.now) (sym c.program.ensures.program)
    (sources_fit c.args.accepted.now (g.A.Adjacency.plain c.args.graph.now) c.args.tasks.now
    c.program.ensures.accepted c.requires.good c.requires.agrees)

pub plan_of-requires-clause-few : goal.plan_of-requires-clause-few
plan_of-requires-clause-few g c =
    let agrees = c.requires.agrees in
    let G = g.A.Adjacency.plain c.args.graph.now in
    let few = sources_few c.args.tasks.now.sources (vertices G) agrees.sources_rise
    (λ k d h. (agrees.sources k d h).there) in
    let most = c.requires.good.few_vertices in
    let limit = c.program.ensures.accepted.writable.limits.vertices.most in
    omega arith

pub room_of-room-requires-clause-visits : goal.room_of-room-requires-clause-visits
room_of-room-requires-clause-visits g c =
    let known = c.in_ok-plan.ensures in
    let some = c.requires.ready.some in
    let whole = whole_visits c.in_ok-plan.plan c.args.tasks.now c.args.workers known.all
    known.tasks known.workers some in
    let fits = c.requires.visits in
    omega arith

pub run_pieces-count-requires-clause-visits : goal.run_pieces-count-requires-clause-visits
run_pieces-count-requires-clause-visits g c κs within =
    let known = c.in_ok-plan.ensures in
    let some = c.requires.ready.some in
    let whole = whole_visits c.in_ok-plan.plan c.args.tasks.now c.args.workers known.all
    known.tasks known.workers some in
    let fits = c.requires.visits in
    omega arith

pub run_pieces-count-requires-clause-room : goal.run_pieces-count-requires-clause-room
run_pieces-count-requires-clause-room g c κs within =
    let x : Plan = c.in_ok-plan.plan in
    let t : Tasks = c.args.tasks.now in
    let known = c.in_ok-plan.ensures in
    let some = c.requires.ready.some in
    let whole = whole_visits x t c.args.workers known.all known.tasks known.workers some in
    let room = c.room_of-room.ensures in
    let long = c.in_ok-targets.ensures.len in
    let slice = c.as_mut_slice.ensures.len in
    omega arith

pub returns-clause-visits : goal.returns-clause-visits
returns-clause-visits g c =
    let known = c.in_ok-plan.ensures in
    c.run_pieces-count.ensures.visits
    ∙ ap (λ (n : ℕ). g.M.Meter.counted c.args.meter.now + n)
    (whole_visits c.in_ok-plan.plan c.args.tasks.now c.args.workers known.all known.tasks
    known.workers c.requires.ready.some)

pub returns-clause-amounts : goal.returns-clause-amounts
returns-clause-amounts g c =
    let x : Plan = c.in_ok-plan.plan in
    let p : ProgramEntries = c.args.accepted.now in
    let G = g.A.Adjacency.plain c.args.graph.now in
    let known = c.in_ok-plan.ensures in
    let program : x.program.now ≡ p = known.program ∙ c.program.ensures.program in
    let gifts = whole_gifts G x p c.args.tasks.now c.args.workers known.all program known.tasks
    known.workers c.requires.ready.some in
    ap (λ (s : SeatFacts). s.view.amounts) c.know.ensures.same
    ∙ c.run_pieces-count.ensures.grew.amounts
    ∙ (λ j. c.args.seat.now.view.amounts ++ adds_of_gifts (program j) (gifts j))

pub returns-clause-targets : goal.returns-clause-targets
returns-clause-targets g c =
    let x : Plan = c.in_ok-plan.plan in
    let p : ProgramEntries = c.args.accepted.now in
    let G = g.A.Adjacency.plain c.args.graph.now in
    let known = c.in_ok-plan.ensures in
    let program : x.program.now ≡ p = known.program ∙ c.program.ensures.program in
    let gifts = whole_gifts G x p c.args.tasks.now c.args.workers known.all program known.tasks
    known.workers c.requires.ready.some in
    let grew = c.run_pieces-count.ensures.grew in
    let cut = c.truncate.ensures.items in
    let permuted = c.sort_unstable.ensures.permutation in
    let sorted = c.sort_unstable.ensures.sorted in
    let list = c.from_vec.ensures in
    let some = c.requires.ready.some in
    let all = c.run_pieces-count.new.targets in
    let whole = whole_visits x c.args.tasks.now c.args.workers known.all known.tasks known.workers
    some in
    let room = c.room_of-room.ensures in
    let long = c.in_ok-targets.ensures.len in
    let slice = c.as_mut_slice.ensures.len in
    let same = c.run_pieces-count.auto.targets in
    let count = c.run_pieces-count.ensures.count in
    let inside : c.run_pieces-count.result ≤ length all = omega arith in
    let below : c.run_pieces-count.result ≤ c.in_ok-targets.targets.len = omega arith in
    let front : c.truncate.new.self.items ≡ take c.run_pieces-count.result all = cut
    ∙ kept c.run_pieces-count.result c.in_ok-targets.targets.len all
    (drop (length all) c.in_ok-targets.targets.items) below inside in
    let old = c.args.seat.now.view in
    let new = c.run_pieces-count.new.seat.view in
    let view : c.know.new.seat.view ≡ new = ap (λ (s : SeatFacts). s.view) c.know.ensures.same in
    let units : c.know.new.seat.view.units
    ≡ c.args.words.now.layout.units = ap (λ (s : SeatFacts). s.view.units) c.know.ensures.same
    ∙ c.run_pieces-count.ensures.units ∙ c.requires.ready.clear.units in
    let full : IsKnown c.args.words.now.layout new = subst (IsKnown c.args.words.now.layout) view
    (c.know.ensures.full units) in
    let ends = part_ends G x 0 c.args.workers in
    let here : Grew old new (part_adds G x 0 c.args.workers) ends c.truncate.new.self.items = subst
    (Grew old new (part_adds G x 0 c.args.workers) ends) (sym front) grew in
    let are : AreTargets ends c.sort_unstable.new.self.items new = targets_are
    c.args.words.now.layout old new (part_adds G x 0 c.args.workers) ends
    c.truncate.new.self.items c.sort_unstable.new.self.items here c.requires.ready.clear.marks
    c.requires.ready.clear.met full permuted sorted in
    subst (AreTargets (ends_of_gifts (task_gifts p G c.args.tasks.now)) c.from_vec.result)
    (sym view)
    (subst (λ (l : List ℕ). AreTargets (ends_of_gifts (task_gifts p G c.args.tasks.now)) l new)
    (sym list) (subst (λ (l : List Gift). AreTargets (ends_of_gifts l)
    c.sort_unstable.new.self.items new) gifts are))
