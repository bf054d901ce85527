use Rattle.std.proofs.Common.{arith, ◌≡◌, ℕ, ◌+◌, ◌-◌, ◌<◌, ◌≤◌, ap, refl, sym}
use Rattle.std.specs.List.{range_with_len, sum_by}
use Rattle.edge_map.specs.Forks.{piece_room}
use Rattle.edge_map.specs.declared.tasks.Plan.{Plan}
use Rattle.edge_map.proofs.Parts.{part_split, room_split, room_alone, room_few}
use Rattle.edge_map.proofs.piece.room_of.Goals as goal

pub loop-piece-init : goal.loop-piece-init
loop-piece-init g c =
    let from : ℕ = c.args.from in
    record {
      within = omega arith;
      room = sym (ap (λ k. sum_by (piece_room (g.A.Adjacency.plain c.args.graph.now)
          c.args.plan.now) (range_with_len from k)) (let e : from - from ≡ 0 = omega arith in e));
    }

pub piece_room-room-requires-clause-visits : goal.piece_room-room-requires-clause-visits
piece_room-room-requires-clause-visits g c =
    let x : Plan = c.args.plan.now in
    let k : ℕ = c.loop-piece.piece in
    let from : ℕ = c.args.from in
    let to : ℕ = c.args.to in
    let range = c.requires.range in
    let test = c.loop-piece-test.true in
    let above = c.loop-piece.invariant.within in
    let some : 0 < x.workers = omega arith in
    let one : k ≤ k + 1 = omega arith in
    let rest : k + 1 ≤ to = omega arith in
    let after : k ≤ to = omega arith in
    let a = part_split x from k to some above after in
    let b = part_split x k (k + 1) to some one rest in
    let fits = c.requires.visits in
    omega arith

pub overflow_add-room : goal.overflow_add-room
overflow_add-room g c =
    let x : Plan = c.args.plan.now in
    let G = g.A.Adjacency.plain c.args.graph.now in
    let k : ℕ = c.loop-piece.piece in
    let from : ℕ = c.args.from in
    let to : ℕ = c.args.to in
    let range = c.requires.range in
    let test = c.loop-piece-test.true in
    let above = c.loop-piece.invariant.within in
    let some : 0 < x.workers = omega arith in
    let one : k ≤ k + 1 = omega arith in
    let rest : k + 1 ≤ to = omega arith in
    let next : from ≤ k + 1 = omega arith in
    let rooms = room_split G x from k (k + 1) above one in
    let alone = room_alone G x k (k + 1) refl in
    let few = room_few G x from (k + 1) some next in
    let reads = part_split x from (k + 1) to some next rest in
    let fits = c.requires.visits in
    let so_far = c.loop-piece.invariant.room in
    let more = c.piece_room-room.ensures in
    omega arith

pub loop-piece-preserved : goal.loop-piece-preserved
loop-piece-preserved g c =
    let x : Plan = c.args.plan.now in
    let G = g.A.Adjacency.plain c.args.graph.now in
    let k : ℕ = c.loop-piece.piece in
    let from : ℕ = c.args.from in
    let above = c.loop-piece.invariant.within in
    let one : k ≤ k + 1 = omega arith in
    let rooms = room_split G x from k (k + 1) above one in
    let alone = room_alone G x k (k + 1) refl in
    let so_far = c.loop-piece.invariant.room in
    let more = c.piece_room-room.ensures in
    record { within = omega arith; room = omega arith }
