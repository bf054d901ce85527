use Rattle.std.proofs.Common.{arith, ◌≡◌, ◌∙◌, ℕ, ◌+◌, ◌<◌, ◌≤◌, ◌++◌, map, true, false, length}
use Rattle.std.proofs.Common.{take, drop, get_or, slice_get, Some, List, refl, ap, subst, sym}
use Rattle.std.proofs.lemmas.List.{get_or_read}
use Rattle.bolt_base.specs.Graph.{Graph, out_edges, vertices}
use Rattle.bolt_base.specs.declared.edge.Edge.{Edge}
use Rattle.agg_words.specs.Facts.{SeatFacts}
use Rattle.edge_map.specs.Additions.{no_source, source_at, change_gift, adds_of_gifts}
use Rattle.edge_map.specs.Additions.{ends_of_gifts}
use Rattle.edge_map.specs.Grew.{Grew}
use Rattle.edge_map.specs.Plans.{AreSides}
use Rattle.edge_map.specs.Walks.{begins, walked_out}
use Rattle.edge_map.specs.declared.tasks.Source.{Source}
use Rattle.edge_map.specs.declared.tasks.Sides.{Sides}
use Rattle.edge_map.specs.declared.tasks.TaskEdge.{TaskEdge}
use Rattle.edge_map.specs.declared.tasks.Tasks.{Tasks}
use Rattle.edge_map.proofs.Gifts.{word_room}
use Rattle.edge_map.proofs.Places.{marked_as}
use Rattle.edge_map.proofs.RisingTasks.{walked_stayed}
use Rattle.edge_map.proofs.Walking.{walk_none, walk_skip, walk_keep, walk_some, walk_done}
use Rattle.edge_map.proofs.Walking.{walk_same, IsFair, out_fair}
use Rattle.edge_map.proofs.item.make_dirty.Goals as goal
use Rattle.edge_map.proofs.item.make_dirty.Goals.{then-is_next, else-is_next}

pub loop-k-init : goal.loop-k-init
loop-k-init g c =
    let p = c.args.plan.now.program.now in
    let t : Tasks = c.args.plan.now.tasks.now in
    let x : Sides = c.index.result.now in
    let sides : AreSides p t c.args.place x = subst (AreSides p t c.args.place)
    (sym c.index.ensures) (c.requires.plan.ready.sides c.args.place x c.requires.place) in
    record {
      table = refl;
      units = refl;
      held = refl;
      visits = omega arith;
      least = omega arith;
      most = omega arith;
      marked = c.requires.marked;
      walked = walk_none p (g.A.Adjacency.plain c.args.graph.now) t c.args.place x.first_added
          c.args.seat.now.view (take c.args.count c.args.targets.now) sides.added;
    }

pub make_change-total-requires-clause-words : goal.make_change-total-requires-clause-words
make_change-total-requires-clause-words g c =
    let p = c.args.plan.now.program.now in
    let t : Tasks = c.args.plan.now.tasks.now in
    let G : Graph = g.A.Adjacency.plain c.args.graph.now in
    let place : ℕ = c.args.place in
    let x : Source = c.index-as_slice-place.result in
    let inside : place < length c.as_slice.result.now = subst
    (λ (xs : List Source). place < length xs) (sym c.as_slice.ensures) c.requires.place in
    let is : x ≡ source_at t place = get_or_read c.as_slice.result.now place x inside
    c.index-as_slice-place.is no_source
    ∙ ap (λ (xs : List Source). get_or xs place no_source) c.as_slice.ensures in
    let degree : x.new_degree ≡ length (out_edges G (source_at t place).vertex) = ap
    (λ (y : Source). y.new_degree) is
    ∙ (c.requires.plan.agrees.sources place no_source c.requires.place).degree in
    let k : ℕ = c.loop-k.k in
    let e : Edge = c.out_edge_near-e.result in
    let test = c.loop-k-test.true in
    let small : k < length (out_edges G (source_at t place).vertex) = subst (λ (n : ℕ). k < n)
    degree test in
    let read : slice_get (out_edges G (source_at t place).vertex) k
    ≡ Some e = subst (λ (y : Source). slice_get (out_edges G y.vertex) k ≡ Some e) is
    c.out_edge_near-e.ensures.edge in
    let fair : IsFair p.limits G e = out_fair p.limits G c.requires.plan.good
    (source_at t place).vertex k e small read in
    word_room p G c.args.words.now.layout.words c.args.words.now.layout.bits e.dst c.requires.words
    fair.there

pub make_change-total-requires-clause-bit : goal.make_change-total-requires-clause-bit
make_change-total-requires-clause-bit g c =
    let p = c.args.plan.now.program.now in
    let t : Tasks = c.args.plan.now.tasks.now in
    let G : Graph = g.A.Adjacency.plain c.args.graph.now in
    let place : ℕ = c.args.place in
    let x : Source = c.index-as_slice-place.result in
    let inside : place < length c.as_slice.result.now = subst
    (λ (xs : List Source). place < length xs) (sym c.as_slice.ensures) c.requires.place in
    let is : x ≡ source_at t place = get_or_read c.as_slice.result.now place x inside
    c.index-as_slice-place.is no_source
    ∙ ap (λ (xs : List Source). get_or xs place no_source) c.as_slice.ensures in
    let degree : x.new_degree ≡ length (out_edges G (source_at t place).vertex) = ap
    (λ (y : Source). y.new_degree) is
    ∙ (c.requires.plan.agrees.sources place no_source c.requires.place).degree in
    let k : ℕ = c.loop-k.k in
    let e : Edge = c.out_edge_near-e.result in
    let test = c.loop-k-test.true in
    let small : k < length (out_edges G (source_at t place).vertex) = subst (λ (n : ℕ). k < n)
    degree test in
    let read : slice_get (out_edges G (source_at t place).vertex) k
    ≡ Some e = subst (λ (y : Source). slice_get (out_edges G y.vertex) k ≡ Some e) is
    c.out_edge_near-e.ensures.edge in
    let fair : IsFair p.limits G e = out_fair p.limits G c.requires.plan.good
    (source_at t place).vertex k e small read in
    let a = fair.there in let b = c.requires.words.bits in omega arith

pub make_change-total-requires-clause-room : goal.make_change-total-requires-clause-room
make_change-total-requires-clause-room g c =
    let p = c.args.plan.now.program.now in
    let t : Tasks = c.args.plan.now.tasks.now in
    let G : Graph = g.A.Adjacency.plain c.args.graph.now in
    let place : ℕ = c.args.place in
    let x : Source = c.index-as_slice-place.result in
    let inside : place < length c.as_slice.result.now = subst
    (λ (xs : List Source). place < length xs) (sym c.as_slice.ensures) c.requires.place in
    let is : x ≡ source_at t place = get_or_read c.as_slice.result.now place x inside
    c.index-as_slice-place.is no_source
    ∙ ap (λ (xs : List Source). get_or xs place no_source) c.as_slice.ensures in
    let degree : x.new_degree ≡ length (out_edges G (source_at t place).vertex) = ap
    (λ (y : Source). y.new_degree) is
    ∙ (c.requires.plan.agrees.sources place no_source c.requires.place).degree in
    let k : ℕ = c.loop-k.k in
    let e : Edge = c.out_edge_near-e.result in
    let test = c.loop-k-test.true in
    let small : k < length (out_edges G (source_at t place).vertex) = subst (λ (n : ℕ). k < n)
    degree test in
    let read : slice_get (out_edges G (source_at t place).vertex) k
    ≡ Some e = subst (λ (y : Source). slice_get (out_edges G y.vertex) k ≡ Some e) is
    c.out_edge_near-e.ensures.edge in
    let fair : IsFair p.limits G e = out_fair p.limits G c.requires.plan.good
    (source_at t place).vertex k e small read in
    let inv = c.loop-k.invariant in
    let most = inv.most in
    let d = ap (λ (y : Source). y.new_degree) is in
    let long = c.loop-k.auto.targets in
    let room = c.requires.room in
    record { vertices = vertices G; there = fair.there; marked = inv.marked; room = omega arith }

pub make_change-total-requires-clause-had : goal.make_change-total-requires-clause-had
make_change-total-requires-clause-had g c =
    let p = c.args.plan.now.program.now in
    let t : Tasks = c.args.plan.now.tasks.now in
    let G : Graph = g.A.Adjacency.plain c.args.graph.now in
    let place : ℕ = c.args.place in
    let x : Source = c.index-as_slice-place.result in
    let inside : place < length c.as_slice.result.now = subst
    (λ (xs : List Source). place < length xs) (sym c.as_slice.ensures) c.requires.place in
    let is : x ≡ source_at t place = get_or_read c.as_slice.result.now place x inside
    c.index-as_slice-place.is no_source
    ∙ ap (λ (xs : List Source). get_or xs place no_source) c.as_slice.ensures in
    let degree : x.new_degree ≡ length (out_edges G (source_at t place).vertex) = ap
    (λ (y : Source). y.new_degree) is
    ∙ (c.requires.plan.agrees.sources place no_source c.requires.place).degree in
    let k : ℕ = c.loop-k.k in
    let e : Edge = c.out_edge_near-e.result in
    let test = c.loop-k-test.true in
    let small : k < length (out_edges G (source_at t place).vertex) = subst (λ (n : ℕ). k < n)
    degree test in
    let read : slice_get (out_edges G (source_at t place).vertex) k
    ≡ Some e = subst (λ (y : Source). slice_get (out_edges G y.vertex) k ≡ Some e) is
    c.out_edge_near-e.ensures.edge in
    let fails : begins place e.dst (drop c.loop-k.next t.added)
    ≡ false = sym (c.if-is_next.ensures
    ∙ ap (λ (xs : List TaskEdge). begins place e.dst (drop c.loop-k.next xs))
    c.as_slice-added.ensures) in
    let some : 0 < length (walked_out G t place) = walk_some p G t place c.loop-k.next k e
    c.args.seat.now.view c.loop-k.seat.view (take c.args.count c.args.targets.now)
    (take c.loop-k.total c.loop-k.targets) c.loop-k.invariant.walked small read fails in
    let had : 1 ≤ (source_at t place).old_degree = c.requires.plan.agrees.stayed place
    c.requires.place c.requires.dirty
    (subst (λ (l : List Edge). 0 < length l)
    (walked_stayed p G t c.requires.plan.agrees place c.requires.place) some) in
    had

pub make_change-total-requires-clause-weight : goal.make_change-total-requires-clause-weight
make_change-total-requires-clause-weight g c =
    let p = c.args.plan.now.program.now in
    let t : Tasks = c.args.plan.now.tasks.now in
    let G : Graph = g.A.Adjacency.plain c.args.graph.now in
    let place : ℕ = c.args.place in
    let x : Source = c.index-as_slice-place.result in
    let inside : place < length c.as_slice.result.now = subst
    (λ (xs : List Source). place < length xs) (sym c.as_slice.ensures) c.requires.place in
    let is : x ≡ source_at t place = get_or_read c.as_slice.result.now place x inside
    c.index-as_slice-place.is no_source
    ∙ ap (λ (xs : List Source). get_or xs place no_source) c.as_slice.ensures in
    let degree : x.new_degree ≡ length (out_edges G (source_at t place).vertex) = ap
    (λ (y : Source). y.new_degree) is
    ∙ (c.requires.plan.agrees.sources place no_source c.requires.place).degree in
    let k : ℕ = c.loop-k.k in
    let e : Edge = c.out_edge_near-e.result in
    let test = c.loop-k-test.true in
    let small : k < length (out_edges G (source_at t place).vertex) = subst (λ (n : ℕ). k < n)
    degree test in
    let read : slice_get (out_edges G (source_at t place).vertex) k
    ≡ Some e = subst (λ (y : Source). slice_get (out_edges G y.vertex) k ≡ Some e) is
    c.out_edge_near-e.ensures.edge in
    let fair : IsFair p.limits G e = out_fair p.limits G c.requires.plan.good
    (source_at t place).vertex k e small read in
    fair.weight

pub make_change-total-requires-clause-same : goal.make_change-total-requires-clause-same
make_change-total-requires-clause-same g c =
    let p = c.args.plan.now.program.now in
    let t : Tasks = c.args.plan.now.tasks.now in
    let G : Graph = g.A.Adjacency.plain c.args.graph.now in
    let place : ℕ = c.args.place in
    let x : Source = c.index-as_slice-place.result in
    let inside : place < length c.as_slice.result.now = subst
    (λ (xs : List Source). place < length xs) (sym c.as_slice.ensures) c.requires.place in
    let is : x ≡ source_at t place = get_or_read c.as_slice.result.now place x inside
    c.index-as_slice-place.is no_source
    ∙ ap (λ (xs : List Source). get_or xs place no_source) c.as_slice.ensures in
    let degree : x.new_degree ≡ length (out_edges G (source_at t place).vertex) = ap
    (λ (y : Source). y.new_degree) is
    ∙ (c.requires.plan.agrees.sources place no_source c.requires.place).degree in
    let k : ℕ = c.loop-k.k in
    let e : Edge = c.out_edge_near-e.result in
    let test = c.loop-k-test.true in
    let small : k < length (out_edges G (source_at t place).vertex) = subst (λ (n : ℕ). k < n)
    degree test in
    let read : slice_get (out_edges G (source_at t place).vertex) k
    ≡ Some e = subst (λ (y : Source). slice_get (out_edges G y.vertex) k ≡ Some e) is
    c.out_edge_near-e.ensures.edge in
    let fails : begins place e.dst (drop c.loop-k.next t.added)
    ≡ false = sym (c.if-is_next.ensures
    ∙ ap (λ (xs : List TaskEdge). begins place e.dst (drop c.loop-k.next xs))
    c.as_slice-added.ensures) in
    let some : 0 < length (walked_out G t place) = walk_some p G t place c.loop-k.next k e
    c.args.seat.now.view c.loop-k.seat.view (take c.args.count c.args.targets.now)
    (take c.loop-k.total c.loop-k.targets) c.loop-k.invariant.walked small read fails in
    let had : 1 ≤ (source_at t place).old_degree = c.requires.plan.agrees.stayed place
    c.requires.place c.requires.dirty
    (subst (λ (l : List Edge). 0 < length l)
    (walked_stayed p G t c.requires.plan.agrees place c.requires.place) some) in
    let has : 1 ≤ (source_at t place).new_degree = let d = ap (λ (y : Source). y.new_degree) is in
    omega arith in
    λ by_source. c.delta-same.ensures by_source had has

pub loop-k-preserved : goal.loop-k-preserved
loop-k-preserved g c =
    let p = c.args.plan.now.program.now in
    let t : Tasks = c.args.plan.now.tasks.now in
    let G : Graph = g.A.Adjacency.plain c.args.graph.now in
    let place : ℕ = c.args.place in
    let x : Source = c.index-as_slice-place.result in
    let inside : place < length c.as_slice.result.now = subst
    (λ (xs : List Source). place < length xs) (sym c.as_slice.ensures) c.requires.place in
    let is : x ≡ source_at t place = get_or_read c.as_slice.result.now place x inside
    c.index-as_slice-place.is no_source
    ∙ ap (λ (xs : List Source). get_or xs place no_source) c.as_slice.ensures in
    let degree : x.new_degree ≡ length (out_edges G (source_at t place).vertex) = ap
    (λ (y : Source). y.new_degree) is
    ∙ (c.requires.plan.agrees.sources place no_source c.requires.place).degree in
    let k : ℕ = c.loop-k.k in
    let e : Edge = c.out_edge_near-e.result in
    let test = c.loop-k-test.true in
    let small : k < length (out_edges G (source_at t place).vertex) = subst (λ (n : ℕ). k < n)
    degree test in
    let read : slice_get (out_edges G (source_at t place).vertex) k
    ≡ Some e = subst (λ (y : Source). slice_get (out_edges G y.vertex) k ≡ Some e) is
    c.out_edge_near-e.ensures.edge in
    let inv = c.loop-k.invariant in
    let after : List ℕ = take c.loop-k.total c.loop-k.targets in
    let before : List ℕ = take c.args.count c.args.targets.now in
    let a = c.out_edge_near-e.ensures.count in
    let b = inv.visits in
    elim c.if-is_next.branch [
      | then-is_next w ↦
          let passes : begins place e.dst (drop c.loop-k.next t.added)
          ≡ true = sym (c.is_next.ensures
          ∙ ap (λ (xs : List TaskEdge). begins place e.dst (drop c.loop-k.next xs))
          c.as_slice-added.ensures) ∙ w.if-is_next.true in
          let walked = walk_skip p G t place c.loop-k.next k e c.args.seat.now.view
          c.loop-k.seat.view before after inv.walked small read passes in
          let d = w.total-is in
          let least = inv.least in
          let most = inv.most in
          record {
            marked = marked_as (vertices G) c.loop-k.seat.view c.if-is_next.seat.view
                c.loop-k.total c.if-is_next.total c.loop-k.targets c.if-is_next.targets inv.marked
                (ap (λ (s : SeatFacts). s.view) w.seat-is) w.total-is w.targets-is;
            table = ap (λ (s : SeatFacts). s.table) w.seat-is ∙ inv.table;
            units = ap (λ (s : SeatFacts). s.view.units) w.seat-is ∙ inv.units;
            held = c.out_edge_near-e.ensures.units ∙ inv.held;
            visits = omega arith;
            least = omega arith;
            most = omega arith;
            walked = walk_same p G t place (c.loop-k.next + 1) c.if-is_next.next (k + 1)
                c.args.seat.now.view c.loop-k.seat.view c.if-is_next.seat.view before after
                (take c.if-is_next.total c.if-is_next.targets) walked w.next-is
                (ap (λ (s : SeatFacts). s.view) w.seat-is)
                (λ j. take (w.total-is j) (w.targets-is j));
          }
      | else-is_next w ↦
          let fails : begins place e.dst (drop c.loop-k.next t.added)
          ≡ false = sym (c.is_next.ensures
          ∙ ap (λ (xs : List TaskEdge). begins place e.dst (drop c.loop-k.next xs))
          c.as_slice-added.ensures) ∙ w.if-is_next.false in
          let made = w.make_change-total in
          let walked = walk_keep p G t place c.loop-k.next k e c.args.seat.now.view
          c.loop-k.seat.view made.new.seat.view before after
          (take made.result made.new.targets) inv.walked small read fails made.ensures.grew
          in
          let d = w.total-is in
          let least = inv.least in
          let most = inv.most in
          let n = made.ensures.count in
          let fair : IsFair p.limits G e = out_fair p.limits G c.requires.plan.good
          (source_at t place).vertex k e small read in
          record {
            marked = marked_as (vertices G) made.new.seat.view c.if-is_next.seat.view made.result
                c.if-is_next.total made.new.targets c.if-is_next.targets
                (made.ensures.marked (vertices G) fair.there inv.marked)
                (ap (λ (s : SeatFacts). s.view) w.seat-is) w.total-is w.targets-is;
            table = ap (λ (s : SeatFacts). s.table) w.seat-is ∙ made.ensures.table ∙ inv.table;
            units = ap (λ (s : SeatFacts). s.view.units) w.seat-is ∙ made.ensures.units ∙ inv.units;
            held = c.out_edge_near-e.ensures.units ∙ inv.held;
            visits = omega arith;
            least = omega arith;
            most = omega arith;
            walked = walk_same p G t place c.loop-k.next c.if-is_next.next (k + 1)
                c.args.seat.now.view made.new.seat.view c.if-is_next.seat.view before
                (take made.result made.new.targets)
                (take c.if-is_next.total c.if-is_next.targets) walked w.next-is
                (ap (λ (s : SeatFacts). s.view) w.seat-is)
                (λ j. take (w.total-is j) (w.targets-is j));
          }
    ]

pub returns-clause-grew : goal.returns-clause-grew
returns-clause-grew g c =
    let p = c.args.plan.now.program.now in
    let t : Tasks = c.args.plan.now.tasks.now in
    let G : Graph = g.A.Adjacency.plain c.args.graph.now in
    let place : ℕ = c.args.place in
    let x : Source = c.index-as_slice-place.result in
    let inside : place < length c.as_slice.result.now = subst
    (λ (xs : List Source). place < length xs) (sym c.as_slice.ensures) c.requires.place in
    let is : x ≡ source_at t place = get_or_read c.as_slice.result.now place x inside
    c.index-as_slice-place.is no_source
    ∙ ap (λ (xs : List Source). get_or xs place no_source) c.as_slice.ensures in
    let degree : x.new_degree ≡ length (out_edges G (source_at t place).vertex) = ap
    (λ (y : Source). y.new_degree) is
    ∙ (c.requires.plan.agrees.sources place no_source c.requires.place).degree in
    λ start more ends h. subst (λ (l : List Edge). Grew start c.loop-k.seat.view
    (more ++ adds_of_gifts p (map (change_gift p (source_at t place)) l))
    (ends ++ ends_of_gifts (map (change_gift p (source_at t place)) l))
    (take c.loop-k.total c.loop-k.targets))
    (walked_stayed p G t c.requires.plan.agrees place c.requires.place)
    (walk_done p G t place c.loop-k.next c.loop-k.k c.args.seat.now.view c.loop-k.seat.view
    (take c.args.count c.args.targets.now) (take c.loop-k.total c.loop-k.targets)
    c.loop-k.invariant.walked (let past = c.loop-k-test.false in omega arith) start more
    ends h)
