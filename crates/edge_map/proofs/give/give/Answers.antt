use Rattle.std.proofs.Common.{add-one, ◌++◌, [], ◌∷◌, take, refl, ap, ◌∙◌}
use Rattle.std.proofs.Math.Seq.{take-suc-set}
use Rattle.agg_words.specs.Facts.{SeatFacts}
use Rattle.agg_words.specs.View.{with_mark, with_met}
use Rattle.edge_map.specs.Grew.{lane_adds}
use Rattle.edge_map.proofs.Growing.{grew_mark, grew_met}
use Rattle.edge_map.proofs.Places.{place_left, marked_more, marked_same}
use Rattle.edge_map.proofs.give.give.Goals as goal

pub bounds-targets-count : goal.bounds-targets-count
bounds-targets-count c =
    let marks = ap (λ (s : SeatFacts). s.view.marks) c.if-mark.ensures.seat
    ∙ ap (λ (s : SeatFacts). s.view.marks ++ c.args.dst ∷ []) c.add_lanes.ensures in
    place_left c.args.words.now.layout c.args.seat.now.view c.mark.new.seat.view c.args.dst
    c.args.count c.args.targets.now c.requires.place marks c.if-mark.ensures.once

pub returns-then-mark-clause-grew : goal.returns-then-mark-clause-grew
returns-then-mark-clause-grew c start more ends g =
    let marks = ap (λ (s : SeatFacts). s.view.marks) c.if-mark.ensures.seat
    ∙ ap (λ (s : SeatFacts). s.view.marks ++ c.args.dst ∷ []) c.add_lanes.ensures in
    let room = place_left c.args.words.now.layout c.args.seat.now.view c.mark.new.seat.view
    c.args.dst c.args.count c.args.targets.now c.requires.place marks c.if-mark.ensures.once in
    grew_mark start c.args.seat.now.view c.mark.new.seat.view more
    (lane_adds c.args.dst c.args.amounts.now) ends (take c.args.count c.args.targets.now) _
    c.args.dst g
    (ap (λ (s : SeatFacts). s.view) c.if-mark.ensures.seat
    ∙ ap (λ (s : SeatFacts). with_mark s.view c.args.dst) c.add_lanes.ensures)
    (rw add-one (take-suc-set c.args.targets.now c.args.count c.args.dst room))

pub returns-then-mark-clause-marked : goal.returns-then-mark-clause-marked
returns-then-mark-clause-marked c n there m =
    let marks = ap (λ (s : SeatFacts). s.view.marks) c.if-mark.ensures.seat
    ∙ ap (λ (s : SeatFacts). s.view.marks ++ c.args.dst ∷ []) c.add_lanes.ensures in
    let room = place_left c.args.words.now.layout c.args.seat.now.view c.mark.new.seat.view
    c.args.dst c.args.count c.args.targets.now c.requires.place marks c.if-mark.ensures.once in
    marked_more n c.args.seat.now.view c.mark.new.seat.view c.args.dst c.args.count
    c.args.targets.now m there marks room

pub returns-else-mark-clause-grew : goal.returns-else-mark-clause-grew
returns-else-mark-clause-grew c start more ends g =
    grew_met start c.args.seat.now.view c.mark.new.seat.view more
    (lane_adds c.args.dst c.args.amounts.now) ends (take c.args.count c.args.targets.now) _
    c.args.dst g
    (ap (λ (s : SeatFacts). s.view) c.if-mark.ensures.seat
    ∙ ap (λ (s : SeatFacts). with_met s.view c.args.dst) c.add_lanes.ensures) refl

pub returns-else-mark-clause-marked : goal.returns-else-mark-clause-marked
returns-else-mark-clause-marked c n there m =
    marked_same n c.args.seat.now.view c.mark.new.seat.view c.args.count c.args.targets.now m
    (ap (λ (s : SeatFacts). s.view.marks) c.if-mark.ensures.seat
    ∙ ap (λ (s : SeatFacts). s.view.marks) c.add_lanes.ensures)
