use Rattle.std.proofs.Common.{ap, ◌∙◌, ◌+◌, ◌≡◌, length, map, replicate, arith, [], refl}
use Rattle.std.proofs.lemmas.List.{length-replicate}
use Rattle.std.proofs.lemmas.List.Elements.{All-replicate, All-same}
use Rattle.agg_history.specs.PutList.{ListedPuts}
use Rattle.agg_history.specs.Places.{PlaceTable}
use Rattle.agg_history.proofs.OverlayLemmas.{no_puts_in, none_numbered}
use Rattle.agg_history.proofs.overlay.Overlay.new.Goals as goal

pub invariant_of-result : goal.invariant_of-result
invariant_of-result c =
    let blank : ListedPuts = record { lanes = c.args.lanes; puts = [] } in
    let table = ap (λ (t : PlaceTable). t.table) c.in_ok-places.ensures in
    let rounds = c.in_ok-rounds.ensures in
    let none = ap (map (λ (list : ListedPuts). list.puts)) rounds
    ∙ no_puts_in c.args.lanes (c.args.cut + 1) in
    record {
      old = c.requires.old;
      few = omega arith;
      some = c.requires.some;
      narrow = c.requires.narrow;
      short = c.requires.short;
      width = ap (λ (t : PlaceTable). t.width) c.in_ok-places.ensures;
      count = ap length table ∙ length-replicate c.args.vertices (replicate (c.args.cut + 1) 0);
      rounds = ap length rounds ∙ length-replicate (c.args.cut + 1) blank;
      wide = All-same (λ (list : ListedPuts). list.lanes ≡ c.args.lanes) c.in_ok-rounds.rounds.items
          (replicate (c.args.cut + 1) blank) rounds
          (All-replicate (λ (list : ListedPuts). list.lanes ≡ c.args.lanes)
          (c.args.cut + 1) blank refl);
      numbered = λ i h.
          none_numbered c.in_ok-places.places.table
          (map (λ (list : ListedPuts). list.puts) c.in_ok-rounds.rounds.items) c.args.vertices
          (c.args.cut + 1) (c.args.cut + 1) i table none;
    }

pub returns : goal.returns
returns c =
    let none = ap (map (λ (list : ListedPuts). list.puts)) c.in_ok-rounds.ensures
    ∙ no_puts_in c.args.lanes (c.args.cut + 1) in
    λ i. record {
      old_vertices = c.args.old_vertices;
      vertices = c.args.vertices;
      lanes = c.args.lanes;
      cut = c.args.cut;
      puts = none i;
    }
