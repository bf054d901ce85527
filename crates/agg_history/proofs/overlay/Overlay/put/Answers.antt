use Rattle.std.proofs.Common.{◌<◌, ◌≡◌, [], ℕ, List, suc, refl, sym, ap, ◌∙◌, subst, length, get_or}
use Rattle.std.proofs.Common.{set, arith}
use Rattle.std.proofs.lemmas.List.{length-set, length-map, length_push}
use Rattle.std.proofs.lemmas.List.Elements.{All-set, All-get_or}
use Rattle.bolt_base.specs.Keep.{Entry}
use Rattle.agg_history.specs.Puts.{Round, PutTable, IsPutMore, round_at, with_put}
use Rattle.agg_history.specs.PutList.{ListedPuts}
use Rattle.agg_history.specs.Numbered.{AreNumbered}
use Rattle.agg_history.specs.Places.{PlaceTable, place_at}
use Rattle.agg_history.specs.OverlayOf.{vertices_in}
use Rattle.agg_history.proofs.PutLemmas.{put_found}
use Rattle.agg_history.proofs.OverlayLemmas.{puts_in, put_back, put_more, put_numbered}
use Rattle.agg_history.proofs.OverlayIs.{cut_is, lanes_is, vertices_is, puts_is, round_below}
use Rattle.agg_history.proofs.OverlayIs.{vertex_below, listed_is, new_place, put_room}
use Rattle.agg_history.proofs.overlay.Overlay.put.Goals as goal

-- the places' table and the puts are as they were
same_numbered : (table later : List (List ℕ)) (puts more : List Round) (i : ℕ) → later ≡ table
    → more ≡ puts
    → AreNumbered (λ v. place_at table v i) (length table) (vertices_in (round_at puts i))
    → AreNumbered (λ v. place_at later v i) (length later) (vertices_in (round_at more i))
same_numbered table later puts more i e f h =
    subst (λ t. AreNumbered (λ v. place_at t v i) (length t) (vertices_in (round_at more i)))
    (sym e) (subst (λ p.
    AreNumbered (λ v. place_at table v i) (length table) (vertices_in (round_at p i)))
    (sym f) h)

pub invariant_of-self : goal.invariant_of-self
invariant_of-self c = record {
  old = c.self.invariant.old;
  few = c.self.invariant.few;
  some = c.self.invariant.some;
  narrow = c.self.invariant.narrow;
  short = c.self.invariant.short;
  width = c.touch.ensures.width ∙ c.self.invariant.width;
  count = ap length c.touch.ensures.table ∙ c.self.invariant.count;
  rounds = c.self.invariant.rounds;
  wide = c.self.invariant.wide;
  numbered = λ i h.
      same_numbered c.self.inside.places.table c.touch.new.self.table
      (puts_in c.self.inside.rounds.items)
      (puts_in c.self.inside.rounds.items) i c.touch.ensures.table refl
      (c.self.invariant.numbered i h);
}

pub push-requires-clause-room : goal.push-requires-clause-room
push-requires-clause-room c =
    let listed = listed_is c.self.inside c.args.self.now c.self.view_is c.self.invariant c.args.i
    c.args.v c.requires.iteration c.requires.vertex c.index_mut-round.result.now in
    let here = ap (λ (list : ListedPuts). length list.puts) c.index_mut-round.ensures.value
    ∙ ap length listed in
    omega (
      arith,
      here,
      put_room c.self.inside c.args.self.now c.self.view_is c.self.invariant c.args.i c.args.v
          c.requires.iteration c.requires.vertex c.requires.once,
    )

pub invariant_of-self-in_err-push : goal.invariant_of-self-in_err-push
invariant_of-self-in_err-push c =
    let back = put_back c.self.inside.rounds.items c.args.i c.index_mut-round.result.now
    c.push.new.self c.index_mut-round.ensures.value c.in_err-push.ensures.err in
    record {
      old = c.self.invariant.old;
      few = c.self.invariant.few;
      some = c.self.invariant.some;
      narrow = c.self.invariant.narrow;
      short = c.self.invariant.short;
      width = c.touch.ensures.width ∙ c.self.invariant.width;
      count = ap length c.touch.ensures.table ∙ c.self.invariant.count;
      rounds = ap length back ∙ c.self.invariant.rounds;
      wide = rw back c.self.invariant.wide;
      numbered = λ i h.
          same_numbered c.self.inside.places.table c.touch.new.self.table
          (puts_in c.self.inside.rounds.items)
          (puts_in (set c.self.inside.rounds.items c.args.i c.push.new.self)) i
          c.touch.ensures.table (ap puts_in back) (c.self.invariant.numbered i h);
    }

pub invariant_of-self-2 : goal.invariant_of-self-2
invariant_of-self-2 c =
    let below = round_below c.self.inside c.args.self.now c.self.view_is c.self.invariant c.args.i
    c.args.v c.requires.iteration c.requires.vertex in
    let inside = vertex_below c.self.inside c.args.self.now c.self.view_is c.self.invariant c.args.i
    c.args.v c.requires.iteration c.requires.vertex in
    let listed = listed_is c.self.inside c.args.self.now c.self.view_is c.self.invariant c.args.i
    c.args.v c.requires.iteration c.requires.vertex c.index_mut-round.result.now in
    let entry : Entry = (c.args.agg, c.args.val) in
    let puts = puts_in c.self.inside.rounds.items in
    let pushed = c.in_ok-push.ensures.ok in
    let more = put_more c.self.inside.rounds.items c.args.i c.args.v entry
    c.index_mut-round.result.now c.push.new.self below c.index_mut-round.ensures.value pushed in
    let was : List (List ℕ) = c.self.inside.places.table in
    let table : c.set.new.self.table
    ≡ set was c.args.v (set (get_or was c.args.v []) c.args.i c.len-place.result) =
    ap (λ (t : PlaceTable). t.table) c.set.ensures.table
    ∙ ap (λ t. set t c.args.v (set (get_or t c.args.v []) c.args.i c.len-place.result))
    c.touch.ensures.table in
    let there : place_at
    (set was c.args.v (set (get_or was c.args.v []) c.args.i c.len-place.result)) c.args.v
    c.args.i ≡ c.len-place.result = ap (λ t. place_at t c.args.v c.args.i) (sym table)
    ∙ c.set.ensures.there in
    let new = new_place c.self.inside c.args.self.now c.self.view_is c.self.invariant c.args.i
    c.args.v c.requires.iteration c.requires.vertex c.requires.once in
    let here : round_at puts c.args.i ≡ c.index_mut-round.result.now.puts =
    ap (λ p. round_at p c.args.i)
    (puts_is c.self.inside c.args.self.now c.self.view_is c.self.invariant) ∙ sym listed
    ∙ ap (λ (list : ListedPuts). list.puts) (sym c.index_mut-round.ensures.value) in
    let last : c.len-place.result ≡ suc (length (round_at puts c.args.i)) =
    omega (
      arith,
      c.len-place.ensures,
      ap (λ (list : ListedPuts). length list.puts) pushed,
      length_push c.index_mut-round.result.now.puts (c.args.v, entry),
      ap length here,
    ) in
    record {
      old = c.self.invariant.old;
      few = c.self.invariant.few;
      some = c.self.invariant.some;
      narrow = c.self.invariant.narrow;
      short = c.self.invariant.short;
      width = ap (λ (t : PlaceTable). t.width) c.set.ensures.table ∙ c.touch.ensures.width
          ∙ c.self.invariant.width;
      count = ap length table
          ∙ length-set was c.args.v (set (get_or was c.args.v []) c.args.i c.len-place.result)
          ∙ c.self.invariant.count;
      rounds = length-set c.self.inside.rounds.items c.args.i c.push.new.self
          ∙ c.self.invariant.rounds;
      wide = All-set (λ (list : ListedPuts). list.lanes ≡ c.self.inside.lanes)
          c.self.inside.rounds.items c.args.i c.push.new.self
          (ap (λ (list : ListedPuts). list.lanes) pushed
          ∙ ap (λ (list : ListedPuts). list.lanes) c.index_mut-round.ensures.value
          ∙ All-get_or (λ (list : ListedPuts). list.lanes ≡ c.self.inside.lanes)
          c.self.inside.rounds.items c.args.i c.index_mut-round.result.now below
          c.self.invariant.wide)
          c.self.invariant.wide;
      numbered = λ i h.
          same_numbered (set was c.args.v
          (set (get_or was c.args.v []) c.args.i c.len-place.result)) c.set.new.self.table
          (with_put puts c.args.i c.args.v entry)
          (puts_in (set c.self.inside.rounds.items c.args.i c.push.new.self)) i table more
          (put_numbered was c.args.v c.args.i c.len-place.result inside puts entry
          (let e = length-map c.self.inside.rounds.items (λ (list : ListedPuts). list.puts) in
          omega arith) there new last i (c.self.invariant.numbered i h));
    }

pub returns-clause-ok : goal.returns-clause-ok
returns-clause-ok c =
    let below = round_below c.self.inside c.args.self.now c.self.view_is c.self.invariant c.args.i
    c.args.v c.requires.iteration c.requires.vertex in
    let more = put_more c.self.inside.rounds.items c.args.i c.args.v
    (c.args.agg, c.args.val) c.index_mut-round.result.now c.push.new.self below
    c.index_mut-round.ensures.value c.in_ok-push.ensures.ok in
    let puts = more ∙ ap (λ p. with_put p c.args.i c.args.v (c.args.agg, c.args.val))
    (puts_is c.self.inside c.args.self.now c.self.view_is c.self.invariant) in
    λ i. record {
      old_vertices = ap (λ (x : PutTable). x.old_vertices) c.self.view_is i;
      vertices = vertices_is c.self.inside c.args.self.now c.self.view_is c.self.invariant i;
      lanes = lanes_is c.self.inside c.args.self.now c.self.view_is c.self.invariant i;
      cut = cut_is c.self.inside c.args.self.now c.self.view_is c.self.invariant i;
      puts = puts i;
    }

pub returns-clause-found : goal.returns-clause-found
returns-clause-found c =
    let below = round_below c.self.inside c.args.self.now c.self.view_is c.self.invariant c.args.i
    c.args.v c.requires.iteration c.requires.vertex in
    let entry : Entry = (c.args.agg, c.args.val) in
    let more = put_more c.self.inside.rounds.items c.args.i c.args.v entry
    c.index_mut-round.result.now c.push.new.self below c.index_mut-round.ensures.value
    c.in_ok-push.ensures.ok in
    let same = puts_is c.self.inside c.args.self.now c.self.view_is c.self.invariant in
    let puts = more ∙ ap (λ p. with_put p c.args.i c.args.v entry) same in
    let long : c.args.i < length c.args.self.now.puts = omega (
      arith,
      below,
      ap length same,
      length-map c.self.inside.rounds.items (λ (list : ListedPuts). list.puts),
    ) in
    subst (IsPutMore c.args.self.now.puts c.args.i c.args.v entry) (sym puts)
    (put_found c.args.self.now.puts c.args.i c.args.v entry long c.requires.once)
