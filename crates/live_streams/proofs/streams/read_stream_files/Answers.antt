use Rattle.std.proofs.Common.{◌≡◌, ◌∙◌, ◌<◌, ◌+◌, ◌∷◌, [], List, ℕ, length, map, sym, ap}
use Rattle.std.proofs.Common.{subst, arith, length-append}
use Rattle.std.proofs.lemmas.List.{get_or-map, length-map}
use Rattle.std.proofs.lemmas.List.Elements.{All-append, All-cons, All-nil}
use Rattle.std.proofs.lemmas.Result.{err_from_is_err_and}
use Rattle.std.specs.List.{All}
use Rattle.graph_text.specs.StreamText.{batches}
use Rattle.live_course.specs.Made.{IsSound}
use Rattle.live_streams.proofs.FileLists.{one_more, say_more, stopped, unkept}
use Rattle.live_streams.proofs.streams.read_stream_files.Goals as goal

pub returns-in_err-batches-clause-reads : goal.returns-in_err-batches-clause-reads
returns-in_err-batches-clause-reads g c =
    let p = err_from_is_err_and c.from_residual.result c.from_residual.ensures.1 in
    let names : List (List ℕ) = map (λ n. n.now) c.args.names.now in
    let size : length c.args.names.now ≡ length names = sym
    (length-map c.args.names.now (λ n. n.now)) in
    let below : c.loop-name.name-index < length names = omega
    (arith, size, c.loop-name-test.true) in
    rw (p.1, p.2)
    (stopped names (g.S.Shelf.told c.args.shelf.now) (g.S.Shelf.opened c.args.shelf.now)
    c.loop-name.name-index _ below
    (get_or-map (λ n. n.now) c.args.names.now c.loop-name.name-index _ [] c.loop-name-test.true)
    (g.S.Shelf.told c.loop-name.shelf) (g.S.Shelf.told c.read_stream.new.shelf)
    (g.S.Shelf.opened c.loop-name.shelf) (g.S.Shelf.opened c.read_stream.new.shelf)
    c.loop-name.invariant.reads (length c.args.names.now) c.in_err-batches.field-0.0 size
    c.in_err-batches.ensures.reads)

pub returns-in_err-push-clause-reads : goal.returns-in_err-push-clause-reads
returns-in_err-push-clause-reads g c =
    let p =
    err_from_is_err_and c.from_residual-in_err-push.result c.from_residual-in_err-push.ensures.1 in
    let names : List (List ℕ) = map (λ n. n.now) c.args.names.now in
    let size : length c.args.names.now ≡ length names = sym
    (length-map c.args.names.now (λ n. n.now)) in
    let below : c.loop-name.name-index < length names = omega
    (arith, size, c.loop-name-test.true) in
    rw (p.1, p.2)
    (unkept names (g.S.Shelf.told c.args.shelf.now) (g.S.Shelf.opened c.args.shelf.now)
    c.loop-name.name-index _ below
    (get_or-map (λ n. n.now) c.args.names.now c.loop-name.name-index _ [] c.loop-name-test.true)
    (g.S.Shelf.told c.loop-name.shelf) (g.S.Shelf.told c.read_stream.new.shelf)
    (g.S.Shelf.opened c.loop-name.shelf) (g.S.Shelf.opened c.read_stream.new.shelf)
    c.loop-name.invariant.reads (length c.args.names.now) c.in_ok-batches.batches size
    c.in_ok-batches.ensures.reads)

pub loop-name-preserved : goal.loop-name-preserved
loop-name-preserved g c =
    let names : List (List ℕ) = map (λ n. n.now) c.args.names.now in
    let size : length c.args.names.now ≡ length names = sym
    (length-map c.args.names.now (λ n. n.now)) in
    let below : c.loop-name.name-index < length names = omega
    (arith, size, c.loop-name-test.true) in
    let reads = c.loop-name.invariant.reads in
    record {
      says =
          say_more batches names c.loop-name.name-index _
          (g.S.Shelf.told c.args.shelf.now) (g.S.Shelf.told c.loop-name.shelf) reads.more
          c.loop-name.all c.push.new.self c.in_ok-batches.batches below
          (get_or-map (λ n. n.now) c.args.names.now c.loop-name.name-index _ []
          c.loop-name-test.true)
          reads.told c.loop-name.invariant.says c.in_ok-batches.ensures.batches
          c.in_ok-push.ensures.ok;
      sound = subst (All (All IsSound)) (sym c.in_ok-push.ensures.ok)
          (All-append (All IsSound) c.loop-name.all (c.in_ok-batches.batches ∷ [])
          c.loop-name.invariant.sound
          (All-cons (All IsSound) c.in_ok-batches.batches [] c.in_ok-batches.ensures.sound
          (All-nil (All IsSound))));
      count = ap length c.in_ok-push.ensures.ok ∙ length-append c.loop-name.all _
          ∙ ap (λ n. n + 1) c.loop-name.invariant.count;
      reads =
          one_more names (g.S.Shelf.told c.args.shelf.now) (g.S.Shelf.opened c.args.shelf.now)
          c.loop-name.name-index _ below
          (get_or-map (λ n. n.now) c.args.names.now c.loop-name.name-index _ []
          c.loop-name-test.true)
          (g.S.Shelf.told c.loop-name.shelf) (g.S.Shelf.told c.read_stream.new.shelf)
          (g.S.Shelf.opened c.loop-name.shelf) (g.S.Shelf.opened c.read_stream.new.shelf) reads
          c.in_ok-batches.batches c.in_ok-batches.ensures.reads;
      calm = c.in_ok-batches.ensures.cause ∙ c.loop-name.invariant.calm;
    }
