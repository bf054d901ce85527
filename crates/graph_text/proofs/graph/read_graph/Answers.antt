use Rattle.std.proofs.Common.{◌≡◌, ◌-◌, ◌<◌, Err, sym, subst, refl, arith}
use Rattle.std.proofs.Common.{rules, ℕ, [], length, Option, Some, None, Result}
use Rattle.std.specs.Prelude.{IfSome}
use Rattle.bolt_base.specs.Graph.{Graph, IsGood}
use Rattle.bolt_base.specs.declared.limits.Limits.{Limits}
use Rattle.bolt_io.specs.declared.whole.TheConstants.{MOST_BYTES}
use Rattle.bolt_io.specs.Told.{Told, left}
use Rattle.bolt_io.proofs.TakenLemmas.{slot_told}
use Rattle.text_lines.specs.Feed.{Feed, fresh_feed, readable}
use Rattle.text_lines.specs.Reading.{FeedReads, ReadsSlot}
use Rattle.text_lines.specs.declared.feed.FeedError.{FeedError}
use Rattle.text_lines.proofs.FeedLemmas.{taken_all}
use Rattle.graph_text.specs.GraphText.{Draft, blank, graph_of}
use Rattle.graph_text.specs.Refusals.{ReadsAsFar, ReadsGraph, stopped_by}
use Rattle.graph_text.specs.declared.graph.GraphRefusal.{GraphRefusal}
use Rattle.graph_text.specs.declared.graph.GraphRefusal.TheVariants.{Memory}
use Rattle.graph_text.proofs.ReadLemmas.{ReadsFresh, StopsFresh, graph_read, graph_bad, as_far}
use Rattle.graph_text.proofs.ReadLemmas.{no_further, line_then}
use Rattle.graph_text.specs.ReadCode.{ReadsGoodLines}
use Rattle.graph_text.specs.DraftCode.{draft_of}
use Rattle.graph_text.specs.DraftGood.{IsSound}
use Rattle.graph_text.proofs.SoundLemmas.{sound_none, good_complete}
use Rattle.graph_text.proofs.graph.read_graph.Given.{Over}
use Rattle.graph_text.proofs.graph.read_graph.Goals as goal
use Rattle.graph_text.proofs.graph.read_graph.Goals.{After-read_lines}

pub returns-clause-good : goal.returns-clause-good
returns-clause-good g c = λ inside.
    let l = c.args.limits.now in
    let d = draft_of c.read_lines.new.draft in
    let none : IsSound l (draft_of c.new-draft.result) =
    subst (IsSound l) (sym c.new-draft.ensures) (sound_none l _ refl refl (λ v. refl) refl) in
    let sound : IsSound l d = c.in_ok-read_lines.ensures.made none in
    subst (IsGood l) (sym c.in_ok-graph.ensures) (good_complete l d inside sound)

pub returns-clause-graph : goal.returns-clause-graph
returns-clause-graph g c =
    graph_read c.args.limits.now (g.S.Shelf.told c.args.shelf.now) c.args.slot c.new-feed.result
    c.new-feed.ensures (draft_of c.new-draft.result) c.new-draft.ensures
    (draft_of c.read_lines.new.draft) _ c.in_ok-graph.ensures c.in_ok-read_lines.ensures.read

pub returns-in_err-read_lines-clause-line : goal.returns-in_err-read_lines-clause-line
returns-in_err-read_lines-clause-line g c =
    let h =
    line_then c.in_err-read_lines.field-0.0 _
    (λ number cause. IfSome (g.S.Shelf.told c.args.shelf.now)
    (λ t. graph_of c.args.limits.now (readable t c.args.slot)
    ≡ Err (record { line = number; cause = cause })))
    (λ number cause. graph_bad c.args.limits.now (g.S.Shelf.told c.args.shelf.now) c.args.slot
    c.new-feed.result c.new-feed.ensures (draft_of c.new-draft.result) c.new-draft.ensures
    (record { line = number; cause = cause })) c.in_err-read_lines.ensures.bad in
    search (rules, h)

-- all was taken, which is fewer than the most
all_taken : (start : Option Told) (slot n m : ℕ) → m ≡ n → n < MOST_BYTES
    → IfSome start (λ t. length (left t slot) ≡ m)
    → IfSome start (λ t. (n ≡ length (left t slot)) × (n < MOST_BYTES))
all_taken None slot n m same few all = tt
all_taken (Some t) slot n m same few all = (omega arith, few)

few_starved : (l : Limits) (start : Option Told) (slot n : ℕ) → n < MOST_BYTES
    → IfSome start (ReadsAsFar l slot n (let r : Result Graph GraphRefusal = Err Memory in r))
few_starved l None slot n few = tt
few_starved l (Some t) slot n few = λ full. absurd (omega arith)

-- what was read is what a fresh feed reads
module _ (g : Over) (c : After-read_lines g) where
  below : IfSome (g.S.Shelf.told c.args.shelf.now) (λ t. c.args.slot < length t.slots)
  below =
      slot_told (g.S.Shelf.told c.args.shelf.now) (g.S.Shelf.opened c.args.shelf.now) c.args.slot
      (g.met.S.Shelf.tells_slots c.args.shelf.now) c.requires.slot

  fresh : (error : Option FeedError)
      → FeedReads g.S.Shelf.told g.S.Shelf.opened g.S.Shelf.faults c.args.shelf.now
      c.read_lines.new.shelf c.new-feed.result c.read_lines.new.feed error
      → ReadsGoodLines c.args.limits.now (g.S.Shelf.told c.args.shelf.now)
      (g.S.Shelf.told c.read_lines.new.shelf) c.new-feed.result c.read_lines.new.feed
      (draft_of c.new-draft.result)
      → ReadsFresh c.args.limits.now (g.S.Shelf.told c.args.shelf.now)
      (g.S.Shelf.told c.read_lines.new.shelf) (fresh_feed c.args.slot) c.read_lines.new.feed blank
  fresh error reads far =
      let l = c.args.limits.now in
      let start = g.S.Shelf.told c.args.shelf.now in
      let told = g.S.Shelf.told c.read_lines.new.shelf in
      let h = c.read_lines.new.feed in
      subst (λ (x : Feed). ReadsFresh l start told x h blank) c.new-feed.ensures
      (subst (λ (y : Draft). ReadsFresh l start told c.new-feed.result h y) c.new-draft.ensures
      (record {
        takes = reads.reads.takes;
        most = reads.reads.most;
        slot = reads.slot;
        held = reads.held;
        far = far;
      }))

pub returns-in_err-read_lines-clause-reads : goal.returns-in_err-read_lines-clause-reads
returns-in_err-read_lines-clause-reads g c =
    let at = goal.at.returns-in_err-read_lines-clause-reads g c in
    let l = c.args.limits.now in
    let start = g.S.Shelf.told c.args.shelf.now in
    let told = g.S.Shelf.told c.read_lines.new.shelf in
    let f = c.new-feed.result in
    let h = c.read_lines.new.feed in
    let there = below g at.After-read_lines in
    let e = c.in_err-read_lines.ensures in
    let refusal = c.in_err-read_lines.field-0.0 in
    let read = fresh g at.After-read_lines _ e.reads e.far in
    let stops : StopsFresh l start told (fresh_feed c.args.slot) h blank refusal =
    subst (λ (x : Feed). StopsFresh l start told x h blank refusal) c.new-feed.ensures
    (subst (λ (y : Draft). StopsFresh l start told f h y refusal) c.new-draft.ensures
    (record {
      stops = e.reads.stops;
      front = e.front;
      good = e.good;
      early = e.early;
      no_lines = e.no_lines;
    })) in
    let r : Result Graph GraphRefusal = Err refusal in
    let reads : ReadsSlot g.S.Shelf.told g.S.Shelf.opened g.S.Shelf.faults c.args.shelf.now
    c.read_lines.new.shelf c.args.slot 0 h.taken (stopped_by r) = subst
    (λ (x : Feed). ReadsSlot g.S.Shelf.told g.S.Shelf.opened g.S.Shelf.faults c.args.shelf.now
    c.read_lines.new.shelf x.slot x.taken h.taken (stopped_by r)) c.new-feed.ensures
    e.reads.reads in
    let k : ReadsGraph g.S.Shelf.told g.S.Shelf.opened g.S.Shelf.faults c.args.shelf.now
    c.read_lines.new.shelf l c.args.slot r = record {
      taken = h.taken;
      reads = reads;
      as_far = as_far l start told c.args.slot h refusal there read stops;
      no_further = no_further l start told c.args.slot h there read;
    } in
    search (rules, k)

pub returns-in_err-graph-clause-reads : goal.returns-in_err-graph-clause-reads
returns-in_err-graph-clause-reads g c =
    let at = goal.at.returns-in_err-graph-clause-reads g c in
    let l = c.args.limits.now in
    let start = g.S.Shelf.told c.args.shelf.now in
    let told = g.S.Shelf.told c.read_lines.new.shelf in
    let h = c.read_lines.new.feed in
    let there = below g at.After-read_lines in
    let e = c.in_ok-read_lines.ensures in
    let read = fresh g at.After-read_lines None e.reads e.far in
    let r : Result Graph GraphRefusal = Err Memory in
    let reads =
    subst (λ (x : Feed). ReadsSlot g.S.Shelf.told g.S.Shelf.opened g.S.Shelf.faults c.args.shelf.now
    c.read_lines.new.shelf x.slot x.taken h.taken None) c.new-feed.ensures e.reads.reads in
    let k : ReadsGraph g.S.Shelf.told g.S.Shelf.opened g.S.Shelf.faults c.args.shelf.now
    c.read_lines.new.shelf l c.args.slot r = record {
      taken = h.taken;
      reads =
          record {
            takes = reads.takes;
            later = reads.later;
            most = reads.most;
            slots = reads.slots;
            blames = reads.blames;
            no_fewer_faults = reads.no_fewer_faults;
            turns = tt;
          };
      as_far = few_starved l start c.args.slot h.taken e.fewer;
      no_further = no_further l start told c.args.slot h there read;
    } in
    search (rules, k)

pub returns-clause-reads : goal.returns-clause-reads
returns-clause-reads g c =
    let at = goal.at.returns-clause-reads g c in
    let l = c.args.limits.now in
    let start = g.S.Shelf.told c.args.shelf.now in
    let told = g.S.Shelf.told c.read_lines.new.shelf in
    let h = c.read_lines.new.feed in
    let there = below g at.After-read_lines in
    let e = c.in_ok-read_lines.ensures in
    let read = fresh g at.After-read_lines None e.reads e.far in
    let reads =
    subst (λ (x : Feed). ReadsSlot g.S.Shelf.told g.S.Shelf.opened g.S.Shelf.faults c.args.shelf.now
    c.read_lines.new.shelf x.slot x.taken h.taken None) c.new-feed.ensures e.reads.reads in
    let same : h.slot ≡ c.args.slot = read.slot in
    let ended = subst (λ (s : ℕ). IfSome told (λ t. left t s ≡ [])) same e.end.1 in
    record {
      taken = h.taken;
      reads = reads;
      as_far =
          all_taken start c.args.slot h.taken (h.taken - 0) (omega arith) e.fewer
          (taken_all start told c.args.slot (h.taken - 0) there reads.takes ended);
      no_further = no_further l start told c.args.slot h there read;
    }
