use Rattle.std.proofs.Common.{rules, ◌≡◌, ℕ, ◌+◌, ◌-◌, ◌≤◌, ◌∙◌, ◌++◌, List, length, take, drop}
use Rattle.std.proofs.Common.{refl, ap, arith, Option, Some, None}
use Rattle.std.specs.Prelude.{IfSome, slice_range}
use Rattle.std.proofs.lemmas.List.{take-take, take-append-le}
use Rattle.bolt_io.specs.Told.{Told, left}
use Rattle.bolt_io.specs.declared.whole.TheConstants.{MOST_BYTES}
use Rattle.text_lines.specs.declared.feed.FeedError.TheVariants.{Shelf, Memory}
use Rattle.text_lines.specs.Feed.{Feed}
use Rattle.text_lines.proofs.ReadingLemmas.{reads_untouched}
use Rattle.text_lines.proofs.line_feed.LineFeed.read_more.Goals as goal

pub returns-in_err-grow_block-clause-reads : goal.returns-in_err-grow_block-clause-reads
returns-in_err-grow_block-clause-reads g c =
    let same : c.self.inside.taken ≡ c.args.self.now.taken =
    ap (λ (f : Feed). f.taken) c.self.view_is in
    let most : c.args.self.now.taken ≤ MOST_BYTES = omega (arith, c.self.invariant.most) in
    let h =
    reads_untouched g.S.Shelf.told g.S.Shelf.opened g.S.Shelf.faults c.args.shelf.now
    c.args.shelf.now c.args.self.now.slot c.args.self.now.taken c.self.inside.taken
    (Some Memory) same most refl refl refl (omega arith) tt in
    search (rules, h)

pub returns-in_err-n-clause-reads : goal.returns-in_err-n-clause-reads
returns-in_err-n-clause-reads g c =
    let same : c.self.inside.taken ≡ c.args.self.now.taken =
    ap (λ (f : Feed). f.taken) c.self.view_is in
    let most : c.args.self.now.taken ≤ MOST_BYTES = omega (arith, c.self.invariant.most) in
    let e = c.in_err-n.ensures in
    let h =
    reads_untouched g.S.Shelf.told g.S.Shelf.opened g.S.Shelf.faults c.args.shelf.now
    c.read_at.new.shelf c.args.self.now.slot c.args.self.now.taken c.self.inside.taken
    (Some (Shelf c.in_err-n.field-0.0)) same most e.untouched e.opened e.blamed
    e.no_fewer_faults tt in
    search (rules, h)

-- what a block has in front after bytes were put behind those that were kept
more_bytes : (told : Option Told) (slot now n m : ℕ) (pending block old kept : List ℕ) → slot ≡ now
    → pending ≡ take (m + n) block → take m old ≡ kept
    → IfSome told (λ t. take (m + n) block ≡ take m old ++ take n (left t slot))
    → IfSome told (λ t. pending ≡ kept ++ take n (left t now))
more_bytes None slot now n m pending block old kept same is front bytes = tt
more_bytes (Some t) slot now n m pending block old kept same is front bytes =
    is ∙ bytes ∙ ap (λ (l : List ℕ). l ++ take n (left t slot)) front
    ∙ ap (λ (s : ℕ). kept ++ take n (left t s)) same

-- the first bytes of a list that was written over from its front on
written_front : (m len : ℕ) (new old : List ℕ) → m ≤ len → m ≤ length new
    → take m (take len (new ++ drop (length new) old)) ≡ take m new
written_front m len new old a b =
    take-take m len (new ++ drop (length new) old) a
    ∙ take-append-le m new (drop (length new) old) b

pub returns-clause-bytes : goal.returns-clause-bytes
returns-clause-bytes g c =
    let f = c.self.inside in
    let m = c.move_front-self-inside.result in
    let n = c.in_ok-n.n in
    let moved = c.move_front-self-inside.new.block in
    let grown = c.grow_block.new.block in
    let block = c.read_at.new.block in
    let value = c.deref_mut.ensures.value in
    let size : f.block.len ≡ length f.block.items = f.block.ok.0 in
    let same : length moved ≡ length f.block.items =
    c.move_front-self-inside.auto.block ∙ ap length value in
    let within : m ≤ length f.block.items =
    omega (arith, c.move_front-self-inside.ensures.less, c.self.invariant.ends) in
    let front : take m c.deref_mut-2.result.now ≡ take 257 c.args.self.now.pending =
    ap (take m) c.deref_mut-2.ensures.value
    ∙ c.in_ok-grow_block.ensures.front
    ∙ written_front m f.block.len moved f.block.items (omega arith) (omega arith)
    ∙ c.move_front-self-inside.ensures.front
    ∙ ap (λ (l : List ℕ). take 257 (slice_range l f.at f.end)) value
    ∙ ap (λ (x : Feed). take 257 x.pending) c.self.view_is in
    let slot : f.slot ≡ c.args.self.now.slot = ap (λ (x : Feed). x.slot) c.self.view_is in
    let whole : grown.len ≡ length grown.items = grown.ok.0 in
    let block_size : length block ≡ length grown.items =
    c.in_ok-n.ensures.size ∙ ap length c.deref_mut-2.ensures.value in
    let zero : m + n - 0 ≡ m + n = omega arith in
    let room : m + n ≤ length grown.items =
    omega (
      arith,
      c.in_ok-n.ensures.within,
      c.min-room.ensures,
      c.in_ok-grow_block.ensures.size,
      c.move_front-self-inside.ensures.short,
    ) in
    more_bytes (g.S.Shelf.told c.args.shelf.now) f.slot c.args.self.now.slot n m _ block
    c.deref_mut-2.result.now (take 257 c.args.self.now.pending) slot
    (ap (λ (k : ℕ). take k (take grown.len (block ++ drop (length block) grown.items))) zero
    ∙ written_front (m + n) grown.len block grown.items (omega arith) (omega arith)) front
    c.in_ok-n.ensures.bytes
