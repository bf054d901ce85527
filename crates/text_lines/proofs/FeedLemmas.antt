-- What stands ahead of a feed.
use Rattle.std.proofs.Common.{◌≡◌, ℕ, suc, ◌+◌, ◌-◌, ◌<◌, ◌≤◌, inl, inr, min, List, [], ◌∷◌}
use Rattle.std.proofs.Common.{◌++◌, length, get_or, take, drop, All, refl, sym, ◌∙◌, ap, subst}
use Rattle.std.proofs.Common.{arith, length-drop, append_assoc, Bool, true, false, Option, Some}
use Rattle.std.proofs.Common.{None}
use Rattle.std.specs.Prelude.{slice_range, nat_lt, IfSome}
use Rattle.std.proofs.lemmas.List.{take-take, take_all, length-take, length-take-le}
use Rattle.std.proofs.Common.{take-add}
use Rattle.std.proofs.lemmas.Bool.Decides.{nat_tests}
use borrow.Rule.Slice.PartMut.{put_mid}
use Rattle.std.specs.Option.{option_map}
use Rattle.std.proofs.lemmas.List.{append-nil, drop_all, drop-take, drop-drop}
use Rattle.std.proofs.lemmas.List.Elements.{All-take}
use Rattle.std.proofs.Math.ListN.{length-set}
use Rattle.bolt_io.specs.declared.whole.TheConstants.{MOST_BYTES}
use Rattle.bolt_io.specs.Told.{Told, left, taken_from, GivesNext}
use Rattle.bolt_io.proofs.TakenLemmas.{taken_from-none, taken_from-twice, left-taken_from}
use Rattle.bolt_io.proofs.TakenLemmas.{filled_front}
use Rattle.std.specs.List.{copy_within, prefix_len}
use Rattle.std.proofs.lemmas.List.Edits.{take-paste}
use Rattle.lexical.specs.Bytes.{is_line_feed, is_no_line_feed, without_carriage_return}
use Rattle.text_lines.specs.Lines.{seen, seen_lines, seen_ended_lines, after_lines}
use Rattle.text_lines.specs.Feed.{Feed, rest, rest_within, ahead, ended_ahead, ended_within}
use Rattle.text_lines.specs.Feed.{bytes_after, answered, NeedsMore, MeetsLimit, IsStuck, IsAtEnd}
use Rattle.text_lines.specs.Feed.{Advances, IsFront, IsLastLine, EndsLine}
use Rattle.text_lines.specs.Reading.{IsSpent}
use Rattle.lexical.proofs.Splitting.{none_before, passes_next}
use Rattle.text_lines.proofs.LineLemmas.{lines_front, ended_front, lines_last, ended_none}
use Rattle.text_lines.proofs.LineLemmas.{lines-kept_front, ended-kept_front, after_front}
use Rattle.text_lines.proofs.LineLemmas.{after-kept_front, after_none, after_last}

-- the bytes of a block from a place on, moved to its front
pub front_moved : (block new : List ℕ) (at end n : ℕ) → at ≤ end → end ≤ length block
    → n ≡ min (end - at) 257 → new ≡ copy_within block at (at + n) 0
    → take n new ≡ take 257 (slice_range block at end)
front_moved block new at end n begins within is after =
    let m = at + n - at in
    let same : m ≡ n = omega arith in
    let size : m ≤ length (drop at block) = omega (arith, length-drop at block) in
    let moved : take (0 + m) new ≡ take m (drop at block) =
    ap (take (0 + m)) after ∙ take-paste block 0 (drop at block) m (omega arith) size in
    let zero_front : 0 + m ≡ n = omega arith in
    ap (λ (k : ℕ). take k new) (sym zero_front) ∙ moved
    ∙ ap (λ (k : ℕ). take k (drop at block)) same ∙ cut_front (drop at block) (end - at) n is
  where
    cut_front : (xs : List ℕ) (len n : ℕ) → n ≡ min len 257 → take n xs ≡ take 257 (take len xs)
    cut_front xs len n is = pick (nat_lt len 257) refl
      where
        pick : (b : Bool) → nat_lt len 257 ≡ b → take n xs ≡ take 257 (take len xs)
        pick true lt =
            let less : len < 257 = grind (arith, nat_tests) in
            let e : n ≡ len = omega arith in
            ap (λ (k : ℕ). take k xs) e
            ∙ sym (take_all 257 (take len xs) (omega (arith, length-take len xs)))
        pick false lt =
            let more : 257 ≤ len = grind (arith, nat_tests) in
            let e : n ≡ 257 = omega arith in
            ap (λ (k : ℕ). take k xs) e ∙ sym (take-take 257 len xs more)

-- what a read put into a part of a block
pub read_in : (told : Option Told) (slot at k n : ℕ) (block buf : List ℕ) → at ≤ length block
    → n ≤ length buf → IfSome told (λ t. GivesNext (left t slot) n buf)
    → IfSome told (λ t. take (at + n) (put_mid at k block buf)
    ≡ take at block ++ take n (left t slot))
read_in None slot at k n block buf inside within gives = tt
read_in (Some t) slot at k n block buf inside within gives =
    filled_front block buf at k n inside within
    ∙ ap (λ (l : List ℕ). take at block ++ l) gives.bytes

is_ten : (b : ℕ) → is_line_feed b ≡ true → b ≡ 10
is_ten b is = grind (arith, nat_tests)

-- an LF in a text ends a line
pub ends_line : (text : List ℕ) (end len : ℕ) → end ≡ prefix_len is_no_line_feed text
    → end < length text → len ≤ end → take len (take end text)
    ≡ without_carriage_return (take end text) → EndsLine text len (end + 1)
ends_line text end len is less inside line =
    let back : end + 1 - 1 ≡ end = omega arith in
    let short : take len (take end text) ≡ take len text = take-take len end text inside in
    let before : All (λ b. is_line_feed b ≡ false) (take end text) =
    subst (λ (k : ℕ). All (λ b. is_line_feed b ≡ false) (take k text)) (sym is)
    (none_before is_line_feed text) in
    let here : is_line_feed (get_or text end 0) ≡ true =
    ap (λ (k : ℕ). is_line_feed (get_or text k 0)) is
    ∙ passes_next is_line_feed text (omega arith) in
    record {
      some = omega arith;
      within = omega arith;
      inside = omega arith;
      none_before =
          subst (λ (k : ℕ). All (λ b. is_line_feed b ≡ false) (take k text)) (sym back) before;
      here = ap (λ (k : ℕ). get_or text k 0) back ∙ is_ten (get_or text end 0) here;
      line = sym short ∙ line ∙ ap (λ (k : ℕ). without_carriage_return (take k text)) (sym back);
    }

-- no LF in a text
pub no_end : (text : List ℕ) → prefix_len is_no_line_feed text ≡ length text
    → All (λ b. is_line_feed b ≡ false) text
no_end text is =
    subst (λ (l : List ℕ). All (λ b. is_line_feed b ≡ false) l)
    (take_all (prefix_len is_no_line_feed text) text (omega arith))
    (none_before is_line_feed text)

-- where a line ends, one does
pub needs_none : (bytes : List ℕ) (len whole : ℕ) → EndsLine bytes len whole
    → All (λ b. is_line_feed b ≡ false) bytes → ⊥
needs_none bytes len whole ends none =
    let some = ends.some in
    let within = ends.within in
    let off : is_line_feed (get_or bytes (whole - 1) 0) ≡ false =
    none (whole - 1) 0 (omega arith) in
    let on : get_or bytes (whole - 1) 0 ≡ 10 = ends.here in
    no_ten _ on off
  where
    no_ten : (b : ℕ) → b ≡ 10 → is_line_feed b ≡ false → ⊥
    no_ten b e off = grind (arith, nat_tests)

-- a line in front is had without another read than the last that may be
pub front_unspent : (told : Option Told) (f : Feed) (len whole : ℕ) → IsFront told f len whole
    → ¬ IsSpent f
front_unspent told f len whole (inl ends) = λ spent. needs_none f.pending len whole ends spent.none
front_unspent told f len whole (inr last) =
    λ spent. let few = last.fewer in let all = spent.all in omega arith

-- how far a line in front goes
pub front_some : (told : Option Told) (f : Feed) (len whole : ℕ) → IsFront told f len whole
    → 0 < whole
front_some told f len whole (inl ends) = ends.some
front_some told f len whole (inr last) = last.some

pub front_within : (told : Option Told) (f : Feed) (len whole : ℕ) → IsFront told f len whole
    → whole ≤ length f.pending
front_within told f len whole (inl ends) = ends.within
front_within told f len whole (inr last) = let all = last.all in omega arith

pub front_inside : (told : Option Told) (f : Feed) (len whole : ℕ) → IsFront told f len whole
    → len ≤ length f.pending
front_inside told f len whole (inl ends) = let a = ends.inside in let b = ends.within in omega arith
front_inside told f len whole (inr last) = let a = last.bare in let b = last.all in omega arith

module _ (t : Told) (slot n : ℕ) (below : slot < length t.slots) where
  -- what was taken stands before what is left; k bytes more may be taken then, where m could be
  -- before
  taken_then : (m k : ℕ) → m ≡ n + k → (xs : List ℕ)
      → (xs ++ take n (left t slot)) ++ take k (left (taken_from slot n t) slot)
      ≡ xs ++ take m (left t slot)
  taken_then m k count xs =
      ap (λ (l : List ℕ). (xs ++ take n (left t slot)) ++ take k l)
      (left-taken_from slot t n 0 below)
      ∙ append_assoc xs (take n (left t slot)) (take k (drop n (left t slot)))
      ∙ ap (λ (l : List ℕ). xs ++ l)
      (sym (take-add n k (left t slot)) ∙ ap (λ (j : ℕ). take j (left t slot)) (sym count))

-- what counts of the bytes ahead stays where of a line that has no end yet only the front is kept
module _ {X : Type 0} (count : List ℕ → X)
    (cut : (bytes more : List ℕ) → All (λ b. is_line_feed b ≡ false) bytes
    → count (take 257 bytes ++ more) ≡ count (bytes ++ more)) (most : ℕ) where
  abbrev counted : Option Told → Feed → Option X
  counted told f = option_map (λ t. count (rest_within most t f)) told

  counted_read : (old new : Option Told) (f g : Feed) → NeedsMore f → g.slot ≡ f.slot
      → f.taken ≤ g.taken → g.taken ≤ most → Advances old new f.slot (g.taken - f.taken)
      → IfSome old (λ t. f.slot < length t.slots)
      → IfSome old (λ t. g.pending ≡ take 257 f.pending ++ take (g.taken - f.taken) (left t f.slot))
      → counted new g ≡ counted old f
  counted_read None new f g none same later few reads below bytes =
      ap (λ (o : Option Told). counted o g) reads.told
  counted_read (Some t) new f g none same later few reads below bytes =
      let n = g.taken - f.taken in
      let k = most - g.taken in
      ap (λ (o : Option Told). counted o g) reads.told
      ∙ ap (λ (s : ℕ). Some (count (g.pending ++ take k (left (taken_from f.slot n t) s)))) same
      ∙ ap (λ (l : List ℕ). Some (count (l ++ take k (left (taken_from f.slot n t) f.slot)))) bytes
      ∙ ap (λ (l : List ℕ). Some (count l))
      (taken_then t f.slot n below (most - f.taken) k (omega arith) (take 257 f.pending))
      ∙ ap (λ (x : X). Some x) (cut f.pending (take (most - f.taken) (left t f.slot)) none)

  counted_kept : (told : Option Told) (f : Feed) → NeedsMore f
      → counted told (record f { pending = take 257 f.pending }) ≡ counted told f
  counted_kept None f none = refl
  counted_kept (Some t) f none =
      ap (λ (x : X). Some x) (cut f.pending (take (most - f.taken) (left t f.slot)) none)

-- a read that ends no line leaves what is ahead
module _ (old new : Option Told) (f g : Feed) (none : NeedsMore f) (same : g.slot ≡ f.slot)
    (later : f.taken ≤ g.taken) (reads : Advances old new f.slot (g.taken - f.taken))
    (below : IfSome old (λ t. f.slot < length t.slots))
    (bytes : IfSome old (λ t. g.pending
    ≡ take 257 f.pending ++ take (g.taken - f.taken) (left t f.slot))) where
  pub ahead_read : g.taken ≤ MOST_BYTES → ahead new g ≡ ahead old f
  ahead_read few =
      counted_read seen_lines lines-kept_front MOST_BYTES old new f g none same later few reads
      below bytes

  pub ended_read : (most : ℕ) → g.taken ≤ most → ended_within most new g ≡ ended_within most old f
  ended_read most few =
      counted_read seen_ended_lines ended-kept_front most old new f g none same later few reads
      below bytes

  pub after_read : g.taken ≤ MOST_BYTES → (n : ℕ)
      → bytes_after (suc n) new g ≡ bytes_after (suc n) old f
  after_read few n =
      counted_read (after_lines (suc n)) (after-kept_front n) MOST_BYTES old new f g none same later
      few reads below bytes

-- and so does one that fails
module _ (old new : Option Told) (f g : Feed) (none : NeedsMore f) (untouched : new ≡ old)
    (kept : g ≡ record f { pending = take 257 f.pending }) where
  kept_by : {X : Type 0} (count : List ℕ → X)
      (cut : (bytes more : List ℕ) → All (λ b. is_line_feed b ≡ false) bytes
      → count (take 257 bytes ++ more) ≡ count (bytes ++ more)) (most : ℕ)
      → option_map (λ t. count (rest_within most t g)) new
      ≡ option_map (λ t. count (rest_within most t f)) old
  kept_by count cut most =
      ap (λ (o : Option Told). option_map (λ t. count (rest_within most t g)) o) untouched
      ∙ ap (λ (x : Feed). option_map (λ t. count (rest_within most t x)) old) kept
      ∙ counted_kept count cut most old f none

  pub ahead_kept : ahead new g ≡ ahead old f
  ahead_kept = kept_by seen_lines lines-kept_front MOST_BYTES

  pub ended_kept : (most : ℕ) → ended_within most new g ≡ ended_within most old f
  ended_kept most = kept_by seen_ended_lines ended-kept_front most

  pub after_kept : (n : ℕ) → bytes_after (suc n) new g ≡ bytes_after (suc n) old f
  after_kept n = kept_by (after_lines (suc n)) (after-kept_front n) MOST_BYTES

-- before the first read
pub Advances-none : (told : Option Told) (slot n : ℕ) → n ≡ 0 → Advances told told slot n
Advances-none None slot n e = record { told = refl; within = tt }
Advances-none (Some t) slot n e = record {
  told =
      ap (λ (x : Told). Some x) (sym (taken_from-none slot t))
      ∙ ap (λ (k : ℕ). Some (taken_from slot k t)) (sym e);
  within = omega arith;
}

-- bytes more
pub Advances-more : (a b c : Option Told) (slot m n k : ℕ) → IfSome a (λ t. slot < length t.slots)
    → Advances a b slot m → Advances b c slot n → k ≡ m + n → Advances a c slot k
Advances-more None b c slot m n k below so_far more e =
    record { told = more.told ∙ ap (option_map (taken_from slot n)) so_far.told; within = tt }
Advances-more (Some t) b c slot m n k below so_far more e =
    let mid = taken_from slot m t in
    let P : Option Told → Type 0 = λ o. IfSome o (λ x. n ≤ length (left x slot)) in
    let now : n ≤ length (left mid slot) = subst P so_far.told more.within in
    let size : length (left mid slot) ≡ length (left t slot) - m =
    ap length (left-taken_from slot t m 0 below) ∙ length-drop m (left t slot) in
    let all : m ≤ length (left t slot) = so_far.within in
    record {
      told =
          more.told ∙ ap (option_map (taken_from slot n)) so_far.told
          ∙ ap (λ (x : Told). Some x) (taken_from-twice slot t m n below)
          ∙ ap (λ (j : ℕ). Some (taken_from slot j t)) (sym e);
      within = omega arith;
    }

-- what was taken before a call and in it
pub Advances-on : (a b c : Option Told) (slot first before after : ℕ)
    → IfSome a (λ t. slot < length t.slots) → Advances a b slot (before - first) → first ≤ before
    → (now : ℕ) → now ≡ slot → Advances b c now (after - before) → before ≤ after
    → Advances a c slot (after - first)
Advances-on a b c slot first before after below so_far early now same more late =
    Advances-more a b c slot (before - first) (after - before) (after - first) below so_far
    (subst (λ (s : ℕ). Advances b c s (after - before)) same more) (omega arith)

-- a slot that was opened stays one
pub below_later : (a b : Option Told) (slot n : ℕ) → Advances a b slot n
    → IfSome a (λ t. slot < length t.slots) → IfSome b (λ t. slot < length t.slots)
below_later None b slot n so_far below =
    subst (λ (o : Option Told). IfSome o (λ t. slot < length t.slots)) (sym so_far.told) tt
below_later (Some t) b slot n so_far below =
    subst (λ (o : Option Told). IfSome o (λ x. slot < length x.slots)) (sym so_far.told)
    (subst (λ (k : ℕ). slot < k) (sym (length-set t.slots slot _)) below)

-- nothing more is left in a slot that was at its end
pub still_ended : (old new : Option Told) (slot now n : ℕ) → now ≡ slot → Advances old new slot n
    → IfSome old (λ t. slot < length t.slots) → IfSome old (λ t. left t slot ≡ [])
    → IfSome new (λ t. left t now ≡ [])
still_ended None new slot now n same moved below end =
    subst (λ (o : Option Told). IfSome o (λ t. left t now ≡ [])) (sym moved.told) tt
still_ended (Some t) new slot now n same moved below end =
    let nothing : left (taken_from slot n t) now ≡ [] =
    ap (λ (s : ℕ). left (taken_from slot n t) s) same ∙ left-taken_from slot t n 0 below
    ∙ ap (drop n) end ∙ drop_all n [] (omega arith) in
    subst (λ (o : Option Told). IfSome o (λ x. left x now ≡ [])) (sym moved.told) nothing

-- the last line
pub last_found : (old new : Option Told) (f g : Feed) (len whole : ℕ) → NeedsMore f
    → g.slot ≡ f.slot → g.taken ≡ f.taken → f.taken < MOST_BYTES
    → Advances old new f.slot (g.taken - f.taken)
    → IfSome old (λ t. f.slot < length t.slots) → g.pending ≡ take 257 f.pending
    → IfSome old (λ t. left t f.slot ≡ []) → 0 < whole → len ≡ whole → whole ≡ length g.pending
    → IsLastLine new g len whole
last_found old new f g len whole none same taken few moved below pending end some bare all =
    record {
      some = some;
      bare = bare;
      all = all;
      none =
          subst (λ (l : List ℕ). All (λ b. is_line_feed b ≡ false) l) (sym pending)
          (All-take (λ b. is_line_feed b ≡ false) 257 f.pending none);
      fewer = omega arith;
      ended = still_ended old new f.slot g.slot (g.taken - f.taken) same moved below end;
    }

-- a line that was answered leaves the bytes behind it
pub answered_is : (block : List ℕ) (at end whole : ℕ) → whole ≤ end - at
    → slice_range block (at + whole) end ≡ drop whole (slice_range block at end)
answered_is block at end whole within =
    let rest = end - (at + whole) in
    let size : end - at ≡ whole + rest = omega arith in
    sym (ap (λ (k : ℕ). drop whole (take k (drop at block))) size
    ∙ drop-take whole rest (drop at block) ∙ ap (take rest) (drop-drop whole at block))

pub length_pending : (block : List ℕ) (at end : ℕ) → end ≤ length block
    → length (slice_range block at end) ≡ end - at
length_pending block at end within =
    length-take-le (end - at) (drop at block) (omega (arith, length-drop at block))

-- where a slot is at its end, no byte more may be taken from it
none_left : (t : Told) (f : Feed) (most : ℕ) → left t f.slot ≡ []
    → take (most - f.taken) (left t f.slot) ≡ []
none_left t f most end = ap (take (most - f.taken)) end ∙ take_all (most - f.taken) [] (omega arith)

-- at the end nothing is ahead
pub ahead_end : (told : Option Told) (f : Feed) → IsAtEnd told f
    → ahead told f ≡ option_map (λ _. []) told
ahead_end None f end = refl
ahead_end (Some t) f end =
    ap (λ (l : List ℕ). Some (seen_lines (l ++ take (MOST_BYTES - f.taken) (left t f.slot)))) end.0
    ∙ ap (λ (l : List ℕ). Some (seen_lines l)) (none_left t f MOST_BYTES end.1)

-- where no line ends in the bytes not yet answered, none ends in those that were taken
pub ended_needs : (told : Option Told) (f : Feed) (most : ℕ) → most ≤ f.taken → NeedsMore f
    → ended_within most told f ≡ option_map (λ _. []) told
ended_needs None f most all none = refl
ended_needs (Some t) f most all none =
    let no_more : most - f.taken ≡ 0 = omega arith in
    ap (λ (k : ℕ). Some (seen_ended_lines (f.pending ++ take k (left t f.slot)))) no_more
    ∙ ap (λ (l : List ℕ). Some (seen_ended_lines l)) (append-nil f.pending)
    ∙ ap (λ (l : List (Option (List ℕ))). Some l) (ended_none f.pending none)

-- the bytes ahead of the last line, and those behind it
module _ (t : Told) (f : Feed) (len whole : ℕ) (last : IsLastLine (Some t) f len whole) (most : ℕ)
  where
    last_rest : rest_within most t f ≡ f.pending
    last_rest =
        ap (λ (l : List ℕ). f.pending ++ l) (none_left t f most last.ended) ∙ append-nil f.pending

    last_answered : rest_within most t (answered whole f) ≡ []
    last_answered =
        let all = last.all in
        ap (λ (l : List ℕ). l ++ take (most - f.taken) (left t f.slot))
        (drop_all whole f.pending (omega arith)) ∙ none_left t f most last.ended

-- a line in front, and those behind it
pub ahead_front : (told : Option Told) (f : Feed) (len whole : ℕ) → IsFront told f len whole
    → ahead told f ≡ option_map (λ more. seen (take len f.pending) ∷ more)
    (ahead told (answered whole f))
ahead_front None f len whole front = refl
ahead_front (Some t) f len whole (inl ends) =
    ap (λ (l : List (Option (List ℕ))). Some l)
    (lines_front f.pending (take (MOST_BYTES - f.taken) (left t f.slot)) len whole ends)
ahead_front (Some t) f len whole (inr last) =
    let p = f.pending in
    let some = last.some in
    let all = last.all in
    let bare = last.bare in
    ap (λ (l : List ℕ). Some (seen_lines l)) (last_rest t f len whole last MOST_BYTES)
    ∙ ap (λ (l : List (Option (List ℕ))). Some l) (lines_last p last.none (omega arith))
    ∙ ap (λ (l : List ℕ). Some (seen l ∷ [])) (sym (take_all len p (omega arith)))
    ∙ ap (λ (l : List ℕ). Some (seen (take len p) ∷ seen_lines l))
    (sym (last_answered t f len whole last MOST_BYTES))

pub ended_ahead_front : (told : Option Told) (f : Feed) (len whole : ℕ)
    → EndsLine f.pending len whole → (most : ℕ)
    → ended_within most told f ≡ option_map (λ more. seen (take len f.pending) ∷ more)
    (ended_within most told (answered whole f))
ended_ahead_front None f len whole ends most = refl
ended_ahead_front (Some t) f len whole ends most =
    ap (λ (l : List (Option (List ℕ))). Some l)
    (ended_front f.pending (take (most - f.taken) (left t f.slot)) len whole ends)

-- the last line has no end
pub ended_ahead_last : (told : Option Told) (f : Feed) (len whole : ℕ) → IsLastLine told f len whole
    → (most : ℕ) → ended_within most told f ≡ option_map (λ _. []) told
ended_ahead_last None f len whole last most = refl
ended_ahead_last (Some t) f len whole last most =
    ap (λ (l : List ℕ). Some (seen_ended_lines l)) (last_rest t f len whole last most)
    ∙ ap (λ (l : List (Option (List ℕ))). Some l) (ended_none f.pending last.none)

-- what stands behind a line in front and n lines more
pub bytes_after_front : (told : Option Told) (f : Feed) (len whole : ℕ) → IsFront told f len whole
    → (n : ℕ) → bytes_after (suc n) told f ≡ bytes_after n told (answered whole f)
bytes_after_front None f len whole front n = refl
bytes_after_front (Some t) f len whole (inl ends) n =
    ap (λ (l : List ℕ). Some l) (after_front n f.pending
    (take (MOST_BYTES - f.taken) (left t f.slot)) len whole ends)
bytes_after_front (Some t) f len whole (inr last) n =
    ap (λ (l : List ℕ). Some (after_lines (suc n) l)) (last_rest t f len whole last MOST_BYTES)
    ∙ ap (λ (l : List ℕ). Some l) (after_last n f.pending last.none ∙ sym (after_none n))
    ∙ ap (λ (l : List ℕ). Some (after_lines n l))
    (sym (last_answered t f len whole last MOST_BYTES))

-- where a feed is at its end, all that the slot had was taken
pub taken_all : (a b : Option Told) (slot n : ℕ) → IfSome a (λ t. slot < length t.slots)
    → Advances a b slot n → IfSome b (λ t. left t slot ≡ [])
    → IfSome a (λ t. length (left t slot) ≡ n)
taken_all None b slot n below so_far end = tt
taken_all (Some t) b slot n below so_far end =
    let P : Option Told → Type 0 = λ o. IfSome o (λ x. left x slot ≡ []) in
    let now : left (taken_from slot n t) slot ≡ [] = subst P so_far.told end in
    let size : length (drop n (left t slot)) ≡ 0 =
    ap length (sym (left-taken_from slot t n 0 below) ∙ now) in
    let within : n ≤ length (left t slot) = so_far.within in
    omega (arith, length-drop n (left t slot))

-- what becomes of a feed over a slot from which bytes are taken
module _ (a b : Option Told) (f g : Feed) (below : IfSome a (λ t. f.slot < length t.slots))
    (same : g.slot ≡ f.slot) (later : f.taken ≤ g.taken)
    (moved : Advances a b f.slot (g.taken - f.taken)) where
  -- a slot that meets the limit goes on to
  pub limit_later : IfSome a (MeetsLimit f) → IfSome b (MeetsLimit g)
  limit_later = each a below moved
    where
      each : (a : Option Told) → IfSome a (λ t. f.slot < length t.slots)
          → Advances a b f.slot (g.taken - f.taken) → IfSome a (MeetsLimit f)
          → IfSome b (MeetsLimit g)
      each None below moved limit =
          subst (λ (o : Option Told). IfSome o (MeetsLimit g)) (sym moved.told) tt
      each (Some t) below moved limit =
          let n = g.taken - f.taken in
          let size : length (left (taken_from f.slot n t) g.slot) ≡ length (left t f.slot) - n =
          ap (λ (s : ℕ). length (left (taken_from f.slot n t) s)) same
          ∙ ap length (left-taken_from f.slot t n 0 below) ∙ length-drop n (left t f.slot) in
          let within : n ≤ length (left t f.slot) = moved.within in
          let then : MeetsLimit g (taken_from f.slot n t) = omega arith in
          subst (λ (o : Option Told). IfSome o (MeetsLimit g)) (sym moved.told) then

  -- and a slot from which 2^40 bytes were taken met it before
  pub limit_before : g.taken ≡ MOST_BYTES → IfSome a (MeetsLimit f)
  limit_before all = each a moved
    where
      each : (a : Option Told) → Advances a b f.slot (g.taken - f.taken) → IfSome a (MeetsLimit f)
      each None moved = tt
      each (Some t) moved =
          let within : g.taken - f.taken ≤ length (left t f.slot) = moved.within in omega arith

  -- one that was taken to its end didn't
  pub limit_not : g.taken < MOST_BYTES → IfSome b (λ t. left t g.slot ≡ [])
      → IfSome a (λ t. ¬ MeetsLimit f t)
  limit_not few end =
      each a (taken_all a b f.slot (g.taken - f.taken) below moved
      (subst (λ (s : ℕ). IfSome b (λ t. left t s ≡ [])) same end))
    where
      each : (a : Option Told) → IfSome a (λ t. length (left t f.slot) ≡ g.taken - f.taken)
          → IfSome a (λ t. ¬ MeetsLimit f t)
      each None size = tt
      each (Some t) size = λ limit. omega arith

  -- a line in front that has no end is the last one, so that the slot had fewer bytes than are
  -- taken at most
  pub limit_not_last : (len whole : ℕ) → IsLastLine b g len whole → IfSome a (λ t. ¬ MeetsLimit f t)
  limit_not_last len whole last = limit_not last.fewer last.ended

  module _ (kept : ended_ahead b g ≡ ended_ahead a f) where
    -- the next line isn't to be had
    pub stuck_before : IsSpent g → IfSome a (IsStuck f)
    stuck_before spent =
        each a (limit_before spent.all)
        (sym kept ∙ ended_needs b g MOST_BYTES (let all = spent.all in omega arith) spent.none)
      where
        each : (a : Option Told) → IfSome a (MeetsLimit f)
            → ended_ahead a f ≡ option_map (λ _. []) b → IfSome a (IsStuck f)
        each None limit is = tt
        each (Some t) limit is = record { limit = limit; none = first b is }
          where
            first : (b : Option Told) → ended_ahead (Some t) f ≡ option_map (λ _. []) b
                → seen_ended_lines (rest t f) ≡ []
            first None is = absurd (cc is)
            first (Some u) is = cc is

    -- a line in front that an LF ends where the slot meets the limit
    pub ended_front_before : IfSome a (MeetsLimit f) → (len whole : ℕ) → IsFront b g len whole
        → ended_ahead a f ≡ option_map (λ more. seen (take len g.pending) ∷ more)
        (ended_ahead b (answered whole g))
    ended_front_before limit len whole (inl ends) =
        sym kept ∙ ended_ahead_front b g len whole ends MOST_BYTES
    ended_front_before limit len whole (inr last) =
        each a b limit (limit_not_last len whole last) kept
      where
        each : (a b : Option Told) → IfSome a (MeetsLimit f) → IfSome a (λ t. ¬ MeetsLimit f t)
            → ended_ahead b g ≡ ended_ahead a f
            → ended_ahead a f ≡ option_map (λ more. seen (take len g.pending) ∷ more)
            (ended_ahead b (answered whole g))
        each None None limit not is = refl
        each None (Some u) limit not is = absurd (cc is)
        each (Some t) b limit not is = absurd (not limit)

    -- the next line is there
    pub not_stuck_front : (len whole : ℕ) → IsFront b g len whole → IfSome a (λ t. ¬ IsStuck f t)
    not_stuck_front len whole (inl ends) = each a kept
      where
        each : (a : Option Told) → ended_ahead b g ≡ ended_ahead a f → IfSome a (λ t. ¬ IsStuck f t)
        each None is = tt
        each (Some t) is =
            λ stuck. first b (sym (ended_ahead_front b g len whole ends MOST_BYTES) ∙ is
            ∙ ap (λ (l : List (Option (List ℕ))). Some l) stuck.none)
          where
            first : (b : Option Told)
                → option_map (λ more. seen (take len g.pending) ∷ more)
                (ended_ahead b (answered whole g)) ≡ Some [] → ⊥
            first None is = cc is
            first (Some u) is = cc is
    not_stuck_front len whole (inr last) = each a (limit_not_last len whole last)
      where
        each : (a : Option Told) → IfSome a (λ t. ¬ MeetsLimit f t) → IfSome a (λ t. ¬ IsStuck f t)
        each None not = tt
        each (Some t) not = λ stuck. not stuck.limit

  -- there is no further line
  pub not_stuck_end : g.taken < MOST_BYTES → IfSome b (λ t. left t g.slot ≡ [])
      → IfSome a (λ t. ¬ IsStuck f t)
  not_stuck_end few end = each a (limit_not few end)
    where
      each : (a : Option Told) → IfSome a (λ t. ¬ MeetsLimit f t) → IfSome a (λ t. ¬ IsStuck f t)
      each None not = tt
      each (Some t) not = λ stuck. not stuck.limit

-- a long line is none that has bytes to be seen
pub long_is_none : (told : Option (List (Option (List ℕ)))) (line : Option (List ℕ))
    (bytes : List ℕ) (more : List (Option (List ℕ)))
    → option_map (λ rest. line ∷ rest) told ≡ Some (None ∷ more) → Some bytes ≡ line → ⊥
long_is_none None line bytes more is seen = cc
long_is_none (Some x) line bytes more is seen = cc
