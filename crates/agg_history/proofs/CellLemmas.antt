-- Entries as flat numbers, and what a call makes of them.
use Rattle.std.proofs.Common.{◌≡◌, ℕ, ℤ, pos, ◌+◌, ◌*◌, ◌<◌, ◌≤◌, List, [], ◌∷◌, ◌++◌, length}
use Rattle.std.proofs.Common.{get_or, set, take, drop, sym, ap, ◌∙◌, arith, length-append}
use Rattle.bolt_base.specs.Keep.{Entry}
use Rattle.agg_history.specs.Entries.{Entries, entry_in, chunks, words_of, AreCells}
use Rattle.agg_history.specs.declared.cells.Cells.TheInside.{Inside}
use Rattle.agg_history.proofs.Chunks.{length-chunks, agg_at, val_at, agg_place, val_place}
use Rattle.agg_history.proofs.Chunks.{entry_end, entry_width, entry_words, chunks_more, put_words}
use Rattle.agg_history.proofs.Chunks.{front_chunks, front_end, two_halves}

abbrev pub view_of : Inside → Entries
view_of r = record { lanes = r.lanes; all = chunks r.lanes r.len r.words.items }

module _ (r : Inside) (t : Entries) (is : view_of r ≡ t)
    (ok : AreCells r.lanes r.len r.words.items) where
  pub lanes_is : r.lanes ≡ t.lanes
  lanes_is = ap (λ (e : Entries). e.lanes) is

  pub count_is : r.len ≡ length t.all
  count_is = sym (length-chunks r.lanes r.len r.words.items) ∙ ap (λ (e : Entries). length e.all) is

  pub all_is : chunks r.lanes r.len r.words.items ≡ t.all
  all_is = ap (λ (e : Entries). e.all) is

  module _ (j : ℕ) (below : j < length t.all) where
    inside : j < r.len
    inside = omega (arith, count_is)

    -- the places of its numbers
    pub agg_inside : (k : ℕ) → k < t.lanes → j * (2 * r.lanes) + k < length r.words.items
    agg_inside k h = (agg_place r.lanes r.len j k (length r.words.items) ok.long inside
        (omega (arith, lanes_is))).1

    pub val_inside : (k : ℕ) → k < t.lanes → j * (2 * r.lanes) + r.lanes + k < length r.words.items
    val_inside k h = (val_place r.lanes r.len j k (length r.words.items) ok.long inside
        (omega (arith, lanes_is))).1

    pub agg_is : (k : ℕ) → k < t.lanes
        → get_or r.words.items (j * (2 * r.lanes) + k) (pos 0)
        ≡ get_or (entry_in t.all j).0 k (pos 0)
    agg_is k h =
        let lane : k < r.lanes = omega (arith, lanes_is) in
        ap (λ m. get_or r.words.items m (pos 0))
        (agg_place r.lanes r.len j k (length r.words.items) ok.long inside lane).0
        ∙ sym (agg_at r.lanes r.len r.words.items j k inside lane)
        ∙ ap (λ es. get_or (entry_in es j).0 k (pos 0)) all_is

    pub val_is : (k : ℕ) → k < t.lanes
        → get_or r.words.items (j * (2 * r.lanes) + r.lanes + k) (pos 0)
        ≡ get_or (entry_in t.all j).1 k (pos 0)
    val_is k h =
        let lane : k < r.lanes = omega (arith, lanes_is) in
        ap (λ m. get_or r.words.items m (pos 0))
        (val_place r.lanes r.len j k (length r.words.items) ok.long inside lane).0
        ∙ sym (val_at r.lanes r.len r.words.items j k inside lane)
        ∙ ap (λ es. get_or (entry_in es j).1 k (pos 0)) all_is

    pub words_end : j * (2 * r.lanes) + 2 * r.lanes ≤ length r.words.items
    words_end = entry_end r.lanes r.len j (length r.words.items) ok.long inside

    pub words_is : take (2 * r.lanes) (drop (j * (2 * r.lanes)) r.words.items)
        ≡ words_of (entry_in t.all j)
    words_is =
        ap (λ m. take m (drop (j * (2 * r.lanes)) r.words.items))
        (let e : 2 * r.lanes ≡ r.lanes + r.lanes = omega arith in e)
        ∙ ap (λ m. take (r.lanes + r.lanes) (drop m r.words.items)) (two_halves j r.lanes)
        ∙ entry_words r.lanes r.len r.words.items j inside
        ∙ ap (λ es. words_of (entry_in es j)) all_is

    pub agg_width : length (entry_in t.all j).0 ≡ t.lanes
    agg_width = ap (λ es. length (entry_in es j).0) (sym all_is)
        ∙ (entry_width r.lanes r.len r.words.items ok.long j inside).0 ∙ lanes_is

    pub val_width : length (entry_in t.all j).1 ≡ t.lanes
    val_width = ap (λ es. length (entry_in es j).1) (sym all_is)
        ∙ (entry_width r.lanes r.len r.words.items ok.long j inside).1 ∙ lanes_is

    -- entry e put there
    module _ (e : Entry) (agg : length e.0 ≡ t.lanes) (val : length e.1 ≡ t.lanes) where
      pub put_end : j * (2 * r.lanes) + length (words_of e) ≤ length r.words.items
      put_end = omega (arith, words_end, length-append e.0 e.1, lanes_is)

      put : List ℤ
      put = take (j * (2 * r.lanes)) r.words.items
          ++ (words_of e ++ drop (j * (2 * r.lanes) + length (words_of e)) r.words.items)

      pub put_is : chunks r.lanes r.len
          (take (j * (2 * r.lanes)) r.words.items
          ++ (words_of e ++ drop (j * (2 * r.lanes) + length (words_of e)) r.words.items))
          ≡ set t.all j e
      put_is =
          ap (λ m. chunks r.lanes r.len
          (take (j * (2 * r.lanes)) r.words.items
          ++ (words_of e ++ drop (j * (2 * r.lanes) + m) r.words.items)))
          (let f : length (words_of e)
          ≡ r.lanes + r.lanes = omega (arith, length-append e.0 e.1, lanes_is) in f)
          ∙ ap (λ m. chunks r.lanes r.len
          (take m r.words.items
          ++ (words_of e ++ drop (m + (r.lanes + r.lanes)) r.words.items))) (two_halves j r.lanes)
          ∙ put_words r.lanes r.len r.words.items j e inside ok.long (agg ∙ sym lanes_is)
          (val ∙ sym lanes_is)
          ∙ ap (λ es. set es j e) all_is

  -- entry e added
  pub more_is : (e : Entry) → length e.0 ≡ t.lanes → length e.1 ≡ t.lanes
      → chunks r.lanes (r.len + 1) (r.words.items ++ words_of e) ≡ t.all ++ e ∷ []
  more_is e agg val = chunks_more r.lanes r.len r.words.items e.0 e.1 ok.long (agg ∙ sym lanes_is)
      (val ∙ sym lanes_is) ∙ ap (λ es. es ++ e ∷ []) all_is

  -- the first entries alone
  module _ (m : ℕ) (h : m ≤ length t.all) where
    pub front_inside : m * (2 * r.lanes) ≤ length r.words.items
    front_inside = (front_end r.lanes r.len m (length r.words.items) ok.long
        (omega (arith, count_is))).0

    pub front_place : m * (2 * r.lanes) ≡ m * (r.lanes + r.lanes)
    front_place = two_halves m r.lanes

    pub front_is : chunks r.lanes m (take (m * (2 * r.lanes)) r.words.items) ≡ take m t.all
    front_is = ap (λ k. chunks r.lanes m (take k r.words.items)) front_place
        ∙ front_chunks r.lanes r.len r.words.items m (omega (arith, count_is)) ok.long
        ∙ ap (take m) all_is
