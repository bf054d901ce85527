-- Rows as flat numbers.
use Rattle.std.proofs.Common.{◌≡◌, map, ℕ, ℤ, pos, zero, suc, ◌+◌, ◌*◌, ◌<◌, List, [], ◌∷◌, ◌++◌}
use Rattle.std.proofs.Common.{length, get_or, take, drop, refl, sym, ap, ◌∙◌, subst, arith}
use Rattle.std.proofs.Common.{length-append, suc-mul, zero-mul, mul-le-mul_right}
use Rattle.std.proofs.lemmas.List.{get_or-take, get_or-drop, take_at, drop_at, get_or-map}
use Rattle.std.proofs.lemmas.List.{length-map, map-append}
use Rattle.std.proofs.lemmas.List.Elements.{All-head, All-tail}
use Rattle.std.specs.List.{All, flat_map, zip}
use Rattle.bolt_base.specs.Keep.{no_entry}
use Rattle.bolt_base.specs.RowTable.{RowTable, entries_of, entry_at}
use Rattle.bolt_base.specs.RowsOf.{rows_of, row_of, IsFlat}
use Rattle.bolt_base.specs.declared.rows.FlatRow.{FlatRow}
use Rattle.bolt_base.specs.declared.rows.Rows.TheInside.{Inside}
use Rattle.bolt_base.proofs.ListLemmas.{suc_times}

-- a product by a successor
pub length-entries_of : (l n : ℕ) (aggs vals : List ℤ) → length (entries_of l n aggs vals) ≡ n
length-entries_of l zero aggs vals = refl
length-entries_of l (suc n) aggs vals = ap suc (length-entries_of l n (drop l aggs) (drop l vals))

-- the numbers of a vertex stand after those of the vertices before it
read_past_first_row : (l v k : ℕ) (xs : List ℤ)
    → get_or (drop l xs) (v * l + k) (pos 0) ≡ get_or xs (suc v * l + k) (pos 0)
read_past_first_row l v k xs = get_or-drop l xs (v * l + k) (pos 0)
    ∙ ap (λ m. get_or xs m (pos 0)) (let e : l + (v * l + k)
    ≡ suc v * l + k = omega (arith, suc_times v l) in e)

read_in_first_row : (l k : ℕ) (xs : List ℤ) → k < l
    → get_or (take l xs) k (pos 0) ≡ get_or xs (0 * l + k) (pos 0)
read_in_first_row l k xs h = get_or-take l xs k (pos 0) h
    ∙ ap (λ m. get_or xs m (pos 0)) (let e : k ≡ 0 * l + k = omega (arith, zero-mul l) in e)

pub agg_at : (l n : ℕ) (aggs vals : List ℤ) (v k : ℕ) → v < n → k < l
    → get_or (get_or (entries_of l n aggs vals) v no_entry).0 k (pos 0)
    ≡ get_or aggs (v * l + k) (pos 0)
agg_at l zero aggs vals v k h i = absurd (omega arith)
agg_at l (suc n) aggs vals zero k h i = read_in_first_row l k aggs i
agg_at l (suc n) aggs vals (suc v) k h i = agg_at l n (drop l aggs) (drop l vals) v k (omega arith)
    i ∙ read_past_first_row l v k aggs

pub val_at : (l n : ℕ) (aggs vals : List ℤ) (v k : ℕ) → v < n → k < l
    → get_or (get_or (entries_of l n aggs vals) v no_entry).1 k (pos 0)
    ≡ get_or vals (v * l + k) (pos 0)
val_at l zero aggs vals v k h i = absurd (omega arith)
val_at l (suc n) aggs vals zero k h i = read_in_first_row l k vals i
val_at l (suc n) aggs vals (suc v) k h i = val_at l n (drop l aggs) (drop l vals) v k (omega arith)
    i ∙ read_past_first_row l v k vals

-- a number's place is among them
pub place_inside : (l n v k : ℕ) → v < n → k < l → v * l + k < n * l
place_inside l n v k h i = let room = mul-le-mul_right {m = suc v} {n = n} l h in omega
    (arith, suc-mul v l)

pub length_of_numbers : (l : ℕ) (items : List (List ℤ)) → All (λ item. length item ≡ l) items
    → length (flat_map (λ item. item) items) ≡ length items * l
length_of_numbers l [] wide = sym (zero-mul l)
length_of_numbers l (x ∷ xs) wide =
    let P : List ℤ → Type 0 = λ item. length item ≡ l in
    let here : length x ≡ l = All-head P x xs wide in
    let rest = length_of_numbers l xs (All-tail P x xs wide) in
    omega (arith, length-append x (flat_map (λ item. item) xs), suc_times (length xs) l)

-- the entries of the numbers of items are those items
pub entries_of_numbers : (l : ℕ) (aggs vals : List (List ℤ)) (n : ℕ) → length aggs ≡ n
    → length vals ≡ n → All (λ item. length item ≡ l) aggs → All (λ item. length item ≡ l) vals
    → entries_of l n (flat_map (λ item. item) aggs) (flat_map (λ item. item) vals) ≡ zip aggs vals
entries_of_numbers l [] vals zero e f p q = refl
entries_of_numbers l [] vals (suc n) e f p q = absurd (omega arith)
entries_of_numbers l (a ∷ aggs) vals zero e f p q = absurd (omega arith)
entries_of_numbers l (a ∷ aggs) [] (suc n) e f p q = absurd (omega arith)
entries_of_numbers l (a ∷ aggs) (b ∷ vals) (suc n) e f p q =
    let P : List ℤ → Type 0 = λ item. length item ≡ l in
    let agg : length a ≡ l = All-head P a aggs p in
    let val : length b ≡ l = All-head P b vals q in
    let join : List (List ℤ) → List ℤ = flat_map (λ item. item) in
    let more = entries_of_numbers l aggs vals n (omega arith) (omega arith) (All-tail P a aggs p)
    (All-tail P b vals q) in
    ap (λ xs. (take l (join (a ∷ aggs)), take l (join (b ∷ vals))) ∷ xs)
    (ap (λ xs. entries_of l n xs (drop l (join (b ∷ vals)))) (drop_at a (join aggs) l agg)
    ∙ ap (entries_of l n (join aggs)) (drop_at b (join vals) l val) ∙ more)
    ∙ (λ i. (take_at a (join aggs) l agg i, take_at b (join vals) l val i) ∷ zip aggs vals)

-- ---- rows
module _ (r : Inside) (t : RowTable) (is : rows_of r ≡ t) where
  pub lanes_is : r.lanes ≡ t.lanes
  lanes_is = ap (λ (x : RowTable). x.lanes) is

  pub vertices_is : r.vertices ≡ t.vertices
  vertices_is = ap (λ (x : RowTable). x.vertices) is

  pub count_is : length r.rows.items ≡ length t.rows
  count_is = sym (length-map r.rows.items (row_of r.lanes r.vertices))
      ∙ ap (λ (x : RowTable). length x.rows) is

  row_is : (i : ℕ) (d : FlatRow) → i < length t.rows
      → get_or t.rows i [] ≡ row_of r.lanes r.vertices (get_or r.rows.items i d)
  row_is i d h = ap (λ (x : RowTable). get_or x.rows i []) (sym is)
      ∙ get_or-map (row_of r.lanes r.vertices) r.rows.items i d [] (omega (arith, count_is))

  pub agg_is : (i v k : ℕ) (d : FlatRow) → i < length t.rows → v < t.vertices → k < t.lanes
      → get_or (entry_at t.rows i v).0 k (pos 0)
      ≡ get_or (get_or r.rows.items i d).aggs.items (v * r.lanes + k) (pos 0)
  agg_is i v k d h p q =
      let row : FlatRow = get_or r.rows.items i d in
      ap (λ xs. get_or (get_or xs v no_entry).0 k (pos 0)) (row_is i d h)
      ∙ agg_at r.lanes r.vertices row.aggs.items row.vals.items v k
      (omega (arith, vertices_is)) (omega (arith, lanes_is))

  pub val_is : (i v k : ℕ) (d : FlatRow) → i < length t.rows → v < t.vertices → k < t.lanes
      → get_or (entry_at t.rows i v).1 k (pos 0)
      ≡ get_or (get_or r.rows.items i d).vals.items (v * r.lanes + k) (pos 0)
  val_is i v k d h p q =
      let row : FlatRow = get_or r.rows.items i d in
      ap (λ xs. get_or (get_or xs v no_entry).1 k (pos 0)) (row_is i d h)
      ∙ val_at r.lanes r.vertices row.aggs.items row.vals.items v k
      (omega (arith, vertices_is)) (omega (arith, lanes_is))

  -- a row more
  module _ (row : FlatRow) (aggs vals : List (List ℤ))
      (a : row.aggs.items ≡ flat_map (λ item. item) aggs)
      (b : row.vals.items ≡ flat_map (λ item. item) vals)
      (m : length aggs ≡ t.vertices) (n : length vals ≡ t.vertices)
      (p : All (λ item. length item ≡ t.lanes) aggs)
      (q : All (λ item. length item ≡ t.lanes) vals) where
    pub fresh_flat : IsFlat r.lanes r.vertices row
    fresh_flat = subst (λ k. IsFlat k r.vertices row) (sym lanes_is)
        (subst (λ k. IsFlat t.lanes k row) (sym vertices_is) (record {
          aggs = ap length a ∙ length_of_numbers t.lanes aggs p ∙ ap (λ k. k * t.lanes) m;
          vals = ap length b ∙ length_of_numbers t.lanes vals q ∙ ap (λ k. k * t.lanes) n;
        }))

    pub rows_more : map (row_of r.lanes r.vertices) (r.rows.items ++ row ∷ []) ≡ t.rows
        ++ zip aggs vals ∷ []
    rows_more =
        map-append (row_of r.lanes r.vertices) r.rows.items (row ∷ [])
        ∙ ap (λ (x : RowTable). x.rows ++ row_of r.lanes r.vertices row ∷ []) is
        ∙ ap (λ x. t.rows ++ x ∷ [])
        (ap (λ k. row_of k r.vertices row) lanes_is ∙ ap (λ k. row_of t.lanes k row) vertices_is
        ∙ ap (λ xs. entries_of t.lanes t.vertices xs row.vals.items) a
        ∙ ap (entries_of t.lanes t.vertices (flat_map (λ item. item) aggs)) b
        ∙ entries_of_numbers t.lanes aggs vals t.vertices m n p q)
