-- Entries in a list of numbers.
use Rattle.std.proofs.Common.{◌≡◌, ℕ, ℤ, pos, zero, suc, ◌+◌, ◌*◌, ◌<◌, ◌≤◌, List, [], ◌∷◌, ◌++◌}
use Rattle.std.proofs.Common.{length, get_or, set, take, drop, refl, sym, ap, ◌∙◌, arith}
use Rattle.std.proofs.Common.{length-append, length-take, length-drop, append_assoc, suc-mul}
use Rattle.std.proofs.Common.{zero-mul, mul-le-mul_right}
use Rattle.std.proofs.lemmas.List.{take-append-le, drop-append-le, drop_at, take_at, take_all}
use Rattle.std.proofs.lemmas.List.{get_or-take, get_or-drop, drop-drop}
use Rattle.bolt_base.specs.Keep.{Entry}
use Rattle.bolt_base.proofs.ListLemmas.{suc_times}
use Rattle.agg_history.specs.Entries.{entry_in, chunks, words_of}

pub length-chunks : (l n : ℕ) (ws : List ℤ) → length (chunks l n ws) ≡ n
length-chunks l zero ws = refl
length-chunks l (suc n) ws = ap suc (length-chunks l n (drop (l + l) ws))

pub chunks_more : (l n : ℕ) (ws a v : List ℤ) → length ws ≡ n * (l + l) → length a ≡ l
    → length v ≡ l → chunks l (n + 1) (ws ++ (a ++ v)) ≡ chunks l n ws ++ (a, v) ∷ []
chunks_more l zero ws a v h p q =
    let none : ws ≡ [] = nothing ws (omega (arith, h, zero-mul (l + l))) in
    ap (λ xs. chunks l 1 (xs ++ (a ++ v))) none ∙ one
  where
    nothing : (xs : List ℤ) → length xs ≡ 0 → xs ≡ []
    nothing [] e = refl
    nothing (x ∷ xs) e = absurd (omega arith)

    one : chunks l 1 (a ++ v) ≡ (a, v) ∷ []
    one = λ i. (take_at a v l p i, (ap (take l) (drop_at a v l p) ∙ take_all l v (omega arith)) i)
        ∷ []
chunks_more l (suc n) ws a v h p q =
    let long : l + l ≤ length ws = omega (arith, h, suc_times n (l + l)) in
    let rest : length (drop (l + l) ws)
    ≡ n * (l + l) = omega (arith, h, suc_times n (l + l), length-drop (l + l) ws) in
    let one = take-append-le l ws (a ++ v) (omega arith) in
    let two = ap (take l) (drop-append-le l ws (a ++ v) (omega arith))
    ∙ take-append-le l (drop l ws) (a ++ v) (omega (arith, length-drop l ws)) in
    let more = ap (chunks l (n + 1)) (drop-append-le (l + l) ws (a ++ v) long)
    ∙ chunks_more l n (drop (l + l) ws) a v rest p q in
    ap (λ m. chunks l m (ws ++ (a ++ v))) (let e : suc n + 1 ≡ suc (n + 1) = omega arith in e)
    ∙ (λ i. (one i, two i) ∷ more i)

pub agg_at : (l n : ℕ) (ws : List ℤ) (j k : ℕ) → j < n → k < l
    → get_or (entry_in (chunks l n ws) j).0 k (pos 0) ≡ get_or ws (j * (l + l) + k) (pos 0)
agg_at l zero ws j k h i = absurd (omega arith)
agg_at l (suc n) ws zero k h i = get_or-take l ws k (pos 0) i
    ∙ ap (λ m. get_or ws m (pos 0))
    (let e : k ≡ 0 * (l + l) + k = omega (arith, zero-mul (l + l)) in e)
agg_at l (suc n) ws (suc j) k h i =
    agg_at l n (drop (l + l) ws) j k (omega arith) i
    ∙ get_or-drop (l + l) ws (j * (l + l) + k) (pos 0)
    ∙ ap (λ m. get_or ws m (pos 0))
    (let e : (l + l) + (j * (l + l) + k)
    ≡ suc j * (l + l) + k = omega (arith, suc_times j (l + l)) in e)

pub val_at : (l n : ℕ) (ws : List ℤ) (j k : ℕ) → j < n → k < l
    → get_or (entry_in (chunks l n ws) j).1 k (pos 0) ≡ get_or ws (j * (l + l) + l + k) (pos 0)
val_at l zero ws j k h i = absurd (omega arith)
val_at l (suc n) ws zero k h i = get_or-take l (drop l ws) k (pos 0) i ∙ get_or-drop l ws k (pos 0)
    ∙ ap (λ m. get_or ws m (pos 0))
    (let e : l + k ≡ 0 * (l + l) + l + k = omega (arith, zero-mul (l + l)) in e)
val_at l (suc n) ws (suc j) k h i =
    val_at l n (drop (l + l) ws) j k (omega arith) i
    ∙ get_or-drop (l + l) ws (j * (l + l) + l + k) (pos 0)
    ∙ ap (λ m. get_or ws m (pos 0))
    (let e : (l + l) + (j * (l + l) + l + k)
    ≡ suc j * (l + l) + l + k = omega (arith, suc_times j (l + l)) in e)

pub two_halves : (n l : ℕ) → n * (2 * l) ≡ n * (l + l)
two_halves n l = ap (λ m. n * m) (let e : 2 * l ≡ l + l = omega arith in e)

-- the places of an entry's numbers
pub agg_place : (l n j k w : ℕ) → w ≡ n * (l + l) → j < n → k < l
    → (j * (2 * l) + k ≡ j * (l + l) + k) × (j * (2 * l) + k < w)
agg_place l n j k w long h i =
    let room = mul-le-mul_right {m = suc j} {n = n} (l + l) h in
    (omega (arith, two_halves j l), omega (arith, two_halves j l, suc-mul j (l + l)))

pub val_place : (l n j k w : ℕ) → w ≡ n * (l + l) → j < n → k < l
    → (j * (2 * l) + l + k ≡ j * (l + l) + l + k) × (j * (2 * l) + l + k < w)
val_place l n j k w long h i =
    let room = mul-le-mul_right {m = suc j} {n = n} (l + l) h in
    (omega (arith, two_halves j l), omega (arith, two_halves j l, suc-mul j (l + l)))

-- ---- an entry as a piece of the numbers
take_two : {A : Type 0} (a b : ℕ) (xs : List A) → take (a + b) xs ≡ take a xs ++ take b (drop a xs)
take_two zero b xs = ap (λ n. take n xs) (let e : 0 + b ≡ b = omega arith in e)
take_two (suc a) b [] = ap (λ n. take n []) (let e : suc a + b ≡ suc (a + b) = omega arith in e)
    ∙ sym (nils b)
  where
    nils : {A : Type 0} (b : ℕ) → take {A = A} b [] ≡ []
    nils zero = refl
    nils (suc b) = refl
take_two (suc a) b (x ∷ xs) = ap (λ n. take n (x ∷ xs))
    (let e : suc a + b ≡ suc (a + b) = omega arith in e) ∙ ap (λ ys. x ∷ ys) (take_two a b xs)

pub entry_words : (l n : ℕ) (ws : List ℤ) (j : ℕ) → j < n
    → take (l + l) (drop (j * (l + l)) ws) ≡ words_of (entry_in (chunks l n ws) j)
entry_words l zero ws j h = absurd (omega arith)
entry_words l (suc n) ws zero h = ap (λ m. take (l + l) (drop m ws)) (zero-mul (l + l))
    ∙ take_two l l ws
entry_words l (suc n) ws (suc j) h =
    ap (take (l + l))
    (ap (λ m. drop m ws) (suc_times j (l + l)) ∙ sym (drop-drop (j * (l + l)) (l + l) ws))
    ∙ entry_words l n (drop (l + l) ws) j (omega arith)

pub entry_width : (l n : ℕ) (ws : List ℤ) → length ws ≡ n * (l + l) → (j : ℕ) → j < n
    → (length (entry_in (chunks l n ws) j).0 ≡ l) × (length (entry_in (chunks l n ws) j).1 ≡ l)
entry_width l zero ws long j h = absurd (omega arith)
entry_width l (suc n) ws long zero h = (
  omega (arith, long, suc_times n (l + l), length-take l ws),
  omega (arith, long, suc_times n (l + l), length-take l (drop l ws), length-drop l ws),
)
entry_width l (suc n) ws long (suc j) h = entry_width l n (drop (l + l) ws)
    (omega (arith, long, suc_times n (l + l), length-drop (l + l) ws)) j (omega arith)

pub same_words : (a b : Entry) → length a.0 ≡ length b.0 → words_of a ≡ words_of b → a ≡ b
same_words a b e w =
    let p : a.0 ≡ b.0 = sym (take_at a.0 a.1 (length a.0) refl) ∙ ap (take (length a.0)) w
    ∙ take_at b.0 b.1 (length a.0) (sym e) in
    let q : a.1 ≡ b.1 = sym (drop_at a.0 a.1 (length a.0) refl) ∙ ap (drop (length a.0)) w
    ∙ drop_at b.0 b.1 (length a.0) (sym e) in
    λ i. (p i, q i)

-- the first m entries are in the first numbers
pub front_chunks : (l n : ℕ) (ws : List ℤ) (m : ℕ) → m ≤ n → length ws ≡ n * (l + l)
    → chunks l m (take (m * (l + l)) ws) ≡ take m (chunks l n ws)
front_chunks l n ws zero h long = refl
front_chunks l zero ws (suc m) h long = absurd (omega arith)
front_chunks l (suc n) ws (suc m) h long =
    let e = suc_times m (l + l) in
    let here : take (suc m * (l + l)) ws ≡ take (l + l) ws
    ++ take (m * (l + l)) (drop (l + l) ws) = ap (λ k. take k ws) e
    ∙ take_two (l + l) (m * (l + l)) ws in
    let wide : length (take (l + l) ws)
    ≡ l + l = omega (arith, long, suc_times n (l + l), length-take (l + l) ws) in
    let halves : take (l + l) ws ≡ take l ws ++ take l (drop l ws) = take_two l l ws in
    let w0 : length (take l ws) ≡ l = omega (arith, long, suc_times n (l + l), length-take l ws) in
    let w1 : length (take l (drop l ws))
    ≡ l = omega (arith, long, suc_times n (l + l), length-take l (drop l ws), length-drop l ws) in
    let rest = take (m * (l + l)) (drop (l + l) ws) in
    let flat : take (suc m * (l + l)) ws ≡ take l ws ++ (take l (drop l ws) ++ rest) = here
    ∙ ap (λ xs. xs ++ rest) halves ∙ append_assoc (take l ws) (take l (drop l ws)) rest in
    let one : take l (take (suc m * (l + l)) ws) ≡ take l ws = ap (take l) flat
    ∙ take_at (take l ws) (take l (drop l ws) ++ rest) l w0 in
    let two : take l (drop l (take (suc m * (l + l)) ws))
    ≡ take l (drop l ws) = ap (λ xs. take l (drop l xs)) flat
    ∙ ap (take l) (drop_at (take l ws) (take l (drop l ws) ++ rest) l w0)
    ∙ take_at (take l (drop l ws)) rest l w1 in
    let more : drop (l + l) (take (suc m * (l + l)) ws) ≡ rest = ap (drop (l + l)) here
    ∙ drop_at (take (l + l) ws) rest (l + l) wide in
    let last = ap (chunks l m) more
    ∙ front_chunks l n (drop (l + l) ws) m (omega arith)
    (omega (arith, long, suc_times n (l + l), length-drop (l + l) ws)) in
    λ i. (one i, two i) ∷ last i

-- the entries' numbers end within the words
pub entry_end : (l n j w : ℕ) → w ≡ n * (l + l) → j < n → j * (2 * l) + 2 * l ≤ w
entry_end l n j w long h =
    let room = mul-le-mul_right {m = suc j} {n = n} (l + l) h in
    omega (arith, two_halves j l, suc-mul j (l + l))

pub front_end : (l n m w : ℕ) → w ≡ n * (l + l) → m ≤ n → (m * (2 * l) ≤ w)
    × (m * (2 * l) ≡ m * (l + l))
front_end l n m w long h = let room = mul-le-mul_right {m = m} {n = n} (l + l) h in
    (omega (arith, two_halves m l), two_halves m l)

-- ---- the entries after the first
-- of n entries, so many after the first are in so many numbers after those of the first
pub after_first : (l n : ℕ) (ws : List ℤ) (m : ℕ) → m < n → length ws ≡ n * (l + l)
    → chunks l m (take (m * (l + l)) (drop (l + l) ws)) ≡ take m (drop 1 (chunks l n ws))
after_first l zero ws m h long = absurd (omega arith)
after_first l (suc n) ws m h long = front_chunks l n (drop (l + l) ws) m (omega arith)
    (omega (arith, long, suc_times n (l + l), length-drop (l + l) ws))

-- they end within the words
pub after_first_end : (l n m w : ℕ) → w ≡ n * (l + l) → m < n → (2 * l + m * (2 * l) ≤ w)
    × (m * (2 * l) ≡ m * (l + l))
after_first_end l n m w long h = let room = mul-le-mul_right {m = suc m} {n = n} (l + l) h in
    (omega (arith, two_halves m l, suc-mul m (l + l)), two_halves m l)

-- ---- an entry in place of another
-- the numbers of an entry put over those of entry j
pub put_words : (l n : ℕ) (ws : List ℤ) (j : ℕ) (e : Entry) → j < n → length ws ≡ n * (l + l)
    → length e.0 ≡ l → length e.1 ≡ l
    → chunks l n (take (j * (l + l)) ws ++ (words_of e ++ drop (j * (l + l) + (l + l)) ws))
    ≡ set (chunks l n ws) j e
put_words l zero ws j e h long p q = absurd (omega arith)
put_words l (suc n) ws zero e h long p q =
    let rest = drop (0 * (l + l) + (l + l)) ws in
    let start : take (0 * (l + l)) ws ++ (words_of e ++ rest) ≡ e.0
    ++ (e.1 ++ rest) = ap (λ m. take m ws ++ (words_of e ++ rest)) (zero-mul (l + l))
    ∙ append_assoc e.0 e.1 rest in
    let one : take l (take (0 * (l + l)) ws ++ (words_of e ++ rest)) ≡ e.0 = ap (take l) start
    ∙ take_at e.0 (e.1 ++ rest) l p in
    let two : take l (drop l (take (0 * (l + l)) ws ++ (words_of e ++ rest)))
    ≡ e.1 = ap (λ xs. take l (drop l xs)) start ∙ ap (take l) (drop_at e.0 (e.1 ++ rest) l p)
    ∙ take_at e.1 rest l q in
    let wide : length (words_of e) ≡ l + l = omega (arith, length-append e.0 e.1, p, q) in
    let more : drop (l + l) (take (0 * (l + l)) ws ++ (words_of e ++ rest)) ≡ drop (l + l) ws =
    ap (λ m. drop (l + l) (take m ws ++ (words_of e ++ rest))) (zero-mul (l + l))
    ∙ drop_at (words_of e) rest (l + l) wide
    ∙ ap (λ m. drop m ws)
    (let f : 0 * (l + l) + (l + l) ≡ l + l = omega (arith, zero-mul (l + l)) in f) in
    λ i. (one i, two i) ∷ chunks l n (more i)
put_words l (suc n) ws (suc j) e h long p q =
    let k = l + l in
    let front : take (suc j * k) ws ≡ take k ws
    ++ take (j * k) (drop k ws) = ap (λ m. take m ws) (suc_times j k) ∙ take_two k (j * k) ws in
    let back : drop (suc j * k + k) ws
    ≡ drop (j * k + k) (drop k ws) = ap (λ m. drop m ws)
    (let f : suc j * k + k ≡ k + (j * k + k) = omega (arith, suc_times j k) in f)
    ∙ sym (drop-drop (j * k + k) k ws) in
    let inner = take (j * k) (drop k ws) ++ (words_of e ++ drop (j * k + k) (drop k ws)) in
    let all : take (suc j * k) ws ++ (words_of e ++ drop (suc j * k + k) ws) ≡ take k ws ++ inner =
    ap (λ xs. xs ++ (words_of e ++ drop (suc j * k + k) ws)) front
    ∙ ap (λ xs. (take k ws ++ take (j * k) (drop k ws)) ++ (words_of e ++ xs)) back
    ∙ append_assoc (take k ws) (take (j * k) (drop k ws))
    (words_of e ++ drop (j * k + k) (drop k ws)) in
    let wide : length (take k ws) ≡ k = omega (arith, long, suc_times n k, length-take k ws) in
    let halves : take k ws ≡ take l ws ++ take l (drop l ws) = take_two l l ws in
    let w0 : length (take l ws) ≡ l = omega (arith, long, suc_times n k, length-take l ws) in
    let w1 : length (take l (drop l ws))
    ≡ l = omega (arith, long, suc_times n k, length-take l (drop l ws), length-drop l ws) in
    let flat : take k ws ++ inner ≡ take l ws
    ++ (take l (drop l ws) ++ inner) = ap (λ xs. xs ++ inner) halves
    ∙ append_assoc (take l ws) (take l (drop l ws)) inner in
    let one : take l (take (suc j * k) ws ++ (words_of e ++ drop (suc j * k + k) ws))
    ≡ take l ws = ap (take l) (all ∙ flat)
    ∙ take_at (take l ws) (take l (drop l ws) ++ inner) l w0 in
    let two : take l (drop l (take (suc j * k) ws ++ (words_of e ++ drop (suc j * k + k) ws)))
    ≡ take l (drop l ws) =
    ap (λ xs. take l (drop l xs)) (all ∙ flat)
    ∙ ap (take l) (drop_at (take l ws) (take l (drop l ws) ++ inner) l w0)
    ∙ take_at (take l (drop l ws)) inner l w1 in
    let more : drop k (take (suc j * k) ws ++ (words_of e ++ drop (suc j * k + k) ws))
    ≡ inner = ap (drop k) all ∙ drop_at (take k ws) inner k wide in
    let last = ap (chunks l n) more
    ∙ put_words l n (drop k ws) j e (omega arith)
    (omega (arith, long, suc_times n k, length-drop k ws)) p q in
    λ i. (one i, two i) ∷ last i
