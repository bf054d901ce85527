-- What the fields of entries that are right are like.
use Rattle.std.proofs.Common.{◌≡◌, w64, ℕ, ℤ, pos, negsuc, ◌+◌, ◌<◌, ◌≤ℤ◌, Bool, true, false}
use Rattle.std.proofs.Common.{cond, List, [], ◌∷◌, ◌++◌, length, take, Option, Some, None}
use Rattle.std.proofs.Common.{Result, Ok, Err, refl, sym, ◌∙◌, ap, arith, length-append}
use Rattle.std.proofs.Common.{zero, suc}
use Rattle.std.specs.Prelude.{codes, nat_lt, nat_le, int_lt, All, FitsSigned}
use Rattle.std.specs.Int.{int_max}
use Rattle.std.specs.Str.{bytes_eq}
use Rattle.std.proofs.lemmas.Bool.Decides.{nat_tests}
use Rattle.std.proofs.lemmas.Int.{ints}
use Rattle.std.proofs.lemmas.List.{get_or_append_left, take-append-le}
use Rattle.std.proofs.lemmas.List.Elements.{All-append}
use Rattle.std.proofs.Math.Seq.{get_or-append_seam, take-append_seam}
use Rattle.vertex_expr.specs.Tree.{Tree}
use Rattle.vertex_expr.specs.Names.{is_name, is_taken, param_name, AreNames}
use Rattle.vertex_expr.specs.Writable.{IsRange, IsCombination, IsTextTree}
use Rattle.vertex_expr.specs.Writable.{scope_in}
use Rattle.vertex_expr.specs.declared.expr.Part.{Part}
use Rattle.vertex_expr.specs.declared.program.Combine.TheVariants.{Min, Max}
use Rattle.vertex_expr.specs.declared.program.LaneRange.{LaneRange}
use Rattle.vertex_expr.specs.declared.program.ProgramEntries.{ProgramEntries}
use Rattle.lexical.specs.Words.{Word}
use Rattle.text_words.specs.Fields.{◌>>=◌, word_at, word_end, unsigned_of, signed_at}
use Rattle.text_words.specs.declared.error.LangError.{LangError}
use Rattle.text_words.specs.declared.error.LangError.TheVariants.{Repeat, Missing, TooBig}
use Rattle.text_words.specs.declared.error.Keyword.{Keyword}
use Rattle.text_words.proofs.FieldFacts.{On, on_then, on_any, on_test, on_of, signed_on}
use Rattle.expr_text.specs.Expressions.{expression_at}
use Rattle.expr_text.proofs.Printables.{expression_fits}
use Rattle.vertex_lang.specs.Entries.{least_i64, greatest_i64, range_at, combine_at, combine_of}
use Rattle.vertex_lang.specs.Entries.{index_of, below_lanes}
use Rattle.vertex_lang.specs.Entries.{place_at, tree_at}

pub fits_between : (z : ℤ) → least_i64 ≤ℤ z → z ≤ℤ greatest_i64 → FitsSigned w64 z
fits_between (pos n) h i = omega (arith, ints)
fits_between (negsuc n) h i = omega (arith, ints)

pub at_most : (a b c : ℤ) → a ≤ℤ b → b ≤ℤ c → a ≤ℤ c
at_most a b c h i = omega (arith, ints)

pub max_above : (a b : ℤ) → (a ≤ℤ int_max a b) × (b ≤ℤ int_max a b)
max_above a b = pick (int_lt b a) refl
  where
    same : (z : ℤ) → z ≤ℤ z
    same z = omega (arith, ints)

    first : (a b : ℤ) → int_lt b a ≡ true → b ≤ℤ a
    first a b e = grind (arith, ints)

    second : (a b : ℤ) → int_lt b a ≡ false → a ≤ℤ b
    second a b e = grind (arith, ints)

    pick : (t : Bool) → int_lt b a ≡ t → (a ≤ℤ cond t a b) × (b ≤ℤ cond t a b)
    pick true e = (same a, first a b e)
    pick false e = (second a b e, same b)

-- a range that is read
abbrev pub RangeFits : ℤ → ℤ → LaneRange × ℕ → Type 0
RangeFits lo_most hi_least r = IsRange r.0.lo r.0.hi × (r.0.lo ≤ℤ lo_most) × (hi_least ≤ℤ r.0.hi)

pub range_on : (line : List ℕ) (from : ℕ) (lo_most hi_least : ℤ) → lo_most ≤ℤ greatest_i64
    → On (RangeFits lo_most hi_least) (range_at line from lo_most hi_least)
unfolding range_at
range_on line from lo_most hi_least high =
    on_then (λ r. (least_i64 ≤ℤ r.0) × (r.0 ≤ℤ lo_most)) (RangeFits lo_most hi_least)
    (signed_at line from least_i64 lo_most)
    (λ lo. signed_at line lo.1 (int_max lo.0 hi_least) greatest_i64 >>= λ hi. Ok
    (record { lo = lo.0; hi = hi.0 }, hi.1)) (signed_on line from least_i64 lo_most)
    (λ lo h. on_then (λ r. (int_max lo.0 hi_least ≤ℤ r.0) × (r.0 ≤ℤ greatest_i64))
    (RangeFits lo_most hi_least) (signed_at line lo.1 (int_max lo.0 hi_least) greatest_i64)
    (λ hi. Ok (record { lo = lo.0; hi = hi.0 }, hi.1))
    (signed_on line lo.1 (int_max lo.0 hi_least) greatest_i64)
    (λ hi i.
    let m = max_above lo.0 hi_least in
    let up : lo.0 ≤ℤ hi.0 = at_most lo.0 (int_max lo.0 hi_least) hi.0 m.0 i.0 in (
      record {
        lo_fits = fits_between lo.0 h.0 (at_most lo.0 lo_most greatest_i64 h.1 high);
        hi_fits = fits_between hi.0 (at_most least_i64 lo.0 hi.0 h.0 up) i.1;
        order = up;
      },
      h.1,
      at_most hi_least (int_max lo.0 hi_least) hi.0 m.1 i.0,
    )))

pub combine_on : (line : List ℕ) (from : ℕ) → On (λ r. IsCombination r.0) (combine_at line from)
unfolding combine_at
combine_on line from =
    on_then (λ _. Unit {0}) (λ r. IsCombination r.0) (word_at line from) (combine_of line)
    (on_any (word_at line from)) (λ w u.
    on_test (λ r. IsCombination r.0) (bytes_eq w.bytes (codes "sum")) _ _ (λ e. tt)
    (λ e. on_test (λ r. IsCombination r.0) (bytes_eq w.bytes (codes "min")) _ _
    (λ f. on_then (λ r. (least_i64 ≤ℤ r.0) × (r.0 ≤ℤ greatest_i64)) (λ r. IsCombination r.0)
    (signed_at line (word_end w) least_i64 greatest_i64) (λ x. Ok (Min x.0, x.1))
    (signed_on line (word_end w) least_i64 greatest_i64) (λ x h. fits_between x.0 h.0 h.1))
    (λ f. on_test (λ r. IsCombination r.0) (bytes_eq w.bytes (codes "max")) _ _
    (λ i. on_then (λ r. (least_i64 ≤ℤ r.0) × (r.0 ≤ℤ greatest_i64)) (λ r. IsCombination r.0)
    (signed_at line (word_end w) least_i64 greatest_i64) (λ x. Ok (Max x.0, x.1))
    (signed_on line (word_end w) least_i64 greatest_i64) (λ x h. fits_between x.0 h.0 h.1))
    (λ i. tt))))

-- one more item
pub All-one : {A : Type 0} (P : A → Type 0) (x : A) → P x → All P (x ∷ [])
All-one P x h zero d l = h
All-one P x h (suc k) d l = absurd (omega arith)

pub All-push : {A : Type 0} (P : A → Type 0) (xs : List A) (x : A) → All P xs → P x
    → All P (xs ++ x ∷ [])
All-push P xs x h i = All-append P xs (x ∷ []) h (All-one P x i)

-- one more name
pub name_pushed : (ns : List (List ℕ)) (w : List ℕ) → AreNames ns → is_name w ≡ true
    → is_taken ns w ≡ false → AreNames (ns ++ w ∷ [])
name_pushed ns w h is free =
    record {
      form = λ k l. form k (nat_lt k (length ns)) refl l;
      free = λ k l. new k
          (nat_lt k (length ns)) refl l;
    }
  where
    below : (k n : ℕ) → nat_lt k n ≡ true → k < n
    below k n e = grind (arith, nat_tests)

    last : (k n : ℕ) → nat_lt k n ≡ false → k < n + 1 → n ≡ k
    last k n e l = grind (arith, nat_tests)

    at_last : (k : ℕ) → length ns ≡ k → param_name (ns ++ w ∷ []) k ≡ w
    at_last k e = ap (param_name (ns ++ w ∷ [])) (sym e) ∙ get_or-append_seam ns w [] []

    long : length (ns ++ w ∷ []) ≡ length ns + 1
    long = length-append ns (w ∷ [])

    before : (k : ℕ) → k < length ns → param_name (ns ++ w ∷ []) k ≡ param_name ns k
    before k l = get_or_append_left ns (w ∷ []) [] k l

    form : (k : ℕ) (b : Bool) → nat_lt k (length ns) ≡ b → k < length (ns ++ w ∷ [])
        → is_name (param_name (ns ++ w ∷ []) k) ≡ true
    form k true e l = let m = below k (length ns) e in ap is_name (before k m) ∙ h.form k m
    form k false e l = ap is_name (at_last k (last k (length ns) e (omega (arith, long)))) ∙ is

    new : (k : ℕ) (b : Bool) → nat_lt k (length ns) ≡ b → k < length (ns ++ w ∷ [])
        → is_taken (take k (ns ++ w ∷ [])) (param_name (ns ++ w ∷ []) k) ≡ false
    new k true e l =
        let m = below k (length ns) e in
        let t : take k (ns ++ w ∷ []) ≡ take k ns = take-append-le k ns (w ∷ []) (omega arith) in
        (λ i. is_taken (t i) (before k m i)) ∙ h.free k m
    new k false e l =
        let q = last k (length ns) e (omega (arith, long)) in
        let t : take k (ns ++ w ∷ []) ≡ ns =
        ap (λ j. take j (ns ++ w ∷ [])) (sym q) ∙ take-append_seam ns (w ∷ []) in
        (λ i. is_taken (t i) (at_last k q i)) ∙ free

-- the expression of a part
abbrev pub TreeFits : ProgramEntries → Part → ℕ → Tree → Type 0
TreeFits g part next t = IsTextTree (scope_in g part) t × (next < length g.ranges)

abbrev pub checked_lane : Bool → ℕ → Result (Unit {0}) LangError
checked_lane b at = cond b (Err (TooBig at)) (Ok tt)

pub place_on : (line : List ℕ) (from next lanes : ℕ) (k : Keyword)
    → On (λ _. next < lanes) (place_at line from k next lanes)
unfolding place_at
place_on line from next lanes k =
    on_then (λ _. Unit {0}) (λ _. next < lanes) (word_at line from)
    (λ w. below_lanes lanes w (unsigned_of w.bytes) >>= λ u. index_of k next w
    (unsigned_of w.bytes)) (on_any (word_at line from)) (λ w u. number w (unsigned_of w.bytes))
  where
    low : (lanes n : ℕ) → nat_le lanes n ≡ false → n < lanes
    low lanes n e = grind (arith, nat_tests)

    same : (a b : ℕ) → nat_lt a b ≡ false → nat_lt b a ≡ false → a < lanes → b < lanes
    same a b e f h = let g = meet a b e f in omega arith
      where
        meet : (a b : ℕ) → nat_lt a b ≡ false → nat_lt b a ≡ false → a ≡ b
        meet a b e f = grind (arith, nat_tests)

    number : (w : Word) (o : Option ℕ)
        → On (λ _. next < lanes) (below_lanes lanes w o >>= λ u. index_of k next w o)
    number w None = tt
    number w (Some n) = test (nat_le lanes n) refl
      where
        test : (b : Bool) → nat_le lanes n ≡ b
            → On (λ _. next < lanes) (checked_lane b w.at >>= λ u. index_of k next w (Some n))
        test true e = tt
        test false e =
            on_test (λ _. next < lanes) (nat_lt n next) (Err (Repeat w.at))
            (cond (nat_lt next n) (Err (Missing k)) (Ok (word_end w))) (λ f. tt)
            (λ f. on_test (λ _. next < lanes) (nat_lt next n) (Err (Missing k)) (Ok (word_end w))
            (λ i. tt) (λ i. same n next f i (low lanes n e)))

pub tree_on : (g : ProgramEntries) (part : Part) (k : Keyword) (next : ℕ) (line : List ℕ) (from : ℕ)
    → On (TreeFits g part next) (tree_at g part k next line from)
unfolding tree_at
tree_on g part k next line from =
    on_then (λ _. next < length g.ranges) (TreeFits g part next)
    (place_at line from k next (length g.ranges)) (λ p. expression_at (scope_in g part) line p)
    (place_on line from next (length g.ranges) k)
    (λ p l. on_of (TreeFits g part next) (expression_at (scope_in g part) line p)
    (λ t e. (expression_fits (scope_in g part) line p t e, l)))
