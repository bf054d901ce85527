-- The params and the lanes of printed lines are read again.
use Rattle.std.proofs.Common.{◌≡◌, w64, ℕ, ℤ, ◌+◌, ◌^◌, ◌<◌, ◌≤◌, true, false, cond, List, []}
use Rattle.std.proofs.Common.{◌∷◌, ◌++◌, length, take, drop, Some, Result, Ok, Err}
use Rattle.std.proofs.Common.{refl, sym, ◌∙◌, ap, subst, arith, zero, suc}
use Rattle.std.specs.Prelude.{codes, decimal, nat_lt, nat_le, All, FitsSigned}
use Rattle.std.specs.Fmt.{signed_decimal}
use Rattle.std.proofs.lemmas.Bool.Decides.{nat_tests}
use Rattle.std.proofs.lemmas.List.{take_at, map-append}
use Rattle.vertex_expr.specs.Names.{is_name, is_taken, param_name, AreNames}
use Rattle.vertex_expr.specs.Writable.{IsRange, names_of, values_of}
use Rattle.vertex_expr.specs.declared.program.LaneRange.{LaneRange}
use Rattle.vertex_expr.specs.declared.program.NamedParam.{NamedParam}
use Rattle.vertex_expr.specs.declared.program.ProgramEntries.{ProgramEntries}
use Rattle.lexical.specs.Words.{Word}
use Rattle.text_words.specs.Fields.{◌>>=◌, word_end, signed_at, unsigned_of}
use Rattle.text_words.specs.declared.error.LangError.{LangError}
use Rattle.text_words.specs.declared.error.LangError.TheVariants.{Repeat, Missing}
use Rattle.text_words.specs.declared.error.Keyword.{Keyword}
use Rattle.text_words.specs.declared.error.Keyword.TheVariants.{Param, Lane}
use Rattle.text_words.proofs.Lexing.{passes-append}
use Rattle.text_words.proofs.PrintedLines.{is_printed, decimal_printed, signed_printed}
use Rattle.text_words.proofs.PrintedLines.{name_printed}
use Rattle.text_words.proofs.FieldLemmas.{IsField, next_word, behind_word, next_signed, next_name}
use Rattle.text_words.proofs.FieldLemmas.{unsigned_decimal, decimal_field}
use Rattle.vertex_lang.specs.declared.draft.Draft.{Draft}
use Rattle.vertex_lang.specs.Keywords.{keyword_of}
use Rattle.vertex_lang.specs.Entries.{least_i64, greatest_i64, range_at, param, param_at, index_of}
use Rattle.vertex_lang.specs.Entries.{index_at, lane_at, entry_at}
use Rattle.vertex_lang.specs.Drafts.{is_full}
use Rattle.vertex_lang.specs.Canonical.{spaced, param_line, lane_line, param_lines, lane_lines}
use Rattle.vertex_lang.proofs.LineReads.{Reads, Steps}
use Rattle.vertex_lang.proofs.Admission.{admitted_by, not_past, due_lane, due_init, due_is}
use Rattle.vertex_lang.proofs.EntryReads.{Done, reads_entry, last_field, range_reads, least_fits}
use Rattle.vertex_lang.proofs.EntryReads.{greatest_fits}
use Rattle.vertex_lang.proofs.ListSteps.{after, list_steps, middle_below, mapped_middle, all_middle}
use Rattle.vertex_lang.proofs.Printed.{length-names}

-- a draft that has these lists, and else what another has
abbrev pub draft_of : ProgramEntries → ℕ → List NamedParam → List LaneRange → Draft
draft_of g s ps rs =
    record {
      stage = s;
      entries = record {
        name = g.name;
        limits = g.limits;
        rounds = g.rounds;
        combine = g.combine;
        params = ps;
        ranges = rs;
        init = [];
        contribute = [];
        apply = [];
      };
    }

param_word : IsField (codes "param")
param_word =
    record { some = omega arith; whole = (refl, (refl, (refl, (refl, (refl, tt))))); ascii = refl }

param_key : keyword_of (codes "param") ≡ Some Param
unfolding keyword_of
param_key = refl

lane_word : IsField (codes "lane")
lane_word = record { some = omega arith; whole = (refl, (refl, (refl, (refl, tt)))); ascii = refl }

lane_key : keyword_of (codes "lane") ≡ Some Lane
unfolding keyword_of
lane_key = refl

params_room : (d : Draft) → length d.entries.params < 64 → is_full d.entries Param ≡ false
unfolding is_full
params_room d few = test (length d.entries.params) few
  where
    test : (n : ℕ) → n < 64 → nat_le 64 n ≡ false
    test n few = grind (arith, nat_tests)

lane_room : (d : Draft) → length d.entries.ranges < 8 → is_full d.entries Lane ≡ false
unfolding is_full
lane_room d few = test (length d.entries.ranges) few
  where
    test : (n : ℕ) → n < 8 → nat_le 8 n ≡ false
    test n few = grind (arith, nat_tests)

param_done : (g : ProgramEntries) (text : List ℕ) (q : NamedParam) (from : ℕ)
    → drop from text ≡ spaced (q.name ++ spaced (signed_decimal q.value)) → is_name q.name ≡ true
    → is_taken (names_of g.params) q.name ≡ false → FitsSigned w64 q.value
    → Done (entry_at g Param text from) (record g { params = g.params ++ q ∷ [] }) text
unfolding entry_at param_at
param_done g text q from cut is free fits =
    let w = q.name in
    let p1 = from + 1 + length w in
    let last =
    last_field text (signed_decimal q.value) p1
    (behind_word text w (spaced (signed_decimal q.value)) from cut) in
    let F : Word → Result (ProgramEntries × ℕ) LangError =
    λ v. cond (is_taken (names_of g.params) v.bytes) (Err (Repeat v.at))
    (signed_at text (word_end v) least_i64 greatest_i64 >>= λ x. Ok
    (record g { params = g.params ++ param v.bytes x.0 ∷ [] }, x.1)) in
    record {
      at = p1 + 1 + length (signed_decimal q.value);
      is =
          ap (λ (o : Result Word LangError). o >>= F)
          (next_name text w (spaced (signed_decimal q.value)) from cut is refl)
          ∙ ap (λ b. cond b (Err (Repeat (from + 1)))
          (signed_at text p1 least_i64 greatest_i64 >>= λ x. Ok
          (record g { params = g.params ++ param w x.0 ∷ [] }, x.1))) free
          ∙ ap (λ (o : Result (ℤ × ℕ) LangError). o >>= λ x. Ok
          (record g { params = g.params ++ param w x.0 ∷ [] }, x.1))
          (next_signed text [] p1 q.value least_i64 greatest_i64 last fits
          (least_fits q.value fits) (greatest_fits q.value fits) tt);
      end = behind_word text (signed_decimal q.value) [] p1 last;
    }

-- the names before a param
names_before : (xs ys : List NamedParam) (y : NamedParam)
    → take (length xs) (names_of (xs ++ y ∷ ys)) ≡ names_of xs
names_before xs ys y =
    ap (take (length xs)) (map-append (λ (p : NamedParam). p.name) xs (y ∷ ys))
    ∙ take_at (names_of xs) (names_of (y ∷ ys)) (length xs) (length-names xs)

name_here : (xs ys : List NamedParam) (y : NamedParam)
    → param_name (names_of (xs ++ y ∷ ys)) (length xs) ≡ y.name
name_here [] ys y = refl
name_here (x ∷ xs) ys y = name_here xs ys y

pub params_read : (g : ProgramEntries) → AreNames (names_of g.params)
    → All (FitsSigned w64) (values_of g.params) → length g.params ≤ 64
    → Steps (draft_of g 8 [] []) (param_lines g.params)
    (draft_of g (after 8 9 g.params) g.params [])
params_read g names values few =
    list_steps (λ s ps. draft_of g s ps []) (λ k q. param_line q) (λ k ps. param_lines ps) g.params
    8 9 (omega arith) (λ k. refl) (λ k x xs. refl) each 8 [] g.params 0 refl (omega arith)
    (omega arith) refl
  where
    each : (s : ℕ) (done : List NamedParam) (x : NamedParam) (rest : List NamedParam)
        → done ++ x ∷ rest ≡ g.params → 8 ≤ s → s ≤ 9
        → Reads (draft_of g s done []) (param_line x) (draft_of g 9 (done ++ x ∷ []) [])
    each s done x rest is least most =
        let N : List NamedParam → Type 0 = λ l. AreNames (names_of l) in
        let here : AreNames (names_of (done ++ x ∷ rest)) = subst N (sym is) names in
        let k = length done in
        let below : k < length (names_of (done ++ x ∷ rest)) =
        omega (arith, length-names (done ++ x ∷ rest), middle_below done rest x) in
        let form : is_name x.name ≡ true =
        ap is_name (sym (name_here done rest x)) ∙ here.form k below in
        let free : is_taken (names_of done) x.name ≡ false =
        (λ i. is_taken (sym (names_before done rest x) i) (sym (name_here done rest x) i))
        ∙ here.free k below in
        let fits : FitsSigned w64 x.value =
        mapped_middle (λ (p : NamedParam). p.value) (FitsSigned w64) g.params done rest x is values
        in
        let count : length done < 64 =
        omega (arith, middle_below done rest x, ap (λ (l : List NamedParam). length l) is) in
        let d = draft_of g s done [] in
        reads_entry d (codes "param") (spaced (x.name ++ spaced (signed_decimal x.value))) Param
        (record d.entries { params = done ++ x ∷ [] }) param_word
        (passes-append is_printed (codes "param ") (x.name ++ spaced (signed_decimal x.value))
        (refl, (refl, (refl, (refl, (refl, (refl, tt))))))
        (passes-append is_printed x.name (spaced (signed_decimal x.value))
        (name_printed x.name form) (refl, signed_printed x.value fits)))
        refl param_key
        (λ at. admitted_by d Param at (not_past d Param most (omega arith))
        (due_is d Lane Param (due_lane d least refl) (omega arith)) (params_room d count))
        (λ text from cut. param_done d.entries text x from cut form free fits)

-- the next number
pub index_reads : (line rest : List ℕ) (p next : ℕ) (k : Keyword)
    → drop p line ≡ spaced (decimal next ++ spaced rest) → next < 2 ^ 64
    → index_at line p k next ≡ Ok (p + 1 + length (decimal next))
unfolding index_at
index_reads line rest p next k cut small =
    ap (λ (o : Result Word LangError). o >>= λ w. index_of k next w (unsigned_of w.bytes))
    (next_word line (decimal next) (spaced rest) p cut (decimal_field next small) refl)
    ∙ ap (index_of k next (record { at = p + 1; bytes = decimal next }))
    (unsigned_decimal next small)
    ∙ index_is k next (record { at = p + 1; bytes = decimal next })
  where
    not_below : (n : ℕ) → nat_lt n n ≡ false
    not_below n = grind (arith, nat_tests)

    index_is : (k : Keyword) (n : ℕ) (w : Word) → index_of k n w (Some n) ≡ Ok (word_end w)
    index_is k n w =
        ap (λ b. cond b (Err (Repeat w.at)) (cond (nat_lt n n) (Err (Missing k)) (Ok (word_end w))))
        (not_below n) ∙ ap (λ b. cond b (Err (Missing k)) (Ok (word_end w))) (not_below n)

lane_done : (g : ProgramEntries) (text : List ℕ) (r : LaneRange) (k from : ℕ) → k ≡ length g.ranges
    → k < 8 → drop from text ≡ spaced
    (decimal k ++ spaced (signed_decimal r.lo ++ spaced (signed_decimal r.hi))) → IsRange r.lo r.hi
    → Done (entry_at g Lane text from) (record g { ranges = g.ranges ++ r ∷ [] }) text
unfolding entry_at lane_at
lane_done g text r k from count small cut h =
    let rest = signed_decimal r.lo ++ spaced (signed_decimal r.hi) in
    let p1 = from + 1 + length (decimal k) in
    let q =
    range_reads text p1 r.lo r.hi greatest_i64 least_i64
    (behind_word text (decimal k) (spaced rest) from cut) h (greatest_fits r.lo h.lo_fits)
    (least_fits r.hi h.hi_fits) in
    record {
      at = q.0;
      is =
          ap (λ (n : ℕ). index_at text from Lane n >>= λ p. range_at text p greatest_i64 least_i64
          >>= λ x. Ok (record g { ranges = g.ranges ++ x.0 ∷ [] }, x.1)) (sym count)
          ∙ ap (λ (o : Result ℕ LangError). o >>= λ p. range_at text p greatest_i64 least_i64
          >>= λ x. Ok (record g { ranges = g.ranges ++ x.0 ∷ [] }, x.1))
          (index_reads text rest from k Lane cut (omega arith))
          ∙ ap (λ (o : Result (LaneRange × ℕ) LangError). o >>= λ x. Ok
          (record g { ranges = g.ranges ++ x.0 ∷ [] }, x.1)) q.1;
      end = q.2;
    }

pub lanes_read : (g : ProgramEntries) (s : ℕ) → 8 ≤ s → s ≤ 10
    → All (λ r. IsRange r.lo r.hi) g.ranges → length g.ranges ≤ 8
    → Steps (draft_of g s g.params []) (lane_lines 0 g.ranges)
    (draft_of g (after s 10 g.ranges) g.params g.ranges)
lanes_read g s late early ranges few =
    list_steps (λ t rs. draft_of g t g.params rs) lane_line lane_lines g.ranges 8 10 (omega arith)
    (λ k. refl) (λ k x xs. refl) each s [] g.ranges 0 refl late early refl
  where
    due : (d : Draft) → 8 ≤ d.stage → length d.entries.init ≡ 0 → (n : ℕ)
        → length d.entries.ranges ≡ n
        → Rattle.vertex_lang.specs.Drafts.due_before (Rattle.vertex_lang.specs.Drafts.first_due d)
        Lane ≡ Ok tt
    due d late empty zero e = due_is d Lane Lane (due_lane d late e) (omega arith)
    due d late empty (suc n) e =
        due_is d Rattle.text_words.specs.declared.error.Keyword.TheVariants.Init Lane
        (due_init d late (omega arith)) (omega arith)

    each : (t : ℕ) (done : List LaneRange) (x : LaneRange) (rest : List LaneRange)
        → done ++ x ∷ rest ≡ g.ranges → 8 ≤ t → t ≤ 10
        → Reads (draft_of g t g.params done) (lane_line (length done) x)
        (draft_of g 10 g.params (done ++ x ∷ []))
    each t done x rest is least most =
        let h : IsRange x.lo x.hi =
        all_middle (λ (r : LaneRange). IsRange r.lo r.hi) g.ranges done rest x is ranges in
        let k = length done in
        let count : k < 8 =
        omega (arith, middle_below done rest x, ap (λ (l : List LaneRange). length l) is) in
        let d = draft_of g t g.params done in
        let low = signed_decimal x.lo in
        let high = signed_decimal x.hi in
        reads_entry d (codes "lane") (spaced (decimal k ++ spaced (low ++ spaced high))) Lane
        (record d.entries { ranges = done ++ x ∷ [] }) lane_word
        (passes-append is_printed (codes "lane ") (decimal k ++ spaced (low ++ spaced high))
        (refl, (refl, (refl, (refl, (refl, tt)))))
        (passes-append is_printed (decimal k) (spaced (low ++ spaced high))
        (decimal_printed k (omega arith)) (
          refl,
          passes-append is_printed low (spaced high) (signed_printed x.lo h.lo_fits)
              (refl, signed_printed x.hi h.hi_fits),
        )))
        refl lane_key
        (λ at. admitted_by d Lane at (not_past d Lane most (omega arith))
        (due d least refl (length done) refl) (lane_room d count))
        (λ text from cut. lane_done d.entries text x k from refl count cut h)
