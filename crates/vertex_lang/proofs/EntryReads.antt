-- The entries of printed lines that stand once are read again.
use Rattle.std.proofs.Common.{◌≡◌, w64, ℕ, ℤ, pos, negsuc, ◌+◌, ◌≤ℤ◌, Bool, true}
use Rattle.std.proofs.Common.{false, cond, List, [], ◌∷◌, ◌++◌, length, drop, Some}
use Rattle.std.proofs.Common.{Result, Ok, refl, sym, ◌∙◌, ap, arith, length-append}
use Rattle.std.specs.Prelude.{codes, decimal, int_lt, FitsSigned}
use Rattle.std.specs.Int.{int_max}
use Rattle.std.specs.Fmt.{signed_decimal}
use Rattle.std.proofs.lemmas.Int.{ints}
use Rattle.std.proofs.lemmas.List.{append-nil, drop-drop, drop_at}
use Rattle.vertex_expr.specs.Names.{is_name}
use Rattle.vertex_expr.specs.Writable.{IsRange, IsWithin, IsCombination}
use Rattle.vertex_expr.specs.declared.program.Combine.{Combine}
use Rattle.vertex_expr.specs.declared.program.Combine.TheVariants.{Sum, Min, Max}
use Rattle.vertex_expr.specs.declared.program.LaneRange.{LaneRange}
use Rattle.vertex_expr.specs.declared.program.ProgramEntries.{ProgramEntries}
use Rattle.lexical.specs.Words.{Word, words_from}
use Rattle.text_words.specs.Fields.{◌>>=◌, ended_at, word_end}
use Rattle.text_words.specs.declared.error.LangError.{LangError}
use Rattle.text_words.specs.declared.error.Keyword.{Keyword}
use Rattle.text_words.specs.declared.error.Keyword.TheVariants.{Program, Vertices, Degree, Edges}
use Rattle.text_words.specs.declared.error.Keyword.TheVariants.{Weight, Attr, Rounds}
use Rattle.text_words.specs.declared.error.Keyword.TheVariants.{Combine as CombineWord}
use Rattle.text_words.proofs.Lexing.{Passes}
use Rattle.text_words.proofs.PrintedLines.{is_printed}
use Rattle.text_words.proofs.FieldLemmas.{IsField, IsEnd, words_in_front, ascii_field, next_word}
use Rattle.text_words.proofs.FieldLemmas.{behind_word, at_end, next_number, next_signed, next_name}
use Rattle.vertex_lang.specs.declared.draft.Draft.{Draft}
use Rattle.vertex_lang.specs.Keywords.{order, keyword_of}
use Rattle.vertex_lang.specs.Entries.{least_i64, greatest_i64, range_at, combine_at, combine_of}
use Rattle.vertex_lang.specs.Entries.{entry_at}
use Rattle.vertex_lang.specs.Drafts.{admitted, entered, keyed, begun, line_step}
use Rattle.vertex_lang.specs.Canonical.{spaced}
use Rattle.vertex_lang.proofs.LineReads.{Reads}

-- what stands behind an entry's word gives these entries, and the line ends there
pub record Done (o : Result (ProgramEntries × ℕ) LangError) (g : ProgramEntries) (text : List ℕ)
    : Type 0 where
  pub at : ℕ
  pub is : o ≡ Ok (g, at)
  pub end : drop at text ≡ []

entered_ok : (d : Draft) (line : List ℕ) (p from q : ℕ) (k : Keyword) (g : ProgramEntries)
    → admitted d k p ≡ Ok tt → entry_at d.entries k line from ≡ Ok (g, q) → ended_at line q ≡ Ok tt
    → entered d line p from k ≡ Ok (record { stage = order k + 1; entries = g })
unfolding entered
entered_ok d line p from q k g may is end =
    ap (λ (o : Result (Unit {0}) LangError). o >>= λ u. entry_at d.entries k line from >>= λ e.
    ended_at line e.1 >>= λ v. Ok (record { stage = order k + 1; entries = e.0 })) may
    ∙ ap (λ (o : Result (ProgramEntries × ℕ) LangError). o >>= λ e. ended_at line e.1 >>= λ v. Ok
    (record { stage = order k + 1; entries = e.0 })) is
    ∙ ap (λ (o : Result (Unit {0}) LangError). o >>= λ v. Ok
    (record { stage = order k + 1; entries = g })) end

key_step : (d : Draft) (line kw rest : List ℕ) (p : ℕ) (k : Keyword) (z : Result Draft LangError)
    → drop p line ≡ kw ++ rest → IsField kw → IsEnd rest → keyword_of kw ≡ Some k
    → entered d line p (p + length kw) k ≡ z → line_step d line p ≡ z
unfolding line_step
key_step d line kw rest p k z cut f e is next =
    ap (begun d line) (ap (words_from 0 p) cut ∙ words_in_front kw rest p f e)
    ∙ ap (λ (o : Result Word LangError). o >>= λ v. keyed d line v (keyword_of v.bytes))
    (ascii_field kw p f)
    ∙ ap (keyed d line (record { at = p; bytes = kw })) is
    ∙ next

-- a line of a word and what stands behind it
pub reads_entry : (d : Draft) (kw rest : List ℕ) (k : Keyword) (g : ProgramEntries) → IsField kw
    → Passes is_printed (kw ++ rest) → IsEnd rest → keyword_of kw ≡ Some k
    → ((at : ℕ) → admitted d k at ≡ Ok tt)
    → ((text : List ℕ) (from : ℕ) → drop from text ≡ rest
    → Done (entry_at d.entries k text from) g text)
    → Reads d (kw ++ rest) (record { stage = order k + 1; entries = g })
reads_entry d kw rest k g f printed e is may done = record {
  some = let s = f.some in omega (arith, length-append kw rest);
  printed = printed;
  step = λ text p cut.
      let behind_key : drop (p + length kw) text ≡ rest =
      sym (drop-drop (length kw) p text) ∙ ap (drop (length kw)) cut
      ∙ drop_at kw rest (length kw) refl in
      let r = done text (p + length kw) behind_key in
      key_step d text kw rest p k _ cut f e is
      (entered_ok d text p (p + length kw) r.at k g (may p) r.is (at_end text r.at r.end));
}

-- a field that ends its line
pub last_field : (line w : List ℕ) (p : ℕ) → drop p line ≡ 32 ∷ w → drop p line ≡ 32 ∷ (w ++ [])
last_field line w p cut = cut ∙ ap (λ (l : List ℕ). 32 ∷ l) (sym (append-nil w))

pub least_fits : (z : ℤ) → FitsSigned w64 z → least_i64 ≤ℤ z
least_fits (pos n) h = grind (arith, ints)
least_fits (negsuc n) h = grind (arith, ints)

pub greatest_fits : (z : ℤ) → FitsSigned w64 z → z ≤ℤ greatest_i64
greatest_fits (pos n) h = grind (arith, ints)
greatest_fits (negsuc n) h = grind (arith, ints)

max_below : (a b c : ℤ) → a ≤ℤ c → b ≤ℤ c → int_max a b ≤ℤ c
max_below a b c h i = pick (int_lt b a)
  where
    pick : (t : Bool) → cond t a b ≤ℤ c
    pick true = h
    pick false = i

-- two printed numbers
pub range_reads : (line : List ℕ) (p : ℕ) (lo hi lo_most hi_least : ℤ)
    → drop p line ≡ spaced (signed_decimal lo ++ spaced (signed_decimal hi)) → IsRange lo hi
    → lo ≤ℤ lo_most → hi_least ≤ℤ hi
    → (q : ℕ) × (range_at line p lo_most hi_least ≡ Ok (record { lo = lo; hi = hi }, q))
    × (drop q line ≡ [])
unfolding range_at
range_reads line p lo hi lo_most hi_least cut h most least =
    let a = signed_decimal lo in
    let b = signed_decimal hi in
    let p1 = p + 1 + length a in
    let p2 = p1 + 1 + length b in
    let cut1 : drop p1 line ≡ 32 ∷ (b ++ []) =
    last_field line b p1 (behind_word line a (spaced b) p cut) in
    let one =
    next_signed line (spaced b) p lo least_i64 lo_most cut h.lo_fits (least_fits lo h.lo_fits) most
    refl in
    let two =
    next_signed line [] p1 hi (int_max lo hi_least) greatest_i64 cut1 h.hi_fits
    (max_below lo hi_least hi h.order least) (greatest_fits hi h.hi_fits) tt in (
      p2,
      ap (λ (o : Result (ℤ × ℕ) LangError). o >>= λ x. Rattle.text_words.specs.Fields.signed_at line
          x.1 (int_max x.0 hi_least) greatest_i64 >>= λ y. Ok (record { lo = x.0; hi = y.0 }, y.1))
          one
          ∙ ap (λ (o : Result (ℤ × ℕ) LangError). o >>= λ y. Ok (record { lo = lo; hi = y.0 }, y.1))
          two,
      behind_word line b [] p1 cut1,
    )

pub name_done : (g : ProgramEntries) (text w : List ℕ) (from : ℕ) → drop from text ≡ spaced w
    → is_name w ≡ true → Done (entry_at g Program text from) (record g { name = w }) text
unfolding entry_at
name_done g text w from cut is =
    let last = last_field text w from cut in
    record {
      at = from + 1 + length w;
      is = ap
          (λ (o : Result Word LangError). o >>= λ x. Ok (record g { name = x.bytes }, word_end x))
          (next_name text w [] from last is tt);
      end = behind_word text w [] from last;
    }

pub vertices_done : (g : ProgramEntries) (text : List ℕ) (n from : ℕ)
    → drop from text ≡ spaced (decimal n) → IsWithin 1 1000000 n
    → Done (entry_at g Vertices text from) (record g { limits = record g.limits { vertices = n } })
    text
unfolding entry_at
vertices_done g text n from cut h =
    let last = last_field text (decimal n) from cut in
    record {
      at = from + 1 + length (decimal n);
      is = ap
          (λ (o : Result (ℕ × ℕ) LangError). o >>= λ x. Ok
          (record g { limits = record g.limits { vertices = x.0 } }, x.1))
          (next_number text [] from n 1 1000000 last (let m = h.most in omega arith) h.least h.most
          tt);
      end = behind_word text (decimal n) [] from last;
    }

pub degree_done : (g : ProgramEntries) (text : List ℕ) (n from : ℕ)
    → drop from text ≡ spaced (decimal n) → IsWithin 1 1000000 n
    → Done (entry_at g Degree text from) (record g { limits = record g.limits { degree = n } }) text
unfolding entry_at
degree_done g text n from cut h =
    let last = last_field text (decimal n) from cut in
    record {
      at = from + 1 + length (decimal n);
      is = ap
          (λ (o : Result (ℕ × ℕ) LangError). o >>= λ x. Ok
          (record g { limits = record g.limits { degree = x.0 } }, x.1))
          (next_number text [] from n 1 1000000 last (let m = h.most in omega arith) h.least h.most
          tt);
      end = behind_word text (decimal n) [] from last;
    }

pub edges_done : (g : ProgramEntries) (text : List ℕ) (n from : ℕ)
    → drop from text ≡ spaced (decimal n) → IsWithin 1 8000000 n
    → Done (entry_at g Edges text from) (record g { limits = record g.limits { edges = n } }) text
unfolding entry_at
edges_done g text n from cut h =
    let last = last_field text (decimal n) from cut in
    record {
      at = from + 1 + length (decimal n);
      is = ap
          (λ (o : Result (ℕ × ℕ) LangError). o >>= λ x. Ok
          (record g { limits = record g.limits { edges = x.0 } }, x.1))
          (next_number text [] from n 1 8000000 last (let m = h.most in omega arith) h.least h.most
          tt);
      end = behind_word text (decimal n) [] from last;
    }

pub rounds_done : (g : ProgramEntries) (text : List ℕ) (n from : ℕ)
    → drop from text ≡ spaced (decimal n) → IsWithin 1 64 n
    → Done (entry_at g Rounds text from) (record g { rounds = n }) text
unfolding entry_at
rounds_done g text n from cut h =
    let last = last_field text (decimal n) from cut in
    record {
      at = from + 1 + length (decimal n);
      is = ap
          (λ (o : Result (ℕ × ℕ) LangError). o >>= λ x. Ok (record g { rounds = x.0 }, x.1))
          (next_number text [] from n 1 64 last (let m = h.most in omega arith) h.least h.most tt);
      end = behind_word text (decimal n) [] from last;
    }

pub weight_done : (g : ProgramEntries) (text : List ℕ) (lo hi : ℤ) (from : ℕ)
    → drop from text ≡ spaced (signed_decimal lo ++ spaced (signed_decimal hi)) → IsRange lo hi
    → Done (entry_at g Weight text from)
    (record g { limits = record g.limits { weight_lo = lo; weight_hi = hi } }) text
unfolding entry_at
weight_done g text lo hi from cut h =
    let r =
    range_reads text from lo hi greatest_i64 least_i64 cut h (greatest_fits lo h.lo_fits)
    (least_fits hi h.hi_fits) in
    record {
      at = r.0;
      is = ap (λ (o : Result (LaneRange × ℕ) LangError). o >>= λ x. Ok
          (record g { limits = record g.limits { weight_lo = x.0.lo; weight_hi = x.0.hi } }, x.1))
          r.1;
      end = r.2;
    }

pub attr_done : (g : ProgramEntries) (text : List ℕ) (lo hi : ℤ) (from : ℕ)
    → drop from text ≡ spaced (signed_decimal lo ++ spaced (signed_decimal hi)) → IsRange lo hi
    → lo ≤ℤ pos 0 → pos 0 ≤ℤ hi
    → Done (entry_at g Attr text from)
    (record g { limits = record g.limits { attr_lo = lo; attr_hi = hi } }) text
unfolding entry_at
attr_done g text lo hi from cut h least most =
    let r = range_reads text from lo hi (pos 0) (pos 0) cut h least most in
    record {
      at = r.0;
      is = ap (λ (o : Result (LaneRange × ℕ) LangError). o >>= λ x. Ok
          (record g { limits = record g.limits { attr_lo = x.0.lo; attr_hi = x.0.hi } }, x.1)) r.1;
      end = r.2;
    }

-- the number of an empty aggregate behind its word
empty_reads : (line : List ℕ) (p : ℕ) (e : ℤ) → drop p line ≡ spaced (signed_decimal e)
    → FitsSigned w64 e
    → (Rattle.text_words.specs.Fields.signed_at line p least_i64 greatest_i64
    ≡ Ok (e, p + 1 + length (signed_decimal e)))
    × (drop (p + 1 + length (signed_decimal e)) line ≡ [])
empty_reads line p e cut fits =
    let last = last_field line (signed_decimal e) p cut in (
      next_signed line [] p e least_i64 greatest_i64 last fits (least_fits e fits)
          (greatest_fits e fits) tt,
      behind_word line (signed_decimal e) [] p last,
    )

sum_word : IsField (codes "sum")
sum_word = record { some = omega arith; whole = (refl, (refl, (refl, tt))); ascii = refl }

min_word : IsField (codes "min")
min_word = record { some = omega arith; whole = (refl, (refl, (refl, tt))); ascii = refl }

max_word : IsField (codes "max")
max_word = record { some = omega arith; whole = (refl, (refl, (refl, tt))); ascii = refl }

-- what is printed behind `combine`
abbrev pub combination : Combine → List ℕ
combination Sum = spaced (codes "sum")
combination (Min e) = spaced (codes "min" ++ spaced (signed_decimal e))
combination (Max e) = spaced (codes "max" ++ spaced (signed_decimal e))

pub combine_done : (g : ProgramEntries) (text : List ℕ) (c : Combine) (from : ℕ)
    → drop from text ≡ combination c → IsCombination c
    → Done (entry_at g CombineWord text from) (record g { combine = c }) text
unfolding entry_at combine_at
combine_done g text Sum from cut h =
    let last = last_field text (codes "sum") from cut in
    record {
      at = from + 1 + 3;
      is = ap
          (λ (o : Result Word LangError). (o >>= combine_of text) >>= λ x. Ok
          (record g { combine = x.0 }, x.1))
          (next_word text (codes "sum") [] from last sum_word tt);
      end = behind_word text (codes "sum") [] from last;
    }
combine_done g text (Min e) from cut h =
    let cut1 = behind_word text (codes "min") (spaced (signed_decimal e)) from cut in
    let r = empty_reads text (from + 1 + 3) e cut1 h in
    record {
      at = from + 1 + 3 + 1 + length (signed_decimal e);
      is =
          ap (λ (o : Result Word LangError). (o >>= combine_of text) >>= λ x. Ok
          (record g { combine = x.0 }, x.1))
          (next_word text (codes "min") (spaced (signed_decimal e)) from cut min_word refl)
          ∙ ap (λ (o : Result (ℤ × ℕ) LangError).
          (o >>= λ y. let p : Combine × ℕ = (Min y.0, y.1) in Ok p) >>= λ x. Ok
          (record g { combine = x.0 }, x.1)) r.0;
      end = r.1;
    }
combine_done g text (Max e) from cut h =
    let cut1 = behind_word text (codes "max") (spaced (signed_decimal e)) from cut in
    let r = empty_reads text (from + 1 + 3) e cut1 h in
    record {
      at = from + 1 + 3 + 1 + length (signed_decimal e);
      is =
          ap (λ (o : Result Word LangError). (o >>= combine_of text) >>= λ x. Ok
          (record g { combine = x.0 }, x.1))
          (next_word text (codes "max") (spaced (signed_decimal e)) from cut max_word refl)
          ∙ ap (λ (o : Result (ℤ × ℕ) LangError).
          (o >>= λ y. let p : Combine × ℕ = (Max y.0, y.1) in Ok p) >>= λ x. Ok
          (record g { combine = x.0 }, x.1)) r.0;
      end = r.1;
    }
