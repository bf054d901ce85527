-- The entries that stand once, a line each, are read again.
use Rattle.std.proofs.Common.{◌≡◌, ℕ, ℤ, ◌^◌, ◌<◌, List, [], ◌++◌}
use Rattle.std.proofs.Common.{Some, Ok, refl, arith}
use Rattle.std.specs.Prelude.{codes, decimal}
use Rattle.std.specs.Fmt.{signed_decimal}
use Rattle.vertex_expr.specs.Writable.{IsWritable, IsRange, IsCombination}
use Rattle.vertex_expr.specs.declared.program.Combine.{Combine}
use Rattle.vertex_expr.specs.declared.program.Combine.TheVariants.{Sum, Min, Max}
use Rattle.vertex_expr.specs.declared.program.ProgramEntries.{ProgramEntries}
use Rattle.text_words.specs.declared.error.Keyword.{Keyword}
use Rattle.text_words.specs.declared.error.Keyword.TheVariants.{Program, Vertices, Degree, Edges}
use Rattle.text_words.specs.declared.error.Keyword.TheVariants.{Weight, Attr, Rounds}
use Rattle.text_words.specs.declared.error.Keyword.TheVariants.{Combine as CombineWord, Param, Lane}
use Rattle.text_words.specs.declared.error.Keyword.TheVariants.{Init, Contribute, Apply}
use Rattle.text_words.proofs.Lexing.{Passes, passes-append}
use Rattle.text_words.proofs.PrintedLines.{is_printed, decimal_printed, signed_printed}
use Rattle.text_words.proofs.PrintedLines.{name_printed}
use Rattle.text_words.proofs.FieldLemmas.{IsField, IsEnd}
use Rattle.vertex_lang.specs.declared.draft.Draft.{Draft}
use Rattle.vertex_lang.specs.Keywords.{order, keyword_of, once_at}
use Rattle.vertex_lang.specs.Drafts.{admitted, is_past, first_due, is_full, blank}
use Rattle.vertex_lang.specs.Canonical.{spaced, once_lines, number_line, range_line}
use Rattle.vertex_lang.specs.Canonical.{combine_line}
use Rattle.vertex_lang.proofs.LineReads.{Reads, Steps}
use Rattle.vertex_lang.proofs.EntryReads.{reads_entry, name_done, vertices_done, degree_done}
use Rattle.vertex_lang.proofs.EntryReads.{edges_done, rounds_done, weight_done, attr_done}
use Rattle.vertex_lang.proofs.EntryReads.{combine_done, combination}
use Rattle.vertex_lang.proofs.ListReads.{draft_of}

abbrev at_stage : ℕ → ProgramEntries → Draft
at_stage s g = record { stage = s; entries = g }

-- each of them may stand in its place
once_may : (k : Keyword) (g : ProgramEntries) (at : ℕ) → order k < 8
    → admitted (at_stage (order k) g) k at ≡ Ok tt
unfolding admitted is_past first_due once_at is_full
once_may Program g at h = refl
once_may Vertices g at h = refl
once_may Degree g at h = refl
once_may Edges g at h = refl
once_may Weight g at h = refl
once_may Attr g at h = refl
once_may Rounds g at h = refl
once_may CombineWord g at h = refl
once_may Param g at h = absurd (omega arith)
once_may Lane g at h = absurd (omega arith)
once_may Init g at h = absurd (omega arith)
once_may Contribute g at h = absurd (omega arith)
once_may Apply g at h = absurd (omega arith)

program_key : keyword_of (codes "program") ≡ Some Program
unfolding keyword_of
program_key = refl

program_word : IsField (codes "program")
program_word =
    record {
      some = omega arith;
      whole = (refl, (refl, (refl, (refl, (refl, (refl, (refl, tt)))))));
      ascii = refl;
    }

vertices_key : keyword_of (codes "vertices") ≡ Some Vertices
unfolding keyword_of
vertices_key = refl

vertices_word : IsField (codes "vertices")
vertices_word =
    record {
      some = omega arith;
      whole =
          (refl, (refl, (refl, (refl, (refl, (refl, (refl, (refl, tt))))))));
      ascii = refl;
    }

degree_key : keyword_of (codes "degree") ≡ Some Degree
unfolding keyword_of
degree_key = refl

degree_word : IsField (codes "degree")
degree_word =
    record {
      some = omega arith;
      whole = (refl, (refl, (refl, (refl, (refl, (refl, tt))))));
      ascii = refl;
    }

edges_key : keyword_of (codes "edges") ≡ Some Edges
unfolding keyword_of
edges_key = refl

edges_word : IsField (codes "edges")
edges_word =
    record { some = omega arith; whole = (refl, (refl, (refl, (refl, (refl, tt))))); ascii = refl }

weight_key : keyword_of (codes "weight") ≡ Some Weight
unfolding keyword_of
weight_key = refl

weight_word : IsField (codes "weight")
weight_word =
    record {
      some = omega arith;
      whole = (refl, (refl, (refl, (refl, (refl, (refl, tt))))));
      ascii = refl;
    }

attr_key : keyword_of (codes "attr") ≡ Some Attr
unfolding keyword_of
attr_key = refl

attr_word : IsField (codes "attr")
attr_word = record { some = omega arith; whole = (refl, (refl, (refl, (refl, tt)))); ascii = refl }

rounds_key : keyword_of (codes "rounds") ≡ Some Rounds
unfolding keyword_of
rounds_key = refl

rounds_word : IsField (codes "rounds")
rounds_word =
    record {
      some = omega arith;
      whole = (refl, (refl, (refl, (refl, (refl, (refl, tt))))));
      ascii = refl;
    }

combine_key : keyword_of (codes "combine") ≡ Some CombineWord
unfolding keyword_of
combine_key = refl

combine_word : IsField (codes "combine")
combine_word =
    record {
      some = omega arith;
      whole = (refl, (refl, (refl, (refl, (refl, (refl, (refl, tt)))))));
      ascii = refl;
    }

number_printed : (w : List ℕ) (n : ℕ) → Passes is_printed w → n < 2 ^ 64
    → Passes is_printed (number_line w n)
number_printed w n h small =
    passes-append is_printed w (spaced (decimal n)) h (refl, decimal_printed n small)

range_printed : (w : List ℕ) (lo hi : ℤ) → Passes is_printed w → IsRange lo hi
    → Passes is_printed (range_line w lo hi)
range_printed w lo hi h r =
    passes-append is_printed w (spaced (signed_decimal lo ++ spaced (signed_decimal hi))) h (
      refl,
      passes-append is_printed (signed_decimal lo) (spaced (signed_decimal hi))
          (signed_printed lo r.lo_fits) (refl, signed_printed hi r.hi_fits),
    )

combine_printed : (c : Combine) → IsCombination c
    → Passes is_printed (codes "combine" ++ combination c)
combine_printed Sum h =
    (refl, (refl, (refl, (refl, (refl, (refl, (refl, (refl, (refl, (refl, (refl, tt)))))))))))
combine_printed (Min e) h =
    passes-append is_printed (codes "combine min ") (signed_decimal e) (
      refl,
      (
        refl,
        (
          refl,
          (
            refl,
            (
              refl,
              (refl, (refl, (refl, (refl, (refl, (refl, (refl, tt))))))),
            ),
          ),
        ),
      ),
    ) (signed_printed e h)
combine_printed (Max e) h =
    passes-append is_printed (codes "combine max ") (signed_decimal e) (
      refl,
      (
        refl,
        (
          refl,
          (
            refl,
            (
              refl,
              (refl, (refl, (refl, (refl, (refl, (refl, (refl, tt))))))),
            ),
          ),
        ),
      ),
    ) (signed_printed e h)

combination_end : (c : Combine) → IsEnd (combination c)
combination_end Sum = refl
combination_end (Min e) = refl
combination_end (Max e) = refl

combine_reads : (d e : Draft) (c : Combine) → Reads d (codes "combine" ++ combination c) e
    → Reads d (combine_line c) e
combine_reads d e Sum h = h
combine_reads d e (Min x) h = h
combine_reads d e (Max x) h = h

pub once_read : (g : ProgramEntries) → IsWritable g
    → Steps blank (once_lines g) (draft_of g 8 [] [])
once_read g h =
    let l = g.limits in
    let g0 = blank.entries in
    let g1 : ProgramEntries = record g0 { name = g.name } in
    let g2 : ProgramEntries = record g1 { limits = record g1.limits { vertices = l.vertices } } in
    let g3 : ProgramEntries = record g2 { limits = record g2.limits { degree = l.degree } } in
    let g4 : ProgramEntries = record g3 { limits = record g3.limits { edges = l.edges } } in
    let g5 : ProgramEntries =
    record g4 { limits = record g4.limits { weight_lo = l.weight_lo; weight_hi = l.weight_hi } } in
    let g6 : ProgramEntries =
    record g5 { limits = record g5.limits { attr_lo = l.attr_lo; attr_hi = l.attr_hi } } in
    let g7 : ProgramEntries = record g6 { rounds = g.rounds } in
    let g8 : ProgramEntries = record g7 { combine = g.combine } in (
      at_stage 1 g1,
      reads_entry (at_stage 0 g0) (codes "program") (spaced g.name) Program g1 program_word
          (passes-append is_printed (codes "program ") g.name
          (refl, (refl, (refl, (refl, (refl, (refl, (refl, (refl, tt))))))))
          (name_printed g.name h.name)) refl program_key
          (λ at. once_may Program g0 at (omega arith))
          (λ text from cut. name_done g0 text g.name from cut h.name),
      (
        at_stage 2 g2,
        reads_entry (at_stage 1 g1) (codes "vertices") (spaced (decimal l.vertices)) Vertices g2
            vertices_word (number_printed (codes "vertices") l.vertices
            (refl, (refl, (refl, (refl, (refl, (refl, (refl, (refl, tt))))))))
            (let m = h.limits.vertices.most in omega arith)) refl vertices_key
            (λ at. once_may Vertices g1 at (omega arith))
            (λ text from cut. vertices_done g1 text l.vertices from cut h.limits.vertices),
        (
          at_stage 3 g3,
          reads_entry (at_stage 2 g2) (codes "degree") (spaced (decimal l.degree)) Degree g3
              degree_word (number_printed (codes "degree") l.degree
              (refl, (refl, (refl, (refl, (refl, (refl, tt))))))
              (let m = h.limits.degree.most in omega arith)) refl degree_key
              (λ at. once_may Degree g2 at (omega arith))
              (λ text from cut. degree_done g2 text l.degree from cut h.limits.degree),
          (
            at_stage 4 g4,
            reads_entry (at_stage 3 g3) (codes "edges") (spaced (decimal l.edges)) Edges g4
                edges_word (number_printed (codes "edges") l.edges
                (refl, (refl, (refl, (refl, (refl, tt)))))
                (let m = h.limits.edges.most in omega arith)) refl edges_key
                (λ at. once_may Edges g3 at (omega arith))
                (λ text from cut. edges_done g3 text l.edges from cut h.limits.edges),
            (
              at_stage 5 g5,
              reads_entry (at_stage 4 g4) (codes "weight")
                  (spaced (signed_decimal l.weight_lo ++ spaced (signed_decimal l.weight_hi)))
                  Weight g5 weight_word
                  (range_printed (codes "weight") l.weight_lo l.weight_hi
                  (refl, (refl, (refl, (refl, (refl, (refl, tt)))))) h.limits.weight) refl
                  weight_key (λ at. once_may Weight g4 at (omega arith))
                  (λ text from cut. weight_done g4 text l.weight_lo l.weight_hi from cut
                  h.limits.weight),
              (
                at_stage 6 g6,
                reads_entry (at_stage 5 g5) (codes "attr")
                    (spaced (signed_decimal l.attr_lo ++ spaced (signed_decimal l.attr_hi))) Attr g6
                    attr_word (range_printed (codes "attr") l.attr_lo l.attr_hi
                    (refl, (refl, (refl, (refl, tt)))) h.limits.attr) refl attr_key
                    (λ at. once_may Attr g5 at (omega arith))
                    (λ text from cut. attr_done g5 text l.attr_lo l.attr_hi from cut h.limits.attr
                    h.limits.attr_least h.limits.attr_most),
                (
                  at_stage 7 g7,
                  reads_entry (at_stage 6 g6) (codes "rounds") (spaced (decimal g.rounds)) Rounds g7
                      rounds_word (number_printed (codes "rounds") g.rounds
                      (refl, (refl, (refl, (refl, (refl, (refl, tt))))))
                      (let m = h.rounds.most in omega arith)) refl rounds_key
                      (λ at. once_may Rounds g6 at (omega arith))
                      (λ text from cut. rounds_done g6 text g.rounds from cut h.rounds),
                  (
                    at_stage 8 g8,
                    combine_reads (at_stage 7 g7) (at_stage 8 g8) g.combine
                        (reads_entry (at_stage 7 g7) (codes "combine") (combination g.combine)
                        CombineWord g8 combine_word (combine_printed g.combine h.combine)
                        (combination_end g.combine) combine_key
                        (λ at. once_may CombineWord g7 at (omega arith))
                        (λ text from cut. combine_done g7 text g.combine from cut h.combine)),
                    refl,
                  ),
                ),
              ),
            ),
          ),
        ),
      ),
    )
