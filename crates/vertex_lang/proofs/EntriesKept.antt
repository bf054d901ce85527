-- Each entry keeps a draft good.
use Rattle.std.proofs.Common.{◌≡◌, w64, ℕ, ℤ, pos, ◌+◌, ◌<◌, ◌≤◌, ◌≤ℤ◌, true, false}
use Rattle.std.proofs.Common.{cond, List, [], ◌∷◌, ◌++◌, length}
use Rattle.std.proofs.Common.{Ok, Err, refl, sym, ◌∙◌, ap, subst, arith, length-append}
use Rattle.std.specs.Prelude.{nat_le, All, FitsSigned}
use Rattle.std.proofs.lemmas.Bool.Decides.{nat_tests}
use Rattle.std.proofs.lemmas.Int.{ints}
use Rattle.std.proofs.lemmas.List.{map-append}
use Rattle.vertex_expr.specs.Tree.{Tree}
use Rattle.vertex_expr.specs.Names.{is_name, is_taken, AreNames}
use Rattle.vertex_expr.specs.Writable.{IsWithin, IsRange, IsCombination, IsTextTree, Scope}
use Rattle.vertex_expr.specs.Writable.{scope_in, names_of, values_of}
use Rattle.vertex_expr.specs.declared.expr.Part.TheVariants.{Init as InitPart}
use Rattle.vertex_expr.specs.declared.expr.Part.TheVariants.{Contribute as ContributePart}
use Rattle.vertex_expr.specs.declared.expr.Part.TheVariants.{Apply as ApplyPart}
use Rattle.bolt_base.specs.declared.limits.Limits.{Limits}
use Rattle.vertex_expr.specs.declared.program.Combine.{Combine}
use Rattle.vertex_expr.specs.declared.program.LaneRange.{LaneRange}
use Rattle.vertex_expr.specs.declared.program.NamedParam.{NamedParam}
use Rattle.vertex_expr.specs.declared.program.ProgramEntries.{ProgramEntries}
use Rattle.text_words.specs.Fields.{◌>>=◌, word_end, number_at, signed_at}
use Rattle.text_words.specs.Fields.{name_at}
use Rattle.text_words.specs.declared.error.LangError.TheVariants.{Repeat}
use Rattle.text_words.specs.declared.error.Keyword.{Keyword}
use Rattle.text_words.specs.declared.error.Keyword.TheVariants.{Program, Vertices, Degree, Edges}
use Rattle.text_words.specs.declared.error.Keyword.TheVariants.{Weight, Attr, Rounds}
use Rattle.text_words.specs.declared.error.Keyword.TheVariants.{Combine as CombineWord, Param, Lane}
use Rattle.text_words.specs.declared.error.Keyword.TheVariants.{Init, Contribute, Apply}
use Rattle.text_words.proofs.FieldFacts.{On, on_then, on_any, on_test, number_on, signed_on}
use Rattle.text_words.proofs.FieldFacts.{name_on}
use Rattle.vertex_lang.specs.declared.draft.Draft.{Draft}
use Rattle.vertex_lang.specs.Keywords.{order}
use Rattle.vertex_lang.specs.Entries.{least_i64, greatest_i64, range_at, combine_at}
use Rattle.vertex_lang.specs.Entries.{param, param_at, index_at, lane_at}
use Rattle.vertex_lang.specs.Entries.{tree_at, entry_at}
use Rattle.vertex_lang.specs.Drafts.{is_full}
use Rattle.vertex_lang.proofs.GoodDrafts.{IsAttrRange, IsBegun, HasTrees}
use Rattle.vertex_lang.proofs.GoodDrafts.{IsGood, IsAdmitted}
use Rattle.vertex_lang.proofs.EntryFacts.{fits_between, RangeFits, range_on, combine_on, All-push}
use Rattle.vertex_lang.proofs.EntryFacts.{name_pushed, TreeFits, tree_on}

-- what the entries that stand once said stays
kept_begun : (s t : ℕ) (g h : ProgramEntries) → 8 ≤ s → h.name ≡ g.name → h.limits ≡ g.limits
    → h.rounds ≡ g.rounds → h.combine ≡ g.combine → IsBegun s g → IsBegun t h
kept_begun s t g h late name limits rounds combine b =
    record {
      name = λ l. ap is_name name ∙ b.name (omega arith);
      vertices =
          λ l. let P : Limits → Type 0 = λ x. IsWithin 1 1000000 x.vertices in
          subst P (sym limits) (b.vertices (omega arith));
      degree =
          λ l. let P : Limits → Type 0 = λ x. IsWithin 1 1000000 x.degree in
          subst P (sym limits) (b.degree (omega arith));
      edges =
          λ l. let P : Limits → Type 0 = λ x. IsWithin 1 8000000 x.edges in
          subst P (sym limits) (b.edges (omega arith));
      weight =
          λ l. let P : Limits → Type 0 = λ x. IsRange x.weight_lo x.weight_hi in
          subst P (sym limits) (b.weight (omega arith));
      attr =
          λ l. let P : Limits → Type 0 = λ x. IsAttrRange x.attr_lo x.attr_hi in
          subst P (sym limits) (b.attr (omega arith));
      rounds = λ l. subst (IsWithin 1 64) (sym rounds) (b.rounds (omega arith));
      combine = λ l. subst IsCombination (sym combine) (b.combine late);
    }

-- with no expression before its part, the list of a part is empty and fits
no_trees : (s : Scope) (ts : List Tree) → ts ≡ [] → All (IsTextTree s) ts
no_trees s ts e =
    let P : List Tree → Type 0 = λ l. All (IsTextTree s) l in
    subst P (sym e) (λ k x l. absurd (omega arith))

-- before the expressions begin there are none, whatever else is entered
bare_trees : (s t : ℕ) (g h : ProgramEntries) → s ≤ 10 → HasTrees s g → h.init ≡ g.init
    → h.contribute ≡ g.contribute → h.apply ≡ g.apply → HasTrees t h
bare_trees s t g h early old init contribute apply =
    let none = init ∙ old.no_init early in
    let none' = contribute ∙ old.no_contribute (omega arith) in
    let none'' = apply ∙ old.no_apply (omega arith) in
    let empty = ap (λ (l : List Tree). length l) none in
    let empty' = ap (λ (l : List Tree). length l) none' in
    let empty'' = ap (λ (l : List Tree). length l) none'' in
    record {
      no_init = λ l. none;
      no_contribute = λ l. none';
      no_apply = λ l. none'';
      few_init = omega arith;
      few_contribute = omega arith;
      few_apply = omega arith;
      init = no_trees (scope_in h InitPart) h.init none;
      contribute = no_trees (scope_in h ContributePart) h.contribute none';
      apply = no_trees (scope_in h ApplyPart) h.apply none'';
    }

-- the entries with others of those that stand once
abbrev headed : ProgramEntries → List ℕ → Limits → ℕ → Combine → ProgramEntries
headed g name limits rounds combine =
    record g { name = name; limits = limits; rounds = rounds; combine = combine }

-- an entry that stands once leaves what stands after it alone
once_kept : (s t : ℕ) (g : ProgramEntries) (name : List ℕ) (limits : Limits) (rounds : ℕ)
    (combine : Combine) → s ≤ 10 → IsGood s g → IsBegun t (headed g name limits rounds combine)
    → IsGood t (headed g name limits rounds combine)
once_kept s t g name limits rounds combine early h begun = record {
  begun = begun;
  params = record { few = h.params.few; names = h.params.names; values = h.params.values };
  lanes = record { few = h.lanes.few; each = h.lanes.each };
  trees = bare_trees s t g (headed g name limits rounds combine) early h.trees refl refl refl;
}

abbrev Next : Draft → Keyword → ProgramEntries × ℕ → Type 0
Next d k r = IsGood (order k + 1) r.0

program_kept : (d : Draft) (line : List ℕ) (p : ℕ) → IsGood d.stage d.entries → d.stage ≡ 0
    → On (Next d Program) (entry_at d.entries Program line p)
unfolding entry_at
program_kept d line p h is =
    let g = d.entries in
    on_then (λ w. is_name w.bytes ≡ true) (Next d Program) (name_at line p)
    (λ w. Ok (record g { name = w.bytes }, word_end w)) (name_on line p)
    (λ x w. once_kept d.stage 1 g x.bytes g.limits g.rounds g.combine (omega arith) h (record {
      name = λ l. w;
      vertices = λ l. absurd (omega arith);
      degree = λ l. absurd (omega arith);
      edges = λ l. absurd (omega arith);
      weight = λ l. absurd (omega arith);
      attr = λ l. absurd (omega arith);
      rounds = λ l. absurd (omega arith);
      combine = λ l. absurd (omega arith);
    }))

vertices_kept : (d : Draft) (line : List ℕ) (p : ℕ) → IsGood d.stage d.entries → d.stage ≡ 1
    → On (Next d Vertices) (entry_at d.entries Vertices line p)
unfolding entry_at
vertices_kept d line p h is =
    let g = d.entries in
    on_then (λ n. IsWithin 1 1000000 n.0) (Next d Vertices) (number_at line p 1 1000000)
    (λ n. Ok (record g { limits = record g.limits { vertices = n.0 } }, n.1))
    (number_on line p 1 1000000)
    (λ x w. once_kept d.stage 2 g g.name (record g.limits { vertices = x.0 }) g.rounds g.combine
    (omega arith) h (record {
      name = λ l. h.begun.name (omega arith);
      vertices = λ l. w;
      degree = λ l. absurd (omega arith);
      edges = λ l. absurd (omega arith);
      weight = λ l. absurd (omega arith);
      attr = λ l. absurd (omega arith);
      rounds = λ l. absurd (omega arith);
      combine = λ l. absurd (omega arith);
    }))

degree_kept : (d : Draft) (line : List ℕ) (p : ℕ) → IsGood d.stage d.entries → d.stage ≡ 2
    → On (Next d Degree) (entry_at d.entries Degree line p)
unfolding entry_at
degree_kept d line p h is =
    let g = d.entries in
    on_then (λ n. IsWithin 1 1000000 n.0) (Next d Degree) (number_at line p 1 1000000)
    (λ n. Ok (record g { limits = record g.limits { degree = n.0 } }, n.1))
    (number_on line p 1 1000000)
    (λ x w. once_kept d.stage 3 g g.name (record g.limits { degree = x.0 }) g.rounds g.combine
    (omega arith) h (record {
      name = λ l. h.begun.name (omega arith);
      vertices = λ l. h.begun.vertices (omega arith);
      degree = λ l. w;
      edges = λ l. absurd (omega arith);
      weight = λ l. absurd (omega arith);
      attr = λ l. absurd (omega arith);
      rounds = λ l. absurd (omega arith);
      combine = λ l. absurd (omega arith);
    }))

edges_kept : (d : Draft) (line : List ℕ) (p : ℕ) → IsGood d.stage d.entries → d.stage ≡ 3
    → On (Next d Edges) (entry_at d.entries Edges line p)
unfolding entry_at
edges_kept d line p h is =
    let g = d.entries in
    on_then (λ n. IsWithin 1 8000000 n.0) (Next d Edges) (number_at line p 1 8000000)
    (λ n. Ok (record g { limits = record g.limits { edges = n.0 } }, n.1))
    (number_on line p 1 8000000)
    (λ x w. once_kept d.stage 4 g g.name (record g.limits { edges = x.0 }) g.rounds g.combine
    (omega arith) h (record {
      name = λ l. h.begun.name (omega arith);
      vertices = λ l. h.begun.vertices (omega arith);
      degree = λ l. h.begun.degree (omega arith);
      edges = λ l. w;
      weight = λ l. absurd (omega arith);
      attr = λ l. absurd (omega arith);
      rounds = λ l. absurd (omega arith);
      combine = λ l. absurd (omega arith);
    }))

weight_kept : (d : Draft) (line : List ℕ) (p : ℕ) → IsGood d.stage d.entries → d.stage ≡ 4
    → On (Next d Weight) (entry_at d.entries Weight line p)
unfolding entry_at
weight_kept d line p h is =
    let g = d.entries in
    on_then (RangeFits greatest_i64 least_i64) (Next d Weight)
    (range_at line p greatest_i64 least_i64)
    (λ r. Ok (
      record g {
        limits = record g.limits { weight_lo = r.0.lo; weight_hi = r.0.hi };
      },
      r.1,
    ))
    (range_on line p greatest_i64 least_i64 (omega (arith, ints)))
    (λ x w. once_kept d.stage 5 g g.name
    (record g.limits { weight_lo = x.0.lo; weight_hi = x.0.hi }) g.rounds g.combine
    (omega arith) h (record {
      name = λ l. h.begun.name (omega arith);
      vertices = λ l. h.begun.vertices (omega arith);
      degree = λ l. h.begun.degree (omega arith);
      edges = λ l. h.begun.edges (omega arith);
      weight = λ l. w.0;
      attr = λ l. absurd (omega arith);
      rounds = λ l. absurd (omega arith);
      combine = λ l. absurd (omega arith);
    }))

attr_kept : (d : Draft) (line : List ℕ) (p : ℕ) → IsGood d.stage d.entries → d.stage ≡ 5
    → On (Next d Attr) (entry_at d.entries Attr line p)
unfolding entry_at
attr_kept d line p h is =
    let g = d.entries in
    on_then (RangeFits (pos 0) (pos 0)) (Next d Attr) (range_at line p (pos 0) (pos 0))
    (λ r. Ok (
      record g {
        limits = record g.limits { attr_lo = r.0.lo; attr_hi = r.0.hi };
      },
      r.1,
    ))
    (range_on line p (pos 0) (pos 0) (omega (arith, ints)))
    (λ x w. once_kept d.stage 6 g g.name
    (record g.limits { attr_lo = x.0.lo; attr_hi = x.0.hi }) g.rounds g.combine
    (omega arith) h (record {
      name = λ l. h.begun.name (omega arith);
      vertices = λ l. h.begun.vertices (omega arith);
      degree = λ l. h.begun.degree (omega arith);
      edges = λ l. h.begun.edges (omega arith);
      weight = λ l. h.begun.weight (omega arith);
      attr = λ l. record { range = w.0; least = w.1; most = w.2 };
      rounds = λ l. absurd (omega arith);
      combine = λ l. absurd (omega arith);
    }))

rounds_kept : (d : Draft) (line : List ℕ) (p : ℕ) → IsGood d.stage d.entries → d.stage ≡ 6
    → On (Next d Rounds) (entry_at d.entries Rounds line p)
unfolding entry_at
rounds_kept d line p h is =
    let g = d.entries in
    on_then (λ n. IsWithin 1 64 n.0) (Next d Rounds) (number_at line p 1 64)
    (λ n. Ok (record g { rounds = n.0 }, n.1)) (number_on line p 1 64)
    (λ x w. once_kept d.stage 7 g g.name g.limits x.0 g.combine (omega arith) h (record {
      name = λ l. h.begun.name (omega arith);
      vertices = λ l. h.begun.vertices (omega arith);
      degree = λ l. h.begun.degree (omega arith);
      edges = λ l. h.begun.edges (omega arith);
      weight = λ l. h.begun.weight (omega arith);
      attr = λ l. h.begun.attr (omega arith);
      rounds = λ l. w;
      combine = λ l. absurd (omega arith);
    }))

combine_kept : (d : Draft) (line : List ℕ) (p : ℕ) → IsGood d.stage d.entries → d.stage ≡ 7
    → On (Next d CombineWord) (entry_at d.entries CombineWord line p)
unfolding entry_at
combine_kept d line p h is =
    let g = d.entries in
    on_then (λ r. IsCombination r.0) (Next d CombineWord) (combine_at line p)
    (λ c. Ok (record g { combine = c.0 }, c.1)) (combine_on line p)
    (λ x w. once_kept d.stage 8 g g.name g.limits g.rounds x.0 (omega arith) h (record {
      name = λ l. h.begun.name (omega arith);
      vertices = λ l. h.begun.vertices (omega arith);
      degree = λ l. h.begun.degree (omega arith);
      edges = λ l. h.begun.edges (omega arith);
      weight = λ l. h.begun.weight (omega arith);
      attr = λ l. h.begun.attr (omega arith);
      rounds = λ l. h.begun.rounds (omega arith);
      combine = λ l. w;
    }))

param_kept : (d : Draft) (line : List ℕ) (p : ℕ) → IsGood d.stage d.entries → 8 ≤ d.stage
    → d.stage ≤ 9 → length d.entries.params < 64
    → On (Next d Param) (entry_at d.entries Param line p)
unfolding entry_at param_at
param_kept d line p h late early room =
    let g = d.entries in
    on_then (λ w. is_name w.bytes ≡ true) (Next d Param) (name_at line p)
    (λ w. cond (is_taken (names_of g.params) w.bytes) (Err (Repeat w.at))
    (signed_at line (word_end w) least_i64 greatest_i64 >>= λ x. Ok
    (record g { params = g.params ++ param w.bytes x.0 ∷ [] }, x.1))) (name_on line p)
    (λ w is. on_test (Next d Param) (is_taken (names_of g.params) w.bytes) (Err (Repeat w.at))
    (signed_at line (word_end w) least_i64 greatest_i64 >>= λ x. Ok
    (record g { params = g.params ++ param w.bytes x.0 ∷ [] }, x.1)) (λ e. tt)
    (λ free. on_then (λ r. (least_i64 ≤ℤ r.0) × (r.0 ≤ℤ greatest_i64)) (Next d Param)
    (signed_at line (word_end w) least_i64 greatest_i64)
    (λ x. Ok (record g { params = g.params ++ param w.bytes x.0 ∷ [] }, x.1))
    (signed_on line (word_end w) least_i64 greatest_i64)
    (λ x z. pushed_param w.bytes x.0 is free (fits_between x.0 z.0 z.1))))
  where
    pushed_param : (w : List ℕ) (z : ℤ) → is_name w ≡ true
        → is_taken (names_of d.entries.params) w ≡ false → FitsSigned w64 z
        → IsGood 9 (record d.entries { params = d.entries.params ++ param w z ∷ [] })
    pushed_param w z is free fits =
        let g = d.entries in
        let N : List (List ℕ) → Type 0 = λ l. AreNames l in
        let V : List ℤ → Type 0 = λ l. All (FitsSigned w64) l in
        let next : ProgramEntries = record g { params = g.params ++ param w z ∷ [] } in
        record {
          begun = kept_begun d.stage 9 g next late refl refl refl refl h.begun;
          params = record {
            few = omega (arith, length-append g.params (param w z ∷ []));
            names =
                subst N (sym (map-append (λ (q : NamedParam). q.name) g.params (param w z ∷ [])))
                (name_pushed (names_of g.params) w h.params.names is free);
            values =
                subst V (sym (map-append (λ (q : NamedParam). q.value) g.params (param w z ∷ [])))
                (All-push (FitsSigned w64) (values_of g.params) z h.params.values fits);
          };
          lanes = record { few = h.lanes.few; each = h.lanes.each };
          trees = bare_trees d.stage 9 g next (omega arith) h.trees refl refl refl;
        }

lane_kept : (d : Draft) (line : List ℕ) (p : ℕ) → IsGood d.stage d.entries → 8 ≤ d.stage
    → d.stage ≤ 10 → length d.entries.ranges < 8 → On (Next d Lane) (entry_at d.entries Lane line p)
unfolding entry_at lane_at
lane_kept d line p h late early room =
    let g = d.entries in
    on_then (λ _. Unit {0}) (Next d Lane) (index_at line p Lane (length g.ranges))
    (λ q. range_at line q greatest_i64 least_i64 >>= λ r. Ok
    (record g { ranges = g.ranges ++ r.0 ∷ [] }, r.1))
    (on_any (index_at line p Lane (length g.ranges)))
    (λ q u. on_then (RangeFits greatest_i64 least_i64) (Next d Lane)
    (range_at line q greatest_i64 least_i64)
    (λ r. Ok (record g { ranges = g.ranges ++ r.0 ∷ [] }, r.1))
    (range_on line q greatest_i64 least_i64 (omega (arith, ints))) (λ r i. pushed_lane r.0 i.0))
  where
    pushed_lane : (r : LaneRange) → IsRange r.lo r.hi
        → IsGood 10 (record d.entries { ranges = d.entries.ranges ++ r ∷ [] })
    pushed_lane r i =
        let g = d.entries in
        let next : ProgramEntries = record g { ranges = g.ranges ++ r ∷ [] } in
        let more = length-append g.ranges (r ∷ []) in
        record {
          begun = kept_begun d.stage 10 g next late refl refl refl refl h.begun;
          params = record { few = h.params.few; names = h.params.names; values = h.params.values };
          lanes =
              record {
                few = omega (arith, more);
                each = All-push
                    (λ (x : LaneRange). IsRange x.lo x.hi) g.ranges r h.lanes.each i;
              };
          trees = bare_trees d.stage 10 g next (omega arith) h.trees refl refl refl;
        }

init_kept : (d : Draft) (line : List ℕ) (p : ℕ) → IsGood d.stage d.entries → 8 ≤ d.stage
    → d.stage ≤ 11 → On (Next d Init) (entry_at d.entries Init line p)
unfolding entry_at
init_kept d line p h late early =
    let g = d.entries in
    on_then (TreeFits g InitPart (length g.init)) (Next d Init)
    (tree_at g InitPart Init (length g.init) line p)
    (λ t. Ok (record g { init = g.init ++ t ∷ [] }, length line))
    (tree_on g InitPart Init (length g.init) line p)
    (λ t w. let less = w.1 in record {
      begun =
          kept_begun d.stage 11 g (record g { init = g.init ++ t ∷ [] }) late refl refl refl refl
          h.begun;
      params = record { few = h.params.few; names = h.params.names; values = h.params.values };
      lanes = record { few = h.lanes.few; each = h.lanes.each };
      trees = record {
        no_init = λ l. absurd (omega arith);
        no_contribute = λ l. h.trees.no_contribute (omega arith);
        no_apply = λ l. h.trees.no_apply (omega arith);
        few_init = omega (arith, length-append g.init (t ∷ []));
        few_contribute = h.trees.few_contribute;
        few_apply = h.trees.few_apply;
        init = All-push (IsTextTree (scope_in g InitPart)) g.init t h.trees.init w.0;
        contribute = h.trees.contribute;
        apply = h.trees.apply;
      };
    })

contribute_kept : (d : Draft) (line : List ℕ) (p : ℕ) → IsGood d.stage d.entries → 8 ≤ d.stage
    → d.stage ≤ 12 → On (Next d Contribute) (entry_at d.entries Contribute line p)
unfolding entry_at
contribute_kept d line p h late early =
    let g = d.entries in
    on_then (TreeFits g ContributePart (length g.contribute)) (Next d Contribute)
    (tree_at g ContributePart Contribute (length g.contribute) line p)
    (λ t. Ok (record g { contribute = g.contribute ++ t ∷ [] }, length line))
    (tree_on g ContributePart Contribute (length g.contribute) line p)
    (λ t w. let less = w.1 in record {
      begun =
          kept_begun d.stage 12 g (record g { contribute = g.contribute ++ t ∷ [] }) late refl refl
          refl refl h.begun;
      params = record { few = h.params.few; names = h.params.names; values = h.params.values };
      lanes = record { few = h.lanes.few; each = h.lanes.each };
      trees = record {
        no_init = λ l. absurd (omega arith);
        no_contribute = λ l. absurd (omega arith);
        no_apply = λ l. h.trees.no_apply (omega arith);
        few_init = h.trees.few_init;
        few_contribute = omega (arith, length-append g.contribute (t ∷ []));
        few_apply = h.trees.few_apply;
        init = h.trees.init;
        contribute =
            All-push (IsTextTree (scope_in g ContributePart)) g.contribute t h.trees.contribute w.0;
        apply = h.trees.apply;
      };
    })

apply_kept : (d : Draft) (line : List ℕ) (p : ℕ) → IsGood d.stage d.entries → 8 ≤ d.stage
    → d.stage ≤ 13 → On (Next d Apply) (entry_at d.entries Apply line p)
unfolding entry_at
apply_kept d line p h late early =
    let g = d.entries in
    on_then (TreeFits g ApplyPart (length g.apply)) (Next d Apply)
    (tree_at g ApplyPart Apply (length g.apply) line p)
    (λ t. Ok (record g { apply = g.apply ++ t ∷ [] }, length line))
    (tree_on g ApplyPart Apply (length g.apply) line p)
    (λ t w. let less = w.1 in record {
      begun =
          kept_begun d.stage 13 g (record g { apply = g.apply ++ t ∷ [] }) late refl refl refl refl
          h.begun;
      params = record { few = h.params.few; names = h.params.names; values = h.params.values };
      lanes = record { few = h.lanes.few; each = h.lanes.each };
      trees = record {
        no_init = λ l. absurd (omega arith);
        no_contribute = λ l. absurd (omega arith);
        no_apply = λ l. absurd (omega arith);
        few_init = h.trees.few_init;
        few_contribute = h.trees.few_contribute;
        few_apply = omega (arith, length-append g.apply (t ∷ []));
        init = h.trees.init;
        contribute = h.trees.contribute;
        apply = All-push (IsTextTree (scope_in g ApplyPart)) g.apply t h.trees.apply w.0;
      };
    })

few_params : (g : ProgramEntries) → is_full g Param ≡ false → length g.params < 64
unfolding is_full
few_params g e = test (length g.params) e
  where
    test : (n : ℕ) → nat_le 64 n ≡ false → n < 64
    test n e = grind (arith, nat_tests)

few_lanes : (g : ProgramEntries) → is_full g Lane ≡ false → length g.ranges < 8
unfolding is_full
few_lanes g e = test (length g.ranges) e
  where
    test : (n : ℕ) → nat_le 8 n ≡ false → n < 8
    test n e = grind (arith, nat_tests)

pub entry_kept : (d : Draft) (k : Keyword) (line : List ℕ) (p : ℕ) → IsGood d.stage d.entries
    → IsAdmitted d k → On (Next d k) (entry_at d.entries k line p)
entry_kept d Program line p h a = program_kept d line p h (a.once (omega arith))
entry_kept d Vertices line p h a = vertices_kept d line p h (a.once (omega arith))
entry_kept d Degree line p h a = degree_kept d line p h (a.once (omega arith))
entry_kept d Edges line p h a = edges_kept d line p h (a.once (omega arith))
entry_kept d Weight line p h a = weight_kept d line p h (a.once (omega arith))
entry_kept d Attr line p h a = attr_kept d line p h (a.once (omega arith))
entry_kept d Rounds line p h a = rounds_kept d line p h (a.once (omega arith))
entry_kept d CombineWord line p h a = combine_kept d line p h (a.once (omega arith))
entry_kept d Param line p h a =
    param_kept d line p h (a.late (omega arith)) (a.early (omega arith))
    (few_params d.entries a.room)
entry_kept d Lane line p h a =
    lane_kept d line p h (a.late (omega arith)) (a.early (omega arith)) (few_lanes d.entries a.room)
entry_kept d Init line p h a = init_kept d line p h (a.late (omega arith)) (a.early (omega arith))
entry_kept d Contribute line p h a =
    contribute_kept d line p h (a.late (omega arith)) (a.early (omega arith))
entry_kept d Apply line p h a = apply_kept d line p h (a.late (omega arith)) (a.early (omega arith))
