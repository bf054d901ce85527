-- The expressions of printed lines are read again.
use Rattle.std.proofs.Common.{◌≡◌, ℕ, ◌+◌, ◌^◌, ◌<◌, ◌≤◌, false, cond, List, [], ◌∷◌}
use Rattle.std.proofs.Common.{◌++◌, length, drop, Option, Some, Result, Ok, Err, refl, sym}
use Rattle.std.proofs.Common.{◌∙◌, ap, arith}
use Rattle.std.specs.Prelude.{codes, decimal, nat_lt, nat_le}
use Rattle.std.proofs.lemmas.Bool.Decides.{nat_tests}
use Rattle.std.proofs.lemmas.List.{drop_all}
use Rattle.vertex_expr.specs.Tree.{Tree}
use Rattle.vertex_expr.specs.Names.{AreNames}
use Rattle.vertex_expr.specs.Writable.{IsWritable, IsTextTree, Scope, scope_in, names_of}
use Rattle.vertex_expr.specs.declared.expr.Part.{Part}
use Rattle.vertex_expr.specs.declared.expr.Part.TheVariants.{Init as InitPart}
use Rattle.vertex_expr.specs.declared.expr.Part.TheVariants.{Contribute as ContributePart}
use Rattle.vertex_expr.specs.declared.expr.Part.TheVariants.{Apply as ApplyPart}
use Rattle.vertex_expr.specs.declared.program.ProgramEntries.{ProgramEntries}
use Rattle.lexical.specs.Words.{Word}
use Rattle.text_words.specs.Fields.{◌>>=◌, word_end, unsigned_of}
use Rattle.text_words.specs.declared.error.LangError.{LangError}
use Rattle.text_words.specs.declared.error.LangError.TheVariants.{Repeat, Missing, TooBig}
use Rattle.text_words.specs.declared.error.Keyword.{Keyword}
use Rattle.text_words.specs.declared.error.Keyword.TheVariants.{Init, Contribute, Apply}
use Rattle.text_words.proofs.Lexing.{Passes, passes-append}
use Rattle.text_words.proofs.PrintedLines.{is_printed, decimal_printed}
use Rattle.text_words.proofs.FieldLemmas.{IsField, next_word, behind_word, unsigned_decimal}
use Rattle.text_words.proofs.FieldLemmas.{decimal_field}
use Rattle.expr_text.specs.Printing.{text_of}
use Rattle.expr_text.specs.Expressions.{expression_at}
use Rattle.expr_text.proofs.Named.{names_found, forms_found}
use Rattle.expr_text.proofs.RoundTrip.{behind_space}
use Rattle.expr_text.proofs.PrintedTrees.{text_printed}
use Rattle.vertex_lang.specs.declared.draft.Draft.{Draft}
use Rattle.vertex_lang.specs.Keywords.{keyword_of}
use Rattle.vertex_lang.specs.Entries.{below_lanes, index_of, place_at, tree_at, entry_at}
use Rattle.vertex_lang.specs.Drafts.{is_full}
use Rattle.vertex_lang.specs.Canonical.{spaced, tree_line, tree_lines}
use Rattle.vertex_lang.proofs.LineReads.{Reads, Steps}
use Rattle.vertex_lang.proofs.Admission.{admitted_by, not_past, due_init, due_contribute, due_apply}
use Rattle.vertex_lang.proofs.Admission.{due_is}
use Rattle.vertex_lang.proofs.EntryReads.{Done, reads_entry}
use Rattle.vertex_lang.proofs.ListSteps.{after, list_steps, middle_below, all_middle}

-- a draft that has these expressions, and else what another has
abbrev pub draft_with : ProgramEntries → ℕ → List Tree → List Tree → List Tree → Draft
draft_with g s is cs ls =
    record {
      stage = s;
      entries = record {
        name = g.name;
        limits = g.limits;
        rounds = g.rounds;
        combine = g.combine;
        params = g.params;
        ranges = g.ranges;
        init = is;
        contribute = cs;
        apply = ls;
      };
    }

-- the next number, which is a lane
place_reads : (line rest : List ℕ) (p next lanes : ℕ) (k : Keyword)
    → drop p line ≡ spaced (decimal next ++ spaced rest) → next < lanes → lanes ≤ 8
    → place_at line p k next lanes ≡ Ok (p + 1 + length (decimal next))
unfolding place_at
place_reads line rest p next lanes k cut few most =
    let small : next < 2 ^ 64 = omega arith in
    let w : Word = record { at = p + 1; bytes = decimal next } in
    ap (λ (o : Result Word LangError). o >>= λ v. below_lanes lanes v (unsigned_of v.bytes) >>= λ u.
    index_of k next v (unsigned_of v.bytes))
    (next_word line (decimal next) (spaced rest) p cut (decimal_field next small) refl)
    ∙ ap (λ (o : Option ℕ). below_lanes lanes w o >>= λ u. index_of k next w o)
    (unsigned_decimal next small)
    ∙ ap (λ b. (cond b (Err (TooBig w.at)) (Ok tt)) >>= λ u. index_of k next w (Some next))
    (not_at lanes next few)
    ∙ ap (λ b. cond b (Err (Repeat w.at))
    (cond (nat_lt next next) (Err (Missing k)) (Ok (word_end w)))) (not_below next)
    ∙ ap (λ b. cond b (Err (Missing k)) (Ok (word_end w))) (not_below next)
  where
    not_below : (n : ℕ) → nat_lt n n ≡ false
    not_below n = grind (arith, nat_tests)

    not_at : (lanes n : ℕ) → n < lanes → nat_le lanes n ≡ false
    not_at lanes n few = grind (arith, nat_tests)

tree_reads : (g : ProgramEntries) (part : Part) (k : Keyword) (next p : ℕ) (line : List ℕ)
    (t : Tree) → drop p line ≡ spaced (decimal next ++ spaced (text_of (names_of g.params) t))
    → next < length g.ranges → length g.ranges ≤ 8
    → AreNames (names_of g.params) → IsTextTree (scope_in g part) t
    → tree_at g part k next line p ≡ Ok t
unfolding tree_at
tree_reads g part k next p line t cut few most names tree =
    let s = scope_in g part in
    ap (λ (o : Result ℕ LangError). o >>= λ q. expression_at s line q)
    (place_reads line (text_of s.params t) p next (length g.ranges) k cut few most)
    ∙ behind_space s t line (p + 1 + length (decimal next)) (names_found s names)
    (forms_found s most names) tree
    (behind_word line (decimal next) (spaced (text_of s.params t)) p cut)

rest_printed : (s : Scope) (t : Tree) (k : ℕ) → k < 8 → s.lanes ≤ 8 → AreNames s.params
    → IsTextTree s t → Passes is_printed (decimal k ++ spaced (text_of s.params t))
rest_printed s t k small few names tree =
    passes-append is_printed (decimal k) (spaced (text_of s.params t))
    (decimal_printed k (omega arith)) (refl, text_printed s t few names tree.fits)

init_word : IsField (codes "init")
init_word = record { some = omega arith; whole = (refl, (refl, (refl, (refl, tt)))); ascii = refl }

init_key : keyword_of (codes "init") ≡ Some Init
unfolding keyword_of
init_key = refl

init_room : (g : ProgramEntries) → is_full g Init ≡ false
unfolding is_full
init_room g = refl

init_done : (g : ProgramEntries) (text : List ℕ) (t : Tree) (k from : ℕ) → k ≡ length g.init
    → drop from text ≡ spaced (decimal k ++ spaced (text_of (names_of g.params) t))
    → k < length g.ranges → length g.ranges ≤ 8
    → AreNames (names_of g.params) → IsTextTree (scope_in g InitPart) t
    → Done (entry_at g Init text from) (record g { init = g.init ++ t ∷ [] }) text
unfolding entry_at
init_done g text t k from count cut few most names tree = record {
  at = length text;
  is =
      ap (λ (n : ℕ). tree_at g InitPart Init n text from >>= λ x. Ok
      (record g { init = g.init ++ x ∷ [] }, length text)) (sym count)
      ∙ ap (λ (o : Result Tree LangError). o >>= λ x. Ok
      (record g { init = g.init ++ x ∷ [] }, length text))
      (tree_reads g InitPart Init k from text t cut few most names tree);
  end = drop_all (length text) text (omega arith);
}

pub init_read : (g : ProgramEntries) → IsWritable g → (s : ℕ) → 8 ≤ s → s ≤ 11
    → Steps (draft_with g s [] [] []) (tree_lines (codes "init") (names_of g.params) 0 g.init)
    (draft_with g (after s 11 g.init) g.init [] [])
init_read g h s late early =
    list_steps (λ r ts. draft_with g r ts [] [])
    (λ k t. tree_line (codes "init") (names_of g.params) k t)
    (λ k ts. tree_lines (codes "init") (names_of g.params) k ts) g.init 8 11 (omega arith)
    (λ k. refl) (λ k x xs. refl) each s [] g.init 0 refl late early refl
  where
    each : (r : ℕ) (done : List Tree) (x : Tree) (rest : List Tree) → done ++ x ∷ rest ≡ g.init
        → 8 ≤ r → r ≤ 11 → Reads (draft_with g r done [] [])
        (tree_line (codes "init") (names_of g.params) (length done) x)
        (draft_with g 11 (done ++ x ∷ []) [] [])
    each r done x rest is least most =
        let tree : IsTextTree (scope_in g InitPart) x =
        all_middle (IsTextTree (scope_in g InitPart)) g.init done rest x is h.init.fit in
        let k = length done in
        let lanes : length g.ranges ≤ 8 = h.lanes.most in
        let few : k < length g.ranges =
        omega (
          arith,
          middle_below done rest x,
          ap (λ (l : List Tree). length l) is,
          h.init.each_lane,
        ) in
        let before : length g.init ≡ length g.ranges = h.init.each_lane in
        let before' : length g.contribute ≡ length g.ranges = h.contribute.each_lane in
        let d = draft_with g r done [] [] in
        reads_entry d (codes "init") (spaced (decimal k ++ spaced (text_of (names_of g.params) x)))
        Init (record d.entries { init = done ++ x ∷ [] }) init_word
        (passes-append is_printed (codes "init ")
        (decimal k ++ spaced (text_of (names_of g.params) x))
        (refl, (refl, (refl, (refl, (refl, tt)))))
        (rest_printed (scope_in g InitPart) x k (omega arith) lanes h.names tree))
        refl init_key
        (λ at. admitted_by d Init at (not_past d Init most (omega arith))
        (due_is d Init Init (due_init d least few) (omega arith)) (init_room d.entries))
        (λ text from cut. init_done d.entries text x k from refl cut few lanes h.names tree)

contribute_word : IsField (codes "contribute")
contribute_word =
    record {
      some = omega arith;
      whole =
          (refl, (refl, (refl, (refl, (refl, (refl, (refl, (refl, (refl, (refl, tt))))))))));
      ascii = refl;
    }

contribute_key : keyword_of (codes "contribute") ≡ Some Contribute
unfolding keyword_of
contribute_key = refl

contribute_room : (g : ProgramEntries) → is_full g Contribute ≡ false
unfolding is_full
contribute_room g = refl

contribute_done : (g : ProgramEntries) (text : List ℕ) (t : Tree) (k from : ℕ)
    → k ≡ length g.contribute → drop from text
    ≡ spaced (decimal k ++ spaced (text_of (names_of g.params) t)) → k < length g.ranges
    → length g.ranges ≤ 8
    → AreNames (names_of g.params) → IsTextTree (scope_in g ContributePart) t
    → Done (entry_at g Contribute text from) (record g { contribute = g.contribute ++ t ∷ [] })
    text
unfolding entry_at
contribute_done g text t k from count cut few most names tree = record {
  at = length text;
  is =
      ap (λ (n : ℕ). tree_at g ContributePart Contribute n text from >>= λ x. Ok
      (record g { contribute = g.contribute ++ x ∷ [] }, length text)) (sym count)
      ∙ ap (λ (o : Result Tree LangError). o >>= λ x. Ok
      (record g { contribute = g.contribute ++ x ∷ [] }, length text))
      (tree_reads g ContributePart Contribute k from text t cut few most names tree);
  end = drop_all (length text) text (omega arith);
}

pub contribute_read : (g : ProgramEntries) → IsWritable g → (s : ℕ) → 8 ≤ s → s ≤ 12
    → Steps (draft_with g s g.init [] [])
    (tree_lines (codes "contribute") (names_of g.params) 0 g.contribute)
    (draft_with g (after s 12 g.contribute) g.init g.contribute [])
contribute_read g h s late early =
    list_steps (λ r ts. draft_with g r g.init ts [])
    (λ k t. tree_line (codes "contribute") (names_of g.params) k t)
    (λ k ts. tree_lines (codes "contribute") (names_of g.params) k ts) g.contribute 8 12
    (omega arith) (λ k. refl) (λ k x xs. refl) each s [] g.contribute 0 refl late early refl
  where
    each : (r : ℕ) (done : List Tree) (x : Tree) (rest : List Tree)
        → done ++ x ∷ rest ≡ g.contribute → 8 ≤ r → r ≤ 12
        → Reads (draft_with g r g.init done [])
        (tree_line (codes "contribute") (names_of g.params) (length done) x)
        (draft_with g 12 g.init (done ++ x ∷ []) [])
    each r done x rest is least most =
        let tree : IsTextTree (scope_in g ContributePart) x =
        all_middle (IsTextTree (scope_in g ContributePart)) g.contribute done rest x is
        h.contribute.fit in
        let k = length done in
        let lanes : length g.ranges ≤ 8 = h.lanes.most in
        let few : k < length g.ranges =
        omega (
          arith,
          middle_below done rest x,
          ap (λ (l : List Tree). length l) is,
          h.contribute.each_lane,
        ) in
        let before : length g.init ≡ length g.ranges = h.init.each_lane in
        let before' : length g.contribute ≡ length g.ranges = h.contribute.each_lane in
        let d = draft_with g r g.init done [] in
        reads_entry d (codes "contribute")
        (spaced (decimal k ++ spaced (text_of (names_of g.params) x))) Contribute
        (record d.entries { contribute = done ++ x ∷ [] }) contribute_word
        (passes-append is_printed (codes "contribute ")
        (decimal k ++ spaced (text_of (names_of g.params) x)) (
          refl,
          (
            refl,
            (
              refl,
              (
                refl,
                (refl, (refl, (refl, (refl, (refl, (refl, (refl, tt))))))),
              ),
            ),
          ),
        )
        (rest_printed (scope_in g ContributePart) x k (omega arith) lanes h.names tree))
        refl contribute_key
        (λ at. admitted_by d Contribute at (not_past d Contribute most (omega arith))
        (due_is d Contribute Contribute (due_contribute d least (omega arith) few)
        (omega arith)) (contribute_room d.entries))
        (λ text from cut. contribute_done d.entries text x k from refl cut few lanes h.names tree)

apply_word : IsField (codes "apply")
apply_word =
    record { some = omega arith; whole = (refl, (refl, (refl, (refl, (refl, tt))))); ascii = refl }

apply_key : keyword_of (codes "apply") ≡ Some Apply
unfolding keyword_of
apply_key = refl

apply_room : (g : ProgramEntries) → is_full g Apply ≡ false
unfolding is_full
apply_room g = refl

apply_done : (g : ProgramEntries) (text : List ℕ) (t : Tree) (k from : ℕ) → k ≡ length g.apply
    → drop from text ≡ spaced (decimal k ++ spaced (text_of (names_of g.params) t))
    → k < length g.ranges → length g.ranges ≤ 8
    → AreNames (names_of g.params) → IsTextTree (scope_in g ApplyPart) t
    → Done (entry_at g Apply text from) (record g { apply = g.apply ++ t ∷ [] }) text
unfolding entry_at
apply_done g text t k from count cut few most names tree = record {
  at = length text;
  is =
      ap (λ (n : ℕ). tree_at g ApplyPart Apply n text from >>= λ x. Ok
      (record g { apply = g.apply ++ x ∷ [] }, length text)) (sym count)
      ∙ ap (λ (o : Result Tree LangError). o >>= λ x. Ok
      (record g { apply = g.apply ++ x ∷ [] }, length text))
      (tree_reads g ApplyPart Apply k from text t cut few most names tree);
  end = drop_all (length text) text (omega arith);
}

pub apply_read : (g : ProgramEntries) → IsWritable g → (s : ℕ) → 8 ≤ s → s ≤ 13
    → Steps (draft_with g s g.init g.contribute [])
    (tree_lines (codes "apply") (names_of g.params) 0 g.apply)
    (draft_with g (after s 13 g.apply) g.init g.contribute g.apply)
apply_read g h s late early =
    list_steps (λ r ts. draft_with g r g.init g.contribute ts)
    (λ k t. tree_line (codes "apply") (names_of g.params) k t)
    (λ k ts. tree_lines (codes "apply") (names_of g.params) k ts) g.apply 8 13 (omega arith)
    (λ k. refl) (λ k x xs. refl) each s [] g.apply 0 refl late early refl
  where
    each : (r : ℕ) (done : List Tree) (x : Tree) (rest : List Tree) → done ++ x ∷ rest ≡ g.apply
        → 8 ≤ r → r ≤ 13 → Reads (draft_with g r g.init g.contribute done)
        (tree_line (codes "apply") (names_of g.params) (length done) x)
        (draft_with g 13 g.init g.contribute (done ++ x ∷ []))
    each r done x rest is least most =
        let tree : IsTextTree (scope_in g ApplyPart) x =
        all_middle (IsTextTree (scope_in g ApplyPart)) g.apply done rest x is h.apply.fit in
        let k = length done in
        let lanes : length g.ranges ≤ 8 = h.lanes.most in
        let few : k < length g.ranges =
        omega (
          arith,
          middle_below done rest x,
          ap (λ (l : List Tree). length l) is,
          h.apply.each_lane,
        ) in
        let before : length g.init ≡ length g.ranges = h.init.each_lane in
        let before' : length g.contribute ≡ length g.ranges = h.contribute.each_lane in
        let d = draft_with g r g.init g.contribute done in
        reads_entry d (codes "apply") (spaced (decimal k ++ spaced (text_of (names_of g.params) x)))
        Apply (record d.entries { apply = done ++ x ∷ [] }) apply_word
        (passes-append is_printed (codes "apply ")
        (decimal k ++ spaced (text_of (names_of g.params) x))
        (refl, (refl, (refl, (refl, (refl, (refl, tt))))))
        (rest_printed (scope_in g ApplyPart) x k (omega arith) lanes h.names tree))
        refl apply_key
        (λ at. admitted_by d Apply at (not_past d Apply most (omega arith))
        (due_is d Apply Apply (due_apply d least (omega arith) (omega arith) few) (omega arith))
        (apply_room d.entries))
        (λ text from cut. apply_done d.entries text x k from refl cut few lanes h.names tree)
