-- The canonical text of a program is read as that program.
use Rattle.std.proofs.Common.{◌≡◌, ℕ, ◌≤◌, false, cond, List, [], ◌∷◌, ◌++◌}
use Rattle.std.proofs.Common.{length, None, Result, Ok, Err, sym, ◌∙◌, ap}
use Rattle.std.proofs.Common.{arith}
use Rattle.std.specs.Prelude.{codes, nat_lt}
use Rattle.std.proofs.lemmas.Bool.Decides.{nat_tests}
use Rattle.vertex_expr.specs.Writable.{IsWritable, names_of}
use Rattle.vertex_expr.specs.declared.program.ProgramEntries.{ProgramEntries}
use Rattle.lexical.specs.Lines.{lines_from}
use Rattle.text_words.specs.Fields.{◌>>=◌}
use Rattle.text_words.specs.declared.error.LangError.{LangError}
use Rattle.text_words.specs.declared.error.LangError.TheVariants.{TooBig}
use Rattle.vertex_lang.specs.declared.draft.Draft.{Draft}
use Rattle.vertex_lang.specs.Drafts.{blank, lines_read, complete, first_due}
use Rattle.vertex_lang.specs.Canonical.{ended_lines, once_lines, param_lines, lane_lines}
use Rattle.vertex_lang.specs.Canonical.{tree_lines, canonical_text}
use Rattle.vertex_lang.specs.ProgramOf.{entries_of, fitting, program_of}
use Rattle.vertex_lang.proofs.LineReads.{Steps, steps-append, ended-append, all_lines}
use Rattle.vertex_lang.proofs.Admission.{none_due}
use Rattle.vertex_lang.proofs.ListSteps.{after}
use Rattle.vertex_lang.proofs.OnceReads.{once_read}
use Rattle.vertex_lang.proofs.ListReads.{draft_of, params_read, lanes_read}
use Rattle.vertex_lang.proofs.TreeReads.{draft_with, init_read, contribute_read, apply_read}

after_least : {A : Type 0} (low s high : ℕ) (xs : List A) → low ≤ s → low ≤ high
    → low ≤ after s high xs
after_least low s high [] h i = h
after_least low s high (x ∷ xs) h i = i

after_most : {A : Type 0} (s high : ℕ) (xs : List A) → s ≤ high → after s high xs ≤ high
after_most s high [] h = h
after_most s high (x ∷ xs) h = omega arith

-- the lines of the canonical text
abbrev all_of : ProgramEntries → List (List ℕ)
all_of g =
    once_lines g ++ param_lines g.params ++ lane_lines 0 g.ranges
    ++ tree_lines (codes "init") (names_of g.params) 0 g.init
    ++ tree_lines (codes "contribute") (names_of g.params) 0 g.contribute
    ++ tree_lines (codes "apply") (names_of g.params) 0 g.apply

lines_are : (g : ProgramEntries) → canonical_text g ≡ ended_lines (all_of g)
unfolding canonical_text
lines_are g =
    let a = once_lines g in
    let b = param_lines g.params in
    let c = lane_lines 0 g.ranges in
    let d = tree_lines (codes "init") (names_of g.params) 0 g.init in
    let e = tree_lines (codes "contribute") (names_of g.params) 0 g.contribute in
    let f = tree_lines (codes "apply") (names_of g.params) 0 g.apply in
    sym (ended-append (a ++ b ++ c ++ d ++ e) f
    ∙ ap (λ (l : List ℕ). l ++ ended_lines f) (ended-append (a ++ b ++ c ++ d) e
    ∙ ap (λ (l : List ℕ). l ++ ended_lines e) (ended-append (a ++ b ++ c) d
    ∙ ap (λ (l : List ℕ). l ++ ended_lines d)
    (ended-append (a ++ b) c ∙ ap (λ (l : List ℕ). l ++ ended_lines c) (ended-append a b)))))

-- the stages behind the params, the lanes and the three parts
abbrev stage1 : ProgramEntries → ℕ
stage1 g = after 8 9 g.params

abbrev stage2 : ProgramEntries → ℕ
stage2 g = after (stage1 g) 10 g.ranges

abbrev stage3 : ProgramEntries → ℕ
stage3 g = after (stage2 g) 11 g.init

abbrev stage4 : ProgramEntries → ℕ
stage4 g = after (stage3 g) 12 g.contribute

abbrev stage5 : ProgramEntries → ℕ
stage5 g = after (stage4 g) 13 g.apply

all_read : (g : ProgramEntries) → IsWritable g
    → Steps blank (all_of g) (draft_with g (stage5 g) g.init g.contribute g.apply)
all_read g h =
    let l1 : 8 ≤ stage1 g = after_least 8 8 9 g.params (omega arith) (omega arith) in
    let m1 : stage1 g ≤ 9 = after_most 8 9 g.params (omega arith) in
    let l2 : 8 ≤ stage2 g = after_least 8 (stage1 g) 10 g.ranges l1 (omega arith) in
    let m2 : stage2 g ≤ 10 = after_most (stage1 g) 10 g.ranges (omega arith) in
    let l3 : 8 ≤ stage3 g = after_least 8 (stage2 g) 11 g.init l2 (omega arith) in
    let m3 : stage3 g ≤ 11 = after_most (stage2 g) 11 g.init (omega arith) in
    let l4 : 8 ≤ stage4 g = after_least 8 (stage3 g) 12 g.contribute l3 (omega arith) in
    let m4 : stage4 g ≤ 12 = after_most (stage3 g) 12 g.contribute (omega arith) in
    let a = once_lines g in
    let b = param_lines g.params in
    let c = lane_lines 0 g.ranges in
    let d = tree_lines (codes "init") (names_of g.params) 0 g.init in
    let e = tree_lines (codes "contribute") (names_of g.params) 0 g.contribute in
    let f = tree_lines (codes "apply") (names_of g.params) 0 g.apply in
    let s1 =
    steps-append blank (draft_of g 8 [] []) (draft_of g (stage1 g) g.params []) a b (once_read g h)
    (params_read g h.names h.values h.few_params) in
    let s2 =
    steps-append blank (draft_of g (stage1 g) g.params []) (draft_of g (stage2 g) g.params g.ranges)
    (a ++ b) c s1 (lanes_read g (stage1 g) l1 (omega arith) h.ranges h.lanes.most) in
    let s3 =
    steps-append blank (draft_of g (stage2 g) g.params g.ranges)
    (draft_with g (stage3 g) g.init [] []) (a ++ b ++ c) d s2
    (init_read g h (stage2 g) l2 (omega arith)) in
    let s4 =
    steps-append blank (draft_with g (stage3 g) g.init [] [])
    (draft_with g (stage4 g) g.init g.contribute []) (a ++ b ++ c ++ d) e s3
    (contribute_read g h (stage3 g) l3 (omega arith)) in
    steps-append blank (draft_with g (stage4 g) g.init g.contribute [])
    (draft_with g (stage5 g) g.init g.contribute g.apply) (a ++ b ++ c ++ d ++ e) f s4
    (apply_read g h (stage4 g) l4 (omega arith))

pub entries_back : (g : ProgramEntries) → IsWritable g → entries_of (canonical_text g) ≡ Ok g
unfolding entries_of
entries_back g h =
    let d = draft_with g (stage5 g) g.init g.contribute g.apply in
    let late : 8 ≤ stage5 g =
    after_least 8 (stage4 g) 13 g.apply
    (after_least 8 (stage3 g) 12 g.contribute
    (after_least 8 (stage2 g) 11 g.init
    (after_least 8 (stage1 g) 10 g.ranges
    (after_least 8 8 9 g.params (omega arith) (omega arith)) (omega arith)) (omega arith))
    (omega arith)) (omega arith) in
    let i = h.init.each_lane in
    let c = h.contribute.each_lane in
    let a = h.apply.each_lane in
    let some = h.lanes.least in
    let due : first_due d ≡ None =
    none_due d late (omega arith) (omega arith) (omega arith) (omega arith) in
    ap (λ (text : List ℕ). lines_read blank text (lines_from 0 0 text) >>= λ x. complete x
    (first_due x)) (lines_are g)
    ∙ ap (λ (o : Result Draft LangError). o >>= λ x. complete x (first_due x))
    (all_lines blank d (all_of g) (all_read g h))
    ∙ ap (complete d) due

size_test : (n : ℕ) → n ≤ 65536 → nat_lt 65536 n ≡ false
size_test n h = grind (arith, nat_tests)

-- where that text isn't too long, the program of it is this one
pub program_back : (g : ProgramEntries) → IsWritable g → length (canonical_text g) ≤ 65536
    → program_of (canonical_text g) ≡ Ok g
unfolding program_of
program_back g h few =
    let test = size_test (length (canonical_text g)) few in
    ap (λ b. cond b (Err (TooBig 65536)) (entries_of (canonical_text g) >>= fitting)) test
    ∙ ap (λ (o : Result ProgramEntries LangError). o >>= fitting) (entries_back g h)
    ∙ ap (λ b. cond b (Err (TooBig 65536)) (Ok g)) test
