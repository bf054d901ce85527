-- What every draft of a text is like.
use Rattle.std.proofs.Common.{◌≡◌, w64, ℕ, ℤ, pos, ◌+◌, ◌<◌, ◌≤◌, ◌≤ℤ◌, Bool, true, false, cond}
use Rattle.std.proofs.Common.{[], length, Option, Some, None, Result, Ok, Err, refl, sym}
use Rattle.std.proofs.Common.{subst, arith}
use Rattle.std.specs.Prelude.{◌==◌, nat_lt, All, FitsSigned}
use Rattle.std.proofs.lemmas.Bool.Decides.{nat_tests}
use Rattle.vertex_expr.specs.Names.{is_name, AreNames}
use Rattle.vertex_expr.specs.Writable.{IsWritable, IsWithin, IsRange, IsCombination, IsTextTree}
use Rattle.vertex_expr.specs.Writable.{scope_in, names_of, values_of}
use Rattle.vertex_expr.specs.declared.expr.Part.TheVariants.{Init as InitPart}
use Rattle.vertex_expr.specs.declared.expr.Part.TheVariants.{Contribute as ContributePart}
use Rattle.vertex_expr.specs.declared.expr.Part.TheVariants.{Apply as ApplyPart}
use Rattle.vertex_expr.specs.declared.program.ProgramEntries.{ProgramEntries}
use Rattle.text_words.specs.declared.error.LangError.{LangError}
use Rattle.text_words.specs.declared.error.LangError.TheVariants.{Repeat, Missing, TooBig}
use Rattle.text_words.specs.declared.error.Keyword.{Keyword}
use Rattle.text_words.specs.declared.error.Keyword.TheVariants.{Lane, Init, Contribute}
use Rattle.text_words.specs.declared.error.Keyword.TheVariants.{Apply}
use Rattle.text_words.specs.Fields.{◌>>=◌}
use Rattle.text_words.proofs.FieldFacts.{On, on_test}
use Rattle.vertex_lang.specs.declared.draft.Draft.{Draft}
use Rattle.vertex_lang.specs.Keywords.{order, once_at}
use Rattle.vertex_lang.specs.Drafts.{first_due, due_before, is_past, is_full, admitted}

pub record IsAttrRange (lo hi : ℤ) : Type 0 where
  pub range : IsRange lo hi
  pub least : lo ≤ℤ pos 0
  pub most : pos 0 ≤ℤ hi

-- what the entries that stand once say, once they stood
pub record IsBegun (s : ℕ) (g : ProgramEntries) : Type 0 where
  pub name : 1 ≤ s → is_name g.name ≡ true
  pub vertices : 2 ≤ s → IsWithin 1 1000000 g.limits.vertices
  pub degree : 3 ≤ s → IsWithin 1 1000000 g.limits.degree
  pub edges : 4 ≤ s → IsWithin 1 8000000 g.limits.edges
  pub weight : 5 ≤ s → IsRange g.limits.weight_lo g.limits.weight_hi
  pub attr : 6 ≤ s → IsAttrRange g.limits.attr_lo g.limits.attr_hi
  pub rounds : 7 ≤ s → IsWithin 1 64 g.rounds
  pub combine : 8 ≤ s → IsCombination g.combine

pub record HasParams (g : ProgramEntries) : Type 0 where
  pub few : length g.params ≤ 64
  pub names : AreNames (names_of g.params)
  pub values : All (FitsSigned w64) (values_of g.params)

pub record HasLanes (g : ProgramEntries) : Type 0 where
  pub few : length g.ranges ≤ 8
  pub each : All (λ r. IsRange r.lo r.hi) g.ranges

-- no expression stands before its part, and there are no more than lanes
pub record HasTrees (s : ℕ) (g : ProgramEntries) : Type 0 where
  pub no_init : s ≤ 10 → g.init ≡ []
  pub no_contribute : s ≤ 11 → g.contribute ≡ []
  pub no_apply : s ≤ 12 → g.apply ≡ []
  pub few_init : length g.init ≤ length g.ranges
  pub few_contribute : length g.contribute ≤ length g.ranges
  pub few_apply : length g.apply ≤ length g.ranges
  pub init : All (IsTextTree (scope_in g InitPart)) g.init
  pub contribute : All (IsTextTree (scope_in g ContributePart)) g.contribute
  pub apply : All (IsTextTree (scope_in g ApplyPart)) g.apply

pub record IsGood (s : ℕ) (g : ProgramEntries) : Type 0 where
  pub begun : IsBegun s g
  pub params : HasParams g
  pub lanes : HasLanes g
  pub trees : HasTrees s g

-- where an entry may stand
pub record IsAdmitted (d : Draft) (k : Keyword) : Type 0 where
  pub once : order k < 8 → d.stage ≡ order k
  pub late : 8 ≤ order k → 8 ≤ d.stage
  pub early : 8 ≤ order k → d.stage ≤ order k + 1
  pub room : is_full d.entries k ≡ false

-- the entry's place and the first one that is due
record IsInOrder (s o : ℕ) : Type 0 where
  once : o < 8 → s ≡ o
  late : 8 ≤ o → 8 ≤ s
  early : 8 ≤ o → s ≤ o + 1

abbrev chosen : Bool → Bool → Bool → Bool → Bool → Bool → Bool → Keyword
chosen a b c d e f g =
    cond a Rattle.text_words.specs.declared.error.Keyword.TheVariants.Program
    (cond b Rattle.text_words.specs.declared.error.Keyword.TheVariants.Vertices
    (cond c Rattle.text_words.specs.declared.error.Keyword.TheVariants.Degree
    (cond d Rattle.text_words.specs.declared.error.Keyword.TheVariants.Edges
    (cond e Rattle.text_words.specs.declared.error.Keyword.TheVariants.Weight
    (cond f Rattle.text_words.specs.declared.error.Keyword.TheVariants.Attr
    (cond g Rattle.text_words.specs.declared.error.Keyword.TheVariants.Rounds
    Rattle.text_words.specs.declared.error.Keyword.TheVariants.Combine))))))

once_order : (s : ℕ) → s < 8 → order (once_at s) ≡ s
unfolding once_at
once_order s few =
    pick (s == 0) (s == 1) (s == 2) (s == 3) (s == 4) (s == 5) (s == 6) refl refl refl refl refl
    refl refl
  where
    is : (n m : ℕ) → (n == m) ≡ true → m ≡ n
    is n m e = grind (arith, nat_tests)

    isnt : (n m : ℕ) → (n == m) ≡ false → n ≡ m → ⊥
    isnt n m e f = grind (arith, nat_tests)

    seven : (n : ℕ) → n < 8 → (n == 0) ≡ false → (n == 1) ≡ false → (n == 2) ≡ false
        → (n == 3) ≡ false → (n == 4) ≡ false → (n == 5) ≡ false → (n == 6) ≡ false → 7 ≡ n
    seven n h a b c d e f g = grind (arith, nat_tests)

    pick : (a b c d e f g : Bool) → (s == 0) ≡ a → (s == 1) ≡ b → (s == 2) ≡ c → (s == 3) ≡ d
        → (s == 4) ≡ e → (s == 5) ≡ f → (s == 6) ≡ g → order (chosen a b c d e f g) ≡ s
    pick true b c d e f g h0 h1 h2 h3 h4 h5 h6 = is s 0 h0
    pick false true c d e f g h0 h1 h2 h3 h4 h5 h6 = is s 1 h1
    pick false false true d e f g h0 h1 h2 h3 h4 h5 h6 = is s 2 h2
    pick false false false true e f g h0 h1 h2 h3 h4 h5 h6 = is s 3 h3
    pick false false false false true f g h0 h1 h2 h3 h4 h5 h6 = is s 4 h4
    pick false false false false false true g h0 h1 h2 h3 h4 h5 h6 = is s 5 h5
    pick false false false false false false true h0 h1 h2 h3 h4 h5 h6 = is s 6 h6
    pick false false false false false false false h0 h1 h2 h3 h4 h5 h6 =
        seven s few h0 h1 h2 h3 h4 h5 h6

-- what isn't past, and before which nothing is due
in_order : (d : Draft) (k : Keyword) → is_past d k ≡ false
    → On (λ _. Unit {0}) (due_before (first_due d) k)
    → (let o : Result (Unit {0}) LangError = Ok tt in due_before (first_due d) k ≡ o)
    → IsInOrder d.stage (order k)
unfolding is_past first_due
in_order d k new u due = split (nat_lt d.stage 8) refl due
  where
    rest : Option Keyword
    rest =
        cond (length d.entries.ranges == 0) (Some Lane)
        (cond (nat_lt (length d.entries.init) (length d.entries.ranges)) (Some Init)
        (cond (nat_lt (length d.entries.contribute) (length d.entries.ranges)) (Some Contribute)
        (cond (nat_lt (length d.entries.apply) (length d.entries.ranges)) (Some Apply) None)))

    not_before : (w k : Keyword) → (let o : Result (Unit {0}) LangError = Ok tt in due_before
        (Some w) k ≡ o) → order k ≤ order w
    not_before w k e = test (nat_lt (order w) (order k)) refl e
      where
        low : (a b : ℕ) → nat_lt a b ≡ false → b ≤ a
        low a b e = grind (arith, nat_tests)

        test : (b : Bool) → nat_lt (order w) (order k) ≡ b
            → (let o : Result (Unit {0}) LangError = Ok tt in cond b (Err (Missing w)) (Ok tt) ≡ o)
            → order k ≤ order w
        test true e f = absurd (let no : ⊥ = cc in no)
        test false e f = low (order w) (order k) e

    below : (a b : ℕ) → nat_lt a b ≡ true → a < b
    below a b e = grind (arith, nat_tests)

    above : (a b : ℕ) → nat_lt a b ≡ false → b ≤ a
    above a b e = grind (arith, nat_tests)

    passed : (o s : ℕ) → cond (nat_lt (o + 1) s) true (cond (o + 1 == s) (nat_lt o 8) false) ≡ false
        → (o < 8 → s ≤ o) × (s ≤ o + 1)
    passed o s e = (λ h. first o s e h, second o s e)
      where
        first : (o s : ℕ) → cond (nat_lt (o + 1) s) true (cond (o + 1 == s) (nat_lt o 8) false)
            ≡ false → o < 8 → s ≤ o
        first o s e h = grind (arith, nat_tests)

        second : (o s : ℕ) → cond (nat_lt (o + 1) s) true (cond (o + 1 == s) (nat_lt o 8) false)
            ≡ false → s ≤ o + 1
        second o s e = grind (arith, nat_tests)

    split : (b : Bool) → nat_lt d.stage 8 ≡ b
        → (let o : Result (Unit {0}) LangError = Ok tt in due_before
        (cond b (Some (once_at d.stage)) rest) k ≡ o) → IsInOrder d.stage (order k)
    split true e f =
        let few : d.stage < 8 = below d.stage 8 e in
        let is : order (once_at d.stage) ≡ d.stage = once_order d.stage few in
        let least : order k ≤ order (once_at d.stage) = not_before (once_at d.stage) k f in
        let p = passed (order k) d.stage new in
        record {
          once = λ h. let q : d.stage ≤ order k = p.0 h in omega arith;
          late = λ h. absurd
              (omega arith);
          early = λ h. p.1;
        }
    split false e f =
        let many : 8 ≤ d.stage = above d.stage 8 e in
        let p = passed (order k) d.stage new in
        record {
          once = λ h. let q : d.stage ≤ order k = p.0 h in absurd (omega arith);
          late = λ h.
              many;
          early = λ h. p.1;
        }

abbrev room_for : Draft → Keyword → ℕ → Result (Unit {0}) LangError
room_for d k at = cond (is_full d.entries k) (Err (TooBig at)) (Ok tt)

pub admitted_on : (d : Draft) (k : Keyword) (at : ℕ) → On (λ _. IsAdmitted d k) (admitted d k at)
unfolding admitted
admitted_on d k at =
    on_test (λ _. IsAdmitted d k) (is_past d k) (Err (Repeat at))
    (due_before (first_due d) k >>= λ u. room_for d k at) (λ e. tt)
    (λ new. from_due (due_before (first_due d) k) refl new)
  where
    from_due : (o : Result (Unit {0}) LangError) → due_before (first_due d) k ≡ o
        → is_past d k ≡ false → On (λ _. IsAdmitted d k) (o >>= λ u. room_for d k at)
    from_due (Err x) e new = tt
    from_due (Ok u) e new =
        let h =
        in_order d k new (let P : Result (Unit {0}) LangError
        → Type 0 = λ o. On (λ _. Unit {0}) o in subst P (sym e) tt) e in
        on_test (λ _. IsAdmitted d k) (is_full d.entries k) (Err (TooBig at)) (Ok tt) (λ f. tt)
        (λ f. record { once = h.once; late = h.late; early = h.early; room = f })

-- at the end nothing is due, so the entries are a program's
cond_none : (b : Bool) (w : Keyword) (o : Option Keyword) → cond b (Some w) o ≡ None
    → (b ≡ false) × (o ≡ None)
cond_none true w o e = absurd (let no : ⊥ = cc in no)
cond_none false w o e = (refl, e)

pub good_draft_writable : (d : Draft) → IsGood d.stage d.entries → first_due d ≡ None
    → IsWritable d.entries
unfolding first_due
good_draft_writable d h due =
    let g = d.entries in
    let lanes = length g.ranges in
    let e1 = cond_none (nat_lt d.stage 8) _ _ due in
    let e2 = cond_none (lanes == 0) _ _ e1.1 in
    let e3 = cond_none (nat_lt (length g.init) lanes) _ _ e2.1 in
    let e4 = cond_none (nat_lt (length g.contribute) lanes) _ _ e3.1 in
    let e5 = cond_none (nat_lt (length g.apply) lanes) _ _ e4.1 in
    let late : 8 ≤ d.stage = above d.stage 8 e1.0 in
    let some : 1 ≤ lanes = positive lanes e2.0 in
    let i : lanes ≤ length g.init = above (length g.init) lanes e3.0 in
    let c : lanes ≤ length g.contribute = above (length g.contribute) lanes e4.0 in
    let a : lanes ≤ length g.apply = above (length g.apply) lanes e5.0 in
    let i' = h.trees.few_init in
    let c' = h.trees.few_contribute in
    let a' = h.trees.few_apply in
    let attr = h.begun.attr (omega arith) in
    record {
      name = h.begun.name (omega arith);
      limits =
          record {
            vertices = h.begun.vertices (omega arith);
            degree = h.begun.degree (omega arith);
            edges = h.begun.edges (omega arith);
            weight = h.begun.weight (omega arith);
            attr = attr.range;
            attr_least = attr.least;
            attr_most = attr.most;
          };
      rounds = h.begun.rounds (omega arith);
      combine = h.begun.combine late;
      few_params = h.params.few;
      names = h.params.names;
      values = h.params.values;
      lanes = record { least = some; most = h.lanes.few };
      ranges = h.lanes.each;
      init = record { each_lane = omega arith; fit = h.trees.init };
      contribute = record { each_lane = omega arith; fit = h.trees.contribute };
      apply = record { each_lane = omega arith; fit = h.trees.apply };
    }
  where
    above : (a b : ℕ) → nat_lt a b ≡ false → b ≤ a
    above a b e = grind (arith, nat_tests)

    positive : (n : ℕ) → (n == 0) ≡ false → 1 ≤ n
    positive n e = grind (arith, nat_tests)
