-- How a call's result is its status.
use Rattle.std.specs.Prelude.{◌≡◌, ◌≢◌, ◌⊎◌, ℕ, ◌≤◌, List, length, Result, Ok, Err}
use Rattle.std.proofs.Common.{refl, ap, arith, inl, inr}
use Rattle.bolt_io.specs.Faults.{Rose}
use Rattle.bolt_io.specs.Told.{Told}
use Rattle.batch_steps.specs.Steps.{IsMade}
use Rattle.batch_steps.specs.Files.{Content, Named}
use Rattle.command_files.specs.declared.stop.Stop.{Stop}
use Rattle.command_files.specs.declared.stop.Stop.TheVariants.{ShelfFailed, SinkFailed, Memory}
use Rattle.command_files.specs.declared.stop.Stop.TheVariants.{TooLong}
use Rattle.command_files.specs.Files.{content, AreFirst, AreRead, MeetsLong}
use Rattle.command_files.specs.Reads.{Follows, Reads}
use Rattle.command_files.specs.Stops.{ShelfCause, SinkCause, status_of}
use Rattle.command_files.proofs.ReadSteps.{told_all, told_map}
use Rattle.batch_run.specs.Conducts.{World}
use Rattle.bolt_cli.specs.Ends.{IsOwn, IsEarly, Ends}

pub is_early : (e : Stop) → IsEarly (status_of e)
is_early ShelfFailed = inl refl
is_early SinkFailed = inr (inl refl)
is_early Memory = inr (inr (inl refl))
is_early TooLong = inr (inr (inr refl))

pub stop_status_least : (e : Stop) → 5 ≤ status_of e
stop_status_least ShelfFailed = omega arith
stop_status_least SinkFailed = omega arith
stop_status_least Memory = omega arith
stop_status_least TooLong = omega arith

pub own_below : (n : ℕ) → IsOwn n → n ≤ 4
own_below n (inl is) = omega (arith, is)
own_below n (inr (inl is)) = omega (arith, is)
own_below n (inr (inr (inl is))) = omega (arith, is)
own_below n (inr (inr (inr (inl is)))) = omega (arith, is)
own_below n (inr (inr (inr (inr is)))) = omega (arith, is)

pub not_decided : (n : ℕ) → 5 ≤ n → IsOwn n → ⊥
not_decided n h own = omega (arith, h, own_below n own)

pub not_made : (n : ℕ) → 5 ≤ n → IsMade n → ⊥
not_made n h (inl is) = omega (arith, h, is)
not_made n h (inr is) = omega (arith, h, is)

pub shelf_rose : (e : Stop) (a b : ℕ) → ShelfCause a b e → status_of e ≡ 5 → Rose a b
shelf_rose ShelfFailed a b h is = h
shelf_rose SinkFailed a b h is = absurd (omega (arith, is))
shelf_rose Memory a b h is = absurd (omega (arith, is))
shelf_rose TooLong a b h is = absurd (omega (arith, is))

pub shelf_stays : (e : Stop) (a b : ℕ) → ShelfCause a b e → status_of e ≢ 5 → b ≡ a
shelf_stays ShelfFailed a b h not = absurd (not refl)
shelf_stays SinkFailed a b h not = h
shelf_stays Memory a b h not = h
shelf_stays TooLong a b h not = h

pub sink_rose : (e : Stop) (a b : ℕ) → SinkCause a b e → status_of e ≡ 6 → Rose a b
sink_rose ShelfFailed a b h is = absurd (omega (arith, is))
sink_rose SinkFailed a b h is = h
sink_rose Memory a b h is = absurd (omega (arith, is))
sink_rose TooLong a b h is = absurd (omega (arith, is))

pub sink_stays : (e : Stop) (a b : ℕ) → SinkCause a b e → status_of e ≢ 6 → b ≡ a
sink_stays ShelfFailed a b h not = h
sink_stays SinkFailed a b h not = absurd (not refl)
sink_stays Memory a b h not = h
sink_stays TooLong a b h not = h

pub is_too_long : (e : Stop) → status_of e ≡ 8 → e ≡ TooLong
is_too_long ShelfFailed is = absurd (omega (arith, is))
is_too_long SinkFailed is = absurd (omega (arith, is))
is_too_long Memory is = absurd (omega (arith, is))
is_too_long TooLong is = refl

pub is_memory : (e : Stop) (a b c d : ℕ) → ShelfCause a b e → SinkCause c d e → ¬ Rose a b
    → ¬ Rose c d → (e ≡ TooLong → ⊥) → status_of e ≡ 7
is_memory ShelfFailed a b c d x y first later not = absurd (first x)
is_memory SinkFailed a b c d x y first later not = absurd (later y)
is_memory Memory a b c d x y first later not = refl
is_memory TooLong a b c d x y first later not = absurd (not refl)

module _ (Decided : ℕ → Type 0) (files : Content → List Named) (most : ℕ) (slots : ℕ → ℕ)
    (old new : World) where
  abbrev Does : Result ℕ Stop → Type 0
  Does r = Reads files IsMade most slots old.told new.told old.opened new.opened r

  abbrev pub Ends-ok : (s : ℕ) → Does (Ok s) → new.shelf_faults ≡ old.shelf_faults
      → new.sink_faults ≡ old.sink_faults → IsOwn s → Decided s
      → Ends Decided files most slots old new s
  Ends-ok s reads shelf sink own decided =
      let F : Told → Type 0 =
      λ t. Follows {T = ℕ} (content t) (files (content t)) IsMade reads.more (Ok s) in
      record {
        known = inl own;
        decided = λ _. decided;
        more = reads.more;
        slots = reads.told;
        count = reads.count;
        first =
            told_map F (λ t. AreFirst reads.more (files (content t))) old.told (λ t g. g.first)
            reads.follows;
        all =
            λ _. told_map F (λ t. length reads.more ≡ length (files (content t))) old.told
            (λ t g. g.all) reads.follows;
        all_read =
            λ made. told_map F (λ t. AreRead (content t) reads.more (files (content t))) old.told
            (λ t g. g.done made) reads.follows;
        within = reads.within;
        full = λ _. reads.full;
        too_long = λ is. absurd (omega (arith, own_below s own, is));
        not_long =
            λ _. told_map F (λ t. ¬ MeetsLong (content t) (files (content t))) old.told
            (λ t g. g.not_long) reads.follows;
        shelf_failed = λ is. absurd (omega (arith, own_below s own, is));
        sink_failed = λ is. absurd (omega (arith, own_below s own, is));
        shelf_calm = λ _. shelf;
        sink_calm = λ _. sink;
        complete =
            told_all (λ t. ¬ Rose old.shelf_faults new.shelf_faults
            → ¬ Rose old.sink_faults new.sink_faults
            → ¬ MeetsLong (content t) (files (content t)) → IsOwn s ⊎ (s ≡ 7)) old.told
            (λ t _ _ _. inl own);
      }

  abbrev pub Ends-err : (e : Stop) → Does (Err e)
      → ShelfCause old.shelf_faults new.shelf_faults e
      → SinkCause old.sink_faults new.sink_faults e
      → Ends Decided files most slots old new (status_of e)
  Ends-err e reads shelf sink =
      let F : Told → Type 0 =
      λ t. Follows {T = ℕ} (content t) (files (content t)) IsMade reads.more (Err e) in
      record {
        known = inr (is_early e);
        decided = λ d. absurd (not_decided (status_of e) (stop_status_least e) d);
        more = reads.more;
        slots = reads.told;
        count = reads.count;
        first =
            told_map F (λ t. AreFirst reads.more (files (content t))) old.told (λ t g. g.first)
            reads.follows;
        all = λ d. absurd (not_decided (status_of e) (stop_status_least e) d);
        all_read = λ d. absurd (not_made (status_of e) (stop_status_least e) d);
        within = reads.within;
        full = λ d. absurd (not_decided (status_of e) (stop_status_least e) d);
        too_long =
            λ is. told_map F (λ t. MeetsLong (content t) (files (content t))) old.told
            (λ t g. g.too_long (ap (λ (x : Stop). let r : Result ℕ Stop = Err x in r)
            (is_too_long e is))) reads.follows;
        not_long = λ d. absurd (not_decided (status_of e) (stop_status_least e) d);
        shelf_failed = shelf_rose e old.shelf_faults new.shelf_faults shelf;
        sink_failed = sink_rose e old.sink_faults new.sink_faults sink;
        shelf_calm = shelf_stays e old.shelf_faults new.shelf_faults shelf;
        sink_calm = sink_stays e old.sink_faults new.sink_faults sink;
        complete =
            told_map F (λ t. ¬ Rose old.shelf_faults new.shelf_faults
            → ¬ Rose old.sink_faults new.sink_faults
            → ¬ MeetsLong (content t) (files (content t))
            → IsOwn (status_of e) ⊎ (status_of e ≡ 7)) old.told
            (λ t g a b c. inr (is_memory e old.shelf_faults new.shelf_faults old.sink_faults
            new.sink_faults shelf sink a b
            (λ is. c (g.too_long (ap (λ (x : Stop). let r : Result ℕ Stop = Err x in r) is)))))
            reads.follows;
      }
