-- The batches of a slot, one after another.
use Rattle.std.proofs.Common.{◌≡◌, ◌∙◌, ℕ, List, [], ◌∷◌, ◌++◌, Option, Some, None, refl, sym, ap}
use Rattle.std.proofs.Common.{subst, append_assoc}
use Rattle.std.specs.Prelude.{IfSome}
use Rattle.std.specs.Option.{option_map}
use Rattle.std.proofs.lemmas.List.{append-nil}
use Rattle.bolt_io.specs.Told.{Told}
use Rattle.text_lines.specs.Feed.{Feed, fresh_feed, readable}
use Rattle.graph_text.specs.BatchCode.{batches_ahead}
use Rattle.graph_text.specs.StreamText.{batches}
use Rattle.graph_text.specs.declared.batch_text.BatchText.{BatchText}

-- the batches so far, and those that are still to come
abbrev pub batches_with : List BatchText → Option (List BatchText) → Option (List BatchText)
batches_with before more = option_map (λ bs. before ++ bs) more

-- the next one joins those so far
pub batch_taken : (before : List BatchText) (b : BatchText) (ahead later : Option (List BatchText))
    → ahead ≡ option_map (λ more. b ∷ more) later
    → batches_with (before ++ b ∷ []) later ≡ batches_with before ahead
batch_taken before b ahead later first = each later ∙ ap (batches_with before) (sym first)
  where
    each : (o : Option (List BatchText)) → batches_with (before ++ b ∷ []) o
        ≡ batches_with before (option_map (λ more. b ∷ more) o)
    each None = refl
    each (Some bs) =
        ap (λ (l : List BatchText). (let o : Option (List BatchText) = Some l in o))
        (append_assoc before (b ∷ []) bs)

-- at the end of a text they are all
pub all_batches : {X : Type 0} (first all : List BatchText) (start ahead : Option (List BatchText))
    (told : Option X) → batches_with all ahead ≡ batches_with first start
    → ahead ≡ option_map (λ _. []) told → IfSome start (λ more. all ≡ first ++ more)
all_batches first all None ahead told so_far end = tt
all_batches first all (Some bs) ahead None so_far end =
    absurd (no (ap (batches_with all) (sym end) ∙ so_far))
  where
    no : {x : List BatchText} → (let o : Option (List BatchText) = None in o) ≡ Some x → ⊥
    no e = cc e
all_batches first all (Some bs) ahead (Some t) so_far end =
    sym (append-nil all) ∙ same (ap (batches_with all) (sym end) ∙ so_far)
  where
    same : {x y : List BatchText} → (let o : Option (List BatchText) = Some x in o) ≡ Some y → x ≡ y
    same e = cc e

-- those of a slot of which nothing had been taken
pub slot_batches : (told : Option Told) (slot : ℕ) (f : Feed) → f ≡ fresh_feed slot
    → (first all : List BatchText) → first ≡ []
    → IfSome (batches_ahead told f) (λ more. all ≡ first ++ more)
    → IfSome told (λ t. all ≡ batches (readable t slot))
slot_batches told slot f fresh first all none h =
    each told (subst (λ (x : Feed). IfSome (batches_ahead told x) (λ more. all ≡ more)) fresh
    (subst (λ (bs : List BatchText). IfSome (batches_ahead told f) (λ more. all ≡ bs ++ more)) none
    h))
  where
    each : (o : Option Told) → IfSome (batches_ahead o (fresh_feed slot)) (λ more. all ≡ more)
        → IfSome o (λ t. all ≡ batches (readable t slot))
    each None h = tt
    each (Some t) h = h
