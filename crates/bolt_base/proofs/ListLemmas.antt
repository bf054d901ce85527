-- Small facts of lists, tests and products that the crates above need as well.
use Rattle.std.proofs.Common.{◌≡◌, ℕ, zero, suc, ◌+◌, ◌*◌, Bool, true, false, not, cond, List, []}
use Rattle.std.proofs.Common.{◌∷◌, get_or, replicate, refl, arith, suc-mul, Option, None}
use Rattle.std.specs.List.{AllByRecursion}

-- a product by a successor
pub suc_times : (n m : ℕ) → suc n * m ≡ m + n * m
suc_times n m = omega (arith, suc-mul n m)

-- a list of one item, and past its end too
pub get_or-replicate_same : {X : Type 0} (n i : ℕ) (d : X) → get_or (replicate n d) i d ≡ d
get_or-replicate_same zero i d = refl
get_or-replicate_same (suc n) zero d = refl
get_or-replicate_same (suc n) (suc i) d = get_or-replicate_same n i d

pub cond-not : {X : Type 0} (b : Bool) (o : Option X) → cond (not b) o None ≡ cond b None o
cond-not true o = refl
cond-not false o = refl

pub AllByRecursion-weaker : {X : Type 0} (P Q : X → Type 0) → ((x : X) → P x → Q x) → (xs : List X)
    → AllByRecursion P xs → AllByRecursion Q xs
AllByRecursion-weaker P Q f [] h = tt
AllByRecursion-weaker P Q f (x ∷ xs) h = (f x h.0, AllByRecursion-weaker P Q f xs h.1)
