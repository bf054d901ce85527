-- What fields that are right are like.
use Rattle.std.proofs.Common.{◌≡◌, ℕ, ℤ, ◌≤◌, ◌≤ℤ◌, Bool, true, false, cond, List, Option, Some}
use Rattle.std.proofs.Common.{None, Result, Ok, Err, refl, arith}
use Rattle.std.specs.Prelude.{◌&&◌, nat_le, int_le}
use Rattle.std.proofs.lemmas.Bool.Decides.{nat_tests}
use Rattle.std.proofs.lemmas.Int.{ints}
use Rattle.vertex_expr.specs.Names.{is_name}
use Rattle.vertex_expr.specs.Writable.{IsWithin}
use Rattle.lexical.specs.Words.{Word}
use Rattle.text_words.specs.Fields.{◌>>=◌, word_at, unsigned_of, whole_of, in_bounds, in_range}
use Rattle.text_words.specs.Fields.{number_at, signed_at, name_at}
use Rattle.text_words.specs.declared.error.LangError.{LangError}
use Rattle.text_words.specs.declared.error.LangError.TheVariants.{Syntax}

-- what is answered is like this, if anything is
abbrev pub On : {A : Type 0} → (A → Type 0) → Result A LangError → Type 0
On P (Ok x) = P x
On P (Err e) = Unit {0}

pub on_then : {A B : Type 0} (P : A → Type 0) (Q : B → Type 0) (o : Result A LangError)
    (f : A → Result B LangError) → On P o → ((x : A) → P x → On Q (f x)) → On Q (o >>= f)
on_then P Q (Ok x) f h g = g x h
on_then P Q (Err e) f h g = tt

pub on_any : {A : Type 0} (o : Result A LangError) → On (λ _. Unit {0}) o
on_any (Ok x) = tt
on_any (Err e) = tt

pub on_test : {A : Type 0} (P : A → Type 0) (b : Bool) (o p : Result A LangError)
    → (b ≡ true → On P o) → (b ≡ false → On P p) → On P (cond b o p)
on_test P true o p h i = h refl
on_test P false o p h i = i refl

pub on_of : {A : Type 0} (P : A → Type 0) (o : Result A LangError) → ((x : A) → o ≡ Ok x → P x)
    → On P o
on_of P (Ok x) h = h x refl
on_of P (Err e) h = tt

number_fits : (low high : ℕ) (w : Word) (o : Option ℕ)
    → On (λ r. IsWithin low high r.0) (in_bounds low high w o)
number_fits low high w None = tt
number_fits low high w (Some n) =
    on_test (λ r. IsWithin low high r.0) (nat_le low n && nat_le n high) _ _
    (λ e. within low high n e) (λ e. tt)
  where
    within : (low high n : ℕ) → (nat_le low n && nat_le n high) ≡ true → IsWithin low high n
    within low high n e = record { least = first low high n e; most = second low high n e }
      where
        first : (low high n : ℕ) → (nat_le low n && nat_le n high) ≡ true → low ≤ n
        first low high n e = grind (arith, nat_tests)

        second : (low high n : ℕ) → (nat_le low n && nat_le n high) ≡ true → n ≤ high
        second low high n e = grind (arith, nat_tests)

pub number_on : (line : List ℕ) (from low high : ℕ)
    → On (λ r. IsWithin low high r.0) (number_at line from low high)
unfolding number_at
number_on line from low high =
    on_then (λ _. Unit {0}) (λ r. IsWithin low high r.0) (word_at line from)
    (λ w. in_bounds low high w (unsigned_of w.bytes)) (on_any (word_at line from))
    (λ w u. number_fits low high w (unsigned_of w.bytes))

whole_fits : (low high : ℤ) (w : Word) (o : Option ℤ)
    → On (λ r. (low ≤ℤ r.0) × (r.0 ≤ℤ high)) (in_range low high w o)
whole_fits low high w None = tt
whole_fits low high w (Some z) =
    on_test (λ r. (low ≤ℤ r.0) × (r.0 ≤ℤ high)) (int_le low z && int_le z high) _ _
    (λ e. (first low high z e, second low high z e)) (λ e. tt)
  where
    first : (low high z : ℤ) → (int_le low z && int_le z high) ≡ true → low ≤ℤ z
    first low high z e = grind (arith, ints)

    second : (low high z : ℤ) → (int_le low z && int_le z high) ≡ true → z ≤ℤ high
    second low high z e = grind (arith, ints)

pub signed_on : (line : List ℕ) (from : ℕ) (low high : ℤ)
    → On (λ r. (low ≤ℤ r.0) × (r.0 ≤ℤ high)) (signed_at line from low high)
unfolding signed_at
signed_on line from low high =
    on_then (λ _. Unit {0}) (λ r. (low ≤ℤ r.0) × (r.0 ≤ℤ high)) (word_at line from)
    (λ w. in_range low high w (whole_of w.bytes)) (on_any (word_at line from))
    (λ w u. whole_fits low high w (whole_of w.bytes))

pub name_on : (line : List ℕ) (from : ℕ) → On (λ w. is_name w.bytes ≡ true) (name_at line from)
unfolding name_at
name_on line from =
    on_then (λ _. Unit {0}) (λ w. is_name w.bytes ≡ true) (word_at line from)
    (λ w. cond (is_name w.bytes) (Ok w) (Err (Syntax w.at))) (on_any (word_at line from))
    (λ w u. on_test (λ v. is_name v.bytes ≡ true) (is_name w.bytes) (Ok w) (Err (Syntax w.at))
    (λ e. e) (λ e. tt))
