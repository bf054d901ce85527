-- Which entry is due, and which may stand next.
use Rattle.std.proofs.Common.{◌≡◌, ℕ, ◌+◌, ◌<◌, ◌≤◌, true, false, cond, length}
use Rattle.std.proofs.Common.{Option, Some, None, Result, Ok, Err, ◌∙◌, ap, arith}
use Rattle.std.specs.Prelude.{◌==◌, nat_lt}
use Rattle.std.proofs.lemmas.Bool.Decides.{nat_tests}
use Rattle.text_words.specs.Fields.{◌>>=◌}
use Rattle.text_words.specs.declared.error.LangError.{LangError}
use Rattle.text_words.specs.declared.error.LangError.TheVariants.{Repeat, TooBig}
use Rattle.text_words.specs.declared.error.Keyword.{Keyword}
use Rattle.text_words.specs.declared.error.Keyword.TheVariants.{Lane, Init, Contribute, Apply}
use Rattle.vertex_lang.specs.declared.draft.Draft.{Draft}
use Rattle.vertex_lang.specs.Keywords.{order, once_at}
use Rattle.vertex_lang.specs.Drafts.{first_due, due_before, is_past, is_full, admitted}

pub admitted_by : (d : Draft) (k : Keyword) (at : ℕ) → is_past d k ≡ false
    → due_before (first_due d) k ≡ Ok tt → is_full d.entries k ≡ false → admitted d k at ≡ Ok tt
unfolding admitted
admitted_by d k at new due room =
    ap (λ b. cond b (Err (Repeat at))
    (due_before (first_due d) k >>= λ u. cond (is_full d.entries k) (Err (TooBig at)) (Ok tt)))
    new
    ∙ ap (λ (o : Result (Unit {0}) LangError). o >>= λ u. cond (is_full d.entries k)
    (Err (TooBig at)) (Ok tt)) due
    ∙ ap (λ b. cond b (Err (TooBig at)) (Ok tt)) room

-- an entry that may stand more than once, where no later one stands
pub not_past : (d : Draft) (k : Keyword) → d.stage ≤ order k + 1 → 8 ≤ order k → is_past d k ≡ false
unfolding is_past
not_past d k low many = test (order k) d.stage low many
  where
    test : (o s : ℕ) → s ≤ o + 1 → 8 ≤ o
        → cond (nat_lt (o + 1) s) true (cond (o + 1 == s) (nat_lt o 8) false) ≡ false
    test o s low many = grind (arith, nat_tests)

nat_lt_true : (a b : ℕ) → a < b → nat_lt a b ≡ true
nat_lt_true a b h = grind (arith, nat_tests)

nat_lt_false : (a b : ℕ) → b ≤ a → nat_lt a b ≡ false
nat_lt_false a b h = grind (arith, nat_tests)

nonzero_test : (n : ℕ) → 0 < n → (n == 0) ≡ false
nonzero_test n h = grind (arith, nat_tests)

zero_test : (n : ℕ) → n ≡ 0 → (n == 0) ≡ true
zero_test n h = grind (arith, nat_tests)

abbrev from_apply : Draft → Option Keyword
from_apply d = cond (nat_lt (length d.entries.apply) (length d.entries.ranges)) (Some Apply) None

abbrev from_contribute : Draft → Option Keyword
from_contribute d =
    cond (nat_lt (length d.entries.contribute) (length d.entries.ranges)) (Some Contribute)
    (from_apply d)

abbrev from_init : Draft → Option Keyword
from_init d =
    cond (nat_lt (length d.entries.init) (length d.entries.ranges)) (Some Init) (from_contribute d)

abbrev from_lane : Draft → Option Keyword
from_lane d = cond (length d.entries.ranges == 0) (Some Lane) (from_init d)

behind_once : (d : Draft) → 8 ≤ d.stage → first_due d ≡ from_lane d
unfolding first_due
behind_once d late =
    ap (λ b. cond b (Some (once_at d.stage)) (from_lane d)) (nat_lt_false d.stage 8 late)

pub due_lane : (d : Draft) → 8 ≤ d.stage → length d.entries.ranges ≡ 0 → first_due d ≡ Some Lane
due_lane d late empty =
    behind_once d late ∙ ap (λ b. cond b (Some Lane) (from_init d))
    (zero_test (length d.entries.ranges) empty)

behind_lanes : (d : Draft) → 8 ≤ d.stage → 0 < length d.entries.ranges → first_due d ≡ from_init d
behind_lanes d late lanes =
    behind_once d late ∙ ap (λ b. cond b (Some Lane) (from_init d))
    (nonzero_test (length d.entries.ranges) lanes)

pub due_init : (d : Draft) → 8 ≤ d.stage → length d.entries.init < length d.entries.ranges
    → first_due d ≡ Some Init
due_init d late few =
    behind_lanes d late (omega arith)
    ∙ ap (λ b. cond b (Some Init) (from_contribute d))
    (nat_lt_true (length d.entries.init) (length d.entries.ranges) few)

behind_init : (d : Draft) → 8 ≤ d.stage → 0 < length d.entries.ranges
    → length d.entries.ranges ≤ length d.entries.init → first_due d ≡ from_contribute d
behind_init d late lanes all =
    behind_lanes d late lanes ∙ ap (λ b. cond b (Some Init) (from_contribute d))
    (nat_lt_false (length d.entries.init) (length d.entries.ranges) all)

pub due_contribute : (d : Draft) → 8 ≤ d.stage → length d.entries.ranges ≤ length d.entries.init
    → length d.entries.contribute < length d.entries.ranges → first_due d ≡ Some Contribute
due_contribute d late all few =
    behind_init d late (omega arith) all
    ∙ ap (λ b. cond b (Some Contribute) (from_apply d))
    (nat_lt_true (length d.entries.contribute) (length d.entries.ranges) few)

behind_contribute : (d : Draft) → 8 ≤ d.stage → 0 < length d.entries.ranges
    → length d.entries.ranges ≤ length d.entries.init
    → length d.entries.ranges ≤ length d.entries.contribute → first_due d ≡ from_apply d
behind_contribute d late lanes all more =
    behind_init d late lanes all ∙ ap (λ b. cond b (Some Contribute) (from_apply d))
    (nat_lt_false (length d.entries.contribute) (length d.entries.ranges) more)

pub due_apply : (d : Draft) → 8 ≤ d.stage → length d.entries.ranges ≤ length d.entries.init
    → length d.entries.ranges ≤ length d.entries.contribute
    → length d.entries.apply < length d.entries.ranges → first_due d ≡ Some Apply
due_apply d late all more few =
    behind_contribute d late (omega arith) all more
    ∙ ap (λ b. cond b (Some Apply) None)
    (nat_lt_true (length d.entries.apply) (length d.entries.ranges) few)

pub none_due : (d : Draft) → 8 ≤ d.stage → 0 < length d.entries.ranges
    → length d.entries.ranges ≤ length d.entries.init
    → length d.entries.ranges ≤ length d.entries.contribute
    → length d.entries.ranges ≤ length d.entries.apply → first_due d ≡ None
none_due d late lanes all more last =
    behind_contribute d late lanes all more
    ∙ ap (λ b. cond b (Some Apply) None)
    (nat_lt_false (length d.entries.apply) (length d.entries.ranges) last)

-- what is due doesn't come before the entry
pub due_is : (d : Draft) (w k : Keyword) → first_due d ≡ Some w → order k ≤ order w
    → due_before (first_due d) k ≡ Ok tt
due_is d w k e h = ap (λ (o : Option Keyword). due_before o k) e ∙ test (order w) (order k) h
  where
    test : (a b : ℕ) → b ≤ a → let o : Result (Unit {0}) LangError = cond (nat_lt a b)
        (Err (Rattle.text_words.specs.declared.error.LangError.TheVariants.Missing w)) (Ok tt) in o
        ≡ Ok tt
    test a b h =
        ap (λ t. cond t (Err (Rattle.text_words.specs.declared.error.LangError.TheVariants.Missing
        w)) (Ok tt)) (nat_lt_false a b h)
