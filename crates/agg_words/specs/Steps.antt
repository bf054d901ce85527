-- What each kind of step tells of the number that it found and of its seat's new view. No seat
-- holds a slot.
use Rattle.std.specs.Prelude.{◌≡◌, ℕ, ◌%◌, ◌==◌, if◌then◌else◌}
use Rattle.std.specs.Int.{bit_at}
use Rattle.bolt_base.specs.Residue.{sum_at}
use Rattle.atomic_table.specs.Table.{Step, Me}
use Rattle.agg_words.specs.View.{View, with_amount, minus, with_bit, with_met, without_word}
use Rattle.agg_words.specs.Known.{IsKnown, MarksOnce}
use Rattle.agg_words.specs.declared.layout.Layout.{Layout}

-- of a step, the seat before, the number found and the seat after
abbrev pub Told : Type 1
Told = Step ℕ → Me ℕ View → ℕ → Me ℕ View → Type 0

-- the amounts have grown by this one
abbrev pub added : Told
added st me found next = next ≡ (with_amount me.0 st.word st.first, me.1)

-- the number found was the sum of the seat's amounts, which have grown by minus it
abbrev pub taken : Told
taken st me found next =
    (found ≡ sum_at st.word me.0.amounts) × (next ≡ (with_amount me.0 st.word (minus found), me.1))

-- the bit was clear and has joined the marks, or was set and has been met
abbrev pub marked : ℕ → Layout → Told
marked bit k st me found next =
    (next ≡ (with_bit (bit_at found (bit % 64) == 0) me.0 bit, me.1))
    × MarksOnce k next.0
    × (next.0.units ≡ k.units → IsKnown k next.0)

-- the bit was set and has been met, or was clear and nothing has changed
abbrev pub met : ℕ → Layout → Told
met bit k st me found next =
    (next ≡ (if bit_at found (bit % 64) == 1 then with_met me.0 bit else me.0, me.1))
    × MarksOnce k next.0
    × (next.0.units ≡ k.units → IsKnown k next.0)

-- nothing has changed
abbrev pub looked : Layout → Told
looked k st me found next =
    (next ≡ me) × MarksOnce k next.0 × (next.0.units ≡ k.units → IsKnown k next.0)

-- the bits of the mark word have left
abbrev pub wiped : ℕ → Told
wiped mark_word st me found next = next ≡ (without_word me.0 mark_word, me.1)
