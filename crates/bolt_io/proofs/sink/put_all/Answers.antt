use Rattle.std.proofs.Common.{◌≡◌, ℕ, ◌+◌, ◌-◌, List, ◌++◌, length, take, drop, sym, ◌∙◌, ap, subst}
use Rattle.std.proofs.Common.{arith, length-drop, take-add}
use Rattle.std.proofs.lemmas.List.{take_all}
use Rattle.bolt_io.specs.Written.{Wrote}
use Rattle.bolt_io.proofs.WrittenLemmas.{Wrote-then}
use Rattle.bolt_io.proofs.sink.put_all.Goals as goal

-- what a range from `at` on reads
from : (bytes : List ℕ) (at : ℕ) → take (length bytes - at) (drop at bytes) ≡ drop at bytes
from bytes at = take_all _ _ (omega (arith, length-drop at bytes))

more : (bytes : List ℕ) (at n : ℕ)
    → take at bytes ++ take n (take (length bytes - at) (drop at bytes)) ≡ take (at + n) bytes
more bytes at n = ap (λ l. take at bytes ++ take n l) (from bytes at) ∙ sym (take-add at n bytes)

pub loop-at-preserved : goal.loop-at-preserved
loop-at-preserved g c =
    let i = c.loop-at.invariant in
    let n = c.in_ok-at.field-0 in
    let bytes = c.args.bytes.now in
    record {
      within = omega (
        arith,
        c.in_ok-at.ensures.within,
        ap length (from bytes c.loop-at.at),
        length-drop c.loop-at.at bytes,
        i.within,
      );
      wrote = subst (Wrote (g.K.Sink.written c.args.sink.now) (g.K.Sink.written c.write.new.self))
          (more bytes c.loop-at.at n) (Wrote-then _ _ _ _ _ i.wrote c.in_ok-at.ensures.wrote);
      calm = c.in_ok-at.ensures.calm ∙ i.calm;
    }
