use Rattle.std.proofs.Common.{◌≡◌, ℕ, zero, suc, ◌+◌, not, nat_eq, IsTrue, IsSome, is_some, Option}
use Rattle.std.proofs.Common.{Some, None, refl, sym, ap, ◌∙◌, arith}
use Rattle.std.proofs.lemmas.Bool.{false≢true, ne_eqb}
use Rattle.agg_history.specs.Puts.{put_at, round_at}
use Rattle.agg_history.specs.PutList.{put_in}
use Rattle.bolt_base.specs.Keep.{Entry}
use Rattle.agg_history.proofs.overlay.Overlay.has.Goals as goal

-- a place that isn't 0 is that of a put
has_put : (place : ℕ) (found : Option Entry) (there : ℕ → Entry) → (place ≡ 0 → found ≡ None)
    → ((p : ℕ) → place ≡ p + 1 → found ≡ Some (there p))
    → (IsTrue (not (nat_eq place 0)) → IsSome found)
    × (IsSome found → IsTrue (not (nat_eq place 0)))
has_put zero found there none some =
    (λ t. absurd (false≢true t), λ s. absurd (false≢true (sym (ap is_some (none refl)) ∙ s)))
has_put (suc p) found there none some =
    let e : suc p ≡ p + 1 = omega arith in
    (λ t. ap is_some (some p e), λ s. ap not (ne_eqb (suc p) 0 (λ q. absurd (omega arith))))

pub returns-clause-put : goal.returns-clause-put
returns-clause-put c = has_put c.place.result (put_at c.args.self.now.puts c.args.i c.args.v)
    (λ p. (put_in (round_at c.args.self.now.puts c.args.i) p).1) c.place.ensures.none
    c.place.ensures.there
