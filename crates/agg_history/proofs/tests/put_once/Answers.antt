use Rattle.std.proofs.Common.{◌≡◌, ℕ, List, Some, IsSome, inl, inr, refl, sym, ap, ◌∙◌, subst}
use Rattle.std.proofs.lemmas.Bool.{cases_eq}
use Rattle.bolt_base.specs.Keep.{Entry}
use Rattle.agg_history.specs.Puts.{Round, PutTable, IsPutMore, put_at}
use Rattle.agg_history.proofs.tests.put_once.Goals as goal

only_puts : (old new : PutTable) (puts : List Round) → new ≡ record old { puts = puts }
    → new ≡ record old { puts = new.puts }
only_puts old new puts e =
    e ∙ ap (λ (p : List Round). record old { puts = p }) (sym (ap (λ (t : PutTable). t.puts) e))

-- what was put stays
still_put : (puts more : List Round) (i v : ℕ) (e : Entry) → IsPutMore puts i v e more → (j u : ℕ)
    → IsSome (put_at puts j u) → IsSome (put_at more j u)
still_put puts more i v e is j u was = elim (cases_eq j i) [
  | inl row ↦ elim (cases_eq u v) [
    | inl here ↦ subst IsSome (sym ((λ k. put_at more (row k) (here k)) ∙ is.here)) refl
    | inr other ↦ subst IsSome (sym (is.elsewhere j u (λ _. other))) was
  ]
  | inr other ↦ subst IsSome (sym (is.elsewhere j u (λ same _. other same))) was
]

pub returns-clause-same : goal.returns-clause-same
returns-clause-same c = only_puts c.args.overlay.now c.put.new.self _ c.in_ok-put.ensures.ok

pub returns-clause-here : goal.returns-clause-here
returns-clause-here c = subst IsSome (sym c.in_ok-put.ensures.found.here) refl

pub returns-clause-others : goal.returns-clause-others
returns-clause-others c =
    still_put c.args.overlay.now.puts c.put.new.self.puts c.args.i c.args.v _
    c.in_ok-put.ensures.found
