-- What is known of a round in progress, and that it may go on.
use Rattle.std.proofs.Common.{◌≡◌, Option, Some, None, refl, sym, subst}
use Rattle.run_model.specs.Logs.{Round}
use Rattle.core_model.specs.Machine.{with_work}
use Rattle.core_model.specs.Rules.{IfProgress, IsAlone, IsIterating, IsProgress, IsRuled, IsWork}
use Rattle.core_model.specs.State.{Given, Work, Progress, State}

pub none_awaits : (r : Progress) (a : Option Round) → IsAlone (Some r) a → a ≡ None
none_awaits r None alone = refl
none_awaits r (Some next) alone = absurd alone

pub none_is_alone : (q : Option Progress) → IsAlone q None
none_is_alone None = tt
none_is_alone (Some r) = tt

module _ (c : Given) (s : State) (ruled : IsRuled c s) (r : Progress) (is : s.progress ≡ Some r)
  where
    pub progress_is : IsProgress c s.graph s.journal r
    progress_is = subst (λ (q : Option Progress). IfProgress c s.graph s.journal q) is
        ruled.progress

    pub nothing_awaits : s.awaiting ≡ None
    nothing_awaits = none_awaits r s.awaiting
        (subst (λ (q : Option Progress). IsAlone q s.awaiting) is ruled.alone)

    pub work_is : (w : Option Work) → r.work ≡ w → IsWork c s.graph r.entry.batch w
    work_is w e = subst (λ (q : Option Work). IsWork c s.graph r.entry.batch q) e progress_is.work

    pub work_goes_on : (w : Work) → IsIterating c s.graph r.entry.batch w
        → IsRuled c (with_work s r w)
    work_goes_on w iterating = record {
      entries = ruled.entries;
      current = ruled.current;
      published = ruled.published;
      progress = record { entry = progress_is.entry; work = iterating };
      alone = subst (λ (a : Option Round). IsAlone (Some (record r { work = Some w })) a)
          (sym nothing_awaits) tt;
    }
