use Rattle.std.proofs.Common.{◌∙◌, [], List, ℕ, sym, ap}
use Rattle.std.specs.Option.{unwrap_or}
use Rattle.std.specs.Prelude.{Option}
use Rattle.cli_words.specs.Words.{behind}
use Rattle.live_opening.proofs.NameSteps.{behind-none, behind-rest}
use Rattle.live_opening.proofs.names.name_behind.Goals as goal

pub returns-in-Some : goal.returns-in-Some
returns-in-Some c =
    let cut = c.in-Some.ensures.cases in
    cut.2
    ∙ sym (ap (λ (w : List ℕ). unwrap_or (behind c.args.option.now w) []) (sym c.word_at.ensures)
    ∙ ap (λ (o : Option (List ℕ)). unwrap_or o [])
    (behind-rest c.args.option.now c.word_at.result.now _ cut.1.1))

pub returns-in-None : goal.returns-in-None
returns-in-None c =
    sym (ap (λ (w : List ℕ). unwrap_or (behind c.args.option.now w) []) (sym c.word_at.ensures)
    ∙ ap (λ (o : Option (List ℕ)). unwrap_or o [])
    (behind-none c.args.option.now c.word_at.result.now c.in-None.ensures.cases))
