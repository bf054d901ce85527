use Rattle.agg_words.proofs.table.AggWords.know.Given as goal

abbrev pub ghosts-know_as : goal.ghosts-know_as
ghosts-know_as a = record { number = 0; layout = a.self.now.layout }
