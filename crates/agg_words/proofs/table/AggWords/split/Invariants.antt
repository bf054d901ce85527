use Rattle.agg_words.proofs.table.AggWords.split.Given as goal

abbrev pub ghosts-split_as : goal.ghosts-split_as
ghosts-split_as a = record { number = a.units; layout = a.self.now.layout }
