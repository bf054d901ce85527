use Rattle.agg_words.proofs.table.AggWords.wipe.Given as goal

abbrev pub ghosts-wipe_as : goal.ghosts-wipe_as
ghosts-wipe_as a = record { number = a.mark_word; layout = a.self.now.layout }
