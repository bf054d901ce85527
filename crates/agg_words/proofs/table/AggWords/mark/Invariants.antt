use Rattle.agg_words.proofs.table.AggWords.mark.Given as goal

abbrev pub ghosts-mark_as : goal.ghosts-mark_as
ghosts-mark_as a = record { number = a.bit; layout = a.self.now.layout }

abbrev pub ghosts-meet_as : goal.ghosts-meet_as
ghosts-meet_as a = record { number = a.bit; layout = a.self.now.layout }
