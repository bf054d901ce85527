use Rattle.round_engine.specs.EngineOf.{read_of}
use Rattle.round_engine.proofs.engine.Engine.prepare.Given as goal

abbrev pub ghosts-refine_parts : goal.ghosts-refine_parts
ghosts-refine_parts g a = record { graph = read_of a.graph.now }
