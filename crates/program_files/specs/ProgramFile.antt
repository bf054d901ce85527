-- The file of a program.
use Rattle.std.specs.Prelude.{ℕ, min, false, List, length}
use Rattle.batch_steps.specs.Files.{Content, Named}
use Rattle.program_files.specs.declared.loading.TheConstants.{MOST_READ}

-- how many of its bytes are read: all, or one more than a text may have
abbrev pub program_far : List ℕ → ℕ
program_far bytes = min (length bytes) MOST_READ

-- a program's file is read that far, and its end needn't be seen
abbrev pub program_file : List ℕ → Content → Named
program_file name c = record { name = name; far = program_far (c name); to_end = false }
