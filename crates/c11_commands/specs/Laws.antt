-- The law of what is due.
use Rattle.std.specs.Prelude.{ℕ, ◌≡◌, List, Option, Some}
use Rattle.c11_commands.specs.declared.words.Command.{Command}
use Rattle.c11_commands.specs.declared.words.Status.{Status}
use Rattle.c11_commands.specs.Answers.{IsDue}
use Rattle.c11_commands.specs.Jobs.{job_of}

-- For the same words and the same text of a source one status and one text are due at most: so each run of the program writes the same,
-- whatever its workers did.
abbrev pub OneIsDue : Type 0
OneIsDue = (command : Option Command) (text : List ℕ) (now after : Option (List ℕ)) (one other : Status) (bytes others : List ℕ)
    → IsDue (job_of command) (Some text) now one bytes → IsDue (job_of command) (Some text) after other others → (one ≡ other) × (bytes ≡ others)
