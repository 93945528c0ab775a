-- A thread and a number of its events in one word: the thread stands in the high 32 bits, the number in the low ones. Events count
-- from 1, so the word 0 stands for none.
use Rattle.std.specs.Prelude.{ℕ, ◌+◌, ◌*◌, ◌/◌, ◌%◌}

abbrev pub packed : ℕ → ℕ → ℕ
packed thread number = thread * 4294967296 + number

abbrev pub thread_of : ℕ → ℕ
thread_of epoch = epoch / 4294967296

abbrev pub number_of : ℕ → ℕ
number_of epoch = epoch % 4294967296
