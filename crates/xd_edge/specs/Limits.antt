-- How much of a suite and of a program's output is taken. Choices of this project.
use Rattle.std.specs.Prelude.{ℕ}

-- a suite, and so a collection or an order, has at most this many tests
-- This number and the next two stand once each, beside a constant of the code with the same value.
abbrev pub most_tests : ℕ
most_tests = 50000

-- a suite file has at most this many bytes
abbrev pub most_suite_bytes : ℕ
most_suite_bytes = 4194304

-- what a test's program prints is read in pieces of at most this many bytes
abbrev pub most_piece_bytes : ℕ
most_piece_bytes = 4096
