-- The printed lines of a tally.
use Rattle.std.specs.Prelude.{ℕ, List, [], ◌∷◌, ◌++◌, codes, decimal}
use Rattle.answers.specs.declared.make_answer.tally.Tally.{Tally}

-- a word, a number, and a line feed
abbrev pub line_of : List ℕ → ℕ → List ℕ
line_of word number = word ++ decimal number ++ 10 ∷ []

abbrev pub tally_lines : Tally → List ℕ
tally_lines tally =
    line_of (codes "definitions ") tally.definitions
    ++ line_of (codes "rewrites ") tally.rewrites
    ++ line_of (codes "cells ") tally.cells
    ++ line_of (codes "registers ") tally.registers
    ++ line_of (codes "sum ") tally.sum
