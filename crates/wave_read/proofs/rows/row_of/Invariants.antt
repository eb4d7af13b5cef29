-- the words so far fit, and where those behind them fail, all do
use Rattle.std.proofs.Common.{◌≡◌, ℕ, ◌+◌, ◌≤◌, ◌++◌, length, map, take, drop}
use Rattle.wave_read.specs.Shown.{shown}
use Rattle.wave_read.specs.Slots.{FailsRow, FitsRow}
use Rattle.wave_text.specs.Words.{words_from}
use Rattle.wave_read.proofs.rows.row_of.Given as goal

abbrev pub invariant-loop-slot : goal.invariant-loop-slot
invariant-loop-slot l = record {
  words : words_from l.fn.left.at l.fn.left.text.now ≡ map shown l.words.items ++ words_from l.rest.at l.rest.text.now;
  fits : FitsRow (take l.slot-index l.slots) (map shown l.words.items);
  end : l.rest.at + length l.rest.text.now ≡ l.fn.left.at + length l.fn.left.text.now;
  shorter : length l.rest.text.now ≤ length l.fn.left.text.now;
  fails : (at : ℕ) → FailsRow (drop l.slot-index l.slots) (l.fn.left.at + length l.fn.left.text.now) (words_from l.rest.at l.rest.text.now) at
      → FailsRow l.slots (l.fn.left.at + length l.fn.left.text.now) (words_from l.fn.left.at l.fn.left.text.now) at;
}
