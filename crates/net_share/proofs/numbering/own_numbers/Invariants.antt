-- each wire so far has its own number
use Rattle.std.proofs.Common.{◌≡◌, ℕ, length, Some, slice_get}
use Rattle.net_share.proofs.numbering.own_numbers.Given as goal

abbrev pub invariant-loop-w : goal.invariant-loop-w
invariant-loop-w l = record {
  count : length l.numbers.items ≡ l.w;
  own : (k x : ℕ) → slice_get l.numbers.items k ≡ Some x → k ≡ x;
}
