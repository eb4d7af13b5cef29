-- the widths so far, with those of the types that are left, are those of all
use Rattle.std.proofs.Common.{◌≡◌, ◌++◌, List, ℕ, drop}
use Rattle.net_built.specs.Data.{HaveWidths}
use Rattle.value_build.proofs.fields.widths_of.Given as goal

abbrev pub invariant-loop-t : goal.invariant-loop-t
invariant-loop-t l =
    ((more : List ℕ) → HaveWidths l.initial.base.datas (drop l.t-index l.types) more
    → HaveWidths l.initial.base.datas l.types (l.widths.items ++ more))
    × (l.base ≡ l.initial.base)
