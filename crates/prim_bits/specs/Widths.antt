-- The widths of the words that a primitive takes and gives, by its natural arguments.
use Rattle.std.specs.Prelude.{ℕ, ◌+◌, ◌^◌, ◌<◌, ◌≤◌, ◌≡◌, List, [], ◌∷◌, Option, Some, None, slice_index}
use Rattle.std.specs.List.{All}
use Rattle.chw_prims.specs.declared.prim.Primitive.{Primitive}
use Rattle.chw_prims.specs.declared.row.Row.{Row}
use Rattle.chw_prims.specs.declared.row.Row.TheVariants.{Binary, WideSum, WideProduct, Unary, Shift, Compare, Extend, Truncate, Cut, Joined, Reduce, Packed, Unpacked}
use Rattle.chw_prims.specs.Schemas.{row_of}

-- the widths of the words that a line of the table takes, where it is one of words and has so many natural arguments
abbrev pub argument_widths : Row → List ℕ → Option (List ℕ)
argument_widths (Binary x) (n ∷ []) = Some (n ∷ n ∷ [])
argument_widths (WideSum x) (n ∷ []) = Some (n ∷ n ∷ [])
argument_widths (WideProduct x) (n ∷ m ∷ []) = Some (n ∷ m ∷ [])
argument_widths (Unary x) (n ∷ []) = Some (n ∷ [])
argument_widths (Shift x) (n ∷ k ∷ []) = Some (n ∷ k ∷ [])
argument_widths (Compare x) (n ∷ []) = Some (n ∷ n ∷ [])
argument_widths (Extend x) (n ∷ m ∷ []) = Some (n ∷ [])
argument_widths (Truncate x) (n ∷ m ∷ []) = Some ((n + m) ∷ [])
argument_widths Cut (l ∷ n ∷ u ∷ []) = Some ((u + n + l) ∷ [])
argument_widths Joined (n ∷ m ∷ []) = Some (n ∷ m ∷ [])
argument_widths Reduce (n ∷ []) = Some (n ∷ [])
argument_widths (Packed x) (n ∷ []) = Some (n ∷ [])
argument_widths (Unpacked x) (n ∷ []) = Some (n ∷ [])
argument_widths _ _ = None

-- the width of the result of a line of the table, at its first two natural arguments; of one that isn't of words, 0
abbrev pub result_width : Row → (n m : ℕ) → ℕ
result_width (Binary x) n m = n
result_width (WideSum x) n m = n + 1
result_width (WideProduct x) n m = n + m
result_width (Unary x) n m = n
result_width (Shift x) n k = n
result_width (Compare x) n m = 1
result_width (Extend x) n m = n + m
result_width (Truncate x) n m = n
result_width Cut l n = n
result_width Joined n m = n + m
result_width Reduce n m = 1
result_width (Packed x) n m = n
result_width (Unpacked x) n m = n
result_width _ n m = 0

-- the width of a primitive's result at its natural arguments
abbrev pub width_of : Primitive → List ℕ → ℕ
width_of p nats = result_width (row_of p) (slice_index nats 0) (slice_index nats 1)

-- a primitive on words that takes words of these widths at these natural arguments, and whose result has a width
abbrev pub Takes : Primitive → (nats widths : List ℕ) → Type 0
Takes p nats widths = (argument_widths (row_of p) nats ≡ Some widths) × (width_of p nats < 2 ^ 32)

-- the same with no width over 128
abbrev pub TakesNumbers : Primitive → (nats widths : List ℕ) → Type 0
TakesNumbers p nats widths = (argument_widths (row_of p) nats ≡ Some widths) × (width_of p nats ≤ 128) × All (λ width. width ≤ 128) widths
