-- What holds of all wires of a module holds of those that are looked at.
use Rattle.std.proofs.Common.{◌≡◌, ℕ, zero, suc, List, [], ◌∷◌, take, Option, Some, None, option_map, slice_get, sym, subst}
use Rattle.std.specs.List.{AllByRecursion}
use Rattle.verilog_judge.specs.Meant.{AreMeantKinds, IsMeantIf, IsMeantKindIf}
use Rattle.verilog_judge.specs.Read.{AreReadKinds, IsFormedIf, IsReadKindIf, IsSmall}
use Rattle.verilog_rules.specs.WidthRules.{literal_of, memory_of}
use Rattle.verilog_rules.specs.declared.resolved.Kind.{Kind}
use Rattle.verilog_rules.specs.declared.resolved.Kind.TheVariants as kind
use Rattle.verilog_rules.specs.declared.resolved.Wire.{Wire}

read_at : (wires : List Wire) (n : ℕ) → AreReadKinds wires → IsReadKindIf (option_map (λ (w : Wire). w.kind) (slice_get wires n))
read_at [] zero all = tt
read_at [] (suc n) all = tt
read_at (w ∷ wires) zero all = all.0
read_at (w ∷ wires) (suc n) all = read_at wires n all.1

meant_at : (wires : List Wire) (n : ℕ) → AreMeantKinds wires → IsMeantKindIf (option_map (λ (w : Wire). w.kind) (slice_get wires n))
meant_at [] zero all = tt
meant_at [] (suc n) all = tt
meant_at (w ∷ wires) zero all = all.0
meant_at (w ∷ wires) (suc n) all = meant_at wires n all.1

-- the kind of the wire of this number
pub read_kind : (wires all : List Wire) (n : ℕ) (k : Option Kind) → wires ≡ all → k ≡ option_map (λ (w : Wire). w.kind) (slice_get wires n) → AreReadKinds all → IsReadKindIf k
read_kind wires all n k same is read = subst IsReadKindIf (sym is) (read_at wires n (subst AreReadKinds (sym same) read))

pub meant_kind : (wires all : List Wire) (n : ℕ) (k : Option Kind) → wires ≡ all → k ≡ option_map (λ (w : Wire). w.kind) (slice_get wires n) → AreMeantKinds all → IsMeantKindIf k
meant_kind wires all n k same is meant = subst IsMeantKindIf (sym is) (meant_at wires n (subst AreMeantKinds (sym same) meant))

pub formed_literal : (k : Option Kind) → IsReadKindIf k → IsFormedIf (literal_of k)
formed_literal None read = tt
formed_literal (Some kind.Input) read = tt
formed_literal (Some kind.Plain) read = tt
formed_literal (Some (kind.Register literal memory)) read = read.0

pub meant_literal : (k : Option Kind) → IsMeantKindIf k → IsMeantIf (literal_of k)
meant_literal None meant = tt
meant_literal (Some kind.Input) meant = tt
meant_literal (Some kind.Plain) meant = tt
meant_literal (Some (kind.Register literal memory)) meant = meant

pub small_memory : (k : Option Kind) → IsReadKindIf k → IsSmall (memory_of k)
small_memory None read = tt
small_memory (Some kind.Input) read = tt
small_memory (Some kind.Plain) read = tt
small_memory (Some (kind.Register literal memory)) read = read.1

-- what holds of all of a list holds of its first ones
pub all_first : {A : Type 0} (P : A → Type 0) (k : ℕ) (xs : List A) → AllByRecursion P xs → AllByRecursion P (take k xs)
all_first P zero xs all = tt
all_first P (suc k) [] all = tt
all_first P (suc k) (x ∷ xs) all = (all.0, all_first P k xs all.1)
