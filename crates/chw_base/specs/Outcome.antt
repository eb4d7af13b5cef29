-- The answers of calls that may find no memory.
use Rattle.std.specs.Prelude.{Result, Ok, Err}
use Rattle.chw_base.specs.declared.outcome.Or.{Or}
use Rattle.chw_base.specs.declared.outcome.Or.TheVariants.{Memory, Fault}

-- where it is a fault, this holds of it
abbrev pub OfFault : {E : Type 0} → Or E → (E → Type 0) → Type 0
OfFault Memory P = Unit {0}
OfFault (Fault e) P = P e

-- where it is want of memory, this holds
abbrev pub OfMemory : {E : Type 0} → Or E → Type 0 → Type 0
OfMemory Memory P = P
OfMemory (Fault e) P = Unit {0}

-- where the call answered a fault, this holds of it
abbrev pub IfFault : {T E : Type 0} → Result T (Or E) → (E → Type 0) → Type 0
IfFault (Ok x) P = Unit {0}
IfFault (Err r) P = OfFault r P

-- where the call answered want of memory, this holds
abbrev pub OnMemory : {T E : Type 0} → Result T (Or E) → Type 0 → Type 0
OnMemory (Ok x) P = Unit {0}
OnMemory (Err r) P = OfMemory r P
