-- What follows of a fault.
use Rattle.std.specs.Prelude.{Result, Ok, Err}
use Rattle.chw_base.specs.Outcome.{IfFault, OfFault}
use Rattle.chw_base.specs.declared.outcome.Or.{Or}
use Rattle.chw_base.specs.declared.outcome.Or.TheVariants.{Fault, Memory}

pub IfFault-weaker : {T E : Type 0} (r : Result T (Or E)) (P Q : E → Type 0) → ((e : E) → P e → Q e) → IfFault r P → IfFault r Q
IfFault-weaker (Ok x) P Q f h = tt
IfFault-weaker (Err Memory) P Q f h = tt
IfFault-weaker (Err (Fault e)) P Q f h = f e h

pub OfFault-weaker : {E : Type 0} (r : Or E) (P Q : E → Type 0) → ((e : E) → P e → Q e) → OfFault r P → OfFault r Q
OfFault-weaker Memory P Q f h = tt
OfFault-weaker (Fault e) P Q f h = f e h
