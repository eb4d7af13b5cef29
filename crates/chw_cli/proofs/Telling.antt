-- A line that was put tells its refusal.
use Rattle.std.proofs.Common.{◌≡◌, ℕ, List, Option, Result, Err, sym, subst}
use Rattle.chw_base.specs.declared.outcome.Or.{Or}
use Rattle.chw_base.specs.declared.outcome.Or.TheVariants.{Memory}
use Rattle.chw_base.specs.declared.sink.SinkFault.{SinkFault}
use Rattle.chw_cli.specs.Delivery.{TellsLine, TellsNothing}
use Rattle.chw_cli.specs.Delivery.TellsNothing.{silent, failed}
use Rattle.chw_cli.specs.Lines.{TakesMemory, line_of, status_of}
use Rattle.chw_cli.specs.Outcome.{Told}
use Rattle.chw_cli.specs.Outcome.Told.{told, untold}
use Rattle.chw_cli.specs.Telling.{Puts}
use Rattle.chw_cli.specs.Telling.Puts.{put, no_memory}
use Rattle.chw_cli.specs.declared.refusal.Refusal.{Refusal}
use Rattle.chw_cli.specs.declared.status.Status.{Status}
use Rattle.chw_cli.specs.declared.status.Status.TheVariants.{Memory as Lost}

-- a line that wasn't put is the line of a refusal that wasn't told
untold_line : {S : Type 0} (gives : S → List ℕ → Result (Unit {0}) (Or SinkFault) → S → Type 0) (line other : List ℕ) (Takes Other : Type 0) (s t : S)
    → line ≡ other → (Takes → Other) → TellsNothing gives line Takes s t → TellsNothing gives other Other s t
untold_line gives line other Takes Other s _ e f (silent _ takes) = silent s (f takes)
untold_line gives line other Takes Other s t e f (failed _ _ call) = failed s t (subst (λ l. gives s l (Err Memory) t) e call)

pub told_by : {S : Type 0} (gives : S → List ℕ → Result (Unit {0}) (Or SinkFault) → S → Type 0) (written : S → Option (List ℕ)) (faults : S → ℕ)
    (r kind : Refusal) → r ≡ kind → (line : List ℕ) (Takes : Type 0) (status : Status) (s t : S) (end : Status) → line ≡ line_of kind → status ≡ status_of kind
    → (Takes → TakesMemory kind) → Puts gives written faults line Takes status s t end → Told gives written faults r s t end
told_by gives written faults r kind is line Takes status s t _ e f takes (put w) =
    subst (λ q. Told gives written faults q s t status) (sym is)
    (subst (λ v. Told gives written faults kind s t v) (sym f) (told (subst (λ l. TellsLine gives written faults l s t) e w)))
told_by gives written faults r kind is line Takes status s t _ e f takes (no_memory w) =
    subst (λ q. Told gives written faults q s t Lost) (sym is) (untold (untold_line gives line (line_of kind) Takes (TakesMemory kind) s t e takes w))

-- a line that was put and took memory to make
pub put_when_made : {S : Type 0} (gives : S → List ℕ → Result (Unit {0}) (Or SinkFault) → S → Type 0) (written : S → Option (List ℕ)) (faults : S → ℕ)
    (line other : List ℕ) (status : Status) (s t : S) (end : Status) → line ≡ other → Puts gives written faults line ⊥ status s t end
    → Puts gives written faults other (Unit {0}) status s t end
put_when_made gives written faults line other status s t _ e (put w) = put (subst (λ l. TellsLine gives written faults l s t) e w)
put_when_made gives written faults line other status s t _ e (no_memory w) =
    no_memory (untold_line gives line other ⊥ (Unit {0}) s t e (λ no. absurd no) w)
