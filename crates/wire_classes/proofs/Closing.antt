-- Where no step is left, nothing more follows.
use Rattle.std.proofs.Common.{◌≡◌, ℕ, Bool, List, Option, Some, None, refl, subst}
use Rattle.std.specs.Prelude.{IfNone, IfSome}
use Rattle.netlist.specs.declared.net.Flat.{Flat}
use Rattle.wire_classes.specs.Closed.{AreClosed, AreQuick, BitsHold, CellsHold}

-- what is said of nothing, where there is nothing
pub none_told : {X : Type 0} (o : Option X) (P : Type 0) → ((x : X) → o ≡ Some x → ⊥) → IfNone o P → P
none_told None P none h = h
none_told (Some x) P none h = absurd (none x refl)

pub none_at : {X : Type 0} (o : Option X) (P : Type 0) → o ≡ None → IfNone o P → P
none_at o P e h = subst (λ x. IfNone x P) e h

-- what is said of something, where it is this
pub some_at : {X : Type 0} (o : Option X) (P : X → Type 0) (x : X) → o ≡ Some x → IfSome o P → P x
some_at o P x e h = subst (λ y. IfSome y P) e h

-- what follows from what is said of nothing
pub none_weaker : {X : Type 0} (o : Option X) (P Q : Type 0) → (P → Q) → IfNone o P → IfNone o Q
none_weaker None P Q f h = f h
none_weaker (Some x) P Q f h = h

pub all_closed : (flat : Flat) (of : List ℕ) (known : List Bool) (values : List (List Bool)) → AreQuick flat of known values
    → BitsHold of known values → CellsHold flat of → AreClosed flat of known values
all_closed flat of known values quick bits cells =
    record { copies = quick.copies; cells = cells; bits = bits; marks = quick.marks; labels = quick.labels }
