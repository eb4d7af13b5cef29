-- What the examples show, the relation has.
use Rattle.std.proofs.Common.{◌≡◌, ℕ, Option, Some, None, refl, subst}
use Rattle.chw_terms.specs.declared.program.Program.{Program}
use Rattle.chw_meaning.specs.Values.{History, Value, Thunk}
use Rattle.chw_meaning.specs.Eval.{Forces}
use Rattle.chw_meaning.specs.Run.{Found, changed, force}
use Rattle.chw_meaning.specs.Writing.{shown}
use Rattle.chw_meaning.proofs.Sound.{force_sound}

pub shown_is_so : (p : Program) (th : Thunk) (h : History) (v : Value) → shown p th h ≡ Some v → (n : ℕ) × Forces p n th h v
shown_is_so p th h v e = of_found (force 1000 p th h) refl e
  where
    of_found : (o : Option (Found Value)) → force 1000 p th h ≡ o → changed (λ r. r.value) o ≡ Some v → (n : ℕ) × Forces p n th h v
    of_found None i e = cc
    of_found (Some r) i e = let same : r.value ≡ v = cc in (r.turns, subst (λ v. Forces p r.turns th h v) same ((force_sound 1000 p th h).of r i))
