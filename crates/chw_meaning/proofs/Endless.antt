-- What never ends has no value.
use Rattle.std.proofs.Common.{ℕ, suc, zero, refl}
use Rattle.chw_types.specs.TypeTree.{TypeTree, TypeTrees}
use Rattle.chw_terms.specs.declared.program.Program.{Program}
use Rattle.chw_terms.specs.TermTree.{TermTree, var, Group, bind, no_bindings}
use Rattle.chw_meaning.specs.Values.{History, Value, member, Thunks, in_group}
use Rattle.chw_meaning.specs.Eval.{Evals, e_var, e_letrec, e_goes_on, e_takes, e_looks, Forces, f_member}
use Rattle.chw_meaning.specs.Writing.{endless, bare}
use Rattle.chw_meaning.specs.Corners.{maybe_case}
use Rattle.chw_meaning.proofs.Once.{same_some, evals_along, forces_along}

-- a group of one name that stands for itself
abbrev itself : TypeTree → Group
itself t = bind t (var 0) no_bindings

mutual
  never_forced : {p : Program} {t : TypeTree} {γ : Thunks} {δ : TypeTrees} {h : History} {v : Value} (n : ℕ) → Forces p n (member (itself t) zero γ δ) h v → ⊥
  never_forced zero f = elim f [ ]
  never_forced (suc n) (f_member i a) = never_there n (evals_along (same_some i refl) refl a)

  never_there : {p : Program} {t : TypeTree} {γ : Thunks} {δ : TypeTrees} {h : History} {v : Value} (n : ℕ) → Evals p n (var 0) (in_group (itself t) γ δ) δ h v → ⊥
  never_there zero e = elim e [ ]
  never_there (suc n) (e_var i f) = never_forced n (forces_along (same_some i refl) refl f)

pub never : {p : Program} {t : TypeTree} {γ : Thunks} {δ : TypeTrees} {h : History} {n : ℕ} {v : Value} → Evals p n (endless t) γ δ h v → ⊥
never (e_letrec {n = n} a) = never_there n a

pub never_looked : {n : ℕ} {t : TypeTree} {e : TermTree} {γ : Thunks} {δ : TypeTrees} {h : History} {v : Value} → Evals bare n (maybe_case (endless t) e) γ δ h v → ⊥
never_looked (e_goes_on i a) = cc
never_looked (e_takes i a) = cc
never_looked (e_looks i a j b) = never a
