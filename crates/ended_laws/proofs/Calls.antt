-- Where values and circuits are built no definition is called at a place at rest: the call would become a made definition.
use Rattle.std.proofs.Common.{◌≡◌, ◌<◌, inl, inr, refl, ap, subst, ℕ, suc, zero, List, [], ◌∷◌, length, map, get_or, arith, Some, Contains}
use Rattle.std.specs.List.{slice_get, AllByRecursion}
use Rattle.chw_types.specs.TypeTree.{TypeTree}
use Rattle.chw_terms.specs.declared.rule.Rule.TheVariants.{Spec}
use Rattle.chw_terms.specs.declared.scene.Mode.{Mode}
use Rattle.chw_terms.specs.declared.scene.Mode.TheVariants.{V, C, HV, HC, K}
use Rattle.chw_terms.specs.declared.term.Arg.{Arg}
use Rattle.chw_terms.specs.declared.term.Arg.TheVariants.{OfTerm}
use Rattle.chw_terms.specs.FreeVariables.{free_in}
use Rattle.chw_terms.specs.TermTree.{TermTree, global}
use Rattle.chw_terms.specs.TermView.{applied}
use Rattle.chw_typing.proofs.Free.{free_occur}
use Rattle.chw_typing.proofs.InScope.{in_scope}
use Rattle.chw_typing.proofs.Kinded.{type_kinded}
use Rattle.chw_typing.specs.Scopes.{IsTermType}
use Rattle.chw_typing.proofs.TypedFound.{Found, typed_found}
use Rattle.rewriting.specs.Calls.{IsCall, spec_call, call_origin}
use Rattle.rewriting.specs.Named.{IsNamed}
use Rattle.rewriting.specs.Numbers.{HasOrigin, IsNumberOf}
use Rattle.rewriting.specs.Operands.{of_global}
use Rattle.rewriting.specs.Origins.{Origins, setting_at}
use Rattle.rewriting.specs.SceneLaws.{SameKeepsNamed}
use Rattle.rewriting.specs.Spots.{Spot, HasLets}
use Rattle.rest_places.specs.Rest.{IsRestPlace, ground}
use Rattle.rest_places.proofs.Constants.{all_at}
use Rattle.rest_places.proofs.Operands.{call_operands_are_variables}
use Rattle.rest_places.proofs.Steps.{no_whole}

-- a number is there, unless there being one is refuted
some_number : (o : Origins) (e : TermTree) → ((m : ℕ) → IsNumberOf o e m → ⊥) → ⊥
some_number o e none = none (length o.made) (inr refl, (λ j l h. below (suc j) j h (omega arith)))
  where
    below : (n j : ℕ) → HasOrigin o e j → j < n → ⊥
    below zero j h l = omega (arith, l)
    below (suc n) j h l = none j (inl h, (λ i before other. below n i other (omega (arith, before, l))))

-- an element by its number
element_of : {X : Type 0} (xs : List X) (k : ℕ) (x : X) → k < length xs → get_or xs k x ≡ x → slice_get xs k ≡ Some x
element_of [] k x l h = absurd (omega (arith, l))
element_of (y ∷ xs) zero x l h = ap Some h
element_of (y ∷ xs) (suc k) x l h = element_of xs k x (omega (arith, l)) h

got : {X : Type 0} (xs : List X) (i : ℕ) → i < length xs → (x : X) × (slice_get xs i ≡ Some x)
got [] i l = absurd (omega (arith, l))
got (x ∷ xs) zero l = (x, refl)
got (x ∷ xs) (suc i) l = got xs i (omega (arith, l))

-- the types of these variables
record TypesOf (P : TypeTree → Type 0) (vars : List TypeTree) (xs : List ℕ) : Type 0 where
  pub types : List TypeTree
  pub are : map (slice_get vars) xs ≡ map (λ u. Some u) types
  pub hold : AllByRecursion P types

types_of : (P : TypeTree → Type 0) (vars : List TypeTree) (xs : List ℕ) → AllByRecursion P vars → ((i x : ℕ) → slice_get xs i ≡ Some x → x < length vars) → TypesOf P vars xs
types_of P vars [] all h = record { types = []; are = refl; hold = tt }
types_of P vars (x ∷ xs) all h =
    let here = got vars x (h 0 x refl) in
    let rest = types_of P vars xs all (λ i y q. h (suc i) y q) in
    record { types = here.0 ∷ rest.types; are = λ i. here.1 i ∷ rest.are i; hold = (all_at P vars x here.0 all here.1, rest.hold) }

contained : (xs : List ℕ) (i x : ℕ) → slice_get xs i ≡ Some x → Contains xs x
contained [] i x h = absurd cc
contained (y ∷ xs) zero x h = let same : y ≡ x = cc in (0, omega arith, same)
contained (y ∷ xs) (suc i) x h = let rest = contained xs i x h in let l = rest.1 in (suc rest.0, omega (arith, l), rest.2)

-- a body is built in its own mode
ground_lets : (m : Mode) → HasLets m → ground m ≡ m
ground_lets V l = refl
ground_lets C l = refl
ground_lets HV l = absurd l
ground_lets HC l = absurd l
ground_lets K l = absurd l

pub no_call : SameKeepsNamed → (o : Origins) (at : Spot) (d : ℕ) (args : List Arg) (t : TypeTree) → HasLets at.mode → IsRestPlace o at (applied (global d) args) t → IsNamed o.program.datas at.mode t → ⊥
no_call kept o at d args t lets p n =
    some_number o (call_origin o types.types e)
    (λ m number. no_whole Spec (spec_call lets call number) p)
  where
    e : TermTree
    e = applied (global d) args

    named : AllByRecursion (IsNamed o.program.datas at.mode) at.vars
    named = subst (λ m. AllByRecursion (IsNamed o.program.datas m) at.vars) (ground_lets at.mode lets) p.named

    types : TypesOf (IsNamed o.program.datas at.mode) at.vars (free_in e)
    types = types_of (IsNamed o.program.datas at.mode) at.vars (free_in e) named (λ i x h. in_scope p.has x ((free_occur e x).0 (contained (free_in e) i x h)))

    found : Found (setting_at o) [] at.vars e t
    found = typed_found e p.has p.place.sound p.place.vars

    kinded : IsTermType (setting_at o) [] t
    kinded = type_kinded p.has p.place.sound p.place.vars

    call : IsCall o at e types.types found.type
    call =
        record {
          of = d;
          args = args;
          is = refl;
          has = found.is;
          named = kept (setting_at o) at.mode t found.type kinded.kind p.place.sound kinded.has found.same n;
          on_variables = λ a u c has r. call_operands_are_variables o at e t _ a u p (of_global d args c.0 lets (element_of args c.0 (OfTerm a) c.1 c.2)) has r;
          free = types.are;
          free_named = types.hold;
        }
