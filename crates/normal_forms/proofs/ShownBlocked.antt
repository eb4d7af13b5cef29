-- The worked examples of blocked places.
use Rattle.std.proofs.Common.{◌≡◌, inl, inr, ℕ, suc, zero, refl, sym, subst, arith, List, [], ◌∷◌, Some}
use Rattle.chw_types.specs.declared.declarations.Data.{Data}
use Rattle.type_ports.specs.Representable.{Representable, representable_scalar}
use Rattle.chw_types.specs.SamePromises.{natural_value}
use Rattle.chw_types.specs.TypeMoves.{sub}
use Rattle.chw_types.specs.TypeTree.{TypeTree, nat_lit, domain, fun}
use Rattle.chw_prims.specs.declared.prim.Primitive.TheVariants.{Register, VReverse}
use Rattle.chw_terms.specs.declared.scene.Mode.TheVariants.{C}
use Rattle.chw_terms.specs.Evaluated.{evaluated}
use Rattle.chw_terms.specs.Occurs.{occurs}
use Rattle.chw_terms.specs.TermTree.{TermTree, var, Group, no_bindings, bind}
use Rattle.chw_layout.specs.Measured.{measured_scalar}
use Rattle.chw_typing.specs.Groups.{binding_at}
use Rattle.rewriting.specs.Named.{IsNamed}
use Rattle.chw_typing.specs.Given.{types_then}
use Rattle.rewriting.specs.Spots.{Spot}
use Rattle.normal_forms.specs.Blocked.{Block, recursion, BlocksAt, by_recursion, by_payload, by_limit, by_width, by_binding, by_size, over_length}
use Rattle.normal_forms.specs.BlockedExamples.{CycleBlocks, CounterIsFree, FunctionBlocks, WideBinding, LongVector}
use Rattle.normal_forms.specs.Examples.{byte, bytes, here, zeros, register_of, lifted, counter}
use Rattle.normal_forms.proofs.Shown.{byte_port}

pub cycle_blocks : CycleBlocks
unfolding occurs
cycle_blocks = by_recursion 0 (1 ∷ []) ((_, refl, omega arith, refl), (_, refl, omega arith, refl)) (inl (inl refl))

abbrev counting_group : Group
counting_group = bind bytes (register_of zeros 0) (bind bytes (lifted 1) no_bindings)

named_binding : (i : ℕ) (b : TypeTree × TermTree) → binding_at counting_group i ≡ Some b → b.0 ≡ bytes
named_binding zero b is = cc
named_binding (suc zero) b is = cc
named_binding (suc (suc i)) b is = absurd cc

free : {at : Spot} {e : TermTree} {b : Block} {cycle : List ℕ} → BlocksAt here at e b → at.mode ≡ C → e ≡ counter → b ≡ recursion cycle → ⊥
free (by_recursion i more way (inl (inl v))) c is r = absurd cc
free (by_recursion i more way (inl (inr k))) c is r = absurd cc
free {at} (by_recursion {g = g} i more way (inr ((b, known, unnamed), rest))) c is r =
    let group : g ≡ counting_group = cc in
    let type : b.0 ≡ bytes = named_binding i b (subst (λ h. binding_at h i ≡ Some b) group known) in
    unnamed (subst (λ m. IsNamed here.program.datas m b.0) (sym c) (subst (IsNamed here.program.datas C) (sym type) byte_port))
free (by_payload p args j h t n) c is r = absurd cc
free (by_limit p first) c is r = absurd cc

pub counter_is_free : CounterIsFree
counter_is_free cycle h = free h refl refl refl

no_function : {datas : List Data} {a b : TypeTree} → Representable datas (fun a b) → ⊥
no_function r = elim r [ ]

pub function_blocks : FunctionBlocks
function_blocks = by_payload Register (types_then (domain 0 ∷ fun byte byte ∷ []) (var 0 ∷ var 1 ∷ [])) 1 refl refl no_function

pub wide_binding : WideBinding
unfolding natural_value
wide_binding = by_binding {i = 0} refl (by_width representable_scalar measured_scalar)

pub long_vector : LongVector
unfolding sub evaluated
long_vector = by_size VReverse (nat_lit 2000 ∷ byte ∷ []) [] {i = 0} ((λ h. h), (λ h. absurd h)) refl refl (over_length refl (omega arith))
