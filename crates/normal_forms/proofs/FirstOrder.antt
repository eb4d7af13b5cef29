-- Bodies in normal form are monomorphic and first-order.
use Rattle.std.proofs.Common.{inl, inr, ℕ, List, [], ◌∷◌}
use Rattle.std.specs.List.{AllByRecursion}
use Rattle.chw_types.specs.declared.declarations.Data.{Data}
use Rattle.chw_types.specs.TypeTree.{TypeTree}
use Rattle.chw_prims.specs.declared.prim.Primitive.TheVariants.{Fmap, Ap, Pure, Register, BlockRam, UnsafeSynchronizer}
use Rattle.chw_terms.specs.declared.scene.Sort.{Sort}
use Rattle.chw_terms.specs.declared.scene.Sort.TheVariants.{Value, Circuit}
use Rattle.chw_terms.specs.TermTree.{TermTree, var, made, con, prim, Group, Alts}
use Rattle.chw_typing.specs.Scopes.{declared}
use Rattle.rewriting.specs.Named.{IsNamed, mode_of, UnderLambdas, under_none, under_one}
use Rattle.rewriting.specs.Origins.{MadeOf, Origins}
use Rattle.normal_forms.specs.Circuits.{IsConstant, constant_literal, constant_constructor, constant_vector, AreConstants, no_constants, constant_and, IsLiftedCall, lifted_on_one, lifted_on_more}
use Rattle.normal_forms.specs.Circuits.{IsCircuitSide, of_variable, of_register, of_block_ram, of_synchronizer, of_pure, of_lifted, of_call, of_constructor, of_projection}
use Rattle.normal_forms.specs.Circuits.{AreCircuitSides, no_circuit_sides, circuit_side_and, IsCircuitBody, circuit_variable, circuit_letrec}
use Rattle.normal_forms.specs.Normal.{HasForm, IsNormalBody}
use Rattle.normal_forms.specs.Parts.{IsMonomorphic, IsFirstOrder}
use Rattle.normal_forms.specs.Values.{IsBlock, block_variable, block_letrec, AreSides, no_sides, side_and, AreBlocks, no_blocks, block_and}
use Rattle.normal_forms.specs.Values.{IsSide, side_variable, side_literal, side_constructor, side_vector, side_primitive, side_call, side_case}
use Rattle.normal_forms.proofs.Plain.{AllParts, AllOfGroup, AllOfAlts, part_holds, part_closed, IsWire, IsPlain, plain_var, ArePlain, spine_plain, on_names_plain, terms_plain, vector_names_plain}

sides_wires : {o : Origins} {vars : List TypeTree} {g : Group} → AreSides o vars g → AllByRecursion (IsWire o.program.datas) (declared g)
sides_wires no_sides = tt
sides_wires (side_and r s more) = (inl r, sides_wires more)

mutual
  block_plain : {o : Origins} {vars : List TypeTree} {e : TermTree} → IsBlock o vars e → AllParts (IsPlain o.program.datas) e
  block_plain {o} (block_variable {x = x}) = plain_var o.program.datas x
  block_plain {o} (block_letrec {x = x} sides none) =
      (record { wires = sides_wires sides; no_type_lambda = λ h. h; looks = tt }, (sides_plain sides, plain_var o.program.datas x))

  sides_plain : {o : Origins} {vars : List TypeTree} {g : Group} → AreSides o vars g → AllOfGroup (IsPlain o.program.datas) g
  sides_plain no_sides = tt
  sides_plain (side_and r s more) = (side_plain s, sides_plain more)

  side_plain : {o : Origins} {vars : List TypeTree} {e : TermTree} → IsSide o vars e → AllParts (IsPlain o.program.datas) e
  side_plain {o} (side_variable {x = x}) = plain_var o.program.datas x
  side_plain side_literal = record { wires = tt; no_type_lambda = λ h. h; looks = tt }
  side_plain {o} (side_constructor c types xs is n) = on_names_plain o.program.datas types xs (con c) (record { wires = tt; no_type_lambda = λ h. h; looks = tt })
  side_plain {o} (side_vector t xs) = (record { wires = tt; no_type_lambda = λ h. h; looks = tt }, vector_names_plain o.program.datas xs)
  side_plain {o} (side_primitive p types xs w n) = on_names_plain o.program.datas types xs (prim p) (record { wires = tt; no_type_lambda = λ h. h; looks = tt })
  side_plain {o} (side_call m xs is v n) = on_names_plain o.program.datas [] xs (made m) (record { wires = tt; no_type_lambda = λ h. h; looks = tt })
  side_plain {o} (side_case {x = x} is blocks) = (record { wires = tt; no_type_lambda = λ h. h; looks = tt }, (plain_var o.program.datas x, blocks_plain blocks))

  blocks_plain : {o : Origins} {vars : List TypeTree} {u : TypeTree} {alts : Alts} → AreBlocks o vars u alts → AllOfAlts (IsPlain o.program.datas) alts
  blocks_plain no_blocks = tt
  blocks_plain (block_and p b more) = (block_plain b, blocks_plain more)

mutual
  constant_plain : {datas : List Data} {e : TermTree} → IsConstant datas e → AllParts (IsPlain datas) e
  constant_plain constant_literal = record { wires = tt; no_type_lambda = λ h. h; looks = tt }
  constant_plain {datas} (constant_constructor c types es is n all) =
      spine_plain datas types es (con c) (record { wires = tt; no_type_lambda = λ h. h; looks = tt }) (constants_plain all)
  constant_plain {datas} (constant_vector t es all) = (record { wires = tt; no_type_lambda = λ h. h; looks = tt }, terms_plain datas es (constants_plain all))

  constants_plain : {datas : List Data} {es : List TermTree} → AreConstants datas es → ArePlain datas es
  constants_plain no_constants = tt
  constants_plain (constant_and c more) = (constant_plain c, constants_plain more)

one_plain : (datas : List Data) (e : TermTree) → AllParts (IsPlain datas) e → ArePlain datas (e ∷ [])
one_plain datas e h = (h, tt)

two_plain : (datas : List Data) (e f : TermTree) → AllParts (IsPlain datas) e → AllParts (IsPlain datas) f → ArePlain datas (e ∷ f ∷ [])
two_plain datas e f h g = (h, (g, tt))

lifted_plain : (datas : List Data) {m n : ℕ} {e : TermTree} → IsLiftedCall m e n → AllParts (IsPlain datas) e
lifted_plain datas {m} (lifted_on_one {d = d} {a = a} {b = b} {x = x}) =
    spine_plain datas (d ∷ a ∷ b ∷ []) (made m ∷ var x ∷ []) (prim Fmap) (record { wires = tt; no_type_lambda = λ h. h; looks = tt })
    (two_plain datas (made m) (var x) (record { wires = tt; no_type_lambda = λ h. h; looks = tt }) (plain_var datas x))
lifted_plain datas (lifted_on_more {d = d} {a = a} {b = b} {u = u} {x = x} more) =
    spine_plain datas (d ∷ a ∷ b ∷ []) (u ∷ var x ∷ []) (prim Ap) (record { wires = tt; no_type_lambda = λ h. h; looks = tt })
    (two_plain datas u (var x) (lifted_plain datas more) (plain_var datas x))

circuit_side_plain : {o : Origins} {e : TermTree} → IsCircuitSide o e → AllParts (IsPlain o.program.datas) e
circuit_side_plain {o} (of_variable {x = x}) = plain_var o.program.datas x
circuit_side_plain {o} (of_register {d = d} {a = a} {c = c} {x = x} k) =
    on_names_plain o.program.datas [] (x ∷ []) _
    (spine_plain o.program.datas (d ∷ a ∷ []) (c ∷ []) (prim Register) (record { wires = tt; no_type_lambda = λ h. h; looks = tt }) (one_plain o.program.datas c (constant_plain k)))
circuit_side_plain {o} (of_block_ram {d = d} {n = n} {k = w} {a = a} {c = c} {x = x} {y = y} k h) =
    on_names_plain o.program.datas [] (x ∷ y ∷ []) _
    (spine_plain o.program.datas (d ∷ n ∷ w ∷ a ∷ []) (c ∷ []) (prim BlockRam) (record { wires = tt; no_type_lambda = λ h. h; looks = tt }) (one_plain o.program.datas c (constant_plain k)))
circuit_side_plain {o} (of_synchronizer {d = d} {e = e} {a = a} {x = x}) =
    on_names_plain o.program.datas (d ∷ e ∷ a ∷ []) (x ∷ []) (prim UnsafeSynchronizer) (record { wires = tt; no_type_lambda = λ h. h; looks = tt })
circuit_side_plain {o} (of_pure {d = d} {a = a} {c = c} k) =
    spine_plain o.program.datas (d ∷ a ∷ []) (c ∷ []) (prim Pure) (record { wires = tt; no_type_lambda = λ h. h; looks = tt }) (one_plain o.program.datas c (constant_plain k))
circuit_side_plain {o} (of_lifted m is v chain) = lifted_plain o.program.datas chain
circuit_side_plain {o} (of_call m xs is s n) = on_names_plain o.program.datas [] xs (made m) (record { wires = tt; no_type_lambda = λ h. h; looks = tt })
circuit_side_plain {o} (of_constructor c types xs is n) = on_names_plain o.program.datas types xs (con c) (record { wires = tt; no_type_lambda = λ h. h; looks = tt })
circuit_side_plain {o} (of_projection {x = x} {z = z} l) =
    (record { wires = tt; no_type_lambda = λ h. h; looks = tt }, (plain_var o.program.datas x, (plain_var o.program.datas z, tt)))

circuit_sides_wires : {o : Origins} {g : Group} → AreCircuitSides o g → AllByRecursion (IsWire o.program.datas) (declared g)
circuit_sides_wires no_circuit_sides = tt
circuit_sides_wires (circuit_side_and p s more) = (inr p, circuit_sides_wires more)

circuit_sides_plain : {o : Origins} {g : Group} → AreCircuitSides o g → AllOfGroup (IsPlain o.program.datas) g
circuit_sides_plain no_circuit_sides = tt
circuit_sides_plain (circuit_side_and p s more) = (circuit_side_plain s, circuit_sides_plain more)

circuit_plain : {o : Origins} {e : TermTree} → IsCircuitBody o e → AllParts (IsPlain o.program.datas) e
circuit_plain {o} (circuit_variable {x = x}) = plain_var o.program.datas x
circuit_plain {o} (circuit_letrec {x = x} sides) =
    (record { wires = circuit_sides_wires sides; no_type_lambda = λ h. h; looks = tt }, (circuit_sides_plain sides, plain_var o.program.datas x))

form_plain : (o : Origins) (sort : Sort) (vars : List TypeTree) (e : TermTree) → HasForm o sort vars e → AllParts (IsPlain o.program.datas) e
form_plain o Value vars e h = block_plain h
form_plain o Circuit vars e h = circuit_plain h

-- named types are wires
named_wires : (datas : List Data) (sort : Sort) (ts : List TypeTree) → AllByRecursion (IsNamed datas (mode_of sort)) ts → AllByRecursion (IsWire datas) ts
named_wires datas sort [] h = tt
named_wires datas Value (t ∷ ts) h = (inl h.0, named_wires datas Value ts h.1)
named_wires datas Circuit (t ∷ ts) h = (inr h.0, named_wires datas Circuit ts h.1)

-- the variables below lambdas are those above and those of the lambdas
record Above (datas : List Data) (vars : List TypeTree) (e : TermTree) : Type 0 where
  wires : AllByRecursion (IsWire datas) vars
  plain : AllParts (IsPlain datas) e

lambdas_plain : (datas : List Data) {vars vs : List TypeTree} {e x : TermTree} {t : TypeTree} {p : List ℕ} → UnderLambdas vars e t p vs x → AllByRecursion (IsWire datas) vs → AllParts (IsPlain datas) x → Above datas vars e
lambdas_plain datas (under_none a) w h = record { wires = w; plain = h }
lambdas_plain datas (under_one s u) w h =
    let inner = lambdas_plain datas u w h in
    record { wires = inner.wires.1; plain = (record { wires = (inner.wires.0, tt); no_type_lambda = λ h. h; looks = tt }, inner.plain) }

pub body_plain : (o : Origins) (it : MadeOf) (body : TermTree) → IsNormalBody o it body → AllParts (IsPlain o.program.datas) body
body_plain o it body h =
    (lambdas_plain o.program.datas h.under (named_wires o.program.datas it.sort h.vars h.named) (form_plain o it.sort h.vars h.inner h.form)).plain

pub body_first_order : (o : Origins) (it : MadeOf) (body : TermTree) → IsNormalBody o it body → IsMonomorphic body × IsFirstOrder o.program.datas body
body_first_order o it body h =
    let plain = body_plain o it body h in (
      record {
        no_type_lambda = λ path x is. (part_holds (IsPlain o.program.datas) path body x plain is).no_type_lambda;
        closed = λ path x is. part_closed o.program.datas path body x plain h.closed is;
      },
      record {
        wires = λ path x is. (part_holds (IsPlain o.program.datas) path body x plain is).wires;
        fields = λ path x is. (part_holds (IsPlain o.program.datas) path body x plain is).looks;
      },
    )
