-- The normal form of circuits.
use Rattle.std.specs.Prelude.{◌≡◌, ℕ, suc, ◌+◌, ◌<◌, Bool}
use Rattle.std.specs.Prelude.{List, [], ◌∷◌, length, Some, slice_get}
use Rattle.chw_base.specs.declared.index.ConId.{ConId}
use Rattle.chw_types.specs.declared.declarations.Data.{Data}
use Rattle.chw_types.specs.declared.kind.Scalar.{Scalar}
use Rattle.type_ports.specs.Ports.{IsPort}
use Rattle.chw_types.specs.TypeTree.{TypeTree, nat_lit, nat_sum, vector}
use Rattle.chw_prims.specs.declared.prim.Primitive.{Primitive as Prim}
use Rattle.chw_prims.specs.declared.prim.Primitive.TheVariants.{Register, BlockRam}
use Rattle.chw_prims.specs.declared.prim.Primitive.TheVariants.{UnsafeSynchronizer}
use Rattle.chw_terms.specs.declared.scene.Sort.TheVariants.{Value, Circuit}
use Rattle.chw_terms.specs.declared.term.Pattern.TheVariants.{OfCon}
use Rattle.chw_terms.specs.Constructors.{Constructor, con_at}
use Rattle.chw_terms.specs.TermTree.{TermTree, var, made, letrec, con, prim, lit, vec_lit, case_of}
use Rattle.chw_terms.specs.TermTree.{Group, no_bindings, bind, no_alts, alt}
use Rattle.chw_terms.specs.TermView.{applied, terms_of}
use Rattle.chw_typing.specs.HeadTypes.{con_type}
use Rattle.chw_layout.specs.Measured.{HasWidth}
use Rattle.chw_typing.specs.Given.{types_then}
use Rattle.rewriting.specs.Origins.{MadeOf, Origins}
use Rattle.rewriting.specs.Spots.{asked_for}
use Rattle.rewriting.specs.Shapes.{fmap_of, ap_of, pure_of}
use Rattle.normal_forms.specs.Values.{on_names}

mutual
  -- a constant: a literal, or of constants a constructor with all that its type asks for, or a
  -- vector
  pub data IsConstant (datas : List Data) : TermTree → Type 0 where
    constant_literal : {s : Scalar} {bits : List Bool} → IsConstant datas (lit s bits)
    constant_constructor : (c : ℕ) (types : List TypeTree) (es : List TermTree) {it : Constructor}
        → con_at datas c ≡ Some it → length types + length es ≡ asked_for (con_type it)
        → AreConstants datas es
        → IsConstant datas (applied (con c) (types_then types es))
    constant_vector : (t : TypeTree) (es : List TermTree)
        → AreConstants datas es → IsConstant datas (vec_lit t (terms_of es))

  pub data AreConstants (datas : List Data) : List TermTree → Type 0 where
    no_constants : AreConstants datas []
    constant_and : {e : TermTree} {es : List TermTree}
        → IsConstant datas e → AreConstants datas es → AreConstants datas (e ∷ es)

-- a primitive on these types, with a constant as its content at the beginning, on these variables
abbrev pub beginning_with : Prim → List TypeTree → TermTree → List ℕ → TermTree
beginning_with p types c xs = on_names (applied (prim p) (types_then types (c ∷ []))) [] xs

-- the type of a block RAM's content: a word for each address up to this one
abbrev pub content_type : TypeTree → TypeTree → TypeTree
content_type n a = vector (nat_sum n (nat_lit 1)) a

-- `ap (.. (ap (fmap m x1) x2) ..) xn`: a made definition, lifted, on so many variables
pub data IsLiftedCall (m : ℕ) : TermTree → ℕ → Type 0 where
  lifted_on_one : {d a b : TypeTree} {x : ℕ} → IsLiftedCall m (fmap_of d a b (made m) (var x)) 1
  lifted_on_more : {d a b : TypeTree} {u : TermTree} {x n : ℕ}
      → IsLiftedCall m u n → IsLiftedCall m (ap_of d a b u (var x)) (suc n)

-- a right side
pub data IsCircuitSide (o : Origins) : TermTree → Type 0 where
  of_variable : {x : ℕ} → IsCircuitSide o (var x)
  -- the primitives on signals but those that lift
  of_register : {d a : TypeTree} {c : TermTree} {x : ℕ}
      → IsConstant o.program.datas c
      → IsCircuitSide o (beginning_with Register (d ∷ a ∷ []) c (x ∷ []))
  -- of a block RAM also the content has a width
  of_block_ram : {d n k a : TypeTree} {c : TermTree} {x y w : ℕ}
      → IsConstant o.program.datas c → HasWidth o.program.datas (content_type n a) w
      → IsCircuitSide o (beginning_with BlockRam (d ∷ n ∷ k ∷ a ∷ []) c (x ∷ y ∷ []))
  of_synchronizer : {d e a : TypeTree} {x : ℕ}
      → IsCircuitSide o (on_names (prim UnsafeSynchronizer) (d ∷ e ∷ a ∷ []) (x ∷ []))
  of_pure : {d a : TypeTree} {c : TermTree}
      → IsConstant o.program.datas c → IsCircuitSide o (pure_of d a c)
  -- made definitions: of values, lifted on as many signals as there are parameters; of circuits
  of_lifted : {e : TermTree} (m : ℕ) {it : MadeOf}
      → slice_get o.made m ≡ Some it → it.sort ≡ Value → IsLiftedCall m e (asked_for it.ty)
      → IsCircuitSide o e
  of_call : (m : ℕ) (xs : List ℕ) {it : MadeOf}
      → slice_get o.made m ≡ Some it → it.sort ≡ Circuit → length xs ≡ asked_for it.ty
      → IsCircuitSide o (on_names (made m) [] xs)
  -- ports are put together by constructors, and taken apart by `case x of { C z1 .. zn -> zi; }`
  of_constructor : (c : ℕ) (types : List TypeTree) (xs : List ℕ) {it : Constructor}
      → con_at o.program.datas c ≡ Some it
      → length types + length xs ≡ asked_for (con_type it)
      → IsCircuitSide o (on_names (con c) types xs)
  of_projection : {x n z : ℕ} {c : ConId}
      → z < n → IsCircuitSide o (case_of (var x) (alt (OfCon c n) (var z) no_alts))

-- each binding has a port as its type and such a right side
pub data AreCircuitSides (o : Origins) : Group → Type 0 where
  no_circuit_sides : AreCircuitSides o no_bindings
  circuit_side_and : {t : TypeTree} {e : TermTree} {g : Group}
      → IsPort o.program.datas t → IsCircuitSide o e → AreCircuitSides o g
      → AreCircuitSides o (bind t e g)

-- a circuit: a variable, or a letrec that gives one; here bindings may lead back to themselves
pub data IsCircuitBody (o : Origins) : TermTree → Type 0 where
  circuit_variable : {x : ℕ} → IsCircuitBody o (var x)
  circuit_letrec : {g : Group} {x : ℕ}
      → AreCircuitSides o g → IsCircuitBody o (letrec g (var x))
