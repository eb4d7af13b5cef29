-- What a term at rest of the normal form declares: the types of its letrecs' bindings hold their widths.
use Rattle.std.proofs.Common.{◌≡◌, sym, subst, refl, false, true, ℕ, suc, List, [], ◌∷◌, map, Some}
use Rattle.std.specs.List.{slice_get, AllByRecursion}
use Rattle.chw_types.specs.declared.declarations.Data.{Data}
use Rattle.chw_types.specs.TypeTree.{TypeTree}
use Rattle.type_ports.specs.Representable.{Representable}
use Rattle.chw_prims.specs.declared.prim.Primitive.TheVariants.{Fmap, Ap, Pure, Register, BlockRam, UnsafeSynchronizer}
use Rattle.chw_layout.specs.Refusals.{RepresentableIsMeasured}
use Rattle.chw_terms.specs.declared.scene.Mode.TheVariants.{V}
use Rattle.chw_terms.specs.declared.term.Arg.TheVariants.{OfTerm}
use Rattle.chw_terms.specs.TermTree.{TermTree, var, made, app, ty_app, letrec, con, prim, case_of, Group, no_bindings, bind, Alts}
use Rattle.chw_terms.specs.TermView.{applied, terms_of}
use Rattle.chw_typing.specs.Given.{types_then}
use Rattle.chw_typing.specs.Groups.{binding_at}
use Rattle.chw_typing.specs.Paths.{Branch, branch_at}
use Rattle.chw_typing.specs.Scopes.{Setting, declared, with_more}
use Rattle.chw_typing.specs.Typing.{HasType, h_var}
use Rattle.normal_forms.specs.Blocked.{by_binding}
use Rattle.normal_forms.specs.Circuits.{IsConstant, constant_literal, constant_constructor, constant_vector, AreConstants, no_constants, constant_and, IsLiftedCall, lifted_on_one, lifted_on_more}
use Rattle.normal_forms.specs.Circuits.{IsCircuitSide, of_variable, of_register, of_block_ram, of_synchronizer, of_pure, of_lifted, of_call, of_constructor, of_projection}
use Rattle.normal_forms.specs.Circuits.{AreCircuitSides, no_circuit_sides, circuit_side_and, IsCircuitBody, circuit_variable, circuit_letrec}
use Rattle.normal_forms.specs.Normal.{HoldsWidths}
use Rattle.normal_forms.specs.Parts.{declared_by}
use Rattle.normal_forms.specs.Values.{on_names, IsBlock, block_variable, block_letrec, AreSides, no_sides, side_and, AreBlocks, no_blocks, block_and}
use Rattle.normal_forms.specs.Values.{IsSide, side_variable, side_literal, side_constructor, side_vector, side_primitive, side_call, side_case}
use Rattle.normal_forms.proofs.Plain.{AllParts, AllOfTerms, AllOfGroup, AllOfAlts}
use Rattle.rewriting.specs.Named.{IsNamed}
use Rattle.rewriting.specs.Origins.{Origins}
use Rattle.rewriting.specs.SceneLaws.{NamedIsDecided, SameKeepsNamed}
use Rattle.rewriting.specs.Spots.{Spot, spot, HasLets}
use Rattle.rule_types.proofs.Scrutinees.{case_typed}
use Rattle.rest_places.specs.Rest.{IsRestPlace, ground}
use Rattle.rest_places.proofs.Constants.{all_at}
use Rattle.rest_places.proofs.Parts.{side_at_rest, branch_at_rest}
use Rattle.rest_places.proofs.Sizes.{no_limit}
use Rattle.ended_laws.proofs.Held.{held}

-- this holds of the types that the term declares itself
abbrev pub Declares : (TypeTree → Type 0) → TermTree → Type 0
Declares P x = AllByRecursion P (declared_by x)

module _ (P : TypeTree → Type 0) where
  -- spines declare what their arguments do
  terms_declare : (es : List TermTree) (e : TermTree) → AllParts (Declares P) e → AllByRecursion (AllParts (Declares P)) es → AllParts (Declares P) (applied e (map (λ a. OfTerm a) es))
  terms_declare [] e h all = h
  terms_declare (a ∷ es) e h all = terms_declare es (app e a) (tt, (h, all.0)) all.1

  spine_declares : (types : List TypeTree) (es : List TermTree) (e : TermTree) → AllParts (Declares P) e → AllByRecursion (AllParts (Declares P)) es → AllParts (Declares P) (applied e (types_then types es))
  spine_declares [] es e h all = terms_declare es e h all
  spine_declares (t ∷ types) es e h all = spine_declares types es (ty_app e t) (tt, h) all

  names_declare : (xs : List ℕ) → AllByRecursion (AllParts (Declares P)) (map (λ x. var x) xs)
  names_declare [] = tt
  names_declare (x ∷ xs) = (tt, names_declare xs)

  on_names_declare : (types : List TypeTree) (xs : List ℕ) (e : TermTree) → AllParts (Declares P) e → AllParts (Declares P) (on_names e types xs)
  on_names_declare types xs e h = spine_declares types (map (λ x. var x) xs) e h (names_declare xs)

  elements_declare : (es : List TermTree) → AllByRecursion (AllParts (Declares P)) es → AllOfTerms (Declares P) (terms_of es)
  elements_declare [] all = tt
  elements_declare (e ∷ es) all = (all.0, elements_declare es all.1)

  -- constants, and right sides of circuits, declare nothing
  mutual
    constant_declares : {datas : List Data} {e : TermTree} → IsConstant datas e → AllParts (Declares P) e
    constant_declares constant_literal = tt
    constant_declares (constant_constructor c types es is n all) = spine_declares types es (con c) tt (constants_declare all)
    constant_declares (constant_vector t es all) = (tt, elements_declare es (constants_declare all))

    constants_declare : {datas : List Data} {es : List TermTree} → AreConstants datas es → AllByRecursion (AllParts (Declares P)) es
    constants_declare no_constants = tt
    constants_declare (constant_and c more) = (constant_declares c, constants_declare more)

  lifted_declares : {m n : ℕ} {e : TermTree} → IsLiftedCall m e n → AllParts (Declares P) e
  lifted_declares {m} (lifted_on_one {d = d} {a = a} {b = b} {x = x}) = spine_declares (d ∷ a ∷ b ∷ []) (made m ∷ var x ∷ []) (prim Fmap) tt (tt, (tt, tt))
  lifted_declares (lifted_on_more {d = d} {a = a} {b = b} {u = u} {x = x} more) = spine_declares (d ∷ a ∷ b ∷ []) (u ∷ var x ∷ []) (prim Ap) tt (lifted_declares more, (tt, tt))

  circuit_side_declares : {o : Origins} {e : TermTree} → IsCircuitSide o e → AllParts (Declares P) e
  circuit_side_declares of_variable = tt
  circuit_side_declares (of_register {d = d} {a = a} {c = c} {x = x} k) =
      on_names_declare [] (x ∷ []) (applied (prim Register) (types_then (d ∷ a ∷ []) (c ∷ []))) (spine_declares (d ∷ a ∷ []) (c ∷ []) (prim Register) tt (constant_declares k, tt))
  circuit_side_declares (of_block_ram {d = d} {n = n} {k = w} {a = a} {c = c} {x = x} {y = y} k h) =
      on_names_declare [] (x ∷ y ∷ []) (applied (prim BlockRam) (types_then (d ∷ n ∷ w ∷ a ∷ []) (c ∷ []))) (spine_declares (d ∷ n ∷ w ∷ a ∷ []) (c ∷ []) (prim BlockRam) tt (constant_declares k, tt))
  circuit_side_declares (of_synchronizer {d = d} {e = e} {a = a} {x = x}) = on_names_declare (d ∷ e ∷ a ∷ []) (x ∷ []) (prim UnsafeSynchronizer) tt
  circuit_side_declares (of_pure {d = d} {a = a} {c = c} k) = spine_declares (d ∷ a ∷ []) (c ∷ []) (prim Pure) tt (constant_declares k, tt)
  circuit_side_declares (of_lifted m is v chain) = lifted_declares chain
  circuit_side_declares (of_call m xs is s n) = on_names_declare [] xs (made m) tt
  circuit_side_declares (of_constructor c types xs is n) = on_names_declare types xs (con c) tt
  circuit_side_declares (of_projection l) = (tt, (tt, (tt, tt)))

  circuit_sides_declare : {o : Origins} {g : Group} → AreCircuitSides o g → AllOfGroup (Declares P) g
  circuit_sides_declare no_circuit_sides = tt
  circuit_sides_declare (circuit_side_and p s more) = (circuit_side_declares s, circuit_sides_declare more)

-- this holds of the type of each binding
each_declared : (P : TypeTree → Type 0) (g : Group) → ((i : ℕ) (b : TypeTree × TermTree) → binding_at g i ≡ Some b → P b.0) → AllByRecursion P (declared g)
each_declared P no_bindings h = tt
each_declared P (bind t e g) h = (h 0 (t, e) refl, each_declared P g (λ i b k. h (suc i) b k))

variable_there : {s : Setting} {vars : List TypeTree} {x : ℕ} {u : TypeTree} → HasType s [] vars (var x) u → slice_get vars x ≡ Some u
variable_there (h_var is) = is

-- the term is at rest at a place where values are built
pub record InValues (o : Origins) (e : TermTree) : Type 0 where
  pub at : Spot
  pub type : TypeTree
  pub mode : at.mode ≡ V
  pub rest : IsRestPlace o at e type

module _ (decided : NamedIsDecided) (kept : SameKeepsNamed) (there : RepresentableIsMeasured) (o : Origins) where
  -- a letrec
  let_declares : (at : Spot) (g : Group) (e : TermTree) (t : TypeTree) → IsRestPlace o at (letrec g e) t → AllByRecursion (HoldsWidths o.program.datas) (declared g)
  let_declares at g e t p =
      each_declared (HoldsWidths o.program.datas) g (λ i b k. held there o.program.datas b.0 (λ l over. no_limit o at (letrec g e) t p (suc i) l (by_binding k over)))

  -- right sides, and alternatives
  side_below : (g : Group) (e : TermTree) → InValues o (letrec g e) → (i : ℕ) (b : TypeTree × TermTree) → binding_at g i ≡ Some b → InValues o b.1
  side_below g e h i b k =
      let side = side_at_rest decided kept o h.at g e h.type i b (subst HasLets (sym h.mode) tt) h.rest k in
      record { at = spot h.at.mode false (with_more (declared g) h.at.vars); type = side.type; mode = h.mode; rest = side.rest }

  branch_below : (x : ℕ) (alts : Alts) → InValues o (case_of (var x) alts) → (i : ℕ) (b : Branch) → branch_at alts i ≡ Some b → InValues o b.body
  branch_below x alts h i b k =
      let of = case_typed h.rest.has in
      let is = variable_there of.has in
      let named = subst (λ m. AllByRecursion (IsNamed o.program.datas (ground m)) h.at.vars) h.mode h.rest.named in
      let value : Representable o.program.datas of.type = all_at (IsNamed o.program.datas V) h.at.vars x of.type named is in
      let side = branch_at_rest decided o h.at x alts h.type of.type i b h.mode h.rest is value k in
      record { at = spot V true (with_more side.fields h.at.vars); type = side.type; mode = refl; rest = side.rest }

  mutual
    pub block_declares : {vars : List TypeTree} {e : TermTree} → IsBlock o vars e → InValues o e → AllParts (Declares (HoldsWidths o.program.datas)) e
    block_declares block_variable h = tt
    block_declares (block_letrec {g = g} {x = x} sides none) h = (let_declares h.at g (var x) h.type h.rest, (sides_declare sides (side_below g (var x) h), tt))

    sides_declare : {vars : List TypeTree} {g : Group} → AreSides o vars g → ((i : ℕ) (b : TypeTree × TermTree) → binding_at g i ≡ Some b → InValues o b.1) → AllOfGroup (Declares (HoldsWidths o.program.datas)) g
    sides_declare no_sides h = tt
    sides_declare (side_and {t = t} {e = e} r s more) h = (side_declares s (h 0 (t, e) refl), sides_declare more (λ i b k. h (suc i) b k))

    side_declares : {vars : List TypeTree} {e : TermTree} → IsSide o vars e → InValues o e → AllParts (Declares (HoldsWidths o.program.datas)) e
    side_declares side_variable h = tt
    side_declares side_literal h = tt
    side_declares (side_constructor c types xs is n) h = on_names_declare (HoldsWidths o.program.datas) types xs (con c) tt
    side_declares (side_vector t xs) h = (tt, elements_declare (HoldsWidths o.program.datas) (map (λ x. var x) xs) (names_declare (HoldsWidths o.program.datas) xs))
    side_declares (side_primitive p types xs w n) h = on_names_declare (HoldsWidths o.program.datas) types xs (prim p) tt
    side_declares (side_call m xs is v n) h = on_names_declare (HoldsWidths o.program.datas) [] xs (made m) tt
    side_declares (side_case {x = x} {alts = alts} is blocks) h = (tt, (tt, blocks_declare blocks (branch_below x alts h)))

    blocks_declare : {vars : List TypeTree} {u : TypeTree} {alts : Alts} → AreBlocks o vars u alts → ((i : ℕ) (b : Branch) → branch_at alts i ≡ Some b → InValues o b.body) → AllOfAlts (Declares (HoldsWidths o.program.datas)) alts
    blocks_declare no_blocks h = tt
    blocks_declare (block_and {q = q} {e = e} p b more) h = (block_declares b (h 0 (record { pattern = q; body = e }) refl), blocks_declare more (λ i b k. h (suc i) b k))

  pub circuit_declares : {at : Spot} {e : TermTree} {t : TypeTree} → IsCircuitBody o e → IsRestPlace o at e t → AllParts (Declares (HoldsWidths o.program.datas)) e
  circuit_declares circuit_variable p = tt
  circuit_declares {at} {t = t} (circuit_letrec {g = g} {x = x} sides) p =
      (let_declares at g (var x) t p, (circuit_sides_declare (HoldsWidths o.program.datas) sides, tt))
