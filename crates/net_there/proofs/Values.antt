-- The block of a typed value in normal form is ready.
use Rattle.std.proofs.Common.{◌≡◌, ◌⊎◌, inl, inr, ℕ, suc, ◌+◌, List, [], ◌∷◌, ◌++◌, length, Some, refl, sym, ap, ◌∙◌, subst, arith, append-nil}
use Rattle.std.specs.List.{AllByRecursion}
use Rattle.chw_types.specs.Arguments.{arguments}
use Rattle.chw_types.specs.declared.declarations.Data.{Data}
use Rattle.chw_types.specs.declared.kind.Kind.{Kind}
use Rattle.chw_types.specs.declared.kind.Kind.TheVariants.{Nat, Val, Cir}
use Rattle.chw_types.specs.declared.kind.Scalar.TheVariants.{U}
use Rattle.chw_types.specs.Kinds.{KindsOf, kind_and}
use Rattle.chw_types.specs.SamePromises.{SameValues}
use Rattle.chw_types.specs.SameTypes.{SameTypes}
use Rattle.chw_types.specs.TypeMoves.{sub}
use Rattle.chw_types.specs.TypeTree.{TypeTree, TypeTrees, ty_var, nat_lit, nat_sum, scalar, vector, data_of}
use Rattle.chw_types.specs.TypeView.{trees_of}
use Rattle.type_ports.specs.Representable.{Representable}
use Rattle.type_laws.specs.SameKept.{FieldsKeepSame}
use Rattle.chw_prims.specs.declared.prim.Primitive.{Primitive as Prim}
use Rattle.chw_prims.specs.declared.prim.Primitive.TheVariants.{VGet, VGetC, VAt}
use Rattle.chw_prims.specs.Schemas.{schema_type}
use Rattle.chw_terms.specs.Constructors.{Constructor, con_at}
use Rattle.chw_terms.specs.declared.scene.Sort.TheVariants.{Value}
use Rattle.chw_terms.specs.TermTree.{TermTree, var, made, letrec, con, prim, Group, Alts}
use Rattle.chw_typing.specs.Given.{types_then}
use Rattle.chw_typing.specs.NamedLaws.{RepresentableIsVal}
use Rattle.chw_typing.specs.Programs.{IsSound}
use Rattle.chw_typing.specs.Scopes.{HasKind, AreTermTypes, declared}
use Rattle.chw_typing.specs.Typing.{HasType, h_letrec, AreBound, none_bound, bound_and, AllGive, none_give, give_and}
use Rattle.chw_layout.specs.Measured.{fits, MeasuredFields, HasWidth}
use Rattle.rewriting.specs.Origins.{Origins, setting_at}
use Rattle.rewriting.specs.Spots.{asked_for, IsOnWords, TakesElement}
use Rattle.normal_forms.specs.Normal.{HoldsWidths}
use Rattle.normal_forms.specs.Parts.{EachDeclared}
use Rattle.normal_forms.specs.Values.{on_names, IsBlock, block_variable, block_letrec, AreSides, no_sides, side_and, IsSide, side_variable, side_literal, side_constructor, side_vector, side_primitive, side_call, side_case, AreBlocks, no_blocks, block_and}
use Rattle.net_ready.specs.Ready.{ConstructorReady, ElementReady, ElementAtReady, PrimitiveReady, ValueReady, BlockReady, ready_variable, ready_letrec, GroupReady, ready_none, ready_and, SideReady, ready_value, ready_case, AltsReady, ready_no_alts, ready_alt}
use Rattle.net_grounds.specs.Facts.{Facts}
use Rattle.net_means.proofs.NetFits.Shapes.{names}
use Rattle.net_means.proofs.NetFits.ValueDrivers.{case_typed}
use Rattle.net_means.proofs.SideBits.Heads.{same_counts, wide_asks}
use Rattle.net_means.proofs.SideBits.Saturated.{prim_saturated}
use Rattle.net_there.proofs.Declared.{SidesDeclare, AltsDeclare}
use Rattle.net_there.proofs.Heads.{types_among_then, are_names, are_types_then_names, are_named, of_head, one_item, two_items, three_items}
use Rattle.net_there.proofs.Measured.{HasSomeParts, AllHaveParts, value_width, all_more, item_of_all, all_hold_parts, widths_as_parts, pattern_wide}

-- the declared types of bindings of values are representable
sides_named : {o : Origins} {vars : List TypeTree} {g : Group} → AreSides o vars g → AllByRecursion (λ t. Representable o.program.datas t) (declared g)
sides_named no_sides = tt
sides_named (side_and named form more) = (named, sides_named more)

words_ready : (p : Prim) (types : List TypeTree) (xs : List ℕ) → IsOnWords p → PrimitiveReady p (types_then types (names xs))
words_ready VGet types xs on = absurd on
words_ready VAt types xs on = absurd on
words_ready p types xs on = (on, are_types_then_names types xs)

element_ready : (types : List TypeTree) (xs : List ℕ) → length types ≡ 3 → length xs ≡ 1 → ElementReady (types_then types (names xs))
element_ready types xs h k =
    let ts = three_items types h in
    let one = one_item xs k in
    subst (λ types. ElementReady (types_then types (names xs))) (sym ts.3) (subst (λ xs. ElementReady (types_then (ts.0 ∷ ts.1 ∷ ts.2 ∷ []) (names xs))) (sym one.1) tt)

element_at_ready : (types : List TypeTree) (xs : List ℕ) → length types ≡ 3 → length xs ≡ 2 → ElementAtReady (types_then types (names xs))
element_at_ready types xs h k =
    let ts = three_items types h in
    let two = two_items xs k in
    subst (λ types. ElementAtReady (types_then types (names xs))) (sym ts.3) (subst (λ xs. ElementAtReady (types_then (ts.0 ∷ ts.1 ∷ ts.2 ∷ []) (names xs))) (sym two.2) tt)

-- what is known of what values are typed over
module _ (facts : Facts) (values : SameValues) (keep : FieldsKeepSame) (is_val : RepresentableIsVal) (o : Origins) (sound : IsSound (setting_at o)) where
  -- a right side, its declared type, and the type that it has in a scope
  record Typed (vars : List TypeTree) (t : TypeTree) (e : TermTree) : Type 0 where
    scoped : AreTermTypes (setting_at o) [] vars
    type : TypeTree
    has : HasType (setting_at o) [] vars e type
    kind : Kind
    of_kind : HasKind (setting_at o) [] t kind
    same : SameTypes t type
    named : Representable o.program.datas t
    width : ℕ
    wide : HasWidth o.program.datas t width

  constructor_ready : {vars : List TypeTree} {t : TypeTree} (c : ℕ) (it : Constructor) (types : List TypeTree) (xs : List ℕ) → con_at o.program.datas c ≡ Some it → Typed vars t (on_names (con c) types xs) → ConstructorReady o.program.datas c (types_then types (names xs))
  constructor_ready {vars} {t} c it types xs at typed =
      let s = setting_at o in
      let datas : List Data = o.program.datas in
      let es : List TermTree = names xs in
      let whole = facts.terms.con_takes s [] vars c it (types_then types es) typed.type sound typed.scoped at typed.has (wide_asks facts typed.wide typed.same) in
      let are : types_then types es ≡ types_then whole.0.types whole.0.es =
      whole.0.are ∙ ap (λ more. types_then whole.0.types whole.0.es ++ more) whole.1 ∙ append-nil (types_then whole.0.types whole.0.es) in
      let counts = same_counts types whole.0.types es whole.0.es are in
      let given = facts.terms.con_at_arguments s [] vars c it types es typed.type sound typed.scoped at (counts.0 ∙ whole.0.on_types) (counts.1 ∙ whole.0.on_terms) typed.has in
      let ts : TypeTrees = trees_of types in
      let has : HasWidth datas (data_of it.of ts) typed.width =
      facts.same_layout.measured_same s sound values keep typed.wide (record { kind = typed.kind; has = typed.of_kind; same = facts.same.same_through typed.same (facts.same.same_turned given.2) }) in
      let within = facts.widths.whole_width o.program c it.of it ts typed.width at refl has in
      record {
        it = it;
        held = at;
        names = are_types_then_names types xs;
        fields = within.s;
        measured = subst (λ (types : List TypeTree). MeasuredFields datas it.decl.fields (arguments (trees_of types)) (fits within.s)) (sym (types_among_then types es)) within.fields;
      }

  -- an element of a circuit is none of a value
  no_circuit_element : {vars : List TypeTree} {t : TypeTree} (types : List TypeTree) (xs : List ℕ) → length types + length xs ≡ asked_for (schema_type VGetC) → Typed vars t (on_names (prim VGetC) types xs) → ⊥
  unfolding sub
  no_circuit_element {vars} {t} types xs count typed =
      let s = setting_at o in
      let all = prim_saturated facts s vars VGetC (Nat ∷ Nat ∷ Cir ∷ []) (vector (nat_sum (nat_sum (ty_var 2) (nat_lit 1)) (ty_var 1)) (ty_var 0) ∷ []) (ty_var 0) types xs typed.type sound typed.scoped refl count typed.has (wide_asks facts typed.wide typed.same) in
      let ts = three_items types all.0 in
      let a : TypeTree = ts.2 in
      let gives : SameTypes a typed.type = subst (λ (types : List TypeTree). SameTypes (sub (ty_var 0) (arguments (trees_of types))) typed.type) ts.3 all.1.gives in
      let have : KindsOf s.datas s.domains [] (trees_of (ts.0 ∷ ts.1 ∷ a ∷ [])) (Nat ∷ Nat ∷ Cir ∷ []) = subst (λ (types : List TypeTree). KindsOf s.datas s.domains [] (trees_of types) (Nat ∷ Nat ∷ Cir ∷ [])) ts.3 all.1.have in
      let named : Representable s.datas a =
      facts.same_layout.representable_same s sound keep typed.named (record { kind = typed.kind; has = typed.of_kind; same = facts.same.same_through typed.same (facts.same.same_turned gives) }) in
      let val : Cir ≡ Val = is_val s a Cir sound (circuit_kind have) named in
      absurd cc
    where
      circuit_kind : {t u v : TypeTree} → KindsOf (setting_at o).datas (setting_at o).domains [] (trees_of (t ∷ u ∷ v ∷ [])) (Nat ∷ Nat ∷ Cir ∷ []) → HasKind (setting_at o) [] v Cir
      circuit_kind (kind_and a (kind_and b (kind_and c more))) = c

  taken_ready : {vars : List TypeTree} {t : TypeTree} (p : Prim) (types : List TypeTree) (xs : List ℕ) → TakesElement p → length types + length xs ≡ asked_for (schema_type p) → Typed vars t (on_names (prim p) types xs) → PrimitiveReady p (types_then types (names xs))
  taken_ready {vars} VGet types xs takes count typed =
      let all = prim_saturated facts (setting_at o) vars VGet (Nat ∷ Nat ∷ Val ∷ []) (vector (nat_sum (nat_sum (ty_var 2) (nat_lit 1)) (ty_var 1)) (ty_var 0) ∷ []) (ty_var 0) types xs typed.type sound typed.scoped refl count typed.has (wide_asks facts typed.wide typed.same) in
      let three = all.0 in
      element_ready types xs all.0 (omega (arith, count, three))
  taken_ready {vars} VAt types xs takes count typed =
      let all = prim_saturated facts (setting_at o) vars VAt (Nat ∷ Nat ∷ Val ∷ []) (vector (nat_sum (ty_var 2) (nat_lit 1)) (ty_var 0) ∷ scalar U (ty_var 1) ∷ []) (ty_var 0) types xs typed.type sound typed.scoped refl count typed.has (wide_asks facts typed.wide typed.same) in
      let three = all.0 in
      element_at_ready types xs all.0 (omega (arith, count, three))
  taken_ready VGetC types xs takes count typed = absurd (no_circuit_element types xs count typed)
  taken_ready p types xs takes count typed = absurd takes

  primitive_ready : {vars : List TypeTree} {t : TypeTree} (p : Prim) (types : List TypeTree) (xs : List ℕ) → IsOnWords p ⊎ TakesElement p → length types + length xs ≡ asked_for (schema_type p) → Typed vars t (on_names (prim p) types xs) → PrimitiveReady p (types_then types (names xs))
  primitive_ready p types xs (inl on) count typed = words_ready p types xs on
  primitive_ready p types xs (inr takes) count typed = taken_ready p types xs takes count typed

  mutual
    side_ready : {shown vars : List TypeTree} {t : TypeTree} {e : TermTree} → IsSide o shown e → EachDeclared (HoldsWidths o.program.datas) e → AllHaveParts o.program.datas Value shown → Typed vars t e → SideReady o.program.datas Value shown t e
    side_ready side_variable all parts typed = ready_value typed.wide tt
    side_ready side_literal all parts typed = ready_value typed.wide tt
    side_ready (side_constructor c types xs {it = it} at count) all parts typed =
        ready_value typed.wide (of_head (ValueReady o.program.datas) (con c) refl refl types xs (constructor_ready c it types xs at typed))
    side_ready (side_vector t xs) all parts typed = ready_value typed.wide (are_named xs)
    side_ready (side_primitive p types xs is count) all parts typed =
        ready_value typed.wide (of_head (ValueReady o.program.datas) (prim p) refl refl types xs (primitive_ready p types xs is count typed))
    side_ready (side_call m xs known value count) all parts typed = ready_value typed.wide (of_head (ValueReady o.program.datas) (made m) refl refl [] xs (are_names xs))
    side_ready {shown} (side_case {x = x} {u = u} held blocks) all parts typed =
        let whole = value_width (item_of_all (HasSomeParts o.program.datas Value) shown x u parts held).1 in
        let c = case_typed facts typed.has in
        ready_case held whole.1 typed.wide (alts_ready blocks (λ i path y is. all (suc i ∷ path) y is) parts whole.1 c.give typed.scoped)

    alts_ready : {shown vars : List TypeTree} {u v r : TypeTree} {w : ℕ} {alts : Alts} → AreBlocks o shown u alts → AltsDeclare (HoldsWidths o.program.datas) alts → AllHaveParts o.program.datas Value shown → HasWidth o.program.datas u w → AllGive (setting_at o) [] vars v r alts → AreTermTypes (setting_at o) [] vars → AltsReady o.program.datas shown u alts
    alts_ready no_blocks all parts wide none_give scoped = ready_no_alts
    alts_ready {shown} {vars} (block_and {fields = fields} pattern form forms) all parts wide (give_and {bound = bnd} b typed same others) scoped =
        let ws = pattern_wide facts o.program pattern wide in
        let inside = all_more (HasSomeParts o.program.datas Value) fields shown (widths_as_parts o.program.datas fields ws.0 ws.1) parts in
        ready_alt ws.0 pattern ws.1 (block_ready form (λ path y is. all 0 path y is) inside typed (facts.scopes.typed_more (setting_at o) [] bnd vars b.typed scoped))
        (alts_ready forms (λ i path y is. all (suc i) path y is) parts wide others scoped)

    pub block_ready : {shown vars : List TypeTree} {e : TermTree} {u : TypeTree} → IsBlock o shown e → EachDeclared (HoldsWidths o.program.datas) e → AllHaveParts o.program.datas Value shown → HasType (setting_at o) [] vars e u → AreTermTypes (setting_at o) [] vars → BlockReady o.program.datas Value shown e
    block_ready block_variable all parts typed scoped = ready_variable
    block_ready {shown} {vars} (block_letrec {g = g} {x = x} sides none) all parts (h_letrec typed of_kind bound) scoped =
        let new = all_hold_parts o.program.datas Value (declared g) (sides_named sides) (all [] (letrec g (var x)) refl) in
        let inside = all_more (HasSomeParts o.program.datas Value) (declared g) shown new parts in
        ready_letrec (group_ready (var x) sides (λ i path y is. all (i ∷ path) y is) new inside bound (facts.scopes.typed_more (setting_at o) [] (declared g) vars (facts.scopes.bound_typed bound) scoped))

    group_ready : {shown vars : List TypeTree} {g : Group} {k : Kind} (b : TermTree) → AreSides o shown g → SidesDeclare (HoldsWidths o.program.datas) g b → AllHaveParts o.program.datas Value (declared g) → AllHaveParts o.program.datas Value shown → AreBound (setting_at o) [] vars k g → AreTermTypes (setting_at o) [] vars → GroupReady o.program.datas Value shown g
    group_ready b no_sides all own parts none_bound scoped = ready_none
    group_ready {vars = vars} b (side_and {t = t} {e = e} named form forms) all own parts (bound_and {j = j} kind functions typed same rest) scoped =
        let width = value_width own.0.1 in
        let one : Typed vars t e = record { scoped = scoped; type = _; has = typed; kind = j; of_kind = kind; same = same; named = named; width = width.0; wide = width.1 } in
        ready_and (side_ready form (λ path y is. all 0 path y is) parts one) (group_ready b forms (λ i path y is. all (suc i) path y is) own.1 parts rest scoped)
