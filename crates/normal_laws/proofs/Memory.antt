-- Bodies with a block RAM: one whose content is at the limit of data, and one whose content passes it.
use Rattle.std.proofs.Common.{◌≡◌, ℕ, suc, zero, true, false, refl, sym, ◌∙◌, subst, arith, Some, List, [], ◌∷◌, replicate}
use Rattle.std.specs.Prelude.{Contains}
use Rattle.std.specs.List.{AllByRecursion}
use Rattle.chw_types.specs.BuiltIn.{built_in}
use Rattle.chw_types.specs.declared.declarations.Data.{Data}
use Rattle.chw_types.specs.declared.kind.Kind.{Kind}
use Rattle.chw_types.specs.declared.kind.Kind.TheVariants.{Nat, Dom, Val, Cir}
use Rattle.chw_types.specs.declared.kind.Scalar.TheVariants.{U}
use Rattle.type_ports.specs.declared.ports.Leaf.{Leaf}
use Rattle.chw_types.specs.KindFound.{kind_found}
use Rattle.type_ports.specs.Ports.{IsPort, Leaves, one_leaf, leaves_of_fields}
use Rattle.type_ports.specs.Representable.{Representable, representable_scalar, representable_vector, representable_data, represent_and, none_to_represent}
use Rattle.chw_types.specs.SamePromises.{natural_value}
use Rattle.chw_types.specs.SameTypes.{same_vector}
use Rattle.chw_types.specs.TypeMoves.{sub, rename, up, up_by, put_at}
use Rattle.chw_types.specs.TypeTree.{TypeTree, ty_var, nat_lit, nat_sum, domain, scalar, vector, fun, signal, for_all}
use Rattle.chw_types.proofs.KindsFound.{found_is_kind}
use Rattle.chw_types.proofs.SameLaws.{same_self}
use Rattle.unroll_laws.proofs.Elements.{sum_same}
use Rattle.chw_prims.specs.declared.prim.Primitive.TheVariants.{BlockRam}
use Rattle.chw_prims.specs.Schemas.{maybe, pair}
use Rattle.chw_terms.specs.declared.scene.Mode.TheVariants.{C, K}
use Rattle.chw_terms.specs.declared.term.Arg.{Arg}
use Rattle.chw_terms.specs.declared.term.Arg.TheVariants.{OfTerm, OfType}
use Rattle.chw_terms.specs.TermTree.{TermTree, var, letrec, Group, no_bindings, bind}
use Rattle.chw_terms.specs.TermView.{terms_of}
use Rattle.chw_terms.specs.TypesMoved.{rename_types}
use Rattle.chw_typing.specs.Programs.{AllAreComplete}
use Rattle.chw_typing.specs.Scopes.{HasKind, IsTermType}
use Rattle.chw_typing.specs.Typing.{HasType, h_var, h_app, h_ty_app, h_letrec, h_prim, h_lit, h_vec, none_bound, bound_and, AllHave, none_have, have_and}
use Rattle.chw_layout.specs.declared.outcome.NoLayout.TheVariants.{Data as OverData}
use Rattle.chw_layout.specs.Measured.{HasWidth, Measured, fits, too_wide, measured_scalar, measured_vector, measured_data, con_measured, no_cons_measured, field_measured, no_fields_measured}
use Rattle.chw_layout.specs.Refusals.{OneMeasure}
use Rattle.chw_typing.specs.Finding.{f_vec}
use Rattle.rewriting.specs.Active.{right_side, begins, IsActive, at_it, below}
use Rattle.rewriting.specs.Named.{under_none}
use Rattle.rewriting.specs.Origins.{Origins, setting_at}
use Rattle.rewriting.specs.Spots.{spot}
use Rattle.rewriting.proofs.Lambdas.{one_under}
use Rattle.normal_forms.specs.Blocked.{PassesAt, by_type, by_width, by_limit, at_place}
use Rattle.normal_forms.specs.Circuits.{IsConstant, constant_literal, constant_vector, AreConstants, no_constants, constant_and, content_type, IsCircuitSide, of_variable, of_block_ram, AreCircuitSides, no_circuit_sides, circuit_side_and, circuit_variable, circuit_letrec, IsCircuitBody}
use Rattle.normal_forms.specs.Examples.{here}
use Rattle.normal_forms.specs.Normal.{HoldsWidths}
use Rattle.normal_forms.specs.Parts.{declared_by}
use Rattle.normal_forms.proofs.Plain.{AllParts, AllOfTerms, part_holds}
use Rattle.normal_laws.proofs.Declared.{fits_no_limit}
use Rattle.normal_laws.proofs.Forms.{LiftedPrim, on_made, on_lifted, CircuitPrim, as_register, as_ram, as_synchronizer, as_pure, as_lifted, circuit_prim}
use Rattle.normal_laws.specs.Examples.{wide, wide_zero, content, place, places, writes, reads, ram, memory, MemoryIsNormal, LargerIsNotNormal, LargerIsBlocked}

kind_here : (t : TypeTree) (k : Kind) → kind_found here.program.datas 1 [] t ≡ Some k → HasKind (setting_at here) [] t k
kind_here t k h = found_is_kind here.program.datas 1 [] t k h

abbrev vars : List TypeTree
vars = writes ∷ places ∷ reads ∷ []

wide_kind : HasKind (setting_at here) [] wide Val
unfolding kind_found
wide_kind = kind_here wide Val refl

elements_typed : (n : ℕ) → AllHave (setting_at here) [] vars wide (terms_of (replicate n wide_zero))
elements_typed zero = none_have
elements_typed (suc n) = have_and (h_lit (omega arith)) (same_self wide) (elements_typed n)

wide_type : IsTermType (setting_at here) [] wide
wide_type = record { kind = Val; has = wide_kind; of_terms = tt }

content_typed : HasType (setting_at here) [] vars (content 31) (vector (nat_lit 32) wide)
content_typed = h_vec wide_type (elements_typed 32)

-- the type of `blockRam` at these types
abbrev held : TypeTree → TypeTree → TypeTree → TypeTree → TypeTree
held d n k a =
    fun (vector (nat_sum n (nat_lit 1)) a)
    (fun (signal d (scalar U k)) (fun (signal d (maybe (pair (scalar U k) a))) (signal d a)))

ram_typed : HasType (setting_at here) [] vars (ram 31) reads
unfolding kind_found sub rename up up_by put_at
ram_typed =
    let on_domain : TypeTree = for_all Nat (for_all Nat (for_all Val (held (domain 0) (ty_var 2) (ty_var 1) (ty_var 0)))) in
    let on_length : TypeTree = for_all Nat (for_all Val (held (domain 0) (nat_lit 31) (ty_var 1) (ty_var 0))) in
    let on_width : TypeTree = for_all Val (held (domain 0) (nat_lit 31) (nat_lit 6) (ty_var 0)) in
    let whole : TypeTree = held (domain 0) (nat_lit 31) (nat_lit 6) wide in
    h_app
    (h_app
    (h_app
    (h_ty_app {u = whole}
    (h_ty_app {u = on_width}
    (h_ty_app {u = on_length}
    (h_ty_app {u = on_domain} h_prim (kind_here (domain 0) Dom refl) (same_self on_domain) (kind_here on_domain Cir refl))
    (kind_here (nat_lit 31) Nat refl) (same_self on_length) (kind_here on_length Cir refl))
    (kind_here (nat_lit 6) Nat refl) (same_self on_width) (kind_here on_width Cir refl))
    (kind_here wide Val refl) (same_self whole) (kind_here whole Cir refl))
    content_typed (same_vector (sum_same 31 1 32 refl) (same_self wide)))
    (h_var refl) (same_self places))
    (h_var refl) (same_self writes)

reads_kind : HasKind (setting_at here) [] reads Cir
unfolding kind_found
reads_kind = kind_here reads Cir refl

places_kind : HasKind (setting_at here) [] places Cir
unfolding kind_found
places_kind = kind_here places Cir refl

writes_kind : HasKind (setting_at here) [] writes Cir
unfolding kind_found sub rename up
writes_kind = kind_here writes Cir refl

memory_typed : HasType (setting_at here) [] [] (memory 31) reads
memory_typed =
    h_letrec (h_var refl) reads_kind
    (bound_and reads_kind tt ram_typed (same_self reads)
    (bound_and places_kind tt (h_var refl) (same_self places) (bound_and writes_kind tt (h_var refl) (same_self writes) none_bound)))

-- the widths of what is declared
wide_width : HasWidth built_in wide 128
unfolding natural_value
wide_width = measured_scalar

place_width : HasWidth built_in place 6
unfolding natural_value
place_width = measured_scalar

pair_width : HasWidth built_in (pair place wide) 134
unfolding natural_value sub rename up
pair_width = measured_data refl refl (con_measured (field_measured measured_scalar (field_measured measured_scalar no_fields_measured)) no_cons_measured)

write_width : HasWidth built_in (maybe (pair place wide)) 135
unfolding natural_value sub rename up
write_width = measured_data refl refl (con_measured no_fields_measured (con_measured (field_measured pair_width no_fields_measured) no_cons_measured))

pair_stands : Representable built_in (pair place wide)
unfolding sub rename up
pair_stands = representable_data refl refl (represent_and representable_scalar (represent_and representable_scalar none_to_represent))

write_stands : Representable built_in (maybe (pair place wide))
unfolding sub rename up
write_stands = representable_data refl refl (represent_and pair_stands none_to_represent)

-- the one leaf of a signal has the width of its payload
payload_width : {datas : List Data} {t : TypeTree} {ls : List Leaf} (u : TypeTree) (w : ℕ) (l : Leaf) → HasWidth datas u w → Leaves datas t ls → t ≡ signal (domain 0) u → Contains ls l → (w : ℕ) × HasWidth datas l.payload w
payload_width {datas} u w l has (one_leaf {t = t} r) is (zero, less, at) =
    let same : t ≡ u = cc in let payload : t ≡ l.payload = cc in (w, subst (λ u. HasWidth datas u w) (sym same ∙ payload) has)
payload_width u w l has (one_leaf r) is (suc k, less, at) = absurd (omega (arith, less))
payload_width u w l has (leaves_of_fields a b c d e) is h = absurd cc

no_value : {datas : List Data} {d t : TypeTree} → Representable datas (signal d t) → ⊥
no_value r = elim r [ ]

signal_holds : (u : TypeTree) (w : ℕ) → HasWidth built_in u w → HoldsWidths built_in (signal (domain 0) u)
signal_holds u w has = record { value = λ r. absurd (no_value r); leaves = λ ls l h m. payload_width u w l has h refl m }

abbrev Held : TermTree → Type 0
Held x = AllByRecursion (HoldsWidths built_in) (declared_by x)

element_parts : (n : ℕ) → AllOfTerms Held (terms_of (replicate n wide_zero))
element_parts zero = tt
element_parts (suc n) = (tt, element_parts n)

memory_parts : AllParts Held (memory 31)
memory_parts =
    let content_parts : AllParts Held (content 31) = (tt, element_parts 32) in
    let ram_parts : AllParts Held (ram 31) = (tt, ((tt, ((tt, ((tt, (tt, (tt, (tt, tt)))), content_parts)), tt)), tt)) in
    ((signal_holds wide 128 wide_width, (signal_holds place 6 place_width, (signal_holds (maybe (pair place wide)) 135 write_width, tt))), ((ram_parts, (tt, (tt, tt))), tt))

-- the form
elements_constant : (n : ℕ) → AreConstants here.program.datas (replicate n wide_zero)
elements_constant zero = no_constants
elements_constant (suc n) = constant_and constant_literal (elements_constant n)

content_constant : IsConstant here.program.datas (content 31)
content_constant = constant_vector wide (replicate 32 wide_zero) (elements_constant 32)

content_width : HasWidth here.program.datas (content_type (nat_lit 31) wide) 4096
unfolding natural_value
content_width = measured_vector measured_scalar

signal_port : (u : TypeTree) → Representable here.program.datas u → IsPort here.program.datas (signal (domain 0) u)
signal_port u r = (_, one_leaf {dom = record { number = 0 }} r)

memory_circuit : IsCircuitBody here (memory 31)
memory_circuit =
    circuit_letrec
    (circuit_side_and (signal_port wide representable_scalar) (of_block_ram {d = domain 0} {n = nat_lit 31} {k = nat_lit 6} {a = wide} {c = content 31} {x = 1} {y = 0} content_constant content_width)
    (circuit_side_and (signal_port place representable_scalar) of_variable (circuit_side_and (signal_port (maybe (pair place wide)) write_stands) of_variable no_circuit_sides)))

elements_complete : (n : ℕ) → AllAreComplete here.program.datas (terms_of (replicate n wide_zero))
elements_complete zero = tt
elements_complete (suc n) = (tt, elements_complete n)

pub memory_is_normal : MemoryIsNormal
unfolding rename_types rename
memory_is_normal =
    record {
      typed = record { type = reads; has = memory_typed; same = same_self reads };
      complete = ((((((tt, elements_complete 32), tt), tt), (tt, (tt, tt)))), tt);
      closed = λ ρ. refl;
      path = [];
      vars = [];
      inner = memory 31;
      under = under_none tt;
      named = tt;
      form = memory_circuit;
      widths = λ path x is. part_holds Held path (memory 31) x memory_parts is;
      params = [];
      result = reads;
      gives = refl;
      result_named = signal_port wide representable_scalar;
      result_width = signal_holds wide 128 wide_width;
    }

-- what blocks the larger one
content_measured : Measured here.program.datas (vector (nat_lit 33) wide) (too_wide (OverData 4224))
unfolding natural_value
content_measured = measured_vector measured_scalar

content_passes : PassesAt here (spot K false vars) (content 32) 0 (OverData 4224)
content_passes = by_type (f_vec wide_type (elements_typed 33)) (by_width (representable_vector representable_scalar) content_measured)

content_active : IsActive here (spot C true []) (memory 32) (0 ∷ 0 ∷ 0 ∷ 1 ∷ []) (spot K false vars) (content 32)
content_active =
    below (right_side {i = 0} tt refl (signal_port wide representable_scalar))
    (below
    (begins BlockRam 4 3 (OfType (domain 0) ∷ OfType (nat_lit 32) ∷ OfType (nat_lit 6) ∷ OfType wide ∷ OfTerm (content 32) ∷ OfTerm (var 1) ∷ OfTerm (var 0) ∷ []) refl (refl, refl) refl representable_scalar refl)
    at_it)

pub larger_is_blocked : LargerIsBlocked
larger_is_blocked =
    at_place (record { root = []; vars = []; term = memory 32; under = under_none tt; rest = 0 ∷ 0 ∷ 0 ∷ 1 ∷ []; active = content_active; is = refl })
    (by_limit content_passes (λ j k l h. absurd (omega (arith, l))))

-- why that one isn't in normal form
bindings_of : {o : Origins} {e : TermTree} (g : Group) (x : ℕ) → IsCircuitBody o e → e ≡ letrec g (var x) → AreCircuitSides o g
bindings_of g x circuit_variable q = absurd cc
bindings_of {o} g x (circuit_letrec {g = h} sides) q = let same : h ≡ g = cc in subst (AreCircuitSides o) same sides

first_side : {o : Origins} {g : Group} (t : TypeTree) (e : TermTree) (more : Group) → AreCircuitSides o g → g ≡ bind t e more → IsCircuitSide o e
first_side t e more no_circuit_sides q = absurd cc
first_side {o} t e more (circuit_side_and {e = f} p s rest) q = let same : f ≡ e = cc in subst (IsCircuitSide o) same s

no_lifted : {args : List Arg} → LiftedPrim BlockRam args → ⊥
no_lifted (on_made d a b is are) = cc
no_lifted (on_lifted d a b is are l) = cc

width_of_content : {datas : List Data} {args more : List Arg} (d n k a : TypeTree) → CircuitPrim datas BlockRam args → args ≡ OfType d ∷ OfType n ∷ OfType k ∷ OfType a ∷ more → (w : ℕ) × HasWidth datas (content_type n a) w
width_of_content d n k a (as_register e b x is are c) q = absurd cc
width_of_content {datas} d n k a (as_ram {w = w} e m j b x y is are c h) q =
    let length : m ≡ n = cc in
    let word : b ≡ a = cc in
    (w, subst (λ t. HasWidth datas (content_type n t) w) word (subst (λ t. HasWidth datas (content_type t b) w) length h))
width_of_content d n k a (as_synchronizer e f b x is are) q = absurd cc
width_of_content d n k a (as_pure e b is are c) q = absurd cc
width_of_content d n k a (as_lifted l) q = absurd (no_lifted l)

larger_measured : Measured here.program.datas (content_type (nat_lit 32) wide) (too_wide (OverData 4224))
unfolding natural_value
larger_measured = measured_vector measured_scalar

pub larger_is_not_normal : OneMeasure → LargerIsNotNormal
larger_is_not_normal one h =
    let same = one_under h.under (under_none {vars = []} {e = memory 32} {t = reads} tt) in
    let form : IsCircuitBody here (memory 32) = subst (IsCircuitBody here) same.2 h.form in
    let group : Group = bind reads (ram 32) (bind places (var 1) (bind writes (var 0) no_bindings)) in
    let side = first_side reads (ram 32) (bind places (var 1) (bind writes (var 0) no_bindings)) (bindings_of group 2 form refl) refl in
    let args : List Arg = OfType (domain 0) ∷ OfType (nat_lit 32) ∷ OfType (nat_lit 6) ∷ OfType wide ∷ OfTerm (content 32) ∷ OfTerm (var 1) ∷ OfTerm (var 0) ∷ [] in
    let width = width_of_content (domain 0) (nat_lit 32) (nat_lit 6) wide (circuit_prim BlockRam args side refl) refl in
    fits_no_limit width.0 (OverData 4224) (one here.program.datas (content_type (nat_lit 32) wide) (fits width.0) (too_wide (OverData 4224)) width.1 larger_measured)
