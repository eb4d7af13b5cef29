-- The parameters of an instance and the operands of its use: each parameter has the wires that stand in
-- the place of those of its operand.
use Rattle.std.specs.Prelude.{option_map, unwrap_or}
use Rattle.std.proofs.Common.{List, Some, [], ap, append_assoc, arith, inl, inr, length, length-append, refl, subst, suc, sym, ℕ, ◌++◌, ◌+◌, ◌<◌, ◌∙◌, ◌∷◌, ◌≡◌, ◌≤◌, ◌⊎◌}
use Rattle.std.proofs.lemmas.Bool.{cases_lt}
use Rattle.std.specs.Prelude.{slice_get}
use Rattle.chw_types.specs.Kinds.{kind_signal}
use Rattle.net_grounds.specs.Facts.{Facts}
use Rattle.net_means.proofs.Lists.{found_before_map, found_in_map}
use Rattle.net_means.proofs.NetFits.Calls.{any_kept}
use Rattle.net_means.proofs.NetFits.Ports.{signal_part}
use Rattle.chw_typing.specs.Given.{AreGiven}
use Rattle.net_means.proofs.NetBits.Lifts.{AreLifted, LiftedAt, lifted_at}
use Rattle.chw_typing.specs.Scopes.{AreSame, HasKind, IsTermType}
use Rattle.chw_terms.specs.declared.scene.Sort.TheVariants.{Circuit, Value}
use Rattle.chw_types.specs.declared.declarations.Data.{Data}
use Rattle.net_means.specs.CircuitBits.Instances.{Design, Parameters, no_parameter, parameter_and}
use Rattle.chw_terms.specs.TermTree.{Group, var}
use Rattle.net_means.proofs.NetBits.Forms.{GroupFormed, setting, value_parts}
use Rattle.net_built.specs.Data.{HasParts}
use Rattle.chw_typing.specs.Typing.{HasTypeUpTo}
use Rattle.use_laws.specs.ValueIn.{HasUseAt}
use Rattle.chw_layout.specs.Measured.{HasWidth, fits}
use Rattle.chw_types.specs.declared.kind.Kind.{Kind}
use Rattle.net_means.proofs.NetBits.Context.{Laws, variable_typed}
use Rattle.netlist.specs.declared.net.Module.{Module}
use Rattle.netlist.specs.declared.net.Net.{Net}
use Rattle.chw_types.specs.SameTypes.{SameTypes}
use Rattle.chw_terms.specs.declared.scene.Sort.{Sort}
use Rattle.chw_meaning.specs.Values.{Thunks, closed}
use Rattle.chw_types.specs.TypeTree.{TypeTree, no_types, signal}
use Rattle.net_means.specs.CircuitBits.Uses.{UsedAt}
use Rattle.chw_types.specs.declared.kind.Kind.TheVariants.{Val}
use Rattle.net_built.specs.Terms.{Variable, variable, wires_at, wires_of_all}
use Rattle.chw_base.specs.declared.index.WireId.{WireId}
use Rattle.carrying.specs.TermLaws.{each_closed}
use Rattle.net_means.proofs.NetBits.Standing.{formed}
use Rattle.net_means.proofs.NetBits.Params.{given_at}
use Rattle.net_means.proofs.SideBits.Heads.{names}
use Rattle.net_built.specs.Wires.{new_wires, wire_count}
use Rattle.net_means.specs.SideBits.Sides.{types_in}
use Rattle.net_means.proofs.NetFits.Scopes.{var_at}

after_params : {datas : List Data} {sort : Sort} {n : ℕ} {params : List TypeTree} {scope all : List Variable} → Parameters datas sort n params scope all → (i : ℕ) → slice_get all (length params + i) ≡ slice_get scope i
after_params {all = all} no_parameter i = let e : 0 + i ≡ i = omega arith in ap (slice_get all) e
after_params {all = all} (parameter_and {ts = ts} parts more) i =
    let e : suc (length ts) + i ≡ length ts + suc i = omega arith in
    ap (slice_get all) e ∙ after_params more (suc i)

-- the operand of one parameter
pub record Operand (datas : List Data) (sort : Sort) (n : ℕ) (params : List TypeTree) (outer : List Variable) (xs : List ℕ) (z : ℕ) (v : Variable) : Type 0 where
  pub j : ℕ
  pub x : ℕ
  pub at : slice_get xs j ≡ Some x
  pub type : slice_get params j ≡ Some v.ty
  pub place : z + suc j ≡ length params
  pub widths : List ℕ
  pub parts : HasParts datas sort v.ty widths
  pub front : List WireId
  pub back : List WireId
  pub split : wires_of_all outer (names xs) ≡ front ++ (wires_at outer x ++ back)
  pub own : v.wires ≡ new_wires (n + length front) widths

-- each operand has as many wires as the parts of its parameter
abbrev pub Counts : List Data → Sort → List TypeTree → List Variable → List ℕ → Type 0
Counts datas sort params outer xs =
    (j x : ℕ) (t : TypeTree) (ws : List ℕ) → slice_get xs j ≡ Some x → slice_get params j ≡ Some t → HasParts datas sort t ws → length (wires_at outer x) ≡ wire_count ws

pub operand_of : {datas : List Data} {sort : Sort} {n : ℕ} {params : List TypeTree} {scope all : List Variable} (outer : List Variable) → Parameters datas sort n params scope all → (xs : List ℕ) → length params ≡ length xs → Counts datas sort params outer xs → (z : ℕ) (v : Variable) → slice_get all z ≡ Some v → z < length params
    → Operand datas sort n params outer xs z v
operand_of outer no_parameter xs many counts z v e l = absurd (omega (arith, l))
operand_of outer (parameter_and parts more) [] many counts z v e l = absurd (omega (arith, many))
operand_of {datas} {sort} {n} {all = all} outer (parameter_and {t = t} {ts = ts} {widths = widths} {scope = scope} parts more) (x ∷ xs) many counts z v e l =
    by (cases_lt z (length ts)) (λ less. operand_of outer more xs (omega (arith, many)) (λ j y u ws at is has. counts (suc j) y u ws at is has) z v e less)
  where
    by : (z < length ts) ⊎ (length ts ≤ z) → (z < length ts → Operand datas sort (n + wire_count widths) ts outer xs z v) → Operand datas sort n (t ∷ ts) outer (x ∷ xs) z v
    by (inl less) deeper =
        let o = deeper less in
        let first : length (wires_at outer x) ≡ wire_count widths = counts 0 x t widths refl refl parts in
        let long : length (wires_at outer x ++ o.front) ≡ length (wires_at outer x) + length o.front = length-append (wires_at outer x) o.front in
        let number : n + wire_count widths + length o.front ≡ n + length (wires_at outer x ++ o.front) = omega (arith, first, long) in
        let place = o.place in
        record {
          j = suc o.j;
          x = o.x;
          at = o.at;
          type = o.type;
          place = omega (arith, place);
          widths = o.widths;
          parts = o.parts;
          front = wires_at outer x ++ o.front;
          back = o.back;
          split = ap (λ ws. wires_at outer x ++ ws) o.split ∙ sym (append_assoc (wires_at outer x) o.front (wires_at outer o.x ++ o.back));
          own = o.own ∙ ap (λ k. new_wires k o.widths) number;
        }
    by (inr more_or) deeper =
        let here : z ≡ length ts + 0 = omega (arith, l, more_or) in
        let there : Some v ≡ Some (variable t (new_wires n widths)) = sym e ∙ ap (slice_get all) here ∙ after_params more 0 in
        let is : variable t (new_wires n widths) ≡ v = cc in
        let number : n ≡ n + 0 = omega arith in
        subst (λ v. Operand datas sort n (t ∷ ts) outer (x ∷ xs) z v) is
        (record {
          j = 0;
          x = x;
          at = refl;
          type = refl;
          place = omega (arith, here);
          widths = widths;
          parts = parts;
          front = [];
          back = wires_of_all outer (names xs);
          split = refl;
          own = ap (λ k. new_wires k widths) number;
        })

-- a use whose operands stand in these three parts
abbrev pub split_use : {net : Net} {path : List ℕ} {reads drives : List WireId} {inner : Module} (at : UsedAt net path reads drives inner) (parts : List WireId) → reads ≡ parts → UsedAt net path parts drives inner
split_use {net} {path} {drives = drives} at parts e = record { place = at.place; stands = subst (λ ws. HasUseAt net path at.place ws drives) e at.stands; is = at.is }

-- a variable that is typed
pub record TypedName (d : Design) (scope : List Variable) (x : ℕ) (t : TypeTree) : Type 0 where
  pub it : Variable
  pub known : slice_get scope x ≡ Some it
  pub typed : IsTermType (setting d) [] it.ty
  pub same : SameTypes it.ty t

pub typed_name : Facts → (d : Design) {sort : Sort} {g : Group} {scope : List Variable} → GroupFormed d sort g scope → (x : ℕ) (t : TypeTree) → HasTypeUpTo (setting d) [] (types_in scope) (var x) t → TypedName d scope x t
typed_name facts d {scope = scope} formed x t given =
    let there = found_before_map (λ (v : Variable). v.ty) scope x given.type (var_at given.has) in
    record {
      it = there.0;
      known = there.1;
      typed = variable_typed facts d formed x there.0 there.1;
      same = subst (λ u. SameTypes u t) (sym there.2) (facts.same.same_turned given.same);
    }

pub wires_found : (scope : List Variable) (x : ℕ) (v : Variable) → slice_get scope x ≡ Some v → wires_at scope x ≡ v.wires
wires_found scope x v e = ap (λ o. unwrap_or (option_map (λ (v : Variable). v.wires) o) []) e

-- the parts of the parameter are those of the operand
pub call_parts : Facts → (laws : Laws) (d : Design) {sort : Sort} {g : Group} {scope : List Variable} → GroupFormed d sort g scope → (x : ℕ) (t : TypeTree) (ws : List ℕ) (n : TypedName d scope x t) → HasParts d.program.datas sort t ws → HasParts d.program.datas sort n.it.ty ws × (length n.it.wires ≡ wire_count ws)
call_parts facts laws d {sort} formed x t ws n parts =
    let held = formed.held x n.it n.known in
    let kept = any_kept facts laws.keep laws.measure (setting d) d.sound n.it.ty t held.0 (record { kind = n.typed.kind; has = n.typed.has; same = n.same }) held.1 in
    let same = facts.built.parts_once kept parts in
    (subst (λ ws. HasParts d.program.datas sort n.it.ty ws) same held.1, held.2 ∙ ap (λ ws. wire_count ws) same)

pub call_counts : Facts → (laws : Laws) (d : Design) {sort : Sort} {g : Group} {scope : List Variable} → GroupFormed d sort g scope → (xs : List ℕ) (params ps : List TypeTree) → AreSame params ps → AreGiven (setting d) [] (types_in scope) ps (names xs) → Counts d.program.datas sort params scope xs
call_counts facts laws d {scope = scope} formed xs params ps are given j x t ws at is parts =
    let n = typed_name facts d formed x t (given_at facts (setting d) (types_in scope) params ps xs j x t are given at is) in
    ap (λ (ws : List WireId). length ws) (wires_found scope x n.it n.known) ∙ (call_parts facts laws d formed x t ws n parts).1

-- of a lift the parameter is as wide as the payload of the operand
pub record LiftedName (d : Design) (scope : List Variable) (x : ℕ) (t : TypeTree) (w : ℕ) : Type 0 where
  pub it : Variable
  pub known : slice_get scope x ≡ Some it
  pub parts : HasParts d.program.datas Circuit it.ty (w ∷ [])
  pub count : length it.wires ≡ wire_count (w ∷ [])

pub lifted_name : Facts → (laws : Laws) (d : Design) {g : Group} {scope : List Variable} → GroupFormed d Circuit g scope → (x : ℕ) (t : TypeTree) (w : ℕ) → LiftedAt d scope x t → HasWidth d.program.datas t w → LiftedName d scope x t w
lifted_name facts laws d {scope = scope} formed x t w l wide =
    let n = typed_name facts d formed x (signal l.dom l.payload) l.typed in
    let held = formed.held x n.it n.known in
    let form = facts.same.as_signal (facts.same.same_turned n.same) in
    let own = signal_part (subst (λ u. HasParts d.program.datas Circuit u held.0) form.2 held.1) in
    let kinded = payload_kinded (subst (λ u. HasKind (setting d) [] u n.typed.kind) form.2 n.typed.has) in
    let same : SameTypes form.1 t = facts.same.same_through (facts.same.same_turned form.4) l.same in
    let carried = laws.measure (fits own.0) (setting d) form.1 t d.sound (record { kind = Val; has = kinded; same = same }) own.1 in
    let width : own.0 ≡ w = facts.widths.width_once carried wide in
    let all : held.0 ≡ w ∷ [] = own.2 ∙ ap (λ w. w ∷ []) width in
    record {
      it = n.it;
      known = n.known;
      parts = subst (λ ws. HasParts d.program.datas Circuit n.it.ty ws) all held.1;
      count = held.2 ∙ ap (λ ws. wire_count ws) all;
    }
  where
    payload_kinded : {u v : TypeTree} {k : Kind} → HasKind (setting d) [] (signal u v) k → HasKind (setting d) [] v Val
    payload_kinded (kind_signal e f) = f

pub lift_counts : Facts → (laws : Laws) (d : Design) {g : Group} {scope : List Variable} → GroupFormed d Circuit g scope → (xs : List ℕ) (params ts : List TypeTree) → AreSame params ts → AreLifted (setting d) (types_in scope) ts (names xs) → Counts d.program.datas Value params scope xs
lift_counts facts laws d {scope = scope} formed xs params ts are given j x t ws at is parts =
    let part = value_parts parts in
    let n = lifted_name facts laws d formed x t part.0 (lifted_at facts d scope params ts xs j x t are given at is) part.1 in
    ap (λ (ws : List WireId). length ws) (wires_found scope x n.it n.known) ∙ n.count ∙ ap (λ ws. wire_count ws) (sym part.2)

-- the thunk of one operand
pub operand_thunk : (xs : List ℕ) (γ : Thunks) (j x : ℕ) → slice_get xs j ≡ Some x → slice_get (each_closed (names xs) γ no_types) j ≡ Some (closed (var x) γ no_types)
operand_thunk xs γ j x e = found_in_map (λ e. closed e γ no_types) (names xs) j (var x) (found_in_map (λ x. var x) xs j x e)
