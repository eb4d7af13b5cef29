-- Bodies of typed made definitions in which no rule acts and that nothing blocks: below their leading lambdas there is a place at rest.
use Rattle.std.proofs.Common.{◌≡◌, ◌<◌, sym, ap, subst, refl, true, ℕ, suc, List, [], ◌∷◌, ◌++◌, length, replicate, arith, Some}
use Rattle.std.specs.List.{AllByRecursion}
use Rattle.chw_types.specs.declared.declarations.Data.{Data}
use Rattle.chw_types.specs.TypeTree.{TypeTree, fun}
use Rattle.chw_types.proofs.SameLaws.{same_turned, same_through}
use Rattle.type_laws.specs.SameKept.{FieldsKeepSame}
use Rattle.type_ports.specs.declared.ports.Leaf.{Leaf}
use Rattle.type_ports.specs.Ports.{Leaves, one_leaf, leaves_of_fields}
use Rattle.type_ports.specs.Representable.{Representable, representable_scalar, representable_vector, representable_data}
use Rattle.chw_layout.specs.Refusals.{OneMeasure, RepresentableIsMeasured}
use Rattle.layout_laws.specs.SameLayout.{SameKeepsMeasure}
use Rattle.chw_terms.specs.References.{DataRefers}
use Rattle.chw_terms.specs.TermTree.{TermTree, lam}
use Rattle.chw_terms.specs.declared.rule.Rule.{Rule}
use Rattle.chw_terms.specs.declared.scene.Mode.{Mode}
use Rattle.chw_terms.specs.declared.scene.Mode.TheVariants.{V, C, HV, HC, K}
use Rattle.chw_terms.specs.declared.scene.Sort.{Sort}
use Rattle.chw_terms.specs.declared.scene.Sort.TheVariants.{Value, Circuit}
use Rattle.chw_typing.specs.Given.{AsksForNone}
use Rattle.chw_typing.specs.HeadTypes.{from_each}
use Rattle.chw_typing.specs.Paths.{part_at}
use Rattle.chw_typing.specs.Programs.{IsSound}
use Rattle.chw_typing.specs.Scopes.{IsTermType}
use Rattle.chw_typing.specs.Typing.{HasType, HasTypeUpTo}
use Rattle.chw_typing.proofs.Complete.{part_complete}
use Rattle.chw_typing.proofs.ContextPlaces.{around_is_part}
use Rattle.chw_typing.proofs.Kinded.{function_parts}
use Rattle.chw_typing.proofs.Typed.{part_typed}
use Rattle.chw_typing.proofs.TypedFound.{typed_found}
use Rattle.graph_order.specs.References.{HasNoCycle}
use Rattle.normal_forms.specs.Blocked.{Block, limit, by_type, IsBlocked, at_place, at_lambda}
use Rattle.normal_forms.specs.Normal.{HasForm, HoldsWidths, IsNormalBody}
use Rattle.normal_forms.proofs.Plain.{AllParts, part_holds}
use Rattle.normal_laws.proofs.Alike.{like_passes_none}
use Rattle.normal_laws.proofs.Typed.{under_typed, result_kind}
use Rattle.rewriting.specs.Active.{at_it, IsPlaceOf}
use Rattle.rewriting.specs.Instances.{HasInstance}
use Rattle.rewriting.specs.Named.{IsNamed, mode_of, LeadsToNamed, to_named, from_named, UnderLambdas, under_none, under_one}
use Rattle.rewriting.specs.Origins.{MadeOf, Origins, setting_at}
use Rattle.rewriting.specs.SceneLaws.{NamedIsDecided, SameKeepsNamed}
use Rattle.rewriting.specs.Spots.{Spot, spot}
use Rattle.rewriting.specs.Typed.{IsTypedMade}
use Rattle.rewriting.proofs.Around.{place_around}
use Rattle.rest_places.specs.Chains.{MadeAreNamed}
use Rattle.rest_places.specs.Rest.{IsRestPlace, ground}
use Rattle.rest_places.proofs.Sizes.{no_limit}
use Rattle.ended_laws.specs.Circuits.{CircuitBodiesStand}
use Rattle.ended_laws.specs.Values.{BlocksStand}
use Rattle.ended_laws.proofs.Closed.{closed_types}
use Rattle.ended_laws.proofs.Declared.{Declares, block_declares, circuit_declares}
use Rattle.ended_laws.proofs.Held.{held}

-- the laws that are cited
pub record Laws : Type 0 where
  pub decided : NamedIsDecided
  pub kept : SameKeepsNamed
  pub keep : FieldsKeepSame
  pub there : RepresentableIsMeasured
  pub one : OneMeasure
  pub measure : SameKeepsMeasure
  pub blocks : BlocksStand
  pub bodies : CircuitBodiesStand

-- a typed made definition with a body in which no rule has an instance, and that nothing blocks
pub record IsEnded (o : Origins) (it : MadeOf) (body : TermTree) : Type 0 where
  pub sound : IsSound (setting_at o)
  pub acyclic : HasNoCycle (DataRefers o.program.datas)
  pub made : MadeAreNamed o
  pub typed : IsTypedMade o it body
  pub still : (path : List ℕ) (to : Spot) (x new : TermTree) (r : Rule) → IsPlaceOf o it body path to x → HasInstance o to r x new → ⊥
  pub free : (path : List ℕ) (b : Block) → IsBlocked o it body path b → ⊥

-- named types take no arguments
value_asks_none : {datas : List Data} {t : TypeTree} → Representable datas t → AsksForNone t
value_asks_none representable_scalar = tt
value_asks_none (representable_vector r) = tt
value_asks_none (representable_data i n all) = tt

port_asks_none : {datas : List Data} {t : TypeTree} {ls : List Leaf} → Leaves datas t ls → AsksForNone t
port_asks_none (one_leaf r) = tt
port_asks_none (leaves_of_fields i n j k a) = tt

named_asks_none : (datas : List Data) (mode : Mode) (t : TypeTree) → IsNamed datas mode t → AsksForNone t
named_asks_none datas V t n = value_asks_none n
named_asks_none datas HV t n = value_asks_none n
named_asks_none datas C t n = port_asks_none n.1
named_asks_none datas HC t n = port_asks_none n.1
named_asks_none datas K t n = absurd n

-- a type that leads to a named one: its parameters and its result
record Led (datas : List Data) (mode : Mode) (t : TypeTree) : Type 0 where
  params : List TypeTree
  result : TypeTree
  gives : t ≡ from_each params result
  named : IsNamed datas mode result
  asks_none : AsksForNone result

led : {datas : List Data} {mode : Mode} {t : TypeTree} → LeadsToNamed datas mode t → Led datas mode t
led {datas} {mode} (to_named {t = t} n) = record { params = []; result = t; gives = refl; named = n; asks_none = named_asks_none datas mode t n }
led (from_named {a = a} n more) =
    let rest = led more in
    record { params = a ∷ rest.params; result = rest.result; gives = ap (fun a) rest.gives; named = rest.named; asks_none = rest.asks_none }

-- the modes of bodies are their own ground
ground_of_sort : (sort : Sort) → ground (mode_of sort) ≡ mode_of sort
ground_of_sort Value = refl
ground_of_sort Circuit = refl

-- the types of the leading lambdas are named
lambdas_named : SameKeepsNamed → (o : Origins) (mode : Mode) → IsSound (setting_at o) → {vars vs : List TypeTree} {e x : TermTree} {t : TypeTree} {p : List ℕ} → UnderLambdas vars e t p vs x → LeadsToNamed o.program.datas mode t → IsTermType (setting_at o) [] t
    → AllByRecursion (IsNamed o.program.datas mode) vars → AllByRecursion (IsNamed o.program.datas mode) vs
lambdas_named kept o mode sound (under_none a) leads k h = h
lambdas_named kept o mode sound (under_one s u) (to_named {t = t} n) k h = absurd (named_asks_none o.program.datas mode t n)
lambdas_named kept o mode sound (under_one {a = a} {b = b} s u) (from_named n more) k h =
    let parts = function_parts k.has in
    lambdas_named kept o mode sound u more (record { kind = k.kind; has = parts.2; of_terms = k.of_terms })
    (kept (setting_at o) mode b a parts.0 sound parts.1 (same_turned s) n, h)

-- what a body declares: the types of its leading lambdas, and what is declared below them
lambdas_declare : (P : TypeTree → Type 0) {vars vs : List TypeTree} {e x : TermTree} {t : TypeTree} {p : List ℕ} → UnderLambdas vars e t p vs x
    → ((i : ℕ) (a : TypeTree) (f : TermTree) → i < length p → part_at e (replicate i 0) ≡ Some (lam a f) → P a) → AllParts (Declares P) x → AllParts (Declares P) e
lambdas_declare P (under_none a) h all = all
lambdas_declare P (under_one {a = a} {e = e} s u) h all =
    ((h 0 a e (omega arith) refl, tt), lambdas_declare P u (λ i b f less is. h (suc i) b f (omega (arith, less)) is) all)

module _ (laws : Laws) (o : Origins) where
  -- what is below the leading lambdas is of the form, and holds its widths
  form_stands : (sort : Sort) (vars : List TypeTree) (e : TermTree) (t : TypeTree) → MadeAreNamed o → IsRestPlace o (spot (mode_of sort) true vars) e t → IsNamed o.program.datas (mode_of sort) t → HasForm o sort vars e
  form_stands Value vars e t made p n = laws.blocks o (spot V true vars) e t made refl refl p n
  form_stands Circuit vars e t made p n = laws.bodies o (spot C true vars) e t made refl refl p n

  form_declares : (sort : Sort) (vars : List TypeTree) (e : TermTree) (t : TypeTree) → IsRestPlace o (spot (mode_of sort) true vars) e t → HasForm o sort vars e → AllParts (Declares (HoldsWidths o.program.datas)) e
  form_declares Value vars e t p form = block_declares laws.decided laws.kept laws.there o form (record { at = spot V true vars; type = t; mode = refl; rest = p })
  form_declares Circuit vars e t p form = circuit_declares laws.decided laws.kept laws.there o form p

  module _ (it : MadeOf) (body : TermTree) (h : IsEnded o it body) where
    root_named : AllByRecursion (IsNamed o.program.datas (mode_of it.sort)) h.typed.body_leads.vars
    root_named = lambdas_named laws.kept o (mode_of it.sort) h.sound h.typed.body_leads.under h.typed.named h.typed.closed tt

    root_at_rest : (t : TypeTree) → HasType (setting_at o) [] h.typed.body_leads.vars h.typed.body_leads.body t → IsRestPlace o (spot (mode_of it.sort) true h.typed.body_leads.vars) h.typed.body_leads.body t
    root_at_rest t has =
        let leads = h.typed.body_leads in
        let place : IsPlaceOf o it body (leads.path ++ []) (spot (mode_of it.sort) true leads.vars) leads.body =
        record { root = leads.path; vars = leads.vars; term = leads.body; under = leads.under; rest = []; active = at_it; is = refl } in
        let around = place_around o it body leads.body (leads.path ++ []) (spot (mode_of it.sort) true leads.vars) h.sound h.typed.body_typed place in
        record {
          place = record { sound = h.sound; vars = (part_typed around h.sound tt h.typed.body_typed.type h.typed.body_typed.has).0 };
          acyclic = h.acyclic;
          has = has;
          complete = part_complete (leads.path ++ []) o.program.datas body leads.body h.typed.body_complete (around_is_part around);
          named = subst (λ m. AllByRecursion (IsNamed o.program.datas m) leads.vars) (sym (ground_of_sort it.sort)) root_named;
          rest = record {
            still = λ path to x new r active has. h.still (leads.path ++ path) to x new r (record { root = leads.path; vars = leads.vars; term = leads.body; under = leads.under; rest = path; active = active; is = refl }) has;
            free = λ path to x b active blocks. h.free (leads.path ++ path) b (at_place (record { root = leads.path; vars = leads.vars; term = leads.body; under = leads.under; rest = path; active = active; is = refl }) blocks);
          };
        }

    -- the root with its type, which is the result's up to naturals
    root_typed : (to : Led o.program.datas (mode_of it.sort) it.ty) → HasTypeUpTo (setting_at o) [] h.typed.body_leads.vars h.typed.body_leads.body to.result
    root_typed to = under_typed h.typed.body_leads.under h.typed.body_typed.type h.typed.body_typed.has h.typed.body_typed.same to.params to.result to.gives to.asks_none

    result_is_type : (to : Led o.program.datas (mode_of it.sort) it.ty) → IsTermType (setting_at o) [] to.result
    result_is_type to = result_kind (setting_at o) to.params to.result (subst (IsTermType (setting_at o) []) to.gives h.typed.closed)

    result_holds : (to : Led o.program.datas (mode_of it.sort) it.ty) → HoldsWidths o.program.datas to.result
    result_holds to =
        let root = root_typed to in
        let kind = result_is_type to in
        let rest = root_at_rest root.type root.has in
        let found = typed_found h.typed.body_leads.body root.has h.sound rest.place.vars in
        let own = held laws.there o.program.datas found.type (λ l over. no_limit o (spot (mode_of it.sort) true h.typed.body_leads.vars) h.typed.body_leads.body root.type rest 0 l (by_type found.is over)) in
        held laws.there o.program.datas to.result
        (λ l over. like_passes_none (setting_at o) h.sound laws.keep laws.one laws.measure found.type to.result l own (record { kind = kind.kind; has = kind.has; same = same_through root.same found.same }) over)

    -- so the body is in normal form
    pub ended_is_normal : IsNormalBody o it body
    ended_is_normal =
        let leads = h.typed.body_leads in
        let to = led h.typed.named in
        let root = root_typed to in
        let kind = result_is_type to in
        let rest = root_at_rest root.type root.has in
        let named = laws.kept (setting_at o) (mode_of it.sort) to.result root.type kind.kind h.sound kind.has root.same to.named in
        let form = form_stands it.sort leads.vars leads.body root.type h.made rest named in
        let all = lambdas_declare (HoldsWidths o.program.datas) leads.under
        (λ i a f less is. held laws.there o.program.datas a (λ l over. h.free (replicate i 0) (limit l) (at_lambda leads.under less is over)))
        (form_declares it.sort leads.vars leads.body root.type rest form) in
        record {
          typed = h.typed.body_typed;
          complete = h.typed.body_complete;
          closed = closed_types (setting_at o) [] body h.typed.body_typed.type h.typed.body_typed.has;
          path = leads.path;
          vars = leads.vars;
          inner = leads.body;
          under = leads.under;
          named = root_named;
          form = form;
          widths = λ path x is. part_holds (Declares (HoldsWidths o.program.datas)) path body x all is;
          params = to.params;
          result = to.result;
          gives = to.gives;
          result_named = to.named;
          result_width = result_holds to;
        }
