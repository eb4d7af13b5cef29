-- What rules make of a case keeps types.
use Rattle.std.proofs.Common.{◌∙◌, ◌≡◌, Bool, List, Some, [], length, map, refl, subst, sym, ℕ}
use Rattle.std.proofs.lemmas.List.{length-map}
use Rattle.std.specs.List.{slice_get}
use Rattle.chw_base.specs.declared.index.ConId.{ConId}
use Rattle.chw_types.proofs.SameLaws.{same_self, same_through, same_turned}
use Rattle.chw_types.specs.Arguments.{arguments}
use Rattle.chw_types.specs.Kinds.{HasFunctions, KindsOf, kind_data}
use Rattle.type_ports.specs.Ports.{IsPort}
use Rattle.chw_types.specs.SameTypes.{SameTypes}
use Rattle.chw_types.specs.TypeMoves.{sub}
use Rattle.chw_types.specs.TypeTree.{TypeTree, data_of}
use Rattle.chw_types.specs.TypeView.{trees_of}
use Rattle.chw_types.specs.declared.kind.Kind.{Kind}
use Rattle.chw_types.specs.declared.kind.Kind.TheVariants.{Cir}
use Rattle.chw_types.specs.declared.kind.Scalar.{Scalar}
use Rattle.type_laws.proofs.OneKind.{same_kind}
use Rattle.chw_terms.specs.Constructors.{Constructor, con_at}
use Rattle.chw_terms.specs.References.{IsField}
use Rattle.chw_terms.specs.TermMoves.{shift}
use Rattle.chw_terms.specs.TermTree.{Alts, Group, TermTree, alt, binders, case_of, con, letrec, lit, no_alts, size_of, var}
use Rattle.chw_terms.specs.TermView.{applied}
use Rattle.chw_terms.specs.Unrolled.{named}
use Rattle.chw_terms.specs.declared.rule.Rule.{Rule}
use Rattle.chw_terms.specs.declared.term.Pattern.{Pattern}
use Rattle.chw_terms.specs.declared.term.Pattern.TheVariants.{Default, OfCon, OfLit}
use Rattle.chw_typing.proofs.Heads.{IsConstructor, is_constructor}
use Rattle.chw_typing.proofs.Kinded.{bound_typed, type_kinded, typed_more}
use Rattle.chw_typing.proofs.Lists.{found_before_map}
use Rattle.chw_typing.proofs.OneType.{one_type}
use Rattle.chw_typing.proofs.Patterns.{binds_same, constructor_arguments, one_pattern}
use Rattle.chw_typing.proofs.Renamed.{declared_length}
use Rattle.chw_typing.proofs.SameScopes.{are_same_self, are_same_turned, same_more}
use Rattle.chw_typing.proofs.TermsPut.{kind_same}
use Rattle.chw_typing.specs.Alternatives.{Hides}
use Rattle.chw_typing.specs.HeadTypes.{IsLookedAt, PatternOf, fields_at, of_any, of_con, of_lit}
use Rattle.chw_typing.specs.Programs.{IsSound}
use Rattle.chw_typing.specs.Scopes.{AreSame, AreTermTypes, HasKind, Setting, declared, with_more}
use Rattle.chw_typing.specs.Typing.{Binds, HasType, HasTypeUpTo, h_case, h_letrec, h_var}
use Rattle.chw_typing.specs.Groups.{each_body}
use Rattle.chw_typing.specs.Paths.{Branch}
use Rattle.chw_typing.proofs.Applied.{functions_compose}
use Rattle.chw_typing.proofs.Lets.{let_typed}
use Rattle.chw_typing.proofs.Saturated.{con_at_arguments}
use Rattle.chw_typing.specs.Given.{AllAllow, AreGiven, types_then}
use Rattle.chw_typing.proofs.NamedKinds.{port_cir}
use Rattle.chw_typing.proofs.NamedParts.{fields_ports}
use Rattle.rewriting.specs.Origins.{Origins}
use Rattle.rewriting.specs.Spots.{Spot}
use Rattle.rewriting.specs.Cases.{OfCases, case_any, case_case, case_con, case_let, case_lit, proj}
use Rattle.rewriting.specs.Shapes.{IsTakenBy, or_body, projections, shift_alts, with_fields}
use Rattle.rule_types.proofs.Bodies.{BodiesBecome, KindsBecome, each_case, or_body_typed, up_to}
use Rattle.rule_types.proofs.Fields.{allowed_typed, con_fields, field_typed, fields_allow}
use Rattle.rule_types.proofs.Projected.{named_typed, projections_typed}
use Rattle.rule_types.proofs.Scrutinees.{CaseTyped, bound_allowed, case_moved, case_typed, let_parts, same_scope, taken_hides, taken_typed, without_names}
use Rattle.rule_types.specs.Laws.{IsTypedPlace, KeepsType}

-- the alternative for a constructor, with the arguments for the names
fields_given : (s : Setting) (vars : List TypeTree) (c : ℕ) (it : Constructor) (types : List TypeTree) (es : List TermTree) (k : Kind) (t : TypeTree) → IsSound s → AreTermTypes s [] vars → con_at s.datas c ≡ Some it → KindsOf s.datas s.domains [] (trees_of types) it.it.params → AreGiven s [] vars (fields_at it (trees_of types)) es → HasFunctions it.it.kind k → HasKind s [] t k → (q : Pattern) (bound : List TypeTree) (e : TermTree) → Hides q (OfCon (record { number = c }) (length es)) → Binds s [] (data_of it.of (trees_of types)) q bound → HasTypeUpTo s [] (with_more bound vars) e t → HasTypeUpTo s [] vars (with_fields q (fields_at it (trees_of types)) es e) t
fields_given s vars c it types es k t h g e kinds given allow kt Default bound a hides b d = without_names b refl d
fields_given s vars c it types es k t h g e kinds given allow kt (OfLit r bits) bound a hides b d = absurd hides
fields_given s vars c it types es k t h g e kinds given allow kt (OfCon c' n) bound a hides b d =
    record {
      type = there.type;
      has = or_body_typed (named ts moved) (let_typed s [] vars ts es k a there.type given all there.has (kind_same s [] t there.type k kt (type_kinded there.has h scope) same));
      same = same;
    }
  where
    ts : List TypeTree
    ts = fields_at it (trees_of types)

    moved : List TermTree
    moved = map (λ a. shift a 0 (length es)) es

    all : AllAllow s [] k ts
    all = fields_allow s c it (trees_of types) k h e kinds allow

    scope : AreTermTypes s [] (with_more ts vars)
    scope = typed_more s [] ts vars (allowed_typed s [] k ts all) g

    fields : AreSame bound ts
    fields =
        are_same_turned ts bound
        (subst (λ fs. AreSame fs bound) (con_fields b.pattern it it.of n (trees_of types) c' refl refl (subst (λ m. con_at s.datas m ≡ Some it) (sym hides) e)).0 b.same)

    there : HasTypeUpTo s [] (with_more ts vars) a d.type
    there = same_scope h (typed_more s [] bound vars b.typed g) (with_more ts vars) scope (same_more bound ts vars vars fields (are_same_self vars)) d.has

    same : SameTypes t there.type
    same = same_through d.same there.same

case_con_typed : {s : Setting} {vars : List TypeTree} {t : TypeTree} {alts : Alts} {b : Branch} (c : ℕ) (it : Constructor) (types : List TypeTree) (es : List TermTree) → IsSound s → AreTermTypes s [] vars → con_at s.datas c ≡ Some it → length types ≡ length it.it.params → length es ≡ length it.decl.fields → IsTakenBy (OfCon (record { number = c }) (length es)) alts b → HasType s [] vars (case_of (applied (con c) (types_then types es)) alts) t → HasTypeUpTo s [] vars (with_fields b.pattern (fields_at it (trees_of types)) es b.body) t
case_con_typed {s} {vars} {t} {b = b} c it types es h g e l m taken d =
    let parts = case_typed d in
    let at = con_at_arguments s [] vars c it types es parts.type h g e l m parts.has in
    let branch = taken_typed taken parts.given_all in
    let whole = data_of it.of (trees_of types) in
    let data_type = (is_constructor s.datas c it e).data_type in
    let has : HasKind s [] whole it.it.kind = kind_data data_type at.0 in
    let same : it.it.kind ≡ parts.kind = same_kind at.2 has parts.has_kind in
    let binds = binds_same branch.binds h parts.kind whole parts.has_kind (same_turned at.2) in
    fields_given s vars c it types es parts.result t h g e at.0 at.1 (subst (λ j. HasFunctions j parts.result) (sym same) parts.allows) parts.has_result
    b.pattern branch.bound b.body (taken_hides taken) binds branch.has

no_names : (q : Pattern) (r : Scalar) (bits : List Bool) → Hides q (OfLit r bits) → binders q ≡ 0
no_names Default r bits h = refl
no_names (OfLit s b) r bits h = refl
no_names (OfCon c n) r bits h = absurd h

case_lit_typed : {s : Setting} {kinds : List Kind} {vars : List TypeTree} {t : TypeTree} {r : Scalar} {bits : List Bool} {alts : Alts} {b : Branch} → IsTakenBy (OfLit r bits) alts b → HasType s kinds vars (case_of (lit r bits) alts) t → HasTypeUpTo s kinds vars b.body t
case_lit_typed {r = r} {bits = bits} {b = b} taken d =
    let branch = taken_typed taken (case_typed d).given_all in
    without_names branch.binds (no_names b.pattern r bits (taken_hides taken)) branch.has

case_any_typed : {s : Setting} {kinds : List Kind} {vars : List TypeTree} {t : TypeTree} {e f : TermTree} → HasType s kinds vars (case_of e (alt Default f no_alts)) t → HasTypeUpTo s kinds vars f t
case_any_typed (h_case d look ku b df kt allow given hidden) = without_names b refl (up_to df)

-- a letrec moves out of a scrutinee
case_let_typed : {s : Setting} {kinds : List Kind} {vars : List TypeTree} {t : TypeTree} {g : Group} {e : TermTree} {alts : Alts} → IsSound s → AreTermTypes s kinds vars → HasType s kinds vars (case_of (letrec g e) alts) t → HasType s kinds vars (letrec g (case_of e (shift_alts alts 0 (size_of g)))) t
case_let_typed {s} {kinds} {vars} {t} {g} {e} {alts} h vs d =
    let parts = case_typed d in
    let inner = let_parts parts.has in
    let scope = typed_more s kinds (declared g) vars (bound_typed inner.sides) vs in
    let same = same_kind (same_self parts.type) inner.has_kind parts.has_kind in
    h_letrec
    (case_moved h d (declared g) (size_of g) (declared_length g) e parts.type inner.body (type_kinded parts.has h vs) (λ u f. one_type f parts.has h vs vs (are_same_self vars)))
    parts.has_result
    (bound_allowed inner.sides parts.result (subst (λ j. HasFunctions j parts.result) (sym same) parts.allows))

-- a case whose type isn't named moves out of a scrutinee
case_case_typed : {s : Setting} {kinds : List Kind} {vars : List TypeTree} {t : TypeTree} {e : TermTree} {inner alts : Alts} → IsSound s → AreTermTypes s kinds vars → HasType s kinds vars (case_of (case_of e inner) alts) t → HasTypeUpTo s kinds vars (case_of e (each_body (λ n f. case_of f (shift_alts alts 0 n)) inner)) t
case_case_typed {s} {kinds} {vars} {t} {e} {inner} {alts} h g d =
    each_case h g parts.has t (λ n f. case_of f (shift_alts alts 0 n)) inside kinds_there
  where
    parts : CaseTyped s kinds vars (case_of e inner) alts t
    parts = case_typed d

    inside : BodiesBecome s kinds vars parts.type t (λ n f. case_of f (shift_alts alts 0 n))
    inside bound n f w l typed df y =
        up_to (case_moved h d bound n l f w df (type_kinded df h (typed_more s kinds bound vars typed g)) (λ u du. same_through (one_type du parts.has h g g (are_same_self vars)) y))

    kinds_there : KindsBecome s kinds parts.type t
    kinds_there i k ku allow =
        let same = same_kind (same_self parts.type) ku parts.has_kind in
        (parts.result, parts.has_result, functions_compose i parts.kind parts.result (subst (HasFunctions i) same allow) parts.allows)

-- what is known of a port's fields
record PortFields (s : Setting) (t : TypeTree) (c : ConId) (n : ℕ) (fields : List TypeTree) : Type 0 where
  pub looked_at : IsLookedAt t
  pub has_kind : HasKind s [] t Cir
  pub each : (i : ℕ) (f : TypeTree) → slice_get fields i ≡ Some f → (k : Kind) × HasKind s [] f k × HasFunctions Cir k
  pub all : (k : Kind) → HasFunctions Cir k → AllAllow s [] k fields
  pub on : length fields ≡ n

port_fields : {s : Setting} {t : TypeTree} {q : Pattern} {fields : List TypeTree} → PatternOf s.datas t q fields → IsSound s → (c : ConId) (n : ℕ) → q ≡ OfCon c n → (j : Kind) → HasKind s [] t j → IsPort s.datas t → PortFields s t c n fields
port_fields {s} (of_con {d = d} {n = m} {c = c'} {ts = ts} it e o l) h c n is j kt port =
    record {
      looked_at = tt;
      has_kind = subst (HasKind s [] (data_of d ts)) cir kt;
      each = each;
      all = λ k allow. fields_allow s c'.number it ts k h e kinds (subst (λ i. HasFunctions i k) (sym of_kind) allow);
      on = length-map it.decl.fields (λ f. sub f (arguments ts)) ∙ l ∙ count;
    }
  where
    cir : j ≡ Cir
    cir = port_cir s h port.1 j kt

    count : m ≡ n
    count = cc

    at : IsConstructor s.datas it
    at = is_constructor s.datas c'.number it e

    data_type : slice_get s.datas d ≡ Some it.it
    data_type = subst (λ n. slice_get s.datas n ≡ Some it.it) o at.data_type

    kinds : KindsOf s.datas s.domains [] ts it.it.params
    kinds = constructor_arguments s [] c'.number d it ts j e o kt

    of_kind : it.it.kind ≡ Cir
    of_kind = same_kind (same_self (data_of d ts)) (kind_data data_type kinds) kt ∙ cir

    each : (i : ℕ) (f : TypeTree) → slice_get (fields_at it ts) i ≡ Some f → (k : Kind) × HasKind s [] f k × HasFunctions Cir k
    each i f g =
        let of = found_before_map (λ f. sub f (arguments ts)) it.decl.fields i f g in
        let typed = field_typed s c'.number it ts h e kinds i of.0 of.1 in
        let field : IsField it.it of.0 = record { con = at.place; of = it.decl; is_con = at.decl; at = i; is_field = of.1 } in
        let part = fields_ports it.it of.0 data_type field port in
        let same : typed.0 ≡ Cir = port_cir s h part.1 typed.0 typed.1 in
        (Cir, subst (λ t. HasKind s [] t Cir) of.2 (subst (HasKind s [] (sub of.0 (arguments ts))) same typed.1), tt)
port_fields (of_lit l e) h c n is j kt port = absurd (cc)
port_fields of_any h c n is j kt port = absurd (cc)

variable_is : {s : Setting} {kinds : List Kind} {vars : List TypeTree} {x : ℕ} {u t : TypeTree} → HasType s kinds vars (var x) u → slice_get vars x ≡ Some t → u ≡ t
variable_is (h_var e) f = cc

proj_typed : {s : Setting} {vars fields : List TypeTree} {x n : ℕ} {c : ConId} {e : TermTree} {more : Alts} {u t : TypeTree} → IsSound s → AreTermTypes s [] vars → slice_get vars x ≡ Some u → IsPort s.datas u → PatternOf s.datas u (OfCon c n) fields → HasType s [] vars (case_of (var x) (alt (OfCon c n) e more)) t → HasTypeUpTo s [] vars (or_body (named fields (projections c n x)) e) t
proj_typed {s} {vars} {fields} {x} {n} {c} {e} {u = u} {t = t} h g found port pattern (h_case {bound = bound} {u = v} {j = j} {k = k} d look kv b df kt allow given hidden) =
    record {
      type = there.type;
      has = or_body_typed (named fields (projections c n x))
          (named_typed fields (projections c n x) k parts (of.all k allows) there.has (kind_same s [] t there.type k kt (type_kinded there.has h scope) there.same));
      same = there.same;
    }
  where
    is : v ≡ u
    is = variable_is d found

    has : HasKind s [] u j
    has = subst (λ w. HasKind s [] w j) is kv

    of : PortFields s u c n fields
    of = port_fields pattern h c n refl j has port

    allows : HasFunctions Cir k
    allows = subst (λ i. HasFunctions i k) (same_kind (same_self u) has of.has_kind) allow

    parts : AreGiven s [] (with_more fields vars) fields (projections c n x)
    parts = projections_typed s vars fields u c x n Cir found of.looked_at of.has_kind pattern (of.all Cir tt) of.each of.on

    scope : AreTermTypes s [] (with_more fields vars)
    scope = typed_more s [] fields vars (allowed_typed s [] k fields (of.all k allows)) g

    fields_are : b.fields ≡ fields
    fields_are = one_pattern b.pattern pattern is refl

    bound_same : AreSame bound fields
    bound_same = are_same_turned fields bound (subst (λ fs. AreSame fs bound) fields_are b.same)

    there : HasTypeUpTo s [] (with_more fields vars) e t
    there = same_scope h (typed_more s [] bound vars b.typed g) (with_more fields vars) scope (same_more bound fields vars vars bound_same (are_same_self vars)) df

pub cases_keep : (o : Origins) (at : Spot) → IsTypedPlace o at → {r : Rule} {e e' : TermTree} → OfCases o at r e e' → KeepsType o at e e'
cases_keep o at h (case_con c {it = it} types es e l m taken) t d = case_con_typed c it types es h.sound h.vars e l m taken d
cases_keep o at h (case_lit taken) t d = case_lit_typed taken d
cases_keep o at h case_any t d = case_any_typed d
cases_keep o at h case_let t d = up_to (case_let_typed h.sound h.vars d)
cases_keep o at h (case_case has unnamed) t d = case_case_typed h.sound h.vars d
cases_keep o at h (proj mode found port pattern none other) t d = proj_typed h.sound h.vars found port pattern d
