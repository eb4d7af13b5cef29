-- The variables in scope in a body in normal form have wires.
use Rattle.std.proofs.Common.{◌≡◌, inl, inr, ℕ, suc, zero, refl, sym, subst, List, [], ◌∷◌, ◌++◌, map, reverse, Some}
use Rattle.std.specs.List.{slice_get, AllByRecursion}
use Rattle.std.proofs.lemmas.List.{reverse-append}
use Rattle.chw_types.specs.declared.kind.Kind.{Kind}
use Rattle.chw_types.specs.declared.declarations.Data.{Data}
use Rattle.chw_types.specs.Arguments.{arguments}
use Rattle.chw_types.specs.Kinds.{KindsOf}
use Rattle.chw_types.specs.SameTypes.{SameTypes}
use Rattle.chw_types.specs.TypeMoves.{sub}
use Rattle.chw_types.specs.TypeTree.{TypeTree, TypeTrees, data_of}
use Rattle.chw_terms.specs.declared.scene.Mode.TheVariants.{V, C}
use Rattle.chw_terms.specs.declared.term.Pattern.{Pattern}
use Rattle.chw_terms.specs.References.{IsField}
use Rattle.chw_terms.specs.TermTree.{TermTree, var}
use Rattle.chw_typing.specs.HeadTypes.{PatternOf, of_con, of_lit, of_any}
use Rattle.chw_typing.specs.Programs.{IsSound}
use Rattle.chw_typing.specs.Scopes.{Setting, HasKind, IsTermType, AreTermTypes, AreSame, with_more, declared}
use Rattle.chw_typing.specs.Typing.{HasType, h_var}
use Rattle.chw_typing.proofs.Heads.{is_constructor}
use Rattle.chw_typing.proofs.Kinded.{typed_at}
use Rattle.chw_typing.proofs.Patterns.{constructor_arguments}
use Rattle.chw_typing.proofs.FieldKinds.{field_kind}
use Rattle.chw_typing.proofs.NamedParts.{fields_representable, fields_ports}
use Rattle.chw_typing.specs.Around.{Around, here, in_lam, in_ty_lam, in_function, in_argument, in_ty_app, in_letrec, in_vector, in_scrutinee, in_branch}
use Rattle.chw_typing.proofs.Typed.{part_typed}
use Rattle.rewriting.specs.SceneLaws.{SameKeepsNamed}
use Rattle.rewriting.specs.Origins.{MadeOf, Origins, setting_at}
use Rattle.rewriting.specs.Shapes.{IsVariable}
use Rattle.normal_forms.specs.Normal.{IsNormalBody}
use Rattle.normal_forms.proofs.FirstOrder.{body_plain}
use Rattle.normal_forms.proofs.Plain.{AllParts, IsWire, IsPlain, element_holds, side_holds, alternative_holds}

all_append : {X : Type 0} (P : X → Type 0) (xs ys : List X) → AllByRecursion P xs → AllByRecursion P ys → AllByRecursion P (xs ++ ys)
all_append P [] ys h k = k
all_append P (x ∷ xs) ys h k = (h.0, all_append P xs ys h.1 k)

all_reversed : {X : Type 0} (P : X → Type 0) (xs : List X) → AllByRecursion P xs → AllByRecursion P (reverse xs)
all_reversed P [] h = tt
all_reversed P (x ∷ xs) h =
    subst (λ ys. AllByRecursion P ys) (sym (reverse-append (x ∷ []) xs)) (all_append P (reverse xs) (x ∷ []) (all_reversed P xs h.1) (h.0, tt))

all_with_more : (datas : List Data) (new vars : List TypeTree) → AllByRecursion (IsWire datas) new → AllByRecursion (IsWire datas) vars → AllByRecursion (IsWire datas) (with_more new vars)
all_with_more datas new vars h k = all_append (IsWire datas) (reverse new) vars (all_reversed (IsWire datas) new h) k

wire_at : (datas : List Data) (vars : List TypeTree) (x : ℕ) (t : TypeTree) → AllByRecursion (IsWire datas) vars → slice_get vars x ≡ Some t → IsWire datas t
wire_at datas [] x t h is = absurd cc
wire_at datas (u ∷ vars) zero t h is = let same : u ≡ t = cc in subst (IsWire datas) same h.0
wire_at datas (u ∷ vars) (suc x) t h is = wire_at datas vars x t h.1 is

-- the fields of a wire are wires
wire_field : {datas : List Data} {d : ℕ} {ts : TypeTrees} (it : Data) (f : TypeTree) → slice_get datas d ≡ Some it → IsField it f → IsWire datas (data_of d ts) → IsWire datas (sub f (arguments ts))
wire_field it f known field (inl r) = inl (fields_representable it f known field r)
wire_field it f known field (inr p) = inr (fields_ports it f known field p)

wire_kept : SameKeepsNamed → (s : Setting) (t u : TypeTree) (k : Kind) → IsSound s → HasKind s [] t k → SameTypes t u → IsWire s.datas t → IsWire s.datas u
wire_kept law s t u k h d x (inl r) = inl (law s V t u k h d x r)
wire_kept law s t u k h d x (inr p) = inr (law s C t u k h d x p)

fields_wires : SameKeepsNamed → (s : Setting) (d : ℕ) (it : Data) (ts : TypeTrees) (fs bound : List TypeTree) → IsSound s → slice_get s.datas d ≡ Some it → KindsOf s.datas s.domains [] ts it.params → IsWire s.datas (data_of d ts) → ((i : ℕ) (f : TypeTree) → slice_get fs i ≡ Some f → IsField it f) → AreSame (map (λ f. sub f (arguments ts)) fs) bound → AllByRecursion (IsWire s.datas) bound
fields_wires law s d it ts [] [] sound known kinds w fields same = tt
fields_wires law s d it ts [] (b ∷ bound) sound known kinds w fields same = absurd same
fields_wires law s d it ts (f ∷ fs) [] sound known kinds w fields same = absurd same
fields_wires law s d it ts (f ∷ fs) (b ∷ bound) sound known kinds w fields same =
    let field = fields 0 f refl in
    let kind = field_kind s sound d it ts f known field kinds in (
      wire_kept law s (sub f (arguments ts)) b kind.0 sound kind.2 same.0 (wire_field it f known field w),
      fields_wires law s d it ts fs bound sound known kinds w (λ i g e. fields (suc i) g e) same.1,
    )

none_bound_wires : (datas : List Data) (bound : List TypeTree) → AreSame [] bound → AllByRecursion (IsWire datas) bound
none_bound_wires datas [] same = tt
none_bound_wires datas (b ∷ bound) same = absurd same

pattern_wires : SameKeepsNamed → (s : Setting) → IsSound s → {u : TypeTree} {q : Pattern} {fields : List TypeTree} (bound : List TypeTree) → PatternOf s.datas u q fields → IsTermType s [] u → IsWire s.datas u → AreSame fields bound → AllByRecursion (IsWire s.datas) bound
pattern_wires law s sound bound (of_con {d = d} {c = c} {ts = ts} it known is n) kind w same =
    let at = is_constructor s.datas c.number it known in
    let data_type : slice_get s.datas d ≡ Some it.it = subst (λ k. slice_get s.datas k ≡ Some it.it) is at.data_type in
    fields_wires law s d it.it ts it.decl.fields bound sound data_type (constructor_arguments s [] c.number d it ts kind.kind known is kind.has) w
    (λ i f e. record { con = at.place; of = it.decl; is_con = at.decl; at = i; is_field = e }) same
pattern_wires law s sound bound (of_lit l e) kind w same = none_bound_wires s.datas bound same
pattern_wires law s sound bound of_any kind w same = none_bound_wires s.datas bound same

var_at : {s : Setting} {kinds : List Kind} {vars : List TypeTree} {x : ℕ} {t : TypeTree} → HasType s kinds vars (var x) t → slice_get vars x ≡ Some t
var_at (h_var is) = is

-- a variable of this type
looked_at : {s : Setting} {kinds : List Kind} {vars : List TypeTree} {u : TypeTree} (e : TermTree) → IsVariable e → HasType s kinds vars e u → (x : ℕ) × (slice_get vars x ≡ Some u)
looked_at (var x) v h = (x, var_at h)
looked_at _ v h = absurd v

names_wires : SameKeepsNamed → {s : Setting} {kinds ks : List Kind} {vars vs : List TypeTree} {e x : TermTree} {p : List ℕ} → Around s kinds vars e p ks vs x → IsSound s → kinds ≡ [] → AreTermTypes s kinds vars → (t : TypeTree) → HasType s kinds vars e t → AllParts (IsPlain s.datas) e → AllByRecursion (IsWire s.datas) vars → AllByRecursion (IsWire s.datas) vs
names_wires law here sound none scope t h plain w = w
names_wires law (in_lam r) sound none scope t h plain w =
    let at = part_typed (in_lam here) sound scope t h in names_wires law r sound none at.0 at.1.0 at.1.1 plain.1 (plain.0.wires.0, w)
names_wires law (in_ty_lam r) sound none scope t h plain w = absurd (plain.0.no_type_lambda tt)
names_wires law (in_function r) sound none scope t h plain w =
    let at = part_typed (in_function here) sound scope t h in names_wires law r sound none at.0 at.1.0 at.1.1 plain.1.0 w
names_wires law (in_argument r) sound none scope t h plain w =
    let at = part_typed (in_argument here) sound scope t h in names_wires law r sound none at.0 at.1.0 at.1.1 plain.1.1 w
names_wires law (in_ty_app r) sound none scope t h plain w =
    let at = part_typed (in_ty_app here) sound scope t h in names_wires law r sound none at.0 at.1.0 at.1.1 plain.1 w
names_wires law {s} {vars = vars} (in_letrec {g = g} {e = e} {b = b} {i = i} known r) sound none scope t h plain w =
    let at = part_typed (in_letrec known here) sound scope t h in
    names_wires law r sound none at.0 at.1.0 at.1.1 (side_holds (IsPlain s.datas) g e i b plain.1.0 plain.1.1 known) (all_with_more s.datas (declared g) vars plain.0.wires w)
names_wires law {s} (in_vector {es = es} {e = e} {i = i} known r) sound none scope t h plain w =
    let at = part_typed (in_vector known here) sound scope t h in names_wires law r sound none at.0 at.1.0 at.1.1 (element_holds (IsPlain s.datas) es i e plain.1 known) w
names_wires law (in_scrutinee r) sound none scope t h plain w =
    let at = part_typed (in_scrutinee here) sound scope t h in names_wires law r sound none at.0 at.1.0 at.1.1 plain.1.0 w
names_wires law {s} {kinds = kinds} {vars = vars} (in_branch {bound = bound} {u = u} {e = e} {alts = alts} {a = a} {i = i} known d b r) sound none scope t h plain w =
    let at = part_typed (in_branch known d b here) sound scope t h in
    let seen = looked_at e plain.0.looks d in
    let kind : IsTermType s [] u = subst (λ k. IsTermType s k u) none (typed_at s kinds vars seen.0 u scope seen.1) in
    let bound_wires = pattern_wires law s sound bound b.pattern kind (wire_at s.datas vars seen.0 u w seen.1) b.same in
    names_wires law r sound none at.0 at.1.0 at.1.1 (alternative_holds (IsPlain s.datas) alts i a plain.1.1 known) (all_with_more s.datas bound vars bound_wires w)

pub body_names : SameKeepsNamed → (o : Origins) (it : MadeOf) (body : TermTree) → IsSound (setting_at o) → IsNormalBody o it body → {kinds : List Kind} {vars : List TypeTree} {x : TermTree} {p : List ℕ} → Around (setting_at o) [] [] body p kinds vars x → AllByRecursion (IsWire o.program.datas) vars
body_names law o it body sound h around = names_wires law around sound refl tt h.typed.type h.typed.has (body_plain o it body h) tt
