-- How many wires the right sides of typed circuits have that copy wires.
use Rattle.std.proofs.Common.{◌≡◌, ◌⊎◌, inl, inr, ℕ, zero, suc, ◌+◌, ◌-◌, ◌<◌, arith, List, [], ◌∷◌, ◌++◌, length, map, Some, refl, sym, ap, ◌∙◌, subst, append_assoc, length-append}
use Rattle.std.specs.List.{slice_get}
use Rattle.std.proofs.lemmas.List.{append-nil}
use Rattle.chw_base.specs.declared.index.ConId.{ConId}
use Rattle.chw_base.specs.declared.index.WireId.{WireId}
use Rattle.chw_types.specs.declared.declarations.Data.{Data}
use Rattle.chw_types.specs.declared.kind.Kind.{Kind}
use Rattle.chw_types.specs.declared.kind.Kind.TheVariants.{Dom, Val}
use Rattle.type_ports.specs.declared.ports.Leaf.{Leaf}
use Rattle.chw_types.specs.Arguments.{arguments}
use Rattle.chw_types.specs.Kinds.{KindsOf, kind_and}
use Rattle.type_ports.specs.Ports.{LeavesOfAll, no_leaves, leaves_and}
use Rattle.chw_types.specs.SameTypes.{SameTypes}
use Rattle.chw_types.specs.TypeMoves.{Substitution, sub}
use Rattle.chw_types.specs.TypeTree.{TypeTree, TypeTrees, no_types, type_and, ty_var, data_of, signal}
use Rattle.chw_types.specs.TypeView.{trees_of}
use Rattle.type_laws.specs.SameKept.{FieldsKeepSame}
use Rattle.chw_terms.specs.Constructors.{Constructor, con_at}
use Rattle.chw_terms.specs.References.{IsField}
use Rattle.chw_terms.specs.declared.scene.Sort.TheVariants.{Circuit}
use Rattle.chw_terms.specs.declared.term.Arg.{Arg}
use Rattle.chw_terms.specs.declared.term.Arg.TheVariants.{OfTerm, OfType}
use Rattle.chw_prims.specs.declared.prim.Primitive.TheVariants.{UnsafeSynchronizer}
use Rattle.chw_terms.specs.declared.term.Pattern.{Pattern}
use Rattle.chw_terms.specs.declared.term.Pattern.TheVariants.{OfCon}
use Rattle.chw_terms.specs.TermTree.{TermTree, var, app, ty_app, con, prim, case_of, no_alts, alt}
use Rattle.chw_terms.specs.TermView.{applied}
use Rattle.chw_typing.specs.HeadTypes.{PatternOf}
use Rattle.chw_typing.specs.Programs.{IsSound}
use Rattle.chw_typing.specs.Scopes.{Setting, HasKind, AreTermTypes, AreSame, with_more}
use Rattle.chw_typing.specs.Typing.{HasType, HasTypeUpTo, h_case, Binds}
use Rattle.chw_layout.specs.Measured.{fits}
use Rattle.layout_laws.specs.SameLayout.{SameKeepsMeasure}
use Rattle.chw_typing.specs.Given.{types_then, AreGiven}
use Rattle.chw_typing.specs.SpineLaws.{ConAtArguments, ConIsSaturated, PrimAtArguments}
use Rattle.net_built.specs.Circuits.{HaveParts, field_wires}
use Rattle.net_built.specs.Data.{HaveWidths, HasParts, port_parts}
use Rattle.net_built.specs.Terms.{operands_of, Variable, wires_at, wires_of_all}
use Rattle.net_built.specs.Wires.{wire_count}
use Rattle.net_grounds.specs.Facts.{Facts}
use Rattle.net_means.proofs.Lists.{turned_onto, same_some}
use Rattle.net_means.proofs.NetFits.Ports.{payloads, parts_kept, count_append, split, con_leaves, pattern_counts, parts_at, field_count, all_counts, signal_part, port_asks}
use Rattle.net_means.proofs.NetFits.Shapes.{names}
use Rattle.net_means.proofs.NetFits.Scopes.{Fits, Found, found, var_at, wires_there, bound_fields}

-- a variable has the wires of the parts of its type
pub record PortHeld (s : Setting) (v : Variable) : Type 0 where
  pub parts : List ℕ
  pub have : HasParts s.datas Circuit v.ty parts
  pub count : length v.wires ≡ wire_count parts

-- so each variable in scope
abbrev pub PortsHeld : Setting → List Variable → Type 0
PortsHeld s scope = (x : ℕ) (v : Variable) → slice_get scope x ≡ Some v → PortHeld s v

module _ (facts : Facts) (keep : FieldsKeepSame) (law : SameKeepsMeasure) (s : Setting) (sound : IsSound s) where
  -- a typed variable has the wires of the parts of a type that is the same up to naturals
  pub port_count : (vars : List TypeTree) (scope : List Variable) (x : ℕ) (t u : TypeTree) (k : Kind) (ws : List ℕ) → Fits vars scope → PortsHeld s scope → HasType s [] vars (var x) u → HasKind s [] t k → SameTypes t u → HasParts s.datas Circuit t ws
      → length (wires_at scope x) ≡ wire_count ws
  port_count vars scope x t u k ws fit held typed kind same has =
      let at = found facts vars scope x u fit (var_at typed) in
      let it = held x at.it at.is in
      let kept = parts_kept facts keep law s sound t at.it.ty ws (record { kind = k; has = kind; same = facts.same.same_through same at.same }) has in
      ap (λ (wires : List WireId). length wires) (wires_there scope x at.it at.is) ∙ it.count ∙ ap (λ ws. wire_count ws) (facts.built.parts_once it.have kept)

-- the fields, with these types put in, have kinds
abbrev pub AllKinded : Setting → Substitution → List TypeTree → Type 0
AllKinded s σ [] = Unit {0}
AllKinded s σ (f ∷ fs) = ((k : Kind) × HasKind s [] (sub f σ) k) × AllKinded s σ fs

pub all_kinded : Facts → (s : Setting) → IsSound s → (d : ℕ) (it : Data) (ts : TypeTrees) (fs : List TypeTree) → slice_get s.datas d ≡ Some it → KindsOf s.datas s.domains [] ts it.params → ((i : ℕ) (f : TypeTree) → slice_get fs i ≡ Some f → IsField it f) → AllKinded s (arguments ts) fs
all_kinded facts s sound d it ts [] known kinds fields = tt
all_kinded facts s sound d it ts (f ∷ fs) known kinds fields =
    let k = facts.kinds.field_kind s sound d it ts f known (fields 0 f refl) kinds in
    ((k.0, k.2), all_kinded facts s sound d it ts fs known kinds (λ i g e. fields (suc i) g e))

pub fields_kinded : Facts → (s : Setting) → IsSound s → (c : ℕ) (it : Constructor) (ts : TypeTrees) → con_at s.datas c ≡ Some it → KindsOf s.datas s.domains [] ts it.it.params → AllKinded s (arguments ts) it.decl.fields
fields_kinded facts s sound c it ts known kinds =
    let is = facts.constructors.is_constructor s.datas c it known in
    all_kinded facts s sound it.of it.it ts it.decl.fields is.data_type kinds (λ i f e. record { con = is.place; of = it.decl; is_con = is.decl; at = i; is_field = e })

-- given to fields, variables have the wires of the fields' parts
given_count : Facts → FieldsKeepSame → SameKeepsMeasure → (s : Setting) → IsSound s → (vars : List TypeTree) (scope : List Variable) → Fits vars scope → PortsHeld s scope → {fs : List TypeTree} {σ : Substitution} {ls : List Leaf} → LeavesOfAll s.datas fs σ ls → (xs ws : List ℕ) → AllKinded s σ fs → AreGiven s [] vars (map (λ f. sub f σ) fs) (names xs) → HaveWidths s.datas (payloads ls) ws
    → length (wires_of_all scope (names xs)) ≡ wire_count ws
given_count facts keep law s sound vars scope fit held no_leaves [] [] kinded given h = refl
given_count facts keep law s sound vars scope fit held no_leaves [] (w ∷ ws) kinded given h = absurd h
given_count facts keep law s sound vars scope fit held no_leaves (x ∷ xs) ws kinded given h = absurd given
given_count facts keep law s sound vars scope fit held (leaves_and a b) [] ws kinded given h = absurd given
given_count facts keep law s sound vars scope fit held {σ = σ} (leaves_and {f = f} {ls = ls} {ms = ms} a b) (x ∷ xs) ws kinded given h =
    let parts = split s.datas ls ms ws h in
    let one = port_count facts keep law s sound vars scope x (sub f σ) given.0.type kinded.0.0 parts.first fit held given.0.has kinded.0.1 given.0.same (port_parts a parts.have) in
    let rest = given_count facts keep law s sound vars scope fit held b xs parts.rest kinded.1 given.1 parts.others in
    length-append (wires_at scope x) (wires_of_all scope (names xs)) ∙ (λ i. one i + rest i) ∙ sym (count_append parts.first parts.rest) ∙ ap (λ ws. wire_count ws) (sym parts.are)

-- how many arguments are types, and how many are terms
abbrev pub type_count : List Arg → ℕ
type_count [] = 0
type_count (OfType t ∷ args) = suc (type_count args)
type_count (OfTerm e ∷ args) = type_count args

abbrev pub term_count : List Arg → ℕ
term_count [] = 0
term_count (OfType t ∷ args) = term_count args
term_count (OfTerm e ∷ args) = suc (term_count args)

pub types_counted : (types : List TypeTree) (es : List TermTree) → type_count (types_then types es) ≡ length types
types_counted [] [] = refl
types_counted [] (e ∷ es) = types_counted [] es
types_counted (t ∷ types) es = ap suc (types_counted types es)

pub terms_counted : (types : List TypeTree) (es : List TermTree) → term_count (types_then types es) ≡ length es
terms_counted [] [] = refl
terms_counted [] (e ∷ es) = ap suc (terms_counted [] es)
terms_counted (t ∷ types) es = terms_counted types es

-- the operands of a head on types and terms
pub operands_then : (f : TermTree) (types : List TypeTree) (es : List TermTree) → operands_of (applied f (types_then types es)) ≡ operands_of f ++ es
operands_then f [] [] = sym (append-nil (operands_of f))
operands_then f [] (e ∷ es) = operands_then (app f e) [] es ∙ append_assoc (operands_of f) (e ∷ []) es
operands_then f (t ∷ types) es = operands_then (ty_app f t) types es

-- the operands of a product have the wires of its parts
pub product_count : Facts → FieldsKeepSame → SameKeepsMeasure → ConAtArguments → ConIsSaturated → (s : Setting) → IsSound s → (vars : List TypeTree) (scope : List Variable) (c : ℕ) (it : Constructor) (types : List TypeTree) (xs : List ℕ) (t u : TypeTree) (k : Kind) (ws : List ℕ)
    → Fits vars scope → PortsHeld s scope → AreTermTypes s [] vars → con_at s.datas c ≡ Some it → HasType s [] vars (applied (con c) (types_then types (names xs))) u → HasKind s [] t k → SameTypes t u → HasParts s.datas Circuit t ws
    → length (wires_of_all scope (names xs)) ≡ wire_count ws
product_count facts keep law arguments_law saturated s sound vars scope c it types xs t u k ws fit held scoped known typed kind same has =
    let all = saturated s [] vars c it (types_then types (names xs)) u sound scoped known typed (port_asks facts has u same) in
    let are : types_then types (names xs) ≡ types_then all.0.types all.0.es =
    all.0.are ∙ ap (λ more. types_then all.0.types all.0.es ++ more) all.1 ∙ append-nil (types_then all.0.types all.0.es) in
    let on_types : length types ≡ length it.it.params = sym (types_counted types (names xs)) ∙ ap (λ args. type_count args) are ∙ types_counted all.0.types all.0.es ∙ all.0.on_types in
    let on_terms : length (names xs) ≡ length it.decl.fields = sym (terms_counted types (names xs)) ∙ ap (λ args. term_count args) are ∙ terms_counted all.0.types all.0.es ∙ all.0.on_terms in
    let at = arguments_law s [] vars c it types (names xs) u sound scoped known on_types on_terms typed in
    let whole : HasParts s.datas Circuit (data_of it.of (trees_of types)) ws =
    parts_kept facts keep law s sound t (data_of it.of (trees_of types)) ws (record { kind = k; has = kind; same = facts.same.same_through same (facts.same.same_turned at.2) }) has in
    of_leaves whole (fields_kinded facts s sound c it (trees_of types) known at.0) at.1
  where
    of_leaves : {ts : TypeTrees} → HasParts s.datas Circuit (data_of it.of ts) ws → AllKinded s (arguments ts) it.decl.fields → AreGiven s [] vars (map (λ f. sub f (arguments ts)) it.decl.fields) (names xs) → length (wires_of_all scope (names xs)) ≡ wire_count ws
    of_leaves (port_parts l h) kinded given = given_count facts keep law s sound vars scope fit held (con_leaves facts s.datas c it.of it known refl l) xs ws kinded given h

-- the variable is one of the new ones, or one of those outside
abbrev pub NewOrOuter : List TypeTree → List TypeTree → ℕ → TypeTree → Type 0
NewOrOuter ts vs x t = ((j : ℕ) × (x + suc j ≡ length ts) × (slice_get ts j ≡ Some t)) ⊎ ((y : ℕ) × (x ≡ y + length ts) × (slice_get vs y ≡ Some t))

pub new_or_outer : (ts vs : List TypeTree) (x : ℕ) (t : TypeTree) → slice_get (with_more ts vs) x ≡ Some t → NewOrOuter ts vs x t
new_or_outer [] vs x t e = inr (x, omega arith, e)
new_or_outer (u ∷ ts) vs x t e = next (new_or_outer ts (u ∷ vs) x t (subst (λ us. slice_get us x ≡ Some t) (turned_onto u ts vs) e))
  where
    next : NewOrOuter ts (u ∷ vs) x t → NewOrOuter (u ∷ ts) vs x t
    next (inl (j, size, found)) = inl (suc j, omega (arith, size), found)
    next (inr (zero, size, found)) = inl (zero, omega (arith, size), found)
    next (inr (suc y, size, found)) = inr (y, omega (arith, size), found)

pub new_one : (ts vs : List TypeTree) (x : ℕ) (t : TypeTree) → x < length ts → NewOrOuter ts vs x t → (j : ℕ) × (x + suc j ≡ length ts) × (slice_get ts j ≡ Some t)
new_one ts vs x t l (inl h) = h
new_one ts vs x t l (inr h) = let place = h.1 in absurd (omega (arith, l, place))

-- a typed case with one alternative
record OneCase (s : Setting) (vars : List TypeTree) (x : ℕ) (q : Pattern) (e : TermTree) (t : TypeTree) : Type 0 where
  pub of : TypeTree
  pub is : slice_get vars x ≡ Some of
  pub kind : Kind
  pub has : HasKind s [] of kind
  pub bnd : List TypeTree
  pub binding : Binds s [] of q bnd
  pub typed : HasType s [] (with_more bnd vars) e t

one_case : {s : Setting} {vars : List TypeTree} {x : ℕ} {q : Pattern} {e : TermTree} {t : TypeTree} → HasType s [] vars (case_of (var x) (alt q e no_alts)) t → OneCase s vars x q e t
one_case (h_case {bound = bnd} {u = u} {j = j} of looked kind b typed of_kind functions more hidden) = record { of = u; is = var_at of; kind = j; has = kind; bnd = bnd; binding = b; typed = typed }

same_found : {scope : List Variable} {x : ℕ} {t : TypeTree} {it : Variable} → Found scope x t → slice_get scope x ≡ Some it → SameTypes t it.ty
same_found {t = t} {it = it} f e = let is : f.it ≡ it = same_some f.is e in subst (λ (v : Variable). SameTypes t v.ty) is f.same

-- the field that a projection takes has the wires of its parts
pub projection_count : Facts → FieldsKeepSame → SameKeepsMeasure → (s : Setting) → IsSound s → (vars : List TypeTree) (scope : List Variable) (x count z : ℕ) (c : ConId) (it : Variable) (fields : List TypeTree) (parts : List (List ℕ)) (t u : TypeTree) (k : Kind) (ws : List ℕ)
    → Fits vars scope → PortsHeld s scope → z < count → slice_get scope x ≡ Some it → PatternOf s.datas it.ty (OfCon c count) fields → HaveParts s.datas fields parts → HasType s [] vars (case_of (var x) (alt (OfCon c count) (var z) no_alts)) u → HasKind s [] t k → SameTypes t u → HasParts s.datas Circuit t ws
    → length (field_wires (count - 1 - z) parts it.wires) ≡ wire_count ws
projection_count facts keep law s sound vars scope x count z c it fields parts t u k ws fit held less is pattern have typed kind same has =
    let one = one_case typed in
    let of : SameTypes one.of it.ty = same_found (found facts vars scope x one.of fit one.is) is in
    let same_fields : AreSame one.bnd fields = bound_fields facts s one.of it.ty (OfCon c count) fields one.bnd one.kind sound one.has of one.binding pattern in
    let counted : length one.bnd ≡ count = facts.patterns.binds one.binding in
    let place = new_one one.bnd vars z u (omega (arith, less, counted)) (new_or_outer one.bnd vars z u (var_at one.typed)) in
    let at = place.1 in
    let field = facts.scopes.same_at one.bnd fields place.0 u same_fields place.2 in
    let part = parts_at s.datas fields parts place.0 field.0 have field.1 in
    let kept = parts_kept facts keep law s sound t field.0 ws (record { kind = k; has = kind; same = facts.same.same_through same field.2 }) has in
    let width : part.0 ≡ ws = facts.built.parts_once part.2 kept in
    let number : count - 1 - z ≡ place.0 = omega (arith, at, counted) in
    let h = held x it is in
    let total : length it.wires ≡ all_counts parts = h.count ∙ pattern_counts facts parts pattern h.have have in
    ap (λ j. length (field_wires j parts it.wires)) number ∙ field_count place.0 parts it.wires part.0 part.1 total ∙ ap (λ ws. wire_count ws) width

third_kind : (s : Setting) {d b a : TypeTree} {i j k : Kind} → KindsOf s.datas s.domains [] (type_and d (type_and b (type_and a no_types))) (i ∷ j ∷ k ∷ []) → HasKind s [] a k
third_kind s (kind_and p (kind_and q (kind_and r n))) = r

-- a signal that crosses into another domain has the wires of its parts
pub crossing_count : Facts → FieldsKeepSame → SameKeepsMeasure → PrimAtArguments → (s : Setting) → IsSound s → (vars : List TypeTree) (scope : List Variable) (d b a : TypeTree) (x : ℕ) (t u : TypeTree) (k : Kind) (ws : List ℕ)
    → Fits vars scope → PortsHeld s scope → AreTermTypes s [] vars → HasType s [] vars (applied (prim UnsafeSynchronizer) (types_then (d ∷ b ∷ a ∷ []) (var x ∷ []))) u → HasKind s [] t k → SameTypes t u → HasParts s.datas Circuit t ws
    → length (wires_at scope x) ≡ wire_count ws
unfolding sub
crossing_count facts keep law prims s sound vars scope d b a x t u k ws fit held scoped typed kind same has =
    let all = prims s [] vars UnsafeSynchronizer (Dom ∷ Dom ∷ Val ∷ []) (signal (ty_var 2) (ty_var 0) ∷ []) (signal (ty_var 1) (ty_var 0)) (d ∷ b ∷ a ∷ []) (var x ∷ []) u sound scoped refl refl refl typed in
    let gives : SameTypes (signal b a) u = all.gives in
    let whole : HasParts s.datas Circuit (signal b a) ws = parts_kept facts keep law s sound t (signal b a) ws (record { kind = k; has = kind; same = facts.same.same_through same (facts.same.same_turned gives) }) has in
    let wide = signal_part whole in
    let given : HasTypeUpTo s [] vars (var x) (signal d a) = all.args_given.0 in
    let at = found facts vars scope x given.type fit (var_at given.has) in
    let form = facts.same.as_signal (facts.same.same_through given.same at.same) in
    let it = held x at.it at.is in
    let narrow = signal_part (subst (λ t. HasParts s.datas Circuit t it.parts) form.2 it.have) in
    let carried = law (fits wide.0) s a form.1 sound (record { kind = Val; has = third_kind s all.have; same = form.4 }) wide.1 in
    let width : narrow.0 ≡ wide.0 = facts.widths.width_once narrow.1 carried in
    ap (λ (wires : List WireId). length wires) (wires_there scope x at.it at.is) ∙ it.count ∙ ap (λ ws. wire_count ws) (narrow.2 ∙ ap (λ w. w ∷ []) width ∙ sym wide.2)
