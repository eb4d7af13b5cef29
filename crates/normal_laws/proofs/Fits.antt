-- Types with a width, up to naturals, and constants of them.
use Rattle.std.proofs.Common.{◌≡◌, ℕ, zero, suc, ◌≤◌, List, [], ◌∷◌, ◌++◌, map, Some, refl, ap, ◌∙◌, subst, arith}
use Rattle.std.specs.List.{slice_get}
use Rattle.std.proofs.lemmas.List.{append-nil}
use Rattle.chw_base.specs.declared.limits.TheConstants.{DATA_BITS}
use Rattle.chw_types.specs.declared.declarations.Data.{Data}
use Rattle.chw_types.specs.declared.kind.Kind.{Kind}
use Rattle.chw_types.specs.Arguments.{arguments}
use Rattle.type_ports.specs.Representable.{Representable}
use Rattle.chw_types.specs.SameTypes.{SameTypes, SameAll}
use Rattle.chw_types.specs.TypeMoves.{Substitution, sub}
use Rattle.chw_types.specs.TypeTree.{TypeTree, TypeTrees, vector, data_of}
use Rattle.chw_types.specs.TypeView.{trees_of}
use Rattle.chw_types.proofs.SameLaws.{same_turned, same_through}
use Rattle.type_laws.specs.SameKept.{FieldsKeepSame}
use Rattle.type_laws.proofs.SameForms.{as_data}
use Rattle.chw_terms.specs.declared.term.Arg.{Arg}
use Rattle.chw_terms.specs.declared.term.Arg.TheVariants.{OfTerm}
use Rattle.chw_terms.specs.Constructors.{Constructor, con_at}
use Rattle.chw_terms.specs.TermTree.{TermTree, con, vec_lit, Terms, no_terms, term_and}
use Rattle.chw_terms.specs.TermView.{applied}
use Rattle.chw_typing.specs.Programs.{IsSound}
use Rattle.chw_typing.specs.Scopes.{Setting, HasKind, IsTermType, AreTermTypes}
use Rattle.chw_typing.specs.Typing.{HasType, h_vec, AllHave, have_and, HasTypeUpTo}
use Rattle.chw_typing.proofs.Heads.{is_constructor}
use Rattle.chw_typing.proofs.Kinded.{type_kinded}
use Rattle.chw_layout.specs.Measured.{fits, Measured, MeasuredFields, HasWidth}
use Rattle.chw_layout.specs.Refusals.{OneMeasure, RepresentableIsMeasured, MeasuredIsRepresentable}
use Rattle.chw_layout.proofs.Fitting.{element_width, cons_width, con_width, field_width}
use Rattle.layout_laws.specs.SameLayout.{SameKeepsMeasure}
use Rattle.chw_typing.specs.Alike.{AreLike}
use Rattle.chw_typing.specs.Given.{types_then, AreGiven}
use Rattle.chw_typing.specs.Paths.{element_at}
use Rattle.chw_typing.specs.SpineLaws.{ConAtArguments, ConIsSaturated}
use Rattle.chw_typing.proofs.FieldsPut.{AllLike, con_like, fields_like}
use Rattle.chw_typing.proofs.NamedParts.{not_both}
use Rattle.rewriting.specs.Origins.{Origins, setting_at}
use Rattle.normal_forms.specs.Normal.{HoldsWidths}
use Rattle.normal_laws.proofs.Built.{representable_asks_none}
use Rattle.normal_laws.proofs.Forms.{term_given}

-- the laws that are cited
pub record Fitting (o : Origins) : Type 0 where
  pub sound : IsSound (setting_at o)
  pub one : OneMeasure
  pub there : RepresentableIsMeasured
  pub back : MeasuredIsRepresentable
  pub kept : SameKeepsMeasure
  pub keep : FieldsKeepSame
  pub cons : ConAtArguments
  pub saturated : ConIsSaturated

-- the values of the type have a width
abbrev pub HasSomeWidth : List Data → TypeTree → Type 0
HasSomeWidth datas t = (w : ℕ) × HasWidth datas t w

-- the term has a type with a width
pub record Fits (o : Origins) (vars : List TypeTree) (e : TermTree) : Type 0 where
  pub type : TypeTree
  pub has : HasType (setting_at o) [] vars e type
  pub width : HasSomeWidth o.program.datas type

-- the elements of a vector
record VectorTyped (s : Setting) (kinds : List Kind) (vars : List TypeTree) (t u : TypeTree) (es : Terms) : Type 0 where
  length : TypeTree
  is : u ≡ vector length t
  kinded : IsTermType s kinds t
  all : AllHave s kinds vars t es

vector_typed : {s : Setting} {kinds : List Kind} {vars : List TypeTree} {t u : TypeTree} {es : Terms} → HasType s kinds vars (vec_lit t es) u → VectorTyped s kinds vars t u es
vector_typed (h_vec w all) = record { length = _; is = refl; kinded = w; all = all }

element_typed : {s : Setting} {kinds : List Kind} {vars : List TypeTree} {t : TypeTree} (es : Terms) (i : ℕ) (a : TermTree) → AllHave s kinds vars t es → element_at es i ≡ Some a → HasTypeUpTo s kinds vars a t
element_typed no_terms i a all h = absurd cc
element_typed {s} {kinds} {vars} {t} (term_and e es) zero a (have_and {u = u} d x more) h =
    let same : e ≡ a = cc in
    subst (λ b. HasTypeUpTo s kinds vars b t) same (record { type = u; has = d; same = x })
element_typed (term_and e es) (suc i) a (have_and d x more) h = element_typed es i a more h

module _ (o : Origins) (fitting : Fitting o) where
  -- a width that is there holds
  pub width_holds : (t : TypeTree) → HasSomeWidth o.program.datas t → HoldsWidths o.program.datas t
  width_holds t h =
      record { value = λ r. h; leaves = λ ls l leaves among. absurd (not_both (fitting.back o.program.datas t (fits h.0) h.1) (ls, leaves)) }

  -- types that are the same have one width
  pub width_forth : (t u : TypeTree) → AreLike (setting_at o) t u → HasSomeWidth o.program.datas t → HasSomeWidth o.program.datas u
  width_forth t u like h = (h.0, fitting.kept (fits h.0) (setting_at o) t u fitting.sound like h.1)

  pub width_back : (t u : TypeTree) → AreLike (setting_at o) t u → Representable o.program.datas t → HasSomeWidth o.program.datas u → HasSomeWidth o.program.datas t
  width_back t u like r h =
      let own = fitting.there o.program.datas t r in
      let other : Measured o.program.datas u own.0 = fitting.kept own.0 (setting_at o) t u fitting.sound like own.1 in
      (h.0, subst (Measured o.program.datas t) (fitting.one o.program.datas u own.0 (fits h.0) other h.1) own.1)

  pub fits_given : (vars : List TypeTree) (e : TermTree) (t : TypeTree) (k : Kind) → HasKind (setting_at o) [] t k → HasSomeWidth o.program.datas t → HasTypeUpTo (setting_at o) [] vars e t → Fits o vars e
  fits_given vars e t k kind w given =
      record { type = given.type; has = given.has; width = width_forth t given.type (record { kind = k; has = kind; same = given.same }) w }

  pub element_fits : (vars : List TypeTree) (t : TypeTree) (es : Terms) (i : ℕ) (a : TermTree) → Fits o vars (vec_lit t es) → element_at es i ≡ Some a → Fits o vars a
  element_fits vars t es i a f h =
      let parts = vector_typed f.has in
      let w = element_width (subst (λ u. HasWidth o.program.datas u f.width.0) parts.is f.width.1) in
      fits_given vars a t parts.kinded.kind parts.kinded.has (w.a, w.element) (element_typed es i a parts.all h)

  field_fits : (vars : List TypeTree) (σ τ : Substitution) (fs : List TypeTree) (es : List TermTree) (i s : ℕ) (a : TermTree) → AreGiven (setting_at o) [] vars (map (λ f. sub f τ) fs) es → AllLike (setting_at o) σ τ fs → MeasuredFields o.program.datas fs σ (fits s) → s ≤ DATA_BITS
      → slice_get es i ≡ Some a → Fits o vars a
  field_fits vars σ τ [] [] i s a given like m l h = absurd cc
  field_fits vars σ τ [] (e ∷ es) i s a given like m l h = absurd given
  field_fits vars σ τ (f ∷ fs) [] i s a given like m l h = absurd given
  field_fits vars σ τ (f ∷ fs) (e ∷ es) zero s a given like m l h =
      let first = field_width l m in
      let same : e ≡ a = cc in
      let own : HasTypeUpTo (setting_at o) [] vars e (sub f σ) = record { type = given.0.type; has = given.0.has; same = same_through like.0.same given.0.same } in
      subst (Fits o vars) same (fits_given vars e (sub f σ) like.0.kind like.0.has (first.a, first.first) own)
  field_fits vars σ τ (f ∷ fs) (e ∷ es) (suc i) s a given like m l h =
      let first = field_width l m in
      field_fits vars σ τ fs es i first.b a given.1 like.1 first.rest (omega (arith, first.is, l)) h

  -- what a constructor is given
  pub argument_fits : (vars : List TypeTree) (c i : ℕ) (args : List Arg) (it : Constructor) (a : TermTree) → AreTermTypes (setting_at o) [] vars → con_at o.program.datas c ≡ Some it → Fits o vars (applied (con c) args) → slice_get args i ≡ Some (OfTerm a) → Fits o vars a
  argument_fits vars c i args it a typed known f h =
      let none = representable_asks_none (fitting.back o.program.datas f.type (fits f.width.0) f.width.1) in
      let taken = fitting.saturated (setting_at o) [] vars c it args f.type fitting.sound typed known f.has none in
      let types = taken.0.types in
      let es = taken.0.es in
      let are : args ≡ types_then types es = taken.0.are ∙ ap (λ more. types_then types es ++ more) taken.1 ∙ append-nil (types_then types es) in
      let has = subst (λ xs. HasType (setting_at o) [] vars (applied (con c) xs) f.type) are f.has in
      let all = fitting.cons (setting_at o) [] vars c it types es f.type fitting.sound typed known taken.0.on_types taken.0.on_terms has in
      let ts : TypeTrees = trees_of types in
      let of = is_constructor o.program.datas c it known in
      let found = as_data all.2 in
      let back = as_data (subst (λ t. SameTypes t (data_of it.of ts)) found.1 (same_turned all.2)) in
      let both : data_of it.of ts ≡ data_of it.of back.0 = back.1 in
      let same : back.0 ≡ ts = cc in
      let kind = type_kinded f.has fitting.sound typed in
      let kinded = subst (λ t. HasKind (setting_at o) [] t kind.kind) found.1 kind.has in
      let likes = con_like (setting_at o) (arguments found.0) (arguments ts) it.it.cons of.place it.decl of.decl (fields_like (setting_at o) fitting.sound fitting.keep it.of it.it found.0 ts kind.kind of.data_type kinded (subst (SameAll found.0) same back.2)) in
      let whole = cons_width it.it of.data_type (subst (λ t. HasWidth o.program.datas t f.width.0) found.1 f.width.1) in
      let fields = con_width it.it.cons of.place it.decl of.decl whole.cons in
      let among = term_given types es i a (subst (λ xs. slice_get xs i ≡ Some (OfTerm a)) are h) in
      field_fits vars (arguments found.0) (arguments ts) it.decl.fields es among.0 fields.s a all.1 likes fields.fields (omega (arith, fields.within, whole.within, whole.is)) among.1
