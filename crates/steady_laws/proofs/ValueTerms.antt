-- A term of a type of values is steady.
use Rattle.std.specs.Prelude.{Some}
use Rattle.std.specs.List.{slice_get}
use Rattle.std.proofs.Common.{◌≡◌, ℕ, sym, subst, List, []}
use Rattle.chw_types.specs.declared.kind.Kind.{Kind}
use Rattle.chw_types.specs.declared.kind.Kind.TheVariants.{Val}
use Rattle.chw_types.specs.TypeTree.{TypeTree, fun, for_all}
use Rattle.chw_types.specs.TypeMoves.{put_at}
use Rattle.chw_types.specs.Kinds.{HasFunctions}
use Rattle.chw_types.specs.SameTypes.{SameTypes}
use Rattle.chw_types.proofs.KindsFound.{one_kind}
use Rattle.chw_types.proofs.KindsKept.{closed_anywhere}
use Rattle.chw_prims.specs.Schemas.{row_of}
use Rattle.chw_terms.specs.declared.program.Def.{Def}
use Rattle.chw_terms.specs.declared.program.Program.{Program}
use Rattle.chw_terms.specs.TermTree.{TermTree, Terms, Group, Alts}
use Rattle.type_laws.proofs.KindsExact.{put_at_kinds}
use Rattle.type_laws.proofs.OneKind.{same_kind}
use Rattle.chw_typing.specs.Scopes.{Setting, HasKind, AreTermTypes, declared}
use Rattle.chw_typing.specs.Typing.{HasType, h_var, h_global, h_made, h_lam, h_app, h_ty_lam, h_ty_app, h_letrec, h_con, h_prim, h_lit, h_vec, h_case, AreBound, none_bound, bound_and, AllHave, none_have, have_and, AllGive, none_give, give_and}
use Rattle.chw_typing.specs.Programs.{IsSound, IsTyped, setting_of}
use Rattle.chw_typing.specs.Laws.{TypesAreTermTypes}
use Rattle.chw_typing.proofs.Kinded.{typed_more, typed_under, bound_typed}
use Rattle.chw_typing.proofs.Lists.{found_in_map}
use Rattle.chw_typing.proofs.PutKinds.{same_kind_put}
use Rattle.steady_laws.specs.Steady.{IsOfValues, IsSteady, AllAreSteady, GroupIsSteady, AltsAreSteady}
use Rattle.steady_laws.proofs.ValueKinds.{from_values, argument_of_values, result_kind, element_kind, bound_kind, row_of_values}
use Rattle.steady_laws.proofs.Stays.{DefsAreSteady}

-- what the proof takes from below: types of terms have kinds, the setting is sound, and its definitions are the program's
pub record Known (p : Program) (s : Setting) : Type 0 where
  pub kinded : TypesAreTermTypes
  pub sound : IsSound s
  pub defined : (kinds : List Kind) (d : ℕ) (t : TypeTree) → slice_get s.defs d ≡ Some t → HasKind s kinds t Val → (it : Def) → slice_get p.defs d ≡ Some it → IsOfValues p it.ty

of_kind : (s : Setting) (kinds : List Kind) (t : TypeTree) (k : Kind) → HasKind s kinds t k → k ≡ Val → HasKind s kinds t Val
of_kind s kinds t k d e = subst (HasKind s kinds t) e d

-- what is the same as a type of values, and the type of a term, is one of values
same_values : {p : Program} {s : Setting} {kinds : List Kind} {vars : List TypeTree} {e : TermTree} {t u : TypeTree} → Known p s → AreTermTypes s kinds vars → HasType s kinds vars e u → SameTypes t u → HasKind s kinds t Val → HasKind s kinds u Val
same_values {s = s} {kinds = kinds} {vars = vars} {e = e} {u = u} known g d m v =
    let of = known.kinded s kinds vars e u known.sound g d in
    of_kind s kinds u of.kind of.has (sym (same_kind m v of.has))

-- a definition of a type of values
defined_values : (p : Program) → IsSound (setting_of p) → (kinds : List Kind) (d : ℕ) (t : TypeTree) → slice_get (setting_of p).defs d ≡ Some t → HasKind (setting_of p) kinds t Val → (it : Def) → slice_get p.defs d ≡ Some it → IsOfValues p it.ty
defined_values p sound kinds d t e v it f =
    let of = sound.defs d t e in
    let is : of.kind ≡ Val = one_kind (closed_anywhere of.has kinds) v in
    let there : slice_get (setting_of p).defs d ≡ Some it.ty = found_in_map (λ (o : Def). o.ty) p.defs d it f in
    let same : t ≡ it.ty = cc in
    subst (IsOfValues p) same (of_kind (setting_of p) [] t of.kind of.has is)

pub known_of : (p : Program) → TypesAreTermTypes → IsSound (setting_of p) → Known p (setting_of p)
known_of p kinded sound = record { kinded = kinded; sound = sound; defined = defined_values p sound }

mutual
  pub typed_steady : {p : Program} {s : Setting} {kinds : List Kind} {vars : List TypeTree} {e : TermTree} {t : TypeTree} → Known p s → HasType s kinds vars e t → AreTermTypes s kinds vars → HasKind s kinds t Val → IsSteady p e
  typed_steady known (h_var e) g v = tt
  typed_steady {s = s} {kinds = kinds} known (h_global {d = d} {t = t} e) g v = known.defined kinds d t e v
  typed_steady known (h_made e) g v = tt
  typed_steady known (h_lam d l) g v = typed_steady known d (record { kind = Val; has = argument_of_values v; of_terms = tt }, g) (result_kind v)
  typed_steady {s = s} {kinds = kinds} {vars = vars} known (h_app {a = a} {b = b} {f = f} d e m) g v =
      let of = known.kinded s kinds vars f (fun a b) known.sound g d in
      let whole = of_kind s kinds (fun a b) of.kind of.has (one_kind (result_kind of.has) v) in
      (typed_steady known d g whole, typed_steady known e g (same_values known g e m (argument_of_values whole)))
  typed_steady {s = s} {kinds = kinds} {vars = vars} known (h_ty_lam {j = j} d) g v = typed_steady known d (typed_under s kinds j vars g) (bound_kind v)
  typed_steady {s = s} {kinds = kinds} {vars = vars} known (h_ty_app {j = j} {t = t} {a = a} {u = u} {f = f} d l m x) g v =
      let of = known.kinded s kinds vars f (for_all j t) known.sound g d in
      let is = same_kind_put (bound_kind of.has) (put_at 0 a) kinds (put_at_kinds s.datas s.domains [] kinds a j l) u Val m v in
      typed_steady known d g (of_kind s kinds (for_all j t) of.kind of.has (sym is))
  typed_steady {s = s} {kinds = kinds} {vars = vars} known (h_letrec {g = group} d l b) g v =
      let inside = typed_more s kinds (declared group) vars (bound_typed b) g in
      (group_of_values known b (one_kind l v) inside, typed_steady known d inside v)
  typed_steady known (h_con e) g v = tt
  typed_steady known (h_prim {p = q}) g v = row_of_values (row_of q) v
  typed_steady known (h_lit l) g v = tt
  typed_steady known (h_vec l d) g v = all_of_values known d g (element_kind v)
  typed_steady {s = s} {kinds = kinds} {vars = vars} known (h_case {bound = bound} {u = u} {j = j} {k = k} d i l b f m a o n) g v =
      let values : j ≡ Val = from_values j (subst (HasFunctions j) (one_kind m v) a) in
      (typed_steady known d g (of_kind s kinds u j l values), (typed_steady known f (typed_more s kinds bound vars b.typed g) v, alts_of_values known o g v))

  group_of_values : {p : Program} {s : Setting} {kinds : List Kind} {vars : List TypeTree} {k : Kind} {g : Group} → Known p s → AreBound s kinds vars k g → k ≡ Val → AreTermTypes s kinds vars → GroupIsSteady p g
  group_of_values known none_bound is g = tt
  group_of_values {s = s} {kinds = kinds} known (bound_and {j = j} {t = t} d h e m b) is g =
      let values : j ≡ Val = from_values j (subst (HasFunctions j) is h) in
      (typed_steady known e g (same_values known g e m (of_kind s kinds t j d values)), group_of_values known b is g)

  all_of_values : {p : Program} {s : Setting} {kinds : List Kind} {vars : List TypeTree} {t : TypeTree} {es : Terms} → Known p s → AllHave s kinds vars t es → AreTermTypes s kinds vars → HasKind s kinds t Val → AllAreSteady p es
  all_of_values known none_have g v = tt
  all_of_values known (have_and e m d) g v = (typed_steady known e g (same_values known g e m v), all_of_values known d g v)

  alts_of_values : {p : Program} {s : Setting} {kinds : List Kind} {vars : List TypeTree} {u t : TypeTree} {alts : Alts} → Known p s → AllGive s kinds vars u t alts → AreTermTypes s kinds vars → HasKind s kinds t Val → AltsAreSteady p alts
  alts_of_values known none_give g v = tt
  alts_of_values {s = s} {kinds = kinds} {vars = vars} known (give_and {bound = bound} b e m d) g v =
      let inside = typed_more s kinds bound vars b.typed g in
      (typed_steady known e inside (same_values known inside e m v), alts_of_values known d g v)

-- each definition of a type of values has a steady body
pub defs_steady : (p : Program) → Known p (setting_of p) → IsTyped p → DefsAreSteady p
defs_steady p known typed d it i v =
    let has = typed.bodies d it i in
    typed_steady known has.has tt (same_values known tt has.has has.same v)
