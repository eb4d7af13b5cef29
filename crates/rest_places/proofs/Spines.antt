-- Terms whose types take no arguments, by their heads.
use Rattle.std.proofs.Common.{◌≡◌, ◌∙◌, refl, sym, ap, subst, ℕ, List, [], ◌∷◌, ◌++◌, length, ◌≤◌, ◌+◌, arith, Bool, Some}
use Rattle.std.proofs.lemmas.List.{append-nil}
use Rattle.chw_types.specs.declared.kind.Kind.{Kind}
use Rattle.chw_types.specs.declared.kind.Scalar.{Scalar}
use Rattle.chw_types.specs.SameTypes.{SameTypes}
use Rattle.chw_types.specs.TypeMoves.{Substitution, sub}
use Rattle.chw_types.specs.TypeTree.{TypeTree, data_of, fun, for_all, ty_var, nat_lit, vector}
use Rattle.chw_types.proofs.SameLaws.{same_turned}
use Rattle.type_laws.proofs.SameForms.{as_function, as_bound}
use Rattle.chw_prims.specs.declared.prim.Primitive.{Primitive as Prim}
use Rattle.chw_prims.specs.Schemas.{schema_type, row_of, row_type}
use Rattle.chw_prims.specs.declared.row.Row.{Row}
use Rattle.chw_prims.specs.declared.row.Row.TheVariants.{Binary, WideSum, WideProduct, Unary, Shift, Compare, Extend, Truncate, Cut, Joined, Reduce, Packed, Unpacked, Mapping, Applying, Constant, Delay, Memory, Crossing, Element, ElementAt, Replaced, Mapped, Zipped, FoldedLeft, FoldedRight, Generated, Replicated, Appended, Concatenated, Taken, Dropped, Reversed, Rotated}
use Rattle.chw_terms.specs.declared.term.Arg.{Arg}
use Rattle.chw_terms.specs.declared.term.Arg.TheVariants.{OfTerm, OfType}
use Rattle.chw_terms.specs.Constructors.{Constructor, con_at}
use Rattle.chw_terms.specs.TermTree.{TermTree, lam, ty_lam, con, prim, lit, vec_lit, Terms, alt}
use Rattle.chw_terms.specs.TermView.{applied}
use Rattle.chw_terms.specs.Unrolled.{parameters}
use Rattle.chw_terms.proofs.Spines.{applied_more}
use Rattle.chw_typing.specs.Given.{types_then, AsksForNone, Takes, IsSaturated}
use Rattle.chw_typing.specs.HeadTypes.{for_each, from_each, con_type, variables, literal_type, widest}
use Rattle.chw_typing.specs.Programs.{IsSound}
use Rattle.chw_typing.specs.Scopes.{Setting, AreTermTypes, IsTermType}
use Rattle.chw_typing.specs.TypedSpines.{AtArguments, at_none, at_term, at_type}
use Rattle.chw_typing.specs.Typing.{HasType, AllHave, count, h_var, h_global, h_made, h_lam, h_app, h_ty_lam, h_ty_app, h_letrec, h_con, h_prim, h_lit, h_vec, h_case}
use Rattle.chw_typing.proofs.Asked.{spine_takes, con_takes}
use Rattle.chw_typing.proofs.Saturated.{con_at_arguments, prim_at_arguments}
use Rattle.chw_typing.proofs.TypedSpines.{HeadTyped, head_typed, spine_typed}
use Rattle.rewriting.specs.Spots.{asked_for}
use Rattle.rest_places.specs.Spines.{param_kinds, result_of, IsTypeVariable, IsSpine, on_variable, on_global, on_made, on_lambda, on_type_lambda, on_letrec, on_case, on_constructor, on_primitive, on_literal, on_vector}

-- the type of a primitive, by its parameters and its result
pub row_parts : (row : Row) → row_type row ≡ for_each (param_kinds (row_type row)) (from_each (parameters (row_type row)) (result_of (row_type row)))
row_parts (Binary x) = refl
row_parts (WideSum x) = refl
row_parts (WideProduct x) = refl
row_parts (Unary x) = refl
row_parts (Shift x) = refl
row_parts (Compare x) = refl
row_parts (Extend x) = refl
row_parts (Truncate x) = refl
row_parts Cut = refl
row_parts Joined = refl
row_parts Reduce = refl
row_parts (Packed x) = refl
row_parts (Unpacked x) = refl
row_parts Mapping = refl
row_parts Applying = refl
row_parts Constant = refl
row_parts Delay = refl
row_parts Memory = refl
row_parts Crossing = refl
row_parts (Element k) = refl
row_parts ElementAt = refl
row_parts Replaced = refl
row_parts (Mapped k) = refl
row_parts (Zipped k) = refl
row_parts (FoldedLeft k) = refl
row_parts (FoldedRight k) = refl
row_parts (Generated k) = refl
row_parts (Replicated k) = refl
row_parts (Appended k) = refl
row_parts (Concatenated k) = refl
row_parts (Taken k) = refl
row_parts (Dropped k) = refl
row_parts (Reversed k) = refl
row_parts (Rotated k) = refl

pub prim_parts : (p : Prim) → schema_type p ≡ for_each (param_kinds (schema_type p)) (from_each (parameters (schema_type p)) (result_of (schema_type p)))
prim_parts p = row_parts (row_of p)

-- how many arguments a primitive and a constructor take
arity_of : (ks : List Kind) (ps : List TypeTree) (r : TypeTree) → asked_for r ≡ 0 → asked_for (for_each ks (from_each ps r)) ≡ length ks + length ps
arity_of [] [] r e = e
arity_of [] (a ∷ ps) r e = let rest = arity_of [] ps r e in omega (arith, rest)
arity_of (k ∷ ks) ps r e = let rest = arity_of ks ps r e in omega (arith, rest)

result_arity : (t : TypeTree) → asked_for (result_of t) ≡ 0
result_arity (for_all k t) = result_arity t
result_arity (fun a b) = result_arity b
result_arity _ = refl

pub prim_arity : (p : Prim) → asked_for (schema_type p) ≡ length (param_kinds (schema_type p)) + length (parameters (schema_type p))
prim_arity p = let t = schema_type p in ap asked_for (prim_parts p) ∙ arity_of (param_kinds t) (parameters t) (result_of t) (result_arity t)

pub con_arity : (it : Constructor) → asked_for (con_type it) ≡ length it.it.params + length it.decl.fields
con_arity it = arity_of it.it.params it.decl.fields (data_of it.of (variables (length it.it.params))) refl

-- the type of a result takes no arguments
pub result_asks_none : (t : TypeTree) → AsksForNone (result_of t)
result_asks_none (for_all k t) = result_asks_none t
result_asks_none (fun a b) = result_asks_none b
result_asks_none _ = tt

-- nor does it where types are put, but for a variable
pub put_asks_none : (t : TypeTree) (σ : Substitution) → AsksForNone t → (IsTypeVariable t → ⊥) → AsksForNone (sub t σ)
unfolding sub
put_asks_none (ty_var x) σ o n = absurd (n tt)
put_asks_none (fun a b) σ o n = absurd o
put_asks_none (for_all k t) σ o n = absurd o
put_asks_none _ σ o n = tt

-- nor does what is the same
pub same_asks_none : (t u : TypeTree) → SameTypes t u → AsksForNone t → AsksForNone u
same_asks_none t (fun a b) x o = subst AsksForNone (as_function (same_turned x)).2 o
same_asks_none t (for_all k u) x o = subst AsksForNone (as_bound (same_turned x)).1 o
same_asks_none t _ x o = tt

-- a term whose type takes no arguments has none
pub record TakesNone (args : List Arg) (u t : TypeTree) : Type 0 where
  pub none : args ≡ []
  pub same : u ≡ t

pub takes_none : {s : Setting} {vars : List TypeTree} {u t : TypeTree} {args : List Arg} → AtArguments s [] vars u args t → AsksForNone u → TakesNone args u t
takes_none at_none o = record { none = refl; same = refl }
takes_none (at_term d x r) o = absurd o
takes_none (at_type k x l r) o = absurd o

-- a lambda has an argument
lambda_spine : {s : Setting} {vars : List TypeTree} {b u t : TypeTree} {e : TermTree} {args : List Arg} → AsksForNone t → HasType s [] vars (lam b e) (fun b u) → AtArguments s [] vars (fun b u) args t → IsSpine s vars t (applied (lam b e) args)
lambda_spine asks d at_none = absurd asks
lambda_spine {b = b} {e = e} asks d (at_term {a = a} {args = rest} f x r) = on_lambda b e a rest (h_app d f x) r

type_lambda_spine : {s : Setting} {vars : List TypeTree} {k : Kind} {u t : TypeTree} {e : TermTree} {args : List Arg} → AsksForNone t → HasType s [] vars (ty_lam k e) (for_all k u) → AtArguments s [] vars (for_all k u) args t → IsSpine s vars t (applied (ty_lam k e) args)
type_lambda_spine asks d at_none = absurd asks
type_lambda_spine {k = k} {e = e} asks d (at_type {a = a} {args = rest} l x m r) = on_type_lambda k e a rest (h_ty_app d l x m) r

module _ (s : Setting) (sound : IsSound s) (vars : List TypeTree) (typed : AreTermTypes s [] vars) (t : TypeTree) (asks : AsksForNone t) where
  con_spine : (c : ℕ) (it : Constructor) (args : List Arg) → con_at s.datas c ≡ Some it → HasType s [] vars (applied (con c) args) t → IsSpine s vars t (applied (con c) args)
  con_spine c it args is d =
      let own = con_takes s [] vars c it args t sound typed is d asks in
      let types = own.0.types in
      let es = own.0.es in
      let same : args ≡ types_then types es = own.0.are ∙ ap (λ more. types_then types es ++ more) own.1 ∙ append-nil (types_then types es) in
      let has = subst (λ args. HasType s [] vars (applied (con c) args) t) same d in
      let at = con_at_arguments s [] vars c it types es t sound typed is own.0.on_types own.0.on_terms has in
      subst (λ args. IsSpine s vars t (applied (con c) args)) (sym same)
      (on_constructor c types es (record { is = is; on_types = own.0.on_types; on_terms = own.0.on_terms; kinds = at.0; fields = at.1; gives = at.2 }))

  prim_spine : (p : Prim) (args : List Arg) → HasType s [] vars (applied (prim p) args) t → IsSpine s vars t (applied (prim p) args)
  prim_spine p args d =
      subst (λ e. IsSpine s vars t e) (sym split)
      (on_primitive p own.types own.es own.more
      (record {
        on_types = own.on_types;
        on_terms = own.on_terms;
        type = behind.0;
        has = behind.1;
        saturated = at;
        leads = behind.2;
        alone = λ n. (takes_none behind.2 (same_asks_none _ behind.0 at.gives (put_asks_none gives _ (result_asks_none (schema_type p)) n))).none;
      }))
    where
      ks : List Kind
      ks = param_kinds (schema_type p)

      ps : List TypeTree
      ps = parameters (schema_type p)

      gives : TypeTree
      gives = result_of (schema_type p)

      own : Takes (length ks) (length ps) args
      own = spine_takes s [] vars (prim p) ks ps gives args t sound typed (subst (HasType s [] vars (prim p)) (prim_parts p) h_prim) d asks

      front : TermTree
      front = applied (prim p) (types_then own.types own.es)

      split : applied (prim p) args ≡ applied front own.more
      split = ap (applied (prim p)) own.are ∙ applied_more (prim p) (types_then own.types own.es) own.more

      behind : HeadTyped s [] vars front own.more t
      behind = head_typed s [] vars front own.more t (subst (λ e. HasType s [] vars e t) split d)

      at : IsSaturated s [] vars ks ps gives own.types own.es behind.0
      at = prim_at_arguments s [] vars p ks ps gives own.types own.es behind.0 sound typed (prim_parts p) own.on_types own.on_terms behind.1

  literal_spine : (r : Scalar) (bits : List Bool) (args : List Arg) → length bits ≤ widest → AtArguments s [] vars (literal_type r bits) args t → IsSpine s vars t (applied (lit r bits) args)
  literal_spine r bits args l d =
      let own = takes_none d tt in
      subst (λ args. IsSpine s vars t (applied (lit r bits) args)) (sym own.none) (on_literal r bits l own.same)

  vector_spine : (u : TypeTree) (es : Terms) (args : List Arg) → IsTermType s [] u → AllHave s [] vars u es → AtArguments s [] vars (vector (nat_lit (count es)) u) args t → IsSpine s vars t (applied (vec_lit u es) args)
  vector_spine u es args l have d =
      let own = takes_none d tt in
      subst (λ args. IsSpine s vars t (applied (vec_lit u es) args)) (sym own.none) (on_vector u es l have own.same)

  spine_on : {e : TermTree} {u : TypeTree} (args : List Arg) → HasType s [] vars e u → AtArguments s [] vars u args t → IsSpine s vars t (applied e args)
  spine_on args (h_var {x = x} is) r = on_variable x args is r
  spine_on args (h_global {d = d} is) r = on_global d args is r
  spine_on args (h_made {m = m} is) r = on_made m args is r
  spine_on args (h_lam d l) r = lambda_spine asks (h_lam d l) r
  spine_on args (h_app {e = a} d f x) r = spine_on (OfTerm a ∷ args) d (at_term f x r)
  spine_on args (h_ty_lam d) r = type_lambda_spine asks (h_ty_lam d) r
  spine_on args (h_ty_app {a = a} d l x m) r = spine_on (OfType a ∷ args) d (at_type l x m r)
  spine_on args (h_letrec {g = g} {e = e} d l b) r = on_letrec g e args (h_letrec d l b) r
  spine_on args (h_con {c = c} {it = it} is) r = con_spine c it args is (spine_typed r (con c) (h_con is))
  spine_on args (h_prim {p = p}) r = prim_spine p args (spine_typed r (prim p) h_prim)
  spine_on args (h_lit {r = r} {bits = bits} l) d = literal_spine r bits args l d
  spine_on args (h_vec {t = u} {es = es} l have) d = vector_spine u es args l have d
  spine_on args (h_case {q = q} {more = more} {e = e} {f = f} d i l b h m a o n) r = on_case e (alt q f more) args (h_case d i l b h m a o n) r

-- a term whose type takes no arguments, by its head
pub spine_view : (s : Setting) (vars : List TypeTree) (e : TermTree) (t : TypeTree) → IsSound s → AreTermTypes s [] vars → HasType s [] vars e t → AsksForNone t → IsSpine s vars t e
spine_view s vars e t sound typed d asks = spine_on s sound vars typed t asks [] d at_none
