-- An operand that gets a name: what this makes keeps types and complete terms.
use Rattle.std.proofs.Common.{◌∙◌, ◌∷◌, ◌≡◌, List, Some, [], ap, length, refl, set, subst, suc, sym, zero, ℕ}
use Rattle.std.proofs.lemmas.List.{length-map}
use Rattle.std.specs.List.{slice_get}
use Rattle.chw_types.proofs.SameLaws.{same_self}
use Rattle.chw_types.specs.Kinds.{HasFunctions, IsOfTerms, kind_vector}
use Rattle.chw_types.specs.SameTypes.{SameTypes}
use Rattle.chw_types.specs.TypeMoves.{Renaming, raised}
use Rattle.chw_types.specs.TypeTree.{TypeTree, vector}
use Rattle.chw_types.specs.declared.declarations.Data.{Data}
use Rattle.chw_types.specs.declared.kind.Kind.{Kind}
use Rattle.chw_types.specs.declared.kind.Kind.TheVariants.{Cir, Val}
use Rattle.type_laws.proofs.OneKind.{same_kind}
use Rattle.chw_terms.specs.TermMoves.{rename, rename_all, shift}
use Rattle.chw_terms.specs.TermTree.{Alts, TermTree, Terms, bind, case_of, con, global, letrec, made, no_bindings, no_terms, prim, term_and, var, vec_lit}
use Rattle.chw_terms.specs.TermView.{applied}
use Rattle.chw_terms.specs.declared.rule.Rule.{Rule}
use Rattle.chw_terms.specs.declared.rule.Rule.TheVariants.{Anf}
use Rattle.chw_terms.specs.declared.term.Arg.{Arg}
use Rattle.chw_terms.specs.declared.term.Arg.TheVariants.{OfTerm}
use Rattle.chw_typing.proofs.Kinded.{type_kinded}
use Rattle.chw_typing.proofs.Lists.{found_in_map}
use Rattle.chw_typing.proofs.OneType.{one_type}
use Rattle.chw_typing.proofs.SameScopes.{are_same_self}
use Rattle.chw_typing.proofs.TermsPut.{kind_same}
use Rattle.chw_typing.specs.Programs.{IsComplete, IsSound}
use Rattle.chw_typing.specs.Scopes.{AreTermTypes, HasKind, IsTermType, Setting}
use Rattle.chw_typing.specs.Typing.{AllHave, HasType, HasTypeUpTo, bound_and, h_letrec, h_var, h_vec, have_and, none_bound, none_have}
use Rattle.chw_typing.proofs.Exchanged.{spine_renamed}
use Rattle.chw_typing.specs.Groups.{rename_arg}
use Rattle.chw_typing.proofs.PathParts.{part_below}
use Rattle.chw_typing.proofs.PathSpines.{spine_argument, with_spine_argument}
use Rattle.chw_typing.specs.Paths.{argument_path, element_at, part_at, with_part}
use Rattle.chw_typing.proofs.Complete.{part_complete, plug_complete}
use Rattle.chw_typing.proofs.Plugged.{plugged}
use Rattle.chw_typing.specs.Around.{here, in_scrutinee, in_vector}
use Rattle.chw_typing.proofs.FoundTyped.{found_is_type}
use Rattle.rewriting.specs.Origins.{Origins}
use Rattle.rewriting.specs.Spots.{Spot}
use Rattle.rewriting.specs.Calls.{OfWhole, anf_call, anf_result}
use Rattle.rewriting.specs.Operands.{OfOperands, StandsAt, StandsInCall, anf, of_case, of_con, of_global, of_made, of_prim, of_vector, with_name}
use Rattle.rewriting.specs.Shapes.{shift_args}
use Rattle.rule_types.proofs.Arguments.{IsHead, arg_typed, head_renamed}
use Rattle.rule_types.proofs.Bodies.{shifted_more, up_to}
use Rattle.rule_types.proofs.Complete.{renamed_complete}
use Rattle.rule_types.proofs.Scrutinees.{case_typed}
use Rattle.rule_types.specs.Laws.{IsTypedPlace, KeepsType}

-- where an operand may stand: as an argument of a name, as a scrutinee, or as an element
pub data Stands : TermTree → List ℕ → TermTree → Type 0 where
  as_argument : (h : TermTree) → IsHead h → (args : List Arg) (i : ℕ) {a : TermTree} → slice_get args i ≡ Some (OfTerm a) → Stands (applied h args) (argument_path i (length args)) a
  as_scrutinee : {e : TermTree} {alts : Alts} → Stands (case_of e alts) (zero ∷ []) e
  as_element : {t : TypeTree} {es : Terms} {i : ℕ} {a : TermTree} → element_at es i ≡ Some a → Stands (vec_lit t es) (i ∷ []) a

pub stands_at : {o : Origins} {at : Spot} {e x : TermTree} {path : List ℕ} → StandsAt o at e path x → Stands e path x
stands_at (of_prim p args i many on is) = as_argument (prim p) tt args i is
stands_at of_case = as_scrutinee
stands_at (of_con c args i lets at many is) = as_argument (con c) tt args i is
stands_at (of_vector lets is) = as_element is

pub stands_in_call : {at : Spot} {e x : TermTree} {path : List ℕ} → StandsInCall at e path x → Stands e path x
stands_in_call (of_global d args i lets is) = as_argument (global d) tt args i is
stands_in_call (of_made m args i lets is) = as_argument (made m) tt args i is

element_renamed : (es : Terms) (ρ : Renaming) (i : ℕ) (a : TermTree) → element_at es i ≡ Some a → element_at (rename_all es ρ) i ≡ Some (rename a ρ)
unfolding rename_all
element_renamed no_terms ρ i a e = absurd cc
element_renamed (term_and x es) ρ zero a e = let is : x ≡ a = cc in ap (λ y. Some (rename y ρ)) is
element_renamed (term_and x es) ρ (suc i) a e = element_renamed es ρ i a e

-- the term below one more binder, with its arguments
shifted_spine : (h : TermTree) → IsHead h → (args : List Arg) → shift (applied h args) 0 1 ≡ applied h (shift_args args 0 1)
shifted_spine h q args = spine_renamed h args (raised 0 1) ∙ ap (λ f. applied f (shift_args args 0 1)) (head_renamed h (raised 0 1) q)

shifted_arg : (args : List Arg) (i : ℕ) (a : TermTree) → slice_get args i ≡ Some (OfTerm a) → slice_get (shift_args args 0 1) i ≡ Some (OfTerm (shift a 0 1))
shifted_arg args i a e = found_in_map (rename_arg (raised 0 1)) args i (OfTerm a) e

shifted_many : (args : List Arg) → length (shift_args args 0 1) ≡ length args
shifted_many args = length-map args (rename_arg (raised 0 1))

part_shifted : {e x : TermTree} {path : List ℕ} → Stands e path x → part_at (shift e 0 1) path ≡ Some (shift x 0 1)
unfolding rename
part_shifted (as_argument h q args i {a = a} e) =
    let shifted = shift_args args 0 1 in
    ap (λ f. part_at f (argument_path i (length args))) (shifted_spine h q args)
    ∙ ap (λ n. part_at (applied h shifted) (argument_path i n)) (sym (shifted_many args))
    ∙ spine_argument shifted h (shift a 0 1) i (shifted_arg args i a e)
part_shifted as_scrutinee = refl
part_shifted (as_element {t = t} {es = es} {i = i} {a = a} e) = part_below (vec_lit t (rename_all es (raised 0 1))) (shift a 0 1) i [] (element_renamed es (raised 0 1) i a e)

-- what is put in an argument's place
put_in_spine : (h : TermTree) → IsHead h → (args : List Arg) (i : ℕ) (a y : TermTree) → slice_get args i ≡ Some (OfTerm a) → with_part (shift (applied h args) 0 1) (argument_path i (length args)) y ≡ applied h (set (shift_args args 0 1) i (OfTerm y))
put_in_spine h q args i a y e =
    let shifted = shift_args args 0 1 in
    ap (λ f. with_part f (argument_path i (length args)) y) (shifted_spine h q args)
    ∙ ap (λ n. with_part (applied h shifted) (argument_path i n) y) (sym (shifted_many args))
    ∙ with_spine_argument shifted h (shift a 0 1) y i (shifted_arg args i a e)

pub same_functions : (k : Kind) → IsOfTerms k → HasFunctions k k
same_functions Val h = tt
same_functions Cir h = tt
same_functions _ h = absurd h

-- the kind of an operand allows that of the term, and a name of its type may stand for it
record NameTyped (s : Setting) (vars : List TypeTree) (e : TermTree) (path : List ℕ) (t u : TypeTree) : Type 0 where
  kind : Kind
  has_kind : HasKind s [] u kind
  allows : (j : Kind) → HasKind s [] t j → HasFunctions j kind
  inside : HasTypeUpTo s [] (t ∷ vars) (with_part (shift e 0 1) path (var 0)) u

pub element_kind : {s : Setting} {kinds : List Kind} {vars : List TypeTree} {t : TypeTree} {es : Terms} → AllHave s kinds vars t es → (i : ℕ) (a : TermTree) → element_at es i ≡ Some a → (u : TypeTree) × HasType s kinds vars a u × SameTypes t u
element_kind none_have i a e = absurd cc
element_kind {s} {kinds} {vars} (have_and {u = u} {e = x} d y ds) zero a e = let is : x ≡ a = cc in (u, subst (λ z. HasType s kinds vars z u) is d, y)
element_kind (have_and d y ds) (suc i) a e = element_kind ds i a e

vector_kind : (s : Setting) (kinds : List Kind) {n t : TypeTree} {k : Kind} → HasKind s kinds (vector n t) k → HasKind s kinds t k
vector_kind s kinds (kind_vector a b c) = b

vector_allows : {s : Setting} {vars : List TypeTree} {w t u : TypeTree} {es : Terms} (i : ℕ) {a : TermTree} {k : Kind} → IsSound s → AreTermTypes s [] vars → element_at es i ≡ Some a → HasType s [] vars a t → HasType s [] vars (vec_lit w es) u → HasKind s [] u k → IsOfTerms k → (j : Kind) → HasKind s [] t j → HasFunctions j k
vector_allows {s} {vars} {w} {t} i {a} {k} h g at da (h_vec l ds) ku of j kt =
    let it = element_kind ds i a at in
    let same : k ≡ j = same_kind (one_type it.1 da h g g (are_same_self vars)) (kind_same s [] w it.0 k (vector_kind s [] ku) (type_kinded it.1 h g) it.2) kt in
    subst (λ l. HasFunctions l k) same (same_functions k of)

name_typed : {s : Setting} {vars : List TypeTree} {e x : TermTree} {path : List ℕ} {t u : TypeTree} → Stands e path x → IsSound s → AreTermTypes s [] vars → HasType s [] vars x t → HasType s [] vars e u → NameTyped s vars e path t u
unfolding rename
name_typed {s} {vars} {t = t} {u = u} (as_argument h q args i {a = a} at) sound g dx d =
    let typed = arg_typed h q args i sound g at d in
    record {
      kind = typed.kind;
      has_kind = typed.has_kind;
      allows = λ j k. typed.allows t j dx k;
      inside = subst (λ f. HasTypeUpTo s [] (t ∷ vars) f u) (sym (put_in_spine h q args i a (var 0) at))
          (up_to (typed.replaced (t ∷ []) 1 (var 0) refl (λ c dc. record { type = t; has = h_var refl; same = one_type dc dx sound g g (are_same_self vars) })));
    }
name_typed {s} {vars} {t = t} {u = u} as_scrutinee sound g dx d =
    let parts = case_typed d in
    let inner : AreTermTypes s [] (t ∷ vars) = (type_kinded dx sound g, g) in
    record {
      kind = parts.result;
      has_kind = parts.has_result;
      allows = λ j k. subst (λ l. HasFunctions l parts.result) (same_kind (one_type parts.has dx sound g g (are_same_self vars)) parts.has_kind k) parts.allows;
      inside = plugged (in_scrutinee here) sound (var 0) (λ c dc. record { type = t; has = h_var refl; same = one_type dc (shifted_more (t ∷ []) 1 refl dx) sound inner inner (are_same_self (t ∷ vars)) }) inner u (shifted_more (t ∷ []) 1 refl d);
    }
name_typed {s} {vars} {t = t} {u = u} (as_element {es = es} {i = i} {a = a} at) sound g dx d =
    let of = type_kinded d sound g in
    let inner : AreTermTypes s [] (t ∷ vars) = (type_kinded dx sound g, g) in
    record {
      kind = of.kind;
      has_kind = of.has;
      allows = vector_allows i sound g at dx d of.has of.of_terms;
      inside = plugged (in_vector (element_renamed es (raised 0 1) i a at) here) sound (var 0) (λ c dc. record { type = t; has = h_var refl; same = one_type dc (shifted_more (t ∷ []) 1 refl dx) sound inner inner (are_same_self (t ∷ vars)) }) inner u (shifted_more (t ∷ []) 1 refl d);
    }

pub with_name_typed : {s : Setting} {vars : List TypeTree} {e x : TermTree} {path : List ℕ} {t u : TypeTree} → Stands e path x → IsSound s → AreTermTypes s [] vars → HasType s [] vars x t → HasType s [] vars e u → HasTypeUpTo s [] vars (with_name e path t x) u
with_name_typed {s} {vars} {t = t} {u = u} at h g dx d =
    let typed = name_typed at h g dx d in
    let of = type_kinded dx h g in
    let whole : IsTermType s [] typed.inside.type = type_kinded typed.inside.has h (of, g) in
    record {
      type = typed.inside.type;
      has = h_letrec typed.inside.has (kind_same s [] u typed.inside.type typed.kind typed.has_kind whole typed.inside.same)
          (bound_and of.has (typed.allows of.kind of.has) (shifted_more (t ∷ []) 1 refl dx) (same_self t) none_bound);
      same = typed.inside.same;
    }

pub with_name_complete : (datas : List Data) {e x : TermTree} {path : List ℕ} (t : TypeTree) → Stands e path x → part_at e path ≡ Some x → IsComplete datas e → IsComplete datas (with_name e path t x)
with_name_complete datas {e} {x} {path} t at is h =
    ((renamed_complete datas x (raised 0 1) (part_complete path datas e x h is), tt), plug_complete path datas (shift e 0 1) (shift x 0 1) (var 0) (renamed_complete datas e (raised 0 1) h) (part_shifted at) tt)

pub stands_is_part : {e x : TermTree} {path : List ℕ} → Stands e path x → part_at e path ≡ Some x
stands_is_part (as_argument h q args i {a = a} e) = spine_argument args h a i e
stands_is_part as_scrutinee = refl
stands_is_part (as_element {t = t} {es = es} {i = i} {a = a} e) = part_below (vec_lit t es) a i [] e

pub operands_keep : (o : Origins) (at : Spot) → IsTypedPlace o at → {r : Rule} {e e' : TermTree} → OfOperands o at r e e' → KeepsType o at e e'
operands_keep o at h (anf first finds) t d = with_name_typed (stands_at first.is.0) h.sound h.vars (found_is_type finds) d

pub operands_keep_complete : (o : Origins) (at : Spot) {r : Rule} {e e' : TermTree} → OfOperands o at r e e' → IsComplete o.program.datas e → IsComplete o.program.datas e'
operands_keep_complete o at (anf {t = t} first finds) h =
    let stands = stands_at first.is.0 in
    with_name_complete o.program.datas t stands (stands_is_part stands) h

-- what a result place gives gets a name
result_named : {s : Setting} {vars : List TypeTree} {e : TermTree} {t u : TypeTree} → IsSound s → AreTermTypes s [] vars → HasType s [] vars e t → HasType s [] vars e u → HasTypeUpTo s [] vars (letrec (bind t (shift e 0 1) no_bindings) (var 0)) u
result_named {s} {vars} {t = t} h g dt d =
    let of = type_kinded dt h g in
    record {
      type = t;
      has = h_letrec (h_var refl) of.has (bound_and of.has (same_functions of.kind of.of_terms) (shifted_more (t ∷ []) 1 refl dt) (same_self t) none_bound);
      same = one_type d dt h g g (are_same_self vars);
    }

pub wholes_keep : (o : Origins) (at : Spot) → IsTypedPlace o at → {e e' : TermTree} → OfWhole o at Anf e e' → KeepsType o at e e'
wholes_keep o at h (anf_call first finds) t d = with_name_typed (stands_in_call first.is.0) h.sound h.vars (found_is_type finds) d
wholes_keep o at h (anf_result lets result not_variable not_let none finds) t d = result_named h.sound h.vars (found_is_type finds) d

pub wholes_keep_complete : (o : Origins) (at : Spot) {e e' : TermTree} → OfWhole o at Anf e e' → IsComplete o.program.datas e → IsComplete o.program.datas e'
wholes_keep_complete o at (anf_call {t = t} first finds) h =
    let stands = stands_in_call first.is.0 in
    with_name_complete o.program.datas t stands (stands_is_part stands) h
wholes_keep_complete o at (anf_result {e = e} lets result not_variable not_let none finds) h = ((renamed_complete o.program.datas e (raised 0 1) h, tt), tt)
