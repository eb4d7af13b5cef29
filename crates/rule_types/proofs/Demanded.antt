-- What rules make of a primitive with a demanded letrec or case keeps types.
use Rattle.std.proofs.Common.{◌≡◌, List, Some, [], set, ℕ}
use Rattle.std.specs.List.{slice_get}
use Rattle.chw_types.proofs.SameLaws.{same_through}
use Rattle.chw_types.specs.TypeTree.{TypeTree}
use Rattle.chw_prims.specs.declared.prim.Primitive.{Primitive as Prim}
use Rattle.chw_terms.specs.TermTree.{Alts, Group, TermTree, case_of, letrec, prim, size_of}
use Rattle.chw_terms.specs.TermView.{applied}
use Rattle.chw_terms.specs.declared.rule.Rule.{Rule}
use Rattle.chw_terms.specs.declared.term.Arg.{Arg}
use Rattle.chw_terms.specs.declared.term.Arg.TheVariants.{OfTerm}
use Rattle.chw_typing.proofs.OneType.{one_type}
use Rattle.chw_typing.proofs.Renamed.{declared_length}
use Rattle.chw_typing.proofs.SameScopes.{are_same_self}
use Rattle.chw_typing.specs.Programs.{IsComplete, IsSound}
use Rattle.chw_typing.specs.Scopes.{AreTermTypes, Setting, declared}
use Rattle.chw_typing.specs.Typing.{HasType, HasTypeUpTo, h_letrec}
use Rattle.chw_typing.specs.Groups.{each_body}
use Rattle.chw_typing.proofs.Applied.{functions_compose}
use Rattle.rewriting.specs.Origins.{Origins}
use Rattle.rewriting.specs.Spots.{Spot}
use Rattle.rewriting.specs.Demanded.{OfDemanded, prim_case, prim_let}
use Rattle.rewriting.specs.Shapes.{shift_args}
use Rattle.rule_types.proofs.Bodies.{BodiesBecome, KindsBecome, each_case, up_to}
use Rattle.rule_types.proofs.Arguments.{ArgTyped, arg_complete, arg_typed, replaced_complete}
use Rattle.rule_types.proofs.Complete.{each_complete, spine_complete}
use Rattle.rule_types.proofs.Scrutinees.{bound_allowed, let_parts}
use Rattle.rule_types.specs.Laws.{IsTypedPlace, KeepsType}

-- a letrec moves out of an argument
prim_let_typed : {s : Setting} {vars : List TypeTree} (p : Prim) (args : List Arg) {g : Group} {e : TermTree} {t u : TypeTree} (i : ℕ) → IsSound s → AreTermTypes s [] vars → slice_get args i ≡ Some (OfTerm (letrec g e)) → HasType s [] vars (letrec g e) u → HasType s [] vars (applied (prim p) args) t → HasType s [] vars (letrec g (applied (prim p) (set (shift_args args 0 (size_of g)) i (OfTerm e)))) t
prim_let_typed {s} {vars} p args {g} {e} {u = u} i h vs at du d =
    let typed = arg_typed (prim p) tt args i h vs at d in
    let inner = let_parts du in
    h_letrec
    (typed.replaced (declared g) (size_of g) e (declared_length g) (λ c dc. up_to (let_parts dc).body))
    typed.has_kind
    (bound_allowed inner.sides typed.kind (typed.allows u inner.kind du inner.has_kind))

-- and so does a case
prim_case_typed : {s : Setting} {vars : List TypeTree} (p : Prim) (args : List Arg) {e : TermTree} {alts : Alts} {t u : TypeTree} (i : ℕ) → IsSound s → AreTermTypes s [] vars → slice_get args i ≡ Some (OfTerm (case_of e alts)) → HasType s [] vars (case_of e alts) u → HasType s [] vars (applied (prim p) args) t → HasTypeUpTo s [] vars (case_of e (each_body (λ n f. applied (prim p) (set (shift_args args 0 n) i (OfTerm f))) alts)) t
prim_case_typed {s} {vars} p args {e} {alts} {t} {u} i h g at du d =
    each_case h g du t (λ n f. applied (prim p) (set (shift_args args 0 n) i (OfTerm f))) inside kinds_there
  where
    typed : ArgTyped s vars (prim p) args i (case_of e alts) t
    typed = arg_typed (prim p) tt args i h g at d

    inside : BodiesBecome s [] vars u t (λ n f. applied (prim p) (set (shift_args args 0 n) i (OfTerm f)))
    inside bound n f w l named df y =
        up_to (typed.replaced bound n f l (λ c dc. record { type = w; has = df; same = same_through (one_type dc du h g g (are_same_self vars)) y }))

    kinds_there : KindsBecome s [] u t
    kinds_there j k ku allow = (typed.kind, typed.has_kind, functions_compose j k typed.kind allow (typed.allows u k du ku))

pub demanded_keep : (o : Origins) (at : Spot) → IsTypedPlace o at → {r : Rule} {e e' : TermTree} → OfDemanded o at r e e' → KeepsType o at e e'
demanded_keep o at h (prim_let {p = p} {args = args} {i = i} many demands first) t d = up_to (prim_let_typed p args i h.sound h.vars demands.is demands.has d)
demanded_keep o at h (prim_case {p = p} {args = args} {i = i} many demands first none) t d = prim_case_typed p args i h.sound h.vars demands.is demands.has d

pub demanded_keep_complete : (o : Origins) (at : Spot) {r : Rule} {e e' : TermTree} → OfDemanded o at r e e' → IsComplete o.program.datas e → IsComplete o.program.datas e'
demanded_keep_complete o at (prim_let {p = p} {args = args} {i = i} {g = g} {e = e} many demands first) h =
    let datas = o.program.datas in
    let args_are = (spine_complete datas (prim p) args h).1 in
    let inner = arg_complete datas args i (letrec g e) args_are demands.is in
    (inner.0, replaced_complete datas (prim p) tt args i (size_of g) e args_are inner.1)
demanded_keep_complete o at (prim_case {p = p} {args = args} {i = i} {e = e} {alts = alts} many demands first none) h =
    let datas = o.program.datas in
    let args_are = (spine_complete datas (prim p) args h).1 in
    let inner = arg_complete datas args i (case_of e alts) args_are demands.is in
    each_complete datas (λ n f. applied (prim p) (set (shift_args args 0 n) i (OfTerm f))) e alts (λ n f k. replaced_complete datas (prim p) tt args i n f args_are k) inner
