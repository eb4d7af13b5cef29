-- The head and the arguments of what a rule acts on: how many arguments a head has there.
use Rattle.std.proofs.Common.{◌≡◌, ◌∙◌, sym, ap, refl, inl, inr, ℕ, ◌+◌, List, [], ◌∷◌, ◌++◌, map, length, length-append, Option, Some, None}
use Rattle.std.proofs.lemmas.List.{length-map}
use Rattle.chw_types.specs.TypeTree.{TypeTree}
use Rattle.chw_types.specs.declared.kind.Scalar.TheVariants.{U}
use Rattle.chw_prims.specs.Schemas.{schema_type, row_of}
use Rattle.chw_prims.specs.declared.prim.Primitive.TheVariants.{Fmap, Ap, VAt}
use Rattle.chw_terms.specs.Constructors.{Constructor, con_at}
use Rattle.chw_terms.specs.declared.rule.Rule.{Rule}
use Rattle.chw_terms.specs.declared.rule.Rule.TheVariants.{TyBeta, Beta, AppLet, AppCase, CaseCon, CaseLet, CaseCase, Proj, PrimLet, PrimCase, Flat, Dead, Inline, Unfold, Unroll, Elem, Delta, ApPure, Eta, Spec, Anf}
use Rattle.chw_terms.specs.declared.term.Arg.{Arg}
use Rattle.chw_terms.specs.declared.term.Arg.TheVariants.{OfTerm, OfType}
use Rattle.chw_terms.specs.Evaluated.{evaluated}
use Rattle.chw_terms.specs.TermTree.{TermTree, lam, ty_lam, letrec, con, prim, lit, vec_lit, case_of}
use Rattle.chw_terms.specs.TermView.{applied}
use Rattle.chw_terms.proofs.Spines.{applied_more}
use Rattle.chw_typing.specs.HeadTypes.{con_type}
use Rattle.chw_typing.specs.Given.{types_then}
use Rattle.rewriting.specs.Origins.{Origins}
use Rattle.rewriting.specs.Spots.{Spot, asked_for}
use Rattle.rewriting.specs.Cases.{OfCases, case_con, case_lit, case_any, case_let, case_case, proj}
use Rattle.rewriting.specs.Demanded.{OfDemanded, prim_let, prim_case}
use Rattle.rewriting.specs.Functions.{OfFunctions, ty_beta, beta, app_let, app_let_type, app_case, app_case_type}
use Rattle.rewriting.specs.Instances.{Makes}
use Rattle.rewriting.specs.Lets.{OfLets, flat_side, flat_body, dead, inline}
use Rattle.rewriting.specs.Lifted.{Joins, ap_pure, fmap_pure, fmap_fmap, fmap_ap, ap_value, ap_fmap, ap_ap}
use Rattle.rewriting.specs.Operands.{OfOperands, anf, StandsAt, of_prim, of_case, of_con, of_vector}
use Rattle.rewriting.specs.Primitives.{OfPrimitives, literal, unroll, elem, elem_at, delta}
use Rattle.rewriting.specs.Shapes.{fmap_of, ap_of}
use Rattle.rewriting.specs.Signals.{OfSignals, join, eta, spec_function}
use Rattle.rewriting.specs.Names.{OfNames, unfold_global, unfold_made}
use Rattle.rewriting.proofs.Counted.{counted}
use Rattle.rewriting.proofs.Spines.{IsBare, head_is, args_are, fronts_same, backs_same}

-- how many arguments a head has on which rules act
pub con_asks : Option Constructor → ℕ
con_asks None = 0
con_asks (Some it) = asked_for (con_type it)

pub asks : Origins → TermTree → ℕ
asks o (ty_lam k e) = 1
asks o (lam t e) = 1
asks o (prim p) = asked_for (schema_type p)
asks o (con c) = con_asks (con_at o.program.datas c)
asks o e = 0

-- a letrec and a case have one where they are applied, and else none
pub asked : Origins → Rule → TermTree → ℕ
asked o AppLet e = 1
asked o AppCase e = 1
asked o r e = asks o e

-- the term is a head with as many arguments
pub record IsCore (o : Origins) (r : Rule) (e : TermTree) : Type 0 where
  pub head : TermTree
  pub args : List Arg
  pub is : e ≡ applied head args
  pub bare : IsBare head
  pub count : length args ≡ asked o r head

-- with other arguments behind it it is determined
pub record SameCore (c d : TermTree) (us vs : List Arg) : Type 0 where
  pub core : c ≡ d
  pub rest : us ≡ vs

pub one_core : (o : Origins) (r : Rule) (c d : TermTree) (us vs : List Arg) → IsCore o r c → IsCore o r d → applied c us ≡ applied d vs → SameCore c d us vs
unfolding asked asks con_asks
one_core o r c d us vs h g q =
    let whole : applied h.head (h.args ++ us) ≡ applied g.head (g.args ++ vs) =
    applied_more h.head h.args us ∙ ap (λ e. applied e us) (sym h.is) ∙ q ∙ ap (λ e. applied e vs) g.is ∙ sym (applied_more g.head g.args vs) in
    let head = head_is h.head g.head (h.args ++ us) (g.args ++ vs) h.bare g.bare whole in
    let all = args_are h.head g.head (h.args ++ us) (g.args ++ vs) h.bare g.bare whole in
    let count : length h.args ≡ length g.args = h.count ∙ ap (asked o r) head ∙ sym g.count in
    let args = fronts_same h.args g.args us vs count all in
    record {
      core = h.is ∙ (λ i. applied (head i) (args i)) ∙ sym g.is;
      rest = backs_same h.args g.args us vs count all;
    }

-- a bare head with these arguments, or with none
core : {o : Origins} {r : Rule} (head : TermTree) (args : List Arg) → IsBare head → length args ≡ asked o r head → IsCore o r (applied head args)
core head args b n = record { head = head; args = args; is = refl; bare = b; count = n }

alone : {o : Origins} {r : Rule} (e : TermTree) → IsBare e → 0 ≡ asked o r e → IsCore o r e
alone e b n = record { head = e; args = []; is = refl; bare = b; count = n }

given_length : (types : List TypeTree) (es : List TermTree) → length (types_then types es) ≡ length types + length es
given_length types es =
    length-append (map (λ t. OfType t) types) (map (λ e. OfTerm e) es)
    ∙ (λ i. length-map types (λ t. OfType t) i + length-map es (λ e. OfTerm e) i)

of_functions : {o : Origins} {at : Spot} {r : Rule} {e e' : TermTree} → OfFunctions o at r e e' → IsCore o r e
unfolding asked asks
of_functions (ty_beta {k = k} {e = e} {a = a}) = core (ty_lam k e) (OfType a ∷ []) (record { itself = refl; alone = refl }) refl
of_functions (beta {t = t} {e = e} {a = a}) = core (lam t e) (OfTerm a ∷ []) (record { itself = refl; alone = refl }) refl
of_functions (app_let {g = g} {e = e} {a = a}) = core (letrec g e) (OfTerm a ∷ []) (record { itself = refl; alone = refl }) refl
of_functions (app_let_type {g = g} {e = e} {a = a}) = core (letrec g e) (OfType a ∷ []) (record { itself = refl; alone = refl }) refl
of_functions (app_case {e = e} {a = a} {alts = alts} f) = core (case_of e alts) (OfTerm a ∷ []) (record { itself = refl; alone = refl }) refl
of_functions (app_case_type {e = e} {alts = alts} {a = a}) = core (case_of e alts) (OfType a ∷ []) (record { itself = refl; alone = refl }) refl

of_cases : {o : Origins} {at : Spot} {r : Rule} {e e' : TermTree} → OfCases o at r e e' → IsCore o r e
unfolding asked asks
of_cases (case_con c types es i t s b) = alone _ (record { itself = refl; alone = refl }) refl
of_cases (case_lit b) = alone _ (record { itself = refl; alone = refl }) refl
of_cases case_any = alone _ (record { itself = refl; alone = refl }) refl
of_cases case_let = alone _ (record { itself = refl; alone = refl }) refl
of_cases (case_case h n) = alone _ (record { itself = refl; alone = refl }) refl
of_cases (proj m s p q d f) = alone _ (record { itself = refl; alone = refl }) refl

of_demanded : {o : Origins} {at : Spot} {r : Rule} {e e' : TermTree} → OfDemanded o at r e e' → IsCore o r e
unfolding asked asks
of_demanded (prim_let {p = p} {args = args} n d f) = core (prim p) args (record { itself = refl; alone = refl }) n
of_demanded (prim_case {p = p} {args = args} n d f g) = core (prim p) args (record { itself = refl; alone = refl }) n

of_lets : {o : Origins} {at : Spot} {r : Rule} {e e' : TermTree} → OfLets o at r e e' → IsCore o r e
unfolding asked asks
of_lets (flat_side front t cs x back m n) = alone _ (record { itself = refl; alone = refl }) refl
of_lets (flat_body m n) = alone _ (record { itself = refl; alone = refl }) refl
of_lets (dead m k d) = alone _ (record { itself = refl; alone = refl }) refl
of_lets (inline front t x back m n d s) = alone _ (record { itself = refl; alone = refl }) refl

of_names : {o : Origins} {at : Spot} {r : Rule} {e e' : TermTree} → OfNames o at r e e' → IsCore o r e
unfolding asked asks
of_names (unfold_global m i) = alone _ (record { itself = refl; alone = refl }) refl
of_names (unfold_made m i) = alone _ (record { itself = refl; alone = refl }) refl

of_primitives : {o : Origins} {at : Spot} {r : Rule} {e e' : TermTree} → OfPrimitives o at r e e' → IsCore o r e
unfolding asked asks
of_primitives (unroll {p = p} {types = types} {es = es} c v u) =
    core (prim p) (types_then types es) (record { itself = refl; alone = refl })
    (given_length types es ∙ ap (λ n. n + length es) (sym (length-map types evaluated)) ∙ counted (row_of p) (map evaluated types) (length es) c.on_types c.on_terms)
of_primitives (elem {p = p} {i = i} {n = n} {a = a} {t = t} {es = es} (inl q) j l e) =
    core (prim p) (types_then (i ∷ n ∷ a ∷ []) (vec_lit t es ∷ [])) (record { itself = refl; alone = refl }) (ap (λ p. asked_for (schema_type p)) (sym q))
of_primitives (elem {p = p} {i = i} {n = n} {a = a} {t = t} {es = es} (inr q) j l e) =
    core (prim p) (types_then (i ∷ n ∷ a ∷ []) (vec_lit t es ∷ [])) (record { itself = refl; alone = refl }) (ap (λ p. asked_for (schema_type p)) (sym q))
of_primitives (elem_at {n = n} {k = k} {a = a} {t = t} {es = es} {bits = bits} m i l e) =
    core (prim VAt) (types_then (n ∷ k ∷ a ∷ []) (vec_lit t es ∷ lit U bits ∷ [])) (record { itself = refl; alone = refl }) refl
of_primitives (delta {p = p} {types = types} {words = words} m v) =
    core (prim p) (types_then types (map literal words)) (record { itself = refl; alone = refl }) v.whole

of_ap : {o : Origins} {r : Rule} (d a b : TypeTree) (u s : TermTree) → asked o r (prim Ap) ≡ 5 → IsCore o r (ap_of d a b u s)
of_ap d a b u s n = core (prim Ap) (types_then (d ∷ a ∷ b ∷ []) (u ∷ s ∷ [])) (record { itself = refl; alone = refl }) (sym n)

of_fmap : {o : Origins} {r : Rule} (d a b : TypeTree) (f s : TermTree) → asked o r (prim Fmap) ≡ 5 → IsCore o r (fmap_of d a b f s)
of_fmap d a b f s n = core (prim Fmap) (types_then (d ∷ a ∷ b ∷ []) (f ∷ s ∷ [])) (record { itself = refl; alone = refl }) (sym n)

of_joins : {o : Origins} {at : Spot} {e e' : TermTree} → Joins o at e e' → IsCore o ApPure e
unfolding asked asks
of_joins ap_pure = of_ap _ _ _ _ _ refl
of_joins fmap_pure = of_fmap _ _ _ _ _ refl
of_joins (fmap_fmap n f) = of_fmap _ _ _ _ _ refl
of_joins (fmap_ap n f) = of_fmap _ _ _ _ _ refl
of_joins (ap_value p n f) = of_ap _ _ _ _ _ refl
of_joins (ap_fmap p n f g) = of_ap _ _ _ _ _ refl
of_joins (ap_ap p n f g) = of_ap _ _ _ _ _ refl

of_signals : {o : Origins} {at : Spot} {r : Rule} {e e' : TermTree} → OfSignals o at r e e' → IsCore o r e
unfolding asked asks
of_signals (join m j) = of_joins j
of_signals (eta m l n) = of_fmap _ _ _ _ _ refl
of_signals (spec_function m l n i) = of_fmap _ _ _ _ _ refl

of_places : {o : Origins} {at : Spot} {e x : TermTree} {path : List ℕ} → StandsAt o at e path x → IsCore o Anf e
unfolding asked asks con_asks
of_places (of_prim p args i n k g) = core (prim p) args (record { itself = refl; alone = refl }) n
of_places of_case = alone _ (record { itself = refl; alone = refl }) refl
of_places (of_con c args j m i n g) = core (con c) args (record { itself = refl; alone = refl }) (n ∙ ap con_asks (sym i))
of_places (of_vector m i) = alone _ (record { itself = refl; alone = refl }) refl

of_operands : {o : Origins} {at : Spot} {r : Rule} {e e' : TermTree} → OfOperands o at r e e' → IsCore o r e
of_operands (anf f t) = of_places f.is.0

pub core_of : (o : Origins) (at : Spot) (r : Rule) (e e' : TermTree) → Makes o at r e e' → IsCore o r e
core_of o at TyBeta e e' d = of_functions d
core_of o at Beta e e' d = of_functions d
core_of o at AppLet e e' d = of_functions d
core_of o at AppCase e e' d = of_functions d
core_of o at CaseCon e e' d = of_cases d
core_of o at CaseLet e e' d = of_cases d
core_of o at CaseCase e e' d = of_cases d
core_of o at Proj e e' d = of_cases d
core_of o at PrimLet e e' d = of_demanded d
core_of o at PrimCase e e' d = of_demanded d
core_of o at Flat e e' d = of_lets d
core_of o at Dead e e' d = of_lets d
core_of o at Inline e e' d = of_lets d
core_of o at Unfold e e' d = of_names d
core_of o at Unroll e e' d = of_primitives d
core_of o at Elem e e' d = of_primitives d
core_of o at Delta e e' d = of_primitives d
core_of o at ApPure e e' d = of_signals d
core_of o at Eta e e' d = of_signals d
core_of o at Spec e e' d = of_signals d
core_of o at Anf e e' d = of_operands d
