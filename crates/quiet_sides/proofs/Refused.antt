-- No rule acts on a quiet term.
use Rattle.std.proofs.Common.{◌≡◌, ◌∙◌, ◌⊎◌, inl, inr, sym, refl, subst, ℕ, ◌<◌, List, [], ◌∷◌, ◌++◌, map, Option, Some, None}
use Rattle.std.specs.Option.{option_map}
use Rattle.std.specs.List.{slice_get}
use Rattle.chw_base.specs.declared.index.ConId.{ConId}
use Rattle.chw_types.specs.TypeTree.{TypeTree}
use Rattle.chw_prims.specs.declared.prim.Primitive.{Primitive as Prim}
use Rattle.chw_prims.specs.declared.prim.Primitive.TheVariants.{Fmap, Ap, VGet, VGetC}
use Rattle.chw_prims.specs.Schemas.{row_of}
use Rattle.chw_terms.specs.declared.rule.Rule.{Rule}
use Rattle.chw_terms.specs.declared.scene.Mode.TheVariants.{K}
use Rattle.chw_terms.specs.declared.term.Arg.{Arg}
use Rattle.chw_terms.specs.declared.term.Arg.TheVariants.{OfTerm, OfType}
use Rattle.chw_terms.specs.declared.term.Pattern.TheVariants.{OfCon, Default}
use Rattle.chw_terms.specs.Evaluated.{evaluated}
use Rattle.chw_terms.specs.TermTree.{TermTree, var, made, con, prim, lit, vec_lit, case_of, Alts, no_alts, alt, Terms}
use Rattle.chw_terms.specs.TermView.{applied}
use Rattle.chw_terms.specs.Unrolled.{body_of, unrolled}
use Rattle.chw_terms.proofs.Spines.{applied_more}
use Rattle.chw_typing.specs.Alternatives.{HasDefault}
use Rattle.chw_typing.specs.Programs.{IsSound}
use Rattle.chw_typing.specs.Scopes.{AreTermTypes}
use Rattle.chw_typing.specs.Typing.{HasType}
use Rattle.chw_typing.specs.Given.{types_then}
use Rattle.rewriting.specs.Cases.{OfCases, case_con, case_lit, case_any, case_let, case_case, proj}
use Rattle.rewriting.specs.Lifted.{Joins, ap_pure, fmap_pure, fmap_fmap, fmap_ap, ap_value, ap_fmap, ap_ap}
use Rattle.rewriting.specs.Operands.{StandsAt, of_prim, of_case, of_con, of_vector, NeedsName, IsSignal}
use Rattle.rewriting.specs.Origins.{Origins, setting_at}
use Rattle.rewriting.specs.Primitives.{OfPrimitives, unroll, elem, elem_at, delta}
use Rattle.rewriting.specs.Shapes.{IsVariable, IsMade, IsDefaultOrNone, pure_of, ap_of}
use Rattle.rewriting.specs.Signals.{OfSignals, join, eta, spec_function}
use Rattle.rewriting.specs.Spots.{Spot, HasLets, IsOnWords, TakesElement}
use Rattle.rewriting.proofs.Spines.{head_of, args_of}
use Rattle.quiet_sides.specs.Quiet.{OnVariables, IsContent, IsPlainArgument, IsLifted, lifted_on_one, lifted_on_more, IsProjection}
use Rattle.quiet_sides.proofs.Acts.{Acts, on_binder, on_applied_case, on_case, on_name, on_demanded, on_prim, on_signals, on_operand}
use Rattle.quiet_sides.proofs.Chains.{function_unnamed}
use Rattle.quiet_sides.proofs.Forms.{a_name, a_binder, a_case, form_of, form_applied, form_head, variable_form, on_applied}
use Rattle.quiet_sides.proofs.Arguments.{got_front, lift_argument, quiet_argument, lifts_parts, argument_stays, content_no_operand, lifted_no_operand, quiet_not_unrolled}
use Rattle.quiet_sides.proofs.Spines.{LiftsBy, by_fmap, by_ap, Lifts, QuietPrim, plain, lifting, QuietAlts, QuietSpine, QuietArgument, named, content, function, prim_bare, con_bare}

-- the arguments behind, of a quiet term whose function is this
abbrev pub QuietWith : List Arg → TermTree → Type 0
QuietWith rest e = QuietSpine (head_of e) (args_of e ++ rest)

prim_with : (p : Prim) (args rest : List Arg) → QuietWith rest (applied (prim p) args) → QuietPrim p (args ++ rest)
prim_with p args rest q = on_applied (λ h xs. QuietSpine h (xs ++ rest)) (prim p) args (prim_bare p) q

con_with : (c : ℕ) (args rest : List Arg) → QuietWith rest (applied (con c) args) → OnVariables (args ++ rest)
con_with c args rest q = on_applied (λ h xs. QuietSpine h (xs ++ rest)) (con c) args (con_bare c) q

pub no_binder : (h : TermTree) (args : List Arg) → QuietSpine h args → form_of h ≡ a_binder → ⊥
no_binder (var x) args q f = cc
no_binder (lit s b) args q f = cc
no_binder (made m) args q f = cc
no_binder (con c) args q f = cc
no_binder (prim p) args q f = cc
no_binder (vec_lit t es) args q f = cc
no_binder (case_of e alts) args q f = cc
no_binder _ args q f = q

case_alone : (h : TermTree) (args : List Arg) → QuietSpine h args → form_of h ≡ a_case → args ≡ []
case_alone (var x) args q f = absurd cc
case_alone (lit s b) args q f = absurd cc
case_alone (made m) args q f = absurd cc
case_alone (con c) args q f = absurd cc
case_alone (prim p) args q f = absurd cc
case_alone (vec_lit t es) args q f = absurd cc
case_alone (case_of e alts) args q f = q.0
case_alone _ args q f = absurd q

front_none : (xs ys : List Arg) → xs ++ ys ≡ [] → xs ≡ []
front_none [] ys q = refl
front_none (x ∷ xs) ys q = absurd cc

-- cases
no_default : (f : TermTree) → QuietAlts (alt Default f no_alts) → ⊥
no_default f (inl p) = p
no_default f (inr c) = c.many

no_projection : (c : ConId) (n : ℕ) (e : TermTree) (more : Alts) → IsProjection (alt (OfCon c n) e more) → ((j : ℕ) → j < n → e ≡ var j → ⊥) ⊎ HasDefault more → ⊥
no_projection c n (var j) no_alts p (inl d) = d j p refl
no_projection c n (var j) no_alts p (inr d) = d
no_projection c n _ _ p d = absurd p

no_part : (c : ConId) (n : ℕ) (e : TermTree) (more : Alts) → QuietAlts (alt (OfCon c n) e more) → IsDefaultOrNone more → ((j : ℕ) → j < n → e ≡ var j → ⊥) ⊎ HasDefault more → ⊥
no_part c n e more (inl p) d f = no_projection c n e more p f
no_part c n e more (inr h) d f = h.many d

applied_no_variable : (c : ℕ) (args : List Arg) → IsVariable (applied (con c) args) → ⊥
applied_no_variable c args v =
    let one = variable_form (applied (con c) args) v in
    let two = form_applied args (con c) in
    cc

no_case : {o : Origins} {at : Spot} {r : Rule} {e new : TermTree} (rest : List Arg) → OfCases o at r e new → QuietWith rest e → ⊥
no_case rest (case_con c types es i t s b) q = applied_no_variable c (types_then types es) q.1
no_case rest (case_lit b) q = q.1
no_case rest (case_any {f = f}) q = no_default f q.2
no_case rest case_let q = q.1
no_case rest (case_case h n) q = q.1
no_case rest (proj {n = n} {c = c} {e = e} {more = more} m s p t d f) q = no_part c n e more q.2 d f

-- primitives
none_mapped : (f : TermTree → TermTree) (body : Option TermTree) (e : TermTree) → body ≡ None → option_map f body ≡ Some e → ⊥
none_mapped f None e n u = cc
none_mapped f (Some x) e n u = cc

none_unrolled : (p : Prim) (types : List TypeTree) (es : List TermTree) (e : TermTree) → body_of (row_of p) (map evaluated types) ≡ None → unrolled p types es ≡ Some e → ⊥
none_unrolled p types es e n u = none_mapped _ (body_of (row_of p) (map evaluated types)) e n u

lifted_no_vector : {e : TermTree} → IsLifted e → (t : TypeTree) (es : Terms) → e ≡ vec_lit t es → ⊥
lifted_no_vector lifted_on_one t es q = cc
lifted_no_vector (lifted_on_more l) t es q = cc

gets_no_content : (p : Prim) → (p ≡ VGet) ⊎ (p ≡ VGetC) → IsContent p 3 → ⊥
gets_no_content p (inl e) c = subst (λ p. IsContent p 3) e c
gets_no_content p (inr e) c = subst (λ p. IsContent p 3) e c

no_vector : {p : Prim} {t : TypeTree} {es : Terms} → (p ≡ VGet) ⊎ (p ≡ VGetC) → QuietArgument p 3 (vec_lit t es) → ⊥
no_vector k (named v) = v
no_vector k (content r (inl v)) = v
no_vector {p} k (content r (inr w)) = gets_no_content p k w.0
no_vector k (function q (by_fmap e h)) = h
no_vector {t = t} {es = es} k (function q (by_ap e l)) = lifted_no_vector l t es refl

no_prim : {o : Origins} {at : Spot} {r : Rule} {e new : TermTree} (rest : List Arg) → (at.mode ≡ K → ⊥) → OfPrimitives o at r e new → QuietWith rest e → ⊥
no_prim rest k (unroll {p = p} {types = types} {es = es} {e = e} c v u) q =
    none_unrolled p types es e (quiet_not_unrolled (map evaluated types) (prim_with p (types_then types es) rest q)) u
no_prim rest k (elem {t = t} {es = es} g j l e) q = no_vector g (quiet_argument q 3 (vec_lit t es) refl)
no_prim rest k (elem_at m i l e) q = k m
no_prim rest k (delta m v) q = k m

-- functions on signals
no_lifted_pure : {e : TermTree} → IsLifted e → (d a : TypeTree) (f : TermTree) → e ≡ pure_of d a f → ⊥
no_lifted_pure lifted_on_one d a f q = cc
no_lifted_pure (lifted_on_more l) d a f q = cc

ap_function : {f : TermTree} → LiftsBy Ap f → IsLifted f
ap_function (by_fmap e h) = absurd cc
ap_function (by_ap e l) = l

fmap_function : {f : TermTree} → LiftsBy Fmap f → IsMade f
fmap_function (by_fmap e h) = h
fmap_function (by_ap e l) = absurd cc

ap_lifts : {d a b : TypeTree} {f s : TermTree} {rest : List Arg} → QuietPrim Ap (OfType d ∷ OfType a ∷ OfType b ∷ OfTerm f ∷ OfTerm s ∷ rest) → IsLifted f × IsVariable s
ap_lifts (plain r h) = absurd r
ap_lifts (lifting l) = let parts = lifts_parts l in (ap_function parts.0, parts.1)

fmap_lifts : {d a b : TypeTree} {f s : TermTree} {rest : List Arg} → QuietPrim Fmap (OfType d ∷ OfType a ∷ OfType b ∷ OfTerm f ∷ OfTerm s ∷ rest) → IsMade f × IsVariable s
fmap_lifts (plain r h) = absurd r
fmap_lifts (lifting l) = let parts = lifts_parts l in (fmap_function parts.0, parts.1)

no_join : {o : Origins} {at : Spot} {e new : TermTree} (rest : List Arg) → Joins o at e new → QuietWith rest e → ⊥
no_join rest (ap_pure {d' = d'} {a' = a'} {f = f}) q = no_lifted_pure (ap_lifts q).0 d' a' f refl
no_join rest fmap_pure q = (fmap_lifts q).1
no_join rest (fmap_fmap n f) q = (fmap_lifts q).1
no_join rest (fmap_ap n f) q = (fmap_lifts q).1
no_join rest (ap_value p n f) q = (ap_lifts q).1
no_join rest (ap_fmap p n f g) q = (ap_lifts q).1
no_join rest (ap_ap p n f g) q = (ap_lifts q).1

no_signals : {o : Origins} {at : Spot} {r : Rule} {e new : TermTree} (rest : List Arg) → OfSignals o at r e new → QuietWith rest e → ⊥
no_signals rest (join m j) q = no_join rest j q
no_signals rest (eta m l n) q = l.not_made (fmap_lifts q).0
no_signals rest (spec_function m l n i) q = l.not_made (fmap_lifts q).0

-- operands
module _ (o : Origins) (at : Spot) (sound : IsSound (setting_at o)) (typed : AreTermTypes (setting_at o) [] at.vars) where
  whole_ap : (p : Prim) (args rest : List Arg) (l : Lifts p (args ++ rest)) → p ≡ Ap → applied (applied (prim p) args) rest ≡ ap_of l.dom l.from l.to l.function l.signal
  whole_ap p args rest l e = sym (applied_more (prim p) args rest) ∙ (λ i. applied (prim (e i)) (l.are i))

  no_prim_operand : (p : Prim) (args rest : List Arg) (i : ℕ) (a : TermTree) (t : TypeTree) → IsOnWords p ⊎ (TakesElement p ⊎ IsSignal p i) → slice_get (args ++ rest) i ≡ Some (OfTerm a) → NeedsName o at a → HasType (setting_at o) [] at.vars (applied (applied (prim p) args) rest) t → QuietPrim p (args ++ rest) → ⊥
  no_prim_operand p args rest i a t k g n has (plain r h) = by (h i a g)
    where
      by : IsPlainArgument p i a → ⊥
      by (inl v) = n.no_variable v
      by (inr w) = content_no_operand p i w.0 k
  no_prim_operand p args rest i a t k g n has (lifting l) = by (lift_argument l.dom l.from l.to l.function l.signal i a (subst (λ xs. slice_get xs i ≡ Some (OfTerm a)) l.are g))
    where
      lifted : i ≡ 3 → a ≡ l.function → LiftsBy p l.function → ⊥
      lifted at_3 q (by_fmap e h) = lifted_no_operand p i e at_3 k
      lifted at_3 q (by_ap e h) =
          function_unnamed (setting_at o) o.program.datas at.mode at.vars l.dom l.from l.to l.function l.signal t n.type sound typed
          (subst (λ e. HasType (setting_at o) [] at.vars e t) (whole_ap p args rest l e) has)
          (subst (λ a. HasType (setting_at o) [] at.vars a n.type) q n.has) n.named

      by : ((i ≡ 3) × (a ≡ l.function)) ⊎ ((i ≡ 4) × (a ≡ l.signal)) → ⊥
      by (inl q) = lifted q.0 q.1 l.by
      by (inr q) = n.no_variable (subst IsVariable (sym q.1) l.name)

  no_operand : {e x : TermTree} {path : List ℕ} (rest : List Arg) (t : TypeTree) → StandsAt o at e path x → NeedsName o at x → HasType (setting_at o) [] at.vars (applied e rest) t → QuietWith rest e → ⊥
  no_operand rest t (of_prim p args i {a = a} l k g) n has q = no_prim_operand p args rest i a t k (got_front args rest i (OfTerm a) g) n has (prim_with p args rest q)
  no_operand rest t of_case n has q = n.no_variable q.1
  no_operand rest t (of_con c args i {a = a} m j l g) n has q = n.no_variable (con_with c args rest q i a (got_front args rest i (OfTerm a) g))
  no_operand rest t (of_vector {i = i} {a = a} m g) n has q = n.no_variable (q.1 i a g)

  -- all of them: not in constants; and names only where they are called
  pub no_act : {e : TermTree} (rest : List Arg) (t : TypeTree) → (at.mode ≡ K → ⊥) → (form_of e ≡ a_name → HasLets at.mode) → HasType (setting_at o) [] at.vars (applied e rest) t → Acts o at e → QuietWith rest e → ⊥
  no_act {e} rest t k l has (on_binder f) q = no_binder (head_of e) (args_of e ++ rest) q (form_head e ∙ f)
  no_act {e} rest t k l has (on_applied_case f n) q = n (front_none (args_of e) rest (case_alone (head_of e) (args_of e ++ rest) q (form_head e ∙ f)))
  no_act rest t k l has (on_case c) q = no_case rest c q
  no_act rest t k l has (on_name f n) q = n (l f)
  no_act rest t k l has (on_demanded p args i x e d m) q =
      argument_stays (quiet_argument (prim_with p args rest (subst (QuietWith rest) e q)) i x (got_front args rest i (OfTerm x) d.is)) m
  no_act rest t k l has (on_prim c) q = no_prim rest k c q
  no_act rest t k l has (on_signals c) q = no_signals rest c q
  no_act rest t k l has (on_operand s n) q = no_operand rest t s n has q
