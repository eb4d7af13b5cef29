-- What is called is of the sort of the block in which it is called, and what is lifted is a value in
-- a circuit. So a circuit's block that stands at a history stands at each.
use Rattle.std.proofs.Common.{List, Some, [], ap, inl, inr, refl, subst, sym, ℕ, ◌∙◌, ◌≡◌, ◌⊎◌}
use Rattle.std.specs.Prelude.{slice_get}
use Rattle.chw_prims.specs.declared.prim.Primitive.{Primitive as Prim}
use Rattle.net_built.specs.Circuits.{IsLifted, lifted_on_one, lifted_on_more}
use Rattle.normal_forms.specs.Circuits.{IsLiftedCall, lifted_on_one as one_lifted, lifted_on_more as more_lifted}
use Rattle.net_grounds.specs.Facts.{Facts}
use Rattle.net_means.proofs.Lists.{found_in_map, same_some}
use Rattle.net_means.proofs.NetFits.CallShapes.{IsNoCall, CallShape, a_lifted, a_call as shape_call, no_call, call_shape, call_of}
use Rattle.chw_prims.specs.declared.prim.Primitive.TheVariants.{Ap, Fmap}
use Rattle.net_means.specs.CircuitBits.Instances.{Block, BlockAt, Design, InstanceAt, a_call, a_lift, an_alternative, the_body, the_top, unseen_alternative}
use Rattle.chw_terms.specs.declared.scene.Sort.TheVariants.{Circuit, Value}
use Rattle.chw_terms.specs.TermTree.{Group, TermTree, con, made, prim}
use Rattle.net_means.proofs.NetBits.Forms.{GroupFormed, form_at, inside_formed, origins}
use Rattle.chw_meaning.specs.Values.{History, Thunk, Thunks, body_at}
use Rattle.rewriting.specs.Spots.{IsOnWords, TakesElement}
use Rattle.normal_forms.specs.Values.{IsSide, on_names, side_call, side_case, side_constructor, side_literal, side_primitive, side_variable, side_vector}
use Rattle.chw_terms.specs.declared.scene.Made.{Made}
use Rattle.rewriting.specs.Origins.{MadeOf, Origins, made_of}
use Rattle.layout_laws.specs.SameLayout.{SameKeepsMeasure}
use Rattle.chw_terms.specs.declared.scene.Sort.{Sort}
use Rattle.chw_types.specs.TypeTree.{TypeTree}
use Rattle.net_built.specs.Terms.{Variable, head_of}
use Rattle.net_means.proofs.NetBits.Standing.{formed}
use Rattle.net_means.proofs.NetFits.Shapes.{head_then}
use Rattle.net_means.proofs.NetFits.Calls.{is_lifted}
use Rattle.net_means.proofs.SideBits.Heads.{names}

-- the head of a side of values
side_prim : {o : Origins} {vars : List TypeTree} {e : TermTree} → IsSide o vars e → (p : Prim) → head_of e ≡ prim p → IsOnWords p ⊎ TakesElement p
side_prim side_variable p h = absurd cc
side_prim side_literal p h = absurd cc
side_prim (side_constructor c types xs known n) p h = let k : con c ≡ prim p = sym (head_then (con c) types (names xs)) ∙ h in absurd cc
side_prim (side_vector t xs) p h = absurd cc
side_prim (side_primitive q types xs is n) p h =
    let k : prim q ≡ prim p = sym (head_then (prim q) types (names xs)) ∙ h in
    let same : q ≡ p = cc in
    subst (λ p. IsOnWords p ⊎ TakesElement p) same is
side_prim (side_call m xs known value n) p h = let k : made m ≡ prim p = sym (head_then (made m) [] (names xs)) ∙ h in absurd cc
side_prim (side_case i others) p h = absurd cc

pub lifted_head : {m : ℕ} {e : TermTree} {es : List TermTree} → IsLifted m e es → (head_of e ≡ prim Fmap) ⊎ (head_of e ≡ prim Ap)
lifted_head lifted_on_one = inl refl
lifted_head (lifted_on_more before) = inr refl

no_words : (p : Prim) → (p ≡ Fmap) ⊎ (p ≡ Ap) → IsOnWords p ⊎ TakesElement p → ⊥
no_words p (inl is) (inl h) = subst IsOnWords is h
no_words p (inl is) (inr h) = subst TakesElement is h
no_words p (inr is) (inl h) = subst IsOnWords is h
no_words p (inr is) (inr h) = subst TakesElement is h

no_lift : {o : Origins} {vars : List TypeTree} {m : ℕ} {e : TermTree} {es : List TermTree} → IsSide o vars e → IsLifted m e es → ⊥
no_lift {e = e} side lifted = by (lifted_head lifted)
  where
    by : (head_of e ≡ prim Fmap) ⊎ (head_of e ≡ prim Ap) → ⊥
    by (inl h) = no_words Fmap (inl refl) (side_prim side Fmap h)
    by (inr h) = no_words Ap (inr refl) (side_prim side Ap h)

pub lifted_no_call : {m n k : ℕ} {e : TermTree} → IsLiftedCall m e n → head_of e ≡ made k → ⊥
lifted_no_call one_lifted h = absurd cc
lifted_no_call (more_lifted before) h = absurd cc

pub one_lift : {m k n : ℕ} {e : TermTree} {es : List TermTree} → IsLiftedCall m e n → IsLifted k e es → m ≡ k
one_lift lifted other = same (is_lifted lifted) other
  where
    same : {m k : ℕ} {e : TermTree} {es fs : List TermTree} → IsLifted m e es → IsLifted k e fs → m ≡ k
    same lifted_on_one lifted_on_one = refl
    same (lifted_on_more before) (lifted_on_more others) = same before others

module _ (d : Design) where
  made_sort : (m : ℕ) (it : Made) (of : MadeOf) → slice_get d.state m ≡ Some it → slice_get (origins d).made m ≡ Some of → it.sort ≡ of.sort
  made_sort m it of known found = ap (λ (m : MadeOf). m.sort) (same_some (found_in_map made_of d.state m it known) found)

  pub called_sort : (sort : Sort) (g : Group) (scope : List Variable) (i m : ℕ) (xs : List ℕ) (it : Made) → GroupFormed d sort g scope → body_at g i ≡ Some (on_names (made m) [] xs) → slice_get d.state m ≡ Some it → it.sort ≡ sort
  called_sort Value g scope i m xs it formed at known =
      let form = form_at d Value g i (on_names (made m) [] xs) formed.form at in
      let c = call_of form.side m (head_then (made m) [] (names xs)) in
      made_sort m it c.it known c.known ∙ c.value
  called_sort Circuit g scope i m xs it formed at known = by (call_shape (form_at d Circuit g i (on_names (made m) [] xs) formed.form at))
    where
      head : head_of (on_names (made m) [] xs) ≡ made m
      head = head_then (made m) [] (names xs)

      by : CallShape (origins d) (on_names (made m) [] xs) → it.sort ≡ Circuit
      by (a_lifted k of found value lifted) = absurd (lifted_no_call lifted head)
      by (shape_call k of found circuit is variables) =
          let both : made k ≡ made m = sym is ∙ head in
          let same : k ≡ m = cc in
          made_sort m it of known (subst (λ k. slice_get (origins d).made k ≡ Some of) same found) ∙ circuit
      by (no_call nope) = absurd (subst IsNoCall head nope)

  pub lifted_sort : (sort : Sort) (g : Group) (scope : List Variable) (i m : ℕ) (e : TermTree) (es : List TermTree) (it : Made) → GroupFormed d sort g scope → body_at g i ≡ Some e → IsLifted m e es → slice_get d.state m ≡ Some it → (sort ≡ Circuit) × (it.sort ≡ Value)
  lifted_sort Value g scope i m e es it formed at lifted known = absurd (no_lift (form_at d Value g i e formed.form at).side lifted)
  lifted_sort Circuit g scope i m e es it formed at lifted known = by (call_shape (form_at d Circuit g i e formed.form at)) (lifted_head lifted)
    where
      by : CallShape (origins d) e → (head_of e ≡ prim Fmap) ⊎ (head_of e ≡ prim Ap) → (Circuit ≡ Circuit) × (it.sort ≡ Value)
      by (a_lifted k of found value call) head =
          let same = one_lift call lifted in
          (refl, made_sort m it of known (subst (λ k. slice_get (origins d).made k ≡ Some of) same found) ∙ value)
      by (shape_call k of found circuit is variables) (inl h) = let both : made k ≡ prim Fmap = sym is ∙ h in absurd cc
      by (shape_call k of found circuit is variables) (inr h) = let both : made k ≡ prim Ap = sym is ∙ h in absurd cc
      by (no_call nope) (inl h) = absurd ((subst IsNoCall h nope).0 refl)
      by (no_call nope) (inr h) = absurd ((subst IsNoCall h nope).1 refl)

module _ (facts : Facts) (law : SameKeepsMeasure) (d : Design) (inputs : List Thunk) where
  mutual
    instance_stays : {path : List ℕ} {h : History} {m : ℕ} {γ : Thunks} (it : Made) → InstanceAt d inputs path h m γ → slice_get d.state m ≡ Some it → it.sort ≡ Circuit → (other : History) → InstanceAt d inputs path other m γ
    instance_stays it the_top known circuit other = the_top
    instance_stays {m = m} it (a_call {b = b} {g = g} {scope = scope} i xs at inside is module_there used) known circuit other =
        let sort = called_sort d b.sort g scope i m xs it (inside_formed facts law d inside (formed facts law d at)) is known in
        a_call i xs (block_stays at (sym sort ∙ circuit) other) inside is module_there used
    instance_stays {m = m} it (a_lift {b = b} {g = g} {scope = scope} {e = e} i xs at inside is lifted module_there used) known circuit other =
        let sorts = lifted_sort d b.sort g scope i m e (names xs) it (inside_formed facts law d inside (formed facts law d at)) is lifted known in
        let wrong : Value ≡ Circuit = sym sorts.1 ∙ circuit in
        absurd cc

    pub block_stays : {path : List ℕ} {h : History} {b : Block} → BlockAt d inputs path h b → b.sort ≡ Circuit → (other : History) → BlockAt d inputs path other b
    block_stays (the_body {it = it} at known is parameters block) circuit other = the_body (instance_stays it at known circuit other) known is parameters block
    block_stays (an_alternative i at inside is f known first block) circuit other = absurd cc
    block_stays (unseen_alternative i n m widths at inside is unseen known wide pattern have cells block) circuit other = absurd cc
