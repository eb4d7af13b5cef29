-- Lifted calls of made definitions: each parameter gets a signal of its type.
use Rattle.std.proofs.Common.{List, Some, [], ap, arith, inl, inr, length, length-append, map, refl, subst, suc, sym, zero, ℕ, ◌++◌, ◌+◌, ◌∙◌, ◌∷◌, ◌≡◌, ◌⊎◌}
use Rattle.std.proofs.lemmas.List.{length-map}
use Rattle.std.specs.Prelude.{slice_get}
use Rattle.normal_forms.specs.Circuits.{IsCircuitSide, of_variable, of_register, of_block_ram, of_synchronizer, of_pure, of_lifted, of_call, of_constructor, of_projection, IsLiftedCall, lifted_on_one as one_lifted, lifted_on_more as more_lifted}
use Rattle.chw_prims.specs.declared.prim.Primitive.{Primitive as Prim}
use Rattle.net_built.specs.Circuits.{IsLifted, lifted_on_one, lifted_on_more}
use Rattle.chw_prims.specs.declared.prim.Primitive.TheVariants.{Ap, BlockRam, Fmap, Pure, Register, UnsafeSynchronizer}
use Rattle.chw_typing.specs.Scopes.{AreSame, AreTermTypes, Setting, declared}
use Rattle.chw_terms.specs.declared.scene.Sort.TheVariants.{Circuit}
use Rattle.net_grounds.specs.Facts.{Facts}
use Rattle.net_means.proofs.Lists.{found_in_map, same_some}
use Rattle.net_means.specs.CircuitBits.Instances.{Design}
use Rattle.chw_types.specs.declared.kind.Kind.TheVariants.{Dom, Val}
use Rattle.net_means.proofs.NetBits.Params.{Function, params_same}
use Rattle.chw_terms.specs.TermTree.{Group, TermTree, con, made, prim, var}
use Rattle.net_means.proofs.NetBits.Forms.{GroupFormed, origins, setting, side_formed}
use Rattle.chw_typing.specs.Typing.{HasType, HasTypeUpTo, h_made}
use Rattle.chw_typing.specs.Programs.{IsSound}
use Rattle.chw_terms.specs.declared.scene.Made.{Made}
use Rattle.rewriting.specs.Origins.{MadeOf, Origins, made_of}
use Rattle.chw_typing.specs.SpineLaws.{PrimAtArguments}
use Rattle.chw_types.specs.SameTypes.{SameTypes, same_fun, same_signal}
use Rattle.chw_types.specs.TypeTree.{TypeTree, fun, signal, ty_var}
use Rattle.net_built.specs.Terms.{Variable, head_of}
use Rattle.rewriting.specs.Spots.{asked_for}
use Rattle.chw_meaning.specs.Values.{body_at}
use Rattle.net_means.proofs.NetBits.Standing.{formed}
use Rattle.chw_typing.specs.HeadTypes.{from_each}
use Rattle.net_means.proofs.NetFits.Shapes.{head_then}
use Rattle.net_means.proofs.NetBits.Sorts.{lifted_head, one_lift}
use Rattle.net_means.proofs.SideBits.Heads.{names}
use Rattle.net_means.proofs.NetFits.Outputs.{results_same}
use Rattle.chw_types.specs.TypeMoves.{sub}
use Rattle.net_means.specs.SideBits.Sides.{types_in}

-- signals of these types, up to naturals
abbrev pub AreLifted : Setting → List TypeTree → List TypeTree → List TermTree → Type 0
AreLifted s vars [] [] = Unit {0}
AreLifted s vars (t ∷ ts) (e ∷ es) = ((d : TypeTree) × (a : TypeTree) × HasTypeUpTo s [] vars e (signal d a) × SameTypes a t) × AreLifted s vars ts es
AreLifted s vars _ _ = ⊥

lifted_append : (s : Setting) (vars ts us : List TypeTree) (es fs : List TermTree) → AreLifted s vars ts es → AreLifted s vars us fs → AreLifted s vars (ts ++ us) (es ++ fs)
lifted_append s vars [] us [] fs h k = k
lifted_append s vars [] us (e ∷ es) fs h k = absurd h
lifted_append s vars (t ∷ ts) us [] fs h k = absurd h
lifted_append s vars (t ∷ ts) us (e ∷ es) fs h k = (h.0, lifted_append s vars ts us es fs h.1 k)

lifted_length : (s : Setting) (vars ts : List TypeTree) (es : List TermTree) → AreLifted s vars ts es → length ts ≡ length es
lifted_length s vars [] [] h = refl
lifted_length s vars [] (e ∷ es) h = absurd h
lifted_length s vars (t ∷ ts) [] h = absurd h
lifted_length s vars (t ∷ ts) (e ∷ es) h = ap suc (lifted_length s vars ts es h.1)

from_each_then : (ts : List TypeTree) (a b : TypeTree) → from_each (ts ++ a ∷ []) b ≡ from_each ts (fun a b)
from_each_then [] a b = refl
from_each_then (t ∷ ts) a b = ap (fun t) (from_each_then ts a b)

from_each_same : Facts → (ts : List TypeTree) {a b : TypeTree} → SameTypes a b → SameTypes (from_each ts a) (from_each ts b)
from_each_same facts [] h = h
from_each_same facts (t ∷ ts) h = same_fun (facts.same.same_self t) (from_each_same facts ts h)

pub same_parts : Facts → (ps ts : List TypeTree) (r t : TypeTree) → length ps ≡ length ts → SameTypes (from_each ps r) (from_each ts t) → AreSame ps ts × SameTypes r t
same_parts facts [] [] r u many h = (tt, h)
same_parts facts [] (t ∷ ts) r u many h = absurd (omega (arith, many))
same_parts facts (p ∷ ps) [] r u many h = absurd (omega (arith, many))
same_parts facts (p ∷ ps) (t ∷ ts) r u many h = let rest = same_parts facts ps ts r u (omega (arith, many)) (results_same facts h) in ((params_same facts h, rest.0), rest.1)

-- what a lifted function was given, and what is left
record SoFar (s : Setting) (vars : List TypeTree) (whole u : TypeTree) (es : List TermTree) : Type 0 where
  ts : List TypeTree
  rest : TypeTree
  dom : TypeTree
  given : AreLifted s vars ts es
  is : SameTypes whole (from_each ts rest)
  gives : SameTypes (signal dom rest) u

signal_payload : {a b c d : TypeTree} → signal a b ≡ signal c d → b ≡ d
signal_payload e = cc

made_whole : {s : Setting} {vars : List TypeTree} {m : ℕ} {whole t : TypeTree} → slice_get s.made m ≡ Some whole → HasType s [] vars (made m) t → t ≡ whole
made_whole known (h_made is) = same_some is known

module _ (facts : Facts) (prims : PrimAtArguments) (s : Setting) (sound : IsSound s) (vars : List TypeTree) (scoped : AreTermTypes s [] vars) where
  lifted_given : {m : ℕ} {whole : TypeTree} → slice_get s.made m ≡ Some whole → {e : TermTree} {es : List TermTree} → IsLifted m e es → (u : TypeTree) → HasType s [] vars e u → SoFar s vars whole u es
  unfolding sub
  lifted_given {m} {whole} known (lifted_on_one {d = d} {a = a} {b = b} {x = x}) u typed =
      let all = prims s [] vars Fmap (Dom ∷ Val ∷ Val ∷ []) (fun (ty_var 1) (ty_var 0) ∷ signal (ty_var 2) (ty_var 1) ∷ []) (signal (ty_var 2) (ty_var 0)) (d ∷ a ∷ b ∷ []) (made m ∷ x ∷ []) u sound scoped refl refl refl typed in
      let function : HasTypeUpTo s [] vars (made m) (fun a b) = all.args_given.0 in
      let operand : HasTypeUpTo s [] vars x (signal d a) = all.args_given.1.0 in
      let same : SameTypes (fun a b) whole = subst (SameTypes (fun a b)) (made_whole known function.has) function.same in
      record {
        ts = a ∷ [];
        rest = b;
        dom = d;
        given = ((d, a, operand, facts.same.same_self a), tt);
        is = facts.same.same_turned same;
        gives = all.gives;
      }
  lifted_given {m} {whole} known (lifted_on_more {d = d} {a = a} {b = b} {u = f} {x = x} {xs = es} before) u typed =
      let all = prims s [] vars Ap (Dom ∷ Val ∷ Val ∷ []) (signal (ty_var 2) (fun (ty_var 1) (ty_var 0)) ∷ signal (ty_var 2) (ty_var 1) ∷ []) (signal (ty_var 2) (ty_var 0)) (d ∷ a ∷ b ∷ []) (f ∷ x ∷ []) u sound scoped refl refl refl typed in
      let function : HasTypeUpTo s [] vars f (signal d (fun a b)) = all.args_given.0 in
      let operand : HasTypeUpTo s [] vars x (signal d a) = all.args_given.1.0 in
      let so_far = lifted_given known before function.type function.has in
      let form = facts.same.as_signal (facts.same.same_through so_far.gives (facts.same.same_turned function.same)) in
      let is : form.1 ≡ fun a b = signal_payload (sym form.2) in
      let same : SameTypes so_far.rest (fun a b) = subst (SameTypes so_far.rest) is form.4 in
      let longer : SameTypes whole (from_each (so_far.ts ++ a ∷ []) b) = subst (SameTypes whole) (sym (from_each_then so_far.ts a b)) (facts.same.same_through so_far.is (from_each_same facts so_far.ts same)) in
      record {
        ts = so_far.ts ++ a ∷ [];
        rest = b;
        dom = d;
        given = lifted_append s vars so_far.ts (a ∷ []) es (x ∷ []) so_far.given ((d, a, operand, facts.same.same_self a), tt);
        is = longer;
        gives = all.gives;
      }

-- as many operands as are asked for
record LiftCounted (o : Origins) (e : TermTree) (m : ℕ) : Type 0 where
  it : MadeOf
  known : slice_get o.made m ≡ Some it
  lifted : IsLiftedCall m e (asked_for it.ty)

no_prim : (p q : Prim) {A : Type 0} → (p ≡ Fmap → ⊥) → (p ≡ Ap → ⊥) → prim p ≡ prim q → (q ≡ Fmap) ⊎ (q ≡ Ap) → A
no_prim p q f a e (inl is) = let same : p ≡ q = cc in absurd (f (same ∙ is))
no_prim p q f a e (inr is) = let same : p ≡ q = cc in absurd (a (same ∙ is))

lift_counted : {o : Origins} {e : TermTree} → IsCircuitSide o e → (m : ℕ) (es : List TermTree) → IsLifted m e es → (q : Prim) → head_of e ≡ prim q → (q ≡ Fmap) ⊎ (q ≡ Ap) → LiftCounted o e m
lift_counted of_variable m es lifted q h is = absurd cc
lift_counted (of_register k) m es lifted q h is = no_prim Register q (λ e. cc) (λ e. cc) h is
lift_counted (of_block_ram k w) m es lifted q h is = no_prim BlockRam q (λ e. cc) (λ e. cc) h is
lift_counted of_synchronizer m es lifted q h is = no_prim UnsafeSynchronizer q (λ e. cc) (λ e. cc) h is
lift_counted (of_pure k) m es lifted q h is = no_prim Pure q (λ e. cc) (λ e. cc) h is
lift_counted {o} {e} (of_lifted j {it = it} known value call) m es lifted q h is =
    let same : j ≡ m = one_lift call lifted in
    record {
      it = it;
      known = subst (λ j. slice_get o.made j ≡ Some it) same known;
      lifted = subst (λ j. IsLiftedCall j e (asked_for it.ty)) same call;
    }
lift_counted (of_call j xs known circuit n) m es lifted q h is = let k : made j ≡ prim q = sym (head_then (made j) [] (names xs)) ∙ h in absurd cc
lift_counted (of_constructor c types xs known n) m es lifted q h is = let k : con c ≡ prim q = sym (head_then (con c) types (names xs)) ∙ h in absurd cc
lift_counted (of_projection l) m es lifted q h is = absurd cc

operands_count : {m n : ℕ} {e : TermTree} {es : List TermTree} → IsLiftedCall m e n → IsLifted m e es → length es ≡ n
operands_count call lifted = same call lifted
  where
    same : {k m n : ℕ} {e : TermTree} {es : List TermTree} → IsLiftedCall k e n → IsLifted m e es → length es ≡ n
    same one_lifted lifted_on_one = refl
    same (more_lifted call) (lifted_on_more {x = x} {xs = es} before) = let one = same call before in length-append es (x ∷ []) ∙ (let e : length es + 1 ≡ suc (length es) = omega arith in e) ∙ ap suc one

-- a lifted call gives each parameter a signal of its type
pub record LiftGiven (d : Design) (scope : List Variable) (xs : List ℕ) (params : List TypeTree) (it : Made) (f : Function d it params) (t : TypeTree) : Type 0 where
  pub count : length params ≡ length xs
  pub ts : List TypeTree
  pub same : AreSame params ts
  pub given : AreLifted (setting d) (types_in scope) ts (names xs)
  pub dom : TypeTree
  pub result : SameTypes (signal dom f.result) t

pub lift_given : Facts → PrimAtArguments → (d : Design) (g : Group) (scope : List Variable) (i m : ℕ) (e : TermTree) (xs : List ℕ) (it : Made) (params : List TypeTree) (t : TypeTree) (f : Function d it params) → GroupFormed d Circuit g scope → body_at g i ≡ Some e → slice_get (declared g) i ≡ Some t → IsLifted m e (names xs) → slice_get d.state m ≡ Some it
    → LiftGiven d scope xs params it f t
lift_given facts prims d g scope i m e xs it params t f formed at declares lifted known =
    let side = side_formed d formed i t e declares at in
    let c = by_head side.form (lifted_head lifted) in
    let there = found_in_map made_of d.state m it known in
    let same_ty : it.ty ≡ c.it.ty = ap (λ (m : MadeOf). m.ty) (same_some there c.known) in
    let typed_there : slice_get (setting d).made m ≡ Some it.ty = found_in_map (λ (m : MadeOf). m.ty) (map made_of d.state) m (made_of it) there in
    let so_far = lifted_given facts prims (setting d) d.sound (types_in scope) formed.scoped typed_there lifted side.typed.type side.typed.has in
    let operands : length (names xs) ≡ asked_for c.it.ty = operands_count c.lifted lifted in
    let long : length (names xs) ≡ length xs = length-map xs (λ x. var x) in
    let asked : asked_for it.ty ≡ asked_for c.it.ty = ap (λ t. asked_for t) same_ty in
    let fcount = f.count in
    let many : length params ≡ length xs = omega (arith, operands, long, asked, fcount) in
    let psize = facts.scopes.are_same_length params f.ps f.same in
    let tsize = lifted_length (setting d) (types_in scope) so_far.ts (names xs) so_far.given in
    let parts = same_parts facts f.ps so_far.ts f.result so_far.rest (omega (arith, psize, tsize, long, many)) (subst (λ w. SameTypes w (from_each so_far.ts so_far.rest)) f.is so_far.is) in
    record {
      count = many;
      ts = so_far.ts;
      same = facts.scopes.are_same_through params f.ps so_far.ts f.same parts.0;
      given = so_far.given;
      dom = so_far.dom;
      result = facts.same.same_through (same_signal (facts.same.same_self so_far.dom) parts.1) (facts.same.same_through so_far.gives (facts.same.same_turned side.typed.same));
    }
  where
    by_head : IsCircuitSide (origins d) e → (head_of e ≡ prim Fmap) ⊎ (head_of e ≡ prim Ap) → LiftCounted (origins d) e m
    by_head side (inl h) = lift_counted side m (names xs) lifted Fmap h (inl refl)
    by_head side (inr h) = lift_counted side m (names xs) lifted Ap h (inr refl)

-- the operand of one parameter
pub record LiftedAt (d : Design) (scope : List Variable) (x : ℕ) (t : TypeTree) : Type 0 where
  pub dom : TypeTree
  pub payload : TypeTree
  pub typed : HasTypeUpTo (setting d) [] (types_in scope) (var x) (signal dom payload)
  pub same : SameTypes payload t

pub lifted_at : Facts → (d : Design) (scope : List Variable) (params ts : List TypeTree) (xs : List ℕ) (j x : ℕ) (t : TypeTree) → AreSame params ts → AreLifted (setting d) (types_in scope) ts (names xs) → slice_get xs j ≡ Some x → slice_get params j ≡ Some t → LiftedAt d scope x t
lifted_at facts d scope [] ts xs j x t are given at is = absurd cc
lifted_at facts d scope (q ∷ params) [] xs j x t are given at is = absurd are
lifted_at facts d scope (q ∷ params) (p ∷ ts) [] j x t are given at is = absurd cc
lifted_at facts d scope (q ∷ params) (p ∷ ts) (y ∷ xs) zero x t are given at is =
    let operand : y ≡ x = cc in
    let type : q ≡ t = cc in
    let one : LiftedAt d scope y q = record { dom = given.0.0; payload = given.0.1; typed = given.0.2; same = facts.same.same_through given.0.3 (facts.same.same_turned are.0) } in
    subst (λ x. LiftedAt d scope x t) operand (subst (λ t. LiftedAt d scope y t) type one)
lifted_at facts d scope (q ∷ params) (p ∷ ts) (y ∷ xs) (suc j) x t are given at is = lifted_at facts d scope params ts xs j x t are.1 given.1 at is
