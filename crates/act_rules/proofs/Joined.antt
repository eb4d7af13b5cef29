-- Functions on signals, joined into one.
use Rattle.std.proofs.Common.{◌≡◌, ℕ, suc, List, [], refl, sym, ap, subst, arith}
use Rattle.chw_types.specs.declared.kind.Kind.{Kind}
use Rattle.chw_types.specs.declared.kind.Kind.TheVariants.{Val}
use Rattle.chw_types.specs.Kinds.{kind_fun, kind_signal}
use Rattle.chw_types.specs.SameTypes.{SameTypes, same_fun, same_signal}
use Rattle.chw_types.specs.TypeTree.{TypeTree, fun, signal, TypeTrees}
use Rattle.chw_types.specs.TypeMoves.{sub, Renaming, raised}
use Rattle.chw_types.proofs.TypeLaws.{same as same_function}
use Rattle.chw_types.proofs.SameLaws.{same_self, same_turned}
use Rattle.chw_terms.specs.declared.program.Program.{Program}
use Rattle.chw_terms.specs.TermMoves.{rename, shift}
use Rattle.chw_terms.specs.TermTree.{TermTree, var, lam, app}
use Rattle.chw_terms.proofs.Renamed.{rename_ids}
use Rattle.chw_typing.specs.Scopes.{HasKind, AreTermTypes}
use Rattle.chw_typing.specs.Programs.{AreClosed, IsSound, IsTyped, setting_of}
use Rattle.chw_typing.specs.Typing.{HasType, HasTypeUpTo}
use Rattle.chw_typing.proofs.Kinded.{type_kinded}
use Rattle.chw_meaning.specs.Values.{History, Thunk, closed, applied, sample, Thunks, thunk_and, closed_type}
use Rattle.rewriting.specs.Shapes.{fmap_of, ap_of, pure_of}
use Rattle.rewriting.specs.Lifted.{composed, before_each, on_value, behind_each, each_composed}
use Rattle.acts.specs.Levels.{Alike, term_runs, term_has, ThunksAct}
use Rattle.acts.specs.Acts.{acts_from}
use Rattle.acts.specs.Terms.{TiedBy, Kinded, ActsUnder, OriginsTyped, setting_with}
use Rattle.rewriting.specs.Origins.{with_origins}
use Rattle.acts.proofs.Closing.{closed_kind, closed_same}
use Rattle.acts.proofs.Forms.{TermsAct, applied_acts, thunk_acts}
use Rattle.acts.proofs.Globals.{sound_with}
use Rattle.acts.proofs.Levels.{IsLevels, from_turns, from_signal, alike_same}
use Rattle.acts.proofs.SameActs.{same_acts}
use Rattle.act_rules.proofs.RuleMoves.{past_one, tied_spare, moved_acts}
use Rattle.act_rules.proofs.Opened.{Opens, opens_then, opens_applied, opens_sample, opens_lambda, opens_called, opens_app, opens_fmap, opens_ap, opens_pure, fmap_reaches, ap_reaches, pure_reaches}
use Rattle.act_rules.proofs.Payloads.{values_alike, ActsAt, reached_at, samples_at, sampled_acts, function_at, app_at, var_at, signals_act, as_up_to, fmap_parts, ap_parts, pure_part, given_payload}

-- a shift past two variables
past_two : (e : TermTree) → shift e 0 2 ≡ rename e (λ x. suc (suc x))
past_two e = ap (rename e) (same_function (raised 0 2) (λ x. suc (suc x)) here)
  where
    here : (x : ℕ) → raised 0 2 x ≡ suc (suc x)
    here x = omega arith

-- a function of two parameters that is mapped on a signal, called with the second
opens_mapped : (p : Program) (h : History) (d a b t u : TypeTree) (e s : TermTree) (γ : Thunks) (δ : TypeTrees) (x : Thunk) → Opens p h (applied (sample (closed (fmap_of d a b (lam t (lam u e)) s) γ δ) h) x) (closed e (thunk_and x (thunk_and (sample (closed s γ δ) h) γ)) δ)
opens_mapped p h d a b t u e s γ δ x =
    let y = sample (closed s γ δ) h in
    opens_then
    (opens_applied x (opens_sample (opens_then (opens_fmap p h γ δ d a b (lam t (lam u e)) s) (opens_called t (lam u e) γ δ y))))
    (opens_lambda u e (thunk_and y γ) δ x)

module _ (p : Program) (sound : IsSound (setting_of p)) (typed : IsTyped p) (types : List TypeTree) (o : ℕ → TermTree) (are_closed : AreClosed (setting_of p) types) (have : OriginsTyped p types o) where
  full : IsSound (setting_with p types)
  full = sound_with p types sound are_closed

  module _ (kinds : List Kind) (vars : List TypeTree) (g : AreTermTypes (setting_with p types) kinds vars) (n : ℕ) (δ : TypeTrees) (γ' γ : Thunks) (known : Kinded p kinds δ) (names : TiedBy p (acts_from p n) vars (λ x. x) (λ x. x) δ γ' γ) where
    l : IsLevels p (acts_from p n)
    l = from_turns p n

    -- a term, moved on the first side, at a type that it has up to naturals
    moved_part : {e : TermTree} {t : TypeTree} {k : Kind} (ρ : Renaming) (inner : Thunks) → TiedBy p (acts_from p n) vars ρ (λ x. x) δ inner γ → HasKind (setting_of p) kinds t k → HasTypeUpTo (setting_with p types) kinds vars e t → ThunksAct p (acts_from p n) (closed_type t δ) (closed (with_origins o (rename e ρ)) inner δ) (closed (with_origins o e) γ δ)
    moved_part {e} {t} ρ inner tied k d =
        let alike = closed_same p sound δ known (type_kinded d.has full g).has k (same_turned d.same) in
        thunk_acts l (closed_type t δ) (with_origins o (rename e ρ)) (with_origins o e) inner γ δ δ
        (same_acts sound l alike (term_runs p (with_origins o (rename e ρ)) inner δ) (term_has p (with_origins o e) γ δ)
        (moved_acts p sound typed types o are_closed have ρ g d.has (acts_from p n) l δ inner γ known tied))

    part : {e : TermTree} {t : TypeTree} {k : Kind} → HasKind (setting_of p) kinds t k → HasTypeUpTo (setting_with p types) kinds vars e t → ThunksAct p (acts_from p n) (closed_type t δ) (closed (with_origins o e) γ' δ) (closed (with_origins o e) γ δ)
    part {e} {t} k d = subst (λ a. ThunksAct p (acts_from p n) (closed_type t δ) (closed (with_origins o a) γ' δ) (closed (with_origins o e) γ δ)) (rename_ids e) (moved_part (λ x. x) γ' names k d)

    -- a signal at one history
    payload : {e : TermTree} {d t : TypeTree} {k : Kind} (h : History) → HasKind (setting_of p) kinds (signal d t) k → HasTypeUpTo (setting_with p types) kinds vars e (signal d t) → ActsAt p (acts_from p n) (closed_type t δ) h (closed (with_origins o e) γ' δ) (closed (with_origins o e) γ δ)
    unfolding sub
    payload {e} {d} {t} h k has m v f = from_signal l m (closed_type d δ) (closed_type t δ) v _ (part k has h h m v refl f)

    values : {t : TypeTree} → HasKind (setting_of p) kinds t Val → (h' h : History) → Alike (closed_type t δ) h' h
    values {t} k h' h = values_alike (setting_of p) [] (closed_type t δ) h' h (closed_kind p δ known k)

    -- at the type that the whole has
    at_whole : {d b t : TypeTree} {k : Kind} (first : TermTree) {e : TermTree} → HasKind (setting_of p) kinds (signal d b) k → SameTypes (signal d b) t → HasType (setting_with p types) kinds vars e t → TermsAct p (acts_from p n) (closed_type (signal d b) δ) first γ' δ (with_origins o e) γ δ → TermsAct p (acts_from p n) (closed_type t δ) first γ' δ (with_origins o e) γ δ
    at_whole first {e = e} k same whole acts =
        same_acts sound l (closed_same p sound δ known k (type_kinded whole full g).has same) (term_runs p first γ' δ) (term_has p (with_origins o e) γ δ) acts

    -- what acts as a thunk at every history does so at one
    acts_at : {t : TypeTree} {x' x : Thunk} (h : History) → ThunksAct p (acts_from p n) t x' x → ActsAt p (acts_from p n) t h x' x
    acts_at {t} h acts m v d = acts h h m v (alike_same t h) d

    ap_pure_here : (d a b d' a' : TypeTree) (f s : TermTree) (t : TypeTree) → HasType (setting_with p types) kinds vars (ap_of d a b (pure_of d' a' f) s) t → TermsAct p (acts_from p n) (closed_type t δ) (with_origins o (fmap_of d a b f s)) γ' δ (with_origins o (ap_of d a b (pure_of d' a' f) s)) γ δ
    unfolding sub with_origins
    ap_pure_here d a b d' a' f s t whole =
        let outer = ap_parts full g whole in
        let fs = pure_part full g outer.function in
        let kf = kind_fun outer.taken outer.given tt in
        let f1 = with_origins o f in
        let s1 = with_origins o s in
        at_whole (fmap_of d a b f1 s1) (kind_signal outer.in_domain outer.given) outer.gives whole
        (signals_act l (closed_type d δ) (closed_type b δ) (fmap_of d a b f1 s1) (ap_of d a b (pure_of d' a' f1) s1) γ' γ δ δ
        (λ h. applied (sample (closed f1 γ' δ) h) (sample (closed s1 γ' δ) h)) (λ h. applied (sample (closed (pure_of d' a' f1) γ δ) h) (sample (closed s1 γ δ) h))
        (λ h. opens_fmap p h γ' δ d a b f1 s1) (λ h. ap_reaches p h γ δ d a b (pure_of d' a' f1) s1)
        (λ h. acts_at h
        (applied_acts l (closed_type a δ) (closed_type b δ) (sample (closed f1 γ' δ) h) (sample (closed (pure_of d' a' f1) γ δ) h) (sample (closed s1 γ' δ) h) (sample (closed s1 γ δ) h)
        (samples_at l (fun (closed_type a δ) (closed_type b δ)) h (closed f1 γ' δ) (closed (pure_of d' a' f1) γ δ)
        (reached_at l (fun (closed_type a δ) (closed_type b δ)) h (closed f1 γ' δ) (closed f1 γ δ) (closed (pure_of d' a' f1) γ δ) (pure_reaches p h γ δ d' a' f1) (acts_at h (part kf fs))))
        (samples_at l (closed_type a δ) h (closed s1 γ' δ) (closed s1 γ δ) (payload h (kind_signal outer.in_domain outer.taken) outer.on)))))

    fmap_pure_here : (d a b d' a' : TypeTree) (f v : TermTree) (t : TypeTree) → HasType (setting_with p types) kinds vars (fmap_of d a b f (pure_of d' a' v)) t → TermsAct p (acts_from p n) (closed_type t δ) (with_origins o (pure_of d b (app f v))) γ' δ (with_origins o (fmap_of d a b f (pure_of d' a' v))) γ δ
    unfolding sub with_origins
    fmap_pure_here d a b d' a' f v t whole =
        let outer = fmap_parts full g whole in
        let vs = pure_part full g outer.on in
        let kf = kind_fun outer.taken outer.given tt in
        let f1 = with_origins o f in
        let v1 = with_origins o v in
        at_whole (pure_of d b (app f1 v1)) (kind_signal outer.in_domain outer.given) outer.gives whole
        (signals_act l (closed_type d δ) (closed_type b δ) (pure_of d b (app f1 v1)) (fmap_of d a b f1 (pure_of d' a' v1)) γ' γ δ δ
        (λ h. applied (closed f1 γ' δ) (closed v1 γ' δ)) (λ h. applied (sample (closed f1 γ δ) h) (sample (closed (pure_of d' a' v1) γ δ) h))
        (λ h. opens_then (opens_pure p h γ' δ d b (app f1 v1)) (opens_app f1 v1 γ' δ)) (λ h. fmap_reaches p h γ δ d a b f1 (pure_of d' a' v1))
        (λ h. acts_at h
        (applied_acts l (closed_type a δ) (closed_type b δ) (closed f1 γ' δ) (sample (closed f1 γ δ) h) (closed v1 γ' δ) (sample (closed (pure_of d' a' v1) γ δ) h)
        (sampled_acts l (fun (closed_type a δ) (closed_type b δ)) h (closed f1 γ' δ) (closed f1 γ δ) (closed f1 γ δ) (λ h' h. tt) (λ w has. has) (part kf outer.function))
        (sampled_acts l (closed_type a δ) h (closed v1 γ' δ) (closed v1 γ δ) (closed (pure_of d' a' v1) γ δ) (values outer.taken) (pure_reaches p h γ δ d' a' v1) (part outer.taken vs)))))

    -- a term below one more binder, and below two
    raised_part : {e : TermTree} {t : TypeTree} {k : Kind} (x : Thunk) → HasKind (setting_of p) kinds t k → HasTypeUpTo (setting_with p types) kinds vars e t → ThunksAct p (acts_from p n) (closed_type t δ) (closed (with_origins o (shift e 0 1)) (thunk_and x γ') δ) (closed (with_origins o e) γ δ)
    raised_part {e} {t} x k d =
        subst (λ a. ThunksAct p (acts_from p n) (closed_type t δ) (closed (with_origins o a) (thunk_and x γ') δ) (closed (with_origins o e) γ δ)) (sym (past_one e))
        (moved_part suc (thunk_and x γ') (tied_spare vars (λ x. x) δ x γ' γ names) k d)

    raised_twice : {e : TermTree} {t : TypeTree} {k : Kind} (x y : Thunk) → HasKind (setting_of p) kinds t k → HasTypeUpTo (setting_with p types) kinds vars e t → ThunksAct p (acts_from p n) (closed_type t δ) (closed (with_origins o (shift e 0 2)) (thunk_and x (thunk_and y γ')) δ) (closed (with_origins o e) γ δ)
    raised_twice {e} {t} x y k d =
        subst (λ a. ThunksAct p (acts_from p n) (closed_type t δ) (closed (with_origins o a) (thunk_and x (thunk_and y γ')) δ) (closed (with_origins o e) γ δ)) (sym (past_two e))
        (moved_part (λ x. suc (suc x)) (thunk_and x (thunk_and y γ')) (tied_spare vars suc δ x (thunk_and y γ') γ (tied_spare vars (λ x. x) δ y γ' γ names)) k d)

    -- samples of a signal
    sampled : {e : TermTree} {d t : TypeTree} {k : Kind} (h : History) → HasKind (setting_of p) kinds (signal d t) k → HasTypeUpTo (setting_with p types) kinds vars e (signal d t) → ThunksAct p (acts_from p n) (closed_type t δ) (sample (closed (with_origins o e) γ' δ) h) (sample (closed (with_origins o e) γ δ) h)
    sampled {e} {t = t} h k d = samples_at l (closed_type t δ) h (closed (with_origins o e) γ' δ) (closed (with_origins o e) γ δ) (payload h k d)

    fmap_fmap_here : (d a b c d' b' tx : TypeTree) (f g1 s : TermTree) (t : TypeTree) → HasType (setting_with p types) kinds vars (fmap_of d b c f (fmap_of d' a b' g1 s)) t → TermsAct p (acts_from p n) (closed_type t δ) (with_origins o (fmap_of d a c (composed tx f g1) s)) γ' δ (with_origins o (fmap_of d b c f (fmap_of d' a b' g1 s))) γ δ
    unfolding sub with_origins
    fmap_fmap_here d a b c d' b' tx f g1 s t whole =
        let outer = fmap_parts full g whole in
        let inner = fmap_parts full g outer.on.has in
        let gs = as_up_to inner.function (same_fun (same_self a) (given_payload outer.on inner)) in
        let kf = kind_fun outer.taken outer.given tt in
        let kg = kind_fun inner.taken outer.taken tt in
        let first = with_origins o f in
        let second = with_origins o g1 in
        let on = with_origins o s in
        let body = app (with_origins o (shift f 0 1)) (app (with_origins o (shift g1 0 1)) (var 0)) in
        let join = lam tx body in
        let past = fmap_of d' a b' second on in
        at_whole (fmap_of d a c join on) (kind_signal outer.in_domain outer.given) outer.gives whole
        (signals_act l (closed_type d δ) (closed_type c δ) (fmap_of d a c join on) (fmap_of d b c first past) γ' γ δ δ
        (λ h. closed body (thunk_and (sample (closed on γ' δ) h) γ') δ) (λ h. applied (sample (closed first γ δ) h) (sample (closed past γ δ) h))
        (λ h. opens_then (opens_fmap p h γ' δ d a c join on) (opens_called tx body γ' δ (sample (closed on γ' δ) h)))
        (λ h. fmap_reaches p h γ δ d b c first past)
        (λ h.
        let x = sample (closed on γ' δ) h in
        let env = thunk_and x γ' in
        acts_at h
        (app_at l (closed_type b δ) (closed_type c δ) (with_origins o (shift f 0 1)) (app (with_origins o (shift g1 0 1)) (var 0)) env δ (sample (closed first γ δ) h) (sample (closed past γ δ) h)
        (function_at l (closed_type b δ) (closed_type c δ) h (closed (with_origins o (shift f 0 1)) env δ) (closed first γ δ) (raised_part x kf outer.function))
        (sampled_acts l (closed_type b δ) h (closed (app (with_origins o (shift g1 0 1)) (var 0)) env δ) (applied (sample (closed second γ δ) h) (sample (closed on γ δ) h)) (closed past γ δ) (values outer.taken) (fmap_reaches p h γ δ d' a b' second on)
        (app_at l (closed_type a δ) (closed_type b δ) (with_origins o (shift g1 0 1)) (var 0) env δ (sample (closed second γ δ) h) (sample (closed on γ δ) h)
        (function_at l (closed_type a δ) (closed_type b δ) h (closed (with_origins o (shift g1 0 1)) env δ) (closed second γ δ) (raised_part x kg gs))
        (var_at l (closed_type a δ) 0 env δ x (sample (closed on γ δ) h) refl (sampled h (kind_signal inner.in_domain inner.taken) inner.on)))))))

    ap_value_here : (d a b d' a' th : TypeTree) (u v : TermTree) (t : TypeTree) → HasType (setting_with p types) kinds vars (ap_of d a b u (pure_of d' a' v)) t → TermsAct p (acts_from p n) (closed_type t δ) (with_origins o (fmap_of d (fun a b) b (on_value th v) u)) γ' δ (with_origins o (ap_of d a b u (pure_of d' a' v))) γ δ
    unfolding sub with_origins
    ap_value_here d a b d' a' th u v t whole =
        let outer = ap_parts full g whole in
        let vs = pure_part full g outer.on in
        let kf = kind_fun outer.taken outer.given tt in
        let functions = with_origins o u in
        let value = with_origins o v in
        let body = app (var 0) (with_origins o (shift v 0 1)) in
        let join = lam th body in
        let past = pure_of d' a' value in
        at_whole (fmap_of d (fun a b) b join functions) (kind_signal outer.in_domain outer.given) outer.gives whole
        (signals_act l (closed_type d δ) (closed_type b δ) (fmap_of d (fun a b) b join functions) (ap_of d a b functions past) γ' γ δ δ
        (λ h. closed body (thunk_and (sample (closed functions γ' δ) h) γ') δ) (λ h. applied (sample (closed functions γ δ) h) (sample (closed past γ δ) h))
        (λ h. opens_then (opens_fmap p h γ' δ d (fun a b) b join functions) (opens_called th body γ' δ (sample (closed functions γ' δ) h)))
        (λ h. ap_reaches p h γ δ d a b functions past)
        (λ h.
        let x = sample (closed functions γ' δ) h in
        let env = thunk_and x γ' in
        acts_at h
        (app_at l (closed_type a δ) (closed_type b δ) (var 0) (with_origins o (shift v 0 1)) env δ (sample (closed functions γ δ) h) (sample (closed past γ δ) h)
        (var_at l (fun (closed_type a δ) (closed_type b δ)) 0 env δ x (sample (closed functions γ δ) h) refl (sampled h (kind_signal outer.in_domain kf) outer.function))
        (sampled_acts l (closed_type a δ) h (closed (with_origins o (shift v 0 1)) env δ) (closed value γ δ) (closed past γ δ) (values outer.taken) (pure_reaches p h γ δ d' a' value) (raised_part x outer.taken vs)))))

    fmap_ap_here : (d a b c d' b' th tx : TypeTree) (f u v : TermTree) (t : TypeTree) → HasType (setting_with p types) kinds vars (fmap_of d b c f (ap_of d' a b' u v)) t → TermsAct p (acts_from p n) (closed_type t δ) (with_origins o (ap_of d a c (fmap_of d (fun a b) (fun a c) (before_each th tx f) u) v)) γ' δ (with_origins o (fmap_of d b c f (ap_of d' a b' u v))) γ δ
    unfolding sub with_origins
    fmap_ap_here d a b c d' b' th tx f u v t whole =
        let outer = fmap_parts full g whole in
        let inner = ap_parts full g outer.on.has in
        let us = as_up_to inner.function (same_signal (same_self d') (same_fun (same_self a) (given_payload outer.on inner))) in
        let kf = kind_fun outer.taken outer.given tt in
        let ku = kind_fun inner.taken outer.taken tt in
        let first = with_origins o f in
        let functions = with_origins o u in
        let on = with_origins o v in
        let body = app (with_origins o (shift f 0 2)) (app (var 1) (var 0)) in
        let join = lam th (lam tx body) in
        let mapped = fmap_of d (fun a b) (fun a c) join functions in
        let past = ap_of d' a b' functions on in
        at_whole (ap_of d a c mapped on) (kind_signal outer.in_domain outer.given) outer.gives whole
        (signals_act l (closed_type d δ) (closed_type c δ) (ap_of d a c mapped on) (fmap_of d b c first past) γ' γ δ δ
        (λ h. closed body (thunk_and (sample (closed on γ' δ) h) (thunk_and (sample (closed functions γ' δ) h) γ')) δ) (λ h. applied (sample (closed first γ δ) h) (sample (closed past γ δ) h))
        (λ h. opens_then (opens_ap p h γ' δ d a c mapped on) (opens_mapped p h d (fun a b) (fun a c) th tx body functions γ' δ (sample (closed on γ' δ) h)))
        (λ h. fmap_reaches p h γ δ d b c first past)
        (λ h.
        let x = sample (closed on γ' δ) h in
        let y = sample (closed functions γ' δ) h in
        let env = thunk_and x (thunk_and y γ') in
        acts_at h
        (app_at l (closed_type b δ) (closed_type c δ) (with_origins o (shift f 0 2)) (app (var 1) (var 0)) env δ (sample (closed first γ δ) h) (sample (closed past γ δ) h)
        (function_at l (closed_type b δ) (closed_type c δ) h (closed (with_origins o (shift f 0 2)) env δ) (closed first γ δ) (raised_twice x y kf outer.function))
        (sampled_acts l (closed_type b δ) h (closed (app (var 1) (var 0)) env δ) (applied (sample (closed functions γ δ) h) (sample (closed on γ δ) h)) (closed past γ δ) (values outer.taken) (ap_reaches p h γ δ d' a b' functions on)
        (app_at l (closed_type a δ) (closed_type b δ) (var 1) (var 0) env δ (sample (closed functions γ δ) h) (sample (closed on γ δ) h)
        (var_at l (fun (closed_type a δ) (closed_type b δ)) 1 env δ y (sample (closed functions γ δ) h) refl (sampled h (kind_signal inner.in_domain ku) us))
        (var_at l (closed_type a δ) 0 env δ x (sample (closed on γ δ) h) refl (sampled h (kind_signal inner.in_domain inner.taken) inner.on)))))))

    ap_fmap_here : (d a b c d' b' th tx : TypeTree) (u g1 w : TermTree) (t : TypeTree) → HasType (setting_with p types) kinds vars (ap_of d b c u (fmap_of d' a b' g1 w)) t → TermsAct p (acts_from p n) (closed_type t δ) (with_origins o (ap_of d a c (fmap_of d (fun b c) (fun a c) (behind_each th tx g1) u) w)) γ' δ (with_origins o (ap_of d b c u (fmap_of d' a b' g1 w))) γ δ
    unfolding sub with_origins
    ap_fmap_here d a b c d' b' th tx u g1 w t whole =
        let outer = ap_parts full g whole in
        let inner = fmap_parts full g outer.on.has in
        let gs = as_up_to inner.function (same_fun (same_self a) (given_payload outer.on inner)) in
        let ku = kind_fun outer.taken outer.given tt in
        let kg = kind_fun inner.taken outer.taken tt in
        let functions = with_origins o u in
        let second = with_origins o g1 in
        let on = with_origins o w in
        let rest = app (with_origins o (shift g1 0 2)) (var 0) in
        let body = app (var 1) rest in
        let join = lam th (lam tx body) in
        let mapped = fmap_of d (fun b c) (fun a c) join functions in
        let past = fmap_of d' a b' second on in
        at_whole (ap_of d a c mapped on) (kind_signal outer.in_domain outer.given) outer.gives whole
        (signals_act l (closed_type d δ) (closed_type c δ) (ap_of d a c mapped on) (ap_of d b c functions past) γ' γ δ δ
        (λ h. closed body (thunk_and (sample (closed on γ' δ) h) (thunk_and (sample (closed functions γ' δ) h) γ')) δ) (λ h. applied (sample (closed functions γ δ) h) (sample (closed past γ δ) h))
        (λ h. opens_then (opens_ap p h γ' δ d a c mapped on) (opens_mapped p h d (fun b c) (fun a c) th tx body functions γ' δ (sample (closed on γ' δ) h)))
        (λ h. ap_reaches p h γ δ d b c functions past)
        (λ h.
        let x = sample (closed on γ' δ) h in
        let y = sample (closed functions γ' δ) h in
        let env = thunk_and x (thunk_and y γ') in
        acts_at h
        (app_at l (closed_type b δ) (closed_type c δ) (var 1) rest env δ (sample (closed functions γ δ) h) (sample (closed past γ δ) h)
        (var_at l (fun (closed_type b δ) (closed_type c δ)) 1 env δ y (sample (closed functions γ δ) h) refl (sampled h (kind_signal outer.in_domain ku) outer.function))
        (sampled_acts l (closed_type b δ) h (closed rest env δ) (applied (sample (closed second γ δ) h) (sample (closed on γ δ) h)) (closed past γ δ) (values outer.taken) (fmap_reaches p h γ δ d' a b' second on)
        (app_at l (closed_type a δ) (closed_type b δ) (with_origins o (shift g1 0 2)) (var 0) env δ (sample (closed second γ δ) h) (sample (closed on γ δ) h)
        (function_at l (closed_type a δ) (closed_type b δ) h (closed (with_origins o (shift g1 0 2)) env δ) (closed second γ δ) (raised_twice x y kg gs))
        (var_at l (closed_type a δ) 0 env δ x (sample (closed on γ δ) h) refl (sampled h (kind_signal inner.in_domain inner.taken) inner.on)))))))

    ap_ap_here : (d a b c d' b' th tk tx : TypeTree) (u v w : TermTree) (t : TypeTree) → HasType (setting_with p types) kinds vars (ap_of d b c u (ap_of d' a b' v w)) t → TermsAct p (acts_from p n) (closed_type t δ) (with_origins o (ap_of d a c (ap_of d (fun a b) (fun a c) (fmap_of d (fun b c) (fun (fun a b) (fun a c)) (each_composed th tk tx) u) v) w)) γ' δ (with_origins o (ap_of d b c u (ap_of d' a b' v w))) γ δ
    unfolding sub with_origins
    ap_ap_here d a b c d' b' th tk tx u v w t whole =
        let outer = ap_parts full g whole in
        let inner = ap_parts full g outer.on.has in
        let vs = as_up_to inner.function (same_signal (same_self d') (same_fun (same_self a) (given_payload outer.on inner))) in
        let ku = kind_fun outer.taken outer.given tt in
        let kv = kind_fun inner.taken outer.taken tt in
        let functions = with_origins o u in
        let others = with_origins o v in
        let on = with_origins o w in
        let rest = app (var 1) (var 0) in
        let body = app (var 2) rest in
        let join = lam th (lam tk (lam tx body)) in
        let mapped = fmap_of d (fun b c) (fun (fun a b) (fun a c)) join functions in
        let both = ap_of d (fun a b) (fun a c) mapped others in
        let past = ap_of d' a b' others on in
        at_whole (ap_of d a c both on) (kind_signal outer.in_domain outer.given) outer.gives whole
        (signals_act l (closed_type d δ) (closed_type c δ) (ap_of d a c both on) (ap_of d b c functions past) γ' γ δ δ
        (λ h. closed body (thunk_and (sample (closed on γ' δ) h) (thunk_and (sample (closed others γ' δ) h) (thunk_and (sample (closed functions γ' δ) h) γ'))) δ) (λ h. applied (sample (closed functions γ δ) h) (sample (closed past γ δ) h))
        (λ h.
        let x = sample (closed on γ' δ) h in
        let y = sample (closed others γ' δ) h in
        let z = sample (closed functions γ' δ) h in
        opens_then (opens_ap p h γ' δ d a c both on)
        (opens_then (opens_applied x (opens_sample (opens_then (opens_ap p h γ' δ d (fun a b) (fun a c) mapped others) (opens_mapped p h d (fun b c) (fun (fun a b) (fun a c)) th tk (lam tx body) functions γ' δ y))))
        (opens_lambda tx body (thunk_and y (thunk_and z γ')) δ x)))
        (λ h. ap_reaches p h γ δ d b c functions past)
        (λ h.
        let x = sample (closed on γ' δ) h in
        let y = sample (closed others γ' δ) h in
        let z = sample (closed functions γ' δ) h in
        let env = thunk_and x (thunk_and y (thunk_and z γ')) in
        acts_at h
        (app_at l (closed_type b δ) (closed_type c δ) (var 2) rest env δ (sample (closed functions γ δ) h) (sample (closed past γ δ) h)
        (var_at l (fun (closed_type b δ) (closed_type c δ)) 2 env δ z (sample (closed functions γ δ) h) refl (sampled h (kind_signal outer.in_domain ku) outer.function))
        (sampled_acts l (closed_type b δ) h (closed rest env δ) (applied (sample (closed others γ δ) h) (sample (closed on γ δ) h)) (closed past γ δ) (values outer.taken) (ap_reaches p h γ δ d' a b' others on)
        (app_at l (closed_type a δ) (closed_type b δ) (var 1) (var 0) env δ (sample (closed others γ δ) h) (sample (closed on γ δ) h)
        (var_at l (fun (closed_type a δ) (closed_type b δ)) 1 env δ y (sample (closed others γ δ) h) refl (sampled h (kind_signal inner.in_domain kv) vs))
        (var_at l (closed_type a δ) 0 env δ x (sample (closed on γ δ) h) refl (sampled h (kind_signal inner.in_domain inner.taken) inner.on)))))))

  pub ap_pure : {kinds : List Kind} {vars : List TypeTree} → AreTermTypes (setting_with p types) kinds vars → (d a b d' a' : TypeTree) (f s : TermTree) (t : TypeTree) → HasType (setting_with p types) kinds vars (ap_of d a b (pure_of d' a' f) s) t → ActsUnder p kinds vars (with_origins o (fmap_of d a b f s)) (with_origins o (ap_of d a b (pure_of d' a' f) s)) t
  ap_pure {kinds} {vars} g d a b d' a' f s t whole n δ γ' γ known names = ap_pure_here kinds vars g n δ γ' γ known names d a b d' a' f s t whole

  pub fmap_pure : {kinds : List Kind} {vars : List TypeTree} → AreTermTypes (setting_with p types) kinds vars → (d a b d' a' : TypeTree) (f v : TermTree) (t : TypeTree) → HasType (setting_with p types) kinds vars (fmap_of d a b f (pure_of d' a' v)) t → ActsUnder p kinds vars (with_origins o (pure_of d b (app f v))) (with_origins o (fmap_of d a b f (pure_of d' a' v))) t
  fmap_pure {kinds} {vars} g d a b d' a' f v t whole n δ γ' γ known names = fmap_pure_here kinds vars g n δ γ' γ known names d a b d' a' f v t whole

  pub fmap_fmap : {kinds : List Kind} {vars : List TypeTree} → AreTermTypes (setting_with p types) kinds vars → (d a b c d' b' tx : TypeTree) (f g1 s : TermTree) (t : TypeTree) → HasType (setting_with p types) kinds vars (fmap_of d b c f (fmap_of d' a b' g1 s)) t → ActsUnder p kinds vars (with_origins o (fmap_of d a c (composed tx f g1) s)) (with_origins o (fmap_of d b c f (fmap_of d' a b' g1 s))) t
  fmap_fmap {kinds} {vars} g d a b c d' b' tx f g1 s t whole n δ γ' γ known names = fmap_fmap_here kinds vars g n δ γ' γ known names d a b c d' b' tx f g1 s t whole

  pub ap_value : {kinds : List Kind} {vars : List TypeTree} → AreTermTypes (setting_with p types) kinds vars → (d a b d' a' th : TypeTree) (u v : TermTree) (t : TypeTree) → HasType (setting_with p types) kinds vars (ap_of d a b u (pure_of d' a' v)) t → ActsUnder p kinds vars (with_origins o (fmap_of d (fun a b) b (on_value th v) u)) (with_origins o (ap_of d a b u (pure_of d' a' v))) t
  ap_value {kinds} {vars} g d a b d' a' th u v t whole n δ γ' γ known names = ap_value_here kinds vars g n δ γ' γ known names d a b d' a' th u v t whole

  pub fmap_ap : {kinds : List Kind} {vars : List TypeTree} → AreTermTypes (setting_with p types) kinds vars → (d a b c d' b' th tx : TypeTree) (f u v : TermTree) (t : TypeTree) → HasType (setting_with p types) kinds vars (fmap_of d b c f (ap_of d' a b' u v)) t → ActsUnder p kinds vars (with_origins o (ap_of d a c (fmap_of d (fun a b) (fun a c) (before_each th tx f) u) v)) (with_origins o (fmap_of d b c f (ap_of d' a b' u v))) t
  fmap_ap {kinds} {vars} g d a b c d' b' th tx f u v t whole n δ γ' γ known names = fmap_ap_here kinds vars g n δ γ' γ known names d a b c d' b' th tx f u v t whole

  pub ap_fmap : {kinds : List Kind} {vars : List TypeTree} → AreTermTypes (setting_with p types) kinds vars → (d a b c d' b' th tx : TypeTree) (u g1 w : TermTree) (t : TypeTree) → HasType (setting_with p types) kinds vars (ap_of d b c u (fmap_of d' a b' g1 w)) t → ActsUnder p kinds vars (with_origins o (ap_of d a c (fmap_of d (fun b c) (fun a c) (behind_each th tx g1) u) w)) (with_origins o (ap_of d b c u (fmap_of d' a b' g1 w))) t
  ap_fmap {kinds} {vars} g d a b c d' b' th tx u g1 w t whole n δ γ' γ known names = ap_fmap_here kinds vars g n δ γ' γ known names d a b c d' b' th tx u g1 w t whole

  pub ap_ap : {kinds : List Kind} {vars : List TypeTree} → AreTermTypes (setting_with p types) kinds vars → (d a b c d' b' th tk tx : TypeTree) (u v w : TermTree) (t : TypeTree) → HasType (setting_with p types) kinds vars (ap_of d b c u (ap_of d' a b' v w)) t → ActsUnder p kinds vars (with_origins o (ap_of d a c (ap_of d (fun a b) (fun a c) (fmap_of d (fun b c) (fun (fun a b) (fun a c)) (each_composed th tk tx) u) v) w)) (with_origins o (ap_of d b c u (ap_of d' a b' v w))) t
  ap_ap {kinds} {vars} g d a b c d' b' th tk tx u v w t whole n δ γ' γ known names = ap_ap_here kinds vars g n δ γ' γ known names d a b c d' b' th tk tx u v w t whole
