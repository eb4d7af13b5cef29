-- Each form of term acts so where its parts do, in any two environments.
use Rattle.std.specs.Prelude.{slice_get}
use Rattle.std.proofs.Common.{◌≡◌, ℕ, suc, zero, Bool, List, [], length, Some, refl, sym, subst}
use Rattle.chw_types.specs.declared.kind.Kind.{Kind}
use Rattle.chw_types.specs.declared.kind.Scalar.{Scalar}
use Rattle.chw_types.specs.TypeTree.{TypeTree, scalar, vector, fun, for_all, TypeTrees, type_and}
use Rattle.chw_types.specs.TypeMoves.{put}
use Rattle.chw_terms.specs.declared.program.Program.{Program}
use Rattle.chw_terms.specs.TermTree.{TermTree, var, lam, app, ty_lam, ty_app, letrec, lit, vec_lit, Terms, no_terms, term_and, Group}
use Rattle.chw_terms.specs.Evaluated.{evaluated}
use Rattle.chw_typing.specs.Scopes.{HasKind}
use Rattle.chw_typing.specs.Programs.{setting_of}
use Rattle.chw_layout.specs.Measured.{closed_value}
use Rattle.chw_meaning.specs.Values.{History, Value, bits, vec_of, closure, ty_closure, Thunk, closed, applied, member, sample, Thunks, none, thunk_and, closed_type, in_group, body_at, closed_all}
use Rattle.chw_meaning.specs.Eval.{plus, Evals, e_var, e_lam, e_app, e_ty_lam, e_ty_app, e_letrec, e_lit, e_vec, Forces, f_closed, f_applied, f_member, f_sample, Applies, a_closure, TyApplies, t_closure}
use Rattle.chw_meaning.proofs.Once.{same_some}
use Rattle.acts.specs.Levels.{Levels, later, Alike, Second, RunsAct, term_runs, term_has, thunk_runs, thunk_has, ThunksAct}
use Rattle.acts.specs.Acts.{EachAct, acts_from}
use Rattle.acts.specs.Terms.{LooksAlike}
use Rattle.acts.proofs.Levels.{at_end, later_plus, IsLevels, from_turns, at_levels, at_later, cost, more, runs_later, function_opens, family_opens}

-- a term in its environments as another in its own
abbrev pub TermsAct : Program → Levels → TypeTree → TermTree → Thunks → TypeTrees → TermTree → Thunks → TypeTrees → Type 0
TermsAct p r t e' γ' δ' e γ δ = RunsAct r t (term_runs p e' γ' δ') (term_has p e γ δ)

-- what an application of one of the values has
abbrev pub called : Program → (Value → Type 0) → Thunk → Second
called p s x h w = (v : Value) × s v × ((m : ℕ) × Applies p m v x h w)

abbrev pub ty_called : Program → (Value → Type 0) → TypeTree → Second
ty_called p s c h w = (v : Value) × s v × ((m : ℕ) × TyApplies p m v c h w)

pub var_acts : {p : Program} {r : Levels} → IsLevels p r → (t : TypeTree) (x' x : ℕ) (γ' γ : Thunks) (δ' δ : TypeTrees) → LooksAlike p r t x' x γ' γ → TermsAct p r t (var x') γ' δ' (var x) γ δ
var_acts {p} l t x' x γ' γ δ' δ look h' h m v al (e_var {n = k} {th = th} i d) =
    let same : th ≡ look.first = same_some i look.has_first in
    let acts = look.acts h' h k v al (subst (λ th. Forces p k th h' v) same d) in
    cost l k t v _ (more l k t v (thunk_has p look.second h) (term_has p (var x) γ δ h) (λ u q. (suc q.0, e_var look.has_second q.1)) acts)

bits_at : (p : Program) (n m : ℕ) (x : Scalar) (w : TypeTree) (b : List Bool) (s : Value → Type 0) → length b ≡ closed_value w → s (bits b) → later m (acts_from p n) zero (scalar x w) (bits b) s
unfolding acts_from
bits_at p zero m x w b s wide own = at_end p m (scalar x w) (bits b) s
bits_at p (suc n) zero x w b s wide own = (b, refl, own, wide)
bits_at p (suc n) (suc m) x w b s wide own = bits_at p n m x w b s wide own

-- a scalar that the other side has too
pub bits_act : {p : Program} {r : Levels} → IsLevels p r → (m : ℕ) (x : Scalar) (w : TypeTree) (b : List Bool) (s : Value → Type 0) → length b ≡ closed_value w → s (bits b) → later m r zero (scalar x w) (bits b) s
bits_act {p} l m x w b s wide own = at_levels l (λ q. later m q zero (scalar x w) (bits b) s) (λ n. bits_at p n m x w b s wide own)

pub lit_acts : {p : Program} {r : Levels} → IsLevels p r → (x : Scalar) (b : List Bool) (w : TypeTree) → length b ≡ closed_value w → (γ' γ : Thunks) (δ' δ : TypeTrees) → TermsAct p r (scalar x w) (lit x b) γ' δ' (lit x b) γ δ
lit_acts {p} l x b w wide γ' γ δ' δ h' h m v al e_lit = bits_act l (suc zero) x w b (term_has p (lit x b) γ δ h) wide (suc zero, e_lit)

-- a term's thunk
pub thunk_acts : {p : Program} {r : Levels} → IsLevels p r → (t : TypeTree) (e' e : TermTree) (γ' γ : Thunks) (δ' δ : TypeTrees) → TermsAct p r t e' γ' δ' e γ δ → ThunksAct p r t (closed e' γ' δ') (closed e γ δ)
thunk_acts {p} l t e' e γ' γ δ' δ acts h' h m v al (f_closed d) =
    more l m t v (term_has p e γ δ h) (thunk_has p (closed e γ δ) h) (λ w q. (q.0, f_closed q.1)) (acts h' h m v al d)

-- a function's value on a thunk, after the turns that it took
pub call_acts : {p : Program} {r : Levels} → IsLevels p r → (a b : TypeTree) (x' x : Thunk) (s : Value → Type 0) (j k : ℕ) (f w : Value) (h' h : History) → later j r zero (fun a b) f s → ThunksAct p r a x' x → Alike b h' h → Applies p k f x' h' w → later (suc (plus j k)) r zero b w (called p s x h)
call_acts {p} {r} l a b x' x s j k f w h' h acts xs al d =
    let result = function_opens l j a b f s acts zero x' x (runs_later l (suc j) a (thunk_runs p x') (thunk_has p x) xs) h' h k w al d in
    subst (λ q. q zero b w (called p s x h)) (sym (later_plus (suc j) k r)) result

pub app_acts : {p : Program} {r : Levels} → IsLevels p r → (a b : TypeTree) (f' f e' e : TermTree) (γ' γ : Thunks) (δ' δ : TypeTrees) → TermsAct p r (fun a b) f' γ' δ' f γ δ → TermsAct p r a e' γ' δ' e γ δ → TermsAct p r b (app f' e') γ' δ' (app f e) γ δ
app_acts {p} l a b f' f e' e γ' γ δ' δ fs es h' h m v al (e_app {m = j} {n = k} {v = fv} df da) =
    let result = call_acts l a b (closed e' γ' δ') (closed e γ δ) (term_has p f γ δ h) j k fv v h' h (fs h' h j fv tt df) (thunk_acts l a e' e γ' γ δ' δ es) al da in
    more l (suc (plus j k)) b v (called p (term_has p f γ δ h) (closed e γ δ) h) (term_has p (app f e) γ δ h) (λ w q. (suc (plus q.1.0 q.2.0), e_app q.1.1 q.2.1)) result

pub applied_acts : {p : Program} {r : Levels} → IsLevels p r → (a b : TypeTree) (f' f x' x : Thunk) → ThunksAct p r (fun a b) f' f → ThunksAct p r a x' x → ThunksAct p r b (applied f' x') (applied f x)
applied_acts {p} l a b f' f x' x fs xs h' h m v al (f_applied {m = j} {n = k} {v = fv} df da) =
    let result = call_acts l a b x' x (thunk_has p f h) j k fv v h' h (fs h' h j fv tt df) xs al da in
    more l (suc (plus j k)) b v (called p (thunk_has p f h) x h) (thunk_has p (applied f x) h) (λ w q. (suc (plus q.1.0 q.2.0), f_applied q.1.1 q.2.1)) result

closure_acts : {p : Program} {r : Levels} → IsLevels p r → (b : TypeTree) (e' e : TermTree) (γ' γ : Thunks) (δ' δ : TypeTrees) (x' x : Thunk) (s : Value → Type 0) → s (closure e γ δ) → TermsAct p r b e' (thunk_and x' γ') δ' e (thunk_and x γ) δ → RunsAct r b (λ m h w. Applies p m (closure e' γ' δ') x' h w) (called p s x)
closure_acts {p} l b e' e γ' γ δ' δ x' x s own acts h' h m u al (a_closure {n = j} d) =
    cost l j b u _ (more l j b u (term_has p e (thunk_and x γ) δ h) (called p s x h) (λ w q. (closure e γ δ, own, (suc q.0, a_closure q.1))) (acts h' h j u al d))

-- a body acts so on each thunk that does, with any turns that are left
abbrev pub BodyActs : Program → Levels → TypeTree → TypeTree → TermTree → Thunks → TypeTrees → TermTree → Thunks → TypeTrees → Type 0
BodyActs p r a b e' γ' δ' e γ δ =
    (i : ℕ) (x' x : Thunk) → ThunksAct p (later i r) a x' x → TermsAct p (later i r) b e' (thunk_and x' γ') δ' e (thunk_and x γ) δ

lam_value : (p : Program) (a b : TypeTree) (e' e : TermTree) (γ' γ : Thunks) (δ' δ : TypeTrees) (s : Value → Type 0) → s (closure e γ δ) → (n : ℕ) → BodyActs p (acts_from p n) a b e' γ' δ' e γ δ → later (suc zero) (acts_from p n) zero (fun a b) (closure e' γ' δ') s
unfolding acts_from
lam_value p a b e' e γ' γ δ' δ s own zero es = tt
lam_value p a b e' e γ' γ δ' δ s own (suc zero) es = tt
lam_value p a b e' e γ' γ δ' δ s own (suc (suc n)) es = λ i x' x xs. closure_acts (at_later i (from_turns p n)) b e' e γ' γ δ' δ x' x s own (es (suc (suc i)) x' x xs)

pub lam_acts : {p : Program} {r : Levels} → IsLevels p r → (c' c a b : TypeTree) (e' e : TermTree) (γ' γ : Thunks) (δ' δ : TypeTrees) → BodyActs p r a b e' γ' δ' e γ δ → TermsAct p r (fun a b) (lam c' e') γ' δ' (lam c e) γ δ
lam_acts {p} l c' c a b e' e γ' γ δ' δ es h' h m v al e_lam =
    at_levels l (λ q. BodyActs p q a b e' γ' δ' e γ δ → later (suc zero) q zero (fun a b) (closure e' γ' δ') (term_has p (lam c e) γ δ h)) (λ n. lam_value p a b e' e γ' γ δ' δ (term_has p (lam c e) γ δ h) (suc zero, e_lam) n) es

-- a body acts so at each closed type of the kind
abbrev pub FamilyBodyActs : Program → Levels → Kind → TypeTree → TermTree → Thunks → TypeTrees → TermTree → Thunks → TypeTrees → Type 0
FamilyBodyActs p r k t e' γ' δ' e γ δ =
    (i : ℕ) (c : TypeTree) → HasKind (setting_of p) [] c k → evaluated c ≡ c → TermsAct p (later i r) (put t 0 c) e' γ' (type_and c δ') e γ (type_and c δ)

ty_closure_acts : {p : Program} {r : Levels} → IsLevels p r → (t : TypeTree) (e' e : TermTree) (γ' γ : Thunks) (δ' δ : TypeTrees) (c : TypeTree) (s : Value → Type 0) → s (ty_closure e γ δ) → TermsAct p r t e' γ' (type_and c δ') e γ (type_and c δ) → RunsAct r t (λ m h w. TyApplies p m (ty_closure e' γ' δ') c h w) (ty_called p s c)
ty_closure_acts {p} l t e' e γ' γ δ' δ c s own acts h' h m u al (t_closure {n = j} d) =
    cost l j t u _ (more l j t u (term_has p e γ (type_and c δ) h) (ty_called p s c h) (λ w q. (ty_closure e γ δ, own, (suc q.0, t_closure q.1))) (acts h' h j u al d))

ty_lam_value : (p : Program) (k : Kind) (t : TypeTree) (e' e : TermTree) (γ' γ : Thunks) (δ' δ : TypeTrees) (s : Value → Type 0) → s (ty_closure e γ δ) → (n : ℕ) → FamilyBodyActs p (acts_from p n) k t e' γ' δ' e γ δ → later (suc zero) (acts_from p n) zero (for_all k t) (ty_closure e' γ' δ') s
unfolding acts_from
ty_lam_value p k t e' e γ' γ δ' δ s own zero es = tt
ty_lam_value p k t e' e γ' γ δ' δ s own (suc zero) es = tt
ty_lam_value p k t e' e γ' γ δ' δ s own (suc (suc n)) es = λ c kd ev. ty_closure_acts (from_turns p n) (put t 0 c) e' e γ' γ δ' δ c s own (es (suc (suc zero)) c kd ev)

pub ty_lam_acts : {p : Program} {r : Levels} → IsLevels p r → (j' j k : Kind) (t : TypeTree) (e' e : TermTree) (γ' γ : Thunks) (δ' δ : TypeTrees) → FamilyBodyActs p r k t e' γ' δ' e γ δ → TermsAct p r (for_all k t) (ty_lam j' e') γ' δ' (ty_lam j e) γ δ
ty_lam_acts {p} l j' j k t e' e γ' γ δ' δ es h' h m v al e_ty_lam =
    at_levels l (λ q. FamilyBodyActs p q k t e' γ' δ' e γ δ → later (suc zero) q zero (for_all k t) (ty_closure e' γ' δ') (term_has p (ty_lam j e) γ δ h)) (λ n. ty_lam_value p k t e' e γ' γ δ' δ (term_has p (ty_lam j e) γ δ h) (suc zero, e_ty_lam) n) es

-- an application to a type that is one closed type on both sides
pub ty_app_acts : {p : Program} {r : Levels} → IsLevels p r → (k : Kind) (t c a' a : TypeTree) (f' f : TermTree) (γ' γ : Thunks) (δ' δ : TypeTrees) → evaluated (closed_type a' δ') ≡ c → evaluated (closed_type a δ) ≡ c → HasKind (setting_of p) [] c k → evaluated c ≡ c → TermsAct p r (for_all k t) f' γ' δ' f γ δ → TermsAct p r (put t 0 c) (ty_app f' a') γ' δ' (ty_app f a) γ δ
ty_app_acts {p} {r} l k t c a' a f' f γ' γ δ' δ first second kd ev fs h' h m v al (e_ty_app {m = i} {n = j} {v = fv} df da) =
    let here = subst (λ c. TyApplies p j fv c h' v) first da in
    let result = family_opens l i k t fv (term_has p f γ δ h) (fs h' h i fv tt df) c kd ev h' h j v al here in
    let moved = subst (λ q. q zero (put t 0 c) v (ty_called p (term_has p f γ δ h) c h)) (sym (later_plus (suc i) j r)) result in
    more l (suc (plus i j)) (put t 0 c) v (ty_called p (term_has p f γ δ h) c h) (term_has p (ty_app f a) γ δ h) (λ w q. (suc (plus q.1.0 q.2.0), e_ty_app q.1.1 (subst (λ c. TyApplies p q.2.0 q.0 c h w) (sym second) q.2.1))) moved

-- the members of two groups act so, at these types
abbrev pub MembersAct : Program → Levels → List TypeTree → Group → Thunks → TypeTrees → Group → Thunks → TypeTrees → Type 0
MembersAct p r us g' γ' δ' g γ δ =
    (i : ℕ) (t : TypeTree) → slice_get us i ≡ Some t → ThunksAct p r t (member g' i γ' δ') (member g i γ δ)

-- the right sides of two groups act so, at these types
pub record SidesAct (p : Program) (r : Levels) (i : ℕ) (t : TypeTree) (g' : Group) (γ' : Thunks) (δ' : TypeTrees) (g : Group) (γ : Thunks) (δ : TypeTrees) : Type 0 where
  pub first : TermTree
  pub second : TermTree
  pub has_first : body_at g' i ≡ Some first
  pub has_second : body_at g i ≡ Some second
  pub acts : TermsAct p r t first (in_group g' γ' δ') δ' second (in_group g γ δ) δ

abbrev pub GroupActs : Program → Levels → List TypeTree → Group → Thunks → TypeTrees → Group → Thunks → TypeTrees → Type 0
GroupActs p r us g' γ' δ' g γ δ =
    (n : ℕ) → MembersAct p (later n r) us g' γ' δ' g γ δ → (i : ℕ) (t : TypeTree) → slice_get us i ≡ Some t → SidesAct p (later n r) i t g' γ' δ' g γ δ

members_from : (p : Program) (us : List TypeTree) (g' g : Group) (γ' γ : Thunks) (δ' δ : TypeTrees) (n : ℕ) → GroupActs p (acts_from p n) us g' γ' δ' g γ δ → MembersAct p (acts_from p n) us g' γ' δ' g γ δ
unfolding acts_from
members_from p us g' g γ' γ δ' δ zero sides i t q h' h m v al d = at_end p m t v _
members_from p us g' g γ' γ δ' δ (suc n) sides i t q h' h m v al (f_member {n = j} {e = e} found d) =
    let own = sides (suc zero) (members_from p us g' g γ' γ δ' δ n (λ k. sides (suc k))) i t q in
    let same : e ≡ own.first = same_some found own.has_first in
    let acts = own.acts h' h j v al (subst (λ e. Evals p j e (in_group g' γ' δ') δ' h' v) same d) in
    more (from_turns p n) j t v (term_has p own.second (in_group g γ δ) δ h) (thunk_has p (member g i γ δ) h) (λ w o. (suc o.0, f_member own.has_second o.1)) acts

-- the right sides of two groups act so where the members do; so the members do
pub members_act : {p : Program} {r : Levels} → IsLevels p r → (us : List TypeTree) (g' g : Group) (γ' γ : Thunks) (δ' δ : TypeTrees) → GroupActs p r us g' γ' δ' g γ δ → MembersAct p r us g' γ' δ' g γ δ
members_act {p} l us g' g γ' γ δ' δ = at_levels l (λ q. GroupActs p q us g' γ' δ' g γ δ → MembersAct p q us g' γ' δ' g γ δ) (λ n. members_from p us g' g γ' γ δ' δ n)

pub letrec_acts : {p : Program} {r : Levels} → IsLevels p r → (t : TypeTree) (g' g : Group) (e' e : TermTree) (γ' γ : Thunks) (δ' δ : TypeTrees) → TermsAct p r t e' (in_group g' γ' δ') δ' e (in_group g γ δ) δ → TermsAct p r t (letrec g' e') γ' δ' (letrec g e) γ δ
letrec_acts {p} l t g' g e' e γ' γ δ' δ es h' h m v al (e_letrec {n = j} d) =
    cost l j t v _ (more l j t v (term_has p e (in_group g γ δ) δ h) (term_has p (letrec g e) γ δ h) (λ w o. (suc o.0, e_letrec o.1)) (es h' h j v al d))

-- as many terms on both sides, and each pair acts so at the type
abbrev pub EachTermActs : Program → Levels → TypeTree → Terms → Thunks → TypeTrees → Terms → Thunks → TypeTrees → Type 0
EachTermActs p r t (term_and e' es') γ' δ' (term_and e es) γ δ = TermsAct p r t e' γ' δ' e γ δ × EachTermActs p r t es' γ' δ' es γ δ
EachTermActs p r t no_terms γ' δ' no_terms γ δ = Unit {0}
EachTermActs p r t _ γ' δ' _ γ δ = ⊥

elements_act : {p : Program} {r : Levels} → IsLevels p r → (t : TypeTree) (es' es : Terms) (γ' γ : Thunks) (δ' δ : TypeTrees) → EachTermActs p r t es' γ' δ' es γ δ → EachAct p r t (closed_all es' γ' δ') (closed_all es γ δ)
elements_act l t no_terms no_terms γ' γ δ' δ h = tt
elements_act l t (term_and e' es') (term_and e es) γ' γ δ' δ h = (thunk_acts l t e' e γ' γ δ' δ h.0, elements_act l t es' es γ' γ δ' δ h.1)
elements_act l t no_terms (term_and e es) γ' γ δ' δ h = absurd h
elements_act l t (term_and e' es') no_terms γ' γ δ' δ h = absurd h

each_later : {p : Program} {r : Levels} → IsLevels p r → (i : ℕ) (t : TypeTree) (xs' xs : Thunks) → EachAct p r t xs' xs → EachAct p (later i r) t xs' xs
each_later l i t none none h = tt
each_later {p} l i t (thunk_and x' xs') (thunk_and x xs) h = (runs_later l i t (thunk_runs p x') (thunk_has p x) h.0, each_later l i t xs' xs h.1)
each_later l i t none (thunk_and x xs) h = absurd h
each_later l i t (thunk_and x' xs') none h = absurd h

vector_value : (p : Program) (n m : ℕ) (w t : TypeTree) (xs' xs : Thunks) (s : Value → Type 0) → s (vec_of xs) → EachAct p (acts_from p n) t xs' xs → later m (acts_from p n) zero (vector w t) (vec_of xs') s
unfolding acts_from
vector_value p zero m w t xs' xs s own h = at_end p m (vector w t) (vec_of xs') s
vector_value p (suc n) zero w t xs' xs s own h = record { first = xs'; second = xs; is = refl; has_value = own; parts = each_later (from_turns p (suc n)) (suc zero) t xs' xs h }
vector_value p (suc n) (suc m) w t xs' xs s own h = vector_value p n m w t xs' xs s own (each_later (from_turns p (suc n)) (suc zero) t xs' xs h)

-- a vector of elements that act so
pub vector_acts : {p : Program} {r : Levels} → IsLevels p r → (m : ℕ) (w t : TypeTree) (xs' xs : Thunks) (s : Value → Type 0) → s (vec_of xs) → EachAct p r t xs' xs → later m r zero (vector w t) (vec_of xs') s
vector_acts {p} l m w t xs' xs s own = at_levels l (λ q. EachAct p q t xs' xs → later m q zero (vector w t) (vec_of xs') s) (λ n. vector_value p n m w t xs' xs s own)

pub vec_acts : {p : Program} {r : Levels} → IsLevels p r → (w t u' u : TypeTree) (es' es : Terms) (γ' γ : Thunks) (δ' δ : TypeTrees) → EachTermActs p r t es' γ' δ' es γ δ → TermsAct p r (vector w t) (vec_lit u' es') γ' δ' (vec_lit u es) γ δ
vec_acts {p} l w t u' u es' es γ' γ δ' δ h h' h'' m v al e_vec =
    vector_acts l (suc zero) w t (closed_all es' γ' δ') (closed_all es γ δ) (term_has p (vec_lit u es) γ δ h'') (suc zero, e_vec) (elements_act l t es' es γ' γ δ' δ h)

-- a sample of a signal, as a thunk of its payload
pub sample_acts : {p : Program} {r : Levels} → IsLevels p r → (a : TypeTree) (x' x : Thunk) (g' g : History) → ((m : ℕ) (v : Value) → Forces p m x' g' v → later m r zero a v (thunk_has p x g)) → ThunksAct p r a (sample x' g') (sample x g)
sample_acts {p} l a x' x g' g acts h' h m v al (f_sample d) = more l m a v (thunk_has p x g) (thunk_has p (sample x g) h) (λ w q. (q.0, f_sample q.1)) (acts m v d)
