-- Thunks of payloads: opened on the first side, and sampled on the second.
use Rattle.std.proofs.Common.{◌≡◌, ℕ, zero, List, [], ◌∷◌, Some, refl, sym, subst}
use Rattle.chw_types.specs.declared.kind.Kind.{Kind}
use Rattle.chw_types.specs.declared.kind.Kind.TheVariants.{Dom, Val}
use Rattle.chw_types.specs.Kinds.{KindsOf, kind_and, kind_signal}
use Rattle.chw_types.specs.SameTypes.{SameTypes}
use Rattle.chw_types.specs.TypeTree.{TypeTree, ty_var, nat_lit, nat_sum, nat_product, domain, scalar, vector, data_of, fun, signal, for_all, TypeTrees, no_types, type_and}
use Rattle.chw_types.specs.TypeMoves.{sub}
use Rattle.chw_types.proofs.SameLaws.{same_through, same_turned}
use Rattle.type_laws.proofs.SameForms.{as_signal}
use Rattle.chw_prims.specs.declared.prim.Primitive.TheVariants.{Fmap, Ap, Pure}
use Rattle.chw_terms.specs.declared.program.Program.{Program}
use Rattle.chw_terms.specs.TermTree.{TermTree, var, app}
use Rattle.chw_typing.specs.Programs.{IsSound}
use Rattle.chw_typing.specs.Scopes.{Setting, HasKind, AreTermTypes}
use Rattle.chw_typing.specs.Typing.{HasType, HasTypeUpTo}
use Rattle.chw_typing.proofs.Saturated.{prim_at_arguments}
use Rattle.chw_meaning.specs.Values.{History, Value, Thunk, closed, applied, sample, Thunks, thunk_at}
use Rattle.chw_meaning.specs.Eval.{Evals, Forces, f_closed, f_sample}
use Rattle.rewriting.specs.Shapes.{fmap_of, ap_of, pure_of}
use Rattle.acts.specs.Levels.{Levels, later, Alike, term_has, thunk_has, ThunksAct}
use Rattle.acts.proofs.Forms.{TermsAct, applied_acts, sample_acts}
use Rattle.acts.proofs.Levels.{IsLevels, more, to_signal}
use Rattle.acts.proofs.Numbers.{costs}
use Rattle.act_rules.proofs.Opened.{Opens, Reaches, opens_app, opens_var}

no_signal : (s : Setting) (kinds : List Kind) {d a : TypeTree} {k : Kind} → HasKind s kinds (signal d a) k → k ≡ Val → ⊥
no_signal s kinds (kind_signal d a) is = absurd cc

-- a value is looked at at any two histories
pub values_alike : (s : Setting) (kinds : List Kind) (t : TypeTree) (h' h : History) → HasKind s kinds t Val → Alike t h' h
values_alike s kinds (ty_var x) h' h k = tt
values_alike s kinds (nat_lit n) h' h k = tt
values_alike s kinds (nat_sum a b) h' h k = tt
values_alike s kinds (nat_product a b) h' h k = tt
values_alike s kinds (domain d) h' h k = tt
values_alike s kinds (scalar x w) h' h k = tt
values_alike s kinds (vector n t) h' h k = tt
values_alike s kinds (data_of d ts) h' h k = tt
values_alike s kinds (fun a b) h' h k = tt
values_alike s kinds (signal d a) h' h k = absurd (no_signal s kinds k refl)
values_alike s kinds (for_all k' t) h' h k = tt

-- a first thunk, by what it opens to at one history
abbrev pub ActsAt : Program → Levels → TypeTree → History → Thunk → Thunk → Type 0
ActsAt p r t h x' x = (m : ℕ) (v : Value) → Forces p m x' h v → later m r zero t v (thunk_has p x h)

pub opened_at : {p : Program} {r : Levels} → IsLevels p r → (t : TypeTree) (h : History) (x' y' x : Thunk) → Opens p h x' y' → ActsAt p r t h y' x → ActsAt p r t h x' x
opened_at {p} {r} l t h x' y' x opens acts m v d =
    let at = opens m v d in
    subst (λ m. later m r zero t v (thunk_has p x h)) (sym at.is) (costs l at.over at.turns t v (thunk_has p x h) (acts at.turns v at.forced))

-- by what it opens to at every history
pub opened_acts : {p : Program} {r : Levels} → IsLevels p r → (t : TypeTree) (x' y' x : Thunk) → ((h : History) → Opens p h x' y') → ThunksAct p r t y' x → ThunksAct p r t x' x
opened_acts {p} {r} l t x' y' x opens acts h' h m v al d =
    let at = opens h' m v d in
    subst (λ m. later m r zero t v (thunk_has p x h)) (sym at.is) (costs l at.over at.turns t v (thunk_has p x h) (acts h' h at.turns v al at.forced))

pub reached_at : {p : Program} {r : Levels} → IsLevels p r → (t : TypeTree) (h : History) (x' x y : Thunk) → Reaches p h y x → ActsAt p r t h x' x → ActsAt p r t h x' y
reached_at {p} l t h x' x y reach acts m v d = more l m t v (thunk_has p x h) (thunk_has p y h) reach (acts m v d)

-- samples at one history
pub samples_at : {p : Program} {r : Levels} → IsLevels p r → (t : TypeTree) (h : History) (x' x : Thunk) → ActsAt p r t h x' x → ThunksAct p r t (sample x' h) (sample x h)
samples_at l t h x' x acts = sample_acts l t x' x h h acts

-- a payload as a sample of a signal that reaches it
pub sampled_acts : {p : Program} {r : Levels} → IsLevels p r → (t : TypeTree) (h : History) (x' x y : Thunk) → ((g' g : History) → Alike t g' g) → Reaches p h y x → ThunksAct p r t x' x → ThunksAct p r t x' (sample y h)
sampled_acts {p} l t h x' x y alike reach acts g' g m v al d =
    more l m t v (thunk_has p x h) (thunk_has p (sample y h) g) (λ w q. let at = reach w q in (at.0, f_sample at.1)) (acts g' h m v (alike g' h) d)

-- a function at one history
pub function_at : {p : Program} {r : Levels} → IsLevels p r → (a b : TypeTree) (h : History) (x' x : Thunk) → ThunksAct p r (fun a b) x' x → ThunksAct p r (fun a b) x' (sample x h)
function_at l a b h x' x = sampled_acts l (fun a b) h x' x x (λ g' g. tt) (λ w has. has)

-- an application and a variable, as a first thunk
pub app_at : {p : Program} {r : Levels} → IsLevels p r → (a b : TypeTree) (f e : TermTree) (γ : Thunks) (δ : TypeTrees) (y x : Thunk) → ThunksAct p r (fun a b) (closed f γ δ) y → ThunksAct p r a (closed e γ δ) x → ThunksAct p r b (closed (app f e) γ δ) (applied y x)
app_at l a b f e γ δ y x fs es =
    opened_acts l b (closed (app f e) γ δ) (applied (closed f γ δ) (closed e γ δ)) (applied y x) (λ h. opens_app f e γ δ) (applied_acts l a b (closed f γ δ) y (closed e γ δ) x fs es)

pub var_at : {p : Program} {r : Levels} → IsLevels p r → (t : TypeTree) (i : ℕ) (γ : Thunks) (δ : TypeTrees) (x' x : Thunk) → thunk_at γ i ≡ Some x' → ThunksAct p r t x' x → ThunksAct p r t (closed (var i) γ δ) x
var_at l t i γ δ x' x at = opened_acts l t (closed (var i) γ δ) x' x (λ h. opens_var i γ δ x' at)

of_closed : {p : Program} {m : ℕ} {e : TermTree} {γ : Thunks} {δ : TypeTrees} {h : History} {v : Value} → Forces p m (closed e γ δ) h v → Evals p m e γ δ h v
of_closed (f_closed d) = d

-- terms of a signal, by payloads that act so at each history
pub signals_act : {p : Program} {r : Levels} → IsLevels p r → (d t : TypeTree) (e' e : TermTree) (γ' γ : Thunks) (δ' δ : TypeTrees) (x' x : History → Thunk) → ((h : History) → Opens p h (closed e' γ' δ') (x' h)) → ((h : History) → Reaches p h (closed e γ δ) (x h)) → ((h : History) → ActsAt p r t h (x' h) (x h)) → TermsAct p r (signal d t) e' γ' δ' e γ δ
signals_act {p} {r} l d t e' e γ' γ δ' δ x' x opens reach acts h' h m v al f =
    let own = opened_at l t h' (closed e' γ' δ') (x' h') (x h') (opens h') (acts h') m v (f_closed f) in
    let has = to_signal l m d t v (thunk_has p (x h') h') own in
    subst (λ h. later m r zero (signal d t) v (term_has p e γ δ h)) al
    (more l m (signal d t) v (thunk_has p (x h') h') (term_has p e γ δ h') (λ w q. let at = reach h' w q in (at.0, of_closed at.1)) has)

same_payload : {d e t u : TypeTree} → SameTypes (signal d t) (signal e u) → SameTypes t u
same_payload {u = u} x =
    let at = as_signal x in
    let same : at.1 ≡ u = cc in
    subst (SameTypes _) same at.4

pub as_up_to : {s : Setting} {kinds : List Kind} {vars : List TypeTree} {e : TermTree} {t u : TypeTree} → HasTypeUpTo s kinds vars e t → SameTypes t u → HasTypeUpTo s kinds vars e u
as_up_to d x = record { type = d.type; has = d.has; same = same_through (same_turned x) d.same }

-- what their types say of the parts of `fmap` and of `ap`
pub record OnSignals (s : Setting) (kinds : List Kind) (vars : List TypeTree) (d a b p : TypeTree) (f e : TermTree) (t : TypeTree) : Type 0 where
  pub in_domain : HasKind s kinds d Dom
  pub taken : HasKind s kinds a Val
  pub given : HasKind s kinds b Val
  pub function : HasTypeUpTo s kinds vars f p
  pub on : HasTypeUpTo s kinds vars e (signal d a)
  pub gives : SameTypes (signal d b) t

three_kinds : (s : Setting) {kinds : List Kind} {d a b : TypeTree} → KindsOf s.datas s.domains kinds (type_and d (type_and a (type_and b no_types))) (Dom ∷ Val ∷ Val ∷ []) → HasKind s kinds d Dom × HasKind s kinds a Val × HasKind s kinds b Val
three_kinds s (kind_and x (kind_and y (kind_and z w))) = (x, y, z)

pub fmap_parts : {s : Setting} {kinds : List Kind} {vars : List TypeTree} {d a b : TypeTree} {f e : TermTree} {t : TypeTree} → IsSound s → AreTermTypes s kinds vars → HasType s kinds vars (fmap_of d a b f e) t → OnSignals s kinds vars d a b (fun a b) f e t
unfolding sub
fmap_parts {s} {kinds} {vars} {d} {a} {b} {f} {e} {t} h g typed =
    let at = prim_at_arguments s kinds vars Fmap (Dom ∷ Val ∷ Val ∷ []) (fun (ty_var 1) (ty_var 0) ∷ signal (ty_var 2) (ty_var 1) ∷ []) (signal (ty_var 2) (ty_var 0)) (d ∷ a ∷ b ∷ []) (f ∷ e ∷ []) t h g refl refl refl typed in
    let of = three_kinds s at.have in
    record { in_domain = of.0; taken = of.1; given = of.2; function = at.args_given.0; on = at.args_given.1.0; gives = at.gives }

pub ap_parts : {s : Setting} {kinds : List Kind} {vars : List TypeTree} {d a b : TypeTree} {f e : TermTree} {t : TypeTree} → IsSound s → AreTermTypes s kinds vars → HasType s kinds vars (ap_of d a b f e) t → OnSignals s kinds vars d a b (signal d (fun a b)) f e t
unfolding sub
ap_parts {s} {kinds} {vars} {d} {a} {b} {f} {e} {t} h g typed =
    let at = prim_at_arguments s kinds vars Ap (Dom ∷ Val ∷ Val ∷ []) (signal (ty_var 2) (fun (ty_var 1) (ty_var 0)) ∷ signal (ty_var 2) (ty_var 1) ∷ []) (signal (ty_var 2) (ty_var 0)) (d ∷ a ∷ b ∷ []) (f ∷ e ∷ []) t h g refl refl refl typed in
    let of = three_kinds s at.have in
    record { in_domain = of.0; taken = of.1; given = of.2; function = at.args_given.0; on = at.args_given.1.0; gives = at.gives }

-- the value that a signal holds, and the payload that `fmap` and `ap` give
pub pure_part : {s : Setting} {kinds : List Kind} {vars : List TypeTree} {d a e u : TypeTree} {x : TermTree} → IsSound s → AreTermTypes s kinds vars → HasTypeUpTo s kinds vars (pure_of d a x) (signal e u) → HasTypeUpTo s kinds vars x u
unfolding sub
pure_part {s} {kinds} {vars} {d} {a} {e} {u} {x} h g typed =
    let at = prim_at_arguments s kinds vars Pure (Dom ∷ Val ∷ []) (ty_var 0 ∷ []) (signal (ty_var 1) (ty_var 0)) (d ∷ a ∷ []) (x ∷ []) typed.type h g refl refl refl typed.has in
    as_up_to at.args_given.0 (same_payload (same_through at.gives (same_turned typed.same)))

pub given_payload : {s : Setting} {kinds : List Kind} {vars : List TypeTree} {d e b u p a : TypeTree} {f x w : TermTree} (of : HasTypeUpTo s kinds vars w (signal e u)) → OnSignals s kinds vars d a b p f x of.type → SameTypes b u
given_payload of parts = same_payload (same_through parts.gives (same_turned of.same))
