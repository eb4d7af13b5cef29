-- Types that are the same up to naturals act the same.
use Rattle.std.specs.Prelude.{slice_get}
use Rattle.std.proofs.Common.{◌≡◌, ◌⊎◌, ℕ, suc, zero, true, List, [], ◌∷◌, ◌++◌, length, map, reverse, Some, refl, sym, ◌∙◌, subst}
use Rattle.chw_types.specs.declared.kind.Kind.{Kind}
use Rattle.chw_types.specs.declared.kind.Kind.TheVariants.{Nat, Val}
use Rattle.chw_types.specs.declared.declarations.Data.{Data}
use Rattle.chw_types.specs.TypeTree.{TypeTree, ty_var, nat_lit, nat_sum, nat_product, domain, scalar, vector, data_of, fun, signal, for_all, TypeTrees}
use Rattle.chw_types.specs.TypeMoves.{sub, put_at, put}
use Rattle.chw_types.specs.Arguments.{arguments}
use Rattle.chw_types.specs.Kinds.{KindOf, kind_vector, kind_signal, KindsOf}
use Rattle.chw_types.specs.Polynomials.{is_natural}
use Rattle.chw_types.specs.SameTypes.{SameTypes, same_naturals, same_sum, same_product, same_domain, same_scalar, same_vector, same_data, same_fun, same_signal, same_for_all, SameAll}
use Rattle.chw_types.proofs.KindsKept.{Puts, kind_put, puts_put, closed_small}
use Rattle.chw_types.proofs.SameLaws.{same_self, same_turned}
use Rattle.chw_terms.specs.declared.program.Program.{Program}
use Rattle.chw_terms.specs.Constructors.{Constructor, con_at}
use Rattle.type_laws.specs.Standing.{InSums}
use Rattle.type_laws.proofs.Arguing.{same_arguments, kinds_of_arguments}
use Rattle.type_laws.proofs.OneKind.{nat_natural}
use Rattle.type_laws.proofs.PutSame.{same_put}
use Rattle.type_laws.proofs.Slots.{sum_slot}
use Rattle.chw_typing.specs.Scopes.{HasKind, IsTermType}
use Rattle.chw_typing.specs.HeadTypes.{fields_at}
use Rattle.chw_typing.specs.Programs.{IsSound, setting_of}
use Rattle.chw_typing.proofs.Kinded.{function_parts, bound_part}
use Rattle.chw_typing.proofs.Lists.{reverse_cons}
use Rattle.chw_typing.proofs.OneType.{put_same_of_kinds}
use Rattle.chw_typing.proofs.Patterns.{are_of_terms, fields_typed, constructor_arguments}
use Rattle.chw_meaning.specs.Values.{History, Value, Thunks, none, thunk_and}
use Rattle.chw_meaning.specs.Eval.{plus}
use Rattle.acts.specs.Levels.{Levels, later, Alike, First, Second, RunsAct, thunk_runs, thunk_has}
use Rattle.acts.specs.Acts.{AllAct, EachAct, act_step, acts_from}
use Rattle.acts.proofs.Widths.{same_number}
use Rattle.acts.proofs.Levels.{at_end, later_plus, IsLevels, at_levels}

-- closed types that are the same, with kinds
pub record Same (p : Program) (t u : TypeTree) : Type 0 where
  pub first : Kind
  pub second : Kind
  pub has_first : HasKind (setting_of p) [] t first
  pub has_second : HasKind (setting_of p) [] u second
  pub same : SameTypes t u

pub turned : {p : Program} {t u : TypeTree} → Same p t u → Same p u t
turned same = record { first = same.second; second = same.first; has_first = same.has_second; has_second = same.has_first; same = same_turned same.same }

pub itself : {p : Program} {t : TypeTree} {k : Kind} → HasKind (setting_of p) [] t k → Same p t t
itself {t = t} {k = k} d = record { first = k; second = k; has_first = d; has_second = d; same = same_self t }

-- as many types on both sides, each pair the same
abbrev pub EachSame : Program → List TypeTree → List TypeTree → Type 0
EachSame p [] [] = Unit {0}
EachSame p (t ∷ ts) (u ∷ us) = Same p t u × EachSame p ts us
EachSame p _ _ = ⊥

each_append : (p : Program) (ts us vs ws : List TypeTree) → EachSame p ts us → EachSame p vs ws → EachSame p (ts ++ vs) (us ++ ws)
each_append p [] [] vs ws h g = g
each_append p (t ∷ ts) (u ∷ us) vs ws h g = (h.0, each_append p ts us vs ws h.1 g)
each_append p [] (u ∷ us) vs ws h g = absurd h
each_append p (t ∷ ts) [] vs ws h g = absurd h

pub each_reverse : (p : Program) (ts us : List TypeTree) → EachSame p ts us → EachSame p (reverse ts) (reverse us)
each_reverse p [] [] h = tt
each_reverse p (t ∷ ts) (u ∷ us) h =
    subst (λ vs. EachSame p vs (reverse (u ∷ us))) (sym (reverse_cons t ts))
    (subst (EachSame p (reverse ts ++ t ∷ [])) (sym (reverse_cons u us)) (each_append p (reverse ts) (reverse us) (t ∷ []) (u ∷ []) (each_reverse p ts us h.1) (h.0, tt)))
each_reverse p [] (u ∷ us) h = absurd h
each_reverse p (t ∷ ts) [] h = absurd h

-- arguments of the parameters' kinds, as closed types
pub arguments_put : (p : Program) (params : List Kind) (ts : TypeTrees) → KindsOf p.datas (length p.domains) [] ts params → Puts p.datas (length p.domains) (arguments ts) (reverse params) []
arguments_put p params ts d x k e = let a = kinds_of_arguments p.datas (length p.domains) [] params ts d x k e in (a, closed_small a)

each_field : (p : Program) → IsSound (setting_of p) → (params : List Kind) (fs : List TypeTree) (ts us : TypeTrees) → ((i : ℕ) (f : TypeTree) → slice_get fs i ≡ Some f → IsTermType (setting_of p) (reverse params) f) → KindsOf p.datas (length p.domains) [] ts params → KindsOf p.datas (length p.domains) [] us params → SameAll ts us → EachSame p (map (λ f. sub f (arguments ts)) fs) (map (λ f. sub f (arguments us)) fs)
each_field p sound params [] ts us typed d e x = tt
each_field p sound params (f ∷ fs) ts us typed d e x =
    let k = typed 0 f refl in (
      record { first = k.kind; second = k.kind; has_first = kind_put k.has (arguments ts) [] (arguments_put p params ts d); has_second = kind_put k.has (arguments us) [] (arguments_put p params us e); same = same_put (same_self f) (arguments ts) (arguments us) (same_arguments ts us x) natural },
      each_field p sound params fs ts us (λ i g. typed (suc i) g) d e x,
    )
  where
    natural : (y : ℕ) → InSums f y ⊎ InSums f y → is_natural (arguments ts y) ≡ true
    natural y z = nat_natural (are_of_terms (setting_of p) sound) (kinds_of_arguments p.datas (length p.domains) [] params ts d y Nat (sum_slot (typed 0 f refl).has (typed 0 f refl).has y z)) refl

-- the fields of a constructor at arguments that are the same
pub same_fields : (p : Program) → IsSound (setting_of p) → (c d : ℕ) (it : Constructor) (ts us : TypeTrees) (j k : Kind) → con_at p.datas c ≡ Some it → it.of ≡ d → HasKind (setting_of p) [] (data_of d ts) j → HasKind (setting_of p) [] (data_of d us) k → SameAll ts us → EachSame p (fields_at it ts) (fields_at it us)
same_fields p sound c d it ts us j k held of a b x =
    each_field p sound it.it.params it.decl.fields ts us (fields_typed (setting_of p) c it sound held) (constructor_arguments (setting_of p) [] c d it ts j held of a) (constructor_arguments (setting_of p) [] c d it us k held of b) x

natural_alike : (t : TypeTree) (h' h : History) → is_natural t ≡ true → Alike t h' h
unfolding is_natural
natural_alike (ty_var x) h' h e = tt
natural_alike (nat_lit n) h' h e = tt
natural_alike (nat_sum a b) h' h e = tt
natural_alike (nat_product a b) h' h e = tt
natural_alike (domain d) h' h e = tt
natural_alike (scalar x w) h' h e = tt
natural_alike (vector n t) h' h e = tt
natural_alike (data_of d ts) h' h e = tt
natural_alike (fun a b) h' h e = tt
natural_alike (signal d a) h' h e = cc
natural_alike (for_all k t) h' h e = tt

natural_step : (p : Program) (r : Levels) (t : TypeTree) (v : Value) (s : Value → Type 0) → is_natural t ≡ true → act_step p r t v s
unfolding is_natural
natural_step p r (ty_var x) v s e = tt
natural_step p r (nat_lit n) v s e = tt
natural_step p r (nat_sum a b) v s e = tt
natural_step p r (nat_product a b) v s e = tt
natural_step p r (domain d) v s e = cc
natural_step p r (scalar x w) v s e = cc
natural_step p r (vector n t) v s e = cc
natural_step p r (data_of d ts) v s e = cc
natural_step p r (fun a b) v s e = cc
natural_step p r (signal d a) v s e = cc
natural_step p r (for_all k t) v s e = cc

pub alike_back : {t u : TypeTree} (h' h : History) → SameTypes t u → Alike u h' h → Alike t h' h
alike_back h' h (same_naturals {a = a} i j q) al = natural_alike a h' h i
alike_back h' h (same_sum x y) al = tt
alike_back h' h (same_product x y) al = tt
alike_back h' h same_domain al = tt
alike_back h' h (same_scalar x) al = tt
alike_back h' h (same_vector x y) al = tt
alike_back h' h (same_data x) al = tt
alike_back h' h (same_fun x y) al = tt
alike_back h' h (same_signal x y) al = al
alike_back h' h (same_for_all x) al = tt

-- what is asked at a type is asked at each that is the same
abbrev Respects : Program → Levels → Type 1
Respects p r =
    (m : ℕ) (t u : TypeTree) (v : Value) (s : Value → Type 0) → Same p t u → later m r zero t v s → later m r zero u v s

respects_later : {p : Program} {r : Levels} (i : ℕ) → Respects p r → Respects p (later i r)
respects_later {r = r} i resp m t u v s same h =
    subst (λ q. q zero u v s) (later_plus i m r) (resp (plus i m) t u v s same (subst (λ q. q zero t v s) (sym (later_plus i m r)) h))

runs_same : {p : Program} {r : Levels} → Respects p r → {t u : TypeTree} → Same p t u → (f : First) (g : Second) → RunsAct r t f g → RunsAct r u f g
runs_same resp {t} {u} same f g a = λ h' h m v al d. resp m t u v (g h) same (a h' h m v (alike_back h' h same.same al) d)

all_same : {p : Program} {r : Levels} → Respects p r → (ts us : List TypeTree) (xs' xs : Thunks) → EachSame p ts us → AllAct p r ts xs' xs → AllAct p r us xs' xs
all_same resp [] [] none none e h = tt
all_same {p} resp (t ∷ ts) (u ∷ us) (thunk_and x' xs') (thunk_and x xs) e h = (runs_same resp e.0 (thunk_runs p x') (thunk_has p x) h.0, all_same resp ts us xs' xs e.1 h.1)
all_same resp [] [] none (thunk_and x xs) e h = absurd h
all_same resp [] [] (thunk_and x' xs') xs e h = absurd h
all_same resp [] (u ∷ us) xs' xs e h = absurd e
all_same resp (t ∷ ts) [] xs' xs e h = absurd e
all_same resp (t ∷ ts) (u ∷ us) none xs e h = absurd h
all_same resp (t ∷ ts) (u ∷ us) (thunk_and x' xs') none e h = absurd h

each_same : {p : Program} {r : Levels} → Respects p r → {t u : TypeTree} → Same p t u → (xs' xs : Thunks) → EachAct p r t xs' xs → EachAct p r u xs' xs
each_same resp same none none h = tt
each_same {p} resp same (thunk_and x' xs') (thunk_and x xs) h = (runs_same resp same (thunk_runs p x') (thunk_has p x) h.0, each_same resp same xs' xs h.1)
each_same resp same none (thunk_and x xs) h = absurd h
each_same resp same (thunk_and x' xs') none h = absurd h

-- the kind of the elements of a vector, and of the payload of a signal
pub element_kind : {datas : List Data} {domains : ℕ} {scope : List Kind} {n t : TypeTree} {k : Kind} → KindOf datas domains scope (vector n t) k → KindOf datas domains scope t k
element_kind (kind_vector d e o) = e

pub payload_kind : {datas : List Data} {domains : ℕ} {scope : List Kind} {d t : TypeTree} {k : Kind} → KindOf datas domains scope (signal d t) k → KindOf datas domains scope t Val
payload_kind (kind_signal d e) = e

-- a closed type put for the variable of a bound type
pub put_kind : (p : Program) {t c : TypeTree} {j k : Kind} → HasKind (setting_of p) (j ∷ []) t k → HasKind (setting_of p) [] c j → HasKind (setting_of p) [] (put t 0 c) k
put_kind p {c = c} {j = j} d l = kind_put d (put_at 0 c) [] (puts_put p.datas (length p.domains) [] [] c j l (closed_small l))

same_bodies : {p : Program} {t u c : TypeTree} {i j k : Kind} → IsSound (setting_of p) → HasKind (setting_of p) (j ∷ []) t i → HasKind (setting_of p) (j ∷ []) u k → HasKind (setting_of p) [] c j → SameTypes t u → Same p (put t 0 c) (put u 0 c)
same_bodies {p} {c = c} {i = i} {j = j} {k = k} sound d e l x =
    record { first = i; second = k; has_first = put_kind p d l; has_second = put_kind p e l; same = put_same_of_kinds j (are_of_terms (setting_of p) sound) d e l x (same_self c) }

pub as_same : {p : Program} {t u : TypeTree} {j k : Kind} → HasKind (setting_of p) [] t j → HasKind (setting_of p) [] u k → SameTypes t u → Same p t u
as_same {j = j} {k = k} d e x = record { first = j; second = k; has_first = d; has_second = e; same = x }

step_same : {p : Program} {r : Levels} → IsSound (setting_of p) → Respects p r → {t u : TypeTree} → SameTypes t u → (j k : Kind) → HasKind (setting_of p) [] t j → HasKind (setting_of p) [] u k → (v : Value) (s : Value → Type 0) → act_step p r t v s → act_step p r u v s
step_same {p} {r} sound resp (same_naturals {b = b} x y q) j k d e v s h = natural_step p r b v s y
step_same sound resp (same_sum x y) j k d e v s h = tt
step_same sound resp (same_product x y) j k d e v s h = tt
step_same sound resp same_domain j k d e v s h = tt
step_same sound resp (same_scalar x) j k d e v s h = (h.0, h.1, h.2, h.3 ∙ same_number x)
step_same {p} sound resp (same_vector {t = t} {u = u} x y) j k d e v s h =
    record { first = h.first; second = h.second; is = h.is; has_value = h.has_value; parts = each_same resp (as_same (element_kind d) (element_kind e) y) h.first h.second h.parts }
step_same {p} sound resp (same_data {d = i} {ts = ts} {us = us} x) j k d e v s h =
    let fields = each_reverse p (fields_at h.it ts) (fields_at h.it us) (same_fields p sound h.tag i h.it ts us j k h.held h.of_type d e x) in
    record { tag = h.tag; it = h.it; held = h.held; of_type = h.of_type; first = h.first; second = h.second; is = h.is; has_value = h.has_value; parts = all_same resp (reverse (fields_at h.it ts)) (reverse (fields_at h.it us)) h.first h.second fields h.parts }
step_same {p} sound resp (same_fun {a = a} {b = b} {c = c} {d = f} x y) j k d e v s h =
    let left = function_parts d in
    let right = function_parts e in
    let back : Same p c a = as_same right.1 left.1 (same_turned x) in
    let on : Same p b f = as_same left.2 right.2 y in
    λ i x' x xs. runs_same (respects_later i resp) on _ _ (h i x' x (runs_same (respects_later i resp) back (thunk_runs p x') (thunk_has p x) xs))
step_same sound resp (same_signal x y) j k d e v s h = step_same sound resp y Val Val (payload_kind d) (payload_kind e) v s h
step_same {p} sound resp (same_for_all x) j k d e v s h = λ c l q. runs_same resp (same_bodies sound (bound_part d).0 (bound_part e).0 l x) _ _ (h c l q)

respects : (p : Program) → IsSound (setting_of p) → (n : ℕ) → Respects p (acts_from p n)
unfolding acts_from
respects p sound zero m t u v s same h = at_end p m u v s
respects p sound (suc n) zero t u v s same h = step_same sound (respects p sound n) same.same same.first same.second same.has_first same.has_second v s h
respects p sound (suc n) (suc m) t u v s same h = respects p sound n m t u v s same h

-- what acts so at a type does at each that is the same
pub same_acts : {p : Program} {r : Levels} → IsSound (setting_of p) → IsLevels p r → {t u : TypeTree} → Same p t u → (f : First) (g : Second) → RunsAct r t f g → RunsAct r u f g
same_acts {p} sound l {t} {u} same f g = at_levels l (λ q. RunsAct q t f g → RunsAct q u f g) (λ n. runs_same (respects p sound n) same f g)

pub same_all_act : {p : Program} {r : Levels} → IsSound (setting_of p) → IsLevels p r → (ts us : List TypeTree) (xs' xs : Thunks) → EachSame p ts us → AllAct p r ts xs' xs → AllAct p r us xs' xs
same_all_act {p} sound l ts us xs' xs e = at_levels l (λ q. AllAct p q ts xs' xs → AllAct p q us xs' xs) (λ n. all_same (respects p sound n) ts us xs' xs e)
