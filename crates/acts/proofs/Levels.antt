-- Laws of levels: fewer turns ask less, more values are as good, and what is asked with a turn opens.
use Rattle.std.proofs.Common.{◌≡◌, ℕ, suc, zero, List, [], ◌∷◌, reverse, refl, sym, ap, ◌∙◌, subst}
use Rattle.chw_types.specs.declared.kind.Kind.{Kind}
use Rattle.chw_types.specs.TypeTree.{TypeTree, ty_var, nat_lit, nat_sum, nat_product, domain, scalar, vector, data_of, fun, signal, for_all}
use Rattle.chw_types.specs.TypeMoves.{put}
use Rattle.chw_terms.specs.declared.program.Program.{Program}
use Rattle.chw_typing.specs.HeadTypes.{fields_at}
use Rattle.chw_meaning.specs.Values.{History, Value, Thunk, Thunks, none, thunk_and}
use Rattle.chw_meaning.specs.Eval.{plus}
use Rattle.acts.specs.Levels.{Levels, later, Alike, First, Second, RunsAct, thunk_runs, thunk_has, ThunksAct}
use Rattle.acts.specs.Acts.{AllAct, EachAct, FunctionActs, FamilyActs, act_step, acts_from}

-- at the end nothing is asked
pub at_end : (p : Program) (m : ℕ) (t : TypeTree) (v : Value) (s : Value → Type 0) → later m (acts_from p zero) zero t v s
unfolding acts_from
at_end p zero t v s = tt
at_end p (suc m) t v s = at_end p m t v s

pub at_end_twice : (p : Program) (i k : ℕ) (t : TypeTree) (v : Value) (s : Value → Type 0) → later k (later i (acts_from p zero)) zero t v s
unfolding acts_from
at_end_twice p zero k t v s = at_end p k t v s
at_end_twice p (suc i) k t v s = at_end_twice p i k t v s

pub later_plus : (m k : ℕ) (r : Levels) → later (plus m k) r ≡ later k (later m r)
later_plus zero k r = refl
later_plus (suc m) k r = later_plus m k (λ i. r (suc i))

abbrev pub after_one : Levels → Levels
after_one r = λ k. r (suc k)

-- what one asks, the other asks too
abbrev pub Below : Levels → Levels → Type 1
Below q r = (m : ℕ) (t : TypeTree) (v : Value) (s : Value → Type 0) → r m t v s → q m t v s

later_below : (r : Levels) → Below (after_one r) r → (m : ℕ) (t : TypeTree) (v : Value) (s : Value → Type 0) → later m r zero t v s → later (suc m) r zero t v s
later_below r b zero t v s h = b zero t v s h
later_below r b (suc m) t v s h = later_below (after_one r) (λ i. b (suc i)) m t v s h

runs_below : (r : Levels) → Below (after_one r) r → (t : TypeTree) (f : First) (g : Second) → RunsAct r t f g → RunsAct (after_one r) t f g
runs_below r b t f g h = λ h' h'' m v al d. later_below r b m t v (g h'') (h h' h'' m v al d)

all_below : (p : Program) (r : Levels) → Below (after_one r) r → (ts : List TypeTree) (xs' xs : Thunks) → AllAct p r ts xs' xs → AllAct p (after_one r) ts xs' xs
all_below p r b [] none none h = tt
all_below p r b (t ∷ ts) (thunk_and x' xs') (thunk_and x xs) h = (runs_below r b t (thunk_runs p x') (thunk_has p x) h.0, all_below p r b ts xs' xs h.1)
all_below p r b [] none (thunk_and x xs) h = absurd h
all_below p r b [] (thunk_and x' xs') xs h = absurd h
all_below p r b (t ∷ ts) none xs h = absurd h
all_below p r b (t ∷ ts) (thunk_and x' xs') none h = absurd h

each_below : (p : Program) (r : Levels) → Below (after_one r) r → (t : TypeTree) (xs' xs : Thunks) → EachAct p r t xs' xs → EachAct p (after_one r) t xs' xs
each_below p r b t none none h = tt
each_below p r b t (thunk_and x' xs') (thunk_and x xs) h = (runs_below r b t (thunk_runs p x') (thunk_has p x) h.0, each_below p r b t xs' xs h.1)
each_below p r b t none (thunk_and x xs) h = absurd h
each_below p r b t (thunk_and x' xs') none h = absurd h

step_below : (p : Program) (r : Levels) → Below (after_one r) r → (t : TypeTree) (v : Value) (s : Value → Type 0) → act_step p r t v s → act_step p (after_one r) t v s
step_below p r b (ty_var x) v s h = tt
step_below p r b (nat_lit n) v s h = tt
step_below p r b (nat_sum t u) v s h = tt
step_below p r b (nat_product t u) v s h = tt
step_below p r b (domain d) v s h = tt
step_below p r b (scalar x w) v s h = h
step_below p r b (vector n t) v s h = record { first = h.first; second = h.second; is = h.is; has_value = h.has_value; parts = each_below p r b t h.first h.second h.parts }
step_below p r b (data_of d ts) v s h = record { tag = h.tag; it = h.it; held = h.held; of_type = h.of_type; first = h.first; second = h.second; is = h.is; has_value = h.has_value; parts = all_below p r b (reverse (fields_at h.it ts)) h.first h.second h.parts }
step_below p r b (fun t u) v s h = λ i. h (suc i)
step_below p r b (signal d a) v s h = step_below p r b a v s h
step_below p r b (for_all k t) v s h = λ c l e. runs_below r b _ _ _ (h c l e)

weaken : (p : Program) (n : ℕ) → Below (after_one (acts_from p n)) (acts_from p n)
unfolding acts_from
weaken p zero m t v s h = tt
weaken p (suc n) (suc m) t v s h = weaken p n m t v s h
weaken p (suc zero) zero t v s h = tt
weaken p (suc (suc n)) zero t v s h = step_below p (acts_from p (suc n)) (weaken p (suc n)) t v s h

-- a value that acts as one of the values acts as one of more values
abbrev pub Grows : Levels → Type 1
Grows r =
    (m : ℕ) (t : TypeTree) (v : Value) (s u : Value → Type 0) → ((w : Value) → s w → u w) → r m t v s → r m t v u

later_grows : (i : ℕ) (r : Levels) → Grows r → Grows (later i r)
later_grows zero r g = g
later_grows (suc i) r g = later_grows i (after_one r) (λ m. g (suc m))

runs_grow : (r : Levels) → Grows r → (t : TypeTree) (f : First) (g k : Second) → ((h : History) (w : Value) → g h w → k h w) → RunsAct r t f g → RunsAct r t f k
runs_grow r grows t f g k sub a = λ h' h m v al d. later_grows m r grows zero t v (g h) (k h) (sub h) (a h' h m v al d)

step_grows : (p : Program) (r : Levels) → Grows r → (t : TypeTree) (v : Value) (s u : Value → Type 0) → ((w : Value) → s w → u w) → act_step p r t v s → act_step p r t v u
step_grows p r g (ty_var x) v s u f h = tt
step_grows p r g (nat_lit n) v s u f h = tt
step_grows p r g (nat_sum a b) v s u f h = tt
step_grows p r g (nat_product a b) v s u f h = tt
step_grows p r g (domain d) v s u f h = tt
step_grows p r g (scalar x w) v s u f h = (h.0, h.1, f _ h.2, h.3)
step_grows p r g (vector n t) v s u f h = record { first = h.first; second = h.second; is = h.is; has_value = f _ h.has_value; parts = h.parts }
step_grows p r g (data_of d ts) v s u f h = record { tag = h.tag; it = h.it; held = h.held; of_type = h.of_type; first = h.first; second = h.second; is = h.is; has_value = f _ h.has_value; parts = h.parts }
step_grows p r g (fun a b) v s u f h = λ i x' x xs. runs_grow (later i r) (later_grows i r g) b _ _ _ (λ h w q. (q.0, f q.0 q.1, q.2)) (h i x' x xs)
step_grows p r g (signal d a) v s u f h = step_grows p r g a v s u f h
step_grows p r g (for_all k t) v s u f h = λ c l e. runs_grow r g _ _ _ _ (λ h w q. (q.0, f q.0 q.1, q.2)) (h c l e)

acts_grow : (p : Program) (n : ℕ) → Grows (acts_from p n)
unfolding acts_from
acts_grow p zero m t v s u f h = tt
acts_grow p (suc n) zero t v s u f h = step_grows p (acts_from p n) (acts_grow p n) t v s u f h
acts_grow p (suc n) (suc m) t v s u f h = acts_grow p n m t v s u f h

later_is : (p : Program) (i n : ℕ) → (k : ℕ) × (later i (acts_from p n) ≡ acts_from p k)
unfolding acts_from
later_is p zero n = (n, refl)
later_is p (suc i) zero = later_is p i zero
later_is p (suc i) (suc n) = later_is p i n

-- the levels are those of some number of turns
pub record IsLevels (p : Program) (r : Levels) : Type 1 where
  pub turns : ℕ
  pub is : r ≡ acts_from p turns

pub from_turns : (p : Program) (n : ℕ) → IsLevels p (acts_from p n)
from_turns p n = record { turns = n; is = refl }

-- what holds for every number of turns
pub at_levels : {p : Program} {r : Levels} → IsLevels p r → (P : Levels → Type 0) → ((n : ℕ) → P (acts_from p n)) → P r
at_levels l P h = subst P (sym l.is) (h l.turns)

pub at_later : {p : Program} {r : Levels} (i : ℕ) → IsLevels p r → IsLevels p (later i r)
at_later {p} i l = let q = later_is p i l.turns in record { turns = q.0; is = ap (later i) l.is ∙ q.1 }

-- one more turn of the first side
pub cost : {p : Program} {r : Levels} → IsLevels p r → (m : ℕ) (t : TypeTree) (v : Value) (s : Value → Type 0) → later m r zero t v s → later (suc m) r zero t v s
cost {p} l m t v s = at_levels l (λ q. later m q zero t v s → later (suc m) q zero t v s) (λ n h. later_below (acts_from p n) (weaken p n) m t v s h)

-- more values of the second side
pub more : {p : Program} {r : Levels} → IsLevels p r → (m : ℕ) (t : TypeTree) (v : Value) (s u : Value → Type 0) → ((w : Value) → s w → u w) → later m r zero t v s → later m r zero t v u
more {p} l m t v s u f = at_levels l (λ q. later m q zero t v s → later m q zero t v u) (λ n. later_grows m (acts_from p n) (acts_grow p n) zero t v s u f)

pub runs_more : {p : Program} {r : Levels} → IsLevels p r → (t : TypeTree) (f : First) (g k : Second) → ((h : History) (w : Value) → g h w → k h w) → RunsAct r t f g → RunsAct r t f k
runs_more l t f g k sub a = λ h' h m v al d. more l m t v (g h) (k h) (sub h) (a h' h m v al d)

runs_from : (p : Program) (i n : ℕ) (t : TypeTree) (f : First) (g : Second) → RunsAct (acts_from p n) t f g → RunsAct (later i (acts_from p n)) t f g
unfolding acts_from
runs_from p zero n t f g h = h
runs_from p (suc i) zero t f g h = runs_from p i zero t f g h
runs_from p (suc i) (suc n) t f g h = runs_from p i n t f g (runs_below (acts_from p (suc n)) (weaken p (suc n)) t f g h)

-- what acts so does with fewer turns
pub runs_later : {p : Program} {r : Levels} → IsLevels p r → (i : ℕ) (t : TypeTree) (f : First) (g : Second) → RunsAct r t f g → RunsAct (later i r) t f g
runs_later {p} l i t f g = at_levels l (λ q. RunsAct q t f g → RunsAct (later i q) t f g) (λ n. runs_from p i n t f g)

pub all_later : {p : Program} {r : Levels} → IsLevels p r → (i : ℕ) (ts : List TypeTree) (xs' xs : Thunks) → AllAct p r ts xs' xs → AllAct p (later i r) ts xs' xs
all_later l i [] none none h = tt
all_later {p} l i (t ∷ ts) (thunk_and x' xs') (thunk_and x xs) h = (runs_later l i t (thunk_runs p x') (thunk_has p x) h.0, all_later l i ts xs' xs h.1)
all_later l i [] none (thunk_and x xs) h = absurd h
all_later l i [] (thunk_and x' xs') xs h = absurd h
all_later l i (t ∷ ts) none xs h = absurd h
all_later l i (t ∷ ts) (thunk_and x' xs') none h = absurd h

-- fewer turns ask less
pub fewer_turns : (p : Program) (n : ℕ) (t : TypeTree) (x' x : Thunk) → ThunksAct p (acts_from p (suc n)) t x' x → ThunksAct p (acts_from p n) t x' x
unfolding acts_from
fewer_turns p n t x' x h = runs_later (from_turns p (suc n)) (suc zero) t (thunk_runs p x') (thunk_has p x) h

opens_from : (p : Program) (n m : ℕ) (t : TypeTree) (v : Value) (s : Value → Type 0) (G : Levels → Type 0) → G (acts_from p zero) → later m (acts_from p n) zero t v s → (act_step p (later (suc m) (acts_from p n)) t v s → G (later (suc m) (acts_from p n))) → G (later (suc m) (acts_from p n))
unfolding acts_from
opens_from p zero zero t v s G e h f = e
opens_from p zero (suc m) t v s G e h f = opens_from p zero m t v s G e h f
opens_from p (suc n) zero t v s G e h f = f h
opens_from p (suc n) (suc m) t v s G e h f = opens_from p n m t v s G e h f

-- what is asked of a value, as a goal one turn later uses it; with no turn left the goal is to hold anyhow
pub opens : {p : Program} {r : Levels} → IsLevels p r → (m : ℕ) (t : TypeTree) (v : Value) (s : Value → Type 0) (G : Levels → Type 0) → G (acts_from p zero) → later m r zero t v s → (act_step p (later (suc m) r) t v s → G (later (suc m) r)) → G (later (suc m) r)
opens {p} l m t v s G e = at_levels l (λ q. later m q zero t v s → (act_step p (later (suc m) q) t v s → G (later (suc m) q)) → G (later (suc m) q)) (λ n. opens_from p n m t v s G e)

-- a function's value, once it is called
pub function_opens : {p : Program} {r : Levels} → IsLevels p r → (m : ℕ) (a b : TypeTree) (v : Value) (s : Value → Type 0) → later m r zero (fun a b) v s → FunctionActs p (later (suc m) r) a b v s
function_opens {p} l m a b v s h = opens l m (fun a b) v s (λ q. FunctionActs p q a b v s) (λ i x' x xs h' h'' k w al d. at_end_twice p i k b w _) h (λ f. f)

pub family_opens : {p : Program} {r : Levels} → IsLevels p r → (m : ℕ) (k : Kind) (t : TypeTree) (v : Value) (s : Value → Type 0) → later m r zero (for_all k t) v s → FamilyActs p (later (suc m) r) k t v s
family_opens {p} l m k t v s h = opens l m (for_all k t) v s (λ q. FamilyActs p q k t v s) (λ c kd e h' h'' j w al d. at_end p j (put t 0 c) w _) h (λ f. f)

from_signal_at : (p : Program) (n m : ℕ) (d a : TypeTree) (v : Value) (s : Value → Type 0) → later m (acts_from p n) zero (signal d a) v s → later m (acts_from p n) zero a v s
unfolding acts_from
from_signal_at p zero m d a v s h = at_end p m a v s
from_signal_at p (suc n) zero d a v s h = h
from_signal_at p (suc n) (suc m) d a v s h = from_signal_at p n m d a v s h

to_signal_at : (p : Program) (n m : ℕ) (d a : TypeTree) (v : Value) (s : Value → Type 0) → later m (acts_from p n) zero a v s → later m (acts_from p n) zero (signal d a) v s
unfolding acts_from
to_signal_at p zero m d a v s h = at_end p m (signal d a) v s
to_signal_at p (suc n) zero d a v s h = h
to_signal_at p (suc n) (suc m) d a v s h = to_signal_at p n m d a v s h

-- a value of a signal acts as one of its payload
pub from_signal : {p : Program} {r : Levels} → IsLevels p r → (m : ℕ) (d a : TypeTree) (v : Value) (s : Value → Type 0) → later m r zero (signal d a) v s → later m r zero a v s
from_signal {p} l m d a v s = at_levels l (λ q. later m q zero (signal d a) v s → later m q zero a v s) (λ n. from_signal_at p n m d a v s)

pub to_signal : {p : Program} {r : Levels} → IsLevels p r → (m : ℕ) (d a : TypeTree) (v : Value) (s : Value → Type 0) → later m r zero a v s → later m r zero (signal d a) v s
to_signal {p} l m d a v s = at_levels l (λ q. later m q zero a v s → later m q zero (signal d a) v s) (λ n. to_signal_at p n m d a v s)

pub alike_same : (t : TypeTree) (h : History) → Alike t h h
alike_same (ty_var x) h = tt
alike_same (nat_lit n) h = tt
alike_same (nat_sum a b) h = tt
alike_same (nat_product a b) h = tt
alike_same (domain d) h = tt
alike_same (scalar x w) h = tt
alike_same (vector n t) h = tt
alike_same (data_of d ts) h = tt
alike_same (fun a b) h = tt
alike_same (signal d a) h = refl
alike_same (for_all k t) h = tt

-- at one history every type is looked at
pub alike_at : (t : TypeTree) {h' h : History} → h' ≡ h → Alike t h' h
alike_at t {h'} e = subst (λ h. Alike t h' h) e (alike_same t h')
