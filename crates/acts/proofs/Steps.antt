-- What a primitive does with thunks that act so acts so.
use Rattle.std.proofs.Common.{◌≡◌, ◌<◌, ◌≤◌, ◌⊎◌, inl, inr, ℕ, suc, zero, min, Bool, List, [], ◌∷◌, reverse, Some, refl, ◌∙◌, subst, arith}
use Rattle.chw_bits.specs.Bits.{number_of}
use Rattle.chw_types.specs.declared.kind.Scalar.{Scalar}
use Rattle.chw_types.specs.TypeTree.{TypeTree, ty_var, nat_lit, nat_sum, nat_product, domain, scalar, vector, data_of, fun, signal, for_all}
use Rattle.chw_prims.specs.declared.prim.Primitive.{Primitive as Prim}
use Rattle.prim_bits.specs.Values.{value_of as word_value}
use Rattle.chw_terms.specs.declared.program.Program.{Program}
use Rattle.chw_layout.specs.Measured.{closed_value}
use Rattle.chw_meaning.specs.Values.{History, Value, bits, vec_of, Thunk, applied, element, sample, Thunks, none, thunk_and, joined}
use Rattle.chw_meaning.specs.Steps.{Step, gives, goes_to, computes, samples, delays, looks_up, stuck, each_from, folded_left, folded_right, concatenated, at_index}
use Rattle.chw_meaning.specs.Eval.{plus, result, Forces, r_gives, r_goes_to, r_computes, r_samples, r_first, r_later, r_looks_up, Looks, l_empty, l_bits, Words, no_words, word_and}
use Rattle.acts.specs.Levels.{Levels, later, thunk_has, ThunksAct}
use Rattle.acts.specs.Acts.{AllAct, EachAct, acts_from}
use Rattle.acts.proofs.Fields.{element_acts}
use Rattle.acts.proofs.Forms.{called, call_acts, applied_acts, vector_acts, sample_acts}
use Rattle.acts.proofs.Levels.{at_end, IsLevels, from_turns, at_levels, more, from_signal, to_signal, alike_same, alike_at}
use Rattle.acts.proofs.Numbers.{plus_is, room, ended, costs, left}
use Rattle.acts.proofs.Telescopes.{step_has, StepsAct}

pub stuck_acts : {p : Program} (r : Levels) (t : TypeTree) (s : Step) → StepsAct p r t stuck s
stuck_acts r t s h' h m v al d = elim d [ ]

pub vector_step : {p : Program} {r : Levels} → IsLevels p r → (w t : TypeTree) (xs' xs : Thunks) → EachAct p r t xs' xs → StepsAct p r (vector w t) (gives (vec_of xs')) (gives (vec_of xs))
vector_step {p} l w t xs' xs each h' h m v al r_gives = vector_acts l zero w t xs' xs (step_has p (gives (vec_of xs)) h) (zero, r_gives) each

pub goes_step : {p : Program} {r : Levels} → IsLevels p r → (t : TypeTree) (x' x : Thunk) → ThunksAct p r t x' x → StepsAct p r t (goes_to x') (goes_to x)
goes_step {p} l t x' x acts h' h m v al (r_goes_to d) = more l m t v (thunk_has p x h) (step_has p (goes_to x) h) (λ w q. (q.0, r_goes_to q.1)) (acts h' h m v al d)

-- a thunk of values as a signal, and a signal in another domain
pub constant_acts : {p : Program} {r : Levels} → IsLevels p r → (d a : TypeTree) (x' x : Thunk) → ThunksAct p r a x' x → ThunksAct p r (signal d a) x' x
constant_acts {p} l d a x' x acts h' h m v al f = to_signal l m d a v (thunk_has p x h) (acts h' h m v (alike_at a al) f)

pub crossing_acts : {p : Program} {r : Levels} → IsLevels p r → (d e a : TypeTree) (x' x : Thunk) → ThunksAct p r (signal d a) x' x → ThunksAct p r (signal e a) x' x
crossing_acts {p} l d e a x' x acts h' h m v al f = to_signal l m e a v (thunk_has p x h) (from_signal l m d a v (thunk_has p x h) (acts h' h m v al f))

pub samples_step : {p : Program} {r : Levels} → IsLevels p r → (d a b : TypeTree) (f' f s' s : Thunk) → ((h : History) (m : ℕ) (v : Value) → Forces p m f' h v → later m r zero (fun a b) v (thunk_has p f h)) → ThunksAct p r (signal d a) s' s → StepsAct p r (signal d b) (samples f' s') (samples f s)
samples_step {p} {r} l d a b f' f s' s fs ss h' h m w al (r_samples {m = i} {n = j} {v = fv} df da) =
    let sampled = sample_acts l a s' s h' h' (λ n v e. from_signal l n d a v (thunk_has p s h') (ss h' h' n v refl e)) in
    let result = call_acts l a b (sample s' h') (sample s h') (thunk_has p f h') i j fv w h' h' (fs h' i fv df) sampled (alike_same b h') da in
    let at = to_signal l (suc (plus i j)) d b w (step_has p (samples f s) h') (more l (suc (plus i j)) b w (called p (thunk_has p f h') (sample s h') h') (step_has p (samples f s) h') (λ u q. (suc (plus q.1.0 q.2.0), r_samples q.1.1 q.2.1)) result) in
    subst (λ h. later (suc (plus i j)) r zero (signal d b) w (step_has p (samples f s) h)) al at

pub delays_step : {p : Program} {r : Levels} → IsLevels p r → (c : ℕ) (d a : TypeTree) (i' i s' s : Thunk) → ThunksAct p r a i' i → ThunksAct p r (signal d a) s' s → StepsAct p r (signal d a) (delays c i' s') (delays c i s)
delays_step {p} {r} l c d a i' i s' s is ss h' h m w al (r_first q e) =
    subst (λ h. later m r zero (signal d a) w (step_has p (delays c i s) h)) al
    (to_signal l m d a w (step_has p (delays c i s) h') (more l m a w (thunk_has p i h') (step_has p (delays c i s) h') (λ u x. (x.0, r_first q x.1)) (is h' h' m w (alike_same a h') e)))
delays_step {p} {r} l c d a i' i s' s is ss h' h m w al (r_later {g = g} q e) =
    subst (λ h. later m r zero (signal d a) w (step_has p (delays c i s) h)) al
    (more l m (signal d a) w (thunk_has p s g) (step_has p (delays c i s) h') (λ u x. (x.0, r_later q x.1)) (ss g g m w refl e))

-- a scalar of another type of the same width
scalar_at : (p : Program) (n m : ℕ) (x : Scalar) (w u : TypeTree) → closed_value w ≡ closed_value u → (v : Value) (s : Value → Type 0) → later m (acts_from p n) zero (scalar x w) v s → later m (acts_from p n) zero (scalar x u) v s
unfolding acts_from
scalar_at p zero m x w u same v s h = at_end p m (scalar x u) v s
scalar_at p (suc n) zero x w u same v s h = (h.0, h.1, h.2, h.3 ∙ same)
scalar_at p (suc n) (suc m) x w u same v s h = scalar_at p n m x w u same v s h

pub scalars_act : {p : Program} {r : Levels} → IsLevels p r → (x : Scalar) (w u : TypeTree) → closed_value w ≡ closed_value u → (x' y : Thunk) → ThunksAct p r (scalar x w) x' y → ThunksAct p r (scalar x u) x' y
scalars_act {p} l x w u same x' y acts h' h m v al d = at_levels l (λ q. later m q zero (scalar x w) v (thunk_has p y h) → later m q zero (scalar x u) v (thunk_has p y h)) (λ n. scalar_at p n m x w u same v (thunk_has p y h)) (acts h' h m v al d)

-- the bits of a scalar, where a turn is left
pub bits_left : (p : Program) (n m : ℕ) (x : Scalar) (w : TypeTree) (b : List Bool) (s : Value → Type 0) → m < n → later m (acts_from p n) zero (scalar x w) (bits b) s → s (bits b)
bits_left p n m x w b s l h =
    let q = (left p n m (scalar x w) (bits b) s l h).asked in
    let same : q.0 ≡ b = let e = q.1 in cc in
    subst (λ b. s (bits b)) same q.2

pub looks_found : (p : Program) (n m k : ℕ) (x : Scalar) (w : TypeTree) (x' y : Thunk) (h' h : History) (b : List Bool) → ((i : ℕ) (v : Value) → Forces p i x' h' v → later i (acts_from p n) zero (scalar x w) v (thunk_has p y h)) → m < n → Looks p m k x' h' b → (j : ℕ) × Looks p j k y h b
looks_found p n m k x w x' y h' h b acts l l_empty = (zero, l_empty)
looks_found p n m k x w x' y h' h b acts l (l_bits d) = let q = bits_left p n m x w b (thunk_has p y h) l (acts m (bits b) d) in (q.0, l_bits q.1)

-- all of these are types of scalars
abbrev pub AreScalars : List TypeTree → Type 0
AreScalars [] = Unit {0}
AreScalars (scalar x w ∷ ts) = AreScalars ts
AreScalars (_ ∷ ts) = ⊥

words_found : (p : Program) (n : ℕ) (ts : List TypeTree) (xs' xs : Thunks) (h' h : History) (widths : List ℕ) (m : ℕ) (bs : List (List Bool)) → AreScalars ts → AllAct p (acts_from p n) ts xs' xs → m < n → Words p m widths xs' h' bs → (j : ℕ) × Words p j widths xs h bs
words_found p n [] none none h' h widths m bs sc all l no_words = (zero, no_words)
words_found p n (scalar x w ∷ ts) (thunk_and x' xs') (thunk_and y xs) h' h widths m bs sc all l (word_and {m = i} {n = j} {k = k} {b = b} d more) =
    let sum = plus_is i j in
    let one = looks_found p n i k x w x' y h' h b (λ i v. all.0 h' h i v tt) (omega (arith, l, sum)) d in
    let rest = words_found p n ts xs' xs h' h _ j _ sc all.1 (omega (arith, l, sum)) more in
    (plus one.0 rest.0, word_and one.1 rest.1)
words_found p n [] none (thunk_and y xs) h' h widths m bs sc all l d = absurd all
words_found p n [] (thunk_and x' xs') xs h' h widths m bs sc all l d = absurd all
words_found p n (scalar x w ∷ ts) none xs h' h widths m bs sc all l d = absurd all
words_found p n (scalar x w ∷ ts) (thunk_and x' xs') none h' h widths m bs sc all l d = absurd all
words_found p n (ty_var x ∷ ts) xs' xs h' h widths m bs sc all l d = absurd sc
words_found p n (nat_lit x ∷ ts) xs' xs h' h widths m bs sc all l d = absurd sc
words_found p n (nat_sum t u ∷ ts) xs' xs h' h widths m bs sc all l d = absurd sc
words_found p n (nat_product t u ∷ ts) xs' xs h' h widths m bs sc all l d = absurd sc
words_found p n (domain x ∷ ts) xs' xs h' h widths m bs sc all l d = absurd sc
words_found p n (vector w t ∷ ts) xs' xs h' h widths m bs sc all l d = absurd sc
words_found p n (data_of x us ∷ ts) xs' xs h' h widths m bs sc all l d = absurd sc
words_found p n (fun t u ∷ ts) xs' xs h' h widths m bs sc all l d = absurd sc
words_found p n (signal t u ∷ ts) xs' xs h' h widths m bs sc all l d = absurd sc
words_found p n (for_all k t ∷ ts) xs' xs h' h widths m bs sc all l d = absurd sc

-- a primitive on words, if what it gives acts as itself
pub computes_step : (p : Program) (n : ℕ) (t : TypeTree) (q : Prim) (nats widths : List ℕ) (ts : List TypeTree) (xs' xs : Thunks) → AreScalars ts → ((m : ℕ) (b : List Bool) (s : Value → Type 0) → ((args : List (List Bool)) × (word_value q nats args ≡ Some b)) → s (result q b) → later m (acts_from p n) zero t (result q b) s) → AllAct p (acts_from p n) ts xs' xs → StepsAct p (acts_from p n) t (computes q nats widths xs') (computes q nats widths xs)
computes_step p n t q nats widths ts xs' xs sc gives_it all h' h m v al (r_computes {bs = bs} {b = b} words e) = by (room n m)
  where
    by : (m < n) ⊎ (n ≤ m) → later m (acts_from p n) zero t (result q b) (step_has p (computes q nats widths xs) h)
    by (inl l) = let found = words_found p n ts xs' xs h' h widths m bs sc all l words in gives_it m b (step_has p (computes q nats widths xs) h) (reverse bs, e) (found.0, r_computes found.1 e)
    by (inr l) = ended p n m t (result q b) _ l

pub looks_up_step : (p : Program) (n last k : ℕ) (x : Scalar) (w u t : TypeTree) (v' v i' i : Thunk) → ThunksAct p (acts_from p n) (vector w t) v' v → ThunksAct p (acts_from p n) (scalar x u) i' i → StepsAct p (acts_from p n) t (looks_up last k v' i') (looks_up last k v i)
looks_up_step p n last k x w u t v' v i' i vs is h' h m y al (r_looks_up {m = a} {n = c} {b = b} d f) = by (room n a)
  where
    set : Value → Type 0
    set = step_has p (looks_up last k v i) h

    by : (a < n) ⊎ (n ≤ a) → later (plus a c) (acts_from p n) zero t y set
    by (inl l) =
        let found = looks_found p n a k x u i' i h' h b (λ j z. is h' h j z tt) l d in
        let at = element_acts (from_turns p n) w t (min (number_of b) last) v' v vs h' h c y al f in
        costs (from_turns p n) a c t y set (more (from_turns p n) c t y (thunk_has p (element (min (number_of b) last) v) h) set (λ z q. (plus found.0 q.0, r_looks_up found.1 q.1)) at)
    by (inr l) = ended p n (plus a c) t y set (omega (arith, l, plus_is a c))

-- an element by an index
pub index_step : (p : Program) (n last k : ℕ) (x : Scalar) (w u t : TypeTree) (v' v i' i : Thunk) → ThunksAct p (acts_from p n) (vector w t) v' v → ThunksAct p (acts_from p n) (scalar x u) i' i → StepsAct p (acts_from p n) t (at_index last k v' i') (at_index last k v i)
index_step p n zero k x w u t v' v i' i vs is = goes_step (from_turns p n) t (element zero v') (element zero v) (element_acts (from_turns p n) w t zero v' v vs)
index_step p n (suc last) k x w u t v' v i' i vs is = looks_up_step p n (suc last) k x w u t v' v i' i vs is

-- thunks, each by its number
pub each_from_acts : {p : Program} {r : Levels} (t : TypeTree) (f' f : ℕ → Thunk) → ((j : ℕ) → ThunksAct p r t (f' j) (f j)) → (j n : ℕ) → EachAct p r t (each_from j n f') (each_from j n f)
each_from_acts t f' f acts j zero = tt
each_from_acts t f' f acts j (suc n) = (acts j, each_from_acts t f' f acts (suc j) n)

pub joined_acts : (p : Program) (r : Levels) (t : TypeTree) (xs' xs ys' ys : Thunks) → EachAct p r t xs' xs → EachAct p r t ys' ys → EachAct p r t (joined xs' ys') (joined xs ys)
joined_acts p r t none none ys' ys h k = k
joined_acts p r t (thunk_and x' xs') (thunk_and x xs) ys' ys h k = (h.0, joined_acts p r t xs' xs ys' ys h.1 k)
joined_acts p r t none (thunk_and x xs) ys' ys h k = absurd h
joined_acts p r t (thunk_and x' xs') none ys' ys h k = absurd h

pub concatenated_acts : {p : Program} {r : Levels} → IsLevels p r → (w u t : TypeTree) (v' v : Thunk) → ThunksAct p r (vector w (vector u t)) v' v → (q n m : ℕ) → EachAct p r t (concatenated q n m v') (concatenated q n m v)
concatenated_acts l w u t v' v vs q zero m = tt
concatenated_acts {p} {r} l w u t v' v vs q (suc n) m =
    joined_acts p r t (each_from zero m (λ i. element i (element q v'))) (each_from zero m (λ i. element i (element q v))) (concatenated (suc q) n m v') (concatenated (suc q) n m v)
    (each_from_acts t (λ i. element i (element q v')) (λ i. element i (element q v)) (λ j. element_acts l u t j (element q v') (element q v) (element_acts l w (vector u t) q v' v vs)) zero m)
    (concatenated_acts l w u t v' v vs (suc q) n m)

pub folded_left_acts : {p : Program} {r : Levels} → IsLevels p r → (w a b : TypeTree) (f' f v' v : Thunk) → ThunksAct p r (fun b (fun a b)) f' f → ThunksAct p r (vector w a) v' v → (j n : ℕ) (z' z : Thunk) → ThunksAct p r b z' z → ThunksAct p r b (folded_left j n f' z' v') (folded_left j n f z v)
folded_left_acts l w a b f' f v' v fs vs j zero z' z zs = zs
folded_left_acts l w a b f' f v' v fs vs j (suc n) z' z zs =
    folded_left_acts l w a b f' f v' v fs vs (suc j) n (applied (applied f' z') (element j v')) (applied (applied f z) (element j v))
    (applied_acts l a b (applied f' z') (applied f z) (element j v') (element j v) (applied_acts l b (fun a b) f' f z' z fs zs) (element_acts l w a j v' v vs))

pub folded_right_acts : {p : Program} {r : Levels} → IsLevels p r → (w a b : TypeTree) (f' f v' v z' z : Thunk) → ThunksAct p r (fun a (fun b b)) f' f → ThunksAct p r (vector w a) v' v → ThunksAct p r b z' z → (j n : ℕ) → ThunksAct p r b (folded_right j n f' z' v') (folded_right j n f z v)
folded_right_acts l w a b f' f v' v z' z fs vs zs j zero = zs
folded_right_acts l w a b f' f v' v z' z fs vs zs j (suc n) =
    applied_acts l b b (applied f' (element j v')) (applied f (element j v)) (folded_right (suc j) n f' z' v') (folded_right (suc j) n f z v)
    (applied_acts l a (fun b b) f' f (element j v') (element j v) fs (element_acts l w a j v' v vs)) (folded_right_acts l w a b f' f v' v z' z fs vs zs (suc j) n)
