-- A block RAM acts as another whose content, addresses and writes act so.
use Rattle.std.specs.Prelude.{slice_get}
use Rattle.std.proofs.Common.{◌≡◌, ◌≢◌, ◌<◌, ◌≤◌, ◌⊎◌, inl, inr, ℕ, suc, zero, Bool, List, [], ◌∷◌, length, map, reverse, Some, refl, sym, ap, ◌∙◌, subst, arith}
use Rattle.chw_bits.specs.Bits.{number_of}
use Rattle.chw_types.specs.declared.kind.Scalar.TheVariants.{U}
use Rattle.chw_types.specs.TypeTree.{TypeTree, ty_var, scalar, vector, signal, TypeTrees, no_types, type_and}
use Rattle.chw_types.specs.TypeMoves.{sub}
use Rattle.chw_types.specs.Arguments.{arguments}
use Rattle.chw_prims.specs.Schemas.{maybe, pair}
use Rattle.chw_terms.specs.declared.program.Program.{Program}
use Rattle.chw_terms.specs.Constructors.{Constructor, con_at}
use Rattle.chw_typing.specs.HeadTypes.{fields_at}
use Rattle.chw_typing.specs.Programs.{IsSound, setting_of}
use Rattle.chw_meaning.specs.Values.{History, Value, con_of, Thunk, field, element, Thunks, none, thunk_and, value_of}
use Rattle.chw_meaning.specs.Steps.{Ram, remembers}
use Rattle.chw_meaning.specs.Eval.{plus, last_tick, Forces, r_zero_first, r_zero_outside, r_word, Looks, Word, w_content, w_kept, w_elsewhere, w_written}
use Rattle.chw_meaning.proofs.Once.{same_some}
use Rattle.acts.specs.Levels.{Levels, later, thunk_has, ThunksAct}
use Rattle.acts.specs.Acts.{AllAct, BuiltActs, acts_from}
use Rattle.acts.proofs.Fields.{field_acts, element_acts}
use Rattle.acts.proofs.Levels.{IsLevels, from_turns, more, cost, from_signal, to_signal, alike_same}
use Rattle.acts.proofs.Numbers.{plus_is, room, ended, costs, to_later, Left, left}
use Rattle.acts.proofs.Steps.{looks_found}
use Rattle.acts.proofs.Telescopes.{step_has, StepsAct}
use Rattle.acts.proofs.Tied.{plus_suc, plus_zero}
use Rattle.acts.proofs.Values.{value_acts, zero_fits}

-- the constructor of pairs, and of what is there
pub pair_con : (p : Program) → IsSound (setting_of p) → (it : Constructor) × (con_at p.datas 4 ≡ Some it) × (it.of ≡ 2) × (length it.it.cons ≡ 1) × (it.decl.fields ≡ ty_var 1 ∷ ty_var 0 ∷ [])
pair_con p sound = subst (λ datas. (it : Constructor) × (con_at datas 4 ≡ Some it) × (it.of ≡ 2) × (length it.it.cons ≡ 1) × (it.decl.fields ≡ ty_var 1 ∷ ty_var 0 ∷ [])) (sym sound.begins.1) (_, refl, refl, refl, refl)

just_con : (p : Program) → IsSound (setting_of p) → (it : Constructor) × (con_at p.datas 3 ≡ Some it) × (it.decl.fields ≡ ty_var 0 ∷ [])
just_con p sound = subst (λ datas. (it : Constructor) × (con_at datas 3 ≡ Some it) × (it.decl.fields ≡ ty_var 0 ∷ [])) (sym sound.begins.1) (_, refl, refl)

pub none_beside : (p : Program) (r : Levels) (ts : List TypeTree) (xs : Thunks) → AllAct p r ts none xs → xs ≡ none
none_beside p r [] none h = refl
none_beside p r [] (thunk_and x xs) h = absurd h
none_beside p r (t ∷ ts) xs h = absurd h

one_beside : (p : Program) (r : Levels) (t : TypeTree) (x' : Thunk) (xs : Thunks) → AllAct p r (t ∷ []) (thunk_and x' none) xs → (x : Thunk) × (xs ≡ thunk_and x none) × ThunksAct p r t x' x
one_beside p r t x' (thunk_and x none) h = (x, refl, h.0)
one_beside p r t x' (thunk_and x (thunk_and y xs)) h = absurd h.1
one_beside p r t x' none h = absurd h

-- what a write of nothing is on the other side
nothing_there : (p : Program) (r : Levels) (ts : TypeTrees) (s : Value → Type 0) → BuiltActs p r 1 ts (con_of 2 none) s → s (con_of 2 none)
nothing_there p r ts s b =
    let tag : b.tag ≡ 2 = let e = b.is in cc in
    let first : b.first ≡ none = let e = b.is in cc in
    let second = none_beside p r (reverse (fields_at b.it ts)) b.second (subst (λ xs. AllAct p r (reverse (fields_at b.it ts)) xs b.second) first b.parts) in
    subst (λ c. s (con_of c none)) tag (subst (λ xs. s (con_of b.tag xs)) second b.has_value)

-- what a write of a pair is
just_there : (p : Program) → IsSound (setting_of p) → (r : Levels) (t : TypeTree) (x' : Thunk) (s : Value → Type 0) → BuiltActs p r 1 (type_and t no_types) (con_of 3 (thunk_and x' none)) s → (x : Thunk) × s (con_of 3 (thunk_and x none)) × ThunksAct p r t x' x
unfolding sub
just_there p sound r t x' s b =
    let tag : b.tag ≡ 3 = let e = b.is in cc in
    let first : b.first ≡ thunk_and x' none = let e = b.is in cc in
    let own = just_con p sound in
    let is : b.it ≡ own.0 = same_some b.held (ap (λ c. con_at p.datas c) tag ∙ own.1) in
    let fields : b.it.decl.fields ≡ ty_var 0 ∷ [] = ap (λ (it : Constructor). it.decl.fields) is ∙ own.2 in
    let moved = subst (λ xs. AllAct p r (reverse (fields_at b.it (type_and t no_types))) xs b.second) first b.parts in
    let one = one_beside p r t x' b.second (subst (λ fs. AllAct p r (reverse (map (λ f. sub f (arguments (type_and t no_types))) fs)) (thunk_and x' none) b.second) fields moved) in
    (one.0, subst (λ c. s (con_of c (thunk_and one.0 none))) tag (subst (λ xs. s (con_of b.tag xs)) one.1 b.has_value), one.2)

pair_field : (p : Program) (a b : TypeTree) (it : Constructor) (i : ℕ) → it.decl.fields ≡ ty_var 1 ∷ ty_var 0 ∷ [] → slice_get (reverse (fields_at it (type_and a (type_and b no_types)))) i ≡ slice_get (b ∷ a ∷ []) i
unfolding sub
pair_field p a b it i e = ap (λ fs. slice_get (reverse (map (λ f. sub f (arguments (type_and a (type_and b no_types)))) fs)) i) e

-- the parts of pairs that act so
first_acts : {p : Program} {r : Levels} → IsSound (setting_of p) → IsLevels p r → (a b : TypeTree) (x' x : Thunk) → ThunksAct p r (pair a b) x' x → ThunksAct p r a (field 1 x') (field 1 x)
first_acts {p} sound l a b x' x acts =
    let c = pair_con p sound in field_acts l 4 2 (type_and a (type_and b no_types)) c.0 1 a x' x c.1 c.2 c.3 (pair_field p a b c.0 1 c.4) acts

second_acts : {p : Program} {r : Levels} → IsSound (setting_of p) → IsLevels p r → (a b : TypeTree) (x' x : Thunk) → ThunksAct p r (pair a b) x' x → ThunksAct p r b (field 0 x') (field 0 x)
second_acts {p} sound l a b x' x acts =
    let c = pair_con p sound in field_acts l 4 2 (type_and a (type_and b no_types)) c.0 0 b x' x c.1 c.2 c.3 (pair_field p a b c.0 0 c.4) acts

abbrev pub ram_of : ℕ → ℕ → ℕ → TypeTree → Thunk → Thunk → Thunk → Ram
ram_of c n k a content read write = record { dom = c; size = n; address = k; payload = a; content = content; read = read; write = write }

module _ (p : Program) (sound : IsSound (setting_of p)) (c size k : ℕ) (w u d a : TypeTree) (content' content read' read write' write : Thunk) where
  abbrev first_ram : Ram
  first_ram = ram_of c size k a content' read' write'

  abbrev second_ram : Ram
  second_ram = ram_of c size k a content read write

  abbrev has_word : History → ℕ → Value → Type 0
  has_word g i v = (j : ℕ) × Word p j second_ram g i v

  -- what the write at a history is on the other side
  write_left : (n m : ℕ) (g : History) (v : Value) → ThunksAct p (acts_from p n) (signal d (maybe (pair (scalar U u) a))) write' write → m < n → Forces p m write' g v → Left p n m (maybe (pair (scalar U u) a)) v (thunk_has p write g)
  write_left n m g v writes l f =
      left p n m (maybe (pair (scalar U u) a)) v (thunk_has p write g) l (from_signal (from_turns p n) m d (maybe (pair (scalar U u) a)) v (thunk_has p write g) (writes g g m v refl f))

  -- the word stays where nothing is written
  kept_acts : (n : ℕ) → ThunksAct p (acts_from p n) (signal d (maybe (pair (scalar U u) a))) write' write → (x y i : ℕ) (g before : History) (v : Value) → last_tick second_ram g ≡ Some before → Forces p x write' before (con_of 2 none) → later y (acts_from p n) zero a v (has_word before i) → later (suc (plus x y)) (acts_from p n) zero a v (has_word g i)
  kept_acts n writes x y i g before v e f rest = by (room n x)
    where
      by : (x < n) ⊎ (n ≤ x) → later (suc (plus x y)) (acts_from p n) zero a v (has_word g i)
      by (inl l) =
          let asked = write_left n x before (con_of 2 none) writes l f in
          let there = nothing_there p (acts_from p asked.rest) (type_and (pair (scalar U u) a) no_types) (thunk_has p write before) asked.asked in
          cost (from_turns p n) (plus x y) a v (has_word g i) (costs (from_turns p n) x y a v (has_word g i) (more (from_turns p n) y a v (has_word before i) (has_word g i) (λ z q. (suc (plus there.0 q.0), w_kept e there.1 q.1)) rest))
      by (inr l) = ended p n (suc (plus x y)) a v (has_word g i) (omega (arith, l, plus_is x y))

  -- and where another is
  elsewhere_acts : (n : ℕ) → ThunksAct p (acts_from p n) (signal d (maybe (pair (scalar U u) a))) write' write → (x f y i : ℕ) (g before : History) (pair' : Thunk) (b : List Bool) (v : Value) → last_tick second_ram g ≡ Some before → Forces p x write' before (con_of 3 (thunk_and pair' none)) → Looks p f k (field 1 pair') before b → number_of b ≢ i → later y (acts_from p n) zero a v (has_word before i) → later (suc (plus x (plus f y))) (acts_from p n) zero a v (has_word g i)
  elsewhere_acts n writes x f y i g before pair' b v e fw ls other rest = by (room n x)
    where
      by : (x < n) ⊎ (n ≤ x) → later (suc (plus x (plus f y))) (acts_from p n) zero a v (has_word g i)
      by (inr l) = ended p n (suc (plus x (plus f y))) a v (has_word g i) (omega (arith, l, plus_is x (plus f y)))
      by (inl l) = looked (room asked.rest f)
        where
          asked : Left p n x (maybe (pair (scalar U u) a)) (con_of 3 (thunk_and pair' none)) (thunk_has p write before)
          asked = write_left n x before (con_of 3 (thunk_and pair' none)) writes l fw

          there : (q : Thunk) × thunk_has p write before (con_of 3 (thunk_and q none)) × ThunksAct p (acts_from p asked.rest) (pair (scalar U u) a) pair' q
          there = just_there p sound (acts_from p asked.rest) (pair (scalar U u) a) pair' (thunk_has p write before) asked.asked

          looked : (f < asked.rest) ⊎ (asked.rest ≤ f) → later (suc (plus x (plus f y))) (acts_from p n) zero a v (has_word g i)
          looked (inl m) =
              let firsts = first_acts sound (from_turns p asked.rest) (scalar U u) a pair' there.0 there.2 in
              let found = looks_found p asked.rest f k U u (field 1 pair') (field 1 there.0) before before b (λ j z. firsts before before j z tt) m ls in
              cost (from_turns p n) (plus x (plus f y)) a v (has_word g i) (costs (from_turns p n) x (plus f y) a v (has_word g i) (costs (from_turns p n) f y a v (has_word g i)
              (more (from_turns p n) y a v (has_word before i) (has_word g i) (λ z q. (suc (plus there.1.0 (plus found.0 q.0)), w_elsewhere e there.1.1 found.1 other q.1)) rest)))
          looked (inr m) = ended p n (suc (plus x (plus f y))) a v (has_word g i) (omega (arith, m, asked.is, plus_is x (suc asked.rest), plus_is x (plus f y), plus_is f y))

  -- a word that is written
  written_acts : (n : ℕ) → ThunksAct p (acts_from p n) (signal d (maybe (pair (scalar U u) a))) write' write → (x f y i : ℕ) (g before : History) (pair' : Thunk) (b : List Bool) (v : Value) → last_tick second_ram g ≡ Some before → Forces p x write' before (con_of 3 (thunk_and pair' none)) → Looks p f k (field 1 pair') before b → number_of b ≡ i → Forces p y (field 0 pair') before v → later (suc (plus x (plus f y))) (acts_from p n) zero a v (has_word g i)
  written_acts n writes x f y i g before pair' b v e fw ls here fv = by (room n x)
    where
      by : (x < n) ⊎ (n ≤ x) → later (suc (plus x (plus f y))) (acts_from p n) zero a v (has_word g i)
      by (inr l) = ended p n (suc (plus x (plus f y))) a v (has_word g i) (omega (arith, l, plus_is x (plus f y)))
      by (inl l) = looked (room asked.rest f)
        where
          asked : Left p n x (maybe (pair (scalar U u) a)) (con_of 3 (thunk_and pair' none)) (thunk_has p write before)
          asked = write_left n x before (con_of 3 (thunk_and pair' none)) writes l fw

          there : (q : Thunk) × thunk_has p write before (con_of 3 (thunk_and q none)) × ThunksAct p (acts_from p asked.rest) (pair (scalar U u) a) pair' q
          there = just_there p sound (acts_from p asked.rest) (pair (scalar U u) a) pair' (thunk_has p write before) asked.asked

          looked : (f < asked.rest) ⊎ (asked.rest ≤ f) → later (suc (plus x (plus f y))) (acts_from p n) zero a v (has_word g i)
          looked (inl m) =
              let firsts = first_acts sound (from_turns p asked.rest) (scalar U u) a pair' there.0 there.2 in
              let found = looks_found p asked.rest f k U u (field 1 pair') (field 1 there.0) before before b (λ j z. firsts before before j z tt) m ls in
              let seconds = second_acts sound (from_turns p asked.rest) (scalar U u) a pair' there.0 there.2 in
              let at = more (from_turns p asked.rest) y a v (thunk_has p (field 0 there.0) before) (has_word g i) (λ z q. (suc (plus there.1.0 (plus found.0 q.0)), w_written e there.1.1 found.1 here q.1)) (seconds before before y v (alike_same a before) fv) in
              subst (λ n. later (suc (plus x (plus f y))) (acts_from p n) zero a v (has_word g i)) (sym (asked.is ∙ plus_suc x asked.rest))
              (to_later p (suc x) (plus f y) asked.rest a v (has_word g i) (costs (from_turns p asked.rest) f y a v (has_word g i) at))
          looked (inr m) = ended p n (suc (plus x (plus f y))) a v (has_word g i) (omega (arith, m, asked.is, plus_is x (suc asked.rest), plus_is x (plus f y), plus_is f y))

  word_acts : (n : ℕ) → ThunksAct p (acts_from p n) (vector w a) content' content → ThunksAct p (acts_from p n) (signal d (maybe (pair (scalar U u) a))) write' write → {m i : ℕ} {g : History} {v : Value} → Word p m first_ram g i v → later m (acts_from p n) zero a v (has_word g i)
  word_acts n contents writes (w_content {n = m} {a = i} {g = g} {v = v} e f) = more (from_turns p n) m a v (thunk_has p (element i content) g) (has_word g i) (λ z q. (q.0, w_content e q.1)) (element_acts (from_turns p n) w a i content' content contents g g m v (alike_same a g) f)
  word_acts n contents writes (w_kept {m = x} {n = y} {a = i} {g = g} {g' = before} {v = v} e f rest) = kept_acts n writes x y i g before v e f (word_acts n contents writes rest)
  word_acts n contents writes (w_elsewhere {m = x} {k = f} {n = y} {a = i} {g = g} {g' = before} {pair = pair'} {b = b} {v = v} e fw ls other rest) = elsewhere_acts n writes x f y i g before pair' b v e fw ls other (word_acts n contents writes rest)
  word_acts n contents writes (w_written {m = x} {k = f} {n = y} {a = i} {g = g} {g' = before} {pair = pair'} {b = b} {v = v} e fw ls here fv) = written_acts n writes x f y i g before pair' b v e fw ls here fv

  abbrev has_step : History → Value → Type 0
  has_step h v = step_has p (remembers second_ram) h v

  -- a word that is read at an address
  read_acts : (n : ℕ) → ThunksAct p (acts_from p n) (signal d (scalar U u)) read' read → (x y : ℕ) (h g : History) (b : List Bool) (v : Value) (set : Value → Type 0) → Looks p x k read' g b → ((j : ℕ) → Looks p j k read g b → (z : Value) → set z → has_step h z) → later y (acts_from p n) zero a v set → later (plus x y) (acts_from p n) zero (signal d a) v (has_step h)
  read_acts n reads x y h g b v set ls step at = by (room n x)
    where
      by : (x < n) ⊎ (n ≤ x) → later (plus x y) (acts_from p n) zero (signal d a) v (has_step h)
      by (inr l) = ended p n (plus x y) (signal d a) v (has_step h) (omega (arith, l, plus_is x y))
      by (inl l) =
          let found = looks_found p n x k U u read' read g g b (λ j z f. from_signal (from_turns p n) j d (scalar U u) z (thunk_has p read g) (reads g g j z refl f)) l ls in
          to_signal (from_turns p n) (plus x y) d a v (has_step h) (costs (from_turns p n) x y a v (has_step h) (more (from_turns p n) y a v set (has_step h) (step found.0 found.1) at))

  pub remembers_step : (n : ℕ) → ThunksAct p (acts_from p n) (vector w a) content' content → ThunksAct p (acts_from p n) (signal d (scalar U u)) read' read → ThunksAct p (acts_from p n) (signal d (maybe (pair (scalar U u) a))) write' write → StepsAct p (acts_from p n) (signal d a) (remembers first_ram) (remembers second_ram)
  remembers_step n contents reads writes h' h m v al (r_zero_first {z = z} e zero_is) =
      subst (λ h. later zero (acts_from p n) zero (signal d a) (value_of z) (has_step h)) al (to_signal (from_turns p n) zero d a (value_of z) (has_step h') (value_acts (zero_fits p zero_is) (from_turns p n) zero (has_step h') (zero, r_zero_first e zero_is)))
  remembers_step n contents reads writes h' h m v al (r_zero_outside {n = x} {g = g} {b = b} {z = z} e ls out zero_is) =
      subst (λ h. later x (acts_from p n) zero (signal d a) (value_of z) (has_step h)) al
      (subst (λ x. later x (acts_from p n) zero (signal d a) (value_of z) (has_step h')) (plus_zero x)
      (read_acts n reads x zero h' g b (value_of z) (λ y. y ≡ value_of z) ls (λ j f y same. subst (has_step h') (sym same) (j, r_zero_outside e f out zero_is)) (value_acts (zero_fits p zero_is) (from_turns p n) zero (λ y. y ≡ value_of z) refl)))
  remembers_step n contents reads writes h' h m v al (r_word {m = x} {n = y} {g = g} {b = b} e ls inside word) =
      subst (λ h. later (plus x y) (acts_from p n) zero (signal d a) v (has_step h)) al
      (read_acts n reads x y h' g b v (has_word g (number_of b)) ls (λ j f z q. (plus j q.0, r_word e f inside q.1)) (word_acts n contents writes word))
