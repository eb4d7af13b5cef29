-- The meaning as a function, which computes: the value of a term at a history and its turns,
-- where the evaluation is at most so deep.
use Rattle.std.specs.Prelude.{ℕ, suc, zero, min, Bool, true, false, nat_lt, nat_eq, List, [], ◌∷◌, replicate, reverse, Option, Some, None, slice_get}
use Rattle.chw_bits.specs.Bits.{number_of}
use Rattle.chw_clock.specs.Histories.{taken}
use Rattle.chw_types.specs.declared.declarations.ConDecl.{ConDecl}
use Rattle.chw_types.specs.declared.declarations.Data.{Data}
use Rattle.chw_types.specs.TypeTree.{TypeTree, scalar, vector, data_of, TypeTrees, no_types, type_and}
use Rattle.chw_types.specs.TypeMoves.{Substitution, sub}
use Rattle.chw_types.specs.Arguments.{arguments}
use Rattle.prim_bits.specs.Values.{value_of as word_value}
use Rattle.chw_terms.specs.declared.program.Program.{Program}
use Rattle.chw_terms.specs.Evaluated.{evaluated}
use Rattle.chw_terms.specs.TermTree.{TermTree, var, global, made, lam, app, ty_lam, ty_app, letrec, con, prim, lit, vec_lit, case_of, Alts}
use Rattle.chw_layout.specs.Datum.{Datum, word, built, elements, Datums, no_data, datum_and}
use Rattle.chw_layout.specs.Encodes.{first_constructor}
use Rattle.chw_layout.specs.Measured.{closed_value}
use Rattle.chw_meaning.specs.Values.{History, con_head, prim_head, Value, bits, con_of, vec_of, closure, ty_closure, partial, Thunk, closed, applied, member, field, element, sample, stream, known, Thunks, none, thunk_and, thunk_at, closed_type, joined, in_group, body_at, fields_from, closed_all, value_of, item_at}
use Rattle.chw_meaning.specs.Steps.{Ram, Step, gives, goes_to, computes, samples, delays, remembers, looks_up, stuck, step}
use Rattle.chw_meaning.specs.Eval.{plus, Choice, goes_on, takes, looks, choice, arm_of, result, dom, last_tick}

-- what was found, and in how many turns
pub record Found (A : Type 0) : Type 0 where
  pub value : A
  pub turns : ℕ

abbrev pub found : {A : Type 0} → A → ℕ → Option (Found A)
found x n = Some (record { value = x; turns = n })

-- with so many turns before it
abbrev pub after : {A : Type 0} → ℕ → Option (Found A) → Option (Found A)
after m None = None
after m (Some r) = found r.value (plus m r.turns)

abbrev pub turn : {A : Type 0} → Option (Found A) → Option (Found A)
turn None = None
turn (Some r) = found r.value (suc r.turns)

-- goes on with what was found, and counts the turns of both
abbrev pub and_then : {A B : Type 0} → Option (Found A) → (A → Option (Found B)) → Option (Found B)
and_then None go = None
and_then (Some r) go = after r.turns (go r.value)

-- goes on with what is there
abbrev pub with_it : {A B : Type 0} → Option A → (A → Option B) → Option B
with_it None go = None
with_it (Some x) go = go x

-- what was found, as something else, in the same turns
abbrev pub seen : {A B : Type 0} → (A → Option B) → Option (Found A) → Option (Found B)
seen f None = None
seen f (Some r) = with_it (f r.value) (λ y. found y r.turns)

-- what was found, as what the function makes of it, in the same turns
abbrev pub found_as : {A B : Type 0} → (A → B) → Option (Found A) → Option (Found B)
found_as f None = None
found_as f (Some r) = found (f r.value) r.turns

-- what is there, if the condition holds
abbrev pub only_if : {A : Type 0} → Bool → Option A → Option A
only_if true o = o
only_if false o = None

abbrev pub changed : {A B : Type 0} → (A → B) → Option A → Option B
changed f None = None
changed f (Some x) = Some (f x)

abbrev pub bits_in : Value → Option (List Bool)
bits_in (bits b) = Some b
bits_in _ = None

abbrev pub fields_in : Value → Option Thunks
fields_in (con_of c ths) = Some ths
fields_in _ = None

abbrev pub elements_in : Value → Option Thunks
elements_in (vec_of ths) = Some ths
elements_in _ = None

abbrev pub with_both : {A B C : Type 0} → Option A → Option B → (A → B → C) → Option C
with_both (Some x) (Some y) f = Some (f x y)
with_both _ _ f = None

-- the data value of the type whose bits are all zero
unfoldable mutual
  pub zero_by : ℕ → List Data → TypeTree → Option Datum
  zero_by zero datas t = None
  zero_by (suc d) datas (scalar s n) = Some (word (replicate (closed_value n) false))
  zero_by (suc d) datas (vector n t) = changed elements (zeros_by d datas (closed_value n) t)
  zero_by (suc d) datas (data_of i ts) = changed (built (first_constructor datas i)) (zero_data_by d datas (slice_get datas i) (arguments ts))
  zero_by (suc d) datas _ = None

  pub zeros_by : ℕ → List Data → ℕ → TypeTree → Option Datums
  zeros_by zero datas n t = None
  zeros_by (suc d) datas zero t = Some no_data
  zeros_by (suc d) datas (suc n) t = with_both (zero_by d datas t) (zeros_by d datas n t) datum_and

  pub zero_data_by : ℕ → List Data → Option Data → Substitution → Option Datums
  zero_data_by zero datas o σ = None
  zero_data_by (suc d) datas None σ = None
  zero_data_by (suc d) datas (Some it) σ = zero_con_by d datas (slice_get it.cons zero) σ

  pub zero_con_by : ℕ → List Data → Option ConDecl → Substitution → Option Datums
  zero_con_by zero datas o σ = None
  zero_con_by (suc d) datas None σ = None
  zero_con_by (suc d) datas (Some k) σ = zero_fields_by d datas k.fields σ

  pub zero_fields_by : ℕ → List Data → List TypeTree → Substitution → Option Datums
  zero_fields_by zero datas fs σ = None
  zero_fields_by (suc d) datas [] σ = Some no_data
  zero_fields_by (suc d) datas (f ∷ fs) σ =
      with_both (zero_by d datas (sub f σ)) (zero_fields_by d datas fs σ) datum_and

unfoldable mutual
  pub eval : ℕ → Program → TermTree → Thunks → TypeTrees → History → Option (Found Value)
  eval zero p e γ δ h = None
  eval (suc d) p (var x) γ δ h = with_it (thunk_at γ x) (λ th. turn (force d p th h))
  eval (suc d) p (global i) γ δ h =
      with_it (slice_get p.defs i) (λ it. turn (eval d p it.body none no_types h))
  eval (suc d) p (made m) γ δ h = None
  eval (suc d) p (lam t e) γ δ h = found (closure e γ δ) 1
  eval (suc d) p (app f a) γ δ h =
      turn (and_then (eval d p f γ δ h) (λ v. apply d p v (closed a γ δ) h))
  eval (suc d) p (ty_lam k e) γ δ h = found (ty_closure e γ δ) 1
  eval (suc d) p (ty_app f t) γ δ h =
      turn (and_then (eval d p f γ δ h) (λ v. apply_type d p v (evaluated (closed_type t δ)) h))
  eval (suc d) p (letrec g e) γ δ h = turn (eval d p e (in_group g γ δ) δ h)
  eval (suc d) p (con c) γ δ h = turn (run d p (step p.datas (con_head c) no_types none) h)
  eval (suc d) p (prim q) γ δ h = turn (run d p (step p.datas (prim_head q) no_types none) h)
  eval (suc d) p (lit s b) γ δ h = found (bits b) 1
  eval (suc d) p (vec_lit t es) γ δ h = found (vec_of (closed_all es γ δ)) 1
  eval (suc d) p (case_of s alts) γ δ h = turn (chosen d p (choice p.datas alts) s alts γ δ h)

  pub chosen : ℕ → Program → Choice → TermTree → Alts → Thunks → TypeTrees → History → Option (Found Value)
  chosen zero p c s alts γ δ h = None
  chosen (suc d) p (goes_on e) s alts γ δ h = eval d p e γ δ h
  chosen (suc d) p (takes k e) s alts γ δ h = eval d p e (fields_from zero k (closed s γ δ) γ) δ h
  chosen (suc d) p looks s alts γ δ h = and_then (eval d p s γ δ h) (λ v. with_it (arm_of v alts) (λ a. eval d p a.body (joined a.fields γ) δ h))

  pub force : ℕ → Program → Thunk → History → Option (Found Value)
  force zero p th h = None
  force (suc d) p (closed e γ δ) h = eval d p e γ δ h
  force (suc d) p (applied f a) h = turn (and_then (force d p f h) (λ v. apply d p v a h))
  force (suc d) p (member g i γ δ) h =
      with_it (body_at g i) (λ e. turn (eval d p e (in_group g γ δ) δ h))
  force (suc d) p (field i th) h = turn (and_then (force d p th h) (λ v. with_it (fields_in v) (λ ths. with_it (thunk_at ths i) (λ x. force d p x h))))
  force (suc d) p (element j th) h = turn (and_then (force d p th h) (λ v. with_it (elements_in v) (λ ths. with_it (thunk_at ths j) (λ x. force d p x h))))
  force (suc d) p (sample th g) h = force d p th g
  force (suc d) p (stream ds) h = with_it (item_at ds h) (λ d. found (value_of d) 1)
  force (suc d) p (known x) h = found (value_of x) 1

  pub apply : ℕ → Program → Value → Thunk → History → Option (Found Value)
  apply zero p v a h = None
  apply (suc d) p (closure e γ δ) a h = turn (eval d p e (thunk_and a γ) δ h)
  apply (suc d) p (partial hd ts ths) a h = turn (run d p (step p.datas hd ts (thunk_and a ths)) h)
  apply (suc d) p _ a h = None

  pub apply_type : ℕ → Program → Value → TypeTree → History → Option (Found Value)
  apply_type zero p v t h = None
  apply_type (suc d) p (ty_closure e γ δ) t h = turn (eval d p e γ (type_and t δ) h)
  apply_type (suc d) p (partial hd ts ths) t h =
      turn (run d p (step p.datas hd (type_and t ts) ths) h)
  apply_type (suc d) p _ t h = None

  pub run : ℕ → Program → Step → History → Option (Found Value)
  run zero p s h = None
  run (suc d) p (gives v) h = found v 0
  run (suc d) p (goes_to th) h = force d p th h
  run (suc d) p (computes q nats widths ths) h =
      seen (λ bs. changed (result q) (word_value q nats (reverse bs))) (words d p widths ths h)
  run (suc d) p (samples f s) h = turn (and_then (force d p f h) (λ v. apply d p v (sample s h) h))
  run (suc d) p (delays c i s) h = delayed d p (taken h (dom c)) i s h
  run (suc d) p (remembers ram) h = remembered d p (last_tick ram h) ram
  run (suc d) p (looks_up last k v i) h =
      and_then (look d p k i h) (λ b. force d p (element (min (number_of b) last) v) h)
  run (suc d) p stuck h = None

  pub delayed : ℕ → Program → Option History → Thunk → Thunk → History → Option (Found Value)
  delayed zero p o i s h = None
  delayed (suc d) p None i s h = force d p i h
  delayed (suc d) p (Some g) i s h = force d p s g

  pub look : ℕ → Program → ℕ → Thunk → History → Option (Found (List Bool))
  look zero p k th h = None
  look (suc d) p zero th h = found [] 0
  look (suc d) p (suc k) th h = seen bits_in (force d p th h)

  pub words : ℕ → Program → List ℕ → Thunks → History → Option (Found (List (List Bool)))
  words zero p ks ths h = None
  words (suc d) p [] none h = found [] 0
  words (suc d) p [] (thunk_and th ths) h = None
  words (suc d) p (k ∷ ks) none h = None
  words (suc d) p (k ∷ ks) (thunk_and th ths) h =
      and_then (look d p k th h) (λ b. seen (λ bs. Some (b ∷ bs)) (words d p ks ths h))

  -- a block RAM, where its last tick was
  pub remembered : ℕ → Program → Option History → Ram → Option (Found Value)
  remembered zero p o ram = None
  remembered (suc d) p None ram =
      with_it (zero_by d p.datas ram.payload) (λ z. found (value_of z) 0)
  remembered (suc d) p (Some g) ram = and_then (look d p ram.address ram.read g) (λ b. at_address d p (nat_lt (number_of b) ram.size) ram g (number_of b))

  -- a block RAM at an address, which is one of its content or not
  pub at_address : ℕ → Program → Bool → Ram → History → ℕ → Option (Found Value)
  at_address zero p inside ram g a = None
  at_address (suc d) p true ram g a = word_at d p (last_tick ram g) ram g a
  at_address (suc d) p false ram g a =
      with_it (zero_by d p.datas ram.payload) (λ z. found (value_of z) 0)

  -- the word at an address, where the tick before was
  pub word_at : ℕ → Program → Option History → Ram → History → ℕ → Option (Found Value)
  word_at zero p o ram g a = None
  word_at (suc d) p None ram g a = force d p (element a ram.content) g
  word_at (suc d) p (Some g') ram g a =
      turn (and_then (force d p ram.write g') (λ v. written d p v ram g' a))

  -- the word at an address after a write of this value
  pub written : ℕ → Program → Value → Ram → History → ℕ → Option (Found Value)
  written zero p v ram g a = None
  written (suc d) p (con_of (suc (suc zero)) none) ram g a =
      word_at d p (last_tick ram g) ram g a
  written (suc d) p (con_of (suc (suc (suc zero))) (thunk_and pair none)) ram g a = and_then (look d p ram.address (field 1 pair) g) (λ b. replaced_at d p (nat_eq (number_of b) a) pair ram g a)
  written (suc d) p _ ram g a = None

  -- the word at an address after a write of this pair, to that address or to another
  pub replaced_at : ℕ → Program → Bool → Thunk → Ram → History → ℕ → Option (Found Value)
  replaced_at zero p here pair ram g a = None
  replaced_at (suc d) p true pair ram g a = force d p (field 0 pair) g
  replaced_at (suc d) p false pair ram g a = word_at d p (last_tick ram g) ram g a
