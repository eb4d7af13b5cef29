-- The function that computes the meaning gives only what the relation has.
use Rattle.std.specs.Prelude.{min, reverse, slice_get, nat_lt, nat_eq, ◌<◌, ◌≤◌, ◌≢◌, true, false}
use Rattle.std.proofs.Common.{◌≡◌, ℕ, suc, zero, List, [], ◌∷◌, Bool, Option, Some, None, refl, sym, ap, subst}
use Rattle.std.proofs.lemmas.Bool.{ltb-true, ltb-false, eqb-true, eqb-false}
use Rattle.chw_bits.specs.Bits.{number_of}
use Rattle.chw_clock.specs.Histories.{taken}
use Rattle.chw_types.specs.declared.declarations.ConDecl.{ConDecl}
use Rattle.chw_types.specs.declared.declarations.Data.{Data}
use Rattle.chw_types.specs.TypeTree.{TypeTree, ty_var, nat_lit, nat_sum, nat_product, domain, scalar, vector, data_of, fun, signal, for_all, TypeTrees, no_types, type_and}
use Rattle.chw_types.specs.TypeMoves.{Substitution, sub}
use Rattle.chw_types.specs.Arguments.{arguments}
use Rattle.chw_prims.specs.declared.prim.Primitive.{Primitive as Prim}
use Rattle.prim_bits.specs.Values.{value_of as word_value}
use Rattle.chw_terms.specs.declared.program.Program.{Program}
use Rattle.chw_terms.specs.Evaluated.{evaluated}
use Rattle.chw_terms.specs.TermTree.{TermTree, var, global, made, lam, app, ty_lam, ty_app, letrec, con, prim, lit, vec_lit, case_of, Alts}
use Rattle.chw_layout.specs.Datum.{Datum, built, elements, Datums, datum_and}
use Rattle.chw_layout.specs.Encodes.{first_constructor}
use Rattle.chw_layout.specs.Measured.{closed_value}
use Rattle.chw_meaning.specs.Zeros.{IsZero, zero_scalar, zero_vector, zero_data, AreZeros, no_zeros, zeros_and, AreZeroFields, no_zero_field, zero_field_and}
use Rattle.chw_meaning.specs.Values.{History, con_head, prim_head, Value, bits, con_of, vec_of, closure, ty_closure, partial, Thunk, closed, applied, member, field, element, sample, stream, known, Thunks, none, thunk_and, thunk_at, closed_type, joined, in_group, body_at, fields_from, value_of, item_at}
use Rattle.chw_meaning.specs.Steps.{Ram, Step, gives, goes_to, computes, samples, delays, remembers, looks_up, stuck, step}
use Rattle.chw_meaning.specs.Eval.{plus, Choice, goes_on, takes, looks, choice, arm_of, result, dom, last_tick, Evals, e_var, e_global, e_lam, e_app, e_ty_lam, e_ty_app, e_letrec, e_con, e_prim, e_lit, e_vec, e_goes_on, e_takes, e_looks, Forces, f_closed, f_applied, f_member, f_field, f_element, f_sample, f_stream, f_known, Applies, a_closure, a_runs, TyApplies, t_closure, t_runs, Runs, r_gives, r_goes_to, r_computes, r_samples, r_first, r_later, r_zero_first, r_zero_outside, r_word, r_looks_up, Looks, l_empty, l_bits, Words, no_words, word_and, Word, w_content, w_kept, w_elsewhere, w_written}
use Rattle.chw_meaning.specs.Run.{changed, bits_in, fields_in, elements_in, zero_by, zeros_by, zero_data_by, zero_con_by, zero_fields_by, eval, chosen, force, apply, apply_type, run, delayed, look, words, remembered, at_address, word_at, written, replaced_at}
use Rattle.chw_meaning.proofs.Holding.{Holds, nothing, one, turned, mapped, then, at_it, seen_as, If, if_none, if_some, if_so, if_changed, if_both}

mutual
  unfolding zero_by

  pub zero_sound : (d : ℕ) (datas : List Data) (t : TypeTree) → If Datum (λ z. IsZero datas t z) (zero_by d datas t)
  zero_sound zero datas t = if_none
  zero_sound (suc d) datas (scalar s n) = if_some zero_scalar
  zero_sound (suc d) datas (vector n t) = if_changed elements (zeros_sound d datas (closed_value n) t) (λ ds z. zero_vector z)
  zero_sound (suc d) datas (data_of i ts) = if_changed (built (first_constructor datas i)) (zero_data_sound d datas i ts (slice_get datas i) refl) (λ ds z. z)
  zero_sound (suc d) datas (ty_var x) = if_none
  zero_sound (suc d) datas (nat_lit x) = if_none
  zero_sound (suc d) datas (nat_sum a b) = if_none
  zero_sound (suc d) datas (nat_product a b) = if_none
  zero_sound (suc d) datas (domain x) = if_none
  zero_sound (suc d) datas (fun a b) = if_none
  zero_sound (suc d) datas (signal a b) = if_none
  zero_sound (suc d) datas (for_all k t) = if_none

  zeros_sound : (d : ℕ) (datas : List Data) (n : ℕ) (t : TypeTree) → If Datums (λ ds. AreZeros datas n t ds) (zeros_by d datas n t)
  zeros_sound zero datas n t = if_none
  zeros_sound (suc d) datas zero t = if_some no_zeros
  zeros_sound (suc d) datas (suc n) t = if_both datum_and (zero_sound d datas t) (zeros_sound d datas n t) (λ x xs z zs. zeros_and z zs)

  zero_data_sound : (d : ℕ) (datas : List Data) (i : ℕ) (ts : TypeTrees) (o : Option Data) → slice_get datas i ≡ o → If Datums (λ ds. IsZero datas (data_of i ts) (built (first_constructor datas i) ds)) (zero_data_by d datas o (arguments ts))
  zero_data_sound zero datas i ts o e = if_none
  zero_data_sound (suc d) datas i ts None e = if_none
  zero_data_sound (suc d) datas i ts (Some it) e = zero_con_sound d datas i ts it e (slice_get it.cons zero) refl

  zero_con_sound : (d : ℕ) (datas : List Data) (i : ℕ) (ts : TypeTrees) (it : Data) → slice_get datas i ≡ Some it → (o : Option ConDecl) → slice_get it.cons zero ≡ o → If Datums (λ ds. IsZero datas (data_of i ts) (built (first_constructor datas i) ds)) (zero_con_by d datas o (arguments ts))
  zero_con_sound zero datas i ts it e o f = if_none
  zero_con_sound (suc d) datas i ts it e None f = if_none
  zero_con_sound (suc d) datas i ts it e (Some k) f = if_so (zero_fields_sound d datas k.fields (arguments ts)) (λ ds z. zero_data e f z)

  zero_fields_sound : (d : ℕ) (datas : List Data) (fs : List TypeTree) (σ : Substitution) → If Datums (λ ds. AreZeroFields datas fs σ ds) (zero_fields_by d datas fs σ)
  zero_fields_sound zero datas fs σ = if_none
  zero_fields_sound (suc d) datas [] σ = if_some no_zero_field
  zero_fields_sound (suc d) datas (f ∷ fs) σ = if_both datum_and (zero_sound d datas (sub f σ)) (zero_fields_sound d datas fs σ) (λ x xs z zs. zero_field_and z zs)

bits_found : (v : Value) (b : List Bool) → bits_in v ≡ Some b → v ≡ bits b
bits_found (bits a) b e = cc
bits_found (con_of c ths) b e = cc
bits_found (vec_of ths) b e = cc
bits_found (closure t γ δ) b e = cc
bits_found (ty_closure t γ δ) b e = cc
bits_found (partial hd ts ths) b e = cc

-- a value with fields is a constructor on them
fields_found : (v : Value) (ths : Thunks) → fields_in v ≡ Some ths → (c : ℕ) × (v ≡ con_of c ths)
fields_found (con_of c xs) ths e = (c, ap (con_of c) (cc))
fields_found (bits a) ths e = cc
fields_found (vec_of xs) ths e = cc
fields_found (closure t γ δ) ths e = cc
fields_found (ty_closure t γ δ) ths e = cc
fields_found (partial hd ts xs) ths e = cc

pub elements_found : (v : Value) (ths : Thunks) → elements_in v ≡ Some ths → v ≡ vec_of ths
elements_found (vec_of xs) ths e = cc
elements_found (bits a) ths e = cc
elements_found (con_of c xs) ths e = cc
elements_found (closure t γ δ) ths e = cc
elements_found (ty_closure t γ δ) ths e = cc
elements_found (partial hd ts xs) ths e = cc

pub forced_as : {p : Program} {n : ℕ} {th : Thunk} {h : History} {v w : Value} → v ≡ w → Forces p n th h v → Forces p n th h w
forced_as {p} {n} {th} {h} e f = subst (λ v. Forces p n th h v) e f

-- results of primitives on words
word_found : {p : Program} (q : Prim) (nats widths : List ℕ) (ths : Thunks) (h : History) (bs : List (List Bool)) (n : ℕ) → Words p n widths ths h bs → (o : Option (List Bool)) → word_value q nats (reverse bs) ≡ o → (w : Value) → changed (result q) o ≡ Some w → Runs p n (computes q nats widths ths) h w
word_found q nats widths ths h bs n all None e w f = cc
word_found {p} q nats widths ths h bs n all (Some b) e w f = let same : result q b ≡ w = cc in subst (λ w. Runs p n (computes q nats widths ths) h w) same (r_computes all e)

below : (a b : ℕ) → nat_lt a b ≡ true → a < b
below a b e = ltb-true a b e

above : (a b : ℕ) → nat_lt a b ≡ false → b ≤ a
above a b e = ltb-false a b e

same_number : (a b : ℕ) → nat_eq a b ≡ true → a ≡ b
same_number a b e = eqb-true a b e

other_number : (a b : ℕ) → nat_eq a b ≡ false → a ≢ b
other_number a b e = eqb-false a b e

words_joined : {p : Program} (k : ℕ) (ks : List ℕ) (th : Thunk) (ths : Thunks) (h : History) (b : List Bool) (bs cs : List (List Bool)) (m n : ℕ) → Looks p m k th h b → Words p n ks ths h bs → ◌≡◌ {A = Option (List (List Bool))} (Some (b ∷ bs)) (Some cs) → Words p (plus m n) (k ∷ ks) (thunk_and th ths) h cs
words_joined {p} k ks th ths h b bs cs m n x y e = let same : b ∷ bs ≡ cs = cc in subst (λ cs. Words p (plus m n) (k ∷ ks) (thunk_and th ths) h cs) same (word_and x y)

plus_zero : (m : ℕ) → plus m zero ≡ m
plus_zero zero = refl
plus_zero (suc m) = ap suc (plus_zero m)

outside_in : {p : Program} (ram : Ram) (h g : History) (b : List Bool) (m : ℕ) (z : Datum) → last_tick ram h ≡ Some g → Looks p m ram.address ram.read g b → ram.size ≤ number_of b → IsZero p.datas ram.payload z → Runs p (plus m zero) (remembers ram) h (value_of z)
outside_in {p} ram h g b m z e x i y = subst (λ n. Runs p n (remembers ram) h (value_of z)) (sym (plus_zero m)) (r_zero_outside e x i y)

mutual
  unfolding eval

  pub eval_sound : (d : ℕ) (p : Program) (e : TermTree) (γ : Thunks) (δ : TypeTrees) (h : History) → Holds Value (λ v n. Evals p n e γ δ h v) (eval d p e γ δ h)
  eval_sound zero p e γ δ h = nothing
  eval_sound (suc d) p (var x) γ δ h = at_it (thunk_at γ x) (λ th i. turned (mapped (force_sound d p th h) (λ v n f. e_var i f)))
  eval_sound (suc d) p (global i) γ δ h = at_it (slice_get p.defs i) (λ it j. turned (mapped (eval_sound d p it.body none no_types h) (λ v n f. e_global j f)))
  eval_sound (suc d) p (made m) γ δ h = nothing
  eval_sound (suc d) p (lam t e) γ δ h = one e_lam
  eval_sound (suc d) p (app f a) γ δ h = turned (then (eval_sound d p f γ δ h) (λ v m x. mapped (apply_sound d p v (closed a γ δ) h) (λ w n y. e_app x y)))
  eval_sound (suc d) p (ty_lam k e) γ δ h = one e_ty_lam
  eval_sound (suc d) p (ty_app f t) γ δ h = turned (then (eval_sound d p f γ δ h) (λ v m x. mapped (apply_type_sound d p v (evaluated (closed_type t δ)) h) (λ w n y. e_ty_app x y)))
  eval_sound (suc d) p (letrec g e) γ δ h = turned (mapped (eval_sound d p e (in_group g γ δ) δ h) (λ v n f. e_letrec f))
  eval_sound (suc d) p (con c) γ δ h = turned (mapped (run_sound d p (step p.datas (con_head c) no_types none) h) (λ v n f. e_con f))
  eval_sound (suc d) p (prim q) γ δ h = turned (mapped (run_sound d p (step p.datas (prim_head q) no_types none) h) (λ v n f. e_prim f))
  eval_sound (suc d) p (lit s b) γ δ h = one e_lit
  eval_sound (suc d) p (vec_lit t es) γ δ h = one e_vec
  eval_sound (suc d) p (case_of s alts) γ δ h = turned (chosen_sound d p (choice p.datas alts) s alts γ δ h refl)

  chosen_sound : (d : ℕ) (p : Program) (c : Choice) (s : TermTree) (alts : Alts) (γ : Thunks) (δ : TypeTrees) (h : History) → choice p.datas alts ≡ c → Holds Value (λ v n. Evals p (suc n) (case_of s alts) γ δ h v) (chosen d p c s alts γ δ h)
  chosen_sound zero p c s alts γ δ h i = nothing
  chosen_sound (suc d) p (goes_on e) s alts γ δ h i = mapped (eval_sound d p e γ δ h) (λ v n f. e_goes_on i f)
  chosen_sound (suc d) p (takes k e) s alts γ δ h i = mapped (eval_sound d p e (fields_from zero k (closed s γ δ) γ) δ h) (λ v n f. e_takes i f)
  chosen_sound (suc d) p looks s alts γ δ h i = then (eval_sound d p s γ δ h) (λ v m x. at_it (arm_of v alts) (λ a j. mapped (eval_sound d p a.body (joined a.fields γ) δ h) (λ w n y. e_looks i x j y)))

  pub force_sound : (d : ℕ) (p : Program) (th : Thunk) (h : History) → Holds Value (λ v n. Forces p n th h v) (force d p th h)
  force_sound zero p th h = nothing
  force_sound (suc d) p (closed e γ δ) h = mapped (eval_sound d p e γ δ h) (λ v n f. f_closed f)
  force_sound (suc d) p (applied f a) h = turned (then (force_sound d p f h) (λ v m x. mapped (apply_sound d p v a h) (λ w n y. f_applied x y)))
  force_sound (suc d) p (member g i γ δ) h = at_it (body_at g i) (λ e j. turned (mapped (eval_sound d p e (in_group g γ δ) δ h) (λ v n f. f_member j f)))
  force_sound (suc d) p (field i th) h = turned (then (force_sound d p th h) (λ v m x. at_it (fields_in v) (λ ths j. at_it (thunk_at ths i) (λ u k. mapped (force_sound d p u h) (λ w n y. f_field (forced_as (fields_found v ths j).1 x) k y)))))
  force_sound (suc d) p (element i th) h = turned (then (force_sound d p th h) (λ v m x. at_it (elements_in v) (λ ths j. at_it (thunk_at ths i) (λ u k. mapped (force_sound d p u h) (λ w n y. f_element (forced_as (elements_found v ths j) x) k y)))))
  force_sound (suc d) p (sample th g) h = mapped (force_sound d p th g) (λ v n f. f_sample f)
  force_sound (suc d) p (stream ds) h = at_it (item_at ds h) (λ x i. one (f_stream i))
  force_sound (suc d) p (known x) h = one f_known

  apply_sound : (d : ℕ) (p : Program) (v : Value) (a : Thunk) (h : History) → Holds Value (λ w n. Applies p n v a h w) (apply d p v a h)
  apply_sound zero p v a h = nothing
  apply_sound (suc d) p (closure e γ δ) a h = turned (mapped (eval_sound d p e (thunk_and a γ) δ h) (λ v n f. a_closure f))
  apply_sound (suc d) p (partial hd ts ths) a h = turned (mapped (run_sound d p (step p.datas hd ts (thunk_and a ths)) h) (λ v n f. a_runs f))
  apply_sound (suc d) p (bits b) a h = nothing
  apply_sound (suc d) p (con_of c ths) a h = nothing
  apply_sound (suc d) p (vec_of ths) a h = nothing
  apply_sound (suc d) p (ty_closure e γ δ) a h = nothing

  apply_type_sound : (d : ℕ) (p : Program) (v : Value) (t : TypeTree) (h : History) → Holds Value (λ w n. TyApplies p n v t h w) (apply_type d p v t h)
  apply_type_sound zero p v t h = nothing
  apply_type_sound (suc d) p (ty_closure e γ δ) t h = turned (mapped (eval_sound d p e γ (type_and t δ) h) (λ v n f. t_closure f))
  apply_type_sound (suc d) p (partial hd ts ths) t h = turned (mapped (run_sound d p (step p.datas hd (type_and t ts) ths) h) (λ v n f. t_runs f))
  apply_type_sound (suc d) p (bits b) t h = nothing
  apply_type_sound (suc d) p (con_of c ths) t h = nothing
  apply_type_sound (suc d) p (vec_of ths) t h = nothing
  apply_type_sound (suc d) p (closure e γ δ) t h = nothing

  run_sound : (d : ℕ) (p : Program) (s : Step) (h : History) → Holds Value (λ v n. Runs p n s h v) (run d p s h)
  run_sound zero p s h = nothing
  run_sound (suc d) p (gives v) h = one r_gives
  run_sound (suc d) p (goes_to th) h = mapped (force_sound d p th h) (λ v n f. r_goes_to f)
  run_sound (suc d) p (computes q nats widths ths) h = seen_as (λ bs. changed (result q) (word_value q nats (reverse bs))) (words_sound d p widths ths h) (λ bs n x w i. word_found q nats widths ths h bs n x (word_value q nats (reverse bs)) refl w i)
  run_sound (suc d) p (samples f s) h = turned (then (force_sound d p f h) (λ v m x. mapped (apply_sound d p v (sample s h) h) (λ w n y. r_samples x y)))
  run_sound (suc d) p (delays c i s) h = delayed_sound d p c (taken h (dom c)) i s h refl
  run_sound (suc d) p (remembers ram) h = remembered_sound d p (last_tick ram h) ram h refl
  run_sound (suc d) p (looks_up last k v i) h = then (look_sound d p k i h) (λ b m x. mapped (force_sound d p (element (min (number_of b) last) v) h) (λ w n y. r_looks_up x y))
  run_sound (suc d) p stuck h = nothing

  delayed_sound : (d : ℕ) (p : Program) (c : ℕ) (o : Option History) (i s : Thunk) (h : History) → taken h (dom c) ≡ o → Holds Value (λ v n. Runs p n (delays c i s) h v) (delayed d p o i s h)
  delayed_sound zero p c o i s h e = nothing
  delayed_sound (suc d) p c None i s h e = mapped (force_sound d p i h) (λ v n f. r_first e f)
  delayed_sound (suc d) p c (Some g) i s h e = mapped (force_sound d p s _) (λ v n f. r_later e f)

  look_sound : (d : ℕ) (p : Program) (k : ℕ) (th : Thunk) (h : History) → Holds (List Bool) (λ b n. Looks p n k th h b) (look d p k th h)
  look_sound zero p k th h = nothing
  look_sound (suc d) p zero th h = one l_empty
  look_sound (suc d) p (suc k) th h = seen_as bits_in (force_sound d p th h) (λ v n x b i. l_bits (forced_as (bits_found v b i) x))

  words_sound : (d : ℕ) (p : Program) (ks : List ℕ) (ths : Thunks) (h : History) → Holds (List (List Bool)) (λ bs n. Words p n ks ths h bs) (words d p ks ths h)
  words_sound zero p ks ths h = nothing
  words_sound (suc d) p [] none h = one no_words
  words_sound (suc d) p [] (thunk_and th ths) h = nothing
  words_sound (suc d) p (k ∷ ks) none h = nothing
  words_sound (suc d) p (k ∷ ks) (thunk_and th ths) h = then (look_sound d p k th h) (λ b m x. seen_as (λ bs. Some (b ∷ bs)) (words_sound d p ks ths h) (λ bs n y cs i. words_joined k ks th ths h b bs cs m n x y i))

  remembered_sound : (d : ℕ) (p : Program) (o : Option History) (ram : Ram) (h : History) → last_tick ram h ≡ o → Holds Value (λ v n. Runs p n (remembers ram) h v) (remembered d p o ram)
  remembered_sound zero p o ram h e = nothing
  remembered_sound (suc d) p None ram h e = at_it (zero_by d p.datas ram.payload) (λ z i. one (r_zero_first e ((zero_sound d p.datas ram.payload).of z i)))
  remembered_sound (suc d) p (Some g) ram h e = then (look_sound d p ram.address ram.read g) (λ b m x. at_address_sound d p (nat_lt (number_of b) ram.size) ram h g b m e x refl)

  at_address_sound : (d : ℕ) (p : Program) (inside : Bool) (ram : Ram) (h g : History) (b : List Bool) (m : ℕ) → last_tick ram h ≡ Some g → Looks p m ram.address ram.read g b → nat_lt (number_of b) ram.size ≡ inside → Holds Value (λ v n. Runs p (plus m n) (remembers ram) h v) (at_address d p inside ram g (number_of b))
  at_address_sound zero p inside ram h g b m e x i = nothing
  at_address_sound (suc d) p true ram h g b m e x i = mapped (word_sound d p (last_tick ram g) ram g (number_of b) refl) (λ v n y. r_word e x (below (number_of b) ram.size i) y)
  at_address_sound (suc d) p false ram h g b m e x i = at_it (zero_by d p.datas ram.payload) (λ z j. one (outside_in ram h g b m z e x (above (number_of b) ram.size i) ((zero_sound d p.datas ram.payload).of z j)))

  word_sound : (d : ℕ) (p : Program) (o : Option History) (ram : Ram) (g : History) (a : ℕ) → last_tick ram g ≡ o → Holds Value (λ v n. Word p n ram g a v) (word_at d p o ram g a)
  word_sound zero p o ram g a e = nothing
  word_sound (suc d) p None ram g a e = mapped (force_sound d p (element a ram.content) g) (λ v n y. w_content e y)
  word_sound (suc d) p (Some g') ram g a e = turned (then (force_sound d p ram.write g') (λ v m x. written_sound d p v ram g g' a m e x))

  written_sound : (d : ℕ) (p : Program) (v : Value) (ram : Ram) (g g' : History) (a m : ℕ) → last_tick ram g ≡ Some g' → Forces p m ram.write g' v → Holds Value (λ v n. Word p (suc (plus m n)) ram g a v) (written d p v ram g' a)
  written_sound zero p v ram g g' a m e x = nothing
  written_sound (suc d) p (con_of (suc (suc zero)) none) ram g g' a m e x = mapped (word_sound d p (last_tick ram g') ram g' a refl) (λ v n y. w_kept e x y)
  written_sound (suc d) p (con_of (suc (suc (suc zero))) (thunk_and pair none)) ram g g' a m e x = then (look_sound d p ram.address (field 1 pair) g') (λ b k y. replaced_sound d p (nat_eq (number_of b) a) pair ram g g' a m k b e x y refl)
  written_sound (suc d) p v ram g g' a m e x = nothing

  replaced_sound : (d : ℕ) (p : Program) (here : Bool) (pair : Thunk) (ram : Ram) (g g' : History) (a m k : ℕ) (b : List Bool) → last_tick ram g ≡ Some g' → Forces p m ram.write g' (con_of 3 (thunk_and pair none)) → Looks p k ram.address (field 1 pair) g' b → nat_eq (number_of b) a ≡ here → Holds Value (λ v n. Word p (suc (plus m (plus k n))) ram g a v) (replaced_at d p here pair ram g' a)
  replaced_sound zero p here pair ram g g' a m k b e x y i = nothing
  replaced_sound (suc d) p true pair ram g g' a m k b e x y i = mapped (force_sound d p (field 0 pair) g') (λ v n z. w_written e x y (same_number (number_of b) a i) z)
  replaced_sound (suc d) p false pair ram g g' a m k b e x y i = mapped (word_sound d p (last_tick ram g') ram g' a refl) (λ v n z. w_elsewhere e x y (other_number (number_of b) a i) z)
