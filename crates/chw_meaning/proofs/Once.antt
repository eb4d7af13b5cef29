-- A term has at most one value at a history, and reaches it in one number of turns.
use Rattle.std.specs.Prelude.{min, reverse, slice_get}
use Rattle.std.proofs.Common.{◌≡◌, ℕ, suc, zero, ◌≤◌, ◌<◌, ◌≢◌, List, ◌∷◌, Bool, Option, Some, refl, sym, ap, ◌∙◌, subst, arith}
use Rattle.chw_bits.specs.Bits.{number_of}
use Rattle.chw_types.specs.declared.declarations.ConDecl.{ConDecl}
use Rattle.chw_types.specs.declared.declarations.Data.{Data}
use Rattle.chw_types.specs.TypeTree.{TypeTree, TypeTrees}
use Rattle.chw_types.specs.TypeMoves.{Substitution}
use Rattle.chw_prims.specs.declared.prim.Primitive.{Primitive as Prim}
use Rattle.prim_bits.specs.Values.{value_of as word_value}
use Rattle.chw_terms.specs.declared.program.Program.{Program}
use Rattle.chw_terms.specs.TermTree.{TermTree, Alts}
use Rattle.chw_layout.specs.Datum.{Datum, built, elements, Datums, datum_and}
use Rattle.chw_layout.specs.Encodes.{first_constructor}
use Rattle.chw_meaning.specs.Zeros.{IsZero, zero_scalar, zero_vector, zero_data, AreZeros, no_zeros, zeros_and, AreZeroFields, no_zero_field, zero_field_and}
use Rattle.chw_meaning.specs.Values.{History, Value, bits, con_of, vec_of, Thunk, closed, field, element, Thunks, none, thunk_and, thunk_at, joined, fields_from, value_of}
use Rattle.chw_meaning.specs.Steps.{Ram, Step}
use Rattle.chw_meaning.specs.Eval.{plus, Arm, arm_of, result, Evals, e_var, e_global, e_lam, e_app, e_ty_lam, e_ty_app, e_letrec, e_con, e_prim, e_lit, e_vec, e_goes_on, e_takes, e_looks, Forces, f_closed, f_applied, f_member, f_field, f_element, f_sample, f_stream, f_known, Applies, a_closure, a_runs, TyApplies, t_closure, t_runs, Runs, r_gives, r_goes_to, r_computes, r_samples, r_first, r_later, r_zero_first, r_zero_outside, r_word, r_looks_up, Looks, l_empty, l_bits, Words, no_words, word_and, Word, w_content, w_kept, w_elsewhere, w_written}

pub same_some : {A : Type 0} {o : Option A} {a b : A} → o ≡ Some a → o ≡ Some b → a ≡ b
same_some e f = cc

pub evals_along : {p : Program} {n : ℕ} {e e' : TermTree} {γ γ' : Thunks} {δ : TypeTrees} {h : History} {v : Value} → e ≡ e' → γ ≡ γ' → Evals p n e γ δ h v → Evals p n e' γ' δ h v
evals_along {p} {n} {e = a} {γ' = γ'} {δ = δ} {h = h} {v = v} e g d = subst (λ t. Evals p n t γ' δ h v) e (subst (λ t. Evals p n a t δ h v) g d)

pub forces_along : {p : Program} {n : ℕ} {t t' : Thunk} {h h' : History} {v : Value} → t ≡ t' → h ≡ h' → Forces p n t h v → Forces p n t' h' v
forces_along {p} {n} {t = t} {h' = h'} {v = v} e f d = subst (λ t. Forces p n t h' v) e (subst (λ h. Forces p n t h v) f d)

pub applies_along : {p : Program} {n : ℕ} {f f' : Value} {a : Thunk} {h : History} {v : Value} → f ≡ f' → Applies p n f a h v → Applies p n f' a h v
applies_along {p} {n} {a = a} {h = h} {v = v} e d = subst (λ t. Applies p n t a h v) e d

pub ty_applies_along : {p : Program} {n : ℕ} {f f' : Value} {t : TypeTree} {h : History} {v : Value} → f ≡ f' → TyApplies p n f t h v → TyApplies p n f' t h v
ty_applies_along {p} {n} {t = t} {h = h} {v = v} e d = subst (λ f. TyApplies p n f t h v) e d

pub looks_along : {p : Program} {n k : ℕ} {t t' : Thunk} {h h' : History} {b : List Bool} → t ≡ t' → h ≡ h' → Looks p n k t h b → Looks p n k t' h' b
looks_along {p} {n} {k} {t = t} {h' = h'} {b = b} e f d = subst (λ t. Looks p n k t h' b) e (subst (λ h. Looks p n k t h b) f d)

pub word_along : {p : Program} {n a a' : ℕ} {ram : Ram} {g g' : History} {v : Value} → g ≡ g' → a ≡ a' → Word p n ram g a v → Word p n ram g' a' v
word_along {p} {n} {a = a} {ram = ram} {g' = g'} {v = v} e f d = subst (λ a. Word p n ram g' a v) f (subst (λ g. Word p n ram g a v) e d)

-- turns of two parts
turns_of : {m m' n n' : ℕ} → m ≡ m' → n ≡ n' → plus m n ≡ plus m' n'
turns_of p q = λ i. plus (p i) (q i)

fields_same : {c d : ℕ} {a b : Thunks} → con_of c a ≡ con_of d b → a ≡ b
fields_same e = cc

elements_same : {a b : Thunks} → vec_of a ≡ vec_of b → a ≡ b
elements_same e = cc

pair_same : {c d : ℕ} {a b : Thunk} → con_of c (thunk_and a none) ≡ con_of d (thunk_and b none) → a ≡ b
pair_same e = cc

bits_same : {a b : List Bool} → bits a ≡ bits b → a ≡ b
bits_same e = cc

nothing_is_not_just : {A : Type 0} {pair : Thunk} → con_of 2 none ≡ con_of 3 (thunk_and pair none) → A
nothing_is_not_just e = cc

arm_same : (alts : Alts) {v w : Value} {a b : Arm} → v ≡ w → arm_of v alts ≡ Some a → arm_of w alts ≡ Some b → a ≡ b
arm_same alts e f g = same_some f (ap (λ v. arm_of v alts) e ∙ g)

part_same : (i : ℕ) {a b : Thunks} {t u : Thunk} → a ≡ b → thunk_at a i ≡ Some t → thunk_at b i ≡ Some u → t ≡ u
part_same i e f g = same_some f (ap (λ x. thunk_at x i) e ∙ g)

-- the zero of a type is one
zeros_along : {datas : List Data} {c k : ConDecl} {σ : Substitution} {ds : Datums} → c ≡ k → AreZeroFields datas c.fields σ ds → AreZeroFields datas k.fields σ ds
zeros_along {datas} {σ = σ} {ds = ds} e z = subst (λ c. AreZeroFields datas c.fields σ ds) e z

first_same : {A B : Type 0} {o : Option A} {a b : A} (f : A → Option B) {x y : B} → o ≡ Some a → o ≡ Some b → f a ≡ Some x → f b ≡ Some y → x ≡ y
first_same f e e' g g' = same_some g (ap f (same_some e e') ∙ g')

mutual
  pub zero_once : {datas : List Data} {t : TypeTree} {a b : Datum} → IsZero datas t a → IsZero datas t b → a ≡ b
  zero_once zero_scalar zero_scalar = refl
  zero_once (zero_vector a) (zero_vector b) = ap elements (zeros_once a b)
  zero_once {datas} (zero_data {d = d} i j a) (zero_data k l b) = ap (built (first_constructor datas d)) (zero_fields_once a (zeros_along (first_same (λ it. slice_get it.cons zero) k i l j) b))

  pub zeros_once : {datas : List Data} {n : ℕ} {t : TypeTree} {a b : Datums} → AreZeros datas n t a → AreZeros datas n t b → a ≡ b
  zeros_once no_zeros no_zeros = refl
  zeros_once (zeros_and a as') (zeros_and b bs) = λ i. datum_and (zero_once a b i) (zeros_once as' bs i)

  pub zero_fields_once : {datas : List Data} {fs : List TypeTree} {σ : Substitution} {a b : Datums} → AreZeroFields datas fs σ a → AreZeroFields datas fs σ b → a ≡ b
  zero_fields_once no_zero_field no_zero_field = refl
  zero_fields_once (zero_field_and a as') (zero_field_and b bs) = λ i. datum_and (zero_once a b i) (zero_fields_once as' bs i)

inside_and_outside : {A : Type 0} {size : ℕ} {b c : List Bool} → b ≡ c → size ≤ number_of b → number_of c < size → A
inside_and_outside e q r = let bad : ⊥ = omega (arith, ap number_of e, q, r) in absurd bad

here_and_elsewhere : {A : Type 0} {a : ℕ} {b c : List Bool} → b ≡ c → number_of b ≡ a → number_of c ≢ a → A
here_and_elsewhere e q r = absurd (r (ap number_of (sym e) ∙ q))

word_result : (q : Prim) (nats : List ℕ) {bs cs : List (List Bool)} {b c : List Bool} → bs ≡ cs → word_value q nats (reverse bs) ≡ Some b → word_value q nats (reverse cs) ≡ Some c → result q b ≡ result q c
word_result q nats e f g = ap (result q) (same_some f (ap (λ xs. word_value q nats (reverse xs)) e ∙ g))

mutual
  pub evals_once : {p : Program} {m n : ℕ} {e : TermTree} {γ : Thunks} {δ : TypeTrees} {h : History} {v w : Value} → Evals p m e γ δ h v → Evals p n e γ δ h w → (m ≡ n) × (v ≡ w)
  evals_once (e_var i a) (e_var j b) = let r = forces_once a (forces_along (same_some j i) refl b) in (ap suc r.0, r.1)
  evals_once (e_global i a) (e_global j b) = let r = evals_once a (evals_along (ap (λ it. it.body) (same_some j i)) refl b) in (ap suc r.0, r.1)
  evals_once e_lam e_lam = (refl, refl)
  evals_once (e_app a b) (e_app c d) = let q = evals_once a c in let r = applies_once b (applies_along (sym q.1) d) in (ap suc (turns_of q.0 r.0), r.1)
  evals_once e_ty_lam e_ty_lam = (refl, refl)
  evals_once (e_ty_app a b) (e_ty_app c d) = let q = evals_once a c in let r = ty_applies_once b (ty_applies_along (sym q.1) d) in (ap suc (turns_of q.0 r.0), r.1)
  evals_once (e_letrec a) (e_letrec b) = let r = evals_once a b in (ap suc r.0, r.1)
  evals_once (e_con a) (e_con b) = let r = runs_once a b in (ap suc r.0, r.1)
  evals_once (e_prim a) (e_prim b) = let r = runs_once a b in (ap suc r.0, r.1)
  evals_once e_lit e_lit = (refl, refl)
  evals_once e_vec e_vec = (refl, refl)
  evals_once (e_goes_on i a) (e_goes_on j b) = let r = evals_once a (evals_along (cc) refl b) in (ap suc r.0, r.1)
  evals_once (e_goes_on i a) (e_takes j b) = cc
  evals_once (e_goes_on i a) (e_looks j b k c) = cc
  evals_once (e_takes i a) (e_goes_on j b) = cc
  evals_once (e_takes {s = s} {γ = γ} {δ = δ} i a) (e_takes j b) = let r = evals_once a (evals_along (cc) (ap (λ k. fields_from zero k (closed s γ δ) γ) (cc)) b) in (ap suc r.0, r.1)
  evals_once (e_takes i a) (e_looks j b k c) = cc
  evals_once (e_looks i a r b) (e_goes_on j c) = cc
  evals_once (e_looks i a r b) (e_takes j c) = cc
  evals_once (e_looks {alts = alts} {γ = γ} i a j b) (e_looks k c l d) =
      let q = evals_once a c in
      let same = arm_same alts (sym q.1) l j in
      let r = evals_once b (evals_along (ap (λ a. a.body) same) (ap (λ a. joined a.fields γ) same) d) in
      (ap suc (turns_of q.0 r.0), r.1)

  pub forces_once : {p : Program} {m n : ℕ} {th : Thunk} {h : History} {v w : Value} → Forces p m th h v → Forces p n th h w → (m ≡ n) × (v ≡ w)
  forces_once (f_closed a) (f_closed b) = evals_once a b
  forces_once (f_applied a b) (f_applied c d) = let q = forces_once a c in let r = applies_once b (applies_along (sym q.1) d) in (ap suc (turns_of q.0 r.0), r.1)
  forces_once (f_member i a) (f_member j b) = let r = evals_once a (evals_along (same_some j i) refl b) in (ap suc r.0, r.1)
  forces_once (f_field {i = k} a i b) (f_field c j d) = let q = forces_once a c in let r = forces_once b (forces_along (part_same k (fields_same (sym q.1)) j i) refl d) in (ap suc (turns_of q.0 r.0), r.1)
  forces_once (f_element {j = k} a i b) (f_element c j d) = let q = forces_once a c in let r = forces_once b (forces_along (part_same k (elements_same (sym q.1)) j i) refl d) in (ap suc (turns_of q.0 r.0), r.1)
  forces_once (f_sample a) (f_sample b) = forces_once a b
  forces_once (f_stream i) (f_stream j) = (refl, ap value_of (same_some i j))
  forces_once f_known f_known = (refl, refl)

  pub applies_once : {p : Program} {m n : ℕ} {f : Value} {a : Thunk} {h : History} {v w : Value} → Applies p m f a h v → Applies p n f a h w → (m ≡ n) × (v ≡ w)
  applies_once (a_closure a) (a_closure b) = let r = evals_once a b in (ap suc r.0, r.1)
  applies_once (a_runs a) (a_runs b) = let r = runs_once a b in (ap suc r.0, r.1)

  pub ty_applies_once : {p : Program} {m n : ℕ} {f : Value} {t : TypeTree} {h : History} {v w : Value} → TyApplies p m f t h v → TyApplies p n f t h w → (m ≡ n) × (v ≡ w)
  ty_applies_once (t_closure a) (t_closure b) = let r = evals_once a b in (ap suc r.0, r.1)
  ty_applies_once (t_runs a) (t_runs b) = let r = runs_once a b in (ap suc r.0, r.1)

  pub runs_once : {p : Program} {m n : ℕ} {s : Step} {h : History} {v w : Value} → Runs p m s h v → Runs p n s h w → (m ≡ n) × (v ≡ w)
  runs_once r_gives r_gives = (refl, refl)
  runs_once (r_goes_to a) (r_goes_to b) = forces_once a b
  runs_once (r_computes {q = prim} {nats = nats} a i) (r_computes b j) = let q = words_once a b in (q.0, word_result prim nats q.1 i j)
  runs_once (r_samples a b) (r_samples c d) = let q = forces_once a c in let r = applies_once b (applies_along (sym q.1) d) in (ap suc (turns_of q.0 r.0), r.1)
  runs_once (r_first i a) (r_first j b) = forces_once a b
  runs_once (r_first i a) (r_later j b) = cc
  runs_once (r_later i a) (r_first j b) = cc
  runs_once (r_later i a) (r_later j b) = forces_once a (forces_along refl (same_some j i) b)
  runs_once (r_zero_first i a) (r_zero_first j b) = (refl, ap value_of (zero_once a b))
  runs_once (r_zero_first i a) (r_zero_outside j b l c) = cc
  runs_once (r_zero_first i a) (r_word j b l c) = cc
  runs_once (r_zero_outside i a k z) (r_zero_first j b) = cc
  runs_once (r_zero_outside i a k z) (r_zero_outside j b l y) = let q = looks_once a (looks_along refl (same_some j i) b) in (q.0, ap value_of (zero_once z y))
  runs_once (r_zero_outside i a k z) (r_word j b l c) = inside_and_outside (looks_once a (looks_along refl (same_some j i) b)).1 k l
  runs_once (r_word i a k c) (r_zero_first j b) = cc
  runs_once (r_word i a k c) (r_zero_outside j b l y) = inside_and_outside (sym (looks_once a (looks_along refl (same_some j i) b)).1) l k
  runs_once (r_word i a k c) (r_word j b l d) =
      let q = looks_once a (looks_along refl (same_some j i) b) in
      let r = word_once c (word_along (same_some j i) (ap number_of (sym q.1)) d) in
      (turns_of q.0 r.0, r.1)
  runs_once (r_looks_up {last = last} {v = v} a b) (r_looks_up c d) =
      let q = looks_once a c in
      let r = forces_once b (forces_along (ap (λ b. element (min (number_of b) last) v) (sym q.1)) refl d) in
      (turns_of q.0 r.0, r.1)

  pub looks_once : {p : Program} {m n k : ℕ} {th : Thunk} {h : History} {b c : List Bool} → Looks p m k th h b → Looks p n k th h c → (m ≡ n) × (b ≡ c)
  looks_once l_empty l_empty = (refl, refl)
  looks_once (l_bits a) (l_bits b) = let r = forces_once a b in (r.0, bits_same r.1)

  pub words_once : {p : Program} {m n : ℕ} {ks : List ℕ} {ths : Thunks} {h : History} {bs cs : List (List Bool)} → Words p m ks ths h bs → Words p n ks ths h cs → (m ≡ n) × (bs ≡ cs)
  words_once no_words no_words = (refl, refl)
  words_once (word_and a as') (word_and b bs) = let q = looks_once a b in let r = words_once as' bs in (turns_of q.0 r.0, λ i. q.1 i ∷ r.1 i)

  pub word_once : {p : Program} {m n : ℕ} {ram : Ram} {g : History} {a : ℕ} {v w : Value} → Word p m ram g a v → Word p n ram g a w → (m ≡ n) × (v ≡ w)
  word_once (w_content i a) (w_content j b) = forces_once a b
  word_once (w_content i a) (w_kept j b c) = cc
  word_once (w_content i a) (w_elsewhere j b c k d) = cc
  word_once (w_content i a) (w_written j b c k d) = cc
  word_once (w_kept i a x) (w_content j b) = cc
  word_once (w_kept i a x) (w_kept j b y) =
      let g = same_some j i in
      let q = forces_once a (forces_along refl g b) in
      let r = word_once x (word_along g refl y) in
      (ap suc (turns_of q.0 r.0), r.1)
  word_once (w_kept i a x) (w_elsewhere j b c k d) = nothing_is_not_just (forces_once a (forces_along refl (same_some j i) b)).1
  word_once (w_kept i a x) (w_written j b c k d) = nothing_is_not_just (forces_once a (forces_along refl (same_some j i) b)).1
  word_once (w_elsewhere i a l k x) (w_content j b) = cc
  word_once (w_elsewhere i a l k x) (w_kept j b y) = nothing_is_not_just (sym (forces_once a (forces_along refl (same_some j i) b)).1)
  word_once (w_elsewhere i a l k x) (w_elsewhere j b l' k' y) =
      let g = same_some j i in
      let q = forces_once a (forces_along refl g b) in
      let s = looks_once l (looks_along (ap (field 1) (pair_same (sym q.1))) g l') in
      let r = word_once x (word_along g refl y) in
      (ap suc (turns_of q.0 (turns_of s.0 r.0)), r.1)
  word_once (w_elsewhere i a l k x) (w_written j b l' k' y) =
      let g = same_some j i in
      let q = forces_once a (forces_along refl g b) in
      let s = looks_once l (looks_along (ap (field 1) (pair_same (sym q.1))) g l') in
      here_and_elsewhere (sym s.1) k' k
  word_once (w_written i a l k x) (w_content j b) = cc
  word_once (w_written i a l k x) (w_kept j b y) = nothing_is_not_just (sym (forces_once a (forces_along refl (same_some j i) b)).1)
  word_once (w_written i a l k x) (w_elsewhere j b l' k' y) =
      let g = same_some j i in
      let q = forces_once a (forces_along refl g b) in
      let s = looks_once l (looks_along (ap (field 1) (pair_same (sym q.1))) g l') in
      here_and_elsewhere s.1 k k'
  word_once (w_written i a l k x) (w_written j b l' k' y) =
      let g = same_some j i in
      let q = forces_once a (forces_along refl g b) in
      let fields = pair_same (sym q.1) in
      let s = looks_once l (looks_along (ap (field 1) fields) g l') in
      let r = forces_once x (forces_along (ap (field 0) fields) g y) in
      (ap suc (turns_of q.0 (turns_of s.0 r.0)), r.1)
