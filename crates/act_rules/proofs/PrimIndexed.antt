-- The primitive that takes an element at an index: its unrolled form.
use Rattle.std.specs.Prelude.{Some}
use Rattle.std.specs.List.{range_with_len}
use Rattle.std.proofs.Common.{◌≡◌, ◌≤◌, ◌<◌, ◌+◌, ◌-◌, ◌^◌, ◌⊎◌, inl, inr, ℕ, suc, zero, min, Bool, true, false, if◌then◌else◌, List, [], ◌∷◌, ◌++◌, length, map, refl, sym, ap, ◌∙◌, subst, arith}
use Rattle.std.proofs.Math.Nat.{mod-eq_of_lt}
use Rattle.chw_base.specs.declared.limits.TheConstants.{SCALAR_BITS, VECTOR_LENGTH}
use Rattle.chw_bits.specs.Bits.{number_of, bits_of}
use Rattle.chw_bits.proofs.Numbers.{length-bits_of, number_of_lt}
use Rattle.chw_bits.proofs.RoundTrips.{number_of-bits_of, bits_of-number_of}
use Rattle.chw_types.specs.declared.kind.Kind.TheVariants.{Val}
use Rattle.chw_types.specs.declared.kind.Scalar.TheVariants.{U}
use Rattle.chw_types.specs.TypeMoves.{sub}
use Rattle.chw_types.specs.TypeTree.{TypeTree, ty_var, nat_lit, nat_sum, scalar, vector, TypeTrees}
use Rattle.chw_prims.specs.declared.row.Row.TheVariants.{ElementAt}
use Rattle.chw_terms.specs.declared.program.Program.{Program}
use Rattle.chw_terms.specs.declared.term.Pattern.TheVariants.{OfLit, Default}
use Rattle.chw_terms.specs.Evaluated.{evaluated}
use Rattle.chw_terms.specs.TermTree.{TermTree, var, case_of, Alts, no_alts, alt}
use Rattle.chw_terms.specs.TermView.{alts_of}
use Rattle.chw_terms.specs.Unrolled.{alternative, by_index, element as element_term, body_of}
use Rattle.chw_layout.specs.Measured.{closed_value}
use Rattle.chw_meaning.specs.Values.{History, Value, bits, Thunk, closed, element, Thunks, none, joined}
use Rattle.chw_meaning.specs.Steps.{by_row, at_index}
use Rattle.chw_meaning.specs.Eval.{plus, same_bits, Arm, arm_of, Evals, e_goes_on, e_takes, e_looks, Forces, f_closed, r_goes_to, r_looks_up, l_empty, l_bits}
use Rattle.chw_meaning.proofs.Once.{same_some}
use Rattle.rewriting.specs.Origins.{with_origins, with_origins_alts}
use Rattle.acts.specs.Levels.{Alike, later, thunk_has, ThunksAct}
use Rattle.acts.specs.Acts.{acts_from}
use Rattle.acts.proofs.Levels.{from_turns, cost, more}
use Rattle.acts.proofs.Numbers.{plus_is, room, ended, costs, left}
use Rattle.acts.proofs.Telescopes.{step_has}
use Rattle.unroll_laws.proofs.Sized.{TwiceSized, is_twice_sized, twice_sized_view}
use Rattle.act_rules.proofs.PrimElements.{TermSteps, element_named}
use Rattle.act_rules.proofs.Given.{at_env, given_at}
use Rattle.act_rules.proofs.Maps.{closed_within}
use Rattle.act_rules.proofs.Shapes.{WithinLimits, RowUnrolls, on_two}
use Rattle.act_rules.proofs.Words.{number_up, sum_up}

bits_itself : (b : List Bool) → same_bits b b ≡ true
bits_itself [] = refl
bits_itself (true ∷ b) = bits_itself b
bits_itself (false ∷ b) = bits_itself b

same_are : (b a : List Bool) → same_bits b a ≡ true → a ≡ b
same_are [] [] e = refl
same_are [] (y ∷ a) e = cc
same_are (x ∷ b) [] e = cc
same_are (true ∷ b) (true ∷ a) e = ap (λ a. true ∷ a) (same_are b a e)
same_are (false ∷ b) (false ∷ a) e = ap (λ a. false ∷ a) (same_are b a e)
same_are (true ∷ b) (false ∷ a) e = cc
same_are (false ∷ b) (true ∷ a) e = cc

equal_or_over : (x y : ℕ) → y ≤ x → (x ≡ y) ⊎ (suc y ≤ x)
equal_or_over zero zero l = inl refl
equal_or_over (suc x) zero l = inr (omega arith)
equal_or_over zero (suc y) l = absurd (let bad : ⊥ = omega (arith, l) in bad)
equal_or_over (suc x) (suc y) l = one_more (equal_or_over x y (omega (arith, l)))
  where
    one_more : (x ≡ y) ⊎ (suc y ≤ x) → (suc x ≡ suc y) ⊎ (suc (suc y) ≤ suc x)
    one_more (inl e) = inl (ap suc e)
    one_more (inr h) = inr (omega (arith, h))

-- so many alternatives, from this number on, and a default
abbrev numbered : ℕ → (ℕ → TermTree) → TermTree → ℕ → ℕ → Alts
numbered k f last j zero = alt Default last no_alts
numbered k f last j (suc m) = alt (OfLit U (bits_of k j)) (f j) (numbered k f last (suc j) m)

are_numbered : (o : ℕ → TermTree) (k : ℕ) (f : ℕ → TermTree) (last : TermTree) (j m : ℕ) → with_origins_alts o (alts_of (map (λ j. alternative (OfLit U (bits_of k j)) (f j)) (range_with_len j m) ++ alternative Default last ∷ [])) ≡ numbered k (λ j. with_origins o (f j)) (with_origins o last) j m
unfolding with_origins
are_numbered o k f last j zero = refl
are_numbered o k f last j (suc m) =
    ap (alt (OfLit U (bits_of k j)) (with_origins o (f j)))
    (are_numbered o k f last (j + 1) m ∙ ap (λ i. numbered k (λ j. with_origins o (f j)) (with_origins o last) i m) (let e : j + 1 ≡ suc j = omega arith in e))

-- the alternative that a word of this width takes
module _ (n k : ℕ) (f : ℕ → TermTree) (b : List Bool) (wide : length b ≡ k) where
  below : number_of b < 2 ^ k
  below = subst (λ k. number_of b < 2 ^ k) wide (number_of_lt b)

  abbrev taken : Arm
  taken = record { fields = none; body = f (min (number_of b) n) }

  here : (j : ℕ) → number_of b ≡ j → bits_of k j ≡ b
  here j e = (λ i. bits_of (sym wide i) (sym e i)) ∙ bits_of-number_of b

  there : (j : ℕ) → j < 2 ^ k → bits_of k j ≡ b → number_of b ≡ j
  there j less e = ap number_of (sym e) ∙ number_of-bits_of k j ∙ mod-eq_of_lt less

  arm_of_rest : (j m : ℕ) → j + suc m ≡ min n (2 ^ k) → j ≤ number_of b → (suc j ≤ number_of b → arm_of (bits b) (numbered k f (f n) (suc j) m) ≡ Some taken) → (s : Bool) → same_bits b (bits_of k j) ≡ s → (if s then Some (record { fields = none; body = f j }) else arm_of (bits b) (numbered k f (f n) (suc j) m)) ≡ Some taken
  arm_of_rest j m end from rest true hit =
      let is = there j (omega (arith, end)) (same_are b (bits_of k j) hit) in
      ap (λ i. Some (record { fields = none; body = f i })) (let e : j ≡ min (number_of b) n = omega (arith, is, end) in e)
  arm_of_rest j m end from rest false miss = rest (apart (equal_or_over (number_of b) j from))
    where
      apart : (number_of b ≡ j) ⊎ (suc j ≤ number_of b) → suc j ≤ number_of b
      apart (inl e) = absurd (let bad : true ≡ false = sym (bits_itself b) ∙ ap (same_bits b) (sym (here j e)) ∙ miss in cc)
      apart (inr over) = over

  arm_from : (j m : ℕ) → j + m ≡ min n (2 ^ k) → j ≤ number_of b → arm_of (bits b) (numbered k f (f n) j m) ≡ Some taken
  arm_from j zero end from = ap (λ i. Some (record { fields = none; body = f i })) (let e : n ≡ min (number_of b) n = omega (arith, end, from, below) in e)
  arm_from j (suc m) end from = arm_of_rest j m end from (λ over. arm_from (suc j) m (omega (arith, end)) over) (same_bits b (bits_of k j)) refl

module _ (p : Program) (turns : ℕ) (γ : Thunks) (δ : TypeTrees) (t w : TypeTree) (f : ℕ → TermTree) (v i : Thunk) (is : ThunksAct p (acts_from p turns) (scalar U w) (closed (var 0) γ δ) i) where
  abbrev EachActs : ℕ → Type 0
  EachActs n = (j : ℕ) → j ≤ n → ThunksAct p (acts_from p turns) t (closed (f j) γ δ) (element j v)

  index_alone : EachActs 0 → (k : ℕ) → TermSteps p (acts_from p turns) t (case_of (var 0) (alt Default (f 0) no_alts)) γ δ (at_index 0 k v i)
  index_alone each k h' h m x al (e_goes_on {n = j} {e = e} picked d) =
      let same : e ≡ f 0 = cc in
      cost (from_turns p turns) j t x (step_has p (at_index 0 k v i) h)
      (more (from_turns p turns) j t x (thunk_has p (element 0 v) h) (step_has p (at_index 0 k v i) h) (λ y q. (q.0, r_goes_to q.1)) (each 0 (omega arith) h' h j x al (f_closed (subst (λ e. Evals p j e γ δ h' x) same d))))
  index_alone each k h' h m x al (e_takes picked d) = cc
  index_alone each k h' h m x al (e_looks picked s found d) = cc

  index_empty : (last : ℕ) → EachActs (suc last) → (more_alts : Alts) → TermSteps p (acts_from p turns) t (case_of (var 0) (alt (OfLit U []) (f 0) more_alts)) γ δ (at_index (suc last) 0 v i)
  index_empty last each more_alts h' h m x al (e_goes_on {n = j} {e = e} picked d) =
      let same : e ≡ f 0 = cc in
      cost (from_turns p turns) j t x (step_has p (at_index (suc last) 0 v i) h)
      (more (from_turns p turns) j t x (thunk_has p (element 0 v) h) (step_has p (at_index (suc last) 0 v i) h)
      (λ y q. (q.0, r_looks_up l_empty (subst (λ n. Forces p q.0 (element n v) h y) (let e : 0 ≡ min 0 (suc last) = omega arith in e) q.1)))
      (each 0 (omega arith) h' h j x al (f_closed (subst (λ e. Evals p j e γ δ h' x) same d))))
  index_empty last each more_alts h' h m x al (e_takes picked d) = cc
  index_empty last each more_alts h' h m x al (e_looks picked s found d) = cc

  -- a word that is looked at, and the alternative that it takes
  looked : (last width m : ℕ) → closed_value w ≡ suc width → EachActs (suc last) → suc m ≡ min (suc last) (2 ^ suc width) → (h' h : History) (x : Value) → Alike t h' h → {a c : ℕ} {s : Value} {arm : Arm} → Evals p a (var 0) γ δ h' s → arm_of s (numbered (suc width) f (f (suc last)) 0 (suc m)) ≡ Some arm → Evals p c arm.body (joined arm.fields γ) δ h' x → later (suc (plus a c)) (acts_from p turns) zero t x (step_has p (at_index (suc last) (suc width) v i) h)
  looked last width m wide each many h' h x al {a} {c} {s} {arm} ds found dx = at (room turns a)
    where
      set : Value → Type 0
      set = step_has p (at_index (suc last) (suc width) v i) h

      at : (a < turns) ⊎ (turns ≤ a) → later (suc (plus a c)) (acts_from p turns) zero t x set
      at (inr over) = ended p turns (suc (plus a c)) t x set (omega (arith, over, plus_is a c))
      at (inl less) =
          let asked = (left p turns a (scalar U w) s (thunk_has p i h) less (is h' h a s tt (f_closed ds))).asked in
          let own = same_some found (ap (λ s. arm_of s (numbered (suc width) f (f (suc last)) 0 (suc m))) asked.1 ∙ arm_from (suc last) (suc width) f asked.0 (asked.3 ∙ wide) 0 (suc m) (omega (arith, many)) (omega arith)) in
          let body = subst (λ (arm : Arm). Evals p c arm.body (joined arm.fields γ) δ h' x) own dx in
          cost (from_turns p turns) (plus a c) t x set
          (costs (from_turns p turns) a c t x set
          (more (from_turns p turns) c t x (thunk_has p (element (min (number_of asked.0) (suc last)) v) h) set
          (λ y q. (plus asked.2.0 q.0, r_looks_up (l_bits asked.2.1) q.1))
          (each (min (number_of asked.0) (suc last)) (omega arith) h' h c x al (f_closed body))))

  index_looks : (last width m : ℕ) → closed_value w ≡ suc width → EachActs (suc last) → suc m ≡ min (suc last) (2 ^ suc width) → TermSteps p (acts_from p turns) t (case_of (var 0) (numbered (suc width) f (f (suc last)) 0 (suc m))) γ δ (at_index (suc last) (suc width) v i)
  index_looks last width m wide each many h' h j x al (e_looks picked ds found dx) = looked last width m wide each many h' h x al ds found dx
  index_looks last width m wide each many h' h j x al (e_goes_on picked dx) = cc
  index_looks last width m wide each many h' h j x al (e_takes picked dx) = cc

  index_steps : (n k : ℕ) → closed_value w ≡ k → EachActs n → TermSteps p (acts_from p turns) t (case_of (var 0) (numbered k f (f n) 0 (min n (2 ^ k)))) γ δ (at_index n k v i)
  index_steps zero k wide each =
      subst (λ m. TermSteps p (acts_from p turns) t (case_of (var 0) (numbered k f (f 0) 0 m)) γ δ (at_index 0 k v i)) (let e : 0 ≡ min 0 (2 ^ k) = omega arith in e) (index_alone each k)
  index_steps (suc last) zero wide each =
      subst (λ m. TermSteps p (acts_from p turns) t (case_of (var 0) (numbered 0 f (f (suc last)) 0 m)) γ δ (at_index (suc last) 0 v i)) (let e : 1 ≡ min (suc last) (2 ^ 0) = omega arith in e) (index_empty last each (numbered 0 f (f (suc last)) 1 0))
  index_steps (suc last) (suc width) wide each =
      let some : 0 < 2 ^ suc width = subst (λ k. 0 < 2 ^ k) (length-bits_of (suc width) 0) (let l = number_of_lt (bits_of (suc width) 0) in omega (arith, l)) in
      let many : suc (min (suc last) (2 ^ suc width) - 1) ≡ min (suc last) (2 ^ suc width) = omega (arith, some) in
      subst (λ m. TermSteps p (acts_from p turns) t (case_of (var 0) (numbered (suc width) f (f (suc last)) 0 m)) γ δ (at_index (suc last) (suc width) v i)) many (index_looks last width (min (suc last) (2 ^ suc width) - 1) wide each many)

-- vat v i
abbrev indexed_body : ℕ → ℕ → TypeTree → TermTree
indexed_body n k a = by_index n k (var 0) (element_term Val (n + 1) a (var 1))

indexed_at : (p : Program) {types : List TypeTree} {body : TermTree} → TwiceSized indexed_body types body → WithinLimits ElementAt types → RowUnrolls p ElementAt (vector (nat_sum (ty_var 2) (nat_lit 1)) (ty_var 0) ∷ scalar U (ty_var 1) ∷ []) (ty_var 0) types body
unfolding sub evaluated with_origins
indexed_at p (is_twice_sized {size = size} {other = width} {a = a} m k e f) limits q o n γ δ xs all =
    on_two p (acts_from p n) (scalar U width') (vector (nat_sum size' (nat_lit 1)) a') (closed (var 0) γ δ) (closed (var 1) γ δ)
    (λ xs. TermSteps p (acts_from p n) a' (with_origins o (indexed_body m k (evaluated a))) γ δ (by_row ElementAt q (given_at δ (size ∷ width ∷ a ∷ [])) xs))
    (λ v i vs is. subst (λ alts. TermSteps p (acts_from p n) a' (case_of (var 0) alts) γ δ (at_index (closed_value size') (closed_value width') v i)) (sym (are_numbered o k term (term m) 0 (min m (2 ^ k))))
    (subst (λ c. TermSteps p (acts_from p n) a' (case_of (var 0) (numbered k term (term m) 0 (min m (2 ^ k)))) γ δ (at_index c (closed_value width') v i)) (sym long)
    (subst (λ c. TermSteps p (acts_from p n) a' (case_of (var 0) (numbered k term (term m) 0 (min m (2 ^ k)))) γ δ (at_index m c v i)) (sym wide)
    (index_steps p n γ δ a' width' term v i is m k wide (λ j less. element_named (from_turns p n) Val (m + 1) (evaluated a) (var 1) γ δ (nat_sum size' (nat_lit 1)) a' j v (omega (arith, less, within)) vs)))))
    xs all
  where
    size' : TypeTree
    size' = at_env δ size

    width' : TypeTree
    width' = at_env δ width

    a' : TypeTree
    a' = at_env δ a

    term : ℕ → TermTree
    term j = element_term Val (m + 1) (evaluated a) (var 1) j

    within : m + 1 ≤ VECTOR_LENGTH
    within = sum_up VECTOR_LENGTH size (nat_lit 1) m 1 e refl (omega arith) limits.short.0

    long : closed_value size' ≡ m
    long = closed_within VECTOR_LENGTH size m δ e (omega (arith, within)) (omega arith)

    wide : closed_value width' ≡ k
    wide = closed_within SCALAR_BITS width k δ f (number_up SCALAR_BITS width k f limits.narrow.0) (omega arith)

pub indexed : (p : Program) (types : List TypeTree) (body : TermTree) → body_of ElementAt (map evaluated types) ≡ Some body → WithinLimits ElementAt types → RowUnrolls p ElementAt (vector (nat_sum (ty_var 2) (nat_lit 1)) (ty_var 0) ∷ scalar U (ty_var 1) ∷ []) (ty_var 0) types body
indexed p types body e = indexed_at p (twice_sized_view indexed_body types body e)
