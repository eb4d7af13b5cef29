-- Each primitive acts as itself, a line for each line of their table.
use Rattle.std.proofs.Common.{◌≡◌, ◌+◌, ◌-◌, ◌%◌, ℕ, suc, zero, Bool, true, false, List, [], ◌∷◌, length, map, reverse, Option, Some, None, refl, sym, ap, ◌∙◌, subst, arith}
use Rattle.chw_bits.specs.Bits.{bits_of}
use Rattle.chw_bits.proofs.Numbers.{length-bits_of}
use Rattle.chw_types.specs.declared.kind.Kind.{Kind}
use Rattle.chw_types.specs.declared.kind.Kind.TheVariants.{Nat, Dom, Val}
use Rattle.chw_types.specs.declared.kind.Scalar.{Scalar}
use Rattle.chw_types.specs.declared.kind.Scalar.TheVariants.{U, B}
use Rattle.chw_types.specs.TypeTree.{TypeTree, ty_var, nat_lit, nat_sum, nat_product, scalar, vector, data_of, fun, signal, TypeTrees, no_types}
use Rattle.chw_types.specs.TypeMoves.{sub}
use Rattle.chw_types.specs.Arguments.{list_of, arguments}
use Rattle.chw_types.specs.SamePromises.{natural_value}
use Rattle.chw_prims.specs.declared.prim.Primitive.{Primitive as Prim}
use Rattle.chw_prims.specs.declared.row.Row.{Row}
use Rattle.chw_prims.specs.declared.row.Row.TheVariants.{Binary, WideSum, WideProduct, Unary, Shift, Compare, Extend, Truncate, Cut, Joined, Reduce, Packed, Unpacked, Mapping, Applying, Constant, Delay, Memory, Crossing, Element, ElementAt, Mapped, Zipped, FoldedLeft, FoldedRight, Generated, Replicated, Appended, Concatenated, Taken, Dropped, Reversed, Rotated}
use Rattle.chw_prims.specs.Schemas.{bool, maybe, pair, row_of, row_type, schema_type}
use Rattle.prim_bits.specs.Values.{value_of as word_value}
use Rattle.prim_bits.specs.Widths.{argument_widths}
use Rattle.chw_terms.specs.declared.program.Program.{Program}
use Rattle.chw_terms.specs.Constructors.{Constructor, con_at}
use Rattle.chw_terms.specs.TermTree.{prim}
use Rattle.chw_layout.specs.Datum.{word}
use Rattle.chw_layout.specs.Measured.{closed_value}
use Rattle.chw_typing.specs.HeadTypes.{for_each, from_each}
use Rattle.chw_typing.specs.Programs.{IsSound, setting_of}
use Rattle.chw_typing.proofs.Kinded.{schema_kind}
use Rattle.chw_meaning.specs.Values.{Value, bits, con_of, vec_of, prim_head, Thunk, applied, element, known, Thunks, none, closed_type, joined}
use Rattle.chw_meaning.specs.Steps.{Step, gives, goes_to, samples, delays, remembers, types_asked, thunks_asked, each, each_from, folded_left, folded_right, concatenated, at_index, naturals, on_words, thunks_1, thunks_2, thunks_3, in_domain, by_row, step}
use Rattle.chw_meaning.specs.Eval.{truth_of, result_by, result, e_prim}
use Rattle.acts.specs.Levels.{Levels, later, term_has, thunk_has, ThunksAct}
use Rattle.acts.specs.Acts.{AllAct, acts_from}
use Rattle.acts.proofs.Closing.{closed_stays}
use Rattle.acts.proofs.Widths.{WideAt, one_type, two_types, three_types, value_wide}
use Rattle.acts.proofs.Fields.{element_acts}
use Rattle.acts.proofs.Forms.{TermsAct, bits_act, applied_acts}
use Rattle.acts.proofs.Levels.{IsLevels, from_turns, cost, more, from_signal}
use Rattle.acts.proofs.Memory.{remembers_step, ram_of}
use Rattle.acts.proofs.Shapes.{types_2_step, types_3_step, types_4_step, thunks_1_step, thunks_2_step, thunks_3_step, domain_step}
use Rattle.acts.proofs.Steps.{stuck_acts, vector_step, goes_step, constant_acts, crossing_acts, samples_step, delays_step, AreScalars, computes_step, index_step, each_from_acts, joined_acts, concatenated_acts, folded_left_acts, folded_right_acts}
use Rattle.acts.proofs.Telescopes.{step_has, StepsAct, unapplied_acts}
use Rattle.acts.proofs.Values.{built_acts, fits_word, known_acts}

-- a line of the table acts as itself on all its arguments
abbrev pub RowActs : Program → Prim → Row → TypeTree → List Kind → List TypeTree → Type 0
RowActs p q row result kinds args =
    (n : ℕ) (ts : TypeTrees) (xs' xs : Thunks) → length (list_of ts) ≡ length kinds → AllAct p (acts_from p n) (map (λ t. closed_type t ts) args) xs' xs → StepsAct p (acts_from p n) (closed_type result ts) (by_row row q ts xs') (by_row row q ts xs)

-- so does its primitive
pub prim_acts : (p : Program) → IsSound (setting_of p) → (q : Prim) (row : Row) → row_of q ≡ row → (kinds : List Kind) (args : List TypeTree) (result : TypeTree) → row_type row ≡ for_each kinds (from_each args result) → types_asked (row_type row) ≡ length kinds → thunks_asked (row_type row) ≡ length args → RowActs p q row result (reverse kinds) (reverse args) → (r : Levels) → IsLevels p r → (γ' γ : Thunks) (δ' δ : TypeTrees) → TermsAct p r (schema_type q) (prim q) γ' δ' (prim q) γ δ
prim_acts p sound q row e kinds args result is types thunks acts r l γ' γ δ' δ h' h m v al (e_prim {n = n} d) =
    cost l n (schema_type q) v (term_has p (prim q) γ δ h) (more l n (schema_type q) v (step_has p unapplied h) (term_has p (prim q) γ δ h) (λ w x. (suc x.0, e_prim x.1)) (steps h' h n v al d))
  where
    unapplied : Step
    unapplied = step p.datas (prim_head q) no_types none

    whole : row_type row ≡ schema_type q
    whole = ap row_type (sym e)

    steps : StepsAct p r (schema_type q) unapplied unapplied
    steps =
        subst (λ t. StepsAct p r t unapplied unapplied) (ap (λ t. closed_type t no_types) (sym is ∙ whole) ∙ closed_stays p no_types (schema_kind (setting_of p) q sound).has)
        (unapplied_acts p (prim_head q) result l kinds args (ap (λ row. types_asked (row_type row)) e ∙ types) (ap (λ row. thunks_asked (row_type row)) e ∙ thunks)
        (λ n ts xs' xs known size all. subst (λ row. StepsAct p (acts_from p n) (closed_type result ts) (by_row row q ts xs') (by_row row q ts xs)) (sym e) (acts n ts xs' xs size all)))

pub truth_con : (p : Program) → IsSound (setting_of p) → (it : Constructor) × (con_at p.datas 1 ≡ Some it) × (it.of ≡ 0) × (it.decl.fields ≡ [])
truth_con p sound = subst (λ datas. (it : Constructor) × (con_at datas 1 ≡ Some it) × (it.of ≡ 0) × (it.decl.fields ≡ [])) (sym sound.begins.1) (_, refl, refl, refl)

pub falsity_con : (p : Program) → IsSound (setting_of p) → (it : Constructor) × (con_at p.datas 0 ≡ Some it) × (it.of ≡ 0) × (it.decl.fields ≡ [])
falsity_con p sound = subst (λ datas. (it : Constructor) × (con_at datas 0 ≡ Some it) × (it.of ≡ 0) × (it.decl.fields ≡ [])) (sym sound.begins.1) (_, refl, refl, refl)

bare_con_acts : {p : Program} {r : Levels} → IsLevels p r → (m c d : ℕ) (it : Constructor) (ts : TypeTrees) (s : Value → Type 0) → con_at p.datas c ≡ Some it → it.of ≡ d → it.decl.fields ≡ [] → s (con_of c none) → later m r zero (data_of d ts) (con_of c none) s
bare_con_acts {p} {r} l m c d it ts s held of bare own =
    built_acts l m c d it ts none none s held of own (subst (λ fs. AllAct p r (reverse (map (λ f. sub f (arguments ts)) fs)) none none) (sym bare) tt)

truth_acts : {p : Program} {r : Levels} → IsSound (setting_of p) → IsLevels p r → (m : ℕ) (b : List Bool) (s : Value → Type 0) → s (truth_of b) → later m r zero bool (truth_of b) s
truth_acts {p} sound l m [] s own = let c = falsity_con p sound in bare_con_acts l m 0 0 c.0 no_types s c.1 c.2 c.3 own
truth_acts {p} sound l m (true ∷ []) s own = let c = truth_con p sound in bare_con_acts l m 1 0 c.0 no_types s c.1 c.2 c.3 own
truth_acts {p} sound l m (true ∷ (x ∷ xs)) s own = let c = falsity_con p sound in bare_con_acts l m 0 0 c.0 no_types s c.1 c.2 c.3 own
truth_acts {p} sound l m (false ∷ xs) s own = let c = falsity_con p sound in bare_con_acts l m 0 0 c.0 no_types s c.1 c.2 c.3 own

words_step : (p : Program) (n : ℕ) (t : TypeTree) (q : Prim) (nats : List ℕ) (widths : Option (List ℕ)) (ts : List TypeTree) (xs' xs : Thunks) → AreScalars ts → ((m : ℕ) (b : List Bool) (s : Value → Type 0) → ((args : List (List Bool)) × (word_value q nats args ≡ Some b)) → s (result q b) → later m (acts_from p n) zero t (result q b) s) → AllAct p (acts_from p n) ts xs' xs → StepsAct p (acts_from p n) t (on_words q nats widths xs') (on_words q nats widths xs)
words_step p n t q nats None ts xs' xs sc gives_it all = stuck_acts (acts_from p n) t _
words_step p n t q nats (Some widths) ts xs' xs sc gives_it all = computes_step p n t q nats (reverse widths) ts xs' xs sc gives_it all

-- a primitive on words, the result of which is a word or a truth value
word_line : (p : Program) (q : Prim) (row : Row) → row_of q ≡ row → ((b : List Bool) → result_by row b ≡ bits b) → (n : ℕ) (x : Scalar) (w : TypeTree) (nats : List ℕ) (ts : List TypeTree) (xs' xs : Thunks) → ((args : List (List Bool)) (b : List Bool) → word_value q nats args ≡ Some b → length b ≡ closed_value w) → AreScalars ts → AllAct p (acts_from p n) ts xs' xs → StepsAct p (acts_from p n) (scalar x w) (on_words q nats (argument_widths row nats) xs') (on_words q nats (argument_widths row nats) xs)
word_line p q row e is n x w nats ts xs' xs wide sc = words_step p n (scalar x w) q nats (argument_widths row nats) ts xs' xs sc word_acts
  where
    word_acts : (m : ℕ) (b : List Bool) (s : Value → Type 0) → ((args : List (List Bool)) × (word_value q nats args ≡ Some b)) → s (result q b) → later m (acts_from p n) zero (scalar x w) (result q b) s
    word_acts m b s of own =
        let same = ap (λ row. result_by row b) e ∙ is b in
        subst (λ v. later m (acts_from p n) zero (scalar x w) v s) (sym same) (bits_act (from_turns p n) m x w b s (wide of.0 b of.1) (subst s same own))

truth_line : (p : Program) → IsSound (setting_of p) → (q : Prim) (row : Row) → row_of q ≡ row → ((b : List Bool) → result_by row b ≡ truth_of b) → (n : ℕ) (nats : List ℕ) (ts : List TypeTree) (xs' xs : Thunks) → AreScalars ts → AllAct p (acts_from p n) ts xs' xs → StepsAct p (acts_from p n) bool (on_words q nats (argument_widths row nats) xs') (on_words q nats (argument_widths row nats) xs)
truth_line p sound q row e is n nats ts xs' xs sc = words_step p n bool q nats (argument_widths row nats) ts xs' xs sc word_acts
  where
    word_acts : (m : ℕ) (b : List Bool) (s : Value → Type 0) → ((args : List (List Bool)) × (word_value q nats args ≡ Some b)) → s (result q b) → later m (acts_from p n) zero bool (result q b) s
    word_acts m b s of own =
        let same = ap (λ row. result_by row b) e ∙ is b in
        subst (λ v. later m (acts_from p n) zero bool v s) (sym same) (truth_acts sound (from_turns p n) m b s (subst s same own))

-- a vector, each element by its number
pub each_step : (p : Program) (n : ℕ) (w t : TypeTree) (size : ℕ) (f' f : ℕ → Thunk) → ((j : ℕ) → ThunksAct p (acts_from p n) t (f' j) (f j)) → StepsAct p (acts_from p n) (vector w t) (gives (each size f')) (gives (each size f))
each_step p n w t size f' f acts = vector_step (from_turns p n) w t (each_from zero size f') (each_from zero size f) (each_from_acts t f' f acts zero size)

module _ (p : Program) (sound : IsSound (setting_of p)) (q : Prim) where
  pub binary_line : (x : Scalar) → row_of q ≡ (Binary x) → RowActs p q (Binary x) (scalar x (ty_var 0)) (Nat ∷ []) (scalar x (ty_var 0) ∷ scalar x (ty_var 0) ∷ [])
  unfolding sub natural_value
  binary_line x e n ts xs' xs size = word_line p q (Binary x) e (λ b. refl) n x (closed_type (ty_var 0) ts) (naturals ts) (map (λ t. closed_type t ts) (scalar x (ty_var 0) ∷ scalar x (ty_var 0) ∷ [])) xs' xs (value_wide q (Binary x) e (ty_var 0) ts (one_type (WideAt (Binary x) (ty_var 0)) (λ a below. refl) ts size)) tt

  pub wide_sum_line : (x : Scalar) → row_of q ≡ (WideSum x) → RowActs p q (WideSum x) (scalar x (nat_sum (ty_var 0) (nat_lit 1))) (Nat ∷ []) (scalar x (ty_var 0) ∷ scalar x (ty_var 0) ∷ [])
  unfolding sub natural_value
  wide_sum_line x e n ts xs' xs size = word_line p q (WideSum x) e (λ b. refl) n x (closed_type (nat_sum (ty_var 0) (nat_lit 1)) ts) (naturals ts) (map (λ t. closed_type t ts) (scalar x (ty_var 0) ∷ scalar x (ty_var 0) ∷ [])) xs' xs (value_wide q (WideSum x) e (nat_sum (ty_var 0) (nat_lit 1)) ts (one_type (WideAt (WideSum x) (nat_sum (ty_var 0) (nat_lit 1))) (λ a below. omega (arith, below)) ts size)) tt

  pub wide_product_line : (x : Scalar) → row_of q ≡ (WideProduct x) → RowActs p q (WideProduct x) (scalar x (nat_sum (ty_var 1) (ty_var 0))) (Nat ∷ Nat ∷ []) (scalar x (ty_var 0) ∷ scalar x (ty_var 1) ∷ [])
  unfolding sub natural_value
  wide_product_line x e n ts xs' xs size = word_line p q (WideProduct x) e (λ b. refl) n x (closed_type (nat_sum (ty_var 1) (ty_var 0)) ts) (naturals ts) (map (λ t. closed_type t ts) (scalar x (ty_var 0) ∷ scalar x (ty_var 1) ∷ [])) xs' xs (value_wide q (WideProduct x) e (nat_sum (ty_var 1) (ty_var 0)) ts (two_types (WideAt (WideProduct x) (nat_sum (ty_var 1) (ty_var 0))) (λ a b below. omega (arith, below)) ts size)) tt

  pub unary_line : (x : Scalar) → row_of q ≡ (Unary x) → RowActs p q (Unary x) (scalar x (ty_var 0)) (Nat ∷ []) (scalar x (ty_var 0) ∷ [])
  unfolding sub natural_value
  unary_line x e n ts xs' xs size = word_line p q (Unary x) e (λ b. refl) n x (closed_type (ty_var 0) ts) (naturals ts) (map (λ t. closed_type t ts) (scalar x (ty_var 0) ∷ [])) xs' xs (value_wide q (Unary x) e (ty_var 0) ts (one_type (WideAt (Unary x) (ty_var 0)) (λ a below. refl) ts size)) tt

  pub shift_line : (x : Scalar) → row_of q ≡ (Shift x) → RowActs p q (Shift x) (scalar x (ty_var 1)) (Nat ∷ Nat ∷ []) (scalar U (ty_var 0) ∷ scalar x (ty_var 1) ∷ [])
  unfolding sub natural_value
  shift_line x e n ts xs' xs size = word_line p q (Shift x) e (λ b. refl) n x (closed_type (ty_var 1) ts) (naturals ts) (map (λ t. closed_type t ts) (scalar U (ty_var 0) ∷ scalar x (ty_var 1) ∷ [])) xs' xs (value_wide q (Shift x) e (ty_var 1) ts (two_types (WideAt (Shift x) (ty_var 1)) (λ a b below. refl) ts size)) tt

  pub extend_line : (x : Scalar) → row_of q ≡ (Extend x) → RowActs p q (Extend x) (scalar x (nat_sum (ty_var 1) (ty_var 0))) (Nat ∷ Nat ∷ []) (scalar x (ty_var 1) ∷ [])
  unfolding sub natural_value
  extend_line x e n ts xs' xs size = word_line p q (Extend x) e (λ b. refl) n x (closed_type (nat_sum (ty_var 1) (ty_var 0)) ts) (naturals ts) (map (λ t. closed_type t ts) (scalar x (ty_var 1) ∷ [])) xs' xs (value_wide q (Extend x) e (nat_sum (ty_var 1) (ty_var 0)) ts (two_types (WideAt (Extend x) (nat_sum (ty_var 1) (ty_var 0))) (λ a b below. omega (arith, below)) ts size)) tt

  pub truncate_line : (x : Scalar) → row_of q ≡ (Truncate x) → RowActs p q (Truncate x) (scalar x (ty_var 1)) (Nat ∷ Nat ∷ []) (scalar x (nat_sum (ty_var 1) (ty_var 0)) ∷ [])
  unfolding sub natural_value
  truncate_line x e n ts xs' xs size = word_line p q (Truncate x) e (λ b. refl) n x (closed_type (ty_var 1) ts) (naturals ts) (map (λ t. closed_type t ts) (scalar x (nat_sum (ty_var 1) (ty_var 0)) ∷ [])) xs' xs (value_wide q (Truncate x) e (ty_var 1) ts (two_types (WideAt (Truncate x) (ty_var 1)) (λ a b below. refl) ts size)) tt

  pub cut_line : row_of q ≡ Cut → RowActs p q Cut (scalar B (ty_var 1)) (Nat ∷ Nat ∷ Nat ∷ []) (scalar B (nat_sum (nat_sum (ty_var 0) (ty_var 1)) (ty_var 2)) ∷ [])
  unfolding sub natural_value
  cut_line e n ts xs' xs size = word_line p q Cut e (λ b. refl) n B (closed_type (ty_var 1) ts) (naturals ts) (map (λ t. closed_type t ts) (scalar B (nat_sum (nat_sum (ty_var 0) (ty_var 1)) (ty_var 2)) ∷ [])) xs' xs (value_wide q Cut e (ty_var 1) ts (three_types (WideAt Cut (ty_var 1)) (λ a b c below. refl) ts size)) tt

  pub joined_line : row_of q ≡ Joined → RowActs p q Joined (scalar B (nat_sum (ty_var 1) (ty_var 0))) (Nat ∷ Nat ∷ []) (scalar B (ty_var 0) ∷ scalar B (ty_var 1) ∷ [])
  unfolding sub natural_value
  joined_line e n ts xs' xs size = word_line p q Joined e (λ b. refl) n B (closed_type (nat_sum (ty_var 1) (ty_var 0)) ts) (naturals ts) (map (λ t. closed_type t ts) (scalar B (ty_var 0) ∷ scalar B (ty_var 1) ∷ [])) xs' xs (value_wide q Joined e (nat_sum (ty_var 1) (ty_var 0)) ts (two_types (WideAt Joined (nat_sum (ty_var 1) (ty_var 0))) (λ a b below. omega (arith, below)) ts size)) tt

  pub packed_line : (x : Scalar) → row_of q ≡ (Packed x) → RowActs p q (Packed x) (scalar B (ty_var 0)) (Nat ∷ []) (scalar x (ty_var 0) ∷ [])
  unfolding sub natural_value
  packed_line x e n ts xs' xs size = word_line p q (Packed x) e (λ b. refl) n B (closed_type (ty_var 0) ts) (naturals ts) (map (λ t. closed_type t ts) (scalar x (ty_var 0) ∷ [])) xs' xs (value_wide q (Packed x) e (ty_var 0) ts (one_type (WideAt (Packed x) (ty_var 0)) (λ a below. refl) ts size)) tt

  pub unpacked_line : (x : Scalar) → row_of q ≡ (Unpacked x) → RowActs p q (Unpacked x) (scalar x (ty_var 0)) (Nat ∷ []) (scalar B (ty_var 0) ∷ [])
  unfolding sub natural_value
  unpacked_line x e n ts xs' xs size = word_line p q (Unpacked x) e (λ b. refl) n x (closed_type (ty_var 0) ts) (naturals ts) (map (λ t. closed_type t ts) (scalar B (ty_var 0) ∷ [])) xs' xs (value_wide q (Unpacked x) e (ty_var 0) ts (one_type (WideAt (Unpacked x) (ty_var 0)) (λ a below. refl) ts size)) tt

  pub compare_line : (x : Scalar) → row_of q ≡ (Compare x) → RowActs p q (Compare x) bool (Nat ∷ []) (scalar x (ty_var 0) ∷ scalar x (ty_var 0) ∷ [])
  unfolding sub
  compare_line x e n ts xs' xs size = truth_line p sound q (Compare x) e (λ b. refl) n (naturals ts) (map (λ t. closed_type t ts) (scalar x (ty_var 0) ∷ scalar x (ty_var 0) ∷ [])) xs' xs tt

  pub reduce_line : row_of q ≡ Reduce → RowActs p q Reduce bool (Nat ∷ []) (scalar B (ty_var 0) ∷ [])
  unfolding sub
  reduce_line e n ts xs' xs size = truth_line p sound q Reduce e (λ b. refl) n (naturals ts) (map (λ t. closed_type t ts) (scalar B (ty_var 0) ∷ [])) xs' xs tt

  pub mapping_line : RowActs p q Mapping (signal (ty_var 2) (ty_var 0)) (Val ∷ Val ∷ Dom ∷ []) (signal (ty_var 2) (ty_var 1) ∷ fun (ty_var 1) (ty_var 0) ∷ [])
  unfolding sub
  mapping_line n ts xs' xs size =
      types_3_step p (acts_from p n) (signal (ty_var 2) (ty_var 1) ∷ fun (ty_var 1) (ty_var 0) ∷ []) (signal (ty_var 2) (ty_var 0)) (λ d a b xs. thunks_2 xs (λ f s. samples f s)) xs' xs
      (λ d a b. thunks_2_step p (acts_from p n) (signal d a) (fun a b) (signal d b) (λ f s. samples f s) (λ f' f s' s fs ss. samples_step (from_turns p n) d a b f' f s' s (λ h m v. fs h h m v tt) ss) xs' xs) ts

  pub applying_line : RowActs p q Applying (signal (ty_var 2) (ty_var 0)) (Val ∷ Val ∷ Dom ∷ []) (signal (ty_var 2) (ty_var 1) ∷ signal (ty_var 2) (fun (ty_var 1) (ty_var 0)) ∷ [])
  unfolding sub
  applying_line n ts xs' xs size =
      types_3_step p (acts_from p n) (signal (ty_var 2) (ty_var 1) ∷ signal (ty_var 2) (fun (ty_var 1) (ty_var 0)) ∷ []) (signal (ty_var 2) (ty_var 0)) (λ d a b xs. thunks_2 xs (λ f s. samples f s)) xs' xs
      (λ d a b. thunks_2_step p (acts_from p n) (signal d a) (signal d (fun a b)) (signal d b) (λ f s. samples f s) (λ f' f s' s fs ss. samples_step (from_turns p n) d a b f' f s' s (λ h m v x. from_signal (from_turns p n) m d (fun a b) v (thunk_has p f h) (fs h h m v refl x)) ss) xs' xs) ts

  pub constant_line : RowActs p q Constant (signal (ty_var 1) (ty_var 0)) (Val ∷ Dom ∷ []) (ty_var 0 ∷ [])
  unfolding sub
  constant_line n ts xs' xs size =
      types_2_step p (acts_from p n) (ty_var 0 ∷ []) (signal (ty_var 1) (ty_var 0)) (λ d a xs. thunks_1 xs (λ v. goes_to v)) xs' xs
      (λ d a. thunks_1_step p (acts_from p n) (a) (signal d a) (λ v. goes_to v) (λ v' v vs. goes_step (from_turns p n) (signal d a) v' v (constant_acts (from_turns p n) d a v' v vs)) xs' xs) ts

  pub delay_line : RowActs p q Delay (signal (ty_var 1) (ty_var 0)) (Val ∷ Dom ∷ []) (signal (ty_var 1) (ty_var 0) ∷ ty_var 0 ∷ [])
  unfolding sub
  delay_line n ts xs' xs size =
      types_2_step p (acts_from p n) (signal (ty_var 1) (ty_var 0) ∷ ty_var 0 ∷ []) (signal (ty_var 1) (ty_var 0)) (λ t a xs. in_domain t (λ d. thunks_2 xs (λ i s. delays d i s))) xs' xs
      (λ t a. λ all. domain_step p (acts_from p n) (signal t a) t (λ d. thunks_2 xs' (λ i s. delays d i s)) (λ d. thunks_2 xs (λ i s. delays d i s)) (λ d. thunks_2_step p (acts_from p n) (signal t a) (a) (signal t a) (λ i s. delays d i s) (λ i' i s' s is ss. delays_step (from_turns p n) d t a i' i s' s is ss) xs' xs all)) ts

  pub memory_line : RowActs p q Memory (signal (ty_var 3) (ty_var 0)) (Val ∷ Nat ∷ Nat ∷ Dom ∷ []) (signal (ty_var 3) (maybe (pair (scalar U (ty_var 1)) (ty_var 0))) ∷ signal (ty_var 3) (scalar U (ty_var 1)) ∷ vector (nat_sum (ty_var 2) (nat_lit 1)) (ty_var 0) ∷ [])
  unfolding sub
  memory_line n ts xs' xs size =
      types_4_step p (acts_from p n) (signal (ty_var 3) (maybe (pair (scalar U (ty_var 1)) (ty_var 0))) ∷ signal (ty_var 3) (scalar U (ty_var 1)) ∷ vector (nat_sum (ty_var 2) (nat_lit 1)) (ty_var 0) ∷ []) (signal (ty_var 3) (ty_var 0)) (λ t m k a xs. in_domain t (λ d. thunks_3 xs (λ c r w. remembers (ram_of d (closed_value (nat_sum m (nat_lit 1))) (closed_value k) a c r w)))) xs' xs
      (λ t m k a. λ all. domain_step p (acts_from p n) (signal t a) t (λ d. thunks_3 xs' (λ c r w. remembers (ram_of d (closed_value (nat_sum m (nat_lit 1))) (closed_value k) a c r w))) (λ d. thunks_3 xs (λ c r w. remembers (ram_of d (closed_value (nat_sum m (nat_lit 1))) (closed_value k) a c r w))) (λ d. thunks_3_step p (acts_from p n) (signal t (maybe (pair (scalar U k) a))) (signal t (scalar U k)) (vector (nat_sum m (nat_lit 1)) a) (signal t a) (λ c r w. remembers (ram_of d (closed_value (nat_sum m (nat_lit 1))) (closed_value k) a c r w)) (λ c' c r' r w' w cs rs ws. remembers_step p sound d (closed_value (nat_sum m (nat_lit 1))) (closed_value k) (nat_sum m (nat_lit 1)) k t a c' c r' r w' w n cs rs ws) xs' xs all)) ts

  pub crossing_line : RowActs p q Crossing (signal (ty_var 1) (ty_var 0)) (Val ∷ Dom ∷ Dom ∷ []) (signal (ty_var 2) (ty_var 0) ∷ [])
  unfolding sub
  crossing_line n ts xs' xs size =
      types_3_step p (acts_from p n) (signal (ty_var 2) (ty_var 0) ∷ []) (signal (ty_var 1) (ty_var 0)) (λ d e a xs. thunks_1 xs (λ s. goes_to s)) xs' xs
      (λ d e a. thunks_1_step p (acts_from p n) (signal d a) (signal e a) (λ s. goes_to s) (λ s' s ss. goes_step (from_turns p n) (signal e a) s' s (crossing_acts (from_turns p n) d e a s' s ss)) xs' xs) ts

  pub element_line : (kind : Kind) → RowActs p q (Element kind) (ty_var 0) (kind ∷ Nat ∷ Nat ∷ []) (vector (nat_sum (nat_sum (ty_var 2) (nat_lit 1)) (ty_var 1)) (ty_var 0) ∷ [])
  unfolding sub
  element_line kind n ts xs' xs size =
      types_3_step p (acts_from p n) (vector (nat_sum (nat_sum (ty_var 2) (nat_lit 1)) (ty_var 1)) (ty_var 0) ∷ []) (ty_var 0) (λ i m a xs. thunks_1 xs (λ v. goes_to (element (closed_value i) v))) xs' xs
      (λ i m a. thunks_1_step p (acts_from p n) (vector (nat_sum (nat_sum i (nat_lit 1)) m) a) (a) (λ v. goes_to (element (closed_value i) v)) (λ v' v vs. goes_step (from_turns p n) a (element (closed_value i) v') (element (closed_value i) v) (element_acts (from_turns p n) (nat_sum (nat_sum i (nat_lit 1)) m) a (closed_value i) v' v vs)) xs' xs) ts

  pub element_at_line : RowActs p q ElementAt (ty_var 0) (Val ∷ Nat ∷ Nat ∷ []) (scalar U (ty_var 1) ∷ vector (nat_sum (ty_var 2) (nat_lit 1)) (ty_var 0) ∷ [])
  unfolding sub
  element_at_line n ts xs' xs size =
      types_3_step p (acts_from p n) (scalar U (ty_var 1) ∷ vector (nat_sum (ty_var 2) (nat_lit 1)) (ty_var 0) ∷ []) (ty_var 0) (λ m k a xs. thunks_2 xs (λ v i. at_index (closed_value m) (closed_value k) v i)) xs' xs
      (λ m k a. thunks_2_step p (acts_from p n) (scalar U k) (vector (nat_sum m (nat_lit 1)) a) (a) (λ v i. at_index (closed_value m) (closed_value k) v i) (λ v' v i' i vs is. index_step p n (closed_value m) (closed_value k) U (nat_sum m (nat_lit 1)) k a v' v i' i vs is) xs' xs) ts

  pub mapped_line : (kind : Kind) → RowActs p q (Mapped kind) (vector (ty_var 2) (ty_var 0)) (kind ∷ kind ∷ Nat ∷ []) (vector (ty_var 2) (ty_var 1) ∷ fun (ty_var 1) (ty_var 0) ∷ [])
  unfolding sub
  mapped_line kind n ts xs' xs size =
      types_3_step p (acts_from p n) (vector (ty_var 2) (ty_var 1) ∷ fun (ty_var 1) (ty_var 0) ∷ []) (vector (ty_var 2) (ty_var 0)) (λ m a b xs. thunks_2 xs (λ f v. gives (each (closed_value m) (λ j. applied f (element j v))))) xs' xs
      (λ m a b. thunks_2_step p (acts_from p n) (vector m a) (fun a b) (vector m b) (λ f v. gives (each (closed_value m) (λ j. applied f (element j v)))) (λ f' f v' v fs vs. each_step p n m b (closed_value m) (λ j. applied f' (element j v')) (λ j. applied f (element j v)) (λ j. applied_acts (from_turns p n) a b f' f (element j v') (element j v) fs (element_acts (from_turns p n) m a j v' v vs))) xs' xs) ts

  pub zipped_line : (kind : Kind) → RowActs p q (Zipped kind) (vector (ty_var 3) (ty_var 0)) (kind ∷ kind ∷ kind ∷ Nat ∷ []) (vector (ty_var 3) (ty_var 1) ∷ vector (ty_var 3) (ty_var 2) ∷ fun (ty_var 2) (fun (ty_var 1) (ty_var 0)) ∷ [])
  unfolding sub
  zipped_line kind n ts xs' xs size =
      types_4_step p (acts_from p n) (vector (ty_var 3) (ty_var 1) ∷ vector (ty_var 3) (ty_var 2) ∷ fun (ty_var 2) (fun (ty_var 1) (ty_var 0)) ∷ []) (vector (ty_var 3) (ty_var 0)) (λ m a b c xs. thunks_3 xs (λ f v w. gives (each (closed_value m) (λ j. applied (applied f (element j v)) (element j w))))) xs' xs
      (λ m a b c. thunks_3_step p (acts_from p n) (vector m b) (vector m a) (fun a (fun b c)) (vector m c) (λ f v w. gives (each (closed_value m) (λ j. applied (applied f (element j v)) (element j w)))) (λ f' f v' v w' w fs vs ws. each_step p n m c (closed_value m) (λ j. applied (applied f' (element j v')) (element j w')) (λ j. applied (applied f (element j v)) (element j w)) (λ j. applied_acts (from_turns p n) b c (applied f' (element j v')) (applied f (element j v)) (element j w') (element j w) (applied_acts (from_turns p n) a (fun b c) f' f (element j v') (element j v) fs (element_acts (from_turns p n) m a j v' v vs)) (element_acts (from_turns p n) m b j w' w ws))) xs' xs) ts

  pub folded_left_line : (kind : Kind) → RowActs p q (FoldedLeft kind) (ty_var 0) (kind ∷ kind ∷ Nat ∷ []) (vector (ty_var 2) (ty_var 1) ∷ ty_var 0 ∷ fun (ty_var 0) (fun (ty_var 1) (ty_var 0)) ∷ [])
  unfolding sub
  folded_left_line kind n ts xs' xs size =
      types_3_step p (acts_from p n) (vector (ty_var 2) (ty_var 1) ∷ ty_var 0 ∷ fun (ty_var 0) (fun (ty_var 1) (ty_var 0)) ∷ []) (ty_var 0) (λ m a b xs. thunks_3 xs (λ f z v. goes_to (folded_left zero (closed_value m) f z v))) xs' xs
      (λ m a b. thunks_3_step p (acts_from p n) (vector m a) (b) (fun b (fun a b)) (b) (λ f z v. goes_to (folded_left zero (closed_value m) f z v)) (λ f' f z' z v' v fs zs vs. goes_step (from_turns p n) b (folded_left zero (closed_value m) f' z' v') (folded_left zero (closed_value m) f z v) (folded_left_acts (from_turns p n) m a b f' f v' v fs vs zero (closed_value m) z' z zs)) xs' xs) ts

  pub folded_right_line : (kind : Kind) → RowActs p q (FoldedRight kind) (ty_var 0) (kind ∷ kind ∷ Nat ∷ []) (vector (ty_var 2) (ty_var 1) ∷ ty_var 0 ∷ fun (ty_var 1) (fun (ty_var 0) (ty_var 0)) ∷ [])
  unfolding sub
  folded_right_line kind n ts xs' xs size =
      types_3_step p (acts_from p n) (vector (ty_var 2) (ty_var 1) ∷ ty_var 0 ∷ fun (ty_var 1) (fun (ty_var 0) (ty_var 0)) ∷ []) (ty_var 0) (λ m a b xs. thunks_3 xs (λ f z v. goes_to (folded_right zero (closed_value m) f z v))) xs' xs
      (λ m a b. thunks_3_step p (acts_from p n) (vector m a) (b) (fun a (fun b b)) (b) (λ f z v. goes_to (folded_right zero (closed_value m) f z v)) (λ f' f z' z v' v fs zs vs. goes_step (from_turns p n) b (folded_right zero (closed_value m) f' z' v') (folded_right zero (closed_value m) f z v) (folded_right_acts (from_turns p n) m a b f' f v' v z' z fs vs zs zero (closed_value m))) xs' xs) ts

  pub generated_line : (kind : Kind) → RowActs p q (Generated kind) (vector (ty_var 2) (ty_var 0)) (kind ∷ Nat ∷ Nat ∷ []) (fun (scalar U (ty_var 1)) (ty_var 0) ∷ [])
  unfolding sub
  generated_line kind n ts xs' xs size =
      types_3_step p (acts_from p n) (fun (scalar U (ty_var 1)) (ty_var 0) ∷ []) (vector (ty_var 2) (ty_var 0)) (λ m k a xs. thunks_1 xs (λ f. gives (each (closed_value m) (λ j. applied f (known (word (bits_of (closed_value k) j))))))) xs' xs
      (λ m k a. thunks_1_step p (acts_from p n) (fun (scalar U k) a) (vector m a) (λ f. gives (each (closed_value m) (λ j. applied f (known (word (bits_of (closed_value k) j)))))) (λ f' f fs. each_step p n m a (closed_value m) (λ j. applied f' (known (word (bits_of (closed_value k) j)))) (λ j. applied f (known (word (bits_of (closed_value k) j)))) (λ j. applied_acts (from_turns p n) (scalar U k) a f' f (known (word (bits_of (closed_value k) j))) (known (word (bits_of (closed_value k) j))) fs (known_acts (from_turns p n) (fits_word (length-bits_of (closed_value k) j))))) xs' xs) ts

  pub replicated_line : (kind : Kind) → RowActs p q (Replicated kind) (vector (ty_var 1) (ty_var 0)) (kind ∷ Nat ∷ []) (ty_var 0 ∷ [])
  unfolding sub
  replicated_line kind n ts xs' xs size =
      types_2_step p (acts_from p n) (ty_var 0 ∷ []) (vector (ty_var 1) (ty_var 0)) (λ m a xs. thunks_1 xs (λ x. gives (each (closed_value m) (λ j. x)))) xs' xs
      (λ m a. thunks_1_step p (acts_from p n) (a) (vector m a) (λ x. gives (each (closed_value m) (λ j. x))) (λ x' x xs. each_step p n m a (closed_value m) (λ j. x') (λ j. x) (λ j. xs)) xs' xs) ts

  pub appended_line : (kind : Kind) → RowActs p q (Appended kind) (vector (nat_sum (ty_var 2) (ty_var 1)) (ty_var 0)) (kind ∷ Nat ∷ Nat ∷ []) (vector (ty_var 1) (ty_var 0) ∷ vector (ty_var 2) (ty_var 0) ∷ [])
  unfolding sub
  appended_line kind n ts xs' xs size =
      types_3_step p (acts_from p n) (vector (ty_var 1) (ty_var 0) ∷ vector (ty_var 2) (ty_var 0) ∷ []) (vector (nat_sum (ty_var 2) (ty_var 1)) (ty_var 0)) (λ l m a xs. thunks_2 xs (λ v w. gives (vec_of (joined (each_from zero (closed_value l) (λ j. element j v)) (each_from zero (closed_value m) (λ j. element j w)))))) xs' xs
      (λ l m a. thunks_2_step p (acts_from p n) (vector m a) (vector l a) (vector (nat_sum l m) a) (λ v w. gives (vec_of (joined (each_from zero (closed_value l) (λ j. element j v)) (each_from zero (closed_value m) (λ j. element j w))))) (λ v' v w' w vs ws. vector_step (from_turns p n) (nat_sum l m) a (joined (each_from zero (closed_value l) (λ j. element j v')) (each_from zero (closed_value m) (λ j. element j w'))) (joined (each_from zero (closed_value l) (λ j. element j v)) (each_from zero (closed_value m) (λ j. element j w))) (joined_acts p (acts_from p n) a (each_from zero (closed_value l) (λ j. element j v')) (each_from zero (closed_value l) (λ j. element j v)) (each_from zero (closed_value m) (λ j. element j w')) (each_from zero (closed_value m) (λ j. element j w)) (each_from_acts a (λ j. element j v') (λ j. element j v) (λ j. element_acts (from_turns p n) l a j v' v vs) zero (closed_value l)) (each_from_acts a (λ j. element j w') (λ j. element j w) (λ j. element_acts (from_turns p n) m a j w' w ws) zero (closed_value m)))) xs' xs) ts

  pub concatenated_line : (kind : Kind) → RowActs p q (Concatenated kind) (vector (nat_product (ty_var 2) (ty_var 1)) (ty_var 0)) (kind ∷ Nat ∷ Nat ∷ []) (vector (ty_var 2) (vector (ty_var 1) (ty_var 0)) ∷ [])
  unfolding sub
  concatenated_line kind n ts xs' xs size =
      types_3_step p (acts_from p n) (vector (ty_var 2) (vector (ty_var 1) (ty_var 0)) ∷ []) (vector (nat_product (ty_var 2) (ty_var 1)) (ty_var 0)) (λ l m a xs. thunks_1 xs (λ v. gives (vec_of (concatenated zero (closed_value l) (closed_value m) v)))) xs' xs
      (λ l m a. thunks_1_step p (acts_from p n) (vector l (vector m a)) (vector (nat_product l m) a) (λ v. gives (vec_of (concatenated zero (closed_value l) (closed_value m) v))) (λ v' v vs. vector_step (from_turns p n) (nat_product l m) a (concatenated zero (closed_value l) (closed_value m) v') (concatenated zero (closed_value l) (closed_value m) v) (concatenated_acts (from_turns p n) l m a v' v vs zero (closed_value l) (closed_value m))) xs' xs) ts

  pub taken_line : (kind : Kind) → RowActs p q (Taken kind) (vector (ty_var 2) (ty_var 0)) (kind ∷ Nat ∷ Nat ∷ []) (vector (nat_sum (ty_var 2) (ty_var 1)) (ty_var 0) ∷ [])
  unfolding sub
  taken_line kind n ts xs' xs size =
      types_3_step p (acts_from p n) (vector (nat_sum (ty_var 2) (ty_var 1)) (ty_var 0) ∷ []) (vector (ty_var 2) (ty_var 0)) (λ l m a xs. thunks_1 xs (λ v. gives (each (closed_value l) (λ j. element j v)))) xs' xs
      (λ l m a. thunks_1_step p (acts_from p n) (vector (nat_sum l m) a) (vector l a) (λ v. gives (each (closed_value l) (λ j. element j v))) (λ v' v vs. each_step p n l a (closed_value l) (λ j. element j v') (λ j. element j v) (λ j. element_acts (from_turns p n) (nat_sum l m) a j v' v vs)) xs' xs) ts

  pub dropped_line : (kind : Kind) → RowActs p q (Dropped kind) (vector (ty_var 1) (ty_var 0)) (kind ∷ Nat ∷ Nat ∷ []) (vector (nat_sum (ty_var 2) (ty_var 1)) (ty_var 0) ∷ [])
  unfolding sub
  dropped_line kind n ts xs' xs size =
      types_3_step p (acts_from p n) (vector (nat_sum (ty_var 2) (ty_var 1)) (ty_var 0) ∷ []) (vector (ty_var 1) (ty_var 0)) (λ l m a xs. thunks_1 xs (λ v. gives (each (closed_value m) (λ j. element (closed_value l + j) v)))) xs' xs
      (λ l m a. thunks_1_step p (acts_from p n) (vector (nat_sum l m) a) (vector m a) (λ v. gives (each (closed_value m) (λ j. element (closed_value l + j) v))) (λ v' v vs. each_step p n m a (closed_value m) (λ j. element (closed_value l + j) v') (λ j. element (closed_value l + j) v) (λ j. element_acts (from_turns p n) (nat_sum l m) a (closed_value l + j) v' v vs)) xs' xs) ts

  pub reversed_line : (kind : Kind) → RowActs p q (Reversed kind) (vector (ty_var 1) (ty_var 0)) (kind ∷ Nat ∷ []) (vector (ty_var 1) (ty_var 0) ∷ [])
  unfolding sub
  reversed_line kind n ts xs' xs size =
      types_2_step p (acts_from p n) (vector (ty_var 1) (ty_var 0) ∷ []) (vector (ty_var 1) (ty_var 0)) (λ m a xs. thunks_1 xs (λ v. gives (each (closed_value m) (λ j. element (closed_value m - 1 - j) v)))) xs' xs
      (λ m a. thunks_1_step p (acts_from p n) (vector m a) (vector m a) (λ v. gives (each (closed_value m) (λ j. element (closed_value m - 1 - j) v))) (λ v' v vs. each_step p n m a (closed_value m) (λ j. element (closed_value m - 1 - j) v') (λ j. element (closed_value m - 1 - j) v) (λ j. element_acts (from_turns p n) m a (closed_value m - 1 - j) v' v vs)) xs' xs) ts

  pub rotated_line : (kind : Kind) → RowActs p q (Rotated kind) (vector (ty_var 2) (ty_var 0)) (kind ∷ Nat ∷ Nat ∷ []) (vector (ty_var 2) (ty_var 0) ∷ [])
  unfolding sub
  rotated_line kind n ts xs' xs size =
      types_3_step p (acts_from p n) (vector (ty_var 2) (ty_var 0) ∷ []) (vector (ty_var 2) (ty_var 0)) (λ m k a xs. thunks_1 xs (λ v. gives (each (closed_value m) (λ j. element ((j + closed_value k) % closed_value m) v)))) xs' xs
      (λ m k a. thunks_1_step p (acts_from p n) (vector m a) (vector m a) (λ v. gives (each (closed_value m) (λ j. element ((j + closed_value k) % closed_value m) v))) (λ v' v vs. each_step p n m a (closed_value m) (λ j. element ((j + closed_value k) % closed_value m) v') (λ j. element ((j + closed_value k) % closed_value m) v) (λ j. element_acts (from_turns p n) m a ((j + closed_value k) % closed_value m) v' v vs)) xs' xs) ts
