-- The value of a primitive on literals acts as the primitive on them.
use Rattle.std.proofs.Common.{◌≡◌, ◌≤◌, ◌+◌, ◌⊎◌, inl, inr, ℕ, suc, zero, Bool, true, false, List, [], ◌∷◌, ◌++◌, length, map, reverse, Some, refl, sym, ap, ◌∙◌, subst, arith}
use Rattle.std.proofs.lemmas.List.{append-nil, length-map, reverse-reverse}
use Rattle.chw_types.specs.declared.kind.Kind.{Kind}
use Rattle.chw_types.specs.declared.kind.Scalar.{Scalar}
use Rattle.chw_types.specs.Arguments.{list_of, arguments}
use Rattle.chw_types.specs.TypeMoves.{sub}
use Rattle.chw_types.specs.TypeTree.{TypeTree, nat_lit, scalar, TypeTrees, no_types, type_and}
use Rattle.chw_types.specs.TypeView.{trees_of}
use Rattle.chw_prims.specs.declared.prim.Primitive.{Primitive as Prim}
use Rattle.chw_prims.specs.Schemas.{bool, row_of, schema_type}
use Rattle.prim_bits.specs.Values.{value_of}
use Rattle.prim_bits.specs.Widths.{argument_widths}
use Rattle.prim_bits.proofs.Taken.{taken_from_value}
use Rattle.chw_terms.specs.Constructors.{Constructor, con_at}
use Rattle.chw_terms.specs.declared.program.Program.{Program}
use Rattle.chw_terms.specs.Evaluated.{evaluated}
use Rattle.chw_terms.specs.TermTree.{TermTree, con, prim}
use Rattle.chw_terms.specs.TermView.{applied}
use Rattle.chw_typing.specs.Scopes.{HasKind, AreTermTypes}
use Rattle.chw_typing.specs.Programs.{AreClosed, IsSound, IsTyped, setting_of}
use Rattle.chw_typing.specs.Typing.{HasType}
use Rattle.chw_typing.proofs.Lists.{turned_onto}
use Rattle.chw_typing.specs.Given.{types_then, IsSaturated}
use Rattle.chw_typing.proofs.Saturated.{prim_at_arguments}
use Rattle.chw_layout.specs.Measured.{closed_value}
use Rattle.chw_meaning.specs.Values.{History, Value, bits, con_of, con_head, closed, Thunks, none, thunk_and, closed_type}
use Rattle.chw_meaning.specs.Steps.{gives, naturals, computes, on_words, step}
use Rattle.chw_meaning.specs.Eval.{plus, truth_of, result_by, result, Evals, e_con, e_lit, f_closed, Runs, r_gives, r_computes, Looks, l_empty, l_bits, Words, no_words, word_and}
use Rattle.rewriting.specs.Primitives.{HasValue, literal, word_given}
use Rattle.rewriting.specs.Origins.{with_origins}
use Rattle.acts.specs.Levels.{Levels, later, RunsAct, term_runs, term_has}
use Rattle.acts.specs.Acts.{AllAct, acts_from}
use Rattle.acts.specs.Terms.{ActsUnder, OriginsTyped, setting_with}
use Rattle.acts.proofs.Forms.{bits_act}
use Rattle.acts.proofs.Globals.{sound_with}
use Rattle.acts.proofs.Levels.{IsLevels, from_turns}
use Rattle.acts.proofs.Rows.{truth_con, falsity_con}
use Rattle.acts.proofs.SameActs.{same_acts}
use Rattle.acts.proofs.Telescopes.{step_has}
use Rattle.acts.proofs.Values.{built_acts}
use Rattle.acts.proofs.Widths.{WideAt, value_wide}
use Rattle.chw_typing.proofs.Kinded.{type_kinded}
use Rattle.act_rules.proofs.Parameters.{AllKinded, schema_parts, part_same}
use Rattle.act_rules.proofs.CasePlaces.{onto}
use Rattle.act_rules.proofs.NameElements.{number_closed}
use Rattle.rule_types.proofs.Words.{AreNumbers, none_numbers, number_and, are_numbers}
use Rattle.act_rules.proofs.Called.{prim_has}
use Rattle.act_rules.proofs.Given.{at_env, types_onto, given_at, thunks_of}
use Rattle.act_rules.proofs.Words.{InRange, WordRow, word_row, in_range}

-- types one after another, in the order in which they are given
types_back : (δ : TypeTrees) (types : List TypeTree) (ts : TypeTrees) → reverse (list_of (types_onto (at_env δ) types ts)) ≡ reverse (list_of ts) ++ map (at_env δ) types
types_back δ [] ts = sym (append-nil (reverse (list_of ts)))
types_back δ (t ∷ more) ts = types_back δ more (type_and (at_env δ t) ts) ∙ turned_onto (at_env δ t) (list_of ts) (map (at_env δ) more)

numbers_closed : (δ : TypeTrees) {types : List TypeTree} {nats : List ℕ} → AreNumbers types nats → InRange nats → map closed_value (map (at_env δ) types) ≡ nats
numbers_closed δ none_numbers range = refl
numbers_closed δ (number_and {t = t} {n = n} {ns = ns} e more) range = λ i. number_closed t δ n e range.0 i ∷ numbers_closed δ more range.1 i

-- the natural arguments in any environment
pub naturals_closed : (δ : TypeTrees) {types : List TypeTree} {nats : List ℕ} → AreNumbers types nats → InRange nats → naturals (given_at δ types) ≡ nats
naturals_closed δ {types} numbers range = ap (map closed_value) (types_back δ types no_types) ∙ numbers_closed δ numbers range

many_onto : (f : TypeTree → TypeTree) (types : List TypeTree) (ts : TypeTrees) → length (list_of (types_onto f types ts)) ≡ length types + length (list_of ts)
many_onto f [] ts = omega arith
many_onto f (t ∷ more) ts = let e = many_onto f more (type_and (f t) ts) in omega (arith, e)

-- a truth value that the other side has too
bare_acts : {p : Program} {r : Levels} → IsLevels p r → (m c : ℕ) (it : Constructor) (s : Value → Type 0) → con_at p.datas c ≡ Some it → it.of ≡ 0 → it.decl.fields ≡ [] → s (con_of c none) → later m r zero bool (con_of c none) s
bare_acts {p} {r} l m c it s held of bare own =
    built_acts l m c 0 it no_types none none s held of own (subst (λ fs. AllAct p r (reverse (map (λ f. sub f (arguments no_types)) fs)) none none) (sym bare) tt)

truth_acts : {p : Program} {r : Levels} → IsSound (setting_of p) → IsLevels p r → (m : ℕ) (b : List Bool) (s : Value → Type 0) → s (truth_of b) → later m r zero bool (truth_of b) s
truth_acts {p} sound l m [] s own = let c = falsity_con p sound in bare_acts l m 0 c.0 s c.1 c.2 c.3 own
truth_acts {p} sound l m (true ∷ []) s own = let c = truth_con p sound in bare_acts l m 1 c.0 s c.1 c.2 c.3 own
truth_acts {p} sound l m (true ∷ (x ∷ b)) s own = let c = falsity_con p sound in bare_acts l m 0 c.0 s c.1 c.2 c.3 own
truth_acts {p} sound l m (false ∷ b) s own = let c = falsity_con p sound in bare_acts l m 0 c.0 s c.1 c.2 c.3 own

-- the bits of each word
abbrev bits_of_words : List (Scalar × List Bool) → List (List Bool)
bits_of_words words = map (λ (w : Scalar × List Bool). w.1) words

module _ (p : Program) (o : ℕ → TermTree) (γ : Thunks) (δ : TypeTrees) (h : History) where
  literal_looks : (w : Scalar × List Bool) → (m : ℕ) × Looks p m (length w.1) (closed (with_origins o (literal w)) γ δ) h w.1
  unfolding with_origins
  literal_looks (s, []) = (zero, l_empty)
  literal_looks (s, x ∷ b) = (suc zero, l_bits (f_closed e_lit))

  -- the literals, one after another before others
  words_onto : (words : List (Scalar × List Bool)) (ks : List ℕ) (xs : Thunks) (bs : List (List Bool)) → (m : ℕ) × Words p m ks xs h bs → (m : ℕ) × Words p m (reverse (map length (bits_of_words words)) ++ ks) (onto (thunks_of o γ δ (map literal words)) xs) h (reverse (bits_of_words words) ++ bs)
  words_onto [] ks xs bs d = d
  words_onto (w ∷ words) ks xs bs d =
      let one = literal_looks w in
      let all = words_onto words (length w.1 ∷ ks) (thunk_and (closed (with_origins o (literal w)) γ δ) xs) (w.1 ∷ bs) (plus one.0 d.0, word_and one.1 d.1) in (
        all.0,
        subst (λ bs'. Words p all.0 (reverse (map length (bits_of_words (w ∷ words))) ++ ks) (onto (thunks_of o γ δ (map literal (w ∷ words))) xs) h bs') (sym (turned_onto w.1 (bits_of_words words) bs))
            (subst (λ ks'. Words p all.0 ks' (onto (thunks_of o γ δ (map literal (w ∷ words))) xs) h (reverse (bits_of_words words) ++ w.1 ∷ bs)) (sym (turned_onto (length w.1) (map length (bits_of_words words)) ks)) all.1),
      )

  words_all : (words : List (Scalar × List Bool)) → (m : ℕ) × Words p m (reverse (map length (bits_of_words words))) (onto (thunks_of o γ δ (map literal words)) none) h (reverse (bits_of_words words))
  words_all words =
      let all = words_onto words [] none [] (zero, no_words) in (
        all.0,
        subst (λ bs. Words p all.0 (reverse (map length (bits_of_words words))) (onto (thunks_of o γ δ (map literal words)) none) h bs) (append-nil (reverse (bits_of_words words)))
            (subst (λ ks. Words p all.0 ks (onto (thunks_of o γ δ (map literal words)) none) h (reverse (bits_of_words words) ++ [])) (append-nil (reverse (map length (bits_of_words words)))) all.1),
      )

  runs_words : (q : Prim) (nats : List ℕ) (words : List (Scalar × List Bool)) (b : List Bool) → value_of q nats (bits_of_words words) ≡ Some b → step_has p (computes q nats (reverse (map length (bits_of_words words))) (onto (thunks_of o γ δ (map literal words)) none)) h (result q b)
  runs_words q nats words b e = let all = words_all words in (all.0, r_computes all.1 (ap (value_of q nats) (reverse-reverse (bits_of_words words)) ∙ e))

  -- the primitive on the literals has its value
  call_has : (q : Prim) (types : List TypeTree) (words : List (Scalar × List Bool)) (b : List Bool) (v : HasValue q types words b) → argument_widths (row_of q) v.nats ≡ Some (map length (bits_of_words words)) → WordRow (row_of q) v.nats (map length (bits_of_words words)) → term_has p (with_origins o (applied (prim q) (types_then types (map literal words)))) γ δ h (result q b)
  call_has q types words b v takes row =
      let xs = onto (thunks_of o γ δ (map literal words)) none in
      let ts = given_at δ types in
      let numbers = are_numbers types v.nats v.closed in
      let range = in_range (row_of q) (map length (bits_of_words words)) numbers takes v.narrow in
      let nats = naturals_closed δ numbers range in
      let does = row.runs q ts xs ∙ ap (λ ns. on_words q ns (argument_widths (row_of q) ns) xs) nats ∙ ap (λ ws. on_words q v.nats ws xs) takes in
      let run = runs_words q v.nats words b v.gives in
      let on_types : length types ≡ length v.nats = sym (length-map types evaluated) ∙ ap length v.closed ∙ length-map v.nats (λ n. nat_lit n) in
      let on_terms : length (map literal words) ≡ length (map length (bits_of_words words)) = length-map words literal ∙ sym (length-map words (λ (w : Scalar × List Bool). w.1)) ∙ sym (length-map (bits_of_words words) length) in
      prim_has p q o γ δ h types (map literal words) (result q b)
      (on_types ∙ row.on_types ∙ sym row.types)
      (omega (arith, on_terms, row.on_terms, row.some))
      (on_terms ∙ row.on_terms ∙ sym row.thunks)
      (run.0, subst (λ s. Runs p run.0 s h (result q b)) (sym does) run.1)

  -- what the new term has
  con_value : (c m : ℕ) (v : Value) → step p.datas (con_head c) no_types none ≡ gives (con_of c none) → Evals p m (con c) γ δ h v → v ≡ con_of c none
  con_value c m v is (e_con {n = n} d) = given (subst (λ s. Runs p n s h v) is d)
    where
      given : {n : ℕ} {v w : Value} → Runs p n (gives w) h v → v ≡ w
      given r_gives = refl

  truth_step : IsSound (setting_of p) → step p.datas (con_head 1) no_types none ≡ gives (con_of 1 none)
  truth_step sound = subst (λ datas. step datas (con_head 1) no_types none ≡ gives (con_of 1 none)) (sym sound.begins.1) refl

  falsity_step : IsSound (setting_of p) → step p.datas (con_head 0) no_types none ≡ gives (con_of 0 none)
  falsity_step sound = subst (λ datas. step datas (con_head 0) no_types none ≡ gives (con_of 0 none)) (sym sound.begins.1) refl

  truth_value : IsSound (setting_of p) → (b : List Bool) (m : ℕ) (v : Value) → Evals p m (with_origins o (word_given bool b)) γ δ h v → v ≡ truth_of b
  unfolding with_origins
  truth_value sound [] m v d = con_value 0 m v (falsity_step sound) d
  truth_value sound (true ∷ []) m v d = con_value 1 m v (truth_step sound) d
  truth_value sound (true ∷ x ∷ b) m v d = con_value 0 m v (falsity_step sound) d
  truth_value sound (false ∷ b) m v d = con_value 0 m v (falsity_step sound) d

  word_value : (x : Scalar) (w : TypeTree) (b : List Bool) (m : ℕ) (v : Value) → Evals p m (with_origins o (word_given (scalar x w) b)) γ δ h v → v ≡ bits b
  unfolding with_origins
  word_value x w b m v e_lit = refl

module _ (p : Program) (sound : IsSound (setting_of p)) (typed : IsTyped p) (types : List TypeTree) (o : ℕ → TermTree) (are_closed : AreClosed (setting_of p) types) (have : OriginsTyped p types o) where
  pub computed : {kinds : List Kind} {vars : List TypeTree} {t : TypeTree} (q : Prim) (ts : List TypeTree) (words : List (Scalar × List Bool)) (b : List Bool) → HasValue q ts words b → AreTermTypes (setting_with p types) kinds vars → HasType (setting_with p types) kinds vars (applied (prim q) (types_then ts (map literal words))) t → ActsUnder p kinds vars (with_origins o (word_given (schema_type q) b)) (with_origins o (applied (prim q) (types_then ts (map literal words)))) t
  unfolding sub
  computed {kinds} {vars} {t} q ts words b v g d n δ γ' γ known names =
      same_acts sound (from_turns p n) (part_same p δ known sound ts saturated.have parts.1.1 (type_kinded d (sound_with p types sound are_closed) g).has saturated.gives) (term_runs p (with_origins o (word_given (schema_type q) b)) γ' δ) (term_has p (with_origins o call) γ δ) runs
    where
      call : TermTree
      call = applied (prim q) (types_then ts (map literal words))

      takes : argument_widths (row_of q) v.nats ≡ Some (map length (bits_of_words words))
      takes = (taken_from_value q v.nats (bits_of_words words) b v.gives).0.0

      row : WordRow (row_of q) v.nats (map length (bits_of_words words))
      row = word_row (row_of q) v.nats (map length (bits_of_words words)) takes

      has : (h : History) → term_has p (with_origins o call) γ δ h (result q b)
      has h = call_has p o γ δ h q ts words b v takes row

      many : length ts ≡ length row.kinds
      many = sym (length-map ts evaluated) ∙ ap length v.closed ∙ length-map v.nats (λ n. nat_lit n) ∙ row.on_types

      terms : length (map literal words) ≡ length row.params
      terms = length-map words literal ∙ sym (length-map words (λ (w : Scalar × List Bool). w.1)) ∙ sym (length-map (bits_of_words words) length) ∙ row.on_terms

      saturated : IsSaturated (setting_with p types) kinds vars row.kinds row.params row.result ts (map literal words) t
      saturated = prim_at_arguments (setting_with p types) kinds vars q row.kinds row.params row.result ts (map literal words) t (sound_with p types sound are_closed) g row.is many terms d

      parts : AllKinded (setting_of p) (reverse row.kinds) row.params × ((j : Kind) × HasKind (setting_of p) (reverse row.kinds) row.result j)
      parts = schema_parts (setting_of p) q sound row.kinds row.params row.result row.is

      nats : naturals (given_at δ ts) ≡ v.nats
      nats = let numbers = are_numbers ts v.nats v.closed in naturals_closed δ numbers (in_range (row_of q) (map length (bits_of_words words)) numbers takes v.narrow)

      env : TypeTrees
      env = given_at δ ts

      by : ((x : Scalar) × (u : TypeTree) × (row.result ≡ scalar x u) × ((ts : TypeTrees) → length (list_of ts) ≡ length row.kinds → WideAt (row_of q) u ts) × ((b : List Bool) → result_by (row_of q) b ≡ bits b)) ⊎ ((row.result ≡ bool) × ((b : List Bool) → result_by (row_of q) b ≡ truth_of b)) → (h' h : History) (m : ℕ) (w : Value) → Evals p m (with_origins o (word_given row.result b)) γ' δ h' w → later m (acts_from p n) zero (closed_type row.result env) w (term_has p (with_origins o call) γ δ h)
      by (inl (x, u, is, wide, means)) h' h m w ev =
          let set = term_has p (with_origins o call) γ δ h in
          let value = word_value p o γ' δ h' x u b m w (subst (λ r. Evals p m (with_origins o (word_given r b)) γ' δ h' w) is ev) in
          let long = value_wide q (row_of q) refl u env (wide env (many_onto (at_env δ) ts no_types ∙ (let e : length ts + 0 ≡ length ts = omega arith in e) ∙ many)) (bits_of_words words) b (ap (λ ns. value_of q ns (bits_of_words words)) nats ∙ v.gives) in
          subst (λ r. later m (acts_from p n) zero (closed_type r env) w set) (sym is)
          (subst (λ w. later m (acts_from p n) zero (closed_type (scalar x u) env) w set) (sym value)
          (bits_act (from_turns p n) m x (closed_type u env) b set long (subst set (means b) (has h))))
      by (inr (is, means)) h' h m w ev =
          let set = term_has p (with_origins o call) γ δ h in
          let value = truth_value p o γ' δ h' sound b m w (subst (λ r. Evals p m (with_origins o (word_given r b)) γ' δ h' w) is ev) in
          subst (λ r. later m (acts_from p n) zero (closed_type r env) w set) (sym is)
          (subst (λ w. later m (acts_from p n) zero (closed_type bool env) w set) (sym value)
          (truth_acts sound (from_turns p n) m b set (subst set (means b) (has h))))

      runs : RunsAct (acts_from p n) (closed_type row.result env) (term_runs p (with_origins o (word_given (schema_type q) b)) γ' δ) (term_has p (with_origins o call) γ δ)
      runs h' h m w al ev = by row.gives h' h m w (subst (λ e. Evals p m (with_origins o e) γ' δ h' w) (row.given b) ev)
