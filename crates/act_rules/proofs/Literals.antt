-- A case of a literal, and a default alone.
use Rattle.std.proofs.Common.{◌≡◌, ℕ, Bool, true, false, List, [], ◌∷◌, length, refl, sym, ap, ◌∙◌, subst, arith}
use Rattle.chw_base.specs.declared.index.ConId.{ConId}
use Rattle.chw_types.specs.declared.declarations.Data.{Data}
use Rattle.chw_types.specs.declared.kind.Kind.{Kind}
use Rattle.chw_types.specs.declared.kind.Scalar.{Scalar}
use Rattle.chw_types.specs.TypeTree.{TypeTree, nat_lit, scalar, TypeTrees}
use Rattle.chw_types.specs.Polynomials.{ended}
use Rattle.chw_types.specs.SamePromises.{natural_value}
use Rattle.chw_types.specs.SameTypes.{SameTypes, same_naturals}
use Rattle.chw_types.proofs.SameLaws.{one_value, same_turned}
use Rattle.chw_terms.specs.declared.program.Program.{Program}
use Rattle.chw_terms.specs.declared.term.Pattern.{Pattern}
use Rattle.chw_terms.specs.declared.term.Pattern.TheVariants.{OfCon, OfLit, Default}
use Rattle.chw_terms.specs.TermTree.{TermTree, lit, case_of, Alts, no_alts, alt}
use Rattle.chw_typing.specs.Alternatives.{Hides}
use Rattle.chw_typing.specs.HeadTypes.{PatternOf, of_con, of_lit, of_any, literal_type}
use Rattle.chw_typing.specs.Scopes.{Setting, AreTermTypes, AreSame, with_more}
use Rattle.chw_typing.specs.Programs.{AreClosed, IsSound, IsTyped, setting_of}
use Rattle.chw_typing.specs.Typing.{HasType, h_lit, AllGive, none_give, give_and}
use Rattle.chw_typing.proofs.Kinded.{type_kinded}
use Rattle.chw_typing.specs.Paths.{Branch}
use Rattle.rewriting.specs.Shapes.{IsTakenBy, by_first, by_later}
use Rattle.chw_meaning.specs.Values.{History, Value, bits, Thunks, none, closed_type, joined}
use Rattle.chw_meaning.specs.Eval.{choice, looks, same_bits, bound, Evals, e_lit, e_goes_on, e_looks}
use Rattle.acts.specs.Levels.{term_runs, term_has}
use Rattle.acts.specs.Acts.{acts_from}
use Rattle.acts.specs.Terms.{TiedBy, Kinded, ActsUnder, OriginsTyped, setting_with}
use Rattle.rewriting.specs.Origins.{with_origins, with_origins_alts}
use Rattle.acts.proofs.Closing.{closed_same}
use Rattle.acts.proofs.Forms.{TermsAct}
use Rattle.acts.proofs.Globals.{sound_with}
use Rattle.acts.proofs.Levels.{from_turns, runs_more}
use Rattle.acts.proofs.SameActs.{same_acts}
use Rattle.act_rules.proofs.RuleMoves.{same_term_acts}
use Rattle.act_rules.proofs.Known.{case_typed, any_binds}
use Rattle.act_rules.proofs.Taken.{taken_typed, taken_hides, taken_arm, Agrees, AllAgree}

bits_itself : (b : List Bool) → same_bits b b ≡ true
bits_itself [] = refl
bits_itself (true ∷ b) = bits_itself b
bits_itself (false ∷ b) = bits_itself b

same_are : (b a : List Bool) → same_bits b a ≡ true → a ≡ b
same_are [] [] e = refl
same_are [] (y ∷ a) e = cc
same_are (x ∷ b) [] e = cc
same_are (true ∷ b) (true ∷ a) e = ap (λ a. true ∷ a) (same_are b a e)
same_are (false ∷ b) (false ∷ a) e = ap (λ a. false ∷ a) (same_are b a e)
same_are (true ∷ b) (false ∷ a) e = cc
same_are (false ∷ b) (true ∷ a) e = cc

-- a numeral that is the same as 0 is 0
zero_alone : {n : ℕ} → SameTypes (nat_lit n) (nat_lit 0) → n ≡ 0
unfolding natural_value
zero_alone {n} (same_naturals a b h) =
    let e : ended n ≡ ended 0 = one_value (nat_lit n) (nat_lit 0) (λ x. 0) (λ x. omega arith) a b h in
    omega (arith, e)

no_bits : (b : List Bool) → length b ≡ 0 → [] ≡ b
no_bits [] e = refl
no_bits (x ∷ b) e = cc

-- what a pattern of a literal is for, where this literal is looked at
pattern_scalar : {datas : List Data} {r s : Scalar} {w : TypeTree} {a : List Bool} {fs : List TypeTree} → PatternOf datas (scalar r w) (OfLit s a) fs → s ≡ r
pattern_scalar (of_lit i e) = refl

pattern_empty : {datas : List Data} {r s : Scalar} {fs : List TypeTree} (b : List Bool) → PatternOf datas (literal_type r b) (OfLit s []) fs → [] ≡ b
pattern_empty b (of_lit i e) = no_bits b (zero_alone e)

lit_agrees : {datas : List Data} {fs : List TypeTree} (r : Scalar) (b : List Bool) (q : Pattern) → PatternOf datas (literal_type r b) q fs → Agrees (bits b) (OfLit r b) q
lit_agrees r b (OfCon c n) of = (λ h. absurd h, λ h. refl)
lit_agrees r b (OfLit s a) of = (λ same. ap (same_bits b) same.1 ∙ bits_itself b, λ miss. split (same_bits b a) refl miss)
  where
    split : (t : Bool) → same_bits b a ≡ t → ((s ≡ r) × (a ≡ b) → ⊥) → same_bits b a ≡ false
    split true same miss = absurd (miss (pattern_scalar of, same_are b a same))
    split false same miss = same
lit_agrees r b Default of = (λ h. refl, λ miss. absurd (miss tt))

lit_all_agree : {s : Setting} {kinds : List Kind} {vars : List TypeTree} {u t : TypeTree} {alts : Alts} (r : Scalar) (b : List Bool) → u ≡ literal_type r b → AllGive s kinds vars u t alts → AllAgree (bits b) (OfLit r b) alts
lit_all_agree r b is none_give = tt
lit_all_agree {s} r b is (give_and {q = q} bs d x rest) = (lit_agrees r b q (subst (λ u. PatternOf s.datas u q bs.fields) is bs.pattern), lit_all_agree r b is rest)

-- the taken alternative binds nothing
lit_binds : {datas : List Data} {u : TypeTree} {q : Pattern} {fs : List TypeTree} (r : Scalar) (b : List Bool) → PatternOf datas u q fs → Hides q (OfLit r b) → (bnd : List TypeTree) → AreSame fs bnd → bnd ≡ []
lit_binds r b (of_con it e o n) hit bnd same = absurd hit
lit_binds r b (of_lit i e) hit [] same = refl
lit_binds r b (of_lit i e) hit (t ∷ bnd) same = absurd same
lit_binds r b of_any hit [] same = refl
lit_binds r b of_any hit (t ∷ bnd) same = absurd same

-- nor does the value
bound_none : (r : Scalar) (b : List Bool) (q : Pattern) → bound (bits b) q ≡ none
bound_none r b (OfCon c n) = refl
bound_none r b (OfLit s a) = refl
bound_none r b Default = refl

of_con_no_lit : {datas : List Data} {r : Scalar} {w : TypeTree} {c : ConId} {n : ℕ} {fs : List TypeTree} → PatternOf datas (scalar r w) (OfCon c n) fs → ⊥
of_con_no_lit of = elim of [ ]

module _ (p : Program) (o : ℕ → TermTree) (γ : Thunks) (δ : TypeTrees) (r : Scalar) (b : List Bool) where
  -- what the body of an alternative has, the case has
  abbrev Reaches : Alts → TermTree → Type 0
  Reaches alts e = (h : History) (v : Value) → term_has p (with_origins o e) γ δ h v → term_has p (case_of (lit r b) (with_origins_alts o alts)) γ δ h v

  by_looking : {alts : Alts} {a : Branch} → IsTakenBy (OfLit r b) alts a → AllAgree (bits b) (OfLit r b) alts → choice p.datas (with_origins_alts o alts) ≡ looks → Reaches alts a.body
  by_looking {a = a} taken agree picked h v d =
      (_, e_looks picked e_lit (taken_arm o (bits b) agree taken) (subst (λ env. Evals p d.0 (with_origins o a.body) (joined env γ) δ h v) (sym (bound_none r b a.pattern)) d.1))

  reaches : {types : List TypeTree} {kinds : List Kind} {vars : List TypeTree} {t : TypeTree} {alts : Alts} {a : Branch} → IsTakenBy (OfLit r b) alts a → AllGive (setting_with p types) kinds vars (literal_type r b) t alts → Reaches alts a.body
  unfolding with_origins
  reaches {alts = no_alts} taken all = elim taken [ ]
  reaches {alts = alt (OfCon d m) f more} taken (give_and bs df x rest) = absurd (of_con_no_lit bs.pattern)
  reaches {alts = alt (OfLit s []) f more} (by_first hit) all = λ h v e. (_, e_goes_on refl e.1)
  reaches {alts = alt (OfLit s []) f more} (by_later miss taken) (give_and bs df x rest) = absurd (miss (pattern_scalar bs.pattern, pattern_empty b bs.pattern))
  reaches {alts = alt (OfLit s (x ∷ a)) f more} taken all = by_looking taken (lit_all_agree r b refl all) refl
  reaches {alts = alt Default f no_alts} (by_first hit) all = λ h v e. (_, e_goes_on refl e.1)
  reaches {alts = alt Default f no_alts} (by_later miss taken) all = absurd (miss tt)
  reaches {alts = alt Default f (alt q e more)} taken all = by_looking taken (lit_all_agree r b refl all) refl

lit_typed : {s : Setting} {kinds : List Kind} {vars : List TypeTree} {u : TypeTree} (r : Scalar) (b : List Bool) → HasType s kinds vars (lit r b) u → u ≡ literal_type r b
lit_typed r b (h_lit i) = refl

module _ (p : Program) (sound : IsSound (setting_of p)) (typed : IsTyped p) (types : List TypeTree) (o : ℕ → TermTree) (are_closed : AreClosed (setting_of p) types) (have : OriginsTyped p types o) where
  -- a body without names, and what has what it has
  plain_acts : {kinds : List Kind} {vars : List TypeTree} {t u : TypeTree} {e second : TermTree} → AreTermTypes (setting_with p types) kinds vars → HasType (setting_with p types) kinds vars e u → HasType (setting_with p types) kinds vars second t → SameTypes t u → (n : ℕ) (δ : TypeTrees) (γ' γ : Thunks) → Kinded p kinds δ → TiedBy p (acts_from p n) vars (λ x. x) (λ x. x) δ γ' γ → ((h : History) (v : Value) → term_has p (with_origins o e) γ δ h v → term_has p (with_origins o second) γ δ h v) → TermsAct p (acts_from p n) (closed_type t δ) (with_origins o e) γ' δ (with_origins o second) γ δ
  plain_acts {u = u} {e = e} {second = second} g d ds same n δ γ' γ known names reach =
      let r = acts_from p n in
      let full = sound_with p types sound are_closed in
      let alike = closed_same p sound δ known (type_kinded d full g).has (type_kinded ds full g).has (same_turned same) in
      same_acts sound (from_turns p n) alike (term_runs p (with_origins o e) γ' δ) (term_has p (with_origins o second) γ δ)
      (runs_more (from_turns p n) (closed_type u δ) (term_runs p (with_origins o e) γ' δ) (term_has p (with_origins o e) γ δ) (term_has p (with_origins o second) γ δ) reach
      (same_term_acts p sound typed types o are_closed have g d r (from_turns p n) δ γ' γ known names))

  pub case_lit : {kinds : List Kind} {vars : List TypeTree} {t : TypeTree} {alts : Alts} {a : Branch} (r : Scalar) (b : List Bool) → IsTakenBy (OfLit r b) alts a → AreTermTypes (setting_with p types) kinds vars → HasType (setting_with p types) kinds vars (case_of (lit r b) alts) t → ActsUnder p kinds vars (with_origins o a.body) (with_origins o (case_of (lit r b) alts)) t
  unfolding with_origins
  case_lit {kinds} {vars} {t} {alts} {a} r b taken g d n δ γ' γ known names =
      let case = case_typed d in
      let all = subst (λ u. AllGive (setting_with p types) kinds vars u t alts) (lit_typed r b case.has) case.each in
      let own = taken_typed taken all in
      let none_bound = lit_binds r b own.binds.pattern (taken_hides taken) own.bnd own.binds.same in
      plain_acts g (subst (λ bnd. HasType (setting_with p types) kinds (with_more bnd vars) a.body own.type) none_bound own.has) d own.same n δ γ' γ known names (reaches p o γ δ r b taken all)

  pub case_default : {kinds : List Kind} {vars : List TypeTree} {t : TypeTree} {e f : TermTree} → AreTermTypes (setting_with p types) kinds vars → HasType (setting_with p types) kinds vars (case_of e (alt Default f no_alts)) t → ActsUnder p kinds vars (with_origins o f) (with_origins o (case_of e (alt Default f no_alts))) t
  unfolding with_origins
  case_default {kinds} {vars} {t} {e} {f} g d n δ γ' γ known names =
      let case = case_typed d in
      let taken : IsTakenBy Default (alt Default f no_alts) (record { pattern = Default; body = f }) = by_first tt in
      let own = taken_typed taken case.each in
      plain_acts g (subst (λ bnd. HasType (setting_with p types) kinds (with_more bnd vars) f own.type) (any_binds own.binds) own.has) d own.same n δ γ' γ known names (λ h v q. (_, e_goes_on refl q.1))
