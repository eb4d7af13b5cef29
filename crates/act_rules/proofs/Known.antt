-- A case of a constructor with all its arguments.
use Rattle.std.specs.Prelude.{slice_get}
use Rattle.std.proofs.Common.{◌≡◌, ◌+◌, ◌⊎◌, inl, inr, ℕ, zero, Bool, true, false, List, [], ◌∷◌, length, map, Some, refl, sym, ap, ◌∙◌, subst}
use Rattle.std.proofs.lemmas.Bool.{eqb-true}
use Rattle.std.proofs.lemmas.List.{length-map}
use Rattle.chw_base.specs.declared.index.ConId.{ConId}
use Rattle.chw_types.specs.declared.declarations.Data.{Data}
use Rattle.chw_types.specs.declared.kind.Kind.{Kind}
use Rattle.chw_types.specs.declared.kind.Scalar.{Scalar}
use Rattle.chw_types.specs.TypeTree.{TypeTree, data_of, TypeTrees}
use Rattle.chw_types.specs.TypeView.{trees_of}
use Rattle.chw_types.specs.SameTypes.{SameTypes}
use Rattle.chw_types.proofs.SameLaws.{same_turned, same_self}
use Rattle.chw_terms.specs.Constructors.{Constructor, con_at}
use Rattle.chw_terms.specs.declared.program.Program.{Program}
use Rattle.chw_terms.specs.declared.term.Pattern.{Pattern}
use Rattle.chw_terms.specs.declared.term.Pattern.TheVariants.{OfCon, OfLit, Default}
use Rattle.chw_terms.specs.TermTree.{TermTree, con, case_of, Alts, no_alts, alt}
use Rattle.chw_terms.specs.TermView.{applied}
use Rattle.type_laws.proofs.SameForms.{as_data}
use Rattle.chw_typing.specs.HeadTypes.{PatternOf, of_con, of_lit, of_any, fields_at}
use Rattle.chw_typing.specs.Scopes.{Setting, HasKind, AreTermTypes, AreSame, with_more}
use Rattle.chw_typing.specs.Programs.{AreClosed, IsSound, IsTyped, setting_of}
use Rattle.chw_typing.specs.Typing.{HasType, h_case, Binds, AllGive, give_and}
use Rattle.chw_typing.proofs.Heads.{is_constructor}
use Rattle.chw_typing.proofs.Kinded.{typed_more, type_kinded}
use Rattle.chw_typing.proofs.Lists.{found_in_map}
use Rattle.chw_typing.proofs.Patterns.{pattern_same, one_pattern}
use Rattle.chw_typing.proofs.SameScopes.{are_same_turned, are_same_through}
use Rattle.chw_typing.specs.Paths.{Branch}
use Rattle.chw_typing.specs.Given.{types_then, AreGiven}
use Rattle.chw_typing.proofs.Saturated.{con_at_arguments}
use Rattle.rewriting.specs.Shapes.{IsTakenBy, by_first, by_later, with_fields}
use Rattle.chw_meaning.specs.Values.{History, Value, con_of, Thunk, closed, field, Thunks, none, thunk_at, closed_type, joined, fields_from}
use Rattle.chw_meaning.specs.Eval.{choice, looks, is_only, by_fields, bound, e_goes_on, e_takes, e_looks, f_closed, f_field}
use Rattle.chw_meaning.proofs.Once.{same_some}
use Rattle.acts.specs.Levels.{Levels, term_runs, term_has}
use Rattle.acts.specs.Acts.{acts_from}
use Rattle.acts.specs.Terms.{ActsUnder, OriginsTyped, setting_with}
use Rattle.rewriting.specs.Origins.{with_origins, with_origins_alts}
use Rattle.acts.proofs.Closing.{closed_same}
use Rattle.acts.proofs.Forms.{TermsAct}
use Rattle.acts.proofs.Globals.{sound_with}
use Rattle.acts.proofs.Levels.{from_turns, runs_more}
use Rattle.acts.proofs.SameActs.{same_acts}
use Rattle.act_rules.proofs.RuleMoves.{same_term_acts}
use Rattle.act_rules.proofs.Constructed.{constructed, only_number}
use Rattle.act_rules.proofs.CaseNamed.{StandFor, let_of_terms}
use Rattle.act_rules.proofs.CasePlaces.{onto, onto_at, onto_past, onto_joined, field_at, field_past}
use Rattle.act_rules.proofs.Taken.{taken_typed, taken_hides, taken_arm, con_all_agree}

-- a typed case, its first alternative like the others
pub record CaseTyped (s : Setting) (kinds : List Kind) (vars : List TypeTree) (e : TermTree) (alts : Alts) (t : TypeTree) : Type 0 where
  pub type : TypeTree
  pub has : HasType s kinds vars e type
  pub kind : Kind
  pub has_kind : HasKind s kinds type kind
  pub each : AllGive s kinds vars type t alts

pub case_typed : {s : Setting} {kinds : List Kind} {vars : List TypeTree} {e : TermTree} {alts : Alts} {t : TypeTree} → HasType s kinds vars (case_of e alts) t → CaseTyped s kinds vars e alts t
case_typed (h_case {u = u} {t = t} {j = j} d looked ku bs da hk fs rest hidden) = record { type = u; has = d; kind = j; has_kind = ku; each = give_and bs da (same_self t) rest }

-- a pattern of a literal is for no data type
lit_of_data : {datas : List Data} {u : TypeTree} {r : Scalar} {bits : List Bool} {fs : List TypeTree} {d : ℕ} {ts : TypeTrees} → PatternOf datas u (OfLit r bits) fs → SameTypes (data_of d ts) u → ⊥
lit_of_data (of_lit i e) x = let at = (as_data x).1 in cc

-- a pattern of a data type's only constructor is for each constructor of the data type
only_pattern : {datas : List Data} {u : TypeTree} {d : ConId} {m : ℕ} {fs : List TypeTree} {ts : TypeTrees} (c : ℕ) (it : Constructor) → con_at datas c ≡ Some it → PatternOf datas u (OfCon d m) fs → SameTypes (data_of it.of ts) u → is_only (con_at datas d.number) ≡ true → d.number ≡ c
only_pattern {datas} c it held (of_con {d = n} {c = d} other e o size) x only =
    let at = (as_data x).1 in
    let same : n ≡ it.of = cc in
    let one : length other.it.cons ≡ 1 = eqb-true (length other.it.cons) 1 (ap is_only (sym e) ∙ only) in
    let mine = is_constructor datas c it held in
    let theirs = is_constructor datas d.number other e in
    let its : other.it ≡ it.it = same_some theirs.data_type (ap (λ i. slice_get datas i) (o ∙ same) ∙ mine.data_type) in
    sym (only_number datas c d.number it other held e (sym same ∙ sym o) (ap (λ (x : Data). length x.cons) (sym its) ∙ one) one)

no_names : {datas : List Data} {u : TypeTree} {fs : List TypeTree} → PatternOf datas u Default fs → (bnd : List TypeTree) → AreSame fs bnd → bnd ≡ []
no_names of_any [] same = refl
no_names of_any (b ∷ bnd) same = absurd same

-- a default binds nothing
pub any_binds : {s : Setting} {kinds : List Kind} {u : TypeTree} {bnd : List TypeTree} → Binds s kinds u Default bnd → bnd ≡ []
any_binds {bnd = bnd} bs = no_names bs.pattern bnd bs.same

name_count : {datas : List Data} {u : TypeTree} {d : ConId} {m : ℕ} {fs : List TypeTree} (it : Constructor) → PatternOf datas u (OfCon d m) fs → con_at datas d.number ≡ Some it → length it.decl.fields ≡ m
name_count it (of_con other e o n) own = ap (λ (i : Constructor). length i.decl.fields) (same_some own e) ∙ n

-- what the pattern of a constructor binds, against the fields at these arguments
con_binds : {s : Setting} {kinds : List Kind} {u : TypeTree} {d : ConId} {m : ℕ} {bnd : List TypeTree} {ts : TypeTrees} {j : Kind} (c : ℕ) (it : Constructor) → IsSound s → con_at s.datas c ≡ Some it → Binds s kinds u (OfCon d m) bnd → d.number ≡ c → HasKind s kinds u j → SameTypes (data_of it.of ts) u → AreSame (fields_at it ts) bnd × (length it.decl.fields ≡ m)
con_binds {s} {kinds} {u} {d} {m} {bnd} {ts} {j} c it sound held bs number ku x =
    let own = ap (con_at s.datas) number ∙ held in
    let size = name_count it bs.pattern own in
    let there = pattern_same bs.pattern sound kinds j (data_of it.of ts) ku (same_turned x) in
    let here : PatternOf s.datas (data_of it.of ts) (OfCon d m) (fields_at it ts) = of_con it own refl size in
    let is : there.types ≡ fields_at it ts = one_pattern there.of here refl refl in
    (are_same_through (fields_at it ts) bs.fields bnd (are_same_turned bs.fields (fields_at it ts) (subst (AreSame bs.fields) is there.same)) bs.same, size)

module _ (p : Program) (sound : IsSound (setting_of p)) (typed : IsTyped p) (types : List TypeTree) (o : ℕ → TermTree) (are_closed : AreClosed (setting_of p) types) (have : OriginsTyped p types o) where
  module _ (c : ℕ) (it : Constructor) (held : con_at p.datas c ≡ Some it) (params : List TypeTree) (es : List TermTree) (on_types : length params ≡ length it.it.params) (on_terms : length es ≡ length it.decl.fields) (γ : Thunks) (δ : TypeTrees) where
    abbrev built : TermTree
    built = applied (con c) (types_then params es)

    abbrev thunks : List Thunk
    thunks = map (λ e. closed (with_origins o e) γ δ) es

    abbrev value : Value
    value = con_of c (onto thunks none)

    -- what a body has in an environment, the case has
    abbrev Reaches : Alts → TermTree → Thunks → Type 0
    Reaches alts e inner = (h : History) (v : Value) → term_has p (with_origins o e) inner δ h v → term_has p (case_of (with_origins o built) (with_origins_alts o alts)) γ δ h v

    -- the arm of the value, or the fields of the scrutinee's thunk
    abbrev Arrives : Alts → Branch → Type 0
    Arrives alts b =
        Reaches alts b.body (joined (bound value b.pattern) γ) ⊎ ((d : ConId) × (m : ℕ) × (b.pattern ≡ OfCon d m) × Reaches alts b.body (fields_from zero m (closed (with_origins o built) γ δ) γ))

    by_looking : {alts : Alts} {b : Branch} → IsTakenBy (OfCon (record { number = c }) (length es)) alts b → choice p.datas (with_origins_alts o alts) ≡ looks → Reaches alts b.body (joined (bound value b.pattern) γ)
    by_looking {alts} taken picked h v d =
        (_, e_looks picked (constructed p c it held o γ δ h params es on_types on_terms).1 (taken_arm o value (con_all_agree c (length es) (onto thunks none) alts) taken) d.1)

    arrives : {kinds : List Kind} {vars : List TypeTree} {u t : TypeTree} {ts : TypeTrees} {alts : Alts} {b : Branch} → IsTakenBy (OfCon (record { number = c }) (length es)) alts b → AllGive (setting_with p types) kinds vars u t alts → SameTypes (data_of it.of ts) u → Arrives alts b
    unfolding with_origins
    arrives {alts = no_alts} taken all same = elim taken [ ]
    arrives {alts = alt (OfCon d m) f more} {b = b} taken (give_and bs df x rest) same = split (is_only (con_at p.datas d.number)) refl
      where
        first : is_only (con_at p.datas d.number) ≡ true → {b : Branch} → IsTakenBy (OfCon (record { number = c }) (length es)) (alt (OfCon d m) f more) b → Arrives (alt (OfCon d m) f more) b
        first only (by_first hit) = inr (d, m, refl, λ h v e. (_, e_takes (ap (λ b. by_fields b m (with_origins o f)) only) e.1))
        first only (by_later miss r) = absurd (miss (only_pattern c it held bs.pattern same only))

        split : (one : Bool) → is_only (con_at p.datas d.number) ≡ one → Arrives (alt (OfCon d m) f more) b
        split true only = first only taken
        split false several = inl (by_looking taken (ap (λ b. by_fields b m (with_origins o f)) several))
    arrives {alts = alt (OfLit s []) f more} taken (give_and bs df x rest) same = absurd (lit_of_data bs.pattern same)
    arrives {alts = alt (OfLit s (b ∷ bits)) f more} taken all same = inl (by_looking taken refl)
    arrives {alts = alt Default f no_alts} (by_first hit) all same = inl (λ h v e. (_, e_goes_on refl e.1))
    arrives {alts = alt Default f no_alts} (by_later miss r) all same = absurd (miss tt)
    arrives {alts = alt Default f (alt q e more)} taken all same = inl (by_looking taken refl)

    -- the names of the arm stand for the terms, and so do the fields
    arm_stands : StandFor p sound typed types o are_closed have es γ δ (joined (onto thunks none) γ)
    arm_stands =
        record {
          names = λ x j e place is. (closed (with_origins o e) γ δ, ap (λ env. thunk_at env x) (onto_joined thunks none γ) ∙ onto_at thunks γ x j (place ∙ sym size) ∙ found_in_map (λ e. closed (with_origins o e) γ δ) es j e is, λ h v d. (d.0, f_closed d.1));
          outer = λ y. ap (λ env. thunk_at env (y + length es)) (onto_joined thunks none γ) ∙ ap (λ m. thunk_at (onto thunks γ) (y + m)) (sym size) ∙ onto_past thunks γ y;
        }
      where
        size : length thunks ≡ length es
        size = length-map es (λ e. closed (with_origins o e) γ δ)

    fields_stand : (m : ℕ) → m ≡ length es → StandFor p sound typed types o are_closed have es γ δ (fields_from zero m (closed (with_origins o built) γ δ) γ)
    fields_stand m count =
        record {
          names = λ x j e place is. (field x (closed (with_origins o built) γ δ), field_at m (closed (with_origins o built) γ δ) γ x j (place ∙ sym count), λ h v d. (_, f_field (f_closed (constructed p c it held o γ δ h params es on_types on_terms).1) (onto_at thunks none x j (place ∙ sym size) ∙ found_in_map (λ e. closed (with_origins o e) γ δ) es j e is) (f_closed d.1)));
          outer = λ y. ap (λ k. thunk_at (fields_from zero m (closed (with_origins o built) γ δ) γ) (y + k)) (sym count) ∙ field_past zero m (closed (with_origins o built) γ δ) γ y;
        }
      where
        size : length thunks ≡ length es
        size = length-map es (λ e. closed (with_origins o e) γ δ)

  pub case_con : {kinds : List Kind} {vars : List TypeTree} {t : TypeTree} (c : ℕ) (it : Constructor) (us params : List TypeTree) (es : List TermTree) {alts : Alts} (q : Pattern) (e : TermTree) → con_at p.datas c ≡ Some it → length params ≡ length it.it.params → length es ≡ length it.decl.fields → length us ≡ length es → IsTakenBy (OfCon (record { number = c }) (length es)) alts (record { pattern = q; body = e }) → AreTermTypes (setting_with p types) kinds vars → HasType (setting_with p types) kinds vars (case_of (applied (con c) (types_then params es)) alts) t → ActsUnder p kinds vars (with_origins o (with_fields q us es e)) (with_origins o (case_of (applied (con c) (types_then params es)) alts)) t
  unfolding with_origins
  case_con {kinds} {vars} {t} c it us params es {alts} q e held on_types on_terms on_names taken g d n δ γ' γ known names = by_pattern q taken
    where
      r : Levels
      r = acts_from p n

      full : IsSound (setting_with p types)
      full = sound_with p types sound are_closed

      case : CaseTyped (setting_with p types) kinds vars (applied (con c) (types_then params es)) alts t
      case = case_typed d

      saturated : AreGiven (setting_with p types) kinds vars (fields_at it (trees_of params)) es × SameTypes (data_of it.of (trees_of params)) case.type
      saturated = let q = con_at_arguments (setting_with p types) kinds vars c it params es case.type full g held on_types on_terms case.has in (q.1, q.2)

      second : TermTree
      second = with_origins o (case_of (applied (con c) (types_then params es)) alts)

      by_pattern : (q : Pattern) → IsTakenBy (OfCon (record { number = c }) (length es)) alts (record { pattern = q; body = e }) → TermsAct p r (closed_type t δ) (with_origins o (with_fields q us es e)) γ' δ second γ δ
      by_pattern (OfCon k m) taken =
          let own = taken_typed taken case.each in
          let bound_types = con_binds c it full held own.binds (taken_hides taken) case.has_kind saturated.1 in
          let bnd_typed = own.binds.typed in
          let let_acts = let_of_terms p sound typed types o are_closed have vars us (fields_at it (trees_of params)) own.bnd es g on_names saturated.0 bound_types.0 bnd_typed own.has n δ γ' γ known names in
          let scope = typed_more (setting_with p types) kinds own.bnd vars bnd_typed g in
          let alike = closed_same p sound δ known (type_kinded own.has full scope).has (type_kinded d full g).has (same_turned own.same) in
          same_acts sound (from_turns p n) alike (term_runs p (with_origins o (with_fields (OfCon k m) us es e)) γ' δ) (term_has p second γ δ)
          (arrive own.type let_acts (arrives c it held params es on_types on_terms γ δ taken case.each saturated.1) bound_types.1)
        where
          arrive : (u : TypeTree) → ((inner : Thunks) → StandFor p sound typed types o are_closed have es γ δ inner → TermsAct p r (closed_type u δ) (with_origins o (with_fields (OfCon k m) us es e)) γ' δ (with_origins o e) inner δ) → Arrives c it held params es on_types on_terms γ δ alts (record { pattern = OfCon k m; body = e }) → length it.decl.fields ≡ m → TermsAct p r (closed_type u δ) (with_origins o (with_fields (OfCon k m) us es e)) γ' δ second γ δ
          arrive u acts (inl reaches) size =
              let inner = joined (onto (map (λ e. closed (with_origins o e) γ δ) es) none) γ in
              runs_more (from_turns p n) (closed_type u δ) (term_runs p (with_origins o (with_fields (OfCon k m) us es e)) γ' δ) (term_has p (with_origins o e) inner δ) (term_has p second γ δ) reaches
              (acts inner (arm_stands c it held params es on_types on_terms γ δ))
          arrive u acts (inr (k2, m2, is, reaches)) size =
              let count : m2 ≡ length es = let e : m ≡ m2 = cc in sym e ∙ sym size ∙ sym on_terms in
              let inner = fields_from zero m2 (closed (with_origins o (applied (con c) (types_then params es))) γ δ) γ in
              runs_more (from_turns p n) (closed_type u δ) (term_runs p (with_origins o (with_fields (OfCon k m) us es e)) γ' δ) (term_has p (with_origins o e) inner δ) (term_has p second γ δ) reaches
              (acts inner (fields_stand c it held params es on_types on_terms γ δ m2 count))
      by_pattern (OfLit s bits) taken = absurd (taken_hides taken)
      by_pattern Default taken =
          let own = taken_typed taken case.each in
          let plain = subst (λ bnd. HasType (setting_with p types) kinds (with_more bnd vars) e own.type) (any_binds own.binds) own.has in
          let alike = closed_same p sound δ known (type_kinded plain full g).has (type_kinded d full g).has (same_turned own.same) in
          same_acts sound (from_turns p n) alike (term_runs p (with_origins o e) γ' δ) (term_has p second γ δ)
          (arrive own.type (same_term_acts p sound typed types o are_closed have g plain r (from_turns p n) δ γ' γ known names) (arrives c it held params es on_types on_terms γ δ taken case.each saturated.1))
        where
          arrive : (u : TypeTree) → TermsAct p r (closed_type u δ) (with_origins o e) γ' δ (with_origins o e) γ δ → Arrives c it held params es on_types on_terms γ δ alts (record { pattern = Default; body = e }) → TermsAct p r (closed_type u δ) (with_origins o e) γ' δ second γ δ
          arrive u acts (inl reaches) = runs_more (from_turns p n) (closed_type u δ) (term_runs p (with_origins o e) γ' δ) (term_has p (with_origins o e) γ δ) (term_has p second γ δ) reaches acts
          arrive u acts (inr (k2, m2, is, reaches)) = cc
