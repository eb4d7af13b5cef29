-- A case of a port, and its projections.
use Rattle.std.specs.Prelude.{slice_get, ◌==◌}
use Rattle.std.specs.List.{range_with_len}
use Rattle.std.proofs.Common.{◌≡◌, ◌+◌, ◌-◌, ◌<◌, inl, inr, ℕ, suc, zero, true, List, [], length, map, reverse, Some, refl, sym, ap, ◌∙◌, subst, arith}
use Rattle.std.proofs.lemmas.List.{append-nil, length-map}
use Rattle.std.proofs.lemmas.List.FromFn.{length-map-range_with_len}
use Rattle.chw_base.specs.declared.index.ConId.{ConId}
use Rattle.chw_types.specs.declared.declarations.Data.{Data}
use Rattle.chw_types.specs.declared.kind.Kind.{Kind}
use Rattle.chw_types.specs.Arguments.{arguments}
use Rattle.type_ports.specs.Ports.{IsPort, Leaves, leaves_of_fields}
use Rattle.type_ports.specs.declared.ports.Leaf.{Leaf}
use Rattle.chw_types.specs.TypeTree.{TypeTree, data_of, TypeTrees}
use Rattle.chw_types.specs.TypeMoves.{raised, sub}
use Rattle.chw_types.proofs.SameLaws.{same_turned}
use Rattle.chw_terms.specs.Constructors.{con_at}
use Rattle.chw_terms.specs.declared.program.Program.{Program}
use Rattle.chw_terms.specs.declared.term.Pattern.TheVariants.{OfCon}
use Rattle.chw_terms.specs.TermMoves.{rename}
use Rattle.chw_terms.specs.TermTree.{TermTree, var, Group, size_of, case_of, Alts, no_alts, alt}
use Rattle.chw_terms.specs.Unrolled.{named}
use Rattle.chw_typing.specs.HeadTypes.{PatternOf, of_con}
use Rattle.chw_typing.specs.Scopes.{AreTermTypes, with_more}
use Rattle.chw_typing.specs.Programs.{AreClosed, IsSound, IsTyped, setting_of}
use Rattle.chw_typing.specs.Typing.{HasType}
use Rattle.chw_typing.proofs.Heads.{is_constructor}
use Rattle.chw_typing.proofs.Kinded.{typed_more, type_kinded}
use Rattle.chw_typing.proofs.Lists.{found_in_map}
use Rattle.chw_typing.proofs.Patterns.{binds}
use Rattle.rewriting.specs.Shapes.{by_first, or_body, projections}
use Rattle.chw_meaning.specs.Values.{Thunk, closed, member, field, Thunks, none, thunk_at, closed_type, in_group, fields_from}
use Rattle.chw_meaning.specs.Eval.{choice, takes, is_only, by_fields, Evals, e_goes_on, e_takes, e_looks}
use Rattle.chw_meaning.proofs.Once.{same_some}
use Rattle.acts.specs.Levels.{Levels, Second, RunsAct, term_runs, term_has, thunk_has, ThunksAct}
use Rattle.acts.specs.Acts.{AllAct, acts_from}
use Rattle.acts.specs.Terms.{LooksAlike, ActsUnder, OriginsTyped, setting_with}
use Rattle.rewriting.specs.Origins.{with_origins, with_origins_group}
use Rattle.acts.proofs.Closing.{closed_same}
use Rattle.acts.proofs.Forms.{thunk_acts}
use Rattle.acts.proofs.Globals.{sound_with}
use Rattle.acts.proofs.Levels.{IsLevels, from_turns, cost, runs_more}
use Rattle.acts.proofs.SameActs.{Same, same_acts}
use Rattle.acts.proofs.Tied.{part_acts}
use Rattle.acts.proofs.Typed.{only_fields, typed_without}
use Rattle.act_rules.proofs.Lets.{size_with_origins, tied_past}
use Rattle.act_rules.proofs.RuleMoves.{moved_acts, same_term_acts}
use Rattle.act_rules.proofs.Known.{CaseTyped, case_typed}
use Rattle.act_rules.proofs.CaseMoves.{var_runs}
use Rattle.act_rules.proofs.CaseNamed.{member_runs, or_body_runs, size_named, body_named}
use Rattle.act_rules.proofs.CasePlaces.{NewOrOuter, new_or_outer, name_at, member_at, outside_at, field_at, field_past}
use Rattle.act_rules.proofs.Taken.{TakenTyped, taken_typed}

-- the constructor of a port is the only one of its data type
port_only : {datas : List Data} {t : TypeTree} {c : ConId} {n : ℕ} {fields : List TypeTree} → IsPort datas t → PatternOf datas t (OfCon c n) fields → is_only (con_at datas c.number) ≡ true
port_only {datas} port (of_con {d = d} {c = c} it e o m) = ap is_only e ∙ one port.1
  where
    one : {ts : TypeTrees} {ls : List Leaf} → Leaves datas (data_of d ts) ls → (length it.it.cons == 1) ≡ true
    one (leaves_of_fields {it = other} held params cons fields rest) =
        let mine = is_constructor datas c.number it e in
        let same : it.it ≡ other = same_some mine.data_type (ap (λ i. slice_get datas i) o ∙ held) in
        ap (λ (x : Data). length x.cons == 1) same ∙ ap (λ ks. length ks == 1) cons

each_at : {A : Type 0} (f : ℕ → A) (a n j : ℕ) → j < n → slice_get (map f (range_with_len a n)) j ≡ Some (f (a + j))
each_at f a zero j less = absurd (let e : suc j ≡ zero = omega (arith, less) in cc)
each_at f a (suc n) zero less = ap (λ k. Some (f k)) (let e : a ≡ a + 0 = omega arith in e)
each_at f a (suc n) (suc j) less = each_at f (a + 1) n j (omega (arith, less)) ∙ ap (λ k. Some (f k)) (let e : a + 1 + j ≡ a + suc j = omega arith in e)

pattern_length : {datas : List Data} {t : TypeTree} {c : ConId} {n : ℕ} {fields : List TypeTree} → PatternOf datas t (OfCon c n) fields → length fields ≡ n
pattern_length (of_con {ts = ts} it e o m) = length-map it.decl.fields (λ f. sub f (arguments ts)) ∙ m

-- a case that takes fields runs as its alternative
takes_runs : {p : Program} {r : Levels} → IsLevels p r → (t : TypeTree) (s e : TermTree) (alts : Alts) (k : ℕ) (γ : Thunks) (δ : TypeTrees) (second : Second) → choice p.datas alts ≡ takes k e → RunsAct r t (term_runs p e (fields_from zero k (closed s γ δ) γ) δ) second → RunsAct r t (term_runs p (case_of s alts) γ δ) second
takes_runs {p} l t s e alts k γ δ second is acts h' h m v al (e_takes {n = j} {k = i} {e = f} picked d) =
    let same : f ≡ e = cc in
    let number : i ≡ k = cc in
    cost l j t v (second h) (acts h' h j v al (subst (λ i. Evals p j e (fields_from zero i (closed s γ δ) γ) δ h' v) number (subst (λ f. Evals p j f (fields_from zero i (closed s γ δ) γ) δ h' v) same d)))
takes_runs l t s e alts k γ δ second is acts h' h m v al (e_goes_on picked d) = cc
takes_runs l t s e alts k γ δ second is acts h' h m v al (e_looks picked d found b) = cc

module _ (p : Program) (sound : IsSound (setting_of p)) (typed : IsTyped p) (types : List TypeTree) (o : ℕ → TermTree) (are_closed : AreClosed (setting_of p) types) (have : OriginsTyped p types o) where
  pub projected : {kinds : List Kind} {vars : List TypeTree} {v : TypeTree} (t : TypeTree) (fields : List TypeTree) (x n : ℕ) (c : ConId) (e : TermTree) (more : Alts) → IsPort p.datas t → PatternOf p.datas t (OfCon c n) fields → AreTermTypes (setting_with p types) kinds vars → HasType (setting_with p types) kinds vars (case_of (var x) (alt (OfCon c n) e more)) v → ActsUnder p kinds vars (with_origins o (or_body (named fields (projections c n x)) e)) (with_origins o (case_of (var x) (alt (OfCon c n) e more))) v
  unfolding with_origins rename
  projected {kinds} {vars} {v} t fields x n c e more port pattern g d m δ γ' γ known names =
      same_acts sound l alike (term_runs p (with_origins o (or_body group e)) γ' δ) (term_has p whole γ δ)
      (or_body_runs l o (closed_type own.type δ) group e γ' δ (term_has p whole γ δ)
      (runs_more l (closed_type own.type δ) (term_runs p (with_origins o e) first δ) (term_has p (with_origins o e) second δ) (term_has p whole γ δ) (λ h w q. (_, e_takes (ap (λ b. by_fields b n (with_origins o e)) only) q.1))
      (same_term_acts p sound typed types o are_closed have scope own.has r l δ first second known (λ z u i. look z u (new_or_outer own.bnd vars z u i)))))
    where
      r : Levels
      r = acts_from p m

      l : IsLevels p (acts_from p m)
      l = from_turns p m

      only : is_only (con_at p.datas c.number) ≡ true
      only = port_only port pattern

      whole : TermTree
      whole = with_origins o (case_of (var x) (alt (OfCon c n) e more))

      case : CaseTyped (setting_with p types) kinds vars (var x) (alt (OfCon c n) e more) v
      case = case_typed d

      own : TakenTyped (setting_with p types) kinds vars case.type v (OfCon c n) e
      own = taken_typed {p = OfCon c n} {b = record { pattern = OfCon c n; body = e }} (by_first refl) case.each

      full : IsSound (setting_with p types)
      full = sound_with p types sound are_closed

      scope : AreTermTypes (setting_with p types) kinds (with_more own.bnd vars)
      scope = typed_more (setting_with p types) kinds own.bnd vars own.binds.typed g

      alike : Same p (closed_type own.type δ) (closed_type v δ)
      alike = closed_same p sound δ known (type_kinded own.has full scope).has (type_kinded d full g).has (same_turned own.same)

      parts : List TermTree
      parts = projections c n x

      group : Group
      group = named fields parts

      members : Group
      members = with_origins_group o group

      count : length parts ≡ n
      count = length-map-range_with_len (λ i. case_of (var (x + n)) (alt (OfCon c n) (var (n - 1 - i)) no_alts)) 0 n

      named_all : length fields ≡ length parts
      named_all = pattern_length pattern ∙ sym count

      size : size_of members ≡ n
      size = size_with_origins o group ∙ size_named fields parts named_all ∙ count

      names_bound : length own.bnd ≡ n
      names_bound = binds own.binds

      first : Thunks
      first = in_group members γ' δ

      there : Thunk
      there = closed (var x) γ δ

      second : Thunks
      second = fields_from zero n there γ

      -- the port, inside of the letrec
      inside : Thunk
      inside = closed (var (x + n)) first δ

      ports_act : ThunksAct p r (closed_type case.type δ) inside there
      ports_act =
          thunk_acts l (closed_type case.type δ) (var (x + n)) (var x) first γ δ δ
          (moved_acts p sound typed types o are_closed have (raised 0 n) g case.has r l δ first γ known (tied_past vars members n δ δ γ' γ size names))

      fields_act : AllAct p r (map (λ t. closed_type t δ) (reverse own.bnd)) (fields_from zero n inside none) (fields_from zero n there none)
      fields_act =
          only_fields l sound kinds δ known own.binds.pattern case.kind case.has_kind own.bnd own.binds.same (typed_without p types kinds own.bnd own.binds.typed) inside there ports_act c.number n refl only

      field_acts_at : (z j : ℕ) (u : TypeTree) → z + suc j ≡ length own.bnd → slice_get own.bnd j ≡ Some u → ThunksAct p r (closed_type u δ) (field z inside) (field z there)
      field_acts_at z j u place found =
          let at = subst (λ us. slice_get us z ≡ Some u) (append-nil (reverse own.bnd)) (name_at own.bnd [] z j u place found) in
          let part = part_acts (map (λ t. closed_type t δ) (reverse own.bnd)) (fields_from zero n inside none) (fields_from zero n there none) z (closed_type u δ) (field z inside) fields_act (found_in_map (λ t. closed_type t δ) (reverse own.bnd) z u at) (field_at n inside none z j (place ∙ names_bound)) in
          let same : part.0 ≡ field z there = same_some part.1 (field_at n there none z j (place ∙ names_bound)) in
          subst (λ th. ThunksAct p r (closed_type u δ) (field z inside) th) same part.2

      look : (z : ℕ) (u : TypeTree) → NewOrOuter own.bnd vars z u → LooksAlike p r (closed_type u δ) z z first second
      look z u (inl (j, place, found)) =
          let projection = case_of (var (x + n)) (alt (OfCon c n) (var z) no_alts) in
          let is : slice_get parts j ≡ Some projection =
          each_at (λ i. case_of (var (x + n)) (alt (OfCon c n) (var (n - 1 - i)) no_alts)) 0 n j (omega (arith, place, names_bound))
          ∙ ap (λ k. Some (case_of (var (x + n)) (alt (OfCon c n) (var k) no_alts))) (let e : n - 1 - (0 + j) ≡ z = omega (arith, place, names_bound) in e) in
          record {
            first = member members j γ' δ;
            second = field z there;
            has_first = member_at members γ' δ z j (place ∙ names_bound ∙ sym size);
            has_second = field_at n there γ z j (place ∙ names_bound);
            acts = member_runs l (closed_type u δ) members j projection γ' δ (thunk_has p (field z there)) (body_named o fields parts j projection named_all is)
                (takes_runs l (closed_type u δ) (var (x + n)) (var z) (alt (OfCon c n) (var z) no_alts) n first δ (thunk_has p (field z there)) (ap (λ b. by_fields b n (var z)) only)
                (var_runs l (closed_type u δ) z (field z inside) (fields_from zero n inside first) δ (thunk_has p (field z there)) (field_at n inside first z j (place ∙ names_bound)) (field_acts_at z j u place found)));
          }
      look z u (inr (y, place, found)) =
          let k = names y u found in
          record {
            first = k.first;
            second = k.second;
            has_first = ap (thunk_at first) (place ∙ ap (λ m. y + m) (names_bound ∙ sym size)) ∙ outside_at members γ' δ y ∙ k.has_first;
            has_second = ap (thunk_at second) (place ∙ ap (λ m. y + m) names_bound) ∙ field_past zero n there γ y ∙ k.has_second;
            acts = k.acts;
          }
