-- Where circuits are built, a case at rest is a projection of a port.
use Rattle.std.proofs.Common.{◌≡◌, ◌∙◌, ◌⊎◌, ◌<◌, ◌≤◌, inl, inr, refl, sym, ap, subst, ℕ, suc, zero, Bool, true, false, List, [], ◌∷◌, arith, Some}
use Rattle.std.specs.Prelude.{if◌then◌else◌, option_map, unwrap_or}
use Rattle.std.specs.List.{slice_get}
use Rattle.chw_base.specs.declared.index.ConId.{ConId}
use Rattle.chw_types.specs.declared.declarations.ConDecl.{ConDecl}
use Rattle.chw_types.specs.declared.declarations.Data.{Data}
use Rattle.chw_types.specs.declared.kind.Kind.{Kind}
use Rattle.chw_types.specs.declared.kind.Kind.TheVariants.{Nat, Dom, Val, Cir}
use Rattle.chw_types.specs.declared.kind.Scalar.{Scalar}
use Rattle.chw_types.specs.Kinds.{IsOfTerms, KindOf, kind_data, kind_scalar}
use Rattle.chw_types.specs.TypeMoves.{sub}
use Rattle.chw_types.specs.TypeTree.{TypeTree, TypeTrees, ty_var, scalar, data_of, signal}
use Rattle.type_laws.proofs.SameForms.{as_signal}
use Rattle.type_ports.specs.declared.ports.Leaf.{Leaf}
use Rattle.type_ports.specs.Ports.{Leaves, leaves_of_fields, IsPort}
use Rattle.chw_prims.specs.declared.prim.Primitive.TheVariants.{Pure}
use Rattle.layout_laws.specs.Numbering.{HasPlace, ConstructorsByPlace}
use Rattle.chw_terms.specs.Constructors.{Constructor, con_at, first_con}
use Rattle.chw_terms.specs.declared.rule.Rule.TheVariants.{Proj}
use Rattle.chw_terms.specs.declared.scene.Mode.TheVariants.{C, HC, K}
use Rattle.chw_terms.specs.declared.term.Pattern.{Pattern}
use Rattle.chw_terms.specs.declared.term.Pattern.TheVariants.{OfCon, OfLit, Default}
use Rattle.chw_terms.specs.TermTree.{TermTree, var, case_of, Alts, no_alts, alt}
use Rattle.chw_typing.specs.Alternatives.{NoneHidden}
use Rattle.chw_typing.specs.Given.{AsksForNone}
use Rattle.chw_typing.specs.HeadTypes.{IsLookedAt, PatternOf, of_con, of_lit, of_any}
use Rattle.chw_typing.specs.Programs.{IsSound}
use Rattle.chw_typing.specs.Scopes.{Setting, HasKind, AreTermTypes}
use Rattle.chw_typing.specs.Typing.{HasType, h_var, h_case, AllGive, give_and}
use Rattle.chw_typing.proofs.Heads.{is_constructor, functions_of_terms}
use Rattle.chw_typing.proofs.Saturated.{prim_at_arguments}
use Rattle.normal_forms.specs.Circuits.{IsCircuitSide, of_projection}
use Rattle.rewriting.specs.Cases.{proj}
use Rattle.rewriting.specs.Named.{IsNamed}
use Rattle.rewriting.specs.Operands.{of_case}
use Rattle.rewriting.specs.Origins.{Origins, setting_at}
use Rattle.rewriting.specs.SceneLaws.{NamedIsDecided, NamedIsTermKind, SameKeepsNamed}
use Rattle.rewriting.specs.Shapes.{pure_of}
use Rattle.rewriting.specs.Spots.{Spot, spot, is_val, is_of_values, scrutinee_mode}
use Rattle.rule_types.proofs.Applied.{fmap_parts, ap_parts}
use Rattle.rule_types.proofs.Scrutinees.{CaseTyped, case_typed}
use Rattle.rest_places.specs.Chains.{chain_on_one, chain_on_more}
use Rattle.rest_places.specs.CircuitHeads.{pure_value, IsLeftInHead}
use Rattle.rest_places.specs.Constants.{NoUnrolled, taken_letrec, taken_case, taken_constructor, taken_literal, taken_vector}
use Rattle.rest_places.specs.Laws.{LooksAtUnknown}
use Rattle.rest_places.specs.Rest.{IsRestPlace}
use Rattle.rest_places.proofs.CircuitHeads.{circuit_heads_go}
use Rattle.rest_places.proofs.Constants.{constants_are_known, known_unknown}
use Rattle.rest_places.proofs.Elements.{vector_type}
use Rattle.rest_places.proofs.Known.{case_on_known}
use Rattle.rest_places.proofs.Operands.{operands_are_variables}
use Rattle.rest_places.proofs.Parts.{scrutinee_at_rest}
use Rattle.rest_places.proofs.Steps.{no_core}
use Rattle.ended_laws.proofs.PrimSides.{one_name}

-- the data type of a pattern for a constructor
record OfData (datas : List Data) (c : ℕ) (u : TypeTree) : Type 0 where
  pub data_type : ℕ
  pub types : TypeTrees
  pub is : u ≡ data_of data_type types
  pub con : Constructor
  pub has : con_at datas c ≡ Some con
  pub of : con.of ≡ data_type

of_data : {datas : List Data} {u : TypeTree} {q : Pattern} {fields : List TypeTree} → PatternOf datas u q fields → (c : ConId) (n : ℕ) → q ≡ OfCon c n → OfData datas c.number u
of_data {datas} (of_con {d = d} {c = b} {ts = ts} it is of l) c n q =
    let same : b ≡ c = cc in
    record { data_type = d; types = ts; is = refl; con = it; has = subst (λ (c : ConId). con_at datas c.number ≡ Some it) same is; of = of }
of_data (of_lit l s) c n q = absurd cc
of_data of_any c n q = absurd cc

of_scalar : {datas : List Data} {u : TypeTree} {q : Pattern} {fields : List TypeTree} → PatternOf datas u q fields → (r : Scalar) (bits : List Bool) → q ≡ OfLit r bits → (x : Scalar) × (w : TypeTree) × (u ≡ scalar x w)
of_scalar (of_con it is of l) r bits q = absurd cc
of_scalar (of_lit {s = s} {w = w} l x) r bits q = (s, w, refl)
of_scalar of_any r bits q = absurd cc

-- a port is of no scalar type, and its data type has one constructor
pub no_scalar_port : {datas : List Data} {x : Scalar} {w : TypeTree} {ls : List Leaf} → Leaves datas (scalar x w) ls → ⊥
no_scalar_port l = elim l [ ]

port_data : {datas : List Data} {d : ℕ} {ts : TypeTrees} {ls : List Leaf} → Leaves datas (data_of d ts) ls → (it : Data) → slice_get datas d ≡ Some it → (c : ConDecl) × (it.cons ≡ c ∷ [])
port_data (leaves_of_fields {it = other} {c = c} is many one fields all) it h =
    let both : Some other ≡ Some it = sym is ∙ h in
    let same : other ≡ it = cc in
    (c, subst (λ (i : Data). i.cons ≡ c ∷ []) same one)

first_place : (c k : ConDecl) (i : ℕ) → slice_get (c ∷ []) i ≡ Some k → i ≡ 0
first_place c k zero h = refl
first_place c k (suc i) h = absurd cc

port_number : ConstructorsByPlace → (datas : List Data) (u : TypeTree) → IsPort datas u → (c : ℕ) (of : OfData datas c u) → c ≡ first_con datas of.data_type
port_number places datas u port c of =
    let place : HasPlace datas c of.con = (places datas c of.con).0 of.has in
    let there = subst (λ n. slice_get datas n ≡ Some of.con.it) of.of place.in_datas in
    let own = subst (IsPort datas) of.is port in
    let one = port_data own.1 of.con.it there in
    let first = first_place one.0 of.con.decl place.place (subst (λ cs. slice_get cs place.place ≡ Some of.con.decl) one.1 place.in_cons) in
    let number = place.number in
    let same = ap (first_con datas) of.of in
    omega (arith, number, first, same)

one_number : ConstructorsByPlace → (datas : List Data) (u : TypeTree) → IsPort datas u → (c d : ℕ) → OfData datas c u → OfData datas d u → c ≡ d
one_number places datas u port c d a b =
    let both : data_of a.data_type a.types ≡ data_of b.data_type b.types = sym a.is ∙ b.is in
    let same : a.data_type ≡ b.data_type = cc in
    port_number places datas u port c a ∙ ap (first_con datas) same ∙ sym (port_number places datas u port d b)

-- a case has an alternative, and none is hidden
abbrev HasSome : Alts → Type 0
HasSome no_alts = ⊥
HasSome (alt q e more) = Unit {0}

some_alts : {s : Setting} {vars : List TypeTree} {e : TermTree} {alts : Alts} {t : TypeTree} → HasType s [] vars (case_of e alts) t → HasSome alts × NoneHidden alts
some_alts (h_case d look ku b df kt allow given hidden) = (tt, hidden)

-- the first alternative is for values where what is looked at is one
data_kind : {datas : List Data} {domains : ℕ} {d : ℕ} {ts : TypeTrees} {k : Kind} → KindOf datas domains [] (data_of d ts) k → (it : Data) → slice_get datas d ≡ Some it → it.kind ≡ k
data_kind (kind_data {it = other} e ds) it h =
    let both : Some other ≡ Some it = sym e ∙ h in
    let same : other ≡ it = cc in
    ap (λ (i : Data). i.kind) (sym same)

scalar_kind : {datas : List Data} {domains : ℕ} {x : Scalar} {w : TypeTree} {k : Kind} → KindOf datas domains [] (scalar x w) k → true ≡ is_val k
scalar_kind (kind_scalar d) = refl

con_of_values : (s : Setting) {u : TypeTree} {k : Kind} (c : ConId) → OfData s.datas c.number u → HasKind s [] u k → unwrap_or (option_map (λ (it : Constructor). is_val it.it.kind) (con_at s.datas c.number)) false ≡ is_val k
con_of_values s {u} {k} c of kind =
    let own = is_constructor s.datas c.number of.con of.has in
    let there = subst (λ n. slice_get s.datas n ≡ Some of.con.it) of.of own.data_type in
    ap (λ x. unwrap_or (option_map (λ (it : Constructor). is_val it.it.kind) x) false) of.has
    ∙ ap is_val (data_kind (subst (λ u. HasKind s [] u k) of.is kind) of.con.it there)

of_values : {s : Setting} {vars : List TypeTree} {u t : TypeTree} {k : Kind} (alts : Alts) → AllGive s [] vars u t alts → HasSome alts → NoneHidden alts → ((f : TermTree) → alts ≡ alt Default f no_alts → ⊥) → HasKind s [] u k → is_of_values s.datas alts ≡ is_val k
of_values no_alts all some hidden lone kind = absurd some
of_values {s} {k = k} (alt (OfLit r bits) f more) (give_and b d x rest) some hidden lone kind =
    let of = of_scalar b.pattern r bits refl in
    scalar_kind (subst (λ u. HasKind s [] u k) of.2 kind)
of_values {s} (alt (OfCon c n) f more) (give_and b d x rest) some hidden lone kind = con_of_values s c (of_data b.pattern c n refl) kind
of_values (alt Default f no_alts) all some hidden lone kind = absurd (lone f refl)
of_values (alt Default f (alt q g more)) all some hidden lone kind = absurd (hidden.0.0 tt)

-- a case looks at no signal and at no vector
looked_asks_none : (u : TypeTree) → IsLookedAt u → AsksForNone u
looked_asks_none (scalar r w) look = tt
looked_asks_none (data_of d ts) look = tt
looked_asks_none _ look = absurd look

pure_signal : {s : Setting} {vars : List TypeTree} {d a u : TypeTree} {v : TermTree} → IsSound s → AreTermTypes s [] vars → HasType s [] vars (pure_of d a v) u → (e : TypeTree) × (b : TypeTree) × (u ≡ signal e b)
unfolding sub
pure_signal {s} {vars} {d} {a} {u} {v} sound typed has =
    let given = prim_at_arguments s [] vars Pure (Dom ∷ Val ∷ []) (ty_var 0 ∷ []) (signal (ty_var 1) (ty_var 0)) (d ∷ a ∷ []) (v ∷ []) u sound typed refl refl refl has in
    let is = as_signal given.gives in
    (is.0, is.1, is.2)

variable_there : {s : Setting} {vars : List TypeTree} {x : ℕ} {u : TypeTree} → HasType s [] vars (var x) u → slice_get vars x ≡ Some u
variable_there (h_var is) = is

-- the term is one of the names, or it isn't
less_or_not : (m n : ℕ) → (m < n) ⊎ (n ≤ m)
less_or_not m zero = inr (omega arith)
less_or_not zero (suc n) = inl (omega arith)
less_or_not (suc m) (suc n) = elim (less_or_not m n) [ inl h ↦ inl (omega (arith, h)) | inr h ↦ inr (omega (arith, h)) ]

abbrev Projects : TermTree → ℕ → Type 0
Projects f n = ((j : ℕ) × (j < n) × (f ≡ var j)) ⊎ ((j : ℕ) → j < n → f ≡ var j → ⊥)

projects : (f : TermTree) (n : ℕ) → Projects f n
projects (var x) n = by (less_or_not x n)
  where
    by : (x < n) ⊎ (n ≤ x) → Projects (var x) n
    by (inl l) = inl (x, l, refl)
    by (inr more) = inr (λ j l q. let same : x ≡ j = cc in omega (arith, l, more, same))
projects _ n = inr (λ j l q. cc)

module _ (decided : NamedIsDecided) (kind_named : NamedIsTermKind) (kept : SameKeepsNamed) (unrolled : NoUnrolled) (places : ConstructorsByPlace) (o : Origins) where
  -- what is left in a head isn't looked at
  not_left : (at to : Spot) (e : TermTree) (alts : Alts) (u : TypeTree) → IsLookedAt u → IsRestPlace o to e u → HasType (setting_at o) [] at.vars e u → (IsNamed o.program.datas at.mode u → ⊥) → LooksAtUnknown o at e alts → IsLeftInHead o.program.datas e → ⊥
  not_left at to e alts u look p d other unknown (inl (taken_letrec)) = unknown.no_letrec tt
  not_left at to e alts u look p d other unknown (inl (taken_case {e = f} {alts = inner})) = unknown.no_case f inner u refl d other
  not_left at to e alts u look p d other unknown (inl (taken_constructor k)) = unknown.no_constructor k.con_number k.it k.types k.es k.is k.on_types k.on_terms k.term
  not_left at to e alts u look p d other unknown (inl (taken_literal {r = r} {bits = bits})) = unknown.no_literal r bits refl
  not_left at to e alts u look p d other unknown (inl (taken_vector)) = subst IsLookedAt (vector_type d) look
  not_left at to e alts u look p d other unknown (inr (inl pure_value)) = subst IsLookedAt (pure_signal p.place.sound p.place.vars p.has).2 look
  not_left at to e alts u look p d other unknown (inr (inr (n, chain_on_one))) = subst IsLookedAt (as_signal (fmap_parts p.place.sound p.place.vars p.has).gives).2 look
  not_left at to e alts u look p d other unknown (inr (inr (n, chain_on_more c))) = subst IsLookedAt (as_signal (ap_parts p.place.sound p.place.vars p.has).gives).2 look

  -- what is looked at is a port
  unnamed_case : (at : Spot) (e : TermTree) (alts : Alts) (t : TypeTree) → at.mode ≡ C → IsRestPlace o at (case_of e alts) t → (of : CaseTyped (setting_at o) [] at.vars e alts t) → (IsPort o.program.datas of.type → ⊥) → ⊥
  unnamed_case at e alts t k p of no_port = by of.kind refl
    where
      to : Spot
      to = spot (scrutinee_mode o.program.datas at.mode alts) false at.vars

      unknown : LooksAtUnknown o at e alts
      unknown = case_on_known o at e alts t p

      unnamed : IsNamed o.program.datas at.mode of.type → ⊥
      unnamed q = no_port (subst (λ m. IsNamed o.program.datas m of.type) k q)

      inner : IsRestPlace o to e of.type
      inner = scrutinee_at_rest decided o at e alts t of.type p of.has unnamed

      first : is_of_values o.program.datas alts ≡ is_val of.kind
      first = let own = some_alts p.has in of_values {s = setting_at o} alts of.given_all own.0 own.1 unknown.no_lone_default of.has_kind

      mode : (j : Kind) → of.kind ≡ j → to.mode ≡ (if is_val j then K else HC)
      mode j q = ap (λ m. scrutinee_mode o.program.datas m alts) k ∙ ap (λ b. if b then K else HC) (first ∙ ap is_val q)

      no_kind : (j : Kind) → of.kind ≡ j → (IsOfTerms j → ⊥) → ⊥
      no_kind j q n = n (subst IsOfTerms q (functions_of_terms of.kind of.result of.allows).0)

      by : (j : Kind) → of.kind ≡ j → ⊥
      by Val q =
          known_unknown of.type of.looked_at (constants_are_known decided kind_named unrolled o to e of.type (mode Val q) inner (subst (HasKind (setting_at o) [] of.type) q of.has_kind)) unknown
      by Cir q =
          not_left at to e alts of.type of.looked_at inner of.has unnamed unknown
          (circuit_heads_go decided kept kind_named unrolled o to e of.type (mode Cir q) inner (looked_asks_none of.type of.looked_at) (subst (HasKind (setting_at o) [] of.type) q of.has_kind) no_port)
      by Nat q = no_kind Nat q (λ h. h)
      by Dom q = no_kind Dom q (λ h. h)

  -- a case on a variable that is a port
  port_case : (at : Spot) (x : ℕ) (alts : Alts) (t u : TypeTree) → at.mode ≡ C → IsRestPlace o at (case_of (var x) alts) t → slice_get at.vars x ≡ Some u → IsPort o.program.datas u → AllGive (setting_at o) [] at.vars u t alts → HasSome alts → NoneHidden alts → IsCircuitSide o (case_of (var x) alts)
  port_case at x no_alts t u k p is port all some hidden = absurd some
  port_case at x (alt Default f no_alts) t u k p is port all some hidden = absurd ((case_on_known o at (var x) (alt Default f no_alts) t p).no_lone_default f refl)
  port_case at x (alt Default f (alt q g more)) t u k p is port all some hidden = absurd (hidden.0.0 tt)
  port_case at x (alt (OfLit r bits) f more) t u k p is port (give_and b d y rest) some hidden =
      let of = of_scalar b.pattern r bits refl in
      let own = subst (IsPort o.program.datas) of.2 port in
      absurd (no_scalar_port own.1)
  port_case at x (alt (OfCon c n) f no_alts) t u k p is port (give_and b d y rest) some hidden = by (projects f n)
    where
      by : Projects f n → IsCircuitSide o (case_of (var x) (alt (OfCon c n) f no_alts))
      by (inl (j, l, q)) = subst (λ f. IsCircuitSide o (case_of (var x) (alt (OfCon c n) f no_alts))) (sym q) (of_projection l)
      by (inr none) = absurd (no_core Proj (case_of (var x) (alt (OfCon c n) f no_alts)) _ [] (proj k is port b.pattern tt (inl none)) p)
  port_case at x (alt (OfCon c n) f (alt Default g no_alts)) t u k p is port (give_and b d y rest) some hidden =
      absurd (no_core Proj (case_of (var x) (alt (OfCon c n) f (alt Default g no_alts))) _ [] (proj k is port b.pattern tt (inr tt)) p)
  port_case at x (alt (OfCon c n) f (alt Default g (alt q h more))) t u k p is port all some hidden = absurd (hidden.1.0.0 tt)
  port_case at x (alt (OfCon c n) f (alt (OfCon d m) g more)) t u k p is port (give_and b e y (give_and b' e' y' rest)) some hidden =
      absurd (hidden.0.0 (one_number places o.program.datas u port c.number d.number (of_data b.pattern c n refl) (of_data b'.pattern d m refl)))
  port_case at x (alt (OfCon c n) f (alt (OfLit r bits) g more)) t u k p is port (give_and b e y (give_and b' e' y' rest)) some hidden =
      let of = of_scalar b'.pattern r bits refl in
      let own = subst (IsPort o.program.datas) of.2 port in
      absurd (no_scalar_port own.1)

  -- a case at rest
  pub circuit_case : (at : Spot) (e : TermTree) (alts : Alts) (t : TypeTree) → at.mode ≡ C → IsRestPlace o at (case_of e alts) t → IsCircuitSide o (case_of e alts)
  circuit_case at e alts t k p = by (decided o.program.datas C of.type p.acyclic)
    where
      of : CaseTyped (setting_at o) [] at.vars e alts t
      of = case_typed p.has

      by : IsNamed o.program.datas C of.type ⊎ (IsNamed o.program.datas C of.type → ⊥) → IsCircuitSide o (case_of e alts)
      by (inl port) =
          let named = subst (λ m. IsNamed o.program.datas m of.type) (sym k) port in
          let name = one_name e (operands_are_variables o at (case_of e alts) [] t _ e of.type p of_case of.has named) in
          let there = variable_there (subst (λ e. HasType (setting_at o) [] at.vars e of.type) name.1 of.has) in
          let own = some_alts p.has in
          subst (λ e. IsCircuitSide o (case_of e alts)) (sym name.1)
          (port_case at name.0 alts t of.type k (subst (λ e. IsRestPlace o at (case_of e alts) t) name.1 p) there port of.given_all own.0 own.1)
      by (inr no_port) = absurd (unnamed_case at e alts t k p of no_port)
