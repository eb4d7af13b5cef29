-- Where values are built, right sides and blocks at rest are of the normal form.
use Rattle.std.proofs.Common.{◌≡◌, ◌⊎◌, ◌<◌, inl, inr, refl, sym, ap, subst, ℕ, suc, zero, true, false, List, [], ◌∷◌, arith, Some}
use Rattle.std.specs.List.{slice_get, AllByRecursion}
use Rattle.chw_types.specs.declared.kind.Kind.TheVariants.{Val}
use Rattle.chw_types.specs.Kinds.{HasFunctions}
use Rattle.chw_types.specs.TypeTree.{TypeTree, scalar, vector, data_of}
use Rattle.chw_types.proofs.KindsFound.{one_kind}
use Rattle.type_ports.specs.Representable.{Representable}
use Rattle.chw_terms.specs.declared.scene.Mode.TheVariants.{V, HV}
use Rattle.chw_terms.specs.declared.term.Arg.{Arg}
use Rattle.chw_terms.specs.declared.term.Arg.TheVariants.{OfTerm, OfType}
use Rattle.chw_terms.specs.TermSize.{tree_size}
use Rattle.chw_terms.specs.TermTree.{TermTree, var, lam, ty_lam, letrec, case_of, Group, no_bindings, bind, Alts, no_alts, alt}
use Rattle.chw_terms.specs.TermView.{applied}
use Rattle.chw_typing.specs.Given.{AsksForNone}
use Rattle.chw_typing.specs.Groups.{binding_at}
use Rattle.chw_typing.specs.HeadTypes.{IsLookedAt, PatternOf}
use Rattle.chw_typing.specs.Paths.{Branch, branch_at}
use Rattle.chw_typing.specs.Scopes.{Setting, HasKind, with_more, declared}
use Rattle.chw_typing.specs.Typing.{HasType, h_var}
use Rattle.chw_typing.specs.TypedSpines.{AtArguments}
use Rattle.chw_typing.proofs.Kinded.{type_kinded}
use Rattle.graph_order.specs.References.{HasNoCycle}
use Rattle.normal_forms.specs.Values.{IsSide, side_variable, side_literal, side_case, IsBlock, block_variable, block_letrec, AreSides, no_sides, side_and, AreBlocks, no_blocks, block_and, BindingRefers}
use Rattle.rewriting.specs.Active.{right_side, branch}
use Rattle.rewriting.specs.Named.{IsNamed}
use Rattle.rewriting.specs.Operands.{of_case}
use Rattle.rewriting.specs.Origins.{Origins, setting_at}
use Rattle.rewriting.specs.SceneLaws.{NamedIsDecided, NamedIsTermKind, SameKeepsNamed}
use Rattle.rewriting.specs.Shapes.{IsVariable, IsLet, NoLetIn}
use Rattle.rewriting.specs.Spots.{Spot, spot, scrutinee_mode}
use Rattle.rule_types.proofs.Scrutinees.{case_typed}
use Rattle.rest_places.specs.Chains.{MadeAreNamed}
use Rattle.rest_places.specs.Constants.{NoUnrolled, IsTakenAway, taken_letrec, taken_case, taken_constructor, taken_literal, taken_vector}
use Rattle.rest_places.specs.Laws.{LooksAtUnknown}
use Rattle.rest_places.specs.Rest.{IsRestPlace, ground}
use Rattle.rest_places.specs.Spines.{IsSpine, on_variable, on_global, on_made, on_lambda, on_type_lambda, on_letrec, on_case, on_constructor, on_primitive, on_literal, on_vector}
use Rattle.rest_places.proofs.Applied.{not_applied}
use Rattle.rest_places.proofs.Constants.{all_at}
use Rattle.ended_laws.proofs.Calls.{no_call}
use Rattle.ended_laws.proofs.DataSides.{con_side, vector_side, values_have_lets}
use Rattle.rest_places.proofs.Elements.{vector_type}
use Rattle.rest_places.proofs.Heads.{value_asks_none, value_heads_go}
use Rattle.rest_places.proofs.Known.{case_on_known}
use Rattle.rest_places.proofs.Lets.{bindings_named, lets_no_head, no_let_in_sides, no_let_in_body, no_cycle}
use Rattle.rest_places.proofs.Operands.{operands_are_variables, result_is_named}
use Rattle.rest_places.proofs.Parts.{side_at_rest, body_at_rest, scrutinee_at_rest, branch_at_rest}
use Rattle.ended_laws.proofs.MadeCalls.{made_side}
use Rattle.ended_laws.proofs.PrimSides.{prim_side, is_named}
use Rattle.rest_places.proofs.Smaller.{below_smaller}
use Rattle.rest_places.proofs.Spines.{spine_view, takes_none}
use Rattle.rest_places.proofs.Values.{from_values}

are_sides : (o : Origins) (vars : List TypeTree) (g : Group) → ((i : ℕ) (b : TypeTree × TermTree) → binding_at g i ≡ Some b → Representable o.program.datas b.0 × IsSide o vars b.1) → AreSides o vars g
are_sides o vars no_bindings h = no_sides
are_sides o vars (bind t e g) h = let first = h 0 (t, e) refl in side_and first.0 first.1 (are_sides o vars g (λ i b k. h (suc i) b k))

record BlockOf (o : Origins) (vars : List TypeTree) (u : TypeTree) (b : Branch) : Type 0 where
  pub fields : List TypeTree
  pub pattern : PatternOf o.program.datas u b.pattern fields
  pub block : IsBlock o (with_more fields vars) b.body

are_blocks : (o : Origins) (vars : List TypeTree) (u : TypeTree) (alts : Alts) → ((i : ℕ) (b : Branch) → branch_at alts i ≡ Some b → BlockOf o vars u b) → AreBlocks o vars u alts
are_blocks o vars u no_alts h = no_blocks
are_blocks o vars u (alt q e more) h = let first = h 0 (record { pattern = q; body = e }) refl in block_and first.pattern first.block (are_blocks o vars u more (λ i b k. h (suc i) b k))

no_let_at : (g : Group) (i : ℕ) (b : TypeTree × TermTree) → NoLetIn g → binding_at g i ≡ Some b → IsLet b.1 → ⊥
no_let_at no_bindings i b n h l = cc
no_let_at (bind t e g) zero b n h l = let same : (t, e) ≡ b = cc in n.0 (subst (λ (c : TypeTree × TermTree). IsLet c.1) (sym same) l)
no_let_at (bind t e g) (suc i) b n h l = no_let_at g i b n.1 h l

named_at : (P : TypeTree → Type 0) (g : Group) (i : ℕ) (b : TypeTree × TermTree) → AllByRecursion P (declared g) → binding_at g i ≡ Some b → P b.0
named_at P no_bindings i b all h = absurd cc
named_at P (bind t e g) zero b all h = let same : (t, e) ≡ b = cc in subst (λ (c : TypeTree × TermTree). P c.0) same all.0
named_at P (bind t e g) (suc i) b all h = named_at P g i b all.1 h

no_vector : (u : TypeTree) {n a : TypeTree} → IsLookedAt u → u ≡ vector n a → ⊥
no_vector u look q = subst IsLookedAt q look

looked_asks_none : (u : TypeTree) → IsLookedAt u → AsksForNone u
looked_asks_none (scalar r w) look = tt
looked_asks_none (data_of d ts) look = tt
looked_asks_none _ look = absurd look

variable_there : {s : Setting} {vars : List TypeTree} {x : ℕ} {u : TypeTree} → HasType s [] vars (var x) u → slice_get vars x ≡ Some u
variable_there (h_var is) = is

record Stands (o : Origins) (at : Spot) (e : TermTree) : Type 0 where
  pub side : at.result ≡ false → IsSide o at.vars e ⊎ IsLet e
  pub block : at.result ≡ true → IsBlock o at.vars e

module _ (decided : NamedIsDecided) (kind_named : NamedIsTermKind) (kept : SameKeepsNamed) (unrolled : NoUnrolled) (o : Origins) (made_named : MadeAreNamed o) where
  abbrev StandBelow : ℕ → Type 0
  StandBelow n = (at : Spot) (e : TermTree) (t : TypeTree) → tree_size e < n → at.mode ≡ V → IsRestPlace o at e t → Representable o.program.datas t → Stands o at e

  value_kind : (at : Spot) (e : TermTree) (t : TypeTree) → IsRestPlace o at e t → Representable o.program.datas t → HasKind (setting_at o) [] t Val
  value_kind at e t p r =
      let of = type_kinded p.has p.place.sound p.place.vars in
      subst (HasKind (setting_at o) [] t) (kind_named (setting_at o) V t of.kind p.place.sound of.has r) of.has

  not_taken : (at : Spot) (e : TermTree) (alts : Alts) (t u : TypeTree) → IsLookedAt u → HasType (setting_at o) [] at.vars e u → (IsNamed o.program.datas at.mode u → ⊥) → LooksAtUnknown o at e alts → IsTakenAway o.program.datas e → ⊥
  not_taken at e alts t u look d other unknown (taken_letrec) = unknown.no_letrec tt
  not_taken at e alts t u look d other unknown (taken_case {e = f} {alts = inner}) = unknown.no_case f inner u refl d other
  not_taken at e alts t u look d other unknown (taken_constructor k) = unknown.no_constructor k.con_number k.it k.types k.es k.is k.on_types k.on_terms k.term
  not_taken at e alts t u look d other unknown (taken_literal {r = r} {bits = bits}) = unknown.no_literal r bits refl
  not_taken at e alts t u look d other unknown (taken_vector) = no_vector u look (vector_type d)

  -- a case on a variable
  variable_case : (n : ℕ) → StandBelow n → (at : Spot) (e : TermTree) (alts : Alts) (t u : TypeTree) → tree_size (case_of e alts) < suc n → at.mode ≡ V → IsRestPlace o at (case_of e alts) t → Representable o.program.datas t → Representable o.program.datas u → HasType (setting_at o) [] at.vars e u → IsVariable e → IsSide o at.vars (case_of e alts)
  variable_case n below at (var x) alts t u small k p r value d v =
      side_case (variable_there d)
      (are_blocks o at.vars u alts (λ i b h.
      let there = branch_at_rest decided o at x alts t u i b k p (variable_there d) value h in
      let less = below_smaller {o = o} {at = at} {e = case_of (var x) alts} (branch {alts = alts} k (variable_there d) value h there.pattern) in
      let of = type_kinded p.has p.place.sound p.place.vars in
      let kind = kept (setting_at o) V t there.type of.kind p.place.sound of.has there.same r in
      record { fields = there.fields; pattern = there.pattern; block = (below (spot V true (with_more there.fields at.vars)) b.body there.type (omega (arith, small, less)) refl there.rest kind).block refl }))
  variable_case n below at _ alts t u small k p r value d v = absurd v

  stands_case : (n : ℕ) → StandBelow n → (at : Spot) (e : TermTree) (alts : Alts) (t : TypeTree) → tree_size (case_of e alts) < suc n → at.mode ≡ V → IsRestPlace o at (case_of e alts) t → Representable o.program.datas t → IsSide o at.vars (case_of e alts)
  stands_case n below at e alts t small k p r = by (decided o.program.datas V (case_typed p.has).type p.acyclic)
    where
      by : IsNamed o.program.datas V (case_typed p.has).type ⊎ (IsNamed o.program.datas V (case_typed p.has).type → ⊥) → IsSide o at.vars (case_of e alts)
      by (inl value) =
          let of = case_typed p.has in
          variable_case n below at e alts t of.type small k p r value of.has
          (operands_are_variables o at (case_of e alts) [] t _ e of.type p of_case of.has (is_named o k value))
      by (inr other) =
          let of = case_typed p.has in
          let unnamed : IsNamed o.program.datas at.mode of.type → ⊥ = λ q. other (subst (λ m. IsNamed o.program.datas m of.type) k q) in
          let values : of.kind ≡ Val = from_values of.kind (subst (HasFunctions of.kind) (one_kind of.has_result (value_kind at (case_of e alts) t p r)) of.allows) in
          let inner = scrutinee_at_rest decided o at e alts t of.type p of.has unnamed in
          let mode : scrutinee_mode o.program.datas at.mode alts ≡ HV = ap (λ m. scrutinee_mode o.program.datas m alts) k in
          absurd (not_taken at e alts t of.type of.looked_at of.has unnamed (case_on_known o at e alts t p)
          (value_heads_go decided kept unrolled o (spot (scrutinee_mode o.program.datas at.mode alts) false at.vars) e of.type mode inner (looked_asks_none of.type of.looked_at) (subst (HasKind (setting_at o) [] of.type) values of.has_kind) other))

  -- a variable has no arguments
  variable_side : (at : Spot) (x : ℕ) (args : List Arg) (t u : TypeTree) → at.mode ≡ V → IsRestPlace o at (applied (var x) args) t → slice_get at.vars x ≡ Some u → AtArguments (setting_at o) [] at.vars u args t → IsSide o at.vars (applied (var x) args)
  variable_side at x args t u k p is leads =
      let named = subst (λ m. AllByRecursion (IsNamed o.program.datas (ground m)) at.vars) k p.named in
      let value : Representable o.program.datas u = all_at (IsNamed o.program.datas V) at.vars x u named is in
      subst (λ args. IsSide o at.vars (applied (var x) args)) (sym (takes_none leads (value_asks_none value)).none) side_variable

  side_spine : (n : ℕ) → StandBelow n → (at : Spot) (e : TermTree) (t : TypeTree) → tree_size e < suc n → at.mode ≡ V → IsRestPlace o at e t → Representable o.program.datas t → IsSpine (setting_at o) at.vars t e → IsSide o at.vars e ⊎ IsLet e
  side_spine n below at e t small k p r (on_variable x args {u = u} is leads) = inl (variable_side at x args t u k p is leads)
  side_spine n below at e t small k p r (on_global d args is leads) = absurd (no_call kept o at d args t (values_have_lets k) p (is_named o k r))
  side_spine n below at e t small k p r (on_made m args {u = u} is leads) = inl (made_side kept o made_named at m args t u k p r is leads)
  side_spine n below at e t small k p r (on_lambda b f a rest d leads) = absurd (let none = not_applied o at (lam b f) (OfTerm a ∷ rest) t p tt in cc)
  side_spine n below at e t small k p r (on_type_lambda j f a rest d leads) = absurd (let none = not_applied o at (ty_lam j f) (OfType a ∷ rest) t p tt in cc)
  side_spine n below at e t small k p r (on_letrec g f args d leads) = inr (subst (λ args. IsLet (applied (letrec g f) args)) (sym (not_applied o at (letrec g f) args t p tt)) tt)
  side_spine n below at e t small k p r (on_case f alts args d leads) =
      let none = not_applied o at (case_of f alts) args t p tt in
      inl (subst (λ args. IsSide o at.vars (applied (case_of f alts) args)) (sym none)
      (stands_case n below at f alts t (subst (λ args. tree_size (applied (case_of f alts) args) < suc n) none small) k (subst (λ args. IsRestPlace o at (applied (case_of f alts) args) t) none p) r))
  side_spine n below at e t small k p r (on_constructor c types es {it = it} given) = inl (con_side kept o at c it types es t k given p r)
  side_spine n below at e t small k p r (on_primitive q types es more given) = inl (prim_side decided kept unrolled o at q types es more t k (value_kind at e t p r) given p)
  side_spine n below at e t small k p r (on_literal x bits l is) = inl side_literal
  side_spine n below at e t small k p r (on_vector u es l have is) = inl (vector_side kept o at u es t k p r)

  -- the body of a letrec, which is none, is a variable
  letrec_block : (at : Spot) (g : Group) (e : TermTree) → AreSides o (with_more (declared g) at.vars) g → HasNoCycle (BindingRefers g) → (IsLet e → ⊥) → IsVariable e ⊎ IsLet e → IsBlock o at.vars (letrec g e)
  letrec_block at g (var x) sides cycle other named = block_letrec sides cycle
  letrec_block at g e sides cycle other (inr l) = absurd (other l)
  letrec_block at g _ sides cycle other (inl v) = absurd v

  stands_letrec : (n : ℕ) → StandBelow n → (at : Spot) (g : Group) (e : TermTree) (t : TypeTree) → tree_size (letrec g e) < suc n → at.mode ≡ V → IsRestPlace o at (letrec g e) t → IsBlock o at.vars (letrec g e)
  stands_letrec n below at g e t small k p =
      let lets = values_have_lets k in
      let head = lets_no_head at.mode lets in
      let inner = body_at_rest decided o at g e t lets p in
      letrec_block at g e
      (are_sides o (with_more (declared g) at.vars) g (λ i b h.
      let named = named_at (IsNamed o.program.datas at.mode) g i b (bindings_named decided o at g e t lets p) h in
      let there = side_at_rest decided kept o at g e t i b lets p h in
      let less = below_smaller {o = o} {at = at} {e = letrec g e} (right_side lets h named) in
      let value = subst (λ m. IsNamed o.program.datas m there.type) k there.named in
      let stands = below (spot at.mode false (with_more (declared g) at.vars)) b.1 there.type (omega (arith, small, less)) k there.rest value in
      (subst (λ m. IsNamed o.program.datas m b.0) k named, not_let b.1 (no_let_at g i b (no_let_in_sides o at g e t head p) h) (stands.side refl))))
      (no_cycle o at g e t (inl k) p) (no_let_in_body o at g e t head p)
      (result_is_named o (spot at.mode true (with_more (declared g) at.vars)) e t lets refl inner)
    where
      not_let : {vars : List TypeTree} (x : TermTree) → (IsLet x → ⊥) → IsSide o vars x ⊎ IsLet x → IsSide o vars x
      not_let x other (inl side) = side
      not_let x other (inr l) = absurd (other l)

  block_of : (n : ℕ) → StandBelow n → (at : Spot) (e : TermTree) (t : TypeTree) → tree_size e < suc n → at.mode ≡ V → IsRestPlace o at e t → IsVariable e ⊎ IsLet e → IsBlock o at.vars e
  block_of n below at (var x) t small k p named = block_variable
  block_of n below at (letrec g e) t small k p named = stands_letrec n below at g e t small k p
  block_of n below at _ t small k p (inl v) = absurd v
  block_of n below at _ t small k p (inr l) = absurd l

  stand_below : (n : ℕ) → StandBelow n
  stand_below zero at e t small k p r = absurd (omega (arith, small))
  stand_below (suc n) at e t small k p r =
      record {
        side = λ q. side_spine n (stand_below n) at e t small k p r (spine_view (setting_at o) at.vars e t p.place.sound p.place.vars p.has (value_asks_none r));
        block = λ q. block_of n (stand_below n) at e t small k p (result_is_named o at e t (values_have_lets k) q p);
      }

  -- right sides and blocks of values at rest
  pub sides_stand : (at : Spot) (e : TermTree) (t : TypeTree) → at.mode ≡ V → at.result ≡ false → IsRestPlace o at e t → Representable o.program.datas t → IsSide o at.vars e ⊎ IsLet e
  sides_stand at e t k q p r = (stand_below (suc (tree_size e)) at e t (omega arith) k p r).side q

  pub blocks_stand : (at : Spot) (e : TermTree) (t : TypeTree) → at.mode ≡ V → at.result ≡ true → IsRestPlace o at e t → Representable o.program.datas t → IsBlock o at.vars e
  blocks_stand at e t k q p r = (stand_below (suc (tree_size e)) at e t (omega arith) k p r).block q
