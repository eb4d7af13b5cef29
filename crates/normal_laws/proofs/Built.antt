-- Where values and circuits are built, what stands in a body in normal form passes no limit by its type.
use Rattle.std.proofs.Common.{◌≡◌, ℕ, zero, suc, Bool, true, false, List, [], ◌∷◌, ◌++◌, Some, refl, sym, ap, ◌∙◌, subst, if◌then◌else◌}
use Rattle.std.specs.Prelude.{option_and_then}
use Rattle.chw_types.specs.declared.declarations.Data.{Data}
use Rattle.chw_types.specs.declared.kind.Kind.{Kind}
use Rattle.type_ports.specs.declared.ports.Leaf.{Leaf}
use Rattle.type_ports.specs.Representable.{Representable, representable_scalar, representable_vector, representable_data}
use Rattle.type_ports.specs.Ports.{Leaves, one_leaf, leaves_of_fields}
use Rattle.chw_types.specs.SameTypes.{SameTypes}
use Rattle.chw_types.specs.TypeTree.{TypeTree}
use Rattle.chw_types.proofs.SameLaws.{same_self, same_turned, same_through}
use Rattle.type_laws.specs.SameKept.{FieldsKeepSame}
use Rattle.chw_terms.specs.declared.scene.Mode.{Mode}
use Rattle.chw_terms.specs.declared.scene.Mode.TheVariants.{V, C, HV, HC, K}
use Rattle.chw_terms.specs.declared.scene.Sort.{Sort}
use Rattle.chw_terms.specs.declared.scene.Sort.TheVariants.{Value, Circuit}
use Rattle.chw_terms.specs.declared.term.Pattern.{Pattern}
use Rattle.chw_terms.specs.TermTree.{TermTree, letrec, case_of, Alts, no_alts, alt}
use Rattle.chw_typing.specs.Programs.{IsSound}
use Rattle.chw_typing.specs.Scopes.{Setting, HasKind, AreTermTypes, with_more}
use Rattle.chw_typing.specs.Typing.{Binds, HasType, h_case, HasTypeUpTo, AllGive, none_give, give_and}
use Rattle.chw_typing.proofs.Kinded.{type_kinded, typed_more}
use Rattle.chw_typing.proofs.OneType.{one_type}
use Rattle.chw_typing.proofs.Patterns.{one_binding}
use Rattle.chw_typing.proofs.SameScopes.{are_same_self, same_more}
use Rattle.chw_layout.specs.declared.outcome.NoLayout.{NoLayout}
use Rattle.chw_layout.specs.Refusals.{OneMeasure}
use Rattle.layout_laws.specs.SameLayout.{SameKeepsMeasure}
use Rattle.chw_typing.specs.Around.{Around, here, in_branch}
use Rattle.chw_typing.specs.Given.{AsksForNone}
use Rattle.chw_typing.specs.Paths.{Branch, branch_at, part_at}
use Rattle.chw_typing.proofs.ContextPlaces.{around_is_part}
use Rattle.chw_typing.proofs.FoundTyped.{found_is_type}
use Rattle.chw_typing.proofs.PathParts.{part_behind}
use Rattle.chw_typing.proofs.Plugged.{same_variables}
use Rattle.chw_typing.proofs.Typed.{part_typed}
use Rattle.rewriting.specs.Active.{Below, right_side, let_body, constant_body, scrutinee, branch, of_constructor, of_words, of_element, of_vector, demanded, begins, IsActive, at_it, below, IsPlaceOf}
use Rattle.rewriting.specs.Lifted.{FindsAt}
use Rattle.rewriting.specs.Named.{IsNamed, mode_of}
use Rattle.rewriting.specs.Origins.{MadeOf, Origins, setting_at}
use Rattle.rewriting.specs.Spots.{Spot, spot, HasLets, is_of_values, scrutinee_mode, head_mode}
use Rattle.rewriting.proofs.Around.{below_around, place_around}
use Rattle.rewriting.proofs.Parts.{below_is_part}
use Rattle.normal_forms.specs.Blocked.{Passes}
use Rattle.normal_forms.specs.Normal.{HoldsWidths, IsNormalBody}
use Rattle.normal_forms.specs.Parts.{EachDeclared}
use Rattle.normal_laws.proofs.Alike.{like_passes_none}
use Rattle.normal_laws.proofs.Declared.{declared_holds}
use Rattle.normal_laws.proofs.Typed.{let_typed, under_typed}

-- heads aren't built by letrecs
head_no_lets : (m : Mode) → HasLets (head_mode m) → ⊥
head_no_lets V q = q
head_no_lets C q = q
head_no_lets HV q = q
head_no_lets HC q = q
head_no_lets K q = q

constant_or_head : (b : Bool) → HasLets (if b then K else HC) → ⊥
constant_or_head true q = q
constant_or_head false q = q

scrutinee_no_lets : (datas : List Data) (m : Mode) (alts : Alts) → HasLets (scrutinee_mode datas m alts) → ⊥
scrutinee_no_lets datas V alts q = q
scrutinee_no_lets datas C alts q = constant_or_head (is_of_values datas alts) q
scrutinee_no_lets datas HV alts q = q
scrutinee_no_lets datas HC alts q = constant_or_head (is_of_values datas alts) q
scrutinee_no_lets datas K alts q = q

-- an alternative's body has the case's type, up to naturals
record BranchLinked (s : Setting) (kinds : List Kind) (vars : List TypeTree) (u t : TypeTree) (a : Branch) : Type 0 where
  bound : List TypeTree
  binds : Binds s kinds u a.pattern bound
  type : TypeTree
  has : HasType s kinds (with_more bound vars) a.body type
  same : SameTypes t type

branch_linked : (s : Setting) (kinds : List Kind) (vars bound : List TypeTree) (u t v : TypeTree) (q : Pattern) (e : TermTree) (a : Branch) → Some (record { pattern = q; body = e }) ≡ Some a → Binds s kinds u q bound → HasType s kinds (with_more bound vars) e v → SameTypes t v → BranchLinked s kinds vars u t a
branch_linked s kinds vars bound u t v q e a at b d x =
    let c : Branch = record { pattern = q; body = e } in
    let is : c ≡ a = cc in
    let it : BranchLinked s kinds vars u t c = record { bound = bound; binds = b; type = v; has = d; same = x } in
    subst (BranchLinked s kinds vars u t) is it

given_linked : {s : Setting} {kinds : List Kind} {vars : List TypeTree} {u t : TypeTree} {alts : Alts} → AllGive s kinds vars u t alts → (i : ℕ) (a : Branch) → branch_at alts i ≡ Some a → BranchLinked s kinds vars u t a
given_linked none_give i a at = absurd cc
given_linked {s} {kinds} {vars} {u} {t} (give_and {bound = bound} {v = v} {q = q} {e = e} b d x ds) zero a at = branch_linked s kinds vars bound u t v q e a at b d x
given_linked (give_and b d x ds) (suc i) a at = given_linked ds i a at

body_linked : (s : Setting) (kinds : List Kind) (vars bound : List TypeTree) (u v t : TypeTree) (j : Kind) (a : Branch) → IsSound s → AreTermTypes s kinds vars → HasKind s kinds u j → SameTypes u v → Binds s kinds v a.pattern bound → BranchLinked s kinds vars u t a
    → HasTypeUpTo s kinds (with_more bound vars) a.body t
body_linked s kinds vars bound u v t j a h g l x b it =
    let of =
    same_variables s kinds (with_more it.bound vars) (with_more bound vars) a.body it.type h (typed_more s kinds it.bound vars it.binds.typed g) (typed_more s kinds bound vars b.typed g)
    (same_more it.bound bound vars vars (one_binding it.binds b h j l x) (are_same_self vars)) it.has in
    record { type = of.type; has = of.has; same = same_through it.same of.same }

case_linked : (s : Setting) (kinds : List Kind) (vars bound : List TypeTree) (e : TermTree) (u t : TypeTree) (alts : Alts) (a : Branch) (i : ℕ) → IsSound s → AreTermTypes s kinds vars → HasType s kinds vars (case_of e alts) t → branch_at alts i ≡ Some a → HasType s kinds vars e u → Binds s kinds u a.pattern bound
    → HasTypeUpTo s kinds (with_more bound vars) a.body t
case_linked s kinds vars bound e u t (alt q f more) a zero h g (h_case {bound = own} {u = v} {j = j} d looked l b c m allows o n) at d' b' =
    body_linked s kinds vars bound v u t j a h g l (one_type d d' h g g (are_same_self vars)) b' (branch_linked s kinds vars own v t t q f a at b c (same_self t))
case_linked s kinds vars bound e u t (alt q f more) a (suc i) h g (h_case {u = v} {j = j} d looked l b c m allows o n) at d' b' =
    body_linked s kinds vars bound v u t j a h g l (one_type d d' h g g (are_same_self vars)) b' (given_linked o i a at)
case_linked s kinds vars bound e u t no_alts a i h g d at d' b' = elim d [ ]

around_linked : {s : Setting} {kinds ks : List Kind} {vars vs : List TypeTree} {e x : TermTree} {alts : Alts} {i : ℕ} → Around s kinds vars (case_of e alts) (suc i ∷ []) ks vs x → IsSound s → AreTermTypes s kinds vars → (t : TypeTree) → HasType s kinds vars (case_of e alts) t → HasTypeUpTo s ks vs x t
around_linked {s} {kinds} {vars = vars} {e = e} {alts = alts} {i = i} (in_branch {bound = bound} {u = u} {a = a} at d b here) h g t has = case_linked s kinds vars bound e u t alts a i h g has at d b

-- of a type that is the same up to naturals as one whose widths hold
pub record Held (o : Origins) (at : Spot) (e : TermTree) : Type 0 where
  pub declared : TypeTree
  pub widths : HoldsWidths o.program.datas declared
  pub type : TypeTree
  pub has : HasType (setting_at o) [] at.vars e type
  pub same : SameTypes declared type

-- the laws that are cited
pub record Laws : Type 0 where
  pub one : OneMeasure
  pub kept : SameKeepsMeasure
  pub keep : FieldsKeepSame

pub representable_asks_none : {datas : List Data} {t : TypeTree} → Representable datas t → AsksForNone t
representable_asks_none representable_scalar = tt
representable_asks_none (representable_vector r) = tt
representable_asks_none (representable_data known many all) = tt

port_asks_none : {datas : List Data} {t : TypeTree} {ls : List Leaf} → Leaves datas t ls → AsksForNone t
port_asks_none (one_leaf r) = tt
port_asks_none (leaves_of_fields known many one fields all) = tt

named_asks_none : (datas : List Data) (sort : Sort) (t : TypeTree) → IsNamed datas (mode_of sort) t → AsksForNone t
named_asks_none datas Value t n = representable_asks_none n
named_asks_none datas Circuit t n = port_asks_none n.1

module _ (o : Origins) (sound : IsSound (setting_at o)) (laws : Laws) where
  declared_below : {at at' : Spot} {e x : TermTree} {p : List ℕ} → Below o at e p at' x → EachDeclared (HoldsWidths o.program.datas) e → EachDeclared (HoldsWidths o.program.datas) x
  declared_below {e = e} {p = p} b all path y part = all (p ++ path) y (part_behind p e path ∙ ap (option_and_then (λ x. part_at x path)) (below_is_part b) ∙ part)

  held_below : {at at' : Spot} {e x : TermTree} {p : List ℕ} → Below o at e p at' x → AreTermTypes (setting_at o) [] at.vars → EachDeclared (HoldsWidths o.program.datas) e → (HasLets at.mode → Held o at e) → HasLets at'.mode → Held o at' x
  held_below (right_side {g = g} {e = e} {i = i} {b = b} l h n) scope all from lets =
      let whole = from l in
      let side = (let_typed g e whole.type whole.has).side i b h in
      record { declared = b.0; widths = declared_holds (HoldsWidths o.program.datas) g i b (all [] (letrec g e) refl) h; type = side.type; has = side.has; same = side.same }
  held_below (let_body {g = g} {e = e} l) scope all from lets =
      let whole = from l in
      record { declared = whole.declared; widths = whole.widths; type = whole.type; has = (let_typed g e whole.type whole.has).body; same = whole.same }
  held_below (constant_body k) scope all from lets = absurd lets
  held_below {at} (scrutinee {alts = alts} d n) scope all from lets = absurd (scrutinee_no_lets o.program.datas at.mode alts lets)
  held_below {at} (branch v known n b p) scope all from lets =
      let whole = from (subst HasLets (sym v) tt) in
      let link = around_linked (below_around {o = o} {at = at} (branch v known n b p) sound scope) sound scope whole.type whole.has in
      record { declared = whole.declared; widths = whole.widths; type = link.type; has = link.has; same = same_through whole.same link.same }
  held_below (of_constructor c i args k is n h) scope all from lets = absurd lets
  held_below (of_words p i args k w l n h) scope all from lets = absurd lets
  held_below (of_element p i args k w n h) scope all from lets = absurd lets
  held_below (of_vector k h) scope all from lets = absurd lets
  held_below {at} (demanded d) scope all from lets = absurd (head_no_lets at.mode lets)
  held_below (begins p i j args m b t r h) scope all from lets = absurd lets

  scope_below : {at at' : Spot} {e x : TermTree} {p : List ℕ} → Below o at e p at' x → AreTermTypes (setting_at o) [] at.vars → (t : TypeTree) → HasType (setting_at o) [] at.vars e t → AreTermTypes (setting_at o) [] at'.vars × ((u : TypeTree) × HasType (setting_at o) [] at'.vars x u)
  scope_below {at} b scope t has = part_typed (below_around {o = o} {at = at} b sound scope) sound scope t has

  held_active : {at at' : Spot} {e x : TermTree} {p : List ℕ} → IsActive o at e p at' x → AreTermTypes (setting_at o) [] at.vars → (t : TypeTree) → HasType (setting_at o) [] at.vars e t → EachDeclared (HoldsWidths o.program.datas) e → (HasLets at.mode → Held o at e) → HasLets at'.mode → Held o at' x
  held_active at_it scope t has all from lets = from lets
  held_active (below b r) scope t has all from lets =
      let next = scope_below b scope t has in
      held_active r next.0 next.1.0 next.1.1 (declared_below b all) (held_below b scope all from) lets

  root_place : (it : MadeOf) (body x : TermTree) (path : List ℕ) (at : Spot) (r : IsPlaceOf o it body path at x) → IsPlaceOf o it body (r.root ++ []) (spot (mode_of it.sort) true r.vars) r.term
  root_place it body x path at r = record { root = r.root; vars = r.vars; term = r.term; under = r.under; rest = []; active = at_it; is = refl }

  pub held_place : (it : MadeOf) (body x : TermTree) (path : List ℕ) (at : Spot) → IsNormalBody o it body → IsPlaceOf o it body path at x → HasLets at.mode → Held o at x
  held_place it body x path at h r lets =
      let root = place_around o it body r.term (r.root ++ []) (spot (mode_of it.sort) true r.vars) sound h.typed (root_place it body x path at r) in
      let typed = part_typed root sound tt h.typed.type h.typed.has in
      let part = around_is_part root in
      let link = under_typed r.under h.typed.type h.typed.has h.typed.same h.params h.result h.gives (named_asks_none o.program.datas it.sort h.result h.result_named) in
      held_active r.active typed.0 typed.1.0 typed.1.1
      (λ p y q. h.widths ((r.root ++ []) ++ p) y (part_behind (r.root ++ []) body p ∙ ap (option_and_then (λ z. part_at z p)) part ∙ q))
      (λ l. record { declared = h.result; widths = h.result_width; type = link.type; has = link.has; same = link.same }) lets

  pub built_within : (it : MadeOf) (body x : TermTree) (path : List ℕ) (at : Spot) (t : TypeTree) (l : NoLayout) → IsNormalBody o it body → IsPlaceOf o it body path at x → HasLets at.mode → FindsAt o at x t → Passes o.program.datas t l → ⊥
  built_within it body x path at t l h r lets finds passes =
      let held = held_place it body x path at h r lets in
      let scope = (part_typed (place_around o it body x path at sound h.typed r) sound tt h.typed.type h.typed.has).0 in
      let found = found_is_type finds in
      let alike = one_type found held.has sound scope scope (are_same_self at.vars) in
      let kind = type_kinded found sound scope in
      like_passes_none (setting_at o) sound laws.keep laws.one laws.kept held.declared t l held.widths
      (record { kind = kind.kind; has = kind.has; same = same_through alike (same_turned held.same) }) passes
