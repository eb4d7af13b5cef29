-- Right sides of circuits in a block that stands: what they are given, and the histories before.
use Rattle.std.specs.Prelude.{if◌then◌else◌, Option, None}
use Rattle.std.specs.List.{AllByRecursion}
use Rattle.std.proofs.Common.{Bool, List, Some, [], ap, append_assoc, arith, false, length, length-append, map, refl, subst, suc, sym, true, zero, ℕ, ◌++◌, ◌<◌, ◌∙◌, ◌∷◌, ◌≡◌}
use Rattle.std.proofs.lemmas.List.{length-map}
use Rattle.std.specs.Prelude.{slice_get}
use Rattle.chw_prims.specs.declared.prim.Primitive.{Primitive as Prim}
use Rattle.chw_clock.specs.Histories.{FitsPorts, before, taken, ticks, up_to_tick, is_reset, unless_reset}
use Rattle.normal_forms.specs.Circuits.{IsConstant, constant_literal, constant_constructor, constant_vector, AreConstants, no_constants, constant_and, beginning_with}
use Rattle.rewriting.specs.Origins.{with_origins, with_origins_all}
use Rattle.chw_typing.specs.Given.{types_then}
use Rattle.chw_terms.specs.TermView.{applied, terms_of}
use Rattle.net_grounds.specs.Facts.{Facts}
use Rattle.net_means.proofs.Lists.{found_before_map, same_some}
use Rattle.net_means.specs.CircuitBits.Instances.{Block, HaveBits, Inside}
use Rattle.chw_terms.specs.declared.scene.Sort.TheVariants.{Circuit}
use Rattle.net_built.specs.Circuits.{CircuitCells}
use Rattle.net_means.specs.CircuitBits.Leaves.{CircuitGiven, VariableLeaf}
use Rattle.chw_types.specs.declared.declarations.Data.{Data}
use Rattle.chw_base.specs.declared.index.DomId.{DomId}
use Rattle.chw_clock.specs.declared.event.Event.{Event}
use Rattle.chw_terms.specs.TermTree.{Group, TermTree, app, con, prim, term_and, ty_app, var, vec_lit}
use Rattle.net_means.proofs.NetBits.Forms.{GroupFormed, SideFormed, origins, side_formed}
use Rattle.cell_bits.specs.Bearing.{HasCells}
use Rattle.net_built.specs.Data.{HasParts, HaveWidths, port_parts}
use Rattle.chw_typing.specs.Typing.{HasType, h_app}
use Rattle.net_means.specs.CircuitBits.Memories.{HasWidths, IsEarlier, further_before, last_before}
use Rattle.chw_meaning.specs.Values.{History, Thunks, body_at}
use Rattle.net_means.specs.NetBits.Whole.{IsPast}
use Rattle.net_means.proofs.NetBits.Context.{Known, Situation, Stands}
use Rattle.type_ports.specs.declared.ports.Leaf.{Leaf}
use Rattle.type_ports.specs.Ports.{Leaves, leaves_and, leaves_of_fields, one_leaf}
use Rattle.net_built.specs.Wires.{Piece}
use Rattle.chw_typing.specs.Scopes.{Setting, declared}
use Rattle.chw_types.specs.TypeTree.{TypeTree, fun}
use Rattle.net_built.specs.Terms.{Variable, head_of, operands_of, types_of}
use Rattle.net_means.proofs.NetBits.Sorts.{block_stays}
use Rattle.chw_meaning.specs.Eval.{dom}
use Rattle.net_built.specs.Built.{ground_of}
use Rattle.net_means.proofs.SideBits.Heads.{names}
use Rattle.normal_forms.specs.Values.{on_names}
use Rattle.net_means.specs.SideBits.Sides.{types_in}
use Rattle.net_means.proofs.NetFits.Scopes.{var_at}

-- histories before
tick_past : (events past : List Event) (d : DomId) → up_to_tick events d ≡ Some past → (later : History) × (events ≡ later ++ past)
tick_past [] past d e = absurd cc
tick_past (event ∷ events) past d e = by (ticks event d) e (λ f. tick_past events past d f)
  where
    by : (b : Bool) → (if b then Some (event ∷ events) else up_to_tick events d) ≡ Some past → (up_to_tick events d ≡ Some past → (later : History) × (events ≡ later ++ past)) → (later : History) × (event ∷ events ≡ later ++ past)
    by true e more = ([], same_some refl e)
    by false e more = let rest = more e in (event ∷ rest.0, ap (λ l. event ∷ l) rest.1)

before_past : (h past : History) (d : DomId) → before h d ≡ Some past → (later : History) × (h ≡ later ++ past)
before_past [] past d e = absurd cc
before_past (present ∷ events) past d e = let rest = tick_past events past d e in (present ∷ rest.0, ap (λ l. present ∷ l) rest.1)

taken_before : (h past : History) (d : DomId) → taken h d ≡ Some past → before h d ≡ Some past
taken_before h past d e = by (before h d) refl e
  where
    by : (o : Option History) → before h d ≡ o → unless_reset o d ≡ Some past → before h d ≡ Some past
    by None is e = absurd cc
    by (Some q) is e = is ∙ of_reset (is_reset q d) e
      where
        of_reset : (b : Bool) → (if b then None else Some q) ≡ Some past → Some q ≡ Some past
        of_reset true e = absurd cc
        of_reset false e = e

past_further : {last h g : History} → IsPast last h → (later : History) × (h ≡ later ++ g) → IsPast last g
past_further {g = g} p e = (p.0 ++ e.0, p.1 ∙ ap (λ k. p.0 ++ k) e.1 ∙ sym (append_assoc p.0 e.0 g))

-- a history that is earlier than the one of the situation
pub record Earlier (s : Situation) (g : History) : Type 0 where
  pub shorter : length g < length s.h
  pub past : IsPast s.last g
  pub fits : FitsPorts s.d.net.ports g

pub taken_earlier : Facts → (s : Situation) (d : DomId) (g : History) → taken s.h d ≡ Some g → Earlier s g
taken_earlier facts s d g e = record {
  shorter = facts.flat.taken_shorter s.d.net.ports s.h g d s.fits e;
  past = past_further s.past (before_past s.h g d (taken_before s.h g d e));
  fits = facts.flat.taken_fits s.d.net.ports s.h g d s.fits e;
}

-- what holds of a history at an earlier tick
record Ago (s : Situation) (h g : History) : Type 0 where
  shorter : length g < length h
  fits : FitsPorts s.d.net.ports g
  later : (later : History) × (h ≡ later ++ g)

ago : Facts → (s : Situation) (d : ℕ) {h g : History} → IsEarlier d h g → FitsPorts s.d.net.ports h → Ago s h g
ago facts s d {h} {g} (last_before e) fits = record { shorter = facts.flat.before_shorter s.d.net.ports h g (dom d) fits e; fits = facts.flat.before_fits s.d.net.ports h g (dom d) fits e; later = before_past h g (dom d) e }
ago facts s d {h} {g = k} (further_before {g = g} e rest) fits =
    let first = before_past h g (dom d) e in
    let less = facts.flat.before_shorter s.d.net.ports h g (dom d) fits e in
    let more = ago facts s d rest (facts.flat.before_fits s.d.net.ports h g (dom d) fits e) in
    let shorter = more.shorter in
    record {
      shorter = omega (arith, less, shorter);
      fits = more.fits;
      later = (first.0 ++ more.later.0, first.1 ∙ ap (λ l. first.0 ++ l) more.later.1 ∙ sym (append_assoc first.0 more.later.0 k));
    }

pub tick_earlier : Facts → (s : Situation) (d : ℕ) (g : History) → IsEarlier d s.h g → Earlier s g
tick_earlier facts s d g e = let a = ago facts s d e s.fits in record { shorter = a.shorter; past = past_further s.past a.later; fits = a.fits }

-- a port has a leaf
leaves_some : {datas : List Data} {t : TypeTree} {ls : List Leaf} → Leaves datas t ls → 0 < length ls
leaves_some (one_leaf r) = omega arith
leaves_some (leaves_of_fields known many one fields (leaves_and {ls = ls} {ms = ms} first rest)) =
    let some = leaves_some first in
    let long = length-append ls ms in
    omega (arith, some, long)

widths_long : (datas : List Data) (ts : List TypeTree) (ws : List ℕ) → HaveWidths datas ts ws → length ws ≡ length ts
widths_long datas [] [] h = refl
widths_long datas [] (w ∷ ws) h = absurd h
widths_long datas (t ∷ ts) [] h = absurd h
widths_long datas (t ∷ ts) (w ∷ ws) h = ap suc (widths_long datas ts ws h.1)

pub parts_some : {datas : List Data} {t : TypeTree} {ws : List ℕ} → HasParts datas Circuit t ws → 0 < length ws
parts_some {datas} {ws = ws} (port_parts {leaves = ls} leaves have) =
    let some = leaves_some leaves in
    let long = widths_long datas (map (λ (l : Leaf). l.payload) ls) ws have in
    let many = length-map ls (λ (l : Leaf). l.payload) in
    omega (arith, some, long, many)

-- constants hold no made definitions
spine_whole : (o : ℕ → TermTree) (f : TermTree) (types : List TypeTree) (es : List TermTree) → with_origins o f ≡ f → AllByRecursion (λ e. with_origins o e ≡ e) es → with_origins o (applied f (types_then types es)) ≡ applied f (types_then types es)
unfolding with_origins
spine_whole o f [] [] e all = e
spine_whole o f [] (a ∷ es) e all = spine_whole o (app f a) [] es (λ i. app (e i) (all.0 i)) all.1
spine_whole o f (t ∷ types) es e all = spine_whole o (ty_app f t) types es (ap (λ g. ty_app g t) e) all

terms_whole : (o : ℕ → TermTree) (es : List TermTree) → AllByRecursion (λ e. with_origins o e ≡ e) es → with_origins_all o (terms_of es) ≡ terms_of es
unfolding with_origins
terms_whole o [] all = refl
terms_whole o (e ∷ es) all = λ i. term_and (all.0 i) (terms_whole o es all.1 i)

mutual
  unfolding with_origins

  pub constant_whole : {datas : List Data} {e : TermTree} (o : ℕ → TermTree) → IsConstant datas e → with_origins o e ≡ e
  constant_whole o constant_literal = refl
  constant_whole o (constant_constructor c types es known count all) = spine_whole o (con c) types es refl (constants_whole o all)
  constant_whole o (constant_vector t es all) = ap (λ es. vec_lit t es) (terms_whole o es (constants_whole o all))

  constants_whole : {datas : List Data} {es : List TermTree} (o : ℕ → TermTree) → AreConstants datas es → AllByRecursion (λ e. with_origins o e ≡ e) es
  constants_whole o no_constants = tt
  constants_whole o (constant_and first rest) = (constant_whole o first, constants_whole o rest)

names_whole : (o : ℕ → TermTree) (xs : List ℕ) → AllByRecursion (λ e. with_origins o e ≡ e) (names xs)
unfolding with_origins
names_whole o [] = tt
names_whole o (x ∷ xs) = (refl, names_whole o xs)

pub beginning_whole : {datas : List Data} (o : ℕ → TermTree) (q : Prim) (types : List TypeTree) (c : TermTree) (xs : List ℕ) → IsConstant datas c → with_origins o (beginning_with q types c xs) ≡ beginning_with q types c xs
unfolding with_origins
beginning_whole o q types c xs constant = spine_whole o (applied (prim q) (types_then types (c ∷ []))) [] (names xs) (spine_whole o (prim q) types (c ∷ []) refl (constant_whole o constant, tt)) (names_whole o xs)

pub names_spine_whole : (o : ℕ → TermTree) (f : TermTree) (types : List TypeTree) (xs : List ℕ) → with_origins o f ≡ f → with_origins o (on_names f types xs) ≡ on_names f types xs
names_spine_whole o f types xs e = spine_whole o f types (names xs) e (names_whole o xs)

-- a right side of a circuit's block
pub record CircuitIn (s : Situation) (path : List ℕ) (b : Block) (g : Group) (scope : List Variable) (γ : Thunks) (i n : ℕ) (t : TypeTree) (e : TermTree) (p : Piece) (widths : List ℕ) : Type 0 where
  pub stands : Stands s path b
  pub inside : Inside s.d path b g scope γ
  pub circuit : b.sort ≡ Circuit
  pub group : GroupFormed s.d Circuit g scope
  pub at : body_at g i ≡ Some e
  pub declares : slice_get (declared g) i ≡ Some t
  pub parts : HasParts s.d.program.datas Circuit t widths
  pub built : CircuitCells (ground_of s.d.program s.d.built.order) scope n widths (head_of e) (types_of e) (operands_of e) p
  pub cells : HasCells s.d.net path p.cells
  pub wide : HasWidths s.d.net path n p.widths

module _ (s : Situation) {path : List ℕ} {b : Block} {g : Group} {scope : List Variable} {γ : Thunks} {i n : ℕ} {t : TypeTree} {e : TermTree} {p : Piece} {widths : List ℕ} (c : CircuitIn s path b g scope γ i n t e p widths) where
  pub circuit_side_of : SideFormed s.d Circuit scope t e
  circuit_side_of = side_formed s.d c.group i t e c.declares c.at

  pub given_of : CircuitGiven (origins s.d) s.d.built.order scope s.d.net path n widths t e p
  given_of = let side = circuit_side_of in record {
    sound = s.d.sound;
    scoped = c.group.scoped;
    held = c.group.held;
    typed = side.typed;
    kind = side.kind;
    kinded = side.kinded;
    parts = c.parts;
    built = c.built;
    cells = c.cells;
  }

module _ (facts : Facts) (s : Situation) (r : ℕ) (known : Known s r) where
  -- the first leaf of a variable in scope, at an earlier history
  pub earlier_leaf : {path : List ℕ} {b : Block} {g : Group} {scope : List Variable} {γ : Thunks} → Stands s path b → Inside s.d path b g scope γ → b.sort ≡ Circuit → GroupFormed s.d Circuit g scope → (x : ℕ) (t : TypeTree) → slice_get (types_in scope) x ≡ Some t → (h : History) → Earlier s h
      → VariableLeaf s.d.program s.d.net path scope γ h x zero
  earlier_leaf {path} {b} {g} {scope} {γ} stands inside circuit group x t typed h before_this =
      let there = found_before_map (λ (v : Variable). v.ty) scope x t typed in
      let held = group.held x there.0 there.1 in
      let all = known.earlier path h b g scope γ before_this.shorter before_this.past before_this.fits (block_stays facts s.laws.measure s.d s.inputs stands circuit h) inside in
      subst (λ sort. HaveBits s.d sort path h scope γ) circuit all x zero there.0 held.0 there.1 held.1 (parts_some held.1)

-- the variable to which something is applied last
pub operand_typed : {s : Setting} {vars : List TypeTree} {f : TermTree} {x : ℕ} {u : TypeTree} → HasType s [] vars (app f (var x)) u → (t : TypeTree) × (slice_get vars x ≡ Some t)
operand_typed (h_app {c = c} typed given same) = (c, var_at given)

pub function_typed : {s : Setting} {vars : List TypeTree} {f a : TermTree} {u : TypeTree} → HasType s [] vars (app f a) u → (t : TypeTree) × HasType s [] vars f t
function_typed (h_app {a = c} {b = d} typed given same) = (fun c d, typed)
