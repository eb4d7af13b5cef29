-- Uses: what goes in, what comes out, and what a use has.
use Rattle.std.specs.Prelude.{slice_get}
use Rattle.std.proofs.Common.{◌≡◌, ◌<◌, ℕ, zero, suc, ◌+◌, Bool, List, [], ◌∷◌, ◌++◌, length, map, Some, refl, sym, ap, ◌∙◌, subst, arith}
use Rattle.chw_base.specs.declared.index.WireId.{WireId}
use Rattle.chw_types.specs.SamePromises.{SameValues}
use Rattle.chw_types.specs.TypeTree.{TypeTree, TypeTrees, signal}
use Rattle.type_laws.specs.SameKept.{FieldsKeepSame}
use Rattle.chw_terms.specs.declared.program.Program.{Program}
use Rattle.chw_terms.specs.declared.scene.Sort.TheVariants.{Circuit}
use Rattle.chw_terms.specs.TermTree.{TermTree, var}
use Rattle.chw_typing.specs.Programs.{IsSound, setting_of}
use Rattle.chw_typing.specs.Alike.{AreLike}
use Rattle.normal_forms.specs.Values.{on_names}
use Rattle.chw_meaning.specs.Values.{History, Thunk, closed, Thunks}
use Rattle.carrying.specs.Carrying.{Shows}
use Rattle.carrying.specs.TermLaws.{onto, under_lambdas, each_closed}
use Rattle.netlist.specs.declared.net.Cell.TheVariants.{Use}
use Rattle.netlist.specs.declared.net.Module.{Module}
use Rattle.netlist.specs.declared.net.Net.{Net}
use Rattle.use_laws.specs.ValueIn.{HasUseAt, HasCellAt, IsModuleAt, used as used_at, enters, leaves}
use Rattle.net_built.specs.Circuits.{Ground, place_in, module_of, used}
use Rattle.net_built.specs.Data.{HasParts}
use Rattle.net_built.specs.Wires.{wire, wire_count, new_wires, wires_from}
use Rattle.cell_bits.specs.Bearing.{HasCells, Bears, bears_nothing, bears_bits}
use Rattle.net_grounds.specs.Facts.{Facts}
use Rattle.net_means.specs.SideBits.Sides.{SideHas}
use Rattle.net_means.specs.CircuitBits.Leaves.{HasAllOf, part_wires, LeafHas}
use Rattle.net_means.specs.CircuitBits.Uses.{IsLiftOf, samples, UsedAt}
use Rattle.net_means.proofs.CircuitBits.FieldLeaves.{behind, in_front}
use Rattle.net_means.proofs.CircuitBits.Follow.{call_follows, lift_follows}
use Rattle.net_means.proofs.CircuitBits.Names.{leaf_along}
use Rattle.net_means.proofs.CircuitBits.Ports.{parts_along}
use Rattle.net_means.proofs.CircuitBits.Signals.{signal_part, from_signal}

-- the cell of a use that drives a wire
use_cell : (ground : Ground) (m n : ℕ) (reads : List WireId) (widths : List ℕ) → 0 < wire_count widths → slice_get (used ground m n reads widths).cells 0 ≡ Some (Use (module_of ground m) reads (new_wires n widths))
use_cell ground m n reads [] some = absurd (omega (arith, some))
use_cell ground m n reads (zero ∷ widths) some = use_cell ground m n reads widths some
use_cell ground m n reads (suc w ∷ widths) some = refl

pub use_there : (net : Net) (path : List ℕ) (ground : Ground) (m n : ℕ) (reads : List WireId) (widths : List ℕ) (inner : Module) → HasCells net path (used ground m n reads widths).cells → 0 < wire_count widths → slice_get net.modules (place_in ground.order m) ≡ Some inner → UsedAt net path reads (new_wires n widths) inner
use_there net path ground m n reads widths inner has some there =
    let cell : HasCellAt net path (Use (module_of ground m) reads (new_wires n widths)) = has 0 (Use (module_of ground m) reads (new_wires n widths)) (use_cell ground m n reads widths some) in
    record {
      place = cell.place;
      stands = record { k = module_of ground m; m = cell.m; at = cell.at; stands = cell.stands };
      is = used_at path cell.place cell.m inner (module_of ground m) reads (new_wires n widths) cell.at cell.stands there;
    }

module _ (net : Net) (path : List ℕ) (h : History) (place : ℕ) (reads drives : List WireId) (there : HasUseAt net path place reads drives) where
  -- of an operand's parts that are read from this place on
  enters_from : (k n : ℕ) (widths : List ℕ) (wires : List WireId) (b : List Bool) → ((i m : ℕ) (r : WireId) → m ≡ n + i → slice_get wires i ≡ Some r → slice_get reads m ≡ Some r) → slice_get widths k ≡ Some (length b) → Bears net path h (part_wires k widths wires) b
      → Bears net (place ∷ path) h (part_wires k widths (wires_from n (wire_count widths))) b
  enters_from k n [] wires b at e bears = absurd cc
  enters_from zero n (zero ∷ widths) wires b at e bears = empty bears
    where
      empty : {b : List Bool} → Bears net path h [] b → Bears net (place ∷ path) h [] b
      empty bears_nothing = bears_nothing
  enters_from zero n (suc w ∷ widths) [] b at e bears = let long : suc w ≡ length b = cc in absurd (none bears long)
    where
      none : {b : List Bool} → Bears net path h [] b → suc w ≡ length b → ⊥
      none bears_nothing long = absurd (omega (arith, long))
  enters_from zero n (suc w ∷ widths) (a ∷ wires) b at e bears = one bears
    where
      one : {b : List Bool} → Bears net path h (a ∷ []) b → Bears net (place ∷ path) h (wire n ∷ []) b
      one (bears_bits {bit = bit} {bits = bits} value) = bears_bits (enters path place n reads drives a h (bit ∷ bits) there (at zero n a (omega arith) refl) value)
  enters_from (suc k) n (zero ∷ widths) wires b at e bears = enters_from k n widths wires b at e bears
  enters_from (suc k) n (suc w ∷ widths) [] b at e bears = enters_from k (n + 1) widths [] b (λ i m r f g. absurd cc) e bears
  enters_from (suc k) n (suc w ∷ widths) (a ∷ wires) b at e bears = enters_from k (n + 1) widths wires b (λ i m r f g. at (suc i) m r (omega (arith, f)) g) e bears

  -- of a result's parts that are driven, and put out, from this place on
  leaves_from : (inner : Module) → IsModuleAt net (place ∷ path) inner → (k n d : ℕ) (widths : List ℕ) (outs : List WireId) (b : List Bool) → ((i m : ℕ) (o : WireId) → m ≡ d + i → slice_get outs i ≡ Some o → slice_get inner.outputs m ≡ Some o) → ((i m : ℕ) (w : WireId) → m ≡ d + i → slice_get (wires_from n (wire_count widths)) i ≡ Some w → slice_get drives m ≡ Some w) → slice_get widths k ≡ Some (length b) → Bears net (place ∷ path) h (part_wires k widths outs) b
      → Bears net path h (part_wires k widths (wires_from n (wire_count widths))) b
  leaves_from inner is k n d [] outs b from to e bears = absurd cc
  leaves_from inner is zero n d (zero ∷ widths) outs b from to e bears = empty bears
    where
      empty : {b : List Bool} → Bears net (place ∷ path) h [] b → Bears net path h [] b
      empty bears_nothing = bears_nothing
  leaves_from inner is zero n d (suc w ∷ widths) [] b from to e bears = let long : suc w ≡ length b = cc in absurd (none bears long)
    where
      none : {b : List Bool} → Bears net (place ∷ path) h [] b → suc w ≡ length b → ⊥
      none bears_nothing long = absurd (omega (arith, long))
  leaves_from inner is zero n d (suc w ∷ widths) (a ∷ outs) b from to e bears = one bears
    where
      one : {b : List Bool} → Bears net (place ∷ path) h (a ∷ []) b → Bears net path h (wire n ∷ []) b
      one (bears_bits {bit = bit} {bits = bits} value) = bears_bits {w = wire n} (leaves path place d reads drives inner (wire n) a h (bit ∷ bits) there is (to zero d (wire n) (omega arith) refl) (from zero d a (omega arith) refl) value)
  leaves_from inner is (suc k) n d (zero ∷ widths) outs b from to e bears = leaves_from inner is k n d widths outs b from to e bears
  leaves_from inner is (suc k) n d (suc w ∷ widths) [] b from to e bears = leaves_from inner is k (n + 1) (d + 1) widths [] b (λ i m o f g. absurd cc) (λ i m w f g. to (suc i) m w (omega (arith, f)) g) e bears
  leaves_from inner is (suc k) n d (suc w ∷ widths) (a ∷ outs) b from to e bears = leaves_from inner is k (n + 1) (d + 1) widths outs b (λ i m o f g. from (suc i) m o (omega (arith, f)) g) (λ i m w f g. to (suc i) m w (omega (arith, f)) g) e bears

pub part_enters : (net : Net) (path : List ℕ) (h : History) (inner : Module) (front wires back drives : List WireId) (widths : List ℕ) (k : ℕ) (b : List Bool) (at : UsedAt net path (front ++ (wires ++ back)) drives inner) → slice_get widths k ≡ Some (length b) → Bears net path h (part_wires k widths wires) b
    → Bears net (at.place ∷ path) h (part_wires k widths (new_wires (length front) widths)) b
part_enters net path h inner front wires back drives widths k b at e bears =
    enters_from net path h at.place (front ++ (wires ++ back)) drives at.stands k (length front) widths wires b
    (λ i m r f g. behind front (wires ++ back) i m f ∙ in_front wires back i r g) e bears

-- the parts of a use's result have the bits of the module's outputs
pub part_leaves : (net : Net) (path : List ℕ) (h : History) (inner : Module) (n : ℕ) (widths : List ℕ) (reads : List WireId) (k : ℕ) (b : List Bool) (at : UsedAt net path reads (new_wires n widths) inner) → slice_get widths k ≡ Some (length b) → Bears net (at.place ∷ path) h (part_wires k widths inner.outputs) b
    → Bears net path h (part_wires k widths (new_wires n widths)) b
part_leaves net path h inner n widths reads k b at e bears =
    leaves_from net path h at.place reads (new_wires n widths) at.stands inner at.is k n 0 widths inner.outputs b
    (λ i m o f g. let same : m ≡ i = omega (arith, f) in ap (slice_get inner.outputs) same ∙ g)
    (λ i m w f g. let same : m ≡ i = omega (arith, f) in ap (slice_get (new_wires n widths)) same ∙ g) e bears

module _ (facts : Facts) (p : Program) (net : Net) (h : History) (values : SameValues) (keep : FieldsKeepSame) (sound : IsSound (setting_of p)) where
  pub follower_has : (path : List ℕ) (t u : TypeTree) (on th : Thunk) (wires : List WireId) (k : ℕ) → AreLike (setting_of p) t u → HasAllOf p h th on → LeafHas p net path h t on wires k → LeafHas p net path h u th wires k
  follower_has path t u on th wires k like all has =
      let parts = parts_along facts p h sound values keep on has.parts like in
      let along = leaf_along facts p sound values keep th has.widths has like all parts in
      record { widths = has.widths; parts = parts; leaf = along.leaf; is = along.is; bits = has.bits; shows = along.shows; bears = has.bears }

  pub call_has : (path : List ℕ) (params : List TypeTree) (e : TermTree) (xs : List ℕ) (γ : Thunks) (δ : TypeTrees) (t u : TypeTree) (n : ℕ) (widths : List ℕ) (reads : List WireId) (inner : Module) (k : ℕ) (at : UsedAt net path reads (new_wires n widths) inner) → AreLike (setting_of p) u t → HasParts p.datas Circuit t widths → length params ≡ length xs
      → LeafHas p net (at.place ∷ path) h u (closed e (onto (each_closed (map (λ x. var x) xs) γ δ) γ) δ) inner.outputs k
      → LeafHas p net path h t (closed (on_names (under_lambdas params e) [] xs) γ δ) (new_wires n widths) k
  call_has path params e xs γ δ t u n widths reads inner k at like parts same has =
      let th : Thunk = closed (on_names (under_lambdas params e) [] xs) γ δ in
      let along = leaf_along facts p sound values keep th widths has like (call_follows facts p h params e xs γ δ same) parts in
      let width : has.widths ≡ widths = facts.built.parts_once (parts_along facts p h sound values keep th has.parts like) parts in
      let inside : Bears net (at.place ∷ path) h (part_wires k widths inner.outputs) has.bits = subst (λ ws. Bears net (at.place ∷ path) h (part_wires k ws inner.outputs) has.bits) width has.bears in
      record {
        widths = widths;
        parts = parts;
        leaf = along.leaf;
        is = along.is;
        bits = has.bits;
        shows = along.shows;
        bears = part_leaves net path h inner n widths reads k has.bits at along.long inside;
      }

  -- the wire of a value's output, as that of a part
  as_part : (path : List ℕ) (w : ℕ) (wires : List WireId) (b : List Bool) → length b ≡ w → Bears net path h wires b → Bears net path h (part_wires zero (w ∷ []) wires) b
  as_part path zero wires b e bears_nothing = bears_nothing
  as_part path (suc w) wires b e bears_nothing = bears_nothing
  as_part path zero wires b e (bears_bits value) = absurd (omega (arith, e))
  as_part path (suc w) wires b e (bears_bits value) = bears_bits value

  pub lift_has : (path : List ℕ) (params : List TypeTree) (e f : TermTree) (xs : List TermTree) (γ : Thunks) (δ : TypeTrees) (d t u : TypeTree) (n : ℕ) (widths : List ℕ) (reads : List WireId) (inner : Module) (at : UsedAt net path reads (new_wires n widths) inner) → AreLike (setting_of p) u t → HasParts p.datas Circuit (signal d t) widths → IsLiftOf (under_lambdas params e) f xs → length params ≡ length xs
      → SideHas p (onto (samples (each_closed xs γ δ) h) γ) δ net (at.place ∷ path) h u e inner.outputs
      → LeafHas p net path h (signal d t) (closed f γ δ) (new_wires n widths) zero
  lift_has path params e f xs γ δ d t u n widths reads inner at like parts lift same has =
      let part = signal_part parts in
      let shown : Shows p t (closed f γ δ) h has.bits = facts.shows.shown_same p sound values keep (facts.shows.shows_through (lift_follows facts p h params e f xs γ δ lift same) (has.carries h)) like in
      let size : length has.bits ≡ part.0 = facts.shows.shown_length shown part.1 in
      let long : slice_get widths zero ≡ Some (length has.bits) = ap (λ (ws : List ℕ). slice_get ws zero) part.2 ∙ ap (λ w. Some w) (sym size) in
      let inside : Bears net (at.place ∷ path) h (part_wires zero widths inner.outputs) has.bits =
      subst (λ ws. Bears net (at.place ∷ path) h (part_wires zero ws inner.outputs) has.bits) (sym part.2) (as_part (at.place ∷ path) part.0 inner.outputs has.bits size has.bears) in
      from_signal parts shown (part_leaves net path h inner n widths reads zero has.bits at long inside)
