-- Block RAMs.
use Rattle.std.specs.Prelude.{slice_get, false}
use Rattle.std.proofs.lemmas.List.{length-take-le}
use Rattle.std.proofs.Math.Seq.{take-length}
use Rattle.std.proofs.Common.{◌≡◌, ◌≤◌, ◌+◌, ℕ, zero, suc, Bool, true, List, [], ◌∷◌, length, take, Some, refl, sym, ap, ◌∙◌, subst, arith}
use Rattle.chw_base.specs.declared.index.WireId.{WireId}
use Rattle.chw_base.specs.declared.limits.TheConstants.{VECTOR_LENGTH}
use Rattle.chw_types.specs.declared.declarations.Data.{Data}
use Rattle.chw_types.specs.declared.kind.Kind.{Kind}
use Rattle.chw_types.specs.declared.kind.Kind.TheVariants.{Val, Dom, Nat}
use Rattle.chw_types.specs.declared.kind.Scalar.TheVariants.{U}
use Rattle.chw_types.specs.Polynomials.{ended}
use Rattle.chw_types.specs.Kinds.{KindOf, KindsOf, kind_and}
use Rattle.chw_types.specs.SamePromises.{SameValues, natural_value}
use Rattle.chw_types.specs.SameTypes.{SameTypes}
use Rattle.chw_types.specs.TypeMoves.{sub}
use Rattle.chw_types.specs.TypeTree.{TypeTree, TypeTrees, ty_var, nat_lit, nat_sum, domain, scalar, vector, signal, type_and}
use Rattle.type_laws.specs.SameKept.{FieldsKeepSame}
use Rattle.chw_prims.specs.declared.prim.Primitive.TheVariants.{BlockRam}
use Rattle.chw_prims.specs.Schemas.{maybe, pair}
use Rattle.chw_terms.specs.declared.program.Program.{Program}
use Rattle.chw_terms.specs.declared.scene.Sort.TheVariants.{Circuit}
use Rattle.chw_terms.specs.Evaluated.{evaluated}
use Rattle.chw_terms.specs.TermTree.{TermTree, var, prim}
use Rattle.chw_typing.specs.Programs.{IsSound, setting_of}
use Rattle.chw_typing.specs.Scopes.{Setting, HasKind, AreTermTypes}
use Rattle.chw_typing.specs.Typing.{HasType, HasTypeUpTo}
use Rattle.chw_typing.specs.Alike.{AreLike}
use Rattle.rewriting.specs.Origins.{Origins, setting_at}
use Rattle.normal_forms.specs.Circuits.{beginning_with, content_type}
use Rattle.chw_layout.specs.Datum.{Datum}
use Rattle.chw_layout.specs.Measured.{closed_value, HasWidth}
use Rattle.layout_laws.specs.ZeroThere.{ZeroExists}
use Rattle.chw_meaning.specs.Values.{History, Value, Thunk, closed, field, known, Thunks, closed_type, value_of}
use Rattle.chw_meaning.specs.Steps.{Ram, remembers, in_domain}
use Rattle.chw_meaning.specs.Eval.{dom, Forces, f_closed, f_known, Runs, Looks}
use Rattle.carrying.specs.Carrying.{Holds, Shows, shows_nothing, shows_bits}
use Rattle.netlist.specs.NetValue.{Memory}
use Rattle.netlist.specs.declared.net.Net.{Net}
use Rattle.net_built.specs.Circuits.{Ground as Built, CircuitCells, of_block_ram}
use Rattle.net_built.specs.Data.{HasParts}
use Rattle.net_built.specs.Memories.{HasWords, memory}
use Rattle.net_built.specs.Terms.{Variable, wires_at, wires_of}
use Rattle.net_built.specs.Wires.{wire_count, Piece, last_wires}
use Rattle.cell_bits.specs.Bearing.{HasCells, Bears}
use Rattle.net_grounds.specs.Facts.{Facts}
use Rattle.net_means.proofs.SideBits.Operands.{sound_alone}
use Rattle.net_means.proofs.SideBits.Vectors.{vector_within}
use Rattle.net_means.specs.SideBits.Sides.{ground_of, types_in}
use Rattle.net_means.specs.CircuitBits.Leaves.{part_wires, LeafHas, VariableLeaf, AreHeld, CircuitGiven}
use Rattle.net_means.specs.CircuitBits.Memories.{IsEarlier, HasWidths, MemoryTakes}
use Rattle.net_means.proofs.CircuitBits.Bodies.{empty_leaf}
use Rattle.net_means.proofs.CircuitBits.Contents.{content_shows}
use Rattle.net_means.proofs.CircuitBits.Memories.{WriteHas, no_write, a_write, ReadHas, ZeroHas, ram_has}
use Rattle.net_means.proofs.CircuitBits.MemoryCells.{ram_wire, ram_of, has_ram, has_inputs, last_of_memory, has_width}
use Rattle.net_means.proofs.CircuitBits.Ports.{payload_like}
use Rattle.net_means.proofs.CircuitBits.Signals.{wires_there, operand_like, signal_part, SignalHas, from_signal, operand_signal}
use Rattle.net_means.proofs.CircuitBits.Writes.{WriteShown, nothing_written, value_written, write_width, write_shown}

-- what the cells are
pub record MemoryPiece (ground : Built) (scope : List Variable) (n d : ℕ) (widths : List ℕ) (k a : TypeTree) (c x y : TermTree) (p : Piece) : Type 0 where
  width : ℕ
  are : widths ≡ width ∷ []
  words : List (List Bool)
  has : HasWords ground.datas a c words
  is : p ≡ memory width (closed_value k) n (dom d) words (wires_of scope x) (wires_of scope y)

pub memory_piece : {ground : Built} {scope : List Variable} {n d : ℕ} {widths : List ℕ} {m k a : TypeTree} {c x y : TermTree} {p : Piece} → CircuitCells ground scope n widths (prim BlockRam) (domain d ∷ m ∷ k ∷ a ∷ []) (c ∷ x ∷ y ∷ []) p → MemoryPiece ground scope n d widths k a c x y p
memory_piece (of_block_ram {w = w} {words = words} has) = record { width = w; are = refl; words = words; has = has; is = refl }

-- the types of its operands
pub record MemoryTyped (s : Setting) (vars : List TypeTree) (d m k a : TypeTree) (c : TermTree) (x y : ℕ) (t : TypeTree) : Type 0 where
  constant : HasTypeUpTo s [] vars c (content_type m a)
  reads : HasTypeUpTo s [] vars (var x) (signal d (scalar U k))
  writes : HasTypeUpTo s [] vars (var y) (signal d (maybe (pair (scalar U k) a)))
  same : SameTypes (signal d a) t
  size_kind : KindOf s.datas s.domains [] m Nat
  address_kind : KindOf s.datas s.domains [] k Nat
  kind : KindOf s.datas s.domains [] a Val

pub memory_typed : Facts → (s : Setting) (vars : List TypeTree) (d m k a : TypeTree) (c : TermTree) (x y : ℕ) (t : TypeTree) → IsSound s → AreTermTypes s [] vars → HasType s [] vars (beginning_with BlockRam (d ∷ m ∷ k ∷ a ∷ []) c (x ∷ y ∷ [])) t → MemoryTyped s vars d m k a c x y t
unfolding sub
memory_typed facts s vars d m k a c x y t sound scoped typed =
    let at = facts.terms.prim_at_arguments s [] vars BlockRam (Dom ∷ Nat ∷ Nat ∷ Val ∷ []) (vector (nat_sum (ty_var 2) (nat_lit 1)) (ty_var 0) ∷ signal (ty_var 3) (scalar U (ty_var 1)) ∷ signal (ty_var 3) (maybe (pair (scalar U (ty_var 1)) (ty_var 0))) ∷ []) (signal (ty_var 3) (ty_var 0)) (d ∷ m ∷ k ∷ a ∷ []) (c ∷ var x ∷ var y ∷ []) t sound scoped refl refl refl typed in
    let kinds = the_kinds at.have in
    record {
      constant = at.args_given.0;
      reads = at.args_given.1.0;
      writes = at.args_given.1.1.0;
      same = at.gives;
      size_kind = kinds.0;
      address_kind = kinds.1;
      kind = kinds.2;
    }
  where
    the_kinds : {ts : TypeTrees} → KindsOf s.datas s.domains [] (type_and d (type_and m (type_and k (type_and a ts)))) (Dom ∷ Nat ∷ Nat ∷ Val ∷ []) → KindOf s.datas s.domains [] m Nat × KindOf s.datas s.domains [] k Nat × KindOf s.datas s.domains [] a Val
    the_kinds (kind_and i (kind_and j (kind_and k (kind_and l more)))) = (j, k, l)

-- a closed type in an environment means the same
pub closed_same : Facts → {datas : List Data} {domains : ℕ} {t : TypeTree} {j : Kind} → KindOf datas domains [] t j → (δ : TypeTrees) → SameTypes t (evaluated (closed_type t δ))
closed_same facts {t = t} kind δ = subst (λ u. SameTypes u (evaluated (closed_type t δ))) (facts.kinds.closed_put kind _) (facts.same.same_evaluated (closed_type t δ))

-- a domain is evaluated
domain_stays : (d : ℕ) (δ : TypeTrees) → domain d ≡ evaluated (closed_type (domain d) δ)
unfolding evaluated sub
domain_stays d δ = refl

-- a block RAM as it is meant
abbrev ram_at : (d : ℕ) (m k a : TypeTree) (c : TermTree) (x y : ℕ) (γ : Thunks) (δ : TypeTrees) → Ram
ram_at d m k a c x y γ δ = record {
  dom = d;
  size = closed_value (nat_sum (evaluated (closed_type m δ)) (nat_lit 1));
  address = closed_value (evaluated (closed_type k δ));
  payload = evaluated (closed_type a δ);
  content = closed c γ δ;
  read = closed (var x) γ δ;
  write = closed (var y) γ δ;
}

-- what it remembers it shows
memory_forces : Facts → (p : Program) (d : ℕ) (m k a : TypeTree) (c : TermTree) (x y : ℕ) (γ : Thunks) (δ : TypeTrees) (h : History) (n : ℕ) (v : Value) → Runs p n (remembers (ram_at d m k a c x y γ δ)) h v → (r : ℕ) × Forces p r (closed (beginning_with BlockRam (domain d ∷ m ∷ k ∷ a ∷ []) c (x ∷ y ∷ [])) γ δ) h v
memory_forces facts p d m k a c x y γ δ h n v run =
    let step = subst (λ t. Runs p n (in_domain t (λ d. remembers (ram_at d m k a c x y γ δ))) h v) (domain_stays d δ) run in
    let e = facts.prims.prim_whole p BlockRam γ δ h (domain d ∷ m ∷ k ∷ a ∷ []) (c ∷ var x ∷ var y ∷ []) refl refl n v step in
    (e.0, f_closed e.1)

-- a sum with the same natural
same_more : (m n : TypeTree) → closed_value m ≡ closed_value n → closed_value (nat_sum m (nat_lit 1)) ≡ closed_value (nat_sum n (nat_lit 1))
unfolding natural_value
same_more m n e = ap (λ i. ended (i + ended 1)) e

-- a signal of one part has all wires of its variable
record WholeSignal (p : Program) (net : Net) (path : List ℕ) (g : History) (v : TypeTree) (th : Thunk) (wires : List WireId) : Type 0 where
  width : ℕ
  wide : HasWidth p.datas v width
  bits : List Bool
  shows : Shows p v th g bits
  bears : Bears net path g wires bits

module _ (facts : Facts) (o : Origins) (scope : List Variable) (γ : Thunks) (δ : TypeTrees) (net : Net) (path : List ℕ) (values : SameValues) (keep : FieldsKeepSame) (sound : IsSound (setting_at o)) (scoped : AreTermTypes (setting_at o) [] (types_in scope)) (held : AreHeld o.program.datas scope) where
  whole_signal : (x : ℕ) (d v : TypeTree) (g : History) → HasTypeUpTo (setting_at o) [] (types_in scope) (var x) (signal d v) → VariableLeaf o.program net path scope γ g x zero → WholeSignal o.program net path g v (closed (var x) γ δ) (wires_at scope x)
  whole_signal x d v g typed has =
      let p : Program = o.program in
      let s : SignalHas p net path g v (closed (var x) γ δ) (wires_at scope x) = operand_signal facts o scope γ δ net path values keep sound scoped x d v v g typed (facts.same.same_self v) has in
      let it : Variable = has.it in
      let there = held x it has.known in
      let like = operand_like facts o scope x it (signal d v) sound scoped has.known typed in
      let at = facts.same.as_signal (facts.same.same_turned like.same) in
      let part = signal_part (subst (λ t. HasParts p.datas Circuit t there.0) at.2 there.1) in
      let kinded = subst (λ t. HasKind (setting_of p) [] t like.kind) at.2 like.has in
      let alike : AreLike (setting_of p) at.1 v = payload_like {d = at.0} kinded (facts.same.same_turned at.4) in
      let width : part.0 ≡ s.width = facts.widths.width_once (facts.same_layout.measured_same (setting_of p) (sound_alone o sound) values keep part.1 alike) s.wide in
      let wires : wires_at scope x ≡ it.wires = wires_there scope x it has.known in
      let long : wire_count (s.width ∷ []) ≡ length (wires_at scope x) =
      ap (λ w. wire_count (w ∷ [])) (sym width) ∙ ap wire_count (sym part.2) ∙ sym there.2 ∙ ap length (sym wires) in
      record {
        width = s.width;
        wide = s.wide;
        bits = s.bits;
        shows = s.shows;
        bears = subst (λ ws. Bears net path g ws s.bits) (ap (λ i. take i (wires_at scope x)) long ∙ take-length (wires_at scope x)) s.bears;
      }

-- a known data value has its value
known_value : {p : Program} {n : ℕ} {z : Datum} {h : History} {v : Value} → Forces p n (known z) h v → v ≡ value_of z
known_value f_known = refl

zero_held : Facts → {p : Program} {a : TypeTree} {z : Datum} {h : History} {bits : List Bool} (w : ℕ) → HasWidth p.datas a (suc w) → Shows p a (known z) h bits → Holds p a (value_of z) bits
zero_held facts w wide (shows_nothing none) = let bad : 0 ≡ suc w = facts.widths.width_once none wide in absurd (omega (arith, bad))
zero_held facts {p} {a} {bits = bits} w wide (shows_bits some f held) = subst (λ v. Holds p a v bits) (known_value f) held

module _ (facts : Facts) (o : Origins) (order : List ℕ) (scope : List Variable) (γ : Thunks) (δ : TypeTrees) (net : Net) (path : List ℕ) (h : History) (n : ℕ) (widths : List ℕ) (t : TypeTree) (piece : Piece) (values : SameValues) (keep : FieldsKeepSame) (zeros : ZeroExists) (d x y : ℕ) (m k a : TypeTree) (c : TermTree) (g : CircuitGiven o order scope net path n widths t (beginning_with BlockRam (domain d ∷ m ∷ k ∷ a ∷ []) c (x ∷ y ∷ [])) piece) (takes : MemoryTakes o net path scope γ h n d x y m a c piece) where
  typed : MemoryTyped (setting_at o) (types_in scope) (domain d) m k a c x y g.typed.type
  typed = memory_typed facts (setting_at o) (types_in scope) (domain d) m k a c x y g.typed.type g.sound g.scoped g.typed.has

  q : MemoryPiece (ground_of o.program order) scope n d widths k a c (var x) (var y) piece
  q = memory_piece g.built

  at : (e : TypeTree) × (v : TypeTree) × (t ≡ signal e v) × SameTypes (domain d) e × SameTypes a v
  at = facts.same.as_signal (facts.same.same_through typed.same (facts.same.same_turned g.typed.same))

  alone : IsSound (setting_of o.program)
  alone = sound_alone o g.sound

  parts : HasParts o.program.datas Circuit (signal at.0 at.1) (q.width ∷ [])
  parts = subst (λ ws. HasParts o.program.datas Circuit (signal at.0 at.1) ws) q.are (subst (λ t. HasParts o.program.datas Circuit t widths) at.2 g.parts)

  payload_wide : HasWidth o.program.datas a q.width
  payload_wide =
      let part = signal_part parts in
      let first : part.0 ∷ [] ≡ q.width ∷ [] = sym part.2 in
      let width : part.0 ≡ q.width = cc in
      let kinded : HasKind (setting_of o.program) [] (signal at.0 at.1) g.kind = subst (λ t. HasKind (setting_of o.program) [] t g.kind) at.2 g.kinded in
      facts.same_layout.measured_same (setting_of o.program) alone values keep (subst (HasWidth o.program.datas at.1) width part.1) (payload_like {d = at.0} kinded (facts.same.same_turned at.4))

  abbrev the_ram : Ram
  the_ram = ram_at d m k a c x y γ δ

  -- where the words have bits
  module _ (w : ℕ) (wide : q.width ≡ suc w) where
    abbrev mem : Memory
    mem = ram_of (suc w) (closed_value k) n (dom d) q.words (wires_at scope x) (wires_at scope y)

    is : piece ≡ memory (suc w) (closed_value k) n (dom d) q.words (wires_at scope x) (wires_at scope y)
    is = q.is ∙ ap (λ i. memory i (closed_value k) n (dom d) q.words (wires_at scope x) (wires_at scope y)) wide

    cells : HasCells net path (memory (suc w) (closed_value k) n (dom d) q.words (wires_at scope x) (wires_at scope y)).cells
    cells = subst (λ (r : Piece). HasCells net path r.cells) is g.cells

    has_payload : HasWidth o.program.datas a (suc w)
    has_payload = subst (HasWidth o.program.datas a) wide payload_wide

    address_is : closed_value k ≡ the_ram.address
    address_is = facts.same_layout.same_number values (closed_same facts typed.address_kind δ)

    size_is : closed_value (nat_sum m (nat_lit 1)) ≡ the_ram.size
    size_is = same_more m (evaluated (closed_type m δ)) (facts.same_layout.same_number values (closed_same facts typed.size_kind δ))

    -- a tick at which the address and the write have bits
    at_tick : (k' : History) → (r : WholeSignal o.program net path k' (scalar U k) (closed (var x) γ δ) (wires_at scope x)) → (bits : List Bool) → length bits ≡ suc (closed_value k + suc w) → Bears net path k' (wires_at scope y) bits
        → WriteShown o.program k a (closed (var y) γ δ) k' (closed_value k) (suc w) bits → ReadHas o.program net path the_ram mem k' × WriteHas o.program net path the_ram mem a k'
    at_tick g' r bits size bears shown =
        let p : Program = o.program in
        let narrow_enough : length r.bits ≡ closed_value k = facts.shows.shown_length r.shows r.wide ∙ facts.widths.scalar_width r.wide in
        let reads = facts.shows.shown_looks r.shows in
        let looks : Looks p reads.0 the_ram.address (closed (var x) γ δ) g' r.bits = subst (λ i. Looks p reads.0 i (closed (var x) γ δ) g' r.bits) (narrow_enough ∙ address_is) reads.1 in
        by bits size bears shown looks narrow_enough
      where
        by : (bits : List Bool) → length bits ≡ suc (closed_value k + suc w) → Bears net path g' (wires_at scope y) bits → WriteShown o.program k a (closed (var y) γ δ) g' (closed_value k) (suc w) bits
            → {turns : ℕ} → Looks o.program turns the_ram.address (closed (var x) γ δ) g' r.bits → length r.bits ≡ closed_value k → ReadHas o.program net path the_ram mem g' × WriteHas o.program net path the_ram mem a g'
        by _ size bears (nothing_written {rest = rest} u) {turns} looks long =
            let i = has_inputs facts net path w (closed_value k) n (dom d) q.words (wires_at scope x) (wires_at scope y) cells g' r.bits false rest r.bears long bears (omega (arith, size)) in
            (record { bits = r.bits; turns = turns; looks = looks; value = i.read }, no_write (take (closed_value k) rest) u.forces i.enable i.place)
        by _ size bears (value_written {rest = rest} u) {turns} looks long =
            let i = has_inputs facts net path w (closed_value k) n (dom d) q.words (wires_at scope x) (wires_at scope y) cells g' r.bits true rest r.bears long bears (omega (arith, size)) in
            let place = facts.shows.shown_looks u.place in
            let short : length (take (closed_value k) rest) ≡ closed_value k = length-take-le (closed_value k) rest (omega (arith, size)) in
            let at_place : Looks o.program place.0 the_ram.address (field 1 u.couple) g' (take (closed_value k) rest) = subst (λ j. Looks o.program place.0 j (field 1 u.couple) g' (take (closed_value k) rest)) (short ∙ address_is) place.1 in
            (record { bits = r.bits; turns = turns; looks = looks; value = i.read }, a_write u.forces at_place u.value i.enable i.place i.value)

    tick_has : (k' : History) → IsEarlier d h k' → ReadHas o.program net path the_ram mem k' × WriteHas o.program net path the_ram mem a k'
    tick_has g' earlier =
        let p : Program = o.program in
        let r = whole_signal facts o scope γ δ net path values keep g.sound g.scoped g.held x (domain d) (scalar U k) g' typed.reads (takes.read g' earlier) in
        let s = whole_signal facts o scope γ δ net path values keep g.sound g.scoped g.held y (domain d) (maybe (pair (scalar U k) a)) g' typed.writes (takes.write g' earlier) in
        let sized : HasWidth p.datas (scalar U k) (closed_value k) = subst (HasWidth p.datas (scalar U k)) (facts.widths.scalar_width r.wide) r.wide in
        let long : length s.bits ≡ suc (closed_value k + suc w) = facts.shows.shown_length s.shows s.wide ∙ write_width facts p g.sound.begins.0 g.sound.begins.1 k a (closed_value k) (suc w) sized has_payload s.width s.wide in
        at_tick g' r s.bits long s.bears (write_shown facts p g.sound.begins.0 g.sound.begins.1 k a (closed_value k) (suc w) sized has_payload (closed (var y) γ δ) g' s.bits s.shows)

    zero_has : ZeroHas o.program the_ram a (suc w)
    zero_has =
        let p : Program = o.program in
        let z = zeros p.datas a (suc w) takes.constructors has_payload in
        let like : AreLike (setting_of p) a (evaluated (closed_type a δ)) = record { kind = Val; has = typed.kind; same = closed_same facts typed.kind δ } in
        record {
          zero_value = z.0;
          is = facts.same_layout.zero_same (setting_of p) alone values keep z.1 like;
          holds = zero_held facts w has_payload (facts.shows.known_shows (suc w) has_payload (facts.encodings.zero_bits has_payload z.1) h);
        }

    wide_has : LeafHas o.program net path h t (closed (beginning_with BlockRam (domain d ∷ m ∷ k ∷ a ∷ []) c (x ∷ y ∷ [])) γ δ) (last_wires n piece widths) zero
    wide_has =
        let p : Program = o.program in
        let small : closed_value (nat_sum m (nat_lit 1)) ≤ VECTOR_LENGTH = vector_within facts takes.wide in
        let content = content_shows facts o (types_in scope) γ δ values keep g.sound g.scoped takes.constant (nat_sum m (nat_lit 1)) a (suc w) q.words q.has has_payload typed.constant small in
        let r = ram_has facts p net path the_ram mem a (w, has_payload) refl (content.0 ∙ size_is) (omega (arith, small, size_is))
        (λ i l. let one = content.1 i (omega (arith, l, content.0, size_is)) in record { bits = one.bits; word = one.word; shows = one.shows })
        (ram_wire (suc w) (closed_value k) n (wires_at scope x) (wires_at scope y)) h (suc w) zero_has
        (has_ram facts net path w (closed_value k) n (dom d) q.words (wires_at scope x) (wires_at scope y) cells)
        (has_width facts net path w (closed_value k) n (dom d) q.words (wires_at scope x) (wires_at scope y) cells (subst (λ (r : Piece). HasWidths net path n r.widths) is takes.widths))
        (λ k' e. (tick_has k' e).1) (λ k' e. (tick_has k' e).0) in
        let forces = memory_forces facts p d m k a c x y γ δ h r.turns r.value r.runs in
        let shows = facts.shows.shown_same p alone values keep (facts.shows.held_shows (suc w) has_payload forces.1 r.holds) (record { kind = Val; has = typed.kind; same = at.4 }) in
        let size : length r.bits ≡ suc w = facts.shows.held_length r.holds has_payload in
        let bears : Bears net path h (part_wires zero (suc w ∷ []) (last_wires n (memory (suc w) (closed_value k) n (dom d) q.words (wires_at scope x) (wires_at scope y)) (suc w ∷ []))) r.bits =
        subst (λ ws. Bears net path h (part_wires zero (suc w ∷ []) ws) r.bits) (sym (last_of_memory facts net path w (closed_value k) n (dom d) q.words (wires_at scope x) (wires_at scope y) cells))
        (facts.cells.bears_at net path h (ram_wire (suc w) (closed_value k) n (wires_at scope x) (wires_at scope y)) (suc w) r.bits size (λ some. r.on_wire)) in
        let there = from_signal (subst (λ i. HasParts p.datas Circuit (signal at.0 at.1) (i ∷ [])) wide parts) shows bears in
        subst (λ t. LeafHas p net path h t (closed (beginning_with BlockRam (domain d ∷ m ∷ k ∷ a ∷ []) c (x ∷ y ∷ [])) γ δ) (last_wires n piece widths) zero) (sym at.2)
        (subst (λ ws. LeafHas p net path h (signal at.0 at.1) (closed (beginning_with BlockRam (domain d ∷ m ∷ k ∷ a ∷ []) c (x ∷ y ∷ [])) γ δ) (last_wires n piece ws) zero) (sym (q.are ∙ ap (λ i. i ∷ []) wide))
        (subst (λ (r : Piece). LeafHas p net path h (signal at.0 at.1) (closed (beginning_with BlockRam (domain d ∷ m ∷ k ∷ a ∷ []) c (x ∷ y ∷ [])) γ δ) (last_wires n r (suc w ∷ [])) zero) (sym is) there))

  pub memory_has : LeafHas o.program net path h t (closed (beginning_with BlockRam (domain d ∷ m ∷ k ∷ a ∷ []) c (x ∷ y ∷ [])) γ δ) (last_wires n piece widths) zero
  memory_has = by q.width refl
    where
      by : (w : ℕ) → q.width ≡ w → LeafHas o.program net path h t (closed (beginning_with BlockRam (domain d ∷ m ∷ k ∷ a ∷ []) c (x ∷ y ∷ [])) γ δ) (last_wires n piece widths) zero
      by zero e = empty_leaf facts o.program net path h t (closed (beginning_with BlockRam (domain d ∷ m ∷ k ∷ a ∷ []) c (x ∷ y ∷ [])) γ δ) (last_wires n piece widths) widths zero g.parts (ap (λ (ws : List ℕ). slice_get ws zero) q.are ∙ ap (λ w. Some w) e)
      by (suc w) e = wide_has w e
