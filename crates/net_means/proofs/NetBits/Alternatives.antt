-- The alternatives of a case: what the instance has of each, and what it makes of their terms that made definitions are whole.
use Rattle.std.proofs.Common.{Bool, List, Some, [], ap, length, refl, reverse, subst, suc, ℕ, ◌++◌, ◌∷◌, ◌≡◌}
use Rattle.std.specs.Prelude.{slice_get}
use Rattle.chw_typing.specs.Typing.{AllGive, Binds, HasType, give_and, h_case}
use Rattle.chw_terms.specs.TermTree.{Alts, Group, TermTree, alt, case_of, no_alts, var}
use Rattle.net_built.specs.Bodies.{AltsBuilt, BlockBuilt, alts_and, alts_none}
use Rattle.carrying.specs.DataLaws.{AreFor, Taken}
use Rattle.chw_typing.specs.Scopes.{AreTermTypes, Setting, declared, with_more}
use Rattle.chw_types.specs.declared.declarations.Data.{Data}
use Rattle.net_grounds.specs.Facts.{Facts}
use Rattle.net_means.proofs.Lists.{found_in_map, same_some}
use Rattle.net_means.specs.CircuitBits.Instances.{Design}
use Rattle.net_means.proofs.NetFits.Scopes.{Fits, var_at}
use Rattle.net_built.specs.Circuits.{Ground}
use Rattle.net_means.proofs.NetBits.Forms.{GroupFormed, setting, side_formed}
use Rattle.net_means.proofs.NetBits.Standing.{HasAlt, alt_here, alt_later, formed}
use Rattle.cell_bits.specs.Bearing.{HasCells}
use Rattle.net_means.specs.CircuitBits.Memories.{HasWidths}
use Rattle.net_built.specs.Data.{HaveWidths, Tested, case_cells, case_wires, chosen, chosen_wires, field_cuts, test_wires, tests, variables_from, word_of, words_of}
use Rattle.chw_typing.specs.Alternatives.{HidesNone, NoneHidden}
use Rattle.net_means.specs.SideBits.Cases.{IsFirst, alts_count, first_here, first_later}
use Rattle.chw_terms.specs.declared.term.Pattern.{Pattern}
use Rattle.chw_typing.specs.HeadTypes.{PatternOf}
use Rattle.net_built.specs.Wires.{Piece, after, ◌▸◌}
use Rattle.chw_types.specs.SameTypes.{SameTypes}
use Rattle.chw_types.specs.TypeTree.{TypeTree}
use Rattle.chw_terms.specs.declared.scene.Sort.TheVariants.{Value}
use Rattle.net_built.specs.Terms.{Variable}
use Rattle.chw_base.specs.declared.index.WireId.{WireId}
use Rattle.net_means.proofs.NetFits.ValueDrivers.{alternative, case_typed}
use Rattle.chw_meaning.specs.Values.{body_at}
use Rattle.net_built.specs.Built.{ground_of}
use Rattle.net_means.proofs.WireOrder.Looks.{looked}
use Rattle.net_means.proofs.NetBits.Insides.{piece_first, piece_rest, widths_first, widths_rest}
use Rattle.net_means.specs.SideBits.Sides.{types_in}
use Rattle.rewriting.specs.Origins.{with_origins, with_origins_alts}

-- one alternative as it is built
pub record BuiltAlt (d : Design) (path : List ℕ) (scope : List Variable) (it : Variable) (below : ℕ) (q : Pattern) (e : TermTree) (wires : List WireId) : Type 0 where
  pub fields : List TypeTree
  pub widths : List ℕ
  pub m : ℕ
  pub pattern : PatternOf d.program.datas it.ty q fields
  pub sizes : HaveWidths d.program.datas fields widths
  pub cuts : HasCells d.net path (field_cuts below it.wires widths m).cells
  pub n : ℕ
  pub piece : Piece
  pub built : BlockBuilt (ground_of d.program d.built.order) Value (reverse (variables_from m fields widths) ++ scope) n e piece wires
  pub cells : HasCells d.net path piece.cells
  pub wide : HasWidths d.net path n piece.widths

alt_first : (d : Design) (path : List ℕ) (n : ℕ) (z : Piece) {scope : List Variable} {it : Variable} {below : ℕ} {q : Pattern} {e : TermTree} {fields : List TypeTree} {p r : Piece} {wires : List WireId} (widths : List ℕ)
    → PatternOf d.program.datas it.ty q fields → HaveWidths d.program.datas fields widths → p ≡ field_cuts below it.wires widths n → BlockBuilt (ground_of d.program d.built.order) Value (reverse (variables_from n fields widths) ++ scope) (after n p) e r wires
    → HasCells d.net path (p ▸ r ▸ z).cells → HasWidths d.net path n (p ▸ r ▸ z).widths → BuiltAlt d path scope it below q e wires
alt_first d path n z {scope} {it} {below} {q} {e} {fields} {p} {r} {wires} widths pattern sizes is block has wide =
    let rest = piece_rest d.net path p (r ▸ z) has in
    let wide_rest = widths_rest d.net path n p (r ▸ z) wide in
    record {
      fields = fields;
      widths = widths;
      m = n;
      pattern = pattern;
      sizes = sizes;
      cuts = subst (λ (p : Piece). HasCells d.net path p.cells) is (piece_first d.net path p (r ▸ z) has);
      n = after n p;
      piece = r;
      built = block;
      cells = piece_first d.net path r z rest;
      wide = widths_first d.net path (after n p) r z wide_rest;
    }

-- the alternative of this number
pub record AltAt (d : Design) (path : List ℕ) (scope : List Variable) (it : Variable) (below : ℕ) (results : List (List WireId)) (k : ℕ) (q : Pattern) (e : TermTree) : Type 0 where
  pub wires : List WireId
  pub result : slice_get results k ≡ Some wires
  pub own : BuiltAlt d path scope it below q e wires

pub alt_at : (d : Design) (path : List ℕ) {scope : List Variable} {it : Variable} {below n : ℕ} {alts : Alts} {p : Piece} {results : List (List WireId)} → AltsBuilt (ground_of d.program d.built.order) scope it below n alts p results → HasCells d.net path p.cells → HasWidths d.net path n p.widths
    → {x : List Bool} {k : ℕ} {a : Taken} → IsFirst d.program.datas x alts k a → AltAt d path scope it below results k a.pattern a.body
alt_at d path alts_none has wide first = elim first [ ]
alt_at d path {n = n} (alts_and {s = z} {wires = wires} widths pattern sizes is block more) has wide (first_here holds) =
    record { wires = wires; result = refl; own = alt_first d path n z widths pattern sizes is block has wide }
alt_at d path {n = n} (alts_and {p = p} {r = r} {s = z} widths pattern sizes is block more) has wide (first_later fails rest) =
    let others = piece_rest d.net path r z (piece_rest d.net path p (r ▸ z) has) in
    let wide_others = widths_rest d.net path (after n p) r z (widths_rest d.net path n p (r ▸ z) wide) in
    let found = alt_at d path more others wide_others rest in
    record { wires = found.wires; result = found.result; own = found.own }

pub alt_zero : (d : Design) (path : List ℕ) {scope : List Variable} {it : Variable} {below n : ℕ} {q : Pattern} {e : TermTree} {more : Alts} {p : Piece} {results : List (List WireId)} → AltsBuilt (ground_of d.program d.built.order) scope it below n (alt q e more) p results → HasCells d.net path p.cells → HasWidths d.net path n p.widths
    → AltAt d path scope it below results 0 q e
alt_zero d path {n = n} (alts_and {s = z} {wires = wires} widths pattern sizes is block more) has wide = record { wires = wires; result = refl; own = alt_first d path n z widths pattern sizes is block has wide }

pub alts_for : {ground : Ground} {scope : List Variable} {it : Variable} {below n : ℕ} {alts : Alts} {p : Piece} {results : List (List WireId)} → AltsBuilt ground scope it below n alts p results → AreFor ground.datas it.ty alts
alts_for alts_none = tt
alts_for (alts_and {fields = fields} widths pattern sizes is block more) = ((fields, pattern), alts_for more)

pub results_count : {ground : Ground} {scope : List Variable} {it : Variable} {below n : ℕ} {alts : Alts} {p : Piece} {results : List (List WireId)} → AltsBuilt ground scope it below n alts p results → length results ≡ alts_count alts
results_count alts_none = refl
results_count (alts_and widths pattern sizes is block more) = ap suc (results_count more)

-- with made definitions as wholes the patterns are the same
pub words_whole : (wholes : ℕ → TermTree) (tag first : ℕ) (alts : Alts) → words_of tag first (with_origins_alts wholes alts) ≡ words_of tag first alts
unfolding with_origins
words_whole wholes tag first no_alts = refl
words_whole wholes tag first (alt q e no_alts) = refl
words_whole wholes tag first (alt q e (alt r f more)) = ap (λ ws. word_of tag first q ∷ ws) (words_whole wholes tag first (alt r f more))

pub count_whole : (wholes : ℕ → TermTree) (alts : Alts) → alts_count (with_origins_alts wholes alts) ≡ alts_count alts
unfolding with_origins
count_whole wholes no_alts = refl
count_whole wholes (alt q e more) = ap suc (count_whole wholes more)

pub for_whole : (wholes : ℕ → TermTree) (datas : List Data) (u : TypeTree) (alts : Alts) → AreFor datas u alts → AreFor datas u (with_origins_alts wholes alts)
unfolding with_origins
for_whole wholes datas u no_alts are = tt
for_whole wholes datas u (alt q e more) are = (are.0, for_whole wholes datas u more are.1)

hides_whole : (wholes : ℕ → TermTree) (q : Pattern) (alts : Alts) → HidesNone q alts → HidesNone q (with_origins_alts wholes alts)
unfolding with_origins
hides_whole wholes q no_alts h = tt
hides_whole wholes q (alt r e more) h = (h.0, hides_whole wholes q more h.1)

pub hidden_whole : (wholes : ℕ → TermTree) (alts : Alts) → NoneHidden alts → NoneHidden (with_origins_alts wholes alts)
unfolding with_origins
hidden_whole wholes no_alts h = tt
hidden_whole wholes (alt q e more) h = (hides_whole wholes q more h.0, hidden_whole wholes more h.1)

pub first_whole : (wholes : ℕ → TermTree) {datas : List Data} {x : List Bool} {alts : Alts} {k : ℕ} {a : Taken} → IsFirst datas x alts k a → IsFirst datas x (with_origins_alts wholes alts) k (record { pattern = a.pattern; body = with_origins wholes a.body })
unfolding with_origins
first_whole wholes (first_here holds) = first_here holds
first_whole wholes (first_later fails rest) = first_later fails (first_whole wholes rest)

pub case_whole : (wholes : ℕ → TermTree) (x : ℕ) (alts : Alts) → with_origins wholes (case_of (var x) alts) ≡ case_of (var x) (with_origins_alts wholes alts)
unfolding with_origins
case_whole wholes x alts = refl

pub alt_whole : (wholes : ℕ → TermTree) (q : Pattern) (e : TermTree) (more : Alts) → with_origins_alts wholes (alt q e more) ≡ alt q (with_origins wholes e) (with_origins_alts wholes more)
unfolding with_origins
alt_whole wholes q e more = refl

-- so the cells and the wires of the case are the same
pub cells_whole : (wholes : ℕ → TermTree) (on : Tested) (alts : Alts) (w n : ℕ) (p : Piece) (results : List (List WireId)) → case_cells on (with_origins_alts wholes alts) w n p results ≡ case_cells on alts w n p results
cells_whole wholes on alts w n p results =
    let m : ℕ = after (after n on.cells) p in
    ap (λ words. on.cells ▸ p ▸ tests on.bits on.wires words m ▸ chosen w (test_wires on.bits on.wires words m) results (after m (tests on.bits on.wires words m))) (words_whole wholes on.bits on.first alts)

pub wires_whole : (wholes : ℕ → TermTree) (on : Tested) (alts : Alts) (w n : ℕ) (p : Piece) (results : List (List WireId)) → case_wires on (with_origins_alts wholes alts) w n p results ≡ case_wires on alts w n p results
wires_whole wholes on alts w n p results =
    let m : ℕ = after (after n on.cells) p in
    ap (λ words. chosen_wires w (test_wires on.bits on.wires words m) results (after m (tests on.bits on.wires words m))) (words_whole wholes on.bits on.first alts)

-- the type of an alternative's result is that of the case
record AltTyped (d : Design) (scope : List Variable) (u v : TypeTree) (q : Pattern) (f : TermTree) : Type 0 where
  bnd : List TypeTree
  binding : Binds (setting d) [] u q bnd
  type : TypeTree
  typed : HasType (setting d) [] (with_more bnd (types_in scope)) f type
  same : SameTypes v type

alt_typed : (d : Design) (scope : List Variable) {u v : TypeTree} {alts : Alts} {q : Pattern} {f : TermTree} → HasAlt alts q f → AllGive (setting d) [] (types_in scope) u v alts → AltTyped d scope u v q f
alt_typed d scope alt_here (give_and {bound = bnd} {v = v} b typed same more) = record { bnd = bnd; binding = b; type = v; typed = typed; same = same }
alt_typed d scope (alt_later rest) (give_and b typed same more) = alt_typed d scope rest more

pub alt_result : Facts → (d : Design) (m : ℕ) {g : Group} {scope : List Variable} {x : ℕ} {alts : Alts} {q : Pattern} {f : TermTree} {it : Variable} (i : ℕ) (fields : List TypeTree) (widths : List ℕ) (t v : TypeTree) → GroupFormed d Value g scope → body_at g i ≡ Some (case_of (var x) alts) → slice_get (declared g) i ≡ Some t → HasAlt alts q f
    → slice_get scope x ≡ Some it → PatternOf d.program.datas it.ty q fields → HaveWidths d.program.datas fields widths → AreTermTypes (setting d) [] (types_in (reverse (variables_from m fields widths) ++ scope)) → HasType (setting d) [] (types_in (reverse (variables_from m fields widths) ++ scope)) f v → SameTypes v t
alt_result facts d m {g} {scope} {x} {alts} {q} {f} {it} i fields widths t v formed at declares has known pattern have scoped typed =
    let side = side_formed d formed i t (case_of (var x) alts) declares at in
    let c = case_typed facts side.typed.has in
    let a = alt_typed d scope has c.give in
    let is : slice_get (types_in scope) x ≡ Some it.ty = found_in_map (λ (v : Variable). v.ty) scope x it known in
    let own : c.of ≡ it.ty = same_some (var_at c.typed) is in
    let fit : Fits (types_in scope) scope = record { same = facts.scopes.are_same_self (types_in scope) } in
    let there = alternative facts (setting d) (types_in scope) a.bnd fields scope q c.of it.ty c.kind m widths d.sound fit c.has (subst (SameTypes c.of) own (facts.same.same_self c.of)) a.binding pattern have in
    let inner = facts.scopes.typed_more (setting d) [] a.bnd (types_in scope) a.binding.typed formed.scoped in
    let one : SameTypes a.type v = facts.terms.one_type a.typed typed d.sound inner scoped there.fit.same in
    facts.same.same_turned (facts.same.same_through side.typed.same (facts.same.same_through a.same one))

pub none_hidden : {s : Setting} {vars : List TypeTree} {e : TermTree} {alts : Alts} {t : TypeTree} → HasType s [] vars (case_of e alts) t → NoneHidden alts
none_hidden (h_case typed looked kind b has of_kind functions more hidden) = hidden
