-- The body of a value in which no binding leads back to itself is built in one way, and so are
-- modules.
use Rattle.std.proofs.Common.{◌≡◌, ℕ, zero, suc, ◌+◌, ◌-◌, List, [], ◌∷◌, ◌++◌, length, reverse, Some, refl, sym, ap, ◌∙◌, subst}
use Rattle.std.specs.List.{slice_get}
use Rattle.chw_base.specs.declared.index.WireId.{WireId}
use Rattle.chw_types.specs.Arguments.{arguments}
use Rattle.chw_types.specs.TypeTree.{TypeTree}
use Rattle.chw_types.specs.TypeView.{trees_of}
use Rattle.chw_terms.specs.declared.scene.Made.{Made}
use Rattle.chw_terms.specs.declared.scene.Sort.{Sort}
use Rattle.chw_terms.specs.declared.scene.Sort.TheVariants.{Value, Circuit}
use Rattle.chw_terms.specs.Constructors.{Constructor}
use Rattle.chw_terms.specs.TermTree.{TermTree, Group, Alts}
use Rattle.chw_layout.specs.Encodes.{first_constructor}
use Rattle.chw_layout.specs.Measured.{fits, tag_width, HasWidth, MeasuredFields}
use Rattle.chw_layout.proofs.Measures.{fields_once}
use Rattle.netlist.specs.declared.net.Module.{Module}
use Rattle.net_built.specs.Bodies.{ValueCells, value_variable, value_literal, value_constructor, value_vector, value_primitive, value_element, value_element_at, value_call, BlockBuilt, block_variable, block_letrec, GroupBuilt, group_none, group_and, SideBuilt, side_of_value, side_of_case, AltsBuilt, alts_none, alts_and, BodyBuilt, body_lambda, body_block}
use Rattle.net_built.specs.Circuits.{Ground}
use Rattle.net_built.specs.Data.{HaveWidths, constructed, field_cuts, Tested, tested_of, variables_from, case_cells}
use Rattle.net_built.specs.Loops.{HasNoLoops, HaveNoLoops, HasNoLoopsIn}
use Rattle.net_built.specs.Modules.{IsModuleOf, AreModules}
use Rattle.net_built.specs.Terms.{head_of, types_of, operands_of, Variable, variable, wires_at, wires_of_all}
use Rattle.net_built.specs.Wires.{wire_count, new_wires, present, Piece, after, ◌▸◌}
use Rattle.net_built.proofs.CircuitsOnce.{body_once as circuit_body_once}
use Rattle.net_built.proofs.Parts.{same_some, width_once, widths_once, parts_once, pattern_once}
use Rattle.net_built.proofs.ValueSizes.{types_in, cons_count, same_fit, bound_types, onto_types}
use Rattle.net_built.proofs.ValueWires.{block_wires}

value_once : {ground : Ground} {s : List Variable} {n w : ℕ} {h : TermTree} {ts : List TypeTree} {es : List TermTree} {p q : Piece} → ValueCells ground s n w h ts es p → ValueCells ground s n w h ts es q → p ≡ q
value_once value_variable value_variable = refl
value_once value_literal value_literal = refl
value_once {ground} {s} {n} {w} {ts = ts} {es = es} (value_constructor {c = c} {fields = m} {it = it} i f) (value_constructor {fields = l} {it = jt} j g) =
    let same : it ≡ jt = same_some i j in
    let fields : m ≡ l = same_fit (fields_once f (subst (λ (c : Constructor). MeasuredFields ground.datas c.decl.fields (arguments (trees_of ts)) (fits l)) (sym same) g)) in
    let of : it.of ≡ jt.of = ap (λ (c : Constructor). c.of) same in
    λ i. constructed (tag_width (cons_count same i)) (c - first_constructor ground.datas (of i)) (fields i) w n (wires_of_all s es)
value_once value_vector value_vector = refl
value_once (value_primitive k) (value_primitive l) = refl
value_once (value_primitive k) value_element = absurd k
value_once (value_primitive k) value_element_at = absurd k
value_once value_element (value_primitive k) = absurd k
value_once value_element value_element = refl
value_once value_element_at (value_primitive k) = absurd k
value_once value_element_at value_element_at = refl
value_once value_call value_call = refl

-- scopes with the same types and the same wires are the same
same_scopes : (a b : List Variable) → types_in a ≡ types_in b → ((x : ℕ) → wires_at a x ≡ wires_at b x) → a ≡ b
same_scopes [] [] t h = refl
same_scopes [] (w ∷ b) t h = absurd cc
same_scopes (v ∷ a) [] t h = absurd cc
same_scopes (v ∷ a) (w ∷ b) t h =
    let head : v.ty ≡ w.ty = cc in
    let tail : types_in a ≡ types_in b = cc in
    let rest = same_scopes a b tail (λ x. h (suc x)) in
    let first : v.wires ≡ w.wires = h zero in
    λ i. variable (head i) (first i) ∷ rest i

along_piece : {p q : Piece} (n : ℕ) → p ≡ q → after n p ≡ after n q
along_piece n e = ap (λ (p : Piece). after n p) e

mutual
  side_once : {ground : Ground} {s : List Variable} {n : ℕ} {t : TypeTree} {e : TermTree} {p q : Piece} {r v : List WireId} → SideBuilt ground Value s n t e p r → SideBuilt ground Value s n t e q v → HasNoLoops e → p ≡ q
  side_once {ground} {s} {n} {e = e} {q = q} (side_of_value a cells) (side_of_value b further) free =
      value_once cells (subst (λ w. ValueCells ground s n w (head_of e) (types_of e) (operands_of e) q) (sym (width_once a b)) further)
  side_once (side_of_value a cells) (side_of_case on i h w is built) free = elim cells [ ]
  side_once (side_of_case on i h w is built) (side_of_value a cells) free = elim cells [ ]
  side_once {ground} {s} {n} (side_of_case {whole = whole} {w = w} {alts = alts} {it = it} {p = p} {results = rs} on i h a is built) (side_of_case {whole = other} {w = v} {it = jt} {p = q} {results = vs} om j k b iz others) free =
      let same : it ≡ jt = same_some i j in
      let wide : whole ≡ other = width_once h (subst (λ (v : Variable). HasWidth ground.datas v.ty other) (sym same) k) in
      let ty : it.ty ≡ jt.ty = ap (λ (v : Variable). v.ty) same in
      let wires : it.wires ≡ jt.wires = ap (λ (v : Variable). v.wires) same in
      let tested : on ≡ om = is ∙ (λ i. tested_of ground.datas (ty i) (wide i) n (wires i)) ∙ sym iz in
      let on_it = subst (λ (v : Variable). AltsBuilt ground s v (other - om.bits) (after n om.cells) alts q vs) (sym same) others in
      let on_wide = subst (λ k. AltsBuilt ground s it (k - om.bits) (after n om.cells) alts q vs) (sym wide) on_it in
      let along = subst (λ (o : Tested). AltsBuilt ground s it (whole - o.bits) (after n o.cells) alts q vs) (sym tested) on_wide in
      let rest = alts_once built along free in
      let widths = width_once a b in
      λ i. case_cells (tested i) alts (widths i) n (rest.0 i) (rest.1 i)

  alts_once : {ground : Ground} {s : List Variable} {it : Variable} {below n : ℕ} {alts : Alts} {p q : Piece} {rs vs : List (List WireId)} → AltsBuilt ground s it below n alts p rs → AltsBuilt ground s it below n alts q vs → HasNoLoopsIn alts → (p ≡ q) × (rs ≡ vs)
  alts_once alts_none alts_none free = (refl, refl)
  alts_once {ground} {s} {it} {below} {n} (alts_and {e = e} {more = further} {fields = fs} {p = p} {r = r} ws formed have is block more) (alts_and {fields = gs} {p = o} {r = q} {s = t} {wires = wires} {results = vs} us formed' have' is' block' others) free =
      let fields : fs ≡ gs = pattern_once formed formed' in
      let widths : ws ≡ us = widths_once ground.datas fs ws us have (subst (λ fs. HaveWidths ground.datas fs us) (sym fields) have') in
      let cuts : p ≡ o = is ∙ (λ i. field_cuts below it.wires (widths i) n) ∙ sym is' in
      let front : reverse (variables_from n fs ws) ≡ reverse (variables_from n gs us) = λ i. reverse (variables_from n (fields i) (widths i)) in
      let in_front = subst (λ (f : List Variable). BlockBuilt ground Value (f ++ s) (after n o) e q wires) (sym front) block' in
      let blocks = block_once block (subst (λ k. BlockBuilt ground Value (reverse (variables_from n fs ws) ++ s) k e q wires) (sym (along_piece n cuts)) in_front) free.0 in
      let start : after (after n p) r ≡ after (after n o) q = λ i. after (after n (cuts i)) (blocks.0 i) in
      let rest = alts_once more (subst (λ k. AltsBuilt ground s it below k further t vs) (sym start) others) free.1 in
      (λ i. cuts i ▸ blocks.0 i ▸ rest.0 i, λ i. blocks.1 i ∷ rest.1 i)

  block_once : {ground : Ground} {s : List Variable} {n : ℕ} {e : TermTree} {p q : Piece} {r v : List WireId} → BlockBuilt ground Value s n e p r → BlockBuilt ground Value s n e q v → HasNoLoops e → (p ≡ q) × (r ≡ v)
  block_once block_variable block_variable free = (refl, refl)
  block_once {ground} {s} {n} {q = q} (block_letrec {x = x} {g = g} b more) (block_letrec c others) free =
      let scopes : reverse b ++ s ≡ reverse c ++ s =
      same_scopes (reverse b ++ s) (reverse c ++ s) (onto_types b c s s (bound_types more ∙ sym (bound_types others)) refl)
      (λ y. block_wires (block_letrec {x = y} b more) (block_letrec {x = y} c others) refl (λ z o. refl) free) in
      (group_once more (subst (λ (u : List Variable). GroupBuilt ground Value u n g q c) (sym scopes) others) free.1, ap (λ (u : List Variable). wires_at u x) scopes)

  group_once : {ground : Ground} {s : List Variable} {n : ℕ} {g : Group} {p q : Piece} {b c : List Variable} → GroupBuilt ground Value s n g p b → GroupBuilt ground Value s n g q c → HaveNoLoops g → p ≡ q
  group_once group_none group_none free = refl
  group_once {ground} {s} {n} (group_and {g = g} side more) (group_and {bound = c} {q = q} other others) free =
      let first = side_once side other free.0 in
      let rest = group_once more (subst (λ k. GroupBuilt ground Value s k g q c) (sym (along_piece n first)) others) free.1 in
      λ i. first i ▸ rest i

value_body_once : {ground : Ground} {s : List Variable} {n : ℕ} {e : TermTree} {ins jns : List ℕ} {p q : Piece} {r v : List WireId} → BodyBuilt ground Value s n e ins p r → BodyBuilt ground Value s n e jns q v → HasNoLoops e → (ins ≡ jns) × (p ≡ q) × (r ≡ v)
value_body_once {ground} {s} {n} {q = q} {v = v} (body_lambda {t = t} {e = e} parts more) (body_lambda {inputs = jns} others further) free =
    let same = parts_once parts others in
    let rest = value_body_once more (subst (λ ws. BodyBuilt ground Value (variable t (new_wires n ws) ∷ s) (n + wire_count ws) e jns q v) (sym same) further) free in
    (λ i. present (same i) ++ rest.0 i, rest.1, rest.2)
value_body_once (body_lambda parts more) (body_block b) free = elim b [ ]
value_body_once (body_block b) (body_lambda parts more) free = elim b [ ]
value_body_once (body_block b) (body_block c) free = let q = block_once b c free in (refl, q.0, q.1)

-- a body of either sort, where of a value no binding leads back to itself
pub any_body_once : {ground : Ground} (sort : Sort) {e : TermTree} {ins jns : List ℕ} {p q : Piece} {r v : List WireId} → BodyBuilt ground sort [] 0 e ins p r → BodyBuilt ground sort [] 0 e jns q v → (sort ≡ Value → HasNoLoops e) → (ins ≡ jns) × (p ≡ q) × (r ≡ v)
any_body_once Value a b free = value_body_once a b (free refl)
any_body_once Circuit a b free = circuit_body_once a b

module_once : {ground : Ground} {it : Made} {a b : Module} → IsModuleOf ground it a → IsModuleOf ground it b → (it.sort ≡ Value → HasNoLoops it.body) → a ≡ b
module_once {it = it} {a = a} {b = b} x y free =
    let same = any_body_once it.sort x.body y.body free in
    let inputs : a.inputs ≡ b.inputs = x.are_inputs ∙ ap (λ (ins : List ℕ). length ins) same.0 ∙ sym y.are_inputs in
    let widths : a.widths ≡ b.widths = x.are_widths ∙ (λ i. same.0 i ++ (same.1 i).widths) ∙ sym y.are_widths in
    let cells : a.cells ≡ b.cells = x.are_cells ∙ ap (λ (p : Piece). p.cells) same.1 ∙ sym y.are_cells in
    λ i. record { inputs = inputs i; widths = widths i; outputs = same.2 i; cells = cells i }

pub modules_once : (ground : Ground) (state : List Made) (ms : List ℕ) (a b : List Module) → ((m : ℕ) (it : Made) → slice_get state m ≡ Some it → it.sort ≡ Value → HasNoLoops it.body) → AreModules ground state ms a → AreModules ground state ms b → a ≡ b
modules_once ground state [] [] [] free x y = refl
modules_once ground state [] [] (k ∷ b) free x y = absurd y
modules_once ground state [] (j ∷ a) b free x y = absurd x
modules_once ground state (m ∷ ms) [] b free x y = absurd x
modules_once ground state (m ∷ ms) (j ∷ a) [] free x y = absurd y
modules_once ground state (m ∷ ms) (j ∷ a) (k ∷ b) free x y =
    let its = same_some y.0.1 x.0.1 in
    let first : j ≡ k = module_once x.0.2 (subst (λ (it : Made). IsModuleOf ground it k) its y.0.2) (free m x.0.0 x.0.1) in
    let rest = modules_once ground state ms a b free x.1 y.1 in
    λ i. first i ∷ rest i
