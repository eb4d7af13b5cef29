-- What stands at the active places of a body in normal form.
use Rattle.std.proofs.Common.{◌≡◌, ◌⊎◌, inl, inr, ℕ, zero, suc, List, [], ◌∷◌, map, Some, refl, sym, ap, subst, true, false}
use Rattle.std.specs.List.{slice_get}
use Rattle.chw_types.specs.declared.declarations.Data.{Data}
use Rattle.chw_types.specs.TypeTree.{TypeTree}
use Rattle.chw_prims.specs.declared.prim.Primitive.{Primitive as Prim}
use Rattle.chw_terms.specs.declared.scene.Mode.{Mode}
use Rattle.chw_terms.specs.declared.scene.Mode.TheVariants.{V, C, HC, K}
use Rattle.chw_terms.specs.declared.scene.Sort.{Sort}
use Rattle.chw_terms.specs.declared.scene.Sort.TheVariants.{Value, Circuit}
use Rattle.chw_terms.specs.declared.term.Arg.{Arg}
use Rattle.chw_terms.specs.declared.term.Arg.TheVariants.{OfTerm, OfType}
use Rattle.chw_terms.specs.declared.term.Pattern.{Pattern}
use Rattle.chw_terms.specs.TermTree.{TermTree, var, made, letrec, con, prim, vec_lit, case_of, Terms, Group, no_bindings, bind, Alts, no_alts, alt}
use Rattle.chw_terms.specs.TermView.{applied, terms_of}
use Rattle.chw_typing.specs.HeadTypes.{fields_at, PatternOf, of_con, of_lit, of_any}
use Rattle.chw_typing.specs.Scopes.{with_more, declared}
use Rattle.graph_order.specs.References.{HasNoCycle}
use Rattle.chw_typing.specs.Groups.{binding_at}
use Rattle.chw_typing.specs.Paths.{element_at, Branch, branch_at}
use Rattle.rewriting.specs.Named.{mode_of}
use Rattle.rewriting.specs.Origins.{MadeOf, Origins}
use Rattle.rewriting.specs.Active.{Below, right_side, let_body, constant_body, scrutinee, branch, of_constructor, of_words, of_element, of_vector, demanded, begins, IsActive, at_it, below, IsPlaceOf}
use Rattle.rewriting.specs.Spots.{Spot, spot, head_mode, LooksAt, BeginsWith}
use Rattle.rewriting.proofs.Lambdas.{one_under}
use Rattle.normal_forms.specs.Circuits.{IsConstant, IsLiftedCall, IsCircuitSide, AreCircuitSides, circuit_side_and, IsCircuitBody, circuit_variable, circuit_letrec}
use Rattle.normal_forms.specs.Normal.{HasForm, IsNormalBody}
use Rattle.normal_forms.specs.Values.{IsBlock, block_variable, block_letrec, AreSides, side_and, IsSide, AreBlocks, block_and, BindingRefers}
use Rattle.normal_laws.proofs.Forms.{con_headed, prim_headed, side_no_let, lifted_no_let, circuit_side_no_let, constant_no_let, SideCase, side_of_case, lifted_no_case, circuit_side_of_case, constant_no_case}
use Rattle.normal_laws.proofs.Forms.{constant_no_prim, constant_con, constant_of_vector, SidePrim, side_prim, LiftedPrim, on_made, on_lifted, lifted_prim, CircuitPrim, as_register, as_ram, as_synchronizer, as_pure, as_lifted, circuit_prim, term_given, name_at, constant_at}

-- by the mode of the place
pub data Stands (o : Origins) (at : Spot) : TermTree → Type 0 where
  a_name : {x : ℕ} → Stands o at (var x)
  a_block : {e : TermTree} → at.mode ≡ V → IsBlock o at.vars e → Stands o at e
  a_side : {e : TermTree} → at.mode ≡ V → IsSide o at.vars e → Stands o at e
  a_circuit : {e : TermTree} → at.mode ≡ C → IsCircuitBody o e → Stands o at e
  a_circuit_side : {e : TermTree} → at.mode ≡ C → IsCircuitSide o e → Stands o at e
  a_lifted : {m n : ℕ} {e : TermTree} → at.mode ≡ HC → IsLiftedCall m e n → Stands o at e
  a_constant : {e : TermTree} → at.mode ≡ K → IsConstant o.program.datas e → Stands o at e

-- a letrec there
pub data LetStands (o : Origins) (at : Spot) (g : Group) (e : TermTree) : Type 0 where
  of_values : {x : ℕ} → at.mode ≡ V → AreSides o (with_more (declared g) at.vars) g → HasNoCycle (BindingRefers g) → e ≡ var x → LetStands o at g e
  of_circuits : {x : ℕ} → at.mode ≡ C → AreCircuitSides o g → e ≡ var x → LetStands o at g e

block_let : {o : Origins} {at : Spot} {f : TermTree} (g : Group) (e : TermTree) → at.mode ≡ V → IsBlock o at.vars f → letrec g e ≡ f → LetStands o at g e
block_let g e v block_variable q = absurd cc
block_let {o} {at} g e v (block_letrec {g = h} {x = x} sides none) q =
    let same : h ≡ g = cc in
    of_values {x = x} v (subst (λ k. AreSides o (with_more (declared k) at.vars) k) same sides) (subst (λ k. HasNoCycle (BindingRefers k)) same none) cc

circuit_let : {o : Origins} {at : Spot} {f : TermTree} (g : Group) (e : TermTree) → at.mode ≡ C → IsCircuitBody o f → letrec g e ≡ f → LetStands o at g e
circuit_let g e v circuit_variable q = absurd cc
circuit_let {o} {at} g e v (circuit_letrec {g = h} {x = x} sides) q =
    let same : h ≡ g = cc in
    of_circuits {x = x} v (subst (AreCircuitSides o) same sides) cc

pub let_stands : {o : Origins} {at : Spot} {f : TermTree} (g : Group) (e : TermTree) → Stands o at f → letrec g e ≡ f → LetStands o at g e
let_stands g e a_name q = absurd cc
let_stands g e (a_block v b) q = block_let g e v b q
let_stands g e (a_side v s) q = absurd (side_no_let g e s q)
let_stands g e (a_circuit v b) q = circuit_let g e v b q
let_stands g e (a_circuit_side v s) q = absurd (circuit_side_no_let g e s q)
let_stands g e (a_lifted v l) q = absurd (lifted_no_let g e l q)
let_stands g e (a_constant v c) q = absurd (constant_no_let g e c q)

-- a primitive there
pub data PrimStands (o : Origins) (at : Spot) (p : Prim) (args : List Arg) : Type 0 where
  in_values : at.mode ≡ V → SidePrim p args → PrimStands o at p args
  in_circuits : at.mode ≡ C → CircuitPrim o.program.datas p args → PrimStands o at p args
  in_lifted : at.mode ≡ HC → LiftedPrim p args → PrimStands o at p args

block_no_prim : {o : Origins} {vars : List TypeTree} {f : TermTree} (p : Prim) (args : List Arg) → IsBlock o vars f → applied (prim p) args ≡ f → ⊥
block_no_prim p args block_variable q = let h = prim_headed p args (sym q) in cc
block_no_prim p args (block_letrec s n) q = let h = prim_headed p args (sym q) in cc

circuit_no_prim : {o : Origins} {f : TermTree} (p : Prim) (args : List Arg) → IsCircuitBody o f → applied (prim p) args ≡ f → ⊥
circuit_no_prim p args circuit_variable q = let h = prim_headed p args (sym q) in cc
circuit_no_prim p args (circuit_letrec s) q = let h = prim_headed p args (sym q) in cc

pub prim_stands : {o : Origins} {at : Spot} {f : TermTree} (p : Prim) (args : List Arg) → Stands o at f → applied (prim p) args ≡ f → PrimStands o at p args
prim_stands p args a_name q = let h = prim_headed p args (sym q) in absurd cc
prim_stands p args (a_block v b) q = absurd (block_no_prim p args b q)
prim_stands p args (a_side v s) q = in_values v (side_prim p args s q)
prim_stands p args (a_circuit v b) q = absurd (circuit_no_prim p args b q)
prim_stands p args (a_circuit_side v s) q = in_circuits v (circuit_prim p args s q)
prim_stands p args (a_lifted v l) q = in_lifted v (lifted_prim p args l q)
prim_stands p args (a_constant v c) q = absurd (constant_no_prim p args c q)

-- a case there is on a variable
pub data CaseStands (o : Origins) (at : Spot) (s : TermTree) (alts : Alts) : Type 0 where
  of_blocks : at.mode ≡ V → SideCase o at.vars s alts → CaseStands o at s alts
  of_projection : {x : ℕ} → at.mode ≡ C → s ≡ var x → CaseStands o at s alts

block_no_case : {o : Origins} {vars : List TypeTree} {f : TermTree} (s : TermTree) (alts : Alts) → IsBlock o vars f → case_of s alts ≡ f → ⊥
block_no_case s alts block_variable q = cc
block_no_case s alts (block_letrec t n) q = cc

circuit_no_case : {o : Origins} {f : TermTree} (s : TermTree) (alts : Alts) → IsCircuitBody o f → case_of s alts ≡ f → ⊥
circuit_no_case s alts circuit_variable q = cc
circuit_no_case s alts (circuit_letrec t) q = cc

pub case_stands : {o : Origins} {at : Spot} {f : TermTree} (s : TermTree) (alts : Alts) → Stands o at f → case_of s alts ≡ f → CaseStands o at s alts
case_stands s alts a_name q = absurd cc
case_stands s alts (a_block v b) q = absurd (block_no_case s alts b q)
case_stands s alts (a_side v b) q = of_blocks v (side_of_case s alts b q)
case_stands s alts (a_circuit v b) q = absurd (circuit_no_case s alts b q)
case_stands s alts (a_circuit_side v b) q = let at = circuit_side_of_case s alts b q in of_projection v at.1
case_stands s alts (a_lifted v l) q = absurd (lifted_no_case s alts l q)
case_stands s alts (a_constant v c) q = absurd (constant_no_case s alts c q)

-- in constants nothing stands but a name or a constant
pub constant_stands : {o : Origins} {at : Spot} {f : TermTree} → at.mode ≡ K → Stands o at f → ((x : ℕ) × (f ≡ var x)) ⊎ IsConstant o.program.datas f
constant_stands k (a_name {x = x}) = inl (x, refl)
constant_stands k (a_block v b) = absurd cc
constant_stands k (a_side v b) = absurd cc
constant_stands k (a_circuit v b) = absurd cc
constant_stands k (a_circuit_side v b) = absurd cc
constant_stands k (a_lifted v l) = absurd cc
constant_stands k (a_constant v c) = inr c

a_variable : {o : Origins} {at : Spot} (e : TermTree) (x : ℕ) → e ≡ var x → Stands o at e
a_variable {o} {at} e x is = subst (Stands o at) (sym is) a_name

-- right sides of the bindings
side_of : {o : Origins} {vars : List TypeTree} (g : Group) (i : ℕ) (b : TypeTree × TermTree) → AreSides o vars g → binding_at g i ≡ Some b → IsSide o vars b.1
side_of no_bindings i b sides h = absurd cc
side_of {o} {vars} (bind t e g) zero b (side_and r s more) h = let is : (t, e) ≡ b = cc in subst (λ (c : TypeTree × TermTree). IsSide o vars c.1) is s
side_of (bind t e g) (suc i) b (side_and r s more) h = side_of g i b more h

circuit_side_of : {o : Origins} (g : Group) (i : ℕ) (b : TypeTree × TermTree) → AreCircuitSides o g → binding_at g i ≡ Some b → IsCircuitSide o b.1
circuit_side_of no_bindings i b sides h = absurd cc
circuit_side_of {o} (bind t e g) zero b (circuit_side_and r s more) h = let is : (t, e) ≡ b = cc in subst (λ (c : TypeTree × TermTree). IsCircuitSide o c.1) is s
circuit_side_of (bind t e g) (suc i) b (circuit_side_and r s more) h = circuit_side_of g i b more h

-- an alternative
one_pattern : {datas : List Data} {u u' : TypeTree} {q q' : Pattern} {fields others : List TypeTree} → PatternOf datas u q fields → PatternOf datas u' q' others → u ≡ u' → q ≡ q' → fields ≡ others
one_pattern {datas} (of_con {c = c} {ts = ts} it known is n) (of_con {c = c'} {ts = ts'} it' known' is' n') h k =
    let args : ts ≡ ts' = cc in
    let con : c ≡ c' = cc in
    let same : it ≡ it' = cc in
    λ i. fields_at (same i) (args i)
one_pattern (of_con it known is n) (of_lit l e) h k = absurd cc
one_pattern (of_con it known is n) of_any h k = absurd cc
one_pattern (of_lit l e) (of_con it known is n) h k = absurd cc
one_pattern (of_lit l e) (of_lit l' e') h k = refl
one_pattern (of_lit l e) of_any h k = refl
one_pattern of_any (of_con it known is n) h k = absurd cc
one_pattern of_any (of_lit l e) h k = refl
one_pattern of_any of_any h k = refl

block_of : {o : Origins} {vars : List TypeTree} {u : TypeTree} (alts : Alts) (i : ℕ) (a : Branch) (fields : List TypeTree) → AreBlocks o vars u alts → branch_at alts i ≡ Some a → PatternOf o.program.datas u a.pattern fields
    → IsBlock o (with_more fields vars) a.body
block_of no_alts i a fields bs h p = absurd cc
block_of {o} {vars} (alt q e more) zero a fields (block_and {fields = own} r b bs) h p =
    let first : q ≡ a.pattern = cc in
    let body : e ≡ a.body = cc in
    let same : own ≡ fields = one_pattern r p refl first in
    subst (λ fs. IsBlock o (with_more fs vars) a.body) same (subst (IsBlock o (with_more own vars)) body b)
block_of (alt q e more) (suc i) a fields (block_and r b bs) h p = block_of more i a fields bs h p

module _ (o : Origins) where
  side_below : (at : Spot) (g : Group) (e : TermTree) (i : ℕ) (b : TypeTree × TermTree) → LetStands o at g e → binding_at g i ≡ Some b → Stands o (spot at.mode false (with_more (declared g) at.vars)) b.1
  side_below at g e i b (of_values v sides none is) h = a_side v (side_of g i b sides h)
  side_below at g e i b (of_circuits v sides is) h = a_circuit_side v (circuit_side_of g i b sides h)

  body_below : (at at' : Spot) (g : Group) (e : TermTree) → LetStands o at g e → Stands o at' e
  body_below at at' g e (of_values {x = x} v sides none is) = a_variable e x is
  body_below at at' g e (of_circuits {x = x} v sides is) = a_variable e x is

  on_below : (at at' : Spot) (s : TermTree) (alts : Alts) → CaseStands o at s alts → Stands o at' s
  on_below at at' s alts (of_blocks v c) = a_variable s c.x c.is
  on_below at at' s alts (of_projection {x = x} v is) = a_variable s x is

  branch_below : (at : Spot) (x i : ℕ) (alts : Alts) (u : TypeTree) (a : Branch) (fields : List TypeTree) → at.mode ≡ V → slice_get at.vars x ≡ Some u → branch_at alts i ≡ Some a → PatternOf o.program.datas u a.pattern fields
      → CaseStands o at (var x) alts → Stands o (spot V true (with_more fields at.vars)) a.body
  branch_below at x i alts u a fields v known h p (of_blocks v' c) =
      let name : x ≡ c.x = cc_name c.is in
      let type : c.type ≡ u = one_type_at at.vars x c.x c.type u name c.known known in
      a_block refl (block_of alts i a fields (subst (λ t. AreBlocks o at.vars t alts) type c.blocks) h p)
    where
      cc_name : {x y : ℕ} → var x ≡ var y → x ≡ y
      cc_name q = cc

      one_type_at : (vars : List TypeTree) (x y : ℕ) (t u : TypeTree) → x ≡ y → slice_get vars y ≡ Some t → slice_get vars x ≡ Some u → t ≡ u
      one_type_at vars x y t u q h k = cc
  branch_below at x i alts u a fields v known h p (of_projection c is) = absurd cc

  constant_below : (at : Spot) (e : TermTree) → IsConstant o.program.datas e → Stands o (spot K false at.vars) e
  constant_below at e c = a_constant refl c

  argument_below : (at : Spot) (c i : ℕ) (args : List Arg) (a : TermTree) → ((x : ℕ) × (applied (con c) args ≡ var x)) ⊎ IsConstant o.program.datas (applied (con c) args) → slice_get args i ≡ Some (OfTerm a)
      → Stands o (spot K false at.vars) a
  argument_below at c i args a (inl name) h = let head = con_headed c args (sym name.1) in absurd cc
  argument_below at c i args a (inr constant) h =
      let of = constant_con c args constant refl in
      let among = term_given of.types of.es i a (subst (λ xs. slice_get xs i ≡ Some (OfTerm a)) of.are h) in
      constant_below at a (constant_at of.es among.0 a of.constants among.1)

  element_of : (es : List TermTree) (i : ℕ) (a : TermTree) → element_at (terms_of es) i ≡ Some a → slice_get es i ≡ Some a
  element_of [] i a h = absurd cc
  element_of (e ∷ es) zero a h = h
  element_of (e ∷ es) (suc i) a h = element_of es i a h

  element_below : (at : Spot) (t : TypeTree) (es : Terms) (i : ℕ) (a : TermTree) → ((x : ℕ) × (vec_lit t es ≡ var x)) ⊎ IsConstant o.program.datas (vec_lit t es) → element_at es i ≡ Some a
      → Stands o (spot K false at.vars) a
  element_below at t es i a (inl name) h = let wrong = name.1 in absurd cc
  element_below at t es i a (inr constant) h =
      let of = constant_of_vector t es constant refl in
      constant_below at a (constant_at of.items i a of.constants (element_of of.items i a (subst (λ xs. element_at xs i ≡ Some a) of.are h)))

  -- what a primitive that lifts looks at is lifted, or a variable
  lifted_looks : (at : Spot) (p : Prim) (args : List Arg) (i : ℕ) (a : TermTree) → at.mode ≡ HC → LiftedPrim p args → LooksAt p i → slice_get args i ≡ Some (OfTerm a) → Stands o at a
  lifted_looks at p args i a m (on_made {m = n} {x = x} d s t is are) looks h =
      let place : i ≡ 4 = subst (λ r. LooksAt r i) is looks in
      let there : slice_get args 4 ≡ Some (OfTerm a) = subst (λ k. slice_get args k ≡ Some (OfTerm a)) place h in
      let known : slice_get (OfType d ∷ OfType s ∷ OfType t ∷ OfTerm (made n) ∷ OfTerm (var x) ∷ []) 4 ≡ Some (OfTerm a) = subst (λ xs. slice_get xs 4 ≡ Some (OfTerm a)) are there in
      a_variable a x (cc)
  lifted_looks at p args i a m (on_lifted {x = x} {u = u} d s t is are l) looks h = by (subst (λ r. LooksAt r i) is looks)
    where
      by : (i ≡ 3) ⊎ (i ≡ 4) → Stands o at a
      by (inl place) =
          let there : slice_get args 3 ≡ Some (OfTerm a) = subst (λ k. slice_get args k ≡ Some (OfTerm a)) place h in
          let known : slice_get (OfType d ∷ OfType s ∷ OfType t ∷ OfTerm u ∷ OfTerm (var x) ∷ []) 3 ≡ Some (OfTerm a) = subst (λ xs. slice_get xs 3 ≡ Some (OfTerm a)) are there in
          let same : u ≡ a = cc in
          subst (Stands o at) same (a_lifted m l)
      by (inr place) =
          let there : slice_get args 4 ≡ Some (OfTerm a) = subst (λ k. slice_get args k ≡ Some (OfTerm a)) place h in
          let known : slice_get (OfType d ∷ OfType s ∷ OfType t ∷ OfTerm u ∷ OfTerm (var x) ∷ []) 4 ≡ Some (OfTerm a) = subst (λ xs. slice_get xs 4 ≡ Some (OfTerm a)) are there in
          a_variable a x (cc)

  circuit_looks : (at : Spot) (p : Prim) (args : List Arg) (i : ℕ) (a : TermTree) → at.mode ≡ HC → CircuitPrim o.program.datas p args → LooksAt p i → slice_get args i ≡ Some (OfTerm a) → Stands o at a
  circuit_looks at p args i a m (as_register d s x is are c) looks h = absurd (subst (λ r. LooksAt r i) is looks)
  circuit_looks at p args i a m (as_ram d n k s x y is are c f) looks h = absurd (subst (λ r. LooksAt r i) is looks)
  circuit_looks at p args i a m (as_synchronizer d e s x is are) looks h = absurd (subst (λ r. LooksAt r i) is looks)
  circuit_looks at p args i a m (as_pure d s is are c) looks h = absurd (subst (λ r. LooksAt r i) is looks)
  circuit_looks at p args i a m (as_lifted l) looks h = lifted_looks at p args i a m l looks h

  head_of_circuit : (m : Mode) → m ≡ C → head_mode m ≡ HC
  head_of_circuit m q = ap head_mode q

  head_of_head : (m : Mode) → m ≡ HC → head_mode m ≡ HC
  head_of_head m q = ap head_mode q

  looked_below : (at : Spot) (p : Prim) (args : List Arg) (i : ℕ) (a : TermTree) → PrimStands o at p args → LooksAt p i → slice_get args i ≡ Some (OfTerm a) → Stands o (spot (head_mode at.mode) false at.vars) a
  looked_below at p args i a (in_values v s) looks h =
      let among = term_given s.types (map (λ x. var x) s.xs) i a (subst (λ xs. slice_get xs i ≡ Some (OfTerm a)) s.are h) in
      let name = name_at s.xs among.0 a among.1 in
      a_variable a name.0 name.1
  looked_below at p args i a (in_circuits v c) looks h = circuit_looks (spot (head_mode at.mode) false at.vars) p args i a (head_of_circuit at.mode v) c looks h
  looked_below at p args i a (in_lifted v l) looks h = lifted_looks (spot (head_mode at.mode) false at.vars) p args i a (head_of_head at.mode v) l looks h

  lifted_begins : (p : Prim) (args : List Arg) (i j : ℕ) → LiftedPrim p args → BeginsWith p i j → ⊥
  lifted_begins p args i j (on_made d s t is are) b = subst (λ r. BeginsWith r i j) is b
  lifted_begins p args i j (on_lifted d s t is are l) b = subst (λ r. BeginsWith r i j) is b

  -- what a register, a block RAM and a constant signal begin with is a constant
  circuit_begins : (at : Spot) (p : Prim) (args : List Arg) (i j : ℕ) (a : TermTree) → CircuitPrim o.program.datas p args → BeginsWith p i j → slice_get args i ≡ Some (OfTerm a) → Stands o (spot K false at.vars) a
  circuit_begins at p args i j a (as_register {c = c} d s x is are k) b h =
      let place : i ≡ 2 = (subst (λ r. BeginsWith r i j) is b).0 in
      let there : slice_get args 2 ≡ Some (OfTerm a) = subst (λ n. slice_get args n ≡ Some (OfTerm a)) place h in
      let known : slice_get (OfType d ∷ OfType s ∷ OfTerm c ∷ OfTerm (var x) ∷ []) 2 ≡ Some (OfTerm a) = subst (λ xs. slice_get xs 2 ≡ Some (OfTerm a)) are there in
      let same : c ≡ a = cc in
      constant_below at a (subst (IsConstant o.program.datas) same k)
  circuit_begins at p args i j a (as_ram {c = c} d n w s x y is are k f) b h =
      let place : i ≡ 4 = (subst (λ r. BeginsWith r i j) is b).0 in
      let there : slice_get args 4 ≡ Some (OfTerm a) = subst (λ n. slice_get args n ≡ Some (OfTerm a)) place h in
      let known : slice_get (OfType d ∷ OfType n ∷ OfType w ∷ OfType s ∷ OfTerm c ∷ OfTerm (var x) ∷ OfTerm (var y) ∷ []) 4 ≡ Some (OfTerm a) = subst (λ xs. slice_get xs 4 ≡ Some (OfTerm a)) are there in
      let same : c ≡ a = cc in
      constant_below at a (subst (IsConstant o.program.datas) same k)
  circuit_begins at p args i j a (as_synchronizer d e s x is are) b h = absurd (subst (λ r. BeginsWith r i j) is b)
  circuit_begins at p args i j a (as_pure {c = c} d s is are k) b h =
      let place : i ≡ 2 = (subst (λ r. BeginsWith r i j) is b).0 in
      let there : slice_get args 2 ≡ Some (OfTerm a) = subst (λ n. slice_get args n ≡ Some (OfTerm a)) place h in
      let known : slice_get (OfType d ∷ OfType s ∷ OfTerm c ∷ []) 2 ≡ Some (OfTerm a) = subst (λ xs. slice_get xs 2 ≡ Some (OfTerm a)) are there in
      let same : c ≡ a = cc in
      constant_below at a (subst (IsConstant o.program.datas) same k)
  circuit_begins at p args i j a (as_lifted l) b h = absurd (lifted_begins p args i j l b)

  begun_below : (at : Spot) (p : Prim) (args : List Arg) (i j : ℕ) (a : TermTree) → at.mode ≡ C → PrimStands o at p args → BeginsWith p i j → slice_get args i ≡ Some (OfTerm a) → Stands o (spot K false at.vars) a
  begun_below at p args i j a m (in_values v s) b h = absurd cc
  begun_below at p args i j a m (in_circuits v c) b h = circuit_begins at p args i j a c b h
  begun_below at p args i j a m (in_lifted v l) b h = absurd cc

  pub no_prim_in_constants : (at : Spot) (p : Prim) (args : List Arg) → at.mode ≡ K → PrimStands o at p args → ⊥
  no_prim_in_constants at p args m (in_values v s) = cc
  no_prim_in_constants at p args m (in_circuits v s) = cc
  no_prim_in_constants at p args m (in_lifted v s) = cc

  pub stands_below : {at at' : Spot} {e x : TermTree} {p : List ℕ} → Below o at e p at' x → Stands o at e → Stands o at' x
  stands_below {at} (right_side {g = g} {e = e} {i = i} {b = b} l h n) s = side_below at g e i b (let_stands g e s refl) h
  stands_below {at} {at'} (let_body {g = g} {e = e} l) s = body_below at at' g e (let_stands g e s refl)
  stands_below {at} {at'} (constant_body {g = g} {e = e} k) s = body_below at at' g e (let_stands g e s refl)
  stands_below {at} {at'} (scrutinee {s = c} {alts = alts} d n) s = on_below at at' c alts (case_stands c alts s refl)
  stands_below {at} (branch {x = x} {i = i} {alts = alts} {u = u} {a = a} {fields = fields} v known n b p) s = branch_below at x i alts u a fields v known b p (case_stands (var x) alts s refl)
  stands_below {at} (of_constructor c i args {a = a} k is n h) s = argument_below at c i args a (constant_stands k s) h
  stands_below {at} (of_words p i args {a = a} k w l n h) s = absurd (no_prim_in_constants at p args k (prim_stands p args s refl))
  stands_below {at} (of_element p i args {a = a} k w n h) s = absurd (no_prim_in_constants at p args k (prim_stands p args s refl))
  stands_below {at} (of_vector {t = t} {es = es} {i = i} {a = a} k h) s = element_below at t es i a (constant_stands k s) h
  stands_below {at} (demanded {p = p} {i = i} {args = args} {a = a} d) s = looked_below at p args i a (prim_stands p args s refl) d.looks d.is
  stands_below {at} (begins p i j args {a = a} m b t r h) s = begun_below at p args i j a m (prim_stands p args s refl) b h

  stands_active : {at at' : Spot} {e x : TermTree} {p : List ℕ} → IsActive o at e p at' x → Stands o at e → Stands o at' x
  stands_active at_it s = s
  stands_active (below b r) s = stands_active r (stands_below b s)

  form_stands : (sort : Sort) (vars : List TypeTree) (e : TermTree) → HasForm o sort vars e → Stands o (spot (mode_of sort) true vars) e
  form_stands Value vars e h = a_block refl h
  form_stands Circuit vars e h = a_circuit refl h

  pub place_stands : (it : MadeOf) (body x : TermTree) (path : List ℕ) (at : Spot) → IsNormalBody o it body → IsPlaceOf o it body path at x → Stands o at x
  place_stands it body x path at h r =
      let same = one_under h.under r.under in
      stands_active r.active
      (subst (λ vs. Stands o (spot (mode_of it.sort) true vs) r.term) same.1
      (subst (Stands o (spot (mode_of it.sort) true h.vars)) same.2 (form_stands it.sort h.vars h.inner h.form)))
