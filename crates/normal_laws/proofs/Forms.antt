-- The forms of right sides and of constants, by their heads.
use Rattle.std.proofs.Common.{◌≡◌, ◌⊎◌, ℕ, zero, suc, ◌+◌, List, [], ◌∷◌, map, length, Some, refl, sym, ap, ◌∙◌, subst}
use Rattle.std.specs.List.{slice_get}
use Rattle.chw_types.specs.declared.declarations.Data.{Data}
use Rattle.chw_types.specs.TypeTree.{TypeTree}
use Rattle.chw_prims.specs.declared.prim.Primitive.{Primitive as Prim}
use Rattle.chw_prims.specs.declared.prim.Primitive.TheVariants.{Fmap, Ap, Pure, Register, BlockRam, UnsafeSynchronizer}
use Rattle.chw_prims.specs.Schemas.{schema_type}
use Rattle.chw_terms.specs.declared.term.Arg.{Arg}
use Rattle.chw_terms.specs.declared.term.Arg.TheVariants.{OfTerm, OfType}
use Rattle.chw_terms.specs.TermTree.{TermTree, var, made, letrec, con, prim, vec_lit, case_of, Terms, Group, Alts}
use Rattle.chw_terms.specs.TermView.{applied, terms_of}
use Rattle.chw_typing.specs.Given.{types_then}
use Rattle.rewriting.specs.Origins.{Origins}
use Rattle.rewriting.specs.Spots.{asked_for, IsOnWords, TakesElement}
use Rattle.rewriting.proofs.Spines.{head_of, head_applied, head_is, args_are}
use Rattle.chw_layout.specs.Measured.{HasWidth}
use Rattle.normal_forms.specs.Circuits.{IsConstant, constant_literal, constant_constructor, constant_vector, AreConstants, constant_and, content_type, IsLiftedCall, lifted_on_one, lifted_on_more}
use Rattle.normal_forms.specs.Circuits.{IsCircuitSide, of_variable, of_register, of_block_ram, of_synchronizer, of_pure, of_lifted, of_call, of_constructor, of_projection}
use Rattle.normal_forms.specs.Values.{IsSide, side_variable, side_literal, side_constructor, side_vector, side_primitive, side_call, side_case, AreBlocks}

-- the head of an application that is this term
pub headed : (args : List Arg) (h e : TermTree) → head_of h ≡ h → e ≡ applied h args → head_of e ≡ h
headed args h e b q = ap head_of q ∙ head_applied args h ∙ b

pub con_headed : {e : TermTree} (c : ℕ) (args : List Arg) → e ≡ applied (con c) args → head_of e ≡ con c
con_headed {e} c args q = headed args (con c) e refl q

pub prim_headed : {e : TermTree} (p : Prim) (args : List Arg) → e ≡ applied (prim p) args → head_of e ≡ prim p
prim_headed {e} p args q = headed args (prim p) e refl q

pub made_headed : {e : TermTree} (m : ℕ) (args : List Arg) → e ≡ applied (made m) args → head_of e ≡ made m
made_headed {e} m args q = headed args (made m) e refl q

-- no right side, lifted call or constant is a letrec
pub side_no_let : {o : Origins} {vars : List TypeTree} {f : TermTree} (g : Group) (e : TermTree) → IsSide o vars f → letrec g e ≡ f → ⊥
side_no_let g e side_variable q = cc
side_no_let g e side_literal q = cc
side_no_let g e (side_constructor c types xs is n) q = let h = con_headed c (types_then types (map (λ x. var x) xs)) q in cc
side_no_let g e (side_vector t xs) q = cc
side_no_let g e (side_primitive p types xs w n) q = let h = prim_headed p (types_then types (map (λ x. var x) xs)) q in cc
side_no_let g e (side_call m xs is v n) q = let h = made_headed m (types_then [] (map (λ x. var x) xs)) q in cc
side_no_let g e (side_case is b) q = cc

pub lifted_no_let : {m n : ℕ} {f : TermTree} (g : Group) (e : TermTree) → IsLiftedCall m f n → letrec g e ≡ f → ⊥
lifted_no_let g e lifted_on_one q = cc
lifted_no_let g e (lifted_on_more more) q = cc

pub circuit_side_no_let : {o : Origins} {f : TermTree} (g : Group) (e : TermTree) → IsCircuitSide o f → letrec g e ≡ f → ⊥
circuit_side_no_let g e of_variable q = cc
circuit_side_no_let g e (of_register k) q = cc
circuit_side_no_let g e (of_block_ram k h) q = cc
circuit_side_no_let g e of_synchronizer q = cc
circuit_side_no_let g e (of_pure k) q = cc
circuit_side_no_let g e (of_lifted m is v l) q = lifted_no_let g e l q
circuit_side_no_let g e (of_call m xs is s n) q = let h = made_headed m (types_then [] (map (λ x. var x) xs)) q in cc
circuit_side_no_let g e (of_constructor c types xs is n) q = let h = con_headed c (types_then types (map (λ x. var x) xs)) q in cc
circuit_side_no_let g e (of_projection l) q = cc

pub constant_no_let : {datas : List Data} {f : TermTree} (g : Group) (e : TermTree) → IsConstant datas f → letrec g e ≡ f → ⊥
constant_no_let g e constant_literal q = cc
constant_no_let g e (constant_constructor c types es is n all) q = let h = con_headed c (types_then types es) q in cc
constant_no_let g e (constant_vector t es all) q = cc

-- a case among right sides
pub record SideCase (o : Origins) (vars : List TypeTree) (s : TermTree) (alts : Alts) : Type 0 where
  pub x : ℕ
  pub is : s ≡ var x
  pub type : TypeTree
  pub known : slice_get vars x ≡ Some type
  pub blocks : AreBlocks o vars type alts

pub side_of_case : {o : Origins} {vars : List TypeTree} {f : TermTree} (s : TermTree) (alts : Alts) → IsSide o vars f → case_of s alts ≡ f → SideCase o vars s alts
side_of_case s alts side_variable q = absurd cc
side_of_case s alts side_literal q = absurd cc
side_of_case s alts (side_constructor c types xs is n) q = let h = con_headed c (types_then types (map (λ x. var x) xs)) q in absurd cc
side_of_case s alts (side_vector t xs) q = absurd cc
side_of_case s alts (side_primitive p types xs w n) q = let h = prim_headed p (types_then types (map (λ x. var x) xs)) q in absurd cc
side_of_case s alts (side_call m xs is v n) q = let h = made_headed m (types_then [] (map (λ x. var x) xs)) q in absurd cc
side_of_case {o} {vars} s alts (side_case {x = x} {u = u} {alts = more} is b) q =
    let same : alts ≡ more = cc in
    record { x = x; is = cc; type = u; known = is; blocks = subst (AreBlocks o vars u) (sym same) b }

pub lifted_no_case : {m n : ℕ} {f : TermTree} (s : TermTree) (alts : Alts) → IsLiftedCall m f n → case_of s alts ≡ f → ⊥
lifted_no_case s alts lifted_on_one q = cc
lifted_no_case s alts (lifted_on_more more) q = cc

-- of a circuit it is on a variable
pub circuit_side_of_case : {o : Origins} {f : TermTree} (s : TermTree) (alts : Alts) → IsCircuitSide o f → case_of s alts ≡ f → (x : ℕ) × (s ≡ var x)
circuit_side_of_case s alts of_variable q = absurd cc
circuit_side_of_case s alts (of_register k) q = absurd cc
circuit_side_of_case s alts (of_block_ram k h) q = absurd cc
circuit_side_of_case s alts of_synchronizer q = absurd cc
circuit_side_of_case s alts (of_pure k) q = absurd cc
circuit_side_of_case s alts (of_lifted m is v l) q = absurd (lifted_no_case s alts l q)
circuit_side_of_case s alts (of_call m xs is c n) q = let h = made_headed m (types_then [] (map (λ x. var x) xs)) q in absurd cc
circuit_side_of_case s alts (of_constructor c types xs is n) q = let h = con_headed c (types_then types (map (λ x. var x) xs)) q in absurd cc
circuit_side_of_case s alts (of_projection {x = x} l) q = (x, cc)

pub constant_no_case : {datas : List Data} {f : TermTree} (s : TermTree) (alts : Alts) → IsConstant datas f → case_of s alts ≡ f → ⊥
constant_no_case s alts constant_literal q = cc
constant_no_case s alts (constant_constructor c types es is n all) q = let h = con_headed c (types_then types es) q in cc
constant_no_case s alts (constant_vector t es all) q = cc

-- no constant is headed by a primitive
pub constant_no_prim : {datas : List Data} {f : TermTree} (p : Prim) (args : List Arg) → IsConstant datas f → applied (prim p) args ≡ f → ⊥
constant_no_prim p args constant_literal q = let h = prim_headed p args (sym q) in cc
constant_no_prim p args (constant_constructor c types es is n all) q =
    let h : prim p ≡ con c = head_is (prim p) (con c) args (types_then types es) (record { itself = refl; alone = refl }) (record { itself = refl; alone = refl }) q in cc
constant_no_prim p args (constant_vector t es all) q = let h = prim_headed p args (sym q) in cc

-- the terms on which a constructor stands among constants
pub record ConstantCon (datas : List Data) (args : List Arg) : Type 0 where
  pub types : List TypeTree
  pub es : List TermTree
  pub are : args ≡ types_then types es
  pub constants : AreConstants datas es

pub constant_con : {datas : List Data} {f : TermTree} (c : ℕ) (args : List Arg) → IsConstant datas f → applied (con c) args ≡ f → ConstantCon datas args
constant_con c args constant_literal q = let h = con_headed c args (sym q) in absurd cc
constant_con c args (constant_constructor d types es is n all) q =
    record { types = types; es = es; are = args_are (con c) (con d) args (types_then types es) (record { itself = refl; alone = refl }) (record { itself = refl; alone = refl }) q; constants = all }
constant_con c args (constant_vector t es all) q = let h = con_headed c args (sym q) in absurd cc

pub record ConstantVector (datas : List Data) (es : Terms) : Type 0 where
  pub items : List TermTree
  pub are : es ≡ terms_of items
  pub constants : AreConstants datas items

pub constant_of_vector : {datas : List Data} {f : TermTree} (t : TypeTree) (es : Terms) → IsConstant datas f → vec_lit t es ≡ f → ConstantVector datas es
constant_of_vector t es constant_literal q = absurd cc
constant_of_vector t es (constant_constructor c types items is n all) q = let h = con_headed c (types_then types items) q in absurd cc
constant_of_vector t es (constant_vector u items all) q = record { items = items; are = cc; constants = all }

-- a primitive among right sides of values stands on variables
pub record SidePrim (p : Prim) (args : List Arg) : Type 0 where
  pub types : List TypeTree
  pub xs : List ℕ
  pub are : args ≡ types_then types (map (λ x. var x) xs)
  pub sort : IsOnWords p ⊎ TakesElement p
  pub many : length types + length xs ≡ asked_for (schema_type p)

pub side_prim : {o : Origins} {vars : List TypeTree} {f : TermTree} (p : Prim) (args : List Arg) → IsSide o vars f → applied (prim p) args ≡ f → SidePrim p args
side_prim p args side_variable q = let h = prim_headed p args (sym q) in absurd cc
side_prim p args side_literal q = let h = prim_headed p args (sym q) in absurd cc
side_prim p args (side_constructor c types xs is n) q =
    let h : prim p ≡ con c = head_is (prim p) (con c) args (types_then types (map (λ x. var x) xs)) (record { itself = refl; alone = refl }) (record { itself = refl; alone = refl }) q in absurd cc
side_prim p args (side_vector t xs) q = let h = prim_headed p args (sym q) in absurd cc
side_prim p args (side_primitive r types xs w n) q =
    let h : prim p ≡ prim r = head_is (prim p) (prim r) args (types_then types (map (λ x. var x) xs)) (record { itself = refl; alone = refl }) (record { itself = refl; alone = refl }) q in
    let same : r ≡ p = cc in
    record {
      types = types;
      xs = xs;
      are = args_are (prim p) (prim r) args (types_then types (map (λ x. var x) xs)) (record { itself = refl; alone = refl }) (record { itself = refl; alone = refl }) q;
      sort = subst (λ x. IsOnWords x ⊎ TakesElement x) same w;
      many = subst (λ x. length types + length xs ≡ asked_for (schema_type x)) same n;
    }
side_prim p args (side_call m xs is v n) q =
    let h : prim p ≡ made m = head_is (prim p) (made m) args (types_then [] (map (λ x. var x) xs)) (record { itself = refl; alone = refl }) (record { itself = refl; alone = refl }) q in absurd cc
side_prim p args (side_case is b) q = let h = prim_headed p args (sym q) in absurd cc

-- a primitive that lifts, on a made definition or on another lifted one
pub data LiftedPrim (p : Prim) (args : List Arg) : Type 0 where
  on_made : {m x : ℕ} (d a b : TypeTree) → p ≡ Fmap → args ≡ OfType d ∷ OfType a ∷ OfType b ∷ OfTerm (made m) ∷ OfTerm (var x) ∷ [] → LiftedPrim p args
  on_lifted : {m x n : ℕ} {u : TermTree} (d a b : TypeTree) → p ≡ Ap → args ≡ OfType d ∷ OfType a ∷ OfType b ∷ OfTerm u ∷ OfTerm (var x) ∷ [] → IsLiftedCall m u n → LiftedPrim p args

same_prim : (p r : Prim) (args more : List Arg) → applied (prim p) args ≡ applied (prim r) more → p ≡ r
same_prim p r args more q =
    let h : prim p ≡ prim r = head_is (prim p) (prim r) args more (record { itself = refl; alone = refl }) (record { itself = refl; alone = refl }) q in cc

same_args : (p r : Prim) (args more : List Arg) → applied (prim p) args ≡ applied (prim r) more → args ≡ more
same_args p r args more q = args_are (prim p) (prim r) args more (record { itself = refl; alone = refl }) (record { itself = refl; alone = refl }) q

pub lifted_prim : {m n : ℕ} {f : TermTree} (p : Prim) (args : List Arg) → IsLiftedCall m f n → applied (prim p) args ≡ f → LiftedPrim p args
lifted_prim {m} p args (lifted_on_one {d = d} {a = a} {b = b} {x = x}) q =
    let more : List Arg = OfType d ∷ OfType a ∷ OfType b ∷ OfTerm (made m) ∷ OfTerm (var x) ∷ [] in
    on_made d a b (same_prim p Fmap args more q) (same_args p Fmap args more q)
lifted_prim p args (lifted_on_more {d = d} {a = a} {b = b} {u = u} {x = x} l) q =
    let more : List Arg = OfType d ∷ OfType a ∷ OfType b ∷ OfTerm u ∷ OfTerm (var x) ∷ [] in
    on_lifted d a b (same_prim p Ap args more q) (same_args p Ap args more q) l

-- a primitive among right sides of circuits
pub data CircuitPrim (datas : List Data) (p : Prim) (args : List Arg) : Type 0 where
  as_register : {c : TermTree} (d a : TypeTree) (x : ℕ) → p ≡ Register → args ≡ OfType d ∷ OfType a ∷ OfTerm c ∷ OfTerm (var x) ∷ [] → IsConstant datas c → CircuitPrim datas p args
  as_ram : {c : TermTree} {w : ℕ} (d n k a : TypeTree) (x y : ℕ) → p ≡ BlockRam → args ≡ OfType d ∷ OfType n ∷ OfType k ∷ OfType a ∷ OfTerm c ∷ OfTerm (var x) ∷ OfTerm (var y) ∷ [] → IsConstant datas c
      → HasWidth datas (content_type n a) w → CircuitPrim datas p args
  as_synchronizer : (d e a : TypeTree) (x : ℕ) → p ≡ UnsafeSynchronizer → args ≡ OfType d ∷ OfType e ∷ OfType a ∷ OfTerm (var x) ∷ [] → CircuitPrim datas p args
  as_pure : {c : TermTree} (d a : TypeTree) → p ≡ Pure → args ≡ OfType d ∷ OfType a ∷ OfTerm c ∷ [] → IsConstant datas c → CircuitPrim datas p args
  as_lifted : LiftedPrim p args → CircuitPrim datas p args

pub circuit_prim : {o : Origins} {f : TermTree} (p : Prim) (args : List Arg) → IsCircuitSide o f → applied (prim p) args ≡ f → CircuitPrim o.program.datas p args
circuit_prim p args of_variable q = let h = prim_headed p args (sym q) in absurd cc
circuit_prim p args (of_register {d = d} {a = a} {c = c} {x = x} k) q =
    let more : List Arg = OfType d ∷ OfType a ∷ OfTerm c ∷ OfTerm (var x) ∷ [] in
    as_register d a x (same_prim p Register args more q) (same_args p Register args more q) k
circuit_prim p args (of_block_ram {d = d} {n = n} {k = w} {a = a} {c = c} {x = x} {y = y} k h) q =
    let more : List Arg = OfType d ∷ OfType n ∷ OfType w ∷ OfType a ∷ OfTerm c ∷ OfTerm (var x) ∷ OfTerm (var y) ∷ [] in
    as_ram d n w a x y (same_prim p BlockRam args more q) (same_args p BlockRam args more q) k h
circuit_prim p args (of_synchronizer {d = d} {e = e} {a = a} {x = x}) q =
    let more : List Arg = OfType d ∷ OfType e ∷ OfType a ∷ OfTerm (var x) ∷ [] in
    as_synchronizer d e a x (same_prim p UnsafeSynchronizer args more q) (same_args p UnsafeSynchronizer args more q)
circuit_prim p args (of_pure {d = d} {a = a} {c = c} k) q =
    let more : List Arg = OfType d ∷ OfType a ∷ OfTerm c ∷ [] in
    as_pure d a (same_prim p Pure args more q) (same_args p Pure args more q) k
circuit_prim p args (of_lifted m is v l) q = as_lifted (lifted_prim p args l q)
circuit_prim p args (of_call m xs is s n) q =
    let h : prim p ≡ made m = head_is (prim p) (made m) args (types_then [] (map (λ x. var x) xs)) (record { itself = refl; alone = refl }) (record { itself = refl; alone = refl }) q in absurd cc
circuit_prim p args (of_constructor c types xs is n) q =
    let h : prim p ≡ con c = head_is (prim p) (con c) args (types_then types (map (λ x. var x) xs)) (record { itself = refl; alone = refl }) (record { itself = refl; alone = refl }) q in absurd cc
circuit_prim p args (of_projection l) q = let h = prim_headed p args (sym q) in absurd cc

-- the terms among arguments
pub term_among : (es : List TermTree) (i : ℕ) (a : TermTree) → slice_get (map (λ e. OfTerm e) es) i ≡ Some (OfTerm a) → (j : ℕ) × (slice_get es j ≡ Some a)
term_among [] i a h = absurd cc
term_among (e ∷ es) zero a h = let same : e ≡ a = cc in (0, ap (λ x. Some x) same)
term_among (e ∷ es) (suc i) a h = let more = term_among es i a h in (suc more.0, more.1)

pub term_given : (types : List TypeTree) (es : List TermTree) (i : ℕ) (a : TermTree) → slice_get (types_then types es) i ≡ Some (OfTerm a) → (j : ℕ) × (slice_get es j ≡ Some a)
term_given [] es i a h = term_among es i a h
term_given (t ∷ types) es zero a h = absurd cc
term_given (t ∷ types) es (suc i) a h = term_given types es i a h

pub name_at : (xs : List ℕ) (j : ℕ) (a : TermTree) → slice_get (map (λ x. var x) xs) j ≡ Some a → (x : ℕ) × (a ≡ var x)
name_at [] j a h = absurd cc
name_at (x ∷ xs) zero a h = let same : var x ≡ a = cc in (x, sym same)
name_at (x ∷ xs) (suc j) a h = name_at xs j a h

pub constant_at : {datas : List Data} (es : List TermTree) (j : ℕ) (a : TermTree) → AreConstants datas es → slice_get es j ≡ Some a → IsConstant datas a
constant_at [] j a all h = absurd cc
constant_at {datas} (e ∷ es) zero a (constant_and c all) h = let same : e ≡ a = cc in subst (IsConstant datas) same c
constant_at (e ∷ es) (suc j) a (constant_and c all) h = constant_at es j a all h
