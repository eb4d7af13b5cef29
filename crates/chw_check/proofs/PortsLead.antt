-- Types that lead from ports to a port do so with one number of leaves for the parameters together, and one for the result.
use Rattle.std.proofs.Common.{◌≡◌, ℕ, Bool, true, false, MatchBool, ◌+◌, ◌-◌, ◌≤◌, refl, sym, ap, subst, ◌∙◌, List, [], ◌∷◌, length, length-append, arith}
use Rattle.std.specs.Prelude.{Some}
use Rattle.std.specs.List.{slice_get}
use Rattle.chw_types.specs.declared.declarations.ConDecl.{ConDecl}
use Rattle.chw_types.specs.declared.declarations.Data.{Data}
use Rattle.type_ports.specs.declared.ports.Leaf.{Leaf}
use Rattle.chw_types.specs.declared.ty.TyNode.{TyNode}
use Rattle.chw_types.specs.declared.ty.TyNode.TheVariants.{Var, NatLit, Sum, Times, DomOf, Unsigned, Signed, BitVector, Vec as VecNode, DataOf, Fun, Signal, Forall}
use Rattle.chw_types.specs.TypeTree.{TypeTree, data_of, fun, signal, TypeTrees}
use Rattle.chw_types.specs.TypeView.{tree_of}
use Rattle.chw_types.specs.TypeMoves.{Substitution, sub}
use Rattle.chw_types.specs.Arguments.{arguments}
use Rattle.type_ports.specs.Ports.{Leaves, one_leaf, leaves_of_fields, LeavesOfAll, no_leaves, leaves_and}
use Rattle.chw_check.specs.Counting.{HasLeaves, HasMoreLeaves}
use Rattle.chw_typing.specs.Programs.{LeadsToPort, to_port, from_port}

one_of_signal : {datas : List Data} {d t : TypeTree} {ls : List Leaf} → Leaves datas (signal d t) ls → length ls ≡ 1
one_of_signal (one_leaf r) = refl

-- the fields of data that is a port
record Fields (datas : List Data) (d : ℕ) (ts : TypeTrees) (ls : List Leaf) : Type 0 where
  pub it : Data
  pub con : ConDecl
  pub known : slice_get datas d ≡ Some it
  pub one : it.cons ≡ con ∷ []
  pub all : LeavesOfAll datas con.fields (arguments ts) ls

fields_of : {datas : List Data} {d : ℕ} {ts : TypeTrees} {ls : List Leaf} → Leaves datas (data_of d ts) ls → Fields datas d ts ls
fields_of {datas} (leaves_of_fields {it = it} {ts = ts} {c = c} {ls = ls} known n one are all) =
    record { it = it; con = c; known = known; one = one; all = subst (λ gs. LeavesOfAll datas gs (arguments ts) ls) (sym are) all }

none_of_none : {datas : List Data} {σ : Substitution} {ls : List Leaf} → LeavesOfAll datas [] σ ls → length ls ≡ 0
none_of_none no_leaves = refl

-- the leaves of the first, and those of the others
record Parts (datas : List Data) (f : TypeTree) (fs : List TypeTree) (σ : Substitution) (ls : List Leaf) : Type 0 where
  pub first : List Leaf
  pub others : List Leaf
  pub of_first : Leaves datas (sub f σ) first
  pub of_others : LeavesOfAll datas fs σ others
  pub are : length ls ≡ length first + length others

parts_of : {datas : List Data} {f : TypeTree} {fs : List TypeTree} {σ : Substitution} {ls : List Leaf} → LeavesOfAll datas (f ∷ fs) σ ls → Parts datas f fs σ ls
parts_of (leaves_and {ls = ls} {ms = ms} l more) = record { first = ls; others = ms; of_first = l; of_others = more; are = length-append ls ms }

mutual
  -- a port has one number of leaves
  pub one_count : {datas : List Data} {t : TypeTree} {ls ms : List Leaf} → Leaves datas t ls → Leaves datas t ms → length ls ≡ length ms
  one_count (one_leaf r) m = sym (one_of_signal m)
  one_count {datas} {ms = ms} (leaves_of_fields {it = it} {ts = ts} {c = c} known n one are all) m =
      let w = fields_of m in
      let same : it ≡ w.it = cc (known, w.known) in
      let con : c ≡ w.con = cc (one, w.one, ap (λ (d : Data). d.cons) same) in
      one_count_of_all all (subst (λ gs. LeavesOfAll datas gs (arguments ts) ms) (ap (λ (k : ConDecl). k.fields) (sym con) ∙ are) w.all)

  one_count_of_all : {datas : List Data} {fs : List TypeTree} {σ : Substitution} {ls ms : List Leaf} → LeavesOfAll datas fs σ ls → LeavesOfAll datas fs σ ms → length ls ≡ length ms
  one_count_of_all no_leaves m = sym (none_of_none m)
  one_count_of_all (leaves_and {ls = ls} {ms = ms} l more) m =
      let w = parts_of m in
      let a = one_count l w.of_first in
      let b = one_count_of_all more w.of_others in
      omega (arith, length-append ls ms, a, b, w.are)

-- a function is no port
no_port : {datas : List Data} {a b : TypeTree} {ls : List Leaf} → Leaves datas (fun a b) ls → ⊥
no_port l = elim l [ ]

-- a function that leads from ports to a port
record Leading (datas : List Data) (a b : TypeTree) (m n : ℕ) : Type 0 where
  pub leaves : List Leaf
  pub left : ℕ
  pub first : Leaves datas a leaves
  pub more : LeadsToPort datas b left n
  pub are : m ≡ length leaves + left

leading : {datas : List Data} {a b : TypeTree} {m n : ℕ} → LeadsToPort datas (fun a b) m n → Leading datas a b m n
leading (to_port l) = absurd (no_port l)
leading (from_port {ls = ls} {m = m} l more) = record { leaves = ls; left = m; first = l; more = more; are = refl }

-- the two types lead from ports to a port with these numbers, or neither does
pub record LeadAlike (datas : List Data) (t u : TypeTree) (m k n : ℕ) : Type 0 where
  pub onward : LeadsToPort datas t m n → LeadsToPort datas u k n
  pub back : LeadsToPort datas u k n → LeadsToPort datas t m n

pub alike_self : (datas : List Data) (t : TypeTree) (m n : ℕ) → LeadAlike datas t t m m n
alike_self datas t m n = record { onward = λ l. l; back = λ l. l }

-- a parameter is passed, and its leaves are taken off
pub alike_passed : (datas : List Data) (t a b : TypeTree) (m k k' n c : ℕ) → HasLeaves datas a c → c ≤ k → k' ≡ k - c → LeadAlike datas t (fun a b) m k n → LeadAlike datas t b m k' n
alike_passed datas t a b m k k' n c l le is h = record {
  onward = λ p.
      let w = leading (h.onward p) in
      let same = one_count l.are w.first in
      let e : w.left ≡ k' = omega (arith, same, l.count, w.are) in
      subst (λ j. LeadsToPort datas b j n) e w.more;
  back = λ p.
      let e : length l.leaves + k' ≡ k = omega (arith, l.count) in
      h.back (subst (λ j. LeadsToPort datas (fun a b) j n) e (from_port l.are p));
}

-- a parameter that is no port, or has too many leaves
pub not_passed : (datas : List Data) (t a b : TypeTree) (m k n : ℕ) → LeadAlike datas t (fun a b) m k n → HasMoreLeaves datas a k → LeadsToPort datas t m n → ⊥
not_passed datas t a b m k n h more p =
    let w = leading (h.onward p) in
    more (length w.leaves) (omega (arith, w.are)) (record { leaves = w.leaves; are = w.first; count = refl })

-- what is no function leads to a port only as one, with no parameters
record Ending (datas : List Data) (t : TypeTree) (m n : ℕ) : Type 0 where
  pub none : m ≡ 0
  pub leaves : List Leaf
  pub of_type : Leaves datas t leaves
  pub count : length leaves ≡ n

ending : {datas : List Data} {t : TypeTree} {m n : ℕ} → ((a b : TypeTree) → t ≡ fun a b → ⊥) → LeadsToPort datas t m n → Ending datas t m n
ending other (to_port {ls = ls} l) = record { none = refl; leaves = ls; of_type = l; count = refl }
ending other (from_port {a = a} {b = b} l more) = absurd (other a b refl)

ends_well : (datas : List Data) (t u : TypeTree) (m k n c : ℕ) → HasLeaves datas u c → k ≡ 0 → c ≡ n → LeadAlike datas t u m k n → LeadsToPort datas t m n
ends_well datas t u m k n c l none same h =
    h.back (subst (λ j. LeadsToPort datas u j n) (sym none) (subst (λ j. LeadsToPort datas u 0 j) (l.count ∙ same) (to_port l.are)))

ends_ill : (datas : List Data) (t u : TypeTree) (m k n c : ℕ) → ((a b : TypeTree) → u ≡ fun a b → ⊥) → HasLeaves datas u c → (k ≡ 0 → c ≡ n → ⊥) → LeadAlike datas t u m k n → LeadsToPort datas t m n → ⊥
ends_ill datas t u m k n c other l unlike h p =
    let w = ending other (h.onward p) in
    unlike w.none (sym l.count ∙ one_count l.are w.of_type ∙ w.count)

-- the answer at the end, by a test of the numbers
pub ends : (datas : List Data) (t u : TypeTree) (m k n c : ℕ) (b : Bool) → ((x y : TypeTree) → u ≡ fun x y → ⊥) → HasLeaves datas u c → LeadAlike datas t u m k n
    → (b ≡ true → (k ≡ 0) × (c ≡ n)) → (b ≡ false → k ≡ 0 → c ≡ n → ⊥) → MatchBool b (LeadsToPort datas t m n) (LeadsToPort datas t m n → ⊥)
ends datas t u m k n c true other l h alike unlike = let e = alike refl in ends_well datas t u m k n c l e.0 e.1 h
ends datas t u m k n c false other l h alike unlike = ends_ill datas t u m k n c other l (unlike refl) h

-- a result that is no port, or has too many leaves
pub ends_at_none : (datas : List Data) (t u : TypeTree) (m k n : ℕ) → ((a b : TypeTree) → u ≡ fun a b → ⊥) → HasMoreLeaves datas u n → LeadAlike datas t u m k n → LeadsToPort datas t m n → ⊥
ends_at_none datas t u m k n other more h p =
    let w = ending other (h.onward p) in
    more n (omega arith) (record { leaves = w.leaves; are = w.of_type; count = w.count })

-- what has no form of a function is none
pub no_function : (node : TyNode) → ((a b : _) → node ≡ Fun a b → ⊥) → (a b : TypeTree) → tree_of node ≡ fun a b → ⊥
no_function (Fun f t) h a b e = h f t refl
no_function (Var x) h a b e = absurd (cc)
no_function (NatLit n) h a b e = absurd (cc)
no_function (Sum l r) h a b e = absurd (cc)
no_function (Times l r) h a b e = absurd (cc)
no_function (DomOf d) h a b e = absurd (cc)
no_function (Unsigned w) h a b e = absurd (cc)
no_function (Signed w) h a b e = absurd (cc)
no_function (BitVector w) h a b e = absurd (cc)
no_function (VecNode n t) h a b e = absurd (cc)
no_function (DataOf d ts) h a b e = absurd (cc)
no_function (Signal d t) h a b e = absurd (cc)
no_function (Forall k t) h a b e = absurd (cc)
