-- The leaves of a product are those of its fields.
use Rattle.std.specs.Prelude.{slice_get}
use Rattle.std.proofs.Common.{◌≡◌, ◌<◌, ℕ, zero, suc, ◌+◌, List, [], ◌∷◌, ◌++◌, length, map, Some, refl, sym, ap, ◌∙◌, subst, arith}
use Rattle.std.proofs.lemmas.List.{length-map}
use Rattle.chw_types.specs.Arguments.{arguments}
use Rattle.chw_types.specs.declared.declarations.ConDecl.{ConDecl}
use Rattle.chw_types.specs.declared.declarations.Data.{Data}
use Rattle.type_ports.specs.declared.ports.Leaf.{Leaf}
use Rattle.type_ports.specs.Ports.{Leaves, leaves_of_fields, LeavesOfAll, no_leaves, leaves_and}
use Rattle.chw_types.specs.TypeMoves.{Substitution, sub}
use Rattle.chw_types.specs.TypeTree.{TypeTree, TypeTrees, data_of}
use Rattle.chw_terms.specs.Constructors.{Constructor, con_at}
use Rattle.chw_terms.specs.declared.scene.Sort.TheVariants.{Circuit}
use Rattle.chw_meaning.specs.Gives.{LeafOf, PortLeaves, leaves_product, FieldLeaves, no_field_leaves, field_leaves}
use Rattle.chw_meaning.specs.Values.{Thunk, field}
use Rattle.net_built.specs.Circuits.{HaveParts}
use Rattle.net_built.specs.Data.{HaveWidths, HasParts, port_parts}
use Rattle.net_grounds.specs.Facts.{Facts}
use Rattle.net_means.proofs.Lists.{same_some}
use Rattle.net_means.specs.CircuitBits.Leaves.{leaves_before, IsLeaf}

pub in_front : {A : Type 0} (xs ys : List A) (j : ℕ) (a : A) → slice_get xs j ≡ Some a → slice_get (xs ++ ys) j ≡ Some a
in_front [] ys j a e = absurd cc
in_front (x ∷ xs) ys zero a e = e
in_front (x ∷ xs) ys (suc j) a e = in_front xs ys j a e

pub behind : {A : Type 0} (xs ys : List A) (j n : ℕ) → n ≡ length xs + j → slice_get (xs ++ ys) n ≡ slice_get ys j
behind [] ys j n e = let same : n ≡ j = omega (arith, e) in ap (slice_get ys) same
behind (x ∷ xs) ys j zero e = absurd (omega (arith, e))
behind (x ∷ xs) ys j (suc n) e = behind xs ys j n (omega (arith, e))

-- what stands in front of others is there before them
front_only : {A : Type 0} (xs ys : List A) (j : ℕ) (a : A) → j < length xs → slice_get (xs ++ ys) j ≡ Some a → slice_get xs j ≡ Some a
front_only [] ys j a l e = absurd (omega (arith, l))
front_only (x ∷ xs) ys zero a l e = e
front_only (x ∷ xs) ys (suc j) a l e = front_only xs ys j a (omega (arith, l)) e

as_many_widths : (datas : List Data) (ts : List TypeTree) (ws : List ℕ) → HaveWidths datas ts ws → length ts ≡ length ws
as_many_widths datas [] [] h = refl
as_many_widths datas [] (w ∷ ws) h = absurd h
as_many_widths datas (t ∷ ts) [] h = absurd h
as_many_widths datas (t ∷ ts) (w ∷ ws) h = ap suc (as_many_widths datas ts ws h.1)

-- as many leaves as parts
pub as_many_leaves : Facts → {datas : List Data} {t : TypeTree} {ws : List ℕ} {th : Thunk} {ls : List LeafOf} → HasParts datas Circuit t ws → PortLeaves datas t th ls → length ls ≡ length ws
as_many_leaves facts {datas} {ws = ws} {ls = ls} (port_parts {leaves = ks} l h) are =
    let same = ap (λ (ts : List TypeTree). length ts) (facts.ports.leaves_agree l are) in
    let one = length-map ls (λ (m : LeafOf). m.payload) in
    sym one ∙ same ∙ as_many_widths datas (map (λ (k : Leaf). k.payload) ks) ws h

all_there : Facts → {datas : List Data} {fs : List TypeTree} {σ : Substitution} {ls : List Leaf} → LeavesOfAll datas fs σ ls → (th : Thunk) → (ms : List LeafOf) × FieldLeaves datas fs σ th ms
all_there facts no_leaves th = ([], no_field_leaves)
all_there facts (leaves_and {fs = fs} a b) th =
    let first = facts.ports.leaves_there a (field (length fs) th) in
    let rest = all_there facts b th in
    (first.0 ++ rest.0, field_leaves first.1 rest.1)

-- leaves of fields, of which one has these
record Having (datas : List Data) (fs : List TypeTree) (σ : Substitution) (th : Thunk) (before : ℕ) (own : List LeafOf) : Type 0 where
  leaves : List LeafOf
  are : FieldLeaves datas fs σ th leaves
  at : (j : ℕ) (leaf : LeafOf) → slice_get own j ≡ Some leaf → slice_get leaves (before + j) ≡ Some leaf

having : Facts → {datas : List Data} {fs : List TypeTree} {σ : Substitution} {ls : List Leaf} → LeavesOfAll datas fs σ ls → (th : Thunk) (parts : List (List ℕ)) (i k : ℕ) (f : TypeTree) (own : List LeafOf) → HaveParts datas (map (λ f. sub f σ) fs) parts → slice_get fs i ≡ Some f → k + suc i ≡ length fs → PortLeaves datas (sub f σ) (field k th) own → Having datas fs σ th (leaves_before i parts) own
having facts no_leaves th parts i k f own have e count are = absurd cc
having facts (leaves_and a b) th [] i k f own have e count are = absurd have
having facts {datas} {σ = σ} (leaves_and {f = g} {fs = fs} a b) th (ws ∷ parts) zero k f own have e count are =
    let is : f ≡ g = cc in
    let place : k ≡ length fs = omega (arith, count) in
    let first : PortLeaves datas (sub g σ) (field (length fs) th) own =
    subst (λ k. PortLeaves datas (sub g σ) (field k th) own) place (subst (λ f. PortLeaves datas (sub f σ) (field k th) own) is are) in
    let rest = all_there facts b th in
    record { leaves = own ++ rest.0; are = field_leaves first rest.1; at = λ j leaf at. let same : 0 + j ≡ j = omega arith in ap (slice_get (own ++ rest.0)) same ∙ in_front own rest.0 j leaf at }
having facts {datas} {σ = σ} (leaves_and {f = g} {fs = fs} a b) th (ws ∷ parts) (suc i) k f own have e count are =
    let first = facts.ports.leaves_there a (field (length fs) th) in
    let rest = having facts b th parts i k f own have.1 e (omega (arith, count)) are in
    let many : length first.0 ≡ length ws = as_many_leaves facts have.0 first.1 in
    record {
      leaves = first.0 ++ rest.leaves;
      are = field_leaves first.1 rest.are;
      at = λ j leaf at.
          behind first.0 rest.leaves (leaves_before i parts + j) (length ws + leaves_before i parts + j) (omega (arith, many)) ∙ rest.at j leaf at;
    }

-- a field's leaves, of those of all
record FieldOf (datas : List Data) (t : TypeTree) (th : Thunk) (j : ℕ) (leaf : LeafOf) : Type 0 where
  leaves : List LeafOf
  are : PortLeaves datas t th leaves
  at : slice_get leaves j ≡ Some leaf

field_of : Facts → {datas : List Data} {fs : List TypeTree} {σ : Substitution} {th : Thunk} {ms : List LeafOf} → FieldLeaves datas fs σ th ms → (parts : List (List ℕ)) (i j k : ℕ) (f : TypeTree) (ws : List ℕ) (leaf : LeafOf) → HaveParts datas (map (λ f. sub f σ) fs) parts → slice_get fs i ≡ Some f → slice_get parts i ≡ Some ws → j < length ws → k + suc i ≡ length fs → slice_get ms (leaves_before i parts + j) ≡ Some leaf → FieldOf datas (sub f σ) (field k th) j leaf
field_of facts no_field_leaves parts i j k f ws leaf have e one l count at = absurd cc
field_of facts (field_leaves a b) [] i j k f ws leaf have e one l count at = absurd have
field_of facts {datas} {σ = σ} {th = th} (field_leaves {f = g} {fs = fs} {ls = ls} {ms = ms} a b) (vs ∷ parts) zero j k f ws leaf have e one l count at =
    let is : g ≡ f = cc in
    let part : vs ≡ ws = cc in
    let place : length fs ≡ k = omega (arith, count) in
    let many : length ls ≡ length vs = as_many_leaves facts have.0 a in
    let size : length vs ≡ length ws = ap (λ (ws : List ℕ). length ws) part in
    record {
      leaves = ls;
      are = subst (λ k. PortLeaves datas (sub f σ) (field k th) ls) place (subst (λ f. PortLeaves datas (sub f σ) (field (length fs) th) ls) is a);
      at = let same : j ≡ 0 + j = omega arith in front_only ls ms j leaf (omega (arith, l, many, size)) (ap (slice_get (ls ++ ms)) same ∙ at);
    }
field_of facts {datas} (field_leaves {fs = fs} {ls = ls} {ms = ms} a b) (vs ∷ parts) (suc i) j k f ws leaf have e one l count at =
    let many : length ls ≡ length vs = as_many_leaves facts have.0 a in
    field_of facts b parts i j k f ws leaf have.1 e one l (omega (arith, count)) (sym (behind ls ms (leaves_before i parts + j) (length vs + leaves_before i parts + j) (omega (arith, many))) ∙ at)

same_decl : (c d : ConDecl) (place : ℕ) → slice_get (c ∷ []) place ≡ Some d → c ≡ d
same_decl c d zero e = cc
same_decl c d (suc place) e = absurd cc

-- the leaves of a port are those of the fields of its constructor, which is its only one
pub record OnlyCon (datas : List Data) (it : Constructor) (ts : TypeTrees) (ls : List Leaf) : Type 0 where
  pub leaves : LeavesOfAll datas it.decl.fields (arguments ts) ls
  pub single : length it.it.cons ≡ 1
  pub back : (th : Thunk) (ms : List LeafOf) → FieldLeaves datas it.decl.fields (arguments ts) th ms → PortLeaves datas (data_of it.of ts) th ms
  pub forth : (th : Thunk) (ms : List LeafOf) → PortLeaves datas (data_of it.of ts) th ms → FieldLeaves datas it.decl.fields (arguments ts) th ms

pub only_con : Facts → (datas : List Data) (c : ℕ) (it : Constructor) {ts : TypeTrees} {ls : List Leaf} → con_at datas c ≡ Some it → Leaves datas (data_of it.of ts) ls → OnlyCon datas it ts ls
only_con facts datas c it {ts} {ls} known (leaves_of_fields {it = other} {c = con} {f = f} {fs = fs} there as_many one fields a) =
    let mine = facts.constructors.is_constructor datas c it known in
    let same : it.it ≡ other = same_some mine.data_type there in
    let cons : it.it.cons ≡ con ∷ [] = ap (λ (x : Data). x.cons) same ∙ one in
    let decl : con ≡ it.decl = same_decl con it.decl mine.place (subst (λ cs. slice_get cs mine.place ≡ Some it.decl) cons mine.decl) in
    let are : f ∷ fs ≡ it.decl.fields = sym fields ∙ ap (λ (x : ConDecl). x.fields) decl in
    record {
      leaves = subst (λ fs. LeavesOfAll datas fs (arguments ts) ls) are a;
      single = ap (λ (cs : List ConDecl). length cs) cons;
      back = λ th ms x. leaves_product there one fields (subst (λ fs. FieldLeaves datas fs (arguments ts) th ms) (sym are) x);
      forth = λ th ms x. fields_there other con f fs there one fields are x;
    }
  where
    fields_there : (other : Data) (con : ConDecl) (f : TypeTree) (fs : List TypeTree) → slice_get datas it.of ≡ Some other → other.cons ≡ con ∷ [] → con.fields ≡ f ∷ fs → f ∷ fs ≡ it.decl.fields → {th : Thunk} {ms : List LeafOf} → PortLeaves datas (data_of it.of ts) th ms → FieldLeaves datas it.decl.fields (arguments ts) th ms
    fields_there other con f fs there one fields are {th} {ms} (leaves_product {it = another} {k = k} {f = g} {fs = gs} known single of x) =
        let same : another ≡ other = same_some known there in
        let both : k ∷ [] ≡ con ∷ [] = sym single ∙ ap (λ (x : Data). x.cons) same ∙ one in
        let decl : k ≡ con = cc in
        let types : g ∷ gs ≡ it.decl.fields = sym of ∙ ap (λ (x : ConDecl). x.fields) decl ∙ fields ∙ are in
        subst (λ fs. FieldLeaves datas fs (arguments ts) th ms) types x

-- a leaf of a field as one of the product, and back
pub leaf_of_field : Facts → (datas : List Data) (it : Constructor) (ts : TypeTrees) (ls : List Leaf) → OnlyCon datas it ts ls → (th : Thunk) (parts : List (List ℕ)) (i j k : ℕ) (f : TypeTree) (leaf : LeafOf) → HaveParts datas (map (λ f. sub f (arguments ts)) it.decl.fields) parts → slice_get it.decl.fields i ≡ Some f → k + suc i ≡ length it.decl.fields → IsLeaf datas (sub f (arguments ts)) (field k th) j leaf → IsLeaf datas (data_of it.of ts) th (leaves_before i parts + j) leaf
leaf_of_field facts datas it ts ls con th parts i j k f leaf have e count is =
    let all = having facts con.leaves th parts i k f is.leaves have e count is.are in
    record { leaves = all.leaves; are = con.back th all.leaves all.are; at = all.at j leaf is.at }

pub field_of_leaf : Facts → (datas : List Data) (it : Constructor) (ts : TypeTrees) (ls : List Leaf) → OnlyCon datas it ts ls → (th : Thunk) (parts : List (List ℕ)) (i j k : ℕ) (f : TypeTree) (ws : List ℕ) (leaf : LeafOf) → HaveParts datas (map (λ f. sub f (arguments ts)) it.decl.fields) parts → slice_get it.decl.fields i ≡ Some f → slice_get parts i ≡ Some ws → j < length ws → k + suc i ≡ length it.decl.fields → IsLeaf datas (data_of it.of ts) th (leaves_before i parts + j) leaf → IsLeaf datas (sub f (arguments ts)) (field k th) j leaf
field_of_leaf facts datas it ts ls con th parts i j k f ws leaf have e one l count is =
    let x = field_of facts (con.forth th is.leaves is.are) parts i j k f ws leaf have e one l count is.at in
    record { leaves = x.leaves; are = x.are; at = x.at }
