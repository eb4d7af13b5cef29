-- What the search for leaves keeps.
use Rattle.std.proofs.Common.{◌≡◌, Bool, true, false, ℕ, suc, ◌+◌, ◌-◌, get_or, ◌<◌, inl, inr, refl, sym, ap, subst, ◌∙◌, List, [], ◌∷◌, ◌++◌, length, map, take, arith}
use Rattle.std.specs.Prelude.{reverse}
use Rattle.std.specs.Bool.{OnTrue}
use Rattle.std.proofs.lemmas.List.{reverse-append, reverse-reverse, length-reverse, get_or-reverse, take_more, map-append, append-nil, append_assoc}
use Rattle.chw_base.specs.declared.index.DomId.{DomId}
use Rattle.chw_types.specs.declared.declarations.ConDecl.{ConDecl}
use Rattle.chw_types.specs.declared.declarations.Data.{Data}
use Rattle.type_ports.specs.declared.ports.Leaf.{Leaf}
use Rattle.chw_types.specs.declared.ty.TyNode.{TyNode}
use Rattle.chw_types.specs.declared.ty.TyNode.TheVariants.{Var, NatLit, Sum, Times, DomOf, Unsigned, Signed, BitVector, Vec as VecNode, DataOf, Fun, Signal, Forall}
use Rattle.chw_types.specs.TypeTree.{TypeTree, domain, data_of, signal, TypeTrees}
use Rattle.chw_types.specs.TypeView.{tree_of}
use Rattle.chw_types.specs.TypeMoves.{Substitution, sub}
use Rattle.chw_types.specs.Arguments.{list_of, arguments, all_fields}
use Rattle.chw_types.specs.References.{HasNoCycle}
use Rattle.type_ports.specs.Representable.{Representable}
use Rattle.type_ports.specs.Ports.{leaf_of, Leaves, one_leaf, leaves_of_fields, LeavesOfAll, no_leaves, leaves_and, IsNoPort}
use Rattle.type_ports.specs.PortsFound.{IsProduct, IsNoProduct, Looked}
use Rattle.chw_types.proofs.Weights.{whole, all_whole, reverse_map, unfolded, all_whole_append, all_whole_reverse}

leaf_inverse : {datas : List Data} {d p : TypeTree} {ls : List Leaf} → Leaves datas (signal d p) ls → (dom : DomId) × (d ≡ domain dom.number) × Representable datas p × (ls ≡ leaf_of dom p ∷ [])
leaf_inverse (one_leaf {dom = dom} r) = (dom, refl, r, refl)

-- the fields of a product, and their leaves
record HasFields (datas : List Data) (d : ℕ) (ts : TypeTrees) (ls : List Leaf) : Type 0 where
  pub fields : List TypeTree
  pub product : IsProduct datas d (length (list_of ts)) fields
  pub all : LeavesOfAll datas fields (arguments ts) ls

product_inverse : {datas : List Data} {d : ℕ} {ts : TypeTrees} {ls : List Leaf} → Leaves datas (data_of d ts) ls → HasFields datas d ts ls
product_inverse (leaves_of_fields {it = it} {c = c} {f = f} {fs = fs} known n one are all) =
    record { fields = f ∷ fs; product = record { it = it; con = c; known = known; as_many = n; one = one; are = sym are; some = omega arith }; all = all }

pub other_no_port : (datas : List Data) (n : TyNode) → ((a b : _) → n ≡ Signal a b → ⊥) → ((a b : _) → n ≡ DataOf a b → ⊥) → IsNoPort datas (tree_of n)
other_no_port datas (Var x) h g ls r = elim r [ ]
other_no_port datas (NatLit n) h g ls r = elim r [ ]
other_no_port datas (Sum a b) h g ls r = elim r [ ]
other_no_port datas (Times a b) h g ls r = elim r [ ]
other_no_port datas (DomOf d) h g ls r = elim r [ ]
other_no_port datas (Unsigned w) h g ls r = elim r [ ]
other_no_port datas (Signed w) h g ls r = elim r [ ]
other_no_port datas (BitVector w) h g ls r = elim r [ ]
other_no_port datas (VecNode n t) h g ls r = elim r [ ]
other_no_port datas (DataOf d ts) h g ls r = g d ts refl
other_no_port datas (Fun a b) h g ls r = elim r [ ]
other_no_port datas (Signal a b) h g ls r = h a b refl
other_no_port datas (Forall k t) h g ls r = elim r [ ]

-- what is left to be found from a list of types
abbrev pub Left : List Data → List TypeTree → List Leaf → Type 0
Left datas [] ls = ls ≡ []
Left datas (t ∷ ts) ls = (a : List Leaf) × (b : List Leaf) × Leaves datas t a × Left datas ts b × (ls ≡ a ++ b)

-- looking at the first type finds these leaves, and leaves this to be looked at
record Follows (datas : List Data) (t : TypeTree) (ts next : List TypeTree) (found : List Leaf) : Type 0 where
  pub onward : (ls : List Leaf) → Left datas (t ∷ ts) ls → (rest : List Leaf) × Left datas next rest × (ls ≡ found ++ rest)
  pub back : (rest : List Leaf) → Left datas next rest → Left datas (t ∷ ts) (found ++ rest)

same_leaf : (a b : DomId) → a.number ≡ b.number → a ≡ b
same_leaf a b e = ap (λ n. record { number = n }) e

leaf_follows : (datas : List Data) (t : TypeTree) (ts : List TypeTree) (dom : DomId) (payload : TypeTree) → t ≡ signal (domain dom.number) payload → Representable datas payload → Follows datas t ts ts (leaf_of dom payload ∷ [])
leaf_follows datas t ts dom payload is fits =
    subst (λ t. Follows datas t ts ts (leaf_of dom payload ∷ [])) (sym is)
    (record {
      onward = λ ls h. let w = leaf_inverse h.2 in
          let e : dom.number ≡ w.0.number = cc (w.1) in
          (h.1, h.3, h.4 ∙ ap (λ a. a ++ h.1) (w.3 ∙ ap (λ d. leaf_of d payload ∷ []) (sym (same_leaf dom w.0 e))));
      back = λ rest h. (leaf_of dom payload ∷ [], rest, one_leaf fits, h, refl);
    })

all_onward : (datas : List Data) (σ : Substitution) (fs ts : List TypeTree) (a b : List Leaf) → LeavesOfAll datas fs σ a → Left datas ts b → Left datas (map (λ f. sub f σ) fs ++ ts) (a ++ b)
all_onward datas σ [] ts a b no_leaves h = h
all_onward datas σ (f ∷ fs) ts a b (leaves_and {ls = ls} {ms = ms} l all) h = (ls, ms ++ b, l, all_onward datas σ fs ts ms b all h, append_assoc ls ms b)

all_back : (datas : List Data) (σ : Substitution) (fs ts : List TypeTree) (ls : List Leaf) → Left datas (map (λ f. sub f σ) fs ++ ts) ls → (a : List Leaf) × (b : List Leaf) × LeavesOfAll datas fs σ a × Left datas ts b × (ls ≡ a ++ b)
all_back datas σ [] ts ls h = ([], ls, no_leaves, h, refl)
all_back datas σ (f ∷ fs) ts ls h =
    let w = all_back datas σ fs ts h.1 h.3 in
    (h.0 ++ w.0, w.1, leaves_and h.2 w.2, w.3, h.4 ∙ ap (λ c. h.0 ++ c) w.4 ∙ sym (append_assoc h.0 w.0 w.1))

to_leaves : {datas : List Data} {d : ℕ} {ts : TypeTrees} (fields : List TypeTree) {ls : List Leaf} → IsProduct datas d (length (list_of ts)) fields → LeavesOfAll datas fields (arguments ts) ls → Leaves datas (data_of d ts) ls
to_leaves [] p all = absurd (let l = p.some in omega arith)
to_leaves (f ∷ fs) p all = leaves_of_fields p.known p.as_many p.one (sym p.are) all

-- a data type has one list of fields
one_list : {datas : List Data} {d n : ℕ} {fs gs : List TypeTree} → IsProduct datas d n fs → IsProduct datas d n gs → fs ≡ gs
one_list p q =
    let it : p.it ≡ q.it = cc (p.known, q.known) in
    let con : p.con ≡ q.con = cc (p.one, q.one, ap (λ it. it.cons) it) in
    p.are ∙ ap (λ c. c.fields) con ∙ sym q.are

product_follows : (datas : List Data) (t : TypeTree) (ts : List TypeTree) (d : ℕ) (args : TypeTrees) (fields : List TypeTree) → t ≡ data_of d args → IsProduct datas d (length (list_of args)) fields → Follows datas t ts (map (λ f. sub f (arguments args)) fields ++ ts) []
product_follows datas t ts d args fields is p =
    subst (λ t. Follows datas t ts (map (λ f. sub f (arguments args)) fields ++ ts) []) (sym is)
    (record {
      onward = λ ls h. let w = product_inverse h.2 in
          let e = one_list w.product p in
          (h.0 ++ h.1, all_onward datas (arguments args) fields ts h.0 h.1 (subst (λ fs. LeavesOfAll datas fs (arguments args) h.0) e w.all) h.3, h.4);
      back = λ rest h. let w = all_back datas (arguments args) fields ts rest h in (w.0, w.1, to_leaves fields p w.2, w.3, w.4);
    })

pushed : (f : TypeTree → TypeTree) (todo fields : List TypeTree) → reverse (todo ++ map f (reverse fields)) ≡ map f fields ++ reverse todo
pushed f todo fields =
    reverse-append todo (map f (reverse fields)) ∙ ap (λ us. us ++ reverse todo) (reverse_map f (reverse fields) ∙ ap (map f) (reverse-reverse fields))

-- what the search keeps: the leaves of the whole type are those that were found and those that are left
pub record Searching (datas : List Data) (t : TypeTree) (found : List Leaf) (todo : List TypeTree) : Type 0 where
  pub onward : (ls : List Leaf) → Leaves datas t ls → (rest : List Leaf) × Left datas (reverse todo) rest × (ls ≡ found ++ rest)
  pub back : (rest : List Leaf) → Left datas (reverse todo) rest → Leaves datas t (found ++ rest)

pub search_begins : (datas : List Data) (t u : TypeTree) (found : List Leaf) (todo : List TypeTree) → u ≡ t → found ≡ [] → todo ≡ u ∷ [] → Searching datas t found todo
search_begins datas t u found todo is none one =
    subst (λ s. Searching datas t found s) (sym (one ∙ ap (λ u. u ∷ []) is)) (subst (λ f. Searching datas t f (t ∷ [])) (sym none) start)
  where
    start : Searching datas t [] (t ∷ [])
    start = record {
      onward = λ ls h. (ls, (ls, [], h, refl, sym (append-nil ls)), refl);
      back = λ rest h. subst (Leaves datas t) (sym (h.4 ∙ ap (λ b. h.0 ++ b) h.3 ∙ append-nil h.0)) h.2;
    }

goes_on : (datas : List Data) (t next : TypeTree) (found found' more : List Leaf) (old new todo' : List TypeTree) → old ≡ new ++ next ∷ [] → Follows datas next (reverse new) (reverse todo') more → found' ≡ found ++ more → Searching datas t found old → Searching datas t found' todo'
goes_on datas t next found found' more old new todo' e f is h =
    let turned : reverse old ≡ next ∷ reverse new = ap reverse e ∙ reverse-append new (next ∷ []) in
    record {
      onward = λ ls l. let w = h.onward ls l in
          let v = f.onward w.0 (subst (λ s. Left datas s w.0) turned w.1) in
          (v.0, v.1, w.2 ∙ ap (λ r. found ++ r) v.2 ∙ sym (append_assoc found more v.0) ∙ ap (λ g. g ++ v.0) (sym is));
      back = λ rest l. subst (Leaves datas t) (sym (append_assoc found more rest) ∙ ap (λ g. g ++ rest) (sym is))
          (h.back (more ++ rest) (subst (λ s. Left datas s (more ++ rest)) (sym turned) (f.back rest l)));
    }

pub search_goes_on : (datas : List Data) (t next : TypeTree) (found found' : List Leaf) (old new todo' : List TypeTree) → old ≡ new ++ next ∷ [] → Looked datas next found found' new todo' → Searching datas t found old → Searching datas t found' todo'
search_goes_on datas t next found found' old new todo' e (inl l) h =
    goes_on datas t next found found' (leaf_of l.0.dom l.0.payload ∷ []) old new todo' e
    (subst (λ s. Follows datas next (reverse new) s (leaf_of l.0.dom l.0.payload ∷ [])) (ap reverse (sym l.1)) (leaf_follows datas next (reverse new) l.0.dom l.0.payload l.0.is l.0.fits)) l.0.found h
search_goes_on datas t next found found' old new todo' e (inr l) h =
    goes_on datas t next found found' [] old new todo' e
    (subst (λ s. Follows datas next (reverse new) s []) (sym (ap reverse l.0.todo ∙ pushed (λ f. sub f (arguments l.0.ts)) new l.0.fields)) (product_follows datas next (reverse new) l.0.d l.0.ts l.0.fields l.0.is l.0.product)) (l.1 ∙ sym (append-nil found)) h

pub search_fails : (datas : List Data) (t next : TypeTree) (found : List Leaf) (old new : List TypeTree) → old ≡ new ++ next ∷ [] → IsNoPort datas next → Searching datas t found old → IsNoPort datas t
search_fails datas t next found old new e not h ls l =
    let w = h.onward ls l in
    let v = subst (λ s. Left datas s w.0) (ap reverse e ∙ reverse-append new (next ∷ [])) w.1 in
    not v.0 v.2

pub search_ends : (datas : List Data) (t : TypeTree) (found : List Leaf) (todo : List TypeTree) → length todo ≡ 0 → Searching datas t found todo → Leaves datas t found
search_ends datas t found [] e h = subst (Leaves datas t) (append-nil found) (h.back [] refl)
search_ends datas t found (u ∷ todo) e h = absurd (omega arith)

pub search_shrinks : (datas : List Data) (order : HasNoCycle datas) (next : TypeTree) (found found' : List Leaf) (old new todo' : List TypeTree) → old ≡ new ++ next ∷ [] → Looked datas next found found' new todo' → all_whole datas todo' < all_whole datas old
search_shrinks datas order next found found' old new todo' e (inl l) =
    let a : all_whole datas old ≡ all_whole datas new + (suc (whole datas next) + 0) = ap (all_whole datas) e ∙ all_whole_append datas new (next ∷ []) in
    let b : all_whole datas todo' ≡ all_whole datas new = ap (all_whole datas) l.1 in
    omega (arith, a, b)
search_shrinks datas order next found found' old new todo' e (inr l) =
    let f : TypeTree → TypeTree = λ f. sub f (arguments l.0.ts) in
    let p = l.0.product in
    let a : all_whole datas old ≡ all_whole datas new + (suc (whole datas next) + 0) = ap (all_whole datas) e ∙ all_whole_append datas new (next ∷ []) in
    let all : all_fields p.it.cons ≡ l.0.fields = ap all_fields p.one ∙ append-nil p.con.fields ∙ sym p.are in
    let w : whole datas next ≡ suc (all_whole datas (map f l.0.fields)) = ap (whole datas) l.0.is ∙ unfolded datas order l.0.d p.it l.0.ts p.known ∙ ap (λ fs. suc (all_whole datas (map f fs))) all in
    let b : all_whole datas todo' ≡ all_whole datas new + all_whole datas (map f l.0.fields) =
    ap (all_whole datas) l.0.todo ∙ all_whole_append datas new (map f (reverse l.0.fields)) ∙ ap (λ us. all_whole datas new + all_whole datas us) (sym (reverse_map f l.0.fields)) ∙ ap (λ n. all_whole datas new + n) (all_whole_reverse datas (map f l.0.fields)) in
    omega (arith, a, w, b)

-- what a look at a signal finds
pub no_domain : (datas : List Data) (n : TyNode) (p : TypeTree) → ((at : DomId) → n ≡ DomOf at → ⊥) → IsNoPort datas (signal (tree_of n) p)
no_domain datas (DomOf d) p h ls r = h d refl
no_domain datas (Var x) p h ls r = let w = leaf_inverse r in absurd (cc (w.1))
no_domain datas (NatLit n) p h ls r = let w = leaf_inverse r in absurd (cc (w.1))
no_domain datas (Sum a b) p h ls r = let w = leaf_inverse r in absurd (cc (w.1))
no_domain datas (Times a b) p h ls r = let w = leaf_inverse r in absurd (cc (w.1))
no_domain datas (Unsigned w) p h ls r = let w = leaf_inverse r in absurd (cc (w.1))
no_domain datas (Signed w) p h ls r = let w = leaf_inverse r in absurd (cc (w.1))
no_domain datas (BitVector w) p h ls r = let w = leaf_inverse r in absurd (cc (w.1))
no_domain datas (VecNode n t) p h ls r = let w = leaf_inverse r in absurd (cc (w.1))
no_domain datas (DataOf d ts) p h ls r = let w = leaf_inverse r in absurd (cc (w.1))
no_domain datas (Fun a b) p h ls r = let w = leaf_inverse r in absurd (cc (w.1))
no_domain datas (Signal a b) p h ls r = let w = leaf_inverse r in absurd (cc (w.1))
no_domain datas (Forall k t) p h ls r = let w = leaf_inverse r in absurd (cc (w.1))

pub no_payload : (datas : List Data) (d p : TypeTree) → (Representable datas p → ⊥) → IsNoPort datas (signal d p)
no_payload datas d p h ls r = h (leaf_inverse r).2

pub no_product : (datas : List Data) (d n : ℕ) (ts : TypeTrees) → n ≡ length (list_of ts) → IsNoProduct datas d n → IsNoPort datas (data_of d ts)
no_product datas d n ts e h ls r = let w = product_inverse r in h w.fields (subst (λ k. IsProduct datas d k w.fields) (sym e) w.product)

pub single : (xs : List ConDecl) (x : ConDecl) → length xs ≡ 1 → x ≡ get_or xs 0 x → xs ≡ x ∷ []
single [] x e f = absurd (omega arith)
single (y ∷ []) x e f = ap (λ z. z ∷ []) (sym f)
single (y ∷ z ∷ xs) x e f = absurd (omega arith)

pub push_next : (g : TypeTree → TypeTree) (start now new fields : List TypeTree) (i : ℕ) (f x : TypeTree) → i < length fields → f ≡ get_or fields (length fields - 1 - i) f → x ≡ g f → new ≡ now ++ x ∷ [] → now ≡ start ++ map g (take i (reverse fields)) → new ≡ start ++ map g (take (i + 1) (reverse fields))
push_next g start now new fields i f x l at is e inv =
    let below : i < length (reverse fields) = omega (arith, length-reverse fields) in
    e ∙ (λ j. inv j ++ (is ∙ ap g (at ∙ sym (get_or-reverse fields i f l))) j ∷ [])
    ∙ append_assoc start (map g (take i (reverse fields))) (g (get_or (reverse fields) i f) ∷ [])
    ∙ ap (λ us. start ++ us) (sym (map-append g (take i (reverse fields)) (get_or (reverse fields) i f ∷ [])) ∙ ap (map g) (sym (take_more (reverse fields) i f below)))

pub on_true : (b : Bool) (P : Type 0) → b ≡ true → OnTrue b P → P
on_true true P e h = h
on_true false P e h = absurd (cc)
