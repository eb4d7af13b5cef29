-- The leaves of a port that is given show what its streams show.
use Rattle.std.specs.Prelude.{slice_get}
use Rattle.std.proofs.Common.{◌≡◌, ℕ, zero, suc, ◌+◌, Bool, List, [], ◌∷◌, ◌++◌, length, Some, refl, sym, ap, ◌∙◌, subst, arith}
use Rattle.std.proofs.lemmas.List.{append_assoc}
use Rattle.chw_types.specs.Arguments.{list_of}
use Rattle.chw_types.specs.declared.declarations.ConDecl.{ConDecl}
use Rattle.chw_types.specs.declared.declarations.Data.{Data}
use Rattle.type_ports.specs.declared.ports.Leaf.{Leaf}
use Rattle.type_ports.specs.Ports.{Leaves, one_leaf, leaves_of_fields, LeavesOfAll, no_leaves, leaves_and}
use Rattle.type_ports.specs.Representable.{Representable}
use Rattle.chw_types.specs.TypeMoves.{Substitution, sub}
use Rattle.chw_types.specs.TypeTree.{TypeTree, TypeTrees, domain, signal}
use Rattle.chw_terms.specs.Constructors.{con_at}
use Rattle.chw_terms.specs.declared.program.Program.{Program}
use Rattle.chw_layout.specs.Datum.{Datum}
use Rattle.chw_layout.specs.Encodes.{first_constructor}
use Rattle.chw_layout.specs.Measured.{HasWidth}
use Rattle.chw_meaning.specs.Gives.{Input, stream_in, PortGiven, given_stream, given_product, FieldsGiven, given_no_field, given_field, LeafOf, leaf_of, PortLeaves, leaf_signal, leaves_product, FieldLeaves, no_field_leaves, field_leaves}
use Rattle.chw_meaning.specs.Steps.{params_of, fields_of, takes_types, takes_thunks}
use Rattle.chw_meaning.specs.Values.{History, con_head, Thunk, applied, field, stream, Thunks, none, thunk_and, thunk_at, count_of}
use Rattle.carrying.specs.Carrying.{Shows}
use Rattle.netlist.specs.declared.net.Net.{Net}
use Rattle.use_laws.specs.ValueIn.{ValueIn}
use Rattle.net_grounds.specs.Facts.{Facts}
use Rattle.net_means.proofs.Lists.{same_some}
use Rattle.net_means.specs.CircuitBits.Leaves.{HasAllOf}
use Rattle.net_means.proofs.Products.{none_further, Reaches, head_given, with_field, fields_made, field_follows}
use Rattle.net_means.proofs.Streams.{Shown, no_bits_shown, bits_shown}

-- leaves of a thunk, of these widths, show bits at the history; the input wires from the first number on, up to the second, have them
pub data LeavesShow (p : Program) (net : Net) (h : History) : ℕ → List LeafOf → List ℕ → ℕ → Type 0 where
  no_leaves_show : {n : ℕ} → LeavesShow p net h n [] [] n
  empty_leaf_shows : {n k : ℕ} {m : LeafOf} {ms : List LeafOf} {ws : List ℕ} → HasWidth p.datas m.payload zero → LeavesShow p net h n ms ws k → LeavesShow p net h n (m ∷ ms) (zero ∷ ws) k
  wide_leaf_shows : {n w k : ℕ} {m : LeafOf} {ms : List LeafOf} {ws : List ℕ} {bits : List Bool} → HasWidth p.datas m.payload (suc w) → Shows p m.payload m.thunk h bits → ValueIn net [] h n bits → length bits ≡ suc w → LeavesShow p net h (n + 1) ms ws k → LeavesShow p net h n (m ∷ ms) (suc w ∷ ws) k

show_beside : {p : Program} {net : Net} {h : History} {n k l : ℕ} {ms ns : List LeafOf} {ws vs : List ℕ} → LeavesShow p net h n ms ws k → LeavesShow p net h k ns vs l → LeavesShow p net h n (ms ++ ns) (ws ++ vs) l
show_beside no_leaves_show b = b
show_beside (empty_leaf_shows has a) b = empty_leaf_shows has (show_beside a b)
show_beside (wide_leaf_shows has s v e a) b = wide_leaf_shows has s v e (show_beside a b)

module _ (facts : Facts) (p : Program) (net : Net) (h : History) where
  -- a port's thunk has leaves that show bits, and streams are left
  pub record PortShown (n : ℕ) (t : TypeTree) (th : Thunk) (rest : List Leaf) (more : List Input) : Type 0 where
    pub leaves : List LeafOf
    pub are : PortLeaves p.datas t th leaves
    pub widths : List ℕ
    pub last : ℕ
    pub show : LeavesShow p net h n leaves widths last
    pub left : Shown p net h last rest more

  record FieldsShown (n : ℕ) (fs : List TypeTree) (σ : Substitution) (th : Thunk) (rest : List Leaf) (more : List Input) : Type 0 where
    leaves : List LeafOf
    are : FieldLeaves p.datas fs σ th leaves
    widths : List ℕ
    last : ℕ
    show : LeavesShow p net h n leaves widths last
    left : Shown p net h last rest more

  stream_shown : {n d : ℕ} {t : TypeTree} {leaf : Leaf} {rest : List Leaf} {ds : List Datum} {more : List Input} (th : Thunk) → leaf.payload ≡ t → Representable p.datas t → Shown p net h n (leaf ∷ rest) (stream_in ds ∷ more) → HasAllOf p h th (stream ds) → PortShown n (signal (domain d) t) th rest more
  stream_shown {n = n} {t = t} th is r (no_bits_shown has s) all =
      record { leaves = leaf_of t th ∷ []; are = leaf_signal r; widths = zero ∷ []; last = n; show = empty_leaf_shows (subst (λ t. HasWidth p.datas t zero) is has) no_leaves_show; left = s }
  stream_shown {n = n} {t = t} {ds = ds} th is r (bits_shown {w = w} {bits = bits} has shows value long s) all =
      record {
        leaves = leaf_of t th ∷ [];
        are = leaf_signal r;
        widths = suc w ∷ [];
        last = n + 1;
        show = wide_leaf_shows (subst (λ t. HasWidth p.datas t (suc w)) is has) (facts.shows.shows_through all (subst (λ t. Shows p t (stream ds) h bits) is shows)) value long no_leaves_show;
        left = s;
      }

  given_along : {fs gs : List TypeTree} {σ : Substitution} {on th : Thunk} {ins more : List Input} → fs ≡ gs → FieldsGiven p.datas fs σ on ins th more → FieldsGiven p.datas gs σ on ins th more
  given_along {σ = σ} {on = on} {th = th} {ins = ins} {more = more} e g = subst (λ fs. FieldsGiven p.datas fs σ on ins th more) e g

  fields_beside : {n : ℕ} {f : TypeTree} {fs : List TypeTree} {σ : Substitution} {th : Thunk} {between rest : List Leaf} {ins more : List Input} (first : PortShown n (sub f σ) (field (length fs) th) between ins) → FieldsShown first.last fs σ th rest more → FieldsShown n (f ∷ fs) σ th rest more
  fields_beside first others =
      record { leaves = first.leaves ++ others.leaves; are = field_leaves first.are others.are; widths = first.widths ++ others.widths; last = others.last; show = show_beside first.show others.show; left = others.left }

  -- the first constructor of a data type
  first_con : (d : ℕ) (it : Data) (k : ConDecl) → slice_get p.datas d ≡ Some it → it.cons ≡ k ∷ [] → con_at p.datas (first_constructor p.datas d) ≡ Some (record { of = d; it = it; decl = k })
  first_con d it k there one =
      let number = facts.constructors.one_numbering p.datas d in
      facts.constructors.at_place p.datas (first_constructor p.datas d) (record { of = d; it = it; decl = k })
      (record { place = zero; in_datas = there; in_cons = ap (λ cs. slice_get cs zero) one; number = omega (arith, number) })

  mutual
    pub port_shown : {t : TypeTree} {ls : List Leaf} {ins more : List Input} {th : Thunk} → Leaves p.datas t ls → PortGiven p.datas t ins th more → (n : ℕ) (rest : List Leaf) (on : Thunk) → Shown p net h n (ls ++ rest) ins → HasAllOf p h on th → PortShown n t on rest more
    port_shown (one_leaf r) (given_stream q values) n rest on s all = stream_shown on refl q s all
    port_shown (leaves_of_fields {d = d} {it = a} {ts = ts} {c = k} {f = f} {fs = fs} i many j e x) (given_product {it = b} l m o g) n rest on s all =
        let c : ℕ = first_constructor p.datas d in
        let con = first_con d a k i j in
        let types : length (list_of ts) ≡ takes_types p.datas (con_head c) = many ∙ sym (ap params_of con) in
        let fields : zero + length (f ∷ fs) ≡ takes_thunks p.datas (con_head c) = let one = ap (λ (ts : List TypeTree). length ts) e in let two = ap fields_of con in omega (arith, one, two) in
        let head = head_given p c h ts types in
        let more = fields_shown x (given_along (facts.ports.same_fields b a (same_some l i) m j o e) g) c head.types none head.many fields head.reaches n rest on s all in
        record { leaves = more.leaves; are = leaves_product i j e more.are; widths = more.widths; last = more.last; show = more.show; left = more.left }

    fields_shown : {fs : List TypeTree} {σ : Substitution} {ls : List Leaf} {ins more : List Input} {on th : Thunk} → LeavesOfAll p.datas fs σ ls → FieldsGiven p.datas fs σ on ins th more → (c : ℕ) (ts : TypeTrees) (ths : Thunks) → length (list_of ts) ≡ takes_types p.datas (con_head c) → count_of ths + length fs ≡ takes_thunks p.datas (con_head c) → Reaches p c h on ts ths
        → (n : ℕ) (rest : List Leaf) (whole : Thunk) → Shown p net h n (ls ++ rest) ins → HasAllOf p h whole th → FieldsShown n fs σ whole rest more
    fields_shown no_leaves given_no_field c ts ths many full r n rest whole s all = record { leaves = []; are = no_field_leaves; widths = []; last = n; show = no_leaves_show; left = s }
    fields_shown (leaves_and {fs = fs} {ls = ls} {ms = ms} a b) (given_field {on = on} {x = x} {th = th} {ins = ins} given others) c ts ths many full r n rest whole s all =
        let next : Reaches p c h (applied on x) ts (thunk_and x ths) = with_field p c h on x ts ths (omega (arith, full)) r in
        let count : count_of (thunk_and x ths) + length fs ≡ takes_thunks p.datas (con_head c) = omega (arith, full) in
        let made = fields_made p c h others ts (thunk_and x ths) many count next in
        let at : thunk_at made.all (length fs) ≡ Some x = none_further made.all (length fs) x (made.kept zero x refl) in
        let first = port_shown a given n (ms ++ rest) (field (length fs) whole) (subst (λ ls. Shown p net h n ls ins) (append_assoc ls ms rest) s)
        (field_follows p c h whole th x (length fs) made.turns made.all all made.forced at) in
        let more = fields_shown b others c ts (thunk_and x ths) many count next first.last rest whole first.left all in
        fields_beside first more
