-- A program has one list of ports, and an output at most one meaning at a history.
use Rattle.std.specs.Prelude.{replicate}
use Rattle.std.proofs.Common.{◌≡◌, ℕ, suc, zero, List, [], ◌∷◌, ◌++◌, length, refl, sym, ap, ◌∙◌, subst}
use Rattle.chw_base.specs.declared.index.DomId.{DomId}
use Rattle.chw_clock.specs.declared.event.Port.{Port}
use Rattle.chw_clock.specs.declared.event.Ports.{Ports}
use Rattle.chw_types.specs.declared.declarations.Data.{Data}
use Rattle.type_ports.specs.declared.ports.Leaf.{Leaf}
use Rattle.chw_types.specs.TypeTree.{TypeTree, domain, signal}
use Rattle.chw_types.specs.TypeMoves.{Substitution}
use Rattle.type_ports.specs.Ports.{leaf_of, Leaves, one_leaf, leaves_of_fields, LeavesOfAll, no_leaves, leaves_and}
use Rattle.chw_terms.specs.declared.program.Def.{Def}
use Rattle.chw_terms.specs.declared.program.Program.{Program}
use Rattle.chw_terms.specs.TermTree.{TermTree}
use Rattle.chw_layout.specs.Datum.{Datum}
use Rattle.chw_layout.specs.Encodes.{Encodes}
use Rattle.chw_layout.specs.EncodingPromises.{EncodingIsInjective}
use Rattle.chw_layout.specs.Measured.{HasWidth}
use Rattle.chw_meaning.specs.Values.{History}
use Rattle.chw_meaning.specs.Gives.{Input, stream_in, Gives}
use Rattle.chw_meaning.specs.Means.{LeadsFrom, leads_to, leads_from, port_of, PortsOf, no_ports, port_and, no_port_and, IsPortAt, port_here, port_later, port_past, IsTop, HasPorts, Decoded, decoded_none, decoded_and, Streams, no_streams, stream_and, stream_of_one, Means}
use Rattle.chw_meaning.proofs.Once.{same_some, zero_once}
use Rattle.chw_meaning.proofs.GivenOnce.{wide_and_empty, same_fields, gives_once}
use Rattle.chw_meaning.proofs.Widths.{width_once}

-- the leaf of a signal
signal_leaf : {datas : List Data} {a t : TypeTree} {ls : List Leaf} → Leaves datas (signal a t) ls → (dom : DomId) × (a ≡ domain dom.number) × (ls ≡ leaf_of dom t ∷ [])
signal_leaf (one_leaf {dom = dom} r) = (dom, refl, refl)

same_number : {m n : ℕ} → domain m ≡ domain n → m ≡ n
same_number e = cc

same_leaf : (a b : DomId) (t : TypeTree) → domain a.number ≡ domain b.number → leaf_of a t ≡ leaf_of b t
same_leaf a b t e = let n : a.number ≡ b.number = same_number e in λ i. leaf_of (record { number = n i }) t

all_leaves_along : {datas : List Data} {fs gs : List TypeTree} {σ : Substitution} {ls : List Leaf} → fs ≡ gs → LeavesOfAll datas fs σ ls → LeavesOfAll datas gs σ ls
all_leaves_along {datas} {σ = σ} {ls = ls} e a = subst (λ fs. LeavesOfAll datas fs σ ls) e a

mutual
  type_leaves_once : {datas : List Data} {t : TypeTree} {ls ms : List Leaf} → Leaves datas t ls → Leaves datas t ms → ls ≡ ms
  type_leaves_once (one_leaf {dom = dom} {t = t} r) b = let q = signal_leaf b in ap (λ leaf. leaf ∷ []) (same_leaf dom q.0 t q.1) ∙ sym q.2
  type_leaves_once (leaves_of_fields {it = x} i n j k a) (leaves_of_fields {it = y} l o m p b) = all_leaves_once a (all_leaves_along (same_fields y x (same_some l i) m j p k) b)

  all_leaves_once : {datas : List Data} {fs : List TypeTree} {σ : Substitution} {ls ms : List Leaf} → LeavesOfAll datas fs σ ls → LeavesOfAll datas fs σ ms → ls ≡ ms
  all_leaves_once no_leaves no_leaves = refl
  all_leaves_once (leaves_and a as') (leaves_and b bs) = λ i. type_leaves_once a b i ++ all_leaves_once as' bs i

leads_once : {datas : List Data} {t : TypeTree} {ins outs ins' outs' : List Leaf} → LeadsFrom datas t ins outs → LeadsFrom datas t ins' outs' → (ins ≡ ins') × (outs ≡ outs')
leads_once (leads_to a) (leads_to b) = (refl, type_leaves_once a b)
leads_once (leads_to a) (leads_from b c) = elim a [ ]
leads_once (leads_from a b) (leads_to c) = elim c [ ]
leads_once (leads_from a b) (leads_from c d) = let q = leads_once b d in (λ i. type_leaves_once a c i ++ q.0 i, q.1)

top_once : {p : Program} {it it' : Def} {ins outs ins' outs' : List Leaf} → IsTop p it ins outs → IsTop p it' ins' outs' → (it ≡ it') × (ins ≡ ins') × (outs ≡ outs')
top_once {p} {ins' = ins'} {outs' = outs'} a b =
    let same = same_some b.held a.held in
    let q = leads_once a.leads (subst (λ (d : Def). LeadsFrom p.datas d.ty ins' outs') same b.leads) in
    (sym same, q.0, q.1)

ports_once : {datas : List Data} {leaves : List Leaf} {names : List (List ℕ)} {a b : List Port} → PortsOf datas leaves names a → PortsOf datas leaves names b → a ≡ b
ports_once no_ports no_ports = refl
ports_once (port_and {leaf = leaf} {name = name} w as') (port_and v bs) = let q = width_once w v in λ i. port_of name leaf (q i) ∷ ports_once as' bs i
ports_once (port_and w as') (no_port_and v bs) = wide_and_empty v (_, w)
ports_once (no_port_and w as') (port_and v bs) = wide_and_empty w (_, v)
ports_once (no_port_and w as') (no_port_and v bs) = ports_once as' bs

pub has_ports_once : {p : Program} {a b : Ports} → HasPorts p a → HasPorts p b → a ≡ b
has_ports_once {p} {a} {b} x y =
    let q = top_once y.top x.top in
    let domains = x.domains ∙ sym y.domains in
    let resets = x.resets ∙ sym y.resets in
    let inputs = ports_once x.inputs (subst (λ ls. PortsOf p.datas ls p.top.inputs b.inputs) q.1 y.inputs) in
    let outputs = ports_once x.outputs (subst (λ ls. PortsOf p.datas ls p.top.outputs b.outputs) q.2 y.outputs) in
    λ i. record { domains = domains i; resets = resets i; inputs = inputs i; outputs = outputs i }

decoded_once : {datas : List Data} {t : TypeTree} {w i : ℕ} {h : History} {a b : List Datum} → EncodingIsInjective → HasWidth datas t w → Decoded datas t i h a → Decoded datas t i h b → a ≡ b
decoded_once one own decoded_none decoded_none = refl
decoded_once {datas} {t} {w} one own (decoded_and {b = bits} {d = v} e x as') (decoded_and {d = u} f y bs) =
    let same = one datas t v u w bits own x (subst (Encodes datas t u) (same_some f e) y) in
    λ i. decoded_once one own as' bs i ++ (same i ∷ [])

streams_once : {datas : List Data} {leaves : List Leaf} {i : ℕ} {h : History} {a b : List Input} → EncodingIsInjective → Streams datas leaves i h a → Streams datas leaves i h b → a ≡ b
streams_once one no_streams no_streams = refl
streams_once one (stream_and w x as') (stream_and v y bs) = λ i. stream_in (decoded_once one w x y i) ∷ streams_once one as' bs i
streams_once one (stream_and w x as') (stream_of_one v y bs) = wide_and_empty v (_, w)
streams_once one (stream_of_one w x as') (stream_and v y bs) = wide_and_empty w (_, v)
streams_once one (stream_of_one {h = h} w x as') (stream_of_one v y bs) = λ i. stream_in (replicate (length h) (zero_once x y i)) ∷ streams_once one as' bs i

port_at_once : {datas : List Data} {leaves : List Leaf} {i j k : ℕ} → IsPortAt datas leaves i k → IsPortAt datas leaves j k → i ≡ j
port_at_once (port_here w) (port_here v) = refl
port_at_once (port_here w) (port_past v b) = wide_and_empty v (_, w)
port_at_once (port_later w a) (port_later v b) = ap suc (port_at_once a b)
port_at_once (port_later w a) (port_past v b) = wide_and_empty v (_, w)
port_at_once (port_past w a) (port_here v) = wide_and_empty w (_, v)
port_at_once (port_past w a) (port_later v b) = wide_and_empty w (_, v)
port_at_once (port_past w a) (port_past v b) = ap suc (port_at_once a b)

gives_along : {p : Program} {e : TermTree} {t u : TypeTree} {ins more : List Input} {h : History} {j k : ℕ} {d : Datum} → t ≡ u → ins ≡ more → j ≡ k → Gives p e t ins h j d → Gives p e u more h k d
gives_along {p} {e} {t} {u} {ins} {more} {h} {j} {k} {d} x y z g =
    subst (λ k. Gives p e u more h k d) z (subst (λ ins. Gives p e u ins h j d) y (subst (λ t. Gives p e t ins h j d) x g))

pub means_once : {p : Program} {h : History} {k : ℕ} {a b : Datum} → EncodingIsInjective → Means p h k a → Means p h k b → a ≡ b
means_once {p} {h} {k} one x y =
    let q = top_once y.top x.top in
    let streams = streams_once one (subst (λ ls. Streams p.datas ls zero h y.streams) q.1 y.decode) x.decode in
    let leaf = port_at_once (subst (λ ls. IsPortAt p.datas ls y.leaf k) q.2 y.is_port) x.is_port in
    gives_once x.gives (gives_along (ap (λ (it : Def). it.ty) q.0) streams leaf y.gives)
