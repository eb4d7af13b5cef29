-- The leaves of ports, of thunks and of inputs, by the walk that all three go.
use Rattle.std.proofs.Common.{◌≡◌, suc, refl, sym, ap, subst, ◌∙◌, List, [], ◌∷◌, ◌++◌, map, length}
use Rattle.std.proofs.lemmas.List.{map-append, append_assoc}
use Rattle.chw_types.specs.declared.declarations.Data.{Data}
use Rattle.type_ports.specs.declared.ports.Leaf.{Leaf}
use Rattle.chw_types.specs.TypeTree.{TypeTree}
use Rattle.chw_types.specs.TypeMoves.{Substitution}
use Rattle.type_ports.specs.Ports.{Leaves, one_leaf, leaves_of_fields, LeavesOfAll, no_leaves, leaves_and}
use Rattle.chw_layout.specs.Datum.{Datum}
use Rattle.chw_layout.specs.Encodes.{first_constructor}
use Rattle.chw_terms.specs.TermTree.{con}
use Rattle.chw_types.specs.TypeTree.{no_types}
use Rattle.chw_meaning.specs.Values.{Thunk, closed, none, applied, field, stream}
use Rattle.chw_meaning.specs.Gives.{Input, stream_in, at_types, PortGiven, given_stream, given_product, FieldsGiven, given_no_field, given_field, LeafOf, leaf_of, PortLeaves, leaf_signal, leaves_product, FieldLeaves, no_field_leaves, field_leaves}
use Rattle.chw_meaning.proofs.Once.{same_some}
use Rattle.chw_meaning.proofs.GivenOnce.{same_fields}
use Rattle.layout_laws.specs.LeavesAgree.{payloads, result_payloads, AreStreams, TakesStreams}

fields_along : {datas : List Data} {fs gs : List TypeTree} {σ : Substitution} {th : Thunk} {ms : List LeafOf} → fs ≡ gs → FieldLeaves datas fs σ th ms → FieldLeaves datas gs σ th ms
fields_along {datas} {σ = σ} {th = th} {ms = ms} e l = subst (λ fs. FieldLeaves datas fs σ th ms) e l

mutual
  pub leaves_agree : {datas : List Data} {t : TypeTree} {th : Thunk} {ls : List Leaf} {ms : List LeafOf} → Leaves datas t ls → PortLeaves datas t th ms → result_payloads ms ≡ payloads ls
  leaves_agree (one_leaf r) (leaf_signal q) = refl
  leaves_agree (leaves_of_fields {it = a} i many j k x) (leaves_product {it = b} l m n y) = all_agree x (fields_along (same_fields b a (same_some l i) m j n k) y)

  all_agree : {datas : List Data} {fs : List TypeTree} {σ : Substitution} {th : Thunk} {ls : List Leaf} {ms : List LeafOf} → LeavesOfAll datas fs σ ls → FieldLeaves datas fs σ th ms → result_payloads ms ≡ payloads ls
  all_agree no_leaves no_field_leaves = refl
  all_agree (leaves_and {ls = ls} {ms = ms} a b) (field_leaves {ls = ks} {ms = ns} x y) =
      map-append (λ (m : LeafOf). m.payload) ks ns ∙ (λ i. leaves_agree a x i ++ all_agree b y i) ∙ sym (map-append (λ (l : Leaf). l.payload) ls ms)

mutual
  pub leaves_there : {datas : List Data} {t : TypeTree} {ls : List Leaf} → Leaves datas t ls → (th : Thunk) → (ms : List LeafOf) × PortLeaves datas t th ms
  leaves_there (one_leaf {t = t} r) th = (leaf_of t th ∷ [], leaf_signal r)
  leaves_there (leaves_of_fields i many j k x) th = let more = all_there x th in (more.0, leaves_product i j k more.1)

  all_there : {datas : List Data} {fs : List TypeTree} {σ : Substitution} {ls : List Leaf} → LeavesOfAll datas fs σ ls → (th : Thunk) → (ms : List LeafOf) × FieldLeaves datas fs σ th ms
  all_there no_leaves th = ([], no_field_leaves)
  all_there (leaves_and {fs = fs} a b) th =
      let first = leaves_there a (field (length fs) th) in
      let rest = all_there b th in
      (first.0 ++ rest.0, field_leaves first.1 rest.1)

streams_beside : (datas : List Data) (ls ms : List Leaf) (xs ys : List (List Datum)) → AreStreams datas ls xs → AreStreams datas ms ys → AreStreams datas (ls ++ ms) (xs ++ ys)
streams_beside datas [] ms [] ys a b = b
streams_beside datas (l ∷ ls) ms (x ∷ xs) ys a b = (a.0, streams_beside datas ls ms xs ys a.1 b)
streams_beside datas [] ms (x ∷ xs) ys a b = absurd a
streams_beside datas (l ∷ ls) ms [] ys a b = absurd a

-- the inputs that two lists of streams are, one after the other
inputs_beside : (xs ys : List (List Datum)) (more : List Input) → map stream_in xs ++ (map stream_in ys ++ more) ≡ map stream_in (xs ++ ys) ++ more
inputs_beside xs ys more =
    sym (append_assoc (map stream_in xs) (map stream_in ys) more) ∙ ap (λ ins. ins ++ more) (sym (map-append stream_in xs ys))

takes_beside : {datas : List Data} {ls ms : List Leaf} {ins rest more : List Input} → TakesStreams datas ls ins rest → TakesStreams datas ms rest more → TakesStreams datas (ls ++ ms) ins more
takes_beside {datas} {ls} {ms} {more = more} a b =
    record {
      streams = a.streams ++ b.streams;
      are = a.are ∙ ap (λ ins. map stream_in a.streams ++ ins) b.are ∙ inputs_beside a.streams b.streams more;
      each = streams_beside datas ls ms a.streams b.streams a.each b.each;
    }

given_along : {datas : List Data} {fs gs : List TypeTree} {σ : Substitution} {on th : Thunk} {ins more : List Input} → fs ≡ gs → FieldsGiven datas fs σ on ins th more → FieldsGiven datas gs σ on ins th more
given_along {datas} {σ = σ} {on = on} {th = th} {ins = ins} {more = more} e g = subst (λ fs. FieldsGiven datas fs σ on ins th more) e g

mutual
  pub takes_streams : {datas : List Data} {t : TypeTree} {ls : List Leaf} {ins more : List Input} {th : Thunk} → Leaves datas t ls → PortGiven datas t ins th more → TakesStreams datas ls ins more
  takes_streams (one_leaf r) (given_stream {ds = ds} q v) = record { streams = ds ∷ []; are = refl; each = (v, tt) }
  takes_streams (leaves_of_fields {it = a} i many j k x) (given_product {it = b} l m n y) = all_take x (given_along (same_fields b a (same_some l i) m j n k) y)

  all_take : {datas : List Data} {fs : List TypeTree} {σ : Substitution} {ls : List Leaf} {on th : Thunk} {ins more : List Input} → LeavesOfAll datas fs σ ls → FieldsGiven datas fs σ on ins th more → TakesStreams datas ls ins more
  all_take no_leaves given_no_field = record { streams = []; are = refl; each = tt }
  all_take (leaves_and a b) (given_field x y) = takes_beside (takes_streams a x) (all_take b y)

pub as_many_streams : (datas : List Data) (ls : List Leaf) (streams : List (List Datum)) → AreStreams datas ls streams → length streams ≡ length ls
as_many_streams datas [] [] h = refl
as_many_streams datas (l ∷ ls) (ds ∷ streams) h = ap suc (as_many_streams datas ls streams h.1)
as_many_streams datas [] (ds ∷ streams) h = absurd h
as_many_streams datas (l ∷ ls) [] h = absurd h

-- the streams of the first leaves, and those of the others
record Parted (datas : List Data) (ls ms : List Leaf) (streams : List (List Datum)) : Type 0 where
  first : List (List Datum)
  rest : List (List Datum)
  are : streams ≡ first ++ rest
  of_first : AreStreams datas ls first
  of_rest : AreStreams datas ms rest

parted : (datas : List Data) (ls ms : List Leaf) (streams : List (List Datum)) → AreStreams datas (ls ++ ms) streams → Parted datas ls ms streams
parted datas [] ms streams h = record { first = []; rest = streams; are = refl; of_first = tt; of_rest = h }
parted datas (l ∷ ls) ms [] h = absurd h
parted datas (l ∷ ls) ms (ds ∷ streams) h =
    let p = parted datas ls ms streams h.1 in
    record { first = ds ∷ p.first; rest = p.rest; are = ap (λ xs. ds ∷ xs) p.are; of_first = (h.0, p.of_first); of_rest = p.of_rest }

mutual
  pub streams_give : {datas : List Data} {t : TypeTree} {ls : List Leaf} → Leaves datas t ls → (streams : List (List Datum)) (more : List Input) → AreStreams datas ls streams → (th : Thunk) × PortGiven datas t (map stream_in streams ++ more) th more
  streams_give (one_leaf r) [] more h = absurd h
  streams_give (one_leaf r) (ds ∷ []) more h = (stream ds, given_stream r h.0)
  streams_give (one_leaf r) (ds ∷ es ∷ streams) more h = absurd h.1
  streams_give {datas} (leaves_of_fields {d = d} {ts = ts} i many j k x) streams more h =
      let on = closed (at_types (con (first_constructor datas d)) ts) none no_types in
      let g = streams_give_all x on streams more h in
      (g.0, given_product i j k g.1)

  streams_give_all : {datas : List Data} {fs : List TypeTree} {σ : Substitution} {ls : List Leaf} → LeavesOfAll datas fs σ ls → (on : Thunk) (streams : List (List Datum)) (more : List Input) → AreStreams datas ls streams → (th : Thunk) × FieldsGiven datas fs σ on (map stream_in streams ++ more) th more
  streams_give_all no_leaves on [] more h = (on, given_no_field)
  streams_give_all no_leaves on (ds ∷ streams) more h = absurd h
  streams_give_all {datas} {σ = σ} (leaves_and {f = f} {fs = fs} {ls = ls} {ms = ms} a b) on streams more h =
      let p = parted datas ls ms streams h in
      let x = streams_give a p.first (map stream_in p.rest ++ more) p.of_first in
      let y = streams_give_all b (applied on x.0) p.rest more p.of_rest in
      let are = inputs_beside p.first p.rest more ∙ ap (λ xs. map stream_in xs ++ more) (sym p.are) in
      (y.0, subst (λ ins. FieldsGiven datas (f ∷ fs) σ on ins y.0 more) are (given_field x.1 y.1))

pub port_given : {datas : List Data} {t : TypeTree} {ls : List Leaf} {ins more : List Input} → Leaves datas t ls → TakesStreams datas ls ins more → (th : Thunk) × PortGiven datas t ins th more
port_given {datas} {t} {more = more} l s =
    let g = streams_give l s.streams more s.each in (g.0, subst (λ ins. PortGiven datas t ins g.0 more) (sym s.are) g.1)
