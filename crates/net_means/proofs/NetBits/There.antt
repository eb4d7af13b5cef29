-- Each variable of a block that stands has a thunk.
use Rattle.std.proofs.Common.{List, Some, [], ap, arith, length, refl, reverse, subst, suc, zero, ℕ, ◌++◌, ◌+◌, ◌-◌, ◌<◌, ◌∙◌, ◌∷◌, ◌≡◌}
use Rattle.std.proofs.lemmas.List.{length-map}
use Rattle.std.specs.Prelude.{slice_get}
use Rattle.net_grounds.specs.Facts.{Facts}
use Rattle.net_means.specs.CircuitBits.Instances.{Block, BlockAt, Design, Inside, InstanceAt, NoLambda, Parameters, a_call, a_lift, an_alternative, no_parameter, parameter_and, the_body, the_top, unseen_alternative}
use Rattle.chw_types.specs.declared.declarations.Data.{Data}
use Rattle.chw_terms.specs.TermTree.{Group, TermTree, made, var}
use Rattle.net_means.proofs.NetBits.Forms.{GroupFormed, inside_formed}
use Rattle.net_built.specs.Data.{HaveWidths, variables_from}
use Rattle.chw_meaning.specs.Values.{History, Thunk, Thunks, closed, count_of, fields_from, joined, member, none, sample, thunk_and, thunk_at}
use Rattle.chw_terms.specs.declared.scene.Made.{Made}
use Rattle.net_means.proofs.NetBits.Insides.{Place, Within, from_outside, of_binding, outer_place, own_place, place_of, within}
use Rattle.chw_typing.specs.SpineLaws.{PrimAtArguments}
use Rattle.layout_laws.specs.SameLayout.{SameKeepsMeasure}
use Rattle.chw_terms.specs.declared.scene.Sort.{Sort}
use Rattle.chw_types.specs.TypeTree.{TypeTree, no_types}
use Rattle.net_built.specs.Terms.{Variable}
use Rattle.net_means.proofs.NetBits.Standing.{block_plain, declared_there, formed}
use Rattle.net_means.proofs.NetBits.Params.{call_given, function_of}
use Rattle.carrying.specs.TermLaws.{each_closed, onto, under_lambdas}
use Rattle.net_means.proofs.NetBits.Lifts.{lift_given}
use Rattle.net_means.proofs.NetBits.Sorts.{lifted_sort}
use Rattle.net_means.proofs.SideBits.Heads.{names}
use Rattle.normal_forms.specs.Values.{on_names}
use Rattle.net_means.specs.CircuitBits.Uses.{samples}
use Rattle.net_built.specs.Wires.{wire_count}
use Rattle.rewriting.specs.Origins.{with_origins_group}

abbrev pub HasThunk : Thunks → ℕ → Type 0
HasThunk γ x = (th : Thunk) × (thunk_at γ x ≡ Some th)

pub found_at : {A : Type 0} (xs : List A) (j : ℕ) → j < length xs → (x : A) × (slice_get xs j ≡ Some x)
found_at [] j l = absurd (omega (arith, l))
found_at (x ∷ xs) zero l = (x, refl)
found_at (x ∷ xs) (suc j) l = found_at xs j (omega (arith, l))

thunk_there : (ths : Thunks) (z : ℕ) → z < count_of ths → HasThunk ths z
thunk_there none z l = absurd (omega (arith, l))
thunk_there (thunk_and th ths) zero l = (th, refl)
thunk_there (thunk_and th ths) (suc z) l = thunk_there ths z (omega (arith, l))

onto_there : Facts → (xs : List Thunk) (γ : Thunks) (z : ℕ) → z < length xs → HasThunk (onto xs γ) z
onto_there facts xs γ z l =
    let j : ℕ = length xs - suc z in
    let at = found_at xs j (omega (arith, l)) in
    (at.0, facts.environments.parameter_variables xs γ z j at.0 at.1 (omega (arith, l)))

pub found_within : {A : Type 0} (xs : List A) (j : ℕ) (x : A) → slice_get xs j ≡ Some x → j < length xs
found_within [] j x e = absurd cc
found_within (y ∷ xs) zero x e = omega arith
found_within (y ∷ xs) (suc j) x e = let l = found_within xs j x e in omega (arith, l)

pub variables_count : (datas : List Data) (ts : List TypeTree) (ws : List ℕ) (n : ℕ) → HaveWidths datas ts ws → length (variables_from n ts ws) ≡ length ts
variables_count datas [] [] n h = refl
variables_count datas [] (w ∷ ws) n h = absurd h
variables_count datas (t ∷ ts) [] n h = absurd h
variables_count datas (t ∷ ts) (w ∷ ws) n h = ap suc (variables_count datas ts ws (n + wire_count (w ∷ [])) h.1)

pub params_count : {datas : List Data} {sort : Sort} {n : ℕ} {params : List TypeTree} {scope all : List Variable} → Parameters datas sort n params scope all → length all ≡ length params + length scope
params_count no_parameter = omega arith
params_count (parameter_and {ts = ts} {scope = scope} parts more) = let rest = params_count more in omega (arith, rest)

pub fields_count : (k i : ℕ) (th : Thunk) → count_of (fields_from i k th none) ≡ k
fields_count zero i th = refl
fields_count (suc k) i th = ap suc (fields_count k (suc i) th)

-- the inputs of the top have thunks
abbrev pub TopThere : Design → List Thunk → Type 0
TopThere d inputs =
    (it : Made) (params : List TypeTree) (e : TermTree) (scope : List Variable) → slice_get d.state zero ≡ Some it → it.body ≡ under_lambdas params e → NoLambda e → Parameters d.program.datas it.sort zero params [] scope
    → (z : ℕ) (v : Variable) → slice_get scope z ≡ Some v → HasThunk (onto inputs none) z

module _ (facts : Facts) (law : SameKeepsMeasure) (prims : PrimAtArguments) (d : Design) (inputs : List Thunk) (top : TopThere d inputs) where
  -- a used instance has a thunk for each parameter
  called_there : {path : List ℕ} {h : History} {m : ℕ} {γ : Thunks} (it : Made) (params : List TypeTree) (e : TermTree) (scope : List Variable) → InstanceAt d inputs path h m γ → slice_get d.state m ≡ Some it → it.body ≡ under_lambdas params e → NoLambda e → Parameters d.program.datas it.sort zero params [] scope
      → (z : ℕ) (v : Variable) → slice_get scope z ≡ Some v → HasThunk γ z
  called_there it params e scope the_top known is plain parameters z v at = top it params e scope known is plain parameters z v at
  called_there {m = m} it params e scope (a_call {b = b} {g = g} {scope = outer} {γ = γ} i xs block inside body module_there used) known is plain parameters z v at =
      let f = function_of facts law d m it params e known is plain in
      let t = declared_there g i (on_names (made m) [] xs) body in
      let c = call_given facts d b.sort g outer i m xs it params t.0 f (inside_formed facts law d inside (formed facts law d block)) body t.1 known in
      let ths = each_closed (names xs) γ no_types in
      let one : length (names xs) ≡ length xs = length-map xs (λ x. var x) in
      let two : length ths ≡ length (names xs) = length-map (names xs) (λ e. closed e γ no_types) in
      let size = params_count parameters in
      let many = c.count in
      let l = found_within scope z v at in
      onto_there facts ths γ z (omega (arith, one, two, size, many, l))
  called_there {h = h} {m = m} it params e scope (a_lift {b = b} {g = g} {scope = outer} {γ = γ} {e = lifted_term} i xs block inside body lifted module_there used) known is plain parameters z v at =
      let f = function_of facts law d m it params e known is plain in
      let t = declared_there g i lifted_term body in
      let group = inside_formed facts law d inside (formed facts law d block) in
      let sorts = lifted_sort d b.sort g outer i m lifted_term (names xs) it group body lifted known in
      let c = lift_given facts prims d g outer i m lifted_term xs it params t.0 f (subst (λ sort. GroupFormed d sort g outer) sorts.0 group) body t.1 lifted known in
      let ths = each_closed (names xs) γ no_types in
      let one : length (names xs) ≡ length xs = length-map xs (λ x. var x) in
      let two : length ths ≡ length (names xs) = length-map (names xs) (λ e. closed e γ no_types) in
      let three : length (samples ths h) ≡ length ths = length-map ths (λ th. sample th h) in
      let size = params_count parameters in
      let many = c.count in
      let l = found_within scope z v at in
      onto_there facts (samples ths h) γ z (omega (arith, one, two, three, size, many, l))

  -- behind the fields of an alternative come the variables around it
  behind_fields : (m : ℕ) (fields : List TypeTree) (widths : List ℕ) (ths γ : Thunks) (scope : List Variable) → HaveWidths d.program.datas fields widths → count_of ths ≡ length fields → ((z : ℕ) (v : Variable) → slice_get scope z ≡ Some v → HasThunk γ z)
      → (z : ℕ) (v : Variable) → slice_get (reverse (variables_from m fields widths) ++ scope) z ≡ Some v → HasThunk (joined ths γ) z
  behind_fields m fields widths ths γ scope have many rest z v at = by (place_of (variables_from m fields widths) scope z v at)
    where
      count : length (variables_from m fields widths) ≡ length fields
      count = variables_count d.program.datas fields widths m have

      by : Place (variables_from m fields widths) scope z v → HasThunk (joined ths γ) z
      by (own_place i place is) =
          let l : z < count_of ths = omega (arith, place, count, many) in
          let own = thunk_there ths z l in
          (own.0, facts.environments.bound_variables ths γ z l ∙ own.1)
      by (outer_place y place is) =
          let outer = rest y v is in
          let there : z ≡ count_of ths + y = omega (arith, place, count, many) in
          (outer.0, ap (thunk_at (joined ths γ)) there ∙ facts.environments.outside_alternative ths γ y ∙ outer.1)

  through : {path : List ℕ} {b : Block} {g : Group} {scope : List Variable} {γ : Thunks} → Inside d path b g scope γ → ((z : ℕ) (v : Variable) → slice_get b.scope z ≡ Some v → HasThunk b.outside z) → (x : ℕ) (v : Variable) → slice_get scope x ≡ Some v → HasThunk γ x
  through {path} {b} {g} {scope} {γ} inside outer x v at = by (within facts d path inside x v at)
    where
      by : Within d path b g scope γ x v → HasThunk γ x
      by (of_binding i place binding env there) = (member (with_origins_group d.wholes g) i b.outside no_types, there)
      by (from_outside z place is same) = let o = outer z v is in (o.0, same ∙ o.1)

  pub block_there : {path : List ℕ} {h : History} {b : Block} → BlockAt d inputs path h b → (z : ℕ) (v : Variable) → slice_get b.scope z ≡ Some v → HasThunk b.outside z
  block_there (the_body {it = it} {params = params} {e = e} {scope = scope} at known is parameters block) z v e' = called_there it params e scope at known is (block_plain facts law d block.built) parameters z v e'
  block_there (an_alternative {scope = scope} {γ = γ} {ths = ths} {m = m} {fields = fields} {widths = widths} i at inside is f known first block) z v e =
      behind_fields m fields widths ths γ scope f.sizes f.many (through inside (block_there at)) z v e
  block_there (unseen_alternative {scope = scope} {γ = γ} {x = x} {fields = fields} i n m widths at inside is unseen known wide pattern have cells block) z v e =
      behind_fields m fields widths (fields_from zero (length fields) (closed (var x) γ no_types) none) γ scope have (fields_count (length fields) zero (closed (var x) γ no_types)) (through inside (block_there at)) z v e

  pub inside_there : {path : List ℕ} {h : History} {b : Block} {g : Group} {scope : List Variable} {γ : Thunks} → BlockAt d inputs path h b → Inside d path b g scope γ → (x : ℕ) (v : Variable) → slice_get scope x ≡ Some v → HasThunk γ x
  inside_there at inside = through inside (block_there at)
