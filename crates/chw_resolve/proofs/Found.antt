-- What the search for kinds and circles tells of a program.
use Rattle.std.proofs.Common.{◌≡◌, ℕ, List, ◌++◌, length, map, take, drop, refl, sym, ap, ◌∙◌, subst, arith}
use Rattle.std.proofs.lemmas.List.{append-nil, drop_all, take_all}
use Rattle.chw_resolve.specs.Faults.{IsCircle, of_datas, of_defs, data_name, def_name, names_at}
use Rattle.chw_resolve.specs.Kinds.{GetsKinds}
use Rattle.chw_resolve.specs.declared.fault.NameFault.TheVariants.{DataCycle, DefCycle}
use Rattle.chw_resolve.proofs.Carried.{no_cycle_carried}
use Rattle.chw_terms.specs.References.{DataRefers, DefRefers}
use Rattle.graph_order.specs.References.{HasNoCycle}
use Rattle.chw_terms.specs.declared.program.Def.{Def}
use Rattle.chw_terms.specs.declared.program.Program.{Program}
use Rattle.chw_types.specs.declared.declarations.Data.{Data}
use Rattle.data_kinds.specs.Cycles.{IsCycleOf}
use Rattle.data_kinds.specs.Kinds.{HaveTheirKinds, SameButKinds}
use Rattle.graph_order.specs.Orders.{LeastFirst}

-- what stands in a vector whose items were all written
pub written : {X : Type 0} (n : ℕ) (xs before ys : List X) → n ≡ length xs → before ≡ xs → length ys ≡ length before → take n (ys ++ drop (length ys) xs) ≡ ys
written {X} n xs before ys count same kept =
    let size : length before ≡ length xs = ap length same in
    ap (λ (l : List X). take n (ys ++ l)) (drop_all (length ys) xs (omega (arith, kept, size))) ∙ ap (take n) (append-nil ys) ∙ take_all n ys (omega (arith, count, kept, size))

pub data_circle : (datas now : List Data) (defs : List Def) (places nodes : List ℕ) (names : List (List ℕ)) → names ≡ names_at (map data_name now) places → now ≡ datas → places ≡ nodes
    → IsCycleOf (DataRefers datas) nodes → LeastFirst nodes → IsCircle datas defs (DataCycle names)
data_circle datas now defs places nodes names told same at cycle least =
    let names_are : names ≡ names_at (map data_name datas) nodes = told ∙ (λ i. names_at (map data_name (same i)) (at i)) in
    subst (λ (ns : List (List ℕ)). IsCircle datas defs (DataCycle ns)) (sym names_are) (of_datas nodes cycle least)

pub def_circle : (datas found : List Data) (defs now : List Def) (places nodes : List ℕ) (names : List (List ℕ)) → names ≡ names_at (map def_name now) places → now ≡ defs → places ≡ nodes
    → SameButKinds datas found → HasNoCycle (DataRefers found) → IsCycleOf (DefRefers defs) nodes → LeastFirst nodes → IsCircle datas defs (DefCycle names)
def_circle datas found defs now places nodes names told same at kinds none cycle least =
    let names_are : names ≡ names_at (map def_name defs) nodes = told ∙ (λ i. names_at (map def_name (same i)) (at i)) in
    subst (λ (ns : List (List ℕ)). IsCircle datas defs (DefCycle ns)) (sym names_are) (of_defs nodes (no_cycle_carried found datas (sym kinds) none) cycle least)

pub kinds_got : (p : Program) (before found after : List Data) (domains : List (List ℕ)) (defs : List Def) → before ≡ p.datas → after ≡ found → domains ≡ p.domains → defs ≡ p.defs
    → SameButKinds before found → HaveTheirKinds found (length domains) → HasNoCycle (DataRefers found) → HasNoCycle (DefRefers defs)
    → GetsKinds p (record { domains = p.domains; resets = p.resets; datas = after; defs = p.defs; top = p.top })
kinds_got p before found after domains defs was is domains_are defs_are same kinds data_acyclic defs_acyclic = record {
  domains = refl;
  resets = refl;
  datas = subst (SameButKinds p.datas) (sym is) (subst (λ (ds : List Data). SameButKinds ds found) was same);
  defs = refl;
  top = refl;
  kinds = subst (λ (ds : List Data). HaveTheirKinds ds (length p.domains)) (sym is) (subst (λ (ns : List (List ℕ)). HaveTheirKinds found (length ns)) domains_are kinds);
  data_acyclic = subst (λ (ds : List Data). HasNoCycle (DataRefers ds)) (sym is) data_acyclic;
  defs_acyclic = subst (λ (ds : List Def). HasNoCycle (DefRefers ds)) defs_are defs_acyclic;
}
