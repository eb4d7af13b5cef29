-- Circles of data types that are the same but for their kinds.
use Rattle.std.proofs.Common.{◌≡◌, ℕ, List, [], ◌∷◌, map, refl, sym, ap, ◌∙◌, subst}
use Rattle.chw_types.specs.declared.kind.Kind.TheVariants.{Val}
use Rattle.chw_types.specs.declared.declarations.Data.{Data}
use Rattle.chw_terms.specs.declared.program.Def.{Def}
use Rattle.chw_terms.specs.References.{DataRefers}
use Rattle.graph_order.specs.References.{Leads, step, step_and, HasNoCycle}
use Rattle.chw_resolve.specs.Faults.{IsCircle, of_datas, of_defs, data_name, def_name, names_at}
use Rattle.chw_resolve.specs.declared.fault.NameFault.{NameFault}
use Rattle.chw_resolve.specs.declared.fault.NameFault.TheVariants.{DataCycle, DefCycle}
use Rattle.data_kinds.specs.Cycles.{IsCycleOf}
use Rattle.data_kinds.specs.Kinds.{of_kind, SameButKinds}
use Rattle.data_kinds.proofs.Settling.{references_stay}
use Rattle.chw_resolve.specs.Programs.{without_kind}

-- steps that are taken along with each other lead along with each other
leads_carried : {Step Step' : ℕ → ℕ → Type 0} → ((a b : ℕ) → Step a b → Step' a b) → {a b : ℕ} → Leads Step a b → Leads Step' a b
leads_carried f (step {a} {b} s) = step (f a b s)
leads_carried f (step_and {a} {b} {c} s more) = step_and (f a b s) (leads_carried f more)

pub no_cycle_carried : (datas datas' : List Data) → SameButKinds datas datas' → HasNoCycle (DataRefers datas) → HasNoCycle (DataRefers datas')
no_cycle_carried datas datas' same none a l = none a (leads_carried (λ from to. references_stay datas' datas from to (sym same)) l)

cycle_carried : (datas datas' : List Data) (cycle : List ℕ) → SameButKinds datas datas' → IsCycleOf (DataRefers datas) cycle → IsCycleOf (DataRefers datas') cycle
cycle_carried datas datas' cycle same c = record {
  some = c.some;
  once = c.once;
  next = λ i l. references_stay datas datas' _ _ same (c.next i l);
  closes = λ i e. references_stay datas datas' _ _ same (c.closes i e);
}

kind_once : (datas : List Data) → map (of_kind Val) (map without_kind datas) ≡ map (of_kind Val) datas
kind_once [] = refl
kind_once (it ∷ its) = ap (λ (l : List Data). of_kind Val it ∷ l) (kind_once its)

names_kept : (datas : List Data) → map data_name (map without_kind datas) ≡ map data_name datas
names_kept [] = refl
names_kept (it ∷ its) = ap (λ (l : List (List ℕ)). it.name ∷ l) (names_kept its)

pub same_but_kinds : (datas bare : List Data) → map without_kind datas ≡ bare → SameButKinds datas bare
same_but_kinds datas bare same = ap (map (of_kind Val)) (sym same) ∙ kind_once datas

-- a circle of a program is one of its data types without their kinds
pub circle_carried : (datas bare : List Data) (defs defs' : List Def) {fault : NameFault} → map without_kind datas ≡ bare → defs ≡ defs' → IsCircle datas defs fault → IsCircle bare defs' fault
circle_carried datas bare defs defs' same same' (of_datas cycle c least) =
    let names : map data_name bare ≡ map data_name datas = ap (map data_name) (sym same) ∙ names_kept datas in
    subst (λ (ns : List (List ℕ)). IsCircle bare defs' (DataCycle (names_at ns cycle))) names
    (of_datas cycle (cycle_carried datas bare cycle (same_but_kinds datas bare same) c) least)
circle_carried datas bare defs defs' same same' (of_defs cycle none c least) =
    subst (λ (ds : List Def). IsCircle bare ds (DefCycle (names_at (map def_name defs) cycle))) same'
    (of_defs cycle (no_cycle_carried datas bare (same_but_kinds datas bare same) none) c least)
