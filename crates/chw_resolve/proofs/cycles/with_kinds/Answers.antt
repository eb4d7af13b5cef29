use Rattle.std.proofs.Common.{◌≡◌, ◌∙◌, List, subst}
use Rattle.chw_terms.specs.References.{DataRefers, DefRefers}
use Rattle.chw_terms.specs.declared.program.Def.{Def}
use Rattle.chw_types.specs.declared.declarations.Data.{Data}
use Rattle.data_kinds.specs.Cycles.{IsCycleOf}
use Rattle.data_kinds.specs.Kinds.{SameButKinds}
use Rattle.chw_resolve.proofs.Found.{written, data_circle, def_circle, kinds_got}
use Rattle.chw_resolve.proofs.cycles.with_kinds.Goals as goal

pub returns-in-Some-clause-fault : goal.returns-in-Some-clause-fault
returns-in-Some-clause-fault c =
    let before : c.as_mut_slice.result.now ≡ c.args.program.datas = c.as_mut_slice.ensures.value ∙ c.into_vec-datas.ensures in
    let back : c.as_slice-in-Some.result.now ≡ c.find_kinds.new.datas = c.as_slice-in-Some.ensures.value
    ∙ written c.into_vec-datas.result.len c.into_vec-datas.result.items c.as_mut_slice.result.now c.find_kinds.new.datas c.into_vec-datas.result.ok.0 c.as_mut_slice.ensures.value c.find_kinds.auto.datas in
    let cycle = rw c.in-Some.is at c.in_ok-nodes.ensures.cycle in
    let least = rw c.in-Some.is at c.in_ok-nodes.ensures.least in
    let unset = rw c.in-Some.is at c.in_ok-nodes.ensures.unset in
    data_circle c.args.program.datas c.as_slice-in-Some.result.now c.args.program.defs c.as_slice-in-Some-2.result.now c.in-Some.nodes.items c.in_ok-names.names c.in_ok-names.ensures
    (back ∙ unset ∙ before) c.as_slice-in-Some-2.ensures.value (subst (λ (ds : List Data). IsCycleOf (DataRefers ds) c.in-Some.nodes.items) before cycle) least

pub returns-in-Some-2-clause-fault : goal.returns-in-Some-2-clause-fault
returns-in-Some-2-clause-fault c =
    let before : c.as_mut_slice.result.now ≡ c.args.program.datas = c.as_mut_slice.ensures.value ∙ c.into_vec-datas.ensures in
    let none = rw c.in_default.is at c.in_ok-nodes.ensures.no_cycle in
    let cycle = rw c.in-Some-2.is at c.in_ok-nodes-2.ensures.cycle in
    let least = rw c.in-Some-2.is at c.in_ok-nodes-2.ensures.least in
    def_circle c.args.program.datas c.find_kinds.new.datas c.args.program.defs c.as_slice-in-Some-2-2.result.now c.as_slice-in-Some-2-3.result.now c.in-Some-2.nodes.items c.in_ok-names-2.names
    c.in_ok-names-2.ensures c.as_slice-in-Some-2-2.ensures c.as_slice-in-Some-2-3.ensures.value
    (subst (λ (ds : List Data). SameButKinds ds c.find_kinds.new.datas) before c.find_kinds.ensures.same) none
    (subst (λ (ds : List Def). IsCycleOf (DefRefers ds) c.in-Some-2.nodes.items) c.as_slice-2.ensures cycle) least

pub returns-clause-ok : goal.returns-clause-ok
returns-clause-ok c =
    let before : c.as_mut_slice.result.now ≡ c.args.program.datas = c.as_mut_slice.ensures.value ∙ c.into_vec-datas.ensures in
    let back : c.from-datas.result ≡ c.find_kinds.new.datas = c.from-datas.ensures
    ∙ written c.into_vec-datas.result.len c.into_vec-datas.result.items c.as_mut_slice.result.now c.find_kinds.new.datas c.into_vec-datas.result.ok.0 c.as_mut_slice.ensures.value c.find_kinds.auto.datas in
    let kinds = rw c.in_default.is at c.in_ok-nodes.ensures.kinds in
    let data_acyclic = rw c.in_default.is at c.in_ok-nodes.ensures.no_cycle in
    let defs_acyclic = rw c.in_default-2.is at c.in_ok-nodes-2.ensures.no_cycle in
    kinds_got c.args.program c.as_mut_slice.result.now c.find_kinds.new.datas c.from-datas.result c.as_slice.result.now c.as_slice-2.result.now before back c.as_slice.ensures c.as_slice-2.ensures
    c.find_kinds.ensures.same kinds data_acyclic defs_acyclic
